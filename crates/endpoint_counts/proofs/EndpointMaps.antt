-- Counts by endpoint: the index of the places keeps step with the entries.
use Rattle.std.proofs.Common.{◌≡◌, ℕ, suc, zero, ◌+◌, ◌<◌, ◌≤◌, List, [], ◌∷◌, length, Bool, true, false, cond, eqb, leb, Option, Some, None, refl, sym, ap, ◌∙◌, subst, arith}
use Rattle.std.specs.List.{AllByRecursion}
use Rattle.std.specs.Option.{is_some, option_map}
use Rattle.std.proofs.lemmas.Bool.{eqb-true, leb-true, leb-false}
use Rattle.coap_endpoint.specs.declared.endpoint.Endpoint.{Endpoint}
use Rattle.coap_endpoint.specs.Endpoint.{same_endpoint}
use Rattle.coap_endpoint.proofs.Equality.{Tells-endpoint}
use Rattle.endpoint_counts.specs.declared.endpoints.EndpointCounts.{EndpointCounts}
use Rattle.endpoint_counts.specs.declared.slots.Entry.{Entry}
use Rattle.endpoint_counts.specs.Digests.{digest_of_endpoint}
use Rattle.endpoint_counts.specs.IndexOf.{key_at, HasRekeyed, IsIndexOf}
use Rattle.endpoint_counts.specs.Slots.{entry_key, found, is_entry_of, AreDistinct, AreSome}
use Rattle.coap_pending.specs.Table.{Numbered, Table, IsTable, admitted_to, changed_at, first_that, item_at, withdrawn}
use Rattle.ordered_index.specs.Ordered.{OrderedIndex, is_in, is_key}
use Rattle.coap_pending.proofs.Changes.{changed_at-is}
use Rattle.coap_pending.proofs.Counts.{count-length}
use Rattle.endpoint_counts.proofs.Indexing.{changed-at, changed-others, has-passed, moves-admitted, moves-changed, moves-withdrawn, push-at, push-others, withdrawn-gone}
use Rattle.coap_pending.proofs.Tables.{withdrawn-others, admitted-is, item_at-fresh, none-least, withdrawn-is, withdrawn-limit}
use Rattle.endpoint_counts.proofs.Slotting.{distinct-less, distinct-more, distinct-set, first-there, found-less, found-more, found-set, some-less, some-set}

-- nothing has a number that wasn't given yet
none-above : (most n : ℕ) (xs : List (Numbered Entry)) → AllByRecursion (λ x. x.0 ≤ most) xs → most < n → item_at n xs ≡ None
none-above most n [] all lt = refl
none-above most n (x ∷ xs) all lt = go (eqb n x.0) refl (none-above most n xs all.1 lt)
  where
    go : (b : Bool) → eqb n x.0 ≡ b → item_at n xs ≡ None → cond b (Some x.1) (item_at n xs) ≡ None
    go true e rest = absurd (let same = eqb-true n x.0 e in let le = all.0 in omega arith)
    go false e rest = rest

-- what is there has one of the numbers given
pub within-given : (t : Table Entry) (n : ℕ) (x : Entry) → IsTable t → item_at n t.items ≡ Some x → (0 < n) × (n ≤ t.admitted)
within-given t n x is e = (positive n e, most n e)
  where
    positive : (m : ℕ) → item_at m t.items ≡ Some x → 0 < m
    positive zero f = absurd (let none = none-least 0 0 t.items (omega arith) is.rising in cc)
    positive (suc m) f = omega arith

    most : (m : ℕ) → item_at m t.items ≡ Some x → m ≤ t.admitted
    most m f = go (leb m t.admitted) refl
      where
        go : (b : Bool) → leb m t.admitted ≡ b → m ≤ t.admitted
        go true g = leb-true m t.admitted g
        go false g = absurd (let none = none-above t.admitted m t.items is.below (leb-false m t.admitted g) in cc)

module _ (t : Table Entry) (is : IsTable t) (places : OrderedIndex) (index : IsIndexOf entry_key t.items t.limit places) (distinct : AreDistinct t.items) (at : Endpoint) where
  -- the index has no more pairs than there are entries
  pub few-pairs : length places.pairs ≤ length t.items
  few-pairs = let many = count-length (λ a. is_some (entry_key a)) t.items in let len = index.length in omega arith

  -- the key of the endpoint's entry
  key-there : (n : ℕ) (x : Entry) → item_at n t.items ≡ Some x → is_entry_of at x ≡ true → key_at entry_key (item_at n t.items) ≡ Some (digest_of_endpoint at)
  key-there n x e on = ap (key_at entry_key) e ∙ ap (λ (z : Endpoint). Some (digest_of_endpoint z)) (Tells-endpoint.only x.peer at on)

  -- another entry comes where one was
  module _ (n : ℕ) (first : first_that (is_entry_of at) t.items ≡ Some n) where
    -- it is the endpoint's
    abbrev the : (x : Entry) × (item_at n t.items ≡ Some x) × (is_entry_of at x ≡ true) × (found at t.items ≡ Some x.counts)
    the = first-there at t.items n is.rising first

    pub owns : (o : ℕ) → is_in (o, n) places.pairs ≡ eqb o (digest_of_endpoint at)
    owns o = index.members o n ∙ ap (λ (k : Option ℕ). is_key o k) (key-there n the.0 the.1 the.2)

    pub given : (0 < n) × (n ≤ t.admitted)
    given = within-given t n the.0 is the.1

    -- so there are entries
    pub are-some : t.items ≡ [] → ⊥
    are-some none = let at : item_at n [] ≡ Some the.0 = subst (λ (l : List (Numbered Entry)). item_at n l ≡ Some the.0) none the.1 in cc

    -- another stands in its place
    abbrev pub changed : Entry → Table Entry
    changed e = record t { items = changed_at n (λ x. e) t.items }

    changed-here : (e : Entry) → item_at n (changed e).items ≡ Some e
    changed-here e = changed-at n (λ x. e) t.items ∙ ap (option_map (λ x. e)) the.1

    -- the counts of the endpoint are set
    pub map-set : (counts : EndpointCounts) → 0 < counts.all → AreSome t.items → let e : Entry = record { peer = at; counts = counts } in IsIndexOf entry_key (changed_at n (λ x. e) t.items) t.limit places × AreDistinct (changed_at n (λ x. e) t.items) × IsTable (record t { items = changed_at n (λ x. e) t.items }) × AreSome (changed_at n (λ x. e) t.items) × ((q : Endpoint) → found q (changed_at n (λ x. e) t.items) ≡ cond (same_endpoint at q) (Some counts) (found q t.items))
    map-set counts some are =
        let e : Entry = record { peer = at; counts = counts } in
        let whole = changed_at-is n (λ x. e) t is in
        let there = the in
        let same : key_at entry_key (item_at n t.items) ≡ key_at entry_key (item_at n (changed e).items) = key-there n there.0 there.1 there.2 ∙ sym (ap (key_at entry_key) (changed-here e)) in
        let kept : HasRekeyed places places n (key_at entry_key (item_at n t.items)) (key_at entry_key (item_at n (changed e).items)) = subst (λ (k : Option ℕ). HasRekeyed places places n (key_at entry_key (item_at n t.items)) k) same (stays n) in
        let others : (q : ℕ) → eqb q n ≡ false → item_at q (changed e).items ≡ item_at q t.items = λ q f. changed-others n q (λ x. e) t.items f in (
          has-passed entry_key n t.limit t.items (changed e).items places places (moves-changed n (λ x. e) t is) index kept,
          distinct-set at t.items (changed e).items is.rising whole.rising distinct n there.0 counts there.1 there.2 (changed-here e) others,
          whole,
          some-set n t.items (changed e).items e some (changed-here e) others are,
          found-set at t.items (changed e).items is.rising whole.rising distinct n there.0 counts there.1 there.2 (changed-here e) others,
        )
      where
        stays : (m : ℕ) → HasRekeyed places places m (key_at entry_key (item_at m t.items)) (key_at entry_key (item_at m t.items))
        stays m = record { limit = refl; seed = refl; length = refl; rekeyed = λ o q. go o q (eqb q m) refl }
          where
            go : (o q : ℕ) (b : Bool) → eqb q m ≡ b → is_in (o, q) places.pairs ≡ cond b (is_key o (key_at entry_key (item_at m t.items))) (is_in (o, q) places.pairs)
            go o q true f = subst (λ (k : ℕ). is_in (o, k) places.pairs ≡ is_key o (key_at entry_key (item_at m t.items))) (sym (eqb-true q m f)) (index.members o m)
            go o q false f = refl

    -- the entry goes, and the last comes into its place
    module _ (moved : Entry) (end : item_at t.admitted t.items ≡ Some moved) (mid new : OrderedIndex) (one : HasRekeyed places mid n (Some (digest_of_endpoint at)) (Some (digest_of_endpoint moved.peer))) (two : HasRekeyed mid new t.admitted (Some (digest_of_endpoint moved.peer)) None) where
      whole : IsTable (changed moved)
      whole = changed_at-is n (λ x. moved) t is

      -- the last has its own key before and after
      last-key : key_at entry_key (item_at t.admitted (changed moved).items) ≡ Some (digest_of_endpoint moved.peer)
      last-key = go (eqb t.admitted n) refl
        where
          go : (b : Bool) → eqb t.admitted n ≡ b → key_at entry_key (item_at t.admitted (changed moved).items) ≡ Some (digest_of_endpoint moved.peer)
          go true f = ap (key_at entry_key) (subst (λ (k : ℕ). item_at k (changed moved).items ≡ Some moved) (sym (eqb-true t.admitted n f)) (changed-here moved))
          go false f = ap (key_at entry_key) (changed-others n t.admitted (λ x. moved) t.items f ∙ end)

      middle : IsIndexOf entry_key (changed moved).items t.limit mid
      middle = has-passed entry_key n t.limit t.items (changed moved).items places mid (moves-changed n (λ x. moved) t is) index (rw (key-there n the.0 the.1 the.2, ap (key_at entry_key) (changed-here moved)) one)

      pub map-less : AreSome t.items → IsIndexOf entry_key (withdrawn (changed moved)).items (withdrawn (changed moved)).limit new × AreDistinct (withdrawn (changed moved)).items × IsTable (withdrawn (changed moved)) × AreSome (withdrawn (changed moved)).items × ((q : Endpoint) → found q (withdrawn (changed moved)).items ≡ cond (same_endpoint at q) None (found q t.items))
      map-less are =
          let last = withdrawn-is (changed moved) whole in
          let gone = withdrawn-gone (changed moved) in
          let none : key_at entry_key (item_at t.admitted (withdrawn (changed moved)).items) ≡ None = ap (key_at entry_key) gone in
          let there = the in
          let now : eqb n t.admitted ≡ false → item_at n (withdrawn (changed moved)).items ≡ Some moved = λ f. withdrawn-others (changed moved) n f ∙ changed-here moved in
          let others : (q : ℕ) → eqb q n ≡ false → eqb q t.admitted ≡ false → item_at q (withdrawn (changed moved)).items ≡ item_at q t.items = λ q f g. withdrawn-others (changed moved) q g ∙ changed-others n q (λ x. moved) t.items f in (
            subst (λ (l : ℕ). IsIndexOf entry_key (withdrawn (changed moved)).items l new) (sym (withdrawn-limit (changed moved))) (has-passed entry_key t.admitted t.limit (changed moved).items (withdrawn (changed moved)).items mid new (moves-withdrawn (changed moved) whole) middle (rw (last-key, none) two)),
            distinct-less at t.items (withdrawn (changed moved)).items is.rising last.rising distinct n t.admitted there.0 moved there.1 there.2 end gone now others,
            last,
            some-less at t.items (withdrawn (changed moved)).items is.rising last.rising distinct n t.admitted there.0 moved there.1 there.2 end gone now others are,
            found-less at t.items (withdrawn (changed moved)).items is.rising last.rising distinct n t.admitted there.0 moved there.1 there.2 end gone now others,
          )

  -- an entry comes
  pub map-more : (counts : EndpointCounts) (new : OrderedIndex) → found at t.items ≡ None → length t.items < t.limit → HasRekeyed places new (t.admitted + 1) None (Some (digest_of_endpoint at)) → 0 < counts.all → AreSome t.items → let e : Entry = record { peer = at; counts = counts } in IsIndexOf entry_key (admitted_to e t).items t.limit new × AreDistinct (admitted_to e t).items × IsTable (admitted_to e t) × AreSome (admitted_to e t).items × ((q : Endpoint) → found q (admitted_to e t).items ≡ cond (same_endpoint at q) (Some counts) (found q t.items))
  map-more counts new none room has some are =
      let e : Entry = record { peer = at; counts = counts } in
      let whole = admitted-is t e is room in
      let fresh = item_at-fresh t is in
      let here : item_at (t.admitted + 1) (admitted_to e t).items ≡ Some e = push-at (t.admitted + 1) t.items e fresh in
      let others : (q : ℕ) → eqb q (t.admitted + 1) ≡ false → item_at q (admitted_to e t).items ≡ item_at q t.items = λ q f. push-others (t.admitted + 1) q t.items e f in
      let was : key_at entry_key (item_at (t.admitted + 1) t.items) ≡ None = ap (key_at entry_key) fresh in
      let is_now : key_at entry_key (item_at (t.admitted + 1) (admitted_to e t).items) ≡ Some (digest_of_endpoint at) = ap (key_at entry_key) here in (
        has-passed entry_key (t.admitted + 1) t.limit t.items (admitted_to e t).items places new (moves-admitted t e is) index (rw (was, is_now) has),
        distinct-more at t.items (admitted_to e t).items is.rising whole.rising distinct (t.admitted + 1) counts fresh none here others,
        whole,
        some-set (t.admitted + 1) t.items (admitted_to e t).items e some here others are,
        found-more at t.items (admitted_to e t).items is.rising whole.rising distinct (t.admitted + 1) counts fresh none here others,
      )

  -- nothing had the number of the place that it comes to
  pub fresh-place : (o : ℕ) → is_in (o, t.admitted + 1) places.pairs ≡ false
  fresh-place o = index.members o (t.admitted + 1) ∙ ap (λ (k : Option Entry). is_key o (key_at entry_key k)) (item_at-fresh t is)
