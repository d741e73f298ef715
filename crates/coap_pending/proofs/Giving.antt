-- The ids that are given: each is the one after the one before, and two within 247,000 ms differ.
use Rattle.std.proofs.Common.{◌≡◌, ◌≢◌, inl, inr, ⊎_elim, ℕ, ◌+◌, ◌-◌, ◌/◌, ◌%◌, ◌^◌, ◌<◌, ◌≤◌, List, [], ◌∷◌, length, Bool, true, false, None, Some, cond, eqb, refl, sym, ap, ◌∙◌, subst, arith}
use Rattle.std.specs.Prelude.{◌⊎◌}
use Rattle.std.specs.List.{AllByRecursion}
use Rattle.std.proofs.lemmas.Bool.{eqb-true, eqb-false, eq-eqb, ne_eqb}
use Rattle.coap_pending.specs.declared.ids.Ids.{Ids}
use Rattle.coap_pending.specs.Ids.{window, given_in, left_of, next_of, called, after_calls, Given, with_given, given_by, count_in, AreInOrder, AreApart, AreCounted}

-- one where the test passes
abbrev one_if : Bool → ℕ
one_if b = cond b 1 0

-- no id was given after this moment
abbrev AreUpTo : ℕ → List Given → Type 0
AreUpTo now given = AllByRecursion (λ g. g.at ≤ now) given

-- nor after one that was given later
abbrev AreByAge : List Given → Type 0
AreByAge [] = Unit {0}
AreByAge (g ∷ before) = AreUpTo g.at before × AreByAge before

-- the list begins somewhere in the other
abbrev IsTail : List Given → List Given → Type 0
IsTail ys [] = ⊥
IsTail ys (x ∷ xs) = (ys ≡ x ∷ xs) ⊎ IsTail ys xs

-- what holds at each place holds of all
all-places : (P : Given → Type 0) (xs : List Given) → ((b : Given) (rest : List Given) → IsTail (b ∷ rest) xs → P b) → AllByRecursion P xs
all-places P [] h = tt
all-places P (x ∷ xs) h = (h x xs (inl refl), all-places P xs (λ b rest i. h b rest (inr i)))

-- equal lists have equal heads
head-same : (x y : Given) (xs ys : List Given) → x ∷ xs ≡ y ∷ ys → x ≡ y
head-same x y xs ys e = cc

-- and equal tails
tail-same : (x y : Given) (xs ys : List Given) → x ∷ xs ≡ y ∷ ys → xs ≡ ys
tail-same x y xs ys e = cc

-- an id of the list was given by that moment
at-place : (now : ℕ) (b : Given) (rest xs : List Given) → AreUpTo now xs → IsTail (b ∷ rest) xs → b.at ≤ now
at-place now b rest [] up i = absurd i
at-place now b rest (x ∷ xs) up i = ⊎_elim
    (λ (e : b ∷ rest ≡ x ∷ xs). subst (λ (g : Given). g.at ≤ now) (sym (head-same b x rest xs e)) up.0)
    (λ (j : IsTail (b ∷ rest) xs). at-place now b rest xs up.1 j)
    i

-- what follows is shorter
shorter : (b : Given) (rest xs : List Given) → IsTail (b ∷ rest) xs → length rest + 1 ≤ length xs
shorter b rest [] i = absurd i
shorter b rest (x ∷ xs) i = ⊎_elim
    (λ (e : b ∷ rest ≡ x ∷ xs). let same = ap (λ (l : List Given). length l) (tail-same b x rest xs e) in omega arith)
    (λ (j : IsTail (b ∷ rest) xs). let le = shorter b rest xs j in omega arith)
    i

-- each id is the first plus the number of those before
id-at : (first : ℕ) (b : Given) (rest xs : List Given) → AreCounted first xs → IsTail (b ∷ rest) xs → b.id ≡ (first + length rest) % 65536
id-at first b rest [] all i = absurd i
id-at first b rest (x ∷ xs) all i = ⊎_elim
    (λ (e : b ∷ rest ≡ x ∷ xs).
    ap (λ (g : Given). g.id) (head-same b x rest xs e) ∙ all.0 ∙ ap (λ (l : List Given). (first + length l) % 65536) (sym (tail-same b x rest xs e)))
    (λ (j : IsTail (b ∷ rest) xs). id-at first b rest xs all.1 j)
    i

-- from a place on, all ids are of its window and of the next
since-place : (b : Given) (rest xs : List Given) (v : ℕ) → AreByAge xs → IsTail (b ∷ rest) xs → v ≡ b.at / 247000 → AllByRecursion (λ g. g.at / 247000 ≤ v + 1) xs
    → length xs ≤ length rest + count_in v xs + count_in (v + 1) xs
since-place b rest [] v order i is below = absurd i
since-place b rest (x ∷ xs) v order i is below = ⊎_elim
    (λ (e : b ∷ rest ≡ x ∷ xs).
    let same = ap (λ (l : List Given). length l) (tail-same b x rest xs e) in
    let moment : b.at ≡ x.at = ap (λ (g : Given). g.at) (head-same b x rest xs e) in
    let one : one_if (eqb (window x.at) v) ≡ 1 = rw (eq-eqb (window x.at) v (omega arith)) refl in
    omega arith)
    (λ (j : IsTail (b ∷ rest) xs).
    let le = at-place x.at b rest xs order.0 j in
    let more = since-place b rest xs v order.1 j is below.1 in
    let up = below.0 in
    let all = go more (eqb (window x.at) v) refl (omega arith) up in
    omega (arith, all))
    i
  where
    go : length xs ≤ length rest + count_in v xs + count_in (v + 1) xs → (c : Bool) → eqb (window x.at) v ≡ c → v ≤ x.at / 247000 → x.at / 247000 ≤ v + 1
        → length xs + 1 ≤ length rest + (one_if c + count_in v xs) + (one_if (eqb (window x.at) (v + 1)) + count_in (v + 1) xs)
    go more true t above up = omega arith
    go more false t above up =
        let other = eqb-false (window x.at) v t in
        let one : one_if (eqb (window x.at) (v + 1)) ≡ 1 = rw (eq-eqb (window x.at) (v + 1) (omega arith)) refl in
        omega arith

-- what calls leave, whose last moment was not after this one
record Keeps (first now : ℕ) (given : List Given) (ids : Ids) : Type 0 where
  following : first < 65536 → ids.following ≡ (first + length given) % 65536
  until : AreUpTo now given
  by_age : AreByAge given
  in_window : ids.window ≤ now / 247000
  count : ids.given ≡ count_in ids.window given
  later : (w : ℕ) → ids.window < w → count_in w given ≡ 0
  windows : (w : ℕ) → count_in w given ≤ 32768
  counted : first < 65536 → AreCounted first given
  apart : first < 65536 → AreApart given

-- what was given by a moment was given by a later one
up-to-more : (now later : ℕ) (given : List Given) → now ≤ later → AreUpTo now given → AreUpTo later given
up-to-more now later [] le up = tt
up-to-more now later (g ∷ given) le up = (let at = up.0 in omega arith, up-to-more now later given le up.1)

-- what the window of a moment has given
given-in : (first last now : ℕ) (given : List Given) (ids : Ids) → Keeps first last given ids → last ≤ now → given_in now ids ≡ count_in (window now) given
given-in first last now given ids k le = go (eqb ids.window (window now)) refl
  where
    go : (b : Bool) → eqb ids.window (window now) ≡ b → cond b ids.given 0 ≡ count_in (window now) given
    go true t = k.count ∙ ap (λ (w : ℕ). count_in w given) (eqb-true ids.window (window now) t)
    go false t =
        let other = eqb-false ids.window (window now) t in
        let within = k.in_window in
        sym (k.later (window now) (omega arith))

-- the id of a call isn't that of one before, too soon
apart-next : (first now id : ℕ) (given : List Given) → first < 65536 → AreUpTo now given → AreByAge given → AreCounted first given
    → id ≡ (first + length given) % 65536 → ((w : ℕ) → count_in w (record { at = now; id = id } ∷ given) ≤ 32768)
    → AllByRecursion (λ b. now < b.at + 247000 → id ≢ b.id) given
apart-next first now id given low up order counted is windows = all-places (λ b. now < b.at + 247000 → id ≢ b.id) given
    (λ b rest i. λ soon same.
    let old = id-at first b rest given counted i in
    let short = shorter b rest given i in
    let le = at-place now b rest given up i in
    let new : Given = record { at = now; id = id } in
    let order2 : AreByAge (new ∷ given) = (up, order) in
    let many = since-place b rest (new ∷ given) (b.at / 247000) order2 (inr i) refl (omega arith, near b.at given (omega arith) up) in
    let a = windows (b.at / 247000) in
    let c = windows (b.at / 247000 + 1) in
    absurd (omega arith))
  where
    near : (m : ℕ) (xs : List Given) → now / 247000 ≤ m / 247000 + 1 → AreUpTo now xs → AllByRecursion (λ g. g.at / 247000 ≤ m / 247000 + 1) xs
    near m [] le u = tt
    near m (x ∷ xs) le u = (let at = u.0 in omega arith, near m xs le u.1)

-- a call keeps what is known
keeps-next : (first last now : ℕ) (given : List Given) (ids : Ids) → Keeps first last given ids → last ≤ now → Keeps first now (with_given now (next_of now ids) given) (called now ids)
keeps-next first last now given ids k le = go (eqb (left_of now ids) 0) refl
  where
    go : (b : Bool) → eqb (left_of now ids) 0 ≡ b
        → Keeps first now (with_given now (cond b None (Some ids.following)) given) (cond b ids (record { following = (ids.following + 1) % 65536; window = window now; given = given_in now ids + 1 }))
    go true t = record {
      following = k.following;
      until = up-to-more last now given le k.until;
      by_age = k.by_age;
      in_window = (let w = k.in_window in omega arith);
      count = k.count;
      later = k.later;
      windows = k.windows;
      counted = k.counted;
      apart = k.apart;
    }
    go false t =
        let up = up-to-more last now given le k.until in
        let was = given-in first last now given ids k le in
        let some = eqb-false (left_of now ids) 0 t in
        let inside = k.in_window in
        let here : one_if (eqb (window now) (window now)) ≡ 1 = rw (eq-eqb (window now) (window now) refl) refl in
        let windows : (w : ℕ) → one_if (eqb (window now) w) + count_in w given ≤ 32768 = λ w. in_one w (eqb (window now) w) refl (let h = k.windows w in h) was (omega arith) in
        record {
          following = λ low. let f = k.following low in omega arith;
          until = (omega arith, up);
          by_age = (up, k.by_age);
          in_window = omega arith;
          count = omega arith;
          later = λ w above. (let none = k.later w (omega arith) in let other : one_if (eqb (window now) w) ≡ 0 = rw (ne_eqb (window now) w (λ e. omega arith)) refl in omega arith);
          windows = windows;
          counted = λ low. (k.following low, k.counted low);
          apart = λ low. (apart-next first now ids.following given low up k.by_age (k.counted low) (k.following low) windows, k.apart low);
        }
      where
        in_one : (w : ℕ) (b : Bool) → eqb (window now) w ≡ b → count_in w given ≤ 32768 → given_in now ids ≡ count_in (window now) given → given_in now ids < 32768 → one_if b + count_in w given ≤ 32768
        in_one w true e old same few = let f : count_in (window now) given ≡ count_in w given = ap (λ (v : ℕ). count_in v given) (eqb-true (window now) w e) in omega arith
        in_one w false e old same few = omega arith

-- the last of some moments
abbrev last_of : List ℕ → ℕ
last_of [] = 0
last_of (m ∷ before) = m

-- none is after the last
up-to-last : (m : ℕ) (before : List ℕ) → AllByRecursion (λ n. n ≤ m) before → last_of before ≤ m
up-to-last m [] up = let z : 0 ≤ m = omega arith in z
up-to-last m (n ∷ before) up = up.0

-- so it is kept over all calls
keeps : (first : ℕ) (moments : List ℕ) → AreInOrder moments → Keeps first (last_of moments) (given_by first moments) (after_calls first moments)
keeps first [] order = record {
  following = λ low. omega arith;
  until = tt;
  by_age = tt;
  in_window = omega arith;
  count = refl;
  later = λ w above. refl;
  windows = λ w. omega arith;
  counted = λ low. tt;
  apart = λ low. tt;
}
keeps first (now ∷ before) order = keeps-next first (last_of before) now (given_by first before) (after_calls first before) (keeps first before order.1) (up-to-last now before order.0)

-- ids that are given close together differ
pub ids-apart : (first : ℕ) (moments : List ℕ) → first < 2 ^ 16 → AreInOrder moments → AreApart (given_by first moments)
ids-apart first moments low order = (keeps first moments order).apart (omega arith)

-- what is left is what the window hasn't given
pub ids-left : (first now : ℕ) (moments : List ℕ) → AreInOrder moments → AllByRecursion (λ m. m ≤ now) moments → left_of now (after_calls first moments) ≡ 32768 - count_in (window now) (given_by first moments)
ids-left first now moments order up = ap (λ (n : ℕ). 32768 - n) (given-in first (last_of moments) now (given_by first moments) (after_calls first moments) (keeps first moments order) (up-to-last now moments up))

-- the count doesn't need the order of moments
counted-after : (first : ℕ) (moments : List ℕ) → first < 65536 → ((after_calls first moments).following ≡ (first + length (given_by first moments)) % 65536) × AreCounted first (given_by first moments)
counted-after first [] low = (omega arith, tt)
counted-after first (now ∷ before) low =
    let rest = counted-after first before low in
    go (after_calls first before) (given_by first before) rest.0 rest.1 (eqb (left_of now (after_calls first before)) 0)
  where
    go : (ids : Ids) (given : List Given) → ids.following ≡ (first + length given) % 65536 → AreCounted first given → (b : Bool)
        → ((cond b ids (record { following = (ids.following + 1) % 65536; window = window now; given = given_in now ids + 1 })).following ≡ (first + length (with_given now (cond b None (Some ids.following)) given)) % 65536)
        × AreCounted first (with_given now (cond b None (Some ids.following)) given)
    go ids given f all true = (f, all)
    go ids given f all false = (omega arith, (f, all))

-- ids count up from the first
pub ids-counted : (first : ℕ) (moments : List ℕ) → first < 2 ^ 16 → AreCounted first (given_by first moments)
ids-counted first moments low = (counted-after first moments (omega arith)).1
