-- The bytes that a proxy holds are within the bound.
use Rattle.std.proofs.Common.{◌≡◌, ℕ, ◌+◌, ◌*◌, ◌/◌, ◌≤◌, Bool, true, false, cond, leb, ltb, List, [], ◌∷◌, ◌++◌, map, length, eqb, Option, Some, None, refl, sym, ap, ◌∙◌, subst, arith}
use Rattle.std.specs.Prelude.{◌&&◌, ◌||◌, ◌==◌, not, filter, is_some, option_map, IfSome}
use Rattle.std.specs.List.{AllByRecursion, sum_by}
use Rattle.std.proofs.lemmas.Bool.{eqb-true, le-leb, leb-true, ltb-true, and_parts}
use Rattle.std.proofs.Math.Nat.{add-mul}
use Rattle.std.proofs.lemmas.Nat.{mul-le}
use Rattle.std.proofs.lemmas.List.Elements.{All-from_recursion}
use Rattle.std.proofs.lemmas.List.Sums.{sum_by-le}
use Rattle.coap_message.specs.declared.options.Opt.{Opt}
use Rattle.coap_message.specs.Message.{Message}
use Rattle.coap_message.specs.Pieces.{pieces_spelling}
use Rattle.coap_message.specs.Spelling.{spelling, options_spelling, more_length, options_length}
use Rattle.coap_message.proofs.PieceSpellings.{pieces-length}
use Rattle.coap_message.proofs.Spellings.{options-length, spelled_once, spelling-length}
use Rattle.coap_endpoint.specs.declared.target.Target.{Target}
use Rattle.coap_store.specs.declared.key.CacheKey.{CacheKey}
use Rattle.coap_endpoint.proofs.Lists.{All-weaken}
use Rattle.coap_pending.specs.declared.exchange.ExchangeState.{ExchangeState}
use Rattle.coap_pending.specs.declared.exchange.ExchangeState.TheVariants.{Queued, Sent, Acked, Done}
use Rattle.coap_pending.specs.declared.exchange.Exchange.{Exchange}
use Rattle.coap_pending.specs.declared.waiter.Waiter.{Waiter}
use Rattle.coap_pending.specs.declared.waiter.WaiterState.{WaiterState}
use Rattle.coap_pending.specs.declared.waiter.WaiterState.TheVariants.{Waiting, Delivering}
use Rattle.coap_pending.specs.Table.{Numbered}
use Rattle.coap_model.specs.Setting.{Setting}
use Rattle.coap_message.specs.Options.{AreOptions, option_of}
use Rattle.coap_option.specs.declared.side.Side.{Side}
use Rattle.coap_option.specs.declared.side.Side.TheVariants.{Request, Response}
use Rattle.coap_option.specs.Places.{PlacedOption, places_behind, count_of, is_recognised_at}
use Rattle.coap_option.specs.Recognition.{is_recognised}
use Rattle.coap_option.specs.Selection.{sent_on, is_of}
use Rattle.coap_option.specs.Screening.{first_refused}
use Rattle.coap_option.specs.Side.{side_of}
use Rattle.coap_target.specs.Routes.{AreRoutes}
use Rattle.coap_forward.specs.Forms.{is_used_up, host_options, port_options, scheme_options, target_options, put_in, merged, tagged, forwarded, tag_for}
use Rattle.coap_model.specs.Keys.{request_key}
use Rattle.coap_model.specs.Cached.{kept_for}
use Rattle.coap_store.specs.declared.stored.Stored.{Stored}
use Rattle.coap_model.specs.State.{State}
use Rattle.coap_model.specs.History.{Action}
use Rattle.coap_model.specs.Carries.{form_id, copy_for, IsState, IsExchangeOf, IsWaiterIn, IsWaiterOf, Bears}
use Rattle.coap_endpoint.specs.Target.{IsShort, IsTarget}
use Rattle.coap_forward.proofs.Forms.{AreUnused, IsTag, filter-put_in, in_key, short-tag, sent-unused, tagged-options, tagged-unused, AreOptions-merged, target-options, sent-options, with_id-forwarded, length-with_id}
use Rattle.coap_forward.proofs.Tagging.{tag_for-is, tag_for-other}
use Rattle.coap_forward.specs.Messages.{is_get, token_of}
use Rattle.coap_store.proofs.Picked.{AreOptions-weaken}
use Rattle.coap_model.proofs.Keys.{beside-kept, key-among, said-kept, unused-beside}
use Rattle.coap_model.proofs.Verdicts.{IsAskable, askable}
use Rattle.coap_model.proofs.OptionLengths.{IsOfTarget, host, path, query, of-target, filter-length, plain_length, small-numbers, says_here, says-small, both-apart}
use Rattle.coap_model.proofs.ShownResponses.{IsHoldable, holdable-short}
use Rattle.coap_model.proofs.Endings.{kept-holdable, cache-holdable, ending-holdable}
use Rattle.coap_store.specs.Entries.{entry_size}
use Rattle.coap_store.specs.Lists.{total}
use Rattle.coap_dedup.specs.Lists.{bytes_of}
use Rattle.coap_dedup.proofs.Passing.{bytes-bounded}
use Rattle.coap_model.proofs.Stores.{store-within}
use Rattle.coap_model.specs.Held.{host_bytes, target_bytes, key_bytes, response_bytes, copy_bytes, state_bytes, exchange_bytes, answer_bytes, waiter_bytes, held, most_held}

-- ---- a target takes no more bytes than its options

-- a short piece takes no more bytes for its length than its option does
short-length : (n : ℕ) → n ≤ 255 → n / 255 ≤ more_length n
short-length n le = go (ltb n 13) refl (ltb n 269) refl
  where
    go : (p : Bool) → ltb n 13 ≡ p → (q : Bool) → ltb n 269 ≡ q → n / 255 ≤ cond p 0 (cond q 1 2)
    go true e q f = omega (arith, ltb-true _ _ e)
    go false e true f = omega arith
    go false e false f = omega arith

-- pieces take no more bytes than the options with these values
pieces-short : (before number : ℕ) (values : List (List ℕ)) (os : List Opt) (n : ℕ) → AllByRecursion IsShort values → ((low : ℕ) → n ≤ options_length low os) → length (pieces_spelling values) + n ≤ options_length before (map (option_of number) values ++ os)
pieces-short before number [] os n are more = omega (arith, more before)
pieces-short before number (v ∷ values) os n are more =
    omega (arith, pieces-short number number values os n are.1 more, pieces-length v values, short-length (length v) are.0)

-- the part of a target that counts, without its port
abbrev here : Target → Target
here t = record t { port = None }

-- it takes no more bytes than its options
target-short : (before : ℕ) (t : Target) → IsTarget t → target_bytes t ≤ options_length before (target_options (here t))
unfolding target_options
target-short before t is = go t.host
  where
    query : (low : ℕ) → length (pieces_spelling t.query) ≤ options_length low (map (option_of 15) t.query ++ [])
    query low = omega (arith, pieces-short low 15 t.query [] 0 is.query (λ _. omega arith))

    path : (low : ℕ) → length (pieces_spelling t.path) + length (pieces_spelling t.query) ≤ options_length low (map (option_of 11) t.path ++ (map (option_of 15) t.query ++ []))
    path low = pieces-short low 11 t.path (map (option_of 15) t.query ++ []) (length (pieces_spelling t.query)) is.path query

    go : (host : Option (List ℕ)) → host_bytes host + (length (pieces_spelling t.path) + length (pieces_spelling t.query)) ≤ options_length before (host_options host ++ (map (option_of 11) t.path ++ (map (option_of 15) t.query ++ [])))
    go None = omega (arith, path before)
    go (Some h) = omega (arith, path 3)

-- its options have the numbers that count
all-here : (t : Target) → AllByRecursion (λ o. says_here o.number ≡ true) (target_options (here t))
unfolding target_options
all-here t = host t.host
  where
    values : (number : ℕ) → says_here number ≡ true → (vs : List (List ℕ)) (os : List Opt) → AllByRecursion (λ o. says_here o.number ≡ true) os → AllByRecursion (λ o. says_here o.number ≡ true) (map (option_of number) vs ++ os)
    values number says [] os rest = rest
    values number says (v ∷ vs) os rest = (says, values number says vs os rest)

    path : AllByRecursion (λ o. says_here o.number ≡ true) (map (option_of 11) t.path ++ (map (option_of 15) t.query ++ []))
    path = values 11 refl t.path (map (option_of 15) t.query ++ []) (values 15 refl t.query [] tt)

    host : (h : Option (List ℕ)) → AllByRecursion (λ o. says_here o.number ≡ true) (host_options h ++ (map (option_of 11) t.path ++ (map (option_of 15) t.query ++ [])))
    host None = path
    host (Some h) = (refl, path)

-- these numbers are used up
of : {n : ℕ} → IsOfTarget n → is_used_up n ≡ true
of host = refl
of path = refl
of query = refl

here-used : (number : ℕ) → says_here number ≡ true → is_used_up number ≡ true
here-used number says = of (of-target number says)

-- so the part of a target that counts, and the other options, take little more than a request that
-- has both
here-short : (t : Target) (others : List Opt) → IsTarget t → AreOptions 0 others → AreUnused others → target_bytes t + options_length 0 others ≤ options_length 0 (merged (target_options (here t)) others) + 4
here-short t others is are none =
    let os = target_options (here t) in
    let ordered = target-options (here t) (record { host = is.host; port = tt; path = is.path; query = is.query }) in
    let whole : List Opt = merged os others in
    let in_order = AreOptions-merged 0 os others ordered are in
    let small = All-weaken (λ o. says_here o.number ≡ true) (λ o. o.number ≤ 15) os (λ o says. says-small o.number says) (all-here t) in
    let said = small-numbers 0 os ordered small in
    omega (arith, target-short 0 t is, said, both-apart whole in_order, ap (options_length 0) (beside-kept says_here here-used os others (all-here t) none), ap plain_length (said-kept says_here here-used os others ordered (all-here t) none))

-- ---- the port and the scheme take room too

-- an option of another number is left where it was
abbrev stays_here : Opt → Bool
stays_here o = not ((o.number == 7) || (o.number == 39))

-- what stays of options with one more is what stays of them, with it
filter-put_in-in_order : (keep : Opt → Bool) (o : Opt) (low : ℕ) (os : List Opt) → AreOptions low os → keep o ≡ true → filter keep (put_in o os) ≡ put_in o (filter keep os)
filter-put_in-in_order keep o low [] are kept = rw kept refl
filter-put_in-in_order keep o low (p ∷ ps) are kept = go (leb o.number p.number) refl (keep p) refl (filter-put_in-in_order keep o p.number ps are.3 kept)
  where
    -- it stands in front of those that don't have lower numbers
    front : (above : ℕ) (rest : List Opt) → o.number ≤ above → AreOptions above rest → put_in o (filter keep rest) ≡ o ∷ filter keep rest
    front above [] le are' = refl
    front above (q ∷ rest) le are' = pick (keep q) (front q.number rest (omega (arith, le, are'.0)) are'.3)
      where
        pick : (k : Bool) → put_in o (filter keep rest) ≡ o ∷ filter keep rest → put_in o (cond k (q ∷ filter keep rest) (filter keep rest)) ≡ o ∷ cond k (q ∷ filter keep rest) (filter keep rest)
        pick true more = rw (le-leb o.number q.number (omega (arith, le, are'.0))) refl
        pick false more = more

    go : (b : Bool) → leb o.number p.number ≡ b → (k : Bool) → keep p ≡ k → filter keep (put_in o ps) ≡ put_in o (filter keep ps) → filter keep (cond b (o ∷ p ∷ ps) (p ∷ put_in o ps)) ≡ put_in o (cond k (p ∷ filter keep ps) (filter keep ps))
    go true e true f rest = rw (kept, f, e) refl
    go true e false f rest = rw (kept, f) (sym (front p.number ps (leb-true o.number p.number e) are.3))
    go false e true f rest = rw (f, e) (ap (λ (l : List Opt). p ∷ l) rest)
    go false e false f rest = rw f rest

-- what stays of two merged lists is what stays of both, merged
filter-both : (keep : Opt → Bool) (low : ℕ) (os others : List Opt) → AreOptions low os → AreOptions low others → filter keep (merged os others) ≡ merged (filter keep os) (filter keep others)
filter-both keep low [] others are rest = refl
filter-both keep low (o ∷ os) others are rest = go (keep o) refl (filter-both keep low os others (AreOptions-weaken low o.number os are.0 are.3) rest)
  where
    go : (k : Bool) → keep o ≡ k → filter keep (merged os others) ≡ merged (filter keep os) (filter keep others) → filter keep (put_in o (merged os others)) ≡ merged (cond k (o ∷ filter keep os) (filter keep os)) (filter keep others)
    go true e more = filter-put_in-in_order keep o low (merged os others) (AreOptions-merged low os others (AreOptions-weaken low o.number os are.0 are.3) rest) e ∙ ap (put_in o) more
    go false e more = filter-put_in keep o (merged os others) e ∙ more

-- of a target's options those of the part that counts stay
target-stays : (t : Target) → filter stays_here (target_options t) ≡ target_options (here t)
unfolding target_options
target-stays t = host t.host
  where
    values : (number : ℕ) → stays_here (option_of number []) ≡ true → (vs : List (List ℕ)) (os : List Opt) → filter stays_here (map (option_of number) vs ++ os) ≡ map (option_of number) vs ++ filter stays_here os
    values number stays [] os = refl
    values number stays (v ∷ vs) os = rw stays (ap (λ (l : List Opt). option_of number v ∷ l) (values number stays vs os))

    scheme : (port : Option ℕ) → filter stays_here (scheme_options port) ≡ []
    scheme None = refl
    scheme (Some n) = refl

    path : filter stays_here (map (option_of 11) t.path ++ (map (option_of 15) t.query ++ scheme_options t.port)) ≡ map (option_of 11) t.path ++ (map (option_of 15) t.query ++ [])
    path =
        values 11 refl t.path (map (option_of 15) t.query ++ scheme_options t.port)
        ∙ ap (λ (l : List Opt). map (option_of 11) t.path ++ l) (values 15 refl t.query (scheme_options t.port) ∙ ap (λ (l : List Opt). map (option_of 15) t.query ++ l) (scheme t.port))

    port : (of : Option ℕ) → filter stays_here (port_options of ++ (map (option_of 11) t.path ++ (map (option_of 15) t.query ++ scheme_options t.port))) ≡ map (option_of 11) t.path ++ (map (option_of 15) t.query ++ [])
    port None = path
    port (Some n) = path

    host : (of : Option (List ℕ)) → filter stays_here (host_options of ++ (port_options t.port ++ (map (option_of 11) t.path ++ (map (option_of 15) t.query ++ scheme_options t.port)))) ≡ host_options of ++ (map (option_of 11) t.path ++ (map (option_of 15) t.query ++ []))
    host None = port t.port
    host (Some h) = ap (λ (l : List Opt). option_of 3 h ∷ l) (port t.port)

-- and so do all that aren't used up
unused-stay : (os : List Opt) → AreUnused os → filter stays_here os ≡ os
unused-stay os none = unused-beside (λ n. (n == 7) || (n == 39)) used os none
  where
    used : (number : ℕ) → ((number == 7) || (number == 39)) ≡ true → is_used_up number ≡ true
    used number says = go (eqb number 7) refl (eqb number 39) refl says
      where
        go : (a : Bool) → eqb number 7 ≡ a → (b : Bool) → eqb number 39 ≡ b → (a || b) ≡ true → is_used_up number ≡ true
        go true e b f s = subst (λ (k : ℕ). is_used_up k ≡ true) (sym (eqb-true number 7 e)) refl
        go false e true f s = subst (λ (k : ℕ). is_used_up k ≡ true) (sym (eqb-true number 39 f)) refl
        go false e false f s = absurd cc

-- so a target and the other options take little more than the request that has both
both-short : (t : Target) (others : List Opt) → IsTarget t → AreOptions 0 others → AreUnused others → target_bytes t + options_length 0 others ≤ options_length 0 (merged (target_options t) others) + 4
both-short t others is are none =
    let os = target_options t in
    let ordered = target-options t is in
    let stay : filter stays_here (merged os others) ≡ merged (target_options (here t)) others =
    filter-both stays_here 0 os others ordered are ∙ ap (λ (l : List Opt). merged l (filter stays_here others)) (target-stays t) ∙ ap (merged (target_options (here t))) (unused-stay others none)
    in
    let fewer = filter-length stays_here 0 (merged os others) (AreOptions-merged 0 os others ordered are) in
    omega (arith, here-short t others is are none, fewer, ap (options_length 0) stay)

-- ---- the key takes no more bytes than the form

-- the options of the key are among those that are forwarded
key-held : (form most : ℕ) (token : List ℕ) (t : Target) (tag : Option (List ℕ)) (m : Message) (key : CacheKey) → key ≡ request_key t m → IsTarget t → AreOptions 0 m.options → first_refused Request m.options ≡ None → IfSome tag IsTag → (is_get m.code ≡ false → tag ≡ None) → form ≡ length (spelling (forwarded token t tag m 0)) → form ≤ most → key_bytes key ≤ most + 4
key-held form most token t tag m key key_is is options screened tag_is other form_is short =
    let others : List Opt = tagged tag (sent_on m) in
    let are = tagged-options tag (sent_on m) (short-tag tag tag_is) (sent-options m options screened) in
    let none = tagged-unused tag (sent_on m) (sent-unused m screened) in
    let target : target_bytes key.target ≡ target_bytes t = ap (λ (k : CacheKey). target_bytes k.target) key_is in
    let spelled : length (options_spelling 0 key.options) ≡ options_length 0 (filter (in_key m.code) others) = ap (λ (k : CacheKey). length (options_spelling 0 k.options)) key_is ∙ ap (λ (os : List Opt). length (options_spelling 0 os)) (key-among tag m screened tag_is other) ∙ options-length 0 (filter (in_key m.code) others) in
    omega (arith, target, spelled, filter-length (in_key m.code) 0 others are, both-short t others is are none, spelling-length (forwarded token t tag m 0), form_is, short)

-- ---- a response takes no more bytes than a datagram

-- the response of an answer does
holdable-held : (most : ℕ) (m : Message) → IsHoldable most m → response_bytes m ≤ most
holdable-held most m is = omega (arith, options-length 0 m.options, holdable-short most m is)

-- so does a copy, if its response was kept
copy-held : (most : ℕ) (copy : Option Stored) (o : Option Message) → option_map (λ s. s.response) copy ≡ o → IfSome o (IsHoldable most) → copy_bytes copy ≤ most
copy-held most None o e holdable = omega arith
copy-held most (Some s) None e holdable = absurd cc
copy-held most (Some s) (Some r) e holdable = let same : s.response ≡ r = cc in holdable-held most s.response (subst (IsHoldable most) (sym same) holdable)

-- ---- tags take no more bytes than the request

-- a tag is short
tag-short : (side : Side) (p : PlacedOption) → is_of side 4 p ≡ true → length p.option.value ≤ 8
tag-short side p e =
    let parts = and_parts (p.option.number == 4) (is_recognised_at side p) e in
    go side (subst (λ (n : ℕ). is_recognised side n (length p.option.value) p.before ≡ true) (eqb-true p.option.number 4 parts.0) parts.1)
  where
    go : (s : Side) → is_recognised s 4 (length p.option.value) p.before ≡ true → length p.option.value ≤ 8
    go Request f = leb-true _ _ (and_parts (leb 1 (length p.option.value)) (leb (length p.option.value) 8) (and_parts (leb 1 (length p.option.value) && leb (length p.option.value) 8) true f).0).1
    go Response f = leb-true _ _ (and_parts (leb 1 (length p.option.value)) (leb (length p.option.value) 8) (and_parts (leb 1 (length p.option.value) && leb (length p.option.value) 8) (p.before == 0) f).0).1

-- so tags take no more bytes than the options
tags-held : (side : Side) (low : ℕ) (passed os : List Opt) → length (pieces_spelling (map (λ p. p.option.value) (filter (is_of side 4) (places_behind passed os)))) ≤ options_length low os
tags-held side low passed [] = omega arith
tags-held side low passed (o ∷ os) = go (is_of side 4 (record { option = o; before = count_of o.number passed })) refl (tags-held side o.number (passed ++ o ∷ []) os)
  where
    rest : List (List ℕ)
    rest = map (λ p. p.option.value) (filter (is_of side 4) (places_behind (passed ++ o ∷ []) os))

    go : (b : Bool) → is_of side 4 (record { option = o; before = count_of o.number passed }) ≡ b → length (pieces_spelling rest) ≤ options_length o.number os
        → length (pieces_spelling (map (λ p. p.option.value) (cond b (record { option = o; before = count_of o.number passed } ∷ filter (is_of side 4) (places_behind (passed ++ o ∷ []) os)) (filter (is_of side 4) (places_behind (passed ++ o ∷ []) os))))) ≤ options_length low (o ∷ os)
    go true e more = omega (arith, more, pieces-length o.value rest, tag-short side (record { option = o; before = count_of o.number passed }) e)
    go false e more = omega (arith, more)

-- ---- each element, and all of them

-- what an exchange holds is within its share of the bound
exchange-held : (setting : Setting) (history : List Action) → AreRoutes setting.routes → (x : Numbered Exchange) → IsExchangeOf setting history x → exchange_bytes x ≤ 4 * setting.limits.datagram + 256
exchange-held setting history routes x f = go x.1.state f.state
  where
    most : ℕ
    most = setting.limits.datagram

    request : Message
    request = f.opened.request

    kept : Option Message
    kept = kept_for x.1.key f.former

    tag : Option (List ℕ)
    tag = tag_for most x.1.key.target request kept

    may : IsAskable setting.routes request x.1.key
    may = askable setting.routes request routes x.1.key f.verdict

    key : key_bytes x.1.key ≤ most + 4
    key =
        let token = token_of setting.salt x.0 in
        let id = form_id x.1.sending in
        let same : length x.1.form ≡ length (spelling (forwarded token x.1.key.target tag request 0)) = ap length (f.form_is ∙ sym (with_id-forwarded id token x.1.key.target tag request)) ∙ length-with_id id (spelling (forwarded token x.1.key.target tag request 0)) in
        key-held (length x.1.form) most token x.1.key.target tag request x.1.key may.key_is may.sound f.opened.asked.brings.spells.message.options may.screened (tag_for-is most x.1.key.target request kept) (tag_for-other most x.1.key.target request kept) same f.form_short

    copy : copy_bytes x.1.copy ≤ most
    copy = copy-held most x.1.copy (copy_for most x.1.key.target request kept) f.copy_is (given (is_some tag))
      where
        given : (b : Bool) → IfSome (cond b kept None) (IsHoldable most)
        given true = kept-holdable setting x.1.key f.former (cache-holdable setting f.opened.opening.before f.former f.was_cache)
        given false = tt

    go : (s : ExchangeState) → IsState setting history x s → length x.1.form + key_bytes x.1.key + copy_bytes x.1.copy + state_bytes s ≤ 4 * setting.limits.datagram + 256
    go Queued state = omega (arith, key, copy, f.form_short)
    go Sent state = omega (arith, key, copy, f.form_short)
    go Acked state = omega (arith, key, copy, f.form_short)
    go (Done a) state = omega (arith, key, copy, f.form_short, holdable-held most a.message (ending-holdable setting x.0 x.1.key state.ending a state.with))

-- what a waiter holds is within its share
waiter-held : (setting : Setting) (history : List Action) (v : Numbered Waiter) → IsWaiterOf setting history v → waiter_bytes v ≤ setting.limits.datagram + 256
waiter-held setting history v f = go v.1.state refl f
  where
    go : (s : WaiterState) → v.1.state ≡ s → IsWaiterIn setting history v s → waiter_bytes v ≤ setting.limits.datagram + 256
    go (Waiting exchange) is g =
        let m = g.admitted.request in
        let none : answer_bytes v.1.state ≡ 0 = ap answer_bytes is in
        let b = g.admitted.asked.brings in
        let tags : length (pieces_spelling v.1.tags) ≤ options_length 0 m.options = rw g.tags_are (tags-held (side_of m.code) 0 [] m.options) in
        let spelled : length b.bytes ≡ length (spelling m) = ap length (spelled_once b.bytes m b.spells) in
        omega (arith, ap length g.token_is, b.spells.message.token, tags, spelled, spelling-length m, b.short)
    go (Delivering bytes id timer) is g =
        let short = g.short (setting.limits.datagram + 256) (omega arith) (omega arith) in
        let answer : answer_bytes v.1.state ≡ length bytes = ap answer_bytes is in
        let tags : length (pieces_spelling v.1.tags) ≡ 0 = ap (λ (ts : List (List ℕ)). length (pieces_spelling ts)) g.tags_gone in
        omega (arith, ap length g.token_gone, tags, answer, short)

-- so everything that is held is within the bound
pub within-bound : (history : List Action) (w : State) → Bears history w → held w ≤ most_held w.setting.limits
within-bound history w c =
    let d = w.setting.limits.datagram in
    let xs = sum_by-le exchange_bytes (4 * d + 256) w.exchanges (All-from_recursion (λ x. exchange_bytes x ≤ 4 * d + 256) w.exchanges (All-weaken (IsExchangeOf w.setting history) (λ x. exchange_bytes x ≤ 4 * d + 256) w.exchanges (exchange-held w.setting history c.routes) c.exchanges)) in
    let vs = sum_by-le waiter_bytes (d + 256) w.waiters (All-from_recursion (λ v. waiter_bytes v ≤ d + 256) w.waiters (All-weaken (IsWaiterOf w.setting history) (λ v. waiter_bytes v ≤ d + 256) w.waiters (waiter-held w.setting history) c.waiters)) in
    let most_xs = mul-le (length w.exchanges) (4 * d + 256) w.setting.limits.exchanges (4 * d + 256) c.within.exchanges (omega arith) in
    let most_vs = mul-le (length w.waiters) (d + 256) w.setting.limits.waiters (d + 256) c.within.waiters (omega arith) in
    let l = w.setting.limits in
    let con = bytes-bounded (d + 128) w.con_records c.con_records.are (c.con_records.short (d + 128) (omega arith) (omega arith)) in
    let non = bytes-bounded (d + 128) w.non_records c.non_records.are (c.non_records.short (d + 128) (omega arith) (omega arith)) in
    let records : bytes_of w.con_records.items + bytes_of w.non_records.items ≤ (l.con_records + l.non_records) * (d + 128) = both (bytes_of w.con_records.items) (bytes_of w.non_records.items) w.con_records.limit w.non_records.limit l.con_records l.non_records (d + 128) con non c.con_records.limit c.non_records.limit in
    let stored = (store-within w.setting history w.store c.store).within_bytes in
    sum (total entry_size w.store) (bytes_of w.con_records.items + bytes_of w.non_records.items) (sum_by exchange_bytes w.exchanges) (sum_by waiter_bytes w.waiters) (length w.exchanges * (4 * d + 256)) (length w.waiters * (d + 256)) l.cache_bytes ((l.con_records + l.non_records) * (d + 128)) (l.waiters * (d + 256)) (l.exchanges * (4 * d + 256)) stored records xs vs most_xs most_vs
  where
    sum : (t u a b c' d' k p q r : ℕ) → t ≤ k → u ≤ p → a ≤ c' → b ≤ d' → c' ≤ r → d' ≤ q → t + u + a + b ≤ k + p + q + r
    sum t u a b c' d' k p q r h g i j v x = omega arith

    both : (a b m n i j each : ℕ) → a ≤ m * each → b ≤ n * each → m ≡ i → n ≡ j → a + b ≤ (i + j) * each
    both a b m n i j each p q is are = let sum = add-mul i j each in let first : a ≤ i * each = subst (λ (k : ℕ). a ≤ k * each) is p in let second : b ≤ j * each = subst (λ (k : ℕ). b ≤ k * each) are q in omega (arith, sum, first, second)
