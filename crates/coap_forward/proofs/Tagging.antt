-- The tag of a stored response in the request that is sent on: it is the request's one recognised
-- tag, and it changes neither its key nor, by more than nine bytes, its length.
use Rattle.std.proofs.Common.{◌≡◌, ℕ, ◌+◌, ◌-◌, ◌<◌, ◌≤◌, Bool, true, false, cond, eqb, leb, ltb, nat_le, List, [], ◌∷◌, length, map, filter, Option, Some, None, refl, sym, ap, subst, ◌∙◌, arith}
use Rattle.std.specs.Prelude.{◌&&◌, ◌||◌, ◌==◌, not, find, IfSome}
use Rattle.std.specs.List.{AllByRecursion}
use Rattle.std.specs.Option.{option_map}
use Rattle.std.proofs.lemmas.Bool.{and_parts, eqb-true, leb-true, leb-false, le-leb, lt-leb, lt-ltb, ltb-true, ltb-false, eq-eqb}
use Rattle.coap_message.specs.declared.code.Code.{Code}
use Rattle.coap_message.specs.declared.code.TheConstants.Code.{GET}
use Rattle.coap_message.specs.declared.options.Opt.{Opt}
use Rattle.coap_message.specs.Options.{option_of}
use Rattle.coap_message.specs.Message.{Message}
use Rattle.coap_message.specs.Spelling.{more_length, options_length}
use Rattle.coap_option.specs.declared.side.Side.{Side}
use Rattle.coap_option.specs.declared.side.Side.TheVariants.{Request, Response}
use Rattle.coap_option.specs.Places.{PlacedOption, places}
use Rattle.coap_option.specs.Recognition.{is_recognised}
use Rattle.coap_option.specs.Screening.{first_refused}
use Rattle.coap_option.specs.Side.{side_of}
use Rattle.coap_option.specs.Selection.{is_of, is_tag_of_get, sent_on, tags_of}
use Rattle.coap_endpoint.specs.declared.target.Target.{Target}
use Rattle.coap_endpoint.proofs.Lists.{All-weaken}
use Rattle.coap_store.specs.Renewing.{tag_of}
use Rattle.coap_store.specs.Showing.{is_content}
use Rattle.coap_forward.specs.Forms.{is_used_up, is_forwarded, put_in, merged, target_options, tagged, forwarded, form_fits, tag_if_fits, tag_to_send, tag_for}
use Rattle.coap_forward.specs.Gaps.{given}
use Rattle.coap_forward.specs.Messages.{is_get}
use Rattle.coap_forward.proofs.Forms.{All-target, IsTag, filter-put_in, in_key, sent-screened}
use Rattle.coap_forward.proofs.Values.{counts, values-placed}

-- ---- tags are recognised

-- a tag is, on both sides, in the first place
pub tag-recognised : (side : Side) (v : List ℕ) → IsTag v → is_recognised side 4 (length v) 0 ≡ true
tag-recognised Request v is = rw (le-leb 1 (length v) is.0, le-leb (length v) 8 is.1) refl
tag-recognised Response v is = rw (le-leb 1 (length v) is.0, le-leb (length v) 8 is.1) refl

-- and what is recognised in a response is a tag
recognised-tag : (v : List ℕ) (before : ℕ) → is_recognised Response 4 (length v) before ≡ true → IsTag v
recognised-tag v before is =
    let sized = (and_parts (nat_le 1 (length v) && nat_le (length v) 8) (before == 0) is).0 in
    let both = and_parts (nat_le 1 (length v)) (nat_le (length v) 8) sized in
    (leb-true 1 (length v) both.0, leb-true (length v) 8 both.1)

-- so the tag of a response is one
pub tag_of-is : (os : List Opt) → IfSome (tag_of os) IsTag
tag_of-is os = found (places os)
  where
    found : (ps : List PlacedOption) → IfSome (option_map (λ p. p.option.value) (find (is_of Response 4) ps)) IsTag
    found [] = tt
    found (p ∷ ps) = go (is_of Response 4 p) refl (found ps)
      where
        of : (n : ℕ) → n ≡ 4 → is_recognised Response n (length p.option.value) p.before ≡ true → IsTag p.option.value
        of n e is = recognised-tag p.option.value p.before (subst (λ (k : ℕ). is_recognised Response k (length p.option.value) p.before ≡ true) e is)

        go : (b : Bool) → is_of Response 4 p ≡ b → IfSome (option_map (λ q. q.option.value) (find (is_of Response 4) ps)) IsTag → IfSome (option_map {T = PlacedOption} (λ q. q.option.value) (cond b (Some p) (find (is_of Response 4) ps))) IsTag
        go true e rest =
            let both = and_parts (p.option.number == 4) (is_recognised Response p.option.number (length p.option.value) p.before) e in
            of p.option.number (eqb-true p.option.number 4 both.0) both.1
        go false e rest = rest

-- so is the tag that a request carries
pub tag_to_send-is : (most : ℕ) (t : Target) (m response : Message) → IfSome (tag_to_send most t m response) IsTag
tag_to_send-is most t m response = go (is_get m.code && is_content response.code) (tag_of response.options) (tag_of-is response.options)
  where
    fits : (b : Bool) (v : List ℕ) → IsTag v → IfSome (cond b (Some v) None) IsTag
    fits true v is = is
    fits false v is = tt

    go : (b : Bool) (tag : Option (List ℕ)) → IfSome tag IsTag → IfSome (cond b (tag_if_fits most t m tag) None) IsTag
    go true None is = tt
    go true (Some v) is = fits (form_fits most t (Some v) m) v is
    go false tag is = tt

pub tag_for-is : (most : ℕ) (t : Target) (m : Message) (kept : Option Message) → IfSome (tag_for most t m kept) IsTag
tag_for-is most t m None = tt
tag_for-is most t m (Some response) = tag_to_send-is most t m response

-- a request of another method carries none
pub tag_for-other : (most : ℕ) (t : Target) (m : Message) (kept : Option Message) → is_get m.code ≡ false → tag_for most t m kept ≡ None
tag_for-other most t m None other = refl
tag_for-other most t m (Some response) other = rw other refl

-- ---- the tag among other options

-- an option that is put in is picked alone, where none of the others is
put_in-alone : (keep : Opt → Bool) (o : Opt) (os : List Opt) → keep o ≡ true → filter keep os ≡ [] → filter keep (put_in o os) ≡ o ∷ []
put_in-alone keep o [] kept none = rw kept refl
put_in-alone keep o (p ∷ ps) kept none = go (leb o.number p.number) (keep p) refl none (λ rest. put_in-alone keep o ps kept rest)
  where
    go : (b k : Bool) → keep p ≡ k → cond k (p ∷ filter keep ps) (filter keep ps) ≡ [] → (filter keep ps ≡ [] → filter keep (put_in o ps) ≡ o ∷ []) → filter keep (cond b (o ∷ p ∷ ps) (p ∷ put_in o ps)) ≡ o ∷ []
    go b true e none' rest = absurd cc
    go true false e none' rest = rw (kept, e) (ap (λ (l : List Opt). o ∷ l) none')
    go false false e none' rest = rw e (rest none')

-- options of two numbers are put in in either order
module _ (o p : Opt) (differ : eqb p.number o.number ≡ false) where
  less : p.number ≤ o.number → p.number < o.number
  less le = go (ltb p.number o.number) refl
    where
      go : (b : Bool) → ltb p.number o.number ≡ b → p.number < o.number
      go true e = ltb-true _ _ e
      go false e =
          let ge = ltb-false _ _ e in
          let same : p.number ≡ o.number = omega arith in
          absurd (let f = sym (eq-eqb p.number o.number same) ∙ differ in cc)

  -- one of them goes first
  turned : leb o.number p.number ≡ not (leb p.number o.number)
  turned = go (leb p.number o.number) refl
    where
      go : (b : Bool) → leb p.number o.number ≡ b → leb o.number p.number ≡ not b
      go true e = lt-leb o.number p.number (less (leb-true _ _ e))
      go false e = le-leb o.number p.number (let more = leb-false _ _ e in omega arith)

  put_in-swap : (os : List Opt) → put_in p (put_in o os) ≡ put_in o (put_in p os)
  put_in-swap [] = go (leb p.number o.number) refl turned
    where
      go : (a : Bool) → leb p.number o.number ≡ a → leb o.number p.number ≡ not a → cond (leb p.number o.number) (p ∷ o ∷ []) (o ∷ p ∷ []) ≡ cond (leb o.number p.number) (o ∷ p ∷ []) (p ∷ o ∷ [])
      go true e f = rw (e, f) refl
      go false e f = rw (e, f) refl
  put_in-swap (x ∷ xs) = go (leb o.number x.number) refl (leb p.number x.number) refl (put_in-swap xs)
    where
      first : (a : Bool) → leb p.number o.number ≡ a → leb o.number p.number ≡ not a → leb o.number x.number ≡ true → leb p.number x.number ≡ true → put_in p (o ∷ x ∷ xs) ≡ put_in o (p ∷ x ∷ xs)
      first true e f c d = rw (e, f, c) refl
      first false e f c d = rw (e, d, f) refl

      go : (c : Bool) → leb o.number x.number ≡ c → (d : Bool) → leb p.number x.number ≡ d → put_in p (put_in o xs) ≡ put_in o (put_in p xs) → put_in p (cond c (o ∷ x ∷ xs) (x ∷ put_in o xs)) ≡ put_in o (cond d (p ∷ x ∷ xs) (x ∷ put_in p xs))
      go true c true d rest = first (leb p.number o.number) refl turned c d
      go true c false d rest =
          let high = leb-false p.number x.number d in
          let low = leb-true o.number x.number c in
          let behind : leb p.number o.number ≡ false = lt-leb p.number o.number (omega arith) in
          rw (behind, d, c) refl
      go false c true d rest =
          let high = leb-false o.number x.number c in
          let low = leb-true p.number x.number d in
          let behind : leb o.number p.number ≡ false = lt-leb o.number p.number (omega arith) in
          rw (d, behind, c) refl
      go false c false d rest = rw (d, c) (ap (λ (l : List Opt). x ∷ l) rest)

-- no option of a target has the number of a tag
target-untagged : (t : Target) → AllByRecursion (λ o. eqb o.number 4 ≡ false) (target_options t)
target-untagged t = All-target (λ n. eqb n 4 ≡ false) refl refl refl refl refl t

-- ---- the key

-- it has no part in the key of a GET
pub key-tagged : (tag : Option (List ℕ)) (os : List Opt) → IfSome tag IsTag → filter (in_key GET) (tagged tag os) ≡ filter (in_key GET) os
key-tagged None os is = refl
key-tagged (Some v) os is = filter-put_in (in_key GET) (option_of 4 v) os (ap (λ (b : Bool). not b && true) (tag-recognised Request v is))

-- ---- the tags of the request that is sent on

-- of what goes on for a GET nothing is a recognised tag
goes-untagged : (os : List Opt) → filter (counts Request 4) (filter (is_forwarded GET) os) ≡ []
goes-untagged [] = refl
goes-untagged (o ∷ os) = go (is_forwarded GET o) refl (counts Request 4 o) refl (goes-untagged os)
  where
    -- one that is stays
    stays : (n : ℕ) → n ≡ 4 → is_recognised Request 4 (length o.value) 0 ≡ true → not (is_used_up n || (is_tag_of_get GET n && is_recognised Request n (length o.value) 0)) ≡ false
    stays n e is = rw e (ap not is)

    go : (b : Bool) → is_forwarded GET o ≡ b → (k : Bool) → counts Request 4 o ≡ k → filter (counts Request 4) (filter (is_forwarded GET) os) ≡ [] → filter (counts Request 4) (cond b (o ∷ filter (is_forwarded GET) os) (filter (is_forwarded GET) os)) ≡ []
    go true e true f rest =
        let both = and_parts (o.number == 4) (is_recognised Request 4 (length o.value) 0) f in
        absurd (let g = sym e ∙ stays o.number (eqb-true o.number 4 both.0) both.1 in cc)
    go true e false f rest = rw f rest
    go false e k f rest = rest

-- a list of which nothing is picked may be put in
pub filter-merged : (keep : Opt → Bool) (os others : List Opt) → AllByRecursion (λ o. keep o ≡ false) os → filter keep (merged os others) ≡ filter keep others
filter-merged keep [] others out = refl
filter-merged keep (o ∷ os) others out = filter-put_in keep o (merged os others) out.0 ∙ filter-merged keep os others out.1

-- codes of one number are one
get-is : (code : Code) → is_get code ≡ true → code ≡ GET
get-is code is = let same : ◌≡◌ {A = Code} (record { 0 = code.0 }) (record { 0 = 1 }) = rw (eqb-true code.0 1 is) refl in same

-- the one recognised tag of what is sent on for a GET is that of the stored response
pub tags-forwarded : (token : List ℕ) (t : Target) (tag : Option (List ℕ)) (m : Message) (id : ℕ) → is_get m.code ≡ true → first_refused Request m.options ≡ None → IfSome tag IsTag → tags_of (forwarded token t tag m id) ≡ given tag
tags-forwarded token t tag m id get screened is =
    let code = get-is m.code get in
    let sent : sent_on m ≡ filter (is_forwarded GET) m.options = sent-screened m screened ∙ ap (λ (c : Code). filter (is_forwarded c) m.options) code in
    let none : filter (counts Request 4) (sent_on m) ≡ [] = ap (filter (counts Request 4)) sent ∙ goes-untagged m.options in
    ap (λ (s : Side). map (λ p. p.option.value) (filter (is_of s 4) (places (merged (target_options t) (tagged tag (sent_on m)))))) (ap side_of code)
    ∙ values-placed Request 4 (λ length before. refl) [] (merged (target_options t) (tagged tag (sent_on m)))
    ∙ ap (map (λ o. o.value)) (filter-merged (counts Request 4) (target_options t) (tagged tag (sent_on m)) (All-weaken (λ o. eqb o.number 4 ≡ false) (λ o. counts Request 4 o ≡ false) (target_options t) other (target-untagged t)))
    ∙ alone tag is none
  where
    other : (o : Opt) → eqb o.number 4 ≡ false → counts Request 4 o ≡ false
    other o e = ap (λ (b : Bool). b && is_recognised Request 4 (length o.value) 0) e

    alone : (g : Option (List ℕ)) → IfSome g IsTag → filter (counts Request 4) (sent_on m) ≡ [] → map (λ (o : Opt). o.value) (filter (counts Request 4) (tagged g (sent_on m))) ≡ given g
    alone None is' none = ap (map (λ (o : Opt). o.value)) none
    alone (Some v) is' none = ap (map (λ (o : Opt). o.value)) (put_in-alone (counts Request 4) (option_of 4 v) (sent_on m) (tag-recognised Request v is') none)

-- ---- the length of the request that is sent on

-- a greater number takes no fewer bytes more
more-less : (a b : ℕ) → a ≤ b → more_length a ≤ more_length b
more-less a b le = go (ltb a 13) refl (ltb a 269) refl (ltb b 13) refl (ltb b 269) refl
  where
    go : (p : Bool) → ltb a 13 ≡ p → (q : Bool) → ltb a 269 ≡ q → (r : Bool) → ltb b 13 ≡ r → (s : Bool) → ltb b 269 ≡ s → cond p 0 (cond q 1 2) ≤ cond r 0 (cond s 1 2)
    go true e q f r g s h = omega arith
    go false e true f true g s h = absurd (omega (arith, ltb-false _ _ e, ltb-true _ _ g))
    go false e true f false g true h = omega arith
    go false e true f false g false h = omega arith
    go false e false f true g s h = absurd (omega (arith, ltb-false _ _ e, ltb-true _ _ g))
    go false e false f false g true h = absurd (omega (arith, ltb-false _ _ f, ltb-true _ _ h))
    go false e false f false g false h = omega arith

-- a small number takes none
none-more : (n : ℕ) → n < 13 → more_length n ≡ 0
none-more n less = rw (lt-ltb n 13 less) refl

-- a tag takes at most nine bytes among other options
put-length : (v : List ℕ) → length v ≤ 8 → (before : ℕ) (os : List Opt) → before ≤ 4 → options_length before (put_in (option_of 4 v) os) ≤ options_length before os + 9
put-length v short before [] le = omega (arith, none-more (4 - before) (omega arith), none-more (length v) (omega arith))
put-length v short before (p ∷ ps) le = go (leb 4 p.number) refl (λ low. put-length v short p.number ps low)
  where
    go : (b : Bool) → leb 4 p.number ≡ b → (p.number ≤ 4 → options_length p.number (put_in (option_of 4 v) ps) ≤ options_length p.number ps + 9)
        → options_length before (cond b (option_of 4 v ∷ p ∷ ps) (p ∷ put_in (option_of 4 v) ps)) ≤ options_length before (p ∷ ps) + 9
    go true e rest = omega (arith, none-more (4 - before) (omega arith), none-more (length v) (omega arith), more-less (p.number - 4) (p.number - before) (omega arith))
    go false e rest = let low = leb-false 4 p.number e in omega (arith, rest (omega arith))
