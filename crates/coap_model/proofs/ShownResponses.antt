-- What clients are sent of responses: it is a message, and no longer than the widest form.
use Rattle.std.proofs.Common.{◌≡◌, ◌≢◌, ℕ, zero, suc, ◌+◌, ◌*◌, ◌^◌, ◌<◌, ◌≤◌, Bool, true, false, cond, eqb, leb, ltb, List, [], ◌∷◌, ◌++◌, length, filter, find, Option, Some, None, refl, sym, ap, subst, ◌∙◌, arith}
use Rattle.std.specs.Prelude.{◌&&◌, ◌||◌, ◌==◌, not, is_some, option_map, IfSome}
use Rattle.std.specs.List.{AllByRecursion, list_any}
use Rattle.std.specs.Option.{option_map_or}
use Rattle.std.proofs.Math.Nat.{pow-le-pow_right}
use Rattle.std.proofs.lemmas.Bool.{eqb-true, eqb-false, eq-eqb, ne_eqb, leb-true, ltb-true, ltb-false, lt-ltb, and_parts}
use Rattle.std.proofs.lemmas.List.Sums.{sum_by_push}
use Rattle.coap_message.specs.declared.code.Code.{Code}
use Rattle.coap_message.specs.declared.kind.Kind.TheVariants.{Non}
use Rattle.coap_message.specs.declared.code.TheConstants.Code.{CONTENT, BAD_GATEWAY, GATEWAY_TIMEOUT}
use Rattle.coap_message.specs.declared.options.Opt.{Opt}
use Rattle.coap_message.specs.Codes.{is_code, is_response}
use Rattle.coap_message.specs.Message.{Message}
use Rattle.coap_message.specs.Options.{AreOptions, option_of, last_number}
use Rattle.coap_message.specs.Spelling.{IsMessage, SpellsOption, SpellsOptions, Spells, header, spelling, more_length, options_length, payload_length}
use Rattle.coap_message.specs.Uint.{IsBytes, uint_of, without_zeros, uint_spelling}
use Rattle.coap_message.proofs.Extensions.{IsBytes-left, IsBytes-right}
use Rattle.coap_message.proofs.Spellings.{spelling-length}
use Rattle.coap_message.proofs.Uints.{uint_bound, uint_spelling-four}
use Rattle.coap_option.specs.declared.side.Side.TheVariants.{Response}
use Rattle.coap_option.specs.Places.{PlacedOption, places, places_behind, count_of}
use Rattle.coap_option.specs.Recognition.{is_recognised}
use Rattle.coap_option.specs.Screening.{is_refused, first_refused}
use Rattle.coap_option.specs.Selection.{is_of, max_age_of}
use Rattle.coap_option.proofs.MaxAges.{length-first_max_age}
use Rattle.coap_store.specs.Renewing.{tag_of, of_number, has_number, below, above, updated, with_max_age, safe_options, news_of, is_validated, renewed}
use Rattle.coap_store.specs.Showing as showing
use Rattle.coap_store.specs.Showing.{is_content, is_cacheable, among, held_tag, valid, aged, aged_or_valid}
use Rattle.coap_store.proofs.Updates.{of_number-updated, AreOptions-updated}
use Rattle.coap_option.specs.Classes.{is_unsafe}
use Rattle.std.specs.Int.{w64, to_be_bytes}
use Rattle.coap_message.specs.declared.kind.Kind.{Kind}
use Rattle.coap_store.proofs.Picked.{AreOptions-above, AreOptions-filter, above-all, below-none, last-below}
use Rattle.coap_store.proofs.Tags.{first_tag, tag_of-first, tag-short}
use Rattle.coap_endpoint.specs.Equality.{same_bytes}
use Rattle.coap_store.specs.declared.answer.Answer.{Answer}
use Rattle.coap_forward.specs.Answers.{is_screened, without_observe, greatest_max_age, widest, fits, validates, passed_part, is_passed_on, bad_gateway, gateway_timeout, own_answer, origin_answer, answer_if_fits, validated, answer_taken, answer_of, left_of, left_to_show, shown_as}
use Rattle.coap_forward.specs.Messages.{is_rst}
use Rattle.coap_model.specs.History.{Matches, in_acknowledgement, separate, by_reset}
use Rattle.coap_model.proofs.OptionLengths.{lower-length}
use Rattle.coap_model.proofs.Encodings.{length-uint_spelling}

-- ---- one Max-Age among options

-- options after others
append-options : (low : ℕ) (xs ys : List Opt) → AreOptions low xs → AreOptions (last_number low xs) ys → AreOptions low (xs ++ ys)
append-options low [] ys are rest = rest
append-options low (x ∷ xs) ys are rest = (are.0, are.1, are.2, append-options x.number xs ys are.3 rest)

-- options with a Max-Age inserted
abbrev with_value : List ℕ → List Opt → List Opt
with_value value os = below 14 os ++ (option_of 14 value ∷ above 14 os)

-- they are in order
with_value-options : (value : List ℕ) (os : List Opt) → length value ≤ 65804 → AreOptions 0 os → AreOptions 0 (with_value value os)
with_value-options value os short are =
    append-options 0 (below 14 os) (option_of 14 value ∷ above 14 os) (AreOptions-filter (λ o. ltb o.number 14) 0 os are)
    (last-below 14 0 os (omega arith), omega arith, short, AreOptions-above (λ o. ltb 14 o.number) 14 0 os (λ o e. let lt = ltb-true 14 o.number e in omega arith) are)

-- so are those with a Max-Age of this many seconds
with_max_age-options : (seconds : ℕ) (os : List Opt) → AreOptions 0 os → AreOptions 0 (with_max_age seconds os)
with_max_age-options seconds os are = with_value-options (uint_spelling seconds) os (omega (arith, length-uint_spelling seconds)) are

-- ---- the tag that a client holds

-- the first tag is short
first_tag-short : (os : List Opt) (tag : List ℕ) → first_tag os ≡ Some tag → length tag ≤ 8
first_tag-short [] tag e = absurd cc
first_tag-short (o ∷ os) tag e = go (eqb o.number 4) (is_recognised Response 4 (length o.value) 0) refl (first_tag-short os tag) e
  where
    go : (a b : Bool) → is_recognised Response 4 (length o.value) 0 ≡ b → (first_tag os ≡ Some tag → length tag ≤ 8) → cond a (cond b (Some o.value) None) (first_tag os) ≡ Some tag → length tag ≤ 8
    go true true is rest f = let same : o.value ≡ tag = cc in subst (λ (v : List ℕ). length v ≤ 8) same (tag-short (length o.value) is)
    go true false is rest f = absurd cc
    go false b is rest f = rest f

-- a tag that is among those of a client is the tag that it holds
among-same : (tags : List (List ℕ)) (o : Option (List ℕ)) (tag : List ℕ) → among tags o ≡ Some tag → o ≡ Some tag
among-same tags None tag e = absurd cc
among-same tags (Some t) tag e = go (list_any (same_bytes t) tags) e
  where
    go : (b : Bool) → cond b (Some t) None ≡ Some tag → Some t ≡ Some tag
    go true f = f
    go false f = absurd cc

-- so the tag that a client holds is short
held-short : (m : Message) (tags : List (List ℕ)) (tag : List ℕ) → held_tag m tags ≡ Some tag → length tag ≤ 8
held-short m tags tag e = go (is_content m.code) e
  where
    go : (b : Bool) → cond b (among tags (tag_of m.options)) None ≡ Some tag → length tag ≤ 8
    go true f = first_tag-short m.options tag (sym (tag_of-first m.options) ∙ among-same tags (tag_of m.options) tag f)
    go false f = absurd cc

-- ---- the cases of what is sent

-- what is sent of a response is one of three: the response itself, a 2.03 with a short tag, or the
-- response with a Max-Age
data IsShownAs (m : Message) : Option ℕ → Message → Type 0 where
  as_stored : (left : Option ℕ) → IsShownAs m left m
  as_valid : (left : ℕ) (tag : List ℕ) → length tag ≤ 8 → IsShownAs m (Some left) (valid m left tag)
  as_aged : (left : ℕ) → IsShownAs m (Some left) (aged m left)

-- what is sent is one of the three
shown-as : (m : Message) (left : Option ℕ) (tags : List (List ℕ)) → IsShownAs m left (showing.shown m left tags)
shown-as m None tags = as_stored None
shown-as m (Some left) tags = tells (is_cacheable m.code)
  where
    holds : (o : Option (List ℕ)) → held_tag m tags ≡ o → IsShownAs m (Some left) (option_map_or (valid m left) o (aged m left))
    holds None e = as_aged left
    holds (Some tag) e = as_valid left tag (held-short m tags tag e)

    tells : (b : Bool) → IsShownAs m (Some left) (cond b (aged_or_valid m left tags) m)
    tells true = holds (held_tag m tags) refl
    tells false = as_stored (Some left)

-- ---- it is a message

-- the code of a response isn't 0.00
response-code : (code : Code) → is_response code ≡ true → code.0 ≢ 0
response-code code e zero_code = let f : is_response (record { 0 = 0 }) ≡ true = subst (λ (n : ℕ). is_response (record { 0 = n }) ≡ true) zero_code e in cc

-- what is sent of a well-formed message is well-formed, with a code
record IsSound (m : Message) : Type 0 where
  pub code : m.code.0 ≢ 0
  pub options : AreOptions 0 m.options

-- each of them is as well-formed as the response
case-sound : {left : Option ℕ} {n : Message} (m : Message) → IsSound m → IsShownAs m left n → IsSound n
case-sound m is (as_stored left) = is
case-sound m is (as_valid left tag short) =
    record {
      code = λ e. absurd (omega arith);
      options = (omega arith, omega arith, omega (arith, short), (omega arith, omega arith, omega (arith, length-uint_spelling left), tt));
    }
case-sound m is (as_aged left) = record { code = is.code; options = with_max_age-options left m.options is.options }

-- a message that answers a request is a Reset, or a response
pub matches-response : {token : List ℕ} {id : ℕ} {m : Message} → Matches token id m → is_rst m.kind ≡ false → is_response m.code ≡ true
matches-response (in_acknowledgement kind code same_token same_id) not = code
matches-response (separate kind code same_token) not = code
matches-response (by_reset kind code same_id) not = absurd (let f = sym (ap is_rst kind) ∙ not in cc)

-- ---- at most one Max-Age, of at most four bytes

-- no Max-Age, or one of at most four bytes
pub data HasOneAge (os : List Opt) : Type 0 where
  no_age : of_number 14 os ≡ [] → HasOneAge os
  one_age : (o : Opt) → of_number 14 os ≡ o ∷ [] → length o.value ≤ 4 → HasOneAge os

-- an option at its place after those before it
abbrev place : List Opt → Opt → PlacedOption
place passed o = record { option = o; before = count_of o.number passed }

-- a Max-Age that isn't refused has at most four bytes
age-passes : (n : ℕ) (o : Opt) (before : ℕ) → n ≡ 14 → is_refused Response (record { option = record { number = n; value = o.value }; before = before }) ≡ false → (length o.value ≤ 4) × (before ≡ 0)
age-passes n o before is passes = go (leb 0 (length o.value)) (leb (length o.value) 4) refl (eqb before 0) refl (subst (λ (k : ℕ). is_refused Response (record { option = record { number = k; value = o.value }; before = before }) ≡ false) is passes)
  where
    go : (z a : Bool) → leb (length o.value) 4 ≡ a → (b : Bool) → eqb before 0 ≡ b → not ((z && a) && b) ≡ false → (length o.value ≤ 4) × (before ≡ 0)
    go true true e true f passes' = (leb-true _ _ e, eqb-true _ _ f)
    go true true e false f passes' = absurd cc
    go true false e b f passes' = absurd cc
    go false a e b f passes' = absurd cc

-- options none of which is refused
module _ where
  none-refused : (p : PlacedOption) (ps : List PlacedOption) → option_map (λ q. q.option.number) (find (is_refused Response) (p ∷ ps)) ≡ None → (is_refused Response p ≡ false) × (option_map {T = PlacedOption} (λ q. q.option.number) (find (is_refused Response) ps) ≡ None)
  none-refused p ps none = go (is_refused Response p) none
    where
      go : (b : Bool) → option_map {T = PlacedOption} (λ q. q.option.number) (cond b (Some p) (find (is_refused Response) ps)) ≡ None → (b ≡ false) × (option_map {T = PlacedOption} (λ q. q.option.number) (find (is_refused Response) ps) ≡ None)
      go true e = absurd cc
      go false e = (refl, e)

abbrev NoneRefused : List Opt → List Opt → Type 0
NoneRefused passed os = option_map {T = PlacedOption} (λ q. q.option.number) (find (is_refused Response) (places_behind passed os)) ≡ None

-- after a Max-Age there is no other
no-second : (passed os : List Opt) → 1 ≤ count_of 14 passed → NoneRefused passed os → of_number 14 os ≡ []
no-second passed [] some none = refl
no-second passed (o ∷ os) some none =
    let parts = none-refused (place passed o) (places_behind (passed ++ o ∷ []) os) none in
    let more = sum_by_push (λ (p : Opt). cond (p.number == 14) 1 0) passed o in
    go (eqb o.number 14) refl (no-second (passed ++ o ∷ []) os (omega (arith, more)) parts.1) parts.0
  where
    go : (b : Bool) → eqb o.number 14 ≡ b → of_number 14 os ≡ [] → is_refused Response (place passed o) ≡ false → cond b (o ∷ of_number 14 os) (of_number 14 os) ≡ []
    go true e rest passes =
        let is = eqb-true o.number 14 e in
        let first = (age-passes o.number o (count_of o.number passed) is passes).1 in
        absurd (let same : count_of 14 passed ≡ 0 = subst (λ (k : ℕ). count_of k passed ≡ 0) is first in omega arith)
    go false e rest passes = rest

-- so a response that isn't refused has at most one Max-Age
one-behind : (passed os : List Opt) → count_of 14 passed ≡ 0 → NoneRefused passed os → HasOneAge os
one-behind passed [] first none = no_age refl
one-behind passed (o ∷ os) first none =
    let parts = none-refused (place passed o) (places_behind (passed ++ o ∷ []) os) none in
    go (eqb o.number 14) refl (sum_by_push (λ (p : Opt). cond (p.number == 14) 1 0) passed o) (λ still. one-behind (passed ++ o ∷ []) os still parts.1) (λ some. no-second (passed ++ o ∷ []) os some parts.1) parts.0
  where
    keep : HasOneAge os → of_number 14 (o ∷ os) ≡ of_number 14 os → HasOneAge (o ∷ os)
    keep (no_age e) same = no_age (same ∙ e)
    keep (one_age x e short) same = one_age x (same ∙ e) short

    go : (b : Bool) → eqb o.number 14 ≡ b → count_of 14 (passed ++ o ∷ []) ≡ count_of 14 passed + cond (o.number == 14) 1 0 → (count_of 14 (passed ++ o ∷ []) ≡ 0 → HasOneAge os) → (1 ≤ count_of 14 (passed ++ o ∷ []) → of_number 14 os ≡ []) → is_refused Response (place passed o) ≡ false → HasOneAge (o ∷ os)
    go true e count still more passes =
        let is = eqb-true o.number 14 e in
        let one : count_of 14 (passed ++ o ∷ []) ≡ count_of 14 passed + 1 = rw e at count in
        let rest = more (omega arith) in
        one_age o (rw (e, rest) refl) (age-passes o.number o (count_of o.number passed) is passes).0
    go false e count still more passes =
        let same : count_of 14 (passed ++ o ∷ []) ≡ count_of 14 passed + 0 = rw e at count in
        keep (still (omega arith)) (rw e refl)

-- without Observe it has as many
pub one-age : (m : Message) → is_screened m ≡ true → HasOneAge (without_observe m).options
one-age m screened = keep (one-behind [] m.options refl (none (first_refused Response m.options) screened))
  where
    none : (o : Option ℕ) → not (is_some o) ≡ true → o ≡ None
    none None e = refl
    none (Some n) e = absurd cc

    same : (os : List Opt) → of_number 14 (filter (λ o. not (o.number == 6)) os) ≡ of_number 14 os
    same [] = refl
    same (o ∷ os) = go (eqb o.number 6) refl (eqb o.number 14) refl (same os)
      where
        go : (a : Bool) → eqb o.number 6 ≡ a → (b : Bool) → eqb o.number 14 ≡ b → of_number 14 (filter (λ p. not (p.number == 6)) os) ≡ of_number 14 os
            → of_number 14 (cond (not a) (o ∷ filter (λ p. not (p.number == 6)) os) (filter (λ p. not (p.number == 6)) os)) ≡ cond b (o ∷ of_number 14 os) (of_number 14 os)
        go true e true f rest = absurd (let i = eqb-true _ _ e in let j = eqb-true _ _ f in omega arith)
        go true e false f rest = rest
        go false e true f rest = rw (f, rest) refl
        go false e false f rest = rw (f, rest) refl

    keep : HasOneAge m.options → HasOneAge (without_observe m).options
    keep (no_age e) = no_age (same m.options ∙ e)
    keep (one_age x e short) = one_age x (same m.options ∙ e) short

-- ---- lengths

-- a length of at most four needs no bytes that extend it
more-none : (n : ℕ) → n ≤ 12 → more_length n ≡ 0
more-none n le = rw (lt-ltb n 13 (omega arith)) refl

-- options after others take as many bytes as both together
options_length-append : (low : ℕ) (xs ys : List Opt) → options_length low (xs ++ ys) ≡ options_length low xs + options_length (last_number low xs) ys
options_length-append low [] ys = omega arith
options_length-append low (x ∷ xs) ys = omega (arith, options_length-append x.number xs ys)

-- a shorter Max-Age takes no more bytes
shorter-value : (v w : List ℕ) (os : List Opt) → length v ≤ 4 → length w ≡ 4 → options_length 0 (with_value v os) ≤ options_length 0 (with_value w os)
shorter-value v w os short four =
    omega (arith, options_length-append 0 (below 14 os) (option_of 14 v ∷ above 14 os), options_length-append 0 (below 14 os) (option_of 14 w ∷ above 14 os), more-none (length v) (omega arith), more-none (length w) (omega arith))

-- with at most one Max-Age, of at most four bytes, options take no more than with one of four bytes
no-longer : (w : List ℕ) (low : ℕ) (os : List Opt) → length w ≡ 4 → low ≤ 14 → AreOptions low os → HasOneAge os → options_length low os ≤ options_length low (with_value w os)
no-longer w low [] four le are one = omega arith
no-longer w low (o ∷ os) four le are one = go (ltb o.number 14) refl (ltb 14 o.number) refl (no-longer w o.number os four)
  where
    later : eqb o.number 14 ≡ false → HasOneAge (o ∷ os) → HasOneAge os
    later other (no_age e) = no_age (rw other at e)
    later other (one_age x e short) = one_age x (rw other at e) short

    alone : eqb o.number 14 ≡ true → HasOneAge (o ∷ os) → (of_number 14 os ≡ []) × (length o.value ≤ 4)
    alone this (no_age e) = absurd (let f : o ∷ of_number 14 os ≡ [] = rw this at e in cc)
    alone this (one_age x e short) =
        let f : o ∷ of_number 14 os ≡ x ∷ [] = rw this at e in
        let same : o ≡ x = cc in
        let rest : of_number 14 os ≡ [] = cc in
        (rest, subst (λ (y : Opt). length y.value ≤ 4) (sym same) short)

    all-above : (xs : List Opt) → AreOptions 14 xs → of_number 14 xs ≡ [] → above 14 xs ≡ xs
    all-above [] in_order none = refl
    all-above (x ∷ xs) in_order none = pick (eqb x.number 14) refl none
      where
        pick : (b : Bool) → eqb x.number 14 ≡ b → cond b (x ∷ of_number 14 xs) (of_number 14 xs) ≡ [] → above 14 (x ∷ xs) ≡ x ∷ xs
        pick true e f = absurd cc
        pick false e f = above-all 14 x.number (x ∷ xs) (let other = eqb-false _ _ e in omega (arith, in_order.0, other)) (omega arith, in_order.1, in_order.2, in_order.3)

    go : (a : Bool) → ltb o.number 14 ≡ a → (b : Bool) → ltb 14 o.number ≡ b → (o.number ≤ 14 → AreOptions o.number os → HasOneAge os → options_length o.number os ≤ options_length o.number (with_value w os))
        → options_length low (o ∷ os) ≤ options_length low (cond a (o ∷ below 14 os) (below 14 os) ++ (option_of 14 w ∷ cond b (o ∷ above 14 os) (above 14 os)))
    go true e true f rest = absurd (omega (arith, ltb-true _ _ e, ltb-true _ _ f))
    go true e false f rest =
        let lt = ltb-true _ _ e in
        omega (arith, rest (omega arith) are.3 (later (ne_eqb o.number 14 (λ same. absurd (omega arith))) one))
    go false e true f rest =
        let gt = ltb-true _ _ f in
        let none : below 14 os ≡ [] = below-none 14 o.number os (omega arith) are.3 in
        let all : above 14 os ≡ os = above-all 14 o.number os gt are.3 in
        rw (none, all) (omega (arith, lower-length low 14 (o ∷ os) le (omega arith, are.1, are.2, are.3), more-none (length w) (omega arith)))
    go false e false f rest =
        let is : o.number ≡ 14 = omega (arith, ltb-false _ _ e, ltb-false _ _ f) in
        let only = alone (eq-eqb o.number 14 is) one in
        let in_order : AreOptions 14 os = subst (λ (n : ℕ). AreOptions n os) is are.3 in
        let none : below 14 os ≡ [] = below-none 14 o.number os (omega arith) are.3 in
        let all : above 14 os ≡ os = all-above os in_order only.0 in
        rw (none, all) (rw is (omega (arith, more-none (length w) (omega arith), more-none (length o.value) (omega (arith, only.1)), only.1)))

-- the greatest Max-Age has four bytes
four-bytes : length (uint_spelling greatest_max_age) ≡ 4
unfolding uint_spelling
four-bytes = refl

-- what is passed on takes no more than the widest form
pub within-widest : (m : Message) → AreOptions 0 m.options → is_screened m ≡ true → options_length 0 (without_observe m).options ≤ options_length 0 (widest (without_observe m)).options
within-widest m are screened =
    no-longer (uint_spelling greatest_max_age) 0 (without_observe m).options four-bytes (omega arith) (AreOptions-filter (λ o. not (o.number == 6)) 0 m.options are) (one-age m screened)

-- ---- the rest of a Max-Age fits four bytes

-- the value of an option that is encoded in bytes consists of bytes
value-bytes : (before : ℕ) (bytes : List ℕ) (o : Opt) → SpellsOption before bytes o → IsBytes bytes → IsBytes o.value
value-bytes before bytes o s fit =
    let all : IsBytes ((16 * s.delta_bits + s.length_bits) ∷ (s.delta_more ++ (s.length_more ++ o.value))) = subst IsBytes s.bytes_are fit in
    IsBytes-right s.length_more o.value (IsBytes-right s.delta_more (s.length_more ++ o.value) (IsBytes-right ((16 * s.delta_bits + s.length_bits) ∷ []) (s.delta_more ++ (s.length_more ++ o.value)) all))

-- so do all values of options
values-bytes : (before : ℕ) (bytes : List ℕ) (os : List Opt) → SpellsOptions before bytes os → IsBytes bytes → AllByRecursion (λ o. IsBytes o.value) os
values-bytes before bytes [] s fit = tt
values-bytes before bytes (o ∷ os) s fit =
    let both : IsBytes (s.0 ++ s.1) = subst IsBytes s.2 fit in
    (value-bytes before s.0 o s.3 (IsBytes-left s.0 s.1 both), values-bytes o.number s.1 os s.4 (IsBytes-right s.0 s.1 both))

-- the options of a datagram consist of bytes
options-bytes : (bytes : List ℕ) (m : Message) (s : Spells bytes m) → IsBytes bytes → IsBytes s.options
options-bytes bytes m s fit =
    let all : IsBytes (header m ++ (m.token ++ (s.options ++ s.payload))) = subst IsBytes s.bytes_are fit in
    IsBytes-left s.options s.payload (IsBytes-right m.token (s.options ++ s.payload) (IsBytes-right (header m) (m.token ++ (s.options ++ s.payload)) all))

-- what holds of all options holds of those that are kept
kept-all : (keep : Opt → Bool) (os : List Opt) → AllByRecursion (λ o. IsBytes o.value) os → AllByRecursion (λ o. IsBytes o.value) (filter keep os)
kept-all keep [] all = tt
kept-all keep (o ∷ os) all = go (keep o) (kept-all keep os all.1)
  where
    go : (b : Bool) → AllByRecursion (λ p. IsBytes p.value) (filter keep os) → AllByRecursion (λ p. IsBytes p.value) (cond b (o ∷ filter keep os) (filter keep os))
    go true rest = (all.0, rest)
    go false rest = rest

-- and of the option that is found
found-bytes : (test : PlacedOption → Bool) (passed os : List Opt) → AllByRecursion (λ o. IsBytes o.value) os → IfSome (find test (places_behind passed os)) (λ p. IsBytes p.option.value)
found-bytes test passed [] all = tt
found-bytes test passed (o ∷ os) all = go (test (place passed o)) (found-bytes test (passed ++ o ∷ []) os all.1)
  where
    go : (b : Bool) → IfSome (find test (places_behind (passed ++ o ∷ []) os)) (λ p. IsBytes p.option.value) → IfSome (cond b (Some (place passed o)) (find test (places_behind (passed ++ o ∷ []) os))) (λ p. IsBytes p.option.value)
    go true rest = all.0
    go false rest = rest

-- a Max-Age is below 2 ^ 32
age-small : (m : Message) → AllByRecursion (λ o. IsBytes o.value) m.options → max_age_of m < 2 ^ 32
age-small m all = go (find (is_of Response 14) (places m.options)) refl (found-bytes (is_of Response 14) [] m.options all)
  where
    go : (o : Option PlacedOption) → find (is_of Response 14) (places m.options) ≡ o → IfSome o (λ p. IsBytes p.option.value) → option_map_or (λ p. uint_of p.option.value) o 60 < 2 ^ 32
    go None e bytes = omega arith
    go (Some p) e bytes =
        let short = length-first_max_age (places m.options) p.option (ap (option_map {T = PlacedOption} (λ q. q.option)) e) in
        let bound = uint_bound p.option.value bytes in
        let powers : 256 ^ length p.option.value ≤ 256 ^ 4 = pow-le-pow_right {n = 256} (omega arith) {i = length p.option.value} {j = 4} short in
        omega (arith, bound, powers)

-- ---- responses that can be sent to clients

-- A response that can be sent to clients, in datagrams of at most this many bytes: its widest form
-- fits, it takes no more itself, and its options are in order and consist of bytes.
pub record IsSendable (most : ℕ) (m : Message) : Type 0 where
  pub code : m.code.0 ≢ 0
  pub options : AreOptions 0 m.options
  pub bytes : AllByRecursion (λ o. IsBytes o.value) m.options
  pub fits : length (spelling (widest m)) ≤ most
  pub plain : options_length 0 m.options ≤ options_length 0 (widest m).options

-- a response that the proxy generates: only a code
abbrev bare : Code → Message
bare code = record { kind = Non; code = code; id = 0; token = []; options = []; payload = [] }

-- the response of an answer: one that was received, or one that the proxy generates
pub data IsHoldable (most : ℕ) : Message → Type 0 where
  received : (m : Message) → IsSendable most m → IsHoldable most m
  of_proxy : (code : Code) → code.0 ≢ 0 → is_code code CONTENT ≡ false → IsHoldable most (bare code)

-- the proxy's own responses are such
pub bad_gateway-is : (most : ℕ) → IsHoldable most bad_gateway
bad_gateway-is most = of_proxy BAD_GATEWAY (λ e. absurd (omega arith)) refl

pub timeout-is : (most : ℕ) → IsHoldable most gateway_timeout
timeout-is most = of_proxy GATEWAY_TIMEOUT (λ e. absurd (omega arith)) refl

-- the accepted form of a response that is passed on can be sent to clients
passed_part-sendable : (most : ℕ) (to_get : Bool) (bytes : List ℕ) (m : Message) → IsBytes bytes → Spells bytes m → is_response m.code ≡ true → is_passed_on most to_get m ≡ true → IsSendable most (passed_part to_get m)
passed_part-sendable most to_get bytes m fit s response e = go (validates to_get m) (leb-true _ _ parts.1)
  where
    parts : (is_screened m ≡ true) × (fits most (passed_part to_get m) ≡ true)
    parts = and_parts (is_screened m) (fits most (passed_part to_get m)) e

    all : AllByRecursion (λ o. IsBytes o.value) (without_observe m).options
    all = kept-all (λ o. not (o.number == 6)) m.options (values-bytes 0 s.options m.options s.options_are (options-bytes bytes m s fit))

    are : AreOptions 0 (without_observe m).options
    are = AreOptions-filter (λ o. not (o.number == 6)) 0 m.options s.message.options

    plain : options_length 0 (without_observe m).options ≤ options_length 0 (widest (without_observe m)).options
    plain = within-widest m s.message.options parts.0

    go : (b : Bool) → length (spelling (widest (cond b (record (without_observe m) { payload = [] }) (without_observe m)))) ≤ most → IsSendable most (cond b (record (without_observe m) { payload = [] }) (without_observe m))
    go true le = record { code = response-code m.code response; options = are; bytes = all; fits = le; plain = plain }
    go false le = record { code = response-code m.code response; options = are; bytes = all; fits = le; plain = plain }

-- ---- renewal

-- what holds of options after others
All-joined : (P : Opt → Type 0) (xs ys : List Opt) → AllByRecursion P xs → AllByRecursion P ys → AllByRecursion P (xs ++ ys)
All-joined P [] ys xs_are ys_are = ys_are
All-joined P (x ∷ xs) ys xs_are ys_are = (xs_are.0, All-joined P xs ys xs_are.1 ys_are)

-- so it holds of newer options merged with older ones
updated-bytes : (newer older : List Opt) → AllByRecursion (λ o. IsBytes o.value) newer → AllByRecursion (λ o. IsBytes o.value) older → AllByRecursion (λ o. IsBytes o.value) (updated newer older)
updated-bytes [] older newer_are older_are = older_are
updated-bytes (o ∷ newer) older newer_are older_are =
    All-joined (λ o. IsBytes o.value) (below o.number older) (o ∷ updated newer (above o.number older)) (kept-all (λ p. ltb p.number o.number) older older_are)
    (newer_are.0, updated-bytes newer (above o.number older) newer_are.1 (kept-all (λ p. ltb o.number p.number) older older_are))

-- if there is an option of a kind, the kind is there
has-kind : (n : ℕ) (o : Opt) (os : List Opt) → of_number n os ≡ o ∷ [] → has_number n os ≡ true
has-kind n o [] e = absurd cc
has-kind n o (p ∷ ps) e = go (p.number == n) (has-kind n o ps) e
  where
    go : (b : Bool) → (of_number n ps ≡ o ∷ [] → has_number n ps ≡ true) → cond b (p ∷ of_number n ps) (of_number n ps) ≡ o ∷ [] → (b || has_number n ps) ≡ true
    go true rest f = refl
    go false rest f = rest f

-- the newer options of a 2.03 have one Max-Age
news-age : (v : Message) → of_number 14 (news_of v) ≡ option_of 14 (uint_spelling (max_age_of v)) ∷ []
news-age v = of_number-updated 14 0 (option_of 14 (uint_spelling (max_age_of v)) ∷ []) (safe_options v.options) (omega arith, omega arith, omega (arith, length-uint_spelling (max_age_of v)), tt)

-- and they are in order
news-options : (v : Message) → AreOptions 0 v.options → AreOptions 0 (news_of v)
news-options v are = with_max_age-options (max_age_of v) (safe_options v.options) (AreOptions-filter (λ o. not (is_unsafe o.number)) 0 v.options are)

-- bytes without leading zeros are bytes
zeros-bytes : (bs : List ℕ) → IsBytes bs → IsBytes (without_zeros bs)
zeros-bytes [] fit = fit
zeros-bytes (zero ∷ bs) fit = zeros-bytes bs (λ i. fit (suc i))
zeros-bytes (suc b ∷ bs) fit = fit

-- eight bytes are bytes
eight-bytes : (n : ℕ) → IsBytes (to_be_bytes w64 n)
eight-bytes n zero = omega arith
eight-bytes n (suc zero) = omega arith
eight-bytes n (suc (suc zero)) = omega arith
eight-bytes n (suc (suc (suc zero))) = omega arith
eight-bytes n (suc (suc (suc (suc zero)))) = omega arith
eight-bytes n (suc (suc (suc (suc (suc zero))))) = omega arith
eight-bytes n (suc (suc (suc (suc (suc (suc zero)))))) = omega arith
eight-bytes n (suc (suc (suc (suc (suc (suc (suc zero))))))) = omega arith
eight-bytes n (suc (suc (suc (suc (suc (suc (suc (suc i)))))))) = omega arith

-- so the encoding of a number consists of bytes
uint_spelling-bytes : (n : ℕ) → IsBytes (uint_spelling n)
unfolding uint_spelling
uint_spelling-bytes n = zeros-bytes (to_be_bytes w64 n) (eight-bytes n)

-- a response that is renewed can be sent to clients, if it fits
renewed-sendable : (most : ℕ) (r v : Message) → IsSendable most r → IsSendable most v → fits most (renewed r v) ≡ true → IsSendable most (renewed r v)
renewed-sendable most r v is by e =
    let news = news_of v in
    let in_order = AreOptions-updated 0 news r.options (news-options v by.options) is.options in
    let age = news-age v in
    let there = has-kind 14 _ news age in
    let one : of_number 14 (updated news r.options) ≡ option_of 14 (uint_spelling (max_age_of v)) ∷ [] = of_number-updated 14 0 news r.options (news-options v by.options) ∙ ap (λ (b : Bool). cond b (of_number 14 news) (of_number 14 r.options)) there ∙ age in
    let small = age-small v by.bytes in
    record {
      code = is.code;
      options = in_order;
      bytes = updated-bytes news r.options (updated-bytes (option_of 14 (uint_spelling (max_age_of v)) ∷ []) (safe_options v.options) (uint_spelling-bytes (max_age_of v), tt) (kept-all (λ o. not (is_unsafe o.number)) v.options by.bytes)) is.bytes;
      fits = leb-true _ _ e;
      plain = no-longer (uint_spelling greatest_max_age) 0 (updated news r.options) four-bytes (omega arith) in_order (one_age _ one (uint_spelling-four (max_age_of v) small));
    }

-- ---- answers

-- an answer has such a response, if the response that it may renew is one
pub answer-holdable : (most got : ℕ) (to_get : Bool) (copy : Option Message) (bytes : List ℕ) (m : Message) → IsBytes bytes → Spells bytes m → (is_rst m.kind ≡ false → is_response m.code ≡ true) → IfSome copy (IsHoldable most) → IsHoldable most (answer_of most to_get copy got m).message
unfolding answer_of
answer-holdable most got to_get copy bytes m fit s response old = go (is_rst m.kind) refl (is_passed_on most to_get m) refl
  where
    fitting : (r : Message) (b : Bool) → fits most r ≡ b → (fits most r ≡ true → IsSendable most r) → IsHoldable most (cond b (origin_answer got r) (own_answer got bad_gateway)).message
    fitting r true e is = received r (is e)
    fitting r false e is = bad_gateway-is most

    renews : (r v : Message) → IsHoldable most r → IsSendable most v → IsHoldable most (validated most got (Some r) v).message
    renews r v (received _ sendable) is = both (is_validated r v)
      where
        both : (b : Bool) → IsHoldable most (cond b (answer_if_fits most got (renewed r v)) (own_answer got bad_gateway)).message
        both true = fitting (renewed r v) (fits most (renewed r v)) refl (renewed-sendable most r v sendable is)
        both false = bad_gateway-is most
    renews r v (of_proxy code some other) is = rw other (bad_gateway-is most)

    valid : (o : Option Message) (v : Message) → IfSome o (IsHoldable most) → IsSendable most v → IsHoldable most (validated most got o v).message
    valid None v holdable is = bad_gateway-is most
    valid (Some r) v holdable is = renews r v holdable is

    taken : (v : Bool) (t : Message) → IsSendable most t → IsHoldable most (cond v (validated most got copy t) (origin_answer got t)).message
    taken true t is = valid copy t old is
    taken false t is = received t is

    go : (r : Bool) → is_rst m.kind ≡ r → (b : Bool) → is_passed_on most to_get m ≡ b → IsHoldable most (cond (not r && b) (answer_taken most to_get copy got m) (own_answer got bad_gateway)).message
    go false no_reset true passed = taken (validates to_get m) (passed_part to_get m) (passed_part-sendable most to_get bytes m fit s (response no_reset) passed)
    go false no_reset false passed = bad_gateway-is most
    go true reset b passed = bad_gateway-is most

-- it is well-formed
holdable-sound : (most : ℕ) (m : Message) → IsHoldable most m → IsSound m
holdable-sound most _ (received m is) = record { code = is.code; options = is.options }
holdable-sound most _ (of_proxy code some other) = record { code = some; options = tt }

-- a payload is no longer than with its marker
payload-least : (payload : List ℕ) → length payload ≤ payload_length payload
payload-least [] = omega arith
payload-least (p ∷ ps) = omega arith

-- and no longer than a datagram: its encoded options and its payload
pub holdable-short : (most : ℕ) (m : Message) → IsHoldable most m → options_length 0 m.options + length m.payload ≤ most
holdable-short most _ (received m is) = let fit = is.fits in let plain = is.plain in omega (arith, fit, plain, spelling-length (widest m), payload-least m.payload)
holdable-short most _ (of_proxy code some other) = omega arith

-- what is sent of it is a message
pub shown-is : (most : ℕ) (kind : Kind) (to_get : Bool) (now : ℕ) (a : Answer) (id : ℕ) (token : List ℕ) (tags : List (List ℕ)) → IsHoldable most a.message → length token ≤ 8 → IsMessage (shown_as kind to_get now a id token tags)
shown-is most kind to_get now a id token tags holdable short =
    let s = case-sound a.message (holdable-sound most a.message holdable) (shown-as a.message (left_to_show to_get now a) tags) in
    record { token = short; options = s.options; bare = record { token = λ e. absurd (s.code e); options = λ e. absurd (s.code e); payload = λ e. absurd (s.code e) } }

-- ---- what is sent fits a datagram

-- each case of a response that was received takes no more than the widest form
case-short : {left : Option ℕ} {n : Message} (most id : ℕ) (kind : Kind) (m : Message) (token : List ℕ) → 128 ≤ most → length token ≤ 8 → length (spelling (widest m)) ≤ most → options_length 0 m.options ≤ options_length 0 (widest m).options → IfSome left (λ l. l < 2 ^ 32) → IsShownAs m left n → length (spelling (showing.addressed kind id token n)) ≤ most
case-short most id kind m token wide short fit plain small (as_stored left) = omega (arith, spelling-length (showing.addressed kind id token m), spelling-length (widest m), short, fit, plain)
case-short most id kind m token wide short fit plain small (as_valid left tag eight) =
    omega (arith, spelling-length (showing.addressed kind id token (valid m left tag)), wide, short, eight, uint_spelling-four left small, more-none (length tag) (omega (arith, eight)), more-none (length (uint_spelling left)) (omega (arith, uint_spelling-four left small)))
case-short most id kind m token wide short fit plain small (as_aged left) =
    omega (arith, spelling-length (showing.addressed kind id token (aged m left)), spelling-length (widest m), short, fit, shorter-value (uint_spelling left) (uint_spelling greatest_max_age) m.options (uint_spelling-four left small) four-bytes)

-- and each case of one that the proxy generates is short
bare-short : {left : Option ℕ} {n : Message} (most id : ℕ) (kind : Kind) (code : Code) (token : List ℕ) → 128 ≤ most → length token ≤ 8 → IfSome left (λ l. l < 2 ^ 32) → IsShownAs (bare code) left n → length (spelling (showing.addressed kind id token n)) ≤ most
bare-short most id kind code token wide short small (as_stored left) = omega (arith, spelling-length (showing.addressed kind id token (bare code)), wide, short)
bare-short most id kind code token wide short small (as_valid left tag eight) =
    omega (arith, spelling-length (showing.addressed kind id token (valid (bare code) left tag)), wide, short, eight, uint_spelling-four left small, more-none (length tag) (omega (arith, eight)), more-none (length (uint_spelling left)) (omega (arith, uint_spelling-four left small)))
bare-short most id kind code token wide short small (as_aged left) =
    omega (arith, spelling-length (showing.addressed kind id token (aged (bare code) left)), wide, short, uint_spelling-four left small, more-none (length (uint_spelling left)) (omega (arith, uint_spelling-four left small)))

-- the rest of its Max-Age fits four bytes
age-held : (most : ℕ) (m : Message) → IsHoldable most m → max_age_of m < 2 ^ 32
age-held most _ (received m is) = age-small m is.bytes
age-held most _ (of_proxy code some other) = omega arith

left-small : (most now : ℕ) (to_get : Bool) (a : Answer) → IsHoldable most a.message → IfSome (left_to_show to_get now a) (λ l. l < 2 ^ 32)
left-small most now to_get a holdable = go (to_get && not a.own)
  where
    go : (b : Bool) → IfSome (cond b (Some (left_of now a)) None) (λ l. l < 2 ^ 32)
    go true = let age = age-held most a.message holdable in omega (arith, age)
    go false = tt

-- what is sent of an answer fits a datagram, and so a longer one
pub shown-fits : (most longest : ℕ) (kind : Kind) (to_get : Bool) (now : ℕ) (a : Answer) (id : ℕ) (token : List ℕ) (tags : List (List ℕ)) → 128 ≤ longest → most ≤ longest → IsHoldable most a.message → length token ≤ 8 → length (spelling (shown_as kind to_get now a id token tags)) ≤ longest
shown-fits most longest kind to_get now a id token tags wide no_shorter holdable short =
    go a.message (left_to_show to_get now a) holdable (left-small most now to_get a holdable) (shown-as a.message (left_to_show to_get now a) tags)
  where
    go : {n : Message} (m : Message) (left : Option ℕ) → IsHoldable most m → IfSome left (λ l. l < 2 ^ 32) → IsShownAs m left n → length (spelling (showing.addressed kind id token n)) ≤ longest
    go _ left (received m is) small shown = case-short longest id kind m token wide short (let fit = is.fits in omega (arith, no_shorter, fit)) is.plain small shown
    go _ left (of_proxy code some other) small shown = bare-short longest id kind code token wide short small shown
