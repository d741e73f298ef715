-- Responses to a request with a tag that renew nothing.
use Rattle.std.proofs.Common.{◌≡◌, inl, inr, ℕ, ◌≤◌, Bool, true, false, List, [], ◌∷◌, get_or, Option, Some, refl, sym, ap, ◌∙◌, subst, arith}
use Rattle.std.specs.Prelude.{◌&&◌, if◌then◌else◌}
use Rattle.std.specs.Option.{option_map_or}
use Rattle.std.proofs.lemmas.Bool.{and_parts}
use Rattle.coap_message.specs.declared.code.TheConstants.Code.{CONTENT, VALID}
use Rattle.coap_message.specs.Codes.{is_code}
use Rattle.coap_message.specs.Message.{Message}
use Rattle.coap_message.specs.Reading.{read_message, body_at, options_within, option_at, extended}
use Rattle.coap_message.specs.Spelling.{Spells, spelling, option_spelling}
use Rattle.coap_message.specs.Uint.{uint_spelling}
use Rattle.coap_message.proofs.WholeMessages.{read_is}
use Rattle.coap_option.specs.Selection.{tags_of}
use Rattle.coap_limits.specs.Limits.{Limits, default_limits}
use Rattle.coap_store.specs.declared.key.CacheKey.{CacheKey}
use Rattle.coap_store.specs.Renewing.{has_tag, is_validated, renewed, tag_of}
use Rattle.coap_store.specs.Showing.{is_cacheable}
use Rattle.coap_forward.specs.Answers.{fits, is_passed_on, passed_part, validates, without_observe}
use Rattle.coap_forward.specs.Forms.{target_options}
use Rattle.coap_forward.specs.Messages.{token_of}
use Rattle.coap_model.specs.Cached.{first_hand, validated, IsFetched, IsLasting, IsObtained}
use Rattle.coap_model.specs.CacheExamples.{opens_again}
use Rattle.coap_model.specs.Examples.{origin}
use Rattle.coap_model.specs.Forged.{asked, opened, setting}
use Rattle.coap_model.specs.History.{Asks, Action, Gets, Never, Position, Sends}
use Rattle.coap_model.specs.Keys.{key_sent, target_sent}
use Rattle.coap_model.specs.OptionExamples.{key_of_temp}
use Rattle.coap_model.specs.WordExamples.{asks_tagged, gets_tagged, gets_valid, setting_with, tagged_bytes, tagged_content, tagged_get, tagged_get_bytes, tagged_past, valid_bytes, valid_message, validated_past}
use Rattle.coap_model.proofs.CacheExamples.{are-bytes, first_asks, unsent}
use Rattle.coap_model.proofs.MarksAndTaints.{newest-unchanged, one-getting}
use Rattle.coap_model.proofs.ForgedHits.{early_unsent}
use Rattle.coap_model.proofs.Positions.{here}
use Rattle.test_promises.specs.Validations.{asks_other, format_valid, format_valid_bytes, gets_format_valid, gets_other_valid, limits_of, other_get, other_get_bytes, other_past, other_valid, other_valid_bytes, renewed_by, tags_asked, IsAsked}
use Rattle.test_promises.proofs.Arriving.{fetched-by, gets-by}

-- ---- what arrives

-- the datagrams encode these messages: the cached response
tagged_spelled : Spells tagged_bytes tagged_content
unfolding read_message body_at options_within option_at extended token_of
tagged_spelled = read_is tagged_bytes tagged_content (are-bytes tagged_bytes refl) refl

-- the request with the tag AB
pub tagged_get_spelled : Spells tagged_get_bytes tagged_get
unfolding read_message body_at options_within option_at extended token_of target_options uint_spelling
tagged_get_spelled = read_is tagged_get_bytes tagged_get (are-bytes tagged_get_bytes refl) refl

-- the one with the tag CD
other_get_spelled : Spells other_get_bytes other_get
unfolding read_message body_at options_within option_at extended token_of target_options uint_spelling
other_get_spelled = read_is other_get_bytes other_get (are-bytes other_get_bytes refl) refl

-- the 2.03 with the tag AB
valid_spelled : Spells valid_bytes valid_message
unfolding read_message body_at options_within option_at extended token_of
valid_spelled = read_is valid_bytes valid_message (are-bytes valid_bytes refl) refl

-- the one with the tag CD
other_valid_spelled : Spells other_valid_bytes other_valid
unfolding read_message body_at options_within option_at extended token_of
other_valid_spelled = read_is other_valid_bytes other_valid (are-bytes other_valid_bytes refl) refl

-- and the one with a Content-Format
format_valid_spelled : Spells format_valid_bytes format_valid
unfolding read_message body_at options_within option_at extended token_of
format_valid_spelled = read_is format_valid_bytes format_valid (are-bytes format_valid_bytes refl) refl

-- the second request wasn't sent before the cached response came
pub unasked : Never (Sends 0 2) tagged_past
unasked = (unsent 2 (gets_tagged ∷ asked ∷ opened ∷ []) opens_again (λ e. cc), (unsent 2 (asked ∷ opened ∷ []) gets_tagged (λ e. cc), early_unsent.1))

-- so it was first sent there, with the tag AB
abbrev pub tagged_asks : Asks 0 2 (here tagged_past asks_tagged)
tagged_asks = record {
  sends = record { act = refl; outcome = refl; to = origin; sent = refl; message = tagged_get; spells = tagged_get_spelled; token = refl };
  first = unasked;
}

-- or with the tag CD
abbrev other_asks : Asks 0 2 (here tagged_past asks_other)
other_asks = record {
  sends = record { act = refl; outcome = refl; to = origin; sent = refl; message = other_get; spells = other_get_spelled; token = refl };
  first = unasked;
}

-- the cached response arrives
abbrev tagged_gets : (limits : Limits) → 19 ≤ limits.datagram → Gets (setting_with limits) 1 (here (asked ∷ opened ∷ []) gets_tagged)
tagged_gets limits long = gets-by limits (asked ∷ opened ∷ []) gets_tagged 1 tagged_bytes tagged_content (here (opened ∷ []) asked) refl refl refl (inl refl) first_asks refl refl refl refl refl (are-bytes tagged_bytes refl) tagged_spelled long

-- it may be kept
pub tagged_obtained : (limits : Limits) → 19 ≤ limits.datagram → is_passed_on limits.datagram true tagged_content ≡ true → IsObtained (setting_with limits) key_of_temp tagged_content (here (opened ∷ []) asked) (here (asked ∷ opened ∷ []) gets_tagged)
unfolding token_of target_options target_sent key_sent spelling option_spelling uint_spelling
tagged_obtained limits long passed =
    first_hand (fetched-by limits key_of_temp (tagged_gets limits long) _ refl refl refl passed (newest-unchanged (setting_with limits) key_of_temp.target (opened ∷ []) asked refl))
    refl (record { code = refl; max_age = omega arith })

-- ---- renewals

-- the cached response is renewed by a message that arrives so, if the words that are left hold
pub renewal-whole : (limits : Limits) (asking getting : Position) (m : Message) (is : IsAsked limits asking getting m) → tags_asked is ≡ (0xAB ∷ []) ∷ [] → is_validated tagged_content (passed_part true m) ≡ true → fits limits.datagram (renewed_by m) ≡ true → IsLasting (renewed_by m)
    → IsObtained (setting_with limits) key_of_temp (renewed_by m) asking getting
renewal-whole limits asking getting m is tags valid fit lasting =
    validated is.fetched (0xAB ∷ []) is.obtained is.behind refl tags
    (subst (λ (n : Message). is_validated tagged_content (passed_part true n) ≡ true) (sym is.message) valid)
    (ap (λ (n : Message). renewed_by n) (sym is.message))
    fit lasting

-- ---- a response with another tag

-- the 2.03 with the tag CD arrives
abbrev other_valid_gets : Gets setting 2 (here validated_past gets_other_valid)
other_valid_gets = gets-by default_limits validated_past gets_other_valid 2 other_valid_bytes other_valid (here tagged_past asks_tagged) refl refl refl (inl refl) tagged_asks refl refl refl refl refl (are-bytes other_valid_bytes refl) other_valid_spelled (omega arith)

-- a 2.03 alone isn't a response that may be kept
not-alone : {limits : Limits} {key : CacheKey} {response m : Message} {asking : Position} {past : List Action} {d : Action} (gets : Gets (setting_with limits) 2 (here past d)) → m.code ≡ VALID → gets.meets.message ≡ m → (fetched : IsFetched (setting_with limits) key asking (here past d)) → response ≡ passed_part true fetched.gets.meets.message → IsLasting response → ⊥
not-alone {response = response} {m = m} gets code same fetched is lasting =
    let taken : response.code ≡ VALID = ap (λ (n : Message). n.code) is ∙ ap (λ (n : Message). (passed_part true n).code) ((one-getting fetched.gets gets).message ∙ same) ∙ passed_part-code m code in
    let none : is_cacheable response.code ≡ false = ap is_cacheable taken in
    absurd (let e = sym lasting.code ∙ none in cc)
  where
    passed_part-code : (n : Message) → n.code ≡ VALID → (passed_part true n).code ≡ VALID
    passed_part-code n valid = go (validates true n)
      where
        go : (b : Bool) → (if b then record (without_observe n) { payload = [] } else without_observe n).code ≡ VALID
        go true = valid
        go false = valid

-- the tag that was asked about is the response's, if it renews anything
same-tag : (old m : Message) (tag : List ℕ) → tag_of old.options ≡ Some tag → is_validated old m ≡ true → has_tag tag m ≡ true
same-tag old m tag tagged is =
    let found = (and_parts (is_code old.code CONTENT && is_code m.code VALID) (option_map_or (λ (t : List ℕ). has_tag t m) (tag_of old.options) false) is).1 in
    subst (λ (o : Option (List ℕ)). option_map_or (λ (t : List ℕ). has_tag t m) o false ≡ true) tagged found

-- the tag of a request with one tag
one-tag : (tag other : List ℕ) → other ∷ [] ≡ tag ∷ [] → other ≡ tag
one-tag tag other same = ap (λ (tags : List (List ℕ)). get_or tags 0 []) same

-- nothing is renewed by a 2.03 with another tag
pub not_other_valid : (response : Message) → ¬ IsObtained setting key_of_temp response (here tagged_past asks_tagged) (here validated_past gets_other_valid)
unfolding target_options uint_spelling
not_other_valid response (first_hand fetched is lasting) = not-alone {limits = default_limits} {m = other_valid} other_valid_gets refl refl fetched is lasting
not_other_valid response (validated {old = old} fetched tag obtained behind tagged sent is renewal fit lasting) =
    let one = one-getting fetched.gets other_valid_gets in
    let tag_is : 0xAB ∷ [] ≡ tag = one-tag tag (0xAB ∷ []) (sym (ap (λ (m : Message). tags_of m) one.asked) ∙ sent) in
    let valid : is_validated old (passed_part true other_valid) ≡ true = subst (λ (m : Message). is_validated old (passed_part true m) ≡ true) one.message is in
    let same : has_tag (0xAB ∷ []) (passed_part true other_valid) ≡ true = subst (λ (t : List ℕ). has_tag t (passed_part true other_valid) ≡ true) (sym tag_is) (same-tag old (passed_part true other_valid) tag tagged valid) in
    absurd (let e : false ≡ true = same in cc)

-- though it was asked for
pub other_valid_asked : IsAsked default_limits (here tagged_past asks_tagged) (here validated_past gets_other_valid) other_valid
unfolding token_of target_options target_sent key_sent spelling option_spelling uint_spelling
other_valid_asked = record {
  fetched = fetched-by default_limits key_of_temp other_valid_gets _ refl refl refl refl (newest-unchanged setting key_of_temp.target tagged_past asks_tagged refl);
  message = refl;
  obtained = tagged_obtained default_limits (omega arith) refl;
  behind = inr (inl refl);
}

-- with the right tag
pub other_valid_tags : tags_asked other_valid_asked ≡ (0xAB ∷ []) ∷ []
unfolding other_valid_asked token_of target_options target_sent key_sent spelling option_spelling uint_spelling
other_valid_tags = refl

-- what it would make of the cached response fits
pub other_valid_fits : fits default_limits.datagram (renewed_by other_valid) ≡ true
unfolding token_of spelling option_spelling uint_spelling
other_valid_fits = refl

-- and would last
pub other_valid_lasts : IsLasting (renewed_by other_valid)
unfolding uint_spelling
other_valid_lasts = record { code = refl; max_age = omega arith }

-- ---- a request with another tag

-- the 2.03 with the tag AB arrives for it
abbrev other_gets : Gets setting 2 (here other_past gets_valid)
other_gets = gets-by default_limits other_past gets_valid 2 valid_bytes valid_message (here tagged_past asks_other) refl refl refl (inl refl) other_asks refl refl refl refl refl (are-bytes valid_bytes refl) valid_spelled (omega arith)

-- nothing is renewed after a request with another tag
pub not_other_get : (response : Message) → ¬ IsObtained setting key_of_temp response (here tagged_past asks_other) (here other_past gets_valid)
unfolding target_options uint_spelling
not_other_get response (first_hand fetched is lasting) = not-alone {limits = default_limits} {m = valid_message} other_gets refl refl fetched is lasting
not_other_get response (validated {old = old} fetched tag obtained behind tagged sent is renewal fit lasting) =
    let one = one-getting fetched.gets other_gets in
    let tag_is : 0xCD ∷ [] ≡ tag = one-tag tag (0xCD ∷ []) (sym (ap (λ (m : Message). tags_of m) one.asked) ∙ sent) in
    let valid : is_validated old (passed_part true valid_message) ≡ true = subst (λ (m : Message). is_validated old (passed_part true m) ≡ true) one.message is in
    let same : has_tag (0xCD ∷ []) (passed_part true valid_message) ≡ true = subst (λ (t : List ℕ). has_tag t (passed_part true valid_message) ≡ true) (sym tag_is) (same-tag old (passed_part true valid_message) tag tagged valid) in
    absurd (let e : false ≡ true = same in cc)

-- the 2.03 was fetched
other_fetched : IsFetched setting key_of_temp (here tagged_past asks_other) (here other_past gets_valid)
unfolding token_of target_options target_sent key_sent spelling option_spelling uint_spelling
other_fetched = fetched-by default_limits key_of_temp other_gets _ refl refl refl refl (newest-unchanged setting key_of_temp.target tagged_past asks_other refl)

-- it was asked for, though with another tag
pub other_get_asked : IsAsked default_limits (here tagged_past asks_other) (here other_past gets_valid) valid_message
unfolding other_fetched token_of spelling option_spelling
other_get_asked = record { fetched = other_fetched; message = refl; obtained = tagged_obtained default_limits (omega arith) refl; behind = inr (inl refl) }

-- what it would make of the cached response fits
pub valid_fits : fits default_limits.datagram (renewed_by valid_message) ≡ true
unfolding token_of spelling option_spelling uint_spelling
valid_fits = refl

-- and would last
pub valid_lasts : IsLasting (renewed_by valid_message)
unfolding uint_spelling
valid_lasts = record { code = refl; max_age = omega arith }

-- ---- a response that grows too long

-- the 2.03 with a Content-Format arrives
abbrev format_gets : (limits : Limits) → 18 ≤ limits.datagram → Gets (setting_with limits) 2 (here validated_past gets_format_valid)
format_gets limits long = gets-by limits validated_past gets_format_valid 2 format_valid_bytes format_valid (here tagged_past asks_tagged) refl refl refl (inl refl) tagged_asks refl refl refl refl refl (are-bytes format_valid_bytes refl) format_valid_spelled long

-- it was asked for, in datagrams for which it and the cached response are not too long
abbrev format-asked : (limits : Limits) → 19 ≤ limits.datagram → is_passed_on limits.datagram true tagged_content ≡ true → is_passed_on limits.datagram true format_valid ≡ true → IsAsked limits (here tagged_past asks_tagged) (here validated_past gets_format_valid) format_valid
unfolding token_of target_options target_sent key_sent spelling option_spelling uint_spelling
format-asked limits long passed valid = record {
  fetched = fetched-by limits key_of_temp (format_gets limits (omega (arith, long))) _ refl refl refl valid (newest-unchanged (setting_with limits) key_of_temp.target tagged_past asks_tagged refl);
  message = refl;
  obtained = tagged_obtained limits long passed;
  behind = inr (inl refl);
}

-- and lasts
pub format_lasts : IsLasting (renewed_by format_valid)
unfolding uint_spelling
format_lasts = record { code = refl; max_age = omega arith }

-- so it is obtained with 24 bytes
pub format_fits : IsObtained (setting_with (limits_of 24)) key_of_temp (renewed_by format_valid) (here tagged_past asks_tagged) (here validated_past gets_format_valid)
unfolding token_of target_options target_sent key_sent spelling option_spelling uint_spelling
format_fits = renewal-whole (limits_of 24) _ _ format_valid (format-asked (limits_of 24) (omega arith) refl refl) refl refl refl format_lasts

-- it is asked for with 23 bytes, too
pub format_is_asked : IsAsked (limits_of 23) (here tagged_past asks_tagged) (here validated_past gets_format_valid) format_valid
unfolding token_of target_options target_sent key_sent spelling option_spelling uint_spelling
format_is_asked = format-asked (limits_of 23) (omega arith) refl refl

-- with the right tag
pub format_tags : tags_asked format_is_asked ≡ (0xAB ∷ []) ∷ []
unfolding format_is_asked token_of target_options target_sent key_sent spelling option_spelling uint_spelling
format_tags = refl

-- but what it makes of the cached response is too long then
pub not_format : ¬ IsObtained (setting_with (limits_of 23)) key_of_temp (renewed tagged_content (passed_part true format_valid)) (here tagged_past asks_tagged) (here validated_past gets_format_valid)
unfolding token_of target_options spelling option_spelling uint_spelling
not_format (first_hand fetched is lasting) = not-alone {limits = limits_of 23} {m = format_valid} (format_gets (limits_of 23) (omega arith)) refl refl fetched is lasting
not_format (validated fetched tag obtained behind tagged sent is renewal fit lasting) = absurd (let e : false ≡ true = fit in cc)
