-- Responses that are never fresh.
use Rattle.std.proofs.Common.{◌≡◌, ◌<◌, inl, inr, ℕ, true, false, List, [], ◌∷◌, refl, sym, ap, ◌∙◌, subst, arith}
use Rattle.std.specs.Prelude.{◌&&◌}
use Rattle.std.specs.Option.{option_map_or}
use Rattle.std.proofs.lemmas.Bool.{and_parts}
use Rattle.coap_message.specs.declared.code.TheConstants.Code.{CONTENT, VALID}
use Rattle.coap_message.specs.Codes.{is_code}
use Rattle.coap_message.specs.Message.{Message}
use Rattle.coap_message.specs.Reading.{read_message, body_at, options_within, option_at, extended}
use Rattle.coap_message.specs.Spelling.{Spells, spelling, option_spelling}
use Rattle.coap_message.specs.Uint.{uint_spelling}
use Rattle.coap_message.proofs.WholeMessages.{read_is}
use Rattle.coap_option.specs.Selection.{max_age_of}
use Rattle.coap_limits.specs.Limits.{default_limits}
use Rattle.coap_store.specs.Renewing.{has_tag, is_validated, tag_of}
use Rattle.coap_forward.specs.Answers.{fits, passed_part}
use Rattle.coap_forward.specs.Forms.{target_options}
use Rattle.coap_forward.specs.Messages.{token_of}
use Rattle.coap_model.specs.Cached.{first_hand, validated, IsFetched, IsObtained}
use Rattle.coap_model.specs.CacheExamples.{first_entry}
use Rattle.coap_model.specs.Forged.{asked, opened, setting}
use Rattle.coap_model.specs.History.{Gets}
use Rattle.coap_model.specs.Keys.{key_sent, target_sent}
use Rattle.coap_model.specs.OptionExamples.{key_of_temp}
use Rattle.coap_model.specs.WordExamples.{asks_tagged, tagged_past, validated_past}
use Rattle.coap_model.proofs.CacheExamples.{are-bytes, first_asks}
use Rattle.coap_model.proofs.MarksAndTaints.{newest-unchanged, one-getting}
use Rattle.coap_model.proofs.Positions.{here}
use Rattle.test_promises.specs.Ages.{ageless, ageless_bytes, ageless_valid, ageless_valid_bytes, gets_ageless, gets_ageless_valid}
use Rattle.test_promises.specs.Fetches.{get_past}
use Rattle.test_promises.proofs.Arriving.{fetched-by, gets-by}
use Rattle.test_promises.specs.Validations.{renewed_by, tags_asked, IsAsked}
use Rattle.test_promises.proofs.Validating.{tagged_asks, tagged_obtained}

-- the response with a Max-Age of 0 arrives
ageless_spelled : Spells ageless_bytes ageless
unfolding read_message body_at options_within option_at extended token_of
ageless_spelled = read_is ageless_bytes ageless (are-bytes ageless_bytes refl) refl

abbrev ageless_gets : Gets setting 1 (here get_past gets_ageless)
ageless_gets = gets-by default_limits get_past gets_ageless 1 ageless_bytes ageless (here (opened ∷ []) asked) refl refl refl (inl refl) first_asks refl refl refl refl refl (are-bytes ageless_bytes refl) ageless_spelled (omega arith)

-- another message than a 2.03 validates nothing
no-validation : (old m : Message) → is_code m.code VALID ≡ false → is_validated old m ≡ true → ⊥
no-validation old m none valid =
    let both = (and_parts (is_code old.code CONTENT && is_code m.code VALID) (option_map_or (λ (t : List ℕ). has_tag t m) (tag_of old.options) false) valid).0 in
    let one = (and_parts (is_code old.code CONTENT) (is_code m.code VALID) both).1 in
    absurd (let e : true ≡ false = sym one ∙ none in cc)

-- it isn't obtained
pub not_ageless : (response : Message) → ¬ IsObtained setting key_of_temp response first_entry.asking (here get_past gets_ageless)
unfolding token_of
not_ageless response (first_hand fetched is lasting) =
    let same : response ≡ ageless = is ∙ ap (passed_part true) (one-getting fetched.gets ageless_gets).message in
    let age : 0 < 0 = subst (λ (m : Message). 0 < max_age_of m) same lasting.max_age in
    omega (arith, age)
not_ageless response (validated {old = old} fetched tag obtained behind tagged sent is renewal fit lasting) =
    absurd (no-validation old (passed_part true ageless) refl (subst (λ (m : Message). is_validated old (passed_part true m) ≡ true) (one-getting fetched.gets ageless_gets).message is))

-- though it was fetched
pub ageless_fetched : IsFetched setting key_of_temp first_entry.asking (here get_past gets_ageless)
unfolding token_of target_options target_sent key_sent spelling option_spelling uint_spelling
ageless_fetched = fetched-by default_limits key_of_temp ageless_gets _ refl refl refl refl (newest-unchanged setting key_of_temp.target (opened ∷ []) asked refl)

-- as it came
pub ageless_message : ageless_fetched.gets.meets.message ≡ ageless
unfolding ageless_fetched token_of target_options target_sent key_sent spelling option_spelling uint_spelling
ageless_message = refl

-- the 2.03 with a Max-Age of 0 arrives
ageless_valid_spelled : Spells ageless_valid_bytes ageless_valid
unfolding read_message body_at options_within option_at extended token_of
ageless_valid_spelled = read_is ageless_valid_bytes ageless_valid (are-bytes ageless_valid_bytes refl) refl

abbrev ageless_valid_gets : Gets setting 2 (here validated_past gets_ageless_valid)
ageless_valid_gets = gets-by default_limits validated_past gets_ageless_valid 2 ageless_valid_bytes ageless_valid (here tagged_past asks_tagged) refl refl refl (inl refl) tagged_asks refl refl refl refl refl (are-bytes ageless_valid_bytes refl) ageless_valid_spelled (omega arith)

-- what gets its Max-Age isn't obtained
pub not_ageless_valid : ¬ IsObtained setting key_of_temp (renewed_by ageless_valid) (here tagged_past asks_tagged) (here validated_past gets_ageless_valid)
unfolding uint_spelling
not_ageless_valid (first_hand fetched is lasting) = let age : 0 < 0 = lasting.max_age in omega (arith, age)
not_ageless_valid (validated fetched tag obtained behind tagged sent is renewal fit lasting) = let age : 0 < 0 = lasting.max_age in omega (arith, age)

-- though it was asked for
pub ageless_valid_asked : IsAsked default_limits (here tagged_past asks_tagged) (here validated_past gets_ageless_valid) ageless_valid
unfolding token_of target_options target_sent key_sent spelling option_spelling uint_spelling
ageless_valid_asked = record {
  fetched = fetched-by default_limits key_of_temp ageless_valid_gets _ refl refl refl refl (newest-unchanged setting key_of_temp.target tagged_past asks_tagged refl);
  message = refl;
  obtained = tagged_obtained default_limits (omega arith) refl;
  behind = inr (inl refl);
}

-- with the right tag
pub ageless_valid_tags : tags_asked ageless_valid_asked ≡ (0xAB ∷ []) ∷ []
unfolding ageless_valid_asked token_of target_options target_sent key_sent spelling option_spelling uint_spelling
ageless_valid_tags = refl

-- and what it would make of the cached response fits
pub ageless_valid_fits : fits default_limits.datagram (renewed_by ageless_valid) ≡ true
unfolding token_of spelling option_spelling uint_spelling
ageless_valid_fits = refl
