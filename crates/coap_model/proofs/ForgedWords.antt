-- Histories and observations that break one word of the promise in short.
use Rattle.std.proofs.Common.{◌≡◌, inl, inr, ℕ, ◌+◌, ◌≤◌, Bool, true, false, List, [], ◌∷◌, length, get_or, Option, None, Result, Ok, Err, refl, sym, ap, ◌∙◌, subst, arith}
use Rattle.std.specs.Prelude.{◌&&◌, if◌then◌else◌}
use Rattle.std.specs.Option.{option_map_or}
use Rattle.std.proofs.lemmas.Bool.{and_parts}
use Rattle.coap_message.specs.declared.code.TheConstants.Code.{CONTENT, NOT_FOUND, VALID}
use Rattle.coap_message.specs.declared.error.DecodeError.{DecodeError}
use Rattle.coap_message.specs.declared.kind.Kind.TheVariants.{Ack}
use Rattle.coap_message.specs.Codes.{is_code, is_response}
use Rattle.coap_message.specs.Message.{Message}
use Rattle.coap_message.specs.Reading.{read_message, body_at, options_within, option_at, extended}
use Rattle.coap_message.specs.Spelling.{Spells, spelling, option_spelling}
use Rattle.coap_message.specs.Uint.{IsBytes, uint_spelling}
use Rattle.coap_message.proofs.WholeMessages.{read_again, read_is}
use Rattle.coap_option.specs.Selection.{max_age_of, tags_of}
use Rattle.coap_endpoint.specs.declared.endpoint.Endpoint.{Endpoint}
use Rattle.coap_target.specs.Routes.{mapped_target}
use Rattle.coap_target.specs.Request.{request_target}
use Rattle.coap_store.specs.declared.key.CacheKey.{CacheKey}
use Rattle.coap_store.specs.Freshness.{is_fresh}
use Rattle.coap_store.specs.Renewing.{has_tag, is_validated, renewed, tag_of}
use Rattle.coap_store.specs.Showing.{is_cacheable}
use Rattle.coap_forward.specs.Answers.{is_passed_on, shown, stored_answer, passed_part}
use Rattle.coap_forward.specs.Changes.{changed_by}
use Rattle.coap_forward.specs.Forms.{target_options}
use Rattle.coap_forward.specs.Messages.{at_once, own_reply, token_of}
use Rattle.coap_model.specs.Cached.{Cached, empty, entry_of_cached, first_hand, otherwise, validated, IsFetched, IsLasting, IsObtained, WasObtained}
use Rattle.coap_model.specs.CacheExamples.{content_for, get_for, kept_past, hits, hit_past, opened_past, asked_past, opens_again, asks_again, first_entry}
use Rattle.coap_model.specs.Changed.{key_asked, to_get, Unchanged}
use Rattle.coap_model.specs.Events.{arrival}
use Rattle.coap_model.specs.Examples.{client, origin}
use Rattle.coap_model.specs.Forged.{setting, opened, opened_too, asked}
use Rattle.coap_model.specs.ForgedHits.{reply}
use Rattle.coap_model.specs.History.{Asks, Action, Observation, Gets, Gives, IsPositionOf, Never, Position, Sends, in_acknowledgement, told_by}
use Rattle.coap_model.specs.Keys.{target_sent, key_sent}
use Rattle.coap_model.specs.LimitExamples as limited
use Rattle.coap_model.specs.OptionExamples.{key_of_temp}
use Rattle.coap_model.specs.Verdicts.{verdict_of}
use Rattle.coap_endpoint.specs.Endpoint.{same_endpoint}
use Rattle.coap_dedup.specs.declared.record.Record.{Record}
use Rattle.coap_model.specs.MessageIds.{IdsDiffer}
use Rattle.coap_model.specs.State.{State}
use Rattle.coap_model.specs.Schedules.{AreSpaced}
use Rattle.coap_model.specs.Standing.{one_if}
use Rattle.coap_model.specs.Word.{IsFromCache, IsWithin, KeepsItsWord}
use Rattle.coap_model.specs.WordExamples.{answers, asks_tagged, block_bytes, block_content, early_past, gets_block, gets_tagged, five_sends, gets_valid, limits_of_two, of_one_id, refused_with_1, setting_with, six_sends, stale_reply, two_pending, tagged_bytes, tagged_content, tagged_get, tagged_get_bytes, tagged_past, to_another, valid_bytes, valid_message, validated_early, validated_past, validated_untagged, with_a_token}
use Rattle.coap_model.specs.declared.report.Storing.TheVariants.{Kept}
use Rattle.coap_model.proofs.CacheExamples.{are-bytes, first_asks, first_gets, get_read, second_sent, unsent}
use Rattle.coap_model.proofs.MarksAndTaints.{newest-unchanged, one-getting, told-on, told-stays}
use Rattle.coap_model.proofs.ForgedHits.{age_told, early_unsent, first_obtained, got-elsewhere, reply_asked, was_unchanged}
use Rattle.coap_model.proofs.Positions.{here, request-unique}

-- ---- the only entry

-- another message than a 2.03 validates nothing
no-validation : (old m : Message) → is_code m.code VALID ≡ false → is_validated old m ≡ true → ⊥
no-validation old m none valid =
    let both = (and_parts (is_code old.code CONTENT && is_code m.code VALID) (option_map_or (λ (t : List ℕ). has_tag t m) (tag_of old.options) false) valid).0 in
    let one = (and_parts (is_code old.code CONTENT) (is_code m.code VALID) both).1 in
    absurd (let e : true ≡ false = sym one ∙ none in cc)

-- the only response that was obtained with the first answer is that answer
response-first : {key : CacheKey} {response : Message} {asking : Position} → IsObtained setting key response asking first_entry.getting → response ≡ content_for 1 1
unfolding token_of
response-first (first_hand fetched is lasting) = is ∙ ap (passed_part true) (one-getting fetched.gets (first_gets Kept)).message
response-first (validated {old = old} fetched tag obtained behind tagged sent is renewal fit lasting) =
    absurd (no-validation old (passed_part true (content_for 1 1)) refl (subst (λ (m : Message). is_validated old (passed_part true m) ≡ true) (one-getting fetched.gets (first_gets Kept)).message is))

-- what was obtained before the reply arrived with the first answer
got-first : {key : CacheKey} {response : Message} {asking getting : Position} → IsPositionOf asked_past getting → IsObtained setting key response asking getting → getting ≡ first_entry.getting
got-first (inl e) o = absurd (got-elsewhere (here opened_past asks_again) refl e o)
got-first (inr (inl e)) o = absurd (got-elsewhere (here hit_past opens_again) refl e o)
got-first (inr (inr (inl e))) o = absurd (got-elsewhere (here kept_past hits) refl e o)
got-first (inr (inr (inr (inl e)))) o = sym e
got-first (inr (inr (inr (inr (inl e))))) o = absurd (got-elsewhere (here (opened ∷ []) asked) refl e o)
got-first (inr (inr (inr (inr (inr (inl e)))))) o = absurd (got-elsewhere (here [] opened) refl e o)
got-first (inr (inr (inr (inr (inr (inr none)))))) o = absurd none

-- so there is one response, which arrived at one position
only-response : (c : Cached) → WasObtained setting asked_past c → c.response ≡ content_for 1 1
only-response c w = response-first (subst (λ (p : Position). IsObtained setting c.key c.response c.asking p) (got-first w.was_got w.obtained) w.obtained)

-- ---- replies from the cache

-- the stale entry is sent with no second left
stale_spelled : Spells stale_reply.bytes (at_once get_read (shown 10006 (stored_answer (entry_of_cached first_entry).1) 4 [] (tags_of get_read)))
unfolding read_message body_at options_within option_at extended uint_spelling
stale_spelled = read_is stale_reply.bytes _ (are-bytes stale_reply.bytes refl) refl

-- it would be a reply from the cache if it were fresh
pub stale_if_fresh : is_fresh 10006 (entry_of_cached first_entry).1 ≡ true → IsFromCache setting asked_past stale_reply
unfolding verdict_of request_target mapped_target
stale_if_fresh fresh = record {
  client = client 4;
  request = get_read;
  key = key_of_temp;
  asked = reply_asked 10006 0;
  method = refl;
  key_is = refl;
  cached = first_entry;
  equal_key = refl;
  received = first_obtained asked_past (inr (inr (inr (inr (inl refl))))) (inr (inr (inr (inl refl))));
  usable = record { fresh = fresh; unchanged = was_unchanged };
  id = 4;
  shows = record { sent = refl; spells = stale_spelled };
}

-- but it isn't
pub not_stale : ¬ IsFromCache setting asked_past stale_reply
not_stale f =
    let position = got-first f.received.was_got f.received.obtained in
    let response = only-response f.cached f.received in
    let same : is_fresh 10006 (entry_of_cached f.cached).1 ≡ false = λ i. is_fresh 10006 (entry_of_cached (record { key = f.cached.key; response = response i; asking = f.cached.asking; getting = position i })).1 in
    absurd (let e = sym f.usable.fresh ∙ same in cc)

-- the entry with the response and the position that it must have
abbrev entry_at : (c : Cached) (response : Message) (getting : Position) → Cached
entry_at c response getting = record { key = c.key; response = response; asking = c.asking; getting = getting }

-- an entry isn't sent with its original Max-Age
pub not_as_received : ¬ IsFromCache setting asked_past (reply 25 10).observation
unfolding read_message body_at options_within option_at extended uint_spelling
not_as_received f =
    let position = got-first f.received.was_got f.received.obtained in
    let response = only-response f.cached f.received in
    let one = request-unique setting (reply 25 10).observation.event f.client (client 4) f.request get_read f.asked (reply_asked 25 10) in
    let told = read_again (reply 25 10).observation.bytes _ f.shows.spells in
    let nine : 10 ≡ 9 = ap age_told told ∙ (λ i. max_age_of (at_once (one.1 i) (shown 25 (stored_answer (entry_of_cached (entry_at f.cached (response i) (position i))).1) f.id (one.1 i).token (tags_of (one.1 i))))) in
    omega (arith, nine)

-- the length of a message's token
abbrev token_told : Result Message DecodeError → ℕ
token_told (Ok m) = length m.token
token_told (Err e) = 0

-- nor with a token that the request doesn't have
pub not_with_a_token : ¬ IsFromCache setting asked_past with_a_token
unfolding read_message body_at options_within option_at extended uint_spelling
not_with_a_token f =
    let one = request-unique setting with_a_token.event f.client (client 4) f.request get_read f.asked (reply_asked 25 9) in
    let told = read_again with_a_token.bytes _ f.shows.spells in
    let none : 1 ≡ 0 = ap token_told told ∙ (λ i. length (at_once (one.1 i) (shown 25 (stored_answer (entry_of_cached f.cached).1) f.id (one.1 i).token (tags_of (one.1 i)))).token) in
    omega (arith, none)

-- nor to another client
pub not_to_another : ¬ IsFromCache setting asked_past to_another
not_to_another f =
    let one = request-unique setting to_another.event f.client (client 4) f.request get_read f.asked (reply_asked 25 9) in
    let port : 40005 ≡ 40004 = ap (λ (to : Option Endpoint). option_map_or (λ (e : Endpoint). e.port) to 0) f.shows.sent ∙ ap (λ (e : Endpoint). e.port) one.0 in
    omega (arith, port)

-- ---- what arrived

-- a piggybacked response to the request of an exchange arrives
abbrev answer_gets : (past : List Action) (now x : ℕ) (bytes : List ℕ) (m : Message) (asking : Position) → IsPositionOf past asking → (asks : Asks 0 x asking) → asks.sends.to ≡ origin → asks.sends.message.id ≡ m.id → m.kind ≡ Ack → is_response m.code ≡ true → m.token ≡ token_of 0 x → IsBytes bytes → Spells bytes m → length bytes ≤ 1500
    → Gets setting x (here past (answers now x bytes))
answer_gets past now x bytes m asking was asks to id kind code token are spells short = record {
  act = refl;
  outcome = refl;
  meets = record {
    asking = asking;
    was_asked = was;
    asks = asks;
    message = m;
    brings = record { bytes = bytes; came = ap (λ (e : Endpoint). arrival e bytes) (sym to); spells = spells; short = short };
    matches = in_acknowledgement kind code token (sym id);
  };
  bytes = are;
}

-- the datagram encodes the tagged answer
tagged_spelled : Spells tagged_bytes tagged_content
unfolding read_message body_at options_within option_at extended token_of
tagged_spelled = read_is tagged_bytes tagged_content (are-bytes tagged_bytes refl) refl

-- and the request with the tag
tagged_get_spelled : Spells tagged_get_bytes tagged_get
unfolding read_message body_at options_within option_at extended token_of target_options uint_spelling
tagged_get_spelled = read_is tagged_get_bytes tagged_get (are-bytes tagged_get_bytes refl) refl

-- and the 2.03
valid_spelled : Spells valid_bytes valid_message
unfolding read_message body_at options_within option_at extended token_of
valid_spelled = read_is valid_bytes valid_message (are-bytes valid_bytes refl) refl

-- and the response with Block2
block_spelled : Spells block_bytes block_content
unfolding read_message body_at options_within option_at extended token_of
block_spelled = read_is block_bytes block_content (are-bytes block_bytes refl) refl

-- the second request was first sent there, with the tag
abbrev tagged_asks : (before : List Action) → Never (Sends 0 2) before → Asks 0 2 (here before asks_tagged)
tagged_asks before first = record {
  sends = record { act = refl; outcome = refl; to = origin; sent = refl; message = tagged_get; spells = tagged_get_spelled; token = refl };
  first = first;
}

-- or without it
abbrev bare_asks : (before : List Action) → Never (Sends 0 2) before → Asks 0 2 (here before asks_again)
bare_asks before first = record {
  sends = record { act = refl; outcome = refl; to = origin; sent = refl; message = get_for 3 2; spells = second_sent; token = refl };
  first = first;
}

-- it wasn't sent before the tagged answer came
tagged_unsent : Never (Sends 0 2) tagged_past
tagged_unsent = (unsent 2 (gets_tagged ∷ asked ∷ opened ∷ []) opens_again (λ e. cc), (unsent 2 (asked ∷ opened ∷ []) gets_tagged (λ e. cc), early_unsent.1))

-- the tagged answer arrives
abbrev tagged_gets : Gets setting 1 (here (asked ∷ opened ∷ []) gets_tagged)
tagged_gets = answer_gets (asked ∷ opened ∷ []) 5 1 tagged_bytes tagged_content (here (opened ∷ []) asked) (inl refl) first_asks refl refl refl refl refl (are-bytes tagged_bytes refl) tagged_spelled (omega arith)

-- and the 2.03 after it
abbrev valid_gets : (past : List Action) (asking : Position) → IsPositionOf past asking → (asks : Asks 0 2 asking) → asks.sends.to ≡ origin → asks.sends.message.id ≡ 3 → Gets setting 2 (here past gets_valid)
valid_gets past asking was asks to id = answer_gets past 20 2 valid_bytes valid_message asking was asks to id refl refl refl (are-bytes valid_bytes refl) valid_spelled (omega arith)

-- ---- validations

-- what a GET with the key got was fetched, if it may be passed on, and if the target is unchanged
abbrev fetched-by : {x : ℕ} {getting : Position} (gets : Gets setting x getting) (asking : Position) → gets.meets.asking ≡ asking → to_get gets ≡ true → key_asked gets ≡ key_of_temp → is_passed_on 1500 true gets.meets.message ≡ true → Unchanged setting key_of_temp.target asking getting.before → IsFetched setting key_of_temp asking getting
fetched-by {x} {getting} gets asking is get key passed unchanged = record { exchange = x; gets = gets; asking_is = is; method = get; asked_key = key; passed = passed; unchanged = unchanged }

-- the tagged answer was fetched
tagged_fetched : IsFetched setting key_of_temp (here (opened ∷ []) asked) (here (asked ∷ opened ∷ []) gets_tagged)
unfolding token_of target_options target_sent key_sent spelling option_spelling uint_spelling
tagged_fetched = fetched-by (tagged_gets) _ refl refl refl refl (newest-unchanged setting key_of_temp.target (opened ∷ []) asked refl)

-- and the 2.03
valid_fetched : IsFetched setting key_of_temp (here tagged_past asks_tagged) (here validated_past gets_valid)
unfolding token_of target_options target_sent key_sent spelling option_spelling uint_spelling
valid_fetched = fetched-by (valid_gets validated_past (here tagged_past asks_tagged) (inl refl) (tagged_asks tagged_past tagged_unsent) refl refl) _ refl refl refl refl (newest-unchanged setting key_of_temp.target tagged_past asks_tagged refl)

-- so the answer that it renews was obtained
pub renewed_obtained : IsObtained setting key_of_temp (renewed tagged_content (passed_part true valid_message)) (here tagged_past asks_tagged) (here validated_past gets_valid)
unfolding tagged_fetched valid_fetched token_of target_options uint_spelling spelling option_spelling
renewed_obtained =
    validated valid_fetched (0xAB ∷ []) (first_hand tagged_fetched refl (record { code = refl; max_age = omega arith })) (inr (inl refl)) refl refl refl refl refl (record { code = refl; max_age = omega arith })

-- a 2.03 alone isn't a response that may be kept
not-alone : {key : CacheKey} {response : Message} {asking : Position} {past : List Action} (gets : Gets setting 2 (here past gets_valid)) → gets.meets.message ≡ valid_message → (fetched : IsFetched setting key asking (here past gets_valid)) → response ≡ passed_part true fetched.gets.meets.message → IsLasting response → ⊥
not-alone {response = response} gets same fetched is lasting =
    let code : response.code ≡ valid_message.code = ap (λ (m : Message). m.code) is ∙ ap (λ (m : Message). (passed_part true m).code) ((one-getting fetched.gets gets).message ∙ same) in
    let none : is_cacheable response.code ≡ false = ap is_cacheable code in
    absurd (let e = sym lasting.code ∙ none in cc)

-- nothing is renewed by a 2.03 that was requested before it came
pub not_older : (response : Message) → ¬ IsObtained setting key_of_temp response (here early_past asks_tagged) (here validated_early gets_valid)
not_older response (first_hand fetched is lasting) = not-alone (valid_gets validated_early (here early_past asks_tagged) (inr (inl refl)) (tagged_asks early_past early_unsent) refl refl) refl fetched is lasting
not_older response (validated {old = old} {old_asking = old_asking} {old_getting = old_getting} fetched tag obtained behind tagged sent is renewal fit lasting) = nowhere behind
  where
    nowhere : IsPositionOf early_past old_getting → ⊥
    nowhere (inl e) = got-elsewhere (here (asked ∷ opened ∷ []) opens_again) refl e obtained
    nowhere (inr (inl e)) = got-elsewhere (here (opened ∷ []) asked) refl e obtained
    nowhere (inr (inr (inl e))) = got-elsewhere (here [] opened) refl e obtained
    nowhere (inr (inr (inr none))) = absurd none

-- the tagged answer that comes after that request, and the 2.03 for it
late_tagged : IsFetched setting key_of_temp (here (opened ∷ []) asked) (here (asks_tagged ∷ early_past) gets_tagged)
unfolding token_of target_options target_sent key_sent spelling option_spelling uint_spelling
late_tagged =
    fetched-by (answer_gets (asks_tagged ∷ early_past) 5 1 tagged_bytes tagged_content (here (opened ∷ []) asked) (inr (inr (inl refl))) first_asks refl refl refl refl refl (are-bytes tagged_bytes refl) tagged_spelled (omega arith)) _ refl refl refl refl
    (told-stays false setting key_of_temp.target (here (opened ∷ []) asked) early_past asks_tagged refl
    (told-stays false setting key_of_temp.target (here (opened ∷ []) asked) (asked ∷ opened ∷ []) opens_again refl (newest-unchanged setting key_of_temp.target (opened ∷ []) asked refl)))

-- the 2.03 was fetched, too
early_fetched : IsFetched setting key_of_temp (here early_past asks_tagged) (here validated_early gets_valid)
unfolding late_tagged token_of target_options target_sent key_sent spelling option_spelling uint_spelling changed_by
early_fetched = fetched-by (valid_gets validated_early (here early_past asks_tagged) (inr (inl refl)) (tagged_asks early_past early_unsent) refl refl) _ refl refl refl refl (told-on false key_of_temp.target (here early_past asks_tagged) late_tagged.gets (omega arith) (newest-unchanged setting key_of_temp.target early_past asks_tagged refl))

-- the answer would be renewed if it had come before that request
pub older_if_before : IsPositionOf early_past (here (asks_tagged ∷ early_past) gets_tagged) → IsObtained setting key_of_temp (renewed tagged_content (passed_part true valid_message)) (here early_past asks_tagged) (here validated_early gets_valid)
unfolding late_tagged early_fetched token_of target_options uint_spelling spelling option_spelling
older_if_before before =
    validated early_fetched (0xAB ∷ []) (first_hand late_tagged refl (record { code = refl; max_age = omega arith })) before refl refl refl refl refl (record { code = refl; max_age = omega arith })

-- the 2.03 for a request without a tag
abbrev untagged_gets : Gets setting 2 (here validated_untagged gets_valid)
untagged_gets = valid_gets validated_untagged (here tagged_past asks_again) (inl refl) (bare_asks tagged_past tagged_unsent) refl refl

-- nothing is renewed by it
pub not_untagged : (response : Message) → ¬ IsObtained setting key_of_temp response (here tagged_past asks_again) (here validated_untagged gets_valid)
unfolding target_options uint_spelling
not_untagged response (first_hand fetched is lasting) = not-alone untagged_gets refl fetched is lasting
not_untagged response (validated fetched tag obtained behind tagged sent is renewal fit lasting) =
    let none : [] ≡ tag ∷ [] = sym (ap (λ (m : Message). tags_of m) (one-getting fetched.gets untagged_gets).asked) ∙ sent in
    absurd (let few = ap (λ (tags : List (List ℕ)). length tags) none in omega (arith, few))

-- it was fetched
untagged_fetched : IsFetched setting key_of_temp (here tagged_past asks_again) (here validated_untagged gets_valid)
unfolding token_of target_options target_sent key_sent spelling option_spelling uint_spelling
untagged_fetched = fetched-by (untagged_gets) _ refl refl refl refl (newest-unchanged setting key_of_temp.target tagged_past asks_again refl)

-- the answer would be if that request had the tag
pub untagged_if_tagged : tags_of (get_for 3 2) ≡ (0xAB ∷ []) ∷ [] → IsObtained setting key_of_temp (renewed tagged_content (passed_part true valid_message)) (here tagged_past asks_again) (here validated_untagged gets_valid)
unfolding tagged_fetched untagged_fetched token_of spelling option_spelling
untagged_if_tagged tag =
    validated untagged_fetched (0xAB ∷ []) (first_hand tagged_fetched refl (record { code = refl; max_age = omega arith })) (inr (inl refl)) refl tag refl refl refl (record { code = refl; max_age = omega arith })

-- ---- a response that may not be passed on

-- it arrives
abbrev block_gets : Gets setting 1 (here (asked ∷ opened ∷ []) gets_block)
block_gets = answer_gets (asked ∷ opened ∷ []) 5 1 block_bytes block_content (here (opened ∷ []) asked) (inl refl) first_asks refl refl refl refl refl (are-bytes block_bytes refl) block_spelled (omega arith)

-- it isn't fetched
pub not_blocked : ¬ IsFetched setting key_of_temp (here (opened ∷ []) asked) (here (asked ∷ opened ∷ []) gets_block)
not_blocked f =
    let passed : is_passed_on 1500 true block_content ≡ true = subst (λ (m : Message). is_passed_on 1500 true m ≡ true) (one-getting f.gets block_gets).message f.passed in
    absurd (let e : false ≡ true = passed in cc)

-- it would be, if it might be passed on
pub block_if_passed : is_passed_on 1500 true block_content ≡ true → IsFetched setting key_of_temp (here (opened ∷ []) asked) (here (asked ∷ opened ∷ []) gets_block)
unfolding token_of target_options target_sent key_sent spelling option_spelling uint_spelling
block_if_passed passed = fetched-by (block_gets) _ refl refl refl passed (newest-unchanged setting key_of_temp.target (opened ∷ []) asked refl)

-- ---- limits

-- how many of two items pass a test
two-at-most : (b : Bool) → one_if b + (one_if b + 0) ≤ 2
two-at-most true = omega arith
two-at-most false = omega arith

-- two exchanges are within limits of two
pub two_within : IsWithin (setting_with limits_of_two) two_pending
two_within = record {
  exchanges = omega arith;
  waiters = omega arith;
  con_records = omega arith;
  non_records = omega arith;
  client_exchanges = λ from. two-at-most (same_endpoint (client 1) from);
  client_waiters = λ from. two-at-most (same_endpoint (client 1) from);
  client_con_records = λ from. omega arith;
  client_non_records = λ from. two-from (same_endpoint (client 1) from);
  cache = record { cached = []; is_cache = otherwise opened_too refl (otherwise opened refl empty); entries = omega arith; bytes = omega arith };
}
  where
    one : Record
    one = record { from = client 1; id = 7; at = 0; reply = None }

    two-from : (b : Bool) → length (if b then one ∷ (if b then one ∷ [] else []) else (if b then one ∷ [] else [])) ≤ 2
    two-from true = omega arith
    two-from false = omega arith

-- ---- retransmissions

-- each of five transmissions comes when it is due, and is the same as before
pub five_are_spaced : AreSpaced five_sends
five_are_spaced = (omega arith, omega arith, (refl, refl), (omega arith, omega arith, (refl, refl), (omega arith, omega arith, (refl, refl), (omega arith, omega arith, (refl, refl), tt))))

-- so does a sixth
pub six_are_spaced : AreSpaced six_sends
six_are_spaced = (omega arith, omega arith, (refl, refl), five_are_spaced)

-- ---- Message IDs

-- the reply that a request gets
refusal_spelled : Spells (limited.not_found 0 1) (own_reply NOT_FOUND [] 1 [])
unfolding read_message body_at options_within option_at extended
refusal_spelled = read_is (limited.not_found 0 1) _ (are-bytes (limited.not_found 0 1) refl) refl

-- it gives out the Message ID 1
gives_1 : (now : ℕ) → Gives 1 (refused_with_1 now)
gives_1 now = record { gives = refl; message = own_reply NOT_FOUND [] 1 []; spells = refusal_spelled; id_is = refl }

-- a proxy that gives it out twice doesn't keep its promise
pub one_id : (w : State) → ¬ KeepsItsWord of_one_id w
one_id w word = go word.actions word.told word.ids
  where
    nth : ℕ → List Observation → Observation
    nth n es = get_or es n (refused_with_1 0)

    go : (actions : List Action) → told_by actions ≡ of_one_id → IdsDiffer actions → ⊥
    go [] told ids = absurd (let few = ap (λ (es : List Observation). length es) told in omega (arith, few))
    go (e ∷ []) told ids = absurd (let few = ap (λ (es : List Observation). length es) told in omega (arith, few))
    go (e ∷ d ∷ []) told ids =
        let later : e.observation ≡ refused_with_1 246999 = ap (nth 0) told in
        let first : d.observation ≡ refused_with_1 0 = ap (nth 1) told in
        let at_first : d.observation.now ≡ 0 = ap (λ (x : Observation). x.now) first in
        let at_later : e.observation.now ≡ 246999 = ap (λ (x : Observation). x.now) later in
        let same = ids (here [] d) (here (d ∷ []) e) 1 (inr (inl refl)) (inl refl) (subst (λ (x : Observation). Gives 1 x) (sym first) (gives_1 0)) (subst (λ (x : Observation). Gives 1 x) (sym later) (gives_1 246999)) (omega (arith, at_first, at_later)) (omega (arith, at_first, at_later)) in
        let apart : 0 ≡ 1 = ap (λ (p : Position). length p.before) same in
        omega (arith, apart)
    go (e ∷ d ∷ f ∷ more) told ids = absurd (let few = ap (λ (es : List Observation). length es) told in omega (arith, few))
