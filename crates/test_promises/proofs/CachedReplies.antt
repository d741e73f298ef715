-- Replies with a cached response to requests that it doesn't answer.
use Rattle.std.proofs.Common.{◌≡◌, inl, inr, ℕ, true, false, List, [], ◌∷◌, length, refl, sym, ap, ◌∙◌, subst, arith}
use Rattle.coap_message.specs.Message.{Message}
use Rattle.coap_message.specs.Reading.{read_message, body_at, options_within, option_at, extended}
use Rattle.coap_message.specs.Spelling.{Spells, spelling, option_spelling}
use Rattle.coap_message.specs.Uint.{uint_spelling}
use Rattle.coap_message.proofs.WholeMessages.{read_is}
use Rattle.coap_option.specs.Selection.{tags_of}
use Rattle.coap_target.specs.Routes.{mapped_target}
use Rattle.coap_target.specs.Request.{request_target}
use Rattle.coap_store.specs.declared.key.CacheKey.{CacheKey}
use Rattle.coap_forward.specs.Answers.{shown, stored_answer}
use Rattle.coap_forward.specs.Forms.{target_options}
use Rattle.coap_forward.specs.Messages.{at_once, is_get, token_of}
use Rattle.coap_model.specs.Cached.{entry_of_cached, first_hand, validated, IsObtained}
use Rattle.coap_model.specs.CacheExamples.{asked_past, asks_again, first_entry, hit_past, hits, kept_past, opened_past, opens_again}
use Rattle.coap_model.specs.Examples.{client}
use Rattle.coap_model.specs.Forged.{asked, opened, setting}
use Rattle.coap_model.specs.History.{IsPositionOf, IsRequestOf, Position}
use Rattle.coap_model.specs.Justified.{verdict_on, IsGet}
use Rattle.coap_model.specs.Keys.{key_sent, target_sent}
use Rattle.coap_model.specs.OptionExamples.{key_of_temp}
use Rattle.coap_model.specs.Verdicts.{may_ask, refused_with, verdict_of, Verdict}
use Rattle.coap_model.specs.Word.{IsFromCache}
use Rattle.coap_model.specs.declared.report.Storing.TheVariants.{Kept}
use Rattle.coap_model.proofs.CacheExamples.{are-bytes, first_gets}
use Rattle.coap_model.proofs.MarksAndTaints.{one-getting}
use Rattle.coap_model.proofs.ForgedHits.{first_obtained, got-elsewhere, was_unchanged}
use Rattle.coap_model.proofs.Positions.{here, request-unique}
use Rattle.test_promises.specs.Replies.{accepting, accepting_bytes, key_accepting, key_of_part, part, part_bytes, put, put_bytes, replied_to, IsShownTo}

-- ---- the only entry

-- what was obtained with the first answer has the key of its request
key-first : {key : CacheKey} {response : Message} {asking : Position} → IsObtained setting key response asking first_entry.getting → key ≡ key_of_temp
unfolding token_of target_options target_sent key_sent spelling option_spelling uint_spelling
key-first (first_hand fetched is lasting) = sym fetched.asked_key ∙ (one-getting fetched.gets (first_gets Kept)).key
key-first (validated fetched tag obtained behind tagged sent is renewal fit lasting) = sym fetched.asked_key ∙ (one-getting fetched.gets (first_gets Kept)).key

-- nothing else was obtained before the reply
key-obtained : {key : CacheKey} {response : Message} {asking getting : Position} → IsPositionOf asked_past getting → IsObtained setting key response asking getting → key ≡ key_of_temp
key-obtained (inl e) o = absurd (got-elsewhere (here opened_past asks_again) refl e o)
key-obtained (inr (inl e)) o = absurd (got-elsewhere (here hit_past opens_again) refl e o)
key-obtained (inr (inr (inl e))) o = absurd (got-elsewhere (here kept_past hits) refl e o)
key-obtained {key} {response} {asking} {getting} (inr (inr (inr (inl e)))) o = key-first (subst (λ (q : Position). IsObtained setting key response asking q) (sym e) o)
key-obtained (inr (inr (inr (inr (inl e))))) o = absurd (got-elsewhere (here (opened ∷ []) asked) refl e o)
key-obtained (inr (inr (inr (inr (inr (inl e)))))) o = absurd (got-elsewhere (here [] opened) refl e o)
key-obtained (inr (inr (inr (inr (inr (inr none)))))) o = absurd none

-- ---- the requests

-- the PUT arrives
put_spelled : Spells put_bytes put
unfolding read_message body_at options_within option_at extended
put_spelled = read_is put_bytes put (are-bytes put_bytes refl) refl

-- so it is a request
abbrev put_asked : IsRequestOf setting (client 4) put (replied_to put_bytes).event
put_asked = record { brings = record { bytes = put_bytes; came = refl; spells = put_spelled; short = omega arith }; kind = refl; method = refl }

-- the request of another path arrives
part_spelled : Spells part_bytes part
unfolding read_message body_at options_within option_at extended
part_spelled = read_is part_bytes part (are-bytes part_bytes refl) refl

-- so it is a request
abbrev part_asked : IsRequestOf setting (client 4) part (replied_to part_bytes).event
part_asked = record { brings = record { bytes = part_bytes; came = refl; spells = part_spelled; short = omega arith }; kind = refl; method = refl }

-- the request with an Accept arrives
accepting_spelled : Spells accepting_bytes accepting
unfolding read_message body_at options_within option_at extended
accepting_spelled = read_is accepting_bytes accepting (are-bytes accepting_bytes refl) refl

-- so it is a request
abbrev accepting_asked : IsRequestOf setting (client 4) accepting (replied_to accepting_bytes).event
accepting_asked = record { brings = record { bytes = accepting_bytes; came = refl; spells = accepting_spelled; short = omega arith }; kind = refl; method = refl }

-- ---- replies to them

-- the first answer is shown to each request that its bytes answer
shown-to : (m : Message) (key : CacheKey) (bytes : List ℕ) → IsRequestOf setting (client 4) m (replied_to bytes).event → Spells (replied_to bytes).bytes (at_once m (shown 25 (stored_answer (entry_of_cached first_entry).1) 4 m.token (tags_of m))) → verdict_on setting m ≡ may_ask key → IsShownTo m key bytes
shown-to m key bytes asked told verdict = record {
  asked = asked;
  key_is = verdict;
  received = first_obtained asked_past (inr (inr (inr (inr (inl refl))))) (inr (inr (inr (inl refl))));
  usable = record { fresh = refl; unchanged = was_unchanged };
  shows = record { sent = refl; spells = told };
}

-- which is a reply if the two words that are left hold
pub reply-whole : (request : Message) (key : CacheKey) (bytes : List ℕ) → IsGet request → key_of_temp ≡ key → IsShownTo request key bytes → IsFromCache setting asked_past (replied_to bytes)
reply-whole request key bytes get equal is = record {
  client = client 4;
  request = request;
  key = key;
  asked = is.asked;
  method = get;
  key_is = is.key_is;
  cached = first_entry;
  equal_key = equal;
  received = is.received;
  usable = is.usable;
  id = 4;
  shows = is.shows;
}

-- the bytes are an answer to the PUT, with the token that it has
put_told : Spells (replied_to put_bytes).bytes (at_once put (shown 25 (stored_answer (entry_of_cached first_entry).1) 4 [] (tags_of put)))
unfolding read_message body_at options_within option_at extended uint_spelling
put_told = read_is (replied_to put_bytes).bytes _ (are-bytes (replied_to put_bytes).bytes refl) refl

-- to the request of another path
part_told : Spells (replied_to part_bytes).bytes (at_once part (shown 25 (stored_answer (entry_of_cached first_entry).1) 4 [] (tags_of part)))
unfolding read_message body_at options_within option_at extended uint_spelling
part_told = read_is (replied_to part_bytes).bytes _ (are-bytes (replied_to part_bytes).bytes refl) refl

-- and to the request with an Accept
accepting_told : Spells (replied_to accepting_bytes).bytes (at_once accepting (shown 25 (stored_answer (entry_of_cached first_entry).1) 4 [] (tags_of accepting)))
unfolding read_message body_at options_within option_at extended uint_spelling
accepting_told = read_is (replied_to accepting_bytes).bytes _ (are-bytes (replied_to accepting_bytes).bytes refl) refl

-- so the first answer is shown to the PUT
pub put_shown : IsShownTo put key_of_temp put_bytes
unfolding verdict_of request_target mapped_target
put_shown = shown-to put key_of_temp put_bytes put_asked put_told refl

-- but that is no reply, since a PUT is no GET
pub not_to_put : ¬ IsFromCache setting asked_past (replied_to put_bytes)
not_to_put f =
    let one = request-unique setting (replied_to put_bytes).event f.client (client 4) f.request put f.asked put_asked in
    let get : is_get put.code ≡ true = subst (λ (m : Message). is_get m.code ≡ true) one.1 f.method in
    absurd (let e : false ≡ true = get in cc)

-- it is shown to the request of another path
pub part_shown : IsShownTo part key_of_part part_bytes
unfolding verdict_of request_target mapped_target
part_shown = shown-to part key_of_part part_bytes part_asked part_told refl

-- how many path segments the key in a verdict has
abbrev segments_of : Verdict → ℕ
segments_of (may_ask key) = length key.target.path
segments_of (refused_with code) = 0

-- and how many options
abbrev options_of : Verdict → ℕ
options_of (may_ask key) = length key.options
options_of (refused_with code) = 0

-- but that is no reply, since its key has two segments
pub not_to_part : ¬ IsFromCache setting asked_past (replied_to part_bytes)
unfolding verdict_of request_target mapped_target
not_to_part f =
    let one = request-unique setting (replied_to part_bytes).event f.client (client 4) f.request part f.asked part_asked in
    let asked : 2 ≡ length f.key.target.path = ap segments_of (subst (λ (m : Message). verdict_on setting m ≡ may_ask f.key) one.1 f.key_is) in
    let same : f.key ≡ key_of_temp = sym f.equal_key ∙ key-obtained f.received.was_got f.received.obtained in
    let cached : length f.key.target.path ≡ 1 = ap (λ (k : CacheKey). length k.target.path) same in
    omega (arith, asked, cached)

-- it is shown to the request with an Accept
pub accepting_shown : IsShownTo accepting key_accepting accepting_bytes
unfolding verdict_of request_target mapped_target
accepting_shown = shown-to accepting key_accepting accepting_bytes accepting_asked accepting_told refl

-- but that is no reply, since its key has an option
pub not_to_accepting : ¬ IsFromCache setting asked_past (replied_to accepting_bytes)
unfolding verdict_of request_target mapped_target
not_to_accepting f =
    let one = request-unique setting (replied_to accepting_bytes).event f.client (client 4) f.request accepting f.asked accepting_asked in
    let asked : 1 ≡ length f.key.options = ap options_of (subst (λ (m : Message). verdict_on setting m ≡ may_ask f.key) one.1 f.key_is) in
    let same : f.key ≡ key_of_temp = sym f.equal_key ∙ key-obtained f.received.was_got f.received.obtained in
    let cached : length f.key.options ≡ 0 = ap (λ (k : CacheKey). length k.options) same in
    omega (arith, asked, cached)
