-- Responses that weren't fetched for a key, though they arrived.
use Rattle.std.proofs.Common.{◌≡◌, inl, inr, true, false, [], ◌∷◌, length, refl, sym, ap, ◌∙◌, subst, arith}
use Rattle.coap_message.specs.Message.{Message}
use Rattle.coap_message.specs.Reading.{read_message, body_at, options_within, option_at, extended}
use Rattle.coap_message.specs.Spelling.{Spells, spelling, option_spelling}
use Rattle.coap_message.specs.Uint.{uint_spelling}
use Rattle.coap_message.proofs.WholeMessages.{read_is}
use Rattle.coap_limits.specs.Limits.{default_limits}
use Rattle.coap_store.specs.declared.key.CacheKey.{CacheKey}
use Rattle.coap_forward.specs.Changes.{changed_by}
use Rattle.coap_forward.specs.Forms.{target_options}
use Rattle.coap_forward.specs.Messages.{is_get, token_of}
use Rattle.coap_model.specs.Cached.{IsFetched}
use Rattle.coap_model.specs.CacheExamples.{asks_again, first_entry, get_for, opens_again}
use Rattle.coap_model.specs.Changed.{to_get, Changes, Unchanged, WasChanged}
use Rattle.coap_model.specs.Examples.{origin}
use Rattle.coap_model.specs.Forged.{asked, opened, setting}
use Rattle.coap_model.specs.ForgedHits.{change, change_told, changed_message, keeps_overtaken, overtaken_past}
use Rattle.coap_model.specs.History.{Asks, Gets, Never, Position, Sends}
use Rattle.coap_model.specs.Keys.{key_sent, target_sent}
use Rattle.coap_model.specs.LimitExamples as limited
use Rattle.coap_model.specs.OptionExamples.{key_of_temp}
use Rattle.coap_model.specs.declared.report.Storing.TheVariants.{Kept}
use Rattle.coap_model.proofs.CacheExamples.{are-bytes, content_gets, first_asks, first_gets, first_got, second_sent, unsent}
use Rattle.coap_model.proofs.MarksAndTaints.{newest-unchanged, one-getting, told-contrary, told-stays}
use Rattle.coap_model.proofs.ForgedHits.{early_unsent}
use Rattle.coap_model.proofs.Positions.{here}
use Rattle.test_promises.specs.Fetches.{asks_put, error, error_bytes, get_past, gets_error, opens_put, put_past, put_sent, put_sent_bytes, quiet_past, IsAnswerTo}
use Rattle.test_promises.specs.Replies.{key_accepting, key_of_part}
use Rattle.test_promises.proofs.Arriving.{fetched-by, gets-by}

-- ---- keys

-- what is fetched with the first answer has the key of its request
fetched-key : (key : CacheKey) → IsFetched setting key first_entry.asking first_entry.getting → key ≡ key_of_temp
unfolding token_of target_options target_sent key_sent spelling option_spelling uint_spelling
fetched-key key f = sym f.asked_key ∙ (one-getting f.gets (first_gets Kept)).key

-- so it wasn't fetched for another path
pub not_part : ¬ IsFetched setting key_of_part first_entry.asking first_entry.getting
not_part f = let two : 2 ≡ 1 = ap (λ (k : CacheKey). length k.target.path) (fetched-key key_of_part f) in omega (arith, two)

-- nor for a request with an Accept
pub not_accepting : ¬ IsFetched setting key_accepting first_entry.asking first_entry.getting
not_accepting f = let one : 1 ≡ 0 = ap (λ (k : CacheKey). length k.options) (fetched-key key_accepting f) in omega (arith, one)

-- though the target of no key was changed
pub still_unchanged : (key : CacheKey) → Unchanged setting key.target first_entry.asking first_entry.getting.before
still_unchanged key = newest-unchanged setting key.target (opened ∷ []) asked refl

-- an answer is fetched if the two words that are left hold
pub fetched-whole : (key : CacheKey) (asking getting : Position) (answer : IsAnswerTo key asking getting) → to_get answer.gets ≡ true → Unchanged setting key.target asking getting.before → IsFetched setting key asking getting
fetched-whole key asking getting answer get unchanged = record { exchange = answer.exchange; gets = answer.gets; asking_is = answer.asking_is; method = get; asked_key = answer.asked_key; passed = answer.passed; unchanged = unchanged }

-- ---- methods

-- the 4.04 arrives
error_spelled : Spells error_bytes error
unfolding read_message body_at options_within option_at extended token_of
error_spelled = read_is error_bytes error (are-bytes error_bytes refl) refl

-- for a GET
abbrev get_gets : Gets setting 1 (here get_past gets_error)
get_gets = gets-by default_limits get_past gets_error 1 error_bytes error (here (opened ∷ []) asked) refl refl refl (inl refl) first_asks refl refl refl refl refl (are-bytes error_bytes refl) error_spelled (omega arith)

-- and is fetched
pub get_fetched : IsFetched setting key_of_temp (here (opened ∷ []) asked) (here get_past gets_error)
unfolding token_of target_options target_sent key_sent spelling option_spelling uint_spelling
get_fetched = fetched-by default_limits key_of_temp get_gets _ refl refl refl refl (newest-unchanged setting key_of_temp.target (opened ∷ []) asked refl)

-- the PUT is sent
put_spelled : Spells put_sent_bytes put_sent
unfolding read_message body_at options_within option_at extended token_of
put_spelled = read_is put_sent_bytes put_sent (are-bytes put_sent_bytes refl) refl

-- not before
put_unsent : Never (Sends 0 1) (opens_put ∷ [])
put_unsent = (unsent 1 [] opens_put (λ e. cc), tt)

-- so this is where it is first sent
abbrev put_asks : Asks 0 1 (here (opens_put ∷ []) asks_put)
put_asks = record {
  sends = record { act = refl; outcome = refl; to = origin; sent = refl; message = put_sent; spells = put_spelled; token = refl };
  first = put_unsent;
}

-- and the 4.04 arrives for it
abbrev put_gets : Gets setting 1 (here put_past gets_error)
put_gets = gets-by default_limits put_past gets_error 1 error_bytes error (here (opens_put ∷ []) asks_put) refl refl refl (inl refl) put_asks refl refl refl refl refl (are-bytes error_bytes refl) error_spelled (omega arith)

-- it wasn't fetched
pub not_by_put : ¬ IsFetched setting key_of_temp (here (opens_put ∷ []) asks_put) (here put_past gets_error)
not_by_put f =
    let get : is_get put_sent.code ≡ true = subst (λ (m : Message). is_get m.code ≡ true) (one-getting f.gets put_gets).asked f.method in
    absurd (let e : false ≡ true = get in cc)

-- though it answers a request with the key
pub put_answered : IsAnswerTo key_of_temp (here (opens_put ∷ []) asks_put) (here put_past gets_error)
unfolding token_of target_options target_sent key_sent spelling option_spelling uint_spelling
put_answered = record { exchange = 1; gets = put_gets; asking_is = refl; asked_key = refl; passed = refl }

-- and the target wasn't changed
pub put_unchanged : Unchanged setting key_of_temp.target (here (opens_put ∷ []) asks_put) put_past
put_unchanged = newest-unchanged setting key_of_temp.target (opens_put ∷ []) asks_put refl

-- ---- changes

-- the second request is sent before the first is answered
abbrev early_asks : Asks 0 2 (here (opens_again ∷ asked ∷ opened ∷ []) asks_again)
early_asks = record {
  sends = record { act = refl; outcome = refl; to = origin; sent = refl; message = get_for 3 2; spells = second_sent; token = refl };
  first = early_unsent;
}

-- its response says that the target was changed
change_spelled : Spells change_told changed_message
unfolding read_message body_at options_within option_at extended token_of
change_spelled = read_is change_told changed_message (are-bytes change_told refl) refl

-- which is of the key's target
changed-there : Changes setting key_of_temp.target (here quiet_past change)
unfolding changed_by token_of target_options target_sent key_sent uint_spelling spelling option_spelling
changed-there = record {
  exchange = 2;
  gets = gets-by default_limits quiet_past change 2 change_told changed_message (here (opens_again ∷ asked ∷ opened ∷ []) asks_again) refl refl refl (inl refl) early_asks refl refl refl refl refl (are-bytes change_told refl) change_spelled (omega arith);
  concerned = refl;
}

-- so it was changed since the first request was sent
overtaken : WasChanged setting key_of_temp.target (here (opened ∷ []) asked) overtaken_past
overtaken = record { position = here quiet_past change; is_there = inl refl; holds = (changed-there, omega arith) }

-- and the answer to that request wasn't fetched
pub not_overtaken : ¬ IsFetched setting key_of_temp (here (opened ∷ []) asked) (here overtaken_past keeps_overtaken)
not_overtaken f = told-contrary (here (opened ∷ []) asked) f.unchanged overtaken

-- though it answers a request with the key
pub overtaken_answered : IsAnswerTo key_of_temp (here (opened ∷ []) asked) (here overtaken_past keeps_overtaken)
unfolding token_of target_options target_sent key_sent spelling option_spelling uint_spelling
overtaken_answered = record {
  exchange = 1;
  gets = content_gets overtaken_past 25 1 1 Kept (here (opened ∷ []) asked) (inr (inr (inr (inl refl)))) first_asks refl refl (are-bytes (limited.got 1 1) refl) first_got (omega arith);
  asking_is = refl;
  asked_key = refl;
  passed = refl;
}

-- which is a GET
pub overtaken_get : to_get overtaken_answered.gets ≡ true
unfolding overtaken_answered token_of target_options target_sent key_sent spelling option_spelling uint_spelling
overtaken_get = refl

-- as it is without the change
pub quiet_fetched : IsFetched setting key_of_temp (here (opened ∷ []) asked) (here quiet_past keeps_overtaken)
unfolding token_of target_options target_sent key_sent spelling option_spelling uint_spelling
quiet_fetched =
    fetched-by default_limits key_of_temp (content_gets quiet_past 25 1 1 Kept (here (opened ∷ []) asked) (inr (inr (inl refl))) first_asks refl refl (are-bytes (limited.got 1 1) refl) first_got (omega arith)) _ refl refl refl refl
    (told-stays false setting key_of_temp.target (here (opened ∷ []) asked) (opens_again ∷ asked ∷ opened ∷ []) asks_again refl
    (told-stays false setting key_of_temp.target (here (opened ∷ []) asked) (asked ∷ opened ∷ []) opens_again refl (newest-unchanged setting key_of_temp.target (opened ∷ []) asked refl)))

-- ---- positions

-- what was fetched since the position where its request was sent wasn't fetched since an earlier
-- one
pub not_since : ¬ IsFetched setting key_of_temp (here [] opened) first_entry.getting
not_since f =
    let one : 0 ≡ 1 = ap (λ (p : Position). length p.before) (sym f.asking_is ∙ (one-getting f.gets (first_gets Kept)).asking) in
    omega (arith, one)

-- though the target wasn't changed since then
pub earlier_unchanged : Unchanged setting key_of_temp.target (here [] opened) first_entry.getting.before
earlier_unchanged = told-stays false setting key_of_temp.target (here [] opened) (opened ∷ []) asked refl (newest-unchanged setting key_of_temp.target [] opened refl)
