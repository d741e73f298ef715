-- Forged deliveries.
use Rattle.std.proofs.Common.{◌≡◌, inl, inr, ⊎_elim, ℕ, Bool, true, false, List, [], ◌∷◌, Some, None, Result, Ok, Err, refl, sym, ap, ◌∙◌, subst, length, arith}
use Rattle.std.proofs.lemmas.Option.{same_Some}
use Rattle.coap_message.specs.declared.error.DecodeError.{DecodeError}
use Rattle.coap_endpoint.specs.declared.endpoint.Endpoint.{Endpoint}
use Rattle.coap_message.specs.declared.kind.Kind.TheVariants.{Rst}
use Rattle.coap_message.specs.Message.{Message}
use Rattle.coap_message.specs.Reading.{read_message, body_at, options_within, option_at, extended}
use Rattle.coap_message.specs.Uint.{uint_spelling}
use Rattle.coap_message.specs.Spelling.{spelling, option_spelling}
use Rattle.coap_message.proofs.WholeMessages.{read_again}
use Rattle.coap_option.specs.Selection.{tags_of, max_age_of}
use Rattle.coap_forward.specs.Messages.{is_con, is_rst, is_get, token_of}
use Rattle.coap_forward.specs.Answers.{answer_of, shown_as}
use Rattle.coap_model.specs.Events.{arrival}
use Rattle.coap_model.specs.Examples.{origin, client, get_t, content, content_for_client, content_in}
use Rattle.coap_store.specs.declared.answer.Answer.{Answer}
use Rattle.coap_model.specs.Verdicts.{Verdict, may_ask, refused_with, verdict_of}
use Rattle.coap_model.specs.History.{no_item, moves, serves, Action, Sends, Position, IsPositionOf, admits_one, Admits, ends, Ends, GivesUp}
use Rattle.coap_model.specs.declared.report.Outcome.TheVariants.{Answered}
use Rattle.coap_model.specs.Due.{to_send}
use Rattle.coap_model.specs.Justified.{EndsWith, got, given_up, IsDelivery}
use Rattle.coap_model.specs.Forged.{setting, opened, opened_too, asked, answered, past, asked_elsewhere, past_elsewhere, opened_con, past_con, delivery, right, in_con, at_an_arrival}
use Rattle.coap_target.specs.Routes.{mapped_target}
use Rattle.coap_target.specs.Request.{request_target}
use Rattle.coap_store.specs.declared.key.CacheKey.{CacheKey}
use Rattle.coap_model.specs.Keys.{key_sent, target_sent}
use Rattle.coap_model.specs.Cached.{copied, IsObtained, WasObtained}
use Rattle.coap_model.specs.Changed.{key_asked}
use Rattle.coap_model.proofs.ObtainedResponses.{obtained-fetched}
use Rattle.std.specs.List.{sum_by}
use Rattle.coap_model.specs.CacheExamples as cached
use Rattle.coap_model.specs.CacheExamples.{content_for, first_entry}
use Rattle.coap_model.specs.LimitExamples as limited
use Rattle.coap_model.specs.OptionExamples.{key_of_temp}
use Rattle.coap_model.specs.declared.report.Storing.TheVariants.{Kept}
use Rattle.coap_model.proofs.Positions.{here, same_moves, same_serves, arrival-same, admitted-number, position-before}
use Rattle.coap_model.proofs.Sorts.{token-or-reset}
use Rattle.coap_model.proofs.CacheExamples.{get_read, get_spelled}

-- the waiter that is served is the one of the act
pub for_nobody : ¬ IsDelivery setting past (delivery (client 1) (content_for_client 7) no_item)
for_nobody s = let e = s.act in absurd cc

-- the waiter was admitted
pub for_another : ¬ IsDelivery setting past (delivery (client 1) (content_for_client 7) (serves 2))
for_another s =
    let same = same_serves 2 s.waiter s.act in
    let i = admitted-number s.to_serve.admitted in
    omega (arith, same, i.1)

-- the waiter wasn't served before
pub again : ¬ IsDelivery setting (right ∷ past) right
again s = s.to_serve.unserved.0 (record { act = s.act; outcome = refl })

-- an action that ends no exchange
no_end : (d : Action) (before : List Action) (p : Position) (x : ℕ) → ends d.observation.report.outcome ≡ false → here before d ≡ p → Ends x p → ⊥
no_end d before p x not same e = let o = sym not ∙ ap (λ (q : Position). ends q.action.observation.report.outcome) same ∙ e.outcome in cc

-- the exchange has its answer
pub nothing_got : ¬ IsDelivery setting (asked ∷ opened ∷ []) right
nothing_got s =
    let p = s.to_serve in
    ⊎_elim
    (λ (e : here (opened ∷ []) asked ≡ p.ending). no_end asked (opened ∷ []) p.ending p.admitted.exchange refl e p.ends)
    (λ (t : IsPositionOf (opened ∷ []) p.ending). ⊎_elim (λ (e : here [] opened ≡ p.ending). no_end opened [] p.ending p.admitted.exchange refl e p.ends) (λ (h : ⊥). h) t)
    p.was_ended

-- an action that admits no waiter
no_admission : (d : Action) (before : List Action) (p : Position) (v x : ℕ) → admits_one d.observation.report.outcome ≡ 0 → here before d ≡ p → Admits v x p → ⊥
no_admission d before p v x not same a = let o : 0 ≡ 1 = sym not ∙ ap (λ (q : Position). admits_one q.action.observation.report.outcome) same ∙ a.outcome in omega (arith, o)

-- an answer that arrived before the client's request isn't delivered to it
pub early : ¬ IsDelivery setting (opened ∷ answered ∷ asked ∷ []) right
early s =
    let p = s.to_serve in
    ⊎_elim
    (λ (e : here (answered ∷ asked ∷ []) opened ≡ p.ending). no_end opened (answered ∷ asked ∷ []) p.ending p.admitted.exchange refl e p.ends)
    (λ (t : IsPositionOf (answered ∷ asked ∷ []) p.ending). ⊎_elim
    (λ (e : here (asked ∷ []) answered ≡ p.ending). unadmitted (subst (λ (q : Position). IsPositionOf q.before p.admitted.admission) (sym e) s.later))
    (λ (u : IsPositionOf (asked ∷ []) p.ending). ⊎_elim (λ (e : here [] asked ≡ p.ending). no_end asked [] p.ending p.admitted.exchange refl e p.ends) (λ (h : ⊥). h) u)
    t)
    p.was_ended
  where
    unadmitted : IsPositionOf (asked ∷ []) s.to_serve.admitted.admission → ⊥
    unadmitted at = ⊎_elim (λ (e : here [] asked ≡ s.to_serve.admitted.admission). no_admission asked [] s.to_serve.admitted.admission s.waiter s.to_serve.admitted.exchange refl e s.to_serve.admitted.admits) (λ (h : ⊥). h) at

-- the waiter that is admitted by the first of three actions, whatever was requested
one_admission : (o d : Action) (p : Position) (v x : ℕ) → admits_one d.observation.report.outcome ≡ 0 → IsPositionOf (answered ∷ d ∷ o ∷ []) p → Admits v x p → p ≡ here [] o
one_admission o d p v x not at a =
    ⊎_elim
    (λ (e : here (d ∷ o ∷ []) answered ≡ p). absurd (no_admission answered (d ∷ o ∷ []) p v x refl e a))
    (λ (t : IsPositionOf (d ∷ o ∷ []) p). ⊎_elim
    (λ (e : here (o ∷ []) d ≡ p). absurd (no_admission d (o ∷ []) p v x not e a))
    (λ (u : IsPositionOf (o ∷ []) p). ⊎_elim (λ (e : here [] o ≡ p). sym e) (λ (h : ⊥). absurd h) u)
    t)
    at

-- the exchange that ended in this past
one_end : (p : Position) (x : ℕ) → IsPositionOf past p → Ends x p → p ≡ here (asked ∷ opened ∷ []) answered
one_end p x at e =
    ⊎_elim
    (λ (same : here (asked ∷ opened ∷ []) answered ≡ p). sym same)
    (λ (t : IsPositionOf (asked ∷ opened ∷ []) p). ⊎_elim
    (λ (same : here (opened ∷ []) asked ≡ p). absurd (no_end asked (opened ∷ []) p x refl same e))
    (λ (u : IsPositionOf (opened ∷ []) p). ⊎_elim (λ (same : here [] opened ≡ p). absurd (no_end opened [] p x refl same e)) (λ (h : ⊥). absurd h) u)
    t)
    at

-- the delivery goes to the client that sent the request
pub to_another : ¬ IsDelivery setting past (delivery (client 2) (content_for_client 7) (serves 1))
to_another s =
    let a = s.to_serve.admitted in
    let position = one_admission opened asked a.admission s.waiter a.exchange refl a.was_admitted a.admits in
    let same = arrival-same a.client (client 1) a.asked.brings.bytes _ (sym a.asked.brings.came ∙ ap (λ (p : Position). p.action.observation.event) position) in
    let to = same_Some (client 2) (client 1) (s.tells.sent ∙ ap Some same.0) in
    let port = ap (λ (e : Endpoint). e.port) to in
    omega (arith, port)

-- a delivery happens at a tick
pub untimely : ¬ IsDelivery setting past (at_an_arrival right)
untimely s = let e = s.acting.ticked in absurd cc

-- what is due earlier is done earlier
pub out_of_turn : ¬ IsDelivery setting (opened_too ∷ past) right
unfolding verdict_of request_target mapped_target
out_of_turn s =
    s.acting.first (moves 2) 0
    (to_send (record {
      opened = record {
        opening = here past opened_too;
        client = client 1;
        request = get_read;
        was_opened = inl refl;
        opens = (refl, refl);
        asked = record { brings = record { bytes = get_t []; came = refl; spells = get_spelled; short = omega arith }; kind = refl; method = refl };
      };
      key = key_of_temp;
      verdict = refl;
      stage = refl;
      free = omega arith;
      at_is = refl;
    }))
    (inr (sym (moment s.to_serve.ending s.to_serve.was_ended s.to_serve.ends s.to_serve.at_is), tt))
  where
    moment : (p : Position) → IsPositionOf (opened_too ∷ past) p → Ends s.to_serve.admitted.exchange p → s.acting.at ≡ p.action.observation.now → s.acting.at ≡ 0
    moment p at e is =
        ⊎_elim (λ (same : here past opened_too ≡ p). is ∙ sym (ap (λ (q : Position). q.action.observation.now) same)) (λ (t : IsPositionOf past p). is ∙ ap (λ (q : Position). q.action.observation.now) (one_end p s.to_serve.admitted.exchange t e)) at

-- the Max-Age in a message
abbrev told_by : Result Message DecodeError → ℕ
told_by (Ok m) = max_age_of m
told_by (Err e) = 0

-- the Max-Age that has to be sent for an answer
abbrev owed_by : ℕ → Message → Result Message DecodeError → ℕ
owed_by id request (Ok m) = max_age_of (shown_as request.kind true 2500 (answer_of 1500 true None 0 m) id request.token (tags_of request))
owed_by id request (Err e) = 0

-- whether a request is a GET, and its tags
abbrev get_told : Result Message DecodeError → Bool
get_told (Ok m) = is_get m.code
get_told (Err e) = false

abbrev tags_told : Result Message DecodeError → List (List ℕ)
tags_told (Ok m) = tags_of m
tags_told (Err e) = []

-- the position where the request was sent
sent_there : (p : Position) (x : ℕ) → IsPositionOf (asked ∷ opened ∷ []) p → Sends 0 x p → p ≡ here (opened ∷ []) asked
sent_there p x at s =
    ⊎_elim
    (λ (e : here (opened ∷ []) asked ≡ p). sym e)
    (λ (t : IsPositionOf (opened ∷ []) p). ⊎_elim (λ (e : here [] opened ≡ p). absurd (let f = ap (λ (q : Position). q.action.observation.report.outcome) e ∙ s.outcome in cc)) (λ (h : ⊥). absurd h) t)
    at

-- the answer that arrived there answers a GET without tags, and has the Max-Age of its response
got_age : (x : ℕ) (key : CacheKey) (p : Position) (answer : Answer) (id : ℕ) (request : Message) → is_get request.code ≡ true → p ≡ here (asked ∷ opened ∷ []) answered → EndsWith setting x key p answer → max_age_of (shown_as request.kind (is_get request.code) 2500 answer id request.token (tags_of request)) ≡ 7
unfolding read_message body_at options_within option_at extended answer_of spelling option_spelling uint_spelling
got_age x key p answer id request get position (got gets former was asked_key is) =
    let m = gets.meets in
    let same = arrival-same m.asks.sends.to _ m.brings.bytes content (sym m.brings.came ∙ ap (λ (q : Position). q.action.observation.event) position) in
    let read = ap read_message (sym same.1) ∙ read_again m.brings.bytes m.message m.brings.spells in
    let there = sent_there m.asking x (subst (λ (q : Position). IsPositionOf q.before m.asking) position m.was_asked) m.asks.sends in
    let sent = ap (λ (q : Position). read_message q.action.observation.bytes) (sym there) ∙ read_again m.asking.action.observation.bytes m.asks.sends.message m.asks.sends.spells in
    let to_get : is_get m.asks.sends.message.code ≡ true = sym (ap get_told sent) in
    let tags : tags_of m.asks.sends.message ≡ [] = sym (ap tags_told sent) in
    let answer_is : answer ≡ answer_of 1500 true None 0 m.message = is ∙ (λ i. answer_of 1500 (to_get i) (copied (tags i) (key_asked gets) former) (position i).action.observation.now m.message) in
    (λ i. max_age_of (shown_as request.kind (get i) 2500 (answer_is i) id request.token (tags_of request))) ∙ sym (ap (owed_by id request) read)
got_age x key p answer id request get position (given_up gives is) = absurd (let e = ap (λ (q : Position). q.action.observation.report.outcome) (sym position) ∙ gives.outcome in cc)

-- the Max-Age that is sent is the rest: seven seconds, and not ten
pub another_age : ¬ IsDelivery setting past (delivery (client 1) (content_for_client 10) (serves 1))
unfolding read_message body_at options_within option_at extended
another_age s =
    let p = s.to_serve in
    let a = p.admitted in
    let position = one_end p.ending a.exchange p.was_ended p.ends in
    let admission = one_admission opened asked a.admission s.waiter a.exchange refl a.was_admitted a.admits in
    let same = arrival-same a.client (client 1) a.asked.brings.bytes (get_t []) (sym a.asked.brings.came ∙ ap (λ (q : Position). q.action.observation.event) admission) in
    let get : true ≡ is_get a.request.code = ap get_told (ap read_message (sym same.1) ∙ read_again a.asked.brings.bytes a.request a.asked.brings.spells) in
    let told = read_again (content_for_client 10) (shown_as a.request.kind (is_get a.request.code) 2500 s.answer s.id a.request.token (tags_of a.request)) s.tells.spells in
    let ten : 10 ≡ 7 = ap told_by told ∙ got_age a.exchange s.key p.ending s.answer s.id a.request (sym get) position s.ended in
    omega (arith, ten)

-- ---- the type of the client's request

-- whether a message is Confirmable
abbrev con_told : Result Message DecodeError → Bool
con_told (Ok m) = is_con m.kind
con_told (Err e) = false

-- a delivery has the type of the request that admitted the waiter, which is in these bytes
kind_asked : (o : Action) (bytes told : List ℕ) → o.observation.event ≡ arrival (client 1) bytes → (s : IsDelivery setting (answered ∷ asked ∷ o ∷ []) (delivery (client 1) told (serves 1))) → con_told (read_message bytes) ≡ con_told (read_message told)
kind_asked o bytes told came s =
    let a = s.to_serve.admitted in
    let position = one_admission o asked a.admission s.waiter a.exchange refl a.was_admitted a.admits in
    let same = arrival-same a.client (client 1) a.asked.brings.bytes bytes (sym a.asked.brings.came ∙ ap (λ (p : Position). p.action.observation.event) position ∙ came) in
    let read = ap read_message (sym same.1) ∙ read_again a.asked.brings.bytes a.request a.asked.brings.spells in
    let shown_again = read_again told (shown_as a.request.kind (is_get a.request.code) 2500 s.answer s.id a.request.token (tags_of a.request)) s.tells.spells in
    ap con_told read ∙ sym (ap con_told shown_again)

-- a client with a Non-confirmable request isn't sent a Confirmable answer
pub con_for_non : ¬ IsDelivery setting past in_con
unfolding read_message body_at options_within option_at extended
con_for_non s = let e : false ≡ true = kind_asked opened (get_t []) (content_in 0x40 7) refl s in cc

-- nor is one with a Confirmable request sent another
pub non_for_con : ¬ IsDelivery setting past_con right
unfolding read_message body_at options_within option_at extended
non_for_con s = let e : true ≡ false = kind_asked opened_con (0x40 ∷ 1 ∷ 0 ∷ 7 ∷ 0xB1 ∷ 0x74 ∷ []) (content_for_client 7) refl s in cc

-- ---- the key of the client's request

-- the number of path segments that are sent to the origin server
abbrev segments_sent : Result Message DecodeError → ℕ
segments_sent (Ok m) = length (key_sent origin m).target.path
segments_sent (Err e) = 0

-- the number of path segments of the target in a verdict
abbrev segments_of : Verdict → ℕ
segments_of (may_ask key) = length key.target.path
segments_of (refused_with why) = 0

-- that of the target of a request
abbrev segments_aimed : Result Message DecodeError → ℕ
segments_aimed (Ok m) = segments_of (verdict_of setting.routes m)
segments_aimed (Err e) = 0

-- the position where the request was sent
elsewhere_sent : (p : Position) (x : ℕ) → IsPositionOf past_elsewhere p → Sends 0 x p → p ≡ here (opened ∷ []) asked_elsewhere
elsewhere_sent p x at s =
    ⊎_elim
    (λ (e : here (asked_elsewhere ∷ opened ∷ []) answered ≡ p). absurd (let f = ap (λ (q : Position). q.action.observation.report.outcome) e ∙ s.outcome in cc))
    (λ (t : IsPositionOf (asked_elsewhere ∷ opened ∷ []) p). ⊎_elim
    (λ (e : here (opened ∷ []) asked_elsewhere ≡ p). sym e)
    (λ (u : IsPositionOf (opened ∷ []) p). ⊎_elim (λ (e : here [] opened ≡ p). absurd (let f = ap (λ (q : Position). q.action.observation.report.outcome) e ∙ s.outcome in cc)) (λ (h : ⊥). absurd h) u)
    t)
    at

-- nothing was given up there
elsewhere_kept : (p : Position) (x : ℕ) → IsPositionOf past_elsewhere p → GivesUp x p → ⊥
elsewhere_kept p x at g =
    ⊎_elim
    (λ (e : here (asked_elsewhere ∷ opened ∷ []) answered ≡ p). let f = ap (λ (q : Position). q.action.observation.report.outcome) e ∙ g.outcome in cc)
    (λ (t : IsPositionOf (asked_elsewhere ∷ opened ∷ []) p). ⊎_elim
    (λ (e : here (opened ∷ []) asked_elsewhere ≡ p). let f = ap (λ (q : Position). q.action.observation.report.outcome) e ∙ g.outcome in cc)
    (λ (u : IsPositionOf (opened ∷ []) p). ⊎_elim (λ (e : here [] opened ≡ p). let f = ap (λ (q : Position). q.action.observation.report.outcome) e ∙ g.outcome in cc) (λ (h : ⊥). h) u)
    t)
    at

-- the answer is for the key of the forwarded request
key_elsewhere : (x : ℕ) (key : CacheKey) (p : Position) (answer : Answer) → IsPositionOf past_elsewhere p → EndsWith setting x key p answer → 2 ≡ length key.target.path
unfolding read_message body_at options_within option_at extended key_sent target_sent
key_elsewhere x key p answer at (got gets former was asked_key is) =
    let m = gets.meets in
    let sends = m.asks.sends in
    let position = elsewhere_sent m.asking x (position-before past_elsewhere p m.asking at m.was_asked) sends in
    let sent = read_again m.asking.action.observation.bytes sends.message sends.spells in
    let to : sends.to ≡ origin = same_Some sends.to origin (sym sends.sent ∙ ap (λ (q : Position). q.action.observation.report.send) position) in
    let told : 2 ≡ length (key_sent sends.to sends.message).target.path = ap (λ (q : Position). segments_sent (read_message q.action.observation.bytes)) (sym position) ∙ ap segments_sent sent in
    told ∙ ap (λ (k : CacheKey). length k.target.path) asked_key
key_elsewhere x key p answer at (given_up gives is) = absurd (elsewhere_kept p x at gives)

-- the forwarded request has the key of the client's request
pub elsewhere : ¬ IsDelivery setting past_elsewhere right
unfolding read_message body_at options_within option_at extended verdict_of request_target mapped_target
elsewhere s =
    let p = s.to_serve in
    let a = p.admitted in
    let told = key_elsewhere a.exchange s.key p.ending s.answer p.was_ended s.ended in
    let position = one_admission opened asked_elsewhere a.admission s.waiter a.exchange refl a.was_admitted a.admits in
    let came = arrival-same a.client (client 1) a.asked.brings.bytes (get_t []) (sym a.asked.brings.came ∙ ap (λ (q : Position). q.action.observation.event) position) in
    let read = ap read_message (sym came.1) ∙ read_again a.asked.brings.bytes a.request a.asked.brings.spells in
    let aimed : 1 ≡ length s.key.target.path = ap segments_aimed read ∙ ap segments_of s.verdict in
    omega (arith, told, aimed)

-- ---- entries

-- the response of a cache entry arrived in the history
pub not_got_yet : ¬ WasObtained setting (asked ∷ opened ∷ []) first_entry
not_got_yet o =
    ⊎_elim
    (λ (e : here (opened ∷ []) asked ≡ first_entry.getting). let f = ap (λ (p : Position). p.action.observation.report.outcome) e in cc)
    (λ (t : IsPositionOf (opened ∷ []) first_entry.getting). ⊎_elim (λ (e : here [] opened ≡ first_entry.getting). let f = ap (λ (p : Position). p.action.observation.report.outcome) e in cc) (λ (h : ⊥). h) t)
    o.was_got

-- the sum of a token's bytes
abbrev token_told : Result Message DecodeError → ℕ
token_told (Ok m) = sum_by (λ b. b) m.token
token_told (Err e) = 0

-- whether a message is a Reset
abbrev is_reset : Result Message DecodeError → Bool
is_reset (Ok m) = is_rst m.kind
is_reset (Err e) = false

-- an answer to another request doesn't make this one obtained
pub not_its_answer : ¬ IsObtained setting key_of_temp (content_for 1 2) (here (opened ∷ []) asked) (here (asked ∷ opened ∷ []) (record (cached.answered 5 1 2 (Answered Kept)) { act = moves 1 }))
unfolding read_message body_at options_within option_at extended token_of
not_its_answer o =
    let f = obtained-fetched o in
    let m = f.gets.meets in
    let number = same_moves 1 f.exchange f.gets.act in
    let same = arrival-same m.asks.sends.to origin m.brings.bytes (limited.got 1 2) (sym m.brings.came) in
    let read = ap read_message (sym same.1) ∙ read_again m.brings.bytes m.message m.brings.spells in
    let told : 2 ≡ sum_by (λ b. b) m.message.token = ap token_told read in
    let sent : 1 ≡ sum_by (λ b. b) (token_of 0 f.exchange) = ap (λ (x : ℕ). sum_by (λ b. b) (token_of 0 x)) number in
    let kind : false ≡ is_rst m.message.kind = ap is_reset read in
    ⊎_elim
    (λ (same_token : m.message.token ≡ token_of 0 f.exchange). let token = ap (λ (t : List ℕ). sum_by (λ b. b) t) same_token in omega (arith, told, sent, token))
    (λ (reset : m.message.kind ≡ Rst). let e : false ≡ true = kind ∙ ap is_rst reset in cc)
    (token-or-reset m.message m.matches)
