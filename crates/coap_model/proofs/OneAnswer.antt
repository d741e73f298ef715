-- What may follow given actions at a turn is unique.
use Rattle.std.proofs.Common.{◌≡◌, ◌⊎◌, inl, inr, ⊎_elim, ℕ, Bool, ◌+◌, ◌%◌, ◌^◌, ◌<◌, ◌≤◌, true, false, List, [], ◌∷◌, Option, Some, None, refl, sym, ap, ◌∙◌, subst, arith}
use Rattle.std.proofs.lemmas.Option.{same_Some}
use Rattle.std.proofs.lemmas.Bool.{cases_lt}
use Rattle.coap_message.specs.declared.kind.Kind.{Kind}
use Rattle.coap_message.specs.declared.kind.Kind.TheVariants.{Con, Non, Ack, Rst}
use Rattle.coap_message.specs.Codes.{is_request}
use Rattle.coap_message.specs.declared.message.Head.{Head}
use Rattle.coap_message.specs.Message.{Message}
use Rattle.coap_message.specs.Reading.{head_at}
use Rattle.coap_message.specs.Spelling.{spelling}
use Rattle.coap_message.proofs.Spellings.{spelled_once}
use Rattle.coap_message.proofs.WholeMessages.{one_message}
use Rattle.coap_endpoint.specs.declared.endpoint.Endpoint.{Endpoint}
use Rattle.coap_endpoint.specs.declared.target.Target.{Target}
use Rattle.coap_option.specs.Selection.{tags_of}
use Rattle.coap_model.specs.declared.report.Outcome.{Outcome}
use Rattle.coap_model.specs.declared.report.Outcome.TheVariants.{Ignored, Rejected, Again, NoRecordRoom, Refused, Hit, Joined, Opened, Overloaded, NoId, Answered, Acked, SentRequest, Resent, GaveUp, Delivered, Idle}
use Rattle.coap_model.specs.declared.report.Storing.{Storing}
use Rattle.coap_model.specs.Setting.{Setting}
use Rattle.coap_dedup.specs.declared.record.Record.{Record}
use Rattle.coap_model.specs.Events.{Event}
use Rattle.coap_forward.specs.Messages.{is_con, brings_requests, acknowledgement, reset, own_reply, overload_reply, at_once, reply_kind, reply_id, token_of, is_get}
use Rattle.coap_forward.specs.Forms.{forwarded, tag_for}
use Rattle.coap_forward.specs.Answers.{stored_answer, shown, shown_as}
use Rattle.coap_model.specs.History.{Observation, Act, no_item, admits, moves, serves, Action, Position, ids_in, opened_in, admitted_in, comes_con, ids_given, accepts_answer, Brings, Meets, Gets, Ends, Gives, IsRequestOf}
use Rattle.coap_model.specs.Standing.{HasIds, HasRoomToJoin, HasRoomToOpen, queued, stage_of}
use Rattle.coap_model.specs.Schedules.{sends_by, MayGoOn, SaysAsBefore}
use Rattle.coap_model.specs.Due.{IsToEnd, IsToRepeat, IsToServe, IsDueAt, ComesBefore}
use Rattle.coap_model.specs.Verdicts.{verdict_of}
use Rattle.coap_store.specs.declared.answer.Answer.{Answer}
use Rattle.coap_model.specs.Justified.{Comes, known_of, HasRecordRoom, IsMiss, IsJoinable, IsUnanswered, LacksRoom, Deserves, HaveOneMemory, IsUsable, verdict_on, IsNew, HasIdFor, SaysAgain, Tells, IsSilent, Accepts, IsAwaited, Acknowledges, Closes, IsMeant, to_acknowledge, to_reset, to_close, Settles, a_request, an_answer, IsDropped, IsAnswer, IsActing, InTime, IsForwarding, IsToSendAgain, request_again, answer_again, IsResending, IsGivingUp, overdue, unheard, unacknowledged, EndsWith, got, given_up as was_given_up, IsDelivery, IsIdle, IsUnprocessable, JustifiedBy, AllJustified, MayFollow, AreOfOneTurn}
use Rattle.coap_model.proofs.Positions.{here, same_moves, same_serves, arrival-same, one-brought, request-unique, one-opened, one-admitted}
use Rattle.coap_model.proofs.Once.{ended-once, one-joinable}
use Rattle.coap_model.proofs.Services.{serves-apart}
use Rattle.coap_model.proofs.Stages.{opened-before, sent-number}
use Rattle.coap_forward.proofs.Tokens.{token-same}
use Rattle.coap_model.proofs.Cached.{cache-unique}
use Rattle.coap_model.proofs.OneStoring.{one-former, one-answer as one-gotten, one-storing}
use Rattle.coap_store.specs.declared.key.CacheKey.{CacheKey}
use Rattle.coap_store.specs.Lists.{of_key}
use Rattle.coap_model.specs.Cached.{cached_key, entry_of_cached, kept_for, IsCacheOf}
use Rattle.coap_model.proofs.Arrivals.{request_con}
use Rattle.coap_model.proofs.Sorts.{recorded-sorts, token-or-reset}
use Rattle.coap_model.proofs.OwedActions.{one_key, taken-so, answer-awaited, given_again, given_dropped, given_no_room, given_either, given_hit, given_refused, given_overloaded, given_no_id, given_joined, given_opened, given_answered, given_rejected, given_ignored, given_up-so, OnTick, sent as sending, resent, given_up, delivered, idle, on-tick}

-- ---- what is sent

-- two observations send the same to the same endpoint, or both send nothing
record SayTheSame (d e : Observation) : Type 0 where
  pub send : d.report.send ≡ e.report.send
  pub bytes : d.bytes ≡ e.bytes

-- two silent observations send the same
silent-same : (d e : Observation) → IsSilent d → IsSilent e → SayTheSame d e
silent-same d e s t = record { send = s.sent ∙ sym t.sent; bytes = s.bytes ∙ sym t.bytes }

-- the same message to the same endpoint is the same datagram
told-same : (d e : Observation) (a b : Endpoint) (m n : Message) → Tells a m d → Tells b n e → a ≡ b → m ≡ n → SayTheSame d e
told-same d e a b m n s t to same =
    record {
      send = s.sent ∙ ap Some to ∙ sym t.sent;
      bytes = spelled_once d.bytes m s.spells ∙ ap spelling same ∙ sym (spelled_once e.bytes n t.spells);
    }

-- duplicates of the same request get the same
again-same : (d e : Observation) (client : Endpoint) (reply : Option (List ℕ)) → SaysAgain client reply d → SaysAgain client reply e → SayTheSame d e
again-same d e client None s t = silent-same d e s t
again-same d e client (Some reply) s t = record { send = s.0 ∙ sym t.0; bytes = s.1 ∙ sym t.1 }

-- accepted messages are acknowledged the same, or both get nothing
accepted-same : (d e : Observation) (k l : Kind) (a b : Endpoint) (i j : ℕ) → k ≡ l → a ≡ b → i ≡ j → Accepts k a i d → Accepts l b j e → SayTheSame d e
accepted-same d e k l a b i j kind to id s t = go l (subst (λ (n : Kind). Accepts n a i d) kind s) t
  where
    go : (n : Kind) → Accepts n a i d → Accepts n b j e → SayTheSame d e
    go Con s t = told-same d e a b (acknowledgement i) (acknowledgement j) s t to (ap acknowledgement id)
    go Non s t = silent-same d e s t
    go Ack s t = silent-same d e s t
    go Rst s t = silent-same d e s t

-- retransmissions of the same message send the same
before-same : (d e : Observation) (es : List Observation) → SaysAsBefore es d → SaysAsBefore es e → SayTheSame d e
before-same d e [] s t = absurd s
before-same d e (before ∷ es) s t = record { send = s.0 ∙ sym t.0; bytes = s.1 ∙ sym t.1 }

-- immediate replies to the same request with the same content and the same id are equal
at_once-same : (r s reply other : Message) → r.kind ≡ s.kind → reply.code ≡ other.code → reply.token ≡ other.token → reply.options ≡ other.options → reply.payload ≡ other.payload → reply_id r reply.id ≡ reply_id s other.id → at_once r reply ≡ at_once s other
at_once-same r s reply other kind code token options payload id =
    λ i. record { kind = reply_kind (kind i); code = code i; id = id i; token = token i; options = options i; payload = payload i }

-- forwarded requests for the same target and the same request, with the same token, tag and id, are
-- equal
forwarded-same : (salt x y : ℕ) (a b : Target) (g h : Option (List ℕ)) (m n : Message) (i k : ℕ) → x ≡ y → a ≡ b → g ≡ h → m ≡ n → i ≡ k → forwarded (token_of salt x) a g m i ≡ forwarded (token_of salt y) b h n k
forwarded-same salt x y a b g h m n i k number target tag request id = λ j. forwarded (token_of salt (number j)) (target j) (tag j) (request j) (id j)

-- and so are messages for the same request with the same answer at the same moment
shown-same : (now later : ℕ) (a b : Answer) (i k : ℕ) (r s : Message) → now ≡ later → a ≡ b → i ≡ k → r ≡ s → shown_as r.kind (is_get r.code) now a i r.token (tags_of r) ≡ shown_as s.kind (is_get s.code) later b k s.token (tags_of s)
shown-same now later a b i k r s moment answer id request = λ j. shown_as (request j).kind (is_get (request j).code) (moment j) (answer j) (id j) (request j).token (tags_of (request j))

-- a message that is sent with a new id has the id that the observation gives out
id-told : (e : Observation) (id : ℕ) (to : Endpoint) (m : Message) → Gives id e → Tells to m e → m.id ≡ id
id-told e id to m g t = ap (λ (k : Message). k.id) (one_message e.bytes m g.message t.spells g.spells) ∙ g.id_is

-- observations of the same turn with the same outcome that send the same are equal
same-observation : (d e : Observation) → AreOfOneTurn d e → d.report.outcome ≡ e.report.outcome → SayTheSame d e → d ≡ e
same-observation d e turn outcome say = same
  where
    same : record { now = d.now; draw = d.draw; event = d.event; report = record { send = d.report.send; outcome = d.report.outcome }; bytes = d.bytes } ≡ e
    same = rw (turn.now, turn.draw, turn.event, say.send, outcome, say.bytes) refl

-- ---- which item is served

-- two numbers are equal, or one of them is less
numbers : (m n : ℕ) → (m ≡ n) ⊎ ((m < n) ⊎ (n < m))
numbers m n =
    ⊎_elim
    (λ (less : m < n). inr (inl less))
    (λ (no_less : n ≤ m). ⊎_elim (λ (less : n < m). inr (inr less)) (λ (other : m ≤ n). inl (omega (arith, no_less, other))) (cases_lt n m))
    (cases_lt m n)

-- of two acts that are due, one comes before the other, or they are equal
due-acts : (setting : Setting) (past : List Action) (a b : Act) (m n : ℕ) → IsDueAt setting past a m → IsDueAt setting past b n → (a ≡ b) ⊎ (ComesBefore a b ⊎ ComesBefore b a)
due-acts setting past no_item b m n p q = absurd p
due-acts setting past (admits v x) b m n p q = absurd p
due-acts setting past (moves x) no_item m n p q = absurd q
due-acts setting past (moves x) (admits v y) m n p q = absurd q
due-acts setting past (moves x) (moves y) m n p q = ⊎_elim (λ (e : x ≡ y). inl (ap moves e)) (λ (o : (x < y) ⊎ (y < x)). inr o) (numbers x y)
due-acts setting past (moves x) (serves v) m n p q = inr (inl tt)
due-acts setting past (serves v) no_item m n p q = absurd q
due-acts setting past (serves v) (admits u y) m n p q = absurd q
due-acts setting past (serves v) (moves y) m n p q = inr (inr tt)
due-acts setting past (serves v) (serves u) m n p q = ⊎_elim (λ (e : v ≡ u). inl (ap serves e)) (λ (o : (v < u) ⊎ (u < v)). inr o) (numbers v u)

-- ticks at the same moment after the same actions have the same act
one-act : (setting : Setting) (past : List Action) (d e : Action) → IsActing setting past d → IsActing setting past e → d.act ≡ e.act
one-act setting past d e p q = ⊎_elim (λ (same : d.act ≡ e.act). same) (λ (o : ComesBefore d.act e.act ⊎ ComesBefore e.act d.act). absurd (⊎_elim (λ b. q.first d.act p.at p.due (inr (moments, b))) (λ b. p.first e.act q.at q.due (inr (sym moments, b))) o)) (due-acts setting past d.act e.act p.at q.at p.due q.due)
  where
    moments : p.at ≡ q.at
    moments = ⊎_elim (λ (same : p.at ≡ q.at). same) (λ (o : (p.at < q.at) ⊎ (q.at < p.at)). absurd (⊎_elim (λ less. q.first d.act p.at p.due (inl less)) (λ less. p.first e.act q.at q.due (inl less)) o)) (numbers p.at q.at)

-- ---- one answer of each kind

-- an exchange ends with only one answer at a position
ending-there : (setting : Setting) (x y : ℕ) (k l : CacheKey) (p : Position) (a b : Answer) → EndsWith setting x k p a → EndsWith setting y l p b → a ≡ b
ending-there setting x y k l p a b (got g former was key is) (got h older before other also) =
    is ∙ one-gotten g h (one-former g h was before) ∙ sym also
ending-there setting x y k l p a b (got g former was key is) (was_given_up h also) = absurd (let e = sym g.outcome ∙ ap accepts_answer h.outcome in cc)
ending-there setting x y k l p a b (was_given_up g is) (got h older before other also) = absurd (let e = sym h.outcome ∙ ap accepts_answer g.outcome in cc)
ending-there setting x y k l p a b (was_given_up g is) (was_given_up h also) = is ∙ sym also

-- so it does at equal positions
one-ending : (setting : Setting) (x y : ℕ) (k l : CacheKey) (p q : Position) (a b : Answer) → p ≡ q → EndsWith setting x k p a → EndsWith setting y l q b → a ≡ b
one-ending setting x y k l p q a b same e f = ending-there setting x y k l q a b (subst (λ (r : Position). EndsWith setting x k r a) same e) f

-- only one request is sent for an exchange
one-forwarding : (setting : Setting) (past : List Action) (d e : Action) (id : ℕ) → Gives id d.observation → Gives id e.observation → IsForwarding setting past d → IsForwarding setting past e → d.act ≡ e.act → SayTheSame d.observation e.observation
one-forwarding setting past d e id g h j k act =
    let p = j.to_send in
    let q = k.to_send in
    let most = setting.limits.datagram in
    let number = same_moves j.exchange k.exchange (sym j.act ∙ act ∙ k.act) in
    let one = one-opened number p.opened q.opened in
    let key : p.key ≡ q.key = one_key (sym p.verdict ∙ ap (verdict_of setting.routes) one.2 ∙ q.verdict) in
    let target = ap (λ (c : CacheKey). c.target) key in
    let former : j.former ≡ k.former = cache-unique setting q.opened.opening.before j.former k.former (subst (λ (r : Position). IsCacheOf setting r.before j.former) one.0 j.is_cache) k.is_cache in
    let tag : tag_for most p.key.target p.opened.request (kept_for p.key j.former) ≡ tag_for most q.key.target q.opened.request (kept_for q.key k.former) = λ i. tag_for most (key i).target (one.2 i) (kept_for (key i) (former i)) in
    let sent_id = id-told d.observation id p.key.target.at (forwarded (token_of setting.salt j.exchange) p.key.target (tag_for most p.key.target p.opened.request (kept_for p.key j.former)) p.opened.request j.id) g j.tells in
    let other_id = id-told e.observation id q.key.target.at (forwarded (token_of setting.salt k.exchange) q.key.target (tag_for most q.key.target q.opened.request (kept_for q.key k.former)) q.opened.request k.id) h k.tells in
    let same = forwarded-same setting.salt j.exchange k.exchange p.key.target q.key.target _ _ p.opened.request q.opened.request j.id k.id number target tag one.2 (sent_id ∙ sym other_id) in
    told-same d.observation e.observation p.key.target.at q.key.target.at _ _ j.tells k.tells (ap (λ (t : Target). t.at) target) same

-- the exchange of a response has one of the numbers that were used
gets-number : (setting : Setting) (past : List Action) (x : ℕ) (d : Action) → AllJustified setting past → Gets setting x (here past d) → x ≤ opened_in past
gets-number setting past x d all g =
    let m = g.meets in
    omega (arith, sent-number setting past m.asking x all m.was_asked m.asks.sends, opened-before past m.asking m.was_asked)

-- what is awaited at a turn is awaited by the other observation of the turn, too
abbrev awaited-too : (setting : Setting) (past : List Action) (d e : Observation) (x : ℕ) → AreOfOneTurn d e → IsAwaited setting past e.now x e.event → IsAwaited setting past d.now x d.event
awaited-too setting past d e x turn a = subst (λ (event : Event). IsAwaited setting past d.now x event) (sym turn.event) (subst (λ (n : ℕ). IsAwaited setting past n x e.event) (sym turn.now) a)

-- an answer is for one exchange: the requests of two were sent with different tokens, and a Reset
-- is meant for one request
one-exchange : (setting : Setting) (past : List Action) → AllJustified setting past → opened_in past < 2 ^ 64 → (d e : Action) → AreOfOneTurn d.observation e.observation → (a : IsAnswer setting past d) (b : IsAnswer setting past e) → d.act ≡ e.act
one-exchange setting past all few d e turn a b = a.gets.act ∙ ap moves number ∙ sym b.gets.act
  where
    p : Meets setting a.exchange past d.observation.event
    p = a.gets.meets

    q : Meets setting b.exchange past e.observation.event
    q = b.gets.meets

    message : p.message ≡ q.message
    message = (one-brought (subst (Brings setting.limits.datagram p.asks.sends.to p.message) turn.event p.brings) q.brings).1

    small_a : a.exchange ≤ opened_in past
    small_a = gets-number setting past a.exchange d all a.gets

    small_b : b.exchange ≤ opened_in past
    small_b = gets-number setting past b.exchange e all b.gets

    by_token : p.message.token ≡ token_of setting.salt a.exchange → q.message.token ≡ token_of setting.salt b.exchange → a.exchange ≡ b.exchange
    by_token s t = token-same setting.salt a.exchange b.exchange (omega (arith, few, small_a)) (omega (arith, few, small_b)) (sym s ∙ ap (λ (m : Message). m.token) message ∙ t)

    by_reset : p.message.kind ≡ Rst → a.exchange ≡ b.exchange
    by_reset reset = sym (same_moves b.exchange a.exchange (a.only reset (moves b.exchange) (to_reset b.exchange awaited refl (ap (λ (m : Message). m.kind) (sym message) ∙ reset)) ∙ a.gets.act))
      where
        awaited : IsAwaited setting past d.observation.now b.exchange d.observation.event
        awaited = awaited-too setting past d.observation e.observation b.exchange turn (answer-awaited b)

    number : a.exchange ≡ b.exchange
    number =
        ⊎_elim
        (λ (s : p.message.token ≡ token_of setting.salt a.exchange).
        ⊎_elim
        (λ (t : q.message.token ≡ token_of setting.salt b.exchange). by_token s t)
        (λ (reset : q.message.kind ≡ Rst). by_reset (ap (λ (m : Message). m.kind) message ∙ reset))
        (token-or-reset q.message q.matches))
        (λ (reset : p.message.kind ≡ Rst). by_reset reset)
        (token-or-reset p.message p.matches)

-- only one answer is sent to a waiter
one-delivery : (setting : Setting) (past : List Action) → AllJustified setting past → (d e : Action) (id : ℕ) → Gives id d.observation → Gives id e.observation → IsDelivery setting past d → IsDelivery setting past e → d.act ≡ e.act → d.observation.now ≡ e.observation.now → SayTheSame d.observation e.observation
one-delivery setting past all d e id g h j k act now =
    let p = j.to_serve in
    let q = k.to_serve in
    let number = same_serves j.waiter k.waiter (sym j.act ∙ act ∙ k.act) in
    let one = one-admitted number p.admitted q.admitted in
    let ends = subst (λ (n : ℕ). Ends n p.ending) one.3 p.ends in
    let ending = ended-once setting past q.admitted.exchange p.ending q.ending all p.was_ended q.was_ended ends q.ends in
    let answer = one-ending setting p.admitted.exchange q.admitted.exchange j.key k.key p.ending q.ending j.answer k.answer ending j.ended k.ended in
    let said_id = id-told d.observation id p.admitted.client (shown_as p.admitted.request.kind (is_get p.admitted.request.code) d.observation.now j.answer j.id p.admitted.request.token (tags_of p.admitted.request)) g j.tells in
    let other_id = id-told e.observation id q.admitted.client (shown_as q.admitted.request.kind (is_get q.admitted.request.code) e.observation.now k.answer k.id q.admitted.request.token (tags_of q.admitted.request)) h k.tells in
    let same = shown-same d.observation.now e.observation.now j.answer k.answer j.id k.id p.admitted.request q.admitted.request now answer (said_id ∙ sym other_id) one.2 in
    told-same d.observation e.observation p.admitted.client q.admitted.client _ _ j.tells k.tells one.1 same

-- ---- what an exchange may do

-- an exchange that waits for its turn doesn't wait for an acknowledgement
not-both : {A : Type 0} {setting : Setting} {past : List Action} {x y m : ℕ} → x ≡ y → stage_of x past ≡ Some queued → IsToRepeat setting past y m → A
not-both {past = past} same stage r = absurd (let e = sym stage ∙ ap (λ (n : ℕ). stage_of n past) same ∙ r.stage in cc)

-- an exchange before its deadline isn't overdue
not-late : {A : Type 0} (setting : Setting) (past : List Action) (x y now later at : ℕ) → x ≡ y → now ≡ later → InTime setting past x now → IsToEnd setting past y at → at ≤ later → A
not-late setting past x y now later at same moment timely end come =
    absurd (let before = timely at (subst (λ (n : ℕ). IsToEnd setting past n at) (sym same) end) in omega (arith, before, moment, come))

-- an exchange whose request is sent isn't given up
sent-kept : {A : Type 0} (setting : Setting) (past : List Action) (d e : Action) → IsForwarding setting past d → IsGivingUp setting past e → d.act ≡ e.act → d.observation.now ≡ e.observation.now → A
sent-kept setting past d e j (overdue y at acting is end come silent) act now = not-late setting past j.exchange y d.observation.now e.observation.now at (same_moves j.exchange y (sym j.act ∙ act ∙ is)) now j.in_time end come
sent-kept setting past d e j (unheard y at acting is repeat first come stops silent) act now = not-both (same_moves j.exchange y (sym j.act ∙ act ∙ is)) j.to_send.stage repeat
sent-kept setting past d e j (unacknowledged v acting is again stops silent) act now = absurd (let f = sym j.act ∙ act ∙ is in cc)

-- nor is one whose request is retransmitted
resent-kept : {A : Type 0} (setting : Setting) (past : List Action) (d e : Action) → IsResending setting past d → IsGivingUp setting past e → d.act ≡ e.act → d.observation.now ≡ e.observation.now → A
resent-kept {A} setting past d e j given act now = go given
  where
    goes_on : MayGoOn e.observation.now (sends_by e.act past)
    goes_on = subst (λ (a : Act). MayGoOn e.observation.now (sends_by a past)) act (subst (λ (n : ℕ). MayGoOn n (sends_by d.act past)) now j.goes_on)

    in_time : {m : ℕ} → IsToSendAgain setting past d m → (y at : ℕ) → e.act ≡ moves y → IsToEnd setting past y at → at ≤ e.observation.now → A
    in_time (request_again x is repeat timely) y at other end come = not-late setting past x y d.observation.now e.observation.now at (same_moves x y (sym is ∙ act ∙ other)) now timely end come
    in_time (answer_again v is again) y at other end come = absurd (let f = sym is ∙ act ∙ other in cc)

    go : IsGivingUp setting past e → A
    go (overdue y at acting is end come silent) = in_time j.again y at is end come
    go (unheard y at acting is repeat first come stops silent) = absurd (stops goes_on)
    go (unacknowledged v acting is again stops silent) = absurd (stops goes_on)

-- nothing is sent when something is given up
given_up-silent : (setting : Setting) (past : List Action) (d : Action) → IsGivingUp setting past d → IsSilent d.observation
given_up-silent setting past d (overdue y at acting is end come silent) = silent
given_up-silent setting past d (unheard y at acting is repeat first come stops silent) = silent
given_up-silent setting past d (unacknowledged v acting is again stops silent) = silent

-- a waiter that is due to be served isn't given up
served-kept : {A : Type 0} {setting : Setting} {past : List Action} {d : Action} {v m : ℕ} → d.act ≡ serves v → IsToServe setting past v m → IsGivingUp setting past d → A
served-kept act to_serve (overdue y at acting is end come silent) = absurd (let f = sym act ∙ is in cc)
served-kept act to_serve (unheard y at acting is repeat first come stops silent) = absurd (let f = sym act ∙ is in cc)
served-kept {v = v} act to_serve (unacknowledged u acting is again stops silent) = serves-apart (same_serves u v (sym is ∙ act)) again to_serve

-- nor is it served again
served-first : {A : Type 0} {setting : Setting} {past : List Action} {d : Action} {v m n : ℕ} → d.act ≡ serves v → IsToServe setting past v m → IsToSendAgain setting past d n → A
served-first act to_serve (request_again x is repeat timely) = absurd (let f = sym act ∙ is in cc)
served-first {v = v} act to_serve (answer_again u is again) = serves-apart (same_serves u v (sym is ∙ act)) again to_serve

-- a request that waits for its turn isn't retransmitted
sent-first : {A : Type 0} {setting : Setting} {past : List Action} {d : Action} {x m : ℕ} → d.act ≡ moves x → stage_of x past ≡ Some queued → IsToSendAgain setting past d m → A
sent-first {x = x} act stage (request_again y is repeat timely) = not-both (same_moves x y (sym act ∙ is)) stage repeat
sent-first act stage (answer_again v is again) = absurd (let f = sym act ∙ is in cc)

-- a message that settles a request or an answer is meant for it
settles-meant : {setting : Setting} {past : List Action} {d : Action} → Settles setting past d → IsMeant setting past d.observation.now d.observation.event d.act
settles-meant (a_request x act k) = to_acknowledge x act k
settles-meant (an_answer v act k) = to_close v act k

-- ---- one answer

-- two actions did the same: they have the same outcome and act, and send the same
record DoTheSame (d e : Action) : Type 0 where
  pub outcome : d.observation.report.outcome ≡ e.observation.report.outcome
  pub act : d.act ≡ e.act
  pub say : SayTheSame d.observation e.observation

-- actions with the same observation and the same act are equal
same-action : (d e : Action) → d.observation ≡ e.observation → d.act ≡ e.act → d ≡ e
same-action d e entry act = same
  where
    same : record { observation = d.observation; act = d.act } ≡ e
    same = rw (entry, act) refl

-- an outcome that accepts an answer stores it in some way, or not
accepts_answer-some : (o : Outcome) → accepts_answer o ≡ true → (s : Storing) × (o ≡ Answered s)
accepts_answer-some (Answered s) e = (s, refl)
accepts_answer-some _ e = absurd cc

-- actions that may follow the same actions at the same turn are equal
pub one-answer : (setting : Setting) (past : List Action) (d e : Action) → AllJustified setting past → opened_in past < 2 ^ 64 → MayFollow setting past d → MayFollow setting past e → AreOfOneTurn d.observation e.observation → d ≡ e
one-answer setting past d e all few f g turn =
    let alike = by_outcome d.observation.report.outcome refl f.justified in
    same-action d e (same-observation d.observation e.observation turn alike.outcome alike.say) alike.act
  where
    due : ℕ
    due = (setting.first_id + ids_in past) % 65536

    holds : (o : Outcome) → e.observation.report.outcome ≡ o → JustifiedBy o setting past e
    holds o is = subst (λ (u : Outcome). JustifiedBy u setting past e) is g.justified

    -- if a reply takes an id, it is the next one
    taken : (f : Action) → MayFollow setting past f → (client : Endpoint) (request reply : Message) → IsRequestOf setting client request f.observation.event → is_con request.kind ≡ false → ids_given false f.observation.report.outcome ≡ 1 → Tells client (at_once request reply) f.observation → reply_id request reply.id ≡ due
    taken f may client request reply asked non one tells =
        id-told f.observation due client (at_once request reply) (may.id (ap (λ (b : Bool). ids_given b f.observation.report.outcome) (request_con asked ∙ non) ∙ one)) tells

    -- so replies to the same request have the same id
    one_id : (client other : Endpoint) (r s reply again : Message) → IsRequestOf setting client r d.observation.event → IsRequestOf setting other s e.observation.event → r ≡ s → ids_given false d.observation.report.outcome ≡ 1 → ids_given false e.observation.report.outcome ≡ 1 → Tells client (at_once r reply) d.observation → Tells other (at_once s again) e.observation → reply_id r reply.id ≡ reply_id s again.id
    one_id client other r s reply again asked too same one two tells tell = go (is_con r.kind) refl
      where
        go : (b : Bool) → is_con r.kind ≡ b → reply_id r reply.id ≡ reply_id s again.id
        go true con =
            let con_too : is_con s.kind ≡ true = sym (ap (λ (m : Message). is_con m.kind) same) ∙ con in
            let first : reply_id r reply.id ≡ r.id = rw con refl in
            let second : reply_id s again.id ≡ s.id = rw con_too refl in
            first ∙ ap (λ (m : Message). m.id) same ∙ sym second
        go false non =
            let non_too : is_con s.kind ≡ false = sym (ap (λ (m : Message). is_con m.kind) same) ∙ non in
            taken d f client r reply asked non one tells ∙ sym (taken e g other s again too non_too two tell)

    -- what is new for one observation is new for the other
    new_too : (client : Endpoint) (request : Message) → IsNew setting past d.observation.now client request → IsNew setting past e.observation.now client request
    new_too client request new = subst (λ (n : ℕ). IsNew setting past n client request) turn.now new

    same_request : (client : Endpoint) (request : Message) → IsRequestOf setting client request d.observation.event → IsRequestOf setting client request e.observation.event
    same_request client request r = subst (IsRequestOf setting client request) turn.event r

    -- what holds of one observation of the turn holds of the other
    turned : (P : ℕ → Event → Type 0) → P d.observation.now d.observation.event → P e.observation.now e.observation.event
    turned P h = subst (λ (event : Event). P e.observation.now event) turn.event (subst (λ (n : ℕ). P n d.observation.event) turn.now h)

    -- what can't be processed in one observation can't be processed in the other
    unprocessable_too : IsUnprocessable setting past d.observation → IsUnprocessable setting past e.observation
    unprocessable_too u =
        let back = sym turn.event in
        let earlier = sym turn.now in
        record {
          no_request = λ client request r. u.no_request client request (subst (IsRequestOf setting client request) back r);
          no_duplicate = λ source m comes. subst (λ (n : ℕ). known_of past n source m ≡ None) turn.now (u.no_duplicate source m (subst (Comes setting source m) back comes));
          no_answer = λ x awaited. u.no_answer x (awaited-too setting past d.observation e.observation x turn awaited);
          no_settling = λ x k. u.no_settling x (subst (λ (event : Event). Acknowledges setting past d.observation.now x event) back (subst (λ (n : ℕ). Acknowledges setting past n x e.observation.event) earlier k));
          no_closing = λ v k. u.no_closing v (subst (λ (event : Event). Closes setting past d.observation.now v event) back (subst (λ (n : ℕ). Closes setting past n v e.observation.event) earlier k));
        }

    -- a message that there is no room to remember isn't remembered by the other observation
    dropped_too : IsDropped setting past d → e.observation.report.outcome ≡ NoRecordRoom
    dropped_too j = ⊎_elim (λ request. by_request request.0 request.1) (λ response. by_answer response.0 (j.wanted response.1)) (recorded-sorts j.message j.comes.recorded)
      where
        unknown : known_of past e.observation.now j.source j.message ≡ None
        unknown = subst (λ (n : ℕ). known_of past n j.source j.message ≡ None) turn.now j.unknown

        full : ¬ HasRecordRoom setting past e.observation.now j.source j.message
        full = subst (λ (n : ℕ). ¬ HasRecordRoom setting past n j.source j.message) turn.now j.full

        brings : Brings setting.limits.datagram j.source j.message e.observation.event
        brings = subst (Brings setting.limits.datagram j.source j.message) turn.event j.comes.brings

        by_request : brings_requests j.message.kind ≡ true → is_request j.message.code ≡ true → e.observation.report.outcome ≡ NoRecordRoom
        by_request kind method = given_dropped e.observation.report.outcome setting past e j.source j.message g.justified (record { brings = brings; kind = kind; method = method }) unknown full

        by_answer : j.message.kind ≡ Con → (x : ℕ) × IsAwaited setting past d.observation.now x d.observation.event → e.observation.report.outcome ≡ NoRecordRoom
        by_answer con wanted =
            let a : IsAwaited setting past e.observation.now wanted.0 e.observation.event = turned (λ n event. IsAwaited setting past n wanted.0 event) wanted.1 in
            let one = one-brought brings a.meets.brings in
            given_no_room e.observation.report.outcome setting past e wanted.0 g.justified a (sym (ap (λ (m : Message). m.kind) one.1) ∙ con) ((λ i. known_of past e.observation.now (sym one.0 i) (sym one.1 i)) ∙ unknown) (subst (λ (to : Endpoint). ¬ HasRecordRoom setting past e.observation.now to a.meets.message) one.0 (subst (λ (m : Message). ¬ HasRecordRoom setting past e.observation.now j.source m) one.1 full))

    -- an answer is accepted by the other observation
    answered_too : IsAnswer setting past d → accepts_answer e.observation.report.outcome ≡ true
    answered_too a =
        let t = turned (λ n event. (w : IsAwaited setting past n a.exchange event) × (w.meets.message.kind ≡ Con → IsNew setting past n w.meets.asks.sends.to w.meets.message)) (answer-awaited a, a.new) in
        given_answered e.observation.report.outcome setting past e a.exchange g.justified t.0 t.1

    same_miss : (key : CacheKey) → IsMiss setting past key d.observation.now → IsMiss setting past key e.observation.now
    same_miss key miss = subst (IsMiss setting past key) turn.now miss

    same_ids : (request : Message) → HasIdFor request d.observation.now past → HasIdFor request e.observation.now past
    same_ids request ids = subst (λ (n : ℕ). HasIdFor request n past) turn.now ids

    -- if something is due, the other observation isn't idle
    not-idle : {A : Type 0} → IsIdle setting past e → IsActing setting past d → A
    not-idle k a = absurd (let now = turn.now in let later = k.nothing d.act a.at a.due in let come = a.come in omega (arith, now, later, come))

    acting : {o : Outcome} → OnTick setting past e o → IsActing setting past d → d.act ≡ e.act
    acting (sending k) a = one-act setting past d e a k.acting
    acting (resent k) a = one-act setting past d e a k.acting
    acting (given_up k) a = one-act setting past d e a (given_up-so setting past e k)
    acting (delivered k) a = one-act setting past d e a k.acting
    acting (idle k) a = not-idle k a

    by_outcome : (o : Outcome) → d.observation.report.outcome ≡ o → JustifiedBy o setting past d → DoTheSame d e
    by_outcome Ignored is j =
        let o = given_ignored e.observation.report.outcome setting past e j.source j.bytes g.justified (sym turn.event ∙ j.came) j.no_con (unprocessable_too j.unprocessable) in
        let k = holds Ignored o in
        record { outcome = is ∙ sym o; act = j.act ∙ sym k.act; say = silent-same d.observation e.observation j.silent k.silent }
    by_outcome Rejected is j =
        let o = given_rejected e.observation.report.outcome setting past e j.source j.bytes g.justified (sym turn.event ∙ j.came) j.head j.head_is j.con (unprocessable_too j.unprocessable) in
        let k = holds Rejected o in
        let came = arrival-same j.source k.source j.bytes k.bytes (sym j.came ∙ turn.event ∙ k.came) in
        let head = same_Some j.head k.head (sym j.head_is ∙ ap head_at came.1 ∙ k.head_is) in
        record { outcome = is ∙ sym o; act = j.act ∙ sym k.act; say = told-same d.observation e.observation j.source k.source (reset j.head.id) (reset k.head.id) j.tells k.tells came.0 (ap (λ (h : Head). reset h.id) head) }
    by_outcome (Refused code) is j =
        let r = same_request j.client j.request j.asked in
        let o = given_refused e.observation.report.outcome setting past e j.client j.request g.justified r (new_too j.client j.request j.new) code (subst (λ (n : ℕ). Deserves setting past n j.request code) turn.now j.deserved) (same_ids j.request j.ids) in
        let k = holds (Refused code) o in
        let one = request-unique setting e.observation.event j.client k.client j.request k.request r k.asked in
        let token : j.request.token ≡ k.request.token = ap (λ (m : Message). m.token) one.1 in
        let id = one_id j.client k.client j.request k.request (own_reply code [] j.id j.request.token) (own_reply code [] k.id k.request.token) j.asked k.asked one.1 (ap (ids_given false) is) (ap (ids_given false) o) j.tells k.tells in
        let same = at_once-same j.request k.request (own_reply code [] j.id j.request.token) (own_reply code [] k.id k.request.token) (ap (λ (m : Message). m.kind) one.1) refl token refl refl id in
        record { outcome = is ∙ sym o; act = j.act ∙ sym k.act; say = told-same d.observation e.observation j.client k.client _ _ j.tells k.tells one.0 same }
    by_outcome Overloaded is j =
        let r = same_request j.client j.request j.asked in
        let o = given_overloaded e.observation.report.outcome setting past e j.client j.request g.justified r (new_too j.client j.request j.new) j.key j.verdict (subst (λ (n : ℕ). LacksRoom setting past n j.client j.key j.request) turn.now j.no_room) (same_ids j.request j.ids) in
        let k = holds Overloaded o in
        let one = request-unique setting e.observation.event j.client k.client j.request k.request r k.asked in
        let token : j.request.token ≡ k.request.token = ap (λ (m : Message). m.token) one.1 in
        let retry = setting.limits.retry_s in
        let id = one_id j.client k.client j.request k.request (overload_reply retry j.id j.request.token) (overload_reply retry k.id k.request.token) j.asked k.asked one.1 (ap (ids_given false) is) (ap (ids_given false) o) j.tells k.tells in
        let same = at_once-same j.request k.request (overload_reply retry j.id j.request.token) (overload_reply retry k.id k.request.token) (ap (λ (m : Message). m.kind) one.1) refl token refl refl id in
        record { outcome = is ∙ sym o; act = j.act ∙ sym k.act; say = told-same d.observation e.observation j.client k.client _ _ j.tells k.tells one.0 same }
    by_outcome NoId is j =
        let o = given_no_id e.observation.report.outcome setting past e j.client j.request g.justified (same_request j.client j.request j.asked) (new_too j.client j.request j.new) j.kind (subst (λ (n : ℕ). ¬ HasIds 1 n past) turn.now j.no_ids) in
        let k = holds NoId o in
        record { outcome = is ∙ sym o; act = j.act ∙ sym k.act; say = silent-same d.observation e.observation j.silent k.silent }
    by_outcome Joined is j =
        let r = same_request j.client j.request j.asked in
        let o = given_joined e.observation.report.outcome setting past e j.client j.request g.justified r (new_too j.client j.request j.new) j.key j.exchange j.method j.verdict (same_miss j.key j.miss) j.joinable (subst (λ (n : ℕ). HasRoomToJoin setting.limits n j.client past) turn.now j.room) in
        let k = holds Joined o in
        let one = request-unique setting e.observation.event j.client k.client j.request k.request r k.asked in
        let key : j.key ≡ k.key = one_key (sym j.verdict ∙ ap (verdict_on setting) one.1 ∙ k.verdict) in
        let exchange = one-joinable setting past k.key j.exchange k.exchange all (subst (λ (c : CacheKey). IsJoinable setting past c j.exchange) key j.joinable) k.joinable in
        record { outcome = is ∙ sym o; act = j.act ∙ ap (admits (admitted_in past + 1)) exchange ∙ sym k.act; say = accepted-same d.observation e.observation j.request.kind k.request.kind j.client k.client j.request.id k.request.id (ap (λ (m : Message). m.kind) one.1) one.0 (ap (λ (m : Message). m.id) one.1) j.accepts k.accepts }
    by_outcome Opened is j =
        let r = same_request j.client j.request j.asked in
        let o = given_opened e.observation.report.outcome setting past e j.client j.request g.justified r (new_too j.client j.request j.new) j.key j.verdict (subst (λ (n : ℕ). IsUnanswered setting past n j.key j.request) turn.now j.unanswered) j.fits (subst (λ (n : ℕ). HasRoomToOpen setting.limits n j.client past) turn.now j.room) in
        let k = holds Opened o in
        let one = request-unique setting e.observation.event j.client k.client j.request k.request r k.asked in
        record { outcome = is ∙ sym o; act = j.act ∙ sym k.act; say = accepted-same d.observation e.observation j.request.kind k.request.kind j.client k.client j.request.id k.request.id (ap (λ (m : Message). m.kind) one.1) one.0 (ap (λ (m : Message). m.id) one.1) j.accepts k.accepts }
    by_outcome Hit is j =
        let r = same_request j.client j.request j.asked in
        let o = given_hit e.observation.report.outcome setting past e j.client j.request g.justified r (new_too j.client j.request j.new) j.key j.cached j.entry j.method j.verdict j.is_cache j.found (subst (λ (n : ℕ). IsUsable setting past n j.entry) turn.now j.usable) (same_ids j.request j.ids) in
        let k = holds Hit o in
        let one = request-unique setting e.observation.event j.client k.client j.request k.request r k.asked in
        let key = one_key (sym j.verdict ∙ ap (verdict_on setting) one.1 ∙ k.verdict) in
        let cached = cache-unique setting past j.cached k.cached j.is_cache k.is_cache in
        let entry : j.entry ≡ k.entry = same_Some j.entry k.entry (sym j.found ∙ (λ i. of_key cached_key (key i) (cached i)) ∙ k.found) in
        let now = turn.now in
        let reply = shown d.observation.now (stored_answer (entry_of_cached j.entry).1) j.id j.request.token (tags_of j.request) in
        let again = shown e.observation.now (stored_answer (entry_of_cached k.entry).1) k.id k.request.token (tags_of k.request) in
        let content : reply ≡ shown e.observation.now (stored_answer (entry_of_cached k.entry).1) j.id k.request.token (tags_of k.request) = λ i. shown (now i) (stored_answer (entry_of_cached (entry i)).1) j.id (one.1 i).token (tags_of (one.1 i)) in
        let id = one_id j.client k.client j.request k.request reply again j.asked k.asked one.1 (ap (ids_given false) is) (ap (ids_given false) o) j.tells k.tells in
        let same = at_once-same j.request k.request reply again (ap (λ (m : Message). m.kind) one.1) (ap (λ (m : Message). m.code) content) (ap (λ (m : Message). m.token) content) (ap (λ (m : Message). m.options) content) (ap (λ (m : Message). m.payload) content) id in
        record { outcome = is ∙ sym o; act = j.act ∙ sym k.act; say = told-same d.observation e.observation j.client k.client _ _ j.tells k.tells one.0 same }
    by_outcome Again is j =
        let comes = subst (Comes setting j.source j.message) turn.event j.comes in
        let found = subst (λ (n : ℕ). known_of past n j.source j.message ≡ Some j.known) turn.now j.found in
        let o = given_again e.observation.report.outcome setting past e j.source j.message j.known g.justified comes found in
        let k = holds Again o in
        let one = one-brought comes.brings k.comes.brings in
        let known = same_Some j.known k.known (sym found ∙ (λ i. known_of past e.observation.now (one.0 i) (one.1 i)) ∙ k.found) in
        let told = subst (λ (c : Record). SaysAgain k.source c.reply d.observation) known (subst (λ (source : Endpoint). SaysAgain source j.known.reply d.observation) one.0 j.says_again) in
        record { outcome = is ∙ sym o; act = j.act ∙ sym k.act; say = again-same d.observation e.observation k.source k.known.reply told k.says_again }
    by_outcome NoRecordRoom is j =
        let o = dropped_too j in
        let k = holds NoRecordRoom o in
        record { outcome = is ∙ sym o; act = j.act ∙ sym k.act; say = silent-same d.observation e.observation j.silent k.silent }
    by_outcome (Answered s) is j =
        let a = taken-so s setting past d j in
        let some = accepts_answer-some e.observation.report.outcome (answered_too a) in
        let k = holds (Answered some.0) some.1 in
        let b = taken-so some.0 setting past e k in
        let act = one-exchange setting past all few d e turn a b in
        let memory = subst (λ (o : Outcome). HaveOneMemory o (Answered some.0)) is (subst (HaveOneMemory d.observation.report.outcome) some.1 turn.memory) in
        let storing = one-storing setting past d e turn.event turn.now act s some.0 j k memory in
        let p = a.gets.meets in
        let q = b.gets.meets in
        let one = one-brought (subst (Brings setting.limits.datagram p.asks.sends.to p.message) turn.event p.brings) q.brings in
        let say = accepted-same d.observation e.observation p.message.kind q.message.kind p.asks.sends.to q.asks.sends.to p.message.id q.message.id (ap (λ (m : Message). m.kind) one.1) one.0 (ap (λ (m : Message). m.id) one.1) a.accepts b.accepts in
        record { outcome = is ∙ ap Answered storing ∙ sym some.1; act = act; say = say }
    by_outcome Acked is j =
        let o = given_either e.observation.report.outcome setting past d e g.justified turn.now turn.event j.settles in
        let k = holds Acked o in
        record { outcome = is ∙ sym o; act = k.only d.act (turned (λ n event. IsMeant setting past n event d.act) (settles-meant j.settles)); say = silent-same d.observation e.observation j.silent k.silent }
    by_outcome SentRequest is j = go refl (on-tick e.observation.report.outcome setting past e g.justified (sym turn.event ∙ j.acting.ticked))
      where
        go : {o : Outcome} → e.observation.report.outcome ≡ o → OnTick setting past e o → DoTheSame d e
        go o (sending k) = let act = acting (sending k) j.acting in record { outcome = is ∙ sym o; act = act; say = one-forwarding setting past d e due (f.id (ap (ids_given (comes_con d.observation.event)) is)) (g.id (ap (ids_given (comes_con e.observation.event)) o)) j k act }
        go o (resent k) = sent-first (sym (acting (resent k) j.acting) ∙ j.act) j.to_send.stage k.again
        go o (given_up k) = sent-kept setting past d e j k (acting (given_up k) j.acting) turn.now
        go o (delivered k) = absurd (let act = sym j.act ∙ acting (delivered k) j.acting ∙ k.act in cc)
        go o (idle k) = not-idle k j.acting
    by_outcome Resent is j = go refl (on-tick e.observation.report.outcome setting past e g.justified (sym turn.event ∙ j.acting.ticked))
      where
        go : {o : Outcome} → e.observation.report.outcome ≡ o → OnTick setting past e o → DoTheSame d e
        go o (sending k) = sent-first (acting (sending k) j.acting ∙ k.act) k.to_send.stage j.again
        go o (resent k) =
            let act = acting (resent k) j.acting in
            let same = subst (λ (a : Act). SaysAsBefore (sends_by a past) d.observation) act j.same in
            record { outcome = is ∙ sym o; act = act; say = before-same d.observation e.observation (sends_by e.act past) same k.same }
        go o (given_up k) = resent-kept setting past d e j k (acting (given_up k) j.acting) turn.now
        go o (delivered k) = served-first (acting (delivered k) j.acting ∙ k.act) k.to_serve j.again
        go o (idle k) = not-idle k j.acting
    by_outcome GaveUp is j = go refl (on-tick e.observation.report.outcome setting past e g.justified (sym turn.event ∙ (given_up-so setting past d j).ticked))
      where
        a : IsActing setting past d
        a = given_up-so setting past d j

        go : {o : Outcome} → e.observation.report.outcome ≡ o → OnTick setting past e o → DoTheSame d e
        go o (sending k) = sent-kept setting past e d k j (sym (acting (sending k) a)) (sym turn.now)
        go o (resent k) = resent-kept setting past e d k j (sym (acting (resent k) a)) (sym turn.now)
        go o (given_up k) = record { outcome = is ∙ sym o; act = acting (given_up k) a; say = silent-same d.observation e.observation (given_up-silent setting past d j) (given_up-silent setting past e k) }
        go o (delivered k) = served-kept (acting (delivered k) a ∙ k.act) k.to_serve j
        go o (idle k) = not-idle k a
    by_outcome Delivered is j = go refl (on-tick e.observation.report.outcome setting past e g.justified (sym turn.event ∙ j.acting.ticked))
      where
        go : {o : Outcome} → e.observation.report.outcome ≡ o → OnTick setting past e o → DoTheSame d e
        go o (sending k) = absurd (let act = sym j.act ∙ acting (sending k) j.acting ∙ k.act in cc)
        go o (resent k) = served-first (sym (acting (resent k) j.acting) ∙ j.act) j.to_serve k.again
        go o (given_up k) = served-kept (sym (acting (given_up k) j.acting) ∙ j.act) j.to_serve k
        go o (delivered k) = let act = acting (delivered k) j.acting in record { outcome = is ∙ sym o; act = act; say = one-delivery setting past all d e due (f.id (ap (ids_given (comes_con d.observation.event)) is)) (g.id (ap (ids_given (comes_con e.observation.event)) o)) j k act turn.now }
        go o (idle k) = not-idle k j.acting
    by_outcome Idle is j = go refl (on-tick e.observation.report.outcome setting past e g.justified (sym turn.event ∙ j.ticked))
      where
        later : IsActing setting past e → ⊥
        later a = let now = turn.now in let not_yet = j.nothing e.act a.at a.due in let come = a.come in omega (arith, now, not_yet, come)

        go : {o : Outcome} → e.observation.report.outcome ≡ o → OnTick setting past e o → DoTheSame d e
        go o (sending k) = absurd (later k.acting)
        go o (resent k) = absurd (later k.acting)
        go o (given_up k) = absurd (later (given_up-so setting past e k))
        go o (delivered k) = absurd (later k.acting)
        go o (idle k) = record { outcome = is ∙ sym o; act = j.act ∙ sym k.act; say = silent-same d.observation e.observation j.silent k.silent }
