-- What is owed is done: by exclusion, since each action is justified by its outcome.
use Rattle.std.proofs.Common.{◌≡◌, ◌≢◌, ◌⊎◌, inl, ⊎_elim, ℕ, ◌≤◌, true, List, Some, None, refl, sym, ap, ◌∙◌, subst, arith}
use Rattle.coap_message.specs.declared.code.Code.{Code}
use Rattle.coap_message.specs.declared.kind.Kind.TheVariants.{Con, Non, Ack, Rst}
use Rattle.coap_message.specs.declared.code.TheConstants.Code.{EMPTY}
use Rattle.coap_message.specs.declared.message.Head.{Head}
use Rattle.coap_message.specs.Message.{Message}
use Rattle.coap_message.specs.Reading.{head_at}
use Rattle.coap_endpoint.specs.declared.endpoint.Endpoint.{Endpoint}
use Rattle.coap_store.specs.declared.key.CacheKey.{CacheKey}
use Rattle.coap_model.specs.declared.deed.Refusal.{Refusal}
use Rattle.coap_model.specs.Deeds.{code_of}
use Rattle.coap_model.specs.declared.report.Outcome.{Outcome}
use Rattle.coap_model.specs.declared.report.Outcome.TheVariants.{Ignored, Rejected, Again, NoRecordRoom, Refused, Hit, Joined, Opened, Overloaded, NoId, Answered, Acked, SentRequest, Resent, GaveUp, Delivered, Idle}
use Rattle.coap_model.specs.declared.report.Storing.{Storing}
use Rattle.coap_model.specs.declared.report.Storing.TheVariants.{Kept, TooLarge, NoMemory, NotStored}
use Rattle.coap_model.specs.Setting.{Setting}
use Rattle.coap_dedup.specs.declared.record.Record.{Record}
use Rattle.coap_model.specs.Events.{Event, arrival, tick}
use Rattle.coap_forward.specs.Messages.{is_recorded}
use Rattle.coap_model.specs.Verdicts.{may_ask, refused_with}
use Rattle.coap_model.specs.Standing.{HasIds, HasRoomToJoin, HasRoomToOpen}
use Rattle.coap_model.specs.History.{Act, moves, serves, Action, accepts_answer, Brings, IsRequestOf, Meets, Matches}
use Rattle.coap_store.specs.Lists.{of_key}
use Rattle.coap_model.specs.Cached.{Cached, cached_key, IsCacheOf}
use Rattle.coap_model.proofs.Cached.{cache-unique}
use Rattle.coap_model.specs.Due.{IsDueAt}
use Rattle.coap_model.specs.Justified.{Comes, known_of, HasRecordRoom, IsNew, HasIdFor, IsRepetition, IsDropped, Acknowledges, Closes, to_reset, to_close, Settles, a_request, an_answer, IsSettled, verdict_on, fits_on, Deserves, by_verdict, by_length, IsMiss, IsJoinable, IsUnanswered, IsGet, IsUsable, IsRefusal, IsHit, IsAnswer, LacksRoom, to_join, to_open, IsOverload, IsLack, IsJoining, IsOpening, IsAwaited, IsForwarding, IsResending, IsGivingUp, overdue, unheard, unacknowledged, IsDelivery, IsIdle, IsUnprocessable, IsActing, JustifiedBy}
use Rattle.coap_model.proofs.Arrivals.{no_tick}
use Rattle.coap_model.proofs.Positions.{arrival-same, one-brought, request-unique}
use Rattle.coap_model.proofs.Sorts.{empty-no-request, answer-no-request, answer-no-ack, answer-reset, recorded-sorts, recorded-kind, answer-recorded}

-- ---- sorts of messages

-- a request isn't an answer
no_answer : {A : Type 0} {setting : Setting} {past : List Action} {x : ℕ} {event : Event} {client : Endpoint} {request : Message} → Meets setting x past event → IsRequestOf setting client request event → A
no_answer {request = request} meets r =
    let one = (one-brought meets.brings r.brings).1 in
    answer-no-request request (subst (Matches _ _) one meets.matches) r.kind r.method

-- an event brings an Empty acknowledgement or a Reset
record BringsEmpty (setting : Setting) (event : Event) : Type 0 where
  pub source : Endpoint
  pub message : Message
  pub brings : Brings setting.limits.datagram source message event
  pub kind : (message.kind ≡ Ack) ⊎ (message.kind ≡ Rst)
  pub empty : message.code ≡ EMPTY

-- what acknowledges a request is Empty
abbrev acknowledging : {setting : Setting} {past : List Action} {now x : ℕ} {event : Event} → Acknowledges setting past now x event → BringsEmpty setting event
acknowledging k = record { source = k.asks.sends.to; message = k.message; brings = k.brings; kind = inl k.kind; empty = k.empty }

-- and so is what closes a waiter
abbrev closing : {setting : Setting} {past : List Action} {now v : ℕ} {event : Event} → Closes setting past now v event → BringsEmpty setting event
closing k = record { source = k.to; message = k.message; brings = k.brings; kind = k.kind; empty = k.empty }

-- and so is what settles either
settling : {setting : Setting} {past : List Action} {d : Action} → Settles setting past d → BringsEmpty setting d.observation.event
settling (a_request x act k) = acknowledging k
settling (an_answer v act k) = closing k

-- an Empty message isn't a request
no_empty : {A : Type 0} {setting : Setting} {event : Event} {client : Endpoint} {request : Message} → BringsEmpty setting event → IsRequestOf setting client request event → A
no_empty {request = request} e r = empty-no-request (subst (λ (m : Message). (m.kind ≡ Ack) ⊎ (m.kind ≡ Rst)) (one-brought e.brings r.brings).1 e.kind) r.kind

-- an answer isn't an Empty acknowledgement
not_both : {A : Type 0} {setting : Setting} {past : List Action} {now x y : ℕ} {event : Event} → Meets setting x past event → Acknowledges setting past now y event → A
not_both meets k =
    let one = (one-brought meets.brings k.brings).1 in
    answer-no-ack meets.message meets.matches (ap (λ (m : Message). m.kind) one ∙ k.kind) (ap (λ (m : Message). m.code) one ∙ k.empty)

-- what is Empty isn't remembered
not_recorded : {A : Type 0} {setting : Setting} {event : Event} {source : Endpoint} {m : Message} → BringsEmpty setting event → Comes setting source m event → A
not_recorded {m = m} e comes = empty-no-request (subst (λ (n : Message). (n.kind ≡ Ack) ⊎ (n.kind ≡ Rst)) (one-brought e.brings comes.brings).1 e.kind) (recorded-kind m comes.recorded)

-- an answer that is a message that may close a waiter is a Reset
answer_resets : {setting : Setting} {past : List Action} {now x v : ℕ} {event : Event} → (meets : Meets setting x past event) → Closes setting past now v event → meets.message.kind ≡ Rst
answer_resets meets k =
    let one = sym (one-brought meets.brings k.brings).1 in
    answer-reset meets.message meets.matches (subst (λ (m : Message). (m.kind ≡ Ack) ⊎ (m.kind ≡ Rst)) one k.kind) (subst (λ (m : Message). m.code ≡ EMPTY) one k.empty)

-- a message that is meant for one act alone settles nothing else if it is an awaited answer
not_settled : {A : Type 0} {setting : Setting} {past : List Action} {d : Action} {x : ℕ} → IsAwaited setting past d.observation.now x d.observation.event → IsSettled setting past d → A
not_settled {setting = setting} {past = past} {d = d} {x = x} a k = go k.settles
  where
    go : {A : Type 0} → Settles setting past d → A
    go (a_request y act acknowledges) = not_both a.meets acknowledges
    go (an_answer v act closes) = absurd (let e = k.only (moves x) (to_reset x a refl (answer_resets a.meets closes)) ∙ act in cc)

-- nor does it close a waiter if it is an accepted answer
not_closed : {A : Type 0} {setting : Setting} {past : List Action} {d : Action} {v : ℕ} → IsAnswer setting past d → Closes setting past d.observation.now v d.observation.event → A
not_closed {v = v} a k = absurd (let e = a.only (answer_resets a.gets.meets k) (serves v) (to_close v refl k) ∙ a.gets.act in cc)

-- an answer that is remembered is Confirmable
answer_con : {setting : Setting} {past : List Action} {x : ℕ} {event : Event} {source : Endpoint} {m : Message} → (meets : Meets setting x past event) → Comes setting source m event → meets.message.kind ≡ Con
answer_con meets comes = answer-recorded meets.message meets.matches (ap is_recorded (one-brought meets.brings comes.brings).1 ∙ comes.recorded)

-- ---- requests

-- an answer, stored in any way or not
pub taken-so : (s : Storing) (setting : Setting) (past : List Action) (d : Action) → JustifiedBy (Answered s) setting past d → IsAnswer setting past d
taken-so Kept setting past d j = j.answer
taken-so TooLarge setting past d j = j.answer
taken-so NoMemory setting past d j = j.answer
taken-so NotStored setting past d j = j.answer

-- what is given up was due
pub given_up-so : (setting : Setting) (past : List Action) (d : Action) → IsGivingUp setting past d → IsActing setting past d
given_up-so setting past d (overdue exchange at acting act to_end come silent) = acting
given_up-so setting past d (unheard exchange at acting act to_repeat first come stops silent) = acting
given_up-so setting past d (unacknowledged client acting act to_serve stops silent) = acting

-- the outcomes of a request
data OnRequest (setting : Setting) (past : List Action) (d : Action) : Outcome → Type 0 where
  refused : (code : Code) → IsRefusal setting past d code → OnRequest setting past d (Refused code)
  overloaded : IsOverload setting past d → OnRequest setting past d Overloaded
  lacking : IsLack setting past d → OnRequest setting past d NoId
  joined : IsJoining setting past d → OnRequest setting past d Joined
  opened : IsOpening setting past d → OnRequest setting past d Opened
  hit : IsHit setting past d → OnRequest setting past d Hit
  repeated : IsRepetition setting past d → OnRequest setting past d Again
  dropped : IsDropped setting past d → OnRequest setting past d NoRecordRoom

-- a request is refused, answered from the cache, turned away, dropped without an id, joins, opens
-- an exchange, or is a duplicate or isn't remembered, and nothing else
on-request : (o : Outcome) (setting : Setting) (past : List Action) (d : Action) (client : Endpoint) (request : Message) → JustifiedBy o setting past d → IsRequestOf setting client request d.observation.event → OnRequest setting past d o
on-request Ignored setting past d client request j r = absurd (j.unprocessable.no_request client request r)
on-request Rejected setting past d client request j r = absurd (j.unprocessable.no_request client request r)
on-request (Refused code) setting past d client request j r = refused code j
on-request Joined setting past d client request j r = joined j
on-request Opened setting past d client request j r = opened j
on-request Overloaded setting past d client request j r = overloaded j
on-request NoId setting past d client request j r = lacking j
on-request Hit setting past d client request j r = hit j
on-request Again setting past d client request j r = repeated j
on-request NoRecordRoom setting past d client request j r = dropped j
on-request (Answered s) setting past d client request j r = no_answer (taken-so s setting past d j).gets.meets r
on-request Acked setting past d client request j r = no_empty (settling j.settles) r
on-request SentRequest setting past d client request j r = no_tick r.brings.came j.acting.ticked
on-request Resent setting past d client request j r = no_tick r.brings.came j.acting.ticked
on-request GaveUp setting past d client request j r = no_tick r.brings.came (given_up-so setting past d j).ticked
on-request Delivered setting past d client request j r = no_tick r.brings.came j.acting.ticked
on-request Idle setting past d client request j r = no_tick r.brings.came j.ticked

-- two requests with equal verdicts have equal keys
pub one_key : {a b : CacheKey} → may_ask a ≡ may_ask b → a ≡ b
one_key e = cc

-- an entry that is missed in the cache isn't a hit
pub missed-or-hit : {A : Type 0} (setting : Setting) (past : List Action) (now : ℕ) (key other : CacheKey) (cached : List Cached) (entry : Cached) → IsMiss setting past key now → key ≡ other → IsCacheOf setting past cached → of_key cached_key other cached ≡ Some entry → IsUsable setting past now entry → A
missed-or-hit setting past now key other cached entry miss same is found usable =
    absurd (let one = cache-unique setting past cached miss.cached is miss.is_cache in let back = sym same in miss.unusable entry (sym (λ i. of_key cached_key (back i) (one i)) ∙ found) usable)

-- if a GET has to be forwarded, no exchange with its key may be joined
none-joinable : {A : Type 0} (setting : Setting) (past : List Action) (now x : ℕ) (key other : CacheKey) (request : Message) → IsUnanswered setting past now key request → IsGet request → key ≡ other → IsJoinable setting past other x → A
none-joinable setting past now x key other request unanswered get same joinable = absurd (unanswered.alone get x (subst (λ (k : CacheKey). IsJoinable setting past k x) (sym same) joinable))

-- a request that fits deserves no error code
fits_well : {A : Type 0} (setting : Setting) (past : List Action) (now : ℕ) (request : Message) (code : Code) (key : CacheKey) → Deserves setting past now request code → verdict_on setting request ≡ may_ask key → fits_on setting key request ≡ true → A
fits_well setting past now request code key (by_verdict why refusal is) verdict short = absurd (let e = sym refusal ∙ verdict in cc)
fits_well setting past now request code key (by_length other asked unanswered long is) verdict short =
    absurd (let same = one_key (sym asked ∙ verdict) in let e = sym long ∙ ap (λ (k : CacheKey). fits_on setting k request) same ∙ short in cc)

-- nor does one that hits
hits_well : {A : Type 0} (setting : Setting) (past : List Action) (now : ℕ) (request : Message) (code : Code) (key : CacheKey) (cached : List Cached) (entry : Cached) → Deserves setting past now request code → IsGet request → verdict_on setting request ≡ may_ask key → IsCacheOf setting past cached → of_key cached_key key cached ≡ Some entry → IsUsable setting past now entry → A
hits_well setting past now request code key cached entry (by_verdict why refusal same) get verdict is found usable = absurd (let e = sym refusal ∙ verdict in cc)
hits_well setting past now request code key cached entry (by_length other asked unanswered long same) get verdict is found usable = missed-or-hit setting past now other key cached entry (unanswered.miss get) (one_key (sym asked ∙ verdict)) is found usable

-- nor does a GET whose key has an exchange that may be joined
joins_well : {A : Type 0} (setting : Setting) (past : List Action) (now x : ℕ) (request : Message) (code : Code) (key : CacheKey) → Deserves setting past now request code → IsGet request → verdict_on setting request ≡ may_ask key → IsJoinable setting past key x → A
joins_well setting past now x request code key (by_verdict why refusal is) get verdict joinable = absurd (let e = sym refusal ∙ verdict in cc)
joins_well setting past now x request code key (by_length other asked unanswered long is) get verdict joinable = none-joinable setting past now x other key request unanswered get (one_key (sym asked ∙ verdict)) joinable

-- nor does one for which there is no room
lacks_well : {A : Type 0} {client : Endpoint} (setting : Setting) (past : List Action) (now : ℕ) (request : Message) (code : Code) (key : CacheKey) → Deserves setting past now request code → verdict_on setting request ≡ may_ask key → LacksRoom setting past now client key request → A
lacks_well setting past now request code key deserved verdict (to_join x get miss joinable full) = joins_well setting past now x request code key deserved get verdict joinable
lacks_well setting past now request code key deserved verdict (to_open unanswered short full) = fits_well setting past now request code key deserved verdict short

-- if there is no room for a GET, the cache has no usable entry for it
lacks-miss : {setting : Setting} {past : List Action} {now : ℕ} {client : Endpoint} {key : CacheKey} {request : Message} → IsGet request → LacksRoom setting past now client key request → IsMiss setting past key now
lacks-miss get (to_join x also miss joinable full) = miss
lacks-miss get (to_open unanswered short full) = unanswered.miss get

-- if a request has to be forwarded, and there is room to open an exchange, room isn't lacking
roomy-open : {A : Type 0} {a b : Endpoint} (setting : Setting) (past : List Action) (now : ℕ) (key other : CacheKey) (request : Message) → IsUnanswered setting past now key request → HasRoomToOpen setting.limits now a past → a ≡ b → key ≡ other → LacksRoom setting past now b other request → A
roomy-open setting past now key other request unanswered room client same (to_join x get miss joinable full) = none-joinable setting past now x key other request unanswered get same joinable
roomy-open setting past now key other request unanswered room client same (to_open also short full) = absurd (full (subst (λ (e : Endpoint). HasRoomToOpen setting.limits now e past) client room))

-- nor is it if an exchange may be joined, and there is room to join it
roomy-join : {A : Type 0} {a b : Endpoint} (setting : Setting) (past : List Action) (now x : ℕ) (key other : CacheKey) (request : Message) → IsGet request → IsJoinable setting past key x → HasRoomToJoin setting.limits now a past → a ≡ b → key ≡ other → LacksRoom setting past now b other request → A
roomy-join setting past now x key other request get joinable room client same (to_join y also miss again full) = absurd (full (subst (λ (e : Endpoint). HasRoomToJoin setting.limits now e past) client room))
roomy-join setting past now x key other request get joinable room client same (to_open unanswered short full) = none-joinable setting past now x other key request unanswered get (sym same) joinable

-- a verdict refuses for one cause
one_refusal : {a b : Refusal} → refused_with a ≡ refused_with b → a ≡ b
one_refusal e = cc

-- a request deserves only one code
one_code : (setting : Setting) (past : List Action) (now : ℕ) (request : Message) (a b : Code) → Deserves setting past now request a → Deserves setting past now request b → a ≡ b
one_code setting past now request a b (by_verdict why p is) (by_verdict other q same) =
    let refusal : why ≡ other = one_refusal (sym p ∙ q) in
    is ∙ ap code_of refusal ∙ sym same
one_code setting past now request a b (by_verdict why p same) (by_length key q unanswered long is) = absurd (let e = sym p ∙ q in cc)
one_code setting past now request a b (by_length key p unanswered long is) (by_verdict why q same) = absurd (let e = sym p ∙ q in cc)
one_code setting past now request a b (by_length key p unanswered long is) (by_length other q none longer same) = is ∙ sym same

-- an event brings only one request, which deserves the same code in both accounts
same_deserved : (setting : Setting) (past : List Action) (now : ℕ) (d : Action) (a b : Endpoint) (r s : Message) (code : Code) → IsRequestOf setting a r d.observation.event → IsRequestOf setting b s d.observation.event → Deserves setting past now r code → Deserves setting past now s code
same_deserved setting past now d a b r s code asked again deserved = subst (λ (m : Message). Deserves setting past now m code) (request-unique setting d.observation.event a b r s asked again).1 deserved

-- and it has only one key
key-of : (setting : Setting) (d : Action) (a b : Endpoint) (r s : Message) (k l : CacheKey) → IsRequestOf setting a r d.observation.event → IsRequestOf setting b s d.observation.event → verdict_on setting r ≡ may_ask k → verdict_on setting s ≡ may_ask l → k ≡ l
key-of setting d a b r s k l asked again p q = one_key (sym p ∙ ap (verdict_on setting) (request-unique setting d.observation.event a b r s asked again).1 ∙ q)

-- if two ids are free, one is
pub fewer_ids : (now : ℕ) (past : List Action) → HasIds 2 now past → HasIds 1 now past
fewer_ids now past h = record { free = let f = h.free in omega arith }

-- ---- new messages

-- the record of a message is the same in both accounts
pub same_known : (most : ℕ) (past : List Action) (d : Action) (a b : Endpoint) (r s : Message) → Brings most a r d.observation.event → Brings most b s d.observation.event → known_of past d.observation.now a r ≡ known_of past d.observation.now b s
same_known most past d a b r s brings again = let one = one-brought brings again in λ i. known_of past d.observation.now (one.0 i) (one.1 i)

-- a new message has no record
new-known : {A : Type 0} (most : ℕ) (past : List Action) (d : Action) (a b : Endpoint) (r s : Message) (known : Record) → Brings most a r d.observation.event → Brings most b s d.observation.event → known_of past d.observation.now a r ≡ None → known_of past d.observation.now b s ≡ Some known → A
new-known most past d a b r s known brings again new found = absurd (let e = sym new ∙ same_known most past d a b r s brings again ∙ found in cc)

-- and there is room to remember it
new-full : {A : Type 0} (setting : Setting) (past : List Action) (d : Action) (a b : Endpoint) (r s : Message) → Brings setting.limits.datagram a r d.observation.event → Brings setting.limits.datagram b s d.observation.event → IsNew setting past d.observation.now a r → ¬ HasRecordRoom setting past d.observation.now b s → A
new-full setting past d a b r s brings again new full =
    absurd (let one = one-brought brings again in full (subst (λ (e : Endpoint). HasRecordRoom setting past d.observation.now e s) one.0 (subst (HasRecordRoom setting past d.observation.now a) one.1 new.room)))

-- a duplicate of a remembered message gets what is remembered
pub given_again : (o : Outcome) (setting : Setting) (past : List Action) (d : Action) (source : Endpoint) (m : Message) (known : Record) → JustifiedBy o setting past d → Comes setting source m d.observation.event → known_of past d.observation.now source m ≡ Some known → o ≡ Again
given_again o setting past d source m known j comes found = go o j
  where
    new : {A : Type 0} (other : Endpoint) (n : Message) → Brings setting.limits.datagram other n d.observation.event → known_of past d.observation.now other n ≡ None → A
    new other n brings unknown = new-known setting.limits.datagram past d other source n m known brings comes.brings unknown found

    unprocessed : {A : Type 0} → IsUnprocessable setting past d.observation → A
    unprocessed u = new source m comes.brings (u.no_duplicate source m comes)

    go : (p : Outcome) → JustifiedBy p setting past d → p ≡ Again
    go Ignored k = unprocessed k.unprocessable
    go Rejected k = unprocessed k.unprocessable
    go (Refused code) k = new k.client k.request k.asked.brings k.new.unknown
    go Joined k = new k.client k.request k.asked.brings k.new.unknown
    go Opened k = new k.client k.request k.asked.brings k.new.unknown
    go Overloaded k = new k.client k.request k.asked.brings k.new.unknown
    go NoId k = new k.client k.request k.asked.brings k.new.unknown
    go Hit k = new k.client k.request k.asked.brings k.new.unknown
    go Again k = refl
    go NoRecordRoom k = new k.source k.message k.comes.brings k.unknown
    go (Answered s) k =
        let a = taken-so s setting past d k in
        let meets = a.gets.meets in
        new meets.asks.sends.to meets.message meets.brings (a.new (answer_con meets comes)).unknown
    go Acked k = not_recorded (settling k.settles) comes
    go SentRequest k = no_tick comes.brings.came k.acting.ticked
    go Resent k = no_tick comes.brings.came k.acting.ticked
    go GaveUp k = no_tick comes.brings.came (given_up-so setting past d k).ticked
    go Delivered k = no_tick comes.brings.came k.acting.ticked
    go Idle k = no_tick comes.brings.came k.ticked

-- ---- new requests

module _ (o : Outcome) (setting : Setting) (past : List Action) (d : Action) (client : Endpoint) (request : Message) (j : JustifiedBy o setting past d) (r : IsRequestOf setting client request d.observation.event) where
  abbrev now : ℕ
  now = d.observation.now

  -- the request of the observation is this one
  one : (other : Endpoint) (m : Message) → IsRequestOf setting other m d.observation.event → m ≡ request
  one other m asked = (request-unique setting d.observation.event other client m request asked r).1

  -- and so is its client
  one_client : (other : Endpoint) (m : Message) → IsRequestOf setting other m d.observation.event → other ≡ client
  one_client other m asked = (request-unique setting d.observation.event other client m request asked r).0

  -- so it is a GET in both accounts
  got-too : (other : Endpoint) (m : Message) → IsRequestOf setting other m d.observation.event → IsGet m → IsGet request
  got-too other m asked get = subst IsGet (one other m asked) get

  got-there : (other : Endpoint) (m : Message) → IsRequestOf setting other m d.observation.event → IsGet request → IsGet m
  got-there other m asked get = subst IsGet (sym (one other m asked)) get

  -- if there is no room to remember it, nothing is sent
  pub given_dropped : known_of past d.observation.now client request ≡ None → ¬ HasRecordRoom setting past d.observation.now client request → o ≡ NoRecordRoom
  given_dropped unknown full = go (on-request o setting past d client request j r)
    where
      not-new : {A : Type 0} (other : Endpoint) (m : Message) → IsRequestOf setting other m d.observation.event → IsNew setting past d.observation.now other m → A
      not-new other m asked new = new-full setting past d other client m request asked.brings r.brings new full

      go : {p : Outcome} → OnRequest setting past d p → p ≡ NoRecordRoom
      go (refused code k) = not-new k.client k.request k.asked k.new
      go (overloaded k) = not-new k.client k.request k.asked k.new
      go (lacking k) = not-new k.client k.request k.asked k.new
      go (joined k) = not-new k.client k.request k.asked k.new
      go (opened k) = not-new k.client k.request k.asked k.new
      go (hit k) = not-new k.client k.request k.asked k.new
      go (repeated k) = new-known setting.limits.datagram past d client k.source request k.message k.known r.brings k.comes.brings unknown k.found
      go (dropped k) = refl

  module _ (new : IsNew setting past d.observation.now client request) where
    -- a new request isn't a duplicate, and is remembered
    not-again : {A : Type 0} → IsRepetition setting past d → A
    not-again k = new-known setting.limits.datagram past d client k.source request k.message k.known r.brings k.comes.brings new.unknown k.found

    not-dropped : {A : Type 0} → IsDropped setting past d → A
    not-dropped k = new-full setting past d client k.source request k.message r.brings k.comes.brings new k.full

    -- a request that deserves a code is refused with it
    pub given_refused : (code : Code) → Deserves setting past d.observation.now request code → HasIdFor request d.observation.now past → o ≡ Refused code
    given_refused code deserved ids = go (on-request o setting past d client request j r)
      where
        go : {p : Outcome} → OnRequest setting past d p → p ≡ Refused code
        go (refused other k) = ap Refused (one_code setting past now request other code (same_deserved setting past now d k.client client k.request request other k.asked r k.deserved) deserved)
        go (overloaded k) = lacks_well setting past now k.request code k.key (same_deserved setting past now d client k.client request k.request code r k.asked deserved) k.verdict k.no_room
        go (lacking k) = absurd (k.no_ids (ids (sym (ap (λ (m : Message). m.kind) (one k.client k.request k.asked)) ∙ k.kind)))
        go (joined k) = joins_well setting past now k.exchange k.request code k.key (same_deserved setting past now d client k.client request k.request code r k.asked deserved) k.method k.verdict k.joinable
        go (opened k) = fits_well setting past now k.request code k.key (same_deserved setting past now d client k.client request k.request code r k.asked deserved) k.verdict k.fits
        go (hit k) = hits_well setting past now k.request code k.key k.cached k.entry (same_deserved setting past now d client k.client request k.request code r k.asked deserved) k.method k.verdict k.is_cache k.found k.usable
        go (repeated k) = not-again k
        go (dropped k) = not-dropped k

    -- a GET whose key has a usable entry is answered from the cache
    pub given_hit : (key : CacheKey) (cached : List Cached) (entry : Cached) → IsGet request → verdict_on setting request ≡ may_ask key → IsCacheOf setting past cached → of_key cached_key key cached ≡ Some entry → IsUsable setting past d.observation.now entry → HasIdFor request d.observation.now past → o ≡ Hit
    given_hit key cached entry get verdict is found usable ids = go (on-request o setting past d client request j r)
      where
        go : {p : Outcome} → OnRequest setting past d p → p ≡ Hit
        go (refused code k) = hits_well setting past now request code key cached entry (same_deserved setting past now d k.client client k.request request code k.asked r k.deserved) get verdict is found usable
        go (overloaded k) = missed-or-hit setting past now k.key key cached entry (lacks-miss (got-there k.client k.request k.asked get) k.no_room) (key-of setting d k.client client k.request request k.key key k.asked r k.verdict verdict) is found usable
        go (lacking k) = absurd (k.no_ids (ids (sym (ap (λ (m : Message). m.kind) (one k.client k.request k.asked)) ∙ k.kind)))
        go (joined k) = missed-or-hit setting past now k.key key cached entry k.miss (key-of setting d k.client client k.request request k.key key k.asked r k.verdict verdict) is found usable
        go (opened k) = missed-or-hit setting past now k.key key cached entry (k.unanswered.miss (got-there k.client k.request k.asked get)) (key-of setting d k.client client k.request request k.key key k.asked r k.verdict verdict) is found usable
        go (hit k) = refl
        go (repeated k) = not-again k
        go (dropped k) = not-dropped k

    -- a request that may be forwarded is turned away if there is no room
    pub given_overloaded : (key : CacheKey) → verdict_on setting request ≡ may_ask key → LacksRoom setting past d.observation.now client key request → HasIdFor request d.observation.now past → o ≡ Overloaded
    given_overloaded key verdict lacks ids = go (on-request o setting past d client request j r)
      where
        go : {p : Outcome} → OnRequest setting past d p → p ≡ Overloaded
        go (refused code k) = lacks_well setting past now request code key (same_deserved setting past now d k.client client k.request request code k.asked r k.deserved) verdict lacks
        go (overloaded k) = refl
        go (lacking k) = absurd (k.no_ids (ids (sym (ap (λ (m : Message). m.kind) (one k.client k.request k.asked)) ∙ k.kind)))
        go (joined k) = roomy-join setting past now k.exchange k.key key request (got-too k.client k.request k.asked k.method) k.joinable k.room (one_client k.client k.request k.asked) (key-of setting d k.client client k.request request k.key key k.asked r k.verdict verdict) lacks
        go (opened k) = roomy-open setting past now k.key key request (subst (IsUnanswered setting past now k.key) (one k.client k.request k.asked) k.unanswered) k.room (one_client k.client k.request k.asked) (key-of setting d k.client client k.request request k.key key k.asked r k.verdict verdict) lacks
        go (hit k) = missed-or-hit setting past now key k.key k.cached k.entry (lacks-miss (got-too k.client k.request k.asked k.method) lacks) (key-of setting d client k.client request k.request key k.key r k.asked verdict k.verdict) k.is_cache k.found k.usable
        go (repeated k) = not-again k
        go (dropped k) = not-dropped k

    -- a request that has to be forwarded opens an exchange, if there is room
    pub given_opened : (key : CacheKey) → verdict_on setting request ≡ may_ask key → IsUnanswered setting past d.observation.now key request → fits_on setting key request ≡ true → HasRoomToOpen setting.limits d.observation.now client past → o ≡ Opened
    given_opened key verdict unanswered short room = go (on-request o setting past d client request j r)
      where
        go : {p : Outcome} → OnRequest setting past d p → p ≡ Opened
        go (refused code k) = fits_well setting past now request code key (same_deserved setting past now d k.client client k.request request code k.asked r k.deserved) verdict short
        go (overloaded k) = roomy-open setting past now key k.key k.request (subst (IsUnanswered setting past now key) (sym (one k.client k.request k.asked)) unanswered) room (sym (one_client k.client k.request k.asked)) (key-of setting d client k.client request k.request key k.key r k.asked verdict k.verdict) k.no_room
        go (lacking k) = absurd (k.no_ids (fewer_ids d.observation.now past room.shared.ids))
        go (joined k) = none-joinable setting past now k.exchange key k.key request unanswered (got-too k.client k.request k.asked k.method) (key-of setting d client k.client request k.request key k.key r k.asked verdict k.verdict) k.joinable
        go (opened k) = refl
        go (hit k) = missed-or-hit setting past now key k.key k.cached k.entry (unanswered.miss (got-too k.client k.request k.asked k.method)) (key-of setting d client k.client request k.request key k.key r k.asked verdict k.verdict) k.is_cache k.found k.usable
        go (repeated k) = not-again k
        go (dropped k) = not-dropped k

    -- a GET that is missed in the cache, and whose key has an exchange that may be joined, joins
    -- it, if there is room
    pub given_joined : (key : CacheKey) (x : ℕ) → IsGet request → verdict_on setting request ≡ may_ask key → IsMiss setting past key d.observation.now → IsJoinable setting past key x → HasRoomToJoin setting.limits d.observation.now client past → o ≡ Joined
    given_joined key x get verdict miss joinable room = go (on-request o setting past d client request j r)
      where
        go : {p : Outcome} → OnRequest setting past d p → p ≡ Joined
        go (refused code k) = joins_well setting past now x request code key (same_deserved setting past now d k.client client k.request request code k.asked r k.deserved) get verdict joinable
        go (overloaded k) = roomy-join setting past now x key k.key k.request (got-there k.client k.request k.asked get) joinable room (sym (one_client k.client k.request k.asked)) (key-of setting d client k.client request k.request key k.key r k.asked verdict k.verdict) k.no_room
        go (lacking k) = absurd (k.no_ids room.shared.ids)
        go (joined k) = refl
        go (opened k) = none-joinable setting past now x k.key key k.request k.unanswered (got-there k.client k.request k.asked get) (key-of setting d k.client client k.request request k.key key k.asked r k.verdict verdict) joinable
        go (hit k) = missed-or-hit setting past now key k.key k.cached k.entry miss (key-of setting d client k.client request k.request key k.key r k.asked verdict k.verdict) k.is_cache k.found k.usable
        go (repeated k) = not-again k
        go (dropped k) = not-dropped k

    module _ (kind : request.kind ≡ Non) where
      non : (other : Endpoint) (m : Message) → IsRequestOf setting other m d.observation.event → m.kind ≡ Non
      non other m asked = ap (λ (k : Message). k.kind) (one other m asked) ∙ kind

      -- if no id is free, nothing is sent
      pub given_no_id : ¬ HasIds 1 d.observation.now past → o ≡ NoId
      given_no_id none = go (on-request o setting past d client request j r)
        where
          go : {p : Outcome} → OnRequest setting past d p → p ≡ NoId
          go (refused code k) = absurd (none (k.ids (non k.client k.request k.asked)))
          go (overloaded k) = absurd (none (k.ids (non k.client k.request k.asked)))
          go (lacking k) = refl
          go (joined k) = absurd (none k.room.shared.ids)
          go (opened k) = absurd (none (fewer_ids d.observation.now past k.room.shared.ids))
          go (hit k) = absurd (none (k.ids (non k.client k.request k.asked)))
          go (repeated k) = not-again k
          go (dropped k) = not-dropped k

-- ---- answers

module _ (o : Outcome) (setting : Setting) (past : List Action) (d : Action) (x : ℕ) (j : JustifiedBy o setting past d) (a : IsAwaited setting past d.observation.now x d.observation.event) where
  -- an awaited answer is accepted; one in a Confirmable message if it is new
  pub given_answered : (a.meets.message.kind ≡ Con → IsNew setting past d.observation.now a.meets.asks.sends.to a.meets.message) → accepts_answer o ≡ true
  given_answered new = go o j
    where
      go : (p : Outcome) → JustifiedBy p setting past d → accepts_answer p ≡ true
      go Ignored k = absurd (k.unprocessable.no_answer x a)
      go Rejected k = absurd (k.unprocessable.no_answer x a)
      go (Refused code) k = no_answer a.meets k.asked
      go Joined k = no_answer a.meets k.asked
      go Opened k = no_answer a.meets k.asked
      go Overloaded k = no_answer a.meets k.asked
      go NoId k = no_answer a.meets k.asked
      go Hit k = no_answer a.meets k.asked
      go Again k = new-known setting.limits.datagram past d a.meets.asks.sends.to k.source a.meets.message k.message k.known a.meets.brings k.comes.brings (new (answer_con a.meets k.comes)).unknown k.found
      go NoRecordRoom k = new-full setting past d a.meets.asks.sends.to k.source a.meets.message k.message a.meets.brings k.comes.brings (new (answer_con a.meets k.comes)) k.full
      go (Answered s) k = refl
      go Acked k = not_settled a k
      go SentRequest k = no_tick a.meets.brings.came k.acting.ticked
      go Resent k = no_tick a.meets.brings.came k.acting.ticked
      go GaveUp k = no_tick a.meets.brings.came (given_up-so setting past d k).ticked
      go Delivered k = no_tick a.meets.brings.came k.acting.ticked
      go Idle k = no_tick a.meets.brings.came k.ticked

  -- one in a Confirmable message that isn't known, and that there is no room to remember, gets no
  -- reply
  pub given_no_room : a.meets.message.kind ≡ Con → known_of past d.observation.now a.meets.asks.sends.to a.meets.message ≡ None → ¬ HasRecordRoom setting past d.observation.now a.meets.asks.sends.to a.meets.message → o ≡ NoRecordRoom
  given_no_room con unknown full = go o j
    where
      go : (p : Outcome) → JustifiedBy p setting past d → p ≡ NoRecordRoom
      go Ignored k = absurd (k.unprocessable.no_answer x a)
      go Rejected k = absurd (k.unprocessable.no_answer x a)
      go (Refused code) k = no_answer a.meets k.asked
      go Joined k = no_answer a.meets k.asked
      go Opened k = no_answer a.meets k.asked
      go Overloaded k = no_answer a.meets k.asked
      go NoId k = no_answer a.meets k.asked
      go Hit k = no_answer a.meets k.asked
      go Again k = new-known setting.limits.datagram past d a.meets.asks.sends.to k.source a.meets.message k.message k.known a.meets.brings k.comes.brings unknown k.found
      go NoRecordRoom k = refl
      go (Answered s) k = let b = taken-so s setting past d k in let m = b.gets.meets in let one = (one-brought a.meets.brings m.brings).1 in new-full setting past d m.asks.sends.to a.meets.asks.sends.to m.message a.meets.message m.brings a.meets.brings (b.new (sym (ap (λ (n : Message). n.kind) one) ∙ con)) full
      go Acked k = not_settled a k
      go SentRequest k = no_tick a.meets.brings.came k.acting.ticked
      go Resent k = no_tick a.meets.brings.came k.acting.ticked
      go GaveUp k = no_tick a.meets.brings.came (given_up-so setting past d k).ticked
      go Delivered k = no_tick a.meets.brings.came k.acting.ticked
      go Idle k = no_tick a.meets.brings.came k.ticked

-- an acknowledgement of a request that waits for one settles it
pub given_settled : (o : Outcome) (setting : Setting) (past : List Action) (d : Action) (x : ℕ) → JustifiedBy o setting past d → Acknowledges setting past d.observation.now x d.observation.event → o ≡ Acked
given_settled o setting past d x j a = go o j
  where
    go : (p : Outcome) → JustifiedBy p setting past d → p ≡ Acked
    go Ignored k = absurd (k.unprocessable.no_settling x a)
    go Rejected k = absurd (k.unprocessable.no_settling x a)
    go (Refused code) k = no_empty (acknowledging a) k.asked
    go Joined k = no_empty (acknowledging a) k.asked
    go Opened k = no_empty (acknowledging a) k.asked
    go Overloaded k = no_empty (acknowledging a) k.asked
    go NoId k = no_empty (acknowledging a) k.asked
    go Hit k = no_empty (acknowledging a) k.asked
    go Again k = not_recorded (acknowledging a) k.comes
    go NoRecordRoom k = not_recorded (acknowledging a) k.comes
    go (Answered s) k = not_both (taken-so s setting past d k).gets.meets a
    go Acked k = refl
    go SentRequest k = no_tick a.brings.came k.acting.ticked
    go Resent k = no_tick a.brings.came k.acting.ticked
    go GaveUp k = no_tick a.brings.came (given_up-so setting past d k).ticked
    go Delivered k = no_tick a.brings.came k.acting.ticked
    go Idle k = no_tick a.brings.came k.ticked

-- a message that closes a waiter settles its answer
pub given_closed : (o : Outcome) (setting : Setting) (past : List Action) (d : Action) (v : ℕ) → JustifiedBy o setting past d → Closes setting past d.observation.now v d.observation.event → o ≡ Acked
given_closed o setting past d v j a = go o j
  where
    go : (p : Outcome) → JustifiedBy p setting past d → p ≡ Acked
    go Ignored k = absurd (k.unprocessable.no_closing v a)
    go Rejected k = absurd (k.unprocessable.no_closing v a)
    go (Refused code) k = no_empty (closing a) k.asked
    go Joined k = no_empty (closing a) k.asked
    go Opened k = no_empty (closing a) k.asked
    go Overloaded k = no_empty (closing a) k.asked
    go NoId k = no_empty (closing a) k.asked
    go Hit k = no_empty (closing a) k.asked
    go Again k = not_recorded (closing a) k.comes
    go NoRecordRoom k = not_recorded (closing a) k.comes
    go (Answered s) k = not_closed (taken-so s setting past d k) a
    go Acked k = refl
    go SentRequest k = no_tick a.brings.came k.acting.ticked
    go Resent k = no_tick a.brings.came k.acting.ticked
    go GaveUp k = no_tick a.brings.came (given_up-so setting past d k).ticked
    go Delivered k = no_tick a.brings.came k.acting.ticked
    go Idle k = no_tick a.brings.came k.ticked

-- a message that settles a request or an answer is settled
pub given_either : (o : Outcome) (setting : Setting) (past : List Action) (d e : Action) → JustifiedBy o setting past e → d.observation.now ≡ e.observation.now → d.observation.event ≡ e.observation.event → Settles setting past d → o ≡ Acked
given_either o setting past d e j now event (a_request x act k) = given_settled o setting past e x j (subst (λ (f : Event). Acknowledges setting past e.observation.now x f) event (subst (λ (n : ℕ). Acknowledges setting past n x d.observation.event) now k))
given_either o setting past d e j now event (an_answer v act k) = given_closed o setting past e v j (subst (λ (f : Event). Closes setting past e.observation.now v f) event (subst (λ (n : ℕ). Closes setting past n v d.observation.event) now k))

-- ---- what isn't processed

-- an answer that arrives was awaited
abbrev pub answer-awaited : {setting : Setting} {past : List Action} {d : Action} (a : IsAnswer setting past d) → IsAwaited setting past d.observation.now a.exchange d.observation.event
answer-awaited a = record { meets = a.gets.meets; unended = a.first; unsettled = a.unsettled }

-- what is ignored or rejected isn't dropped: it is neither a request nor an awaited answer
no_drop : {A : Type 0} {setting : Setting} {past : List Action} {d : Action} → IsDropped setting past d → IsUnprocessable setting past d.observation → A
no_drop k not =
    absurd (⊎_elim
    (λ request. not.no_request k.source k.message (record { brings = k.comes.brings; kind = request.0; method = request.1 }))
    (λ response. let wanted = k.wanted response.1 in not.no_answer wanted.0 wanted.1)
    (recorded-sorts k.message k.comes.recorded))

-- nor does it settle anything
no_settling : {A : Type 0} {setting : Setting} {past : List Action} {d : Action} → Settles setting past d → IsUnprocessable setting past d.observation → A
no_settling (a_request x act k) not = absurd (not.no_settling x k)
no_settling (an_answer v act k) not = absurd (not.no_closing v k)

-- nor is it a duplicate
no_again : {A : Type 0} {setting : Setting} {past : List Action} {d : Action} → IsRepetition setting past d → IsUnprocessable setting past d.observation → A
no_again k not = absurd (let e = sym (not.no_duplicate k.source k.message k.comes) ∙ k.found in cc)

module _ (o : Outcome) (setting : Setting) (past : List Action) (d : Action) (source : Endpoint) (bytes : List ℕ) (j : JustifiedBy o setting past d) (came : d.observation.event ≡ arrival source bytes) where
  -- a Confirmable datagram that can't be processed is rejected
  pub given_rejected : (head : Head) → head_at bytes ≡ Some head → head.kind ≡ Con → IsUnprocessable setting past d.observation → o ≡ Rejected
  given_rejected head is con not = go o j
    where
      go : (p : Outcome) → JustifiedBy p setting past d → p ≡ Rejected
      go Ignored k = let same = arrival-same source k.source bytes k.bytes (sym came ∙ k.came) in absurd (k.no_con head (sym (ap head_at same.1) ∙ is) con)
      go Rejected k = refl
      go (Refused code) k = absurd (not.no_request k.client k.request k.asked)
      go Joined k = absurd (not.no_request k.client k.request k.asked)
      go Opened k = absurd (not.no_request k.client k.request k.asked)
      go Overloaded k = absurd (not.no_request k.client k.request k.asked)
      go NoId k = absurd (not.no_request k.client k.request k.asked)
      go Hit k = absurd (not.no_request k.client k.request k.asked)
      go Again k = no_again k not
      go NoRecordRoom k = no_drop k not
      go (Answered s) k = let a = taken-so s setting past d k in absurd (not.no_answer a.exchange (answer-awaited a))
      go Acked k = no_settling k.settles not
      go SentRequest k = no_tick came k.acting.ticked
      go Resent k = no_tick came k.acting.ticked
      go GaveUp k = no_tick came (given_up-so setting past d k).ticked
      go Delivered k = no_tick came k.acting.ticked
      go Idle k = no_tick came k.ticked

  -- what can't be processed and isn't Confirmable is ignored
  pub given_ignored : ((head : Head) → head_at bytes ≡ Some head → head.kind ≢ Con) → IsUnprocessable setting past d.observation → o ≡ Ignored
  given_ignored no_con not = go o j
    where
      go : (p : Outcome) → JustifiedBy p setting past d → p ≡ Ignored
      go Ignored k = refl
      go Rejected k = let same = arrival-same source k.source bytes k.bytes (sym came ∙ k.came) in absurd (no_con k.head (ap head_at same.1 ∙ k.head_is) k.con)
      go (Refused code) k = absurd (not.no_request k.client k.request k.asked)
      go Joined k = absurd (not.no_request k.client k.request k.asked)
      go Opened k = absurd (not.no_request k.client k.request k.asked)
      go Overloaded k = absurd (not.no_request k.client k.request k.asked)
      go NoId k = absurd (not.no_request k.client k.request k.asked)
      go Hit k = absurd (not.no_request k.client k.request k.asked)
      go Again k = no_again k not
      go NoRecordRoom k = no_drop k not
      go (Answered s) k = let a = taken-so s setting past d k in absurd (not.no_answer a.exchange (answer-awaited a))
      go Acked k = no_settling k.settles not
      go SentRequest k = no_tick came k.acting.ticked
      go Resent k = no_tick came k.acting.ticked
      go GaveUp k = no_tick came (given_up-so setting past d k).ticked
      go Delivered k = no_tick came k.acting.ticked
      go Idle k = no_tick came k.ticked

-- ---- ticks

-- the outcomes of a tick
pub data OnTick (setting : Setting) (past : List Action) (d : Action) : Outcome → Type 0 where
  sent : IsForwarding setting past d → OnTick setting past d SentRequest
  resent : IsResending setting past d → OnTick setting past d Resent
  given_up : IsGivingUp setting past d → OnTick setting past d GaveUp
  delivered : IsDelivery setting past d → OnTick setting past d Delivered
  idle : IsIdle setting past d → OnTick setting past d Idle

-- a tick sends a request or serves a waiter, for the first time or again, gives one of them up, or
-- does nothing
pub on-tick : (o : Outcome) (setting : Setting) (past : List Action) (d : Action) → JustifiedBy o setting past d → d.observation.event ≡ tick → OnTick setting past d o
on-tick Ignored setting past d j ticked = no_tick j.came ticked
on-tick Rejected setting past d j ticked = no_tick j.came ticked
on-tick (Refused code) setting past d j ticked = no_tick j.asked.brings.came ticked
on-tick Joined setting past d j ticked = no_tick j.asked.brings.came ticked
on-tick Opened setting past d j ticked = no_tick j.asked.brings.came ticked
on-tick Overloaded setting past d j ticked = no_tick j.asked.brings.came ticked
on-tick NoId setting past d j ticked = no_tick j.asked.brings.came ticked
on-tick Again setting past d j ticked = no_tick j.comes.brings.came ticked
on-tick NoRecordRoom setting past d j ticked = no_tick j.comes.brings.came ticked
on-tick Hit setting past d j ticked = no_tick j.asked.brings.came ticked
on-tick (Answered s) setting past d j ticked = no_tick (taken-so s setting past d j).gets.meets.brings.came ticked
on-tick Acked setting past d j ticked = no_tick (settling j.settles).brings.came ticked
on-tick SentRequest setting past d j ticked = sent j
on-tick Resent setting past d j ticked = resent j
on-tick GaveUp setting past d j ticked = given_up j
on-tick Delivered setting past d j ticked = delivered j
on-tick Idle setting past d j ticked = idle j

-- a tick at which something is due does what is due first
pub given_done : (o : Outcome) (setting : Setting) (past : List Action) (d : Action) (a : Act) (at : ℕ) → JustifiedBy o setting past d → d.observation.event ≡ tick → IsDueAt setting past a at → at ≤ d.observation.now → IsActing setting past d
given_done o setting past d a at j ticked due come = go (on-tick o setting past d j ticked)
  where
    go : {p : Outcome} → OnTick setting past d p → IsActing setting past d
    go (sent k) = k.acting
    go (resent k) = k.acting
    go (given_up k) = given_up-so setting past d k
    go (delivered k) = k.acting
    go (idle k) = let later = k.nothing a at due in absurd (omega (arith, later, come))
