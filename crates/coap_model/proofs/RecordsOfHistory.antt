-- The remembered messages are those of the history, as it grows.
use Rattle.std.proofs.Common.{◌≡◌, ℕ, ◌<◌, ◌≤◌, Bool, true, false, List, [], ◌∷◌, ◌++◌, length, Option, Some, None, refl, sym, ap, ◌∙◌, subst, arith}
use Rattle.std.specs.Prelude.{◌&&◌, if◌then◌else◌}
use Rattle.std.proofs.lemmas.Bool.{and_parts}
use Rattle.std.proofs.lemmas.List.{append-nil}
use Rattle.std.proofs.lemmas.List.Elements.{filter-append}
use Rattle.coap_endpoint.proofs.Lists.{All-append, All-weaken}
use Rattle.coap_message.specs.declared.kind.Kind.{Kind}
use Rattle.coap_message.specs.declared.kind.Kind.TheVariants.{Con, Non, Ack, Rst}
use Rattle.coap_message.specs.declared.message.Head.{Head}
use Rattle.coap_message.specs.Codes.{is_request}
use Rattle.coap_message.specs.Message.{Message}
use Rattle.coap_message.specs.Reading.{head_at}
use Rattle.coap_endpoint.specs.declared.endpoint.Endpoint.{Endpoint}
use Rattle.coap_dedup.specs.declared.record.Record.{Record}
use Rattle.coap_dedup.specs.Lists.{count_from, is_living, living, record_of, AreUpTo, reply_bytes}
use Rattle.coap_dedup.specs.Records.{Records, living_at, living_of, with_kept}
use Rattle.coap_dedup.proofs.Kept.{AreRecords-kept}
use Rattle.coap_dedup.proofs.Passing.{living-kept, AreUpTo-kept}
use Rattle.coap_model.specs.Setting.{Setting}
use Rattle.coap_model.specs.Events.{Event, arrival, tick}
use Rattle.coap_forward.specs.Messages.{is_con, brings_requests, kept_reply}
use Rattle.coap_model.specs.Remembered.{is_remembered, goes_with, kept_at, kept_by, kept_in, kept_of, most_of_client, most_remembered, remembered_at, remembered_for, remembered_of}
use Rattle.coap_model.specs.State.{State, Step, records_of, record_made, known_of, has_record_room}
use Rattle.coap_model.specs.Step.{message_in}
use Rattle.coap_model.specs.declared.report.Outcome.{Outcome}
use Rattle.coap_model.specs.declared.report.Outcome.TheVariants.{Answered}
use Rattle.coap_model.specs.declared.report.Storing.{Storing}
use Rattle.std.proofs.lemmas.Option.{same_Some}
use Rattle.coap_message.specs.Uint.{IsBytes}
use Rattle.coap_model.specs.History.{Act, Action, last_of}
use Rattle.coap_model.specs.Justified.{HasRecordRoom, IsNew}
use Rattle.coap_model.specs.Runs.{observation_of}
use Rattle.coap_model.specs.Carries.{AreRemembered, Bears}
use Rattle.coap_model.proofs.Positions.{doing}
use Rattle.coap_model.proofs.Rules.{Asked, IsFirst, head_of_read}
use Rattle.coap_model.proofs.Lists.{All-filter}
use Rattle.coap_model.proofs.JoinedTests.{both-below, not-both}

-- after an observation that adds no record, the same is remembered
pub remembered-on : {setting : Setting} {history : List Action} {kind : Kind} {t : Records} (e : Action) → last_of history ≤ e.observation.now → kept_by kind e.observation ≡ [] → AreRemembered setting history kind t → AreRemembered setting (e ∷ history) kind t
remembered-on {history = history} {kind = kind} {t = t} e onward none s =
    record {
      same = λ n later. s.same n (omega (arith, onward, later)) ∙ ap (living (remembered_for kind) n) (sym (ap (λ (rs : List Record). kept_in kind history ++ rs) none ∙ append-nil (kept_in kind history)));
      limit = s.limit;
      per_client = s.per_client;
      lifetime = s.lifetime;
      are = s.are;
      until = All-weaken (λ r. r.at ≤ last_of history) (λ r. r.at ≤ e.observation.now) t.items (λ r le. omega (arith, le, onward)) s.until;
      short = s.short;
    }

-- and after one that adds the record of a new message, this is remembered, too
pub remembered-more : {setting : Setting} {history : List Action} {kind : Kind} {t : Records} (e : Action) (r : Record) → last_of history ≤ e.observation.now → r.at ≡ e.observation.now → kept_by kind e.observation ≡ r ∷ [] → record_of r.from r.id (living_at e.observation.now t) ≡ None → length (living_at e.observation.now t) < t.limit → living_of r.from e.observation.now t < t.per_client
    → ((most : ℕ) → 128 ≤ most → setting.limits.datagram ≤ most → reply_bytes r ≤ most) → AreRemembered setting history kind t → AreRemembered setting (e ∷ history) kind (with_kept r t)
remembered-more {setting = setting} {history = history} {kind = kind} {t = t} e r onward at one unknown room own short s =
    record {
      same = λ n later. living-kept r t n (omega (arith, at, later)) ∙ both n later;
      limit = s.limit;
      per_client = s.per_client;
      lifetime = s.lifetime;
      are = AreRecords-kept r t s.are (subst (λ (n : ℕ). record_of r.from r.id (living_at n t) ≡ None) (sym at) unknown) until (subst (λ (n : ℕ). length (living_at n t) < t.limit) (sym at) room) (subst (λ (n : ℕ). living_of r.from n t < t.per_client) (sym at) own);
      until = subst (λ (n : ℕ). AreUpTo n (with_kept r t).items) at (AreUpTo-kept r t until);
      short = λ most wide long.
          All-append (λ q. reply_bytes q ≤ most) (living t.lifetime r.at t.items) (r ∷ [])
          (All-weaken (λ q. (reply_bytes q ≤ most) × (is_living t.lifetime r.at q ≡ true)) (λ q. reply_bytes q ≤ most) (living t.lifetime r.at t.items) (λ q h. h.0) (All-filter (λ q. reply_bytes q ≤ most) (is_living t.lifetime r.at) t.items (s.short most wide long)))
          (short most wide long, tt);
    }
  where
    until : AreUpTo r.at t.items
    until = All-weaken (λ q. q.at ≤ last_of history) (λ q. q.at ≤ r.at) t.items (λ q le. omega (arith, le, onward, at)) s.until

    both : (n : ℕ) → e.observation.now ≤ n → living_at n t ++ living t.lifetime n (r ∷ []) ≡ remembered_at kind n (e ∷ history)
    both n later =
        (λ i. s.same n (omega (arith, onward, later)) i ++ living (s.lifetime i) n (r ∷ []))
        ∙ sym (filter-append (is_living (remembered_for kind) n) (kept_in kind history) (r ∷ []))
        ∙ ap (λ (rs : List Record). living (remembered_for kind) n (kept_in kind history ++ rs)) (sym one)

-- an outcome that isn't remembered fails the test
and_off : (a b : Bool) → b ≡ false → (a && b) ≡ false
and_off true b e = e
and_off false b e = refl

kept-nothing : (kind : Kind) (outcome : Outcome) (now : ℕ) (sent : List ℕ) (source : Endpoint) (o : Option Head) → ((h : Head) → o ≡ Some h → is_remembered outcome h.kind ≡ false) → kept_of kind outcome now sent source o ≡ []
kept-nothing kind outcome now sent source None none = refl
kept-nothing kind outcome now sent source (Some h) none = rw (and_off (goes_with kind h.kind) (is_remembered outcome h.kind) (none h refl)) refl

-- an observation with such an outcome adds no record
pub leaves-nothing : (kind : Kind) (e : Action) → ((k : Kind) → is_remembered e.observation.report.outcome k ≡ false) → kept_by kind e.observation ≡ []
leaves-nothing kind e none = go e.observation.event
  where
    go : (event : Event) → kept_at kind e.observation.report.outcome e.observation.now e.observation.bytes event ≡ []
    go (arrival source bytes) = kept-nothing kind e.observation.report.outcome e.observation.now e.observation.bytes source (head_at bytes) (λ h is. none h.kind)
    go tick = refl

-- ---- a new request

-- a request is Confirmable or Non-confirmable
pub request-kind : {w : State} {bytes : List ℕ} {m : Message} → Asked w bytes m → brings_requests m.kind ≡ true
request-kind {m = m} asked = (and_parts (brings_requests m.kind) (is_request m.code) asked.request).0

module _ (w : State) (history : List Action) (c : Bears history w) (now : ℕ) (client : Endpoint) (bytes : List ℕ) (m : Message) (onward : w.last ≤ now) where
  since : last_of history ≤ now
  since = let h = c.clock.last in omega (arith, h, onward)

  -- the record of a request is what the history remembers
  pub known-is : (k : Kind) → brings_requests k ≡ true → living_at now (records_of k w) ≡ remembered_at k now history
  known-is Con e = c.con_records.same now since
  known-is Non e = c.non_records.same now since
  known-is Ack e = absurd cc
  known-is Rst e = absurd cc

  pub limit-is : (k : Kind) → brings_requests k ≡ true → (records_of k w).limit ≡ most_remembered k w.setting.limits
  limit-is Con e = c.con_records.limit
  limit-is Non e = c.non_records.limit
  limit-is Ack e = absurd cc
  limit-is Rst e = absurd cc

  pub per_client-is : (k : Kind) → brings_requests k ≡ true → (records_of k w).per_client ≡ most_of_client k w.setting.limits
  per_client-is Con e = c.con_records.per_client
  per_client-is Non e = c.non_records.per_client
  per_client-is Ack e = absurd cc
  per_client-is Rst e = absurd cc

  module _ (kind : brings_requests m.kind ≡ true) where
    -- as much of its type is remembered, of all and of its endpoint
    same : living_at now (records_of m.kind w) ≡ remembered_at m.kind now history
    same = known-is m.kind kind

    own : living_of client now (records_of m.kind w) ≡ remembered_of client m.kind now history
    own = ap (count_from client) same

    -- if the tables have room to remember it, there is room according to the history
    pub record-room : has_record_room w now client m.kind ≡ true → HasRecordRoom w.setting history now client m
    record-room room = let both = both-below (ap length same) own (limit-is m.kind kind) (per_client-is m.kind kind) room in record { shared = both.0; own = both.1 }

    -- and if not, there is none
    pub record-full : has_record_room w now client m.kind ≡ false → ¬ HasRecordRoom w.setting history now client m
    record-full full room = not-both (ap length same) own (limit-is m.kind kind) (per_client-is m.kind kind) full room.shared room.own

  -- it isn't remembered, and there is room
  pub record-new : brings_requests m.kind ≡ true → known_of w now client m ≡ None → has_record_room w now client m.kind ≡ true → IsNew w.setting history now client m
  record-new kind unknown room = record { unknown = ap (record_of client m.id) (sym (known-is m.kind kind)) ∙ unknown; room = record-room kind room }

  pub first-new : IsFirst w now client bytes m → IsNew w.setting history now client m
  first-new first = record-new (request-kind first.asked) first.unknown first.room

  -- the message is remembered from here on
  pub now-remembered : (draw : ℕ) (act : Act) (s : Step) → IsBytes bytes → message_in w.setting.limits.datagram bytes ≡ Some m → brings_requests m.kind ≡ true → known_of w now client m ≡ None → has_record_room w now client m.kind ≡ true → is_remembered s.report.outcome m.kind ≡ true → ((most : ℕ) → 128 ≤ most → w.setting.limits.datagram ≤ most → length s.bytes ≤ most)
      → AreRemembered w.setting (doing act (observation_of now draw (arrival client bytes) s) ∷ history) Con (if is_con m.kind then with_kept (record_made now client m s.bytes) w.con_records else w.con_records)
      × AreRemembered w.setting (doing act (observation_of now draw (arrival client bytes) s) ∷ history) Non (if is_con m.kind then w.non_records else with_kept (record_made now client m s.bytes) w.non_records)
  now-remembered draw act s fits came kind new free kept short = go m.kind refl
    where
      e : Action
      e = doing act (observation_of now draw (arrival client bytes) s)

      made : Kind → Record
      made k = record { from = client; id = m.id; at = now; reply = kept_reply k s.bytes }

      head : Kind → Head
      head k = record { kind = k; code = m.code; id = m.id }

      leaves : (kind k : Kind) → m.kind ≡ k → kept_by kind e.observation ≡ (if goes_with kind k && true then made k ∷ [] else [])
      leaves kind k is =
          let read : head_at bytes ≡ Some (head k) = head_of_read w bytes m fits came ∙ ap (λ (l : Kind). Some (head l)) is in
          let on : is_remembered s.report.outcome k ≡ true = subst (λ (l : Kind). is_remembered s.report.outcome l ≡ true) is kept in
          ap (λ (o : Option Head). kept_of kind s.report.outcome now s.bytes client o) read ∙ ap (λ (b : Bool). if goes_with kind k && b then made k ∷ [] else []) on

      unknown : (k : Kind) → m.kind ≡ k → record_of client m.id (living_at now (records_of k w)) ≡ None
      unknown k is = subst (λ (l : Kind). record_of client m.id (living_at now (records_of l w)) ≡ None) is new

      both : (length (living_at now (records_of m.kind w)) < (records_of m.kind w).limit) × (living_of client now (records_of m.kind w) < (records_of m.kind w).per_client)
      both = both-below refl refl refl refl free

      room : (k : Kind) → m.kind ≡ k → length (living_at now (records_of k w)) < (records_of k w).limit
      room k is = subst (λ (l : Kind). length (living_at now (records_of l w)) < (records_of l w).limit) is both.0

      own_room : (k : Kind) → m.kind ≡ k → living_of client now (records_of k w) < (records_of k w).per_client
      own_room k is = subst (λ (l : Kind). living_of client now (records_of l w) < (records_of l w).per_client) is both.1

      none : {A : Type 0} (k : Kind) → m.kind ≡ k → brings_requests k ≡ false → A
      none k is no_request = absurd (let f = sym kind ∙ ap brings_requests is ∙ no_request in cc)

      go : (k : Kind) → m.kind ≡ k
          → AreRemembered w.setting (e ∷ history) Con (if is_con k then with_kept (made k) w.con_records else w.con_records)
          × AreRemembered w.setting (e ∷ history) Non (if is_con k then w.non_records else with_kept (made k) w.non_records)
      go Con is = (remembered-more e (made Con) since refl (leaves Con Con is) (unknown Con is) (room Con is) (own_room Con is) short c.con_records, remembered-on e since (leaves Non Con is) c.non_records)
      go Non is = (remembered-on e since (leaves Con Non is) c.con_records, remembered-more e (made Non) since refl (leaves Non Non is) (unknown Non is) (room Non is) (own_room Non is) (λ most wide long. omega arith) c.non_records)
      go Ack is = none Ack is refl
      go Rst is = none Rst is refl

  -- so is a new request
  pub first-remembered : (draw : ℕ) (act : Act) (s : Step) → IsFirst w now client bytes m → is_remembered s.report.outcome m.kind ≡ true → ((most : ℕ) → 128 ≤ most → w.setting.limits.datagram ≤ most → length s.bytes ≤ most)
      → AreRemembered w.setting (doing act (observation_of now draw (arrival client bytes) s) ∷ history) Con (if is_con m.kind then with_kept (record_made now client m s.bytes) w.con_records else w.con_records)
      × AreRemembered w.setting (doing act (observation_of now draw (arrival client bytes) s) ∷ history) Non (if is_con m.kind then w.non_records else with_kept (record_made now client m s.bytes) w.non_records)
  first-remembered draw act s first kept short = now-remembered draw act s first.fits first.asked.read (request-kind first.asked) first.unknown first.room kept short

-- ---- an answer that isn't Confirmable

-- it adds no record
pub answer-leaves : (w : State) (bytes : List ℕ) (m : Message) (kind : Kind) (e : Action) (source : Endpoint) (storing : Storing) → IsBytes bytes → message_in w.setting.limits.datagram bytes ≡ Some m → is_con m.kind ≡ false → e.observation.event ≡ arrival source bytes → e.observation.report.outcome ≡ Answered storing → kept_by kind e.observation ≡ []
answer-leaves w bytes m kind e source storing fits read other came outcome =
    ap (λ (v : Event). kept_at kind e.observation.report.outcome e.observation.now e.observation.bytes v) came
    ∙ ap (λ (o : Outcome). kept_of kind o e.observation.now e.observation.bytes source (head_at bytes)) outcome
    ∙ kept-nothing kind (Answered storing) e.observation.now e.observation.bytes source (head_at bytes)
    (λ h is. let own = head_of_read w bytes m fits read in ap (λ (k : Head). is_con k.kind) (same_Some h (record { kind = m.kind; code = m.code; id = m.id }) (sym is ∙ own)) ∙ other)
