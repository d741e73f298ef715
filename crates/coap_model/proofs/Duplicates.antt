-- What is remembered, in terms of positions: each record was added at a position, and what was
-- added at a position is found as long as it lives.
use Rattle.std.proofs.Common.{◌≡◌, inl, inr, refl, ⊎_elim, ℕ, ◌+◌, ◌<◌, ◌&&◌, Bool, true, false, List, [], ◌∷◌, ◌++◌, Option, Some, None, sym, ap, ◌∙◌, subst}
use Rattle.std.specs.Prelude.{filter, if◌then◌else◌}
use Rattle.std.specs.List.{AllByRecursion}
use Rattle.std.proofs.lemmas.Bool.{and_parts, ltb-true, lt-ltb}
use Rattle.coap_endpoint.proofs.Lists.{All-append, All-weaken}
use Rattle.coap_message.specs.declared.kind.Kind.{Kind}
use Rattle.coap_message.specs.declared.kind.Kind.TheVariants.{Con, Non, Ack, Rst}
use Rattle.coap_message.specs.declared.message.Head.{Head}
use Rattle.coap_message.specs.Message.{Message}
use Rattle.coap_message.specs.Reading.{head_at}
use Rattle.coap_endpoint.specs.declared.endpoint.Endpoint.{Endpoint}
use Rattle.coap_dedup.specs.declared.record.Record.{Record}
use Rattle.coap_dedup.specs.Lists.{is_living, is_of, record_of}
use Rattle.coap_dedup.proofs.Apart.{is_of-key}
use Rattle.coap_dedup.proofs.Orders.{same_key-itself}
use Rattle.coap_model.specs.Events.{Event, arrival, tick}
use Rattle.coap_forward.specs.Messages.{brings_requests, kept_reply}
use Rattle.coap_model.specs.History.{Observation, Action, Position, IsPositionOf, Somewhere}
use Rattle.coap_model.specs.Remembered.{goes_with, is_remembered, kept_of, kept_at, kept_by, kept_in, remembered_at, remembered_for}
use Rattle.coap_model.specs.Duplicates.{Repeats, IsRememberedAt}
use Rattle.coap_endpoint.proofs.Lists.{none-found}
use Rattle.coap_model.proofs.Lists.{find-holds, All-filter}

-- ---- each record was added at a position

-- the position where a record was added
record WasLeft (kind : Kind) (history : List Action) (r : Record) : Type 0 where
  pub position : Position
  pub there : IsPositionOf history position
  pub bytes : List ℕ
  pub former : Head
  pub came : position.action.observation.event ≡ arrival r.from bytes
  pub head : head_at bytes ≡ Some former
  pub goes : goes_with kind former.kind ≡ true
  pub id : former.id ≡ r.id
  pub at : r.at ≡ position.action.observation.now
  pub reply : r.reply ≡ kept_reply former.kind position.action.observation.bytes
  pub remembered : is_remembered position.action.observation.report.outcome former.kind ≡ true

-- the record that an observation adds was added there
left-by : (kind : Kind) (past : List Action) (d : Action) → AllByRecursion (WasLeft kind (d ∷ past)) (kept_by kind d.observation)
left-by kind past d = brought d.observation.event refl
  where
    headed : (source : Endpoint) (bytes : List ℕ) → d.observation.event ≡ arrival source bytes → (h : Option Head) → head_at bytes ≡ h → AllByRecursion (WasLeft kind (d ∷ past)) (kept_of kind d.observation.report.outcome d.observation.now d.observation.bytes source h)
    headed source bytes came None is = tt
    headed source bytes came (Some former) is = test (goes_with kind former.kind && is_remembered d.observation.report.outcome former.kind) refl
      where
        test : (b : Bool) → (goes_with kind former.kind && is_remembered d.observation.report.outcome former.kind) ≡ b → AllByRecursion (WasLeft kind (d ∷ past)) (if b then record { from = source; id = former.id; at = d.observation.now; reply = kept_reply former.kind d.observation.bytes } ∷ [] else [])
        test true kept =
            let parts = and_parts (goes_with kind former.kind) (is_remembered d.observation.report.outcome former.kind) kept in
            (record { position = record { before = past; action = d }; there = inl refl; bytes = bytes; former = former; came = came; head = is; goes = parts.0; id = refl; at = refl; reply = refl; remembered = parts.1 }, tt)
        test false kept = tt

    brought : (event : Event) → d.observation.event ≡ event → AllByRecursion (WasLeft kind (d ∷ past)) (kept_at kind d.observation.report.outcome d.observation.now d.observation.bytes event)
    brought (arrival source bytes) came = headed source bytes came (head_at bytes) refl
    brought tick came = tt

-- so were all records that were added
all-left : (kind : Kind) (history : List Action) → AllByRecursion (WasLeft kind history) (kept_in kind history)
all-left kind [] = tt
all-left kind (d ∷ past) =
    All-append (WasLeft kind (d ∷ past)) (kept_in kind past) (kept_by kind d.observation)
    (All-weaken (WasLeft kind past) (WasLeft kind (d ∷ past)) (kept_in kind past)
    (λ r l. record { position = l.position; there = inr l.there; bytes = l.bytes; former = l.former; came = l.came; head = l.head; goes = l.goes; id = l.id; at = l.at; reply = l.reply; remembered = l.remembered })
    (all-left kind past))
    (left-by kind past d)

-- types that are remembered together are equal
pub goes-same : (k l : Kind) → goes_with k l ≡ true → l ≡ k
goes-same Con Con e = refl
goes-same Con Non e = absurd cc
goes-same Con Ack e = absurd cc
goes-same Con Rst e = absurd cc
goes-same Non Con e = absurd cc
goes-same Non Non e = refl
goes-same Non Ack e = absurd cc
goes-same Non Rst e = absurd cc
goes-same Ack l e = absurd cc
goes-same Rst l e = absurd cc

-- the record of a message was added at a position that the message repeats
pub known-position : (past : List Action) (now : ℕ) (source : Endpoint) (m : Message) (known : Record) → record_of source m.id (remembered_at m.kind now past) ≡ Some known → Somewhere (IsRememberedAt now source m known) past
known-position past now source m known found =
    let kind = m.kind in
    let lifetime = remembered_for kind in
    let living = All-filter (WasLeft kind past) (is_living lifetime now) (kept_in kind past) (all-left kind past) in
    let h = find-holds (λ r. WasLeft kind past r × (is_living lifetime now r ≡ true)) (is_of source m.id) (remembered_at kind now past) known living found in
    let l = h.0.0 in
    let key = is_of-key source m.id known h.1 in
    let same = goes-same kind l.former.kind l.goes in
    record {
      position = l.position;
      is_there = l.there;
      holds = record {
        repeats = record {
          bytes = l.bytes;
          former = l.former;
          came = l.came ∙ ap (λ (e : Endpoint). arrival e l.bytes) key.0;
          head = l.head;
          kind = same;
          id = l.id ∙ key.1;
          remembered = l.remembered;
          alive = subst (λ (n : ℕ). now < n + lifetime) l.at (ltb-true _ _ h.0.1);
        };
        reply = l.reply ∙ ap (λ (k : Kind). kept_reply k l.position.action.observation.bytes) same;
      };
    }

-- ---- what was added at a position is found

-- what holds of all elements of two joined lists holds of all elements of each
both-parts : {X : Type 0} (P : X → Type 0) (xs ys : List X) → AllByRecursion P (xs ++ ys) → AllByRecursion P xs × AllByRecursion P ys
both-parts P [] ys all = (tt, all)
both-parts P (x ∷ xs) ys all = let rest = both-parts P xs ys all.1 in ((all.0, rest.0), rest.1)

-- what holds of all elements that pass a test holds of each element if it passes
unfilter : {X : Type 0} (P : X → Type 0) (test : X → Bool) (xs : List X) → AllByRecursion P (filter test xs) → AllByRecursion (λ x. test x ≡ true → P x) xs
unfilter P test [] all = tt
unfilter P test (x ∷ xs) all = go (test x) refl all (unfilter P test xs)
  where
    go : (b : Bool) → test x ≡ b → AllByRecursion P (if b then x ∷ filter test xs else filter test xs) → (AllByRecursion P (filter test xs) → AllByRecursion (λ y. test y ≡ true → P y) xs) → (test x ≡ true → P x) × AllByRecursion (λ y. test y ≡ true → P y) xs
    go true e rest more = ((λ f. rest.0), more rest.1)
    go false e rest more = ((λ f. absurd (let g = sym f ∙ e in cc)), more rest)

-- a type is remembered with itself
goes-itself : (k : Kind) → brings_requests k ≡ true → goes_with k k ≡ true
goes-itself Con e = refl
goes-itself Non e = refl
goes-itself Ack e = absurd cc
goes-itself Rst e = absurd cc

-- the record that an observation adds for a message that it brought
left-is : (kind : Kind) (e : Observation) (source : Endpoint) (bytes : List ℕ) (former : Head) → is_remembered e.report.outcome former.kind ≡ true → e.event ≡ arrival source bytes → head_at bytes ≡ Some former → goes_with kind former.kind ≡ true → kept_by kind e ≡ record { from = source; id = former.id; at = e.now; reply = kept_reply former.kind e.bytes } ∷ []
left-is kind e source bytes former kept came head goes = rw (came, head, goes, kept) refl

-- so a message that repeats a position is known
pub position-known : (past : List Action) (now : ℕ) (source : Endpoint) (m : Message) (p : Position) → brings_requests m.kind ≡ true → IsPositionOf past p → Repeats now source m p → record_of source m.id (remembered_at m.kind now past) ≡ None → ⊥
position-known past now source m p brings at r none = go past at (unfilter (λ x. is_of source m.id x ≡ false) (is_living lifetime now) (kept_in kind past) (none-found (is_of source m.id) (remembered_at kind now past) none))
  where
    kind : Kind
    kind = m.kind

    lifetime : ℕ
    lifetime = remembered_for m.kind

    go : (history : List Action) → IsPositionOf history p → AllByRecursion (λ x. is_living (remembered_for m.kind) now x ≡ true → is_of source m.id x ≡ false) (kept_in m.kind history) → ⊥
    go [] there all = there
    go (d ∷ before) there all =
        let parts = both-parts (λ x. is_living (remembered_for m.kind) now x ≡ true → is_of source m.id x ≡ false) (kept_in m.kind before) (kept_by m.kind d.observation) all in
        ⊎_elim
        (λ (same : record { before = before; action = d } ≡ p).
        let e = p.action.observation in
        let made : Record = record { from = source; id = r.former.id; at = e.now; reply = kept_reply r.former.kind e.bytes } in
        let goes : goes_with m.kind r.former.kind ≡ true = subst (λ (k : Kind). goes_with m.kind k ≡ true) (sym r.kind) (goes-itself m.kind brings) in
        let left : kept_by m.kind d.observation ≡ made ∷ [] = ap (λ (q : Position). kept_by m.kind q.action.observation) same ∙ left-is m.kind e source r.bytes r.former r.remembered r.came r.head goes in
        let one = subst (λ (rs : List Record). AllByRecursion (λ x. is_living (remembered_for m.kind) now x ≡ true → is_of source m.id x ≡ false) rs) left parts.1 in
        let other = one.0 (lt-ltb now (e.now + remembered_for m.kind) r.alive) in
        let itself : is_of source m.id made ≡ true = subst (λ (n : ℕ). is_of source n made ≡ true) r.id (same_key-itself (record { from = source; id = r.former.id })) in
        absurd (let f = sym itself ∙ other in cc))
        (λ (earlier : IsPositionOf before p). go before earlier parts.0)
        there
