-- What is remembered, as the program asks for it.
use Rattle.std.proofs.Common.{◌≡◌, ℕ, ◌<◌, Bool, true, false, List, length, Option, Some, None, refl, sym, ap, ◌∙◌, arith}
use Rattle.std.specs.Prelude.{◌==◌, ◌&&◌, nat_lt, not, is_some}
use Rattle.std.proofs.lemmas.Bool.{and_parts, eqb-true, lt-ltb, ltb-true}
use Rattle.coap_message.specs.declared.kind.Kind.{Kind}
use Rattle.coap_message.specs.declared.kind.Kind.TheVariants.{Con, Non, Ack, Rst}
use Rattle.coap_dedup.specs.Records.{AreRecords, living_at, living_of}
use Rattle.coap_dedup.proofs.Kept.{client_room-there, room-there}
use Rattle.coap_message.specs.Datagram.{Datagram, holding}
use Rattle.coap_message.specs.Message.{Message}
use Rattle.coap_endpoint.specs.declared.endpoint.Endpoint.{Endpoint}
use Rattle.coap_model.specs.State.{State, records_of, has_record_room, known_of, remembers}
use Rattle.coap_model.specs.Requests.{on_new, on_request}
use Rattle.coap_core.specs.Needs.{CanGoOn}

-- they are records
pub are-records : (w : State) (kind : Kind) → CanGoOn w → AreRecords (records_of kind w)
are-records w Con can = can.con_records
are-records w Non can = can.non_records
are-records w Ack can = can.non_records
are-records w Rst can = can.non_records

-- a number that doesn't reach its limit is below it
below-is : (n limit : ℕ) → ((n == limit) ≡ false → n < limit) → not (n == limit) ≡ nat_lt n limit
below-is n limit below = go (n == limit) refl
  where
    go : (b : Bool) → (n == limit) ≡ b → not b ≡ nat_lt n limit
    go true full = less (nat_lt n limit) refl
      where
        less : (c : Bool) → nat_lt n limit ≡ c → false ≡ nat_lt n limit
        less true e = absurd (let lt = ltb-true _ _ e in let same = eqb-true n limit full in omega (arith, lt, same))
        less false e = sym e
    go false free = sym (lt-ltb _ _ (below free))

-- where they aren't full, there is room if those of this endpoint don't reach its limit
pub room-is : (w : State) (now : ℕ) (source : Endpoint) (kind : Kind) → CanGoOn w → (length (living_at now (records_of kind w)) == (records_of kind w).limit) ≡ false → not (living_of source now (records_of kind w) == (records_of kind w).per_client) ≡ has_record_room w now source kind
room-is w now source kind can free =
    let t = records_of kind w in
    let are = are-records w kind can in
    let all : nat_lt (length (living_at now t)) t.limit ≡ true = lt-ltb _ _ (room-there now t are free) in
    below-is (living_of source now t) t.per_client (client_room-there source now t are) ∙ sym (ap (λ (b : Bool). b && nat_lt (living_of source now t) t.per_client) all)

-- where there is room, fewer records live than may, in all and of this endpoint
pub room-all : (w : State) (now : ℕ) (source : Endpoint) (kind : Kind) → has_record_room w now source kind ≡ true → length (living_at now (records_of kind w)) < (records_of kind w).limit
room-all w now source kind room = ltb-true _ _ (and_parts _ _ room).0

pub room-own : (w : State) (now : ℕ) (source : Endpoint) (kind : Kind) → has_record_room w now source kind ≡ true → living_of source now (records_of kind w) < (records_of kind w).per_client
room-own w now source kind room = ltb-true _ _ (and_parts _ _ room).1

-- what isn't there is none
pub none-some : {A : Type 0} (o : Option A) → is_some o ≡ false → o ≡ None
none-some None e = refl
none-some (Some a) e = absurd cc

-- a request that isn't known is new
pub new-is : (w : State) (now : ℕ) (client : Endpoint) (m : Message) → known_of w now client m ≡ None → has_record_room w now client m.kind ≡ true → on_request w now client m ≡ remembers now client m (on_new w now client m)
new-is w now client m unknown room = rw (unknown, room) refl

-- what is held hangs on the room, and not on what was held
pub held-same : (old other : Datagram) (bytes : List ℕ) → old.room ≡ other.room → holding old bytes ≡ holding other bytes
held-same old other bytes room = λ i. record { room = room i; bytes = bytes }
