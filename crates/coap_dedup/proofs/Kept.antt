-- Kept records stay within the limit, in order and of different messages.
use Rattle.std.proofs.Common.{◌≡◌, ◌==◌, ◌↔◌, ℕ, ◌<◌, ◌≤◌, Bool, true, false, [], ◌∷◌, ◌++◌, length, None, refl, Result, Ok, Err, IsOk, OnOk, sym, ap, subst, arith, length-append}
use Rattle.std.proofs.lemmas.Bool.{eqb-false}
use Rattle.coap_endpoint.specs.declared.endpoint.Endpoint.{Endpoint}
use Rattle.coap_endpoint.proofs.Equality.{Tells-endpoint}
use Rattle.coap_dedup.specs.declared.record.Record.{Record}
use Rattle.coap_dedup.specs.Lists.{count_from, is_from, living, record_of, AreUpTo}
use Rattle.coap_dedup.specs.Records.{Records, AreRecords, living_at, living_of, with_kept}
use Rattle.circular_buffer.specs.Buffer.{Buffer, buffer}
use Rattle.coap_dedup.proofs.Aging.{length-living, AreInOrder-living, AreUpTo-living}
use Rattle.coap_dedup.proofs.Apart.{AreApart-living, AreApart-push, AreInOrder-push}
use Rattle.coap_dedup.proofs.Shares.{one_if, count_from-living, count_from-push}

-- the live records don't exceed the limit, so there is room if they don't reach it
pub room-there : (now : ℕ) (t : Records) → AreRecords t → (length (living_at now t) == t.limit) ≡ false → length (living_at now t) < t.limit
room-there now t are other =
    let few = length-living t.lifetime now t.items in
    let within = are.within in
    let apart = eqb-false (length (living_at now t)) t.limit other in
    omega arith

-- those of an endpoint don't exceed its limit either
pub client_room-there : (from : Endpoint) (now : ℕ) (t : Records) → AreRecords t → (living_of from now t == t.per_client) ≡ false → living_of from now t < t.per_client
client_room-there from now t are other =
    let few = count_from-living from t.lifetime now t.items in
    let within = are.within_each from in
    let apart = eqb-false (living_of from now t) t.per_client other in
    omega arith

-- one more record is kept
pub AreRecords-kept : (x : Record) (t : Records) → AreRecords t → record_of x.from x.id (living_at x.at t) ≡ None → AreUpTo x.at t.items → length (living_at x.at t) < t.limit → living_of x.from x.at t < t.per_client → AreRecords (with_kept x t)
AreRecords-kept x t are new up_to room own_room = record {
  within_each = λ from. each from (is_from from x) refl;
  within = omega (arith, length-append (living_at x.at t) (x ∷ []));
  in_order = AreInOrder-push (living_at x.at t) x (AreInOrder-living t.lifetime x.at t.items are.in_order) (AreUpTo-living t.lifetime x.at x.at t.items up_to);
  apart = AreApart-push (living_at x.at t) x (AreApart-living t.lifetime x.at t.items are.apart) new;
}
  where
    each : (from : Endpoint) (b : Bool) → is_from from x ≡ b → count_from from (with_kept x t).items ≤ t.per_client
    each from true its =
        let more = count_from-push from (living_at x.at t) x in
        let one = ap one_if its in
        let own = ap (λ (e : Endpoint). living_of e x.at t) (Tells-endpoint.only x.from from its) in
        omega arith
    each from false other =
        let more = count_from-push from (living_at x.at t) x in
        let none = ap one_if other in
        let few = count_from-living from t.lifetime x.at t.items in
        let within = are.within_each from in
        omega arith

-- what succeeds exactly if P holds succeeds if it does
pub succeeds : {A E : Type 0} (r : Result A E) (P Q : Type 0) → (IsOk r ↔ P) → OnOk r Q → P → Q
succeeds (Ok a) P Q iff then_is p = then_is
succeeds (Err e) P Q iff then_is p = let no : false ≡ true = iff.1 p in absurd cc

-- what holds if it succeeds holds, since it does
pub of_ok : {A E : Type 0} (r : Result A E) (Q : Type 0) → IsOk r → OnOk r Q → Q
of_ok (Ok a) Q is so = so
of_ok (Err e) Q is so = let no : false ≡ true = is in absurd cc

-- the records in a ring, whose limit is its capacity
abbrev pub in_ring : Buffer Record → ℕ → ℕ → Records
in_ring b per_client lifetime =
    record { items = b.items; limit = b.capacity; per_client = per_client; lifetime = lifetime }

-- A record is appended to a ring in which only those that are live at its time are left.
module _ {A E : Type 0} (r : Result A E) (before left after : Buffer Record) (per_client lifetime : ℕ) (x : Record) (is : left ≡ buffer (living lifetime x.at before.items) before.capacity) (iff : IsOk r ↔ (length left.items < left.capacity))
    (pushed : OnOk r (after ≡ buffer (left.items ++ x ∷ []) left.capacity)) (room : length (living lifetime x.at before.items) < before.capacity) where
  -- it is put after them
  pub ring-put : after ≡ buffer (left.items ++ x ∷ []) left.capacity
  ring-put = succeeds r (length left.items < left.capacity) (after ≡ buffer (left.items ++ x ∷ []) left.capacity) iff pushed (subst (λ (b : Buffer Record). length b.items < b.capacity) (sym is) room)

  -- so one more is kept
  pub ring-kept : in_ring after per_client lifetime ≡ with_kept x (in_ring before per_client lifetime)
  ring-kept = ap (λ b. in_ring b per_client lifetime) (subst (λ (b : Buffer Record). after ≡ buffer (b.items ++ x ∷ []) b.capacity) is ring-put)
