-- The sendings of a message keep to its schedule.
use Rattle.std.proofs.Common.{◌≡◌, ℕ, zero, suc, ◌+◌, ◌-◌, ◌*◌, ◌^◌, ◌<◌, ◌≤◌, List, [], ◌∷◌, length, Bool, true, false, refl, sym, ap, subst, ◌∙◌, arith}
use Rattle.std.specs.Prelude.{◌&&◌, nat_lt, min, if◌then◌else◌}
use Rattle.std.proofs.lemmas.Bool.{ltb-true}
use Rattle.std.proofs.lemmas.Nat.{pow_pos}
use Rattle.std.proofs.Math.Nat.{min-le_right, mul_assoc, pow-le-pow_right, pow-suc}
use Rattle.coap_pending.specs.declared.timer.Fire.TheVariants.{Again, GiveUp}
use Rattle.coap_pending.specs.declared.timer.Timer.{Timer}
use Rattle.coap_pending.specs.Timers.{goes_on, fire_of, sent_again, fired, IsShort, IsTimerOf, oldest, AreSpaced, IsSchedule}

-- what a timer knows of the sendings
record Tells (draw now : ℕ) (moments : List ℕ) (t : Timer) : Type 0 where
  transmissions : t.transmissions ≡ length moments + 1
  began : t.started ≡ oldest now moments
  timeout : t.timeout ≡ (2000 + draw) * 2 ^ length moments
  due : t.due ≡ now + (2000 + draw) * 2 ^ length moments
  few : length moments ≤ 4

-- what is sent again goes on
again-goes_on : (now : ℕ) (t : Timer) → fire_of now t ≡ Again → goes_on now t ≡ true
again-goes_on now t e = go (goes_on now t) refl
  where
    go : (b : Bool) → goes_on now t ≡ b → goes_on now t ≡ true
    go true f = f
    go false f = absurd (let g : GiveUp ≡ Again = rw f at e in cc)

-- both of two tests
and-true : (a b : Bool) → (a && b) ≡ true → (a ≡ true) × (b ≡ true)
and-true true true e = (refl, refl)
and-true true false e = absurd cc
and-true false b e = absurd cc

-- a firing that goes on sends once more
one_more : (now : ℕ) (u : Timer) → goes_on now u ≡ true → fired now u ≡ sent_again now u
one_more now u e = rw e refl

-- the timeout is doubled
twice : (a n : ℕ) → (a * 2 ^ n) * 2 ≡ a * 2 ^ suc n
twice a n = mul_assoc a (2 ^ n) 2 ∙ ap (λ (k : ℕ). a * k) (sym (pow-suc 2 n))

-- a timer tells its schedule
tells-schedule : (draw now : ℕ) (moments : List ℕ) (t : Timer) → IsTimerOf draw (now ∷ moments) t → Tells draw now moments t × AreSpaced draw (now ∷ moments)
tells-schedule draw now [] t is = (rw is (record { transmissions = refl; began = refl; timeout = omega arith; due = omega arith; few = omega arith }), tt)
tells-schedule draw now (before ∷ moments) t is =
    let u = is.0 in
    let rest = tells-schedule draw before moments u is.1 in
    let told = rest.0 in
    let on = again-goes_on now u is.3 in
    let tests = and-true (nat_lt u.transmissions 5) (nat_lt (now - u.started) 93000) on in
    let few = ltb-true u.transmissions 5 tests.0 in
    let soon = ltb-true (now - u.started) 93000 tests.1 in
    let doubled : u.timeout * 2 ≡ (2000 + draw) * 2 ^ length (before ∷ moments) = ap (λ (k : ℕ). k * 2) told.timeout ∙ twice (2000 + draw) (length moments) in
    let due : before + (2000 + draw) * 2 ^ length moments ≤ now = subst (λ (d : ℕ). d ≤ now) told.due is.2 in
    let began = told.began in
    let transmissions = told.transmissions in
    let more : u.transmissions ≡ length (before ∷ moments) = omega arith in
    let near : now < oldest before moments + 93000 = subst (λ (m : ℕ). now < m + 93000) began (omega arith) in (
      subst (Tells draw now (before ∷ moments)) (sym (is.4 ∙ one_more now u on))
          (record {
            transmissions = omega arith;
            began = began;
            timeout = doubled;
            due = ap (λ (k : ℕ). now + k) doubled;
            few = omega arith;
          }),
      (due, near, rest.1),
    )

-- so sendings keep to it
pub schedule-kept : (draw : ℕ) (moments : List ℕ) (t : Timer) → IsTimerOf draw moments t → IsSchedule draw moments
schedule-kept draw [] t is = absurd is
schedule-kept draw (now ∷ moments) t is =
    let told = tells-schedule draw now moments t is in
    record { few = (let few = told.0.few in omega arith); spaced = told.1 }

-- ---- how long timeouts are

-- one more sending is counted, and the timeout doubled
doubled-short : (timeout transmissions : ℕ) → transmissions < 5 → timeout ≤ 3000 * 2 ^ min transmissions 5 → timeout * 2 ≤ 3000 * 2 ^ min (transmissions + 1) 5
doubled-short timeout zero few s = omega arith
doubled-short timeout (suc zero) few s = omega arith
doubled-short timeout (suc (suc zero)) few s = omega arith
doubled-short timeout (suc (suc (suc zero))) few s = omega arith
doubled-short timeout (suc (suc (suc (suc zero)))) few s = omega arith
doubled-short timeout (suc (suc (suc (suc (suc n))))) few s = absurd (omega arith)

-- a timer stays short
pub fired-short : (now : ℕ) (t : Timer) → IsShort t → IsShort (fired now t)
fired-short now t s = go (goes_on now t) refl
  where
    go : (b : Bool) → goes_on now t ≡ b → IsShort (if b then sent_again now t else t)
    go true e = doubled-short t.timeout t.transmissions (ltb-true t.transmissions 5 (and-true (nat_lt t.transmissions 5) (nat_lt (now - t.started) 93000) e).0) s
    go false e = s

-- it is doubled five times at most
most-times : (n : ℕ) → 2 ^ min n 5 ≤ 2 ^ 5
most-times n = pow-le-pow_right {n = 2} (omega arith) (min-le_right n 5)

-- a first timeout is short
pub first-short : (t : Timer) → t.timeout ≤ 3000 → IsShort t
first-short t le = let times = pow_pos (min t.transmissions 5) in omega arith

-- what is short can be doubled
pub short-bound : (t : Timer) → IsShort t → t.timeout ≤ 2 ^ 32
short-bound t s = let times = most-times t.transmissions in omega arith
