-- How many lines are written in a stretch of time.
use Rattle.std.proofs.Common.{◌≡◌, ℕ, ◌+◌, ◌*◌, ◌<◌, ◌≤◌, max, Bool, true, false, cond, List, [], ◌∷◌, refl, ⊎_elim, arith}
use Rattle.std.proofs.lemmas.Bool.{leb-true, cases_lt}
use Rattle.coap_log.specs.Limiter.{AreWithin, after, allows, written}

-- moments don't go back
pub in_order : (first : ℕ) (moments : List ℕ) (last : ℕ) → AreWithin first moments last → first ≤ last
in_order first [] last within = within
in_order first (now ∷ before) last within = omega (arith, within.0, in_order first before now within.1)

-- one more line that is allowed, or not
step : (t : Bool) (f n first now : ℕ) → first ≤ now → 200 * n + first ≤ max f first
    → 200 * (cond t 1 0 + n) + first ≤ max (cond t (max f now + 200) f) first
step true f n first now onward held = omega arith
step false f n first now onward held = omega arith

-- each line that was written has put off the moment at which 20 can be written
pub put_off : (full_at first last : ℕ) (moments : List ℕ) → AreWithin first moments last
    → 200 * written full_at moments + first ≤ max (after full_at moments) first
put_off full_at first last [] within = omega arith
put_off full_at first last (now ∷ before) within =
    step (allows (after full_at before) now) (after full_at before) (written full_at before) first now
    (in_order first before now within.1)
    (put_off full_at first now before within.1)

-- a bound on that moment after one more line that is allowed, or on the number of lines if none was
bound : (t : Bool) (f n now last : ℕ) → (t ≡ true → f ≤ now + 19 * 200) → now ≤ last
    → (0 < n → f ≤ now + 20 * 200) → 0 < cond t 1 0 + n → cond t (max f now + 200) f ≤ last + 20 * 200
bound true f n now last allowed onward held some = omega (arith, allowed refl)
bound false f n now last allowed onward held some =
    let positive : 0 < n = omega arith in
    omega (arith, held positive)

pub not_far : (full_at first last : ℕ) (moments : List ℕ) → AreWithin first moments last
    → 0 < written full_at moments → after full_at moments ≤ last + 20 * 200
not_far full_at first last [] within some = absurd (omega arith)
not_far full_at first last (now ∷ before) within some =
    bound (allows (after full_at before) now) (after full_at before) (written full_at before) now last
    (λ allowed. leb-true (after full_at before) (now + 19 * 200) allowed)
    within.0
    (λ before_some. not_far full_at first now before within.1 before_some)
    some

-- none, or some
counted_in : (n f first last : ℕ) → first ≤ last → 200 * n + first ≤ max f first → (0 < n → f ≤ last + 20 * 200)
    → 200 * n + first ≤ 20 * 200 + last
counted_in n f first last onward held far =
    ⊎_elim (λ some. omega (arith, far some)) (λ (none : n ≤ 0). omega arith) (cases_lt 0 n)

pub limited : (full_at first last : ℕ) (moments : List ℕ) → AreWithin first moments last
    → 200 * written full_at moments + first ≤ 20 * 200 + last
limited full_at first last moments within =
    counted_in (written full_at moments) (after full_at moments) first last
    (in_order first moments last within)
    (put_off full_at first last moments within)
    (not_far full_at first last moments within)
