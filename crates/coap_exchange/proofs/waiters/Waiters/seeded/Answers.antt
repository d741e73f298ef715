use Rattle.std.proofs.Common.{Option, ℕ, [], arith, refl}
use Rattle.std.proofs.lemmas.Result.{IfOk-from_err}
use Rattle.coap_pending.specs.declared.waiter.Waiter.{Waiter}
use Rattle.endpoint_counts.specs.IndexOf.{IsIndexOf}
use Rattle.coap_exchange.proofs.waiters.Waiters.seeded.Goals as goal
use Rattle.ordered_index.specs.Ordered.{empty_index}

pub returns-in_err-new : goal.returns-in_err-new
returns-in_err-new c = record { empty = IfOk-from_err _ _ c.from_residual.ensures.0 }

pub returns-in_err-new-2 : goal.returns-in_err-new-2
returns-in_err-new-2 c = record { empty = IfOk-from_err _ _ c.from_residual-in_err-new-2.ensures.0 }

pub returns-in_err-new-3 : goal.returns-in_err-new-3
returns-in_err-new-3 c = record { empty = IfOk-from_err _ _ c.from_residual-in_err-new-3.ensures.0 }

pub returns : goal.returns
returns c = record { empty = c.in_ok-new.ensures.empty }

-- the index of no waiters
none : (key_of : Waiter → Option ℕ) (limit : ℕ) → IsIndexOf key_of [] limit (empty_index limit)
none key_of limit = record { members = λ o n. refl; length = refl; limit = refl }

pub invariant_of-result : goal.invariant_of-result
invariant_of-result c = rw (c.in_ok-new.ensures.empty, c.in_ok-new-2.ensures.empty, c.in_ok-new-3.ensures.empty) (
  record { waiting = refl; tallied = λ e. refl; short = tt },
  record { awaited = none _ _; ids = none _ _; ends = none _ _ },
  record { within = omega arith; rising = tt; below = tt },
  λ client. refl,
  λ client. omega arith,
  refl,
  refl,
)
