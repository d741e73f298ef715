use Rattle.std.proofs.Common.{Option, ℕ, [], arith, refl}
use Rattle.std.proofs.lemmas.Result.{IfOk-from_err}
use Rattle.coap_pending.specs.declared.exchange.Exchange.{Exchange}
use Rattle.endpoint_counts.specs.IndexOf.{IsIndexOf}
use Rattle.coap_exchange.proofs.exchanges.Exchanges.seeded.Goals as goal
use Rattle.ordered_index.specs.Ordered.{empty_index, seeded_index}

pub returns-in_err-send_queue : goal.returns-in_err-send_queue
returns-in_err-send_queue c = record { empty = IfOk-from_err _ _ c.from_residual.ensures.0 }

pub returns-in_err-endpoints : goal.returns-in_err-endpoints
returns-in_err-endpoints c = record { empty = IfOk-from_err _ _ c.from_residual-in_err-endpoints.ensures.0 }

pub returns-in_err-clients : goal.returns-in_err-clients
returns-in_err-clients c = record { empty = IfOk-from_err _ _ c.from_residual-in_err-clients.ensures.0 }

pub returns-in_err-table : goal.returns-in_err-table
returns-in_err-table c = record { empty = IfOk-from_err _ _ c.from_residual-in_err-table.ensures.0 }

pub returns-in_err-index : goal.returns-in_err-index
returns-in_err-index c = record { empty = IfOk-from_err _ _ c.from_residual-in_err-index.ensures.0 }

pub returns : goal.returns
returns c = record { empty = c.in_ok-table.ensures.empty }

-- the indexes of no exchanges
none : (key_of : Exchange → Option ℕ) (limit : ℕ) → IsIndexOf key_of [] limit (empty_index limit)
none key_of limit = record { members = λ o n. refl; length = refl; limit = refl }

none-spread : (key_of : Exchange → Option ℕ) (seed limit : ℕ) → IsIndexOf key_of [] limit (seeded_index seed limit)
none-spread key_of seed limit = record { members = λ o n. refl; length = refl; limit = refl }

pub invariant_of-result : goal.invariant_of-result
invariant_of-result c = rw (c.in_ok-table.ensures.empty, c.in_ok-endpoints.ensures.empty, c.in_ok-clients.ensures.empty, c.in_ok-index.ensures.empty) (
  record { queued = refl; timely = tt; short = tt },
  record { all = λ e. refl; sent = λ e. refl; queued = λ e. refl },
  record { rising = tt; ids = none-spread _ _ _; openings = none _ _; ends = none _ _; queues = none-spread _ _ _; cache_keys = none-spread _ _ _; targets = none-spread _ _ _ },
  c.in_ok-send_queue.ensures.empty,
  λ client. refl,
  λ client. omega arith,
  record { for_heads = c.in_ok-send_queue.ensures.limit; for_endpoints = refl; for_clients = refl },
  record { for_index = record { digests = refl; ids = refl; queues = refl; cache_keys = refl; targets = refl }; for_endpoints = refl; for_clients = refl },
)
