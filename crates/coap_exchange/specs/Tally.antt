-- How many waiters wait, in all and for each exchange.
use Rattle.std.specs.Prelude.{◌≡◌, ℕ, List}
use Rattle.ordered_index.specs.Ordered.{Pair, many_of}
use Rattle.coap_pending.specs.declared.waiter.Waiter.{Waiter}
use Rattle.coap_pending.specs.Table.{Numbered, count}
use Rattle.coap_pending.specs.Waiters.{is_waiting, waits_for, AreShort}

-- an exchange has as many pairs in the index as waiters wait for it
abbrev pub AreTallied : List (Numbered Waiter) → List Pair → Type 0
AreTallied waiters awaited = (e : ℕ) → many_of e awaited ≡ count (waits_for e) waiters

-- what a table of waiters keeps alongside them
pub record AreWaiters (waiters : List (Numbered Waiter)) (many : ℕ) (awaited : List Pair)
    : Type 0 where
  pub waiting : many ≡ count is_waiting waiters
  pub tallied : AreTallied waiters awaited
  pub short : AreShort waiters
