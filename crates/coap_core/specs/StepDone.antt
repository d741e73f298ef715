-- What is promised of a step.
use Rattle.std.specs.Prelude.{◌≡◌, ◌≤◌, ℕ, [], true, length, IfOk, IsOk, OnErr, Result}
use Rattle.coap_message.specs.Datagram.{Datagram, holding}
use Rattle.coap_message.specs.declared.error.OutOfMemory.{OutOfMemory}
use Rattle.coap_model.specs.declared.report.Report.{Report}
use Rattle.coap_model.specs.Events.{Event, tick}
use Rattle.coap_model.specs.History.{grown_of}
use Rattle.coap_model.specs.State.{State}
use Rattle.coap_model.specs.Step.{step_of}
use Rattle.coap_model.specs.Ticks.{on_tick}
use Rattle.coap_core.specs.Done.{CarriesOn, Does, GivesConfirmable, KeepsWordOn, LeavesRoomOn, PromisesOn, observation_told, wants_memory}
use Rattle.coap_core.specs.Events.{HoldsEmpty, IsUnread}
use Rattle.coap_core.specs.Within.{AreWithinLimits}

-- This is what came of the step of an event at a moment: the core before it and after it, and the
-- datagram that it was given and the one that it left.
pub record IsStepDone (now draw : ℕ) (event : Event) (result : Result Report OutOfMemory)
    (before after : State) (old new : Datagram)
    : Type 0 where
  -- The report, the datagram and the core after the step are determined, and the datagram isn't too
  -- long. `grown_of` is what the report alone says: whether there was memory for one more entry of
  -- the store.
  pub exact :
      IfOk result (λ report.
      Does (step_of before now draw (grown_of report.outcome) event) report old new after)
  pub short : length new.bytes ≤ after.setting.limits.datagram
  -- A core that carries a history then carries it with the step's observation in front.
  pub carries :
      IfOk result (λ report.
      CarriesOn before (observation_told now draw event report new.bytes) after)
  -- So what it promises of earlier steps it promises of this one.
  pub promised :
      IfOk result (λ report.
      PromisesOn before (observation_told now draw event report new.bytes) after)
  -- In short: at each event the limits hold; each reply from the cache was received for an equal key,
  -- is fresh, and its target is unchanged; and each duplicate gets the reply that was kept.
  pub word :
      IfOk result (λ report.
      KeepsWordOn before (observation_told now draw event report new.bytes) after)
  -- One client leaves room for the others: below its own limits a client is turned away only if a
  -- shared limit is reached or too few Message IDs are free, and if few enough endpoints have sent
  -- anything, only if too few Message IDs are free.
  pub shares :
      IfOk result (λ report.
      LeavesRoomOn before (observation_told now draw event report new.bytes) after)
  -- The settings don't change, and the tables stay within the limits and within the bound on bytes.
  pub setting : after.setting ≡ before.setting
  pub limits : AreWithinLimits after
  -- If it runs out of memory, nothing happened.
  pub err : OnErr result (after ≡ before)
  pub none : OnErr result (new ≡ holding old [])
  -- It can only run out of memory when a new request is remembered, a response becomes the answer of
  -- its exchange, or a client is sent an answer that is kept until it is acknowledged. So a tick only
  -- allocates to send a client its answer in a Confirmable message, and neither a duplicate, nor a
  -- datagram without a message, nor one with an Empty message allocates: the proxy's own answer for an
  -- exchange whose request was rejected with a Reset takes no memory.
  pub memory : OnErr result (wants_memory (step_of before now draw true event) ≡ true)
  pub ticks : event ≡ tick → OnErr result (GivesConfirmable (on_tick before now draw))
  pub unread : IsUnread before.setting.limits.datagram event → IsOk result
  pub empty : HoldsEmpty before.setting.limits.datagram event → IsOk result
