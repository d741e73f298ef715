use Rattle.std.proofs.Common.{◌≡◌, ℕ, List, [], Option, Some, None, Result, Ok, inr, refl, subst}
use Rattle.std.specs.Io.KnownBytes.{prepend_known}
use Rattle.coap_replay.proofs.Telling.{told-none}
use Rattle.coap_replay.specs.Replays.{IsReplayed}
use Rattle.coap_replay.specs.declared.error.ReplayError.{ReplayError}
use Rattle.coap_model.specs.State.{State}
use Rattle.coap_proxyd.specs.Serving.{IsServed, ended_as}
use Rattle.coap_proxyd.proofs.serving.serve_on.Goals as goal

-- a buffer that holds nothing doesn't change what is known of a reader
none-prepended : (known : Option (List ℕ)) → prepend_known [] known ≡ known
none-prepended None = refl
none-prepended (Some bytes) = refl

-- a replay of what a new buffer over a reader gives is a replay of what the reader gives
served : (turns : ℕ) (proxy after : State) (input left old new : Option (List ℕ)) (replayed : Result ℕ ReplayError) → IsReplayed proxy after turns (prepend_known [] input) left old new replayed
    → IsServed turns proxy input old new (ended_as replayed)
served turns proxy after input left old new replayed is =
    inr (after, left, replayed, subst (λ (known : Option (List ℕ)). IsReplayed proxy after turns known left old new replayed) (none-prepended input) is, refl)

pub returns : goal.returns
returns g c =
    let reader = c.in-Ok.ensures in
    record {
      served = rw c.ended.ensures (served _ c.args.core.now _ (g.R.Read.remaining c.args.input) _ _ _ c.replay_watched.result (rw (c.new-input.ensures.reader, reader.capacity, reader.empty, reader.inner) at c.replay_watched.ensures.replayed));
      told = (c.replay_watched.new.core, c.replay_watched.result, c.replay_watched.ensures.told);
    }

pub returns-in_default-clause-told : goal.returns-in_default-clause-told
returns-in_default-clause-told g c = (c.args.core.now, Ok 0, told-none g.V.Watch.sees c.args.core.now c.args.watcher.now)
