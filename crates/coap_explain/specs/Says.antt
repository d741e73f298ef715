-- What a watcher that explains turns writes.
use Rattle.std.specs.Prelude.{◌≡◌, ℕ, Bool, true, false, List, Option}
use Rattle.std.specs.Io.KnownBytes.{Appends, Keeps}
use Rattle.coap_core.specs.Told.{Told}
use Rattle.coap_explain.specs.declared.routed.Routed.{Routed}
use Rattle.coap_explain.specs.Account.{Noted, line_of, line_text}
use Rattle.coap_explain.specs.Known.{is_found}
use Rattle.coap_explain.specs.Ways.{routed_of}

-- a line of a turn was added to what was written
pub record IsSaid (before : Option (List ℕ)) (t : Told) (after : Option (List ℕ)) : Type 0 where
  -- the time of day, and what was noted of the turn
  pub time : List ℕ
  pub noted : Noted
  -- where the routes take its request, unless there was no memory to find that
  pub routed : Routed
  pub way : is_found routed ≡ true → routed ≡ routed_of t.state.setting.routes t.turn.event
  pub written : Appends before after (line_text (line_of t time routed noted))

-- A turn was told: its line was added, if that didn't fail. Once one has failed, no more are added.
pub record Says
    (before : Option (List ℕ)) (failed : Bool) (t : Told) (after : Option (List ℕ)) (fails : Bool)
    : Type 0 where
  pub said : fails ≡ false → IsSaid before t after
  pub stays : failed ≡ true → fails ≡ true
  pub silent : failed ≡ true → Keeps before after
