-- A watcher that was told of turns.
use Rattle.std.specs.Prelude.{◌≡◌, List, [], ◌∷◌, Option, None, Some}
use Rattle.coap_core.specs.Told.{Told}

module _ {W : Type 0} (sees : W → Told → W → Type 0) where
  -- it was told of these turns, the newest first, and of nothing else
  abbrev pub WasTold : W → List Told → W → Type 0
  WasTold a [] b = b ≡ a
  WasTold a (t ∷ before) b = (m : W) × WasTold a before m × sees m t b

-- a watcher, if there is one, was told of this turn; otherwise there is none afterwards either
abbrev pub SeesIfAny : {W : Type 0} → (W → Told → W → Type 0) → Option W → Told → Option W → Type 0
SeesIfAny sees None t None = Unit {0}
SeesIfAny sees None t (Some b) = ⊥
SeesIfAny sees (Some a) t None = ⊥
SeesIfAny sees (Some a) t (Some b) = sees a t b
