-- A recorded run is done again by a replay of what was recorded.
use Rattle.std.specs.Prelude.{◌≡◌, ◌≤◌, ℕ, Bool, true, false, List, [], ◌∷◌, ◌++◌, length, map, Option, Some, None, Ok}
use Rattle.std.specs.Io.KnownBytes.{Appends}
use Rattle.std.specs.List.{AllByRecursion}
use Rattle.coap_endpoint.specs.declared.endpoint.Endpoint.{Endpoint}
use Rattle.coap_model.specs.Runs.{Taken, run_of, turns_of}
use Rattle.coap_model.specs.State.{State}
use Rattle.coap_lines.specs.Lines.{ended, is_skipped, is_too_long, line_of}
use Rattle.coap_lines.specs.Texts.{has, line_feed}
use Rattle.coap_lines.specs.Turns.{turn_text}
use Rattle.coap_port.specs.Driven.{Given, run_at, run_by, sent_at, taken_of, state_by}
use Rattle.coap_replay.specs.Replays.{IsReplayed, script_for}

-- ---- a run over a port, whose turns are listed the newest first

-- no turn was lost
abbrev pub AreDone : List Given → Type 0
AreDone givens = AllByRecursion (λ g. g.lost ≡ false) givens

-- the turns in order, as they were done
abbrev pub in_order : List Given → List Taken
in_order [] = []
in_order (g ∷ before) = in_order before ++ taken_of g ∷ []

-- their lines in order
abbrev pub texts_of : List Given → List (List ℕ)
texts_of [] = []
texts_of (g ∷ before) = texts_of before ++ turn_text g.turn ∷ []

-- the line that a replay writes for a datagram, if there is one
abbrev pub line_for : ℕ → Option (Endpoint × List ℕ) → List ℕ
line_for now None = []
line_for now (Some datagram) = line_of now datagram.0 datagram.1

-- the lines of the datagrams that were handed to the port, in order
abbrev pub lines_handed : State → List Given → List ℕ
lines_handed w [] = []
lines_handed w (g ∷ before) =
    lines_handed w before ++ line_for g.turn.now (sent_at (state_by w before) g)

-- ---- a replay

-- lines that a replay skips
pub record AreSkipped (lines : List (List ℕ)) (text : List ℕ) : Type 0 where
  pub whole : text ≡ ended lines
  pub one : AllByRecursion (λ line. has line_feed line ≡ false) lines
  pub short : AllByRecursion (λ line. is_too_long line ≡ false) lines
  pub skipped : AllByRecursion (λ line. is_skipped line ≡ true) lines

-- for each turn, whether there was memory for one more entry of the store
abbrev pub memory_of : List Taken → List Bool
memory_of taken = map (λ t. t.grown) taken

-- An input is a recording of a run of this proxy.
--   Its lines are the turns of the run, in order, and none of them is bad.
--   A proxy that starts as this one did and does these turns, each with as much memory, has the
--   same tables and the same history after them: the same reports and the same datagrams.
--   So has one that replays the input, of which it may do at least as many turns, each with as much
--   memory; and that replay writes the lines of exactly the datagrams that were handed to the port.
pub record IsReplayable (w : State) (givens : List Given) (input : List ℕ) : Type 0 where
  pub asks : script_for w input ≡ record { turns = turns_of (in_order givens); bad = None }
  pub same : run_of (run_at w []) (in_order givens) ≡ run_by (run_at w []) givens
  pub replayed : (v : State) (most : ℕ) (left old new : Option (List ℕ)) (count : ℕ)
      (r : IsReplayed w v most (Some input) left old new (Ok count)) → length givens ≤ most
      → memory_of r.turns ≡ memory_of (in_order givens)
      → (v ≡ state_by w givens) × Appends old new (lines_handed w givens)
