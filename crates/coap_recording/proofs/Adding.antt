-- What the calls of a recording do, by their contracts.
use Rattle.std.proofs.Common.{◌≡◌, ◌≢◌, ◌+◌, ◌*◌, ◌≤◌, ◌&&◌, not, ℕ, inl, inr, Bool, true, false, ltb, List, [], ◌∷◌, ◌++◌, length, Option, Result, Ok, Err, refl, sym, ap, ◌∙◌, subst, arith}
use Rattle.std.specs.Result.{OnOk, is_err}
use Rattle.std.proofs.lemmas.Bool.{false≢true, le-ltb}
use Rattle.std.proofs.lemmas.List.{length-append}
use Rattle.coap_model.specs.Runs.{Turn}
use Rattle.coap_lines.specs.Ends.{failed_by}
use Rattle.coap_lines.specs.Turns.{IsReadAs, turn_line, turn_text}
use Rattle.coap_lines.proofs.WrittenTurns.{read-again}
use Rattle.coap_port.specs.Driven.{is_arrival}
use Rattle.coap_model.specs.Events.{event_given}
use Rattle.coap_port.specs.Given.{IsOnward, given_by}
use Rattle.coap_port.specs.declared.port.Turn.{Turn as Given}
use Rattle.coap_recording.specs.Recorder.{AddsTurn, AddsUnless, Gives, IsShort, Recorder, WritesIf, size_of, with_line}

-- what holds on success holds if there is no error
pub ok-holds : {T E P : Type 0} (r : Result T E) → is_err r ≡ false → OnOk r P → P
ok-holds (Ok x) ok holds = holds
ok-holds (Err e) ok holds = absurd (false≢true (sym ok))

-- a writer that took all bytes, and hadn't failed before, still hasn't
pub still-works : {A E : Type 0} (bytes : List ℕ) (before after : Bool) (r : Result A E) → after ≡ failed_by bytes before r → is_err r ≡ false → before ≡ false → after ≡ false
still-works [] before after r is ok works = is ∙ works
still-works (b ∷ bytes) before after (Ok x) is ok works = is
still-works (b ∷ bytes) before after (Err e) is ok works = absurd (false≢true (sym ok))

-- a writer that didn't take all bytes has failed
pub fails-so : {A E : Type 0} (bytes done rest : List ℕ) (before after : Bool) (r : Result A E) → after ≡ failed_by bytes before r → is_err r ≡ true → bytes ≡ done ++ rest → rest ≢ [] → after ≡ true
fails-so [] [] rest before after r is err split some = absurd (some (sym split))
fails-so [] (b ∷ done) rest before after r is err split some = absurd cc
fails-so (b ∷ bytes) done rest before after (Ok x) is err split some = absurd (false≢true err)
fails-so (b ∷ bytes) done rest before after (Err e) is err split some = is

-- the line of a turn that a port gives after the moment `before` is read as this turn
read : (before after : ℕ) (turn : Given) (bytes : List ℕ) → IsOnward before after turn → IsShort (given_by turn bytes) → IsReadAs before (turn_text (given_by turn bytes)) (given_by turn bytes)
read before after turn bytes on is =
    let whole = length-append (turn_text (given_by turn bytes)) (10 ∷ []) in
    read-again before (given_by turn bytes) (record { onward = on.onward; moment = on.moment; draw = on.draw; event = is.sourced }) (omega (arith, whole, is.short))

module _ {P W : Type 0} (contents : W → Option (List ℕ)) where
  -- a line was added, by what is known of the choices before
  by-choice : (r m s : Recorder P W) (turn : Turn) (ends long : Bool) → ends ≡ false → long ≡ false
      → WritesIf contents (ltb 65536 (length r.pending + (77 + 2 * size_of turn.event))) r m → s ≡ with_line m m.ended (turn_line turn) → AddsUnless contents ends long r turn s
  by-choice r m s turn true long on short writes is = absurd cc
  by-choice r m s turn false true on short writes is = absurd cc
  by-choice r m s turn false false on short writes is = (m, writes, is)

  -- the line was kept, or the recording had ended by then
  kept : (m s : Recorder P W) (line : List ℕ) (ended : Bool) → ended ≡ false → s ≡ record m { pending = m.pending ++ line } → s ≡ with_line m ended line
  kept m s line true on is = absurd cc
  kept m s line false on is = is

  not-kept : (m : Recorder P W) (line : List ℕ) (ended : Bool) → ended ≡ true → m ≡ with_line m ended line
  not-kept m line true off = refl
  not-kept m line false off = absurd cc

  module _ (r m : Recorder P W) (turn : Turn) (size : ℕ) (on : r.ended ≡ false) (same : size ≡ size_of turn.event) (short : size ≤ 8154)
      (writes : WritesIf contents (ltb 65536 (length r.pending + (77 + 2 * size))) r m) where
    by-size : (s : Recorder P W) → s ≡ with_line m m.ended (turn_line turn) → AddsTurn contents r turn s
    by-size s is =
        by-choice r m s turn r.ended (ltb 8154 (size_of turn.event)) on (subst (λ (n : ℕ). ltb 8154 n ≡ false) same (le-ltb 8154 size short))
        (subst (λ (n : ℕ). WritesIf contents (ltb 65536 (length r.pending + (77 + 2 * n))) r m) same writes) is

    -- a line was added
    pub adds-line : (s : Recorder P W) → m.ended ≡ false → s ≡ record m { pending = m.pending ++ turn_line turn } → AddsTurn contents r turn s
    adds-line s still is = by-size s (kept m s (turn_line turn) m.ended still is)

    -- the recording ended at the write before it
    pub adds-none : m.ended ≡ true → AddsTurn contents r turn m
    adds-none off = by-size m (not-kept m (turn_line turn) m.ended off)

  -- a write leaves the port
  port-written : (b : Bool) (r s : Recorder P W) → WritesIf contents b r s → s.port ≡ r.port
  port-written true r s (inl (wrote, still, is)) = ap (λ (x : Recorder P W). x.port) is
  port-written true r s (inr (done, rest, split, some, wrote, failed, is)) = ap (λ (x : Recorder P W). x.port) is
  port-written false r s is = ap (λ (x : Recorder P W). x.port) is

  port-kept : (m : Recorder P W) (line : List ℕ) (ended : Bool) → (with_line m ended line).port ≡ m.port
  port-kept m line true = refl
  port-kept m line false = refl

  -- so does a line that is added
  port-added : (ends long : Bool) (r s : Recorder P W) (turn : Turn) → AddsUnless contents ends long r turn s → s.port ≡ r.port
  port-added true long r s turn is = ap (λ (x : Recorder P W). x.port) is
  port-added false true r s turn is = ap (λ (x : Recorder P W). x.port) is
  port-added false false r s turn (m, writes, is) =
      ap (λ (x : Recorder P W). x.port) is ∙ port-kept m (turn_line turn) m.ended ∙ port-written _ r m writes

  -- a turn was given, and its line was added
  module _ (gives : ℕ → P → ℕ → Turn → P → Type 0) (clock : P → ℕ) where
    pub gives-turn : (room : ℕ) (r held : Recorder P W) (wait : ℕ) (turn : Given) (bytes : List ℕ) (port : P) (idle : Bool) (s : Recorder P W)
        → WritesIf contents (r.idle && ltb 0 wait) r held → gives room held.port wait (given_by turn bytes) port → IsOnward (clock held.port) (clock port) turn
        → idle ≡ (ltb 0 wait && not (is_arrival (event_given turn.from bytes))) → AddsTurn contents (record held { port = port; idle = idle }) (given_by turn bytes) s
        → (s.ended ≡ false → IsShort (given_by turn bytes)) → Gives gives clock contents room r wait (given_by turn bytes) s
    gives-turn room r held wait turn bytes port idle s writes gave on silent adds short =
        let same : held.port ≡ r.port = port-written (r.idle && ltb 0 wait) r held writes in
        let onward : IsOnward (clock r.port) (clock port) turn = subst (λ (p : P). IsOnward (clock p) (clock port) turn) same on in
        record {
          held = held;
          writes = writes;
          port = port;
          gave = subst (λ (p : P). gives room p wait (given_by turn bytes) port) same gave;
          added = subst (λ (b : Bool). AddsTurn contents (record held { port = port; idle = b }) (given_by turn bytes) s) silent adds;
          onward = onward.onward;
          moment = ap clock (port-added held.ended (ltb 8154 (size_of (event_given turn.from bytes))) (record held { port = port; idle = idle }) s (given_by turn bytes) adds) ∙ onward.held;
          read = λ still. read (clock r.port) (clock port) turn bytes onward (short still);
        }
