use Rattle.std.proofs.Common.{◌≡◌, ◌++◌, List, ℕ, append_assoc}
use Rattle.std.proofs.lemmas.Result.{on_ok_weaker}
use Rattle.std.specs.List.{flat_map}
use Rattle.coap_stats.specs.Line as spec
use Rattle.coap_stats.proofs.line.put_line.Goals as goal

-- ten texts that are added one after the other
added : (o o₁ o₂ o₃ o₄ o₅ o₆ o₇ o₈ o₉ o₁₀ a b c d e f g h i j : List ℕ) → o₁ ≡ o ++ a → o₂ ≡ o₁ ++ b → o₃ ≡ o₂ ++ c → o₄ ≡ o₃ ++ d → o₅ ≡ o₄ ++ e → o₆ ≡ o₅ ++ f → o₇ ≡ o₆ ++ g → o₈ ≡ o₇ ++ h → o₉ ≡ o₈ ++ i → o₁₀ ≡ o₉ ++ j
    → o₁₀ ≡ o ++ (a ++ b ++ c ++ d ++ e ++ f ++ g ++ h ++ i ++ j)
added o o₁ o₂ o₃ o₄ o₅ o₆ o₇ o₈ o₉ o₁₀ a b c d e f g h i j e₁ e₂ e₃ e₄ e₅ e₆ e₇ e₈ e₉ e₁₀ = rw (e₁₀, e₉, e₈, e₇, e₆, e₅, e₄, e₃, e₂, e₁) (simp append_assoc)

pub returns : goal.returns
returns c =
    let s = c.args.statistics.now in
    on_ok_weaker c.put-2.result
    (λ last.
    added c.args.out.now.items _ _ _ _ _ _ _ _ _ _ _ _ (spec.words_text (spec.traffic_words s.tally)) (spec.words_text (spec.request_words s.tally.requests)) (spec.words_text (spec.refusal_words s.tally.requests.refused))
    (spec.words_text (spec.answer_words s.tally.answers)) (spec.words_text (spec.opening_words s.openings)) (spec.words_text (spec.eviction_words s.evictions)) (flat_map spec.fill_text (spec.fills c.args.counts.now c.args.limits.now)) _
    c.in_ok-put.ensures c.in_ok-put_number.ensures (rw c.traffic_words.ensures at c.in_ok-put_words.ensures) (rw c.request_words.ensures at c.in_ok-put_words-2.ensures)
    (rw c.refusal_words.ensures at c.in_ok-put_words-3.ensures) (rw c.answer_words.ensures at c.in_ok-put_words-4.ensures) (rw c.opening_words.ensures at c.in_ok-put_words-5.ensures)
    (rw c.eviction_words.ensures at c.in_ok-put_words-6.ensures) (rw c.fills.ensures at c.in_ok-put_fills.ensures) last)
    c.put-2.ensures
