use Rattle.std.proofs.Common.{◌≡◌, ◌++◌, map, take}
use Rattle.coap_stats.specs.Line as spec
use Rattle.coap_stats.proofs.line.put_words.Given as goal

-- the texts of those so far were added
abbrev pub invariant-loop-word : goal.invariant-loop-word
invariant-loop-word l = l.out.items ≡ l.initial.out.items ++ spec.words_text (map spec.word_seen (take l.word-index l.words))
