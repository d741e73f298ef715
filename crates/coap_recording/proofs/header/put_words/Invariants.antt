use Rattle.std.proofs.Common.{◌≡◌, ◌++◌, codes, string_bytes, take}
use Rattle.std.specs.List.{flat_map}
use Rattle.coap_recording.specs.Header.{word_shown}
use Rattle.coap_recording.proofs.header.put_words.Given as goal

-- the words so far were added
abbrev pub invariant-loop-word : goal.invariant-loop-word
invariant-loop-word l = l.out.items ≡ l.fn.out.items ++ flat_map (λ word. codes " " ++ word_shown (string_bytes word)) (take l.word-index l.words)
