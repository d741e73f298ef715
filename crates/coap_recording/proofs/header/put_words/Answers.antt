use Rattle.std.proofs.Common.{◌++◌, ◌∙◌, ℕ, List, ap, arith, codes, string_bytes, sym}
use Rattle.std.specs.List.{flat_map}
use Rattle.std.proofs.lemmas.List.{take_all}
use Rattle.coap_recording.specs.Header.{word_shown}
use Rattle.coap_recording.proofs.Heading.{flat_map-map}
use Rattle.coap_recording.proofs.header.put_words.Goals as goal

pub returns : goal.returns
returns c =
    let shown = λ (word : List ℕ). codes " " ++ word_shown word in
    let all = take_all c.loop-word.word-index c.args.words.now (omega arith) in
    c.loop-word.invariant
    ∙ ap (λ (l : List ℕ). c.args.out.now.items ++ l) (ap (flat_map (λ word. shown (string_bytes word))) all ∙ sym (flat_map-map shown string_bytes c.args.words.now))
