use Rattle.std.proofs.Common.{◌≡◌, ◌++◌, map, take}
use Rattle.coap_stats.specs.Labels.{part_seen}
use Rattle.coap_stats.specs.Line.{word_seen}
use Rattle.coap_stats.specs.Metrics.{samples_text}
use Rattle.coap_stats.proofs.metrics.put_samples.Given as goal

-- the lines of those so far were added
abbrev pub invariant-loop-word : goal.invariant-loop-word
invariant-loop-word l =
    l.out.items ≡ l.initial.out.items
    ++ samples_text l.fn.family.listen.now l.fn.family.metric.name.now (part_seen l.fn.family.whose) l.fn.family.label.now (map word_seen (take l.word-index l.words))
