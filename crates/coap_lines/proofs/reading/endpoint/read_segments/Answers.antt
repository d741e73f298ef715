use Rattle.std.proofs.Common.{◌<◌, length, take, sym, refl, ◌∙◌, arith, append-nil, length-take, length-set}
use Rattle.std.proofs.lemmas.Iterator.Adapters.{option_map_id}
use Rattle.std.proofs.lemmas.List.{take_all, take_more_set}
use Rattle.coap_lines.proofs.Groups.{step, unread, eight-some, other-none, bad-none, more-none}
use Rattle.coap_lines.proofs.reading.endpoint.read_segments.Goals as goal

pub loop-segment-init : goal.loop-segment-init
loop-segment-init c = (sym (option_map_id _), refl)

pub returns-in_default : goal.returns-in_default
returns-in_default c =
    let front = take c.loop-segment.segment-index c.loop-segment.segment-items in
    let short = length-take c.loop-segment.segment-index c.loop-segment.segment-items in
    let same = append-nil front in
    sym (other-none c.args.text.now front (rw (c.in_default.is, same) at c.loop-segment.invariant.0) (λ eight. omega arith))

pub returns-in-None : goal.returns-in-None
returns-in-None c =
    let read = rw (c.in-Some.is, c.first_part.ensures.parts) at c.loop-segment.invariant.0 in
    sym (bad-none c.args.text.now (read ∙ unread _ _ c.first_part.result.0.now (sym c.read_group.ensures ∙ c.in-None.is)))

pub loop-segment-preserved : goal.loop-segment-preserved
loop-segment-preserved c =
    let read = rw (c.in-Some.is, c.first_part.ensures.parts) at c.loop-segment.invariant.0 in
    let within : c.loop-segment.segment-index < length c.loop-segment.segment-items = omega arith in (
      rw (take_more_set c.loop-segment.segment-items c.loop-segment.segment-index c.in-Some-read_group.number within) (read ∙ step _ _ c.first_part.result.0.now c.in-Some-read_group.number (sym c.read_group.ensures ∙ c.in-Some-read_group.is)),
      length-set c.loop-segment.segment-items c.loop-segment.segment-index c.in-Some-read_group.number ∙ c.loop-segment.invariant.1,
    )

pub returns-in-Some-rest : goal.returns-in-Some-rest
returns-in-Some-rest c =
    let all = take_all c.loop-segment.segment-index c.loop-segment.segment-items (omega arith) in
    sym (more-none c.args.text.now c.in-Some-rest.field-0.now c.loop-segment.segment-items (rw (c.in-Some-rest.is, all) at c.loop-segment.invariant.0) c.loop-segment.invariant.1)

pub returns-in-None-rest : goal.returns-in-None-rest
returns-in-None-rest c =
    let all = take_all c.loop-segment.segment-index c.loop-segment.segment-items (omega arith) in
    sym (eight-some c.args.text.now c.loop-segment.segment-items (rw (c.in-None-rest.is, all, append-nil) at c.loop-segment.invariant.0) c.loop-segment.invariant.1)
