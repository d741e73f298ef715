use Rattle.std.proofs.Common.{arith}
use Rattle.coap_lines.proofs.Eights.{groups_text-added}
use Rattle.coap_lines.proofs.writing.endpoint.put_groups.Goals as goal

pub returns : goal.returns
returns c =
    let one = c.put.ensures in
    let two = c.put_four.ensures in
    let three = c.put-2.ensures in
    let four = c.put_four-2.ensures in
    let five = c.put-3.ensures in (
      groups_text-added c.args.segments c.args.out.now.items _ _ _ _ _ c.requires.all one.0 two.0 three.0 four.0 five.0,
      omega (arith, one.1, two.1, three.1, four.1, five.1),
      omega (arith, one.2, two.2, three.2, four.2, five.2),
    )
