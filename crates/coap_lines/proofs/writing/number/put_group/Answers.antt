use Rattle.std.proofs.Common.{false, refl, arith, append_assoc}
use Rattle.std.proofs.lemmas.Fmt.{hex_one_digit, hex_two_digits}
use Rattle.coap_lines.proofs.GroupTexts.{digits-three, digits-four}
use Rattle.coap_lines.proofs.writing.number.put_group.Goals as goal

pub returns-in-0-to-15 : goal.returns-in-0-to-15
returns-in-0-to-15 c =
    let added = c.put.ensures in
    (rw (added.0, c.digit.ensures, hex_one_digit false c.args.group (omega arith)) refl, omega (arith, added.1), added.2)

pub returns-in-16-to-255 : goal.returns-in-16-to-255
returns-in-16-to-255 c =
    let added = c.put-in-16-to-255.ensures in
    (rw (added.0, c.digit-in-16-to-255.ensures, c.digit-in-16-to-255-2.ensures, hex_two_digits false c.args.group (omega arith) (omega arith)) refl, omega (arith, added.1), added.2)

pub returns-in-256-to-4095 : goal.returns-in-256-to-4095
returns-in-256-to-4095 c =
    let added = c.put_three.ensures in
    (rw (added.0, digits-three c.args.group (omega arith) (omega arith)) refl, omega (arith, added.1), added.2)

pub returns-in_default : goal.returns-in_default
returns-in_default c =
    let first = c.put-in_default.ensures in
    let rest = c.put_three-in_default.ensures in
    (rw (rest.0, first.0, c.digit-in_default.ensures, digits-four c.args.group (omega arith) (omega arith)) (append_assoc c.args.out.now.items _ _), omega (arith, first.1, rest.1), omega (arith, first.2, rest.2))
