use Rattle.std.proofs.Common.{◌==◌, sym}
use Rattle.std.proofs.lemmas.List.{take_rest}
use Rattle.coap_uri.proofs.Cutting.{slice_split-cut, slice_split-whole}
use Rattle.coap_uri.proofs.parts.first_part.Goals as goal

pub returns-in-Some-clause-parts : goal.returns-in-Some-clause-parts
returns-in-Some-clause-parts c = rw take_rest (slice_split-cut (λ b. b == c.args.separator) c.args.text.now c.in-Some.end (sym c.in-Some.ensures))

pub returns-in-None-clause-parts : goal.returns-in-None-clause-parts
returns-in-None-clause-parts c = slice_split-whole (λ b. b == c.args.separator) c.args.text.now (sym c.in-None.ensures)
