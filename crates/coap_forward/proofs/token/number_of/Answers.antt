use Rattle.std.proofs.Common.{arith}
use Rattle.coap_forward.proofs.Tokens.{token-back}
use Rattle.coap_forward.proofs.token.number_of.Goals as goal

pub returns-then-token-eq8-clause-found : goal.returns-then-token-eq8-clause-found
returns-then-token-eq8-clause-found c =
    token-back c.args.salt c.uint.result c.args.token.now (omega (arith, c.ranges.salt.fits)) c.uint.type_inv c.if-token-eq8.true (λ i. omega (arith, c.type_inv.token i)) c.uint.ensures.value
