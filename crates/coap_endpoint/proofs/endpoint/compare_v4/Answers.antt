use Rattle.std.proofs.Common.{◌∙◌, arith}
use Rattle.std.specs.declared.cmp.Ordering.TheVariants.{Less, Equal, Greater}
use Rattle.std.specs.Cmp.{nat_cmp_is}
use Rattle.coap_endpoint.proofs.Numbers.{v4-cmp}
use Rattle.coap_endpoint.proofs.endpoint.compare_v4.Goals as goal

pub returns-then-x-y : goal.returns-then-x-y
returns-then-x-y c =
    nat_cmp_is c.from_be_bytes-x.result c.from_be_bytes-y.result Greater c.if-x-y.true
    ∙ v4-cmp c.args.a.now c.args.b.now c.from_be_bytes-x.result c.from_be_bytes-y.result c.told-a c.told-b c.fits-a c.fits-b c.from_be_bytes-x.ensures c.from_be_bytes-y.ensures

pub returns-then-x-y-2 : goal.returns-then-x-y-2
returns-then-x-y-2 c =
    nat_cmp_is c.from_be_bytes-x.result c.from_be_bytes-y.result Less c.if-x-y-2.true
    ∙ v4-cmp c.args.a.now c.args.b.now c.from_be_bytes-x.result c.from_be_bytes-y.result c.told-a c.told-b c.fits-a c.fits-b c.from_be_bytes-x.ensures c.from_be_bytes-y.ensures

pub returns : goal.returns
returns c =
    nat_cmp_is c.from_be_bytes-x.result c.from_be_bytes-y.result Equal (omega (arith, c.if-x-y.false, c.if-x-y-2.false))
    ∙ v4-cmp c.args.a.now c.args.b.now c.from_be_bytes-x.result c.from_be_bytes-y.result c.told-a c.told-b c.fits-a c.fits-b c.from_be_bytes-x.ensures c.from_be_bytes-y.ensures
