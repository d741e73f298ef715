use Rattle.std.proofs.Common.{rules, codes}
use Rattle.coap_uri.proofs.PlainUrls.{text_parsed, stripped}
use Rattle.coap_uri.proofs.plain.read_plain.Goals as goal

pub returns-clause-parsed : goal.returns-clause-parsed
returns-clause-parsed c =
    text_parsed _ _ _ _ c.cut.ensures.kept (search rules) (search rules) c.cut-2.ensures.kept (search rules) c.in_ok-query.ensures.1
    _ _ _ _ _
    (stripped _ _ (codes "coap://") c.in_ok-rest.ensures.cases.0 c.in_ok-rest.ensures.cases.1) c.cut.ensures.whole c.in_ok-port.ensures c.cut-2.ensures.whole c.in_ok-query.ensures.0
