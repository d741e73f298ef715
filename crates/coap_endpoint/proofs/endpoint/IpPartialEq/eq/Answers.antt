use Rattle.std.proofs.Common.{◌∙◌, ap, sym}
use Rattle.std.specs.Ordering.{is_eq}
use Rattle.coap_endpoint.specs.Alike.{ips_tied}
use Rattle.coap_endpoint.proofs.endpoint.IpPartialEq.eq.Goals as goal

pub returns : goal.returns
returns c =
    c.is_eq.ensures ∙ ap is_eq c.cmp.ensures ∙ sym (ips_tied c.args.self.now c.args.other.now)
