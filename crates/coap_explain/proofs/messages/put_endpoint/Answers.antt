use Rattle.std.proofs.Common.{◌∷◌, [], sym}
use Rattle.std.proofs.lemmas.List.{append_assoc}
use Rattle.std.specs.Fmt.{decimal}
use Rattle.coap_explain.proofs.Writing.{appends-last}
use Rattle.coap_explain.specs.Targets.{ip_text}
use Rattle.coap_explain.proofs.messages.put_endpoint.Goals as goal

pub returns : goal.returns
returns g c =
    appends-last c.write.result (g.W.Write.contents c.args.line.now) (g.W.Write.contents c.put_ip.new.line) (g.W.Write.contents c.write.new.self)
    (ip_text c.args.endpoint.ip) (58 ∷ decimal c.args.endpoint.port) _ c.in_ok-put_ip.ensures c.write.ensures.bytes
    (sym (append_assoc (ip_text c.args.endpoint.ip) (58 ∷ []) (decimal c.args.endpoint.port)))
