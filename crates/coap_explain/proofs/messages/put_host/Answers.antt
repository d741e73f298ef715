use Rattle.std.proofs.Common.{◌++◌, ◌-◌, codes, length, sym, ◌∙◌}
use Rattle.std.specs.Prelude.{slice_range}
use Rattle.coap_explain.proofs.Writing.{appends-last, appends-more, if-so}
use Rattle.coap_explain.specs.Targets.{escaped, is_bracketed, plain_in_addresses, plain_in_names}
use Rattle.coap_explain.proofs.messages.put_host.Goals as goal

pub returns : goal.returns
returns g c =
    let host = c.args.host.now in
    let inside = escaped plain_in_addresses (slice_range host 1 (length host - 1)) in
    appends-last c.write_all-2.result (g.W.Write.contents c.args.line.now) (g.W.Write.contents c.put_escaped-2.new.line) (g.W.Write.contents c.write_all-2.new.self)
    (codes "[" ++ inside) (codes "]") _
    (appends-more (g.W.Write.contents c.args.line.now) (g.W.Write.contents c.write_all.new.self) (g.W.Write.contents c.put_escaped-2.new.line) (codes "[") inside c.in_ok-write_all.ensures.bytes c.in_ok-put_escaped.ensures)
    c.write_all-2.ensures.bytes
    (if-so (is_bracketed host) (codes "[" ++ inside ++ codes "]") (escaped plain_in_names host)
    (sym c.is_bracketed.ensures ∙ c.if-not-is_bracketed.false))
