use Rattle.std.proofs.Common.{◌∙◌}
use Rattle.coap_stats.proofs.Naming.{socket-is}
use Rattle.coap_stats.proofs.labels.socket_of.Goals as goal

pub returns : goal.returns
returns c =
    socket-is c.new.result c.address_of.result c.args.at.port c.new.ensures.ip c.new.ensures.port c.new.ensures.scope_id
    ∙ c.address_of.ensures.socket c.args.at.port
