use Rattle.coap_core.proofs.known.put_acknowledgement.Goals as goal

pub put_bare-requires : goal.put_bare-requires
put_bare-requires c = record { fits = rw c.empty.ensures c.requires }
