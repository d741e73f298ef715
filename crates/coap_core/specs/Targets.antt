-- The target of a request.
use Rattle.coap_endpoint.specs.declared.target.Target.{Target}
use Rattle.coap_target.specs.MappedTarget as mapped
use Rattle.coap_core.specs.declared.request_target.RequestTarget.{RequestTarget}
use Rattle.coap_core.specs.declared.request_target.RequestTarget.TheVariants.{Mapped, Named}

-- the target
abbrev pub seen : RequestTarget → Target
seen (Mapped t) = mapped.seen t
seen (Named t) = t
