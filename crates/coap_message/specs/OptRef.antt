-- An option whose value is borrowed.
use Rattle.coap_message.specs.declared.options.Opt.{Opt}
use Rattle.coap_message.specs.declared.options.OptRef.{OptRef}

-- the option
abbrev pub seen : OptRef → Opt
seen o = record { number = o.number; value = o.value.now }
