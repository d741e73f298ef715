-- What couldn't be found for want of memory, and what could.
use Rattle.std.specs.Prelude.{Bool, true, false}
use Rattle.coap_explain.specs.declared.answering.Answering.{Answering}
use Rattle.coap_explain.specs.declared.answering.Answering.TheVariants as answerings
use Rattle.coap_explain.specs.declared.routed.Routed.{Routed}
use Rattle.coap_explain.specs.declared.routed.Routed.TheVariants as ways

abbrev pub is_known : Answering → Bool
is_known (answerings.Own cause) = true
is_known answerings.Passed = true
is_known answerings.Unknown = false

abbrev pub is_found : Routed → Bool
is_found ways.Nowhere = true
is_found (ways.To target) = true
is_found ways.Unknown = false
