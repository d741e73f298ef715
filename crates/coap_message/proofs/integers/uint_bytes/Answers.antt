use Rattle.std.proofs.Common.{◌∙◌, ap, arith}
use Rattle.std.proofs.lemmas.Result.{IfOk-weaker}
use Rattle.coap_message.specs.Uint.{uint_of, without_zeros, uint_spelling}
use Rattle.coap_message.proofs.Uints.{uint-uint_spelling}
use Rattle.coap_message.proofs.integers.uint_bytes.Goals as goal

pub returns-clause-value : goal.returns-clause-value
unfolding uint_spelling
returns-clause-value c = IfOk-weaker c.from_slice.result _ _ (λ bytes e. ap uint_of (e ∙ c.without_zeros.ensures ∙ ap without_zeros c.to_be_bytes-bytes.ensures) ∙ uint-uint_spelling c.args.number (omega arith)) c.from_slice.ensures
