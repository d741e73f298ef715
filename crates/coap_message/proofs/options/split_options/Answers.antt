use Rattle.std.proofs.Common.{◌++◌, sym, ap, ◌∙◌, Some, arith}
use Rattle.coap_message.specs.SpelledOptions.{options_of}
use Rattle.coap_message.specs.Parsing.{parsed}
use Rattle.coap_message.proofs.Counting.{nothing_found, no_payload_found}
use Rattle.coap_message.proofs.ManyOptions.{option_shortens}
use Rattle.coap_message.proofs.Splitting.{IsSplit-none, IsSplit-step, IsSplit-front, IsSplit-end}
use Rattle.coap_message.proofs.options.split_options.Goals as goal

pub options-init : goal.options-init
options-init c = IsSplit-none c.args.bytes.now

pub returns-in_err-option : goal.returns-in_err-option
returns-in_err-option c =
    rw c.from_residual.ensures (sym (nothing_found (λ f. (options_of 0 c.options.invariant.front ++ f.0, f.1)) c.options.before c.options.rest.now _ (sym c.options-test.ensures) (sym c.in_err-option.ensures.exact) c.options.invariant.found))

pub options-smaller : goal.options-smaller
options-smaller c = option_shortens c.options.before c.options.rest.now (parsed c.in_ok-option.option).0 c.in_ok-option.option.rest.now (sym c.in_ok-option.ensures.exact)

pub options-preserved : goal.options-preserved
options-preserved c = IsSplit-step c.args.bytes.now c.options.before c.options.rest.now (parsed c.in_ok-option.option).0 c.in_ok-option.option.rest.now (λ i. omega (arith, c.type_inv.bytes i)) (sym c.options-test.ensures) (sym c.in_ok-option.ensures.exact) c.options.invariant

pub returns-in_err-payload : goal.returns-in_err-payload
returns-in_err-payload c =
    rw c.from_residual-in_err-payload.ensures (sym (no_payload_found (λ f. (options_of 0 c.options.invariant.front ++ f.0, f.1)) c.options.before c.options.rest.now _ (sym c.options-test.ensures) (sym c.in_err-payload.ensures) c.options.invariant.found))

pub returns : goal.returns
returns c =
    let front = IsSplit-front c.args.bytes.now c.options.before c.options.rest.now c.options.invariant in
    ap (λ l. Some (options_of 0 l, c.in_ok-payload.payload.now)) front ∙ sym (IsSplit-end c.args.bytes.now c.options.before c.options.rest.now c.in_ok-payload.payload.now c.options.invariant (sym c.options-test.ensures) (sym c.in_ok-payload.ensures))
