use Rattle.std.proofs.Common.{◌≡◌, ◌<◌, false, rules, sym, refl, arith}
use Rattle.std.specs.Prelude.{◌==◌, ◌||◌}
use Rattle.std.proofs.lemmas.Bool.{ne_eqb}
use Rattle.coap_message.specs.declared.options.Opt.{Opt}
use Rattle.coap_target.proofs.OneNumber.{any-from}
use Rattle.coap_target.proofs.request.say_uri.Goals as goal

-- an option below Proxy-Uri is neither
neither : (o : Opt) → o.number < 35 → ((o.number == 35) || (o.number == 39)) ≡ false
neither o below = rw (ne_eqb o.number 35 (λ e. omega arith), ne_eqb o.number 39 (λ e. omega arith)) refl

pub loop-option-init : goal.loop-option-init
loop-option-init c = rw (c.into_iter-option-iterator.ensures.into_iter_gives, c.iter_from-option-items.ensures.list) (sym (any-from (λ (o : Opt). (o.number == 35) || (o.number == 39)) 35 c.args.options.now neither))

pub loop-option-preserved : goal.loop-option-preserved
loop-option-preserved c = search rules
