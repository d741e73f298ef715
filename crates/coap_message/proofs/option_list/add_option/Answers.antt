use Rattle.std.proofs.Common.{◌≡◌, ◌+◌, ◌*◌, ◌++◌, ◌∷◌, List, ℕ, OnOk, length, refl, ap, append_assoc, subst, ◌∙◌}
use Rattle.coap_message.specs.Options.{option_of}
use Rattle.coap_message.specs.Spelling.{more_of}
use Rattle.coap_message.proofs.Appending.{option_written}
use Rattle.coap_message.proofs.option_list.add_option.Goals as goal

pub returns-clause-ok : goal.returns-clause-ok
returns-clause-ok c =
    let o = option_of c.args.number c.args.value.now in
    let written = option_written c.args.before o c.from-delta.result (length c.args.value.now) c.bits.result c.bits-2.result c.from-delta.ensures refl c.bits.ensures.value c.bits-2.ensures.value in
    let parts : c.add_more-2.new.bytes ++ c.args.value.now ≡ c.args.bytes.now ++ ((16 * c.bits.result + c.bits-2.result) ∷ (more_of c.from-delta.result ++ (more_of (length c.args.value.now) ++ c.args.value.now))) =
    rw (c.in_ok-add_more-2.ensures.ok, c.in_ok-add_more.ensures.ok, c.in_ok-push.ensures.ok) (simp append_assoc) in
    subst (λ (l : List ℕ). OnOk c.add_value.result (c.add_value.new.bytes ≡ l)) (parts ∙ ap (λ (l : List ℕ). c.args.bytes.now ++ l) written) c.add_value.ensures.ok
