use Rattle.std.proofs.Common.{◌∙◌, sym, ap, length, eq-eqb}
use Rattle.std.proofs.lemmas.Bool.{eqb-true}
use Rattle.std.proofs.lemmas.List.{nil_from_length}
use Rattle.coap_message.proofs.OptionSpellings.{no_bytes}
use Rattle.coap_message.proofs.options.Options.is_empty.Goals as goal

pub returns : goal.returns
returns c =
    let same = no_bytes c.self.inside.bytes.now c.self.invariant.spelled in
    let bytes = c.self.inside.bytes.now in
    (λ h. sym c.self.view_is ∙ same.0 (nil_from_length bytes (eqb-true (length bytes) 0 (sym c.is_empty.ensures ∙ h))), λ h. c.is_empty.ensures ∙ eq-eqb (length bytes) 0 (ap length (same.1 (c.self.view_is ∙ h))))
