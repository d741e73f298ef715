use Rattle.std.proofs.Common.{◌≡◌, true, Some, refl, inr}
use Rattle.std.specs.Str.{is_utf8}
use Rattle.std.proofs.lemmas.Str.{is_utf8-from_IsUtf8}
use Rattle.toml.specs.Parse.{parse_document}
use Rattle.toml.specs.View.{table_view}
use Rattle.coap_uri.proofs.Texts.{not_utf8}
use Rattle.coap_config.proofs.config.read_document.Goals as goal

pub returns-in_default : goal.returns-in_default
returns-in_default c = inr (rw (not_utf8 c.args.text.now c.in_default.ensures.cases.0) refl)

pub returns-in-Ok-table_from_str : goal.returns-in-Ok-table_from_str
returns-in-Ok-table_from_str c =
    let is : is_utf8 c.args.text.now ≡ true = is_utf8-from_IsUtf8 c.args.text.now c.in-Ok.ensures.cases.1 in
    let document : parse_document c.args.text.now ≡ Some (table_view c.in-Ok-table_from_str.table) =
    rw c.in-Ok.ensures.cases.0 at c.in-Ok-table_from_str.ensures.ok in
    rw (is, document) refl
