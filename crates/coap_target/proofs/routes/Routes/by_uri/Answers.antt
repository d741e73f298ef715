use Rattle.std.proofs.Common.{◌≡◌, true, Ok, refl, inr, ⊎_elim}
use Rattle.std.specs.Str.{is_utf8}
use Rattle.std.proofs.lemmas.Str.{is_utf8-from_IsUtf8}
use Rattle.coap_uri.specs.Uri.{uri_of}
use Rattle.coap_target.specs.Request.{by_uri}
use Rattle.coap_uri.proofs.Texts.{not_utf8}
use Rattle.coap_target.proofs.routes.Routes.by_uri.Goals as goal

pub returns-in_default : goal.returns-in_default
unfolding by_uri
returns-in_default c = inr (rw (not_utf8 c.args.text.now c.in_default.ensures.cases.0) refl)

pub returns-in-Ok-split_uri : goal.returns-in-Ok-split_uri
unfolding by_uri
returns-in-Ok-split_uri c =
    let is : is_utf8 c.args.text.now ≡ true = is_utf8-from_IsUtf8 c.args.text.now c.in-Ok.ensures.cases.1 in
    let uri : uri_of c.args.text.now ≡ Ok c.in-Ok-split_uri.uri = rw c.in-Ok.ensures.cases.0 at c.in-Ok-split_uri.ensures in
    rw (is, uri) c.resolved.ensures

pub returns-in-Err-Scheme : goal.returns-in-Err-Scheme
unfolding by_uri
returns-in-Err-Scheme c =
    let is : is_utf8 c.args.text.now ≡ true = is_utf8-from_IsUtf8 c.args.text.now c.in-Ok.ensures.cases.1 in
    ⊎_elim
    (λ never. absurd cc)
    (λ told. inr (rw (is, rw c.in-Ok.ensures.cases.0 at told, c.in-Err-Scheme.field-0-is) refl))
    c.in-Err-Scheme.ensures

pub returns-in-Err-Bad : goal.returns-in-Err-Bad
unfolding by_uri
returns-in-Err-Bad c =
    let is : is_utf8 c.args.text.now ≡ true = is_utf8-from_IsUtf8 c.args.text.now c.in-Ok.ensures.cases.1 in
    ⊎_elim
    (λ never. absurd cc)
    (λ told. inr (rw (is, rw c.in-Ok.ensures.cases.0 at told, c.in-Err-Bad.field-0-is) refl))
    c.in-Err-Bad.ensures
