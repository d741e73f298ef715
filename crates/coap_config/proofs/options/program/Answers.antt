use Rattle.std.proofs.Common.{◌≡◌, ◌∙◌, true, ap}
use Rattle.clap.specs.Simple.{App, app_of_fields, on_top}
use Rattle.clap.specs.Words.{app_of}
use Rattle.coap_config.proofs.options.program.Goals as goal

-- a command whose words don't begin with its name
abbrev nameless : App → App
nameless = on_top (λ s. record s { no_binary_name = true })

-- a command with a version
abbrev versioned : App → App
versioned = on_top (λ s. record s { has_version = true })

pub returns : goal.returns
returns c =
    let after : app_of c.after_help.result ≡ app_of c.about.result = ap app_of_fields c.after_help.ensures in
    let about : app_of c.about.result ≡ app_of c.no_binary_name.result = ap app_of_fields c.about.ensures in
    let name : app_of c.no_binary_name.result ≡ nameless (app_of c.version.result) = ap app_of_fields c.no_binary_name.ensures in
    let version : app_of c.version.result ≡ versioned (app_of c.new.result) = ap app_of_fields c.version.ensures in
    after ∙ about ∙ name ∙ ap nameless (version ∙ ap versioned c.new.ensures.app)
