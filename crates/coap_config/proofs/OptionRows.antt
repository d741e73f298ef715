-- The rows of the option table.
use Rattle.std.proofs.Common.{◌≡◌, ◌∙◌, ◌<◌, ◌≤◌, ◌+◌, ℕ, suc, true, Option, Some, None, List, [], ◌∷◌, length, map, drop, get_or, refl, ap, sym, arith}
use Rattle.std.proofs.Math.Seq.{drop-cons}
use Rattle.std.proofs.Math.ListN.{drop_of_length-le}
use Rattle.clap.specs.declared.builder.Arg.{Arg}
use Rattle.clap.specs.declared.builder.Command.{Command}
use Rattle.clap.specs.Words.{AddsArg, App, Rule, app_of, rule_of, with_rule}
use Rattle.coap_config.specs.declared.options.Row.{Row}
use Rattle.coap_config.specs.declared.options.Value.{Value}
use Rattle.coap_config.specs.declared.options.Value.TheVariants.{Nothing, Text, Number}
use Rattle.coap_config.specs.OptionTable.{followed_by, named, option}
use Rattle.coap_config.proofs.LocalOptions.{simple-local}

-- a command line with these options more
abbrev pub with_rules : App → List Rule → App
with_rules app [] = app
with_rules app (rule ∷ rules) = with_rules (with_rule app rule) rules

-- an option by its name or its letter is simple, whatever follows it
simple_by : (value : Value) (rule : Rule) → rule.is_simple ≡ true → (followed_by value rule).is_simple ≡ true
simple_by Nothing rule simple = simple
simple_by (Text name) rule simple = simple
simple_by (Number name parser) rule simple = simple

named-simple : (name : List ℕ) (letter : Option ℕ) → (named name letter).is_simple ≡ true
named-simple name None = refl
named-simple name (Some letter) = refl

-- the option of a row is simple
row-simple : (row : Row) → (option row).is_simple ≡ true
row-simple row = simple_by row.value (named row.name.now row.letter) (named-simple row.name.now row.letter)

-- the next row's option is added
pub added : (old new : Command) (a : Arg) (rows : List Row) (index : ℕ) (row : Row) → AddsArg old a new → rule_of a ≡ option (get_or rows index row) → index < length rows → with_rules (app_of old) (map option (drop index rows)) ≡ with_rules (app_of new) (map option (drop (index + 1) rows))
added old new a rows index row adds is within =
    let next : suc index ≡ index + 1 = omega arith in
    let simple : (rule_of a).is_simple ≡ true = ap (λ (rule : Rule). rule.is_simple) is ∙ row-simple (get_or rows index row) in
    let app : app_of new ≡ with_rule (app_of old) (option (get_or rows index row)) = adds.shape (simple-local a simple) ∙ ap (with_rule (app_of old)) is in
    ap (λ l. with_rules (app_of old) (map option l)) (drop-cons rows index row within)
    ∙ ap (λ x. with_rules x (map option (drop (suc index) rows))) (sym app)
    ∙ ap (λ n. with_rules (app_of new) (map option (drop n rows))) next

-- no row is left
pub no_more : (app : App) (rows : List Row) (index : ℕ) → length rows ≤ index → with_rules app (map option (drop index rows)) ≡ app
no_more app rows index past = ap (λ l. with_rules app (map option l)) (drop_of_length-le rows past)
