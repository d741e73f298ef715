-- Words that are accepted or refused.
use Rattle.std.proofs.Common.{◌≡◌, ◌∙◌, ◌⊎◌, true, List, [], Result, Ok, Err, refl, sym, ap, subst, inl, inr, ⊎_elim}
use Rattle.std.specs.Prelude.{IfOk, IfErr}
use Rattle.clap.specs.Words.{App, HasMatchesOf, IsAmong, Row, Text, fault_of, found_of, is_simple, is_simple_and_free, matches_of, rows_of}
use Rattle.clap.specs.declared.error.ErrorKind.{ErrorKind}
use Rattle.clap.specs.declared.error.ErrorKind.TheVariants as kind
use Rattle.clap.specs.declared.ArgMatches.{ArgMatches}
use Rattle.coap_config.specs.OptionTable.{option_table}
use Rattle.coap_config.specs.Settings.{AreSettings, IsRefusal, ReadsWords, RefusesFor}
use Rattle.coap_config.specs.declared.settings.Settings.{Settings}
use Rattle.coap_config.specs.declared.settings.WordsError.{WordsError}
use Rattle.coap_config.specs.declared.settings.WordsError.TheVariants.{OutOfMemory}

-- the options are simple, so that `clap` specifies what it finds for them
table-simple : is_simple option_table ≡ true
table-simple = refl

-- none of them has a rule on another, so that `clap` also specifies what it refuses
table-free : is_simple_and_free option_table ≡ true
table-free = refl

-- settings that are made from what was found
pub taken : (app : App) (words : List Text) (m : ArgMatches) (r : Result Settings WordsError) → app ≡ option_table
    → HasMatchesOf app words m → (is_simple_and_free app ≡ true → fault_of app words ≡ [])
    → IfOk r (AreSettings (rows_of (found_of m))) → IfErr r (λ e. e ≡ OutOfMemory) → ReadsWords words r
taken app words m (Ok s) is found faults ok err =
    let rows : rows_of (found_of m) ≡ matches_of option_table words =
    (found (ap is_simple is ∙ table-simple)).0 ∙ ap (λ a. matches_of a words) is in
    let none : fault_of option_table words ≡ [] =
    sym (ap (λ a. fault_of a words) is) ∙ faults (ap is_simple_and_free is ∙ table-free) in
    (none, subst (λ (found : List Row). AreSettings found s) rows ok)
taken app words m (Err e) is found faults ok err = inl err

-- an error for what was refused
pub refused : (app : App) (words : List Text) (k : ErrorKind) (e : WordsError) → app ≡ option_table
    → (is_simple_and_free app ≡ true → (k ≡ kind.OutOfMemory) ⊎ IsAmong k (fault_of app words))
    → (k ≡ kind.OutOfMemory → e ≡ OutOfMemory) → ((e ≡ OutOfMemory) ⊎ IsRefusal k e) → RefusesFor (fault_of option_table words) e
refused app words k e is faults memory other =
    ⊎_elim
    (λ none. inl (memory none))
    (λ among.
    let here : IsAmong k (fault_of option_table words) = subst (λ (a : App). IsAmong k (fault_of a words)) is among in
    ⊎_elim (λ none. inl none) (λ refusal. inr (k, here, refusal)) other)
    (faults (ap is_simple_and_free is ∙ table-free))
