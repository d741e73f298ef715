-- Lists of options that grow at the end.
use Rattle.std.proofs.Common.{ℕ, ◌≤◌, ◌<◌, List, [], ◌∷◌, ◌++◌, length}
use Rattle.coap_message.specs.declared.options.Opt.{Opt}
use Rattle.coap_message.specs.Options.{AreOptions, last_number}

-- one more option after the others
pub AreOptions-push : (before : ℕ) (os : List Opt) (o : Opt) → AreOptions before os → last_number before os ≤ o.number → o.number < 65536 → length o.value ≤ 65804 → AreOptions before (os ++ o ∷ [])
AreOptions-push before [] o are le fits short = (le, fits, short, tt)
AreOptions-push before (p ∷ os) o are le fits short = (are.0, are.1, are.2, AreOptions-push p.number os o are.3 le fits short)

-- others after them
pub AreOptions-append : (before : ℕ) (os ps : List Opt) → AreOptions before os → AreOptions (last_number before os) ps → AreOptions before (os ++ ps)
AreOptions-append before [] ps are more = more
AreOptions-append before (o ∷ os) ps are more = (are.0, are.1, are.2, AreOptions-append o.number os ps are.3 more)
