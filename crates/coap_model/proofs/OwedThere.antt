-- What is owed at a position of a history.
use Rattle.std.proofs.Common.{◌≡◌, ⊎_elim, List, [], ◌∷◌, Option, Some, None, refl, subst}
use Rattle.coap_message.specs.Message.{Message}
use Rattle.coap_endpoint.specs.declared.endpoint.Endpoint.{Endpoint}
use Rattle.coap_dedup.specs.declared.record.Record.{Record}
use Rattle.coap_model.specs.declared.report.Outcome.TheVariants.{Again}
use Rattle.coap_model.specs.Setting.{Setting}
use Rattle.coap_model.specs.Duplicates.{Repeats}
use Rattle.coap_model.specs.History.{Action, Position, IsPositionOf}
use Rattle.coap_model.specs.Justified.{known_of, Comes, IsOwed, AllOwed}
use Rattle.coap_model.proofs.Sorts.{recorded-kind}
use Rattle.coap_model.proofs.Duplicates.{position-known}

-- at each position it was done
pub owed-at : (setting : Setting) (history : List Action) (p : Position) → AllOwed setting history → IsPositionOf history p → IsOwed setting p.before p.action
owed-at setting [] p all at = absurd at
owed-at setting (d ∷ past) p all at =
    ⊎_elim
    (λ (same : record { before = past; action = d } ≡ p). subst (λ (q : Position). IsOwed setting q.before q.action) same all.0)
    (λ (there : IsPositionOf past p). owed-at setting past p all.1 there)
    at

-- a message that repeats a position is handled as a duplicate
pub again-there : (setting : Setting) (p former : Position) (source : Endpoint) (m : Message) → IsOwed setting p.before p.action → Comes setting source m p.action.observation.event → IsPositionOf p.before former → Repeats p.action.observation.now source m former → p.action.observation.report.outcome ≡ Again
again-there setting p former source m owed comes at repeats = go (known_of p.before p.action.observation.now source m) refl
  where
    go : (o : Option Record) → known_of p.before p.action.observation.now source m ≡ o → p.action.observation.report.outcome ≡ Again
    go None e = absurd (position-known p.before p.action.observation.now source m former (recorded-kind m comes.recorded) at repeats e)
    go (Some known) e = owed.again source m known comes e
