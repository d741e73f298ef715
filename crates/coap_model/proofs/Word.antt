-- A proxy keeps its promise: the promise in short, at each position of a history.
use Rattle.std.proofs.Common.{◌≡◌, inl, inr, ℕ, List, [], ◌∷◌, Option, Some, subst}
use Rattle.coap_message.specs.Message.{Message}
use Rattle.coap_endpoint.specs.declared.endpoint.Endpoint.{Endpoint}
use Rattle.coap_target.specs.Routes.{AreRoutes}
use Rattle.coap_store.proofs.Distinct.{of_key-key}
use Rattle.coap_forward.specs.Messages.{kept_reply}
use Rattle.coap_model.specs.declared.report.Outcome.{Outcome}
use Rattle.coap_model.specs.declared.report.Outcome.TheVariants.{Again, Hit}
use Rattle.coap_model.specs.Setting.{Setting}
use Rattle.coap_model.specs.State.{State}
use Rattle.coap_model.specs.History.{Observation, Action, Position, IsPositionOf, IsInOrder}
use Rattle.coap_model.specs.Cached.{Cached, cached_key, IsCacheOf}
use Rattle.coap_model.specs.Duplicates.{Repeats}
use Rattle.coap_model.specs.Justified.{known_of, Comes, SaysAgain, IsRepetition, IsHit, JustifiedBy, AllJustified}
use Rattle.coap_model.specs.Carries.{Carries}
use Rattle.coap_model.specs.Runs.{Taken, turns_of, AreTurns, new_run, run_of}
use Rattle.coap_model.specs.Word.{until, IsCacheWithin, IsFromCache, IsRepliedAgain, KeepsItsWord}
use Rattle.coap_model.proofs.BySize.{all-owed}
use Rattle.coap_model.proofs.Cached.{cache-before}
use Rattle.coap_model.proofs.AllCases.{starts}
use Rattle.coap_model.proofs.GivenIds.{ids-differ}
use Rattle.coap_model.proofs.ObtainedResponses.{found-obtained}
use Rattle.coap_model.proofs.OwedThere.{owed-at, again-there}
use Rattle.coap_model.proofs.Positions.{one-brought, justified-at}
use Rattle.coap_model.proofs.Repeats.{told-there}
use Rattle.coap_model.proofs.Runs.{runs_carry}
use Rattle.coap_model.proofs.Stages.{all-before}
use Rattle.coap_model.proofs.Stores.{cache-few, store-within}
use Rattle.coap_model.proofs.Within.{upto-justified, upto-ordered, within-at}

-- ---- each position

-- a hit is a reply from the cache
from-cache : (setting : Setting) (p : Position) → AreRoutes setting.routes → AllJustified setting p.before → IsHit setting p.before p.action → IsFromCache setting p.before p.action.observation
from-cache setting p routes all hit =
    record {
      client = hit.client;
      request = hit.request;
      key = hit.key;
      asked = hit.asked;
      method = hit.method;
      key_is = hit.verdict;
      cached = hit.entry;
      equal_key = of_key-key cached_key hit.key hit.cached hit.entry hit.found;
      received = found-obtained setting p.before hit.cached hit.key hit.entry routes all hit.is_cache hit.found;
      usable = hit.usable;
      id = hit.id;
      shows = hit.tells;
    }

-- a message that repeats a position gets what was sent there
again-at : (setting : Setting) (p former : Position) (source : Endpoint) (m : Message) → AllJustified setting (until p) → IsInOrder (until p) → p.action.observation.report.outcome ≡ Again → IsPositionOf p.before former → Comes setting source m p.action.observation.event → Repeats p.action.observation.now source m former
    → IsRepliedAgain source m former p.action.observation
again-at setting p former source m all ordered is at comes repeats =
    let j : IsRepetition setting p.before p.action = subst (λ (o : Outcome). JustifiedBy o setting p.before p.action) is all.0 in
    let same = one-brought j.comes.brings comes.brings in
    let found = subst (λ (e : Endpoint). known_of p.before p.action.observation.now e m ≡ Some j.known) same.0 (subst (λ (n : Message). known_of p.before p.action.observation.now j.source n ≡ Some j.known) same.1 j.found) in
    let reply = told-there setting p.before p.action.observation.now source m all.1 ordered.1 ordered.0 former j.known at repeats found in
    record {
      outcome = is;
      again = subst (λ (e : Endpoint). SaysAgain e (kept_reply m.kind former.action.observation.bytes) p.action.observation) same.0 (subst (λ (r : Option (List ℕ)). SaysAgain j.source r p.action.observation) reply j.says_again);
    }

-- a history that has a cache had one at each position, which was within its limits
cache-at : (setting : Setting) (history : List Action) (cached : List Cached) (p : Position) → IsCacheOf setting history cached → IsPositionOf history p → IsCacheWithin setting (until p)
cache-at setting [] cached p c at = absurd at
cache-at setting (d ∷ past) cached p c (inl here) =
    let few = cache-few setting (d ∷ past) cached c in
    subst (λ (q : Position). IsCacheWithin setting (until q)) here (record { cached = cached; is_cache = c; entries = few.0; bytes = few.1 })
cache-at setting (d ∷ past) cached p c (inr there) =
    let before = cache-before c in
    cache-at setting past before.0 p before.1 there

-- ---- the promise is kept

-- a proxy keeps its promise for any history that it carries
pub keeps-word : (history : List Observation) (w : State) → Carries history w → KeepsItsWord history w
keeps-word history w c =
    let setting = w.setting in
    let upto = λ (p : Position) (at : IsPositionOf c.actions p). upto-justified setting c.actions p c.bears.past at in
    let ordered = λ (p : Position) (at : IsPositionOf c.actions p). upto-ordered c.actions p c.bears.clock.in_order at in
    record {
      actions = c.actions;
      told = c.told;
      justified = c.bears.past;
      store = c.bears.store;
      entries = (store-within w.setting c.actions w.store c.bears.store).within_entries;
      cached_bytes = (store-within w.setting c.actions w.store c.bears.store).within_bytes;
      within = λ p at. within-at setting p (upto p at) (ordered p at) (cache-at setting c.actions c.bears.store.cached p c.bears.store.is_cache at);
      ids = ids-differ w.setting.first_id c.actions c.bears.ids.are_ids c.bears.ids.windows c.bears.clock.in_order;
      from_cache = λ p at is. from-cache setting p c.bears.routes (all-before setting c.actions p c.bears.past at) (justified-at setting c.actions p Hit c.bears.past at is);
      duplicates = λ p former source m at before comes repeats.
          again-at setting p former source m (upto p at) (ordered p at)
          (again-there setting p former source m (owed-at setting c.actions p (all-owed setting c.actions c.bears.past) at) comes before repeats)
          before comes repeats;
    }

-- and so does a new one, whatever happens
pub runs-keep-word : (setting : Setting) (turns : List Taken) → AreRoutes setting.routes → AreTurns 0 (turns_of turns) → KeepsItsWord (run_of (new_run setting) turns).history (run_of (new_run setting) turns).state
runs-keep-word setting turns routes are = keeps-word _ _ (runs_carry (new_run setting) turns (starts setting routes) are)
