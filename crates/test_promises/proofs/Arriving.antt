-- What arrives for a request, and what is fetched by it.
use Rattle.std.proofs.Common.{◌≡◌, ℕ, ◌≤◌, true, List, length, sym, ap, ◌∙◌}
use Rattle.coap_message.specs.declared.kind.Kind.TheVariants.{Ack}
use Rattle.coap_message.specs.Codes.{is_response}
use Rattle.coap_message.specs.Message.{Message}
use Rattle.coap_message.specs.Spelling.{Spells}
use Rattle.coap_message.specs.Uint.{IsBytes}
use Rattle.coap_endpoint.specs.declared.endpoint.Endpoint.{Endpoint}
use Rattle.coap_limits.specs.Limits.{Limits}
use Rattle.coap_store.specs.declared.key.CacheKey.{CacheKey}
use Rattle.coap_forward.specs.Answers.{is_passed_on}
use Rattle.coap_forward.specs.Messages.{token_of}
use Rattle.coap_model.specs.Cached.{IsFetched}
use Rattle.coap_model.specs.Changed.{key_asked, to_get, Unchanged}
use Rattle.coap_model.specs.Events.{arrival}
use Rattle.coap_model.specs.Examples.{origin}
use Rattle.coap_model.specs.History.{Asks, Action, Gets, IsPositionOf, Position, in_acknowledgement, moves, accepts_answer}
use Rattle.coap_model.specs.WordExamples.{setting_with}
use Rattle.coap_model.proofs.Positions.{here}

-- a piggybacked response of the origin server to the request of an exchange arrives
abbrev pub gets-by : (limits : Limits) (past : List Action) (d : Action) (x : ℕ) (bytes : List ℕ) (m : Message) (asking : Position) → d.act ≡ moves x → accepts_answer d.observation.report.outcome ≡ true → d.observation.event ≡ arrival origin bytes → IsPositionOf past asking → (asks : Asks 0 x asking) → asks.sends.to ≡ origin → asks.sends.message.id ≡ m.id
    → m.kind ≡ Ack → is_response m.code ≡ true → m.token ≡ token_of 0 x → IsBytes bytes → Spells bytes m → length bytes ≤ limits.datagram → Gets (setting_with limits) x (here past d)
gets-by limits past d x bytes m asking act accepts_answer came was asks to id kind code token are spells short = record {
  act = act;
  outcome = accepts_answer;
  meets = record {
    asking = asking;
    was_asked = was;
    asks = asks;
    message = m;
    brings = record { bytes = bytes; came = came ∙ ap (λ (e : Endpoint). arrival e bytes) (sym to); spells = spells; short = short };
    matches = in_acknowledgement kind code token (sym id);
  };
  bytes = are;
}

-- it was fetched for a key if the request was a GET with the key, if it may be passed on, and if the
-- target is unchanged
abbrev pub fetched-by : (limits : Limits) (key : CacheKey) {x : ℕ} {getting : Position} (gets : Gets (setting_with limits) x getting) (asking : Position) → gets.meets.asking ≡ asking → to_get gets ≡ true → key_asked gets ≡ key → is_passed_on limits.datagram true gets.meets.message ≡ true → Unchanged (setting_with limits) key.target asking getting.before → IsFetched (setting_with limits) key asking getting
fetched-by limits key {x} {getting} gets asking is get asked passed unchanged = record { exchange = x; gets = gets; asking_is = is; method = get; asked_key = asked; passed = passed; unchanged = unchanged }
