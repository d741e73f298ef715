-- An Empty message is meant for only one request or answer, since ids aren't reused too soon.
use Rattle.std.proofs.Common.{◌≡◌, ⊎_elim, ℕ, ◌+◌, ◌<◌, ◌≤◌, List, sym, ap, ◌∙◌, subst, arith}
use Rattle.std.proofs.lemmas.Bool.{cases_lt}
use Rattle.coap_message.specs.Message.{Message}
use Rattle.coap_endpoint.specs.declared.endpoint.Endpoint.{Endpoint}
use Rattle.coap_model.specs.Setting.{Setting}
use Rattle.coap_model.specs.Events.{Event}
use Rattle.coap_model.specs.History.{Act, Action, Position, IsPositionOf, IsInOrder, last_of, ids_given, comes_con, Brings, Sends, Gives}
use Rattle.coap_model.specs.Justified.{Closes, IsMeant, to_acknowledge, to_reset, to_close}
use Rattle.coap_model.specs.MessageIds.{IdsDiffer}
use Rattle.coap_model.proofs.Positions.{one-brought}
use Rattle.coap_model.proofs.Moments.{not-later}
use Rattle.coap_model.proofs.Sorts.{reset-id}

-- a request that was sent gave out its id
sent-gives : {salt x id : ℕ} {p : Position} (s : Sends salt x p) → id ≡ s.message.id → Gives id p.action.observation
sent-gives {p = p} s id = record { gives = ap (ids_given (comes_con p.action.observation.event)) s.outcome; message = s.message; spells = s.spells; id_is = sym id }

-- and so did an answer that was sent to a waiter
served-gives : {setting : Setting} {past : List Action} {now v id : ℕ} {event : Event} (k : Closes setting past now v event) → id ≡ k.answer.id → Gives id k.serving.action.observation
served-gives k id = record { gives = ap (ids_given (comes_con k.serving.action.observation.event)) k.serves.outcome; message = k.answer; spells = k.spells; id_is = sym id }

-- what a message is meant for was sent at a position that gave out its id, not too long ago
record IsMeantFor (setting : Setting) (past : List Action) (now : ℕ) (event : Event) (act : Act) : Type 0 where
  pub source : Endpoint
  pub message : Message
  pub brings : Brings setting.limits.datagram source message event
  pub position : Position
  pub is_there : IsPositionOf past position
  pub act_is : position.action.act ≡ act
  pub gives : Gives message.id position.action.observation
  pub soon : now < position.action.observation.now + 247000

meant-for : {setting : Setting} {past : List Action} {now : ℕ} {event : Event} {act : Act} → IsMeant setting past now event act → IsMeantFor setting past now event act
meant-for (to_acknowledge x act k) =
    record {
      source = k.asks.sends.to;
      message = k.message;
      brings = k.brings;
      position = k.asking;
      is_there = k.was_asked;
      act_is = k.asks.sends.act ∙ sym act;
      gives = sent-gives k.asks.sends k.id_is;
      soon = k.unsettled.soon;
    }
meant-for (to_reset x k act reset) =
    record {
      source = k.meets.asks.sends.to;
      message = k.meets.message;
      brings = k.meets.brings;
      position = k.meets.asking;
      is_there = k.meets.was_asked;
      act_is = k.meets.asks.sends.act ∙ sym act;
      gives = sent-gives k.meets.asks.sends (reset-id k.meets.message k.meets.matches reset);
      soon = (k.unsettled reset).soon;
    }
meant-for (to_close v act k) =
    record {
      source = k.to;
      message = k.message;
      brings = k.brings;
      position = k.serving;
      is_there = k.was_served;
      act_is = k.serves.act ∙ sym act;
      gives = served-gives k k.id_is;
      soon = k.soon;
    }

-- an event is meant for only one act
pub one-meant : (setting : Setting) (past : List Action) (now : ℕ) (event : Event) (a b : Act) → IdsDiffer past → IsInOrder past → last_of past ≤ now → IsMeant setting past now event a → IsMeant setting past now event b → a ≡ b
one-meant setting past now event a b differ ordered onward j k = sym p.act_is ∙ ap (λ (r : Position). r.action.act) position ∙ q.act_is
  where
    p : IsMeantFor setting past now event a
    p = meant-for j

    q : IsMeantFor setting past now event b
    q = meant-for k

    gives_p : Gives q.message.id p.position.action.observation
    gives_p = subst (λ (m : Message). Gives m.id p.position.action.observation) (one-brought p.brings q.brings).1 p.gives

    p_now : p.position.action.observation.now ≤ last_of past
    p_now = not-later past p.position ordered p.is_there

    q_now : q.position.action.observation.now ≤ last_of past
    q_now = not-later past q.position ordered q.is_there

    position : p.position ≡ q.position
    position =
        ⊎_elim
        (λ (earlier : p.position.action.observation.now < q.position.action.observation.now). differ p.position q.position q.message.id p.is_there q.is_there gives_p q.gives (omega (arith, earlier)) (let soon = p.soon in omega (arith, soon, q_now, onward)))
        (λ (later : q.position.action.observation.now ≤ p.position.action.observation.now). sym (differ q.position p.position q.message.id q.is_there p.is_there q.gives gives_p later (let soon = q.soon in omega (arith, soon, p_now, onward))))
        (cases_lt p.position.action.observation.now q.position.action.observation.now)
