-- What is sent immediately if a message is accepted: nothing, or an acknowledgement if it is
-- Confirmable.
use Rattle.std.proofs.Common.{◌≡◌, ℕ, ◌≤◌, true, false, List, length, Option, sym, subst, arith}
use Rattle.coap_message.specs.declared.kind.Kind.{Kind}
use Rattle.coap_message.specs.declared.kind.Kind.TheVariants.{Con, Non, Ack, Rst}
use Rattle.coap_message.specs.Message.{Message}
use Rattle.coap_message.specs.Spelling.{Spells}
use Rattle.coap_message.proofs.Spellings.{spelled}
use Rattle.coap_endpoint.specs.declared.endpoint.Endpoint.{Endpoint}
use Rattle.coap_forward.specs.Messages.{is_con, acknowledgement}
use Rattle.coap_model.specs.History.{Observation}
use Rattle.coap_model.specs.Justified.{Tells, IsSilent, Accepts}
use Rattle.coap_model.proofs.Rules.{IsTakenUp, silently, with_acknowledgement}
use Rattle.coap_model.proofs.Encodings.{acknowledgement-is, acknowledgement-short}

-- for a message that isn't Confirmable, nothing is sent immediately
pub silent-up : (k : Kind) (source : Endpoint) (id : ℕ) (e : Observation) → is_con k ≡ false → IsSilent e → Accepts k source id e
silent-up Con source id e other silent = absurd cc
silent-up Non source id e other silent = silent
silent-up Ack source id e other silent = silent
silent-up Rst source id e other silent = silent

-- a Confirmable message is acknowledged
pub told-up : (k : Kind) (source : Endpoint) (id : ℕ) (e : Observation) → is_con k ≡ true → Tells source (acknowledgement id) e → Accepts k source id e
told-up Con source id e con tells = tells
told-up Non source id e con tells = absurd cc
told-up Ack source id e con tells = absurd cc
told-up Rst source id e con tells = absurd cc

-- a message that is accepted is accepted according to the history
pub taken-up : (client : Endpoint) (m : Message) (send : Option Endpoint) (told : List ℕ) (e : Observation) → e.report.send ≡ send → e.bytes ≡ told → IsTakenUp client m send told → Accepts m.kind client m.id e
taken-up client m _ _ e to is (silently other) = silent-up m.kind client m.id e other (record { sent = to; bytes = is })
taken-up client m _ _ e to is (with_acknowledgement con) = told-up m.kind client m.id e con (record { sent = to; spells = subst (λ (b : List ℕ). Spells b (acknowledgement m.id)) (sym is) (spelled (acknowledgement m.id) (acknowledgement-is m.id)) })

-- and what is sent then is short
pub taken-short : (client : Endpoint) (m : Message) (send : Option Endpoint) (told : List ℕ) → IsTakenUp client m send told → (most : ℕ) → 128 ≤ most → length told ≤ most
taken-short client m _ _ (silently other) most wide = omega arith
taken-short client m _ _ (with_acknowledgement con) most wide = omega (arith, wide, acknowledgement-short m.id)
