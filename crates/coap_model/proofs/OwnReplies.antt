-- Immediate replies: they are messages, they are short, and they have the next id.
use Rattle.std.proofs.Common.{◌≡◌, ℕ, ◌≤◌, true, false, List, [], length, refl, subst, arith}
use Rattle.std.specs.Prelude.{◌||◌}
use Rattle.std.proofs.lemmas.Bool.{lt-ltb}
use Rattle.coap_message.specs.declared.kind.Kind.{Kind}
use Rattle.coap_message.specs.declared.kind.Kind.TheVariants.{Con, Non, Ack, Rst}
use Rattle.coap_message.specs.declared.code.Code.{Code}
use Rattle.coap_message.specs.Message.{Message}
use Rattle.coap_message.specs.Spelling.{IsMessage, spelling, more_length}
use Rattle.coap_message.specs.Uint.{uint_spelling}
use Rattle.coap_message.proofs.Spellings.{spelling-length}
use Rattle.coap_forward.specs.Messages.{is_con, brings_requests, own_reply, overload_reply, at_once, reply_id}
use Rattle.coap_model.specs.State.{State, has_ids, can_reply}
use Rattle.coap_model.proofs.Encodings.{length-uint_spelling}

-- the immediate form of a message is a message
pub at_once-is : (m reply : Message) → IsMessage reply → IsMessage (at_once m reply)
at_once-is m reply is = record { token = is.token; options = is.options; bare = record { token = is.bare.token; options = is.bare.options; payload = is.bare.payload } }

-- ---- lengths

-- a reply has the same length in either form
pub at_once-long : (m reply : Message) (most : ℕ) → length (spelling reply) ≤ most → length (spelling (at_once m reply)) ≤ most
at_once-long m reply most le = omega (arith, spelling-length (at_once m reply), spelling-length reply, le)

-- a reply that the proxy generates is short
pub own-short : (m : Message) (code : Code) (id : ℕ) (token : List ℕ) → length token ≤ 8 → length (spelling (at_once m (own_reply code [] id token))) ≤ 128
own-short m code id token short = omega (arith, spelling-length (at_once m (own_reply code [] id token)))

-- so is one that says when to try again
pub overload-short : (m : Message) (seconds id : ℕ) (token : List ℕ) → length token ≤ 8 → length (spelling (at_once m (overload_reply seconds id token))) ≤ 128
overload-short m seconds id token short =
    let value = length-uint_spelling seconds in
    let more : more_length (length (uint_spelling seconds)) ≡ 0 = more-none_eight (length (uint_spelling seconds)) value in
    omega (arith, spelling-length (at_once m (overload_reply seconds id token)), more, value)
  where
    more-none_eight : (n : ℕ) → n ≤ 8 → more_length n ≡ 0
    more-none_eight n le = rw (lt-ltb n 13 (omega arith)) refl

-- ---- ids

-- a reply that takes an id has the next one
pub reply-due : (m : Message) (next : ℕ) → is_con m.kind ≡ false → reply_id m next ≡ next
reply-due m next non = rw non refl

-- a Non-confirmable request takes one
pub free-one : (w : State) (now : ℕ) (kind : Kind) → can_reply w now kind ≡ true → kind ≡ Non → has_ids 1 w now ≡ true
free-one w now kind free is = subst (λ (k : Kind). (is_con k || has_ids 1 w now) ≡ true) is free

-- if no reply can be sent, no id is free, and the request is Non-confirmable
pub free-none : (w : State) (now : ℕ) (kind : Kind) → brings_requests kind ≡ true → can_reply w now kind ≡ false → (kind ≡ Non) × (has_ids 1 w now ≡ false)
free-none w now Con e free = absurd cc
free-none w now Non e free = (refl, free)
free-none w now Ack e free = absurd cc
free-none w now Rst e free = absurd cc
