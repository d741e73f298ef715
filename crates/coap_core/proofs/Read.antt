-- A datagram in which a message is read: its head is that of the message.
use Rattle.std.proofs.Common.{◌≡◌, ℕ, leb, cond, Bool, true, false, List, length, Some, None, Result, Ok, Err, refl, ◌∙◌}
use Rattle.std.proofs.lemmas.Bool.{eqb-true}
use Rattle.std.specs.Result.{result_ok}
use Rattle.std.proofs.lemmas.Option.{same_Some}
use Rattle.coap_message.specs.declared.error.DecodeError.{DecodeError}
use Rattle.coap_message.specs.declared.code.Code.{Code}
use Rattle.coap_message.specs.Codes.{is_request, is_response}
use Rattle.coap_message.specs.Message.{Message}
use Rattle.coap_message.specs.Reading.{read_message, head_at}
use Rattle.coap_message.proofs.WholeMessages.{head_read}
use Rattle.coap_endpoint.specs.declared.endpoint.Endpoint.{Endpoint}
use Rattle.coap_forward.specs.Messages.{is_empty}
use Rattle.coap_model.specs.Step.{message_in, on_message, on_datagram}
use Rattle.coap_model.specs.State.{State}

-- a message that is read has its own head
head-of_read : (most : ℕ) (bytes : List ℕ) (m : Message) → message_in most bytes ≡ Some m → head_at bytes ≡ Some (record { kind = m.kind; code = m.code; id = m.id })
unfolding message_in
head-of_read most bytes m e = go (leb (length bytes) most) (read_message bytes) refl e
  where
    again : (n : Message) → n ≡ m → ◌≡◌ {A = Result Message DecodeError} (Ok n) (Ok m)
    again n same = cc

    go : (short : Bool) (read : Result Message DecodeError) → read_message bytes ≡ read → cond short (result_ok read) None ≡ Some m → head_at bytes ≡ Some (record { kind = m.kind; code = m.code; id = m.id })
    go true (Ok n) is f = head_read bytes m (is ∙ again n (same_Some _ _ f))
    go true (Err refused) is f = absurd cc
    go false read is f = absurd cc

-- the step of a message that is read
pub on_read-message : (w : State) (now : ℕ) (grown : Bool) (source : Endpoint) (bytes : List ℕ) (m : Message) → message_in w.setting.limits.datagram bytes ≡ Some m → on_datagram w now grown source bytes ≡ on_message w now grown source m
on_read-message w now grown source bytes m e = rw (head-of_read w.setting.limits.datagram bytes m e, e) refl

-- an Empty message is neither a request nor a response
pub no_request : (code : Code) → is_empty code ≡ true → is_request code ≡ false
no_request code e = let zero : code.0 ≡ 0 = eqb-true code.0 0 e in rw zero refl

pub no_response : (code : Code) → is_empty code ≡ true → is_response code ≡ false
no_response code e = let zero : code.0 ≡ 0 = eqb-true code.0 0 e in rw zero refl
