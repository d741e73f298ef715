-- When an answer arrives, and as what the proxy's own answer is sent.
use Rattle.std.proofs.Common.{◌≡◌, ℕ, ◌≤◌, Bool, true, false, cond, List, length, Option, Some, None, refl, arith}
use Rattle.coap_message.specs.Message.{Message}
use Rattle.coap_message.specs.Spelling.{IsMessage}
use Rattle.coap_message.specs.declared.code.TheConstants.Code.{GATEWAY_TIMEOUT}
use Rattle.std.specs.Prelude.{◌&&◌, not}
use Rattle.coap_forward.specs.Messages.{is_rst}
use Rattle.coap_forward.specs.Answers.{fits, validates, passed_part, is_passed_on, bad_gateway, own_answer, origin_answer, answer_if_fits, validated, gateway_timeout, answer_of, shown}
use Rattle.coap_store.specs.Renewing.{is_validated, renewed}
use Rattle.coap_model.proofs.Encodings.{own_reply-is}

-- an answer is obtained at the moment of its response
pub got-is : (most now : ℕ) (to_get : Bool) (copy : Option Message) (m : Message) → (answer_of most to_get copy now m).got ≡ now
unfolding answer_of
got-is most now to_get copy m = go (not (is_rst m.kind) && is_passed_on most to_get m) (validates to_get m) (passed_part to_get m) copy
  where
    fitting : (b : Bool) (r : Message) → (cond b (origin_answer now r) (own_answer now bad_gateway)).got ≡ now
    fitting true r = refl
    fitting false r = refl

    valid : (o : Option Message) (taken : Message) → (validated most now o taken).got ≡ now
    valid None taken = refl
    valid (Some r) taken = both (is_validated r taken)
      where
        both : (b : Bool) → (cond b (answer_if_fits most now (renewed r taken)) (own_answer now bad_gateway)).got ≡ now
        both true = fitting (fits most (renewed r taken)) (renewed r taken)
        both false = refl

    go : (p v : Bool) (taken : Message) (o : Option Message) → (cond p (cond v (validated most now o taken) (origin_answer now taken)) (own_answer now bad_gateway)).got ≡ now
    go true true taken o = valid o taken
    go true false taken o = refl
    go false v taken o = refl

-- a 5.04 as it is sent is a message
pub timeout-is : (now got id : ℕ) (token : List ℕ) (tags : List (List ℕ)) → length token ≤ 8 → IsMessage (shown now (own_answer got gateway_timeout) id token tags)
timeout-is now got id token tags short = own_reply-is GATEWAY_TIMEOUT _ id token (λ e. absurd (omega arith)) tt short
