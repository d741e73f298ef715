-- What a message is (RFC 7252, 3).
use Rattle.std.specs.Prelude.{◌≡◌, ℕ, List, []}
use Rattle.coap_message.specs.declared.kind.Kind.{Kind}
use Rattle.coap_message.specs.declared.code.Code.{Code}
use Rattle.coap_message.specs.declared.message.Head.{Head}
use Rattle.coap_message.specs.declared.options.Opt.{Opt}

pub record Message : Type 0 where
  pub kind : Kind
  pub code : Code
  pub id : ℕ
  pub token : List ℕ
  pub options : List Opt
  pub payload : List ℕ

-- the message with these parts
abbrev pub message_of : Head → List ℕ → List Opt → List ℕ → Message
message_of head token options payload =
    record {
      kind = head.kind;
      code = head.code;
      id = head.id;
      token = token;
      options = options;
      payload = payload;
    }

-- an Empty message, with code 0.00, has nothing after its id (RFC 7252, 4.1)
pub record IsBareIfEmpty (m : Message) : Type 0 where
  pub token : m.code.0 ≡ 0 → m.token ≡ []
  pub options : m.code.0 ≡ 0 → m.options ≡ []
  pub payload : m.code.0 ≡ 0 → m.payload ≡ []
