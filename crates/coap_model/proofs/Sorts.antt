-- A message is of only one sort: a request, an answer, or an Empty acknowledgement.
use Rattle.std.proofs.Common.{◌≡◌, ◌⊎◌, inl, inr, ⊎_elim, ℕ, ◌/◌, ◌==◌, ◌&&◌, ◌||◌, Bool, true, false, not, nat_le, List, refl, sym, ap, ◌∙◌, arith}
use Rattle.std.proofs.lemmas.Bool.{and_parts, eqb-true, leb-true}
use Rattle.coap_message.specs.declared.code.Code.{Code}
use Rattle.coap_message.specs.declared.code.TheConstants.Code.{EMPTY}
use Rattle.coap_message.specs.declared.kind.Kind.{Kind}
use Rattle.coap_message.specs.declared.kind.Kind.TheVariants.{Con, Non, Ack, Rst}
use Rattle.coap_message.specs.Codes.{is_request, is_response}
use Rattle.coap_message.specs.Message.{Message}
use Rattle.coap_forward.specs.Messages.{is_con, brings_requests, is_recorded}
use Rattle.coap_model.specs.History.{Matches, in_acknowledgement, separate, by_reset}

-- ---- codes

-- the code of a request isn't a response code
request-no-response : {A : Type 0} (code : Code) → is_request code ≡ true → is_response code ≡ true → A
request-no-response code request response =
    absurd (let zero = eqb-true (code.0 / 32) 0 (and_parts (code.0 / 32 == 0) (not (code.0 == 0)) request).0 in let two = leb-true 2 (code.0 / 32) (and_parts (nat_le 2 (code.0 / 32)) (nat_le (code.0 / 32) 5) response).0 in omega (arith, zero, two))

-- nor is 0.00
empty-no-response : {A : Type 0} (code : Code) → code ≡ EMPTY → is_response code ≡ true → A
empty-no-response code empty response = absurd (let e : true ≡ false = sym response ∙ ap is_response empty in cc)

-- ---- types

-- what is Confirmable is of that type
pub con-so : (k : Kind) → is_con k ≡ true → k ≡ Con
con-so Con e = refl
con-so Non e = absurd cc
con-so Ack e = absurd cc
con-so Rst e = absurd cc

-- a Reset brings no request
reset-no-request : {A : Type 0} {k : Kind} → k ≡ Rst → brings_requests k ≡ true → A
reset-no-request reset request = absurd (let e : true ≡ false = sym request ∙ ap brings_requests reset in cc)

-- nor does an acknowledgement
pub ack-no-request : {A : Type 0} {k : Kind} → k ≡ Ack → brings_requests k ≡ true → A
ack-no-request ack request = absurd (let e : true ≡ false = sym request ∙ ap brings_requests ack in cc)

-- ---- messages

-- an answer isn't a request
pub answer-no-request : {A : Type 0} {token : List ℕ} {id : ℕ} (m : Message) → Matches token id m → brings_requests m.kind ≡ true → is_request m.code ≡ true → A
answer-no-request m (in_acknowledgement kind code same with_id) request method = request-no-response m.code method code
answer-no-request m (separate kind code same) request method = request-no-response m.code method code
answer-no-request m (by_reset kind code with_id) request method = reset-no-request kind request

-- nor an Empty acknowledgement
pub answer-no-ack : {A : Type 0} {token : List ℕ} {id : ℕ} (m : Message) → Matches token id m → m.kind ≡ Ack → m.code ≡ EMPTY → A
answer-no-ack m (in_acknowledgement kind code same with_id) ack empty = empty-no-response m.code empty code
answer-no-ack m (separate kind code same) ack empty = empty-no-response m.code empty code
answer-no-ack m (by_reset kind code with_id) ack empty = absurd (let e = sym kind ∙ ack in cc)

-- a message that is remembered is a request, or a Confirmable response
pub recorded-sorts : (m : Message) → is_recorded m ≡ true → ((brings_requests m.kind ≡ true) × (is_request m.code ≡ true)) ⊎ ((m.kind ≡ Con) × (is_response m.code ≡ true))
recorded-sorts m e = go (brings_requests m.kind && is_request m.code) refl e
  where
    go : (b : Bool) → (brings_requests m.kind && is_request m.code) ≡ b → (b || (is_con m.kind && is_response m.code)) ≡ true → ((brings_requests m.kind ≡ true) × (is_request m.code ≡ true)) ⊎ ((m.kind ≡ Con) × (is_response m.code ≡ true))
    go true request h = inl (and_parts (brings_requests m.kind) (is_request m.code) request)
    go false none h = let parts = and_parts (is_con m.kind) (is_response m.code) h in inr (con-so m.kind parts.0, parts.1)

-- it is Confirmable or Non-confirmable
pub recorded-kind : (m : Message) → is_recorded m ≡ true → brings_requests m.kind ≡ true
recorded-kind m e = ⊎_elim (λ request. request.0) (λ response. ap brings_requests response.0) (recorded-sorts m e)

-- an answer that is remembered is Confirmable
pub answer-recorded : {token : List ℕ} {id : ℕ} (m : Message) → Matches token id m → is_recorded m ≡ true → m.kind ≡ Con
answer-recorded m matches e = ⊎_elim (λ request. answer-no-request m matches request.0 request.1) (λ response. response.0) (recorded-sorts m e)

-- an acknowledgement or a Reset brings no request
pub empty-no-request : {A : Type 0} {k : Kind} → (k ≡ Ack) ⊎ (k ≡ Rst) → brings_requests k ≡ true → A
empty-no-request kind request = ⊎_elim (λ (ack : _ ≡ Ack). ack-no-request ack request) (λ (reset : _ ≡ Rst). reset-no-request reset request) kind

-- an answer that is a bare acknowledgement or Reset is a Reset
pub answer-reset : {token : List ℕ} {id : ℕ} (m : Message) → Matches token id m → (m.kind ≡ Ack) ⊎ (m.kind ≡ Rst) → m.code ≡ EMPTY → m.kind ≡ Rst
answer-reset m matches kind empty = ⊎_elim (λ (ack : m.kind ≡ Ack). answer-no-ack m matches ack empty) (λ (reset : m.kind ≡ Rst). reset) kind

-- an answer has the token of its request, or it is a Reset
pub token-or-reset : {token : List ℕ} {id : ℕ} (m : Message) → Matches token id m → (m.token ≡ token) ⊎ (m.kind ≡ Rst)
token-or-reset m (in_acknowledgement kind code same with_id) = inl same
token-or-reset m (separate kind code same) = inl same
token-or-reset m (by_reset kind code with_id) = inr kind

-- a Reset has the id of its request
pub reset-id : {token : List ℕ} {id : ℕ} (m : Message) → Matches token id m → m.kind ≡ Rst → m.id ≡ id
reset-id m (in_acknowledgement kind code same with_id) reset = absurd (let e = sym kind ∙ reset in cc)
reset-id m (separate kind code same) reset = reset-no-request reset kind
reset-id m (by_reset kind code with_id) reset = with_id
