-- Whole messages: the bytes that are read as a message spell it, and the bytes that spell a message are
-- read as it.
use Rattle.std.proofs.Common.{◌≡◌, ℕ, zero, suc, ◌+◌, ◌*◌, ◌/◌, ◌%◌, ◌<◌, ◌≤◌, Bool, true, false, cond, eqb, ltb, List, [], ◌∷◌, ◌++◌, length, take, drop, Option, Some, None, Result, Ok, Err, refl, sym, ap, subst, ◌∙◌, arith}
use Rattle.std.specs.Prelude.{option_map, ◌||◌}
use Rattle.std.proofs.lemmas.Bool.{eqb-true, eq-eqb, ltb-false, le-ltb, or_parts}
use Rattle.std.proofs.lemmas.List.{take-append-drop, length-append, length-take, take_at, drop_at}
use Rattle.std.proofs.lemmas.Option.{same_Some}
use Rattle.coap_message.specs.declared.kind.Kind.{Kind}
use Rattle.coap_message.specs.declared.kind.Kind.TheVariants.{Con, Non, Ack, Rst}
use Rattle.coap_message.specs.declared.error.DecodeError.{DecodeError}
use Rattle.coap_message.specs.declared.error.DecodeError.TheVariants as errors
use Rattle.coap_message.specs.declared.message.Head.{Head}
use Rattle.coap_message.specs.declared.options.Opt.{Opt}
use Rattle.coap_message.specs.Kind.{kind_number, kind_of}
use Rattle.coap_message.specs.Options.{AreOptions}
use Rattle.coap_message.specs.Message.{Message, message_of}
use Rattle.coap_message.specs.Uint.{IsBytes}
use Rattle.coap_message.specs.Spelling.{SpellsOptions, SpellsPayload, header, Spells}
use Rattle.coap_message.specs.Reading.{Body, options_at, body_at, body_behind, head_from, with_header, read_message, head_at}
use Rattle.coap_message.proofs.Extensions.{IsBytes-right}
use Rattle.coap_message.proofs.ManyOptions.{mapped_is, options_is, options_again}

-- ---- what stands after the header

-- what the body takes: all the bytes
pub record TakesBody (bytes : List ℕ) (body : Body) : Type 0 where
  pub options : List ℕ
  pub payload : List ℕ
  pub parts : bytes ≡ body.token ++ (options ++ payload)
  pub token : length body.token ≤ 8
  pub options_are : SpellsOptions 0 options body.options
  pub payload_is : SpellsPayload payload body.payload
  pub are : AreOptions 0 body.options

-- a body by the length of its token and by what is found after it
abbrev body_of : ℕ → List ℕ → List Opt × List ℕ → Body
body_of n bytes found = record { token = take n bytes; options = found.0; payload = found.1 }

-- a test that was passed
passed : {A : Type 0} (t : Bool) (o : Option A) (y : A) → cond t None o ≡ Some y → (t ≡ false) × (o ≡ Some y)
passed true o y e = absurd cc
passed false o y e = (refl, e)

-- the body that is read takes all the bytes
body_is : (n : ℕ) (bytes : List ℕ) (body : Body) → IsBytes bytes → body_at n bytes ≡ Some body → TakesBody bytes body × (length body.token ≡ n)
unfolding body_at
body_is n bytes body fits e =
    let g = passed (ltb 8 n || ltb (length bytes) n) (option_map (body_of n bytes) (options_at 0 (drop n bytes))) body e in
    let tests = or_parts (ltb 8 n) (ltb (length bytes) n) g.0 in
    let small : n ≤ 8 = ltb-false _ _ tests.0 in
    let long : n ≤ length bytes = ltb-false _ _ tests.1 in
    let m = mapped_is (body_of n bytes) (options_at 0 (drop n bytes)) body g.1 in
    let t = options_is (length (drop n bytes)) 0 (drop n bytes) m.0 (omega arith) m.1 in
    let behind : IsBytes (drop n bytes) = IsBytes-right (take n bytes) (drop n bytes) (subst IsBytes (sym (take-append-drop n bytes)) fits) in
    let token : length (take n bytes) ≡ n = omega (arith, length-take n bytes) in
    subst (λ (b : Body). TakesBody bytes b × (length b.token ≡ n)) m.2 (
      record {
        options = t.options;
        payload = t.rest;
        parts = sym (take-append-drop n bytes) ∙ ap (λ (l : List ℕ). take n bytes ++ l) t.parts;
        token = omega arith;
        options_are = t.options_are behind;
        payload_is = t.payload_are;
        are = t.are behind;
      },
      token,
    )

-- a body that is spelled so is read
body_again : (token options payload : List ℕ) (os : List Opt) (text : List ℕ) → length token ≤ 8 → AreOptions 0 os → SpellsOptions 0 options os → SpellsPayload payload text
    → body_at (length token) (token ++ (options ++ payload)) ≡ Some (record { token = token; options = os; payload = text })
unfolding body_at
body_again token options payload os text small are s p =
    let low : ltb 8 (length token) ≡ false = le-ltb _ _ small in
    let long : ltb (length (token ++ (options ++ payload))) (length token) ≡ false = le-ltb _ _ (omega (arith, length-append token (options ++ payload))) in
    rw (low, long, drop_at token (options ++ payload) (length token) refl, options_again 0 options os payload text are s p, take_at token (options ++ payload) (length token) refl) refl

-- with the code: an Empty message has nothing in it
pub record Behind (code : ℕ) (bytes : List ℕ) (body : Body) : Type 0 where
  pub takes : TakesBody bytes body
  pub token : code ≡ 0 → body.token ≡ []
  pub options : code ≡ 0 → body.options ≡ []
  pub payload : code ≡ 0 → body.payload ≡ []

-- what is read after a code is spelled so
behind_is : (code n : ℕ) (bytes : List ℕ) (body : Body) → IsBytes bytes → body_behind code n bytes ≡ Some body → Behind code bytes body × (length body.token ≡ n)
behind_is zero zero [] body fits e =
    subst (λ (b : Body). Behind 0 [] b × (length b.token ≡ 0)) (same_Some _ body e) (
      record {
        takes = record { options = []; payload = []; parts = refl; token = omega arith; options_are = refl; payload_is = refl; are = tt };
        token = λ _. refl;
        options = λ _. refl;
        payload = λ _. refl;
      },
      refl,
    )
behind_is zero zero (b ∷ bytes) body fits e = absurd cc
behind_is zero (suc n) bytes body fits e = absurd cc
behind_is (suc code) n bytes body fits e =
    let b = body_is n bytes body fits e in
    (record { takes = b.0; token = λ z. absurd (omega arith); options = λ z. absurd (omega arith); payload = λ z. absurd (omega arith) }, b.1)

-- and what is spelled so is read
behind_again : (code : ℕ) (token options payload : List ℕ) (os : List Opt) (text : List ℕ) → length token ≤ 8 → AreOptions 0 os → SpellsOptions 0 options os → SpellsPayload payload text
    → (code ≡ 0 → token ≡ []) → (code ≡ 0 → os ≡ []) → (code ≡ 0 → text ≡ [])
    → body_behind code (length token) (token ++ (options ++ payload)) ≡ Some (record { token = token; options = os; payload = text })
behind_again zero token options payload os text small are s p bare_token bare_options bare_payload =
    let no_options : options ≡ [] = subst (SpellsOptions 0 options) (bare_options refl) s in
    let no_payload : payload ≡ [] = subst (SpellsPayload payload) (bare_payload refl) p in
    rw (bare_token refl, bare_options refl, bare_payload refl, no_options, no_payload) refl
behind_again (suc code) token options payload os text small are s p bare_token bare_options bare_payload = body_again token options payload os text small are s p

-- ---- the header

-- two bits are those of their type
number-of_kind : (k : ℕ) → k < 4 → kind_number (kind_of k) ≡ k
number-of_kind zero lt = refl
number-of_kind (suc zero) lt = refl
number-of_kind (suc (suc zero)) lt = refl
number-of_kind (suc (suc (suc zero))) lt = refl
number-of_kind (suc (suc (suc (suc k)))) lt = absurd (omega arith)

-- a type is that of its bits
kind-of_number : (k : Kind) → kind_of (kind_number k) ≡ k
kind-of_number Con = refl
kind-of_number Non = refl
kind-of_number Ack = refl
kind-of_number Rst = refl

-- a type has two bits
number_below : (k : Kind) → kind_number k < 4
number_below Con = omega arith
number_below Non = omega arith
number_below Ack = omega arith
number_below Rst = omega arith

-- a message that is read has a body
with_header_is : (head : Head) (found : Option Body) (m : Message) → with_header head found ≡ Ok m → (body : Body) × (found ≡ Some body) × (message_of head body.token body.options body.payload ≡ m)
with_header_is head None m e = absurd cc
with_header_is head (Some body) m e = (body, refl, cc)

-- a message that is read has version 1
version_is : (b : Bool) (r : Result Message DecodeError) (m : Message) → cond b r (Err errors.Version) ≡ Ok m → (b ≡ true) × (r ≡ Ok m)
version_is true r m e = (refl, e)
version_is false r m e = absurd cc

-- ---- the two laws

-- what is read is spelled so
pub read_is : (bytes : List ℕ) (m : Message) → IsBytes bytes → read_message bytes ≡ Ok m → Spells bytes m
unfolding read_message
read_is [] m fits e = absurd cc
read_is (a ∷ []) m fits e = absurd cc
read_is (a ∷ b ∷ []) m fits e = absurd cc
read_is (a ∷ b ∷ c ∷ []) m fits e = absurd cc
read_is (first ∷ code ∷ high ∷ low ∷ rest) m fits e =
    let v = version_is (eqb (first / 64) 1) (with_header (head_from first code high low) (body_behind code (first % 16) rest)) m e in
    let version : first / 64 ≡ 1 = eqb-true _ _ v.0 in
    let h = with_header_is (head_from first code high low) (body_behind code (first % 16) rest) m v.1 in
    let behind : IsBytes rest = IsBytes-right (first ∷ code ∷ high ∷ low ∷ []) rest fits in
    let b = behind_is code (first % 16) rest h.0 behind h.1 in
    let t = b.0.takes in
    let made = message_of (head_from first code high low) h.0.token h.0.options h.0.payload in
    let kind = number-of_kind (first / 16 % 4) (omega arith) in
    let low_small : low < 256 = fits 3 in
    let first_is : first ≡ 64 + 16 * kind_number (kind_of (first / 16 % 4)) + length h.0.token = omega (arith, fits 0, version, kind, b.1) in
    let high_is : high ≡ (256 * high + low) / 256 = omega arith in
    let low_is : low ≡ (256 * high + low) % 256 = omega arith in
    let bytes_are : first ∷ code ∷ high ∷ low ∷ rest ≡ header made ++ (h.0.token ++ (t.options ++ t.payload)) = four first_is high_is low_is t.parts in
    subst (Spells (first ∷ code ∷ high ∷ low ∷ rest)) h.2 (record {
      message = record { token = t.token; options = t.are; bare = record { token = b.0.token; options = b.0.options; payload = b.0.payload } };
      options = t.options;
      payload = t.payload;
      options_are = t.options_are;
      payload_is = t.payload_is;
      bytes_are = bytes_are;
    })
  where
    four : {a a' h h' l l' : ℕ} {r r' : List ℕ} → a ≡ a' → h ≡ h' → l ≡ l' → r ≡ r' → a ∷ code ∷ h ∷ l ∷ r ≡ a' ∷ code ∷ h' ∷ l' ∷ r'
    four p q s t = cc

-- what is spelled so is read
pub read_again : (bytes : List ℕ) (m : Message) → Spells bytes m → read_message bytes ≡ Ok m
unfolding read_message
read_again bytes m s =
    let kind = number_below m.kind in
    let token = s.message.token in
    let version : eqb ((64 + 16 * kind_number m.kind + length m.token) / 64) 1 ≡ true = eq-eqb _ _ (omega arith) in
    let kind_bits : (64 + 16 * kind_number m.kind + length m.token) / 16 % 4 ≡ kind_number m.kind = omega arith in
    let token_bits : (64 + 16 * kind_number m.kind + length m.token) % 16 ≡ length m.token = omega arith in
    let id : 256 * (m.id / 256) + m.id % 256 ≡ m.id = omega arith in
    let body = behind_again m.code.0 m.token s.options s.payload m.options m.payload token s.message.options s.options_are s.payload_is s.message.bare.token s.message.bare.options s.message.bare.payload in
    ap read_message s.bytes_are ∙ rw (version, token_bits, body, kind_bits, kind-of_number m.kind, id) refl

-- the bytes of one message spell no other
pub one_message : (bytes : List ℕ) (m n : Message) → Spells bytes m → Spells bytes n → m ≡ n
one_message bytes m n s t = let e = sym (read_again bytes m s) ∙ read_again bytes n t in cc

-- the head of what is read is the message's
pub head_read : (bytes : List ℕ) (m : Message) → read_message bytes ≡ Ok m → head_at bytes ≡ Some (record { kind = m.kind; code = m.code; id = m.id })
unfolding read_message
head_read [] m e = absurd cc
head_read (a ∷ []) m e = absurd cc
head_read (a ∷ b ∷ []) m e = absurd cc
head_read (a ∷ b ∷ c ∷ []) m e = absurd cc
head_read (first ∷ code ∷ high ∷ low ∷ rest) m e =
    let v = version_is (eqb (first / 64) 1) (with_header (head_from first code high low) (body_behind code (first % 16) rest)) m e in
    let h = with_header_is (head_from first code high low) (body_behind code (first % 16) rest) m v.1 in
    rw v.0 (ap (λ (n : Message). Some (record { kind = n.kind; code = n.code; id = n.id })) h.2)
