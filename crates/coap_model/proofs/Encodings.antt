-- The messages that a proxy makes are well-formed, and so they are encoded; what is read from them.
use Rattle.std.proofs.Common.{◌≡◌, ◌≢◌, ℕ, zero, suc, ◌≤◌, Bool, true, false, cond, leb, List, [], ◌∷◌, length, Some, None, Result, Ok, Err, refl, ap, arith}
use Rattle.std.specs.Result.{result_ok}
use Rattle.std.specs.Int.{w64, to_be_bytes}
use Rattle.std.proofs.lemmas.Bool.{leb-true, le-leb}
use Rattle.coap_message.specs.declared.code.Code.{Code}
use Rattle.coap_message.specs.declared.error.DecodeError.{DecodeError}
use Rattle.coap_message.specs.declared.options.Opt.{Opt}
use Rattle.coap_message.specs.Uint.{IsBytes, without_zeros, uint_spelling}
use Rattle.coap_message.specs.Options.{AreOptions}
use Rattle.coap_message.specs.Message.{Message}
use Rattle.coap_message.specs.Spelling.{spelling, IsMessage, Spells}
use Rattle.coap_message.specs.Reading.{read_message}
use Rattle.coap_message.proofs.Spellings.{spelling-length}
use Rattle.coap_message.proofs.WholeMessages.{read_is}
use Rattle.coap_store.specs.Renewing.{max_age_option}
use Rattle.coap_forward.specs.Messages.{acknowledgement, reset, own_reply, overload_reply}
use Rattle.coap_model.specs.Step.{message_in}

-- ---- a Max-Age

-- without leading zeros a number isn't longer
length-without_zeros : (bytes : List ℕ) → length (without_zeros bytes) ≤ length bytes
length-without_zeros [] = omega arith
length-without_zeros (zero ∷ bytes) = let i = length-without_zeros bytes in omega arith
length-without_zeros (suc b ∷ bytes) = omega arith

-- a number takes at most eight bytes
pub length-uint_spelling : (n : ℕ) → length (uint_spelling n) ≤ 8
unfolding uint_spelling
length-uint_spelling n = length-without_zeros (to_be_bytes w64 n)

-- a Max-Age is a list of options in order
max_age-options : (seconds : ℕ) → AreOptions 0 (max_age_option seconds ∷ [])
max_age-options seconds = (omega arith, omega arith, omega (arith, length-uint_spelling seconds), tt)

-- ---- the messages

-- a Reset is a message
pub reset-is : (id : ℕ) → IsMessage (reset id)
reset-is id = record { token = omega arith; options = tt; bare = record { token = λ _. refl; options = λ _. refl; payload = λ _. refl } }

-- so is an Empty acknowledgement, which has four bytes
pub acknowledgement-is : (id : ℕ) → IsMessage (acknowledgement id)
acknowledgement-is id = record { token = omega arith; options = tt; bare = record { token = λ _. refl; options = λ _. refl; payload = λ _. refl } }

pub acknowledgement-short : (id : ℕ) → length (spelling (acknowledgement id)) ≤ 4
acknowledgement-short id = let long = spelling-length (acknowledgement id) in omega (arith, long)

-- so is a reply that the proxy generates
pub own_reply-is : (code : Code) (options : List Opt) (id : ℕ) (token : List ℕ) → code.0 ≢ 0 → AreOptions 0 options → length token ≤ 8 → IsMessage (own_reply code options id token)
own_reply-is code options id token some are short = record { token = short; options = are; bare = record { token = λ e. absurd (some e); options = λ e. absurd (some e); payload = λ e. absurd (some e) } }

-- and so is one that says when to try again
pub overload_reply-is : (seconds id : ℕ) (token : List ℕ) → length token ≤ 8 → IsMessage (overload_reply seconds id token)
overload_reply-is seconds id token short = own_reply-is _ (max_age_option seconds ∷ []) id token (λ e. absurd (omega arith)) (max_age-options seconds) short

-- ---- what is read

-- the message that is read from a datagram is encoded in it, and the datagram isn't too long
pub message_in-is : (most : ℕ) (bytes : List ℕ) (m : Message) → IsBytes bytes → message_in most bytes ≡ Some m → Spells bytes m × (length bytes ≤ most) × (read_message bytes ≡ Ok m)
unfolding message_in
message_in-is most bytes m fits e = go (leb (length bytes) most) refl e
  where
    ok : (r : Result Message DecodeError) → result_ok r ≡ Some m → r ≡ Ok m
    ok (Ok n) f = let same : n ≡ m = cc in ap Ok same
    ok (Err d) f = absurd cc

    go : (b : Bool) → leb (length bytes) most ≡ b → cond b (result_ok (read_message bytes)) None ≡ Some m → Spells bytes m × (length bytes ≤ most) × (read_message bytes ≡ Ok m)
    go true short f = let read = ok (read_message bytes) f in (read_is bytes m fits read, leb-true _ _ short, read)
    go false short f = absurd cc

-- and a message that is encoded in a datagram that isn't too long is read from it
pub message_in-again : (most : ℕ) (bytes : List ℕ) (m : Message) → read_message bytes ≡ Ok m → length bytes ≤ most → message_in most bytes ≡ Some m
unfolding message_in
message_in-again most bytes m read short = rw (le-leb (length bytes) most short, read) refl
