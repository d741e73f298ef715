-- Options one after the other, and the payload after them.
use Rattle.std.proofs.Common.{◌≡◌, ℕ, zero, suc, ◌+◌, ◌*◌, ◌<◌, ◌≤◌, Bool, true, false, cond, eqb, List, [], ◌∷◌, ◌++◌, length, Option, Some, None, refl, sym, ap, subst, ◌∙◌, append_assoc, arith}
use Rattle.std.specs.Prelude.{option_map, not}
use Rattle.std.proofs.lemmas.Bool.{ne_eqb, eqb-true, not-false}
use Rattle.std.proofs.lemmas.List.{length-append}
use Rattle.std.proofs.lemmas.Option.{same_Some}
use Rattle.coap_message.specs.declared.options.Opt.{Opt}
use Rattle.coap_message.specs.Options.{AreOptions}
use Rattle.coap_message.specs.Uint.{IsBytes}
use Rattle.coap_message.specs.Spelling.{SpellsOption, SpellsOptions, SpellsPayload}
use Rattle.coap_message.specs.Reading.{◌>>=◌, option_at, begins_option, payload_at, no_options, one_option_more, options_within, options_at}
use Rattle.coap_message.proofs.Extensions.{IsBytes-left, IsBytes-right, Extends-bits}
use Rattle.coap_message.proofs.OneOption.{bind_some, option_is, option_again}

-- an option leaves less than there was
pub option_shortens : (before : ℕ) (bytes : List ℕ) (o : Opt) (rest : List ℕ) → option_at before bytes ≡ Some (o, rest) → length rest < length bytes
option_shortens before bytes o rest e =
    let t = option_is before bytes (o, rest) e in
    omega (arith, t.byte, ap length t.parts, length-append t.front rest)

-- ---- how many may be read does not matter, where they are enough

-- the rest of the options after one that was read
abbrev next_options : ℕ → Option (Opt × List ℕ) → Option (List Opt × List ℕ)
next_options n found = found >>= λ o. option_map (one_option_more o.0) (options_within n o.0.number o.1)

-- two bounds that are both enough read the same
pub enough : (n m before : ℕ) (bytes : List ℕ) → length bytes ≤ n → length bytes ≤ m → options_within n before bytes ≡ options_within m before bytes
unfolding options_within
enough zero zero before bytes h k = refl
enough zero (suc m) before [] h k = refl
enough zero (suc m) before (b ∷ bytes) h k = absurd (omega arith)
enough (suc n) zero before [] h k = refl
enough (suc n) zero before (b ∷ bytes) h k = absurd (omega arith)
enough (suc n) (suc m) before bytes h k =
    ap (λ (f : Option (List Opt × List ℕ)). cond (begins_option bytes) f (option_map no_options (payload_at bytes)))
    (at_next (λ before' bytes'. enough n m before' bytes') (option_at before bytes) refl)
  where
    at_next : ((before' : ℕ) (bytes' : List ℕ) → length bytes' ≤ n → length bytes' ≤ m → options_within n before' bytes' ≡ options_within m before' bytes')
        → (found : Option (Opt × List ℕ)) → option_at before bytes ≡ found → next_options n found ≡ next_options m found
    at_next again None e = refl
    at_next again (Some o) e =
        let shorter = option_shortens before bytes o.0 o.1 e in
        ap (option_map (one_option_more o.0)) (again o.0.number o.1 (omega arith) (omega arith))

-- one step of reading
pub options_step : (before : ℕ) (bytes : List ℕ) (o : Opt) (rest : List ℕ) → begins_option bytes ≡ true → option_at before bytes ≡ Some (o, rest)
    → options_at before bytes ≡ option_map (one_option_more o) (options_at o.number rest)
unfolding options_within
options_step before [] o rest begins e = absurd cc
options_step before (b ∷ bytes) o rest begins e =
    let shorter = option_shortens before (b ∷ bytes) o rest e in
    let same : options_within (length bytes) o.number rest ≡ options_at o.number rest = enough (length bytes) (length rest) o.number rest (omega arith) (omega arith) in
    rw (begins, e, same) refl

-- where no option can be read
pub options_fault : (before : ℕ) (bytes : List ℕ) → begins_option bytes ≡ true → option_at before bytes ≡ None → options_at before bytes ≡ None
unfolding options_within
options_fault before [] begins e = absurd cc
options_fault before (b ∷ bytes) begins e = rw (begins, e) refl

-- after the last option
pub options_end : (before : ℕ) (bytes : List ℕ) → begins_option bytes ≡ false → options_at before bytes ≡ option_map no_options (payload_at bytes)
unfolding options_within
options_end before [] ends = refl
options_end before (b ∷ bytes) ends = rw ends refl

-- ---- what is read is spelled so

-- a choice that gave a value
pub mapped_is : {A B : Type 0} (f : A → B) (o : Option A) (y : B) → option_map f o ≡ Some y → (x : A) × (o ≡ Some x) × (f x ≡ y)
mapped_is f None y e = absurd cc
mapped_is f (Some x) y e = (x, refl, same_Some (f x) y e)

-- where no option begins, but a byte stands, it is the marker
not_begins : (b : ℕ) → not (eqb b 255) ≡ false → b ≡ 255
not_begins b e = eqb-true b 255 (not-false (eqb b 255) e)

-- the payload that is read is spelled so
payload_is : (bytes payload : List ℕ) → begins_option bytes ≡ false → payload_at bytes ≡ Some payload → SpellsPayload bytes payload
payload_is [] payload ends e = subst (SpellsPayload []) (same_Some [] payload e) refl
payload_is (b ∷ []) payload ends e = absurd cc
payload_is (b ∷ p ∷ ps) payload ends e = subst (SpellsPayload (b ∷ p ∷ ps)) (same_Some (p ∷ ps) payload e) (ap (λ (n : ℕ). n ∷ p ∷ ps) (not_begins b ends))

-- what the options and the payload take: all the bytes
pub record TakesOptions (before : ℕ) (bytes : List ℕ) (os : List Opt) (payload : List ℕ) : Type 0 where
  pub options : List ℕ
  pub rest : List ℕ
  pub parts : bytes ≡ options ++ rest
  pub options_are : IsBytes bytes → SpellsOptions before options os
  pub payload_are : SpellsPayload rest payload
  pub are : IsBytes bytes → AreOptions before os

-- where no option begins, none is taken
ends_is : (before : ℕ) (bytes : List ℕ) (x : List Opt × List ℕ) → begins_option bytes ≡ false → option_map no_options (payload_at bytes) ≡ Some x → TakesOptions before bytes x.0 x.1
ends_is before bytes x ends e =
    let p = mapped_is no_options (payload_at bytes) x e in
    subst (λ (y : List Opt × List ℕ). TakesOptions before bytes y.0 y.1) p.2 (record { options = []; rest = bytes; parts = refl; options_are = λ f. refl; payload_are = payload_is bytes p.0 ends p.1; are = λ f. tt })

-- an option and what the others take
begins_is : (before : ℕ) (bytes : List ℕ) (o : Opt) (rest : List ℕ) (x : List Opt × List ℕ) → option_at before bytes ≡ Some (o, rest) → TakesOptions o.number rest x.0 x.1 → TakesOptions before bytes (o ∷ x.0) x.1
begins_is before bytes o rest x e t =
    let f = option_is before bytes (o, rest) e in
    let front : IsBytes bytes → IsBytes f.front = λ h. IsBytes-left f.front rest (subst IsBytes f.parts h) in
    let behind : IsBytes bytes → IsBytes rest = λ h. IsBytes-right f.front rest (subst IsBytes f.parts h) in
    record {
      options = f.front ++ t.options;
      rest = t.rest;
      parts = f.parts ∙ ap (λ (l : List ℕ). f.front ++ l) t.parts ∙ sym (append_assoc f.front t.options t.rest);
      options_are = λ h. (f.front, t.options, refl, f.spelled (front h), t.options_are (behind h));
      payload_are = t.payload_are;
      are = λ h. (f.above, f.number, f.within (front h), t.are (behind h));
    }

-- the options that are read are spelled so
pub options_is : (n before : ℕ) (bytes : List ℕ) (x : List Opt × List ℕ) → length bytes ≤ n → options_within n before bytes ≡ Some x → TakesOptions before bytes x.0 x.1
unfolding options_within
options_is zero before [] x le e = ends_is before [] x refl e
options_is zero before (b ∷ bytes) x le e = absurd (omega arith)
options_is (suc n) before bytes x le e =
    go (λ before' bytes' x' le' e'. options_is n before' bytes' x' le' e') (begins_option bytes) refl e
  where
    go : ((before' : ℕ) (bytes' : List ℕ) (x' : List Opt × List ℕ) → length bytes' ≤ n → options_within n before' bytes' ≡ Some x' → TakesOptions before' bytes' x'.0 x'.1)
        → (begins : Bool) → begins_option bytes ≡ begins → cond begins (next_options n (option_at before bytes)) (option_map no_options (payload_at bytes)) ≡ Some x → TakesOptions before bytes x.0 x.1
    go again false ends h = ends_is before bytes x ends h
    go again true begins h =
        let b = bind_some (option_at before bytes) (λ o. option_map (one_option_more o.0) (options_within n o.0.number o.1)) x h in
        let m = mapped_is (one_option_more b.0.0) (options_within n b.0.0.number b.0.1) x b.2 in
        let shorter = option_shortens before bytes b.0.0 b.0.1 b.1 in
        subst (λ (y : List Opt × List ℕ). TakesOptions before bytes y.0 y.1) m.2 (begins_is before bytes b.0.0 b.0.1 m.0 b.1 (again b.0.0.number b.0.1 m.0 (omega arith) m.1))

-- ---- and what is spelled so is read

-- a payload that is spelled so is read
payload_again : (rest payload : List ℕ) → SpellsPayload rest payload → (begins_option rest ≡ false) × (payload_at rest ≡ Some payload)
payload_again rest [] s = rw s (refl, refl)
payload_again rest (p ∷ ps) s = rw s (refl, refl)

-- a spelled option is no marker
option_begins : (before : ℕ) (front : List ℕ) (o : Opt) (rest : List ℕ) → SpellsOption before front o → begins_option (front ++ rest) ≡ true
option_begins before front o rest s =
    let d = Extends-bits s.delta_bits s.delta_more s.delta s.delta_is in
    let l = Extends-bits s.length_bits s.length_more (length o.value) s.length_is in
    let other : eqb (16 * s.delta_bits + s.length_bits) 255 ≡ false = ne_eqb _ _ (λ e. omega arith) in
    ap (λ (t : List ℕ). begins_option (t ++ rest)) s.bytes_are ∙ ap not other

-- options that are spelled so are read, and the payload after them
pub options_again : (before : ℕ) (bytes : List ℕ) (os : List Opt) (rest payload : List ℕ) → AreOptions before os → SpellsOptions before bytes os → SpellsPayload rest payload → options_at before (bytes ++ rest) ≡ Some (os, payload)
options_again before bytes [] rest payload are s p =
    let q = payload_again rest payload p in
    ap (λ (t : List ℕ). options_at before (t ++ rest)) s ∙ options_end before rest q.0 ∙ ap (option_map no_options) q.1
options_again before bytes (o ∷ os) rest payload are s p =
    let first = s.0 in
    let others = s.1 in
    let grouped : bytes ++ rest ≡ first ++ (others ++ rest) = ap (λ (t : List ℕ). t ++ rest) s.2 ∙ append_assoc first others rest in
    let one = option_again before first o (others ++ rest) are.1 s.3 in
    let begins = option_begins before first o (others ++ rest) s.3 in
    ap (options_at before) grouped ∙ options_step before (first ++ (others ++ rest)) o (others ++ rest) begins one ∙ ap (option_map (one_option_more o)) (options_again o.number others os rest payload are.3 s.4 p)
