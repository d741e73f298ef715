-- One option: what is read is spelled so, and what is spelled so is read.
use Rattle.std.proofs.Common.{◌≡◌, ℕ, ◌+◌, ◌*◌, ◌/◌, ◌%◌, ◌<◌, ◌≤◌, Bool, true, false, cond, ltb, List, [], ◌∷◌, ◌++◌, length, take, drop, Option, Some, None, refl, sym, ap, subst, ◌∙◌, append_assoc, arith}
use Rattle.std.specs.Prelude.{◌||◌}
use Rattle.std.proofs.lemmas.Bool.{ltb-false, lt-ltb, le-ltb}
use Rattle.std.proofs.lemmas.List.{take-append-drop, length-append, length-take, take_at, drop_at}
use Rattle.std.proofs.lemmas.Option.{same_Some}
use Rattle.coap_message.specs.declared.options.Opt.{Opt}
use Rattle.coap_message.specs.Uint.{IsBytes}
use Rattle.coap_message.specs.Spelling.{Extends, SpellsOption}
use Rattle.coap_message.specs.Reading.{◌>>=◌, extended, option_at, option_cut}
use Rattle.coap_message.proofs.Extensions.{IsBytes-left, IsBytes-right, extended_is, extended_again, Extends-bits, Extends-within}

-- the value of a step that gave one
pub bind_some : {A B : Type 0} (o : Option A) (f : A → Option B) (y : B) → (o >>= f) ≡ Some y → (x : A) × (o ≡ Some x) × (f x ≡ Some y)
bind_some None f y e = absurd cc
bind_some (Some x) f y e = (x, refl, e)

-- two tests that were both passed
passed : {A : Type 0} (a b : Bool) (x y : A) → cond (a || b) None (Some x) ≡ Some y → (a ≡ false) × (b ≡ false) × (x ≡ y)
passed true b x y e = absurd cc
passed false true x y e = absurd cc
passed false false x y e = (refl, refl, same_Some x y e)

-- what an option takes from the front
pub record TakesOption (before : ℕ) (bytes : List ℕ) (option : Opt) (rest : List ℕ) : Type 0 where
  pub front : List ℕ
  pub parts : bytes ≡ front ++ rest
  pub byte : 0 < length front
  pub above : before ≤ option.number
  pub number : option.number < 65536
  pub spelled : IsBytes front → SpellsOption before front option
  pub within : IsBytes front → length option.value ≤ 65804

-- what is read is spelled so
pub option_is : (before : ℕ) (bytes : List ℕ) (x : Opt × List ℕ) → option_at before bytes ≡ Some x → TakesOption before bytes x.0 x.1
unfolding option_at
option_is before [] x e = absurd cc
option_is before (first ∷ rest) x e =
    let d = bind_some (extended (first / 16) rest) (λ delta. extended (first % 16) delta.1 >>= λ len. cond (ltb 65535 (before + delta.0) || ltb (length len.1) len.0) None (Some (record { number = before + delta.0; value = take len.0 len.1 }, drop len.0 len.1))) x e in
    let l = bind_some (extended (first % 16) d.0.1) (λ len. cond (ltb 65535 (before + d.0.0) || ltb (length len.1) len.0) None (Some (record { number = before + d.0.0; value = take len.0 len.1 }, drop len.0 len.1))) x d.2 in
    let p = passed (ltb 65535 (before + d.0.0)) (ltb (length l.0.1) l.0.0) (record { number = before + d.0.0; value = take l.0.0 l.0.1 }, drop l.0.0 l.0.1) x l.2 in
    let delta = extended_is (first / 16) rest d.0 d.1 in
    let len = extended_is (first % 16) d.0.1 l.0 l.1 in
    let number : before + d.0.0 ≤ 65535 = ltb-false _ _ p.0 in
    let long : l.0.0 ≤ length l.0.1 = ltb-false _ _ p.1 in
    let value_len : length (take l.0.0 l.0.1) ≡ l.0.0 = omega (arith, length-take l.0.0 l.0.1) in
    let front = first ∷ (delta.more ++ (len.more ++ take l.0.0 l.0.1)) in
    let value_parts : l.0.1 ≡ take l.0.0 l.0.1 ++ drop l.0.0 l.0.1 = sym (take-append-drop l.0.0 l.0.1) in
    let after_delta : d.0.1 ≡ (len.more ++ take l.0.0 l.0.1) ++ drop l.0.0 l.0.1 = len.parts ∙ ap (λ (t : List ℕ). len.more ++ t) value_parts ∙ sym (append_assoc len.more (take l.0.0 l.0.1) (drop l.0.0 l.0.1)) in
    let parts : first ∷ rest ≡ front ++ drop l.0.0 l.0.1 = ap (λ (t : List ℕ). first ∷ t) (delta.parts ∙ ap (λ (t : List ℕ). delta.more ++ t) after_delta ∙ sym (append_assoc delta.more (len.more ++ take l.0.0 l.0.1) (drop l.0.0 l.0.1))) in
    let behind : IsBytes front → IsBytes (delta.more ++ (len.more ++ take l.0.0 l.0.1)) = λ f. IsBytes-right (first ∷ []) (delta.more ++ (len.more ++ take l.0.0 l.0.1)) f in
    let delta_ok : IsBytes front → Extends (first / 16) delta.more d.0.0 = λ f. delta.extends (IsBytes-left delta.more (len.more ++ take l.0.0 l.0.1) (behind f)) in
    let len_ok : IsBytes front → Extends (first % 16) len.more l.0.0 = λ f. len.extends (IsBytes-left len.more (take l.0.0 l.0.1) (IsBytes-right delta.more (len.more ++ take l.0.0 l.0.1) (behind f))) in
    subst (λ (y : Opt × List ℕ). TakesOption before (first ∷ rest) y.0 y.1) p.2 (record {
      front = front;
      parts = parts;
      byte = omega arith;
      above = omega arith;
      number = omega (arith, number);
      spelled = λ f. record {
        delta = d.0.0;
        delta_bits = first / 16;
        delta_more = delta.more;
        length_bits = first % 16;
        length_more = len.more;
        number = refl;
        delta_is = delta_ok f;
        length_is = rw value_len (len_ok f);
        bytes_are = ap (λ (b : ℕ). b ∷ (delta.more ++ (len.more ++ take l.0.0 l.0.1))) (omega arith);
      };
      within = λ f. rw value_len (Extends-within (first % 16) len.more l.0.0 (len_ok f));
    })

-- what is spelled so is read
pub option_again : (before : ℕ) (front : List ℕ) (o : Opt) (rest : List ℕ) → o.number < 65536 → SpellsOption before front o → option_at before (front ++ rest) ≡ Some (o, rest)
unfolding option_at
option_again before front o rest small s =
    let d_bits = Extends-bits s.delta_bits s.delta_more s.delta s.delta_is in
    let l_bits = Extends-bits s.length_bits s.length_more (length o.value) s.length_is in
    let high : (16 * s.delta_bits + s.length_bits) / 16 ≡ s.delta_bits = omega arith in
    let low : (16 * s.delta_bits + s.length_bits) % 16 ≡ s.length_bits = omega arith in
    let grouped : (s.delta_more ++ (s.length_more ++ o.value)) ++ rest ≡ s.delta_more ++ (s.length_more ++ (o.value ++ rest)) = append_assoc s.delta_more (s.length_more ++ o.value) rest ∙ ap (λ (t : List ℕ). s.delta_more ++ t) (append_assoc s.length_more o.value rest) in
    let fits : ltb 65535 (before + s.delta) ≡ false = le-ltb _ _ (omega (arith, s.number)) in
    let long : ltb (length (o.value ++ rest)) (length o.value) ≡ false = le-ltb _ _ (omega (arith, length-append o.value rest)) in
    ap (λ (t : List ℕ). option_at before (t ++ rest)) s.bytes_are
    ∙ rw (grouped, high, low, extended_again s.delta_bits s.delta_more s.delta (s.length_more ++ (o.value ++ rest)) s.delta_is, extended_again s.length_bits s.length_more (length o.value) (o.value ++ rest) s.length_is, fits, long, take_at o.value rest (length o.value) refl, drop_at o.value rest (length o.value) refl, ← s.number) refl

-- an option that extends neither its delta nor its length
pub option_short : (before first : ℕ) (rest : List ℕ) (delta len : ℕ) → delta ≡ first / 16 → len ≡ first % 16 → delta < 13 → len < 13 → option_at before (first ∷ rest) ≡ option_cut before delta len rest
unfolding option_at extended
option_short before first rest delta len is_delta is_len short_delta short_len =
    rw (← is_delta, ← is_len, lt-ltb delta 13 short_delta, lt-ltb len 13 short_len) refl
