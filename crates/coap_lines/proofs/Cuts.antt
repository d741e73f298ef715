-- Texts that are cut at the first occurrence of a byte.
use Rattle.std.proofs.Common.{◌≡◌, ◌==◌, ℕ, true, false, List, [], ◌∷◌, ◌++◌, ◌+◌, ◌<◌, ◌≤◌, length, drop, drop-cons, take, get_or, suc, add-one, Some, None, Option, option_map, refl, sym, ap, ◌∙◌, arith, ⊎_elim, cond, eq-eqb}
use Rattle.std.specs.List.{All}
use Rattle.std.specs.Option.{unwrap_or}
use Rattle.std.proofs.lemmas.Bool.{cases_Bool, eqb-true, or_parts}
use Rattle.std.proofs.lemmas.List.{get_or-take, length-take, take-append-drop}
use Rattle.std.proofs.lemmas.List.Elements.{All-nil, All-cons}
use Rattle.std.proofs.lemmas.Option.{none-some}
use Rattle.coap_lines.specs.Texts.{cut, has, with_front}

-- a text that begins with the byte
cut-here : (byte b : ℕ) (text : List ℕ) → (b == byte) ≡ true → cut byte (b ∷ text) ≡ Some ([], text)
cut-here byte b text hit = ap (λ t. cond t (Some ([], text)) (option_map (with_front b) (cut byte text))) hit

-- a text that begins with another byte
cut-later : (byte b : ℕ) (text : List ℕ) → (b == byte) ≡ false → cut byte (b ∷ text) ≡ option_map (with_front b) (cut byte text)
cut-later byte b text miss = ap (λ t. cond t (Some ([], text)) (option_map (with_front b) (cut byte text))) miss

-- a text without the byte isn't cut
pub cut-without : (byte : ℕ) (text : List ℕ) → has byte text ≡ false → cut byte text ≡ None
cut-without byte [] none = refl
cut-without byte (b ∷ text) none =
    let parts = or_parts (b == byte) (has byte text) none in
    cut-later byte b text parts.0 ∙ ap (option_map (with_front b)) (cut-without byte text parts.1)

-- a text is cut at the first occurrence of the byte
pub cut-front : (byte : ℕ) (front rest : List ℕ) → has byte front ≡ false → cut byte (front ++ byte ∷ rest) ≡ Some (front, rest)
cut-front byte [] rest none = cut-here byte byte rest (eq-eqb byte byte refl)
cut-front byte (b ∷ front) rest none =
    let parts = or_parts (b == byte) (has byte front) none in
    cut-later byte b (front ++ byte ∷ rest) parts.0 ∙ ap (option_map (with_front b)) (cut-front byte front rest parts.1)

-- the two parts, with the byte between them, make up the text
pub cut-is : (byte : ℕ) (text front rest : List ℕ) → cut byte text ≡ Some (front, rest) → (text ≡ front ++ byte ∷ rest) × (has byte front ≡ false)
cut-is byte [] front rest found = absurd (none-some (front, rest) found)
cut-is byte (b ∷ text) front rest found =
    ⊎_elim
    (λ yes.
    let here : Some ([], text) ≡ Some (front, rest) = sym (cut-here byte b text yes) ∙ found in
    let same : b ≡ byte = eqb-true b byte yes in
    let empty : [] ≡ front = ap (λ (o : Option (List ℕ × List ℕ)). (unwrap_or {T = List ℕ × List ℕ} o ([], [])).0) here in
    let left : text ≡ rest = ap (λ (o : Option (List ℕ × List ℕ)). (unwrap_or {T = List ℕ × List ℕ} o ([], [])).1) here in
    rw (← empty, ← left, same) (refl, refl))
    (λ no. later no (cut byte text) refl (sym (cut-later byte b text no) ∙ found) (λ front rest. cut-is byte text front rest))
    (cases_Bool (b == byte))
  where
    later : (b == byte) ≡ false → (parts : Option (List ℕ × List ℕ)) → cut byte text ≡ parts → option_map (with_front b) (cut byte text) ≡ Some (front, rest) → ((f r : List ℕ) → cut byte text ≡ Some (f, r) → (text ≡ f ++ byte ∷ r) × (has byte f ≡ false)) → (b ∷ text ≡ front ++ byte ∷ rest) × (has byte front ≡ false)
    later miss None is found further = absurd (none-some (front, rest) (rw is at found))
    later miss (Some (f, r)) is found further =
        let split = further f r is in
        let made : Some (b ∷ f, r) ≡ Some (front, rest) = rw is at found in
        let before : b ∷ f ≡ front = ap (λ (o : Option (List ℕ × List ℕ)). (unwrap_or {T = List ℕ × List ℕ} o ([], [])).0) made in
        let after : r ≡ rest = ap (λ (o : Option (List ℕ × List ℕ)). (unwrap_or {T = List ℕ × List ℕ} o ([], [])).1) made in
        rw (← before, ← after) (ap (λ t. b ∷ t) split.0, rw miss split.1)

-- each byte of a text without the byte is a different one
pub All-others : (byte : ℕ) (text : List ℕ) → has byte text ≡ false → All (λ b. (b == byte) ≡ false) text
All-others byte [] none = All-nil (λ b. (b == byte) ≡ false)
All-others byte (b ∷ text) none =
    let parts = or_parts (b == byte) (has byte text) none in
    All-cons (λ x. (x == byte) ≡ false) b text parts.0 (All-others byte text parts.1)

-- a text that isn't cut doesn't contain the byte
pub none-has : (byte : ℕ) (text : List ℕ) → cut byte text ≡ None → has byte text ≡ false
none-has byte [] none = refl
none-has byte (b ∷ text) none =
    ⊎_elim
    (λ hit. absurd (none-some ([], text) (sym none ∙ cut-here byte b text hit)))
    (λ miss. rw miss (none-has byte text (unmapped (cut byte text) (sym (cut-later byte b text miss) ∙ none))))
    (cases_Bool (b == byte))
  where
    unmapped : (parts : Option (List ℕ × List ℕ)) → option_map (with_front b) parts ≡ None → parts ≡ None
    unmapped None is = refl
    unmapped (Some p) is = absurd (none-some (with_front b p) (sym is))

-- a text doesn't contain a byte that stands at no place of it
free : (byte : ℕ) (text : List ℕ) → ((k : ℕ) → k < length text → (get_or text k 0 == byte) ≡ true → ⊥) → has byte text ≡ false
free byte [] nowhere = refl
free byte (b ∷ text) nowhere =
    let miss : (b == byte) ≡ false = ⊎_elim (λ hit. absurd (nowhere 0 (omega arith) hit)) (λ miss. miss) (cases_Bool (b == byte)) in
    rw (miss, free byte text (λ k inside. nowhere (suc k) (omega arith))) refl

-- a text is cut at the first place of the byte
pub cut-at : (byte : ℕ) (text : List ℕ) (place : ℕ) → place < length text → ((k : ℕ) → 0 ≤ k → k < place → (get_or text k 0 == byte) ≡ true → ⊥) → (get_or text place 0 == byte) ≡ true → cut byte text ≡ Some (take place text, drop (place + 1) text)
cut-at byte text place inside before here =
    let same : get_or text place 0 ≡ byte = eqb-true (get_or text place 0) byte here in
    let front = free byte (take place text) (λ k within hit. let early : k < place = omega (arith, length-take place text) in before k (omega arith) early (rw (get_or-take place text k 0 early) at hit)) in
    let split : take place text ++ (get_or text place 0 ∷ drop (place + 1) text) ≡ text = rw (add-one, ← drop-cons text place 0 inside) (take-append-drop place text) in
    ap (cut byte) (sym (rw same at split)) ∙ cut-front byte (take place text) (drop (place + 1) text) front

-- and isn't cut if it has none
pub cut-nowhere : (byte : ℕ) (text : List ℕ) → ((k : ℕ) → 0 ≤ k → k < length text → (get_or text k 0 == byte) ≡ true → ⊥) → cut byte text ≡ None
cut-nowhere byte text nowhere = cut-without byte text (free byte text (λ k within. nowhere k (omega arith) within))
