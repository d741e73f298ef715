-- The options in front of bytes, cut off.
use Rattle.std.proofs.Common.{◌≡◌, ℕ, ◌-◌, true, false, List, [], ◌++◌, length, take, Some, None, refl, sym, ap, subst, ◌∙◌, append_assoc, arith}
use Rattle.std.proofs.lemmas.List.{length-append, take_at}
use Rattle.coap_message.specs.declared.options.Opt.{Opt}
use Rattle.coap_message.specs.SpelledOptions.{options_of, SpellUpTo}
use Rattle.coap_message.specs.Reading.{option_at, begins_option, payload_at, options_at}
use Rattle.coap_message.specs.Spelling.{option_spelling}
use Rattle.coap_message.specs.Uint.{IsBytes}
use Rattle.coap_message.proofs.Counting.{Found, behind, behind_step, behind_end}
use Rattle.coap_message.proofs.Extensions.{IsBytes-left, IsBytes-right}
use Rattle.coap_message.proofs.OneOption.{option_is}
use Rattle.coap_message.proofs.OptionSpellings.{none_spelled, options_of-spelling, Pushed, pushed}
use Rattle.coap_message.proofs.Spellings.{option_form}

-- the options passed stand in front
pub record IsSplit (bytes : List ℕ) (before : ℕ) (rest : List ℕ) : Type 0 where
  pub front : List ℕ
  pub parts : bytes ≡ front ++ rest
  pub spelled : SpellUpTo front before
  pub found : behind (options_of 0 front) (options_at before rest) ≡ options_at 0 bytes

-- nothing stands in front
behind_none : (found : Found) → behind [] found ≡ found
behind_none None = refl
behind_none (Some f) = refl

-- no option is passed yet
pub IsSplit-none : (bytes : List ℕ) → IsSplit bytes 0 bytes
IsSplit-none bytes = record {
  front = [];
  parts = refl;
  spelled = none_spelled;
  found = ap (λ (l : List Opt). behind l (options_at 0 bytes)) (options_of-spelling 0 [] tt) ∙ behind_none (options_at 0 bytes);
}

-- one option more is passed
pub IsSplit-step : (bytes : List ℕ) (before : ℕ) (rest : List ℕ) (o : Opt) (rest' : List ℕ) → IsBytes bytes → begins_option rest ≡ true → option_at before rest ≡ Some (o, rest') → IsSplit bytes before rest → IsSplit bytes o.number rest'
IsSplit-step bytes before rest o rest' are begins e split =
    let t = option_is before rest (o, rest') e in
    let behind_are : IsBytes rest = IsBytes-right split.front rest (subst IsBytes split.parts are) in
    let front_are : IsBytes t.front = IsBytes-left t.front rest' (subst IsBytes t.parts behind_are) in
    let form : t.front ≡ option_spelling before o = option_form before t.front o (t.spelled front_are) in
    let more : Pushed split.front before o = pushed split.front before o split.spelled t.above t.number (t.within front_are) in
    let step = behind_step (options_of 0 split.front) before rest o rest' (options_at 0 bytes) begins e split.found in
    record {
      front = split.front ++ option_spelling before o;
      parts = split.parts ∙ ap (λ (l : List ℕ). split.front ++ l) (t.parts ∙ ap (λ (l : List ℕ). l ++ rest') form) ∙ sym (append_assoc split.front (option_spelling before o) rest');
      spelled = more.spelled;
      found = ap (λ (l : List Opt). behind l (options_at o.number rest')) more.read ∙ step;
    }

-- what is cut off
pub IsSplit-front : (bytes : List ℕ) (before : ℕ) (rest : List ℕ) (split : IsSplit bytes before rest) → take (length bytes - length rest) bytes ≡ split.front
IsSplit-front bytes before rest split =
    let len : length split.front ≡ length bytes - length rest = omega (arith, ap length split.parts, length-append split.front rest) in
    ap (take (length bytes - length rest)) split.parts ∙ take_at split.front rest (length bytes - length rest) len

-- all are passed, and the payload is read
pub IsSplit-end : (bytes : List ℕ) (before : ℕ) (rest payload : List ℕ) (split : IsSplit bytes before rest) → begins_option rest ≡ false → payload_at rest ≡ Some payload → options_at 0 bytes ≡ Some (options_of 0 split.front, payload)
IsSplit-end bytes before rest payload split ends e = behind_end (options_of 0 split.front) before rest payload (options_at 0 bytes) ends e split.found
