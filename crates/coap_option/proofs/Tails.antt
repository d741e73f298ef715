-- The options of the key where they are the last ones.
use Rattle.std.proofs.Common.{◌≡◌, ℕ, ◌<◌, ◌≤◌, Bool, true, false, cond, List, [], ◌∷◌, filter, Option, Some, None, refl, sym, ap, subst, ◌∙◌, arith, inl, inr}
use Rattle.std.specs.Prelude.{◌&&◌, nat_lt, not}
use Rattle.std.specs.List.{AllByRecursion}
use Rattle.std.proofs.lemmas.Option.{same_Some}
use Rattle.std.proofs.lemmas.Bool.{cases_lt, lt-ltb, le-ltb, ltb-true}
use Rattle.coap_message.specs.declared.code.Code.{Code}
use Rattle.coap_message.specs.declared.options.Opt.{Opt}
use Rattle.coap_message.specs.Message.{Message}
use Rattle.coap_message.specs.Options.{AreOptions, from_number, last_number}
use Rattle.coap_message.proofs.Runs.{from-below, from-here}
use Rattle.coap_option.specs.Classes.{is_no_cache_key}
use Rattle.coap_option.specs.Selection.{is_forwarded, key_of, sent_on}
use Rattle.coap_option.specs.declared.survey.Span.{Span}
use Rattle.coap_option.specs.declared.survey.Survey.{Survey}
use Rattle.coap_option.specs.Survey.{IsSurvey, from_above, key_from, span_of, widened_by}
use Rattle.coap_option.proofs.Clean.{in_key, key-screened, outside-screened, sent-screened}

is-true : (b : Bool) → not b ≡ false → b ≡ true
is-true true e = refl
is-true false e = absurd cc

first-true : (a b : Bool) → (a && b) ≡ true → a ≡ true
first-true true b e = refl
first-true false b e = absurd cc

-- a test holds for the options from a number on, and for no others
abbrev IsFrom : (Opt → Bool) → ℕ → List Opt → Type 0
IsFrom test n os = AllByRecursion (λ o. test o ≡ not (nat_lt o.number n)) os

-- if all of them are from there on, all are picked
all-from : (test : Opt → Bool) (n b : ℕ) (os : List Opt) → n ≤ b → AreOptions b os → IsFrom test n os → filter test os ≡ os
all-from test n b [] above are is = refl
all-from test n b (o ∷ os) above are is =
    let here : test o ≡ true = is.0 ∙ ap not (le-ltb o.number n (omega (arith, are.0))) in
    rw (here, all-from test n o.number os (omega (arith, are.0)) are.3 is.1) refl

-- so those from there on are picked
pub picks-from : (test : Opt → Bool) (n b : ℕ) (os : List Opt) → AreOptions b os → IsFrom test n os → filter test os ≡ from_number n os
picks-from test n b [] are is = refl
picks-from test n b (o ∷ os) are is =
    elim (cases_lt o.number n) [
      | inl below ↦ let here : test o ≡ false = is.0 ∙ ap not (lt-ltb o.number n below) in rw here (picks-from test n o.number os are.3 is.1 ∙ sym (from-below n o os below))
      | inr above ↦ all-from test n n (o ∷ os) (omega arith) (above, are.1, are.2, are.3) is ∙ sym (from-here n o os above)
    ]

-- ---- from which number on

-- the last of those that are picked isn't below what stands before
last-picked : (test : Opt → Bool) (c b : ℕ) (os : List Opt) → c ≤ b → AreOptions b os → c ≤ last_number c (filter test os)
last-picked test c b [] le are = omega arith
last-picked test c b (o ∷ os) le are = go (test o) (last-picked test o.number o.number os (omega arith) are.3) (last-picked test c o.number os (omega (arith, le, are.0)) are.3)
  where
    go : (t : Bool) → o.number ≤ last_number o.number (filter test os) → c ≤ last_number c (filter test os) → c ≤ last_number c (cond t (o ∷ filter test os) (filter test os))
    go true behind rest = omega (arith, le, are.0, behind)
    go false behind rest = rest

-- so none is picked from a number on that the last one is below
none-from : (test : Opt → Bool) (n c b : ℕ) (os : List Opt) → AreOptions b os → last_number c (filter test os) < n → AllByRecursion (λ o. n ≤ o.number → test o ≡ false) os
none-from test n c b [] are below = tt
none-from test n c b (o ∷ os) are below = go (test o) refl below (λ k less. none-from test n k o.number os are.3 less)
  where
    go : (t : Bool) → test o ≡ t → last_number c (cond t (o ∷ filter test os) (filter test os)) < n → ((k : ℕ) → last_number k (filter test os) < n → AllByRecursion (λ q. n ≤ q.number → test q ≡ false) os) → AllByRecursion (λ q. n ≤ q.number → test q ≡ false) (o ∷ os)
    go true e below' rest = (λ from. absurd (omega (arith, below', from, last-picked test o.number o.number os (omega arith) are.3)), rest o.number below')
    go false e below' rest = (λ from. e, rest c below')

-- the number of the first option, if there is one
abbrev first_number : List Opt → ℕ
first_number [] = 0
first_number (o ∷ os) = o.number

-- none of those that are in order is below a number that the first isn't below
none-under : (test : Opt → Bool) (n b : ℕ) (os : List Opt) → n ≤ b → AreOptions b os → AllByRecursion (λ o. o.number < n → test o ≡ false) os
none-under test n b [] le are = tt
none-under test n b (o ∷ os) le are = (λ under. absurd (omega (arith, under, le, are.0)), none-under test n o.number os (omega (arith, le, are.0)) are.3)

-- and none is picked below the first that is
none-before : (test : Opt → Bool) (b : ℕ) (os : List Opt) (first : Opt) (rest : List Opt) → AreOptions b os → filter test os ≡ first ∷ rest → AllByRecursion (λ o. o.number < first.number → test o ≡ false) os
none-before test b [] first rest are is = tt
none-before test b (o ∷ os) first rest are is = go (test o) refl is (λ is'. none-before test o.number os first rest are.3 is')
  where
    go : (t : Bool) → test o ≡ t → cond t (o ∷ filter test os) (filter test os) ≡ first ∷ rest → (filter test os ≡ first ∷ rest → AllByRecursion (λ q. q.number < first.number → test q ≡ false) os) → AllByRecursion (λ q. q.number < first.number → test q ≡ false) (o ∷ os)
    go true e is' more =
        let number : o.number ≡ first.number = ap first_number is' in
        (λ under. absurd (omega (arith, under, number)), none-under test first.number o.number os (omega (arith, number)) are.3)
    go false e is' more = (λ under. e, more is')

-- ---- the key

-- What is known of each option is known of all.
module _ (code : Code) (n : ℕ) where
  -- the options of the key are those from the number on
  key-is : (os : List Opt) → AllByRecursion (λ o. n ≤ o.number → not (in_key code o) ≡ false) os → AllByRecursion (λ o. o.number < n → is_forwarded code o ≡ false) os → IsFrom (in_key code) n os
  key-is [] from under = tt
  key-is (o ∷ os) from under = (
    elim (cases_lt o.number n) [
      | inl below ↦ ap (λ (b : Bool). b && not (is_no_cache_key o.number)) (under.0 below) ∙ sym (ap not (lt-ltb o.number n below))
      | inr above ↦ is-true (in_key code o) (from.0 above) ∙ sym (ap not (le-ltb o.number n above))
    ],
    key-is os from.1 under.1,
  )

  -- and so are those that are forwarded
  sent-is : (os : List Opt) → AllByRecursion (λ o. n ≤ o.number → not (in_key code o) ≡ false) os → AllByRecursion (λ o. o.number < n → is_forwarded code o ≡ false) os → IsFrom (is_forwarded code) n os
  sent-is [] from under = tt
  sent-is (o ∷ os) from under = (
    elim (cases_lt o.number n) [
      | inl below ↦ under.0 below ∙ sym (ap not (lt-ltb o.number n below))
      | inr above ↦ first-true (is_forwarded code o) (not (is_no_cache_key o.number)) (is-true (in_key code o) (from.0 above)) ∙ sym (ap not (le-ltb o.number n above))
    ],
    sent-is os from.1 under.1,
  )

-- the least number of a span
abbrev OfLeast : Option Span → ℕ → Type 0
OfLeast None least = Unit {0}
OfLeast (Some span) least = span.least ≡ least

-- it stays, if the span is widened
least-stays : (span : Span) (os : List Opt) → (least : ℕ) → span.least ≡ least → OfLeast (widened_by (Some span) os) least
least-stays span [] least is = is
least-stays span (o ∷ os) least is = least-stays (record { least = span.least; greatest = o.number }) os least is

-- where a survey's answer comes from
from-span : (last n : ℕ) (span : Option Span) (least : ℕ) → OfLeast span least → from_above last span ≡ Some n → (last < n) × (n ≡ least)
from-span last n None least of from = absurd cc
from-span last n (Some span) least of from = pick (nat_lt last span.least) refl from
  where
    pick : (b : Bool) → nat_lt last span.least ≡ b → cond b (Some span.least) None ≡ Some n → (last < n) × (n ≡ least)
    pick true e f = let same : n ≡ span.least = sym (same_Some _ _ f) in (omega (arith, same, ltb-true last span.least e), same ∙ of)
    pick false e f = absurd cc

-- If a survey says from where on all options are part of the key, those are the key, and all that is forwarded.
pub record IsTail (m : Message) (n : ℕ) : Type 0 where
  pub key : key_of m ≡ from_number n m.options
  pub sent : sent_on m ≡ from_number n m.options

pub is-tail : (m : Message) (survey : Survey) (n : ℕ) → IsSurvey m survey → AreOptions 0 m.options → key_from survey ≡ Some n → IsTail m n
is-tail m survey n is are from = go (filter (is_forwarded m.code) m.options) refl (sym (ap (from_above survey.last_outside_key) (is.others ∙ ap span_of (sent-screened m is.screened))) ∙ from)
  where
    outside : survey.last_outside_key ≡ last_number 0 (filter (λ o. not (in_key m.code o)) m.options)
    outside = is.outside ∙ ap (last_number 0) (outside-screened m is.screened)

    go : (sent : List Opt) → filter (is_forwarded m.code) m.options ≡ sent → from_above survey.last_outside_key (span_of sent) ≡ Some n → IsTail m n
    go [] e from' = absurd cc
    go (o ∷ os) e from' =
        let at : (survey.last_outside_key < n) × (n ≡ o.number) = from-span survey.last_outside_key n (widened_by (Some (record { least = o.number; greatest = o.number })) os) o.number (least-stays _ os o.number refl) from' in
        let above = none-from (λ q. not (in_key m.code q)) n 0 0 m.options are (omega (arith, outside, at.0)) in
        let under = subst (λ (k : ℕ). AllByRecursion (λ q. q.number < k → is_forwarded m.code q ≡ false) m.options) (sym at.1) (none-before (is_forwarded m.code) 0 m.options o os are e) in
        record {
          key = key-screened m is.screened ∙ picks-from (in_key m.code) n 0 m.options are (key-is m.code n m.options above under);
          sent = sent-screened m is.screened ∙ picks-from (is_forwarded m.code) n 0 m.options are (sent-is m.code n m.options above under);
        }
