-- The values of the options with one number, which are adjacent.
use Rattle.std.proofs.Common.{◌≡◌, ℕ, ◌<◌, Bool, false, List, [], ◌∷◌, refl, sym, ap, subst, ◌∙◌, inl, inr, arith}
use Rattle.std.specs.List.{list_any}
use Rattle.std.proofs.lemmas.Bool.{cases_lt, ne_eqb}
use Rattle.coap_message.specs.declared.options.Opt.{Opt}
use Rattle.coap_message.specs.Options.{AreOptions, from_number}
use Rattle.coap_message.proofs.Runs.{from-below, from-here, values-above, values-other}
use Rattle.coap_option.proofs.Picking.{AreOptions-from}
use Rattle.coap_target.specs.Routes.{values_of}

-- no option before that has the number
pub values-from : (n : ℕ) (os : List Opt) → values_of n (from_number n os) ≡ values_of n os
values-from n [] = refl
values-from n (o ∷ os) =
    elim (cases_lt o.number n) [
      | inl below ↦ ap (values_of n) (from-below n o os below) ∙ values-from n os ∙ sym (values-other n o os below)
      | inr above ↦ ap (values_of n) (from-here n o os above)
    ]

-- The next of the remaining options.
module _ (n : ℕ) (left rest : List Opt) (o : Opt) (next : left ≡ o ∷ rest) (are : AreOptions 0 left) where
  -- those after it are in order
  pub rest-in_order : AreOptions 0 rest
  rest-in_order = let from = subst (AreOptions 0) next are in AreOptions-from 0 o.number rest from.0 from.3

  -- if its number is greater, no value is left
  pub values-past : n < o.number → (values_of n left ≡ []) × (values_of n rest ≡ [])
  values-past above =
      let from = subst (AreOptions 0) next are in
      (ap (values_of n) next ∙ values-above n o.number (o ∷ rest) (omega arith, from.1, from.2, from.3) above, values-above n o.number rest from.3 above)

  -- if its number is another, those after it have all the values
  pub values-passed : (o.number ≡ n → ⊥) → values_of n rest ≡ values_of n left
  values-passed other = sym (ap (values_of n) next ∙ rw (ne_eqb o.number n other) refl)

-- if a test fails for options with lower numbers, it holds for any option exactly if it holds for
-- any from the number on
pub any-from : (test : Opt → Bool) (n : ℕ) (os : List Opt) → ((o : Opt) → o.number < n → test o ≡ false) → list_any test (from_number n os) ≡ list_any test os
any-from test n [] fails = refl
any-from test n (o ∷ os) fails =
    elim (cases_lt o.number n) [
      | inl below ↦ ap (list_any test) (from-below n o os below) ∙ any-from test n os fails ∙ sym (rw (fails o below) refl)
      | inr above ↦ ap (list_any test) (from-here n o os above)
    ]
