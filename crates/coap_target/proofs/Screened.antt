-- In a request that was screened, option values are as long as their definitions allow.
use Rattle.std.proofs.Common.{◌≡◌, ◌==◌, ℕ, ◌≤◌, Bool, true, false, cond, ◌&&◌, not, nat_le, List, [], ◌∷◌, ◌++◌, length, filter, map, find, Option, Some, None, option_map, refl}
use Rattle.std.specs.List.{AllByRecursion}
use Rattle.std.proofs.lemmas.Bool.{and_parts, eqb-true, leb-true}
use Rattle.coap_message.specs.Message.{Message}
use Rattle.coap_message.specs.declared.options.Opt.{Opt}
use Rattle.coap_option.specs.declared.side.Side.TheVariants.{Request}
use Rattle.coap_option.specs.Classes.{is_unsafe}
use Rattle.coap_option.specs.Places.{PlacedOption, places, places_behind, count_of}
use Rattle.coap_option.specs.Recognition.{is_recognised}
use Rattle.coap_option.specs.Screening.{is_refused, first_refused}
use Rattle.coap_target.specs.Routes.{values_of, path_of, query_of}
use Rattle.coap_target.specs.Request.{first_value}

-- nothing was refused
not-refused : (ps : List PlacedOption) → option_map (λ p. p.option.number) (find (is_refused Request) ps) ≡ None → find (is_refused Request) ps ≡ None
not-refused ps none = go (find (is_refused Request) ps) none
  where
    go : (o : Option PlacedOption) → option_map (λ p. p.option.number) o ≡ None → o ≡ None
    go None is = refl
    go (Some p) is = absurd cc

-- the place of an option after those passed
abbrev place_behind : List Opt → Opt → PlacedOption
place_behind passed o = record { option = o; before = count_of o.number passed }

-- An option with the number n, which is unsafe, has at most `most` bytes if it is recognised.
module _ (n most : ℕ) (unsafe : is_unsafe n ≡ true) (range : (length before : ℕ) → is_recognised Request n length before ≡ true → nat_le length most ≡ true) where
  -- so one that isn't refused is short enough
  passed-short : (p : PlacedOption) → p.option.number ≡ n → is_refused Request p ≡ false → length p.option.value ≤ most
  passed-short p is passes =
      let told : (is_unsafe n && not (is_recognised Request n (length p.option.value) p.before)) ≡ false = rw is at passes in
      leb-true (length p.option.value) most (range (length p.option.value) p.before (go (is_unsafe n) (is_recognised Request n (length p.option.value) p.before) unsafe told))
    where
      go : (u r : Bool) → u ≡ true → (u && not r) ≡ false → r ≡ true
      go u true of told' = refl
      go true false of told' = absurd cc
      go false r of told' = absurd cc

  -- so are all with this number
  values-behind : (passed options : List Opt) → find (is_refused Request) (places_behind passed options) ≡ None → AllByRecursion (λ v. length v ≤ most) (values_of n options)
  values-behind passed [] none = tt
  values-behind passed (o ∷ options) none = go (λ e. values-behind (passed ++ o ∷ []) options e) (is_refused Request (place_behind passed o)) refl none
    where
      keep : AllByRecursion (λ v. length v ≤ most) (values_of n options) → is_refused Request (place_behind passed o) ≡ false → (b : Bool) → (o.number == n) ≡ b → AllByRecursion (λ v. length v ≤ most) (map (λ x. x.value) (cond b (o ∷ filter (λ x. x.number == n) options) (filter (λ x. x.number == n) options)))
      keep rest passes true is = (passed-short (place_behind passed o) (eqb-true o.number n is) passes, rest)
      keep rest passes false is = rest

      go : (find (is_refused Request) (places_behind (passed ++ o ∷ []) options) ≡ None → AllByRecursion (λ v. length v ≤ most) (values_of n options)) → (b : Bool) → is_refused Request (place_behind passed o) ≡ b → cond b (Some (place_behind passed o)) (find (is_refused Request) (places_behind (passed ++ o ∷ []) options)) ≡ None → AllByRecursion (λ v. length v ≤ most) (map (λ x. x.value) (filter (λ x. x.number == n) (o ∷ options)))
      go rest true is none' = absurd cc
      go rest false is none' = keep (rest none') is (o.number == n) refl

  -- so are those of a request that was screened
  pub values-short : (options : List Opt) → first_refused Request options ≡ None → AllByRecursion (λ v. length v ≤ most) (values_of n options)
  values-short options none = values-behind [] options (not-refused (places options) none)

-- so is the first of them
first-short : (most : ℕ) (values : List (List ℕ)) (value : List ℕ) → AllByRecursion (λ v. length v ≤ most) values → Some value ≡ first_value values → length value ≤ most
first-short most [] value all is = absurd cc
first-short most (v ∷ values) value all is = let same : v ≡ value = cc in rw (← same) all.0

-- for Uri-Port
pub uri_port-short : (options : List Opt) (value : List ℕ) → first_refused Request options ≡ None → Some value ≡ first_value (values_of 7 options) → length value ≤ 2
uri_port-short options value screened is =
    first-short 2 (values_of 7 options) value
    (values-short 7 2 refl (λ length before fits. (and_parts (nat_le 0 length) (nat_le length 2) (and_parts (nat_le 0 length && nat_le length 2) (before == 0) fits).0).1) options screened)
    is

-- for Uri-Path
pub path_of-short : (m : Message) → first_refused Request m.options ≡ None → AllByRecursion (λ v. length v ≤ 255) (path_of m)
path_of-short m screened =
    values-short 11 255 refl (λ length before fits. (and_parts (nat_le 0 length) (nat_le length 255) (and_parts (nat_le 0 length && nat_le length 255) true fits).0).1) m.options screened

-- for Uri-Query
pub query_of-short : (m : Message) → first_refused Request m.options ≡ None → AllByRecursion (λ v. length v ≤ 255) (query_of m)
query_of-short m screened =
    values-short 15 255 refl (λ length before fits. (and_parts (nat_le 0 length) (nat_le length 255) (and_parts (nat_le 0 length && nat_le length 255) true fits).0).1) m.options screened

-- for Uri-Host
pub uri_host-short : (m : Message) (value : List ℕ) → first_refused Request m.options ≡ None → Some value ≡ first_value (values_of 3 m.options) → length value ≤ 255
uri_host-short m value screened is =
    first-short 255 (values_of 3 m.options) value
    (values-short 3 255 refl (λ length before fits. (and_parts (nat_le 1 length) (nat_le length 255) (and_parts (nat_le 1 length && nat_le length 255) (before == 0) fits).0).1) m.options screened)
    is
