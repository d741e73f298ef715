-- Where no option is refused, an option alone shows whether it is forwarded.
use Rattle.std.proofs.Common.{◌≡◌, ℕ, Bool, true, false, cond, eqb, List, [], ◌∷◌, ◌++◌, length, Some, None, option_map, map, filter, find, refl, sym, ap, subst, ◌∙◌}
use Rattle.std.specs.Prelude.{◌&&◌, ◌||◌, ◌==◌, not}
use Rattle.std.specs.List.{AllByRecursion, list_any, list_all}
use Rattle.std.proofs.lemmas.Bool.{eqb-true, and_parts}
use Rattle.coap_message.specs.declared.code.Code.{Code}
use Rattle.coap_message.specs.declared.code.TheConstants.Code.{GET}
use Rattle.coap_message.specs.declared.options.Opt.{Opt}
use Rattle.coap_message.specs.Codes.{is_code}
use Rattle.coap_option.specs.declared.side.Side.TheVariants.{Request}
use Rattle.coap_message.specs.Message.{Message}
use Rattle.coap_option.specs.Classes.{is_no_cache_key, is_unsafe}
use Rattle.coap_option.specs.Places.{PlacedOption, places, places_behind, is_recognised_at}
use Rattle.coap_option.specs.Recognition.{is_recognised}
use Rattle.coap_option.specs.Screening.{is_refused, first_refused}
use Rattle.coap_option.specs.Selection.{is_forwarded, is_key, is_tag_of_get, is_used_up, key_of, sent_on, is_withheld, used_up}
use Rattle.coap_option.specs.Survey.{outside_key}

-- what holds of all of a list holds of each of them
all-any : (test : ℕ → Bool) (number : ℕ) (ns : List ℕ) → list_all test ns ≡ true → list_any (λ n. n == number) ns ≡ true → test number ≡ true
all-any test number [] all any = absurd cc
all-any test number (n ∷ ns) all any =
    let parts = and_parts (test n) (list_all test ns) all in
    go (eqb n number) refl parts.0 (all-any test number ns parts.1) any
  where
    go : (b : Bool) → eqb n number ≡ b → test n ≡ true → (list_any (λ k. k == number) ns ≡ true → test number ≡ true) → (b || list_any (λ k. k == number) ns) ≡ true → test number ≡ true
    go true e first rest any' = subst (λ (k : ℕ). test k ≡ true) (eqb-true n number e) first
    go false e first rest any' = rest any'

-- an option that goes on is part of the key
abbrev pub in_key : Code → Opt → Bool
in_key code o = is_forwarded code o && not (is_no_cache_key o.number)

-- in its place an option that is used up is recognised
abbrev pub IsClean : PlacedOption → Type 0
IsClean p = is_used_up p.option.number ≡ true → is_recognised_at Request p ≡ true

-- what isn't refused is clean
clean : (p : PlacedOption) → is_refused Request p ≡ false → IsClean p
clean p passes used = go (is_unsafe p.option.number) (is_recognised_at Request p) (all-any is_unsafe p.option.number used_up refl used) passes
  where
    go : (u r : Bool) → u ≡ true → (u && not r) ≡ false → r ≡ true
    go u true is passes' = refl
    go true false is passes' = absurd cc
    go false false is passes' = absurd cc

-- whether what is clean is sent on shows without its place
pub goes-on : (code : Code) (p : PlacedOption) → IsClean p → not (is_withheld code p) ≡ is_forwarded code p.option
goes-on code p is = go (is_used_up p.option.number) refl (is_tag_of_get code p.option.number) refl (is_recognised_at Request p) refl
  where
    tag : (n : ℕ) → n ≡ 4 → is_recognised Request n (length p.option.value) p.before ≡ is_recognised Request n (length p.option.value) 0
    tag n four = rw four refl

    go : (u : Bool) → is_used_up p.option.number ≡ u → (t : Bool) → is_tag_of_get code p.option.number ≡ t → (r : Bool) → is_recognised_at Request p ≡ r
        → not (r && (u || t)) ≡ not (u || (t && is_recognised Request p.option.number (length p.option.value) 0))
    go true used t e true f = refl
    go true used t e false f = absurd (let g = sym f ∙ is used in cc)
    go false used false e true f = refl
    go false used false e false f = refl
    go false used true e r f =
        let number = eqb-true p.option.number 4 (and_parts (is_code code GET) (p.option.number == 4) e).1 in
        same r (is_recognised Request p.option.number (length p.option.value) 0) (sym f ∙ tag p.option.number number)
      where
        same : (a b : Bool) → a ≡ b → not (a && true) ≡ not b
        same true b is' = ap not is'
        same false b is' = ap not is'

-- ---- options in their places

-- the options of places are the options
pub of-places : (passed os : List Opt) → map (λ p. p.option) (places_behind passed os) ≡ os
of-places passed [] = refl
of-places passed (o ∷ os) = ap (λ (l : List Opt). o ∷ l) (of-places (passed ++ o ∷ []) os)

-- places of which none is refused are clean
all-clean : (ps : List PlacedOption) → option_map (λ p. p.option.number) (find (is_refused Request) ps) ≡ None → AllByRecursion IsClean ps
all-clean [] none = tt
all-clean (p ∷ ps) none = go (is_refused Request p) refl (all-clean ps) none
  where
    go : (b : Bool) → is_refused Request p ≡ b → (option_map {T = PlacedOption} (λ q. q.option.number) (find (is_refused Request) ps) ≡ None → AllByRecursion IsClean ps)
        → option_map {T = PlacedOption} (λ q. q.option.number) (cond b (Some p) (find (is_refused Request) ps)) ≡ None → AllByRecursion IsClean (p ∷ ps)
    go true e rest none' = absurd cc
    go false e rest none' = (clean p e, rest none')

-- all options of a list are clean where they stand
abbrev pub AreClean : List Opt → Type 0
AreClean os = AllByRecursion IsClean (places os)

-- so are those of a request that was screened
pub screened-clean : (os : List Opt) → first_refused Request os ≡ None → AreClean os
screened-clean os screened = all-clean (places os) screened

-- a test that shows by the option alone for what is clean does so for all that are
pub all-alone : (test : PlacedOption → Bool) (alone : Opt → Bool) (ps : List PlacedOption) → ((p : PlacedOption) → IsClean p → test p ≡ alone p.option) → AllByRecursion IsClean ps → AllByRecursion (λ p. test p ≡ alone p.option) ps
all-alone test alone [] shows all = tt
all-alone test alone (p ∷ ps) shows all = (shows p all.0, all-alone test alone ps shows all.1)

-- where a test is one of the option alone, what is picked by places is picked by options
picked : (test : PlacedOption → Bool) (keep : Opt → Bool) (ps : List PlacedOption) → AllByRecursion (λ p. test p ≡ keep p.option) ps → map (λ p. p.option) (filter test ps) ≡ filter keep (map (λ p. p.option) ps)
picked test keep [] all = refl
picked test keep (p ∷ ps) all = go (keep p.option) all.0 (picked test keep ps all.1)
  where
    go : (b : Bool) → test p ≡ b → map (λ q. q.option) (filter test ps) ≡ filter keep (map (λ q. q.option) ps)
        → map (λ q. q.option) (filter test (p ∷ ps)) ≡ cond b (p.option ∷ filter keep (map (λ q. q.option) ps)) (filter keep (map (λ q. q.option) ps))
    go true e rest = rw (e, rest) refl
    go false e rest = rw (e, rest) refl

-- what is sent on of clean options
pub sent-clean : (m : Message) → AreClean m.options → sent_on m ≡ filter (is_forwarded m.code) m.options
sent-clean m are =
    picked (λ p. not (is_withheld m.code p)) (is_forwarded m.code) (places m.options) (all-alone (λ p. not (is_withheld m.code p)) (is_forwarded m.code) (places m.options) (goes-on m.code) are)
    ∙ ap (filter (is_forwarded m.code)) (of-places [] m.options)

-- and their key
pub key-clean : (m : Message) → AreClean m.options → key_of m ≡ filter (in_key m.code) m.options
key-clean m are =
    picked (is_key m.code) (in_key m.code) (places m.options) (all-alone (is_key m.code) (in_key m.code) (places m.options) (λ p is. ap (λ (b : Bool). b && not (is_no_cache_key p.option.number)) (goes-on m.code p is)) are)
    ∙ ap (filter (in_key m.code)) (of-places [] m.options)

-- the key of a request that was screened
pub key-screened : (m : Message) → first_refused Request m.options ≡ None → key_of m ≡ filter (in_key m.code) m.options
key-screened m screened = key-clean m (screened-clean m.options screened)

-- what is sent on of a request that was screened
pub sent-screened : (m : Message) → first_refused Request m.options ≡ None → sent_on m ≡ filter (is_forwarded m.code) m.options
sent-screened m screened = sent-clean m (screened-clean m.options screened)

-- what isn't part of the key of a request that was screened
pub outside-screened : (m : Message) → first_refused Request m.options ≡ None → outside_key m ≡ filter (λ o. not (in_key m.code o)) m.options
outside-screened m screened =
    let out : PlacedOption → Bool = λ p. not (is_key m.code p) in
    let outside : Opt → Bool = λ o. not (in_key m.code o) in
    picked out outside (places m.options) (all-alone out outside (places m.options) (λ p is. ap (λ (b : Bool). not (b && not (is_no_cache_key p.option.number))) (goes-on m.code p is)) (screened-clean m.options screened))
    ∙ ap (filter outside) (of-places [] m.options)
