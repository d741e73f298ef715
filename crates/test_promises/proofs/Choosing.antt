-- Definitions of a choice, which one thing alone meets.
use Rattle.std.proofs.Common.{◌≡◌, ℕ, ◌<◌, ◌≤◌, true, false, List, [], ◌∷◌, ◌++◌, length, Option, Some, None, refl, sym, ap, ◌∙◌, subst, arith}
use Rattle.std.specs.List.{AllByRecursion}
use Rattle.coap_store.specs.Lists.{IsLongestBeginning}
use Rattle.coap_target.specs.declared.map.Map.{Map}
use Rattle.coap_target.specs.Routes.{begins, map_of}
use Rattle.coap_target.specs.Winner.{Wins}
use Rattle.coap_target.proofs.Winners.{map_of-none, map_of-wins}

-- what holds of all elements holds of one among them
among : {X : Type 0} (P : X → Type 0) (before after : List X) (x : X) → AllByRecursion P (before ++ x ∷ after) → P x
among P [] after x all = all.0
among P (b ∷ before) after x all = among P before after x all.1

-- equal lists have equal first elements and equal rests
same-parts : {X : Type 0} (x y : X) (xs ys : List X) → x ∷ xs ≡ y ∷ ys → (x ≡ y) × (xs ≡ ys)
same-parts x y xs ys same = (cc, cc)

-- ---- maps

-- a map whose prefix begins the path isn't longer than another
abbrev Shorter : List (List ℕ) → Map → Map → Type 0
Shorter path m n = begins n.prefix path ≡ true → length n.prefix < length m.prefix

abbrev NoLonger : List (List ℕ) → Map → Map → Type 0
NoLonger path m n = begins n.prefix path ≡ true → length n.prefix ≤ length m.prefix

-- of two maps that stand in a list, both of which win, neither stands before the other
one-there : (path : List (List ℕ)) (m n : Map) (before after others rest : List Map) → begins m.prefix path ≡ true → begins n.prefix path ≡ true → AllByRecursion (Shorter path m) before → AllByRecursion (NoLonger path m) after → AllByRecursion (Shorter path n) others → AllByRecursion (NoLonger path n) rest
    → before ++ m ∷ after ≡ others ++ n ∷ rest → m ≡ n
one-there path m n [] after [] rest is_m is_n before_m after_m before_n after_n same = (same-parts m n after rest same).0
one-there path m n [] after (k ∷ others) rest is_m is_n before_m after_m before_n after_n same =
    let parts = same-parts m k after (others ++ n ∷ rest) same in
    let less : length m.prefix < length n.prefix = subst (Shorter path n) (sym parts.0) before_n.0 is_m in
    let most : length n.prefix ≤ length m.prefix = among (NoLonger path m) others rest n (subst (AllByRecursion (NoLonger path m)) parts.1 after_m) is_n in
    absurd (omega (arith, less, most))
one-there path m n (k ∷ before) after [] rest is_m is_n before_m after_m before_n after_n same =
    let parts = same-parts k n (before ++ m ∷ after) rest same in
    let less : length n.prefix < length m.prefix = subst (Shorter path m) parts.0 before_m.0 is_n in
    let most : length m.prefix ≤ length n.prefix = among (NoLonger path n) before after m (subst (AllByRecursion (NoLonger path n)) (sym parts.1) after_n) is_m in
    absurd (omega (arith, less, most))
one-there path m n (k ∷ before) after (j ∷ others) rest is_m is_n before_m after_m before_n after_n same =
    one-there path m n before after others rest is_m is_n before_m.1 after_m before_n.1 after_n (same-parts k j (before ++ m ∷ after) (others ++ n ∷ rest) same).1

-- so one map wins
pub one-wins : (maps : List Map) (path : List (List ℕ)) (m n : Map) → Wins maps path m → Wins maps path n → m ≡ n
one-wins maps path m n w v = one-there path m n w.earlier w.later v.earlier v.later w.begins_path v.begins_path w.longer_than_earlier w.as_long_as_later v.longer_than_earlier v.as_long_as_later (sym w.among ∙ v.among)

-- and it is the one that is found
pub winner-found : (maps : List Map) (path : List (List ℕ)) (m : Map) → Wins maps path m → map_of maps path ≡ Some m
winner-found maps path m w = go (map_of maps path) refl
  where
    go : (found : Option Map) → map_of maps path ≡ found → found ≡ Some m
    go None none =
        let all = subst (AllByRecursion (λ n. begins n.prefix path ≡ false)) w.among (map_of-none maps path none) in
        let not : begins m.prefix path ≡ false = among (λ n. begins n.prefix path ≡ false) w.earlier w.later m all in
        absurd (let e = sym w.begins_path ∙ not in cc)
    go (Some n) is = ap Some (one-wins maps path n m (map_of-wins maps path n is) w)

-- ---- beginnings

-- two beginnings of a list with one length are equal
same-beginning : {X : Type 0} (ys zs more rest : List X) → ys ++ more ≡ zs ++ rest → length ys ≡ length zs → ys ≡ zs
same-beginning [] [] more rest same long = refl
same-beginning [] (z ∷ zs) more rest same long = absurd (omega (arith, long))
same-beginning (y ∷ ys) [] more rest same long = absurd (omega (arith, long))
same-beginning (y ∷ ys) (z ∷ zs) more rest same long =
    let parts = same-parts y z (ys ++ more) (zs ++ rest) same in
    let tails = same-beginning ys zs more rest parts.1 (omega (arith, long)) in
    λ i. parts.0 i ∷ tails i

-- so one is the longest
pub one-longest : {X : Type 0} (size : X → ℕ) (bytes count : ℕ) (xs ys zs : List X) → IsLongestBeginning size bytes count xs ys → IsLongestBeginning size bytes count xs zs → ys ≡ zs
one-longest size bytes count xs ys zs a b =
    let more : length zs ≤ length ys = a.longest zs b.rest b.beginning b.within_bytes b.within_count in
    let less : length ys ≤ length zs = b.longest ys a.rest a.beginning a.within_bytes a.within_count in
    same-beginning ys zs a.rest b.rest (sym a.beginning ∙ b.beginning) (omega (arith, more, less))
