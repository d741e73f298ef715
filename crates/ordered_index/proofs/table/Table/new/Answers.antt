use Rattle.std.proofs.Common.{◌≡◌, ◌∙◌, ℕ, List, arith, ap, get_or, length, rules, vec_len}
use Rattle.std.proofs.lemmas.List.{get_or-replicate, length-replicate}
use Rattle.ordered_index.specs.Hashed.{place_of, Spread}
use Rattle.ordered_index.specs.Ordered.{Pair}
use Rattle.ordered_index.proofs.Chaining.{new-table}
use Rattle.ordered_index.proofs.table.Table.new.Goals as goal

-- a table of these pairs
abbrev spread : ℕ → List Pair → Spread
spread factor pairs = record { pairs = pairs; factor = factor }

pub invariant_of-result : goal.invariant_of-result
invariant_of-result c =
    let zeros = c.in_ok-heads.ensures.items_if_clones_equal (λ y same. same) in
    let many = ap length zeros ∙ length-replicate {A = ℕ} _ 0 in
    let pairs : vec_len c.in_ok-pairs.pairs ≡ length c.in_ok-pairs.pairs.items = search rules in
    let both : length c.in_ok-pairs.pairs.items ≡ length c.in_ok-nexts.nexts.items = omega (arith, pairs, c.in_ok-pairs.ensures.len, c.in_ok-nexts.ensures.0) in
    let all : c.min-room.result ≡ length c.in_ok-nexts.nexts.items = omega (arith, c.in_ok-nexts.ensures.0) in (
      omega (arith, many),
      (new-table (place_of c.args.factor (length c.in_ok-heads.heads.items)) c.in_ok-pairs.pairs.items c.in_ok-nexts.nexts.items c.in_ok-heads.heads.items c.min-room.result both all c.in_ok-nexts.ensures.1 (λ h lt. ap (λ l. get_or l h 0) zeros ∙ get_or-replicate _ h 0 0 (omega (arith, lt, many)))).0,
    )

pub returns : goal.returns
returns c =
    let zeros = c.in_ok-heads.ensures.items_if_clones_equal (λ y same. same) in
    let many = ap length zeros ∙ length-replicate {A = ℕ} _ 0 in
    let pairs : vec_len c.in_ok-pairs.pairs ≡ length c.in_ok-pairs.pairs.items = search rules in
    let both : length c.in_ok-pairs.pairs.items ≡ length c.in_ok-nexts.nexts.items = omega (arith, pairs, c.in_ok-pairs.ensures.len, c.in_ok-nexts.ensures.0) in
    let all : c.min-room.result ≡ length c.in_ok-nexts.nexts.items = omega (arith, c.in_ok-nexts.ensures.0) in
    record {
      empty = ap (spread c.args.factor) ((new-table (λ key. key) c.in_ok-pairs.pairs.items c.in_ok-nexts.nexts.items c.in_ok-heads.heads.items c.min-room.result both all c.in_ok-nexts.ensures.1 (λ h lt. ap (λ l. get_or l h 0) zeros ∙ get_or-replicate _ h 0 0 (omega (arith, lt, many)))).1);
    }
