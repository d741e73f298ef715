-- Eight groups of an IPv6 address as text.
use Rattle.std.proofs.Common.{◌≡◌, ℕ, List, [], ◌∷◌, ◌++◌, length, get_or, codes, refl, sym, subst, arith, append_assoc}
use Rattle.std.specs.List.{join_with_byte}
use Rattle.coap_uri.specs.Address.{eight_groups, groups_text}

-- a list of eight is the list of its eight items
eight : (xs : List ℕ) → length xs ≡ 8 → xs ≡ get_or xs 0 0 ∷ get_or xs 1 0 ∷ get_or xs 2 0 ∷ get_or xs 3 0 ∷ get_or xs 4 0 ∷ get_or xs 5 0 ∷ get_or xs 6 0 ∷ get_or xs 7 0 ∷ []
eight [] few = absurd (omega arith)
eight (a ∷ []) few = absurd (omega arith)
eight (a ∷ b ∷ []) few = absurd (omega arith)
eight (a ∷ b ∷ c ∷ []) few = absurd (omega arith)
eight (a ∷ b ∷ c ∷ d ∷ []) few = absurd (omega arith)
eight (a ∷ b ∷ c ∷ d ∷ e ∷ []) few = absurd (omega arith)
eight (a ∷ b ∷ c ∷ d ∷ e ∷ f ∷ []) few = absurd (omega arith)
eight (a ∷ b ∷ c ∷ d ∷ e ∷ f ∷ g ∷ []) few = absurd (omega arith)
eight (a ∷ b ∷ c ∷ d ∷ e ∷ f ∷ g ∷ h ∷ []) all = refl
eight (a ∷ b ∷ c ∷ d ∷ e ∷ f ∷ g ∷ h ∷ i ∷ xs) many = absurd (omega arith)

-- eight texts in brackets, with colons between them
joined : (a b c d e f g h : List ℕ) → codes "[" ++ (a ++ codes ":" ++ b ++ codes ":" ++ c ++ codes ":" ++ d) ++ codes ":" ++ (e ++ codes ":" ++ f ++ codes ":" ++ g ++ codes ":" ++ h) ++ codes "]" ≡ codes "[" ++ join_with_byte 58 (a ∷ b ∷ c ∷ d ∷ e ∷ f ∷ g ∷ h ∷ []) ++ codes "]"
joined a b c d e f g h = simp append_assoc refl

-- eight groups, one after the other, are the text of all
pub eight_groups-all : (segments : List ℕ) → length segments ≡ 8 → eight_groups segments ≡ groups_text segments
eight_groups-all segments all =
    subst (λ (xs : List ℕ). eight_groups segments ≡ groups_text xs) (sym (eight segments all)) (joined _ _ _ _ _ _ _ _)
