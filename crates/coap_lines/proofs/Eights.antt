-- Eight groups of an IPv6 address as they are written.
use Rattle.std.proofs.Common.{◌≡◌, ℕ, List, ◌++◌, length, get_or, codes, refl, ap, ◌∙◌, append_assoc}
use Rattle.coap_uri.specs.Address.{four_groups, groups_text}
use Rattle.coap_uri.proofs.EightGroups.{eight_groups-all}

-- eight groups in brackets are written by adding the parts one after the other
pub groups_text-added : (segments held one two three four' five : List ℕ) → length segments ≡ 8
    → one ≡ held ++ codes "["
    → two ≡ one ++ four_groups (get_or segments 0 0) (get_or segments 1 0) (get_or segments 2 0) (get_or segments 3 0)
    → three ≡ two ++ codes ":"
    → four' ≡ three ++ four_groups (get_or segments 4 0) (get_or segments 5 0) (get_or segments 6 0) (get_or segments 7 0)
    → five ≡ four' ++ codes "]"
    → five ≡ held ++ groups_text segments
groups_text-added segments held one two three four' five all p q r s t =
    rw (t, s, r, q, p) (regrouped held (front segments) (back segments) ∙ ap (λ (l : List ℕ). held ++ l) (eight_groups-all segments all))
  where
    front : List ℕ → List ℕ
    front xs = four_groups (get_or xs 0 0) (get_or xs 1 0) (get_or xs 2 0) (get_or xs 3 0)

    back : List ℕ → List ℕ
    back xs = four_groups (get_or xs 4 0) (get_or xs 5 0) (get_or xs 6 0) (get_or xs 7 0)

    regrouped : (h f b : List ℕ) → ((((h ++ codes "[") ++ f) ++ codes ":") ++ b) ++ codes "]" ≡ h ++ (codes "[" ++ f ++ codes ":" ++ b ++ codes "]")
    regrouped h f b = simp append_assoc refl
