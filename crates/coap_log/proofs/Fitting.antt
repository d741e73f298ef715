-- What there is room for.
use Rattle.std.proofs.Common.{◌≡◌, ℕ, zero, suc, List, [], ◌∷◌, ◌++◌, take, refl, ap, ◌∙◌}
use Rattle.std.proofs.lemmas.List.{append_assoc}
use Rattle.coap_message.specs.Datagram.{Datagram, holding}

-- what is cut after a cut is cut once
pub take-more : (n : ℕ) (xs ys : List ℕ) → take n (take n xs ++ ys) ≡ take n (xs ++ ys)
take-more zero xs ys = refl
take-more (suc n) [] ys = refl
take-more (suc n) (x ∷ xs) ys = ap (λ l. x ∷ l) (take-more n xs ys)

-- three texts, one after the other, each as far as there is room
pub three : (d e f g : Datagram) (x y z : List ℕ)
    → e ≡ holding d (take d.room (d.bytes ++ x))
    → f ≡ holding e (take e.room (e.bytes ++ y))
    → g ≡ holding f (take f.room (f.bytes ++ z))
    → g ≡ holding d (take d.room (d.bytes ++ (x ++ y ++ z)))
three d e f g x y z first second third =
    rw (third, second, first)
    (ap (λ bs. holding d bs)
    (ap (λ t. take d.room (t ++ z)) (take-more d.room (d.bytes ++ x) y)
    ∙ take-more d.room (d.bytes ++ x ++ y) z
    ∙ ap (take d.room) (simp append_assoc)))
