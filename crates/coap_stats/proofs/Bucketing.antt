-- The buckets of a histogram, one after the other.
use Rattle.std.proofs.Common.{◌≡◌, ℕ, List, [], ◌∷◌, ◌++◌, ◌⊎◌, inl, inr, Bor, map, refl, sym, ap, ◌∙◌}
use Rattle.std.proofs.lemmas.List.{append-nil, append_assoc}
use Rattle.std.specs.List.{flat_map, zip}
use Rattle.coap_counts.specs.declared.times.Bucket.{Bucket}
use Rattle.coap_stats.specs.Line.{Word}

-- the keys and the numbers of those that are left
abbrev pub words_of : List (Bor (List ℕ)) → List Bucket → List Word
words_of keys buckets = zip (map (λ k. k.now) keys) (map (λ b. b.count) buckets)

none_left : (keys : List (Bor (List ℕ))) → words_of keys [] ≡ []
none_left [] = refl
none_left (k ∷ keys) = refl

none_of : (keys : List (Bor (List ℕ))) (buckets : List Bucket) → (keys ≡ []) ⊎ (buckets ≡ []) → words_of keys buckets ≡ []
none_of keys buckets (inl none) = ap (λ ks. words_of ks buckets) none
none_of keys buckets (inr none) = ap (words_of keys) none ∙ none_left keys

module _ (text : Word → List ℕ) where
  -- one more was added
  pub buckets-more : (keys behind : List (Bor (List ℕ))) (buckets after : List Bucket) (k : Bor (List ℕ)) (b : Bucket) (o all so_far now : List ℕ)
      → keys ≡ k ∷ behind
      → buckets ≡ b ∷ after
      → so_far ++ flat_map text (words_of keys buckets) ≡ o ++ all
      → now ≡ so_far ++ text (k.now, b.count)
      → now ++ flat_map text (words_of behind after) ≡ o ++ all
  buckets-more keys behind buckets after k b o all so_far now first second before next =
      ap (λ t. t ++ flat_map text (words_of behind after)) next
      ∙ append_assoc so_far (text (k.now, b.count)) (flat_map text (words_of behind after))
      ∙ ap (λ ws. so_far ++ flat_map text ws) (sym (ap (λ ks. words_of ks buckets) first ∙ ap (words_of (k ∷ behind)) second))
      ∙ before

  -- all were added
  pub buckets-end : (keys : List (Bor (List ℕ))) (buckets : List Bucket) (all so_far : List ℕ)
      → (keys ≡ []) ⊎ (buckets ≡ [])
      → so_far ++ flat_map text (words_of keys buckets) ≡ all
      → so_far ≡ all
  buckets-end keys buckets all so_far none before =
      sym (append-nil so_far) ∙ ap (λ ws. so_far ++ flat_map text ws) (sym (none_of keys buckets none)) ∙ before
