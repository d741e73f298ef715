-- Options that are taken one by one from the front of those left.
use Rattle.std.proofs.Common.{◌≡◌, ◌≢◌, ℕ, ◌<◌, ◌≤◌, true, false, nat_le, nat_lt, List, [], ◌∷◌, ◌++◌, refl, sym, subst, ◌∙◌, append_assoc, append-nil, arith}
use Rattle.std.proofs.lemmas.Bool.{leb-true, lt-ltb, le-ltb, lt-leb}
use Rattle.coap_message.specs.declared.options.Opt.{Opt}
use Rattle.coap_message.specs.Options.{AreOptions, last_number}
use Rattle.coap_message.proofs.Counting.{last_number-push}
use Rattle.coap_option.specs.Classes.{is_unsafe}
use Rattle.coap_store.specs.Renewing.{above, below, from, safe_options, updated}
use Rattle.coap_store.proofs.Picked.{AreOptions-above, AreOptions-filter, AreOptions-weaken, above-all, above-from, below-none, from-all, last-below, last_number-append}

-- none is left, and all safe ones were added
pub all-safe : (all list left : List Opt) → left ≡ [] → safe_options all ≡ list ++ safe_options left → list ≡ safe_options all
all-safe all list left none picked = sym (picked ∙ rw none (append-nil list))

-- x is the first of those left
module _ (left rest : List Opt) (x : Opt) (next : left ≡ x ∷ rest) where
  -- it is in order
  pub next-in_order : (before : ℕ) → AreOptions before left → AreOptions before (x ∷ rest)
  next-in_order before are = subst (AreOptions before) next are

  -- and the others are in order after it
  pub rest-in_order : (before : ℕ) → AreOptions before left → AreOptions x.number rest
  rest-in_order before are = (subst (AreOptions before) next are).3

  -- so they are after what stands before it
  pub skipped-in_order : (before : ℕ) → AreOptions before left → AreOptions before rest
  skipped-in_order before are = let in_order = subst (AreOptions before) next are in AreOptions-weaken before x.number rest in_order.0 in_order.3

  -- those left are in order from it on
  from-first : (before : ℕ) → AreOptions before left → AreOptions x.number left
  from-first before are = let in_order = subst (AreOptions before) next are in subst (AreOptions x.number) (sym next) (omega arith, in_order.1, in_order.2, in_order.3)

  module _ (list more : List Opt) (pushed : more ≡ list ++ x ∷ []) where
    -- it is added after a list
    pub pushed-in_order : AreOptions (last_number 0 list) left → AreOptions (last_number 0 more) rest
    pushed-in_order are = rw (pushed, last_number-push 0 list x) (rest-in_order (last_number 0 list) are)

    pub pushed-all : more ++ rest ≡ list ++ left
    pushed-all = rw (pushed, next) (append_assoc list (x ∷ []) rest)

    pub pushed-below : (number : ℕ) → x.number < number → more ++ below number rest ≡ list ++ below number left
    pushed-below number less = rw (pushed, next, lt-ltb x.number number less) (append_assoc list (x ∷ []) (below number rest))

    pub pushed-safe : is_unsafe x.number ≡ false → more ++ safe_options rest ≡ list ++ safe_options left
    pushed-safe safe = rw (pushed, next, safe) (append_assoc list (x ∷ []) (safe_options rest))

  -- an unsafe option that comes is none of the safe ones
  pub skipped-safe : is_unsafe x.number ≡ true → safe_options rest ≡ safe_options left
  skipped-safe unsafe = rw (next, unsafe) refl

  -- an option below a number is none of those from it on
  pub skipped-from : (number : ℕ) → x.number < number → from number rest ≡ from number left
  skipped-from number less = rw (next, lt-leb number x.number less) refl

  -- it isn't below the number, and so none is
  pub stops-below : (number before : ℕ) → number ≤ x.number → AreOptions before left → below number left ≡ []
  stops-below number before le are = below-none number x.number left le (from-first before are)

  -- from an option on, all are from a number on that is no greater
  pub stops-from : (number before : ℕ) → number ≤ x.number → AreOptions before left → from number left ≡ left
  stops-from number before le are = from-all number x.number left le (from-first before are)

  -- it has the number
  pub skipped-above : (number : ℕ) → x.number ≡ number → above number rest ≡ above number left
  skipped-above number same = rw (next, le-ltb number x.number (omega arith)) refl

  -- it has another, and so all have
  pub stops-above : (number : ℕ) → x.number ≢ number → AreOptions number left → above number left ≡ left
  stops-above number other are = let in_order = subst (AreOptions number) next are in above-all number x.number left (omega (arith, in_order.0, other)) (from-first number are)

-- x is the first of the newer options
module _ (newer rest older : List Opt) (x : Opt) (next : newer ≡ x ∷ rest) (list : List Opt) (in_order : AreOptions (last_number 0 list) newer) (older_in_order : AreOptions (last_number 0 list) older) where
  -- the older ones below it are added before it
  pub last-before_new : last_number 0 (list ++ below x.number older) ≤ x.number
  last-before_new = rw last_number-append (last-below x.number (last_number 0 list) older (subst (AreOptions (last_number 0 list)) next in_order).0)

  -- the older options from a number on are in order
  pub older-from : AreOptions x.number (from x.number older)
  older-from = AreOptions-above (λ o. nat_le x.number o.number) x.number (last_number 0 list) older (λ o holds. leb-true x.number o.number holds) older_in_order

  -- what stands above a number stands above it from there on too
  pub older-above : above x.number (from x.number older) ≡ above x.number older
  older-above = above-from x.number older

  -- and is in order
  pub older-above-in_order : AreOptions x.number (above x.number older)
  older-above-in_order = subst (AreOptions x.number) older-above (AreOptions-filter (λ o. nat_lt x.number o.number) x.number (from x.number older) older-from)

  -- one newer option more is put in its place
  pub updated-step : list ++ updated newer older ≡ ((list ++ below x.number older) ++ x ∷ []) ++ updated rest (above x.number older)
  updated-step = rw next (sym (append_assoc (list ++ below x.number older) (x ∷ []) (updated rest (above x.number older)) ∙ append_assoc list (below x.number older) (x ∷ updated rest (above x.number older))))
