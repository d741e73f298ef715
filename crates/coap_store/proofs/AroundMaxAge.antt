-- Options on the two sides of a Max-Age.
use Rattle.std.proofs.Common.{◌≡◌, ℕ, ◌+◌, ◌≤◌, List, [], ◌∷◌, ◌++◌, length, Result, Ok, Err, sym, ap, subst, ◌∙◌, arith}
use Rattle.coap_message.specs.declared.error.Full.{Full}
use Rattle.coap_message.specs.Datagram.{Datagram, Appends}
use Rattle.coap_message.proofs.Appending.{Appends-full, Appends-behind}
use Rattle.std.proofs.lemmas.Bool.{ltb-true}
use Rattle.std.proofs.lemmas.List.{length-append}
use Rattle.coap_message.specs.declared.options.Opt.{Opt}
use Rattle.coap_message.specs.Options.{AreOptions, last_number}
use Rattle.coap_message.specs.Spelling.{option_length, options_length, options_spelling}
use Rattle.coap_store.specs.declared.show.MaxAgeSide.{MaxAgeSide}
use Rattle.coap_store.specs.declared.show.MaxAgeSide.TheVariants.{Before, After}
use Rattle.coap_store.specs.Renewing.{max_age_option, with_max_age}
use Rattle.coap_store.specs.Writing.{floor_of, is_in, side_of}
use Rattle.coap_message.proofs.OptionSpellings.{options_spelling-append}
use Rattle.coap_message.proofs.Spellings.{options-length}
use Rattle.coap_store.proofs.Picked.{AreOptions-above, last-below}

-- the options of a side are in order after what may stand before it
pub AreOptions-side : (side : MaxAgeSide) (before : ℕ) (os : List Opt) → before ≤ floor_of side → AreOptions 0 os → AreOptions before (side_of side os)
AreOptions-side Before before os le are = AreOptions-above (λ o. is_in Before o.number) before 0 os (λ o is. omega arith) are
AreOptions-side After before os le are = AreOptions-above (λ o. is_in After o.number) before 0 os (λ o is. let above = ltb-true 14 o.number is in omega arith) are

-- the side before a Max-Age ends below it
pub last-before : (before : ℕ) (os : List Opt) → before ≤ 14 → last_number before (side_of Before os) ≤ 14
last-before before os le = last-below 14 before os le

-- one Max-Age between the two sides
pub sides : (left : ℕ) (os : List Opt) → options_spelling 0 (side_of Before os) ++ (options_spelling (last_number 0 (side_of Before os)) (max_age_option left ∷ []) ++ options_spelling 14 (side_of After os)) ≡ options_spelling 0 (with_max_age left os)
sides left os =
    let after = options_spelling-append (last_number 0 (side_of Before os)) (max_age_option left ∷ []) (side_of After os) in
    let whole = options_spelling-append 0 (side_of Before os) (max_age_option left ∷ side_of After os) in
    ap (λ (l : List ℕ). options_spelling 0 (side_of Before os) ++ l) (sym after) ∙ sym whole

-- and how long they are together
pub sides-length : (left : ℕ) (os : List Opt) → options_length 0 (side_of Before os) + (option_length (last_number 0 (side_of Before os)) (max_age_option left) + options_length 14 (side_of After os)) ≡ options_length 0 (with_max_age left os)
sides-length left os =
    let before = options_spelling 0 (side_of Before os) in
    let between = options_spelling (last_number 0 (side_of Before os)) (max_age_option left ∷ []) in
    let after = options_spelling 14 (side_of After os) in
    omega (arith, ap length (sides left os), length-append before (between ++ after), length-append between after, options-length 0 (side_of Before os), options-length (last_number 0 (side_of Before os)) (max_age_option left ∷ []), options-length 14 (side_of After os), options-length 0 (with_max_age left os))

-- ---- the three writes

module _ (left : ℕ) (os : List Opt) (old first second new : Datagram) (room : ℕ) where
  abbrev before : List ℕ
  before = options_spelling 0 (side_of Before os)

  abbrev between : List ℕ
  between = options_spelling (last_number 0 (side_of Before os)) (max_age_option left ∷ [])

  abbrev after : List ℕ
  after = options_spelling 14 (side_of After os)

  -- the first of them fails
  pub full-before : (e f : Full) → Appends old new room (options_spelling 0 (side_of Before os)) (Err e) → Appends old new room (options_spelling 0 (with_max_age left os)) (Err f)
  full-before e f a = subst (λ (l : List ℕ). Appends old new room l (Err f)) (sides left os) (Appends-full old new room before (between ++ after) e f a)

  module _ (done : Appends old first room (options_spelling 0 (side_of Before os)) (Ok tt)) where
    -- the second fails
    pub full-between : (e f : Full) → Appends first new room (options_spelling (last_number 0 (side_of Before os)) (max_age_option left ∷ [])) (Err e) → Appends old new room (options_spelling 0 (with_max_age left os)) (Err f)
    full-between e f a =
        subst (λ (l : List ℕ). Appends old new room l (Err f)) (sides left os)
        (Appends-behind old first new room before (between ++ after) tt (Err f) done (Appends-full first new room between after e f a))

    -- the last one fails or not
    pub written-after : (r : Result (Unit {0}) Full) → Appends first second room (options_spelling (last_number 0 (side_of Before os)) (max_age_option left ∷ [])) (Ok tt) → Appends second new room (options_spelling 14 (side_of After os)) r
        → Appends old new room (options_spelling 0 (with_max_age left os)) r
    written-after r a b =
        subst (λ (l : List ℕ). Appends old new room l r) (sides left os)
        (Appends-behind old first new room before (between ++ after) tt r done (Appends-behind first second new room between after tt r a b))
