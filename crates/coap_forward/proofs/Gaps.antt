-- The request that is sent on, as it is written: its head, then its options, part by part.
use Rattle.std.proofs.Common.{◌≡◌, ℕ, ◌<◌, ◌≤◌, Bool, true, false, cond, ltb, leb, List, [], ◌∷◌, ◌++◌, length, map, filter, Option, Some, None, Result, Ok, Err, refl, sym, ap, ◌∙◌, subst, append_assoc, arith, lit≤, Bor}
use Rattle.std.specs.Prelude.{◌&&◌, IfSome, IfOk, option_map, unwrap_or}
use Rattle.std.specs.List.{AllByRecursion}
use Rattle.std.proofs.lemmas.Bool.{lt-leb, lt-ltb, le-leb, leb-false, ltb-true, ltb-false, le-ltb}
use Rattle.std.proofs.lemmas.List.{length-append}
use Rattle.coap_message.specs.declared.error.Full.{Full}
use Rattle.coap_message.specs.declared.code.Code.{Code}
use Rattle.coap_message.specs.declared.options.Opt.{Opt}
use Rattle.coap_message.specs.Datagram.{Datagram, Appends}
use Rattle.coap_message.specs.Message.{Message}
use Rattle.coap_message.specs.Options.{AreOptions, from_number, last_number, option_of}
use Rattle.coap_message.specs.Spelling.{options_spelling}
use Rattle.coap_message.proofs.Appending.{Appends-full, Appends-behind}
use Rattle.coap_message.proofs.Counting.{last_number-append}
use Rattle.coap_message.proofs.OptionSpellings.{options_spelling-append}
use Rattle.coap_message.proofs.Uints.{uint_spelling-four}
use Rattle.coap_message.specs.Uint.{uint_spelling}
use Rattle.coap_option.specs.declared.side.Side.TheVariants.{Request}
use Rattle.coap_option.specs.Screening.{first_refused}
use Rattle.coap_option.specs.Selection.{sent_on}
use Rattle.coap_option.specs.declared.survey.Span.{Span}
use Rattle.coap_option.specs.declared.survey.Survey.{Survey}
use Rattle.coap_option.specs.Survey.{IsSurvey, key_from, span_of, widened_by}
use Rattle.coap_option.proofs.Tails.{is-tail}
use Rattle.coap_message.proofs.Runs.{from-in_order}
use Rattle.coap_message.proofs.Tails.{from-first}
use Rattle.std.proofs.lemmas.Option.{same_Some}
use Rattle.coap_option.proofs.Passing.{last_number-le}
use Rattle.coap_endpoint.specs.declared.target.Target.{Target}
use Rattle.coap_endpoint.specs.Target.{IsPort, IsShort, IsTarget}
use Rattle.coap_store.specs.Renewing.{below, above}
use Rattle.coap_store.proofs.Picked.{AreOptions-above, AreOptions-filter, AreOptions-weaken}
use Rattle.coap_forward.specs.Forms.{is_used_up, is_forwarded, put_in, merged, host_options, port_options, scheme_options, target_options, tagged}
use Rattle.coap_forward.proofs.Forms.{AreUnused, IsShortTag, AreOptions-merged, filter-put_in, sent-screened, sent-unused, sent-options, tagged-options, tagged-unused}
use Rattle.coap_forward.specs.declared.form.Gap.{Gap}
use Rattle.coap_forward.specs.declared.form.Gap.TheVariants.{BeforeHost, BeforePort, BeforePath, BeforeQuery, BeforeScheme, Last}
use Rattle.coap_forward.specs.Gaps.{given, is_in, whole, within, floor_of, end_of, meets, others_in, port_value, scheme_value, tag_options, front_options, back_options}

-- ---- writing

-- after a write there is the same room, and no more than that is held
pub record IsWritten (old new : Datagram) (most : ℕ) : Type 0 where
  pub room : most ≤ new.room
  pub held : length new.bytes ≤ most

-- so it is after each write that went well
pub written : (old new : Datagram) (room : ℕ) (bytes : List ℕ) → room ≤ old.room → Appends old new room bytes (Ok tt) → IsWritten old new room
written old new room bytes within a = record {
  room = omega (arith, within, ap (λ (d : Datagram). d.room) a.0);
  held = omega (arith, ap (λ (d : Datagram). length d.bytes) a.0, length-append old.bytes bytes, a.1);
}

module _ (old mid new : Datagram) (room before : ℕ) (xs ys : List Opt) where
  -- the first options have no room, and so all have none
  pub full-first : (e f : Full) → Appends old new room (options_spelling before xs) (Err e) → Appends old new room (options_spelling before (xs ++ ys)) (Err f)
  full-first e f a = rw (options_spelling-append before xs ys) (Appends-full old new room (options_spelling before xs) (options_spelling (last_number before xs) ys) e f a)

  -- the first options were written, and the others are written after them or have no room
  pub written-both : (last : ℕ) (r : Result (Unit {0}) Full) → last ≡ last_number before xs → Appends old mid room (options_spelling before xs) (Ok tt) → Appends mid new room (options_spelling last ys) r → Appends old new room (options_spelling before (xs ++ ys)) r
  written-both last r is a b =
      let others : Appends mid new room (options_spelling (last_number before xs) ys) r = subst (λ (n : ℕ). Appends mid new room (options_spelling n ys) r) is b in
      rw (options_spelling-append before xs ys) (Appends-behind old mid new room (options_spelling before xs) (options_spelling (last_number before xs) ys) tt r a others)

-- what holds all of them is within the room
pub held-within : (old new : Datagram) (room : ℕ) (bytes : List ℕ) → Appends old new room bytes (Ok tt) → length new.bytes ≤ room
held-within old new room bytes a = rw a.0 (omega (arith, a.1, length-append old.bytes bytes))

-- errors are alike
pub error-as : (old new : Datagram) (room : ℕ) (bytes : List ℕ) (e f : Full) → Appends old new room bytes (Err e) → Appends old new room bytes (Err f)
error-as old new room bytes e f a = a

-- the last number of both is that of the second
pub ok-both : (before last : ℕ) (xs ys : List Opt) (r : Result ℕ Full) → last ≡ last_number before xs → IfOk r (λ n. n ≡ last_number last ys) → IfOk r (λ n. n ≡ last_number before (xs ++ ys))
ok-both before last xs ys (Ok n) is more = more ∙ ap (λ (k : ℕ). last_number k ys) is ∙ sym (last_number-append before xs ys)
ok-both before last xs ys (Err e) is more = tt

-- ---- options in gaps

-- the first of two tests that hold
first-holds : (a b : Bool) → (a && b) ≡ true → a ≡ true
first-holds true b e = refl
first-holds false b e = absurd cc

-- and the second
second-holds : (a b : Bool) → (a && b) ≡ true → b ≡ true
second-holds true b e = e
second-holds false b e = absurd cc

-- an option in a gap has no lower number than what may stand before it
in-gap : (gap : Gap) (number : ℕ) → is_in gap number ≡ true → floor_of gap ≤ number
in-gap BeforeHost number is = omega arith
in-gap BeforePort number is = let lt = ltb-true 3 number (first-holds (ltb 3 number) (ltb number 7) is) in omega arith
in-gap BeforePath number is = let lt = ltb-true 7 number (first-holds (ltb 7 number) (ltb number 11) is) in omega arith
in-gap BeforeQuery number is = let lt = ltb-true 11 number (first-holds (ltb 11 number) (ltb number 15) is) in omega arith
in-gap BeforeScheme number is = let lt = ltb-true 15 number (first-holds (ltb 15 number) (ltb number 39) is) in omega arith
in-gap Last number is = let lt = ltb-true 39 number is in omega arith

-- the others in a gap are in order after what may stand before it
pub AreOptions-others : (code : Code) (gap : Gap) (before : ℕ) (os : List Opt) → before ≤ floor_of gap → AreOptions 0 os → AreOptions before (others_in code gap os)
AreOptions-others code gap before os le are =
    AreOptions-above (λ o. is_in gap o.number && is_forwarded code o) before 0 os (λ o is. let low = in-gap gap o.number (first-holds (is_in gap o.number) (is_forwarded code o) is) in omega arith) are

-- an option in a gap has a number below the one that it ends at
below-end : (gap : Gap) (number : ℕ) → number < 65536 → is_in gap number ≡ true → number ≤ end_of gap
below-end BeforeHost number small is = let lt = ltb-true number 3 is in omega arith
below-end BeforePort number small is = let lt = ltb-true number 7 (second-holds (ltb 3 number) (ltb number 7) is) in omega arith
below-end BeforePath number small is = let lt = ltb-true number 11 (second-holds (ltb 7 number) (ltb number 11) is) in omega arith
below-end BeforeQuery number small is = let lt = ltb-true number 15 (second-holds (ltb 11 number) (ltb number 15) is) in omega arith
below-end BeforeScheme number small is = let lt = ltb-true number 39 (second-holds (ltb 15 number) (ltb number 39) is) in omega arith
below-end Last number small is = omega arith

-- so the last number of the others in a gap is at most that
pub last-others : (code : Code) (gap : Gap) (before : ℕ) (os : List Opt) → AreOptions 0 os → before ≤ floor_of gap → last_number before (others_in code gap os) ≤ end_of gap
last-others code gap before os are le = go 0 os before are (within gap le)
  where
    within : (g : Gap) → before ≤ floor_of g → before ≤ end_of g
    within BeforeHost le' = omega arith
    within BeforePort le' = omega arith
    within BeforePath le' = omega arith
    within BeforeQuery le' = omega arith
    within BeforeScheme le' = omega arith
    within Last le' = omega arith

    go : (low : ℕ) (rest : List Opt) (at : ℕ) → AreOptions low rest → at ≤ end_of gap → last_number at (others_in code gap rest) ≤ end_of gap
    go low [] at are' le' = le'
    go low (o ∷ rest) at are' le' = pick (is_in gap o.number) refl (is_forwarded code o) (λ n small. go o.number rest n are'.3 small)
      where
        pick : (b : Bool) → is_in gap o.number ≡ b → (g : Bool) → ((n : ℕ) → n ≤ end_of gap → last_number n (others_in code gap rest) ≤ end_of gap) → last_number at (cond (b && g) (o ∷ others_in code gap rest) (others_in code gap rest)) ≤ end_of gap
        pick true e true more = more o.number (below-end gap o.number are'.1 e)
        pick true e false more = more at le'
        pick false e g more = more at le'

-- ---- all options, in their places

-- those above a number and above a higher one are those above the higher one
above-above : (n k : ℕ) (os : List Opt) → n ≤ k → above k (above n os) ≡ above k os
above-above n k [] le = refl
above-above n k (o ∷ os) le = go (ltb n o.number) refl (ltb k o.number) refl (above-above n k os le)
  where
    go : (a : Bool) → ltb n o.number ≡ a → (b : Bool) → ltb k o.number ≡ b → above k (above n os) ≡ above k os → above k (cond a (o ∷ above n os) (above n os)) ≡ cond b (o ∷ above k os) (above k os)
    go true e true f rest = rw (f, rest) refl
    go true e false f rest = rw (f, rest) refl
    go false e true f rest = absurd (omega (arith, ltb-false _ _ e, ltb-true _ _ f))
    go false e false f rest = rest

-- options in order of which none has a number are those below it and those above it
split-at : (n low : ℕ) (os : List Opt) → is_used_up n ≡ true → AreOptions low os → AreUnused os → os ≡ below n os ++ above n os
split-at n low [] used are none = refl
split-at n low (o ∷ os) used are none = go (ltb o.number n) refl (ltb n o.number) refl (split-at n o.number os used are.3 none.1)
  where
    nothing-below : (k : ℕ) (rest : List Opt) → n ≤ k → AreOptions k rest → below n rest ≡ []
    nothing-below k [] le are' = refl
    nothing-below k (p ∷ rest) le are' = rw (le-ltb p.number n (omega (arith, are'.0))) (nothing-below p.number rest (omega (arith, are'.0)) are'.3)

    go : (a : Bool) → ltb o.number n ≡ a → (b : Bool) → ltb n o.number ≡ b → os ≡ below n os ++ above n os → o ∷ os ≡ cond a (o ∷ below n os) (below n os) ++ cond b (o ∷ above n os) (above n os)
    go true e true f rest = absurd (omega (arith, ltb-true _ _ e, ltb-true _ _ f))
    go true e false f rest = ap (λ (l : List Opt). o ∷ l) rest
    go false e true f rest =
        let empty = nothing-below o.number os (omega (arith, ltb-true _ _ f)) are.3 in
        rw empty (ap (λ (l : List Opt). o ∷ l) (rest ∙ rw empty refl))
    go false e false f rest =
        let same : o.number ≡ n = omega (arith, ltb-false _ _ e, ltb-false _ _ f) in
        absurd (let g = sym (ap is_used_up same) ∙ none.0 in let h = sym used ∙ g in cc)

-- an option is put after those of lower numbers
put_in-past : (o : Opt) (front others : List Opt) → AllByRecursion (λ p. p.number < o.number) front → put_in o (front ++ others) ≡ front ++ put_in o others
put_in-past o [] others all = refl
put_in-past o (p ∷ front) others all = rw (lt-leb o.number p.number all.0) (ap (λ (l : List Opt). p ∷ l) (put_in-past o front others all.1))

-- so are options of no lower number than one
merged-past : (n low : ℕ) (os front others : List Opt) → n ≤ low → AreOptions low os → AllByRecursion (λ p. p.number < n) front → merged os (front ++ others) ≡ front ++ merged os others
merged-past n low [] front others le are all = refl
merged-past n low (o ∷ os) front others le are all =
    ap (put_in o) (merged-past n o.number os front others (omega (arith, are.0)) are.3 all) ∙ put_in-past o front (merged os others) (weaken front all)
  where
    weaken : (ps : List Opt) → AllByRecursion (λ p. p.number < n) ps → AllByRecursion (λ p. p.number < o.number) ps
    weaken [] all' = tt
    weaken (p ∷ ps) all' = (omega (arith, all'.0, are.0), weaken ps all'.1)

-- an option is put before those of no lower number
put_in-front : (o : Opt) (os : List Opt) → AreOptions o.number os → put_in o os ≡ o ∷ os
put_in-front o [] are = refl
put_in-front o (p ∷ ps) are = rw (le-leb o.number p.number are.0) refl

-- so are values of one number
values-front : (number : ℕ) (values : List (List ℕ)) (os others : List Opt) → number < 65536 → AllByRecursion (λ v. length v ≤ 255) values → AreOptions number (merged os others) → merged (map (option_of number) values ++ os) others ≡ map (option_of number) values ++ merged os others
values-front number [] os others small short are = refl
values-front number (v ∷ values) os others small short are =
    let rest = values-front number values os others small short.1 are in
    ap (put_in (option_of number v)) rest ∙ put_in-front (option_of number v) (map (option_of number) values ++ merged os others) (all-in-order values short.1)
  where
    all-in-order : (vs : List (List ℕ)) → AllByRecursion (λ w. length w ≤ 255) vs → AreOptions number (map (option_of number) vs ++ merged os others)
    all-in-order [] short' = are
    all-in-order (w ∷ vs) short' = (omega arith, small, omega (arith, short'.0), all-in-order vs short'.1)

-- what is below a number is below it
below-all : (n : ℕ) (os : List Opt) → AllByRecursion (λ o. o.number < n) (below n os)
below-all n [] = tt
below-all n (o ∷ os) = go (ltb o.number n) refl (below-all n os)
  where
    go : (b : Bool) → ltb o.number n ≡ b → AllByRecursion (λ p. p.number < n) (below n os) → AllByRecursion (λ p. p.number < n) (cond b (o ∷ below n os) (below n os))
    go true e rest = (ltb-true _ _ e, rest)
    go false e rest = rest

-- some of what isn't used up isn't either
unused-filter : (keep : Opt → Bool) (os : List Opt) → AreUnused os → AreUnused (filter keep os)
unused-filter keep [] none = tt
unused-filter keep (o ∷ os) none = go (keep o) (unused-filter keep os none.1)
  where
    go : (b : Bool) → AreUnused (filter keep os) → AreUnused (cond b (o ∷ filter keep os) (filter keep os))
    go true rest = (none.0, rest)
    go false rest = rest

-- a test of two parts picks what the one picks of what the other does
fuse : (p g : Opt → Bool) (os : List Opt) → filter (λ o. p o && g o) os ≡ filter p (filter g os)
fuse p g [] = refl
fuse p g (o ∷ os) = go (p o) refl (g o) (fuse p g os)
  where
    go : (a : Bool) → p o ≡ a → (b : Bool) → filter (λ q. p q && g q) os ≡ filter p (filter g os) → cond (a && b) (o ∷ filter (λ q. p q && g q) os) (filter (λ q. p q && g q) os) ≡ filter p (cond b (o ∷ filter g os) (filter g os))
    go true e true rest = rw (e, rest) refl
    go true e false rest = rest
    go false e true rest = rw (e, rest) refl
    go false e false rest = rest

-- the greatest number of a span
abbrev IsGreatest : ℕ → Option Span → Type 0
IsGreatest g None = Unit {0}
IsGreatest g (Some span) = span.greatest ≡ g

-- two tests that hold
both : {a b : Bool} → a ≡ true → b ≡ true → (a && b) ≡ true
both e f = rw (e, f) refl

module _ (gap : Gap) where
  -- no option above the end of the gap is in it
  none-above : (low : ℕ) (os : List Opt) → AreOptions low os → end_of gap < low → filter (λ o. is_in gap o.number) os ≡ []
  none-above low [] are above = refl
  none-above low (o ∷ os) are above = go (is_in gap o.number) refl (none-above o.number os are.3 (omega (arith, are.0)))
    where
      go : (b : Bool) → is_in gap o.number ≡ b → filter (λ p. is_in gap p.number) os ≡ [] → cond b (o ∷ filter (λ p. is_in gap p.number) os) (filter (λ p. is_in gap p.number) os) ≡ []
      go true e rest = absurd (let le = below-end gap o.number are.1 e in omega (arith, are.0, le))
      go false e rest = rest

  -- nor one below its floor
  none-below : (low : ℕ) (os : List Opt) → AreOptions low os → last_number low os < floor_of gap → filter (λ o. is_in gap o.number) os ≡ []
  none-below low [] are below = refl
  none-below low (o ∷ os) are below = go (is_in gap o.number) refl (none-below o.number os are.3 below)
    where
      go : (b : Bool) → is_in gap o.number ≡ b → filter (λ p. is_in gap p.number) os ≡ [] → cond b (o ∷ filter (λ p. is_in gap p.number) os) (filter (λ p. is_in gap p.number) os) ≡ []
      go true e rest = absurd (let le = in-gap gap o.number e in let last = last_number-le o.number os are.3 in omega (arith, le, last))
      go false e rest = rest

  -- so none of those whose span doesn't reach into it
  none-met : (os : List Opt) → AreOptions 0 os → meets gap (span_of os) ≡ false → filter (λ o. is_in gap o.number) os ≡ []
  none-met [] are misses = refl
  none-met (o ∷ os) are misses = go (leb (floor_of gap) (last_number o.number os)) refl (leb o.number (end_of gap)) refl (ap (meets gap) (sym (spans (record { least = o.number; greatest = o.number }) os)) ∙ misses)
    where
      spans : (s : Span) (xs : List Opt) → widened_by (Some s) xs ≡ Some (record { least = s.least; greatest = last_number s.greatest xs })
      spans s [] = refl
      spans s (x ∷ xs) = spans (record { least = s.least; greatest = x.number }) xs

      go : (a : Bool) → leb (floor_of gap) (last_number o.number os) ≡ a → (b : Bool) → leb o.number (end_of gap) ≡ b → (leb (floor_of gap) (last_number o.number os) && leb o.number (end_of gap)) ≡ false → filter (λ p. is_in gap p.number) (o ∷ os) ≡ []
      go true e true f both = absurd (let g = sym (λ i. e i && f i) ∙ both in cc)
      go true e false f both = none-above o.number (o ∷ os) (omega arith, are.1, are.2, are.3) (leb-false o.number (end_of gap) f)
      go false e b f both = none-below 0 (o ∷ os) are (leb-false (floor_of gap) (last_number o.number os) e)

-- where the span of the options that are forwarded doesn't reach into a gap, none of them is in it
pub no-others : (code : Code) (gap : Gap) (os : List Opt) → AreOptions 0 os → meets gap (span_of (filter (is_forwarded code) os)) ≡ false → others_in code gap os ≡ []
no-others code gap os are misses =
    fuse (λ o. is_in gap o.number) (is_forwarded code) os
    ∙ none-met gap (filter (is_forwarded code) os) (AreOptions-filter (is_forwarded code) 0 os are) misses

-- what a survey says of the options that are forwarded
pub known-others : (m : Message) (survey : Survey) → IsSurvey m survey → survey.others ≡ span_of (filter (is_forwarded m.code) m.options)
known-others m survey is = is.others ∙ ap span_of (sent-screened m is.screened)

-- what lies between two numbers in a gap is in it
between : (gap : Gap) (n k g : ℕ) → n ≤ k → k ≤ g → is_in gap n ≡ true → is_in gap g ≡ true → is_in gap k ≡ true
between BeforeHost n k g low high e f = let lt = ltb-true g 3 f in lt-ltb k 3 (omega arith)
between BeforePort n k g low high e f = both (lt-ltb 3 k (let lt = ltb-true 3 n (first-holds (ltb 3 n) (ltb n 7) e) in omega arith)) (lt-ltb k 7 (let lt = ltb-true g 7 (second-holds (ltb 3 g) (ltb g 7) f) in omega arith))
between BeforePath n k g low high e f = both (lt-ltb 7 k (let lt = ltb-true 7 n (first-holds (ltb 7 n) (ltb n 11) e) in omega arith)) (lt-ltb k 11 (let lt = ltb-true g 11 (second-holds (ltb 7 g) (ltb g 11) f) in omega arith))
between BeforeQuery n k g low high e f = both (lt-ltb 11 k (let lt = ltb-true 11 n (first-holds (ltb 11 n) (ltb n 15) e) in omega arith)) (lt-ltb k 15 (let lt = ltb-true g 15 (second-holds (ltb 11 g) (ltb g 15) f) in omega arith))
between BeforeScheme n k g low high e f = both (lt-ltb 15 k (let lt = ltb-true 15 n (first-holds (ltb 15 n) (ltb n 39) e) in omega arith)) (lt-ltb k 39 (let lt = ltb-true g 39 (second-holds (ltb 15 g) (ltb g 39) f) in omega arith))
between Last n k g low high e f = lt-ltb 39 k (let lt = ltb-true 39 n e in omega arith)

-- so are all options between them
all-between : (gap : Gap) (n g b : ℕ) (os : List Opt) → n ≤ b → AreOptions b os → last_number b os ≤ g → is_in gap n ≡ true → is_in gap g ≡ true → filter (λ o. is_in gap o.number) os ≡ os
all-between gap n g b [] low are high e f = refl
all-between gap n g b (o ∷ os) low are high e f =
    let le = last_number-le o.number os are.3 in
    let here : is_in gap o.number ≡ true = between gap n o.number g (omega (arith, low, are.0)) (omega (arith, le, high)) e f in
    rw (here, all-between gap n g o.number os (omega (arith, low, are.0)) are.3 high e f) refl

-- the greatest number of a span that is widened is that of the last option
spans : (s : Span) (xs : List Opt) → widened_by (Some s) xs ≡ Some (record { least = s.least; greatest = last_number s.greatest xs })
spans s [] = refl
spans s (x ∷ xs) = spans (record { least = s.least; greatest = x.number }) xs

-- where a gap takes all that is forwarded from a number on, that is all there is in it
pub whole-gap : (m : Message) (survey : Survey) (gap : Gap) (n : ℕ) → IsSurvey m survey → AreOptions 0 m.options → whole gap survey ≡ Some n → others_in m.code gap m.options ≡ from_number n m.options
whole-gap m survey gap n is are takes = go (key_from survey) refl survey.others refl takes
  where
    sent : key_from survey ≡ Some n → filter (is_forwarded m.code) m.options ≡ from_number n m.options
    sent e = sym (sent-screened m is.screened) ∙ (is-tail m survey n is are e).sent

    all : (os : List Opt) → from_number n m.options ≡ os → (g : ℕ) → IsGreatest g (span_of os) → is_in gap n ≡ true → is_in gap g ≡ true → filter (λ o. is_in gap o.number) os ≡ os
    all [] e g last i f = refl
    all (o ∷ os) e g last i f =
        let behind = subst (AreOptions 0) e (from-in_order n 0 m.options are) in
        let greatest : last_number o.number os ≡ g = subst (IsGreatest g) (spans (record { least = o.number; greatest = o.number }) os) last in
        all-between gap n g n (o ∷ os) (omega arith) (from-first n m.options o os e, behind.1, behind.2, behind.3) (omega (arith, greatest)) i f

    go : (from : Option ℕ) → key_from survey ≡ from → (span : Option Span) → survey.others ≡ span → within gap from span ≡ Some n → others_in m.code gap m.options ≡ from_number n m.options
    go None e span f takes' = absurd cc
    go (Some k) e None f takes' = absurd cc
    go (Some k) e (Some span) f takes' = pick (is_in gap k) refl (is_in gap span.greatest) refl takes'
      where
        pick : (a : Bool) → is_in gap k ≡ a → (b : Bool) → is_in gap span.greatest ≡ b → cond (a && b) (Some k) None ≡ Some n → others_in m.code gap m.options ≡ from_number n m.options
        pick true i true j is' =
            let same : k ≡ n = same_Some _ _ is' in
            let from : key_from survey ≡ Some n = e ∙ ap Some same in
            let greatest : IsGreatest span.greatest (span_of (from_number n m.options)) = subst (IsGreatest span.greatest) (sym f ∙ known-others m survey is ∙ ap span_of (sent from)) refl in
            fuse (λ o. is_in gap o.number) (is_forwarded m.code) m.options ∙ ap (filter (λ o. is_in gap o.number)) (sent from)
            ∙ all (from_number n m.options) refl span.greatest greatest (subst (λ (x : ℕ). is_in gap x ≡ true) same i) j
        pick true i false j is' = absurd cc
        pick false i b j is' = absurd cc

-- one of two parts that are tested in the other order
fuse-both : (p q g : Opt → Bool) (os : List Opt) → filter (λ o. (p o && q o) && g o) os ≡ filter q (filter p (filter g os))
fuse-both p q g os = fuse (λ o. p o && q o) g os ∙ flip (filter g os)
  where
    flip : (xs : List Opt) → filter (λ o. p o && q o) xs ≡ filter q (filter p xs)
    flip [] = refl
    flip (x ∷ xs) = pick (p x) (q x) refl (flip xs)
      where
        pick : (a b : Bool) → q x ≡ b → filter (λ o. p o && q o) xs ≡ filter q (filter p xs) → cond (a && b) (x ∷ filter (λ o. p o && q o) xs) (filter (λ o. p o && q o) xs) ≡ filter q (cond a (x ∷ filter p xs) (filter p xs))
        pick true true e rest = rw (e, rest) refl
        pick true false e rest = rw (e, rest) refl
        pick false b e rest = rest

-- one part of a target: its values stand between the others that are below its number and those
-- above it
part : (low n : ℕ) (values : List (List ℕ)) (rest os : List Opt) → low ≤ n → n < 65536 → is_used_up n ≡ true → AllByRecursion IsShort values → AreOptions n rest → AreOptions low os → AreUnused os
    → merged (map (option_of n) values ++ rest) os ≡ below n os ++ (map (option_of n) values ++ merged rest (above n os))
part low n values rest os le small used short are in_order none =
    let behind = AreOptions-above (λ o. ltb n o.number) n low os (λ o e. let lt = ltb-true n o.number e in omega arith) in_order in
    ap (merged (map (option_of n) values ++ rest)) (split-at n low os used in_order none)
    ∙ merged-past n n (map (option_of n) values ++ rest) (below n os) (above n os) (omega arith) (all-in-order values short) (below-all n os)
    ∙ ap (λ (l : List Opt). below n os ++ l) (values-front n values rest (above n os) small short (AreOptions-merged n rest (above n os) are behind))
  where
    all-in-order : (vs : List (List ℕ)) → AllByRecursion IsShort vs → AreOptions n (map (option_of n) vs ++ rest)
    all-in-order [] short' = are
    all-in-order (w ∷ vs) short' = (omega arith, small, omega (arith, short'.0), all-in-order vs short'.1)

module _ (os : List Opt) (are : AreOptions 0 os) (none : AreUnused os) where
  abbrev behind : ℕ → List Opt
  behind n = above n os

  behind-in_order : (n : ℕ) → AreOptions n (above n os)
  behind-in_order n = AreOptions-above (λ o. ltb n o.number) n 0 os (λ o e. let lt = ltb-true n o.number e in omega arith) are

  behind-unused : (n : ℕ) → AreUnused (above n os)
  behind-unused n = unused-filter (λ o. ltb n o.number) os none

  -- one part of a target, after one with a lower number
  next-part : (low n : ℕ) (values : List (List ℕ)) (rest : List Opt) → low ≤ n → n < 65536 → is_used_up n ≡ true → AllByRecursion IsShort values → AreOptions n rest
      → merged (map (option_of n) values ++ rest) (behind low) ≡ below n (behind low) ++ (map (option_of n) values ++ merged rest (behind n))
  next-part low n values rest le small used short in_order =
      part low n values rest (behind low) le small used short in_order (behind-in_order low) (behind-unused low)
      ∙ ap (λ (l : List Opt). below n (behind low) ++ (map (option_of n) values ++ merged rest l)) (above-above low n os le)

  -- all parts
  module _ (host port : List (List ℕ)) (path query : List (List ℕ)) (scheme : List (List ℕ)) (of_host : AllByRecursion IsShort host) (of_port : AllByRecursion IsShort port) (of_path : AllByRecursion IsShort path) (of_query : AllByRecursion IsShort query) (of_scheme : AllByRecursion IsShort scheme) where
    abbrev from-scheme : List Opt
    from-scheme = map (option_of 39) scheme ++ []

    abbrev from-query : List Opt
    from-query = map (option_of 15) query ++ from-scheme

    abbrev from-path : List Opt
    from-path = map (option_of 11) path ++ from-query

    abbrev from-port : List Opt
    from-port = map (option_of 7) port ++ from-path

    values-in-order : (low n : ℕ) (values : List (List ℕ)) (rest : List Opt) → low ≤ n → n < 65536 → AllByRecursion IsShort values → AreOptions n rest → AreOptions low (map (option_of n) values ++ rest)
    values-in-order low n [] rest le small short in_order = AreOptions-weaken low n rest le in_order
    values-in-order low n (v ∷ values) rest le small short in_order = (le, small, omega (arith, short.0), values-in-order n n values rest (omega arith) small short.1 in_order)

    scheme-in-order : AreOptions 15 from-scheme
    scheme-in-order = values-in-order 15 39 scheme [] (omega arith) (omega arith) of_scheme tt

    query-in-order : AreOptions 11 from-query
    query-in-order = values-in-order 11 15 query from-scheme (omega arith) (omega arith) of_query scheme-in-order

    path-in-order : AreOptions 7 from-path
    path-in-order = values-in-order 7 11 path from-query (omega arith) (omega arith) of_path query-in-order

    port-in-order : AreOptions 3 from-port
    port-in-order = values-in-order 3 7 port from-path (omega arith) (omega arith) of_port path-in-order

    all-parts : merged (map (option_of 3) host ++ from-port) os
        ≡ below 3 os ++ (map (option_of 3) host ++ (below 7 (behind 3) ++ (map (option_of 7) port ++ (below 11 (behind 7) ++ (map (option_of 11) path ++ (below 15 (behind 11) ++ (map (option_of 15) query ++ (below 39 (behind 15) ++ (map (option_of 39) scheme ++ behind 39)))))))))
    all-parts =
        part 0 3 host from-port os (omega arith) (omega arith) refl of_host port-in-order are none
        ∙ ap (λ (l : List Opt). below 3 os ++ (map (option_of 3) host ++ l)) (next-part 3 7 port from-path (omega arith) (omega arith) refl of_port path-in-order
        ∙ ap (λ (l : List Opt). below 7 (behind 3) ++ (map (option_of 7) port ++ l)) (next-part 7 11 path from-query (omega arith) (omega arith) refl of_path query-in-order
        ∙ ap (λ (l : List Opt). below 11 (behind 7) ++ (map (option_of 11) path ++ l)) (next-part 11 15 query from-scheme (omega arith) (omega arith) refl of_query scheme-in-order
        ∙ ap (λ (l : List Opt). below 15 (behind 11) ++ (map (option_of 15) query ++ l)) (next-part 15 39 scheme [] (omega arith) (omega arith) refl of_scheme tt))))

-- the values of a target are its options
pub target-values : (t : Target) → map (option_of 3) (given t.host) ++ (map (option_of 7) (given (port_value t.port)) ++ (map (option_of 11) t.path ++ (map (option_of 15) t.query ++ (map (option_of 39) (given (scheme_value t.port)) ++ [])))) ≡ target_options t
unfolding target_options
target-values t = rw (hosts t.host, ports t.port, schemes t.port) refl
  where
    hosts : (host : Option (List ℕ)) → map (option_of 3) (given host) ≡ host_options host
    hosts None = refl
    hosts (Some h) = refl

    ports : (port : Option ℕ) → map (option_of 7) (given (port_value port)) ≡ port_options port
    ports None = refl
    ports (Some n) = refl

    schemes : (port : Option ℕ) → map (option_of 39) (given (scheme_value port)) ++ [] ≡ scheme_options port
    schemes None = refl
    schemes (Some n) = refl

-- with the tag those below a number up to it are what they were
below-tagged : (n : ℕ) (tag : Option (List ℕ)) (os : List Opt) → n ≤ 4 → below n (tagged tag os) ≡ below n os
below-tagged n None os le = refl
below-tagged n (Some v) os le = filter-put_in (λ o. ltb o.number n) (option_of 4 v) os (le-ltb 4 n le)

-- and those above a number from it on
above-tagged : (n : ℕ) (tag : Option (List ℕ)) (os : List Opt) → 4 ≤ n → above n (tagged tag os) ≡ above n os
above-tagged n None os le = refl
above-tagged n (Some v) os le = filter-put_in (λ o. ltb n o.number) (option_of 4 v) os (le-ltb n 4 le)

-- after the Uri-Host the tag stands first
first-tagged : (tag : Option (List ℕ)) (os : List Opt) → above 3 (tagged tag os) ≡ tag_options tag ++ above 3 os
first-tagged None os = refl
first-tagged (Some v) [] = refl
first-tagged (Some v) (p ∷ ps) = go (leb 4 p.number) refl (first-tagged (Some v) ps)
  where
    go : (b : Bool) → leb 4 p.number ≡ b → above 3 (put_in (option_of 4 v) ps) ≡ option_of 4 v ∷ above 3 ps → above 3 (cond b (option_of 4 v ∷ p ∷ ps) (p ∷ put_in (option_of 4 v) ps)) ≡ option_of 4 v ∷ above 3 (p ∷ ps)
    go true e rest = refl
    go false e rest =
        let low = leb-false 4 p.number e in
        let out : ltb 3 p.number ≡ false = le-ltb 3 p.number (omega arith) in
        rw out rest

-- so of those after it that are below the port
between-tagged : (tag : Option (List ℕ)) (os : List Opt) → below 7 (above 3 (tagged tag os)) ≡ tag_options tag ++ below 7 (above 3 os)
between-tagged None os = refl
between-tagged (Some v) os = ap (below 7) (first-tagged (Some v) os)

-- what is short is short as a value
pub given-short : (value : Option (List ℕ)) → IfSome value IsShort → AllByRecursion IsShort (given value)
given-short None short = tt
given-short (Some v) short = (short, tt)

-- a port has at most two bytes, and a scheme four
pub port-short : (port : Option ℕ) → IfSome port IsPort → AllByRecursion IsShort (given (port_value port))
port-short None within = tt
port-short (Some n) within = (omega (arith, uint_spelling-four n (omega arith)), tt)

pub scheme-short : (port : Option ℕ) → AllByRecursion IsShort (given (scheme_value port))
scheme-short None = tt
scheme-short (Some n) = (lit≤ tt, tt)

-- the bytes of a port are those of its value
pub port-bytes : (port : Option ℕ) → option_map (λ n. uint_spelling (unwrap_or port 0)) port ≡ port_value port
port-bytes None = refl
port-bytes (Some n) = refl

-- the options of the request that is sent on, part by part
pub form-options : (t : Target) (tag : Option (List ℕ)) (m : Message) → IsTarget t → IsShortTag tag → AreOptions 0 m.options → first_refused Request m.options ≡ None
    → front_options t tag m ++ back_options t m ≡ merged (target_options t) (tagged tag (sent_on m))
form-options t tag m is short are screened =
    let os = sent_on m in
    let with = tagged tag os in
    let sent : os ≡ filter (is_forwarded m.code) m.options = sent-screened m screened in
    let before_host : others_in m.code BeforeHost m.options ≡ below 3 with =
    fuse (λ o. ltb o.number 3) (is_forwarded m.code) m.options ∙ ap (below 3) (sym sent) ∙ sym (below-tagged 3 tag os (omega arith))
    in
    let before_port : tag_options tag ++ others_in m.code BeforePort m.options ≡ below 7 (above 3 with) =
    ap (λ (l : List Opt). tag_options tag ++ l) (fuse-both (λ o. ltb 3 o.number) (λ o. ltb o.number 7) (is_forwarded m.code) m.options ∙ ap (λ (l : List Opt). below 7 (above 3 l)) (sym sent))
    ∙ sym (between-tagged tag os)
    in
    let between = λ (low high : ℕ) (le : 4 ≤ low).
    fuse-both (λ o. ltb low o.number) (λ o. ltb o.number high) (is_forwarded m.code) m.options ∙ ap (λ (l : List Opt). below high (above low l)) (sym sent) ∙ ap (below high) (sym (above-tagged low tag os le))
    in
    let before_path : others_in m.code BeforePath m.options ≡ below 11 (above 7 with) = between 7 11 (omega arith) in
    let before_query : others_in m.code BeforeQuery m.options ≡ below 15 (above 11 with) = between 11 15 (omega arith) in
    let before_scheme : others_in m.code BeforeScheme m.options ≡ below 39 (above 15 with) = between 15 39 (omega arith) in
    let last : others_in m.code Last m.options ≡ above 39 with =
    fuse (λ o. ltb 39 o.number) (is_forwarded m.code) m.options ∙ ap (above 39) (sym sent) ∙ sym (above-tagged 39 tag os (omega arith))
    in
    in_pairs (others_in m.code BeforeHost m.options) (map (option_of 3) (given t.host)) (tag_options tag) (others_in m.code BeforePort m.options) (map (option_of 7) (given (port_value t.port)))
    (others_in m.code BeforePath m.options) (map (option_of 11) t.path) (others_in m.code BeforeQuery m.options) (map (option_of 15) t.query) (others_in m.code BeforeScheme m.options) (map (option_of 39) (given (scheme_value t.port))) (others_in m.code Last m.options)
    ∙ rw (before_host, before_port, before_path, before_query, before_scheme, last) (sym (all-parts with (tagged-options tag os short (sent-options m are screened)) (tagged-unused tag os (sent-unused m screened))
    (given t.host) (given (port_value t.port)) t.path t.query (given (scheme_value t.port)) (given-short t.host is.host) (port-short t.port is.port) is.path is.query (scheme-short t.port)))
    ∙ ap (λ (l : List Opt). merged l with) (target-values t)
  where
    -- parts in pairs are parts in a row, the tag with what stands behind it
    in_pairs : (a b x c d e f g h i j k : List Opt) → ((a ++ b) ++ (x ++ (c ++ d))) ++ ((e ++ f) ++ ((g ++ h) ++ ((i ++ j) ++ k))) ≡ a ++ (b ++ ((x ++ c) ++ (d ++ (e ++ (f ++ (g ++ (h ++ (i ++ (j ++ k)))))))))
    in_pairs a b x c d e f g h i j k = simp append_assoc refl

-- what is written of the front, and then of what comes after it, is written of all options
pub of-all : (t : Target) (tag : Option (List ℕ)) (m : Message) → IsTarget t → IsShortTag tag → AreOptions 0 m.options → first_refused Request m.options ≡ None
    → (old new : Datagram) (room : ℕ) (r : Result (Unit {0}) Full) → Appends old new room (options_spelling 0 (front_options t tag m ++ back_options t m)) r
    → Appends old new room (options_spelling 0 (merged (target_options t) (tagged tag (sent_on m)))) r
of-all t tag m is short are screened old new room r a = subst (λ (l : List Opt). Appends old new room (options_spelling 0 l) r) (form-options t tag m is short are screened) a

-- as a lent tag is
pub tag-given : (tag : Option (Bor (List ℕ))) → IfSome tag (λ v. length v.now ≤ 8) → IsShortTag (option_map (λ v. v.now) tag)
tag-given None short = tt
tag-given (Some v) short = short

-- and so one that is short
pub tag-short : (tag : Option (Bor (List ℕ))) → IfSome tag (λ v. length v.now ≤ 8) → AllByRecursion IsShort (given (option_map (λ v. v.now) tag))
tag-short None short = tt
tag-short (Some v) short = (omega (arith, short), tt)
