-- The request that is sent on: which options go on, and that they are in order.
use Rattle.std.proofs.Common.{◌≡◌, ℕ, ◌<◌, ◌≤◌, Bool, true, false, cond, leb, List, [], ◌∷◌, ◌++◌, length, Option, Some, None, refl, sym, subst, ◌∙◌, arith, lit≤}
use Rattle.std.specs.Prelude.{◌&&◌, ◌||◌, not, map, filter, IfSome}
use Rattle.std.specs.List.{AllByRecursion}
use Rattle.std.proofs.lemmas.Bool.{leb-true, leb-false}
use Rattle.coap_message.specs.declared.code.Code.{Code}
use Rattle.coap_message.specs.declared.options.Opt.{Opt}
use Rattle.coap_message.specs.Options.{AreOptions, option_of}
use Rattle.coap_message.specs.Message.{Message}
use Rattle.coap_message.specs.Spelling.{IsMessage, spelling, with_id}
use Rattle.coap_message.proofs.Uints.{uint_spelling-four}
use Rattle.coap_option.specs.declared.side.Side.TheVariants.{Request}
use Rattle.coap_option.specs.Places.{places_behind}
use Rattle.coap_option.specs.Recognition.{is_recognised}
use Rattle.coap_option.specs.Screening.{first_refused}
use Rattle.coap_option.specs.Selection.{is_tag_of_get, sent_on}
pub use Rattle.coap_option.proofs.Clean.{in_key, key-clean, key-screened, sent-screened}
use Rattle.coap_option.proofs.Clean.{AreClean, IsClean}
use Rattle.coap_endpoint.specs.declared.target.Target.{Target}
use Rattle.coap_endpoint.specs.Target.{IsPort, IsShort, IsTarget}
use Rattle.coap_store.proofs.Picked.{AreOptions-filter, AreOptions-weaken}
use Rattle.coap_forward.specs.Forms.{is_used_up, is_forwarded, host_options, port_options, scheme_options, put_in, merged, target_options, tagged, forwarded}
use Rattle.coap_forward.specs.Messages.{is_method}

-- no option of a list is used up
abbrev pub AreUnused : List Opt → Type 0
AreUnused os = AllByRecursion (λ o. is_used_up o.number ≡ false) os

-- and those of one of which none is used up
pub unused-clean : (os : List Opt) → AreUnused os → AreClean os
unused-clean os none = go [] os none
  where
    go : (passed rest : List Opt) → AreUnused rest → AllByRecursion IsClean (places_behind passed rest)
    go passed [] none' = tt
    go passed (o ∷ rest) none' = (λ used. absurd (let e = sym used ∙ none'.0 in cc), go (passed ++ o ∷ []) rest none'.1)

-- none of what goes on is used up
goes-unused : (code : Code) (os : List Opt) → AreUnused (filter (is_forwarded code) os)
goes-unused code [] = tt
goes-unused code (o ∷ os) = go (is_used_up o.number) refl (is_tag_of_get code o.number && is_recognised Request o.number (length o.value) 0) (goes-unused code os)
  where
    go : (u : Bool) → is_used_up o.number ≡ u → (t : Bool) → AreUnused (filter (is_forwarded code) os) → AreUnused (cond (not (u || t)) (o ∷ filter (is_forwarded code) os) (filter (is_forwarded code) os))
    go true e t rest = rest
    go false e true rest = rest
    go false e false rest = (e, rest)

-- so none of what is sent on
pub sent-unused : (m : Message) → first_refused Request m.options ≡ None → AreUnused (sent_on m)
sent-unused m screened = subst AreUnused (sym (sent-screened m screened)) (goes-unused m.code m.options)

-- ---- options in order

-- one more is put in its place
AreOptions-put_in : (low : ℕ) (o : Opt) (os : List Opt) → low ≤ o.number → o.number < 65536 → length o.value ≤ 65804 → AreOptions low os → AreOptions low (put_in o os)
AreOptions-put_in low o [] le small short are = (le, small, short, tt)
AreOptions-put_in low o (p ∷ ps) le small short are = go (leb o.number p.number) refl (λ above. AreOptions-put_in p.number o ps above small short are.3)
  where
    go : (b : Bool) → leb o.number p.number ≡ b → (p.number ≤ o.number → AreOptions p.number (put_in o ps)) → AreOptions low (cond b (o ∷ p ∷ ps) (p ∷ put_in o ps))
    go true e rest = (le, small, short, (leb-true _ _ e, are.1, are.2, are.3))
    go false e rest = (are.0, are.1, are.2, rest (let lt = leb-false _ _ e in omega arith))

-- two lists in order are in order as one
pub AreOptions-merged : (low : ℕ) (os others : List Opt) → AreOptions low os → AreOptions low others → AreOptions low (merged os others)
AreOptions-merged low [] others are rest = rest
AreOptions-merged low (o ∷ os) others are rest =
    AreOptions-put_in low o (merged os others) are.0 are.1 are.2 (AreOptions-merged low os others (AreOptions-weaken low o.number os are.0 are.3) rest)

-- values of one number, short enough, after a lower number and before the others
AreOptions-map : (low number : ℕ) (values : List (List ℕ)) (os : List Opt) → low ≤ number → number < 65536 → AllByRecursion IsShort values → AreOptions number os → AreOptions low (map (option_of number) values ++ os)
AreOptions-map low number [] os le small short are = AreOptions-weaken low number os le are
AreOptions-map low number (v ∷ values) os le small short are = (le, small, omega (arith, short.0), AreOptions-map number number values os (omega arith) small short.1 are)

-- what holds of each number that a target has options of holds of all its options
pub All-target : (P : ℕ → Type 0) → P 3 → P 7 → P 11 → P 15 → P 39 → (t : Target) → AllByRecursion (λ o. P o.number) (target_options t)
unfolding target_options
All-target P of_host of_port of_path of_query of_scheme t = host t.host
  where
    values : (number : ℕ) → P number → (vs : List (List ℕ)) (os : List Opt) → AllByRecursion (λ o. P o.number) os → AllByRecursion (λ o. P o.number) (map (option_of number) vs ++ os)
    values number is [] os rest = rest
    values number is (v ∷ vs) os rest = (is, values number is vs os rest)

    scheme : (port : Option ℕ) → AllByRecursion (λ o. P o.number) (scheme_options port)
    scheme None = tt
    scheme (Some n) = (of_scheme, tt)

    path : AllByRecursion (λ o. P o.number) (map (option_of 11) t.path ++ (map (option_of 15) t.query ++ scheme_options t.port))
    path = values 11 of_path t.path (map (option_of 15) t.query ++ scheme_options t.port) (values 15 of_query t.query (scheme_options t.port) (scheme t.port))

    port : (of : Option ℕ) → AllByRecursion (λ o. P o.number) (port_options of ++ (map (option_of 11) t.path ++ (map (option_of 15) t.query ++ scheme_options t.port)))
    port None = path
    port (Some n) = (of_port, path)

    host : (of : Option (List ℕ)) → AllByRecursion (λ o. P o.number) (host_options of ++ (port_options t.port ++ (map (option_of 11) t.path ++ (map (option_of 15) t.query ++ scheme_options t.port))))
    host None = port t.port
    host (Some h) = (of_host, port t.port)

-- the scheme is in order
scheme-options : (low : ℕ) (port : Option ℕ) → low ≤ 39 → AreOptions low (scheme_options port)
scheme-options low None le = tt
scheme-options low (Some port) le = (le, omega arith, lit≤ tt, tt)

-- the options of a target are in order and fit
pub target-options : (t : Target) → IsTarget t → AreOptions 0 (target_options t)
unfolding target_options
target-options t is = host t.host is.host
  where
    query : AreOptions 11 (map (option_of 15) t.query ++ scheme_options t.port)
    query = AreOptions-map 11 15 t.query (scheme_options t.port) (omega arith) (omega arith) is.query (scheme-options 15 t.port (omega arith))

    path : (low : ℕ) → low ≤ 11 → AreOptions low (map (option_of 11) t.path ++ (map (option_of 15) t.query ++ scheme_options t.port))
    path low le = AreOptions-map low 11 t.path (map (option_of 15) t.query ++ scheme_options t.port) le (omega arith) is.path query

    port : (low : ℕ) → low ≤ 7 → (of : Option ℕ) → IfSome of IsPort → AreOptions low (port_options of ++ (map (option_of 11) t.path ++ (map (option_of 15) t.query ++ scheme_options t.port)))
    port low le None within = path low (omega arith)
    port low le (Some n) within = (le, omega arith, omega (arith, uint_spelling-four n (omega arith)), path 7 (omega arith))

    host : (of : Option (List ℕ)) → IfSome of IsShort → AreOptions 0 (host_options of ++ (port_options t.port ++ (map (option_of 11) t.path ++ (map (option_of 15) t.query ++ scheme_options t.port))))
    host None short = port 0 (omega arith) t.port is.port
    host (Some h) short = (omega arith, omega arith, omega (arith, short), port 3 (omega arith) t.port is.port)

-- what is sent on is in order
pub sent-options : (m : Message) → AreOptions 0 m.options → first_refused Request m.options ≡ None → AreOptions 0 (sent_on m)
sent-options m are screened = subst (AreOptions 0) (sym (sent-screened m screened)) (AreOptions-filter (is_forwarded m.code) 0 m.options are)

-- ---- the tag

-- a tag has one to eight bytes (RFC 7252, 5.10.6)
abbrev pub IsTag : List ℕ → Type 0
IsTag v = (1 ≤ length v) × (length v ≤ 8)

-- it is written where it is short
abbrev pub IsShortTag : Option (List ℕ) → Type 0
IsShortTag tag = IfSome tag (λ v. length v ≤ 8)

-- as each tag is
pub short-tag : (tag : Option (List ℕ)) → IfSome tag IsTag → IsShortTag tag
short-tag None is = tt
short-tag (Some v) is = is.1

-- with the tag the others are in order
pub tagged-options : (tag : Option (List ℕ)) (os : List Opt) → IsShortTag tag → AreOptions 0 os → AreOptions 0 (tagged tag os)
tagged-options None os short are = are
tagged-options (Some v) os short are = AreOptions-put_in 0 (option_of 4 v) os (omega arith) (omega arith) (omega (arith, short)) are

-- an option that is left out may be put in
pub filter-put_in : (keep : Opt → Bool) (o : Opt) (os : List Opt) → keep o ≡ false → filter keep (put_in o os) ≡ filter keep os
filter-put_in keep o [] out = rw out refl
filter-put_in keep o (p ∷ ps) out = go (leb o.number p.number) (filter-put_in keep o ps out)
  where
    go : (b : Bool) → filter keep (put_in o ps) ≡ filter keep ps → filter keep (cond b (o ∷ p ∷ ps) (p ∷ put_in o ps)) ≡ filter keep (p ∷ ps)
    go true rest = rw out refl
    go false rest = rw rest refl

-- one more that isn't used up
unused-put_in : (o : Opt) (os : List Opt) → is_used_up o.number ≡ false → AreUnused os → AreUnused (put_in o os)
unused-put_in o [] out none = (out, tt)
unused-put_in o (p ∷ ps) out none = go (leb o.number p.number) (unused-put_in o ps out none.1)
  where
    go : (b : Bool) → AreUnused (put_in o ps) → AreUnused (cond b (o ∷ p ∷ ps) (p ∷ put_in o ps))
    go true rest = (out, none)
    go false rest = (none.0, rest)

-- with the tag none of the others is used up
pub tagged-unused : (tag : Option (List ℕ)) (os : List Opt) → AreUnused os → AreUnused (tagged tag os)
tagged-unused None os none = none
tagged-unused (Some v) os none = unused-put_in (option_of 4 v) os refl none

-- ---- the request that is sent on

-- the request that is sent on is a message
pub forwarded-is : (token : List ℕ) (t : Target) (tag : Option (List ℕ)) (m : Message) (id : ℕ) → IsTarget t → AreOptions 0 m.options → first_refused Request m.options ≡ None → is_method m.code ≡ true → IsShortTag tag → length token ≤ 8 → IsMessage (forwarded token t tag m id)
forwarded-is token t tag m id is are screened method tagged_short short =
    record {
      token = short;
      options = AreOptions-merged 0 (target_options t) (tagged tag (sent_on m)) (target-options t is) (tagged-options tag (sent_on m) tagged_short (sent-options m are screened));
      bare = record { token = λ e. absurd (not_empty e); options = λ e. absurd (not_empty e); payload = λ e. absurd (not_empty e) };
    }
  where
    not_empty : m.code.0 ≡ 0 → ⊥
    not_empty e =
        let none : is_method m.code ≡ false = rw e refl in
        let f = sym none ∙ method in
        cc

-- a form with an id is the request with that id
pub with_id-forwarded : (id : ℕ) (token : List ℕ) (t : Target) (tag : Option (List ℕ)) (m : Message) → with_id id (spelling (forwarded token t tag m 0)) ≡ spelling (forwarded token t tag m id)
unfolding with_id spelling
with_id-forwarded id token t tag m = refl

-- another id leaves a form as long as it is
pub length-with_id : (id : ℕ) (form : List ℕ) → length (with_id id form) ≡ length form
unfolding with_id
length-with_id id [] = refl
length-with_id id (a ∷ []) = refl
length-with_id id (a ∷ b ∷ []) = refl
length-with_id id (a ∷ b ∷ c ∷ []) = refl
length-with_id id (a ∷ b ∷ c ∷ d ∷ rest) = refl
