-- The target and the cache key can be read back from the forwarded request.
use Rattle.std.proofs.Common.{◌≡◌, ℕ, ◌<◌, Bool, true, false, cond, eqb, leb, List, [], ◌∷◌, ◌++◌, Option, Some, None, refl, sym, ap, subst, ◌∙◌, arith}
use Rattle.std.specs.Prelude.{◌&&◌, ◌||◌, ◌==◌, not, map, filter, is_some, option_map, if◌then◌else◌, IfSome}
use Rattle.std.specs.List.{AllByRecursion}
use Rattle.std.proofs.lemmas.Bool.{leb-false, eqb-true}
use Rattle.std.proofs.lemmas.List.{append-nil}
use Rattle.coap_message.specs.declared.code.Code.{Code}
use Rattle.coap_message.specs.declared.code.TheConstants.Code.{GET}
use Rattle.coap_message.specs.declared.options.Opt.{Opt}
use Rattle.coap_message.specs.Options.{AreOptions, option_of}
use Rattle.coap_message.specs.Message.{Message}
use Rattle.coap_message.specs.Uint.{uint_of}
use Rattle.coap_message.proofs.Uints.{uint-uint_spelling}
use Rattle.coap_option.specs.declared.side.Side.TheVariants.{Request}
use Rattle.coap_option.specs.Classes.{is_no_cache_key}
use Rattle.coap_option.specs.Screening.{first_refused}
use Rattle.coap_option.specs.Selection.{sent_on, key_of}
use Rattle.coap_endpoint.specs.declared.target.Target.{Target}
use Rattle.coap_endpoint.specs.Target.{IsPort, IsTarget}
use Rattle.coap_endpoint.proofs.Lists.{All-weaken}
use Rattle.coap_target.specs.Request.{first_value}
use Rattle.coap_target.specs.Routes.{values_of}
use Rattle.coap_store.specs.declared.key.CacheKey.{CacheKey}
use Rattle.coap_forward.specs.Messages.{is_get}
use Rattle.coap_forward.specs.Forms.{is_used_up, is_forwarded, put_in, merged, target_options, tagged, forwarded}
use Rattle.coap_forward.proofs.Forms.{All-target, in_key, AreUnused, unused-clean, key-clean, key-screened, sent-screened, sent-unused, IsTag, tagged-unused}
use Rattle.coap_forward.specs.Gaps.{given, port_value, scheme_value}
use Rattle.coap_forward.proofs.Gaps.{target-values}
use Rattle.coap_forward.proofs.Tagging.{key-tagged, filter-merged}
use Rattle.coap_model.proofs.Verdicts.{code-same}
use Rattle.coap_model.specs.Keys.{request_key, says_target, beside_target, target_sent, key_sent}

-- ---- the target, read from the request

-- one more option in front, if the remaining values are the same
values-cons : (number : ℕ) (o : Opt) (os rest : List Opt) → values_of number os ≡ values_of number rest → values_of number (o ∷ os) ≡ values_of number (o ∷ rest)
values-cons number o os rest same = go (eqb o.number number)
  where
    go : (b : Bool) → map (λ p. p.value) (cond b (o ∷ filter (λ p. p.number == number) os) (filter (λ p. p.number == number) os)) ≡ map (λ p. p.value) (cond b (o ∷ filter (λ p. p.number == number) rest) (filter (λ p. p.number == number) rest))
    go true = ap (λ (l : List (List ℕ)). o.value ∷ l) same
    go false = same

-- options with two different numbers, in either order
values-swap : (number : ℕ) (o p : Opt) (os : List Opt) → p.number < o.number → values_of number (p ∷ o ∷ os) ≡ values_of number (o ∷ p ∷ os)
values-swap number o p os less = go (eqb p.number number) refl (eqb o.number number) refl
  where
    rest : List Opt
    rest = filter (λ q. q.number == number) os

    go : (a : Bool) → eqb p.number number ≡ a → (b : Bool) → eqb o.number number ≡ b → map (λ q. q.value) (cond a (p ∷ cond b (o ∷ rest) rest) (cond b (o ∷ rest) rest)) ≡ map (λ q. q.value) (cond b (o ∷ cond a (p ∷ rest) rest) (cond a (p ∷ rest) rest))
    go true e true f = absurd (let i = eqb-true _ _ e in let j = eqb-true _ _ f in omega arith)
    go true e false f = refl
    go false e true f = refl
    go false e false f = refl

-- an inserted option counts like one in front
values-put_in : (number : ℕ) (o : Opt) (os : List Opt) → values_of number (put_in o os) ≡ values_of number (o ∷ os)
values-put_in number o [] = refl
values-put_in number o (p ∷ ps) = go (leb o.number p.number) refl (values-put_in number o ps)
  where
    go : (b : Bool) → leb o.number p.number ≡ b → values_of number (put_in o ps) ≡ values_of number (o ∷ ps) → values_of number (cond b (o ∷ p ∷ ps) (p ∷ put_in o ps)) ≡ values_of number (o ∷ p ∷ ps)
    go true e rest = refl
    go false e rest = values-cons number p (put_in o ps) (o ∷ ps) rest ∙ values-swap number o p ps (let lt = leb-false _ _ e in omega arith)

-- if the other options have no value with a number, merging them changes none of the values with it
values-merged : (number : ℕ) (os others : List Opt) → values_of number others ≡ [] → values_of number (merged os others) ≡ values_of number os
values-merged number [] others none = none
values-merged number (o ∷ os) others none = values-put_in number o (merged os others) ∙ values-cons number o (merged os others) os (values-merged number os others none)

-- options that aren't used up have no value with a number that is
values-unused : (number : ℕ) (os : List Opt) → is_used_up number ≡ true → AreUnused os → values_of number os ≡ []
values-unused number [] used none = refl
values-unused number (o ∷ os) used none = go (eqb o.number number) refl (values-unused number os used none.1)
  where
    go : (b : Bool) → eqb o.number number ≡ b → values_of number os ≡ [] → map (λ p. p.value) (cond b (o ∷ filter (λ p. p.number == number) os) (filter (λ p. p.number == number) os)) ≡ []
    go true e rest = absurd (let f = sym (ap is_used_up (eqb-true o.number number e)) ∙ none.0 in let g = sym used ∙ f in cc)
    go false e rest = rest

-- the values with a number are read back
values-here : (number : ℕ) (values : List (List ℕ)) (os : List Opt) → eqb number number ≡ true → values_of number (map (option_of number) values ++ os) ≡ values ++ values_of number os
values-here number [] os same = refl
values-here number (v ∷ values) os same = rw same (ap (λ (l : List (List ℕ)). v ∷ l) (values-here number values os same))

-- and options with another number don't count
values-other : (number other : ℕ) (values : List (List ℕ)) (os : List Opt) → eqb other number ≡ false → values_of number (map (option_of other) values ++ os) ≡ values_of number os
values-other number other [] os differ = refl
values-other number other (v ∷ values) os differ = rw differ (values-other number other values os differ)

-- lists of values with the numbers of a target are read back
module _ (hosts ports paths queries schemes : List (List ℕ)) where
  abbrev all : List Opt
  all = map (option_of 3) hosts ++ (map (option_of 7) ports ++ (map (option_of 11) paths ++ (map (option_of 15) queries ++ (map (option_of 39) schemes ++ []))))

  hosts-back : values_of 3 all ≡ hosts
  hosts-back = values-here 3 hosts _ refl ∙ ap (λ (l : List (List ℕ)). hosts ++ l) (values-other 3 7 ports _ refl ∙ values-other 3 11 paths _ refl ∙ values-other 3 15 queries _ refl ∙ values-other 3 39 schemes [] refl) ∙ append-nil hosts

  ports-back : values_of 7 all ≡ ports
  ports-back = values-other 7 3 hosts _ refl ∙ values-here 7 ports _ refl ∙ ap (λ (l : List (List ℕ)). ports ++ l) (values-other 7 11 paths _ refl ∙ values-other 7 15 queries _ refl ∙ values-other 7 39 schemes [] refl) ∙ append-nil ports

  paths-back : values_of 11 all ≡ paths
  paths-back = values-other 11 3 hosts _ refl ∙ values-other 11 7 ports _ refl ∙ values-here 11 paths _ refl ∙ ap (λ (l : List (List ℕ)). paths ++ l) (values-other 11 15 queries _ refl ∙ values-other 11 39 schemes [] refl) ∙ append-nil paths

  queries-back : values_of 15 all ≡ queries
  queries-back = values-other 15 3 hosts _ refl ∙ values-other 15 7 ports _ refl ∙ values-other 15 11 paths _ refl ∙ values-here 15 queries _ refl ∙ ap (λ (l : List (List ℕ)). queries ++ l) (values-other 15 39 schemes [] refl) ∙ append-nil queries

  schemes-back : values_of 39 all ≡ schemes
  schemes-back = values-other 39 3 hosts _ refl ∙ values-other 39 7 ports _ refl ∙ values-other 39 11 paths _ refl ∙ values-other 39 15 queries _ refl ∙ values-here 39 schemes [] refl ∙ append-nil schemes

-- the one value of a part
first-given : (value : Option (List ℕ)) → first_value (given value) ≡ value
first-given None = refl
first-given (Some v) = refl

-- a port, if the values say one
abbrev port_read : Option (List ℕ) → Option (List ℕ) → Option ℕ
port_read scheme port = if is_some scheme then option_map uint_of port else None

-- the values of a port say it
port-again : (port : Option ℕ) → IfSome port IsPort → port_read (scheme_value port) (port_value port) ≡ port
port-again None within = refl
port-again (Some n) within = ap Some (uint-uint_spelling n (omega (arith, within)))

-- the parts of a target are read back from its options
record IsReadBack (t : Target) (os : List Opt) : Type 0 where
  pub host : first_value (values_of 3 os) ≡ t.host
  pub port : first_value (values_of 7 os) ≡ port_value t.port
  pub path : values_of 11 os ≡ t.path
  pub query : values_of 15 os ≡ t.query
  pub scheme : first_value (values_of 39 os) ≡ scheme_value t.port

-- the options of a target give that target
read-back : (t : Target) → IsReadBack t (target_options t)
read-back t = subst (IsReadBack t) (target-values t) (record {
  host = ap first_value (hosts-back (given t.host) ports t.path t.query schemes) ∙ first-given t.host;
  port = ap first_value (ports-back (given t.host) ports t.path t.query schemes) ∙ first-given (port_value t.port);
  path = paths-back (given t.host) ports t.path t.query schemes;
  query = queries-back (given t.host) ports t.path t.query schemes;
  scheme = ap first_value (schemes-back (given t.host) ports t.path t.query schemes) ∙ first-given (scheme_value t.port);
})
  where
    ports : List (List ℕ)
    ports = given (port_value t.port)

    schemes : List (List ℕ)
    schemes = given (scheme_value t.port)

-- so the target is read back from the request, whatever else is forwarded
target-sent : (token : List ℕ) (t : Target) (tag : Option (List ℕ)) (m : Message) (id : ℕ) → IsTarget t → first_refused Request m.options ≡ None → target_sent t.at (forwarded token t tag m id) ≡ t
unfolding target_sent
target-sent token t tag m id is screened =
    let back = read-back t in
    let scheme = ap first_value (merges 39 refl) ∙ back.scheme in
    let port = ap first_value (merges 7 refl) ∙ back.port in
    made (ap first_value (merges 3 refl) ∙ back.host) (both scheme port ∙ port-again t.port is.port) (merges 11 refl ∙ back.path) (merges 15 refl ∙ back.query)
  where
    others : List Opt
    others = tagged tag (sent_on m)

    merges : (number : ℕ) → is_used_up number ≡ true → values_of number (merged (target_options t) others) ≡ values_of number (target_options t)
    merges number used = values-merged number (target_options t) others (values-unused number others used (tagged-unused tag (sent_on m) (sent-unused m screened)))

    both : {a a' b b' : Option (List ℕ)} → a ≡ a' → b ≡ b' → port_read a b ≡ port_read a' b'
    both e f = cc

    made : {h h' : Option (List ℕ)} {n n' : Option ℕ} {p p' q q' : List (List ℕ)} → h ≡ h' → n ≡ n' → p ≡ p' → q ≡ q' → ◌≡◌ {A = Target} (record { host = h; at = t.at; port = n; path = p; query = q }) (record { host = h'; at = t.at; port = n'; path = p'; query = q' })
    made e f g i = cc

-- ---- the key, read from the request

-- all options of a target belong to it
all-say : (t : Target) → AllByRecursion (λ o. says_target o.number ≡ true) (target_options t)
all-say t = All-target (λ n. says_target n ≡ true) refl refl refl refl refl t

-- an inserted option that is kept comes before the other kept options, if they have no lower
-- numbers
filter-put_in-kept : (keep : Opt → Bool) (o : Opt) (os : List Opt) → keep o ≡ true → AreOptions o.number (filter keep os) → filter keep (put_in o os) ≡ o ∷ filter keep os
filter-put_in-kept keep o [] kept are = rw kept refl
filter-put_in-kept keep o (p ∷ ps) kept are = go (leb o.number p.number) refl (keep p) refl (filter-put_in-kept keep o ps kept) are
  where
    go : (b : Bool) → leb o.number p.number ≡ b → (k : Bool) → keep p ≡ k → (AreOptions o.number (filter keep ps) → filter keep (put_in o ps) ≡ o ∷ filter keep ps) → AreOptions o.number (cond k (p ∷ filter keep ps) (filter keep ps)) → filter keep (cond b (o ∷ p ∷ ps) (p ∷ put_in o ps)) ≡ o ∷ cond k (p ∷ filter keep ps) (filter keep ps)
    go true e k f rest are' = rw (kept, f) refl
    go false e true f rest are' = absurd (let le = are'.0 in let lt = leb-false _ _ e in omega arith)
    go false e false f rest are' = rw f (rest are')

-- so of two merged lists, the first is read back if all of it is kept, and nothing of the other
pub kept-merged : (keep : Opt → Bool) (low : ℕ) (os others : List Opt) → AreOptions low os → AllByRecursion (λ o. keep o ≡ true) os → filter keep others ≡ [] → filter keep (merged os others) ≡ os
kept-merged keep low [] others are kept none = none
kept-merged keep low (o ∷ os) others are kept none =
    let rest = kept-merged keep o.number os others are.3 kept.1 none in
    filter-put_in-kept keep o (merged os others) kept.0 (subst (AreOptions o.number) (sym rest) are.3) ∙ ap (λ (l : List Opt). o ∷ l) rest

-- the options of a target are used up
says-used : (number : ℕ) → says_target number ≡ true → is_used_up number ≡ true
says-used number says = go (eqb number 3) refl (eqb number 7) refl (eqb number 11) refl (eqb number 15) refl (eqb number 39) refl says
  where
    of : (n : ℕ) → is_used_up n ≡ true → eqb number n ≡ true → is_used_up number ≡ true
    of n used e = subst (λ (k : ℕ). is_used_up k ≡ true) (sym (eqb-true number n e)) used

    go : (a : Bool) → eqb number 3 ≡ a → (b : Bool) → eqb number 7 ≡ b → (c : Bool) → eqb number 11 ≡ c → (d : Bool) → eqb number 15 ≡ d → (e : Bool) → eqb number 39 ≡ e → (a || (b || (c || (d || e)))) ≡ true → is_used_up number ≡ true
    go true is b f c g d h e i s = of 3 refl is
    go false is true f c g d h e i s = of 7 refl f
    go false is false f true g d h e i s = of 11 refl g
    go false is false f false g true h e i s = of 15 refl h
    go false is false f false g false h true i s = of 39 refl i
    go false is false f false g false h false i s = absurd cc

-- of some numbers that are used up, with options of these numbers, all of which are in order
module _ (says : ℕ → Bool) (used : (number : ℕ) → says number ≡ true → is_used_up number ≡ true) where
  -- all options that aren't used up are among the other options
  pub unused-beside : (os : List Opt) → AreUnused os → filter (λ o. not (says o.number)) os ≡ os
  unused-beside [] none = refl
  unused-beside (o ∷ os) none = go (says o.number) refl (unused-beside os none.1)
    where
      go : (b : Bool) → says o.number ≡ b → filter (λ p. not (says p.number)) os ≡ os → cond (not b) (o ∷ filter (λ p. not (says p.number)) os) (filter (λ p. not (says p.number)) os) ≡ o ∷ os
      go true e rest = absurd (let f = sym none.0 ∙ used o.number e in cc)
      go false e rest = ap (λ (l : List Opt). o ∷ l) rest

  -- and none of them is among these
  unused-silent : (os : List Opt) → AreUnused os → filter (λ o. says o.number) os ≡ []
  unused-silent [] none = refl
  unused-silent (o ∷ os) none = go (says o.number) refl (unused-silent os none.1)
    where
      go : (b : Bool) → says o.number ≡ b → filter (λ p. says p.number) os ≡ [] → cond b (o ∷ filter (λ p. says p.number) os) (filter (λ p. says p.number) os) ≡ []
      go true e rest = absurd (let f = sym none.0 ∙ used o.number e in cc)
      go false e rest = rest

  -- so these options are those of the request with these numbers
  pub said-kept : (os others : List Opt) → AreOptions 0 os → AllByRecursion (λ o. says o.number ≡ true) os → AreUnused others → filter (λ o. says o.number) (merged os others) ≡ os
  said-kept os others are say none = kept-merged (λ o. says o.number) 0 os others are say (unused-silent others none)

  -- and the others are the options besides them
  pub beside-kept : (os others : List Opt) → AllByRecursion (λ o. says o.number ≡ true) os → AreUnused others → filter (λ o. not (says o.number)) (merged os others) ≡ others
  beside-kept os others say none = filter-merged (λ o. not (says o.number)) os others (All-weaken (λ o. says o.number ≡ true) (λ o. not (says o.number) ≡ false) os (λ o is. ap not is) say) ∙ unused-beside others none

-- the forwarded options in the key are those of all options that are in the key
key-of-sent : (code : Code) (os : List Opt) → filter (in_key code) (filter (is_forwarded code) os) ≡ filter (in_key code) os
key-of-sent code [] = refl
key-of-sent code (o ∷ os) = go (is_forwarded code o) refl (in_key code o) refl (key-of-sent code os)
  where
    out : (g k : Bool) → g ≡ false → (g && not (is_no_cache_key o.number)) ≡ k → k ≡ false
    out true k e f = absurd cc
    out false k e f = sym f

    go : (g : Bool) → is_forwarded code o ≡ g → (k : Bool) → in_key code o ≡ k → filter (in_key code) (filter (is_forwarded code) os) ≡ filter (in_key code) os
        → filter (in_key code) (cond g (o ∷ filter (is_forwarded code) os) (filter (is_forwarded code) os)) ≡ cond k (o ∷ filter (in_key code) os) (filter (in_key code) os)
    go true e true f rest = rw (f, rest) refl
    go true e false f rest = rw (f, rest) refl
    go false e true f rest = absurd (let g = out (is_forwarded code o) true e f in cc)
    go false e false f rest = rest

-- the others are the options besides the target
others-kept : (t : Target) (others : List Opt) → AreUnused others → filter (λ o. not (says_target o.number)) (merged (target_options t) others) ≡ others
others-kept t others none = beside-kept says_target says-used (target_options t) others (all-say t) none

-- the tag isn't part of the key
key-untagged : (tag : Option (List ℕ)) (m : Message) → IfSome tag IsTag → (is_get m.code ≡ false → tag ≡ None) → filter (in_key m.code) (tagged tag (sent_on m)) ≡ filter (in_key m.code) (sent_on m)
key-untagged tag m is none = go (is_get m.code) refl
  where
    go : (b : Bool) → is_get m.code ≡ b → filter (in_key m.code) (tagged tag (sent_on m)) ≡ filter (in_key m.code) (sent_on m)
    go true get = subst (λ (code : Code). filter (in_key code) (tagged tag (sent_on m)) ≡ filter (in_key code) (sent_on m)) (sym (code-same m.code GET (eqb-true m.code.0 1 get))) (key-tagged tag (sent_on m) is)
    go false other = ap (λ (o : Option (List ℕ)). filter (in_key m.code) (tagged o (sent_on m))) (none other)

-- so the options of a key are among those that are forwarded
pub key-among : (tag : Option (List ℕ)) (m : Message) → first_refused Request m.options ≡ None → IfSome tag IsTag → (is_get m.code ≡ false → tag ≡ None) → key_of m ≡ filter (in_key m.code) (tagged tag (sent_on m))
key-among tag m screened is other = key-screened m screened ∙ sym (ap (filter (in_key m.code)) (sent-screened m screened) ∙ key-of-sent m.code m.options) ∙ sym (key-untagged tag m is other)

-- the forwarded request has the client's key: the proxy's tag isn't part of it
pub key-forwarded : (token : List ℕ) (t : Target) (tag : Option (List ℕ)) (m : Message) (id : ℕ) → IsTarget t → first_refused Request m.options ≡ None → IfSome tag IsTag → (is_get m.code ≡ false → tag ≡ None) → key_sent t.at (forwarded token t tag m id) ≡ request_key t m
unfolding key_sent
key-forwarded token t tag m id sound screened is other =
    let none = tagged-unused tag (sent_on m) (sent-unused m screened) in
    let sent : Message = beside_target (forwarded token t tag m id) in
    let options : sent.options ≡ tagged tag (sent_on m) = others-kept t (tagged tag (sent_on m)) none in
    let unused : AreUnused sent.options = subst AreUnused (sym options) none in
    let of_sent : key_of sent ≡ filter (in_key m.code) sent.options = key-clean sent (unused-clean sent.options unused) in
    made (target-sent token t tag m id sound screened) (of_sent ∙ ap (filter (in_key m.code)) options ∙ sym (key-among tag m screened is other))
  where
    made : {a b : Target} {p q : List Opt} → a ≡ b → p ≡ q → ◌≡◌ {A = CacheKey} (record { target = a; options = p }) (record { target = b; options = q })
    made e f = cc
