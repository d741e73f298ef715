-- What is obtained is kept depending on its size, and what a cache has was obtained.
use Rattle.std.proofs.Common.{◌≡◌, inl, inr, ℕ, ◌≤◌, ◌&&◌, Bool, true, false, cond, not, nat_lt, List, [], ◌∷◌, Option, Some, None, refl, sym, ap, ◌∙◌, subst, arith}
use Rattle.std.specs.Prelude.{option_map}
use Rattle.std.specs.Option.{option_map_or}
use Rattle.std.specs.List.{AllByRecursion}
use Rattle.std.proofs.lemmas.Bool.{and_parts, eqb-true, ltb-true, lt-ltb}
use Rattle.std.proofs.lemmas.Option.{same_Some}
use Rattle.coap_message.specs.declared.code.Code.{Code}
use Rattle.coap_message.specs.declared.code.TheConstants.Code.{EMPTY, CONTENT, VALID}
use Rattle.coap_message.specs.declared.kind.Kind.{Kind}
use Rattle.coap_message.specs.declared.kind.Kind.TheVariants.{Con, Non, Ack, Rst}
use Rattle.coap_message.specs.Codes.{is_code}
use Rattle.coap_message.specs.Message.{Message}
use Rattle.coap_message.proofs.WholeMessages.{one_message}
use Rattle.coap_option.specs.Selection.{max_age_of, tags_of}
use Rattle.coap_endpoint.specs.declared.endpoint.Endpoint.{Endpoint}
use Rattle.coap_endpoint.specs.declared.target.Target.{Target}
use Rattle.coap_endpoint.proofs.Lists.{All-weaken}
use Rattle.coap_target.specs.Routes.{AreRoutes}
use Rattle.coap_store.specs.declared.answer.Answer.{Answer}
use Rattle.coap_store.specs.declared.key.CacheKey.{CacheKey}
use Rattle.coap_store.specs.Renewing.{tag_of, has_tag, is_validated, renewed}
use Rattle.coap_store.specs.Showing.{is_content, is_cacheable}
use Rattle.coap_store.proofs.Distinct.{of_key-key}
use Rattle.coap_forward.specs.Messages.{is_get, is_rst, brings_requests, token_of}
use Rattle.coap_forward.specs.Forms.{forwarded, form_fits, tag_if_fits, tag_for}
use Rattle.coap_forward.specs.Gaps.{given}
use Rattle.coap_forward.specs.Answers.{fits, validates, without_observe, passed_part, is_passed_on, bad_gateway, own_answer, origin_answer, validated, answer_of, is_storable}
use Rattle.coap_forward.proofs.Tagging.{tag_for-is, tags-forwarded}
use Rattle.coap_store.specs.Lists.{of_key}
use Rattle.coap_model.specs.declared.report.Outcome.{Outcome}
use Rattle.coap_model.specs.declared.report.Outcome.TheVariants.{Answered, SentRequest}
use Rattle.coap_model.specs.declared.report.Storing.TheVariants.{Kept, TooLarge, NoMemory, NotStored}
use Rattle.coap_model.specs.Setting.{Setting}
use Rattle.coap_model.specs.Keys.{key_sent}
use Rattle.coap_model.specs.History.{Action, Position, accepts_answer, Opens, Sends, Matches, in_acknowledgement, separate, by_reset, Meets, Gets}
use Rattle.coap_model.specs.Changed.{asked_of, key_asked, to_get, Unchanged}
use Rattle.coap_model.specs.Cached.{IsFetched, IsLasting, IsObtained, first_hand, validated as was_validated, Cached, cached_key, kept_for, copied, answer_got, entry_got, IsCacheOf, WasCacheAt, WasObtained}
use Rattle.coap_model.specs.Justified.{IsForwarding, IsObtainedHere, entry_here, size_here, IsKept, JustifiedBy, AllJustified}
use Rattle.coap_model.proofs.ForwardedRequests.{key-kept}
use Rattle.coap_model.proofs.Cached.{cache-unique, cache-holds, found-holds}
use Rattle.coap_model.proofs.MarksAndTaints.{one-getting}
use Rattle.coap_model.proofs.OneStoring.{one-former, one-answer, one-size}
use Rattle.coap_model.proofs.Positions.{here, same_moves, Opens-unique, position-before, justified-at}
use Rattle.coap_model.proofs.Stages.{all-before}
use Rattle.coap_model.proofs.Verdicts.{code-same, askable}

-- what contradicts itself gives anything
apart : {A B : Type 0} (x : A) → Some x ≡ None → B
apart x e = absurd cc

never : {B : Type 0} → false ≡ true → B
never e = absurd cc

-- an answer that is no larger than the limit is kept, if its key has an entry
pub kept-there : (o : Outcome) (setting : Setting) (past : List Action) (d : Action) (cached : List Cached) (entry : Cached) (h : IsObtainedHere setting past d) → JustifiedBy o setting past d → accepts_answer o ≡ true → size_here h ≤ setting.limits.cache_bytes → IsCacheOf setting past cached → of_key cached_key (key_asked h.gets) cached ≡ Some entry → o ≡ Answered Kept
kept-there (Answered Kept) setting past d cached entry h j took small is found = refl
kept-there (Answered TooLarge) setting past d cached entry h j took small is found = let same = one-size h j.here in let large = j.large in absurd (omega (arith, small, large, same))
kept-there (Answered NoMemory) setting past d cached entry h j took small is found =
    let one = one-getting h.gets j.here.gets in
    let cache = cache-unique setting past cached j.cached is j.is_cache in
    let none : of_key cached_key (key_asked h.gets) cached ≡ None = (λ i. of_key cached_key (one.key i) (cache i)) ∙ j.new in
    apart entry (sym found ∙ none)
kept-there (Answered NotStored) setting past d cached entry h j took small is found = absurd (j.none h)
kept-there _ setting past d cached entry h j took small is found = never took

-- ---- what may be stored was obtained

-- how a response that may be stored arrived: as it is, or as a 2.03 that renews another one
data IsTaken (most : ℕ) (copy : Option Message) (m response : Message) : Type 0 where
  as_it_came : is_passed_on most true m ≡ true → response ≡ passed_part true m → IsLasting response → IsTaken most copy m response
  renewing : (old : Message)
      → copy ≡ Some old
      → is_passed_on most true m ≡ true
      → is_validated old (passed_part true m) ≡ true
      → response ≡ renewed old (passed_part true m)
      → fits most response ≡ true
      → IsLasting response
      → IsTaken most copy m response

-- an answer that may be stored is lasting
lasting-so : (a : Answer) → is_storable a ≡ true → IsLasting a.message
lasting-so a e =
    let both = and_parts (is_cacheable a.message.code) (nat_lt 0 (max_age_of a.message)) (and_parts (not a.own) (is_cacheable a.message.code && nat_lt 0 (max_age_of a.message)) e).1 in
    record { code = both.0; max_age = ltb-true 0 (max_age_of a.message) both.1 }

-- an answer that may be stored arrived in one of these ways
taken-so : (most now : ℕ) (copy : Option Message) (m : Message) → is_storable (answer_of most true copy now m) ≡ true → IsTaken most copy m (answer_of most true copy now m).message
unfolding answer_of
taken-so most now copy m e = go (not (is_rst m.kind) && is_passed_on most true m) refl (validates true m) e
  where
    took : Message
    took = passed_part true m

    valid : (old : Message) → copy ≡ Some old → is_passed_on most true m ≡ true → (a : Bool) → is_validated old (passed_part true m) ≡ a → (b : Bool) → fits most (renewed old (passed_part true m)) ≡ b
        → is_storable (cond a (cond b (origin_answer now (renewed old (passed_part true m))) (own_answer now bad_gateway)) (own_answer now bad_gateway)) ≡ true
        → IsTaken most copy m (cond a (cond b (origin_answer now (renewed old (passed_part true m))) (own_answer now bad_gateway)) (own_answer now bad_gateway)).message
    valid old is passed true v true f s = renewing old is passed v refl f (lasting-so (origin_answer now (renewed old (passed_part true m))) s)
    valid old is passed true v false f s = absurd cc
    valid old is passed false v b f s = absurd cc

    of_copy : is_passed_on most true m ≡ true → (c : Option Message) → copy ≡ c → is_storable (validated most now c (passed_part true m)) ≡ true → IsTaken most copy m (validated most now c (passed_part true m)).message
    of_copy passed None is s = absurd cc
    of_copy passed (Some old) is s = valid old is passed (is_validated old (passed_part true m)) refl (fits most (renewed old (passed_part true m))) refl s

    go : (p : Bool) → (not (is_rst m.kind) && is_passed_on most true m) ≡ p → (v : Bool)
        → is_storable (cond p (cond v (validated most now copy (passed_part true m)) (origin_answer now (passed_part true m))) (own_answer now bad_gateway)) ≡ true
        → IsTaken most copy m (cond p (cond v (validated most now copy (passed_part true m)) (origin_answer now (passed_part true m))) (own_answer now bad_gateway)).message
    go true is true s = of_copy (and_parts (not (is_rst m.kind)) (is_passed_on most true m) is).1 copy refl s
    go true is false s = as_it_came (and_parts (not (is_rst m.kind)) (is_passed_on most true m) is).1 refl (lasting-so (origin_answer now (passed_part true m)) s)
    go false is v s = absurd cc

-- ---- the tag of the forwarded request

-- if a tag is carried, it is the only one
one-tag : (tag : List ℕ) (tags : List (List ℕ)) (g : Option (List ℕ)) → tag ∷ tags ≡ given g → (g ≡ Some tag) × (tags ≡ [])
one-tag tag tags None e = absurd cc
one-tag tag tags (Some v) e = (let f : v ≡ tag = cc in ap Some f, cc)

-- the tag of the kept response is carried only if the response has that tag
tag-kept : (most : ℕ) (t : Target) (request old : Message) (tag : List ℕ) → tag_for most t request (Some old) ≡ Some tag → tag_of old.options ≡ Some tag
tag-kept most t request old tag e = go (is_get request.code && is_content old.code) (tag_of old.options) e
  where
    fitting : (b : Bool) (v : List ℕ) → cond b (Some v) None ≡ Some tag → Some v ≡ Some tag
    fitting true v f = f
    fitting false v f = absurd cc

    go : (b : Bool) (g : Option (List ℕ)) → cond b (tag_if_fits most t request g) None ≡ Some tag → g ≡ Some tag
    go true None f = absurd cc
    go true (Some v) f = fitting (form_fits most t (Some v) request) v f
    go false g f = absurd cc

-- what the request of an exchange was sent for, if its answer may be stored
record IsAskedSo {setting : Setting} {x : ℕ} {p : Position} (gets : Gets setting x p) (former : List Cached) (old : Message) : Type 0 where
  pub tag : List ℕ
  pub has : tag_of old.options ≡ Some tag
  pub carried : tags_of (asked_of gets) ≡ tag ∷ []

-- a GET carries at most one tag: that of what was kept when its exchange was opened
asked-so : {setting : Setting} {x : ℕ} {p : Position} (gets : Gets setting x p) (former : List Cached) (old : Message) → AreRoutes setting.routes → AllJustified setting p.before → to_get gets ≡ true → WasCacheAt setting gets.meets.asking.before x former → copied (tags_of (asked_of gets)) (key_asked gets) former ≡ Some old → IsAskedSo gets former old
asked-so {setting} {x} {p} gets former old routes all get was is = go (tags_of (asked_of gets)) refl is
  where
    m : Meets setting x p.before p.action.observation.event
    m = gets.meets

    sends : Sends setting.salt x m.asking
    sends = m.asks.sends

    f : IsForwarding setting m.asking.before m.asking.action
    f = justified-at setting p.before m.asking SentRequest all m.was_asked sends.outcome

    request : Message
    request = f.to_send.opened.request

    kept : Option Message
    kept = kept_for f.to_send.key f.former

    tag : Option (List ℕ)
    tag = tag_for setting.limits.datagram f.to_send.key.target request kept

    number : f.exchange ≡ x
    number = same_moves f.exchange x (sym f.act ∙ sends.act)

    sent : sends.message ≡ forwarded (token_of setting.salt f.exchange) f.to_send.key.target tag request f.id
    sent = one_message m.asking.action.observation.bytes sends.message _ sends.spells f.tells.spells

    to : sends.to ≡ f.to_send.key.target.at
    to = same_Some sends.to f.to_send.key.target.at (sym sends.sent ∙ f.tells.sent)

    key : key_asked gets ≡ f.to_send.key
    key = ap (λ (e : Endpoint). key_sent e sends.message) to ∙ key-kept setting m.asking.before m.asking.action f sends.message routes sends.spells

    position : f.to_send.opened.opening ≡ was.opening
    position = Opens-unique m.asking.before f.to_send.opened.opening was.opening x f.to_send.opened.was_opened was.was_opened (subst (λ (n : ℕ). Opens n f.to_send.opened.opening) number f.to_send.opened.opens) was.opens

    same : f.former ≡ former
    same = cache-unique setting was.opening.before f.former former (subst (λ (q : Position). IsCacheOf setting q.before f.former) position f.is_cache) was.is_cache

    asked_get : is_get request.code ≡ true
    asked_get = sym (ap (λ (n : Message). is_get n.code) sent) ∙ get

    tags : tags_of (asked_of gets) ≡ given tag
    tags = ap tags_of sent ∙ tags-forwarded (token_of setting.salt f.exchange) f.to_send.key.target tag request f.id asked_get (askable setting.routes request routes f.to_send.key f.to_send.verdict).screened (tag_for-is setting.limits.datagram f.to_send.key.target request kept)

    go : (ts : List (List ℕ)) → tags_of (asked_of gets) ≡ ts → copied ts (key_asked gets) former ≡ Some old → IsAskedSo gets former old
    go [] are e = absurd cc
    go (t ∷ ts) are e =
        let one = one-tag t ts tag (sym are ∙ tags) in
        let had : kept ≡ Some old = (λ i. kept_for (sym key i) (same i)) ∙ e in
        let carried : tag_for setting.limits.datagram f.to_send.key.target request (Some old) ≡ Some t = ap (tag_for setting.limits.datagram f.to_send.key.target request) (sym had) ∙ one.0 in
        record { tag = t; has = tag-kept setting.limits.datagram f.to_send.key.target request old t carried; carried = are ∙ ap (λ (l : List (List ℕ)). t ∷ l) one.1 }

-- ---- what a cache has

-- what was obtained stays so as the history grows
obtained-later : (setting : Setting) (past : List Action) (d : Action) (c : Cached) → WasObtained setting past c → WasObtained setting (d ∷ past) c
obtained-later setting past d c w = record { was_asked = inr w.was_asked; was_got = inr w.was_got; obtained = w.obtained }

-- the response that a cache kept for a key
record WasKept (key : CacheKey) (cached : List Cached) (response : Message) : Type 0 where
  pub entry : Cached
  pub found : of_key cached_key key cached ≡ Some entry
  pub is : entry.response ≡ response

kept-of : (key : CacheKey) (cached : List Cached) (response : Message) → kept_for key cached ≡ Some response → WasKept key cached response
kept-of key cached response e = go (of_key cached_key key cached) refl e
  where
    go : (o : Option Cached) → of_key cached_key key cached ≡ o → option_map (λ (c : Cached). c.response) o ≡ Some response → WasKept key cached response
    go None f g = absurd cc
    go (Some c) f g = record { entry = c; found = f; is = same_Some c.response response g }

-- a copy is the response that was kept
copy-kept : (tags : List (List ℕ)) (key : CacheKey) (former : List Cached) (old : Message) → copied tags key former ≡ Some old → kept_for key former ≡ Some old
copy-kept [] key former old e = absurd cc
copy-kept (tag ∷ tags) key former old e = e

-- what an action obtains was obtained, if what was in the cache before was
here-obtained : (setting : Setting) (past : List Action) (d : Action) (o : IsObtainedHere setting past d) → AreRoutes setting.routes → AllJustified setting past → AllByRecursion (WasObtained setting o.was_cache.opening.before) o.former → IsObtained setting (key_asked o.gets) (answer_got o.former o.gets).message o.gets.meets.asking (here past d)
here-obtained setting past d o routes all old = go (taken-so most now copy m (ap (λ (b : Bool). is_storable (answer_of most b copy now m)) (sym o.method) ∙ o.storable))
  where
    most : ℕ
    most = setting.limits.datagram

    now : ℕ
    now = d.observation.now

    m : Message
    m = o.gets.meets.message

    key : CacheKey
    key = key_asked o.gets

    copy : Option Message
    copy = copied (tags_of (asked_of o.gets)) key o.former

    -- the response, as an answer to a GET
    same : (answer_got o.former o.gets).message ≡ (answer_of most true copy now m).message
    same = ap (λ (b : Bool). (answer_of most b copy now m).message) o.method

    fetched : is_passed_on most true m ≡ true → IsFetched setting key o.gets.meets.asking (here past d)
    fetched passed = record { exchange = o.exchange; gets = o.gets; asking_is = refl; method = o.method; asked_key = refl; passed = passed; unchanged = o.unchanged }

    go : IsTaken most copy m (answer_of most true copy now m).message → IsObtained setting key (answer_got o.former o.gets).message o.gets.meets.asking (here past d)
    go (as_it_came passed is lasting) = first_hand (fetched passed) (same ∙ is) (subst IsLasting (sym same) lasting)
    go (renewing response has passed valid is short lasting) =
        let asked = asked-so o.gets o.former response routes all o.method o.was_cache has in
        let kept = kept-of key o.former response (copy-kept (tags_of (asked_of o.gets)) key o.former response has) in
        let w = found-holds (WasObtained setting o.was_cache.opening.before) o.former key kept.entry old kept.found in
        let of_this : IsObtained setting key response kept.entry.asking kept.entry.getting = subst (λ (r : Message). IsObtained setting key r kept.entry.asking kept.entry.getting) kept.is (subst (λ (k : CacheKey). IsObtained setting k kept.entry.response kept.entry.asking kept.entry.getting) (of_key-key cached_key key o.former kept.entry kept.found) w.obtained) in
        was_validated (fetched passed) asked.tag of_this (position-before o.gets.meets.asking.before o.was_cache.opening kept.entry.getting o.was_cache.was_opened w.was_got) asked.has asked.carried valid (same ∙ is) (ap (fits most) same ∙ short) (subst IsLasting (sym same) lasting)

-- what an action obtains is obtained by any account of how it arrived
abbrev obtained-as : (setting : Setting) (past : List Action) (d : Action) (x : ℕ) (gets : Gets setting x (here past d)) (former : List Cached) → WasCacheAt setting gets.meets.asking.before x former → IsObtainedHere setting past d → IsObtainedHere setting past d
obtained-as setting past d x gets former was h = record {
  exchange = x;
  gets = gets;
  method = ap (λ (m : Message). is_get m.code) (one-getting gets h.gets).asked ∙ h.method;
  unchanged = subst (λ (q : Position). Unchanged setting (key_asked gets).target q past) (sym (one-getting gets h.gets).asking) (subst (λ (k : CacheKey). Unchanged setting k.target h.gets.meets.asking past) (sym (one-getting gets h.gets).key) h.unchanged);
  former = former;
  was_cache = was;
  storable = ap is_storable (one-answer gets h.gets (one-former gets h.gets was h.was_cache)) ∙ h.storable;
}

-- each entry of the cache of a history was obtained in it
pub cache-obtained : (setting : Setting) (history : List Action) (cached : List Cached) → AreRoutes setting.routes → AllJustified setting history → IsCacheOf setting history cached → AllByRecursion (WasObtained setting history) cached
cache-obtained setting history cached routes all is =
    All-weaken (λ c. AllJustified setting history → WasObtained setting history c) (WasObtained setting history) cached (λ c w. w all)
    (cache-holds setting (λ past c. AllJustified setting past → WasObtained setting past c) (λ past d c w more. obtained-later setting past d c (w more.1)) new history cached is)
  where
    new : (past : List Action) (d : Action) (x : ℕ) (gets : Gets setting x (here past d)) (former : List Cached) (was : WasCacheAt setting gets.meets.asking.before x former) → d.observation.report.outcome ≡ Answered Kept → AllByRecursion (λ c. AllJustified setting was.opening.before → WasObtained setting was.opening.before c) former → AllJustified setting (d ∷ past) → WasObtained setting (d ∷ past) (entry_got former gets)
    new past d x gets former was outcome old more =
        let j : IsKept setting past d = justified-at setting (d ∷ past) (here past d) (Answered Kept) more (inl refl) outcome in
        let o = obtained-as setting past d x gets former was j.here in
        let before = all-before setting gets.meets.asking.before was.opening (all-before setting past gets.meets.asking more.1 gets.meets.was_asked) was.was_opened in
        record {
          was_asked = inr gets.meets.was_asked;
          was_got = inl refl;
          obtained = here-obtained setting past d o routes more.1 (All-weaken (λ c. AllJustified setting was.opening.before → WasObtained setting was.opening.before c) (WasObtained setting was.opening.before) former (λ c w. w before) old);
        }

-- so was an entry that is found in it
pub found-obtained : (setting : Setting) (history : List Action) (cached : List Cached) (key : CacheKey) (c : Cached) → AreRoutes setting.routes → AllJustified setting history → IsCacheOf setting history cached → of_key cached_key key cached ≡ Some c → WasObtained setting history c
found-obtained setting history cached key c routes all is found = found-holds (WasObtained setting history) cached key c (cache-obtained setting history cached routes all is) found

-- the entry that an action obtains was obtained
pub obtained-here : (setting : Setting) (past : List Action) (d : Action) (o : IsObtainedHere setting past d) → AreRoutes setting.routes → AllJustified setting past → IsObtained setting (key_asked o.gets) (entry_here o).response o.gets.meets.asking (here past d)
obtained-here setting past d o routes all =
    let before = all-before setting o.gets.meets.asking.before o.was_cache.opening (all-before setting past o.gets.meets.asking all o.gets.meets.was_asked) o.was_cache.was_opened in
    here-obtained setting past d o routes all (cache-obtained setting o.was_cache.opening.before o.former routes before o.was_cache.is_cache)

-- an obtained entry was fetched last
pub obtained-fetched : {s : Setting} {key : CacheKey} {response : Message} {a g : Position} → IsObtained s key response a g → IsFetched s key a g
obtained-fetched (first_hand fetched is lasting) = fetched
obtained-fetched (was_validated fetched tag old before its also valid is fits lasting) = fetched

-- and it is lasting
pub obtained-lasting : {s : Setting} {key : CacheKey} {response : Message} {a g : Position} → IsObtained s key response a g → IsLasting response
obtained-lasting (first_hand fetched is lasting) = lasting
obtained-lasting (was_validated fetched tag old before its also valid is fits lasting) = lasting

-- ---- what arrives this way may be stored

-- an answer that isn't Empty isn't a Reset
no_reset : (token : List ℕ) (id : ℕ) (m : Message) → Matches token id m → is_code m.code EMPTY ≡ false → not (is_rst m.kind) ≡ true
no_reset token id m (in_acknowledgement kind code same with_id) other = rw kind refl
no_reset token id m (separate kind code same) other = go m.kind kind
  where
    go : (k : Kind) → brings_requests k ≡ true → not (is_rst k) ≡ true
    go Con e = refl
    go Non e = refl
    go Ack e = refl
    go Rst e = absurd cc
no_reset token id m (by_reset kind code with_id) other = absurd (let e : false ≡ true = sym other ∙ ap (λ (c : Code). is_code c EMPTY) code in cc)

-- a code with a Max-Age isn't Empty, nor 2.03
told-code : (code : Code) → is_cacheable code ≡ true → (is_code code EMPTY ≡ false) × (is_code code VALID ≡ false)
told-code code told = (go EMPTY refl, go VALID refl)
  where
    go : (other : Code) → is_cacheable other ≡ false → is_code code other ≡ false
    go other not_told = same_or (is_code code other) refl
      where
        same_or : (b : Bool) → is_code code other ≡ b → b ≡ false
        same_or true e = absurd (let same : is_cacheable code ≡ is_cacheable other = ap is_cacheable (code-same code other (eqb-true code.0 other.0 e)) in let f : true ≡ false = sym told ∙ same ∙ not_told in cc)
        same_or false e = refl

-- a lasting response from an origin server may be stored
lasting-storable : (now : ℕ) (r : Message) → IsLasting r → is_storable (origin_answer now r) ≡ true
lasting-storable now r l = rw (l.code, lt-ltb 0 (max_age_of r) l.max_age) refl

-- a response that is passed on and is lasting may be stored
came-storable : (most now : ℕ) (copy : Option Message) (m : Message) → not (is_rst m.kind) ≡ true → is_passed_on most true m ≡ true → validates true m ≡ false → is_storable (origin_answer now (passed_part true m)) ≡ true → is_storable (answer_of most true copy now m) ≡ true
unfolding answer_of
came-storable most now copy m sent passed other storable = go (not (is_rst m.kind)) sent (is_passed_on most true m) passed (validates true m) other
  where
    go : (n : Bool) → n ≡ true → (p : Bool) → p ≡ true → (v : Bool) → v ≡ false → is_storable (cond (n && p) (cond v (validated most now copy (passed_part true m)) (origin_answer now (passed_part true m))) (own_answer now bad_gateway)) ≡ true
    go true e true f false g = storable
    go true e true f true g = absurd cc
    go true e false f v g = absurd cc
    go false e p f v g = absurd cc

-- so may a response that a 2.03 renews
renewed-storable : (most now : ℕ) (old m : Message) → not (is_rst m.kind) ≡ true → is_passed_on most true m ≡ true → validates true m ≡ true → is_validated old (passed_part true m) ≡ true → fits most (renewed old (passed_part true m)) ≡ true → is_storable (origin_answer now (renewed old (passed_part true m))) ≡ true → is_storable (answer_of most true (Some old) now m) ≡ true
unfolding answer_of
renewed-storable most now old m sent passed valid does fit storable = go (not (is_rst m.kind)) sent (is_passed_on most true m) passed (validates true m) valid (is_validated old (passed_part true m)) does (fits most (renewed old (passed_part true m))) fit
  where
    go : (n : Bool) → n ≡ true → (p : Bool) → p ≡ true → (v : Bool) → v ≡ true → (a : Bool) → a ≡ true → (b : Bool) → b ≡ true
        → is_storable (cond (n && p) (cond v (cond a (cond b (origin_answer now (renewed old (passed_part true m))) (own_answer now bad_gateway)) (own_answer now bad_gateway)) (origin_answer now (passed_part true m))) (own_answer now bad_gateway)) ≡ true
    go true e true f true g true h true i = storable
    go true e true f true g true h false i = absurd cc
    go true e true f true g false h b i = absurd cc
    go true e true f false g a h b i = absurd cc
    go true e false f v g a h b i = absurd cc
    go false e p f v g a h b i = absurd cc

-- the code of the accepted response is that of the message
passed_part-code : (m : Message) → (passed_part true m).code ≡ m.code
passed_part-code m = go (validates true m)
  where
    go : (b : Bool) → (cond b (record (without_observe m) { payload = [] }) (without_observe m)).code ≡ m.code
    go true = refl
    go false = refl

-- a message that validates is a 2.03
validated-code : (old valid : Message) → is_validated old valid ≡ true → is_code valid.code VALID ≡ true
validated-code old valid e = go (is_code old.code CONTENT) (is_code valid.code VALID) refl (option_map_or (λ tag. has_tag tag valid) (tag_of old.options) false) e
  where
    go : (a b : Bool) → is_code valid.code VALID ≡ b → (c : Bool) → (a && b && c) ≡ true → is_code valid.code VALID ≡ true
    go a true is c f = is
    go true false is c f = absurd cc
    go false false is c f = absurd cc

-- which isn't Empty
valid-full : (code : Code) → is_code code VALID ≡ true → is_code code EMPTY ≡ false
valid-full code e = go (is_code code EMPTY) refl
  where
    go : (b : Bool) → is_code code EMPTY ≡ b → b ≡ false
    go true f = let valid = eqb-true code.0 67 e in let none = eqb-true code.0 0 f in absurd (omega (arith, valid, none))
    go false f = refl

-- a response to a GET whose target wasn't changed since, which is passed on, is obtained if it is
-- lasting
pub came-obtained : (setting : Setting) (past : List Action) (d : Action) (x : ℕ) (gets : Gets setting x (here past d)) (former : List Cached) → to_get gets ≡ true → Unchanged setting (key_asked gets).target gets.meets.asking past → WasCacheAt setting gets.meets.asking.before x former → is_passed_on setting.limits.datagram true gets.meets.message ≡ true → IsLasting (passed_part true gets.meets.message)
    → IsObtainedHere setting past d
came-obtained setting past d x gets former get unchanged was passed lasting =
    let m = gets.meets.message in
    let most = setting.limits.datagram in
    let copy = copied (tags_of (asked_of gets)) (key_asked gets) former in
    let codes = told-code m.code (ap is_cacheable (sym (passed_part-code m)) ∙ lasting.code) in
    let storable = came-storable most d.observation.now copy m (no_reset (token_of setting.salt x) gets.meets.asks.sends.message.id m gets.meets.matches codes.0) passed codes.1 (lasting-storable d.observation.now (passed_part true m) lasting) in
    record { exchange = x; gets = gets; method = get; unchanged = unchanged; former = former; was_cache = was; storable = ap (λ (b : Bool). is_storable (answer_of most b copy d.observation.now m)) get ∙ storable }

-- and so is a response that a 2.03 renews
pub renewed-obtained : (setting : Setting) (past : List Action) (d : Action) (x : ℕ) (gets : Gets setting x (here past d)) (former : List Cached) (old : Message) → to_get gets ≡ true → Unchanged setting (key_asked gets).target gets.meets.asking past → WasCacheAt setting gets.meets.asking.before x former → is_passed_on setting.limits.datagram true gets.meets.message ≡ true → copied (tags_of (asked_of gets)) (key_asked gets) former ≡ Some old → is_validated old (passed_part true gets.meets.message) ≡ true → fits setting.limits.datagram (renewed old (passed_part true gets.meets.message)) ≡ true → IsLasting (renewed old (passed_part true gets.meets.message))
    → IsObtainedHere setting past d
renewed-obtained setting past d x gets former old get unchanged was passed has valid fit lasting =
    let m = gets.meets.message in
    let most = setting.limits.datagram in
    let code = sym (ap (λ (c : Code). is_code c VALID) (passed_part-code m)) ∙ validated-code old (passed_part true m) valid in
    let storable = renewed-storable most d.observation.now old m (no_reset (token_of setting.salt x) gets.meets.asks.sends.message.id m gets.meets.matches (valid-full m.code code)) passed code valid fit (lasting-storable d.observation.now (renewed old (passed_part true m)) lasting) in
    record { exchange = x; gets = gets; method = get; unchanged = unchanged; former = former; was_cache = was; storable = (λ i. is_storable (answer_of most (get i) (has i) d.observation.now m)) ∙ storable }
