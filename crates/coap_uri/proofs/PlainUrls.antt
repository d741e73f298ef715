-- What `url` reads in the text of a URI whose parts appear in it as `url` writes them.
use Rattle.std.proofs.Common.{◌≡◌, ◌≢◌, ◌==◌, ◌<◌, ◌-◌, ◌^◌, ◌++◌, ℕ, true, false, not, List, [], ◌∷◌, length, get_or, take, drop, nat_eq, codes, decimal, All, Option, Some, None, Ok, IfSome, refl, sym, ap, ◌∙◌, subst, append-nil, arith, lit<, inl, ⊎_elim, true≢false}
use Rattle.std.specs.Cmp.{unsigned_Decides}
use Rattle.std.specs.Cmp.Lexicographic.{pointwise, pointwise_decides}
use Rattle.std.proofs.lemmas.List.{take-append-drop}
use Rattle.std.proofs.lemmas.Bool.{cases_eq, ne_eqb, eqb-true}
use Rattle.std.proofs.lemmas.Bool.Decides.{nat_tests}
use Rattle.std.proofs.lemmas.List.Elements.{All-nil, All-cons, All-head, All-tail, All-append, All-weaker, All-get_or}
use Rattle.std.proofs.lemmas.Option.{none-some}
use Rattle.percent_encoding.specs.declared.ascii_set.TheConstants.{CONTROLS}
use Rattle.percent_encoding.specs.Percent.{IsKept}
use Rattle.url.specs.declared.sets.TheConstants as set
use Rattle.url.specs.declared.scheme.SchemeType.TheVariants.{NotSpecial}
use Rattle.url.specs.Scheme.{IsScheme, default_port, scheme_type, scheme_len}
use Rattle.url.specs.Path.{dot_count, join_segments, IsSegment, IsSegmentList, ends_in_space}
use Rattle.url.specs.Parts.{serialize, IsPortOf, IsValidHead, IsValid}
use Rattle.url.specs.Canonical.{IsCanonical}
use Rattle.url.specs.Parser.{parse_url}
use Rattle.url.proofs.InputLemmas.{IsNot, Passes, All_from_list_all, is_empty_nonempty}
use Rattle.url.proofs.SetLemmas.{kept_by_smaller, All_kept_by_smaller, kept_differs, All_kept_differs}
use Rattle.url.proofs.TextLemmas.{is_host_byte, port_bytes}
use Rattle.url.proofs.PathLemmas.{no_segments, empty_segment, IsNoSlash}
use Rattle.url.proofs.Theorems.{parse_url-serialize}
use Rattle.url.specs.declared.host.Host.TheVariants.{Domain}
use Rattle.coap_uri.specs.declared.plain.Plain.{Plain}
use Rattle.coap_uri.specs.declared.plain.TheConstants.{NAME, PATH, QUERY}
use Rattle.coap_uri.specs.Plain.{port_text, query_text, is_rooted, plain_url, url_of}
use Rattle.coap_uri.specs.Uri.{uri_of, with_host}

-- ---- segments

-- bytes of a path, as what comes before the first slash and the segments after it
record Cut (bytes : List ℕ) : Type 0 where
  front : List ℕ
  segments : List (List ℕ)
  joined : bytes ≡ front ++ join_segments segments
  first : IsSegment NotSpecial front
  others : All (IsSegment NotSpecial) segments

-- one more byte before a segment
longer : (b : ℕ) (front : List ℕ) → IsKept PATH b → b ≢ 47 → IsSegment NotSpecial front → IsSegment NotSpecial (b ∷ front)
unfolding dot_count
longer b front kept other segment =
    let dot : (b == 46) ≡ false = ne_eqb b 46 (kept_differs PATH 46 refl b kept) in
    let percent : (b == 37) ≡ false = ne_eqb b 37 (kept_differs PATH 37 refl b kept) in
    let slash : (b == 47) ≡ false = ne_eqb b 47 other in
    record {
      escaped = All-cons (IsKept set.PATH) b front (kept_by_smaller PATH set.PATH refl b kept) segment.escaped;
      whole = All-cons (IsNoSlash NotSpecial) b front (grind (arith, nat_tests)) segment.whole;
      resolved = rw (dot, percent) refl;
    }

-- bytes of a path can be cut so
cut : (bytes : List ℕ) → All (IsKept PATH) bytes → Cut bytes
cut [] all = record { front = []; segments = []; joined = refl; first = empty_segment NotSpecial; others = All-nil (IsSegment NotSpecial) }
cut (b ∷ rest) all =
    let later = cut rest (All-tail (IsKept PATH) b rest all) in
    ⊎_elim
    (λ slash. record {
      front = [];
      segments = later.front ∷ later.segments;
      joined = λ i. slash i ∷ later.joined i;
      first = empty_segment NotSpecial;
      others = All-cons (IsSegment NotSpecial) later.front later.segments later.first later.others;
    })
    (λ other. record {
      front = b ∷ later.front;
      segments = later.segments;
      joined = ap (λ l. b ∷ l) later.joined;
      first = longer b later.front (All-head (IsKept PATH) b rest all) other later.first;
      others = later.others;
    })
    (cases_eq b 47)

-- a path is a list of segments
rooted_list : (path : List ℕ) → All (IsKept PATH) path → is_rooted path ≡ true → IsSegmentList NotSpecial path
rooted_list [] all root = no_segments NotSpecial
rooted_list (b ∷ rest) all root =
    let later = cut rest (All-tail (IsKept PATH) b rest all) in
    let slash : b ≡ 47 = eqb-true b 47 root in
    record {
      segments = later.front ∷ later.segments;
      joined = λ i. slash i ∷ later.joined i;
      each = All-cons (IsSegment NotSpecial) later.front later.segments later.first later.others;
    }

-- ---- the text

-- the text with these parts is what `url` writes for them
spelled : (host path : List ℕ) (port : Option ℕ) (query : Option (List ℕ)) → codes "coap://" ++ (host ++ (port_text port ++ (path ++ query_text query))) ≡ serialize (plain_url host port path query)
spelled host path None None = refl
spelled host path (Some n) None = refl
spelled host path None (Some q) = ap (λ l. codes "coap://" ++ (host ++ (path ++ 63 ∷ l))) (sym (append-nil q))
spelled host path (Some n) (Some q) = ap (λ l. codes "coap://" ++ (host ++ (58 ∷ decimal n ++ (path ++ 63 ∷ l)))) (sym (append-nil q))

-- the last of bytes without a space isn't a space
last_visible : (xs : List ℕ) → All (IsNot 32) xs → get_or xs (length xs - 1) 0 ≢ 32
last_visible [] all = omega arith
last_visible (x ∷ xs) all = All-get_or (IsNot 32) (x ∷ xs) (length (x ∷ xs) - 1) 0 (omega arith) all

-- a path without a space doesn't end in one
no_space : (path : List ℕ) → All (IsNot 32) path → ends_in_space path ≡ false
no_space [] all = refl
no_space (x ∷ xs) all =
    let other = ne_eqb (get_or (x ∷ xs) (length (x ∷ xs) - 1) 0) 32 (last_visible (x ∷ xs) all) in
    grind (arith, nat_tests)

-- the scheme contains no space
scheme_visible : All (IsNot 32) (codes "coap://")
scheme_visible = All-weaker (Passes (λ b. not (b == 32))) (IsNot 32) (λ b passes e. grind (arith, nat_tests)) (codes "coap://") (All_from_list_all (λ b. not (b == 32)) (codes "coap://") refl)

-- nor does the port
port_visible : (port : Option ℕ) → IsPortOf (codes "coap") port → All (IsNot 32) (port_text port)
port_visible None valid = All-nil (IsNot 32)
port_visible (Some n) valid =
    All-cons (IsNot 32) 58 (decimal n) (omega arith) (All-weaker (Passes is_host_byte) (IsNot 32) (λ b passes e. grind (arith, nat_tests)) (decimal n) (port_bytes (codes "coap") (Some n) valid))

-- nor does the query
query_visible : (query : Option (List ℕ)) → IfSome query (All (IsKept QUERY)) → All (IsNot 32) (query_text query)
query_visible None kept = All-nil (IsNot 32)
query_visible (Some q) kept = All-cons (IsNot 32) 63 q (omega arith) (All_kept_differs QUERY 32 refl q kept)

-- ---- the URL

-- `coap` is the name of a scheme
coap_scheme : IsScheme (codes "coap")
unfolding scheme_len
coap_scheme = record { nonempty = lit< tt; whole = refl; lower = refl }

-- it has no default port in `url`
no_default : default_port (codes "coap") ≡ None
unfolding default_port
no_default = refl

-- a port of 16 bits is a port of the scheme
port_is : (port : Option ℕ) → IfSome port (λ n. n < 2 ^ 16) → IsPortOf (codes "coap") port
port_is None small = tt
port_is (Some n) small = (small, λ e. none-some n (sym no_default ∙ e))

-- the query has only bytes that `url` doesn't escape in one
query_is : (query : Option (List ℕ)) → IfSome query (All (IsKept QUERY)) → IfSome query (All (IsKept set.QUERY))
query_is None kept = tt
query_is (Some q) kept = All_kept_by_smaller QUERY set.QUERY refl q kept

module _ (host path : List ℕ) (port : Option ℕ) (query : Option (List ℕ)) (name : All (IsKept NAME) host) (some : 0 < length host) (small : IfSome port (λ n. n < 2 ^ 16)) (kept : All (IsKept PATH) path) (root : is_rooted path ≡ true) (asked : IfSome query (All (IsKept QUERY))) where
  head_is : IsValidHead (plain_url host port path query)
  unfolding scheme_type default_port
  head_is = record {
    scheme = coap_scheme;
    username = All-nil (IsKept set.USERINFO);
    password = All-nil (IsKept set.USERINFO);
    host = (All_kept_by_smaller NAME set.FORBIDDEN_HOST refl host name, All_kept_by_smaller NAME CONTROLS refl host name);
    port = port_is port small;
    bare = λ yes. absurd (true≢false (sym (rw (is_empty_nonempty host some) at yes)));
  }

  valid : IsValid (plain_url host port path query)
  unfolding scheme_type default_port
  valid = record {
    head = head_is;
    path = inl (rooted_list path kept root, λ special. absurd (true≢false (sym special)));
    query = query_is query asked;
    fragment = tt;
  }

  visible : All (IsNot 32) (codes "coap://" ++ (host ++ (port_text port ++ (path ++ query_text query))))
  visible =
      All-append (IsNot 32) (codes "coap://") _ scheme_visible
      (All-append (IsNot 32) host _ (All_kept_differs NAME 32 refl host name)
      (All-append (IsNot 32) (port_text port) _ (port_visible port (port_is port small))
      (All-append (IsNot 32) path _ (All_kept_differs PATH 32 refl path kept) (query_visible query asked))))

  canonical : IsCanonical (plain_url host port path query)
  unfolding scheme_type default_port
  canonical = (
    tt,
    last_visible (serialize (plain_url host port path query)) (subst (All (IsNot 32)) (spelled host path port query) visible),
    no_space path (All_kept_differs PATH 32 refl path kept),
  )

  -- the text is read as the URL with these parts
  pub plain_parsed : parse_url None (codes "coap://" ++ (host ++ (port_text port ++ (path ++ query_text query)))) ≡ Ok (plain_url host port path query)
  plain_parsed = ap (parse_url None) (spelled host path port query) ∙ parse_url-serialize (plain_url host port path query) None valid canonical

  -- the same for a text that is cut piece by piece
  pub text_parsed : (text after_scheme after_host after_port after_path : List ℕ) → text ≡ codes "coap://" ++ after_scheme → after_scheme ≡ host ++ after_host → after_host ≡ port_text port ++ after_port → after_port ≡ path ++ after_path → after_path ≡ query_text query → parse_url None text ≡ Ok (plain_url host port path query)
  text_parsed text after_scheme after_host after_port after_path a b c d e =
      ap (parse_url None) (a ∙ ap (λ l. codes "coap://" ++ l) (b ∙ ap (λ l. host ++ l) (c ∙ ap (λ l. port_text port ++ l) (d ∙ ap (λ l. path ++ l) e)))) ∙ plain_parsed

-- a text that begins with another
pub stripped : (text rest front : List ℕ) → pointwise nat_eq (take (length front) text) front ≡ true → rest ≡ drop (length front) text → text ≡ front ++ rest
stripped text rest front same is =
    sym (take-append-drop (length front) text) ∙ (λ i. (pointwise_decides unsigned_Decides (take (length front) text) front).0 same i ++ sym is i)

-- the URI that such a text is read as
pub plain_read : (text : List ℕ) (plain : Plain) → parse_url None text ≡ Ok (url_of plain) → 0 < length plain.host.now → uri_of text ≡ with_host (url_of plain) (Some (Domain plain.host.now))
unfolding uri_of
plain_read text plain read some =
    rw (read, is_empty_nonempty plain.host.now some) refl
