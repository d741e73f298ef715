-- Addresses: they have four bytes or sixteen, and their texts are short.
use Rattle.std.proofs.Common.{◌≡◌, ◌==◌, ℕ, zero, suc, ◌+◌, ◌*◌, ◌/◌, ◌%◌, ◌<◌, ◌≤◌, Bool, true, false, cond, List, [], ◌∷◌, ◌++◌, length, codes, map, get_or, Option, Some, None, option_map, option_and_then, Result, Ok, Err, refl, sym, ap, subst, arith, lit≤, lit<}
use Rattle.std.specs.Fmt.{decimal, digit_glyph, digits, digits_onto}
use Rattle.std.specs.List.{AllByRecursion, join_with_byte, list_all}
use Rattle.std.specs.Net.Addr.{ipv4_octets, ipv6_octets, segments_of}
use Rattle.std.specs.Net.Text.{dotted_text, ipv4_text}
use Rattle.std.specs.Option.{option_or}
use Rattle.std.proofs.lemmas.Bool.{eqb-false}
use Rattle.std.proofs.lemmas.List.{length-append}
use Rattle.std.proofs.lemmas.Fmt.{length-decimal-le}
use Rattle.std.proofs.lemmas.Option.{none-some}
use Rattle.url.specs.declared.host.Host.{Host}
use Rattle.url.specs.declared.host.Host.TheVariants.{Domain, Ipv4, Ipv6}
use Rattle.url.specs.Parser.{parse_url}
use Rattle.url.specs.Parts.{Parts, nonempty_host}
use Rattle.coap_endpoint.specs.declared.endpoint.Ip.{Ip}
use Rattle.coap_endpoint.specs.declared.endpoint.Ip.TheVariants.{V4, V6}
use Rattle.coap_uri.specs.Address.{IsIp, address_text, bracketed_uri, bytes, group_text, inner_of, ip_of, ipv4_of, ipv6_between, ipv6_host, ipv6_of, ipv6_read, is_address_byte}
use Rattle.coap_uri.specs.declared.uri.HostPart.TheVariants.{Addr}
use Rattle.coap_uri.specs.Uri.{host_part, name_or}
use Rattle.coap_uri.proofs.Addresses.{dotted-ipv4_of}

-- ---- so many bytes

-- there are as many
pub length-bytes : (n : ℕ) (octets : List ℕ) → length (bytes n octets) ≡ n
length-bytes zero octets = refl
length-bytes (suc n) [] = ap suc (length-bytes n [])
length-bytes (suc n) (octet ∷ octets) = ap suc (length-bytes n octets)

-- each is one
pub All-bytes : (n : ℕ) (octets : List ℕ) → AllByRecursion (λ b. b < 256) (bytes n octets)
All-bytes zero octets = tt
All-bytes (suc n) [] = (lit< tt, All-bytes n [])
All-bytes (suc n) (octet ∷ octets) = (omega arith, All-bytes n octets)

-- bytes stay as they are
pub bytes-same : (n : ℕ) (octets : List ℕ) → length octets ≡ n → ((i : ℕ) → get_or octets i 0 < 256) → bytes n octets ≡ octets
bytes-same zero [] all are = refl
bytes-same zero (octet ∷ octets) all are = absurd (omega arith)
bytes-same (suc n) [] all are = absurd (omega arith)
bytes-same (suc n) (octet ∷ octets) all are =
    let first : octet < 256 = are 0 in
    let same : octet % 256 ≡ octet = omega arith in
    rw (same, bytes-same n octets (omega arith) (λ i. are (suc i))) refl

-- ---- addresses

-- an IPv4 address that was read
ipv4_of-is : (text octets : List ℕ) → ipv4_of text ≡ Some octets → IsIp (V4 octets)
ipv4_of-is text octets found =
    let dotted = dotted-ipv4_of text octets found in
    subst (λ o. IsIp (V4 o)) (sym dotted.value) (refl, (dotted.fit.0, (dotted.fit.1, (dotted.fit.2, (dotted.fit.3, tt)))))

-- so many bytes are an address
ipv4-is : (octets : List ℕ) → IsIp (V4 (bytes 4 octets))
ipv4-is octets = (length-bytes 4 octets, All-bytes 4 octets)

ipv6-is : (octets : List ℕ) → IsIp (V6 (bytes 16 octets))
ipv6-is octets = (length-bytes 16 octets, All-bytes 16 octets)

-- what `url` reads as an IPv6 address
ipv6_read-is : {E : Type 0} (r : Result Parts E) (octets : List ℕ) → ipv6_read r ≡ Some octets → IsIp (V6 octets)
ipv6_read-is (Err e) octets found = absurd (none-some octets found)
ipv6_read-is (Ok url) octets found = go (nonempty_host url) found
  where
    go : (host : Option (Host (List ℕ))) → ipv6_host host ≡ Some octets → IsIp (V6 octets)
    go None is = absurd (none-some octets is)
    go (Some (Domain name)) is = absurd (none-some octets is)
    go (Some (Ipv4 address)) is = absurd (none-some octets is)
    go (Some (Ipv6 address)) is =
        let same : bytes 16 (ipv6_octets address) ≡ octets = cc in
        subst (λ o. IsIp (V6 o)) same (ipv6-is (ipv6_octets address))

-- an IPv6 address in brackets that was read
ipv6_of-is : (text octets : List ℕ) → ipv6_of text ≡ Some octets → IsIp (V6 octets)
unfolding ipv6_between
ipv6_of-is text octets found = go (inner_of text) found
  where
    at : (inner : List ℕ) (b : Bool) → cond b (ipv6_read (parse_url None (bracketed_uri inner))) None ≡ Some octets → IsIp (V6 octets)
    at inner true is = ipv6_read-is (parse_url None (bracketed_uri inner)) octets is
    at inner false is = absurd (none-some octets is)

    go : (inner : Option (List ℕ)) → option_and_then ipv6_between inner ≡ Some octets → IsIp (V6 octets)
    go None is = absurd (none-some octets is)
    go (Some inner) is = at inner (list_all is_address_byte inner) is

-- the address that a text is
pub ip_of-is : (text : List ℕ) (ip : Ip) → ip_of text ≡ Some ip → IsIp ip
ip_of-is text ip found = go (ipv4_of text) refl (ipv6_of text) refl found
  where
    go : (four : Option (List ℕ)) → ipv4_of text ≡ four → (sixteen : Option (List ℕ)) → ipv6_of text ≡ sixteen → option_or (option_map V4 four) (option_map V6 sixteen) ≡ Some ip → IsIp ip
    go (Some octets) is sixteen at made =
        let same : V4 octets ≡ ip = cc in
        subst IsIp same (ipv4_of-is text octets is)
    go None is (Some octets) at made =
        let same : V6 octets ≡ ip = cc in
        subst IsIp same (ipv6_of-is text octets at)
    go None is None at made = absurd (none-some ip made)

-- the address that a host of a URI is
pub host_part-is : (host : Host (List ℕ)) (ip : Ip) → host_part host ≡ Addr ip → IsIp ip
host_part-is (Ipv4 address) ip found =
    let same : V4 (bytes 4 (ipv4_octets address)) ≡ ip = cc in
    subst IsIp same (ipv4-is (ipv4_octets address))
host_part-is (Ipv6 address) ip found =
    let same : V6 (bytes 16 (ipv6_octets address)) ≡ ip = cc in
    subst IsIp same (ipv6-is (ipv6_octets address))
host_part-is (Domain text) ip found = go (ipv4_of text) refl found
  where
    go : (four : Option (List ℕ)) → ipv4_of text ≡ four → name_or four text ≡ Addr ip → IsIp ip
    go (Some octets) is made =
        let same : V4 octets ≡ ip = cc in
        subst IsIp same (ipv4_of-is text octets is)
    go None is made = absurd cc

-- ---- their texts

-- a number below 16 times a bound has at most one more digit than one below the bound
digit_more : (turns few bound n : ℕ) (acc : List ℕ) → ((m : ℕ) (acc : List ℕ) → 0 < m → m < bound → length (digits_onto turns 16 false m acc) ≤ few + length acc) → n < 16 * bound → length (digits_onto (suc turns) 16 false n acc) ≤ suc few + length acc
digit_more turns few bound n acc shorter below = go (n / 16 == 0) refl
  where
    go : (b : Bool) → (n / 16 == 0) ≡ b → length (cond b (digit_glyph false (n % 16) ∷ acc) (digits_onto turns 16 false (n / 16) (digit_glyph false (n % 16) ∷ acc))) ≤ suc few + length acc
    go true is = omega arith
    go false is =
        let some = eqb-false (n / 16) 0 is in
        let rest = shorter (n / 16) (digit_glyph false (n % 16) ∷ acc) (omega arith) (omega arith) in
        omega arith

-- a group has at most four digits
pub four_digits : (n : ℕ) → n < 65536 → length (digits 16 false n) ≤ 4
unfolding digits
four_digits n below =
    digit_more 63 3 4096 n [] (λ m acc some less.
    digit_more 62 2 256 m acc (λ m acc some less.
    digit_more 61 1 16 m acc (λ m acc some less.
    digit_more 60 0 1 m acc (λ m acc some less. absurd (omega arith)) (omega arith)) (omega arith)) (omega arith)) (omega arith)

-- a byte has at most three digits
three_digits : (n : ℕ) → n < 256 → length (decimal n) ≤ 3
three_digits n below = length-decimal-le 3 n (omega arith) (omega arith) (omega arith)

-- four texts with dots between them
four-short : (w x y z : List ℕ) → length w ≤ 3 → length x ≤ 3 → length y ≤ 3 → length z ≤ 3 → length (w ++ codes "." ++ x ++ codes "." ++ y ++ codes "." ++ z) ≤ 15
four-short w x y z first second third fourth =
    simp length-append omega (arith, first, second, third, fourth)

-- four numbers with dots between them
dotted-short : (a b c d : ℕ) → a < 256 → b < 256 → c < 256 → d < 256 → length (dotted_text a b c d) ≤ 15
dotted-short a b c d first second third fourth = four-short (decimal a) (decimal b) (decimal c) (decimal d) (three_digits a first) (three_digits b second) (three_digits c third) (three_digits d fourth)

-- four bytes with dots between them
ipv4_text-short : (octets : List ℕ) → IsIp (V4 octets) → length (ipv4_text octets) ≤ 15
ipv4_text-short (a ∷ b ∷ c ∷ d ∷ []) (four, are) =
    let same : ipv4_text (a ∷ b ∷ c ∷ d ∷ []) ≡ dotted_text a b c d = refl in
    rw same (dotted-short a b c d are.0 are.1.0 are.1.1.0 are.1.1.1.0)
ipv4_text-short [] (four, are) = absurd (omega arith)
ipv4_text-short (a ∷ []) (four, are) = absurd (omega arith)
ipv4_text-short (a ∷ b ∷ []) (four, are) = absurd (omega arith)
ipv4_text-short (a ∷ b ∷ c ∷ []) (four, are) = absurd (omega arith)
ipv4_text-short (a ∷ b ∷ c ∷ d ∷ e ∷ octets) (four, are) = absurd (omega arith)

-- groups with colons between them
groups-short : (half : ℕ) (octets : List ℕ) → length octets ≡ 2 * half → AllByRecursion (λ b. b < 256) octets → length (join_with_byte 58 (map group_text (segments_of octets))) ≤ 5 * half
groups-short zero [] even are = lit≤ tt
groups-short (suc half) [] even are = absurd (omega arith)
groups-short zero (a ∷ octets) even are = absurd (omega arith)
groups-short (suc half) (a ∷ []) even are = absurd (omega arith)
groups-short (suc half) (a ∷ b ∷ []) even are =
    let group = four_digits (a * 256 + b) (omega (arith, are.0, are.1.0)) in
    omega arith
groups-short (suc half) (a ∷ b ∷ c ∷ []) even are = absurd (omega arith)
groups-short (suc half) (a ∷ b ∷ c ∷ d ∷ octets) even are =
    let group = four_digits (a * 256 + b) (omega (arith, are.0, are.1.0)) in
    let rest = groups-short half (c ∷ d ∷ octets) (omega arith) are.1.1 in
    let joined = length-append (group_text (a * 256 + b)) (58 ∷ join_with_byte 58 (map group_text (segments_of (c ∷ d ∷ octets)))) in
    omega (arith, group, rest, joined)

-- an address has a text of at most 42 bytes
pub address_text-short : (ip : Ip) → IsIp ip → length (address_text ip) ≤ 42
address_text-short (V4 octets) are = omega (arith, ipv4_text-short octets are)
address_text-short (V6 octets) (sixteen, are) =
    let inner = join_with_byte 58 (map group_text (segments_of octets)) in
    omega (arith, groups-short 8 octets sixteen are, length-append inner (93 ∷ []))
