-- Endpoints and datagrams: what is written is read back.
use Rattle.std.proofs.Common.{◌≡◌, ℕ, zero, suc, ◌+◌, ◌*◌, ◌/◌, ◌%◌, ◌<◌, ◌≤◌, false, List, [], ◌∷◌, length, map, codes, Some, refl, ap, inl, inr, arith, lit≤, append_assoc}
use Rattle.std.specs.Fmt.{decimal, digits}
use Rattle.std.specs.List.{AllByRecursion, AllZip}
use Rattle.std.specs.Net.Addr.{octets_of, segments_of}
use Rattle.std.specs.Net.Grammar.{IsDotted, IsGroup}
use Rattle.std.specs.Net.Text.{ipv4_text}
use Rattle.std.proofs.lemmas.Fmt.{digits_is_IsNumeral}
use Rattle.hex.specs.Hex.{upper_digits}
use Rattle.hex.proofs.HexLemmas.{decode_of-encode_upper, length-encode_with}
use Rattle.coap_message.specs.Uint.{IsBytes}
use Rattle.coap_endpoint.specs.declared.endpoint.Ip.{Ip}
use Rattle.coap_endpoint.specs.declared.endpoint.Ip.TheVariants.{V4, V6}
use Rattle.coap_uri.specs.Address.{IsIp, address_text}
use Rattle.coap_uri.proofs.AddressTexts.{four_digits}
use Rattle.coap_lines.specs.Datagrams.{bytes_read, hex_text}
use Rattle.coap_lines.specs.Endpoints.{IsAddress, endpoint_at, endpoint_of, endpoint_text}
use Rattle.coap_lines.proofs.HexTexts.{bytes_read-written}
use Rattle.coap_lines.proofs.EndpointTexts.{endpoint_of-written}

-- bytes that are written are read back
pub bytes_again : (bytes : List ℕ) → IsBytes bytes → bytes_read (hex_text bytes) ≡ Some bytes
bytes_again [] are = bytes_read-written (codes "-") [] (inl (refl, refl))
bytes_again (b ∷ bytes) are =
    let count = length-encode_with upper_digits (b ∷ bytes) in
    bytes_read-written (hex_text (b ∷ bytes)) (b ∷ bytes) (inr (omega arith, decode_of-encode_upper (b ∷ bytes) are))

-- a number of 16 bits is written as a group
group_again : (n : ℕ) → n < 65536 → IsGroup (digits 16 false n) n
group_again n below =
    let numeral = digits_is_IsNumeral 16 false (lit≤ tt) (lit≤ tt) n (omega arith) in
    ((numeral.0, numeral.1), four_digits n below)

-- so are the segments of an address
groups_again : (half : ℕ) (octets : List ℕ) → length octets ≡ 2 * half → AllByRecursion (λ b. b < 256) octets → AllZip IsGroup (map (digits 16 false) (segments_of octets)) (segments_of octets) × (length (segments_of octets) ≡ half) × (octets ≡ octets_of (segments_of octets))
groups_again zero [] even are = (tt, refl, refl)
groups_again (suc half) [] even are = absurd (omega arith)
groups_again zero (a ∷ octets) even are = absurd (omega arith)
groups_again (suc half) (a ∷ []) even are = absurd (omega arith)
groups_again (suc half) (a ∷ b ∷ octets) even are =
    let rest = groups_again half octets (omega arith) are.1.1 in
    let high : (a * 256 + b) / 256 ≡ a = omega (arith, are.0, are.1.0) in
    let low : (a * 256 + b) % 256 ≡ b = omega (arith, are.0, are.1.0) in
    ((group_again (a * 256 + b) (omega (arith, are.0, are.1.0)), rest.0), ap suc rest.1, rw (high, low) (ap (λ o. a ∷ b ∷ o) rest.2))

-- an address as it is written
address_again : (ip : Ip) → IsIp ip → IsAddress (address_text ip) ip
address_again (V4 (a ∷ b ∷ c ∷ d ∷ [])) (four, are) =
    let dotted : IsDotted (ipv4_text (a ∷ b ∷ c ∷ d ∷ [])) (a ∷ b ∷ c ∷ d ∷ []) = record { a = a; b = b; c = c; d = d; fit = (are.0, are.1.0, are.1.1.0, are.1.1.1.0); value = refl; spelled = refl } in dotted
address_again (V4 []) (four, are) = absurd (omega arith)
address_again (V4 (a ∷ [])) (four, are) = absurd (omega arith)
address_again (V4 (a ∷ b ∷ [])) (four, are) = absurd (omega arith)
address_again (V4 (a ∷ b ∷ c ∷ [])) (four, are) = absurd (omega arith)
address_again (V4 (a ∷ b ∷ c ∷ d ∷ e ∷ octets)) (four, are) = absurd (omega arith)
address_again (V6 octets) (sixteen, are) =
    let groups = groups_again 8 octets sixteen are in
    let segments = segments_of octets in
    (_, segments, refl, (map (digits 16 false) segments, refl, groups.0, groups.1), groups.2)

-- an endpoint that is written is read back
pub endpoint_again : (ip : Ip) (port : ℕ) → IsIp ip → port ≤ 65535 → endpoint_of (endpoint_text (endpoint_at ip port)) ≡ Some (endpoint_at ip port)
endpoint_again ip port are within =
    endpoint_of-written (endpoint_text (endpoint_at ip port)) (endpoint_at ip port)
    (address_text ip, decimal port, append_assoc (address_text ip) (codes ":") (decimal port), address_again ip are, (refl, within))
