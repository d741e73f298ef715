-- Endpoints as texts: what is read, and what is written.
use Rattle.std.proofs.Common.{◌≡◌, ◌==◌, ℕ, ◌≤◌, ◌<◌, Bool, true, false, List, [], ◌∷◌, ◌++◌, Option, Some, None, option_map, refl, sym, ap, ◌∙◌, cond, arith, lit≤, lit<, append_assoc}
use Rattle.std.specs.Char.{digit_value}
use Rattle.std.specs.Net.Addr.{octets_of}
use Rattle.std.specs.Net.Grammar.{IsDotted}
use Rattle.std.specs.Net.Reader.{read_byte}
use Rattle.std.specs.Option.{unwrap_or}
use Rattle.std.proofs.lemmas.Bool.{eqb-true, ne_eqb, or_parts}
use Rattle.std.proofs.lemmas.List.Folds.{list_any-append}
use Rattle.std.proofs.lemmas.Option.{none-some}
use Rattle.coap_endpoint.specs.declared.endpoint.Endpoint.{Endpoint}
use Rattle.coap_endpoint.specs.declared.endpoint.Ip.{Ip}
use Rattle.coap_endpoint.specs.declared.endpoint.Ip.TheVariants.{V4, V6}
use Rattle.coap_uri.specs.Address.{ipv4_of}
use Rattle.coap_uri.proofs.Addresses.{ipv4_of-dotted, dotted-ipv4_of}
use Rattle.coap_message.specs.Reading.{◌>>=◌}
use Rattle.coap_lines.specs.Texts.{cut, has}
use Rattle.coap_lines.specs.Numbers.{IsNumber, number_of}
use Rattle.coap_lines.specs.Endpoints.{AreGroups, IsAddress, IsEndpoint, endpoint_at, endpoint_of, segments_read, v4_endpoint, v6_endpoint}
use Rattle.coap_lines.proofs.Cuts.{cut-front, cut-is}
use Rattle.coap_lines.proofs.Groups.{has-groups, segments_read-is, segments_read-written}
use Rattle.coap_lines.proofs.Numerals.{has-decimal, number_of-is, number_of-written}

-- what follows a byte
read_byte-is : (byte : ℕ) (text rest : List ℕ) → read_byte byte text ≡ Some rest → text ≡ byte ∷ rest
read_byte-is byte [] rest found = absurd (none-some rest found)
read_byte-is byte (b ∷ text) rest found = go (b == byte) refl found
  where
    go : (t : Bool) → (b == byte) ≡ t → cond t (Some text) None ≡ Some rest → b ∷ text ≡ byte ∷ rest
    go false is made = absurd (none-some rest made)
    go true is made =
        let same = eqb-true b byte is in
        let left : text ≡ rest = cc in
        rw (same, left) refl

-- a dotted text contains no byte that is neither a digit nor a dot
has-dotted : (byte : ℕ) → ((x : ℕ) → 46 ≤ x → x ≤ 57 → (x == byte) ≡ false) → (text octets : List ℕ) → IsDotted text octets → has byte text ≡ false
has-dotted byte others text octets dotted =
    let dot = others 46 (lit≤ tt) (lit≤ tt) in
    let a = has-decimal byte others dotted.a (omega (arith, dotted.fit)) in
    let b = has-decimal byte others dotted.b (omega (arith, dotted.fit)) in
    let c = has-decimal byte others dotted.c (omega (arith, dotted.fit)) in
    let d = has-decimal byte others dotted.d (omega (arith, dotted.fit)) in
    rw (dotted.spelled, list_any-append, list_any-append, list_any-append, list_any-append, list_any-append, list_any-append, a, b, c, d, dot) refl

-- the endpoint of an IPv4 address
v4-written : (address port : List ℕ) (octets : List ℕ) (n : ℕ) → IsDotted address octets → IsNumber 65535 port n → v4_endpoint (address ++ 58 ∷ port) ≡ Some (endpoint_at (V4 octets) n)
unfolding v4_endpoint
v4-written address port octets n dotted number =
    let clear = has-dotted 58 (λ x low high. ne_eqb x 58 (λ same. omega arith)) address octets dotted in
    rw (cut-front 58 address port clear, ipv4_of-dotted address octets dotted, number_of-written 65535 n port (lit< tt) number) refl

-- the endpoint of an IPv6 address, after its bracket
v6-written : (inner port segments : List ℕ) (n : ℕ) → AreGroups inner segments → IsNumber 65535 port n → v6_endpoint (inner ++ 93 ∷ 58 ∷ port) ≡ Some (endpoint_at (V6 (octets_of segments)) n)
unfolding v6_endpoint
v6-written inner port segments n groups number =
    let clear : has 93 inner ≡ false = rw (groups.1) (has-groups 93 (lit≤ tt) refl groups.0 segments groups.2) in
    rw (cut-front 93 inner (58 ∷ port) clear, segments_read-written inner segments groups, number_of-written 65535 n port (lit< tt) number) refl

-- a text without a bracket in front is read as an IPv4 address
begins_v4 : (address rest : List ℕ) → has 91 address ≡ false → endpoint_of (address ++ 58 ∷ rest) ≡ v4_endpoint (address ++ 58 ∷ rest)
begins_v4 [] rest clear = refl
begins_v4 (b ∷ address) rest clear =
    let parts = or_parts (b == 91) (has 91 address) clear in
    ap (λ t. cond t (v6_endpoint (address ++ 58 ∷ rest)) (v4_endpoint (b ∷ address ++ 58 ∷ rest))) parts.0

-- an endpoint with an address and a port as they are written is read
written : (text : List ℕ) (ip : Ip) (n : ℕ) (address port : List ℕ) → text ≡ address ++ 58 ∷ port → IsAddress address ip → IsNumber 65535 port n → endpoint_of text ≡ Some (endpoint_at ip n)
written text (V4 octets) n address port split is number =
    let clear = has-dotted 91 (λ x low high. ne_eqb x 91 (λ same. omega arith)) address octets is in
    rw split (begins_v4 address port clear ∙ v4-written address port octets n is number)
written text (V6 octets) n address port split (inner, segments, spelled, groups, value) number =
    let moved : text ≡ 91 ∷ (inner ++ 93 ∷ 58 ∷ port) = split ∙ ap (λ a. a ++ 58 ∷ port) spelled ∙ ap (λ t. 91 ∷ t) (append_assoc inner (93 ∷ []) (58 ∷ port)) in
    rw (moved, value) (v6-written inner port segments n groups number)

-- an endpoint that a text encodes is read
pub endpoint_of-written : (text : List ℕ) (endpoint : Endpoint) → IsEndpoint text endpoint → endpoint_of text ≡ Some endpoint
endpoint_of-written text endpoint (address, port, split, is, number) = written text endpoint.ip endpoint.port address port split is number

-- a text that was read as an endpoint with an IPv4 address encodes it
v4-is : (text : List ℕ) (endpoint : Endpoint) → v4_endpoint text ≡ Some endpoint → IsEndpoint text endpoint
unfolding v4_endpoint
v4-is text endpoint found = go (cut 58 text) refl found
  where
    go : (p : Option (List ℕ × List ℕ)) → cut 58 text ≡ p → (p >>= λ parts. option_map V4 (ipv4_of parts.0) >>= λ ip. number_of 65535 parts.1 >>= λ port. Some (endpoint_at ip port)) ≡ Some endpoint → IsEndpoint text endpoint
    go None is made = absurd (none-some endpoint made)
    go (Some (address, port)) is made = read (ipv4_of address) refl (number_of 65535 port) refl made
      where
        read : (o : Option (List ℕ)) → ipv4_of address ≡ o → (n : Option ℕ) → number_of 65535 port ≡ n → (option_map V4 o >>= λ ip. n >>= λ m. Some (endpoint_at ip m)) ≡ Some endpoint → IsEndpoint text endpoint
        read None ip n number made = absurd (none-some endpoint made)
        read (Some octets) ip None number made = absurd (none-some endpoint made)
        read (Some octets) ip (Some n) number made =
            let same : endpoint_at (V4 octets) n ≡ endpoint = ap (λ (o : Option Endpoint). unwrap_or {T = Endpoint} o endpoint) made in
            rw (← same) (address, port, (cut-is 58 text address port is).0, dotted-ipv4_of address octets ip, number_of-is 65535 n port number)

-- the same with an IPv6 address, after its bracket
v6-is : (text : List ℕ) (endpoint : Endpoint) → v6_endpoint text ≡ Some endpoint → IsEndpoint (91 ∷ text) endpoint
unfolding v6_endpoint
v6-is text endpoint found = go (cut 93 text) refl found
  where
    go : (p : Option (List ℕ × List ℕ)) → cut 93 text ≡ p → (p >>= λ parts. segments_read parts.0 >>= λ segments. read_byte 58 parts.1 >>= λ after. number_of 65535 after >>= λ port. Some (endpoint_at (V6 (octets_of segments)) port)) ≡ Some endpoint → IsEndpoint (91 ∷ text) endpoint
    go None is made = absurd (none-some endpoint made)
    go (Some (inner, rest)) is made = read (segments_read inner) refl (read_byte 58 rest) refl made
      where
        read : (o : Option (List ℕ)) → segments_read inner ≡ o → (b : Option (List ℕ)) → read_byte 58 rest ≡ b → (o >>= λ segments. b >>= λ after. number_of 65535 after >>= λ port. Some (endpoint_at (V6 (octets_of segments)) port)) ≡ Some endpoint → IsEndpoint (91 ∷ text) endpoint
        read None ip b after made = absurd (none-some endpoint made)
        read (Some segments) ip None after made = absurd (none-some endpoint made)
        read (Some segments) ip (Some port) after made = last (number_of 65535 port) refl made
          where
            last : (n : Option ℕ) → number_of 65535 port ≡ n → (n >>= λ m. Some (endpoint_at (V6 (octets_of segments)) m)) ≡ Some endpoint → IsEndpoint (91 ∷ text) endpoint
            last None number made = absurd (none-some endpoint made)
            last (Some n) number made =
                let same : endpoint_at (V6 (octets_of segments)) n ≡ endpoint = ap (λ (o : Option Endpoint). unwrap_or {T = Endpoint} o endpoint) made in
                let split : text ≡ inner ++ 93 ∷ rest = (cut-is 93 text inner rest is).0 in
                let colon_next : rest ≡ 58 ∷ port = read_byte-is 58 rest port after in
                let whole : 91 ∷ text ≡ (91 ∷ inner ++ 93 ∷ []) ++ 58 ∷ port = ap (λ t. 91 ∷ t) (split ∙ ap (λ r. inner ++ 93 ∷ r) colon_next ∙ sym (append_assoc inner (93 ∷ []) (58 ∷ port))) in
                rw (← same) (91 ∷ inner ++ 93 ∷ [], port, whole, (inner, segments, refl, segments_read-is inner segments ip, refl), number_of-is 65535 n port number)

-- an endpoint that was read is the one that the text encodes
pub endpoint_of-is : (text : List ℕ) (endpoint : Endpoint) → endpoint_of text ≡ Some endpoint → IsEndpoint text endpoint
endpoint_of-is [] endpoint found = absurd (none-some endpoint found)
endpoint_of-is (b ∷ text) endpoint found = go (b == 91) refl found
  where
    go : (t : Bool) → (b == 91) ≡ t → cond t (v6_endpoint text) (v4_endpoint (b ∷ text)) ≡ Some endpoint → IsEndpoint (b ∷ text) endpoint
    go true is made = let same = eqb-true b 91 is in rw same (v6-is text endpoint made)
    go false is made = v4-is (b ∷ text) endpoint made

-- the text of an endpoint contains no byte below 46 that isn't a digit
pub has-endpoint : (byte : ℕ) → byte < 46 → 16 ≤ digit_value byte → (text : List ℕ) (ip : Ip) (n : ℕ) (address port : List ℕ) → text ≡ address ++ 58 ∷ port → IsAddress address ip → IsNumber 65535 port n → has byte text ≡ false
has-endpoint byte low other text (V4 octets) n address port split is number =
    let above : (x : ℕ) → 46 ≤ x → (x == byte) ≡ false = λ x high. ne_eqb x byte (λ same. omega arith) in
    let front = has-dotted byte (λ x from to. above x from) address octets is in
    let digits = has-decimal byte (λ x from to. above x from) n (omega arith) in
    let colon = above 58 (lit≤ tt) in
    rw (split, list_any-append, front, number.0, digits, colon) refl
has-endpoint byte low other text (V6 octets) n address port split (inner, segments, spelled, groups, value) number =
    let above : (x : ℕ) → 46 ≤ x → (x == byte) ≡ false = λ x high. ne_eqb x byte (λ same. omega arith) in
    let colon = above 58 (lit≤ tt) in
    let opens = above 91 (lit≤ tt) in
    let closes = above 93 (lit≤ tt) in
    let inside : has byte inner ≡ false = rw (groups.1) (has-groups byte other colon groups.0 segments groups.2) in
    let front : has byte address ≡ false = rw (spelled, list_any-append, inside, opens, closes) refl in
    let digits = has-decimal byte (λ x from to. above x from) n (omega arith) in
    rw (split, list_any-append, front, number.0, digits, colon) refl
