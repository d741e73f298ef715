-- Endpoints before a space: what is read in one pass is the endpoint that the text up to the space encodes.
use Rattle.std.proofs.Common.{◌≡◌, ◌==◌, ℕ, ◌^◌, ◌<◌, ◌≤◌, Bool, true, false, List, [], ◌∷◌, ◌++◌, get_or, Option, Some, None, refl, sym, ap, ◌∙◌, arith, lit<, lit≤, append_assoc, eq-eqb}
use Rattle.std.specs.Char.{is_ascii_digit}
use Rattle.std.specs.Fmt.{decimal}
use Rattle.std.specs.Net.Grammar.{IsDotted}
use Rattle.std.specs.Net.Text.{dotted_text}
use Rattle.std.specs.Option.{unwrap_or}
use Rattle.std.proofs.lemmas.Bool.{eqb-true, false≢true}
use Rattle.std.proofs.lemmas.Fmt.{decimal_is_IsNumeral}
use Rattle.std.proofs.lemmas.Option.{none-some}
use Rattle.coap_endpoint.specs.declared.endpoint.Endpoint.{Endpoint}
use Rattle.coap_endpoint.specs.declared.endpoint.Ip.{Ip}
use Rattle.coap_endpoint.specs.declared.endpoint.Ip.TheVariants.{V4, V6}
use Rattle.coap_message.specs.Reading.{◌>>=◌}
use Rattle.coap_lines.specs.Texts.{cut}
use Rattle.coap_lines.specs.Numbers.{IsNumber, number_before, number_of}
use Rattle.coap_lines.specs.Endpoints.{IsAddress, endpoint_at, endpoint_of, source_of, v4_source, v6_source}
use Rattle.coap_lines.proofs.Cuts.{cut-front, cut-is}
use Rattle.coap_lines.proofs.EndpointTexts.{endpoint_of-is, endpoint_of-written, has-endpoint}
use Rattle.coap_lines.proofs.Numerals.{number_of-is, number_of-written}
use Rattle.coap_lines.proofs.NumbersBefore.{has-digits}

-- a second step that gave something
bind-some : {A B : Type 0} (o : Option A) (f : A → Option B) (y : B) → (o >>= f) ≡ Some y → (x : A) × (o ≡ Some x) × (f x ≡ Some y)
bind-some None f y made = absurd (none-some y made)
bind-some (Some x) f y made = (x, refl, made)

-- a number before a byte was read
number_before-is : (byte most : ℕ) (text : List ℕ) (n : ℕ) (rest : List ℕ) → number_before byte most text ≡ Some (n, rest) → (text ≡ decimal n ++ byte ∷ rest) × (n ≤ most)
unfolding number_before
number_before-is byte most text n rest found =
    let (parts, cuts, read) = bind-some (cut byte text) (λ parts. number_of most parts.0 >>= λ n. Some (n, parts.1)) (n, rest) found in
    let (m, number, made) = bind-some (number_of most parts.0) (λ n. Some (n, parts.1)) (n, rest) read in
    let same : m ≡ n = ap (λ (o : Option (ℕ × List ℕ)). (unwrap_or {T = ℕ × List ℕ} o (n, rest)).0) made in
    let left : parts.1 ≡ rest = ap (λ (o : Option (ℕ × List ℕ)). (unwrap_or {T = ℕ × List ℕ} o (n, rest)).1) made in
    let (spelled, within) = number_of-is most m parts.0 number in
    let split : text ≡ parts.0 ++ byte ∷ parts.1 = (cut-is byte text parts.0 parts.1 cuts).0 in
    (split ∙ ap (λ (front : List ℕ). front ++ byte ∷ parts.1) spelled ∙ ap (λ (k : ℕ). decimal k ++ byte ∷ parts.1) same ∙ ap (λ (r : List ℕ). decimal n ++ byte ∷ r) left, rw same at within)

-- a number before a byte that isn't a digit is read
number_before-written : (byte most n : ℕ) (rest : List ℕ) → is_ascii_digit byte ≡ false → most < 2 ^ 64 → n ≤ most → number_before byte most (decimal n ++ byte ∷ rest) ≡ Some (n, rest)
unfolding number_before
number_before-written byte most n rest other bound within =
    let clear = has-digits byte other (decimal n) (decimal_is_IsNumeral n (omega arith)).0.1 in
    rw (cut-front byte (decimal n) rest clear, number_of-written most n (decimal n) bound (refl, within)) refl

-- four numbers with dots between them, a colon, a port, a space, and what follows
record IsV4Source (text : List ℕ) (from : Endpoint) (rest : List ℕ) : Type 0 where
  a : ℕ
  b : ℕ
  c : ℕ
  d : ℕ
  port : ℕ
  fit : (a ≤ 255) × (b ≤ 255) × (c ≤ 255) × (d ≤ 255) × (port ≤ 65535)
  spelled : text ≡ decimal a ++ 46 ∷ (decimal b ++ 46 ∷ (decimal c ++ 46 ∷ (decimal d ++ 58 ∷ (decimal port ++ 32 ∷ rest))))
  is : from ≡ endpoint_at (V4 (a ∷ b ∷ c ∷ d ∷ [])) port

-- the parts of such a text, one after the other
joined : (text after-a after-b after-c after-d after rest : List ℕ) (a b c d port : ℕ) → text ≡ decimal a ++ 46 ∷ after-a → after-a ≡ decimal b ++ 46 ∷ after-b → after-b ≡ decimal c ++ 46 ∷ after-c → after-c ≡ decimal d ++ 58 ∷ after-d → after-d ≡ decimal port ++ 32 ∷ after → after ≡ rest → text ≡ decimal a ++ 46 ∷ (decimal b ++ 46 ∷ (decimal c ++ 46 ∷ (decimal d ++ 58 ∷ (decimal port ++ 32 ∷ rest))))
joined text after-a after-b after-c after-d after rest a b c d port first second third fourth last left = rw (first, second, third, fourth, last, left) refl

-- what was read is such a text
v4_source-is : (text : List ℕ) (from : Endpoint) (rest : List ℕ) → v4_source text ≡ Some (from, rest) → IsV4Source text from rest
unfolding v4_source
v4_source-is text from rest found =
    let (a, a-read, after-a) = bind-some (number_before 46 255 text) _ (from, rest) found in
    let (b, b-read, after-b) = bind-some (number_before 46 255 a.1) _ (from, rest) after-a in
    let (c, c-read, after-c) = bind-some (number_before 46 255 b.1) _ (from, rest) after-b in
    let (d, d-read, after-d) = bind-some (number_before 58 255 c.1) _ (from, rest) after-c in
    let (port, port-read, made) = bind-some (number_before 32 65535 d.1) _ (from, rest) after-d in
    let (a-is, a-fits) = number_before-is 46 255 text a.0 a.1 a-read in
    let (b-is, b-fits) = number_before-is 46 255 a.1 b.0 b.1 b-read in
    let (c-is, c-fits) = number_before-is 46 255 b.1 c.0 c.1 c-read in
    let (d-is, d-fits) = number_before-is 58 255 c.1 d.0 d.1 d-read in
    let (port-is, port-fits) = number_before-is 32 65535 d.1 port.0 port.1 port-read in
    let left : port.1 ≡ rest = ap (λ (o : Option (Endpoint × List ℕ)). (unwrap_or {T = Endpoint × List ℕ} o (from, rest)).1) made in
    record {
      a = a.0;
      b = b.0;
      c = c.0;
      d = d.0;
      port = port.0;
      fit = (a-fits, b-fits, c-fits, d-fits, port-fits);
      spelled = joined text a.1 b.1 c.1 d.1 port.1 rest a.0 b.0 c.0 d.0 port.0 a-is b-is c-is d-is port-is left;
      is = sym (ap (λ (o : Option (Endpoint × List ℕ)). (unwrap_or {T = Endpoint × List ℕ} o (from, rest)).0) made);
    }

-- such a text is read
v4_source-written : (text : List ℕ) (from : Endpoint) (rest : List ℕ) → IsV4Source text from rest → v4_source text ≡ Some (from, rest)
unfolding v4_source
v4_source-written text from rest s =
    let (a, b, c, d, port) = s.fit in
    rw (s.spelled, s.is, number_before-written 46 255 s.a _ refl (lit< tt) a, number_before-written 46 255 s.b _ refl (lit< tt) b, number_before-written 46 255 s.c _ refl (lit< tt) c, number_before-written 58 255 s.d _ refl (lit< tt) d, number_before-written 32 65535 s.port _ refl (lit< tt) port) refl

-- the endpoint before the first space, and what follows that
abbrev source_cut : List ℕ → Option (Endpoint × List ℕ)
source_cut text = cut 32 text >>= λ parts. endpoint_of parts.0 >>= λ from. Some (from, parts.1)

-- such a text is cut, and its endpoint read
source_cut-written : (text : List ℕ) (from : Endpoint) (rest : List ℕ) → IsV4Source text from rest → source_cut text ≡ Some (from, rest)
source_cut-written text from rest s =
    let (a, b, c, d, port) = s.fit in
    let address : List ℕ = dotted_text s.a s.b s.c s.d in
    let octets : List ℕ = s.a ∷ s.b ∷ s.c ∷ s.d ∷ [] in
    let source : List ℕ = address ++ 58 ∷ decimal s.port in
    let dotted : IsDotted address octets = record { a = s.a; b = s.b; c = s.c; d = s.d; fit = (omega (arith, a), omega (arith, b), omega (arith, c), omega (arith, d)); value = refl; spelled = refl } in
    let split : text ≡ source ++ 32 ∷ rest = s.spelled ∙ regrouped s.a s.b s.c s.d s.port in
    let clear = has-endpoint 32 (lit< tt) (lit≤ tt) source (V4 octets) s.port address (decimal s.port) refl dotted (refl, port) in
    rw (split, s.is, cut-front 32 source rest clear, endpoint_of-written source (endpoint_at (V4 octets) s.port) (address, decimal s.port, refl, dotted, (refl, port))) refl
  where
    regrouped : (a b c d port : ℕ) → decimal a ++ 46 ∷ (decimal b ++ 46 ∷ (decimal c ++ 46 ∷ (decimal d ++ 58 ∷ (decimal port ++ 32 ∷ rest)))) ≡ (dotted_text a b c d ++ 58 ∷ decimal port) ++ 32 ∷ rest
    regrouped a b c d port = simp append_assoc refl

-- a text that is cut and read, and doesn't begin with a bracket, is such a text
source_cut-is : (first : ℕ) (text : List ℕ) (from : Endpoint) (rest : List ℕ) → (first == 91) ≡ false → source_cut (first ∷ text) ≡ Some (from, rest) → IsV4Source (first ∷ text) from rest
source_cut-is first text from rest other found =
    let (parts, cuts, read) = bind-some (cut 32 (first ∷ text)) (λ parts. endpoint_of parts.0 >>= λ from. Some (from, parts.1)) (from, rest) found in
    let (endpoint, of, made) = bind-some (endpoint_of parts.0) (λ from. Some (from, parts.1)) (from, rest) read in
    let same : endpoint ≡ from = ap (λ (o : Option (Endpoint × List ℕ)). (unwrap_or {T = Endpoint × List ℕ} o (from, rest)).0) made in
    let left : parts.1 ≡ rest = ap (λ (o : Option (Endpoint × List ℕ)). (unwrap_or {T = Endpoint × List ℕ} o (from, rest)).1) made in
    let split : first ∷ text ≡ parts.0 ++ 32 ∷ rest = (cut-is 32 (first ∷ text) parts.0 parts.1 cuts).0 ∙ ap (λ (r : List ℕ). parts.0 ++ 32 ∷ r) left in
    let (address, port, parted, is, number) = endpoint_of-is parts.0 endpoint of in
    rw same at (go parts.0 endpoint.ip endpoint.port address port split parted is number)
  where
    go : (source : List ℕ) (ip : Ip) (n : ℕ) (address port : List ℕ) → first ∷ text ≡ source ++ 32 ∷ rest → source ≡ address ++ 58 ∷ port → IsAddress address ip → IsNumber 65535 port n → IsV4Source (first ∷ text) (endpoint_at ip n) rest
    go source (V4 octets) n address port split parted dotted number =
        let (a, b, c, d) = dotted.fit in
        record {
          a = dotted.a;
          b = dotted.b;
          c = dotted.c;
          d = dotted.d;
          port = n;
          fit = (omega (arith, a), omega (arith, b), omega (arith, c), omega (arith, d), number.1);
          spelled = split ∙ ap (λ (l : List ℕ). l ++ 32 ∷ rest) (parted ∙ rw (dotted.spelled, number.0) refl) ∙ regrouped dotted.a dotted.b dotted.c dotted.d n;
          is = ap (λ (o : List ℕ). endpoint_at (V4 o) n) dotted.value;
        }
      where
        regrouped : (a b c d port : ℕ) → (dotted_text a b c d ++ 58 ∷ decimal port) ++ 32 ∷ rest ≡ decimal a ++ 46 ∷ (decimal b ++ 46 ∷ (decimal c ++ 46 ∷ (decimal d ++ 58 ∷ (decimal port ++ 32 ∷ rest))))
        regrouped a b c d port = simp append_assoc refl
    go source (V6 octets) n address port split parted (inner, segments, spelled, groups, value) number =
        let bracket : first ≡ 91 = ap (λ (l : List ℕ). get_or l 0 0) (split ∙ ap (λ (l : List ℕ). l ++ 32 ∷ rest) (parted ∙ ap (λ (l : List ℕ). l ++ 58 ∷ port) spelled)) in
        absurd (false≢true (sym other ∙ eq-eqb first 91 bracket))

-- the two are the same where no bracket comes first
v4-same : (first : ℕ) (text : List ℕ) → (first == 91) ≡ false → v4_source (first ∷ text) ≡ source_cut (first ∷ text)
v4-same first text other = go (v4_source (first ∷ text)) refl (source_cut (first ∷ text)) refl
  where
    go : (v : Option (Endpoint × List ℕ)) → v4_source (first ∷ text) ≡ v → (s : Option (Endpoint × List ℕ)) → source_cut (first ∷ text) ≡ s → v4_source (first ∷ text) ≡ source_cut (first ∷ text)
    go (Some (from, rest)) is s cut-is = is ∙ sym (source_cut-written (first ∷ text) from rest (v4_source-is (first ∷ text) from rest is))
    go None is (Some (from, rest)) cut-is = v4_source-written (first ∷ text) from rest (source_cut-is first text from rest other cut-is) ∙ sym cut-is
    go None is None cut-is = is ∙ sym cut-is

-- and after a bracket
v6-same : (text : List ℕ) → v6_source text ≡ source_cut (91 ∷ text)
unfolding v6_source
v6-same text = go (cut 32 text) refl
  where
    go : (parts : Option (List ℕ × List ℕ)) → cut 32 text ≡ parts → v6_source text ≡ source_cut (91 ∷ text)
    go None is = rw is refl
    go (Some (source, rest)) is = rw is refl

-- what is read in one pass is the endpoint before the first space
pub source_of-cut : (text : List ℕ) → source_of text ≡ (cut 32 text >>= λ parts. endpoint_of parts.0 >>= λ from. Some (from, parts.1))
source_of-cut [] = refl
source_of-cut (first ∷ text) = go (first == 91) refl
  where
    go : (t : Bool) → (first == 91) ≡ t → source_of (first ∷ text) ≡ source_cut (first ∷ text)
    go false is = rw is (v4-same first text is)
    go true is = let bracket = eqb-true first 91 is in rw bracket (v6-same text)
