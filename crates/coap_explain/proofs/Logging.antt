-- Lines of a log, field by field.
use Rattle.std.proofs.Common.{◌≡◌, ℕ, Bool, List, [], ◌∷◌, ◌++◌, Option, take, sym, ap, subst, ◌∙◌}
use Rattle.std.proofs.lemmas.List.{append-nil, append_assoc}
use Rattle.std.proofs.lemmas.List.Concat.{flat_map-append}
use Rattle.std.specs.Io.KnownBytes.{Appends}
use Rattle.std.specs.Prelude.{IsOk, OnOk, Result, Ok, Err}
use Rattle.coap_message.specs.Datagram.{Datagram, holding}
use Rattle.coap_log.specs.Line.{Field, field_text, fields_text}
use Rattle.coap_explain.proofs.Writing.{appends-more}
use Rattle.coap_explain.specs.Logged.{Adds, left_out_text, told, torn_behind, written}

-- one field
pub adds-one : (old new : Datagram) (f : Field) → new ≡ holding old (old.bytes ++ field_text f) → Adds old new (f ∷ [])
adds-one old new f is = is ∙ ap (λ t. holding old (old.bytes ++ t)) (sym (append-nil (field_text f)))

-- fields after fields
pub adds-more : (a b c : Datagram) (xs ys : List Field) → Adds a b xs → Adds b c ys → Adds a c (xs ++ ys)
adds-more a b c xs ys first next =
    next
    ∙ ap (λ (d : Datagram). holding d (d.bytes ++ fields_text ys)) first
    ∙ ap (λ t. holding a t)
    (append_assoc a.bytes (fields_text xs) (fields_text ys)
    ∙ ap (λ t. a.bytes ++ t) (sym (flat_map-append field_text xs ys)))

-- the same, if the last were added
pub adds-last : {T E : Type 0} (r : Result T E) (a b c : Datagram) (xs ys zs : List Field)
    → Adds a b xs → OnOk r (Adds b c ys) → xs ++ ys ≡ zs → OnOk r (Adds a c zs)
adds-last (Ok v) a b c xs ys zs first next is =
    subst (λ fs. Adds a c fs) is (adds-more a b c xs ys first next)
adds-last (Err e) a b c xs ys zs first next is = tt

-- what holds of a value that is there
pub at-ok : {T E P : Type 0} (r : Result T E) → IsOk r → OnOk r P → P
at-ok (Ok v) is holds = holds
at-ok (Err e) is holds = cc

-- A line that is begun, gets its fields and is written: a and b are what the output holds before it is
-- begun and then, c what it holds at the end.
pub line-told :
    (a b between c : Option (List ℕ)) (torn torn₁ torn₂ : Bool) (n : ℕ) (line line₁ line₂ : Datagram) (word : List ℕ) (fields : List Field)
    → Appends a b (left_out_text torn line n)
    → torn₁ ≡ torn_behind torn n
    → line₁ ≡ holding line (take line.room word)
    → between ≡ b
    → torn₂ ≡ torn₁
    → Adds line₁ line₂ fields
    → Appends between c (written torn₂ line₂)
    → Appends a c (told torn line n word fields)
line-told a b between c torn torn₁ torn₂ n line line₁ line₂ word fields before behind begun same still put at_end =
    let whole : line₂ ≡ holding line (take line.room word ++ fields_text fields) = put ∙ ap (λ (d : Datagram). holding d (d.bytes ++ fields_text fields)) begun in
    let is : written torn₂ line₂ ≡ written (torn_behind torn n) (holding line (take line.room word ++ fields_text fields)) = ap (λ t. written t line₂) (still ∙ behind) ∙ ap (written (torn_behind torn n)) whole in
    appends-more a b c (left_out_text torn line n) (written (torn_behind torn n) (holding line (take line.room word ++ fields_text fields))) before
    (subst (λ o. Appends o c (written (torn_behind torn n) (holding line (take line.room word ++ fields_text fields)))) same (subst (λ t. Appends between c t) is at_end))
