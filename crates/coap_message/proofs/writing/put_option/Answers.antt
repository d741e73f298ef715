use Rattle.std.proofs.Common.{◌≡◌, ◌+◌, ◌*◌, List, ℕ, ◌∷◌, [], ◌++◌, Err, length, refl, subst}
use Rattle.std.proofs.lemmas.Result.{err_from_is_err_and}
use Rattle.coap_message.specs.Datagram.{Appends}
use Rattle.coap_message.specs.Spelling.{more_of, option_spelling}
use Rattle.coap_message.proofs.Appending.{Appends-full, Appends-behind, option_written}
use Rattle.coap_message.proofs.writing.put_option.Goals.{After-append}
use Rattle.coap_message.proofs.writing.put_option.Goals as goal

-- the pieces of the option: its first byte, what extends the delta, what extends the length; and its value
abbrev first : After-append → List ℕ
first c = (16 * c.bits.result + c.bits-2.result) ∷ []

abbrev delta : After-append → List ℕ
delta c = more_of c.from-delta.result

abbrev len : After-append → List ℕ
len c = more_of (length c.args.value.now)

-- together they are its spelling
written : (c : After-append) → first c ++ (delta c ++ (len c ++ c.args.value.now)) ≡ option_spelling c.args.before (record { number = c.args.number; value = c.args.value.now })
written c =
    option_written c.args.before (record { number = c.args.number; value = c.args.value.now }) c.from-delta.result (length c.args.value.now) c.bits.result c.bits-2.result c.from-delta.ensures refl c.bits.ensures.value c.bits-2.ensures.value

pub returns-in_err-append : goal.returns-in_err-append
returns-in_err-append c =
    let a = (goal.at.returns-in_err-append c).After-append in
    let p = err_from_is_err_and c.from_residual.result c.from_residual.ensures.1 in
    rw p.1 (subst (λ (xs : List ℕ). Appends c.args.out.now c.append.new.out c.args.room xs (Err p.0)) (written a)
    (Appends-full c.args.out.now c.append.new.out c.args.room (first a) (delta a ++ (len a ++ c.args.value.now)) c.in_err-append.field-0.0 p.0 c.in_err-append.ensures))

pub returns-in_err-put_more : goal.returns-in_err-put_more
returns-in_err-put_more c =
    let a = (goal.at.returns-in_err-put_more c).After-append in
    let p = err_from_is_err_and c.from_residual-in_err-put_more.result c.from_residual-in_err-put_more.ensures.1 in
    rw p.1 (subst (λ (xs : List ℕ). Appends c.args.out.now c.put_more.new.out c.args.room xs (Err p.0)) (written a)
    (Appends-behind c.args.out.now c.append.new.out c.put_more.new.out c.args.room (first a) (delta a ++ (len a ++ c.args.value.now)) tt (Err p.0) c.in_ok-append.ensures
    (Appends-full c.append.new.out c.put_more.new.out c.args.room (delta a) (len a ++ c.args.value.now) c.in_err-put_more.field-0.0 p.0 c.in_err-put_more.ensures)))

pub returns-in_err-put_more-2 : goal.returns-in_err-put_more-2
returns-in_err-put_more-2 c =
    let a = (goal.at.returns-in_err-put_more-2 c).After-append in
    let p = err_from_is_err_and c.from_residual-in_err-put_more-2.result c.from_residual-in_err-put_more-2.ensures.1 in
    rw p.1 (subst (λ (xs : List ℕ). Appends c.args.out.now c.put_more-2.new.out c.args.room xs (Err p.0)) (written a)
    (Appends-behind c.args.out.now c.append.new.out c.put_more-2.new.out c.args.room (first a) (delta a ++ (len a ++ c.args.value.now)) tt (Err p.0) c.in_ok-append.ensures
    (Appends-behind c.append.new.out c.put_more.new.out c.put_more-2.new.out c.args.room (delta a) (len a ++ c.args.value.now) tt (Err p.0) c.in_ok-put_more.ensures
    (Appends-full c.put_more.new.out c.put_more-2.new.out c.args.room (len a) c.args.value.now c.in_err-put_more-2.field-0.0 p.0 c.in_err-put_more-2.ensures))))

pub returns : goal.returns
returns c =
    let a = (goal.at.returns c).After-append in
    subst (λ (xs : List ℕ). Appends c.args.out.now c.append-2.new.out c.args.room xs c.append-2.result) (written a)
    (Appends-behind c.args.out.now c.append.new.out c.append-2.new.out c.args.room (first a) (delta a ++ (len a ++ c.args.value.now)) tt c.append-2.result c.in_ok-append.ensures
    (Appends-behind c.append.new.out c.put_more.new.out c.append-2.new.out c.args.room (delta a) (len a ++ c.args.value.now) tt c.append-2.result c.in_ok-put_more.ensures
    (Appends-behind c.put_more.new.out c.put_more-2.new.out c.append-2.new.out c.args.room (len a) c.args.value.now tt c.append-2.result c.in_ok-put_more-2.ensures c.append-2.ensures)))
