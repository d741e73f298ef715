-- Options of a command.
use Rattle.std.proofs.Common.{◌≡◌, ◌&&◌, Bool, true, false, not, is_some, refl}
use Rattle.clap.specs.declared.builder.Arg.{Arg}
use Rattle.clap.specs.Walk.{is_empty}
use Rattle.clap.specs.Words.{rule_of}

-- if two tests pass, the second passes
last_passes : (x y : Bool) → (x && y) ≡ true → y ≡ true
last_passes true y h = h
last_passes false y h = absurd cc

-- a test whose negation passes fails
passes_not : (x : Bool) → not x ≡ true → x ≡ false
passes_not false h = refl
passes_not true h = absurd cc

-- if ten tests pass of which the last is a negation, the negated test fails
tenth : (a b c d e f g h i j : Bool) → (a && (b && (c && (d && (e && (f && (g && (h && (i && not j))))))))) ≡ true → j ≡ false
tenth a b c d e f g h i j all =
    passes_not j
    (last_passes i (not j)
    (last_passes h (i && not j)
    (last_passes g (h && (i && not j))
    (last_passes f (g && (h && (i && not j)))
    (last_passes e (f && (g && (h && (i && not j))))
    (last_passes d (e && (f && (g && (h && (i && not j)))))
    (last_passes c (d && (e && (f && (g && (h && (i && not j))))))
    (last_passes b (c && (d && (e && (f && (g && (h && (i && not j)))))))
    (last_passes a (b && (c && (d && (e && (f && (g && (h && (i && not j)))))))) all)))))))))

-- a simple option isn't one for subcommands too
pub simple-local : (a : Arg) → (rule_of a).is_simple ≡ true → a.global ≡ false
simple-local a simple =
    tenth
    (is_empty a.overrides.items)
    (is_empty a.default_vals_ifs.items)
    (is_empty a.groups.items)
    (not (is_some a.val_delim))
    (not (is_some a.terminator))
    (not a.allow_hyphen_values)
    (not a.allow_negative_numbers)
    (not a.require_equals)
    (not a.last)
    a.global
    simple
