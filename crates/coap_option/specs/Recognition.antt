-- When an option is recognised (RFC 7252, 5.4.1, 5.4.3 and 5.4.5).
use Rattle.std.specs.Prelude.{ℕ, Bool, true, false, ◌==◌, ◌&&◌, nat_le}
use Rattle.std.specs.Option.{option_map_or}
use Rattle.coap_option.specs.declared.side.Side.{Side}
use Rattle.coap_option.specs.declared.side.Side.TheVariants.{Request, Response}
use Rattle.coap_option.specs.declared.table.Row.{Row}
use Rattle.coap_option.specs.declared.table.Times.{Times}
use Rattle.coap_option.specs.declared.table.Times.TheVariants.{Never, Once, Many}
use Rattle.coap_option.specs.Table.{row_of}

-- one more may follow `before` of them (RFC 7252, 5.4.5)
abbrev pub may_stand : Times → ℕ → Bool
may_stand Never before = false
may_stand Once before = before == 0
may_stand Many before = true

-- how often the option may occur in a message of this side
abbrev pub times_of : Side → Row → Times
times_of Request row = row.requests
times_of Response row = row.responses

-- a value of this length is in the row's range (RFC 7252, 5.4.3), and may follow `before` of them
abbrev pub recognises : Row → Side → ℕ → ℕ → Bool
recognises row side length before =
    nat_le row.shortest length && nat_le length row.longest && may_stand (times_of side row) before

-- an option with this side, number and length is recognised after `before` with the same number
abbrev pub is_recognised : Side → ℕ → ℕ → ℕ → Bool
is_recognised side number length before =
    option_map_or (λ row. recognises row side length before) (row_of number) false
