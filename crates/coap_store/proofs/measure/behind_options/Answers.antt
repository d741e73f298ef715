use Rattle.std.proofs.Common.{arith}
use Rattle.coap_store.proofs.AroundMaxAge.{last-before, sides-length}
use Rattle.coap_store.proofs.measure.behind_options.Goals as goal

pub returns-in_err-room : goal.returns-in_err-room
returns-in_err-room c = rw c.from_residual.ensures (omega (arith, c.in_err-room.ensures.left, sides-length c.args.left c.args.options.now))

pub behind_max_age-requires : goal.behind_max_age-requires
behind_max_age-requires c = rw c.in_ok-room.ensures.last (last-before 0 c.args.options.now (omega arith))

pub returns-in_err-room-2 : goal.returns-in_err-room-2
returns-in_err-room-2 c =
    rw c.from_residual-in_err-room-2.ensures (omega (arith, c.in_ok-room.ensures.left, rw c.in_ok-room.ensures.last at c.in_err-room-2.ensures, sides-length c.args.left c.args.options.now))

pub returns-in_err-room-3 : goal.returns-in_err-room-3
returns-in_err-room-3 c =
    rw c.from_residual-in_err-room-3.ensures (omega (arith, c.in_ok-room.ensures.left, rw c.in_ok-room.ensures.last at c.in_ok-room-2.ensures, c.in_err-room-3.ensures.left, sides-length c.args.left c.args.options.now))

pub returns : goal.returns
returns c = omega (arith, c.in_ok-room.ensures.left, rw c.in_ok-room.ensures.last at c.in_ok-room-2.ensures, c.in_ok-room-3.ensures.left, sides-length c.args.left c.args.options.now)
