-- The two bits of the header that encode the type of a message (RFC 7252, 3).
use Rattle.std.specs.Prelude.{ℕ, zero, suc}
use Rattle.coap_message.specs.declared.kind.Kind.{Kind}
use Rattle.coap_message.specs.declared.kind.Kind.TheVariants.{Con, Non, Ack, Rst}

abbrev pub kind_number : Kind → ℕ
kind_number Con = 0
kind_number Non = 1
kind_number Ack = 2
kind_number Rst = 3

-- the type that a number of two bits encodes
abbrev pub kind_of : ℕ → Kind
kind_of zero = Con
kind_of (suc zero) = Non
kind_of (suc (suc zero)) = Ack
kind_of (suc (suc (suc n))) = Rst
