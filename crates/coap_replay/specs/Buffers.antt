-- The buffers of a replay.
use Rattle.std.specs.Prelude.{ℕ, ◌≤◌, vec_capacity}
use Rattle.coap_lines.specs.Room.{longest_line}
use Rattle.coap_replay.specs.declared.buffers.Buffers.{Buffers}

-- They have room for any line and the datagram that it gives, and for a datagram of `most` bytes
-- that is sent, and its line.
pub record HaveRoom (most : ℕ) (b : Buffers) : Type 0 where
  pub line : 16385 ≤ vec_capacity b.line
  pub input : 8192 ≤ b.input.room
  pub output : most ≤ b.output.room
  pub text : longest_line most ≤ vec_capacity b.text
