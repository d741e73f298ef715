-- How many bytes a proxy holds, counted in two ways, and the most that its limits let it hold.
--
-- - `held` counts the bytes that the program keeps: options in their encoding, and each path
--   segment, query part and tag with its length. What is shared counts for each that keeps it, so
--   it is no less than what is kept. It is promised to be at most `most_held` (`Promised`).
-- - `bytes_held` counts the values: responses and keys as a store counts them. It is at most
--   `held`, and so within the same bound (`bytes_held_are_kept` in `src/laws.rt`).
--
-- Both count what is stored by `entry_size`, and neither what tables and allocations add.
use Rattle.std.specs.Prelude.{ℕ, ◌+◌, ◌*◌, List, length, Option, Some, None}
use Rattle.std.specs.List.{sum_by}
use Rattle.std.specs.Option.{option_map_or}
use Rattle.coap_message.specs.Message.{Message}
use Rattle.coap_message.specs.Pieces.{pieces_spelling}
use Rattle.coap_message.specs.Spelling.{options_spelling}
use Rattle.coap_endpoint.specs.declared.target.Target.{Target}
use Rattle.coap_store.specs.declared.key.CacheKey.{CacheKey}
use Rattle.coap_store.specs.declared.stored.Stored.{Stored}
use Rattle.coap_store.specs.Entries.{entry_size}
use Rattle.coap_store.specs.Lists.{total}
use Rattle.coap_store.specs.Sizes.{key_size, options_size}
use Rattle.coap_dedup.specs.Lists.{bytes_of}
use Rattle.coap_pending.specs.declared.exchange.ExchangeState.{ExchangeState}
use Rattle.coap_pending.specs.declared.exchange.ExchangeState.TheVariants.{Queued, Sent, Acked, Done}
use Rattle.coap_pending.specs.declared.exchange.Exchange.{Exchange}
use Rattle.coap_pending.specs.declared.waiter.Waiter.{Waiter}
use Rattle.coap_pending.specs.declared.waiter.WaiterState.{WaiterState}
use Rattle.coap_pending.specs.declared.waiter.WaiterState.TheVariants.{Waiting, Delivering}
use Rattle.coap_pending.specs.Table.{Numbered}
use Rattle.coap_limits.specs.Limits.{Limits}
use Rattle.coap_model.specs.State.{State}

abbrev pub host_bytes : Option (List ℕ) → ℕ
host_bytes None = 0
host_bytes (Some host) = length host + 1

-- path segments and query parts count as they are kept: each preceded by its length
abbrev pub target_bytes : Target → ℕ
target_bytes t =
    host_bytes t.host + (length (pieces_spelling t.path) + length (pieces_spelling t.query))

-- A response counts without its token and its id; its options count as they are kept, in their
-- encoding (RFC 7252, 3.1).
abbrev pub response_bytes : Message → ℕ
response_bytes m = length (options_spelling 0 m.options) + length m.payload

abbrev pub state_bytes : ExchangeState → ℕ
state_bytes Queued = 0
state_bytes Sent = 0
state_bytes Acked = 0
state_bytes (Done a) = response_bytes a.message

-- the target, and the encoded options of the key
abbrev pub key_bytes : CacheKey → ℕ
key_bytes key = target_bytes key.target + length (options_spelling 0 key.options)

-- the copy of a stored response that is validated
abbrev pub copy_bytes : Option Stored → ℕ
copy_bytes copy = option_map_or (λ s. response_bytes s.response) copy 0

-- the form that is forwarded, the key, the copy and the answer
abbrev pub exchange_bytes : Numbered Exchange → ℕ
exchange_bytes x =
    length x.1.form + key_bytes x.1.key + copy_bytes x.1.copy + state_bytes x.1.state

-- the answer to a waiter that isn't acknowledged yet
abbrev pub answer_bytes : WaiterState → ℕ
answer_bytes (Waiting exchange) = 0
answer_bytes (Delivering bytes id timer) = length bytes

-- a waiter's token, its tags, each preceded by its length, and its answer
abbrev pub waiter_bytes : Numbered Waiter → ℕ
waiter_bytes v =
    length v.1.token + length (pieces_spelling v.1.tags) + answer_bytes v.1.state

-- what is stored, the replies that are kept (including expired ones), the exchanges and the waiters
abbrev pub held : State → ℕ
held w =
    total entry_size w.store
    + (bytes_of w.con_records.items + bytes_of w.non_records.items)
    + sum_by exchange_bytes w.exchanges
    + sum_by waiter_bytes w.waiters

-- ---- the bytes held, counted by the values alone: never more than `held`

-- A response counts as a stored one does, without the 64 bytes of an entry: the values of its
-- options with one extra byte each, and its payload.
abbrev pub response_size : Message → ℕ
response_size m = options_size m.options + length m.payload

-- the answer of an exchange
abbrev pub answer_size : ExchangeState → ℕ
answer_size Queued = 0
answer_size Sent = 0
answer_size Acked = 0
answer_size (Done a) = response_size a.message

-- the copy of a stored response that is validated
abbrev pub copy_size : Option Stored → ℕ
copy_size copy = option_map_or (λ s. response_size s.response) copy 0

-- an exchange: the form that is forwarded, the key, the copy and the answer
abbrev pub exchange_size : Numbered Exchange → ℕ
exchange_size x =
    length x.1.form + key_size x.1.key + copy_size x.1.copy + answer_size x.1.state

-- a waiter that waits: its token and its tags; one that was served: the bytes of its answer
abbrev pub waiter_size : Waiter → WaiterState → ℕ
waiter_size v (Waiting exchange) = length v.token + sum_by length v.tags
waiter_size v (Delivering bytes id timer) = length bytes

-- The bytes held: what is stored; the replies that are kept, including those to expired messages;
-- the exchanges; and the waiters. They are at most `held`.
abbrev pub bytes_held : State → ℕ
bytes_held w =
    total entry_size w.store
    + (bytes_of w.con_records.items + bytes_of w.non_records.items)
    + sum_by exchange_size w.exchanges
    + sum_by (λ v. waiter_size v.1 v.1.state) w.waiters

-- ---- the bound

-- a bound on what the store, the records, the waiters and the exchanges hold together
abbrev pub most_held : Limits → ℕ
most_held l =
    l.cache_bytes
    + (l.con_records + l.non_records) * (l.datagram + 128)
    + l.waiters * (l.datagram + 256)
    + l.exchanges * (4 * l.datagram + 256)
