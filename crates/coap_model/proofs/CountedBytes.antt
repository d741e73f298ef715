-- The bytes held as the values count are at most those that are kept for them.
use Rattle.std.proofs.Common.{ℕ, ◌+◌, ◌≤◌, List, [], ◌∷◌, length, Option, Some, None, arith}
use Rattle.std.specs.List.{sum_by}
use Rattle.std.proofs.lemmas.List.Sums.{sum_by-cons, sum_by-le-sum_by}
use Rattle.coap_message.specs.declared.options.Opt.{Opt}
use Rattle.coap_message.specs.Message.{Message}
use Rattle.coap_message.specs.Pieces.{pieces_spelling}
use Rattle.coap_message.specs.Spelling.{options_spelling, options_length}
use Rattle.coap_message.proofs.PieceSpellings.{pieces-length}
use Rattle.coap_message.proofs.Spellings.{options-length}
use Rattle.coap_store.specs.declared.key.CacheKey.{CacheKey}
use Rattle.coap_store.specs.declared.stored.Stored.{Stored}
use Rattle.coap_store.specs.Sizes.{host_size, key_size, options_size, value_size, values_size}
use Rattle.coap_pending.specs.declared.exchange.ExchangeState.{ExchangeState}
use Rattle.coap_pending.specs.declared.exchange.ExchangeState.TheVariants.{Queued, Sent, Acked, Done}
use Rattle.coap_pending.specs.declared.exchange.Exchange.{Exchange}
use Rattle.coap_pending.specs.declared.waiter.Waiter.{Waiter}
use Rattle.coap_pending.specs.declared.waiter.WaiterState.{WaiterState}
use Rattle.coap_pending.specs.declared.waiter.WaiterState.TheVariants.{Waiting, Delivering}
use Rattle.coap_pending.specs.Table.{Numbered}
use Rattle.coap_model.specs.State.{State}
use Rattle.coap_model.specs.Held.{host_bytes, key_bytes, response_bytes, copy_bytes, state_bytes, exchange_bytes, answer_bytes, waiter_bytes, held, response_size, answer_size, copy_size, exchange_size, waiter_size, bytes_held}

-- values, each with one extra byte, take at most as much as the pieces that are kept
values-kept : (values : List (List ℕ)) → values_size values ≤ length (pieces_spelling values)
values-kept [] = omega arith
values-kept (v ∷ values) = omega (arith, sum_by-cons value_size v values, pieces-length v values, values-kept values)

-- and so they do without the extra byte
tags-kept : (tags : List (List ℕ)) → sum_by length tags ≤ length (pieces_spelling tags)
tags-kept [] = omega arith
tags-kept (tag ∷ tags) = omega (arith, sum_by-cons length tag tags, pieces-length tag tags, tags-kept tags)

-- the values of options are at most their encoding
options-count : (before : ℕ) (os : List Opt) → options_size os ≤ options_length before os
options-count before [] = omega arith
options-count before (o ∷ os) = omega (arith, sum_by-cons (λ (o : Opt). value_size o.value) o os, options-count o.number os)

-- options count at most the bytes of their encoding
options-kept : (os : List Opt) → options_size os ≤ length (options_spelling 0 os)
options-kept os = omega (arith, options-count 0 os, options-length 0 os)

-- so does a host
host-kept : (host : Option (List ℕ)) → host_size host ≤ host_bytes host
host-kept None = omega arith
host-kept (Some host) = omega arith

-- a key
key-kept : (key : CacheKey) → key_size key ≤ key_bytes key
key-kept key = omega (arith, host-kept key.target.host, values-kept key.target.path, values-kept key.target.query, options-kept key.options)

-- a response
response-kept : (m : Message) → response_size m ≤ response_bytes m
response-kept m = omega (arith, options-kept m.options)

-- a copy
copy-kept : (copy : Option Stored) → copy_size copy ≤ copy_bytes copy
copy-kept None = omega arith
copy-kept (Some stored) = response-kept stored.response

-- an answer
answer-kept : (state : ExchangeState) → answer_size state ≤ state_bytes state
answer-kept Queued = omega arith
answer-kept Sent = omega arith
answer-kept Acked = omega arith
answer-kept (Done a) = response-kept a.message

-- an exchange
exchange-kept : (x : Numbered Exchange) → exchange_size x ≤ exchange_bytes x
exchange-kept x = omega (arith, key-kept x.1.key, copy-kept x.1.copy, answer-kept x.1.state)

-- a waiter that waits
waiter-kept : (v : Waiter) (state : WaiterState) → waiter_size v state ≤ length v.token + length (pieces_spelling v.tags) + answer_bytes state
waiter-kept v (Waiting exchange) = omega (arith, tags-kept v.tags)
waiter-kept v (Delivering bytes id timer) = omega arith

-- and everything that is held
pub bytes-kept : (w : State) → bytes_held w ≤ held w
bytes-kept w =
    omega (
      arith,
      sum_by-le-sum_by exchange_size exchange_bytes w.exchanges exchange-kept,
      sum_by-le-sum_by (λ (v : Numbered Waiter). waiter_size v.1 v.1.state) waiter_bytes w.waiters (λ v. waiter-kept v.1 v.1.state),
    )
