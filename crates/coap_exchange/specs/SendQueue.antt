-- Whose turn it is to be sent: for each endpoint its first queued exchange, keyed by how many are
-- sent to the endpoint.
use Rattle.std.specs.Prelude.{◌≡◌, ℕ, ◌<◌, ◌≤◌, ◌&&◌, ◌||◌, max, Bool, true, false, not, if◌then◌else◌, nat_le, nat_lt, List, length, Option, Some, None}
use Rattle.std.specs.Option.{option_map}
use Rattle.coap_endpoint.specs.declared.endpoint.Endpoint.{Endpoint}
use Rattle.coap_pending.specs.declared.exchange.Transition.{Transition}
use Rattle.coap_pending.specs.declared.exchange.Exchange.{Exchange}
use Rattle.coap_exchange.specs.declared.send_queue.SendQueue.{SendQueue}
use Rattle.coap_pending.specs.Exchanges.{is_queued, is_queued_to, is_sent, is_sent_to, is_sent_after}
use Rattle.ordered_index.specs.Ordered.{Pair, OrderedIndex, is_in}
use Rattle.coap_pending.specs.Table.{Numbered, count, first_that, item_at}

-- the number of exchanges sent to an endpoint, and its first queued exchange, if it has one
abbrev pub head_at : List (Numbered Exchange) → Endpoint → Option Pair
head_at items at =
    option_map (λ n. (count (is_sent_to at) items, n)) (first_that (is_queued_to at) items)

-- `head_at` of an endpoint, if there is one
abbrev pub head_in : List (Numbered Exchange) → Option Endpoint → Option Pair
head_in items None = None
head_in items (Some at) = head_at items at

-- the head of an endpoint once an exchange is queued there after all others
abbrev pub head_with : Option Pair → ℕ → ℕ → Option Pair
head_with None sent number = Some (sent, number)
head_with (Some head) sent number = Some head

-- whether an exchange is in the sent state after a change, or, without a change, once it is removed
abbrev pub is_sent_then : Option Transition → Bool → Bool
is_sent_then None was = false
is_sent_then (Some c) was = is_sent_after c was

-- it waits for its turn, or a change turns whether it is in the sent state
abbrev pub is_moved : Option Transition → Exchange → Bool
is_moved change x =
    is_queued x
    || (if is_sent x
    then not (is_sent_then change (is_sent x))
    else is_sent_then change (is_sent x))

-- the endpoint of which the head may be another after a change
abbrev pub head_may_change_at : Option Transition → Option Exchange → Option Endpoint
head_may_change_at change None = None
head_may_change_at change (Some x) = if is_moved change x then Some x.key.target.at else None

-- the index holds the heads of all endpoints, and nothing else
pub record AreHeads (items : List (Numbered Exchange)) (heads : OrderedIndex) : Type 0 where
  pub only : (p : Pair) → is_in p heads.pairs ≡ true → (at : Endpoint) × (head_at items at ≡ Some p)
  pub all : (at : Endpoint) (p : Pair) → head_at items at ≡ Some p → is_in p heads.pairs ≡ true
  pub room : length heads.pairs ≤ heads.limit

-- none was admitted after `latest`, and each was admitted no earlier than those with lower numbers
pub record AreInOrder (items : List (Numbered Exchange)) (latest : ℕ) : Type 0 where
  pub early : (n : ℕ) (x : Exchange) → item_at n items ≡ Some x → x.admitted ≤ latest
  pub order :
      (n m : ℕ) (x y : Exchange)
      → item_at n items ≡ Some x
      → item_at m items ≡ Some y
      → n < m
      → x.admitted ≤ y.admitted

-- the state that decides whose turn it is
pub record IsSendQueue (items : List (Numbered Exchange)) (send_queue : SendQueue) : Type 0 where
  pub heads : AreHeads items send_queue.heads
  pub order : send_queue.in_order ≡ true → AreInOrder items send_queue.latest

-- an exchange was admitted at this moment
abbrev pub noted : ℕ → SendQueue → SendQueue
noted now send_queue =
    record send_queue {
      latest = max send_queue.latest now;
      in_order = send_queue.in_order && nat_le send_queue.latest now;
    }

-- the lower of two numbers, or the second if there is no first
abbrev pub lower : Option ℕ → ℕ → Option ℕ
lower None m = Some m
lower (Some n) m = if nat_lt n m then Some n else Some m

-- the least number among the pairs whose key is less than `most`
abbrev pub IsLowestUnder : ℕ → List Pair → Option ℕ → Type 0
IsLowestUnder most pairs None = (p : Pair) → is_in p pairs ≡ true → most ≤ p.0
IsLowestUnder most pairs (Some n) =
    ((c : ℕ) × (c < most) × (is_in (c, n) pairs ≡ true))
    × ((p : Pair) → is_in p pairs ≡ true → p.0 < most → n ≤ p.1)
