-- How an answer is processed: what it changes, whether it is stored, and that the exchange has it
-- (RFC 7252, 5.6 and 5.9.1).
use Rattle.std.specs.Prelude.{ℕ, ◌&&◌, Bool, false, not, nat_le, if◌then◌else◌, List, [], ◌∷◌, map, Option, Some, None, option_map}
use Rattle.coap_message.specs.Message.{Message}
use Rattle.coap_endpoint.specs.declared.endpoint.Endpoint.{Endpoint}
use Rattle.coap_endpoint.specs.declared.target.Target.{Target}
use Rattle.coap_store.specs.Entries.{Entry, entry_key, entry_size, marked}
use Rattle.coap_store.specs.Lists.{of_key, others, put}
use Rattle.coap_store.specs.declared.answer.Answer.{Answer}
use Rattle.coap_pending.specs.declared.exchange.Exchange.{Exchange}
use Rattle.coap_pending.specs.Exchanges.{answered, tainted_by, asked_of}
use Rattle.coap_pending.specs.Table.{Numbered, all_changed, changed_at}
use Rattle.coap_model.specs.declared.deed.Deed.TheVariants.{Answered}
use Rattle.coap_model.specs.declared.report.Storing.{Storing}
use Rattle.coap_model.specs.declared.report.Storing.TheVariants.{Kept, TooLarge, NoMemory, NotStored}
use Rattle.coap_forward.specs.Answers.{answer_of, is_storable}
use Rattle.coap_forward.specs.Changes.{changed_by}
use Rattle.coap_model.specs.State.{State, Step, later, accepts}

-- ---- changes

-- the entries with these targets are marked
abbrev pub marked_all : List Target → List Entry → List Entry
marked_all [] store = store
marked_all (t ∷ changed) store = marked_all changed (map (marked t) store)

-- exchanges whose requests were sent before their targets were changed are tainted: their answers
-- may be out of date
abbrev pub tainted_all : List Target → List (Numbered Exchange) → List (Numbered Exchange)
tainted_all [] xs = xs
tainted_all (t ∷ changed) xs = tainted_all changed (all_changed (tainted_by t) xs)

-- these targets were changed
abbrev pub with_changed : List Target → State → State
with_changed changed w = record w {
  exchanges = tainted_all changed w.exchanges;
  store = marked_all changed w.store;
}

-- ---- what is stored

-- an answer that has arrived: from whom, in which message, and for which exchange
pub record Arrived : Type 0 where
  pub source : Endpoint
  pub message : Message
  pub exchange : Numbered Exchange
  pub answer : Answer

-- the entry that is stored for the answer of an exchange
abbrev pub entry_made : State → ℕ → Exchange → Answer → Entry
entry_made w now x a = (
  x.key,
  record {
    response = a.message;
    asked = asked_of x.sending;
    got_no = w.events;
    got = now;
    marked = false;
  },
)

-- the exchange has its answer, and the store becomes this one; a Confirmable message is
-- acknowledged
abbrev pub answers_so : State → ℕ → Arrived → Storing → List Entry → Step
answers_so w now a storing store =
    accepts (Answered a.exchange.0 storing) a.source a.message (record (later w now) {
      exchanges = changed_at a.exchange.0 (answered a.answer) w.exchanges;
      store = store;
    })

-- the answer is put in front of the store, and what no longer fits is evicted
abbrev pub keeps : State → ℕ → Arrived → Step
keeps w now a =
    answers_so w now a Kept (put entry_key entry_size
    w.setting.limits.cache_bytes w.setting.limits.cache_entries
    (entry_made w now a.exchange.1 a.answer) w.store)

-- only a key without an entry needs memory
abbrev pub keeps_if : State → ℕ → Bool → Arrived → Option Entry → Step
keeps_if w now grown a None =
    if grown then keeps w now a else answers_so w now a NoMemory w.store
keeps_if w now grown a (Some entry) = keeps w now a

-- an answer that alone is larger than the limit of the store isn't kept, nor is what it would
-- replace
abbrev pub stores : State → ℕ → Bool → Arrived → Step
stores w now grown a =
    if nat_le (entry_size (entry_made w now a.exchange.1 a.answer)) w.setting.limits.cache_bytes
    then keeps_if w now grown a (of_key entry_key a.exchange.1.key w.store)
    else answers_so w now a TooLarge (others entry_key a.exchange.1.key w.store)

-- a storable answer to a GET whose target wasn't changed meanwhile
abbrev pub may_store : Exchange → Answer → Bool
may_store x a = x.is_get && (not x.tainted && is_storable a)

abbrev pub answers_with : State → ℕ → Bool → Arrived → Step
answers_with w now grown a =
    if may_store a.exchange.1 a.answer
    then stores w now grown a
    else answers_so w now a NotStored w.store

-- ---- the answer

-- the answer that the message gives the exchange
abbrev pub answer_for : State → ℕ → Message → Exchange → Answer
answer_for w now m x =
    answer_of w.setting.limits.datagram x.is_get (option_map (λ s. s.response) x.copy) now m

-- The exchange gets its answer, from a response or a Reset: first, what the message changes is
-- marked and tainted. `grown` says whether there is memory for one more entry.
abbrev pub answers : State → ℕ → Bool → Endpoint → Message → Numbered Exchange → Step
answers w now grown source m x =
    answers_with (with_changed (changed_by x.1.key.target m) w) now grown (record {
      source = source;
      message = m;
      exchange = x;
      answer = answer_for w now m x.1;
    })
