use Rattle.std.proofs.Common.{◌≡◌, take, vec_capacity, vec_len}
use Rattle.coap_model.specs.State.{records_of}
use Rattle.coap_core.specs.Holdings.{record_holdings}
use Rattle.coap_core.proofs.holders.list_records.Given as goal

abbrev pub invariant-loop-place : goal.invariant-loop-place
invariant-loop-place g l = record {
  items : l.holdings.items ≡ take l.place (record_holdings (records_of l.fn.kind l.fn.core).items);
  len : vec_len l.holdings ≡ l.place;
  capacity : vec_capacity l.holdings ≡ vec_capacity l.initial.holdings;
}
