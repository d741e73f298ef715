use Rattle.std.proofs.Common.{◌≡◌, take, vec_capacity, vec_len}
use Rattle.coap_core.specs.Holdings.{client_holdings}
use Rattle.coap_core.proofs.holders.list_clients.Given as goal

abbrev pub invariant-loop-place : goal.invariant-loop-place
invariant-loop-place l = record {
  items : l.holdings.items ≡ take l.place (client_holdings l.fn.clients.items);
  len : vec_len l.holdings ≡ l.place;
  capacity : vec_capacity l.holdings ≡ vec_capacity l.initial.holdings;
}
