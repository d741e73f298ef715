-- Runs of which an account is computed.
use Rattle.std.specs.Prelude.{ℕ, true, false, List, [], ◌∷◌, codes, replicate, Option, None, Some}
use Rattle.coap_endpoint.specs.declared.endpoint.Endpoint.{Endpoint}
use Rattle.coap_endpoint.specs.declared.endpoint.Ip.{Ip}
use Rattle.coap_endpoint.specs.declared.endpoint.Ip.TheVariants.{V4, V6}
use Rattle.coap_endpoint.specs.declared.target.Target.{Target}
use Rattle.coap_limits.specs.Limits.{Limits, default_limits}
use Rattle.coap_target.specs.Examples.{fixed_routes}
use Rattle.coap_model.specs.Examples.{answer, client, content, from, get_t_as, origin, proxy, tick_at}
use Rattle.coap_model.specs.declared.deed.Deed.TheVariants.{Idle}
use Rattle.coap_model.specs.Runs.{Turn}
use Rattle.coap_model.specs.State.{State, new_state}
use Rattle.coap_core.specs.Told.{Told}
use Rattle.coap_core.specs.declared.holders.Holder.{Holder}
use Rattle.coap_core.specs.declared.holders.SharedTable.TheVariants.{Waiters}
use Rattle.coap_message.specs.Codes.{code_of}
use Rattle.coap_explain.specs.declared.answering.Answering.TheVariants.{Passed}
use Rattle.coap_explain.specs.declared.causes.BadGateway.TheVariants as gateways
use Rattle.coap_explain.specs.declared.causes.Silence.TheVariants.{NotAcknowledged}
use Rattle.coap_explain.specs.declared.due.DueExchange.{DueExchange}
use Rattle.coap_explain.specs.declared.due.TickSubject.TheVariants.{Nothing}
use Rattle.coap_explain.specs.declared.lacks.Lack.{Lack}
use Rattle.coap_explain.specs.declared.lacks.Need.TheVariants.{Exchanges, ClientWaiters}
use Rattle.coap_explain.specs.declared.log_fields.Cause.TheVariants.{BadGateway}
use Rattle.coap_explain.specs.declared.log_lines.Failed.{Failed}
use Rattle.coap_explain.specs.Account.{Noted}

-- a proxy with these limits
abbrev pub proxy_of : Limits → State
proxy_of limits =
    new_state (record { limits = limits; routes = fixed_routes; first_id = 1; salt = 0 })

-- one that gives up after a second, one that remembers a Confirmable message, and one with datagrams
-- of at most 128 bytes
abbrev pub hasty : State
hasty = proxy_of (record default_limits { exchange_ms = 1000 })

abbrev pub forgetful : State
forgetful = proxy_of (record default_limits { con_records = 1; client_con_records = 1 })

abbrev pub narrow : State
narrow = proxy_of (record default_limits { datagram = 128 })

-- a Confirmable GET for the path `t` with this id
abbrev pub con_get : ℕ → List ℕ
con_get id = 0x40 ∷ 1 ∷ 0 ∷ id ∷ 0xB1 ∷ 0x74 ∷ []

-- one that opens an exchange, and another that joins it; its duplicate; and a hit after 2.5 seconds
abbrev pub shared : List Turn
shared =
    from 0 (client 1) (get_t_as 7 []) ∷ from 0 (client 2) (con_get 8)
    ∷ from 1 (client 2) (con_get 8) ∷ tick_at 1 ∷ from 4 origin content ∷ tick_at 5 ∷ tick_at 6
    ∷ from 2504 (client 3) (get_t_as 9 []) ∷ []

-- a request that is given up
abbrev pub given_up : List Turn
given_up =
    from 0 (client 1) (get_t_as 7 []) ∷ tick_at 5 ∷ tick_at 1000 ∷ tick_at 1001 ∷ tick_at 1002 ∷ []

-- an answer that a client doesn't acknowledge
abbrev pub unheard : List Turn
unheard =
    from 0 (client 1) (con_get 7) ∷ tick_at 0 ∷ from 0 origin content ∷ tick_at 0 ∷ tick_at 2000
    ∷ tick_at 6000 ∷ tick_at 14000 ∷ tick_at 30000 ∷ tick_at 62000 ∷ []

-- one that is sent again, and rejected; and one that is acknowledged
abbrev pub rejected : List Turn
rejected =
    from 0 (client 1) (get_t_as 7 []) ∷ tick_at 0 ∷ tick_at 2000
    ∷ from 2001 origin (0x70 ∷ 0 ∷ 0 ∷ 1 ∷ []) ∷ tick_at 2001 ∷ from 2001 (client 1) (get_t_as 8 [])
    ∷ tick_at 2001 ∷ from 2001 origin (0x60 ∷ 0 ∷ 0 ∷ 3 ∷ []) ∷ []

-- two Confirmable messages
abbrev pub forgotten : List Turn
forgotten = from 0 (client 1) (con_get 7) ∷ from 0 (client 1) (con_get 8) ∷ []

-- A 2.05 with the tag AB and 67 bytes is validated once its ten seconds are over, by a 2.03 with
-- these options and this payload.
abbrev pub validated_by : List ℕ → List Turn
validated_by more =
    from 0 (client 1) (get_t_as 7 []) ∷ tick_at 0
    ∷ from 0 origin
    (answer 0x68 0x45 1 1 (0x41 ∷ 0xAB ∷ 0xA1 ∷ 10 ∷ 0xFF ∷ replicate 67 0x61))
    ∷ tick_at 0 ∷ from 10001 (client 1) (get_t_as 8 []) ∷ tick_at 10001
    ∷ from 10001 origin (answer 0x68 0x43 3 2 (0x41 ∷ 0xAB ∷ 0xA1 ∷ 10 ∷ more)) ∷ []

-- an option that is safe to forward, with 40 bytes, so that what it renews fits no datagram; and 111
-- bytes of payload, which aren't passed on
abbrev pub long_option : List ℕ
long_option = 0xDD ∷ 0xE9 ∷ 27 ∷ replicate 40 0x61

abbrev pub long_payload : List ℕ
long_payload = 0xFF ∷ replicate 111 0x61

-- ---- turns by themselves

-- a request for which memory ran out, and a tick when nothing is due
abbrev pub lost : Told
lost = record {
  turn = from 7 (client 1) (get_t_as 7 []);
  did = None;
  bytes = [];
  went = false;
  state = proxy;
}

abbrev pub idle : Told
idle = record {
  turn = tick_at 7;
  did = Some (record { send = None; deed = Idle });
  bytes = [];
  went = true;
  state = record proxy { events = 1 };
}

abbrev pub nothing_noted : Noted
nothing_noted =
    record { due = Nothing; target = []; answering = Passed; joins = false }

-- ---- endpoints and targets

abbrev pub at : Ip → ℕ → Endpoint
at ip port = record { ip = ip; port = port }

-- 192.0.2.N, and 2001:db8::10:ff0a
abbrev pub ipv4 : ℕ → Ip
ipv4 n = V4 (192 ∷ 0 ∷ 2 ∷ n ∷ [])

abbrev pub ipv6 : Ip
ipv6 =
    V6
    (0x20 ∷ 1 ∷ 0x0D ∷ 0xB8 ∷ 0 ∷ 0 ∷ 0 ∷ 0 ∷ 0 ∷ 0 ∷ 0 ∷ 0 ∷ 0 ∷ 0x10 ∷ 0xFF ∷ 0x0A ∷ [])

abbrev pub client_at : ℕ → Endpoint
client_at n = at (ipv4 n) 40001

abbrev pub root : Target
root =
    record { host = None; at = at (ipv4 7) 5683; port = None; path = []; query = [] }

abbrev pub named : Target
named = record {
  host = Some (codes "a\n# b:1@c&d");
  at = at (ipv4 7) 5684;
  port = None;
  path = [] ∷ codes "/?&" ∷ [];
  query = codes "a=/" ∷ codes "%" ∷ [];
}

abbrev pub bracketed : Target
bracketed = record {
  host = Some (codes "[::1]:2]");
  at = at (ipv4 7) 5683;
  port = Some 81;
  path = codes "x" ∷ [];
  query = [];
}

-- ---- lines of a log

-- an exchange with 192.0.2.7, of which the request was sent four times
abbrev pub exchange : DueExchange
exchange = record {
  origin = at (ipv4 7) 5684;
  id = Some 9;
  transmissions = 4;
  admitted = 1000;
  waiting = 2;
  silence = NotAcknowledged;
  answer = None;
}

abbrev pub refused : Failed
refused = record {
  client = client_at 1;
  code = code_of 5 2;
  cause = Some (BadGateway (gateways.Option 65001));
}

abbrev pub passed : Failed
passed = record { client = client_at 1; code = code_of 5 3; cause = None }

abbrev pub holder : Holder
holder = record {
  table = Waiters;
  count = 81;
  limit = 82;
  ip = ipv6;
  held = 83;
  ports = 84;
  found = 0;
}

abbrev pub short : List (Option Lack)
short =
    Some (record { need = Exchanges; count = 256; limit = 255 }) ∷ None
    ∷ Some (record { need = ClientWaiters; count = 65; limit = 64 }) ∷ []
