use Rattle.std.proofs.Common.{rules, subst, refl}
use Rattle.endpoint_counts.specs.Clients.{AreWithin}
use Rattle.coap_pending.specs.Table.{IsTable}
use Rattle.coap_pending.specs.Waiters.{is_of}
use Rattle.coap_exchange.proofs.waiters.Waiters.admit.Goals as goal

pub returns-then-is_full-clause-number : goal.returns-then-is_full-clause-number
returns-then-is_full-clause-number c = tt

pub returns-then-is_full-clause-ok : goal.returns-then-is_full-clause-ok
returns-then-is_full-clause-ok c = tt

pub returns-then-is_full-clause-full : goal.returns-then-is_full-clause-full
returns-then-is_full-clause-full c = search rules

pub returns-then-is_full-clause-client_full : goal.returns-then-is_full-clause-client_full
returns-then-is_full-clause-client_full c = search rules

pub returns-then-is_full-clause-room : goal.returns-then-is_full-clause-room
returns-then-is_full-clause-room c = tt

pub returns-then-is_full-clause-client_room : goal.returns-then-is_full-clause-client_room
returns-then-is_full-clause-client_room c = tt

pub returns-then-is_full-clause-err : goal.returns-then-is_full-clause-err
returns-then-is_full-clause-err c = refl

pub returns-then-is_full-clause-sound : goal.returns-then-is_full-clause-sound
returns-then-is_full-clause-sound c = subst IsTable c.self.view_is c.is_full.ensures.sound

pub returns-then-is_full-clause-within : goal.returns-then-is_full-clause-within
returns-then-is_full-clause-within c = subst (AreWithin is_of) c.self.view_is c.self.invariant.4

pub returns-then-count_of-per_client-clause-number : goal.returns-then-count_of-per_client-clause-number
returns-then-count_of-per_client-clause-number c = tt

pub returns-then-count_of-per_client-clause-ok : goal.returns-then-count_of-per_client-clause-ok
returns-then-count_of-per_client-clause-ok c = tt

pub returns-then-count_of-per_client-clause-full : goal.returns-then-count_of-per_client-clause-full
returns-then-count_of-per_client-clause-full c = search rules

pub returns-then-count_of-per_client-clause-client_full : goal.returns-then-count_of-per_client-clause-client_full
returns-then-count_of-per_client-clause-client_full c = search rules

pub returns-then-count_of-per_client-clause-room : goal.returns-then-count_of-per_client-clause-room
returns-then-count_of-per_client-clause-room c = tt

pub returns-then-count_of-per_client-clause-client_room : goal.returns-then-count_of-per_client-clause-client_room
returns-then-count_of-per_client-clause-client_room c = tt

pub returns-then-count_of-per_client-clause-err : goal.returns-then-count_of-per_client-clause-err
returns-then-count_of-per_client-clause-err c = refl

pub returns-then-count_of-per_client-clause-sound : goal.returns-then-count_of-per_client-clause-sound
returns-then-count_of-per_client-clause-sound c = subst IsTable c.self.view_is c.is_full.ensures.sound

pub returns-then-count_of-per_client-clause-within : goal.returns-then-count_of-per_client-clause-within
returns-then-count_of-per_client-clause-within c = subst (AreWithin is_of) c.self.view_is c.self.invariant.4
