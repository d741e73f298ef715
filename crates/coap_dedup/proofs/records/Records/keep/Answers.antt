use Rattle.std.proofs.Common.{refl, sym, subst, ◌∙◌}
use Rattle.std.proofs.lemmas.Bool.{eqb-true}
use Rattle.coap_dedup.specs.Records.{AreRecords, living_of}
use Rattle.coap_dedup.proofs.Kept.{client_room-there, room-there}
use Rattle.coap_dedup.proofs.records.Records.keep.Goals as goal

pub keep_in_room-requires-clause-room : goal.keep_in_room-requires-clause-room
keep_in_room-requires-clause-room c = room-there c.args.now c.args.self.now (subst AreRecords c.self.view_is c.self.invariant.are) (sym c.is_full.ensures.exact ∙ c.if-is_full.false)

pub keep_in_room-requires-clause-client_room : goal.keep_in_room-requires-clause-client_room
keep_in_room-requires-clause-client_room c = client_room-there c.args.from c.args.now c.args.self.now (subst AreRecords c.self.view_is c.self.invariant.are) (sym c.is_client_full.ensures.exact ∙ c.if-is_client_full.false)

pub returns-then-is_client_full-clause-client_full : goal.returns-then-is_client_full-clause-client_full
returns-then-is_client_full-clause-client_full c =
    let many = eqb-true (living_of c.args.from c.args.now c.args.self.now) c.args.self.now.per_client (sym c.is_client_full.ensures.exact ∙ c.if-is_client_full.true) in
    (λ e. (room-there c.args.now c.args.self.now (subst AreRecords c.self.view_is c.self.invariant.are) (sym c.is_full.ensures.exact ∙ c.if-is_full.false), many), λ both. refl)

pub returns-clause-client_room : goal.returns-clause-client_room
returns-clause-client_room c = client_room-there c.args.from c.args.now c.args.self.now (subst AreRecords c.self.view_is c.self.invariant.are) (sym c.is_client_full.ensures.exact ∙ c.if-is_client_full.false)
