use Rattle.std.proofs.Common.{◌≡◌, Some, option_map, true, false, sym, ap, subst, ◌∙◌}
use Rattle.coap_dedup.specs.declared.record.Record.{Record}
use Rattle.coap_dedup.specs.Lists.{is_living}
use Rattle.coap_dedup.specs.Records.{Records}
use Rattle.coap_dedup.proofs.Apart.{record_of-dead, record_of-living, record_of-none}
use Rattle.coap_dedup.proofs.records.Records.seen.Goals as goal
use Rattle.coap_dedup.proofs.records.Records.seen.Goals.{in_default-via-in-Some+else-is_living, in_default-via-in_default}

pub returns-in-Some-clause-exact : goal.returns-in-Some-clause-exact
returns-in-Some-clause-exact c =
    let t = c.args.self.now in
    let lives : is_living t.lifetime c.args.now c.in-Some.record.now ≡ true =
    subst (λ (s : Records). is_living s.lifetime c.args.now c.in-Some.record.now ≡ true) c.self.view_is (sym c.is_living.ensures ∙ c.if-is_living.true) in
    ap Some c.reply.ensures ∙ sym (ap (option_map (λ (r : Record). r.reply)) (record_of-living t.lifetime c.args.now c.args.from c.args.id t.items c.in-Some.record.now (sym c.in-Some.ensures.found) lives))

pub returns-in_default-clause-exact : goal.returns-in_default-clause-exact
returns-in_default-clause-exact c =
    let t = c.args.self.now in
    elim c.in_default.branch [
      | in_default-via-in-Some+else-is_living w ↦
          let dead : is_living t.lifetime c.args.now w.in-Some.record.now ≡ false =
          subst (λ (s : Records). is_living s.lifetime c.args.now w.in-Some.record.now ≡ false) c.self.view_is (sym w.is_living.ensures ∙ w.if-is_living.false) in
          sym (ap (option_map (λ (r : Record). r.reply)) (record_of-dead t.lifetime c.args.now c.args.from c.args.id t.items w.in-Some.record.now c.record.ensures.sound.apart (sym w.in-Some.ensures.found) dead))
      | in_default-via-in_default w ↦ sym (ap (option_map (λ (r : Record). r.reply)) (record_of-none t.lifetime c.args.now c.args.from c.args.id t.items (sym w.in_default.ensures.found)))
    ]
