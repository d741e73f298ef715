use Rattle.std.proofs.Common.{map, rules, string_bytes}
use Rattle.std.proofs.lemmas.Result.{err_from_is_err_and}
use Rattle.coap_recording.proofs.Heading.{err-as, long-rest, skips}
use Rattle.coap_recording.proofs.header.header_of.Goals as goal

pub returns-clause-skipped : goal.returns-clause-skipped
returns-clause-skipped c =
    skips c.args.version.now c.args.start (map string_bytes c.args.words.now) c.args.config.now c.put_config.new.out.items c.laws.ensures.id c.laws.ensures.salt (search rules) (search rules) c.in_ok-put_config.ensures.short

pub returns-in_err-put_config-clause-long : goal.returns-in_err-put_config-clause-long
returns-in_err-put_config-clause-long c = λ long.
    let p = err_from_is_err_and c.from_residual-in_err-put_config.result c.from_residual-in_err-put_config.ensures.1 in
    long-rest c.args.version.now c.args.start (map string_bytes c.args.words.now) c.args.config.now (c.in_err-put_config.ensures.long (err-as _ _ _ _ _ (rw (p.1, p.2) at long)))
