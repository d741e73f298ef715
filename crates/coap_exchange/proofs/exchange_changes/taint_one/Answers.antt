use Rattle.coap_pending.specs.Exchanges.{tainted_by}
use Rattle.coap_pending.proofs.Changes.{changed_at-is}
use Rattle.coap_exchange.proofs.Indexing.{all-can-pass, all-have-passed, spread-passed}
use Rattle.endpoint_counts.proofs.Indexing.{moves-changed}
use Rattle.coap_exchange.proofs.exchange_changes.taint_one.Goals as goal

pub rekey-requires : goal.rekey-requires
rekey-requires c =
    let is = c.keys_at-was.ensures.sound in
    rw (c.keys_at-was.ensures.exact, c.keys_at.ensures.exact, c.taint.ensures)
    (all-can-pass c.args.number c.args.exchanges.now.limit c.args.exchanges.now.items _ c.args.index.now (moves-changed c.args.number (tainted_by c.args.target.now) c.args.exchanges.now is) (changed_at-is c.args.number (tainted_by c.args.target.now) c.args.exchanges.now is).within c.requires)

pub returns-clause-secret : goal.returns-clause-secret
returns-clause-secret c = c.rekey.ensures.exact.secret

pub returns-clause-indexed : goal.returns-clause-indexed
returns-clause-indexed c =
    let is = c.keys_at-was.ensures.sound in
    let passed = rw (c.keys_at-was.ensures.exact, c.keys_at.ensures.exact, c.taint.ensures) at c.rekey.ensures.exact in
    rw c.taint.ensures (all-have-passed c.args.number c.args.exchanges.now.limit c.args.exchanges.now.items _ c.args.index.now c.rekey.new.self (moves-changed c.args.number (tainted_by c.args.target.now) c.args.exchanges.now is) c.requires passed (changed_at-is c.args.number (tainted_by c.args.target.now) c.args.exchanges.now is).rising)

pub returns-clause-spread : goal.returns-clause-spread
returns-clause-spread c = λ seed is. spread-passed seed c.args.number c.args.index.now c.rekey.new.self _ _ is c.rekey.ensures.exact
