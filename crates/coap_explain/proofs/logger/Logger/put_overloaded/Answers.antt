use Rattle.std.proofs.Common.{[], ◌∷◌, codes, refl}
use Rattle.coap_message.specs.Codes.{code_of}
use Rattle.coap_log.specs.Line.{Field}
use Rattle.coap_explain.proofs.Logging.{adds-last, adds-more}
use Rattle.coap_explain.specs.Logged.{lacks, overloaded, peer, target}
use Rattle.coap_explain.specs.Words.{code_text}
use Rattle.coap_explain.proofs.logger.Logger.put_overloaded.Goals as goal

pub returns : goal.returns
returns g c =
    let old = c.args.self.now.line in
    let client = peer (codes "client") c.args.client in
    let code : Field = (codes "code", code_text (code_of 5 3)) in
    let to = target c.args.self.now.target in
    let cause : Field = (codes "cause", codes "room") in
    let two = adds-more old c.put_peer.new.self c.put_code.new.self (client ∷ []) (code ∷ []) c.in_ok-put_peer.ensures c.in_ok-put_code.ensures in
    let three = adds-more old c.put_code.new.self c.put_target.new.self (client ∷ code ∷ []) (to ∷ []) two c.in_ok-put_target.ensures in
    let four = adds-more old c.put_target.new.self c.put_word.new.self (client ∷ code ∷ to ∷ []) (cause ∷ []) three c.in_ok-put_word.ensures in
    adds-last c.put_lacks.result old c.put_word.new.self c.put_lacks.new.self (client ∷ code ∷ to ∷ cause ∷ []) (lacks c.args.lacks.now) (overloaded to c.args.client c.args.lacks.now) four c.put_lacks.ensures refl
