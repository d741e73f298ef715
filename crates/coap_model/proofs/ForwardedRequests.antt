-- What a forwarded request has of the client's request.
use Rattle.std.proofs.Common.{◌≡◌, List, sym, ap, ◌∙◌}
use Rattle.coap_message.specs.Message.{Message}
use Rattle.coap_message.specs.Spelling.{Spells}
use Rattle.coap_message.proofs.WholeMessages.{one_message}
use Rattle.coap_target.specs.Routes.{AreRoutes}
use Rattle.coap_model.specs.Setting.{Setting}
use Rattle.coap_forward.specs.Messages.{token_of}
use Rattle.coap_forward.specs.Forms.{forwarded, tag_for}
use Rattle.coap_forward.proofs.Tagging.{tag_for-is, tag_for-other}
use Rattle.coap_model.specs.Cached.{kept_for}
use Rattle.coap_model.specs.Keys.{key_sent}
use Rattle.coap_model.specs.History.{Action}
use Rattle.coap_model.specs.Justified.{IsForwarding}
use Rattle.coap_model.proofs.Keys.{key-forwarded}
use Rattle.coap_model.proofs.Verdicts.{askable}

-- the request that is forwarded for an exchange has the cache key of the client's request
pub key-kept : (setting : Setting) (past : List Action) (d : Action) (f : IsForwarding setting past d) (m : Message) → AreRoutes setting.routes → Spells d.observation.bytes m → key_sent f.to_send.key.target.at m ≡ f.to_send.key
key-kept setting past d f m routes spells =
    let key = f.to_send.key in
    let request = f.to_send.opened.request in
    let may = askable setting.routes request routes key f.to_send.verdict in
    let token = token_of setting.salt f.exchange in
    let kept = kept_for key f.former in
    let tag = tag_for setting.limits.datagram key.target request kept in
    let same = one_message d.observation.bytes m (forwarded token key.target tag request f.id) spells f.tells.spells in
    ap (key_sent key.target.at) same ∙ key-forwarded token key.target tag request f.id may.sound may.screened (tag_for-is setting.limits.datagram key.target request kept) (tag_for-other setting.limits.datagram key.target request kept) ∙ sym may.key_is
