-- A Message ID that is given out twice, at the edge of its time.
use Rattle.std.proofs.Common.{◌≡◌, inl, inr, ℕ, [], ◌∷◌, length, refl, sym, ap, ◌∙◌, arith}
use Rattle.coap_message.specs.declared.code.TheConstants.Code.{NOT_FOUND}
use Rattle.coap_message.specs.Reading.{read_message, body_at, options_within, option_at, extended}
use Rattle.coap_message.specs.Spelling.{Spells}
use Rattle.coap_message.proofs.WholeMessages.{read_is}
use Rattle.coap_forward.specs.Messages.{own_reply}
use Rattle.coap_model.specs.History.{Gives, Position}
use Rattle.coap_model.specs.LimitExamples as limited
use Rattle.coap_model.specs.MessageIds.{IdsDiffer}
use Rattle.coap_model.specs.WordExamples.{refused_with_1}
use Rattle.coap_model.proofs.CacheExamples.{are-bytes}
use Rattle.coap_model.proofs.Positions.{here}
use Rattle.test_promises.specs.Shares.{refusal}

-- the reply that a request gets
refusal_spelled : Spells (limited.not_found 0 1) (own_reply NOT_FOUND [] 1 [])
unfolding read_message body_at options_within option_at extended
refusal_spelled = read_is (limited.not_found 0 1) _ (are-bytes (limited.not_found 0 1) refl) refl

-- it gives out the Message ID 1
gives_1 : (now : ℕ) → Gives 1 (refused_with_1 now)
gives_1 now = record { gives = refl; message = own_reply NOT_FOUND [] 1 []; spells = refusal_spelled; id_is = refl }

-- after 246,999 milliseconds that is too soon
pub too_soon : ¬ IdsDiffer (refusal 246999 ∷ refusal 0 ∷ [])
too_soon ids =
    let same = ids (here [] (refusal 0)) (here (refusal 0 ∷ []) (refusal 246999)) 1 (inr (inl refl)) (inl refl) (gives_1 0) (gives_1 246999) (omega arith) (omega arith) in
    let apart : 0 ≡ 1 = ap (λ (p : Position). length p.before) same in
    omega (arith, apart)

-- after 247,000 it isn't
pub late_enough : IdsDiffer (refusal 247000 ∷ refusal 0 ∷ [])
late_enough p q id (inl e) (inl f) gives_p gives_q order soon = sym e ∙ f
late_enough p q id (inr (inl e)) (inr (inl f)) gives_p gives_q order soon = sym e ∙ f
late_enough p q id (inl e) (inr (inl f)) gives_p gives_q order soon =
    let at_p : 247000 ≡ p.action.observation.now = ap (λ (r : Position). r.action.observation.now) e in
    let at_q : 0 ≡ q.action.observation.now = ap (λ (r : Position). r.action.observation.now) f in
    absurd (omega (arith, at_p, at_q, order))
late_enough p q id (inr (inl e)) (inl f) gives_p gives_q order soon =
    let at_p : 0 ≡ p.action.observation.now = ap (λ (r : Position). r.action.observation.now) e in
    let at_q : 247000 ≡ q.action.observation.now = ap (λ (r : Position). r.action.observation.now) f in
    absurd (omega (arith, at_p, at_q, soon))
late_enough p q id (inr (inr none)) at_q gives_p gives_q order soon = absurd none
late_enough p q id (inl e) (inr (inr none)) gives_p gives_q order soon = absurd none
late_enough p q id (inr (inl e)) (inr (inr none)) gives_p gives_q order soon = absurd none
