use Rattle.std.proofs.Common.{◌∙◌, inl, inr, refl, sym}
use Rattle.coap_core.proofs.Undoing.{err-holds}
use Rattle.coap_recording.proofs.Adding.{fails-so, ok-holds, still-works}
use Rattle.coap_recording.proofs.recording.Recording.write.Goals.{then-is_err, else-is_err}
use Rattle.coap_recording.proofs.recording.Recording.write.Goals as goal

pub returns : goal.returns
returns g c =
    elim c.if-is_err.branch [
      | then-is_err w ↦
          let err = sym c.is_err.ensures.value ∙ w.if-is_err.true in
          let (done, rest, split, some, wrote) = err-holds c.write_all.result err (rw c.deref.ensures.value at c.write_all.ensures.front) in
          let failed = fails-so _ done rest _ _ c.write_all.result (rw c.deref.ensures.value at c.write_all.ensures.failed) err split some in
          rw (w.self-inside-is, c.clear.ensures.items, ← c.self.view_is) (inr (done, rest, split, some, wrote, failed, rw failed refl))
      | else-is_err w ↦
          let ok = sym c.is_err.ensures.value ∙ w.if-is_err.false in
          rw (w.self-inside-is, c.clear.ensures.items, ← c.self.view_is)
          (inl (
            ok-holds c.write_all.result ok (rw c.deref.ensures.value at c.write_all.ensures.all),
            still-works _ _ _ c.write_all.result (rw c.deref.ensures.value at c.write_all.ensures.failed) ok,
            refl,
          ))
    ]
