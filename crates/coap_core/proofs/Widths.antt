-- How many bytes messages take.
use Rattle.std.proofs.Common.{◌≡◌, ℕ, List, [], length, Option, Result, Ok, Err, sym, arith}
use Rattle.std.specs.Result.{is_ok}
use Rattle.std.proofs.lemmas.Bool.{le-leb, lt-leb}
use Rattle.coap_message.specs.declared.error.Full.{Full}
use Rattle.coap_message.specs.Message.{Message}
use Rattle.coap_message.specs.Datagram.{Datagram, Appends, holding}
use Rattle.coap_message.specs.Spelling.{spelling}
use Rattle.coap_endpoint.specs.declared.target.Target.{Target}
use Rattle.coap_forward.specs.Forms.{forwarded, form_fits}
use Rattle.coap_model.proofs.Verdicts.{form-length}

-- a form fits with any token of eight bytes where it does with zeros
pub form-fits : (old new : Datagram) (room : ℕ) (token : List ℕ) (t : Target) (tag : Option (List ℕ)) (m : Message) (r : Result (Unit {0}) Full) → length token ≡ 8 → Appends (holding old []) new room (spelling (forwarded token t tag m 0)) r → is_ok r ≡ form_fits room t tag m
unfolding form_fits
form-fits old new room token t tag m (Ok u) eight a = sym (le-leb _ _ (omega (arith, a.1, form-length token t tag m, eight)))
form-fits old new room token t tag m (Err e) eight a = sym (lt-leb _ _ (omega (arith, a.1, form-length token t tag m, eight)))
