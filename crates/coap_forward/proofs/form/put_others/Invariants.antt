use Rattle.std.proofs.Common.{◌≡◌, ◌++◌, ◌≤◌, length}
use Rattle.coap_message.specs.Options.{AreOptions, last_number}
use Rattle.coap_message.specs.Spelling.{options_spelling}
use Rattle.coap_forward.specs.Gaps.{others_in}
use Rattle.coap_forward.proofs.form.put_others.Given as goal

abbrev pub invariant-loop-option : goal.invariant-loop-option
invariant-loop-option l = record {
  room : l.out.room ≡ l.fn.out.room;
  longer : length l.fn.out.bytes ≤ length l.out.bytes;
  within : length l.out.bytes ≤ l.room;
  in_order : AreOptions l.last (others_in l.form.request.now.code l.gap l.option-iterator);
  written : l.out.bytes ++ options_spelling l.last (others_in l.form.request.now.code l.gap l.option-iterator) ≡ l.fn.out.bytes ++ options_spelling l.before (others_in l.form.request.now.code l.gap l.form.request.now.options);
  behind : last_number l.last (others_in l.form.request.now.code l.gap l.option-iterator) ≡ last_number l.before (others_in l.form.request.now.code l.gap l.form.request.now.options);
}
