use Rattle.std.proofs.Common.{◌≡◌, ◌++◌, ◌≤◌, length, map}
use Rattle.std.specs.List.{AllByRecursion}
use Rattle.coap_message.specs.Options.{last_number, option_of}
use Rattle.coap_message.specs.Spelling.{options_spelling}
use Rattle.coap_endpoint.specs.Target.{IsShort}
use Rattle.coap_forward.specs.Gaps.{values_left}
use Rattle.coap_forward.proofs.form.put_values.Given as goal

abbrev pub invariant-values : goal.invariant-values
invariant-values l = record {
  room : l.out.room ≡ l.fn.out.room;
  longer : length l.fn.out.bytes ≤ length l.out.bytes;
  written : l.out.bytes ++ options_spelling l.last (map (option_of l.number) (values_left l.values)) ≡ l.fn.out.bytes ++ options_spelling l.before (map (option_of l.number) (values_left l.fn.values));
  within : length l.out.bytes ≤ l.room;
  above : l.last ≤ l.number;
  segments : AllByRecursion IsShort (values_left l.values);
  behind : last_number l.last (map (option_of l.number) (values_left l.values)) ≡ last_number l.before (map (option_of l.number) (values_left l.fn.values));
}

abbrev pub decreases-values : goal.decreases-values
decreases-values l = length (values_left l.values)
