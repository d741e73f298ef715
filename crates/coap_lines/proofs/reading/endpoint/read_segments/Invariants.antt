use Rattle.std.proofs.Common.{◌≡◌, ◌==◌, ◌++◌, length, map, take, option_map}
use Rattle.std.specs.List.{slice_split}
use Rattle.std.specs.Option.{option_copied}
use Rattle.coap_target.specs.RouteTexts.{all_of}
use Rattle.coap_uri.specs.Uri.{parts_left}
use Rattle.coap_lines.specs.Numbers.{group_of}
use Rattle.coap_lines.proofs.reading.endpoint.read_segments.Given as goal

-- what was read so far is a prefix of all segments, and the rest is read after it
abbrev pub invariant-loop-segment : goal.invariant-loop-segment
invariant-loop-segment l = (all_of (map group_of (slice_split (λ b. b == 58) l.fn.text)) ≡ option_map (λ more. take l.segment-index l.segment-items ++ more) (all_of (map group_of (parts_left 58 (option_copied l.rest))))) × (length l.segment-items ≡ 8)
