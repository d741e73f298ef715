use Rattle.coap_target.proofs.Winners.{map_of-wins, map_of-none}
use Rattle.coap_target.proofs.laws.the_longest_prefix_wins.Goals as goal

pub returns : goal.returns
returns c = record { wins = map_of-wins; none = map_of-none }
