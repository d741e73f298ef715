use Rattle.coap_model.proofs.ForgedDeliveries.{for_nobody, for_another, again, nothing_got, to_another, untimely, out_of_turn, early, elsewhere, another_age, con_for_non, non_for_con}
use Rattle.coap_model.proofs.ForgedClosings.{by_its_id, by_another_id, by_another_client}
use Rattle.coap_model.proofs.RightDelivery.{is_right, is_right_in_con}
use Rattle.coap_model.proofs.laws.forged_deliveries_are_refused.Goals as goal

pub returns : goal.returns
returns c = record { as_it_is = is_right; in_con = is_right_in_con; for_nobody = for_nobody; for_another = for_another; again = again; nothing_got = nothing_got; to_another = to_another; untimely = untimely; out_of_turn = out_of_turn; early = early; elsewhere = elsewhere; another_age = another_age; con_for_non = con_for_non; non_for_con = non_for_con; by_its_id = by_its_id; by_another_id = by_another_id; by_another_client = by_another_client }
