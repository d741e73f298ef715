use Rattle.coap_model.proofs.RoomForOthers.{leaves-room, runs-leave-room}
use Rattle.coap_model.proofs.laws.one_client_leaves_room_for_others.Goals as goal

pub returns : goal.returns
returns c =
    record {
      carried = leaves-room;
      run = runs-leave-room;
      to_join = λ setting past now client own shared. record { shared = shared; own = own };
      to_open = λ setting past now client own shared. record { shared = shared; own = own };
    }
