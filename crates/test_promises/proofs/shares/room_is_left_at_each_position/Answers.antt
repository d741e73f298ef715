use Rattle.test_promises.proofs.shares.room_is_left_at_each_position.Goals as goal

pub returns : goal.returns
returns c =
    record {
      remembered = λ history w left. left.remembered;
      served = λ history w left. left.served;
      remembered_of_few = λ history w left. left.remembered_of_few;
      served_of_few = λ history w left. left.served_of_few;
    }
