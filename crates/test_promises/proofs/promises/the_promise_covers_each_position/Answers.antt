use Rattle.test_promises.proofs.promises.the_promise_covers_each_position.Goals as goal

pub returns : goal.returns
returns c =
    record {
      limits = λ history w word. word.within;
      hits = λ history w word. word.from_cache;
      duplicates = λ history w word. word.duplicates;
    }
