use Rattle.test_promises.proofs.promises.the_promise_covers_the_whole.Goals as goal

pub returns : goal.returns
returns c =
    record {
      history = λ history w word. word.told;
      justified = λ history w word. word.justified;
      ids = λ history w word. word.ids;
      store = λ history w word. word.store;
      entries = λ history w word. word.entries;
      bytes = λ history w word. word.cached_bytes;
    }
