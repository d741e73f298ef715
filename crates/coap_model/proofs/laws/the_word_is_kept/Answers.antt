use Rattle.coap_model.proofs.Word.{keeps-word, runs-keep-word}
use Rattle.coap_model.proofs.laws.the_word_is_kept.Goals as goal

pub returns : goal.returns
returns c = record { carried = keeps-word; run = runs-keep-word }
