use Rattle.std.proofs.lemmas.Result.{IfOk-weaker}
use Rattle.coap_config.proofs.words.read_texts.Goals as goal

pub returns : goal.returns
returns c =
    IfOk-weaker c.read_text-6.result _ _
    (λ _ last numbers. record {
      address = c.in_ok-read_text.ensures;
      port = numbers.port;
      names = c.in_ok-read_text-2.ensures;
      config = c.in_ok-read_text-3.ensures;
      map = c.in_ok-read_text-4.ensures;
      replay = numbers.replay;
      first_id = numbers.first_id;
      salt = numbers.salt;
      turns = numbers.turns;
      recording = c.in_ok-read_text-5.ensures;
      explain = numbers.explain;
      stats = numbers.stats;
      stats_file = last;
      log = numbers.log;
      record_bytes = numbers.record_bytes;
      receive_buffer = numbers.receive_buffer;
    })
    c.read_text-6.ensures
