-- How long origins take to answer, in milliseconds.
use Rattle.std.specs.Prelude.{ℕ, ◌+◌, nat_le, true, List, [], ◌∷◌, map}
use Rattle.coap_counts.specs.Requests.{capped, more}
use Rattle.coap_counts.specs.declared.times.AnswerTimes.{AnswerTimes}
use Rattle.coap_counts.specs.declared.times.Bucket.{Bucket}

-- the times within which answers are counted: from 5 milliseconds to a minute
abbrev pub times : List ℕ
times =
    5 ∷ 10 ∷ 25 ∷ 50 ∷ 100 ∷ 250 ∷ 500 ∷ 1000 ∷ 2500 ∷ 5000 ∷ 10000 ∷ 30000 ∷ 60000 ∷ []

abbrev pub empty_bucket : ℕ → Bucket
empty_bucket within = record { within = within; count = 0 }

-- an answer that took so long counts where it came within the time
abbrev pub with_time : ℕ → Bucket → Bucket
with_time took b = record b { count = more (nat_le took b.within) b.count }

abbrev pub no_times : AnswerTimes
no_times = record { buckets = map empty_bucket times; count = 0; sum = 0 }

abbrev pub with_answer_time : ℕ → AnswerTimes → AnswerTimes
with_answer_time took n = record {
  buckets = map (with_time took) n.buckets;
  count = more true n.count;
  sum = capped (n.sum + took);
}
