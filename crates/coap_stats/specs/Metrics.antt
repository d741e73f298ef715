-- The counts as metrics, in the text format that Prometheus reads: lines, and what is written of the
-- whole proxy.
use Rattle.std.specs.Prelude.{ℕ, ◌/◌, List, ◌++◌, codes}
use Rattle.std.specs.Fmt.{decimal}
use Rattle.std.specs.List.{flat_map}
use Rattle.coap_store.specs.declared.evictions.Evictions.{Evictions}
use Rattle.coap_counts.specs.declared.openings.OpeningCounts.{OpeningCounts}
use Rattle.coap_counts.specs.declared.requests.RequestCounts.{RequestCounts}
use Rattle.coap_stats.specs.declared.metrics.Metric as program
use Rattle.coap_stats.specs.declared.tally.Tally.{Tally}
use Rattle.coap_stats.specs.Labels.{Part, All, label_text, part_text}
use Rattle.coap_stats.specs.Line.{Fill, Word, answer_words, opening_words, refusal_words, request_words}

-- ---- metrics

pub record Metric : Type 0 where
  pub name : List ℕ
  pub kind : List ℕ
  pub help : List ℕ

-- what only grows, and what goes up and down
abbrev pub counter : List ℕ → List ℕ → Metric
counter name help = record { name = name; kind = codes "counter"; help = help }

abbrev pub gauge : List ℕ → List ℕ → Metric
gauge name help = record { name = name; kind = codes "gauge"; help = help }

abbrev pub uptime : Metric
uptime =
    gauge (codes "coap_proxyd_uptime_seconds")
    (codes "Full seconds since the start.")

abbrev pub received : Metric
received =
    counter (codes "coap_proxyd_datagrams_received_total")
    (codes "Datagrams that came.")

abbrev pub sent : Metric
sent =
    counter (codes "coap_proxyd_datagrams_sent_total")
    (codes "Datagrams that the system took.")

abbrev pub send_faults : Metric
send_faults =
    counter (codes "coap_proxyd_send_faults_total")
    (codes "Datagrams that the system didn't take.")

abbrev pub lost : Metric
lost =
    counter (codes "coap_proxyd_lost_turns_total")
    (codes "Turns that ran out of memory, so that nothing was done.")

abbrev pub resent : Metric
resent =
    counter (codes "coap_proxyd_retransmissions_total")
    (codes "Requests and answers that were sent again.")

abbrev pub gave_up : Metric
gave_up =
    counter (codes "coap_proxyd_given_up_total")
    (codes "Requests without an answer, and answers without an acknowledgement.")

abbrev pub requests : Metric
requests =
    counter (codes "coap_proxyd_requests_total")
    (codes "Messages by what became of them.")

abbrev pub answers : Metric
answers =
    counter (codes "coap_proxyd_answers_total")
    (codes "Responses of origin servers, Resets among them, by what the cache did with them.")

abbrev pub opened : Metric
opened =
    counter (codes "coap_proxyd_opened_total")
    (codes "Exchanges that were opened, by what the cache had for the request.")

abbrev pub evicted : Metric
evicted =
    counter (codes "coap_proxyd_evicted_entries_total")
    (codes "Entries of the cache that made room for others.")

abbrev pub evicted_fresh : Metric
evicted_fresh =
    counter (codes "coap_proxyd_evicted_fresh_entries_total")
    (codes "Those of them that were still fresh.")

abbrev pub receive_buffer : Metric
receive_buffer =
    gauge (codes "coap_proxyd_receive_buffer_bytes")
    (codes "Room for datagrams that came and weren't read yet, as the system gave it.")

abbrev pub held : Metric
held =
    gauge (codes "coap_proxyd_held")
    (codes "How much the proxy holds.")

abbrev pub limit : Metric
limit =
    gauge (codes "coap_proxyd_limit")
    (codes "How much the proxy may hold.")

-- a metric as the program has it
abbrev pub metric_seen : program.Metric → Metric
metric_seen m = record { name = m.name.now; kind = m.kind.now; help = m.help.now }

-- ---- lines

-- what describes a metric
abbrev pub head_text : Metric → List ℕ
head_text m =
    codes "# HELP " ++ m.name ++ codes " " ++ m.help ++ codes "\n# TYPE " ++ m.name
    ++ codes " " ++ m.kind ++ codes "\n"

-- the name of a metric, with the label that tells a proxy from others on its host
abbrev pub listen_text : List ℕ → List ℕ → List ℕ
listen_text listen name = name ++ codes "{listen=\"" ++ listen ++ codes "\""

-- a metric that has one number
abbrev pub metric_text : List ℕ → Metric → ℕ → List ℕ
metric_text listen m number =
    head_text m ++ listen_text listen m.name ++ codes "} " ++ decimal number ++ codes "\n"

-- the only number of a metric that is about a part, and what stands before it
abbrev pub name_text : List ℕ → List ℕ → Part → List ℕ
name_text listen name part = listen_text listen name ++ part_text part ++ codes "} "

abbrev pub number_text : List ℕ → List ℕ → Part → ℕ → List ℕ
number_text listen name part number =
    name_text listen name part ++ decimal number ++ codes "\n"

-- one of several numbers of a metric that are about a part, told apart by a label
abbrev pub sample_text : List ℕ → List ℕ → Part → List ℕ → Word → List ℕ
sample_text listen name part label word =
    listen_text listen name ++ part_text part ++ label_text label word.0 ++ codes "} "
    ++ decimal word.1 ++ codes "\n"

abbrev pub samples_text : List ℕ → List ℕ → Part → List ℕ → List Word → List ℕ
samples_text listen name part label words =
    flat_map (sample_text listen name part label) words

-- what became of requests
abbrev pub requests_text : List ℕ → List ℕ → Part → RequestCounts → List ℕ
requests_text listen name part n =
    samples_text listen name part (codes "outcome") (request_words n)
    ++ samples_text listen name part (codes "outcome") (refusal_words n.refused)

-- ---- what is written

-- what has one number
abbrev pub traffic_text : List ℕ → Tally → List ℕ
traffic_text listen n =
    metric_text listen uptime (n.last / 1000) ++ metric_text listen received n.received
    ++ metric_text listen sent n.sent ++ metric_text listen send_faults n.send_faults
    ++ metric_text listen lost n.lost ++ metric_text listen resent n.resent
    ++ metric_text listen gave_up n.gave_up

-- what became of messages, and what the cache did with answers
abbrev pub outcomes_text : List ℕ → Tally → List ℕ
outcomes_text listen n =
    head_text requests ++ requests_text listen requests.name All n.requests ++ head_text answers
    ++ samples_text listen answers.name All (codes "storing") (answer_words n.answers)

-- what the cache evicted, and why exchanges were opened
abbrev pub cache_text : List ℕ → Evictions → OpeningCounts → List ℕ
cache_text listen e o =
    metric_text listen evicted e.entries ++ metric_text listen evicted_fresh e.fresh
    ++ head_text opened
    ++ samples_text listen opened.name All (codes "stored") (opening_words o)

-- how much the proxy holds of one kind, and how much it may hold
abbrev pub count_text : List ℕ → Fill → List ℕ
count_text listen s = sample_text listen held.name All (codes "what") (s.key, s.count)

abbrev pub limit_text : List ℕ → Fill → List ℕ
limit_text listen s = sample_text listen limit.name All (codes "what") (s.key, s.limit)

-- of each kind
abbrev pub held_text : List ℕ → List Fill → List ℕ
held_text listen kinds =
    head_text held ++ flat_map (count_text listen) kinds ++ head_text limit
    ++ flat_map (limit_text listen) kinds
