-- The metrics of maps, of origins, and of those who have most of a full table; and all metrics.
use Rattle.std.specs.Prelude.{ℕ, ◌-◌, ◌/◌, ◌%◌, List, [], ◌∷◌, ◌++◌, codes, map, zip, Option, Some, None}
use Rattle.std.specs.Fmt.{decimal}
use Rattle.std.specs.List.{flat_map}
use Rattle.std.specs.Option.{option_map_or}
use Rattle.coap_endpoint.specs.declared.endpoint.Endpoint.{Endpoint}
use Rattle.coap_limits.specs.Limits.{Limits}
use Rattle.coap_model.specs.declared.report.Counts.{Counts}
use Rattle.coap_counts.specs.Maps.{Ways}
use Rattle.coap_counts.specs.Origins.{Origins}
use Rattle.coap_counts.specs.declared.maps.MapCounts.{MapCounts}
use Rattle.coap_counts.specs.declared.origins.OriginCounts.{OriginCounts}
use Rattle.coap_counts.specs.declared.origins.OriginPlace.{OriginPlace}
use Rattle.coap_counts.specs.declared.requests.RequestCounts.{RequestCounts}
use Rattle.coap_counts.specs.declared.times.AnswerTimes.{AnswerTimes}
use Rattle.coap_core.specs.Holders.{Holders}
use Rattle.coap_core.specs.declared.holders.Holder.{Holder}
use Rattle.coap_stats.specs.Labels.{Part, Map, Way, Origin, Others, holder_part}
use Rattle.coap_stats.specs.Line.{Word, class_words, fills}
use Rattle.coap_stats.specs.Metrics.{Metric, cache_text, counter, gauge, head_text, held_text, name_text, number_text, outcomes_text, requests_text, sample_text, samples_text, traffic_text}
use Rattle.coap_stats.specs.declared.series.HolderSeries.{HolderSeries}
use Rattle.coap_stats.specs.declared.series.HolderSeries.TheVariants as holders
use Rattle.coap_stats.specs.declared.series.OriginSeries.{OriginSeries}
use Rattle.coap_stats.specs.declared.series.OriginSeries.TheVariants as origins
use Rattle.coap_stats.specs.declared.statistics.Statistics.{Statistics}

-- ---- series

-- a metric, and what is written of one of the parts that have numbers of it
pub record Series (P : Type 0) : Type 0 where
  pub metric : Metric
  pub text : P → List ℕ

-- what describes the metric, once, and then what is written of each part
abbrev pub series_text : {P : Type 0} → List P → Series P → List ℕ
series_text parts s = head_text s.metric ++ flat_map s.text parts

-- ---- maps

abbrev pub map_requests : Metric
map_requests =
    counter (codes "coap_proxyd_map_requests_total")
    (codes "Requests by the map whose prefix they have, and what became of them.")

-- the ways that requests go, each with its counts: the prefixes of maps, and the three others
abbrev pub by_prefix : MapCounts → Part × RequestCounts
by_prefix m = (Map m.prefix, m.requests)

abbrev pub other_ways : Ways → List (Part × RequestCounts)
other_ways w =
    (Way (codes "forward"), w.forward) ∷ (Way (codes "next"), w.next)
    ∷ (Way (codes "none"), w.unmapped) ∷ []

abbrev pub way_text : List ℕ → Part × RequestCounts → List ℕ
way_text listen (part, n) = requests_text listen map_requests.name part n

abbrev pub maps_text : List ℕ → Ways → List ℕ
maps_text listen w =
    series_text (map by_prefix w.maps ++ other_ways w)
    (record { metric = map_requests; text = way_text listen })

-- ---- origins

abbrev pub origin_sent : Metric
origin_sent =
    counter (codes "coap_proxyd_origin_requests_total")
    (codes "Requests that an origin server was sent.")

abbrev pub origin_resent : Metric
origin_resent =
    counter (codes "coap_proxyd_origin_retransmissions_total")
    (codes "Requests that an origin server was sent again.")

abbrev pub origin_gave_up : Metric
origin_gave_up =
    counter (codes "coap_proxyd_origin_given_up_total")
    (codes "Requests that an origin server didn't answer.")

abbrev pub origin_answers : Metric
origin_answers =
    counter (codes "coap_proxyd_origin_answers_total")
    (codes "Responses of an origin server, by their class.")

abbrev pub origin_silence : Metric
origin_silence =
    gauge (codes "coap_proxyd_origin_seconds_since_answer")
    (codes "Full seconds since the last response or Reset of an origin server.")

abbrev pub origin_times : Metric
origin_times = record {
  name = codes "coap_proxyd_origin_answer_seconds";
  kind = codes "histogram";
  help =
      codes "How long an origin server took to respond, from the first transmission.";
}

-- an origin, or those that aren't counted one by one, with the counts
abbrev pub OriginPart : Type 0
OriginPart = Part × OriginCounts

-- the origin at a place stands before those behind it; at a free place there are none any more
abbrev pub before : Option Endpoint → OriginCounts → List OriginPart → List OriginPart
before None n behind = []
before (Some at) n behind = (Origin at, n) ∷ behind

-- The origins that are counted one by one, in the order of their places. Where no place is free,
-- there may be others, and all of these together stand behind them.
abbrev pub origin_parts : List OriginPlace → OriginCounts → List OriginPart
origin_parts [] others = (Others, others) ∷ []
origin_parts (place ∷ places) others = before place.at place.counts (origin_parts places others)

-- a number of milliseconds, in seconds
abbrev pub seconds_text : ℕ → List ℕ
seconds_text ms =
    decimal (ms / 1000) ++ codes "." ++ decimal (ms % 1000 / 100)
    ++ decimal (ms % 1000 / 10 % 10) ++ decimal (ms % 1000 % 10)

-- the ends of the buckets of a histogram, in seconds
abbrev pub ends : List (List ℕ)
ends =
    codes "0.005" ∷ codes "0.01" ∷ codes "0.025" ∷ codes "0.05" ∷ codes "0.1" ∷ codes "0.25"
    ∷ codes "0.5" ∷ codes "1" ∷ codes "2.5" ∷ codes "5" ∷ codes "10" ∷ codes "30"
    ∷ codes "60" ∷ []

-- how many answers came within each of these times, and how many came at all
abbrev pub bucket_words : AnswerTimes → List Word
bucket_words n = zip ends (map (λ b. b.count) n.buckets)

-- the line of a number of milliseconds, in seconds
abbrev pub sum_text : List ℕ → List ℕ → Part → ℕ → List ℕ
sum_text listen name part ms = name_text listen name part ++ seconds_text ms ++ codes "\n"

-- A histogram has three names: that of its buckets, of which each has those that the shorter ones
-- have; that of the sum of all times; and that of their number.
abbrev pub times_text : List ℕ → Part → AnswerTimes → List ℕ
times_text listen part n =
    samples_text listen (origin_times.name ++ codes "_bucket") part (codes "le") (bucket_words n)
    ++ sample_text listen (origin_times.name ++ codes "_bucket") part (codes "le")
    (codes "+Inf", n.count)
    ++ sum_text listen (origin_times.name ++ codes "_sum") part n.sum
    ++ number_text listen (origin_times.name ++ codes "_count") part n.count

-- what is told of each origin, at a moment in milliseconds
abbrev pub origin_metric : OriginSeries → Metric
origin_metric origins.Sent = origin_sent
origin_metric origins.Resent = origin_resent
origin_metric origins.GaveUp = origin_gave_up
origin_metric origins.Answers = origin_answers
origin_metric origins.Silence = origin_silence
origin_metric origins.Times = origin_times

abbrev pub origin_text : List ℕ → ℕ → OriginSeries → OriginPart → List ℕ
origin_text listen now origins.Sent (part, n) =
    number_text listen origin_sent.name part n.sent
origin_text listen now origins.Resent (part, n) =
    number_text listen origin_resent.name part n.resent
origin_text listen now origins.GaveUp (part, n) =
    number_text listen origin_gave_up.name part n.gave_up
origin_text listen now origins.Answers (part, n) =
    samples_text listen origin_answers.name part (codes "class") (class_words n.answers)
origin_text listen now origins.Silence (part, n) =
    option_map_or (λ last. number_text listen origin_silence.name part ((now - last) / 1000))
    n.last_answer []
origin_text listen now origins.Times (part, n) = times_text listen part n.times

abbrev pub origin_series : List ℕ → ℕ → OriginSeries → Series OriginPart
origin_series listen now s =
    record { metric = origin_metric s; text = origin_text listen now s }

abbrev pub of_origins : List ℕ → ℕ → Origins → OriginSeries → List ℕ
of_origins listen now t s =
    series_text (origin_parts t.places t.others) (origin_series listen now s)

abbrev pub origins_text : List ℕ → ℕ → Origins → List ℕ
origins_text listen now t =
    of_origins listen now t origins.Sent ++ of_origins listen now t origins.Resent
    ++ of_origins listen now t origins.GaveUp ++ of_origins listen now t origins.Answers
    ++ of_origins listen now t origins.Silence ++ of_origins listen now t origins.Times

-- ---- addresses that have most of a table

abbrev pub holder_entries : Metric
holder_entries =
    gauge (codes "coap_proxyd_table_holder_entries")
    (codes "What the address had that had most of a table when it was last found full.")

abbrev pub holder_ports : Metric
holder_ports =
    gauge (codes "coap_proxyd_table_holder_ports")
    (codes "With how many of its ports it had that.")

abbrev pub holder_age : Metric
holder_age =
    gauge (codes "coap_proxyd_table_holder_seconds_since")
    (codes "Full seconds since that was found.")

-- those that were found, for each table; none for one that wasn't full
abbrev pub all_holders : Holders → List (Option Holder)
all_holders h = h.con_records ∷ h.non_records ∷ h.exchanges ∷ h.waiters ∷ []

-- what is told of each that was found
abbrev pub holder_metric : HolderSeries → Metric
holder_metric holders.Held = holder_entries
holder_metric holders.Ports = holder_ports
holder_metric holders.Age = holder_age

abbrev pub holder_number : ℕ → HolderSeries → Holder → ℕ
holder_number now holders.Held h = h.held
holder_number now holders.Ports h = h.ports
holder_number now holders.Age h = (now - h.found) / 1000

abbrev pub holder_text : List ℕ → ℕ → HolderSeries → Option Holder → List ℕ
holder_text listen now s found =
    option_map_or
    (λ h. number_text listen (holder_metric s).name (holder_part h) (holder_number now s h))
    found []

abbrev pub holder_series : List ℕ → ℕ → HolderSeries → Series (Option Holder)
holder_series listen now s =
    record { metric = holder_metric s; text = holder_text listen now s }

abbrev pub of_holders : List ℕ → ℕ → Holders → HolderSeries → List ℕ
of_holders listen now h s = series_text (all_holders h) (holder_series listen now s)

abbrev pub holders_text : List ℕ → ℕ → Holders → List ℕ
holders_text listen now h =
    of_holders listen now h holders.Held ++ of_holders listen now h holders.Ports
    ++ of_holders listen now h holders.Age

-- ---- all

-- the counts of the whole proxy
abbrev pub own_text : List ℕ → Statistics → List ℕ
own_text listen s =
    traffic_text listen s.tally ++ outcomes_text listen s.tally
    ++ cache_text listen s.evictions s.openings

-- All metrics, in order: the counts of the whole proxy, those of maps, those of origins, what the
-- proxy holds, and who has most of each full table.
abbrev pub metrics_text : List ℕ → Statistics → Counts → Limits → List ℕ
metrics_text listen s c l =
    own_text listen s ++ maps_text listen s.maps ++ origins_text listen s.tally.last s.origins
    ++ held_text listen (fills c l) ++ holders_text listen s.tally.last s.holders
