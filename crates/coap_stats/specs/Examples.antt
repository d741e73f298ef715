-- Clocks and counts of the examples.
use Rattle.std.specs.Prelude.{ℕ, zero, suc, ◌/◌, ◌%◌, ◌==◌, ◌&&◌, Bool, true, not, nat_eq, List, [], ◌∷◌, ◌++◌, codes, map, Option, None, Some, if◌then◌else◌}
use Rattle.std.specs.Cmp.Lexicographic.{pointwise}
use Rattle.std.specs.Fmt.{decimal}
use Rattle.coap_endpoint.specs.declared.endpoint.Endpoint.{Endpoint}
use Rattle.coap_endpoint.specs.declared.endpoint.Ip.{Ip}
use Rattle.coap_endpoint.specs.declared.endpoint.Ip.TheVariants.{V4, V6}
use Rattle.coap_limits.specs.Limits.{Limits, default_limits}
use Rattle.coap_model.specs.declared.report.Counts.{Counts}
use Rattle.coap_store.specs.declared.evictions.Evictions.{Evictions}
use Rattle.coap_counts.specs.Times.{times}
use Rattle.coap_counts.specs.declared.openings.OpeningCounts.{OpeningCounts}
use Rattle.coap_counts.specs.declared.origins.OriginCounts.{OriginCounts}
use Rattle.coap_counts.specs.declared.origins.OriginPlace.{OriginPlace}
use Rattle.coap_counts.specs.declared.requests.RequestCounts.{RequestCounts}
use Rattle.coap_counts.specs.declared.times.Bucket.{Bucket}
use Rattle.coap_core.specs.declared.holders.Holder.{Holder}
use Rattle.coap_core.specs.declared.holders.SharedTable.TheVariants.{Waiters}
use Rattle.coap_stats.specs.Clock.{no_turn, with_turn}
use Rattle.coap_stats.specs.Labels.{Origin}
use Rattle.coap_stats.specs.Metrics as metrics
use Rattle.coap_stats.specs.Series as series
use Rattle.coap_stats.specs.declared.clock.StandingClock.{StandingClock}
use Rattle.coap_stats.specs.declared.series.HolderSeries.{HolderSeries}
use Rattle.coap_stats.specs.declared.series.OriginSeries.{OriginSeries}
use Rattle.coap_stats.specs.declared.tally.Tally.{Tally}

-- a clock after so many turns, all at one moment
abbrev pub after : ℕ → ℕ → StandingClock
after zero now = no_turn
after (suc turns) now = with_turn now (after turns now)

-- ---- names

-- the names of all metrics
abbrev pub names : List (List ℕ)
names =
    map (λ (m : metrics.Metric). m.name)
    (metrics.uptime ∷ metrics.received ∷ metrics.sent ∷ metrics.send_faults ∷ metrics.lost
    ∷ metrics.resent ∷ metrics.gave_up ∷ metrics.requests ∷ metrics.answers ∷ metrics.evicted
    ∷ metrics.evicted_fresh ∷ metrics.opened ∷ metrics.held ∷ metrics.limit
    ∷ series.map_requests ∷ series.origin_sent ∷ series.origin_resent ∷ series.origin_gave_up
    ∷ series.origin_answers ∷ series.origin_silence ∷ series.origin_times
    ∷ series.holder_entries ∷ series.holder_ports ∷ series.holder_age ∷ [])

abbrev pub is_among : List ℕ → List (List ℕ) → Bool
is_among name [] = not true
is_among name (n ∷ ns) = if pointwise nat_eq n name then true else is_among name ns

-- no name stands there twice
abbrev pub are_distinct : List (List ℕ) → Bool
are_distinct [] = true
are_distinct (n ∷ ns) = not (is_among n ns) && are_distinct ns

-- ---- numbers that all differ

abbrev pub requests : RequestCounts
requests = record {
  hit = 511;
  joined = 512;
  opened = 513;
  refused =
      record {
        bad_request = 521;
        bad_option = 522;
        not_found = 523;
        method_not_allowed = 524;
        entity_too_large = 525;
        not_proxied = 526;
      };
  overloaded = 514;
  no_record_room = 515;
  no_id = 516;
  again = 517;
}

abbrev pub tally : Tally
tally = record {
  last = 700999;
  received = 501;
  sent = 502;
  send_faults = 503;
  lost = 504;
  requests = requests;
  answers = record { kept = 531; too_large = 532; no_memory = 533; not_stored = 534 };
  resent = 505;
  gave_up = 506;
}

abbrev pub openings : OpeningCounts
openings = record { absent = 541; stale = 542; marked = 543; not_get = 544 }

abbrev pub evictions : Evictions
evictions = record { entries = 551; fresh = 552 }

abbrev pub counts : Counts
counts = record {
  cached_bytes = 561;
  entries = 562;
  con_records = 563;
  non_records = 564;
  exchanges = 565;
  waiters = 566;
}

abbrev pub limits : Limits
limits = record default_limits {
  cache_bytes = 571;
  cache_entries = 572;
  con_records = 573;
  non_records = 574;
  exchanges = 575;
  waiters = 576;
  client_con_records = 577;
  client_non_records = 578;
  client_exchanges = 579;
  client_waiters = 580;
}

-- ---- origins, and an address that has most of a table

-- 192.0.2.N, and 2001:db8::82
abbrev pub ipv4 : ℕ → Ip
ipv4 n = V4 (192 ∷ 0 ∷ 2 ∷ n ∷ [])

abbrev pub ipv6 : Ip
ipv6 = V6 (0x20 ∷ 1 ∷ 0x0D ∷ 0xB8 ∷ 0 ∷ 0 ∷ 0 ∷ 0 ∷ 0 ∷ 0 ∷ 0 ∷ 0 ∷ 0 ∷ 0 ∷ 0 ∷ 0x82 ∷ [])

abbrev pub at : Ip → ℕ → Endpoint
at ip port = record { ip = ip; port = port }

-- the buckets have 300, 301, .. answers
abbrev pub buckets_from : ℕ → List ℕ → List Bucket
buckets_from count [] = []
buckets_from count (within ∷ more) =
    record { within = within; count = count } ∷ buckets_from (suc count) more

-- the last answer came at this moment
abbrev pub counts_at : Option ℕ → OriginCounts
counts_at last = record {
  sent = 71;
  resent = 72;
  answers = record { success = 73; client_error = 74; server_error = 75 };
  gave_up = 76;
  last_answer = last;
  times = record { buckets = buckets_from 300 times; count = 313; sum = 170036 };
}

abbrev pub place_of : Option Endpoint → OriginPlace
place_of origin = record { at = origin; counts = counts_at None }

-- the address that had most of what clients wait for, after 108 seconds
abbrev pub holder : Holder
holder = record {
  table = Waiters;
  count = 81;
  limit = 82;
  ip = ipv6;
  held = 83;
  ports = 84;
  found = 108999;
}

-- a time of so many milliseconds in seconds, with no zero at the end
abbrev pub thousandths : ℕ → List ℕ
thousandths n =
    if n == 0 then []
    else (if n % 100 == 0 then codes "." ++ decimal (n / 100)
    else (if n % 10 == 0 then codes "." ++ decimal (n / 100) ++ decimal (n / 10 % 10)
    else codes "." ++ decimal (n / 100) ++ decimal (n / 10 % 10) ++ decimal (n % 10)))

abbrev pub end_of : ℕ → List ℕ
end_of ms = decimal (ms / 1000) ++ thousandths (ms % 1000)

-- what is told of one origin, and of that address
abbrev pub told : ℕ → OriginSeries → Option ℕ → List ℕ
told now s last =
    series.origin_text (codes "h:1") now s (Origin (at (ipv4 7) 5683), counts_at last)

abbrev pub told_of : ℕ → HolderSeries → List ℕ
told_of now s = series.holder_text (codes "h:1") now s (Some holder)
