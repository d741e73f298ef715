-- The line of counts.
use Rattle.std.specs.Prelude.{ℕ, ◌/◌, List, [], ◌∷◌, ◌++◌, codes}
use Rattle.std.specs.Fmt.{decimal}
use Rattle.std.specs.List.{flat_map}
use Rattle.coap_limits.specs.Limits.{Limits}
use Rattle.coap_model.specs.declared.report.Counts.{Counts}
use Rattle.coap_stats.specs.declared.tally.AnswerCounts.{AnswerCounts}
use Rattle.coap_store.specs.declared.evictions.Evictions.{Evictions}
use Rattle.coap_counts.specs.declared.openings.OpeningCounts.{OpeningCounts}
use Rattle.coap_counts.specs.declared.origins.AnswerClasses.{AnswerClasses}
use Rattle.coap_counts.specs.declared.requests.RefusalCounts.{RefusalCounts}
use Rattle.coap_counts.specs.declared.requests.RequestCounts.{RequestCounts}
use Rattle.coap_stats.specs.declared.tally.Tally.{Tally}
use Rattle.coap_stats.specs.declared.words.Fill as program_fill
use Rattle.coap_stats.specs.declared.words.Word as program_word

-- a key and its number
abbrev pub Word : Type 0
Word = List ℕ × ℕ

-- a key, a number, and the limit of that
pub record Fill : Type 0 where
  pub key : List ℕ
  pub count : ℕ
  pub limit : ℕ

-- they stand behind spaces
abbrev pub word_text : Word → List ℕ
word_text w = codes " " ++ w.0 ++ codes "=" ++ decimal w.1

abbrev pub words_text : List Word → List ℕ
words_text words = flat_map word_text words

abbrev pub fill_text : Fill → List ℕ
fill_text s = codes " " ++ s.key ++ codes "=" ++ decimal s.count ++ codes "/" ++ decimal s.limit

abbrev pub traffic_words : Tally → List Word
traffic_words n =
    (codes "received", n.received) ∷ (codes "sent", n.sent)
    ∷ (codes "send_faults", n.send_faults) ∷ (codes "lost", n.lost)
    ∷ (codes "resent", n.resent) ∷ (codes "gave_up", n.gave_up) ∷ []

abbrev pub request_words : RequestCounts → List Word
request_words n =
    (codes "hit", n.hit) ∷ (codes "joined", n.joined) ∷ (codes "opened", n.opened)
    ∷ (codes "overloaded", n.overloaded) ∷ (codes "no_record_room", n.no_record_room)
    ∷ (codes "no_id", n.no_id) ∷ (codes "again", n.again) ∷ []

abbrev pub refusal_words : RefusalCounts → List Word
refusal_words n =
    (codes "refused_4.00", n.bad_request) ∷ (codes "refused_4.02", n.bad_option)
    ∷ (codes "refused_4.04", n.not_found) ∷ (codes "refused_4.05", n.method_not_allowed)
    ∷ (codes "refused_4.13", n.entity_too_large) ∷ (codes "refused_5.05", n.not_proxied) ∷ []

abbrev pub answer_words : AnswerCounts → List Word
answer_words n =
    (codes "kept", n.kept) ∷ (codes "too_large", n.too_large)
    ∷ (codes "no_memory", n.no_memory) ∷ (codes "not_stored", n.not_stored) ∷ []

abbrev pub opening_words : OpeningCounts → List Word
opening_words n =
    (codes "absent", n.absent) ∷ (codes "stale", n.stale) ∷ (codes "marked", n.marked)
    ∷ (codes "not_get", n.not_get) ∷ []

abbrev pub class_words : AnswerClasses → List Word
class_words n =
    (codes "2", n.success) ∷ (codes "4", n.client_error) ∷ (codes "5", n.server_error) ∷ []

abbrev pub eviction_words : Evictions → List Word
eviction_words n = (codes "evicted", n.entries) ∷ (codes "evicted_fresh", n.fresh) ∷ []

abbrev pub fill : List ℕ → ℕ → ℕ → Fill
fill key count limit = record { key = key; count = count; limit = limit }

abbrev pub fills : Counts → Limits → List Fill
fills c l =
    fill (codes "cached_bytes") c.cached_bytes l.cache_bytes
    ∷ fill (codes "entries") c.entries l.cache_entries
    ∷ fill (codes "con_records") c.con_records l.con_records
    ∷ fill (codes "non_records") c.non_records l.non_records
    ∷ fill (codes "exchanges") c.exchanges l.exchanges
    ∷ fill (codes "waiters") c.waiters l.waiters ∷ []

-- All words of the line, in order: full seconds since the start, what was counted, and what the
-- proxy holds, with its limits.
abbrev pub line_of : Tally → OpeningCounts → Evictions → Counts → Limits → List ℕ
line_of n o e c l =
    codes "seconds=" ++ decimal (n.last / 1000) ++ words_text (traffic_words n)
    ++ words_text (request_words n.requests) ++ words_text (refusal_words n.requests.refused)
    ++ words_text (answer_words n.answers) ++ words_text (opening_words o)
    ++ words_text (eviction_words e) ++ flat_map fill_text (fills c l) ++ codes "\n"

-- ---- keys and numbers as the program has them

abbrev pub word_seen : program_word.Word → Word
word_seen w = (w.key.now, w.number)

abbrev pub fill_seen : program_fill.Fill → Fill
fill_seen s = record { key = s.key.now; count = s.count; limit = s.limit }
