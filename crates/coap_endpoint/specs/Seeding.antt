-- What a hasher with a seed computes.
use Rattle.std.specs.Prelude.{ℕ, List, fold}
use Rattle.std.specs.Hash.{u64, le_bytes}
use Rattle.std.specs.Hash.DefaultHasher as sip
use Rattle.std.specs.Hash.FoldHasher as folding
use Rattle.coap_endpoint.specs.declared.seeded.SeededHasher.{SeededHasher}

-- a hasher that has read this seed and will read its SipHash
abbrev pub begun_with : ℕ → SeededHasher
begun_with seed =
    record {
      begun = fold folding.write folding.initial (u64 seed);
      last = sip.finish (fold sip.write sip.initial (u64 seed));
    }

-- it has read these bytes, too
abbrev pub written : SeededHasher → List ℕ → SeededHasher
written h bytes = record h { begun = folding.write h.begun bytes }

-- what it computed, once it has read its last word
abbrev pub finished : SeededHasher → ℕ
finished h = folding.finish (folding.write h.begun (le_bytes 8 h.last))
