-- Configurations and words of the examples.
use Rattle.std.specs.Prelude.{ℕ, pos, List, [], ◌∷◌, ◌++◌, codes, Result}
use Rattle.toml.specs.Data.{Data, Members, array, integer, member, no_members, table}
use Rattle.toml.specs.View.{items_of}
use Rattle.coap_limits.specs.Limits.{Limits, default_limits, limits_per_client}
use Rattle.coap_config.specs.Config.{Said, table_said}
use Rattle.coap_config.specs.Texts.{Text}
use Rattle.coap_config.specs.declared.config_error.ConfigError.{ConfigError}

-- a member of a table
abbrev pub Entry : Type 0
Entry = Text × Data

-- a table with these members, which are in byte order of their keys
abbrev pub table_of : List Entry → Members
table_of [] = no_members
table_of (e ∷ entries) = member e.0 e.1 (table_of entries)

abbrev pub tree : List Entry → Data
tree entries = table (table_of entries)

abbrev pub list : List Data → Data
list values = array (items_of values)

abbrev pub number : ℕ → Data
number n = integer (pos n)

abbrev pub version_1 : Entry
version_1 = (codes "version", number 1)

abbrev pub version_2 : Entry
version_2 = (codes "version", number 2)

-- what a tree gives with version 1 after all other keys
abbrev pub said_with : List Entry → Result Said ConfigError
said_with entries = table_said (table_of (entries ++ version_1 ∷ []))

-- the same with these limits
abbrev pub said_limits : List Entry → Result Said ConfigError
said_limits entries = said_with ((codes "limits", tree entries) ∷ [])

-- the same with these maps
abbrev pub said_maps : List Data → Result Said ConfigError
said_maps maps = said_with ((codes "map", list maps) ∷ [])

-- what limits give with version 2
abbrev pub said_limits_2 : List Entry → Result Said ConfigError
said_limits_2 entries =
    table_said (table_of ((codes "limits", tree entries) ∷ version_2 ∷ []))

-- nothing but defaults, of version 1 and of version 2
abbrev pub nothing : Said
nothing = record { limits = default_limits; names = []; hosts = []; maps = [] }

abbrev pub nothing_2 : Said
nothing_2 = record nothing { limits = limits_per_client }

-- the least of each limit
abbrev pub least : Limits
least = record {
  cache_bytes = 0;
  cache_entries = 1;
  con_records = 1;
  non_records = 1;
  exchanges = 1;
  waiters = 1;
  nstart = 1;
  datagram = 128;
  exchange_ms = 1000;
  retry_s = 0;
  client_con_records = 1;
  client_non_records = 1;
  client_exchanges = 1;
  client_waiters = 1;
}

-- and the greatest
abbrev pub greatest : Limits
greatest = record {
  cache_bytes = 268435456;
  cache_entries = 65536;
  con_records = 65536;
  non_records = 65536;
  exchanges = 4096;
  waiters = 16384;
  nstart = 16;
  datagram = 4096;
  exchange_ms = 600000;
  retry_s = 3600;
  client_con_records = 65536;
  client_non_records = 65536;
  client_exchanges = 4096;
  client_waiters = 16384;
}
