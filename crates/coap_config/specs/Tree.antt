-- What a configuration's tree holds, as `toml` reads it: its tables are in byte order of their
-- keys.
use Rattle.std.specs.Prelude.{Bool, List, [], ◌∷◌, ◌++◌, Option, Some, None, Result, Ok, Err, if◌then◌else◌}
use Rattle.toml.specs.Data.{Data, Items, no_items, item, Members, no_members, member}
use Rattle.coap_config.specs.Texts.{Text}

-- a result that depends on the value of another
abbrev pub after : {A B E : Type 0} → Result A E → (A → Result B E) → Result B E
after (Ok x) next = next x
after (Err e) next = Err e

-- what was read, followed by what is read after it
abbrev pub with_front : {A E : Type 0} → List A → Result (List A) E → Result (List A) E
with_front front (Ok rest) = Ok (front ++ rest)
with_front front (Err e) = Err e

abbrev pub and_rest : {A E : Type 0} → Result A E → Result (List A) E → Result (List A) E
and_rest (Ok x) rest = with_front (x ∷ []) rest
and_rest (Err e) rest = Err e

-- what each item gives, in order, or the first fault
abbrev pub each_item : {A E : Type 0} → (Data → Result A E) → Items → Result (List A) E
each_item read no_items = Ok []
each_item read (item d items) = and_rest (read d) (each_item read items)

-- what each member gives, in order of the keys, or the first fault
abbrev pub each_member : {A E : Type 0} → (Text → Data → Result A E) → Members → Result (List A) E
each_member read no_members = Ok []
each_member read (member key d members) = and_rest (read key d) (each_member read members)

-- the first key that passes a test
abbrev pub first_key : (Text → Bool) → Members → Option Text
first_key test no_members = None
first_key test (member key d members) = if test key then Some key else first_key test members
