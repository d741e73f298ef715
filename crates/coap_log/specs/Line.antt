-- The text of a line: a word, and fields behind it.
use Rattle.std.specs.Prelude.{ℕ, List, ◌++◌, codes}
use Rattle.std.specs.List.{flat_map}
use Rattle.coap_log.specs.Values.{escaped}

-- a key, and its value
abbrev pub Field : Type 0
Field = List ℕ × List ℕ

-- a key stands between a blank and an equals sign
abbrev pub key_text : List ℕ → List ℕ
key_text key = codes " " ++ key ++ codes "="

-- behind it stands its value, of which no byte ends a word
abbrev pub field_text : Field → List ℕ
field_text (key, value) = key_text key ++ escaped value

-- fields, in order
abbrev pub fields_text : List Field → List ℕ
fields_text fields = flat_map field_text fields

-- a line, with its line feed
abbrev pub line_text : List ℕ → List Field → List ℕ
line_text word fields = word ++ fields_text fields ++ codes "\n"
