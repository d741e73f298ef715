-- Recordings of the program.
use Rattle.std.specs.Prelude.{List, [], ◌∷◌, ◌++◌, codes, Option, Some, None, option_map, string_bytes}
use Rattle.coap_config.specs.Texts.{Text}
use Rattle.coap_config.specs.declared.settings.Settings.{Settings}

-- the word of an option, if it is given: its name, and its value right after it
abbrev pub word_of : Text → Option Text → List Text
word_of name None = []
word_of name (Some value) = (name ++ value) ∷ []

-- the words of the settings that a replay needs
abbrev pub words_again : Settings → List Text
words_again s =
    word_of (codes "--config=") (option_map string_bytes s.config)
    ++ word_of (codes "--map=") (option_map string_bytes s.map)
    ++ word_of (codes "-P") (option_map string_bytes s.names)
