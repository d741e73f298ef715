-- URIs whose parts appear in their texts as `url` reads them.
use Rattle.std.specs.Prelude.{ℕ, Bool, true, ◌==◌, List, [], ◌∷◌, codes, decimal, Option, Some, None}
use Rattle.std.specs.Option.{option_copied}
use Rattle.url.specs.declared.host.Host.TheVariants.{Domain}
use Rattle.url.specs.Ascii.{colon, question_mark, slash}
use Rattle.url.specs.Parts.{Parts}
use Rattle.coap_uri.specs.declared.plain.Plain.{Plain}

-- a port as it is written, with the colon before it
abbrev pub port_text : Option ℕ → List ℕ
port_text None = []
port_text (Some port) = colon ∷ decimal port

-- a query as it is written, with the question mark before it
abbrev pub query_text : Option (List ℕ) → List ℕ
query_text None = []
query_text (Some query) = question_mark ∷ query

-- a path is empty or begins with a slash
abbrev pub is_rooted : List ℕ → Bool
is_rooted [] = true
is_rooted (b ∷ path) = b == slash

-- the URL with these parts
abbrev pub plain_url : List ℕ → Option ℕ → List ℕ → Option (List ℕ) → Parts
plain_url host port path query = record {
  scheme = codes "coap";
  username = [];
  password = [];
  host = Some (Domain host);
  port = port;
  path = path;
  query = query;
  fragment = None;
}

abbrev pub url_of : Plain → Parts
url_of plain = plain_url plain.host.now plain.port plain.path.now (option_copied plain.query)
