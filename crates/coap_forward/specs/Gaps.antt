-- How the forwarded request is written: the options of its target and the tag, and the others in
-- the gaps between them.
use Rattle.std.specs.Prelude.{ℕ, ◌&&◌, if◌then◌else◌, Bool, false, nat_le, nat_lt, List, [], ◌∷◌, ◌++◌, codes, filter, map, Option, Some, None}
use Rattle.std.specs.Option.{option_map}
use Rattle.coap_message.specs.declared.code.Code.{Code}
use Rattle.coap_message.specs.declared.options.Opt.{Opt}
use Rattle.coap_message.specs.Message.{Message}
use Rattle.coap_message.specs.Options.{option_of}
use Rattle.coap_message.specs.Uint.{uint_spelling}
use Rattle.coap_option.specs.declared.numbers.TheConstants.{URI_HOST, ETAG, URI_PORT, URI_PATH, URI_QUERY, PROXY_SCHEME}
use Rattle.coap_option.specs.Selection.{is_forwarded, sent_on}
use Rattle.coap_option.specs.declared.survey.Span.{Span}
use Rattle.coap_option.specs.declared.survey.Survey.{Survey}
use Rattle.coap_option.specs.Survey.{key_from}
use Rattle.coap_endpoint.specs.declared.target.Target.{Target}
use Rattle.coap_forward.specs.Forms.{forwarded, merged, tagged, target_options}
use Rattle.coap_forward.specs.declared.form.Form.{Form}
use Rattle.coap_forward.specs.declared.form.Gap.{Gap}
use Rattle.coap_forward.specs.declared.form.Gap.TheVariants.{BeforeHost, BeforePort, BeforePath, BeforeQuery, BeforeScheme, Last}
use Rattle.coap_forward.specs.declared.part.PartValues.{PartValues}
use Rattle.coap_forward.specs.declared.part.PartValues.TheVariants.{Given, Kept}

-- the value, if there is one
abbrev pub given : Option (List ℕ) → List (List ℕ)
given None = []
given (Some value) = value ∷ []

-- the remaining values of a part
abbrev pub values_left : PartValues → List (List ℕ)
values_left (Given value) = given (option_map (λ v. v.now) value)
values_left (Kept pieces) = pieces

-- an option with this number is in this gap
abbrev pub is_in : Gap → ℕ → Bool
is_in BeforeHost number = nat_lt number URI_HOST
is_in BeforePort number = nat_lt URI_HOST number && nat_lt number URI_PORT
is_in BeforePath number = nat_lt URI_PORT number && nat_lt number URI_PATH
is_in BeforeQuery number = nat_lt URI_PATH number && nat_lt number URI_QUERY
is_in BeforeScheme number = nat_lt URI_QUERY number && nat_lt number PROXY_SCHEME
is_in Last number = nat_lt PROXY_SCHEME number

-- The greatest number of the options before the gap. The tag comes right after the Uri-Host.
abbrev pub floor_of : Gap → ℕ
floor_of BeforeHost = 0
floor_of BeforePort = ETAG
floor_of BeforePath = URI_PORT
floor_of BeforeQuery = URI_PATH
floor_of BeforeScheme = URI_QUERY
floor_of Last = PROXY_SCHEME

-- the number of the option after the gap
abbrev pub end_of : Gap → ℕ
end_of BeforeHost = URI_HOST
end_of BeforePort = URI_PORT
end_of BeforePath = URI_PATH
end_of BeforeQuery = URI_QUERY
end_of BeforeScheme = PROXY_SCHEME
end_of Last = 65535

-- the options in a gap that are forwarded, of a request with this code
abbrev pub others_in : Code → Gap → List Opt → List Opt
others_in code gap options = filter (λ o. is_in gap o.number && is_forwarded code o) options

-- a span of numbers reaches into the gap
abbrev pub meets : Gap → Option Span → Bool
meets gap None = false
meets gap (Some span) = nat_le (floor_of gap) span.greatest && nat_le span.least (end_of gap)

-- the number from which on all options of a surveyed request go in the gap, if no other is forwarded
abbrev pub within : Gap → Option ℕ → Option Span → Option ℕ
within gap None span = None
within gap (Some number) None = None
within gap (Some number) (Some span) =
    if is_in gap number && is_in gap span.greatest then Some number else None

abbrev pub whole : Gap → Survey → Option ℕ
whole gap survey = within gap (key_from survey) survey.others

-- what is written for a gap, and for the part after it
abbrev pub part_of : Message → Gap → List (List ℕ) → List Opt
part_of m gap values = others_in m.code gap m.options ++ map (option_of (end_of gap)) values

-- the value of a target's Uri-Port, and that of its Proxy-Scheme
abbrev pub port_value : Option ℕ → Option (List ℕ)
port_value port = option_map uint_spelling port

abbrev pub scheme_value : Option ℕ → Option (List ℕ)
scheme_value port = option_map (λ n. codes "coap") port

-- the options of a tag
abbrev pub tag_options : Option (List ℕ) → List Opt
tag_options tag = map (option_of ETAG) (given tag)

-- the options up to the Uri-Port, with the tag right after the Uri-Host
abbrev pub front_options : Target → Option (List ℕ) → Message → List Opt
front_options t tag m =
    part_of m BeforeHost (given t.host)
    ++ (tag_options tag ++ part_of m BeforePort (given (port_value t.port)))

-- the options after the Uri-Port
abbrev pub back_options : Target → Message → List Opt
back_options t m =
    part_of m BeforePath t.path
    ++ (part_of m BeforeQuery t.query
    ++ (part_of m BeforeScheme (given (scheme_value t.port)) ++ others_in m.code Last m.options))

-- the tag of a form, its options up to the Uri-Port, those after it, and all of them
abbrev pub tag_in : Form → Option (List ℕ)
tag_in form = option_map (λ tag. tag.now) form.tag

abbrev pub front_in : Form → List Opt
front_in form = front_options form.target.now (tag_in form) form.request.now

abbrev pub back_in : Form → List Opt
back_in form = back_options form.target.now form.request.now

abbrev pub options_in : Form → List Opt
options_in form =
    merged (target_options form.target.now) (tagged (tag_in form) (sent_on form.request.now))

-- the request with this token that is forwarded for a form, with Message ID 0
abbrev pub request_in : Form → List ℕ → Message
request_in form token = forwarded token form.target.now (tag_in form) form.request.now 0
