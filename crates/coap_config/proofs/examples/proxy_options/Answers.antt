use Rattle.std.proofs.Common.{refl}
use Rattle.std.specs.Net.Reader.{read_ipv4, read_octet, read_number}
use Rattle.coap_uri.specs.Address.{ipv4_of, ipv6_between}
use Rattle.coap_config.specs.ProxyOption.{proxy_option_of}
use Rattle.coap_config.proofs.examples.proxy_options.Goals as goal

pub returns : goal.returns
unfolding read_number read_octet read_ipv4 ipv4_of ipv6_between proxy_option_of
returns c = record { one = refl; two_in_lower_case = refl; no_comma = refl; nothing = refl; next = refl; next_without_port = refl; next_port_1 = refl; next_last_port = refl; next_of_a_name = refl; next_of_another_scheme = refl; next_port_0 = refl; next_great_port = refl; next_port_with_zero = refl; next_no_port = refl; next_odd_port = refl; next_with_a_path = refl; next_with_a_root = refl; next_without_scheme = refl; next_with_nothing = refl; next_space = refl; next_before_names = refl; next_without_names = refl; next_without_comma = refl; ipv6_cut = refl; ipv6_alone = refl; ipv6_port = refl; behind_a_bracket = refl; no_name = refl; empty_name = refl; last_is_empty = refl; space = refl; most = refl; too_many = refl }
