-- Labels, piece by piece.
use Rattle.std.proofs.Common.{◌≡◌, ℕ, List, ◌++◌, codes, ap, ◌∙◌}
use Rattle.std.proofs.lemmas.List.{append-nil}
use Rattle.std.specs.Fmt.{decimal}
use Rattle.std.specs.declared.net.ip_addr.IpAddr.{IpAddr}
use Rattle.std.specs.declared.net.socket_addr.SocketAddr.{SocketAddr}
use Rattle.std.specs.declared.net.socket_addr.SocketAddr.TheVariants.{V4, V6}
use Rattle.std.specs.Net.Addr.{ipv6_segments}
use Rattle.std.specs.Net.Socket.{socket_ip, socket_port, socket_scope_id, v6_ip}
use Rattle.std.specs.Net.Text.{ipv6_text, scope_text, socket_text}
use Rattle.coap_stats.specs.Labels.{with_port}

no_scope : (t : List ℕ) (scope port : ℕ) → scope ≡ 0
    → codes "[" ++ t ++ scope_text scope ++ codes "]:" ++ decimal port ≡ codes "[" ++ t ++ codes "]:" ++ decimal port
no_scope t scope port none =
    ap (λ n. codes "[" ++ t ++ scope_text n ++ codes "]:" ++ decimal port) none
    ∙ ap (λ u. u ++ codes "]:" ++ decimal port) (append-nil (codes "[" ++ t))

-- what a socket address is written as whose scope is 0
pub socket-is : (s : SocketAddr) (ip : IpAddr) (port : ℕ) → socket_ip s ≡ ip → socket_port s ≡ port → socket_scope_id s ≡ 0
    → socket_text s ≡ with_port ip port
socket-is (V4 a) ip port is at none =
    ap (λ i. with_port i (socket_port (V4 a))) is ∙ ap (with_port ip) at
socket-is (V6 a) ip port is at none =
    no_scope (ipv6_text (ipv6_segments (v6_ip a))) (socket_scope_id (V6 a)) (socket_port (V6 a)) none
    ∙ ap (λ i. with_port i (socket_port (V6 a))) is ∙ ap (with_port ip) at
