-- The bytes of an address's text are visible, so that it can be a value.
use Rattle.std.proofs.Common.{◌≡◌, ℕ, zero, suc, ◌%◌, ◌^◌, ◌<◌, Bool, true, false, List, [], ◌∷◌, ◌++◌, get_or, take, drop, codes, decimal, refl, sym, ap, ◌∙◌, subst, arith, IsTrue}
use Rattle.std.specs.Prelude.{bytes_eq, if◌then◌else◌}
use Rattle.std.specs.declared.net.ip_addr.IpAddr.{IpAddr}
use Rattle.std.specs.declared.net.ip_addr.IpAddr.TheVariants as Ip
use Rattle.std.specs.Int.{IsInRange}
use Rattle.std.specs.declared.net.socket_addr.SocketAddr.{SocketAddr}
use Rattle.std.specs.declared.net.socket_addr.SocketAddr.TheVariants as Socket
use Rattle.std.specs.Net.Addr.{ipv6_segments, octets_of}
use Rattle.std.specs.Net.Socket.{socket_ip, socket_port, socket_scope_id, v6_ip, v6_port}
use Rattle.std.specs.Net.Text.{ipv4_text, ip_text, ipv6_text, hex_groups_text, scope_text, socket_text}
use Rattle.std.proofs.NetLemmas.Alphabet.{IsDigitOrDot, IsHexOrColon, All-ipv4_text, All-hex_groups_text}
use Rattle.std.proofs.NetLemmas.Texts.{AllSegments, AllSegments-drop}
use Rattle.std.proofs.lemmas.Bool.Decides.{nat_tests}
use Rattle.std.proofs.lemmas.Fmt.{decimal_is_IsNumeral}
use Rattle.std.proofs.lemmas.List.{append-nil}
use Rattle.std.proofs.lemmas.List.Elements.{All-append, All-weaker, All-from_get_or}
use Rattle.std.proofs.lemmas.List.Sums.{AllPass-from_list_all}
use Rattle.std.proofs.lemmas.Str.Parse.{digit_at}
use Rattle.http_header.specs.FieldValue.{IsFieldValue}
use Rattle.http_header.specs.Token.{is_value_byte}
use Rattle.httparse.specs.Grammar.{AllPass, is_uri_byte}
use Rattle.model_proxy.specs.Edge.{element_of, IsCleanValue}
use Rattle.model_proxy.proofs.OwnLines.{visible_clean}
use Rattle.proxy_heads.specs.Edges.{plain_text}

-- a visible byte
abbrev IsSeen : ℕ → Type 0
IsSeen b = IsTrue (is_uri_byte b)

value_byte : (b : ℕ) → IsSeen b → IsTrue (is_value_byte b)
value_byte b seen = grind (arith, nat_tests, seen)

pub visible_value : (text : List ℕ) → AllPass is_uri_byte text → IsFieldValue text
visible_value text all = All-weaker IsSeen (λ b. IsTrue (is_value_byte b)) value_byte text all

joined : (a b : List ℕ) → AllPass is_uri_byte a → AllPass is_uri_byte b → AllPass is_uri_byte (a ++ b)
joined a b all more = All-append IsSeen a b all more

-- ---- numbers

digit_seen : (b : ℕ) → IsInRange 48 57 b → IsSeen b
digit_seen b digit = grind (arith, nat_tests, digit)

decimal_seen : (n : ℕ) → n < 2 ^ 16 → AllPass is_uri_byte (decimal n)
decimal_seen n fits =
    All-from_get_or IsSeen (decimal n) 0 (λ i within. digit_seen (get_or (decimal n) i 0) (digit_at (decimal n) i (decimal_is_IsNumeral n (omega arith)).0.1 within))

-- ---- addresses

dotted_seen : (b : ℕ) → IsDigitOrDot b → IsSeen b
dotted_seen b x = grind (arith, nat_tests, x)

hex_seen : (b : ℕ) → IsHexOrColon b → IsSeen b
hex_seen b x = grind (arith, nat_tests, x)

pub ipv4_seen : (octets : List ℕ) → ((k : ℕ) → get_or octets k 0 < 2 ^ 8) → AllPass is_uri_byte (ipv4_text octets)
ipv4_seen octets fit = All-weaker IsDigitOrDot IsSeen dotted_seen (ipv4_text octets) (All-ipv4_text octets fit)

octets_fit : (segments : List ℕ) → AllSegments segments → (k : ℕ) → get_or (octets_of segments) k 0 < 2 ^ 8
octets_fit [] fit k = omega arith
octets_fit (s ∷ segments) fit k =
    let later = octets_fit segments (λ j. fit (suc j)) in
    let first : s < 2 ^ 16 = fit 0 in
    elim k as (λ j. get_or (octets_of (s ∷ segments)) j 0 < 2 ^ 8) [
      | zero ↦ omega (arith, first)
      | suc j ↦ elim j as (λ i. get_or ((s % 256) ∷ octets_of segments) i 0 < 2 ^ 8) [ zero ↦ omega arith | suc i ↦ later i ]
    ]

pub ipv6_seen : (segments : List ℕ) → AllSegments segments → AllPass is_uri_byte (ipv6_text segments)
unfolding ipv6_text
ipv6_seen segments fit = by_test (bytes_eq (take 6 segments) (0 ∷ 0 ∷ 0 ∷ 0 ∷ 0 ∷ 0xffff ∷ []))
  where
    by_test : (t : Bool) → AllPass is_uri_byte (if t then codes "::ffff:" ++ ipv4_text (octets_of (drop 6 segments)) else hex_groups_text segments)
    by_test true =
        joined (codes "::ffff:") (ipv4_text (octets_of (drop 6 segments))) (AllPass-from_list_all is_uri_byte (codes "::ffff:") refl)
        (ipv4_seen (octets_of (drop 6 segments)) (octets_fit (drop 6 segments) (AllSegments-drop 6 segments fit)))
    by_test false = All-weaker IsHexOrColon IsSeen hex_seen (hex_groups_text segments) (All-hex_groups_text segments fit)

-- ---- with a port, and as an element of Forwarded

-- without a zone the text is that of the address and the port
pub plain_is : (a : SocketAddr) (ip : IpAddr) (port : ℕ) → socket_ip a ≡ ip → socket_port a ≡ port → socket_scope_id a ≡ 0 → socket_text a ≡ plain_text ip port
plain_is (Socket.V4 a) ip port ips ports scopes = λ i. plain_text (ips i) (ports i)
plain_is (Socket.V6 a) ip port ips ports scopes =
    ap (λ (scope : ℕ). (((codes "[" ++ ipv6_text (ipv6_segments (v6_ip a))) ++ scope_text scope) ++ codes "]:") ++ decimal (v6_port a)) scopes
    ∙ ap (λ (text : List ℕ). (text ++ codes "]:") ++ decimal (v6_port a)) (append-nil (codes "[" ++ ipv6_text (ipv6_segments (v6_ip a))))
    ∙ (λ i. plain_text (ips i) (ports i))

pub plain_seen : (ip : IpAddr) (port : ℕ) → AllPass is_uri_byte (ip_text ip) → port < 2 ^ 16 → AllPass is_uri_byte (plain_text ip port)
plain_seen (Ip.V4 a) port all fits =
    joined (ip_text (Ip.V4 a) ++ codes ":") (decimal port)
    (joined (ip_text (Ip.V4 a)) (codes ":") all (AllPass-from_list_all is_uri_byte (codes ":") refl)) (decimal_seen port fits)
plain_seen (Ip.V6 a) port all fits =
    joined ((codes "[" ++ ip_text (Ip.V6 a)) ++ codes "]:") (decimal port)
    (joined (codes "[" ++ ip_text (Ip.V6 a)) (codes "]:")
    (joined (codes "[") (ip_text (Ip.V6 a)) (AllPass-from_list_all is_uri_byte (codes "[") refl) all)
    (AllPass-from_list_all is_uri_byte (codes "]:") refl))
    (decimal_seen port fits)

pub element_seen : (socket : List ℕ) → AllPass is_uri_byte socket → AllPass is_uri_byte (element_of socket)
element_seen socket all =
    joined (codes "for=\"") (socket ++ codes "\";proto=http") (AllPass-from_list_all is_uri_byte (codes "for=\"") refl)
    (joined socket (codes "\";proto=http") all (AllPass-from_list_all is_uri_byte (codes "\";proto=http") refl))

-- ---- as the value of a line

pub clean_of : (bytes text : List ℕ) → bytes ≡ text → AllPass is_uri_byte text → IsCleanValue bytes
clean_of bytes text is all = subst IsCleanValue (sym is) (visible_clean text all)
