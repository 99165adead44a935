-- The events of a forwarder, each by what it does to one of the two connections.
use Rattle.std.proofs.Common.{◌≡◌, ℕ, ◌≤◌, Bool, true, false, not, ◌&&◌, List, [], ◌∷◌, length, take, Option, Some, None, refl, sym, ◌∙◌, subst}
use Rattle.std.specs.Prelude.{IsTrue, is_some, is_none}
use Rattle.std.proofs.lemmas.Bool.{false≢true, cond-true, cond-false}
use Rattle.model_h1.specs.Event as on
use Rattle.model_h1.specs.Sums as sums
use Rattle.model_client.specs.ClientEvent as asked
use Rattle.h1_client.specs.State as servers
use Rattle.h1_connection.specs.EventMeaning.{setting_of}
use Rattle.h1_connection.specs.State.{State, GoesOn, Is, fresh_state}
use Rattle.h1_connection.specs.Ticks.{expiry_of}
use Rattle.h1_connection.specs.declared.connection.ticks.Expiry.{Expiry}
use Rattle.h1_connection.specs.declared.connection.ticks.Expiry.TheVariants as expiry
use Rattle.model_state.proofs.Stands.{fresh_stands}
use Rattle.model_proxy.specs.Exchange.{pulled}
use Rattle.model_proxy.specs.Past.{ProxyStep, ProxyEvent, ProxyOutcome, tick_of, client, server, client_eof, server_eof, connected, refused, to_client, to_server, tick, took, gave, done}
use Rattle.model_proxy.specs.Past as past
use Rattle.model_proxy.specs.Happenings.{Happenings, nothing_happened}
use Rattle.model_proxy.proofs.Quiet.{BringsNothing, done_brings_nothing}
use Rattle.model_proxy.proofs.Events.{client_leaves, client_eof_leaves, to_client_leaves, tick_leaves, server_none_leaves, read_changes, eof_changes, write_changes, read_adds, eof_adds, write_adds}
use Rattle.proxy.proofs.Sides.{client_does, server_does}
use Rattle.proxy.specs.declared.proxy.Proxy.{Proxy}
use Rattle.proxy.specs.declared.proxy.Unsent.{Unsent}
use Rattle.proxy.specs.Kept.{Forwards, IsTimed, GoesBy, StepsBy, client_takes, is_closing, wants_server, server_allows, server_text}
use Rattle.proxy.proofs.Times.{quiet_time, tick_time, no_time}
use Rattle.proxy.proofs.Moves.{nothing_by, client_by, server_by, of_server_by, connected_by, refused_by}

-- ---- nothing happens

take_none : (bytes : List ℕ) → take 0 bytes ≡ []
take_none [] = refl
take_none (b ∷ bytes) = refl

pub client_nothing : (bytes : List ℕ) (p : Proxy) → GoesBy (client bytes) (took 0) p p
client_nothing bytes p =
    nothing_by (client bytes) (took 0) p (record { taken = take_none bytes; written = refl; moment = refl; going = refl }) refl (client_leaves bytes (took 0))

-- an end that isn't taken is no step
pub client_end_nothing : (p : Proxy) → client_takes p on.eof ≡ false → GoesBy client_eof done p p
client_end_nothing p none = (
  refl,
  λ history all f. (
    all,
    subst (λ (steps : List ProxyStep). Forwards p steps all)
        (sym (cond-false {A = List ProxyStep} (client_takes p on.eof) (record { event = client_eof; outcome = done } ∷ history) history none)) f,
  ),
)

-- and one that is taken is
end_taken : (p q : Proxy) → client_takes p on.eof ≡ true → StepsBy client_eof done p q → GoesBy client_eof done p q
end_taken p q may x = (
  x.0,
  λ history all f.
      let y = x.1 history all f in (
        y.0,
        subst (λ (steps : List ProxyStep). Forwards q steps y.0)
            (sym (cond-true {A = List ProxyStep} (client_takes p on.eof) (record { event = client_eof; outcome = done } ∷ history) history may)) y.1,
      ),
)

pub server_nothing : (bytes : List ℕ) (p : Proxy) → GoesBy (server bytes) (took 0) p p
server_nothing bytes p =
    nothing_by (server bytes) (took 0) p (record { taken = refl; written = refl; moment = refl; going = refl }) refl (server_none_leaves bytes)

-- where there is no server connection, and it was taken out
pub of_none_by : (event : ProxyEvent) (outcome : ProxyOutcome) (p : Proxy) (o : Option servers.State) → p.server ≡ None → o ≡ None
    → GoesBy event outcome p p → GoesBy event outcome p (record p { server = o })
of_none_by event outcome p o none now x = subst (λ (s : Option servers.State). GoesBy event outcome p (record p { server = s })) (none ∙ sym now) x

-- ---- the client's connection

quiet_by : (event : ProxyEvent) (outcome : ProxyOutcome) (p : Proxy) → tick_of event ≡ None → (history : List ProxyStep) (all : Happenings)
    → Forwards p history all → IsTimed p.moment p.server (record { event = event; outcome = outcome } ∷ history)
quiet_by event outcome p none history all f = quiet_time event outcome p.moment p.server history none f.time

took_brings_nothing : (n : ℕ) → BringsNothing (on.took n)
took_brings_nothing n = record { head = refl; more = λ p. refl }

gave_brings_nothing : (bytes : List ℕ) → BringsNothing (on.gave bytes)
gave_brings_nothing bytes = record { head = refl; more = λ p. refl }

pub client_reads : (bytes : List ℕ) (n : ℕ) (p : Proxy) (c : State) → c.settings ≡ p.client.settings → GoesOn p.client (on.read bytes) (Is (on.took n)) c
    → GoesBy (client bytes) (took n) p (record p { client = c })
client_reads bytes n p c settings one =
    client_by (on.read bytes) (on.took n) (client bytes) (took n) p c p.moment (quiet_by (client bytes) (took n) p refl) (took_brings_nothing n) refl refl refl refl refl (client_leaves bytes (took n)) settings
    (client_does p.client (on.read bytes) (on.took n) c settings one)

pub client_ends : (p : Proxy) (c : State) → client_takes p on.eof ≡ true → c.settings ≡ p.client.settings → GoesOn p.client on.eof (Is on.done) c
    → GoesBy client_eof done p (record p { client = c })
client_ends p c may settings one =
    end_taken p (record p { client = c }) may
    (client_by on.eof on.done client_eof done p c p.moment (quiet_by client_eof done p refl) done_brings_nothing refl refl refl refl refl (client_eof_leaves done) settings
    (client_does p.client on.eof on.done c settings one))

pub client_writes : (n : ℕ) (p : Proxy) (c : State) → c.settings ≡ p.client.settings
    → GoesOn p.client (on.write n) (Is (on.gave (take n p.client.kept.buffered))) c
    → GoesBy (to_client n) (gave (take n p.client.kept.buffered)) p (record p { client = c })
client_writes n p c settings one =
    let bytes = take n p.client.kept.buffered in
    client_by (on.write n) (on.gave bytes) (to_client n) (gave bytes) p c p.moment (quiet_by (to_client n) (gave bytes) p refl) (gave_brings_nothing bytes) refl refl refl refl refl (to_client_leaves n (gave bytes)) settings
    (client_does p.client (on.write n) (on.gave bytes) c settings one)

-- a moment comes, and is kept
pub ticks : (ms : ℕ) (e : Expiry) (p : Proxy) (c : State) → IsTrue (client_takes p (on.tick ms)) → c.settings ≡ p.client.settings
    → GoesOn p.client (on.tick ms) (Is (expiry_of e)) c → GoesBy (tick ms) done p (record p { client = c; moment = Some ms })
ticks ms e p c may settings one = ticks_by e one
  where
    ticks_by : (e : Expiry) → GoesOn p.client (on.tick ms) (Is (expiry_of e)) c → GoesBy (tick ms) done p (record p { client = c; moment = Some ms })
    ticks_by expiry.None one =
        client_by (on.tick ms) on.done (tick ms) done p c (Some ms) (tick_time ms done (tick ms) p refl may) done_brings_nothing refl refl refl refl refl (tick_leaves ms done) settings
        (client_does p.client (on.tick ms) on.done c settings one)
    ticks_by (expiry.Expired end) one =
        let o = expiry_of (expiry.Expired end) in
        client_by (on.tick ms) o (tick ms) done p c (Some ms) (tick_time ms done (tick ms) p refl may) (record { head = refl; more = λ p. refl }) refl refl refl refl refl (tick_leaves ms done) settings
        (client_does p.client (on.tick ms) o c settings one)
    ticks_by expiry.Abandoned one =
        client_by (on.tick ms) on.abandoned (tick ms) done p c (Some ms) (tick_time ms done (tick ms) p refl may) (record { head = refl; more = λ p. refl }) refl refl refl refl refl (tick_leaves ms done) settings
        (client_does p.client (on.tick ms) on.abandoned c settings one)

-- ---- a server's connection

pub server_reads : (bytes : List ℕ) (n : ℕ) (p : Proxy) (a b : servers.State) → p.server ≡ Some a → b.settings ≡ a.settings
    → servers.GoesOn a (asked.read bytes) (servers.Is (asked.took n)) b → GoesBy (server bytes) (took n) p (record p { server = Some b })
server_reads bytes n p a b is settings one =
    of_server_by (server bytes) (took n) p (record p { server = Some b }) a is
    (server_by (asked.read bytes) (asked.took n) (server bytes) (took n) p a b (read_adds bytes) (λ n. refl) (record { taken = refl; written = refl; moment = refl; going = refl }) refl
    (read_changes bytes n) settings (server_does a (asked.read bytes) (asked.took n) b settings one))

pub server_ends : (p : Proxy) (a b : servers.State) → p.server ≡ Some a → b.settings ≡ a.settings
    → servers.GoesOn a asked.eof (servers.Is asked.done) b → GoesBy server_eof done p (record p { server = Some b })
server_ends p a b is settings one =
    of_server_by server_eof done p (record p { server = Some b }) a is
    (server_by asked.eof asked.done server_eof done p a b eof_adds (λ n. refl) (record { taken = refl; written = refl; moment = refl; going = refl }) refl
    eof_changes settings (server_does a asked.eof asked.done b settings one))

pub server_writes : (n : ℕ) (p : Proxy) (a b : servers.State) → p.server ≡ Some a → b.settings ≡ a.settings
    → servers.GoesOn a (asked.write n) (servers.Is (asked.gave (take n a.kept.buffered))) b
    → GoesBy (to_server n) (gave (take n (server_text p.server))) p (record p { server = Some b })
server_writes n p a b is settings one =
    let bytes = take n a.kept.buffered in
    let made : GoesBy (to_server n) (gave bytes) p (record p { server = Some b }) =
    of_server_by (to_server n) (gave bytes) p (record p { server = Some b }) a is
    (server_by (asked.write n) (asked.gave bytes) (to_server n) (gave bytes) p a b (write_adds n) (λ n. refl) (record { taken = refl; written = refl; moment = refl; going = refl }) refl
    (write_changes n bytes) settings (server_does a (asked.write n) (asked.gave bytes) b settings one)) in
    subst (λ (o : Option servers.State). GoesBy (to_server n) (gave (take n (server_text o))) p (record p { server = Some b })) (sym is) made

-- ---- a new forwarder

pub new_forwards : (p : Proxy) (c : State) → c ≡ fresh_state p.config.connections → Forwards (record p { client = c; server = None; unsent = None; sent = None; moment = None }) [] nothing_happened
unfolding sums.taken sums.written sums.last_tick pulled past.client_taken past.client_given past.last_tick past.servers
new_forwards p c is =
    subst (λ (c : State). Forwards (record p { client = c; server = None; unsent = None; sent = None; moment = None }) [] nothing_happened) (sym is) (record {
      client = refl;
      server = tt;
      carries = record {
        stands = fresh_stands (setting_of p.config.connections);
        server = tt;
        under_way = tt;
        forwarded = record {
          traced = tt;
          sums = record { taken = refl; written = refl; moment = refl; servers = refl; ended = refl; refused = refl };
          sent = record { requests = refl; sent = refl; rightly = tt; links = tt };
        };
      };
      time = no_time;
    })

-- ---- a server connection that is wanted

pub three_parts : (a b c : Bool) → IsTrue (a && b && c) → (a ≡ true) × (b ≡ true)
three_parts true true c x = (refl, refl)
three_parts true false c x = absurd (false≢true x)
three_parts false b c x = absurd (false≢true x)

pub some_unsent : (u : Option Unsent) → is_some u ≡ true → (x : Unsent) × (u ≡ Some x)
some_unsent (Some x) is = (x, refl)
some_unsent None is = absurd (false≢true is)

none_server : (s : Option servers.State) → is_none s ≡ true → s ≡ None
none_server None is = refl
none_server (Some s) is = absurd (false≢true is)

pub connects : (p : Proxy) (s : servers.State) → IsTrue (wants_server p) → s ≡ servers.fresh_state p.config.connections
    → GoesBy connected done p (record p { server = Some s })
connects p s wants is =
    let two = three_parts (is_some p.unsent) (is_none p.server) (not (is_closing p)) wants in
    let u = some_unsent p.unsent two.0 in
    subst (λ (s : servers.State). GoesBy connected done p (record p { server = Some s })) (sym is) (connected_by p u.0 u.1 (none_server p.server two.1))

pub refuses : (p : Proxy) → IsTrue (wants_server p) → GoesBy refused done p (record p { unsent = None; sent = None })
refuses p wants =
    let two = three_parts (is_some p.unsent) (is_none p.server) (not (is_closing p)) wants in
    let u = some_unsent p.unsent two.0 in
    refused_by p u.0 u.1

-- ---- what a server's connection allows

pub allows_of : (event : asked.ClientEvent) (o : Option servers.State) (s : servers.State) → o ≡ Some s → IsTrue (server_allows o event)
    → servers.IsAllowed s event
allows_of event o s is x = subst (λ (o : Option servers.State). IsTrue (server_allows o event)) is x

pub none_allows : (event : asked.ClientEvent) (o : Option servers.State) → o ≡ None → IsTrue (server_allows o event) → ⊥
none_allows event o is x = false≢true (subst (λ (o : Option servers.State). IsTrue (server_allows o event)) is x)

pub text_of : (n : ℕ) (o : Option servers.State) (s : servers.State) → o ≡ Some s → n ≤ length (server_text o) → n ≤ length s.kept.buffered
text_of n o s is x = subst (λ (o : Option servers.State). n ≤ length (server_text o)) is x
