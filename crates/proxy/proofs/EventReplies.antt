-- What an event does before the turns that follow it.
use Rattle.std.proofs.Common.{◌≡◌, ℕ, true, [], ◌∷◌, take, Option, Some, None, refl, sym, ◌∙◌, subst}
use Rattle.std.specs.Prelude.{IsTrue, is_some, is_none, not}
use Rattle.std.proofs.lemmas.Bool.{false≢true}
use Rattle.model_h1.specs.Event as on
use Rattle.h1_connection.specs.State.{State, Stands, GoesOn, Is}
use Rattle.model_client.specs.ClientEvent as asked
use Rattle.h1_client.specs.State as servers
use Rattle.model_proxy.specs.Past.{ProxyEvent, ProxyOutcome}
use Rattle.model_proxy.specs.Past as past
use Rattle.proxy.specs.declared.proxy.Proxy.{Proxy}
use Rattle.proxy.specs.Kept.{HoldsNoRequest, GoesBy, wants_server, is_closing, server_text}
use Rattle.proxy.specs.Served.{GoesOnServing}
use Rattle.proxy.specs.Replies.{own, PutsLast, ClientAdds, AddsTo, PutsNothing, HasReplied, Replies, RepliesRefused}
use Rattle.proxy.proofs.EventMoves.{three_parts}

-- the client's connection did this event
pub client_adds : (event : on.Event) (o : on.Outcome) (a b : State) → GoesOn a event (Is o) b → ClientAdds event o a b
client_adds event o a b one = λ trace stands.
    let s = one trace stands in subst (λ (out : on.Outcome). Stands b (record { event = event; outcome = out } ∷ trace)) s.1 s.3

-- or one to a server did
pub adds_to : (event : asked.ClientEvent) (outcome : asked.ClientOutcome) (o : Option servers.State) (a b : servers.State) → o ≡ Some a
    → servers.GoesOn a event (servers.Is outcome) b → AddsTo event outcome o (Some b)
adds_to event outcome o a b here one = (
  a,
  b,
  here,
  refl,
  λ trace stands.
      subst (λ (out : asked.ClientOutcome). servers.Stands b (record { event = event; outcome = out } ∷ trace)) one.says (one.stands trace stands),
)

-- so many bytes of what waits there were written
pub write_adds_to : (n : ℕ) (o : Option servers.State) (a b : servers.State) → o ≡ Some a
    → servers.GoesOn a (asked.write n) (servers.Is (asked.gave (take n a.kept.buffered))) b → AddsTo (asked.write n) (asked.gave (take n (server_text o))) o (Some b)
write_adds_to n o a b here one =
    subst (λ (s : Option servers.State). AddsTo (asked.write n) (asked.gave (take n (server_text s))) s (Some b)) (sym here)
    (adds_to (asked.write n) (asked.gave (take n a.kept.buffered)) (Some a) a b refl one)

pub no_server_of : (p : Proxy) → IsTrue (wants_server p) → p.server ≡ None
no_server_of p wants = none_of p.server (three_parts (is_some p.unsent) (is_none p.server) (not (is_closing p)) wants).1
  where
    none_of : (o : Option servers.State) → is_none o ≡ true → o ≡ None
    none_of None is = refl
    none_of (Some s) is = absurd (false≢true is)

pub replies_by : (by : ProxyEvent) (outcome : ProxyOutcome) (p mid q : Proxy) → GoesBy by outcome p mid → GoesOnServing p mid
    → PutsNothing by outcome p mid → HasReplied mid q → Replies by outcome p q
replies_by by outcome p mid q goes serves event turns = record { mid = mid; goes = goes; serves = serves; event = event; turns = turns }

-- no server connection is to be had
pub refuses_by : (p a b mid q : Proxy) → GoesBy past.refused past.done p mid → GoesOnServing p mid → HoldsNoRequest mid → mid.server ≡ p.server → a.client ≡ p.client → b.client ≡ a.client
    → PutsLast [] (own 502) b.client mid.client → HasReplied mid q → RepliesRefused p q
refuses_by p a b mid q goes serves idle server first second puts turns = record {
  mid = mid;
  goes = goes;
  serves = serves;
  idle = idle;
  server = server;
  puts = subst (λ (s : State). PutsLast [] (own 502) s mid.client) (second ∙ first) puts;
  turns = turns;
}
