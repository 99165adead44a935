-- A forwarder has a history after each call.
use Rattle.std.proofs.Common.{◌≡◌, ℕ, Bool, true, false, List, [], ◌∷◌, length, min, None, subst, refl, sym, ap, ◌∙◌}
use Rattle.std.proofs.lemmas.Bool.{false≢true}
use Rattle.h1_connection.specs.State.{fresh_state}
use Rattle.model_proxy.specs.Past.{ProxyEvent, ProxyOutcome}
use Rattle.model_proxy.specs.Happenings.{nothing_happened}
use Rattle.proxy.specs.declared.proxy.Proxy.{Proxy}
use Rattle.proxy.specs.declared.proxy.ProxyConfig.{ProxyConfig}
use Rattle.proxy.specs.Kept.{client_of, server_of, Forwards, history_by, Goes, GoesBy, TakesAll}
use Rattle.proxy.specs.Rests.{Settles, IsNoted}
use Rattle.proxy.specs.Runs.{MayCome, RepliesBy}
use Rattle.proxy.specs.Runs as ran
use Rattle.proxy.specs.Served.{IsServed, Serves}
use Rattle.proxy_loop.specs.History.{HasHistory, ForwarderDoes, IfTold}

pub begins : (config : ProxyConfig) (p : Proxy) → p.config ≡ config → client_of p ≡ fresh_state config.connections → server_of p ≡ None
    → Forwards p [] nothing_happened → IsServed p → HasHistory p
begins config p same client server stands served = record {
  history = [];
  all = nothing_happened;
  stands = stands;
  served = served;
  ran = ran.at_first p (client ∙ ap (λ (c : ProxyConfig). fresh_state c.connections) (sym same)) server stands served;
}

pub goes_on : (old new : Proxy) → HasHistory old → Goes old new → IsNoted old new → HasHistory new
goes_on old new x goes is =
    let y = goes.1 x.history x.all x.stands in
    record {
      history = x.history;
      all = y.0;
      stands = y.1;
      served = subst (λ (p : Proxy). IsServed p) (sym is.1) x.served;
      ran = ran.noted x.history old new x.ran is;
    }

pub goes_by : (event : ProxyEvent) (outcome : ProxyOutcome) (old new : Proxy) → HasHistory old → MayCome event old → GoesBy event outcome old new → Serves old new
    → RepliesBy event outcome old new → HasHistory new
goes_by event outcome old new x may goes serves replies =
    let y = goes.1 x.history x.all x.stands in
    record {
      history = history_by event outcome old x.history;
      all = y.0;
      stands = y.1;
      served = serves x.history x.all x.stands x.served;
      ran = ran.behind x.history old new event outcome x.ran may replies;
    }

-- it went on by the event
pub does : (event : ProxyEvent) (outcome : ProxyOutcome) (old new : Proxy) → HasHistory old → GoesBy event outcome old new → Settles old new → Serves old new
    → RepliesBy event outcome old new → ForwarderDoes event outcome old new
does event outcome old new x goes rests serves replied =
    record { goes = goes; rests = rests x.history x.all x.stands; served = serves x.history x.all x.stands x.served; replied = replied }

-- the same of the forwarder as it is seen
pub seen : (p q new : Proxy) → p ≡ q → Goes p new → Goes q new
seen p q new is goes = subst (λ (p : Proxy). Goes p new) is goes

pub seen_noted : (p q new : Proxy) → p ≡ q → IsNoted p new → IsNoted q new
seen_noted p q new is noted = subst (λ (p : Proxy). IsNoted p new) is noted

pub seen_by : (event : ProxyEvent) (outcome : ProxyOutcome) (p q new : Proxy) → p ≡ q → ForwarderDoes event outcome p new → ForwarderDoes event outcome q new
seen_by event outcome p q new is does = subst (λ (p : Proxy). ForwarderDoes event outcome p new) is does

-- as many bytes are taken as there is room for
pub takes : (p q : Proxy) (count : ℕ) (bytes : List ℕ) (room : Proxy → ℕ) → p ≡ q → HasHistory p → TakesAll count bytes (room p) p → count ≡ min (length bytes) (room q)
takes p q count bytes room is x took = took x.history x.all x.stands ∙ ap (λ (r : Proxy). min (length bytes) (room r)) is

-- it is told where that is allowed, and else nothing is
pub told : (allowed : Bool) (event : ProxyEvent) (outcome : ProxyOutcome) (old new : Proxy) → allowed ≡ true → ForwarderDoes event outcome old new
    → IfTold allowed event outcome old new
told true event outcome old new is does = does
told false event outcome old new is does = absurd (false≢true is)

pub untold : (allowed : Bool) (event : ProxyEvent) (outcome : ProxyOutcome) (old : Proxy) → allowed ≡ false → IfTold allowed event outcome old old
untold false event outcome old is = refl
untold true event outcome old is = absurd (false≢true (sym is))
