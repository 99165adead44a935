-- By which moment a request is sent on.
use Rattle.std.proofs.Common.{◌≡◌, ℕ, ◌≤◌, ◌<◌, Bool, true, false, not, ◌&&◌, List, [], ◌∷◌, Option, Some, None, refl, sym, ap, ◌∙◌, subst, inl, inr, arith}
use Rattle.std.specs.Prelude.{IsTrue, is_some, unwrap_or, nat_le, nat_lt, if◌then◌else◌}
use Rattle.std.specs.Option.{option_or}
use Rattle.std.proofs.lemmas.Bool.{false≢true, true≢false, leb-true, ltb-true, le-leb, lt-ltb}
use Rattle.http_config.specs.Config.{Settings}
use Rattle.model_h1.specs.Setting.{Setting}
use Rattle.model_h1.specs.Limits.{MAX_MOMENT}
use Rattle.model_h1.specs.Event as on
use Rattle.model_h1.specs.Sums as sums
use Rattle.model_state.specs.Kept.{Kept, now as client_now}
use Rattle.model_state.specs.Local.{allowed_by, closing_by, is_moment}
use Rattle.model_state.specs.StandsFor.{StandsFor}
use Rattle.h1_connection.specs.EventMeaning.{setting_of}
use Rattle.model_client.specs.ClientEvent as asked
use Rattle.model_client.specs.ClientKept.{ClientKept, client_closing, client_allows, is_waited_for, is_free}
use Rattle.model_client.specs.ClientTrace.{Happened, IsClientTrace, now_of, now_after}
use Rattle.model_client.proofs.Written.{is_text}
use Rattle.h1_client.specs.ClientMeaning as asking
use Rattle.h1_client.specs.State as servers
use Rattle.model_proxy.specs.Past.{ProxyStep, ProxyEvent, ProxyOutcome, tick_of, last_tick, now}
use Rattle.model_proxy.specs.Happenings.{Happenings, Link}
use Rattle.model_proxy.specs.Carried.{IsServer}
use Rattle.model_proxy.specs.Moves.{DoesAsked}
use Rattle.proxy.specs.Sides.{ServerDid}
use Rattle.proxy.specs.declared.proxy.Proxy.{Proxy}
use Rattle.proxy.specs.Kept.{Forwards, IsTimed, time_of, client_takes}
use Rattle.proxy.specs.Fresh.{is_used, IsToldTime}
use Rattle.proxy.proofs.Fresh.{unused}

-- ---- what was told a server connection

-- what happened on the connection that is there
pub trace_of : (setting : Setting) (k : ClientKept) (links : List Link) → IsServer setting (Some k) links → (trace : List Happened) × IsClientTrace setting trace k
trace_of setting k (l ∷ links) x = (l.happened, x)
trace_of setting k [] x = absurd x

pub did_now : (event : asked.ClientEvent) (a b : servers.State) → ServerDid event a b → (trace : List Happened) → servers.Stands a trace
    → b.kept.now ≡ now_after event a.kept.now
did_now event a b x trace stands =
    let setting = asking.setting_of a.settings in
    let old = is_text setting trace a.kept stands in
    let new = is_text setting (record { event = event; outcome = asked.done } ∷ trace) b.kept (a.kept, stands, x.allowed, x.step) in
    new.now ∙ ap (now_after event) (sym old.now)

pub happened_now : (event : asked.ClientEvent) (o : asked.ClientOutcome) (a b : servers.State) → b.settings ≡ a.settings → ((n : ℕ) → now_after event n ≡ n)
    → (trace : List Happened) → servers.Stands a trace → DoesAsked (asking.setting_of a.settings) event o a.kept b.kept → b.kept.now ≡ a.kept.now
happened_now event o a b settings same trace stands does =
    let setting = asking.setting_of a.settings in
    let old = is_text setting trace a.kept stands in
    let new = is_text setting (record { event = event; outcome = o } ∷ trace) b.kept (does trace stands) in
    new.now ∙ same (now_of trace) ∙ sym old.now

-- ---- it is that of the last tick

pub moved_time : (m : Option ℕ) (a b : servers.State) (history : List ProxyStep) → b.kept.now ≡ a.kept.now → IsTimed m (Some a) history → IsTimed m (Some b) history
moved_time m a b history same x =
    record { last = x.last; below = x.below; told = subst (λ (n : ℕ). n ≤ unwrap_or m 0) (sym same) x.told }

pub closed_time : (m : Option ℕ) (s : Option servers.State) (history : List ProxyStep) → IsTimed m s history → IsTimed m None history
closed_time m s history x = record { last = x.last; below = x.below; told = omega arith }

-- a server connection that was told the last moment, if there is one
pub told_time : (m : Option ℕ) (a b : servers.State) (history : List ProxyStep) (trace : List Happened) → servers.Stands a trace → IsToldTime m a b
    → IsTimed m (Some a) history → IsTimed m (Some b) history
told_time None a b history trace stands same x = moved_time None a b history (ap (λ (s : servers.State). s.kept.now) same) x
told_time (Some m) a b history trace stands (inr not_told) x = moved_time (Some m) a b history (ap (λ (s : servers.State). s.kept.now) not_told.same) x
told_time (Some m) a b history trace stands (inl did) x =
    let is = did_now (asked.tick m) a b did trace stands in
    record { last = x.last; below = x.below; told = omega (arith, is) }

-- an event of which no moment comes
pub quiet_time : (event : ProxyEvent) (outcome : ProxyOutcome) (m : Option ℕ) (s : Option servers.State) (history : List ProxyStep) → tick_of event ≡ None
    → IsTimed m s history → IsTimed m s (record { event = event; outcome = outcome } ∷ history)
unfolding last_tick
quiet_time event outcome m s history none x =
    record { last = x.last ∙ sym (ap (λ (t : Option ℕ). option_or t (last_tick history)) none); below = x.below; told = x.told }

-- a server connection that is new was told none
pub fresh_time : (event : ProxyEvent) (outcome : ProxyOutcome) (m : Option ℕ) (s : Option servers.State) (config : Settings) (history : List ProxyStep)
    → tick_of event ≡ None → IsTimed m s history → IsTimed m (Some (servers.fresh_state config)) (record { event = event; outcome = outcome } ∷ history)
fresh_time event outcome m s config history none x =
    quiet_time event outcome m (Some (servers.fresh_state config)) history none (record { last = x.last; below = x.below; told = omega arith })

pub no_time : IsTimed None None []
unfolding last_tick
no_time = record { last = refl; below = omega arith; told = omega arith }

-- ---- a tick

stands_now : (setting : Setting) (k : Kept) (trace : List sums.Step) → StandsFor setting k trace → client_now k ≡ sums.now trace
stands_now setting k trace x = ap client_now x.parts ∙ ap sums.now x.of_trace.same

both : (a b : Bool) → (a && b) ≡ true → (a ≡ true) × (b ≡ true)
both true true is = (refl, refl)
both true false is = absurd (false≢true is)
both false b is = absurd (false≢true is)

same_branches : (closes a : Bool) → (if closes then a else a) ≡ true → a ≡ true
same_branches true a is = is
same_branches false a is = is

tick_moment : (setting : Setting) (k : Kept) (ms : ℕ) → IsTrue (allowed_by setting k (on.tick ms)) → is_moment k ms ≡ true
unfolding allowed_by
tick_moment setting k ms may =
    same_branches (is_some (closing_by setting k)) (is_moment k ms) (both (not k.is_over) (if is_some (closing_by setting k) then is_moment k ms else is_moment k ms) may).1

pub tick_time : (ms : ℕ) (outcome : ProxyOutcome) (event : ProxyEvent) (p : Proxy) → tick_of event ≡ Some ms → IsTrue (client_takes p (on.tick ms))
    → (history : List ProxyStep) (all : Happenings) → Forwards p history all
    → IsTimed (Some ms) p.server (record { event = event; outcome = outcome } ∷ history)
unfolding last_tick
tick_time ms outcome event p ticks may history all f =
    let moment = both (nat_le (client_now p.client.kept) ms) (nat_lt ms MAX_MOMENT) (tick_moment (setting_of p.client.settings) p.client.kept ms may) in
    let later : client_now p.client.kept ≤ ms = leb-true _ _ moment.0 in
    let below : ms < MAX_MOMENT = ltb-true _ _ moment.1 in
    let stood = stands_now _ p.client.kept all.client f.carries.stands ∙ f.carries.forwarded.sums.moment in
    let told : time_of p.server ≤ now history = subst (λ (m : Option ℕ). time_of p.server ≤ unwrap_or m 0) f.time.last f.time.told in
    record {
      last = sym (ap (λ (t : Option ℕ). option_or t (last_tick history)) ticks);
      below = below;
      told = omega (arith, stood, told, later);
    }

-- ---- a request is dated by it

goes_of : (over closes free : Bool) → (not over && true && (if closes then true else free)) ≡ true → not over ≡ true
goes_of true closes free may = absurd (false≢true may)
goes_of false closes free may = refl

-- one by which a request may be sent on takes a moment that isn't before its last one
not_refused : (k : ClientKept) (setting : Setting) (m : ℕ) → client_allows setting k asked.next ≡ true → k.now ≤ m → m < MAX_MOMENT
    → client_allows setting k (asked.tick m) ≡ false → ⊥
not_refused k setting m may later below refused =
    let goes = goes_of k.is_over (is_some (client_closing k)) (is_free k) may in
    by_parts k.is_over (nat_le k.now m) (nat_lt m MAX_MOMENT) (is_some (client_closing k)) goes (le-leb k.now m later) (lt-ltb m MAX_MOMENT below) refused
  where
    by_parts : (over later below closes : Bool) → not over ≡ true → later ≡ true → below ≡ true
        → (not over && (later && below) && (if closes then true else true)) ≡ false → ⊥
    by_parts true later below closes goes is_later is_below refused = false≢true goes
    by_parts false true true true goes is_later is_below refused = true≢false refused
    by_parts false true true false goes is_later is_below refused = true≢false refused
    by_parts false false below closes goes is_later is_below refused = false≢true is_later
    by_parts false true false closes goes is_later is_below refused = false≢true is_below

-- of what is kept, the moment is that of the last tick
by_moment : (m : Option ℕ) (a b : servers.State) (history : List ProxyStep) (trace : List Happened) → servers.Stands a trace → is_used a ≡ false
    → IsToldTime m a b → IsTimed m (Some a) history → b.kept.now ≡ unwrap_or m 0
by_moment None a b history trace stands free same x =
    let is = ap (λ (s : servers.State). s.kept.now) same in omega (arith, is, x.told)
by_moment (Some m) a b history trace stands free (inl did) x = did_now (asked.tick m) a b did trace stands
by_moment (Some m) a b history trace stands free (inr not_told) x =
    let parts = unused (is_some (client_closing a.kept)) (is_waited_for a.kept.waiting) (client_allows (asking.setting_of a.settings) a.kept asked.next) free in
    absurd (not_refused a.kept (asking.setting_of a.settings) m parts.2 x.told x.below not_told.refused)

pub dated : (p : Proxy) (a b : servers.State) → p.server ≡ Some a → is_used a ≡ false → IsToldTime p.moment a b → (history : List ProxyStep) (all : Happenings)
    → Forwards p history all → b.kept.now ≡ now history
dated p a b is free told history all f =
    let g = subst (λ (s : Option servers.State). Forwards (record p { server = s }) history all) is f in
    let y = trace_of (asking.setting_of p.config.connections) a.kept all.links g.carries.server in
    let stands = subst (λ (s : Settings). IsClientTrace (asking.setting_of s) y.0 a.kept) (sym g.server) y.1 in
    by_moment p.moment a b history y.0 stands free told g.time ∙ ap (λ (m : Option ℕ). unwrap_or m 0) f.time.last
