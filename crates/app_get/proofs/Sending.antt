-- What is sent, and that nothing is.
use Rattle.std.specs.Prelude.{◌≡◌, ℕ, ◌<◌, ◌≤◌, false, List, [], length, take}
use Rattle.std.proofs.Common.{refl, sym, ap, subst, ◌∙◌, inl, inr, arith}
use Rattle.std.proofs.lemmas.List.{length-take-le}
use Rattle.std.specs.Io.KnownBytes.{Keeps}
use Rattle.std.proofs.KnownBytes.{Keeps-refl}
use Rattle.http_config.specs.Causes.{Rose}
use Rattle.h1_client.specs.ClientMeaning.{setting_of}
use Rattle.h1_client.specs.State.{GoesOn, Is}
use Rattle.model_client.specs.ClientEvent as on
use Rattle.model_client.specs.ClientEvent.{ClientOutcome}
use Rattle.model_client.specs.ClientKept.{client_allows}
use Rattle.model_client.specs.ClientTrace.{written, given as gave}
use Rattle.app_get.specs.declared.error.GetError.{GetError}
use Rattle.app_get.specs.declared.error.GetError.TheVariants as get_error
use Rattle.app_get.specs.declared.transport.Sent.{Sent}
use Rattle.app_get.specs.declared.transport.Sent.TheVariants as sending
use Rattle.app_get.specs.Exchange.{Ends, Goes, Wrote, SendsSome, SendsNone, IsSent, IsPending, IsWaiting}
use Rattle.app_get.specs.Failure.{Stops}
use Rattle.app_get.proofs.Going.{goes_none}
use Rattle.app_get.proofs.Stopping.{stops_here, as_error}

pub sent_goes : (s : Sent) (a b : Ends) → IsSent s a b → Goes a b
sent_goes sending.Some a b is = is.goes
sent_goes sending.NotNow a b is = is.goes
sent_goes sending.Nothing a b is = is.goes

-- ---- some is

pub some_sent : (was old new : Ends) (count : ℕ) (bytes : List ℕ) → old ≡ was → ((goes : Goes was new) × (0 < length (written goes.more)))
    → GoesOn old.state (on.write count) (Is (on.gave bytes)) new.state → SendsSome was new
some_sent was old new count bytes seen x wrote = record {
  goes = x.0;
  some = x.1;
  wrote = subst (λ (l : Ends). Wrote l new) seen (inr (count, bytes, wrote));
}

pub some_taken : (count : ℕ) (bytes : List ℕ) → count ≤ length bytes → 0 < count → 0 < length (take count bytes)
some_taken count bytes within some = omega (arith, length-take-le count bytes within)

pub gave_some : (o : ClientOutcome) (bytes : List ℕ) → Is (on.gave bytes) o → 0 < length bytes → 0 < length (gave o)
gave_some o bytes is some = subst (λ (o : ClientOutcome). 0 < length (gave o)) (sym is) some

-- ---- none is

pub none_waits : (a : Ends) → a.state.kept.buffered ≡ [] → SendsNone a a
none_waits a none = record { goes = goes_none a; why = inl none; out = Keeps-refl a.out; wrote = inl refl }

pub none_may : (a : Ends) → client_allows (setting_of a.state.settings) a.state.kept (on.write 0) ≡ false → SendsNone a a
none_may a may = record { goes = goes_none a; why = inr (inl may); out = Keeps-refl a.out; wrote = inl refl }

-- the server takes nothing now
pub none_now : (was old new : Ends) → old ≡ was → Goes was new → Rose old.sent_faults new.sent_faults → Keeps old.out new.out → new.state ≡ old.state
    → SendsNone was new
none_now was old new seen goes rose out state = record {
  goes = goes;
  why = inr (inr (subst (λ (l : Ends). Rose l.sent_faults new.sent_faults) seen rose));
  out = subst (λ (l : Ends). Keeps l.out new.out) seen out;
  wrote = inl (state ∙ ap (λ (l : Ends). l.state) seen);
}

-- what was waited for is so on
pub sent_waits : (s : Sent) (a b : Ends) → IsPending a → IsSent s a b → IsWaiting b
sent_waits sending.Some a b pending is = record { last = a; pending = pending; wrote = is.wrote }
sent_waits sending.NotNow a b pending is = record { last = a; pending = pending; wrote = is.wrote }
sent_waits sending.Nothing a b pending is = record { last = a; pending = pending; wrote = is.wrote }

-- patience runs out where nothing more has come, and nothing is sent
pub late_unsent : (a b : Ends) (error : GetError) → error ≡ get_error.Late → IsPending a → SendsNone a b → Stops a b error
late_unsent a b error is pending unsent = as_error a b get_error.Late error is (stops_here a a b get_error.Late refl (pending, unsent.why) unsent.out)
