-- Where an exchange stops.
use Rattle.std.specs.Prelude.{◌≡◌, ℕ, ◌-◌, ◌≤◌, nat_lt, Bool, true, false, List, length, take, if◌then◌else◌, Option, Some, None, Result, Ok, Err, IfErr, OnErr, IsErrAnd, ◌⊎◌}
use Rattle.std.proofs.Common.{refl, sym, subst, ◌∙◌, inl, inr}
use Rattle.std.proofs.lemmas.List.{length-take-le}
use Rattle.std.specs.Io.KnownBytes.{Keeps}
use Rattle.std.proofs.KnownBytes.{Keeps-refl}
use Rattle.http_config.specs.Causes.{Rose}
use Rattle.h1_payload.specs.declared.pulled.BodyFault.TheVariants.{Corrupted, Incomplete}
use Rattle.h1_payload.specs.declared.pulled.Pulled.{Pulled}
use Rattle.h1_payload.specs.declared.pulled.Pulled.TheVariants as pulled
use Rattle.h1_client.specs.Answers.{SaysNext}
use Rattle.h1_client.specs.State.{GoesOn, Is}
use Rattle.h1_client.specs.declared.event.ClientEnd.{ClientEnd}
use Rattle.h1_client.specs.declared.event.ClientEnd.TheVariants as end
use Rattle.h1_client.specs.declared.event.NextAnswer.{NextAnswer}
use Rattle.h1_client.specs.declared.event.NextAnswer.TheVariants as next
use Rattle.h1_client.specs.declared.heads.AnswerFault.TheVariants.{Malformed, TooLarge}
use Rattle.model_client.specs.ClientEvent as on
use Rattle.model_client.specs.ClientEvent.{ClientOutcome}
use Rattle.model_client.specs.ClientKept.{client_closing}
use Rattle.app_get.specs.declared.error.GetError.{GetError}
use Rattle.app_get.specs.declared.error.GetError.TheVariants as get_error
use Rattle.app_get.specs.Exchange.{Ends, Goes, Acts, noted_by, is_unwanted, is_failure, IsWaiting}
use Rattle.app_get.specs.Failure.{Hears, Heard, Draws, IsStuck, BreaksOff, IsCause, IsPart, IsUnshown, WritesOut, Fails, Stops, IsEndless, is_heard, error_by}
use Rattle.app_get.specs.Patience.{left_of}
use Rattle.app_get.proofs.Going.{goes_none, goes_as, goes_then}

-- ---- here, or after it went on

pub fails_here : (was old new : Ends) (e : GetError) → old ≡ was → Fails e old new → Stops was new e
fails_here was old new e seen fails = subst (λ (l : Ends). Stops l new e) seen (record { last = old; goes = goes_none old; fails = fails })

pub stops_here : (was old new : Ends) (e : GetError) → old ≡ was → IsCause e old new → WritesOut e old new → Stops was new e
stops_here was old new e seen cause writes = fails_here was old new e seen (record { cause = cause; writes = writes })

pub stops_then : (a b c : Ends) (e : GetError) → Goes a b → Stops b c e → Stops a c e
stops_then a b c e first s = record { last = s.last; goes = goes_then a b s.last first s.goes; fails = s.fails }

pub err_then : {T : Type 0} (r : Result T GetError) (a b c : Ends) → Goes a b → IfErr r (λ e. Stops b c e) → IfErr r (λ e. Stops a c e)
err_then (Ok x) a b c first second = tt
err_then (Err e) a b c first second = stops_then a b c e first second

-- where it is known which error there is
pub err_as : {T : Type 0} (r : Result T GetError) (e : GetError) (P : GetError → Type 0) → IsErrAnd r (λ d. d ≡ e) → P e → IfErr r P
err_as (Ok x) e P is holds = tt
err_as (Err d) e P is holds = subst P (sym is) holds

pub err_stops : {T : Type 0} (r : Result T GetError) (e : GetError) (was new : Ends) → IsErrAnd r (λ d. d ≡ e) → Stops was new e → IfErr r (λ e. Stops was new e)
err_stops r e was new is stops = err_as r e (λ (e : GetError). Stops was new e) is stops

pub err_ends : {T : Type 0} (r : Result T GetError) (e : GetError) (was new : Ends) → IsErrAnd r (λ d. d ≡ e) → Stops was new e
    → IfErr r (λ e. Stops was new e ⊎ IsEndless was new e)
err_ends r e was new is stops = err_as r e (λ (e : GetError). Stops was new e ⊎ IsEndless was new e) is (inl stops)

pub err_always : {T E : Type 0} (r : Result T E) (P : Type 0) → P → OnErr r P
err_always (Ok x) P holds = tt
err_always (Err e) P holds = holds

pub as_error : (was new : Ends) (e error : GetError) → error ≡ e → Stops was new e → Stops was new error
as_error was new e error is stops = subst (λ (e : GetError). Stops was new e) (sym is) stops

pub keeps_equal : (a b : Option (List ℕ)) → b ≡ a → Keeps a b
keeps_equal a b same = subst (λ (l : Option (List ℕ)). Keeps a l) (sym same) (Keeps-refl a)

-- ---- for want of memory, and by the file

pub no_memory : (was old new : Ends) (error : GetError) → old ≡ was → error ≡ get_error.NoMemory → Keeps old.out new.out → Stops was new error
no_memory was old new error seen is out = as_error was new get_error.NoMemory error is (stops_here was old new get_error.NoMemory seen tt out)

pub file_fails : (was old new : Ends) (error : GetError) → old ≡ was → (error ≡ get_error.File) × Rose old.file_faults new.file_faults → Keeps old.out new.out
    → Stops was new error
file_fails was old new error seen cause out = as_error was new get_error.File error cause.0 (stops_here was old new get_error.File seen cause.1 out)

-- ---- by the output

-- a piece of the body isn't written out to its end
pub piece_fails : (was old new : Ends) (error : GetError) (x : Pulled) (bytes slice : List ℕ) → old ≡ was
    → (error ≡ get_error.Output) × Rose old.out_faults new.out_faults → Draws old x new → x ≡ pulled.Bytes bytes → slice ≡ bytes
    → IsPart old.out new.out slice → Stops was new error
piece_fails was old new error x bytes slice seen cause draws is same part =
    as_error was new get_error.Output error cause.0
    (stops_here was old new get_error.Output seen cause.1
    (λ hides. record {
      bytes = bytes;
      draws = subst (λ (x : Pulled). Draws old x new) is draws;
      part = subst (λ (l : List ℕ). IsPart old.out new.out l) same part;
    }))

pub unshown : {T : Type 0} (r : Result T GetError) (old new : Option (List ℕ)) (before now : ℕ) → IfErr r (λ e. (e ≡ get_error.Output) × Rose before now)
    → IfErr r (λ e. IsUnshown e old new before now)
unshown (Ok x) old new before now cause = tt
unshown (Err e) old new before now cause = subst (λ (e : GetError). IsUnshown e old new before now) (sym cause.0) cause.1

-- a head isn't written out
head_refused : (old new : Ends) (e : GetError) → old.wanted.head ≡ true → IsUnshown e old.out new.out old.out_faults new.out_faults → Fails e old new
head_refused old new get_error.NoMemory shows is = record { cause = tt; writes = is }
head_refused old new get_error.Output shows is = record { cause = is; writes = λ hides. absurd (cc (shows, hides)) }
head_refused old new _ shows is = absurd is

pub head_fails : (was old new : Ends) (e : GetError) → old ≡ was → old.wanted.head ≡ true → IsUnshown e old.out new.out old.out_faults new.out_faults → Stops was new e
head_fails was old new e seen shows is = fails_here was old new e seen (head_refused old new e shows is)

-- ---- by the connection's end

pub unheard_is : (begun : Bool) (status : Option ℕ) → is_heard begun status ≡ false → (begun ≡ false) × (status ≡ None)
unheard_is true status is = absurd (cc is)
unheard_is false None is = (refl, refl)
unheard_is false (Some n) is = absurd (cc is)

-- it was lost, or its end was told
broken_fails : (known : Bool) (last new : Ends) → (known ≡ false → (last.begun ≡ false) × (last.status ≡ None)) → BreaksOff last new → Keeps last.out new.out
    → Fails (if known then get_error.Lost else get_error.Unanswered) last new
broken_fails true last new unheard breaks out = record { cause = inl breaks; writes = out }
broken_fails false last new unheard breaks out = record { cause = ((unheard refl).0, (unheard refl).1, breaks); writes = out }

ended_fails : (known : Bool) (e : ClientEnd) (last new : Ends) → last.status ≡ None → (known ≡ false → (last.begun ≡ false) × (last.status ≡ None)) → Hears last (next.Closed e) new
    → Keeps last.out new.out → Fails (error_by known e) last new
ended_fails known end.BadAnswer last new none unheard hears out = record { cause = inr hears; writes = out }
ended_fails known end.LargeAnswer last new none unheard hears out = record { cause = inr hears; writes = out }
ended_fails known end.FailedRequest last new none unheard hears out = record { cause = inl hears; writes = out }
ended_fails known end.BrokenAnswer last new none unheard hears out = broken_fails known last new unheard (inl (none, (end.BrokenAnswer, hears))) out
ended_fails known end.Asked last new none unheard hears out = broken_fails known last new unheard (inl (none, (end.Asked, hears))) out
ended_fails known end.Unasked last new none unheard hears out = broken_fails known last new unheard (inl (none, (end.Unasked, hears))) out
ended_fails known end.InputEnded last new none unheard hears out = broken_fails known last new unheard (inl (none, (end.InputEnded, hears))) out

-- its end is told where a head is asked for
pub heard_ends : (old new : Ends) (x : NextAnswer) (e : ClientEnd) (error : GetError) → old.status ≡ None → Heard old x new → x ≡ next.Closed e
    → error ≡ error_by (is_heard new.begun new.status) e → Stops old new error
heard_ends old new x e error none heard is error_is =
    as_error old new (error_by (is_heard new.begun new.status) e) error error_is
    (fails_here old old new _ refl
    (ended_fails (is_heard new.begun new.status) e old new none
    (λ unheard. let u = unheard_is new.begun new.status unheard in ((heard.acts.goes.heard u.0).0, (heard.acts.goes.silent u.1).0))
    (subst (λ (x : NextAnswer). Hears old x new) is heard.hears) heard.out))

-- no byte can be read
pub unread_ends : (was old new : Ends) (error : GetError) → old ≡ was → IsWaiting was → Rose old.came_faults new.came_faults → new.begun ≡ old.begun → new.status ≡ old.status
    → Keeps old.out new.out → error ≡ error_by (is_heard new.begun new.status) end.InputEnded → Stops was new error
unread_ends was old new error seen waiting rose begun status out error_is =
    as_error was new (error_by (is_heard new.begun new.status) end.InputEnded) error error_is
    (fails_here was old new _ seen
    (broken_fails (is_heard new.begun new.status) old new
    (λ unheard. let u = unheard_is new.begun new.status unheard in (sym begun ∙ u.0, sym status ∙ u.1)) (inr (inr (subst (λ (l : Ends). IsWaiting l) (sym seen) waiting, rose))) out))

-- what is heard, as it is seen from before
pub heard_as : (was old new : Ends) (x : NextAnswer) → old ≡ was → Acts was new → Hears old x new
    → ((o : ClientOutcome) → SaysNext x o → new.status ≡ noted_by o old.status) → Keeps old.out new.out → Heard was x new
heard_as was old new x seen acts hears notes out = record {
  acts = acts;
  hears = subst (λ (l : Ends). Hears l x new) seen hears;
  notes = subst (λ (l : Ends). (o : ClientOutcome) → SaysNext x o → new.status ≡ noted_by o l.status) seen notes;
  out = subst (λ (l : Ends). Keeps l.out new.out) seen out;
}

-- ---- by what came

pub heard_malformed : (old new : Ends) (x : NextAnswer) → Heard old x new → x ≡ next.Fault Malformed → Stops old new get_error.BadHead
heard_malformed old new x heard is =
    stops_here old old new get_error.BadHead refl (inl (subst (λ (x : NextAnswer). Hears old x new) is heard.hears)) heard.out

pub heard_too_large : (old new : Ends) (x : NextAnswer) → Heard old x new → x ≡ next.Fault TooLarge → Stops old new get_error.LongHead
heard_too_large old new x heard is =
    stops_here old old new get_error.LongHead refl (inl (subst (λ (x : NextAnswer). Hears old x new) is heard.hears)) heard.out

pub draws_corrupted : (was old new : Ends) (x : Pulled) → old ≡ was → Draws old x new → x ≡ pulled.Broken Corrupted → Keeps old.out new.out
    → Stops was new get_error.BadChunks
draws_corrupted was old new x seen draws is out = stops_here was old new get_error.BadChunks seen (subst (λ (x : Pulled). Draws old x new) is draws) out

pub draws_incomplete : (was old new : Ends) (x : Pulled) → old ≡ was → Draws old x new → x ≡ pulled.Broken Incomplete → Keeps old.out new.out
    → Stops was new get_error.Lost
draws_incomplete was old new x seen draws is out = stops_here was old new get_error.Lost seen (inr (inl (subst (λ (x : Pulled). Draws old x new) is draws))) out

-- ---- where nothing goes on

late_by : (test : Bool) (n : ℕ) → IfErr (if test then Ok n else Err get_error.Late) (λ (e : GetError). e ≡ get_error.Late)
late_by true n = tt
late_by false n = refl

-- patience that has run out
pub late_only : (r : Result ℕ GetError) (wait since now : ℕ) → r ≡ left_of wait since now → IfErr r (λ e. e ≡ get_error.Late)
late_only r wait since now is =
    subst (λ (r : Result ℕ GetError). IfErr r (λ e. e ≡ get_error.Late)) (sym is) (late_by (nat_lt 0 (wait - (now - since))) (wait - (now - since)))

pub stuck_stops : (was old new : Ends) → old ≡ was → IsStuck was → Keeps old.out new.out → Stops was new get_error.Lost
stuck_stops was old new seen stuck out =
    stops_here was old new get_error.Lost seen (inr (inr (inl (subst (λ (l : Ends). IsStuck l) (sym seen) stuck)))) out

-- fewer bytes were taken than came
pub loses_bytes : (was old new : Ends) (buf : List ℕ) (n count : ℕ) → old ≡ was → GoesOn old.state (on.read (take count buf)) (Is (on.took n)) new.state
    → count ≤ length buf → (n ≡ count → ⊥) → Keeps old.out new.out → Stops was new get_error.Lost
loses_bytes was old new buf n count seen reads within fewer out =
    stops_here was old new get_error.Lost seen
    (inr (inr (inr (record { bytes = take count buf; count = n; reads = reads; fewer = λ same. fewer (same ∙ length-take-le count buf within) })))) out

-- the connection has failed, although no more of the body is to come
pub failed_stops : (a : Ends) → is_failure (client_closing a.state.kept) ≡ true → Stops a a get_error.Lost
failed_stops a is = stops_here a a a get_error.Lost refl (inl (inr (inl is))) (Keeps-refl a.out)

pub short_stops : (a : Ends) → client_closing a.state.kept ≡ Some on.failed_request → Stops a a get_error.ShortFile
short_stops a is = stops_here a a a get_error.ShortFile refl (inr is) (Keeps-refl a.out)

pub protocol_stops : (was old new : Ends) → old ≡ was → old.status ≡ Some 101 → Keeps old.out new.out → Stops was new get_error.Protocol
protocol_stops was old new seen is out = stops_here was old new get_error.Protocol seen is out

-- the answer isn't wanted
pub unwanted_stops : (a : Ends) (status : ℕ) → a.status ≡ Some status → is_unwanted a.wanted status ≡ true → Stops a a get_error.Unwanted
unwanted_stops a status noted refused =
    stops_here a a a get_error.Unwanted refl (record { status = status; noted = noted; refused = refused }, refl) (Keeps-refl a.out)

-- until then it went on
unwanted_at : (a b : Ends) → Stops a b get_error.Unwanted → Goes a b
unwanted_at a b s = goes_as a s.last b s.fails.cause.1 s.goes

pub unwanted_goes : (a b : Ends) (e : GetError) → e ≡ get_error.Unwanted → Stops a b e ⊎ IsEndless a b e → Goes a b
unwanted_goes a b e is (inl s) = unwanted_at a b (subst (λ (e : GetError). Stops a b e) is s)
unwanted_goes a b e is (inr x) = absurd (cc (x.late, is))
