-- When a connection is free.
use Rattle.std.specs.Prelude.{◌≡◌, ℕ, ◌-◌, Bool, true, false, not, ◌&&◌, ◌==◌, List, [], ◌∷◌, ◌++◌, length, take, drop, min, Option, Some, None, is_some, IsTrue, if◌then◌else◌}
use Rattle.std.specs.Option.{option_or}
use Rattle.std.proofs.Common.{refl, sym, ap, subst}
use Rattle.model_h1.specs.Event as server
use Rattle.model_h1.specs.Request.{Fault, malformed, too_large}
use Rattle.model_h1.specs.Setting.{Setting}
use Rattle.model_client.specs.AnswerParse.{is_interim}
use Rattle.model_client.specs.AnswerReading.{AnswerReading, answer_is, refused}
use Rattle.model_client.specs.ClientEvent as on
use Rattle.model_client.specs.ClientEvent.{ClientEvent, ClientEnd, ClientOutcome}
use Rattle.model_client.specs.ClientKept.{Waiting, SendingBody, ReadingBody, ClientKept, is_free, client_closing, client_allows}
use Rattle.model_client.specs.ClientStep.{ClientChange, behind_final, sending_piece, ending_body, passing, body_at_end, dropping, end_of, IsPulling, fault_end, behind_head, without_head, IsUpcoming, IsNext, IsClientChange, IsClientStep}
use Rattle.model_client.specs.ClientTrace.{Happened, IsClientTrace}
use Rattle.app_get.specs.Exchange.{is_failure}

-- what a fault has brought is a failure
abbrev is_sound : Option ClientEnd → Bool
is_sound None = true
is_sound (Some end) = is_failure (Some end)

abbrev Sound : ClientKept → Type 0
Sound k = is_sound k.failed ≡ true

-- ---- each step keeps it so

or_sound : (a b : Option ClientEnd) → is_sound a ≡ true → is_sound b ≡ true → is_sound (option_or a b) ≡ true
or_sound None b first second = second
or_sound (Some end) b first second = first

if_sound : (test : Bool) (end : ClientEnd) → is_failure (Some end) ≡ true → is_sound (if test then Some end else None) ≡ true
if_sound true end is = is
if_sound false end is = refl

-- what is kept is one of two
either_sound : (test : Bool) (a b : ClientKept) → Sound a → Sound b → Sound (if test then a else b)
either_sound true a b first second = first
either_sound false a b first second = second

piece_sound : (bytes : List ℕ) (body : Option SendingBody) (k : ClientKept) → Sound k → Sound (sending_piece bytes body k)
piece_sound bytes None k sound = sound
piece_sound bytes (Some body) k sound = sound

ending_sound : (body : Option SendingBody) (k : ClientKept) → Sound k → Sound (ending_body body k)
ending_sound None k sound = sound
ending_sound (Some body) k sound = or_sound k.failed _ sound (if_sound _ on.failed_request refl)

passing_sound : (body : Option ReadingBody) (k : ClientKept) → Sound k → Sound (passing body k)
passing_sound None k sound = sound
passing_sound (Some body) k sound = either_sound _ _ k (or_sound k.failed _ sound (if_sound _ on.broken_answer refl)) sound

dropping_sound : (body : Option ReadingBody) (k : ClientKept) → Sound k → Sound (dropping body k)
dropping_sound None k sound = sound
dropping_sound (Some body) k sound = passing_sound (Some (record body { was_dropped = true })) (record k { reading = Some (record body { was_dropped = true }) }) sound

fault_sound : (f : Fault) → is_failure (Some (fault_end f)) ≡ true
fault_sound too_large = refl
fault_sound malformed = refl

head_sound : (k : ClientKept) (end : ℕ) (w : Waiting) (ws : List Waiting) (what : AnswerReading) → Sound k → Sound (behind_head k end w ws what).kept
head_sound k end w ws (refused f) sound = fault_sound f
head_sound k end w ws (answer_is a) sound = either_sound (is_interim a.status) (record k { unread = drop end k.unread }) (behind_final k (drop end k.unread) a w ws) sound sound

either_change : (test : Bool) (a b : ClientChange) → Sound a.kept → Sound b.kept → Sound (if test then a else b).kept
either_change true a b first second = first
either_change false a b first second = second

without_sound : (setting : Setting) (k : ClientKept) → Sound k → Sound (without_head setting k).kept
without_sound setting k sound =
    either_change (length k.unread == setting.hold_size) (record { outcome = on.fault too_large; kept = record k { failed = Some on.large_answer } })
    (record { outcome = on.pending; kept = k }) refl sound

as_kept : (c d : ClientChange) → c ≡ d → Sound d.kept → Sound c.kept
as_kept c d is sound = subst (λ (c : ClientChange). Sound c.kept) (sym is) sound

upcoming_sound : (setting : Setting) (k : ClientKept) (waiting : List Waiting) (coming : Bool) (c : ClientChange) → IsUpcoming setting k waiting coming c → Sound k → Sound c.kept
upcoming_sound setting k waiting false c is sound = as_kept c (without_head setting k) is (without_sound setting k sound)
upcoming_sound setting k [] true c is sound = as_kept c _ is sound
upcoming_sound setting k (w ∷ ws) true c x sound = as_kept c _ x.5 (head_sound k x.1 w ws x.2 sound)

next_sound : (setting : Setting) (k : ClientKept) (closing : Option ClientEnd) (c : ClientChange) → IsNext setting k closing c → Sound k → Sound c.kept
next_sound setting k (Some end) c is sound = as_kept c _ is sound
next_sound setting k None c is sound = upcoming_sound setting k k.waiting k.is_coming c is sound

end_sound : (o : server.Outcome) → is_sound (end_of o) ≡ true
end_sound (server.took n) = refl
end_sound (server.head h) = refl
end_sound (server.bytes given) = refl
end_sound (server.trailers lines) = refl
end_sound server.body_ended = refl
end_sound (server.frame f) = refl
end_sound server.pending = refl
end_sound (server.closed end) = refl
end_sound (server.fault f) = refl
end_sound (server.broken_by fault) = refl
end_sound (server.protocol e) = refl
end_sound (server.refused e) = refl
end_sound (server.gave bytes) = refl
end_sound (server.expired end) = refl
end_sound server.abandoned = refl
end_sound server.done = refl

pulling_sound : (k : ClientKept) (body : Option ReadingBody) (c : ClientChange) → IsPulling k body c → Sound k → Sound c.kept
pulling_sound k None c is sound = as_kept c _ is sound
pulling_sound k (Some body) c x sound = as_kept c _ x.2 (or_sound k.failed (end_of x.0.outcome) sound (end_sound x.0.outcome))

change_sound : (setting : Setting) (k : ClientKept) (event : ClientEvent) (c : ClientChange) → IsClientChange setting k event c → Sound k → Sound c.kept
change_sound setting k (on.ask r size) c is sound = as_kept c _ is sound
change_sound setting k (on.chunk bytes) c is sound = as_kept c _ is (piece_sound bytes k.sending k sound)
change_sound setting k on.body_end c is sound = as_kept c _ is (ending_sound k.sending k sound)
change_sound setting k on.body_error c is sound = as_kept c _ is (or_sound k.failed (Some on.failed_request) sound refl)
change_sound setting k (on.read bytes) c is sound =
    as_kept c _ is (passing_sound k.reading (record k { unread = k.unread ++ take (min (length bytes) (setting.hold_size - length k.unread)) bytes }) sound)
change_sound setting k on.eof c is sound =
    as_kept c _ is (passing_sound (body_at_end k.unread k.reading) (record k { has_ended = true; reading = body_at_end k.unread k.reading }) sound)
change_sound setting k on.next c is sound = next_sound setting k (client_closing k) c is sound
change_sound setting k on.pull c is sound = pulling_sound k k.reading c is sound
change_sound setting k on.drop_body c is sound = as_kept c _ is (dropping_sound k.reading k sound)
change_sound setting k (on.write n) c is sound = as_kept c _ is sound
change_sound setting k (on.tick ms) c is sound = as_kept c _ is sound

step_sound : (setting : Setting) (k : ClientKept) (event : ClientEvent) (o : ClientOutcome) (next : ClientKept) → IsClientStep setting k event o next → Sound k → Sound next
step_sound setting k event o next step sound = subst Sound (sym step.keeps) (change_sound setting k event step.change step.changes sound)

trace_sound : (setting : Setting) (trace : List Happened) (k : ClientKept) → IsClientTrace setting trace k → Sound k
trace_sound setting [] k is = subst Sound (sym is) refl
trace_sound setting (s ∷ before) k x = step_sound setting x.0 s.event s.outcome k x.3 (trace_sound setting before x.0 x.1)

-- ---- so it is free where it ends in order

ended_free : (failed : Option ClientEnd) (free : Bool) (other : Option ClientEnd) (end : ClientEnd) → is_sound failed ≡ true
    → (if is_some failed then failed else (if not free then None else other)) ≡ Some end → is_failure (Some end) ≡ false → free ≡ true
ended_free (Some f) free other end sound is fine = absurd (cc (sound, ap is_failure is, fine))
ended_free None true other end sound is fine = refl
ended_free None false other end sound is fine = absurd (cc is)

pub free_at_end : (setting : Setting) (k : ClientKept) (end : ClientEnd) → client_closing k ≡ Some end → is_failure (Some end) ≡ false
    → (trace : List Happened) → IsClientTrace setting trace k → is_free k ≡ true
free_at_end setting k end is fine trace stands = ended_free k.failed (is_free k) _ end (trace_sound setting trace k stands) is fine

-- ---- and where it goes on and may hand out the next answer

next_free : (over free : Bool) (closing : Option ClientEnd) → closing ≡ None → (not over && true && (if is_some closing then true else free)) ≡ true → free ≡ true
next_free true free closing is may = absurd (cc may)
next_free false free (Some end) is may = absurd (cc is)
next_free false free None is may = may

pub free_for_next : (setting : Setting) (k : ClientKept) → client_closing k ≡ None → IsTrue (client_allows setting k on.next) → is_free k ≡ true
free_for_next setting k is may = next_free k.is_over (is_free k) (client_closing k) is may
