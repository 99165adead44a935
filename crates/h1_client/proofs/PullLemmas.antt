-- What a pull gives of an answer's body.
use Rattle.std.proofs.Common.{◌≡◌, ℕ, ◌<◌, Bool, true, false, not, ◌&&◌, ◌||◌, List, [], ◌∷◌, ◌++◌, Option, Some, None, refl, sym, ap, ◌∙◌, subst}
use Rattle.std.specs.Prelude.{is_some, option_map, if◌then◌else◌}
use Rattle.std.specs.Option.{option_or}
use Rattle.model_h1.specs.Place.{Place}
use Rattle.model_h1.specs.TakeNext.{Next, chunk, waits, ended, breaks, take_next}
use Rattle.model_h1.specs.Setting.{Setting}
use Rattle.model_h1.specs.Event as server
use Rattle.h1_decoder.specs.declared.scan.HeadScan.{HeadScan}
use Rattle.model_state.specs.Kept.{Rest, no_rest, raw_rest, fixed_rest, chunks_rest, frames_rest}
use Rattle.model_state.specs.Pull.{Pulled, lacking, pull_fixed, pull_raw, EndsWith, IsPullOfChunks, IsPull}
use Rattle.h1_payload.specs.Fitting.{Fits}
use Rattle.h1_payload.specs.Rests as payload
use Rattle.h1_payload.specs.declared.pulled.Pulled.{Pulled as Answer}
use Rattle.h1_payload.specs.declared.pulled.Pulled.TheVariants as answers
use Rattle.h1_payload.proofs.Fitting.{a_pull, still_fits}
use Rattle.model_client.specs.ClientEvent as on
use Rattle.model_client.specs.ClientEvent.{ClientEnd}
use Rattle.model_client.specs.ClientKept.{ClientKept, ReadingBody, is_free}
use Rattle.model_client.specs.ClientStep.{outcome_of, end_of, pulled_from, IsPulling, IsClientChange}
use Rattle.h1_client.specs.Incoming.{Incoming, is_coming_in}
use Rattle.h1_client.specs.ClientMeaning as meaning
use Rattle.h1_client.specs.Bodies.{SaysPulled, tells_done, breaks_body, failing, is_dropped_in, IsPulledFrom, IsPulledIn, IsLightPull}
use Rattle.h1_client.specs.Parts.{kept_of, reading_of, FitsIn, MayBeSearched, IsSound, IsSettled, Steps}
use Rattle.h1_client.specs.declared.connection.bodies.Reading.{Reading}
use Rattle.h1_client.specs.declared.connection.parts.Parts.{Parts}
use Rattle.h1_client.specs.declared.event.ClientEnd.TheVariants.{BrokenAnswer}
use Rattle.h1_client.specs.declared.event.ClientEnd as ends
use Rattle.h1_client.proofs.StepLemmas.{failed_where, settled_as, settled_sound, settled_step}

-- ---- what is told

-- the client's outcome says it
pub says_pulled : (answer : Answer) (o : server.Outcome) → payload.SaysPulled answer o → SaysPulled answer (outcome_of o)
says_pulled (answers.Bytes bytes) o is = ap outcome_of is
says_pulled (answers.Trailers entries) o is = (is.0, ap outcome_of is.1, is.2)
says_pulled answers.End o is = ap outcome_of is
says_pulled (answers.Broken fault) o is = ap outcome_of is
says_pulled answers.Pending o is = ap outcome_of is

-- a fault ends the connection
breaks_is : (answer : Answer) (o : server.Outcome) → payload.SaysPulled answer o → (if breaks_body answer then Some on.broken_answer else None) ≡ end_of o
breaks_is (answers.Bytes bytes) o is = sym (ap end_of is)
breaks_is (answers.Trailers entries) o is = sym (ap end_of is.1)
breaks_is answers.End o is = sym (ap end_of is)
breaks_is (answers.Broken fault) o is = sym (ap end_of is)
breaks_is answers.Pending o is = sym (ap end_of is)

-- ---- the end or the fault is told

abbrev done_of : server.Outcome → Bool
done_of server.body_ended = true
done_of (server.broken_by fault) = true
done_of outcome = false

answer_done : (answer : Answer) (o : server.Outcome) → payload.SaysPulled answer o → tells_done answer ≡ done_of o
answer_done (answers.Bytes bytes) o is = sym (ap (λ (o : server.Outcome). done_of o) is)
answer_done (answers.Trailers map) o is = sym (ap (λ (o : server.Outcome). done_of o) is.1)
answer_done answers.End o is = sym (ap (λ (o : server.Outcome). done_of o) is)
answer_done (answers.Broken fault) o is = sym (ap (λ (o : server.Outcome). done_of o) is)
answer_done answers.Pending o is = sym (ap (λ (o : server.Outcome). done_of o) is)

record Tells (p : Pulled) : Type 0 where
  pub done : p.is_done ≡ done_of p.outcome

tells_of : (p q : Pulled) → p ≡ q → Tells q → Tells p
tells_of p q is t = subst (λ (p : Pulled). Tells p) (sym is) t

lacking_tells : (stopped : Bool) (rest : Rest) (bytes : List ℕ) → Tells (lacking stopped rest bytes)
lacking_tells true rest bytes = record { done = refl }
lacking_tells false rest bytes = record { done = refl }

fixed_tells : (stopped : Bool) (n : ℕ) (bytes : List ℕ) → Tells (pull_fixed stopped n bytes)
fixed_tells stopped n [] = lacking_tells stopped (fixed_rest n) []
fixed_tells stopped n (b ∷ bytes) = record { done = refl }

raw_tells : (stopped : Bool) (bytes : List ℕ) → Tells (pull_raw stopped bytes)
raw_tells stopped (b ∷ bytes) = record { done = refl }
raw_tells true [] = record { done = refl }
raw_tells false [] = record { done = refl }

end_tells : (section behind : List ℕ) (p : Pulled) → EndsWith section behind p → Tells p
end_tells [] behind p is = tells_of p _ is (record { done = refl })
end_tells (b ∷ section) behind p is = tells_of p _ is.3 (record { done = refl })

chunks_tell : (stopped : Bool) (place : Place) (section bytes : List ℕ) (next : Next) (noted : List ℕ) (p : Pulled)
    → IsPullOfChunks stopped place section bytes next noted p → Tells p
chunks_tell stopped place section bytes (chunk given next behind) noted p is = tells_of p _ is (record { done = refl })
chunks_tell true place section bytes (waits next) noted p is = tells_of p _ is (record { done = refl })
chunks_tell false place section bytes (waits next) noted p is = tells_of p _ is (record { done = refl })
chunks_tell stopped place section bytes (ended behind) noted p is = end_tells (section ++ noted) behind p is
chunks_tell stopped place section bytes breaks noted p is = tells_of p _ is (record { done = refl })

-- of a rest that fits
pull_tells : (stopped : Bool) (rest : Rest) (bytes : List ℕ) (p : Pulled) → Fits rest → IsPull stopped rest bytes p → Tells p
pull_tells stopped no_rest bytes p fits is = tells_of p _ is (record { done = refl })
pull_tells stopped raw_rest bytes p fits is = tells_of p _ is (raw_tells stopped bytes)
pull_tells stopped (fixed_rest n) bytes p fits is = tells_of p _ is (fixed_tells stopped n bytes)
pull_tells stopped (chunks_rest place section) bytes p fits is =
    chunks_tell stopped place section bytes (take_next place bytes).next (take_next place bytes).trailers p is
pull_tells stopped (frames_rest under_way limit) bytes p fits is = absurd fits

-- ---- the step

-- the parts after a pull, before a head is searched for
abbrev pub pulled_parts : Parts → Reading → Incoming → Option ends.ClientEnd → Parts
pulled_parts p y after failed = record p { reading = Some y; input = after; failed = failed }

-- what is left of the body fits
fits_of : (p : Parts) (r : Reading) → p.reading ≡ Some r → is_dropped_in p.reading ≡ false → FitsIn p.reading → Fits r.rest
fits_of p r there wanted fits =
    subst (λ (o : Option Reading). is_dropped_in o ≡ false → FitsIn o → Fits r.rest) (sym there) (λ wanted fits. fits wanted) wanted fits

-- a pull of it
pub the_pull : (p : Parts) (r : Reading) → p.reading ≡ Some r → is_dropped_in p.reading ≡ false → IsSound p
    → (q : Pulled) × IsPull p.has_ended r.rest p.input.unread q
the_pull p r there wanted sound = a_pull p.has_ended r.rest p.input.unread (fits_of p r there wanted sound.fits)

-- it is what is kept then, but for whether a head is coming
kept_then : (p : Parts) (r y : Reading) (q : Pulled) (answer : Answer) (after : Incoming) (failed : Option ends.ClientEnd) → p.reading ≡ Some r → Fits r.rest
    → IsPull p.has_ended r.rest p.input.unread q → IsPulledFrom r q answer y after → failed ≡ failing (breaks_body answer) BrokenAnswer p.failed
    → kept_of (pulled_parts p y after failed) ≡ record (pulled_from (reading_of r) q (kept_of p)) { is_coming = is_coming_in after.piece }
kept_then p r y q answer after failed there fits pull from failed_is =
    let tells : tells_done answer ≡ q.is_done = answer_done answer q.outcome from.outcome ∙ sym (pull_tells p.has_ended r.rest p.input.unread q fits pull).done in
    let reading : y ≡ record r { rest = q.rest; is_done = q.is_done } = from.reading ∙ (λ i. record r { rest = q.rest; is_done = tells i }) in
    let fails : option_map meaning.end_of failed ≡ option_or (kept_of p).failed (end_of q.outcome) =
    ap (λ (o : Option ends.ClientEnd). option_map meaning.end_of o) failed_is ∙ failed_where p.failed (breaks_body answer) BrokenAnswer
    ∙ ap (λ (o : Option ClientEnd). option_or (kept_of p).failed o) (breaks_is answer q.outcome from.outcome) in
    λ i. record (kept_of p) { unread = from.unread i; is_coming = is_coming_in after.piece; reading = Some (reading_of (reading i)); failed = fails i }

-- the change of such a pull
change_of : (set : Setting) (p : Parts) (r : Reading) (q : Pulled) → p.reading ≡ Some r → IsPull p.has_ended r.rest p.input.unread q
    → IsClientChange set (kept_of p) on.pull (record { outcome = outcome_of q.outcome; kept = pulled_from (reading_of r) q (kept_of p) })
change_of set p r q there pull =
    subst (λ (o : Option Reading). IsPulling (kept_of p) (option_map reading_of o) (record { outcome = outcome_of q.outcome; kept = pulled_from (reading_of r) q (kept_of p) }))
    (sym there) (q, pull, refl)

pub pull_step : (set : Setting) (p m : Parts) (r y : Reading) (answer : Answer) (after : Incoming) (failed : Option ends.ClientEnd) → p.reading ≡ Some r
    → is_dropped_in p.reading ≡ false → IsSound p → ((q : Pulled) → IsPull p.has_ended r.rest p.input.unread q → IsPulledFrom r q answer y after)
    → failed ≡ failing (breaks_body answer) BrokenAnswer p.failed → IsSettled (pulled_parts p y after failed) m → IsPulledIn set p answer m
pull_step set p m r y answer after failed there wanted sound pulled failed_is settled =
    let x = the_pull p r there wanted sound in
    let q = x.0 in
    let from = pulled q x.1 in
    let fits = fits_of p r there wanted sound.fits in (
      outcome_of q.outcome,
      says_pulled answer q.outcome from.outcome,
      settled_step set p m on.pull (outcome_of q.outcome) (pulled_from (reading_of r) q (kept_of p)) (change_of set p r q there x.1)
          (settled_as (pulled_parts p y after failed) m (pulled_from (reading_of r) q (kept_of p)) (is_coming_in after.piece)
          (kept_then p r y q answer after failed there fits x.1 from failed_is) settled),
    )

pub pull_sound : (p m : Parts) (r y : Reading) (answer : Answer) (after : Incoming) (failed : Option ends.ClientEnd) → p.reading ≡ Some r
    → is_dropped_in p.reading ≡ false → IsSound p → ((q : Pulled) → IsPull p.has_ended r.rest p.input.unread q → IsPulledFrom r q answer y after)
    → IsSettled (pulled_parts p y after failed) m → IsSound m
pull_sound p m r y answer after failed there wanted sound pulled settled =
    let x = the_pull p r there wanted sound in
    let from = pulled x.0 x.1 in
    let fits = still_fits p.has_ended r.rest p.input.unread x.0 (fits_of p r there wanted sound.fits) x.1 in
    settled_sound (pulled_parts p y after failed) m sound.moment sound.last
    (λ wanted. subst (λ (y : Reading). Fits y.rest) (sym from.reading) fits) settled

-- a head may be searched for then, since none was
pub pull_may : (p : Parts) (y : Reading) (after : Incoming) (failed : Option ends.ClientEnd) → after.piece ≡ None → MayBeSearched (pulled_parts p y after failed)
pull_may p y after failed none = λ busy. none

-- nothing is searched for while a body is read
pub busy_unsearched : (p : Parts) → IsSound p → is_free (kept_of p) ≡ false → p.input.piece ≡ None
busy_unsearched p sound busy = nothing p.input.piece (sound.searched ∙ busy)
  where
    nothing : (piece : Option HeadScan) → is_some piece ≡ false → piece ≡ None
    nothing None is = refl
    nothing (Some x) is = absurd (cc is)

-- it takes no memory
pub light_pull : (p : Parts) (r : Reading) → p.reading ≡ Some r → IsLightPull (kept_of p)
    → (q : Pulled) × IsPull p.has_ended r.rest p.input.unread q × payload.IsLight r.rest q.outcome q.rest
light_pull p r there light = subst (λ (o : Option Reading). IsLightPull (kept_of (record p { reading = o }))) there light

-- where there is no body nothing is read
pub none_busy : (p : Parts) → p.reading ≡ None → is_free (kept_of p) ≡ false → ⊥
none_busy p none busy =
    let free : is_free (kept_of p) ≡ true = ap (λ (r : Option Reading). is_free (kept_of (record p { reading = r }))) none in
    absurd (cc (sym free ∙ busy))
