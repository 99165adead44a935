-- What passes of a body that isn't wanted, and what the end of the input and a pull make of a body.
use Rattle.std.proofs.Common.{◌≡◌, ℕ, ◌-◌, ◌<◌, Bool, true, false, not, ◌&&◌, ◌||◌, List, [], ◌∷◌, ◌++◌, length, take, Option, Some, None, refl, sym, ap, ◌∙◌, subst}
use Rattle.std.specs.Prelude.{is_some, option_map, min, if◌then◌else◌}
use Rattle.std.specs.Option.{option_or}
use Rattle.model_h1.specs.Limits.{MAX_MOMENT}
use Rattle.model_h1.specs.Setting.{Setting}
use Rattle.h1_decoder.specs.declared.scan.HeadScan.{HeadScan}
use Rattle.model_state.specs.Kept.{Rest, no_rest, raw_rest, fixed_rest, chunks_rest, frames_rest, rest_in, is_nothing}
use Rattle.model_state.specs.Body.{Passed, pass_rest}
use Rattle.h1_payload.specs.Fitting.{Fits}
use Rattle.model_client.specs.ClientEvent as on
use Rattle.model_client.specs.ClientKept.{ReadingBody, ClientKept, is_free, is_last}
use Rattle.model_client.specs.ClientStep.{is_broken, passed_body, passing, pass, dropping, body_at_end, ending_input, doing, IsClientChange}
use Rattle.h1_client.specs.Incoming.{Incoming, is_coming_in}
use Rattle.h1_client.specs.ClientMeaning.{end_of}
use Rattle.h1_client.specs.Bodies.{dropped_reading, ended_reading, failing, passed_is_done, passed_breaks, IsPassedBody}
use Rattle.h1_client.specs.Parts.{kept_of, reading_of, FitsIn, MayBeSearched, IsSound, IsSettled, Steps}
use Rattle.h1_client.specs.declared.connection.bodies.Reading.{Reading}
use Rattle.h1_client.specs.declared.connection.parts.Parts.{Parts}
use Rattle.h1_client.specs.declared.event.ClientEnd.{ClientEnd}
use Rattle.h1_client.specs.declared.event.ClientEnd.TheVariants.{BrokenAnswer}
use Rattle.h1_client.proofs.StepLemmas.{failed_where, settled_as, settled_sound, settled_step, searched_may}

-- ---- passing, in the machine

-- whether a head was coming doesn't matter
coming_by : (k : ClientKept) (b : Bool) (body : ReadingBody) (p : Passed) (t : Bool)
    → (if t then passed_body k.has_ended body (record k { is_coming = b }) p else record k { is_coming = b })
    ≡ record (if t then passed_body k.has_ended body k p else k) { is_coming = b }
coming_by k b body p true = refl
coming_by k b body p false = refl

passing_coming : (k : ClientKept) (b : Bool) (r : Option ReadingBody) → passing r (record k { is_coming = b }) ≡ record (passing r k) { is_coming = b }
passing_coming k b None = refl
passing_coming k b (Some body) = coming_by k b body (pass_rest k.has_ended body.rest k.unread) (body.was_dropped && not body.is_done)

pub pass_coming : (k : ClientKept) (b : Bool) → pass (record k { is_coming = b }) ≡ record (pass k) { is_coming = b }
pass_coming k b = passing_coming k b k.reading

-- what stays
record Stays (k m : ClientKept) : Type 0 where
  pub now : m.now ≡ k.now
  pub last : is_last m ≡ is_last k

stays_by : (k : ClientKept) (body : ReadingBody) (p : Passed) (t : Bool) → Stays k (if t then passed_body k.has_ended body k p else k)
stays_by k body p true = record { now = refl; last = refl }
stays_by k body p false = record { now = refl; last = refl }

stays_passing : (k : ClientKept) (r : Option ReadingBody) → Stays k (passing r k)
stays_passing k None = record { now = refl; last = refl }
stays_passing k (Some body) = stays_by k body (pass_rest k.has_ended body.rest k.unread) (body.was_dropped && not body.is_done)

-- nothing passes where nothing is left to do, so that then as much is done after it
free_by : (k : ClientKept) (body : ReadingBody) (p : Passed) (dropped : Bool) (x : ClientKept) → body.is_done ≡ true → (if dropped && not body.is_done then x else k) ≡ k
free_by k body p true x done = ap (λ (b : Bool). if not b then x else k) done
free_by k body p false x done = refl

free_passing : (k : ClientKept) (r : Option ReadingBody) → k.reading ≡ r → is_free k ≡ true → passing r k ≡ k
free_passing k None is free = refl
free_passing k (Some body) is free =
    let done : body.is_done ≡ true = subst (λ (r : Option ReadingBody). is_free (record k { reading = r }) ≡ true) is free in
    free_by k body (pass_rest k.has_ended body.rest k.unread) body.was_dropped (passed_body k.has_ended body k (pass_rest k.has_ended body.rest k.unread)) done

pub pass_free : (k : ClientKept) → is_free k ≡ true → pass k ≡ k
pass_free k free = free_passing k k.reading refl free

-- ---- passing, of the parts

-- no body, and one that is wanted or done with
pub none_passes : (p : Parts) → p.reading ≡ None → IsPassedBody p p
none_passes p none = record {
  kept = ap (λ (r : Option Reading). passing (option_map reading_of r) (kept_of p)) (sym none);
  piece = refl;
  last = refl;
  fits = λ fits. fits;
}

wanted_by : (k : ClientKept) (x : ClientKept) (dropped done : Bool) → (not dropped || done) ≡ true → (if dropped && not done then x else k) ≡ k
wanted_by k x true true is = refl
wanted_by k x true false is = absurd (cc is)
wanted_by k x false done is = refl

pub wanted_passes : (p : Parts) (r : Reading) → p.reading ≡ Some r → (not r.was_dropped || r.is_done) ≡ true → IsPassedBody p p
wanted_passes p r there wanted =
    let k = kept_of p in record {
      kept = sym (wanted_by k (passed_body k.has_ended (reading_of r) k (pass_rest k.has_ended r.rest k.unread)) r.was_dropped r.is_done wanted)
          ∙ ap (λ (r : Option Reading). passing (option_map reading_of r) (kept_of p)) (sym there);
      piece = refl;
      last = refl;
      fits = λ fits. fits;
    }

-- one that isn't wanted
passed_by : (k x : ClientKept) (dropped done : Bool) → (not dropped || done) ≡ false → x ≡ (if dropped && not done then x else k)
passed_by k x true true is = absurd (cc is)
passed_by k x true false is = refl
passed_by k x false done is = absurd (cc is)

dropped_then : (dropped done : Bool) → (not dropped || done) ≡ false → dropped ≡ true
dropped_then true done is = refl
dropped_then false done is = absurd (cc is)

pub dropped_passes : (p : Parts) (r y : Reading) (after : Incoming) (failed : Option ClientEnd) → p.reading ≡ Some r → (not r.was_dropped || r.is_done) ≡ false
    → let left = pass_rest p.has_ended r.rest p.input.unread in
    p.input.piece ≡ None
    → y ≡ record r { rest = left.rest; is_done = passed_is_done p.has_ended left.rest }
    → after ≡ record { unread = left.unread; piece = None }
    → failed ≡ failing (passed_breaks p.has_ended left.rest) BrokenAnswer p.failed
    → IsPassedBody p (record p { reading = Some y; input = after; failed = failed })
dropped_passes p r y after failed there unwanted none y_is after_is failed_is =
    let k = kept_of p in
    let left = pass_rest p.has_ended r.rest p.input.unread in
    let x : ClientKept = passed_body k.has_ended (reading_of r) k left in
    let z : Reading = record r { rest = left.rest; is_done = passed_is_done p.has_ended left.rest } in
    let dropped : z.was_dropped ≡ true = dropped_then r.was_dropped r.is_done unwanted in
    let coming : record x { is_coming = false } ≡ x = λ i. record x { is_coming = no_piece p none i } in
    record {
      kept = (λ i. kept_of (record p { reading = Some (y_is i); input = after_is i; failed = failed_is i }))
          ∙ (λ i. record x { is_coming = false; failed = failed_where p.failed (passed_breaks p.has_ended left.rest) BrokenAnswer i })
          ∙ coming
          ∙ passed_by k x r.was_dropped r.is_done unwanted
          ∙ ap (λ (r : Option Reading). passing (option_map reading_of r) (kept_of p)) (sym there);
      piece = ap (λ (i : Incoming). i.piece) after_is ∙ sym none;
      last = refl;
      fits = λ fits wanted. absurd (cc (sym wanted ∙ ap (λ (y : Reading). y.was_dropped) y_is ∙ dropped));
    }
  where
    no_piece : (p : Parts) → p.input.piece ≡ None → false ≡ (kept_of p).is_coming
    no_piece p none = ap (λ (o : Option HeadScan). is_coming_in o) (sym none)

-- ---- what follows it

-- a head may be searched for then
pub passed_may : (p m : Parts) → IsPassedBody p m → MayBeSearched p → MayBeSearched m
passed_may p m passed may = λ busy. passed.piece ∙ may (still (is_free (kept_of p)) refl busy)
  where
    still : (free : Bool) → is_free (kept_of p) ≡ free → is_free (kept_of m) ≡ false → is_free (kept_of p) ≡ false
    still false is busy = is
    still true is busy = absurd (cc (sym busy ∙ ap (λ (k : ClientKept). is_free k) (passed.kept ∙ pass_free (kept_of p) is) ∙ is))

-- and all is sound
pub passed_sound : (p m q : Parts) → IsSound p → (r : Parts) → r.moment ≡ p.moment → r.is_last ≡ p.is_last → is_last (kept_of r) ≡ is_last (kept_of p)
    → FitsIn r.reading → IsPassedBody r m → IsSettled m q → IsSound q
passed_sound p m q sound r moment last lasts fits passed settled =
    let stays = stays_passing (kept_of r) (kept_of r).reading in
    let kept_now : m.moment ≡ r.moment = ap (λ (k : ClientKept). k.now) passed.kept ∙ stays.now in
    let kept_last : is_last (kept_of m) ≡ is_last (kept_of r) = ap (λ (k : ClientKept). is_last k) passed.kept ∙ stays.last in
    settled_sound m q (subst (λ (n : ℕ). n < MAX_MOMENT) (sym (kept_now ∙ moment)) sound.moment)
    (passed.last ∙ last ∙ sound.last ∙ sym lasts ∙ sym kept_last) (passed.fits fits) settled

-- the step, of an event that passes
pub passed_step : (set : Setting) (p r m q : Parts) (event : on.ClientEvent) (out : on.ClientOutcome) (k : ClientKept) (b : Bool)
    → IsClientChange set (kept_of p) event (record { outcome = out; kept = pass k }) → kept_of r ≡ record k { is_coming = b }
    → IsPassedBody r m → IsSettled m q → Steps set p event out q
passed_step set p r m q event out k b changes same passed settled =
    settled_step set p q event out (pass k) changes
    (settled_as m q (pass k) b (passed.kept ∙ ap (λ (k : ClientKept). pass k) same ∙ pass_coming k b) settled)

-- ---- the end of the input

ended_same : (bytes : List ℕ) (r : Option Reading) → option_map reading_of (ended_reading bytes r) ≡ body_at_end bytes (option_map reading_of r)
ended_same bytes None = refl
ended_same bytes (Some r) = refl

pub ended_free : (p : Parts) (r : Option Reading) (bytes : List ℕ) → p.reading ≡ r
    → is_free (kept_of (record p { has_ended = true; reading = ended_reading bytes r })) ≡ is_free (kept_of p)
ended_free p None bytes is = ap (λ (r : Option Reading). is_free (kept_of (record p { reading = r }))) (sym is)
ended_free p (Some r) bytes is = ap (λ (r : Option Reading). is_free (kept_of (record p { reading = r }))) (sym is)

-- what fits does so then
pub fits_at_end : (bytes : List ℕ) (rest : Rest) → Fits rest → Fits (rest_in true bytes rest)
fits_at_end [] raw_rest fits = tt
fits_at_end (b ∷ bytes) raw_rest fits = fits
fits_at_end [] no_rest fits = fits
fits_at_end (b ∷ bytes) no_rest fits = fits
fits_at_end [] (fixed_rest n) fits = fits
fits_at_end (b ∷ bytes) (fixed_rest n) fits = fits
fits_at_end [] (chunks_rest place section) fits = fits
fits_at_end (b ∷ bytes) (chunks_rest place section) fits = fits
fits_at_end [] (frames_rest under_way limit) fits = fits
fits_at_end (b ∷ bytes) (frames_rest under_way limit) fits = fits

ended_fits : (bytes : List ℕ) (r : Option Reading) → FitsIn r → FitsIn (ended_reading bytes r)
ended_fits bytes None fits = tt
ended_fits bytes (Some r) fits = λ wanted. fits_at_end bytes r.rest (fits wanted)

-- the parts at the end
abbrev pub ended_parts : Parts → Parts
ended_parts p = record p { has_ended = true; reading = ended_reading p.input.unread p.reading }

pub eof_may : (p : Parts) → IsSound p → MayBeSearched (ended_parts p)
eof_may p sound = searched_may p (ended_parts p) sound refl (ended_free p p.reading p.input.unread refl)

pub eof_sound : (p m q : Parts) → IsSound p → IsPassedBody (ended_parts p) m → IsSettled m q → IsSound q
eof_sound p m q sound passed settled =
    passed_sound p m q sound (ended_parts p) refl refl refl (ended_fits p.input.unread p.reading sound.fits) passed settled

pub eof_step : (set : Setting) (p m q : Parts) → IsPassedBody (ended_parts p) m → IsSettled m q → Steps set p on.eof on.done q
eof_step set p m q passed settled =
    let k = kept_of p in
    let at_end : ClientKept = record k { has_ended = true; reading = body_at_end k.unread k.reading } in
    passed_step set p (ended_parts p) m q on.eof on.done at_end k.is_coming refl
    (λ i. record k { has_ended = true; reading = ended_same p.input.unread p.reading i }) passed settled

-- ---- bytes that come

pub read_step : (set : Setting) (p m q : Parts) (i : Incoming) (bytes : List ℕ) (n : ℕ)
    → n ≡ min (length bytes) (set.hold_size - length p.input.unread) → i.unread ≡ p.input.unread ++ take n bytes
    → IsPassedBody (record p { input = i }) m → IsSettled m q → Steps set p (on.read bytes) (on.took n) q
read_step set p m q i bytes n count taken passed settled =
    let k = kept_of p in
    passed_step set p (record p { input = i }) m q (on.read bytes) (on.took n) (record k { unread = k.unread ++ take n bytes }) (is_coming_in i.piece)
    (λ j. record { outcome = on.took (count j); kept = pass (record k { unread = k.unread ++ take (count j) bytes }) })
    (λ j. record k { unread = taken j; is_coming = is_coming_in i.piece }) passed settled

pub read_may : (p : Parts) (i : Incoming) → IsSound p → is_some i.piece ≡ is_some p.input.piece → MayBeSearched (record p { input = i })
read_may p i sound searched = searched_may p (record p { input = i }) sound searched refl

pub read_sound : (p m q : Parts) (i : Incoming) → IsSound p → IsPassedBody (record p { input = i }) m → IsSettled m q → IsSound q
read_sound p m q i sound passed settled = passed_sound p m q sound (record p { input = i }) refl refl refl sound.fits passed settled

-- ---- a drop

abbrev pub dropped_parts : Parts → Parts
dropped_parts p = record p { reading = dropped_reading p.reading }

dropped_same : (k : ClientKept) (r : Option Reading) → k.reading ≡ option_map reading_of r
    → dropping (option_map reading_of r) k ≡ pass (record k { reading = option_map reading_of (dropped_reading r) })
dropped_same k None is = λ i. record k { reading = is i }
dropped_same k (Some r) is = refl

dropped_free : (p : Parts) (r : Option Reading) → p.reading ≡ r → is_free (kept_of (record p { reading = dropped_reading r })) ≡ is_free (kept_of p)
dropped_free p None is = ap (λ (r : Option Reading). is_free (kept_of (record p { reading = r }))) (sym is)
dropped_free p (Some r) is = ap (λ (r : Option Reading). is_free (kept_of (record p { reading = r }))) (sym is)

dropped_fits : (r : Option Reading) → FitsIn (dropped_reading r)
dropped_fits None = tt
dropped_fits (Some r) = λ wanted. absurd (cc wanted)

pub drop_may : (p : Parts) → IsSound p → MayBeSearched (dropped_parts p)
drop_may p sound = searched_may p (dropped_parts p) sound refl (dropped_free p p.reading refl)

pub drop_sound : (p m q : Parts) → IsSound p → IsPassedBody (dropped_parts p) m → IsSettled m q → IsSound q
drop_sound p m q sound passed settled = passed_sound p m q sound (dropped_parts p) refl refl refl (dropped_fits p.reading) passed settled

pub drop_step : (set : Setting) (p m q : Parts) → IsPassedBody (dropped_parts p) m → IsSettled m q → Steps set p on.drop_body on.done q
drop_step set p m q passed settled =
    let k = kept_of p in
    passed_step set p (dropped_parts p) m q on.drop_body on.done (record k { reading = option_map reading_of (dropped_reading p.reading) }) k.is_coming
    (λ i. doing (sym (dropped_same k p.reading refl) i)) refl passed settled

-- ---- while a body is passed no head is searched for

done_then : (dropped done : Bool) → (not dropped || done) ≡ false → done ≡ false
done_then true true is = absurd (cc is)
done_then true false is = refl
done_then false done is = absurd (cc is)

pub unwanted_piece : (p : Parts) (r : Reading) → p.reading ≡ Some r → (not r.was_dropped || r.is_done) ≡ false → MayBeSearched p → p.input.piece ≡ None
unwanted_piece p r there unwanted may =
    may (ap (λ (o : Option Reading). is_free (kept_of (record p { reading = o }))) there ∙ done_then r.was_dropped r.is_done unwanted)
