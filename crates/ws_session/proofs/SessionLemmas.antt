-- What a session has given of the bytes that were pushed.
use Rattle.std.proofs.Common.{◌≡◌, ◌⊎◌, inl, inr, ℕ, false, List, [], ◌∷◌, ◌++◌, Option, Some, None, Result, Err, refl, sym, ap, ◌∙◌, subst, append_assoc}
use Rattle.std.proofs.lemmas.List.{append-nil, drop-append-le}
use Rattle.model_h1.specs.Frame as model
use Rattle.model_h1.specs.FrameText.{Front, partial, whole, breaks, front_frame, is_under_way, StopsWith}
use Rattle.model_h1.proofs.FrameLemmas.{whole_stays, whole_fits, breaks_stays}
use Rattle.std.specs.Prelude.{Ok, OnOk, OnErr, IfErr}
use Rattle.ws_frames.specs.declared.message.Frame.{Frame}
use Rattle.ws_frames.specs.Codec.{frame_says}
use Rattle.ws_frames.specs.declared.error.ProtocolError.{ProtocolError}
use Rattle.ws_frames.specs.declared.error.ProtocolError.TheVariants as errors
use Rattle.ws_frames.specs.Fronts.{IsFrontError}
use Rattle.ws_frames.specs.FramePieces.{AreFrames}
use Rattle.ws_frames.specs.Refusal.{refusal}
use Rattle.ws_session.specs.Session.{SessionParts, with_unread, reader_of, front_of, behind_frame, HasGiven, HasFailed, NextSays, FramesSays}

module _ (s : SessionParts) where
  -- bytes behind those that are unread
  pub pushed_on : (bytes pushed : List ℕ) (given : List model.Frame)
      → HasGiven s pushed given → HasGiven (with_unread (s.unread ++ bytes) s) (pushed ++ bytes) given
  pushed_on bytes pushed given has = λ more fs fail are.
      let old = subst (λ (t : List ℕ). AreFrames (reader_of s) s.under_way t fs fail) (append_assoc s.unread bytes more) are in
      subst (λ (t : List ℕ). AreFrames (reader_of s) false t (given ++ fs) fail) (sym (append_assoc pushed bytes more)) (has (bytes ++ more) fs fail old)

  pub failed_on : (bytes : List ℕ) (rule : model.ProtocolError) → HasFailed s rule → HasFailed (with_unread (s.unread ++ bytes) s) rule
  failed_on bytes rule has = λ more. ap (front_frame (reader_of s) s.under_way) (append_assoc s.unread bytes more) ∙ has (bytes ++ more)

  -- one frame more
  pub given_one : (f : model.Frame) (len : ℕ) (pushed : List ℕ) (given : List model.Frame) → front_of s ≡ whole f len
      → HasGiven s pushed given → HasGiven (behind_frame f len s) pushed (given ++ f ∷ [])
  given_one f len pushed given is has = λ more fs fail are.
      let u = s.under_way in
      let within = (whole_fits (reader_of s) u s.unread f len is).1 in
      let left = subst (λ (t : List ℕ). AreFrames (reader_of s) (is_under_way u f) t fs fail) (sym (drop-append-le len s.unread more within)) are in
      subst (λ (gs : List model.Frame). AreFrames (reader_of s) false (pushed ++ more) gs fail) (sym (append_assoc given (f ∷ []) fs))
      (has more (f ∷ fs) fail (len, whole_stays (reader_of s) u s.unread more f len is, left))

  -- no further one
  pub given_all : (fail : Option model.ProtocolError) (pushed : List ℕ) (given : List model.Frame) → StopsWith (front_of s) fail
      → HasGiven s pushed given → AreFrames (reader_of s) false pushed given fail
  given_all fail pushed given stops has =
      let here = subst (λ (t : List ℕ). StopsWith (front_frame (reader_of s) s.under_way t) fail) (sym (append-nil s.unread)) stops in
      subst (λ (gs : List model.Frame). AreFrames (reader_of s) false pushed gs fail) (append-nil given)
      (subst (λ (t : List ℕ). AreFrames (reader_of s) false t (given ++ []) fail) (append-nil pushed) (has [] [] fail here))

  pub none_yet : (pushed : List ℕ) (given : List model.Frame) → front_of s ≡ partial → HasGiven s pushed given → AreFrames (reader_of s) false pushed given None
  none_yet pushed given is has = given_all None pushed given (subst (λ (x : Front). StopsWith x None) (sym is) refl) has

  -- an error, by what stands at the front
  pub front_error : (e : ProtocolError) (x : Front) → front_of s ≡ x → IsFrontError x e
      → (e ≡ errors.NoMemory) ⊎ ((rule : model.ProtocolError) × (e ≡ refusal rule) × (front_of s ≡ breaks rule))
  front_error e partial at is = absurd is
  front_error e (whole f len) at is = inl is
  front_error e (breaks rule) at is = inr (rule, is, at)

  pub error_given : (e : ProtocolError) (pushed : List ℕ) (given : List model.Frame) → IsFrontError (front_of s) e → HasGiven s pushed given
      → (e ≡ errors.NoMemory) ⊎ ((rule : model.ProtocolError) × (e ≡ refusal rule) × AreFrames (reader_of s) false pushed given (Some rule))
  error_given e pushed given is has = go (front_error e (front_of s) refl is)
    where
      go : (e ≡ errors.NoMemory) ⊎ ((rule : model.ProtocolError) × (e ≡ refusal rule) × (front_of s ≡ breaks rule))
          → (e ≡ errors.NoMemory) ⊎ ((rule : model.ProtocolError) × (e ≡ refusal rule) × AreFrames (reader_of s) false pushed given (Some rule))
      go (inl none) = inl none
      go (inr (rule, same, at)) = inr (rule, same, given_all (Some rule) pushed given (subst (λ (x : Front). StopsWith x (Some rule)) (sym at) refl) has)

  -- which stays
  pub error_stays : (e : ProtocolError) → IsFrontError (front_of s) e
      → (e ≡ errors.NoMemory) ⊎ ((rule : model.ProtocolError) × (e ≡ refusal rule) × HasFailed s rule)
  error_stays e is = go (front_error e (front_of s) refl is)
    where
      go : (e ≡ errors.NoMemory) ⊎ ((rule : model.ProtocolError) × (e ≡ refusal rule) × (front_of s ≡ breaks rule))
          → (e ≡ errors.NoMemory) ⊎ ((rule : model.ProtocolError) × (e ≡ refusal rule) × HasFailed s rule)
      go (inl none) = inl none
      go (inr (rule, same, at)) = inr (rule, same, λ more. breaks_stays (reader_of s) s.under_way s.unread more rule at)

  -- what has failed stands at the front
  pub failed_here : (rule : model.ProtocolError) → HasFailed s rule → front_of s ≡ breaks rule
  failed_here rule has = ap (front_frame (reader_of s) s.under_way) (sym (append-nil s.unread)) ∙ has []

-- ---- a push, and a call of next

pub push_given : (old new : SessionParts) (bytes : List ℕ) → new ≡ with_unread (old.unread ++ bytes) old
    → (pushed : List ℕ) (given : List model.Frame) → HasGiven old pushed given → HasGiven new (pushed ++ bytes) given
push_given old new bytes is pushed given has =
    subst (λ (s : SessionParts). HasGiven s (pushed ++ bytes) given) (sym is) (pushed_on old bytes pushed given has)

pub push_failed : {E : Type 0} (old new : SessionParts) (bytes : List ℕ) (result : Result (Unit {0}) E) → OnOk result (new ≡ with_unread (old.unread ++ bytes) old)
    → OnErr result (new ≡ old) → (rule : model.ProtocolError) → HasFailed old rule → HasFailed new rule
push_failed old new bytes (Ok done) ok err rule has = subst (λ (s : SessionParts). HasFailed s rule) (sym ok) (failed_on old bytes rule has)
push_failed old new bytes (Err e) ok err rule has = subst (λ (s : SessionParts). HasFailed s rule) (sym err) has

pub next_frames : (old new : SessionParts) (result : Result (Option Frame) ProtocolError) → NextSays old result new
    → (pushed : List ℕ) (given : List model.Frame) → HasGiven old pushed given → FramesSays old pushed given result new
next_frames old new (Ok None) says pushed given has = none_yet old pushed given says.0 has
next_frames old new (Ok (Some frame)) says pushed given has =
    subst (λ (s : SessionParts). HasGiven s pushed (given ++ frame_says frame ∷ [])) (sym says.2) (given_one old (frame_says frame) says.0 pushed given says.1 has)
next_frames old new (Err e) says pushed given has = error_given old e pushed given says.0 has

pub next_repeats : (old new : SessionParts) (result : Result (Option Frame) ProtocolError) → NextSays old result new
    → (rule : model.ProtocolError) → HasFailed old rule → result ≡ Err (refusal rule)
next_repeats old new (Ok None) says rule has = absurd (cc (sym says.0 ∙ failed_here old rule has))
next_repeats old new (Ok (Some frame)) says rule has = absurd (cc (sym says.1 ∙ failed_here old rule has))
next_repeats old new (Err e) says rule has =
    let is : IsFrontError (breaks rule) e = subst (λ (x : Front). IsFrontError x e) (failed_here old rule has) says.0 in
    ap (λ (x : ProtocolError). Err x) is

pub next_fails : (old new : SessionParts) (result : Result (Option Frame) ProtocolError) → NextSays old result new
    → IfErr result (λ (e : ProtocolError). (e ≡ errors.NoMemory) ⊎ ((rule : model.ProtocolError) × (e ≡ refusal rule) × HasFailed new rule))
next_fails old new (Ok answer) says = tt
next_fails old new (Err e) says =
    subst (λ (s : SessionParts). (e ≡ errors.NoMemory) ⊎ ((rule : model.ProtocolError) × (e ≡ refusal rule) × HasFailed s rule)) (sym says.1)
    (error_stays old e says.0)
