-- What the decoder of an open body answers, whatever its bytes are.
use Rattle.std.proofs.Common.{◌≡◌, ℕ, zero, suc, ◌-◌, ◌<◌, ◌≤◌, leb, ltb, cond, Bool, true, false, List, [], ◌∷◌, ◌++◌, length, take, drop, refl, sym, ap, ◌∙◌, subst, subst₂, arith, append-nil}
use Rattle.std.specs.Prelude.{⊤, Option, Some, None, Result, Ok, Err, nat_lt}
use Rattle.std.proofs.lemmas.Bool.{cond_both, cond-false, lt-leb, leb-false}
use Rattle.http_map.specs.HeaderMap.{Entries}
use Rattle.model_h1.specs.Place.{Place, in_bytes, bytes_end, in_section, done, broken, step}
use Rattle.model_h1.specs.Reading.{Ending, goes_on, is_broken, ends_before, Reading, at_end, read}
use Rattle.model_h1.specs.TakeNext.{Next, Taken, chunk, waits, ended, breaks, noted_line, of_chunk, stops_at, take_next}
use Rattle.model_h1.proofs.TakenPlaces.{taken_chunk_leads}
use Rattle.model_h1.specs.Event.{Outcome, BodyFault}
use Rattle.model_h1.specs.Event as on
use Rattle.model_h1.specs.Request.{Header}
use Rattle.model_state.specs.Kept.{Rest, no_rest, raw_rest, fixed_rest, chunks_rest, frames_rest}
use Rattle.model_state.specs.Pull as pulls
use Rattle.model_state.specs.Pull.{pull_fixed, EndsWith, IsPullOfChunks, IsPull}
use Rattle.http_types.specs.declared.error.ParseError.{ParseError}
use Rattle.http_types.specs.declared.error.ParseError.TheVariants as errors
use Rattle.h1_payload.specs.Answers.{is_fault}
use Rattle.h1_payload.specs.Decoding.{Decoding, Payload, reading_of, AreTrailers, HasTrailers, IsReadAs, item_of, IsDecoded, IsDecodedBy}
use Rattle.h1_payload.specs.Rests.{SaysPulled, IsPulled, fault_of}
use Rattle.h1_payload.specs.declared.item.DecodeError.{DecodeError}
use Rattle.h1_payload.specs.declared.item.DecodeError.TheVariants.{Invalid, NoMemory}
use Rattle.h1_payload.specs.declared.item.PayloadItem.{PayloadItem}
use Rattle.h1_payload.specs.declared.item.PayloadItem.TheVariants as items
use Rattle.h1_payload.specs.declared.pulled.Pulled.{Pulled}
use Rattle.h1_payload.specs.declared.pulled.Pulled.TheVariants as pulled
use Rattle.h1_payload.proofs.GoingOn.{taken_reading, pull_goes_on}
use Rattle.h1_payload.proofs.Gives.{pull_gives_some}
use Rattle.h1_codec.specs.declared.framed_message.Message.{Message}
use Rattle.h1_codec.specs.declared.framed_message.Message.TheVariants.{Chunk}
use Rattle.h1_codec.specs.Steps.{message_of, open_after}

-- something is left of the body, and it isn't frames
abbrev pub IsLeft : Rest → Type 0
IsLeft (fixed_rest n) = 0 < n
IsLeft (frames_rest under_way limit) = ⊥
IsLeft rest = ⊤

-- these two readings have one body and one end
record AreOne (a b : Reading) : Type 0 where
  body : a.body ≡ b.body
  ending : a.ending ≡ b.ending

-- the outcome is the end of the body, perhaps with trailers
abbrev IsEnd : Outcome → Type 0
IsEnd on.body_ended = ⊤
IsEnd (on.trailers headers) = ⊤
IsEnd outcome = ⊥

-- ---- a pull

-- by what a pull gives, while more bytes are to come
data PullTells (rest : Rest) (bytes future : List ℕ) (p : pulls.Pulled) : Type 0 where
  some_bytes : (given : List ℕ) → p.outcome ≡ on.bytes given → 0 < length given → (reading_of rest (bytes ++ future)).body ≡ given ++ (reading_of p.rest (p.unread ++ future)).body
      → (reading_of rest (bytes ++ future)).ending ≡ (reading_of p.rest (p.unread ++ future)).ending → IsLeft p.rest → PullTells rest bytes future p
  nothing_yet : p.outcome ≡ on.pending → AreOne (reading_of rest (bytes ++ future)) (reading_of p.rest (p.unread ++ future)) → IsLeft p.rest
      → (future ≡ [] → ((reading_of rest (bytes ++ future)).body ≡ []) × ((reading_of rest (bytes ++ future)).ending ≡ goes_on)) → PullTells rest bytes future p
  its_end : IsEnd p.outcome → (reading_of rest (bytes ++ future)).body ≡ [] → (reading_of rest (bytes ++ future)).ending ≡ ends_before (p.unread ++ future)
      → PullTells rest bytes future p
  a_fault : (fault : BodyFault) → p.outcome ≡ on.broken_by fault → p.unread ≡ bytes → (reading_of rest (bytes ++ future)).body ≡ []
      → (reading_of rest (bytes ++ future)).ending ≡ is_broken → PullTells rest bytes future p

-- ---- bodies of a length

no_trailers : (e : Ending) → HasTrailers e [] []
no_trailers (ends_before rest) = record { lines = []; valid = tt; spelled = refl; entries_are = refl }
no_trailers goes_on = refl
no_trailers is_broken = refl

module _ (n : ℕ) (some : 0 < n) (future : List ℕ) where
  fixed_none : PullTells (fixed_rest n) [] future (pull_fixed false n [])
  fixed_none =
      nothing_yet refl (record { body = refl; ending = refl }) some
      (λ none. (
        ap (take n) none ∙ take_none n,
        ap (λ (l : List ℕ). cond (leb n (length l)) (ends_before (drop n l)) goes_on) none
            ∙ cond-false (leb n 0) (ends_before (drop n [])) goes_on (lt-leb n 0 some),
      ))
    where
      take_none : (m : ℕ) → take {A = ℕ} m [] ≡ []
      take_none zero = refl
      take_none (suc m) = refl

  fixed_some : (b : ℕ) (bytes : List ℕ) → PullTells (fixed_rest n) (b ∷ bytes) future (pull_fixed false n (b ∷ bytes))
  fixed_some b bytes =
      let l = b ∷ bytes in
      let count = length l in
      let p = pull_fixed false n l in
      let r = reading_of p.rest (p.unread ++ future) in
      let none : r.trailers ≡ [] =
      cond_both (leb n count) no_rest (fixed_rest (n - count)) (λ (rest : Rest). (reading_of rest (drop n l ++ future)).trailers ≡ []) (λ e. refl) (λ e. refl) in
      let q : Payload = record { body = r.body; trailers = []; ending = r.ending } in
      let y : IsReadAs r q = record { body = refl; ending = refl; trailers = subst (λ (t : List ℕ). HasTrailers r.ending t []) (sym none) (no_trailers r.ending) } in
      let x = pull_goes_on (fixed_rest n) l p some refl future q y in
      some_bytes (take n l) refl (pull_gives_some false (fixed_rest n) l p some refl) (sym x.body) (sym x.ending)
      (cond_both (leb n count) no_rest (fixed_rest (n - count)) IsLeft (λ e. tt) (λ e. let past : count < n = leb-false n count e in omega (arith, past)))

-- ---- chunks

-- where nothing comes, the body goes on
abbrev IsOpen : Next → Type 0
IsOpen (waits to) = at_end to ≡ goes_on
IsOpen next = ⊤

stops_open : (place : Place) → IsOpen (stops_at place)
stops_open done = tt
stops_open broken = tt
stops_open place = refl

chunk_open : (more : ℕ) (bytes : List ℕ) → IsOpen (of_chunk more bytes)
chunk_open more bytes = cond_both (nat_lt more (length bytes)) _ _ IsOpen (λ e. tt) (λ e. tt)

noted_open : (p q : Place) (b : ℕ) (t : Taken) → IsOpen t.next → IsOpen (noted_line p q b t).next
noted_open (in_section at lines room) (in_section at' lines' room') b t open_now = open_now
noted_open p q b t open_now = open_now

next_open : (place : Place) (bytes : List ℕ) → IsOpen (take_next place bytes).next
unfolding take_next
next_open place [] = stops_open place
next_open done (b ∷ bytes) = tt
next_open broken (b ∷ bytes) = tt
next_open (in_bytes more) (b ∷ bytes) = chunk_open more (b ∷ bytes)
next_open place (b ∷ bytes) = noted_open place (step place b) b (take_next (step place b) bytes) (next_open (step place b) bytes)

module _ (place : Place) (section bytes future : List ℕ) where
  abbrev noted : List ℕ
  noted = (take_next place bytes).trailers

  ends_tell : (text behind : List ℕ) (p : pulls.Pulled) → EndsWith text behind p → (reading_of (chunks_rest place section) (bytes ++ future)).body ≡ []
      → (reading_of (chunks_rest place section) (bytes ++ future)).ending ≡ ends_before (behind ++ future) → PullTells (chunks_rest place section) bytes future p
  ends_tell [] behind p x none is = subst (PullTells (chunks_rest place section) bytes future) (sym x) (its_end tt none is)
  ends_tell (b ∷ text) behind p x none is = subst (PullTells (chunks_rest place section) bytes future) (sym x.3) (its_end tt none is)

  chunks_tell : (next : Next) (p : pulls.Pulled) → (take_next place bytes).next ≡ next → IsPullOfChunks false place section bytes next noted p
      → PullTells (chunks_rest place section) bytes future p
  unfolding read
  chunks_tell (chunk given to behind) p e x =
      let is = taken_reading place section bytes (chunk given to behind) future e in
      subst (PullTells (chunks_rest place section) bytes future) (sym x)
      (some_bytes given refl (taken_chunk_leads place to bytes given behind e).some (ap (λ (r : Reading). r.body) is) (ap (λ (r : Reading). r.ending) is) tt)
  chunks_tell (waits to) p e x =
      let is = taken_reading place section bytes (waits to) future e in
      let open_now : at_end to ≡ goes_on = subst IsOpen e (next_open place bytes) in
      subst (PullTells (chunks_rest place section) bytes future) (sym x)
      (nothing_yet refl (record { body = ap (λ (r : Reading). r.body) is; ending = ap (λ (r : Reading). r.ending) is }) tt
      (λ none.
      let there = is ∙ ap (λ (l : List ℕ). reading_of (chunks_rest to (section ++ noted)) l) none in
      (ap (λ (r : Reading). r.body) there, ap (λ (r : Reading). r.ending) there ∙ open_now)))
  chunks_tell (ended behind) p e x =
      let is = taken_reading place section bytes (ended behind) future e in
      ends_tell (section ++ noted) behind p x (ap (λ (r : Reading). r.body) is) (ap (λ (r : Reading). r.ending) is)
  chunks_tell breaks p e x =
      let is = taken_reading place section bytes breaks future e in
      subst (PullTells (chunks_rest place section) bytes future) (sym x)
      (a_fault on.corrupted refl refl (ap (λ (r : Reading). r.body) is) (ap (λ (r : Reading). r.ending) is))

-- ---- any pull

pull_tells : (rest : Rest) (bytes future : List ℕ) (p : pulls.Pulled) → IsLeft rest → IsPull false rest bytes p → PullTells rest bytes future p
pull_tells no_rest bytes future p is_left x = subst (PullTells no_rest bytes future) (sym x) (its_end tt refl refl)
pull_tells raw_rest [] future p is_left x =
    subst (PullTells raw_rest [] future) (sym x) (nothing_yet refl (record { body = refl; ending = refl }) tt (λ none. (none, refl)))
pull_tells raw_rest (b ∷ bytes) future p is_left x =
    subst (PullTells raw_rest (b ∷ bytes) future) (sym x) (some_bytes (b ∷ bytes) refl (omega arith) refl refl tt)
pull_tells (fixed_rest n) [] future p is_left x = subst (PullTells (fixed_rest n) [] future) (sym x) (fixed_none n is_left future)
pull_tells (fixed_rest n) (b ∷ bytes) future p is_left x = subst (PullTells (fixed_rest n) (b ∷ bytes) future) (sym x) (fixed_some n is_left future b bytes)
pull_tells (chunks_rest place section) bytes future p is_left x = chunks_tell place section bytes future (take_next place bytes).next p refl x
pull_tells (frames_rest under_way limit) bytes future p is_left x = absurd is_left

-- ---- what a decoder answers

-- the item is the end of the body, perhaps with trailers
abbrev pub IsEndItem : Result (Option PayloadItem) DecodeError → Type 0
IsEndItem (Ok (Some items.Eof)) = ⊤
IsEndItem (Ok (Some (items.Trailers entries))) = ⊤
IsEndItem item = ⊥

pub end_message : {I : Type 0} (item : Result (Option PayloadItem) DecodeError) → IsEndItem item → ◌≡◌ {A = Result (Option (Message I)) ParseError} (message_of item) (Ok (Some (Chunk None)))
end_message (Ok (Some items.Eof)) ends = refl
end_message (Ok (Some (items.Trailers entries))) ends = refl
end_message (Ok (Some (items.Chunk bytes))) ends = absurd ends
end_message (Ok None) ends = absurd ends
end_message (Err error) ends = absurd ends

pub end_open : (item : Result (Option PayloadItem) DecodeError) (new : Decoding) → IsEndItem item → open_after item new ≡ None
end_open (Ok (Some items.Eof)) new ends = refl
end_open (Ok (Some (items.Trailers entries))) new ends = refl
end_open (Ok (Some (items.Chunk bytes))) new ends = absurd ends
end_open (Ok None) new ends = absurd ends
end_open (Err error) new ends = absurd ends

-- By what a decoder of a body answers: bytes of the body; nothing, while none are there; its end; that it is broken; or that memory
-- ran out.
pub data BodyTells (old : Decoding) (bytes future : List ℕ) (item : Result (Option PayloadItem) DecodeError) (new : Decoding) (rest : List ℕ) : Type 0 where
  gave : (given : List ℕ) → item ≡ Ok (Some (items.Chunk given)) → 0 < length given → new.is_broken ≡ false → IsLeft new.rest
      → (reading_of old.rest (bytes ++ future)).body ≡ given ++ (reading_of new.rest (rest ++ future)).body
      → (reading_of old.rest (bytes ++ future)).ending ≡ (reading_of new.rest (rest ++ future)).ending → BodyTells old bytes future item new rest
  waited : item ≡ Ok None → new.is_broken ≡ false → IsLeft new.rest → (reading_of old.rest (bytes ++ future)).body ≡ (reading_of new.rest (rest ++ future)).body
      → (reading_of old.rest (bytes ++ future)).ending ≡ (reading_of new.rest (rest ++ future)).ending
      → (future ≡ [] → ((reading_of old.rest (bytes ++ future)).body ≡ []) × ((reading_of old.rest (bytes ++ future)).ending ≡ goes_on)) → BodyTells old bytes future item new rest
  has_ended : IsEndItem item → (reading_of old.rest (bytes ++ future)).body ≡ []
      → (reading_of old.rest (bytes ++ future)).ending ≡ ends_before (rest ++ future) → BodyTells old bytes future item new rest
  broke : item ≡ Err Invalid → new.is_broken ≡ true → rest ≡ bytes → (reading_of old.rest (bytes ++ future)).body ≡ []
      → (reading_of old.rest (bytes ++ future)).ending ≡ is_broken → BodyTells old bytes future item new rest
  lacked : item ≡ Err NoMemory → new ≡ old → rest ≡ bytes → BodyTells old bytes future item new rest

module _ (old : Decoding) (bytes future : List ℕ) (new : Decoding) (rest : List ℕ) where
  abbrev was : Reading
  was = reading_of old.rest (bytes ++ future)

  -- what is left, by the pull
  abbrev now : Reading
  now = reading_of new.rest (rest ++ future)

  same_now : (p : pulls.Pulled) (answer : Pulled) → IsPulled p answer new.rest rest → reading_of p.rest (p.unread ++ future) ≡ now
  same_now p answer x = λ i. reading_of (sym x.rest_is i) (sym x.unread_is i ++ future)

  of_bytes : (p : pulls.Pulled) (answer : Pulled) (given : List ℕ) → IsPulled p answer new.rest rest → new.is_broken ≡ is_fault answer → SaysPulled answer (on.bytes given)
      → 0 < length given → was.body ≡ given ++ (reading_of p.rest (p.unread ++ future)).body → was.ending ≡ (reading_of p.rest (p.unread ++ future)).ending → IsLeft p.rest
      → BodyTells old bytes future (item_of answer) new rest
  of_bytes p (pulled.Bytes b) given x sound same some body ending is_left =
      let bytes_are : given ≡ b = cc in
      gave b refl (subst (λ (l : List ℕ). 0 < length l) bytes_are some) sound (subst IsLeft (sym x.rest_is) is_left)
      (body ∙ (λ i. bytes_are i ++ (same_now p (pulled.Bytes b) x i).body)) (ending ∙ ap (λ (r : Reading). r.ending) (same_now p (pulled.Bytes b) x))
  of_bytes p (pulled.Trailers entries) given x sound same some body ending is_left = absurd (cc (same.1))
  of_bytes p pulled.End given x sound same some body ending is_left = absurd (cc same)
  of_bytes p (pulled.Broken fault) given x sound same some body ending is_left = absurd (cc same)
  of_bytes p pulled.Pending given x sound same some body ending is_left = absurd (cc same)

  of_nothing : (p : pulls.Pulled) (answer : Pulled) → IsPulled p answer new.rest rest → new.is_broken ≡ is_fault answer → SaysPulled answer on.pending
      → AreOne was (reading_of p.rest (p.unread ++ future)) → IsLeft p.rest → (future ≡ [] → (was.body ≡ []) × (was.ending ≡ goes_on))
      → BodyTells old bytes future (item_of answer) new rest
  of_nothing p (pulled.Bytes b) x sound same one is_left missing = absurd (cc same)
  of_nothing p (pulled.Trailers entries) x sound same one is_left missing = absurd (cc (same.1))
  of_nothing p pulled.End x sound same one is_left missing = absurd (cc same)
  of_nothing p (pulled.Broken fault) x sound same one is_left missing = absurd (cc same)
  of_nothing p pulled.Pending x sound same one is_left missing =
      waited refl sound (subst IsLeft (sym x.rest_is) is_left) (one.body ∙ ap (λ (r : Reading). r.body) (same_now p pulled.Pending x))
      (one.ending ∙ ap (λ (r : Reading). r.ending) (same_now p pulled.Pending x)) missing

  of_end : (p : pulls.Pulled) (answer : Pulled) → IsPulled p answer new.rest rest → IsEnd p.outcome → was.body ≡ [] → was.ending ≡ ends_before (p.unread ++ future)
      → BodyTells old bytes future (item_of answer) new rest
  of_end p (pulled.Bytes b) x ends none is = absurd (subst IsEnd x.outcome ends)
  of_end p (pulled.Trailers entries) x ends none is = has_ended tt none (is ∙ ap (λ (l : List ℕ). ends_before (l ++ future)) (sym x.unread_is))
  of_end p pulled.End x ends none is = has_ended tt none (is ∙ ap (λ (l : List ℕ). ends_before (l ++ future)) (sym x.unread_is))
  of_end p (pulled.Broken fault) x ends none is = absurd (subst IsEnd x.outcome ends)
  of_end p pulled.Pending x ends none is = absurd (subst IsEnd x.outcome ends)

  of_fault : (p : pulls.Pulled) (answer : Pulled) (fault : BodyFault) → IsPulled p answer new.rest rest → new.is_broken ≡ is_fault answer
      → SaysPulled answer (on.broken_by fault) → p.unread ≡ bytes → was.body ≡ [] → was.ending ≡ is_broken → BodyTells old bytes future (item_of answer) new rest
  of_fault p (pulled.Bytes b) fault x wrong same stays none is = absurd (cc same)
  of_fault p (pulled.Trailers entries) fault x wrong same stays none is = absurd (cc (same.1))
  of_fault p pulled.End fault x wrong same stays none is = absurd (cc same)
  of_fault p (pulled.Broken f) fault x wrong same stays none is = broke refl wrong (x.unread_is ∙ stays) none is
  of_fault p pulled.Pending fault x wrong same stays none is = absurd (cc same)

  by_pull : (p : pulls.Pulled) (answer : Pulled) → IsPulled p answer new.rest rest → new.is_broken ≡ is_fault answer → PullTells old.rest bytes future p
      → BodyTells old bytes future (item_of answer) new rest
  by_pull p answer x sound (some_bytes given outcome some body ending is_left) =
      of_bytes p answer given x sound (subst (SaysPulled answer) outcome x.outcome) some body ending is_left
  by_pull p answer x sound (nothing_yet outcome one is_left missing) = of_nothing p answer x sound (subst (SaysPulled answer) outcome x.outcome) one is_left missing
  by_pull p answer x sound (its_end ends none is) = of_end p answer x ends none is
  by_pull p answer x sound (a_fault fault outcome stays none is) = of_fault p answer fault x sound (subst (SaysPulled answer) outcome x.outcome) stays none is

  by_item : (item : Result (Option PayloadItem) DecodeError) → IsLeft old.rest → IsDecodedBy false old bytes item new rest → BodyTells old bytes future item new rest
  by_item (Err NoMemory) is_left x = lacked refl x.0 x.1
  by_item (Err Invalid) is_left (p, answer, pull, x, is, sound) =
      subst (λ (i : Result (Option PayloadItem) DecodeError). BodyTells old bytes future i new rest) (sym is) (by_pull p answer x sound (pull_tells old.rest bytes future p is_left pull))
  by_item (Ok item) is_left (p, answer, pull, x, is, sound) =
      subst (λ (i : Result (Option PayloadItem) DecodeError). BodyTells old bytes future i new rest) (sym is) (by_pull p answer x sound (pull_tells old.rest bytes future p is_left pull))

  pub body_tells : (item : Result (Option PayloadItem) DecodeError) → old.is_broken ≡ false → IsLeft old.rest → IsDecoded old bytes item new rest
      → BodyTells old bytes future item new rest
  body_tells item sound is_left x = by_item item is_left (subst (λ (b : Bool). IsDecodedBy b old bytes item new rest) sound x)
