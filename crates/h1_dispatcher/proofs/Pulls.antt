-- What a pull leaves of a body, and how much it gives at most.
use Rattle.std.proofs.Common.{◌≡◌, ◌≤◌, ◌+◌, ◌-◌, ℕ, Bool, true, false, List, [], ◌∷◌, ◌++◌, length, take, drop, refl, sym, ap, ◌∙◌, subst, arith}
use Rattle.std.specs.Prelude.{⊤, if◌then◌else◌, nat_lt, nat_le}
use Rattle.std.proofs.lemmas.List.{length-take}
use Rattle.model_h1.specs.Place.{InLine, Place, in_bytes, bytes_end, in_section, done, broken, step}
use Rattle.model_h1.specs.TakeNext.{Next, chunk, waits, ended, breaks, Taken, of_chunk, noted_line, stops_at, take_next}
use Rattle.model_h1.specs.Event.{Outcome}
use Rattle.model_h1.specs.Event as on
use Rattle.model_h1.specs.FrameText.{Front, partial, whole, breaks as breaks_rule, front_frame}
use Rattle.model_h1.specs.Parse.{connection_reader}
use Rattle.model_state.specs.Kept.{Rest, no_rest, raw_rest, fixed_rest, chunks_rest, frames_rest, is_frames}
use Rattle.model_state.specs.Pull.{Pulled, lacking, pull_fixed, pull_raw, pull_front, EndsWith, IsPullOfChunks, IsPull}

-- ---- a body stays one

by_pull : (p q : Pulled) (b : Bool) → p ≡ q → is_frames q.rest ≡ b → is_frames p.rest ≡ b
by_pull p q b is so = ap (λ (x : Pulled). is_frames x.rest) is ∙ so

lacking_frames : (has_ended : Bool) (rest : Rest) (bytes : List ℕ) → is_frames (lacking has_ended rest bytes).rest ≡ is_frames rest
lacking_frames true rest bytes = refl
lacking_frames false rest bytes = refl

either_rest : (b : Bool) (x y : Rest) → is_frames x ≡ false → is_frames y ≡ false → is_frames (if b then x else y) ≡ false
either_rest true x y is so = is
either_rest false x y is so = so

raw_frames : (has_ended : Bool) (bytes : List ℕ) → is_frames (pull_raw has_ended bytes).rest ≡ false
raw_frames has_ended (b ∷ bytes) = either_rest has_ended no_rest raw_rest refl refl
raw_frames true [] = refl
raw_frames false [] = refl

fixed_frames : (has_ended : Bool) (n : ℕ) (bytes : List ℕ) → is_frames (pull_fixed has_ended n bytes).rest ≡ false
fixed_frames has_ended n [] = lacking_frames has_ended (fixed_rest n) []
fixed_frames has_ended n (b ∷ bytes) = either_rest (nat_le n (length (b ∷ bytes))) no_rest (fixed_rest (n - length (b ∷ bytes))) refl refl

front_frames : (under_way : Bool) (limit : ℕ) (bytes : List ℕ) (front : Front) → is_frames (pull_front under_way limit bytes front).rest ≡ true
front_frames under_way limit bytes partial = refl
front_frames under_way limit bytes (whole frame len) = refl
front_frames under_way limit bytes (breaks_rule error) = refl

end_frames : (section behind : List ℕ) (p : Pulled) → EndsWith section behind p → is_frames p.rest ≡ false
end_frames [] behind p is = by_pull p _ false is refl
end_frames (b ∷ section) behind p is = by_pull p _ false is.3 refl

chunks_frames : (has_ended : Bool) (place : Place) (section bytes : List ℕ) (next : Next) (noted : List ℕ) (p : Pulled) → IsPullOfChunks has_ended place section bytes next noted p
    → is_frames p.rest ≡ false
chunks_frames has_ended place section bytes (chunk given next behind) noted p is = by_pull p _ false is refl
chunks_frames true place section bytes (waits next) noted p is = by_pull p _ false is refl
chunks_frames false place section bytes (waits next) noted p is = by_pull p _ false is refl
chunks_frames has_ended place section bytes (ended behind) noted p is = end_frames (section ++ noted) behind p is
chunks_frames has_ended place section bytes breaks noted p is = by_pull p _ false is refl

pub pull_frames : (has_ended : Bool) (rest : Rest) (bytes : List ℕ) (p : Pulled) → IsPull has_ended rest bytes p → is_frames p.rest ≡ is_frames rest
pull_frames has_ended no_rest bytes p is = by_pull p _ false is refl
pull_frames has_ended raw_rest bytes p is = by_pull p _ false is (raw_frames has_ended bytes)
pull_frames has_ended (fixed_rest n) bytes p is = by_pull p _ false is (fixed_frames has_ended n bytes)
pull_frames has_ended (chunks_rest place section) bytes p is = chunks_frames has_ended place section bytes (take_next place bytes).next (take_next place bytes).trailers p is
pull_frames has_ended (frames_rest under_way limit) bytes p is =
    by_pull p _ true is (front_frames under_way limit bytes (front_frame (connection_reader limit) under_way bytes))

-- ---- no more bytes than there are

abbrev pub given_bytes : Outcome → List ℕ
given_bytes (on.bytes bytes) = bytes
given_bytes out = []

abbrev pub Fits : List ℕ → Pulled → Type 0
Fits bytes p = length (given_bytes p.outcome) ≤ length bytes

by_fit : (bytes : List ℕ) (p q : Pulled) → p ≡ q → Fits bytes q → Fits bytes p
by_fit bytes p q is so = subst (λ (x : Pulled). Fits bytes x) (sym is) so

-- the bytes of a chunk are some of those that are there
abbrev ChunkFits : List ℕ → Next → Type 0
ChunkFits bytes (chunk given next behind) = length given ≤ length bytes
ChunkFits bytes (waits next) = ⊤
ChunkFits bytes (ended behind) = ⊤
ChunkFits bytes breaks = ⊤

chunk_fits : (more b : ℕ) (bytes : List ℕ) → ChunkFits (b ∷ bytes) (of_chunk more (b ∷ bytes))
chunk_fits more b bytes = by_test (nat_lt more (length (b ∷ bytes)))
  where
    by_test : (c : Bool) → ChunkFits (b ∷ bytes) (if c then chunk (take (more + 1) (b ∷ bytes)) bytes_end (drop (more + 1) (b ∷ bytes)) else chunk (b ∷ bytes) (in_bytes (more - length (b ∷ bytes))) [])
    by_test true = omega (arith, length-take (more + 1) (b ∷ bytes))
    by_test false = omega arith

fits_more : (b : ℕ) (bytes : List ℕ) (next : Next) → ChunkFits bytes next → ChunkFits (b ∷ bytes) next
fits_more b bytes (chunk given next behind) fits = omega (arith, fits)
fits_more b bytes (waits next) fits = tt
fits_more b bytes (ended behind) fits = tt
fits_more b bytes breaks fits = tt

next_noted : (at : InLine) (lines room : ℕ) (q : Place) (b : ℕ) (t : Taken) → (noted_line (in_section at lines room) q b t).next ≡ t.next
next_noted at lines room (in_section at' lines' room') b t = refl
next_noted at lines room q b t = refl

stop_fits : (place : Place) → ChunkFits [] (stops_at place)
stop_fits done = tt
stop_fits broken = tt
stop_fits place = tt

all_fit : (bytes : List ℕ) (place : Place) → ChunkFits bytes (take_next place bytes).next
unfolding take_next
all_fit [] place = stop_fits place
all_fit (b ∷ bytes) done = tt
all_fit (b ∷ bytes) broken = tt
all_fit (b ∷ bytes) (in_bytes more) = chunk_fits more b bytes
all_fit (b ∷ bytes) (in_section at lines room) =
    let place = in_section at lines room in
    let t = take_next (step place b) bytes in
    subst (ChunkFits (b ∷ bytes)) (sym (next_noted at lines room (step place b) b t)) (fits_more b bytes t.next (all_fit bytes (step place b)))
all_fit (b ∷ bytes) place = fits_more b bytes (take_next (step place b) bytes).next (all_fit bytes (step place b))

lacking_fits : (has_ended : Bool) (rest : Rest) (bytes : List ℕ) → Fits bytes (lacking has_ended rest bytes)
lacking_fits true rest bytes = omega arith
lacking_fits false rest bytes = omega arith

raw_fits : (has_ended : Bool) (bytes : List ℕ) → Fits bytes (pull_raw has_ended bytes)
raw_fits has_ended (b ∷ bytes) = omega arith
raw_fits true [] = omega arith
raw_fits false [] = omega arith

fixed_fits : (has_ended : Bool) (n : ℕ) (bytes : List ℕ) → Fits bytes (pull_fixed has_ended n bytes)
fixed_fits has_ended n [] = lacking_fits has_ended (fixed_rest n) []
fixed_fits has_ended n (b ∷ bytes) = omega (arith, length-take n (b ∷ bytes))

front_fits : (under_way : Bool) (limit : ℕ) (bytes : List ℕ) (front : Front) → Fits bytes (pull_front under_way limit bytes front)
front_fits under_way limit bytes partial = omega arith
front_fits under_way limit bytes (whole frame len) = omega arith
front_fits under_way limit bytes (breaks_rule error) = omega arith

end_fits : (bytes section behind : List ℕ) (p : Pulled) → EndsWith section behind p → Fits bytes p
end_fits bytes [] behind p is = by_fit bytes p _ is (omega arith)
end_fits bytes (b ∷ section) behind p is = by_fit bytes p _ is.3 (omega arith)

chunks_fit : (has_ended : Bool) (place : Place) (section bytes : List ℕ) (next : Next) (noted : List ℕ) (p : Pulled) → ChunkFits bytes next
    → IsPullOfChunks has_ended place section bytes next noted p → Fits bytes p
chunks_fit has_ended place section bytes (chunk given next behind) noted p fits is = by_fit bytes p _ is fits
chunks_fit true place section bytes (waits next) noted p fits is = by_fit bytes p _ is (omega arith)
chunks_fit false place section bytes (waits next) noted p fits is = by_fit bytes p _ is (omega arith)
chunks_fit has_ended place section bytes (ended behind) noted p fits is = end_fits bytes (section ++ noted) behind p is
chunks_fit has_ended place section bytes breaks noted p fits is = by_fit bytes p _ is (omega arith)

pub pull_fits : (has_ended : Bool) (rest : Rest) (bytes : List ℕ) (p : Pulled) → IsPull has_ended rest bytes p → Fits bytes p
pull_fits has_ended no_rest bytes p is = by_fit bytes p _ is (omega arith)
pull_fits has_ended raw_rest bytes p is = by_fit bytes p _ is (raw_fits has_ended bytes)
pull_fits has_ended (fixed_rest n) bytes p is = by_fit bytes p _ is (fixed_fits has_ended n bytes)
pull_fits has_ended (chunks_rest place section) bytes p is =
    chunks_fit has_ended place section bytes (take_next place bytes).next (take_next place bytes).trailers p (all_fit bytes place) is
pull_fits has_ended (frames_rest under_way limit) bytes p is =
    by_fit bytes p _ is (front_fits under_way limit bytes (front_frame (connection_reader limit) under_way bytes))
