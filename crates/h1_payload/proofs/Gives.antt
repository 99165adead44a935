-- A pull that gives bytes or trailers gives some.
use Rattle.std.proofs.Common.{◌≡◌, ℕ, ◌<◌, Bool, true, false, cond, List, [], ◌∷◌, ◌++◌, length, map, fold, refl, sym, subst, arith, length-take}
use Rattle.std.specs.Prelude.{bytes_eq}
use Rattle.http_header.specs.FieldValue.{FieldValue, plain_value}
use Rattle.model_h1.specs.ChunkedText.{Trailer, section_text}
use Rattle.model_h1.specs.Place.{Place}
use Rattle.model_h1.specs.TakeNext.{Next, chunk, waits, ended, breaks, take_next}
use Rattle.model_h1.proofs.TakenPlaces.{taken_chunk_leads}
use Rattle.http_map.specs.HeaderMap.{Entries, append}
use Rattle.model_h1.specs.Parse.{trailer_header}
use Rattle.model_h1.specs.Request.{Header}
use Rattle.model_state.specs.Kept.{Rest, no_rest, raw_rest, fixed_rest, chunks_rest, frames_rest}
use Rattle.model_state.specs.Pull as pulls
use Rattle.model_state.specs.Pull.{pull_fixed, pull_raw, EndsWith, IsPullOfChunks, IsPull}
use Rattle.http_framing.specs.HeaderLines.{header_map}
use Rattle.h1_payload.specs.Fitting.{Fits, GivesSome}

raw_some : (is_ended : Bool) (bytes : List ℕ) → GivesSome (pull_raw is_ended bytes).outcome
raw_some true [] = tt
raw_some false [] = tt
raw_some is_ended (b ∷ bytes) = omega arith

fixed_some : (is_ended : Bool) (n : ℕ) (bytes : List ℕ) → 0 < n → GivesSome (pull_fixed is_ended n bytes).outcome
fixed_some true n [] some = tt
fixed_some false n [] some = tt
fixed_some is_ended n (b ∷ bytes) some = omega (arith, length-take n (b ∷ bytes))

ends_some : (text behind : List ℕ) (p : pulls.Pulled) → EndsWith text behind p → GivesSome p.outcome
ends_some [] behind p x = subst (λ (r : pulls.Pulled). GivesSome r.outcome) (sym x) tt
ends_some (b ∷ text) behind p x = subst (λ (r : pulls.Pulled). GivesSome r.outcome) (sym x.3) (some_lines x.0 x.2)
  where
    some_lines : (lines : List Trailer) → section_text lines ≡ b ∷ text → 0 < length (map trailer_header lines)
    some_lines [] spelled = cc
    some_lines (t ∷ lines) spelled = omega arith

chunks_some : (is_ended : Bool) (place : Place) (section bytes : List ℕ) (next : Next) (noted : List ℕ) (p : pulls.Pulled)
    → (take_next place bytes).next ≡ next → IsPullOfChunks is_ended place section bytes next noted p → GivesSome p.outcome
chunks_some is_ended place section bytes (chunk given next behind) noted p e x =
    subst (λ (r : pulls.Pulled). GivesSome r.outcome) (sym x) (taken_chunk_leads place next bytes given behind e).some
chunks_some true place section bytes (waits next) noted p e x = subst (λ (r : pulls.Pulled). GivesSome r.outcome) (sym x) tt
chunks_some false place section bytes (waits next) noted p e x = subst (λ (r : pulls.Pulled). GivesSome r.outcome) (sym x) tt
chunks_some is_ended place section bytes (ended behind) noted p e x = ends_some (section ++ noted) behind p x
chunks_some is_ended place section bytes breaks noted p e x = subst (λ (r : pulls.Pulled). GivesSome r.outcome) (sym x) tt

pub pull_gives_some : (is_ended : Bool) (rest : Rest) (bytes : List ℕ) (p : pulls.Pulled) → Fits rest → IsPull is_ended rest bytes p
    → GivesSome p.outcome
pull_gives_some is_ended no_rest bytes p fits x = subst (λ (r : pulls.Pulled). GivesSome r.outcome) (sym x) tt
pull_gives_some is_ended raw_rest bytes p fits x = subst (λ (r : pulls.Pulled). GivesSome r.outcome) (sym x) (raw_some is_ended bytes)
pull_gives_some is_ended (fixed_rest n) bytes p fits x = subst (λ (r : pulls.Pulled). GivesSome r.outcome) (sym x) (fixed_some is_ended n bytes fits)
pull_gives_some is_ended (chunks_rest place section) bytes p fits x =
    chunks_some is_ended place section bytes (take_next place bytes).next (take_next place bytes).trailers p refl x
pull_gives_some is_ended (frames_rest under_way limit) bytes p fits x = absurd fits

-- ---- maps

append_some : (m : Entries) (name : List ℕ) (value : FieldValue) → 0 < length (append m name value)
append_some [] name value = omega arith
append_some (e ∷ m) name value = by_test (bytes_eq name e.0)
  where
    by_test : (b : Bool) → 0 < length (cond b ((e.0, e.1 ++ value ∷ []) ∷ m) (e ∷ append m name value))
    by_test true = omega arith
    by_test false = omega arith

fold_some : (headers : List Header) (m : Entries) → 0 < length m
    → 0 < length (fold (λ entries (h : Header). append entries h.name (plain_value h.value)) m headers)
fold_some [] m some = some
fold_some (h ∷ headers) m some = fold_some headers (append m h.name (plain_value h.value)) (append_some m h.name (plain_value h.value))

-- the map of some headers has some names
pub map_some : (headers : List Header) → 0 < length headers → 0 < length (header_map headers)
map_some [] some = absurd (omega arith)
map_some (h ∷ headers) some = fold_some headers (append [] h.name (plain_value h.value)) (append_some [] h.name (plain_value h.value))
