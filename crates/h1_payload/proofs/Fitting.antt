-- A rest that fits has a pull, and fits behind it.
use Rattle.std.proofs.Common.{◌≡◌, ℕ, zero, suc, ◌-◌, ◌<◌, leb, Bool, true, false, List, [], ◌∷◌, ◌++◌, length, map, refl, sym, ap, ◌∙◌, subst, subst₂, arith, append-nil, append_assoc, ◌==◌}
use Rattle.std.specs.List.{AllByRecursion}
use Rattle.std.proofs.lemmas.Bool.{cond_both, cond-false, leb-false, ne_eqb}
use Rattle.std.proofs.lemmas.List.{append_cancel_right}
use Rattle.model_h1.specs.ChunkedText.{Trailer, IsTrailer, content, section_text}
use Rattle.model_h1.specs.Place.{Place, start, broken, after}
use Rattle.model_h1.specs.Reading.{Reading, ends_before, read}
use Rattle.model_h1.specs.TakeNext.{Next, chunk, waits, ended, breaks, take_next, says}
use Rattle.model_h1.proofs.Complete.{text_read}
use Rattle.model_h1.proofs.Sound.{ended_is_text}
use Rattle.model_h1.proofs.ReadAfter.{read-append}
use Rattle.model_h1.proofs.TakenReads.{taken_is_read}
use Rattle.model_h1.proofs.TakenPlaces.{waiting_leads, taken_chunk_leads}
use Rattle.model_h1.specs.Parse.{trailer_header}
use Rattle.model_h1.specs.Request.{BodyKind, no_body, fixed_body, chunked_body, raw_body}
use Rattle.model_h1.specs.Event.{corrupted, incomplete}
use Rattle.model_h1.specs.Event as on
use Rattle.model_state.specs.Kept.{Rest, no_rest, raw_rest, fixed_rest, chunks_rest, frames_rest, whole_rest}
use Rattle.model_state.specs.Pull as pulls
use Rattle.model_state.specs.Pull.{gives, finishes, pull_fixed, pull_raw, EndsWith, IsPullOfChunks, IsPull}
use Rattle.h1_payload.specs.Fitting.{HasLines, Fits}
use Rattle.h1_payload.proofs.Rooms.{IsUnbroken, unbroken, waiting_notes, ended_notes}

-- ---- lines

-- in front of a body
pub lines_start : HasLines start []
lines_start z rest e =
    let t = ended_is_text z rest e in
    let is : read start z ≡ record { body = content t.0; trailers = section_text t.0.trailers; ending = ends_before rest } =
    ap (read start) t.2 ∙ text_read t.0 rest t.1 in
    (t.0.trailers, t.1.trailers, sym (ap (λ (r : Reading). r.trailers) is))

-- behind some bytes
lines_behind : (place : Place) (front section : List ℕ) → HasLines place section → (after place front ≡ broken → ⊥)
    → HasLines (after place front) (section ++ (read place front).trailers)
lines_behind place front section has goes z rest e =
    let q = after place front in
    let a = (read place front).trailers in
    let same = read-append place front z goes in
    let x = has (front ++ z) rest (ap (λ (r : Reading). r.ending) same ∙ e) in
    (x.0, x.1, x.2 ∙ ap (λ (r : Reading). section ++ r.trailers) same ∙ sym (append_assoc section a (read q z).trailers))

-- ---- chunks

-- the trailers that are read up to the end of a chunk's bytes are those noted
chunk_notes : (place next : Place) (bytes given behind : List ℕ) (e : (take_next place bytes).next ≡ chunk given next behind)
    → let k = taken_chunk_leads place next bytes given behind e in (read place k.front).trailers ≡ (take_next place bytes).trailers
chunk_notes place next bytes given behind e =
    let k = taken_chunk_leads place next bytes given behind e in
    let noted = (take_next place bytes).trailers in
    let goes : next ≡ broken → ⊥ = subst IsUnbroken e (unbroken bytes place) in
    let more = (read next (behind ++ [])).trailers in
    let by_taking : (read place (bytes ++ [])).trailers ≡ noted ++ more =
    ap (λ (r : Reading). r.trailers) (taken_is_read bytes place []) ∙ ap (λ n. noted ++ (says n []).trailers) e in
    let by_reading : (read place (k.front ++ (behind ++ []))).trailers ≡ (read place k.front).trailers ++ (read (after place k.front) (behind ++ [])).trailers =
    ap (λ (r : Reading). r.trailers) (read-append place k.front (behind ++ []) (λ x. goes (k.leads ∙ x))) in
    let whole : bytes ++ [] ≡ k.front ++ (behind ++ []) = ap (λ l. l ++ []) k.parts ∙ append_assoc k.front behind [] in
    append_cancel_right (read place k.front).trailers noted more
    (ap (λ q. (read place k.front).trailers ++ (read q (behind ++ [])).trailers) k.leads
    ∙ sym by_reading
    ∙ sym (ap (λ l. (read place l).trailers) whole)
    ∙ by_taking)

lines_chunk : (place next : Place) (bytes given behind section : List ℕ) → HasLines place section → (take_next place bytes).next ≡ chunk given next behind
    → HasLines next (section ++ (take_next place bytes).trailers)
lines_chunk place next bytes given behind section has e =
    let k = taken_chunk_leads place next bytes given behind e in
    let goes : next ≡ broken → ⊥ = subst IsUnbroken e (unbroken bytes place) in
    subst₂ (λ q l. HasLines q (section ++ l)) (sym k.leads) (chunk_notes place next bytes given behind e)
    (lines_behind place k.front section has (λ x. goes (k.leads ∙ x)))

lines_waiting : (place next : Place) (bytes section : List ℕ) → HasLines place section → (take_next place bytes).next ≡ waits next
    → HasLines next (section ++ (take_next place bytes).trailers)
lines_waiting place next bytes section has e =
    let leads = waiting_leads place next bytes e in
    let goes : next ≡ broken → ⊥ = subst IsUnbroken e (unbroken bytes place) in
    subst₂ (λ q l. HasLines q (section ++ l)) (sym leads) (waiting_notes place next bytes e)
    (lines_behind place bytes section has (λ x. goes (leads ∙ x)))

-- the end: its trailers are lines
pub lines_ended : (place : Place) (bytes behind section : List ℕ) → HasLines place section → (take_next place bytes).next ≡ ended behind
    → (lines : List Trailer) × AllByRecursion IsTrailer lines × (section_text lines ≡ section ++ (take_next place bytes).trailers)
lines_ended place bytes behind section has e =
    let noted = (take_next place bytes).trailers in
    let ending : (read place bytes).ending ≡ ends_before (behind ++ []) =
    ap (λ l. (read place l).ending) (sym (append-nil bytes))
    ∙ ap (λ (r : Reading). r.ending) (taken_is_read bytes place [])
    ∙ ap (λ n. (says n []).ending) e in
    let x = has bytes (behind ++ []) ending in
    (x.0, x.1, x.2 ∙ ap (λ l. section ++ l) (ended_notes place bytes behind e))

-- there is an answer at the end
end_is_there : (text behind : List ℕ) → ((lines : List Trailer) × AllByRecursion IsTrailer lines × (section_text lines ≡ text))
    → (p : pulls.Pulled) × EndsWith text behind p
end_is_there [] behind x = (finishes on.body_ended no_rest behind, refl)
end_is_there (b ∷ text) behind x = (gives (on.trailers (map trailer_header x.0)) no_rest behind, (x.0, x.1, x.2, refl))

chunks_pull : (is_ended : Bool) (place : Place) (section bytes : List ℕ) (next : Next) → HasLines place section → (take_next place bytes).next ≡ next
    → (p : pulls.Pulled) × IsPullOfChunks is_ended place section bytes next (take_next place bytes).trailers p
chunks_pull is_ended place section bytes (chunk given next behind) has e =
    (gives (on.bytes given) (chunks_rest next (section ++ (take_next place bytes).trailers)) behind, refl)
chunks_pull true place section bytes (waits next) has e = (finishes (on.broken_by incomplete) (chunks_rest place section) bytes, refl)
chunks_pull false place section bytes (waits next) has e = (gives on.pending (chunks_rest next (section ++ (take_next place bytes).trailers)) [], refl)
chunks_pull is_ended place section bytes (ended behind) has e =
    end_is_there (section ++ (take_next place bytes).trailers) behind (lines_ended place bytes behind section has e)
chunks_pull is_ended place section bytes breaks has e = (finishes (on.broken_by corrupted) (chunks_rest place section) bytes, refl)

-- ---- the laws

-- a rest that fits has a pull
pub a_pull : (is_ended : Bool) (rest : Rest) (bytes : List ℕ) → Fits rest → (p : pulls.Pulled) × IsPull is_ended rest bytes p
a_pull is_ended no_rest bytes fits = (finishes on.body_ended no_rest bytes, refl)
a_pull is_ended raw_rest bytes fits = (pull_raw is_ended bytes, refl)
a_pull is_ended (fixed_rest n) bytes fits = (pull_fixed is_ended n bytes, refl)
a_pull is_ended (chunks_rest place section) bytes fits = chunks_pull is_ended place section bytes (take_next place bytes).next fits refl
a_pull is_ended (frames_rest under_way limit) bytes fits = absurd fits

-- what is left fits
ends_fit : (text behind : List ℕ) (p : pulls.Pulled) → EndsWith text behind p → Fits p.rest
ends_fit [] behind p x = subst (λ (q : pulls.Pulled). Fits q.rest) (sym x) tt
ends_fit (b ∷ text) behind p x = subst (λ (q : pulls.Pulled). Fits q.rest) (sym x.3) tt

chunks_fit : (is_ended : Bool) (place : Place) (section bytes : List ℕ) (next : Next) (p : pulls.Pulled) → HasLines place section
    → (take_next place bytes).next ≡ next → IsPullOfChunks is_ended place section bytes next (take_next place bytes).trailers p → Fits p.rest
chunks_fit is_ended place section bytes (chunk given next behind) p has e x =
    subst (λ (q : pulls.Pulled). Fits q.rest) (sym x) (lines_chunk place next bytes given behind section has e)
chunks_fit true place section bytes (waits next) p has e x = subst (λ (q : pulls.Pulled). Fits q.rest) (sym x) has
chunks_fit false place section bytes (waits next) p has e x =
    subst (λ (q : pulls.Pulled). Fits q.rest) (sym x) (lines_waiting place next bytes section has e)
chunks_fit is_ended place section bytes (ended behind) p has e x = ends_fit (section ++ (take_next place bytes).trailers) behind p x
chunks_fit is_ended place section bytes breaks p has e x = subst (λ (q : pulls.Pulled). Fits q.rest) (sym x) has

raw_fits : (is_ended : Bool) (bytes : List ℕ) → Fits (pull_raw is_ended bytes).rest
raw_fits true [] = tt
raw_fits false [] = tt
raw_fits true (b ∷ bytes) = tt
raw_fits false (b ∷ bytes) = tt

fixed_fits : (is_ended : Bool) (n : ℕ) (bytes : List ℕ) → 0 < n → Fits (pull_fixed is_ended n bytes).rest
fixed_fits true n [] some = some
fixed_fits false n [] some = some
fixed_fits is_ended n (b ∷ bytes) some =
    let count = length (b ∷ bytes) in
    cond_both (leb n count) no_rest (fixed_rest (n - count)) Fits (λ _. tt)
    (λ e. let past : count < n = leb-false n count e in omega arith)

pub still_fits : (is_ended : Bool) (rest : Rest) (bytes : List ℕ) (p : pulls.Pulled) → Fits rest → IsPull is_ended rest bytes p → Fits p.rest
still_fits is_ended no_rest bytes p fits x = subst (λ (q : pulls.Pulled). Fits q.rest) (sym x) tt
still_fits is_ended raw_rest bytes p fits x = subst (λ (q : pulls.Pulled). Fits q.rest) (sym x) (raw_fits is_ended bytes)
still_fits is_ended (fixed_rest n) bytes p fits x = subst (λ (q : pulls.Pulled). Fits q.rest) (sym x) (fixed_fits is_ended n bytes fits)
still_fits is_ended (chunks_rest place section) bytes p fits x = chunks_fit is_ended place section bytes (take_next place bytes).next p fits refl x
still_fits is_ended (frames_rest under_way limit) bytes p fits x = absurd fits

-- so does a whole body
pub whole_fits : (kind : BodyKind) → Fits (whole_rest kind)
whole_fits no_body = tt
whole_fits (fixed_body zero) = tt
whole_fits (fixed_body (suc n)) =
    subst Fits (sym (cond-false (suc n == 0) no_rest (fixed_rest (suc n)) (ne_eqb (suc n) 0 (λ e. omega (arith, e))))) (omega arith)
whole_fits chunked_body = lines_start
whole_fits raw_body = tt
