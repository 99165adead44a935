-- What the places say of bytes that are a body or begin one.
use Rattle.std.proofs.Common.{◌≡◌, ℕ, ◌<◌, ◌≤◌, List, [], ◌++◌, length, take, drop, sym, ap, ◌∙◌, subst, arith}
use Rattle.std.proofs.lemmas.List.{append_assoc, append-nil, length-append, length-drop, take-append-drop, take-take, length-take-le}
use Rattle.model_h1.specs.ChunkedText.{ChunkedText, section_text, content}
use Rattle.model_h1.specs.Runs.{segment_runs, cut_runs}
use Rattle.model_h1.specs.Chunked.{Spells, IsBeginning}
use Rattle.model_h1.specs.Place.{done, broken, start, after}
use Rattle.model_h1.specs.Reading.{ends_before, Reading, read}
use Rattle.model_h1.proofs.Complete.{text_read}
use Rattle.model_h1.proofs.ReadAfter.{after-append, after-broken, done_stops, done_from_ended}
use Rattle.model_h1.proofs.RunPlaces.{runs_of}
use Rattle.model_h1.proofs.RunsOfText.{runs_of-text}
use Rattle.model_h1.proofs.Cuts.{cut_runs_front}

-- ---- whole bodies

-- what is read of a whole body and of what follows it
pub front_read : (bytes rest : List ℕ) (t : ChunkedText) → Spells bytes t
    → read start (bytes ++ rest) ≡ record { body = content t; trailers = section_text t.trailers; ending = ends_before rest }
front_read bytes rest t x = ap (λ l. read start (l ++ rest)) x.1 ∙ text_read t rest x.0

-- what is read of it alone
pub body_read : (bytes : List ℕ) (t : ChunkedText) → Spells bytes t
    → read start bytes ≡ record { body = content t; trailers = section_text t.trailers; ending = ends_before [] }
body_read bytes t x = ap (read start) (sym (append-nil bytes)) ∙ front_read bytes [] t x

-- its bytes lead behind it
pub after-body : (bytes : List ℕ) (t : ChunkedText) → Spells bytes t → after start bytes ≡ done
after-body bytes t x = done_from_ended start bytes (ap (λ (r : Reading). r.ending) (body_read bytes t x))

-- the walk finds its runs, whatever follows
runs_of-front : (bytes rest : List ℕ) (t : ChunkedText) → Spells bytes t → runs_of 0 start (bytes ++ rest) ≡ segment_runs 0 t.segments
runs_of-front bytes rest t x = ap (λ l. runs_of 0 start (l ++ rest)) x.1 ∙ runs_of-text t rest x.0

-- and in the body alone
pub runs_of-body : (bytes : List ℕ) (t : ChunkedText) → Spells bytes t → runs_of 0 start bytes ≡ segment_runs 0 t.segments
runs_of-body bytes t x = ap (runs_of 0 start) (sym (append-nil bytes)) ∙ runs_of-front bytes [] t x

-- the same where so many bytes are the body
pub runs_of-whole : (bytes : List ℕ) (k : ℕ) (t : ChunkedText) → Spells (take k bytes) t → runs_of 0 start bytes ≡ segment_runs 0 t.segments
runs_of-whole bytes k t x = ap (runs_of 0 start) (sym (take-append-drop k bytes)) ∙ runs_of-front (take k bytes) (drop k bytes) t x

-- ---- beginnings

-- a front of a beginning is a beginning
pub begins_front : (xs ys : List ℕ) (t : ChunkedText) → IsBeginning (xs ++ ys) t → IsBeginning xs t
begins_front xs ys t x =
    let some : 0 < length (ys ++ x.0) = omega (arith, length-append ys x.0, x.1) in
    (ys ++ x.0, some, (x.2.0, sym (append_assoc xs ys x.0) ∙ x.2.1))

-- the same of so many bytes at the front
pub begins_take : (n : ℕ) (bytes : List ℕ) (t : ChunkedText) → IsBeginning bytes t → IsBeginning (take n bytes) t
begins_take n bytes t x =
    begins_front (take n bytes) (drop n bytes) t (subst (λ l. IsBeginning l t) (sym (take-append-drop n bytes)) x)

-- a proper front of a whole body is a beginning
pub spells_begins : (n : ℕ) (bytes : List ℕ) (t : ChunkedText) → n < length bytes → Spells bytes t → IsBeginning (take n bytes) t
spells_begins n bytes t short x =
    let some : 0 < length (drop n bytes) = omega (arith, length-drop n bytes) in
    (drop n bytes, some, (x.0, take-append-drop n bytes ∙ x.1))

-- two fronts of the bytes, of which the longer is a whole body
pub whole_begins : (n k : ℕ) (bytes : List ℕ) (t : ChunkedText) → n < k → k ≤ length bytes → Spells (take k bytes) t → IsBeginning (take n bytes) t
whole_begins n k bytes t short within x =
    subst (λ l. IsBeginning l t) (take-take n k bytes (omega arith))
    (spells_begins n (take k bytes) t (omega (arith, length-take-le k bytes within)) x)

-- two fronts of the bytes, of which the longer is a beginning
pub longer_begins : (n k : ℕ) (bytes : List ℕ) (t : ChunkedText) → n ≤ k → IsBeginning (take k bytes) t → IsBeginning (take n bytes) t
longer_begins n k bytes t short x = subst (λ l. IsBeginning l t) (take-take n k bytes short) (begins_take n (take k bytes) t x)

-- what follows a beginning leads from its end behind the body
begins_goes_on : (bytes : List ℕ) (t : ChunkedText) (x : IsBeginning bytes t) → after (after start bytes) x.0 ≡ done
begins_goes_on bytes t x = sym (after-append start bytes x.0) ∙ after-body (bytes ++ x.0) t x.2

-- a beginning is not yet a whole body
pub begins_not_done : (bytes : List ℕ) (t : ChunkedText) → IsBeginning bytes t → after start bytes ≡ done → ⊥
begins_not_done bytes t x e =
    let goes_on = begins_goes_on bytes t x in
    let moved = ap (λ p. after p x.0) e in
    let stops = done_stops x.0 x.1 in
    cc

-- and it is not broken
pub begins_not_broken : (bytes : List ℕ) (t : ChunkedText) → IsBeginning bytes t → after start bytes ≡ broken → ⊥
begins_not_broken bytes t x e =
    let goes_on = begins_goes_on bytes t x in
    let moved = ap (λ p. after p x.0) e in
    let stays = after-broken x.0 in
    cc

-- no whole body is the beginning of another
pub whole_not_begun : (bytes : List ℕ) (t u : ChunkedText) → Spells bytes t → IsBeginning bytes u → ⊥
whole_not_begun bytes t u x y = begins_not_done bytes u y (after-body bytes t x)

-- the runs of a body that the bytes begin, as far as they reach
pub begins_runs : (bytes : List ℕ) (t : ChunkedText) → IsBeginning bytes t
    → cut_runs (length bytes) (segment_runs 0 t.segments) ≡ cut_runs (length bytes) (runs_of 0 start bytes)
begins_runs bytes t x =
    ap (cut_runs (length bytes)) (sym (runs_of-body (bytes ++ x.0) t x.2)) ∙ cut_runs_front bytes x.0

-- the same of a front of the bytes
pub begins_take_runs : (n : ℕ) (bytes : List ℕ) (t : ChunkedText) → n ≤ length bytes → IsBeginning (take n bytes) t
    → cut_runs n (segment_runs 0 t.segments) ≡ cut_runs n (runs_of 0 start (take n bytes))
begins_take_runs n bytes t within x =
    subst (λ m. cut_runs m (segment_runs 0 t.segments) ≡ cut_runs m (runs_of 0 start (take n bytes)))
    (length-take-le n bytes within) (begins_runs (take n bytes) t x)
