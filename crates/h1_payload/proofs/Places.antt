-- Where in the bytes what comes next stands.
use Rattle.std.proofs.Common.{◌≡◌, ℕ, suc, ◌+◌, ◌-◌, ◌<◌, ◌≤◌, ltb, eqb, true, false, List, [], ◌∷◌, length, get_or, take, drop, refl, sym, ap, ◌∙◌, subst, inl, arith, add-one, append-nil, length-drop}
use Rattle.std.specs.Prelude.{slice_range}
use Rattle.std.proofs.Math.Nat.{sub_self}
use Rattle.std.proofs.Math.Seq.{drop-cons, drop-length}
use Rattle.std.proofs.lemmas.Bool.{cond-true, cond-false, lt-ltb, le-ltb, eq-eqb, ne_eqb}
use Rattle.std.proofs.lemmas.List.{drop-drop, drop-take, take_rest}
use Rattle.model_h1.specs.Place.{Place, in_bytes, bytes_end, in_section, end_cr, done, broken, step}
use Rattle.model_h1.specs.TakeNext.{Next, chunk, waits, ended, breaks, nothing_noted, of_chunk, stops_at, take_next}
use Rattle.h1_payload.specs.declared.place.Line.{Line}
use Rattle.h1_payload.specs.declared.place.Place as declared
use Rattle.h1_payload.specs.declared.place.Place.TheVariants as place
use Rattle.h1_payload.specs.Places.{place_of, is_quiet, is_section}
use Rattle.h1_payload.specs.declared.scan.Found.{Found}
use Rattle.h1_payload.specs.declared.scan.Scan.{Scan}
use Rattle.h1_payload.specs.Scans.{next_of, told, noting, EndsLines, IsFoundWithin, IsWithin}
use Rattle.h1_payload.proofs.Taking.{take-nil, take_chunk, take_quiet, take_out, take_broken, take_done, breaks_section}

-- no bytes
pub slice_none : (bytes : List ℕ) (at : ℕ) → slice_range bytes at at ≡ []
slice_none bytes at = ap (λ n. take n (drop at bytes)) (sub_self at)

-- behind all bytes
drop_end : (bytes : List ℕ) (at : ℕ) → at ≡ length bytes → drop at bytes ≡ []
drop_end bytes at e = ap (λ n. drop n bytes) e ∙ drop-length bytes

-- where no byte is, the place waits
pub waits_at : (p : Place) (bytes : List ℕ) (at : ℕ) → stops_at p ≡ waits p → at ≡ length bytes → take_next p (drop at bytes) ≡ nothing_noted (waits p)
waits_at p bytes at stops e = ap (take_next p) (drop_end bytes at e) ∙ take-nil p ∙ ap nothing_noted stops

-- ---- chunks

take_some : (more : ℕ) (l : List ℕ) → 0 < length l → take_next (in_bytes more) l ≡ nothing_noted (of_chunk more l)
take_some more [] some = absurd (omega arith)
take_some more (b ∷ l) some = take_chunk more b l

-- all bytes of a chunk
pub chunk_all : (more : ℕ) (bytes : List ℕ) (at end : ℕ) → more + at < length bytes → end ≡ at + more + 1
    → take_next (in_bytes more) (drop at bytes) ≡ nothing_noted (chunk (slice_range bytes at end) bytes_end (drop end bytes))
chunk_all more bytes at end fits is =
    let l = drop at bytes in
    let len : length l ≡ length bytes - at = length-drop at bytes in
    let size : end - at ≡ more + 1 = omega arith in
    let to : at + (more + 1) ≡ end = omega arith in
    let all = chunk (take (more + 1) l) bytes_end (drop (more + 1) l) in
    take_some more l (omega arith)
    ∙ ap nothing_noted (cond-true (ltb more (length l)) all (chunk l (in_bytes (more - length l)) []) (lt-ltb more (length l) (omega arith)))
    ∙ ap (λ n. nothing_noted (chunk (take n l) bytes_end (drop (more + 1) l))) (sym size)
    ∙ ap (λ r. nothing_noted (chunk (slice_range bytes at end) bytes_end r)) (drop-drop (more + 1) at bytes ∙ ap (λ n. drop n bytes) to)

-- some of them
pub chunk_some : (more : ℕ) (bytes : List ℕ) (at left : ℕ) → length bytes ≤ more + at → at < length bytes → left ≡ more - (length bytes - at)
    → take_next (in_bytes more) (drop at bytes)
    ≡ nothing_noted (chunk (slice_range bytes at (length bytes)) (in_bytes left) (drop (length bytes) bytes))
chunk_some more bytes at left past some is =
    let l = drop at bytes in
    let len : length l ≡ length bytes - at = length-drop at bytes in
    let to : more - length l ≡ left = omega arith in
    take_some more l (omega arith)
    ∙ ap nothing_noted (cond-false (ltb more (length l)) (chunk (take (more + 1) l) bytes_end (drop (more + 1) l)) (chunk l (in_bytes (more - length l)) [])
    (le-ltb more (length l) (omega arith)))
    ∙ ap (λ n. nothing_noted (chunk l (in_bytes n) [])) to
    ∙ ap (λ g. nothing_noted (chunk g (in_bytes left) [])) (sym (take_rest bytes at))
    ∙ ap (λ r. nothing_noted (chunk (slice_range bytes at (length bytes)) (in_bytes left) r)) (sym (drop-length bytes))

-- ---- the end

-- one quiet byte
pub quiet_at : (p : Place) (bytes : List ℕ) (at : ℕ) → is_quiet p ≡ true → at < length bytes
    → take_next p (drop at bytes) ≡ take_next (step p (get_or bytes at 0)) (drop (at + 1) bytes)
quiet_at p bytes at quiet below =
    ap (take_next p) (drop-cons bytes at 0 below)
    ∙ take_quiet p (get_or bytes at 0) (drop (suc at) bytes) quiet
    ∙ ap (λ n. take_next (step p (get_or bytes at 0)) (drop n bytes)) (sym (add-one at))

-- the LF behind the CR of the empty line
pub end_at : (bytes : List ℕ) (at : ℕ) → at < length bytes → get_or bytes at 0 ≡ 10
    → take_next end_cr (drop at bytes) ≡ nothing_noted (ended (drop (at + 1) bytes))
end_at bytes at below is =
    quiet_at end_cr bytes at refl below
    ∙ ap (λ q. take_next q (drop (at + 1) bytes)) (cond-true (eqb (get_or bytes at 0) 10) done broken (eq-eqb (get_or bytes at 0) 10 is))
    ∙ take_done (drop (at + 1) bytes)

-- any other byte there
pub no_end_at : (bytes : List ℕ) (at : ℕ) → at < length bytes → (get_or bytes at 0 ≡ 10 → ⊥)
    → take_next end_cr (drop at bytes) ≡ nothing_noted breaks
no_end_at bytes at below other =
    quiet_at end_cr bytes at refl below
    ∙ ap (λ q. take_next q (drop (at + 1) bytes)) (cond-false (eqb (get_or bytes at 0) 10) done broken (ne_eqb (get_or bytes at 0) 10 other))
    ∙ take_broken (drop (at + 1) bytes)

-- ---- the end of a section

pub section_stops : (p : Place) → is_section p ≡ true → stops_at p ≡ waits p
section_stops (in_section at lines room) inside = refl
section_stops p inside = cc

-- the byte that leads out
out_at : (p : Place) (bytes : List ℕ) (at : ℕ) → at < length bytes → EndsLines p (drop at bytes) → is_section (step p (get_or bytes at 0)) ≡ false
out_at p bytes at below ends = subst (EndsLines p) (drop-cons bytes at 0 below) ends

leads_out : (p : Place) (bytes : List ℕ) (at : ℕ) → is_section p ≡ true → EndsLines p (drop at bytes) → at < length bytes
    → take_next p (drop at bytes) ≡ take_next (step p (get_or bytes at 0)) (drop (at + 1) bytes)
leads_out p bytes at inside ends below =
    ap (take_next p) (drop-cons bytes at 0 below)
    ∙ take_out p (get_or bytes at 0) (drop (suc at) bytes) inside (out_at p bytes at below ends)
    ∙ ap (λ n. take_next (step p (get_or bytes at 0)) (drop n bytes)) (sym (add-one at))

-- the CR of the empty line
pub empty_line_at : (p : Place) (bytes : List ℕ) (at : ℕ) (next : Next) → is_section p ≡ true → EndsLines p (drop at bytes) → at < length bytes
    → step p (get_or bytes at 0) ≡ end_cr → take_next end_cr (drop (at + 1) bytes) ≡ nothing_noted next
    → take_next p (drop at bytes) ≡ nothing_noted next
empty_line_at p bytes at next inside ends below is behind =
    leads_out p bytes at inside ends below ∙ ap (λ q. take_next q (drop (at + 1) bytes)) is ∙ behind

-- any other byte
pub broken_at : (p : Place) (bytes : List ℕ) (at : ℕ) → is_section p ≡ true → EndsLines p (drop at bytes) → at < length bytes
    → (step p (get_or bytes at 0) ≡ end_cr → ⊥) → take_next p (drop at bytes) ≡ nothing_noted breaks
broken_at p bytes at inside ends below other =
    leads_out p bytes at inside ends below
    ∙ ap (λ q. take_next q (drop (at + 1) bytes)) (breaks_section p (get_or bytes at 0) inside (out_at p bytes at below ends) other)
    ∙ take_broken (drop (at + 1) bytes)

-- ---- places of the code

-- one that isn't behind the CR of the empty line
pub not_end_cr : (q : declared.Place) → (q ≡ place.EndCr → ⊥) → place_of q ≡ end_cr → ⊥
not_end_cr place.EndCr other e = other refl
not_end_cr q other e = cc

-- ---- what a scan tells

-- without bytes of trailer lines
pub plain_told : (bytes : List ℕ) (at : ℕ) (what : Found) → nothing_noted (next_of bytes what) ≡ told bytes (record { from = at; to = at; found = what })
plain_told bytes at what = ap (λ (l : List ℕ). record { trailers = l; next = next_of bytes what }) (sym (slice_none bytes at))

pub plain_within : (len at : ℕ) (what : Found) (s : Scan) → at ≤ len → IsFoundWithin len what → s ≡ record { from = at; to = at; found = what } → IsWithin len s
plain_within len at what s below inside is =
    subst (IsWithin len) (sym is) (record { alone = inl refl; ordered = omega arith; lines = below; found = inside })

-- what comes next in the section is told behind the bytes of its lines
pub lines_told : (start p : Place) (bytes : List ℕ) (at count to : ℕ) (what : Found) → at ≤ length bytes → count ≤ length (drop at bytes) → to ≡ at + count
    → take_next start (drop at bytes) ≡ noting (take count (drop at bytes)) (take_next p (drop count (drop at bytes)))
    → take_next p (drop to bytes) ≡ nothing_noted (next_of bytes what)
    → take_next start (drop at bytes) ≡ told bytes (record { from = at; to = to; found = what })
lines_told start p bytes at count to what below within is same behind =
    let l = drop at bytes in
    let size : count ≡ to - at = omega arith in
    same
    ∙ ap (λ r. noting (take count l) (take_next p r)) (drop-drop count at bytes ∙ ap (λ n. drop n bytes) (sym is))
    ∙ ap (noting (take count l)) behind
    ∙ ap (λ (r : List ℕ). record { trailers = r; next = next_of bytes what }) (append-nil (take count l) ∙ ap (λ n. take n l) size)

-- the bytes up to a place, without those in front of another
pub shared : (bytes : List ℕ) (at end : ℕ) → at ≤ end → drop at (take end bytes) ≡ slice_range bytes at end
shared bytes at end below =
    let sum : end ≡ at + (end - at) = omega arith in
    ap (λ n. drop at (take n bytes)) sum ∙ drop-take at (end - at) bytes

-- a quiet place stops nothing
pub quiet_stops : (p : Place) → is_quiet p ≡ true → stops_at p ≡ waits p
quiet_stops (in_bytes more) quiet = cc
quiet_stops (in_section at lines room) quiet = cc
quiet_stops done quiet = cc
quiet_stops broken quiet = cc
quiet_stops p quiet = refl

-- each place but these is quiet
pub rest_is_quiet : (q : declared.Place) → ((more : ℕ) → q ≡ place.Bytes more → ⊥)
    → ((line : Line) (lines room : ℕ) → q ≡ place.Section line lines room → ⊥) → (q ≡ place.Done → ⊥) → (q ≡ place.Broken → ⊥)
    → is_quiet (place_of q) ≡ true
rest_is_quiet (place.Bytes more) no_bytes no_section no_done no_broken = absurd (no_bytes more refl)
rest_is_quiet (place.Section line lines room) no_bytes no_section no_done no_broken = absurd (no_section line lines room refl)
rest_is_quiet place.Done no_bytes no_section no_done no_broken = absurd (no_done refl)
rest_is_quiet place.Broken no_bytes no_section no_done no_broken = absurd (no_broken refl)
rest_is_quiet q no_bytes no_section no_done no_broken = refl
