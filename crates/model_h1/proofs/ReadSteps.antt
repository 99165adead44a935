-- What one byte adds to what is read, at each kind of place.
use Rattle.std.proofs.Common.{◌≡◌, ℕ, List, [], ◌∷◌, ◌++◌, refl, sym, ap, ◌∙◌, append_assoc}
use Rattle.std.specs.Prelude.{⊤}
use Rattle.model_h1.specs.Place.{InLine, Place, in_bytes, in_section, done, broken, bytes_step, section_step, step}
use Rattle.model_h1.specs.Reading.{Reading, ends_before, is_broken, only, with_bytes, with_trailers, noted, at_end, read}

-- any place but the one behind a whole body
abbrev pub HasNext : Place → Type 0
HasNext done = ⊥
HasNext place = ⊤

-- each other place has a next one
pub has_next : (p : Place) → (p ≡ done → ⊥) → HasNext p
has_next done other = absurd (other refl)
has_next p other = tt

-- a byte here is no part of the body or its trailers
abbrev pub IsQuiet : Place → Type 0
IsQuiet (in_bytes more) = ⊥
IsQuiet (in_section at lines room) = ⊥
IsQuiet done = ⊥
IsQuiet place = ⊤

-- no byte
pub read-nil : (p : Place) → read p [] ≡ only (at_end p)
unfolding read
read-nil p = refl

-- one more byte in front
pub read-cons : (p : Place) (b : ℕ) (bytes : List ℕ) → HasNext p → read p (b ∷ bytes) ≡ noted p (step p b) b (read (step p b) bytes)
unfolding read
read-cons done b bytes more = absurd more
read-cons p b bytes more = refl

-- a byte that only leads on
pub read_quiet : (p next : Place) (b : ℕ) (bytes : List ℕ) → IsQuiet p → step p b ≡ next → read p (b ∷ bytes) ≡ read next bytes
unfolding read
read_quiet (in_bytes more) next b bytes quiet e = absurd quiet
read_quiet (in_section at lines room) next b bytes quiet e = absurd quiet
read_quiet done next b bytes quiet e = absurd quiet
read_quiet p next b bytes quiet e = ap (λ s. read s bytes) e

-- a byte of a chunk
pub read_body_byte : (more b : ℕ) (bytes : List ℕ) → read (in_bytes more) (b ∷ bytes) ≡ with_bytes (b ∷ []) (read (bytes_step more) bytes)
unfolding read
read_body_byte more b bytes = refl

-- a byte of a trailer line
pub read_line_byte : (at to : InLine) (lines room lines' room' b : ℕ) (bytes : List ℕ)
    → section_step at lines room b ≡ in_section to lines' room'
    → read (in_section at lines room) (b ∷ bytes) ≡ with_trailers (b ∷ []) (read (in_section to lines' room') bytes)
read_line_byte at to lines room lines' room' b bytes e =
    read-cons (in_section at lines room) b bytes tt ∙ ap (λ s. noted (in_section at lines room) s b (read s bytes)) e

-- behind the body nothing is read
pub read_done : (bytes : List ℕ) → read done bytes ≡ only (ends_before bytes)
unfolding read
read_done [] = refl
read_done (b ∷ bytes) = refl

-- what is broken stays so
pub read_broken : (bytes : List ℕ) → read broken bytes ≡ only is_broken
read_broken [] = read-nil broken
read_broken (b ∷ bytes) = read-cons broken b bytes tt ∙ read_broken bytes

-- a noted byte doesn't change the ending
pub ending-noted : (p q : Place) (b : ℕ) (r : Reading) → (noted p q b r).ending ≡ r.ending
ending-noted (in_bytes more) q b r = refl
ending-noted (in_section at lines room) (in_section at' lines' room') b r = refl
ending-noted p q b r = refl

-- the ending is that of what follows
pub ending-cons : (p : Place) (b : ℕ) (bytes : List ℕ) → HasNext p → (read p (b ∷ bytes)).ending ≡ (read (step p b) bytes).ending
ending-cons p b bytes more =
    ap (λ (r : Reading). r.ending) (read-cons p b bytes more) ∙ ending-noted p (step p b) b (read (step p b) bytes)

-- bytes in front of others
pub with_bytes-append : (xs ys : List ℕ) (r : Reading) → with_bytes xs (with_bytes ys r) ≡ with_bytes (xs ++ ys) r
with_bytes-append xs ys r = ap (λ (l : List ℕ). record r { body = l }) (sym (append_assoc xs ys r.body))

-- bytes of trailer lines in front of others
pub with_trailers-append : (xs ys : List ℕ) (r : Reading) → with_trailers xs (with_trailers ys r) ≡ with_trailers (xs ++ ys) r
with_trailers-append xs ys r = ap (λ (l : List ℕ). record r { trailers = l }) (sym (append_assoc xs ys r.trailers))
