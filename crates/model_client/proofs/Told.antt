-- What the bytes that are left still say of a body, and what a pull and passing take of it.
use Rattle.std.proofs.Common.{◌≡◌, ℕ, zero, suc, ◌+◌, ◌-◌, ◌<◌, ◌≤◌, Bool, true, false, List, [], ◌∷◌, ◌++◌, length, take, drop, map, Option, Some, None, refl, sym, ap, ap₂, ◌∙◌, subst, subst₂, inl, inr, arith, append-nil, append_assoc, length-append, take_all, drop_of_length-le, le-leb}
use Rattle.std.specs.Prelude.{⊤, nat_le, nat_lt, if◌then◌else◌}
use Rattle.std.specs.List.{AllByRecursion}
use Rattle.std.proofs.lemmas.Bool.{cases_lt, lt-leb, cond-true, cond-false}
use Rattle.std.proofs.lemmas.List.{take-append-le, drop-append-le}
use Rattle.model_h1.specs.ChunkedText.{Trailer, IsTrailer, section_text}
use Rattle.model_h1.specs.Place.{InLine, Place, in_bytes, bytes_end, in_section, done, broken, step, after}
use Rattle.model_h1.specs.Reading.{Reading, Ending, goes_on, is_broken, ends_before, with_trailers, at_end, read}
use Rattle.model_h1.specs.TakeNext.{Next, chunk, waits, ended, breaks, Taken, noted_line, stops_at, take_next, says}
use Rattle.model_h1.proofs.ReadAfter.{read-append, ended_reading_stays, broken_reading_stays, broken_from_ending}
use Rattle.model_h1.proofs.ReadSteps.{ending-noted, read-nil, read_broken}
use Rattle.model_h1.proofs.TakenReads.{taken_is_read}
use Rattle.model_h1.proofs.TakenPlaces.{taken_chunk_leads}
use Rattle.model_h1.specs.Parse.{trailer_header}
use Rattle.model_h1.specs.Event.{Outcome, BodyFault, corrupted, incomplete}
use Rattle.model_h1.specs.Event as server
use Rattle.model_state.specs.Kept.{Rest, no_rest, raw_rest, fixed_rest, chunks_rest, frames_rest, rest_in}
use Rattle.model_state.specs.Body.{Passed, pass_chunks, pass_rest}
use Rattle.model_state.specs.Pull.{Pulled, gives, finishes, pull_fixed, pull_raw, EndsWith, IsPullOfChunks, IsPull}

-- How a body stops: it ends before these bytes, with the text of its trailers; more may come; it breaks the grammar; or the
-- input ends inside it.
pub data HowStops : Type 0 where
  stops_before : List ℕ → List ℕ → HowStops
  may_go_on breaks_off is_cut_off : HowStops

-- the bytes of the body, and how it stops
pub record Told : Type 0 where
  pub body : List ℕ
  pub stop : HowStops

-- with bytes in front
abbrev pub with_front : List ℕ → Told → Told
with_front bytes t = record t { body = bytes ++ t.body }

-- where more is wanted, and the input has ended or not
abbrev pub lacking_more : Bool → HowStops
lacking_more true = is_cut_off
lacking_more false = may_go_on

abbrev pub stop_of : Bool → List ℕ → Ending → HowStops
stop_of e text (ends_before behind) = stops_before text behind
stop_of e text goes_on = lacking_more e
stop_of e text is_broken = breaks_off

abbrev pub of_reading : Bool → List ℕ → Reading → Told
of_reading e section r = record { body = r.body; stop = stop_of e (section ++ r.trailers) r.ending }

-- a body of so many bytes
abbrev pub of_length : Bool → ℕ → List ℕ → Told
of_length e n text =
    if nat_le n (length text) then record { body = take n text; stop = stops_before [] (drop n text) } else record { body = text; stop = lacking_more e }

-- a body that goes on to the end of the input
abbrev pub of_all : Bool → List ℕ → Told
of_all true text = record { body = text; stop = stops_before [] [] }
of_all false text = record { body = text; stop = may_go_on }

-- what these bytes say of the rest of a body, where they are all that will come, and the input then has ended or not
abbrev pub told : Bool → Rest → List ℕ → Told
told e no_rest text = record { body = []; stop = stops_before [] text }
told e raw_rest text = of_all e text
told e (fixed_rest n) text = of_length e n text
told e (chunks_rest place section) text = of_reading e section (read place text)
told e (frames_rest under_way limit) text = record { body = []; stop = may_go_on }

-- a rest of an answer's body: frames are none, and of a length some bytes are missing
abbrev pub IsSound : Rest → Type 0
IsSound (frames_rest under_way limit) = ⊥
IsSound (fixed_rest n) = 0 < n
IsSound rest = ⊤

-- what may still come: nothing where the input has ended
abbrev pub IsMore : Bool → List ℕ → Bool → Type 0
IsMore true more e = (more ≡ []) × (e ≡ true)
IsMore false more e = ⊤

-- ---- bodies of a length

-- the bytes in front are those of the body
pub length_split : (e : Bool) (n : ℕ) (front text : List ℕ) → length front ≤ n
    → of_length e n (front ++ text) ≡ with_front front (of_length e (n - length front) text)
length_split e n front text fits =
    let all = front ++ text in
    let m = n - length front in
    let long = length-append front text in
    elim (cases_lt (length all) n) [
      | inl short ↦
          cond-false (nat_le n (length all)) (record { body = take n all; stop = stops_before [] (drop n all) }) (record { body = all; stop = lacking_more e })
          (lt-leb n (length all) short)
          ∙ ap (with_front front)
          (sym (cond-false (nat_le m (length text)) (record { body = take m text; stop = stops_before [] (drop m text) }) (record { body = text; stop = lacking_more e })
          (lt-leb m (length text) (omega (arith, short, long, fits)))))
      | inr whole ↦
          cond-true (nat_le n (length all)) (record { body = take n all; stop = stops_before [] (drop n all) }) (record { body = all; stop = lacking_more e })
          (le-leb n (length all) whole)
          ∙ ap₂ (λ (b l : List ℕ). record { body = b; stop = stops_before [] l }) (take_past front text n fits) (drop_past front text n fits)
          ∙ ap (with_front front)
          (sym (cond-true (nat_le m (length text)) (record { body = take m text; stop = stops_before [] (drop m text) }) (record { body = text; stop = lacking_more e })
          (le-leb m (length text) (omega (arith, whole, long, fits)))))
    ]
  where
    take_past : (front text : List ℕ) (n : ℕ) → length front ≤ n → take n (front ++ text) ≡ front ++ take (n - length front) text
    take_past [] text n fits = ap (λ (k : ℕ). take k text) (omega arith)
    take_past (b ∷ front) text zero fits = absurd (omega (arith, fits))
    take_past (b ∷ front) text (suc n) fits =
        ap (λ (l : List ℕ). b ∷ l) (take_past front text n (omega (arith, fits)) ∙ ap (λ (k : ℕ). front ++ take k text) (omega arith))

    drop_past : (front text : List ℕ) (n : ℕ) → length front ≤ n → drop n (front ++ text) ≡ drop (n - length front) text
    drop_past [] text n fits = ap (λ (k : ℕ). drop k text) (omega arith)
    drop_past (b ∷ front) text zero fits = absurd (omega (arith, fits))
    drop_past (b ∷ front) text (suc n) fits = drop_past front text n (omega (arith, fits)) ∙ ap (λ (k : ℕ). drop k text) (omega arith)

-- all bytes of it are there
pub length_whole : (e : Bool) (n : ℕ) (text more : List ℕ) → n ≤ length text
    → of_length e n (text ++ more) ≡ with_front (take n text) (told e no_rest (drop n text ++ more))
length_whole e n text more whole =
    let all = text ++ more in
    cond-true (nat_le n (length all)) (record { body = take n all; stop = stops_before [] (drop n all) }) (record { body = all; stop = lacking_more e })
    (le-leb n (length all) (omega (arith, whole, length-append text more)))
    ∙ ap₂ (λ (b l : List ℕ). record { body = b; stop = stops_before [] l })
    (take-append-le n text more whole ∙ sym (append-nil (take n text))) (drop-append-le n text more whole)

-- none is there
pub length_none : (e : Bool) (n : ℕ) → 0 < n → of_length e n [] ≡ record { body = []; stop = lacking_more e }
length_none e n some = cond-false (nat_le n 0) (record { body = take n []; stop = stops_before [] (drop n []) }) (record { body = []; stop = lacking_more e }) (lt-leb n 0 some)

-- ---- a pull

-- the stop that a fault tells
abbrev pub fault_stop : BodyFault → HowStops
fault_stop corrupted = breaks_off
fault_stop incomplete = is_cut_off

-- What a pull gives of what is told: bytes that stand first, and what is then left; nothing yet; trailers; the end; a fault.
pub data Gives (e : Bool) (more : List ℕ) (t : Told) (p : Pulled) : Type 0 where
  some_bytes : (given : List ℕ) → p.outcome ≡ server.bytes given → 0 < length given → t ≡ with_front given (told e p.rest (p.unread ++ more))
      → IsSound p.rest → p.is_done ≡ false → Gives e more t p
  nothing_yet : p.outcome ≡ server.pending → t ≡ told e p.rest (p.unread ++ more) → IsSound p.rest → p.is_done ≡ false → Gives e more t p
  its_trailers : (line : Trailer) (lines : List Trailer) → p.outcome ≡ server.trailers (map trailer_header (line ∷ lines))
      → AllByRecursion IsTrailer (line ∷ lines) → t ≡ record { body = []; stop = stops_before (section_text (line ∷ lines)) (p.unread ++ more) }
      → p.rest ≡ no_rest → p.is_done ≡ false → Gives e more t p
  its_end : p.outcome ≡ server.body_ended → t ≡ record { body = []; stop = stops_before [] (p.unread ++ more) } → p.is_done ≡ true → Gives e more t p
  its_fault : (f : BodyFault) → p.outcome ≡ server.broken_by f → t ≡ record { body = []; stop = fault_stop f } → p.is_done ≡ true → Gives e more t p

-- where what is pulled is named
as_pull : (e : Bool) (more : List ℕ) (t : Told) (p q : Pulled) → p ≡ q → Gives e more t q → Gives e more t p
as_pull e more t p q is x = subst (Gives e more t) (sym is) x

raw_gives : (t : Bool) (bytes more : List ℕ) (e : Bool) → IsMore t more e → Gives e more (of_all e (bytes ++ more)) (pull_raw t bytes)
raw_gives true bytes more e (none, last) =
    subst₂ (λ (m : List ℕ) (e : Bool). Gives e m (of_all e (bytes ++ m)) (pull_raw true bytes)) (sym none) (sym last) (at_end_of bytes)
  where
    at_end_of : (bytes : List ℕ) → Gives true [] (of_all true (bytes ++ [])) (pull_raw true bytes)
    at_end_of [] = its_end refl refl refl
    at_end_of (b ∷ bytes) = some_bytes (b ∷ bytes) refl (omega arith) refl tt refl
raw_gives false [] more e x = nothing_yet refl refl tt refl
raw_gives false (b ∷ bytes) more true x = some_bytes (b ∷ bytes) refl (omega arith) refl tt refl
raw_gives false (b ∷ bytes) more false x = some_bytes (b ∷ bytes) refl (omega arith) refl tt refl

module _ (t : Bool) (n b : ℕ) (bytes more : List ℕ) (e : Bool) where
  abbrev all : List ℕ
  all = b ∷ bytes

  abbrev count : ℕ
  count = length all

  fixed_part : count < n → Gives e more (of_length e n (all ++ more)) (pull_fixed t n all)
  fixed_part part =
      let none : drop n all ≡ [] = drop_of_length-le all (omega (arith, part)) in
      let rest : Rest = fixed_rest (n - count) in
      let is : (if nat_le n count then no_rest else rest) ≡ rest = cond-false (nat_le n count) no_rest rest (lt-leb n count part) in
      some_bytes all (ap server.bytes (take_all n all (omega (arith, part)))) (omega arith)
      (length_split e n all more (omega (arith, part)) ∙ ap₂ (λ (r : Rest) (u : List ℕ). with_front all (told e r (u ++ more))) (sym is) (sym none))
      (subst IsSound (sym is) (omega (arith, part))) refl

  fixed_full : 0 < n → n ≤ count → Gives e more (of_length e n (all ++ more)) (pull_fixed t n all)
  fixed_full some full =
      let rest : Rest = fixed_rest (n - count) in
      let is : (if nat_le n count then no_rest else rest) ≡ no_rest = cond-true (nat_le n count) no_rest rest (le-leb n count full) in
      some_bytes (take n all) refl (taken_some n some)
      (length_whole e n all more full ∙ ap (λ (r : Rest). with_front (take n all) (told e r (drop n all ++ more))) (sym is))
      (subst IsSound (sym is) tt) refl
    where
      taken_some : (n : ℕ) → 0 < n → 0 < length (take n all)
      taken_some zero some = absurd (omega (arith, some))
      taken_some (suc n) some = omega arith

fixed_gives : (t : Bool) (n : ℕ) (bytes more : List ℕ) (e : Bool) → IsMore t more e → 0 < n → Gives e more (of_length e n (bytes ++ more)) (pull_fixed t n bytes)
fixed_gives true n [] more e (none, last) some =
    subst₂ (λ (m : List ℕ) (e : Bool). Gives e m (of_length e n m) (pull_fixed true n [])) (sym none) (sym last)
    (its_fault incomplete refl (length_none true n some) refl)
fixed_gives false n [] more e x some = nothing_yet refl refl some refl
fixed_gives t n (b ∷ bytes) more e x some =
    elim (cases_lt (length (b ∷ bytes)) n) [
      | inl part ↦ fixed_part t n b bytes more e part
      | inr full ↦ fixed_full t n b bytes more e some full
    ]

-- ---- chunks

-- what is told where this came next, with the section so far
abbrev pub told_next : Bool → List ℕ → List ℕ → Next → List ℕ → Told
told_next e section noted next more = of_reading e section (with_trailers noted (says next more))

section_ends : (e : Bool) (section noted behind more : List ℕ) (p : Pulled) → EndsWith (section ++ noted) behind p
    → Gives e more (told_next e section noted (ended behind) more) p
section_ends e section noted behind more p is = by_text (section ++ noted) refl is
  where
    here : (text : List ℕ) → section ++ noted ≡ text
        → told_next e section noted (ended behind) more ≡ record { body = []; stop = stops_before text (behind ++ more) }
    here text same = ap (λ (l : List ℕ). record { body = []; stop = stops_before l (behind ++ more) }) (ap (λ (l : List ℕ). section ++ l) (append-nil noted) ∙ same)

    by_text : (text : List ℕ) → section ++ noted ≡ text → EndsWith text behind p → Gives e more (told_next e section noted (ended behind) more) p
    by_text [] same is = as_pull e more _ p (finishes server.body_ended no_rest behind) is (its_end refl (here [] same) refl)
    by_text (b ∷ text) same ([], each, spelled, is) = absurd (cc spelled)
    by_text (b ∷ text) same (line ∷ lines, each, spelled, is) =
        as_pull e more _ p (gives (server.trailers (map trailer_header (line ∷ lines))) no_rest behind) is
        (its_trailers line lines refl each (here (section_text (line ∷ lines)) (same ∙ sym spelled)) refl refl)

-- a place where nothing comes next is neither behind a body nor broken
abbrev WaitsOn : Next → Type 0
WaitsOn (waits to) = at_end to ≡ goes_on
WaitsOn (chunk given to behind) = ⊤
WaitsOn (ended behind) = ⊤
WaitsOn breaks = ⊤

waits_at : (place : Place) → WaitsOn (stops_at place)
waits_at done = tt
waits_at broken = tt
waits_at place = refl

waits_noted : (at : InLine) (lines room : ℕ) (q : Place) (b : ℕ) (t : Taken) → WaitsOn t.next → WaitsOn (noted_line (in_section at lines room) q b t).next
waits_noted at lines room (in_section at' lines' room') b t x = x
waits_noted at lines room q b t x = x

waits_chunk : (t : Bool) (a b : List ℕ) (p q : Place) (l m : List ℕ) → WaitsOn (if t then chunk a p l else chunk b q m)
waits_chunk true a b p q l m = tt
waits_chunk false a b p q l m = tt

waits_on : (bytes : List ℕ) (place : Place) → WaitsOn (take_next place bytes).next
unfolding take_next
waits_on [] place = waits_at place
waits_on (b ∷ bytes) done = tt
waits_on (b ∷ bytes) broken = tt
waits_on (b ∷ bytes) (in_bytes more) =
    waits_chunk (nat_lt more (length (b ∷ bytes))) (take (more + 1) (b ∷ bytes)) (b ∷ bytes) bytes_end (in_bytes (more - length (b ∷ bytes))) (drop (more + 1) (b ∷ bytes)) []
waits_on (b ∷ bytes) (in_section at lines room) =
    let place = in_section at lines room in
    waits_noted at lines room (step place b) b (take_next (step place b) bytes) (waits_on bytes (step place b))
waits_on (b ∷ bytes) place = waits_on bytes (step place b)

-- where nothing comes next more may come
pub waits_goes_on : (place to : Place) (bytes : List ℕ) → (take_next place bytes).next ≡ waits to → at_end to ≡ goes_on
waits_goes_on place to bytes is = subst WaitsOn is (waits_on bytes place)

chunks_give : (t : Bool) (place : Place) (section bytes more : List ℕ) (e : Bool) (next : Next) (noted : List ℕ) (p : Pulled) → IsMore t more e
    → ((given behind : List ℕ) (to : Place) → next ≡ chunk given to behind → 0 < length given) → ((to : Place) → next ≡ waits to → at_end to ≡ goes_on)
    → told e (chunks_rest place section) (bytes ++ more) ≡ told_next e section noted next more → IsPullOfChunks t place section bytes next noted p
    → Gives e more (told e (chunks_rest place section) (bytes ++ more)) p
chunks_give t place section bytes more e (chunk given to behind) noted p x some live same is =
    let r = read to (behind ++ more) in
    as_pull e more _ p (gives (server.bytes given) (chunks_rest to (section ++ noted)) behind) is
    (some_bytes given refl (some given behind to refl)
    (same ∙ ap (λ (l : List ℕ). record { body = given ++ r.body; stop = stop_of e l r.ending }) (sym (append_assoc section noted r.trailers))) tt refl)
chunks_give true place section bytes more e (waits to) noted p (none, last) some live same is =
    as_pull e more _ p (finishes (server.broken_by incomplete) (chunks_rest place section) bytes) is
    (its_fault incomplete refl
    (same ∙ ap₂ (λ (m : List ℕ) (e : Bool). of_reading e section (with_trailers noted (read to m))) none last
    ∙ ap (λ (r : Reading). of_reading true section (with_trailers noted r)) (read-nil to)
    ∙ ap (λ (ending : Ending). record { body = []; stop = stop_of true (section ++ (noted ++ [])) ending }) (live to refl)) refl)
chunks_give false place section bytes more e (waits to) noted p x some live same is =
    let r = read to more in
    as_pull e more _ p (gives server.pending (chunks_rest to (section ++ noted)) []) is
    (nothing_yet refl (same ∙ ap (λ (l : List ℕ). record { body = r.body; stop = stop_of e l r.ending }) (sym (append_assoc section noted r.trailers))) tt refl)
chunks_give t place section bytes more e (ended behind) noted p x some live same is =
    subst (λ (u : Told). Gives e more u p) (sym same) (section_ends e section noted behind more p is)
chunks_give t place section bytes more e breaks noted p x some live same is =
    as_pull e more _ p (finishes (server.broken_by corrupted) (chunks_rest place section) bytes) is (its_fault corrupted refl same refl)

-- ---- any pull

pub pull_gives : (t : Bool) (rest : Rest) (bytes more : List ℕ) (e : Bool) (p : Pulled) → IsMore t more e → IsSound rest → IsPull t rest bytes p
    → Gives e more (told e rest (bytes ++ more)) p
pull_gives t no_rest bytes more e p x sound is = as_pull e more _ p (finishes server.body_ended no_rest bytes) is (its_end refl refl refl)
pull_gives t raw_rest bytes more e p x sound is = as_pull e more _ p (pull_raw t bytes) is (raw_gives t bytes more e x)
pull_gives t (fixed_rest n) bytes more e p x sound is = as_pull e more _ p (pull_fixed t n bytes) is (fixed_gives t n bytes more e x sound)
pull_gives t (chunks_rest place section) bytes more e p x sound is =
    let taken = take_next place bytes in
    chunks_give t place section bytes more e taken.next taken.trailers p x (λ given behind to same. (taken_chunk_leads place to bytes given behind same).some)
    (λ to same. waits_goes_on place to bytes same) (ap (of_reading e section) (taken_is_read bytes place more)) is
pull_gives t (frames_rest under_way limit) bytes more e p x sound is = absurd sound

-- ---- passing

-- what stands behind a body that ends
abbrev pub behind_of : HowStops → Option (List ℕ)
behind_of (stops_before text behind) = Some behind
behind_of _ = None

-- what is passed leaves the same behind the body
abbrev pub IsPassing : Bool → List ℕ → Rest → List ℕ → Passed → Type 0
IsPassing e more rest bytes p =
    (behind_of (told e p.rest (p.unread ++ more)).stop ≡ behind_of (told e rest (bytes ++ more)).stop) × IsSound p.rest

raw_passes : (t : Bool) (bytes more : List ℕ) (e : Bool) → IsMore t more e → IsPassing e more raw_rest bytes (pass_rest t raw_rest bytes)
raw_passes true bytes more e (none, last) =
    subst₂ (λ (m : List ℕ) (e : Bool). IsPassing e m raw_rest bytes (pass_rest true raw_rest bytes)) (sym none) (sym last) (refl, tt)
raw_passes false bytes more true x = (refl, tt)
raw_passes false bytes more false x = (refl, tt)

fixed_passes : (t : Bool) (n : ℕ) (bytes more : List ℕ) (e : Bool) → 0 < n → IsPassing e more (fixed_rest n) bytes (pass_rest t (fixed_rest n) bytes)
fixed_passes t n bytes more e some =
    let whole : Passed = record { rest = no_rest; unread = drop n bytes } in
    let part : Passed = record { rest = fixed_rest (n - length bytes); unread = [] } in
    elim (cases_lt (length bytes) n) [
      | inl short ↦ subst (IsPassing e more (fixed_rest n) bytes) (sym (cond-false (nat_le n (length bytes)) whole part (lt-leb n (length bytes) short)))
          (sym (ap (λ (t : Told). behind_of t.stop) (length_split e n bytes more (omega (arith, short)))), omega (arith, short))
      | inr full ↦ subst (IsPassing e more (fixed_rest n) bytes) (sym (cond-true (nat_le n (length bytes)) whole part (le-leb n (length bytes) full)))
          (sym (ap (λ (t : Told). behind_of t.stop) (length_whole e n bytes more full)), tt)
    ]

-- where bytes go on in chunks they lead to no broken place
goes_on_unbroken : (place : Place) (bytes : List ℕ) → (read place bytes).ending ≡ goes_on → after place bytes ≡ broken → ⊥
unfolding after read
goes_on_unbroken place [] e is = at_place place e is
  where
    at_place : (place : Place) → at_end place ≡ goes_on → place ≡ broken → ⊥
    at_place place e is = let no : is_broken ≡ goes_on = sym (ap at_end is) ∙ e in cc
goes_on_unbroken done (b ∷ bytes) e is = cc
goes_on_unbroken place (b ∷ bytes) e is =
    goes_on_unbroken (step place b) bytes (sym (ending-noted place (step place b) b (read (step place b) bytes)) ∙ e) is

-- how an ending is seen from behind
abbrev behind_ending : Ending → Option (List ℕ)
behind_ending (ends_before behind) = Some behind
behind_ending goes_on = None
behind_ending is_broken = None

by_ending : (e : Bool) (text : List ℕ) (ending : Ending) → behind_of (stop_of e text ending) ≡ behind_ending ending
by_ending e text (ends_before behind) = refl
by_ending true text goes_on = refl
by_ending false text goes_on = refl
by_ending e text is_broken = refl

chunks_pass : (place : Place) (section bytes more : List ℕ) (e : Bool) (ending : Ending) → (read place bytes).ending ≡ ending
    → IsPassing e more (chunks_rest place section) bytes (pass_chunks place bytes ending)
chunks_pass place section bytes more e (ends_before behind) is = (
  sym (by_ending e (section ++ (read place (bytes ++ more)).trailers) (read place (bytes ++ more)).ending
      ∙ ap (λ (r : Reading). behind_ending r.ending) (ended_reading_stays place bytes more behind is)),
  tt,
)
chunks_pass place section bytes more e is_broken is = (
  by_ending e ([] ++ (read (after place bytes) more).trailers) (read (after place bytes) more).ending
      ∙ ap (λ (p : Place). behind_ending (read p more).ending) (broken_from_ending place bytes is)
      ∙ ap (λ (r : Reading). behind_ending r.ending) (read_broken more)
      ∙ ap behind_ending (sym is)
      ∙ ap (λ (r : Reading). behind_ending r.ending) (sym (broken_reading_stays place bytes more is))
      ∙ sym (by_ending e (section ++ (read place (bytes ++ more)).trailers) (read place (bytes ++ more)).ending),
  tt,
)
chunks_pass place section bytes more e goes_on is = (
  by_ending e ([] ++ (read (after place bytes) more).trailers) (read (after place bytes) more).ending
      ∙ ap (λ (r : Reading). behind_ending r.ending) (sym (read-append place bytes more (goes_on_unbroken place bytes is)))
      ∙ sym (by_ending e (section ++ (read place (bytes ++ more)).trailers) (read place (bytes ++ more)).ending),
  tt,
)

pub passing_leaves : (t : Bool) (rest : Rest) (bytes more : List ℕ) (e : Bool) → IsMore t more e → IsSound rest
    → IsPassing e more rest bytes (pass_rest t rest bytes)
passing_leaves t no_rest bytes more e x sound = (refl, tt)
passing_leaves t raw_rest bytes more e x sound = raw_passes t bytes more e x
passing_leaves t (fixed_rest n) bytes more e x sound = fixed_passes t n bytes more e sound
passing_leaves t (chunks_rest place section) bytes more e x sound = chunks_pass place section bytes more e (read place bytes).ending refl
passing_leaves t (frames_rest under_way limit) bytes more e x sound = absurd sound

-- ---- where the input ends

pub rest_in_told : (t : Bool) (bytes more : List ℕ) (rest : Rest) (e : Bool) → IsMore t more e
    → told e (rest_in t bytes rest) (bytes ++ more) ≡ told e rest (bytes ++ more)
rest_in_told true [] more raw_rest e (none, last) = ap₂ (λ (m : List ℕ) (e : Bool). told e no_rest m) none last ∙ sym (ap₂ (λ (m : List ℕ) (e : Bool). told e raw_rest m) none last)
rest_in_told true [] more no_rest e x = refl
rest_in_told true [] more (fixed_rest n) e x = refl
rest_in_told true [] more (chunks_rest place section) e x = refl
rest_in_told true [] more (frames_rest under_way limit) e x = refl
rest_in_told true (b ∷ bytes) more rest e x = refl
rest_in_told false bytes more rest e x = refl

pub rest_in_sound : (t : Bool) (bytes : List ℕ) (rest : Rest) → IsSound rest → IsSound (rest_in t bytes rest)
rest_in_sound true [] raw_rest sound = tt
rest_in_sound true [] no_rest sound = tt
rest_in_sound true [] (fixed_rest n) sound = sound
rest_in_sound true [] (chunks_rest place section) sound = tt
rest_in_sound true [] (frames_rest under_way limit) sound = sound
rest_in_sound true (b ∷ bytes) rest sound = sound
rest_in_sound false bytes rest sound = sound
