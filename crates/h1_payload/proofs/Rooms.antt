-- The text of a trailer section has room, wherever its reader is.
use Rattle.std.proofs.Common.{◌≡◌, ℕ, ◌+◌, ◌-◌, ◌≤◌, ltb, List, [], ◌∷◌, ◌++◌, length, take, drop, refl, sym, ap, ◌∙◌, subst, inl, inr, arith, append-nil, length-append}
use Rattle.std.specs.Prelude.{◌⊎◌, ⊤}
use Rattle.std.proofs.lemmas.Bool.{cond_both}
use Rattle.model_h1.specs.Place.{InLine, Place, start, in_bytes, bytes_end, in_section, done, broken, step, after}
use Rattle.model_h1.specs.Reading.{Reading, read}
use Rattle.model_h1.specs.TakeNext.{Next, chunk, waits, ended, breaks, Taken, of_chunk, noted_line, stops_at, take_next, says}
use Rattle.model_h1.proofs.ReadSteps.{read-nil, read_broken}
use Rattle.model_h1.proofs.ReadAfter.{read-append}
use Rattle.model_h1.proofs.TrailerRoom.{trailers_fit}
use Rattle.model_h1.proofs.TakenReads.{taken_is_read}
use Rattle.model_h1.proofs.TakenPlaces.{waiting_leads, taken_chunk_leads}
use Rattle.h1_payload.specs.Readers.{HasRoom}

-- ---- what comes next leads to no broken place

abbrev pub IsUnbroken : Next → Type 0
IsUnbroken (chunk given next behind) = next ≡ broken → ⊥
IsUnbroken (waits next) = next ≡ broken → ⊥
IsUnbroken (ended behind) = ⊤
IsUnbroken breaks = ⊤

stops_unbroken : (place : Place) → IsUnbroken (stops_at place)
stops_unbroken done = tt
stops_unbroken broken = tt
stops_unbroken place = λ e. cc

chunk_unbroken : (more : ℕ) (bytes : List ℕ) → IsUnbroken (of_chunk more bytes)
chunk_unbroken more bytes =
    let all = chunk (take (more + 1) bytes) bytes_end (drop (more + 1) bytes) in
    let some = chunk bytes (in_bytes (more - length bytes)) [] in
    cond_both (ltb more (length bytes)) all some IsUnbroken (λ _ e. cc) (λ _ e. cc)

pub next-noted : (at : InLine) (lines room : ℕ) (q : Place) (b : ℕ) (t : Taken) → (noted_line (in_section at lines room) q b t).next ≡ t.next
next-noted at lines room (in_section at' lines' room') b t = refl
next-noted at lines room q b t = refl

pub unbroken : (bytes : List ℕ) (place : Place) → IsUnbroken (take_next place bytes).next
unfolding take_next
unbroken [] place = stops_unbroken place
unbroken (b ∷ bytes) done = tt
unbroken (b ∷ bytes) broken = tt
unbroken (b ∷ bytes) (in_bytes more) = chunk_unbroken more (b ∷ bytes)
unbroken (b ∷ bytes) (in_section at lines room) =
    let q = step (in_section at lines room) b in
    subst IsUnbroken (sym (next-noted at lines room q b (take_next q bytes))) (unbroken bytes q)
unbroken (b ∷ bytes) place = unbroken bytes (step place b)

-- ---- the bytes of trailer lines that are read in front of what comes next

-- the trailers that are read are those noted, and then those behind
trailers_taken : (place : Place) (bytes : List ℕ) → (read place (bytes ++ [])).trailers
    ≡ (take_next place bytes).trailers ++ (says (take_next place bytes).next []).trailers
trailers_taken place bytes = ap (λ (r : Reading). r.trailers) (taken_is_read bytes place [])

-- where nothing comes, all that are read are noted
pub waiting_notes : (place next : Place) (bytes : List ℕ) → (take_next place bytes).next ≡ waits next
    → (read place bytes).trailers ≡ (take_next place bytes).trailers
waiting_notes place next bytes e =
    let noted = (take_next place bytes).trailers in
    ap (λ l. (read place l).trailers) (sym (append-nil bytes))
    ∙ trailers_taken place bytes
    ∙ ap (λ n. noted ++ (says n []).trailers) e
    ∙ ap (λ (r : Reading). noted ++ r.trailers) (read-nil next)
    ∙ append-nil noted

-- and so they are at the end
pub ended_notes : (place : Place) (bytes behind : List ℕ) → (take_next place bytes).next ≡ ended behind
    → (read place bytes).trailers ≡ (take_next place bytes).trailers
ended_notes place bytes behind e =
    let noted = (take_next place bytes).trailers in
    ap (λ l. (read place l).trailers) (sym (append-nil bytes))
    ∙ trailers_taken place bytes
    ∙ ap (λ n. noted ++ (says n []).trailers) e
    ∙ append-nil noted

-- ---- room

-- behind some bytes there is as much room less what was read
room_behind : (place : Place) (front section : List ℕ) → HasRoom place section → (after place front ≡ broken → ⊥)
    → HasRoom (after place front) (section ++ (read place front).trailers)
room_behind place front section room goes z =
    let a = (read place front).trailers in
    let q = after place front in
    let e : length (read place (front ++ z)).trailers ≡ length a + length (read q z).trailers =
    ap (λ (r : Reading). length r.trailers) (read-append place front z goes) ∙ length-append a (read q z).trailers in
    omega (arith, room (front ++ z), length-append section a, e)

-- less text has room as well
room_less : (place : Place) (section less : List ℕ) → length less ≤ length section → HasRoom place section → HasRoom place less
room_less place section less short room z = omega (arith, room z)

-- in front of a body
pub room_start : HasRoom start []
room_start z = omega (arith, trailers_fit z start)

-- behind bytes of a chunk
pub room_chunk : (place next : Place) (bytes given behind section : List ℕ) → HasRoom place section
    → (take_next place bytes).next ≡ chunk given next behind → HasRoom next section
room_chunk place next bytes given behind section room e =
    let k = taken_chunk_leads place next bytes given behind e in
    let goes : next ≡ broken → ⊥ = subst IsUnbroken e (unbroken bytes place) in
    let leads = k.leads in
    let a = (read place k.front).trailers in
    let here = room_behind place k.front section room (λ x. goes (leads ∙ x)) in
    subst (λ q. HasRoom q section) (sym leads)
    (room_less (after place k.front) (section ++ a) section (omega (arith, length-append section a)) here)

-- behind all bytes
pub room_waiting : (place next : Place) (bytes section : List ℕ) → HasRoom place section → (take_next place bytes).next ≡ waits next
    → HasRoom next (section ++ (take_next place bytes).trailers)
room_waiting place next bytes section room e =
    let goes : next ≡ broken → ⊥ = subst IsUnbroken e (unbroken bytes place) in
    let leads = waiting_leads place next bytes e in
    let here = room_behind place bytes section room (λ x. goes (leads ∙ x)) in
    subst (λ q. HasRoom q (section ++ (take_next place bytes).trailers)) (sym leads)
    (subst (λ l. HasRoom (after place bytes) (section ++ l)) (waiting_notes place next bytes e) here)

-- at the end
pub room_ended : (place : Place) (bytes behind section : List ℕ) → HasRoom place section → (take_next place bytes).next ≡ ended behind
    → length (section ++ (take_next place bytes).trailers) ≤ 8192
room_ended place bytes behind section room e =
    let noted = (take_next place bytes).trailers in
    omega (arith, room bytes, length-append section noted, ap length (ended_notes place bytes behind e))

-- where the text is dropped
is_broken_or_not : (q : Place) → (q ≡ broken) ⊎ (q ≡ broken → ⊥)
is_broken_or_not broken = inl refl
is_broken_or_not q = inr (λ e. cc)

pub room_dropped : (place : Place) (bytes section : List ℕ) → HasRoom place section → HasRoom (after place bytes) []
room_dropped place bytes section room = elim (is_broken_or_not (after place bytes)) [
  | inl e ↦
      subst (λ q. HasRoom q []) (sym e)
      (λ z. let none : length (read broken z).trailers ≡ 0 = ap (λ (r : Reading). length r.trailers) (read_broken z) in omega arith)
  | inr goes ↦
      let a = (read place bytes).trailers in
      room_less (after place bytes) (section ++ a) [] (omega arith) (room_behind place bytes section room goes)
]
