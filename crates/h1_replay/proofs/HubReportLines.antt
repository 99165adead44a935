-- The lines of a hub's report, one after the other.
use Rattle.std.proofs.Common.{◌≡◌, ◌<◌, ◌≤◌, ℕ, ◌+◌, List, [], ◌∷◌, ◌++◌, codes, decimal, length, get_or, drop, refl, sym, ap, ◌∙◌, subst, append_assoc, append-nil}
use Rattle.std.proofs.lemmas.List.{at_drop_more, drop_all}
use Rattle.h1_connection.specs.declared.event.Outcome.{Outcome}
use Rattle.h1_replay.specs.Report.{IsOutcomeLine}
use Rattle.h1_replay.specs.Text.{Adds}
use Rattle.rooms.specs.Pair.{Pair}
use Rattle.rooms.specs.declared.event.HubEvent.{HubEvent}
use Rattle.h1_replay.specs.HubReport.{mover_words, IsMoveLine, IsStepLine, AreStepLines, buffered_line, buffered_lines}

-- a number, and what came of an event
pub moved_line : (event : HubEvent) (outcome : Outcome) (old mid new : List ℕ) → mid ≡ old ++ mover_words event → Adds (IsOutcomeLine outcome) mid new
    → Adds (IsMoveLine event outcome) old new
moved_line event outcome old mid new numbered (words, are, grown) = (
  mover_words event ++ words,
  record { words = words; are_words = are; is_line = refl },
  grown ∙ ap (λ (l : List ℕ). l ++ words) numbered ∙ append_assoc old (mover_words event) words,
)

-- the line of the next step: what was written goes on to be that of all
next_line : (steps left later : List Pair) (step : Pair) (text line new : List ℕ)
    → ((rest : List ℕ) → AreStepLines left rest → AreStepLines steps (text ++ rest))
    → left ≡ step ∷ later → IsStepLine step line → new ≡ text ++ line ++ codes "\n"
    → (rest : List ℕ) → AreStepLines later rest → AreStepLines steps (new ++ rest)
next_line steps left later step text line new before left_is is new_is rest lines =
    let of_left : AreStepLines left (line ++ codes "\n" ++ rest) = subst (λ (l : List Pair). AreStepLines l (line ++ codes "\n" ++ rest)) (sym left_is) (line, rest, is, lines, refl) in
    let parts : text ++ (line ++ codes "\n" ++ rest) ≡ text ++ line ++ codes "\n" ++ rest = simp append_assoc in
    let grouped = parts ∙ ap (λ (l : List ℕ). l ++ rest) (sym new_is) in
    subst (λ (l : List ℕ). AreStepLines steps l) grouped (before (line ++ codes "\n" ++ rest) of_left)

pub more_lines : (steps : List Pair) (i : ℕ) (step : Pair) (text mid new : List ℕ) → i < length steps → step ≡ get_or steps i step
    → ((rest : List ℕ) → AreStepLines (drop i steps) rest → AreStepLines steps (text ++ rest))
    → Adds (IsStepLine step) text mid → new ≡ mid ++ codes "\n"
    → (rest : List ℕ) → AreStepLines (drop (i + 1) steps) rest → AreStepLines steps (new ++ rest)
more_lines steps i step text mid new within at before (line, is, mid_is) new_is rest lines =
    let left_is : drop i steps ≡ step ∷ drop (i + 1) steps = at_drop_more (λ (l : List Pair). l) steps i step within ∙ ap (λ (s : Pair). s ∷ drop (i + 1) steps) (sym at) in
    next_line steps (drop i steps) (drop (i + 1) steps) step text line new before left_is is (new_is ∙ ap (λ (l : List ℕ). l ++ codes "\n") mid_is) rest lines

-- behind the last step it is all
pub all_lines : (steps : List Pair) (i : ℕ) (text : List ℕ) → length steps ≤ i
    → ((rest : List ℕ) → AreStepLines (drop i steps) rest → AreStepLines steps (text ++ rest)) → AreStepLines steps text
all_lines steps i text all before =
    let nothing : AreStepLines (drop i steps) [] = subst (λ (l : List Pair). AreStepLines l []) (sym (drop_all i steps all)) refl in
    subst (λ (l : List ℕ). AreStepLines steps l) (append-nil text) (before [] nothing)

-- ---- what is still to be written

pub more_buffered : (buffers : List (List ℕ)) (i : ℕ) (bytes text new whole : List ℕ) → i < length buffers → bytes ≡ get_or buffers i bytes
    → text ++ buffered_lines i (drop i buffers) ≡ whole → new ≡ text ++ buffered_line i bytes
    → new ++ buffered_lines (i + 1) (drop (i + 1) buffers) ≡ whole
more_buffered buffers i bytes text new whole within at before new_is =
    ap (λ (l : List ℕ). l ++ buffered_lines (i + 1) (drop (i + 1) buffers)) new_is
    ∙ append_assoc text (buffered_line i bytes) (buffered_lines (i + 1) (drop (i + 1) buffers))
    ∙ ap (λ (b : List ℕ). text ++ (buffered_line i b ++ buffered_lines (i + 1) (drop (i + 1) buffers))) at
    ∙ sym (at_drop_more (λ (l : List (List ℕ)). text ++ buffered_lines i l) buffers i bytes within)
    ∙ before

pub all_buffered : (buffers : List (List ℕ)) (i : ℕ) (text whole : List ℕ) → length buffers ≤ i → text ++ buffered_lines i (drop i buffers) ≡ whole → text ≡ whole
all_buffered buffers i text whole all before =
    sym (append-nil text) ∙ ap (λ (l : List (List ℕ)). text ++ buffered_lines i l) (sym (drop_all i buffers all)) ∙ before
