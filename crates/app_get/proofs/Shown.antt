-- The text of a head that is shown.
use Rattle.std.specs.Prelude.{◌≡◌, ℕ, List, [], ◌++◌, codes, Option, Result, Ok, Err, OnOk}
use Rattle.std.proofs.Common.{ap, subst, ◌∙◌, append_assoc}
use Rattle.std.specs.Io.KnownBytes.{Appends}
use Rattle.h1_decoder.specs.declared.response.ResponseItem.{ResponseItem}
use Rattle.app_get.specs.declared.error.GetError.{GetError}
use Rattle.app_get.specs.Heads.{IsHeadText, IsShown}

-- its parts, one after another
pub shown_text : (none first second third version status reason lines : List ℕ) → none ≡ []
    → first ≡ none ++ (version ++ (status ++ (codes " " ++ (reason ++ codes "\n")))) → second ≡ first ++ lines → third ≡ second ++ codes "\n"
    → third ≡ version ++ (status ++ (codes " " ++ (reason ++ (codes "\n" ++ (lines ++ codes "\n")))))
shown_text none first second third version status reason lines is_none is_first is_second is_third =
    let line : List ℕ = version ++ (status ++ (codes " " ++ (reason ++ codes "\n"))) in
    let so_far : first ≡ line = is_first ∙ ap (λ (l : List ℕ). l ++ (version ++ (status ++ (codes " " ++ (reason ++ codes "\n"))))) is_none in
    let more : second ≡ (version ++ (status ++ (codes " " ++ (reason ++ codes "\n")))) ++ lines = is_second ∙ ap (λ (l : List ℕ). l ++ lines) so_far in
    let joined : ((version ++ (status ++ (codes " " ++ (reason ++ codes "\n")))) ++ lines) ++ codes "\n"
    ≡ version ++ (status ++ (codes " " ++ (reason ++ (codes "\n" ++ (lines ++ codes "\n"))))) = simp append_assoc in
    is_third ∙ ap (λ (l : List ℕ). l ++ codes "\n") more ∙ joined

pub written_head : {T : Type 0} (r : Result T GetError) (item : ResponseItem) (old new : Option (List ℕ)) (text bytes : List ℕ) → IsHeadText item text → bytes ≡ text
    → OnOk r (Appends old new bytes) → OnOk r (IsShown item old new)
written_head (Ok x) item old new text bytes is same grew = record { text = text; is_head = is; grew = subst (λ (l : List ℕ). Appends old new l) same grew }
written_head (Err e) item old new text bytes is same grew = tt
