-- What becomes of a request that was taken.
use Rattle.std.specs.Prelude.{◌≡◌, ℕ, Bool, true, false, is_some, List, [], ◌∷◌, Option, Some, None, Result, Ok, Err, IfSome, IfNone, OnOk, option_and_then}
use Rattle.std.proofs.Common.{refl, sym, ap, subst, ◌∙◌}
use Rattle.http_types.specs.ResponseHead.{ResponseParts, fresh_response}
use Rattle.h1_encoder.specs.Meaning.{answer_of}
use Rattle.h1_decoder.specs.declared.decoder.HeadItem.{HeadItem}
use Rattle.h1_strict.specs.Judgement.{status_of}
use Rattle.h1_strict.specs.declared.doubt.HeadDoubt.{HeadDoubt}
use Rattle.serve_blocking.specs.declared.error.HandleError.{HandleError}
use Rattle.serve_blocking.specs.Judged.{doubt_if, status_after}
use Rattle.serve_blocking.specs.Served.{Line, Follows, MayAnswer, Notes, opened}
use Rattle.serve_blocking.specs.Acts.{Answers, Completes}

-- ---- a request that was taken

pub opened_here : (was old marked : Line) (item : HeadItem) (o : Option HeadDoubt) (b : Bool) → old ≡ was → o ≡ doubt_if old.judges item → b ≡ is_some o
    → marked ≡ record was { wanted = false; closes = b } → marked ≡ opened was item
opened_here was old marked item o b seen doubt some same =
    same
    ∙ ap (λ (c : Bool). record was { wanted = false; closes = c })
    (some ∙ ap (λ (d : Option HeadDoubt). is_some d) doubt ∙ ap (λ (l : Line). is_some (doubt_if l.judges item)) seen)

pub opened_follows : (old marked new : Line) (item : HeadItem) → marked ≡ opened old item → Follows marked new → Follows (opened old item) new
opened_follows old marked new item is follows = subst (λ (l : Line). Follows l new) is follows

-- its answer ends the connection where there is a doubt about its head
pub doubted_here : (old marked : Line) (item : HeadItem) → marked ≡ opened old item → marked.closes ≡ is_some (doubt_if marked.judges item)
doubted_here old marked item is =
    ap (λ (l : Line). l.closes) is ∙ ap (λ (j : Bool). is_some (doubt_if j item)) (sym (ap (λ (l : Line). l.judges) is))

-- the handler is given the request, which is the item
pub doubted_as : (line : Line) (item request : HeadItem) → request ≡ item → line.closes ≡ is_some (doubt_if line.judges item)
    → line.closes ≡ is_some (doubt_if line.judges request)
doubted_as line item request same doubted = doubted ∙ ap (λ (i : HeadItem). is_some (doubt_if line.judges i)) (sym same)

pub noted_as : (was now : Option (List HeadItem)) (item request : HeadItem) → request ≡ item → Notes was now (request ∷ []) → Notes was now (item ∷ [])
noted_as was now item request same noted = subst (λ (i : HeadItem). Notes was now (i ∷ [])) same noted

-- whether the head is refused, of what the connection is seen as
pub judged_here : (was old : Line) (item : HeadItem) (o : Option HeadDoubt) (r s : Option ℕ) → old ≡ was → o ≡ doubt_if old.judges item
    → r ≡ option_and_then status_of o → r ≡ s → option_and_then status_of (doubt_if was.judges item) ≡ s
judged_here was old item o r s seen doubt refused is =
    sym (ap (λ (l : Line). option_and_then status_of (doubt_if l.judges item)) seen)
    ∙ sym (ap (λ (d : Option HeadDoubt). option_and_then status_of d) doubt)
    ∙ sym refused
    ∙ is

some_doubt : (o : Option HeadDoubt) (status : ℕ) → option_and_then status_of o ≡ Some status → is_some o ≡ true
some_doubt (Some d) status is = refl
some_doubt None status is = absurd (cc is)

-- ---- what becomes of it

-- a head that is refused was answered with its status
pub refused_here : (old marked new : Line) (item : HeadItem) (status : ℕ) (head : ResponseParts) (r : Result (Unit {0}) HandleError)
    → option_and_then status_of (doubt_if old.judges item) ≡ Some status → marked ≡ opened old item → head ≡ fresh_response status
    → OnOk r (Answers (answer_of head) [] marked new)
    → IfSome (option_and_then status_of (doubt_if old.judges item)) (λ s. OnOk r (Answers (answer_of (fresh_response s)) [] (record (opened old item) { closes = true }) new))
refused_here old marked new item status head r is same head_is answers =
    let closed : marked ≡ record (opened old item) { closes = true } =
    same ∙ ap (λ (b : Bool). record old { wanted = false; closes = b }) (some_doubt (doubt_if old.judges item) status is) in
    subst (λ (x : Option ℕ). IfSome x (λ s. OnOk r (Answers (answer_of (fresh_response s)) [] (record (opened old item) { closes = true }) new))) (sym is)
    (subst (λ (h : ResponseParts). OnOk r (Answers (answer_of h) [] (record (opened old item) { closes = true }) new)) head_is
    (subst (λ (l : Line). OnOk r (Answers (answer_of head) [] l new)) closed answers))

-- what is said of refused heads says nothing of any other
pub unrefused_here : (old new : Line) (item : HeadItem) (r : Result (Unit {0}) HandleError) → option_and_then status_of (doubt_if old.judges item) ≡ None
    → IfSome (option_and_then status_of (doubt_if old.judges item)) (λ s. OnOk r (Answers (answer_of (fresh_response s)) [] (record (opened old item) { closes = true }) new))
unrefused_here old new item r is =
    subst (λ (x : Option ℕ). IfSome x (λ s. OnOk r (Answers (answer_of (fresh_response s)) [] (record (opened old item) { closes = true }) new))) (sym is) tt

-- and the other way round
pub uncompleted_here : (old new : Line) (item : HeadItem) (status : ℕ) (r : Result (Unit {0}) HandleError)
    → option_and_then status_of (doubt_if old.judges item) ≡ Some status
    → IfNone (option_and_then status_of (doubt_if old.judges item)) (OnOk r (Completes (opened old item) new))
uncompleted_here old new item status r is = subst (λ (x : Option ℕ). IfNone x (OnOk r (Completes (opened old item) new))) (sym is) tt

-- any other one was answered once the handler had returned, unless it may not be
pub completes_here : (r handled : Result (Unit {0}) HandleError) (old mid new : Line) → Follows old mid → Follows mid new
    → (MayAnswer mid.state → OnOk r (Answers (answer_of (fresh_response (status_after handled))) [] mid new)) → OnOk r (Completes old new)
completes_here (Ok x) handled old mid new first behind answers = record { handled = handled; mid = mid; first = first; last = answers; behind = behind }
completes_here (Err e) handled old mid new first behind answers = tt

if_none : (o : Option ℕ) (P : Type 0) → P → IfNone o P
if_none (Some status) P holds = tt
if_none None P holds = holds

pub completed_at : (old marked new : Line) (item : HeadItem) (r : Result (Unit {0}) HandleError) → marked ≡ opened old item → OnOk r (Completes marked new)
    → IfNone (option_and_then status_of (doubt_if old.judges item)) (OnOk r (Completes (opened old item) new))
completed_at old marked new item r is completes =
    if_none (option_and_then status_of (doubt_if old.judges item)) (OnOk r (Completes (opened old item) new))
    (subst (λ (l : Line). OnOk r (Completes l new)) is completes)
