-- A server connection on which nothing was asked, and of which nothing is left to read: nothing came of it.
use Rattle.std.proofs.Common.{◌≡◌, ℕ, List, [], ◌∷◌, ◌++◌, drop, map, true, Some, None, refl, sym, ap, ◌∙◌, subst, append-nil}
use Rattle.model_h1.specs.Setting.{Setting}
use Rattle.model_client.specs.AnswerParse.{Received}
use Rattle.model_client.specs.ClientKept.{ClientKept, Waiting, is_free}
use Rattle.model_client.specs.ClientTrace.{Happened, IsClientTrace, taken, requests_of}
use Rattle.model_client.specs.Parsed.{has_ended, methods_of}
use Rattle.model_client.specs.ReadOut.{ReadAnswer, read_out}
use Rattle.model_client.proofs.AllHappened.{holds_now}
use Rattle.model_client.proofs.Chain.{Leads}
use Rattle.model_client.proofs.Holds.{waiting_methods}
use Rattle.model_client.proofs.NextAnswers.{between_of}

record IsNowhere (outs : List ReadAnswer) (place : ℕ) (left : List (List ℕ)) : Type 0 where
  none : outs ≡ []
  place_is : place ≡ 0
  left_is : left ≡ []

-- where nothing was asked no answer was handed out
leads_nowhere : (r : Received) (outs : List ReadAnswer) (place : ℕ) (left : List (List ℕ)) → Leads r [] outs place left → IsNowhere outs place left
leads_nowhere r [] place left (zero_is, left_is) = record { none = refl; place_is = zero_is; left_is = left_is }
leads_nowhere r (h ∷ before) place left (start, method, others, leads, x) =
    let earlier = leads_nowhere r before start (method ∷ others) leads in
    let no : method ∷ others ≡ [] = earlier.left_is in
    absurd (cc no)

pub nothing_came : (setting : Setting) (trace : List Happened) (k : ClientKept) → IsClientTrace setting trace k → requests_of trace ≡ [] → k.failed ≡ None
    → is_free k ≡ true → k.unread ≡ [] → taken trace ≡ []
nothing_came setting trace k ran none fine free unread =
    let between = between_of (taken trace) (has_ended trace) setting.hold_size (methods_of trace) (read_out trace) k [] [] fine free (holds_now setting trace k ran).1 in
    let methods : methods_of trace ≡ [] = ap (map (λ (w : Waiting). w.method)) none in
    let leads = subst (λ (ms : List (List ℕ)). Leads (record { bytes = taken trace; ended = has_ended trace; hold_size = Some setting.hold_size }) ms (read_out trace).answers between.place (waiting_methods k.waiting ++ []))
    methods between.leads in
    let at = leads_nowhere _ (read_out trace).answers between.place (waiting_methods k.waiting ++ []) leads in
    let text : drop between.place (taken trace) ≡ [] = between.text_is ∙ append-nil k.unread ∙ unread in
    ap (λ (n : ℕ). drop n (taken trace)) (sym at.place_is) ∙ text
