-- Where a request's answer was read to its end and nothing is left to read, all that came since the request was sent is that answer.
use Rattle.std.proofs.Common.{◌≡◌, ℕ, true, false, List, [], ◌∷◌, ◌++◌, length, drop, None, sym, ap, ◌∙◌, subst, arith, length-drop, append-nil}
use Rattle.std.specs.Prelude.{not}
use Rattle.std.specs.List.{AllByRecursion}
use Rattle.model_h1.specs.Setting.{Setting}
use Rattle.model_client.specs.AnswerReading.{Answer, answer_is}
use Rattle.model_client.specs.AnswerParse.{Received, is_interim}
use Rattle.model_client.specs.ClientKept.{ClientKept, is_free}
use Rattle.model_client.specs.ClientTrace.{IsClientTrace, taken}
use Rattle.model_client.specs.Parsed.{has_ended, received_of, methods_of}
use Rattle.model_client.specs.ReadOut.{ReadAnswer, read_out}
use Rattle.model_client.proofs.AllHappened.{holds_now}
use Rattle.model_client.proofs.Chain.{Leads}
use Rattle.model_client.proofs.Ended.{trace_ended}
use Rattle.model_client.proofs.Holds.{waiting_methods}
use Rattle.model_client.proofs.NextAnswers.{between_of}
use Rattle.model_proxy.specs.Answers.{whole_at, says_close, IsAnswer}
use Rattle.model_proxy.specs.Past.{ProxyStep, server_at}
use Rattle.model_proxy.specs.Exchange.{Exchange, answer_input}
use Rattle.model_proxy.specs.Happenings.{Link, server_of}
use Rattle.model_proxy.specs.Forwarding.{keeps_open, IsAlone}
use Rattle.model_proxy.proofs.FoundHanded.{IsPassedOver, is_out}
use Rattle.model_proxy.proofs.FoundAnswers.{answer_found}
use Rattle.model_proxy.proofs.EndedAnswers.{ended_is_found, whole_all}
use Rattle.model_proxy.proofs.AskedSince.{WasAsked, since, since_input, since_within, since_leads}

-- all that came was read
all_read : (setting : Setting) (l : Link) (c : ClientKept) → IsClientTrace setting l.happened c → c.failed ≡ None → is_free c ≡ true → c.unread ≡ [] → c.waiting ≡ []
    → Leads (received_of setting l.happened) (methods_of l.happened) (read_out l.happened).answers (length (taken l.happened)) []
all_read setting l c ran fine free unread waiting =
    let b = between_of (taken l.happened) (has_ended l.happened) setting.hold_size (methods_of l.happened) (read_out l.happened) c [] [] fine free
    (holds_now setting l.happened c ran).1 in
    let none : drop b.place (taken l.happened) ≡ [] = b.text_is ∙ append-nil c.unread ∙ unread in
    let left = length-drop b.place (taken l.happened) in
    let rest = ap (λ (bytes : List ℕ). length bytes) none in
    let within = b.within in
    let same : b.place ≡ length (taken l.happened) = omega (arith, left, rest, within) in
    subst (λ (n : ℕ). Leads (received_of setting l.happened) (methods_of l.happened) (read_out l.happened).answers n []) same
    (subst (λ (ws : List (List ℕ)). Leads (received_of setting l.happened) (methods_of l.happened) (read_out l.happened).answers b.place ws)
    (append-nil (waiting_methods c.waiting) ∙ ap waiting_methods waiting) b.leads)

pub since_alone : (theirs ours : Setting) (held : theirs.hold_size ≡ ours.hold_size) (history : List ProxyStep) (l : Link) (x : Exchange) (k : ℕ)
    (is : server_at k history ≡ server_of l) (w : WasAsked ours history l x k) (c : ClientKept) (news : List ReadAnswer) (h : ReadAnswer) (a : Answer)
    → IsClientTrace ours l.happened c → c.failed ≡ None → is_free c ≡ true → c.unread ≡ [] → c.waiting ≡ [] → c.has_ended ≡ false
    → (read_out l.happened).answers ≡ (h ∷ news) ++ (read_out w.before).answers → AllByRecursion IsPassedOver news → h.reading ≡ answer_is a → is_out a ≡ false
    → is_interim a.status ≡ false → says_close a ≡ false → IsAlone theirs history x k (length history)
since_alone theirs ours held history l x k is w c news h a ran fine free unread waiting going answers passed reading good final stays =
    let s = since theirs ours held history l x k is w in
    let same : answer_input theirs history k x.sent_at (length history) ≡ s = since_input theirs ours held history l x k is w in
    let found = answer_found s x.pulled.head.method in
    let leads = subst (λ (outs : List ReadAnswer). Leads (received_of ours l.happened) (methods_of l.happened) outs (length (taken l.happened)) []) answers
    (all_read ours l c ran fine free unread waiting) in
    let whole = ended_is_found (received_of ours l.happened) ours.hold_size (methods_of l.happened) (read_out w.before).answers news h (length (taken w.before))
    (length (taken l.happened)) x.pulled.head.method [] a found.0 (since_within theirs ours held history l x k is w) (since_leads theirs ours held history l x k is w) leads passed reading
    good final found.1 in
    let all : found.0.fate ≡ whole_at (length s.bytes) = whole_all (taken l.happened) a found.0 (length (taken w.before)) whole in (
      found.0,
      subst (λ (r : Received). IsAnswer r x.pulled.head.method found.0) (sym same) found.1,
      all ∙ ap (λ (r : Received). whole_at (length r.bytes)) (sym same),
      ap (λ (r : Received). r.ended) same ∙ trace_ended ours l.happened c ran ∙ going,
      ap keeps_open whole.head ∙ ap not stays,
    )
