-- What came of a server since the newest request was sent on, and what of it was handed out: the reply that passes that on.
use Rattle.std.proofs.Common.{◌≡◌, ℕ, ◌≤◌, Bool, true, false, List, [], ◌∷◌, ◌++◌, length, drop, Some, None, refl, sym, ap, ap₂, ◌∙◌, subst, arith, length-append, length-drop}
use Rattle.std.specs.Prelude.{◌||◌}
use Rattle.std.specs.List.{list_any, AllByRecursion}
use Rattle.model_h1.specs.Setting.{Setting}
use Rattle.model_h1.specs.Laws.Exchanges.{AnswerGiven}
use Rattle.model_client.specs.AnswerReading.{Answer, answer_is}
use Rattle.model_client.specs.AnswerParse.{Received, is_interim}
use Rattle.model_client.specs.ClientEvent as asked
use Rattle.model_client.specs.ClientEvent.{ClientEvent, ClientRequest}
use Rattle.model_client.specs.ClientKept.{ClientKept, is_free}
use Rattle.model_client.specs.ClientTrace.{Happened, IsClientTrace, taken}
use Rattle.model_client.specs.Parsed.{ends_input, has_ended, received_of, methods_of}
use Rattle.model_client.specs.ReadOut.{ReadAnswer, read_out}
use Rattle.model_client.proofs.Chain.{Leads}
use Rattle.model_proxy.specs.Answers.{Found, IsAnswer}
use Rattle.model_proxy.specs.Past.{ProxyStep, Server, server_at, first_of}
use Rattle.model_proxy.specs.Exchange.{Exchange, answer_input}
use Rattle.model_proxy.specs.Happenings.{Link, is_eof, server_of}
use Rattle.model_proxy.proofs.PlacesKept.{first_all}
use Rattle.model_proxy.proofs.FoundAnswers.{answer_found}
use Rattle.model_proxy.proofs.FoundHanded.{IsPassedOver, is_out, IsFoundSo, IsBadReading, IsFoundBad, handed_is_found, handed_is_bad, asked_leads}
use Rattle.model_proxy.proofs.PiecesPut.{PutsOn, put_passed}
use Rattle.model_proxy.proofs.MovedSteps.{PassesOn}

-- ---- where it was asked

-- The newest request on this connection was asked while nothing of an earlier answer was left; what had come by then is what had come of the
-- connection with this number by the steps by which the request was sent on.
pub record WasAsked (setting : Setting) (history : List ProxyStep) (l : Link) (x : Exchange) (k : ℕ) : Type 0 where
  pub before : List Happened
  pub kept : ClientKept
  pub ran : IsClientTrace setting before kept
  pub fine : kept.failed ≡ None
  pub free : is_free kept ≡ true
  pub unread : kept.unread ≡ []
  pub waiting : kept.waiting ≡ []
  pub going : kept.has_ended ≡ false
  pub more : List ℕ
  pub came : taken l.happened ≡ taken before ++ more
  pub methods : methods_of l.happened ≡ methods_of before ++ x.pulled.head.method ∷ []
  pub place : (server_at k (first_of x.sent_at history)).came ≡ taken before

-- the input of a connection has ended in both words
ended_by : (event : ClientEvent) → is_eof event ≡ ends_input event
ended_by (asked.ask r size) = refl
ended_by (asked.chunk bytes) = refl
ended_by asked.body_end = refl
ended_by asked.body_error = refl
ended_by (asked.read bytes) = refl
ended_by asked.eof = refl
ended_by asked.next = refl
ended_by asked.pull = refl
ended_by asked.drop_body = refl
ended_by (asked.write n) = refl
ended_by (asked.tick ms) = refl

pub same_end : (trace : List Happened) → list_any (λ s. is_eof s.event) trace ≡ has_ended trace
same_end [] = refl
same_end (s ∷ before) = ap₂ (λ (a b : Bool). a || b) (ended_by s.event) (same_end before)

module _ (theirs ours : Setting) (held : theirs.hold_size ≡ ours.hold_size) (history : List ProxyStep) (l : Link) (x : Exchange) (k : ℕ) (is : server_at k history ≡ server_of l)
    (w : WasAsked ours history l x k) where
  abbrev pub since : Received
  since = record { bytes = drop (length (taken w.before)) (taken l.happened); ended = has_ended l.happened; hold_size = Some ours.hold_size }

  pub since_input : answer_input theirs history k x.sent_at (length history) ≡ since
  since_input =
      ap (λ (b : List ProxyStep). record {
        bytes = drop (length (server_at k (first_of x.sent_at history)).came) (server_at k b).came;
        ended = (server_at k b).ended;
        hold_size = Some theirs.hold_size;
      }) (first_all history)
      ∙ ap (λ (v : Server). record {
        bytes = drop (length (server_at k (first_of x.sent_at history)).came) v.came;
        ended = v.ended;
        hold_size = Some theirs.hold_size;
      }) is
      ∙ ap (λ (came : List ℕ). record { bytes = drop (length came) (taken l.happened); ended = (server_of l).ended; hold_size = Some theirs.hold_size }) w.place
      ∙ ap (λ (e : Bool). record { bytes = drop (length (taken w.before)) (taken l.happened); ended = e; hold_size = Some theirs.hold_size }) (same_end l.happened)
      ∙ ap (λ (n : ℕ). record { bytes = drop (length (taken w.before)) (taken l.happened); ended = has_ended l.happened; hold_size = Some n }) held

  pub since_within : length (taken w.before) ≤ length (taken l.happened)
  since_within =
      let long = ap (λ (bytes : List ℕ). length bytes) w.came in
      let sum = length-append (taken w.before) w.more in
      omega (arith, long, sum)

  pub since_leads : Leads (received_of ours l.happened) (methods_of l.happened) (read_out w.before).answers (length (taken w.before)) (x.pulled.head.method ∷ [])
  since_leads =
      let b = asked_leads ours w.before w.kept (taken l.happened) w.more (has_ended l.happened) (methods_of l.happened) x.pulled.head.method w.ran w.fine w.free w.unread w.waiting
      w.going w.came w.methods in
      let long = ap (λ (bytes : List ℕ). length bytes) w.came in
      let sum = length-append (taken w.before) w.more in
      let rest = ap (λ (bytes : List ℕ). length bytes) b.text_is in
      let left = length-drop b.place (taken l.happened) in
      let within = b.within in
      let same : b.place ≡ length (taken w.before) = omega (arith, long, sum, rest, left, within) in
      subst (λ (n : ℕ). Leads (received_of ours l.happened) (methods_of l.happened) (read_out w.before).answers n (x.pulled.head.method ∷ [])) same b.leads

  -- what was handed out last is the answer that is found
  pub since_found : (c : ClientKept) (news : List ReadAnswer) (h : ReadAnswer) (a : Answer) → IsClientTrace ours l.happened c
      → (read_out l.happened).answers ≡ (h ∷ news) ++ (read_out w.before).answers → AllByRecursion IsPassedOver news → h.reading ≡ answer_is a → is_out a ≡ false
      → is_interim a.status ≡ false → (found : Found) × IsAnswer (answer_input theirs history k x.sent_at (length history)) x.pulled.head.method found
      × IsFoundSo since x.pulled.head.method h a found
  since_found c news h a ran answers passed reading good final =
      let found = answer_found since x.pulled.head.method in (
        found.0,
        subst (λ (r : Received). IsAnswer r x.pulled.head.method found.0) (sym since_input) found.1,
        handed_is_found ours l.happened c (read_out w.before).answers news h (length (taken w.before)) x.pulled.head.method ran since_leads since_within answers passed a found.0
            reading good final found.1,
      )

  -- so a reply of the pieces that were handed out passes it on
  pub since_passed : (c : ClientKept) (news : List ReadAnswer) (h : ReadAnswer) (a : Answer) (g : AnswerGiven) → IsClientTrace ours l.happened c
      → (read_out l.happened).answers ≡ (h ∷ news) ++ (read_out w.before).answers → AllByRecursion IsPassedOver news → h.reading ≡ answer_is a → is_out a ≡ false
      → is_interim a.status ≡ false → PutsOn x.pulled.head.method a h.items g → PassesOn theirs history x k (length history) g
  since_passed c news h a g ran answers passed reading good final put =
      let f = since_found c news h a ran answers passed reading good final in
      record { found = f.0; is = f.1; answer = a; passed = put_passed since x.pulled.head.method h a f.0 g f.2 put }

  -- where that is bad, nothing is found that could be passed on, and nothing will be
  pub since_bad : (c : ClientKept) (news : List ReadAnswer) (h : ReadAnswer) → IsClientTrace ours l.happened c
      → (read_out l.happened).answers ≡ (h ∷ news) ++ (read_out w.before).answers → AllByRecursion IsPassedOver news → IsBadReading h.reading
      → (found : Found) × IsAnswer (answer_input theirs history k x.sent_at (length history)) x.pulled.head.method found × IsFoundBad found
  since_bad c news h ran answers passed out =
      let found = answer_found since x.pulled.head.method in (
        found.0,
        subst (λ (r : Received). IsAnswer r x.pulled.head.method found.0) (sym since_input) found.1,
        handed_is_bad ours l.happened c (read_out w.before).answers news h (length (taken w.before)) x.pulled.head.method ran since_leads since_within answers passed found.0 out
            found.1,
      )
