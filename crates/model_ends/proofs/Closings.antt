-- A client closes after an answer where its server does.
use Rattle.std.proofs.Common.{◌≡◌, ℕ, ◌≤◌, Bool, true, false, drop, ◌&&◌, ◌||◌, not, ne_eqb, List, [], ◌∷◌, Option, Some, None, refl, sym, ap, ◌∙◌, arith, codes}
use Rattle.std.specs.Prelude.{◌==◌, if◌then◌else◌}
use Rattle.std.proofs.lemmas.Bool.{false≢true, cond-false}
use Rattle.model_h1.specs.Request.{Head, ConnectionType, close, keep_alive, upgrade, BodyKind, no_body, fixed_body, chunked_body, raw_body}
use Rattle.model_h1.specs.Setting.{Setting}
use Rattle.model_h1.specs.LengthTable.{values_of, is_there}
use Rattle.model_h1.specs.Answer.{Asked, asked_of, AnswerHead, BodySize, Shape, is_raw, shape_of, has_header, flagged_type, allowed_type, overridden_type, raw_type, drained_type, type_of}
use Rattle.model_h1.specs.Closing.{is_kept}
use Rattle.model_h1.specs.Laws.Exchanges.{AnswerGiven}
use Rattle.model_client.specs.AnswerTable.{ends_with_input, body_to}
use Rattle.model_client.specs.AnswerParse.{is_interim}
use Rattle.model_client.specs.AnswerReading.{Answer}
use Rattle.model_client.specs.ClientEvent as on
use Rattle.model_client.specs.ClientEvent.{ClientRequest}
use Rattle.model_client.specs.ClientKept.{Waiting, ClientKept, waiting_of}
use Rattle.model_client.specs.ClientStep.{connection_to, is_ambiguous, is_last_answer, is_closed_after, behind_final, behind_answer, IsClientStep}
use Rattle.model_client.proofs.Answered.{answered, final_after}
use Rattle.model_ends.specs.PlainExchange.{given_shape, IsSelfFramed}
use Rattle.model_ends.specs.SentAnswer.{IsBodySent, sent_answer}
use Rattle.model_ends.proofs.ConnectionTypes.{connection_read}
use Rattle.model_ends.proofs.PlainExchange.{plain_sent}

-- ---- what a request asks for stays

abbrev NotKept : ConnectionType → Type 0
NotKept kind = is_kept kind ≡ false

allowed_stays : (setting : Setting) (kind : ConnectionType) → NotKept kind → NotKept (allowed_type setting kind)
allowed_stays setting keep_alive x = absurd (false≢true (sym x))
allowed_stays setting close x = refl
allowed_stays setting upgrade x = refl

overridden_stays : (kind : ConnectionType) (flag : Option ConnectionType) → NotKept kind → NotKept (overridden_type kind flag)
overridden_stays kind None x = x
overridden_stays kind (Some close) x = refl
overridden_stays kind (Some upgrade) x = refl
overridden_stays kind (Some keep_alive) x = x

raw_stays : (answer : AnswerHead) (shape : Shape) (kind : ConnectionType) → NotKept kind → NotKept (raw_type answer shape kind)
raw_stays answer shape kind x = by_test (is_raw shape && not (answer.status == 101) && not (has_header (codes "content-length") answer.headers))
  where
    by_test : (t : Bool) → NotKept (if t then close else kind)
    by_test true = refl
    by_test false = x

drained_stays : (drained : Bool) (kind : ConnectionType) → NotKept kind → NotKept (drained_type drained kind)
drained_stays drained keep_alive x = absurd (false≢true (sym x))
drained_stays drained close x = refl
drained_stays drained upgrade x = refl

type_stays : (setting : Setting) (drained : Bool) (asked : Asked) (head : AnswerHead) (size : BodySize) → NotKept asked.connection
    → NotKept (type_of setting drained asked head size)
type_stays setting drained asked head size x =
    drained_stays drained _
    (raw_stays head (shape_of asked head size) _
    (overridden_stays (allowed_type setting asked.connection) (flagged_type head) (allowed_stays setting asked.connection x)))

-- ---- an answer that says where it ends

-- no such body is raw
not_raw : (whole : Bool) (kind : BodyKind) (text bytes : List ℕ) → IsBodySent whole kind text bytes → (status : ℕ) → ends_with_input status kind ≡ false
not_raw whole no_body text bytes sent status = refl
not_raw whole (fixed_body n) text bytes sent status = refl
not_raw whole chunked_body text bytes sent status = refl
not_raw true raw_body text bytes sent status = absurd sent
not_raw false raw_body text bytes sent status = absurd sent

-- what is closed for, by its parts
abbrev closed_for : ConnectionType → Bool → ConnectionType → Bool → Bool
closed_for asked other kind last = (not (is_kept asked) || other) || not (is_kept kind) || last

by_kind : (asked kind : ConnectionType) → (NotKept asked → NotKept kind) → closed_for asked false kind false ≡ not (is_kept kind)
by_kind asked kind stays = by_tests (is_kept asked) (is_kept kind) stays
  where
    by_tests : (a k : Bool) → (a ≡ false → k ≡ false) → ((not a || false) || not k || false) ≡ not k
    by_tests true true stays = refl
    by_tests true false stays = refl
    by_tests false false stays = refl
    by_tests false true stays = absurd (false≢true (sym (stays refl)))

pub closes_alike : (setting : Setting) (h : Head) (a : AnswerGiven) (r : ClientRequest) → h.minor ≤ 1 → IsSelfFramed setting h a → r.head.method ≡ h.method
    → r.connection ≡ h.connection → values_of (codes "upgrade") r.head.headers ≡ [] → is_ambiguous (sent_answer setting h a).answer ≡ false
    → is_closed_after (waiting_of r) (sent_answer setting h a).answer
    ≡ not (is_kept (type_of setting a.answered.drained (asked_of h) a.answered.head a.answered.size))
closes_alike setting h a r minor framed method asked none clear =
    let s = sent_answer setting h a in
    let kind = type_of setting a.answered.drained (asked_of h) a.answered.head a.answered.size in
    let sent = plain_sent setting h a minor framed in
    let status = framed.status in
    let switched : (a.answered.head.status == 101) ≡ false = ne_eqb a.answered.head.status 101 (omega (arith, status)) in
    let last : is_last_answer s.answer ≡ false = λ i. switched i || clear i in
    let read : connection_to r.head.method s.answer ≡ kind =
    ap (λ (m : List ℕ). connection_to m s.answer) method
    ∙ cond-false (ends_with_input s.answer.status (body_to h.method s.answer.body)) close _ (not_raw s.is_whole (body_to h.method s.answer.body) s.body s.bytes sent.body s.answer.status)
    ∙ connection_read h.minor a.answered.head (given_shape h a) a.answered.size kind a.moment in
    (λ i. closed_for (asked i) (is_there (none i)) (read i) (last i))
    ∙ by_kind h.connection kind (type_stays setting a.answered.drained (asked_of h) a.answered.head a.answered.size)

-- ---- a step

-- after a final answer the client closes as it says, and as the request that waited for it does
pub step_closes : (setting : Setting) (k next : ClientKept) (a : Answer) → IsClientStep setting k on.next (on.answer a) next → is_interim a.status ≡ false
    → (w : Waiting) × (k.waiting ≡ w ∷ next.waiting) × (next.closes ≡ is_closed_after w a)
step_closes setting k next a x is =
    let y = answered setting k next a x in
    let unread = drop y.end k.unread in
    let kept = final_after k unread a y.first y.others is in
    let waiting = ap (λ (k : ClientKept). k.waiting) x.keeps ∙ ap (λ (k : ClientKept). k.waiting) y.after ∙ kept.0 in
    let closes : (behind_answer k unread a y.first y.others).closes ≡ is_closed_after y.first a =
    ap (λ (t : Bool). (if t then record k { unread = unread } else behind_final k unread a y.first y.others).closes) is in (
      y.first,
      y.waited ∙ ap (λ (ws : List Waiting). y.first ∷ ws) (sym waiting),
      ap (λ (k : ClientKept). k.closes) x.keeps ∙ ap (λ (k : ClientKept). k.closes) y.after ∙ closes,
    )
