-- A plain request is sent so that its server reads where its body ends.
use Rattle.std.proofs.Common.{◌≡◌, ℕ, List, [], ◌∷◌, length, map, eqb, refl, sym, subst, inl, inr, arith, length-take-le}
use Rattle.std.specs.List.{AllByRecursion}
use Rattle.std.proofs.lemmas.Bool.{cond-true, cond-false, cases_eq, eq-eqb, ne_eqb}
use Rattle.model_h1.specs.Answer.{BodySize, size_none, size_of, size_stream, Shape, shape_none, shape_length}
use Rattle.model_ends.specs.PlainExchange.{carried_by}
use Rattle.model_client.specs.RequestText.{RequestGiven, joined, asked_shape, kind_of_shape, body_sent, IsPlainGiven}
use Rattle.model_ends.specs.SentAnswer.{IsBodyText}
use Rattle.model_ends.specs.SentRequest.{IsAsked, sent_request}
use Rattle.model_ends.proofs.WrittenPieces.{AreShort, written_body}
use Rattle.model_ends.proofs.RequestText.{request_back}

-- what is to be shown of a shape
abbrev IsFramed : List (List ℕ) → Shape → Type 0
IsFramed pieces s = IsBodyText (kind_of_shape s) (body_sent s pieces) (carried_by s pieces)

-- a body of each size is framed by its shape
body_framed : (pieces : List (List ℕ)) → AreShort pieces → (size : BodySize) → ((n : ℕ) → size ≡ size_of n → length (joined pieces) ≡ n)
    → IsFramed pieces (asked_shape size)
body_framed pieces short size_none came = (refl, refl)
body_framed pieces short size_stream came = written_body pieces short
body_framed pieces short (size_of n) came =
    elim (cases_eq n 0) [
      | inl none ↦ subst (IsFramed pieces) (sym (cond-true (eqb n 0) shape_none (shape_length n) (eq-eqb n 0 none))) (refl, refl)
      | inr other ↦ subst (IsFramed pieces) (sym (cond-false (eqb n 0) shape_none (shape_length n) (ne_eqb n 0 other)))
          (length-take-le n (joined pieces) (omega (arith, came n refl)), refl)
    ]

-- a plain request says where it ends
pub plain_asked : (hold_size : ℕ) (g : RequestGiven) → IsPlainGiven hold_size g → IsAsked hold_size (sent_request g)
plain_asked hold_size g x =
    let back = request_back g.head g.size g.kind g.moment x.head x.fits in
    record { back = back.0; blank = back.1; few = x.few; fits = x.held; body = body_framed g.pieces x.short g.size x.came }

-- so are all
pub each_asked : (hold_size : ℕ) (gs : List RequestGiven) → AllByRecursion (IsPlainGiven hold_size) gs → AllByRecursion (IsAsked hold_size) (map sent_request gs)
each_asked hold_size [] all = tt
each_asked hold_size (g ∷ gs) all = (plain_asked hold_size g all.0, each_asked hold_size gs all.1)
