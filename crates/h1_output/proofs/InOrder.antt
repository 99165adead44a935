-- The pieces stand in order and apart among the bytes.
use Rattle.std.proofs.Common.{◌≡◌, ℕ, ◌+◌, ◌≤◌, List, [], ◌∷◌, length, All, sym, subst, arith}
use Rattle.std.proofs.lemmas.List.Elements.{All-head, All-tail}
use Rattle.model_state.specs.Runs.{AreInOrder, IsFirstSegment}
use Rattle.model_state.proofs.First.{first_is}
use Rattle.h1_output.specs.declared.piece.Piece.{Piece}
use Rattle.h1_output.specs.Queued.{Queued, front_of}
use Rattle.h1_output.specs.OutputPieces.{HasBytes, used, shared, laid, marks_from, queued, body_len}
use Rattle.h1_output.proofs.Laid.{body_sum, laid_size}

marks_in_order : (place end : ℕ) (ps : List Piece) → All HasBytes ps → place + used ps + shared ps ≤ end → AreInOrder place end (marks_from place ps)
unfolding marks_from used shared
marks_in_order place end [] some fits = omega (arith, fits)
marks_in_order place end (p ∷ ps) some fits = (
  omega arith,
  omega (arith, All-head HasBytes p ps some),
  marks_in_order (place + p.before + body_len p.body) end ps (All-tail HasBytes p ps some) (omega (arith, fits, body_sum p.body)),
)

-- so the first segment is what is meant
pub front_first : (ps : List Piece) (own : List ℕ) (q : Queued) (front : List ℕ) → All HasBytes ps → used ps ≤ length own → queued ps own ≡ q → front ≡ front_of q
    → IsFirstSegment q.marks q.bytes front
front_first ps own q front some fits view is =
    let order : AreInOrder 0 (length (laid ps own)) (marks_from 0 ps) = marks_in_order 0 (length (laid ps own)) ps some (omega (arith, laid_size ps own fits)) in
    let there : IsFirstSegment (marks_from 0 ps) (laid ps own) (front_of (queued ps own)) = first_is (marks_from 0 ps) (laid ps own) order in
    subst (λ l. IsFirstSegment q.marks q.bytes l) (sym is) (subst (λ (q : Queued). IsFirstSegment q.marks q.bytes (front_of q)) view there)
