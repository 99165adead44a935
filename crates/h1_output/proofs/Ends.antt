-- The first bytes where there are none, where no piece stands, and where a shared piece does.
use Rattle.std.proofs.Common.{◌≡◌, ℕ, ◌≤◌, List, [], ◌∷◌, ◌++◌, length, take, Result, Ok, Err, refl, sym, ap, ◌∙◌, arith}
use Rattle.std.specs.Prelude.{IfOk}
use Rattle.std.proofs.lemmas.List.{take-append-le}
use Rattle.h1_output.specs.declared.piece.Body.{Body}
use Rattle.h1_output.specs.declared.piece.Body.TheVariants.{Shared}
use Rattle.h1_output.specs.declared.piece.Piece.{Piece}
use Rattle.h1_output.specs.Queued.{Queued, nothing}
use Rattle.h1_output.specs.OutputPieces.{IsLaid, queued, laid}
use Rattle.h1_output.proofs.Laid.{laid_size}
use Rattle.h1_output.proofs.Moves.{none_queued, no_pieces}
use Rattle.h1_output.proofs.CopyLemmas.{laid_none}

pub ok_leads : {T E : Type 0} (r : Result T E) {P Q : T → Type 0} → IfOk r P → ((x : T) → P x → Q x) → IfOk r Q
ok_leads (Ok x) is leads = leads x is
ok_leads (Err e) is leads = tt

no_bytes : (l : List ℕ) → length l ≡ 0 → l ≡ []
no_bytes [] none = refl
no_bytes (b ∷ l) none = absurd (omega arith)

-- where no byte waits
pub all_empty : (ps : List Piece) (own : List ℕ) (m k : ℕ) (q : Queued) → IsLaid ps own m k → queued ps own ≡ q → length q.bytes ≡ 0 → nothing ≡ q
all_empty ps own m k q is view none =
    let size = laid_size ps own is.fits in
    let zero : length (laid ps own) ≡ 0 = ap (λ (q : Queued). length q.bytes) view ∙ none in
    let no_own : length own ≡ 0 = omega (arith, size, zero) in
    sym (none_queued ps own (no_pieces ps own m k is (omega (arith, is.marked_is, is.fits, no_own)) (omega (arith, is.many_is, size, zero))) (no_bytes own no_own)) ∙ view

-- where no piece stands
pub own_bytes_are : (ps : List Piece) (own : List ℕ) (q : Queued) → ps ≡ [] → queued ps own ≡ q → own ≡ q.bytes
own_bytes_are ps own q none view = sym (laid_none own) ∙ sym (ap (λ ps. laid ps own) none) ∙ ap (λ (q : Queued). q.bytes) view

-- where a shared piece stands first
pub shared_first : (ps rest : List Piece) (own : List ℕ) (f : ℕ) (b : Body) (bytes : List ℕ) (q : Queued) (n : ℕ) → ps ≡ record { before = f; body = b } ∷ rest
    → f ≡ 0 → b ≡ Shared bytes → queued ps own ≡ q → n ≤ length bytes → take n bytes ≡ take n q.bytes
unfolding laid
shared_first ps rest own f b bytes q n items none body view fits =
    let row : ps ≡ record { before = 0; body = Shared bytes } ∷ rest = items ∙ (λ i. record { before = none i; body = body i } ∷ rest) in
    let first : laid (record { before = 0; body = Shared bytes } ∷ rest) own ≡ bytes ++ laid rest own = refl in
    sym (take-append-le n bytes (laid rest own) fits) ∙ sym (ap (take n) first) ∙ sym (ap (λ ps. take n (laid ps own)) row) ∙ ap (λ (q : Queued). take n q.bytes) view
