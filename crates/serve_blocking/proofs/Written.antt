-- Of what no bytes wait, all was written.
use Rattle.std.specs.Prelude.{◌≡◌, ◌≤◌, ℕ, Bool, true, false, eqb, List, [], ◌∷◌, ◌++◌, length}
use Rattle.std.proofs.Common.{arith, refl, sym, ap, ◌∙◌, append-nil, inl, inr}
use Rattle.model_h1.specs.Event as on
use Rattle.model_h1.specs.Sums.{Step, written}
use Rattle.model_h1.specs.Text.{buffered}
use Rattle.model_h1.proofs.WrittenLemmas.{written_buffered}
use Rattle.h1_connection.specs.EventMeaning.{setting_of}
use Rattle.h1_connection.specs.State.{State, Stands}
use Rattle.serve_blocking.specs.Acts.{IsFlushed, may}
use Rattle.serve_blocking.specs.Served.{Line, IsWritten}

none_left : (l : List ℕ) → 0 ≡ length l → l ≡ []
none_left [] is = refl
none_left (x ∷ l) is = absurd (cc is)

pub all_is_written : (state : State) → ((trace : List Step) → Stands state trace → 0 ≡ length (buffered (setting_of state.settings) trace)) → IsWritten state
all_is_written state none = record {
  all = λ trace stands.
      sym (append-nil (written trace))
      ∙ ap (λ (l : List ℕ). written trace ++ l) (sym (none_left _ (none trace stands)))
      ∙ written_buffered (setting_of state.settings) trace stands.traced;
}

-- where nothing waits that may be written, there is no stretch that may be
pub unwritten : (was a : Line) (stretch : List ℕ) (is_empty can_write : Bool) → a ≡ was → is_empty ≡ eqb (length stretch) 0 → is_empty ≡ false
    → length stretch ≤ length a.state.kept.buffered → ((count : ℕ) → can_write ≡ may a.state (on.write count)) → IsFlushed was.state → can_write ≡ false
unwritten was a stretch is_empty can_write seen is some fits allowed (inl none) =
    let nothing : length stretch ≡ 0 = omega (arith, fits, ap (λ (l : Line). length l.state.kept.buffered) seen, none) in
    let empty : true ≡ false = sym (ap (λ (n : ℕ). eqb n 0) nothing) ∙ sym is ∙ some in absurd (cc empty)
unwritten was a stretch is_empty can_write seen is some fits allowed (inr forbidden) =
    allowed 0 ∙ ap (λ (l : Line). may l.state (on.write 0)) seen ∙ forbidden 0
