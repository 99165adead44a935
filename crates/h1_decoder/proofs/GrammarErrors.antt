-- The errors of pieces that are no text of the grammar.
use Rattle.std.proofs.Common.{◌≡◌, ◌≤◌, ℕ, Bool, true, false, List, [], refl, sym, ap, ◌∙◌, subst}
use Rattle.std.specs.Prelude.{nat_lt, if◌then◌else◌}
use Rattle.std.proofs.lemmas.Bool.{ltb-true, ltb-false}
use Rattle.http_types.specs.declared.error.ParseError.{ParseError}
use Rattle.http_types.specs.declared.error.ParseError.TheVariants.{TooLarge, Version, Status, Header}
use Rattle.httparse.specs.Grammar.{RequestHead, ReadsRequest}
use Rattle.model_h1.specs.HeadPiece.{header_lines}
use Rattle.model_h1.specs.Limits.{MAX_HEADER_LINES}
use Rattle.h1_decoder.specs.Refusal.{IsNoText}
use Rattle.h1_decoder.specs.WholeHead.{IsOfGrammar, RefusesText}

-- no text of the grammar is the piece, where it hasn't too many lines
abbrev pub HasNoText : List ℕ → Type 0
HasNoText piece = header_lines piece ≤ MAX_HEADER_LINES → (text : RequestHead) → ¬ (ReadsRequest piece text [])

-- an error of the grammar says that the piece is no text of it
of_grammar : (piece : List ℕ) (e : ParseError) → IsOfGrammar e → IsNoText piece → RefusesText e piece
of_grammar piece Version is none = none
of_grammar piece Status is none = none
of_grammar piece Header is none = none
of_grammar piece _ is none = absurd is

-- unless there are too many lines
pub refuses_grammar : (piece : List ℕ) (e result : ParseError) → IsOfGrammar e
    → result ≡ (if nat_lt MAX_HEADER_LINES (header_lines piece) then TooLarge else e) → HasNoText piece → RefusesText result piece
refuses_grammar piece e result is chosen none = by_count (nat_lt MAX_HEADER_LINES (header_lines piece)) refl
  where
    by_count : (t : Bool) → nat_lt MAX_HEADER_LINES (header_lines piece) ≡ t → RefusesText result piece
    by_count true many =
        subst (λ (r : ParseError). RefusesText r piece) (sym (chosen ∙ ap (λ (b : Bool). if b then TooLarge else e) many))
        (ltb-true MAX_HEADER_LINES (header_lines piece) many)
    by_count false few =
        let low = ltb-false MAX_HEADER_LINES (header_lines piece) few in
        subst (λ (r : ParseError). RefusesText r piece) (sym (chosen ∙ ap (λ (b : Bool). if b then TooLarge else e) few))
        (of_grammar piece e is (low, none low))
