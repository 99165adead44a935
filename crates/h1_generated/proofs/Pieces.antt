-- A first line, field lines and an empty line stand in front as a whole head, whatever follows.
use Rattle.std.proofs.Common.{◌≡◌, ℕ, ◌<◌, List, [], ◌∷◌, ◌++◌, length, take, drop, flat_map, slice_range, All, refl, sym, ap, ◌∙◌, subst, arith, append_assoc, length-append, length-drop}
use Rattle.std.proofs.Math.Seq.{take-append_seam}
use Rattle.std.proofs.lemmas.List.{take-append-drop}
use Rattle.std.proofs.lemmas.Slice.{between_is}
use Rattle.httparse.specs.Ascii.{line_feed}
use Rattle.httparse.specs.Grammar.{crlf, print_end, Field, IsField, print_field}
use Rattle.model_h1.specs.HeadPiece.{BeginsBlank, EndsBlank, IsHeadPiece}
use Rattle.model_h1.proofs.LineFeeds.{feeds}
use Rattle.model_h1.proofs.HeadEnds.{EndsLate, late_text, late_section, ends_section}

-- each line ends in CR LF
abbrev pub lines_text : List ℕ → List Field → List ℕ
lines_text line fields = line ++ (print_end crlf ++ (flat_map print_field fields ++ print_end crlf))

-- What a first line is: no line feed stands in it, and no empty line in front.
pub record IsFirstLine (line : List ℕ) : Type 0 where
  pub one_line : feeds line ≡ 0
  pub begins : (rest : List ℕ) → ¬ (BeginsBlank (line ++ rest))

module _ (line : List ℕ) (fields : List Field) (rest : List ℕ) (first : IsFirstLine line) (valid : All IsField fields) where
  -- what follows the first line, with the rest at its end
  behind_line : lines_text line fields ++ rest ≡ line ++ (print_end crlf ++ (flat_map print_field fields ++ (print_end crlf ++ rest)))
  behind_line =
      let lines = flat_map print_field fields in
      append_assoc line (print_end crlf ++ (lines ++ print_end crlf)) rest
      ∙ ap (λ (t : List ℕ). line ++ t) (append_assoc (print_end crlf) (lines ++ print_end crlf) rest
      ∙ ap (λ (t : List ℕ). print_end crlf ++ t) (append_assoc lines (print_end crlf) rest))

  ends_late : EndsLate (lines_text line fields ++ rest) (length rest)
  ends_late =
      subst (λ (t : List ℕ). EndsLate t (length rest)) (sym behind_line)
      (late_text line _ (length rest) first.one_line (late_section crlf fields crlf rest valid))

  -- a shorter front doesn't end with an empty line
  not_before : (e : ℕ) → e < length (lines_text line fields) → ¬ (EndsBlank (take e (lines_text line fields ++ rest)))
  not_before e less (before, end, is) =
      let bytes = lines_text line fields ++ rest in
      let parts : bytes ≡ before ++ (line_feed ∷ print_end end ++ drop e bytes) =
      sym (take-append-drop e bytes) ∙ ap (λ (t : List ℕ). t ++ drop e bytes) is ∙ append_assoc before (line_feed ∷ print_end end) (drop e bytes) in
      absurd (omega (arith, less, ends_late before end (drop e bytes) parts, length-drop e bytes, length-append (lines_text line fields) rest))

  pub whole_head : IsHeadPiece (lines_text line fields ++ rest) 0 (length (lines_text line fields))
  whole_head =
      let text = lines_text line fields in
      let front : slice_range (text ++ rest) 0 (length text) ≡ text = between_is (text ++ rest) 0 (length text) ∙ take-append_seam text rest in
      record {
        ordered = omega arith;
        in_range = omega (arith, length-append text rest);
        blank = ([], refl);
        begins = subst (λ (t : List ℕ). ¬ (BeginsBlank t)) (sym behind_line) (first.begins _);
        ends = subst EndsBlank (sym front) (ends_section line crlf fields crlf);
        first = λ e low less ends. not_before e less (subst EndsBlank (between_is (text ++ rest) 0 e) ends);
      }
