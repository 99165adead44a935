use Rattle.std.proofs.Common.{◌≡◌, ℕ, List, [], ◌∷◌, ◌++◌, length, replicate, refl, ap, subst, arith}
use Rattle.std.specs.Prelude.{codes}
use Rattle.std.specs.List.{repeat}
use Rattle.httparse.specs.Grammar.{is_token_byte}
use Rattle.model_h1.specs.Chunked.{not_chunked, IsChunked}
use Rattle.model_h1.specs.Place.{in_section, line_start, start, step, after}
use Rattle.model_h1.specs.Reading.{at_end}
use Rattle.model_h1.proofs.ToldByPlaces.{broken_told}
use Rattle.model_h1.proofs.LongLines.{section_whole, no_runs, all_lines}
use Rattle.model_h1.proofs.chunk_examples.sixty_four_lines_are_allowed.Goals as goal

-- sixty-four lines
abbrev lines : List ℕ
lines = repeat 64 (codes "a:b\r\n")

-- behind them no more may come
place_behind : after start (codes "0\r\n" ++ lines) ≡ in_section line_start 0 7872
unfolding after is_token_byte
place_behind = refl

-- the first byte of one more line breaks the body
one_more : (rest : List ℕ) → IsChunked ((codes "0\r\n" ++ lines) ++ 97 ∷ rest) not_chunked []
one_more rest =
    let front = codes "0\r\n" ++ lines in
    subst (λ runs. IsChunked (front ++ 97 ∷ rest) not_chunked runs) (no_runs (length front) lines)
    (broken_told front rest 97 (ap at_end place_behind) (ap (λ p. step p 97) place_behind))

pub returns-clause-sixty_four : goal.returns-clause-sixty_four
returns-clause-sixty_four c =
    section_whole (replicate 64 (record { name = codes "a"; value = codes "b" })) (all_lines 64) (omega arith) (omega arith)

pub returns-clause-sixty_five : goal.returns-clause-sixty_five
returns-clause-sixty_five c = one_more (codes ":b\r\n\r\n")

pub returns-clause-one_byte_more : goal.returns-clause-one_byte_more
returns-clause-one_byte_more c = one_more []
