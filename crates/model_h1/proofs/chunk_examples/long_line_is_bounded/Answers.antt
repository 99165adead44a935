use Rattle.std.proofs.Common.{◌≡◌, ℕ, ◌+◌, List, [], ◌∷◌, ◌++◌, length, replicate, refl, sym, ap, ◌∙◌, subst, arith}
use Rattle.std.specs.Prelude.{codes}
use Rattle.std.proofs.lemmas.List.{append_assoc, append-nil, length-replicate, replicate_more}
use Rattle.model_h1.specs.Chunked.{unfinished, not_chunked, IsChunked}
use Rattle.model_h1.specs.Place.{step}
use Rattle.model_h1.specs.Reading.{at_end}
use Rattle.model_h1.proofs.ToldByPlaces.{unfinished_told, broken_told}
use Rattle.model_h1.proofs.LongLines.{no_runs, all_value, line_a_whole, full_value}
use Rattle.model_h1.proofs.chunk_examples.long_line_is_bounded.Goals as goal

-- so many bytes `v`
abbrev many : ℕ → List ℕ
many n = replicate n 118

-- one more in front of what follows them
more_of_them : (n : ℕ) (rest : List ℕ) → (codes "0\r\na:" ++ many n) ++ 118 ∷ rest ≡ codes "0\r\na:" ++ (many (n + 1) ++ rest)
more_of_them n rest =
    append_assoc (codes "0\r\na:") (many n) (118 ∷ rest)
    ∙ ap (λ l. codes "0\r\na:" ++ l) (sym (append_assoc (many n) (118 ∷ []) rest) ∙ ap (λ l. l ++ rest) (replicate_more n 118))

-- behind as many as there may be, the body goes on
full_goes_on : (n : ℕ) → n ≡ 8188 → IsChunked (codes "0\r\na:" ++ many n) unfinished []
full_goes_on n e =
    let front = codes "0\r\na:" ++ many n in
    subst (λ runs. IsChunked front unfinished runs) (no_runs (length front) (codes "a:" ++ many n))
    (unfinished_told front (ap at_end (full_value n e)))

-- and one more breaks it
one_more : (n : ℕ) (rest : List ℕ) → n ≡ 8188 → IsChunked (codes "0\r\na:" ++ (many (n + 1) ++ rest)) not_chunked []
one_more n rest e =
    let front = codes "0\r\na:" ++ many n in
    subst (λ l. IsChunked l not_chunked []) (more_of_them n rest)
    (subst (λ runs. IsChunked (front ++ 118 ∷ rest) not_chunked runs) (no_runs (length front) (codes "a:" ++ many n))
    (broken_told front rest 118 (ap at_end (full_value n e)) (ap (λ p. step p 118) (full_value n e))))

pub returns-clause-whole_line : goal.returns-clause-whole_line
returns-clause-whole_line c =
    let long : length (many 8188) ≡ 8188 = length-replicate {A = ℕ} 8188 118 in
    line_a_whole (many 8188) 8197 (all_value 8188 118 refl) (omega arith) (omega arith)

pub returns-clause-goes_on : goal.returns-clause-goes_on
returns-clause-goes_on c = full_goes_on 8188 refl

pub returns-clause-breaks : goal.returns-clause-breaks
returns-clause-breaks c =
    subst (λ l. IsChunked (codes "0\r\na:" ++ l) not_chunked []) (append-nil (many 8189)) (one_more 8188 [] refl)

pub returns-clause-longer_line : goal.returns-clause-longer_line
returns-clause-longer_line c = one_more 8188 (codes "\r\n\r\n") refl
