-- Trailer sections behind a last line of size 0, with as many lines or as long ones as may be.
use Rattle.std.proofs.Common.{◌≡◌, ℕ, zero, suc, ◌+◌, ◌-◌, ◌≤◌, true, List, [], ◌∷◌, ◌++◌, length, take, replicate, refl, ap, ◌∙◌, subst, arith, inl}
use Rattle.std.specs.Prelude.{codes, IsTrue}
use Rattle.std.specs.List.{list_all, AllByRecursion}
use Rattle.std.proofs.lemmas.Bool.{and_from}
use Rattle.std.proofs.lemmas.List.{append-nil, length-append, append_assoc, take_all}
use Rattle.httparse.specs.Grammar.{is_value_byte, is_token_byte}
use Rattle.httparse.specs.Ascii.{crlf_bytes}
use Rattle.model_h1.specs.ChunkedText.{SaysSize, Trailer, IsTrailer, section_text}
use Rattle.model_h1.specs.Runs.{segment_runs, cut_runs}
use Rattle.model_h1.specs.Chunked.{whole, IsChunked}
use Rattle.model_h1.specs.Place.{in_section, in_value, start, section_start, after}
use Rattle.model_h1.proofs.ReadAfter.{after-nil, after-cons}
use Rattle.model_h1.proofs.TrailerLines.{step_value}
use Rattle.model_h1.proofs.RunPlaces.{runs_of, runs_of_late}

-- the last line
abbrev zero_line : List ℕ
zero_line = codes "0\r\n"

-- it says 0
zero_says : SaysSize zero_line 0
zero_says = record {
  digits = codes "0";
  blanks = [];
  extension = [];
  spelled = refl;
  hexadecimal = (omega arith, tt);
  says = refl;
  fits = omega arith;
  blank = refl;
  well_formed = inl refl;
}

-- trailer lines within their limits, the last line in front of them and an empty one behind
pub section_whole : (trailers : List Trailer) → AllByRecursion IsTrailer trailers → length trailers ≤ 64 → length (section_text trailers) ≤ 8192
    → IsChunked (zero_line ++ (section_text trailers ++ crlf_bytes)) (whole (length (section_text trailers) + 5) trailers) []
unfolding segment_runs
section_whole trailers ok few small =
    let bytes = zero_line ++ (section_text trailers ++ crlf_bytes) in
    let k = length (section_text trailers) + 5 in
    let long : length bytes ≡ k = omega (arith, length-append (section_text trailers) crlf_bytes) in
    let all : take k bytes ≡ bytes = take_all k bytes (omega arith) in (
      record { segments = []; last = zero_line; trailers = trailers },
      omega arith,
      (record { segments = tt; last = zero_says; trailers = ok; lines = few; room = small }, all),
      refl,
      refl,
    )

-- behind the last line there are no runs
pub no_runs : (len : ℕ) (text : List ℕ) → cut_runs len (runs_of 0 start (zero_line ++ text)) ≡ []
unfolding runs_of cut_runs
no_runs len text = ap (cut_runs len) (runs_of_late 3 section_start text refl)

-- many bytes of a value are bytes of one
pub all_value : (n b : ℕ) → is_value_byte b ≡ true → IsTrue (list_all is_value_byte (replicate n b))
all_value zero b ok = refl
all_value (suc n) b ok = and_from _ _ ok (all_value n b ok)

-- where there is room for them and for a line's end, they lead on in the value
pub value_goes_on : (n b lines room left : ℕ) → is_value_byte b ≡ true → room ≡ n + left → 2 ≤ left
    → after (in_section in_value lines room) (replicate n b) ≡ in_section in_value lines left
value_goes_on zero b lines room left ok fits some =
    let same : room ≡ left = omega arith in
    after-nil (in_section in_value lines room) ∙ ap (in_section in_value lines) same
value_goes_on (suc n) b lines room left ok fits some =
    after-cons (in_section in_value lines room) b (replicate n b)
    ∙ ap (λ p. after p (replicate n b)) (step_value lines room b ok (omega arith))
    ∙ value_goes_on n b lines (room - 1) left ok (omega arith) some

-- a trailer line `a:` with a value
pub line_a : (value : List ℕ) → IsTrue (list_all is_value_byte value) → AllByRecursion IsTrailer (record { name = codes "a"; value = value } ∷ [])
unfolding is_token_byte
line_a value ok = ((omega arith, refl, ok), tt)

-- it is whole with the last line in front of it and an empty one behind, if it has room
pub line_a_whole : (value : List ℕ) (k : ℕ) → IsTrue (list_all is_value_byte value) → length value ≤ 8188 → k ≡ length value + 9
    → IsChunked (codes "0\r\na:" ++ (value ++ codes "\r\n\r\n")) (whole k (record { name = codes "a"; value = value } ∷ [])) []
line_a_whole value k ok fits e =
    let t : Trailer = record { name = codes "a"; value = value } in
    let long : length (section_text (t ∷ [])) ≡ length value + 4 = simp length-append (omega arith) in
    let same : zero_line ++ (section_text (t ∷ []) ++ crlf_bytes) ≡ codes "0\r\na:" ++ (value ++ codes "\r\n\r\n") =
    simp (append-nil, append_assoc) in
    let told = section_whole (t ∷ []) (line_a value ok) (omega arith) (omega arith) in
    let ends : length (section_text (t ∷ [])) + 5 ≡ k = omega arith in
    subst (λ n. IsChunked (codes "0\r\na:" ++ (value ++ codes "\r\n\r\n")) (whole n (t ∷ [])) []) ends
    (subst (λ l. IsChunked l (whole (length (section_text (t ∷ [])) + 5) (t ∷ [])) []) same told)

-- where the value reaches as far as it may, only the line's end has room
pub full_value : (n : ℕ) → n ≡ 8188 → after start (codes "0\r\na:" ++ replicate n 118) ≡ in_section in_value 64 2
unfolding after is_token_byte
full_value n e = value_goes_on n 118 64 8190 2 refl (omega arith) (omega arith)

-- many lines `a:b` are trailer lines
pub all_lines : (n : ℕ) → AllByRecursion IsTrailer (replicate n (record { name = codes "a"; value = codes "b" }))
all_lines zero = tt
all_lines (suc n) = ((line_a (codes "b") refl).0, all_lines n)
