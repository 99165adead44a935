use Rattle.std.proofs.Common.{◌≡◌, ℕ, zero, suc, ◌≤◌, true, List, [], ◌∷◌, ◌++◌, length, All, codes, refl, sym, ◌∙◌, arith, inr, Option, Some, None, lit≤, append_assoc}
use Rattle.std.specs.List.{flat_map}
use Rattle.std.proofs.lemmas.List.Elements.{All-head}
use Rattle.httparse.specs.Grammar.{Field, IsField, LineEnd, crlf, lf, is_token_byte, print_end, print_blank, print_version, print_reason, print_field, print_section, print_response, trim_ows}
use Rattle.httparse.proofs.PieceLemmas.{print_field-append}
use Rattle.httparse.proofs.GrammarLemmas.{print_response-append}
use Rattle.model_h1.specs.Request.{no_body, keep_alive}
use Rattle.model_h1.specs.HeadPiece.{IsHeadPiece}
use Rattle.model_h1.proofs.ExampleLemmas.{plain_piece}
use Rattle.model_client.specs.LaxText.{unpadded}
use Rattle.model_client.specs.AnswerReading.{Answer, HasNoText, IsTextOf}
use Rattle.model_client.specs.WrittenHead.{line_of}
use Rattle.model_client.proofs.ExampleLemmas.{plain_tree, plain_text, no_name}
use Rattle.model_client.proofs.answer_examples.blank_before_a_colon.Goals as goal

piece : IsHeadPiece (codes "HTTP/1.1 200\r\ncontent-length : 0\r\n\r\n") 0 36
piece = plain_piece _ 36 refl

-- ---- the grammar refuses the text, part by part

after_blank : (ends : List LineEnd) (text more : List ℕ) → 72 ∷ more ≡ print_blank ends ++ text → 72 ∷ more ≡ text
after_blank [] text more e = e
after_blank (crlf ∷ ends) text more e = cc
after_blank (lf ∷ ends) text more e = cc

after_version : (minor : ℕ) (text more : List ℕ) → minor ≤ 1 → codes "HTTP/1.1 " ++ more ≡ print_version minor ++ 32 ∷ text → more ≡ text
after_version zero text more most e = cc
after_version (suc zero) text more most e = cc
after_version (suc (suc n)) text more most e = absurd (omega (arith, most))

after_digits : (digits text more : List ℕ) → length digits ≡ 3 → codes "200" ++ more ≡ digits ++ text → more ≡ text
after_digits [] text more three e = absurd (omega (arith, three))
after_digits (a ∷ []) text more three e = absurd (omega (arith, three))
after_digits (a ∷ b ∷ []) text more three e = absurd (omega (arith, three))
after_digits (a ∷ b ∷ c ∷ []) text more three e = cc
after_digits (a ∷ b ∷ c ∷ d ∷ digits) text more three e = absurd (omega (arith, three))

after_end : (end : LineEnd) (text more : List ℕ) → 13 ∷ 10 ∷ more ≡ print_end end ++ text → more ≡ text
after_end crlf text more e = cc
after_end lf text more e = cc

after_reason : (reason : Option (List ℕ)) (end : LineEnd) (text more : List ℕ) → 13 ∷ 10 ∷ more ≡ print_reason reason ++ (print_end end ++ text) → more ≡ text
after_reason None end text more e = after_end end text more e
after_reason (Some phrase) end text more e = cc

no_section : (fields : List Field) (last : LineEnd) → All IsField fields → codes "content-length : 0\r\n\r\n" ≡ print_section fields last ++ [] → ⊥
unfolding is_token_byte
no_section [] crlf all e = cc
no_section [] lf all e = cc
no_section (f ∷ fields) last all e =
    let more = flat_map print_field fields in
    let line : codes "content-length" ++ 32 ∷ codes ": 0\r\n\r\n" ≡ f.name ++ 58 ∷ (f.raw ++ (print_end f.end ++ (more ++ (print_end last ++ [])))) =
    e ∙ append_assoc (print_field f ++ more) (print_end last) [] ∙ append_assoc (print_field f) more (print_end last ++ [])
    ∙ print_field-append f (more ++ (print_end last ++ [])) in
    no_name (codes "content-length") f.name (f.raw ++ (print_end f.end ++ (more ++ (print_end last ++ [])))) (codes ": 0\r\n\r\n") refl
    (All-head IsField f fields all).name.1 (sym line)

refused : HasNoText (codes "HTTP/1.1 200\r\ncontent-length : 0\r\n\r\n")
refused h x =
    let e = x.1 ∙ print_response-append h [] in
    let version = after_blank h.blank _ (codes "TTP/1.1 200\r\ncontent-length : 0\r\n\r\n") e in
    let digits = after_version h.minor _ (codes "200\r\ncontent-length : 0\r\n\r\n") x.0.minor version in
    let reason = after_digits h.digits _ (codes "\r\ncontent-length : 0\r\n\r\n") x.0.digits.0 digits in
    let section = after_reason h.reason h.line_end _ (codes "content-length : 0\r\n\r\n") reason in
    no_section h.fields h.last x.0.fields section

-- ---- the second reading takes it

abbrev line : Field
line = record { name = codes "content-length"; raw = codes " 0"; end = crlf }

abbrev answer : Answer
answer = record {
  minor = 1;
  status = 200;
  reason = [];
  headers = line_of (codes "content-length") (codes "0") ∷ [];
  body = no_body;
  connection = keep_alive;
  is_lax = true;
}

is_text : IsTextOf (unpadded (codes "HTTP/1.1 200\r\ncontent-length : 0\r\n\r\n")) answer
unfolding print_response is_token_byte trim_ows unpadded
is_text = plain_text _ answer (plain_tree 1 (codes "200") None (line ∷ [])) refl (lit≤ tt)
    (record { spelled = refl; minor = refl; status = refl; reason = refl; headers = refl; body = refl; connection = refl })

pub returns : goal.returns
returns c =
    (record { start = 0; end = 36; piece = piece; body_start = refl; reading = (omega arith, inr (refl, refused, is_text)); body = refl }, refl)
