-- An answer whose head was handed out is passed on as the one that is found.
use Rattle.std.proofs.Common.{◌≡◌, ℕ, ◌+◌, ◌≤◌, Bool, true, false, cond, List, [], ◌∷◌, length, codes, bytes_eq, Some, None, ap, ◌∙◌, arith}
use Rattle.std.specs.Prelude.{if◌then◌else◌}
use Rattle.std.proofs.lemmas.Bool.{false≢true, eqb-true, le-ltb}
use Rattle.model_h1.specs.Answer.{is_at_once}
use Rattle.model_h1.specs.Request.{BodyKind, no_body, fixed_body, chunked_body, raw_body}
use Rattle.model_h1.specs.Parse.{Body, content, ended_at, IsBodyOf}
use Rattle.model_h1.proofs.BodyGrowth.{fixed_whole}
use Rattle.model_client.specs.AnswerReading.{Answer}
use Rattle.model_client.specs.AnswerParse.{Received}
use Rattle.model_client.specs.ReadOut.{ReadAnswer}
use Rattle.model_proxy.specs.Answers.{Found, found_body, reply_size}
use Rattle.model_proxy.proofs.FoundHanded.{IsFoundSo}

-- ---- a reply that ends with its head

pub record EndsAtOnce (b : Body) : Type 0 where
  pub end : ℕ
  pub are : b ≡ content [] (ended_at end [])

ends_by : (bytes : List ℕ) (ended is_head : Bool) (kind : BodyKind) (a : Answer) (place : ℕ) (b : Body) → place ≤ length bytes
    → is_at_once (reply_size is_head (record a { body = kind })) ≡ true
    → IsBodyOf (record { bytes = bytes; upgraded = None; ended = ended; hold_size = 0 }) (if is_head then no_body else kind) place b → EndsAtOnce b
ends_by bytes ended true kind a place b within at x = record { end = place; are = x }
ends_by bytes ended false no_body a place b within at x = record { end = place; are = x }
ends_by bytes ended false (fixed_body n) a place b within at x =
    let none : n ≡ 0 = eqb-true n 0 at in
    let fits : place + n ≤ length bytes = omega (arith, within, none) in
    let low : place + n ≤ place = omega (arith, none) in
    record {
      end = place + n;
      are =
          x ∙ fixed_whole bytes None ended 0 place n fits
          ∙ ap (λ (t : Bool). content (cond t (record { start = place; end = place + n } ∷ []) []) (ended_at (place + n) [])) (le-ltb place (place + n) low);
    }
ends_by bytes ended false chunked_body a place b within at x = absurd (false≢true at)
ends_by bytes ended false raw_body a place b within at x = absurd (false≢true at)

pub ends_at_once : (s : Received) (method : List ℕ) (h : ReadAnswer) (a : Answer) (found : Found) (x : IsFoundSo s method h a found)
    → is_at_once (reply_size (bytes_eq method (codes "HEAD")) a) ≡ true → EndsAtOnce x.message.body
ends_at_once s method h a found x at =
    ends_by s.bytes s.ended (bytes_eq method (codes "HEAD")) a.body a x.message.body_start x.message.body x.of.within at x.of.is

-- ---- its head is passed on

pub head_is_found : (s : Received) (method : List ℕ) (h : ReadAnswer) (a : Answer) (found : Found) → IsFoundSo s method h a found → found.response ≡ Some a
head_is_found s method h a found x = ap (λ (f : Found). f.response) (x.is ∙ ap (found_body s a) x.of.has.are)
