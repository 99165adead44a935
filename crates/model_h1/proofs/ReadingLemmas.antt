-- A piece is read in one way.
use Rattle.std.proofs.Common.{◌≡◌, ℕ, List, refl, sym, ap, ◌∙◌, arith, Some, map, inl, inr}
use Rattle.httparse.specs.Grammar.{RequestHead}
use Rattle.httparse.proofs.GrammarLemmas.{request_unique}
use Rattle.model_h1.specs.LengthTable.{body_kind, connection_of, expects_continue}
use Rattle.model_h1.specs.Request.{Head, too_large, malformed, Reading, head_is, faulty}
use Rattle.model_h1.specs.RequestHead.{IsHeadOf, IsReading, IsReadingWithin, header_of}

-- a piece is the text of one head
pub head_unique : (piece : List ℕ) (h k : Head) → IsHeadOf piece h → IsHeadOf piece k → h ≡ k
head_unique piece h k x y =
    let text = (request_unique piece x.text y.text _ _ x.reads y.reads).0 in
    let method : h.method ≡ k.method = x.method_is.1 ∙ ap (λ (t : RequestHead). t.method) text ∙ sym y.method_is.1 in
    let target : h.target ≡ k.target = x.target_is.1 ∙ ap (λ (t : RequestHead). t.target) text ∙ sym y.target_is.1 in
    let minor : h.minor ≡ k.minor = x.minor_is ∙ ap (λ (t : RequestHead). t.minor) text ∙ sym y.minor_is in
    let headers : h.headers ≡ k.headers = x.headers_are ∙ ap (λ (t : RequestHead). map header_of t.fields) text ∙ sym y.headers_are in
    let body' : Some h.body ≡ Some k.body = sym x.body_is ∙ (λ i. body_kind (minor i) (method i) (headers i)) ∙ y.body_is in
    let body : h.body ≡ k.body = cc in
    let connection : h.connection ≡ k.connection = x.connection_is ∙ (λ i. connection_of (minor i) (headers i)) ∙ sym y.connection_is in
    let expects : h.expects ≡ k.expects = x.expects_is ∙ ap expects_continue headers ∙ sym y.expects_is in
    λ i. record {
      method = method i;
      target = target i;
      minor = minor i;
      headers = headers i;
      body = body i;
      connection = connection i;
      expects = expects i;
    }

-- a piece has one reading
pub reading_unique : (piece : List ℕ) (a b : Reading) → IsReading piece a → IsReading piece b → a ≡ b
reading_unique piece (faulty too_large) (faulty too_large) x y = refl
reading_unique piece (faulty too_large) (faulty malformed) x y = absurd (omega (arith, y.0))
reading_unique piece (faulty too_large) (head_is k) x y = absurd (omega (arith, y.0))
reading_unique piece (faulty malformed) (faulty too_large) x y = absurd (omega (arith, x.0))
reading_unique piece (faulty malformed) (faulty malformed) x y = refl
reading_unique piece (faulty malformed) (head_is k) x y = absurd (x.1 k y.1)
reading_unique piece (head_is h) (faulty too_large) x y = absurd (omega (arith, x.0))
reading_unique piece (head_is h) (faulty malformed) x y = absurd (y.1 h x.1)
reading_unique piece (head_is h) (head_is k) x y = ap head_is (head_unique piece h k x.1 y.1)

-- and one within a size
pub reading_within_unique : (size : ℕ) (piece : List ℕ) (a b : Reading) → IsReadingWithin size piece a → IsReadingWithin size piece b → a ≡ b
reading_within_unique size piece a b (inl x) (inl y) = reading_unique piece a b x.1 y.1
reading_within_unique size piece a b (inl x) (inr y) = absurd (omega (arith, x.0, y.0))
reading_within_unique size piece a b (inr x) (inl y) = absurd (omega (arith, x.0, y.0))
reading_within_unique size piece a b (inr x) (inr y) = x.1 ∙ sym y.1
