-- Line ends by their places, against those by their texts.
use Rattle.std.proofs.Common.{◌≡◌, ℕ, ◌+◌, ◌-◌, ◌<◌, ◌≤◌, List, [], ◌∷◌, ◌++◌, length, take, drop, get_or, slice_range, inl, inr, refl, sym, ap, ◌∙◌, subst, arith, append-nil, add-zero, length-append, length-drop}
use Rattle.std.proofs.lemmas.List.{take_rest, take-append-drop, get_or-drop, get_or-take, get_or_at, get_or-append-add, drop_more, drop-drop, length-take-le}
use Rattle.std.proofs.lemmas.List.Concat.{flat_map-append}
use Rattle.std.proofs.lemmas.Bool.{eqb-true, eq-eqb, cases_lt, cases_order}
use Rattle.std.proofs.Math.Seq.{take-add}
use Rattle.memchr.specs.Find.{Nowhere, Passes, is_byte}
use Rattle.httparse.specs.Ascii.{line_feed, carriage_return}
use Rattle.httparse.specs.Grammar.{LineEnd, crlf, lf, print_end, print_blank}
use Rattle.model_h1.specs.HeadPiece.{AreBlankLines, BeginsBlank, EndsBlank}
use Rattle.h1_decoder.specs.LineEnds.{IsLineEndAt, IsEmptyLineAt, HasEnd, IsFirstEnd}

-- a byte of a part is one of the whole
pub slice_byte : (bytes : List ℕ) (s e k : ℕ) (ys : List ℕ) → slice_range bytes s e ≡ ys → s + k < e → get_or bytes (s + k) 0 ≡ get_or ys k 0
slice_byte bytes s e k ys is lt =
    let below : k < e - s = omega arith in
    sym (get_or-drop s bytes k 0) ∙ sym (get_or-take (e - s) (drop s bytes) k 0 below) ∙ ap (λ xs. get_or xs k 0) is

-- two bytes and one, as a part of a list
two_bytes : (bytes : List ℕ) (p a b : ℕ) → p + 2 ≤ length bytes → get_or bytes p 0 ≡ a → get_or bytes (p + 1) 0 ≡ b → take 2 (drop p bytes) ≡ a ∷ b ∷ []
two_bytes bytes p a b fits is_a is_b =
    ap (take 2) (drop_more bytes p 0 (omega arith))
    ∙ ap (λ xs. get_or bytes p 0 ∷ take 1 xs) (drop_more bytes (p + 1) 0 (omega arith))
    ∙ ap (λ x. x ∷ get_or bytes (p + 1) 0 ∷ []) is_a ∙ ap (λ y. a ∷ y ∷ []) is_b

one_byte : (bytes : List ℕ) (p a : ℕ) → p + 1 ≤ length bytes → get_or bytes p 0 ≡ a → take 1 (drop p bytes) ≡ a ∷ []
one_byte bytes p a fits is_a = ap (take 1) (drop_more bytes p 0 (omega arith)) ∙ ap (λ x. x ∷ []) is_a

-- the text of a line end
pub line_end_text : (bytes : List ℕ) (p e : ℕ) → IsLineEndAt bytes p e → (end : LineEnd) × (take (e - p) (drop p bytes) ≡ print_end end)
line_end_text bytes p e at =
    elim at.reads [
      | inl one ↦ (
        lf,
        rw one.0 (
            let n : (p + 1) - p ≡ 1 = omega arith in
            let fits : p + 1 ≤ length bytes = omega (arith, at.in_range, one.0) in
            rw n (one_byte bytes p _ fits one.1)),
      )
      | inr two ↦ (
        crlf,
        rw two.0 (
            let n : (p + 2) - p ≡ 2 = omega arith in
            let fits : p + 2 ≤ length bytes = omega (arith, at.in_range, two.0) in
            rw n (two_bytes bytes p _ _ fits two.1 two.2)),
      )
    ]

pub line_end_after : (bytes : List ℕ) (p e : ℕ) → IsLineEndAt bytes p e → p < e
line_end_after bytes p e at = elim at.reads [ inl one ↦ omega (arith, one.0) | inr two ↦ omega (arith, two.0) ]

pub line_end_near : (bytes : List ℕ) (p e : ℕ) → IsLineEndAt bytes p e → e ≤ p + 2
line_end_near bytes p e at = elim at.reads [ inl one ↦ omega (arith, one.0) | inr two ↦ omega (arith, two.0) ]

-- one more line end behind the empty lines
pub AreBlankLines-more : (bytes : List ℕ) (p e : ℕ) → AreBlankLines (take p bytes) → IsLineEndAt bytes p e → AreBlankLines (take e bytes)
AreBlankLines-more bytes p e blank at =
    let text = line_end_text bytes p e at in
    let after : p < e = line_end_after bytes p e at in
    let n : e ≡ p + (e - p) = omega arith in (
      blank.0 ++ text.0 ∷ [],
      ap (λ m. take m bytes) n ∙ take-add p (e - p) bytes
          ∙ ap (λ xs. xs ++ take (e - p) (drop p bytes)) blank.1
          ∙ ap (λ xs. print_blank blank.0 ++ xs) (text.1 ∙ sym (append-nil (print_end text.0)))
          ∙ sym (flat_map-append print_end blank.0 (text.0 ∷ [])),
    )

-- a line end in what follows a place, as a slice gives it
pub IsLineEndAt-rest : (bytes : List ℕ) (p len : ℕ) → p ≤ length bytes → IsLineEndAt (slice_range bytes p (length bytes)) 0 len → IsLineEndAt bytes p (p + len)
IsLineEndAt-rest bytes p len fits at' =
    let at = rw take_rest at at' in
    let after : 0 < len = line_end_after (drop p bytes) 0 len at in
    let room : len + p ≤ length bytes = omega (arith, at.in_range, length-drop p bytes) in
    let here : get_or (drop p bytes) 0 0 ≡ get_or bytes p 0 = get_or-drop p bytes 0 0 ∙ ap (λ k. get_or bytes k 0) (add-zero p) in
    record {
      in_range = omega arith;
      reads =
          elim at.reads [
            | inl one ↦ inl (omega (arith, one.0), sym here ∙ one.1)
            | inr two ↦ inr (omega (arith, two.0), sym here ∙ two.1, sym (get_or-drop p bytes 1 0) ∙ two.2)
          ];
    }

-- the line end with which a text begins
pub BeginsBlank-at : (bytes : List ℕ) → BeginsBlank bytes → (e : ℕ) × IsLineEndAt bytes 0 e
BeginsBlank-at bytes (crlf, rest, is) = (
  2,
  record {
    in_range = rw is (omega arith);
    reads = inr (refl, ap (λ xs. get_or xs 0 0) is, ap (λ xs. get_or xs 1 0) is);
  },
)
BeginsBlank-at bytes (lf, rest, is) =
    (1, record { in_range = rw is (omega arith); reads = inl (refl, ap (λ xs. get_or xs 0 0) is) })

-- a part that ends with an empty line, by its places
pub EndsBlank-at : (bytes : List ℕ) (s e : ℕ) → s ≤ e → e ≤ length bytes → EndsBlank (slice_range bytes s e) → HasEnd bytes s e
EndsBlank-at bytes s e ordered fits (before, crlf, is) =
    let n : e - s ≡ length before + 3 =
    sym (length-take-le (e - s) (drop s bytes) (omega (arith, length-drop s bytes)))
    ∙ ap length is ∙ length-append before (line_feed ∷ carriage_return ∷ line_feed ∷ []) in
    let m = length before in
    let e_is : e ≡ s + m + 3 = omega arith in (
      s + m,
      (omega arith),
      record {
        feed = slice_byte bytes s e m _ is (omega arith) ∙ get_or_at before _ _ 0 m refl;
        line = record {
          in_range = fits;
          reads = inr (
            omega arith,
            ap (λ k. get_or bytes k 0) (let k : s + m + 1 ≡ s + (m + 1) = omega arith in k) ∙ slice_byte bytes s e (m + 1) _ is (omega arith) ∙ get_or-append-add before _ 1 0,
            ap (λ k. get_or bytes k 0) (let k : s + m + 1 + 1 ≡ s + (m + 2) = omega arith in k) ∙ slice_byte bytes s e (m + 2) _ is (omega arith) ∙ get_or-append-add before _ 2 0,
          );
        };
      },
    )
EndsBlank-at bytes s e ordered fits (before, lf, is) =
    let n : e - s ≡ length before + 2 =
    sym (length-take-le (e - s) (drop s bytes) (omega (arith, length-drop s bytes)))
    ∙ ap length is ∙ length-append before (line_feed ∷ line_feed ∷ []) in
    let m = length before in (
      s + m,
      (omega arith),
      record {
        feed = slice_byte bytes s e m _ is (omega arith) ∙ get_or_at before _ _ 0 m refl;
        line = record {
          in_range = fits;
          reads = inl (
            omega arith,
            ap (λ k. get_or bytes k 0) (let k : s + m + 1 ≡ s + (m + 1) = omega arith in k) ∙ slice_byte bytes s e (m + 1) _ is (omega arith) ∙ get_or-append-add before _ 1 0,
          );
        };
      },
    )

-- and back
pub EndsBlank-of : (bytes : List ℕ) (s e : ℕ) → HasEnd bytes s e → EndsBlank (slice_range bytes s e)
EndsBlank-of bytes s e (p, low, empty) =
    let text = line_end_text bytes (p + 1) e empty.line in
    let after : p + 1 < e = line_end_after bytes (p + 1) e empty.line in
    let n : e - s ≡ (p - s) + (1 + (e - (p + 1))) = omega arith in
    let there : s + (p - s) ≡ p = omega arith in
    let in_range : p < length bytes = omega (arith, empty.line.in_range) in (
      take (p - s) (drop s bytes),
      text.0,
      ap (λ k. take k (drop s bytes)) n ∙ take-add (p - s) (1 + (e - (p + 1))) (drop s bytes)
          ∙ ap (λ xs. take (p - s) (drop s bytes) ++ xs) (
          ap (take (1 + (e - (p + 1)))) (drop-drop (p - s) s bytes ∙ ap (λ k. drop k bytes) there)
          ∙ take-add 1 (e - (p + 1)) (drop p bytes)
          ∙ ap (λ xs. xs ++ take (e - (p + 1)) (drop 1 (drop p bytes))) (one_byte bytes p _ (omega arith) empty.feed)
          ∙ ap (λ xs. line_feed ∷ take (e - (p + 1)) xs) (drop-drop 1 p bytes)
          ∙ ap (λ xs. line_feed ∷ xs) text.1),
    )

-- a line end has one end
line_end_unique : (bytes : List ℕ) (p e e' : ℕ) → IsLineEndAt bytes p e → IsLineEndAt bytes p e' → e ≡ e'
line_end_unique bytes p e e' at at' =
    elim at.reads [
      | inl one ↦ elim at'.reads [ inl one' ↦ omega (arith, one.0, one'.0) | inr two' ↦ absurd (omega (arith, one.1, two'.1)) ]
      | inr two ↦ elim at'.reads [ inl one' ↦ absurd (omega (arith, two.1, one'.1)) | inr two' ↦ omega (arith, two.0, two'.0) ]
    ]

-- the first line feed with an empty line behind it gives the first end
pub IsFirstEnd-here : (bytes : List ℕ) (from p e : ℕ) → from ≤ p → IsEmptyLineAt bytes p e
    → ((q e' : ℕ) → from ≤ q → q < p → ¬ (IsEmptyLineAt bytes q e')) → IsFirstEnd bytes from e
IsFirstEnd-here bytes from p e low empty before = record {
  here = (p, low, empty);
  first = λ e' lt (q, q_low, other).
      let near : e ≤ p + 1 + 2 = line_end_near bytes (p + 1) e empty.line in
      let after : q + 1 < e' = line_end_after bytes (q + 1) e' other.line in
      elim (cases_order q p) [
        | inl same ↦ absurd (omega (arith, line_end_unique bytes (p + 1) e e' empty.line (subst (λ (k : ℕ). IsLineEndAt bytes (k + 1) e') same other.line)))
        | inr apart ↦ elim apart [ inl below ↦ before q e' q_low below other | inr above ↦ absurd (omega arith) ]
      ];
}

-- what a search for a line feed in the rest of the bytes says of them
module _ (bytes : List ℕ) (at : ℕ) where
  rest_byte : (k : ℕ) → get_or (slice_range bytes at (length bytes)) k 0 ≡ get_or bytes (at + k) 0
  rest_byte k = ap (λ xs. get_or xs k 0) (take_rest bytes at) ∙ get_or-drop at bytes k 0

  pub feed_found : (k : ℕ) → Passes (is_byte line_feed) (slice_range bytes at (length bytes)) k → get_or bytes (at + k) 0 ≡ line_feed
  feed_found k passes = sym (rest_byte k) ∙ eqb-true _ _ passes

  pub no_feed : (p : ℕ) → at ≤ p → ¬ (Passes (is_byte line_feed) (slice_range bytes at (length bytes)) (p - at)) → ¬ (get_or bytes p 0 ≡ line_feed)
  no_feed p low none is =
      let there : at + (p - at) ≡ p = omega arith in
      none (eq-eqb _ _ (rest_byte (p - at) ∙ ap (λ k. get_or bytes k 0) there ∙ is))

  pub length-rest : length (slice_range bytes at (length bytes)) ≡ length bytes - at
  length-rest = ap length (take_rest bytes at) ∙ length-drop at bytes

  -- where the rest begins with no line end, none stands there
  pub BeginsBlank-rest : (e : ℕ) → IsLineEndAt bytes at e → BeginsBlank (slice_range bytes at (length bytes))
  BeginsBlank-rest e here =
      let text = line_end_text bytes at e here in (
        text.0,
        drop (e - at) (drop at bytes),
        take_rest bytes at ∙ sym (take-append-drop (e - at) (drop at bytes)) ∙ ap (λ xs. xs ++ drop (e - at) (drop at bytes)) text.1,
      )

-- no empty line stands behind a line feed before the next one that a search finds
pub none_passed : (bytes : List ℕ) (from at k : ℕ)
    → ((place end : ℕ) → from ≤ place → place < at → ¬ (IsEmptyLineAt bytes place end))
    → Nowhere (Passes (is_byte line_feed) (slice_range bytes at (length bytes))) 0 k
    → (place end : ℕ) → from ≤ place → place < at + k → ¬ (IsEmptyLineAt bytes place end)
none_passed bytes from at k passed before place end low lt empty =
    elim (cases_lt place at) [
      | inl old ↦ passed place end low old empty
      | inr ahead ↦ no_feed bytes at place ahead (before (place - at) (omega arith) (omega arith)) empty.feed
    ]
