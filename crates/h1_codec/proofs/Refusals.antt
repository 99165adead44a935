-- What is refused stays refused.
use Rattle.std.proofs.Common.{◌≡◌, ℕ, ◌≤◌, List, [], ◌∷◌, ◌++◌, length, take, drop, slice_range, inl, inr, refl, sym, ap, ◌∙◌, subst, arith, append_assoc, length-append}
use Rattle.std.proofs.lemmas.List.{take-append-le, drop-append-le, take-append-drop, length-take}
use Rattle.httparse.specs.Grammar.{print_end}
use Rattle.model_h1.specs.HeadPiece.{AreBlankLines, EndsBlank, IsHeadPiece, HasNoHeadPiece}
use Rattle.model_h1.specs.Request.{Fault}
use Rattle.model_h1.proofs.HeadPieceLemmas.{head_piece_unique, slice_range-append}
use Rattle.h1_codec.specs.Kind.{Reading, says_head, says_fault, Kind, IsOneReading}
use Rattle.h1_codec.specs.Heads.{Item, payload_of, SayTheSame, IsNext, IsTooLong, Stop, waits, refused, Stops, AreHeads}
use Rattle.h1_codec.proofs.GoingOn.{next_append}

-- a head that ends within so many bytes is that of the first so many
head_in_first : (n : ℕ) (bytes : List ℕ) (s e : ℕ) → IsHeadPiece bytes s e → e ≤ n → IsHeadPiece (take n bytes) s e
head_in_first n bytes s e piece near =
    let front = take n bytes in
    let back = drop n bytes in
    let fits : e ≤ length front = omega (arith, length-take n bytes, near, piece.in_range) in
    let there : IsHeadPiece (front ++ back) s e = subst (λ (b : List ℕ). IsHeadPiece b s e) (sym (take-append-drop n bytes)) piece in
    let start : s ≤ length front = omega (arith, fits, piece.ordered) in
    record {
      ordered = piece.ordered;
      in_range = fits;
      blank = subst AreBlankLines (take-append-le s front back start) there.blank;
      begins = λ (end, rest, is). there.begins
          (end, rest ++ back, drop-append-le s front back start ∙ ap (λ (l : List ℕ). l ++ back) is ∙ append_assoc (print_end end) rest back);
      ends = subst EndsBlank (slice_range-append front back s e piece.ordered fits) there.ends;
      first = λ e' low less ends. there.first e' low less
          (subst EndsBlank (sym (slice_range-append front back s e' low (omega (arith, fits, less)))) ends);
    }

-- no head is the next of too many bytes
pub none_too_long : (limit : ℕ) (bytes : List ℕ) (s e : ℕ) → IsTooLong limit bytes → IsNext limit bytes s e → ⊥
none_too_long limit bytes s e long next = long.1 s e (head_in_first limit bytes s e next.piece next.within)

module _ {I : Type 0} (k : Kind I) (one : IsOneReading k) where
  -- two readings of the next head are one
  one_reading : (limit : ℕ) (bytes : List ℕ) (s e s' e' : ℕ) (a b : Reading k.Head) → IsNext limit bytes s e → IsNext limit bytes s' e'
      → k.reads (slice_range bytes s e) a → k.reads (slice_range bytes s' e') b → a ≡ b
  one_reading limit bytes s e s' e' a b next next' of_a of_b =
      let same = head_piece_unique bytes s e s' e' next.piece next'.piece in
      let there : k.reads (slice_range bytes s' e') a =
      subst (λ (n : ℕ). k.reads (slice_range bytes s' n) a) same.1 (subst (λ (n : ℕ). k.reads (slice_range bytes n e) a) same.0 of_a) in
      one (slice_range bytes s' e') a b there of_b

  -- the same fault of more bytes
  pub stops_append : (limit : ℕ) (bytes more : List ℕ) (fault : Fault) → Stops k limit bytes (refused fault) → Stops k limit (bytes ++ more) (refused fault)
  stops_append limit bytes more fault (inl (long, is)) =
      inl ((omega (arith, long.0, length-append bytes more), subst HasNoHeadPiece (sym (take-append-le limit bytes more long.0)) long.1), is)
  stops_append limit bytes more fault (inr (s, e, next, reading)) =
      inr (
        s,
        e,
        next_append limit bytes more s e next,
        subst (λ (p : List ℕ). k.reads p (says_fault fault)) (sym (slice_range-append bytes more s e next.piece.ordered next.piece.in_range)) reading,
      )

  -- nothing else is read where a fault is
  pub one_stop : (limit : ℕ) (bytes : List ℕ) (fault : Fault) (items : List (Item I)) (stop : Stop) → Stops k limit bytes (refused fault)
      → AreHeads k limit bytes items stop → (items ≡ []) × (stop ≡ refused fault)
  one_stop limit bytes fault [] waits (inl (long, is)) here = absurd (omega (arith, long.0, here.1))
  one_stop limit bytes fault [] waits (inr (s, e, next, reading)) here = absurd (here.0 s e next.piece)
  one_stop limit bytes fault [] (refused other) (inl (long, is)) (inl (also, too)) = (refl, ap refused (too ∙ sym is))
  one_stop limit bytes fault [] (refused other) (inl (long, is)) (inr (s, e, next, reading)) = absurd (none_too_long limit bytes s e long next)
  one_stop limit bytes fault [] (refused other) (inr (s, e, next, reading)) (inl (long, is)) = absurd (none_too_long limit bytes s e long next)
  one_stop limit bytes fault [] (refused other) (inr (s, e, next, reading)) (inr (s', e', next', reading')) =
      let same : ◌≡◌ {A = Reading k.Head} (says_fault other) (says_fault fault) =
      one_reading limit bytes s' e' s e (says_fault other) (says_fault fault) next' next reading' reading in
      let named : other ≡ fault = cc in
      (refl, ap refused named)
  one_stop limit bytes fault (item ∷ items) stop (inl (long, is)) (s, e, next, said, left) = absurd (none_too_long limit bytes s e long next)
  one_stop limit bytes fault (item ∷ items) stop (inr (s, e, next, reading)) (s', e', next', said, left) =
      let same = one_reading limit bytes s e s' e' (says_fault fault) (says_head said.head) next next' reading said.reading in
      absurd (cc same)

  -- ---- all heads

  one_end : (limit : ℕ) (bytes : List ℕ) (s t : Stop) → Stops k limit bytes s → Stops k limit bytes t → s ≡ t
  one_end limit bytes waits waits a b = refl
  one_end limit bytes waits (refused g) a b = (one_stop limit bytes g [] waits b a).1
  one_end limit bytes (refused f) t a b = sym (one_stop limit bytes f [] t a b).1

  -- behind the last head no other is read
  no_more : (limit : ℕ) (bytes : List ℕ) (s t : Stop) (item : Item I) (items : List (Item I)) → Stops k limit bytes s → AreHeads k limit bytes (item ∷ items) t → ⊥
  no_more limit bytes waits t item items a (start, end, next, said, left) = a.0 start end next.piece
  no_more limit bytes (refused f) t item items a heads = let none = (one_stop limit bytes f (item ∷ items) t a heads).0 in cc none

  pub one_reading_of_all : (limit : ℕ) (bytes : List ℕ) (xs ys : List (Item I)) (s t : Stop) → AreHeads k limit bytes xs s → AreHeads k limit bytes ys t
      → SayTheSame k xs ys × (s ≡ t)
  one_reading_of_all limit bytes [] [] s t a b = (tt, one_end limit bytes s t a b)
  one_reading_of_all limit bytes [] (y ∷ ys) s t a b = absurd (no_more limit bytes s t y ys a b)
  one_reading_of_all limit bytes (x ∷ xs) [] s t a b = absurd (no_more limit bytes t s x xs b a)
  one_reading_of_all limit bytes (x ∷ xs) (y ∷ ys) s t (p, e, next, said, left) (p', e', next', said', left') =
      let same = one_reading limit bytes p e p' e' (says_head said.head) (says_head said'.head) next next' said.reading said'.reading in
      let head : said.head ≡ said'.head = cc same in
      let end : e ≡ e' = (head_piece_unique bytes p e p' e' next.piece next'.piece).1 in
      let rest = one_reading_of_all limit (drop e bytes) xs ys s t left (subst (λ (n : ℕ). AreHeads k limit (drop n bytes) ys t) (sym end) left') in (
        (
          (
            said.head,
            said.says,
            subst (k.says y.0) (sym head) said'.says,
            said.payload ∙ ap (λ (h : k.Head). payload_of (k.body h)) head ∙ sym said'.payload,
          ),
          rest.0,
        ),
        rest.1,
      )
