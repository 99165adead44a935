-- A copy of the first bytes that grows.
use Rattle.std.proofs.Common.{◌≡◌, ℕ, ◌+◌, ◌-◌, ◌<◌, ◌≤◌, List, [], ◌∷◌, ◌++◌, length, take, drop, min, refl, sym, ap, ◌∙◌, subst, arith, append-nil, length-append, inl, inr}
use Rattle.std.specs.Prelude.{◌⊎◌}
use Rattle.std.proofs.Math.Seq.{take-append-add, drop-append-add, drop-cons}
use Rattle.std.proofs.Common.{suc}
use Rattle.std.specs.Prelude.{slice_index_or, Option, Some, None, option_to_list}
use Rattle.std.proofs.lemmas.List.{take-append-le, length-drop, length-take-le, take-append-drop, drop-drop, take_at, drop_at}
use Rattle.h1_output.specs.OutputPieces.{IsCopied, body_in, body_len, laid, own_len, used}
use Rattle.h1_output.specs.declared.piece.Piece.{Piece}
use Rattle.h1_output.proofs.Laid.{body_size}

-- where the bytes stand behind so many others
take_behind : (all x r : List ℕ) (n c : ℕ) → n ≤ length all → drop n all ≡ x ++ r → c ≤ length x → take (n + c) all ≡ take n all ++ take c x
take_behind all x r n c within is fits =
    let size = length-take-le n all within in
    let sum : n + c ≡ length (take n all) + c = omega (arith, size) in
    let split : all ≡ take n all ++ (x ++ r) = sym (take-append-drop n all) ∙ ap (λ l. take n all ++ l) is in
    ap (take (n + c)) split ∙ ap (λ k. take k (take n all ++ (x ++ r))) sum ∙ take-append-add (take n all) (x ++ r) c
    ∙ ap (λ l. take n all ++ l) (take-append-le c x r fits)

module _ (all was now then' x r : List ℕ) (at n c : ℕ) (is : IsCopied all was now at n) (here : drop n all ≡ x ++ r) (count : c ≡ min (length now - at) (length x))
    (put : then' ≡ take at now ++ (take c x ++ drop (at + c) now)) where
  at_fits : at ≤ length now
  at_fits = omega (arith, is.at_is, is.size)

  sizes : length (take at now) ≡ at
  sizes = length-take-le at now at_fits

  taken : length (take c x) ≡ c
  taken = length-take-le c x (omega (arith, count))

  within : n + length x ≤ length all
  within = omega (arith, ap length here, length-append x r, length-drop n all, is.within)

  front : take (at + c) then' ≡ take at now ++ take c x
  front =
      let sum : at + c ≡ length (take at now) + c = omega (arith, sizes) in
      ap (take (at + c)) put ∙ ap (λ k. take k (take at now ++ (take c x ++ drop (at + c) now))) sum
      ∙ take-append-add (take at now) (take c x ++ drop (at + c) now) c
      ∙ ap (λ l. take at now ++ l) (take_at (take c x) (drop (at + c) now) c taken)

  back : drop (at + c) then' ≡ drop (at + c) now
  back =
      let sum : at + c ≡ length (take at now) + c = omega (arith, sizes) in
      ap (drop (at + c)) put ∙ ap (λ k. drop k (take at now ++ (take c x ++ drop (at + c) now))) sum
      ∙ drop-append-add (take at now) (take c x ++ drop (at + c) now) c
      ∙ drop_at (take c x) (drop (at + c) now) c taken

  -- there was room up to here, or none is left
  room : (at ≡ n) ⊎ (c ≡ 0)
  room = grind (arith, is.at_is, is.size, count)

  both : (at ≡ n) ⊎ (c ≡ 0) → take at now ++ take c x ≡ take (at + c) all
  both (inl same) =
      ap (λ l. l ++ take c x) (is.bytes ∙ ap (λ k. take k all) same) ∙ sym (take_behind all x r n c is.within here (omega (arith, count))) ∙ ap (λ k. take (k + c) all) (sym same)
  both (inr none) =
      let sum : at + c ≡ at = omega arith in
      ap (λ k. take at now ++ take k x) none ∙ append-nil (take at now) ∙ is.bytes ∙ ap (λ k. take k all) (sym sum)

  pub copied_more : IsCopied all was then' (at + c) (n + length x)
  copied_more =
      record {
        at_is = omega (arith, is.at_is, is.size, count);
        bytes = front ∙ both room;
        rest = back ∙ sym (drop-drop c at now) ∙ ap (drop c) is.rest ∙ drop-drop c at was;
        size = omega (arith, ap length put, length-append (take at now) (take c x ++ drop (at + c) now), length-append (take c x) (drop (at + c) now), sizes, taken, length-drop (at + c) now, is.size, count);
        within = within;
      }

  pub left_more : drop (n + length x) all ≡ r
  left_more = sym (drop-drop (length x) n all) ∙ ap (drop (length x)) here ∙ drop_at x r (length x) refl

-- a piece with the framing in front of it
pub piece_copied : (all was b0 b1 b2 own x1 x2 : List ℕ) (rest : List Piece) (p : Piece) (at from n c1 c2 : ℕ) → IsCopied all was b0 at n
    → drop n all ≡ laid (p ∷ rest) (drop from own) → from + p.before + own_len p.body ≤ length own
    → x1 ≡ take p.before (drop from own) → x2 ≡ body_in p.body (drop p.before (drop from own))
    → c1 ≡ min (length b0 - at) (length x1) → b1 ≡ take at b0 ++ (take c1 x1 ++ drop (at + c1) b0)
    → c2 ≡ min (length b1 - (at + c1)) (length x2) → b2 ≡ take (at + c1) b1 ++ (take c2 x2 ++ drop (at + c1 + c2) b1)
    → IsCopied all was b2 (at + c1 + c2) (n + p.before + body_len p.body)
    × (drop (n + p.before + body_len p.body) all ≡ laid rest (drop (from + p.before + own_len p.body) own))
unfolding laid
piece_copied all was b0 b1 b2 own x1 x2 rest p at from n c1 c2 is here fits one two count1 put1 count2 put2 =
    let left = drop from own in
    let size = length-drop from own in
    let dropped = length-drop p.before left in
    let more = laid rest (drop (p.before + own_len p.body) left) in
    let first : drop n all ≡ x1 ++ (x2 ++ more) = here ∙ sym (λ i. one i ++ (two i ++ more)) in
    let size1 : length x1 ≡ p.before = ap length one ∙ length-take-le p.before left (omega (arith, size)) in
    let size2 : length x2 ≡ body_len p.body = ap length two ∙ body_size p.body (drop p.before left) (omega (arith, size, dropped)) in
    let is1 = copied_more all was b0 b1 x1 (x2 ++ more) at n c1 is first count1 put1 in
    let here1 = left_more all was b0 b1 x1 (x2 ++ more) at n c1 is first count1 put1 in
    let is2 = copied_more all was b1 b2 x2 more (at + c1) (n + length x1) c2 is1 here1 count2 put2 in
    let here2 = left_more all was b1 b2 x2 more (at + c1) (n + length x1) c2 is1 here1 count2 put2 in
    let sum : n + length x1 + length x2 ≡ n + p.before + body_len p.body = omega (arith, size1, size2) in
    let place : from + (p.before + own_len p.body) ≡ from + p.before + own_len p.body = omega arith in
    let own_left : drop (p.before + own_len p.body) left ≡ drop (from + p.before + own_len p.body) own = drop-drop (p.before + own_len p.body) from own ∙ ap (λ k. drop k own) place in (
      subst (λ k. IsCopied all was b2 (at + c1 + c2) k) sum is2,
      ap (λ k. drop k all) (sym sum) ∙ here2 ∙ ap (laid rest) own_left,
    )

pub piece_at : (ps : List Piece) (i : ℕ) (p : Piece) → i < length ps → p ≡ slice_index_or ps i p → drop i ps ≡ p ∷ drop (i + 1) ps
piece_at ps i p fits is =
    let next : suc i ≡ i + 1 = omega arith in
    drop-cons ps i p fits ∙ (λ j. is' j ∷ drop (next j) ps)
  where
    is' : slice_index_or ps i p ≡ p
    is' = sym is

pub used_first : (ps rest : List Piece) (p : Piece) → ps ≡ p ∷ rest → used ps ≡ p.before + own_len p.body + used rest
unfolding used
used_first ps rest p is = ap used is

-- ---- from none to all

pub none_copied : (all was : List ℕ) → IsCopied all was was 0 0
none_copied all was = record { at_is = omega arith; bytes = refl; rest = refl; size = refl; within = omega arith }

pub used-append : (ps qs : List Piece) → used (ps ++ qs) ≡ used ps + used qs
unfolding used
used-append [] qs = omega arith
used-append (p ∷ ps) qs = omega (arith, used-append ps qs)

pub all_copied : (all was now then' own : List ℕ) (at from k c : ℕ) → IsCopied all was now at k → drop k all ≡ drop from own
    → c ≡ min (length now - at) (length (drop from own)) → then' ≡ take at now ++ (take c (drop from own) ++ drop (at + c) now)
    → (at + c ≡ min (length was) (length all)) × (take (at + c) then' ≡ take (at + c) all) × (drop (at + c) then' ≡ drop (at + c) was)
all_copied all was now then' own at from k c is here count put =
    let x = drop from own in
    let whole = here ∙ sym (append-nil x) in
    let last = copied_more all was now then' x [] at k c is whole count put in
    let none = left_more all was now then' x [] at k c is whole count put in
    let size = ap length none in
    let dropped = length-drop (k + length x) all in
    (omega (arith, last.at_is, last.within, size, dropped), last.bytes, last.rest)

-- the room is full, so that no byte more is copied
pub full_copied : (all was now then' own : List ℕ) (at from k c : ℕ) → IsCopied all was now at k → at ≡ length now
    → c ≡ min (length now - at) (length (drop from own)) → then' ≡ take at now ++ (take c (drop from own) ++ drop (at + c) now)
    → (at + c ≡ min (length was) (length all)) × (take (at + c) then' ≡ take (at + c) all) × (drop (at + c) then' ≡ drop (at + c) was)
full_copied all was now then' own at from k c is full count put =
    let none : c ≡ 0 = omega (arith, full, count) in
    let sum : at + c ≡ at = omega (arith, none) in
    let same : then' ≡ now = put ∙ (λ i. take at now ++ (take (none i) (drop from own) ++ drop (sum i) now)) ∙ take-append-drop at now in (
      omega (arith, is.at_is, is.size, is.within, none, full),
      ap (take (at + c)) same ∙ ap (λ n. take n now) sum ∙ is.bytes ∙ ap (λ n. take n all) (sym sum),
      ap (drop (at + c)) same ∙ ap (λ n. drop n now) sum ∙ is.rest ∙ ap (λ n. drop n was) (sym sum),
    )

-- all pieces came by, or the room is full
pub ends_copied : (all was now then' own : List ℕ) (at from k c : ℕ) → IsCopied all was now at k → (drop k all ≡ drop from own) ⊎ (at ≡ length now)
    → c ≡ min (length now - at) (length (drop from own)) → then' ≡ take at now ++ (take c (drop from own) ++ drop (at + c) now)
    → (at + c ≡ min (length was) (length all)) × (take (at + c) then' ≡ take (at + c) all) × (drop (at + c) then' ≡ drop (at + c) was)
ends_copied all was now then' own at from k c is (inl here) count put = all_copied all was now then' own at from k c is here count put
ends_copied all was now then' own at from k c is (inr full) count put = full_copied all was now then' own at from k c is full count put

pub used_one : (one : Option Piece) (p : Piece) → one ≡ Some p → used (option_to_list one) ≡ p.before + own_len p.body
unfolding used
used_one one p is = ap (λ o. used (option_to_list o)) is ∙ (let e : p.before + own_len p.body + 0 ≡ p.before + own_len p.body = omega arith in e)

pub used_none : (one : Option Piece) → one ≡ None → 0 ≡ used (option_to_list one)
unfolding used
used_none one is = sym (ap (λ o. used (option_to_list o)) is)

pub laid_none : (own : List ℕ) → laid [] own ≡ own
unfolding laid
laid_none own = refl
