-- The events of an exchange, and of those that were made so far.
use Rattle.std.proofs.Common.{◌≡◌, ℕ, ◌+◌, ◌-◌, ◌<◌, ◌≤◌, List, [], ◌∷◌, ◌++◌, length, take, replicate, slice_range, sym, ap, ◌∙◌, arith, append_assoc, append-nil}
use Rattle.std.specs.Prelude.{suc}
use Rattle.std.proofs.lemmas.List.{take_all, take-replicate, length-replicate}
use Rattle.std.proofs.lemmas.Slice.{between_is}
use Rattle.model_h1.specs.Event.{Event}
use Rattle.model_h1.specs.Event as on
use Rattle.h1_generated.specs.Generated.{Kind, next_state, drawn, kind_of, len_of, letters, head_text, body_text, answering, exchange, exchanges_from, generated}
use Rattle.h1_generated.proofs.Texts.{longer}

-- ---- letters

pub block_made : (first items given : List ℕ) (len : ℕ) → first ≡ [] → items ≡ take 1000 first ++ replicate (1000 - length first) 97 → len ≡ length items
    → given ≡ take len items → given ≡ letters 1000
block_made first items given len none filled counted cut =
    let all : items ≡ letters 1000 = filled ∙ ap (λ (l : List ℕ). take 1000 l ++ replicate (1000 - length l) 97) none in
    cut ∙ take_all len items (omega (arith, counted)) ∙ all

pub body_cut : (block given : List ℕ) (len : ℕ) → block ≡ letters 1000 → len ≤ 1000 → given ≡ slice_range block 0 len → given ≡ letters len
body_cut block given len is short cut = cut ∙ between_is block 0 len ∙ ap (take len) is ∙ take-replicate len 1000 97 short

-- ---- one exchange

pub exchange_made : (old a b c d : List Event) (text body seen : List ℕ) (kind named : Kind) (k len n : ℕ)
    → kind ≡ named → len ≡ n → body ≡ letters len → seen ≡ body
    → text ≡ head_text kind k (length seen) ++ body_text kind (length seen)
    → a ≡ old ++ (on.read text ∷ []) → b ≡ a ++ (on.next ∷ []) → c ≡ b ++ answering kind (length body) → d ≡ c ++ (on.write 65536 ∷ [])
    → d ≡ old ++ exchange named k n
unfolding exchange
exchange_made old a b c d text body seen kind named k len n same lens is same_body is_text first second third fourth =
    let size : length body ≡ n = ap length is ∙ length-replicate {A = ℕ} len 97 ∙ lens in
    let seen_size : length seen ≡ n = ap length same_body ∙ size in
    let two = longer old a b (on.read text ∷ []) (on.next ∷ []) first second in
    let three = longer old b c (on.read text ∷ on.next ∷ []) (answering kind (length body)) two third in
    let four = longer old c d (on.read text ∷ on.next ∷ answering kind (length body)) (on.write 65536 ∷ []) three fourth in
    let whole : text ≡ head_text named k n ++ body_text named n = is_text ∙ (λ i. head_text (same i) k (seen_size i) ++ body_text (same i) (seen_size i)) in
    four ∙ ap (λ (es : List Event). old ++ es) (λ i. on.read (whole i) ∷ on.next ∷ (answering (same i) (size i) ++ (on.write 65536 ∷ [])))

-- ---- all of them

-- none is made yet
pub none_made : (es : List Event) (seed count : ℕ) → es ≡ on.tick 0 ∷ [] → es ++ exchanges_from seed (0 + 1) (count - 0) ≡ generated seed count
none_made es seed count is =
    let all : count - 0 ≡ count = omega arith in
    ap (λ (l : List Event). l ++ exchanges_from seed (0 + 1) (count - 0)) is ∙ ap (λ n. on.tick 0 ∷ exchanges_from seed 1 n) all

-- one more is made
pub one_made : (old es all : List Event) (x i count : ℕ) → i < count → old ++ exchanges_from x (i + 1) (count - i) ≡ all
    → es ≡ old ++ exchange (kind_of (drawn (next_state x))) (i + 1) (len_of (drawn (next_state x)))
    → es ++ exchanges_from (next_state x) (i + 1 + 1) (count - (i + 1)) ≡ all
unfolding exchanges_from
one_made old es all x i count less so_far is =
    let y = next_state x in
    let one = exchange (kind_of (drawn y)) (i + 1) (len_of (drawn y)) in
    let rest = exchanges_from y (i + 1 + 1) (count - (i + 1)) in
    let left : suc (count - (i + 1)) ≡ count - i = omega arith in
    ap (λ (l : List Event). l ++ rest) is ∙ append_assoc old one rest ∙ ap (λ n. old ++ exchanges_from x (i + 1) n) left ∙ so_far

-- the same, with what was drawn for it
pub one_step : (old es all : List Event) (x y d i count : ℕ) → y ≡ next_state x → d ≡ drawn y → i < count
    → old ++ exchanges_from x (i + 1) (count - i) ≡ all → es ≡ old ++ exchange (kind_of d) (i + 1) (len_of d)
    → es ++ exchanges_from y (i + 1 + 1) (count - (i + 1)) ≡ all
one_step old es all x y d i count next is_drawn less so_far made =
    ap (λ s. es ++ exchanges_from s (i + 1 + 1) (count - (i + 1))) next
    ∙ one_made old es all x i count less so_far (made ∙ ap (λ d. old ++ exchange (kind_of d) (i + 1) (len_of d)) (is_drawn ∙ ap drawn next))

-- all are made
pub all_made : (es all : List Event) (x i count : ℕ) → count ≤ i → es ++ exchanges_from x (i + 1) (count - i) ≡ all → es ≡ all
unfolding exchanges_from
all_made es all x i count least so_far =
    let none : 0 ≡ count - i = omega arith in
    sym (append-nil es) ∙ ap (λ n. es ++ exchanges_from x (i + 1) n) none ∙ so_far
