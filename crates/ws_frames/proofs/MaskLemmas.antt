-- The mask, in parts and by lanes.
use Rattle.std.proofs.Common.{◌≡◌, ℕ, zero, suc, ◌+◌, ◌%◌, ◌<◌, ◌≤◌, List, [], ◌∷◌, ◌++◌, length, take, drop, get_or, refl, sym, ap, ◌∙◌, subst, arith, append_assoc, length-append, length-drop, drop-cons, drop-drop, set}
use Rattle.std.specs.Int.Bits.{bit_xor}
use lib.Lanes.{zip2, chunk, put_chunk}
use Rattle.std.proofs.lemmas.Simd.{put_chunk_is}
use Rattle.std.proofs.lemmas.List.{length-take-le, set_at, get_or-drop, append-nil}
use Rattle.std.proofs.Math.Seq.{take-append_seam, drop-append_seam, take-add, take-length, drop-length}
use Rattle.model_h1.specs.FrameText.{unmask}
use Rattle.ws_frames.specs.MaskLanes.{IsMaskedUpTo, lanes_of}

-- masked bytes are as many
pub length_unmask : (mask : List ℕ) (k : ℕ) (xs : List ℕ) → length (unmask mask k xs) ≡ length xs
unfolding unmask
length_unmask mask k [] = refl
length_unmask mask k (x ∷ xs) = ap suc (length_unmask mask (k + 1) xs)

-- a payload in two parts is masked part by part
pub unmask_append : (mask : List ℕ) (k : ℕ) (xs ys : List ℕ) → unmask mask k (xs ++ ys) ≡ unmask mask k xs ++ unmask mask (k + length xs) ys
unfolding unmask
unmask_append mask k [] ys = ap (λ (n : ℕ). unmask mask n ys) (omega arith)
unmask_append mask k (x ∷ xs) ys =
    let e : (k + 1) + length xs ≡ k + suc (length xs) = omega arith in
    let others : unmask mask (k + 1) (xs ++ ys) ≡ unmask mask (k + 1) xs ++ unmask mask (k + suc (length xs)) ys
    = subst (λ (n : ℕ). unmask mask (k + 1) (xs ++ ys) ≡ unmask mask (k + 1) xs ++ unmask mask n ys) e (unmask_append mask (k + 1) xs ys) in
    ap (λ (t : List ℕ). bit_xor x (get_or mask (k % 4) 0) ∷ t) others

-- only the place within the mask counts
pub unmask_congruent : (mask : List ℕ) (k j : ℕ) (xs : List ℕ) → k % 4 ≡ j % 4 → unmask mask k xs ≡ unmask mask j xs
unfolding unmask
unmask_congruent mask k j [] e = refl
unmask_congruent mask k j (x ∷ xs) e =
    let next : (k + 1) % 4 ≡ (j + 1) % 4 = omega (arith, e) in
    let others = unmask_congruent mask (k + 1) (j + 1) xs next in
    let here : bit_xor x (get_or mask (k % 4) 0) ≡ bit_xor x (get_or mask (j % 4) 0) = ap (λ (r : ℕ). bit_xor x (get_or mask r 0)) e in
    λ i. here i ∷ others i

-- the mask from the place k on, as often as n bytes take it
abbrev pub mask_run : List ℕ → ℕ → ℕ → List ℕ
mask_run mask k zero = []
mask_run mask k (suc n) = get_or mask (k % 4) 0 ∷ mask_run mask (k + 1) n

-- masking is done lane by lane
pub unmask_by_lanes : (mask : List ℕ) (k : ℕ) (xs : List ℕ) → unmask mask k xs ≡ zip2 bit_xor xs (mask_run mask k (length xs))
unfolding unmask
unmask_by_lanes mask k [] = refl
unmask_by_lanes mask k (x ∷ xs) = ap (λ (t : List ℕ). bit_xor x (get_or mask (k % 4) 0) ∷ t) (unmask_by_lanes mask (k + 1) xs)

-- eight times the mask is a run of 32
pub lanes_run : (mask : List ℕ) → length mask ≡ 4 → mask_run mask 0 32 ≡ lanes_of mask
lanes_run [] e = absurd (omega (arith, e))
lanes_run (a ∷ []) e = absurd (omega (arith, e))
lanes_run (a ∷ b ∷ []) e = absurd (omega (arith, e))
lanes_run (a ∷ b ∷ c ∷ []) e = absurd (omega (arith, e))
lanes_run (a ∷ b ∷ c ∷ d ∷ []) e = refl
lanes_run (a ∷ b ∷ c ∷ d ∷ x ∷ xs) e = absurd (omega (arith, e))

-- the mask once is a run of four
pub word_run : (mask : List ℕ) → length mask ≡ 4 → mask_run mask 0 4 ≡ mask
word_run [] e = absurd (omega (arith, e))
word_run (a ∷ []) e = absurd (omega (arith, e))
word_run (a ∷ b ∷ []) e = absurd (omega (arith, e))
word_run (a ∷ b ∷ c ∷ []) e = absurd (omega (arith, e))
word_run (a ∷ b ∷ c ∷ d ∷ []) e = refl
word_run (a ∷ b ∷ c ∷ d ∷ x ∷ xs) e = absurd (omega (arith, e))

-- bytes from a place that the mask divides are masked by as long a run of it
run_unmask : (mask run : List ℕ) (n at : ℕ) (xs : List ℕ) → mask_run mask 0 n ≡ run → at % 4 ≡ 0 → length xs ≡ n
    → zip2 bit_xor xs run ≡ unmask mask at xs
run_unmask mask run n at xs is even long =
    let as_long : mask_run mask 0 (length xs) ≡ run = ap (mask_run mask 0) long ∙ is in
    ap (zip2 bit_xor xs) (sym as_long) ∙ sym (unmask_by_lanes mask 0 xs) ∙ unmask_congruent mask 0 at xs (sym even)

-- n more bytes are masked behind those that are
pub masked_further : (mask all : List ℕ) (at n : ℕ) (before ys : List ℕ) → at + n ≤ length all
    → ys ≡ unmask mask at (take n (drop at all)) → before ≡ unmask mask 0 (take at all)
    → before ++ (ys ++ drop (at + n) all) ≡ unmask mask 0 (take (at + n) all) ++ drop (at + n) all
masked_further mask all at n before ys within here so_far =
    let parts : take (at + n) all ≡ take at all ++ take n (drop at all) = take-add at n all in
    let long : length (take at all) ≡ at = length-take-le at all (omega arith) in
    let there : unmask mask (0 + length (take at all)) (take n (drop at all)) ≡ ys
    = ap (λ (k : ℕ). unmask mask k (take n (drop at all))) (omega (arith, long)) ∙ sym here in
    let both : unmask mask 0 (take (at + n) all) ≡ before ++ ys
    = ap (unmask mask 0) parts ∙ unmask_append mask 0 (take at all) (take n (drop at all))
    ∙ ap (λ (t : List ℕ). unmask mask 0 (take at all) ++ t) there ∙ ap (λ (t : List ℕ). t ++ ys) (sym so_far) in
    sym (append_assoc before ys (drop (at + n) all)) ∙ ap (λ (t : List ℕ). t ++ drop (at + n) all) (sym both)

-- the parts of bytes that are masked so far
pub front_so_far : (mask all bytes : List ℕ) (at : ℕ) → IsMaskedUpTo mask all at bytes → take at bytes ≡ unmask mask 0 (take at all)
front_so_far mask all bytes at so =
    let long : length (unmask mask 0 (take at all)) ≡ at = omega (arith, length_unmask mask 0 (take at all), length-take-le at all so.within) in
    ap (take at) so.so_far ∙ ap (λ (n : ℕ). take n (unmask mask 0 (take at all) ++ drop at all)) (sym long) ∙ take-append_seam (unmask mask 0 (take at all)) (drop at all)

pub rest_so_far : (mask all bytes : List ℕ) (at : ℕ) → IsMaskedUpTo mask all at bytes → drop at bytes ≡ drop at all
rest_so_far mask all bytes at so =
    let long : length (unmask mask 0 (take at all)) ≡ at = omega (arith, length_unmask mask 0 (take at all), length-take-le at all so.within) in
    ap (drop at) so.so_far ∙ ap (λ (n : ℕ). drop n (unmask mask 0 (take at all) ++ drop at all)) (sym long) ∙ drop-append_seam (unmask mask 0 (take at all)) (drop at all)

pub length_so_far : (mask all bytes : List ℕ) (at : ℕ) → IsMaskedUpTo mask all at bytes → length bytes ≡ length all
length_so_far mask all bytes at so =
    ap length so.so_far ∙ omega (arith, length-append (unmask mask 0 (take at all)) (drop at all), length_unmask mask 0 (take at all), length-take-le at all so.within, length-drop at all, so.within)

-- a load of n bytes is masked and stored
pub chunk_masked : (mask run all bytes : List ℕ) (n at : ℕ) → at + n ≤ length bytes → mask_run mask 0 n ≡ run → at % 4 ≡ 0 → IsMaskedUpTo mask all at bytes
    → IsMaskedUpTo mask all (at + n) (put_chunk at bytes (zip2 bit_xor (chunk at n bytes) run))
chunk_masked mask run all bytes n at within is even so =
    let as_long = length_so_far mask all bytes at so in
    let inside : at + n ≤ length all = omega arith in
    let load : chunk at n bytes ≡ take n (drop at all) = ap (take n) (rest_so_far mask all bytes at so) in
    let long : length (take n (drop at all)) ≡ n = omega (arith, length-take-le n (drop at all) (omega (arith, length-drop at all))) in
    let ys = zip2 bit_xor (chunk at n bytes) run in
    let here : ys ≡ unmask mask at (take n (drop at all))
    = ap (λ (t : List ℕ). zip2 bit_xor t run) load ∙ run_unmask mask run n at (take n (drop at all)) is even long in
    let stored_long : length ys ≡ n = ap length here ∙ length_unmask mask at (take n (drop at all)) ∙ long in
    let behind : drop (length ys) (drop at bytes) ≡ drop (at + n) all
    = ap (λ (k : ℕ). drop k (drop at bytes)) stored_long ∙ ap (drop n) (rest_so_far mask all bytes at so) ∙ drop-drop n at all in
    let stored : put_chunk at bytes ys ≡ take at bytes ++ (ys ++ drop (at + n) all)
    = put_chunk_is at bytes ys (omega arith) ∙ ap (λ (t : List ℕ). take at bytes ++ (ys ++ t)) behind in
    record {
      within = inside;
      so_far = stored ∙ masked_further mask all at n (take at bytes) ys inside here (front_so_far mask all bytes at so);
    }

-- one more byte is masked
pub byte_masked : (mask all bytes : List ℕ) (at : ℕ) → at < length bytes → IsMaskedUpTo mask all at bytes
    → IsMaskedUpTo mask all (at + 1) (set bytes at (bit_xor (get_or bytes at 0) (get_or mask (at % 4) 0)))
unfolding unmask
byte_masked mask all bytes at within so =
    let as_long = length_so_far mask all bytes at so in
    let inside : at + 1 ≤ length all = omega arith in
    let before = unmask mask 0 (take at all) in
    let next : suc at ≡ at + 1 = omega arith in
    let rest : drop at all ≡ get_or all at 0 ∷ drop (at + 1) all = drop-cons all at 0 (omega arith) ∙ ap (λ (n : ℕ). get_or all at 0 ∷ drop n all) next in
    let parts : bytes ≡ before ++ get_or all at 0 ∷ drop (at + 1) all = so.so_far ∙ ap (λ (t : List ℕ). before ++ t) rest in
    let long : length before ≡ at = omega (arith, length_unmask mask 0 (take at all), length-take-le at all so.within) in
    let same : drop at bytes ≡ get_or all at 0 ∷ drop (at + 1) all = rest_so_far mask all bytes at so ∙ rest in
    let here_on : at ≡ at + 0 = omega arith in
    let byte : get_or bytes at 0 ≡ get_or all at 0
    = ap (λ (n : ℕ). get_or bytes n 0) here_on ∙ sym (get_or-drop at bytes 0 0) ∙ ap (λ (t : List ℕ). get_or t 0 0) same in
    let m = get_or mask (at % 4) 0 in
    let stored : set bytes at (bit_xor (get_or bytes at 0) m) ≡ before ++ bit_xor (get_or all at 0) m ∷ drop (at + 1) all
    = ap (λ (b : ℕ). set bytes at (bit_xor b m)) byte ∙ ap (λ (t : List ℕ). set t at (bit_xor (get_or all at 0) m)) parts
    ∙ set_at before (get_or all at 0) (drop (at + 1) all) (bit_xor (get_or all at 0) m) at long in
    let here : bit_xor (get_or all at 0) m ∷ [] ≡ unmask mask at (take 1 (drop at all)) = ap (λ (t : List ℕ). unmask mask at (take 1 t)) (sym rest) in
    record {
      within = inside;
      so_far = stored ∙ masked_further mask all at 1 before (bit_xor (get_or all at 0) m ∷ []) inside here refl;
    }

-- nothing is masked yet
pub none_masked : (mask all : List ℕ) → IsMaskedUpTo mask all 0 all
unfolding unmask
none_masked mask all = record { within = omega arith; so_far = refl }

-- all is masked
pub all_masked : (mask all bytes : List ℕ) (at : ℕ) → length bytes ≤ at → IsMaskedUpTo mask all at bytes → bytes ≡ unmask mask 0 all
all_masked mask all bytes at past so =
    let as_long = length_so_far mask all bytes at so in
    let whole : at ≡ length all = omega (arith, so.within) in
    let front : take at all ≡ all = ap (λ (n : ℕ). take n all) whole ∙ take-length all in
    let rest : drop at all ≡ [] = ap (λ (n : ℕ). drop n all) whole ∙ drop-length all in
    so.so_far ∙ ap (λ (t : List ℕ). unmask mask 0 t ++ drop at all) front ∙ ap (λ (t : List ℕ). unmask mask 0 all ++ t) rest ∙ append-nil (unmask mask 0 all)

-- the mask from another place on
pub unmask_turned : (mask turned : List ℕ) (from k : ℕ) (xs : List ℕ) → ((j : ℕ) → get_or turned (j % 4) 0 ≡ get_or mask ((from + j) % 4) 0)
    → unmask turned k xs ≡ unmask mask (from + k) xs
unfolding unmask
unmask_turned mask turned from k [] same = refl
unmask_turned mask turned from k (x ∷ xs) same =
    let others : unmask turned (k + 1) xs ≡ unmask mask ((from + k) + 1) xs
    = unmask_turned mask turned from (k + 1) xs same ∙ ap (λ (n : ℕ). unmask mask n xs) (omega arith) in
    let here : bit_xor x (get_or turned (k % 4) 0) ≡ bit_xor x (get_or mask ((from + k) % 4) 0) = ap (bit_xor x) (same k) in
    λ i. here i ∷ others i

-- the bytes of the mask from its place r on
abbrev pub turned_by : ℕ → List ℕ → List ℕ
turned_by r mask = get_or mask (r % 4) 0 ∷ get_or mask ((r + 1) % 4) 0 ∷ get_or mask ((r + 2) % 4) 0 ∷ get_or mask ((r + 3) % 4) 0 ∷ []

-- each of them is the mask's byte r places on
turned_at : (mask : List ℕ) (r i : ℕ) → i < 4 → get_or (turned_by r mask) i 0 ≡ get_or mask ((r + i) % 4) 0
turned_at mask r zero below =
    let e : r ≡ r + 0 = omega arith in
    ap (λ (n : ℕ). get_or mask (n % 4) 0) e
turned_at mask r (suc zero) below = refl
turned_at mask r (suc (suc zero)) below = refl
turned_at mask r (suc (suc (suc zero))) below = refl
turned_at mask r (suc (suc (suc (suc i)))) below = absurd (omega arith)

-- bytes from a place on are masked by the mask turned to it
pub turned_unmask : (mask : List ℕ) (r from : ℕ) (xs : List ℕ) → from % 4 ≡ r → unmask (turned_by r mask) 0 xs ≡ unmask mask from xs
turned_unmask mask r from xs e =
    let same : (j : ℕ) → get_or (turned_by r mask) (j % 4) 0 ≡ get_or mask ((from + j) % 4) 0
    = λ (j : ℕ). turned_at mask r (j % 4) (omega arith) ∙ ap (λ (n : ℕ). get_or mask n 0) (omega (arith, e)) in
    unmask_turned mask (turned_by r mask) from 0 xs same ∙ ap (λ (n : ℕ). unmask mask n xs) (omega arith)
