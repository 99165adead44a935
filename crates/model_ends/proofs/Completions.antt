-- Requests of which the newest may be under way, and the same where it has come to an end.
use Rattle.std.proofs.Common.{◌≡◌, ℕ, zero, suc, ◌-◌, ◌^◌, ◌<◌, ◌≤◌, Bool, true, false, eqb, List, [], ◌∷◌, ◌++◌, length, take, map, reverse, replicate, refl, sym, ap, ap₂, ◌∙◌, subst, arith, append-nil, append_assoc, length-append, le-leb, eqb-true, lit<, inl, inr}
use Rattle.std.specs.Prelude.{flat_map, nat_le, if◌then◌else◌}
use Rattle.std.specs.List.{AllByRecursion}
use Rattle.std.proofs.lemmas.Bool.{false≢true, cases_lt}
use Rattle.std.proofs.lemmas.List.{take_all, length-map, length-replicate, length-reverse}
use Rattle.std.proofs.lemmas.Grind.{flat_map-append, reverse_onto}
use Rattle.model_h1.specs.Answer.{BodySize, size_none, size_of, size_stream, Shape, shape_none, shape_length, shape_chunked, shape_raw}
use Rattle.model_h1.specs.AnswerText.{chunk_text, last_chunk}
use Rattle.model_h1.specs.Event.{incomplete}
use Rattle.model_h1.specs.Handed.{Item, item_bytes, item_end, item_fault, Handed, Begins}
use Rattle.model_client.specs.RequestText.{asked_shape, fits, joined, RequestGiven, given_request_text, body_sent, IsPlainGiven}
use Rattle.model_ends.specs.PlainExchange.{carried_by}
use Rattle.model_ends.specs.SentRequest.{SentRequest, sent_request, asked_text}
use Rattle.model_ends.specs.HandedBody.{IsStop, IsHandedBody}
use Rattle.model_ends.specs.AskedTrace.{AskedRequest, is_all, is_all_asked, carried_so_far, body_so_far, IsPlainAsked, IsServedOut, AreServedOut}
use Rattle.model_ends.proofs.AskedTexts.{text_so_far, texts, AllWhole, OthersWhole}
use Rattle.model_ends.proofs.Pulls.{joined_more}
use Rattle.model_ends.proofs.Served.{IsServedSo, AreServedSo, within_of}

-- how many bytes the newest piece has that completes it
abbrev pub lacking_of : Shape → List (List ℕ) → ℕ
lacking_of (shape_length n) pieces = n - length (joined pieces)
lacking_of _ pieces = 1

abbrev pub padding : ℕ → AskedRequest → List ℕ
padding pad a = replicate (lacking_of (asked_shape a.given.size) a.given.pieces) pad

-- the request, with one more piece where it is under way
abbrev pub completed : ℕ → AskedRequest → RequestGiven
completed pad a = if is_all_asked a then a.given else record a.given { pieces = a.given.pieces ++ padding pad a ∷ [] }

abbrev pub completions : ℕ → List AskedRequest → List RequestGiven
completions pad [] = []
completions pad (a ∷ rs) = completed pad a ∷ map (λ (r : AskedRequest). r.given) rs

-- ---- whole requests

whole_body : (s : Shape) (a : AskedRequest) → is_all s a ≡ true → body_so_far s a ≡ body_sent s a.given.pieces
whole_body shape_none a all = refl
whole_body shape_raw a all = refl
whole_body (shape_length n) a all = refl
whole_body shape_chunked a all = ap (λ (t : Bool). flat_map chunk_text a.given.pieces ++ (if t then last_chunk else [])) all

whole_length : (n : ℕ) (a : AskedRequest) → is_all (asked_shape (size_of n)) a ≡ true → length (joined a.given.pieces) ≤ n → length (joined a.given.pieces) ≡ n
whole_length n a all within = by_test (eqb n 0) refl all
  where
    by_test : (t : Bool) → eqb n 0 ≡ t → is_all (if t then shape_none else shape_length n) a ≡ true → length (joined a.given.pieces) ≡ n
    by_test true e all = omega (arith, within, eqb-true n 0 e)
    by_test false e all = omega (arith, within, within_of n (length (joined a.given.pieces)) all)

whole_given : (hold_size : ℕ) (a : AskedRequest) → IsPlainAsked hold_size a → is_all_asked a ≡ true → IsPlainGiven hold_size a.given
whole_given hold_size a x all = record {
  head = x.head;
  fits = x.fits;
  came = λ n is.
      whole_length n a (subst (λ (z : BodySize). is_all (asked_shape z) a ≡ true) is all) (x.within n is);
  short = x.short;
  few = x.few;
  held = x.held;
}

-- ---- one under way

-- what is missing of its text, and what it carries then
module _ (pad : ℕ) (a : AskedRequest) where
  abbrev more_of : Shape → List ℕ
  more_of s = replicate (lacking_of s a.given.pieces) pad

  pub record IsGoingOn (s : Shape) : Type 0 where
    pub missing : List ℕ
    pub text : body_so_far s a ++ missing ≡ body_sent s (a.given.pieces ++ more_of s ∷ [])
    pub carries : carried_by s (a.given.pieces ++ more_of s ∷ []) ≡ carried_by s a.given.pieces ++ more_of s
    pub first : (more : List ℕ) × (more_of s ≡ pad ∷ more)

  some_more : (n : ℕ) → 0 < n → (more : List ℕ) × (replicate n pad ≡ pad ∷ more)
  some_more zero some = absurd (omega (arith, some))
  some_more (suc n) some = (replicate n pad, refl)

  going_on : (s : Shape) → is_all s a ≡ false → IsGoingOn s
  going_on shape_none all = absurd (false≢true (sym all))
  going_on shape_raw all = absurd (false≢true (sym all))
  going_on (shape_length n) all =
      let bytes = joined a.given.pieces in
      let short : length bytes < n = late n (length bytes) all in
      let r = replicate (n - length bytes) pad in
      let size : length (bytes ++ r) ≤ n = omega (arith, short, length-append bytes r, length-replicate (n - length bytes) pad) in
      let whole : take n (joined (a.given.pieces ++ r ∷ [])) ≡ bytes ++ r = ap (take n) (joined_more a.given.pieces r) ∙ take_all n (bytes ++ r) size in
      let part : take n bytes ≡ bytes = take_all n bytes (omega (arith, short)) in
      record {
        missing = r;
        text = ap (λ (l : List ℕ). l ++ r) part ∙ sym whole;
        carries = whole ∙ sym (ap (λ (l : List ℕ). l ++ r) part);
        first = some_more (n - length bytes) (omega (arith, short));
      }
    where
      late : (n m : ℕ) → nat_le n m ≡ false → m < n
      late n m e = elim (cases_lt m n) [ inl short ↦ short | inr long ↦ absurd (false≢true (sym e ∙ le-leb n m long)) ]
  going_on shape_chunked all =
      let text = flat_map chunk_text a.given.pieces in
      let r = replicate 1 pad in
      let pieces : flat_map chunk_text (a.given.pieces ++ r ∷ []) ≡ text ++ chunk_text r =
      flat_map-append chunk_text a.given.pieces (r ∷ []) ∙ ap (λ (l : List ℕ). text ++ l) (append-nil (chunk_text r)) in
      record {
        missing = chunk_text r ++ last_chunk;
        text =
            ap (λ (t : Bool). (text ++ (if t then last_chunk else [])) ++ (chunk_text r ++ last_chunk)) all
            ∙ ap (λ (l : List ℕ). l ++ (chunk_text r ++ last_chunk)) (append-nil text) ∙ sym (append_assoc text (chunk_text r) last_chunk)
            ∙ ap (λ (l : List ℕ). l ++ last_chunk) (sym pieces);
        carries = joined_more a.given.pieces r;
        first = ([], refl);
      }

short_more : (pieces : List (List ℕ)) (piece : List ℕ) → AllByRecursion (λ (p : List ℕ). length p < 2 ^ 64) pieces → length piece < 2 ^ 64
    → AllByRecursion (λ (p : List ℕ). length p < 2 ^ 64) (pieces ++ piece ∷ [])
short_more [] piece all short = (short, tt)
short_more (p ∷ pieces) piece all short = (all.0, short_more pieces piece all.1 short)

short_padding : (pad : ℕ) (a : AskedRequest) (size : BodySize) → fits size → length (replicate (lacking_of (asked_shape size) a.given.pieces) pad) < 2 ^ 64
short_padding pad a size_none x = lit< tt
short_padding pad a size_stream x = lit< tt
short_padding pad a (size_of n) x = by_test (eqb n 0)
  where
    by_test : (t : Bool) → length (replicate (lacking_of (if t then shape_none else shape_length n) a.given.pieces) pad) < 2 ^ 64
    by_test true = lit< tt
    by_test false = omega (arith, x, length-replicate (n - length (joined a.given.pieces)) pad)

going_length : (pad n : ℕ) (a : AskedRequest) → is_all (asked_shape (size_of n)) a ≡ false
    → length (joined (a.given.pieces ++ replicate (lacking_of (asked_shape (size_of n)) a.given.pieces) pad ∷ [])) ≡ n
going_length pad n a all = by_test (eqb n 0) all
  where
    late : (n m : ℕ) → nat_le n m ≡ false → m < n
    late n m e = elim (cases_lt m n) [ inl short ↦ short | inr long ↦ absurd (false≢true (sym e ∙ le-leb n m long)) ]

    by_test : (t : Bool) → is_all (if t then shape_none else shape_length n) a ≡ false
        → length (joined (a.given.pieces ++ replicate (lacking_of (if t then shape_none else shape_length n) a.given.pieces) pad ∷ [])) ≡ n
    by_test true all = absurd (false≢true (sym all))
    by_test false all =
        let bytes = joined a.given.pieces in
        omega (
          arith,
          late n (length bytes) all,
          ap length (joined_more a.given.pieces (replicate (n - length bytes) pad)),
          length-append bytes (replicate (n - length bytes) pad),
          length-replicate (n - length bytes) pad,
        )

going_given : (pad hold_size : ℕ) (a : AskedRequest) → IsPlainAsked hold_size a → is_all_asked a ≡ false
    → IsPlainGiven hold_size (record a.given { pieces = a.given.pieces ++ padding pad a ∷ [] })
going_given pad hold_size a x all = record {
  head = x.head;
  fits = x.fits;
  came = λ n is.
      subst (λ (z : BodySize). length (joined (a.given.pieces ++ replicate (lacking_of (asked_shape z) a.given.pieces) pad ∷ [])) ≡ n) (sym is)
      (going_length pad n a (subst (λ (z : BodySize). is_all (asked_shape z) a ≡ false) is all));
  short = short_more a.given.pieces (padding pad a) x.short (short_padding pad a a.given.size x.fits);
  few = x.few;
  held = x.held;
}

-- ---- the newest

pub completed_given : (pad hold_size : ℕ) (a : AskedRequest) → IsPlainAsked hold_size a → IsPlainGiven hold_size (completed pad a)
completed_given pad hold_size a x = by_test (is_all_asked a) refl
  where
    by_test : (t : Bool) → is_all_asked a ≡ t
        → IsPlainGiven hold_size (if t then a.given else record a.given { pieces = a.given.pieces ++ padding pad a ∷ [] })
    by_test true all = whole_given hold_size a x all
    by_test false all = going_given pad hold_size a x all

-- the text of the newest so far begins that of the completed one
pub newest_text : (pad : ℕ) (a : AskedRequest)
    → (more : List ℕ) × (text_so_far a ++ more ≡ (sent_request (completed pad a)).head ++ (sent_request (completed pad a)).body)
    × (is_all_asked a ≡ true → more ≡ [])
newest_text pad a = by_test (is_all_asked a) refl
  where
    by_test : (t : Bool) → is_all_asked a ≡ t
        → (more : List ℕ) × (text_so_far a ++ more ≡ (sent_request (if t then a.given else record a.given { pieces = a.given.pieces ++ padding pad a ∷ [] })).head
        ++ (sent_request (if t then a.given else record a.given { pieces = a.given.pieces ++ padding pad a ∷ [] })).body)
        × (is_all_asked a ≡ true → more ≡ [])
    by_test true all = (
      [],
      append-nil (text_so_far a) ∙ ap (λ (l : List ℕ). given_request_text a.given ++ l) (whole_body (asked_shape a.given.size) a all),
      λ whole. refl,
    )
    by_test false all =
        let g = going_on pad a (asked_shape a.given.size) all in (
          g.missing,
          append_assoc (given_request_text a.given) (body_so_far (asked_shape a.given.size) a) g.missing
              ∙ ap (λ (l : List ℕ). given_request_text a.given ++ l) g.text,
          λ whole. absurd (false≢true (sym all ∙ whole)),
        )

-- ---- all texts

asked_last : (gs : List RequestGiven) (g : RequestGiven) → asked_text (map sent_request (gs ++ g ∷ [])) ≡ asked_text (map sent_request gs) ++ ((sent_request g).head ++ (sent_request g).body)
asked_last [] g = ap (λ (l : List ℕ). (sent_request g).head ++ l) (append-nil (sent_request g).body)
asked_last (x ∷ gs) g =
    let s = sent_request x in
    let last = (sent_request g).head ++ (sent_request g).body in
    ap (λ (l : List ℕ). s.head ++ (s.body ++ l)) (asked_last gs g)
    ∙ ap (λ (l : List ℕ). s.head ++ l) (sym (append_assoc s.body (asked_text (map sent_request gs)) last))
    ∙ sym (append_assoc s.head (s.body ++ asked_text (map sent_request gs)) last)

pub turned : {A : Type 0} (x : A) (xs : List A) → reverse (x ∷ xs) ≡ reverse xs ++ x ∷ []
turned x xs = reverse_onto xs x []

-- the given requests, the oldest first
abbrev pub given_of : List AskedRequest → List RequestGiven
given_of rs = map (λ (r : AskedRequest). r.given) rs

turned_given : (rs : List AskedRequest) → reverse (given_of rs) ≡ given_of (reverse rs)
turned_given [] = refl
turned_given (r ∷ rs) =
    turned r.given (given_of rs) ∙ ap (λ (l : List RequestGiven). l ++ r.given ∷ []) (turned_given rs)
    ∙ sym (ap given_of (turned r rs) ∙ map_more (reverse rs) r)
  where
    map_more : (xs : List AskedRequest) (x : AskedRequest) → given_of (xs ++ x ∷ []) ≡ given_of xs ++ x.given ∷ []
    map_more [] x = refl
    map_more (y ∷ xs) x = ap (λ (l : List RequestGiven). y.given ∷ l) (map_more xs x)

whole_texts : (rs : List AskedRequest) → AllWhole rs → texts rs ≡ asked_text (map sent_request (reverse (given_of rs)))
whole_texts [] all = refl
whole_texts (a ∷ rs) all =
    ap₂ (λ (l m : List ℕ). l ++ m) (whole_texts rs all.1)
    (ap (λ (l : List ℕ). given_request_text a.given ++ l) (whole_body (asked_shape a.given.size) a all.0))
    ∙ sym (ap (λ (l : List RequestGiven). asked_text (map sent_request l)) (turned a.given (given_of rs)) ∙ asked_last (reverse (given_of rs)) a.given)

-- what is missing is no more than the body of the last
abbrev pub Fits : List ℕ → List SentRequest → Type 0
Fits more [] = more ≡ []
Fits more (s ∷ []) = length more ≤ length s.body
Fits more (s ∷ t ∷ ss) = Fits more (t ∷ ss)

fits_last : (more : List ℕ) (gs : List RequestGiven) (g : RequestGiven) → length more ≤ length (sent_request g).body → Fits more (map sent_request (gs ++ g ∷ []))
fits_last more [] g x = x
fits_last more (y ∷ []) g x = x
fits_last more (y ∷ z ∷ gs) g x = fits_last more (z ∷ gs) g x

pub newest_head : (pad : ℕ) (a : AskedRequest) → (sent_request (completed pad a)).head ≡ given_request_text a.given
newest_head pad a = by_test (is_all_asked a)
  where
    by_test : (t : Bool)
        → (sent_request (if t then a.given else record a.given { pieces = a.given.pieces ++ padding pad a ∷ [] })).head ≡ given_request_text a.given
    by_test true = refl
    by_test false = refl

pub newest_fits : (pad : ℕ) (a : AskedRequest) → length (newest_text pad a).0 ≤ length (sent_request (completed pad a)).body
newest_fits pad a =
    let n = newest_text pad a in
    let s = sent_request (completed pad a) in
    omega (
      arith,
      ap length n.1,
      length-append (text_so_far a) n.0,
      length-append (given_request_text a.given) (body_so_far (asked_shape a.given.size) a),
      length-append s.head s.body,
      ap length (newest_head pad a),
    )

-- the text of requests begins that of their completions, and lacks at most a body
pub texts_begin : (pad : ℕ) (rs : List AskedRequest) → OthersWhole rs
    → (more : List ℕ) × (texts rs ++ more ≡ asked_text (map sent_request (reverse (completions pad rs)))) × Fits more (map sent_request (reverse (completions pad rs)))
texts_begin pad [] all = ([], refl, refl)
texts_begin pad (a ∷ rs) all =
    let n = newest_text pad a in
    let order = turned (completed pad a) (given_of rs) in (
      n.0,
      append_assoc (texts rs) (text_so_far a) n.0 ∙ ap₂ (λ (l m : List ℕ). l ++ m) (whole_texts rs all) n.1
          ∙ sym (ap (λ (l : List RequestGiven). asked_text (map sent_request l)) order ∙ asked_last (reverse (given_of rs)) (completed pad a)),
      subst (λ (l : List RequestGiven). Fits n.0 (map sent_request l)) (sym order)
          (fits_last n.0 (reverse (given_of rs)) (completed pad a) (newest_fits pad a)),
    )

pub newest_begins : (pad : ℕ) (a : AskedRequest) (rs : List AskedRequest) → AllWhole rs
    → texts (a ∷ rs) ++ (newest_text pad a).0 ≡ asked_text (map sent_request (reverse (completions pad (a ∷ rs))))
unfolding newest_text texts_begin
newest_begins pad a rs all = (texts_begin pad (a ∷ rs) all).1

-- there are as many
pub completions_length : (pad : ℕ) (rs : List AskedRequest) → length (map sent_request (reverse (completions pad rs))) ≡ length rs
completions_length pad rs = omega (arith, length-map (reverse (completions pad rs)) sent_request, length-reverse (completions pad rs), by_list rs)
  where
    by_list : (rs : List AskedRequest) → length (completions pad rs) ≡ length rs
    by_list [] = refl
    by_list (a ∷ rs) = omega (arith, length-map rs (λ (r : AskedRequest). r.given))

-- ---- all are plain

plain_more : (hold_size : ℕ) (gs : List RequestGiven) (g : RequestGiven) → AllByRecursion (IsPlainGiven hold_size) gs → IsPlainGiven hold_size g
    → AllByRecursion (IsPlainGiven hold_size) (gs ++ g ∷ [])
plain_more hold_size [] g all x = (x, tt)
plain_more hold_size (y ∷ gs) g all x = (all.0, plain_more hold_size gs g all.1 x)

plain_whole : (hold_size : ℕ) (rs : List AskedRequest) → AllByRecursion (IsPlainAsked hold_size) rs → AllWhole rs
    → AllByRecursion (IsPlainGiven hold_size) (reverse (given_of rs))
plain_whole hold_size [] plain all = tt
plain_whole hold_size (a ∷ rs) plain all =
    subst (AllByRecursion (IsPlainGiven hold_size)) (sym (turned a.given (given_of rs)))
    (plain_more hold_size (reverse (given_of rs)) a.given (plain_whole hold_size rs plain.1 all.1) (whole_given hold_size a plain.0 all.0))

pub plain_completions : (pad hold_size : ℕ) (rs : List AskedRequest) → AllByRecursion (IsPlainAsked hold_size) rs → OthersWhole rs
    → AllByRecursion (IsPlainGiven hold_size) (reverse (completions pad rs))
plain_completions pad hold_size [] plain all = tt
plain_completions pad hold_size (a ∷ rs) plain all =
    subst (AllByRecursion (IsPlainGiven hold_size)) (sym (turned (completed pad a) (given_of rs)))
    (plain_more hold_size (reverse (given_of rs)) (completed pad a) (plain_whole hold_size rs plain.1 all) (completed_given pad hold_size a plain.0))

-- ---- what was handed out of both

-- no piece stands where a body stops
no_piece : (e w : Bool) (bytes piece : List ℕ) (pieces : List (List ℕ)) (last : List Item) → IsStop e w bytes pieces (item_bytes piece ∷ last) → ⊥
no_piece e w bytes piece pieces last x = x

-- items are cut into pieces and a stop in one way
decompose : (e w : Bool) (b c : List ℕ) (p q r t : List (List ℕ)) (l m : List Item) → IsStop e w b r l → IsStop e w c t m
    → map item_bytes p ++ l ≡ map item_bytes q ++ m → (p ≡ q) × (l ≡ m)
decompose e w b c [] [] r t l m x y is = (refl, is)
decompose e w b c [] (piece ∷ q) r t l m x y is = absurd (no_piece e w b piece r (map item_bytes q ++ m) (subst (λ (k : List Item). IsStop e w b r k) is x))
decompose e w b c (piece ∷ p) [] r t l m x y is = absurd (no_piece e w c piece t (map item_bytes p ++ l) (subst (λ (k : List Item). IsStop e w c t k) (sym is) y))
decompose e w b c (piece ∷ p) (piece' ∷ q) r t l m x y is =
    let first : piece ≡ piece' = cc in
    let others : map item_bytes p ++ l ≡ map item_bytes q ++ m = cc in
    let d = decompose e w b c p q r t l m x y others in
    (ap₂ (λ (h : List ℕ) (k : List (List ℕ)). h ∷ k) first d.0, d.1)

-- what begins with two texts that differ behind a front begins with the front
begins_common : (x a more more' : List ℕ) → Begins x (a ++ 0 ∷ more) → Begins x (a ++ 1 ∷ more') → Begins x a
begins_common [] a more more' b c = (a, refl)
begins_common (y ∷ x) [] more more' b c =
    let zero_is : ◌≡◌ {A = ℕ} 0 y = let is = b.1 in cc in
    let one_is : ◌≡◌ {A = ℕ} 1 y = let is = c.1 in cc in
    absurd (omega (arith, zero_is, one_is))
begins_common (y ∷ x) (z ∷ a) more more' b c =
    let first : z ≡ y = let is = b.1 in cc in
    let others : a ++ 0 ∷ more ≡ x ++ b.0 = let is = b.1 in cc in
    let others' : a ++ 1 ∷ more' ≡ x ++ c.0 = let is = c.1 in cc in
    let r = begins_common x a more more' (b.0, others) (c.0, others') in
    (r.0, ap₂ (λ (h : ℕ) (l : List ℕ). h ∷ l) first r.1)

differs : (a more more' : List ℕ) → a ++ 0 ∷ more ≡ a ++ 1 ∷ more' → ⊥
differs [] more more' is = let no : ◌≡◌ {A = ℕ} 0 1 = cc in absurd (omega (arith, no))
differs (x ∷ a) more more' is = let others : a ++ 0 ∷ more ≡ a ++ 1 ∷ more' = cc in differs a more more' others

-- of a body under way no end is handed out
open_stop : (e : Bool) (a more more' : List ℕ) (pieces : List (List ℕ)) (last : List Item) → IsStop e true (a ++ 0 ∷ more) pieces last
    → IsStop e true (a ++ 1 ∷ more') pieces last → IsStop e false a pieces last
open_stop e a more more' pieces [] x y = tt
open_stop e a more more' pieces (item_end ∷ []) x y = absurd (differs a more more' (sym x.1 ∙ y.1))
open_stop e a more more' pieces (item_fault incomplete ∷ []) x y = x
open_stop e a more more' pieces _ x y = x

open_body : (e : Bool) (a more more' : List ℕ) (items : List Item) → IsHandedBody e true (a ++ 0 ∷ more) items → IsHandedBody e true (a ++ 1 ∷ more') items
    → IsHandedBody e false a items
open_body e a more more' items x y =
    let d = decompose e true (a ++ 0 ∷ more) (a ++ 1 ∷ more') x.pieces y.pieces x.pieces y.pieces x.last y.last x.stops y.stops (sym x.are ∙ y.are) in
    record {
      pieces = x.pieces;
      last = x.last;
      are = x.are;
      some = x.some;
      begins = begins_common (joined x.pieces) a more more' x.begins (subst (λ (p : List (List ℕ)). Begins (joined p) (a ++ 1 ∷ more')) (sym d.0) y.begins);
      stops = open_stop e a more more' x.pieces x.last x.stops
          (subst (λ (l : List Item). IsStop e true (a ++ 1 ∷ more') x.pieces l) (sym d.1)
          (subst (λ (p : List (List ℕ)). IsStop e true (a ++ 1 ∷ more') p y.last) (sym d.0) y.stops));
    }

-- one that is whole
served_whole : (e : Bool) (h : Handed) (a : AskedRequest) → is_all_asked a ≡ true → IsServedSo e h (sent_request a.given) → IsServedOut e h a
served_whole e h a all x =
    record { reading = x.reading; body = subst (λ (t : Bool). IsHandedBody e t (carried_so_far a) h.items) (sym all) x.body }

served_newest : (e : Bool) (h : Handed) (a : AskedRequest) → IsServedSo e h (sent_request (completed 0 a)) → IsServedSo e h (sent_request (completed 1 a))
    → IsServedOut e h a
served_newest e h a x y = by_test (is_all_asked a) refl x y
  where
    by_test : (t : Bool) → is_all_asked a ≡ t
        → IsServedSo e h (sent_request (if t then a.given else record a.given { pieces = a.given.pieces ++ padding 0 a ∷ [] }))
        → IsServedSo e h (sent_request (if t then a.given else record a.given { pieces = a.given.pieces ++ padding 1 a ∷ [] })) → IsServedOut e h a
    by_test true all x y = served_whole e h a all x
    by_test false all x y =
        let g = going_on 0 a (asked_shape a.given.size) all in
        let k = going_on 1 a (asked_shape a.given.size) all in
        let zeros = g.carries ∙ ap (λ (l : List ℕ). carried_so_far a ++ l) g.first.1 in
        let ones = k.carries ∙ ap (λ (l : List ℕ). carried_so_far a ++ l) k.first.1 in
        record {
          reading = x.reading;
          body = subst (λ (t : Bool). IsHandedBody e t (carried_so_far a) h.items) (sym all)
              (open_body e (carried_so_far a) g.first.0 k.first.0 h.items
              (subst (λ (l : List ℕ). IsHandedBody e true l h.items) zeros x.body) (subst (λ (l : List ℕ). IsHandedBody e true l h.items) ones y.body));
        }

served_both : (e : Bool) (hs : List Handed) (os : List AskedRequest) (a : AskedRequest) → AllWhole os
    → AreServedSo e hs (map sent_request (given_of os ++ completed 0 a ∷ [])) → AreServedSo e hs (map sent_request (given_of os ++ completed 1 a ∷ []))
    → AreServedOut e hs (os ++ a ∷ [])
served_both e [] os a all x y = tt
served_both e (h ∷ []) [] a all x y = (served_newest e h a x.0 y.0, tt)
served_both e (h ∷ second ∷ others) [] a all x y = absurd x.1
served_both e (h ∷ hs) (o ∷ os) a all x y = (served_whole e h o all.0 x.0, served_both e hs os a all.1 x.1 y.1)

whole_more : (os : List AskedRequest) (a : AskedRequest) → AllWhole os → is_all_asked a ≡ true → AllWhole (os ++ a ∷ [])
whole_more [] a all x = (x, tt)
whole_more (o ∷ os) a all x = (all.0, whole_more os a all.1 x)

whole_turned : (rs : List AskedRequest) → AllWhole rs → AllWhole (reverse rs)
whole_turned [] all = tt
whole_turned (a ∷ rs) all = subst AllWhole (sym (turned a rs)) (whole_more (reverse rs) a (whole_turned rs all.1) all.0)

-- what was handed out of requests however the newest is completed is handed out of what was sent of them
pub served_so_far : (e : Bool) (hs : List Handed) (rs : List AskedRequest) → OthersWhole rs
    → AreServedSo e hs (map sent_request (reverse (completions 0 rs))) → AreServedSo e hs (map sent_request (reverse (completions 1 rs)))
    → AreServedOut e hs (reverse rs)
served_so_far e [] rs all x y = tt
served_so_far e (h ∷ hs) [] all x y = absurd x
served_so_far e (h ∷ hs) (a ∷ rs) all x y =
    let order : (pad : ℕ) → reverse (completions pad (a ∷ rs)) ≡ given_of (reverse rs) ++ completed pad a ∷ [] =
    λ pad. turned (completed pad a) (given_of rs) ∙ ap (λ (l : List RequestGiven). l ++ completed pad a ∷ []) (turned_given rs) in
    subst (AreServedOut e (h ∷ hs)) (sym (turned a rs))
    (served_both e (h ∷ hs) (reverse rs) a (whole_turned rs all)
    (subst (λ (l : List RequestGiven). AreServedSo e (h ∷ hs) (map sent_request l)) (order 0) x)
    (subst (λ (l : List RequestGiven). AreServedSo e (h ∷ hs) (map sent_request l)) (order 1) y))
