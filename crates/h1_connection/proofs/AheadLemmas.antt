-- The heads that stand ahead, by the bytes that were counted.
use Rattle.std.proofs.Common.{◌≡◌, ℕ, zero, suc, ◌-◌, ◌<◌, ◌≤◌, Bool, true, false, List, [], ◌∷◌, ◌++◌, length, take, drop, slice_range, inl, refl, sym, ap, ◌∙◌, subst, arith, append_assoc, length-drop}
use Rattle.std.specs.Prelude.{if◌then◌else◌}
use Rattle.std.proofs.lemmas.List.{take-append-le, drop-append-le, take-append-drop, length-take}
use Rattle.httparse.specs.Grammar.{print_end}
use Rattle.httparse.proofs.RunLemmas.{length-slice_range}
use Rattle.model_h1.specs.HeadPiece.{AreBlankLines, EndsBlank, IsHeadPiece, HasNoHeadPiece}
use Rattle.model_h1.specs.Request.{Reading}
use Rattle.model_h1.specs.RequestHead.{IsReading, IsReadingWithin}
use Rattle.model_h1.proofs.HeadPieceLemmas.{head_piece_append, head_piece_unique, slice_range-append}
use Rattle.model_h1.proofs.ReadingDecisions.{reading_of}
use Rattle.model_h1.proofs.ReadingLemmas.{reading_unique}
use Rattle.model_state.specs.Ahead.{is_bodiless, AreAhead}
use Rattle.h1_decoder.specs.HeadScan.{AnswersScan}
use Rattle.h1_decoder.specs.declared.scan.HeadScan.{HeadScan}
use Rattle.h1_decoder.specs.declared.scan.HeadScan.TheVariants.{Open, Piece}
use Rattle.h1_connection.specs.Ahead.{read_as, counted_from, heads_in}
use Rattle.h1_connection.specs.Scan.{scan_of}
use Rattle.h1_connection.specs.Incoming.{Incoming, incoming, IsSearched}
use Rattle.h1_connection.specs.declared.connection.head_search.Search.{Search}
use Rattle.h1_connection.proofs.InputLemmas.{scan_is, cut_head, first_bytes}
use Rattle.h1_connection.proofs.ScanLemmas.{scan_answers}

-- ---- the number

pub heads_zero : (bytes : List ℕ) → heads_in 0 bytes ≡ 0
unfolding heads_in
heads_zero bytes = refl

heads_suc : (limit : ℕ) (bytes : List ℕ) → heads_in (suc limit) bytes ≡ counted_from bytes (scan_of bytes) (λ rest. heads_in limit rest)
unfolding heads_in
heads_suc limit bytes = refl

-- where the search finds this
heads_at : (limit : ℕ) (bytes : List ℕ) (found : HeadScan) → found ≡ scan_of bytes → heads_in (suc limit) bytes ≡ counted_from bytes found (λ rest. heads_in limit rest)
heads_at limit bytes found is = heads_suc limit bytes ∙ ap (λ (p : HeadScan). counted_from bytes p (λ rest. heads_in limit rest)) (sym is)

-- no head, none counted
pub heads_none : (limit : ℕ) (bytes : List ℕ) → HasNoHeadPiece bytes → heads_in limit bytes ≡ 0
heads_none zero bytes none = heads_zero bytes
heads_none (suc limit) bytes none = heads_at limit bytes Open (scan_is bytes Open none)

-- a head that is read so
abbrev pub with_behind : ℕ → Bool → List ℕ → ℕ
with_behind limit bodiless rest = suc (if bodiless then heads_in limit rest else 0)

pub heads_one : (limit : ℕ) (bytes : List ℕ) (start end : ℕ) (what : Reading) → IsHeadPiece bytes start end → IsReading (slice_range bytes start end) what
    → heads_in (suc limit) bytes ≡ with_behind limit (is_bodiless what) (drop end bytes)
heads_one limit bytes start end what here reads =
    let same : read_as (slice_range bytes start end) ≡ what =
    reading_unique (slice_range bytes start end) (read_as (slice_range bytes start end)) what (reading_of (slice_range bytes start end)).1 reads in
    heads_at limit bytes (Piece start end) (scan_is bytes (Piece start end) here) ∙ ap (λ (r : Reading). with_behind limit (is_bodiless r) (drop end bytes)) same

pub one_some : (limit : ℕ) (bytes : List ℕ) (start end : ℕ) → IsHeadPiece bytes start end → 0 < limit → 0 < heads_in limit bytes
one_some zero bytes start end here some = absurd (omega (arith, some))
one_some (suc limit) bytes start end here some =
    let one = heads_one limit bytes start end (read_as (slice_range bytes start end)) here (reading_of (slice_range bytes start end)).1 in
    omega (arith, one)

-- where one may be counted
pub one_bodied : (limit : ℕ) (bytes : List ℕ) (start end : ℕ) (what : Reading) → ¬ (limit ≡ 0) → IsHeadPiece bytes start end → IsReading (slice_range bytes start end) what
    → is_bodiless what ≡ false → heads_in limit bytes ≡ 1
one_bodied zero bytes start end what may here reads body = absurd (may refl)
one_bodied (suc limit) bytes start end what may here reads body =
    heads_one limit bytes start end what here reads ∙ ap (λ (b : Bool). with_behind limit b (drop end bytes)) body

pub one_more : (limit : ℕ) (bytes : List ℕ) (start end : ℕ) (what : Reading) → ¬ (limit ≡ 0) → IsHeadPiece bytes start end → IsReading (slice_range bytes start end) what
    → is_bodiless what ≡ true → heads_in limit bytes ≡ suc (heads_in (limit - 1) (drop end bytes))
one_more zero bytes start end what may here reads bare = absurd (may refl)
one_more (suc limit) bytes start end what may here reads bare =
    let less : limit ≡ suc limit - 1 = omega arith in
    heads_one limit bytes start end what here reads ∙ ap (λ (b : Bool). with_behind limit b (drop end bytes)) bare
    ∙ ap (λ (n : ℕ). suc (heads_in n (drop end bytes))) less

-- where a scan finds none
pub none_found : (bytes : List ℕ) (found : HeadScan) → AnswersScan bytes found → ((start end : ℕ) → ¬ (found ≡ Piece start end)) → HasNoHeadPiece bytes
none_found bytes Open answer none = answer
none_found bytes (Piece start end) answer none = absurd (none start end refl)

-- at most as many as may be
cond_within : (b : Bool) (m n : ℕ) → m ≤ n → (if b then m else 0) ≤ n
cond_within true m n fits = fits
cond_within false m n fits = omega arith

counted_within : (limit : ℕ) (bytes : List ℕ) (found : HeadScan) (behind : List ℕ → ℕ) → ((rest : List ℕ) → behind rest ≤ limit) → counted_from bytes found behind ≤ suc limit
counted_within limit bytes Open behind fits = omega arith
counted_within limit bytes (Piece start end) behind fits =
    let less = cond_within (is_bodiless (read_as (slice_range bytes start end))) (behind (drop end bytes)) limit (fits (drop end bytes)) in
    omega (arith, less)

pub heads_within : (limit : ℕ) (bytes : List ℕ) → heads_in limit bytes ≤ limit
heads_within zero bytes = omega (arith, heads_zero bytes)
heads_within (suc limit) bytes = omega (arith, heads_suc limit bytes, counted_within limit bytes (scan_of bytes) (λ rest. heads_in limit rest) (λ rest. heads_within limit rest))

-- ---- by the readings

-- There are as many readings, and they are those of the heads that may follow.
pub record AreCounted (limit : ℕ) (bodiless : Bool) (bytes : List ℕ) (n : ℕ) : Type 0 where
  pub readings : List Reading
  pub count : n ≡ length readings
  pub are : (hold : ℕ) → length bytes ≤ hold → AreAhead hold limit bodiless bytes readings

-- a piece that fits is read so within a size
within_size : (hold : ℕ) (bytes : List ℕ) (start end : ℕ) (what : Reading) → IsHeadPiece bytes start end → IsReading (slice_range bytes start end) what → length bytes ≤ hold
    → IsReadingWithin hold (slice_range bytes start end) what
within_size hold bytes start end what here reads fits =
    inl (omega (arith, length-slice_range bytes start end here.ordered here.in_range, here.in_range, fits), reads)

-- behind one that has a body there is none
pub none_behind : (limit : ℕ) (bytes : List ℕ) → AreCounted limit false bytes 0
none_behind zero bytes = record { readings = []; count = refl; are = λ hold fits. refl }
none_behind (suc limit) bytes = record { readings = []; count = refl; are = λ hold fits. refl }

behind_read : (limit : ℕ) (bodiless : Bool) (rest : List ℕ) → AreCounted limit true rest (heads_in limit rest) → AreCounted limit bodiless rest (if bodiless then heads_in limit rest else 0)
behind_read limit true rest read = read
behind_read limit false rest read = none_behind limit rest

found_read : (limit : ℕ) (bytes : List ℕ) (found : HeadScan) → ((rest : List ℕ) → AreCounted limit true rest (heads_in limit rest)) → found ≡ scan_of bytes → AnswersScan bytes found
    → AreCounted (suc limit) true bytes (heads_in (suc limit) bytes)
found_read limit bytes Open read is none = record { readings = []; count = heads_at limit bytes Open is; are = λ hold fits. none }
found_read limit bytes (Piece start end) read is here =
    let piece = slice_range bytes start end in
    let what = read_as piece in
    let rest = drop end bytes in
    let more = behind_read limit (is_bodiless what) rest (read rest) in
    record {
      readings = what ∷ more.readings;
      count = heads_at limit bytes (Piece start end) is ∙ ap suc more.count;
      are = λ hold fits. (
        start,
        end,
        here,
        within_size hold bytes start end what here (reading_of piece).1 fits,
        more.are hold (omega (arith, length-drop end bytes, fits)),
      );
    }

pub heads_read : (limit : ℕ) (bytes : List ℕ) → AreCounted limit true bytes (heads_in limit bytes)
heads_read zero bytes = record { readings = []; count = heads_zero bytes; are = λ hold fits. refl }
heads_read (suc limit) bytes = found_read limit bytes (scan_of bytes) (λ rest. heads_read limit rest) refl (scan_answers bytes)

-- ---- the first of the bytes

-- a head that ends within so many bytes is that of the first so many
pub head_in_first : (n : ℕ) (bytes : List ℕ) (s e : ℕ) → IsHeadPiece bytes s e → e ≤ n → IsHeadPiece (take n bytes) s e
head_in_first n bytes s e piece near =
    let front = take n bytes in
    let back = drop n bytes in
    let fits : e ≤ length front = omega (arith, length-take n bytes, near, piece.in_range) in
    let there : IsHeadPiece (front ++ back) s e = subst (λ (b : List ℕ). IsHeadPiece b s e) (sym (take-append-drop n bytes)) piece in
    let start : s ≤ length front = omega (arith, fits, piece.ordered) in
    record {
      ordered = piece.ordered;
      in_range = fits;
      blank = subst AreBlankLines (take-append-le s front back start) there.blank;
      begins = λ (end, rest, is). there.begins
          (end, rest ++ back, drop-append-le s front back start ∙ ap (λ (l : List ℕ). l ++ back) is ∙ append_assoc (print_end end) rest back);
      ends = subst EndsBlank (slice_range-append front back s e piece.ordered fits) there.ends;
      first = λ e' low less ends. there.first e' low less
          (subst EndsBlank (sym (slice_range-append front back s e' low (omega (arith, fits, less)))) ends);
    }

-- of the first bytes the piece is the same
pub slice_in_first : (n : ℕ) (bytes : List ℕ) (s e : ℕ) → IsHeadPiece bytes s e → e ≤ n → slice_range (take n bytes) s e ≡ slice_range bytes s e
slice_in_first n bytes s e piece near =
    let fits : e ≤ length (take n bytes) = omega (arith, length-take n bytes, near, piece.in_range) in
    sym (slice_range-append (take n bytes) (drop n bytes) s e piece.ordered fits) ∙ ap (λ (l : List ℕ). slice_range l s e) (take-append-drop n bytes)

-- one of the first bytes is that of all
first_in_all : (n : ℕ) (bytes : List ℕ) (s e : ℕ) → IsHeadPiece (take n bytes) s e → IsHeadPiece bytes s e
first_in_all n bytes s e here = subst (λ (b : List ℕ). IsHeadPiece b s e) (take-append-drop n bytes) (head_piece_append (take n bytes) (drop n bytes) s e here)

-- where there is none, or it ends behind them, the first bytes have none
pub none_in_none : (n : ℕ) (bytes : List ℕ) → HasNoHeadPiece bytes → HasNoHeadPiece (take n bytes)
none_in_none n bytes none s e here = none s e (first_in_all n bytes s e here)

pub none_in_first : (n : ℕ) (bytes : List ℕ) (s e : ℕ) → IsHeadPiece bytes s e → n < e → HasNoHeadPiece (take n bytes)
none_in_first n bytes s e here far s' e' there =
    let same = head_piece_unique bytes s e s' e' here (first_in_all n bytes s' e' there) in
    omega (arith, far, same.1, there.in_range, length-take n bytes)

-- ---- where the first head was cut off

-- where it ends behind them none is counted
pub cut_none : (limit n : ℕ) (front bytes : List ℕ) (search : Search) (i : Incoming) → incoming front bytes search ≡ i → IsSearched front bytes search → n < length front
    → heads_in limit (take n i.unread) ≡ 0
cut_none limit n front bytes search i view searched less =
    let here = cut_head front bytes search searched (λ none. absurd (omega (arith, less, ap (λ (l : List ℕ). length l) none))) in
    ap (λ (j : Incoming). heads_in limit (take n j.unread)) (sym view)
    ∙ heads_none limit (take n (front ++ bytes)) (none_in_first n (front ++ bytes) here.0 (length front) here.1 less)

-- and else it is
pub cut_some : (limit n : ℕ) (front bytes : List ℕ) (search : Search) (i : Incoming) → incoming front bytes search ≡ i → IsSearched front bytes search → ¬ (length front ≡ 0)
    → length front ≤ n → ¬ (limit ≡ 0) → 0 < heads_in limit (take n i.unread)
cut_some limit n front bytes search i view searched some near may =
    let here = cut_head front bytes search searched (λ none. some (ap (λ (l : List ℕ). length l) none)) in
    let one = one_some limit (take n (front ++ bytes)) here.0 (length front) (head_in_first n (front ++ bytes) here.0 (length front) here.1 near) (omega (arith, may)) in
    subst (λ (j : Incoming). 0 < heads_in limit (take n j.unread)) view one

-- the bytes that are counted
pub cut_bytes : (n : ℕ) (front bytes : List ℕ) (search : Search) (i : Incoming) → incoming front bytes search ≡ i → length front ≤ n
    → front ++ take (n - length front) bytes ≡ take n i.unread
cut_bytes n front bytes search i view near = sym (first_bytes front bytes n near) ∙ ap (λ (j : Incoming). take n j.unread) view

pub uncut_bytes : (n : ℕ) (front bytes : List ℕ) (search : Search) (i : Incoming) → incoming front bytes search ≡ i → length front ≡ 0 → take n bytes ≡ take n i.unread
uncut_bytes n [] bytes search i view none = ap (λ (j : Incoming). take n j.unread) view
uncut_bytes n (b ∷ front) bytes search i view none = absurd (omega (arith, none))
