-- What each call does to the pieces and the buffer.
use Rattle.std.proofs.Common.{◌≡◌, ℕ, ◌+◌, ◌-◌, ◌<◌, ◌≤◌, Bool, true, false, List, [], ◌∷◌, ◌++◌, length, take, drop, nat_lt, All, refl, sym, ap, ◌∙◌, subst, arith, length-append}
use Rattle.std.specs.Prelude.{if◌then◌else◌, ◌==◌}
use Rattle.std.proofs.lemmas.List.{drop-append-le, length-drop, length-take-le, drop_all, take-append-drop, drop-take, drop-drop}
use Rattle.std.proofs.lemmas.List.Elements.{All-nil, All-head, All-tail, All-cons, All-push}
use Rattle.std.proofs.lemmas.Bool.Decides.{nat_tests}
use Rattle.h1_output.specs.declared.piece.Body.{Body}
use Rattle.h1_output.specs.declared.piece.Body.TheVariants.{Own, Shared}
use Rattle.h1_output.specs.declared.piece.Piece.{Piece}
use Rattle.std.proofs.Math.Seq.{take-length, take-append_seam}
use Rattle.std.proofs.lemmas.List.{take_at, take_min, length-take}
use Rattle.std.specs.Prelude.{slice_index_or}
use Rattle.std.specs.Prelude.{Option, None}
use Rattle.model_h1.specs.Parse.{run_between}
use Rattle.model_state.specs.Runs.{front_len, runs_behind}
use Rattle.h1_output.specs.Queued.{IsStretch, Queued, behind, front_of, nothing, with_piece, with_text}
use Rattle.h1_output.specs.OutputPieces.{HasBytes, IsInRow, IsLaid, body_in, body_len, in_row, laid, marks_from, own_len, queued, shared, shared_len, used, with_rest}
use Rattle.h1_output.proofs.Laid.{behind_more, body_size, body_sum, laid_text, laid_size, used_more, shared_more, marks_more, laid_more, marks_behind}

-- ---- nothing

pub none_laid : (ps : List Piece) (own : List ℕ) → ps ≡ [] → own ≡ [] → IsLaid ps own 0 0
unfolding used shared
none_laid ps own empty none =
    subst (λ (ps : List Piece). IsLaid ps own 0 0) (sym empty)
    (record { some = All-nil HasBytes; fits = omega arith; marked_is = refl; many_is = refl })

pub none_queued : (ps : List Piece) (own : List ℕ) → ps ≡ [] → own ≡ [] → queued ps own ≡ nothing
unfolding laid marks_from
none_queued ps own empty none = (λ i. queued (empty i) (none i))

-- ---- a text

pub text_laid : (ps : List Piece) (own own' text : List ℕ) (m k : ℕ) → IsLaid ps own m k → own' ≡ own ++ text → IsLaid ps own' m k
text_laid ps own own' text m k is more =
    record { some = is.some; fits = omega (arith, is.fits, ap length more, length-append own text); marked_is = is.marked_is; many_is = is.many_is }

pub text_queued : (ps : List Piece) (own own' text : List ℕ) (m k : ℕ) → IsLaid ps own m k → own' ≡ own ++ text → queued ps own' ≡ with_text text (queued ps own)
text_queued ps own own' text m k is more = λ i. record { bytes = (ap (laid ps) more ∙ laid_text ps own text is.fits) i; marks = marks_from 0 ps }

-- ---- a piece

mark_is : (place : ℕ) (bytes : List ℕ) → 0 < length bytes → run_between place (place + length bytes) ≡ record { start = place; end = place + length bytes } ∷ []
mark_is place bytes some =
    let more : nat_lt place (place + length bytes) ≡ true = grind (arith, nat_tests) in
    rw more refl

module _ (ps : List Piece) (own more bytes : List ℕ) (m k : ℕ) (is : IsLaid ps own m k) (p : Piece) (before : p.before ≡ length own - m)
    (size : own_len p.body ≡ length more) (bytes_are : body_in p.body more ≡ bytes) (body : body_len p.body ≡ length bytes) (some : 0 < length bytes) where
  fits : used ps + p.before ≡ length own
  fits = omega (arith, is.fits, is.marked_is)

  pub piece_laid : IsLaid (ps ++ p ∷ []) (own ++ more) (length (own ++ more)) (k + shared_len p.body)
  piece_laid =
      let sizes = length-append own more in
      record {
        some = All-push HasBytes ps p is.some (omega arith);
        fits = omega (arith, used_more ps p, fits);
        marked_is = omega (arith, used_more ps p, fits);
        many_is = omega (arith, shared_more ps p, is.many_is);
      }

  marks_are : marks_from 0 (ps ++ p ∷ []) ≡ marks_from 0 ps ++ run_between (length (laid ps own)) (length (laid ps own) + length bytes)
  marks_are =
      let at = length (laid ps own) in
      let place : 0 + used ps + shared ps + p.before ≡ at = omega (arith, fits, laid_size ps own is.fits) in
      let last : 0 + used ps + shared ps + p.before + body_len p.body ≡ at + length bytes = omega (arith, place, body) in
      marks_more 0 ps p ∙ ap (λ l. marks_from 0 ps ++ l) ((λ i. record { start = place i; end = last i } ∷ []) ∙ sym (mark_is at bytes some))

  pub piece_queued : queued (ps ++ p ∷ []) (own ++ more) ≡ with_piece bytes (queued ps own)
  piece_queued = λ i. record { bytes = laid_more ps p own more bytes fits size bytes_are i; marks = marks_are i }

-- ---- the first bytes go

-- where nothing comes first there is nothing
pub nothing_left : (ps qs : List Piece) → ps ≡ qs → qs ≡ drop 1 ps → ps ≡ []
nothing_left [] qs same rest = refl
nothing_left (p ∷ ps) qs same rest = absurd (omega (arith, ap length (same ∙ rest), length-drop 1 (p ∷ ps)))

pub no_piece : (ps qs : List Piece) (own own' : List ℕ) (t : ℕ) → ps ≡ [] → ps ≡ qs → own' ≡ drop t own → queued qs own' ≡ behind t (queued ps own)
unfolding laid marks_from runs_behind
no_piece ps qs own own' t none same gone =
    let empty = sym same ∙ none in
    (λ i. queued (empty i) (gone i)) ∙ sym (ap (λ ps. behind t (queued ps own)) none)

-- what is left of a piece, by whether something is
pub with_rest_by : (P : List Piece → Type 0) (b : Body) (ps : List Piece) → (body_len b ≡ 0 → P ps) → (0 < body_len b → P (record { before = 0; body = b } ∷ ps)) → P (with_rest b ps)
with_rest_by P b ps done more = by_test (body_len b == 0) refl
  where
    by_test : (t : Bool) → (body_len b == 0) ≡ t → P (if t then ps else record { before = 0; body = b } ∷ ps)
    by_test true is = done (grind (arith, nat_tests))
    by_test false is = more (grind (arith, nat_tests))

-- the bytes and the marks, where the framing in front of a piece is shorter by t
module _ (rest : List Piece) (own : List ℕ) (t c : ℕ) (b : Body) where
  shorter_bytes : t + c ≤ length own
      → laid (record { before = c; body = b } ∷ rest) (drop t own) ≡ drop t (laid (record { before = t + c; body = b } ∷ rest) own)
  unfolding laid
  shorter_bytes fits =
      let more = body_in b (drop (t + c) own) ++ laid rest (drop (t + c + own_len b) own) in
      let e : t + (c + own_len b) ≡ t + c + own_len b = omega arith in
      let front : drop t (take (t + c) own) ≡ take c (drop t own) = drop-take t c own in
      let cut : drop t (take (t + c) own ++ more) ≡ take c (drop t own) ++ more =
      drop-append-le t (take (t + c) own) more (omega (arith, length-take-le (t + c) own fits)) ∙ ap (λ l. l ++ more) front in
      let one : drop c (drop t own) ≡ drop (t + c) own = drop-drop c t own in
      let two : drop (c + own_len b) (drop t own) ≡ drop (t + c + own_len b) own = drop-drop (c + own_len b) t own ∙ ap (λ n. drop n own) e in
      (λ i. take c (drop t own) ++ (body_in b (one i) ++ laid rest (two i))) ∙ sym cut

  shorter_marks : marks_from 0 (record { before = t + c; body = b } ∷ rest) ≡ marks_from (t + 0) (record { before = c; body = b } ∷ rest)
  unfolding marks_from
  shorter_marks =
      let e : 0 + (t + c) ≡ t + 0 + c = omega arith in
      λ i. record { start = e i; end = e i + body_len b } ∷ marks_from (e i + body_len b) rest

  shorter : All HasBytes (record { before = c; body = b } ∷ rest) → t + c ≤ length own
      → queued (record { before = c; body = b } ∷ rest) (drop t own) ≡ behind t (queued (record { before = t + c; body = b } ∷ rest) own)
  shorter some fits =
      let marks = sym (marks_behind t 0 (record { before = c; body = b } ∷ rest) some) ∙ ap (runs_behind t) (sym shorter_marks) in
      λ i. record { bytes = shorter_bytes fits i; marks = marks i }

-- ---- by the first piece

module _ (all rest : List Piece) (own : List ℕ) (m k f : ℕ) (b : Body) (items : all ≡ record { before = f; body = b } ∷ rest) (is : IsLaid all own m k) where
  first : IsLaid (record { before = f; body = b } ∷ rest) own m k
  first = subst (λ ps. IsLaid ps own m k) items is

  has : 0 < body_len b
  has = All-head HasBytes (record { before = f; body = b }) rest first.some

  others : All HasBytes rest
  others = All-tail HasBytes (record { before = f; body = b }) rest first.some

  sums : (f + own_len b + used rest ≤ length own) × (m ≡ f + own_len b + used rest) × (k ≡ shared_len b + shared rest)
  unfolding used shared
  sums = (first.fits, first.marked_is, first.many_is)

  -- of the framing in front of it
  module _ (t : ℕ) (least : t ≤ f) where
    pub framing_fits : (t ≤ length own) × (t ≤ m)
    framing_fits = (omega (arith, sums.0), omega (arith, sums.1))

    framing_some : All HasBytes (record { before = f - t; body = b } ∷ rest)
    framing_some = All-cons HasBytes (record { before = f - t; body = b }) rest has others

    pub framing_laid : IsLaid (record { before = f - t; body = b } ∷ rest) (drop t own) (m - t) k
    unfolding used shared
    framing_laid =
        let cut = length-drop t own in
        record {
          some = framing_some;
          fits = omega (arith, sums.0);
          marked_is = omega (arith, sums.1);
          many_is = sums.2;
        }

    pub framing_queued : queued (record { before = f - t; body = b } ∷ rest) (drop t own) ≡ behind t (queued all own)
    framing_queued =
        let whole : t + (f - t) ≡ f = omega arith in
        shorter rest own t (f - t) b framing_some (omega (arith, sums.0))
        ∙ (λ i. behind t (queued (record { before = whole i; body = b } ∷ rest) own))
        ∙ sym (ap (λ ps. behind t (queued ps own)) items)

  -- of a piece in the buffer
  module _ (n t : ℕ) (none : f ≡ 0) (body : b ≡ Own n) (least : t ≤ n) where
    len_is : own_len b ≡ n
    len_is = ap own_len body

    pub own_fits : (t ≤ length own) × (t ≤ m)
    own_fits = (omega (arith, sums.0, len_is), omega (arith, sums.1, len_is))

    all_is : all ≡ record { before = 0; body = Own n } ∷ rest
    all_is = items ∙ (λ i. record { before = none i; body = body i } ∷ rest)

    pub own_laid : IsLaid (with_rest (Own (n - t)) rest) (drop t own) (m - t) k
    unfolding used shared
    own_laid =
        let cut = length-drop t own in
        let many : k ≡ shared rest = omega (arith, sums.2, ap shared_len body) in
        with_rest_by (λ ps. IsLaid ps (drop t own) (m - t) k) (Own (n - t)) rest
        (λ done. record { some = others; fits = omega (arith, sums.0, len_is); marked_is = omega (arith, sums.1, len_is); many_is = many })
        (λ more. record {
          some = All-cons HasBytes (record { before = 0; body = Own (n - t) }) rest more others;
          fits = omega (arith, sums.0, len_is);
          marked_is = omega (arith, sums.1, len_is);
          many_is = omega (arith, many);
        })

    own_bytes : laid (record { before = 0; body = Own n } ∷ rest) own ≡ take n own ++ laid rest (drop n own)
    unfolding laid
    own_bytes = let e : 0 + n ≡ n = omega arith in λ i. take n own ++ laid rest (drop (e i) own)

    own_dropped : drop t (laid (record { before = 0; body = Own n } ∷ rest) own) ≡ take (n - t) (drop t own) ++ laid rest (drop (n - t) (drop t own))
    own_dropped =
        let whole : t + (n - t) ≡ n = omega arith in
        let taken : drop t (take n own) ≡ take (n - t) (drop t own) = ap (λ j. drop t (take j own)) (sym whole) ∙ drop-take t (n - t) own in
        let past : drop n own ≡ drop (n - t) (drop t own) = ap (λ j. drop j own) (sym whole) ∙ sym (drop-drop (n - t) t own) in
        ap (drop t) own_bytes ∙ drop-append-le t (take n own) (laid rest (drop n own)) (omega (arith, length-take-le n own (omega (arith, sums.0, len_is))))
        ∙ (λ i. taken i ++ laid rest (past i))

    rest_marks : runs_behind t (marks_from (0 + 0 + n) rest) ≡ marks_from (n - t) rest
    rest_marks =
        let whole : 0 + 0 + n ≡ t + (n - t) = omega arith in
        ap (λ j. runs_behind t (marks_from j rest)) whole ∙ marks_behind t (n - t) rest others

    own_marks_done : n - t ≡ 0 → runs_behind t (marks_from 0 (record { before = 0; body = Own n } ∷ rest)) ≡ marks_from 0 rest
    unfolding marks_from runs_behind
    own_marks_done done =
        let gone : nat_lt t (0 + 0 + n) ≡ false = grind (arith, nat_tests) in
        rw gone (rest_marks ∙ ap (λ j. marks_from j rest) done)

    own_marks_more : 0 < n - t → runs_behind t (marks_from 0 (record { before = 0; body = Own n } ∷ rest)) ≡ marks_from 0 (record { before = 0; body = Own (n - t) } ∷ rest)
    unfolding marks_from runs_behind
    own_marks_more more =
        let stays : nat_lt t (0 + 0 + n) ≡ true = grind (arith, nat_tests) in
        let start : 0 + 0 - t ≡ 0 + 0 = omega arith in
        let end : 0 + 0 + n - t ≡ 0 + 0 + (n - t) = omega arith in
        let place : n - t ≡ 0 + 0 + (n - t) = omega arith in
        rw stays (λ i. record { start = start i; end = end i } ∷ (rest_marks ∙ ap (λ j. marks_from j rest) place) i)

    own_bytes_done : n - t ≡ 0 → laid rest (drop t own) ≡ drop t (laid (record { before = 0; body = Own n } ∷ rest) own)
    own_bytes_done done = sym (own_dropped ∙ ap (λ j. take j (drop t own) ++ laid rest (drop j (drop t own))) done)

    own_bytes_more : laid (record { before = 0; body = Own (n - t) } ∷ rest) (drop t own) ≡ drop t (laid (record { before = 0; body = Own n } ∷ rest) own)
    unfolding laid
    own_bytes_more =
        let e : 0 + (n - t) ≡ n - t = omega arith in
        (λ i. take (n - t) (drop t own) ++ laid rest (drop (e i) (drop t own))) ∙ sym own_dropped

    pub own_queued : queued (with_rest (Own (n - t)) rest) (drop t own) ≡ behind t (queued all own)
    own_queued =
        with_rest_by (λ ps. queued ps (drop t own) ≡ behind t (queued (record { before = 0; body = Own n } ∷ rest) own)) (Own (n - t)) rest
        (λ done. let marks = sym (own_marks_done done) in λ i. record { bytes = own_bytes_done done i; marks = marks i })
        (λ more. let marks = sym (own_marks_more more) in λ i. record { bytes = own_bytes_more i; marks = marks i })
        ∙ sym (ap (λ ps. behind t (queued ps own)) all_is)

  -- of a shared piece
  module _ (bytes : List ℕ) (t : ℕ) (none : f ≡ 0) (body : b ≡ Shared bytes) (least : t ≤ length bytes) where
    many_bytes : shared_len b ≡ length bytes
    many_bytes = ap shared_len body

    no_own : own_len b ≡ 0
    no_own = ap own_len body

    pub shared_fits : t ≤ k
    shared_fits = omega (arith, sums.2, many_bytes)

    left_size : length (drop t bytes) ≡ length bytes - t
    left_size = length-drop t bytes

    shared_is : all ≡ record { before = 0; body = Shared bytes } ∷ rest
    shared_is = items ∙ (λ i. record { before = none i; body = body i } ∷ rest)

    pub shared_laid : IsLaid (with_rest (Shared (drop t bytes)) rest) own m (k - t)
    unfolding used shared
    shared_laid =
        with_rest_by (λ ps. IsLaid ps own m (k - t)) (Shared (drop t bytes)) rest
        (λ done. record { some = others; fits = omega (arith, sums.0, no_own); marked_is = omega (arith, sums.1, no_own, none); many_is = omega (arith, sums.2, many_bytes, left_size) })
        (λ more. record {
          some = All-cons HasBytes (record { before = 0; body = Shared (drop t bytes) }) rest more others;
          fits = omega (arith, sums.0, no_own);
          marked_is = omega (arith, sums.1, no_own, none);
          many_is = omega (arith, sums.2, many_bytes, left_size);
        })

    shared_bytes : (x : List ℕ) → laid (record { before = 0; body = Shared x } ∷ rest) own ≡ x ++ laid rest own
    unfolding laid
    shared_bytes x = refl

    shared_dropped : drop t (laid (record { before = 0; body = Shared bytes } ∷ rest) own) ≡ drop t bytes ++ laid rest own
    shared_dropped = ap (drop t) (shared_bytes bytes) ∙ drop-append-le t bytes (laid rest own) least

    later_marks : runs_behind t (marks_from (0 + 0 + length bytes) rest) ≡ marks_from (length (drop t bytes)) rest
    later_marks =
        let whole : 0 + 0 + length bytes ≡ t + length (drop t bytes) = omega (arith, left_size) in
        ap (λ j. runs_behind t (marks_from j rest)) whole ∙ marks_behind t (length (drop t bytes)) rest others

    shared_marks_done : length (drop t bytes) ≡ 0 → runs_behind t (marks_from 0 (record { before = 0; body = Shared bytes } ∷ rest)) ≡ marks_from 0 rest
    unfolding marks_from runs_behind
    shared_marks_done done =
        let gone : nat_lt t (0 + 0 + length bytes) ≡ false = grind (arith, nat_tests, left_size) in
        rw gone (later_marks ∙ ap (λ j. marks_from j rest) done)

    shared_marks_more : 0 < length (drop t bytes)
        → runs_behind t (marks_from 0 (record { before = 0; body = Shared bytes } ∷ rest)) ≡ marks_from 0 (record { before = 0; body = Shared (drop t bytes) } ∷ rest)
    unfolding marks_from runs_behind
    shared_marks_more more =
        let stays : nat_lt t (0 + 0 + length bytes) ≡ true = grind (arith, nat_tests, left_size) in
        let start : 0 + 0 - t ≡ 0 + 0 = omega arith in
        let end : 0 + 0 + length bytes - t ≡ 0 + 0 + length (drop t bytes) = omega (arith, left_size) in
        let place : length (drop t bytes) ≡ 0 + 0 + length (drop t bytes) = omega arith in
        rw stays (λ i. record { start = start i; end = end i } ∷ (later_marks ∙ ap (λ j. marks_from j rest) place) i)

    shared_done : length (drop t bytes) ≡ 0 → laid rest own ≡ drop t (laid (record { before = 0; body = Shared bytes } ∷ rest) own)
    shared_done done = sym (shared_dropped ∙ ap (λ l. l ++ laid rest own) (drop_all t bytes (omega (arith, left_size))))

    pub shared_queued : queued (with_rest (Shared (drop t bytes)) rest) own ≡ behind t (queued all own)
    shared_queued =
        with_rest_by (λ ps. queued ps own ≡ behind t (queued (record { before = 0; body = Shared bytes } ∷ rest) own)) (Shared (drop t bytes)) rest
        (λ done. let marks = sym (shared_marks_done done) in λ i. record { bytes = shared_done done i; marks = marks i })
        (λ more. let marks = sym (shared_marks_more more) in let bytes_are = shared_bytes (drop t bytes) ∙ sym shared_dropped in λ i. record { bytes = bytes_are i; marks = marks i })
        ∙ sym (ap (λ ps. behind t (queued ps own)) shared_is)

-- ---- where there is no piece

pub none_fits : (ps : List Piece) (own : List ℕ) (t : ℕ) → ps ≡ [] → t ≤ length (laid ps own) → t ≤ length own
unfolding laid
none_fits ps own t none fits = subst (λ ps. t ≤ length (laid ps own)) none fits

pub none_moved : (ps qs : List Piece) (own own' : List ℕ) (m k : ℕ) → ps ≡ [] → ps ≡ qs → IsLaid ps own m k → IsLaid qs own' m k
unfolding used shared
none_moved ps qs own own' m k none same is =
    let was : IsLaid [] own m k = subst (λ ps. IsLaid ps own m k) none is in
    let there : IsLaid [] own' m k = record { some = was.some; fits = omega arith; marked_is = was.marked_is; many_is = was.many_is } in
    subst (λ ps. IsLaid ps own' m k) (sym none ∙ same) there

pub behind_none : (ps : List Piece) (own : List ℕ) → All HasBytes ps → behind 0 (queued ps own) ≡ queued ps own
behind_none ps own some =
    let marks = marks_behind 0 0 ps some in
    λ i. record { bytes = laid ps own; marks = marks i }

-- where the pieces have no bytes there are none
pub no_pieces : (ps : List Piece) (own : List ℕ) (m k : ℕ) → IsLaid ps own m k → m ≡ 0 → k ≡ 0 → ps ≡ []
unfolding used shared
no_pieces [] own m k is none nothing = refl
no_pieces (p ∷ ps) own m k is none nothing =
    absurd (omega (arith, is.marked_is, is.many_is, body_sum p.body, All-head HasBytes p ps is.some))

-- a further part goes
pub behind_part : (first now after : Queued) (count left taken : ℕ) → taken ≤ left → left ≤ count → now ≡ behind (count - left) first → after ≡ behind taken now
    → after ≡ behind (count - (left - taken)) first
behind_part first now after count left taken part fits is gone =
    let sum : count - left + taken ≡ count - (left - taken) = omega arith in
    gone ∙ ap (behind taken) is ∙ behind_more (count - left) taken first ∙ ap (λ n. behind n first) sum

-- ---- what comes first

pub first_piece : (ps : List Piece) (p : Piece) → 0 < length ps → p ≡ slice_index_or ps 0 p → ps ≡ p ∷ drop 1 ps
first_piece [] p some is = absurd (omega arith)
first_piece (q ∷ qs) p some is = sym (ap (λ p. p ∷ qs) is)

pub front_none : (ps : List Piece) (own : List ℕ) → ps ≡ [] → own ≡ front_of (queued ps own)
unfolding laid marks_from
front_none ps own none = sym (take-length own) ∙ sym (ap (λ ps. front_of (queued ps own)) none)

module _ (ps rest : List Piece) (own : List ℕ) (f : ℕ) (b : Body) (items : ps ≡ record { before = f; body = b } ∷ rest) where
  pub front_framing : 0 < f → f ≤ length own → take f own ≡ front_of (queued ps own)
  unfolding laid marks_from
  front_framing some fits =
      let place : 0 + f ≡ f = omega arith in
      let test : (f == 0) ≡ false = grind (arith, nat_tests) in
      let more = body_in b (drop f own) ++ laid rest (drop (f + own_len b) own) in
      let first : front_of (queued (record { before = f; body = b } ∷ rest) own) ≡ take f own =
      rw (place, test) (take_at (take f own) more f (length-take-le f own fits)) in
      sym (ap (λ ps. front_of (queued ps own)) items ∙ first)

  pub front_body : f ≡ 0 → own_len b ≤ length own → body_in b own ≡ front_of (queued ps own)
  unfolding laid marks_from
  front_body none fits =
      let size : 0 + 0 + body_len b ≡ length (body_in b own) = omega (arith, body_size b own fits) in
      let first : front_of (queued (record { before = 0; body = b } ∷ rest) own) ≡ body_in b own =
      rw size (take-append_seam (body_in b own) (laid rest (drop (0 + own_len b) own))) in
      sym (ap (λ ps. front_of (queued ps own)) items ∙ ap (λ f. front_of (queued (record { before = f; body = b } ∷ rest) own)) none ∙ first)

pub first_fits : (ps rest : List Piece) (own : List ℕ) (m k f : ℕ) (b : Body) → ps ≡ record { before = f; body = b } ∷ rest → IsLaid ps own m k → f + own_len b ≤ length own
unfolding used
first_fits ps rest own m k f b items is =
    let first : IsLaid (record { before = f; body = b } ∷ rest) own m k = subst (λ ps. IsLaid ps own m k) items is in
    omega (arith, first.fits)

pub empty : (ps : List Piece) → length ps ≤ 0 → ps ≡ []
empty [] none = refl
empty (p ∷ ps) none = absurd (omega arith)

-- ---- a beginning of all

front_some : (ps : List Piece) (n : ℕ) → All HasBytes ps → 0 < n → 0 < front_len (marks_from 0 ps) n
unfolding marks_from
front_some [] n some has = has
front_some (p ∷ ps) n some has = by_test (0 + p.before == 0) refl (All-head HasBytes p ps some)
  where
    by_test : (t : Bool) → (0 + p.before == 0) ≡ t → 0 < body_len p.body → 0 < (if t then 0 + p.before + body_len p.body else 0 + p.before)
    by_test true is some = omega arith
    by_test false is some = grind (arith, nat_tests)

pub taken_stretch : (all : List ℕ) (n : ℕ) → (0 < length all → 0 < n) → IsStretch all (take n all)
taken_stretch all n some =
    let size = length-take n all in
    record {
      begins = ap (λ m. take m all) size ∙ take_min n all;
      fits = omega (arith, size);
      some = λ has. omega (arith, size, some has);
    }

pub front_stretch : (ps : List Piece) (own : List ℕ) (q : Queued) (front : List ℕ) → All HasBytes ps → queued ps own ≡ q → front ≡ front_of q → IsStretch q.bytes front
front_stretch ps own q front some view is =
    let there : IsStretch (laid ps own) (front_of (queued ps own)) =
    taken_stretch (laid ps own) (front_len (marks_from 0 ps) (length (laid ps own))) (λ has. front_some ps (length (laid ps own)) some has) in
    subst (λ l. IsStretch q.bytes l) (sym is) (subst (λ (q : Queued). IsStretch q.bytes (front_of q)) view there)

laid_own : (ps : List Piece) (own : List ℕ) → All HasBytes ps → used ps ≤ length own → shared ps ≡ 0 → laid ps own ≡ own
unfolding laid used shared
laid_own [] own some fits none = refl
laid_own (p ∷ ps) own some fits none =
    let has = All-head HasBytes p ps some in
    let size = length-drop (p.before + own_len p.body) own in
    let more = laid_own ps (drop (p.before + own_len p.body) own) (All-tail HasBytes p ps some) (omega arith) (omega arith) in
    by_body p.body (omega (arith, body_sum p.body)) (omega arith) more
  where
    by_body : (b : Body) → 0 < body_len b → shared_len b ≡ 0 → laid ps (drop (p.before + own_len b) own) ≡ drop (p.before + own_len b) own
        → take p.before own ++ (body_in b (drop p.before own) ++ laid ps (drop (p.before + own_len b) own)) ≡ own
    by_body (Own n) has none more =
        let rest : drop (p.before + n) own ≡ drop n (drop p.before own) = sym (drop-drop n p.before own) in
        ap (λ l. take p.before own ++ (take n (drop p.before own) ++ l)) (more ∙ rest)
        ∙ ap (λ l. take p.before own ++ l) (take-append-drop n (drop p.before own)) ∙ take-append-drop p.before own
    by_body (Shared b) has none more = absurd (omega arith)

-- where nothing is shared the bytes are the buffer's
pub all_own : (ps : List Piece) (own : List ℕ) (m k : ℕ) (q : Queued) → IsLaid ps own m k → k ≡ 0 → queued ps own ≡ q → own ≡ q.bytes
all_own ps own m k q is none view = sym (laid_own ps own is.some is.fits (omega (arith, is.many_is))) ∙ ap (λ (q : Queued). q.bytes) view

pub own_stretch : (ps : List Piece) (own : List ℕ) (m k : ℕ) (all : List ℕ) (q : Queued) → IsLaid ps own m k → k ≡ 0 → queued ps own ≡ q → all ≡ own → IsStretch q.bytes all
own_stretch ps own m k all q is none view same =
    let bytes : all ≡ q.bytes = same ∙ all_own ps own m k q is none view in
    subst (λ l. IsStretch q.bytes l) (sym bytes) (record { begins = take-length q.bytes; fits = omega arith; some = λ has. has })

-- the first bytes are no more than all
taken_within : (n : ℕ) (all : List ℕ) → length (take n all) ≤ length all
taken_within n all = omega (arith, length-take n all)

pub own_segment : (ps : List Piece) (own : List ℕ) (m k : ℕ) (all : List ℕ) (q : Queued) → IsLaid ps own m k → k ≡ 0 → queued ps own ≡ q → all ≡ own → length (front_of q) ≤ length all
own_segment ps own m k all q is none view same =
    let bytes : all ≡ q.bytes = same ∙ all_own ps own m k q is none view in
    subst (λ (l : List ℕ). length (front_of q) ≤ length l) (sym bytes) (taken_within (front_len q.marks (length q.bytes)) q.bytes)

-- ---- all goes

marks_gone : (n place : ℕ) (ps : List Piece) → place + used ps + shared ps ≤ n → runs_behind n (marks_from place ps) ≡ []
unfolding runs_behind marks_from used shared
marks_gone n place [] fits = refl
marks_gone n place (p ∷ ps) fits =
    let next = place + p.before + body_len p.body in
    let sum = body_sum p.body in
    let test : nat_lt n (place + p.before + body_len p.body) ≡ false = grind (arith, nat_tests, sum) in
    rw test (marks_gone n next ps (omega (arith, sum)))

pub all_gone : (ps qs : List Piece) (own own' : List ℕ) (m k n : ℕ) → IsLaid ps own m k → k ≡ 0 → n ≡ length own → qs ≡ [] → own' ≡ [] → queued qs own' ≡ behind n (queued ps own)
unfolding used shared
all_gone ps qs own own' m k n is none all no_pieces no_bytes =
    let size = laid_size ps own is.fits in
    let bytes : [] ≡ drop n (laid ps own) = sym (drop_all n (laid ps own) (omega (arith, size, is.many_is))) in
    let marks : [] ≡ runs_behind n (marks_from 0 ps) = sym (marks_gone n 0 ps (omega (arith, is.fits, is.many_is))) in
    none_queued qs own' no_pieces no_bytes ∙ (λ i. record { bytes = bytes i; marks = marks i })

-- ---- the pieces in a row

pub empty_row : (one : Option Piece) (rest : List Piece) → one ≡ None → IsInRow one rest → in_row one rest ≡ []
empty_row one rest none is = ap (λ f. in_row f rest) none ∙ subst (λ f. IsInRow f rest) none is

pub first_some : (all rest : List Piece) (own : List ℕ) (m k f : ℕ) (b : Body) → all ≡ record { before = f; body = b } ∷ rest → IsLaid all own m k → 0 < body_len b
first_some all rest own m k f b items is = All-head HasBytes (record { before = f; body = b }) rest (subst (λ ps. All HasBytes ps) items is.some)
