-- A plain answer is one that says where it ends.
use Rattle.std.proofs.Common.{◌≡◌, ◌⊎◌, ℕ, zero, suc, ◌+◌, ◌-◌, ◌^◌, ◌<◌, ◌≤◌, Bool, true, false, not, ◌&&◌, ◌||◌, List, [], ◌∷◌, ◌++◌, length, take, flat_map, filter, cond, eqb, refl, sym, ap, ap₂, ◌∙◌, subst, inl, inr, arith, append-nil, length-take-le, lt-ltb, le-ltb, le-leb, Some, None}
use Rattle.std.specs.Prelude.{codes, decimal, nat_lt, ◌==◌}
use Rattle.std.proofs.lemmas.Bool.{false≢true, cond-true, cond-false, cases_eq, cases_lt, lt-leb}
use Rattle.std.proofs.lemmas.Bool.Decides.{nat_tests}
use Rattle.std.proofs.Math.Seq.{take-append-add}
use Rattle.std.proofs.lemmas.List.{take_all, take-append-le}
use Rattle.httparse.specs.Grammar.{trim_ows}
use Rattle.model_h1.specs.Request.{Header, Head, ConnectionType, BodyKind, no_body, fixed_body, chunked_body, raw_body}
use Rattle.model_h1.specs.Setting.{Setting}
use Rattle.model_h1.specs.LengthTable.{values_of, is_length_refused}
use Rattle.model_h1.specs.Answer.{AnswerHead, Asked, asked_of, BodySize, size_none, size_of, size_stream, Shape, shape_none, shape_length, shape_chunked, shape_raw, shape_of, switching_shape, sized_shape, is_bodiless, is_raw}
use Rattle.std.proofs.lemmas.Bool.{eq-eqb, ne_eqb}
use Rattle.model_h1.specs.Answer.{type_of}
use Rattle.model_client.specs.WrittenHead.{line_of, size_lines, written_lines}
use Rattle.model_h1.specs.AnswerText.{by_name, is_sent, piece_text, sent_piece, chunk_text, last_chunk}
use Rattle.model_h1.specs.Laws.Exchanges.{AnswerGiven, pieces_text, body_text}
use Rattle.model_client.specs.AnswerTable.{is_answer_coding_refused, is_answer_refused, answer_body, answer_kind, body_to, has_no_content}
use Rattle.model_client.specs.WrittenHead.{framing_lines}
use Rattle.model_ends.specs.SentAnswer.{IsBodySent, IsSent, sent_answer}
use Rattle.model_ends.specs.PlainExchange.{given_shape, given_lines, carried_by, carried, IsSelfFramed, is_full, is_complete}
use Rattle.model_client.specs.RequestText.{joined}
use Rattle.model_ends.proofs.Framing.{read_kind, kind_read_by, length_read, no_length, no_coding}
use Rattle.model_ends.proofs.ValuesByName.{kept_values}
use Rattle.model_ends.proofs.WrittenPieces.{written_body, written_front, AreShort}

-- ---- the text of a body

take_none : (ys : List ℕ) → take 0 ys ≡ []
take_none [] = refl
take_none (y ∷ ys) = refl

take_both : (n : ℕ) (xs ys : List ℕ) → take n (xs ++ ys) ≡ take n xs ++ take (n - length xs) ys
take_both n xs ys = elim (cases_lt (length xs) n) [
  | inr within ↦
      let none : n - length xs ≡ 0 = omega arith in
      take-append-le n xs ys within ∙ sym (append-nil (take n xs)) ∙ ap (λ (l : List ℕ). take n xs ++ l) (sym (take_none ys))
      ∙ ap (λ m. take n xs ++ take m ys) (sym none)
  | inl past ↦
      let all : length xs + (n - length xs) ≡ n = omega arith in
      ap (λ m. take m (xs ++ ys)) (sym all) ∙ take-append-add xs ys (n - length xs)
      ∙ ap (λ (l : List ℕ). l ++ take (n - length xs) ys) (sym (take_all n xs (omega arith)))
]

head_pieces : (asked : Asked) (shape : Shape) (before : ℕ) (pieces : List (List ℕ)) → asked.is_head ≡ true → pieces_text asked shape before pieces ≡ []
unfolding pieces_text
head_pieces asked shape before [] head = refl
head_pieces asked shape before (p ∷ ps) head =
    ap₂ (λ a b. a ++ b) (cond-true asked.is_head [] (piece_text shape before p) head) (head_pieces asked shape (before + length p) ps head)

take-nil : (k : ℕ) → ◌≡◌ {A = List ℕ} (take k []) []
take-nil zero = refl
take-nil (suc k) = refl

-- of a request that isn't HEAD
module _ (asked : Asked) (other : asked.is_head ≡ false) where
  sends : (shape : Shape) (before : ℕ) (p : List ℕ) → sent_piece asked shape before p ≡ piece_text shape before p
  sends shape before p = cond-false asked.is_head [] (piece_text shape before p) other

  none_pieces : (before : ℕ) (pieces : List (List ℕ)) → pieces_text asked shape_none before pieces ≡ []
  unfolding pieces_text
  none_pieces before [] = refl
  none_pieces before (p ∷ ps) = ap₂ (λ a b. a ++ b) (sends shape_none before p) (none_pieces (before + length p) ps)

  length_pieces : (n before : ℕ) (pieces : List (List ℕ)) → pieces_text asked (shape_length n) before pieces ≡ take (n - before) (joined pieces)
  unfolding pieces_text
  length_pieces n before [] = sym (take-nil (n - before))
  length_pieces n before (p ∷ ps) =
      let left : n - (before + length p) ≡ n - before - length p = omega arith in
      ap₂ (λ a b. a ++ b) (sends (shape_length n) before p) (length_pieces n (before + length p) ps ∙ ap (λ k. take k (joined ps)) left)
      ∙ sym (take_both (n - before) p (joined ps))

  chunk_pieces : (before : ℕ) (pieces : List (List ℕ)) → pieces_text asked shape_chunked before pieces ≡ flat_map chunk_text pieces
  unfolding pieces_text
  chunk_pieces before [] = refl
  chunk_pieces before (p ∷ ps) = ap₂ (λ a b. a ++ b) (sends shape_chunked before p) (chunk_pieces (before + length p) ps)

-- ---- what is framed

record Framed (minor status : ℕ) (lines : List Header) (head is_whole : Bool) (text carried : List ℕ) : Type 0 where
  kind : BodyKind
  is : answer_kind minor status lines ≡ Some kind
  body : IsBodySent is_whole (cond head no_body kind) text carried

-- nothing follows HEAD
nothing : List ℕ
nothing = []

quiet_end : (t u : Bool) (e : List ℕ) → t ≡ true → cond u (cond t [] e) [] ≡ []
quiet_end t true e is = cond-true t [] e is
quiet_end t false e is = refl

head_text : (asked : Asked) (shape : Shape) (a : AnswerGiven) → asked.is_head ≡ true → body_text asked shape a ≡ []
head_text asked shape a head =
    ap₂ (λ x y. x ++ y) (head_pieces asked shape 0 a.pieces head) (quiet_end asked.is_head a.is_ended _ head)

by_head : (asked : Asked) (shape : Shape) (a : AnswerGiven) (kind : BodyKind) (is_whole : Bool)
    → (asked.is_head ≡ false → IsBodySent is_whole kind (body_text asked shape a) (carried_by shape a.pieces))
    → IsBodySent (asked.is_head || is_whole) (cond asked.is_head no_body kind) (body_text asked shape a) (cond asked.is_head [] (carried_by shape a.pieces))
by_head asked shape a kind is_whole other = by_test asked.is_head refl
  where
    by_test : (t : Bool) → asked.is_head ≡ t → IsBodySent (t || is_whole) (cond t no_body kind) (body_text asked shape a) (cond t [] (carried_by shape a.pieces))
    by_test true is = (head_text asked shape a is, refl)
    by_test false is = other is

plain_end : (t u : Bool) (none : List ℕ) → none ≡ [] → cond u (cond t [] none) [] ≡ []
plain_end true true none is = refl
plain_end true false none is = refl
plain_end false true none is = is
plain_end false false none is = refl

chunked_kind : (status : ℕ) → has_no_content status ≡ false → eqb status 101 ≡ false → (m : ℕ) → m ≡ 1
    → read_kind m status [] (codes "chunked" ∷ []) ≡ Some chunked_body
unfolding trim_ows
chunked_kind status content other m is = ap (λ k. read_kind k status [] (codes "chunked" ∷ [])) is ∙ rw (content, other) refl

-- none of three is true, and so the second isn't
middle : (a b c : Bool) → (a || b || c) ≡ false → b ≡ false
middle false false c none = refl
middle false true c none = none
middle true b c none = absurd (false≢true (sym none))

module _ (asked : Asked) (answer : AnswerHead) (a : AnswerGiven) (minor now : ℕ) (kind : ConnectionType) where
  -- the body is framed as it was sent
  abbrev F : BodySize → Shape → Type 0
  F size s =
      Framed minor answer.status (written_lines minor answer s size kind now) asked.is_head (asked.is_head || is_full s a) (body_text asked s a)
      (cond asked.is_head [] (carried_by s a.pieces))

  -- what is to be shown of an answer of this size and shape
  abbrev P : BodySize → Shape → Type 0
  P size s =
      values_of (codes "content-length") (filter (is_sent answer s) (by_name answer.headers)) ≡ []
      → values_of (codes "transfer-encoding") (filter (is_sent answer s) (by_name answer.headers)) ≡ [] → F size s

  none_text : asked.is_head ≡ false → body_text asked shape_none a ≡ []
  none_text other = ap₂ (λ x y. x ++ y) (none_pieces asked other 0 a.pieces) (plain_end asked.is_head a.is_ended [] refl)

  -- the framing lines of a status without a body, and of one with
  no_lines : (s : Shape) (size : BodySize) → is_bodiless answer.status ≡ true → framing_lines answer s size ≡ []
  no_lines s size bodiless = cond-true (is_bodiless answer.status) _ _ bodiless

  module _ (bodied : is_bodiless answer.status ≡ false) where
    the_lines : (s : Shape) (size : BodySize) → framing_lines answer s size ≡ size_lines s size
    the_lines s size = cond-false (is_bodiless answer.status) _ _ bodied

    content : has_no_content answer.status ≡ false
    content = grind (arith, bodied)

    not_101 : eqb answer.status 101 ≡ false
    not_101 = grind (arith, nat_tests, bodied)

  lines_read : (s : Shape) (size : BodySize) (lines : List Header) → framing_lines answer s size ≡ lines
      → values_of (codes "content-length") (filter (is_sent answer s) (by_name answer.headers)) ≡ []
      → values_of (codes "transfer-encoding") (filter (is_sent answer s) (by_name answer.headers)) ≡ []
      → answer_kind minor answer.status (written_lines minor answer s size kind now)
      ≡ read_kind minor answer.status (values_of (codes "content-length") lines) (values_of (codes "transfer-encoding") lines)
  lines_read s size lines is no_length no_coding =
      kind_read_by minor answer s size kind now no_length no_coding
      ∙ ap (λ ls. read_kind minor answer.status (values_of (codes "content-length") ls) (values_of (codes "transfer-encoding") ls)) is

  bodiless_case : (size : BodySize) → is_bodiless answer.status ≡ true → 200 ≤ answer.status → P size shape_none
  bodiless_case size bodiless high no_length no_coding =
      let none : has_no_content answer.status ≡ true = grind (arith, nat_tests, bodiless) in
      record {
        kind = no_body;
        is = lines_read shape_none size [] (no_lines shape_none size bodiless) no_length no_coding ∙ rw none refl;
        body = by_head asked shape_none a no_body true (λ other. (none_text other, refl));
      }

  -- a 304 keeps framing lines of its own, and has no body all the same
  not_modified_case : (size : BodySize) → answer.status ≡ 304 → is_answer_refused minor answer.headers ≡ false → F size (shape_of asked answer size)
  not_modified_case size is unrefused =
      let shape : shape_of asked answer size ≡ shape_none =
      λ i. cond (eqb (is i) 101) (switching_shape size) (cond (is_bodiless (is i)) shape_none (sized_shape asked answer size)) in
      let lines = written_lines minor answer shape_none size kind now in
      let lengths = kept_values (codes "content-length") minor answer shape_none size kind now is refl refl in
      let codings = kept_values (codes "transfer-encoding") minor answer shape_none size kind now is refl refl in
      let taken : is_answer_refused minor lines ≡ false = (λ i. is_length_refused (lengths i) || is_answer_coding_refused minor (codings i)) ∙ unrefused in
      let none : has_no_content answer.status ≡ true = ap has_no_content is in
      subst (F size) (sym shape) (record {
        kind = no_body;
        is = cond-false (is_answer_refused minor lines) None (Some (answer_body minor answer.status lines)) taken ∙ ap Some (cond-true (has_no_content answer.status) no_body _ none);
        body = by_head asked shape_none a no_body true (λ other. (none_text other, refl));
      })

  head_case : is_bodiless answer.status ≡ false → asked.is_head ≡ true → P size_none shape_none
  head_case bodied head no_length no_coding = record {
    kind = raw_body;
    is = lines_read shape_none size_none [] (the_lines bodied shape_none size_none) no_length no_coding ∙ rw (content bodied, not_101 bodied) refl;
    body = subst (λ t. IsBodySent (t || true) (cond t no_body raw_body) (body_text asked shape_none a) (cond t [] [])) (sym head) (head_text asked shape_none a head, refl);
  }

  empty_case : (n : ℕ) → is_bodiless answer.status ≡ false → n < 2 ^ 64 → n ≡ 0 → P (size_of n) shape_none
  empty_case n bodied fits zero_is no_length no_coding =
      let none : nat_lt 0 n ≡ false = le-ltb 0 n (omega arith) in
      record {
        kind = no_body;
        is = lines_read shape_none (size_of n) (line_of (codes "content-length") (decimal n) ∷ []) (the_lines bodied shape_none (size_of n)) no_length no_coding
            ∙ rw (length_read n fits, content bodied, not_101 bodied, none) refl;
        body = by_head asked shape_none a no_body true (λ other. (none_text other, refl));
      }

  -- as many bytes as there are of the length
  length_text : (n : ℕ) → asked.is_head ≡ false → body_text asked (shape_length n) a ≡ take n (joined a.pieces)
  length_text n other =
      ap₂ (λ x y. x ++ y) (length_pieces asked other n 0 a.pieces ∙ ap (λ k. take k (joined a.pieces)) (omega arith)) (plain_end asked.is_head a.is_ended [] refl)
      ∙ append-nil (take n (joined a.pieces))

  length_sent : (n : ℕ) → asked.is_head ≡ false
      → IsBodySent (is_full (shape_length n) a) (fixed_body n) (body_text asked (shape_length n) a) (take n (joined a.pieces))
  length_sent n other =
      let text = length_text n other in
      let Sent = λ (t : Bool). IsBodySent t (fixed_body n) (body_text asked (shape_length n) a) (take n (joined a.pieces)) in
      elim (cases_lt (length (joined a.pieces)) n) [
        | inr came ↦ subst Sent (sym (le-leb n (length (joined a.pieces)) came)) (ap length text ∙ length-take-le n (joined a.pieces) came, sym text)
        | inl short ↦
            let all : take n (joined a.pieces) ≡ joined a.pieces = take_all n (joined a.pieces) (omega arith) in
            subst Sent (sym (lt-leb n (length (joined a.pieces)) short)) (omega (arith, ap length text, ap length all), sym text)
      ]

  length_case : (n : ℕ) → is_bodiless answer.status ≡ false → n < 2 ^ 64 → 0 < n → P (size_of n) (shape_length n)
  length_case n bodied fits some no_length no_coding = record {
    kind = fixed_body n;
    is = lines_read (shape_length n) (size_of n) (line_of (codes "content-length") (decimal n) ∷ []) (the_lines bodied (shape_length n) (size_of n)) no_length no_coding
        ∙ rw (length_read n fits, content bodied, not_101 bodied, lt-ltb 0 n some) refl;
    body = by_head asked (shape_length n) a (fixed_body n) (is_full (shape_length n) a) (length_sent n);
  }

  -- chunks, and the last one where the body was ended
  chunked_sent : AreShort a.pieces → asked.is_head ≡ false → IsBodySent a.is_ended chunked_body (body_text asked shape_chunked a) (joined a.pieces)
  chunked_sent short other = by_test a.is_ended refl
    where
      by_test : (t : Bool) → a.is_ended ≡ t → IsBodySent t chunked_body (body_text asked shape_chunked a) (joined a.pieces)
      by_test true ended =
          let t = written_body a.pieces short in
          let text : body_text asked shape_chunked a ≡ flat_map chunk_text a.pieces ++ last_chunk =
          ap₂ (λ x y. x ++ y) (chunk_pieces asked other 0 a.pieces) (cond-true a.is_ended _ [] ended ∙ cond-false asked.is_head [] last_chunk other) in
          (t.0, t.1, t.2 ∙ sym text, t.3, t.4)
      by_test false ended =
          let t = written_front a.pieces short in
          let text : body_text asked shape_chunked a ≡ flat_map chunk_text a.pieces =
          ap₂ (λ x y. x ++ y) (chunk_pieces asked other 0 a.pieces) (cond-false a.is_ended _ [] ended) ∙ append-nil (flat_map chunk_text a.pieces) in
          (t.0, t.1, t.2 ∙ sym text, t.3)

  chunked_case : is_bodiless answer.status ≡ false → minor ≡ 1 → AreShort a.pieces → P size_stream shape_chunked
  chunked_case bodied eleven short no_length no_coding = record {
    kind = chunked_body;
    is = lines_read shape_chunked size_stream (line_of (codes "transfer-encoding") (codes "chunked") ∷ []) (the_lines bodied shape_chunked size_stream) no_length no_coding
        ∙ chunked_kind answer.status (content bodied) (not_101 bodied) minor eleven;
    body = by_head asked shape_chunked a chunked_body a.is_ended (chunked_sent short);
  }

  -- the shape of an answer with a body
  bodied_shape : (size : BodySize) → is_bodiless answer.status ≡ false → shape_of asked answer size ≡ sized_shape asked answer size
  bodied_shape size bodied = cond-false (eqb answer.status 101) _ _ (not_101 bodied) ∙ cond-false (is_bodiless answer.status) _ _ bodied

  -- each size
  module _ (high : 200 ≤ answer.status) (newer : eqb asked.minor 0 ≡ false → minor ≡ 1) (short : AreShort a.pieces) where
    by_size : (size : BodySize) → is_bodiless answer.status ≡ false → (size ≡ size_none → asked.is_head ≡ true) → ((n : ℕ) → size ≡ size_of n → n < 2 ^ 64)
        → is_raw (sized_shape asked answer size) ≡ false → P size (sized_shape asked answer size)
    by_size size_none bodied none fits raw = head_case bodied (none refl)
    by_size (size_of n) bodied none fits raw =
        elim (cases_eq n 0) [
          | inl zero_is ↦ subst (P (size_of n)) (sym (cond-true (eqb n 0) shape_none (shape_length n) (eq-eqb n 0 zero_is))) (empty_case n bodied (fits n refl) zero_is)
          | inr other ↦
              let shape : sized_shape asked answer (size_of n) ≡ shape_length n = cond-false (eqb n 0) shape_none (shape_length n) (ne_eqb n 0 other) in
              subst (P (size_of n)) (sym shape) (length_case n bodied (fits n refl) (positive n other))
        ]
      where
        positive : (k : ℕ) → (k ≡ 0 → ⊥) → 0 < k
        positive zero other = absurd (other refl)
        positive (suc k) other = omega arith
    by_size size_stream bodied none fits raw = by_test (asked.is_raw || (asked.minor == 0) || answer.no_chunking) refl raw
      where
        by_test : (t : Bool) → (asked.is_raw || (asked.minor == 0) || answer.no_chunking) ≡ t → is_raw (cond t shape_raw shape_chunked) ≡ false
            → P size_stream (cond t shape_raw shape_chunked)
        by_test true is raw = absurd (false≢true (sym raw))
        by_test false is raw = chunked_case bodied (newer (middle asked.is_raw (eqb asked.minor 0) answer.no_chunking is)) short

    by_status : (size : BodySize) → (size ≡ size_none → (is_bodiless answer.status ≡ true) ⊎ (asked.is_head ≡ true)) → ((n : ℕ) → size ≡ size_of n → n < 2 ^ 64)
        → is_raw (shape_of asked answer size) ≡ false → P size (shape_of asked answer size)
    by_status size none fits raw = by_test (is_bodiless answer.status) refl
      where
        by_test : (t : Bool) → is_bodiless answer.status ≡ t → P size (shape_of asked answer size)
        by_test true bodiless =
            let not_switching : eqb answer.status 101 ≡ false = ne_eqb answer.status 101 (λ e. omega arith) in
            subst (P size) (sym (cond-false (eqb answer.status 101) _ _ not_switching ∙ cond-true (is_bodiless answer.status) _ _ bodiless)) (bodiless_case size bodiless high)
        by_test false bodied =
            let shape = bodied_shape size bodied in
            let head : size ≡ size_none → asked.is_head ≡ true = λ is. elim (none is) [ inl x ↦ absurd (false≢true (sym bodied ∙ x)) | inr x ↦ x ] in
            subst (P size) (sym shape) (by_size size bodied head fits (subst (λ s. is_raw s ≡ false) shape raw))

-- ---- a plain answer is sent

-- what is framed isn't refused
framed_body : (minor status : ℕ) (lines : List Header) (kind : BodyKind) → answer_kind minor status lines ≡ Some kind
    → (answer_kind minor status lines ≡ Some (answer_body minor status lines)) × (answer_body minor status lines ≡ kind)
framed_body minor status lines kind is = by_test (is_answer_refused minor lines) is
  where
    by_test : (t : Bool) → cond t None (Some (answer_body minor status lines)) ≡ Some kind
        → (cond t None (Some (answer_body minor status lines)) ≡ Some (answer_body minor status lines)) × (answer_body minor status lines ≡ kind)
    by_test true e = cc
    by_test false e = (refl, cc)

-- HTTP/1.0 or HTTP/1.1
newest : (minor : ℕ) → minor ≤ 1 → eqb minor 0 ≡ false → minor ≡ 1
newest zero version newer = absurd (false≢true (sym newer))
newest (suc zero) version newer = refl
newest (suc (suc n)) version newer = absurd (omega (arith, version))

-- a plain answer is sent
pub plain_sent : (setting : Setting) (h : Head) (a : AnswerGiven) → h.minor ≤ 1 → IsSelfFramed setting h a → IsSent (sent_answer setting h a)
plain_sent setting h a version x =
    let answer = a.answered.head in
    let shape = given_shape h a in
    let lines = given_lines setting h a in
    let kind = type_of setting a.answered.drained (asked_of h) answer a.answered.size in
    let f : F (asked_of h) answer a h.minor a.moment kind a.answered.size shape = elim (cases_eq answer.status 304) [
      | inl same ↦ not_modified_case (asked_of h) answer a h.minor a.moment kind a.answered.size same (x.unrefused same)
      | inr other ↦
          let own : (eqb answer.status 304 || (is_raw shape && not (eqb answer.status 101))) ≡ false =
          (λ i. ne_eqb answer.status 304 other i || (is_raw shape && not (eqb answer.status 101))) ∙ ap (λ t. t && not (eqb answer.status 101)) x.shape in
          by_status (asked_of h) answer a h.minor a.moment kind x.status (newest h.minor version) x.short a.answered.size x.size x.fits x.shape
          (no_length answer shape own (by_name answer.headers)) (no_coding answer shape own (by_name answer.headers))
    ] in
    let body = framed_body h.minor answer.status lines f.kind f.is in
    record {
      back = x.back;
      strict = refl;
      status = omega (arith, x.status);
      few = x.few;
      framed = body.0;
      connection = refl;
      body = subst (λ k. IsBodySent (is_complete h a) (body_to h.method k) (body_text (asked_of h) shape a) (carried h a)) (sym body.1) f.body;
    }
