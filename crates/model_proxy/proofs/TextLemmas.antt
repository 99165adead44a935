-- How the text of what is sent on grows.
use Rattle.std.proofs.Common.{◌≡◌, ℕ, ◌+◌, ◌-◌, Bool, true, false, not, List, [], ◌∷◌, ◌++◌, length, take, flat_map, refl, sym, ap, ◌∙◌, append-nil, append_assoc, length-append, inl, inr, arith}
use Rattle.std.specs.Prelude.{◌==◌, if◌then◌else◌}
use Rattle.std.proofs.Math.Seq.{take-nil, take-append-add}
use Rattle.std.proofs.lemmas.Bool.{cases_lt}
use Rattle.std.proofs.lemmas.List.Concat.{flat_map-append}
use Rattle.model_h1.specs.Request.{BodyKind, no_body, fixed_body, chunked_body, raw_body, has_body}
use Rattle.model_h1.specs.Answer.{BodySize, size_none, size_of, size_stream, Shape, shape_none, shape_length, shape_chunked, shape_raw}
use Rattle.model_h1.specs.AnswerText.{chunk_text, end_text}
use Rattle.model_state.specs.Reply.{stated}
use Rattle.model_client.specs.RequestText.{asked_shape, given_request_text, joined}
use Rattle.model_client.specs.ClientStep.{piece_of}
use Rattle.std.proofs.lemmas.List.{take-append-le, take_all}
use Rattle.model_proxy.specs.Forward.{states_length, size_by, forwarded_size, Sent, forwarded, pieces_sent, end_sent, forward}

-- ---- pieces

take_0 : (ys : List ℕ) → take 0 ys ≡ []
take_0 [] = refl
take_0 (y ∷ ys) = refl

-- the first bytes of two texts
take_both : (n : ℕ) (xs ys : List ℕ) → take n (xs ++ ys) ≡ take n xs ++ take (n - length xs) ys
take_both n xs ys = elim (cases_lt (length xs) n) [
  | inr within ↦
      let none : n - length xs ≡ 0 = omega arith in
      take-append-le n xs ys within ∙ sym (append-nil (take n xs)) ∙ ap (λ (l : List ℕ). take n xs ++ l) (sym (take_0 ys))
      ∙ ap (λ m. take n xs ++ take m ys) (sym none)
  | inl past ↦
      let all : length xs + (n - length xs) ≡ n = omega arith in
      ap (λ m. take m (xs ++ ys)) (sym all) ∙ take-append-add xs ys (n - length xs)
      ∙ ap (λ (l : List ℕ). l ++ take (n - length xs) ys) (sym (take_all n xs (omega arith)))
]

pub joined_more : (pieces : List (List ℕ)) (bytes : List ℕ) → joined (pieces ++ bytes ∷ []) ≡ joined pieces ++ bytes
joined_more pieces bytes =
    flat_map-append (λ (piece : List ℕ). piece) pieces (bytes ∷ []) ∙ ap (λ (t : List ℕ). joined pieces ++ t) (append-nil bytes)

chunks_more : (pieces : List (List ℕ)) (bytes : List ℕ) → flat_map chunk_text (pieces ++ bytes ∷ []) ≡ flat_map chunk_text pieces ++ chunk_text bytes
chunks_more pieces bytes =
    flat_map-append chunk_text pieces (bytes ∷ []) ∙ ap (λ (t : List ℕ). flat_map chunk_text pieces ++ t) (append-nil (chunk_text bytes))

abbrev if_none : Bool → ℕ → Shape
if_none t n = if t then shape_none else shape_length n

length_more : (t : Bool) (n : ℕ) (pieces : List (List ℕ)) (bytes : List ℕ) → pieces_sent (if_none t n) (pieces ++ bytes ∷ [])
    ≡ pieces_sent (if_none t n) pieces ++ piece_of (if_none t n) (stated (if_none t n) - length (joined pieces)) bytes
length_more true n pieces bytes = refl
length_more false n pieces bytes = ap (take n) (joined_more pieces bytes) ∙ take_both n (joined pieces) bytes

pub pieces_more : (size : BodySize) (pieces : List (List ℕ)) (bytes : List ℕ) → pieces_sent (asked_shape size) (pieces ++ bytes ∷ [])
    ≡ pieces_sent (asked_shape size) pieces ++ piece_of (asked_shape size) (stated (asked_shape size) - length (joined pieces)) bytes
pieces_more size_none pieces bytes = refl
pieces_more (size_of n) pieces bytes = length_more (n == 0) n pieces bytes
pieces_more size_stream pieces bytes = chunks_more pieces bytes

pub missing_more : (n : ℕ) (pieces : List (List ℕ)) (bytes : List ℕ) → n - length (joined pieces) - length bytes ≡ n - length (joined (pieces ++ bytes ∷ []))
missing_more n pieces bytes =
    let grown : length (joined (pieces ++ bytes ∷ [])) ≡ length (joined pieces) + length bytes =
    ap length (joined_more pieces bytes) ∙ length-append (joined pieces) bytes in
    omega (arith, grown)

-- ---- ends

pub no_end : (shape : Shape) → end_sent shape false ≡ []
no_end shape_none = refl
no_end (shape_length n) = refl
no_end shape_chunked = refl
no_end shape_raw = refl

pub whole_end : (shape : Shape) → end_sent shape true ≡ end_text shape
whole_end shape_none = refl
whole_end (shape_length n) = refl
whole_end shape_chunked = refl
whole_end shape_raw = refl

-- ---- a request that was just asked

abbrev tail_of : Shape → Bool → List ℕ
tail_of shape whole = pieces_sent shape [] ++ end_sent shape whole

length_tail : (t : Bool) (n : ℕ) (whole : Bool) → tail_of (if_none t n) whole ≡ []
length_tail true n whole = refl
length_tail false n whole = ap (λ (t : List ℕ). t ++ []) (take-nil n)

no_tail : (says : Bool) (kind : BodyKind) → tail_of (asked_shape (size_by says kind)) (not (has_body kind)) ≡ []
no_tail true no_body = refl
no_tail false no_body = refl
no_tail says (fixed_body n) = length_tail (n == 0) n false
no_tail says chunked_body = refl
no_tail says raw_body = refl

pub begun_text : (s : Sent) → s.pieces ≡ [] → s.is_whole ≡ not (has_body s.head.body) → forward s ≡ given_request_text (forwarded s)
begun_text s none whole =
    let shape = asked_shape (forwarded_size s.head) in
    let head = given_request_text (forwarded s) in
    ap (λ (ps : List (List ℕ)). head ++ (pieces_sent shape ps ++ end_sent shape s.is_whole)) none
    ∙ ap (λ (w : Bool). head ++ tail_of shape w) whole
    ∙ ap (λ (t : List ℕ). head ++ t) (no_tail (states_length s.head) s.head.body)
    ∙ append-nil head

-- ---- one of which more was taken

pub more_text : (s : Sent) (bytes : List ℕ) → s.is_whole ≡ false → forward (record s { pieces = s.pieces ++ bytes ∷ [] })
    ≡ forward s ++ piece_of (asked_shape (forwarded_size s.head)) (stated (asked_shape (forwarded_size s.head)) - length (joined s.pieces)) bytes
more_text s bytes unended =
    let size = forwarded_size s.head in
    let shape = asked_shape size in
    let head = given_request_text (forwarded s) in
    let piece = piece_of shape (stated shape - length (joined s.pieces)) bytes in
    let before = pieces_sent shape s.pieces in
    let ended : end_sent shape s.is_whole ≡ [] = ap (end_sent shape) unended ∙ no_end shape in
    ap (λ (t : List ℕ). head ++ (pieces_sent shape (s.pieces ++ bytes ∷ []) ++ t)) ended
    ∙ ap (λ (t : List ℕ). head ++ t) (append-nil (pieces_sent shape (s.pieces ++ bytes ∷ [])))
    ∙ ap (λ (t : List ℕ). head ++ t) (pieces_more size s.pieces bytes)
    ∙ sym (append_assoc head before piece)
    ∙ ap (λ (t : List ℕ). (head ++ t) ++ piece) (sym (append-nil before))
    ∙ ap (λ (t : List ℕ). (head ++ (before ++ t)) ++ piece) (sym ended)

pub end_text_sent : (s : Sent) → s.is_whole ≡ false
    → forward (record s { is_whole = true }) ≡ forward s ++ end_text (asked_shape (forwarded_size s.head))
end_text_sent s unended =
    let shape = asked_shape (forwarded_size s.head) in
    let head = given_request_text (forwarded s) in
    let before = pieces_sent shape s.pieces in
    let ended : end_sent shape s.is_whole ≡ [] = ap (end_sent shape) unended ∙ no_end shape in
    ap (λ (t : List ℕ). head ++ (before ++ t)) (whole_end shape)
    ∙ sym (append_assoc head before (end_text shape))
    ∙ ap (λ (t : List ℕ). (head ++ t) ++ end_text shape) (sym (append-nil before))
    ∙ ap (λ (t : List ℕ). (head ++ (before ++ t)) ++ end_text shape) (sym ended)
