-- Answers depend on the bytes from their first place on, and not on those in front.
use Rattle.std.proofs.Common.{◌≡◌, ℕ, ◌+◌, ◌≤◌, Bool, true, false, List, [], ◌∷◌, length, drop, map, slice_range, Option, Some, None, MatchOption, option_map, refl, sym, ap, ◌∙◌, subst, inl, inr, arith, length-drop}
use Rattle.std.proofs.lemmas.Bool.{cases_lt}
use Rattle.std.proofs.lemmas.List.{drop-drop}
use Rattle.model_h1.specs.Chunked.{Chunked, unfinished, not_chunked, IsChunked}
use Rattle.model_h1.specs.Chunked as chunked
use Rattle.model_h1.specs.HeadPiece.{IsHeadPiece, HasNoHeadPiece}
use Rattle.model_h1.specs.Request.{BodyKind, no_body, fixed_body, chunked_body, raw_body}
use Rattle.model_h1.specs.Parse.{Body, content, ended_at, still_open, run_between, open_or_cut, fixed_content, raw_content, trailer_header, chunked_stop, next_start, IsBodyOf}
use Rattle.model_h1.specs.Laws.Moved.{moved_stop, moved_body}
use Rattle.model_h1.proofs.BodyGrowth.{fixed_whole, fixed_part}
use Rattle.model_h1.proofs.MovedLemmas.{shifted-shifted, moved_between, moved_open_or_cut, moved_next}
use Rattle.model_client.specs.AnswerTable.{body_to}
use Rattle.model_client.specs.AnswerReading.{AnswerReading, answer_is, refused, IsAnswerReadingWithin}
use Rattle.model_client.specs.AnswerParse.{Received, body_input, AnswerMessage, IsAnswerBody, IsAnswerAt, left_waiting, AreAnswersFrom, AreAnswersIn}
use Rattle.model_client.specs.Laws.Moved.{moved_answer}
use Rattle.model_client.proofs.AnswerLemmas.{answers_unique}
use Rattle.model_client.proofs.AnswerGrowth.{received}
use Rattle.model_client.proofs.AnswerExistence.{answers_exist_from}

-- ---- runs and stops

-- how a body in chunks stops
moved_chunked_stop : (len : ℕ) (bytes rest : List ℕ) (ended : Bool) (limit : Option ℕ) (place : ℕ) (a : Chunked)
    → moved_stop len (chunked_stop (body_input (received rest ended limit)) place a) ≡ chunked_stop (body_input (received bytes ended limit)) (len + place) a
moved_chunked_stop len bytes rest ended limit place (chunked.whole k trailers) =
    let end : len + (place + k) ≡ len + place + k = omega arith in
    λ i. ended_at (end i) (map trailer_header trailers)
moved_chunked_stop len bytes rest ended limit place unfinished = moved_open_or_cut len ended
moved_chunked_stop len bytes rest ended limit place not_chunked = refl

-- ---- bodies

-- a body of a fixed length
moved_fixed : (len : ℕ) (bytes : List ℕ) (ended : Bool) (limit : Option ℕ) (place n : ℕ) → len ≤ length bytes
    → moved_body len (fixed_content (body_input (received (drop len bytes) ended limit)) place n) ≡ fixed_content (body_input (received bytes ended limit)) (len + place) n
moved_fixed len bytes ended limit place n within =
    let rest = drop len bytes in
    let left = length-drop len bytes in
    elim (cases_lt (length rest) (place + n)) [
      | inr fits ↦
          let end : len + (place + n) ≡ len + place + n = omega arith in
          ap (moved_body len) (fixed_whole rest None ended 0 place n fits)
          ∙ (λ i. content (moved_between len place (place + n) i) (ended_at (end i) []))
          ∙ (λ i. content (run_between (len + place) (end i)) (ended_at (len + place + n) []))
          ∙ sym (fixed_whole bytes None ended 0 (len + place) n (omega arith))
      | inl short ↦
          let all : len + length rest ≡ length bytes = omega arith in
          ap (moved_body len) (fixed_part rest None ended 0 place n short)
          ∙ (λ i. content (moved_between len place (length rest) i) (moved_open_or_cut len ended i))
          ∙ (λ i. content (run_between (len + place) (all i)) (open_or_cut ended))
          ∙ sym (fixed_part bytes None ended 0 (len + place) n (omega arith))
    ]

-- all bytes from a place on
moved_raw : (len : ℕ) (bytes : List ℕ) (ended : Bool) (limit : Option ℕ) (place : ℕ) → len ≤ length bytes
    → moved_body len (raw_content (body_input (received (drop len bytes) ended limit)) place) ≡ raw_content (body_input (received bytes ended limit)) (len + place)
moved_raw len bytes true limit place within =
    let all : len + length (drop len bytes) ≡ length bytes = omega (arith, length-drop len bytes) in
    (λ i. content (moved_between len place (length (drop len bytes)) i) (ended_at (all i) []))
    ∙ (λ i. content (run_between (len + place) (all i)) (ended_at (length bytes) []))
moved_raw len bytes false limit place within =
    let all : len + length (drop len bytes) ≡ length bytes = omega (arith, length-drop len bytes) in
    (λ i. content (moved_between len place (length (drop len bytes)) i) still_open)
    ∙ (λ i. content (run_between (len + place) (all i)) still_open)

-- each kind of body
moved_of_kind : (len : ℕ) (bytes : List ℕ) (ended : Bool) (limit : Option ℕ) (kind : BodyKind) (place : ℕ) (b : Body) → len ≤ length bytes
    → IsBodyOf (body_input (received (drop len bytes) ended limit)) kind place b
    → IsBodyOf (body_input (received bytes ended limit)) kind (len + place) (moved_body len b)
moved_of_kind len bytes ended limit no_body place b within x = ap (moved_body len) x
moved_of_kind len bytes ended limit (fixed_body n) place b within x = ap (moved_body len) x ∙ moved_fixed len bytes ended limit place n within
moved_of_kind len bytes ended limit chunked_body place b within x = (
  x.0,
  x.1,
  subst (λ t. IsChunked t x.0 x.1) (drop-drop place len bytes) x.2,
  ap (moved_body len) x.3 ∙ (λ i. content (shifted-shifted len place x.1 i) (moved_chunked_stop len bytes (drop len bytes) ended limit place x.0 i)),
)
moved_of_kind len bytes ended limit raw_body place b within x = ap (moved_body len) x ∙ moved_raw len bytes ended limit place within

-- the body that follows a reading
moved_after : (len : ℕ) (bytes : List ℕ) (ended : Bool) (limit : Option ℕ) (method : List ℕ) (r : AnswerReading) (place : ℕ) (b : Body) → len ≤ length bytes
    → IsAnswerBody (received (drop len bytes) ended limit) method r place b
    → IsAnswerBody (received bytes ended limit) method r (len + place) (moved_body len b)
moved_after len bytes ended limit method (refused fault) place b within x = ap (moved_body len) x
moved_after len bytes ended limit method (answer_is a) place b within x = moved_of_kind len bytes ended limit (body_to method a.body) place b within x

-- ---- answers

-- an answer
moved_at : (len : ℕ) (bytes : List ℕ) (ended : Bool) (limit : Option ℕ) (place : ℕ) (method : List ℕ) (m : AnswerMessage) → len ≤ length bytes
    → IsAnswerAt (received (drop len bytes) ended limit) place method m
    → IsAnswerAt (received bytes ended limit) (len + place) method (moved_answer len m)
moved_at len bytes ended limit place method m within x =
    let same = drop-drop place len bytes in
    record {
      start = x.start;
      end = x.end;
      piece = subst (λ t. IsHeadPiece t x.start x.end) same x.piece;
      body_start = omega (arith, x.body_start);
      reading = subst (λ t. IsAnswerReadingWithin limit (slice_range t x.start x.end) m.reading) same x.reading;
      body = moved_after len bytes ended limit method m.reading m.body_start m.body within x.body;
    }

-- what follows an answer
moved_rest : (waits : ℕ → Bool) (len : ℕ) (bytes : List ℕ) (ended : Bool) (limit : Option ℕ) (methods : List (List ℕ)) (next : Option ℕ) (ms : List AnswerMessage)
    → ((place : ℕ) → AreAnswersFrom waits (received (drop len bytes) ended limit) place methods ms
    → AreAnswersFrom waits (received bytes ended limit) (len + place) methods (map (moved_answer len) ms))
    → MatchOption next (ms ≡ []) (λ place. AreAnswersFrom waits (received (drop len bytes) ended limit) place methods ms)
    → MatchOption (option_map (λ place. len + place) next) (map (moved_answer len) ms ≡ [])
    (λ place. AreAnswersFrom waits (received bytes ended limit) place methods (map (moved_answer len) ms))
moved_rest waits len bytes ended limit methods None ms move x = ap (map (moved_answer len)) x
moved_rest waits len bytes ended limit methods (Some place) ms move x = move place x

-- answers of the rest of the bytes are those from there on
answers_moved : (waits : ℕ → Bool) (len : ℕ) (bytes : List ℕ) (ended : Bool) (limit : Option ℕ) (place : ℕ) (methods : List (List ℕ)) (ms : List AnswerMessage) → len ≤ length bytes
    → AreAnswersFrom waits (received (drop len bytes) ended limit) place methods ms
    → AreAnswersFrom waits (received bytes ended limit) (len + place) methods (map (moved_answer len) ms)
answers_moved waits len bytes ended limit place [] ms within x = ap (map (moved_answer len)) x
answers_moved waits len bytes ended limit place (method ∷ methods) [] within x = subst HasNoHeadPiece (drop-drop place len bytes) x
answers_moved waits len bytes ended limit place (method ∷ methods) (m ∷ ms) within x =
    let left = left_waiting waits m.reading method methods in
    let rest = moved_rest waits len bytes ended limit left (next_start m.body) ms (λ next y. answers_moved waits len bytes ended limit next left ms within y) x.1 in (
      moved_at len bytes ended limit place method m within x.0,
      subst (λ o. MatchOption o (map (moved_answer len) ms ≡ []) (λ next. AreAnswersFrom waits (received bytes ended limit) next left (map (moved_answer len) ms)))
          (sym (moved_next len m.body)) rest,
    )

-- the answers of the rest, counted from the front
pub answers_of_rest : (waits : ℕ → Bool) (r : Received) (place : ℕ) (methods : List (List ℕ)) (ms : List AnswerMessage) → place ≤ length r.bytes
    → AreAnswersIn waits (record r { bytes = drop place r.bytes }) methods ms → AreAnswersFrom waits r place methods (map (moved_answer place) ms)
answers_of_rest waits r place methods ms within x =
    let here : place + 0 ≡ place = omega arith in
    subst (λ n. AreAnswersFrom waits r n methods (map (moved_answer place) ms)) here (answers_moved waits place r.bytes r.ended r.hold_size 0 methods ms within x)

-- and there are no others
pub answers_are_of_rest : (waits : ℕ → Bool) (r : Received) (place : ℕ) (methods : List (List ℕ)) (ms : List AnswerMessage) → place ≤ length r.bytes
    → AreAnswersFrom waits r place methods ms
    → (rest : List AnswerMessage) × AreAnswersIn waits (record r { bytes = drop place r.bytes }) methods rest × (ms ≡ map (moved_answer place) rest)
answers_are_of_rest waits r place methods ms within x =
    let rest = answers_exist_from waits (record r { bytes = drop place r.bytes }) 0 methods in
    (rest.0, rest.1, answers_unique waits r place methods ms (map (moved_answer place) rest.0) x (answers_of_rest waits r place methods rest.0 within rest.1))
