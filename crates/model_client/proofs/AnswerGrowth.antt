-- Answers when bytes or requests follow: each keeps its place and its reading, and its body grows.
use Rattle.std.proofs.Common.{◌≡◌, ℕ, ◌+◌, ◌≤◌, Bool, true, false, List, [], ◌∷◌, ◌++◌, length, drop, slice_range, cond, Option, Some, None, MatchOption, refl, sym, ap, ap₂, ◌∙◌, subst, subst₂, arith, length-drop}
use Rattle.model_h1.specs.Request.{head_is, malformed, faulty}
use Rattle.model_h1.specs.Parse.{Body, next_start}
use Rattle.model_h1.specs.Laws.Growth.{BodyGrows}
use Rattle.model_h1.proofs.HeadPieceLemmas.{head_piece_unique}
use Rattle.model_h1.proofs.MessageGrowth.{piece_long, placed_piece, placed_slice, next_closed}
use Rattle.model_h1.proofs.BodyGrowth.{body_grows}
use Rattle.model_client.specs.AnswerTable.{body_to}
use Rattle.model_client.specs.AnswerReading.{AnswerReading, answer_is, refused, IsAnswerReadingWithin}
use Rattle.model_client.specs.AnswerParse.{Received, AnswerMessage, IsAnswerBody, IsAnswerAt, left_waiting, AreAnswersFrom, AreAnswersIn}
use Rattle.model_client.specs.Laws.Growth.{AnswerGrows, AnswersGrow}
use Rattle.model_client.proofs.AnswerLemmas.{of_kind, answer_within_unique}

-- what was received, by its parts
abbrev pub received : List ℕ → Bool → Option ℕ → Received
received bytes ended limit = record { bytes = bytes; ended = ended; hold_size = limit }

-- the body that follows a reading grows
answer_body_grows : (bytes more : List ℕ) (ended : Bool) (limit : Option ℕ) (method : List ℕ) (r : AnswerReading) (place : ℕ) (a b : Body)
    → place ≤ length bytes → IsAnswerBody (received bytes false limit) method r place a
    → IsAnswerBody (received (bytes ++ more) ended limit) method r place b → BodyGrows bytes (bytes ++ more) a b
answer_body_grows bytes more ended limit method (refused fault) place a b within x y =
    body_grows bytes more None ended 0 (faulty malformed) place a b within x y
answer_body_grows bytes more ended limit method (answer_is h) place a b within x y =
    body_grows bytes more None ended 0 (head_is (of_kind (body_to method h.body))) place a b within x y

-- an answer grows to the answer at its place
answer_grows : (bytes more : List ℕ) (ended : Bool) (limit : Option ℕ) (place : ℕ) (method : List ℕ) (m n : AnswerMessage)
    → IsAnswerAt (received bytes false limit) place method m → IsAnswerAt (received (bytes ++ more) ended limit) place method n
    → AnswerGrows bytes (bytes ++ more) m n
answer_grows bytes more ended limit place method m n x y =
    let all = bytes ++ more in
    let long = piece_long bytes place x.start x.end x.piece in
    let piece = head_piece_unique (drop place all) x.start x.end y.start y.end (placed_piece bytes more place x.start x.end x.piece) y.piece in
    let body_start : m.body_start ≡ n.body_start = x.body_start ∙ ap (λ e. place + e) piece.1 ∙ sym y.body_start in
    let text : slice_range (drop place all) y.start y.end ≡ slice_range (drop place bytes) x.start x.end =
    ap₂ (slice_range (drop place all)) (sym piece.0) (sym piece.1) ∙ placed_slice bytes more place x.start x.end x.piece in
    let reading = answer_within_unique limit (slice_range (drop place bytes) x.start x.end) m.reading n.reading x.reading
    (subst (λ t. IsAnswerReadingWithin limit t n.reading) text y.reading) in
    let there = subst₂ (λ r p. IsAnswerBody (received all ended limit) method r p n.body) (sym reading) (sym body_start) y.body in
    let within : m.body_start ≤ length bytes = omega (arith, x.body_start, x.piece.in_range, length-drop place bytes, long) in
    record {
      reading = reading;
      body_start = body_start;
      body = answer_body_grows bytes more ended limit method m.reading m.body_start m.body n.body within x.body there;
    }

-- the methods that still wait, where more follow
pub left_waiting-append : (waits : ℕ → Bool) (r : AnswerReading) (method : List ℕ) (methods extra : List (List ℕ))
    → left_waiting waits r method (methods ++ extra) ≡ left_waiting waits r method methods ++ extra
left_waiting-append waits (refused fault) method methods extra = refl
left_waiting-append waits (answer_is a) method methods extra = by_test (waits a.status)
  where
    by_test : (t : Bool) → cond t (method ∷ (methods ++ extra)) (methods ++ extra) ≡ cond t (method ∷ methods) methods ++ extra
    by_test true = refl
    by_test false = refl

-- what follows an answer grows, if what follows each place does
rest_grows : (waits : ℕ → Bool) (bytes more : List ℕ) (ended : Bool) (limit : Option ℕ) (methods extra : List (List ℕ)) (a b : Option ℕ) (ms ns : List AnswerMessage)
    → ((next : ℕ) → a ≡ Some next → b ≡ Some next)
    → ((next : ℕ) → AreAnswersFrom waits (received bytes false limit) next methods ms
    → AreAnswersFrom waits (received (bytes ++ more) ended limit) next (methods ++ extra) ns → AnswersGrow bytes (bytes ++ more) ms ns)
    → MatchOption a (ms ≡ []) (λ next. AreAnswersFrom waits (received bytes false limit) next methods ms)
    → MatchOption b (ns ≡ []) (λ next. AreAnswersFrom waits (received (bytes ++ more) ended limit) next (methods ++ extra) ns)
    → AnswersGrow bytes (bytes ++ more) ms ns
rest_grows waits bytes more ended limit methods extra None b ms ns same grows x y = subst (λ ks. AnswersGrow bytes (bytes ++ more) ks ns) (sym x) tt
rest_grows waits bytes more ended limit methods extra (Some next) b ms ns same grows x y =
    let here = subst (λ o. MatchOption o (ns ≡ []) (λ k. AreAnswersFrom waits (received (bytes ++ more) ended limit) k (methods ++ extra) ns)) (same next refl) y in
    grows next x here

-- the answers from a place on grow
answers_grow : (waits : ℕ → Bool) (bytes more : List ℕ) (ended : Bool) (limit : Option ℕ) (place : ℕ) (methods extra : List (List ℕ)) (ms ns : List AnswerMessage)
    → AreAnswersFrom waits (received bytes false limit) place methods ms
    → AreAnswersFrom waits (received (bytes ++ more) ended limit) place (methods ++ extra) ns → AnswersGrow bytes (bytes ++ more) ms ns
answers_grow waits bytes more ended limit place [] extra ms ns x y = subst (λ ks. AnswersGrow bytes (bytes ++ more) ks ns) (sym x) tt
answers_grow waits bytes more ended limit place (method ∷ methods) extra [] ns x y = tt
answers_grow waits bytes more ended limit place (method ∷ methods) extra (m ∷ ms) [] x y =
    absurd (y x.0.start x.0.end (placed_piece bytes more place x.0.start x.0.end x.0.piece))
answers_grow waits bytes more ended limit place (method ∷ methods) extra (m ∷ ms) (n ∷ ns) x y =
    let first = answer_grows bytes more ended limit place method m n x.0 y.0 in
    let same : (next : ℕ) → next_start m.body ≡ Some next → next_start n.body ≡ Some next =
    λ next e. sym (ap next_start (first.body.closed (next_closed m.body next e)).0) ∙ e in
    let left = left_waiting waits m.reading method methods in
    let methods_left : left_waiting waits n.reading method (methods ++ extra) ≡ left ++ extra =
    ap (λ k. left_waiting waits k method (methods ++ extra)) (sym first.reading) ∙ left_waiting-append waits m.reading method methods extra in
    let there = subst (λ l. MatchOption (next_start n.body) (ns ≡ []) (λ next. AreAnswersFrom waits (received (bytes ++ more) ended limit) next l ns)) methods_left y.1 in (
      first,
      rest_grows waits bytes more ended limit left extra (next_start m.body) (next_start n.body) ms ns same
          (λ next. answers_grow waits bytes more ended limit next left extra ms ns) x.1 there,
    )

-- the answers of what was received grow
pub answers_stay : (waits : ℕ → Bool) (r s : Received) (more : List ℕ) (methods extra : List (List ℕ)) (ms ns : List AnswerMessage)
    → s.bytes ≡ r.bytes ++ more → s.hold_size ≡ r.hold_size → r.ended ≡ false → AreAnswersIn waits r methods ms
    → AreAnswersIn waits s (methods ++ extra) ns → AnswersGrow r.bytes s.bytes ms ns
answers_stay waits r s more methods extra ms ns bytes limit ended x y =
    let x' = subst (λ e. AreAnswersIn waits (received r.bytes e r.hold_size) methods ms) ended x in
    let y' : AreAnswersIn waits (received (r.bytes ++ more) s.ended r.hold_size) (methods ++ extra) ns =
    subst (λ (k : Received). AreAnswersIn waits k (methods ++ extra) ns) (λ n. received (bytes n) s.ended (limit n)) y in
    subst (λ t. AnswersGrow r.bytes t ms ns) (sym bytes) (answers_grow waits r.bytes more s.ended r.hold_size 0 methods extra ms ns x' y')
