-- The first bytes of answers that were sent are read as far as they came.
use Rattle.std.proofs.Common.{◌≡◌, ◌⊎◌, ℕ, ◌+◌, ◌<◌, ◌≤◌, Bool, true, false, ◌&&◌, List, [], ◌∷◌, ◌++◌, length, drop, slice_range, Option, None, MatchOption, refl, sym, ap, ap₂, ◌∙◌, subst, subst₂, inl, inr, arith, length-drop, le-leb}
use Rattle.std.specs.Prelude.{nat_le}
use Rattle.std.proofs.lemmas.Bool.{false≢true, cases_lt}
use Rattle.model_h1.specs.Runs.{Run, run_bytes}
use Rattle.model_h1.specs.Parse.{Body, content, next_start, IsBodyOf}
use Rattle.model_h1.specs.Handed.{Begins}
use Rattle.model_h1.proofs.BodyLemmas.{input}
use Rattle.model_h1.proofs.HeadPieceLemmas.{head_piece_unique}
use Rattle.model_h1.proofs.MessageGrowth.{piece_long, placed_piece, placed_slice}
use Rattle.model_client.specs.AnswerTable.{body_to}
use Rattle.model_client.specs.AnswerReading.{answer_is, IsAnswerReadingWithin}
use Rattle.model_client.specs.AnswerParse.{Received, AnswerMessage, IsAnswerBody, IsAnswerAt, left_waiting, AreAnswersFrom}
use Rattle.model_client.proofs.AnswerLemmas.{answer_within_unique}
use Rattle.model_client.proofs.AnswerGrowth.{received, left_waiting-append}
use Rattle.model_ends.specs.SentAnswer.{SentAnswer, IsSent, AreSent, AreHeld, sent_text, stop_of, AreTo, IsReadAs, IsBegunAs, all_came, AreBegunAs, AreReadAs}
use Rattle.model_ends.proofs.HeadFronts.{head_late}
use Rattle.model_ends.proofs.BegunBodies.{body_begun}
use Rattle.model_ends.proofs.SentAnswers.{sent_is_read}

module _ (ended : Bool) (limit : Option ℕ) where
  -- one answer, whose first bytes came, against the same where all came
  answer_begun : (bytes more : List ℕ) (place : ℕ) (m n : AnswerMessage) (s : SentAnswer) → IsSent s
      → IsAnswerAt (received bytes ended limit) place s.method m → IsAnswerAt (received (bytes ++ more) false limit) place s.method n
      → IsReadAs (received (bytes ++ more) false limit) place n s → IsBegunAs (received bytes ended limit) place m s
  answer_begun bytes more place m n s sent x y read =
      let all = bytes ++ more in
      let end = place + length s.head + length s.body in
      let kind = body_to s.method s.answer.body in
      let long = piece_long bytes place x.start x.end x.piece in
      let piece = head_piece_unique (drop place all) x.start x.end y.start y.end (placed_piece bytes more place x.start x.end x.piece) y.piece in
      let body_start : m.body_start ≡ n.body_start = x.body_start ∙ ap (λ e. place + e) piece.1 ∙ sym y.body_start in
      let text : slice_range (drop place all) y.start y.end ≡ slice_range (drop place bytes) x.start x.end =
      ap₂ (slice_range (drop place all)) (sym piece.0) (sym piece.1) ∙ placed_slice bytes more place x.start x.end x.piece in
      let reading : m.reading ≡ answer_is s.answer = answer_within_unique limit (slice_range (drop place bytes) x.start x.end) m.reading n.reading x.reading
      (subst (λ t. IsAnswerReadingWithin limit t n.reading) text y.reading) ∙ read.head in
      let within : m.body_start ≤ length bytes = omega (arith, x.body_start, x.piece.in_range, length-drop place bytes, long) in
      let mine : IsBodyOf (input bytes None ended 0) kind m.body_start m.body = subst (λ k. IsAnswerBody (received bytes ended limit) s.method k m.body_start m.body) reading x.body in
      let theirs : IsBodyOf (input all None false 0) kind m.body_start (content read.runs (stop_of s.is_whole false end)) =
      subst (λ b. IsBodyOf (input all None false 0) kind m.body_start b) read.body
      (subst₂ (λ k p. IsAnswerBody (received all false limit) s.method k p n.body) read.head (sym body_start) y.body) in
      let b = body_begun bytes more ended m.body_start within read.runs end kind s.is_whole s.body s.bytes m.body sent.body mine theirs in
      record {
        head = reading;
        start = body_start ∙ read.start;
        within = within;
        runs = b.runs;
        body = b.is;
        begins = subst (λ l. Begins (run_bytes bytes b.runs) l) read.carried b.begins;
        carried = λ there. b.carried there ∙ read.carried;
      }

  -- ---- all answers

  module _ (waits : ℕ → Bool) (bytes more : List ℕ) where
    abbrev front : Received
    front = received bytes ended limit

    abbrev full : Received
    full = received (bytes ++ more) false limit

    -- what follows an answer that isn't all there
    none_left : (place : ℕ) (methods : List (List ℕ)) (ss : List SentAnswer) → (ss ≡ []) ⊎ (length bytes < place) → AreBegunAs waits front place methods [] ss
    none_left place [] ss x = refl
    none_left place (method ∷ methods) [] x = tt
    none_left place (method ∷ methods) (s ∷ ss) (inl none) = cc
    none_left place (method ∷ methods) (s ∷ ss) (inr late) = omega (arith, late)

    -- what follows an answer, by whether all of it came
    rest_begun : (all_there ended' : Bool) (end : ℕ) (runs : List Run) (body : Body) (left : List (List ℕ)) (ms : List AnswerMessage) (ss : List SentAnswer)
        → body ≡ content runs (stop_of all_there ended' end) → (all_there ≡ false → (ss ≡ []) ⊎ (length bytes < end))
        → (all_there ≡ true → AreAnswersFrom waits front end left ms → AreBegunAs waits front end left ms ss)
        → MatchOption (next_start body) (ms ≡ []) (λ next. AreAnswersFrom waits front next left ms) → AreBegunAs waits front end left ms ss
    rest_begun true ended' end runs body left ms ss is part go x =
        go refl (subst (λ b. MatchOption (next_start b) (ms ≡ []) (λ next. AreAnswersFrom waits front next left ms)) is x)
    rest_begun false true end runs body left ms ss is part go x =
        let none : ms ≡ [] = subst (λ b. MatchOption (next_start b) (ms ≡ []) (λ next. AreAnswersFrom waits front next left ms)) is x in
        subst (λ l. AreBegunAs waits front end left l ss) (sym none) (none_left end left ss (part refl))
    rest_begun false false end runs body left ms ss is part go x =
        let none : ms ≡ [] = subst (λ b. MatchOption (next_start b) (ms ≡ []) (λ next. AreAnswersFrom waits front next left ms)) is x in
        subst (λ l. AreBegunAs waits front end left l ss) (sym none) (none_left end left ss (part refl))

    -- an answer isn't all there: it is under way, or ends later
    part_of : (is_whole : Bool) (end : ℕ) (ss : List SentAnswer) → (is_whole ≡ false → ss ≡ []) → (is_whole && nat_le end (length bytes)) ≡ false
        → (ss ≡ []) ⊎ (length bytes < end)
    part_of false end ss last part = inl (last refl)
    part_of true end ss last part = elim (cases_lt (length bytes) end) [
      | inl late ↦ inr late
      | inr early ↦ absurd (false≢true (sym part ∙ le-leb end (length bytes) early))
    ]

    whole_of : (is_whole t : Bool) → (is_whole && t) ≡ true → is_whole ≡ true
    whole_of true t x = refl
    whole_of false t x = x

    next_of : (n : AnswerMessage) (end : ℕ) (runs : List Run) (is_whole : Bool) (left : List (List ℕ)) (ns : List AnswerMessage)
        → n.body ≡ content runs (stop_of is_whole false end) → is_whole ≡ true
        → MatchOption (next_start n.body) (ns ≡ []) (λ next. AreAnswersFrom waits full next left ns) → AreAnswersFrom waits full end left ns
    next_of n end runs is_whole left ns is whole y =
        subst (λ b. MatchOption (next_start b) (ns ≡ []) (λ next. AreAnswersFrom waits full next left ns)) (is ∙ ap (λ t. content runs (stop_of t false end)) whole) y

    begun_from : (place : ℕ) (asked unasked : List (List ℕ)) (ms ns : List AnswerMessage) (ss : List SentAnswer) → AreSent ss → AreTo waits (asked ++ unasked) ss
        → AreAnswersFrom waits front place asked ms → AreAnswersFrom waits full place (asked ++ unasked) ns → AreReadAs full place ns ss
        → AreBegunAs waits front place asked ms ss
    begun_from place [] unasked ms ns ss sent to x y read = x
    begun_from place (method ∷ asked) unasked [] ns [] sent to x y read = tt
    begun_from place (method ∷ asked) unasked [] [] (s ∷ ss) sent to x y read = absurd read
    begun_from place (method ∷ asked) unasked [] (n ∷ ns) (s ∷ ss) sent to x y read =
        omega (arith, head_late bytes more place y.0.start y.0.end x y.0.piece, y.0.body_start, read.0.start)
    begun_from place (method ∷ asked) unasked (m ∷ ms) [] [] sent to x y read =
        absurd (y x.0.start x.0.end (placed_piece bytes more place x.0.start x.0.end x.0.piece))
    begun_from place (method ∷ asked) unasked (m ∷ ms) (n ∷ ns) [] sent to x y read = absurd read
    begun_from place (method ∷ asked) unasked (m ∷ ms) [] (s ∷ ss) sent to x y read = absurd read
    begun_from place (method ∷ asked) unasked (m ∷ ms) (n ∷ ns) (s ∷ ss) sent to x y read =
        let first : method ≡ s.method = cc in
        let others : asked ++ unasked ≡ to.0 = cc in
        let end = place + length s.head + length s.body in
        let here = answer_begun bytes more place m n s sent.0 (subst (λ k. IsAnswerAt front place k m) first x.0) (subst (λ k. IsAnswerAt full place k n) first y.0) read.0 in
        let left = left_waiting waits m.reading method asked in
        let same : left_waiting waits n.reading method (asked ++ unasked) ≡ left ++ unasked =
        ap (λ k. left_waiting waits k method (asked ++ unasked)) (read.0.head ∙ sym here.head) ∙ left_waiting-append waits m.reading method asked unasked in
        let to_left : left_waiting waits (answer_is s.answer) s.method to.0 ≡ left ++ unasked =
        (λ i. left_waiting waits (sym read.0.head i) (sym first i) (sym others i)) ∙ same in
        let there : s.is_whole ≡ true → AreAnswersFrom waits full end (left ++ unasked) ns = λ whole.
        next_of n end read.0.runs s.is_whole (left ++ unasked) ns read.0.body whole
        (subst (λ l. MatchOption (next_start n.body) (ns ≡ []) (λ next. AreAnswersFrom waits full next l ns)) same y.1) in (
          here,
          rest_begun (all_came front place s) ended end here.runs m.body left ms ss here.body (part_of s.is_whole end ss sent.1)
              (λ all_there answers. begun_from end left unasked ms ns ss sent.2 (subst (λ l. AreTo waits l ss) to_left to.2) answers
              (there (whole_of s.is_whole _ all_there)) read.1) x.1,
        )

  -- the first bytes of what was sent are read as far as they came
  pub begun_read : (waits : ℕ → Bool) (r : Received) (more : List ℕ) (asked unasked : List (List ℕ)) (ms : List AnswerMessage) (ss : List SentAnswer) → r.ended ≡ ended
      → r.hold_size ≡ limit → r.bytes ++ more ≡ sent_text ss → AreSent ss → AreHeld limit ss → AreTo waits (asked ++ unasked) ss
      → AreAnswersFrom waits r 0 asked ms → AreBegunAs waits r 0 asked ms ss
  begun_read waits r more asked unasked ms ss is_ended is_limit is sent held to are =
      let same : r ≡ received r.bytes ended limit = λ i. received r.bytes (is_ended i) (is_limit i) in
      let n = sent_is_read waits (received (r.bytes ++ more) false limit) (asked ++ unasked) ss is sent held to in
      subst (λ k. AreBegunAs waits k 0 asked ms ss) (sym same)
      (begun_from waits r.bytes more 0 asked unasked ms n.0 ss sent to (subst (λ k. AreAnswersFrom waits k 0 asked ms) same are) n.1 n.2)
