-- The next answer that is handed out is the next one that was sent.
use Rattle.std.proofs.Common.{◌≡◌, ◌⊎◌, ℕ, ◌<◌, Bool, true, false, ◌&&◌, ◌||◌, not, eqb-true, List, [], ◌∷◌, ◌++◌, length, drop, reverse, slice_range, Option, Some, None, is_some, refl, sym, ap, ap₂, ◌∙◌, subst, inl, inr, arith, append-nil, append_assoc, codes, bytes_eq}
use Rattle.std.specs.Prelude.{IsTrue, if◌then◌else◌, nat_le, nat_lt, ◌==◌}
use Rattle.std.proofs.lemmas.Bool.{false≢true, cond-true}
use Rattle.std.proofs.lemmas.List.{drop_at, drop-append-le}
use Rattle.std.proofs.lemmas.Grind.{reverse_onto}
use Rattle.model_h1.specs.HeadPiece.{IsHeadPiece, HasNoHeadPiece}
use Rattle.model_h1.specs.Handed.{Item}
use Rattle.model_h1.specs.Request.{BodyKind, no_body, fixed_body, chunked_body, raw_body, has_body}
use Rattle.model_h1.specs.Setting.{Setting}
use Rattle.model_h1.proofs.HeadPieceLemmas.{head_piece_unique, head_piece_append, slice_range-append}
use Rattle.model_state.specs.Change.{IsComing}
use Rattle.model_state.specs.Kept.{Rest, whole_rest}
use Rattle.model_client.specs.AnswerTable.{has_no_content, answer_body, is_answer_refused, body_to}
use Rattle.model_client.specs.AnswerReading.{AnswerReading, answer_is, IsAnswerReadingWithin}
use Rattle.model_client.specs.AnswerParse.{is_interim, IsAnswerAt}
use Rattle.model_client.proofs.AnswerGrowth.{received}
use Rattle.model_client.proofs.AnswerLemmas.{answer_within_unique}
use Rattle.model_client.specs.ClientEvent as on
use Rattle.model_client.specs.ClientEvent.{ClientEnd, ClientOutcome, large_answer}
use Rattle.model_client.specs.ClientKept.{Waiting, ClientKept, is_free_of, is_free, client_closing, allowed_running, allowed_closing, is_moment, client_allows}
use Rattle.model_client.specs.ClientStep.{ClientChange, new_body, behind_final, behind_answer, behind_head, IsUpcoming, IsNext, KnowsComing}
use Rattle.model_client.proofs.Answered.{told_without}
use Rattle.model_ends.specs.SentAnswer.{SentAnswer, IsSent, AreSent, AreHeld, IsBodySent, sent_text, AreTo}
use Rattle.model_ends.proofs.HeadFronts.{head_late}
use Rattle.model_ends.proofs.SentAnswers.{message, answer_at, no_head}
use Rattle.model_client.specs.ReadOut.{ReadAnswer, ReadOut, reading_out}
use Rattle.model_ends.proofs.Rests.{RestSays, nil_both, body_says, rest_stays}
use Rattle.model_ends.proofs.Holds.{faulty_some, methods_of, AreSo, IsFree, IsBusy, Holds, like_holds}
use Rattle.model_ends.proofs.Pulls.{HoldsFor}

-- ---- why it doesn't close

-- a fault closes
pub failed_closes : (k : ClientKept) → is_some k.failed ≡ true → is_some (client_closing k) ≡ true
failed_closes k failed =
    let e : client_closing k ≡ k.failed = cond-true (is_some k.failed) k.failed _ failed in
    ap is_some e ∙ failed

-- the last of three tests holds where all do
last_holds : (a b c : Bool) → IsTrue (a && b && c) → IsTrue c
last_holds true true c x = x
last_holds true false c x = absurd (false≢true x)
last_holds false b c x = absurd (false≢true x)

-- what is allowed while it doesn't close
pub allowed_then : (setting : Setting) (k : ClientKept) (event : on.ClientEvent) → client_closing k ≡ None → IsTrue (client_allows setting k event)
    → IsTrue (allowed_running setting k event)
allowed_then setting k event going allowed =
    last_holds (not k.is_over) (is_moment k event) (allowed_running setting k event)
    (subst (λ (o : Option ClientEnd). IsTrue (not k.is_over && is_moment k event && (if is_some o then allowed_closing event else allowed_running setting k event)))
    going allowed)

-- and what is where it does
pub allowed_while : (setting : Setting) (k : ClientKept) (event : on.ClientEvent) (end : ClientEnd) → client_closing k ≡ Some end
    → IsTrue (client_allows setting k event) → IsTrue (allowed_closing event)
allowed_while setting k event end closing allowed =
    last_holds (not k.is_over) (is_moment k event) (allowed_closing event)
    (subst (λ (o : Option ClientEnd). IsTrue (not k.is_over && is_moment k event && (if is_some o then allowed_closing event else allowed_running setting k event)))
    closing allowed)

-- ---- interim answers

-- they have no content
interim_empty : (status : ℕ) → is_interim status ≡ true → has_no_content status ≡ true
interim_empty status e = by_tests (nat_le 100 status) (nat_lt status 200) (not (status == 101)) ((status == 204) || (status == 304)) (status == 204) (status == 304) e
  where
    by_tests : (a b c d x y : Bool) → (a && b && c) ≡ true → ((b && c) || x || y) ≡ true
    by_tests true true true d x y e = refl
    by_tests true true false d x y e = absurd (false≢true e)
    by_tests true false c d x y e = absurd (false≢true e)
    by_tests false b c d x y e = absurd (false≢true e)

-- a framed one has no body
interim_bodiless : (s : SentAnswer) → IsSent s → is_interim s.answer.status ≡ true → s.answer.body ≡ no_body
interim_bodiless s sent e =
    let kind = answer_body s.answer.minor s.answer.status s.answer.headers in
    let none : kind ≡ no_body = cond-true (has_no_content s.answer.status) no_body _ (interim_empty s.answer.status e) in
    by_test (is_answer_refused s.answer.minor s.answer.headers) kind sent.framed none
  where
    by_test : (t : Bool) (kind : BodyKind) → ◌≡◌ {A = Option BodyKind} (if t then None else Some kind) (Some s.answer.body) → kind ≡ no_body → s.answer.body ≡ no_body
    by_test true kind e none = absurd (cc e)
    by_test false kind e none = let same : s.answer.body ≡ kind = cc in same ∙ none

-- the text of no body
empty_text : (whole : Bool) (kind : BodyKind) (text bytes : List ℕ) → kind ≡ no_body → IsBodySent whole kind text bytes → text ≡ []
empty_text true kind text bytes none sent = (subst (λ (b : BodyKind). IsBodySent true b text bytes) none sent).0
empty_text false kind text bytes none sent = absurd (subst (λ (b : BodyKind). IsBodySent false b text bytes) none sent)

to_none : (method : List ℕ) → body_to method no_body ≡ no_body
to_none method = by_test (bytes_eq method (codes "HEAD"))
  where
    by_test : (t : Bool) → (if t then no_body else no_body) ≡ no_body
    by_test true = refl
    by_test false = refl

bodiless_kind : (kind : BodyKind) → has_body kind ≡ false → kind ≡ no_body
bodiless_kind no_body e = refl
bodiless_kind (fixed_body n) e = absurd (false≢true (sym e))
bodiless_kind chunked_body e = absurd (false≢true (sym e))
bodiless_kind raw_body e = absurd (false≢true (sym e))

-- ---- the front of what is left

module _ (size : ℕ) (unread future : List ℕ) (s : SentAnswer) (rest : List SentAnswer) (sent : AreSent (s ∷ rest)) (held : AreHeld (Some size) (s ∷ rest))
    (text : unread ++ future ≡ sent_text (s ∷ rest)) where
  abbrev behind : List ℕ
  behind = s.body ++ sent_text rest

  -- the head stands there
  there : IsAnswerAt (received (s.head ++ behind) true (Some size)) 0 s.method
      (message true (Some size) [] (sent_text rest) s sent.0 held.0 (λ part. ap sent_text (sent.1 part)))
  there = answer_at true (Some size) [] (sent_text rest) s sent.0 held.0 (λ part. ap sent_text (sent.1 part))

  end_is : there.end ≡ length s.head
  end_is = omega (arith, there.body_start)

  -- where no whole head is the bytes end before it does
  pub late : HasNoHeadPiece unread → length unread < length s.head
  late none =
      let piece = subst (λ (l : List ℕ). IsHeadPiece l there.start there.end) (sym text) there.piece in
      omega (arith, head_late unread future 0 there.start there.end none piece, end_is)

  -- and the head that is whole is this one
  module _ (start end : ℕ) (what : AnswerReading) (piece : IsHeadPiece unread start end)
      (reading : IsAnswerReadingWithin (Some size) (slice_range unread start end) what) where
    same : (start ≡ there.start) × (end ≡ there.end)
    same =
        head_piece_unique (s.head ++ behind) start end there.start there.end
        (subst (λ (l : List ℕ). IsHeadPiece l start end) text (head_piece_append unread future start end piece)) there.piece

    pub read_is : what ≡ answer_is s.answer
    read_is =
        let slice : slice_range (s.head ++ behind) there.start there.end ≡ slice_range unread start end =
        ap₂ (slice_range (s.head ++ behind)) (sym same.0) (sym same.1) ∙ ap (λ (l : List ℕ). slice_range l start end) (sym text)
        ∙ slice_range-append unread future start end piece.ordered piece.in_range in
        answer_within_unique (Some size) (slice_range unread start end) what (answer_is s.answer) reading
        (subst (λ (l : List ℕ). IsAnswerReadingWithin (Some size) l (answer_is s.answer)) slice there.reading)

    pub left_is : drop end unread ++ future ≡ behind
    left_is =
        sym (drop-append-le end unread future piece.in_range) ∙ ap (drop end) text ∙ ap (λ (n : ℕ). drop n (s.head ++ behind)) (same.1 ∙ end_is)
        ∙ drop_at s.head behind (length s.head) refl

-- no head is whole where nothing is left
nothing_whole : (unread future : List ℕ) (start end : ℕ) → unread ++ future ≡ [] → IsHeadPiece unread start end → ⊥
nothing_whole unread future start end text piece =
    let none = nil_both unread future text in
    no_head [] start end (subst (λ (l : List ℕ). IsHeadPiece l start end) none.0 piece)

-- ---- the next answer

module _ (setting : Setting) (ss : List SentAnswer) (some : 0 < setting.hold_size) where
  -- what is kept may hold no whole head, but never so many bytes as may be held
  not_full : (k : ClientKept) (future : List ℕ) (rest : List SentAnswer) → AreSent rest → AreHeld (Some setting.hold_size) rest
      → k.unread ++ future ≡ sent_text rest → HasNoHeadPiece k.unread → (length k.unread == setting.hold_size) ≡ true → ⊥
  not_full k future [] sent held text none full =
      let nil = nil_both k.unread future text in
      absurd (omega (arith, some, eqb-true (length k.unread) setting.hold_size full, ap length nil.0))
  not_full k future (s ∷ rest) sent held text none full =
      absurd (omega (arith, held.0, eqb-true (length k.unread) setting.hold_size full, late setting.hold_size k.unread future s rest sent held text none))

  module _ (stray : List Item) (outs : List ReadAnswer) (ds : List SentAnswer) (k : ClientKept) (future : List ℕ) (asked : List Waiting) where
    abbrev out : ReadOut
    out = record { stray = stray; answers = outs }

    abbrev HoldsIn : ClientChange → Type 0
    HoldsIn c = HoldsFor setting.hold_size ss (reading_out c.outcome out) c.kept future asked

    -- nothing happens
    waits_on : (rest : List SentAnswer) → Holds setting.hold_size ss stray outs ds rest k future asked → HoldsIn (record { outcome = on.pending; kept = k })
    waits_on rest h = (ds, rest, h)

    without : (rest : List SentAnswer) → Holds setting.hold_size ss stray outs ds rest k future asked → (full : Bool) → (full ≡ true → ⊥) → HoldsIn (told_without k full)
    without rest h true never = absurd (never refl)
    without rest h false never = waits_on rest h

    -- an answer is handed out
    module _ (s : SentAnswer) (rest : List SentAnswer) (h : Holds setting.hold_size ss stray outs ds (s ∷ rest) k future asked) (fine : k.failed ≡ None)
        (f : IsFree k future asked (s ∷ rest)) (w : Waiting) (ws : List Waiting) (waited : k.waiting ≡ w ∷ ws) (unread : List ℕ)
        (left : unread ++ future ≡ s.body ++ sent_text rest) where
      abbrev answered : ReadOut
      answered = record { stray = stray; answers = record { reading = answer_is s.answer; items = [] } ∷ outs }

      methods : w.method ∷ methods_of (ws ++ asked) ≡ s.method ∷ f.to.0
      methods = ap (λ (l : List Waiting). methods_of (l ++ asked)) (sym waited) ∙ f.to.1

      first : w.method ≡ s.method
      first = let e = methods in cc

      others : methods_of (ws ++ asked) ≡ f.to.0
      others = let e = methods in cc

      moved : ss ≡ reverse (s ∷ ds) ++ rest
      moved = h.are ∙ sym (ap (λ (l : List SentAnswer). l ++ rest) (reverse_onto ds s []) ∙ append_assoc (reverse ds) (s ∷ []) rest)

      so_now : AreSo k.has_ended (record { reading = answer_is s.answer; items = [] } ∷ outs) (s ∷ ds)
      so_now = (
        record {
          reading = refl;
          body = record { pieces = []; last = []; are = refl; some = tt; begins = (s.bytes, refl); stops = tt };
        },
        h.so,
      )

      interim : is_interim s.answer.status ≡ true → HoldsFor setting.hold_size ss answered (record k { unread = unread }) future asked
      interim e =
          let none : body_to s.method s.answer.body ≡ no_body = ap (body_to s.method) (interim_bodiless s h.sent.0 e) ∙ to_none s.method in
          let empty : s.body ≡ [] = empty_text s.is_whole (body_to s.method s.answer.body) s.body s.bytes none h.sent.0.body in (
            s ∷ ds,
            rest,
            record {
              none = h.none;
              are = moved;
              so = so_now;
              sent = h.sent.2;
              held = h.held.1;
              state = inr (
                fine,
                inl (record {
                  free = f.free;
                  text = left ∙ ap (λ (l : List ℕ). l ++ sent_text rest) empty;
                  to = subst (λ (l : List (List ℕ)). AreTo is_interim l rest) (sym f.to.1)
                      (subst (λ (t : Bool). AreTo is_interim (if t then s.method ∷ f.to.0 else f.to.0) rest) e f.to.2);
                }),
              );
            },
          )

      -- the body of one that is no interim one
      abbrev kind : BodyKind
      kind = body_to w.method s.answer.body

      sent_kind : IsBodySent s.is_whole kind s.body s.bytes
      sent_kind = subst (λ (m : List ℕ). IsBodySent s.is_whole (body_to m s.answer.body) s.body s.bytes) (sym first) h.sent.0.body

      final_to : is_interim s.answer.status ≡ false → AreTo is_interim (methods_of (ws ++ asked)) rest
      final_to e =
          subst (λ (l : List (List ℕ)). AreTo is_interim l rest) (sym others)
          (subst (λ (t : Bool). AreTo is_interim (if t then s.method ∷ f.to.0 else f.to.0) rest) e f.to.2)

      final : is_interim s.answer.status ≡ false → HoldsFor setting.hold_size ss answered (behind_final k unread s.answer w ws) future asked
      final e = (s ∷ ds, rest, record { none = h.none; are = moved; so = so_now; sent = h.sent.2; held = h.held.1; state = inr (fine, by_body (has_body kind) refl) })
        where
          by_body : (t : Bool) → has_body kind ≡ t
              → IsFree (behind_final k unread s.answer w ws) future asked rest
              ⊎ IsBusy (behind_final k unread s.answer w ws) future asked rest (record { reading = answer_is s.answer; items = [] } ∷ outs) (s ∷ ds)
          by_body false empty = inl (record {
            free = ap not empty;
            text = left ∙ ap (λ (l : List ℕ). l ++ sent_text rest) (empty_text s.is_whole kind s.body s.bytes (bodiless_kind kind empty) sent_kind);
            to = final_to e;
          })
          by_body true full =
              let says : RestSays (whole_rest kind) (s.body ++ sent_text rest) s.bytes s.is_whole (sent_text rest) =
              body_says kind s.is_whole s.body s.bytes (sent_text rest) full sent_kind (λ part. ap sent_text (h.sent.1 part)) in
              let stays = rest_stays k.has_ended unread (whole_rest kind) (s.body ++ sent_text rest) s.bytes s.is_whole (sent_text rest) says in
              inr (record {
                body = new_body k.has_ended unread w.method s.answer;
                is = refl;
                goes_on = ap not full;
                left = s.bytes;
                says = subst (λ (r : Rest). RestSays r (unread ++ future) s.bytes s.is_whole (sent_text rest)) (sym stays)
                    (subst (λ (l : List ℕ). RestSays (whole_rest kind) l s.bytes s.is_whole (sent_text rest)) (sym left) says);
                giving = ([], refl, tt, refl);
                to = final_to e;
              })

      either : HoldsFor setting.hold_size ss answered (behind_answer k unread s.answer w ws) future asked
      either = by_status (is_interim s.answer.status) refl
        where
          by_status : (t : Bool) → is_interim s.answer.status ≡ t
              → HoldsFor setting.hold_size ss answered (if t then record k { unread = unread } else behind_final k unread s.answer w ws) future asked
          by_status true e = interim e
          by_status false e = final e

    handed : (rest : List SentAnswer) → Holds setting.hold_size ss stray outs ds rest k future asked → k.failed ≡ None → IsFree k future asked rest
        → (w : Waiting) (ws : List Waiting) → k.waiting ≡ w ∷ ws → (start end : ℕ) (what : AnswerReading) → IsHeadPiece k.unread start end
        → IsAnswerReadingWithin (Some setting.hold_size) (slice_range k.unread start end) what → HoldsIn (behind_head k end w ws what)
    handed [] h fine f w ws waited start end what piece reading = absurd (nothing_whole k.unread future start end f.text piece)
    handed (s ∷ rest) h fine f w ws waited start end what piece reading =
        let is = read_is setting.hold_size k.unread future s rest h.sent h.held f.text start end what piece reading in
        let left = left_is setting.hold_size k.unread future s rest h.sent h.held f.text start end what piece reading in
        subst (λ (r : AnswerReading). HoldsIn (behind_head k end w ws r)) (sym is) (either s rest h fine f w ws waited (drop end k.unread) left)

    upcoming : (rest : List SentAnswer) → Holds setting.hold_size ss stray outs ds rest k future asked → k.failed ≡ None → IsFree k future asked rest
        → (waiting : List Waiting) (coming : Bool) (c : ClientChange) → k.waiting ≡ waiting → IsComing true k.unread coming
        → IsUpcoming setting k waiting coming c → HoldsIn c
    upcoming rest h fine f waiting false c waited known x =
        subst HoldsIn (sym x)
        (without rest h (length k.unread == setting.hold_size) (not_full k future rest h.sent h.held f.text known))
    upcoming rest h fine f [] true c waited known x = subst HoldsIn (sym x) (waits_on rest h)
    upcoming rest h fine f (w ∷ ws) true c waited known (start, end, what, piece, reading, is) =
        subst HoldsIn (sym is) (handed rest h fine f w ws waited start end what piece reading)

    open_next : (rest : List SentAnswer) → Holds setting.hold_size ss stray outs ds rest k future asked → KnowsComing k
        → IsTrue (client_allows setting k on.next) → client_closing k ≡ None → (c : ClientChange) → IsUpcoming setting k k.waiting k.is_coming c → HoldsIn c
    open_next rest h known allowed going c x = elim h.state [
      | inl failed ↦ absurd (false≢true (sym (ap is_some going) ∙ failed_closes k (faulty_some k.failed k.has_ended failed)))
      | inr (fine, y) ↦ elim y [
        | inl f ↦ upcoming rest h fine f k.waiting k.is_coming c refl (subst (λ (t : Bool). IsComing t k.unread k.is_coming) f.free known) x
        | inr b ↦ absurd (not_busy outs ds b (allowed_then setting k on.next going allowed))
      ]
    ]
      where
        not_busy : (outs : List ReadAnswer) (ds : List SentAnswer) → IsBusy k future asked rest outs ds → is_free k ≡ true → ⊥
        not_busy [] ds b free = b
        not_busy (a ∷ outs) [] b free = b
        not_busy (a ∷ outs) (s ∷ ds) b free = false≢true (sym b.goes_on ∙ ap is_free_of (sym b.is) ∙ free)

    pub next_holds : (rest : List SentAnswer) → Holds setting.hold_size ss stray outs ds rest k future asked → KnowsComing k
        → IsTrue (client_allows setting k on.next) → (c : ClientChange) → IsNext setting k (client_closing k) c → HoldsIn c
    next_holds rest h known allowed c x = by_closing (client_closing k) refl x
      where
        by_closing : (o : Option ClientEnd) → client_closing k ≡ o → IsNext setting k o c → HoldsIn c
        by_closing None going x = open_next rest h known allowed going c x
        by_closing (Some end) closing x =
            subst HoldsIn (sym x) (
              ds,
              rest,
              like_holds setting.hold_size ss stray outs ds rest k (record k { is_over = true }) [] future asked
                  (record { unread = refl; waiting = sym (append-nil k.waiting); reading = refl; ended = refl; failed = inr refl }) h,
            )
