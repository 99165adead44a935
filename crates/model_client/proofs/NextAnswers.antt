-- The next answer that is handed out is the next answer of the bytes.
use Rattle.std.proofs.Common.{◌≡◌, ℕ, ◌+◌, ◌≤◌, Bool, true, false, List, [], ◌∷◌, ◌++◌, length, drop, take, slice_range, Option, Some, None, is_some, refl, sym, ap, ◌∙◌, subst, subst₂, inl, inr, arith, length-drop, length-append, take_all, eqb-true}
use Rattle.std.specs.Prelude.{IsTrue, ◌&&◌, ◌||◌, not, ◌==◌, nat_le, nat_lt, bytes_eq, codes, if◌then◌else◌}
use Rattle.std.proofs.lemmas.Bool.{false≢true, cond-true}
use Rattle.std.proofs.lemmas.Grind.{reverse_onto}
use Rattle.std.proofs.lemmas.List.{drop-append-le, drop-drop, append-nil}
use Rattle.model_h1.specs.HeadPiece.{IsHeadPiece, HasNoHeadPiece}
use Rattle.model_h1.specs.Request.{BodyKind, no_body, fixed_body, chunked_body, raw_body, has_body, too_large}
use Rattle.model_h1.specs.Setting.{Setting}
use Rattle.model_h1.specs.Parse.{content, ended_at, next_start, IsBodyOf}
use Rattle.model_h1.proofs.HandedItems.{no_items}
use Rattle.model_h1.proofs.HeadPieceLemmas.{head_piece_append, slice_range-append, head_piece_unique}
use Rattle.model_h1.proofs.MessageGrowth.{piece_end}
use Rattle.model_state.specs.Kept.{Rest, whole_rest, rest_in}
use Rattle.model_state.specs.Change.{IsComing}
use Rattle.model_client.specs.AnswerTable.{body_to, has_no_content, answer_body, is_answer_refused}
use Rattle.model_client.specs.AnswerReading.{Answer, AnswerReading, answer_is, refused, IsTextOf, IsAnswerReadingWithin}
use Rattle.model_client.specs.AnswerParse.{Received, body_input, AnswerMessage, IsAnswerBody, IsAnswerAt, is_interim, left_waiting, AreAnswersFrom}
use Rattle.model_client.proofs.AnswerLemmas.{answer_within_unique}
use Rattle.model_client.proofs.AnswerExistence.{answers_exist_from}
use Rattle.model_client.specs.ClientEvent as on
use Rattle.model_client.specs.ClientEvent.{ClientEnd}
use Rattle.model_client.specs.ClientKept.{Waiting, ClientKept, is_free, client_closing, allowed_running, allowed_closing, is_moment, client_allows}
use Rattle.model_client.specs.ClientStep.{ClientChange, new_body, behind_final, behind_answer, behind_head, IsUpcoming, IsNext, KnowsComing}
use Rattle.model_client.proofs.Answered.{told_without}
use Rattle.model_client.specs.ReadOut.{ReadAnswer, newly_read, ReadOut, reading_out}
use Rattle.model_client.specs.Parsed.{IsPrefixFrom}
use Rattle.model_client.proofs.Told.{Told, told, IsMore, rest_in_told, rest_in_sound}
use Rattle.model_client.proofs.Bodies.{Tells, body_tells, whole_sound}
use Rattle.model_client.proofs.Chain.{received, prefix_of, full_tail}
use Rattle.model_client.proofs.Holds.{waiting_methods, IsBetween, IsInside, IsBody, IsFinal, IsState, newest_final, free_between, between_open}

-- ---- what is allowed

-- a fault closes
pub failed_closes : (k : ClientKept) → is_some k.failed ≡ true → is_some (client_closing k) ≡ true
failed_closes k failed =
    let e : client_closing k ≡ k.failed = cond-true (is_some k.failed) k.failed _ failed in
    ap is_some e ∙ failed

-- so where nothing closes there was none
pub fine_while : (k : ClientKept) → client_closing k ≡ None → k.failed ≡ None
fine_while k going = by_failed k.failed refl
  where
    by_failed : (f : Option ClientEnd) → k.failed ≡ f → k.failed ≡ None
    by_failed None is = is
    by_failed (Some f) is = absurd (false≢true (sym (ap is_some going) ∙ failed_closes k (ap is_some is)))

-- the last of three tests holds where all do
last_holds : (a b c : Bool) → IsTrue (a && b && c) → IsTrue c
last_holds true true c x = x
last_holds true false c x = absurd (false≢true x)
last_holds false b c x = absurd (false≢true x)

-- what is allowed while it doesn't close
pub allowed_then : (setting : Setting) (k : ClientKept) (event : on.ClientEvent) → client_closing k ≡ None → IsTrue (client_allows setting k event)
    → IsTrue (allowed_running setting k event)
allowed_then setting k event going allowed =
    last_holds (not k.is_over) (is_moment k event) (allowed_running setting k event)
    (subst (λ (o : Option ClientEnd). IsTrue (not k.is_over && is_moment k event && (if is_some o then allowed_closing event else allowed_running setting k event)))
    going allowed)

-- and what is where it does
pub allowed_while : (setting : Setting) (k : ClientKept) (event : on.ClientEvent) (end : ClientEnd) → client_closing k ≡ Some end
    → IsTrue (client_allows setting k event) → IsTrue (allowed_closing event)
allowed_while setting k event end closing allowed =
    last_holds (not k.is_over) (is_moment k event) (allowed_closing event)
    (subst (λ (o : Option ClientEnd). IsTrue (not k.is_over && is_moment k event && (if is_some o then allowed_closing event else allowed_running setting k event)))
    closing allowed)

-- ---- answers without a body

-- interim answers have no content
interim_empty : (status : ℕ) → is_interim status ≡ true → has_no_content status ≡ true
interim_empty status e = by_tests (nat_le 100 status) (nat_lt status 200) (not (status == 101)) (status == 204) (status == 304) e
  where
    by_tests : (a b c x y : Bool) → (a && b && c) ≡ true → ((b && c) || x || y) ≡ true
    by_tests true true true x y e = refl
    by_tests true true false x y e = absurd (false≢true e)
    by_tests true false c x y e = absurd (false≢true e)
    by_tests false b c x y e = absurd (false≢true e)

text_bodiless : (piece : List ℕ) (a : Answer) → IsTextOf piece a → is_interim a.status ≡ true → a.body ≡ no_body
text_bodiless piece a x e =
    let none : answer_body a.minor a.status a.headers ≡ no_body = cond-true (has_no_content a.status) no_body _ (interim_empty a.status e) in
    by_test (is_answer_refused a.minor a.headers) (answer_body a.minor a.status a.headers) x.body_is none
  where
    by_test : (t : Bool) (kind : BodyKind) → ◌≡◌ {A = Option BodyKind} (if t then None else Some kind) (Some a.body) → kind ≡ no_body → a.body ≡ no_body
    by_test true kind is none = absurd (cc is)
    by_test false kind is none = let same : a.body ≡ kind = cc in same ∙ none

interim_bodiless : (size : ℕ) (piece : List ℕ) (a : Answer) → IsAnswerReadingWithin (Some size) piece (answer_is a) → is_interim a.status ≡ true → a.body ≡ no_body
interim_bodiless size piece a (inr (long, is)) e = absurd (cc is)
interim_bodiless size piece a (inl (short, (few, inl x))) e = text_bodiless piece a x.1 e
interim_bodiless size piece a (inl (short, (few, inr x))) e = text_bodiless _ a x.2 e

to_none : (method : List ℕ) → body_to method no_body ≡ no_body
to_none method = by_test (bytes_eq method (codes "HEAD"))
  where
    by_test : (t : Bool) → (if t then no_body else no_body) ≡ no_body
    by_test true = refl
    by_test false = refl

bodiless_kind : (kind : BodyKind) → has_body kind ≡ false → kind ≡ no_body
bodiless_kind no_body e = refl
bodiless_kind (fixed_body n) e = absurd (false≢true (sym e))
bodiless_kind chunked_body e = absurd (false≢true (sym e))
bodiless_kind raw_body e = absurd (false≢true (sym e))

-- ---- the answer whose head stands at a place

-- an answer with this reading, whose body starts at this place
pub record IsThere (r : Received) (place : ℕ) (method : List ℕ) (what : AnswerReading) (body_start : ℕ) : Type 0 where
  pub message : AnswerMessage
  pub at : IsAnswerAt r place method message
  pub reading : message.reading ≡ what
  pub starts : message.body_start ≡ body_start

there_is : (r : Received) (place : ℕ) (method : List ℕ) (start end : ℕ) (what : AnswerReading) → IsHeadPiece (drop place r.bytes) start end
    → IsAnswerReadingWithin r.hold_size (slice_range (drop place r.bytes) start end) what → IsThere r place method what (place + end)
there_is r place method start end what piece reading =
    let all = answers_exist_from is_interim r place (method ∷ []) in by_list all.0 all.1
  where
    by_list : (ms : List AnswerMessage) → AreAnswersFrom is_interim r place (method ∷ []) ms → IsThere r place method what (place + end)
    by_list [] none = absurd (none start end piece)
    by_list (m ∷ ms) are =
        let at = are.0 in
        let same = head_piece_unique (drop place r.bytes) at.start at.end start end at.piece piece in
        let moved = subst₂ (λ (s f : ℕ). IsAnswerReadingWithin r.hold_size (slice_range (drop place r.bytes) s f) m.reading) same.0 same.1 at.reading in
        record {
          message = m;
          at = at;
          reading = answer_within_unique r.hold_size (slice_range (drop place r.bytes) start end) m.reading what moved reading;
          starts = at.body_start ∙ ap (λ (n : ℕ). place + n) same.1;
        }

-- ---- what is kept after it

module _ (bytes : List ℕ) (e : Bool) (size : ℕ) (methods : List (List ℕ)) where
  abbrev all : Received
  all = received bytes e size

  abbrev StateOf : ReadOut → ClientKept → List ℕ → List (List ℕ) → Type 0
  StateOf out k more extra = IsState bytes e size methods k.failed more out.answers (k.unread ++ more) (waiting_methods k.waiting ++ extra) k.reading

  abbrev HoldsIn : ReadOut → List ℕ → List (List ℕ) → ClientChange → Type 0
  HoldsIn out more extra c = ((reading_out c.outcome out).stray ≡ []) × StateOf (reading_out c.outcome out) c.kept more extra

  -- where a whole head stands that is next
  module _ (out : ReadOut) (k : ClientKept) (more : List ℕ) (extra : List (List ℕ)) (clean : out.stray ≡ []) (fine : k.failed ≡ None) (free : is_free k ≡ true)
      (now : IsMore k.has_ended more e) (w : Waiting) (ws : List Waiting) (waited : k.waiting ≡ w ∷ ws)
      (x : IsBetween bytes e size methods out.answers (k.unread ++ more) (w.method ∷ (waiting_methods ws ++ extra)))
      (start end : ℕ) (what : AnswerReading) (piece : IsHeadPiece k.unread start end)
      (reading : IsAnswerReadingWithin (Some size) (slice_range k.unread start end) what) where
    abbrev others : List (List ℕ)
    others = waiting_methods ws ++ extra

    there : IsThere all x.place w.method what (x.place + end)
    there =
        let whole = subst (λ (l : List ℕ). IsHeadPiece l start end) (sym x.text_is) (head_piece_append k.unread more start end piece) in
        let slice : slice_range (drop x.place bytes) start end ≡ slice_range k.unread start end =
        ap (λ (l : List ℕ). slice_range l start end) x.text_is ∙ slice_range-append k.unread more start end piece.ordered piece.in_range in
        there_is all x.place w.method start end what whole (subst (λ (l : List ℕ). IsAnswerReadingWithin (Some size) l what) (sym slice) reading)

    -- what follows the head
    left_is : drop (x.place + end) bytes ≡ drop end k.unread ++ more
    left_is = sym (drop-drop end x.place bytes) ∙ ap (drop end) x.text_is ∙ drop-append-le end k.unread more piece.in_range

    inside_bytes : x.place + end ≤ length bytes
    inside_bytes =
        omega (arith, length-drop x.place bytes, ap length x.text_is, length-append k.unread more, piece.in_range, x.within, piece_end k.unread start end piece)

    abbrev new : ReadAnswer
    new = newly_read what

    -- a refusal
    refusal_final : IsFinal bytes e size methods (new ∷ out.answers)
    refusal_final =
        newest_final bytes e size methods new out.answers x.place w.method others there.message x.leads there.at (sym there.reading)
        (no_items bytes there.message.body)

    -- ---- an answer

    module _ (a : Answer) (is : what ≡ answer_is a) where
      body_is : IsBodyOf (body_input all) (body_to w.method a.body) (x.place + end) there.message.body
      body_is =
          subst (λ (p : ℕ). IsBodyOf (body_input all) (body_to w.method a.body) p there.message.body) there.starts
          (subst (λ (r : AnswerReading). IsAnswerBody all w.method r there.message.body_start there.message.body) (there.reading ∙ is) there.at.body)

      -- without a body it ends where its head does
      ends_there : body_to w.method a.body ≡ no_body → (left : List (List ℕ)) → left ≡ left_waiting is_interim (answer_is a) w.method others
          → IsBetween bytes e size methods (new ∷ out.answers) (drop end k.unread ++ more) left
      ends_there none left same =
          let empty : there.message.body ≡ content [] (ended_at (x.place + end) []) =
          subst (λ (kind : BodyKind). IsBodyOf (body_input all) kind (x.place + end) there.message.body) none body_is in
          record {
            place = x.place + end;
            within = inside_bytes;
            leads = (
              x.place,
              w.method,
              others,
              x.leads,
              record {
                message = there.message;
                at = there.at;
                is = record { reading = sym there.reading; items = no_items bytes there.message.body };
                next = ap next_start empty;
                left_is = same ∙ ap (λ (r : AnswerReading). left_waiting is_interim r w.method others) (sym (there.reading ∙ is));
              },
            );
            text_is = left_is;
          }

      -- an interim answer leaves all waiting
      interim : is_interim a.status ≡ true → IsBetween bytes e size methods (new ∷ out.answers) (drop end k.unread ++ more) (w.method ∷ others)
      interim so =
          let none = ap (body_to w.method) (interim_bodiless size (slice_range k.unread start end) a (subst (IsAnswerReadingWithin (Some size) (slice_range k.unread start end)) is reading) so)
          ∙ to_none w.method in
          ends_there none (w.method ∷ others) (ap (λ (t : Bool). if t then w.method ∷ others else others) (sym so))

      -- any other is the answer to the first
      abbrev kind : BodyKind
      kind = body_to w.method a.body

      abbrev rest : Rest
      rest = rest_in k.has_ended (drop end k.unread) (whole_rest kind)

      final_left : is_interim a.status ≡ false → others ≡ left_waiting is_interim (answer_is a) w.method others
      final_left so = ap (λ (t : Bool). if t then w.method ∷ others else others) (sym so)

      tells : Tells bytes there.message.body (told e rest (drop end k.unread ++ more))
      tells =
          subst (λ (t : Told). Tells bytes there.message.body t) (sym (rest_in_told k.has_ended (drop end k.unread) more (whole_rest kind) e now))
          (subst (λ (l : List ℕ). Tells bytes there.message.body (told e (whole_rest kind) l)) left_is
          (body_tells bytes e (Some size) (x.place + end) inside_bytes kind there.message.body body_is))

      inside : is_interim a.status ≡ false
          → IsInside bytes e size methods new out.answers (drop end k.unread ++ more) others (record { rest = rest; is_done = false; was_dropped = false })
      inside so = record {
        start = x.place;
        method = w.method;
        leads = x.leads;
        message = there.message;
        at = there.at;
        final = final_left so ∙ ap (λ (r : AnswerReading). left_waiting is_interim r w.method others) (sym (there.reading ∙ is));
        reading = sym there.reading;
        sound = rest_in_sound k.has_ended (drop end k.unread) (whole_rest kind) (whole_sound kind);
        left = record {
          pieces = [];
          last = [];
          are = refl;
          some = tt;
          all = tells.0;
          over = λ has. absurd (omega (arith, has));
          stops = tells.1;
        };
      }

      by_body : is_interim a.status ≡ false → (t : Bool) → has_body kind ≡ t
          → IsBody bytes e size methods (not t) (new ∷ out.answers) (drop end k.unread ++ more) others (record { rest = rest; is_done = not t; was_dropped = false })
      by_body so true full = inside so
      by_body so false empty = ends_there (bodiless_kind kind empty) others (final_left so)

      either : StateOf (record { stray = out.stray; answers = new ∷ out.answers }) (behind_answer k (drop end k.unread) a w ws) more extra
      either = by_status (is_interim a.status) refl
        where
          by_status : (t : Bool) → is_interim a.status ≡ t
              → StateOf (record { stray = out.stray; answers = new ∷ out.answers }) (if t then record k { unread = drop end k.unread } else behind_final k (drop end k.unread) a w ws) more extra
          by_status true so =
              subst (λ (f : Option ClientEnd). IsState bytes e size methods f more (new ∷ out.answers) (drop end k.unread ++ more) (waiting_methods k.waiting ++ extra) k.reading) (sym fine)
              (between_open bytes e size methods (new ∷ out.answers) (drop end k.unread ++ more) (waiting_methods k.waiting ++ extra) k.reading free
              (subst (λ (l : List Waiting). IsBetween bytes e size methods (new ∷ out.answers) (drop end k.unread ++ more) (waiting_methods l ++ extra)) (sym waited) (interim so)))
          by_status false so =
              subst (λ (f : Option ClientEnd). IsState bytes e size methods f more (new ∷ out.answers) (drop end k.unread ++ more) others (Some (new_body k.has_ended (drop end k.unread) w.method a))) (sym fine)
              (by_body so (has_body kind) refl)

    pub handed : HoldsIn out more extra (behind_head k end w ws what)
    handed = by_reading what refl
      where
        by_reading : (r : AnswerReading) → what ≡ r → HoldsIn out more extra (behind_head k end w ws r)
        by_reading (refused f) is = (clean, λ none. subst (λ (r : AnswerReading). IsFinal bytes e size methods (newly_read r ∷ out.answers)) is refusal_final)
        by_reading (answer_is a) is =
            (clean, subst (λ (r : AnswerReading). StateOf (record { stray = out.stray; answers = newly_read r ∷ out.answers }) (behind_answer k (drop end k.unread) a w ws) more extra) is (either a is))

  -- ---- where none stands

  without : (out : ReadOut) (k : ClientKept) (more : List ℕ) (extra : List (List ℕ)) → out.stray ≡ [] → StateOf out k more extra
      → IsBetween bytes e size methods out.answers (k.unread ++ more) (waiting_methods k.waiting ++ extra) → HasNoHeadPiece k.unread
      → (full : Bool) → (length k.unread == size) ≡ full → HoldsIn out more extra (told_without k full)
  without out k more extra clean state x none false is = (clean, state)
  without out k more extra clean state x none true is = (clean, full_final)
    where
      full_final : more ≡ [] → IsFinal bytes e size methods (newly_read (refused too_large) ∷ out.answers)
      full_final nothing ms are =
          let text : drop x.place bytes ≡ k.unread = x.text_is ∙ ap (λ (l : List ℕ). k.unread ++ l) nothing ∙ append-nil k.unread in
          let long : length k.unread ≡ size = eqb-true (length k.unread) size is in
          let bare = subst HasNoHeadPiece (sym text) none in
          let front : take size (drop x.place bytes) ≡ drop x.place bytes = take_all size (drop x.place bytes) (omega (arith, ap length text, long)) in
          let waits = waiting_methods k.waiting ++ extra in
          subst (λ (l : List ReadAnswer). IsPrefixFrom size bytes 0 l ms) (sym (reverse_onto out.answers (newly_read (refused too_large)) []))
          (prefix_of all size methods out.answers x.place waits (newly_read (refused too_large) ∷ []) ms x.leads
          (full_tail all size x.place waits bare (omega (arith, ap length text, long)) (subst HasNoHeadPiece (sym front) bare)) are)

  -- ---- each case

  upcoming : (setting : Setting) (out : ReadOut) (k : ClientKept) (more : List ℕ) (extra : List (List ℕ)) → setting.hold_size ≡ size → out.stray ≡ []
      → k.failed ≡ None → is_free k ≡ true → IsMore k.has_ended more e → StateOf out k more extra
      → IsBetween bytes e size methods out.answers (k.unread ++ more) (waiting_methods k.waiting ++ extra)
      → (waiting : List Waiting) (coming : Bool) (c : ClientChange) → k.waiting ≡ waiting → IsComing true k.unread coming
      → IsUpcoming setting k waiting coming c → HoldsIn out more extra c
  upcoming setting out k more extra held clean fine free now state x waiting false c waited known is =
      subst (HoldsIn out more extra) (sym is)
      (subst (λ (n : ℕ). HoldsIn out more extra (told_without k (length k.unread == n))) (sym held)
      (without out k more extra clean state x known (length k.unread == size) refl))
  upcoming setting out k more extra held clean fine free now state x [] true c waited known is = subst (HoldsIn out more extra) (sym is) (clean, state)
  upcoming setting out k more extra held clean fine free now state x (w ∷ ws) true c waited known (start, end, what, piece, reading, is) =
      subst (HoldsIn out more extra) (sym is)
      (handed out k more extra clean fine free now w ws waited
      (subst (λ (l : List Waiting). IsBetween bytes e size methods out.answers (k.unread ++ more) (waiting_methods l ++ extra)) waited x) start end what piece
      (subst (λ (n : ℕ). IsAnswerReadingWithin (Some n) (slice_range k.unread start end) what) held reading))

  -- what is there between two answers
  pub between_of : (out : ReadOut) (k : ClientKept) (more : List ℕ) (extra : List (List ℕ)) → k.failed ≡ None → is_free k ≡ true → StateOf out k more extra
      → IsBetween bytes e size methods out.answers (k.unread ++ more) (waiting_methods k.waiting ++ extra)
  between_of out k more extra fine free state =
      free_between bytes e size methods out.answers (k.unread ++ more) (waiting_methods k.waiting ++ extra) k.reading free
      (subst (λ (f : Option ClientEnd). IsState bytes e size methods f more out.answers (k.unread ++ more) (waiting_methods k.waiting ++ extra) k.reading) fine state)

  pub next_holds : (setting : Setting) (out : ReadOut) (k : ClientKept) (more : List ℕ) (extra : List (List ℕ)) → setting.hold_size ≡ size → KnowsComing k
      → IsTrue (client_allows setting k on.next) → IsMore k.has_ended more e → (out.stray ≡ []) × StateOf out k more extra → (c : ClientChange)
      → IsNext setting k (client_closing k) c → HoldsIn out more extra c
  next_holds setting out k more extra held known allowed now (clean, state) c x = by_closing (client_closing k) refl x
    where
      by_closing : (o : Option ClientEnd) → client_closing k ≡ o → IsNext setting k o c → HoldsIn out more extra c
      by_closing (Some end) closing x = subst (HoldsIn out more extra) (sym x) (clean, state)
      by_closing None going x =
          let fine = fine_while k going in
          let free = allowed_then setting k on.next going allowed in
          upcoming setting out k more extra held clean fine free now state (between_of out k more extra fine free state) k.waiting k.is_coming c refl
          (subst (λ (t : Bool). IsComing t k.unread k.is_coming) free known) x
