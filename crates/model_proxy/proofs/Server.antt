-- What each call of a server's connection leaves to do.
use Rattle.std.proofs.Common.{◌≡◌, ℕ, ◌+◌, ◌*◌, ◌-◌, ◌≤◌, min, Bool, true, false, not, ◌&&◌, ◌++◌, cond, List, [], ◌∷◌, length, drop, Option, Some, None, refl, sym, ap, ◌∙◌, subst, arith, length-append, length-drop}
use Rattle.std.specs.Prelude.{⊤, IsTrue, is_some, if◌then◌else◌, ◌==◌}
use Rattle.std.proofs.lemmas.Bool.{false≢true, true≢false}
use Rattle.std.proofs.lemmas.List.{length-take}
use Rattle.model_h1.specs.HeadPiece.{IsHeadPiece}
use Rattle.model_h1.specs.Request.{too_large}
use Rattle.model_h1.specs.Setting.{Setting}
use Rattle.model_h1.specs.Event as server
use Rattle.model_state.specs.Kept.{whole_rest, rest_in}
use Rattle.model_state.specs.Change.{IsComing}
use Rattle.model_state.specs.Pull.{Pulled}
use Rattle.model_client.specs.AnswerTable.{body_to}
use Rattle.model_client.specs.AnswerParse.{is_interim}
use Rattle.model_client.specs.AnswerReading.{AnswerReading, answer_is, refused}
use Rattle.model_client.specs.ClientEvent as on
use Rattle.model_client.specs.ClientEvent.{ClientEvent, ClientEnd, ClientOutcome}
use Rattle.model_client.specs.ClientKept.{Waiting, SendingBody, ReadingBody, ClientKept, is_free, is_free_of, is_dropped_of, is_waited_for, has_bytes, client_closing, client_allows}
use Rattle.model_client.specs.ClientStep.{ClientChange, sending_piece, ending_body, outcome_of, pulled_from, IsPulling, behind_final, behind_head, IsUpcoming, IsNext, IsClientChange, IsClientStep, KnowsComing}
use Rattle.model_client.specs.ClientTrace.{Happened, IsClientTrace, taken_by, taken}
use Rattle.model_client.proofs.Left.{step_leaves}
use Rattle.model_state.proofs.OneStep.{coming_one}
use Rattle.model_client.specs.Parsed.{has_ended, methods_of}
use Rattle.model_client.specs.ReadOut.{ReadAnswer, read_out}
use Rattle.model_client.proofs.Told.{IsSound}
use Rattle.model_client.proofs.Holds.{waiting_methods, IsState, IsOpen, IsBody, IsBusy}
use Rattle.model_client.proofs.NextAnswers.{fine_while, allowed_then, allowed_while}
use Rattle.model_client.proofs.AllHappened.{both, not_true, going_for, known_of, holds_now}
use Rattle.model_proxy.specs.Left.{bytes_left, answer_left, server_left, LeavesAll, LeavesAfterAnswer, LeavesAfterPiece}
use Rattle.model_proxy.proofs.Pulls.{at_most_one, LeavesSo, pull_leaves}
use Rattle.model_proxy.proofs.Client.{piece_some}

-- ---- the next answer

closes_so : (f : Option ClientEnd) (free closes waited some : Bool) (last : Option ClientEnd) → free ≡ true → waited ≡ false → some ≡ true
    → (if is_some f then f
    else (if not free then None
    else (if closes then Some on.asked
    else (if not waited && some then Some on.unasked else last)))) ≡ None → ⊥
closes_so (Some end) free closes waited some last is_free not_waited has is = cc is
closes_so None false closes waited some last is_free not_waited has is = false≢true is_free
closes_so None true true waited some last is_free not_waited has is = cc is
closes_so None true false true some last is_free not_waited has is = true≢false not_waited
closes_so None true false false false last is_free not_waited has is = false≢true has
closes_so None true false false true last is_free not_waited has is = cc is

-- where a whole head stands there and nobody waits for it, the connection closes
pub unasked_closes : (k : ClientKept) → k.waiting ≡ [] → has_bytes k.unread ≡ true → is_free k ≡ true → client_closing k ≡ None → ⊥
unasked_closes k none some free is =
    closes_so k.failed (is_free k) k.closes (is_waited_for k.waiting) (has_bytes k.unread) _ free (ap is_waited_for none) some is

bytes_some : (bytes : List ℕ) (start end : ℕ) → IsHeadPiece bytes start end → has_bytes bytes ≡ true
bytes_some [] start end x = absurd (let some = piece_some [] start end x in let fits = x.in_range in omega (arith, some, fits))
bytes_some (b ∷ bytes) start end x = refl

pub comes_true : (free : Bool) (bytes : List ℕ) → IsComing free bytes true → (free ≡ true) × (has_bytes bytes ≡ true)
comes_true true bytes (start, end, piece) = (refl, bytes_some bytes start end piece)
comes_true false bytes x = absurd (true≢false x)

module _ (setting : Setting) where
  -- the same of what is kept before whether a head is coming is noted
  abbrev AnswerSo : ClientKept → ClientOutcome → ClientKept → Type 0
  AnswerSo k (on.answer a) m = server_left m + 15 ≤ server_left k
  AnswerSo k on.pending m = (k.is_coming ≡ false) × (m ≡ k)
  AnswerSo k (on.fault f) m = server_left m ≤ server_left k
  AnswerSo k (on.closed end) m = server_left m ≤ server_left k
  AnswerSo k o m = ⊤

  abbrev OfChange : ClientKept → ClientChange → Type 0
  OfChange k c = AnswerSo k c.outcome c.kept

  without : (k : ClientKept) → k.is_coming ≡ false → (full : Bool)
      → OfChange k (if full then record { outcome = on.fault too_large; kept = record k { failed = Some on.large_answer } }
      else record { outcome = on.pending; kept = k })
  without k none true = omega arith
  without k none false = (none, refl)

  choice : (t : Bool) (n : ℕ) (x y : ClientKept) → server_left x + 15 ≤ n → server_left y + 15 ≤ n → server_left (cond t x y) + 15 ≤ n
  choice true n x y less_x less_y = less_x
  choice false n x y less_x less_y = less_y

  upcoming : (k : ClientKept) (waiting : List Waiting) (coming : Bool) (c : ClientChange) → k.waiting ≡ waiting → k.is_coming ≡ coming → KnowsComing k
      → client_closing k ≡ None → IsUpcoming setting k waiting coming c → OfChange k c
  upcoming k [] false c none not_there known going x = subst (OfChange k) (sym x) (without k not_there (length k.unread == setting.hold_size))
  upcoming k (w ∷ ws) false c some not_there known going x = subst (OfChange k) (sym x) (without k not_there (length k.unread == setting.hold_size))
  upcoming k [] true c none there known going x =
      let two = comes_true (is_free k) k.unread (subst (IsComing (is_free k) k.unread) there known) in
      absurd (unasked_closes k none two.1 two.0 going)
  upcoming k (w ∷ ws) true c some there known going (start, end, what, piece, reading, is) = subst (OfChange k) (sym is) (by_what what)
    where
      by_what : (what : AnswerReading) → OfChange k (behind_head k end w ws what)
      by_what (refused f) = omega arith
      by_what (answer_is a) =
          let unread = drop end k.unread in
          let fewer = length-drop end k.unread in
          let some = piece_some k.unread start end piece in
          let fits = piece.in_range in
          let one = at_most_one (rest_in k.has_ended unread (whole_rest (body_to w.method a.body))) in
          choice (is_interim a.status) (server_left k) (record k { unread = unread }) (behind_final k unread a w ws)
          (omega (arith, fewer, some, fits)) (omega (arith, fewer, some, fits, one))

  next_case : (k : ClientKept) (closing : Option ClientEnd) (c : ClientChange) → client_closing k ≡ closing → KnowsComing k → IsNext setting k closing c
      → OfChange k c
  next_case k (Some end) c is known x = subst (OfChange k) (sym x) (omega arith)
  next_case k None c is known x = upcoming k k.waiting k.is_coming c refl refl known is x

  noted : (k m next : ClientKept) (coming : Bool) (o : ClientOutcome) → next ≡ record m { is_coming = coming }
      → IsComing (is_free m) m.unread coming → KnowsComing k → AnswerSo k o m → LeavesAfterAnswer o k next
  noted k m next coming (on.answer a) is comes known x = subst (λ (n : ClientKept). server_left n + 15 ≤ server_left k) (sym is) x
  noted k m next coming on.pending is comes known x =
      let here = subst (λ (m : ClientKept). IsComing (is_free m) m.unread coming) x.1 comes in (
        ap (λ (n : ClientKept). n.is_coming) is ∙ coming_one (is_free k) k.unread coming k.is_coming here known ∙ x.0,
        subst (λ (n : ClientKept). server_left n ≤ server_left k) (sym is) (subst (λ (m : ClientKept). server_left m ≤ server_left k) (sym x.1) (omega arith)),
      )
  noted k m next coming (on.fault f) is comes known x = subst (λ (n : ClientKept). server_left n ≤ server_left k) (sym is) x
  noted k m next coming (on.closed end) is comes known x = subst (λ (n : ClientKept). server_left n ≤ server_left k) (sym is) x
  noted k m next coming o is comes known x = tt

  pub answer_leaves : (k next : ClientKept) (trace : List Happened) (o : ClientOutcome) → IsClientTrace setting trace k
      → IsClientStep setting k on.next o next → LeavesAfterAnswer o k next
  answer_leaves k next trace o ran step =
      let c = step.change in
      let known = known_of setting (taken trace) (has_ended trace) (methods_of trace) trace k ran in
      subst (λ (o : ClientOutcome). LeavesAfterAnswer o k next) (sym step.answers)
      (noted k c.kept next step.coming c.outcome step.keeps step.comes known (next_case k (client_closing k) c refl known step.changes))

  -- ---- more of its body

  piece_so : (k m : ClientKept) (n : ℕ) (o : server.Outcome) (p : Pulled) → server_left k ≡ n → server_left m ≡ bytes_left p.unread p.rest → m.unread ≡ p.unread
      → LeavesSo o n p → LeavesAfterPiece (outcome_of o) k m
  piece_so k m n (server.bytes given) p old new unread x = omega (arith, old, new, x)
  piece_so k m n (server.trailers lines) p old new unread x = omega (arith, old, new, x)
  piece_so k m n server.body_ended p old new unread x = omega (arith, old, new, x)
  piece_so k m n (server.broken_by fault) p old new unread x = omega (arith, old, new, x)
  piece_so k m n server.pending p old new unread x = (unread ∙ x.0, let less = x.1 in omega (arith, old, new, less))
  piece_so k m n o p old new unread x = absurd x

  noted_piece : (k m next : ClientKept) (coming : Bool) (o : ClientOutcome) → next ≡ record m { is_coming = coming }
      → LeavesAfterPiece o k m → LeavesAfterPiece o k next
  noted_piece k m next coming o is x = subst (LeavesAfterPiece o k) (sym is) (as_noted o x)
    where
      as_noted : (o : ClientOutcome) → LeavesAfterPiece o k m → LeavesAfterPiece o k (record m { is_coming = coming })
      as_noted (on.bytes given) x = x
      as_noted (on.trailers lines) x = x
      as_noted on.body_ended x = x
      as_noted (on.broken_by fault) x = x
      as_noted on.pending x = x
      as_noted o x = tt

  pub piece_leaves : (k next : ClientKept) (trace : List Happened) (o : ClientOutcome) → IsClientTrace setting trace k
      → IsTrue (client_allows setting k on.pull) → IsClientStep setting k on.pull o next → LeavesAfterPiece o k next
  piece_leaves k next trace o ran allowed step =
      let c = step.change in
      subst (λ (o : ClientOutcome). LeavesAfterPiece o k next) (sym step.answers)
      (noted_piece k c.kept next step.coming c.outcome step.keeps (by_reading k.reading refl step.changes (allowed_then setting k on.pull going allowed)))
    where
      going : client_closing k ≡ None
      going = going_for setting (taken trace) (has_ended trace) (methods_of trace) k on.pull allowed
          (λ end closing. false≢true (allowed_while setting k on.pull end closing allowed))

      state : IsOpen (taken trace) (has_ended trace) setting.hold_size (methods_of trace) (read_out trace).answers (k.unread ++ []) (waiting_methods k.waiting ++ []) k.reading
      state =
          subst (λ (f : Option ClientEnd). IsState (taken trace) (has_ended trace) setting.hold_size (methods_of trace) f [] (read_out trace).answers (k.unread ++ []) (waiting_methods k.waiting ++ []) k.reading)
          (fine_while k going) (holds_now setting trace k ran).1

      by_reading : (body : Option ReadingBody) → k.reading ≡ body → IsPulling k body step.change → IsTrue (not (is_free_of body) && not (is_dropped_of body))
          → LeavesAfterPiece step.change.outcome k step.change.kept
      by_reading None is x may = absurd (false≢true may)
      by_reading (Some body) is (p, pull, same) may =
          let two = both (not body.is_done) (not body.was_dropped) may in
          let open_now = subst (IsOpen (taken trace) (has_ended trace) setting.hold_size (methods_of trace) (read_out trace).answers (k.unread ++ []) (waiting_methods k.waiting ++ [])) is state in
          let busy = subst (λ (d : Bool). IsBody (taken trace) (has_ended trace) setting.hold_size (methods_of trace) d (read_out trace).answers (k.unread ++ []) (waiting_methods k.waiting ++ []) body)
          (not_true body.is_done two.0) open_now in
          subst (λ (c : ClientChange). LeavesAfterPiece c.outcome k c.kept) (sym same)
          (piece_so k (pulled_from body p k) (bytes_left k.unread body.rest) p.outcome p (ap (λ (e : Option ReadingBody). 16 * length k.unread + answer_left e) is) refl refl
          (pull_leaves k.has_ended body.rest k.unread p (sound_of (read_out trace).answers busy) pull))
        where
          sound_of : (outs : List ReadAnswer) → IsBusy (taken trace) (has_ended trace) setting.hold_size (methods_of trace) outs (k.unread ++ []) (waiting_methods k.waiting ++ []) body → IsSound body.rest
          sound_of [] x = absurd x
          sound_of (h ∷ before) x = x.sound

  -- ---- what leaves all

  same_piece : (bytes : List ℕ) (k : ClientKept) (body : Option SendingBody) → server_left (sending_piece bytes body k) ≡ server_left k
  same_piece bytes k None = refl
  same_piece bytes k (Some body) = refl

  same_end : (k : ClientKept) (body : Option SendingBody) → server_left (ending_body body k) ≡ server_left k
  same_end k None = refl
  same_end k (Some body) = refl

  change_same : (k : ClientKept) (event : ClientEvent) (c : ClientChange) → LeavesAll event → IsClientChange setting k event c
      → server_left c.kept ≡ server_left k
  change_same k (on.ask r size) c all is = ap (λ (c : ClientChange). server_left c.kept) is
  change_same k (on.chunk bytes) c all is = ap (λ (c : ClientChange). server_left c.kept) is ∙ same_piece bytes k k.sending
  change_same k on.body_end c all is = ap (λ (c : ClientChange). server_left c.kept) is ∙ same_end k k.sending
  change_same k (on.tick ms) c all is = ap (λ (c : ClientChange). server_left c.kept) is
  change_same k event c all is = absurd all

  pub all_left : (k next : ClientKept) (event : ClientEvent) (o : ClientOutcome) → LeavesAll event → IsClientStep setting k event o next
      → server_left next ≡ server_left k
  all_left k next event o all step = ap server_left step.keeps ∙ change_same k event step.change all step.changes

-- ---- what is held

taken_as : (room : ℕ) (event : ClientEvent) (o p : ClientOutcome) → o ≡ p → length (taken_by event p) ≤ room → length (taken_by event o) ≤ room
taken_as room event o p is x = subst (λ (o : ClientOutcome). length (taken_by event o) ≤ room) (sym is) x

module _ (setting : Setting) where
  -- an event takes no more bytes than there is room for
  taken_fits : (k : ClientKept) (event : ClientEvent) (c : ClientChange) → IsClientChange setting k event c
      → length (taken_by event c.outcome) ≤ setting.hold_size - length k.unread
  taken_fits k (on.read bytes) c is =
      let n = min (length bytes) (setting.hold_size - length k.unread) in
      taken_as (setting.hold_size - length k.unread) (on.read bytes) c.outcome (on.took n) (ap (λ (c : ClientChange). c.outcome) is)
      (omega (arith, length-take n bytes))
  taken_fits k event c is = omega arith

  pub held_fits : (trace : List Happened) (k : ClientKept) → IsClientTrace setting trace k → length k.unread ≤ setting.hold_size
  held_fits [] k is = let none = ap (λ (k : ClientKept). length k.unread) is in omega (arith, none)
  held_fits (s ∷ before) k (b, trace, allowed, step) =
      let old = held_fits before b trace in
      let more = taken_as (setting.hold_size - length b.unread) s.event s.outcome step.change.outcome step.answers (taken_fits b s.event step.change step.changes) in
      let left = step_leaves setting b k s.event s.outcome step in
      let same : length b.unread + length (taken_by s.event s.outcome) ≡ length left.0 + length k.unread =
      sym (length-append b.unread (taken_by s.event s.outcome)) ∙ ap length left.1 ∙ length-append left.0 k.unread in
      omega (arith, old, more, same)
