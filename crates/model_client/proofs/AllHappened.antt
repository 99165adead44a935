-- Over all that happened to a client, what it handed out is the beginning of the answers in its bytes.
use Rattle.std.proofs.Common.{◌≡◌, ℕ, ◌-◌, min, Bool, true, false, ◌&&◌, not, List, [], ◌∷◌, ◌++◌, length, take, Option, Some, None, refl, sym, ap, ◌∙◌, subst, append-nil, append_assoc, arith}
use Rattle.std.specs.Prelude.{IsTrue, if◌then◌else◌, nat_lt}
use Rattle.std.specs.Option.{option_or}
use Rattle.std.proofs.lemmas.Bool.{false≢true}
use Rattle.std.proofs.lemmas.List.{map-append}
use Rattle.model_h1.specs.Setting.{Setting}
use Rattle.model_h1.proofs.ExampleLemmas.{nothing_behind}
use Rattle.model_client.specs.AnswerParse.{AnswerMessage}
use Rattle.model_client.specs.ClientEvent as on
use Rattle.model_client.specs.ClientEvent.{ClientEvent, ClientEnd, ClientOutcome, failed_request}
use Rattle.model_client.specs.ClientKept.{Waiting, SendingBody, ReadingBody, ClientKept, is_free_of, is_dropped_of, client_closing, client_allows}
use Rattle.model_client.specs.ClientStep.{ClientChange, sending_piece, ending_body, passing, body_at_end, ending_input, IsPulling, IsClientChange, KnowsComing}
use Rattle.model_client.specs.ClientTrace.{Happened, IsClientTrace, taken_by, taken, requests_by, requests_of}
use Rattle.model_client.specs.ReadOut.{ReadOut, nothing_read, reading_out, read_out}
use Rattle.model_client.specs.Parsed.{has_ended, methods_of, AreAnswersTaken, ReadsPrefix}
use Rattle.model_client.proofs.Ended.{change_ended, trace_ended}
use Rattle.model_client.proofs.Told.{IsMore}
use Rattle.model_client.proofs.Holds.{waiting_methods, IsState, Holds, open_final, state_final}
use Rattle.model_client.proofs.Pulls.{pull_holds}
use Rattle.model_client.proofs.Passing.{passing_holds, more_holds, end_holds, drop_holds}
use Rattle.model_client.proofs.NextAnswers.{fine_while, allowed_then, allowed_while, next_holds}

pub both : (a b : Bool) → IsTrue (a && b) → (a ≡ true) × (b ≡ true)
both true true x = (refl, refl)
both true false x = absurd (false≢true x)
both false b x = absurd (false≢true x)

pub not_true : (a : Bool) → not a ≡ true → a ≡ false
not_true false is = refl
not_true true is = absurd (false≢true is)

module _ (setting : Setting) (bytes : List ℕ) (e : Bool) (methods : List (List ℕ)) where
  abbrev pub HoldsSo : ReadOut → ClientKept → List ℕ → List (List ℕ) → Type 0
  HoldsSo out k more extra = Holds bytes e setting.hold_size methods out k more extra

  -- nothing is allowed but while nothing closes
  pub going_for : (k : ClientKept) (event : ClientEvent) → IsTrue (client_allows setting k event) → ((end : ClientEnd) → client_closing k ≡ Some end → ⊥)
      → client_closing k ≡ None
  going_for k event allowed never = by_closing (client_closing k) refl
    where
      by_closing : (o : Option ClientEnd) → client_closing k ≡ o → client_closing k ≡ None
      by_closing None is = is
      by_closing (Some end) is = absurd (never end is)

  -- ---- events of a request

  abbrev StateOf : ReadOut → ClientKept → Option ClientEnd → List ℕ → List (List ℕ) → Type 0
  StateOf out k f more extra = IsState bytes e setting.hold_size methods f more out.answers (k.unread ++ more) (waiting_methods k.waiting ++ extra) k.reading

  -- a fault may be brought
  fault_may_come : (out : ReadOut) (k : ClientKept) (more : List ℕ) (extra : List (List ℕ)) (short : Bool) → StateOf out k k.failed more extra
      → StateOf out k (option_or k.failed (if short then Some failed_request else None)) more extra
  fault_may_come out k more extra short x = by_failed k.failed short x
    where
      by_failed : (f : Option ClientEnd) (short : Bool) → StateOf out k f more extra → StateOf out k (option_or f (if short then Some failed_request else None)) more extra
      by_failed (Some end) short x = x
      by_failed None false x = x
      by_failed None true x = λ none. open_final bytes e setting.hold_size methods out.answers (k.unread ++ more) (waiting_methods k.waiting ++ extra) k.reading x

  piece_for : (out : ReadOut) (k : ClientKept) (more : List ℕ) (extra : List (List ℕ)) (piece : List ℕ) (body : Option SendingBody)
      → HoldsSo out k more extra → HoldsSo out (sending_piece piece body k) more extra
  piece_for out k more extra piece None x = x
  piece_for out k more extra piece (Some body) x = x

  end_for : (out : ReadOut) (k : ClientKept) (more : List ℕ) (extra : List (List ℕ)) (body : Option SendingBody)
      → HoldsSo out k more extra → HoldsSo out (ending_body body k) more extra
  end_for out k more extra None x = x
  end_for out k more extra (Some body) x = λ now. ((x now).0, fault_may_come out k more extra (nat_lt 0 body.missing) (x now).1)

  -- one more waits
  ask_for : (out : ReadOut) (k : ClientKept) (more : List ℕ) (extra : List (List ℕ)) (w : Waiting) → HoldsSo out k more (w.method ∷ extra)
      → HoldsSo out (record k { waiting = k.waiting ++ w ∷ [] }) more extra
  ask_for out k more extra w x = λ now. (
    (x now).0,
    subst (λ (l : List (List ℕ)). IsState bytes e setting.hold_size methods k.failed more out.answers (k.unread ++ more) l k.reading)
        (sym (ap (λ (l : List (List ℕ)). l ++ extra) (map-append (λ (w : Waiting). w.method) k.waiting (w ∷ []))
        ∙ append_assoc (waiting_methods k.waiting) (w.method ∷ []) extra)) (x now).1,
  )

  -- ---- bodies

  read_for : (out : ReadOut) (k : ClientKept) (read more : List ℕ) (extra : List (List ℕ)) → k.has_ended ≡ false → k.failed ≡ None
      → HoldsSo out k (read ++ more) extra → HoldsSo out (passing k.reading (record k { unread = k.unread ++ read })) more extra
  read_for out k read more extra open_yet fine x =
      passing_holds bytes e setting.hold_size methods out (record k { unread = k.unread ++ read }) more extra
      (more_holds bytes e setting.hold_size methods out k read more extra open_yet x fine)

  eof_for : (out : ReadOut) (k : ClientKept) (more : List ℕ) (extra : List (List ℕ)) → k.has_ended ≡ false → HoldsSo out k more extra
      → HoldsSo out (ending_input k) more extra
  eof_for out k more extra open_yet x =
      passing_holds bytes e setting.hold_size methods out (record k { has_ended = true; reading = body_at_end k.unread k.reading }) more extra
      (end_holds bytes e setting.hold_size methods out k more extra open_yet x)

  pull_for : (out : ReadOut) (k : ClientKept) (more : List ℕ) (extra : List (List ℕ)) (c : ClientChange) → client_closing k ≡ None
      → IsTrue (client_allows setting k on.pull) → IsPulling k k.reading c → HoldsSo out k more extra → HoldsSo (reading_out c.outcome out) c.kept more extra
  pull_for out k more extra c going allowed x old = by_reading k.reading refl x (allowed_then setting k on.pull going allowed)
    where
      by_reading : (body : Option ReadingBody) → k.reading ≡ body → IsPulling k body c → IsTrue (not (is_free_of body) && not (is_dropped_of body))
          → HoldsSo (reading_out c.outcome out) c.kept more extra
      by_reading None is x may = absurd (false≢true may)
      by_reading (Some body) is (p, pull, same) may =
          let two = both (not body.is_done) (not body.was_dropped) may in
          subst (λ (c : ClientChange). HoldsSo (reading_out c.outcome out) c.kept more extra) (sym same)
          (pull_holds bytes e setting.hold_size methods out k more extra body is (not_true body.is_done two.0) (not_true body.was_dropped two.1) (fine_while k going)
          p pull old)

  next_for : (out : ReadOut) (k : ClientKept) (more : List ℕ) (extra : List (List ℕ)) (c : ClientChange) → KnowsComing k
      → IsTrue (client_allows setting k on.next) → IsClientChange setting k on.next c → c.kept.has_ended ≡ k.has_ended → HoldsSo out k more extra
      → HoldsSo (reading_out c.outcome out) c.kept more extra
  next_for out k more extra c known allowed x same old = λ now.
      let was = subst (λ (t : Bool). IsMore t more e) same now in
      next_holds bytes e setting.hold_size methods setting out k more extra refl known allowed was (old was) c x

  -- ---- a step

  abbrev After : ReadOut → ClientKept → List ℕ → List (List ℕ) → ClientEvent → ClientChange → Type 0
  After out k more extra event c =
      HoldsSo out k (taken_by event c.outcome ++ more) (waiting_methods (requests_by event) ++ extra) → HoldsSo (reading_out c.outcome out) c.kept more extra

  step_for : (out : ReadOut) (k : ClientKept) (event : ClientEvent) (c : ClientChange) (more : List ℕ) (extra : List (List ℕ)) → KnowsComing k
      → IsTrue (client_allows setting k event) → IsClientChange setting k event c → After out k more extra event c
  step_for out k (on.ask r size) c more extra known allowed x =
      subst (After out k more extra (on.ask r size)) (sym x) (λ h. ask_for out k more extra _ h)
  step_for out k (on.chunk piece) c more extra known allowed x =
      subst (After out k more extra (on.chunk piece)) (sym x) (λ h. piece_for out k more extra piece k.sending h)
  step_for out k on.body_end c more extra known allowed x = subst (After out k more extra on.body_end) (sym x) (λ h. end_for out k more extra k.sending h)
  step_for out k on.body_error c more extra known allowed x =
      subst (After out k more extra on.body_error) (sym x) (λ h. λ now. ((h now).0, fault_may_come out k more extra true (h now).1))
  step_for out k (on.read piece) c more extra known allowed x =
      let going = going_for k (on.read piece) allowed (λ end closing. false≢true (allowed_while setting k (on.read piece) end closing allowed)) in
      let open_yet = not_true k.has_ended (allowed_then setting k (on.read piece) going allowed) in
      let read = take (min (length piece) (setting.hold_size - length k.unread)) piece in
      subst (After out k more extra (on.read piece)) (sym x) (λ h. read_for out k read more extra open_yet (fine_while k going) h)
  step_for out k on.eof c more extra known allowed x =
      let going = going_for k on.eof allowed (λ end closing. false≢true (allowed_while setting k on.eof end closing allowed)) in
      let open_yet = not_true k.has_ended (allowed_then setting k on.eof going allowed) in
      subst (After out k more extra on.eof) (sym x) (λ h. eof_for out k more extra open_yet h)
  step_for out k on.next c more extra known allowed x = λ h. next_for out k more extra c known allowed x (change_ended setting k on.next c x) h
  step_for out k on.pull c more extra known allowed x = λ h.
      pull_for out k more extra c (going_for k on.pull allowed (λ end closing. false≢true (allowed_while setting k on.pull end closing allowed))) allowed x h
  step_for out k on.drop_body c more extra known allowed x =
      subst (After out k more extra on.drop_body) (sym x) (λ h. drop_holds bytes e setting.hold_size methods out k more extra k.reading refl h)
  step_for out k (on.write n) c more extra known allowed x = subst (After out k more extra (on.write n)) (sym x) (λ h. h)
  step_for out k (on.tick ms) c more extra known allowed x = subst (After out k more extra (on.tick ms)) (sym x) (λ h. h)

  -- ---- all that happened

  pub known_of : (trace : List Happened) (k : ClientKept) → IsClientTrace setting trace k → KnowsComing k
  known_of [] k is = subst KnowsComing (sym is) nothing_behind
  known_of (s ∷ before) k (b, trace, allowed, step) = subst KnowsComing (sym step.keeps) step.comes

  pub all_for : (trace : List Happened) (k : ClientKept) (more : List ℕ) (extra : List (List ℕ)) → IsClientTrace setting trace k
      → bytes ≡ taken trace ++ more → methods ≡ methods_of trace ++ extra → HoldsSo (read_out trace) k more extra
  unfolding read_out
  all_for [] k more extra is all_bytes all_methods =
      subst (λ (k : ClientKept). HoldsSo nothing_read k more extra) (sym is)
      (λ now. (refl, record { place = 0; within = omega arith; leads = (refl, sym all_methods); text_is = all_bytes }))
  all_for (s ∷ before) k more extra (b, trace, allowed, step) all_bytes all_methods =
      let old : HoldsSo (read_out before) b (taken_by s.event s.outcome ++ more) (waiting_methods (requests_by s.event) ++ extra) =
      all_for before b (taken_by s.event s.outcome ++ more) (waiting_methods (requests_by s.event) ++ extra) trace
      (all_bytes ∙ append_assoc (taken before) (taken_by s.event s.outcome) more)
      (all_methods ∙ ap (λ (l : List (List ℕ)). l ++ extra) (map-append (λ (w : Waiting). w.method) (requests_of before) (requests_by s.event))
      ∙ append_assoc (methods_of before) (waiting_methods (requests_by s.event)) extra) in
      let named = subst (λ (o : ClientOutcome). HoldsSo (read_out before) b (taken_by s.event o ++ more) (waiting_methods (requests_by s.event) ++ extra)) step.answers old in
      let new = step_for (read_out before) b s.event step.change more extra (known_of before b trace) allowed step.changes named in
      let told = subst (λ (o : ClientOutcome). HoldsSo (reading_out o (read_out before)) step.change.kept more extra) (sym step.answers) new in
      subst (λ (k : ClientKept). HoldsSo (reading_out s.outcome (read_out before)) k more extra) (sym step.keeps) told

-- ---- the theorem

-- nothing more comes
pub nothing_more : (t : Bool) → IsMore t [] t
nothing_more true = (refl, refl)
nothing_more false = tt

-- what holds of a client with what it has
pub holds_now : (setting : Setting) (trace : List Happened) (k : ClientKept) → IsClientTrace setting trace k
    → ((read_out trace).stray ≡ [])
    × IsState (taken trace) (has_ended trace) setting.hold_size (methods_of trace) k.failed [] (read_out trace).answers (k.unread ++ []) (waiting_methods k.waiting ++ []) k.reading
holds_now setting trace k ran =
    all_for setting (taken trace) (has_ended trace) (methods_of trace) trace k [] [] ran (sym (append-nil (taken trace))) (sym (append-nil (methods_of trace)))
    (subst (λ (t : Bool). IsMore t [] (has_ended trace)) (trace_ended setting trace k ran) (nothing_more (has_ended trace)))

pub all_is_parsed : (setting : Setting) (trace : List Happened) (k : ClientKept) (parse : List AnswerMessage) → IsClientTrace setting trace k
    → AreAnswersTaken setting trace parse → ReadsPrefix setting trace parse
all_is_parsed setting trace k parse ran are =
    let x = holds_now setting trace k ran in (
      x.0,
      state_final (taken trace) (has_ended trace) setting.hold_size (methods_of trace) k.failed [] (read_out trace).answers (k.unread ++ []) (waiting_methods k.waiting ++ [])
          k.reading refl x.1 parse are,
    )
