-- Where nothing of a server's answer is there, its connection isn't to end.
use Rattle.std.proofs.Common.{◌≡◌, ℕ, ◌<◌, ◌≤◌, Bool, true, false, not, ◌&&◌, ◌++◌, List, [], ◌∷◌, length, Option, Some, None, refl, sym, ap, ap₂, ◌∙◌, subst, subst₂, arith}
use Rattle.std.specs.Prelude.{⊤, IsTrue, if◌then◌else◌, ◌==◌}
use Rattle.std.specs.Option.{option_or}
use Rattle.std.proofs.lemmas.Bool.{false≢true, eqb-false}
use Rattle.std.proofs.lemmas.Option.{none-some, same_Some}
use Rattle.model_h1.specs.Request.{too_large}
use Rattle.model_h1.specs.Setting.{Setting}
use Rattle.model_h1.specs.Event as server
use Rattle.model_state.specs.Change.{IsComing}
use Rattle.model_state.specs.Pull.{Pulled, IsPull}
use Rattle.model_client.specs.AnswerReading.{AnswerReading, answer_is, refused}
use Rattle.model_client.specs.ClientEvent as on
use Rattle.model_client.specs.ClientEvent.{ClientEnd, ClientOutcome}
use Rattle.model_client.specs.ClientKept.{Waiting, ReadingBody, ClientKept, is_free, is_free_of, is_dropped_of, client_closing, client_allows}
use Rattle.model_client.specs.ClientStep.{ClientChange, outcome_of, end_of, pulled_from, IsPulling, behind_head, IsUpcoming, IsNext, IsClientStep, KnowsComing}
use Rattle.model_client.specs.ClientTrace.{Happened, IsClientTrace, taken}
use Rattle.model_state.proofs.OneStep.{coming_one}
use Rattle.model_client.specs.Parsed.{has_ended, methods_of}
use Rattle.model_client.specs.ReadOut.{ReadAnswer, read_out}
use Rattle.model_client.proofs.Told.{IsSound}
use Rattle.model_client.proofs.Holds.{waiting_methods, IsState, IsOpen, IsBody, IsBusy}
use Rattle.model_client.proofs.NextAnswers.{fine_while, allowed_then, allowed_while}
use Rattle.model_client.proofs.AllHappened.{both, not_true, going_for, known_of, holds_now}
use Rattle.model_proxy.specs.Left.{LacksPiece}
use Rattle.model_proxy.proofs.Pending.{GoesOn, LacksSo, pull_lacks, lacks_still}
use Rattle.model_proxy.proofs.Server.{unasked_closes, comes_true, held_fits}

-- ---- a pull

-- what a pull that gave nothing left of the body
record IsLeft (m : ClientKept) : Type 0 where
  pub body : ReadingBody
  pub reading : m.reading ≡ Some body
  pub undone : body.is_done ≡ false
  pub kept : body.was_dropped ≡ false
  pub rest : GoesOn body.rest
  pub unread : m.unread ≡ []
  pub going : m.has_ended ≡ false
  pub sound : m.failed ≡ None
  pub runs : m.is_over ≡ false

abbrev PieceLacks : ClientOutcome → ClientKept → Type 0
PieceLacks on.pending m = IsLeft m
PieceLacks o m = ⊤

piece_lacks : (o : server.Outcome) (p : Pulled) (body : ReadingBody) (k : ClientKept) → p.outcome ≡ o → body.was_dropped ≡ false → k.failed ≡ None
    → k.is_over ≡ false → LacksSo o k.has_ended p → PieceLacks (outcome_of o) (pulled_from body p k)
piece_lacks (server.bytes given) p body k is kept sound runs x = tt
piece_lacks (server.trailers lines) p body k is kept sound runs x = tt
piece_lacks server.body_ended p body k is kept sound runs x = tt
piece_lacks (server.broken_by fault) p body k is kept sound runs x = tt
piece_lacks server.pending p body k is kept sound runs x = record {
  body = record body { rest = p.rest; is_done = p.is_done };
  reading = refl;
  undone = x.undone;
  kept = kept;
  rest = x.rest;
  unread = x.unread;
  going = x.going;
  sound = ap₂ option_or sound (ap end_of is);
  runs = runs;
}
piece_lacks o p body k is kept sound runs x = absurd x

-- a further pull gives nothing
further : (n : ClientKept) (body : ReadingBody) (reading : Option ReadingBody) (c : ClientChange) → reading ≡ Some body → GoesOn body.rest → n.unread ≡ []
    → n.has_ended ≡ false → IsPulling n reading c → c.outcome ≡ on.pending
further n body (Some other) c is goes none going (p, pull, same) =
    ap (λ (c : ClientChange). c.outcome) same
    ∙ ap outcome_of (lacks_still body.rest p goes
    (subst (λ (b : ReadingBody). IsPull false b.rest [] p) (same_Some other body is)
    (subst₂ (λ (t : Bool) (bytes : List ℕ). IsPull t other.rest bytes p) going none pull)))
further n body None c is goes none going pull = absurd (none-some body is)

never_over : (over moment rest : Bool) → (not over && moment && rest) ≡ true → over ≡ false
never_over false moment rest is = refl
never_over true moment rest is = absurd (false≢true is)

module _ (setting : Setting) where
  may_pull : (n : ClientKept) → IsLeft n → IsTrue (client_allows setting n on.pull)
  may_pull n x =
      subst (λ (o : Bool). IsTrue (client_allows setting (record n { is_over = o }) on.pull)) (sym x.runs)
      (subst (λ (f : Option ClientEnd). IsTrue (client_allows setting (record n { is_over = false; failed = f }) on.pull)) (sym x.sound)
      (subst (λ (r : Option ReadingBody). IsTrue (client_allows setting (record n { is_over = false; failed = None; reading = r }) on.pull)) (sym x.reading)
      (subst₂ (λ (d w : Bool). IsTrue (client_allows setting (record n { is_over = false; failed = None; reading = Some (record x.body { is_done = d; was_dropped = w }) }) on.pull))
      (sym x.undone) (sym x.kept) refl)))

  lacks_piece : (n : ClientKept) → IsLeft n → LacksPiece setting n
  lacks_piece n x = record {
    allowed = may_pull n x;
    unread = x.unread;
    going = x.going;
    pending = λ o next step. step.answers ∙ further n x.body n.reading step.change x.reading x.rest x.unread x.going step.changes;
  }

  piece_change : (k next : ClientKept) (trace : List Happened) → IsClientTrace setting trace k
      → IsTrue (client_allows setting k on.pull) → (step : IsClientStep setting k on.pull on.pending next)
      → PieceLacks step.change.outcome step.change.kept
  piece_change k next trace ran allowed step = by_reading k.reading refl step.changes (allowed_then setting k on.pull going allowed)
    where
      going : client_closing k ≡ None
      going = going_for setting (taken trace) (has_ended trace) (methods_of trace) k on.pull allowed
          (λ end closing. false≢true (allowed_while setting k on.pull end closing allowed))

      state : IsOpen (taken trace) (has_ended trace) setting.hold_size (methods_of trace) (read_out trace).answers (k.unread ++ []) (waiting_methods k.waiting ++ []) k.reading
      state =
          subst (λ (f : Option ClientEnd). IsState (taken trace) (has_ended trace) setting.hold_size (methods_of trace) f [] (read_out trace).answers (k.unread ++ []) (waiting_methods k.waiting ++ []) k.reading)
          (fine_while k going) (holds_now setting trace k ran).1

      by_reading : (body : Option ReadingBody) → k.reading ≡ body → IsPulling k body step.change → IsTrue (not (is_free_of body) && not (is_dropped_of body))
          → PieceLacks step.change.outcome step.change.kept
      by_reading None is x may = absurd (false≢true may)
      by_reading (Some body) is (p, pull, same) may =
          let two = both (not body.is_done) (not body.was_dropped) may in
          let open_now = subst (IsOpen (taken trace) (has_ended trace) setting.hold_size (methods_of trace) (read_out trace).answers (k.unread ++ []) (waiting_methods k.waiting ++ [])) is state in
          let busy = subst (λ (d : Bool). IsBody (taken trace) (has_ended trace) setting.hold_size (methods_of trace) d (read_out trace).answers (k.unread ++ []) (waiting_methods k.waiting ++ []) body)
          (not_true body.is_done two.0) open_now in
          subst (λ (c : ClientChange). PieceLacks c.outcome c.kept) (sym same)
          (piece_lacks p.outcome p body k refl (not_true body.was_dropped two.1) (fine_while k going) (never_over k.is_over _ _ allowed)
          (pull_lacks k.has_ended body.rest k.unread p (sound_of (read_out trace).answers busy) pull))
        where
          sound_of : (outs : List ReadAnswer) → IsBusy (taken trace) (has_ended trace) setting.hold_size (methods_of trace) outs (k.unread ++ []) (waiting_methods k.waiting ++ []) body → IsSound body.rest
          sound_of [] x = absurd x
          sound_of (h ∷ before) x = x.sound

  pub pending_lacks : (k next : ClientKept) (trace : List Happened) → IsClientTrace setting trace k
      → IsTrue (client_allows setting k on.pull) → IsClientStep setting k on.pull on.pending next → LacksPiece setting next
  pending_lacks k next trace ran allowed step =
      let x = subst (λ (o : ClientOutcome). PieceLacks o step.change.kept) (sym step.answers) (piece_change k next trace ran allowed step) in
      subst (LacksPiece setting) (sym step.keeps) (lacks_piece (record step.change.kept { is_coming = step.coming }) (record {
        body = x.body;
        reading = x.reading;
        undone = x.undone;
        kept = x.kept;
        rest = x.rest;
        unread = x.unread;
        going = x.going;
        sound = x.sound;
        runs = x.runs;
      }))

  -- ---- the next answer

  abbrev Stays : ClientKept → ClientOutcome → ClientKept → Type 0
  Stays k on.pending m = (m ≡ k) × (client_closing k ≡ None) × (length k.unread < setting.hold_size)
  Stays k o m = ⊤

  abbrev OfChange : ClientKept → ClientChange → Type 0
  OfChange k c = Stays k c.outcome c.kept

  without_stays : (k : ClientKept) → client_closing k ≡ None → length k.unread ≤ setting.hold_size → (full : Bool) → (length k.unread == setting.hold_size) ≡ full
      → OfChange k (if full then record { outcome = on.fault too_large; kept = record k { failed = Some on.large_answer } }
      else record { outcome = on.pending; kept = k })
  without_stays k going fits true is = tt
  without_stays k going fits false is = let other = eqb-false (length k.unread) setting.hold_size is in (refl, going, omega (arith, fits, other))

  upcoming_stays : (k : ClientKept) (waiting : List Waiting) (coming : Bool) (c : ClientChange) → k.waiting ≡ waiting → k.is_coming ≡ coming → KnowsComing k
      → client_closing k ≡ None → length k.unread ≤ setting.hold_size → IsUpcoming setting k waiting coming c → OfChange k c
  upcoming_stays k [] false c none not_there known going fits x =
      subst (OfChange k) (sym x) (without_stays k going fits (length k.unread == setting.hold_size) refl)
  upcoming_stays k (w ∷ ws) false c some not_there known going fits x =
      subst (OfChange k) (sym x) (without_stays k going fits (length k.unread == setting.hold_size) refl)
  upcoming_stays k [] true c none there known going fits x =
      let two = comes_true (is_free k) k.unread (subst (IsComing (is_free k) k.unread) there known) in
      absurd (unasked_closes k none two.1 two.0 going)
  upcoming_stays k (w ∷ ws) true c some there known going fits (start, end, what, piece, reading, is) = subst (OfChange k) (sym is) (by_what what)
    where
      by_what : (what : AnswerReading) → OfChange k (behind_head k end w ws what)
      by_what (refused f) = tt
      by_what (answer_is a) = tt

  next_stays : (k : ClientKept) (closing : Option ClientEnd) (c : ClientChange) → client_closing k ≡ closing → KnowsComing k → length k.unread ≤ setting.hold_size
      → IsNext setting k closing c → OfChange k c
  next_stays k (Some end) c is known fits x = subst (OfChange k) (sym x) tt
  next_stays k None c is known fits x = upcoming_stays k k.waiting k.is_coming c refl refl known is fits x

  pub pending_stays : (k next : ClientKept) (trace : List Happened) → IsClientTrace setting trace k → IsClientStep setting k on.next on.pending next
      → (next ≡ record k { is_coming = k.is_coming }) × (client_closing k ≡ None) × (length k.unread < setting.hold_size)
  pending_stays k next trace ran step =
      let c = step.change in
      let known = known_of setting (taken trace) (has_ended trace) (methods_of trace) trace k ran in
      let x : Stays k on.pending c.kept =
      subst (λ (o : ClientOutcome). Stays k o c.kept) (sym step.answers)
      (next_stays k (client_closing k) c refl known (held_fits setting trace k ran) step.changes) in
      let here = subst (λ (m : ClientKept). IsComing (is_free m) m.unread step.coming) x.0 step.comes in
      let one = coming_one (is_free k) k.unread step.coming k.is_coming here known in
      (step.keeps ∙ ap₂ (λ (m : ClientKept) (b : Bool). record m { is_coming = b }) x.0 one, x.1, x.2)
