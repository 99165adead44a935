-- Which answers the client's connection wants after an event.
use Rattle.std.proofs.Common.{◌≡◌, ℕ, Bool, true, false, not, ◌&&◌, List, [], ◌∷◌, ◌++◌, drop, Option, Some, None, refl, sym, ap, ◌∙◌, subst}
use Rattle.std.specs.Prelude.{◌-◌, nat_le, is_some, is_none, if◌then◌else◌, ◌==◌, length}
use Rattle.std.specs.Option.{option_or}
use Rattle.std.proofs.lemmas.Bool.{false≢true, true≢false}
use Rattle.std.proofs.lemmas.Option.{none-some, same_Some}
use Rattle.model_h1.specs.Request.{Head, BodyKind, no_body, fixed_body, chunked_body, raw_body, ConnectionType, too_large, Reading, head_is, faulty}
use Rattle.model_h1.specs.Answer.{asked_of, AnswerHead, BodySize, is_at_once, Shape, shape_of, type_of}
use Rattle.model_h1.specs.Text.{answer_head_text}
use Rattle.model_h1.specs.AnswerText.{interim_text, timeout_text}
use Rattle.model_h1.specs.Setting.{Setting}
use Rattle.model_h1.specs.Event as on
use Rattle.model_h1.specs.End.{End}
use Rattle.model_h1.specs.End as ends
use Rattle.model_h1.specs.Sums.{Step, request}
use Rattle.model_h1.specs.Parse.{Message}
use Rattle.model_h1.specs.Past.{steps, current}
use Rattle.model_h1.proofs.PastLemmas.{legal_of}
use Rattle.model_state.specs.Kept.{Rest, no_rest, raw_rest, fixed_rest, chunks_rest, frames_rest, Reply, unanswered, sending, answered, Exchange, Kept, Change, is_free, is_frames, is_unanswered, is_upgraded, rest_in, whole_rest, of_exchange, now}
use Rattle.model_state.specs.Local.{closing_by, allowed_by, is_allowed_running, is_allowed_closing, is_answering, waits_for_answer}
use Rattle.model_state.specs.Body.{passing}
use Rattle.model_state.specs.Clock.{is_abandoned, is_slow, is_idle, expiring, at_moment, ticking}
use Rattle.model_state.specs.Change.{behind_head, IsUpcoming, IsNext, IsPulling, IsChange, IsComing, noting_since, IsStep, doing_with, exchange_at_end}
use Rattle.model_state.specs.Reply.{completing, answering, sending_piece, ending_body, stated}
use Rattle.model_h1.specs.Place.{Place}
use Rattle.model_h1.specs.TakeNext as taking
use Rattle.model_h1.specs.TakeNext.{Next}
use Rattle.model_state.specs.Pull.{Pulled, IsPull, IsPullOfChunks, EndsWith}
use Rattle.model_state.specs.KeptOf.{exchange_of}
use Rattle.model_state.specs.StandsFor.{StandsFor}
use Rattle.model_state.proofs.Kernel.{coming_of}
use Rattle.model_state.proofs.OneStep.{coming_one}
use Rattle.model_proxy.specs.Wants.{is_running, IsAnswered, IsComplete, IsWaitedFor, head_mark, IsAskedBy, AsksTheSame, awaits_continue, is_of_old, IsTold, WantsNoMore, WantsTheSame, AnswersNothing, WantsAfterNext}
use Rattle.model_proxy.proofs.Client.{machine_step, droppable}

-- ---- what an exchange wants

-- a client that doesn't wait to be told to go on doesn't afterwards
abbrev StaysTold : Kept → Kept → Type 0
StaysTold k m = awaits_continue k ≡ false → awaits_continue m ≡ false

-- what is wanted is what was, by the same request, whether the connection goes on or not
abbrev pub Alike : Kept → Kept → Type 0
Alike k m =
    (waits_for_answer m ≡ waits_for_answer k) × (is_answering m ≡ is_answering k) × (head_mark m.exchange ≡ head_mark k.exchange) × StaysTold k m

same : (k : Kept) → Alike k k
same k = (refl, refl, refl, λ t. t)

alike_then : (a b c : Kept) → Alike a b → Alike b c → Alike a c
alike_then a b c x y = (y.0 ∙ x.0, y.1 ∙ x.1, y.2 ∙ x.2, λ t. y.3 (x.3 t))

-- or nothing more is
abbrev pub Less : Kept → Kept → Type 0
Less k m =
    (waits_for_answer k ≡ false → waits_for_answer m ≡ false) × (is_answering k ≡ false → is_answering m ≡ false)
    × (head_mark m.exchange ≡ head_mark k.exchange) × StaysTold k m

-- a body is passed only where the answer is complete
passing_alike : (k : Kept) (ex : Option Exchange) → Alike (record k { exchange = ex }) (passing (record k { exchange = ex }))
unfolding passing
passing_alike k None = (refl, refl, refl, λ t. t)
passing_alike k (Some x) = by_reply x.reply
  where
    by_reply : (r : Reply) → Alike (record k { exchange = Some (record x { reply = r }) }) (passing (record k { exchange = Some (record x { reply = r }) }))
    by_reply unanswered = (refl, refl, refl, λ t. t)
    by_reply (sending shape kind missing) = (refl, refl, refl, λ t. t)
    by_reply (answered kind) = (refl, refl, refl, λ t. t)

with_exchange : (act : Exchange → Kept → Kept) (k : Kept) (ex : Option Exchange)
    → ((x : Exchange) → Alike (record k { exchange = Some x }) (act x (record k { exchange = Some x })))
    → Alike (record k { exchange = ex }) (doing_with act (record k { exchange = ex })).kept
with_exchange act k None alike = (refl, refl, refl, λ t. t)
with_exchange act k (Some x) alike = alike x

-- ---- each event

frames_in : (bytes : List ℕ) (rest : Rest) → is_frames (rest_in true bytes rest) ≡ is_frames rest
frames_in [] no_rest = refl
frames_in [] raw_rest = refl
frames_in [] (fixed_rest n) = refl
frames_in [] (chunks_rest place section) = refl
frames_in [] (frames_rest under_way limit) = refl
frames_in (b ∷ bytes) no_rest = refl
frames_in (b ∷ bytes) raw_rest = refl
frames_in (b ∷ bytes) (fixed_rest n) = refl
frames_in (b ∷ bytes) (chunks_rest place section) = refl
frames_in (b ∷ bytes) (frames_rest under_way limit) = refl

ending_alike : (k : Kept) (bytes : List ℕ) (ex : Option Exchange)
    → Alike (record k { exchange = ex }) (record k { has_ended = true; exchange = exchange_at_end bytes ex })
ending_alike k bytes None = (refl, refl, refl, λ t. t)
ending_alike k bytes (Some x) = (ap (λ (f : Bool). is_unanswered x.reply && not f) (frames_in bytes x.rest), refl, refl, λ t. t)

frames_in_rest : (ended : Bool) (bytes : List ℕ) (rest : Rest) → is_frames (rest_in ended bytes rest) ≡ is_frames rest
frames_in_rest true bytes rest = frames_in bytes rest
frames_in_rest false bytes no_rest = refl
frames_in_rest false bytes raw_rest = refl
frames_in_rest false bytes (fixed_rest n) = refl
frames_in_rest false bytes (chunks_rest place section) = refl
frames_in_rest false bytes (frames_rest under_way limit) = refl

no_frames_by : (t : Bool) (a b : Rest) → is_frames a ≡ false → is_frames b ≡ false → is_frames (if t then a else b) ≡ false
no_frames_by true a b x y = x
no_frames_by false a b x y = y

none_whole : (kind : BodyKind) → is_frames (whole_rest kind) ≡ false
none_whole no_body = refl
none_whole (fixed_body n) = no_frames_by (n == 0) no_rest (fixed_rest n) refl refl
none_whole chunked_body = refl
none_whole raw_body = refl

rest_of : (p q : Pulled) → p ≡ q → is_frames q.rest ≡ false → is_frames p.rest ≡ false
rest_of p q is x = ap (λ (p : Pulled). is_frames p.rest) is ∙ x

chunk_frames : (is_ended : Bool) (place : Place) (section bytes : List ℕ) (next : Next) (noted : List ℕ) (p : Pulled)
    → IsPullOfChunks is_ended place section bytes next noted p → is_frames p.rest ≡ false
chunk_frames is_ended place section bytes (taking.chunk given next behind) noted p x = rest_of p _ x refl
chunk_frames true place section bytes (taking.waits next) noted p x = rest_of p _ x refl
chunk_frames false place section bytes (taking.waits next) noted p x = rest_of p _ x refl
chunk_frames is_ended place section bytes (taking.ended behind) noted p x = ends_with (section ++ noted) x
  where
    ends_with : (all : List ℕ) → EndsWith all behind p → is_frames p.rest ≡ false
    ends_with [] x = rest_of p _ x refl
    ends_with (b ∷ all) x = rest_of p _ x.3 refl
chunk_frames is_ended place section bytes taking.breaks noted p x = rest_of p _ x refl

-- of a body that is no frames no frames are left
pull_frames : (is_ended : Bool) (rest : Rest) (bytes : List ℕ) (p : Pulled) → IsPull is_ended rest bytes p → is_frames rest ≡ false → is_frames p.rest ≡ false
pull_frames is_ended no_rest bytes p x plain = rest_of p _ x refl
pull_frames true raw_rest [] p x plain = rest_of p _ x refl
pull_frames false raw_rest [] p x plain = rest_of p _ x refl
pull_frames is_ended raw_rest (b ∷ bytes) p x plain = rest_of p _ x (no_frames_by is_ended no_rest raw_rest refl refl)
pull_frames true (fixed_rest n) [] p x plain = rest_of p _ x refl
pull_frames false (fixed_rest n) [] p x plain = rest_of p _ x refl
pull_frames is_ended (fixed_rest n) (b ∷ bytes) p x plain =
    rest_of p _ x (no_frames_by (nat_le n (length (b ∷ bytes))) no_rest (fixed_rest (n - length (b ∷ bytes))) refl refl)
pull_frames is_ended (chunks_rest place section) bytes p x plain = chunk_frames is_ended place section bytes _ _ p x
pull_frames is_ended (frames_rest under_way limit) bytes p x plain = absurd (true≢false plain)

pull_alike : (k : Kept) (ex : Option Exchange) (c : Change) → k.exchange ≡ ex → is_upgraded k ≡ false → IsPulling k ex c → Alike k c.kept
pull_alike k None c here plain is = subst (λ (c : Change). Alike k c.kept) (sym is) (same k)
pull_alike k (Some x) c here plain (p, pull, is) =
    let waits = ap (λ (e : Option Exchange). waits_for_answer (record k { exchange = e })) here in
    let going = ap (λ (e : Option Exchange). is_answering (record k { exchange = e })) here in
    let frames = ap (λ (e : Option Exchange). is_upgraded (record k { exchange = e })) here in
    let marked = ap (λ (e : Option Exchange). head_mark e) here in
    let told = ap (λ (e : Option Exchange). awaits_continue (record k { exchange = e })) here in
    subst (λ (c : Change). Alike k c.kept) (sym is)
    (ap (λ (f : Bool). is_unanswered x.reply && not f) (pull_frames k.has_ended x.rest k.unread p pull (sym frames ∙ plain) ∙ sym plain ∙ frames) ∙ sym waits, sym going, sym marked, λ t. sym told ∙ t)

piece_alike : (bytes : List ℕ) (k : Kept) (x : Exchange) (reply : Reply)
    → Alike (record k { exchange = Some (record x { reply = reply }) })
    (sending_piece bytes (record x { reply = reply }) (record k { exchange = Some (record x { reply = reply }) }))
piece_alike bytes k x unanswered = (refl, refl, refl, λ t. t)
piece_alike bytes k x (sending shape kind missing) = (refl, refl, refl, λ t. t)
piece_alike bytes k x (answered kind) = (refl, refl, refl, λ t. t)

told_to_continue : (is_new expects : Bool) → (is_new && (expects && not true)) ≡ false
told_to_continue true true = refl
told_to_continue true false = refl
told_to_continue false expects = refl

module _ (setting : Setting) where
  of_change : (k : Kept) (c d : Change) → c ≡ d → Alike k d.kept → Alike k c.kept
  of_change k c d is x = subst (λ (c : Change). Alike k c.kept) (sym is) x

  ticking_alike : (k : Kept) (closing : Option End) (ms : ℕ) → Alike k (ticking setting k closing ms).kept
  ticking_alike k (Some end) ms = by_choice (is_abandoned setting k _ ms)
    where
      by_choice : (t : Bool)
          → Alike k (at_moment ms (if t then record { outcome = on.abandoned; kept = record k { is_over = true } } else record { outcome = on.done; kept = k })).kept
      by_choice true = (refl, refl, refl, λ t. t)
      by_choice false = (refl, refl, refl, λ t. t)
  ticking_alike k None ms = by_two (is_slow setting k _ ms) (is_idle setting k _ ms)
    where
      by_two : (slow idle : Bool)
          → Alike k (at_moment ms (if slow
          then record { outcome = on.expired ends.slow_request; kept = record k { failed = Some ends.slow_request; buffered = k.buffered ++ timeout_text ms } }
          else (if idle then record { outcome = on.expired ends.keep_alive_expired; kept = record k { failed = Some ends.keep_alive_expired } }
          else record { outcome = on.done; kept = k }))).kept
      by_two true idle = (refl, refl, refl, λ t. t)
      by_two false true = (refl, refl, refl, λ t. t)
      by_two false false = (refl, refl, refl, λ t. t)

  change_alike : (k : Kept) (event : on.Event) (c : Change) → AnswersNothing event → IsChange setting k event c → Alike k c.kept
  change_alike k (on.read bytes) c asks is = of_change k c _ is (passing_alike (record k { unread = _ }) k.exchange)
  change_alike k on.eof c asks is =
      let m : Kept = record k { has_ended = true; exchange = exchange_at_end k.unread k.exchange } in
      of_change k c _ is (alike_then k m (passing m) (ending_alike k k.unread k.exchange) (passing_alike (record k { has_ended = true }) (exchange_at_end k.unread k.exchange)))
  change_alike k on.drop_body c asks is =
      of_change k c _ is (with_exchange (λ x k. record k { exchange = Some (record x { was_dropped = true }) }) k k.exchange (λ x. (refl, refl, refl, λ t. t)))
  change_alike k on.send_continue c asks is =
      of_change k c _ is
      (with_exchange (λ x k. record k { buffered = k.buffered ++ interim_text; exchange = Some (record x { had_continue = true }) }) k k.exchange (λ x. (refl, refl, refl, λ t. told_to_continue (not (x.asked.minor == 0)) x.expects)))
  change_alike k (on.chunk bytes) c asks is = of_change k c _ is (with_exchange (sending_piece bytes) k k.exchange (λ x. piece_alike bytes k x x.reply))
  change_alike k (on.write n) c asks is = of_change k c _ is (same k)
  change_alike k (on.tick ms) c asks is = of_change k c _ is (ticking_alike k (closing_by setting k) ms)
  change_alike k event c asks is = absurd asks

  -- ---- whether it goes on

  running_by : (over : Bool) (closing : Option End) (while_closing run : Bool) → while_closing ≡ false
      → (not over && (if is_some closing then while_closing else run)) ≡ true → (not over && is_none closing) ≡ true
  running_by true closing while_closing run none is = absurd (false≢true is)
  running_by false None while_closing run none is = refl
  running_by false (Some end) while_closing run none is = absurd (false≢true (sym none ∙ is))

  -- what isn't allowed while it closes is allowed only where it goes on
  running_of : (k : Kept) (event : on.Event) → is_allowed_closing k event ≡ false → allowed_by setting k event ≡ true → is_running setting k ≡ true
  unfolding allowed_by
  running_of k event none is = running_by k.is_over (closing_by setting k) (is_allowed_closing k event) (is_allowed_running setting k event) none is

  not_over : (over b : Bool) → (not over && b) ≡ true → over ≡ false
  not_over true b is = absurd (false≢true is)
  not_over false b is = refl

  not_over_of : (k : Kept) (event : on.Event) → allowed_by setting k event ≡ true → k.is_over ≡ false
  unfolding allowed_by
  not_over_of k event is = not_over k.is_over _ is

  running_none : (k : Kept) → k.is_over ≡ false → closing_by setting k ≡ None → is_running setting k ≡ true
  running_none k over none =
      ap (λ (o : Bool). not o && is_none (closing_by setting k)) over ∙ ap (λ (e : Option End). is_none e) none

  over_stops : (k : Kept) → k.is_over ≡ true → is_running setting k ≡ true → ⊥
  over_stops k over runs = false≢true (sym (ap (λ (o : Bool). not o && is_none (closing_by setting k)) over) ∙ runs)

  second : (a b : Bool) → (a && b) ≡ true → b ≡ true
  second true b is = is
  second false b is = absurd (false≢true is)

  closing_stops : (k : Kept) (end : End) → closing_by setting k ≡ Some end → is_running setting k ≡ true → ⊥
  closing_stops k end closing runs =
      false≢true (sym (ap (λ (e : Option End). is_none e) closing) ∙ second (not k.is_over) (is_none (closing_by setting k)) runs)

  -- the connection closes by these parts alone
  pub record SameEnd (k m : Kept) : Type 0 where
    pub failed : m.failed ≡ k.failed
    pub exchange : m.exchange ≡ k.exchange
    pub draining : m.is_draining ≡ k.is_draining
    pub ended : m.has_ended ≡ k.has_ended
    pub unread : m.unread ≡ k.unread

  -- where a step changes none of them
  still_closes : (k m next : Kept) (coming : Bool) (end : End) → IsComing (is_free k) k.unread k.is_coming → SameEnd k m
      → IsComing (is_free m) m.unread coming
      → next ≡ noting_since setting (record m { is_coming = coming }) → closing_by setting k ≡ Some end → closing_by setting next ≡ Some end
  unfolding closing_by
  still_closes k m next coming end known s comes is closing =
      let k1 : Kept = record m { failed = k.failed; exchange = k.exchange; is_draining = k.is_draining; has_ended = k.has_ended; unread = k.unread } in
      let as_k : m ≡ k1 = λ i. record m { failed = s.failed i; exchange = s.exchange i; is_draining = s.draining i; has_ended = s.ended i; unread = s.unread i } in
      let here : IsComing (is_free k) k.unread coming = subst (λ (m : Kept). IsComing (is_free m) m.unread coming) as_k comes in
      let one = coming_one (is_free k) k.unread coming k.is_coming here known in
      ap (λ (n : Kept). closing_by setting n) is
      ∙ ap (λ (m : Kept). closing_by setting (record m { is_coming = coming })) as_k
      ∙ ap (λ (b : Bool). closing_by setting (record k1 { is_coming = b })) one
      ∙ closing

  known_coming : (k : Kept) (trace : List Step) → StandsFor setting k trace → IsComing (is_free k) k.unread k.is_coming
  known_coming k trace x =
      subst (λ (k : Kept). IsComing (is_free k) k.unread k.is_coming) (sym x.parts)
      (coming_of setting x.past (legal_of setting trace x.past x.traced x.of_trace))

  -- where it goes on after a write or a tick, it did before
  write_runs : (k next : Kept) (trace : List Step) (n : ℕ) (o : on.Outcome) → StandsFor setting k trace → k.is_over ≡ false
      → IsStep setting k (on.write n) o next → is_running setting next ≡ true → is_running setting k ≡ true
  write_runs k next trace n o x over step runs = by_closing (closing_by setting k) refl
    where
      by_closing : (e : Option End) → closing_by setting k ≡ e → is_running setting k ≡ true
      by_closing None is = running_none k over is
      by_closing (Some end) is =
          let kept = ap (λ (c : Change). c.kept) step.changes in
          absurd (closing_stops next end
          (still_closes k step.change.kept next step.coming end (known_coming k trace x)
          (subst (SameEnd k) (sym kept) (record { failed = refl; exchange = refl; draining = refl; ended = refl; unread = refl })) step.comes step.keeps is) runs)

  tick_runs : (k next : Kept) (trace : List Step) (ms : ℕ) (o : on.Outcome) → StandsFor setting k trace → k.is_over ≡ false
      → IsStep setting k (on.tick ms) o next → is_running setting next ≡ true → is_running setting k ≡ true
  tick_runs k next trace ms o x over step runs = by_closing (closing_by setting k) refl
    where
      same_end : (first : ℕ) (end : End) → SameEnd k (at_moment ms (expiring setting k (Some end) first ms)).kept
      same_end first end = by_choice (is_abandoned setting k first ms)
        where
          by_choice : (t : Bool)
              → SameEnd k (at_moment ms (if t then record { outcome = on.abandoned; kept = record k { is_over = true } } else record { outcome = on.done; kept = k })).kept
          by_choice true = record { failed = refl; exchange = refl; draining = refl; ended = refl; unread = refl }
          by_choice false = record { failed = refl; exchange = refl; draining = refl; ended = refl; unread = refl }

      by_closing : (e : Option End) → closing_by setting k ≡ e → is_running setting k ≡ true
      by_closing None is = running_none k over is
      by_closing (Some end) is =
          let kept = ap (λ (c : Change). c.kept) (step.changes ∙ ap (λ (e : Option End). ticking setting k e ms) is) in
          absurd (closing_stops next end
          (still_closes k step.change.kept next step.coming end (known_coming k trace x) (subst (SameEnd k) (sym kept) (same_end _ end)) step.comes step.keeps is) runs)

  runs_before : (k next : Kept) (trace : List Step) (event : on.Event) (o : on.Outcome) → AnswersNothing event → StandsFor setting k trace
      → allowed_by setting k event ≡ true → IsStep setting k event o next → is_running setting next ≡ true → is_running setting k ≡ true
  runs_before k next trace (on.write n) o asks x allowed step = write_runs k next trace n o x (not_over_of k (on.write n) allowed) step
  runs_before k next trace (on.tick ms) o asks x allowed step = tick_runs k next trace ms o x (not_over_of k (on.tick ms) allowed) step
  runs_before k next trace (on.read bytes) o asks x allowed step = λ runs. running_of k (on.read bytes) refl allowed
  runs_before k next trace on.eof o asks x allowed step = λ runs. running_of k on.eof refl allowed
  runs_before k next trace on.drop_body o asks x allowed step = λ runs. running_of k on.drop_body refl allowed
  runs_before k next trace on.send_continue o asks x allowed step = λ runs. running_of k on.send_continue refl allowed
  runs_before k next trace (on.chunk bytes) o asks x allowed step = λ runs. running_of k (on.chunk bytes) refl allowed
  runs_before k next trace event o asks x allowed step = absurd asks

  -- ---- what is wanted after each

  as_next : (k m next : Kept) (coming : Bool) → next ≡ noting_since setting (record m { is_coming = coming }) → Alike k m → Alike k next
  as_next k m next coming is x = subst (Alike k) (sym is) x

  less_next : (k m next : Kept) (coming : Bool) → next ≡ noting_since setting (record m { is_coming = coming }) → Less k m → Less k next
  less_next k m next coming is x = subst (Less k) (sym is) x

  wants_alike : (k next : Kept) → (is_running setting next ≡ true → is_running setting k ≡ true) → Alike k next → WantsTheSame setting k next
  wants_alike k next back alike = record {
    answered = λ old runs. alike.0 ∙ old (back runs);
    complete = λ old runs. alike.1 ∙ old (back runs);
    waited = λ old runs. alike.0 ∙ old (back runs);
    answering = λ old runs. alike.1 ∙ old (back runs);
    asked = λ is_head old. alike.2 ∙ old;
    told = λ old runs. alike.3 (old (back runs));
  }

  wants_less : (k next : Kept) → (is_running setting next ≡ true → is_running setting k ≡ true) → Less k next → WantsNoMore setting k next
  wants_less k next back less = record {
    answered = λ old runs. less.0 (old (back runs));
    complete = λ old runs. less.1 (old (back runs));
    asked = λ is_head old. less.2 ∙ old;
    told = λ old runs. less.3 (old (back runs));
  }

  pub others_want : (k next : Kept) (trace : List Step) (event : on.Event) (o : on.Outcome) → AnswersNothing event → allowed_by setting k event ≡ true
      → StandsFor setting k trace → StandsFor setting next (record { event = event; outcome = o } ∷ trace) → WantsTheSame setting k next
  others_want k next trace event o asks allowed x y =
      let step = machine_step setting k next trace (record { event = event; outcome = o }) x y in
      wants_alike k next (runs_before k next trace event o asks x allowed step)
      (as_next k step.change.kept next step.coming step.keeps (change_alike k event step.change asks step.changes))

  pub pull_wants : (k next : Kept) (trace : List Step) (o : on.Outcome) → allowed_by setting k on.drop_body ≡ true
      → StandsFor setting k trace → StandsFor setting next (record { event = on.pull; outcome = o } ∷ trace) → WantsTheSame setting k next
  pull_wants k next trace o allowed x y =
      let step = machine_step setting k next trace (record { event = on.pull; outcome = o }) x y in
      wants_alike k next (λ runs. running_of k on.drop_body refl allowed)
      (as_next k step.change.kept next step.coming step.keeps (pull_alike k k.exchange step.change refl (droppable setting k allowed).0 step.changes))

  -- the word to go on
  continue_change : (k : Kept) (ex : Option Exchange) (c : Change)
      → c ≡ doing_with (λ x k. record k { buffered = k.buffered ++ interim_text; exchange = Some (record x { had_continue = true }) }) (record k { exchange = ex })
      → awaits_continue c.kept ≡ false
  continue_change k None c is = ap (λ (c : Change). awaits_continue c.kept) is
  continue_change k (Some x) c is = ap (λ (c : Change). awaits_continue c.kept) is ∙ told_to_continue (not (x.asked.minor == 0)) x.expects

  pub continue_tells : (k next : Kept) (trace : List Step) (o : on.Outcome)
      → StandsFor setting k trace → StandsFor setting next (record { event = on.send_continue; outcome = o } ∷ trace) → IsTold setting next
  continue_tells k next trace o x y = λ runs.
      let step = machine_step setting k next trace (record { event = on.send_continue; outcome = o }) x y in
      ap (λ (n : Kept). awaits_continue n) step.keeps ∙ continue_change k k.exchange step.change step.changes

  -- the head of an answer
  abbrev HasHead : BodySize → Kept → Kept → Type 0
  HasHead size k m =
      (waits_for_answer m ≡ false) × (is_at_once size ≡ true → is_answering m ≡ false)
      × (waits_for_answer k ≡ true → is_at_once size ≡ false → is_answering m ≡ true) × (head_mark m.exchange ≡ head_mark k.exchange) × StaysTold k m

  answer_less : (head : AnswerHead) (size : BodySize) (k : Kept) (x : Exchange)
      → HasHead size (record k { exchange = Some x }) (answering setting head size x (record k { exchange = Some x }))
  unfolding passing
  answer_less head size k x = by_size (is_at_once size)
    where
      kind : ConnectionType
      kind = type_of setting k.is_draining x.asked head size

      shape : Shape
      shape = shape_of x.asked head size

      next : Kept
      next = record k { buffered = k.buffered ++ answer_head_text setting k.is_draining x.asked head size (now k) }

      put : Bool → Kept
      put t = if t then completing kind x next else record next { exchange = Some (record x { reply = sending shape kind (stated shape) }) }

      by_size : (t : Bool)
          → (waits_for_answer (put t) ≡ false) × (t ≡ true → is_answering (put t) ≡ false)
          × (waits_for_answer (record k { exchange = Some x }) ≡ true → t ≡ false → is_answering (put t) ≡ true) × (head_mark (put t).exchange ≡ head_mark (Some x))
          × StaysTold (record k { exchange = Some x }) (put t)
      by_size true = (refl, λ is. refl, λ waits is. absurd (true≢false is), refl, λ t. t)
      by_size false = (refl, λ is. absurd (false≢true is), λ waits is. refl, refl, λ t. t)

  answer_change : (head : AnswerHead) (size : BodySize) (k : Kept) (ex : Option Exchange) (c : Change)
      → c ≡ doing_with (answering setting head size) (record k { exchange = ex }) → HasHead size (record k { exchange = ex }) c.kept
  answer_change head size k None c is =
      subst (λ (c : Change). HasHead size (record k { exchange = None }) c.kept) (sym is) (refl, λ once. refl, λ waits none. absurd (false≢true waits), refl, λ t. t)
  answer_change head size k (Some x) c is =
      subst (λ (c : Change). HasHead size (record k { exchange = Some x }) c.kept) (sym is) (answer_less head size k x)

  waited_by : (over : Bool) (closing : Option End) (waits : Bool) → (not over && (if is_some closing then false else waits)) ≡ true → waits ≡ true
  waited_by true closing waits is = absurd (false≢true is)
  waited_by false None waits is = is
  waited_by false (Some end) waits is = absurd (false≢true is)

  -- a request waits where an answer is allowed
  pub waited : (k : Kept) (head : AnswerHead) (size : BodySize) → allowed_by setting k (on.answer head size) ≡ true → waits_for_answer k ≡ true
  unfolding allowed_by
  waited k head size is = waited_by k.is_over (closing_by setting k) (waits_for_answer k) is

  pub answer_wants : (k next : Kept) (trace : List Step) (head : AnswerHead) (size : BodySize) (o : on.Outcome)
      → StandsFor setting k trace → StandsFor setting next (record { event = on.answer head size; outcome = o } ∷ trace)
      → (waits_for_answer next ≡ false) × (is_at_once size ≡ true → is_answering next ≡ false)
      × (waits_for_answer k ≡ true → is_at_once size ≡ false → is_answering next ≡ true) × AsksTheSame k next
      × (allowed_by setting k (on.answer head size) ≡ true → IsTold setting k → IsTold setting next)
  answer_wants k next trace head size o x y =
      let step = machine_step setting k next trace (record { event = on.answer head size; outcome = o }) x y in
      let had = subst (HasHead size k) (sym step.keeps) (answer_change head size k k.exchange step.change step.changes) in
      (had.0, had.1, had.2, λ is_head old. had.3 ∙ old, λ allowed old runs. had.4 (old (running_of k (on.answer head size) refl allowed)))

  -- its end
  end_less : (k : Kept) (x : Exchange) (reply : Reply)
      → Less (record k { exchange = Some (record x { reply = reply }) })
      (ending_body (record x { reply = reply }) (record k { exchange = Some (record x { reply = reply }) }))
      × (is_answering (ending_body (record x { reply = reply }) (record k { exchange = Some (record x { reply = reply }) })) ≡ false)
  unfolding passing
  end_less k x unanswered = ((λ w. w, λ a. a, refl, λ t. t), refl)
  end_less k x (sending shape kind missing) = ((λ w. refl, λ a. refl, refl, λ t. t), refl)
  end_less k x (answered kind) = ((λ w. w, λ a. a, refl, λ t. t), refl)

  end_change : (k : Kept) (ex : Option Exchange) (c : Change) → c ≡ doing_with ending_body (record k { exchange = ex })
      → Less (record k { exchange = ex }) c.kept × (is_answering c.kept ≡ false)
  end_change k None c is =
      subst (λ (c : Change). Less (record k { exchange = None }) c.kept × (is_answering c.kept ≡ false)) (sym is) ((λ w. refl, λ a. refl, refl, λ t. t), refl)
  end_change k (Some x) c is =
      subst (λ (c : Change). Less (record k { exchange = Some x }) c.kept × (is_answering c.kept ≡ false)) (sym is) (end_less k x x.reply)

  pub end_wants : (k next : Kept) (trace : List Step) (o : on.Outcome) → allowed_by setting k on.body_end ≡ true
      → StandsFor setting k trace → StandsFor setting next (record { event = on.body_end; outcome = o } ∷ trace)
      → WantsNoMore setting k next × (is_answering next ≡ false)
  end_wants k next trace o allowed x y =
      let step = machine_step setting k next trace (record { event = on.body_end; outcome = o }) x y in
      let two = end_change k k.exchange step.change step.changes in (
        wants_less k next (λ runs. running_of k on.body_end refl allowed) (less_next k step.change.kept next step.coming step.keeps two.0),
        subst (λ (n : Kept). is_answering n ≡ false) (sym step.keeps) two.1,
      )

  never : (f o : Option End) (end : End) → f ≡ Some end → is_none (option_or f o) ≡ true → ⊥
  never (Some e) o end is runs = false≢true runs
  never None o end is runs = cc is

  failed_stops : (k : Kept) (end : End) → k.failed ≡ Some end → is_running setting k ≡ true → ⊥
  unfolding closing_by
  failed_stops k end failed runs = never k.failed _ end failed (second (not k.is_over) (is_none (closing_by setting k)) runs)

  -- a cut answer ends the connection
  pub cut_wants : (k next : Kept) (trace : List Step) (o : on.Outcome)
      → StandsFor setting k trace → StandsFor setting next (record { event = on.body_error; outcome = o } ∷ trace)
      → (is_running setting next ≡ true → ⊥) × AsksTheSame k next
  cut_wants k next trace o x y =
      let step = machine_step setting k next trace (record { event = on.body_error; outcome = o }) x y in (
        failed_stops next ends.body (ap (λ (n : Kept). n.failed) step.keeps ∙ ap (λ (c : Change). c.kept.failed) step.changes),
        λ is_head old. ap (λ (n : Kept). head_mark n.exchange) step.keeps ∙ ap (λ (c : Change). head_mark c.kept.exchange) step.changes ∙ old,
      )

  -- the next head
  abbrev NextSo : Kept → on.Outcome → Kept → Type 0
  NextSo k (on.head h) m =
      (is_answering m ≡ false) × (waits_for_answer m ≡ true) × IsAskedBy (asked_of h).is_head m × ((h.minor == 0) ≡ true → awaits_continue m ≡ false)
  NextSo k (on.closed end) m = (m.is_over ≡ true) × (head_mark m.exchange ≡ head_mark k.exchange)
  NextSo k o m = Alike k m × (closing_by setting k ≡ None)

  abbrev OfChange : Kept → Change → Type 0
  OfChange k c = NextSo k c.outcome c.kept

  upcoming : (k : Kept) (coming : Bool) (c : Change) → closing_by setting k ≡ None → IsUpcoming setting k coming c → OfChange k c
  upcoming k false c none x = subst (OfChange k) (sym x) (without (length k.unread == setting.hold_size))
    where
      without : (full : Bool) → OfChange k (if full then behind_head k 0 (faulty too_large) else record { outcome = on.pending; kept = k })
      without true = (same k, none)
      without false = (same k, none)
  upcoming k true c none (start, end, what, piece, reading, is) = subst (OfChange k) (sym is) (by_what what)
    where
      by_what : (what : Reading) → OfChange k (behind_head k end what)
      by_what (head_is h) = (
        refl,
        ap not (frames_in_rest k.has_ended (drop end k.unread) (whole_rest h.body) ∙ none_whole h.body),
        refl,
        λ older. ap (λ (b : Bool). not b && (h.expects && not false)) older,
      )
      by_what (faulty f) = (same k, none)

  next_case : (k : Kept) (closing : Option End) (c : Change) → closing_by setting k ≡ closing → IsNext setting k closing c → OfChange k c
  next_case k None c is x = upcoming k k.is_coming c is x
  next_case k (Some end) c is x = subst (OfChange k) (sym x) (refl, refl)

  noted : (k m next : Kept) (coming : Bool) (o : on.Outcome) → next ≡ noting_since setting (record m { is_coming = coming }) → k.is_over ≡ false
      → NextSo k o m → WantsAfterNext setting o k next
  noted k m next coming (on.head h) is over x = (
    λ runs. ap (λ (n : Kept). is_answering n) is ∙ x.0,
    λ runs. ap (λ (n : Kept). waits_for_answer n) is ∙ x.1,
    ap (λ (n : Kept). head_mark n.exchange) is ∙ x.2,
    λ older runs. ap (λ (n : Kept). awaits_continue n) is ∙ x.3 older,
  )
  noted k m next coming (on.closed end) is over x =
      let stops : is_running setting next ≡ true → ⊥ = over_stops next (ap (λ (n : Kept). n.is_over) is ∙ x.0) in
      record {
        answered = λ old runs. absurd (stops runs);
        complete = λ old runs. absurd (stops runs);
        waited = λ old runs. absurd (stops runs);
        answering = λ old runs. absurd (stops runs);
        asked = λ is_head old. ap (λ (n : Kept). head_mark n.exchange) is ∙ x.1 ∙ old;
        told = λ old runs. absurd (stops runs);
      }
  noted k m next coming on.pending is over x = wants_alike k next (λ runs. running_none k over x.1) (as_next k m next coming is x.0)
  noted k m next coming (on.fault f) is over x = wants_alike k next (λ runs. running_none k over x.1) (as_next k m next coming is x.0)
  noted k m next coming o is over x = wants_alike k next (λ runs. running_none k over x.1) (as_next k m next coming is x.0)

  pub next_wants : (k next : Kept) (trace : List Step) (o : on.Outcome) → allowed_by setting k on.next ≡ true
      → StandsFor setting k trace → StandsFor setting next (record { event = on.next; outcome = o } ∷ trace) → WantsAfterNext setting o k next
  next_wants k next trace o allowed x y =
      let step = machine_step setting k next trace (record { event = on.next; outcome = o }) x y in
      subst (λ (o : on.Outcome). WantsAfterNext setting o k next) (sym step.answers)
      (noted k step.change.kept next step.coming step.change.outcome step.keeps (not_over_of k on.next allowed)
      (next_case k (closing_by setting k) step.change refl step.changes))

  -- ---- the newest request

  -- it is the last head that was handed out
  pub asked_by : (is_head : Bool) (k : Kept) (trace : List Step) → StandsFor setting k trace → IsAskedBy is_head k
      → (h : Head) × (request trace ≡ Some h) × ((asked_of h).is_head ≡ is_head)
  asked_by is_head k trace x asks =
      subst (λ (t : List Step). (h : Head) × (request t ≡ Some h) × ((asked_of h).is_head ≡ is_head)) x.of_trace.same
      (by_head (current x.past) (request (steps x.past)) (sym (ap (λ (k : Kept). head_mark k.exchange) x.parts) ∙ asks))
    where
      by_head : (m : Option Message) (o : Option Head) → head_mark (exchange_of setting x.past m o) ≡ Some is_head
          → (h : Head) × (o ≡ Some h) × ((asked_of h).is_head ≡ is_head)
      by_head (Some m) (Some h) is = (h, refl, same_Some _ _ is)
      by_head (Some m) None is = absurd (none-some is_head is)
      by_head None (Some h) is = absurd (none-some is_head is)
      by_head None None is = absurd (none-some is_head is)

  -- ---- where nothing was done

  -- an answer that isn't allowed isn't wanted while the connection goes on
  pub no_answer : (k : Kept) (head : AnswerHead) (size : BodySize) → allowed_by setting k (on.answer head size) ≡ false → IsAnswered setting k
  unfolding allowed_by
  no_answer k head size is runs = by_parts k.is_over (closing_by setting k) (waits_for_answer k) is runs
    where
      by_parts : (over : Bool) (closing : Option End) (waits : Bool) → (not over && (if is_some closing then false else waits)) ≡ false
          → (not over && is_none closing) ≡ true → waits ≡ false
      by_parts false None waits is runs = is
      by_parts false (Some end) waits is runs = absurd (false≢true runs)
      by_parts true closing waits is runs = absurd (false≢true runs)

  pub no_end : (k : Kept) → allowed_by setting k on.body_end ≡ false → IsComplete setting k
  unfolding allowed_by
  no_end k is runs = by_parts k.is_over (closing_by setting k) (is_answering k) is runs
    where
      by_parts : (over : Bool) (closing : Option End) (waits : Bool) → (not over && (if is_some closing then false else waits)) ≡ false
          → (not over && is_none closing) ≡ true → waits ≡ false
      by_parts false None waits is runs = is
      by_parts false (Some end) waits is runs = absurd (false≢true runs)
      by_parts true closing waits is runs = absurd (false≢true runs)

  -- a client that isn't owed a word to go on doesn't wait for one
  not_owed : (k : Kept) (ex : Option Exchange) → of_exchange (λ x. x.expects && not x.had_continue) (record k { exchange = ex }) ≡ false
      → awaits_continue (record k { exchange = ex }) ≡ false
  not_owed k None is = refl
  not_owed k (Some x) is = by_minor (not (x.asked.minor == 0))
    where
      by_minor : (t : Bool) → (t && (x.expects && not x.had_continue)) ≡ false
      by_minor true = is
      by_minor false = refl

  -- one that is owed one, and doesn't wait for it, is of HTTP/1.0
  pub owed_old : (k : Kept) (ex : Option Exchange) → awaits_continue (record k { exchange = ex }) ≡ false
      → of_exchange (λ x. x.expects && not x.had_continue) (record k { exchange = ex }) ≡ true → is_of_old (record k { exchange = ex }) ≡ true
  owed_old k None calm owed = absurd (false≢true owed)
  owed_old k (Some x) calm owed = by_minor (x.asked.minor == 0) calm
    where
      by_minor : (t : Bool) → (not t && (x.expects && not x.had_continue)) ≡ false → t ≡ true
      by_minor true calm = refl
      by_minor false calm = absurd (false≢true (sym calm ∙ owed))

  -- where a request waits for its answer, and its client can't be told to go on, it doesn't wait for that
  pub no_continue : (k : Kept) → allowed_by setting k on.send_continue ≡ false → IsWaitedFor setting k → IsTold setting k
  unfolding allowed_by
  no_continue k is waited runs =
      not_owed k k.exchange
      (by_parts k.is_over (closing_by setting k) (waits_for_answer k) (of_exchange (λ x. x.expects && not x.had_continue) k) is (waited runs) runs)
    where
      by_parts : (over : Bool) (closing : Option End) (waits on : Bool) → (not over && (if is_some closing then false else (waits && on))) ≡ false
          → waits ≡ true → (not over && is_none closing) ≡ true → on ≡ false
      by_parts false None true on is waits runs = is
      by_parts false None false on is waits runs = absurd (false≢true waits)
      by_parts false (Some end) waits on is w runs = absurd (false≢true runs)
      by_parts true closing waits on is w runs = absurd (false≢true runs)
