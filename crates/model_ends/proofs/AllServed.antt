-- A server that took all of what a client sends, and waits for more, has handed out every request.
use Rattle.std.proofs.Common.{◌≡◌, ℕ, suc, ◌+◌, ◌<◌, ◌≤◌, Bool, List, [], ◌∷◌, ◌++◌, length, drop, reverse, Option, Some, None, refl, ap, ◌∙◌, subst, arith, length-append, length-drop, le-leb}
use Rattle.std.proofs.lemmas.List.{length-map, length-reverse}
use Rattle.model_h1.specs.Request.{Head, Reading, head_is, faulty}
use Rattle.model_h1.specs.Setting.{Setting}
use Rattle.model_h1.specs.End.{End}
use Rattle.model_h1.specs.Event.{Outcome}
use Rattle.model_h1.specs.Event as on
use Rattle.model_h1.specs.Parse.{Input, Message, IsParse}
use Rattle.model_h1.specs.Sums.{Step, taken}
use Rattle.model_h1.specs.Handed.{Handed, handed_out}
use Rattle.model_h1.specs.Past.{ParsedStep, steps, input_of, IsPast, parse_of, head_count, upcoming}
use Rattle.model_h1.specs.Closing.{closing}
use Rattle.model_h1.specs.OutcomeTable.{head_outcome, upcoming_outcome, next_outcome, outcome_of}
use Rattle.model_h1.specs.Trace.{IsOutcome}
use Rattle.model_h1.specs.Laws.Exchanges.{heads}
use Rattle.model_h1.proofs.HandedPrefix.{past_end}
use Rattle.model_h1.proofs.StepLemmas.{head_count-more, head_count-head}
use Rattle.model_ends.specs.SentRequest.{SentRequest, asked_text, AreBegunServed}
use Rattle.model_ends.proofs.SentAnswers.{no_head}
use Rattle.model_ends.specs.AskedTrace.{AskedRequest, AreServedOut}
use Rattle.model_ends.proofs.Completions.{Fits}
use Rattle.model_ends.proofs.Methods.{method_read, AreSound}
use Rattle.model_ends.proofs.Served.{next_text}

-- ---- what is pending

never_head : (r : Reading) → on.pending ≡ head_outcome r → ⊥
never_head (head_is h) e = cc
never_head (faulty f) e = cc

never_closed : (end : End) → ◌≡◌ {A = Outcome} on.pending (on.closed end) → ⊥
never_closed end e = cc

-- where nothing has come yet no further message is parsed
none_upcoming : (setting : Setting) (past : List ParsedStep) → on.pending ≡ outcome_of setting past on.next → upcoming past ≡ None
unfolding outcome_of
none_upcoming setting past e = by_closing (closing setting past) e
  where
    by_upcoming : (m : Option Message) → upcoming past ≡ m → on.pending ≡ upcoming_outcome setting past m → upcoming past ≡ None
    by_upcoming None is e = is
    by_upcoming (Some m) is e = absurd (never_head m.reading e)

    by_closing : (o : Option End) → on.pending ≡ next_outcome setting past o → upcoming past ≡ None
    by_closing (Some end) e = absurd (never_closed end e)
    by_closing None e = by_upcoming (upcoming past) refl e

-- what is parsed of all that was taken
parse_is : (setting : Setting) (past : List ParsedStep) → IsPast setting past → IsParse (input_of setting (steps past)) (parse_of past)
unfolding taken
parse_is setting [] right = no_head []
parse_is setting (m ∷ before) right = right.0

-- so no more is parsed than was handed out
pub parsed_out : (setting : Setting) (trace : List Step) → IsOutcome setting trace on.next on.pending
    → (ms : List Message) × IsParse (input_of setting trace) ms × (length ms ≤ head_count trace)
parsed_out setting trace (past, of, e) = (
  parse_of past,
  subst (λ (t : List Step). IsParse (input_of setting t) (parse_of past)) of.same (parse_is setting past of.right),
  subst (λ (t : List Step). length (parse_of past) ≤ head_count t) of.same
      (past_end (parse_of past) (head_count (steps past)) (none_upcoming setting past e)),
)

-- ---- how many there are

count_heads : (trace : List Step) → head_count trace ≡ length (heads trace)
count_heads [] = refl
count_heads (s ∷ before) = by_outcome s.outcome (count_heads before)
  where
    by_outcome : (o : Outcome) → head_count before ≡ length (heads before)
        → head_count (record { event = s.event; outcome = o } ∷ before) ≡ length (heads (record { event = s.event; outcome = o } ∷ before))
    by_outcome (on.head h) old = head_count-head (record { event = s.event; outcome = on.head h }) before h refl ∙ ap suc old
    by_outcome (on.fault f) old = head_count-more (record { event = s.event; outcome = on.fault f }) before refl ∙ old
    by_outcome (on.bytes more) old = head_count-more (record { event = s.event; outcome = on.bytes more }) before refl ∙ old
    by_outcome (on.trailers lines) old = head_count-more (record { event = s.event; outcome = on.trailers lines }) before refl ∙ old
    by_outcome on.body_ended old = head_count-more (record { event = s.event; outcome = on.body_ended }) before refl ∙ old
    by_outcome (on.broken_by fault) old = head_count-more (record { event = s.event; outcome = on.broken_by fault }) before refl ∙ old
    by_outcome (on.frame frame) old = head_count-more (record { event = s.event; outcome = on.frame frame }) before refl ∙ old
    by_outcome (on.took n) old = head_count-more (record { event = s.event; outcome = on.took n }) before refl ∙ old
    by_outcome on.pending old = head_count-more (record { event = s.event; outcome = on.pending }) before refl ∙ old
    by_outcome (on.closed end) old = head_count-more (record { event = s.event; outcome = on.closed end }) before refl ∙ old
    by_outcome (on.protocol error) old = head_count-more (record { event = s.event; outcome = on.protocol error }) before refl ∙ old
    by_outcome (on.refused error) old = head_count-more (record { event = s.event; outcome = on.refused error }) before refl ∙ old
    by_outcome (on.gave bytes) old = head_count-more (record { event = s.event; outcome = on.gave bytes }) before refl ∙ old
    by_outcome (on.expired end) old = head_count-more (record { event = s.event; outcome = on.expired end }) before refl ∙ old
    by_outcome on.abandoned old = head_count-more (record { event = s.event; outcome = on.abandoned }) before refl ∙ old
    by_outcome on.done old = head_count-more (record { event = s.event; outcome = on.done }) before refl ∙ old

served_length : (e : Bool) (hs : List Handed) (rs : List AskedRequest) → AreServedOut e hs rs → length hs ≤ length rs
served_length e [] rs x = omega arith
served_length e (h ∷ hs) [] x = absurd x
served_length e (h ∷ hs) (r ∷ rs) x = omega (arith, served_length e hs rs x.1)

-- ---- what is there

fits_short : (more : List ℕ) (ss : List SentRequest) → Fits more ss → length more ≤ length (asked_text ss)
fits_short more [] fits = omega (arith, ap length fits)
fits_short more (s ∷ []) fits = omega (arith, fits, length-append s.head (s.body ++ []), length-append s.body [])
fits_short more (s ∷ t ∷ ss) fits =
    omega (arith, fits_short more (t ∷ ss) fits, length-append s.head (s.body ++ asked_text (t ∷ ss)), length-append s.body (asked_text (t ∷ ss)))

module _ (i : Input) (more : List ℕ) (some : 0 < i.hold_size) where
  -- each request of which the head is there is parsed
  pub all_begun : (place : ℕ) (ms : List Message) (ss : List SentRequest) → place ≤ length i.bytes → drop place i.bytes ++ more ≡ asked_text ss → Fits more ss
      → AreBegunServed i place ms ss → length ss ≤ length ms
  all_begun place ms [] within text fits x = omega arith
  all_begun place [] (s ∷ []) within text fits x =
      absurd (omega (
        arith,
        within,
        fits,
        x,
        ap length text,
        length-append (drop place i.bytes) more,
        length-drop place i.bytes,
        length-append s.head (s.body ++ []),
        length-append s.body [],
      ))
  all_begun place [] (s ∷ t ∷ ss) within text fits x =
      absurd (omega (
        arith,
        within,
        fits_short more (t ∷ ss) fits,
        x,
        ap length text,
        length-append (drop place i.bytes) more,
        length-drop place i.bytes,
        length-append s.head (s.body ++ asked_text (t ∷ ss)),
        length-append s.body (asked_text (t ∷ ss)),
      ))
  all_begun place (m ∷ ms) (s ∷ []) within text fits x = omega arith
  all_begun place (m ∷ ms) (s ∷ t ∷ ss) within text fits x =
      let end = place + length s.head + length s.body in
      let there : end ≤ length i.bytes =
      omega (
        arith,
        within,
        fits_short more (t ∷ ss) fits,
        ap length text,
        length-append (drop place i.bytes) more,
        length-drop place i.bytes,
        length-append s.head (s.body ++ asked_text (t ∷ ss)),
        length-append s.body (asked_text (t ∷ ss)),
      ) in
      let rest = all_begun end ms (t ∷ ss) there (next_text i more some place s (t ∷ ss) text (le-leb end (length i.bytes) there)) fits x.1 in
      omega (arith, rest)

-- ---- both

-- every request is handed out
pub all_served : (e : Bool) (trace : List Step) (hs : List Handed) (rs : List AskedRequest) (n : ℕ) → AreSound trace → hs ≡ (handed_out trace).messages
    → AreServedOut e (reverse hs) (reverse rs) → n ≤ head_count trace → length rs ≤ n → length hs ≡ length rs
all_served e trace hs rs n sound are served fits all =
    let named = ap length sound.named in
    omega (
      arith,
      fits,
      all,
      count_heads trace,
      served_length e (reverse hs) (reverse rs) served,
      length-reverse hs,
      length-reverse rs,
      named,
      length-map (handed_out trace).messages (λ (h : Handed). method_read h.reading),
      length-map (heads trace) (λ (h : Head). h.method),
      ap length are,
    )
