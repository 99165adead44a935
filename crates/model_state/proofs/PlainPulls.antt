-- Pulls of a body of a stated length.
use Rattle.std.proofs.Common.{◌≡◌, ℕ, ◌+◌, ◌-◌, ◌<◌, ◌≤◌, min, Bool, true, false, List, [], ◌∷◌, length, take, drop, Some, ◌⊎◌, refl, sym, ap, ◌∙◌, subst, inl, inr, arith, length-drop}
use Rattle.std.specs.Prelude.{nat_le, if◌then◌else◌}
use Rattle.std.proofs.lemmas.Bool.{cond-true, cond-false, cases_lt, le-leb, lt-leb}
use Rattle.std.proofs.lemmas.Option.{none-some, same_Some}
use Rattle.std.proofs.lemmas.List.{length-take, take_all, drop-drop, drop_all}
use Rattle.model_h1.specs.Request.{fixed_body, is_chunked_kind, Head}
use Rattle.model_h1.specs.Setting.{Setting}
use Rattle.model_h1.specs.Parse.{Message, content, Stop, ended_at, still_open, cut, open_or_cut, fixed_content, next_start, IsBodyOf}
use Rattle.model_h1.specs.Event.{Outcome}
use Rattle.model_h1.specs.Event as on
use Rattle.model_h1.specs.Sums.{Step, taken, completes, is_complete, has_ended}
use Rattle.model_h1.specs.Past.{ParsedStep, steps, input_of, step_bytes, given_bytes, has_chunks, passed}
use Rattle.model_h1.proofs.PastLemmas.{Legal}
use Rattle.model_h1.proofs.BodyGrowth.{fixed_whole, fixed_part}
use Rattle.model_h1.proofs.StepLemmas.{given_bytes-more}
use Rattle.model_state.specs.Kept.{Rest, no_rest, fixed_rest}
use Rattle.model_state.specs.Pull.{Pulled, gives, finishes, lacking, pull_fixed, IsPull}
use Rattle.model_state.specs.KeptOf.{rest_of}
use Rattle.model_state.proofs.Changes.{Changes}
use Rattle.model_state.proofs.Current.{Current, current_with}
use Rattle.model_state.proofs.CalmSteps.{calm_pull, taken-calm, since-other}
use Rattle.model_state.proofs.Pulling.{pull_of, pull_headless, pull_current, pulling_with}
use Rattle.model_state.proofs.OneRun.{OneRun, one_passed, one_gives, one_stops}

-- ---- a body of one run, of one more pull

-- where a run may end: at the body's end, or at that of the bytes
abbrev pub EndsAt : List ParsedStep → Message → ℕ → Type 0
EndsAt past m end = (next_start m.body ≡ Some end) ⊎ (end ≡ length (taken (steps past)))

-- a pull passes what it gives
pub passed_more : (setting : Setting) (before : List ParsedStep) (o : Outcome) (parse : List Message) (m : Message) (h : Head) (end : ℕ) (stop : Stop)
    → Legal setting (pull_of o parse ∷ before) → Current setting before m h → OneRun m end stop → is_complete (steps before) ≡ false
    → EndsAt before m end
    → passed (pull_of o parse ∷ before) ≡ passed before + step_bytes o
passed_more setting before o parse m h end stop l c r open_yet upto =
    let t = steps before in
    let x = pull_of o parse in
    let none = pull_headless setting before o parse l in
    let c' = current_with setting (x ∷ before) m l (pull_current setting before o parse m l c.current_is) in
    let open' = since-other completes x.step t none refl ∙ open_yet in
    let upto' : EndsAt (x ∷ before) m end = elim upto [
      | inl e ↦ inl e
      | inr e ↦ inr (e ∙ ap length (sym (taken-calm x.step t calm_pull)))
    ] in
    let was = one_passed setting before m h end stop l.3 c r open_yet upto in
    let is = one_passed setting (x ∷ before) m c'.0 end stop l c'.1 r open' upto' in
    let more = given_bytes-more x.step t none in
    is.0 ∙ omega (arith, was.0, more)

-- how many bytes aren't passed
pub left_len : (past : List ParsedStep) → length (drop (passed past) (taken (steps past))) ≡ length (taken (steps past)) - passed past
left_len past = length-drop (passed past) (taken (steps past))

-- ---- a stated length

-- the run of such a body
fixed_run : (setting : Setting) (past : List ParsedStep) (m : Message) (h : Head) (n : ℕ) → Current setting past m h → h.body ≡ fixed_body n
    → m.body_start + n ≤ length (taken (steps past)) → OneRun m (m.body_start + n) (ended_at (m.body_start + n) [])
fixed_run setting past m h n c kind fits =
    let i = input_of setting (steps past) in
    let is : m.body ≡ fixed_content i m.body_start n = subst (λ k. IsBodyOf i k m.body_start m.body) kind c.body in
    record {
      plain = ap has_chunks c.reading ∙ ap is_chunked_kind kind;
      body = is ∙ fixed_whole i.bytes i.upgraded i.ended i.hold_size m.body_start n fits;
      start = omega arith;
      ends = λ place e. sym (same_Some (m.body_start + n) place e);
    }

-- no stop of an unfinished body is an end
open_ends : (ended : Bool) (end place : ℕ) → next_start (content [] (open_or_cut ended)) ≡ Some place → place ≡ end
open_ends true end place e = absurd (none-some place e)
open_ends false end place e = absurd (none-some place e)

-- and of one of which bytes are missing
cut_run : (setting : Setting) (past : List ParsedStep) (m : Message) (h : Head) (n : ℕ) → Current setting past m h → h.body ≡ fixed_body n
    → length (taken (steps past)) < m.body_start + n → OneRun m (length (taken (steps past))) (open_or_cut (has_ended (steps past)))
cut_run setting past m h n c kind short =
    let i = input_of setting (steps past) in
    let is : m.body ≡ fixed_content i m.body_start n = subst (λ k. IsBodyOf i k m.body_start m.body) kind c.body in
    record {
      plain = ap has_chunks c.reading ∙ ap is_chunked_kind kind;
      body = is ∙ fixed_part i.bytes i.upgraded i.ended i.hold_size m.body_start n short;
      start = c.start;
      ends = open_ends i.ended (length i.bytes);
    }

-- some bytes are there
fixed_some : (is_ended : Bool) (n : ℕ) (bytes : List ℕ) → 0 < length bytes
    → pull_fixed is_ended n bytes
    ≡ gives (on.bytes (take n bytes)) (if nat_le n (length bytes) then no_rest else fixed_rest (n - length bytes)) (drop n bytes)
fixed_some is_ended n [] some = absurd (omega arith)
fixed_some is_ended n (b ∷ bytes) some = refl

-- none is
fixed_none : (is_ended : Bool) (n : ℕ) (bytes : List ℕ) → length bytes ≡ 0 → pull_fixed is_ended n bytes ≡ lacking is_ended (fixed_rest n) bytes
fixed_none is_ended n [] none = refl
fixed_none is_ended n (b ∷ bytes) none = absurd (omega arith)

-- what is left of it, by the place
fixed_more : (past : List ParsedStep) (m : Message) (h : Head) (n : ℕ) → h.body ≡ fixed_body n → passed past < m.body_start + n
    → rest_of past m h.body ≡ fixed_rest (m.body_start + n - passed past)
fixed_more past m h n kind more = ap (rest_of past m) kind ∙ cond-false _ _ _ (lt-leb (m.body_start + n) (passed past) more)

-- and behind its end
fixed_all : (past : List ParsedStep) (m : Message) (h : Head) (n : ℕ) → h.body ≡ fixed_body n → m.body_start + n ≤ passed past
    → rest_of past m h.body ≡ no_rest
fixed_all past m h n kind all = ap (rest_of past m) kind ∙ cond-true _ _ _ (le-leb (m.body_start + n) (passed past) all)

-- behind such a pull
fixed_given : (past after : List ParsedStep) (m : Message) (h : Head) (n : ℕ) (u : List ℕ) → h.body ≡ fixed_body n → passed past < m.body_start + n
    → passed past ≤ length (taken (steps past)) → u ≡ drop (passed past) (taken (steps past))
    → passed after ≡ passed past + min (m.body_start + n - passed past) (length u)
    → ((if nat_le (m.body_start + n - passed past) (length u) then no_rest else fixed_rest (m.body_start + n - passed past - length u)) ≡ rest_of after m h.body)
    × (drop (m.body_start + n - passed past) u ≡ drop (passed after) (taken (steps past)))
fixed_given past after m h n u kind more within same place =
    let r = m.body_start + n - passed past in
    let bytes = taken (steps past) in
    let len = ap length same ∙ left_len past in
    elim (cases_lt (length u) r) [
      | inr fits ↦ (
        cond-true _ _ _ (le-leb r (length u) fits) ∙ sym (fixed_all after m h n kind (omega arith)),
        ap (drop r) same ∙ drop-drop r (passed past) bytes
            ∙ ap (λ p. drop p bytes) (let here : passed past + r ≡ passed after = omega arith in here),
      )
      | inl short ↦
          let left : r - length u ≡ m.body_start + n - passed after = omega arith in (
            cond-false _ _ _ (lt-leb r (length u) short) ∙ ap fixed_rest left ∙ sym (fixed_more after m h n kind (omega arith)),
            drop_all r u (omega arith) ∙ sym (drop_all (passed after) bytes (omega arith)),
          )
    ]

-- bytes are given
fixed_gives : (setting : Setting) (before : List ParsedStep) (o : Outcome) (parse : List Message) (m : Message) (h : Head) (n end : ℕ) (stop : Stop)
    → Legal setting (pull_of o parse ∷ before) → Current setting before m h → h.body ≡ fixed_body n → is_complete (steps before) ≡ false
    → OneRun m end stop → EndsAt before m end → passed before ≡ m.body_start + given_bytes (steps before) → passed before < end
    → end ≤ length (taken (steps before)) → end ≤ m.body_start + n
    → take (end - passed before) (drop (passed before) (taken (steps before)))
    ≡ take (m.body_start + n - passed before) (drop (passed before) (taken (steps before)))
    → Changes setting before (pull_of o parse)
fixed_gives setting before o parse m h n end stop l c kind open_yet r upto place more within fits same =
    let t = steps before in
    let u = drop (passed before) (taken t) in
    let left = m.body_start + n - passed before in
    let len = left_len before in
    let p = gives (on.bytes (take left u)) (if nat_le left (length u) then no_rest else fixed_rest (left - length u)) (drop left u) in
    let is : IsPull (has_ended t) (fixed_rest left) u p = sym (fixed_some (has_ended t) left u (omega arith)) in
    pulling_with setting before o parse m h p l c
    (one_gives before m end stop r place more ∙ ap on.bytes same)
    (subst (λ rest. IsPull (has_ended t) rest u p) (sym (fixed_more before m h n kind (omega arith))) is)
    (λ l'.
    let after = passed_more setting before p.outcome parse m h end stop l' c r open_yet upto ∙ ap (λ k. passed before + k) (length-take left u) in
    let both = fixed_given before (pull_of p.outcome parse ∷ before) m h n u kind (omega arith) c.passed_within refl after in
    record { rest = both.0; unread = both.1; done = refl; failed = refl; written = refl; over = refl })

-- nothing is left of it
fixed_ends : (setting : Setting) (before : List ParsedStep) (o : Outcome) (parse : List Message) (m : Message) (h : Head) (n : ℕ)
    → Legal setting (pull_of o parse ∷ before) → Current setting before m h → h.body ≡ fixed_body n → is_complete (steps before) ≡ false
    → (r : OneRun m (m.body_start + n) (ended_at (m.body_start + n) [])) → EndsAt before m (m.body_start + n)
    → passed before ≡ m.body_start + given_bytes (steps before) → m.body_start + n ≤ passed before → Changes setting before (pull_of o parse)
fixed_ends setting before o parse m h n l c kind open_yet r upto place all =
    let t = steps before in
    let u = drop (passed before) (taken t) in
    let end = m.body_start + n in
    let p = finishes on.body_ended no_rest u in
    let is : IsPull (has_ended t) no_rest u p = refl in
    pulling_with setting before o parse m h p l c
    (one_stops before m end (ended_at end []) r place all)
    (subst (λ rest. IsPull (has_ended t) rest u p) (sym (fixed_all before m h n kind all)) is)
    (λ l'.
    let same : passed before ≡ passed (pull_of p.outcome parse ∷ before) = omega (arith, passed_more setting before p.outcome parse m h end (ended_at end []) l' c r open_yet upto) in
    record {
      rest = sym (fixed_all (pull_of p.outcome parse ∷ before) m h n kind (omega arith));
      unread = ap (λ k. drop k (taken t)) same;
      done = refl;
      failed = refl;
      written = refl;
      over = refl;
    })

-- no byte is there: the input may go on, or has ended
fixed_lacks : (setting : Setting) (before : List ParsedStep) (o : Outcome) (parse : List Message) (m : Message) (h : Head) (n : ℕ) (ended : Bool)
    → Legal setting (pull_of o parse ∷ before) → Current setting before m h → h.body ≡ fixed_body n → is_complete (steps before) ≡ false
    → has_ended (steps before) ≡ ended
    → OneRun m (length (taken (steps before))) (open_or_cut ended) → passed before ≡ m.body_start + given_bytes (steps before)
    → passed before ≡ length (taken (steps before)) → length (taken (steps before)) < m.body_start + n → Changes setting before (pull_of o parse)
fixed_lacks setting before o parse m h n ended l c kind open_yet e r place all short = go ended e r
  where
    t : List Step
    t = steps before

    u : List ℕ
    u = drop (passed before) (taken t)

    left : Rest
    left = fixed_rest (m.body_start + n - passed before)

    -- nothing changes
    stays : (p : Pulled) (stop : Stop) → p.rest ≡ left → p.unread ≡ u → step_bytes p.outcome ≡ 0 → OneRun m (length (taken t)) stop
        → Legal setting (pull_of p.outcome parse ∷ before)
        → (p.rest ≡ rest_of (pull_of p.outcome parse ∷ before) m h.body) × (p.unread ≡ drop (passed (pull_of p.outcome parse ∷ before)) (taken t))
    stays p stop a b none r l' =
        let same : passed before ≡ passed (pull_of p.outcome parse ∷ before) =
        omega (arith, passed_more setting before p.outcome parse m h (length (taken t)) stop l' c r open_yet (inr refl), none) in (
          a ∙ ap (λ k. fixed_rest (m.body_start + n - k)) same ∙ sym (fixed_more (pull_of p.outcome parse ∷ before) m h n kind (omega arith)),
          b ∙ ap (λ k. drop k (taken t)) same,
        )

    -- what is pulled
    lacks : (ended : Bool) → has_ended t ≡ ended → IsPull (has_ended t) (rest_of before m h.body) u (lacking ended left u)
    lacks ended e =
        let is : IsPull ended left u (lacking ended left u) = sym (fixed_none ended (m.body_start + n - passed before) u (omega (arith, left_len before))) in
        subst (λ rest. IsPull (has_ended t) rest u (lacking ended left u)) (sym (fixed_more before m h n kind (omega arith)))
        (subst (λ b. IsPull b left u (lacking ended left u)) (sym e) is)

    go : (ended : Bool) → has_ended t ≡ ended → OneRun m (length (taken t)) (open_or_cut ended) → Changes setting before (pull_of o parse)
    go true e r =
        pulling_with setting before o parse m h (lacking true left u) l c (one_stops before m (length (taken t)) cut r place (omega arith)) (lacks true e)
        (λ l'. let both = stays (lacking true left u) cut refl refl refl r l' in
        record { rest = both.0; unread = both.1; done = refl; failed = refl; written = refl; over = refl })
    go false e r =
        pulling_with setting before o parse m h (lacking false left u) l c (one_stops before m (length (taken t)) still_open r place (omega arith)) (lacks false e)
        (λ l'. let both = stays (lacking false left u) still_open refl refl refl r l' in
        record { rest = both.0; unread = both.1; done = refl; failed = refl; written = refl; over = refl })

-- a body of a stated length
pub fixed_pull_changes : (setting : Setting) (before : List ParsedStep) (o : Outcome) (parse : List Message) (m : Message) (h : Head) (n : ℕ)
    → Legal setting (pull_of o parse ∷ before) → Current setting before m h → h.body ≡ fixed_body n → is_complete (steps before) ≡ false
    → Changes setting before (pull_of o parse)
fixed_pull_changes setting before o parse m h n l c kind open_yet =
    let t = steps before in
    let u = drop (passed before) (taken t) in
    let len = left_len before in
    elim (cases_lt (length (taken t)) (m.body_start + n)) [
      | inr whole ↦
          let end = m.body_start + n in
          let r = fixed_run setting before m h n c kind whole in
          let upto : EndsAt before m end = inl (ap next_start r.body) in
          let place = one_passed setting before m h end (ended_at end []) l.3 c r open_yet upto in
          elim (cases_lt (passed before) end) [
            | inl more ↦ fixed_gives setting before o parse m h n end (ended_at end []) l c kind open_yet r upto place.0 more whole (omega arith) refl
            | inr all ↦ fixed_ends setting before o parse m h n l c kind open_yet r upto place.0 all
          ]
      | inl short ↦
          let end = length (taken t) in
          let stop = open_or_cut (has_ended t) in
          let r = cut_run setting before m h n c kind short in
          let place = one_passed setting before m h end stop l.3 c r open_yet (inr refl) in
          elim (cases_lt (passed before) end) [
            | inl more ↦ fixed_gives setting before o parse m h n end stop l c kind open_yet r (inr refl) place.0 more (omega arith) (omega arith)
                (take_all (end - passed before) u (omega arith) ∙ sym (take_all (m.body_start + n - passed before) u (omega arith)))
            | inr all ↦ fixed_lacks setting before o parse m h n (has_ended t) l c kind open_yet refl r place.0 (omega (arith, place.1)) short
          ]
    ]
