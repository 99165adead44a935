-- Pulls of a raw body, which goes on up to the end of the input.
use Rattle.std.proofs.Common.{◌≡◌, ℕ, ◌+◌, ◌-◌, ◌<◌, ◌≤◌, Bool, true, false, List, [], ◌∷◌, length, drop, Some, None, refl, sym, ap, ◌∙◌, subst, inl, inr, arith}
use Rattle.std.specs.Prelude.{nat_le, if◌then◌else◌}
use Rattle.std.proofs.lemmas.Bool.{cond-true, cond-false, cases_lt, le-leb, lt-leb}
use Rattle.std.proofs.lemmas.Option.{none-some, same_Some}
use Rattle.std.proofs.lemmas.List.{take_all, drop_all}
use Rattle.model_h1.specs.Request.{raw_body, is_chunked_kind, Head}
use Rattle.model_h1.specs.Setting.{Setting}
use Rattle.model_h1.specs.Parse.{Message, content, Stop, ended_at, still_open, raw_content, next_start, run_between, IsBodyOf}
use Rattle.model_h1.specs.Event.{Outcome}
use Rattle.model_h1.specs.Event as on
use Rattle.model_h1.specs.Sums.{taken, is_complete, has_ended, accepted}
use Rattle.model_h1.specs.Past.{ParsedStep, steps, input_of, given_bytes, has_chunks, passed}
use Rattle.model_h1.proofs.PastLemmas.{Legal}
use Rattle.model_h1.proofs.BodyLemmas.{input}
use Rattle.model_h1.proofs.StepLemmas.{accepted-cons}
use Rattle.model_state.specs.Kept.{Rest, no_rest, raw_rest}
use Rattle.model_state.specs.Pull.{gives, finishes, pull_raw, IsPull}
use Rattle.model_state.specs.KeptOf.{is_passed, raw_left, rest_of}
use Rattle.model_state.proofs.Changes.{Changes}
use Rattle.model_state.proofs.Current.{Current}
use Rattle.model_state.proofs.Pulling.{pull_of, pulling_with}
use Rattle.model_state.proofs.OneRun.{OneRun, one_passed, one_gives, one_stops}
use Rattle.model_state.proofs.PlainPulls.{passed_more, left_len}

-- how a raw body stops
abbrev pub raw_stop : Bool → ℕ → Stop
raw_stop ended len = if ended then ended_at len [] else still_open

-- it ends at the end of the bytes alone
raw_ends : (ended : Bool) (len place : ℕ) → next_start (content [] (raw_stop ended len)) ≡ Some place → place ≡ len
raw_ends true len place e = sym (same_Some len place e)
raw_ends false len place e = absurd (none-some place e)

-- the run of such a body
raw_run : (setting : Setting) (past : List ParsedStep) (m : Message) (h : Head) → Current setting past m h → h.body ≡ raw_body
    → accepted (steps past) ≡ None
    → OneRun m (length (taken (steps past))) (raw_stop (has_ended (steps past)) (length (taken (steps past))))
raw_run setting past m h c kind plain =
    let i = input_of setting (steps past) in
    let at = subst (λ k. IsBodyOf i k m.body_start m.body) kind c.body in
    let is : m.body ≡ raw_content (input i.bytes None i.ended i.hold_size) m.body_start =
    subst (λ u. IsBodyOf (input i.bytes u i.ended i.hold_size) raw_body m.body_start m.body) plain at in
    record {
      plain = ap has_chunks c.reading ∙ ap is_chunked_kind kind;
      body = is;
      start = c.start;
      ends = raw_ends i.ended (length i.bytes);
    }

-- what is left of it, by the place and by whether the input has ended
abbrev pub raw_rest_at : Bool → ℕ → ℕ → Rest
raw_rest_at ended len place = if ended then (if nat_le len place then no_rest else raw_rest) else raw_rest

-- that is what is kept
raw_rest_of : (past : List ParsedStep) (m : Message) (len : ℕ) (ended : Bool) → accepted (steps past) ≡ None
    → m.body ≡ content (run_between m.body_start len) (raw_stop ended len)
    → rest_of past m raw_body ≡ raw_rest_at ended len (passed past)
raw_rest_of past m len ended plain body =
    ap (raw_left past m) plain
    ∙ (λ i. if is_passed (passed past) (record m { body = body i }) then no_rest else raw_rest)
    ∙ by_end ended
  where
    by_end : (ended : Bool)
        → (if is_passed (passed past) (record m { body = content (run_between m.body_start len) (raw_stop ended len) }) then no_rest else raw_rest)
        ≡ raw_rest_at ended len (passed past)
    by_end true = refl
    by_end false = refl

-- some bytes are there
raw_some : (ended : Bool) (bytes : List ℕ) → 0 < length bytes → pull_raw ended bytes ≡ gives (on.bytes bytes) (if ended then no_rest else raw_rest) []
raw_some ended [] some = absurd (omega arith)
raw_some ended (b ∷ bytes) some = refl

-- a list without elements
empty : (bytes : List ℕ) → length bytes ≡ 0 → bytes ≡ []
empty [] e = refl
empty (b ∷ bytes) e = absurd (omega arith)

-- in front of the bytes' end it is a raw body, and there it is none once the input has ended
rest_before : (ended : Bool) (len place : ℕ) → place < len → raw_rest_at ended len place ≡ raw_rest
rest_before true len place less = cond-false _ _ _ (lt-leb len place less)
rest_before false len place less = refl

-- at their end
rest_behind : (ended : Bool) (len place : ℕ) → len ≤ place → raw_rest_at ended len place ≡ (if ended then no_rest else raw_rest)
rest_behind true len place all = cond-true _ _ _ (le-leb len place all)
rest_behind false len place all = refl

-- what such a pull has
record Raw (setting : Setting) (before : List ParsedStep) (o : Outcome) (parse : List Message) (m : Message) (h : Head) : Type 0 where
  pub legal : Legal setting (pull_of o parse ∷ before)
  pub current : Current setting before m h
  pub kind : h.body ≡ raw_body
  pub unaccepted : accepted (steps before) ≡ None
  pub incomplete : is_complete (steps before) ≡ false
  pub run : OneRun m (length (taken (steps before))) (raw_stop (has_ended (steps before)) (length (taken (steps before))))

-- what is left of it before the pull
raw_before : (setting : Setting) (before : List ParsedStep) (o : Outcome) (parse : List Message) (m : Message) (h : Head)
    → Raw setting before o parse m h
    → rest_of before m h.body ≡ raw_rest_at (has_ended (steps before)) (length (taken (steps before))) (passed before)
raw_before setting before o parse m h w =
    let t = steps before in
    ap (rest_of before m) w.kind ∙ raw_rest_of before m (length (taken t)) (has_ended t) w.unaccepted w.run.body

-- and behind the pull
raw_behind : (setting : Setting) (before : List ParsedStep) (o p : Outcome) (parse : List Message) (m : Message) (h : Head)
    → Raw setting before o parse m h
    → rest_of (pull_of p parse ∷ before) m h.body
    ≡ raw_rest_at (has_ended (steps before)) (length (taken (steps before))) (passed (pull_of p parse ∷ before))
raw_behind setting before o p parse m h w =
    let t = steps before in
    let x = pull_of p parse in
    let plain = accepted-cons x.step t ∙ w.unaccepted in
    ap (rest_of (x ∷ before) m) w.kind ∙ raw_rest_of (x ∷ before) m (length (taken t)) (has_ended t) plain w.run.body

-- bytes are given
raw_gives : (setting : Setting) (before : List ParsedStep) (o : Outcome) (parse : List Message) (m : Message) (h : Head)
    → Raw setting before o parse m h
    → passed before ≡ m.body_start + given_bytes (steps before) → passed before < length (taken (steps before))
    → Changes setting before (pull_of o parse)
raw_gives setting before o parse m h w place more =
    let t = steps before in
    let len = length (taken t) in
    let u = drop (passed before) (taken t) in
    let long = left_len before in
    let ended = has_ended t in
    let p = gives (on.bytes u) (if ended then no_rest else raw_rest) [] in
    let is : IsPull ended raw_rest u p = sym (raw_some ended u (omega arith)) in
    pulling_with setting before o parse m h p w.legal w.current
    (one_gives before m len (raw_stop ended len) w.run place more ∙ ap on.bytes (take_all (len - passed before) u (omega arith)))
    (subst (λ rest. IsPull ended rest u p) (sym (raw_before setting before o parse m h w ∙ rest_before ended len (passed before) more)) is)
    (λ l'.
    let after = passed_more setting before p.outcome parse m h len (raw_stop ended len) l' w.current w.run w.incomplete (inr refl) in
    record {
      rest = sym (raw_behind setting before o p.outcome parse m h w ∙ rest_behind ended len (passed (pull_of p.outcome parse ∷ before)) (omega arith));
      unread = sym (drop_all (passed (pull_of p.outcome parse ∷ before)) (taken t) (omega arith));
      done = refl;
      failed = refl;
      written = refl;
      over = refl;
    })

-- no byte is there: the body has ended with the input, or may go on
raw_stops : (setting : Setting) (before : List ParsedStep) (o : Outcome) (parse : List Message) (m : Message) (h : Head) (ended : Bool)
    → Raw setting before o parse m h
    → has_ended (steps before) ≡ ended → OneRun m (length (taken (steps before))) (raw_stop ended (length (taken (steps before))))
    → passed before ≡ m.body_start + given_bytes (steps before) → length (taken (steps before)) ≤ passed before
    → Changes setting before (pull_of o parse)
raw_stops setting before o parse m h true w e r place all =
    let t = steps before in
    let len = length (taken t) in
    let u = drop (passed before) (taken t) in
    let p = finishes on.body_ended no_rest u in
    let rest = raw_before setting before o parse m h w ∙ ap (λ b. raw_rest_at b len (passed before)) e ∙ rest_behind true len (passed before) all in
    let is : IsPull (has_ended t) no_rest u p = refl in
    pulling_with setting before o parse m h p w.legal w.current (one_stops before m len (ended_at len []) r place all)
    (subst (λ rest. IsPull (has_ended t) rest u p) (sym rest) is)
    (λ l'.
    let x = pull_of p.outcome parse in
    let same : passed before ≡ passed (x ∷ before) = omega (arith, passed_more setting before p.outcome parse m h len (ended_at len []) l' w.current r w.incomplete (inr refl)) in
    record {
      rest = sym (raw_behind setting before o p.outcome parse m h w ∙ ap (λ b. raw_rest_at b len (passed (x ∷ before))) e
          ∙ rest_behind true len (passed (x ∷ before)) (omega arith));
      unread = ap (λ k. drop k (taken t)) same;
      done = refl;
      failed = refl;
      written = refl;
      over = refl;
    })
raw_stops setting before o parse m h false w e r place all =
    let t = steps before in
    let len = length (taken t) in
    let u = drop (passed before) (taken t) in
    let none = empty u (omega (arith, left_len before)) in
    let p = gives on.pending raw_rest [] in
    let rest = raw_before setting before o parse m h w ∙ ap (λ b. raw_rest_at b len (passed before)) e in
    let is : IsPull false raw_rest u p = sym (ap (pull_raw false) none) in
    pulling_with setting before o parse m h p w.legal w.current (one_stops before m len still_open r place all)
    (subst (λ rest. IsPull (has_ended t) rest u p) (sym rest) (subst (λ b. IsPull b raw_rest u p) (sym e) is))
    (λ l'.
    let x = pull_of p.outcome parse in
    let same : passed before ≡ passed (x ∷ before) = omega (arith, passed_more setting before p.outcome parse m h len still_open l' w.current r w.incomplete (inr refl)) in
    record {
      rest = sym (raw_behind setting before o p.outcome parse m h w ∙ ap (λ b. raw_rest_at b len (passed (x ∷ before))) e);
      unread = sym none ∙ ap (λ k. drop k (taken t)) same;
      done = refl;
      failed = refl;
      written = refl;
      over = refl;
    })

-- a raw body
pub raw_pull_changes : (setting : Setting) (before : List ParsedStep) (o : Outcome) (parse : List Message) (m : Message) (h : Head)
    → Legal setting (pull_of o parse ∷ before) → Current setting before m h → h.body ≡ raw_body → accepted (steps before) ≡ None
    → is_complete (steps before) ≡ false → Changes setting before (pull_of o parse)
raw_pull_changes setting before o parse m h l c kind plain open_yet =
    let t = steps before in
    let r = raw_run setting before m h c kind plain in
    let w : Raw setting before o parse m h = record { legal = l; current = c; kind = kind; unaccepted = plain; incomplete = open_yet; run = r } in
    let place = one_passed setting before m h (length (taken t)) (raw_stop (has_ended t) (length (taken t))) l.3 c r open_yet (inr refl) in
    elim (cases_lt (passed before) (length (taken t))) [
      | inl more ↦ raw_gives setting before o parse m h w place.0 more
      | inr all ↦ raw_stops setting before o parse m h (has_ended t) w refl r place.0 all
    ]
