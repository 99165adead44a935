-- What a generated run adds up to is what its trace does in the model.
use Rattle.std.proofs.Common.{◌≡◌, ℕ, ◌+◌, ◌<◌, ◌≤◌, ◌^◌, cond, List, [], ◌∷◌, ◌++◌, length, map, reverse, refl, sym, ap, ◌∙◌, subst, arith, length-append, length-take, append-nil}
use Rattle.std.specs.Prelude.{is_some, sum_by, codes}
use Rattle.std.proofs.lemmas.List.{map-append, length-reverse}
use Rattle.std.proofs.lemmas.List.Sums.{sum_by-cons, sum_by-append}
use Rattle.std.proofs.lemmas.Grind.{reverse_onto}
use Rattle.http_config.specs.Config.{default_settings}
use Rattle.model_h1.specs.Event as on
use Rattle.model_h1.specs.Sums as sums
use Rattle.model_h1.specs.Sums.{step_taken, step_written, head_of, taken, written}
use Rattle.model_h1.specs.Past.{step_bytes, head_count}
use Rattle.model_h1.specs.Text.{buffered}
use Rattle.model_h1.specs.Laws.Runs as runs
use Rattle.model_h1.proofs.WrittenLemmas.{written_buffered}
use Rattle.h1_generated.specs.Generated.{setting, generated}
use Rattle.h1_generated.specs.Summary.{Counts, counts_of, summary_text}
use Rattle.h1_generated.proofs.Added.{taken-append, written-append}
use Rattle.h1_generated.proofs.Runs.{allowed, few_taken, few_body, few_written, all_heads as heads_of_all, all_written, stays_open, not_over}
use Rattle.h1_connection.specs.EventMeaning.{event_of, SaysOutcome}
use Rattle.h1_connection.specs.Run.{SaysStep, SaySteps, IsWhole, AreAllowed}
use Rattle.h1_connection.specs.declared.event.Event.{Event}
use Rattle.h1_connection.specs.declared.event.Event.TheVariants.{Read, Eof, Next, Pull, DropBody, Continue, Answer, Chunk, BodyEnd as EndBody, BodyError, Write, Tick, Drain, Accept, Send}
use Rattle.h1_connection.specs.declared.event.Outcome.{Outcome}
use Rattle.h1_connection.specs.declared.event.Outcome.TheVariants.{Took, Head, Bytes, Trailers, Frame, BodyEnd, Pending, Closed, Fault, Broken, Protocol, Refused, Gave, Expired, Abandoned, Done}
use Rattle.h1_connection.specs.declared.trace.Step.{Step}
use Rattle.h1_connection.specs.declared.trace.Trace.{Trace}
use Rattle.h1_generated.specs.Run.{IsSummary, taken_by, heads_by, body_by, given_by, all_taken, all_heads, all_body, all_given, totals, DoFit}

-- ---- one step

-- an outcome adds as much as the model's
pub record AddsSame (outcome : Outcome) (of_model : on.Outcome) : Type 0 where
  pub heads : heads_by outcome ≡ cond (is_some (head_of of_model)) 1 0
  pub body : body_by outcome ≡ step_bytes of_model
  pub given : given_by outcome ≡ length (step_written of_model)
  pub read : (bytes : List ℕ) → taken_by (Read bytes) outcome ≡ length (step_taken (on.read bytes) of_model)

at_outcome : (outcome : Outcome) (m n : on.Outcome) → n ≡ m → AddsSame outcome m → AddsSame outcome n
at_outcome outcome m n is same = subst (λ (o : on.Outcome). AddsSame outcome o) (sym is) same

outcome_adds : (outcome : Outcome) (m : on.Outcome) → SaysOutcome outcome m → AddsSame outcome m
outcome_adds (Took n) m says =
    at_outcome (Took n) (on.took n) m says (record { heads = refl; body = refl; given = refl; read = λ bytes. sym (length-take n bytes) })
outcome_adds (Head item) m says =
    at_outcome (Head item) (on.head says.0) m says.2 (record { heads = refl; body = refl; given = refl; read = λ bytes. refl })
outcome_adds (Bytes more) m says = at_outcome (Bytes more) (on.bytes more) m says (record { heads = refl; body = refl; given = refl; read = λ bytes. refl })
outcome_adds (Trailers map) m says =
    at_outcome (Trailers map) (on.trailers says.0) m says.2 (record { heads = refl; body = refl; given = refl; read = λ bytes. refl })
outcome_adds (Frame frame) m says = at_outcome (Frame frame) (on.frame frame) m says (record { heads = refl; body = refl; given = refl; read = λ bytes. refl })
outcome_adds BodyEnd m says = at_outcome BodyEnd on.body_ended m says (record { heads = refl; body = refl; given = refl; read = λ bytes. refl })
outcome_adds Pending m says = at_outcome Pending on.pending m says (record { heads = refl; body = refl; given = refl; read = λ bytes. refl })
outcome_adds (Closed end) m says = at_outcome (Closed end) _ m says (record { heads = refl; body = refl; given = refl; read = λ bytes. refl })
outcome_adds (Fault fault) m says = at_outcome (Fault fault) _ m says (record { heads = refl; body = refl; given = refl; read = λ bytes. refl })
outcome_adds (Broken fault) m says = at_outcome (Broken fault) _ m says (record { heads = refl; body = refl; given = refl; read = λ bytes. refl })
outcome_adds (Protocol error) m says =
    at_outcome (Protocol error) (on.protocol says.rule) m says.outcome_is (record { heads = refl; body = refl; given = refl; read = λ bytes. refl })
outcome_adds (Refused error) m says = at_outcome (Refused error) _ m says (record { heads = refl; body = refl; given = refl; read = λ bytes. refl })
outcome_adds (Gave bytes) m says = at_outcome (Gave bytes) (on.gave bytes) m says (record { heads = refl; body = refl; given = refl; read = λ bytes. refl })
outcome_adds (Expired end) m says = at_outcome (Expired end) _ m says (record { heads = refl; body = refl; given = refl; read = λ bytes. refl })
outcome_adds Abandoned m says = at_outcome Abandoned on.abandoned m says (record { heads = refl; body = refl; given = refl; read = λ bytes. refl })
outcome_adds Done m says = at_outcome Done on.done m says (record { heads = refl; body = refl; given = refl; read = λ bytes. refl })

-- no other event takes bytes
none_taken : (event : Event) (outcome : Outcome) (m : on.Outcome) → ((bytes : List ℕ) → taken_by (Read bytes) outcome ≡ length (step_taken (on.read bytes) m))
    → taken_by event outcome ≡ length (step_taken (event_of event) m)
none_taken (Read bytes) outcome m read = read bytes
none_taken Eof outcome m read = refl
none_taken Next outcome m read = refl
none_taken Pull outcome m read = refl
none_taken DropBody outcome m read = refl
none_taken Continue outcome m read = refl
none_taken (Answer head size) outcome m read = refl
none_taken (Chunk bytes) outcome m read = refl
none_taken EndBody outcome m read = refl
none_taken BodyError outcome m read = refl
none_taken (Write limit) outcome m read = refl
none_taken (Tick ms) outcome m read = refl
none_taken Drain outcome m read = refl
none_taken (Accept limit) outcome m read = refl
none_taken (Send message) outcome m read = refl

step_takes : (s : Step) (t : sums.Step) → SaysStep s t → taken_by s.event s.outcome ≡ length (step_taken t.event t.outcome)
step_takes s t says =
    none_taken s.event s.outcome t.outcome (outcome_adds s.outcome t.outcome says.outcome).read
    ∙ ap (λ (e : on.Event). length (step_taken e t.outcome)) (sym says.event)

-- ---- all steps

-- sums of steps that say each other
same_sums : (f : Step → ℕ) (g : sums.Step → ℕ) → ((s : Step) (t : sums.Step) → SaysStep s t → f s ≡ g t) → (ss : List Step) (ts : List sums.Step) → SaySteps ss ts
    → sum_by f ss ≡ sum_by g ts
same_sums f g same [] [] says = refl
same_sums f g same [] (t ∷ ts) says = absurd says
same_sums f g same (s ∷ ss) [] says = absurd says
same_sums f g same (s ∷ ss) (t ∷ ts) says =
    sum_by-cons f s ss ∙ (λ i. same s t says.0 i + same_sums f g same ss ts says.1 i) ∙ sym (sum_by-cons g t ts)

sum_reversed : (g : sums.Step → ℕ) (ts : List sums.Step) → sum_by g (reverse ts) ≡ sum_by g ts
sum_reversed g [] = refl
sum_reversed g (t ∷ ts) =
    let parts : sum_by g (reverse (t ∷ ts)) ≡ sum_by g (reverse ts) + sum_by g (t ∷ []) =
    ap (λ (l : List sums.Step). sum_by g l) (reverse_onto ts t []) ∙ sum_by-append g (reverse ts) (t ∷ []) in
    omega (arith, parts, sum_reversed g ts, sum_by-cons g t ts, sum_by-cons g t [])

-- how many steps there are
same_length : (ss : List Step) (ts : List sums.Step) → SaySteps ss ts → length ss ≡ length ts
same_length [] [] says = refl
same_length [] (t ∷ ts) says = absurd says
same_length (s ∷ ss) [] says = absurd says
same_length (s ∷ ss) (t ∷ ts) says = let more = same_length ss ts says.1 in omega (arith, more)

-- bytes that were taken and written
taken_length : (ts : List sums.Step) → length (taken ts) ≡ sum_by (λ (t : sums.Step). length (step_taken t.event t.outcome)) ts
unfolding taken
taken_length ts =
    let none : length (taken []) ≡ 0 = refl in
    let all : length (taken (ts ++ [])) ≡ length (taken ts) = ap (λ (l : List sums.Step). length (taken l)) (append-nil ts) in
    omega (arith, taken-append ts [], none, all)

written_length : (ts : List sums.Step) → length (written ts) ≡ sum_by (λ (t : sums.Step). length (step_written t.outcome)) ts
unfolding written
written_length ts =
    let none : length (written []) ≡ 0 = refl in
    let all : length (written (ts ++ [])) ≡ length (written ts) = ap (λ (l : List sums.Step). length (written l)) (append-nil ts) in
    omega (arith, written-append ts [], none, all)

-- What a trace whose steps say those of the model adds up to.
record Same (trace : Trace) (model : List sums.Step) : Type 0 where
  pub events : length trace.steps ≡ length model
  pub taken_is : all_taken trace.steps ≡ length (taken model)
  pub heads : all_heads trace.steps ≡ head_count model
  pub body : all_body trace.steps ≡ sum_by (λ s. step_bytes s.outcome) model
  pub given : all_given trace.steps ≡ length (written model)

same_totals : (trace : Trace) (model : List sums.Step) → SaySteps trace.steps (reverse model) → Same trace model
same_totals trace model says =
    record {
      events = same_length trace.steps (reverse model) says ∙ length-reverse model;
      taken_is = by_steps (λ s. taken_by s.event s.outcome) (λ t. length (step_taken t.event t.outcome)) step_takes ∙ sym (taken_length model);
      heads = by_steps (λ s. heads_by s.outcome) (λ t. cond (is_some (head_of t.outcome)) 1 0) (λ s t x. (outcome_adds s.outcome t.outcome x.outcome).heads);
      body = by_steps (λ s. body_by s.outcome) (λ t. step_bytes t.outcome) (λ s t x. (outcome_adds s.outcome t.outcome x.outcome).body);
      given = by_steps (λ s. given_by s.outcome) (λ t. length (step_written t.outcome)) (λ s t x. (outcome_adds s.outcome t.outcome x.outcome).given) ∙ sym (written_length model);
    }
  where
    by_steps : (f : Step → ℕ) (g : sums.Step → ℕ) → ((s : Step) (t : sums.Step) → SaysStep s t → f s ≡ g t) → sum_by f trace.steps ≡ sum_by g model
    by_steps f g same = same_sums f g same trace.steps (reverse model) says ∙ sum_reversed g model

-- ---- a generated run

map_reversed : {A B : Type 0} (f : A → B) (xs : List A) → map f (reverse xs) ≡ reverse (map f xs)
map_reversed f [] = refl
map_reversed f (x ∷ xs) =
    ap (map f) (reverse_onto xs x []) ∙ map-append f (reverse xs) (x ∷ []) ∙ ap (λ l. l ++ f x ∷ []) (map_reversed f xs) ∙ sym (reverse_onto (map f xs) (f x) [])

says_events : (ss : List Step) (ts : List sums.Step) → SaySteps ss ts → map (λ (t : sums.Step). t.event) ts ≡ map event_of (map (λ (s : Step). s.event) ss)
says_events [] [] says = refl
says_events [] (t ∷ ts) says = absurd says
says_events (s ∷ ss) [] says = absurd says
says_events (s ∷ ss) (t ∷ ts) says = λ i. says.0.event i ∷ says_events ss ts says.1 i

-- none of the generated events is refused
pub allowed_events : (seed count : ℕ) (events : List Event) → count < 2 ^ 64 → map event_of events ≡ generated seed count → AreAllowed default_settings events
allowed_events seed count events fits is = subst (λ (es : List on.Event). (model : List sums.Step) × runs.IsWhole setting es model) (sym is) (allowed seed count fits)

-- the model's trace is that of the generated events
pub generated_whole : (seed count : ℕ) (events : List Event) (trace : Trace) (x : IsWhole default_settings events trace) → map event_of events ≡ generated seed count
    → runs.IsWhole setting (generated seed count) x.model
generated_whole seed count events trace x is =
    record {
      traced = x.driven.traced;
      events_are =
          sym (map_reversed (λ (t : sums.Step). t.event) x.model) ∙ says_events trace.steps (reverse x.model) x.driven.says
          ∙ ap (map event_of) x.driven.events_are ∙ is;
    }

-- what waits to be written
waiting : (seed count : ℕ) (events : List Event) (trace : Trace) (x : IsWhole default_settings events trace)
    → length (written x.model ++ trace.buffered) ≡ length (written x.model ++ buffered setting x.model)
waiting seed count events trace x =
    ap (λ (l : List ℕ). length l) (x.driven.text_is ∙ sym (written_buffered setting x.model x.driven.traced))

pub generated_fits : (seed count : ℕ) (events : List Event) (trace : Trace) → count ≤ 20000 → map event_of events ≡ generated seed count
    → IsWhole default_settings events trace → DoFit trace
generated_fits seed count events trace few is x =
    let whole = generated_whole seed count events trace x is in
    let fits : count < 2 ^ 64 = omega (arith, few) in
    let same = same_totals trace x.model x.driven.says in
    let none = ap (λ (l : List ℕ). length l) (all_written seed count x.model fits whole) in
    let text = waiting seed count events trace x in
    record {
      taken = omega (arith, same.taken_is, few_taken seed count x.model fits whole, few);
      heads = omega (arith, same.heads, heads_of_all seed count x.model fits whole, few);
      body = omega (arith, same.body, few_body seed count x.model fits whole, few);
      text = omega (
        arith,
        same.given,
        few_written seed count x.model fits whole,
        few,
        none,
        text,
        length-append (written x.model) trace.buffered,
        length-append (written x.model) (buffered setting x.model),
      );
    }

pub generated_sums : (seed count : ℕ) (events : List Event) (trace : Trace) (text : List ℕ) (counts : Counts) → count ≤ 20000 → map event_of events ≡ generated seed count
    → IsWhole default_settings events trace → counts ≡ totals trace → text ≡ summary_text counts (codes "open") → IsSummary seed count text
generated_sums seed count events trace text counts few is x are text_is =
    let whole = generated_whole seed count events trace x is in
    let fits : count < 2 ^ 64 = omega (arith, few) in
    let same = same_totals trace x.model x.driven.says in
    let text_same : all_given trace.steps + length trace.buffered ≡ length (written x.model ++ buffered setting x.model) =
    omega (arith, same.given, waiting seed count events trace x, length-append (written x.model) trace.buffered) in
    let all : totals trace ≡ counts_of x.model (buffered setting x.model) =
    λ i. record { events = same.events i; taken = same.taken_is i; heads = same.heads i; body = same.body i; text = text_same i } in
    record {
      trace = x.model;
      whole = whole;
      stays = λ past of. stays_open seed count x.model fits whole past of;
      goes_on = not_over seed count x.model fits whole;
      is_text = text_is ∙ ap (λ (c : Counts). summary_text c (codes "open")) (are ∙ all);
    }
