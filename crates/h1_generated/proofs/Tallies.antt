-- What steps add up to, while they are gone over.
use Rattle.std.proofs.Common.{◌≡◌, ◌+◌, ◌<◌, ◌^◌, List, [], ◌∷◌, length, sym, ap, ◌∙◌, subst, arith}
use Rattle.std.proofs.lemmas.List.Sums.{sum_by-cons}
use Rattle.h1_connection.specs.declared.trace.Step.{Step}
use Rattle.h1_connection.specs.declared.trace.Trace.{Trace}
use Rattle.h1_generated.specs.Summary.{Counts}
use Rattle.h1_generated.specs.Run.{taken_by, heads_by, body_by, given_by, all_taken, all_heads, all_body, all_given, totals, DoFit}

-- the counts so far, and what the steps that are left add, are the whole
pub record Comes (trace : Trace) (c : Counts) (left : List Step) : Type 0 where
  pub events : c.events ≡ length trace.steps
  pub taken : c.taken + all_taken left ≡ all_taken trace.steps
  pub heads : c.heads + all_heads left ≡ all_heads trace.steps
  pub body : c.body + all_body left ≡ all_body trace.steps
  pub text : c.text + all_given left ≡ all_given trace.steps + length trace.buffered

-- before the first step
pub comes_first : (trace : Trace) (c : Counts) (left : List Step) → left ≡ trace.steps → c.events ≡ length trace.steps → c.taken ≡ 0 → c.heads ≡ 0 → c.body ≡ 0
    → c.text ≡ length trace.buffered → Comes trace c left
comes_first trace c left all events taken heads body text =
    subst (λ (l : List Step). Comes trace c l) (sym all)
    (record {
      events = events;
      taken = omega (arith, taken);
      heads = omega (arith, heads);
      body = omega (arith, body);
      text = omega (arith, text);
    })

-- the sums of a step and those behind it
one_taken : (step : Step) (later : List Step) → all_taken (step ∷ later) ≡ taken_by step.event step.outcome + all_taken later
one_taken step later = sum_by-cons (λ (s : Step). taken_by s.event s.outcome) step later

one_head : (step : Step) (later : List Step) → all_heads (step ∷ later) ≡ heads_by step.outcome + all_heads later
one_head step later = sum_by-cons (λ (s : Step). heads_by s.outcome) step later

one_body : (step : Step) (later : List Step) → all_body (step ∷ later) ≡ body_by step.outcome + all_body later
one_body step later = sum_by-cons (λ (s : Step). body_by s.outcome) step later

one_given : (step : Step) (later : List Step) → all_given (step ∷ later) ≡ given_by step.outcome + all_given later
one_given step later = sum_by-cons (λ (s : Step). given_by s.outcome) step later

-- what the next step adds still fits
pub fits_taken : (trace : Trace) (c : Counts) (left later : List Step) (step : Step) → Comes trace c left → left ≡ step ∷ later → DoFit trace
    → c.taken + taken_by step.event step.outcome < 2 ^ 64
fits_taken trace c left later step comes is fits =
    let sum = ap (λ (l : List Step). all_taken l) is ∙ one_taken step later in
    omega (arith, comes.taken, sum, fits.taken)

pub fits_heads : (trace : Trace) (c : Counts) (left later : List Step) (step : Step) → Comes trace c left → left ≡ step ∷ later → DoFit trace
    → c.heads + heads_by step.outcome < 2 ^ 64
fits_heads trace c left later step comes is fits =
    let sum = ap (λ (l : List Step). all_heads l) is ∙ one_head step later in
    omega (arith, comes.heads, sum, fits.heads)

pub fits_body : (trace : Trace) (c : Counts) (left later : List Step) (step : Step) → Comes trace c left → left ≡ step ∷ later → DoFit trace
    → c.body + body_by step.outcome < 2 ^ 64
fits_body trace c left later step comes is fits =
    let sum = ap (λ (l : List Step). all_body l) is ∙ one_body step later in
    omega (arith, comes.body, sum, fits.body)

pub fits_text : (trace : Trace) (c : Counts) (left later : List Step) (step : Step) → Comes trace c left → left ≡ step ∷ later → DoFit trace
    → c.text + given_by step.outcome < 2 ^ 64
fits_text trace c left later step comes is fits =
    let sum = ap (λ (l : List Step). all_given l) is ∙ one_given step later in
    omega (arith, comes.text, sum, fits.text)

-- behind it
pub comes_next : (trace : Trace) (c new : Counts) (left later : List Step) (step : Step) → Comes trace c left → left ≡ step ∷ later → new.events ≡ c.events
    → new.taken ≡ c.taken + taken_by step.event step.outcome → new.heads ≡ c.heads + heads_by step.outcome → new.body ≡ c.body + body_by step.outcome
    → new.text ≡ c.text + given_by step.outcome → Comes trace new later
comes_next trace c new left later step comes is events taken heads body text =
    let taken_sum = ap (λ (l : List Step). all_taken l) is ∙ one_taken step later in
    let heads_sum = ap (λ (l : List Step). all_heads l) is ∙ one_head step later in
    let body_sum = ap (λ (l : List Step). all_body l) is ∙ one_body step later in
    let given_sum = ap (λ (l : List Step). all_given l) is ∙ one_given step later in
    record {
      events = events ∙ comes.events;
      taken = omega (arith, comes.taken, taken_sum, taken);
      heads = omega (arith, comes.heads, heads_sum, heads);
      body = omega (arith, comes.body, body_sum, body);
      text = omega (arith, comes.text, given_sum, text);
    }

-- behind the last
pub comes_all : (trace : Trace) (c : Counts) (left : List Step) → Comes trace c left → left ≡ [] → c ≡ totals trace
comes_all trace c left comes none =
    let end = subst (λ (l : List Step). Comes trace c l) none comes in
    let taken : c.taken ≡ all_taken trace.steps = omega (arith, end.taken) in
    let heads : c.heads ≡ all_heads trace.steps = omega (arith, end.heads) in
    let body : c.body ≡ all_body trace.steps = omega (arith, end.body) in
    let text : c.text ≡ all_given trace.steps + length trace.buffered = omega (arith, end.text) in
    λ i. record { events = end.events i; taken = taken i; heads = heads i; body = body i; text = text i }
