-- A step of the connection is one of the traced connection.
use Rattle.std.proofs.Common.{inl, inr, ◌≡◌, ℕ, Bool, true, false, Result, Ok, Err, List, [], ◌∷◌, ◌++◌, take, reverse, Option, Some, None, refl, sym, ap, ◌∙◌, subst, subst₂}
use Rattle.std.proofs.lemmas.Grind.{reverse_onto}
use Rattle.std.proofs.lemmas.Bool.{false≢true}
use Rattle.std.specs.Prelude.{IfOk, OnOk, OnErr, IsOk}
use Rattle.http_bodies.specs.Told.{Grows}
use Rattle.http_bodies.proofs.Histories.{grown-none}
use Rattle.http_config.specs.Config.{Settings}
use Rattle.model_h1.specs.Event as on
use Rattle.model_h1.specs.Setting.{Setting}
use Rattle.model_h1.specs.Sums as sums
use Rattle.model_state.specs.Kept.{Kept, Change}
use Rattle.model_state.specs.Change.{IsStep}
use Rattle.model_state.specs.StandsFor.{StandsFor}
use Rattle.model_state.specs.Marks.{body_runs}
use Rattle.model_state.specs.Runs.{runs_behind}
use Rattle.model_state.proofs.Numbers.{ahead-nil}
use Rattle.model_state.proofs.Stands.{table_steps, fresh_stands}
use Rattle.h1_payload.specs.Rests.{SaysPulled}
use Rattle.h1_payload.specs.declared.pulled.Pulled.{Pulled}
use Rattle.h1_payload.specs.declared.pulled.Pulled.TheVariants as pulled
use Rattle.h1_connection.specs.Heads.{SaysNext}
use Rattle.h1_connection.specs.EventMeaning.{setting_of, SaysOutcome}
use Rattle.h1_connection.specs.declared.connection.heads.NextHead.{NextHead}
use Rattle.h1_connection.specs.declared.connection.heads.NextHead.TheVariants as next
use Rattle.h1_connection.specs.declared.connection.ticks.Expiry.{Expiry}
use Rattle.h1_connection.specs.declared.connection.ticks.Expiry.TheVariants as expiry
use Rattle.h1_connection.specs.Ticks.{expiry_of}
use Rattle.h1_connection.specs.Run.{SaysStep, SaySteps}
use Rattle.h1_connection.specs.State.{State, fresh_state, Stands, IsMarked, IsCounted, GoesOn, TakesNoMemory, Is}
use Rattle.h1_connection.specs.Steps.{Pair}
use Rattle.h1_connection.specs.declared.event.Event.TheVariants.{Write}
use Rattle.h1_connection.specs.declared.event.Outcome.TheVariants.{Gave}
use Rattle.h1_traced.specs.Outcomes.{next_outcome, pulled_outcome, tick_outcome}
use Rattle.h1_traced.specs.Traced.{SaysNoted, TracedStands, Notes, Stepped, TracedSteps, TracedFails}

-- ---- the empty trace

pub fresh_traced : (settings : Settings) (noted : Option (List Pair)) (h : Bool) → SaysNoted noted [] → TracedStands (record { state = fresh_state settings; noted = noted; listens = h }) []
fresh_traced settings noted h says = record { stands = fresh_stands (setting_of settings); noted = says }

-- no body byte waits in a new connection, and no head was read ahead
pub fresh_marked : (settings : Settings) → IsMarked (fresh_state settings) []
unfolding body_runs runs_behind
fresh_marked settings = refl

pub fresh_counted : (settings : Settings) → IsCounted (fresh_state settings) []
fresh_counted settings = ([], record { same = refl; right = tt }, sym ahead-nil)

pub says_none : (noted : Option (List Pair)) (trace : List sums.Step) → noted ≡ None → SaysNoted noted trace
says_none noted trace none = subst (λ (n : Option (List Pair)). SaysNoted n trace) (sym none) tt

pub says_empty : (noted : Option (List Pair)) → noted ≡ Some [] → SaysNoted noted []
says_empty noted empty = subst (λ (n : Option (List Pair)). SaysNoted n []) (sym empty) tt

-- ---- one step

-- what stands for a trace and what stands for the longer one are a step of the machine
pub machine_step : (set : Setting) (k next : Kept) (trace : List sums.Step) (s : sums.Step) → StandsFor set k trace → StandsFor set next (s ∷ trace)
    → IsStep set k s.event s.outcome next
machine_step set k next trace s x y =
    subst₂ (λ (a b : Kept). IsStep set a s.event s.outcome b) (sym x.parts) (sym y.parts)
    (table_steps set s trace x.past y.past y.traced x.of_trace y.of_trace)

-- one more step on both sides
say_more : (ss : List Pair) (ts : List sums.Step) (s : Pair) (t : sums.Step) → SaySteps ss ts → SaysStep s t → SaySteps (ss ++ s ∷ []) (ts ++ t ∷ [])
say_more [] [] s t x y = (y, tt)
say_more [] (u ∷ ts) s t x y = absurd x
say_more (r ∷ ss) [] s t x y = absurd x
say_more (r ∷ ss) (u ∷ ts) s t x y = (x.0, say_more ss ts s t x.1 y)

-- what was noted is the longer trace
noted_more : (was now : Option (List Pair)) (trace : List sums.Step) (p : Pair) (s : sums.Step) → SaysNoted was trace → Grows was now (p ∷ []) → SaysStep p s
    → SaysNoted now (s ∷ trace)
noted_more None now trace p s says grows step = subst (λ (n : Option (List Pair)). SaysNoted n (s ∷ trace)) (sym grows) tt
noted_more (Some noted) now trace p s says grows step =
    subst (λ (n : Option (List Pair)). SaysNoted n (s ∷ trace)) (sym grows)
    (subst (λ (l : List sums.Step). SaySteps (noted ++ p ∷ []) l) (sym (reverse_onto trace s [])) (say_more noted (reverse trace) p s says step))

in_settings : (a b : Settings) (k : Kept) (trace : List sums.Step) → b ≡ a → StandsFor (setting_of b) k trace → StandsFor (setting_of a) k trace
in_settings a b k trace same stands = subst (λ (s : Settings). StandsFor (setting_of s) k trace) same stands

stepped : (old new : State) (was now : Option (List Pair)) (h k : Bool) (trace : List sums.Step) (s : sums.Step) → new.settings ≡ old.settings
    → Stands old trace → Stands new (s ∷ trace) → (IsMarked old trace → IsMarked new (s ∷ trace)) → (IsCounted old trace → IsCounted new (s ∷ trace))
    → SaysNoted now (s ∷ trace) → Notes was now
    → Stepped (record { state = old; noted = was; listens = h }) trace s (record { state = new; noted = now; listens = k })
stepped old new was now h k trace s same before after marks ahead says notes = record {
  stands = record { stands = after; noted = says };
  noted = notes;
  machine = machine_step (setting_of old.settings) old.kept new.kept trace s before (in_settings old.settings new.settings new.kept (s ∷ trace) same after);
  marks = marks;
  ahead = ahead;
}

-- a step that was noted
pub traced_steps : (old new : State) (was now : Option (List Pair)) (h k : Bool) (p : Pair) (event : on.Event) (Says : on.Outcome → Type 0) → GoesOn old event Says new
    → new.settings ≡ old.settings → Grows was now (p ∷ []) → ((out : on.Outcome) → Says out → SaysStep p (record { event = event; outcome = out }))
    → TracedSteps (record { state = old; noted = was; listens = h }) event Says (record { state = new; noted = now; listens = k })
traced_steps old new was now h k p event Says goes same grows says = λ trace stands.
    let g = goes trace stands.stands in
    let s : sums.Step = record { event = event; outcome = g.0 } in
    (g.0, g.1, stepped old new was now h k trace s same stands.stands g.3 g.4 g.5 (noted_more was now trace p s stands.noted grows (says g.0 g.1)) (p ∷ [], grows))

-- and one that nobody listens to
pub traced_steps_unheard : (old new : State) (was : Option (List Pair)) (h : Bool) (event : on.Event) (Says : on.Outcome → Type 0) → GoesOn old event Says new
    → new.settings ≡ old.settings → was ≡ None → TracedSteps (record { state = old; noted = was; listens = h }) event Says (record { state = new; noted = was; listens = h })
traced_steps_unheard old new was h event Says goes same none = λ trace stands.
    let g = goes trace stands.stands in
    let s : sums.Step = record { event = event; outcome = g.0 } in
    (g.0, g.1, stepped old new was was h h trace s same stands.stands g.3 g.4 g.5 (says_none was (s ∷ trace) none) ([], grown-none was))

-- what was written is what stood in front
written_outcome : (set : Setting) (k next : Kept) (n : ℕ) (out : on.Outcome) → IsStep set k (on.write n) out next → out ≡ on.gave (take n k.buffered)
written_outcome set k next n out m = m.answers ∙ ap (λ (c : Change). c.outcome) m.changes

pub give_steps : (old new : State) (was now : Option (List Pair)) (h k : Bool) (n : ℕ) (bytes : List ℕ) → GoesOn old (on.write n) (Is (on.gave bytes)) new
    → new.settings ≡ old.settings → Grows was now (record { event = Write n; outcome = Gave bytes } ∷ [])
    → TracedSteps (record { state = old; noted = was; listens = h }) (on.write n) (Is (on.gave (take n old.kept.buffered))) (record { state = new; noted = now; listens = k })
give_steps old new was now h k n bytes goes same grows = λ trace stands.
    let x = traced_steps old new was now h k (record { event = Write n; outcome = Gave bytes }) (on.write n) (Is (on.gave bytes)) goes same grows (λ out says. record { event = refl; outcome = says }) trace stands in
    (x.0, written_outcome (setting_of old.settings) old.kept new.kept n x.0 x.2.machine, x.2)

-- ---- what was answered, as an outcome

pub next_says : (n : NextHead) (o : on.Outcome) → SaysNext n o → SaysOutcome (next_outcome n) o
next_says (next.Head item) o says = says
next_says (next.Fault fault) o says = says
next_says next.Pending o says = says
next_says (next.Closed end) o says = says

pub pull_says : (p : Pulled) (o : on.Outcome) → SaysPulled p o → SaysOutcome (pulled_outcome p) o
pull_says (pulled.Bytes bytes) o says = says
pull_says (pulled.Trailers trailers) o says = (says.0, says.2, says.1)
pull_says pulled.End o says = says
pull_says (pulled.Broken fault) o says = says
pull_says pulled.Pending o says = says

pub tick_says : (e : Expiry) (o : on.Outcome) → Is (expiry_of e) o → SaysOutcome (tick_outcome e) o
tick_says expiry.None o says = says
tick_says (expiry.Expired end) o says = says
tick_says expiry.Abandoned o says = says

-- ---- results

pub when_ok : {A E : Type 0} {P Q : Type 0} (r : Result A E) → OnOk r P → (P → Q) → OnOk r Q
when_ok (Ok x) p f = f p
when_ok (Err e) p f = tt

pub when_err : {A E : Type 0} {P Q : Type 0} (r : Result A E) → OnErr r P → (P → Q) → OnErr r Q
when_err (Ok x) p f = tt
when_err (Err e) p f = f p

-- where what is handed on was given before
pub ok_given : {A E : Type 0} {Q : Type 0} (r : Result A E) (x : A) (P : A → Type 0) → IfOk r (λ given. given ≡ x) → OnOk r Q → (Q → P x) → IfOk r P
ok_given (Ok y) x P same q f = subst P (sym same) (f q)
ok_given (Err e) x P same q f = tt

pub any_err : {A E : Type 0} {P : Type 0} (r : Result A E) → P → OnErr r P
any_err (Ok x) p = tt
any_err (Err e) p = p

-- nobody listens
pub unheard : (listens is_listening : Bool) (noted : Option (List Pair)) → listens ≡ is_listening → listens ≡ false → (is_listening ≡ false → noted ≡ None) → noted ≡ None
unheard listens is_listening noted same not says = says (sym same ∙ not)

-- what isn't known isn't known to grow
pub grows_unheard : (listens is_listening : Bool) (noted : Option (List Pair)) (p : Pair) → listens ≡ is_listening → listens ≡ false → (is_listening ≡ false → noted ≡ None)
    → Grows noted noted (p ∷ [])
grows_unheard listens is_listening noted p same not says =
    subst (λ (n : Option (List Pair)). Grows n n (p ∷ [])) (sym (unheard listens is_listening noted same not says)) refl

-- somebody does
pub heard : {A : Type 0} (listens is_listening : Bool) → listens ≡ is_listening → listens ≡ true → is_listening ≡ false → A
heard listens is_listening same is not = let never : true ≡ false = sym is ∙ (same ∙ not) in absurd (cc never)

-- nor does it not where it does
pub never : {A : Type 0} (is_listening : Bool) → is_listening ≡ true → is_listening ≡ false → A
never is_listening does not = let both : true ≡ false = sym does ∙ not in absurd (cc both)

-- ---- memory runs out

-- before the event came
pub fails_before : (old new : State) (was : Option (List Pair)) (h : Bool) (event : on.Event) → new ≡ old → (h ≡ false → ¬ TakesNoMemory old event)
    → TracedFails (record { state = old; noted = was; listens = h }) event (record { state = new; noted = was; listens = h })
fails_before old new was h event same memory = record { noted = grown-none was; connection = inl same; memory = memory }

-- after it
pub fails_after : (old new : State) (was now : Option (List Pair)) (h k : Bool) (event : on.Event) (Says : on.Outcome → Type 0) → GoesOn old event Says new → Grows was now []
    → (h ≡ false → ¬ TakesNoMemory old event) → TracedFails (record { state = old; noted = was; listens = h }) event (record { state = new; noted = now; listens = k })
fails_after old new was now h k event Says goes grows memory = record {
  noted = grows;
  connection = inr (λ trace stands. let g = goes trace stands in (g.0, tt, g.2, g.3, g.4, g.5));
  memory = memory;
}

-- by a result of the connection, which gives no error where the event takes no memory
pub fails_at_once : {A E : Type 0} (r : Result A E) (old new : State) (was : Option (List Pair)) (h : Bool) (event : on.Event) → OnErr r (new ≡ old) → (TakesNoMemory old event → IsOk r)
    → OnErr r (TracedFails (record { state = old; noted = was; listens = h }) event (record { state = new; noted = was; listens = h }))
fails_at_once (Ok x) old new was h event same needless = tt
fails_at_once (Err e) old new was h event same needless = fails_before old new was h event same (λ unheard takes. false≢true (needless takes))

-- by a result of noting, which gives no error where nobody listens
pub fails_noting : {A E : Type 0} (r : Result A E) (old new : State) (was now : Option (List Pair)) (h k : Bool) (event : on.Event) (Says : on.Outcome → Type 0) → GoesOn old event Says new
    → OnErr r (Grows was now []) → (h ≡ false → IsOk r)
    → OnErr r (TracedFails (record { state = old; noted = was; listens = h }) event (record { state = new; noted = now; listens = k }))
fails_noting (Ok x) old new was now h k event Says goes grows needless = tt
fails_noting (Err e) old new was now h k event Says goes grows needless =
    fails_after old new was now h k event Says goes grows (λ unheard takes. false≢true (needless unheard))
