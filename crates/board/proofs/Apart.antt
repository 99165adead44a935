-- Connections of a table are apart.
use Rattle.std.proofs.Common.{◌≡◌, ◌≢◌, ℕ, ◌+◌, ◌<◌, ◌≤◌, List, [], ◌∷◌, ◌++◌, Bool, true, false, Some, refl, sym, ap, ◌∙◌, subst, ⊎_elim, length, get_or, arith}
use Rattle.std.specs.Prelude.{◌==◌, if◌then◌else◌}
use Rattle.std.specs.List.{slice_get, slice_set}
use Rattle.std.proofs.lemmas.Bool.{ne_eqb}
use Rattle.std.proofs.lemmas.Bool.Decides.{eqb_tells}
use Rattle.std.proofs.lemmas.List.{length-set, length-append, get_or-set_same, get_or-set_other, get_or_append_left}
use Rattle.std.proofs.Math.Seq.{get_or-append_seam}
use Rattle.std.proofs.lemmas.Option.{slice_get_within, get_or_from_slice_get, slice_get-get_or}
use Rattle.model_h1.specs.Answer.{AnswerHead, size_of}
use Rattle.model_h1.specs.Event as on
use Rattle.h1_connection.specs.State.{State, GoesOn, fresh_state, Is}
use Rattle.h1_connection.specs.EventMeaning.{SaysOutcome}
use Rattle.h1_connection.specs.declared.event.Outcome.{Outcome}
use Rattle.h1_connection.specs.declared.event.Outcome.TheVariants as out
use Rattle.board.specs.Table.{Seated, Tabled, Moves, Steps, Fails, fresh_seat}
use Rattle.board.specs.TableRuns.{Turn, stepped, opened, handled, ran_out, Turns, HandlesBy, Runs, Taken, taken, own_part, own_events, TakesIn}

-- ---- places of a list

-- what was put stands there
put_there : {X : Type 0} (xs : List X) (n : ℕ) (x : X) → n < length xs → slice_get (slice_set xs n x) n ≡ Some x
put_there xs n x within =
    slice_get-get_or (slice_set xs n x) n x (subst (λ k. n < k) (sym (length-set xs n x)) within) ∙ ap Some (get_or-set_same xs n x x within)

-- and what stands elsewhere stays
kept_there : {X : Type 0} (xs : List X) (n m : ℕ) (x y : X) → m ≢ n → slice_get xs m ≡ Some y → slice_get (slice_set xs n x) m ≡ Some y
kept_there xs n m x y other at =
    slice_get-get_or (slice_set xs n x) m y (subst (λ k. m < k) (sym (length-set xs n x)) (slice_get_within xs m y at))
    ∙ ap Some (get_or-set_other xs n m x y other ∙ get_or_from_slice_get xs m y y at)

-- what stands before one more stays
kept_before : {X : Type 0} (xs : List X) (x y : X) (m : ℕ) → slice_get xs m ≡ Some y → slice_get (xs ++ x ∷ []) m ≡ Some y
kept_before xs x y m at =
    let within : m < length xs = slice_get_within xs m y at in
    slice_get-get_or (xs ++ x ∷ []) m y (omega (arith, length-append xs (x ∷ [])))
    ∙ ap Some (get_or_append_left xs (x ∷ []) y m within ∙ get_or_from_slice_get xs m y y at)

-- and the one more stands at the end
last_there : {X : Type 0} (xs : List X) (x : X) → slice_get (xs ++ x ∷ []) (length xs) ≡ Some x
last_there xs x = slice_get-get_or (xs ++ x ∷ []) (length xs) x (omega (arith, length-append xs (x ∷ []))) ∙ ap Some (get_or-append_seam xs x [] x)

-- ---- what a connection takes in

-- some events and then others
takes_more : (owns more : List Taken) (was next now : State) → TakesIn was owns next → TakesIn next more now → TakesIn was (owns ++ more) now
takes_more [] more was next now first rest = subst (λ s. TakesIn s more now) first rest
takes_more (own ∷ owns) more was next now first rest = (first.0, first.1, first.2, takes_more owns more first.0 next now first.3 rest)

-- one event
takes_one : (was now : State) (own : Taken) → GoesOn was own.event (SaysOutcome own.outcome) now → now.settings ≡ was.settings → TakesIn was (own ∷ []) now
takes_one was now own goes settings = (now, goes, settings, refl)

-- the same either way
same_both : (b : Bool) (owns : List Taken) → (if b then owns else owns) ≡ owns
same_both true owns = refl
same_both false owns = refl

-- where this connection stands after the turns, and what it took in
abbrev pub Arrives : Tabled → ℕ → Seated → List Taken → Type 0
Arrives after id was owns = (now : Seated) × (slice_get after.seats id ≡ Some now) × TakesIn was.connection owns now.connection

-- a connection goes on, which is this one or another
moved : (Leads : Seated → Seated → Type 0) (owns : List Taken) (before next : Tabled) (n id : ℕ) (was : Seated)
    → ((a b : Seated) → Leads a b → TakesIn a.connection owns b.connection) → Moves before n Leads next → slice_get before.seats id ≡ Some was
    → Arrives next id was (if n == id then owns else [])
moved Leads owns before next n id was takes moves there =
    ⊎_elim
    (λ (same : ((n == id) ≡ true) × (n ≡ id)).
    let there' : slice_get before.seats id ≡ Some moves.was = subst (λ k. slice_get before.seats k ≡ Some moves.was) same.1 moves.there in
    let both : Some moves.was ≡ Some was = sym there' ∙ there in
    let is : moves.was ≡ was = cc in
    let put : slice_get next.seats id ≡ Some moves.now =
    ap (λ s. slice_get s id) moves.others ∙ ap (λ k. slice_get (slice_set before.seats k moves.now) id) same.1
    ∙ put_there before.seats id moves.now (slice_get_within before.seats id was there) in
    let took : TakesIn was.connection owns moves.now.connection =
    subst (λ s. TakesIn s.connection owns moves.now.connection) is (takes moves.was moves.now moves.leads) in
    subst (λ t. Arrives next id was (if t then owns else [])) (sym same.0) (moves.now, put, took))
    (λ (other : ((n == id) ≡ false) × (n ≢ id)).
    let kept : slice_get next.seats id ≡ Some was =
    ap (λ s. slice_get s id) moves.others ∙ kept_there before.seats n id moves.now was (λ same. other.1 (sym same)) there in
    subst (λ t. Arrives next id was (if t then owns else [])) (sym other.0) (was, kept, refl))
    (eqb_tells n id)

-- one turn
one_turn : (turn : Turn) (before next : Tabled) (id : ℕ) (was : Seated) → Turns before turn next → slice_get before.seats id ≡ Some was → Arrives next id was (own_part id turn)
one_turn (stepped n event outcome) before next id was does there =
    moved (Steps event outcome) (taken event outcome ∷ []) before next n id was
    (λ a b leads. takes_one a.connection b.connection (taken event outcome) leads.stands leads.settings) does.0 there
one_turn opened before next id was does there =
    (was, ap (λ s. slice_get s id) does.seats ∙ kept_before before.seats (fresh_seat before.settings before.board.passes.next) was id there, refl)
one_turn (handled n answer) before next id was does there =
    moved (HandlesBy answer before.board next.board) (taken (on.answer answer (size_of 0)) out.Done ∷ []) before next n id was
    (λ a b leads. takes_one a.connection b.connection (taken (on.answer answer (size_of 0)) out.Done)
    (subst (λ head. GoesOn a.connection (on.answer head (size_of 0)) (Is on.done) b.connection) leads.1 leads.0.answers) leads.0.settings) does there
one_turn (ran_out n) before next id was does there =
    subst (λ owns. Arrives next id was owns) (same_both (n == id) [])
    (moved (Fails before.board next.board) [] before next n id was (λ a b leads. leads.connection) does there)

-- all turns, of a connection that is there before
pub apart : (turns : List Turn) (before after : Tabled) (id : ℕ) (was : Seated) → Runs before turns after → slice_get before.seats id ≡ Some was → Arrives after id was (own_events id turns)
apart [] before after id was run there = (was, ap (λ t. slice_get t.seats id) run ∙ there, refl)
apart (turn ∷ turns) before after id was run there =
    let first = one_turn turn before run.0 id was run.1 there in
    let rest = apart turns run.0 after id first.0 run.2 first.1 in
    (rest.0, rest.1, takes_more (own_part id turn) (own_events id turns) was.connection first.0.connection rest.0.connection first.2 rest.2)

-- ---- a connection that is opened on the way

-- a turn of a connection that is there: it is none of this one, which isn't yet
moved_before : (Leads : Seated → Seated → Type 0) (before next : Tabled) (n id : ℕ) → Moves before n Leads next → length before.seats ≤ id
    → ((n == id) ≡ false) × (length next.seats ≤ id) × (next.settings ≡ before.settings)
moved_before Leads before next n id moves past =
    let within : n < length before.seats = slice_get_within before.seats n moves.was moves.there in
    let other : n ≢ id = λ same. absurd (omega (arith, same)) in
    let as_many : length next.seats ≡ length before.seats = ap length moves.others ∙ length-set before.seats n moves.now in
    (ne_eqb n id other, subst (λ k. k ≤ id) (sym as_many) past, moves.settings)

-- where a connection that is opened on the way stands
abbrev Comes : List Turn → Tabled → Tabled → ℕ → Seated → Type 0
Comes turns before after id now = Runs before turns after → length before.seats ≤ id → slice_get after.seats id ≡ Some now
    → TakesIn (fresh_state before.settings) (own_events id turns) now.connection

-- a turn of another one
comes_later : (turn : Turn) (turns : List Turn) (before next after : Tabled) (id : ℕ) (now : Seated) → own_part id turn ≡ [] → next.settings ≡ before.settings
    → TakesIn (fresh_state next.settings) (own_events id turns) now.connection → TakesIn (fresh_state before.settings) (own_events id (turn ∷ turns)) now.connection
comes_later turn turns before next after id now none settings rest =
    subst (λ owns. TakesIn (fresh_state before.settings) (owns ++ own_events id turns) now.connection) (sym none)
    (subst (λ s. TakesIn (fresh_state s) (own_events id turns) now.connection) settings rest)

pub comes : (turns : List Turn) (before after : Tabled) (id : ℕ) (now : Seated) → Comes turns before after id now
comes [] before after id now run past there =
    let within : id < length before.seats = slice_get_within before.seats id now (ap (λ t. slice_get t.seats id) (sym run) ∙ there) in
    absurd (omega arith)
comes (stepped n event outcome ∷ turns) before after id now run past there =
    let m = moved_before (Steps event outcome) before run.0 n id run.1.0 past in
    comes_later (stepped n event outcome) turns before run.0 after id now (ap (λ b. if b then taken event outcome ∷ [] else []) m.0) m.2
    (comes turns run.0 after id now run.2 m.1 there)
comes (handled n answer ∷ turns) before after id now run past there =
    let m = moved_before (HandlesBy answer before.board run.0.board) before run.0 n id run.1 past in
    comes_later (handled n answer) turns before run.0 after id now (ap (λ b. if b then taken (on.answer answer (size_of 0)) out.Done ∷ [] else []) m.0) m.2
    (comes turns run.0 after id now run.2 m.1 there)
comes (ran_out n ∷ turns) before after id now run past there =
    let m = moved_before (Fails before.board run.0.board) before run.0 n id run.1 past in
    comes_later (ran_out n) turns before run.0 after id now refl m.2 (comes turns run.0 after id now run.2 m.1 there)
comes (opened ∷ turns) before after id now run past there =
    let next = run.0 in
    let new = fresh_seat before.settings before.board.passes.next in
    let opens = run.1 in
    ⊎_elim
    (λ (same : ((id == length before.seats) ≡ true) × (id ≡ length before.seats)).
    let put : slice_get next.seats id ≡ Some new = ap (λ s. slice_get s id) opens.seats ∙ ap (λ k. slice_get (before.seats ++ new ∷ []) k) same.1 ∙ last_there before.seats new in
    let it = apart turns next after id new run.2 put in
    let both : Some it.0 ≡ Some now = sym it.1 ∙ there in
    let is : it.0 ≡ now = cc in
    subst (λ s. TakesIn new.connection (own_events id turns) s.connection) is it.2)
    (λ (other : ((id == length before.seats) ≡ false) × (id ≢ length before.seats)).
    let past' : length next.seats ≤ id = omega (arith, ap length opens.seats, length-append before.seats (new ∷ []), other.1) in
    comes_later opened turns before next after id now refl opens.settings (comes turns next after id now run.2 past' there))
    (eqb_tells id (length before.seats))
