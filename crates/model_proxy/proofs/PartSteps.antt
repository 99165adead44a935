-- What the steps of a client's connection bring, by the parts of replies and requests that they are.
use Rattle.std.proofs.Common.{◌≡◌, ◌⊎◌, false, List, [], ◌∷◌, ◌++◌, Option, Some, None, refl, sym, ap, ◌∙◌, subst, append_assoc, inl, inr}
use Rattle.std.specs.List.{AllByRecursion}
use Rattle.model_h1.specs.Setting.{Setting}
use Rattle.model_h1.specs.Event as on
use Rattle.model_h1.specs.Sums as sums
use Rattle.model_h1.specs.Sums.{Step}
use Rattle.model_h1.specs.Trace.{IsTrace}
use Rattle.model_proxy.specs.Exchange.{pulled}
use Rattle.model_proxy.specs.Moves.{after_outcome, HasBrought}
use Rattle.model_proxy.specs.Parts.{Part, begins, continues, ends, breaks_off, goes_on, hands, takes, takes_end, request_breaks, leaves_rest, has_closed, other_event, parts_told, parts_by, parts_of}
use Rattle.model_proxy.proofs.Quiet.{brought, BringsNothing, nothing_more, pending_brings_nothing}
use Rattle.model_proxy.proofs.SilentSteps.{IsSilent}

-- ---- steps one after another

-- nothing of a request was brought
abbrev pub BroughtNone : List Step → List Step → Type 0
BroughtNone old new = HasBrought on.pending old new

pub same_pulled : (old new : List Step) → BroughtNone old new → pulled new ≡ pulled old
same_pulled old new x = x.pulled ∙ nothing_more on.pending pending_brings_nothing (pulled old)

pub none_at_all : (trace : List Step) → BroughtNone trace trace
none_at_all trace =
    record { taken = refl; written = refl; moment = refl; ended = refl; pulled = sym (nothing_more on.pending pending_brings_nothing (pulled trace)) }

brought_then : (o : on.Outcome) (a b c : List Step) → HasBrought o a b → BroughtNone b c → HasBrought o a c
brought_then o a b c x y = record {
  taken = y.taken ∙ x.taken;
  written = y.written ∙ x.written;
  moment = y.moment ∙ x.moment;
  ended = y.ended ∙ x.ended;
  pulled = same_pulled b c y ∙ x.pulled;
}

then_brought : (o : on.Outcome) (a b c : List Step) → BroughtNone a b → HasBrought o b c → HasBrought o a c
then_brought o a b c x y = record {
  taken = y.taken ∙ x.taken;
  written = y.written ∙ x.written;
  moment = y.moment ∙ x.moment;
  ended = y.ended ∙ x.ended;
  pulled = y.pulled ∙ ap (after_outcome o) (same_pulled a b x);
}

-- an outcome that brings nothing
brings_none : (o : on.Outcome) (a b : List Step) → BringsNothing o → HasBrought o a b → BroughtNone a b
brings_none o a b none x = record {
  taken = x.taken;
  written = x.written;
  moment = x.moment;
  ended = x.ended;
  pulled = x.pulled ∙ nothing_more o none (pulled a) ∙ sym (nothing_more on.pending pending_brings_nothing (pulled a));
}

-- ---- one step

-- it puts nothing of a reply, and brings this of a request
pub record BringsSo (o : on.Outcome) (s : Step) (before : List Step) : Type 0 where
  pub silent : IsSilent s
  pub brought : HasBrought o before (s ∷ before)

some_part : (part : Part) → part ∷ [] ≡ [] → ⊥
some_part part e = cc e

pub nothing_told : (event : on.Event) (o : on.Outcome) (before : List Step) → sums.step_taken event o ≡ [] → sums.step_written o ≡ [] → sums.tick_of event ≡ None
    → sums.is_eof event ≡ false → IsSilent (record { event = event; outcome = o }) → BringsNothing o
    → BringsSo on.pending (record { event = event; outcome = o }) before
nothing_told event o before took gave tick going silent none =
    record { silent = silent; brought = brings_none o before (record { event = event; outcome = o } ∷ before) none (brought event o before took gave tick going) }

-- asked for the next head, or for more of a body
abbrev OnBoth : on.Outcome → on.Outcome → List Step → Type 0
OnBoth brings o before = BringsSo brings (record { event = on.next; outcome = o }) before × BringsSo brings (record { event = on.pull; outcome = o }) before

both_told : (o : on.Outcome) (before : List Step) → sums.step_written o ≡ [] → BringsNothing o → OnBoth on.pending o before
both_told o before gave none = (
  nothing_told on.next o before refl gave refl refl (record { event = refl; headless = none.head }) none,
  nothing_told on.pull o before refl gave refl refl (record { event = refl; headless = none.head }) none,
)

both_bring : (o : on.Outcome) (before : List Step) → sums.step_written o ≡ [] → sums.head_of o ≡ None → OnBoth o o before
both_bring o before gave headless = (
  record { silent = record { event = refl; headless = headless }; brought = brought on.next o before refl gave refl refl },
  record { silent = record { event = refl; headless = headless }; brought = brought on.pull o before refl gave refl refl },
)

told_none : (o : on.Outcome) (before : List Step) → parts_told o ≡ [] → OnBoth on.pending o before
told_none (on.head h) before e = absurd (some_part _ e)
told_none (on.bytes bytes) before e = absurd (some_part _ e)
told_none on.body_ended before e = absurd (some_part _ e)
told_none (on.broken_by fault) before e = absurd (some_part _ e)
told_none (on.closed end) before e = absurd (some_part _ e)
told_none (on.took n) before e = absurd (some_part _ e)
told_none (on.gave bytes) before e = absurd (some_part _ e)
told_none (on.trailers lines) before e = both_told (on.trailers lines) before refl (record { head = refl; more = λ p. refl })
told_none (on.frame f) before e = both_told (on.frame f) before refl (record { head = refl; more = λ p. refl })
told_none on.pending before e = both_told on.pending before refl (record { head = refl; more = λ p. refl })
told_none (on.fault f) before e = both_told (on.fault f) before refl (record { head = refl; more = λ p. refl })
told_none (on.protocol error) before e = both_told (on.protocol error) before refl (record { head = refl; more = λ p. refl })
told_none (on.refused error) before e = both_told (on.refused error) before refl (record { head = refl; more = λ p. refl })
told_none (on.expired end) before e = both_told (on.expired end) before refl (record { head = refl; more = λ p. refl })
told_none on.abandoned before e = both_told on.abandoned before refl (record { head = refl; more = λ p. refl })
told_none on.done before e = both_told on.done before refl (record { head = refl; more = λ p. refl })

-- a part that its outcome tells
abbrev pub told_by : Part → Option on.Outcome
told_by (takes bytes) = Some (on.bytes bytes)
told_by takes_end = Some on.body_ended
told_by (request_breaks fault) = Some (on.broken_by fault)
told_by part = None

other_part : (p q : Part) (o : on.Outcome) → p ∷ [] ≡ q ∷ [] → told_by p ≡ None → told_by q ≡ Some o → ⊥
other_part p q o e none some =
    let same : p ≡ q = cc e in
    let no : ◌≡◌ {A = Option on.Outcome} None (Some o) = sym none ∙ ap told_by same ∙ some in
    cc no

same_told : (p q : Part) (a o : on.Outcome) → p ∷ [] ≡ q ∷ [] → told_by p ≡ Some a → told_by q ≡ Some o → a ≡ o
same_told p q a o e first second =
    let same : p ≡ q = cc e in
    let both : Some a ≡ Some o = sym first ∙ ap told_by same ∙ second in
    let is : a ≡ o = cc both in
    is

pub never_none : (q : Part) → [] ≡ q ∷ [] → ⊥
never_none q e = cc e

never_some : (q : Part) (l : List Part) → [] ≡ q ∷ l → ⊥
never_some q l e = cc e

alone : (p q : Part) (l : List Part) → p ∷ [] ≡ q ∷ l → l ≡ []
alone p q l e =
    let whole : p ∷ [] ≡ q ∷ l = e in
    let none : [] ≡ l = cc in
    sym none

told_so : (a : on.Outcome) (q : Part) (o : on.Outcome) → parts_told a ≡ q ∷ [] → told_by q ≡ Some o → a ≡ o
told_so (on.bytes bytes) q o e told = same_told (takes bytes) q (on.bytes bytes) o e refl told
told_so on.body_ended q o e told = same_told takes_end q on.body_ended o e refl told
told_so (on.broken_by fault) q o e told = same_told (request_breaks fault) q (on.broken_by fault) o e refl told
told_so (on.head h) q o e told = absurd (other_part (hands h) q o e refl told)
told_so (on.closed end) q o e told = absurd (other_part has_closed q o e refl told)
told_so (on.took n) q o e told = absurd (other_part other_event q o e refl told)
told_so (on.gave bytes) q o e told = absurd (other_part other_event q o e refl told)
told_so (on.trailers lines) q o e told = absurd (never_none q e)
told_so (on.frame f) q o e told = absurd (never_none q e)
told_so on.pending q o e told = absurd (never_none q e)
told_so (on.fault f) q o e told = absurd (never_none q e)
told_so (on.protocol error) q o e told = absurd (never_none q e)
told_so (on.refused error) q o e told = absurd (never_none q e)
told_so (on.expired end) q o e told = absurd (never_none q e)
told_so on.abandoned q o e told = absurd (never_none q e)
told_so on.done q o e told = absurd (never_none q e)

-- which step it was
record AsksFor (event : on.Event) (a o : on.Outcome) : Type 0 where
  which : (event ≡ on.next) ⊎ (event ≡ on.pull)
  out : a ≡ o

asks_for : (event : on.Event) (a : on.Outcome) (q : Part) (o : on.Outcome) → parts_by event a ≡ q ∷ [] → told_by q ≡ Some o → AsksFor event a o
asks_for on.next a q o e told = record { which = inl refl; out = told_so a q o e told }
asks_for on.pull a q o e told = record { which = inr refl; out = told_so a q o e told }
asks_for (on.answer head size) a q o e told = absurd (other_part (begins (record { head = head; size = size })) q o e refl told)
asks_for (on.chunk bytes) a q o e told = absurd (other_part (continues bytes) q o e refl told)
asks_for on.body_end a q o e told = absurd (other_part ends q o e refl told)
asks_for on.body_error a q o e told = absurd (other_part breaks_off q o e refl told)
asks_for on.drop_body a q o e told = absurd (other_part leaves_rest q o e refl told)
asks_for on.send_continue a q o e told = absurd (other_part goes_on q o e refl told)
asks_for (on.read bytes) a q o e told = absurd (other_part other_event q o e refl told)
asks_for on.eof a q o e told = absurd (other_part other_event q o e refl told)
asks_for (on.write n) a q o e told = absurd (other_part other_event q o e refl told)
asks_for (on.tick ms) a q o e told = absurd (other_part other_event q o e refl told)
asks_for on.drain a q o e told = absurd (other_part other_event q o e refl told)
asks_for (on.accept limit) a q o e told = absurd (other_part other_event q o e refl told)
asks_for (on.send m) a q o e told = absurd (other_part other_event q o e refl told)

pub out_of : (event : on.Event) (a : on.Outcome) (q : Part) (o : on.Outcome) → parts_by event a ≡ q ∷ [] → told_by q ≡ Some o → a ≡ o
out_of event a q o e told = (asks_for event a q o e told).out

no_outcome : (o : on.Outcome) → ◌≡◌ {A = Option on.Outcome} None (Some o) → ⊥
no_outcome o is = cc is

bring_as : (a o : on.Outcome) (before : List Step) → sums.step_written a ≡ [] → sums.head_of a ≡ None → Some a ≡ Some o → OnBoth o o before
bring_as a o before gave headless is =
    let same : a ≡ o = cc is in
    subst (λ (b : on.Outcome). OnBoth b b before) same (both_bring a before gave headless)

bring_by : (q : Part) (o : on.Outcome) (before : List Step) → told_by q ≡ Some o → OnBoth o o before
bring_by (takes bytes) o before is = bring_as (on.bytes bytes) o before refl refl is
bring_by takes_end o before is = bring_as on.body_ended o before refl refl is
bring_by (request_breaks fault) o before is = bring_as (on.broken_by fault) o before refl refl is
bring_by (begins put) o before is = absurd (no_outcome o is)
bring_by (continues bytes) o before is = absurd (no_outcome o is)
bring_by ends o before is = absurd (no_outcome o is)
bring_by breaks_off o before is = absurd (no_outcome o is)
bring_by goes_on o before is = absurd (no_outcome o is)
bring_by (hands h) o before is = absurd (no_outcome o is)
bring_by leaves_rest o before is = absurd (no_outcome o is)
bring_by has_closed o before is = absurd (no_outcome o is)
bring_by other_event o before is = absurd (no_outcome o is)

-- no part
pub none_by : (event : on.Event) (o : on.Outcome) (before : List Step) → parts_by event o ≡ [] → BringsSo on.pending (record { event = event; outcome = o }) before
none_by on.next o before e = (told_none o before e).0
none_by on.pull o before e = (told_none o before e).1
none_by (on.answer head size) o before e = absurd (some_part _ e)
none_by (on.chunk bytes) o before e = absurd (some_part _ e)
none_by on.body_end o before e = absurd (some_part _ e)
none_by on.body_error o before e = absurd (some_part _ e)
none_by on.drop_body o before e = absurd (some_part _ e)
none_by on.send_continue o before e = absurd (some_part _ e)
none_by (on.read bytes) o before e = absurd (some_part _ e)
none_by on.eof o before e = absurd (some_part _ e)
none_by (on.write n) o before e = absurd (some_part _ e)
none_by (on.tick ms) o before e = absurd (some_part _ e)
none_by on.drain o before e = absurd (some_part _ e)
none_by (on.accept limit) o before e = absurd (some_part _ e)
none_by (on.send m) o before e = absurd (some_part _ e)

-- bytes of a body, its end, or its fault
pub one_by : (event : on.Event) (a : on.Outcome) (q : Part) (o : on.Outcome) (before : List Step) → parts_by event a ≡ q ∷ [] → told_by q ≡ Some o
    → BringsSo o (record { event = event; outcome = a }) before
one_by event a q o before e told =
    let x = asks_for event a q o e told in
    let both = bring_by q o before told in
    subst (λ (b : on.Outcome). BringsSo o (record { event = event; outcome = b }) before) (sym x.out) (by_event event x.which both)
  where
    by_event : (e : on.Event) → (e ≡ on.next) ⊎ (e ≡ on.pull) → OnBoth o o before → BringsSo o (record { event = e; outcome = o }) before
    by_event e (inl is) both = subst (λ (f : on.Event). BringsSo o (record { event = f; outcome = o }) before) (sym is) both.0
    by_event e (inr is) both = subst (λ (f : on.Event). BringsSo o (record { event = f; outcome = o }) before) (sym is) both.1

-- ---- all steps

-- they put nothing of a reply, and bring this of a request
pub record AllBring (o : on.Outcome) (more before : List Step) : Type 0 where
  pub silent : AllByRecursion IsSilent more
  pub brought : HasBrought o before (more ++ before)

back_empty : (l m : List Part) → l ++ m ≡ [] → (l ≡ []) × (m ≡ [])
back_empty [] m e = (refl, e)
back_empty (p ∷ l) m e = let no : p ∷ (l ++ m) ≡ [] = e in absurd (cc no)

pub none_of : (more before : List Step) → parts_of more ≡ [] → AllBring on.pending more before
unfolding parts_of
none_of [] before e = record { silent = tt; brought = none_at_all before }
none_of (s ∷ more) before e =
    let both = back_empty (parts_by s.event s.outcome) (parts_of more) e in
    let earlier = none_of more before both.1 in
    let one = none_by s.event s.outcome (more ++ before) both.0 in
    record {
      silent = (one.silent, earlier.silent);
      brought = then_brought on.pending before (more ++ before) (s ∷ (more ++ before)) earlier.brought one.brought;
    }

-- a step is one part at most
told_single : (o : on.Outcome) (p : Part) (l : List Part) → parts_told o ≡ p ∷ l → l ≡ []
told_single (on.head h) p l e = alone (hands h) p l e
told_single (on.bytes bytes) p l e = alone (takes bytes) p l e
told_single on.body_ended p l e = alone takes_end p l e
told_single (on.broken_by fault) p l e = alone (request_breaks fault) p l e
told_single (on.closed end) p l e = alone has_closed p l e
told_single (on.took n) p l e = alone other_event p l e
told_single (on.gave bytes) p l e = alone other_event p l e
told_single (on.trailers lines) p l e = absurd (never_some p l e)
told_single (on.frame f) p l e = absurd (never_some p l e)
told_single on.pending p l e = absurd (never_some p l e)
told_single (on.fault f) p l e = absurd (never_some p l e)
told_single (on.protocol error) p l e = absurd (never_some p l e)
told_single (on.refused error) p l e = absurd (never_some p l e)
told_single (on.expired end) p l e = absurd (never_some p l e)
told_single on.abandoned p l e = absurd (never_some p l e)
told_single on.done p l e = absurd (never_some p l e)

single : (event : on.Event) (o : on.Outcome) (p : Part) (l : List Part) → parts_by event o ≡ p ∷ l → l ≡ []
single on.next o p l e = told_single o p l e
single on.pull o p l e = told_single o p l e
single (on.answer head size) o p l e = alone (begins (record { head = head; size = size })) p l e
single (on.chunk bytes) o p l e = alone (continues bytes) p l e
single on.body_end o p l e = alone ends p l e
single on.body_error o p l e = alone breaks_off p l e
single on.drop_body o p l e = alone leaves_rest p l e
single on.send_continue o p l e = alone goes_on p l e
single (on.read bytes) o p l e = alone other_event p l e
single on.eof o p l e = alone other_event p l e
single (on.write n) o p l e = alone other_event p l e
single (on.tick ms) o p l e = alone other_event p l e
single on.drain o p l e = alone other_event p l e
single (on.accept limit) o p l e = alone other_event p l e
single (on.send m) o p l e = alone other_event p l e

-- among them is one that is this part; those before it are these, and those behind it none
pub record PutsOne (q : Part) (rest : List Part) (more : List Step) : Type 0 where
  pub after : List Step
  pub step : Step
  pub first : List Step
  pub are : more ≡ after ++ step ∷ first
  pub one : parts_by step.event step.outcome ≡ q ∷ []
  pub afterwards : parts_of after ≡ []
  pub earlier : parts_of first ≡ rest

parts_more : (s : Step) (more : List Step) → parts_of (s ∷ more) ≡ parts_by s.event s.outcome ++ parts_of more
unfolding parts_of
parts_more s more = refl

parts_none : parts_of [] ≡ []
unfolding parts_of
parts_none = refl

pub puts_one : (q : Part) (rest : List Part) (more : List Step) → parts_of more ≡ q ∷ rest → PutsOne q rest more
puts_one q rest [] e = absurd (never_some q rest (sym parts_none ∙ e))
puts_one q rest (s ∷ more) e = by_parts (parts_by s.event s.outcome) refl (sym (parts_more s more) ∙ e) (λ all. puts_one q rest more all)
  where
    by_parts : (l : List Part) → parts_by s.event s.outcome ≡ l → l ++ parts_of more ≡ q ∷ rest → (parts_of more ≡ q ∷ rest → PutsOne q rest more)
        → PutsOne q rest (s ∷ more)
    by_parts [] is all further =
        let x = further all in
        record {
          after = s ∷ x.after;
          step = x.step;
          first = x.first;
          are = ap (λ (l : List Step). s ∷ l) x.are;
          one = x.one;
          afterwards = parts_more s x.after ∙ ap (λ (l : List Part). l ++ parts_of x.after) is ∙ x.afterwards;
          earlier = x.earlier;
        }
    by_parts (p ∷ l) is all further =
        let none = single s.event s.outcome p l is in
        let whole : p ∷ (l ++ parts_of more) ≡ q ∷ rest = all in
        let same : p ≡ q = cc in
        let others : l ++ parts_of more ≡ rest = cc in
        record {
          after = [];
          step = s;
          first = more;
          are = refl;
          one = is ∙ ap (λ (r : Part). r ∷ l) same ∙ ap (λ (m : List Part). q ∷ m) none;
          afterwards = parts_none;
          earlier = sym (ap (λ (m : List Part). m ++ parts_of more) none) ∙ others;
        }

silent_then : (after first : List Step) (s : Step) → AllByRecursion IsSilent after → IsSilent s → AllByRecursion IsSilent first → AllByRecursion IsSilent (after ++ s ∷ first)
silent_then [] first s x here y = (here, y)
silent_then (a ∷ after) first s x here y = (x.0, silent_then after first s x.1 here y)

-- so all of them bring what that one does
pub brings_one : (q : Part) (more before : List Step) (o : on.Outcome) → (x : PutsOne q [] more) → BringsSo o x.step (x.first ++ before) → AllBring o more before
brings_one q more before o x one =
    let first = none_of x.first before x.earlier in
    let after = none_of x.after (x.step ∷ (x.first ++ before)) x.afterwards in
    let all : x.after ++ (x.step ∷ (x.first ++ before)) ≡ more ++ before =
    sym (ap (λ (m : List Step). m ++ before) x.are ∙ append_assoc x.after (x.step ∷ x.first) before) in
    record {
      silent = subst (AllByRecursion IsSilent) (sym x.are) (silent_then x.after x.first x.step after.silent one.silent first.silent);
      brought = subst (HasBrought o before) all
          (brought_then o before (x.step ∷ (x.first ++ before)) (x.after ++ (x.step ∷ (x.first ++ before)))
          (then_brought o before (x.first ++ before) (x.step ∷ (x.first ++ before)) first.brought one.brought) after.brought);
    }

pub one_of : (more before : List Step) (q : Part) (o : on.Outcome) → told_by q ≡ Some o → parts_of more ≡ q ∷ [] → AllBring o more before
one_of more before q o told e =
    let x = puts_one q [] more e in
    brings_one q more before o x (one_by x.step.event x.step.outcome q o (x.first ++ before) x.one told)

-- a part of a later trace
pub part_traced : (setting : Setting) (more before : List Step) → IsTrace setting (more ++ before) → IsTrace setting before
part_traced setting [] before traced = traced
part_traced setting (s ∷ more) before traced = part_traced setting more before traced.2
