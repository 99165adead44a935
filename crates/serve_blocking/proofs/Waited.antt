-- What is done for a request, in steps that follow one another.
use Rattle.std.specs.Prelude.{◌≡◌, Bool, true, false, if◌then◌else◌, List, [], ◌∷◌, ◌++◌}
use Rattle.std.proofs.Common.{refl, sym, ap, subst, ◌∙◌, append_assoc, append-nil}
use Rattle.model_h1.specs.Event.{Event, Outcome}
use Rattle.model_h1.specs.Sums.{Step}
use Rattle.serve_blocking.specs.Served.{Line, Follows, Adds}
use Rattle.serve_blocking.specs.Acts.{is_act, act_in, acts, Doing, Does, Waits}
use Rattle.serve_blocking.proofs.Followed.{behind_then}

-- ---- acts among steps

pub acts_none : acts [] ≡ []
unfolding acts
acts_none = refl

acts_both : (xs ys : List Step) → acts (xs ++ ys) ≡ acts ys ++ acts xs
unfolding acts
acts_both [] ys = sym (append-nil (acts ys))
acts_both (s ∷ xs) ys = ap (λ (l : List Step). l ++ act_in s) (acts_both xs ys) ∙ append_assoc (acts ys) (acts xs) (act_in s)

pub acts_one : (e : Event) (o : Outcome) → is_act e o ≡ true → acts (record { event = e; outcome = o } ∷ []) ≡ record { event = e; outcome = o } ∷ []
unfolding acts
acts_one e o is = ap (λ (b : Bool). if b then record { event = e; outcome = o } ∷ [] else []) is

pub acts_skip : (e : Event) (o : Outcome) → is_act e o ≡ false → acts (record { event = e; outcome = o } ∷ []) ≡ []
unfolding acts
acts_skip e o is = ap (λ (b : Bool). if b then record { event = e; outcome = o } ∷ [] else []) is

-- ---- one after the other

pub doing_then : (P Q R : List Step → Type 0) (a b c : Line) → ((xs ys : List Step) → P xs → Q ys → R (xs ++ ys)) → Doing P a b → Doing Q b c → Doing R a c
doing_then P Q R a b c both first second = record {
  goes = λ base served.
      let x = first.goes base served in
      let y = second.goes base x.0.served in
      (behind_then base base served.trace b c x.0 y.0, subst R (sym (acts_both y.0.more x.0.more)) (both (acts x.0.more) (acts y.0.more) x.1 y.1));
  closes = second.closes ∙ first.closes;
}

pub doing_as : (P Q : List Step → Type 0) (a b : Line) → ((xs : List Step) → P xs → Q xs) → Doing P a b → Doing Q a b
doing_as P Q a b as_ doing = record {
  goes = λ base served. let x = doing.goes base served in (x.0, as_ (acts x.0.more) x.1);
  closes = doing.closes;
}

pub doing_follow : (P : List Step → Type 0) (a b : Line) → Doing P a b → Follows a b
doing_follow P a b doing = record { goes = λ base. (doing.closes, λ served. (doing.goes base served).0) }

pub does_none : (a : Line) → Does [] a a
does_none a = record { goes = λ base served. (record { more = []; served = served; longer = refl }, acts_none); closes = refl }

pub does_equal : (a b : Line) → b ≡ a → Does [] a b
does_equal a b same = subst (λ (l : Line). Does [] a l) (sym same) (does_none a)

-- the same, of what a value is seen as
pub seen_doing : (P : List Step → Type 0) (was old new : Line) → old ≡ was → Doing P old new → Doing P was new
seen_doing P was old new is doing = subst (λ (l : Line). Doing P l new) is doing

-- ---- while nothing is done

pub waits_do : (a b : Line) → Waits a b → Does [] a b
waits_do a b waits = record { goes = waits.goes; closes = waits.closes }

pub does_wait : (a b : Line) → Does [] a b → b.wanted ≡ a.wanted → Waits a b
does_wait a b does wanted = record { goes = does.goes; closes = does.closes; wanted = wanted }

pub waits_none : (a : Line) → Waits a a
waits_none a = does_wait a a (does_none a) refl

pub waits_equal : (a b : Line) → b ≡ a → Waits a b
waits_equal a b same = subst (λ (l : Line). Waits a l) (sym same) (waits_none a)

pub then_doing : (P : List Step → Type 0) (a b c : Line) → Waits a b → Doing P b c → Doing P a c
then_doing P a b c waits doing =
    doing_then (λ (l : List Step). l ≡ []) P P a b c (λ xs ys none such. subst P (sym (ap (λ (l : List Step). l ++ ys) none)) such) (waits_do a b waits) doing

pub doing_wait : (P : List Step → Type 0) (a b c : Line) → Doing P a b → Waits b c → Doing P a c
doing_wait P a b c doing waits =
    doing_then P (λ (l : List Step). l ≡ []) P a b c (λ xs ys such none. subst P (sym (ap (λ (l : List Step). xs ++ l) none ∙ append-nil xs)) such)
    doing (waits_do b c waits)

pub waits_then : (a b c : Line) → Waits a b → Waits b c → Waits a c
waits_then a b c first second = does_wait a c (then_doing (λ (l : List Step). l ≡ []) a b c first (waits_do b c second)) (second.wanted ∙ first.wanted)

pub waits_follow : (a b : Line) → Waits a b → Follows a b
waits_follow a b waits = record { goes = λ base. (waits.closes, λ served. (waits.goes base served).0) }

-- the same, of what a value is seen as
pub seen_waits : (was old new : Line) → old ≡ was → Waits old new → Waits was new
seen_waits was old new is waits = subst (λ (l : Line). Waits l new) is waits

-- ---- one event

pub adds_does : (e : Event) (o : Outcome) (a b : Line) → is_act e o ≡ true → Adds e o a b → Does (record { event = e; outcome = o } ∷ []) a b
adds_does e o a b is adds = record {
  goes = λ base served. let x = adds.goes base served in (x.0, ap acts x.1 ∙ acts_one e o is);
  closes = adds.closes;
}

pub adds_none : (e : Event) (o : Outcome) (a b : Line) → is_act e o ≡ false → Adds e o a b → Does [] a b
adds_none e o a b is adds = record {
  goes = λ base served. let x = adds.goes base served in (x.0, ap acts x.1 ∙ acts_skip e o is);
  closes = adds.closes;
}
