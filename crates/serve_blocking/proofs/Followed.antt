-- What is served goes on twice.
use Rattle.std.specs.Prelude.{◌≡◌, List, [], ◌++◌}
use Rattle.std.proofs.Common.{refl, sym, ap, subst, ◌∙◌, append_assoc}
use Rattle.model_h1.specs.Event.{Event, Outcome}
use Rattle.model_h1.specs.Sums.{Step}
use Rattle.serve_blocking.specs.Served.{Line, Base, IsServedBehind, Follows, Adds}

abbrev pub behind_then : (base next : Base) (before : List Step) (a b : Line) (x : IsServedBehind base before a) → IsServedBehind next x.served.trace b
    → IsServedBehind next before b
behind_then base next before a b x y = record {
  more = y.more ++ x.more;
  served = y.served;
  longer = y.longer ∙ ap (λ (l : List Step). y.more ++ l) x.longer ∙ sym (append_assoc y.more x.more before);
}

-- nothing has happened
pub follows_none : (a : Line) → Follows a a
follows_none a = record { goes = λ base. (refl, λ served. record { more = []; served = served; longer = refl }) }

pub follows_equal : (a b : Line) → b ≡ a → Follows a b
follows_equal a b same = subst (λ (l : Line). Follows a l) (sym same) (follows_none a)

pub follows_then : (a b c : Line) → Follows a b → Follows b c → Follows a c
follows_then a b c first second = record {
  goes = λ base. (
    (second.goes base).0 ∙ (first.goes base).0,
    λ served. let x = (first.goes base).1 served in behind_then base base served.trace b c x ((second.goes base).1 x.served),
  );
}

pub adds_follow : (e : Event) (o : Outcome) (a b : Line) → Adds e o a b → Follows a b
adds_follow e o a b adds = record { goes = λ base. (adds.closes, λ served. (adds.goes base served).0) }
