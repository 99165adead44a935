-- What holds behind the steps of a forwarder.
use Rattle.std.proofs.Common.{ℕ, ◌<◌, List, [], refl, arith, Option, None}
use Rattle.std.proofs.lemmas.Bool.{false≢true}
use Rattle.model_h1.specs.Setting.{Setting}
use Rattle.model_h1.specs.Sums.{Step, taken, written, last_tick, since_head}
use Rattle.model_h1.specs.Laws.Exchanges.{exchanges}
use Rattle.model_proxy.specs.Edge.{Edge}
use Rattle.model_proxy.specs.Past.{ProxyStep, client_taken, client_given, servers}
use Rattle.model_proxy.specs.Past as proxy
use Rattle.model_proxy.specs.Exchange.{Exchange, pulled}
use Rattle.model_proxy.proofs.ToldFirst.{none_clean}
use Rattle.model_proxy.specs.Forwarding.{IsGivenTo, IsForwardedSoFar, IsForwarding, at_first, behind}

none_towards : (e : Edge) (k : ℕ) → k < 0 → IsGivenTo e [] None [] k
none_towards e k low = let none : ⊥ = omega (arith, low) in absurd none

pub so_far : (edge : Edge) (setting : Setting) (history : List ProxyStep) (waiting : Option (List ℕ)) (trace : List Step) (xs : List Exchange)
    → IsForwarding edge setting history waiting trace xs → IsForwardedSoFar edge setting history waiting trace xs
unfolding taken written last_tick since_head client_taken client_given servers proxy.last_tick pulled exchanges
so_far edge setting _ _ _ _ at_first = record {
  traced = tt;
  taken = refl;
  written = refl;
  moment = refl;
  ended = refl;
  undrained = refl;
  requests = refl;
  rightly = tt;
  towards = none_towards edge;
  whole = λ k. tt;
  used = λ e k f. let none : ⊥ = omega (arith, f) in absurd none;
  told = tt;
  replied = tt;
  clean = none_clean [] [];
  alone = tt;
  failed = λ e. absurd (false≢true e);
}
so_far edge setting _ _ _ _ (behind s history before trace xs waiting did ys x does go fits) = fits
