-- A connection to which nothing came is served behind no trace.
use Rattle.std.specs.Prelude.{◌≡◌, ℕ, Bool, true, false, List, [], Option}
use Rattle.std.specs.Io.KnownBytes.{Consumes, Appends}
use Rattle.std.proofs.Common.{refl, sym, subst}
use Rattle.model_h1.specs.Sums.{taken, written}
use Rattle.model_state.proofs.Stands.{fresh_stands}
use Rattle.h1_connection.specs.EventMeaning.{setting_of}
use Rattle.h1_connection.specs.State.{State, Stands, fresh_state}
use Rattle.serve_blocking.specs.Served.{IsServed, heads, is_given}
use Rattle.serve_blocking.proofs.ServedLemmas.{same_left, same_given}

taken_none : taken [] ≡ []
unfolding taken
taken_none = refl

written_none : written [] ≡ []
unfolding written
written_none = refl

heads_none : heads [] ≡ []
unfolding heads
heads_none = refl

given_none : is_given [] ≡ true
unfolding is_given
given_none = refl

pub begins : (state : State) (like : State) (left given : Option (List ℕ)) (judges : Bool) → state ≡ fresh_state like.settings
    → IsServed (record { left = left; given = given; judges = judges; handed = [] })
    (record { state = state; left = left; given = given; judges = judges; ended = true; wanted = false; closes = false })
begins state like left given judges is = record {
  trace = [];
  stands = subst (λ (s : State). Stands s []) (sym is) (fresh_stands (setting_of like.settings));
  came = subst (λ (l : List ℕ). Consumes left left l) (sym taken_none) (same_left left);
  went = subst (λ (l : List ℕ). Appends given given l) (sym written_none) (same_given given);
  handed = heads_none;
  judges = refl;
  ended = sym given_none;
  at_end = λ is. absurd (cc is);
}
