-- What is known of connections that an acceptor gave, and that were served.
use Rattle.std.specs.Prelude.{◌≡◌, ◌≤◌, ◌⊎◌, ℕ, zero, suc, Bool, true, false, Option, List, length, IsTrue, Result}
use Rattle.std.specs.List.{AllZip}
use Rattle.http_config.specs.Causes.{Rose, counted}
use Rattle.http_config.specs.Config.{Settings}
use Rattle.http_transport.specs.Opening.{Opening, IsFresh}
use Rattle.http_transport.specs.Peer.{PeerAddress}
use Rattle.http_transport.specs.Wiring.{Wiring}
use Rattle.h1_connection.specs.Steps.{Pair}
use Rattle.board.specs.Views.{Held}
use Rattle.board_server.specs.Serves.{begun_view, HasServed}
use Rattle.board_server.specs.Told.{IsTold}
use Rattle.board_server.specs.declared.error.ServeError.{ServeError}
use Rattle.board_server.specs.declared.visit.Visit.{Visit}

-- A connection was served with these settings and as many polls at most, at moments that the clock may give, from a new
-- transport on that moved no byte, with a pass that had no entry and a recorder that had noted nothing: how that went, and what
-- it came to.
pub record WasServed (settings : Settings) (polls : ℕ) (may_give : ℕ → Bool) (now : Wiring) (noted : Option (List Pair)) (pass : Held) (end : Result Unit ServeError) : Type 0 where
  pub was : Wiring
  pub fresh : IsFresh was
  pub peer : PeerAddress
  pub number : ℕ
  pub recorded : Option (List Pair)
  pub listens : Bool
  pub served : HasServed (begun_view was peer number settings recorded listens) polls may_give now noted pass end
  pub told : IsTold settings was now peer noted pass end

-- a count after so many more
abbrev pub counted_on : ℕ → ℕ → ℕ
counted_on zero count = count
counted_on (suc more) count = counted (counted_on more count)

-- The acceptor gave so many connections, and then it failed; or it answered that none follows, or as many passes as this were left.
pub record IsTaken (was now : Opening) (served left : ℕ) (has_failed : Bool) : Type 0 where
  pub given : now.given ≡ counted_on served was.given
  pub never_falls : was.faults ≤ now.faults
  pub failed : has_failed ≡ true → Rose was.faults now.faults
  pub ended : has_failed ≡ false → IsTrue now.ended ⊎ (left ≡ 0)

-- a visit is told of this pass
pub record Matches {W L : Type 0} (settings : Settings) (polls : ℕ) (may_give : ℕ → Bool) (wiring : W → Wiring) (noted : L → Option (List Pair)) (visit : Visit W L) (pass : Held) : Type 0 where
  pub number : visit.number ≡ pass.number
  pub calls : visit.calls ≡ length pass.entries
  pub served : WasServed settings polls may_give (wiring visit.transport) (noted visit.recorder) pass visit.end

-- each visit is told of the pass at its place
abbrev pub AreMatched : {W L : Type 0} → Settings → ℕ → (ℕ → Bool) → (W → Wiring) → (L → Option (List Pair)) → List (Visit W L) → List Held → Type 0
AreMatched settings polls may_give wiring noted visits passes = AllZip (Matches settings polls may_give wiring noted) visits passes
