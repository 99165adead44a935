-- A payload of any kind.
use Rattle.std.specs.Prelude.{◌≡◌, None}
use Rattle.futures.specs.declared.task.Poll.TheVariants.{Ready}
use Rattle.http_services.specs.declared.payload.Payload.{Payload}
use Rattle.http_services.specs.declared.payload.Payload.TheVariants as kind
use Rattle.http_services.specs.Queue.{Pull, PullSays}
use Rattle.http_services.specs.Feeding.{Feeding, FeedSays}

-- it gives what it holds gives
abbrev pub Gives : {S : Type 0} → (S → Feeding) → Payload S → Payload S → Pull → Type 0
Gives feeds kind.None kind.None result = result ≡ Ready None
Gives feeds kind.None (kind.H1 new) result = ⊥
Gives feeds kind.None (kind.Stream new) result = ⊥
Gives feeds (kind.H1 old) (kind.H1 new) result = PullSays old new result
Gives feeds (kind.H1 old) kind.None result = ⊥
Gives feeds (kind.H1 old) (kind.Stream new) result = ⊥
Gives feeds (kind.Stream old) (kind.Stream new) result = FeedSays (feeds old) (feeds new) result
Gives feeds (kind.Stream old) kind.None result = ⊥
Gives feeds (kind.Stream old) (kind.H1 new) result = ⊥
