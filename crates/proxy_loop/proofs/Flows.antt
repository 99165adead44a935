-- Bytes between sockets and a forwarder, one call after another.
use Rattle.std.proofs.Common.{◌≡◌, ℕ, ◌≤◌, Bool, true, false, List, length, min, Option, None, refl, sym, ◌∙◌, arith}
use Rattle.std.proofs.Math.Nat.{min-eq_left}
use Rattle.std.proofs.lemmas.Bool.{false≢true}
use Rattle.std.specs.Io.KnownBytes.{Consumes}
use Rattle.http_config.specs.Causes.{counted}
use Rattle.model_proxy.specs.Past.{ProxyEvent, took}
use Rattle.proxy.specs.declared.proxy.Proxy.{Proxy}
use Rattle.proxy_loop.specs.Flow.{TakesIn, HasWriteCause}
use Rattle.proxy_loop.specs.History.{ForwarderDoes}
use Rattle.proxy_loop.specs.declared.flow.TakenIn.TheVariants as came

-- all that came was taken, since there was room for it
pub took_all : (event : List ℕ → ProxyEvent) (n m piece room : ℕ) (old new : Proxy) (left rest : Option (List ℕ)) (bytes : List ℕ) → length bytes ≡ n → n ≤ piece
    → piece ≤ room → m ≡ min (length bytes) room → Consumes left rest bytes → ForwarderDoes (event bytes) (took m) old new → TakesIn event old left rest (came.Bytes m) new
took_all event n m piece room old new left rest bytes size few fits taken consumes goes =
    (bytes, sym (taken ∙ min-eq_left (omega (arith, size, few, fits))), (consumes, goes))

-- nothing might be written, or the sink failed
pub not_allowed : (allowed : Bool) (faults : ℕ) → allowed ≡ false → HasWriteCause allowed faults faults None
not_allowed false faults is = refl
not_allowed true faults is = absurd (false≢true (sym is))

pub has_failed : (allowed : Bool) (before now : ℕ) → allowed ≡ true → now ≡ counted before → HasWriteCause allowed before now None
has_failed true before now is faults = faults
has_failed false before now is faults = absurd (false≢true is)
