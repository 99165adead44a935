-- Why a part of an answer wasn't taken.
use Rattle.std.specs.Prelude.{◌≡◌, ◌≤◌, ◌-◌, ℕ, true, false, length, Result, Ok, Err, IfErr, IsOk}
use Rattle.std.proofs.Common.{arith, subst, sym}
use Rattle.model_h1.specs.Event as on
use Rattle.h1_connection.specs.Ticks.{expiry_of}
use Rattle.h1_connection.specs.declared.connection.ticks.Expiry.{Expiry}
use Rattle.h1_connection.specs.declared.connection.ticks.Expiry.TheVariants as expiry
use Rattle.serve_blocking.specs.Acts.{is_loss, may}
use Rattle.serve_blocking.specs.Fails.{Fails, IsFull, IsLeft, TimesOut}
use Rattle.serve_blocking.specs.Served.{Line, Follows, Adds}
use Rattle.serve_blocking.specs.declared.error.HandleError.{HandleError}
use Rattle.serve_blocking.specs.declared.error.HandleError.TheVariants as handle_error
use Rattle.serve_blocking.proofs.Followed.{follows_none, follows_then}

-- the causes of another part, too
pub fails_as : (Here There Waited Other : Type 0) (e : HandleError) → (Here → There) → (Waited → Other) → Fails Here Waited e → Fails There Other e
fails_as Here There Waited Other handle_error.Lost misplaced waits fails = waits fails
fails_as Here There Waited Other handle_error.Stalled misplaced waits fails = waits fails
fails_as Here There Waited Other handle_error.BrokenBody misplaced waits fails = fails
fails_as Here There Waited Other handle_error.Misplaced misplaced waits fails = misplaced fails
fails_as Here There Waited Other handle_error.NoMemory misplaced waits fails = fails
fails_as Here There Waited Other handle_error.Failed misplaced waits fails = fails

-- a loss, where the peer was waited for
pub loss_fails : (Here Waited : Type 0) (e : HandleError) → is_loss e ≡ true → Waited → Fails Here Waited e
loss_fails Here Waited handle_error.Lost loss waited = waited
loss_fails Here Waited handle_error.Stalled loss waited = waited
loss_fails Here Waited handle_error.BrokenBody loss waited = absurd (cc loss)
loss_fails Here Waited handle_error.Misplaced loss waited = absurd (cc loss)
loss_fails Here Waited handle_error.NoMemory loss waited = tt
loss_fails Here Waited handle_error.Failed loss waited = absurd (cc loss)

pub memory_fails : (Here Waited : Type 0) (e : HandleError) → e ≡ handle_error.NoMemory → Fails Here Waited e
memory_fails Here Waited e is = subst (λ (d : HandleError). Fails Here Waited d) (sym is) tt

-- what is said of an error, where there is one
pub at_err : {T E : Type 0} (P : E → Type 0) (r : Result T E) (e : E) → r ≡ Err e → IfErr r P → P e
at_err P (Err d) e is holds = subst P (cc is) holds
at_err P (Ok x) e is holds = absurd (cc is)

-- there is none
pub no_err : {T E : Type 0} (P : Type 0) (r : Result T E) (e : E) → r ≡ Err e → IsOk r → P
no_err P (Err d) e is holds = absurd (cc holds)
no_err P (Ok x) e is holds = absurd (cc is)

-- ---- of what a value is seen as

pub left_here : (was a : Line) → a ≡ was → a.closes ≡ false → a.wanted ≡ false → may a.state on.drop_body ≡ true → IsLeft was
left_here was a seen stays unwanted droppable =
    subst (λ (l : Line). IsLeft l) seen (record { unwanted = unwanted; stays = stays; droppable = droppable })

no_room : (size waiting room : ℕ) → room ≡ size - waiting → room ≡ 0 → size ≤ waiting
no_room size waiting room is none = omega (arith, is, none)

pub full_here : (was a : Line) (room : ℕ) → a ≡ was → room ≡ a.state.settings.h1_write_buffer_size - length a.state.kept.buffered → room ≡ 0
    → IsFull was.state
full_here was a room seen is none =
    subst (λ (l : Line). IsFull l.state) seen (no_room a.state.settings.h1_write_buffer_size (length a.state.kept.buffered) room is none)

-- ---- a limit of time

pub times_out_behind : (a b c : Line) → Follows a b → TimesOut b c → TimesOut a c
times_out_behind a b c follows out = record {
  mid = out.mid;
  moment = out.moment;
  first = follows_then a b out.mid follows out.first;
  last = out.last;
}

-- the peer isn't waited for any more
pub times_out : (old new : Line) (moment : ℕ) (x : Expiry) → x ≡ expiry.Abandoned → Adds (on.tick moment) (expiry_of x) old new → TimesOut old new
times_out old new moment x is adds = record {
  mid = old;
  moment = moment;
  first = follows_none old;
  last = subst (λ (y : Expiry). Adds (on.tick moment) (expiry_of y) old new) is adds;
}
