-- Where no byte is held, no head is there.
use Rattle.std.proofs.Common.{◌≡◌, ◌<◌, ◌-◌, Bool, true, false, Option, Some, None, List, length, refl, sym, ap, ◌∙◌, arith}
use Rattle.std.specs.Prelude.{◌==◌, if◌then◌else◌}
use Rattle.std.proofs.lemmas.Bool.{eqb-true}
use Rattle.model_h1.specs.End.{End}
use Rattle.model_h1.specs.Event as on
use Rattle.model_h1.specs.Request.{too_large, faulty}
use Rattle.model_h1.specs.Setting.{Setting}
use Rattle.model_h1.specs.Sums as sums
use Rattle.model_h1.proofs.MessageGrowth.{piece_end}
use Rattle.model_state.specs.Kept.{Kept, Change}
use Rattle.model_state.specs.Local.{closing_by}
use Rattle.model_state.specs.Change.{behind_head, without_head, IsUpcoming, IsNext}
use Rattle.h1_connection.specs.Heads.{SaysNext}
use Rattle.h1_connection.specs.EventMeaning.{setting_of}
use Rattle.h1_connection.specs.declared.connection.heads.NextHead.{NextHead}
use Rattle.h1_connection.specs.declared.connection.heads.NextHead.TheVariants as next_head
use Rattle.h1_traced.specs.Traced.{TracedStands}
use Rattle.http_transport.specs.Peer.{PeerAddress}
use Rattle.h1_dispatcher.specs.View.{View, closes, HasNoByte}
use Rattle.h1_dispatcher.specs.Steps.{IsStep, next}
use Rattle.h1_dispatcher.proofs.Turns.{none_of}

none_held : (set : Setting) (k : Kept) → length k.unread ≡ 0 → 0 < set.hold_size - length k.unread → (without_head set k).outcome ≡ on.pending
none_held set k none some = by_full (length k.unread == set.hold_size) (λ full. omega (arith, eqb-true (length k.unread) set.hold_size full, some))
  where
    by_full : (b : Bool) → (b ≡ true → ⊥) → (if b then behind_head k 0 (faulty too_large) else record { outcome = on.pending; kept = k }).outcome ≡ on.pending
    by_full false never = refl
    by_full true never = absurd (never refl)

upcoming : (set : Setting) (k : Kept) (coming : Bool) (c : Change) → length k.unread ≡ 0 → 0 < set.hold_size - length k.unread → IsUpcoming set k coming c → c.outcome ≡ on.pending
upcoming set k false c none some is = ap (λ (x : Change). x.outcome) is ∙ none_held set k none some
upcoming set k true c none some is = absurd (omega (arith, piece_end k.unread is.0 is.1 is.3, is.3.in_range, none))

nexts : (set : Setting) (k : Kept) (closing : Option End) (c : Change) → closing ≡ None → length k.unread ≡ 0 → 0 < set.hold_size - length k.unread → IsNext set k closing c → c.outcome ≡ on.pending
nexts set k (Some end) c runs none some is = absurd (cc runs)
nexts set k None c runs none some is = upcoming set k k.is_coming c none some is

only_pending : (head : NextHead) (out : on.Outcome) → SaysNext head out → out ≡ on.pending → head ≡ next_head.Pending
only_pending (next_head.Head item) out says is =
    let never : on.head says.0 ≡ on.pending = sym says.2 ∙ is in
    absurd (cc never)
only_pending (next_head.Fault fault) out says is =
    let never = sym says ∙ is in
    absurd (cc never)
only_pending next_head.Pending out says is = refl
only_pending (next_head.Closed end) out says is =
    let never = sym says ∙ is in
    absurd (cc never)

pub no_head : (v w : View) (peer : PeerAddress) (head : NextHead) (trace : List sums.Step) → TracedStands v.traced trace → closes v ≡ false → HasNoByte v → IsStep v (next peer head) w → head ≡ next_head.Pending
no_head v w peer head trace stands runs none is =
    let set = setting_of v.traced.state.settings in
    let k = v.traced.state.kept in
    let x = is.3.steps trace stands in
    only_pending head x.0 x.1 (x.2.machine.answers ∙ nexts set k (closing_by set k) x.2.machine.change (none_of (closing_by set k) runs) none.0 none.1 x.2.machine.changes)
