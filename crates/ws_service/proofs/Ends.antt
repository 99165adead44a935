-- The end of the input is told only where no whole frame is left.
use Rattle.std.proofs.Common.{◌≡◌, ℕ, Bool, true, false, Option, Some, None, List, refl, sym, ap, ◌∙◌}
use Rattle.std.specs.Prelude.{◌&&◌, not, if◌then◌else◌}
use Rattle.model_h1.specs.Event as on
use Rattle.model_h1.specs.FrameText.{Front, partial, whole, breaks, front_frame}
use Rattle.model_h1.specs.Parse.{connection_reader}
use Rattle.model_h1.specs.Sums as sums
use Rattle.model_state.specs.Kept.{Kept, Change, Exchange, Rest, no_rest, raw_rest, fixed_rest, chunks_rest, frames_rest, is_frames, of_exchange, is_upgraded, is_open}
use Rattle.model_state.specs.Local.{allowed_by, is_partial, has_no_frame, is_exhausted}
use Rattle.model_state.specs.Pull.{Pulled, IsPull, pull_front}
use Rattle.model_state.specs.Change.{IsPulling}
use Rattle.h1_connection.specs.EventMeaning.{setting_of}
use Rattle.h1_traced.specs.Traced.{TracedStands}
use Rattle.ws_service.specs.View.{View}
use Rattle.ws_service.specs.Steps.{IsStep, told_end}

-- asking for a frame is pending only where no whole one stands in front, and no rule is broken
front_none : (under_way : Bool) (limit : ℕ) (bytes : List ℕ) (front : Front) → (pull_front under_way limit bytes front).outcome ≡ on.pending → is_partial front ≡ true
front_none under_way limit bytes partial none = refl
front_none under_way limit bytes (whole frame len) none = absurd (cc none)
front_none under_way limit bytes (breaks error) none = absurd (cc none)

rest_none : (ended : Bool) (rest : Rest) (bytes : List ℕ) (p : Pulled) → is_frames rest ≡ true → IsPull ended rest bytes p → p.outcome ≡ on.pending → has_no_frame bytes rest ≡ true
rest_none ended no_rest bytes p is pulls none = absurd (cc is)
rest_none ended raw_rest bytes p is pulls none = absurd (cc is)
rest_none ended (fixed_rest n) bytes p is pulls none = absurd (cc is)
rest_none ended (chunks_rest place section) bytes p is pulls none = absurd (cc is)
rest_none ended (frames_rest under_way limit) bytes p is pulls none =
    front_none under_way limit bytes (front_frame (connection_reader limit) under_way bytes) (sym (ap (λ (x : Pulled). x.outcome) pulls) ∙ none)

pull_none : (k : Kept) (e : Option Exchange) (c : Change) → k.exchange ≡ e → is_upgraded k ≡ true → IsPulling k e c → c.outcome ≡ on.pending
    → of_exchange (λ x. has_no_frame k.unread x.rest) k ≡ true
pull_none k None c at is pulls none =
    absurd
    (let never : false ≡ true = sym (ap (λ y. of_exchange (λ z. is_frames z.rest) (record k { exchange = y })) at) ∙ is in
    cc never)
pull_none k (Some x) c at is pulls none =
    ap (λ y. of_exchange (λ z. has_no_frame k.unread z.rest) (record k { exchange = y })) at
    ∙ rest_none k.has_ended x.rest k.unread pulls.0 (sym (ap (λ y. of_exchange (λ z. is_frames z.rest) (record k { exchange = y })) at) ∙ is) pulls.1
    (sym (ap (λ (y : Change). y.outcome) pulls.2) ∙ none)

last_true : (a b : Bool) → (a && b) ≡ true → b ≡ true
last_true true b is = is
last_true false b is = absurd (cc is)

exhausted_so : (k : Kept) → is_upgraded k ≡ true → of_exchange (λ x. has_no_frame k.unread x.rest) k ≡ true → is_exhausted k ≡ true
exhausted_so k is none = ap (λ b. if b then of_exchange (λ x. has_no_frame k.unread x.rest) k else (not (is_open k) && not k.is_coming)) is ∙ none

pub none_left : (v w : View) (trace : List sums.Step) → TracedStands v.traced trace → IsStep v told_end w → is_exhausted v.traced.state.kept ≡ true
none_left v w trace stands is =
    let k = v.traced.state.kept in
    let upgraded = last_true (allowed_by (setting_of v.traced.state.settings) k on.pull) (is_upgraded k) is.3 in
    let x = is.4.1.asked.steps trace stands in
    exhausted_so k upgraded (pull_none k k.exchange x.2.machine.change refl upgraded x.2.machine.changes (sym x.2.machine.answers ∙ x.1))
