-- What is left of the body of a request whose answer is complete, against how that body stops.
use Rattle.std.proofs.Common.{◌≡◌, ℕ, ◌+◌, ◌-◌, Bool, true, false, List, [], length, drop, Option, Some, None, refl, sym, ap, ◌∙◌, subst, inl, inr, arith, length-drop}
use Rattle.std.specs.Prelude.{◌&&◌, not, nat_le, is_some, unwrap_or}
use Rattle.std.proofs.lemmas.Bool.{cond-true, cond-false, cases_lt, le-leb, lt-leb}
use Rattle.std.proofs.lemmas.List.{take_all}
use Rattle.model_h1.specs.Chunked.{Chunked, whole, unfinished, not_chunked, IsChunked}
use Rattle.model_h1.specs.Runs.{Run}
use Rattle.model_h1.specs.Place.{Place, broken, start, after}
use Rattle.model_h1.proofs.Verdicts.{unfinished_after, broken_after}
use Rattle.model_h1.specs.Request.{Header, BodyKind, no_body, fixed_body, chunked_body, raw_body, is_chunked_kind}
use Rattle.model_h1.specs.Setting.{Setting}
use Rattle.model_h1.specs.Parse.{Message, Body, content, ended_at, open_or_cut, run_between, raw_content, shifted, chunked_stop, next_start, IsBodyOf}
use Rattle.model_h1.specs.End as ends
use Rattle.model_h1.specs.End.{End}
use Rattle.model_h1.specs.Sums.{taken, accepted, has_ended, is_complete}
use Rattle.model_h1.specs.Past.{ParsedStep, steps, input_of, passed}
use Rattle.model_h1.specs.Closing.{end_where, unread_end}
use Rattle.model_h1.proofs.BodyLemmas.{input}
use Rattle.model_h1.proofs.BodyGrowth.{fixed_whole, fixed_part}
use Rattle.model_h1.proofs.CarriedLemmas.{end_of}
use Rattle.model_state.specs.Kept.{Rest, no_rest, raw_rest, fixed_rest, chunks_rest, is_nothing}
use Rattle.model_state.specs.KeptOf.{is_passed, passed_bytes, fixed_left, chunks_left, raw_left, rest_of}
use Rattle.model_state.specs.Local.{chunks_end, rest_end}

-- A rest of a body, so stopped: it ends a connection where the body does, and is nothing where the body has ended.
pub record Says (rest : Rest) (b : Body) (chunks dropped : Bool) : Type 0 where
  pub end : rest_end dropped rest ≡ unread_end b (chunks && dropped)
  pub nothing : is_nothing rest ≡ is_some (next_start b)

-- nothing is left of an ended body
ended_says : (runs : List Run) (end : ℕ) (trailers : List Header) (chunks dropped : Bool)
    → Says no_rest (content runs (ended_at end trailers)) chunks dropped
ended_says runs end trailers chunks dropped = record { end = refl; nothing = refl }

-- a rest that can't be passed
open_says : (rest : Rest) (runs : List Run) (ended dropped : Bool) → rest_end dropped rest ≡ Some ends.unread_body → is_nothing rest ≡ false
    → Says rest (content runs (open_or_cut ended)) false dropped
open_says rest runs true dropped e some = record { end = e; nothing = some }
open_says rest runs false dropped e some = record { end = e; nothing = some }

-- the place that is passed, of an ended body
ended_place : (past : List ParsedStep) (b : Body) (end : ℕ) → passed past ≡ end_of (length (taken (steps past))) b → next_start b ≡ Some end
    → passed past ≡ end
ended_place past b end e next = e ∙ ap (λ o. unwrap_or o (length (taken (steps past)))) next

-- and of one that hasn't ended
open_place : (past : List ParsedStep) (b : Body) → passed past ≡ end_of (length (taken (steps past))) b → next_start b ≡ None
    → passed past ≡ length (taken (steps past))
open_place past b e next = e ∙ ap (λ o. unwrap_or o (length (taken (steps past)))) next

-- no stop of an unfinished body is an end
pub open_next : (runs : List Run) (ended : Bool) → next_start (content runs (open_or_cut ended)) ≡ None
open_next runs true = refl
open_next runs false = refl

-- ---- each kind

-- a body of a fixed length
fixed_says : (setting : Setting) (past : List ParsedStep) (place n : ℕ) (b : Body) (dropped : Bool)
    → passed past ≡ end_of (length (taken (steps past))) b
    → IsBodyOf (input_of setting (steps past)) (fixed_body n) place b → Says (fixed_left (place + n) (passed past)) b false dropped
fixed_says setting past place n b dropped e x =
    let t = steps past in
    let len = length (taken t) in
    elim (cases_lt len (place + n)) [
      | inr fits ↦
          let is = x ∙ fixed_whole (taken t) (accepted t) (has_ended t) setting.hold_size place n fits in
          let at = ended_place past b (place + n) e (ap next_start is) in
          let rest : fixed_left (place + n) (passed past) ≡ no_rest = cond-true (nat_le (place + n) (passed past)) _ _ (le-leb (place + n) (passed past) (omega arith)) in
          subst (λ c. Says (fixed_left (place + n) (passed past)) c false dropped) (sym is)
          (subst (λ r. Says r (content (run_between place (place + n)) (ended_at (place + n) [])) false dropped) (sym rest)
          (ended_says (run_between place (place + n)) (place + n) [] false dropped))
      | inl short ↦
          let is = x ∙ fixed_part (taken t) (accepted t) (has_ended t) setting.hold_size place n short in
          let at = open_place past b e (ap next_start is ∙ open_next (run_between place len) (has_ended t)) in
          let rest : fixed_left (place + n) (passed past) ≡ fixed_rest (place + n - passed past) =
          cond-false (nat_le (place + n) (passed past)) _ _ (lt-leb (place + n) (passed past) (omega arith)) in
          subst (λ c. Says (fixed_left (place + n) (passed past)) c false dropped) (sym is)
          (subst (λ r. Says r (content (run_between place len) (open_or_cut (has_ended t))) false dropped) (sym rest)
          (open_says (fixed_rest (place + n - passed past)) (run_between place len) (has_ended t) dropped refl refl))
    ]

-- all bytes from the start on are the body's so far
pub bytes_of_all : (past : List ParsedStep) (m : Message) → passed past ≡ length (taken (steps past))
    → passed_bytes past m ≡ drop m.body_start (taken (steps past))
bytes_of_all past m e =
    take_all (passed past - m.body_start) (drop m.body_start (taken (steps past))) (omega (arith, length-drop m.body_start (taken (steps past))))

-- chunks that go on end a connection unless they were dropped
chunks_go_on : (dropped : Bool) (place : Place) → (place ≡ broken → ⊥) → chunks_end dropped place ≡ end_where (not dropped) ends.unread_body
chunks_go_on dropped broken live = absurd (live refl)
chunks_go_on dropped place live = refl

-- chunks whose end is passed
pub chunks_passed : (past : List ParsedStep) (m : Message) → is_passed (passed past) m ≡ true → chunks_left past m ≡ no_rest
chunks_passed past m e = cond-true (is_passed (passed past) m) _ _ e

-- chunks that have no end are left
chunks_open : (past : List ParsedStep) (m : Message) → next_start m.body ≡ None → is_complete (steps past) ≡ true
    → chunks_left past m ≡ chunks_rest (after start (passed_bytes past m)) []
chunks_open past m none complete =
    rw (none, complete) refl

-- a body in chunks
chunks_say : (setting : Setting) (past : List ParsedStep) (m : Message) (dropped : Bool) (a : Chunked) (runs : List Run)
    → passed past ≡ end_of (length (taken (steps past))) m.body → is_complete (steps past) ≡ true
    → IsChunked (drop m.body_start (taken (steps past))) a runs
    → m.body ≡ content (shifted m.body_start runs) (chunked_stop (input_of setting (steps past)) m.body_start a)
    → Says (chunks_left past m) m.body true dropped
chunks_say setting past m dropped (whole k trailers) runs e complete x is =
    let at = ended_place past m.body (m.body_start + k) e (ap next_start is) in
    let there : is_passed (passed past) m ≡ true = rw (ap next_start is) (le-leb (m.body_start + k) (passed past) (omega arith)) in
    let rest = chunks_passed past m there in
    subst (λ r. Says r m.body true dropped) (sym rest) (record { end = sym (ap (λ b. unread_end b dropped) is); nothing = sym (ap (λ b. is_some (next_start b)) is) })
chunks_say setting past m dropped unfinished runs e complete x is =
    let none = ap next_start is ∙ open_next (shifted m.body_start runs) (has_ended (steps past)) in
    let bytes = bytes_of_all past m (open_place past m.body e none) in
    let live = (unfinished_after (drop m.body_start (taken (steps past))) runs x).not_broken in
    let rest = chunks_open past m none complete ∙ ap (λ l. chunks_rest (after start l) []) bytes in
    let place = after start (drop m.body_start (taken (steps past))) in
    subst (λ r. Says r m.body true dropped) (sym rest) (record {
      end = chunks_go_on dropped place live ∙ sym (ap (λ b. unread_end b dropped) is ∙ open_end (shifted m.body_start runs) (has_ended (steps past)) dropped);
      nothing = sym (ap is_some none);
    })
  where
    open_end : (runs : List Run) (ended passable : Bool)
        → unread_end (content runs (open_or_cut ended)) passable ≡ end_where (not passable) ends.unread_body
    open_end runs true passable = refl
    open_end runs false passable = refl
chunks_say setting past m dropped not_chunked runs e complete x is =
    let none = ap next_start is in
    let bytes = bytes_of_all past m (open_place past m.body e none) in
    let breaks = broken_after (drop m.body_start (taken (steps past))) runs x in
    let rest = chunks_open past m none complete ∙ ap (λ l. chunks_rest (after start l) []) bytes ∙ ap (λ p. chunks_rest p []) breaks in
    subst (λ r. Says r m.body true dropped) (sym rest) (record { end = sym (ap (λ b. unread_end b dropped) is); nothing = sym (ap is_some none) })

-- a raw body of no WebSocket
raw_says : (setting : Setting) (past : List ParsedStep) (m : Message) (ended dropped : Bool)
    → passed past ≡ end_of (length (taken (steps past))) m.body
    → m.body ≡ raw_content (input (taken (steps past)) None ended setting.hold_size) m.body_start → Says (raw_left past m None) m.body false dropped
raw_says setting past m true dropped e is =
    let at = ended_place past m.body (length (taken (steps past))) e (ap next_start is) in
    let there : is_passed (passed past) m ≡ true = rw (ap next_start is) (le-leb (length (taken (steps past))) (passed past) (omega arith)) in
    subst (λ r. Says r m.body false dropped) (sym (cond-true (is_passed (passed past) m) no_rest raw_rest there))
    (record { end = sym (ap (λ b. unread_end b false) is); nothing = sym (ap (λ b. is_some (next_start b)) is) })
raw_says setting past m false dropped e is =
    let there : is_passed (passed past) m ≡ false = rw (ap next_start is) refl in
    subst (λ r. Says r m.body false dropped) (sym (cond-false (is_passed (passed past) m) no_rest raw_rest there))
    (record { end = sym (ap (λ b. unread_end b false) is); nothing = sym (ap (λ b. is_some (next_start b)) is) })

-- a raw body
any_raw_says : (setting : Setting) (past : List ParsedStep) (m : Message) (u : Option ℕ) (dropped : Bool)
    → passed past ≡ end_of (length (taken (steps past))) m.body
    → IsBodyOf (record (input_of setting (steps past)) { upgraded = u }) raw_body m.body_start m.body → Says (raw_left past m u) m.body false dropped
any_raw_says setting past m None dropped e is = raw_says setting past m (has_ended (steps past)) dropped e is
any_raw_says setting past m (Some limit) dropped e is =
    record { end = sym (ap (λ b. unread_end b false) is.3); nothing = sym (ap (λ b. is_some (next_start b)) is.3) }

-- What is left behind a complete answer says of the body how it stops.
pub rest_says : (setting : Setting) (past : List ParsedStep) (m : Message) (kind : BodyKind) (dropped : Bool)
    → passed past ≡ end_of (length (taken (steps past))) m.body → is_complete (steps past) ≡ true
    → IsBodyOf (input_of setting (steps past)) kind m.body_start m.body → Says (rest_of past m kind) m.body (is_chunked_kind kind) dropped
rest_says setting past m no_body dropped e complete x =
    subst (λ b. Says no_rest b false dropped) (sym x) (ended_says [] m.body_start [] false dropped)
rest_says setting past m (fixed_body n) dropped e complete x = fixed_says setting past m.body_start n m.body dropped e x
rest_says setting past m chunked_body dropped e complete x = chunks_say setting past m dropped x.0 x.1 e complete x.2 x.3
rest_says setting past m raw_body dropped e complete x = any_raw_says setting past m (accepted (steps past)) dropped e x
