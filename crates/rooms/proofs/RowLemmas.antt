-- What the code makes of the rows is what the model does.
use Rattle.std.proofs.Common.{◌≡◌, ◌<◌, ℕ, ◌+◌, ◌==◌, Bool, true, false, List, length, Option, Some, None, refl, sym, ap, ◌∙◌, subst, inl, inr, arith}
use Rattle.std.specs.Prelude.{is_some, option_map}
use Rattle.std.proofs.lemmas.Bool.{cases_Bool, eqb-true, eq-eqb}
use Rattle.model_h1.specs.Request.{Head}
use Rattle.model_h1.specs.Frame.{Frame, Message}
use Rattle.model_h1.specs.Event as on
use Rattle.h1_payload.specs.Rests.{fault_of as body_fault_of}
use Rattle.h1_connection.specs.EventMeaning.{event_of, end_of, fault_of, failing_of, SaysOutcome}
use Rattle.h1_connection.specs.declared.event.Event.{Event}
use Rattle.h1_connection.specs.declared.event.Event.TheVariants as event
use Rattle.h1_connection.specs.declared.event.Outcome.{Outcome}
use Rattle.h1_connection.specs.declared.event.Outcome.TheVariants as out
use Rattle.model_rooms.specs.Room.{room_of}
use Rattle.model_rooms.specs.Member.{Member, nothing, effect_in, with_effect, with_step, with_end, heard, own_row, row_behind, member_at, rows_from}
use Rattle.model_rooms.proofs.RowLemmas.{rows_in, length-rows_from}
use Rattle.rooms.specs.Rows.{only, spoken}
use Rattle.rooms.proofs.RowLists.{all_rows}
use Rattle.rooms.specs.Moves.{in_room, with_done, moved, ended}

-- ---- an event but for its end

-- its own row by its effect, the others by what they hear
pub record MovesRows (asked : Option Head) (event : on.Event) (o : on.Outcome) (i : ℕ) (old new : List Member) : Type 0 where
  pub count : length new ≡ length old
  pub own : member_at i new ≡ with_effect (effect_in (member_at i old) o) (with_step asked event o (member_at i old))
  pub others : (j : ℕ) → j < length old → (j == i) ≡ false
      → member_at j new ≡ heard (effect_in (member_at i old) o) (member_at i old).room (member_at j old)

-- the row at a place after a change of all rows
row_at : (change : ℕ → Member → Member) (ms : List Member) (j : ℕ) → j < length ms → member_at j (rows_from 0 change ms) ≡ change j (member_at j ms)
row_at change ms j below =
    let here : 0 + j ≡ j = omega arith in
    rows_in 0 j change ms below ∙ ap (λ (n : ℕ). change n (member_at j ms)) here

only_own : (change : Member → Member) (ms : List Member) (i : ℕ) → i < length ms → member_at i (rows_from 0 (only i change) ms) ≡ change (member_at i ms)
only_own change ms i below = row_at (only i change) ms i below ∙ rw (eq-eqb i i refl) refl

only_other : (change : Member → Member) (ms : List Member) (i j : ℕ) → j < length ms → (j == i) ≡ false
    → member_at j (rows_from 0 (only i change) ms) ≡ member_at j ms
only_other change ms i j below other = row_at (only i change) ms j below ∙ rw other refl

-- where neither an upgrade nor a message was done, its own row stays but for an effect
step_stays : (asked : Option Head) (event : on.Event) (o : on.Outcome) (m : Member) → ((limit : ℕ) → with_step asked (on.accept limit) o m ≡ m)
    → ((message : Message) → with_step asked (on.send message) o m ≡ m) → with_step asked event o m ≡ m
step_stays asked (on.read bytes) o m a s = refl
step_stays asked on.eof o m a s = refl
step_stays asked on.next o m a s = refl
step_stays asked on.pull o m a s = refl
step_stays asked on.drop_body o m a s = refl
step_stays asked on.send_continue o m a s = refl
step_stays asked (on.answer head size) o m a s = refl
step_stays asked (on.chunk bytes) o m a s = refl
step_stays asked on.body_end o m a s = refl
step_stays asked on.body_error o m a s = refl
step_stays asked (on.write n) o m a s = refl
step_stays asked (on.tick ms) o m a s = refl
step_stays asked on.drain o m a s = refl
step_stays asked (on.accept limit) o m a s = a limit
step_stays asked (on.send message) o m a s = s message

-- an outcome without an effect
still : (asked : Option Head) (event : on.Event) (o c : on.Outcome) (i : ℕ) (ms : List Member) → o ≡ c → ((m : Member) → effect_in m c ≡ nothing)
    → ((m : Member) (limit : ℕ) → with_step asked (on.accept limit) c m ≡ m) → ((m : Member) (message : Message) → with_step asked (on.send message) c m ≡ m)
    → MovesRows asked event o i ms ms
still asked event o c i ms is none a s =
    let m = member_at i ms in
    let stays : with_step asked event c m ≡ m = step_stays asked event c m (a m) (s m) in
    subst (λ (v : on.Outcome). MovesRows asked event v i ms ms) (sym is)
    (record { count = refl; own = rw (none m, stays) refl; others = λ j below other. rw (none m) refl })

-- a frame
frame_moves : (asked : Option Head) (event : on.Event) (o : on.Outcome) (f : Frame) (i : ℕ) (ms : List Member) → o ≡ on.frame f → i < length ms
    → MovesRows asked event o i ms (rows_from 0 (spoken i (member_at i ms) f) ms)
frame_moves asked event o f i ms is below =
    let m = member_at i ms in
    let stays : with_step asked event (on.frame f) m ≡ m = step_stays asked event (on.frame f) m (λ l. refl) (λ s. refl) in
    let change = spoken i m f in
    subst (λ (v : on.Outcome). MovesRows asked event v i ms (rows_from 0 change ms)) (sym is)
    (record {
      count = length-rows_from 0 change ms;
      own = row_at change ms i below ∙ rw (eq-eqb i i refl) (ap (λ (n : Member). with_effect (effect_in m (on.frame f)) n) (sym stays));
      others = λ j inside other. row_at change ms j inside ∙ rw other refl;
    })

-- the room that it joins is that of the request
joined : (asked : Option Head) (room : Option (List ℕ)) (m : Member) → is_some asked ≡ true → room ≡ option_map (λ (h : Head). room_of h.target) asked
    → in_room room m ≡ record m { room = option_map (λ (h : Head). room_of h.target) asked }
joined None room m some is = absurd (cc)
joined (Some h) room m some is = ap (λ (r : Option (List ℕ)). in_room r m) is

-- an event that was done
done_step : (asked : Option Head) (event : Event) (room : Option (List ℕ)) (m : Member)
    → ((limit : ℕ) → event_of event ≡ on.accept limit → is_some asked ≡ true) → room ≡ option_map (λ (h : Head). room_of h.target) asked
    → with_done event room m ≡ with_step asked (event_of event) on.done m
done_step asked (event.Read bytes) room m some is = refl
done_step asked event.Eof room m some is = refl
done_step asked event.Next room m some is = refl
done_step asked event.Pull room m some is = refl
done_step asked event.DropBody room m some is = refl
done_step asked event.Continue room m some is = refl
done_step asked (event.Answer head size) room m some is = refl
done_step asked (event.Chunk bytes) room m some is = refl
done_step asked event.BodyEnd room m some is = refl
done_step asked event.BodyError room m some is = refl
done_step asked (event.Write n) room m some is = refl
done_step asked (event.Tick ms) room m some is = refl
done_step asked event.Drain room m some is = refl
done_step asked (event.Accept limit) room m some is = joined asked room m (some limit refl) is
done_step asked (event.Send message) room m some is = refl

done_moves : (asked : Option Head) (event : Event) (o : on.Outcome) (room : Option (List ℕ)) (i : ℕ) (ms : List Member) → o ≡ on.done → i < length ms
    → ((limit : ℕ) → event_of event ≡ on.accept limit → is_some asked ≡ true) → room ≡ option_map (λ (h : Head). room_of h.target) asked
    → MovesRows asked (event_of event) o i ms (rows_from 0 (only i (with_done event room)) ms)
done_moves asked event o room i ms is below some r =
    subst (λ (v : on.Outcome). MovesRows asked (event_of event) v i ms (rows_from 0 (only i (with_done event room)) ms)) (sym is)
    (record {
      count = length-rows_from 0 (only i (with_done event room)) ms;
      own = only_own (with_done event room) ms i below ∙ done_step asked event room (member_at i ms) some r;
      others = λ j inside other. only_other (with_done event room) ms i j inside other;
    })

-- any event, by what it answered
pub rows_moved : (asked : Option Head) (event : Event) (outcome : Outcome) (o : on.Outcome) (room : Option (List ℕ)) (i : ℕ) (ms : List Member)
    → SaysOutcome outcome o → i < length ms → ((limit : ℕ) → event_of event ≡ on.accept limit → is_some asked ≡ true)
    → (o ≡ on.done → room ≡ option_map (λ (h : Head). room_of h.target) asked)
    → MovesRows asked (event_of event) o i ms (moved event outcome room i ms)
rows_moved asked event (out.Took n) o room i ms says below some r = still asked (event_of event) o (on.took n) i ms says (λ m. refl) (λ m l. refl) (λ m s. refl)
rows_moved asked event (out.Head item) o room i ms says below some r =
    still asked (event_of event) o (on.head says.0) i ms says.2 (λ m. refl) (λ m l. refl) (λ m s. refl)
rows_moved asked event (out.Bytes bytes) o room i ms says below some r = still asked (event_of event) o (on.bytes bytes) i ms says (λ m. refl) (λ m l. refl) (λ m s. refl)
rows_moved asked event (out.Trailers map) o room i ms says below some r =
    still asked (event_of event) o (on.trailers says.0) i ms says.2 (λ m. refl) (λ m l. refl) (λ m s. refl)
rows_moved asked event (out.Frame f) o room i ms says below some r = frame_moves asked (event_of event) o f i ms says below
rows_moved asked event out.BodyEnd o room i ms says below some r = still asked (event_of event) o on.body_ended i ms says (λ m. refl) (λ m l. refl) (λ m s. refl)
rows_moved asked event out.Pending o room i ms says below some r = still asked (event_of event) o on.pending i ms says (λ m. refl) (λ m l. refl) (λ m s. refl)
rows_moved asked event (out.Closed end) o room i ms says below some r =
    still asked (event_of event) o (on.closed (end_of end)) i ms says (λ m. refl) (λ m l. refl) (λ m s. refl)
rows_moved asked event (out.Fault fault) o room i ms says below some r =
    still asked (event_of event) o (on.fault (fault_of fault)) i ms says (λ m. refl) (λ m l. refl) (λ m s. refl)
rows_moved asked event (out.Broken fault) o room i ms says below some r =
    still asked (event_of event) o (on.broken_by (body_fault_of fault)) i ms says (λ m. refl) (λ m l. refl) (λ m s. refl)
rows_moved asked event (out.Protocol error) o room i ms says below some r =
    still asked (event_of event) o (on.protocol says.rule) i ms says.outcome_is (λ m. refl) (λ m l. refl) (λ m s. refl)
rows_moved asked event (out.Refused error) o room i ms says below some r =
    still asked (event_of event) o (on.refused (failing_of error)) i ms says (λ m. refl) (λ m l. refl) (λ m s. refl)
rows_moved asked event (out.Gave bytes) o room i ms says below some r = still asked (event_of event) o (on.gave bytes) i ms says (λ m. refl) (λ m l. refl) (λ m s. refl)
rows_moved asked event (out.Expired end) o room i ms says below some r =
    still asked (event_of event) o (on.expired (end_of end)) i ms says (λ m. refl) (λ m l. refl) (λ m s. refl)
rows_moved asked event out.Abandoned o room i ms says below some r = still asked (event_of event) o on.abandoned i ms says (λ m. refl) (λ m l. refl) (λ m s. refl)
rows_moved asked event out.Done o room i ms says below some r = done_moves asked event o room i ms says below some (r says)

-- ---- and its end

ended_own : (closes : Bool) (ms : List Member) (i : ℕ) → i < length ms → member_at i (ended closes i ms) ≡ with_end closes (member_at i ms)
ended_own true ms i below = only_own (with_end true) ms i below
ended_own false ms i below = refl

ended_other : (closes : Bool) (ms : List Member) (i j : ℕ) → j < length ms → (j == i) ≡ false → member_at j (ended closes i ms) ≡ member_at j ms
ended_other true ms i j below other = only_other (with_end true) ms i j below other
ended_other false ms i j below other = refl

length-ended : (closes : Bool) (i : ℕ) (ms : List Member) → length (ended closes i ms) ≡ length ms
length-ended true i ms = length-rows_from 0 (only i (with_end true)) ms
length-ended false i ms = refl

-- the rows after a move of the connection with this number
pub rows_followed : (asked : Option Head) (event : on.Event) (o : on.Outcome) (closes : Bool) (i : ℕ) (old new : List Member) → i < length old
    → MovesRows asked event o i old new
    → ended closes i new
    ≡ rows_from 0 (row_behind asked closes (record { number = i; step = record { event = event; outcome = o } }) (member_at i old)) old
rows_followed asked event o closes i old new below x =
    all_rows (row_behind asked closes (record { number = i; step = record { event = event; outcome = o } }) (member_at i old)) old (ended closes i new)
    (length-ended closes i new ∙ x.count)
    (λ k inside.
    let inside' : k < length new = omega (arith, x.count) in
    elim (cases_Bool (k == i)) [
      | inl same ↦
          let eq : k ≡ i = eqb-true k i same in
          let at : i < length new = omega (arith, x.count) in
          let own : member_at i (ended closes i new)
          ≡ with_end closes (with_effect (effect_in (member_at i old) o) (with_step asked event o (member_at i old))) =
          ended_own closes new i at ∙ ap (λ (m : Member). with_end closes m) x.own in
          rw same
          (subst (λ (n : ℕ). member_at n (ended closes i new) ≡ own_row asked closes (record { event = event; outcome = o }) (member_at n old)) (sym eq) own)
      | inr other ↦ rw other (ended_other closes new i k inside' other ∙ x.others k inside other)
    ])
