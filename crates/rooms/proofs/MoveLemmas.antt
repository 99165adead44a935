-- What the calls that follow an event make of the rows.
use Rattle.std.proofs.Common.{◌≡◌, ℕ, ◌+◌, ◌==◌, Bool, true, false, List, [], ◌∷◌, length, drop, Option, Some, None, Result, Ok, Err, OnOk, refl, sym, ap, ◌∙◌, subst, inl, inr}
use Rattle.std.specs.Prelude.{slice_get}
use Rattle.std.proofs.lemmas.Bool.{cases_Bool}
use Rattle.model_h1.specs.Frame.{Frame, Message}
use Rattle.model_h1.specs.Frame as frames
use Rattle.h1_connection.specs.declared.connection.frames.Sent.{Sent}
use Rattle.h1_connection.specs.declared.connection.frames.Sent.TheVariants as sent
use Rattle.h1_connection.specs.declared.event.Event.{Event}
use Rattle.h1_connection.specs.declared.event.Event.TheVariants as event
use Rattle.h1_connection.specs.declared.event.Outcome.{Outcome}
use Rattle.h1_connection.specs.declared.event.Outcome.TheVariants as out
use Rattle.model_rooms.specs.Member.{Member, with_end, member_at, rows_from}
use Rattle.model_rooms.proofs.RowLemmas.{length-rows_from}
use Rattle.rooms.specs.Rows.{only, spoken}
use Rattle.rooms.specs.Turn.{first_message, sent_outcome}
use Rattle.rooms.specs.Moves.{in_room, with_done, moved, ended}

-- ---- the message that waits first

pub no_message : (fs : List Frame) → None ≡ slice_get fs 0 → None ≡ first_message fs
no_message [] none = refl
no_message (f ∷ fs) none = absurd (cc)

pub message_of : (fs : List Frame) (line : Frame) (m : Message) → Some line ≡ slice_get fs 0 → m ≡ frames.frame line → Some m ≡ first_message fs
message_of [] line m there is = absurd (cc)
message_of (f ∷ fs) line m there is = let same : line ≡ f = cc in ap Some (is ∙ ap (λ (x : Frame). frames.frame x) same)

-- ---- rows that stay

rows_stay : (k : ℕ) (change : ℕ → Member → Member) (ms : List Member) → ((j : ℕ) (m : Member) → change j m ≡ m) → rows_from k change ms ≡ ms
rows_stay k change [] same = refl
rows_stay k change (m ∷ ms) same = λ i. same k m i ∷ rows_stay (k + 1) change ms same i

only_stays : (i j : ℕ) (change : Member → Member) (m : Member) → change m ≡ m → only i change j m ≡ m
only_stays i j change m same = elim (cases_Bool (j == i)) [
  | inl here ↦ rw here same
  | inr other ↦ rw other refl
]

rows_kept : (i : ℕ) (change : Member → Member) (ms : List Member) → ((m : Member) → change m ≡ m) → ms ≡ rows_from 0 (only i change) ms
rows_kept i change ms same = sym (rows_stay 0 (only i change) ms (λ j m. only_stays i j change m (same m)))

-- who has no room joins none
pub no_room : (i : ℕ) (room : Option (List ℕ)) (ms : List Member) → room ≡ None → ms ≡ rows_from 0 (only i (in_room room)) ms
no_room i None ms is = rows_kept i (in_room None) ms (λ m. refl)
no_room i (Some room) ms is = absurd (cc)

pub in_its_room : (i : ℕ) (room : Option (List ℕ)) (own : List ℕ) (ms : List Member) → room ≡ Some own
    → rows_from 0 (only i (λ m. record m { room = Some own })) ms ≡ rows_from 0 (only i (in_room room)) ms
in_its_room i room own ms is = ap (λ (r : Option (List ℕ)). rows_from 0 (only i (in_room r)) ms) (sym is)

-- another event that was done changes nothing
done_stays : (e : Event) (room : Option (List ℕ)) (m : Member) → ((limit : ℕ) → e ≡ event.Accept limit → ⊥) → ((message : Message) → e ≡ event.Send message → ⊥)
    → with_done e room m ≡ m
done_stays (event.Read bytes) room m a s = refl
done_stays event.Eof room m a s = refl
done_stays event.Next room m a s = refl
done_stays event.Pull room m a s = refl
done_stays event.DropBody room m a s = refl
done_stays event.Continue room m a s = refl
done_stays (event.Answer head size) room m a s = refl
done_stays (event.Chunk bytes) room m a s = refl
done_stays event.BodyEnd room m a s = refl
done_stays event.BodyError room m a s = refl
done_stays (event.Write n) room m a s = refl
done_stays (event.Tick ms) room m a s = refl
done_stays event.Drain room m a s = refl
done_stays (event.Accept limit) room m a s = absurd (a limit refl)
done_stays (event.Send message) room m a s = absurd (s message refl)

pub nothing_done : (e : Event) (room : Option (List ℕ)) (i : ℕ) (ms : List Member) → ((limit : ℕ) → e ≡ event.Accept limit → ⊥)
    → ((message : Message) → e ≡ event.Send message → ⊥) → ms ≡ rows_from 0 (only i (with_done e room)) ms
nothing_done e room i ms a s = rows_kept i (with_done e room) ms (λ m. done_stays e room m a s)

-- another outcome moves nothing
pub nothing_moved : (e : Event) (outcome : Outcome) (room : Option (List ℕ)) (i : ℕ) (ms : List Member) → ((f : Frame) → outcome ≡ out.Frame f → ⊥)
    → (outcome ≡ out.Done → ⊥) → ms ≡ moved e outcome room i ms
nothing_moved e (out.Took n) room i ms f d = refl
nothing_moved e (out.Head item) room i ms f d = refl
nothing_moved e (out.Bytes bytes) room i ms f d = refl
nothing_moved e (out.Trailers map) room i ms f d = refl
nothing_moved e (out.Frame frame) room i ms f d = absurd (f frame refl)
nothing_moved e out.BodyEnd room i ms f d = refl
nothing_moved e out.Pending room i ms f d = refl
nothing_moved e (out.Closed end) room i ms f d = refl
nothing_moved e (out.Fault fault) room i ms f d = refl
nothing_moved e (out.Broken fault) room i ms f d = refl
nothing_moved e (out.Protocol error) room i ms f d = refl
nothing_moved e (out.Refused error) room i ms f d = refl
nothing_moved e (out.Gave bytes) room i ms f d = refl
nothing_moved e (out.Expired end) room i ms f d = refl
nothing_moved e out.Abandoned room i ms f d = refl
nothing_moved e out.Done room i ms f d = absurd (d refl)

-- ---- how many rows there are

pub length-moved : (e : Event) (outcome : Outcome) (room : Option (List ℕ)) (i : ℕ) (ms : List Member) → length (moved e outcome room i ms) ≡ length ms
length-moved e (out.Took n) room i ms = refl
length-moved e (out.Head item) room i ms = refl
length-moved e (out.Bytes bytes) room i ms = refl
length-moved e (out.Trailers map) room i ms = refl
length-moved e (out.Frame f) room i ms = length-rows_from 0 (spoken i (member_at i ms) f) ms
length-moved e out.BodyEnd room i ms = refl
length-moved e out.Pending room i ms = refl
length-moved e (out.Closed end) room i ms = refl
length-moved e (out.Fault fault) room i ms = refl
length-moved e (out.Broken fault) room i ms = refl
length-moved e (out.Protocol error) room i ms = refl
length-moved e (out.Refused error) room i ms = refl
length-moved e (out.Gave bytes) room i ms = refl
length-moved e (out.Expired end) room i ms = refl
length-moved e out.Abandoned room i ms = refl
length-moved e out.Done room i ms = length-rows_from 0 (only i (with_done e room)) ms

-- ---- its end

pub leaves : (closes : Bool) (i : ℕ) (ms rows : List Member) → closes ≡ true → rows ≡ ms → rows_from 0 (only i (with_end true)) rows ≡ ended closes i ms
leaves true i ms rows is same = ap (λ (l : List Member). rows_from 0 (only i (with_end true)) l) same
leaves false i ms rows is same = absurd (cc)

pub stays : (closes : Bool) (i : ℕ) (ms rows : List Member) → closes ≡ false → rows ≡ ms → rows ≡ ended closes i ms
stays true i ms rows is same = absurd (cc)
stays false i ms rows is same = same

-- ---- by the kind of an outcome and of an event

pub frame_moved : {A E : Type 0} (r : Result A E) (e : Event) (outcome : Outcome) (f g : Frame) (room : Option (List ℕ)) (i : ℕ) (ms rows : List Member)
    → outcome ≡ out.Frame g → f ≡ g → OnOk r (rows ≡ rows_from 0 (spoken i (member_at i ms) f) ms) → OnOk r (rows ≡ moved e outcome room i ms)
frame_moved r e outcome f g room i ms rows is same said =
    subst (λ (o : Outcome). OnOk r (rows ≡ moved e o room i ms)) (sym is)
    (subst (λ (h : Frame). OnOk r (rows ≡ rows_from 0 (spoken i (member_at i ms) h) ms)) same said)

pub done_moved : {A E : Type 0} (r : Result A E) (e : Event) (outcome : Outcome) (room : Option (List ℕ)) (i : ℕ) (ms rows : List Member)
    → outcome ≡ out.Done → OnOk r (rows ≡ rows_from 0 (only i (with_done e room)) ms) → OnOk r (rows ≡ moved e outcome room i ms)
done_moved r e outcome room i ms rows is done = subst (λ (o : Outcome). OnOk r (rows ≡ moved e o room i ms)) (sym is) done

pub ok_count : {A E : Type 0} (r : Result A E) (e : Event) (outcome : Outcome) (room : Option (List ℕ)) (i : ℕ) (ms rows : List Member)
    → OnOk r (rows ≡ moved e outcome room i ms) → OnOk r (length rows ≡ length ms)
ok_count (Ok x) e outcome room i ms rows is = ap length is ∙ length-moved e outcome room i ms
ok_count (Err x) e outcome room i ms rows is = tt

pub accept_done : {A E : Type 0} (r : Result A E) (e : Event) (limit : ℕ) (room : Option (List ℕ)) (i : ℕ) (ms rows : List Member)
    → e ≡ event.Accept limit → OnOk r (rows ≡ rows_from 0 (only i (in_room room)) ms) → OnOk r (rows ≡ rows_from 0 (only i (with_done e room)) ms)
accept_done r e limit room i ms rows is joined =
    subst (λ (v : Event). OnOk r (rows ≡ rows_from 0 (only i (with_done v room)) ms)) (sym is) joined

pub send_done : (e : Event) (message : Message) (room : Option (List ℕ)) (i : ℕ) (ms rows : List Member) → e ≡ event.Send message
    → rows ≡ rows_from 0 (only i (λ m. record m { waiting = drop 1 m.waiting })) ms → rows ≡ rows_from 0 (only i (with_done e room)) ms
send_done e message room i ms rows is sent = subst (λ (v : Event). rows ≡ rows_from 0 (only i (with_done v room)) ms) (sym is) sent

-- what was sent waits no more
pub sent_moved : (what : Sent) (m : Message) (room : Option (List ℕ)) (i : ℕ) (ms rows : List Member) → what ≡ sent.Done
    → rows ≡ rows_from 0 (only i (λ m. record m { waiting = drop 1 m.waiting })) ms → rows ≡ moved (event.Send m) (sent_outcome what) room i ms
sent_moved what m room i ms rows is done = subst (λ (w : Sent). rows ≡ moved (event.Send m) (sent_outcome w) room i ms) (sym is) done

-- in as many rows
pub sent_count : (i : ℕ) (ms rows : List Member) → rows ≡ rows_from 0 (only i (λ m. record m { waiting = drop 1 m.waiting })) ms → length rows ≡ length ms
sent_count i ms rows is = ap length is ∙ length-rows_from 0 (only i (λ m. record m { waiting = drop 1 m.waiting })) ms
