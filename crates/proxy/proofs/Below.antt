-- What waits towards a server stays below its bound.
use Rattle.std.proofs.Common.{◌≡◌, ◌⊎◌, ℕ, ◌<◌, ◌≤◌, Bool, true, false, not, ◌&&◌, ◌||◌, List, [], ◌∷◌, length, drop, Option, Some, None, refl, sym, ap, ◌∙◌, subst, inl, inr, arith, ltb-true}
use Rattle.std.specs.Prelude.{nat_lt, ◌==◌, if◌then◌else◌}
use Rattle.std.proofs.lemmas.Bool.{false≢true}
use Rattle.model_h1.specs.Setting.{Setting}
use Rattle.model_client.specs.AnswerReading.{AnswerReading, answer_is, refused}
use Rattle.model_client.specs.AnswerParse.{is_interim}
use Rattle.model_client.specs.ClientEvent as asked
use Rattle.model_client.specs.ClientEvent.{ClientOutcome, ClientEnd}
use Rattle.model_client.specs.ClientKept.{ClientKept, ReadingBody, Waiting, client_closing}
use Rattle.model_client.proofs.Answered.{told_without}
use Rattle.model_client.specs.ClientStep.{ClientChange, IsPulling, IsUpcoming, IsNext, without_head, behind_head, behind_final}
use Rattle.h1_connection.specs.State.{State}
use Rattle.h1_client.specs.ClientMeaning.{setting_of}
use Rattle.h1_client.specs.State as servers
use Rattle.model_proxy.specs.Rests.{MAX_WAITING}
use Rattle.proxy.specs.Kept.{is_closing}
use Rattle.proxy.specs.Fresh.{is_server_used, WaitsAlone, AddsBelow, SendsBelow}
use Rattle.proxy.specs.Replies.{Fails}
use Rattle.proxy.specs.Rests.{may_begin, is_over, may_turn}
use Rattle.proxy.specs.declared.proxy.Proxy.{Proxy}
use Rattle.proxy.specs.declared.proxy.SentRequest.{SentRequest}
use Rattle.proxy.proofs.Fresh.{over_used}

-- ---- a connection to a server

pub below_none : (o : Option servers.State) → AddsBelow o None
below_none None = tt
below_none (Some s) = tt

pub below_same : (o : Option servers.State) → AddsBelow o o
below_same None = tt
below_same (Some s) = λ much. refl

pub below_as : (o p : Option servers.State) → p ≡ o → AddsBelow o p
below_as o p is = subst (AddsBelow o) (sym is) (below_same o)

pub below_closed : (o p : Option servers.State) → p ≡ None → AddsBelow o p
below_closed o p is = subst (AddsBelow o) (sym is) (below_none o)

-- it is this one
pub below_of : (o : Option servers.State) (s : servers.State) (p : Option servers.State) → o ≡ Some s → AddsBelow (Some s) p → AddsBelow o p
below_of o s p is x = subst (λ (q : Option servers.State). AddsBelow q p) (sym is) x

pub below_into : (o p q : Option servers.State) → q ≡ p → AddsBelow o p → AddsBelow o q
below_into o p q is x = subst (AddsBelow o) (sym is) x

-- first nothing was put behind what waits
pub below_kept : (s t : servers.State) (o : Option servers.State) → t.kept.buffered ≡ s.kept.buffered → AddsBelow (Some t) o → AddsBelow (Some s) o
below_kept s t None same x = tt
below_kept s t (Some u) same x = λ much. x (subst (λ (b : List ℕ). MAX_WAITING ≤ length b) (sym same) much) ∙ same

-- less waits
pub no_room : {X : Type 0} (s : servers.State) → length s.kept.buffered < MAX_WAITING → MAX_WAITING ≤ length s.kept.buffered → X
no_room {X} s low much = let none : ⊥ = omega (arith, low, much) in absurd none

pub below_room : (s : servers.State) (o : Option servers.State) → length s.kept.buffered < MAX_WAITING → AddsBelow (Some s) o
below_room s None low = tt
below_room s (Some t) low = λ much. let none : ⊥ = omega (arith, low, much) in absurd none

-- it stays, or is closed
pub keeps_below : (X : Type 0) (o p : Option servers.State) → (p ≡ o) ⊎ ((p ≡ None) × X) → AddsBelow o p
keeps_below X o p (inl same) = below_as o p same
keeps_below X o p (inr closed) = below_closed o p closed.0

-- a request that has no more of its answer to come
pub fails_closed : (answered : Bool) (client : State) (q : Proxy) → Fails answered client q → q.server ≡ None
fails_closed true client q x = x.1.server
fails_closed false client q x = x.1.server

pub fails_below : (answered : Bool) (client : State) (o : Option servers.State) (q : Proxy) → Fails answered client q → AddsBelow o q.server
fails_below answered client o q x = below_closed o q.server (fails_closed answered client q x)

-- ---- a turn

first_two : (a b c : Bool) → (a && b && c) ≡ true → (a ≡ true) × (b ≡ true)
first_two true true c is = (refl, refl)
first_two true false c is = absurd (false≢true is)
first_two false b c is = absurd (false≢true is)

-- there is room towards the client, and a turn may begin
may_parts : (p : Proxy) → may_turn p ≡ true → (nat_lt (length p.client.kept.buffered) MAX_WAITING ≡ true) × ((may_begin p.sent p.server || is_over p.server) ≡ true)
may_parts p may = first_two (nat_lt (length p.client.kept.buffered) MAX_WAITING) (may_begin p.sent p.server || is_over p.server) (not (is_closing p)) may

-- where none is made
pub still_below : (p : Proxy) → SendsBelow p p
still_below p = record { client = λ much. refl; server = λ alone. below_same p.server }

-- one that is made, where little waits towards the client
pub turn_below : (p q : Proxy) → may_turn p ≡ true → (WaitsAlone p → AddsBelow p.server q.server) → SendsBelow p q
turn_below p q may adds =
    let low : length p.client.kept.buffered < MAX_WAITING = ltb-true (length p.client.kept.buffered) MAX_WAITING (may_parts p may).0 in
    record { client = λ much. (let none : ⊥ = omega (arith, low, much) in absurd none); server = adds }

-- a request that waits is sent on only where there is room towards the server
sends_by : (sent : Option SentRequest) (server o : Option servers.State) → sent ≡ None → (may_begin sent server || is_over server) ≡ true
    → is_server_used server ≡ false → AddsBelow server o
sends_by sent None o none may unused = tt
sends_by (Some x) (Some s) o none may unused = let no : ⊥ = cc in absurd no
sends_by None (Some s) o none may unused = by_over (is_over (Some s)) refl may
  where
    by_room : (room : Bool) → nat_lt (length s.kept.buffered) MAX_WAITING ≡ room → (room || false) ≡ true → AddsBelow (Some s) o
    by_room true is e = below_room s o (ltb-true (length s.kept.buffered) MAX_WAITING is)
    by_room false is e = absurd (false≢true e)

    by_over : (over : Bool) → is_over (Some s) ≡ over → (nat_lt (length s.kept.buffered) MAX_WAITING || over) ≡ true → AddsBelow (Some s) o
    by_over true is e = absurd (false≢true (sym unused ∙ over_used (Some s) is))
    by_over false is e = by_room (nat_lt (length s.kept.buffered) MAX_WAITING) refl e

pub sends_below : (p : Proxy) (o : Option servers.State) → p.sent ≡ None → may_turn p ≡ true → is_server_used p.server ≡ false → AddsBelow p.server o
sends_below p o none may unused = sends_by p.sent p.server o none (may_parts p may).1 unused

-- ---- what a server's connection does of its own

-- a change behind which the same bytes wait
abbrev WaitsAsBefore : ClientKept → ClientChange → Type 0
WaitsAsBefore k c = c.kept.buffered ≡ k.buffered

as_change : (k : ClientKept) (c d : ClientChange) → c ≡ d → WaitsAsBefore k d → WaitsAsBefore k c
as_change k c d is x = ap (λ (c : ClientChange). c.kept.buffered) is ∙ x

without_waits : (k : ClientKept) (full : Bool) → WaitsAsBefore k (told_without k full)
without_waits k true = refl
without_waits k false = refl

head_waits : (k : ClientKept) (end : ℕ) (w : Waiting) (ws : List Waiting) (what : AnswerReading) → WaitsAsBefore k (behind_head k end w ws what)
head_waits k end w ws (refused f) = refl
head_waits k end w ws (answer_is a) = by_status (is_interim a.status)
  where
    by_status : (t : Bool) → (if t then record k { unread = drop end k.unread } else behind_final k (drop end k.unread) a w ws).buffered ≡ k.buffered
    by_status true = refl
    by_status false = refl

upcoming_waits : (setting : Setting) (k : ClientKept) (waiting : List Waiting) (coming : Bool) (c : ClientChange) → IsUpcoming setting k waiting coming c → WaitsAsBefore k c
upcoming_waits setting k [] false c x = as_change k c (without_head setting k) x (without_waits k (length k.unread == setting.hold_size))
upcoming_waits setting k (w ∷ ws) false c x = as_change k c (without_head setting k) x (without_waits k (length k.unread == setting.hold_size))
upcoming_waits setting k [] true c x = as_change k c (record { outcome = asked.pending; kept = k }) x refl
upcoming_waits setting k (w ∷ ws) true c (start, end, what, piece, reading, is) = as_change k c (behind_head k end w ws what) is (head_waits k end w ws what)

next_waits : (setting : Setting) (k : ClientKept) (closing : Option ClientEnd) (c : ClientChange) → IsNext setting k closing c → WaitsAsBefore k c
next_waits setting k (Some end) c x = as_change k c (record { outcome = asked.closed end; kept = record k { is_over = true } }) x refl
next_waits setting k None c x = upcoming_waits setting k k.waiting k.is_coming c x

pull_waits : (k : ClientKept) (body : Option ReadingBody) (c : ClientChange) → IsPulling k body c → WaitsAsBefore k c
pull_waits k None c x = as_change k c (record { outcome = asked.pending; kept = k }) x refl
pull_waits k (Some body) c (p, pull, is) = ap (λ (c : ClientChange). c.kept.buffered) is

-- asked for the next answer, for more of a body, or told the time
pub next_keeps : (s t : servers.State) (Says : ClientOutcome → Type 0) → servers.GoesOn s asked.next Says t → t.kept.buffered ≡ s.kept.buffered
next_keeps s t Says x =
    ap (λ (k : ClientKept). k.buffered) x.step.keeps ∙ next_waits (setting_of s.settings) s.kept (client_closing s.kept) x.step.change x.step.changes

pub pull_keeps : (s t : servers.State) (Says : ClientOutcome → Type 0) → servers.GoesOn s asked.pull Says t → t.kept.buffered ≡ s.kept.buffered
pull_keeps s t Says x = ap (λ (k : ClientKept). k.buffered) x.step.keeps ∙ pull_waits s.kept s.kept.reading x.step.change x.step.changes

pub tick_keeps : (s t : servers.State) (moment : ℕ) (Says : ClientOutcome → Type 0) → servers.GoesOn s (asked.tick moment) Says t → t.kept.buffered ≡ s.kept.buffered
tick_keeps s t moment Says x = ap (λ (k : ClientKept). k.buffered) x.step.keeps ∙ ap (λ (c : ClientChange). c.kept.buffered) x.step.changes
