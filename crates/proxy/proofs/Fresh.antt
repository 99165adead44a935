-- Where all that came from a server was read, and a turn begins.
use Rattle.std.proofs.Common.{◌≡◌, ℕ, Bool, true, false, not, ◌&&◌, ◌||◌, inl, inr, List, [], ◌∷◌, ◌++◌, length, Option, Some, None, refl, sym, ap, ◌∙◌, subst, append_assoc, append-nil}
use Rattle.std.specs.Prelude.{is_some, option_map, if◌then◌else◌}
use Rattle.std.proofs.lemmas.Bool.{false≢true, true≢false}
use Rattle.std.proofs.lemmas.List.{nil_from_length}
use Rattle.model_h1.specs.Setting.{Setting}
use Rattle.model_client.specs.AnswerReading.{Answer}
use Rattle.model_client.specs.ClientEvent as asked
use Rattle.model_client.specs.ClientEvent.{ClientEnd}
use Rattle.model_client.specs.ClientKept.{Waiting, ClientKept, is_free, is_waited_for, has_bytes, client_closing, client_allows}
use Rattle.model_client.specs.ClientStep.{IsClientStep}
use Rattle.model_client.specs.ClientTrace.{Happened, IsClientTrace, taken_by, taken}
use Rattle.model_client.proofs.OneStep.{one_state}
use Rattle.model_client.proofs.Left.{step_leaves}
use Rattle.model_client.proofs.Answered.{answered}
use Rattle.h1_client.specs.ClientMeaning as asking
use Rattle.h1_client.specs.ClientMeaning.{request_of}
use Rattle.h1_client.specs.State as servers
use Rattle.h1_encoder.specs.Meaning.{size_of}
use Rattle.proxy.specs.Sides.{MayAsk}
use Rattle.proxy.specs.declared.proxy.Proxy.{Proxy}
use Rattle.proxy.specs.declared.proxy.Unsent.{Unsent}
use Rattle.proxy.specs.declared.proxy.SentRequest.{SentRequest}
use Rattle.proxy.specs.Rests.{is_over, may_turn}
use Rattle.proxy.specs.Fresh.{HasReadAll, is_used, is_server_used, IsToldTime, CannotSend, WaitsOn, SendsOrWaits, SendsWhereItCan, ClosesOver, BeginsWhereItMay, IsReadFrom}

-- ---- a turn

not_false : (b : Bool) → not b ≡ false → b ≡ true
not_false true is = refl
not_false false is = absurd (true≢false is)

pub may_of : (still : Bool) (p : Proxy) → still ≡ not (may_turn p) → still ≡ false → may_turn p ≡ true
may_of still p is now = not_false (may_turn p) (sym is ∙ now)

-- a turn that is made, by what it does where the server connection is to end
pub begins_by : (p q : Proxy) → may_turn p ≡ true → ClosesOver p q → BeginsWhereItMay p q
begins_by p q may closes = inr (may, closes)

-- the same where a request that waits was taken out
pub closes_of_unsent : (p q : Proxy) (u : Option Unsent) → p.unsent ≡ u → ClosesOver (record p { unsent = u }) q → ClosesOver p q
closes_of_unsent p q u is x = subst (λ (o : Option Unsent). ClosesOver (record p { unsent = o }) q) (sym is) x

-- a server connection that goes on
pub goes_on_closes : (p q : Proxy) → is_over p.server ≡ false → ClosesOver p q
goes_on_closes p q goes = λ over none. absurd (false≢true (sym goes ∙ over))

-- a request that was sent on
pub sent_closes : (p q : Proxy) (s : SentRequest) → p.sent ≡ Some s → ClosesOver p q
sent_closes p q s is = λ over none. let no : ◌≡◌ {A = Option SentRequest} (Some s) None = sym is ∙ none in absurd (cc no)

-- one that waits isn't sent on over a connection that is to end
pub over_used : (o : Option servers.State) → is_over o ≡ true → is_server_used o ≡ true
over_used None over = absurd (false≢true over)
over_used (Some s) over = ap (λ (b : Bool). b || is_waited_for s.kept.waiting || not (client_allows (asking.setting_of s.settings) s.kept asked.next)) over

pub unused_closes : (p q : Proxy) → is_server_used p.server ≡ false → ClosesOver p q
unused_closes p q unused = λ over none. absurd (false≢true (sym unused ∙ over_used p.server over))

-- none waited
pub idle_sends : (p q : Proxy) → p.unsent ≡ None → SendsWhereItCan p q
idle_sends p q none = λ u is. let no : ◌≡◌ {A = Option Unsent} None (Some u) = sym none ∙ is in absurd (cc no)

-- no turn may be made
pub still_sends : (p : Proxy) → may_turn p ≡ false → SendsWhereItCan p p
still_sends p still = λ u is. inl (still, refl)

-- one waits, and was taken out
pub sends_of_unsent : (p q : Proxy) (u : Unsent) → p.unsent ≡ Some u → SendsOrWaits u (record p { unsent = Some u }) q → SendsWhereItCan p q
sends_of_unsent p q u is x = λ v waits.
    let both : ◌≡◌ {A = Option Unsent} (Some u) (Some v) = sym is ∙ waits in
    let same : u ≡ v = cc both in
    inr (subst (λ (w : Unsent). SendsOrWaits w p q) same (subst (λ (o : Option Unsent). SendsOrWaits u (record p { unsent = o }) q) (sym is) x))

-- ---- a request waits on

pub used_some : (s : Option servers.State) → is_server_used s ≡ true → is_some s ≡ true
used_some (Some s) used = refl
used_some None used = absurd (false≢true used)

pub cannot_used : (u : Unsent) (moment : Option ℕ) (s : Option servers.State) → is_server_used s ≡ true → CannotSend u moment s
cannot_used u moment (Some s) used = inl used
cannot_used u moment None used = absurd (false≢true used)

pub cannot_none : (u : Unsent) (moment : Option ℕ) (s : Option servers.State) → s ≡ None → CannotSend u moment s
cannot_none u moment s none = subst (λ (s : Option servers.State). CannotSend u moment s) (sym none) tt

pub cannot_refused : (u : Unsent) (moment : Option ℕ) (s : Option servers.State) (a told after : servers.State) (asked_it : Bool) → s ≡ Some a
    → IsToldTime moment a told → MayAsk asked_it (request_of u.head) (size_of u.size) told after → asked_it ≡ false → CannotSend u moment s
cannot_refused u moment s a told after asked_it is tells may not_asked =
    let refused = subst (λ (b : Bool). MayAsk b (request_of u.head) (size_of u.size) told after) not_asked may in
    subst (λ (s : Option servers.State). CannotSend u moment s) (sym is) (inr (told, tells, refused.refused))

-- the server connection was taken out
pub waits_as : (u : Unsent) (p : Proxy) (o : Option servers.State) → o ≡ None → CannotSend u p.moment p.server → WaitsOn u p (record p { server = o })
waits_as u p o is cannot = record { cannot = cannot; waits = ap (λ (o : Option servers.State). record p { server = o }) is }

-- ---- all was read

abbrev reason : Option ClientEnd → Bool → Bool → Bool → Option ClientEnd → Option ClientEnd
reason failed free closes unasked rest =
    if is_some failed then failed
    else (if not free then None else (if closes then Some asked.asked else (if unasked then Some asked.unasked else rest)))

none_unasked : (failed : Option ClientEnd) (free closes unasked : Bool) (rest : Option ClientEnd) → free ≡ true → reason failed free closes unasked rest ≡ None
    → unasked ≡ false
none_unasked (Some e) free closes unasked rest is none = let no : ◌≡◌ {A = Option ClientEnd} (Some e) None = none in absurd (cc no)
none_unasked None false closes unasked rest is none = absurd (false≢true is)
none_unasked None true true unasked rest is none = let no : ◌≡◌ {A = Option ClientEnd} (Some asked.asked) None = none in absurd (cc no)
none_unasked None true false true rest is none = let no : ◌≡◌ {A = Option ClientEnd} (Some asked.unasked) None = none in absurd (cc no)
none_unasked None true false false rest is none = refl

no_bytes : (waiting : List Waiting) (unread : List ℕ) → waiting ≡ [] → (not (is_waited_for waiting) && has_bytes unread) ≡ false → unread ≡ []
no_bytes (w ∷ ws) unread none is = let no : ◌≡◌ {A = List Waiting} (w ∷ ws) [] = none in absurd (cc no)
no_bytes [] [] none is = refl
no_bytes [] (b ∷ unread) none is = absurd (true≢false is)

free_of : (over free : Bool) (closing : Option ClientEnd) → closing ≡ None → (not over && true && (if is_some closing then true else free)) ≡ true → free ≡ true
free_of true free closing none is = absurd (false≢true is)
free_of false free (Some e) none is = let no : ◌≡◌ {A = Option ClientEnd} (Some e) None = none in absurd (cc no)
free_of false free None none is = is

pub some_mapped : {A B : Type 0} → (f : A → B) → (o : Option A) → is_some (option_map f o) ≡ is_some o
some_mapped f None = refl
some_mapped f (Some a) = refl

none_of : {A : Type 0} → (o : Option A) → is_some o ≡ false → o ≡ None
none_of None is = refl
none_of (Some a) is = absurd (true≢false is)

nobody : (waiting : List Waiting) → is_waited_for waiting ≡ false → waiting ≡ []
nobody [] is = refl
nobody (w ∷ ws) is = absurd (true≢false is)

-- what tells that it is not used
pub unused : (closes waits may : Bool) → (closes || waits || not may) ≡ false → (closes ≡ false) × (waits ≡ false) × (may ≡ true)
unused false false true is = (refl, refl, refl)
unused true waits may is = absurd (true≢false is)
unused false true may is = absurd (true≢false is)
unused false false false is = absurd (true≢false is)

pub used_closes : (closes waits may : Bool) → closes ≡ true → false ≡ not (closes || waits || not may)
used_closes true waits may is = refl
used_closes false waits may is = absurd (false≢true is)

pub used_waits : (closes : Bool) (waiting : List Waiting) (may : Bool) → (length waiting ≡ 0 → ⊥) → false ≡ not (closes || is_waited_for waiting || not may)
used_waits true waiting may some = refl
used_waits false (w ∷ ws) may some = refl
used_waits false [] may some = absurd (some refl)

pub used_next : (closes : Bool) (waiting : List Waiting) (may : Bool) → closes ≡ false → length waiting ≡ 0 → may ≡ not (closes || is_waited_for waiting || not may)
used_next false [] true goes few = refl
used_next false [] false goes few = refl
used_next true waiting may goes few = absurd (true≢false goes)
used_next false (w ∷ ws) may goes few = let no : ◌≡◌ {A = List Waiting} (w ∷ ws) [] = nil_from_length (w ∷ ws) few in absurd (cc no)

pub read_all : (s : servers.State) → is_used s ≡ false → HasReadAll s
read_all s is =
    let k = s.kept in
    let x = unused (is_some (client_closing k)) (is_waited_for k.waiting) (client_allows (asking.setting_of s.settings) k asked.next) is in
    let none = none_of (client_closing k) x.0 in
    let waiting = nobody k.waiting x.1 in
    let may = x.2 in
    let free = free_of k.is_over (is_free k) (client_closing k) none may in
    let quiet = none_unasked k.failed (is_free k) k.closes (not (is_waited_for k.waiting) && has_bytes k.unread)
    (if k.has_ended && not k.is_coming then Some asked.input_ended else None) free none in
    record { waiting = waiting; free = free; unread = no_bytes k.waiting k.unread waiting quiet }

-- ---- what is read after it

-- all that happened leaves one state
one_trace : (setting : Setting) (trace : List Happened) (k m : ClientKept) → IsClientTrace setting trace k → IsClientTrace setting trace m → k ≡ m
one_trace setting [] k m x y = x ∙ sym y
one_trace setting (s ∷ before) k m (a, first, may, one) (b, second, might, two) =
    let same = one_trace setting before a b first second in
    one_state setting b s.event s.outcome s.outcome k m (subst (λ (a : ClientKept). IsClientStep setting a s.event s.outcome k) same one) two

abbrev Leaves : List ℕ → List ℕ → Type 0
Leaves bytes left = (passed : List ℕ) × (bytes ≡ passed ++ left)

leaves_of : (bytes mid left : List ℕ) → Leaves bytes mid → Leaves mid left → Leaves bytes left
leaves_of bytes mid left (a, x) (b, y) = (a ++ b, x ∙ ap (λ (l : List ℕ). a ++ l) y ∙ sym (append_assoc a b left))

leaves_more : (bytes left more : List ℕ) → Leaves bytes left → Leaves (bytes ++ more) (left ++ more)
leaves_more bytes left more (a, x) = (a, ap (λ (l : List ℕ). l ++ more) x ∙ append_assoc a left more)

-- what is left was taken later
later_left : (setting : Setting) (before more : List Happened) (k m : ClientKept) → IsClientTrace setting before k → k.unread ≡ []
    → IsClientTrace setting (more ++ before) m → (later : List ℕ) × (taken (more ++ before) ≡ taken before ++ later) × Leaves later m.unread
later_left setting before [] k m first none second =
    let same = one_trace setting before m k second first in
    ([], sym (append-nil (taken before)), ([], sym (ap (λ (k : ClientKept). k.unread) same ∙ none)))
later_left setting before (s ∷ more) k m first none (b, second, may, step) =
    let x = later_left setting before more k b first none second in
    let t = taken_by s.event s.outcome in (
      x.0 ++ t,
      ap (λ (l : List ℕ). l ++ t) x.1 ∙ append_assoc (taken before) x.0 t,
      leaves_of (x.0 ++ t) (b.unread ++ t) m.unread (leaves_more x.0 b.unread t x.2) (step_leaves setting b m s.event s.outcome step),
    )

pub later_answer : (setting : Setting) (before more : List Happened) (k m next : ClientKept) (a : Answer) → IsClientTrace setting before k → k.unread ≡ []
    → IsClientTrace setting (more ++ before) m → IsClientStep setting m asked.next (asked.answer a) next
    → (later : List ℕ) × (taken (more ++ before) ≡ taken before ++ later) × IsReadFrom setting later a
later_answer setting before more k m next a first none second step =
    let x = later_left setting before more k m first none second in
    let y = answered setting m next a step in (
      x.0,
      x.1,
      record { passed = x.2.0; unread = m.unread; are = x.2.1; start = y.start; end = y.end; piece = y.piece; reading = y.reading },
    )
