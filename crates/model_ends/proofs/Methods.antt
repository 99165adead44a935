-- The requests that a server took are those that its client asked, by their methods.
use Rattle.std.proofs.Common.{◌≡◌, ℕ, Bool, true, false, List, [], ◌∷◌, ◌++◌, map, reverse, Option, Some, None, refl, sym, ap, ap₂, ◌∙◌, subst, append-nil}
use Rattle.std.specs.Prelude.{⊤}
use Rattle.std.specs.List.{AllByRecursion}
use Rattle.std.proofs.lemmas.Grind.{reverse_onto}
use Rattle.model_h1.specs.Request.{Head, Fault, Reading, head_is, faulty}
use Rattle.model_h1.specs.Event.{Outcome}
use Rattle.model_h1.specs.Event as on
use Rattle.model_h1.specs.Sums.{Step, head_of, completes}
use Rattle.model_h1.specs.Handed.{Item, item_bytes, item_trailers, item_end, item_fault, item_frame, Handed, HandedOut, with_item, handing, marking_answered, handed_out}
use Rattle.model_h1.specs.Laws.Exchanges.{Exchange, exchanges, heads}
use Rattle.model_h1.proofs.ExchangeTraces.{exchange_heads}
use Rattle.model_client.specs.ClientEvent as client
use Rattle.model_client.specs.ClientEvent.{ClientEvent}
use Rattle.model_client.specs.ClientKept.{Waiting}
use Rattle.model_client.specs.ClientTrace.{Happened, requests_by, requests_of, now_of}
use Rattle.model_ends.specs.SentAnswer.{methods_asked}
use Rattle.model_ends.specs.AskedTrace.{AskedRequest, with_piece, of_newest, asked_behind, requests_asked, AreServedOut}
use Rattle.model_ends.proofs.Holds.{methods_of}

-- a list is turned before or after a map
pub turned_map : {A B : Type 0} (f : A → B) (xs : List A) → reverse (map f xs) ≡ map f (reverse xs)
turned_map f [] = refl
turned_map {A} {B} f (x ∷ xs) =
    reverse_onto (map f xs) (f x) [] ∙ ap (λ (l : List B). l ++ f x ∷ []) (turned_map f xs)
    ∙ sym (ap (map f) (reverse_onto xs x []) ∙ map_more (reverse xs) x)
  where
    map_more : (ys : List A) (y : A) → map f (ys ++ y ∷ []) ≡ map f ys ++ f y ∷ []
    map_more [] y = refl
    map_more (z ∷ ys) y = ap (λ (l : List B). f z ∷ l) (map_more ys y)

-- ---- what a server handed out

abbrev pub method_read : Reading → List ℕ
method_read (head_is h) = h.method
method_read (faulty f) = []

abbrev IsHead : Reading → Type 0
IsHead (head_is h) = ⊤
IsHead (faulty f) = ⊥

abbrev names : List Handed → List (List ℕ)
names hs = map (λ (h : Handed). method_read h.reading) hs

abbrev AreHeads : List Handed → Type 0
AreHeads hs = AllByRecursion (λ (h : Handed). IsHead h.reading) hs

-- an item, and that an answer is complete, change no head
item_names : (item : Item) (out : HandedOut) → names (with_item item out).messages ≡ names out.messages
item_names item out = by_messages out.messages
  where
    by_messages : (ms : List Handed) → names (with_item item (record { stray = out.stray; messages = ms })).messages ≡ names ms
    by_messages [] = refl
    by_messages (m ∷ ms) = refl

marked_names : (t : Bool) (out : HandedOut) → names (marking_answered t out).messages ≡ names out.messages
marked_names false out = refl
marked_names true out = by_messages out.messages
  where
    by_messages : (ms : List Handed) → names (marking_answered true (record { stray = out.stray; messages = ms })).messages ≡ names ms
    by_messages [] = refl
    by_messages (m ∷ ms) = refl

item_heads : (item : Item) (out : HandedOut) → AreHeads (with_item item out).messages → AreHeads out.messages
item_heads item out x = by_messages out.messages x
  where
    by_messages : (ms : List Handed) → AreHeads (with_item item (record { stray = out.stray; messages = ms })).messages → AreHeads ms
    by_messages [] x = tt
    by_messages (m ∷ ms) x = x

marked_heads : (t : Bool) (out : HandedOut) → AreHeads (marking_answered t out).messages → AreHeads out.messages
marked_heads false out x = x
marked_heads true out x = by_messages out.messages x
  where
    by_messages : (ms : List Handed) → AreHeads (marking_answered true (record { stray = out.stray; messages = ms })).messages → AreHeads ms
    by_messages [] x = tt
    by_messages (m ∷ ms) x = x

abbrev with_name : Option Head → List (List ℕ) → List (List ℕ)
with_name None rest = rest
with_name (Some h) rest = h.method ∷ rest

-- what an outcome adds where nothing is faulty
record Adds (o : Outcome) (out : HandedOut) : Type 0 where
  sound : (f : Fault) → o ≡ on.fault f → ⊥
  before : AreHeads out.messages
  named : (rest : List (List ℕ)) → names out.messages ≡ rest → names (handing o out).messages ≡ with_name (head_of o) rest

adds : (o : Outcome) (out : HandedOut) → AreHeads (handing o out).messages → Adds o out
adds (on.head h) out x = record { sound = λ f e. cc; before = x.1; named = λ rest is. ap (λ (l : List (List ℕ)). h.method ∷ l) is }
adds (on.fault f) out x = absurd x.0
adds (on.bytes more) out x = record { sound = λ f e. cc; before = item_heads (item_bytes more) out x; named = λ rest is. item_names (item_bytes more) out ∙ is }
adds (on.trailers lines) out x = record { sound = λ f e. cc; before = item_heads (item_trailers lines) out x; named = λ rest is. item_names (item_trailers lines) out ∙ is }
adds on.body_ended out x = record { sound = λ f e. cc; before = item_heads item_end out x; named = λ rest is. item_names item_end out ∙ is }
adds (on.broken_by fault) out x = record { sound = λ f e. cc; before = item_heads (item_fault fault) out x; named = λ rest is. item_names (item_fault fault) out ∙ is }
adds (on.frame frame) out x = record { sound = λ f e. cc; before = item_heads (item_frame frame) out x; named = λ rest is. item_names (item_frame frame) out ∙ is }
adds (on.took n) out x = record { sound = λ f e. cc; before = x; named = λ rest is. is }
adds on.pending out x = record { sound = λ f e. cc; before = x; named = λ rest is. is }
adds (on.closed end) out x = record { sound = λ f e. cc; before = x; named = λ rest is. is }
adds (on.protocol error) out x = record { sound = λ f e. cc; before = x; named = λ rest is. is }
adds (on.refused error) out x = record { sound = λ f e. cc; before = x; named = λ rest is. is }
adds (on.gave bytes) out x = record { sound = λ f e. cc; before = x; named = λ rest is. is }
adds (on.expired end) out x = record { sound = λ f e. cc; before = x; named = λ rest is. is }
adds on.abandoned out x = record { sound = λ f e. cc; before = x; named = λ rest is. is }
adds on.done out x = record { sound = λ f e. cc; before = x; named = λ rest is. is }

-- where no head is faulty none was told to be, and the heads are those that were handed out
pub record AreSound (trace : List Step) : Type 0 where
  pub no_fault : AllByRecursion (λ (s : Step). (f : Fault) → ¬ (s.outcome ≡ on.fault f)) trace
  pub named : names (handed_out trace).messages ≡ map (λ (h : Head). h.method) (heads trace)

sound_of : (trace : List Step) → AreHeads (handed_out trace).messages → AreSound trace
unfolding handed_out
sound_of [] x = record { no_fault = tt; named = refl }
sound_of (s ∷ before) x =
    let out = handed_out before in
    let a = adds s.outcome out (marked_heads (completes s.event) (handing s.outcome out) x) in
    let old = sound_of before a.before in
    record {
      no_fault = (a.sound, old.no_fault);
      named = marked_names (completes s.event) (handing s.outcome out) ∙ a.named (map (λ (h : Head). h.method) (heads before)) old.named ∙ more_heads s.outcome;
    }
  where
    more_heads : (o : Outcome) → with_name (head_of o) (map (λ (h : Head). h.method) (heads before)) ≡ map (λ (h : Head). h.method) (heads (record { event = s.event; outcome = o } ∷ before))
    more_heads (on.head h) = refl
    more_heads (on.fault f) = refl
    more_heads (on.bytes more) = refl
    more_heads (on.trailers lines) = refl
    more_heads on.body_ended = refl
    more_heads (on.broken_by fault) = refl
    more_heads (on.frame frame) = refl
    more_heads (on.took n) = refl
    more_heads on.pending = refl
    more_heads (on.closed end) = refl
    more_heads (on.protocol error) = refl
    more_heads (on.refused error) = refl
    more_heads (on.gave bytes) = refl
    more_heads (on.expired end) = refl
    more_heads on.abandoned = refl
    more_heads on.done = refl

-- ---- against the requests

served_heads : (e : Bool) (hs : List Handed) (rs : List AskedRequest) → AreServedOut e hs rs → AreHeads hs
served_heads e [] rs x = tt
served_heads e (h ∷ hs) [] x = absurd x
served_heads e (h ∷ hs) (r ∷ rs) x = (subst IsHead (sym x.0.reading) tt, served_heads e hs rs x.1)

heads_more : (hs : List Handed) (h : Handed) → AreHeads (hs ++ h ∷ []) → AreHeads (h ∷ hs)
heads_more [] h x = x
heads_more (k ∷ hs) h x = let r = heads_more hs h x.1 in (r.0, (x.0, r.1))

turned_heads : (hs : List Handed) → AreHeads (reverse hs) → AreHeads hs
turned_heads [] x = tt
turned_heads (h ∷ hs) x =
    let r = heads_more (reverse hs) h (subst AreHeads (reverse_onto hs h []) x) in (r.0, turned_heads hs r.1)

abbrev asked_names : List AskedRequest → List (List ℕ)
asked_names rs = map (λ (r : AskedRequest). r.given.head.method) rs

served_names : (e : Bool) (hs : List Handed) (rs : List AskedRequest) → AreServedOut e hs rs → (further : List (List ℕ)) × (asked_names rs ≡ names hs ++ further)
served_names e [] rs x = (asked_names rs, refl)
served_names e (h ∷ hs) [] x = absurd x
served_names e (h ∷ hs) (r ∷ rs) x =
    let others = served_names e hs rs x.1 in
    (others.0, ap₂ (λ (m : List ℕ) (l : List (List ℕ)). m ∷ l) (sym (ap method_read x.0.reading)) others.1)

pub sound_from : (e : Bool) (trace : List Step) (rs : List AskedRequest) → AreServedOut e (reverse (handed_out trace).messages) rs → AreSound trace
sound_from e trace rs x =
    sound_of trace (turned_heads (handed_out trace).messages (served_heads e (reverse (handed_out trace).messages) rs x))

-- ---- what a client asked

newest_names : (change : AskedRequest → AskedRequest) (rs : List AskedRequest) → ((a : AskedRequest) → (change a).given.head.method ≡ a.given.head.method)
    → asked_names (of_newest change rs) ≡ asked_names rs
newest_names change [] same = refl
newest_names change (a ∷ rs) same = ap (λ (m : List ℕ). m ∷ asked_names rs) (same a)

changed_names : (change : AskedRequest → AskedRequest) (rs : List AskedRequest) → ((a : AskedRequest) → (change a).given.head.method ≡ a.given.head.method)
    → asked_names (reverse (of_newest change rs)) ≡ asked_names (reverse rs) ++ []
changed_names change rs same =
    let f : AskedRequest → List ℕ = λ r. r.given.head.method in
    sym (turned_map f (of_newest change rs)) ∙ ap reverse (newest_names change rs same) ∙ turned_map f rs ∙ sym (append-nil (asked_names (reverse rs)))

behind_names : (event : ClientEvent) (now : ℕ) (rs : List AskedRequest)
    → asked_names (reverse (asked_behind event now rs)) ≡ asked_names (reverse rs) ++ methods_of (requests_by event)
behind_names (client.ask r size) now rs =
    let a : AskedRequest = record { given = record { head = r.head; size = size; kind = r.connection; moment = now; pieces = [] }; is_ended = false } in
    sym (turned_map (λ (r : AskedRequest). r.given.head.method) (a ∷ rs)) ∙ reverse_onto (asked_names rs) r.head.method []
    ∙ ap (λ (l : List (List ℕ)). l ++ r.head.method ∷ []) (turned_map (λ (r : AskedRequest). r.given.head.method) rs)
behind_names (client.chunk bytes) now rs = changed_names (with_piece bytes) rs (λ a. refl)
behind_names client.body_end now rs = changed_names (λ (a : AskedRequest). record a { is_ended = true }) rs (λ a. refl)
behind_names client.body_error now rs = sym (append-nil (asked_names (reverse rs)))
behind_names (client.read bytes) now rs = sym (append-nil (asked_names (reverse rs)))
behind_names client.eof now rs = sym (append-nil (asked_names (reverse rs)))
behind_names client.next now rs = sym (append-nil (asked_names (reverse rs)))
behind_names client.pull now rs = sym (append-nil (asked_names (reverse rs)))
behind_names client.drop_body now rs = sym (append-nil (asked_names (reverse rs)))
behind_names (client.write n) now rs = sym (append-nil (asked_names (reverse rs)))
behind_names (client.tick ms) now rs = sym (append-nil (asked_names (reverse rs)))

names_of : (trace : List Happened) → methods_of (requests_of trace) ≡ asked_names (reverse (requests_asked trace))
unfolding requests_asked
names_of [] = refl
names_of (s ∷ before) =
    both_map (requests_of before) (requests_by s.event) ∙ ap (λ (l : List (List ℕ)). l ++ methods_of (requests_by s.event)) (names_of before)
    ∙ sym (behind_names s.event (now_of before) (requests_asked before))
  where
    both_map : (xs ys : List Waiting) → methods_of (xs ++ ys) ≡ methods_of xs ++ methods_of ys
    both_map [] ys = refl
    both_map (x ∷ xs) ys = ap (λ (l : List (List ℕ)). x.method ∷ l) (both_map xs ys)

-- ---- both

-- no head that was handed out is faulty, and the client asked those requests, and perhaps further ones
pub agreed_methods : (e : Bool) (trace : List Step) (asked : List Happened) → AreServedOut e (reverse (handed_out trace).messages) (reverse (requests_asked asked))
    → AllByRecursion (λ (s : Step). (f : Fault) → ¬ (s.outcome ≡ on.fault f)) trace
    × ((further : List (List ℕ)) × (methods_of (requests_of asked) ≡ methods_asked trace ++ further))
agreed_methods e trace asked x =
    let hs = reverse (handed_out trace).messages in
    let rs = reverse (requests_asked asked) in
    let sound = sound_of trace (turned_heads (handed_out trace).messages (served_heads e hs rs x)) in
    let further = served_names e hs rs x in
    let es = exchanges trace in
    let taken : names hs ≡ methods_asked trace =
    sym (turned_map (λ (h : Handed). method_read h.reading) (handed_out trace).messages) ∙ ap reverse sound.named
    ∙ ap (λ (l : List Head). reverse (map (λ (h : Head). h.method) l)) (sym (exchange_heads trace))
    ∙ ap reverse (map_map es) ∙ turned_map (λ (e : Exchange). e.head.method) es in
    (sound.no_fault, (further.0, names_of asked ∙ further.1 ∙ ap (λ (l : List (List ℕ)). l ++ further.0) taken))
  where
    map_map : (es : List Exchange) → map (λ (h : Head). h.method) (map (λ (e : Exchange). e.head) es) ≡ map (λ (e : Exchange). e.head.method) es
    map_map [] = refl
    map_map (e ∷ es) = ap (λ (l : List (List ℕ)). e.head.method ∷ l) (map_map es)
