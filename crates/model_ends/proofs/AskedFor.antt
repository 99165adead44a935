-- The requests that a server took are those that wait at its client, with what they ask of the connection.
use Rattle.std.proofs.Common.{◌≡◌, ℕ, Bool, true, false, not, ◌&&◌, ◌||◌, eqb, cond, List, [], ◌∷◌, ◌++◌, map, filter, reverse, refl, sym, ap, ◌∙◌, subst, append-nil}
use Rattle.std.specs.Prelude.{bytes_eq, codes, ⊤}
use Rattle.std.specs.List.{AllByRecursion}
use Rattle.std.proofs.lemmas.Bool.{false≢true}
use Rattle.std.proofs.lemmas.Grind.{reverse_onto}
use Rattle.std.proofs.lemmas.Slice.Eq.{bytes_eq-Decides}
use Rattle.model_h1.specs.Request.{Header, Head, Fault, Reading, head_is}
use Rattle.model_h1.specs.LengthTable.{values_of}
use Rattle.model_h1.specs.Answer.{AnswerHead, Shape, is_raw}
use Rattle.model_h1.specs.AnswerText.{by_name, is_sent}
use Rattle.model_h1.specs.Event.{Outcome}
use Rattle.model_h1.specs.Event as on
use Rattle.model_h1.specs.Sums.{Step, completes}
use Rattle.model_h1.specs.Handed.{Item, item_bytes, item_trailers, item_end, item_fault, item_frame, Handed, HandedOut, with_item, handing, marking_answered, handed_out}
use Rattle.model_h1.specs.Laws.Exchanges.{Exchange, exchanges, heads}
use Rattle.model_h1.proofs.ExchangeTraces.{exchange_heads}
use Rattle.model_client.specs.RequestText.{as_answer, asked_shape}
use Rattle.model_client.specs.ClientEvent as client
use Rattle.model_client.specs.ClientEvent.{ClientRequest, ClientEvent}
use Rattle.model_client.specs.ClientKept.{Waiting, waiting_of}
use Rattle.model_client.specs.ClientTrace.{Happened, requests_by, requests_of, now_of}
use Rattle.model_ends.specs.SentRequest.{sent_request}
use Rattle.model_ends.proofs.ConnectionTypes.{connection_read}
use Rattle.model_ends.proofs.Framing.{values-append}
use Rattle.model_ends.proofs.ValuesByName.{by_name_values}
use Rattle.model_ends.specs.AskedTrace.{AskedRequest, newly_asked, with_piece, of_newest, asked_behind, requests_asked, IsPlainAsked, AreServedOut}
use Rattle.model_ends.proofs.Methods.{turned_map}

-- the request that waits is that of this head: it asks the same of the connection, and for no other protocol
pub record IsFor (w : Waiting) (h : Head) : Type 0 where
  pub request : ClientRequest
  pub is : w ≡ waiting_of request
  pub method : request.head.method ≡ h.method
  pub connection : request.connection ≡ h.connection
  pub none : values_of (codes "upgrade") request.head.headers ≡ []

-- so are the first of them, in their order
abbrev pub AreFor : List Waiting → List Exchange → Type 0
AreFor ws [] = ⊤
AreFor [] (e ∷ es) = ⊥
AreFor (w ∷ ws) (e ∷ es) = IsFor w e.head × AreFor ws es

-- ---- no line asks for another protocol

-- lines of a name that are all sent keep their values
all_kept : (name : List ℕ) (keeps : Header → Bool) → ((h : Header) → bytes_eq h.name name ≡ true → keeps h ≡ true) → (hs : List Header)
    → values_of name (filter keeps hs) ≡ values_of name hs
all_kept name keeps kept [] = refl
all_kept name keeps kept (h ∷ hs) = by_test (bytes_eq h.name name) refl (keeps h) refl (all_kept name keeps kept hs)
  where
    front : List Header → List (List ℕ)
    front l = values_of name (h ∷ []) ++ values_of name l

    by_test : (n : Bool) → bytes_eq h.name name ≡ n → (t : Bool) → keeps h ≡ t → values_of name (filter keeps hs) ≡ values_of name hs
        → values_of name (cond t (h ∷ filter keeps hs) (filter keeps hs)) ≡ values_of name (h ∷ hs)
    by_test n is true sent others =
        values-append name (h ∷ []) (filter keeps hs) ∙ ap (λ (l : List (List ℕ)). values_of name (h ∷ []) ++ l) others
        ∙ sym (values-append name (h ∷ []) hs)
    by_test false other false dropped others =
        let none : values_of name (h ∷ []) ≡ [] = ap (λ (t : Bool). map (λ (k : Header). k.value) (cond t (h ∷ []) [])) other in
        others ∙ ap (λ (l : List (List ℕ)). l ++ values_of name hs) (sym none) ∙ sym (values-append name (h ∷ []) hs)
    by_test true is false dropped others = absurd (false≢true (sym dropped ∙ kept h is))

upgrade_sent : (answer : AnswerHead) (shape : Shape) (h : Header) → bytes_eq h.name (codes "upgrade") ≡ true → is_sent answer shape h ≡ true
upgrade_sent answer shape h is =
    ap (λ (n : List ℕ). not (bytes_eq n (codes "connection")) && (not (bytes_eq n (codes "content-length") || bytes_eq n (codes "transfer-encoding"))
    || eqb answer.status 304 || (is_raw shape && not (eqb answer.status 101)))) ((bytes_eq-Decides h.name (codes "upgrade")).0 is)

no_upgrade : (size : ℕ) (a : AskedRequest) → IsPlainAsked size a → values_of (codes "upgrade") a.given.head.headers ≡ []
no_upgrade size a plain =
    let r = a.given.head in
    let shape = asked_shape a.given.size in
    sym (by_name_values (codes "upgrade") r.headers)
    ∙ sym (all_kept (codes "upgrade") (is_sent (as_answer r) shape) (upgrade_sent (as_answer r) shape) (by_name r.headers)) ∙ plain.head.no_upgrade

-- ---- who waits

abbrev waits_as : AskedRequest → Waiting
waits_as a = waiting_of (record { head = a.given.head; connection = a.given.kind })

newest_waits : (change : AskedRequest → AskedRequest) (rs : List AskedRequest) → ((a : AskedRequest) → waits_as (change a) ≡ waits_as a)
    → map waits_as (of_newest change rs) ≡ map waits_as rs
newest_waits change [] same = refl
newest_waits change (a ∷ rs) same = ap (λ (w : Waiting). w ∷ map waits_as rs) (same a)

changed_waits : (change : AskedRequest → AskedRequest) (rs : List AskedRequest) → ((a : AskedRequest) → waits_as (change a) ≡ waits_as a)
    → map waits_as (reverse (of_newest change rs)) ≡ map waits_as (reverse rs) ++ []
changed_waits change rs same =
    sym (turned_map waits_as (of_newest change rs)) ∙ ap reverse (newest_waits change rs same) ∙ turned_map waits_as rs
    ∙ sym (append-nil (map waits_as (reverse rs)))

behind_waits : (event : ClientEvent) (now : ℕ) (rs : List AskedRequest)
    → map waits_as (reverse (asked_behind event now rs)) ≡ map waits_as (reverse rs) ++ requests_by event
behind_waits (client.ask r size) now rs =
    sym (turned_map waits_as (newly_asked r size now ∷ rs)) ∙ reverse_onto (map waits_as rs) (waiting_of r) []
    ∙ ap (λ (l : List Waiting). l ++ waiting_of r ∷ []) (turned_map waits_as rs)
behind_waits (client.chunk bytes) now rs = changed_waits (with_piece bytes) rs (λ a. refl)
behind_waits client.body_end now rs = changed_waits (λ (a : AskedRequest). record a { is_ended = true }) rs (λ a. refl)
behind_waits client.body_error now rs = sym (append-nil (map waits_as (reverse rs)))
behind_waits (client.read bytes) now rs = sym (append-nil (map waits_as (reverse rs)))
behind_waits client.eof now rs = sym (append-nil (map waits_as (reverse rs)))
behind_waits client.next now rs = sym (append-nil (map waits_as (reverse rs)))
behind_waits client.pull now rs = sym (append-nil (map waits_as (reverse rs)))
behind_waits client.drop_body now rs = sym (append-nil (map waits_as (reverse rs)))
behind_waits (client.write n) now rs = sym (append-nil (map waits_as (reverse rs)))
behind_waits (client.tick ms) now rs = sym (append-nil (map waits_as (reverse rs)))

waits_are : (trace : List Happened) → requests_of trace ≡ map waits_as (reverse (requests_asked trace))
unfolding requests_asked
waits_are [] = refl
waits_are (s ∷ before) =
    ap (λ (l : List Waiting). l ++ requests_by s.event) (waits_are before) ∙ sym (behind_waits s.event (now_of before) (requests_asked before))

-- ---- which heads were handed out

abbrev readings : List Handed → List Reading
readings hs = map (λ (h : Handed). h.reading) hs

item_readings : (item : Item) (out : HandedOut) → readings (with_item item out).messages ≡ readings out.messages
item_readings item out = by_messages out.messages
  where
    by_messages : (ms : List Handed) → readings (with_item item (record { stray = out.stray; messages = ms })).messages ≡ readings ms
    by_messages [] = refl
    by_messages (m ∷ ms) = refl

marked_readings : (t : Bool) (out : HandedOut) → readings (marking_answered t out).messages ≡ readings out.messages
marked_readings false out = refl
marked_readings true out = by_messages out.messages
  where
    by_messages : (ms : List Handed) → readings (marking_answered true (record { stray = out.stray; messages = ms })).messages ≡ readings ms
    by_messages [] = refl
    by_messages (m ∷ ms) = refl

-- a step that tells no fault adds its head
adds_reading : (s : Step) (before : List Step) (out : HandedOut) (o : Outcome) → s.outcome ≡ o → ((f : Fault) → ¬ (o ≡ on.fault f))
    → readings out.messages ≡ map head_is (heads before) → readings (handing o out).messages ≡ map head_is (heads (record { event = s.event; outcome = o } ∷ before))
adds_reading s before out (on.head h) is sound old = ap (λ (l : List Reading). head_is h ∷ l) old
adds_reading s before out (on.fault f) is sound old = absurd (sound f refl)
adds_reading s before out (on.bytes more) is sound old = item_readings (item_bytes more) out ∙ old
adds_reading s before out (on.trailers lines) is sound old = item_readings (item_trailers lines) out ∙ old
adds_reading s before out on.body_ended is sound old = item_readings item_end out ∙ old
adds_reading s before out (on.broken_by fault) is sound old = item_readings (item_fault fault) out ∙ old
adds_reading s before out (on.frame frame) is sound old = item_readings (item_frame frame) out ∙ old
adds_reading s before out (on.took n) is sound old = old
adds_reading s before out on.pending is sound old = old
adds_reading s before out (on.closed end) is sound old = old
adds_reading s before out (on.protocol error) is sound old = old
adds_reading s before out (on.refused error) is sound old = old
adds_reading s before out (on.gave bytes) is sound old = old
adds_reading s before out (on.expired end) is sound old = old
adds_reading s before out on.abandoned is sound old = old
adds_reading s before out on.done is sound old = old

abbrev HasNoFault : List Step → Type 0
HasNoFault trace = AllByRecursion (λ (s : Step). (f : Fault) → ¬ (s.outcome ≡ on.fault f)) trace

head_readings : (trace : List Step) → HasNoFault trace → readings (handed_out trace).messages ≡ map head_is (heads trace)
unfolding handed_out
head_readings [] x = refl
head_readings (s ∷ before) x =
    marked_readings (completes s.event) (handing s.outcome (handed_out before))
    ∙ adds_reading s before (handed_out before) s.outcome refl x.0 (head_readings before x.1)

-- in the order in which they came
turned_readings : (trace : List Step) → HasNoFault trace
    → readings (reverse (handed_out trace).messages) ≡ map (λ (e : Exchange). head_is e.head) (reverse (exchanges trace))
turned_readings trace x =
    sym (turned_map (λ (h : Handed). h.reading) (handed_out trace).messages) ∙ ap reverse (head_readings trace x)
    ∙ ap (λ (l : List Head). reverse (map head_is l)) (sym (exchange_heads trace)) ∙ ap reverse (both_maps (exchanges trace))
    ∙ turned_map (λ (e : Exchange). head_is e.head) (exchanges trace)
  where
    both_maps : (es : List Exchange) → map head_is (map (λ (e : Exchange). e.head) es) ≡ map (λ (e : Exchange). head_is e.head) es
    both_maps [] = refl
    both_maps (e ∷ es) = ap (λ (l : List Reading). head_is e.head ∷ l) (both_maps es)

-- ---- both

each_for : (e : Bool) (size : ℕ) (hs : List Handed) (rs : List AskedRequest) (es : List Exchange) → AreServedOut e hs rs
    → readings hs ≡ map (λ (e : Exchange). head_is e.head) es → AllByRecursion (IsPlainAsked size) rs → AreFor (map waits_as rs) es
each_for e size [] rs [] served same plain = tt
each_for e size [] rs (x ∷ es) served same plain = absurd (cc same)
each_for e size (h ∷ hs) [] es served same plain = absurd served
each_for e size (h ∷ hs) (r ∷ rs) [] served same plain = absurd (cc same)
each_for e size (h ∷ hs) (r ∷ rs) (x ∷ es) served same plain =
    let first : h.reading ≡ head_is x.head = cc in
    let others : readings hs ≡ map (λ (e : Exchange). head_is e.head) es = cc in
    let named : ◌≡◌ {A = Reading} (head_is (sent_request r.given).says) (head_is x.head) = sym served.0.reading ∙ first in
    let says : (sent_request r.given).says ≡ x.head = cc named in (
      record {
        request = record { head = r.given.head; connection = r.given.kind };
        is = refl;
        method = ap (λ (h : Head). h.method) says;
        connection =
            sym (connection_read r.given.head.minor (as_answer r.given.head) (asked_shape r.given.size) r.given.size r.given.kind r.given.moment)
            ∙ ap (λ (h : Head). h.connection) says;
        none = no_upgrade size r plain.0;
      },
      each_for e size hs rs es served.1 others plain.1,
    )

pub requests_for : (e : Bool) (size : ℕ) (trace : List Step) (asked : List Happened) → HasNoFault trace
    → AreServedOut e (reverse (handed_out trace).messages) (reverse (requests_asked asked)) → AllByRecursion (IsPlainAsked size) (reverse (requests_asked asked))
    → AreFor (requests_of asked) (reverse (exchanges trace))
requests_for e size trace asked sound served plain =
    subst (λ (l : List Waiting). AreFor l (reverse (exchanges trace))) (sym (waits_are asked))
    (each_for e size (reverse (handed_out trace).messages) (reverse (requests_asked asked)) (reverse (exchanges trace)) served (turned_readings trace sound) plain)
