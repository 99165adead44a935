-- Where no answer comes that could be passed on, or one fails, that is what is found of it; and what a server's connection can't be asked then.
use Rattle.std.proofs.Common.{◌≡◌, ℕ, Bool, true, false, not, ◌&&◌, List, [], ◌∷◌, ◌++◌, length, map, Option, Some, None, is_some, refl, sym, ap, ap₂, ◌∙◌, subst, subst₂, append-nil}
use Rattle.std.specs.Prelude.{◌||◌, ◌==◌, if◌then◌else◌}
use Rattle.std.specs.List.{list_any}
use Rattle.std.proofs.lemmas.Bool.{false≢true}
use Rattle.std.proofs.lemmas.List.Folds.{list_any-append}
use Rattle.model_h1.specs.HeadPiece.{HasNoHeadPiece}
use Rattle.model_h1.specs.Request.{Header}
use Rattle.model_h1.specs.Setting.{Setting}
use Rattle.model_h1.specs.Event.{BodyFault}
use Rattle.model_h1.specs.Handed.{Item, item_bytes, item_end, item_fault, trailer_items, stop_items, last_items}
use Rattle.model_h1.specs.Parse.{Stop, ended_at, still_open, broken, cut}
use Rattle.model_h1.specs.Laws.Exchanges.{Reply}
use Rattle.model_state.specs.Change.{IsComing}
use Rattle.model_client.specs.AnswerReading.{Answer, AnswerReading, answer_is, refused}
use Rattle.model_client.specs.AnswerParse.{Received}
use Rattle.model_client.specs.ClientEvent as on
use Rattle.model_client.specs.ClientEvent.{ClientEvent, ClientEnd, asked, unasked, input_ended, ClientOutcome}
use Rattle.model_client.specs.ClientKept.{Waiting, ReadingBody, ClientKept, is_free, is_free_of, is_dropped, is_dropped_of, is_waited_for, has_bytes, client_closing, client_allows}
use Rattle.model_client.specs.ClientStep.{ClientChange, behind_head, IsUpcoming, IsNext, IsClientStep}
use Rattle.model_client.specs.ClientTrace.{Happened, IsClientTrace, taken, taken_by, requests_of}
use Rattle.model_client.specs.Parsed.{has_ended, received_of, methods_of}
use Rattle.model_client.specs.ReadOut.{ReadAnswer, newly_read, ReadOut, reading_out, read_out}
use Rattle.model_client.proofs.AllHappened.{known_of, holds_now}
use Rattle.model_client.proofs.Answered.{told_without}
use Rattle.model_client.proofs.Chain.{Leads}
use Rattle.model_client.proofs.Ended.{trace_ended}
use Rattle.model_client.proofs.Holds.{waiting_methods}
use Rattle.model_client.proofs.NextAnswers.{between_of}
use Rattle.model_proxy.specs.Answers.{bad, fate_of, Found, found_nothing, found_body, IsAnswer}
use Rattle.model_proxy.specs.Past.{ProxyStep, server_at}
use Rattle.model_proxy.specs.Exchange.{Exchange, answer_input}
use Rattle.model_proxy.specs.Forwarding.{HasFailed}
use Rattle.model_proxy.specs.Happenings.{Link, server_of}
use Rattle.model_proxy.proofs.FoundHanded.{IsFoundSo, IsBadReading, IsFoundBad}
use Rattle.model_proxy.proofs.FoundAnswers.{answer_found}
use Rattle.model_proxy.proofs.FirstPassed.{head_is_found}
use Rattle.model_proxy.proofs.EndedAnswers.{nothing_found}
use Rattle.model_proxy.proofs.AskedSince.{since, since_input, since_within, since_leads, since_found, since_bad}
use Rattle.model_proxy.proofs.ReadsOn.{is_passed_by}
use Rattle.model_proxy.proofs.OnLinks.{before_head, answering, item_on}
use Rattle.model_proxy.proofs.LinkSteps.{OnLink, asked_on}

-- ---- what may be asked

-- while an answer is read nothing but a fault closes
closing_none : (k : ClientKept) → k.failed ≡ None → is_free k ≡ false → client_closing k ≡ None
closing_none k fine busy =
    ap₂ (λ (f : Option ClientEnd) (t : Bool). if is_some f then f
    else (if not t then None
    else (if k.closes then Some asked
    else (if not (is_waited_for k.waiting) && has_bytes k.unread then Some unasked
    else (if k.has_ended && not k.is_coming then Some input_ended else None))))) fine busy

not_dropped : (k : ClientKept) → is_passed_by k.reading ≡ false → is_free k ≡ false → is_dropped k ≡ false
not_dropped k kept busy = by_reading k.reading kept busy
  where
    by_test : (t u : Bool) → (t && not u) ≡ false → u ≡ false → t ≡ false
    by_test false u is busy = refl
    by_test true false is busy = is
    by_test true true is busy = absurd (false≢true (sym busy))

    by_reading : (body : Option ReadingBody) → is_passed_by body ≡ false → is_free_of body ≡ false → is_dropped_of body ≡ false
    by_reading None kept busy = refl
    by_reading (Some body) kept busy = by_test body.was_dropped body.is_done kept busy

if_either : (t : Bool) → (not false && true && (if t then true else true)) ≡ true
if_either true = refl
if_either false = refl

-- the next answer may be asked for where nothing is left to do of the last one, and else it may not
pub may_tell : (setting : Setting) (k : ClientKept) → k.is_over ≡ false → is_free k ≡ true → client_allows setting k on.next ≡ true
may_tell setting k runs free =
    ap₂ (λ (o f : Bool). not o && true && (if is_some (client_closing k) then true else f)) runs free ∙ if_either (is_some (client_closing k))

pub reads_up : (setting : Setting) (k : ClientKept) → k.failed ≡ None → client_allows setting k on.next ≡ true → is_free k ≡ true
reads_up setting k fine allowed = by_free (is_free k) refl
  where
    never : (t : Bool) → (not t && true && false) ≡ false
    never true = refl
    never false = refl

    by_free : (t : Bool) → is_free k ≡ t → is_free k ≡ true
    by_free true is = is
    by_free false is =
        let not_so : client_allows setting k on.next ≡ false =
        ap₂ (λ (closing : Option ClientEnd) (f : Bool). not k.is_over && true && (if is_some closing then true else f)) (closing_none k fine is) is ∙ never k.is_over in
        absurd (false≢true (sym not_so ∙ allowed))

-- where no more of a body may be asked for, nothing is left to do of it
pub pulled_up : (setting : Setting) (k : ClientKept) → k.is_over ≡ false → k.failed ≡ None → is_passed_by k.reading ≡ false → client_allows setting k on.pull ≡ false
    → is_free k ≡ true
pulled_up setting k runs fine kept refuses = by_free (is_free k) refl
  where
    by_free : (t : Bool) → is_free k ≡ t → is_free k ≡ true
    by_free true is = is
    by_free false is =
        let allows : client_allows setting k on.pull ≡ true =
        ap₂ (λ (o : Bool) (closing : Option ClientEnd). not o && true && (if is_some closing then false else (not (is_free k) && not (is_dropped k)))) runs (closing_none k fine is)
        ∙ ap₂ (λ (f d : Bool). not f && not d) is (not_dropped k kept is) in
        absurd (false≢true (sym refuses ∙ allows))

-- ---- why it tells that it has closed

no_close : (k : ClientKept) (full : Bool) (end : ClientEnd) → on.closed end ≡ (told_without k full).outcome → ⊥
no_close k true end is = cc is
no_close k false end is = cc is

head_tells : (k : ClientKept) (at : ℕ) (w : Waiting) (ws : List Waiting) (what : AnswerReading) (end : ClientEnd) → on.closed end ≡ (behind_head k at w ws what).outcome → ⊥
head_tells k at w ws (refused f) end is = cc is
head_tells k at w ws (answer_is a) end is = cc is

upcoming_tells : (setting : Setting) (k : ClientKept) (waiting : List Waiting) (coming : Bool) (c : ClientChange) (end : ClientEnd) → IsUpcoming setting k waiting coming c
    → on.closed end ≡ c.outcome → ⊥
upcoming_tells setting k [] false c end x is = no_close k (length k.unread == setting.hold_size) end (is ∙ ap (λ (c : ClientChange). c.outcome) x)
upcoming_tells setting k (w ∷ ws) false c end x is = no_close k (length k.unread == setting.hold_size) end (is ∙ ap (λ (c : ClientChange). c.outcome) x)
upcoming_tells setting k [] true c end x is =
    let no : ◌≡◌ {A = ClientOutcome} (on.closed end) on.pending = is ∙ ap (λ (c : ClientChange). c.outcome) x in cc no
upcoming_tells setting k (w ∷ ws) true c end (start, at, what, piece, reads, x) is = head_tells k at w ws what end (is ∙ ap (λ (c : ClientChange). c.outcome) x)

next_tells : (setting : Setting) (k : ClientKept) (closing : Option ClientEnd) (c : ClientChange) (end : ClientEnd) → IsNext setting k closing c → on.closed end ≡ c.outcome
    → is_some closing ≡ true
next_tells setting k (Some other) c end x is = refl
next_tells setting k None c end x is = absurd (upcoming_tells setting k k.waiting k.is_coming c end x is)

-- its input has ended, and no whole head is there
record HasEnded (k : ClientKept) : Type 0 where
  ended : k.has_ended ≡ true
  none : k.is_coming ≡ false

ends_so : (ended coming : Bool) → is_some (if ended && not coming then Some input_ended else None) ≡ true → (ended ≡ true) × (coming ≡ false)
ends_so true false is = (refl, refl)
ends_so true true is = absurd (false≢true is)
ends_so false coming is = absurd (false≢true is)

closes_so : (k : ClientKept) (w : Waiting) → k.failed ≡ None → is_free k ≡ true → k.closes ≡ false → k.waiting ≡ w ∷ [] → is_some (client_closing k) ≡ true → HasEnded k
closes_so k w fine free stays waits is =
    let same : client_closing k ≡ (if k.has_ended && not k.is_coming then Some input_ended else None) =
    ap₂ (λ (f : Option ClientEnd) (t : Bool). if is_some f then f
    else (if not t then None
    else (if k.closes then Some asked
    else (if not (is_waited_for k.waiting) && has_bytes k.unread then Some unasked
    else (if k.has_ended && not k.is_coming then Some input_ended else None))))) fine free
    ∙ ap₂ (λ (t : Bool) (ws : List Waiting). if t then Some asked
    else (if not (is_waited_for ws) && has_bytes k.unread then Some unasked
    else (if k.has_ended && not k.is_coming then Some input_ended else None))) stays waits in
    let x = ends_so k.has_ended k.is_coming (sym (ap (λ (o : Option ClientEnd). is_some o) same) ∙ is) in
    record { ended = x.0; none = x.1 }

-- ---- items that tell a fault

abbrev is_fault : Item → Bool
is_fault (item_fault fault) = true
is_fault item = false

no_faults : (ps : List (List ℕ)) (last : List Item) → list_any is_fault (map item_bytes ps ++ last) ≡ list_any is_fault last
no_faults [] last = refl
no_faults (p ∷ ps) last = no_faults ps last

trailers_fine : (lines : List Header) → list_any is_fault (trailer_items lines ++ item_end ∷ []) ≡ false
trailers_fine [] = refl
trailers_fine (line ∷ lines) = refl

fault_stops : (stop : Stop) → list_any is_fault (stop_items stop) ≡ true → fate_of stop ≡ bad
fault_stops (ended_at place lines) is = absurd (false≢true (sym (trailers_fine lines) ∙ is))
fault_stops still_open is = absurd (false≢true is)
fault_stops broken is = refl
fault_stops cut is = refl

or_right : (t : Bool) → (t || true) ≡ true
or_right true = refl
or_right false = refl

fault_spoils : (s : Received) (method : List ℕ) (h : ReadAnswer) (a : Answer) (found : Found) → IsFoundSo s method h a found → list_any is_fault h.items ≡ true
    → found.fate ≡ bad
fault_spoils s method h a found x is =
    let last : list_any is_fault x.last ≡ true = sym (ap (list_any is_fault) x.are ∙ no_faults x.pieces x.last) ∙ is in
    let stop : stop_items x.of.has.stop ≡ x.last ++ x.follow.0 = sym (ap last_items x.of.has.are) ∙ x.follow.1 in
    let here : list_any is_fault (stop_items x.of.has.stop) ≡ true =
    ap (list_any is_fault) stop ∙ list_any-append is_fault x.last x.follow.0 ∙ ap (λ (t : Bool). t || list_any is_fault x.follow.0) last in
    ap (λ (f : Found). f.fate) (x.is ∙ ap (found_body s a) x.of.has.are) ∙ fault_stops x.of.has.stop here

-- ---- what is found

-- no head is there that is passed on, and none will come
pub record FindsBad (setting : Setting) (history : List ProxyStep) (x : Exchange) (k : ℕ) : Type 0 where
  pub found : Found
  pub is : IsAnswer (answer_input setting history k x.sent_at (length history)) x.pulled.head.method found
  pub bad_one : IsFoundBad found

module _ (theirs ours : Setting) (held : theirs.hold_size ≡ ours.hold_size) (history : List ProxyStep) (n : ℕ) (l : Link) (x : Exchange) (r : Reply) (c : ClientKept)
    (ran : IsClientTrace ours l.happened c) (same : server_at n history ≡ server_of l) where
  -- no whole head is there
  pub record FindsNothing : Type 0 where
    pub found : Found
    pub is : IsAnswer (answer_input theirs history n x.sent_at (length history)) x.pulled.head.method found
    pub none : found.response ≡ None
    pub ended : c.has_ended ≡ true → found.fate ≡ bad

  pub finds_nothing : c.is_coming ≡ false → OnLink ours history l n before_head x r → FindsNothing
  finds_nothing none z =
      let y = z.at c ran in
      let b = between_of (taken l.happened) (has_ended l.happened) ours.hold_size (methods_of l.happened) (read_out l.happened) c [] [] y.fine y.free
      (holds_now ours l.happened c ran).1 in
      let bare : HasNoHeadPiece c.unread = subst₂ (λ (t u : Bool). IsComing t c.unread u) y.free none (known_of ours (taken l.happened) (has_ended l.happened) (methods_of l.happened) l.happened c ran) in
      let s : Received = since theirs ours held history l x n same z.asked in
      let f = answer_found s x.pulled.head.method in
      let nothing = nothing_found (received_of ours l.happened) ours.hold_size (methods_of l.happened) (read_out z.asked.before).answers y.news (length (taken z.asked.before)) b.place
      x.pulled.head.method (waiting_methods c.waiting ++ []) f.0 (since_within theirs ours held history l x n same z.asked)
      (since_leads theirs ours held history l x n same z.asked)
      (subst (λ (outs : List ReadAnswer). Leads (received_of ours l.happened) (methods_of l.happened) outs b.place (waiting_methods c.waiting ++ [])) y.answers b.leads) y.passed
      (subst HasNoHeadPiece (sym (b.text_is ∙ append-nil c.unread)) bare) f.1 in
      record {
        found = f.0;
        is = subst (λ (i : Received). IsAnswer i x.pulled.head.method f.0) (sym (since_input theirs ours held history l x n same z.asked)) f.1;
        none = ap (λ (g : Found). g.response) nothing.1;
        ended = λ is.
            ap (λ (g : Found). g.fate) nothing.1
            ∙ ap (λ (t : Bool). (found_nothing (record s { ended = t }) nothing.0).fate) (trace_ended ours l.happened c ran ∙ is);
      }

  -- it tells that it has closed
  pub closed_bad : (end : ClientEnd) (d : ClientKept) → IsClientStep ours c on.next (on.closed end) d → OnLink ours history l n before_head x r → FindsBad theirs history x n
  closed_bad end d step z =
      let y = z.at c ran in
      let over = closes_so c y.waiting y.fine y.free y.stays y.waits (next_tells ours c (client_closing c) step.change end step.changes step.answers) in
      let f = finds_nothing over.none z in
      record { found = f.found; is = f.is; bad_one = record { none = f.none; spoiled = f.ended over.ended } }

module _ (theirs ours : Setting) (held : theirs.hold_size ≡ ours.hold_size) (history : List ProxyStep) (n : ℕ) (l : Link) (x : Exchange) (r : Reply) (c d : ClientKept)
    (ran : IsClientTrace ours l.happened c) where
  abbrev behind : Happened → Link
  behind e = record l { happened = e ∷ l.happened }

  -- it hands out a head that is bad
  pub head_bad : (o : ClientOutcome) (reading : AnswerReading) → ((out : ReadOut) → (reading_out o out).answers ≡ newly_read reading ∷ out.answers) → IsBadReading reading
      → server_at n history ≡ server_of (behind (record { event = on.next; outcome = o })) → IsClientTrace ours (record { event = on.next; outcome = o } ∷ l.happened) d
      → OnLink ours history l n before_head x r → FindsBad theirs history x n
  unfolding read_out
  head_bad o reading adds out same after z =
      let e : Happened = record { event = on.next; outcome = o } in
      let y = z.at c ran in
      let w = asked_on ours history history l (behind e) x x n (taken_by on.next o) z.asked refl (none_by l.happened e) refl refl in
      let f = since_bad theirs ours held history (behind e) x n same w d y.news (newly_read reading) after
      (adds (read_out l.happened) ∙ ap (λ (outs : List ReadAnswer). newly_read reading ∷ outs) y.answers) y.passed out in
      record { found = f.0; is = f.1; bad_one = f.2 }
    where
      none_by : (before : List Happened) (e : Happened) → methods_of (record { event = on.next; outcome = e.outcome } ∷ before) ≡ methods_of before
      none_by before e = ap (map (λ (v : Waiting). v.method)) (append-nil (requests_of before))

  -- or a fault of a body
  pub body_fails : (a : Answer) (fault : BodyFault) → x.server ≡ Some n
      → server_at n history ≡ server_of (behind (record { event = on.pull; outcome = on.broken_by fault }))
      → IsClientTrace ours (record { event = on.pull; outcome = on.broken_by fault } ∷ l.happened) d → (xs : List Exchange)
      → OnLink ours history l n (answering a) x r → HasFailed theirs history (x ∷ xs)
  unfolding read_out
  body_fails a fault at same after xs z =
      let e : Happened = record { event = on.pull; outcome = on.broken_by fault } in
      let y = z.at c ran in
      let w = asked_on ours history history l (behind e) x x n (taken_by on.pull (on.broken_by fault)) z.asked refl (none_by l.happened) refl refl in
      let h : ReadAnswer = record y.newest { items = y.newest.items ++ item_fault fault ∷ [] } in
      let f = since_found theirs ours held history (behind e) x n same w d y.news h a after
      (item_on (item_fault fault) (read_out l.happened) y.newest (y.news ++ (read_out z.asked.before).answers) y.answers) y.passed y.reading y.good y.final in
      let spoils : list_any is_fault h.items ≡ true =
      list_any-append is_fault y.newest.items (item_fault fault ∷ []) ∙ or_right (list_any is_fault y.newest.items) in (
        n,
        at,
        f.0,
        f.1,
        ap (λ (o : Option Answer). is_some o) (head_is_found (since theirs ours held history (behind e) x n same w) x.pulled.head.method h a f.0 f.2),
        fault_spoils (since theirs ours held history (behind e) x n same w) x.pulled.head.method h a f.0 f.2 spoils,
      )
    where
      none_by : (before : List Happened) → methods_of (record { event = on.pull; outcome = on.broken_by fault } ∷ before) ≡ methods_of before
      none_by before = ap (map (λ (v : Waiting). v.method)) (append-nil (requests_of before))
