-- What a server's connection handed out of the answer to the last request that was asked on it, and what of that was put: step by step.
use Rattle.std.proofs.Common.{◌≡◌, ◌⊎◌, ℕ, Bool, true, false, not, List, [], ◌∷◌, ◌++◌, length, Option, Some, None, refl, sym, ap, ◌∙◌, subst, inl, inr, append-nil}
use Rattle.std.specs.Prelude.{⊤, IsTrue, ◌==◌}
use Rattle.std.specs.List.{AllByRecursion}
use Rattle.std.proofs.lemmas.Bool.{false≢true}
use Rattle.model_h1.specs.Request.{Header, BodyKind, no_body, fixed_body, chunked_body, raw_body, has_body}
use Rattle.model_h1.specs.Setting.{Setting}
use Rattle.model_h1.specs.Event as server
use Rattle.model_h1.specs.Handed.{Item, item_bytes, item_trailers, item_end}
use Rattle.model_h1.specs.Laws.Exchanges.{Reply, no_reply, answer_given, session, with_piece, with_end}
use Rattle.model_client.specs.AnswerTable.{body_to}
use Rattle.model_client.specs.AnswerReading.{Answer, AnswerReading, answer_is, refused}
use Rattle.model_client.specs.AnswerParse.{is_interim}
use Rattle.model_client.specs.ClientEvent as on
use Rattle.model_client.specs.ClientEvent.{ClientEvent, ClientEnd, ClientOutcome}
use Rattle.model_client.specs.ClientKept.{Waiting, ClientKept, is_free, client_closing, client_allows}
use Rattle.model_client.specs.ClientStep.{ClientChange, outcome_of, IsPulling, behind_head, IsUpcoming, IsNext, IsClientChange, IsClientStep}
use Rattle.model_client.specs.ClientKept.{ReadingBody}
use Rattle.model_client.specs.ClientTrace.{Happened, IsClientTrace, requests_by, answers_one}
use Rattle.model_client.specs.ReadOut.{ReadAnswer, newly_read, ReadOut, with_item_of, with_item, reading_out, read_out}
use Rattle.model_client.proofs.Answered.{told_without, answered}
use Rattle.model_proxy.specs.Answers.{says_close}
use Rattle.model_proxy.proofs.FoundHanded.{IsPassedOver, is_out}
use Rattle.model_proxy.proofs.PiecesPut.{bytes_in, has_end, bytes_more, end_stays, end_comes, IsPutOf}
use Rattle.model_proxy.proofs.ReadsOn.{KeepsOn, drops, fails, is_passed_by, free_passes, StaysSo, busy, stays_so, end_pulls, waits_same, headed}

-- ---- which event it was

-- it tells of a body
abbrev pub IsOfBody : ClientOutcome → Type 0
IsOfBody (on.bytes more) = ⊤
IsOfBody (on.trailers lines) = ⊤
IsOfBody on.body_ended = ⊤
IsOfBody (on.broken_by f) = ⊤
IsOfBody o = ⊥

without_no_body : (k : ClientKept) (full : Bool) → IsOfBody (told_without k full).outcome → ⊥
without_no_body k true of = of
without_no_body k false of = of

head_no_body : (k : ClientKept) (end : ℕ) (w : Waiting) (ws : List Waiting) (what : AnswerReading) → IsOfBody (behind_head k end w ws what).outcome → ⊥
head_no_body k end w ws (refused f) of = of
head_no_body k end w ws (answer_is a) of = of

upcoming_no_body : (setting : Setting) (k : ClientKept) (waiting : List Waiting) (coming : Bool) (c : ClientChange) → IsUpcoming setting k waiting coming c
    → IsOfBody c.outcome → ⊥
upcoming_no_body setting k [] false c x of =
    without_no_body k (length k.unread == setting.hold_size) (subst (λ (c : ClientChange). IsOfBody c.outcome) x of)
upcoming_no_body setting k (w ∷ ws) false c x of =
    without_no_body k (length k.unread == setting.hold_size) (subst (λ (c : ClientChange). IsOfBody c.outcome) x of)
upcoming_no_body setting k [] true c x of = subst (λ (c : ClientChange). IsOfBody c.outcome) x of
upcoming_no_body setting k (w ∷ ws) true c (start, end, what, piece, reads, is) of =
    head_no_body k end w ws what (subst (λ (c : ClientChange). IsOfBody c.outcome) is of)

next_no_body : (setting : Setting) (k : ClientKept) (closing : Option ClientEnd) (c : ClientChange) → IsNext setting k closing c → IsOfBody c.outcome → ⊥
next_no_body setting k (Some end) c x of = subst (λ (c : ClientChange). IsOfBody c.outcome) x of
next_no_body setting k None c x of = upcoming_no_body setting k k.waiting k.is_coming c x of

pulls : (setting : Setting) (k : ClientKept) (event : ClientEvent) (c : ClientChange) → IsClientChange setting k event c → IsOfBody c.outcome → event ≡ on.pull
pulls setting k (on.ask r size) c x of = absurd (subst (λ (c : ClientChange). IsOfBody c.outcome) x of)
pulls setting k (on.chunk bytes) c x of = absurd (subst (λ (c : ClientChange). IsOfBody c.outcome) x of)
pulls setting k on.body_end c x of = absurd (subst (λ (c : ClientChange). IsOfBody c.outcome) x of)
pulls setting k on.body_error c x of = absurd (subst (λ (c : ClientChange). IsOfBody c.outcome) x of)
pulls setting k (on.read bytes) c x of = absurd (subst (λ (c : ClientChange). IsOfBody c.outcome) x of)
pulls setting k on.eof c x of = absurd (subst (λ (c : ClientChange). IsOfBody c.outcome) x of)
pulls setting k on.next c x of = absurd (next_no_body setting k (client_closing k) c x of)
pulls setting k on.pull c x of = refl
pulls setting k on.drop_body c x of = absurd (subst (λ (c : ClientChange). IsOfBody c.outcome) x of)
pulls setting k (on.write n) c x of = absurd (subst (λ (c : ClientChange). IsOfBody c.outcome) x of)
pulls setting k (on.tick ms) c x of = absurd (subst (λ (c : ClientChange). IsOfBody c.outcome) x of)

pub pulls_only : (setting : Setting) (k next : ClientKept) (event : ClientEvent) (o : ClientOutcome) → IsClientStep setting k event o next → IsOfBody o → event ≡ on.pull
pulls_only setting k next event o step of = pulls setting k event step.change step.changes (subst IsOfBody step.answers of)

-- it is an answer's head
abbrev IsOfHead : ClientOutcome → Type 0
IsOfHead (on.answer a) = ⊤
IsOfHead o = ⊥

no_head : (o : server.Outcome) → IsOfHead (outcome_of o) → ⊥
no_head (server.bytes bytes) of = of
no_head (server.trailers lines) of = of
no_head server.body_ended of = of
no_head (server.broken_by fault) of = of
no_head o of = of

pull_no_head : (k : ClientKept) (body : Option ReadingBody) (c : ClientChange) → IsPulling k body c → IsOfHead c.outcome → ⊥
pull_no_head k None c x of = subst (λ (c : ClientChange). IsOfHead c.outcome) x of
pull_no_head k (Some body) c (p, pull, is) of = no_head p.outcome (subst (λ (c : ClientChange). IsOfHead c.outcome) is of)

asks_next : (setting : Setting) (k : ClientKept) (event : ClientEvent) (c : ClientChange) → IsClientChange setting k event c → IsOfHead c.outcome → event ≡ on.next
asks_next setting k (on.ask r size) c x of = absurd (subst (λ (c : ClientChange). IsOfHead c.outcome) x of)
asks_next setting k (on.chunk bytes) c x of = absurd (subst (λ (c : ClientChange). IsOfHead c.outcome) x of)
asks_next setting k on.body_end c x of = absurd (subst (λ (c : ClientChange). IsOfHead c.outcome) x of)
asks_next setting k on.body_error c x of = absurd (subst (λ (c : ClientChange). IsOfHead c.outcome) x of)
asks_next setting k (on.read bytes) c x of = absurd (subst (λ (c : ClientChange). IsOfHead c.outcome) x of)
asks_next setting k on.eof c x of = absurd (subst (λ (c : ClientChange). IsOfHead c.outcome) x of)
asks_next setting k on.next c x of = refl
asks_next setting k on.pull c x of = absurd (pull_no_head k k.reading c x of)
asks_next setting k on.drop_body c x of = absurd (subst (λ (c : ClientChange). IsOfHead c.outcome) x of)
asks_next setting k (on.write n) c x of = absurd (subst (λ (c : ClientChange). IsOfHead c.outcome) x of)
asks_next setting k (on.tick ms) c x of = absurd (subst (λ (c : ClientChange). IsOfHead c.outcome) x of)

-- an answer is to one that waited
not_unasked : (setting : Setting) (k next : ClientKept) (event : ClientEvent) (a : Answer) → IsClientStep setting k event (on.answer a) next → k.waiting ≡ [] → ⊥
not_unasked setting k next event a step none =
    let is : event ≡ on.next = asks_next setting k event step.change step.changes (subst IsOfHead step.answers tt) in
    let x = answered setting k next a (subst (λ (e : ClientEvent). IsClientStep setting k e (on.answer a) next) is step) in
    let no : [] ≡ x.first ∷ x.others = sym none ∙ x.waited in
    cc no

-- ---- where an answer is

-- how far the last answer is: its head wasn't handed out; this one was; or it is read to its end and the connection is kept
pub data Stage : Type 0 where
  before_head over : Stage
  answering : Answer → Stage

-- Behind what was handed out earlier only answers came that are passed over; the request alone waits, and has no reply. The connection isn't over,
-- and neither a side nor a fault closes it.
pub record AwaitsHead (outs now : List ReadAnswer) (method : List ℕ) (c : ClientKept) (r : Reply) : Type 0 where
  pub news : List ReadAnswer
  pub answers : now ≡ news ++ outs
  pub passed : AllByRecursion IsPassedOver news
  pub waiting : Waiting
  pub waits : c.waiting ≡ waiting ∷ []
  pub method_is : waiting.method ≡ method
  pub free : is_free c ≡ true
  pub runs : c.is_over ≡ false
  pub stays : c.closes ≡ false
  pub fine : c.failed ≡ None
  pub unput : r ≡ no_reply

-- Then this answer's head came, and what is put of it is what was handed out; nobody waits, and where nothing is left to do of it its end was
-- told, or it has no body.
pub record HasHead (outs now : List ReadAnswer) (method : List ℕ) (c : ClientKept) (a : Answer) (r : Reply) : Type 0 where
  pub newest : ReadAnswer
  pub news : List ReadAnswer
  pub answers : now ≡ (newest ∷ news) ++ outs
  pub passed : AllByRecursion IsPassedOver news
  pub reading : newest.reading ≡ answer_is a
  pub good : is_out a ≡ false
  pub final : is_interim a.status ≡ false
  pub waits : c.waiting ≡ []
  pub kept : is_passed_by c.reading ≡ false
  pub runs : c.is_over ≡ false
  pub fine : c.failed ≡ None
  pub done : is_free c ≡ true → (has_end newest.items ≡ true) ⊎ (body_to method a.body ≡ no_body)
  pub put : IsPutOf method a newest.items r

abbrev pub IsAt : Stage → List ReadAnswer → List ReadAnswer → List ℕ → ClientKept → Reply → Type 0
IsAt before_head outs now method c r = AwaitsHead outs now method c r
IsAt (answering a) outs now method c r = HasHead outs now method c a r
IsAt over outs now method c r = (a : Answer) × HasHead outs now method c a r × (says_close a ≡ false)

-- ---- steps that hand out little

-- the outcome hands out no answer but an interim one, which is passed over, and nothing of a body but its trailers
abbrev pub AddsLittle : ClientOutcome → Type 0
AddsLittle (on.answer a) = (is_out a ≡ false) × (is_interim a.status ≡ true)
AddsLittle (on.fault f) = ⊥
AddsLittle (on.closed end) = ⊥
AddsLittle (on.bytes more) = ⊥
AddsLittle on.body_ended = ⊥
AddsLittle (on.broken_by f) = ⊥
AddsLittle o = ⊤

pub keeps_on : (o : ClientOutcome) → AddsLittle o → KeepsOn o
keeps_on (on.answer a) x = x.1
keeps_on (on.fault f) x = absurd x
keeps_on (on.closed end) x = absurd x
keeps_on (on.bytes more) x = absurd x
keeps_on on.body_ended x = absurd x
keeps_on (on.broken_by f) x = absurd x
keeps_on (on.took n) x = tt
keeps_on (on.trailers lines) x = tt
keeps_on on.pending x = tt
keeps_on (on.gave bytes) x = tt
keeps_on on.done x = tt

answers_none : (o : ClientOutcome) → KeepsOn o → answers_one o ≡ false
answers_none (on.answer a) x = ap not x
answers_none (on.fault f) x = refl
answers_none (on.closed end) x = refl
answers_none (on.bytes more) x = refl
answers_none on.body_ended x = absurd x
answers_none (on.broken_by f) x = absurd x
answers_none (on.took n) x = refl
answers_none (on.trailers lines) x = refl
answers_none on.pending x = refl
answers_none (on.gave bytes) x = refl
answers_none on.done x = refl

-- the same pieces, and its end if that was there
put_as : (method : List ℕ) (a : Answer) (items more : List Item) (r : Reply) → bytes_in more ≡ bytes_in items → (has_end items ≡ true → has_end more ≡ true)
    → IsPutOf method a items r → IsPutOf method a more r
put_as method a items more no_reply same ends x = tt
put_as method a items more (answer_given g) same ends x =
    record { head = x.head; size = x.size; pieces = x.pieces ∙ sym same; ended = λ is. by_reason (x.ended is) }
  where
    by_reason : (has_end items ≡ true) ⊎ (body_to method a.body ≡ no_body) → (has_end more ≡ true) ⊎ (body_to method a.body ≡ no_body)
    by_reason (inl ended) = inl (ends ended)
    by_reason (inr bodiless) = inr bodiless
put_as method a items more (session w) same ends x = absurd x

put_piece : (method : List ℕ) (a : Answer) (items : List Item) (bytes : List ℕ) (r : Reply) → IsPutOf method a items r
    → IsPutOf method a (items ++ item_bytes bytes ∷ []) (with_piece bytes r)
put_piece method a items bytes no_reply x = tt
put_piece method a items bytes (answer_given g) x = record {
  head = x.head;
  size = x.size;
  pieces = ap (λ (ps : List (List ℕ)). ps ++ bytes ∷ []) x.pieces ∙ sym (bytes_more items (item_bytes bytes ∷ []));
  ended = λ is. by_reason (x.ended is);
}
  where
    by_reason : (has_end items ≡ true) ⊎ (body_to method a.body ≡ no_body)
        → (has_end (items ++ item_bytes bytes ∷ []) ≡ true) ⊎ (body_to method a.body ≡ no_body)
    by_reason (inl ended) = inl (end_stays items (item_bytes bytes ∷ []) ended)
    by_reason (inr bodiless) = inr bodiless
put_piece method a items bytes (session w) x = absurd x

pub put_end : (method : List ℕ) (a : Answer) (items : List Item) (r : Reply) → (has_end items ≡ true) ⊎ (body_to method a.body ≡ no_body) → IsPutOf method a items r
    → IsPutOf method a items (with_end r)
put_end method a items no_reply reason x = tt
put_end method a items (answer_given g) reason x = record { head = x.head; size = x.size; pieces = x.pieces; ended = λ is. reason }
put_end method a items (session w) reason x = absurd x

no_more_bytes : (items : List Item) (i : Item) → bytes_in (i ∷ []) ≡ [] → bytes_in (items ++ i ∷ []) ≡ bytes_in items
no_more_bytes items i none = bytes_more items (i ∷ []) ∙ ap (λ (ps : List (List ℕ)). bytes_in items ++ ps) none ∙ append-nil (bytes_in items)

-- the newest answer has one more item
pub item_on : (item : Item) (out : ReadOut) (h : ReadAnswer) (rest : List ReadAnswer) → out.answers ≡ h ∷ rest
    → (with_item item out).answers ≡ record h { items = h.items ++ item ∷ [] } ∷ rest
item_on item out h rest are = ap (λ (l : List ReadAnswer). (with_item_of item out.stray l).answers) are

bodiless_kind : (kind : BodyKind) → not (has_body kind) ≡ true → kind ≡ no_body
bodiless_kind no_body e = refl
bodiless_kind (fixed_body n) e = absurd (false≢true e)
bodiless_kind chunked_body e = absurd (false≢true e)
bodiless_kind raw_body e = absurd (false≢true e)

module _ (setting : Setting) (before : List Happened) (s : Happened) (c d : ClientKept) (ran : IsClientTrace setting before c)
    (allowed : IsTrue (client_allows setting c s.event)) (step : IsClientStep setting c s.event s.outcome d) (calm : drops s.event ≡ false)
    (none : requests_by s.event ≡ []) (outs : List ReadAnswer) (method : List ℕ) where
  still_waits : answers_one s.outcome ≡ false → d.waiting ≡ c.waiting
  still_waits unanswered = waits_same setting s before c d ran (c, ran, allowed, step) none unanswered

  -- with an outcome by which the last answer goes on
  module _ (keeps : KeepsOn s.outcome) where
    still : is_passed_by c.reading ≡ false → StaysSo (fails s.event) c d
    still kept = stays_so setting c d s.event s.outcome allowed step calm keeps kept

    -- no request's body fails by it
    pub sound_by : fails s.event ≡ false → is_passed_by c.reading ≡ false → c.failed ≡ None → d.failed ≡ None
    sound_by sound kept fine = (still kept).failed sound ∙ fine

  module _ (keeps : KeepsOn s.outcome) (fine : is_passed_by c.reading ≡ false → c.failed ≡ None → d.failed ≡ None) where
    awaits_by : (now next : List ReadAnswer) (r : Reply) → AwaitsHead outs now method c r → (more : List ReadAnswer) → next ≡ more ++ outs
        → AllByRecursion IsPassedOver more → AwaitsHead outs next method d r
    awaits_by now next r x more answers passed =
        let y = still keeps (free_passes c x.free) in
        record {
          news = more;
          answers = answers;
          passed = passed;
          waiting = x.waiting;
          waits = still_waits (answers_none s.outcome keeps) ∙ x.waits;
          method_is = x.method_is;
          free = y.free ∙ x.free;
          runs = y.over ∙ x.runs;
          stays = y.closes ∙ x.stays;
          fine = fine (free_passes c x.free) x.fine;
          unput = x.unput;
        }

    has_by : (now next : List ReadAnswer) (a : Answer) (r q : Reply) → (x : HasHead outs now method c a r) → (h : ReadAnswer) → h.reading ≡ x.newest.reading
        → (has_end x.newest.items ≡ true → has_end h.items ≡ true) → next ≡ (h ∷ x.news) ++ outs → IsPutOf method a h.items q → HasHead outs next method d a q
    has_by now next a r q x h reads ends answers put =
        let y = still keeps x.kept in
        record {
          newest = h;
          news = x.news;
          answers = answers;
          passed = x.passed;
          reading = reads ∙ x.reading;
          good = x.good;
          final = x.final;
          waits = still_waits (answers_none s.outcome keeps) ∙ x.waits;
          kept = y.kept;
          runs = y.over ∙ x.runs;
          fine = fine x.kept x.fine;
          done = λ free. by_done (x.done (sym y.free ∙ free));
          put = put;
        }
      where
        by_done : (has_end x.newest.items ≡ true) ⊎ (body_to method a.body ≡ no_body) → (has_end h.items ≡ true) ⊎ (body_to method a.body ≡ no_body)
        by_done (inl ended) = inl (ends ended)
        by_done (inr bodiless) = inr bodiless

    -- nothing more was handed out
    same_at : (stage : Stage) (now : List ReadAnswer) (r : Reply) → IsAt stage outs now method c r → IsAt stage outs now method d r
    same_at before_head now r x = awaits_by now now r x x.news x.answers x.passed
    same_at (answering a) now r x = has_by now now a r r x x.newest refl (λ is. is) x.answers x.put
    same_at over now r x = (x.0, has_by now now x.0 r r x.1 x.1.newest refl (λ is. is) x.1.answers x.1.put, x.2)

    trailers_has : (lines : List Header) (out : ReadOut) (a : Answer) (r : Reply) → HasHead outs out.answers method c a r
        → HasHead outs (with_item (item_trailers lines) out).answers method d a r
    trailers_has lines out a r x =
        has_by out.answers (with_item (item_trailers lines) out).answers a r r x (record x.newest { items = x.newest.items ++ item_trailers lines ∷ [] }) refl
        (end_stays x.newest.items (item_trailers lines ∷ [])) (item_on (item_trailers lines) out x.newest (x.news ++ outs) x.answers)
        (put_as method a x.newest.items (x.newest.items ++ item_trailers lines ∷ []) r (no_more_bytes x.newest.items (item_trailers lines) refl)
        (end_stays x.newest.items (item_trailers lines ∷ [])) x.put)

    busy_now : IsOfBody s.outcome → is_free c ≡ false
    busy_now of =
        (busy setting c (subst (λ (e : ClientEvent). IsTrue (client_allows setting c e)) (pulls_only setting c d s.event s.outcome step of) allowed)).0

    trailers_at : (lines : List Header) (out : ReadOut) (stage : Stage) (r : Reply) → s.outcome ≡ on.trailers lines → IsAt stage outs out.answers method c r
        → IsAt stage outs (with_item (item_trailers lines) out).answers method d r
    trailers_at lines out before_head r is x = absurd (false≢true (sym (busy_now (subst IsOfBody (sym is) tt)) ∙ x.free))
    trailers_at lines out (answering a) r is x = trailers_has lines out a r x
    trailers_at lines out over r is x = (x.0, trailers_has lines out x.0 r x.1, x.2)

    interim_at : (a : Answer) (out : ReadOut) (stage : Stage) (r : Reply) → s.outcome ≡ on.answer a → (is_out a ≡ false) × (is_interim a.status ≡ true)
        → IsAt stage outs out.answers method c r → IsAt stage outs (newly_read (answer_is a) ∷ out.answers) method d r
    interim_at a out before_head r is little x =
        awaits_by out.answers (newly_read (answer_is a) ∷ out.answers) r x (newly_read (answer_is a) ∷ x.news)
        (ap (λ (l : List ReadAnswer). newly_read (answer_is a) ∷ l) x.answers)
        (record { answer = a; reading = refl; good = little.0; interim = little.1 }, x.passed)
    interim_at a out (answering b) r is little x =
        absurd (not_unasked setting c d s.event a (subst (λ (o : ClientOutcome). IsClientStep setting c s.event o d) is step) x.waits)
    interim_at a out over r is little x =
        absurd (not_unasked setting c d s.event a (subst (λ (o : ClientOutcome). IsClientStep setting c s.event o d) is step) x.1.waits)

    little_by : (o : ClientOutcome) (out : ReadOut) (stage : Stage) (r : Reply) → s.outcome ≡ o → AddsLittle o → IsAt stage outs out.answers method c r
        → IsAt stage outs (reading_out o out).answers method d r
    little_by (on.answer a) out stage r is little x = interim_at a out stage r is little x
    little_by (on.fault f) out stage r is little x = absurd little
    little_by (on.closed end) out stage r is little x = absurd little
    little_by (on.bytes more) out stage r is little x = absurd little
    little_by on.body_ended out stage r is little x = absurd little
    little_by (on.broken_by f) out stage r is little x = absurd little
    little_by (on.took n) out stage r is little x = same_at stage out.answers r x
    little_by (on.trailers lines) out stage r is little x = trailers_at lines out stage r is x
    little_by on.pending out stage r is little x = same_at stage out.answers r x
    little_by (on.gave bytes) out stage r is little x = same_at stage out.answers r x
    little_by on.done out stage r is little x = same_at stage out.answers r x

  pub little_at : (stage : Stage) (r : Reply) → AddsLittle s.outcome → (is_passed_by c.reading ≡ false → c.failed ≡ None → d.failed ≡ None) → IsAt stage outs (read_out before).answers method c r
      → IsAt stage outs (read_out (s ∷ before)).answers method d r
  unfolding read_out
  little_at stage r little fine x = little_by (keeps_on s.outcome little) fine s.outcome (read_out before) stage r refl little x

  -- ---- a final answer's head, bytes of its body, its end

  pub head_at : (a : Answer) (r q : Reply) → s.outcome ≡ on.answer a → is_out a ≡ false → is_interim a.status ≡ false → IsPutOf method a [] q
      → AwaitsHead outs (read_out before).answers method c r → HasHead outs (read_out (s ∷ before)).answers method d a q
  unfolding read_out
  head_at a r q is good final put x =
      let told : IsClientStep setting c s.event (on.answer a) d = subst (λ (o : ClientOutcome). IsClientStep setting c s.event o d) is step in
      let next : s.event ≡ on.next = asks_next setting c s.event step.change step.changes (subst IsOfHead step.answers (subst IsOfHead (sym is) tt)) in
      let y = headed setting c d a (subst (λ (e : ClientEvent). IsClientStep setting c e (on.answer a) d) next told) final in
      let both : y.first ∷ y.others ≡ x.waiting ∷ [] = sym y.waited ∙ x.waits in
      let first : y.first ≡ x.waiting = cc in
      let others : y.others ≡ [] = cc in
      let named : y.first.method ≡ method = ap (λ (w : Waiting). w.method) first ∙ x.method_is in
      record {
        newest = newly_read (answer_is a);
        news = x.news;
        answers =
            ap (λ (o : ClientOutcome). (reading_out o (read_out before)).answers) is
            ∙ ap (λ (l : List ReadAnswer). newly_read (answer_is a) ∷ l) x.answers;
        passed = x.passed;
        reading = refl;
        good = good;
        final = final;
        waits = y.left ∙ others;
        kept = y.kept;
        runs = y.over ∙ x.runs;
        fine = y.failed ∙ x.fine;
        done = λ free. inr (ap (λ (m : List ℕ). body_to m a.body) (sym named) ∙ bodiless_kind (body_to y.first.method a.body) (sym y.free ∙ free));
        put = put;
      }

  pub bytes_at : (a : Answer) (bytes : List ℕ) (r : Reply) → s.outcome ≡ on.bytes bytes → HasHead outs (read_out before).answers method c a r
      → HasHead outs (read_out (s ∷ before)).answers method d a (with_piece bytes r)
  unfolding read_out
  bytes_at a bytes r is x =
      has_by (subst KeepsOn (sym is) tt)
      (sound_by (subst KeepsOn (sym is) tt) (ap fails (pulls_only setting c d s.event s.outcome step (subst IsOfBody (sym is) tt)))) (read_out before).answers (reading_out s.outcome (read_out before)).answers a r (with_piece bytes r) x
      (record x.newest { items = x.newest.items ++ item_bytes bytes ∷ [] }) refl (end_stays x.newest.items (item_bytes bytes ∷ []))
      (ap (λ (o : ClientOutcome). (reading_out o (read_out before)).answers) is ∙ item_on (item_bytes bytes) (read_out before) x.newest (x.news ++ outs) x.answers)
      (put_piece method a x.newest.items bytes r x.put)

  -- the end of the reply may be put, or not
  pub end_at : (a : Answer) (r q : Reply) → ((items : List Item) → has_end items ≡ true → IsPutOf method a items r → IsPutOf method a items q) → s.outcome ≡ on.body_ended
      → HasHead outs (read_out before).answers method c a r → HasHead outs (read_out (s ∷ before)).answers method d a q
  unfolding read_out
  end_at a r q so is x =
      let pull : s.event ≡ on.pull = pulls_only setting c d s.event s.outcome step (subst IsOfBody (sym is) tt) in
      let items = x.newest.items ++ item_end ∷ [] in
      let y = end_pulls setting c d (subst (λ (e : ClientEvent). IsTrue (client_allows setting c e)) pull allowed)
      (subst (λ (o : ClientOutcome). IsClientStep setting c on.pull o d) is (subst (λ (e : ClientEvent). IsClientStep setting c e s.outcome d) pull step)) in
      record {
        newest = record x.newest { items = items };
        news = x.news;
        answers =
            ap (λ (o : ClientOutcome). (reading_out o (read_out before)).answers) is
            ∙ item_on item_end (read_out before) x.newest (x.news ++ outs) x.answers;
        passed = x.passed;
        reading = x.reading;
        good = x.good;
        final = x.final;
        waits = still_waits (ap answers_one is) ∙ x.waits;
        kept = y.kept;
        runs = y.over ∙ x.runs;
        fine = y.failed ∙ x.fine;
        done = λ free. inl (end_comes x.newest.items);
        put = so items (end_comes x.newest.items)
            (put_as method a x.newest.items items r (no_more_bytes x.newest.items item_end refl) (end_stays x.newest.items (item_end ∷ [])) x.put);
      }

-- its end was told before, or it has no body
pub read_up : (outs now : List ReadAnswer) (method : List ℕ) (c : ClientKept) (a : Answer) (r : Reply) → is_free c ≡ true → HasHead outs now method c a r
    → HasHead outs now method c a (with_end r)
read_up outs now method c a r free x = record {
  newest = x.newest;
  news = x.news;
  answers = x.answers;
  passed = x.passed;
  reading = x.reading;
  good = x.good;
  final = x.final;
  waits = x.waits;
  kept = x.kept;
  runs = x.runs;
  fine = x.fine;
  done = x.done;
  put = put_end method a x.newest.items r (x.done free) x.put;
}
