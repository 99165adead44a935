-- Where nothing comes, all that was taken is handed out.
use Rattle.std.proofs.Common.{◌≡◌, ◌⊎◌, ℕ, ◌<◌, Bool, true, false, ◌&&◌, not, List, [], ◌∷◌, ◌++◌, length, map, take, drop, Option, Some, None, refl, sym, ap, ap₂, ◌∙◌, subst, inl, inr, append-nil, append_assoc, arith, length-append}
use Rattle.std.specs.Prelude.{IsTrue, MatchOption}
use Rattle.std.proofs.lemmas.Bool.{false≢true}
use Rattle.model_h1.specs.Place.{Place}
use Rattle.model_h1.specs.Reading.{Ending, with_trailers, read}
use Rattle.model_h1.specs.TakeNext.{Next, chunk, waits, ended, breaks, take_next, says}
use Rattle.model_h1.proofs.ReadSteps.{read-nil}
use Rattle.model_h1.proofs.TakenReads.{taken_is_read}
use Rattle.model_h1.specs.HeadPiece.{HasNoHeadPiece}
use Rattle.model_h1.specs.Setting.{Setting}
use Rattle.model_h1.specs.Event as server
use Rattle.model_h1.specs.Parse.{trailer_header}
use Rattle.model_h1.specs.Handed.{item_bytes, body_bytes}
use Rattle.model_h1.proofs.HandedItems.{joined}
use Rattle.model_state.specs.Kept.{Rest, no_rest, raw_rest, fixed_rest, chunks_rest, frames_rest}
use Rattle.model_state.specs.Pull.{Pulled, gives, finishes, pull_fixed, pull_raw, EndsWith, IsPullOfChunks, IsPull}
use Rattle.model_state.specs.Change.{IsComing}
use Rattle.model_client.specs.AnswerReading.{answer_is, refused}
use Rattle.model_client.specs.AnswerParse.{Received, AnswerMessage, is_interim, left_waiting, AreAnswersFrom, AreAnswersIn}
use Rattle.model_client.specs.ClientEvent as on
use Rattle.model_client.specs.ClientEvent.{ClientEnd, ClientOutcome}
use Rattle.model_client.specs.ClientKept.{Waiting, ReadingBody, ClientKept, is_free_of, is_dropped_of, client_closing, client_allows}
use Rattle.model_client.specs.ClientStep.{ClientChange, outcome_of, IsPulling, IsUpcoming, IsNext, IsClientStep}
use Rattle.model_client.specs.ClientTrace.{Happened, IsClientTrace, taken}
use Rattle.model_client.specs.ReadOut.{ReadAnswer, read_out}
use Rattle.model_client.specs.Parsed.{has_ended, received_of, methods_of, AreAnswersTaken, IsNewestHanded}
use Rattle.model_client.proofs.Told.{may_go_on, Told, told, of_reading, of_length, of_all, IsSound, waits_goes_on, length_none, stop_of}
use Rattle.model_client.proofs.Bodies.{StopsSo}
use Rattle.model_client.proofs.Chain.{Leads, first_is}
use Rattle.model_client.proofs.Holds.{waiting_methods, IsLeft, IsBusy, IsBody, IsOpen, IsState}
use Rattle.model_client.proofs.Ended.{trace_ended}
use Rattle.model_client.proofs.NextAnswers.{fine_while, allowed_then, allowed_while, between_of}
use Rattle.model_client.proofs.AllHappened.{both, not_true, going_for, known_of, holds_now}

-- ---- the answers that were handed out and have ended are the first

pub record AreFirst (r : Received) (outs : List ReadAnswer) (place : ℕ) (left : List (List ℕ)) (ms : List AnswerMessage) : Type 0 where
  pub front : List AnswerMessage
  pub rest : List AnswerMessage
  pub are : ms ≡ front ++ rest
  pub as_many : length front ≡ length outs
  pub follow : AreAnswersFrom is_interim r place left rest

leads_on : (r : Received) (methods : List (List ℕ)) (outs : List ReadAnswer) (place : ℕ) (left : List (List ℕ)) (ms : List AnswerMessage)
    → Leads r methods outs place left → AreAnswersIn is_interim r methods ms → AreFirst r outs place left ms
leads_on r methods [] place left ms (zero_is, same) are = record {
  front = [];
  rest = ms;
  are = refl;
  as_many = refl;
  follow = subst (λ (p : ℕ). AreAnswersFrom is_interim r p left ms) (sym zero_is) (subst (λ (l : List (List ℕ)). AreAnswersFrom is_interim r 0 l ms) (sym same) are);
}
leads_on r methods (h ∷ before) place left ms (start, method, others, leads, x) are =
    let f = leads_on r methods before start (method ∷ others) ms leads are in
    let first = first_is r start method others x.message f.rest x.at f.follow in
    let follow = subst (λ (o : Option ℕ). MatchOption o (first.rest ≡ []) (λ next. AreAnswersFrom is_interim r next (left_waiting is_interim x.message.reading method others) first.rest))
    x.next first.follow in
    record {
      front = f.front ++ x.message ∷ [];
      rest = first.rest;
      are = f.are ∙ ap (λ (l : List AnswerMessage). f.front ++ l) first.are ∙ sym (append_assoc f.front (x.message ∷ []) first.rest);
      as_many = length-append f.front (x.message ∷ []) ∙ omega (arith, f.as_many);
      follow = subst (λ (l : List (List ℕ)). AreAnswersFrom is_interim r place l first.rest) (sym x.left_is) follow;
    }

none_follows : (r : Received) (place : ℕ) (left : List (List ℕ)) (ms : List AnswerMessage) → HasNoHeadPiece (drop place r.bytes) ⊎ (left ≡ [])
    → AreAnswersFrom is_interim r place left ms → ms ≡ []
none_follows r place [] ms why are = are
none_follows r place (method ∷ left) [] why are = refl
none_follows r place (method ∷ left) (m ∷ ms) (inl none) are = absurd (none are.0.start are.0.end are.0.piece)
none_follows r place (method ∷ left) (m ∷ ms) (inr nobody) are = absurd (cc nobody)

-- ---- no further answer

-- why no further answer has come
why_pending : (setting : Setting) (k : ClientKept) (waiting : List Waiting) (coming : Bool) (c : ClientChange) → IsComing true k.unread coming
    → IsUpcoming setting k waiting coming c → on.pending ≡ c.outcome → HasNoHeadPiece k.unread ⊎ (waiting ≡ [])
why_pending setting k waiting false c known x out = inl known
why_pending setting k [] true c known x out = inr refl
why_pending setting k (w ∷ ws) true c known (start, end, refused f, piece, reading, is) out =
    let no : ◌≡◌ {A = ClientOutcome} on.pending (on.fault f) = out ∙ ap (λ (c : ClientChange). c.outcome) is in absurd (cc no)
why_pending setting k (w ∷ ws) true c known (start, end, answer_is a, piece, reading, is) out =
    let no : ◌≡◌ {A = ClientOutcome} on.pending (on.answer a) = out ∙ ap (λ (c : ClientChange). c.outcome) is in absurd (cc no)

pub all_answers : (setting : Setting) (trace : List Happened) (k next : ClientKept) (parse : List AnswerMessage) → IsClientTrace setting trace k
    → AreAnswersTaken setting trace parse → IsTrue (client_allows setting k on.next) → IsClientStep setting k on.next on.pending next
    → length (read_out trace).answers ≡ length parse
all_answers setting trace k next parse ran are allowed step = by_closing (client_closing k) refl step.changes
  where
    by_closing : (o : Option ClientEnd) → client_closing k ≡ o → IsNext setting k o step.change → length (read_out trace).answers ≡ length parse
    by_closing (Some end) closing x =
        let no : ◌≡◌ {A = ClientOutcome} on.pending (on.closed end) = step.answers ∙ ap (λ (c : ClientChange). c.outcome) x in absurd (cc no)
    by_closing None going x =
        let fine = fine_while k going in
        let free = allowed_then setting k on.next going allowed in
        let known = subst (λ (t : Bool). IsComing t k.unread k.is_coming) free (known_of setting (taken trace) (has_ended trace) (methods_of trace) trace k ran) in
        let why = why_pending setting k k.waiting k.is_coming step.change known x step.answers in
        let between = between_of (taken trace) (has_ended trace) setting.hold_size (methods_of trace) (read_out trace) k [] [] fine free (holds_now setting trace k ran).1 in
        let r = received_of setting trace in
        let f = leads_on r (methods_of trace) (read_out trace).answers between.place (waiting_methods k.waiting ++ []) parse between.leads are in
        let text : drop between.place (taken trace) ≡ k.unread = between.text_is ∙ append-nil k.unread in
        let empty = none_follows r between.place (waiting_methods k.waiting ++ []) f.rest (moved between.place text why) f.follow in
        sym f.as_many ∙ ap length (sym (append-nil f.front) ∙ ap (λ (l : List AnswerMessage). f.front ++ l) (sym empty) ∙ sym f.are)
      where
        moved : (place : ℕ) → drop place (taken trace) ≡ k.unread → HasNoHeadPiece k.unread ⊎ (k.waiting ≡ [])
            → HasNoHeadPiece (drop place (taken trace)) ⊎ (waiting_methods k.waiting ++ [] ≡ [])
        moved place text (inl none) = inl (subst HasNoHeadPiece (sym text) none)
        moved place text (inr nobody) = inr (ap (λ (l : List Waiting). waiting_methods l ++ []) nobody)

-- ---- no further bytes of a body

-- what is told where a pull gives nothing yet
abbrev TellsNothing : Told → Type 0
TellsNothing t = t ≡ record { body = []; stop = may_go_on }

named : (p q : Pulled) → p ≡ q → on.pending ≡ outcome_of p.outcome → on.pending ≡ outcome_of q.outcome
named p q is out = out ∙ ap (λ (p : Pulled). outcome_of p.outcome) is

pending_raw : (t : Bool) (bytes : List ℕ) → on.pending ≡ outcome_of (pull_raw t bytes).outcome → TellsNothing (of_all t bytes)
pending_raw t (b ∷ bytes) out = let no : ◌≡◌ {A = ClientOutcome} on.pending (on.bytes (b ∷ bytes)) = out in absurd (cc no)
pending_raw true [] out = let no : ◌≡◌ {A = ClientOutcome} on.pending on.body_ended = out in absurd (cc no)
pending_raw false [] out = refl

pending_fixed : (t : Bool) (n : ℕ) (bytes : List ℕ) → 0 < n → on.pending ≡ outcome_of (pull_fixed t n bytes).outcome → TellsNothing (of_length t n bytes)
pending_fixed t n (b ∷ bytes) some out = let no : ◌≡◌ {A = ClientOutcome} on.pending (on.bytes (take n (b ∷ bytes))) = out in absurd (cc no)
pending_fixed true n [] some out = let no : ◌≡◌ {A = ClientOutcome} on.pending (on.broken_by server.incomplete) = out in absurd (cc no)
pending_fixed false n [] some out = length_none false n some

pending_end : (section behind : List ℕ) (p : Pulled) → EndsWith section behind p → on.pending ≡ outcome_of p.outcome → ⊥
pending_end [] behind p is out =
    let no : ◌≡◌ {A = ClientOutcome} on.pending on.body_ended = named p (finishes server.body_ended no_rest behind) is out in cc no
pending_end (b ∷ section) behind p (lines, each, spelled, is) out =
    let no : ◌≡◌ {A = ClientOutcome} on.pending (on.trailers (map trailer_header lines)) = named p (gives (server.trailers (map trailer_header lines)) no_rest behind) is out in
    cc no

pending_chunks : (t : Bool) (place : Place) (section bytes : List ℕ) (next : Next) (noted : List ℕ) (p : Pulled) → (take_next place bytes).next ≡ next
    → IsPullOfChunks t place section bytes next noted p → on.pending ≡ outcome_of p.outcome → TellsNothing (told t (chunks_rest place section) bytes)
pending_chunks t place section bytes (chunk given to behind) noted p same is out =
    let no : ◌≡◌ {A = ClientOutcome} on.pending (on.bytes given) = named p (gives (server.bytes given) (chunks_rest to (section ++ noted)) behind) is out in absurd (cc no)
pending_chunks true place section bytes (waits to) noted p same is out =
    let no : ◌≡◌ {A = ClientOutcome} on.pending (on.broken_by server.incomplete) =
    named p (finishes (server.broken_by server.incomplete) (chunks_rest place section) bytes) is out in absurd (cc no)
pending_chunks false place section bytes (waits to) noted p same is out =
    let trailers = (take_next place bytes).trailers in
    ap (λ (l : List ℕ). of_reading false section (read place l)) (sym (append-nil bytes))
    ∙ ap (of_reading false section) (taken_is_read bytes place [] ∙ ap (λ (n : Next). with_trailers trailers (says n [])) same ∙ ap (with_trailers trailers) (read-nil to))
    ∙ ap (λ (ending : Ending). record { body = []; stop = stop_of false (section ++ (trailers ++ [])) ending }) (waits_goes_on place to bytes same)
pending_chunks t place section bytes (ended behind) noted p same is out = absurd (pending_end (section ++ noted) behind p is out)
pending_chunks t place section bytes breaks noted p same is out =
    let no : ◌≡◌ {A = ClientOutcome} on.pending (on.broken_by server.corrupted) =
    named p (finishes (server.broken_by server.corrupted) (chunks_rest place section) bytes) is out in absurd (cc no)

pending_tells : (t : Bool) (rest : Rest) (bytes : List ℕ) (p : Pulled) → IsSound rest → IsPull t rest bytes p → on.pending ≡ outcome_of p.outcome
    → TellsNothing (told t rest bytes)
pending_tells t no_rest bytes p sound is out =
    let no : ◌≡◌ {A = ClientOutcome} on.pending on.body_ended = named p (finishes server.body_ended no_rest bytes) is out in absurd (cc no)
pending_tells t raw_rest bytes p sound is out = pending_raw t bytes (named p (pull_raw t bytes) is out)
pending_tells t (fixed_rest n) bytes p sound is out = pending_fixed t n bytes sound (named p (pull_fixed t n bytes) is out)
pending_tells t (chunks_rest place section) bytes p sound is out =
    pending_chunks t place section bytes (take_next place bytes).next (take_next place bytes).trailers p refl is out
pending_tells t (frames_rest under_way limit) bytes p sound is out = absurd sound

-- the bytes of pieces alone
no_more : {A : Type 0} (all front rest : List A) → all ≡ front ++ rest → rest ≡ [] → all ≡ front
no_more all front rest is none = is ∙ ap (λ (l : List _). front ++ l) none ∙ append-nil front

module _ (setting : Setting) (trace : List Happened) (parse : List AnswerMessage) (are : AreAnswersTaken setting trace parse) where
  abbrev bytes : List ℕ
  bytes = taken trace

  -- the body that nothing more is told of
  newest_handed : (outs : List ReadAnswer) (text : List ℕ) (others : List (List ℕ)) (body : ReadingBody) → body.was_dropped ≡ false
      → IsBusy bytes (has_ended trace) setting.hold_size (methods_of trace) outs text others body → TellsNothing (told (has_ended trace) body.rest text)
      → IsNewestHanded bytes outs parse
  newest_handed [] text others body kept x nothing = absurd x
  newest_handed (h ∷ before) text others body kept x nothing =
      let t = told (has_ended trace) body.rest text in
      let giving = subst (λ (d : Bool). IsLeft d bytes x.message.body h.items t) kept x.left in
      let stops : StopsSo bytes x.message.body giving.last may_go_on = subst (StopsSo bytes x.message.body giving.last) (ap (λ (t : Told). t.stop) nothing) giving.stops in
      let f = leads_on (received_of setting trace) (methods_of trace) before x.start (x.method ∷ others) parse x.leads are in
      let first = first_is (received_of setting trace) x.start x.method others x.message f.rest x.at f.follow in
      let alone : first.rest ≡ [] =
      subst (λ (o : Option ℕ). MatchOption o (first.rest ≡ []) (λ next. AreAnswersFrom is_interim (received_of setting trace) next (left_waiting is_interim x.message.reading x.method others) first.rest))
      stops.2 first.follow in
      record {
        newest = h;
        older = before;
        outs_are = refl;
        front = f.front;
        last = x.message;
        are = f.are ∙ ap (λ (l : List AnswerMessage). f.front ++ l) (first.are ∙ ap (λ (l : List AnswerMessage). x.message ∷ l) alone);
        as_many = f.as_many;
        pieces = giving.pieces;
        items = no_more h.items (map item_bytes giving.pieces) giving.last giving.are stops.0;
        all = sym (no_more (body_bytes bytes x.message.body) (joined giving.pieces) t.body giving.all (ap (λ (t : Told). t.body) nothing));
        goes_on = stops.1;
      }

-- a pull is of a body that is read and not done
module _ (setting : Setting) (trace : List Happened) (k next : ClientKept) (parse : List AnswerMessage) (ran : IsClientTrace setting trace k)
    (are : AreAnswersTaken setting trace parse) (allowed : IsTrue (client_allows setting k on.pull)) (step : IsClientStep setting k on.pull on.pending next) where
  going : client_closing k ≡ None
  going = going_for setting (taken trace) (has_ended trace) (methods_of trace) k on.pull allowed
      (λ end closing. false≢true (allowed_while setting k on.pull end closing allowed))

  abbrev others : List (List ℕ)
  others = waiting_methods k.waiting ++ []

  state : IsOpen (taken trace) (has_ended trace) setting.hold_size (methods_of trace) (read_out trace).answers (k.unread ++ []) others k.reading
  state =
      subst (λ (f : Option ClientEnd). IsState (taken trace) (has_ended trace) setting.hold_size (methods_of trace) f [] (read_out trace).answers (k.unread ++ []) others k.reading)
      (fine_while k going) (holds_now setting trace k ran).1

  pub all_bytes : IsNewestHanded (taken trace) (read_out trace).answers parse
  all_bytes = by_reading k.reading refl step.changes (allowed_then setting k on.pull going allowed)
    where
      by_reading : (body : Option ReadingBody) → k.reading ≡ body → IsPulling k body step.change → IsTrue (not (is_free_of body) && not (is_dropped_of body))
          → IsNewestHanded (taken trace) (read_out trace).answers parse
      by_reading None is x may = absurd (false≢true may)
      by_reading (Some body) is (p, pull, same) may =
          let two = both (not body.is_done) (not body.was_dropped) may in
          let open_now = subst (IsOpen (taken trace) (has_ended trace) setting.hold_size (methods_of trace) (read_out trace).answers (k.unread ++ []) others) is state in
          let busy = subst (λ (d : Bool). IsBody (taken trace) (has_ended trace) setting.hold_size (methods_of trace) d (read_out trace).answers (k.unread ++ []) others body)
          (not_true body.is_done two.0) open_now in
          let out : on.pending ≡ outcome_of p.outcome = step.answers ∙ ap (λ (c : ClientChange). c.outcome) same in
          let nothing = pending_tells k.has_ended body.rest k.unread p (sound_of (read_out trace).answers busy) pull out in
          newest_handed setting trace parse are (read_out trace).answers (k.unread ++ []) others body (not_true body.was_dropped two.1) busy
          (ap₂ (λ (t : Bool) (l : List ℕ). told t body.rest l) (trace_ended setting trace k ran) (append-nil k.unread) ∙ nothing)
        where
          sound_of : (outs : List ReadAnswer) → IsBusy (taken trace) (has_ended trace) setting.hold_size (methods_of trace) outs (k.unread ++ []) others body → IsSound body.rest
          sound_of [] x = absurd x
          sound_of (h ∷ before) x = x.sound
