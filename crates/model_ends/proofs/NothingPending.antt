-- Where a client has taken all that was sent, and its pull is told that nothing has come yet, all bytes of the body that were
-- sent so far are handed out, and its end wasn't sent.
use Rattle.std.proofs.Common.{◌≡◌, ℕ, Bool, true, false, not, List, [], ◌∷◌, ◌++◌, length, reverse, Option, Some, None, refl, sym, ap, ◌∙◌, subst, inl, inr, arith, append-nil, append_assoc}
use Rattle.std.specs.Prelude.{IsTrue, nat_lt, if◌then◌else◌}
use Rattle.std.proofs.lemmas.Bool.{false≢true}
use Rattle.std.proofs.lemmas.List.{length-reverse}
use Rattle.std.proofs.lemmas.Grind.{reverse_onto}
use Rattle.model_h1.specs.Place.{Place, in_bytes, in_section, done, broken, step}
use Rattle.model_h1.specs.Reading.{Reading, goes_on, with_trailers, at_end, read}
use Rattle.model_h1.specs.TakeNext.{Next, chunk, waits, ended, breaks, Taken, noted_line, stops_at, take_next, says}
use Rattle.model_h1.proofs.TakenReads.{taken_is_read}
use Rattle.model_h1.specs.Setting.{Setting}
use Rattle.model_h1.specs.Event.{Outcome}
use Rattle.model_h1.specs.Event as server
use Rattle.model_h1.specs.Handed.{Item}
use Rattle.model_h1.specs.Sums.{Step}
use Rattle.model_h1.specs.Text.{text}
use Rattle.model_state.specs.Kept.{Rest, no_rest, raw_rest, fixed_rest, chunks_rest, frames_rest}
use Rattle.model_state.specs.Pull.{Pulled, EndsWith, IsPullOfChunks, IsPull}
use Rattle.model_client.specs.RequestText.{joined}
use Rattle.model_client.specs.ClientEvent as on
use Rattle.model_client.specs.ClientEvent.{ClientEnd, ClientOutcome}
use Rattle.model_client.specs.ClientKept.{ReadingBody, ClientKept, is_free, is_dropped_of, is_dropped, client_closing, client_allows}
use Rattle.model_client.specs.ClientStep.{ClientChange, outcome_of, IsPulling, IsClientStep}
use Rattle.model_client.specs.ClientTrace.{Happened}
use Rattle.model_ends.specs.SentAnswer.{SentAnswer, AreSent, sent_text, answers_sent}
use Rattle.model_ends.proofs.Traces.{trace_words}
use Rattle.model_ends.specs.Connected.{AreConnected, ArePlain}
use Rattle.model_client.specs.ReadOut.{ReadAnswer, read_out}
use Rattle.model_ends.specs.ReadOut.{bytes_taken, IsAllHanded}
use Rattle.model_ends.proofs.Agreement.{joined_ends}
use Rattle.model_ends.proofs.Ends.{so_length}
use Rattle.model_ends.proofs.Holds.{AreSo, IsGiving, IsBusy, Holds, faulty_some}
use Rattle.model_ends.proofs.NextAnswers.{failed_closes, allowed_then, allowed_while}
use Rattle.model_ends.proofs.ReadOuts.{both, not_true, all_for}
use Rattle.model_ends.proofs.Rests.{RestSays, Gives, some_bytes, nothing_yet, its_end, cut_off, ending_of, nil_both, pull_gives}

-- no more bytes of the body are left, and its end wasn't sent
pub record IsUnderWay (left : List ℕ) (whole : Bool) : Type 0 where
  pub none : left ≡ []
  pub part : whole ≡ false

-- ---- chunks

noted_next : (place next : Place) (b : ℕ) (t : Taken) → (noted_line place next b t).next ≡ t.next
noted_next (in_section at lines room) (in_section at' lines' room') b t = refl
noted_next (in_section at lines room) _ b t = refl
noted_next _ next b t = refl

chunk_waits : (t : Bool) (a b c d : List ℕ) (p q to : Place) → (if t then chunk a p b else chunk c q d) ≡ waits to → ⊥
chunk_waits true a b c d p q to e = cc e
chunk_waits false a b c d p q to e = cc e

-- where nothing comes next the body goes on
pub waiting_goes_on : (place to : Place) (bytes : List ℕ) → (take_next place bytes).next ≡ waits to → at_end to ≡ goes_on
unfolding take_next
waiting_goes_on place to [] e = at_place place e
  where
    at_place : (place : Place) → stops_at place ≡ waits to → at_end to ≡ goes_on
    at_place done e = absurd (cc e)
    at_place broken e = absurd (cc e)
    at_place place e = let same : place ≡ to = cc in sym (ap at_end same)
waiting_goes_on done to (b ∷ bytes) e = absurd (cc e)
waiting_goes_on broken to (b ∷ bytes) e = absurd (cc e)
waiting_goes_on (in_bytes more) to (b ∷ bytes) e = absurd (chunk_waits (nat_lt more (length (b ∷ bytes))) _ _ _ _ _ _ to e)
waiting_goes_on place to (b ∷ bytes) e =
    waiting_goes_on (step place b) to bytes (sym (noted_next place (step place b) b (take_next (step place b) bytes)) ∙ e)

pub not_pending : (p : Pulled) (o : Outcome) → p.outcome ≡ o → p.outcome ≡ server.pending → o ≡ server.pending
not_pending p o is out = sym is ∙ out

pub goes_on_part : (whole : Bool) (behind : List ℕ) → goes_on ≡ ending_of whole behind → whole ≡ false
goes_on_part true behind e = absurd (cc e)
goes_on_part false behind e = refl

end_not_pending : (section behind : List ℕ) (p : Pulled) → EndsWith section behind p → p.outcome ≡ server.pending → ⊥
end_not_pending [] behind p is out = cc (not_pending p server.body_ended (ap (λ (p : Pulled). p.outcome) is) out)
end_not_pending (b ∷ section) behind p (lines, all, text, is) out = cc (not_pending p _ (ap (λ (p : Pulled). p.outcome) is) out)

of_chunks : (is_ended : Bool) (place : Place) (section bytes left : List ℕ) (whole : Bool) (behind : List ℕ) (next : Next) (noted : List ℕ) (p : Pulled)
    → with_trailers noted (says next []) ≡ record { body = left; trailers = []; ending = ending_of whole behind }
    → ((to : Place) → next ≡ waits to → at_end to ≡ goes_on) → IsPullOfChunks is_ended place section bytes next noted p → p.outcome ≡ server.pending
    → IsUnderWay left whole
unfolding read
of_chunks is_ended place section bytes left whole behind (chunk given to rest) noted p e live is out =
    absurd (cc (not_pending p (server.bytes given) (ap (λ (p : Pulled). p.outcome) is) out))
of_chunks true place section bytes left whole behind (waits to) noted p e live is out =
    absurd (cc (not_pending p _ (ap (λ (p : Pulled). p.outcome) is) out))
of_chunks false place section bytes left whole behind (waits to) noted p e live is out = record {
  none = sym (ap (λ (r : Reading). r.body) e);
  part = goes_on_part whole behind (sym (live to refl) ∙ ap (λ (r : Reading). r.ending) e);
}
of_chunks is_ended place section bytes left whole behind (ended rest) noted p e live is out =
    absurd (end_not_pending (section ++ noted) rest p is out)
of_chunks is_ended place section bytes left whole behind breaks noted p e live is out =
    absurd (cc (not_pending p _ (ap (λ (p : Pulled). p.outcome) is) out))

-- ---- any body

pub of_fixed : (n : ℕ) (left : List ℕ) (whole : Bool) (behind : List ℕ) → RestSays (fixed_rest n) [] left whole behind → IsUnderWay left whole
of_fixed n left true behind (some, long, text) =
    let none = nil_both left behind (sym text) in absurd (omega (arith, some, long, ap length none.0))
of_fixed n left false behind (short, text) = record { none = sym text; part = refl }

pending_left : (is_ended : Bool) (rest : Rest) (bytes left : List ℕ) (whole : Bool) (behind : List ℕ) (p : Pulled)
    → RestSays rest (bytes ++ []) left whole behind → IsPull is_ended rest bytes p → p.outcome ≡ server.pending → IsUnderWay left whole
pending_left is_ended no_rest bytes left whole behind p says is out =
    absurd (cc (not_pending p server.body_ended (ap (λ (p : Pulled). p.outcome) is) out))
pending_left is_ended raw_rest bytes left whole behind p says is out = absurd says
pending_left is_ended (frames_rest under_way limit) bytes left whole behind p says is out = absurd says
pending_left true (fixed_rest n) [] left whole behind p says is out = absurd (cc (not_pending p _ (ap (λ (p : Pulled). p.outcome) is) out))
pending_left false (fixed_rest n) [] left whole behind p says is out = of_fixed n left whole behind says
pending_left is_ended (fixed_rest n) (b ∷ bytes) left whole behind p says is out =
    absurd (cc (not_pending p _ (ap (λ (p : Pulled). p.outcome) is) out))
pending_left is_ended (chunks_rest place section) bytes left whole behind p (none, reads) is out =
    let t = take_next place bytes in
    of_chunks is_ended place section bytes left whole behind t.next t.trailers p (sym (taken_is_read bytes place []) ∙ reads)
    (λ to e. waiting_goes_on place to bytes e) is out

-- ---- a pull of a client

-- only the last answer may be under way
pub last_part : (front rest : List SentAnswer) (s : SentAnswer) → AreSent (front ++ s ∷ rest) → s.is_whole ≡ false → rest ≡ []
last_part [] rest s sent part = sent.1 part
last_part (x ∷ front) rest s sent part = last_part front rest s sent.2 part

module _ (setting : Setting) (ss : List SentAnswer) (sent : AreSent ss) (k next : ClientKept) (allowed : IsTrue (client_allows setting k on.pull))
    (x : IsClientStep setting k on.pull on.pending next) where
  going : client_closing k ≡ None
  going = by_closing (client_closing k) refl
    where
      by_closing : (o : Option ClientEnd) → client_closing k ≡ o → client_closing k ≡ None
      by_closing None e = e
      by_closing (Some end) e = absurd (false≢true (allowed_while setting k on.pull end e allowed))

  may : (not (is_free k) ≡ true) × (not (is_dropped k) ≡ true)
  may = both (not (is_free k)) (not (is_dropped k)) (allowed_then setting k on.pull going allowed)

  -- what it tells
  told : (body : ReadingBody) → k.reading ≡ Some body → (p : Pulled) × IsPull k.has_ended body.rest k.unread p × (on.pending ≡ outcome_of p.outcome)
  told body is =
      let pulling = subst (λ (o : Option ReadingBody). IsPulling k o x.change) is x.changes in
      (pulling.0, pulling.1, x.answers ∙ ap (λ (c : ClientChange). c.outcome) pulling.2)

  busy : (outs : List ReadAnswer) (ds rest : List SentAnswer) → ss ≡ reverse ds ++ rest → AreSo k.has_ended outs ds → IsBusy k [] [] rest outs ds
      → IsAllHanded outs ss
  busy [] ds rest are so b = absurd b
  busy (a ∷ outs) [] rest are so b = absurd b
  busy (a ∷ outs) (s ∷ ds) rest are so b =
      let kept : b.body.was_dropped ≡ false = sym (ap is_dropped_of b.is) ∙ not_true (is_dropped k) may.1 in
      let t = told b.body b.is in
      by_gives t.0 t.1 t.2 (subst (λ (t : Bool). IsGiving t a.items b.left s.bytes) kept b.giving)
      (pull_gives k.has_ended b.body.rest k.unread [] b.left s.is_whole (sent_text rest) t.0 b.says t.1)
    where
      turned : reverse (s ∷ ds) ≡ reverse ds ++ s ∷ []
      turned = reverse_onto ds s []

      whole_list : ss ≡ reverse ds ++ (s ∷ rest)
      whole_list = are ∙ ap (λ (l : List SentAnswer). l ++ rest) turned ∙ append_assoc (reverse ds) (s ∷ []) rest

      handed : IsGiving false a.items b.left s.bytes → IsUnderWay b.left s.is_whole → IsAllHanded (a ∷ outs) ss
      handed (pieces, items, some, all) under =
          let none : rest ≡ [] = last_part (reverse ds) rest s (subst AreSent whole_list sent) under.part in
          record {
            newest = a;
            older = outs;
            outs_are = refl;
            front = reverse ds;
            last = s;
            sent_are = whole_list ∙ ap (λ (l : List SentAnswer). reverse ds ++ s ∷ l) none;
            as_many = length-reverse ds ∙ sym (so_length k.has_ended outs ds so.1);
            pieces = pieces;
            items = items;
            all = sym (append-nil (joined pieces)) ∙ ap (λ (l : List ℕ). joined pieces ++ l) (sym under.none) ∙ all;
            part = under.part;
          }

      by_gives : (p : Pulled) → IsPull k.has_ended b.body.rest k.unread p → on.pending ≡ outcome_of p.outcome → IsGiving false a.items b.left s.bytes
          → Gives k.has_ended [] b.left s.is_whole (sent_text rest) p → IsAllHanded (a ∷ outs) ss
      by_gives p pull out giving (some_bytes given left' is some left more goes) =
          let no : ◌≡◌ {A = ClientOutcome} on.pending (on.bytes given) = out ∙ ap outcome_of is in absurd (cc no)
      by_gives p pull out giving (nothing_yet is more goes) =
          handed giving (pending_left k.has_ended b.body.rest k.unread b.left s.is_whole (sent_text rest) p b.says pull is)
      by_gives p pull out giving (its_end is none whole behind over) =
          let no : ◌≡◌ {A = ClientOutcome} on.pending on.body_ended = out ∙ ap outcome_of is in absurd (cc no)
      by_gives p pull out giving (cut_off is closed over) =
          let no : ◌≡◌ {A = ClientOutcome} on.pending (on.broken_by _) = out ∙ ap outcome_of is in absurd (cc no)

  pub all_handed_out : (stray : List Item) (outs : List ReadAnswer) (ds rest : List SentAnswer) → Holds setting.hold_size ss stray outs ds rest k [] []
      → IsAllHanded outs ss
  all_handed_out stray outs ds rest h = elim h.state [
    | inl failed ↦ absurd (false≢true (sym (ap is_some_end going) ∙ failed_closes k (faulty_some k.failed k.has_ended failed)))
    | inr (fine, y) ↦ elim y [
      | inl f ↦ absurd (false≢true (sym (not_true (is_free k) may.0) ∙ f.free))
      | inr b ↦ busy outs ds rest h.are h.so b
    ]
  ]
    where
      is_some_end : Option ClientEnd → Bool
      is_some_end None = false
      is_some_end (Some end) = true

-- ---- both

pub all_is_pulled : (client server : Setting) (asked : List Happened) (k next : ClientKept) (trace : List Step) → AreConnected client server asked k trace
    → ArePlain client server asked trace → bytes_taken asked ≡ text server trace → IsTrue (client_allows client k on.pull)
    → IsClientStep client k on.pull on.pending next → IsAllHanded (read_out asked).answers (answers_sent server trace)
all_is_pulled client server asked k next trace c plain all allowed step =
    let j = joined_ends client server asked k trace c plain in
    let ss = answers_sent server trace in
    let came : bytes_taken asked ++ [] ≡ sent_text ss = append-nil (bytes_taken asked) ∙ all ∙ trace_words server trace j.is_plain in
    let x = all_for client ss plain.client_holds asked k [] [] c.client_ran came j.to j.sent plain.held in
    all_handed_out client ss j.sent k next allowed step (read_out asked).stray (read_out asked).answers x.0 x.1 x.2
