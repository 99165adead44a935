-- Where a client has taken all that was sent, and a body is told to be incomplete, its end wasn't sent.
use Rattle.std.proofs.Common.{◌≡◌, ℕ, Bool, true, false, not, List, [], ◌∷◌, ◌++◌, reverse, Option, Some, None, is_some, inl, inr, refl, sym, ap, ◌∙◌, subst, append-nil, append_assoc}
use Rattle.std.specs.Prelude.{IsTrue}
use Rattle.std.proofs.lemmas.Bool.{false≢true}
use Rattle.std.proofs.lemmas.Grind.{reverse_onto}
use Rattle.model_h1.specs.Place.{Place}
use Rattle.model_h1.specs.Reading.{Reading, goes_on, with_trailers, at_end, read}
use Rattle.model_h1.specs.TakeNext.{Next, chunk, waits, ended, breaks, take_next, says}
use Rattle.model_h1.proofs.TakenReads.{taken_is_read}
use Rattle.model_h1.specs.Setting.{Setting}
use Rattle.model_h1.specs.Event.{Outcome, BodyFault, incomplete}
use Rattle.model_h1.specs.Event as server
use Rattle.model_h1.specs.Handed.{Item}
use Rattle.model_h1.specs.Sums.{Step}
use Rattle.model_h1.specs.Text.{text}
use Rattle.model_state.specs.Kept.{Rest, no_rest, raw_rest, fixed_rest, chunks_rest, frames_rest}
use Rattle.model_state.specs.Pull.{Pulled, EndsWith, IsPullOfChunks, IsPull}
use Rattle.model_client.specs.ClientEvent as on
use Rattle.model_client.specs.ClientEvent.{ClientEnd, ClientOutcome}
use Rattle.model_client.specs.ClientKept.{ReadingBody, ClientKept, is_free, is_dropped, client_closing, client_allows}
use Rattle.model_client.specs.ClientStep.{ClientChange, outcome_of, IsPulling, IsClientStep}
use Rattle.model_client.specs.ClientTrace.{Happened}
use Rattle.model_ends.specs.SentAnswer.{SentAnswer, AreSent, sent_text, answers_sent}
use Rattle.model_ends.proofs.Traces.{trace_words}
use Rattle.model_ends.specs.Connected.{AreConnected, ArePlain}
use Rattle.model_client.specs.ReadOut.{ReadAnswer, read_out}
use Rattle.model_ends.specs.ReadOut.{bytes_taken, IsPartSent}
use Rattle.model_ends.proofs.Agreement.{joined_ends}
use Rattle.model_ends.proofs.Holds.{IsBusy, Holds, faulty_some}
use Rattle.model_ends.proofs.NextAnswers.{failed_closes, allowed_then, allowed_while}
use Rattle.model_ends.proofs.NothingPending.{waiting_goes_on, goes_on_part, of_fixed, last_part}
use Rattle.model_ends.proofs.ReadOuts.{both, not_true, all_for}
use Rattle.model_ends.proofs.Rests.{RestSays, Gives, some_bytes, nothing_yet, its_end, cut_off, ending_of, pull_gives}

abbrev cut : Outcome
cut = server.broken_by incomplete

-- another outcome
other : (p : Pulled) (o : Outcome) → p.outcome ≡ o → p.outcome ≡ cut → o ≡ cut
other p o is out = sym is ∙ out

end_not_cut : (section behind : List ℕ) (p : Pulled) → EndsWith section behind p → p.outcome ≡ cut → ⊥
end_not_cut [] behind p is out = cc (other p server.body_ended (ap (λ (p : Pulled). p.outcome) is) out)
end_not_cut (b ∷ section) behind p (lines, all, text, is) out = cc (other p _ (ap (λ (p : Pulled). p.outcome) is) out)

of_chunks : (is_ended : Bool) (place : Place) (section bytes left : List ℕ) (whole : Bool) (behind : List ℕ) (next : Next) (noted : List ℕ) (p : Pulled)
    → with_trailers noted (says next []) ≡ record { body = left; trailers = []; ending = ending_of whole behind }
    → ((to : Place) → next ≡ waits to → at_end to ≡ goes_on) → IsPullOfChunks is_ended place section bytes next noted p → p.outcome ≡ cut → whole ≡ false
unfolding read
of_chunks is_ended place section bytes left whole behind (chunk given to rest) noted p e live is out =
    absurd (cc (other p (server.bytes given) (ap (λ (p : Pulled). p.outcome) is) out))
of_chunks true place section bytes left whole behind (waits to) noted p e live is out =
    goes_on_part whole behind (sym (live to refl) ∙ ap (λ (r : Reading). r.ending) e)
of_chunks false place section bytes left whole behind (waits to) noted p e live is out =
    goes_on_part whole behind (sym (live to refl) ∙ ap (λ (r : Reading). r.ending) e)
of_chunks is_ended place section bytes left whole behind (ended rest) noted p e live is out =
    absurd (end_not_cut (section ++ noted) rest p is out)
of_chunks is_ended place section bytes left whole behind breaks noted p e live is out =
    absurd (cc (other p _ (ap (λ (p : Pulled). p.outcome) is) out))

-- a body whose bytes are all there is cut off only where it was sent no further
cut_part : (is_ended : Bool) (rest : Rest) (bytes left : List ℕ) (whole : Bool) (behind : List ℕ) (p : Pulled)
    → RestSays rest (bytes ++ []) left whole behind → IsPull is_ended rest bytes p → p.outcome ≡ cut → whole ≡ false
cut_part is_ended no_rest bytes left whole behind p says is out =
    absurd (cc (other p server.body_ended (ap (λ (p : Pulled). p.outcome) is) out))
cut_part is_ended raw_rest bytes left whole behind p says is out = absurd says
cut_part is_ended (frames_rest under_way limit) bytes left whole behind p says is out = absurd says
cut_part is_ended (fixed_rest n) [] left whole behind p says is out = (of_fixed n left whole behind says).part
cut_part is_ended (fixed_rest n) (b ∷ bytes) left whole behind p says is out =
    absurd (cc (other p _ (ap (λ (p : Pulled). p.outcome) is) out))
cut_part is_ended (chunks_rest place section) bytes left whole behind p (none, reads) is out =
    let t = take_next place bytes in
    of_chunks is_ended place section bytes left whole behind t.next t.trailers p (sym (taken_is_read bytes place []) ∙ reads)
    (λ to e. waiting_goes_on place to bytes e) is out

-- ---- a pull of a client

module _ (setting : Setting) (ss : List SentAnswer) (sent : AreSent ss) (k next : ClientKept) (fault : BodyFault) (allowed : IsTrue (client_allows setting k on.pull))
    (x : IsClientStep setting k on.pull (on.broken_by fault) next) where
  going : client_closing k ≡ None
  going = by_closing (client_closing k) refl
    where
      by_closing : (o : Option ClientEnd) → client_closing k ≡ o → client_closing k ≡ None
      by_closing None e = e
      by_closing (Some end) e = absurd (false≢true (allowed_while setting k on.pull end e allowed))

  may : (not (is_free k) ≡ true) × (not (is_dropped k) ≡ true)
  may = both (not (is_free k)) (not (is_dropped k)) (allowed_then setting k on.pull going allowed)

  told : (body : ReadingBody) → k.reading ≡ Some body → (p : Pulled) × IsPull k.has_ended body.rest k.unread p × (on.broken_by fault ≡ outcome_of p.outcome)
  told body is =
      let pulling = subst (λ (o : Option ReadingBody). IsPulling k o x.change) is x.changes in
      (pulling.0, pulling.1, x.answers ∙ ap (λ (c : ClientChange). c.outcome) pulling.2)

  busy : (outs : List ReadAnswer) (ds rest : List SentAnswer) → ss ≡ reverse ds ++ rest → IsBusy k [] [] rest outs ds → IsPartSent ss
  busy [] ds rest are b = absurd b
  busy (a ∷ outs) [] rest are b = absurd b
  busy (a ∷ outs) (s ∷ ds) rest are b =
      let t = told b.body b.is in
      by_gives t.0 t.1 t.2 (pull_gives k.has_ended b.body.rest k.unread [] b.left s.is_whole (sent_text rest) t.0 b.says t.1)
    where
      whole_list : ss ≡ reverse ds ++ (s ∷ rest)
      whole_list = are ∙ ap (λ (l : List SentAnswer). l ++ rest) (reverse_onto ds s []) ∙ append_assoc (reverse ds) (s ∷ []) rest

      part : s.is_whole ≡ false → IsPartSent ss
      part under =
          let none : rest ≡ [] = last_part (reverse ds) rest s (subst AreSent whole_list sent) under in
          (reverse ds, s, whole_list ∙ ap (λ (l : List SentAnswer). reverse ds ++ s ∷ l) none, under)

      by_gives : (p : Pulled) → IsPull k.has_ended b.body.rest k.unread p → on.broken_by fault ≡ outcome_of p.outcome
          → Gives k.has_ended [] b.left s.is_whole (sent_text rest) p → IsPartSent ss
      by_gives p pull out (some_bytes given left' is some left more goes) =
          let no : ◌≡◌ {A = ClientOutcome} (on.broken_by fault) (on.bytes given) = out ∙ ap outcome_of is in absurd (cc no)
      by_gives p pull out (nothing_yet is more goes) =
          let no : ◌≡◌ {A = ClientOutcome} (on.broken_by fault) on.pending = out ∙ ap outcome_of is in absurd (cc no)
      by_gives p pull out (its_end is none whole behind over) =
          let no : ◌≡◌ {A = ClientOutcome} (on.broken_by fault) on.body_ended = out ∙ ap outcome_of is in absurd (cc no)
      by_gives p pull out (cut_off is closed over) =
          part (cut_part k.has_ended b.body.rest k.unread b.left s.is_whole (sent_text rest) p b.says pull is)

  pub only_part : (stray : List Item) (outs : List ReadAnswer) (ds rest : List SentAnswer) → Holds setting.hold_size ss stray outs ds rest k [] [] → IsPartSent ss
  only_part stray outs ds rest h = elim h.state [
    | inl failed ↦ absurd (false≢true (sym (ap is_some going) ∙ failed_closes k (faulty_some k.failed k.has_ended failed)))
    | inr (fine, y) ↦ elim y [
      | inl f ↦ absurd (false≢true (sym (not_true (is_free k) may.0) ∙ f.free))
      | inr b ↦ busy outs ds rest h.are b
    ]
  ]

-- ---- both

pub none_is_cut : (client server : Setting) (asked : List Happened) (k next : ClientKept) (trace : List Step) (fault : BodyFault) → AreConnected client server asked k trace
    → ArePlain client server asked trace → bytes_taken asked ≡ text server trace → IsTrue (client_allows client k on.pull)
    → IsClientStep client k on.pull (on.broken_by fault) next → IsPartSent (answers_sent server trace)
none_is_cut client server asked k next trace fault c plain all allowed step =
    let j = joined_ends client server asked k trace c plain in
    let ss = answers_sent server trace in
    let came : bytes_taken asked ++ [] ≡ sent_text ss = append-nil (bytes_taken asked) ∙ all ∙ trace_words server trace j.is_plain in
    let x = all_for client ss plain.client_holds asked k [] [] c.client_ran came j.to j.sent plain.held in
    only_part client ss j.sent k next fault allowed step (read_out asked).stray (read_out asked).answers x.0 x.1 x.2
