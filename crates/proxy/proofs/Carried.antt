-- That the parts of a reply are those of its answer, over all turns.
use Rattle.std.proofs.Common.{◌≡◌, inl, inr, ℕ, true, List, [], ◌∷◌, ◌++◌, Option, Some, None, refl, sym, ap, ◌∙◌, subst}
use Rattle.std.proofs.lemmas.Bool.{false≢true}
use Rattle.h1_client.specs.State as servers
use Rattle.model_client.specs.ClientEvent as asked
use Rattle.model_h1.specs.Event as on
use Rattle.model_proxy.specs.Parts.{Part, continues, takes, takes_end, request_breaks, Handed, sends, sends_end, body_bytes, handed_by}
use Rattle.proxy.specs.Puts.{Puts, Hands}
use Rattle.proxy.proofs.Puts.{puts_none, puts_then, then_none, did_hands, hands_same, hands_both, hands_then}
use Rattle.proxy.specs.declared.proxy.Proxy.{Proxy}
use Rattle.proxy.specs.declared.proxy.Unsent.{Unsent}
use Rattle.proxy.specs.declared.proxy.SentRequest.{SentRequest}
use Rattle.proxy.specs.Kept.{HoldsNoRequest}
use Rattle.proxy.specs.Replies.{nothing_put, opened, told_to_go_on, sent_on, body_on, body_whole, broken_body, broken_late, refused_head, not_forwardable, no_answer, passed_on, piece_on, end_on, cut_off, IsUnanswered, WasAnswered, Marks, marks_of, GoesOnBy, HasCause, HasBytes, TurnReplies, HasReplied, nothing, turned, AreCarried, none_yet, one_more, took_more, took_end, broke_late, SendsOn, CarriesOn, IsCarried}
use Rattle.proxy.proofs.Replies.{same_marks, goes_as}

-- what goes on by a later state of the same connection
goes_both : (marks : Marks) (some more : List Handed) (s : servers.State) (mid new : Proxy) → (x : GoesOnBy marks some s mid)
    → GoesOnBy marks more x.after new → GoesOnBy marks (more ++ some) s new
goes_both marks some more s mid new x y = record {
  sent = y.sent;
  runs = y.runs;
  marked = y.marked;
  after = y.after;
  is_there = y.is_there;
  hands = hands_both some more s x.after y.after x.hands y.hands;
}

module _ (marks : Marks) (answered : marks.is_answered ≡ true) (s : servers.State) (old mid new : Proxy) (x : CarriesOn marks s old mid) where
  -- the request is answered, so that no head is put for it
  is_answered : x.goes.sent.is_answered ≡ true
  is_answered = ap (λ (m : Marks). m.is_answered) x.goes.marked ∙ answered

  not_both : (other : SentRequest) → IsUnanswered other mid → ⊥
  not_both other y =
      false≢true (sym y.unanswered ∙ sym (ap (λ (m : Marks). m.is_answered) (same_marks mid x.goes.sent other x.goes.runs.sent y.runs.sent)) ∙ is_answered)

  not_idle : HoldsNoRequest mid → ⊥
  not_idle idle = let no : ◌≡◌ {A = Option SentRequest} None (Some x.goes.sent) = sym idle.sent ∙ x.goes.runs.sent in cc no

  by_nothing : HasCause nothing_put mid new → Puts [] mid.client new.client → CarriesOn marks s old new
  by_nothing cause puts = record {
    handed = x.handed;
    parts = x.parts;
    carried = x.carried;
    goes = goes_both marks x.handed [] s mid new x.goes
        (subst (λ (m : Marks). GoesOnBy m [] x.goes.after new) x.goes.marked (cause x.goes.sent x.goes.after x.goes.runs x.goes.is_there));
    puts = then_none x.parts old.client mid.client new.client x.puts puts;
  }

  -- the request of a cause is this one
  marked_as : (other : SentRequest) → WasAnswered other mid → marks_of other ≡ marks
  marked_as other y = sym (same_marks mid x.goes.sent other x.goes.runs.sent y.runs.sent) ∙ x.goes.marked

  by_late : (fault : on.BodyFault) → HasCause (broken_late fault) mid new → Puts (request_breaks fault ∷ []) mid.client new.client → CarriesOn marks s old new
  by_late fault cause puts = record {
    handed = x.handed;
    parts = request_breaks fault ∷ x.parts;
    carried = broke_late fault x.handed x.parts x.carried;
    goes = goes_both marks x.handed [] s mid new x.goes
        (subst (λ (m : Marks). GoesOnBy m [] x.goes.after new) (marked_as cause.0 cause.1) (cause.2 x.goes.after x.goes.is_there));
    puts = puts_then x.parts (request_breaks fault ∷ []) old.client mid.client new.client x.puts puts;
  }

  by_piece : (bytes : List ℕ) → HasCause (piece_on bytes) mid new → Puts (continues bytes ∷ []) mid.client new.client → CarriesOn marks s old new
  by_piece bytes cause puts = record {
    handed = body_bytes bytes ∷ x.handed;
    parts = continues bytes ∷ x.parts;
    carried = one_more bytes x.handed x.parts x.carried;
    goes = goes_both marks x.handed (body_bytes bytes ∷ []) s mid new x.goes
        (subst (λ (m : Marks). HasBytes m bytes (Some x.goes.after) new) (marked_as cause.0 cause.1)
        (subst (λ (o : Option servers.State). HasBytes (marks_of cause.0) bytes o new) x.goes.is_there cause.2));
    puts = puts_then x.parts (continues bytes ∷ []) old.client mid.client new.client x.puts puts;
  }

  -- more of the request's body went on
  by_more : (event : asked.ClientEvent) (h : Handed) (part : Part) (sent next : SentRequest) (t : servers.State) → handed_by event asked.done ≡ h ∷ []
      → mid.sent ≡ Some sent → marks_of next ≡ marks_of sent → mid.server ≡ Some t → SendsOn event t next new → Puts (part ∷ []) mid.client new.client
      → AreCarried (h ∷ x.handed) (part ∷ x.parts) → CarriesOn marks s old new
  by_more event h part sent next t is here same at more puts carried = record {
    handed = h ∷ x.handed;
    parts = part ∷ x.parts;
    carried = carried;
    goes = goes_both marks x.handed (h ∷ []) s mid new x.goes (record {
      sent = next;
      runs = more.runs;
      marked = same ∙ sym (same_marks mid x.goes.sent sent x.goes.runs.sent here) ∙ x.goes.marked;
      after = more.after;
      is_there = more.is_there;
      hands =
          let both : Some t ≡ Some x.goes.after = sym at ∙ x.goes.is_there in
          let there : t ≡ x.goes.after = cc in
          subst (λ (u : servers.State). Hands (h ∷ []) u more.after) there
          (hands_then (h ∷ []) t more.mid more.after more.quiet (did_hands event more.mid more.after (h ∷ []) more.did is));
    });
    puts = puts_then x.parts (part ∷ []) old.client mid.client new.client x.puts puts;
  }

  not_unsent : (u : Unsent) → mid.unsent ≡ Some u → ⊥
  not_unsent u at = let no : ◌≡◌ {A = Option Unsent} None (Some u) = sym x.goes.runs.unsent ∙ at in cc no

  by_turn : TurnReplies mid new → IsCarried marks s old new
  by_turn (nothing_put, cause, puts, body, rest) = inl (by_nothing cause puts)
  by_turn (broken_late fault, cause, puts, body, rest) = inl (by_late fault cause puts)
  by_turn (piece_on bytes, cause, puts, body, rest) = inl (by_piece bytes cause puts)
  by_turn (end_on, cause, puts, body, rest) = inr (mid, new, x, inl (cause, puts), nothing)
  by_turn (cut_off, cause, puts, body, rest) = inr (mid, new, x, inr (cause, puts), nothing)
  by_turn (passed_on is_head a, cause, puts, body, rest) = absurd (not_both cause.0 cause.1)
  by_turn (no_answer, cause, puts, body, rest) = absurd (not_both cause.0 cause.1)
  by_turn (broken_body fault, cause, puts, body, rest) = absurd (not_both cause.0 cause.1)
  by_turn (not_forwardable, cause, puts, body, rest) = absurd (not_idle cause.0)
  by_turn (told_to_go_on, cause, puts, body, rest) = absurd (not_idle cause.0)
  by_turn (refused_head, cause, puts, body, rest) = absurd (not_idle cause.0)
  by_turn (opened, cause, puts, body, rest) = absurd (not_idle cause)
  by_turn (sent_on, cause, puts, body, rest) = absurd (not_unsent cause.0 cause.1)
  by_turn (body_on bytes, (sent, t, runs, at, more), puts, body, rest) =
      inl (by_more (asked.chunk bytes) (sends bytes) (takes bytes) sent sent t refl runs.sent refl at more puts
      (took_more bytes x.handed x.parts x.carried))
  by_turn (body_whole, (sent, t, runs, at, more), puts, body, rest) =
      inl (by_more asked.body_end sends_end takes_end sent (record sent { is_whole = true }) t refl runs.sent refl at more puts
      (took_end x.handed x.parts x.carried))

-- after the events and turns before
carried_then : (marks : Marks) → marks.is_answered ≡ true → (s : servers.State) (old mid new : Proxy) → CarriesOn marks s old mid → HasReplied mid new
    → IsCarried marks s old new
carried_then marks answered s old mid _ x nothing = inl x
carried_then marks answered s old mid _ x (turned last new before turn) = by_before (carried_then marks answered s old mid last x before)
  where
    by_before : IsCarried marks s old last → IsCarried marks s old new
    by_before (inl y) = by_turn marks answered s old last new y turn.replies
    by_before (inr y) = inr (y.0, y.1, y.2, y.3, turned last new y.4 turn)

-- over all turns
pub is_carried : (old new : Proxy) (sent : SentRequest) (s : servers.State) → HasReplied old new → WasAnswered sent old → old.server ≡ Some s
    → IsCarried (marks_of sent) s old new
is_carried old new sent s turns answered there =
    carried_then (marks_of sent) answered.answered s old old new
    (record {
      handed = [];
      parts = [];
      carried = none_yet;
      goes = goes_as old sent s s (marks_of sent) [] answered.runs refl there (hands_same s);
      puts = puts_none old.client;
    }) turns
