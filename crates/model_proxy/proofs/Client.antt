-- What each call of the client's connection leaves to do.
use Rattle.std.proofs.Common.{◌≡◌, ℕ, ◌+◌, ◌*◌, ◌<◌, ◌≤◌, Bool, true, false, not, ◌&&◌, cond, List, [], ◌∷◌, ◌++◌, length, drop, Option, Some, None, refl, sym, ap, ◌∙◌, subst, subst₂, arith, length-append, length-drop}
use Rattle.std.specs.Prelude.{◌-◌, ◌||◌, min, nat_lt, ⊤, is_some, nat_le, if◌then◌else◌, ◌==◌, slice_range}
use Rattle.std.specs.Option.{option_or}
use Rattle.std.proofs.lemmas.List.{length-take}
use Rattle.std.proofs.lemmas.Bool.{false≢true, true≢false, leb-false, eqb-false}
use Rattle.std.proofs.lemmas.Option.{none-some, same_Some}
use Rattle.httparse.specs.Ascii.{line_feed}
use Rattle.httparse.specs.Grammar.{print_end}
use Rattle.model_h1.specs.HeadPiece.{IsHeadPiece}
use Rattle.model_h1.specs.Request.{ConnectionType, BodyKind, no_body, fixed_body, chunked_body, raw_body, Head, too_large, Reading, head_is, faulty}
use Rattle.model_h1.specs.Answer.{AnswerHead, BodySize, is_at_once}
use Rattle.model_h1.specs.AnswerText.{interim_text}
use Rattle.model_h1.specs.Setting.{Setting}
use Rattle.model_h1.specs.Parse.{Message}
use Rattle.model_h1.specs.Event as on
use Rattle.model_h1.specs.End.{End}
use Rattle.model_h1.specs.Sums.{Step, accepted, request}
use Rattle.model_h1.specs.Past.{ParsedStep, steps, current, passed}
use Rattle.model_h1.proofs.PastLemmas.{legal_of}
use Rattle.model_state.specs.Kept.{Rest, no_rest, raw_rest, fixed_rest, chunks_rest, Reply, unanswered, sending, answered, Exchange, Kept, Change, is_free, is_frames, is_upgraded, whole_rest, rest_in}
use Rattle.model_state.specs.Local.{closing_by, allowed_by, has_body_left, is_answering, has_room}
use Rattle.model_state.specs.Body.{passing}
use Rattle.model_state.specs.Change.{behind_head, IsUpcoming, IsNext, pulled_from, IsPulling, IsChange, IsComing, noting_since, IsStep, doing_with}
use Rattle.model_state.specs.Reply.{completing, answering, sending_piece, ending_body}
use Rattle.model_state.specs.Pull.{Pulled, IsPull}
use Rattle.model_state.specs.KeptOf.{is_passed, raw_left, rest_of, exchange_of}
use Rattle.model_state.specs.StandsFor.{StandsFor}
use Rattle.model_state.proofs.Kernel.{coming_of}
use Rattle.model_state.proofs.KeptBounds.{unread_bounded}
use Rattle.model_state.proofs.OneStep.{coming_one}
use Rattle.model_state.proofs.Stands.{table_steps}
use Rattle.model_client.proofs.Told.{IsSound}
use Rattle.model_proxy.specs.Left.{bytes_left, request_left, client_left, AsksNothing, LeavesAfterNext, LacksBody, TakesNoMorePieces, LeavesAfterPull}
use Rattle.model_proxy.proofs.Pulls.{at_most_one, LeavesSo, pull_leaves, pass_leaves}
use Rattle.model_proxy.proofs.Pending.{GoesOn, LacksSo, pull_lacks, lacks_still}

-- a head has bytes
pub piece_some : (bytes : List ℕ) (start end : ℕ) → IsHeadPiece bytes start end → 0 < end
piece_some bytes start end x =
    let long : length (slice_range bytes start end) ≡ min (end - start) (length (drop start bytes)) = length-take (end - start) (drop start bytes) in
    let made : length (slice_range bytes start end) ≡ length x.ends.0 + length (line_feed ∷ print_end x.ends.1) =
    ap length x.ends.2 ∙ length-append x.ends.0 (line_feed ∷ print_end x.ends.1) in
    omega (arith, long, made)

-- one that stands for a trace makes the machine's step
pub machine_step : (setting : Setting) (k next : Kept) (trace : List Step) (s : Step) → StandsFor setting k trace → StandsFor setting next (s ∷ trace)
    → IsStep setting k s.event s.outcome next
machine_step setting k next trace s x y =
    subst₂ (λ (a b : Kept). IsStep setting a s.event s.outcome b) (sym x.parts) (sym y.parts)
    (table_steps setting s trace x.past y.past y.traced x.of_trace y.of_trace)

-- ---- the next head

failed_closes : (f o : Option End) → is_some f ≡ true → is_some (option_or f o) ≡ true
failed_closes (Some end) o is = refl
failed_closes None o is = absurd (false≢true is)

module _ (setting : Setting) where
  -- the same of what is kept before whether a head is coming is noted
  abbrev NextSo : Kept → on.Outcome → Kept → Type 0
  NextSo k (on.head h) m = client_left m + 15 ≤ client_left k
  NextSo k (on.fault f) m = (is_some m.failed ≡ true) × (client_left m ≤ client_left k)
  NextSo k (on.closed end) m = (m.is_over ≡ true) × (client_left m ≤ client_left k)
  NextSo k on.pending m = (k.is_coming ≡ false) × (m ≡ k) × (length k.unread < setting.hold_size)
  NextSo k o m = ⊤

  abbrev OfChange : Kept → Change → Type 0
  OfChange k c = NextSo k c.outcome c.kept

  upcoming : (k : Kept) (coming : Bool) (c : Change) → length k.unread ≤ setting.hold_size → k.is_coming ≡ coming → IsUpcoming setting k coming c → OfChange k c
  upcoming k false c fits none x = subst (OfChange k) (sym x) (without (length k.unread == setting.hold_size) refl)
    where
      without : (full : Bool) → (length k.unread == setting.hold_size) ≡ full
          → OfChange k (if full then behind_head k 0 (faulty too_large) else record { outcome = on.pending; kept = k })
      without true is = (refl, omega arith)
      without false is = let other = eqb-false (length k.unread) setting.hold_size is in (none, refl, omega (arith, fits, other))
  upcoming k true c fits there (start, end, what, piece, reading, is) = subst (OfChange k) (sym is) (by_what what)
    where
      by_what : (what : Reading) → OfChange k (behind_head k end what)
      by_what (faulty f) = (refl, omega arith)
      by_what (head_is h) =
          let unread = drop end k.unread in
          omega (
            arith,
            length-drop end k.unread,
            piece_some k.unread start end piece,
            piece.in_range,
            at_most_one (rest_in k.has_ended unread (whole_rest h.body)),
          )

  next_case : (k : Kept) (closing : Option End) (c : Change) → length k.unread ≤ setting.hold_size → closing_by setting k ≡ closing → IsNext setting k closing c
      → OfChange k c
  next_case k (Some end) c fits is x = subst (OfChange k) (sym x) (refl, omega arith)
  next_case k None c fits is x = upcoming k k.is_coming c fits refl x

  noted : (k m next : Kept) (coming : Bool) (o : on.Outcome) → next ≡ noting_since setting (record m { is_coming = coming })
      → IsComing (is_free m) m.unread coming → IsComing (is_free k) k.unread k.is_coming → NextSo k o m → LeavesAfterNext setting o k next
  unfolding closing_by
  noted k m next coming (on.head h) is comes known x = subst (λ (n : Kept). client_left n + 15 ≤ client_left k) (sym is) x
  noted k m next coming (on.fault f) is comes known x = (
    subst (λ (n : Kept). is_some (closing_by setting n) ≡ true) (sym is) (failed_closes m.failed _ x.0),
    subst (λ (n : Kept). client_left n ≤ client_left k) (sym is) x.1,
  )
  noted k m next coming (on.closed end) is comes known x =
      (ap (λ (n : Kept). n.is_over) is ∙ x.0, subst (λ (n : Kept). client_left n ≤ client_left k) (sym is) x.1)
  noted k m next coming on.pending is comes known x =
      let here = subst (λ (m : Kept). IsComing (is_free m) m.unread coming) x.1 comes in (
        ap (λ (n : Kept). n.is_coming) is ∙ coming_one (is_free k) k.unread coming k.is_coming here known ∙ x.0,
        subst (λ (n : Kept). client_left n ≤ client_left k) (sym is) (subst (λ (m : Kept). client_left m ≤ client_left k) (sym x.1) (omega arith)),
        subst (λ (n : Kept). length n.unread < setting.hold_size) (sym is) (subst (λ (m : Kept). length m.unread < setting.hold_size) (sym x.1) x.2),
      )
  noted k m next coming o is comes known x = tt

  next_step : (k next : Kept) (o : on.Outcome) → length k.unread ≤ setting.hold_size → IsComing (is_free k) k.unread k.is_coming → IsStep setting k on.next o next
      → LeavesAfterNext setting o k next
  next_step k next o fits known step =
      let c = step.change in
      subst (λ (o : on.Outcome). LeavesAfterNext setting o k next) (sym step.answers)
      (noted k c.kept next step.coming c.outcome step.keeps step.comes known (next_case k (closing_by setting k) c fits refl step.changes))

  known_coming : (k : Kept) (trace : List Step) → StandsFor setting k trace → IsComing (is_free k) k.unread k.is_coming
  known_coming k trace x =
      subst (λ (k : Kept). IsComing (is_free k) k.unread k.is_coming) (sym x.parts)
      (coming_of setting x.past (legal_of setting trace x.past x.traced x.of_trace))

  pub next_leaves : (k next : Kept) (trace : List Step) (o : on.Outcome) → StandsFor setting k trace
      → StandsFor setting next (record { event = on.next; outcome = o } ∷ trace) → LeavesAfterNext setting o k next
  next_leaves k next trace o x y =
      next_step k next o (unread_bounded setting k trace x) (known_coming k trace x) (machine_step setting k next trace (record { event = on.next; outcome = o }) x y)

-- ---- more of a body

sound_choice : (b : Bool) (x y : Rest) → IsSound x → IsSound y → IsSound (cond b x y)
sound_choice true x y sound_x sound_y = sound_x
sound_choice false x y sound_x sound_y = sound_y

-- a rest that is kept has some bytes missing, where it has a length
sound_rest : (past : List ParsedStep) (m : Message) (kind : BodyKind) → is_frames (rest_of past m kind) ≡ false → IsSound (rest_of past m kind)
sound_rest past m no_body plain = tt
sound_rest past m (fixed_body n) plain = by_place (nat_le (m.body_start + n) (passed past)) refl
  where
    by_place : (b : Bool) → nat_le (m.body_start + n) (passed past) ≡ b
        → IsSound (if b then no_rest else fixed_rest (m.body_start + n - passed past))
    by_place true is = tt
    by_place false is = omega (arith, leb-false (m.body_start + n) (passed past) is)
sound_rest past m chunked_body plain = sound_choice (is_passed (passed past) m) no_rest (chunks_rest _ _) tt tt
sound_rest past m raw_body plain = sound_raw (accepted (steps past)) plain
  where
    sound_raw : (limit : Option ℕ) → is_frames (raw_left past m limit) ≡ false → IsSound (raw_left past m limit)
    sound_raw (Some limit) plain = absurd (true≢false plain)
    sound_raw None plain = sound_choice (is_passed (passed past) m) no_rest raw_rest tt tt

abbrev IsPlainSound : Exchange → Type 0
IsPlainSound x = is_frames x.rest ≡ false → IsSound x.rest

sound_exchange : (setting : Setting) (past : List ParsedStep) (m : Option Message) (h : Option Head) (x : Exchange)
    → exchange_of setting past m h ≡ Some x → IsPlainSound x
sound_exchange setting past (Some m) (Some h) x e = subst IsPlainSound (same_Some _ x e) (sound_rest past m h.body)
sound_exchange setting past (Some m) None x e = absurd (none-some x e)
sound_exchange setting past None h x e = absurd (none-some x e)

-- what a drop is allowed for: no WebSocket, and a request whose body has something left
third : (a b c d : Bool) → (not a && (if b then false else (not c && d))) ≡ true → (c ≡ false) × (d ≡ true)
third false false false true is = (refl, refl)
third false false false false is = absurd (false≢true is)
third false false true d is = absurd (false≢true is)
third false true c d is = absurd (false≢true is)
third true b c d is = absurd (false≢true is)

module _ (setting : Setting) where
  pub droppable : (k : Kept) → allowed_by setting k on.drop_body ≡ true → (is_upgraded k ≡ false) × (has_body_left k ≡ true)
  unfolding allowed_by
  droppable k is = third k.is_over (is_some (closing_by setting k)) (is_upgraded k) (has_body_left k) is

  -- what a pull that gave nothing left of the body
  record IsLeft (m : Kept) : Type 0 where
    pub body : Exchange
    pub exchange : m.exchange ≡ Some body
    pub rest : GoesOn body.rest
    pub unread : m.unread ≡ []
    pub going : m.has_ended ≡ false

  -- the same of what is kept before whether a head is coming is noted
  abbrev PulledSo : on.Outcome → Kept → Kept → Type 0
  PulledSo (on.bytes bytes) k m = client_left m + 15 ≤ client_left k
  PulledSo (on.trailers lines) k m = client_left m < client_left k
  PulledSo on.body_ended k m = client_left m ≤ client_left k
  PulledSo (on.broken_by fault) k m = client_left m ≤ client_left k
  PulledSo on.pending k m = IsLeft m × (client_left m ≤ client_left k)
  PulledSo o k m = ⊤

  pulled_so : (k m : Kept) (n : ℕ) (o : on.Outcome) (p : Pulled) (x : Exchange) → client_left k ≡ n → client_left m ≡ bytes_left p.unread p.rest
      → m ≡ pulled_from x p k → LeavesSo o n p → LacksSo o k.has_ended p → PulledSo o k m
  pulled_so k m n (on.bytes given) p e old new is x lacks = omega (arith, old, new, x)
  pulled_so k m n (on.trailers lines) p e old new is x lacks = omega (arith, old, new, x)
  pulled_so k m n on.body_ended p e old new is x lacks = omega (arith, old, new, x)
  pulled_so k m n (on.broken_by fault) p e old new is x lacks = omega (arith, old, new, x)
  pulled_so k m n on.pending p e old new is x lacks = (
    record {
      body = record e { rest = p.rest; was_pulled = true; body_is_done = e.body_is_done || p.is_done };
      exchange = ap (λ (m : Kept). m.exchange) is;
      rest = lacks.rest;
      unread = ap (λ (m : Kept). m.unread) is ∙ lacks.unread;
      going = ap (λ (m : Kept). m.has_ended) is ∙ lacks.going;
    },
    let less = x.1 in omega (arith, old, new, less),
  )
  pulled_so k m n o p e old new is x lacks = tt

  -- a pull leaves what is said of an answer
  pub record SameAnswer (k m : Kept) : Type 0 where
    pub over : m.is_over ≡ k.is_over
    pub answering : is_answering m ≡ is_answering k
    pub buffered : m.buffered ≡ k.buffered

  pull_case : (k : Kept) (ex : Option Exchange) (c : Change) → k.exchange ≡ ex → ((x : Exchange) → ex ≡ Some x → IsPlainSound x)
      → is_upgraded (record k { exchange = ex }) ≡ false → has_body_left (record k { exchange = ex }) ≡ true → IsPulling k ex c
      → PulledSo c.outcome k c.kept × SameAnswer (record k { exchange = ex }) c.kept
  pull_case k None c is sound plain left x = absurd (false≢true left)
  pull_case k (Some x) c is sound plain left (p, pull, same) =
      subst (λ (c : Change). PulledSo c.outcome k c.kept × SameAnswer (record k { exchange = Some x }) c.kept) (sym same) (
        pulled_so k (pulled_from x p k) (bytes_left k.unread x.rest) p.outcome p x (ap (λ (e : Option Exchange). 16 * length k.unread + request_left e) is) refl refl
            (pull_leaves k.has_ended x.rest k.unread p (sound x refl plain) pull) (pull_lacks k.has_ended x.rest k.unread p (sound x refl plain) pull),
        record { over = refl; answering = refl; buffered = refl },
      )

  piece_weaker : (over closing both : Bool) → (not over && (if closing then false else both)) ≡ true → (not over && both) ≡ true
  piece_weaker true closing both is = absurd (false≢true is)
  piece_weaker false true both is = absurd (false≢true is)
  piece_weaker false false both is = is

  piece_allowed : (over closing both : Bool) → closing ≡ false → (not over && both) ≡ true → (not over && (if closing then false else both)) ≡ true
  piece_allowed over true both none is = absurd (true≢false none)
  piece_allowed over false both none is = is

  -- what is allowed while a drop is: nothing closes
  running : (k : Kept) → allowed_by setting k on.drop_body ≡ true → is_some (closing_by setting k) ≡ false
  unfolding allowed_by
  running k is = by_closing (is_some (closing_by setting k)) is
    where
      by_closing : (b : Bool) → (not k.is_over && (if b then false else (not (is_upgraded k) && has_body_left k))) ≡ true → b ≡ false
      by_closing false is = refl
      by_closing true is = absurd (never k.is_over is)
        where
          never : (o : Bool) → (not o && false) ≡ true → ⊥
          never true is = false≢true is
          never false is = false≢true is

  no_more_pieces : (k next : Kept) → is_some (closing_by setting k) ≡ false → SameAnswer k next → TakesNoMorePieces setting k next
  unfolding allowed_by
  no_more_pieces k next runs same bytes is =
      piece_allowed k.is_over (is_some (closing_by setting k)) (is_answering k && has_room setting k) runs
      (subst₂ (λ (o a : Bool). (not o && (a && has_room setting k)) ≡ true) same.over same.answering
      (subst (λ (b : List ℕ). (not next.is_over && (is_answering next && nat_lt (length b) setting.write_buffer)) ≡ true) same.buffered
      (piece_weaker next.is_over (is_some (closing_by setting next)) (is_answering next && has_room setting next) is)))

  -- a further pull gives nothing
  further : (n : Kept) (x : Exchange) (ex : Option Exchange) (c : Change) → ex ≡ Some x → GoesOn x.rest → n.unread ≡ [] → n.has_ended ≡ false → IsPulling n ex c
      → c.outcome ≡ on.pending
  further n x (Some y) c is goes none going (p, pull, same) =
      ap (λ (c : Change). c.outcome) same
      ∙ lacks_still x.rest p goes
      (subst (λ (y : Exchange). IsPull false y.rest [] p) (same_Some y x is)
      (subst₂ (λ (t : Bool) (bytes : List ℕ). IsPull t y.rest bytes p) going none pull))
  further n x None c is goes none going pull = absurd (none-some x is)

  lacks_body : (n : Kept) → IsLeft n → LacksBody setting n
  lacks_body n x = record {
    unread = x.unread;
    going = x.going;
    pending = λ o next step. step.answers ∙ further n x.body n.exchange step.change x.exchange x.rest x.unread x.going step.changes;
  }

  noted_pull : (k m next : Kept) (coming : Bool) (o : on.Outcome) → next ≡ noting_since setting (record m { is_coming = coming })
      → is_some (closing_by setting k) ≡ false → SameAnswer k m → PulledSo o k m → LeavesAfterPull setting o k next
  noted_pull k m next coming o is runs same x = subst (LeavesAfterPull setting o k) (sym is) (as_noted o x)
    where
      n : Kept
      n = noting_since setting (record m { is_coming = coming })

      as_noted : (o : on.Outcome) → PulledSo o k m → LeavesAfterPull setting o k n
      as_noted (on.bytes given) x = x
      as_noted (on.trailers lines) x = x
      as_noted on.body_ended x = x
      as_noted (on.broken_by fault) x = x
      as_noted on.pending x = (
        lacks_body n (record { body = x.0.body; exchange = x.0.exchange; rest = x.0.rest; unread = x.0.unread; going = x.0.going }),
        x.1,
        no_more_pieces k n runs (record { over = same.over; answering = same.answering; buffered = same.buffered }),
      )
      as_noted o x = tt

  pub pull_of_client : (k next : Kept) (trace : List Step) (o : on.Outcome) → StandsFor setting k trace
      → StandsFor setting next (record { event = on.pull; outcome = o } ∷ trace) → allowed_by setting k on.drop_body ≡ true → LeavesAfterPull setting o k next
  pull_of_client k next trace o x y may =
      let step = machine_step setting k next trace (record { event = on.pull; outcome = o }) x y in
      let c = step.change in
      let two = droppable k may in
      let sound : (e : Exchange) → k.exchange ≡ Some e → IsPlainSound e =
      λ (e : Exchange) is. sound_exchange setting x.past (current x.past) (request (steps x.past)) e (sym (ap (λ (k : Kept). k.exchange) x.parts) ∙ is) in
      let pulled = pull_case k k.exchange c refl sound two.0 two.1 step.changes in
      subst (λ (o : on.Outcome). LeavesAfterPull setting o k next) (sym step.answers)
      (noted_pull k c.kept next step.coming c.outcome step.keeps (running k may) pulled.1 pulled.0)

-- ---- what leaves no more

abbrev IsNoMore : Kept → Kept → Type 0
IsNoMore m k = client_left m ≤ client_left k

same_left : (k : Kept) → IsNoMore k k
same_left k = omega arith

choice_less : (t : Bool) (a b k : Kept) → IsNoMore a k → IsNoMore b k → IsNoMore (cond t a b) k
choice_less true a b k less_a less_b = less_a
choice_less false a b k less_a less_b = less_b

abbrev asked_by : Exchange → Kept → Kept
asked_by x k = record k { exchange = Some x }

completed : (kind : ConnectionType) (x : Exchange) (k : Kept) → IsNoMore (completing kind x k) (asked_by x k)
unfolding passing
completed kind x k = pass_leaves k.has_ended x.rest k.unread

module _ (setting : Setting) where
  with_exchange : (act : Exchange → Kept → Kept) (k : Kept) (ex : Option Exchange) → ((x : Exchange) → IsNoMore (act x (asked_by x k)) (asked_by x k))
      → IsNoMore (doing_with act (record k { exchange = ex })).kept (record k { exchange = ex })
  with_exchange act k None less = same_left (record k { exchange = None })
  with_exchange act k (Some x) less = less x

  answer_less : (head : AnswerHead) (size : BodySize) (k : Kept) (x : Exchange) → IsNoMore (answering setting head size x (asked_by x k)) (asked_by x k)
  answer_less head size k x =
      choice_less (is_at_once size) _ _ (asked_by x k) (completed _ x (record (asked_by x k) { buffered = _ })) (omega arith)

  piece_less : (bytes : List ℕ) (k : Kept) (x : Exchange) (reply : Reply)
      → IsNoMore (sending_piece bytes (record x { reply = reply }) (asked_by (record x { reply = reply }) k)) (asked_by (record x { reply = reply }) k)
  piece_less bytes k x (sending shape kind missing) = omega arith
  piece_less bytes k x unanswered = omega arith
  piece_less bytes k x (answered kind) = omega arith

  end_less : (k : Kept) (x : Exchange) (reply : Reply)
      → IsNoMore (ending_body (record x { reply = reply }) (asked_by (record x { reply = reply }) k)) (asked_by (record x { reply = reply }) k)
  end_less k x (sending shape kind missing) =
      completed kind (record x { reply = sending shape kind missing }) (record (asked_by (record x { reply = sending shape kind missing }) k) { buffered = _; failed = _ })
  end_less k x unanswered = omega arith
  end_less k x (answered kind) = omega arith

  of_change : (k : Kept) (c d : Change) → c ≡ d → IsNoMore d.kept k → IsNoMore c.kept k
  of_change k c d is x = subst (λ (c : Change). IsNoMore c.kept k) (sym is) x

  change_less : (k : Kept) (event : on.Event) (c : Change) → AsksNothing event → IsChange setting k event c → IsNoMore c.kept k
  change_less k on.drop_body c asks is =
      let act : Exchange → Kept → Kept = λ x k. record k { exchange = Some (record x { was_dropped = true }) } in
      of_change k c (doing_with act k) is (with_exchange act k k.exchange (λ x. omega arith))
  change_less k on.send_continue c asks is =
      let act : Exchange → Kept → Kept = λ x k. record k { buffered = k.buffered ++ interim_text; exchange = Some (record x { had_continue = true }) } in
      of_change k c (doing_with act k) is (with_exchange act k k.exchange (λ x. omega arith))
  change_less k (on.answer head size) c asks is =
      of_change k c _ is (with_exchange (answering setting head size) k k.exchange (answer_less head size k))
  change_less k (on.chunk bytes) c asks is =
      of_change k c _ is (with_exchange (sending_piece bytes) k k.exchange (λ x. piece_less bytes k x x.reply))
  change_less k on.body_end c asks is =
      of_change k c _ is (with_exchange ending_body k k.exchange (λ x. end_less k x x.reply))
  change_less k on.body_error c asks is = of_change k c _ is (omega arith)
  change_less k event c asks is = absurd asks

  pub no_more : (k next : Kept) (trace : List Step) (event : on.Event) (o : on.Outcome) → AsksNothing event → StandsFor setting k trace
      → StandsFor setting next (record { event = event; outcome = o } ∷ trace) → client_left next ≤ client_left k
  no_more k next trace event o asks x y =
      let step = machine_step setting k next trace (record { event = event; outcome = o }) x y in
      subst (λ (n : Kept). IsNoMore n k) (sym step.keeps) (change_less k event step.change asks step.changes)
