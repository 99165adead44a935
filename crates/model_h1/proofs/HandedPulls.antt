-- What a pull adds to what was handed out of a message.
use Rattle.std.proofs.Common.{◌≡◌, ℕ, ◌+◌, Bool, true, false, List, [], ◌∷◌, ◌++◌, length, map, slice_range, Option, Some, None, is_some, refl, sym, ap, ap₂, ◌∙◌, subst, subst₂, inl, inr, arith, append-nil, length-append}
use Rattle.std.specs.Prelude.{◌||◌, slice_get}
use Rattle.std.proofs.lemmas.Bool.{cases_Bool, and_parts, not-true, true≢false}
use Rattle.std.proofs.lemmas.List.{nil_from_length}
use Rattle.std.proofs.lemmas.List.Sums.{sum_by-append, sum_by-cons}
use Rattle.model_h1.specs.Request.{Header, Head, BodyKind, no_body, fixed_body, chunked_body, raw_body, is_raw_kind, head_is}
use Rattle.model_h1.specs.Setting.{Setting}
use Rattle.model_h1.specs.Frame.{ProtocolError}
use Rattle.model_h1.specs.FrameText.{PlacedFrame}
use Rattle.model_h1.specs.Runs.{Run, run_bytes}
use Rattle.model_h1.specs.Parse.{Input, Message, Body, no_content, content, frames, Stop, ended_at, still_open, broken, cut, runs_of, IsBodyOf, IsBodyAfter, IsParse}
use Rattle.model_h1.specs.Event.{Outcome, BodyFault, corrupted, incomplete}
use Rattle.model_h1.specs.Event as on
use Rattle.model_h1.specs.Sums.{Step, step_taken, taken, is_eof, is_pull, accepted_limit, accepted, is_upgraded, was_pulled}
use Rattle.model_h1.specs.Handed.{Item, item_trailers, item_end, item_fault, item_frame, Handed, handed_out, stop_items, last_items, AreItemsOf, Agrees}
use Rattle.model_h1.specs.Past.{ParsedStep, steps, input_of, parse_of, given_bytes, given_frames}
use Rattle.model_h1.specs.Allowed.{gives_up, has_body_left}
use Rattle.model_h1.specs.OutcomeTable.{run_left, gave_trailers, ended_outcome, stop_outcome, run_outcome, frame_outcome, body_outcome, pull_outcome}
use Rattle.model_h1.proofs.BodyLemmas.{input}
use Rattle.model_h1.proofs.RunLemmas.{IsOrdered}
use Rattle.model_h1.proofs.StepLemmas.{same_input, same_parse}
use Rattle.model_h1.proofs.TraceGrowth.{message_at, current_at}
use Rattle.model_h1.proofs.HandedItems.{outcome_items, item_len, item_frames, items_len, items_frames, have_trailers, have_ending, joined, last_len, last_frames, last_trailers, last_ending, first_item, other_items, stop_len, none_ended, one_ended, add_piece, add_last}
use Rattle.model_h1.proofs.HandedRuns.{given_then, given_all, left_bytes, left_more, left_all, left_frames}
use Rattle.model_h1.proofs.HandedTrace.{upgraded-more, was_pulled-more, is_opening, is_silent, silent_items, silent_opening, opening_head, Pulls}
use Rattle.model_h1.proofs.HandedCounts.{Counts, pull_ending}
use Rattle.model_h1.proofs.HandedSteps.{only, Running, added, behind, newest, GoesOn, more_running}

-- ---- what an outcome adds

-- the outcome opens no message, and with its item the items are still the body's
abbrev Hands : Outcome → List ℕ → Body → List Item → Type 0
Hands o text body items = (is_opening o ≡ false) × AreItemsOf text body (items ++ outcome_items o)

-- nothing
silent_hands : (o : Outcome) (text : List ℕ) (body : Body) (items : List Item) → is_silent o ≡ true → AreItemsOf text body items
    → Hands o text body items
silent_hands o text body items silent x =
    let same : items ≡ items ++ outcome_items o = sym (ap (λ (t : List Item). items ++ t) (silent_items o silent) ∙ append-nil items) in
    (silent_opening o silent, subst (AreItemsOf text body) same x)

-- ---- behind all bytes

-- the trailers, once, and then the end
ended_hands : (text : List ℕ) (runs : List Run) (place : ℕ) (lines : List Header) (given : Bool) (items : List Item)
    → (x : AreItemsOf text (content runs (ended_at place lines)) items) → joined x.pieces ≡ run_bytes text runs → have_ending x.last ≡ false
    → have_trailers x.last ≡ given → Hands (ended_outcome given lines) text (content runs (ended_at place lines)) items
ended_hands text runs place [] given items x all left told =
    let none = none_ended item_end [] x.last refl x.follow left in
    (refl, add_last text (content runs (ended_at place [])) items item_end [] x all (ap (λ (l : List Item). l ++ item_end ∷ []) (sym none)))
ended_hands text runs place (line ∷ more) true items x all left told =
    let front = item_trailers (line ∷ more) in
    elim (one_ended front item_end x.last refl x.follow left) [
      | inl none ↦ absurd (true≢false (sym told ∙ ap have_trailers none))
      | inr one ↦
          let body = content runs (ended_at place (line ∷ more)) in
          (refl, add_last text body items item_end [] x all (ap (λ (l : List Item). l ++ item_end ∷ []) (sym one)))
    ]
ended_hands text runs place (line ∷ more) false items x all left told =
    let front = item_trailers (line ∷ more) in
    elim (one_ended front item_end x.last refl x.follow left) [
      | inl none ↦
          let body = content runs (ended_at place (line ∷ more)) in
          (refl, add_last text body items front (item_end ∷ []) x all (ap (λ (l : List Item). l ++ front ∷ item_end ∷ []) (sym none)))
      | inr one ↦ absurd (true≢false (sym (ap have_trailers one) ∙ told))
    ]

-- a fault, where nothing stands behind the bytes yet
fault_hands : (text : List ℕ) (runs : List Run) (stop : Stop) (fault : BodyFault) (items : List Item)
    → (x : AreItemsOf text (content runs stop) items) → stop_items stop ≡ item_fault fault ∷ [] → joined x.pieces ≡ run_bytes text runs
    → have_ending x.last ≡ false
    → Hands (on.broken_by fault) text (content runs stop) items
fault_hands text runs stop fault items x e all left =
    let none = none_ended (item_fault fault) [] x.last refl (x.follow.0, sym e ∙ x.follow.1) left in
    (refl, add_last text (content runs stop) items (item_fault fault) [] x all (e ∙ ap (λ (l : List Item). l ++ item_fault fault ∷ []) (sym none)))

-- how the body stops
stop_hands : (text : List ℕ) (runs : List Run) (stop : Stop) (given : Bool) (items : List Item) → (x : AreItemsOf text (content runs stop) items)
    → joined x.pieces ≡ run_bytes text runs → have_ending x.last ≡ false → have_trailers x.last ≡ given
    → Hands (stop_outcome given stop) text (content runs stop) items
stop_hands text runs (ended_at place lines) given items x all left told = ended_hands text runs place lines given items x all left told
stop_hands text runs broken given items x all left told = fault_hands text runs broken corrupted items x refl all left
stop_hands text runs cut given items x all left told = fault_hands text runs cut incomplete items x refl all left
stop_hands text runs still_open given items x all left told = silent_hands on.pending text (content runs still_open) items refl x

-- ---- bytes

-- the pieces have the bytes that were given
content_given : (text : List ℕ) (runs : List Run) (stop : Stop) (trace : List Step) (items : List Item)
    → (x : AreItemsOf text (content runs stop) items) → Counts trace items → length (joined x.pieces) ≡ given_bytes trace
content_given text runs stop trace items x c =
    let none = sym (stop_len stop) ∙ ap items_len x.follow.1 ∙ sum_by-append item_len x.last x.follow.0 in
    omega (arith, c.bytes, last_len items x.pieces x.last x.are, none)

-- by the run that is left
runs_hands : (trace : List Step) (start : ℕ) (runs : List Run) (stop : Stop) (items : List Item) (left : Option Run)
    → run_left (given_bytes trace) runs ≡ left → IsOrdered start (length (taken trace)) runs → AreItemsOf (taken trace) (content runs stop) items
    → Counts trace items → have_ending items ≡ false → Hands (run_outcome trace stop left) (taken trace) (content runs stop) items
runs_hands trace start runs stop items (Some q) e ordered x c left_open =
    let text = taken trace in
    let n = given_bytes trace in
    let more = slice_range text q.start q.end in
    let rest = left_bytes text start (length text) n runs q (omega arith) ordered e in
    let all = given_then (joined x.pieces) (run_bytes text runs) (more ++ rest.0) n x.begins (content_given text runs stop trace items x c) rest.1 in
    (refl, add_piece text (content runs stop) items more rest.0 x all (left_more text start (length text) n runs q (omega arith) ordered e))
runs_hands trace start runs stop items None e ordered x c left_open =
    let text = taken trace in
    let n = given_bytes trace in
    let all = given_all (joined x.pieces) (run_bytes text runs) n x.begins (content_given text runs stop trace items x c)
    (left_all text start (length text) n runs (omega arith) ordered e) in
    stop_hands text runs stop (gave_trailers trace) items x all (sym (last_ending items x.pieces x.last x.are) ∙ left_open)
    (sym (last_trailers items x.pieces x.last x.are) ∙ c.trailers)

-- ---- frames

-- what begins a list of frames has a frame in each place
each_frame : (placed : List PlacedFrame) (last rest : List Item) → map (λ (p : PlacedFrame). item_frame p.frame) placed ≡ last ++ rest
    → items_frames last ≡ length last
each_frame placed [] rest e = refl
each_frame [] (i ∷ is) rest e = absurd (no_items_left i (is ++ rest) e)
  where
    no_items_left : (i : Item) (is : List Item) → [] ≡ i ∷ is → ⊥
    no_items_left i is e = cc
each_frame (f ∷ fs) (i ∷ is) rest e =
    let others = map (λ (p : PlacedFrame). item_frame p.frame) fs in
    let one : item_frames i ≡ 1 = ap item_frames (sym (first_item (item_frame f.frame) i others (is ++ rest) e)) in
    let more = each_frame fs is rest (other_items (item_frame f.frame) i others (is ++ rest) e) in
    sum_by-cons item_frames i is ∙ ap₂ (λ a b. a + b) one more ∙ omega arith

-- by the next frame, or the rule that the bytes behind the frames break
frames_hands : (trace : List Step) (text : List ℕ) (placed : List PlacedFrame) (fail : Option ProtocolError) (items : List Item)
    (left : Option PlacedFrame) → slice_get placed (given_frames trace) ≡ left → AreItemsOf text (frames placed fail) items → Counts trace items
    → Hands (frame_outcome fail left) text (frames placed fail) items
frames_hands trace text placed fail items (Some f) e x c =
    let n = given_frames trace in
    let all = last_items (frames placed fail) in
    let next = left_frames placed n f e in
    let len = sym (each_frame placed x.last x.follow.0 x.follow.1) ∙ sym (last_frames items x.pieces x.last x.are) ∙ c.frames in
    let none : joined x.pieces ≡ [] =
    nil_from_length (joined x.pieces) (omega (arith, ap length x.begins.1, length-append (joined x.pieces) x.begins.0)) in
    let follows = given_then x.last all (item_frame f.frame ∷ next.0) n x.follow len next.1 in
    (refl, add_last text (frames placed fail) items (item_frame f.frame) next.0 x none follows)
frames_hands trace text placed None items None e x c = silent_hands on.pending text (frames placed None) items refl x
frames_hands trace text placed (Some fail) items None e x c = silent_hands (on.protocol fail) text (frames placed (Some fail)) items refl x

-- ---- each body

-- the body has no ending yet, unless it is frames
abbrev IsUnended : Body → List Item → Type 0
IsUnended body items = (runs : List Run) (stop : Stop) → body ≡ content runs stop → have_ending items ≡ false

-- what a pull makes of what was handed out
body_hands : (trace : List Step) (start : ℕ) (body : Body) (items : List Item) → IsOrdered start (length (taken trace)) (runs_of body)
    → AreItemsOf (taken trace) body items → Counts trace items → IsUnended body items → Hands (body_outcome trace body) (taken trace) body items
body_hands trace start no_content items ordered x c unended = silent_hands on.pending (taken trace) no_content items refl x
body_hands trace start (content runs stop) items ordered x c unended =
    runs_hands trace start runs stop items (run_left (given_bytes trace) runs) refl ordered x c (unended runs stop refl)
body_hands trace start (frames placed fail) items ordered x c unended =
    frames_hands trace (taken trace) placed fail items (slice_get placed (given_frames trace)) refl x c

-- ---- where a pull is allowed

-- content is no frames
no_frames : (b : Body) (runs : List Run) (stop : Stop) (placed : List PlacedFrame) (fail : Option ProtocolError) → b ≡ content runs stop
    → b ≡ frames placed fail → ⊥
no_frames b runs stop placed fail x y = cc

-- once upgraded a raw body is frames
raw_frames : (bytes : List ℕ) (upgraded : Option ℕ) (ended : Bool) (size : ℕ) (kind : BodyKind) (place : ℕ) (b : Body) (runs : List Run) (stop : Stop)
    → is_raw_kind kind ≡ true → is_some upgraded ≡ true → IsBodyOf (input bytes upgraded ended size) kind place b → b ≡ content runs stop → ⊥
raw_frames bytes upgraded ended size no_body place b runs stop raw up x e = true≢false (sym raw)
raw_frames bytes upgraded ended size (fixed_body n) place b runs stop raw up x e = true≢false (sym raw)
raw_frames bytes upgraded ended size chunked_body place b runs stop raw up x e = true≢false (sym raw)
raw_frames bytes None ended size raw_body place b runs stop raw up x e = true≢false (sym up)
raw_frames bytes (Some limit) ended size raw_body place b runs stop raw up x e = no_frames b runs stop x.0 x.1 e x.3

-- a pull is allowed where the body wasn't given up, or on a connection that speaks WebSocket
pull_unended : (i : Input) (trace : List Step) (m : Message) (head : Head) (items : List Item) → IsBodyAfter i m.reading m.body_start m.body
    → m.reading ≡ head_is head → i.upgraded ≡ accepted trace → (is_upgraded trace ≡ true → is_raw_kind head.body ≡ true) → Counts trace items
    → (is_upgraded trace || has_body_left trace (Some head)) ≡ true → IsUnended m.body items
pull_unended i trace m head items body read same raw c allowed runs stop e =
    elim (cases_Bool (is_upgraded trace)) [
      | inl up ↦
          let here = subst (λ r. IsBodyAfter i r m.body_start m.body) read body in
          absurd (raw_frames i.bytes i.upgraded i.ended i.hold_size head.body m.body_start m.body runs stop (raw up) (ap is_some same ∙ up) here e)
      | inr plain ↦
          let test = sym (ap (λ u. u || has_body_left trace (Some head)) plain) ∙ allowed in
          c.ended (not-true _ (and_parts _ _ test).1)
    ]

-- ---- the step

-- a pull goes on with the message
pull_goes_on : (s : Step) (before : List Step) → s.event ≡ on.pull → is_opening s.outcome ≡ false → GoesOn s before
pull_goes_on s before event same =
    let pulled = was_pulled-more s before (opening_head s.outcome same) ∙ ap (λ e. is_pull e || was_pulled before) event in
    record {
      same = same;
      ending = λ e. pull_ending s.outcome (sym (ap (λ v. gives_up v s.outcome) event) ∙ e);
      pulls = λ unpulled. absurd (true≢false (sym pulled ∙ unpulled));
    }

-- the newest message goes on with what the pull adds
pub pulls_step : (setting : Setting) (x : ParsedStep) (before : List ParsedStep) → IsParse (input_of setting (x.step ∷ steps before)) x.parse
    → IsParse (input_of setting (steps before)) (parse_of before) → Pulls before x.step → (h : Handed) (hs : List Handed)
    → handed_out (steps before) ≡ only (h ∷ hs) → Running (taken (steps before)) (parse_of before) (steps before) h hs
    → (handed_out (x.step ∷ steps before) ≡ only (behind x.step h ∷ hs))
    × Running (taken (x.step ∷ steps before)) x.parse (x.step ∷ steps before) (behind x.step h) hs
pulls_step setting x before p q o h hs handed r =
    let s = x.step in
    let trace = steps before in
    let m = r.message in
    let at = message_at (input_of setting trace) 0 (parse_of before) (length hs) m q (omega arith) r.there in
    let allowed : (is_upgraded trace || has_body_left trace (Some r.head)) ≡ true =
    sym (ap (λ a. is_upgraded trace || has_body_left trace a) r.asked) ∙ o.allowed in
    let unended = pull_unended (input_of setting trace) trace m r.head h.items at.body (sym r.agrees.reading ∙ r.read) refl r.raw r.counts allowed in
    let here = body_hands trace m.body_start m.body h.items at.lies.runs r.agrees.items r.counts unended in
    let outcome : body_outcome trace m.body ≡ s.outcome =
    sym (o.outcome ∙ ap (pull_outcome trace) (current_at before (length hs) r.count ∙ r.there)) in
    let hands : Hands s.outcome (taken trace) m.body h.items = subst (λ u. Hands u (taken trace) m.body h.items) outcome here in
    let none : accepted_limit s.event s.outcome ≡ None = ap (λ e. accepted_limit e s.outcome) o.event in
    let same = same_input setting s trace (ap (λ e. step_taken e s.outcome) o.event) (ap is_eof o.event) none in
    let parse = same_parse setting x before same p q in
    let agrees : Agrees (taken trace) (added s.outcome h) m = record { reading = r.agrees.reading; items = hands.1 } in
    let now = more_running s trace (taken trace) (taken trace) (parse_of before) (parse_of before) m h hs r (pull_goes_on s trace o.event hands.0)
    (λ up. r.raw (sym (upgraded-more s trace none) ∙ up)) r.there agrees r.older in
    (newest s trace h hs hands.0 handed, subst₂ (λ (i : Input) ms. Running i.bytes ms (s ∷ trace) (behind s h) hs) (sym same) (sym parse) now)
