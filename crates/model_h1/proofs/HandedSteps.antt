-- What a trace handed out is the beginning of the parse, from one step to the next.
use Rattle.std.proofs.Common.{◌≡◌, ℕ, suc, Bool, true, false, List, [], ◌∷◌, ◌++◌, length, reverse, Some, None, is_some, refl, sym, ap, ap₂, ◌∙◌, subst, subst₂, inl, inr, append-nil}
use Rattle.std.specs.Prelude.{◌||◌, slice_get}
use Rattle.std.specs.Option.{option_or}
use Rattle.std.proofs.lemmas.Bool.{or_parts, true≢false}
use Rattle.std.proofs.lemmas.List.{length-reverse}
use Rattle.model_h1.specs.Request.{Head, is_raw_kind, head_is}
use Rattle.model_h1.specs.Setting.{Setting}
use Rattle.model_h1.specs.Parse.{Input, Message, IsParse}
use Rattle.model_h1.specs.Event.{Outcome}
use Rattle.model_h1.specs.Event as on
use Rattle.model_h1.specs.Sums.{Step, step_taken, taken, is_eof, accepted_limit, accepted, has_ended, is_upgraded, completes, is_complete, was_pulled, request}
use Rattle.model_h1.specs.Handed.{Handed, HandedOut, nothing_handed, handing, marking_answered, handed_out, AreItemsOf, Agrees, HandsOutPrefix}
use Rattle.model_h1.specs.Past.{ParsedStep, steps, input_of, parse_of, head_count}
use Rattle.model_h1.specs.Closing.{told}
use Rattle.model_h1.specs.Allowed.{asks_raw, gives_up}
use Rattle.model_h1.proofs.BodyLemmas.{input}
use Rattle.model_h1.proofs.MessageGrowth.{parse_grows}
use Rattle.model_h1.proofs.HandedItems.{outcome_items, have_ending, no_items}
use Rattle.model_h1.proofs.HandedLemmas.{agrees_grows}
use Rattle.model_h1.proofs.StepLemmas.{taken-cons, accepted-cons, head_count-more, complete-more, same_input, same_parse}
use Rattle.model_h1.proofs.TraceGrowth.{grown_at, accepted_at}
use Rattle.model_h1.proofs.HandedPrefix.{Ended, ended_grows, ended_accepted, agrees_same}
use Rattle.model_h1.proofs.HandedTrace.{handed_out-nil, handed_out-cons, request-more, upgraded-more, was_pulled-more, is_opening, is_silent, silent_same, silent_items, silent_opening, opening_head, Other, Grows, Accepts}
use Rattle.model_h1.proofs.HandedCounts.{Counts, counts_more}

-- ---- the newest message that was handed out

-- messages, and no item in front of them
abbrev pub only : List Handed → HandedOut
only messages = record { stray = []; messages = messages }

-- The newest message stands behind those that have ended. Its items are those that the trace counts, and it
-- is answered where the answer is complete.
pub record Running (bytes : List ℕ) (ms : List Message) (trace : List Step) (h : Handed) (hs : List Handed) : Type 0 where
  pub message : Message
  pub there : slice_get ms (length hs) ≡ Some message
  pub agrees : Agrees bytes h message
  pub older : Ended bytes (reverse hs) ms
  pub count : head_count trace ≡ suc (length hs)
  pub head : Head
  pub asked : request trace ≡ Some head
  pub read : h.reading ≡ head_is head
  pub raw : is_upgraded trace ≡ true → is_raw_kind head.body ≡ true
  pub counts : Counts trace h.items
  pub answered : h.answered ≡ is_complete trace
  pub untouched : was_pulled trace ≡ false → h.items ≡ []

-- nothing was handed out
pub record Empty (trace : List Step) : Type 0 where
  pub handed : handed_out trace ≡ nothing_handed
  pub count : head_count trace ≡ 0
  pub asked : request trace ≡ None
  pub upgraded : is_upgraded trace ≡ false

-- nothing was handed out, or a message goes on, or a fault was told
pub data Sound (setting : Setting) (past : List ParsedStep) : Type 0 where
  nothing : Empty (steps past) → Sound setting past
  running : (h : Handed) (hs : List Handed) → handed_out (steps past) ≡ only (h ∷ hs)
      → Running (taken (steps past)) (parse_of past) (steps past) h hs → Sound setting past
  failed : HandsOutPrefix setting (steps past) (parse_of past) → is_some (told (steps past)) ≡ true → Sound setting past

-- ---- what a step makes of the newest message

-- the message with the outcome's item
abbrev pub added : Outcome → Handed → Handed
added o h = record h { items = h.items ++ outcome_items o }

-- the message, answered where this is true
abbrev pub marked : Bool → Handed → Handed
marked false h = h
marked true h = record h { answered = true }

-- the message behind the step
abbrev pub behind : Step → Handed → Handed
behind s h = marked (completes s.event) (added s.outcome h)

-- where the outcome has no item the message stays
pub added_none : (o : Outcome) (h : Handed) → outcome_items o ≡ [] → h ≡ added o h
added_none o h none = λ i. record h { items = sym (ap (λ (t : List _). h.items ++ t) none ∙ append-nil h.items) i }

-- an outcome that opens no message adds its item to the newest one
handing_more : (o : Outcome) (h : Handed) (hs : List Handed) → is_opening o ≡ false → handing o (only (h ∷ hs)) ≡ only (added o h ∷ hs)
handing_more (on.head head) h hs e = absurd (true≢false e)
handing_more (on.fault f) h hs e = absurd (true≢false e)
handing_more (on.bytes more) h hs e = refl
handing_more (on.trailers lines) h hs e = refl
handing_more on.body_ended h hs e = refl
handing_more (on.broken_by f) h hs e = refl
handing_more (on.frame f) h hs e = refl
handing_more (on.took n) h hs e = ap (λ m. only (m ∷ hs)) (added_none (on.took n) h refl)
handing_more on.pending h hs e = ap (λ m. only (m ∷ hs)) (added_none on.pending h refl)
handing_more (on.closed end) h hs e = ap (λ m. only (m ∷ hs)) (added_none (on.closed end) h refl)
handing_more (on.protocol f) h hs e = ap (λ m. only (m ∷ hs)) (added_none (on.protocol f) h refl)
handing_more (on.refused f) h hs e = ap (λ m. only (m ∷ hs)) (added_none (on.refused f) h refl)
handing_more (on.gave text) h hs e = ap (λ m. only (m ∷ hs)) (added_none (on.gave text) h refl)
handing_more (on.expired end) h hs e = ap (λ m. only (m ∷ hs)) (added_none (on.expired end) h refl)
handing_more on.abandoned h hs e = ap (λ m. only (m ∷ hs)) (added_none on.abandoned h refl)
handing_more on.done h hs e = ap (λ m. only (m ∷ hs)) (added_none on.done h refl)

-- only the newest message is answered
marking_more : (b : Bool) (h : Handed) (hs : List Handed) → marking_answered b (only (h ∷ hs)) ≡ only (marked b h ∷ hs)
marking_more false h hs = refl
marking_more true h hs = refl

-- where there is none, nothing is
pub marking_none : (b : Bool) → marking_answered b nothing_handed ≡ nothing_handed
marking_none false = refl
marking_none true = refl

-- it is answered by now, or was before
marked_answered : (b : Bool) (h : Handed) → (marked b h).answered ≡ (b || h.answered)
marked_answered false h = refl
marked_answered true h = refl

-- it keeps its reading and its items
marked_keeps : (b : Bool) (h : Handed) → ((marked b h).reading ≡ h.reading) × ((marked b h).items ≡ h.items)
marked_keeps false h = (refl, refl)
marked_keeps true h = (refl, refl)

-- it still agrees
marked_agrees : (b : Bool) (bytes : List ℕ) (h : Handed) (m : Message) → Agrees bytes h m → Agrees bytes (marked b h) m
marked_agrees false bytes h m x = x
marked_agrees true bytes h m x = record { reading = x.reading; items = x.items }

-- ---- what a step makes of all that was handed out

-- nothing stays nothing
still_nothing : (s : Step) (before : List Step) → is_silent s.outcome ≡ true → handed_out before ≡ nothing_handed
    → handed_out (s ∷ before) ≡ nothing_handed
still_nothing s before silent none =
    handed_out-cons s before ∙ ap (marking_answered (completes s.event)) (silent_same s.outcome (handed_out before) silent ∙ none)
    ∙ marking_none (completes s.event)

-- before the first step
pub nothing_yet : Empty []
unfolding request accepted
nothing_yet = record { handed = handed_out-nil; count = refl; asked = refl; upgraded = refl }

-- with no message that is to be answered
pub still_empty : (s : Step) (before : List Step) → is_silent s.outcome ≡ true → accepted_limit s.event s.outcome ≡ None → Empty before
    → Empty (s ∷ before)
still_empty s before silent unaccepted x =
    let none = opening_head s.outcome (silent_opening s.outcome silent) in
    record {
      handed = still_nothing s before silent x.handed;
      count = head_count-more s before none ∙ x.count;
      asked = request-more s before none ∙ x.asked;
      upgraded = upgraded-more s before unaccepted ∙ x.upgraded;
    }

-- the newest message goes on
pub newest : (s : Step) (before : List Step) (h : Handed) (hs : List Handed) → is_opening s.outcome ≡ false → handed_out before ≡ only (h ∷ hs)
    → handed_out (s ∷ before) ≡ only (behind s h ∷ hs)
newest s before h hs same handed =
    handed_out-cons s before ∙ ap (λ out. marking_answered (completes s.event) (handing s.outcome out)) handed
    ∙ ap (marking_answered (completes s.event)) (handing_more s.outcome h hs same) ∙ marking_more (completes s.event) (added s.outcome h) hs

-- and where no answer is completed all stays
pub still_same : (s : Step) (before : List Step) → is_silent s.outcome ≡ true → completes s.event ≡ false
    → handed_out (s ∷ before) ≡ handed_out before
still_same s before silent none =
    handed_out-cons s before ∙ ap (λ b. marking_answered b (handing s.outcome (handed_out before))) none
    ∙ silent_same s.outcome (handed_out before) silent

-- ---- the message goes on

-- The step adds an item or none, and leaves what makes a body raw.
pub record GoesOn (s : Step) (before : List Step) : Type 0 where
  pub same : is_opening s.outcome ≡ false
  pub ending : gives_up s.event s.outcome ≡ false → have_ending (outcome_items s.outcome) ≡ false
  pub pulls : was_pulled (s ∷ before) ≡ false → (outcome_items s.outcome ≡ []) × (was_pulled before ≡ false)

-- as it is parsed now
pub more_running : (s : Step) (before : List Step) (front all : List ℕ) (ms ns : List Message) (n : Message) (h : Handed) (hs : List Handed)
    → (r : Running front ms before h hs) → GoesOn s before → (is_upgraded (s ∷ before) ≡ true → is_raw_kind r.head.body ≡ true)
    → slice_get ns (length hs) ≡ Some n → Agrees all (added s.outcome h) n → Ended all (reverse hs) ns
    → Running all ns (s ∷ before) (behind s h) hs
more_running s before front all ms ns n h hs r g raw there agrees older =
    let none = opening_head s.outcome g.same in
    let c = completes s.event in
    let keeps = marked_keeps c (added s.outcome h) in
    record {
      message = n;
      there = there;
      agrees = marked_agrees c all (added s.outcome h) n agrees;
      older = older;
      count = head_count-more s before none ∙ r.count;
      head = r.head;
      asked = request-more s before none ∙ r.asked;
      read = keeps.0 ∙ r.read;
      raw = raw;
      counts = subst (Counts (s ∷ before)) (sym keeps.1) (counts_more s before h.items none g.ending r.counts);
      answered = marked_answered c (added s.outcome h) ∙ ap (λ b. c || b) r.answered ∙ sym (complete-more s before none);
      untouched = λ unpulled.
          let parts = g.pulls unpulled in
          keeps.1 ∙ ap (λ (t : List _). h.items ++ t) parts.0 ∙ append-nil h.items ∙ r.untouched parts.1;
    }

-- a step that hands out nothing goes on
pub silent_goes_on : (s : Step) (before : List Step) → is_silent s.outcome ≡ true → GoesOn s before
silent_goes_on s before silent =
    let none = silent_items s.outcome silent in
    let same = silent_opening s.outcome silent in
    record {
      same = same;
      ending = λ _. ap have_ending none;
      pulls = λ e. (none, (or_parts _ _ (sym (was_pulled-more s before (opening_head s.outcome same)) ∙ e)).1);
    }

-- the step leaves what was parsed
pub other_step : (setting : Setting) (x : ParsedStep) (before : List ParsedStep) → IsParse (input_of setting (x.step ∷ steps before)) x.parse
    → IsParse (input_of setting (steps before)) (parse_of before) → Other x.step → (h : Handed) (hs : List Handed)
    → Running (taken (steps before)) (parse_of before) (steps before) h hs
    → Running (taken (x.step ∷ steps before)) x.parse (x.step ∷ steps before) (behind x.step h) hs
other_step setting x before p q o h hs r =
    let s = x.step in
    let trace = steps before in
    let same = same_input setting s trace o.taken o.eof o.accepted in
    let parse = same_parse setting x before same p q in
    let agrees = subst (λ g. Agrees (taken trace) g r.message) (added_none s.outcome h (silent_items s.outcome o.silent)) r.agrees in
    subst₂ (λ (i : Input) ms. Running i.bytes ms (s ∷ trace) (behind s h) hs) (sym same) (sym parse)
    (more_running s trace (taken trace) (taken trace) (parse_of before) (parse_of before) r.message h hs r (silent_goes_on s trace o.silent)
    (λ up. r.raw (sym (upgraded-more s trace o.accepted) ∙ up)) r.there agrees r.older)

-- ---- steps that make the parse grow

-- bytes follow, or the input ends
pub grows_step : (setting : Setting) (x : ParsedStep) (before : List ParsedStep) → IsParse (input_of setting (x.step ∷ steps before)) x.parse
    → IsParse (input_of setting (steps before)) (parse_of before) → Grows before x.step → (h : Handed) (hs : List Handed)
    → Running (taken (steps before)) (parse_of before) (steps before) h hs
    → Running (taken (x.step ∷ steps before)) x.parse (x.step ∷ steps before) (behind x.step h) hs
grows_step setting x before p q o h hs r =
    let s = x.step in
    let trace = steps before in
    let front = taken trace in
    let all = taken (s ∷ trace) in
    let upgraded : accepted (s ∷ trace) ≡ accepted trace = accepted-cons s trace ∙ ap (λ l. option_or l (accepted trace)) o.accepted in
    let grow = parse_grows (input_of setting trace) (input_of setting (s ∷ trace)) (step_taken s.event s.outcome) (parse_of before) x.parse
    (taken-cons s trace) upgraded refl o.unended q p in
    let here = grown_at front all (parse_of before) x.parse (length hs) r.message grow r.there in
    let agrees = agrees_grows front all h r.message here.0 here.2 r.agrees in
    more_running s trace front all (parse_of before) x.parse here.0 h hs r (silent_goes_on s trace o.silent)
    (λ up. r.raw (sym (upgraded-more s trace o.accepted) ∙ up)) here.1
    (subst (λ g. Agrees all g here.0) (added_none s.outcome h (silent_items s.outcome o.silent)) agrees)
    (ended_grows front all (reverse hs) (parse_of before) x.parse grow r.older)

-- ---- a WebSocket is accepted

-- where nothing of the body was handed out, its reading alone counts
pub untouched_agrees : (bytes : List ℕ) (h : Handed) (n : Message) → h.items ≡ [] → h.reading ≡ n.reading → Agrees bytes h n
untouched_agrees bytes h n none reading = record {
  reading = reading;
  items = subst (AreItemsOf bytes n.body) (sym none) (no_items bytes n.body);
}

-- a raw body becomes frames, of which nothing was handed out
pub accepts_step : (setting : Setting) (x : ParsedStep) (before : List ParsedStep) → IsParse (input_of setting (x.step ∷ steps before)) x.parse
    → IsParse (input_of setting (steps before)) (parse_of before) → Accepts before x.step → (h : Handed) (hs : List Handed)
    → Running (taken (steps before)) (parse_of before) (steps before) h hs
    → Running (taken (x.step ∷ steps before)) x.parse (x.step ∷ steps before) (behind x.step h) hs
accepts_step setting x before p q o h hs r =
    let s = x.step in
    let trace = steps before in
    let text = taken trace in
    let ended = has_ended trace in
    let size = setting.hold_size in
    let bytes : taken (s ∷ trace) ≡ text = taken-cons s trace ∙ ap (λ e. text ++ step_taken e s.outcome) o.event ∙ append-nil text in
    let upgraded : accepted (s ∷ trace) ≡ Some o.limit =
    accepted-cons s trace ∙ ap₂ (λ e u. option_or (accepted_limit e u) (accepted trace)) o.event o.outcome in
    let open_end : has_ended (s ∷ trace) ≡ ended = ap (λ e. is_eof e || ended) o.event in
    let old : IsParse (input text None ended size) (parse_of before) =
    subst (λ u. IsParse (input text u ended size) (parse_of before)) o.unaccepted q in
    let same : input_of setting (s ∷ trace) ≡ input text (Some o.limit) ended size = λ i. input (bytes i) (upgraded i) (open_end i) size in
    let new : IsParse (input text (Some o.limit) ended size) x.parse = subst (λ (i : Input). IsParse i x.parse) same p in
    let here = accepted_at text o.limit ended size 0 (parse_of before) x.parse (length hs) r.message old new r.there in
    let agrees : Agrees text h here.0 = elim here.2.body [
      | inl body ↦ agrees_same text h r.message here.0 here.2.reading body r.agrees
      | inr framed ↦ untouched_agrees text h here.0 (r.untouched o.pulled) (r.agrees.reading ∙ here.2.reading)
    ] in
    let silent : is_silent s.outcome ≡ true = ap is_silent o.outcome in
    let there = subst (λ k. slice_get (parse_of before) k ≡ Some r.message) (sym (length-reverse hs)) r.there in
    subst (λ t. Running t x.parse (s ∷ trace) (behind s h) hs) (sym bytes)
    (more_running s trace text text (parse_of before) x.parse here.0 h hs r (silent_goes_on s trace silent)
    (λ up. sym (ap asks_raw r.asked) ∙ o.raw) here.1
    (subst (λ g. Agrees text g here.0) (added_none s.outcome h (silent_items s.outcome silent)) agrees)
    (ended_accepted text o.limit ended size 0 (reverse hs) (parse_of before) x.parse r.message old new there r.older))
