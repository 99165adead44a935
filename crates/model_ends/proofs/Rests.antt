-- What is left of an answer's body that was sent, and how pulling and passing it go on.
use Rattle.std.proofs.Common.{◌≡◌, ℕ, zero, suc, ◌-◌, ◌<◌, ◌≤◌, Bool, true, false, eqb, List, [], ◌∷◌, ◌++◌, length, take, drop, refl, sym, ap, ap₂, ◌∙◌, subst, subst₂, inl, inr, arith, append-nil, append_assoc, length-append, length-drop, length-take-le, take_all, drop_of_length-le, take-append-drop, le-leb, ne_eqb, eqb-true, codes, lit≤}
use Rattle.std.specs.Prelude.{flat_map}
use Rattle.std.specs.List.{AllByRecursion}
use Rattle.std.proofs.lemmas.Bool.{false≢true, cases_lt, lt-leb, cond-true, cond-false, cond_both}
use Rattle.model_h1.specs.ChunkedText.{Segment, IsSegment, segment_text, section_text, ChunkedText, IsChunkedText}
use Rattle.model_h1.specs.Chunked.{unfinished, IsChunked, Spells}
use Rattle.model_h1.specs.Runs.{segment_runs, cut_runs, run_bytes}
use Rattle.model_h1.specs.Place.{Place, start, done, broken, step, after}
use Rattle.model_h1.specs.Reading.{Reading, Ending, goes_on, is_broken, ends_before, with_trailers, at_end, noted, read}
use Rattle.model_h1.specs.TakeNext.{Next, chunk, waits, ended, breaks, take_next, says}
use Rattle.model_h1.proofs.Agreement.{runs_read, runs_hold, unfinished_read}
use Rattle.model_h1.proofs.Beginnings.{body_read}
use Rattle.model_h1.proofs.Complete.{text_read}
use Rattle.model_h1.proofs.ReadAfter.{read-append, ended_reading_stays, broken_reading_stays}
use Rattle.model_h1.proofs.ReadSteps.{ending-noted}
use Rattle.model_h1.proofs.TakenReads.{taken_is_read}
use Rattle.model_h1.proofs.TakenPlaces.{taken_chunk_leads}
use Rattle.model_h1.proofs.Verdicts.{begins_live}
use Rattle.model_h1.proofs.WalkedRuns.{cut_segments}
use Rattle.model_h1.specs.AnswerText.{last_chunk}
use Rattle.model_h1.specs.Request.{BodyKind, no_body, fixed_body, chunked_body, raw_body, has_body}
use Rattle.model_h1.specs.Event.{Outcome, incomplete}
use Rattle.model_h1.specs.Event as server
use Rattle.model_h1.proofs.RunLemmas.{runs_more, chunked_ordered}
use Rattle.model_state.specs.Kept.{Rest, no_rest, raw_rest, fixed_rest, chunks_rest, frames_rest, is_nothing, whole_rest, rest_in}
use Rattle.model_state.specs.Body.{Passed, pass_chunks, pass_rest}
use Rattle.model_state.specs.Pull.{Pulled, finishes, pull_fixed, EndsWith, IsPullOfChunks, IsPull}
use Rattle.model_client.specs.ClientStep.{is_broken as is_broken_rest}
use Rattle.model_ends.specs.SentAnswer.{IsBodySent}
use Rattle.model_ends.proofs.WrittenPieces.{says_none}

-- what a body in chunks says that is sent to its end, and one that is under way
abbrev pub ending_of : Bool → List ℕ → Ending
ending_of true behind = ends_before behind
ending_of false behind = goes_on

-- These bytes of the body are left in the text from here on, and behind them stands this, if it is sent to its end.
abbrev pub RestSays : Rest → List ℕ → List ℕ → Bool → List ℕ → Type 0
RestSays no_rest text left true behind = (left ≡ []) × (text ≡ behind)
RestSays (fixed_rest n) text left true behind = (0 < n) × (length left ≡ n) × (text ≡ left ++ behind)
RestSays (fixed_rest n) text left false behind = (length left < n) × (text ≡ left)
RestSays (chunks_rest place section) text left whole behind =
    (section ≡ []) × (read place text ≡ record { body = left; trailers = []; ending = ending_of whole behind })
RestSays rest text left whole behind = ⊥

-- ---- a pull

-- what a pull gives of such a rest
pub data Gives (is_ended : Bool) (future left : List ℕ) (whole : Bool) (behind : List ℕ) (p : Pulled) : Type 0 where
  some_bytes : (given left' : List ℕ) → p.outcome ≡ server.bytes given → 0 < length given → left ≡ given ++ left'
      → RestSays p.rest (p.unread ++ future) left' whole behind → p.is_done ≡ false → Gives is_ended future left whole behind p
  nothing_yet : p.outcome ≡ server.pending → RestSays p.rest (p.unread ++ future) left whole behind → p.is_done ≡ false
      → Gives is_ended future left whole behind p
  its_end : p.outcome ≡ server.body_ended → left ≡ [] → whole ≡ true → p.unread ++ future ≡ behind → p.is_done ≡ true
      → Gives is_ended future left whole behind p
  cut_off : p.outcome ≡ server.broken_by incomplete → is_ended ≡ true → p.is_done ≡ true → Gives is_ended future left whole behind p

-- two ways to cut a text: the longer front goes on where the shorter one ends
pub split : (a b c d : List ℕ) → a ++ b ≡ c ++ d → length a ≤ length c → (c ≡ a ++ drop (length a) c) × (b ≡ drop (length a) c ++ d)
split [] b c d is fits = (refl, is)
split (x ∷ a) b [] d is fits = absurd (omega (arith, fits))
split (x ∷ a) b (y ∷ c) d is fits =
    let first : y ≡ x = cc in
    let others : a ++ b ≡ c ++ d = cc in
    let r = split a b c d others (omega (arith, fits)) in
    (ap₂ (λ (h : ℕ) (t : List ℕ). h ∷ t) first r.0, r.1)

-- a front of exactly its length
pub split_same : (a b c d : List ℕ) → a ++ b ≡ c ++ d → length a ≡ length c → (a ≡ c) × (b ≡ d)
split_same [] b [] d is fits = (refl, is)
split_same [] b (y ∷ c) d is fits = absurd (omega (arith, fits))
split_same (x ∷ a) b [] d is fits = absurd (omega (arith, fits))
split_same (x ∷ a) b (y ∷ c) d is fits =
    let first : x ≡ y = cc in
    let others : a ++ b ≡ c ++ d = cc in
    let r = split_same a b c d others (omega (arith, fits)) in
    (ap₂ (λ (h : ℕ) (t : List ℕ). h ∷ t) first r.0, r.1)

-- bytes of a body of a length that are there, and those that are missing of it
module _ (is_ended : Bool) (n b : ℕ) (bytes future left behind : List ℕ) where
  abbrev all : List ℕ
  all = b ∷ bytes

  abbrev count : ℕ
  count = length all

  fixed_part : (whole : Bool) → count < n → RestSays (fixed_rest n) (all ++ future) left whole behind
      → Gives is_ended future left whole behind (pull_fixed is_ended n all)
  fixed_part true part (some, long, text) =
      let cut = split all future left behind text (omega (arith, long, part)) in
      let taken : take n all ≡ all = take_all n all (omega (arith, part)) in
      let none : drop n all ≡ [] = drop_of_length-le all (omega (arith, part)) in
      let left' = drop count left in
      let says : RestSays (fixed_rest (n - count)) future left' true behind = (omega (arith, part), omega (arith, length-drop count left, long), cut.1) in
      some_bytes all left' (ap server.bytes taken) (omega arith) cut.0
      (subst₂ (λ (r : Rest) (u : List ℕ). RestSays r (u ++ future) left' true behind) (sym (cond-false _ no_rest (fixed_rest (n - count)) (lt-leb n count part))) (sym none) says) refl
  fixed_part false part (short, text) =
      let taken : take n all ≡ all = take_all n all (omega (arith, part)) in
      let none : drop n all ≡ [] = drop_of_length-le all (omega (arith, part)) in
      let says : RestSays (fixed_rest (n - count)) future future false behind = (omega (arith, short, ap length text, length-append all future), refl) in
      some_bytes all future (ap server.bytes taken) (omega arith) (sym text)
      (subst₂ (λ (r : Rest) (u : List ℕ). RestSays r (u ++ future) future false behind) (sym (cond-false _ no_rest (fixed_rest (n - count)) (lt-leb n count part))) (sym none) says) refl

  fixed_full : (whole : Bool) → n ≤ count → RestSays (fixed_rest n) (all ++ future) left whole behind
      → Gives is_ended future left whole behind (pull_fixed is_ended n all)
  fixed_full true full (some, long, text) =
      let cut = split left behind all future (sym text) (omega (arith, long, full)) in
      let taken : take n all ≡ left =
      (split_same (take n all) (drop n all ++ future) left behind (sym (append_assoc (take n all) (drop n all) future) ∙ ap (λ (l : List ℕ). l ++ future) (take-append-drop n all) ∙ text)
      (omega (arith, long, full, length-take-le n all full))).0 in
      let says : RestSays no_rest (drop n all ++ future) [] true behind = (refl, sym (subst (λ (m : ℕ). behind ≡ drop m all ++ future) long cut.1)) in
      some_bytes left [] (ap server.bytes taken) (omega (arith, some, long)) (sym (append-nil left))
      (subst (λ (r : Rest). RestSays r (drop n all ++ future) [] true behind) (sym (cond-true _ no_rest (fixed_rest (n - count)) (le-leb n count full))) says) refl
  fixed_full false full (short, text) = absurd (omega (arith, short, full, ap length text, length-append all future))

  fixed_gives : (whole : Bool) → RestSays (fixed_rest n) (all ++ future) left whole behind → Gives is_ended future left whole behind (pull_fixed is_ended n all)
  fixed_gives whole says = elim (cases_lt count n) [ inl part ↦ fixed_part whole part says | inr full ↦ fixed_full whole full says ]

-- nothing together is nothing each
pub nil_both : (a b : List ℕ) → a ++ b ≡ [] → (a ≡ []) × (b ≡ [])
nil_both [] b is = (refl, is)
nil_both (x ∷ a) b is = cc

not_broken : (whole : Bool) (behind : List ℕ) → is_broken ≡ ending_of whole behind → ⊥
not_broken true behind is = cc
not_broken false behind is = cc

ended_whole : (whole : Bool) (rest behind : List ℕ) → ends_before rest ≡ ending_of whole behind → (whole ≡ true) × (rest ≡ behind)
ended_whole true rest behind is = (refl, cc)
ended_whole false rest behind is = cc

-- what is read, by its parts
module _ (r : Reading) (left : List ℕ) (ending : Ending) where
  of_parts : r.body ≡ left → r.trailers ≡ [] → r.ending ≡ ending → r ≡ record { body = left; trailers = []; ending = ending }
  of_parts body trailers end = λ i. record { body = body i; trailers = trailers i; ending = end i }

-- chunks, by what comes next in them
chunks_give : (is_ended : Bool) (place : Place) (bytes future left : List ℕ) (whole : Bool) (behind : List ℕ) (next : Next) (noted : List ℕ) (p : Pulled)
    → with_trailers noted (says next future) ≡ record { body = left; trailers = []; ending = ending_of whole behind }
    → ((given : List ℕ) (to : Place) (rest : List ℕ) → next ≡ chunk given to rest → 0 < length given)
    → RestSays (chunks_rest place []) (bytes ++ future) left whole behind
    → IsPullOfChunks is_ended place [] bytes next noted p → Gives is_ended future left whole behind p
chunks_give is_ended place bytes future left whole behind (chunk given to rest) noted p e some old is =
    let r = read to (rest ++ future) in
    let none = nil_both noted r.trailers (ap (λ (r : Reading). r.trailers) e) in
    subst (Gives is_ended future left whole behind) (sym is)
    (some_bytes given r.body refl (some given to rest refl) (sym (ap (λ (r : Reading). r.body) e))
    (none.0, of_parts r r.body (ending_of whole behind) refl none.1 (ap (λ (r : Reading). r.ending) e)) refl)
chunks_give true place bytes future left whole behind (waits to) noted p e some old is =
    subst (Gives true future left whole behind) (sym is) (cut_off refl refl refl)
chunks_give false place bytes future left whole behind (waits to) noted p e some old is =
    let r = read to future in
    let none = nil_both noted r.trailers (ap (λ (r : Reading). r.trailers) e) in
    subst (Gives false future left whole behind) (sym is)
    (nothing_yet refl (none.0, of_parts r left (ending_of whole behind) (ap (λ (r : Reading). r.body) e) none.1 (ap (λ (r : Reading). r.ending) e)) refl)
chunks_give is_ended place bytes future left whole behind (ended rest) noted p e some old is =
    let none = nil_both noted [] (ap (λ (r : Reading). r.trailers) e) in
    let end = ended_whole whole (rest ++ future) behind (ap (λ (r : Reading). r.ending) e) in
    let same : p ≡ finishes server.body_ended no_rest rest = subst (λ (l : List ℕ). EndsWith l rest p) none.0 is in
    subst (Gives is_ended future left whole behind) (sym same) (its_end refl (sym (ap (λ (r : Reading). r.body) e)) end.0 end.1 refl)
chunks_give is_ended place bytes future left whole behind breaks noted p e some old is =
    absurd (not_broken whole behind (ap (λ (r : Reading). r.ending) e))

-- any rest that says something
pub pull_gives : (is_ended : Bool) (rest : Rest) (bytes future left : List ℕ) (whole : Bool) (behind : List ℕ) (p : Pulled)
    → RestSays rest (bytes ++ future) left whole behind → IsPull is_ended rest bytes p → Gives is_ended future left whole behind p
pull_gives is_ended no_rest bytes future left true behind p says is =
    subst (Gives is_ended future left true behind) (sym is) (its_end refl says.0 refl says.1 refl)
pull_gives is_ended no_rest bytes future left false behind p says is = absurd says
pull_gives is_ended raw_rest bytes future left whole behind p says is = absurd says
pull_gives is_ended (frames_rest under_way limit) bytes future left whole behind p says is = absurd says
pull_gives true (fixed_rest n) [] future left whole behind p says is =
    subst (Gives true future left whole behind) (sym is) (cut_off refl refl refl)
pull_gives false (fixed_rest n) [] future left whole behind p says is =
    subst (Gives false future left whole behind) (sym is) (nothing_yet refl says refl)
pull_gives is_ended (fixed_rest n) (b ∷ bytes) future left whole behind p says is =
    subst (Gives is_ended future left whole behind) (sym is) (fixed_gives is_ended n b bytes future left behind whole says)
pull_gives is_ended (chunks_rest place section) bytes future left whole behind p (none, reads) is =
    let t = take_next place bytes in
    chunks_give is_ended place bytes future left whole behind t.next t.trailers p (sym (taken_is_read bytes place future) ∙ reads)
    (λ given to rest e. (taken_chunk_leads place to bytes given rest e).some)
    (refl, reads) (subst (λ (l : List ℕ). IsPullOfChunks is_ended place l bytes t.next t.trailers p) none is)

-- ---- passing

-- what passing leaves of such a rest
pub data Passes (future : List ℕ) (whole : Bool) (behind : List ℕ) (p : Passed) : Type 0 where
  all_passed : is_nothing p.rest ≡ true → whole ≡ true → p.unread ++ future ≡ behind → Passes future whole behind p
  some_left : is_nothing p.rest ≡ false → is_broken_rest p.rest ≡ false → (left : List ℕ) → RestSays p.rest (p.unread ++ future) left whole behind
      → Passes future whole behind p

-- where bytes go on in chunks they lead to no broken place
goes_on_unbroken : (place : Place) (bytes : List ℕ) → (read place bytes).ending ≡ goes_on → after place bytes ≡ broken → ⊥
unfolding after read
goes_on_unbroken place [] e is = at_place place e is
  where
    at_place : (place : Place) → at_end place ≡ goes_on → place ≡ broken → ⊥
    at_place place e is = let no : is_broken ≡ goes_on = sym (ap at_end is) ∙ e in cc
goes_on_unbroken done (b ∷ bytes) e is = cc
goes_on_unbroken place (b ∷ bytes) e is =
    goes_on_unbroken (step place b) bytes (sym (ending-noted place (step place b) b (read (step place b) bytes)) ∙ e) is

unbroken_rest : (place : Place) (section : List ℕ) → (place ≡ broken → ⊥) → is_broken_rest (chunks_rest place section) ≡ false
unbroken_rest broken section unbroken = absurd (unbroken refl)
unbroken_rest _ section unbroken = refl

chunks_pass : (place : Place) (bytes future left : List ℕ) (whole : Bool) (behind : List ℕ) (ending : Ending) → (read place bytes).ending ≡ ending
    → read place (bytes ++ future) ≡ record { body = left; trailers = []; ending = ending_of whole behind }
    → Passes future whole behind (pass_chunks place bytes ending)
chunks_pass place bytes future left whole behind (ends_before rest) is reads =
    let e : ends_before (rest ++ future) ≡ ending_of whole behind =
    ap (λ (r : Reading). r.ending) (sym (ended_reading_stays place bytes future rest is) ∙ reads) in
    let end = ended_whole whole (rest ++ future) behind e in
    all_passed refl end.0 end.1
chunks_pass place bytes future left whole behind is_broken is reads =
    absurd (not_broken whole behind (sym is ∙ ap (λ (r : Reading). r.ending) (sym (broken_reading_stays place bytes future is) ∙ reads)))
chunks_pass place bytes future left whole behind goes_on is reads =
    let live = goes_on_unbroken place bytes is in
    let r = read (after place bytes) future in
    let e = sym (read-append place bytes future live) ∙ reads in
    let none = nil_both (read place bytes).trailers r.trailers (ap (λ (r : Reading). r.trailers) e) in
    some_left refl (unbroken_rest (after place bytes) [] live) r.body
    (refl, of_parts r r.body (ending_of whole behind) refl none.1 (ap (λ (r : Reading). r.ending) e))

fixed_pass_full : (is_ended : Bool) (n : ℕ) (bytes future left : List ℕ) (whole : Bool) (behind : List ℕ)
    → RestSays (fixed_rest n) (bytes ++ future) left whole behind → n ≤ length bytes → Passes future whole behind (pass_rest is_ended (fixed_rest n) bytes)
fixed_pass_full is_ended n bytes future left true behind (some, long, text) full =
    let cut = split left behind bytes future (sym text) (omega (arith, long, full)) in
    subst (Passes future true behind)
    (sym (cond-true _ (record { rest = no_rest; unread = drop n bytes }) (record { rest = fixed_rest (n - length bytes); unread = [] }) (le-leb n (length bytes) full)))
    (all_passed refl refl (sym (subst (λ (m : ℕ). behind ≡ drop m bytes ++ future) long cut.1)))
fixed_pass_full is_ended n bytes future left false behind (short, text) full =
    absurd (omega (arith, short, full, ap length text, length-append bytes future))

fixed_pass_part : (is_ended : Bool) (n : ℕ) (bytes future left : List ℕ) (whole : Bool) (behind : List ℕ)
    → RestSays (fixed_rest n) (bytes ++ future) left whole behind → length bytes < n → Passes future whole behind (pass_rest is_ended (fixed_rest n) bytes)
fixed_pass_part is_ended n bytes future left true behind (some, long, text) part =
    let cut = split bytes future left behind text (omega (arith, long, part)) in
    let left' = drop (length bytes) left in
    subst (Passes future true behind)
    (sym (cond-false _ (record { rest = no_rest; unread = drop n bytes }) (record { rest = fixed_rest (n - length bytes); unread = [] }) (lt-leb n (length bytes) part)))
    (some_left refl refl left' (omega (arith, part), omega (arith, length-drop (length bytes) left, long), cut.1))
fixed_pass_part is_ended n bytes future left false behind (short, text) part =
    subst (Passes future false behind)
    (sym (cond-false _ (record { rest = no_rest; unread = drop n bytes }) (record { rest = fixed_rest (n - length bytes); unread = [] }) (lt-leb n (length bytes) part)))
    (some_left refl refl future (omega (arith, short, ap length text, length-append bytes future), refl))

pub pass_goes_on : (is_ended : Bool) (rest : Rest) (bytes future left : List ℕ) (whole : Bool) (behind : List ℕ)
    → RestSays rest (bytes ++ future) left whole behind → Passes future whole behind (pass_rest is_ended rest bytes)
pass_goes_on is_ended no_rest bytes future left true behind says = all_passed refl refl says.1
pass_goes_on is_ended no_rest bytes future left false behind says = absurd says
pass_goes_on is_ended raw_rest bytes future left whole behind says = absurd says
pass_goes_on is_ended (frames_rest under_way limit) bytes future left whole behind says = absurd says
pass_goes_on is_ended (fixed_rest n) bytes future left whole behind says =
    elim (cases_lt (length bytes) n) [
      | inl part ↦ fixed_pass_part is_ended n bytes future left whole behind says part
      | inr full ↦ fixed_pass_full is_ended n bytes future left whole behind says full
    ]
pass_goes_on is_ended (chunks_rest place section) bytes future left whole behind (none, reads) =
    chunks_pass place bytes future left whole behind (read place bytes).ending refl reads

-- ---- a new body

-- the end of the input changes no such rest
pub rest_stays : (t : Bool) (unread : List ℕ) (rest : Rest) (text left : List ℕ) (whole : Bool) (behind : List ℕ) → RestSays rest text left whole behind
    → rest_in t unread rest ≡ rest
rest_stays true [] raw_rest text left whole behind says = absurd says
rest_stays true [] no_rest text left whole behind says = refl
rest_stays true [] (fixed_rest n) text left whole behind says = refl
rest_stays true [] (chunks_rest place section) text left whole behind says = refl
rest_stays true [] (frames_rest under_way limit) text left whole behind says = refl
rest_stays true (b ∷ bytes) rest text left whole behind says = refl
rest_stays false unread rest text left whole behind says = refl

-- whole chunks without the last
pub segments_read : (segments : List Segment) → AllByRecursion IsSegment segments
    → read start (flat_map segment_text segments) ≡ record { body = flat_map (λ (s : Segment). s.bytes) segments; trailers = []; ending = goes_on }
segments_read segments each =
    let t : ChunkedText = record { segments = segments; last = codes "0\r\n"; trailers = [] } in
    let well : IsChunkedText t = record { segments = each; last = says_none; trailers = tt; lines = lit≤ tt; room = lit≤ tt } in
    let text = flat_map segment_text segments in
    let spells : Spells (text ++ last_chunk) t = (well, refl) in
    let runs = cut_runs (length text) (segment_runs 0 segments) in
    let begun : IsChunked text unfinished runs = (t, (last_chunk, omega arith, spells), refl) in
    let same : runs ≡ segment_runs 0 segments = cut_segments segments 0 (length text) (omega arith) in
    let body : (read start text).body ≡ flat_map (λ (s : Segment). s.bytes) segments =
    runs_read text unfinished runs begun
    ∙ sym (runs_more text last_chunk 0 (length text) runs (omega arith) (chunked_ordered text unfinished runs begun))
    ∙ ap (run_bytes (text ++ last_chunk)) same ∙ runs_hold (text ++ last_chunk) t spells in
    let live = begins_live text t (last_chunk, omega arith, spells) in
    let all = sym (read-append start text last_chunk live.not_broken) ∙ body_read (text ++ last_chunk) t spells in
    let none = nil_both (read start text).trailers (read (after start text) last_chunk).trailers (ap (λ (r : Reading). r.trailers) all) in
    of_parts (read start text) (flat_map (λ (s : Segment). s.bytes) segments) goes_on body none.0 (unfinished_read text runs begun)

-- a body that was sent, in front of what follows it
pub body_says : (kind : BodyKind) (whole : Bool) (text bytes behind : List ℕ) → has_body kind ≡ true → IsBodySent whole kind text bytes
    → (whole ≡ false → behind ≡ []) → RestSays (whole_rest kind) (text ++ behind) bytes whole behind
body_says no_body whole text bytes behind some sent last = absurd (false≢true some)
body_says raw_body true text bytes behind some sent last = absurd sent
body_says raw_body false text bytes behind some sent last = absurd sent
body_says (fixed_body n) true text bytes behind some (long, same) last =
    cond_both (eqb n 0) no_rest (fixed_rest n) (λ (r : Rest). RestSays r (text ++ behind) bytes true behind)
    (λ e. let none = eqb-true n 0 e in
    let nil = nothing_long text (long ∙ none) in
    (same ∙ nil, ap (λ (l : List ℕ). l ++ behind) nil))
    (λ e. (not_none n e, ap length same ∙ long, ap (λ (l : List ℕ). l ++ behind) (sym same)))
  where
    nothing_long : (l : List ℕ) → length l ≡ 0 → l ≡ []
    nothing_long [] is = refl
    nothing_long (x ∷ l) is = absurd (omega (arith, is))

    not_none : (n : ℕ) → eqb n 0 ≡ false → 0 < n
    not_none zero e = absurd (false≢true (sym e))
    not_none (suc n) e = omega arith
body_says (fixed_body n) false text bytes behind some (short, same) last =
    let some' : eqb n 0 ≡ false = ne_eqb n 0 (omega (arith, short)) in
    subst (λ (r : Rest). RestSays r (text ++ behind) bytes false behind) (sym (cond-false _ no_rest (fixed_rest n) some'))
    (omega (arith, short, ap length same), ap (λ (l : List ℕ). text ++ l) (last refl) ∙ append-nil text ∙ sym same)
body_says chunked_body true text bytes behind some (t, well, is, carries, none) last = (
  refl,
  ap (λ (l : List ℕ). read start (l ++ behind)) (sym is) ∙ text_read t behind well
      ∙ (λ i. record { body = carries i; trailers = section_text (none i); ending = ends_before behind }),
)
body_says chunked_body false text bytes behind some (segments, each, is, carries) last = (
  refl,
  ap (λ (l : List ℕ). read start (text ++ l)) (last refl) ∙ ap (read start) (append-nil text) ∙ ap (read start) (sym is)
      ∙ segments_read segments each ∙ (λ i. record { body = carries i; trailers = []; ending = goes_on }),
)
