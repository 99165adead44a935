-- The answer that a server's bytes hold, when more bytes come: a whole one stays, and one whose head is there goes on.
use Rattle.std.proofs.Common.{◌≡◌, ℕ, ◌+◌, Bool, true, false, cond, List, [], ◌∷◌, ◌++◌, length, Option, Some, None, MatchOption, refl, sym, ap, ◌∙◌, subst, append-nil}
use Rattle.std.specs.Prelude.{unwrap_or, ◌||◌, ◌==◌, nat_le, if◌then◌else◌}
use Rattle.std.specs.List.{AllByRecursion}
use Rattle.model_h1.specs.Runs.{run_bytes}
use Rattle.model_h1.specs.Handed.{body_bytes, Begins}
use Rattle.model_h1.specs.Request.{BodyKind, no_body, fixed_body, chunked_body, raw_body}
use Rattle.model_h1.specs.Parse.{Body, no_content, content, frames, Stop, ended_at, still_open, broken, cut, next_start, IsBodyOf}
use Rattle.model_h1.specs.Runs.{Run}
use Rattle.model_h1.specs.Laws.Growth.{BodyGrows}
use Rattle.model_client.specs.AnswerTable.{body_to}
use Rattle.model_client.specs.AnswerReading.{Answer, AnswerReading, answer_is, refused}
use Rattle.model_client.specs.AnswerParse.{Received, AnswerMessage, is_interim, IsAnswerBody, left_waiting, AreAnswersFrom}
use Rattle.model_client.specs.Laws.Growth.{AnswersGrow}
use Rattle.model_client.proofs.AnswerGrowth.{answers_stay}
use Rattle.model_proxy.specs.Answers.{unfinished, bad, whole_at, Found, is_given_up, found_bad, fate_of, found_body, found_by, found_from, IsAnswer}

-- ---- what stays

pub record FoundGrows (a b : Found) : Type 0 where
  pub whole : (place : ℕ) → a.fate ≡ whole_at place → b ≡ a
  pub head : (answer : Answer) → a.response ≡ Some answer → (b.response ≡ Some answer) × Begins a.bytes b.bytes
  pub spoiled : (answer : Answer) → a.response ≡ Some answer → a.fate ≡ bad → b ≡ a

not_whole : (place : ℕ) → bad ≡ whole_at place → ⊥
not_whole place e = cc

not_yet : (place : ℕ) → unfinished ≡ whole_at place → ⊥
not_yet place e = cc

not_bad : unfinished ≡ bad → ⊥
not_bad e = cc

no_answer : (answer : Answer) → None ≡ Some answer → ⊥
no_answer answer e = cc

-- one without a head may become any
headless : (given_up : Bool) (b : Found) → FoundGrows (record { response = None; bytes = []; fate = if given_up then bad else unfinished }) b
headless true b = record {
  whole = λ place e. absurd (not_whole place e);
  head = λ answer e. absurd (no_answer answer e);
  spoiled = λ answer e. absurd (no_answer answer e);
}
headless false b = record {
  whole = λ place e. absurd (not_yet place e);
  head = λ answer e. absurd (no_answer answer e);
  spoiled = λ answer e. absurd (no_answer answer e);
}

bad_grows : (b : Found) → FoundGrows found_bad b
bad_grows b = headless true b

same_grows : (a b : Found) → b ≡ a → FoundGrows a b
same_grows a b same = record {
  whole = λ place e. same;
  head = λ answer e. (ap (λ (f : Found). f.response) same ∙ e, ([], ap (λ (f : Found). f.bytes) same ∙ sym (append-nil a.bytes)));
  spoiled = λ answer e f. same;
}

-- ---- a body has bytes

pub record HasContent (b : Body) : Type 0 where
  pub runs : List Run
  pub stop : Stop
  pub are : b ≡ content runs stop

by_choice : (t : Bool) (runs more : List Run) (stop other : Stop) → HasContent (cond t (content runs stop) (content more other))
by_choice true runs more stop other = record { runs = runs; stop = stop; are = refl }
by_choice false runs more stop other = record { runs = more; stop = other; are = refl }

pub body_content : (bytes : List ℕ) (ended : Bool) (hold : ℕ) (kind : BodyKind) (place : ℕ) (b : Body)
    → IsBodyOf (record { bytes = bytes; upgraded = None; ended = ended; hold_size = hold }) kind place b → HasContent b
body_content bytes ended hold no_body place b x = record { runs = []; stop = ended_at place []; are = x }
body_content bytes ended hold (fixed_body n) place b x =
    subst HasContent (sym x) (by_choice (nat_le (place + n) (length bytes)) _ _ _ _)
body_content bytes ended hold chunked_body place b x = record { runs = _; stop = _; are = x.3 }
body_content bytes ended hold raw_body place b x = record { runs = _; stop = _; are = x }

-- behind the head of an answer
abbrev pub IsOfContent : AnswerMessage → Type 0
IsOfContent n = (a : Answer) → n.reading ≡ answer_is a → HasContent n.body

one_content : (s : Received) (method : List ℕ) (reading : AnswerReading) (place : ℕ) (b : Body) (a : Answer) → reading ≡ answer_is a
    → IsAnswerBody s method reading place b → HasContent b
one_content s method (refused fault) place b a e x = let no : refused fault ≡ answer_is a = e in absurd (cc no)
one_content s method (answer_is h) place b a e x = body_content s.bytes s.ended 0 (body_to method h.body) place b x

pub all_content : (s : Received) (place : ℕ) (methods : List (List ℕ)) (ns : List AnswerMessage) → AreAnswersFrom is_interim s place methods ns
    → AllByRecursion IsOfContent ns
all_content s place methods [] x = tt
all_content s place [] (n ∷ ns) x = let no : n ∷ ns ≡ [] = x in absurd (cc no)
all_content s place (method ∷ methods) (n ∷ ns) x = (
  λ a e. one_content s method n.reading n.body_start n.body a e x.0.body,
  by_next (λ next. all_content s next (left_waiting is_interim n.reading method methods) ns) (next_start n.body) x.1,
)
  where
    by_next : ((next : ℕ) → AreAnswersFrom is_interim s next (left_waiting is_interim n.reading method methods) ns → AllByRecursion IsOfContent ns)
        → (o : Option ℕ) → MatchOption o (ns ≡ []) (λ next. AreAnswersFrom is_interim s next (left_waiting is_interim n.reading method methods) ns)
        → AllByRecursion IsOfContent ns
    by_next further None none = subst (AllByRecursion IsOfContent) (sym none) tt
    by_next further (Some next) y = further next y

-- ---- a body goes on

stopped : (r s : Received) (a : Answer) (runs : List Run) (stop : Stop) (b : Body) → (content runs stop ≡ b) × (run_bytes r.bytes runs ≡ body_bytes s.bytes b)
    → FoundGrows (found_body r a (content runs stop)) (found_body s a b)
stopped r s a runs stop b same =
    let text : run_bytes r.bytes runs ≡ run_bytes s.bytes runs =
    same.1 ∙ ap (λ (c : Body). body_bytes s.bytes c) (sym same.0) in
    subst (λ (c : Body). FoundGrows (found_body r a (content runs stop)) (found_body s a c)) same.0
    (same_grows (found_body r a (content runs stop)) (found_body s a (content runs stop))
    (ap (λ (bytes : List ℕ). record { response = Some a; bytes = bytes; fate = fate_of stop }) (sym text)))

open_grows : (r s : Received) (a : Answer) (runs : List Run) (b : Body) → HasContent b → Begins (run_bytes r.bytes runs) (body_bytes s.bytes b)
    → FoundGrows (found_body r a (content runs still_open)) (found_body s a b)
open_grows r s a runs b c begins = record {
  whole = λ place e. absurd (not_yet place e);
  head = λ answer e.
      let same : found_body s a b ≡ found_body s a (content c.runs c.stop) = ap (found_body s a) c.are in
      let text : Begins (run_bytes r.bytes runs) (run_bytes s.bytes c.runs) =
      subst (λ (d : Body). Begins (run_bytes r.bytes runs) (body_bytes s.bytes d)) c.are begins in (
        ap (λ (f : Found). f.response) same ∙ e,
        (text.0, ap (λ (f : Found). f.bytes) same ∙ text.1),
      );
  spoiled = λ answer e f. absurd (not_bad f);
}

body_found_grows : (r s : Received) (a : Answer) (m n : Body) → HasContent n → BodyGrows r.bytes s.bytes m n → FoundGrows (found_body r a m) (found_body s a n)
body_found_grows r s a no_content n c x = bad_grows (found_body s a n)
body_found_grows r s a (frames placed fail) n c x = bad_grows (found_body s a n)
body_found_grows r s a (content runs (ended_at place trailers)) n c x = stopped r s a runs (ended_at place trailers) n (x.closed refl)
body_found_grows r s a (content runs broken) n c x = stopped r s a runs broken n (x.closed refl)
body_found_grows r s a (content runs cut) n c x = stopped r s a runs cut n (x.closed refl)
body_found_grows r s a (content runs still_open) n c x = open_grows r s a runs n c x.bytes

-- ---- the answer

abbrev chosen : Bool → Bool → Found → Found → Found
chosen out interim later here = if out then found_bad else (if interim then later else here)

chosen_grows : (out interim : Bool) (a b c d : Found) → FoundGrows a b → FoundGrows c d → FoundGrows (chosen out interim a c) (chosen out interim b d)
chosen_grows true interim a b c d later here = bad_grows found_bad
chosen_grows false true a b c d later here = later
chosen_grows false false a b c d later here = here

by_grows : (r s : Received) (reading : AnswerReading) (m n : Body) (a b : Found) → ((x : Answer) → reading ≡ answer_is x → HasContent n) → BodyGrows r.bytes s.bytes m n
    → FoundGrows a b → FoundGrows (found_by r reading m a) (found_by s reading n b)
by_grows r s (refused fault) m n a b c x later = bad_grows found_bad
by_grows r s (answer_is h) m n a b c x later =
    chosen_grows (h.is_lax || (h.status == 101)) (is_interim h.status) a b (found_body r h m) (found_body s h n) later (body_found_grows r s h m n (c h refl) x)

from_grows : (r s : Received) (place at : ℕ) (ms ns : List AnswerMessage) → AllByRecursion IsOfContent ns → AnswersGrow r.bytes s.bytes ms ns
    → FoundGrows (found_from r place ms) (found_from s at ns)
from_grows r s place at [] ns all x = headless (is_given_up r place r.hold_size) (found_from s at ns)
from_grows r s place at (m ∷ ms) [] all x = absurd x
from_grows r s place at (m ∷ ms) (n ∷ ns) all x =
    let later = from_grows r s (unwrap_or (next_start m.body) place) (unwrap_or (next_start n.body) at) ms ns all.1 x.1 in
    subst (λ (reading : AnswerReading). FoundGrows (found_from r place (m ∷ ms)) (found_by s reading n.body (found_from s (unwrap_or (next_start n.body) at) ns))) x.0.reading
    (by_grows r s m.reading m.body n.body (found_from r (unwrap_or (next_start m.body) place) ms) (found_from s (unwrap_or (next_start n.body) at) ns)
    (λ (a : Answer) (e : m.reading ≡ answer_is a). all.0 a (sym x.0.reading ∙ e)) x.0.body later)

-- when bytes follow, or the input ends
pub answer_grows : (r s : Received) (more : List ℕ) (method : List ℕ) (a b : Found) → s.bytes ≡ r.bytes ++ more → s.hold_size ≡ r.hold_size → r.ended ≡ false
    → IsAnswer r method a → IsAnswer s method b → FoundGrows a b
answer_grows r s more method a b bytes hold going x y =
    let grows : AnswersGrow r.bytes s.bytes x.0 y.0 = answers_stay is_interim r s more (method ∷ []) [] x.0 y.0 bytes hold going x.1 y.1 in
    let found = from_grows r s 0 0 x.0 y.0 (all_content s 0 (method ∷ []) y.0 y.1) grows in
    subst (λ (c : Found). FoundGrows c b) (sym x.2) (subst (λ (d : Found). FoundGrows (found_from r 0 x.0) d) (sym y.2) found)
