-- What a server's connection handed out since a request was sent is the answer that its bytes since then hold.
use Rattle.std.proofs.Common.{◌≡◌, ℕ, ◌+◌, ◌-◌, ◌<◌, ◌≤◌, Bool, true, false, cond, List, [], ◌∷◌, ◌++◌, length, map, drop, reverse, flat_map, Option, Some, None, MatchOption, option_map, unwrap_or, refl, sym, ap, ◌∙◌, subst, append_assoc, arith, length-drop}
use Rattle.std.specs.Prelude.{◌||◌, ◌==◌, if◌then◌else◌, ⊤}
use Rattle.std.specs.List.{AllByRecursion}
use Rattle.std.proofs.lemmas.Bool.{false≢true, le-leb}
use Rattle.std.proofs.lemmas.Grind.{reverse_onto}
use Rattle.std.proofs.lemmas.List.{reverse-append}
use Rattle.model_h1.specs.Runs.{Run}
use Rattle.model_h1.specs.Setting.{Setting}
use Rattle.model_h1.specs.Request.{too_large}
use Rattle.model_h1.specs.Parse.{Body, no_content, content, frames, Stop, ended_at, still_open, broken, cut, next_start, IsBodyOf}
use Rattle.model_h1.specs.Handed.{Item, item_bytes, body_bytes, last_items, Begins}
use Rattle.model_h1.specs.Laws.Moved.{moved_body}
use Rattle.model_h1.proofs.MovedLemmas.{moved_next}
use Rattle.model_h1.proofs.RunLemmas.{run_bytes_shifted}
use Rattle.model_h1.proofs.MessageGrowth.{piece_long}
use Rattle.model_client.specs.AnswerTable.{body_to}
use Rattle.model_client.specs.AnswerReading.{Answer, AnswerReading, answer_is, refused}
use Rattle.model_client.specs.AnswerParse.{Received, AnswerMessage, body_input, IsAnswerBody, IsAnswerAt, is_interim, left_waiting, AreAnswersFrom, AreAnswersIn}
use Rattle.model_client.specs.ClientKept.{ClientKept, Waiting, is_free}
use Rattle.model_client.specs.ClientTrace.{Happened, IsClientTrace, taken}
use Rattle.model_client.specs.Laws.Moved.{moved_answer}
use Rattle.model_client.specs.Parsed.{has_ended, received_of, methods_of, IsPrefixFrom}
use Rattle.model_client.specs.ReadOut.{ReadAnswer, newly_read, read_out}
use Rattle.model_client.proofs.AllHappened.{all_for, all_is_parsed}
use Rattle.model_client.proofs.AnswerExistence.{answers_exist_from}
use Rattle.model_client.proofs.AnswerMoved.{answers_are_of_rest}
use Rattle.model_client.proofs.Chain.{Leads, first_is}
use Rattle.model_client.proofs.Holds.{waiting_methods, IsBetween}
use Rattle.model_client.proofs.NextAnswers.{between_of}
use Rattle.model_client.proofs.Told.{IsMore}
use Rattle.model_proxy.specs.Answers.{unfinished, bad, Found, is_given_up, found_nothing, found_bad, found_body, found_by, found_from, IsAnswer}
use Rattle.model_proxy.proofs.FoundAnswers.{answer_unique}
use Rattle.model_proxy.proofs.FoundGrows.{HasContent, body_content}

-- ---- behind all that was handed out earlier

turned_about : (before : List ReadAnswer) (h : ReadAnswer) (tail : List ReadAnswer) → reverse (h ∷ before) ++ tail ≡ reverse before ++ (h ∷ tail)
turned_about before h tail = ap (λ (l : List ReadAnswer). l ++ tail) (reverse_onto before h []) ∙ append_assoc (reverse before) (h ∷ []) tail

-- The answers from the place to which those lead that were handed out: what was handed out behind them is the beginning of these.
pub record Behind (r : Received) (size place : ℕ) (left : List (List ℕ)) (outs : List ReadAnswer) (ms : List AnswerMessage) : Type 0 where
  pub rest : List AnswerMessage
  pub are : AreAnswersFrom is_interim r place left rest
  pub begins : (tail : List ReadAnswer) → IsPrefixFrom size r.bytes 0 (reverse outs ++ tail) ms → IsPrefixFrom size r.bytes place tail rest

pub split_at : (r : Received) (size : ℕ) (methods : List (List ℕ)) (outs : List ReadAnswer) (place : ℕ) (left : List (List ℕ)) (ms : List AnswerMessage)
    → Leads r methods outs place left → AreAnswersIn is_interim r methods ms → Behind r size place left outs ms
split_at r size methods [] place left ms (zero_is, left_is) are = record {
  rest = ms;
  are = subst (λ (p : ℕ). AreAnswersFrom is_interim r p left ms) (sym zero_is) (subst (λ (l : List (List ℕ)). AreAnswersFrom is_interim r 0 l ms) (sym left_is) are);
  begins = λ tail x. subst (λ (p : ℕ). IsPrefixFrom size r.bytes p tail ms) (sym zero_is) x;
}
split_at r size methods (h ∷ before) place left ms (start, method, others, leads, x) are =
    let earlier = split_at r size methods before start (method ∷ others) ms leads are in
    let first = first_is r start method others x.message earlier.rest x.at earlier.are in
    record {
      rest = first.rest;
      are = subst (λ (l : List (List ℕ)). AreAnswersFrom is_interim r place l first.rest) (sym x.left_is)
          (subst (λ (o : Option ℕ). MatchOption o (first.rest ≡ []) (λ next. AreAnswersFrom is_interim r next (left_waiting is_interim x.message.reading method others) first.rest))
          x.next first.follow);
      begins = λ tail y.
          let here = subst (IsPrefixFrom size r.bytes start (h ∷ tail)) first.are
          (earlier.begins (h ∷ tail) (subst (λ (l : List ReadAnswer). IsPrefixFrom size r.bytes 0 l ms) (turned_about before h tail) y)) in
          subst (λ (o : Option ℕ). IsPrefixFrom size r.bytes (unwrap_or o start) tail first.rest) x.next here.2;
    }

-- ---- a body counted from the place

pub moved_bytes : (bytes : List ℕ) (place : ℕ) (b : Body) → body_bytes bytes (moved_body place b) ≡ body_bytes (drop place bytes) b
moved_bytes bytes place no_content = refl
moved_bytes bytes place (content runs stop) = run_bytes_shifted bytes place runs
moved_bytes bytes place (frames placed fail) = refl

moved_last : (place : ℕ) (runs : List Run) (stop : Stop) → last_items (moved_body place (content runs stop)) ≡ last_items (content runs stop)
moved_last place runs (ended_at end trailers) = refl
moved_last place runs still_open = refl
moved_last place runs broken = refl
moved_last place runs cut = refl

-- ---- what each answer to this request has behind its head

pub record IsOf (r : Received) (method : List ℕ) (a : Answer) (n : AnswerMessage) : Type 0 where
  pub has : HasContent n.body
  pub within : n.body_start ≤ length r.bytes
  pub is : IsBodyOf (body_input r) (body_to method a.body) n.body_start n.body

abbrev pub IsToIt : Received → List ℕ → AnswerMessage → Type 0
IsToIt r method n = (a : Answer) → n.reading ≡ answer_is a → IsOf r method a n

behind_head : (r : Received) (method : List ℕ) (reading : AnswerReading) (place : ℕ) (b : Body) (a : Answer) → reading ≡ answer_is a
    → IsAnswerBody r method reading place b → IsBodyOf (body_input r) (body_to method a.body) place b
behind_head r method (refused fault) place b a e x = let no : refused fault ≡ answer_is a = e in absurd (cc no)
behind_head r method (answer_is h) place b a e x =
    let same : h ≡ a = cc in
    subst (λ (a : Answer). IsBodyOf (body_input r) (body_to method a.body) place b) same x

one_of : (r : Received) (place : ℕ) (method : List ℕ) (n : AnswerMessage) → IsAnswerAt r place method n → IsToIt r method n
one_of r place method n x = λ a e.
    let long = piece_long r.bytes place x.start x.end x.piece in
    let start = x.body_start in
    let fits = x.piece.in_range in
    let left = length-drop place r.bytes in
    let is = behind_head r method n.reading n.body_start n.body a e x.body in
    record {
      has = body_content r.bytes r.ended 0 (body_to method a.body) n.body_start n.body is;
      within = omega (arith, long, start, fits, left);
      is = is;
    }

pub all_of : (r : Received) (place : ℕ) (method : List ℕ) (ns : List AnswerMessage) → AreAnswersFrom is_interim r place (method ∷ []) ns
    → AllByRecursion (IsToIt r method) ns
all_of r place method [] x = tt
all_of r place method (n ∷ ns) x =
    (one_of r place method n x.0, by_next (λ next. all_of r next method ns) (next_start n.body) n.reading x.1)
  where
    by_left : ((next : ℕ) → AreAnswersFrom is_interim r next (method ∷ []) ns → AllByRecursion (IsToIt r method) ns) → (next : ℕ) (t : Bool)
        → AreAnswersFrom is_interim r next (cond t (method ∷ []) []) ns → AllByRecursion (IsToIt r method) ns
    by_left further next true y = further next y
    by_left further next false none = subst (AllByRecursion (IsToIt r method)) (sym none) tt

    by_next : ((next : ℕ) → AreAnswersFrom is_interim r next (method ∷ []) ns → AllByRecursion (IsToIt r method) ns) → (o : Option ℕ) (reading : AnswerReading)
        → MatchOption o (ns ≡ []) (λ next. AreAnswersFrom is_interim r next (left_waiting is_interim reading method []) ns) → AllByRecursion (IsToIt r method) ns
    by_next further None reading none = subst (AllByRecursion (IsToIt r method)) (sym none) tt
    by_next further (Some next) (refused fault) none = subst (AllByRecursion (IsToIt r method)) (sym none) tt
    by_next further (Some next) (answer_is h) y = by_left further next (is_interim h.status) y

-- ---- interim answers are passed over

abbrev pub is_out : Answer → Bool
is_out a = a.is_lax || (a.status == 101)

pub record IsPassedOver (h : ReadAnswer) : Type 0 where
  pub answer : Answer
  pub reading : h.reading ≡ answer_is answer
  pub good : is_out answer ≡ false
  pub interim : is_interim answer.status ≡ true

not_full : (a : Answer) (h : ReadAnswer) → h.reading ≡ answer_is a → h ≡ newly_read (refused too_large) → ⊥
not_full a h reading is =
    let no : answer_is a ≡ refused too_large = sym reading ∙ ap (λ (x : ReadAnswer). x.reading) is in cc no

pub chosen_later : (t u : Bool) (later here : Found) → t ≡ false → u ≡ true → (if t then found_bad else (if u then later else here)) ≡ later
chosen_later true u later here a b = absurd (false≢true (sym a))
chosen_later false false later here a b = absurd (false≢true b)
chosen_later false true later here a b = refl

pub chosen_here : (t u : Bool) (later here : Found) → t ≡ false → u ≡ false → (if t then found_bad else (if u then later else here)) ≡ here
chosen_here true u later here a b = absurd (false≢true (sym a))
chosen_here false true later here a b = absurd (false≢true (sym b))
chosen_here false false later here a b = refl

-- the answers behind those that were passed over
record Left (s : Received) (method : List ℕ) (size : ℕ) (bytes : List ℕ) (place : ℕ) (tail : List ReadAnswer) (found : Found) : Type 0 where
  at : ℕ
  start : ℕ
  starts : start ≡ place + at
  rest : List AnswerMessage
  contents : AllByRecursion (IsToIt s method) rest
  begins : IsPrefixFrom size bytes start tail (map (moved_answer place) rest)
  is : found ≡ found_from s at rest

next_there : (place start at : ℕ) (b : Body) → start ≡ place + at → unwrap_or (next_start (moved_body place b)) start ≡ place + unwrap_or (next_start b) at
next_there place start at b starts =
    ap (λ (o : Option ℕ). unwrap_or o start) (moved_next place b) ∙ by_next (next_start b)
  where
    by_next : (o : Option ℕ) → unwrap_or (option_map (λ (n : ℕ). place + n) o) start ≡ place + unwrap_or o at
    by_next None = starts
    by_next (Some n) = refl

passes : (s : Received) (method : List ℕ) (size : ℕ) (bytes : List ℕ) (place start at : ℕ) (news tail : List ReadAnswer) (h : ReadAnswer) (rest : List AnswerMessage)
    → start ≡ place + at → AllByRecursion IsPassedOver news → AllByRecursion (IsToIt s method) rest → IsPrefixFrom size bytes start (news ++ h ∷ tail) (map (moved_answer place) rest)
    → Left s method size bytes place (h ∷ tail) (found_from s at rest)
passes s method size bytes place start at [] tail h rest starts all contents x = record { at = at; start = start; starts = starts; rest = rest; contents = contents; begins = x; is = refl }
passes s method size bytes place start at (n ∷ []) tail h [] starts all contents x = absurd x
passes s method size bytes place start at (n ∷ m ∷ news) tail h [] starts all contents x = absurd x
passes s method size bytes place start at (n ∷ news) tail h (m ∷ rest) starts all contents x =
    let next = unwrap_or (next_start m.body) at in
    let further = passes s method size bytes place (unwrap_or (next_start (moved_body place m.body)) start) next news tail h rest (next_there place start at m.body starts) all.1 contents.1 x.2 in
    let reading : m.reading ≡ answer_is all.0.answer = sym x.0.reading ∙ all.0.reading in
    record {
      at = further.at;
      start = further.start;
      starts = further.starts;
      rest = further.rest;
      contents = further.contents;
      begins = further.begins;
      is =
          ap (λ (reading : AnswerReading). found_by s reading m.body (found_from s next rest)) reading
          ∙ chosen_later (is_out all.0.answer) (is_interim all.0.answer.status) (found_from s next rest) (found_body s all.0.answer m.body) all.0.good all.0.interim
          ∙ further.is;
    }

-- ---- the answer that was handed out last

-- its head and items of its body are those of the answer that is found
pub record IsFoundSo (s : Received) (method : List ℕ) (h : ReadAnswer) (a : Answer) (found : Found) : Type 0 where
  pub message : AnswerMessage
  pub of : IsOf s method a message
  pub is : found ≡ found_body s a message.body
  pub pieces : List (List ℕ)
  pub last : List Item
  pub are : h.items ≡ map item_bytes pieces ++ last
  pub begins : Begins (flat_map (λ piece. piece) pieces) (body_bytes s.bytes message.body)
  pub behind : 0 < length last → flat_map (λ piece. piece) pieces ≡ body_bytes s.bytes message.body
  pub follow : Begins last (last_items message.body)

first_found : (s : Received) (method : List ℕ) (size : ℕ) (bytes : List ℕ) (place start at : ℕ) (h : ReadAnswer) (a : Answer) (rest : List AnswerMessage) → s.bytes ≡ drop place bytes
    → h.reading ≡ answer_is a → is_out a ≡ false → is_interim a.status ≡ false → AllByRecursion (IsToIt s method) rest
    → IsPrefixFrom size bytes start (h ∷ []) (map (moved_answer place) rest) → IsFoundSo s method h a (found_from s at rest)
first_found s method size bytes place start at h a [] same reading good final contents x = absurd (not_full a h reading x.0)
first_found s method size bytes place start at h a (m ∷ rest) same reading good final contents x =
    let is_read : m.reading ≡ answer_is a = sym x.0.reading ∙ reading in
    let of = contents.0 a is_read in
    let has = of.has in
    let items = x.0.items in
    let text : body_bytes bytes (moved_body place m.body) ≡ body_bytes s.bytes m.body =
    moved_bytes bytes place m.body ∙ ap (λ (b : List ℕ). body_bytes b m.body) (sym same) in
    let behind_it : last_items (moved_body place m.body) ≡ last_items m.body =
    ap (λ (b : Body). last_items (moved_body place b)) has.are ∙ moved_last place has.runs has.stop ∙ ap last_items (sym has.are) in
    record {
      message = m;
      of = of;
      is =
          ap (λ (reading : AnswerReading). found_by s reading m.body (found_from s (unwrap_or (next_start m.body) at) rest)) is_read
          ∙ chosen_here (is_out a) (is_interim a.status) (found_from s (unwrap_or (next_start m.body) at) rest) (found_body s a m.body) good final;
      pieces = items.pieces;
      last = items.last;
      are = items.are;
      begins = subst (Begins (flat_map (λ piece. piece) items.pieces)) text items.begins;
      behind = λ some. items.behind some ∙ text;
      follow = subst (Begins items.last) behind_it items.follow;
    }

all_turned : (P : ReadAnswer → Type 0) (xs : List ReadAnswer) → AllByRecursion P xs → AllByRecursion P (reverse xs)
all_turned P [] all = tt
all_turned P (x ∷ xs) all = subst (AllByRecursion P) (sym (reverse-append (x ∷ []) xs)) (one_more (reverse xs) (all_turned P xs all.1))
  where
    one_more : (ys : List ReadAnswer) → AllByRecursion P ys → AllByRecursion P (ys ++ x ∷ [])
    one_more [] y = (all.0, tt)
    one_more (z ∷ ys) y = (y.0, one_more ys y.1)

in_turn : (h : ReadAnswer) (news outs : List ReadAnswer) → reverse ((h ∷ news) ++ outs) ≡ reverse outs ++ (reverse news ++ h ∷ [])
in_turn h news outs =
    reverse-append (h ∷ news) outs ∙ ap (λ (l : List ReadAnswer). reverse outs ++ l) (reverse-append (h ∷ []) news)

-- ---- one that isn't passed on

-- it is refused, or an answer that is never passed on
abbrev pub IsBadReading : AnswerReading → Type 0
IsBadReading (answer_is a) = is_out a ≡ true
IsBadReading (refused f) = ⊤

-- no head that is passed on, and none will come
pub record IsFoundBad (found : Found) : Type 0 where
  pub none : found.response ≡ None
  pub spoiled : found.fate ≡ bad

chosen_out : (t : Bool) (other : Found) → t ≡ true → (if t then found_bad else other) ≡ found_bad
chosen_out true other is = refl
chosen_out false other is = absurd (false≢true is)

reading_bad : (s : Received) (reading : AnswerReading) (b : Body) (later : Found) → IsBadReading reading → IsFoundBad (found_by s reading b later)
reading_bad s (refused f) b later out = record { none = refl; spoiled = refl }
reading_bad s (answer_is a) b later out =
    subst IsFoundBad (sym (chosen_out (is_out a) (if is_interim a.status then later else found_body s a b) out)) (record { none = refl; spoiled = refl })

-- too many bytes hold no whole head
given_up : (s : Received) (size : ℕ) (bytes : List ℕ) (place start at : ℕ) → s.bytes ≡ drop place bytes → s.hold_size ≡ Some size → start ≡ place + at
    → size ≤ length (drop start bytes) → IsFoundBad (found_nothing s at)
given_up s size bytes place start at same held starts long =
    let left = length-drop start bytes in
    let here = length-drop place bytes in
    let count = ap (λ (l : List ℕ). length l) same in
    let full : size ≤ length s.bytes - at = omega (arith, left, here, count, starts, long) in
    let is : is_given_up s at s.hold_size ≡ true =
    ap (is_given_up s at) held ∙ ap (λ (t : Bool). s.ended || t) (le-leb size (length s.bytes - at) full) ∙ or_so s.ended in
    record { none = refl; spoiled = ap (λ (t : Bool). if t then bad else unfinished) is }
  where
    or_so : (t : Bool) → (t || true) ≡ true
    or_so true = refl
    or_so false = refl

bad_found : (s : Received) (size : ℕ) (bytes : List ℕ) (place start at : ℕ) (h : ReadAnswer) (rest : List AnswerMessage) → s.bytes ≡ drop place bytes
    → s.hold_size ≡ Some size → start ≡ place + at → IsBadReading h.reading → IsPrefixFrom size bytes start (h ∷ []) (map (moved_answer place) rest)
    → IsFoundBad (found_from s at rest)
bad_found s size bytes place start at h [] same held starts out x = given_up s size bytes place start at same held starts x.1
bad_found s size bytes place start at h (m ∷ rest) same held starts out x =
    reading_bad s m.reading m.body (found_from s (unwrap_or (next_start m.body) at) rest) (subst IsBadReading x.0.reading out)

-- ---- what was handed out since

-- What was handed out behind what came earlier: answers that are passed over, and then this one.
module _ (setting : Setting) (trace : List Happened) (k : ClientKept) (outs news : List ReadAnswer) (h : ReadAnswer) (place : ℕ) (method : List ℕ)
    (ran : IsClientTrace setting trace k) (leads : Leads (received_of setting trace) (methods_of trace) outs place (method ∷ [])) (within : place ≤ length (taken trace))
    (answers : (read_out trace).answers ≡ (h ∷ news) ++ outs) (passed : AllByRecursion IsPassedOver news) where
  abbrev since : Received
  since = record { bytes = drop place (taken trace); ended = has_ended trace; hold_size = Some setting.hold_size }

  last_left : (found : Found) → IsAnswer since method found → Left since method setting.hold_size (taken trace) place (h ∷ []) found
  last_left found x =
      let r = received_of setting trace in
      let parse = answers_exist_from is_interim r 0 (methods_of trace) in
      let split = split_at r setting.hold_size (methods_of trace) outs place (method ∷ []) parse.0 leads parse.1 in
      let local = answers_are_of_rest is_interim r place (method ∷ []) split.rest within split.are in
      let handed = (all_is_parsed setting trace k parse.0 ran parse.1).1 in
      let turned : reverse (read_out trace).answers ≡ reverse outs ++ (reverse news ++ h ∷ []) = ap reverse answers ∙ in_turn h news outs in
      let here = split.begins (reverse news ++ h ∷ []) (subst (λ (l : List ReadAnswer). IsPrefixFrom setting.hold_size (taken trace) 0 l parse.0) turned handed) in
      let there = subst (IsPrefixFrom setting.hold_size (taken trace) place (reverse news ++ h ∷ [])) local.2 here in
      let left = passes since method setting.hold_size (taken trace) place place 0 (reverse news) [] h local.0 (omega arith) (all_turned IsPassedOver news passed)
      (all_of since 0 method local.0 local.1) there in
      let same : found ≡ found_from since 0 local.0 = answer_unique since method found (found_from since 0 local.0) x (local.0, local.1, refl) in
      record {
        at = left.at;
        start = left.start;
        starts = left.starts;
        rest = left.rest;
        contents = left.contents;
        begins = left.begins;
        is = same ∙ left.is;
      }

  -- it is what is found in the bytes from there
  pub handed_is_found : (a : Answer) (found : Found) → h.reading ≡ answer_is a → is_out a ≡ false → is_interim a.status ≡ false → IsAnswer since method found
      → IsFoundSo since method h a found
  handed_is_found a found reading good final x =
      let left = last_left found x in
      subst (IsFoundSo since method h a) (sym left.is)
      (first_found since method setting.hold_size (taken trace) place left.start left.at h a left.rest refl reading good final left.contents left.begins)

  -- and where it is bad, nothing else is
  pub handed_is_bad : (found : Found) → IsBadReading h.reading → IsAnswer since method found → IsFoundBad found
  handed_is_bad found out x =
      let left = last_left found x in
      subst IsFoundBad (sym left.is)
      (bad_found since setting.hold_size (taken trace) place left.start left.at h left.rest refl refl left.starts out left.begins)

-- ---- where a request was asked while nothing of an earlier answer was left

-- What was handed out by then leads to the place where the bytes begin that came later, and the request alone waits there.
pub asked_leads : (setting : Setting) (before : List Happened) (k : ClientKept) (bytes more : List ℕ) (e : Bool) (methods : List (List ℕ)) (method : List ℕ)
    → IsClientTrace setting before k → k.failed ≡ None → is_free k ≡ true → k.unread ≡ [] → k.waiting ≡ [] → k.has_ended ≡ false
    → bytes ≡ taken before ++ more → methods ≡ methods_of before ++ method ∷ []
    → IsBetween bytes e setting.hold_size methods (read_out before).answers more (method ∷ [])
asked_leads setting before k bytes more e methods method ran fine free unread waiting going bytes_are methods_are =
    let now = all_for setting bytes e methods before k more (method ∷ []) ran bytes_are methods_are (subst (λ (t : Bool). IsMore t more e) (sym going) tt) in
    let between = between_of bytes e setting.hold_size methods (read_out before) k more (method ∷ []) fine free now.1 in
    subst (λ (ws : List Waiting). IsBetween bytes e setting.hold_size methods (read_out before).answers more (waiting_methods ws ++ method ∷ [])) waiting
    (subst (λ (text : List ℕ). IsBetween bytes e setting.hold_size methods (read_out before).answers (text ++ more) (waiting_methods k.waiting ++ method ∷ [])) unread between)
