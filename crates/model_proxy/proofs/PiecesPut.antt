-- A reply whose pieces are those that were handed out passes on the answer that is found.
use Rattle.std.proofs.Common.{◌≡◌, ◌⊎◌, ℕ, ◌<◌, Bool, true, false, List, [], ◌∷◌, ◌++◌, length, map, codes, bytes_eq, refl, sym, ap, ap₂, ◌∙◌, subst, inl, inr, arith}
use Rattle.std.specs.Prelude.{◌||◌, ⊤}
use Rattle.std.specs.List.{AllByRecursion}
use Rattle.std.proofs.lemmas.Bool.{false≢true}
use Rattle.model_h1.specs.Event.{BodyFault, corrupted, incomplete}
use Rattle.model_h1.specs.Answer.{is_at_once}
use Rattle.model_h1.specs.Handed.{Item, item_bytes, item_trailers, item_end, item_fault, item_frame, trailer_items, stop_items, last_items, body_bytes, AreItemsOf, Begins}
use Rattle.model_h1.specs.Runs.{Run}
use Rattle.model_h1.specs.Request.{Header, BodyKind, no_body}
use Rattle.model_h1.specs.Parse.{Body, content, Stop, ended_at, still_open, broken, cut, IsBodyOf}
use Rattle.model_h1.specs.Laws.Exchanges.{AnswerGiven, Reply, no_reply, answer_given, session}
use Rattle.model_client.specs.RequestText.{joined}
use Rattle.model_client.specs.AnswerTable.{body_to}
use Rattle.model_client.specs.AnswerReading.{Answer}
use Rattle.model_client.specs.AnswerParse.{Received, body_input}
use Rattle.model_client.specs.ReadOut.{ReadAnswer}
use Rattle.model_proxy.specs.Answers.{fate_of, Found, found_body, reply_head, reply_size}
use Rattle.model_proxy.specs.Forwarding.{IsWhole, IsPassedOn}
use Rattle.model_proxy.proofs.FoundHanded.{IsFoundSo}
use Rattle.model_proxy.proofs.FirstPassed.{head_is_found, ends_at_once}

-- ---- which items are bytes

-- it comes behind the bytes of a body
abbrev pub IsBehind : Item → Type 0
IsBehind (item_bytes bytes) = ⊥
IsBehind (item_trailers lines) = ⊤
IsBehind item_end = ⊤
IsBehind (item_fault fault) = ⊤
IsBehind (item_frame f) = ⊤

front_behind : (l rest : List Item) → AllByRecursion IsBehind (l ++ rest) → AllByRecursion IsBehind l
front_behind [] rest all = tt
front_behind (i ∷ l) rest all = (all.0, front_behind l rest all.1)

trailers_behind : (lines : List Header) → AllByRecursion IsBehind (trailer_items lines ++ item_end ∷ [])
trailers_behind [] = (tt, tt)
trailers_behind (line ∷ lines) = (tt, (tt, tt))

stop_behind : (stop : Stop) → AllByRecursion IsBehind (stop_items stop)
stop_behind (ended_at place lines) = trailers_behind lines
stop_behind still_open = tt
stop_behind broken = (tt, tt)
stop_behind cut = (tt, tt)

-- behind the pieces of a body only such come
pub content_behind : (bytes : List ℕ) (runs : List Run) (stop : Stop) (items : List Item) → (x : AreItemsOf bytes (content runs stop) items) → AllByRecursion IsBehind x.last
content_behind bytes runs stop items x = front_behind x.last x.follow.0 (subst (AllByRecursion IsBehind) x.follow.1 (stop_behind stop))

-- the pieces of bytes among these items
abbrev pub bytes_in : List Item → List (List ℕ)
bytes_in [] = []
bytes_in (item_bytes bytes ∷ items) = bytes ∷ bytes_in items
bytes_in (item_trailers lines ∷ items) = bytes_in items
bytes_in (item_end ∷ items) = bytes_in items
bytes_in (item_fault fault ∷ items) = bytes_in items
bytes_in (item_frame f ∷ items) = bytes_in items

-- the end of a body is among them
abbrev pub has_end : List Item → Bool
has_end [] = false
has_end (item_bytes bytes ∷ items) = has_end items
has_end (item_trailers lines ∷ items) = has_end items
has_end (item_end ∷ items) = true
has_end (item_fault fault ∷ items) = has_end items
has_end (item_frame f ∷ items) = has_end items

pub bytes_more : (l m : List Item) → bytes_in (l ++ m) ≡ bytes_in l ++ bytes_in m
bytes_more [] m = refl
bytes_more (item_bytes bytes ∷ l) m = ap (λ (ps : List (List ℕ)). bytes ∷ ps) (bytes_more l m)
bytes_more (item_trailers lines ∷ l) m = bytes_more l m
bytes_more (item_end ∷ l) m = bytes_more l m
bytes_more (item_fault fault ∷ l) m = bytes_more l m
bytes_more (item_frame f ∷ l) m = bytes_more l m

pub end_stays : (l m : List Item) → has_end l ≡ true → has_end (l ++ m) ≡ true
end_stays [] m is = absurd (false≢true is)
end_stays (item_bytes bytes ∷ l) m is = end_stays l m is
end_stays (item_trailers lines ∷ l) m is = end_stays l m is
end_stays (item_end ∷ l) m is = refl
end_stays (item_fault fault ∷ l) m is = end_stays l m is
end_stays (item_frame f ∷ l) m is = end_stays l m is

pub end_comes : (l : List Item) → has_end (l ++ item_end ∷ []) ≡ true
end_comes [] = refl
end_comes (item_bytes bytes ∷ l) = end_comes l
end_comes (item_trailers lines ∷ l) = end_comes l
end_comes (item_end ∷ l) = refl
end_comes (item_fault fault ∷ l) = end_comes l
end_comes (item_frame f ∷ l) = end_comes l

none_of : (l : List Item) → AllByRecursion IsBehind l → bytes_in l ≡ []
none_of [] all = refl
none_of (item_bytes bytes ∷ l) all = absurd all.0
none_of (item_trailers lines ∷ l) all = none_of l all.1
none_of (item_end ∷ l) all = none_of l all.1
none_of (item_fault fault ∷ l) all = none_of l all.1
none_of (item_frame f ∷ l) all = none_of l all.1

pub parts_bytes : (ps : List (List ℕ)) (last : List Item) → AllByRecursion IsBehind last → bytes_in (map item_bytes ps ++ last) ≡ ps
parts_bytes [] last all = none_of last all
parts_bytes (p ∷ ps) last all = ap (λ (qs : List (List ℕ)). p ∷ qs) (parts_bytes ps last all)

pub parts_end : (ps : List (List ℕ)) (last : List Item) → has_end (map item_bytes ps ++ last) ≡ has_end last
parts_end [] last = refl
parts_end (p ∷ ps) last = parts_end ps last

-- ---- what was handed out of a body

module _ (s : Received) (method : List ℕ) (h : ReadAnswer) (a : Answer) (found : Found) (x : IsFoundSo s method h a found) where
  last_behind : AllByRecursion IsBehind x.last
  last_behind =
      let all : AllByRecursion IsBehind (last_items x.message.body) =
      subst (λ (b : Body). AllByRecursion IsBehind (last_items b)) (sym x.of.has.are) (stop_behind x.of.has.stop) in
      front_behind x.last x.follow.0 (subst (AllByRecursion IsBehind) x.follow.1 all)

  found_pieces : bytes_in h.items ≡ x.pieces
  found_pieces = ap bytes_in x.are ∙ parts_bytes x.pieces x.last last_behind

  found_bytes : found.bytes ≡ body_bytes s.bytes x.message.body
  found_bytes = ap (λ (f : Found). f.bytes) (x.is ∙ ap (found_body s a) x.of.has.are) ∙ sym (ap (body_bytes s.bytes) x.of.has.are)

-- ---- where the end was handed out

nothing_of : (l rest : List Item) → [] ≡ l ++ rest → l ≡ []
nothing_of [] rest e = refl
nothing_of (i ∷ l) rest e = let no : [] ≡ i ∷ (l ++ rest) = e in absurd (cc no)

one_fault : (fault : BodyFault) (l rest : List Item) → item_fault fault ∷ [] ≡ l ++ rest → has_end l ≡ true → ⊥
one_fault fault [] rest e is = false≢true is
one_fault fault (i ∷ l) rest e is =
    let whole : item_fault fault ∷ [] ≡ i ∷ (l ++ rest) = e in
    let same : item_fault fault ≡ i = cc in
    let none : [] ≡ l ++ rest = cc in
    false≢true (ap₂ (λ (i : Item) (l : List Item). has_end (i ∷ l)) same (sym (nothing_of l rest none)) ∙ is)

pub whole_stop : (l rest : List Item) (stop : Stop) → stop_items stop ≡ l ++ rest → has_end l ≡ true → IsWhole (fate_of stop)
whole_stop l rest (ended_at place lines) e is = tt
whole_stop l rest still_open e is = absurd (false≢true (ap has_end (sym (nothing_of l rest e)) ∙ is))
whole_stop l rest broken e is = absurd (one_fault corrupted l rest e is)
whole_stop l rest cut e is = absurd (one_fault incomplete l rest e is)

pub some_items : (l : List Item) → has_end l ≡ true → 0 < length l
some_items [] is = absurd (false≢true is)
some_items (i ∷ l) is = omega arith

-- the answer is whole, and all its bytes were handed out
abbrev IsAllOf : Found → List (List ℕ) → Type 0
IsAllOf found pieces = IsWhole found.fate × (joined pieces ≡ found.bytes)

ended_whole : (s : Received) (method : List ℕ) (h : ReadAnswer) (a : Answer) (found : Found) → IsFoundSo s method h a found → has_end h.items ≡ true
    → IsAllOf found (bytes_in h.items)
ended_whole s method h a found x is =
    let ended : has_end x.last ≡ true = sym (ap has_end x.are ∙ parts_end x.pieces x.last) ∙ is in
    let stop : stop_items x.of.has.stop ≡ x.last ++ x.follow.0 = sym (ap last_items x.of.has.are) ∙ x.follow.1 in
    let fate : found.fate ≡ fate_of x.of.has.stop = ap (λ (f : Found). f.fate) (x.is ∙ ap (found_body s a) x.of.has.are) in (
      subst IsWhole (sym fate) (whole_stop x.last x.follow.0 x.of.has.stop stop ended),
      ap joined (found_pieces s method h a found x) ∙ x.behind (some_items x.last ended) ∙ sym (found_bytes s method h a found x),
    )

-- so it is where there is no body
none_before : (front rest : List ℕ) → [] ≡ front ++ rest → front ≡ []
none_before [] rest e = refl
none_before (b ∷ front) rest e = let no : [] ≡ b ∷ (front ++ rest) = e in absurd (cc no)

bodiless_whole : (s : Received) (method : List ℕ) (h : ReadAnswer) (a : Answer) (found : Found) → IsFoundSo s method h a found → body_to method a.body ≡ no_body
    → IsAllOf found (bytes_in h.items)
bodiless_whole s method h a found x none =
    let body : x.message.body ≡ content [] (ended_at x.message.body_start []) =
    subst (λ (kind : BodyKind). IsBodyOf (body_input s) kind x.message.body_start x.message.body) none x.of.is in
    let is : found ≡ found_body s a (content [] (ended_at x.message.body_start [])) = x.is ∙ ap (found_body s a) body in
    let empty : found.bytes ≡ [] = ap (λ (f : Found). f.bytes) is in
    let begins : [] ≡ joined x.pieces ++ x.begins.0 = sym empty ∙ found_bytes s method h a found x ∙ x.begins.1 in (
      subst (λ (f : Found). IsWhole f.fate) (sym is) tt,
      ap joined (found_pieces s method h a found x) ∙ none_before (joined x.pieces) x.begins.0 begins ∙ sym empty,
    )

-- ---- the reply

-- The reply has the answer's head, and the pieces that were handed out; and it is ended only where the end was handed out, or there is no body.
pub record PutsOn (method : List ℕ) (a : Answer) (items : List Item) (g : AnswerGiven) : Type 0 where
  pub head : g.answered.head ≡ reply_head a
  pub size : g.answered.size ≡ reply_size (bytes_eq method (codes "HEAD")) a
  pub pieces : g.pieces ≡ bytes_in items
  pub ended : g.is_ended ≡ true → (has_end items ≡ true) ⊎ (body_to method a.body ≡ no_body)

-- where its head was put; that isn't where it may not be
abbrev pub IsPutOf : List ℕ → Answer → List Item → Reply → Type 0
IsPutOf method a items no_reply = ⊤
IsPutOf method a items (answer_given g) = PutsOn method a items g
IsPutOf method a items (session w) = ⊥

either : (t u : Bool) (P : Type 0) → (t || u) ≡ true → (t ≡ true → P) → (u ≡ true → P) → P
either true u P is first second = first refl
either false u P is first second = second is

by_reason : (s : Received) (method : List ℕ) (h : ReadAnswer) (a : Answer) (found : Found) → IsFoundSo s method h a found
    → (has_end h.items ≡ true) ⊎ (body_to method a.body ≡ no_body) → IsAllOf found (bytes_in h.items)
by_reason s method h a found x (inl ended) = ended_whole s method h a found x ended
by_reason s method h a found x (inr none) = bodiless_whole s method h a found x none

pub put_passed : (s : Received) (method : List ℕ) (h : ReadAnswer) (a : Answer) (found : Found) (g : AnswerGiven) → IsFoundSo s method h a found
    → PutsOn method a h.items g → IsPassedOn method g found a
put_passed s method h a found g x put =
    let pieces : g.pieces ≡ x.pieces = put.pieces ∙ found_pieces s method h a found x in
    let text = found_bytes s method h a found x in
    let begins : Begins (joined g.pieces) found.bytes =
    (x.begins.0, text ∙ x.begins.1 ∙ ap (λ (ps : List (List ℕ)). joined ps ++ x.begins.0) (sym pieces)) in
    record {
      response = head_is_found s method h a found x;
      head = put.head;
      size = put.size;
      bytes = begins;
      end = λ whole.
          either (is_at_once g.answered.size) g.is_ended (IsAllOf found g.pieces) whole
          (λ at.
          let ends = ends_at_once s method h a found x (ap is_at_once (sym put.size) ∙ at) in
          let is : found ≡ found_body s a (content [] (ended_at ends.end [])) = x.is ∙ ap (found_body s a) ends.are in
          let none : found.bytes ≡ [] = ap (λ (f : Found). f.bytes) is in (
            subst (λ (f : Found). IsWhole f.fate) (sym is) tt,
            none_before (joined g.pieces) begins.0 (sym none ∙ begins.1) ∙ sym none,
          ))
          (λ ended. subst (IsAllOf found) (sym put.pieces) (by_reason s method h a found x (put.ended ended)));
    }
