-- A server connection that has read an answer to its end, and of which nothing is left to read: the bytes since the request was sent are that
-- answer, and no others.
use Rattle.std.proofs.Common.{◌≡◌, ℕ, ◌+◌, ◌≤◌, true, false, List, [], ◌∷◌, ◌++◌, length, map, drop, Option, Some, None, MatchOption, option_map, unwrap_or, refl, sym, ap, ◌∙◌, subst, append_assoc, append-nil, arith, length-drop}
use Rattle.std.specs.List.{AllByRecursion}
use Rattle.model_h1.specs.HeadPiece.{HasNoHeadPiece}
use Rattle.model_h1.specs.Parse.{Body, no_content, content, frames, ended_at, still_open, broken, cut, next_start}
use Rattle.model_h1.proofs.MovedLemmas.{moved_next}
use Rattle.model_client.specs.AnswerReading.{Answer, AnswerReading, answer_is}
use Rattle.model_client.specs.AnswerParse.{Received, AnswerMessage, is_interim, left_waiting, AreAnswersFrom}
use Rattle.model_client.specs.Laws.Moved.{moved_answer}
use Rattle.model_client.specs.ReadOut.{ReadAnswer}
use Rattle.model_client.proofs.AnswerExistence.{answers_exist_from}
use Rattle.model_client.proofs.AnswerMoved.{answers_are_of_rest}
use Rattle.model_client.proofs.Chain.{IsRead, Leads, first_is}
use Rattle.model_proxy.specs.Answers.{whole_at, Found, found_nothing, found_body, found_by, found_from, IsAnswer}
use Rattle.model_proxy.proofs.FoundAnswers.{answer_unique}
use Rattle.model_proxy.proofs.FoundHanded.{split_at, IsPassedOver, is_out, chosen_later, chosen_here}

-- ---- what was handed out leads to one place

record SameWay (p q : ℕ) (l m : List (List ℕ)) : Type 0 where
  place : p ≡ q
  left : l ≡ m

same_read : (r : Received) (h : ReadAnswer) (start : ℕ) (method : List ℕ) (others : List (List ℕ)) (p q : ℕ) (l m : List (List ℕ)) → IsRead r h start method others p l
    → IsRead r h start method others q m → SameWay p q l m
same_read r h start method others p q l m x y =
    let ms = answers_exist_from is_interim r start (method ∷ others) in
    let a = first_is r start method others x.message ms.0 x.at ms.1 in
    let b = first_is r start method others y.message ms.0 y.at ms.1 in
    let both : x.message ∷ a.rest ≡ y.message ∷ b.rest = sym a.are ∙ b.are in
    let message : x.message ≡ y.message = cc in
    let next : Some p ≡ Some q = sym x.next ∙ ap (λ (n : AnswerMessage). next_start n.body) message ∙ y.next in
    record {
      place = let is : p ≡ q = cc in is;
      left = x.left_is ∙ ap (λ (n : AnswerMessage). left_waiting is_interim n.reading method others) message ∙ sym y.left_is;
    }

leads_once : (r : Received) (methods : List (List ℕ)) (outs : List ReadAnswer) (p q : ℕ) (l m : List (List ℕ)) → Leads r methods outs p l → Leads r methods outs q m
    → SameWay p q l m
leads_once r methods [] p q l m x y = record { place = x.0 ∙ sym y.0; left = x.1 ∙ sym y.1 }
leads_once r methods (h ∷ before) p q l m (start, method, others, leads, x) (start', method', others', leads', y) =
    let same = leads_once r methods before start start' (method ∷ others) (method' ∷ others') leads leads' in
    let first : start ≡ start' = same.place in
    let waits : method ∷ others ≡ method' ∷ others' = same.left in
    let method_is : method ≡ method' = cc in
    let others_is : others ≡ others' = cc in
    same_read r h start method others p q l m x
    (subst (λ (n : ℕ). IsRead r h n method others q m) (sym first)
    (subst (λ (name : List ℕ). IsRead r h start' name others q m) (sym method_is)
    (subst (λ (names : List (List ℕ)). IsRead r h start' method' names q m) (sym others_is) y)))

-- ---- the messages of those that were handed out between two places

-- an interim answer, which is passed over
record IsInterim (m : AnswerMessage) : Type 0 where
  answer : Answer
  reading : m.reading ≡ answer_is answer
  good : is_out answer ≡ false
  interim : is_interim answer.status ≡ true

-- where all were passed over, so are their messages
record Span (r : Received) (from : ℕ) (waits : List (List ℕ)) (news : List ReadAnswer) (to : ℕ) (left : List (List ℕ)) : Type 0 where
  first : List AnswerMessage
  are_first : AreAnswersFrom is_interim r from waits first
  messages : List AnswerMessage
  rest : List AnswerMessage
  are_rest : AreAnswersFrom is_interim r to left rest
  split : first ≡ messages ++ rest
  interims : AllByRecursion IsPassedOver news → AllByRecursion IsInterim messages

one_more : (ms : List AnswerMessage) (m : AnswerMessage) → AllByRecursion IsInterim ms → IsInterim m → AllByRecursion IsInterim (ms ++ m ∷ [])
one_more [] m all x = (x, tt)
one_more (n ∷ ms) m all x = (all.0, one_more ms m all.1 x)

span : (r : Received) (size : ℕ) (methods : List (List ℕ)) (news outs : List ReadAnswer) (from to : ℕ) (waits left : List (List ℕ)) → Leads r methods outs from waits
    → Leads r methods (news ++ outs) to left → Span r from waits news to left
span r size methods [] outs from to waits left x y =
    let same = leads_once r methods outs from to waits left x y in
    let ms = answers_exist_from is_interim r 0 methods in
    let b = split_at r size methods outs from waits ms.0 x ms.1 in
    record {
      first = b.rest;
      are_first = b.are;
      messages = [];
      rest = b.rest;
      are_rest = subst (λ (p : ℕ). AreAnswersFrom is_interim r p left b.rest) same.place
          (subst (λ (l : List (List ℕ)). AreAnswersFrom is_interim r from l b.rest) same.left b.are);
      split = refl;
      interims = λ all. tt;
    }
span r size methods (h ∷ news) outs from to waits left x (start, method, others, leads, y) =
    let earlier = span r size methods news outs from start waits (method ∷ others) x leads in
    let first = first_is r start method others y.message earlier.rest y.at earlier.are_rest in
    record {
      first = earlier.first;
      are_first = earlier.are_first;
      messages = earlier.messages ++ y.message ∷ [];
      rest = first.rest;
      are_rest = subst (λ (l : List (List ℕ)). AreAnswersFrom is_interim r to l first.rest) (sym y.left_is)
          (subst (λ (o : Option ℕ). MatchOption o (first.rest ≡ []) (λ next. AreAnswersFrom is_interim r next (left_waiting is_interim y.message.reading method others) first.rest))
          y.next first.follow);
      split =
          earlier.split ∙ ap (λ (l : List AnswerMessage). earlier.messages ++ l) first.are
          ∙ sym (append_assoc earlier.messages (y.message ∷ []) first.rest);
      interims = λ all.
          one_more earlier.messages y.message (earlier.interims all.1)
          (record { answer = all.0.answer; reading = sym y.is.reading ∙ all.0.reading; good = all.0.good; interim = all.0.interim });
    }

-- ---- the answer that is found

-- a list that was mapped is split where its image is
record Parts (f : AnswerMessage → AnswerMessage) (xs before : List AnswerMessage) (m : AnswerMessage) (after : List AnswerMessage) : Type 0 where
  front : List AnswerMessage
  here : AnswerMessage
  back : List AnswerMessage
  are : xs ≡ front ++ here ∷ back
  fronts : map f front ≡ before
  is : f here ≡ m

split_map : (f : AnswerMessage → AnswerMessage) (xs before : List AnswerMessage) (m : AnswerMessage) (after : List AnswerMessage) → map f xs ≡ before ++ m ∷ after
    → Parts f xs before m after
split_map f [] [] m after e = let no : [] ≡ m ∷ after = e in absurd (cc no)
split_map f [] (n ∷ before) m after e = let no : [] ≡ n ∷ (before ++ m ∷ after) = e in absurd (cc no)
split_map f (x ∷ xs) [] m after e =
    let whole : f x ∷ map f xs ≡ m ∷ after = e in
    let same : f x ≡ m = cc in
    record { front = []; here = x; back = xs; are = refl; fronts = refl; is = same }
split_map f (x ∷ xs) (n ∷ before) m after e =
    let whole : f x ∷ map f xs ≡ n ∷ (before ++ m ∷ after) = e in
    let first : f x ≡ n = cc in
    let rest : map f xs ≡ before ++ m ∷ after = cc in
    let p = split_map f xs before m after rest in
    record {
      front = x ∷ p.front;
      here = p.here;
      back = p.back;
      are = ap (λ (ys : List AnswerMessage). x ∷ ys) p.are;
      fronts = ap (λ (y : AnswerMessage). y ∷ map f p.front) first ∙ ap (λ (ys : List AnswerMessage). n ∷ ys) p.fronts;
      is = p.is;
    }

interims_back : (place : ℕ) (ms ns : List AnswerMessage) → map (moved_answer place) ms ≡ ns → AllByRecursion IsInterim ns → AllByRecursion IsInterim ms
interims_back place [] ns e all = tt
interims_back place (m ∷ ms) [] e all = let no : moved_answer place m ∷ map (moved_answer place) ms ≡ [] = e in absurd (cc no)
interims_back place (m ∷ ms) (n ∷ ns) e all =
    let whole : moved_answer place m ∷ map (moved_answer place) ms ≡ n ∷ ns = e in
    let first : moved_answer place m ≡ n = cc in
    let rest : map (moved_answer place) ms ≡ ns = cc in (
      record { answer = all.0.answer; reading = ap (λ (x : AnswerMessage). x.reading) first ∙ all.0.reading; good = all.0.good; interim = all.0.interim },
      interims_back place ms ns rest all.1,
    )

passes_all : (s : Received) (at : ℕ) (ms tail : List AnswerMessage) → AllByRecursion IsInterim ms → (to : ℕ) × (found_from s at (ms ++ tail) ≡ found_from s to tail)
passes_all s at [] tail all = (at, refl)
passes_all s at (m ∷ ms) tail all =
    let next = unwrap_or (next_start m.body) at in
    let further = passes_all s next ms tail all.1 in (
      further.0,
      ap (λ (reading : AnswerReading). found_by s reading m.body (found_from s next (ms ++ tail))) all.0.reading
          ∙ chosen_later (is_out all.0.answer) (is_interim all.0.answer.status) (found_from s next (ms ++ tail)) (found_body s all.0.answer m.body) all.0.good all.0.interim
          ∙ further.1,
    )

-- ---- none is found

none_there : (r : Received) (place : ℕ) (left : List (List ℕ)) (ms : List AnswerMessage) → HasNoHeadPiece (drop place r.bytes)
    → AreAnswersFrom is_interim r place left ms → ms ≡ []
none_there r place left [] bare are = refl
none_there r place [] (m ∷ ms) bare are = let no : m ∷ ms ≡ [] = are in absurd (cc no)
none_there r place (method ∷ left) (m ∷ ms) bare are = absurd (bare are.0.start are.0.end are.0.piece)

-- where only such were handed out that are passed over, and no whole head stands behind them
pub nothing_found : (r : Received) (size : ℕ) (methods : List (List ℕ)) (outs news : List ReadAnswer) (from to : ℕ) (method : List ℕ) (left : List (List ℕ)) (found : Found)
    → from ≤ length r.bytes → Leads r methods outs from (method ∷ []) → Leads r methods (news ++ outs) to left → AllByRecursion IsPassedOver news
    → HasNoHeadPiece (drop to r.bytes) → IsAnswer (record r { bytes = drop from r.bytes }) method found
    → (at : ℕ) × (found ≡ found_nothing (record r { bytes = drop from r.bytes }) at)
nothing_found r size methods outs news from to method left found within x leads passed bare y =
    let s : Received = record r { bytes = drop from r.bytes } in
    let sp = span r size methods news outs from to (method ∷ []) left x leads in
    let none = none_there r to left sp.rest bare sp.are_rest in
    let local = answers_are_of_rest is_interim r from (method ∷ []) sp.first within sp.are_first in
    let are : map (moved_answer from) local.0 ≡ sp.messages =
    sym local.2 ∙ sp.split ∙ ap (λ (l : List AnswerMessage). sp.messages ++ l) none ∙ append-nil sp.messages in
    let passes = passes_all s 0 local.0 [] (interims_back from local.0 sp.messages are (sp.interims passed)) in (
      passes.0,
      answer_unique s method found (found_from s 0 local.0) y (local.0, local.1, refl)
          ∙ ap (found_from s 0) (sym (append-nil local.0)) ∙ passes.1,
    )

-- it is whole, and ends there
pub record IsFoundWhole (a : Answer) (found : Found) (from to : ℕ) : Type 0 where
  pub head : found.response ≡ Some a
  pub end : ℕ
  pub whole : found.fate ≡ whole_at end
  pub ends : from + end ≡ to

ends_in : (s : Received) (a : Answer) (b : Body) (end : ℕ) → next_start b ≡ Some end → ((found_body s a b).response ≡ Some a) × ((found_body s a b).fate ≡ whole_at end)
ends_in s a no_content end e = let no : ◌≡◌ {A = Option ℕ} None (Some end) = e in absurd (cc no)
ends_in s a (frames placed fail) end e = let no : ◌≡◌ {A = Option ℕ} None (Some end) = e in absurd (cc no)
ends_in s a (content runs still_open) end e = let no : ◌≡◌ {A = Option ℕ} None (Some end) = e in absurd (cc no)
ends_in s a (content runs broken) end e = let no : ◌≡◌ {A = Option ℕ} None (Some end) = e in absurd (cc no)
ends_in s a (content runs cut) end e = let no : ◌≡◌ {A = Option ℕ} None (Some end) = e in absurd (cc no)
ends_in s a (content runs (ended_at place trailers)) end e =
    let whole : Some place ≡ Some end = e in
    let same : place ≡ end = cc in
    (refl, ap whole_at same)

moved_end : (from to : ℕ) (o : Option ℕ) → option_map (λ (n : ℕ). from + n) o ≡ Some to → (end : ℕ) × (o ≡ Some end) × (from + end ≡ to)
moved_end from to None e = let no : ◌≡◌ {A = Option ℕ} None (Some to) = e in absurd (cc no)
moved_end from to (Some n) e =
    let whole : Some (from + n) ≡ Some to = e in
    let same : from + n ≡ to = cc in
    (n, refl, same)

pub ended_is_found : (r : Received) (size : ℕ) (methods : List (List ℕ)) (outs news : List ReadAnswer) (h : ReadAnswer) (from to : ℕ) (method : List ℕ) (left : List (List ℕ))
    (a : Answer) (found : Found) → from ≤ length r.bytes → Leads r methods outs from (method ∷ []) → Leads r methods ((h ∷ news) ++ outs) to left
    → AllByRecursion IsPassedOver news → h.reading ≡ answer_is a → is_out a ≡ false → is_interim a.status ≡ false
    → IsAnswer (record r { bytes = drop from r.bytes }) method found → IsFoundWhole a found from to
ended_is_found r size methods outs news h from to method left a found within x (start, waiting, others, leads, z) passed reading good final y =
    let s : Received = record r { bytes = drop from r.bytes } in
    let sp = span r size methods news outs from start (method ∷ []) (waiting ∷ others) x leads in
    let first = first_is r start waiting others z.message sp.rest z.at sp.are_rest in
    let local = answers_are_of_rest is_interim r from (method ∷ []) sp.first within sp.are_first in
    let parts = split_map (moved_answer from) local.0 sp.messages z.message first.rest
    (sym local.2 ∙ sp.split ∙ ap (λ (l : List AnswerMessage). sp.messages ++ l) first.are) in
    let passes = passes_all s 0 parts.front (parts.here ∷ parts.back) (interims_back from parts.front sp.messages parts.fronts (sp.interims passed)) in
    let is_read : parts.here.reading ≡ answer_is a = ap (λ (m : AnswerMessage). m.reading) parts.is ∙ sym z.is.reading ∙ reading in
    let later = found_from s (unwrap_or (next_start parts.here.body) passes.0) parts.back in
    let is : found ≡ found_body s a parts.here.body =
    answer_unique s method found (found_from s 0 local.0) y (local.0, local.1, refl)
    ∙ ap (found_from s 0) parts.are
    ∙ passes.1
    ∙ ap (λ (reading : AnswerReading). found_by s reading parts.here.body later) is_read
    ∙ chosen_here (is_out a) (is_interim a.status) later (found_body s a parts.here.body) good final in
    let end = moved_end from to (next_start parts.here.body)
    (sym (moved_next from parts.here.body) ∙ ap (λ (m : AnswerMessage). next_start m.body) parts.is ∙ z.next) in
    let there = ends_in s a parts.here.body end.0 end.1 in
    record {
      head = ap (λ (f : Found). f.response) is ∙ there.0;
      end = end.0;
      whole = ap (λ (f : Found). f.fate) is ∙ there.1;
      ends = end.2;
    }

-- where nothing is left to read, all bytes since then are the answer's
pub whole_all : (bytes : List ℕ) (a : Answer) (found : Found) (from : ℕ) → IsFoundWhole a found from (length bytes)
    → found.fate ≡ whole_at (length (drop from bytes))
whole_all bytes a found from x =
    let ends = x.ends in
    let left = length-drop from bytes in
    let same : x.end ≡ length (drop from bytes) = omega (arith, ends, left) in
    x.whole ∙ ap whole_at same
