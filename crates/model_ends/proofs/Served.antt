-- What a server hands out of requests that were sent, of which the first bytes came, is what was sent.
use Rattle.std.proofs.Common.{◌≡◌, ℕ, ◌+◌, ◌<◌, ◌≤◌, Bool, true, false, List, [], ◌∷◌, ◌++◌, length, drop, IsSome, unwrap_or, refl, sym, ap, ap₂, ◌∙◌, subst, arith, append_assoc, length-append, length-drop, inl, inr}
use Rattle.std.specs.Prelude.{⊤, nat_le}
use Rattle.std.specs.List.{AllByRecursion}
use Rattle.std.proofs.lemmas.Bool.{false≢true, cases_lt, lt-leb}
use Rattle.std.proofs.lemmas.List.{drop_at, drop-append-le, drop-drop}
use Rattle.model_h1.specs.Runs.{run_bytes}
use Rattle.model_h1.specs.Request.{head_is}
use Rattle.model_h1.specs.Parse.{Input, Message, Body, content, next_start}
use Rattle.model_h1.specs.Event.{incomplete}
use Rattle.model_h1.specs.Handed.{Item, item_end, item_fault, Handed, Begins, body_bytes, stop_items, last_items, Agrees, IsPrefixFrom}
use Rattle.model_client.specs.RequestText.{joined}
use Rattle.model_ends.specs.SentAnswer.{stop_of}
use Rattle.model_ends.specs.SentRequest.{SentRequest, asked_text, has_come, IsBegunServed, AreBegunServed}
use Rattle.model_ends.specs.HandedBody.{IsStop, IsHandedBody}
use Rattle.model_ends.proofs.Rests.{nil_both}

-- a request that was sent to its end is handed out as it was sent
pub record IsServedSo (ended : Bool) (h : Handed) (s : SentRequest) : Type 0 where
  pub reading : h.reading ≡ head_is s.says
  pub body : IsHandedBody ended true s.bytes h.items

abbrev pub AreServedSo : Bool → List Handed → List SentRequest → Type 0
AreServedSo ended [] ss = ⊤
AreServedSo ended (h ∷ hs) [] = ⊥
AreServedSo ended (h ∷ hs) (s ∷ ss) = IsServedSo ended h s × AreServedSo ended hs ss

-- ---- one request

begins_both : (a b c : List ℕ) → Begins a b → Begins b c → Begins a c
begins_both a b c x y = (x.0 ++ y.0, y.1 ∙ ap (λ (l : List ℕ). l ++ y.0) x.1 ∙ append_assoc a x.0 y.0)

-- how its items stop
stops_at : (t e : Bool) (end : ℕ) (bytes : List ℕ) (pieces : List (List ℕ)) (last : List Item) → Begins last (stop_items (stop_of t e end))
    → (0 < length last → t ≡ true → joined pieces ≡ bytes) → IsStop e true bytes pieces last
stops_at t e end bytes pieces [] b all = tt
stops_at true e end bytes pieces (x ∷ last) b all =
    let first : item_end ≡ x = let is = b.1 in cc in
    let others : last ++ b.0 ≡ [] = let is = b.1 in cc in
    let none = nil_both_items last b.0 others in
    subst (λ (l : List Item). IsStop e true bytes pieces l) (ap₂ (λ (i : Item) (l : List Item). i ∷ l) first (sym none)) (refl, all (omega arith) refl)
  where
    nil_both_items : (a b : List Item) → a ++ b ≡ [] → a ≡ []
    nil_both_items [] b is = refl
    nil_both_items (y ∷ a) b is = cc
stops_at false true end bytes pieces (x ∷ last) b all =
    let first : item_fault incomplete ≡ x = let is = b.1 in cc in
    let others : last ++ b.0 ≡ [] = let is = b.1 in cc in
    let none = nil_both_items last b.0 others in
    subst (λ (l : List Item). IsStop true true bytes pieces l) (ap₂ (λ (i : Item) (l : List Item). i ∷ l) first (sym none)) refl
  where
    nil_both_items : (a b : List Item) → a ++ b ≡ [] → a ≡ []
    nil_both_items [] b is = refl
    nil_both_items (y ∷ a) b is = cc
stops_at false false end bytes pieces (x ∷ last) b all = let is = b.1 in absurd (cc is)

module _ (i : Input) (place : ℕ) (m : Message) (s : SentRequest) (b : IsBegunServed i place m s) where
  abbrev end : ℕ
  end = place + length s.head + length s.body

  pub served_so : (h : Handed) → Agrees i.bytes h m → IsServedSo i.ended h s
  served_so h agrees =
      let x = agrees.items in
      let all : body_bytes i.bytes m.body ≡ run_bytes i.bytes b.runs = ap (body_bytes i.bytes) b.body in
      let follow : Begins x.last (stop_items (stop_of (has_come i place s) i.ended end)) = subst (λ (y : Body). Begins x.last (last_items y)) b.body x.follow in
      record {
        reading = agrees.reading ∙ b.head;
        body = record {
          pieces = x.pieces;
          last = x.last;
          are = x.are;
          some = x.some;
          begins = begins_both (joined x.pieces) (run_bytes i.bytes b.runs) s.bytes (subst (Begins (joined x.pieces)) all x.begins) b.begins;
          stops = stops_at (has_come i place s) i.ended end s.bytes x.pieces x.last follow (λ some came. x.behind some ∙ all ∙ b.carried came);
        };
      }

  -- where another one follows all of it came
  pub came_whole : IsSome (next_start m.body) → (has_come i place s ≡ true) × (unwrap_or (next_start m.body) place ≡ end)
  came_whole some =
      by_test (has_come i place s) i.ended (subst (λ (y : Body). IsSome (next_start y)) b.body some)
      (ap (λ (y : Body). unwrap_or (next_start y) place) b.body)
    where
      by_test : (t e : Bool) → IsSome (next_start (content b.runs (stop_of t e end)))
          → unwrap_or (next_start m.body) place ≡ unwrap_or (next_start (content b.runs (stop_of t e end))) place
          → (t ≡ true) × (unwrap_or (next_start m.body) place ≡ end)
      by_test true e some is = (refl, is)
      by_test false true some is = absurd (false≢true some)
      by_test false false some is = absurd (false≢true some)

-- ---- all requests

pub within_of : (n m : ℕ) → nat_le n m ≡ true → n ≤ m
within_of n m is = elim (cases_lt m n) [
  | inl late ↦ absurd (false≢true (sym (lt-leb n m late) ∙ is))
  | inr early ↦ early
]

module _ (i : Input) (more : List ℕ) (some : 0 < i.hold_size) where
  pub next_text : (place : ℕ) (s : SentRequest) (ss : List SentRequest) → drop place i.bytes ++ more ≡ s.head ++ (s.body ++ asked_text ss)
      → has_come i place s ≡ true → drop (place + length s.head + length s.body) i.bytes ++ more ≡ asked_text ss
  next_text place s ss text came =
      let end = place + length s.head + length s.body in
      let n = length s.head + length s.body in
      let within : end ≤ length i.bytes = within_of end (length i.bytes) came in
      let rest = drop place i.bytes in
      let fits : n ≤ length rest = omega (arith, within, length-drop place i.bytes) in
      let two : drop end i.bytes ≡ drop n rest = ap (λ (k : ℕ). drop k i.bytes) (omega_sum place (length s.head) (length s.body)) ∙ sym (drop-drop n place i.bytes) in
      ap (λ (l : List ℕ). l ++ more) two ∙ sym (drop-append-le n rest more fits) ∙ ap (drop n) text
      ∙ ap (drop n) (sym (append_assoc s.head s.body (asked_text ss)))
      ∙ drop_at (s.head ++ s.body) (asked_text ss) n (length-append s.head s.body)
    where
      omega_sum : (a b c : ℕ) → a + b + c ≡ a + (b + c)
      omega_sum a b c = omega arith

  pub prefix_served : (place : ℕ) (hs : List Handed) (ms : List Message) (ss : List SentRequest) → drop place i.bytes ++ more ≡ asked_text ss
      → AllByRecursion (λ (s : SentRequest). length s.head ≤ i.hold_size) ss → IsPrefixFrom i.hold_size i.bytes place hs ms
      → AreBegunServed i place ms ss → AreServedSo i.ended hs ss
  prefix_served place [] ms ss text fits x y = tt
  prefix_served place (h ∷ []) [] [] text fits x y =
      let none = nil_both (drop place i.bytes) more text in absurd (omega (arith, some, x.1, ap length none.0))
  prefix_served place (h ∷ second ∷ others) [] ss text fits x y = absurd x
  prefix_served place (h ∷ []) [] (s ∷ ss) text fits x y = absurd (omega (arith, some, x.1, y, fits.0, length-drop place i.bytes))
  prefix_served place (h ∷ hs) (m ∷ ms) [] text fits x y = absurd y
  prefix_served place (h ∷ []) (m ∷ ms) (s ∷ ss) text fits x y = (served_so i place m s y.0 h x.0, tt)
  prefix_served place (h ∷ second ∷ others) (m ∷ ms) (s ∷ ss) text fits x y =
      let came = came_whole i place m s y.0 x.1.0 in (
        served_so i place m s y.0 h x.0,
        prefix_served (place + length s.head + length s.body) (second ∷ others) ms ss (next_text place s ss text came.0) fits.1
            (subst (λ (n : ℕ). IsPrefixFrom i.hold_size i.bytes n (second ∷ others) ms) came.1 x.2) y.1,
      )
