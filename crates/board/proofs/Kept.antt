-- What was asked and answered, after one request or one answer more.
use Rattle.std.proofs.Common.{◌≡◌, ◌<◌, ℕ, Bool, true, false, Option, Some, None, List, [], ◌∷◌, ◌++◌, map, inl, refl, sym, ap, ◌∙◌, subst, append-nil}
use Rattle.std.specs.Prelude.{Ok, is_some}
use Rattle.std.proofs.lemmas.List.{map-append}
use Rattle.http_types.specs.Response.{FullResponse}
use Rattle.board.specs.declared.command.Command.{Command}
use Rattle.board.specs.declared.command.Entry.{Entry}
use Rattle.board.specs.Table.{command_of}
use Rattle.board.specs.Views.{Held}
use Rattle.board.specs.Answers.{Asking, Pair, Answered, AllAnswered, MayHaveCalled}
use Rattle.board.specs.Work.{Worked, Went, InOrder, IsKept, answered_of}

-- one answer more
pub all_more : (number : ℕ) (pairs : List Pair) (p : Pair) (a b c : List Entry) → AllAnswered number pairs a b → Answered number p b c → AllAnswered number (pairs ++ p ∷ []) a c
all_more number [] p a b c all last = (c, subst (λ x. Answered number p x c) all last, refl)
all_more number (q ∷ pairs) p a b c all last = (all.0, all.1, all_more number pairs p all.0 b c all.2 last)

pub answered_more : (pairs : List Pair) (p : Pair) → answered_of (pairs ++ p ∷ []) ≡ answered_of pairs ++ Ok p.1 ∷ []
answered_more pairs p = map-append (λ q. Ok q.1) pairs (p ∷ [])

-- ---- a request comes

-- a request that came, as it is noted
abbrev Call : Type 0
Call = Asking × Unit {0}

may_stay : (number : ℕ) (command : Option Command) (a b : List Entry) → b ≡ a → MayHaveCalled number command a b
may_stay number None a b is = is
may_stay number (Some command) a b is = inl is

went_first : (broken : Bool) (number : ℕ) (r : Asking) (a b : List Entry) → Went broken number None a b → Went broken number (Some r) a b
went_first false number r a b is = is
went_first true number r a b is = may_stay number (command_of r.head) a b is

order_first : (calls : List Asking) (answers : List Pair) (r : Asking) → InOrder false calls answers None → InOrder false (calls ++ r ∷ []) answers (Some r)
order_first calls answers r order = ap (λ l. l ++ r ∷ []) (order ∙ append-nil (map (λ p. p.0) answers))

called_more : (calls : List Call) (p : Call) → map {A = Call} {B = Asking} (λ q. q.0) (calls ++ p ∷ []) ≡ map {A = Call} {B = Asking} (λ q. q.0) calls ++ p.0 ∷ []
called_more [] p = refl
called_more (q ∷ calls) p = ap (λ l. q.0 ∷ l) (called_more calls p)

pub none_of : {A : Type 0} (o : Option A) → is_some o ≡ false → o ≡ None
none_of None is = refl
none_of (Some x) is = cc

-- where none waits
pub kept_first : (w : Worked) (r : Asking) (before items : List Call) → w.calls ≡ map {A = Call} {B = Asking} (λ q. q.0) before → items ≡ before ++ (r, tt) ∷ [] → w.is_lost ≡ false → w.waiting ≡ None → IsKept w
    → IsKept (record { pass = w.pass; waiting = Some r; is_lost = w.is_lost; is_broken = w.is_broken; waits = w.waits; calls = map {A = Call} {B = Asking} (λ q. q.0) items; answers = w.answers })
kept_first w r before items were is lost none kept =
    let order = subst (λ o. InOrder false w.calls w.answers o) none (subst (λ b. InOrder b w.calls w.answers w.waiting) lost kept.order) in
    let longer : w.calls ++ r ∷ [] ≡ map {A = Call} {B = Asking} (λ q. q.0) items =
    ap (λ l. l ++ r ∷ []) were ∙ sym (called_more before (r, tt)) ∙ ap (map {A = Call} {B = Asking} (λ q. q.0)) (sym is) in
    record {
      entries = kept.entries;
      answered = kept.answered;
      went = went_first w.is_broken w.pass.number r kept.entries w.pass.entries (subst (λ o. Went w.is_broken w.pass.number o kept.entries w.pass.entries) none kept.went);
      order = subst (λ l. InOrder w.is_lost l w.answers (Some r)) longer (subst (λ b. InOrder b (w.calls ++ r ∷ []) w.answers (Some r)) (sym lost) (order_first w.calls w.answers r order));
      told = kept.told;
    }

-- ---- an answer

pub order_answered : (calls : List Asking) (answers : List Pair) (r : Asking) (response : FullResponse Unit) → InOrder false calls answers (Some r) → InOrder false calls (answers ++ (r, response) ∷ []) None
order_answered calls answers r response order =
    order ∙ sym (map-append (λ p. p.0) answers ((r, response) ∷ [])) ∙ sym (append-nil (map (λ p. p.0) (answers ++ (r, response) ∷ [])))

pub kept_answered : (w : Worked) (r : Asking) (response : FullResponse Unit) (pass : Held) → w.is_lost ≡ false → w.is_broken ≡ false → w.waiting ≡ Some r → pass.number ≡ w.pass.number
    → Answered w.pass.number (r, response) w.pass.entries pass.entries → IsKept w
    → IsKept (record { pass = pass; waiting = None; is_lost = w.is_lost; is_broken = w.is_broken; waits = w.waits; calls = w.calls; answers = w.answers ++ (r, response) ∷ [] })
kept_answered w r response pass lost broken waits number says kept =
    let went : w.pass.entries ≡ kept.entries = subst (λ b. Went b w.pass.number w.waiting kept.entries w.pass.entries) broken kept.went in
    let order = subst (λ o. InOrder false w.calls w.answers o) waits (subst (λ b. InOrder b w.calls w.answers w.waiting) lost kept.order) in
    let all = all_more w.pass.number w.answers (r, response) [] kept.entries pass.entries kept.answered (subst (λ e. Answered w.pass.number (r, response) e pass.entries) went says) in
    record {
      entries = pass.entries;
      answered = subst (λ n. AllAnswered n (w.answers ++ (r, response) ∷ []) [] pass.entries) (sym number) all;
      went = subst (λ b. Went b pass.number None pass.entries pass.entries) (sym broken) refl;
      order = subst (λ b. InOrder b w.calls (w.answers ++ (r, response) ∷ []) None) (sym lost) (order_answered w.calls w.answers r response order);
      told = kept.told;
    }

-- memory ran out
pub kept_broken : (w : Worked) (r : Asking) (pass : Held) (waits : ℕ) → w.is_lost ≡ false → w.is_broken ≡ false → w.waiting ≡ Some r → pass.number ≡ w.pass.number
    → MayHaveCalled w.pass.number (command_of r.head) w.pass.entries pass.entries → 0 < waits → IsKept w
    → IsKept (record { pass = pass; waiting = Some r; is_lost = w.is_lost; is_broken = true; waits = waits; calls = w.calls; answers = w.answers })
kept_broken w r pass waits lost broken is number says some kept =
    let went : w.pass.entries ≡ kept.entries = subst (λ b. Went b w.pass.number w.waiting kept.entries w.pass.entries) broken kept.went in
    record {
      entries = kept.entries;
      answered = subst (λ n. AllAnswered n w.answers [] kept.entries) (sym number) kept.answered;
      went = subst (λ n. MayHaveCalled n (command_of r.head) kept.entries pass.entries) (sym number) (subst (λ e. MayHaveCalled w.pass.number (command_of r.head) e pass.entries) went says);
      order = subst (λ o. InOrder w.is_lost w.calls w.answers o) is kept.order;
      told = λ broke. some;
    }

-- nothing is answered
pub kept_waits : (w : Worked) (waits : ℕ) → 0 < waits → IsKept w
    → IsKept (record { pass = w.pass; waiting = w.waiting; is_lost = w.is_lost; is_broken = w.is_broken; waits = waits; calls = w.calls; answers = w.answers })
kept_waits w waits some kept = record { entries = kept.entries; answered = kept.answered; went = kept.went; order = kept.order; told = λ broke. some }
