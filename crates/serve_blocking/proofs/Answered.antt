-- Answers, piece by piece.
use Rattle.std.specs.Prelude.{◌≡◌, ◌⊎◌, ℕ, Bool, true, false, if◌then◌else◌, List, [], ◌∷◌, ◌++◌, length, map, flat_map}
use Rattle.std.proofs.Common.{refl, sym, ap, subst, ◌∙◌, append-nil, inl, inr}
use Rattle.std.proofs.lemmas.List.{map-append}
use Rattle.std.proofs.lemmas.List.Concat.{flat_map-append}
use Rattle.model_h1.specs.Answer.{AnswerHead, BodySize, size_of}
use Rattle.model_h1.specs.Event as on
use Rattle.model_h1.specs.Event.{Event}
use Rattle.model_h1.specs.Sums.{Step}
use Rattle.serve_blocking.specs.Served.{Line, Follows, Adds}
use Rattle.serve_blocking.specs.Acts.{Doing, Does, Waits, Drops, ArePulls, IsBegun, Begins, AreHandedIn, Sends, SendsSome, IsEnd, IsAnswer, Answers, IsPart, AnswersPart, handing, may, step, where_may}
use Rattle.serve_blocking.proofs.Waited.{doing_then, doing_as, doing_follow, does_none, then_doing, adds_does, waits_do}
use Rattle.serve_blocking.proofs.Dropped.{drops_do}

-- ---- an event where it is allowed

-- it was, and came
pub does_where : (was a b : Line) (e : Event) → Does [] was a → may was.state e ≡ true → Does (step e ∷ []) a b → Does (where_may was.state e) was b
does_where was a b e first allowed came =
    doing_then (λ (l : List Step). l ≡ []) (λ (l : List Step). l ≡ step e ∷ []) (λ (l : List Step). l ≡ where_may was.state e) was a b
    (λ xs ys none is.
    ap (λ (l : List Step). l ++ ys) none ∙ is ∙ sym (ap (λ (m : Bool). if m then step e ∷ [] else []) allowed))
    first came

-- it wasn't
pub does_nowhere : (was a : Line) (e : Event) → may was.state e ≡ false → Does [] was a → Does (where_may was.state e) was a
does_nowhere was a e forbidden first =
    doing_as (λ (l : List Step). l ≡ []) (λ (l : List Step). l ≡ where_may was.state e) was a
    (λ xs is. is ∙ sym (ap (λ (m : Bool). if m then step e ∷ [] else []) forbidden))
    first

pub nothing_then : (a b c : Line) → Does [] a b → Does [] b c → Does [] a c
nothing_then a b c first second =
    doing_then (λ (l : List Step). l ≡ []) (λ (l : List Step). l ≡ []) (λ (l : List Step). l ≡ []) a b c
    (λ xs ys one two. ap (λ (l : List Step). l ++ ys) one ∙ two) first second

-- whether it is allowed, of what a value is seen as
pub seen_may : (was a : Line) (e : Event) (m n : Bool) → a ≡ was → m ≡ may a.state e → m ≡ n → may was.state e ≡ n
seen_may was a e m n seen is known = sym (ap (λ (l : Line). may l.state e) seen) ∙ sym is ∙ known

-- ---- pieces

none_handed : (xs : List Step) → xs ≡ [] → AreHandedIn [] xs
none_handed xs none = record { pieces = []; are = none; joined = refl }

one_handed : (bytes : List ℕ) (xs : List Step) → xs ≡ handing bytes ∷ [] → AreHandedIn bytes xs
one_handed bytes xs is = record { pieces = bytes ∷ []; are = is; joined = append-nil bytes }

both_handed : (bs cs : List ℕ) (xs ys : List Step) → AreHandedIn bs xs → AreHandedIn cs ys → AreHandedIn (bs ++ cs) (xs ++ ys)
both_handed bs cs xs ys x y = record {
  pieces = x.pieces ++ y.pieces;
  are = ap (λ (l : List Step). l ++ ys) x.are ∙ ap (λ (l : List Step). map handing x.pieces ++ l) y.are ∙ sym (map-append handing x.pieces y.pieces);
  joined = flat_map-append (λ (p : List ℕ). p) x.pieces y.pieces
      ∙ ap (λ (l : List ℕ). l ++ flat_map (λ (p : List ℕ). p) y.pieces) x.joined
      ∙ ap (λ (l : List ℕ). bs ++ l) y.joined;
}

pub sends_none : (a : Line) → Sends [] a a
sends_none a = doing_as (λ (l : List Step). l ≡ []) (AreHandedIn []) a a none_handed (does_none a)

-- there was room, and then the piece came
pub sends_one : (bytes : List ℕ) (a b c : Line) → Waits a b → Adds (on.chunk bytes) on.done b c → Sends bytes a c
sends_one bytes a b c waits adds =
    then_doing (AreHandedIn bytes) a b c waits
    (doing_as (λ (l : List Step). l ≡ handing bytes ∷ []) (AreHandedIn bytes) b c (one_handed bytes) (adds_does (on.chunk bytes) on.done b c refl adds))

pub sends_then : (bs cs : List ℕ) (a b c : Line) → Sends bs a b → Sends cs b c → Sends (bs ++ cs) a c
sends_then bs cs a b c first second =
    doing_then (AreHandedIn bs) (AreHandedIn cs) (AreHandedIn (bs ++ cs)) a b c (both_handed bs cs) first second

pub sends_wait : (bytes : List ℕ) (a b c : Line) → Sends bytes a b → Waits b c → Sends bytes a c
sends_wait bytes a b c sends waits =
    subst (λ (l : List ℕ). Sends l a c) (append-nil bytes)
    (sends_then bytes [] a b c sends (doing_as (λ (l : List Step). l ≡ []) (AreHandedIn []) b c none_handed (waits_do b c waits)))

pub sends_as : (bs cs : List ℕ) (a b : Line) → bs ≡ cs → Sends bs a b → Sends cs a b
sends_as bs cs a b is sends = subst (λ (l : List ℕ). Sends l a b) is sends

pub sends_follow : (bytes : List ℕ) (a b : Line) → Sends bytes a b → Follows a b
sends_follow bytes a b sends = doing_follow (AreHandedIn bytes) a b sends

pub some_follow : (bytes : List ℕ) (a b : Line) → SendsSome bytes a b → Follows a b
some_follow bytes a b some = sends_follow some.sent a b some.sends

-- ---- an answer

-- its head was handed in, all its bytes, and its end
end_where : (m : Bool) (b c : Line) (xs : List Step) → may b.state on.body_end ≡ m → xs ≡ where_may b.state on.body_end
    → (may b.state on.body_end ≡ false → c ≡ b) → IsEnd c xs
end_where true b c xs is made kept = inl (made ∙ ap (λ (m : Bool). if m then step on.body_end ∷ [] else []) is)
end_where false b c xs is made kept = inr (
  made ∙ ap (λ (m : Bool). if m then step on.body_end ∷ [] else []) is,
  subst (λ (l : Line). may l.state on.body_end ≡ false) (sym (kept is)) is,
)

-- the head and all bytes, and no end yet
record IsUnended (head : AnswerHead) (bytes : List ℕ) (sent : List ℕ) (old : Line) (made : List Step) : Type 0 where
  pub begun : List Step
  pub middle : List Step
  pub begins : IsBegun head (size_of (length bytes)) old begun
  pub body : AreHandedIn sent middle
  pub is : made ≡ begun ++ middle

unended : (head : AnswerHead) (bytes sent : List ℕ) (old a b : Line) → Begins head (size_of (length bytes)) old a → Sends sent a b
    → Doing (IsUnended head bytes sent old) old b
unended head bytes sent old a b begins sends =
    doing_then (IsBegun head (size_of (length bytes)) old) (AreHandedIn sent) (IsUnended head bytes sent old) old a b
    (λ xs ys begun body. record { begun = xs; middle = ys; begins = begun; body = body; is = refl })
    begins sends

pub answers_here : (head : AnswerHead) (bytes : List ℕ) (old a b c : Line) → Begins head (size_of (length bytes)) old a → Sends bytes a b
    → Does (where_may b.state on.body_end) b c → (may b.state on.body_end ≡ false → c ≡ b) → Answers head bytes old c
answers_here head bytes old a b c begins sends ends kept =
    doing_then (IsUnended head bytes bytes old) (λ (l : List Step). l ≡ where_may b.state on.body_end) (IsAnswer head bytes old c) old b c
    (λ xs ys part made. record {
      begun = part.begun;
      middle = part.middle;
      last = ys;
      begins = part.begins;
      body = part.body;
      ends = end_where (may b.state on.body_end) b c ys refl made kept;
      is = ap (λ (l : List Step). l ++ ys) part.is;
    })
    (unended head bytes bytes old a b begins sends) ends

-- a head that is the whole answer
pub answers_empty : (head : AnswerHead) (old a b : Line) → Begins head (size_of 0) old a → Does (where_may a.state on.body_end) a b
    → (may a.state on.body_end ≡ false → b ≡ a) → Answers head [] old b
answers_empty head old a b begins ends kept = answers_here head [] old a a b begins (sends_none a) ends kept

-- ---- a part of an answer

pub part_none : (head : AnswerHead) (bytes : List ℕ) (old a : Line) → Drops old a → AnswersPart head bytes old a
part_none head bytes old a drops =
    doing_as ArePulls (λ (l : List Step). ArePulls l ⊎ IsPart head bytes old l) old a (λ xs pulls. inl pulls) (drops_do old a drops)

pub part_some : (head : AnswerHead) (bytes : List ℕ) (old a b : Line) → Begins head (size_of (length bytes)) old a → SendsSome bytes a b
    → AnswersPart head bytes old b
part_some head bytes old a b begins some =
    doing_as (IsUnended head bytes some.sent old) (λ (l : List Step). ArePulls l ⊎ IsPart head bytes old l) old b
    (λ xs part. inr (record {
      begun = part.begun;
      middle = part.middle;
      sent = some.sent;
      rest = some.rest;
      begins = part.begins;
      body = part.body;
      are_first = some.are_first;
      is = part.is;
    }))
    (unended head bytes some.sent old a b begins some.sends)

-- all its bytes were handed in, and its end wasn't
pub part_unended : (head : AnswerHead) (bytes : List ℕ) (old a b c : Line) → Begins head (size_of (length bytes)) old a → Sends bytes a b → c ≡ b
    → AnswersPart head bytes old c
part_unended head bytes old a b c begins sends same =
    part_some head bytes old a c begins
    (record { sent = bytes; rest = []; are_first = append-nil bytes; sends = subst (λ (l : Line). Sends bytes a l) (sym same) sends })

-- ---- what goes on

pub begins_follow : (head : AnswerHead) (size : BodySize) (old a : Line) → Begins head size old a → Follows old a
begins_follow head size old a begins = doing_follow (IsBegun head size old) old a begins

pub does_follow : (steps : List Step) (a b : Line) → Does steps a b → Follows a b
does_follow steps a b does = doing_follow (λ (l : List Step). l ≡ steps) a b does
