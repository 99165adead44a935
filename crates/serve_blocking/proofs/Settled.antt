-- How an answer's head is sent, and that an answer is begun.
use Rattle.std.specs.Prelude.{◌≡◌, ◌⊎◌, Bool, true, false, not, if◌then◌else◌, List, [], ◌∷◌, ◌++◌}
use Rattle.std.proofs.Common.{refl, ap, subst, inl, inr}
use Rattle.model_h1.specs.Answer.{AnswerHead, BodySize}
use Rattle.model_h1.specs.Event as on
use Rattle.model_h1.specs.Sums.{Step}
use Rattle.http_types.specs.ResponseHead.{ResponseParts}
use Rattle.http_types.specs.Flags.{with_type}
use Rattle.http_types.specs.declared.message.ConnectionType.TheVariants.{Close}
use Rattle.h1_encoder.specs.Meaning.{answer_of}
use Rattle.h1_payload.specs.declared.pulled.Pulled.{Pulled}
use Rattle.h1_payload.specs.declared.pulled.Pulled.TheVariants as pulled
use Rattle.serve_blocking.specs.Served.{Line, Adds}
use Rattle.serve_blocking.specs.Acts.{Doing, Waits, Drops, DropsAll, PassesOver, ArePulls, IsPulled, Pulls, Says, IsBegun, Begins, given_behind, has_last, is_last, may, step}
use Rattle.serve_blocking.proofs.Waited.{doing_then, doing_as, does_equal, doing_wait, adds_does}
use Rattle.serve_blocking.proofs.Dropped.{drops_do, no_pulls, are_pulls, pulls_both}

-- ---- the head

-- the answer says that the connection ends with it, or it doesn't have to
pub says_closing : (old : Line) (head sent : ResponseParts) → sent ≡ record head { flags = with_type head.flags Close }
    → (old.closes ≡ false → (old.wanted ≡ true) ⊎ (may old.state on.drop_body ≡ false) → true ≡ false) → Says old (answer_of head) (answer_of sent)
says_closing old head sent is stays = record {
  is = inr (ap answer_of is);
  closes = λ holds. ap answer_of is;
  stays = λ fails left. absurd (cc (stays fails left));
}

pub says_same : (old : Line) (head sent : ResponseParts) → sent ≡ head → (old.closes ≡ true → false ≡ true) → Says old (answer_of head) (answer_of sent)
says_same old head sent is closes = record {
  is = inl (ap answer_of is);
  closes = λ holds. absurd (cc (closes holds));
  stays = λ fails left. ap answer_of is;
}

-- the body is wanted, or nothing of it may be pulled; and it is neither
pub never : (P : Type 0) (was a : Line) → a ≡ was → a.wanted ≡ false → may a.state on.drop_body ≡ true → (was.wanted ≡ true) ⊎ (may was.state on.drop_body ≡ false) → P
never P was a seen unwanted allowed (inl wanted) = let same : a.wanted ≡ was.wanted = ap (λ (l : Line). l.wanted) seen in absurd (cc (same, unwanted, wanted))
never P was a seen unwanted allowed (inr none) =
    let same : may a.state on.drop_body ≡ may was.state on.drop_body = ap (λ (l : Line). may l.state on.drop_body) seen in absurd (cc (same, allowed, none))

-- ---- a body that is passed over

pub passed_where : (x : Bool) (was new : Line) → (x ≡ true → DropsAll was new) → not x ≡ false → PassesOver was new
passed_where true was new passed is = inr (inr (passed refl))
passed_where false was new passed is = absurd (cc is)

-- the head says that the connection ends
pub marked : (P : Type 0) (head new : ResponseParts) → new ≡ record head { flags = with_type head.flags Close } → new.flags.close ≡ false → P
marked P head new is unmarked = let mark : new.flags.close ≡ true = ap (λ (h : ResponseParts). h.flags.close) is in absurd (cc (mark, unmarked))

last_if : (b m : Bool) → m ≡ true → (if b then true else m) ≡ true
last_if true m is = refl
last_if false m is = is

last_behind : (xs ys : List Step) → has_last ys ≡ true → has_last (xs ++ ys) ≡ true
last_behind [] ys is = is
last_behind (s ∷ xs) ys is = last_if (is_last s.outcome) (has_last (xs ++ ys)) (last_behind xs ys is)

last_pull : (p : Pulled) (xs : List Step) → given_behind p false ≡ true → IsPulled p xs → has_last xs ≡ true
last_pull (pulled.Bytes bytes) xs is made = absurd (cc is)
last_pull (pulled.Trailers trailers) xs is made = ap has_last made.2
last_pull pulled.End xs is made = ap has_last made
last_pull (pulled.Broken fault) xs is made = absurd (cc is)
last_pull pulled.Pending xs is made = absurd (cc is)

-- its trailers or its end came
pub ended_by : (p q : Pulled) (a b c : Line) → p ≡ q → given_behind q false ≡ true → Drops a b → Pulls p b c → DropsAll a c
ended_by p q a b c is last drops pulls =
    doing_then ArePulls (IsPulled q) (λ (l : List Step). ArePulls l × (has_last l ≡ true)) a b c
    (λ xs ys first second. (pulls_both xs ys first (are_pulls q ys second), last_behind xs ys (last_pull q ys last second)))
    (drops_do a b drops) (subst (λ (x : Pulled). Pulls x b c) is pulls)

-- ---- the beginning

-- what was dropped before an answer: nothing where the body is wanted, and all of it where it has to be
record AreDropped (old : Line) (sent : AnswerHead) (made : List Step) : Type 0 where
  pub are_pulls : ArePulls made
  pub wanted : old.wanted ≡ true → made ≡ []
  pub passed : sent.closes ≡ false → (old.wanted ≡ true) ⊎ (may old.state on.drop_body ≡ false) ⊎ (has_last made ≡ true)

dropped_by : (old a : Line) (sent : AnswerHead) → old.wanted ≡ false → Drops old a → PassesOver old a → Doing (AreDropped old sent) old a
dropped_by old a sent is drops (inl wanted) = absurd (cc (wanted, is))
dropped_by old a sent is drops (inr (inl none)) =
    doing_as ArePulls (AreDropped old sent) old a
    (λ xs pulls. record { are_pulls = pulls; wanted = λ holds. absurd (cc (holds, is)); passed = λ unmarked. inr (inl none) })
    (drops_do old a drops)
dropped_by old a sent is drops (inr (inr all)) =
    doing_as (λ (l : List Step). ArePulls l × (has_last l ≡ true)) (AreDropped old sent) old a
    (λ xs x. record { are_pulls = x.0; wanted = λ holds. absurd (cc (holds, is)); passed = λ unmarked. inr (inr x.1) })
    all

dropped_unwanted : (c : Bool) (old a : Line) (sent : AnswerHead) → old.wanted ≡ false → sent.closes ≡ c → Drops old a → (sent.closes ≡ false → PassesOver old a)
    → Doing (AreDropped old sent) old a
dropped_unwanted true old a sent is marked drops passes =
    doing_as ArePulls (AreDropped old sent) old a
    (λ xs pulls. record { are_pulls = pulls; wanted = λ holds. absurd (cc (holds, is)); passed = λ unmarked. absurd (cc (marked, unmarked)) })
    (drops_do old a drops)
dropped_unwanted false old a sent is marked drops passes = dropped_by old a sent is drops (passes marked)

dropped_where : (w : Bool) (old a : Line) (sent : AnswerHead) → old.wanted ≡ w → Drops old a → (old.wanted ≡ true → a ≡ old)
    → (sent.closes ≡ false → PassesOver old a) → Doing (AreDropped old sent) old a
dropped_where true old a sent is drops kept passes =
    doing_as (λ (l : List Step). l ≡ []) (AreDropped old sent) old a
    (λ xs none. record { are_pulls = no_pulls xs none; wanted = λ holds. none; passed = λ unmarked. inl is })
    (does_equal old a (kept is))
dropped_where false old a sent is drops kept passes = dropped_unwanted sent.closes old a sent is refl drops passes

-- the body was settled, the time was told, and then the answer came
pub begins_here : (head sent : AnswerHead) (size : BodySize) (old a b c : Line) → Says old head sent → Drops old a → (old.wanted ≡ true → a ≡ old)
    → (sent.closes ≡ false → PassesOver old a) → Waits a b → Adds (on.answer sent size) on.done b c → Begins head size old c
begins_here head sent size old a b c says drops kept passes waits adds =
    doing_then (AreDropped old sent) (λ (l : List Step). l ≡ step (on.answer sent size) ∷ []) (IsBegun head size old) old b c
    (λ xs ys dropped is. record {
      dropped = xs;
      sent = sent;
      are_pulls = dropped.are_pulls;
      wanted = dropped.wanted;
      says = says;
      passed = dropped.passed;
      is = ap (λ (l : List Step). xs ++ l) is;
    })
    (doing_wait (AreDropped old sent) old a b (dropped_where old.wanted old a sent refl drops kept passes) waits)
    (adds_does (on.answer sent size) on.done b c refl adds)
