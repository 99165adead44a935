-- Redirect after redirect.
use Rattle.std.specs.Prelude.{◌≡◌, ℕ, ◌+◌, ◌≤◌, Bool, List, [], ◌∷◌, length, Option, Result, Ok, Err, IsErrAnd}
use Rattle.std.proofs.Common.{refl, sym, subst, ◌∙◌, inl, inr, arith}
use Rattle.app_get.specs.declared.error.GetError.{GetError}
use Rattle.app_get.specs.declared.error.GetError.TheVariants as get_error
use Rattle.app_get.specs.declared.follow.Stage.{Stage}
use Rattle.app_get.specs.declared.follow.Turn.{Turn}
use Rattle.app_get.specs.declared.follow.Turn.TheVariants as turning
use Rattle.app_get.specs.Fetching.{Notes}
use Rattle.app_get.specs.Following.{Asked, came, IsFirst, IsWay, IsRefused, IsTurn, Follows}
use Rattle.app_get.proofs.Outcomes.{notes_none, notes_then}

-- so many redirects led here
pub record HasGone (a : Option (List Asked)) (text method : List ℕ) (follows : Bool) (count : ℕ) (b : Option (List Asked)) (stage : Stage) : Type 0 where
  pub asked : List Asked
  pub many : length asked ≡ count
  pub notes : Notes a asked b
  pub way : IsWay text method follows asked stage

pub gone_none : (a : Option (List Asked)) (text method : List ℕ) (follows : Bool) (stage : Stage) → IsFirst text stage → HasGone a text method follows 0 a stage
gone_none a text method follows stage first = record { asked = []; many = refl; notes = notes_none a; way = first }

-- one more
pub gone_more : (a b c : Option (List Asked)) (text method : List ℕ) (follows : Bool) (count : ℕ) (stage next : Stage) (t : Turn)
    → HasGone a text method follows count b stage → IsTurn b stage method follows c (Ok t) → t ≡ turning.On next → HasGone a text method follows (count + 1) c next
gone_more a b c text method follows count stage next t gone turned is =
    let x : IsTurn b stage method follows c (Ok (turning.On next)) = subst (λ (t : Turn). IsTurn b stage method follows c (Ok t)) is turned in record {
      asked = came stage (Ok x.0) ∷ gone.asked;
      many = omega (arith, gone.many);
      notes = notes_then a b c gone.asked (came stage (Ok x.0) ∷ []) gone.notes x.1;
      way = (x.2, (x.3, gone.way));
    }

-- ---- the end

-- the URL isn't taken
pub gone_nowhere : (a : Option (List Asked)) (text method : List ℕ) (follows : Bool) (error : GetError) → IsRefused text error
    → Follows a text method follows a (Err error)
gone_nowhere a text method follows error is = record { asked = []; few = omega arith; notes = notes_none a; ends = is }

-- it was answered, and that isn't followed
pub gone_last : (a b c : Option (List Asked)) (text method : List ℕ) (follows : Bool) (count : ℕ) (stage : Stage) (status : ℕ) (t : Turn)
    → HasGone a text method follows count b stage → count ≤ 10 → IsTurn b stage method follows c (Ok t) → t ≡ turning.Last status
    → Follows a text method follows c (Ok status)
gone_last a b c text method follows count stage status t gone few turned is =
    let x : IsTurn b stage method follows c (Ok (turning.Last status)) = subst (λ (t : Turn). IsTurn b stage method follows c (Ok t)) is turned in record {
      asked = came stage (Ok x.0) ∷ gone.asked;
      few = omega (arith, gone.many);
      notes = notes_then a b c gone.asked (came stage (Ok x.0) ∷ []) gone.notes x.1;
      ends = (gone.way, (x.2, x.3));
    }

-- it wasn't answered, or the redirect can't be followed
pub gone_failed : (a b c : Option (List Asked)) (text method : List ℕ) (follows : Bool) (count : ℕ) (stage : Stage) (error : GetError)
    → HasGone a text method follows count b stage → count ≤ 10 → IsTurn b stage method follows c (Err error) → Follows a text method follows c (Err error)
gone_failed a b c text method follows count stage error gone few (inl noted) = record {
  asked = came stage (Err error) ∷ gone.asked;
  few = omega (arith, gone.many);
  notes = notes_then a b c gone.asked (came stage (Err error) ∷ []) gone.notes noted;
  ends = (gone.way, refl);
}
gone_failed a b c text method follows count stage error gone few (inr x) = record {
  asked = came stage (Ok x.0) ∷ gone.asked;
  few = omega (arith, gone.many);
  notes = notes_then a b c gone.asked (came stage (Ok x.0) ∷ []) gone.notes x.1;
  ends = (gone.way, (x.2, inr x.3));
}

-- one redirect too many
beyond_by : (asked : List Asked) (a b : Option (List Asked)) (text method : List ℕ) (follows : Bool) (stage : Stage) → length asked ≡ 11 → Notes a asked b
    → IsWay text method follows asked stage → Follows a text method follows b (Err get_error.Redirects)
beyond_by [] a b text method follows stage many notes way = absurd (omega (arith, many))
beyond_by (came old (Ok reply) ∷ before) a b text method follows stage many notes way = record {
  asked = came old (Ok reply) ∷ before;
  few = omega (arith, many);
  notes = notes;
  ends = (way.1.1, (way.0, inl (refl, omega (arith, many))));
}
beyond_by (came old (Err error) ∷ before) a b text method follows stage many notes way = absurd way

pub gone_beyond : (a b : Option (List Asked)) (text method : List ℕ) (follows : Bool) (count : ℕ) (stage : Stage) → HasGone a text method follows count b stage → count ≡ 11
    → Follows a text method follows b (Err get_error.Redirects)
gone_beyond a b text method follows count stage gone all = beyond_by gone.asked a b text method follows stage (gone.many ∙ all) gone.notes gone.way

-- where it is known which error there is
pub gone_err : (r : Result ℕ GetError) (error : GetError) (a b : Option (List Asked)) (text method : List ℕ) (follows : Bool) → IsErrAnd r (λ d. d ≡ error)
    → Follows a text method follows b (Err error) → Follows a text method follows b r
gone_err (Ok status) error a b text method follows is ends = absurd is
gone_err (Err d) error a b text method follows is ends = subst (λ (e : GetError). Follows a text method follows b (Err e)) (sym is) ends
