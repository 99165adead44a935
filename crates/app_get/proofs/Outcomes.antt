-- What URLs come to.
use Rattle.std.specs.Prelude.{◌≡◌, ℕ, ◌+◌, ◌<◌, ◌≤◌, Bool, true, false, List, [], ◌∷◌, ◌++◌, length, if◌then◌else◌, Option, Some, None, Result, Ok, Err}
use Rattle.std.proofs.Common.{refl, sym, ap, subst, ◌∙◌, append_assoc, inl, inr, arith}
use Rattle.std.proofs.lemmas.Bool.{le-leb, lt-leb}
use Rattle.app_get.specs.declared.error.GetError.{GetError}
use Rattle.app_get.specs.declared.error.GetError.TheVariants as get_error
use Rattle.app_get.specs.declared.follow.Reply.{Reply}
use Rattle.app_get.specs.Fetching.{Done, fetched, told_status, told_error, Notes, is_refusal, done_at, all_done, error_status, status_after, exit_status, are_fetched, AreOutcomes, FetchesEach, FetchesOne, ended_by, Tried, kept_gave, new_gave, IsTried}

-- ---- what is noted

pub notes_none : {A : Type 0} (a : Option (List A)) → Notes a [] a
notes_none None = tt
notes_none (Some before) = refl

pub notes_then : {A : Type 0} (a b c : Option (List A)) (xs ys : List A) → Notes a xs b → Notes b ys c → Notes a (ys ++ xs) c
notes_then None b c xs ys first second = tt
notes_then (Some as_) None c xs ys first second = absurd (cc first)
notes_then {A} (Some as_) (Some bs) c xs ys first second =
    let e : bs ≡ xs ++ as_ = cc first in
    second ∙ ap (λ (l : List A). Some (ys ++ l)) e ∙ ap (λ (l : List A). Some l) (sym (append_assoc ys xs as_))

-- ---- one

well_by : (test : Bool) (a b : Option (List Done)) (said : ℕ) → test ≡ false → Notes a (fetched (Ok said) ∷ []) b
    → Notes a (if test then told_status said ∷ fetched (Ok said) ∷ [] else fetched (Ok said) ∷ []) b
well_by true a b said is noted = absurd (cc is)
well_by false a b said is noted = noted

status_well : (test : Bool) (refused status : ℕ) → test ≡ false → status ≡ (if test then refused else status)
status_well true refused status is = absurd (cc is)
status_well false refused status is = refl

-- an answer below 400
pub one_well : (a b : Option (List Done)) (refused status said : ℕ) → said < 400 → Notes a (fetched (Ok said) ∷ []) b → FetchesOne a refused status b (Ok status)
one_well a b refused status said below noted =
    let test : is_refusal said ≡ false = lt-leb 400 said below in record {
      outcome = Ok said;
      notes = well_by (is_refusal said) a b said test noted;
      ends = ap (λ (n : ℕ). Ok n) (status_well (is_refusal said) refused status test);
    }

refused_by : (test : Bool) (a b : Option (List Done)) (said : ℕ) → test ≡ true → Notes a (told_status said ∷ fetched (Ok said) ∷ []) b
    → Notes a (if test then told_status said ∷ fetched (Ok said) ∷ [] else fetched (Ok said) ∷ []) b
refused_by true a b said is noted = noted
refused_by false a b said is noted = absurd (cc is)

status_refused : (test : Bool) (refused status : ℕ) → test ≡ true → refused ≡ (if test then refused else status)
status_refused true refused status is = refl
status_refused false refused status is = absurd (cc is)

-- one of 400 or above, which is told
pub one_refused : (a b c : Option (List Done)) (refused status said : ℕ) → 400 ≤ said → Notes a (fetched (Ok said) ∷ []) b → Notes b (told_status said ∷ []) c
    → FetchesOne a refused status c (Ok refused)
one_refused a b c refused status said above noted told =
    let test : is_refusal said ≡ true = le-leb 400 said above in record {
      outcome = Ok said;
      notes = refused_by (is_refusal said) a c said test (notes_then a b c (fetched (Ok said) ∷ []) (told_status said ∷ []) noted told);
      ends = ap (λ (n : ℕ). Ok n) (status_refused (is_refusal said) refused status test);
    }

-- an error, which is told
pub one_failed : (a b c : Option (List Done)) (refused status exit : ℕ) (error : GetError) → exit ≡ error_status error → Notes a (fetched (Err error) ∷ []) b
    → Notes b (told_error error ∷ []) c → FetchesOne a refused status c (Err exit)
one_failed a b c refused status exit error is noted told = record {
  outcome = Err error;
  notes = notes_then a b c (fetched (Err error) ∷ []) (told_error error ∷ []) noted told;
  ends = ap (λ (n : ℕ). Err n) is;
}

-- ---- all

-- so many were fetched, and the status is this
pub record HasFetched (a : Option (List Done)) (count refused : ℕ) (b : Option (List Done)) (status : ℕ) : Type 0 where
  pub outcomes : List (Result ℕ GetError)
  pub many : length outcomes ≡ count
  pub whole : are_fetched outcomes ≡ true
  pub notes : Notes a (all_done outcomes) b
  pub ends : status ≡ exit_status refused outcomes

pub fetched_none : (a : Option (List Done)) (refused : ℕ) → HasFetched a 0 refused a 0
fetched_none a refused = record { outcomes = []; many = refl; whole = refl; notes = notes_none a; ends = refl }

fetched_by : (a b c : Option (List Done)) (count refused status next : ℕ) (before : HasFetched a count refused b status) (x : Result ℕ GetError) → Notes b (done_at x) c
    → Ok next ≡ ended_by refused status x → HasFetched a (count + 1) refused c next
fetched_by a b c count refused status next before (Ok said) noted ends = record {
  outcomes = Ok said ∷ before.outcomes;
  many = omega (arith, before.many);
  whole = before.whole;
  notes = notes_then a b c (all_done before.outcomes) (done_at (Ok said)) before.notes noted;
  ends = let e : next ≡ status_after refused status (Ok said) = cc ends in e ∙ ap (λ (s : ℕ). status_after refused s (Ok said)) before.ends;
}
fetched_by a b c count refused status next before (Err error) noted ends = absurd (cc ends)

pub fetched_more : (a b c : Option (List Done)) (count refused status next : ℕ) → HasFetched a count refused b status → FetchesOne b refused status c (Ok next)
    → HasFetched a (count + 1) refused c next
fetched_more a b c count refused status next before one = fetched_by a b c count refused status next before one.outcome one.notes one.ends

stopped_by : (a b c : Option (List Done)) (count all refused status exit : ℕ) (before : HasFetched a count refused b status) (x : Result ℕ GetError) → count < all
    → Notes b (done_at x) c → Err exit ≡ ended_by refused status x → FetchesEach a all refused c exit
stopped_by a b c count all refused status exit before (Ok said) below noted ends = absurd (cc ends)
stopped_by a b c count all refused status exit before (Err error) below noted ends = record {
  outcomes = Err error ∷ before.outcomes;
  all = (omega (arith, before.many), before.whole);
  notes = notes_then a b c (all_done before.outcomes) (done_at (Err error)) before.notes noted;
  ends = cc ends;
}

pub fetched_stopped : (a b c : Option (List Done)) (count all refused status exit : ℕ) → HasFetched a count refused b status → count < all
    → FetchesOne b refused status c (Err exit) → FetchesEach a all refused c exit
fetched_stopped a b c count all refused status exit before below one = stopped_by a b c count all refused status exit before one.outcome below one.notes one.ends

are_all : (outcomes : List (Result ℕ GetError)) (count : ℕ) → length outcomes ≡ count → are_fetched outcomes ≡ true → AreOutcomes count outcomes
are_all [] count many whole = sym many
are_all (Ok said ∷ before) count many whole = (omega (arith, many), whole)
are_all (Err error ∷ before) count many whole = absurd (cc whole)

pub fetched_each : (a b : Option (List Done)) (count all refused status : ℕ) → HasFetched a count refused b status → count ≡ all → FetchesEach a all refused b status
fetched_each a b count all refused status done same =
    record { outcomes = done.outcomes; all = are_all done.outcomes all (done.many ∙ same) done.whole; notes = done.notes; ends = done.ends }

-- ---- tries

-- there is none that may be used
pub tried_new : (a b c : Option (List Tried)) (has_file : Bool) (x : Option (Result Reply GetError)) (result : Result Reply GetError) → Notes a (kept_gave x ∷ []) b
    → x ≡ None → Notes b (new_gave result ∷ []) c → IsTried a has_file c result
tried_new a b c has_file x result first is second =
    inr (inl (notes_then a b c (kept_gave None ∷ []) (new_gave result ∷ [])
    (subst (λ (x : Option (Result Reply GetError)). Notes a (kept_gave x ∷ []) b) is first) second))

-- it gave no answer, and no file is sent
pub tried_again : (a b c : Option (List Tried)) (has_file : Bool) (x : Option (Result Reply GetError)) (result : Result Reply GetError) → Notes a (kept_gave x ∷ []) b
    → x ≡ Some (Err get_error.Unanswered) → has_file ≡ false → Notes b (new_gave result ∷ []) c → IsTried a has_file c result
tried_again a b c has_file x result first is none second =
    inr (inr (
      none,
      notes_then a b c (kept_gave (Some (Err get_error.Unanswered)) ∷ []) (new_gave result ∷ [])
          (subst (λ (x : Option (Result Reply GetError)). Notes a (kept_gave x ∷ []) b) is first) second,
    ))

pub tried_done : (a b c : Option (List Tried)) (has_file : Bool) (done result : Result Reply GetError) → Notes a (kept_gave (Some done) ∷ []) b
    → done ≡ Err get_error.Unanswered → has_file ≡ false → Notes b (new_gave result ∷ []) c → IsTried a has_file c result
tried_done a b c has_file done result first is none second =
    tried_again a b c has_file (Some done) result first (ap (λ (d : Result Reply GetError). Some d) is) none second

-- it gave an answer, or failed
pub tried_kept : (a b : Option (List Tried)) (has_file : Bool) (x : Option (Result Reply GetError)) (result : Result Reply GetError) → Notes a (kept_gave x ∷ []) b
    → x ≡ Some result → IsTried a has_file b result
tried_kept a b has_file x result first is = inl (subst (λ (x : Option (Result Reply GetError)). Notes a (kept_gave x ∷ []) b) is first)
