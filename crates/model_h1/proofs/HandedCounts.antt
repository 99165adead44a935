-- The items that were handed out of a message, against the sums of the trace.
use Rattle.std.proofs.Common.{◌≡◌, ◌+◌, Bool, true, false, List, [], ◌∷◌, ◌++◌, Some, None, refl, sym, ap, ap₂, ◌∙◌, arith}
use Rattle.std.specs.Prelude.{◌||◌}
use Rattle.std.specs.List.{list_any}
use Rattle.std.proofs.lemmas.Bool.{or_parts, true≢false}
use Rattle.std.proofs.lemmas.List.Sums.{sum_by-append}
use Rattle.std.proofs.lemmas.List.Folds.{list_any-append}
use Rattle.model_h1.specs.Request.{Head}
use Rattle.model_h1.specs.Event.{Outcome}
use Rattle.model_h1.specs.Event as on
use Rattle.model_h1.specs.Sums.{Step, head_of}
use Rattle.model_h1.specs.Handed.{Item}
use Rattle.model_h1.specs.Past.{step_bytes, step_frames, given_bytes, given_frames}
use Rattle.model_h1.specs.Allowed.{gives_up}
use Rattle.model_h1.specs.OutcomeTable.{is_trailers, gave_trailers}
use Rattle.model_h1.proofs.StepLemmas.{since_head-head, given_bytes-more, given_bytes-head, given_frames-more, given_frames-head}
use Rattle.model_h1.proofs.HandedItems.{outcome_items, item_len, item_frames, is_trailers_item, is_ending, items_len, items_frames, have_trailers, have_ending}
use Rattle.model_h1.proofs.HandedTrace.{gave_trailers-more, gave_up, gave_up-more}

-- As many bytes and frames were handed out as the trace gave, and trailers where it gave some. There is an
-- ending only where the body was given up.
pub record Counts (trace : List Step) (items : List Item) : Type 0 where
  pub bytes : items_len items ≡ given_bytes trace
  pub frames : items_frames items ≡ given_frames trace
  pub trailers : have_trailers items ≡ gave_trailers trace
  pub ended : gave_up trace ≡ false → have_ending items ≡ false

-- ---- what an outcome adds

-- as many bytes
outcome_len : (o : Outcome) → items_len (outcome_items o) ≡ step_bytes o
outcome_len (on.bytes more) = omega arith
outcome_len _ = refl

-- as many frames
outcome_frames : (o : Outcome) → items_frames (outcome_items o) ≡ step_frames o
outcome_frames (on.frame f) = refl
outcome_frames _ = refl

-- trailers or none
outcome_trailers : (o : Outcome) → have_trailers (outcome_items o) ≡ is_trailers o
outcome_trailers (on.trailers lines) = refl
outcome_trailers _ = refl

-- a pull that doesn't give up the body hands out no ending
pub pull_ending : (o : Outcome) → gives_up on.pull o ≡ false → have_ending (outcome_items o) ≡ false
pull_ending on.body_ended e = absurd (true≢false e)
pull_ending (on.broken_by f) e = absurd (true≢false e)
pull_ending _ e = refl

-- ---- one more step

-- behind a head nothing is counted
pub counts_head : (s : Step) (before : List Step) (h : Head) → head_of s.outcome ≡ Some h → Counts (s ∷ before) []
counts_head s before h some = record {
  bytes = sym (given_bytes-head s before h some);
  frames = sym (given_frames-head s before h some);
  trailers = sym (ap (list_any (λ t. is_trailers t.outcome)) (since_head-head s before h some));
  ended = λ none. refl;
}

-- two tests of which each is false
neither : {A : Type 0} (p : A → Bool) (xs ys : List A) → list_any p xs ≡ false → list_any p ys ≡ false → list_any p (xs ++ ys) ≡ false
neither p xs ys x y = list_any-append p xs ys ∙ ap₂ (λ a b. a || b) x y

-- either way round
either : (a b : Bool) → (a || b) ≡ (b || a)
either true true = refl
either true false = refl
either false true = refl
either false false = refl

-- another step counts what it adds
pub counts_more : (s : Step) (before : List Step) (items : List Item) → head_of s.outcome ≡ None
    → (gives_up s.event s.outcome ≡ false → have_ending (outcome_items s.outcome) ≡ false) → Counts before items
    → Counts (s ∷ before) (items ++ outcome_items s.outcome)
counts_more s before items none ends x =
    let new = outcome_items s.outcome in
    record {
      bytes = sum_by-append item_len items new ∙ ap₂ (λ a b. a + b) x.bytes (outcome_len s.outcome) ∙ sym (given_bytes-more s before none);
      frames = sum_by-append item_frames items new ∙ ap₂ (λ a b. a + b) x.frames (outcome_frames s.outcome) ∙ sym (given_frames-more s before none);
      trailers = list_any-append is_trailers_item items new ∙ ap₂ (λ a b. a || b) x.trailers (outcome_trailers s.outcome)
          ∙ either (gave_trailers before) (is_trailers s.outcome) ∙ sym (gave_trailers-more s before none);
      ended = λ left.
          let parts = or_parts _ _ (sym (gave_up-more s before none) ∙ left) in
          neither is_ending items new (x.ended parts.1) (ends parts.0);
    }
