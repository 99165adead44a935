-- What waited to be sent is given to the transport first, over the turns of a poll.
use Rattle.std.proofs.Common.{◌≡◌, ◌++◌, ◌∷◌, ℕ, List, [], inl, inr, refl, sym, ap, ◌∙◌, subst, append_assoc}
use Rattle.std.specs.List.{AllByRecursion}
use Rattle.ws_frames.specs.declared.error.ProtocolError.{ProtocolError}
use Rattle.ws_dispatcher.specs.View.{View, IsSent}
use Rattle.ws_dispatcher.specs.Steps.{Step, IsStep, IsRun, read, ready, called, answered, wrote, unwritten, closed, failed, flushed, told}
use Rattle.ws_dispatcher.specs.Polls.{IsTaking, SendsFirst}

all_taking : {Q I E : Type 0} (s t : List (Step Q I E)) → AllByRecursion IsTaking s → AllByRecursion IsTaking t → AllByRecursion IsTaking (s ++ t)
all_taking [] t first then = then
all_taking (d ∷ s) t first then = (first.0, all_taking s t first.1 then)

front_empty : (a b : List ℕ) → a ++ b ≡ [] → a ≡ []
front_empty [] b is = refl
front_empty (x ∷ a) b is = absurd (cc is)

module _ {U Q I E R : Type 0} (reads : U → List ℕ → R → Type 0) (given : Q → R → R) (nothing : R)
    (breaks : ProtocolError → R → Type 0) (lacks : ProtocolError → Type 0) (seen : U → List ℕ → Type 0)
    (leaves : ProtocolError → U → List ℕ → U → List ℕ → Type 0) (writes : U → I → List ℕ → U → Type 0) (unwritten_so : ProtocolError → U → I → U → Type 0) where
  -- where all is sent after something was taken from the queue, all was sent before
  taking_sent : (v u : View U Q I E) (d : Step Q I E) → IsTaking d → IsStep reads given nothing breaks lacks seen leaves writes unwritten_so v d u → IsSent u → IsSent v
  taking_sent v u (wrote message text) takes is sent =
      record { unsent = front_empty v.unsent text (sym (ap (λ x. x.unsent) is.3) ∙ sent.unsent); flushed = sym (ap (λ x. x.flushing) is.3) ∙ sent.flushed }
  taking_sent v u closed takes is sent = record { unsent = sym (ap (λ x. x.unsent) is.2) ∙ sent.unsent; flushed = sym (ap (λ x. x.flushing) is.2) ∙ sent.flushed }
  taking_sent v u (failed error) takes is sent = record { unsent = sym (ap (λ x. x.unsent) is.2) ∙ sent.unsent; flushed = sym (ap (λ x. x.flushing) is.2) ∙ sent.flushed }
  taking_sent v u (read came answer) takes is sent = absurd takes
  taking_sent v u (ready answer) takes is sent = absurd takes
  taking_sent v u (called item) takes is sent = absurd takes
  taking_sent v u (answered answer) takes is sent = absurd takes
  taking_sent v u (unwritten message error) takes is sent = absurd takes
  taking_sent v u (flushed gave answer) takes is sent = absurd takes
  taking_sent v u (told error) takes is sent = absurd takes

  takings_sent : (v u : View U Q I E) (s : List (Step Q I E)) → AllByRecursion IsTaking s → IsRun reads given nothing breaks lacks seen leaves writes unwritten_so v s u → IsSent u → IsSent v
  takings_sent v u [] takes is sent = subst (λ x. IsSent x) is sent
  takings_sent v u (d ∷ s) takes is sent = taking_sent v is.0 d takes.0 is.1 (takings_sent is.0 u s takes.1 is.2 sent)

  -- one turn behind those before it
  pub first_on : (v u : View U Q I E) (s t : List (Step Q I E)) → IsRun reads given nothing breaks lacks seen leaves writes unwritten_so v s u → SendsFirst v s → SendsFirst u t → SendsFirst v (s ++ t)
  first_on v u s t run (inl sent) then = inl sent
  first_on v u s t run (inr (inr (taken, gave, answer, rest, is, all))) then =
      inr (inr (taken, gave, answer, rest ++ t, ap (λ l. l ++ t) is ∙ append_assoc taken (flushed gave answer ∷ rest) t, all))
  first_on v u s t run (inr (inl takes)) (inl sent) = inl (takings_sent v u s takes run sent)
  first_on v u s t run (inr (inl takes)) (inr (inl more)) = inr (inl (all_taking s t takes more))
  first_on v u s t run (inr (inl takes)) (inr (inr (taken, gave, answer, rest, is, all))) =
      inr (inr (s ++ taken, gave, answer, rest, ap (λ l. s ++ l) is ∙ sym (append_assoc s taken (flushed gave answer ∷ rest)), all_taking s taken takes all))
