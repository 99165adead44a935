-- The items of a run are those of the bytes that came.
use Rattle.std.proofs.Common.{◌≡◌, ℕ, Bool, Some, None, List, [], ◌∷◌, ◌++◌, Ok, Err, inl, inr, refl, sym, ap, ◌∙◌, subst, append_assoc, append-nil}
use Rattle.futures.specs.declared.task.Poll.TheVariants.{Ready, Pending}
use Rattle.http_framing.specs.AnyPieces.{GoesOn}
use Rattle.http_transport.specs.Items.{Answers}
use Rattle.http_transport.specs.declared.framed.error.FramedError.TheVariants as framed
use Rattle.ws_frames.specs.declared.error.ProtocolError.{ProtocolError}
use Rattle.ws_dispatcher.specs.View.{View}
use Rattle.ws_dispatcher.specs.Steps.{Step, IsRun, read, ready, called, answered, wrote, unwritten, closed, failed, flushed, told}
use Rattle.ws_dispatcher.specs.Order.{came_in, items_in, IsClean, all_given, KeepsReading, ReadsAll}

behind : {U Q R : Type 0} (reads : U → List ℕ → R → Type 0) (given : Q → R → R) (d e : U) (left rest came more z : List ℕ) (front : R → R) (r : R)
    → GoesOn reads given d (left ++ came) front e rest → reads e ((rest ++ more) ++ z) r → reads d ((left ++ (came ++ more)) ++ z) (front r)
behind reads given d e left rest came more z front r goes said =
    subst (λ l. reads d l (front r)) (sym (append_assoc (left ++ came) more z) ∙ ap (λ l. l ++ z) (append_assoc left came more))
    (goes (more ++ z) r (subst (λ l. reads e l r) (append_assoc rest more z) said))

as_before : {U R : Type 0} (reads : U → List ℕ → R → Type 0) (d e : U) (left rest more z : List ℕ) (r : R) → e ≡ d → rest ≡ left
    → reads e ((rest ++ more) ++ z) r → reads d ((left ++ more) ++ z) r
as_before reads d e left rest more z r codec is said =
    subst (λ l. reads d ((l ++ more) ++ z) r) is (subst (λ x. reads x ((rest ++ more) ++ z) r) codec said)

module _ {U Q I E R : Type 0} (reads : U → List ℕ → R → Type 0) (given : Q → R → R) (nothing : R)
    (breaks : ProtocolError → R → Type 0) (lacks : ProtocolError → Type 0) (seen : U → List ℕ → Type 0)
    (leaves : ProtocolError → U → List ℕ → U → List ℕ → Type 0) (writes : U → I → List ℕ → U → Type 0) (unwritten_so : ProtocolError → U → I → U → Type 0) (keeps : KeepsReading reads writes) where
  pending_goes : (v u : View U Q I E) (came : List ℕ) (woken : Bool) → Answers reads given nothing breaks lacks seen leaves v.transport u.transport woken v.codec v.unread came u.codec u.unread Pending
      → GoesOn reads given v.codec (v.unread ++ came) (λ x. x) u.codec u.unread
  pending_goes v u came woken (inl is) = is.0.passed.goes_on
  pending_goes v u came woken (inr is) = is.0.goes_on

  pub reads_all : (v w : View U Q I E) (steps : List (Step Q I E)) → IsRun reads given nothing breaks lacks seen leaves writes unwritten_so v steps w → IsClean steps → ReadsAll reads given v steps w
  reads_all v w [] is clean z r said =
      subst (λ l. reads v.codec (l ++ z) r) (sym (append-nil v.unread)) (subst (λ x. reads x.codec (x.unread ++ z) r) is said)
  reads_all v w (read came (Ready (Some (Ok item))) ∷ steps) is clean z r said =
      behind reads given v.codec is.0.codec v.unread is.0.unread came (came_in steps) z (given item) (all_given given (items_in steps) r)
      (is.1.4.1.answers.0) (reads_all is.0 w steps is.2 clean.1 z r said)
  reads_all v w (read came (Ready (Some (Err (framed.Codec e)))) ∷ steps) is clean z r said = absurd clean.0
  reads_all v w (read came (Ready (Some (Err framed.Io))) ∷ steps) is clean z r said =
      behind reads given v.codec is.0.codec v.unread is.0.unread came (came_in steps) z (λ x. x) (all_given given (items_in steps) r)
      (is.1.4.1.answers.0.passed.goes_on) (reads_all is.0 w steps is.2 clean.1 z r said)
  reads_all v w (read came (Ready (Some (Err framed.NoMemory))) ∷ steps) is clean z r said =
      behind reads given v.codec is.0.codec v.unread is.0.unread came (came_in steps) z (λ x. x) (all_given given (items_in steps) r)
      (is.1.4.1.answers.passed.goes_on) (reads_all is.0 w steps is.2 clean.1 z r said)
  reads_all v w (read came (Ready None) ∷ steps) is clean z r said =
      behind reads given v.codec is.0.codec v.unread is.0.unread came (came_in steps) z (λ x. x) (all_given given (items_in steps) r)
      (is.1.4.1.answers.0.passed.goes_on) (reads_all is.0 w steps is.2 clean.1 z r said)
  reads_all v w (read came Pending ∷ steps) is clean z r said =
      behind reads given v.codec is.0.codec v.unread is.0.unread came (came_in steps) z (λ x. x) (all_given given (items_in steps) r)
      (pending_goes v is.0 came is.1.4.0 is.1.4.1.answers) (reads_all is.0 w steps is.2 clean.1 z r said)
  reads_all v w (unwritten message error ∷ steps) is clean z r said = absurd clean
  reads_all v w (wrote message text ∷ steps) is clean z r said =
      keeps v.codec is.0.codec message text ((v.unread ++ came_in steps) ++ z) (all_given given (items_in steps) r) is.1.2
      (as_before reads is.0.codec is.0.codec v.unread is.0.unread (came_in steps) z (all_given given (items_in steps) r) refl (ap (λ x. x.unread) is.1.3)
      (reads_all is.0 w steps is.2 clean z r said))
  reads_all v w (ready answer ∷ steps) is clean z r said =
      as_before reads v.codec is.0.codec v.unread is.0.unread (came_in steps) z (all_given given (items_in steps) r) (ap (λ x. x.codec) is.1.3) (ap (λ x. x.unread) is.1.3)
      (reads_all is.0 w steps is.2 clean z r said)
  reads_all v w (called item ∷ steps) is clean z r said =
      as_before reads v.codec is.0.codec v.unread is.0.unread (came_in steps) z (all_given given (items_in steps) r) (ap (λ x. x.codec) is.1.4) (ap (λ x. x.unread) is.1.4)
      (reads_all is.0 w steps is.2 clean z r said)
  reads_all v w (answered answer ∷ steps) is clean z r said =
      as_before reads v.codec is.0.codec v.unread is.0.unread (came_in steps) z (all_given given (items_in steps) r) (ap (λ x. x.codec) is.1.3) (ap (λ x. x.unread) is.1.3)
      (reads_all is.0 w steps is.2 clean z r said)
  reads_all v w (closed ∷ steps) is clean z r said =
      as_before reads v.codec is.0.codec v.unread is.0.unread (came_in steps) z (all_given given (items_in steps) r) (ap (λ x. x.codec) is.1.2) (ap (λ x. x.unread) is.1.2)
      (reads_all is.0 w steps is.2 clean z r said)
  reads_all v w (failed error ∷ steps) is clean z r said =
      as_before reads v.codec is.0.codec v.unread is.0.unread (came_in steps) z (all_given given (items_in steps) r) (ap (λ x. x.codec) is.1.2) (ap (λ x. x.unread) is.1.2)
      (reads_all is.0 w steps is.2 clean z r said)
  reads_all v w (flushed gave answer ∷ steps) is clean z r said =
      as_before reads v.codec is.0.codec v.unread is.0.unread (came_in steps) z (all_given given (items_in steps) r) (ap (λ x. x.codec) is.1.1) (ap (λ x. x.unread) is.1.1)
      (reads_all is.0 w steps is.2 clean z r said)
  reads_all v w (told error ∷ steps) is clean z r said =
      as_before reads v.codec is.0.codec v.unread is.0.unread (came_in steps) z (all_given given (items_in steps) r) (ap (λ x. x.codec) is.1.1) (ap (λ x. x.unread) is.1.1)
      (reads_all is.0 w steps is.2 clean z r said)
