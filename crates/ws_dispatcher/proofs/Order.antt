-- What runs keep in order.
use Rattle.std.proofs.Common.{◌≡◌, ℕ, Option, List, [], ◌∷◌, ◌++◌, Ok, Err, sym, ap, ◌∙◌, subst, append_assoc, append-nil}
use Rattle.std.specs.Prelude.{option_to_list}
use Rattle.http_bodies.specs.Told.{Grows}
use Rattle.http_bodies.proofs.Histories.{grown, grown-none}
use Rattle.ws_frames.specs.declared.error.ProtocolError.{ProtocolError}
use Rattle.ws_dispatcher.specs.View.{View}
use Rattle.ws_dispatcher.specs.Steps.{Step, IsRun, item_read, answer_queued, read, ready, called, answered, wrote, unwritten, closed, failed, flushed, told}
use Rattle.ws_dispatcher.specs.declared.inner.queue.Message.TheVariants.{Item, Close}
use Rattle.ws_dispatcher.specs.Order.{items_in, calls_in, queued_in, taken_in, texts_in, sent_in, came_in, AsksInOrder, TakesInOrder, SendsInOrder, Tells}

-- what came to a line before and behind, and what left it
line : {A : Type 0} (v a b u c d w : List A) → v ++ a ≡ b ++ u → u ++ c ≡ d ++ w → v ++ (a ++ c) ≡ (b ++ d) ++ w
line v a b u c d w first then =
    sym (append_assoc v a c) ∙ ap (λ l. l ++ c) first ∙ append_assoc b u c ∙ ap (λ l. b ++ l) then ∙ sym (append_assoc b d w)

-- nothing came, and nothing left
quiet : {A : Type 0} (v u c d w : List A) → u ≡ v → u ++ c ≡ d ++ w → v ++ c ≡ d ++ w
quiet v u c d w is then = ap (λ l. l ++ c) (sym is) ∙ then

-- nothing more is known
still : {A : Type 0} (a b c : Option (List A)) (xs : List A) → b ≡ a → Grows b c xs → Grows a c xs
still a b c xs is then = subst (λ l. Grows l c xs) is then

module _ {U Q I E R : Type 0} (reads : U → List ℕ → R → Type 0) (given : Q → R → R) (nothing : R)
    (breaks : ProtocolError → R → Type 0) (lacks : ProtocolError → Type 0) (seen : U → List ℕ → Type 0)
    (leaves : ProtocolError → U → List ℕ → U → List ℕ → Type 0) (writes : U → I → List ℕ → U → Type 0) (unwritten_so : ProtocolError → U → I → U → Type 0) where
  pub asked_in_order : (v w : View U Q I E) (steps : List (Step Q I E)) → IsRun reads given nothing breaks lacks seen leaves writes unwritten_so v steps w → AsksInOrder v steps w
  asked_in_order v w [] is = append-nil (option_to_list v.waiting) ∙ sym (ap (λ x. option_to_list x.waiting) is)
  asked_in_order v w (read came answer ∷ steps) is =
      line (option_to_list v.waiting) (option_to_list (item_read answer)) [] (option_to_list is.0.waiting) (items_in steps) (calls_in steps) (option_to_list w.waiting)
      (ap (λ l. option_to_list l ++ option_to_list (item_read answer)) is.1.1 ∙ sym (ap (λ x. option_to_list x.waiting) is.1.5)) (asked_in_order is.0 w steps is.2)
  asked_in_order v w (ready answer ∷ steps) is =
      quiet (option_to_list v.waiting) (option_to_list is.0.waiting) (items_in steps) (calls_in steps) (option_to_list w.waiting) (ap option_to_list (ap (λ x. x.waiting) is.1.3)) (asked_in_order is.0 w steps is.2)
  asked_in_order v w (called item ∷ steps) is =
      line (option_to_list v.waiting) [] (item ∷ []) (option_to_list is.0.waiting) (items_in steps) (calls_in steps) (option_to_list w.waiting)
      (append-nil (option_to_list v.waiting) ∙ ap option_to_list is.1.1 ∙ ap (λ l. item ∷ option_to_list l) (sym (ap (λ x. x.waiting) is.1.4))) (asked_in_order is.0 w steps is.2)
  asked_in_order v w (answered answer ∷ steps) is =
      quiet (option_to_list v.waiting) (option_to_list is.0.waiting) (items_in steps) (calls_in steps) (option_to_list w.waiting) (ap option_to_list (ap (λ x. x.waiting) is.1.3)) (asked_in_order is.0 w steps is.2)
  asked_in_order v w (wrote message text ∷ steps) is =
      quiet (option_to_list v.waiting) (option_to_list is.0.waiting) (items_in steps) (calls_in steps) (option_to_list w.waiting) (ap option_to_list (ap (λ x. x.waiting) is.1.3)) (asked_in_order is.0 w steps is.2)
  asked_in_order v w (unwritten message error ∷ steps) is =
      quiet (option_to_list v.waiting) (option_to_list is.0.waiting) (items_in steps) (calls_in steps) (option_to_list w.waiting) (ap option_to_list (ap (λ x. x.waiting) is.1.2)) (asked_in_order is.0 w steps is.2)
  asked_in_order v w (closed ∷ steps) is =
      quiet (option_to_list v.waiting) (option_to_list is.0.waiting) (items_in steps) (calls_in steps) (option_to_list w.waiting) (ap option_to_list (ap (λ x. x.waiting) is.1.2)) (asked_in_order is.0 w steps is.2)
  asked_in_order v w (failed error ∷ steps) is =
      quiet (option_to_list v.waiting) (option_to_list is.0.waiting) (items_in steps) (calls_in steps) (option_to_list w.waiting) (ap option_to_list (ap (λ x. x.waiting) is.1.2)) (asked_in_order is.0 w steps is.2)
  asked_in_order v w (flushed gave answer ∷ steps) is =
      quiet (option_to_list v.waiting) (option_to_list is.0.waiting) (items_in steps) (calls_in steps) (option_to_list w.waiting) (ap option_to_list (ap (λ x. x.waiting) is.1.1)) (asked_in_order is.0 w steps is.2)
  asked_in_order v w (told error ∷ steps) is =
      quiet (option_to_list v.waiting) (option_to_list is.0.waiting) (items_in steps) (calls_in steps) (option_to_list w.waiting) (ap option_to_list (ap (λ x. x.waiting) is.1.1)) (asked_in_order is.0 w steps is.2)

  pub taken_in_order : (v w : View U Q I E) (steps : List (Step Q I E)) → IsRun reads given nothing breaks lacks seen leaves writes unwritten_so v steps w → TakesInOrder v steps w
  taken_in_order v w [] is = append-nil v.queue ∙ sym (ap (λ x. x.queue) is)
  taken_in_order v w (read came answer ∷ steps) is =
      quiet v.queue is.0.queue (queued_in steps) (taken_in steps) w.queue (ap (λ x. x.queue) is.1.5) (taken_in_order is.0 w steps is.2)
  taken_in_order v w (ready answer ∷ steps) is =
      quiet v.queue is.0.queue (queued_in steps) (taken_in steps) w.queue (ap (λ x. x.queue) is.1.3) (taken_in_order is.0 w steps is.2)
  taken_in_order v w (called item ∷ steps) is =
      quiet v.queue is.0.queue (queued_in steps) (taken_in steps) w.queue (ap (λ x. x.queue) is.1.4) (taken_in_order is.0 w steps is.2)
  taken_in_order v w (answered answer ∷ steps) is =
      line v.queue (answer_queued answer) [] is.0.queue (queued_in steps) (taken_in steps) w.queue
      (sym (ap (λ x. x.queue) is.1.3)) (taken_in_order is.0 w steps is.2)
  taken_in_order v w (wrote message text ∷ steps) is =
      line v.queue [] (Ok (Item message) ∷ []) is.0.queue (queued_in steps) (taken_in steps) w.queue
      (append-nil v.queue ∙ is.1.1) (taken_in_order is.0 w steps is.2)
  taken_in_order v w (unwritten message error ∷ steps) is =
      line v.queue [] (Ok (Item message) ∷ []) is.0.queue (queued_in steps) (taken_in steps) w.queue
      (append-nil v.queue ∙ is.1.1) (taken_in_order is.0 w steps is.2)
  taken_in_order v w (closed ∷ steps) is =
      line v.queue [] (Ok Close ∷ []) is.0.queue (queued_in steps) (taken_in steps) w.queue
      (append-nil v.queue ∙ is.1.1) (taken_in_order is.0 w steps is.2)
  taken_in_order v w (failed error ∷ steps) is =
      line v.queue [] (Err error ∷ []) is.0.queue (queued_in steps) (taken_in steps) w.queue
      (append-nil v.queue ∙ is.1.1) (taken_in_order is.0 w steps is.2)
  taken_in_order v w (flushed gave answer ∷ steps) is =
      quiet v.queue is.0.queue (queued_in steps) (taken_in steps) w.queue (ap (λ x. x.queue) is.1.1) (taken_in_order is.0 w steps is.2)
  taken_in_order v w (told error ∷ steps) is =
      quiet v.queue is.0.queue (queued_in steps) (taken_in steps) w.queue (ap (λ x. x.queue) is.1.1) (taken_in_order is.0 w steps is.2)

  pub sent_in_order : (v w : View U Q I E) (steps : List (Step Q I E)) → IsRun reads given nothing breaks lacks seen leaves writes unwritten_so v steps w → SendsInOrder v steps w
  sent_in_order v w [] is = append-nil v.unsent ∙ sym (ap (λ x. x.unsent) is)
  sent_in_order v w (read came answer ∷ steps) is =
      quiet v.unsent is.0.unsent (texts_in steps) (sent_in steps) w.unsent (ap (λ x. x.unsent) is.1.5) (sent_in_order is.0 w steps is.2)
  sent_in_order v w (ready answer ∷ steps) is =
      quiet v.unsent is.0.unsent (texts_in steps) (sent_in steps) w.unsent (ap (λ x. x.unsent) is.1.3) (sent_in_order is.0 w steps is.2)
  sent_in_order v w (called item ∷ steps) is =
      quiet v.unsent is.0.unsent (texts_in steps) (sent_in steps) w.unsent (ap (λ x. x.unsent) is.1.4) (sent_in_order is.0 w steps is.2)
  sent_in_order v w (answered answer ∷ steps) is =
      quiet v.unsent is.0.unsent (texts_in steps) (sent_in steps) w.unsent (ap (λ x. x.unsent) is.1.3) (sent_in_order is.0 w steps is.2)
  sent_in_order v w (wrote message text ∷ steps) is =
      line v.unsent text [] is.0.unsent (texts_in steps) (sent_in steps) w.unsent
      (sym (ap (λ x. x.unsent) is.1.3)) (sent_in_order is.0 w steps is.2)
  sent_in_order v w (unwritten message error ∷ steps) is =
      quiet v.unsent is.0.unsent (texts_in steps) (sent_in steps) w.unsent (ap (λ x. x.unsent) is.1.2) (sent_in_order is.0 w steps is.2)
  sent_in_order v w (closed ∷ steps) is =
      quiet v.unsent is.0.unsent (texts_in steps) (sent_in steps) w.unsent (ap (λ x. x.unsent) is.1.2) (sent_in_order is.0 w steps is.2)
  sent_in_order v w (failed error ∷ steps) is =
      quiet v.unsent is.0.unsent (texts_in steps) (sent_in steps) w.unsent (ap (λ x. x.unsent) is.1.2) (sent_in_order is.0 w steps is.2)
  sent_in_order v w (flushed gave answer ∷ steps) is =
      line v.unsent [] gave is.0.unsent (texts_in steps) (sent_in steps) w.unsent
      (append-nil v.unsent ∙ is.1.0.1.front) (sent_in_order is.0 w steps is.2)
  sent_in_order v w (told error ∷ steps) is =
      quiet v.unsent is.0.unsent (texts_in steps) (sent_in steps) w.unsent (ap (λ x. x.unsent) is.1.1) (sent_in_order is.0 w steps is.2)

  calls_known : (v w : View U Q I E) (steps : List (Step Q I E)) → IsRun reads given nothing breaks lacks seen leaves writes unwritten_so v steps w → Grows v.service.called w.service.called (calls_in steps)
  calls_known v w [] is = subst (λ x. Grows v.service.called x.service.called []) (sym is) (grown-none v.service.called)
  calls_known v w (read came answer ∷ steps) is = still v.service.called is.0.service.called w.service.called (calls_in steps) (ap (λ x. x.service.called) is.1.5) (calls_known is.0 w steps is.2)
  calls_known v w (ready answer ∷ steps) is = still v.service.called is.0.service.called w.service.called (calls_in steps) (is.1.2.called) (calls_known is.0 w steps is.2)
  calls_known v w (called item ∷ steps) is = grown (item ∷ []) (calls_in steps) v.service.called is.0.service.called w.service.called (still v.service.called is.1.3.between.called is.0.service.called (item ∷ []) is.1.3.is_ready.called is.1.3.begun.called) (calls_known is.0 w steps is.2)
  calls_known v w (answered answer ∷ steps) is = still v.service.called is.0.service.called w.service.called (calls_in steps) (is.1.2.called) (calls_known is.0 w steps is.2)
  calls_known v w (wrote message text ∷ steps) is = still v.service.called is.0.service.called w.service.called (calls_in steps) (ap (λ x. x.service.called) is.1.3) (calls_known is.0 w steps is.2)
  calls_known v w (unwritten message error ∷ steps) is = still v.service.called is.0.service.called w.service.called (calls_in steps) (ap (λ x. x.service.called) is.1.2) (calls_known is.0 w steps is.2)
  calls_known v w (closed ∷ steps) is = still v.service.called is.0.service.called w.service.called (calls_in steps) (ap (λ x. x.service.called) is.1.2) (calls_known is.0 w steps is.2)
  calls_known v w (failed error ∷ steps) is = still v.service.called is.0.service.called w.service.called (calls_in steps) (ap (λ x. x.service.called) is.1.2) (calls_known is.0 w steps is.2)
  calls_known v w (flushed gave answer ∷ steps) is = still v.service.called is.0.service.called w.service.called (calls_in steps) (ap (λ x. x.service.called) is.1.1) (calls_known is.0 w steps is.2)
  calls_known v w (told error ∷ steps) is = still v.service.called is.0.service.called w.service.called (calls_in steps) (ap (λ x. x.service.called) is.1.1) (calls_known is.0 w steps is.2)

  came_known : (v w : View U Q I E) (steps : List (Step Q I E)) → IsRun reads given nothing breaks lacks seen leaves writes unwritten_so v steps w → Grows v.transport.received w.transport.received (came_in steps)
  came_known v w [] is = subst (λ x. Grows v.transport.received x.transport.received []) (sym is) (grown-none v.transport.received)
  came_known v w (read came answer ∷ steps) is = grown came (came_in steps) v.transport.received is.0.transport.received w.transport.received (is.1.4.1.received) (came_known is.0 w steps is.2)
  came_known v w (ready answer ∷ steps) is = still v.transport.received is.0.transport.received w.transport.received (came_in steps) (ap (λ x. x.transport.received) is.1.3) (came_known is.0 w steps is.2)
  came_known v w (called item ∷ steps) is = still v.transport.received is.0.transport.received w.transport.received (came_in steps) (ap (λ x. x.transport.received) is.1.4) (came_known is.0 w steps is.2)
  came_known v w (answered answer ∷ steps) is = still v.transport.received is.0.transport.received w.transport.received (came_in steps) (ap (λ x. x.transport.received) is.1.3) (came_known is.0 w steps is.2)
  came_known v w (wrote message text ∷ steps) is = still v.transport.received is.0.transport.received w.transport.received (came_in steps) (ap (λ x. x.transport.received) is.1.3) (came_known is.0 w steps is.2)
  came_known v w (unwritten message error ∷ steps) is = still v.transport.received is.0.transport.received w.transport.received (came_in steps) (ap (λ x. x.transport.received) is.1.2) (came_known is.0 w steps is.2)
  came_known v w (closed ∷ steps) is = still v.transport.received is.0.transport.received w.transport.received (came_in steps) (ap (λ x. x.transport.received) is.1.2) (came_known is.0 w steps is.2)
  came_known v w (failed error ∷ steps) is = still v.transport.received is.0.transport.received w.transport.received (came_in steps) (ap (λ x. x.transport.received) is.1.2) (came_known is.0 w steps is.2)
  came_known v w (flushed gave answer ∷ steps) is = still v.transport.received is.0.transport.received w.transport.received (came_in steps) (is.1.0.1.others.received) (came_known is.0 w steps is.2)
  came_known v w (told error ∷ steps) is = still v.transport.received is.0.transport.received w.transport.received (came_in steps) (ap (λ x. x.transport.received) is.1.1) (came_known is.0 w steps is.2)

  sent_known : (v w : View U Q I E) (steps : List (Step Q I E)) → IsRun reads given nothing breaks lacks seen leaves writes unwritten_so v steps w → Grows v.transport.sent w.transport.sent (sent_in steps)
  sent_known v w [] is = subst (λ x. Grows v.transport.sent x.transport.sent []) (sym is) (grown-none v.transport.sent)
  sent_known v w (read came answer ∷ steps) is = still v.transport.sent is.0.transport.sent w.transport.sent (sent_in steps) (is.1.4.1.others.sent) (sent_known is.0 w steps is.2)
  sent_known v w (ready answer ∷ steps) is = still v.transport.sent is.0.transport.sent w.transport.sent (sent_in steps) (ap (λ x. x.transport.sent) is.1.3) (sent_known is.0 w steps is.2)
  sent_known v w (called item ∷ steps) is = still v.transport.sent is.0.transport.sent w.transport.sent (sent_in steps) (ap (λ x. x.transport.sent) is.1.4) (sent_known is.0 w steps is.2)
  sent_known v w (answered answer ∷ steps) is = still v.transport.sent is.0.transport.sent w.transport.sent (sent_in steps) (ap (λ x. x.transport.sent) is.1.3) (sent_known is.0 w steps is.2)
  sent_known v w (wrote message text ∷ steps) is = still v.transport.sent is.0.transport.sent w.transport.sent (sent_in steps) (ap (λ x. x.transport.sent) is.1.3) (sent_known is.0 w steps is.2)
  sent_known v w (unwritten message error ∷ steps) is = still v.transport.sent is.0.transport.sent w.transport.sent (sent_in steps) (ap (λ x. x.transport.sent) is.1.2) (sent_known is.0 w steps is.2)
  sent_known v w (closed ∷ steps) is = still v.transport.sent is.0.transport.sent w.transport.sent (sent_in steps) (ap (λ x. x.transport.sent) is.1.2) (sent_known is.0 w steps is.2)
  sent_known v w (failed error ∷ steps) is = still v.transport.sent is.0.transport.sent w.transport.sent (sent_in steps) (ap (λ x. x.transport.sent) is.1.2) (sent_known is.0 w steps is.2)
  sent_known v w (flushed gave answer ∷ steps) is = grown gave (sent_in steps) v.transport.sent is.0.transport.sent w.transport.sent (is.1.0.1.sent) (sent_known is.0 w steps is.2)
  sent_known v w (told error ∷ steps) is = still v.transport.sent is.0.transport.sent w.transport.sent (sent_in steps) (ap (λ x. x.transport.sent) is.1.1) (sent_known is.0 w steps is.2)

  pub tells : (v w : View U Q I E) (steps : List (Step Q I E)) → IsRun reads given nothing breaks lacks seen leaves writes unwritten_so v steps w → Tells v steps w
  tells v w steps is = record { called = calls_known v w steps is; received = came_known v w steps is; sent = sent_known v w steps is }
