-- Steps of a turn that serves.
use Rattle.std.proofs.Common.{◌≡◌, ◌≤◌, ◌++◌, ℕ, Bool, true, false, Option, Some, None, is_some, List, [], ◌∷◌, length, Result, Ok, Err, inl, inr, refl, sym, ap, ◌∙◌, subst, arith, append-nil}
use Rattle.futures.specs.declared.task.Poll.{Poll}
use Rattle.futures.specs.declared.task.Poll.TheVariants.{Ready, Pending}
use Rattle.futures.specs.declared.task.context.Context.{Context}
use Rattle.http_config.specs.Causes.{Rose}
use Rattle.http_services.specs.Serving.{Serving, ReadySays, CallSays, AnswerSays}
use Rattle.http_transport.specs.Items.{Answers, Items, ItemSays}
use Rattle.http_transport.specs.Wiring.{Wiring}
use Rattle.http_transport.specs.declared.framed.error.FramedError.{FramedError}
use Rattle.ws_frames.specs.declared.error.ProtocolError.{ProtocolError}
use Rattle.ws_frames.specs.declared.error.ProtocolError.TheVariants as protocol
use Rattle.ws_dispatcher.specs.View.{View, IsSent, IsSettled}
use Rattle.ws_dispatcher.specs.Steps.{Step, Reading, IsOpen, IsStep, IsRun, TakesNone, item_read, end_read, error_of_ready, error_of_answer, answer_queued, still_called, read, ready, called, answered}
use Rattle.ws_dispatcher.specs.Polls.{IsReadGood, moves, ReadWaits, NeedsOf, ServeSays, read_error}
use Rattle.ws_dispatcher.specs.declared.inner.queue.Message.{Message}
use Rattle.ws_dispatcher.specs.declared.inner.dispatcher.Turn.TheVariants.{Counted, Idle, Over}
use Rattle.ws_dispatcher.specs.declared.error.DispatcherError.TheVariants.{Encoder, Decoder}

-- a view by its parts
made : {U Q I E : Type 0} → Wiring → U → List ℕ → List ℕ → Serving Q I E → Option Q → Bool → List (Result (Message I) E) → Bool → Bool → Option E → Bool → View U Q I E
made a b c d e f g h i j k l = record { transport = a; codec = b; unread = c; unsent = d; service = e; waiting = f; calling = g; queue = h; ended = i; closing = j; failing = k; flushing = l }

-- two views that agree in each part are one
pub same_view : {U Q I E : Type 0} (v w : View U Q I E) → w.transport ≡ v.transport → w.codec ≡ v.codec → w.unread ≡ v.unread → w.unsent ≡ v.unsent
    → w.service ≡ v.service → w.waiting ≡ v.waiting → w.calling ≡ v.calling → w.queue ≡ v.queue → w.ended ≡ v.ended
    → w.closing ≡ v.closing → w.failing ≡ v.failing → w.flushing ≡ v.flushing → w ≡ v
unfolding made
same_view v w a b c d e f g h i j k l =
    ap (λ x. made x w.codec w.unread w.unsent w.service w.waiting w.calling w.queue w.ended w.closing w.failing w.flushing) a
    ∙ ap (λ x. made v.transport x w.unread w.unsent w.service w.waiting w.calling w.queue w.ended w.closing w.failing w.flushing) b
    ∙ ap (λ x. made v.transport v.codec x w.unsent w.service w.waiting w.calling w.queue w.ended w.closing w.failing w.flushing) c
    ∙ ap (λ x. made v.transport v.codec v.unread x w.service w.waiting w.calling w.queue w.ended w.closing w.failing w.flushing) d
    ∙ ap (λ x. made v.transport v.codec v.unread v.unsent x w.waiting w.calling w.queue w.ended w.closing w.failing w.flushing) e
    ∙ ap (λ x. made v.transport v.codec v.unread v.unsent v.service x w.calling w.queue w.ended w.closing w.failing w.flushing) f
    ∙ ap (λ x. made v.transport v.codec v.unread v.unsent v.service v.waiting x w.queue w.ended w.closing w.failing w.flushing) g
    ∙ ap (λ x. made v.transport v.codec v.unread v.unsent v.service v.waiting v.calling x w.ended w.closing w.failing w.flushing) h
    ∙ ap (λ x. made v.transport v.codec v.unread v.unsent v.service v.waiting v.calling v.queue x w.closing w.failing w.flushing) i
    ∙ ap (λ x. made v.transport v.codec v.unread v.unsent v.service v.waiting v.calling v.queue v.ended x w.failing w.flushing) j
    ∙ ap (λ x. made v.transport v.codec v.unread v.unsent v.service v.waiting v.calling v.queue v.ended v.closing x w.flushing) k
    ∙ ap (λ x. made v.transport v.codec v.unread v.unsent v.service v.waiting v.calling v.queue v.ended v.closing v.failing x) l

pub none_waits : {A : Type 0} (x : Option A) → is_some x ≡ false → x ≡ None
none_waits None is = refl
none_waits (Some x) is = cc

clash : true ≡ false → ⊥
clash is = cc

-- where nothing more can be buffered and all is sent, nothing is queued
none_queued : {U Q I E : Type 0} (v : View U Q I E) → IsSettled v → IsSent v → v.queue ≡ []
none_queued v (inl none) sent = none
none_queued v (inr full) sent =
    absurd
    (let none = ap length sent.unsent in
    omega (arith, full, none))

module _ {U Q I E R : Type 0} (reads : U → List ℕ → R → Type 0) (given : Q → R → R) (nothing : R)
    (breaks : ProtocolError → R → Type 0) (lacks : ProtocolError → Type 0) (seen : U → List ℕ → Type 0)
    (leaves : ProtocolError → U → List ℕ → U → List ℕ → Type 0) (writes : U → I → List ℕ → U → Type 0) (unwritten_so : ProtocolError → U → I → U → Type 0) (v w : View U Q I E) (cx : Context) where
  -- the run of one step
  pub one : (d : Step Q I E) → IsStep reads given nothing breaks lacks seen leaves writes unwritten_so v d w → IsRun reads given nothing breaks lacks seen leaves writes unwritten_so v (d ∷ []) w
  one d is = (w, is, refl)

  -- a read, after which all but this is as before
  was_read : (answer : Reading Q) → IsOpen v → IsSettled v → is_some v.waiting ≡ false → v.calling ≡ false → v.ended ≡ false
      → (woken : Bool) (came : List ℕ) → Items reads given nothing breaks lacks seen leaves v.transport w.transport woken v.codec v.unread came w.codec w.unread answer
      → w.unsent ≡ v.unsent → w.service ≡ v.service → w.waiting ≡ item_read answer → w.calling ≡ v.calling → w.queue ≡ v.queue
      → w.ended ≡ end_read answer → w.closing ≡ v.closing → w.failing ≡ v.failing → w.flushing ≡ v.flushing
      → IsRun reads given nothing breaks lacks seen leaves writes unwritten_so v (read came answer ∷ []) w
  was_read answer so settled waiting calling ended woken came items d e f g h i j k l =
      one (read came answer) (
        so,
        none_waits v.waiting waiting,
        calling,
        ended,
        (woken, items),
        same_view (record v { transport = w.transport; codec = w.codec; unread = w.unread; waiting = item_read answer; ended = end_read answer }) w refl refl refl d e f g h i j k l,
        settled,
      )

  needs_read : w.calling ≡ false → w.waiting ≡ None → w.ended ≡ false → (came : List ℕ) → ReadWaits v w cx came
      → NeedsOf {I = I} {E = E} w.calling w.waiting w.ended v w cx (read came Pending ∷ [])
  needs_read c n e came is = rw (c, n, e) (came, refl, is)

  waits_so : (came : List ℕ) → Answers reads given nothing breaks lacks seen leaves v.transport w.transport cx.is_woken v.codec v.unread came w.codec w.unread Pending
      → ReadWaits v w cx came
  waits_so came (inl is) = inl is.1
  waits_so came (inr is) = inr (is.1, is.2)

  pub read_pending : IsOpen v → IsSettled v → is_some v.waiting ≡ false → v.calling ≡ false → v.ended ≡ false
      → ItemSays reads given nothing breaks lacks seen leaves v.transport w.transport cx.is_woken v.codec v.unread w.codec w.unread Pending
      → w.unsent ≡ v.unsent → w.service ≡ v.service → w.waiting ≡ v.waiting → w.calling ≡ v.calling → w.queue ≡ v.queue
      → w.ended ≡ v.ended → w.closing ≡ v.closing → w.failing ≡ v.failing → w.flushing ≡ v.flushing
      → ServeSays reads given nothing breaks lacks seen leaves writes unwritten_so v w cx Idle
  read_pending so settled waiting calling ended says d e f g h i j k l = (
    read says.0 Pending ∷ [],
    was_read Pending so settled waiting calling ended cx.is_woken says.0 says.1 d e (f ∙ none_waits v.waiting waiting) g h (i ∙ ended) j k l,
    ((tt, tt), needs_read (g ∙ calling) (f ∙ none_waits v.waiting waiting) (i ∙ ended) says.0 (waits_so says.0 says.1.answers), h, d, l, omega arith),
  )

  pub read_counted : (answer : Reading Q) → IsReadGood answer → 1 ≤ moves answer → IsOpen v → IsSettled v → is_some v.waiting ≡ false → v.calling ≡ false → v.ended ≡ false
      → ItemSays reads given nothing breaks lacks seen leaves v.transport w.transport cx.is_woken v.codec v.unread w.codec w.unread answer
      → w.unsent ≡ v.unsent → w.service ≡ v.service → w.waiting ≡ item_read answer → w.calling ≡ v.calling → w.queue ≡ v.queue
      → w.ended ≡ end_read answer → w.closing ≡ v.closing → w.failing ≡ v.failing → w.flushing ≡ v.flushing
      → ServeSays reads given nothing breaks lacks seen leaves writes unwritten_so v w cx Counted
  read_counted answer good moved so settled waiting calling ended says d e f g h i j k l = (
    read says.0 answer ∷ [],
    was_read answer so settled waiting calling ended cx.is_woken says.0 says.1 d e f g h i j k l,
    ((good, tt), omega (arith, moved), omega arith),
  )

  pub read_refused : (cause : FramedError ProtocolError) (error : ProtocolError) → IsOpen v → IsSettled v → is_some v.waiting ≡ false → v.calling ≡ false → v.ended ≡ false
      → ItemSays reads given nothing breaks lacks seen leaves v.transport w.transport cx.is_woken v.codec v.unread w.codec w.unread (Ready (Some (Err cause)))
      → error ≡ read_error cause
      → w.unsent ≡ v.unsent → w.service ≡ v.service → w.waiting ≡ v.waiting → w.calling ≡ v.calling → w.queue ≡ v.queue
      → w.ended ≡ v.ended → w.closing ≡ v.closing → w.failing ≡ v.failing → w.flushing ≡ v.flushing
      → ServeSays reads given nothing breaks lacks seen leaves writes unwritten_so v w cx (Over (Err (Decoder error)))
  read_refused cause error so settled waiting calling ended says is d e f g h i j k l = (
    read says.0 (Ready (Some (Err cause))) ∷ [],
    was_read (Ready (Some (Err cause))) so settled waiting calling ended cx.is_woken says.0 says.1 d e (f ∙ none_waits v.waiting waiting) g h (i ∙ ended) j k l,
    ((says.0, cause, ([], refl, tt), is), omega arith),
  )

  serves : (answer : Poll (Result Unit E)) → TakesNone answer → IsOpen v → IsSettled v → v.calling ≡ false → is_some v.waiting ≡ true → ReadySays v.service w.service answer
      → w.transport ≡ v.transport → w.codec ≡ v.codec → w.unread ≡ v.unread → w.unsent ≡ v.unsent → w.waiting ≡ v.waiting → w.calling ≡ v.calling
      → w.queue ≡ v.queue → w.ended ≡ v.ended → w.closing ≡ v.closing → w.failing ≡ error_of_ready answer → w.flushing ≡ v.flushing
      → IsStep reads given nothing breaks lacks seen leaves writes unwritten_so v (ready answer) w
  serves answer none so settled calling waiting says a b c d f g h i j k l =
      (so, calling, says, same_view (record v { service = w.service; failing = error_of_ready answer }) w a b c d refl f g h i j k l, none, waiting, settled)

  needs_ready : (calling : Bool) (waiting : Option Q) (ended : Bool) → calling ≡ false → is_some waiting ≡ true
      → Rose v.service.ready_waits w.service.ready_waits → NeedsOf calling waiting ended v w cx (ready Pending ∷ [])
  needs_ready false (Some item) ended not_calling is rose = (refl, rose)
  needs_ready true (Some item) ended not_calling is rose = absurd (clash not_calling)
  needs_ready calling None ended not_calling is rose = absurd (clash (sym is))

  pub ready_pending : IsOpen v → IsSettled v → v.calling ≡ false → is_some v.waiting ≡ true → ReadySays v.service w.service Pending
      → w.transport ≡ v.transport → w.codec ≡ v.codec → w.unread ≡ v.unread → w.unsent ≡ v.unsent → w.waiting ≡ v.waiting → w.calling ≡ v.calling
      → w.queue ≡ v.queue → w.ended ≡ v.ended → w.closing ≡ v.closing → w.failing ≡ v.failing → w.flushing ≡ v.flushing
      → ServeSays reads given nothing breaks lacks seen leaves writes unwritten_so v w cx Idle
  ready_pending so settled calling waiting says a b c d f g h i j k l = (
    ready Pending ∷ [],
    one (ready Pending) (serves Pending tt so settled calling waiting says a b c d f g h i j (k ∙ so.no_error) l),
    ((tt, tt), needs_ready w.calling w.waiting w.ended (g ∙ calling) (ap is_some f ∙ waiting) says.ready_waits.1, h, d, l, omega arith),
  )

  pub ready_failed : (error : E) → IsOpen v → IsSettled v → v.calling ≡ false → is_some v.waiting ≡ true → ReadySays v.service w.service (Ready (Err error))
      → w.transport ≡ v.transport → w.codec ≡ v.codec → w.unread ≡ v.unread → w.unsent ≡ v.unsent → w.waiting ≡ v.waiting → w.calling ≡ v.calling
      → w.queue ≡ v.queue → w.ended ≡ v.ended → w.closing ≡ v.closing → w.failing ≡ Some error → w.flushing ≡ v.flushing
      → ServeSays reads given nothing breaks lacks seen leaves writes unwritten_so v w cx Counted
  ready_failed error so settled calling waiting says a b c d f g h i j k l = (
    ready (Ready (Err error)) ∷ [],
    one (ready (Ready (Err error))) (serves (Ready (Err error)) tt so settled calling waiting says a b c d f g h i j k l),
    ((tt, tt), omega arith, omega arith),
  )

  call_polled : (answer : Poll (Result I E)) → IsOpen v → IsSettled v → v.calling ≡ true → AnswerSays v.service w.service answer
      → w.transport ≡ v.transport → w.codec ≡ v.codec → w.unread ≡ v.unread → w.unsent ≡ v.unsent → w.waiting ≡ v.waiting → w.calling ≡ still_called answer
      → w.queue ≡ v.queue ++ answer_queued answer → w.ended ≡ v.ended → w.closing ≡ v.closing → w.failing ≡ error_of_answer answer → w.flushing ≡ v.flushing
      → IsRun reads given nothing breaks lacks seen leaves writes unwritten_so v (answered answer ∷ []) w
  call_polled answer so settled calling says a b c d f g h i j k l =
      one (answered answer) (
        so,
        calling,
        says,
        same_view (record v { service = w.service; calling = still_called answer; queue = v.queue ++ answer_queued answer; failing = error_of_answer answer })
            w a b c d refl f g h i j k l,
        settled,
      )

  needs_call : (calling : Bool) (waiting : Option Q) (ended : Bool) → calling ≡ true
      → Rose v.service.call_waits w.service.call_waits → NeedsOf calling waiting ended v w cx (answered Pending ∷ [])
  needs_call true waiting ended is rose = (refl, rose)
  needs_call false waiting ended is rose = absurd (clash (sym is))

  pub call_pending : IsOpen v → IsSettled v → v.calling ≡ true → AnswerSays v.service w.service Pending
      → w.transport ≡ v.transport → w.codec ≡ v.codec → w.unread ≡ v.unread → w.unsent ≡ v.unsent → w.waiting ≡ v.waiting → w.calling ≡ true
      → w.queue ≡ v.queue → w.ended ≡ v.ended → w.closing ≡ v.closing → w.failing ≡ v.failing → w.flushing ≡ v.flushing
      → ServeSays reads given nothing breaks lacks seen leaves writes unwritten_so v w cx Idle
  call_pending so settled calling says a b c d f g h i j k l = (
    answered Pending ∷ [],
    call_polled Pending so settled calling says a b c d f g (h ∙ sym (append-nil v.queue)) i j (k ∙ so.no_error) l,
    ((tt, tt), needs_call w.calling w.waiting w.ended g says.call_waits.1, h, d, l, omega arith),
  )

  pub call_answered : (answer : Result I E) → IsOpen v → IsSettled v → v.calling ≡ true → AnswerSays v.service w.service (Ready answer)
      → w.transport ≡ v.transport → w.codec ≡ v.codec → w.unread ≡ v.unread → w.unsent ≡ v.unsent → w.waiting ≡ v.waiting → w.calling ≡ false
      → w.queue ≡ v.queue ++ answer_queued (Ready answer) → w.ended ≡ v.ended → w.closing ≡ v.closing → w.failing ≡ error_of_answer (Ready answer) → w.flushing ≡ v.flushing
      → ServeSays reads given nothing breaks lacks seen leaves writes unwritten_so v w cx Counted
  call_answered answer so settled calling says a b c d f g h i j k l =
      (answered (Ready answer) ∷ [], call_polled (Ready answer) so settled calling says a b c d f g h i j k l, ((tt, tt), omega arith, omega arith))

  pub no_room : w ≡ v → IsOpen v → v.calling ≡ true → ServeSays reads given nothing breaks lacks seen leaves writes unwritten_so v w cx (Over (Err (Encoder protocol.NoMemory)))
  no_room is so calling = ([], is, ((ap (λ x. x.failing) is ∙ so.no_error, inr (inr (refl, tt, ap (λ x. x.calling) is ∙ calling))), omega arith))

  pub asked : (between : Serving Q I E) (item : Q) → IsOpen v → IsSettled v → v.calling ≡ false → v.waiting ≡ Some item → ReadySays v.service between (Ready (Ok tt))
      → CallSays between w.service item → w ≡ record v { service = w.service; waiting = None; calling = true }
      → ServeSays reads given nothing breaks lacks seen leaves writes unwritten_so v w cx Counted
  asked between item so settled calling waiting readies calls is = (
    called item ∷ [],
    one (called item) (so, waiting, calling, record { between = between; is_ready = readies; begun = calls }, is, settled),
    ((tt, tt), omega arith, omega arith),
  )

  -- the input has ended, and nothing waits: it ends where all is sent, and waits for that else
  pub finished : IsOpen v → IsSettled v → v.calling ≡ false → is_some v.waiting ≡ false → v.ended ≡ true → IsSent v → w ≡ v
      → ServeSays reads given nothing breaks lacks seen leaves writes unwritten_so v w cx (Over (Ok tt))
  finished so settled calling waiting ended sent is =
      subst (λ x. ServeSays reads given nothing breaks lacks seen leaves writes unwritten_so v x cx (Over (Ok tt))) (sym is) (
        [],
        refl,
        (
          (tt, sent, so.no_error, inr (record { ended = ended; waiting = none_waits v.waiting waiting; calling = calling; queue = none_queued v settled sent })),
          omega arith,
        ),
      )

  needs_sending : (calling : Bool) (waiting : Option Q) (ended : Bool) → calling ≡ false → is_some waiting ≡ false → ended ≡ true → ¬ (IsSent w)
      → NeedsOf {I = I} {E = E} calling waiting ended v w cx []
  needs_sending false None true a b d unsent = (refl, unsent)
  needs_sending false None false a b d unsent = absurd (clash (sym d))
  needs_sending false (Some item) ended a b d unsent = absurd (clash b)
  needs_sending true waiting ended a b d unsent = absurd (clash a)

  pub unsent_idle : v.calling ≡ false → is_some v.waiting ≡ false → v.ended ≡ true → ¬ (IsSent w) → w ≡ v
      → ServeSays reads given nothing breaks lacks seen leaves writes unwritten_so v w cx Idle
  unsent_idle calling waiting ended unsent is = (
    [],
    is,
    (
      tt,
      needs_sending w.calling w.waiting w.ended (ap (λ x. x.calling) is ∙ calling) (ap (λ x. is_some x.waiting) is ∙ waiting) (ap (λ x. x.ended) is ∙ ended) unsent,
      ap (λ x. x.queue) is,
      ap (λ x. x.unsent) is,
      ap (λ x. x.flushing) is,
      omega arith,
    ),
  )
