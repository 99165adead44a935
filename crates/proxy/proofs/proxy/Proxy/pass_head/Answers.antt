use Rattle.std.proofs.Common.{Some, None, refl, sym, ◌∙◌}
use Rattle.std.proofs.lemmas.Bool.{false≢true}
use Rattle.proxy.proofs.Moves.{goes_then, client_done, resent}
use Rattle.model_h1.specs.Event as on
use Rattle.proxy.proofs.Work.{less_then, client_less, drop_sent, remarked, same_mark}
use Rattle.proxy.proofs.Served.{told_by, passed_serves, idle_serves, head_put, at_once_of, not_at_once}
use Rattle.proxy.proofs.Replies.{head_passes, head_on, head_as, left_put, follows_on, goes_as, closing_marks, over_as}
use Rattle.proxy.specs.Replies.{Marks}
use Rattle.std.proofs.Common.{Bool, true, false, [], ap}
use Rattle.model_proxy.specs.Answers.{says_close}
use Rattle.proxy.proofs.Puts.{hands_same}
use Rattle.proxy.proofs.Below.{below_same}
use Rattle.proxy.proofs.proxy.Proxy.pass_head.Goals as goal

pub returns-then-not-is_eof-clause-goes : goal.returns-then-not-is_eof-clause-goes
returns-then-not-is_eof-clause-goes c =
    let p = record c.args.self.now { server = Some c.args.server } in
    goes_then _ _ _ (resent p c.args.sent c.answered-sent.result (record { unsent = c.requires.runs.unsent; sent = c.requires.runs.sent }) c.answered-sent.ensures.whole c.answered-sent.ensures.broken)
    (client_done (record p { sent = Some c.answered-sent.result }) c.put_head.new.client c.in_ok-put_head.ensures.brings)

pub part-requires : goal.part-requires
part-requires c = record { runs = record { unsent = c.requires.runs.unsent; sent = refl } }

pub returns-clause-goes : goal.returns-clause-goes
returns-clause-goes c =
    let p = record c.args.self.now { server = Some c.args.server } in
    let q = record p { sent = Some c.answered-sent.result } in
    goes_then _ _ _ (resent p c.args.sent c.answered-sent.result (record { unsent = c.requires.runs.unsent; sent = c.requires.runs.sent }) c.answered-sent.ensures.whole c.answered-sent.ensures.broken)
    (goes_then _ _ _ (client_done q c.leave_body.new.client c.leave_body.ensures.brings)
    (goes_then _ _ _ (client_done (record q { client = c.leave_body.new.client }) c.put_head-2.new.client c.in_ok-put_head-2.ensures.brings) c.part.ensures.goes))

pub returns-then-not-is_eof-clause-works : goal.returns-then-not-is_eof-clause-works
returns-then-not-is_eof-clause-works c =
    let p = record c.args.self.now { server = Some c.args.server } in
    let q = record p { sent = Some c.answered-sent.result } in
    less_then 0 p q _ (remarked 0 p c.args.sent c.answered-sent.result (record { unsent = c.requires.runs.unsent; sent = c.requires.runs.sent }) (same_mark c.args.sent c.answered-sent.result c.answered-sent.ensures.whole c.answered-sent.ensures.broken))
    (client_less on.done q c.put_head.new.client c.in_ok-put_head.ensures.brings)

pub returns-clause-works : goal.returns-clause-works
returns-clause-works c =
    let p = record c.args.self.now { server = Some c.args.server } in
    let q = record p { sent = None } in
    let r = record q { client = c.leave_body.new.client } in
    less_then 0 p q _ (drop_sent p)
    (less_then 0 q r _ (client_less on.done q c.leave_body.new.client c.leave_body.ensures.brings)
    (less_then 0 r (record r { client = c.put_head-2.new.client }) _ (client_less on.done r c.put_head-2.new.client c.in_ok-put_head-2.ensures.brings) c.part.ensures.works))

pub returns-then-not-is_eof-clause-serves : goal.returns-then-not-is_eof-clause-serves
returns-then-not-is_eof-clause-serves c = λ x told.
    let p = record c.args.self.now { client = c.put_head.new.client; server = Some c.args.server } in
    let y = c.in_ok-put_head.ensures.wants x.0.told.0 x.0.told.1 in
    passed_serves c.args.sent.is_head _ p c.answered-sent.result c.requires.runs.unsent c.answered-sent.ensures.marks
    (told_by on.done c.args.self.now.client c.put_head.new.client c.in_ok-put_head.ensures.brings x.0.told) y.answered
    (y.answering (not_at_once c.reply_size-size.result (λ e. false≢true (sym c.if-not-is_eof.true ∙ c.is_eof.ensures.1 e))) x.0.waited)
    (y.asked c.args.sent.is_head x.1) (y.told told)

pub returns-clause-serves : goal.returns-clause-serves
returns-clause-serves c = λ x told.
    let y = head_put _ c.args.self.now c.leave_body.new.client c.put_head-2.new.client c.leave_body.ensures.brings c.leave_body.ensures.wants
    c.in_ok-put_head-2.ensures.brings c.in_ok-put_head-2.ensures.wants (at_once_of c.reply_size-size.result (c.is_eof.ensures.0 c.if-not-is_eof.false)) x.0 in
    c.part.ensures.serves
    (idle_serves (record c.args.self.now { client = c.put_head-2.new.client; sent = None }) (record { unsent = c.requires.runs.unsent; sent = refl })
    (record { told = y.told; answered = y.answered; complete = y.complete }))

pub returns-then-not-is_eof-clause-replies : goal.returns-then-not-is_eof-clause-replies
returns-then-not-is_eof-clause-replies c = λ a read says.
    let q = record c.args.self.now { client = c.put_head.new.client; sent = Some c.answered-sent.result; server = Some c.args.server } in (
      head_on _ false c.args.sent.is_head a c.args.self.now.client c.put_head.new.client (c.reply_size-size.ensures a says)
          (not_at_once c.reply_size-size.result (λ e. false≢true (sym c.if-not-is_eof.true ∙ c.is_eof.ensures.1 e)))
          (head_passes c.args.sent.is_head a _ _ c.args.self.now.client c.put_head.new.client (c.in_ok-head.ensures read.0 a read.1 says)
          (c.reply_size-size.ensures a says) c.in_ok-put_head.ensures.puts),
      follows_on _ false c.args.sent a c.args.server q (c.reply_size-size.ensures a says)
          (not_at_once c.reply_size-size.result (λ e. false≢true (sym c.if-not-is_eof.true ∙ c.is_eof.ensures.1 e))) (
            goes_as q c.answered-sent.result c.args.server c.args.server _ [] (record { unsent = c.requires.runs.unsent; sent = refl })
                (c.answered-sent.ensures.marks ∙ closing_marks c.args.sent.is_head _ (says_close a) (c.says_close.ensures read.0 a read.1 says)) refl (hands_same c.args.server),
            ap Some (c.answered-sent.ensures.same
                ∙ ap (λ (b : Bool). record c.args.sent { is_answered = true; closes = b }) (c.says_close.ensures read.0 a read.1 says)),
          ),
    )

pub returns-clause-replies : goal.returns-clause-replies
returns-clause-replies c = λ a read says. (
  head_as _ _ c.args.self.now.client c.put_head-2.new.client _ c.part.ensures.client
      (head_on _ true c.args.sent.is_head a c.args.self.now.client c.put_head-2.new.client (c.reply_size-size.ensures a says)
      (at_once_of c.reply_size-size.result (c.is_eof.ensures.0 c.if-not-is_eof.false))
      (left_put _ c.args.self.now.client c.leave_body.new.client c.put_head-2.new.client c.leave_body.ensures.puts
      (head_passes c.args.sent.is_head a _ _ c.leave_body.new.client c.put_head-2.new.client (c.in_ok-head.ensures read.0 a read.1 says)
      (c.reply_size-size.ensures a says) c.in_ok-put_head-2.ensures.puts))),
  follows_on _ true c.args.sent a c.args.server c.part.new.self (c.reply_size-size.ensures a says)
      (at_once_of c.reply_size-size.result (c.is_eof.ensures.0 c.if-not-is_eof.false))
      (over_as _ c.args.sent.is_whole _ (says_close a) c.args.server c.part.new.self c.answered-sent.ensures.whole
      (ap (λ (m : Marks). m.closes) c.answered-sent.ensures.marks ∙ c.says_close.ensures read.0 a read.1 says) c.part.ensures.over),
)

pub returns-then-not-is_eof-clause-below : goal.returns-then-not-is_eof-clause-below
returns-then-not-is_eof-clause-below c = below_same (Some c.args.server)
