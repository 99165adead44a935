use Rattle.std.proofs.Common.{ap}
use Rattle.serve_blocking.specs.Served.{Line}
use Rattle.serve_blocking.proofs.Completed.{opened_here, opened_follows, doubted_here, judged_here, refused_here, unrefused_here, uncompleted_here, completed_at}
use Rattle.serve_blocking.proofs.Handled.{notes_refused, notes_admitted}
use Rattle.serve_blocking.proofs.connection.take.Goals as goal

-- ---- a head that is refused

pub returns-in-Some-clause-handled : goal.returns-in-Some-clause-handled
returns-in-Some-clause-handled g c =
    notes_refused c.args.body.now.judges c.args.item.now _ _ (judged_here _ _ c.args.item.now _ _ _ c.body.view_is c.judged-doubt.ensures c.refusal.ensures c.in-Some.is)

pub returns-in-Some-clause-follows : goal.returns-in-Some-clause-follows
returns-in-Some-clause-follows g c =
    opened_follows c.args.body.now _ _ c.args.item.now (opened_here c.args.body.now _ _ c.args.item.now _ _ c.body.view_is c.judged-doubt.ensures c.is_some.ensures c.begin_request.ensures) c.empty.ensures.follows

pub returns-in-Some-clause-refused : goal.returns-in-Some-clause-refused
returns-in-Some-clause-refused g c =
    refused_here c.args.body.now _ _ c.args.item.now _ _ c.empty.result (judged_here _ _ c.args.item.now _ _ _ c.body.view_is c.judged-doubt.ensures c.refusal.ensures c.in-Some.is)
    (opened_here c.args.body.now _ _ c.args.item.now _ _ c.body.view_is c.judged-doubt.ensures c.is_some.ensures c.begin_request.ensures) c.new-head.ensures c.empty.ensures.answers

pub returns-in-Some-clause-completed : goal.returns-in-Some-clause-completed
returns-in-Some-clause-completed g c =
    uncompleted_here c.args.body.now c.empty.new.body c.args.item.now _ c.empty.result (judged_here _ _ c.args.item.now _ _ _ c.body.view_is c.judged-doubt.ensures c.refusal.ensures c.in-Some.is)

-- ---- any other

pub ask-requires-clause-unwanted : goal.ask-requires-clause-unwanted
ask-requires-clause-unwanted g c =
    ap (λ (l : Line). l.wanted) (opened_here c.args.body.now _ _ c.args.item.now _ _ c.body.view_is c.judged-doubt.ensures c.is_some.ensures c.begin_request.ensures)

pub ask-requires-clause-doubted : goal.ask-requires-clause-doubted
ask-requires-clause-doubted g c =
    doubted_here c.args.body.now _ c.args.item.now (opened_here c.args.body.now _ _ c.args.item.now _ _ c.body.view_is c.judged-doubt.ensures c.is_some.ensures c.begin_request.ensures)

pub returns-in-None-clause-handled : goal.returns-in-None-clause-handled
returns-in-None-clause-handled g c =
    notes_admitted c.args.body.now.judges c.args.item.now _ _ (judged_here _ _ c.args.item.now _ _ _ c.body.view_is c.judged-doubt.ensures c.refusal.ensures c.in-None.is) c.ask.ensures.handled

pub returns-in-None-clause-follows : goal.returns-in-None-clause-follows
returns-in-None-clause-follows g c =
    opened_follows c.args.body.now _ _ c.args.item.now (opened_here c.args.body.now _ _ c.args.item.now _ _ c.body.view_is c.judged-doubt.ensures c.is_some.ensures c.begin_request.ensures) c.ask.ensures.follows

pub returns-in-None-clause-refused : goal.returns-in-None-clause-refused
returns-in-None-clause-refused g c =
    unrefused_here c.args.body.now c.ask.new.body c.args.item.now c.ask.result (judged_here _ _ c.args.item.now _ _ _ c.body.view_is c.judged-doubt.ensures c.refusal.ensures c.in-None.is)

pub returns-in-None-clause-completed : goal.returns-in-None-clause-completed
returns-in-None-clause-completed g c =
    completed_at c.args.body.now _ _ c.args.item.now c.ask.result (opened_here c.args.body.now _ _ c.args.item.now _ _ c.body.view_is c.judged-doubt.ensures c.is_some.ensures c.begin_request.ensures)
    c.ask.ensures.completed
