use Rattle.proxy.proofs.proxy.Proxy.pass.Goals as goal

pub returns-then-sent-clause-works : goal.returns-then-sent-clause-works
returns-then-sent-clause-works c = c.in_ok-moved.ensures.works c.if-sent.true

pub returns-clause-works : goal.returns-clause-works
returns-clause-works c = c.in_ok-more.ensures.works c.if-sent.false

pub returns-then-sent-clause-serves : goal.returns-then-sent-clause-serves
returns-then-sent-clause-serves c = c.in_ok-moved.ensures.serves c.if-sent.true

pub returns-clause-serves : goal.returns-clause-serves
returns-clause-serves c = c.in_ok-more.ensures.serves c.if-sent.false

pub returns-then-sent-clause-replies : goal.returns-then-sent-clause-replies
returns-then-sent-clause-replies c =
    c.in_ok-moved.ensures.replies c.if-sent.true

pub returns-clause-replies : goal.returns-clause-replies
returns-clause-replies c = c.in_ok-more.ensures.replies c.if-sent.false
