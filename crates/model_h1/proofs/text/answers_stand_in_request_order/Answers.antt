use Rattle.model_h1.proofs.ExchangeTraces.{spoken, exchange_heads}
use Rattle.model_h1.proofs.text.answers_stand_in_request_order.Goals as goal

pub returns-clause-text : goal.returns-clause-text
returns-clause-text c setting trace x = (spoken setting trace x).says

pub returns-clause-heads : goal.returns-clause-heads
returns-clause-heads c = exchange_heads

pub returns-clause-answers : goal.returns-clause-answers
returns-clause-answers c setting trace x = (spoken setting trace x).has

pub returns-clause-whole : goal.returns-clause-whole
returns-clause-whole c setting trace x = (spoken setting trace x).whole

pub returns-clause-slow : goal.returns-clause-slow
returns-clause-slow c setting trace moment x = (spoken setting trace x).slow moment
