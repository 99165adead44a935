use Rattle.std.proofs.Common.{Some, false, not}
use Rattle.http_framing.specs.Kinds.{kind_of}
use Rattle.h1_client.proofs.connection.parts.Parts.answer.Goals as goal

pub returns : goal.returns
returns c = record {
  kind = kind_of c.body_to-kind.result;
  kind_is = λ a method says head. c.body_to-kind.ensures a method says head;
  closes = λ piece a w reading says asked. c.closes_after-closes.ensures piece a w reading says asked.closes asked.is_head;
  parts = λ i. record c.args.self.now {
    waiting = c.pop.ensures i;
    closes = c.closes_after-closes.result;
    is_last = c.either-is_last.ensures i;
    reading = Some (record { rest = c.whole_rest-rest.ensures i; is_done = not (c.has_body-follows.ensures i); was_dropped = false });
  };
}
