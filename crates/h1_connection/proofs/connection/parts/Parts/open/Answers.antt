use Rattle.std.proofs.Common.{false, refl, ◌∙◌}
use Rattle.h1_connection.specs.declared.connection.exchange.Reply.TheVariants.{Unanswered}
use Rattle.h1_connection.proofs.connection.parts.Parts.open.Goals as goal

pub returns : goal.returns
returns c = (
  record {
    request = c.request_of.result;
    rest = c.body.result;
    reply = Unanswered;
    was_pulled = false;
    was_dropped = false;
    had_continue = false;
    body_is_done = false;
  },
  refl,
  record { rest = c.body.ensures ∙ c.whole_rest-rest.ensures; asked = c.request_of.ensures; plain = refl },
)
