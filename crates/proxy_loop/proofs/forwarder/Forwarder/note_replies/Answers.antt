use Rattle.proxy_loop.proofs.Histories.{goes_on, seen, seen_noted}
use Rattle.proxy_loop.proofs.forwarder.Forwarder.note_replies.Goals as goal

pub invariant_of-self : goal.invariant_of-self
invariant_of-self c = goes_on c.self.inside.proxy c.note_replies.new.self c.self.invariant c.note_replies.ensures.goes c.note_replies.ensures.noted

pub returns : goal.returns
returns c = record {
  goes = seen c.self.inside.proxy c.args.self.now c.note_replies.new.self c.self.view_is c.note_replies.ensures.goes;
  noted = seen_noted c.self.inside.proxy c.args.self.now c.note_replies.new.self c.self.view_is c.note_replies.ensures.noted;
}
