use Rattle.std.proofs.Common.{codes}
use Rattle.h1_client.proofs.AfterLemmas.{last_line_of}
use Rattle.h1_client.proofs.after.last_line.Goals as goal

pub returns : goal.returns
returns c = λ lines is. last_line_of (codes "connection") lines c.args.headers.now _ _ _ is c.get_all.ensures.values c.as_slice.ensures.value c.last.ensures.value
