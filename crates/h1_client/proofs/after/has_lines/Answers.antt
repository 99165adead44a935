use Rattle.h1_client.proofs.AfterLemmas.{has_lines_of}
use Rattle.h1_client.proofs.after.has_lines.Goals as goal

pub returns : goal.returns
returns c = λ lines is. has_lines_of c.args.name lines c.args.headers.now _ _ _ is c.get_all.ensures.values c.as_slice.ensures.value c.is_empty.ensures
