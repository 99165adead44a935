use Rattle.std.proofs.Common.{sym, subst}
use Rattle.h1_payload.specs.Fitting.{Fits}
use Rattle.http_framing.specs.Kinds.{kind_of}
use Rattle.h1_payload.proofs.Fitting.{whole_fits}
use Rattle.h1_payload.proofs.decoder.PayloadDecoder.whole.Goals as goal

pub invariant_of-result : goal.invariant_of-result
invariant_of-result c = subst Fits (sym c.whole.ensures) (whole_fits (kind_of c.args.kind))
