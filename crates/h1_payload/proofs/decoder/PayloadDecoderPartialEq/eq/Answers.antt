use Rattle.std.proofs.Common.{◌≡◌, ◌↔◌, Bool, true, sym, subst}
use Rattle.h1_payload.proofs.Equal.{are_one}
use Rattle.h1_payload.proofs.decoder.PayloadDecoderPartialEq.eq.Goals as goal

pub returns-clause-same : goal.returns-clause-same
returns-clause-same c =
    subst (λ (r : Bool). (r ≡ true) ↔ (c.args.self.now ≡ c.args.other.now)) (sym c.is_equal.ensures) (are_one c.args.self.now c.args.other.now)
