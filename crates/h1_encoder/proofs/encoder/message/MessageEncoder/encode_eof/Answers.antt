use Rattle.std.proofs.Common.{◌≡◌, ℕ, ◌<◌, subst}
use Rattle.std.specs.Prelude.{◌↔◌, Err}
use Rattle.h1_encoder.specs.Encoding.{Encoding, missing_of}
use Rattle.h1_encoder.specs.declared.error.EncodeError.TheVariants.{Short}
use Rattle.h1_encoder.proofs.encoder.message.MessageEncoder.encode_eof.Goals as goal

pub returns-clause-short : goal.returns-clause-short
returns-clause-short g c =
    let P : Encoding → Type 0 = λ e. (n : ℕ) → (c.encode_eof.result ≡ Err (Short n)) ↔ ((missing_of e ≡ n) × (0 < n)) in
    subst P c.self.view_is c.encode_eof.ensures.short
