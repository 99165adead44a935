-- What a reply shows stays while its lines are written.
use Rattle.std.proofs.Common.{refl, ◌∙◌}
use Rattle.raspcream.specs.Shown.{KeepsRest}
use Rattle.raspcream.specs.declared.reply.Reply.{Reply}

pub keeps_all : (reply : Reply) → KeepsRest reply reply
keeps_all reply = record { kind = refl; reason = refl; number = refl; method = refl; target = refl; minor = refl; body = refl }

pub keeps_on : (first second third : Reply) → KeepsRest first second → KeepsRest second third → KeepsRest first third
keeps_on first second third before after = record {
  kind = after.kind ∙ before.kind;
  reason = after.reason ∙ before.reason;
  number = after.number ∙ before.number;
  method = after.method ∙ before.method;
  target = after.target ∙ before.target;
  minor = after.minor ∙ before.minor;
  body = after.body ∙ before.body;
}
