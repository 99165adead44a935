use Rattle.std.proofs.Common.{Bool, true, false, Option, ap, sym, subst, ◌∙◌}
use Rattle.h1_client.specs.Bodies.{failing, IsPassedBody}
use Rattle.h1_client.specs.declared.connection.bodies.Reading.{Reading}
use Rattle.h1_client.specs.declared.connection.parts.Parts.{Parts}
use Rattle.h1_client.specs.declared.event.ClientEnd.TheVariants.{BrokenAnswer}
use Rattle.h1_client.proofs.BodyLemmas.{none_passes, wanted_passes, dropped_passes, unwanted_piece}
use Rattle.h1_client.proofs.StepLemmas.{not_failing}
use Rattle.h1_client.proofs.connection.parts.Parts.pass_body.Goals as goal

pub returns-in_default : goal.returns-in_default
returns-in_default c = none_passes c.args.self.now c.in_default.is

pub returns-then-is_wanted : goal.returns-then-is_wanted
returns-then-is_wanted c =
    subst (λ (o : Option Reading). IsPassedBody c.args.self.now (record c.args.self.now { reading = o })) c.in-Some.is
    (wanted_passes c.args.self.now c.in-Some.body c.in-Some.is (sym c.is_wanted.ensures ∙ c.if-is_wanted.true))

pub pass-requires : goal.pass-requires
pass-requires c = unwanted_piece c.args.self.now c.in-Some.body c.in-Some.is (sym c.is_wanted.ensures ∙ c.if-is_wanted.false) c.requires

pub returns-then-pass : goal.returns-then-pass
returns-then-pass c =
    subst (λ (q : Parts). IsPassedBody c.args.self.now q) (sym c.fail_where.ensures)
    (dropped_passes c.args.self.now c.in-Some.body _ _ (failing true BrokenAnswer c.args.self.now.failed) c.in-Some.is (sym c.is_wanted.ensures ∙ c.if-is_wanted.false)
    (unwanted_piece c.args.self.now c.in-Some.body c.in-Some.is (sym c.is_wanted.ensures ∙ c.if-is_wanted.false) c.requires) c.pass.ensures.rest c.pass.ensures.input
    (ap (λ (b : Bool). failing b BrokenAnswer c.args.self.now.failed) (sym c.if-pass.true ∙ c.pass.ensures.breaks)))

pub returns-else-pass : goal.returns-else-pass
returns-else-pass c =
    dropped_passes c.args.self.now c.in-Some.body _ _ c.args.self.now.failed c.in-Some.is (sym c.is_wanted.ensures ∙ c.if-is_wanted.false)
    (unwanted_piece c.args.self.now c.in-Some.body c.in-Some.is (sym c.is_wanted.ensures ∙ c.if-is_wanted.false) c.requires) c.pass.ensures.rest c.pass.ensures.input
    (sym (not_failing BrokenAnswer c.args.self.now.failed)
    ∙ ap (λ (b : Bool). failing b BrokenAnswer c.args.self.now.failed) (sym c.if-pass.false ∙ c.pass.ensures.breaks))
