use Rattle.model_h1.specs.Frame.{Message as Said, frame, text}
use Rattle.ws_frames.specs.Sent.{message_says}
use Rattle.ws_frames.specs.declared.message.Message.{Message}
use Rattle.raspcream.specs.Served.{IsMessageOf}
use Rattle.std.proofs.Common.{◌≡◌, ℕ, IfOk, refl, sym, subst}
use Rattle.raspcream.proofs.NamedLemmas.{fails_too, no_text, no_close, no_bytes}
use Rattle.std.proofs.lemmas.Result.{IfErr-weaker, IfOk-weaker}
use Rattle.raspcream.proofs.socket.message_of.Goals as goal

pub returns-then-kind-eq1-clause-why : goal.returns-then-kind-eq1-clause-why
returns-then-kind-eq1-clause-why c = IfErr-weaker _ _ _ (λ why. fails_too _ _ why (no_text _ _ _ c.if-kind-eq1.true)) c.text_message.ensures.why

pub returns-then-kind-eq8-clause-why : goal.returns-then-kind-eq8-clause-why
returns-then-kind-eq8-clause-why c = IfErr-weaker _ _ _ (λ why. fails_too _ _ why (no_close _ _ _ c.if-kind-eq8.true)) c.close_of.ensures.why

pub returns-clause-why : goal.returns-clause-why
returns-clause-why c = IfErr-weaker _ _ _ (λ why. fails_too _ _ why (no_bytes _ _ _ c.if-kind-eq1.false c.if-kind-eq8.false)) c.bytes_message.ensures.why

pub returns-then-kind-eq1-clause-ok : goal.returns-then-kind-eq1-clause-ok
returns-then-kind-eq1-clause-ok c =
    let both : IsMessageOf c.args.kind c.args.code c.args.input.now (frame (text c.args.input.now)) = (c.if-kind-eq1.true, refl) in
    IfOk-weaker _ _ _
    (λ (message : Message) (says : message_says message ≡ frame (text c.args.input.now)). subst (λ (m : Said). IsMessageOf c.args.kind c.args.code c.args.input.now m) (sym says) both)
    c.text_message.ensures.ok

pub returns-then-kind-eq8-clause-ok : goal.returns-then-kind-eq8-clause-ok
returns-then-kind-eq8-clause-ok c =
    subst (λ (k : ℕ). IfOk c.close_of.result (λ (message : Message). IsMessageOf k c.args.code c.args.input.now (message_says message))) (sym c.if-kind-eq8.true) c.close_of.ensures.ok

pub returns-clause-ok : goal.returns-clause-ok
returns-clause-ok c = IfOk-weaker _ _ _ (λ (message : Message) (named : (code : ℕ) → IsMessageOf c.args.kind code c.args.input.now (message_says message)). named c.args.code) c.bytes_message.ensures.ok
