-- A code that may be sent, and a text of UTF-8.
use Rattle.std.proofs.Common.{◌≡◌, ◌∙◌, ap, sym, Some, Ok, string_bytes}
use Rattle.std.specs.Option.{option_map}
use Rattle.ws_frames.specs.Protocol.{close_number}
use Rattle.ws_frames.specs.Refusal.{error_of}
use Rattle.model_h1.specs.Frame as frames
use Rattle.model_h1.specs.FrameText.{description_of}
use Rattle.ws_frames.proofs.CloseLemmas.{bad_code, bad_text, good_reason}
use Rattle.ws_frames.proofs.frame.close.read_reason.Goals as goal

pub returns-then-not-is_close_code-clause-says : goal.returns-then-not-is_close_code-clause-says
returns-then-not-is_close_code-clause-says c =
    sym (ap error_of (bad_code c.args.number c.args.text.now (sym c.is_close_code.ensures ∙ c.if-not-is_close_code.true)))

pub returns-in_default-clause-says : goal.returns-in_default-clause-says
returns-in_default-clause-says c =
    sym (ap error_of (bad_text c.args.number c.args.text.now (sym c.is_close_code.ensures ∙ c.if-not-is_close_code.false) c.in_default.ensures.cases.0))

pub returns-in-Ok-describe-clause-says : goal.returns-in-Ok-describe-clause-says
returns-in-Ok-describe-clause-says c =
    let utf8 = c.in-Ok.ensures.cases in
    let code : c.args.number ≡ close_number c.code_of.result = sym c.code_of.ensures.number in
    let text : description_of c.args.text.now ≡ option_map string_bytes c.in-Ok-describe.description
    = sym (c.in-Ok-describe.ensures.text ∙ ap description_of utf8.0) in
    good_reason c.args.number c.args.text.now (sym c.is_close_code.ensures ∙ c.if-not-is_close_code.false) utf8.1
    ∙ (λ i. Ok (frames.close (Some (record { code = code i; description = text i }))))

pub returns-in-Err-clause-says : goal.returns-in-Err-clause-says
returns-in-Err-clause-says c =
    let utf8 = c.in-Ok.ensures.cases in
    sym (ap error_of (good_reason c.args.number c.args.text.now (sym c.is_close_code.ensures ∙ c.if-not-is_close_code.false) utf8.1))
