-- What was found is what is taken.
use Rattle.std.proofs.Common.{◌≡◌, ℕ, ◌+◌, List, refl, sym, ap, ◌∙◌, subst}
use Rattle.ws_frames.specs.Header.{payload_at}
use Rattle.ws_frames.specs.declared.error.ProtocolError.TheVariants as errors
use Rattle.ws_frames.specs.Parsed.{Parsed, takes, parsed}
use Rattle.ws_frames.specs.ParserState.{ParseFails}
use Rattle.ws_frames.specs.Protocol.{opcode_written}
use Rattle.ws_frames.proofs.parser.Parser.parse.Goals as goal

pub returns-in-Waits-clause-says : goal.returns-in-Waits-clause-says
returns-in-Waits-clause-says c = (ap (parsed c.args.server c.args.max_size) (sym c.as_slice.ensures) ∙ c.in-Waits.ensures, refl)

pub returns-in-Refuses-clause-says : goal.returns-in-Refuses-clause-says
returns-in-Refuses-clause-says c =
    let said = c.in-Refuses.ensures in
    let is = ap (parsed c.args.server c.args.max_size) (sym c.as_slice.ensures) ∙ said.refused in
    subst (λ (p : Parsed). ParseFails p c.in-Refuses.error c.args.src.now.items c.advance.new.self.items) (sym is) (said.named, c.advance.ensures.items)

pub returns-in-Ok-clause-says : goal.returns-in-Ok-clause-says
returns-in-Ok-clause-says c =
    let len = c.in-Takes.header_len + c.in-Takes.payload_len in
    let is = subst (λ (t : List ℕ). parsed c.args.server c.args.max_size t ≡ takes c.in-Takes.finished (opcode_written c.in-Takes.op)
    (payload_at c.args.server c.in-Takes.header_len c.in-Takes.payload_len t) len) c.as_slice.ensures c.in-Takes.ensures.taken in
    (len, is ∙ ap (λ (p : List ℕ). takes c.in-Takes.finished (opcode_written c.in-Takes.op) p len) (sym c.in-Ok.ensures.payload), c.in-Ok.ensures.rest)

pub returns-in-Err-clause-says : goal.returns-in-Err-clause-says
returns-in-Err-clause-says c =
    let len = c.in-Takes.header_len + c.in-Takes.payload_len in
    let is = subst (λ (t : List ℕ). parsed c.args.server c.args.max_size t ≡ takes c.in-Takes.finished (opcode_written c.in-Takes.op)
    (payload_at c.args.server c.in-Takes.header_len c.in-Takes.payload_len t) len) c.as_slice.ensures c.in-Takes.ensures.taken in
    subst (λ (p : Parsed). ParseFails p errors.NoMemory c.args.src.now.items c.take_data.new.src.items) (sym is) (refl, c.in-Err.ensures.err)
