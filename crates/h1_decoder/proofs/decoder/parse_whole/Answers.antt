use Rattle.std.proofs.Common.{◌≡◌, ℕ, ◌≤◌, List, [], length, sym, ap, ◌∙◌, append-nil, arith}
use Rattle.http_types.specs.declared.error.ParseError.TheVariants.{Header}
use Rattle.httparse.specs.Grammar.{RequestHead, print_request, ReadsRequest}
use Rattle.model_h1.proofs.LineFeeds.{few_fields}
use Rattle.h1_decoder.proofs.GrammarErrors.{refuses_grammar}
use Rattle.h1_decoder.proofs.decoder.parse_whole.Goals as goal

-- a head that is the whole piece is as long as the piece
same_length : (piece : List ℕ) (text : RequestHead) → ReadsRequest piece text [] → length (print_request text) ≡ length piece
same_length piece text (valid, is) = ap length (sym (is ∙ append-nil (print_request text)))

pub returns-then-spans-piece-clause-refused : goal.returns-then-spans-piece-clause-refused
returns-then-spans-piece-clause-refused c =
    let piece = c.args.piece.now in
    refuses_grammar piece Header c.text_error.result tt c.text_error.ensures (λ few text reads.
    let room : length text.fields ≤ length c.args.fields.now = omega (arith, few_fields piece text reads, few, c.requires) in
    let at = rw c.in-Ok-Complete.field-0-is at (c.in-Ok-Complete.ensures.found text [] reads room) in
    c.if-spans-piece.true (at.len ∙ same_length piece text reads))

pub returns-in-Err-clause-refused : goal.returns-in-Err-clause-refused
returns-in-Err-clause-refused c =
    let piece = c.args.piece.now in
    refuses_grammar piece c.grammar_error.result c.text_error-in-Err.result c.grammar_error.ensures c.text_error-in-Err.ensures (λ few text reads.
    let room : length text.fields ≤ length c.args.fields.now = omega (arith, few_fields piece text reads, few, c.requires) in
    rw c.in-Err.is at (c.parse_request.ensures.found text [] reads room))
