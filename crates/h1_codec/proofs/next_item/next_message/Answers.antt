-- While a body is open its next piece is answered, and else the next head.
use Rattle.std.proofs.Common.{◌≡◌, sym, ◌∙◌, subst}
use Rattle.std.specs.Prelude.{Option, Some, None, Result}
use Rattle.http_types.specs.declared.error.ParseError.{ParseError}
use Rattle.h1_decoder.specs.declared.decoder.HeadItem.{HeadItem}
use Rattle.h1_payload.specs.Decoding.{Decoding}
use Rattle.h1_codec.specs.Kinds.{requests}
use Rattle.h1_codec.specs.OneReading.{one_request}
use Rattle.h1_codec.specs.declared.framed_message.Message.{Message}
use Rattle.h1_codec.specs.ServerAnswers.{IsNexted, IsHeadBeside}
use Rattle.h1_codec.proofs.NextHeads.{head_given}
use Rattle.h1_codec.proofs.OpenBodies.{piece_came}
use Rattle.h1_codec.proofs.Stepping.{open_step, idle_step}
use Rattle.h1_codec.proofs.Memory.{message_memory, noted_memory}
use Rattle.h1_codec.specs.Light.{NeedsNoMemoryFrom}
use Rattle.h1_codec.specs.Steps.{IsStepFrom, IsIdleStep}
use Rattle.h1_codec.proofs.next_item.next_message.Goals as goal

pub returns-in-Some-clause-next : goal.returns-in-Some-clause-next
returns-in-Some-clause-next c =
    let is : c.args.body.now ≡ Some c.in-Some.open = cc in
    subst (λ (b : Option Decoding). IsNexted requests c.args.is_bare (record { search = c.args.heads.now; body = b }) c.args.src.now.items c.args.trailers.now c.note_piece.result
    (record { search = c.args.heads.now; body = c.note_piece.new.body }) c.next_piece-piece.new.src.items c.note_piece.new.trailers) (sym is)
    (piece_came requests c.args.is_bare c.args.heads.now c.in-Some.open c.next_piece-piece.new.body c.args.src.now.items c.next_piece-piece.new.src.items c.args.trailers.now
    c.next_piece-piece.result c.note_piece.result c.note_piece.new.body c.note_piece.new.trailers c.next_piece-piece.ensures.piece c.note_piece.ensures)

pub returns-in-None-clause-next : goal.returns-in-None-clause-next
returns-in-None-clause-next c =
    let is : c.args.body.now ≡ None = cc in
    let beside : IsHeadBeside c.next_head-head.result None c.args.trailers.now c.next_head-head.new.body c.next_head-head.new.trailers =
    subst (λ (b : Option Decoding). IsHeadBeside c.next_head-head.result b c.args.trailers.now c.next_head-head.new.body c.next_head-head.new.trailers) is
    c.next_head-head.ensures.others in
    subst (λ (b : Option Decoding). IsNexted requests c.args.is_bare (record { search = c.args.heads.now; body = b }) c.args.src.now.items c.args.trailers.now c.as_message.result
    (record { search = c.next_head-head.new.heads; body = c.next_head-head.new.body }) c.next_head-head.new.src.items c.next_head-head.new.trailers) (sym is)
    (subst (λ (r : Result (Option (Message HeadItem)) ParseError). IsNexted requests c.args.is_bare (record { search = c.args.heads.now; body = None }) c.args.src.now.items c.args.trailers.now r
    (record { search = c.next_head-head.new.heads; body = c.next_head-head.new.body }) c.next_head-head.new.src.items c.next_head-head.new.trailers) (sym c.as_message.ensures)
    (head_given requests one_request c.args.is_bare c.args.heads.now c.next_head-head.new.heads c.args.src.now.items c.next_head-head.new.src.items c.args.trailers.now (λ piece x. x)
    c.next_head-head.result c.next_head-head.new.body c.next_head-head.new.trailers c.next_head-head.ensures.given beside c.next_head-head.ensures.limit))

pub returns-in-Some-clause-step : goal.returns-in-Some-clause-step
returns-in-Some-clause-step c =
    let is : c.args.body.now ≡ Some c.in-Some.open = cc in
    subst (λ (b : Option Decoding). IsStepFrom requests b c.args.heads.now c.args.src.now.items c.note_piece.result c.note_piece.new.body c.next_piece-piece.new.src.items) (sym is)
    (open_step c.next_piece-piece.new.body c.args.trailers.now c.note_piece.result c.note_piece.new.body c.note_piece.new.trailers c.in-Some.open c.args.src.now.items
    c.next_piece-piece.new.src.items c.next_piece-piece.result c.next_piece-piece.ensures.decoded c.note_piece.ensures)

pub returns-in-None-clause-step : goal.returns-in-None-clause-step
returns-in-None-clause-step c =
    let is : c.args.body.now ≡ None = cc in
    let beside : IsHeadBeside c.next_head-head.result None c.args.trailers.now c.next_head-head.new.body c.next_head-head.new.trailers =
    subst (λ (b : Option Decoding). IsHeadBeside c.next_head-head.result b c.args.trailers.now c.next_head-head.new.body c.next_head-head.new.trailers) is
    c.next_head-head.ensures.others in
    subst (λ (b : Option Decoding). IsStepFrom requests b c.args.heads.now c.args.src.now.items c.as_message.result c.next_head-head.new.body c.next_head-head.new.src.items) (sym is)
    (subst (λ (r : Result (Option (Message HeadItem)) ParseError). IsIdleStep requests c.args.heads.now c.args.src.now.items r c.next_head-head.new.body c.next_head-head.new.src.items)
    (sym c.as_message.ensures)
    (idle_step requests c.args.is_bare c.args.heads.now c.next_head-head.new.heads c.args.src.now.items c.next_head-head.new.src.items c.args.trailers.now
    c.next_head-head.result c.next_head-head.new.body c.next_head-head.new.trailers c.next_head-head.ensures.given beside))

pub returns-in-Some-clause-no_memory_needed : goal.returns-in-Some-clause-no_memory_needed
returns-in-Some-clause-no_memory_needed c = λ light is.
    let same : c.args.body.now ≡ Some c.in-Some.open = cc in
    c.next_piece-piece.ensures.no_memory_needed (subst (λ (b : Option Decoding). NeedsNoMemoryFrom b c.args.heads.now c.args.src.now.items) same light)
    (noted_memory c.next_piece-piece.result _ c.args.trailers.now c.note_piece.result c.note_piece.new.body c.note_piece.new.trailers c.note_piece.ensures is)

pub returns-in-None-clause-no_memory_needed : goal.returns-in-None-clause-no_memory_needed
returns-in-None-clause-no_memory_needed c = λ light is.
    let same : c.args.body.now ≡ None = cc in
    c.next_head-head.ensures.no_memory_needed (subst (λ (b : Option Decoding). NeedsNoMemoryFrom b c.args.heads.now c.args.src.now.items) same light)
    (message_memory c.next_head-head.result (sym c.as_message.ensures ∙ is))
