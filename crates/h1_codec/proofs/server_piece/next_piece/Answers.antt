-- The trailers, and the end, end the body.
use Rattle.std.proofs.Common.{◌≡◌}
use Rattle.std.specs.Prelude.{Some, Ok, Err}
use Rattle.h1_payload.specs.declared.item.PayloadItem.TheVariants as items
use Rattle.h1_payload.specs.declared.item.DecodeError.TheVariants.{NoMemory}
use Rattle.h1_codec.proofs.Memory.{error_on}
use Rattle.h1_codec.proofs.PieceLemmas.{end_answered, trailers_answered}
use Rattle.h1_codec.proofs.server_piece.next_piece.Goals as goal

pub returns-in-Ok-Some-Trailers-clause-piece : goal.returns-in-Ok-Some-Trailers-clause-piece
returns-in-Ok-Some-Trailers-clause-piece c =
    let is : c.decode.result ≡ Ok (Some (items.Trailers c.in-Ok-Some-Trailers.trailers)) = cc in
    trailers_answered c.args.body.now c.args.src.now.items c.decode.new.self c.decode.new.src.items c.in-Ok-Some-Trailers.trailers c.decode.result is
    c.decode.ensures.decoded c.decode.ensures.goes_on c.decode.ensures.some

pub returns-in-Ok-Some-Eof-clause-piece : goal.returns-in-Ok-Some-Eof-clause-piece
returns-in-Ok-Some-Eof-clause-piece c =
    let is : c.decode.result ≡ Ok (Some items.Eof) = cc in
    end_answered c.args.body.now c.args.src.now.items c.decode.new.self c.decode.new.src.items c.decode.result is c.decode.ensures.decoded c.decode.ensures.goes_on

pub returns-in-Err-clause-no_memory_needed : goal.returns-in-Err-clause-no_memory_needed
returns-in-Err-clause-no_memory_needed c = λ light is.
    let same : c.decode.result ≡ Err c.in-Err.error = cc in
    c.decode.ensures.no_memory_needed light.0 light.1 light.2 (error_on c.decode.result c.in-Err.error NoMemory same is)
