use Rattle.std.proofs.Common.{◌≡◌, ap}
use Rattle.std.specs.Prelude.{None, Ok, Err}
use Rattle.h1_codec.proofs.NextHeads.{waits_given}
use Rattle.h1_codec.proofs.Memory.{error_on, head_memory}
use Rattle.http_types.specs.declared.error.ParseError.TheVariants.{NoMemory}
use Rattle.h1_codec.proofs.next_item.next_head.Goals as goal

pub returns-in-Ok-None-clause-given : goal.returns-in-Ok-None-clause-given
returns-in-Ok-None-clause-given g c =
    let is : c.decode.result ≡ Ok None = cc in
    waits_given g.T.ReadHead.kind c.args.is_bare c.args.heads.now c.decode.new.self c.args.src.now.items c.decode.new.src.items c.args.body.now c.decode.result is
    c.decode.ensures.none c.decode.ensures.seen (ap (λ b. b.items) (c.decode.ensures.waits is))

pub returns-in-Err-clause-no_memory_needed : goal.returns-in-Err-clause-no_memory_needed
returns-in-Err-clause-no_memory_needed g c = λ light is.
    let same : c.decode.result ≡ Err c.in-Err.error = cc in
    head_memory c.args.heads.now c.args.src.now.items c.decode.result c.decode.ensures.none c.decode.ensures.too_long light (error_on c.decode.result c.in-Err.error NoMemory same is)
