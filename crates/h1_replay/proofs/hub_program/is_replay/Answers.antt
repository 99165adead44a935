use Rattle.std.proofs.Common.{string_bytes, arith}
use Rattle.h1_replay.proofs.Answering.{one_item, IsReplay-tested}
use Rattle.h1_replay.proofs.hub_program.is_replay.Goals as goal

pub returns-in-len1 : goal.returns-in-len1
returns-in-len1 c =
    let one = one_item c.args.words.now c.word-item.result (omega arith) (omega arith) c.word-item.is in
    IsReplay-tested (λ w. string_bytes w) c.args.words.now c.word-item.result c.as_str.result.now c.eq.result one c.as_str.ensures.value c.eq.ensures
