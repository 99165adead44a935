use Rattle.std.proofs.Common.{string_bytes, ◌∙◌, arith}
use Rattle.h1_replay.proofs.Answering.{spelled_three, gen_read, gen_numbers}
use Rattle.h1_replay.proofs.program.numbers_of.Goals as goal

pub returns-clause-some : goal.returns-clause-some
returns-clause-some c =
    let are = spelled_three (λ w. string_bytes w) c.args.words.now c.word-item.result c.seed-item.result c.count-item.result c.as_str.result.now c.as_bytes.result.now c.as_bytes-2.result.now
    (omega arith) (omega arith) c.word-item.is c.seed-item.is c.count-item.is c.as_str.ensures.value (c.as_bytes.ensures.value ∙ c.as_str-2.ensures.value)
    (c.as_bytes-2.ensures.value ∙ c.as_str-3.ensures.value) in
    gen_read _ c.as_str.result.now c.as_bytes.result.now c.as_bytes-2.result.now c.ne.result c.two_numbers.result are c.ne.ensures c.if-ne.false c.two_numbers.ensures.some

pub returns-clause-none : goal.returns-clause-none
returns-clause-none c =
    let are = spelled_three (λ w. string_bytes w) c.args.words.now c.word-item.result c.seed-item.result c.count-item.result c.as_str.result.now c.as_bytes.result.now c.as_bytes-2.result.now
    (omega arith) (omega arith) c.word-item.is c.seed-item.is c.count-item.is c.as_str.ensures.value (c.as_bytes.ensures.value ∙ c.as_str-2.ensures.value)
    (c.as_bytes-2.ensures.value ∙ c.as_str-3.ensures.value) in
    λ none seed count gen.
    c.two_numbers.ensures.none none seed count (gen_numbers _ c.as_str.result.now c.as_bytes.result.now c.as_bytes-2.result.now seed count are gen)
