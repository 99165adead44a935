use Rattle.std.proofs.Common.{string_bytes, arith}
use Rattle.board_server.proofs.Spelling.{spelled, numbers_in}
use Rattle.board_server.proofs.words.read_words.Goals as goal

pub returns-clause-none : goal.returns-clause-none
returns-clause-none c =
    let are = spelled (λ s. string_bytes s) c.args.words.now c.port-item.result c.most-item.result c.polls-item.result c.as_str.result.now c.as_str-2.result.now c.as_str-3.result.now
    (omega arith) (omega arith) c.port-item.is c.most-item.is c.polls-item.is c.as_str.ensures.value c.as_str-2.ensures.value c.as_str-3.ensures.value in
    λ none port most polls words. c.read_numbers.ensures.none none port most polls (numbers_in _ _ _ _ port most polls are words)
