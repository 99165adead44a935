use Rattle.std.proofs.Common.{refl}
use Rattle.std.specs.Str.{is_utf8, chars}
use Rattle.std.specs.Char.{encode_utf8}
use Rattle.model_proxy.proofs.examples.reasons_of_replies.Goals as goal

pub returns-clause-own : goal.returns-clause-own
unfolding is_utf8 chars encode_utf8
returns-clause-own c = refl

pub returns-clause-empty : goal.returns-clause-empty
unfolding is_utf8 chars encode_utf8
returns-clause-empty c = refl

pub returns-clause-not_text : goal.returns-clause-not_text
unfolding is_utf8 chars encode_utf8
returns-clause-not_text c = refl
