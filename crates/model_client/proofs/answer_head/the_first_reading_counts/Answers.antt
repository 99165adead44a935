use Rattle.std.proofs.Common.{inl}
use Rattle.model_client.proofs.AnswerDecisions.{never_lax}
use Rattle.model_client.proofs.answer_head.the_first_reading_counts.Goals as goal

pub returns-clause-read : goal.returns-clause-read
returns-clause-read c piece a is strict = inl (strict, is)

pub returns-clause-alone : goal.returns-clause-alone
returns-clause-alone c = never_lax
