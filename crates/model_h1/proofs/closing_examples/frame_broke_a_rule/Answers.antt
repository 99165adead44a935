use Rattle.std.proofs.Common.{refl}
use Rattle.model_h1.specs.Handshake.{handshake_error, has_word}
use Rattle.model_h1.specs.Sums.{taken, accepted, request, since_head, answered, answer_len}
use Rattle.model_h1.specs.Past.{place_behind, pulled_to}
use Rattle.model_h1.specs.Closing.{told, closing}
use Rattle.model_h1.specs.Allowed.{is_allowed}
use Rattle.model_h1.specs.OutcomeTable.{outcome_of}
use Rattle.model_h1.proofs.ExampleParses.{accepted_parsed, unmasked_parsed}
use Rattle.model_h1.proofs.ExampleSteps.{happens, socket_asked}
use Rattle.model_h1.proofs.closing_examples.frame_broke_a_rule.Goals as goal

pub returns : goal.returns
unfolding taken accepted request since_head answered answer_len told closing is_allowed outcome_of pulled_to place_behind handshake_error has_word
returns c = (
  happens _ _ (unmasked_parsed, refl, refl, (unmasked_parsed, refl, refl, (accepted_parsed, refl, refl, socket_asked))),
  refl,
  refl,
)
