use Rattle.std.proofs.Common.{◌≡◌, ◌+◌, map, subst, arith}
use Rattle.model_h1.specs.Parse.{AreMessages}
use Rattle.model_h1.specs.Laws.Moved.{moved}
use Rattle.model_h1.proofs.MovedLemmas.{moved_messages, moved_from}
use Rattle.model_h1.proofs.parse.parse_is_local.Goals as goal

pub returns-clause-parsed : goal.returns-clause-parsed
returns-clause-parsed c i place ms within x =
    let here : place + 0 ≡ place = omega arith in
    subst (λ p. AreMessages i p (map (moved place) ms)) here (moved_messages place i.bytes i.upgraded i.ended i.hold_size 0 ms within x)

pub returns-clause-no_others : goal.returns-clause-no_others
returns-clause-no_others c i place ms within x = moved_from place i.bytes i.upgraded i.ended i.hold_size ms within x
