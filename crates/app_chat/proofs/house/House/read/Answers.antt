use Rattle.std.specs.Prelude.{◌≡◌, Option, Some}
use Rattle.std.proofs.Common.{subst}
use Rattle.std.proofs.lemmas.Bool.{eqb-true}
use Rattle.model_h1.specs.Event as on
use Rattle.h1_connection.specs.declared.event.Outcome.{Outcome}
use Rattle.h1_connection.specs.declared.event.Outcome.TheVariants as out
use Rattle.rooms.specs.Hub.{HubFeeds}
use Rattle.app_chat.proofs.HouseLemmas.{took_all}
use Rattle.app_chat.proofs.house.House.read.Goals as goal

pub returns-in-Some-Took : goal.returns-in-Some-Took
returns-in-Some-Took c = λ all.
    let same : c.in_ok-copy.copy ≡ c.args.bytes.now = c.in_ok-copy.ensures in
    let is : c.in_ok-count.field-0 ≡ Some (out.Took c.in-Some-Took.count) = (let a = c.in-Some-Took.is in let b = c.in-Some-Took.field-0-is in cc) in
    took_all c.args.self.now c.feed.new.self c.args.number c.args.bytes.now c.in_ok-copy.copy c.in-Some-Took.count same (eqb-true _ _ all)
    (subst (λ (o : Option Outcome). HubFeeds c.args.self.now c.args.number (on.read c.in_ok-copy.copy) o c.feed.new.self) is c.in_ok-count.ensures.fed)
