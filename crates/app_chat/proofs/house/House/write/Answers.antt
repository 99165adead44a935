use Rattle.std.specs.Prelude.{◌≡◌, Option, Some}
use Rattle.std.proofs.Common.{subst}
use Rattle.model_h1.specs.Event as on
use Rattle.h1_connection.specs.declared.event.Outcome.{Outcome}
use Rattle.h1_connection.specs.declared.event.Outcome.TheVariants as out
use Rattle.rooms.specs.Hub.{HubFeeds}
use Rattle.app_chat.proofs.HouseLemmas.{gave_bytes}
use Rattle.app_chat.proofs.house.House.write.Goals as goal

pub returns-in-Some-Gave : goal.returns-in-Some-Gave
returns-in-Some-Gave c =
    let is : c.in_ok-bytes.field-0 ≡ Some (out.Gave c.in-Some-Gave.bytes) = (let a = c.in-Some-Gave.is in let b = c.in-Some-Gave.field-0-is in cc) in
    gave_bytes c.args.self.now c.feed.new.self c.args.number c.args.limit c.in-Some-Gave.bytes
    (subst (λ (o : Option Outcome). HubFeeds c.args.self.now c.args.number (on.write c.args.limit) o c.feed.new.self) is c.in_ok-bytes.ensures.fed)
