use Rattle.h1_connection.specs.EventMeaning.{setting_of}
use Rattle.model_rooms.proofs.GoodHubs.{all_good}
use Rattle.model_rooms.proofs.OrderLemmas.{in_order}
use Rattle.model_rooms.proofs.SendLemmas.{none_refused}
use Rattle.rooms.proofs.laws.each_member_is_served.Goals as goal

pub returns : goal.returns
returns c = λ settings events trace seen i x.
    let good = all_good (setting_of settings) seen x.traced i in
    record {
      hears = good.due_is;
      in_order = λ j. in_order j i seen;
      none_refused = none_refused (setting_of settings) seen i x.traced;
      few_wait = good.most;
      one_close = good.one_close;
    }
