-- What the queue wants of its feeder.
use Rattle.std.specs.Prelude.{◌≡◌, Bool, true, false}
use Rattle.http_services.specs.Queue.{Queue}
use Rattle.http_services.specs.declared.h1.send.PayloadStatus.{PayloadStatus}
use Rattle.http_services.specs.declared.h1.send.PayloadStatus.TheVariants.{Read, Pause, Dropped}

abbrev pub status_by : Bool → Bool → PayloadStatus
status_by true wish = Dropped
status_by false true = Read
status_by false false = Pause

abbrev pub status_of : Queue → PayloadStatus
status_of q = status_by q.dropped q.wish

-- only a feeder that is to pause is noted as one that waits
abbrev pub Asked : Queue → Queue → PayloadStatus → Type 0
Asked old new Read = new ≡ old
Asked old new Pause = new ≡ record old { feeder = new.feeder }
Asked old new Dropped = new ≡ old
