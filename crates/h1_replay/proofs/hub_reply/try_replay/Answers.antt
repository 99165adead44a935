use Rattle.std.proofs.Common.{subst}
use Rattle.rooms.specs.Run.{IsStop}
use Rattle.rooms.specs.declared.driver.HubError.{HubError}
use Rattle.h1_replay.proofs.hub_reply.try_replay.Goals as goal

pub returns-in-Ok-drive_hub : goal.returns-in-Ok-drive_hub
returns-in-Ok-drive_hub c = record {
  config = c.in-Ok.script.config;
  events = c.in-Ok.script.events.items;
  trace = c.in-Ok-drive_hub.trace;
  script = c.in-Ok.ensures;
  whole = rw c.deref.ensures.value at c.in-Ok-drive_hub.ensures.ok;
  report = c.in_ok-hub_report_of-in-Ok-drive_hub.ensures;
}

pub returns-in-Err-Misplaced : goal.returns-in-Err-Misplaced
returns-in-Err-Misplaced c = record {
  config = c.in-Ok.script.config;
  events = c.in-Ok.script.events.items;
  index = c.in-Err-Misplaced.index;
  trace = c.in-Err-Misplaced.trace;
  script = c.in-Ok.ensures;
  stops =
      subst (λ (e : HubError). IsStop c.in-Ok.script.config c.in-Ok.script.events.items e) c.in-Err-Misplaced.field-0-is
      (rw c.deref.ensures.value at c.in-Err-Misplaced.ensures.stopped);
  is_text = c.in_ok-stopped-in-Err-Misplaced.ensures;
}
