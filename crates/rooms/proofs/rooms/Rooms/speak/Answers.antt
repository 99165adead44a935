use Rattle.std.proofs.Common.{◌≡◌, List, Some, OnOk, sym, ap, subst, ◌∙◌}
use Rattle.std.proofs.lemmas.Bool.{false≢true}
use Rattle.ws_frames.specs.Codec.{frame_says}
use Rattle.model_rooms.specs.Member.{Member}
use Rattle.rooms.proofs.RowLists.{spoken_silently, spoken_aloud}
use Rattle.rooms.proofs.QuietLemmas.{quiet_row, quiet_says}
use Rattle.rooms.proofs.rooms.Rooms.speak.Goals as goal

pub returns-in_default-clause-spoken : goal.returns-in_default-clause-spoken
returns-in_default-clause-spoken c =
    spoken_silently c.args.number (frame_says c.args.frame) c.args.self.now c.self.inside.rows.items c.index_mut-row.result.now c.take.new.self
    c.self.view_is c.requires.known c.index_mut-row.ensures.value c.in_ok-lines.ensures.after (rw c.in_default.is at (sym c.in_ok-lines.ensures.said))

pub returns-clause-spoken : goal.returns-clause-spoken
returns-clause-spoken c =
    subst (λ (l : List Member). OnOk c.tell.result (c.tell.new.rows.items ≡ l))
    (spoken_aloud c.args.number (frame_says c.args.frame) c.args.self.now c.self.inside.rows.items c.index_mut-row.result.now c.take.new.self
    c.in_ok-room.room c.as_slice.result.now c.self.view_is c.requires.known c.index_mut-row.ensures.value c.in_ok-lines.ensures.after
    ((rw c.in-Some.is at (sym c.in_ok-lines.ensures.said)) ∙ ap Some (sym c.as_slice.ensures.value)) c.in_ok-room.ensures)
    c.tell.ensures.told

pub returns-in_err-lines-clause-no_memory_needed : goal.returns-in_err-lines-clause-no_memory_needed
returns-in_err-lines-clause-no_memory_needed c = λ none.
    absurd (false≢true (c.in_err-lines.ensures.no_memory_needed
    (quiet_row c.args.number (frame_says c.args.frame) c.args.self.now c.self.inside.rows.items c.index_mut-row.result.now
    c.self.view_is c.requires.known c.index_mut-row.ensures.value none)))

pub returns-in_err-room-clause-no_memory_needed : goal.returns-in_err-room-clause-no_memory_needed
returns-in_err-room-clause-no_memory_needed c = λ none.
    absurd (quiet_says _ _ (rw c.in-Some.is at (sym c.in_ok-lines.ensures.said))
    (quiet_row c.args.number (frame_says c.args.frame) c.args.self.now c.self.inside.rows.items c.index_mut-row.result.now
    c.self.view_is c.requires.known c.index_mut-row.ensures.value none))

pub returns-clause-no_memory_needed : goal.returns-clause-no_memory_needed
returns-clause-no_memory_needed c = λ none.
    absurd (quiet_says _ _ (rw c.in-Some.is at (sym c.in_ok-lines.ensures.said))
    (quiet_row c.args.number (frame_says c.args.frame) c.args.self.now c.self.inside.rows.items c.index_mut-row.result.now
    c.self.view_is c.requires.known c.index_mut-row.ensures.value none))
