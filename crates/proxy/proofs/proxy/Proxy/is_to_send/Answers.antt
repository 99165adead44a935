use Rattle.std.proofs.Common.{not, sym, ap, ◌∙◌}
use Rattle.proxy.proofs.Sending.{next_is, some_waits, none_waits, room_goes, full_sends, waiting_sends, reading_sends, busy_sends, dropping_sends, begun_sends}
use Rattle.proxy.proofs.proxy.Proxy.is_to_send.Goals as goal

pub returns-then-client_room-eq0 : goal.returns-then-client_room-eq0
returns-then-client_room-eq0 c = full_sends c.args.self.now (sym c.client_room.ensures ∙ c.if-client_room-eq0.true)

pub returns-then-buffered-gt0 : goal.returns-then-buffered-gt0
returns-then-buffered-gt0 c = waiting_sends c.args.self.now (some_waits c.args.self.now c.buffered.result c.buffered.ensures.value c.if-buffered-gt0.true)

pub returns-then-can_pull : goal.returns-then-can_pull
returns-then-can_pull c =
    reading_sends c.args.self.now c.held-has_unread.result (λ none. c.if-client_room-eq0.false (c.client_room.ensures ∙ none))
    (none_waits c.args.self.now c.buffered.result c.buffered.ensures.value c.if-buffered-gt0.false) (sym c.can_pull.ensures.value ∙ c.if-can_pull.true)
    c.held-has_unread.ensures.value

pub returns-else-is_idle : goal.returns-else-is_idle
returns-else-is_idle c =
    c.if-is_idle.false
    ∙ busy_sends c.args.self.now (λ none. c.if-client_room-eq0.false (c.client_room.ensures ∙ none))
    (none_waits c.args.self.now c.buffered.result c.buffered.ensures.value c.if-buffered-gt0.false) (sym c.can_pull.ensures.value ∙ c.if-can_pull.false)
    (sym c.is_idle-is_idle.ensures ∙ c.if-is_idle.false)

pub returns-then-not-can_next : goal.returns-then-not-can_next
returns-then-not-can_next c =
    ap not c.if-not-can_next.true
    ∙ dropping_sends c.args.self.now (λ none. c.if-client_room-eq0.false (c.client_room.ensures ∙ none))
    (none_waits c.args.self.now c.buffered.result c.buffered.ensures.value c.if-buffered-gt0.false) (sym c.can_pull.ensures.value ∙ c.if-can_pull.false)
    (sym c.is_idle-is_idle.ensures ∙ c.if-is_idle.true)
    (sym (next_is c.args.self.now c.can_next-can_next.result c.can_next-can_next.ensures.value
    (room_goes c.args.self.now (λ none. c.if-client_room-eq0.false (c.client_room.ensures ∙ none)))) ∙ c.if-not-can_next.true)

pub returns-else-not-can_next : goal.returns-else-not-can_next
returns-else-not-can_next c =
    begun_sends c.args.self.now c.held-has_unread.result (λ none. c.if-client_room-eq0.false (c.client_room.ensures ∙ none))
    (none_waits c.args.self.now c.buffered.result c.buffered.ensures.value c.if-buffered-gt0.false) (sym c.can_pull.ensures.value ∙ c.if-can_pull.false)
    (sym c.is_idle-is_idle.ensures ∙ c.if-is_idle.true)
    (sym (next_is c.args.self.now c.can_next-can_next.result c.can_next-can_next.ensures.value
    (room_goes c.args.self.now (λ none. c.if-client_room-eq0.false (c.client_room.ensures ∙ none)))) ∙ c.if-not-can_next.false) c.held-has_unread.ensures.value
