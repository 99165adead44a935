use Rattle.std.proofs.Common.{◌≡◌, ◌^◌, ◌-◌, length, min, ap, ◌∙◌, arith}
use Rattle.model_rooms.specs.Member.{member_at, byte_count}
use Rattle.rooms.specs.Hub.{HubState}
use Rattle.rooms.proofs.WaitLemmas.{no_bytes_wait}
use Rattle.rooms.proofs.hub.Hub.waiting_bytes.Goals as goal

pub returns-then-number-len : goal.returns-then-number-len
returns-then-number-len c =
    no_bytes_wait c.args.number c.self.inside.rooms (omega (arith, c.if-number-len.true))
    ∙ ap (λ (h : HubState). min (byte_count (member_at c.args.number h.members).waiting) (2 ^ 64 - 1)) c.self.view_is

pub returns : goal.returns
returns c = c.waiting_bytes.ensures ∙ ap (λ (h : HubState). min (byte_count (member_at c.args.number h.members).waiting) (2 ^ 64 - 1)) c.self.view_is
