-- How much waits for a member that wasn't opened.
use Rattle.std.proofs.Common.{◌≡◌, ◌≤◌, ◌^◌, ◌-◌, ℕ, zero, suc, List, [], ◌∷◌, length, min, refl, sym, ap, ◌∙◌, arith}
use Rattle.model_rooms.specs.Member.{Member, newcomer, member_at, byte_count}

pub member_beyond : (i : ℕ) (ms : List Member) → length ms ≤ i → member_at i ms ≡ newcomer
member_beyond i [] h = refl
member_beyond zero (m ∷ ms) h = absurd (omega arith)
member_beyond (suc i) (m ∷ ms) h = member_beyond i ms (omega arith)

pub none_wait : (i : ℕ) (ms : List Member) → length ms ≤ i → 0 ≡ length (member_at i ms).waiting
none_wait i ms h = sym (ap (λ (m : Member). length m.waiting) (member_beyond i ms h))

pub no_bytes_wait : (i : ℕ) (ms : List Member) → length ms ≤ i → 0 ≡ min (byte_count (member_at i ms).waiting) (2 ^ 64 - 1)
no_bytes_wait i ms h = sym (ap (λ (m : Member). min (byte_count m.waiting) (2 ^ 64 - 1)) (member_beyond i ms h))
