use Rattle.std.proofs.Common.{◌≡◌, ◌<◌, ◌%◌, ◌^◌, ◌*◌, ap, ◌∙◌, arith}
use Rattle.std.proofs.Math.Pow.{pow-lt}
use Rattle.std.proofs.lemmas.Nat.Bits.{bit_at_or, bit_at-pow_same, bit_at-lt}
use Rattle.std.specs.Int.{bit_at}
use Rattle.http_map.proofs.table.seen.Seen.with.Goals as goal

pub returns-clause-kept : goal.returns-clause-kept
returns-clause-kept c k set =
    let bits = c.args.self.bits in
    let one = 1 * 2 ^ (c.args.mark % 64) % 2 ^ 64 in
    omega (arith, bit_at_or bits one k, set, bit_at-lt one k)

pub returns-clause-added : goal.returns-clause-added
returns-clause-added c =
    let bits = c.args.self.bits in
    let j = c.args.mark % 64 in
    let small : 2 ^ j < 2 ^ 64 = pow-lt {i = j} {j = 64} (omega arith) in
    let one : 1 * 2 ^ j % 2 ^ 64 ≡ 2 ^ j = omega (arith, small) in
    let set : bit_at (1 * 2 ^ j % 2 ^ 64) j ≡ 1 = ap (λ n. bit_at n j) one ∙ bit_at-pow_same j in
    omega (arith, bit_at_or bits (1 * 2 ^ j % 2 ^ 64) j, set, bit_at-lt bits j)
