use Rattle.std.proofs.Common.{◌≡◌, ◌+◌, ◌-◌, ◌≤◌, length, drop}
use Rattle.std.specs.List.{prefix_len}
use Rattle.http_values.specs.MediaTypeCuts.{in_class}
use Rattle.http_values.proofs.shared.mime.run_len.Given as goal

-- the bytes so far are of the class
abbrev pub invariant-loop-n : goal.invariant-loop-n
invariant-loop-n l =
    (l.n ≤ length l.text) × (prefix_len (in_class l.class) l.text ≡ l.n + prefix_len (in_class l.class) (drop l.n l.text))

abbrev pub decreases-loop-n : goal.decreases-loop-n
decreases-loop-n l = length l.text - l.n
