use Rattle.std.proofs.Common.{◌≡◌, drop}
use Rattle.http_files.specs.Inside.{dotted}
use Rattle.http_files.proofs.paths.has_dotted.Given as goal

abbrev pub invariant-loop-byte : goal.invariant-loop-byte
invariant-loop-byte l = dotted 0 l.text ≡ dotted l.previous (drop l.byte-index l.text)
