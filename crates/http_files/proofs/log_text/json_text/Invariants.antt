use Rattle.std.proofs.Common.{◌≡◌, take}
use Rattle.std.specs.String.{string_bytes}
use Rattle.http_files.specs.LogText.{json_text}
use Rattle.http_files.proofs.log_text.json_text.Given as goal

abbrev pub invariant-loop-byte : goal.invariant-loop-byte
invariant-loop-byte l = string_bytes l.text ≡ json_text (take l.byte-index l.bytes)
