-- What comes next in the bytes, as the search for it says.
use Rattle.std.specs.Prelude.{◌≡◌, ◌≤◌, ℕ, List, length, ⊤}
use Rattle.h1_decoder.specs.HeadPosition.{HasScanned}
use Rattle.h1_codec.specs.Heads.{IsNext, IsWaiting, IsTooLong}
use Rattle.h1_codec.specs.declared.next_message.Next.{Next}
use Rattle.h1_codec.specs.declared.next_message.Next.TheVariants.{Head, Waits, TooLong}

-- it is that, within the limit; and a search that has come so far has seen all bytes
abbrev pub IsFound : ℕ → List ℕ → Next → Type 0
IsFound limit bytes (Head start end) = IsNext limit bytes start end
IsFound limit bytes (Waits scanner) = IsWaiting limit bytes × HasScanned scanner bytes
IsFound limit bytes TooLong = IsTooLong limit bytes

-- whatever the bytes are, a head lies within them, and a search ends behind them
abbrev pub IsFoundWithin : List ℕ → Next → Type 0
IsFoundWithin bytes (Head start end) = (start ≤ end) × (end ≤ length bytes)
IsFoundWithin bytes (Waits scanner) = scanner.scanned ≡ length bytes
IsFoundWithin bytes TooLong = ⊤
