-- Where the next item takes no memory.
use Rattle.std.specs.Prelude.{◌⊎◌, ℕ, List, Option, Some, None, false}
use Rattle.model_state.specs.Pull.{Pulled, IsPull}
use Rattle.h1_payload.specs.Decoding.{Decoding}
use Rattle.h1_payload.specs.Rests.{IsLight}
use Rattle.h1_codec.specs.Heads.{Search, HasSeen, IsWaiting, IsTooLong}
use Rattle.h1_codec.specs.FramedMessages.{Standing}

-- the body has ended or breaks, or nothing of it has come, and no text of a trailer section is to be kept
abbrev pub IsLightBody : Decoding → List ℕ → Type 0
IsLightBody d bytes = (p : Pulled) × IsPull false d.rest bytes p × IsLight d.rest p.outcome p.rest

-- no head is whole yet, or the next is too long
abbrev pub IsLightHead : Search → List ℕ → Type 0
IsLightHead search bytes = HasSeen search bytes × (IsWaiting search.limit bytes ⊎ IsTooLong search.limit bytes)

abbrev pub NeedsNoMemoryFrom : Option Decoding → Search → List ℕ → Type 0
NeedsNoMemoryFrom None search bytes = IsLightHead search bytes
NeedsNoMemoryFrom (Some d) search bytes = IsLightBody d bytes

-- of the body that is open, or while none is
abbrev pub NeedsNoMemory : Standing → List ℕ → Type 0
NeedsNoMemory s bytes = NeedsNoMemoryFrom s.body s.search bytes
