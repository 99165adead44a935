-- What is answered step by step: of the body that is open, or while none is.
use Rattle.std.specs.Prelude.{◌≡◌, ⊤, ℕ, List, Option, Some, None, Result, Ok, Err}
use Rattle.http_types.specs.declared.error.ParseError.{ParseError}
use Rattle.http_types.specs.declared.error.ParseError.TheVariants as errors
use Rattle.h1_payload.specs.Decoding.{Decoding, IsDecoded}
use Rattle.h1_payload.specs.declared.item.DecodeError.{DecodeError}
use Rattle.h1_payload.specs.declared.item.DecodeError.TheVariants.{Invalid, NoMemory}
use Rattle.h1_payload.specs.declared.item.PayloadItem.{PayloadItem}
use Rattle.h1_payload.specs.declared.item.PayloadItem.TheVariants as items
use Rattle.h1_decoder.specs.Refusal.{UnlessNoMemory, fault_of}
use Rattle.h1_codec.specs.Kind.{Kind}
use Rattle.h1_codec.specs.Heads.{Search, HasSeen, IsWaiting, refused, Stops}
use Rattle.h1_codec.specs.declared.framed_message.Message.{Message}
use Rattle.h1_codec.specs.declared.framed_message.Message.TheVariants.{Item, Chunk}
use Rattle.h1_codec.specs.FramedMessages.{Standing}

-- an item of a body as an item of its message: trailers come with the end
abbrev pub message_of : {I : Type 0} → Result (Option PayloadItem) DecodeError → Result (Option (Message I)) ParseError
message_of (Ok (Some (items.Chunk bytes))) = Ok (Some (Chunk (Some bytes)))
message_of (Ok (Some (items.Trailers entries))) = Ok (Some (Chunk None))
message_of (Ok (Some items.Eof)) = Ok (Some (Chunk None))
message_of (Ok None) = Ok None
message_of (Err Invalid) = Err errors.Chunk
message_of (Err NoMemory) = Err errors.NoMemory

-- what is open after it: after the end nothing is
abbrev pub open_after : Result (Option PayloadItem) DecodeError → Decoding → Option Decoding
open_after (Ok (Some (items.Trailers entries))) left = None
open_after (Ok (Some items.Eof)) left = None
open_after item left = Some left

-- the answer is the item that the decoder of the open body gives
abbrev pub IsOpenStep : {I : Type 0} → Decoding → List ℕ → Result (Option (Message I)) ParseError → Option Decoding → List ℕ → Type 0
IsOpenStep d bytes result body rest =
    (item : Result (Option PayloadItem) DecodeError) × (left : Decoding) × IsDecoded d bytes item left rest
    × (result ≡ message_of item) × (body ≡ open_after item left)

-- While no body is open no piece of one comes. Where nothing is answered, no head is whole yet, and all stays; an error names the
-- fault for which the next head is refused, or memory ran out.
abbrev pub IsIdleStep : {I : Type 0} → Kind I → Search → List ℕ → Result (Option (Message I)) ParseError → Option Decoding → List ℕ → Type 0
IsIdleStep k search bytes (Ok None) body rest = (HasSeen search bytes → IsWaiting search.limit bytes) × (body ≡ None) × (rest ≡ bytes)
IsIdleStep k search bytes (Ok (Some (Chunk piece))) body rest = ⊥
IsIdleStep k search bytes (Ok (Some (Item i))) body rest = ⊤
IsIdleStep k search bytes (Err e) body rest = HasSeen search bytes → UnlessNoMemory e (Stops k search.limit bytes (refused (fault_of e)))

-- one or the other
abbrev pub IsStepFrom : {I : Type 0} → Kind I → Option Decoding → Search → List ℕ → Result (Option (Message I)) ParseError → Option Decoding → List ℕ → Type 0
IsStepFrom k None search bytes result body rest = IsIdleStep k search bytes result body rest
IsStepFrom k (Some d) search bytes result body rest = IsOpenStep d bytes result body rest

abbrev pub IsStep : {I : Type 0} → Kind I → Standing → List ℕ → Result (Option (Message I)) ParseError → Standing → List ℕ → Type 0
IsStep k old bytes result new rest = IsStepFrom k old.body old.search bytes result new.body rest
