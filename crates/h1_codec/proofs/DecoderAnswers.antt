-- What a decoder of messages answers where it gives no head.
use Rattle.std.proofs.Common.{◌≡◌, ℕ, List, [], ◌∷◌, ◌↔◌, sym, ap}
use Rattle.std.specs.Prelude.{Option, None, Result, Ok, Err, IfErr}
use Rattle.http_framing.specs.AnyPieces.{OnlySays}
use Rattle.http_types.specs.declared.error.ParseError.{ParseError}
use Rattle.http_types.specs.declared.error.ParseError.TheVariants.{NoMemory}
use Rattle.h1_decoder.specs.Refusal.{UnlessNoMemory, fault_of}
use Rattle.h1_codec.specs.Kind.{Kind, IsOneReading}
use Rattle.h1_codec.specs.Heads.{Search, HasSeen, Item, IsWaiting, Stop, waits, refused, Stops, Heads, AreHeads, Reads, no_heads, Breaks}
use Rattle.h1_codec.proofs.Refusals.{one_stop, one_reading_of_all}

module _ {I : Type 0} (k : Kind I) (one : IsOneReading k) where
  none_says : (limit : ℕ) (bytes : List ℕ) (items : List (Item I)) (stop : Stop) → IsWaiting limit bytes → AreHeads k limit bytes items stop
      → ◌≡◌ {A = Heads I} (record { items = items; stop = stop }) no_heads
  none_says limit bytes [] stop waiting heads =
      let same = (one_reading_of_all k one limit bytes [] [] waits stop waiting heads).1 in
      ap {B = Heads I} (λ (s : Stop). record { items = []; stop = s }) (sym same)
  none_says limit bytes (item ∷ items) stop waiting heads =
      absurd (one_reading_of_all k one limit bytes [] (item ∷ items) waits stop waiting heads).0

  -- where None is answered the bytes say no head yet
  pub waits_says : (old : Search) (bytes : List ℕ) (result : Result (Option (Item I)) ParseError) → (HasSeen old bytes → (result ≡ Ok None) ↔ IsWaiting old.limit bytes) → result ≡ Ok None → HasSeen old bytes
      → OnlySays (Reads k) old bytes (λ (said : Heads I). said ≡ no_heads)
  waits_says old bytes result none is seen said reads = none_says old.limit bytes said.items said.stop ((none seen).0 is) (reads seen)

  refused_says : (old : Search) (bytes : List ℕ) (e : ParseError) (said : Heads I) → Stops k old.limit bytes (refused (fault_of e))
      → AreHeads k old.limit bytes said.items said.stop → Breaks e said
  refused_says old bytes e said stops heads =
      let is = one_stop k one old.limit bytes (fault_of e) said.items said.stop stops heads in
      λ i. record { items = is.0 i; stop = is.1 i }

  -- an error names the fault that the next head is refused for
  pub refusal_says : (old : Search) (bytes : List ℕ) (result : Result (Option (Item I)) ParseError)
      → (HasSeen old bytes → IfErr result (λ (e : ParseError). UnlessNoMemory e (Stops k old.limit bytes (refused (fault_of e)))))
      → IfErr result (λ (e : ParseError). ¬ (e ≡ NoMemory) → HasSeen old bytes → OnlySays (Reads k) old bytes (Breaks e))
  refusal_says old bytes (Ok answer) fault = tt
  refusal_says old bytes (Err e) fault = λ known seen said reads.
      refused_says old bytes e said (fault seen known) (reads seen)
