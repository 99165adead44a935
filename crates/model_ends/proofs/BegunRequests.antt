-- The first bytes of requests that were sent are read as far as they came.
use Rattle.std.proofs.Common.{◌≡◌, ℕ, ◌+◌, ◌<◌, ◌≤◌, Bool, true, false, List, [], ◌∷◌, ◌++◌, length, drop, slice_range, Option, None, MatchOption, refl, sym, ap, ap₂, ◌∙◌, subst, subst₂, inl, inr, arith, length-drop, le-leb}
use Rattle.std.specs.Prelude.{nat_le}
use Rattle.std.specs.List.{AllByRecursion}
use Rattle.std.proofs.lemmas.Bool.{false≢true, cases_lt}
use Rattle.model_h1.specs.Runs.{Run, run_bytes}
use Rattle.model_h1.specs.Request.{BodyKind, no_body, fixed_body, chunked_body, raw_body, head_is}
use Rattle.model_h1.specs.RequestHead.{IsReadingWithin}
use Rattle.model_h1.specs.Parse.{Input, Body, content, next_start, Message, IsBodyOf, IsBodyAfter, IsMessageAt, AreMessages, IsParse}
use Rattle.model_h1.specs.Handed.{Begins}
use Rattle.model_h1.proofs.BodyLemmas.{input}
use Rattle.model_h1.proofs.HeadPieceLemmas.{head_piece_unique}
use Rattle.model_h1.proofs.ReadingLemmas.{reading_within_unique}
use Rattle.model_h1.proofs.MessageGrowth.{piece_long, placed_piece, placed_slice}
use Rattle.model_ends.specs.SentAnswer.{IsBodyText, stop_of}
use Rattle.model_ends.specs.SentRequest.{SentRequest, IsAsked, asked_text, IsServedAs, AreServedAs, has_come, IsBegunServed, AreBegunServed}
use Rattle.model_ends.proofs.HeadFronts.{head_late}
use Rattle.model_ends.proofs.BegunBodies.{body_begun}
use Rattle.model_ends.proofs.SentRequests.{asked_is_served}

-- a body that isn't raw depends on no size, and on no frames
to_input : (bytes : List ℕ) (u : Option ℕ) (ended : Bool) (size place : ℕ) (kind : BodyKind) (text carried : List ℕ) (b : Body) → IsBodyText kind text carried
    → IsBodyOf (input bytes u ended size) kind place b → IsBodyOf (input bytes None ended 0) kind place b
to_input bytes u ended size place no_body text carried b is x = x
to_input bytes u ended size place (fixed_body n) text carried b is x = x
to_input bytes u ended size place chunked_body text carried b is x = x
to_input bytes u ended size place raw_body text carried b is x = absurd is

module _ (u : Option ℕ) (ended : Bool) (size : ℕ) (bytes more : List ℕ) where
  abbrev front : Input
  front = input bytes u ended size

  abbrev full : Input
  full = input (bytes ++ more) u false size

  -- one request, whose first bytes came, against the same where all came
  request_begun : (place : ℕ) (m n : Message) (s : SentRequest) → IsAsked size s → IsMessageAt front place m → IsMessageAt full place n → IsServedAs full place n s
      → IsBegunServed front place m s
  request_begun place m n s asked x y read =
      let all = bytes ++ more in
      let end = place + length s.head + length s.body in
      let kind = s.says.body in
      let long = piece_long bytes place x.start x.end x.piece in
      let piece = head_piece_unique (drop place all) x.start x.end y.start y.end (placed_piece bytes more place x.start x.end x.piece) y.piece in
      let body_start : m.body_start ≡ n.body_start = x.body_start ∙ ap (λ e. place + e) piece.1 ∙ sym y.body_start in
      let text : slice_range (drop place all) y.start y.end ≡ slice_range (drop place bytes) x.start x.end =
      ap₂ (slice_range (drop place all)) (sym piece.0) (sym piece.1) ∙ placed_slice bytes more place x.start x.end x.piece in
      let reading : m.reading ≡ head_is s.says = reading_within_unique size (slice_range (drop place bytes) x.start x.end) m.reading n.reading x.reading
      (subst (λ t. IsReadingWithin size t n.reading) text y.reading) ∙ read.head in
      let within : m.body_start ≤ length bytes = omega (arith, x.body_start, x.piece.in_range, length-drop place bytes, long) in
      let mine : IsBodyOf front kind m.body_start m.body = subst (λ k. IsBodyAfter front k m.body_start m.body) reading x.body in
      let theirs : IsBodyOf full kind m.body_start (content read.runs (stop_of true false end)) =
      subst (λ b. IsBodyOf full kind m.body_start b) read.body
      (subst₂ (λ k p. IsBodyAfter full k p n.body) read.head (sym body_start) y.body) in
      let b = body_begun bytes more ended m.body_start within read.runs end kind true s.body s.bytes m.body asked.body
      (to_input bytes u ended size m.body_start kind s.body s.bytes m.body asked.body mine)
      (to_input all u false size m.body_start kind s.body s.bytes _ asked.body theirs) in
      record {
        head = reading;
        start = body_start ∙ read.start;
        within = within;
        runs = b.runs;
        body = b.is;
        begins = subst (λ l. Begins (run_bytes bytes b.runs) l) read.carried b.begins;
        carried = λ there. b.carried there ∙ read.carried;
      }

  -- what follows a request that isn't all there
  none_left : (place : ℕ) (ss : List SentRequest) → length bytes < place → AreBegunServed front place [] ss
  none_left place [] late = tt
  none_left place (s ∷ ss) late = omega (arith, late)

  -- what follows a request, by whether all of it came
  rest_begun : (all_there ended' : Bool) (end : ℕ) (runs : List Run) (body : Body) (ms : List Message) (ss : List SentRequest)
      → body ≡ content runs (stop_of all_there ended' end) → (all_there ≡ false → length bytes < end)
      → (all_there ≡ true → AreMessages front end ms → AreBegunServed front end ms ss)
      → MatchOption (next_start body) (ms ≡ []) (λ next. AreMessages front next ms) → AreBegunServed front end ms ss
  rest_begun true ended' end runs body ms ss is part go x = go refl (subst (λ b. MatchOption (next_start b) (ms ≡ []) (λ next. AreMessages front next ms)) is x)
  rest_begun false true end runs body ms ss is part go x =
      let none : ms ≡ [] = subst (λ b. MatchOption (next_start b) (ms ≡ []) (λ next. AreMessages front next ms)) is x in
      subst (λ l. AreBegunServed front end l ss) (sym none) (none_left end ss (part refl))
  rest_begun false false end runs body ms ss is part go x =
      let none : ms ≡ [] = subst (λ b. MatchOption (next_start b) (ms ≡ []) (λ next. AreMessages front next ms)) is x in
      subst (λ l. AreBegunServed front end l ss) (sym none) (none_left end ss (part refl))

  -- it ends later
  late_end : (end : ℕ) → nat_le end (length bytes) ≡ false → length bytes < end
  late_end end part = elim (cases_lt (length bytes) end) [
    | inl late ↦ late
    | inr early ↦ absurd (false≢true (sym part ∙ le-leb end (length bytes) early))
  ]

  begun_from : (place : ℕ) (ms ns : List Message) (ss : List SentRequest) → AllByRecursion (IsAsked size) ss → AreMessages front place ms → AreMessages full place ns
      → AreServedAs full place ns ss → AreBegunServed front place ms ss
  begun_from place [] [] [] asked x y read = tt
  begun_from place [] (n ∷ ns) [] asked x y read = absurd read
  begun_from place [] [] (s ∷ ss) asked x y read = absurd read
  begun_from place [] (n ∷ ns) (s ∷ ss) asked x y read =
      omega (arith, head_late bytes more place y.0.start y.0.end x y.0.piece, y.0.body_start, read.0.start)
  begun_from place (m ∷ ms) [] [] asked x y read = absurd (y x.0.start x.0.end (placed_piece bytes more place x.0.start x.0.end x.0.piece))
  begun_from place (m ∷ ms) (n ∷ ns) [] asked x y read = absurd read
  begun_from place (m ∷ ms) [] (s ∷ ss) asked x y read = absurd read
  begun_from place (m ∷ ms) (n ∷ ns) (s ∷ ss) asked x y read =
      let end = place + length s.head + length s.body in
      let here = request_begun place m n s asked.0 x.0 y.0 read.0 in
      let there : AreMessages full end ns = subst (λ b. MatchOption (next_start b) (ns ≡ []) (λ next. AreMessages full next ns)) read.0.body y.1 in (
        here,
        rest_begun (has_come front place s) ended end here.runs m.body ms ss here.body (late_end end)
            (λ all_there messages. begun_from end ms ns ss asked.1 messages there read.1) x.1,
      )

-- the first bytes of what was asked are read as far as they came
pub begun_served : (i : Input) (more : List ℕ) (ss : List SentRequest) (ms : List Message) → i.bytes ++ more ≡ asked_text ss → AllByRecursion (IsAsked i.hold_size) ss
    → IsParse i ms → AreBegunServed i 0 ms ss
begun_served i more ss ms is asked are =
    let n = asked_is_served (input (i.bytes ++ more) i.upgraded false i.hold_size) ss is asked in
    begun_from i.upgraded i.ended i.hold_size i.bytes more 0 ms n.0 ss asked are n.1 n.2
