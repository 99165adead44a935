-- All bytes are parsed: each head has a reading, each body stops in some way.
use Rattle.std.proofs.Common.{◌≡◌, ℕ, zero, suc, ◌+◌, ◌-◌, ◌<◌, ◌≤◌, Bool, true, false, List, [], ◌∷◌, length, drop, slice_range, Option, Some, None, MatchOption, refl, sym, subst, inl, inr, arith, length-drop}
use Rattle.std.proofs.lemmas.Bool.{cases_lt}
use Rattle.model_h1.specs.HeadPiece.{IsHeadPiece}
use Rattle.model_h1.specs.Chunked.{Chunked, whole, unfinished, not_chunked}
use Rattle.model_h1.specs.Runs.{Run}
use Rattle.model_h1.specs.Request.{BodyKind, no_body, fixed_body, chunked_body, raw_body, Reading, head_is, faulty}
use Rattle.model_h1.specs.Parse.{Input, connection_reader, Message, Body, no_content, content, frames, Stop, ended_at, still_open, broken, cut, open_or_cut, run_between, fixed_content, raw_content, shifted, chunked_stop, next_start, IsBodyOf, IsBodyAfter, IsMessageAt, AreMessages, IsParse}
use Rattle.model_h1.proofs.HeadPieceLemmas.{head_piece_decided}
use Rattle.model_h1.proofs.FrameLemmas.{frames_read}
use Rattle.model_h1.proofs.Verdicts.{every_text_read}
use Rattle.model_h1.proofs.BodyLemmas.{input}
use Rattle.model_h1.proofs.BodyGrowth.{fixed_whole, fixed_part}
use Rattle.model_h1.proofs.MessageGrowth.{piece_end, piece_long}
use Rattle.model_h1.proofs.ReadingDecisions.{reading_within_of}

-- ---- bodies

-- a body that ends does so at the place or behind it
abbrev pub StopsBehind : ℕ → Stop → Type 0
StopsBehind place (ended_at next trailers) = place ≤ next
StopsBehind place still_open = Unit {0}
StopsBehind place broken = Unit {0}
StopsBehind place cut = Unit {0}

-- and then the next message starts there
abbrev pub GoesOn : ℕ → Body → Type 0
GoesOn place b = (next : ℕ) → next_start b ≡ Some next → place ≤ next

-- content that stops so goes on so
pub content_goes_on : (place : ℕ) (runs : List Run) (stop : Stop) → StopsBehind place stop → GoesOn place (content runs stop)
content_goes_on place runs (ended_at end trailers) behind next e =
    let same : end ≡ next = cc in
    omega arith
content_goes_on place runs still_open behind next e = cc
content_goes_on place runs broken behind next e = cc
content_goes_on place runs cut behind next e = cc

-- what isn't all there stops in no place
pub open_or_cut_behind : (place : ℕ) (ended : Bool) → StopsBehind place (open_or_cut ended)
open_or_cut_behind place true = tt
open_or_cut_behind place false = tt

-- a body that is parsed at the place
abbrev pub HasBody : (Body → Type 0) → ℕ → Type 0
HasBody Is place = (b : Body) × Is b × GoesOn place b

-- a body of a fixed length
fixed_body_of : (bytes : List ℕ) (u : Option ℕ) (ended : Bool) (size n place : ℕ) → GoesOn place (fixed_content (input bytes u ended size) place n)
fixed_body_of bytes u ended size n place =
    elim (cases_lt (length bytes) (place + n)) [
      | inr fits ↦ subst (GoesOn place) (sym (fixed_whole bytes u ended size place n fits))
          (content_goes_on place (run_between place (place + n)) (ended_at (place + n) []) (omega arith))
      | inl short ↦ subst (GoesOn place) (sym (fixed_part bytes u ended size place n short))
          (content_goes_on place (run_between place (length bytes)) (open_or_cut ended) (open_or_cut_behind place ended))
    ]

-- a body in chunks
chunked_behind : (bytes : List ℕ) (u : Option ℕ) (ended : Bool) (size place : ℕ) (a : Chunked)
    → StopsBehind place (chunked_stop (input bytes u ended size) place a)
chunked_behind bytes u ended size place (whole k trailers) = omega arith
chunked_behind bytes u ended size place unfinished = open_or_cut_behind place ended
chunked_behind bytes u ended size place not_chunked = tt

-- all bytes from the place on
raw_goes_on : (bytes : List ℕ) (u : Option ℕ) (ended : Bool) (size place : ℕ) → place ≤ length bytes
    → GoesOn place (raw_content (input bytes u ended size) place)
raw_goes_on bytes u true size place within = content_goes_on place (run_between place (length bytes)) (ended_at (length bytes) []) within
raw_goes_on bytes u false size place within = content_goes_on place (run_between place (length bytes)) still_open tt

-- each kind has a body at each place
body_of_kind : (bytes : List ℕ) (u : Option ℕ) (ended : Bool) (size : ℕ) (kind : BodyKind) (place : ℕ) → place ≤ length bytes
    → HasBody (IsBodyOf (input bytes u ended size) kind place) place
body_of_kind bytes u ended size no_body place within =
    (content [] (ended_at place []), refl, content_goes_on place [] (ended_at place []) (omega arith))
body_of_kind bytes u ended size (fixed_body n) place within =
    (fixed_content (input bytes u ended size) place n, refl, fixed_body_of bytes u ended size n place)
body_of_kind bytes u ended size chunked_body place within =
    let i = input bytes u ended size in
    let x = every_text_read (drop place bytes) in
    let stop = chunked_stop i place x.0 in
    (content (shifted place x.1) stop, (x.0, x.1, x.2, refl), content_goes_on place (shifted place x.1) stop (chunked_behind bytes u ended size place x.0))
body_of_kind bytes None ended size raw_body place within =
    (raw_content (input bytes None ended size) place, refl, raw_goes_on bytes None ended size place within)
body_of_kind bytes (Some limit) ended size raw_body place within =
    let x = frames_read (connection_reader limit) false place bytes in
    (frames x.0 x.1, (x.0, x.1, x.2, refl), λ next e. cc)

-- each reading has a body at each place
body_after : (bytes : List ℕ) (u : Option ℕ) (ended : Bool) (size : ℕ) (r : Reading) (place : ℕ) → place ≤ length bytes
    → HasBody (IsBodyAfter (input bytes u ended size) r place) place
body_after bytes u ended size (faulty fault) place within = (no_content, refl, λ next e. cc)
body_after bytes u ended size (head_is h) place within = body_of_kind bytes u ended size h.body place within

-- ---- messages

-- the messages from the place on
abbrev HasMessages : List ℕ → Option ℕ → Bool → ℕ → ℕ → Type 0
HasMessages bytes u ended size place = (ms : List Message) × AreMessages (input bytes u ended size) place ms

-- a message, and those behind it
message_then : (bytes : List ℕ) (u : Option ℕ) (ended : Bool) (size place : ℕ) (m : Message) (next : Option ℕ) → next_start m.body ≡ next
    → IsMessageAt (input bytes u ended size) place m → ((n : ℕ) → next ≡ Some n → HasMessages bytes u ended size n)
    → HasMessages bytes u ended size place
message_then bytes u ended size place m None is at later =
    let none : List Message = [] in
    (m ∷ none, (at, subst (λ o. MatchOption o (none ≡ none) (λ n. AreMessages (input bytes u ended size) n none)) (sym is) refl))
message_then bytes u ended size place m (Some n) is at later =
    let others = later n refl in
    (m ∷ others.0, (at, subst (λ o. MatchOption o (others.0 ≡ []) (λ k. AreMessages (input bytes u ended size) k others.0)) (sym is) others.1))

-- the message whose head stands here, and those behind it
messages_from : (bytes : List ℕ) (u : Option ℕ) (ended : Bool) (size place s e : ℕ) → IsHeadPiece (drop place bytes) s e
    → ((next : ℕ) → place + 2 ≤ length bytes → place < next → HasMessages bytes u ended size next) → HasMessages bytes u ended size place
messages_from bytes u ended size place s e piece later =
    let r = reading_within_of size (slice_range (drop place bytes) s e) in
    let long = piece_long bytes place s e piece in
    let b = body_after bytes u ended size r.0 (place + e) (omega (arith, piece.in_range, length-drop place bytes)) in
    let m : Message = record { reading = r.0; body_start = place + e; body = b.0 } in
    let at : IsMessageAt (input bytes u ended size) place m = record { start = s; end = e; piece = piece; body_start = refl; reading = r.1; body = b.1 } in
    message_then bytes u ended size place m (next_start b.0) refl at (λ n is. later n long (omega (arith, b.2 n is, piece_end (drop place bytes) s e piece)))

-- all of them; the fuel is above the bytes that are left
messages_by_fuel : (fuel : ℕ) (bytes : List ℕ) (u : Option ℕ) (ended : Bool) (size place : ℕ) → length bytes - place < fuel
    → HasMessages bytes u ended size place
messages_by_fuel zero bytes u ended size place enough = absurd (omega arith)
messages_by_fuel (suc fuel) bytes u ended size place enough =
    elim (head_piece_decided (drop place bytes)) [
      | inl none ↦ ([], none)
      | inr x ↦ messages_from bytes u ended size place x.0 x.1 x.2 (λ next long less. messages_by_fuel fuel bytes u ended size next (omega arith))
    ]

-- all bytes have a parse
pub parse_exists : (i : Input) → (ms : List Message) × IsParse i ms
parse_exists i = messages_by_fuel (suc (length i.bytes)) i.bytes i.upgraded i.ended i.hold_size 0 (omega arith)
