-- The messages of a parse, and the current one, from one step of a trace to the next.
use Rattle.std.proofs.Common.{◌≡◌, ℕ, zero, suc, ◌+◌, ◌-◌, ◌≤◌, Bool, true, false, List, [], ◌∷◌, length, drop, slice_range, Option, Some, None, ◌⊎◌, MatchOption, refl, sym, ap, ◌∙◌, subst, subst₂, inl, inr, arith, length-drop}
use Rattle.std.specs.Prelude.{slice_get}
use Rattle.std.proofs.lemmas.Option.{none-some, same_Some}
use Rattle.std.proofs.lemmas.Bool.{cond-false, ne_eqb}
use Rattle.model_h1.specs.HeadPiece.{HasNoHeadPiece}
use Rattle.model_h1.specs.RequestHead.{IsReadingWithin}
use Rattle.model_h1.specs.Frame.{ProtocolError}
use Rattle.model_h1.specs.FrameText.{PlacedFrame}
use Rattle.model_h1.specs.Request.{BodyKind, no_body, fixed_body, chunked_body, raw_body, Reading, head_is, faulty}
use Rattle.model_h1.specs.Parse.{Input, Message, Body, content, frames, next_start, raw_content, shifted, chunked_stop, IsBodyOf, IsBodyAfter, IsMessageAt, AreMessages}
use Rattle.model_h1.specs.Laws.Growth.{MessageGrows, GrowTo}
use Rattle.model_h1.specs.Past.{ParsedStep, steps, parse_of, head_count, current}
use Rattle.model_h1.proofs.HeadPieceLemmas.{head_piece_unique}
use Rattle.model_h1.proofs.ReadingLemmas.{reading_within_unique}
use Rattle.model_h1.proofs.Laws.{chunked_unique}
use Rattle.model_h1.proofs.BodyLemmas.{input}
use Rattle.model_h1.proofs.MessageGrowth.{piece_long}
use Rattle.model_h1.proofs.BodySteps.{Lies, body_lies}

-- ---- the message at a place of the list

-- A message that was parsed: its body is the one that follows its head, and lies within the bytes.
pub record IsParsed (i : Input) (m : Message) : Type 0 where
  pub body : IsBodyAfter i m.reading m.body_start m.body
  pub lies : Lies (length i.bytes) m.body_start m.body

-- the message at a place of the bytes
at_place : (i : Input) (place : ℕ) (m : Message) → IsMessageAt i place m → place ≤ length i.bytes → IsParsed i m
at_place i place m x within =
    let start : m.body_start ≤ length i.bytes = omega (arith, x.body_start, x.piece.in_range, length-drop place i.bytes) in
    record { body = x.body; lies = body_lies i m.reading m.body_start m.body start x.body }

-- what stands behind a message is there where the message has ended
pub rest_of : (i : Input) (o : Option ℕ) (ms : List Message) (k : ℕ) (m : Message) → MatchOption o (ms ≡ []) (λ next. AreMessages i next ms)
    → slice_get ms k ≡ Some m → (next : ℕ) × (o ≡ Some next) × AreMessages i next ms
rest_of i None ms k m x e = absurd (none-some m (sym (ap (λ (l : List Message). slice_get l k) x) ∙ e))
rest_of i (Some next) ms k m x e = (next, refl, x)

-- a message of the list, if those behind each place are parsed
pub message_at : (i : Input) (place : ℕ) (ms : List Message) (k : ℕ) (m : Message) → AreMessages i place ms → place ≤ length i.bytes
    → slice_get ms k ≡ Some m → IsParsed i m
message_at i place [] k m x within e = absurd (none-some m e)
message_at i place (q ∷ ms) zero m x within e = subst (IsParsed i) (same_Some q m e) (at_place i place q x.0 within)
message_at i place (q ∷ ms) (suc k) m x within e =
    let rest = rest_of i (next_start q.body) ms k m x.1 e in
    let end = (at_place i place q x.0 within).lies.next rest.0 rest.1 in
    message_at i rest.0 ms k m rest.2 end.1 e

-- the first of the messages from a place on, if there is one
abbrev pub ComesAt : Input → ℕ → Option Message → Type 0
ComesAt i place None = HasNoHeadPiece (drop place i.bytes)
ComesAt i place (Some m) = IsMessageAt i place m

-- of messages from the place on it is the first
pub first_comes : (i : Input) (place : ℕ) (ms : List Message) → AreMessages i place ms → ComesAt i place (slice_get ms 0)
first_comes i place [] x = x
first_comes i place (m ∷ ms) x = x.0

-- what stands behind a message: where it has ended what comes there, and else nothing
abbrev pub ComesBehind : Input → Option ℕ → Option Message → Type 0
ComesBehind i next n = MatchOption next (n ≡ None) (λ place. ComesAt i place n)

-- of the messages behind it it is the first
first_behind : (i : Input) (next : Option ℕ) (ms : List Message) → MatchOption next (ms ≡ []) (λ place. AreMessages i place ms)
    → ComesBehind i next (slice_get ms 0)
first_behind i None ms x = ap (λ (l : List Message). slice_get l 0) x
first_behind i (Some place) ms x = first_comes i place ms x

-- behind a message of the list
pub comes_behind : (i : Input) (place : ℕ) (ms : List Message) (k : ℕ) (m : Message) → AreMessages i place ms → slice_get ms k ≡ Some m
    → ComesBehind i (next_start m.body) (slice_get ms (suc k))
comes_behind i place [] k m x e = absurd (none-some m e)
comes_behind i place (q ∷ ms) zero m x e =
    subst (λ p. ComesBehind i (next_start p.body) (slice_get ms 0)) (same_Some q m e) (first_behind i (next_start q.body) ms x.1)
comes_behind i place (q ∷ ms) (suc k) m x e =
    let rest = rest_of i (next_start q.body) ms k m x.1 e in
    comes_behind i rest.0 ms k m rest.2 e

-- a message that comes behind another starts where that one's body ends
comes_there : (i : Input) (next : Option ℕ) (u : Option Message) (n : Message) → ComesBehind i next u → u ≡ Some n
    → (place : ℕ) × (next ≡ Some place) × IsMessageAt i place n
comes_there i None u n x f = absurd (none-some n (sym x ∙ f))
comes_there i (Some place) u n x f = (place, refl, subst (ComesAt i place) f x)

-- The message behind another starts where that one's body ends.
pub message_behind : (i : Input) (place : ℕ) (ms : List Message) (k : ℕ) (m n : Message) → AreMessages i place ms → slice_get ms k ≡ Some m
    → slice_get ms (suc k) ≡ Some n → (next : ℕ) × (next_start m.body ≡ Some next) × IsMessageAt i next n
message_behind i place ms k m n x e f = comes_there i (next_start m.body) (slice_get ms (suc k)) n (comes_behind i place ms k m x e) f

-- ---- growth

-- the message in the same place of the grown list
pub grown_at : (front all : List ℕ) (ms ns : List Message) (k : ℕ) (m : Message) → GrowTo front all ms ns → slice_get ms k ≡ Some m
    → (n : Message) × (slice_get ns k ≡ Some n) × MessageGrows front all m n
grown_at front all [] ns k m x e = absurd (none-some m e)
grown_at front all (q ∷ ms) [] k m x e = absurd x
grown_at front all (q ∷ ms) (r ∷ ns) zero m x e = (r, refl, subst (λ p. MessageGrows front all p r) (same_Some q m e) x.0)
grown_at front all (q ∷ ms) (r ∷ ns) (suc k) m x e = grown_at front all ms ns k m x.1 e

-- ---- a WebSocket is accepted

-- the body is the same, or it is frames now, and nothing stood behind it
abbrev pub BodyAccepted : ℕ → Body → Body → Type 0
BodyAccepted len a b =
    (a ≡ b) ⊎ ((placed : List PlacedFrame) × (fail : Option ProtocolError) × (b ≡ frames placed fail)
    × ((next : ℕ) → next_start a ≡ Some next → len ≤ next))

-- a message before the acceptance, and the same one behind it
pub record Accepted (len : ℕ) (m n : Message) : Type 0 where
  pub reading : m.reading ≡ n.reading
  pub body_start : m.body_start ≡ n.body_start
  pub body : BodyAccepted len m.body n.body

-- a raw body has ended with the bytes, or hasn't ended
raw_last : (bytes : List ℕ) (ended : Bool) (size : ℕ) (place next : ℕ) → next_start (raw_content (input bytes None ended size) place) ≡ Some next
    → length bytes ≤ next
raw_last bytes true size place next e = let same : length bytes ≡ next = cc in omega arith
raw_last bytes false size place next e = absurd (none-some next e)

-- each kind of body
kind_accepted : (bytes : List ℕ) (limit : ℕ) (ended : Bool) (size : ℕ) (kind : BodyKind) (place : ℕ) (a b : Body)
    → IsBodyOf (input bytes None ended size) kind place a
    → IsBodyOf (input bytes (Some limit) ended size) kind place b → BodyAccepted (length bytes) a b
kind_accepted bytes limit ended size no_body place a b x y = inl (x ∙ sym y)
kind_accepted bytes limit ended size (fixed_body n) place a b x y = inl (x ∙ sym y)
kind_accepted bytes limit ended size chunked_body place a b x y =
    let same = chunked_unique (drop place bytes) x.0 y.0 x.1 y.1 x.2 y.2 in
    inl (x.3 ∙ (λ j. content (shifted place (same.1 j)) (chunked_stop (input bytes (Some limit) ended size) place (same.0 j))) ∙ sym y.3)
kind_accepted bytes limit ended size raw_body place a b x y =
    inr (y.0, y.1, y.3, λ next e. raw_last bytes ended size place next (sym (ap next_start x) ∙ e))

-- the same behind a reading
body_accepted : (bytes : List ℕ) (limit : ℕ) (ended : Bool) (size : ℕ) (r : Reading) (place : ℕ) (a b : Body)
    → IsBodyAfter (input bytes None ended size) r place a
    → IsBodyAfter (input bytes (Some limit) ended size) r place b → BodyAccepted (length bytes) a b
body_accepted bytes limit ended size (faulty fault) place a b x y = inl (x ∙ sym y)
body_accepted bytes limit ended size (head_is h) place a b x y = kind_accepted bytes limit ended size h.body place a b x y

-- the message at a place of the bytes
pub message_accepted : (bytes : List ℕ) (limit : ℕ) (ended : Bool) (size : ℕ) (place : ℕ) (m n : Message)
    → IsMessageAt (input bytes None ended size) place m
    → IsMessageAt (input bytes (Some limit) ended size) place n → Accepted (length bytes) m n
message_accepted bytes limit ended size place m n x y =
    let text = drop place bytes in
    let piece = head_piece_unique text x.start x.end y.start y.end x.piece y.piece in
    let body_start : m.body_start ≡ n.body_start = x.body_start ∙ ap (λ e. place + e) piece.1 ∙ sym y.body_start in
    let read = subst₂ (λ s e. IsReadingWithin size (slice_range text s e) n.reading) (sym piece.0) (sym piece.1) y.reading in
    let reading = reading_within_unique size (slice_range text x.start x.end) m.reading n.reading x.reading read in
    let behind = subst₂ (λ r p. IsBodyAfter (input bytes (Some limit) ended size) r p n.body) (sym reading) (sym body_start) y.body in
    record { reading = reading; body_start = body_start; body = body_accepted bytes limit ended size m.reading m.body_start m.body n.body x.body behind }

-- nothing stands behind the end of the bytes
pub none_behind : (bytes : List ℕ) (u : Option ℕ) (ended : Bool) (size : ℕ) (place : ℕ) (ms : List Message) (k : ℕ) (m : Message)
    → AreMessages (input bytes u ended size) place ms
    → length bytes ≤ place → slice_get ms k ≡ Some m → ⊥
none_behind bytes u ended size place [] k m x past e = none-some m e
none_behind bytes u ended size place (q ∷ ms) k m x past e = omega (arith, piece_long bytes place x.0.start x.0.end x.0.piece)

-- the message in the same place, behind the acceptance
pub accepted_at : (bytes : List ℕ) (limit : ℕ) (ended : Bool) (size : ℕ) (place : ℕ) (ms ns : List Message) (k : ℕ) (m : Message)
    → AreMessages (input bytes None ended size) place ms → AreMessages (input bytes (Some limit) ended size) place ns → slice_get ms k ≡ Some m
    → (n : Message) × (slice_get ns k ≡ Some n) × Accepted (length bytes) m n
accepted_at bytes limit ended size place [] ns k m x y e = absurd (none-some m e)
accepted_at bytes limit ended size place (q ∷ ms) [] k m x y e = absurd (y x.0.start x.0.end x.0.piece)
accepted_at bytes limit ended size place (q ∷ ms) (r ∷ ns) zero m x y e =
    (r, refl, subst (λ p. Accepted (length bytes) p r) (same_Some q m e) (message_accepted bytes limit ended size place q r x.0 y.0))
accepted_at bytes limit ended size place (q ∷ ms) (r ∷ ns) (suc k) m x y e =
    let rest = rest_of (input bytes None ended size) (next_start q.body) ms k m x.1 e in
    elim (message_accepted bytes limit ended size place q r x.0 y.0).body [
      | inl same ↦
          let next = sym (ap next_start same) ∙ rest.1 in
          let behind = subst (λ (o : Option ℕ). MatchOption o (ns ≡ []) (λ p. AreMessages (input bytes (Some limit) ended size) p ns)) next y.1 in
          accepted_at bytes limit ended size rest.0 ms ns k m rest.2 behind e
      | inr framed ↦ absurd (none_behind bytes None ended size rest.0 ms k m rest.2 (framed.3 rest.0 rest.1) e)
    ]

-- ---- the current message

-- it is the last one whose head was handed out
pub current_at : (past : List ParsedStep) (k : ℕ) → head_count (steps past) ≡ suc k → current past ≡ slice_get (parse_of past) k
current_at past k e =
    let less : suc k - 1 ≡ k = omega arith in
    rw (e, less) (cond-false _ _ _ (ne_eqb (suc k) 0 (omega arith)))

-- where no head was handed out there is none
pub current_none : (past : List ParsedStep) → head_count (steps past) ≡ 0 → current past ≡ None
current_none past e = rw e refl
