-- Messages when bytes follow: each keeps its place and its reading, and its body grows.
use Rattle.std.proofs.Common.{◌≡◌, ℕ, ◌+◌, ◌-◌, ◌≤◌, Bool, false, List, [], ◌∷◌, ◌++◌, length, drop, slice_range, Option, Some, None, MatchOption, refl, sym, ap, ap₂, ◌∙◌, subst, subst₂, arith, length-drop}
use Rattle.std.proofs.lemmas.List.{drop-append-le, length-take}
use Rattle.model_h1.specs.HeadPiece.{IsHeadPiece}
use Rattle.model_h1.specs.RequestHead.{IsReadingWithin}
use Rattle.model_h1.specs.Parse.{Input, Message, Body, no_content, content, frames, ended_at, still_open, broken, cut, next_start, IsBodyAfter, IsMessageAt, AreMessages, IsParse}
use Rattle.model_h1.specs.Laws.Growth.{may_grow, MessageGrows, GrowTo}
use Rattle.model_h1.proofs.BlankLemmas.{ends_blank_long}
use Rattle.model_h1.proofs.HeadPieceLemmas.{head_piece_unique, head_piece_append, slice_range-append}
use Rattle.model_h1.proofs.ReadingLemmas.{reading_within_unique}
use Rattle.model_h1.proofs.BodyLemmas.{input}
use Rattle.model_h1.proofs.BodyGrowth.{body_grows}

-- a head ends behind two bytes at least
pub piece_end : (bytes : List ℕ) (s e : ℕ) → IsHeadPiece bytes s e → 2 ≤ e
piece_end bytes s e x = omega (arith, ends_blank_long _ x.ends, length-take (e - s) (drop s bytes))

-- behind the place of a head stand two bytes at least
pub piece_long : (bytes : List ℕ) (place s e : ℕ) → IsHeadPiece (drop place bytes) s e → place + 2 ≤ length bytes
piece_long bytes place s e x =
    omega (arith, piece_end (drop place bytes) s e x, x.in_range, length-drop place bytes)

-- a head at a place stays when bytes follow
pub placed_piece : (bytes more : List ℕ) (place s e : ℕ) → IsHeadPiece (drop place bytes) s e → IsHeadPiece (drop place (bytes ++ more)) s e
placed_piece bytes more place s e x =
    let long = piece_long bytes place s e x in
    subst (λ t. IsHeadPiece t s e) (sym (drop-append-le place bytes more (omega arith))) (head_piece_append (drop place bytes) more s e x)

-- and its bytes are the same
pub placed_slice : (bytes more : List ℕ) (place s e : ℕ) → IsHeadPiece (drop place bytes) s e
    → slice_range (drop place (bytes ++ more)) s e ≡ slice_range (drop place bytes) s e
placed_slice bytes more place s e x =
    let long = piece_long bytes place s e x in
    ap (λ (t : List ℕ). slice_range t s e) (drop-append-le place bytes more (omega arith))
    ∙ slice_range-append (drop place bytes) more s e x.ordered x.in_range

-- a message grows to the message at its place
pub message_grows : (bytes more : List ℕ) (u : Option ℕ) (ended : Bool) (size place : ℕ) (m n : Message)
    → IsMessageAt (input bytes u false size) place m
    → IsMessageAt (input (bytes ++ more) u ended size) place n → MessageGrows bytes (bytes ++ more) m n
message_grows bytes more u ended size place m n x y =
    let all = bytes ++ more in
    let long = piece_long bytes place x.start x.end x.piece in
    let piece = head_piece_unique (drop place all) x.start x.end y.start y.end (placed_piece bytes more place x.start x.end x.piece) y.piece in
    let body_start : m.body_start ≡ n.body_start = x.body_start ∙ ap (λ e. place + e) piece.1 ∙ sym y.body_start in
    let text : slice_range (drop place all) y.start y.end ≡ slice_range (drop place bytes) x.start x.end =
    ap₂ (slice_range (drop place all)) (sym piece.0) (sym piece.1) ∙ placed_slice bytes more place x.start x.end x.piece in
    let reading = reading_within_unique size (slice_range (drop place bytes) x.start x.end) m.reading n.reading x.reading (subst (λ t. IsReadingWithin size t n.reading) text y.reading) in
    let behind = subst₂ (λ r p. IsBodyAfter (input all u ended size) r p n.body) (sym reading) (sym body_start) y.body in
    let within : m.body_start ≤ length bytes = omega (arith, x.body_start, x.piece.in_range, length-drop place bytes) in
    record {
      reading = reading;
      body_start = body_start;
      body = body_grows bytes more u ended size m.reading m.body_start m.body n.body within x.body behind;
    }

-- a body behind which the next message starts isn't open
pub next_closed : (b : Body) (next : ℕ) → next_start b ≡ Some next → may_grow b ≡ false
next_closed no_content next e = refl
next_closed (content runs (ended_at place trailers)) next e = refl
next_closed (content runs still_open) next e = cc
next_closed (content runs broken) next e = refl
next_closed (content runs cut) next e = refl
next_closed (frames placed None) next e = cc
next_closed (frames placed (Some fail)) next e = refl

-- what stands behind a message grows, if what stands behind each place does
rest_grows : (bytes more : List ℕ) (u : Option ℕ) (ended : Bool) (size : ℕ) (a b : Option ℕ) (ms ns : List Message)
    → ((next : ℕ) → a ≡ Some next → b ≡ Some next)
    → ((next : ℕ) → AreMessages (input bytes u false size) next ms → AreMessages (input (bytes ++ more) u ended size) next ns → GrowTo bytes (bytes ++ more) ms ns)
    → MatchOption a (ms ≡ []) (λ next. AreMessages (input bytes u false size) next ms)
    → MatchOption b (ns ≡ []) (λ next. AreMessages (input (bytes ++ more) u ended size) next ns) → GrowTo bytes (bytes ++ more) ms ns
rest_grows bytes more u ended size None b ms ns same grows x y = subst (λ ks. GrowTo bytes (bytes ++ more) ks ns) (sym x) tt
rest_grows bytes more u ended size (Some next) b ms ns same grows x y =
    let here = subst (λ o. MatchOption o (ns ≡ []) (λ k. AreMessages (input (bytes ++ more) u ended size) k ns)) (same next refl) y in
    grows next x here

-- the messages from a place on grow
pub messages_grow : (bytes more : List ℕ) (u : Option ℕ) (ended : Bool) (size place : ℕ) (ms ns : List Message)
    → AreMessages (input bytes u false size) place ms
    → AreMessages (input (bytes ++ more) u ended size) place ns → GrowTo bytes (bytes ++ more) ms ns
messages_grow bytes more u ended size place [] ns x y = tt
messages_grow bytes more u ended size place (m ∷ ms) [] x y =
    absurd (y x.0.start x.0.end (placed_piece bytes more place x.0.start x.0.end x.0.piece))
messages_grow bytes more u ended size place (m ∷ ms) (n ∷ ns) x y =
    let first = message_grows bytes more u ended size place m n x.0 y.0 in
    let same : (next : ℕ) → next_start m.body ≡ Some next → next_start n.body ≡ Some next =
    λ next e. sym (ap next_start (first.body.closed (next_closed m.body next e)).0) ∙ e in
    (first, rest_grows bytes more u ended size (next_start m.body) (next_start n.body) ms ns same (λ next. messages_grow bytes more u ended size next ms ns) x.1 y.1)

-- the parse grows
pub parse_grows : (i j : Input) (more : List ℕ) (ms ns : List Message) → j.bytes ≡ i.bytes ++ more → j.upgraded ≡ i.upgraded
    → j.hold_size ≡ i.hold_size → i.ended ≡ false → IsParse i ms → IsParse j ns → GrowTo i.bytes j.bytes ms ns
parse_grows i j more ms ns bytes upgraded size ended x y =
    let x' = subst (λ e. IsParse (input i.bytes i.upgraded e i.hold_size) ms) ended x in
    let y' : IsParse (input (i.bytes ++ more) i.upgraded j.ended i.hold_size) ns = subst (λ (k : Input). IsParse k ns)
    (λ n. input (bytes n) (upgraded n) j.ended (size n)) y in
    subst (λ t. GrowTo i.bytes t ms ns) (sym bytes) (messages_grow i.bytes more i.upgraded j.ended i.hold_size 0 ms ns x' y')
