-- The messages of the bytes are parsed in one way.
use Rattle.std.proofs.Common.{◌≡◌, ℕ, ◌+◌, List, [], ◌∷◌, drop, slice_range, Option, Some, None, MatchOption, refl, sym, ap, ◌∙◌, subst, subst₂}
use Rattle.model_h1.specs.RequestHead.{IsReadingWithin}
use Rattle.model_h1.specs.Parse.{Input, Message, next_start, IsBodyAfter, IsMessageAt, AreMessages}
use Rattle.model_h1.proofs.HeadPieceLemmas.{head_piece_unique}
use Rattle.model_h1.proofs.ReadingLemmas.{reading_within_unique}
use Rattle.model_h1.proofs.BodyLemmas.{body_unique}

-- at one place there is one message
pub message_unique : (i : Input) (place : ℕ) (m n : Message) → IsMessageAt i place m → IsMessageAt i place n → m ≡ n
message_unique i place m n x y =
    let bytes = drop place i.bytes in
    let piece = head_piece_unique bytes x.start x.end y.start y.end x.piece y.piece in
    let body_start : m.body_start ≡ n.body_start = x.body_start ∙ ap (λ e. place + e) piece.1 ∙ sym y.body_start in
    let read = subst₂ (λ s e. IsReadingWithin i.hold_size (slice_range bytes s e) n.reading) (sym piece.0) (sym piece.1) y.reading in
    let reading = reading_within_unique i.hold_size (slice_range bytes x.start x.end) m.reading n.reading x.reading read in
    let behind = subst₂ (λ r p. IsBodyAfter i r p n.body) (sym reading) (sym body_start) y.body in
    let body = body_unique i m.reading m.body_start m.body n.body x.body behind in
    λ j. record { reading = reading j; body_start = body_start j; body = body j }

-- what stands behind a body is one list, if that of the messages behind each place is
rest_unique : (i : Input) (next : Option ℕ) (ms ns : List Message)
    → ((place : ℕ) → AreMessages i place ms → AreMessages i place ns → ms ≡ ns)
    → MatchOption next (ms ≡ []) (λ place. AreMessages i place ms) → MatchOption next (ns ≡ []) (λ place. AreMessages i place ns)
    → ms ≡ ns
rest_unique i None ms ns same x y = x ∙ sym y
rest_unique i (Some place) ms ns same x y = same place x y

-- from one place on there is one list of messages
pub messages_unique : (i : Input) (place : ℕ) (ms ns : List Message) → AreMessages i place ms → AreMessages i place ns → ms ≡ ns
messages_unique i place [] [] x y = refl
messages_unique i place [] (n ∷ ns) x y = absurd (x y.0.start y.0.end y.0.piece)
messages_unique i place (m ∷ ms) [] x y = absurd (y x.0.start x.0.end x.0.piece)
messages_unique i place (m ∷ ms) (n ∷ ns) x y =
    let first = message_unique i place m n x.0 y.0 in
    let behind = subst (λ (k : Message). MatchOption (next_start k.body) (ns ≡ []) (λ next. AreMessages i next ns)) (sym first) y.1 in
    let others = rest_unique i (next_start m.body) ms ns (λ next. messages_unique i next ms ns) x.1 behind in
    λ j. first j ∷ others j
