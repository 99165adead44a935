-- Bytes say one thing to a codec.
use Rattle.std.proofs.Common.{◌≡◌, ℕ, Bool, List, [], ◌∷◌, drop, slice_range, sym, ap, ◌∙◌, subst}
use Rattle.std.specs.Prelude.{Option, Some, None}
use Rattle.model_h1.specs.Reading.{Ending, goes_on, is_broken, ends_before}
use Rattle.model_h1.proofs.HeadPieceLemmas.{head_piece_unique}
use Rattle.h1_payload.specs.Decoding.{Decoding, Payload}
use Rattle.h1_payload.proofs.Whole.{one_payload}
use Rattle.h1_codec.specs.Kind.{Reading, says_head, Kind, IsOneReading}
use Rattle.h1_codec.specs.Heads.{HasSeen, payload_of, Stop, waits, refused}
use Rattle.h1_codec.specs.declared.payload_type.PayloadType.{PayloadType}
use Rattle.h1_codec.proofs.Refusals.{one_reading_of_all}
use Rattle.h1_codec.specs.FramedMessages.{Part, Messages, part_of, body_of, After, IsPart, AreMessages, Standing, Reads}
use Rattle.h1_codec.specs.Sameness.{SayTheSame, AreTheSame}
use Rattle.h1_codec.proofs.NextHeads.{none_read, refusal_read}

one_after : (ending : Ending) (G H : List ℕ → Type 0) (S T Q : Type 0) → ((left : List ℕ) → G left → H left → Q) → (S → T → Q)
    → After ending G S → After ending H T → Q
one_after goes_on G H S T Q f g x y = g x y
one_after is_broken G H S T Q f g x y = g x y
one_after (ends_before left) G H S T Q f g x y = f left x y

-- one thing came of a body, and what follows is one thing
one_part : (body : Option Decoding) (bytes : List ℕ) (x y : Part) (G H : List ℕ → Type 0) (S T Q : Type 0)
    → ((left : List ℕ) → G left → H left → Q) → (S → T → Q) → IsPart body bytes x G S → IsPart body bytes y H T → (x ≡ y) × Q
one_part None bytes x y G H S T Q f g (is, on) (is', on') = (is ∙ sym is', f bytes on on')
one_part (Some d) bytes x y G H S T Q f g (p, reads, is, on) (p', reads', is', on') =
    let same : p ≡ p' = one_payload d bytes p p' reads reads' in
    (is ∙ ap part_of same ∙ sym is', one_after p'.ending G H S T Q f g (subst (λ (q : Payload). After q.ending G S) same on) on')

module _ {I : Type 0} (k : Kind I) (one : IsOneReading k) (is_bare : Bool) where
  no_more : (limit : ℕ) (bytes : List ℕ) (s t : Stop) (n : I × Part) (ns : List (I × Part)) → AreMessages k is_bare limit bytes [] s
      → AreMessages k is_bare limit bytes (n ∷ ns) t → ⊥
  no_more limit bytes waits t n ns a b = let never = (none_read k one is_bare limit bytes (n ∷ ns) t a b).0 in cc never
  no_more limit bytes (refused fault) t n ns a b = let never = (refusal_read k one is_bare limit bytes fault (n ∷ ns) t a b).0 in cc never

  both_stop : (xs ys : List (I × Part)) (u v : Stop) → (xs ≡ []) × (u ≡ waits) → (ys ≡ []) × (v ≡ waits) → SayTheSame k xs ys × (u ≡ v)
  both_stop xs ys u v (none, stays) (none', stays') =
      (subst (λ (l : List (I × Part)). SayTheSame k l ys) (sym none) (subst (λ (l : List (I × Part)). SayTheSame k [] l) (sym none') tt), stays ∙ sym stays')

  one_list : (limit : ℕ) (bytes : List ℕ) (ms ns : List (I × Part)) (s t : Stop) → AreMessages k is_bare limit bytes ms s
      → AreMessages k is_bare limit bytes ns t → SayTheSame k ms ns × (s ≡ t)
  one_list limit bytes [] [] s t a b = (tt, (one_reading_of_all k one limit bytes [] [] s t a b).1)
  one_list limit bytes [] (n ∷ ns) s t a b = absurd (no_more limit bytes s t n ns a b)
  one_list limit bytes (m ∷ ms) [] s t a b = absurd (no_more limit bytes t s m ms b a)
  one_list limit bytes (m ∷ ms) (n ∷ ns) s t (p, e, kind, next, said, part) (p', e', kind', next', said', part') =
      let same = head_piece_unique bytes p e p' e' next.piece next'.piece in
      let there : k.reads (slice_range bytes p' e') (says_head said.head) =
      subst (λ (x : ℕ). k.reads (slice_range bytes p' x) (says_head said.head)) same.1
      (subst (λ (x : ℕ). k.reads (slice_range bytes x e) (says_head said.head)) same.0 said.reading) in
      let both : ◌≡◌ {A = Reading k.Head} (says_head said.head) (says_head said'.head) =
      one (slice_range bytes p' e') (says_head said.head) (says_head said'.head) there said'.reading in
      let head : said.head ≡ said'.head = cc in
      let kinds : kind ≡ kind' = said.payload ∙ ap (λ (h : k.Head). payload_of (k.body h)) head ∙ sym said'.payload in
      let here : IsPart (body_of is_bare kind') (drop e' bytes) m.1 (λ left. AreMessages k is_bare limit left ms s) ((ms ≡ []) × (s ≡ waits)) =
      subst (λ (x : ℕ). IsPart (body_of is_bare kind') (drop x bytes) m.1 (λ left. AreMessages k is_bare limit left ms s) ((ms ≡ []) × (s ≡ waits))) same.1
      (subst (λ (x : PayloadType). IsPart (body_of is_bare x) (drop e bytes) m.1 (λ left. AreMessages k is_bare limit left ms s) ((ms ≡ []) × (s ≡ waits))) kinds part) in
      let rest = one_part (body_of is_bare kind') (drop e' bytes) m.1 n.1 (λ left. AreMessages k is_bare limit left ms s)
      (λ left. AreMessages k is_bare limit left ns t) ((ms ≡ []) × (s ≡ waits)) ((ns ≡ []) × (t ≡ waits)) (SayTheSame k ms ns × (s ≡ t))
      (λ left a b. one_list limit left ms ns s t a b) (λ a b. both_stop ms ns s t a b) here part' in (
        ((said.head, said.says, subst (k.says n.0) (sym head) said'.says, rest.0), rest.1.0),
        rest.1.1,
      )

  pub one_said : (standing : Standing) (bytes : List ℕ) (s t : Messages I) → ((b : List ℕ) → HasSeen standing.search b)
      → Reads k is_bare standing bytes s → Reads k is_bare standing bytes t → AreTheSame k s t
  one_said standing bytes s t seen a b =
      let both = one_part standing.body bytes s.part t.part
      (λ left. HasSeen standing.search left → AreMessages k is_bare standing.search.limit left s.messages s.stop)
      (λ left. HasSeen standing.search left → AreMessages k is_bare standing.search.limit left t.messages t.stop)
      ((s.messages ≡ []) × (s.stop ≡ waits)) ((t.messages ≡ []) × (t.stop ≡ waits)) (SayTheSame k s.messages t.messages × (s.stop ≡ t.stop))
      (λ left x y. one_list standing.search.limit left s.messages t.messages s.stop t.stop (x (seen left)) (y (seen left)))
      (λ x y. both_stop s.messages t.messages s.stop t.stop x y) a b in
      record { part = both.0; messages = both.1.0; stop = both.1.1 }
