-- What was handed out as the beginning of a parse: all but the newest have ended and are answered.
use Rattle.std.proofs.Common.{◌≡◌, ℕ, zero, suc, ◌≤◌, Bool, List, [], ◌∷◌, ◌++◌, length, take, drop, reverse, Option, Some, None, IsSome, IsTrue, unwrap_or, MatchOption, refl, sym, ap, ◌∙◌, subst, inl, inr, arith}
use Rattle.std.specs.Prelude.{slice_get, ⊤}
use Rattle.std.proofs.lemmas.Option.{none-some, same_Some}
use Rattle.std.proofs.lemmas.List.{reverse-append}
use Rattle.model_h1.specs.HeadPiece.{HasNoHeadPiece}
use Rattle.model_h1.specs.Request.{faulty, too_large}
use Rattle.model_h1.specs.Parse.{Input, Message, next_start, AreMessages}
use Rattle.model_h1.specs.Handed.{Handed, newly_handed, AreItemsOf, Agrees, IsLastOrEnded, IsOversized, IsPrefixFrom}
use Rattle.model_h1.specs.Laws.Growth.{GrowTo}
use Rattle.model_h1.proofs.BodyLemmas.{input}
use Rattle.model_h1.proofs.HandedLemmas.{ended_closed, agrees_grows}
use Rattle.model_h1.proofs.TraceGrowth.{rest_of, message_accepted, none_behind}

-- ---- messages that have ended

-- each of these agrees with the message in its place, which has ended, and is answered
abbrev pub Ended : List ℕ → List Handed → List Message → Type 0
Ended bytes [] ms = ⊤
Ended bytes (h ∷ hs) [] = ⊥
Ended bytes (h ∷ hs) (m ∷ ms) = Agrees bytes h m × IsSome (next_start m.body) × IsTrue h.answered × Ended bytes hs ms

-- the newest is the last of them in order
pub reverse_push : (h : Handed) (hs : List Handed) → reverse (h ∷ hs) ≡ reverse hs ++ h ∷ []
reverse_push h hs = reverse-append (h ∷ []) hs

-- the message of Some
first_message : (q m : Message) → Some q ≡ Some m → m ≡ q
first_message q m e = sym (same_Some q m e)

-- one more
pub ended_push : (bytes : List ℕ) (hs : List Handed) (ms : List Message) (h : Handed) (m : Message) → Ended bytes hs ms
    → slice_get ms (length hs) ≡ Some m → Agrees bytes h m → IsSome (next_start m.body) → IsTrue h.answered → Ended bytes (hs ++ h ∷ []) ms
ended_push bytes [] [] h m x e agrees ends answered = absurd (none-some m e)
ended_push bytes [] (q ∷ ms) h m x e agrees ends answered =
    let same = first_message q m e in
    (subst (Agrees bytes h) same agrees, subst (λ (p : Message). IsSome (next_start p.body)) same ends, answered, tt)
ended_push bytes (g ∷ gs) [] h m x e agrees ends answered = absurd x
ended_push bytes (g ∷ gs) (q ∷ ms) h m x e agrees ends answered = (x.0, x.1, x.2, ended_push bytes gs ms h m x.3 e agrees ends answered)

-- they still agree when bytes follow
pub ended_grows : (front all : List ℕ) (hs : List Handed) (ms ns : List Message) → GrowTo front all ms ns → Ended front hs ms → Ended all hs ns
ended_grows front all [] ms ns g x = tt
ended_grows front all (h ∷ hs) [] ns g x = absurd x
ended_grows front all (h ∷ hs) (m ∷ ms) [] g x = absurd g
ended_grows front all (h ∷ hs) (m ∷ ms) (n ∷ ns) g x =
    let same = g.0.body.closed (ended_closed m.body x.1) in
    (agrees_grows front all h m n g.0 x.0, subst (λ b. IsSome (next_start b)) same.0 x.1, x.2, ended_grows front all hs ms ns g.1 x.3)

-- a message with the same reading and the same body
pub agrees_same : (bytes : List ℕ) (h : Handed) (m n : Message) → m.reading ≡ n.reading → m.body ≡ n.body → Agrees bytes h m → Agrees bytes h n
agrees_same bytes h m n reading body x = record {
  reading = x.reading ∙ reading;
  items = subst (λ b. AreItemsOf bytes b h.items) body x.items;
}

-- they still agree when a WebSocket is accepted, if a message stands behind them
pub ended_accepted : (bytes : List ℕ) (limit : ℕ) (ended : Bool) (size : ℕ) (place : ℕ) (hs : List Handed) (ms ns : List Message) (m : Message)
    → AreMessages (input bytes None ended size) place ms → AreMessages (input bytes (Some limit) ended size) place ns
    → slice_get ms (length hs) ≡ Some m → Ended bytes hs ms → Ended bytes hs ns
ended_accepted bytes limit ended size place [] ms ns m x y e z = tt
ended_accepted bytes limit ended size place (g ∷ gs) [] ns m x y e z = absurd z
ended_accepted bytes limit ended size place (g ∷ gs) (q ∷ ms) [] m x y e z = absurd (y x.0.start x.0.end x.0.piece)
ended_accepted bytes limit ended size place (g ∷ gs) (q ∷ ms) (r ∷ ns) m x y e z =
    let rest = rest_of (input bytes None ended size) (next_start q.body) ms (length gs) m x.1 e in
    let here = message_accepted bytes limit ended size place q r x.0 y.0 in
    elim here.body [
      | inl same ↦
          let next = sym (ap next_start same) ∙ rest.1 in
          let behind = subst (λ (o : Option ℕ). MatchOption o (ns ≡ []) (λ p. AreMessages (input bytes (Some limit) ended size) p ns)) next y.1 in (
            agrees_same bytes g q r here.reading same z.0,
            subst (λ b. IsSome (next_start b)) same z.1,
            z.2,
            ended_accepted bytes limit ended size rest.0 gs ms ns m rest.2 behind e z.3,
          )
      | inr framed ↦ absurd (none_behind bytes None ended size rest.0 ms (length gs) m rest.2 (framed.3 rest.0 rest.1) e)
    ]

-- ---- the prefix

-- nothing is a prefix
pub prefix_none : (hold_size : ℕ) (bytes : List ℕ) (place : ℕ) (ms : List Message) → IsPrefixFrom hold_size bytes place [] ms
prefix_none hold_size bytes place [] = tt
prefix_none hold_size bytes place (m ∷ ms) = tt

-- a message that has ended and is answered may have others behind it
last_ended : (h : Handed) (m : Message) (hs : List Handed) → IsSome (next_start m.body) → IsTrue h.answered → IsLastOrEnded h m hs
last_ended h m [] ends answered = tt
last_ended h m (next ∷ hs) ends answered = (ends, answered)

-- the newest stands behind those that have ended
pub prefix_last : (hold_size : ℕ) (bytes : List ℕ) (place : ℕ) (hs : List Handed) (ms : List Message) (h : Handed) (m : Message) → Ended bytes hs ms
    → slice_get ms (length hs) ≡ Some m → Agrees bytes h m → IsPrefixFrom hold_size bytes place (hs ++ h ∷ []) ms
prefix_last hold_size bytes place [] [] h m x e agrees = absurd (none-some m e)
prefix_last hold_size bytes place [] (q ∷ ms) h m x e agrees =
    (subst (Agrees bytes h) (first_message q m e) agrees, tt, prefix_none hold_size bytes (unwrap_or (next_start q.body) place) ms)
prefix_last hold_size bytes place (g ∷ gs) [] h m x e agrees = absurd x
prefix_last hold_size bytes place (g ∷ gs) (q ∷ ms) h m x e agrees =
    (x.0, last_ended g q (gs ++ h ∷ []) x.1 x.2, prefix_last hold_size bytes (unwrap_or (next_start q.body) place) gs ms h m x.3 e agrees)

-- the place behind the messages
abbrev pub end_of : ℕ → List Message → ℕ
end_of place [] = place
end_of place (m ∷ ms) = end_of (unwrap_or (next_start m.body) place) ms

-- a fault stands behind all messages
pub prefix_over : (hold_size : ℕ) (bytes : List ℕ) (place end : ℕ) (hs : List Handed) (ms : List Message) → Ended bytes hs ms → length hs ≡ length ms
    → end_of place ms ≡ end → hold_size ≤ length (drop end bytes) → HasNoHeadPiece (take hold_size (drop end bytes))
    → IsPrefixFrom hold_size bytes place (hs ++ newly_handed (faulty too_large) ∷ []) ms
prefix_over hold_size bytes place end [] [] x same e many none =
    subst (λ p. IsOversized hold_size (drop p bytes) (newly_handed (faulty too_large) ∷ [])) (sym e) (refl, many, none)
prefix_over hold_size bytes place end [] (m ∷ ms) x same e many none = absurd (omega arith)
prefix_over hold_size bytes place end (g ∷ gs) [] x same e many none = absurd x
prefix_over hold_size bytes place end (g ∷ gs) (q ∷ ms) x same e many none = (
  x.0,
  last_ended g q (gs ++ newly_handed (faulty too_large) ∷ []) x.1 x.2,
  prefix_over hold_size bytes (unwrap_or (next_start q.body) place) end gs ms x.3 (omega arith) e many none,
)

-- ---- the last message

-- what isn't in a list is past its end
pub past_end : {A : Type 0} (xs : List A) (k : ℕ) → slice_get xs k ≡ None → length xs ≤ k
past_end [] k e = omega arith
past_end (x ∷ xs) zero e = absurd (none-some x (sym e))
past_end (x ∷ xs) (suc k) e = let less = past_end xs k e in omega arith

-- the place behind the messages is the end of the last one
pub end_at : (place : ℕ) (ms : List Message) (k : ℕ) (m : Message) (next : ℕ) → slice_get ms k ≡ Some m → length ms ≡ suc k
    → next_start m.body ≡ Some next → end_of place ms ≡ next
end_at place [] k m next e len ends = absurd (none-some m e)
end_at place (q ∷ []) zero m next e len ends =
    ap (λ (p : Message). unwrap_or (next_start p.body) place) (same_Some q m e) ∙ ap (λ (o : Option ℕ). unwrap_or o place) ends
end_at place (q ∷ r ∷ ms) zero m next e len ends = absurd (omega arith)
end_at place (q ∷ ms) (suc k) m next e len ends = end_at (unwrap_or (next_start q.body) place) ms k m next e (omega arith) ends

-- no head stands behind the last message
pub nothing_behind : (i : Input) (place : ℕ) (ms : List Message) (k : ℕ) (m : Message) (next : ℕ) → AreMessages i place ms
    → slice_get ms k ≡ Some m → length ms ≡ suc k → next_start m.body ≡ Some next → HasNoHeadPiece (drop next i.bytes)
nothing_behind i place [] k m next x e len ends = absurd (none-some m e)
nothing_behind i place (q ∷ []) zero m next x e len ends =
    let same = ap (λ (p : Message). next_start p.body) (same_Some q m e) ∙ ends in
    subst (λ (o : Option ℕ). MatchOption o (◌≡◌ {A = List Message} [] []) (λ n. AreMessages i n [])) same x.1
nothing_behind i place (q ∷ r ∷ ms) zero m next x e len ends = absurd (omega arith)
nothing_behind i place (q ∷ ms) (suc k) m next x e len ends =
    let rest = rest_of i (next_start q.body) ms k m x.1 e in
    nothing_behind i rest.0 ms k m next rest.2 e (omega arith) ends
