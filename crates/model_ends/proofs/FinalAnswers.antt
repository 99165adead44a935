-- The final answers that a client handed out are those of the server's exchanges, the first of them.
use Rattle.std.proofs.Common.{◌≡◌, ℕ, Bool, true, false, List, [], ◌∷◌, ◌++◌, cond, flat_map, reverse, refl, sym, ap, ap₂, ◌∙◌, append-nil, append_assoc}
use Rattle.std.specs.Prelude.{⊤, if◌then◌else◌}
use Rattle.std.specs.List.{AllByRecursion}
use Rattle.std.proofs.lemmas.Grind.{reverse_onto}
use Rattle.model_h1.specs.Request.{Head}
use Rattle.model_h1.specs.Setting.{Setting}
use Rattle.model_h1.specs.Handed.{Item, item_bytes, item_trailers, item_end, item_fault}
use Rattle.model_h1.specs.Laws.Exchanges.{Reply, no_reply, answer_given, session, Exchange}
use Rattle.model_client.specs.AnswerReading.{Answer, AnswerReading, answer_is, refused}
use Rattle.model_client.specs.AnswerParse.{is_interim}
use Rattle.model_client.specs.ClientEvent as on
use Rattle.model_client.specs.ClientEvent.{ClientOutcome}
use Rattle.model_client.specs.ClientTrace.{Happened}
use Rattle.model_ends.specs.PlainExchange.{IsFramedReply, IsPlain}
use Rattle.model_ends.specs.SentAnswer.{SentAnswer, sent_answer, sent_by, interim_sent, sent_to}
use Rattle.model_ends.proofs.InterimStatuses.{not_interim}
use Rattle.model_client.specs.ReadOut.{ReadAnswer, ReadOut, with_item_of, with_item, reading_out, read_out}
use Rattle.model_ends.proofs.Holds.{AreSo}
use Rattle.model_ends.proofs.KeptOn.{KeepsAfter, IsKeptOn}
use Rattle.model_ends.proofs.ClosesAfter.{final_in, finals}

-- ---- of what was handed out

abbrev final_of : AnswerReading → List Answer
final_of (answer_is a) = if is_interim a.status then [] else a ∷ []
final_of (refused f) = []

-- the final answers, the first first, of answers of which the newest comes first
abbrev finals_out : List ReadAnswer → List Answer
finals_out [] = []
finals_out (o ∷ outs) = finals_out outs ++ final_of o.reading

abbrev finals_done : List SentAnswer → List Answer
finals_done [] = []
finals_done (s ∷ ds) = finals_done ds ++ final_of (answer_is s.answer)

out_item : (item : Item) (out : ReadOut) → finals_out out.answers ++ [] ≡ finals_out (with_item item out).answers
out_item item out = by_answers out.answers
  where
    by_answers : (outs : List ReadAnswer) → finals_out outs ++ [] ≡ finals_out (with_item_of item out.stray outs).answers
    by_answers [] = refl
    by_answers (o ∷ outs) = append-nil (finals_out (o ∷ outs))

out_more : (o : ClientOutcome) (out : ReadOut) → finals_out out.answers ++ final_in o ≡ finals_out (reading_out o out).answers
out_more (on.answer a) out = refl
out_more (on.fault f) out = refl
out_more (on.bytes more) out = out_item (item_bytes more) out
out_more (on.trailers lines) out = out_item (item_trailers lines) out
out_more on.body_ended out = out_item item_end out
out_more (on.broken_by f) out = out_item (item_fault f) out
out_more (on.took n) out = append-nil (finals_out out.answers)
out_more on.pending out = append-nil (finals_out out.answers)
out_more (on.closed end) out = append-nil (finals_out out.answers)
out_more (on.gave bytes) out = append-nil (finals_out out.answers)
out_more on.done out = append-nil (finals_out out.answers)

out_finals : (trace : List Happened) → finals trace ≡ finals_out (read_out trace).answers
unfolding read_out
out_finals [] = refl
out_finals (s ∷ before) = ap (λ (l : List Answer). l ++ final_in s.outcome) (out_finals before) ∙ out_more s.outcome (read_out before)

so_finals : (e : Bool) (outs : List ReadAnswer) (ds : List SentAnswer) → AreSo e outs ds → finals_out outs ≡ finals_done ds
so_finals e [] [] x = refl
so_finals e [] (d ∷ ds) x = absurd x
so_finals e (o ∷ outs) [] x = absurd x
so_finals e (o ∷ outs) (d ∷ ds) x = ap₂ (λ (l : List Answer) (r : AnswerReading). l ++ final_of r) (so_finals e outs ds x.1) x.0.reading

-- ---- of what was sent

abbrev pub finals_in : List SentAnswer → List Answer
finals_in [] = []
finals_in (s ∷ ss) = final_of (answer_is s.answer) ++ finals_in ss

finals_both : (xs ys : List SentAnswer) → finals_in (xs ++ ys) ≡ finals_in xs ++ finals_in ys
finals_both [] ys = refl
finals_both (x ∷ xs) ys =
    ap (λ (l : List Answer). final_of (answer_is x.answer) ++ l) (finals_both xs ys)
    ∙ sym (append_assoc (final_of (answer_is x.answer)) (finals_in xs) (finals_in ys))

done_finals : (ds : List SentAnswer) → finals_in (reverse ds) ≡ finals_done ds
done_finals [] = refl
done_finals (d ∷ ds) =
    ap finals_in (reverse_onto ds d []) ∙ finals_both (reverse ds) (d ∷ [])
    ∙ ap₂ (λ (l r : List Answer). l ++ r) (done_finals ds) (append-nil (final_of (answer_is d.answer)))

-- what was handed out are the first of those that were sent
pub finals_sent : (e : Bool) (trace : List Happened) (ss ds rest : List SentAnswer) → ss ≡ reverse ds ++ rest → AreSo e (read_out trace).answers ds
    → finals trace ++ finals_in rest ≡ finals_in ss
finals_sent e trace ss ds rest are so =
    sym (ap finals_in are ∙ finals_both (reverse ds) rest
    ∙ ap (λ (l : List Answer). l ++ finals_in rest) (done_finals ds ∙ sym (so_finals e (read_out trace).answers ds so) ∙ sym (out_finals trace)))

-- ---- of exchanges

module _ (server : Setting) where
  -- it is the answer of this reply
  abbrev pub IsFinalOf : Answer → Head → Reply → Type 0
  IsFinalOf a h (answer_given g) = a ≡ (sent_answer server h g).answer
  IsFinalOf a h _ = ⊥

  -- so are the first of them, in their order
  abbrev pub AreFinals : List Answer → List Exchange → Type 0
  AreFinals [] es = ⊤
  AreFinals (a ∷ fs) [] = ⊥
  AreFinals (a ∷ fs) (e ∷ es) = IsFinalOf a e.head e.reply × AreFinals fs es

  abbrev finals_by : Head → Reply → List Answer
  finals_by h (answer_given g) = (sent_answer server h g).answer ∷ []
  finals_by h _ = []

  abbrev pub sent_all : List Exchange → List SentAnswer
  sent_all es = flat_map (sent_to server) es

  interim_none : (told : Bool) (method : List ℕ) → finals_in (cond told (interim_sent method ∷ []) []) ≡ []
  interim_none true method = refl
  interim_none false method = refl

  one_exchange : (e : Exchange) → IsPlain server e → finals_in (sent_to server e) ≡ finals_by e.head e.reply
  one_exchange e plain =
      finals_both (cond e.was_told (interim_sent e.head.method ∷ []) []) (sent_by server e)
      ∙ ap₂ (λ (l r : List Answer). l ++ r) (interim_none e.was_told e.head.method) (by_reply e.reply plain.reply)
    where
      by_reply : (r : Reply) → IsFramedReply server e.head r
          → finals_in (sent_by server (record { head = e.head; was_told = e.was_told; reply = r })) ≡ finals_by e.head r
      by_reply no_reply framed = refl
      by_reply (answer_given g) framed =
          let a = (sent_answer server e.head g).answer in
          ap (λ (t : Bool). (if t then [] else a ∷ []) ++ []) (not_interim g.answered.head.status framed.status)
      by_reply (session s) framed = absurd framed

  nothing_more : (fs more : List Answer) → fs ++ more ≡ [] → AreFinals fs []
  nothing_more [] more e = tt
  nothing_more (a ∷ fs) more e = absurd (cc e)

  -- each exchange but the newest has one
  pub finals_are : (fs more : List Answer) (es : List Exchange) (e : Exchange) → fs ++ more ≡ finals_in (sent_all (es ++ e ∷ []))
      → AllByRecursion (IsPlain server) (es ++ e ∷ []) → AllByRecursion (IsKeptOn server) es → AreFinals fs (es ++ e ∷ [])
  finals_are [] more es e is plain kept = tt
  finals_are (a ∷ fs) more [] e is plain kept = by_reply e.reply (is ∙ ap finals_in (append-nil (sent_to server e)) ∙ one_exchange e plain.0)
    where
      by_reply : (r : Reply) → a ∷ (fs ++ more) ≡ finals_by e.head r → IsFinalOf a e.head r × AreFinals fs []
      by_reply no_reply x = absurd (cc x)
      by_reply (answer_given g) x =
          let first : a ≡ (sent_answer server e.head g).answer = cc in
          let others : fs ++ more ≡ [] = cc in (first, nothing_more fs more others)
      by_reply (session s) x = absurd (cc x)
  finals_are (a ∷ fs) more (x ∷ es) e is plain kept =
      by_reply x.reply kept.0
      (is ∙ finals_both (sent_to server x) (sent_all (es ++ e ∷ []))
      ∙ ap (λ (l : List Answer). l ++ finals_in (sent_all (es ++ e ∷ []))) (one_exchange x plain.0))
      (λ others. finals_are fs more es e others plain.1 kept.1)
    where
      by_reply : (r : Reply) → KeepsAfter server x.head r → a ∷ (fs ++ more) ≡ finals_by x.head r ++ finals_in (sent_all (es ++ e ∷ []))
          → (fs ++ more ≡ finals_in (sent_all (es ++ e ∷ [])) → AreFinals fs (es ++ e ∷ [])) → IsFinalOf a x.head r × AreFinals fs (es ++ e ∷ [])
      by_reply no_reply k y old = absurd k
      by_reply (answer_given g) k y old =
          let first : a ≡ (sent_answer server x.head g).answer = cc in
          let others : fs ++ more ≡ finals_in (sent_all (es ++ e ∷ [])) = cc in (first, old others)
      by_reply (session s) k y old = absurd k
