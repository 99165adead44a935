-- What a pull gives of a request's body.
use Rattle.std.proofs.Common.{◌≡◌, ℕ, Bool, true, false, not, ◌&&◌, ◌||◌, List, [], ◌∷◌, ◌++◌, Option, Some, None, refl, sym, ap, ◌∙◌, subst}
use Rattle.std.specs.Prelude.{is_some}
use Rattle.std.specs.Option.{option_or}
use Rattle.http_config.specs.Config.{Settings}
use Rattle.model_h1.specs.Place.{Place}
use Rattle.model_h1.specs.TakeNext.{Next, chunk, waits, ended, breaks, take_next}
use Rattle.model_h1.specs.Setting.{Setting}
use Rattle.model_h1.specs.Event as on
use Rattle.model_h1.specs.End.{End}
use Rattle.model_state.specs.Kept.{Rest, no_rest, raw_rest, fixed_rest, chunks_rest, frames_rest, Kept, is_frames, is_nothing, is_free, is_open, is_answered}
use Rattle.model_state.specs.Local.{closing_by}
use Rattle.model_state.specs.Pull.{Pulled, lacking, pull_fixed, pull_raw, EndsWith, IsPullOfChunks, IsPull}
use Rattle.model_state.specs.Change.{IsChange}
use Rattle.h1_payload.specs.Rests.{SaysPulled}
use Rattle.h1_payload.specs.declared.pulled.Pulled.{Pulled as Answer}
use Rattle.h1_payload.specs.declared.pulled.Pulled.TheVariants as answers
use Rattle.h1_decoder.specs.declared.scan.HeadScan.{HeadScan}
use Rattle.h1_connection.specs.Incoming.{IsFoundIn}
use Rattle.h1_connection.specs.Stock.{Stock}
use Rattle.h1_connection.specs.EventMeaning.{setting_of}
use Rattle.h1_connection.specs.Parts.{kept_of, reply_of, IsSound, Steps}
use Rattle.h1_connection.specs.Pulls.{tells_done, IsPulledFrom, IsPullOf}
use Rattle.h1_connection.specs.declared.connection.exchange.Exchange.{Exchange}
use Rattle.h1_connection.specs.declared.connection.exchange.Reply.{Reply}
use Rattle.h1_connection.specs.declared.connection.exchange.Reply.TheVariants.{Unanswered, Sending, Answered}
use Rattle.h1_connection.specs.declared.connection.parts.Parts.{Parts}
use Rattle.h1_connection.proofs.StepLemmas.{quiet_step}

-- ---- the end or the fault is told

done_of : on.Outcome → Bool
done_of on.body_ended = true
done_of (on.broken_by fault) = true
done_of outcome = false

-- whether the answer does is whether the outcome does
unfolding_done : (answer : Answer) (o : on.Outcome) → SaysPulled answer o → tells_done answer ≡ done_of o
unfolding done_of
unfolding_done (answers.Bytes bytes) o is = sym (ap done_of is)
unfolding_done (answers.Trailers map) o is = sym (ap done_of is.1)
unfolding_done answers.End o is = sym (ap done_of is)
unfolding_done (answers.Broken fault) o is = sym (ap done_of is)
unfolding_done answers.Pending o is = sym (ap done_of is)

-- what is told, and that no rule of WebSocket is broken
record Tells (p : Pulled) : Type 0 where
  pub done : p.is_done ≡ done_of p.outcome
  pub sound : p.failed ≡ None

tells_of : (p q : Pulled) → p ≡ q → Tells q → Tells p
tells_of p q is t = subst Tells (sym is) t

lacking_tells : (stopped : Bool) (rest : Rest) (bytes : List ℕ) → Tells (lacking stopped rest bytes)
unfolding done_of
lacking_tells true rest bytes = record { done = refl; sound = refl }
lacking_tells false rest bytes = record { done = refl; sound = refl }

fixed_tells : (stopped : Bool) (n : ℕ) (bytes : List ℕ) → Tells (pull_fixed stopped n bytes)
unfolding done_of
fixed_tells stopped n [] = lacking_tells stopped (fixed_rest n) []
fixed_tells stopped n (b ∷ bytes) = record { done = refl; sound = refl }

raw_tells : (stopped : Bool) (bytes : List ℕ) → Tells (pull_raw stopped bytes)
unfolding done_of
raw_tells stopped (b ∷ bytes) = record { done = refl; sound = refl }
raw_tells true [] = record { done = refl; sound = refl }
raw_tells false [] = record { done = refl; sound = refl }

end_tells : (section behind : List ℕ) (p : Pulled) → EndsWith section behind p → Tells p
unfolding done_of
end_tells [] behind p is = tells_of p _ is (record { done = refl; sound = refl })
end_tells (b ∷ section) behind p is = tells_of p _ is.3 (record { done = refl; sound = refl })

chunks_tell : (stopped : Bool) (place : Place) (section bytes : List ℕ) (next : Next) (noted : List ℕ) (p : Pulled)
    → IsPullOfChunks stopped place section bytes next noted p → Tells p
unfolding done_of
chunks_tell stopped place section bytes (chunk given next behind) noted p is = tells_of p _ is (record { done = refl; sound = refl })
chunks_tell true place section bytes (waits next) noted p is = tells_of p _ is (record { done = refl; sound = refl })
chunks_tell false place section bytes (waits next) noted p is = tells_of p _ is (record { done = refl; sound = refl })
chunks_tell is_ended place section bytes (ended behind) noted p is = end_tells (section ++ noted) behind p is
chunks_tell stopped place section bytes breaks noted p is = tells_of p _ is (record { done = refl; sound = refl })

pull_tells : (stopped : Bool) (rest : Rest) (bytes : List ℕ) (p : Pulled) → is_frames rest ≡ false → IsPull stopped rest bytes p → Tells p
unfolding done_of
pull_tells stopped no_rest bytes p plain is = tells_of p _ is (record { done = refl; sound = refl })
pull_tells stopped raw_rest bytes p plain is = tells_of p _ is (raw_tells stopped bytes)
pull_tells stopped (fixed_rest n) bytes p plain is = tells_of p _ is (fixed_tells stopped n bytes)
pull_tells stopped (chunks_rest place section) bytes p plain is =
    chunks_tell stopped place section bytes (take_next place bytes).next (take_next place bytes).trailers p is
pull_tells stopped (frames_rest under_way limit) bytes p plain is = absurd (cc plain)

-- ---- the step

-- the parts behind a pull
abbrev pub pulled_parts : Parts → Exchange → Stock → Parts
pulled_parts p y after = record p { exchange = Some y; input = after }

or_none : (o : Option End) → option_or None o ≡ o
or_none o = refl

pull_change : (set : Setting) (r : Parts) (x y : Exchange) (p : Pulled) (answer : Answer) (after : Stock) → is_frames x.rest ≡ false
    → IsPull r.has_ended x.rest r.input.unread p → IsPulledFrom x p answer y after → r.input.piece ≡ None → after.piece ≡ None → after.ahead ≡ r.input.ahead
    → IsChange set (kept_of (record r { exchange = Some x })) on.pull (record { outcome = p.outcome; kept = kept_of (pulled_parts r y after) })
pull_change set r x y p answer after plain pull from none still ahead =
    let t = pull_tells r.has_ended x.rest r.input.unread p plain pull in
    let tells : tells_done answer ≡ p.is_done = unfolding_done answer p.outcome from.outcome ∙ sym t.done in
    let exchange : y ≡ record x { rest = p.rest; was_pulled = true; body_is_done = x.body_is_done || p.is_done } =
    from.exchange ∙ (λ i. record x { rest = p.rest; was_pulled = true; body_is_done = x.body_is_done || tells i }) in
    let k : Kept = kept_of (record r { exchange = Some x }) in
    let incoming : after ≡ record r.input { unread = p.unread } =
    λ i. record { unread = from.unread i; piece = (still ∙ sym none) i; ahead = ahead i } in (
      p,
      pull,
      λ i. record {
        outcome = p.outcome;
        kept = record (kept_of (pulled_parts r (exchange i) (incoming i))) { failed = option_or (sym t.sound i) k.failed };
      },
    )

-- an open request stays opened, and the connection as it is
noted_reply : (set : Setting) (r : Parts) (x : Exchange) (reply : Reply) (rest : Rest) (done : Bool) (after : Stock) → is_answered (reply_of reply) ≡ false
    → is_frames x.rest ≡ false → is_frames rest ≡ false
    → closing_by set (kept_of (pulled_parts r (record x { reply = reply; rest = rest; was_pulled = true; body_is_done = done }) (record after { piece = r.input.piece })))
    ≡ closing_by set (kept_of (record r { exchange = Some (record x { reply = reply }) }))
unfolding closing_by
noted_reply set r x Unanswered rest done after opened was is = rw (was, is) refl
noted_reply set r x (Sending s) rest done after opened was is = rw (was, is) refl
noted_reply set r x (Answered kind) rest done after opened was is = absurd (cc opened)

not_free : (answered nothing : Bool) → answered ≡ false → (answered && nothing) ≡ false
not_free true nothing is = absurd (cc is)
not_free false nothing is = refl

-- an open request has no complete answer
open_reply : (frames answered : Bool) → frames ≡ false → (frames || not answered) ≡ true → answered ≡ false
open_reply true answered plain is = absurd (cc plain)
open_reply false true plain is = absurd (cc is)
open_reply false false plain is = refl

-- what was nothing is nothing behind a pull
still_leaves : (raw was now : Bool) → (was ≡ true → now ≡ true) → (raw || not now) ≡ true → (raw || not was) ≡ true
still_leaves true was now stays left = refl
still_leaves false true true stays left = absurd (cc left)
still_leaves false true false stays left = stays refl
still_leaves false false now stays left = refl

pulled_sound : (s : Settings) (r : Parts) (x y : Exchange) (after : Stock) (rest : Rest) (done : Bool) → after.ahead ≡ r.input.ahead
    → (is_nothing x.rest ≡ true → is_nothing rest ≡ true) → is_answered (reply_of x.reply) ≡ false
    → is_frames x.rest ≡ false → is_frames rest ≡ false → r.exchange ≡ Some x → r.input.piece ≡ None → after.piece ≡ None
    → y ≡ record x { rest = rest; was_pulled = true; body_is_done = done } → IsSound s r → IsSound s (pulled_parts r y after)
pulled_sound s r x y after rest done ahead stays opened was plain there none still is sound =
    let z : Exchange = record x { rest = rest; was_pulled = true; body_is_done = done } in
    let at_x : IsSound s (record r { exchange = Some x }) = subst (λ (e : Option Exchange). IsSound s (record r { exchange = e })) there sound in
    let same_after : record after { piece = r.input.piece } ≡ after = λ i. record after { piece = (none ∙ sym still) i } in
    let closes : closing_by (setting_of s) (kept_of (pulled_parts r z after)) ≡ closing_by (setting_of s) (kept_of (record r { exchange = Some x })) =
    sym (ap (λ (a : Stock). closing_by (setting_of s) (kept_of (pulled_parts r z a))) same_after)
    ∙ noted_reply (setting_of s) r x x.reply rest done after opened was plain in
    subst (λ (e : Exchange). IsSound s (pulled_parts r e after)) (sym is) (record {
      moment = sound.moment;
      searched = ap is_some still ∙ sym (not_free (is_answered (reply_of x.reply)) _ opened);
      scanned = subst (λ (o : Option HeadScan). IsFoundIn after.unread o) (sym still) tt;
      behind = λ left. ahead ∙ at_x.behind (still_leaves x.request.asked.is_raw (is_nothing x.rest) (is_nothing rest) stays left);
      noted = λ c. at_x.noted (sym (ap is_some closes) ∙ c);
    })

-- what the open request's exchange tells
exchange_open : (r : Parts) (x : Exchange) → r.exchange ≡ Some x → is_open (kept_of r) ≡ true → is_frames x.rest ≡ false → is_answered (reply_of x.reply) ≡ false
exchange_open r x there opened plain =
    open_reply (is_frames x.rest) (is_answered (reply_of x.reply)) plain
    (subst (λ (e : Option Exchange). is_open (kept_of (record r { exchange = e })) ≡ true) there opened)

-- an open request is not done with
not_done : (rest : Rest) (answered : Bool) → (is_frames rest || not answered) ≡ true → (answered && is_nothing rest) ≡ false
not_done rest false is = refl
not_done no_rest true is = absurd (cc is)
not_done raw_rest true is = refl
not_done (fixed_rest n) true is = refl
not_done (chunks_rest place section) true is = refl
not_done (frames_rest under_way limit) true is = refl

-- so no head is searched for
pub open_unsearched : (s : Settings) (r : Parts) (x : Exchange) → r.exchange ≡ Some x → is_open (kept_of r) ≡ true → IsSound s r → r.input.piece ≡ None
open_unsearched s r x there opened sound =
    nothing r.input.piece
    (sound.searched ∙ subst (λ (e : Option Exchange). is_free (kept_of (record r { exchange = e })) ≡ false) (sym there)
    (not_done x.rest (is_answered (reply_of x.reply)) (subst (λ (e : Option Exchange). is_open (kept_of (record r { exchange = e })) ≡ true) there opened)))
  where
    nothing : (piece : Option HeadScan) → is_some piece ≡ false → piece ≡ None
    nothing None is = refl
    nothing (Some x) is = absurd (cc is)

pub pull_sound : (s : Settings) (r : Parts) (x y : Exchange) (after : Stock) → after.ahead ≡ r.input.ahead → (is_nothing x.rest ≡ true → is_nothing y.rest ≡ true)
    → r.exchange ≡ Some x → is_open (kept_of r) ≡ true
    → (is_frames x.rest ≡ false) × (is_frames y.rest ≡ false) → after.piece ≡ None
    → y ≡ record x { rest = y.rest; was_pulled = true; body_is_done = y.body_is_done } → IsSound s r → IsSound s (pulled_parts r y after)
pull_sound s r x y after ahead stays there opened plain still is sound =
    pulled_sound s r x y after y.rest y.body_is_done ahead stays (exchange_open r x there opened plain.0) plain.0 plain.1 there
    (open_unsearched s r x there opened sound) still is sound

pub pull_steps : (s : Settings) (r : Parts) (x y : Exchange) (p : Pulled) (answer : Answer) (after : Stock) → after.ahead ≡ r.input.ahead
    → (is_nothing x.rest ≡ true → is_nothing y.rest ≡ true) → r.exchange ≡ Some x → is_open (kept_of r) ≡ true
    → (is_frames x.rest ≡ false) × (is_frames y.rest ≡ false) → after.piece ≡ None
    → y ≡ record x { rest = y.rest; was_pulled = true; body_is_done = y.body_is_done } → IsSound s r
    → IsPull r.has_ended x.rest r.input.unread p → IsPulledFrom x p answer y after
    → SaysPulled answer p.outcome × Steps s r on.pull p.outcome (pulled_parts r y after)
pull_steps s r x y p answer after ahead stays there opened plain still is sound pull from =
    let none = open_unsearched s r x there opened sound in
    let changes = pull_change (setting_of s) r x y p answer after plain.0 pull from none still ahead in (
      from.outcome,
      quiet_step s r (pulled_parts r y after) on.pull p.outcome
          (subst (λ (e : Option Exchange). IsChange (setting_of s) (kept_of (record r { exchange = e })) on.pull
          (record { outcome = p.outcome; kept = kept_of (pulled_parts r y after) })) (sym there) changes)
          (pull_sound s r x y after ahead stays there opened plain still is sound),
    )

-- a pull of the parts is one of the exchange that is there
pub pull_of : (r : Parts) (x : Exchange) (p : Pulled) → r.exchange ≡ Some x → IsPullOf (kept_of r) p → IsPull r.has_ended x.rest r.input.unread p
pull_of r x p there pull = subst (λ (e : Option Exchange). IsPullOf (kept_of (record r { exchange = e })) p) there pull

pub no_pull : (r : Parts) (p : Pulled) → r.exchange ≡ None → IsPullOf (kept_of r) p → ⊥
no_pull r p none pull = subst (λ (e : Option Exchange). IsPullOf (kept_of (record r { exchange = e })) p) none pull
