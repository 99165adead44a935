-- The machine's steps of an answer, of a piece of its body, and of its end.
use Rattle.std.proofs.Common.{◌≡◌, ℕ, ◌-◌, ◌<◌, Bool, true, false, not, ◌&&◌, List, [], ◌++◌, length, Option, Some, None, refl, sym, ap, ◌∙◌, subst}
use Rattle.std.specs.Prelude.{option_map, is_some, if◌then◌else◌}
use Rattle.std.specs.Option.{option_or}
use Rattle.http_config.specs.Config.{Settings}
use Rattle.http_types.specs.declared.message.ConnectionType.{ConnectionType}
use Rattle.h1_encoder.specs.Meaning.{model_type, model_shape}
use Rattle.model_h1.specs.Limits.{MAX_MOMENT}
use Rattle.model_h1.specs.Request as model
use Rattle.model_h1.specs.Setting.{Setting}
use Rattle.model_h1.specs.Answer.{AnswerHead, BodySize, Asked, Shape, shape_of, type_of, is_at_once}
use Rattle.model_h1.specs.AnswerText.{head_text, sent_end}
use Rattle.model_h1.specs.Text.{answer_head_text}
use Rattle.model_h1.specs.Event as on
use Rattle.model_state.specs.Kept as machine
use Rattle.model_state.specs.Kept.{Kept, Change, is_frames, is_free, is_nothing, is_unanswered, is_answered, now, answered}
use Rattle.model_state.specs.Local.{closing_by, waits_for_answer}
use Rattle.model_state.specs.Body.{passing}
use Rattle.model_state.specs.Reply.{stated, completing, piece_sent, short_end}
use Rattle.model_state.specs.Change.{IsChange}
use Rattle.h1_decoder.specs.declared.scan.HeadScan.{HeadScan}
use Rattle.h1_output.specs.Queued.{Queued}
use Rattle.h1_connection.specs.EventMeaning.{setting_of, end_of}
use Rattle.h1_connection.specs.Parts.{kept_of, exchange_of, reply_of, asked_in, sending_in, sending_by, replied, completed, HasNoneBehind, MayBeSearched, IsSettled, IsSound, Steps}
use Rattle.h1_connection.specs.Unsent.{NoPieceBy, NoPieceOf, SendsNoPiece, NoEndBy, NoEndOf, SendsNoEnd}
use Rattle.h1_connection.specs.declared.connection.clock.Clock.{Clock}
use Rattle.h1_connection.specs.declared.connection.exchange.Exchange.{Exchange}
use Rattle.h1_connection.specs.declared.connection.exchange.Sending.{Sending}
use Rattle.h1_connection.specs.declared.connection.exchange.Reply.{Reply}
use Rattle.h1_connection.specs.declared.connection.exchange.Reply.TheVariants.{Unanswered, Sending as GoesOut, Answered}
use Rattle.h1_connection.specs.declared.connection.parts.Parts.{Parts}
use Rattle.h1_connection.specs.declared.event.End.{End}
use Rattle.h1_connection.proofs.PassingLemmas.{passing_clock}
use Rattle.h1_connection.proofs.StepLemmas.{quiet_step, settled_step, settled_sound}

-- ---- an answer that is complete

-- a reply leaves what is left of the body
replied_behind : (p : Parts) (reply : Reply) (e : Option Exchange) → HasNoneBehind (kept_of (record p { exchange = e })) p.input.ahead
    → HasNoneBehind (kept_of (record p { exchange = replied reply e })) p.input.ahead
replied_behind p reply None behind = behind
replied_behind p reply (Some x) behind = behind

pub completed_may : (p m : Parts) (kind : ConnectionType) (clock : Clock) → m ≡ record p { exchange = replied (Answered kind) p.exchange } → p.input.piece ≡ None
    → HasNoneBehind (kept_of p) p.input.ahead → MayBeSearched (record m { clock = clock })
completed_may p m kind clock is none behind =
    subst (λ (r : Parts). MayBeSearched (record r { clock = clock })) (sym is)
    (record { searched = λ busy. none; behind = replied_behind p (Answered kind) p.exchange behind })

-- the moment stays
complete_now : (p : Parts) (kind : ConnectionType) → now (passing (kept_of (completed kind p))) ≡ now (kept_of p)
complete_now p kind = ap (λ (c : machine.Clock). now (record (kept_of p) { clock = c })) (passing_clock (kept_of (completed kind p)))

pub complete_sound : (s : Settings) (p q : Parts) (kind : ConnectionType) → now (kept_of p) < MAX_MOMENT
    → IsSettled (setting_of s) (passing (kept_of (completed kind p))) q → IsSound s q
complete_sound s p q kind moment settled =
    settled_sound s (passing (kept_of (completed kind p))) q (subst (λ (m : ℕ). m < MAX_MOMENT) (sym (complete_now p kind)) moment) settled

-- ---- an answer

-- the text of an answer's head, by the type that it says
abbrev pub text_by : Asked → AnswerHead → BodySize → model.ConnectionType → ℕ → List ℕ
text_by asked head size kind moment = head_text asked.minor head (shape_of asked head size) size kind moment

-- with its text behind what is to be written
abbrev pub with_output : Queued → Parts → Parts
with_output queue p = record p { output = queue }

at_once_change : (set : Setting) (p : Parts) (x : Exchange) (head : AnswerHead) (size : BodySize) (kind : ConnectionType) (queue : Queued)
    → is_at_once size ≡ true → model_type kind ≡ type_of set p.is_draining x.request.asked head size
    → queue.bytes ≡ p.output.bytes ++ text_by x.request.asked head size (model_type kind) (now (kept_of p))
    → IsChange set (kept_of (record p { exchange = Some x })) (on.answer head size)
    (record { outcome = on.done; kept = passing (kept_of (completed kind (record p { exchange = Some x; output = queue }))) })
at_once_change set p x head size kind queue once kind_is bytes_are =
    let asked = x.request.asked in
    let all : queue.bytes ≡ p.output.bytes ++ answer_head_text set p.is_draining asked head size (now (kept_of p)) =
    bytes_are ∙ ap (λ (k : model.ConnectionType). p.output.bytes ++ text_by asked head size k (now (kept_of p))) kind_is in
    let type : model.ConnectionType = type_of set p.is_draining asked head size in
    (λ i. record {
      outcome = on.done;
      kept = completing (kind_is i) (exchange_of x) (record (kept_of (record p { exchange = Some x })) { buffered = all i });
    }) ∙ sym (ap (λ (k : Kept). record { outcome = on.done; kept = k })
    (chosen (is_at_once size) _ _ once))
  where
    chosen : (b : Bool) (m n : Kept) → b ≡ true → (if b then m else n) ≡ m
    chosen true m n is = refl
    chosen false m n is = absurd (cc is)

later_change : (set : Setting) (p : Parts) (x : Exchange) (head : AnswerHead) (size : BodySize) (y : Sending) (queue : Queued)
    → is_at_once size ≡ false → model_type y.connection ≡ type_of set p.is_draining x.request.asked head size
    → model_shape y.shape ≡ shape_of x.request.asked head size → y.missing ≡ stated (model_shape y.shape)
    → queue.bytes ≡ p.output.bytes ++ text_by x.request.asked head size (model_type y.connection) (now (kept_of p))
    → IsChange set (kept_of (record p { exchange = Some x })) (on.answer head size)
    (record { outcome = on.done; kept = kept_of (record p { exchange = Some (record x { reply = GoesOut y }); output = queue }) })
later_change set p x head size y queue later kind_is shape_is missing_is bytes_are =
    let asked = x.request.asked in
    let all : queue.bytes ≡ p.output.bytes ++ answer_head_text set p.is_draining asked head size (now (kept_of p)) =
    bytes_are ∙ ap (λ (k : model.ConnectionType). p.output.bytes ++ text_by asked head size k (now (kept_of p))) kind_is in
    let missing : y.missing ≡ stated (shape_of asked head size) = missing_is ∙ ap (λ (f : Shape). stated f) shape_is in
    (λ i. record {
      outcome = on.done;
      kept = record (kept_of p) { buffered = all i; exchange = Some (record (exchange_of x) { reply = machine.sending (shape_is i) (kind_is i) (missing i) }) };
    }) ∙ sym (ap (λ (k : Kept). record { outcome = on.done; kept = k })
    (chosen (is_at_once size) _ _ later))
  where
    chosen : (b : Bool) (m n : Kept) → b ≡ false → (if b then m else n) ≡ n
    chosen false m n is = refl
    chosen true m n is = absurd (cc is)

-- an exchange that is there
pub at_exchange : (s : Settings) (p q : Parts) (x : Exchange) (event : on.Event) (out : on.Outcome) → p.exchange ≡ Some x
    → Steps s (record p { exchange = Some x }) event out q → Steps s p event out q
at_exchange s p q x event out there steps = subst (λ (e : Option Exchange). Steps s (record p { exchange = e }) event out q) (sym there) steps

pub at_sound : (s : Settings) (p : Parts) (x : Exchange) → p.exchange ≡ Some x → IsSound s p → IsSound s (record p { exchange = Some x })
at_sound s p x there sound = subst (λ (e : Option Exchange). IsSound s (record p { exchange = e })) there sound

-- the exchange that an answer is handed in for
some_asked : (e : Option Exchange) (asked : Asked) → asked_in e ≡ Some asked → (x : Exchange) × (e ≡ Some x) × (x.request.asked ≡ asked)
some_asked None asked is = absurd (cc is)
some_asked (Some x) asked is = (x, refl, cc is)

pub at_once_steps : (s : Settings) (p q : Parts) (asked : Asked) (head : AnswerHead) (size : BodySize) (kind : ConnectionType) (queue : Queued)
    → asked_in p.exchange ≡ Some asked → is_at_once size ≡ true → model_type kind ≡ type_of (setting_of s) p.is_draining asked head size
    → queue.bytes ≡ p.output.bytes ++ text_by asked head size (model_type kind) (now (kept_of p))
    → IsSettled (setting_of s) (passing (kept_of (completed kind (with_output queue p)))) q → Steps s p (on.answer head size) on.done q
at_once_steps s p q asked head size kind queue asks once kind_is bytes_are settled =
    let e = some_asked p.exchange asked asks in
    let x = e.0 in
    let c : Kept = passing (kept_of (completed kind (record p { exchange = Some x; output = queue }))) in
    let kind_too = subst (λ (a : Asked). model_type kind ≡ type_of (setting_of s) p.is_draining a head size) (sym e.2) kind_is in
    let bytes_too = subst (λ (a : Asked). queue.bytes ≡ p.output.bytes ++ text_by a head size (model_type kind) (now (kept_of p))) (sym e.2) bytes_are in
    at_exchange s p q x (on.answer head size) on.done e.1
    (settled_step s (record p { exchange = Some x }) q (on.answer head size) on.done c c c.is_coming
    (at_once_change (setting_of s) p x head size kind queue once kind_too bytes_too) refl
    (subst (λ (o : Option Exchange). IsSettled (setting_of s) (passing (kept_of (completed kind (record p { exchange = o; output = queue })))) q) e.1 settled))

-- a body that is going out leaves whether the connection closes
sending_noted : (set : Setting) (p : Parts) (x : Exchange) (r : Reply) (y : Sending) (queue : Queued) → is_answered (reply_of r) ≡ false
    → closing_by set (kept_of (record p { exchange = Some (record x { reply = GoesOut y }); output = queue }))
    ≡ closing_by set (kept_of (record p { exchange = Some (record x { reply = r }) }))
unfolding closing_by
sending_noted set p x Unanswered y queue unsent = refl
sending_noted set p x (GoesOut z) y queue unsent = refl
sending_noted set p x (Answered kind) y queue unsent = absurd (cc unsent)

-- where nothing of the exchange is done with, it isn't free
pub not_free : (answered nothing : Bool) → answered ≡ false → (answered && nothing) ≡ false
not_free true nothing is = absurd (cc is)
not_free false nothing is = refl

sending_sound : (s : Settings) (p : Parts) (x : Exchange) (y : Sending) (queue : Queued) → p.exchange ≡ Some x → is_answered (reply_of x.reply) ≡ false → IsSound s p
    → IsSound s (record p { exchange = Some (record x { reply = GoesOut y }); output = queue })
sending_sound s p x y queue there unsent sound =
    let here = at_sound s p x there sound in
    record {
      moment = sound.moment;
      searched = here.searched ∙ not_free (is_answered (reply_of x.reply)) (is_nothing x.rest) unsent;
      scanned = sound.scanned;
      behind = here.behind;
      noted = λ c. here.noted (sym (ap is_some (sending_noted (setting_of s) p x x.reply y queue unsent)) ∙ c);
    }

-- a request that waits for its answer has none
unanswered_open : (r : Reply) (frames : Bool) → (is_unanswered (reply_of r) && not frames) ≡ true → is_answered (reply_of r) ≡ false
unanswered_open Unanswered frames is = refl
unanswered_open (GoesOut y) frames is = absurd (cc is)
unanswered_open (Answered kind) frames is = absurd (cc is)

pub waiting_open : (p : Parts) (x : Exchange) → p.exchange ≡ Some x → waits_for_answer (kept_of p) ≡ true → is_answered (reply_of x.reply) ≡ false
waiting_open p x there waits =
    unanswered_open x.reply (is_frames x.rest) (subst (λ (e : Option Exchange). waits_for_answer (kept_of (record p { exchange = e })) ≡ true) there waits)

-- so no head is searched for
pub nothing_found : (piece : Option HeadScan) → is_some piece ≡ false → piece ≡ None
nothing_found None is = refl
nothing_found (Some x) is = absurd (cc is)

pub waiting_unsearched : (s : Settings) (p : Parts) (asked : Asked) → asked_in p.exchange ≡ Some asked → waits_for_answer (kept_of p) ≡ true → IsSound s p → p.input.piece ≡ None
waiting_unsearched s p asked asks waits sound =
    let e = some_asked p.exchange asked asks in
    let here = at_sound s p e.0 e.1 sound in
    nothing_found p.input.piece (here.searched ∙ not_free (is_answered (reply_of e.0.reply)) (is_nothing e.0.rest) (waiting_open p e.0 e.1 waits))

pub later_steps : (s : Settings) (p : Parts) (asked : Asked) (head : AnswerHead) (size : BodySize) (y : Sending) (queue : Queued)
    → asked_in p.exchange ≡ Some asked → waits_for_answer (kept_of p) ≡ true → is_at_once size ≡ false
    → model_type y.connection ≡ type_of (setting_of s) p.is_draining asked head size
    → model_shape y.shape ≡ shape_of asked head size → y.missing ≡ stated (model_shape y.shape)
    → queue.bytes ≡ p.output.bytes ++ text_by asked head size (model_type y.connection) (now (kept_of p)) → IsSound s p
    → Steps s p (on.answer head size) on.done (record p { exchange = replied (GoesOut y) p.exchange; output = queue })
later_steps s p asked head size y queue asks waits later kind_is shape_is missing_is bytes_are sound =
    let e = some_asked p.exchange asked asks in
    let x = e.0 in
    let q : Parts = record p { exchange = Some (record x { reply = GoesOut y }); output = queue } in
    let kind_too = subst (λ (a : Asked). model_type y.connection ≡ type_of (setting_of s) p.is_draining a head size) (sym e.2) kind_is in
    let shape_too = subst (λ (a : Asked). model_shape y.shape ≡ shape_of a head size) (sym e.2) shape_is in
    let bytes_too = subst (λ (a : Asked). queue.bytes ≡ p.output.bytes ++ text_by a head size (model_type y.connection) (now (kept_of p))) (sym e.2) bytes_are in
    subst (λ (o : Option Exchange). Steps s p (on.answer head size) on.done (record p { exchange = replied (GoesOut y) o; output = queue })) (sym e.1)
    (at_exchange s p q x (on.answer head size) on.done e.1
    (quiet_step s (record p { exchange = Some x }) q (on.answer head size) on.done
    (later_change (setting_of s) p x head size y queue later kind_too shape_too missing_is bytes_too)
    (sending_sound s p x y queue e.1 (waiting_open p x e.1 waits) sound)))

pub later_sound : (s : Settings) (p : Parts) (asked : Asked) (y : Sending) (queue : Queued) → asked_in p.exchange ≡ Some asked → waits_for_answer (kept_of p) ≡ true
    → IsSound s p → IsSound s (record p { exchange = replied (GoesOut y) p.exchange; output = queue })
later_sound s p asked y queue asks waits sound =
    let e = some_asked p.exchange asked asks in
    subst (λ (o : Option Exchange). IsSound s (record p { exchange = replied (GoesOut y) o; output = queue })) (sym e.1)
    (sending_sound s p e.0 y queue e.1 (waiting_open p e.0 e.1 waits) sound)

-- where no request was handed out, nothing is done
pub no_answer : (s : Settings) (p : Parts) (head : AnswerHead) (size : BodySize) → asked_in p.exchange ≡ None → IsSound s p → Steps s p (on.answer head size) on.done p
no_answer s p head size asks sound = nothing p.exchange refl asks
  where
    nothing : (e : Option Exchange) → p.exchange ≡ e → asked_in e ≡ None → Steps s p (on.answer head size) on.done p
    nothing (Some x) there is = absurd (cc is)
    nothing None there is =
        quiet_step s p p (on.answer head size) on.done
        (subst (λ (o : Option Exchange). IsChange (setting_of s) (kept_of (record p { exchange = o })) (on.answer head size)
        (record { outcome = on.done; kept = kept_of (record p { exchange = o }) })) (sym there) refl) sound

-- ---- a piece of the body, and its end

-- the exchange whose answer's body is going out
pub some_sending : (e : Option Exchange) (asked : Asked) (z : Sending) → asked_in e ≡ Some asked → sending_in e ≡ Some z
    → (x : Exchange) × (e ≡ Some (record x { reply = GoesOut z })) × (x.request.asked ≡ asked)
some_sending None asked z asks sends = absurd (cc asks)
some_sending (Some x) asked z asks sends = (x, ap (λ (y : Exchange). Some y) (by_reply x.reply refl sends), cc asks)
  where
    by_reply : (r : Reply) → x.reply ≡ r → sending_by r ≡ Some z → x ≡ record x { reply = GoesOut z }
    by_reply Unanswered is sends = absurd (cc sends)
    by_reply (GoesOut y) is sends =
        let same : y ≡ z = cc sends in
        λ i. record x { reply = (is ∙ ap (λ (y : Sending). GoesOut y) same) i }
    by_reply (Answered kind) is sends = absurd (cc sends)

pub sending_unsearched : (s : Settings) (p : Parts) (asked : Asked) (z : Sending) → asked_in p.exchange ≡ Some asked → sending_in p.exchange ≡ Some z → IsSound s p
    → p.input.piece ≡ None
sending_unsearched s p asked z asks sends sound =
    let e = some_sending p.exchange asked z asks sends in
    nothing_found p.input.piece (at_sound s p (record e.0 { reply = GoesOut z }) e.1 sound).searched

-- what is then missing of a stated length
abbrev pub sent : Sending → ℕ → Sending
sent z n = record z { missing = z.missing - n }

pub chunk_sound : (s : Settings) (p : Parts) (asked : Asked) (z y : Sending) (queue : Queued) → asked_in p.exchange ≡ Some asked → sending_in p.exchange ≡ Some z → IsSound s p
    → IsSound s (record p { exchange = replied (GoesOut y) p.exchange; output = queue })
chunk_sound s p asked z y queue asks sends sound =
    let e = some_sending p.exchange asked z asks sends in
    subst (λ (o : Option Exchange). IsSound s (record p { exchange = replied (GoesOut y) o; output = queue })) (sym e.1)
    (sending_sound s p (record e.0 { reply = GoesOut z }) y queue e.1 refl sound)

pub chunk_steps : (s : Settings) (p : Parts) (asked : Asked) (z y : Sending) (piece : List ℕ) (queue : Queued) → asked_in p.exchange ≡ Some asked → sending_in p.exchange ≡ Some z
    → queue.bytes ≡ p.output.bytes ++ piece_sent asked (model_shape z.shape) z.missing piece → y ≡ sent z (length piece) → IsSound s p
    → Steps s p (on.chunk piece) on.done (record p { exchange = replied (GoesOut y) p.exchange; output = queue })
chunk_steps s p asked z y piece queue asks sends bytes_are y_is sound =
    let e = some_sending p.exchange asked z asks sends in
    let x : Exchange = record e.0 { reply = GoesOut z } in
    let bytes_too = subst (λ (a : Asked). queue.bytes ≡ p.output.bytes ++ piece_sent a (model_shape z.shape) z.missing piece) (sym e.2) bytes_are in
    let q : Parts = record p { exchange = Some (record x { reply = GoesOut y }); output = queue } in
    subst (λ (o : Option Exchange). Steps s p (on.chunk piece) on.done (record p { exchange = replied (GoesOut y) o; output = queue })) (sym e.1)
    (at_exchange s p q x (on.chunk piece) on.done e.1
    (quiet_step s (record p { exchange = Some x }) q (on.chunk piece) on.done
    (λ i. record { outcome = on.done; kept = record (kept_of (record p { exchange = Some (record x { reply = GoesOut (y_is i) }) })) { buffered = bytes_too i } })
    (sending_sound s p x y queue e.1 refl sound)))

-- where none is going out, nothing is done
none_reply : (set : Setting) (p : Parts) (x : Exchange) (r : Reply) (piece : List ℕ) → sending_by r ≡ None
    → IsChange set (kept_of (record p { exchange = Some (record x { reply = r }) })) (on.chunk piece)
    (record { outcome = on.done; kept = kept_of (record p { exchange = Some (record x { reply = r }) }) })
none_reply set p x Unanswered piece is = refl
none_reply set p x (GoesOut y) piece is = absurd (cc is)
none_reply set p x (Answered kind) piece is = refl

pub no_chunk : (s : Settings) (p : Parts) (piece : List ℕ) → sending_in p.exchange ≡ None → IsSound s p → Steps s p (on.chunk piece) on.done p
no_chunk s p piece sends sound = nothing p.exchange refl sends
  where
    nothing : (e : Option Exchange) → p.exchange ≡ e → sending_in e ≡ None → Steps s p (on.chunk piece) on.done p
    nothing (Some x) there is =
        quiet_step s p p (on.chunk piece) on.done
        (subst (λ (o : Option Exchange). IsChange (setting_of s) (kept_of (record p { exchange = o })) (on.chunk piece)
        (record { outcome = on.done; kept = kept_of (record p { exchange = o }) })) (sym there) (none_reply (setting_of s) p x x.reply piece is)) sound
    nothing None there is =
        quiet_step s p p (on.chunk piece) on.done
        (subst (λ (o : Option Exchange). IsChange (setting_of s) (kept_of (record p { exchange = o })) (on.chunk piece)
        (record { outcome = on.done; kept = kept_of (record p { exchange = o }) })) (sym there) refl) sound

-- no request, no body
pub unasked : (e : Option Exchange) → asked_in e ≡ None → sending_in e ≡ None
unasked None is = refl
unasked (Some x) is = absurd (cc is)

end_none : (set : Setting) (p : Parts) (x : Exchange) (r : Reply) → sending_by r ≡ None
    → IsChange set (kept_of (record p { exchange = Some (record x { reply = r }) })) on.body_end
    (record { outcome = on.done; kept = kept_of (record p { exchange = Some (record x { reply = r }) }) })
end_none set p x Unanswered is = refl
end_none set p x (GoesOut y) is = absurd (cc is)
end_none set p x (Answered kind) is = refl

pub no_end : (s : Settings) (p : Parts) → sending_in p.exchange ≡ None → IsSound s p → Steps s p on.body_end on.done p
no_end s p sends sound = nothing p.exchange refl sends
  where
    nothing : (e : Option Exchange) → p.exchange ≡ e → sending_in e ≡ None → Steps s p on.body_end on.done p
    nothing (Some x) there is =
        quiet_step s p p on.body_end on.done
        (subst (λ (o : Option Exchange). IsChange (setting_of s) (kept_of (record p { exchange = o })) on.body_end
        (record { outcome = on.done; kept = kept_of (record p { exchange = o }) })) (sym there) (end_none (setting_of s) p x x.reply is)) sound
    nothing None there is =
        quiet_step s p p on.body_end on.done
        (subst (λ (o : Option Exchange). IsChange (setting_of s) (kept_of (record p { exchange = o })) on.body_end
        (record { outcome = on.done; kept = kept_of (record p { exchange = o }) })) (sym there) refl) sound

-- the body's end
pub end_steps : (s : Settings) (p q : Parts) (asked : Asked) (z : Sending) (queue : Queued) (failed : Option End)
    → asked_in p.exchange ≡ Some asked → sending_in p.exchange ≡ Some z → queue.bytes ≡ p.output.bytes ++ sent_end asked (model_shape z.shape)
    → option_map end_of failed ≡ option_or (short_end asked (model_shape z.shape) z.missing) (option_map end_of p.failed)
    → IsSettled (setting_of s) (passing (kept_of (completed z.connection (record p { output = queue; failed = failed })))) q
    → Steps s p on.body_end on.done q
end_steps s p q asked z queue failed asks sends bytes_are failed_is settled =
    let e = some_sending p.exchange asked z asks sends in
    let x : Exchange = record e.0 { reply = GoesOut z } in
    let bytes_too = subst (λ (a : Asked). queue.bytes ≡ p.output.bytes ++ sent_end a (model_shape z.shape)) (sym e.2) bytes_are in
    let failed_too = subst (λ (a : Asked). option_map end_of failed ≡ option_or (short_end a (model_shape z.shape) z.missing) (option_map end_of p.failed)) (sym e.2) failed_is in
    let c : Kept = passing (kept_of (completed z.connection (record p { exchange = Some x; output = queue; failed = failed }))) in
    at_exchange s p q x on.body_end on.done e.1
    (settled_step s (record p { exchange = Some x }) q on.body_end on.done c c c.is_coming
    (λ i. record {
      outcome = on.done;
      kept = completing (model_type z.connection) (exchange_of x) (record (kept_of (record p { exchange = Some x })) { buffered = bytes_too i; failed = failed_too i });
    }) refl
    (subst (λ (o : Option Exchange). IsSettled (setting_of s) (passing (kept_of (completed z.connection (record p { exchange = o; output = queue; failed = failed })))) q) e.1 settled))

-- ---- the same of parts that are these

pub chunked_steps : (s : Settings) (p q : Parts) (asked : Asked) (z y : Sending) (piece : List ℕ) (queue : Queued) → asked_in p.exchange ≡ Some asked → sending_in p.exchange ≡ Some z
    → queue.bytes ≡ p.output.bytes ++ piece_sent asked (model_shape z.shape) z.missing piece → y ≡ sent z (length piece) → IsSound s p
    → q ≡ record p { exchange = replied (GoesOut y) p.exchange; output = queue } → Steps s p (on.chunk piece) on.done q
chunked_steps s p q asked z y piece queue asks sends bytes_are y_is sound is =
    subst (λ (r : Parts). Steps s p (on.chunk piece) on.done r) (sym is) (chunk_steps s p asked z y piece queue asks sends bytes_are y_is sound)

pub chunked_sound : (s : Settings) (p q : Parts) (asked : Asked) (z y : Sending) (queue : Queued) → asked_in p.exchange ≡ Some asked → sending_in p.exchange ≡ Some z → IsSound s p
    → q ≡ record p { exchange = replied (GoesOut y) p.exchange; output = queue } → IsSound s q
chunked_sound s p q asked z y queue asks sends sound is = subst (λ (r : Parts). IsSound s r) (sym is) (chunk_sound s p asked z y queue asks sends sound)

-- what a short body leaves
pub short_parts_behind : (p m : Parts) (queue : Queued) → m ≡ record p { output = queue; failed = m.failed } → HasNoneBehind (kept_of p) p.input.ahead
    → HasNoneBehind (kept_of m) m.input.ahead
short_parts_behind p m queue is behind = subst (λ (r : Parts). HasNoneBehind (kept_of r) r.input.ahead) (sym is) behind

pub short_parts_piece : (p m : Parts) (queue : Queued) → m ≡ record p { output = queue; failed = m.failed } → p.input.piece ≡ None → m.input.piece ≡ None
short_parts_piece p m queue is none = ap (λ (r : Parts). r.input.piece) is ∙ none

pub ended_steps : (s : Settings) (p m q : Parts) (asked : Asked) (z : Sending) (queue : Queued)
    → asked_in p.exchange ≡ Some asked → sending_in p.exchange ≡ Some z → queue.bytes ≡ p.output.bytes ++ sent_end asked (model_shape z.shape)
    → option_map end_of m.failed ≡ option_or (short_end asked (model_shape z.shape) z.missing) (option_map end_of p.failed)
    → m ≡ record p { output = queue; failed = m.failed }
    → IsSettled (setting_of s) (passing (kept_of (completed z.connection m))) q → Steps s p on.body_end on.done q
ended_steps s p m q asked z queue asks sends bytes_are failed is settled =
    end_steps s p q asked z queue m.failed asks sends bytes_are failed
    (subst (λ (r : Parts). IsSettled (setting_of s) (passing (kept_of (completed z.connection r))) q) is settled)

pub ended_sound : (s : Settings) (p m q : Parts) (z : Sending) (queue : Queued) → IsSound s p → m ≡ record p { output = queue; failed = m.failed }
    → IsSettled (setting_of s) (passing (kept_of (completed z.connection m))) q → IsSound s q
ended_sound s p m q z queue sound is settled =
    complete_sound s m q z.connection (subst (λ (k : Kept). now k < MAX_MOMENT) (sym (ap (λ (r : Parts). kept_of r) is)) sound.moment) settled

pub later_steps_by : (s : Settings) (p q : Parts) (asked : Asked) (head : AnswerHead) (size : BodySize) (y : Sending) (queue : Queued)
    → asked_in p.exchange ≡ Some asked → waits_for_answer (kept_of p) ≡ true → is_at_once size ≡ false
    → model_type y.connection ≡ type_of (setting_of s) p.is_draining asked head size
    → model_shape y.shape ≡ shape_of asked head size → y.missing ≡ stated (model_shape y.shape)
    → queue.bytes ≡ p.output.bytes ++ text_by asked head size (model_type y.connection) (now (kept_of p)) → IsSound s p
    → q ≡ record p { exchange = replied (GoesOut y) p.exchange; output = queue } → Steps s p (on.answer head size) on.done q
later_steps_by s p q asked head size y queue asks waits later kind_is shape_is missing_is bytes_are sound is =
    subst (λ (r : Parts). Steps s p (on.answer head size) on.done r) (sym is)
    (later_steps s p asked head size y queue asks waits later kind_is shape_is missing_is bytes_are sound)

pub later_sound_by : (s : Settings) (p q : Parts) (asked : Asked) (y : Sending) (queue : Queued) → asked_in p.exchange ≡ Some asked
    → waits_for_answer (kept_of p) ≡ true → IsSound s p → q ≡ record p { exchange = replied (GoesOut y) p.exchange; output = queue } → IsSound s q
later_sound_by s p q asked y queue asks waits sound is = subst (λ (r : Parts). IsSound s r) (sym is) (later_sound s p asked y queue asks waits sound)

-- ---- where nothing goes out

no_piece_by : (x : Exchange) (z : Sending) (bytes : List ℕ) (r : Reply) → sending_by r ≡ Some z → NoPieceBy (exchange_of x) (reply_of r) bytes
    → piece_sent x.request.asked (model_shape z.shape) z.missing bytes ≡ []
no_piece_by x z bytes Unanswered sends none = absurd (cc sends)
no_piece_by x z bytes (GoesOut y) sends none =
    let same : y ≡ z = cc sends in
    subst (λ (w : Sending). piece_sent x.request.asked (model_shape w.shape) w.missing bytes ≡ []) same none
no_piece_by x z bytes (Answered kind) sends none = absurd (cc sends)

no_piece_of : (e : Option Exchange) (asked : Asked) (z : Sending) (bytes : List ℕ) → asked_in e ≡ Some asked → sending_in e ≡ Some z
    → NoPieceOf (option_map exchange_of e) bytes → piece_sent asked (model_shape z.shape) z.missing bytes ≡ []
no_piece_of None asked z bytes asks sends none = absurd (cc asks)
no_piece_of (Some x) asked z bytes asks sends none =
    let same : x.request.asked ≡ asked = cc asks in
    subst (λ (a : Asked). piece_sent a (model_shape z.shape) z.missing bytes ≡ []) same (no_piece_by x z bytes x.reply sends none)

pub no_piece : (p : Parts) (asked : Asked) (z : Sending) (bytes : List ℕ) → asked_in p.exchange ≡ Some asked → sending_in p.exchange ≡ Some z
    → SendsNoPiece (kept_of p) bytes → piece_sent asked (model_shape z.shape) z.missing bytes ≡ []
no_piece p asked z bytes asks sends none = no_piece_of p.exchange asked z bytes asks sends none

no_end_by : (x : Exchange) (z : Sending) (r : Reply) → sending_by r ≡ Some z → NoEndBy (exchange_of x) (reply_of r) → sent_end x.request.asked (model_shape z.shape) ≡ []
no_end_by x z Unanswered sends none = absurd (cc sends)
no_end_by x z (GoesOut y) sends none =
    let same : y ≡ z = cc sends in
    subst (λ (w : Sending). sent_end x.request.asked (model_shape w.shape) ≡ []) same none
no_end_by x z (Answered kind) sends none = absurd (cc sends)

no_end_of : (e : Option Exchange) (asked : Asked) (z : Sending) → asked_in e ≡ Some asked → sending_in e ≡ Some z
    → NoEndOf (option_map exchange_of e) → sent_end asked (model_shape z.shape) ≡ []
no_end_of None asked z asks sends none = absurd (cc asks)
no_end_of (Some x) asked z asks sends none =
    let same : x.request.asked ≡ asked = cc asks in
    subst (λ (a : Asked). sent_end a (model_shape z.shape) ≡ []) same (no_end_by x z x.reply sends none)

pub unsent_end : (p : Parts) (asked : Asked) (z : Sending) → asked_in p.exchange ≡ Some asked → sending_in p.exchange ≡ Some z
    → SendsNoEnd (kept_of p) → sent_end asked (model_shape z.shape) ≡ []
unsent_end p asked z asks sends none = no_end_of p.exchange asked z asks sends none
