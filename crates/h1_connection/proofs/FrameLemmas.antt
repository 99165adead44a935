-- The machine's steps of an upgrade to WebSocket, of its frames and of its messages.
use Rattle.std.proofs.Common.{◌≡◌, ℕ, Bool, true, false, not, ◌&&◌, ◌||◌, List, ◌++◌, Option, Some, None, refl, sym, ap, ◌∙◌, subst}
use Rattle.std.specs.Prelude.{option_map, is_some}
use Rattle.std.specs.Option.{option_or}
use Rattle.http_config.specs.Config.{Settings}
use Rattle.model_h1.specs.Answer.{size_stream}
use Rattle.model_h1.specs.End as ends
use Rattle.model_h1.specs.Event as on
use Rattle.model_h1.specs.Frame.{Message, frame, nop, ProtocolError as Rule}
use Rattle.model_h1.specs.FrameText.{send_error}
use Rattle.model_h1.specs.Handshake.{accepting_head}
use Rattle.model_h1.specs.Setting.{Setting}
use Rattle.model_h1.specs.Sums.{under_way_behind}
use Rattle.model_h1.specs.Text.{answer_head_text, message_text}
use Rattle.model_state.specs.Change.{IsChange, accepting, sending_message, noting_since}
use Rattle.model_state.specs.Kept.{Kept, Rest, no_rest, raw_rest, fixed_rest, chunks_rest, frames_rest, is_frames, is_nothing, is_free, is_answered, is_upgraded, now}
use Rattle.model_state.specs.Local.{closing_by, waits_for_answer}
use Rattle.h1_decoder.specs.declared.scan.HeadScan.{HeadScan}
use Rattle.h1_output.specs.Queued.{Queued}
use Rattle.ws_frames.specs.Refusal.{refusal}
use Rattle.ws_frames.specs.Sent.{sending_after}
use Rattle.ws_frames.specs.declared.error.ProtocolError.{ProtocolError}
use Rattle.ws_session.specs.declared.verify.HandshakeError.{HandshakeError}
use Rattle.h1_connection.specs.Frames.{with_frames, is_raw_request, SaysFrame, frame_end, IsFrameFrom, IsLightFrame, sends_nothing}
use Rattle.h1_connection.specs.Incoming.{is_coming_in, IsFoundIn}
use Rattle.h1_connection.specs.Stock.{Stock, IsFoundOf}
use Rattle.h1_connection.specs.EventMeaning.{setting_of, end_of, failing_of, SaysRule}
use Rattle.h1_connection.specs.Parts.{key_or_zeros, key_bytes, exchange_of, kept_of, reply_of, request_in, leaves_body, HasNoneBehind, MayBeSearched, IsSound, Steps}
use Rattle.h1_connection.specs.Pulls.{IsLightPull}
use Rattle.h1_connection.specs.declared.connection.exchange.Exchange.{Exchange}
use Rattle.h1_connection.specs.declared.connection.frames.PulledFrame.{PulledFrame}
use Rattle.h1_connection.specs.declared.connection.parts.Parts.{Parts}
use Rattle.h1_connection.specs.declared.connection.request.Request.{Request}
use Rattle.h1_connection.specs.declared.event.End.{End}
use Rattle.h1_connection.specs.declared.event.End.TheVariants.{Protocol}
use Rattle.h1_connection.proofs.AnswerLemmas.{at_exchange, at_sound, not_free, nothing_found, waiting_open}
use Rattle.h1_connection.proofs.EventLemmas.{noted_sound}
use Rattle.h1_connection.proofs.StepLemmas.{quiet_step, settled_step, settled_noted, sound_may}

-- ---- a step that may close the connection, and leaves where heads are searched for

noted_step : (s : Settings) (p m q : Parts) (event : on.Event) (out : on.Outcome)
    → IsChange (setting_of s) (kept_of p) event (record { outcome = out; kept = kept_of m })
    → kept_of q ≡ noting_since (setting_of s) (kept_of m) → q.input ≡ m.input → is_some m.input.piece ≡ is_free (kept_of m) → IsFoundOf m.input
    → HasNoneBehind (kept_of m) m.input.ahead → Steps s p event out q
noted_step s p m q event out changes kept input searched scanned behind =
    settled_step s p q event out (kept_of m) (kept_of m) (kept_of m).is_coming changes refl (settled_noted (setting_of s) m q kept input searched scanned behind)

-- ---- an upgrade

-- the exchange whose request it is
some_request : (e : Option Exchange) (request : Request) → request_in e ≡ Some request → (x : Exchange) × (e ≡ Some x) × (x.request ≡ request)
some_request None request is = absurd (cc is)
some_request (Some x) request is = (x, refl, cc is)

-- a request that waits for its answer leaves no head to be searched for
waiting_none : (s : Settings) (p : Parts) (x : Exchange) → p.exchange ≡ Some x → waits_for_answer (kept_of p) ≡ true → IsSound s p → p.input.piece ≡ None
waiting_none s p x there waits sound =
    nothing_found p.input.piece ((at_sound s p x there sound).searched ∙ not_free (is_answered (reply_of x.reply)) (is_nothing x.rest) (waiting_open p x there waits))

-- the parts whose frames are read from now on
abbrev pub framed : Parts → ℕ → Queued → Parts
framed p limit queue = record p { output = queue; exchange = with_frames limit p.exchange }

framed_searched : (s : Settings) (p : Parts) (x : Exchange) (limit : ℕ) (queue : Queued) → p.exchange ≡ Some x → waits_for_answer (kept_of p) ≡ true → IsSound s p
    → is_some p.input.piece ≡ is_free (kept_of (framed (record p { exchange = Some x }) limit queue))
framed_searched s p x limit queue there waits sound =
    ap is_some (waiting_none s p x there waits sound) ∙ sym (not_free (is_answered (reply_of x.reply)) false (waiting_open p x there waits))

framed_change : (set : Setting) (p : Parts) (x : Exchange) (limit : ℕ) (queue : Queued) → x.request.refusal ≡ None → x.request.asked.is_raw ≡ true
    → ((setting : Setting) (draining : Bool)
    → queue.bytes ≡ p.output.bytes ++ answer_head_text setting draining x.request.asked (accepting_head (key_or_zeros x.request.accept_key)) size_stream (now (kept_of p)))
    → IsChange set (kept_of (record p { exchange = Some x })) (on.accept limit)
    (record { outcome = on.done; kept = kept_of (framed (record p { exchange = Some x }) limit queue) })
framed_change set p x limit queue none raw text =
    let k : Kept = kept_of (record p { exchange = Some x }) in
    let all : queue.bytes ≡ p.output.bytes ++ answer_head_text set p.is_draining x.request.asked (accepting_head (key_bytes x.request.asked.is_raw x.request.accept_key)) size_stream (now k) =
    text set p.is_draining
    ∙ ap (λ (b : Bool). p.output.bytes ++ answer_head_text set p.is_draining x.request.asked (accepting_head (key_bytes b x.request.accept_key)) size_stream (now k)) (sym raw) in
    (λ i. record { outcome = on.done; kept = record k { buffered = all i; exchange = Some (record (exchange_of x) { rest = frames_rest false limit }) } })
    ∙ ap (λ (o : Option HandshakeError). accepting set limit (exchange_of x) k (option_map failing_of o)) (sym none)

-- it is accepted
record Upgrades (p : Parts) (request : Request) (x : Exchange) : Type 0 where
  pub there : p.exchange ≡ Some x
  pub asks : x.request ≡ request
  pub raw : x.request.asked.is_raw ≡ true

upgrades : (p : Parts) (request : Request) → request_in p.exchange ≡ Some request → is_raw_request (kept_of p) ≡ true → (x : Exchange) × Upgrades p request x
upgrades p request is raw =
    let e = some_request p.exchange request is in (
      e.0,
      record {
        there = e.1;
        asks = e.2;
        raw = subst (λ (o : Option Exchange). is_raw_request (kept_of (record p { exchange = o })) ≡ true) e.1 raw;
      },
    )

-- one that may be upgraded has none counted behind it
raw_leaves : (p : Parts) (e : Option Exchange) → is_raw_request (kept_of (record p { exchange = e })) ≡ true → leaves_body (kept_of (record p { exchange = e })) ≡ true
raw_leaves p None raw = raw
raw_leaves p (Some x) raw = ap (λ (b : Bool). b || not (is_nothing x.rest)) raw

raw_behind : (s : Settings) (p : Parts) → is_raw_request (kept_of p) ≡ true → IsSound s p → p.input.ahead ≡ 0
raw_behind s p raw sound = sound.behind (raw_leaves p p.exchange raw)

pub framed_may : (s : Settings) (p m : Parts) (request : Request) (limit : ℕ) (queue : Queued) → m ≡ framed p limit queue → request_in p.exchange ≡ Some request
    → waits_for_answer (kept_of p) ≡ true → is_raw_request (kept_of p) ≡ true → IsSound s p → MayBeSearched m
framed_may s p m request limit queue is asks waits raw sound =
    let e = some_request p.exchange request asks in
    record {
      searched = λ busy. ap (λ (r : Parts). r.input.piece) is ∙ waiting_none s p e.0 e.1 waits sound;
      behind = λ left. ap (λ (r : Parts). r.input.ahead) is ∙ raw_behind s p raw sound;
    }

pub framed_steps : (s : Settings) (p m q : Parts) (request : Request) (limit : ℕ) (queue : Queued) → IsSound s p → waits_for_answer (kept_of p) ≡ true
    → is_raw_request (kept_of p) ≡ true → request_in p.exchange ≡ Some request → request.refusal ≡ None
    → ((setting : Setting) (draining : Bool)
    → queue.bytes ≡ p.output.bytes ++ answer_head_text setting draining request.asked (accepting_head (key_or_zeros request.accept_key)) size_stream (now (kept_of p)))
    → m ≡ framed p limit queue → kept_of q ≡ noting_since (setting_of s) (kept_of m) → q.input ≡ m.input → Steps s p (on.accept limit) on.done q
framed_steps s p m q request limit queue sound waits raw asks none text is kept input =
    let e = upgrades p request asks raw in
    let x = e.0 in
    let u = e.1 in
    let same : m ≡ framed (record p { exchange = Some x }) limit queue = is ∙ ap (λ (o : Option Exchange). framed (record p { exchange = o }) limit queue) u.there in
    let none_too : x.request.refusal ≡ None = ap (λ (r : Request). r.refusal) u.asks ∙ none in
    let text_too : (setting : Setting) (draining : Bool)
    → queue.bytes ≡ p.output.bytes ++ answer_head_text setting draining x.request.asked (accepting_head (key_or_zeros x.request.accept_key)) size_stream (now (kept_of p)) =
    subst (λ (r : Request). (setting : Setting) (draining : Bool)
    → queue.bytes ≡ p.output.bytes ++ answer_head_text setting draining r.asked (accepting_head (key_or_zeros r.accept_key)) size_stream (now (kept_of p))) (sym u.asks) text in
    at_exchange s p q x (on.accept limit) on.done u.there
    (noted_step s (record p { exchange = Some x }) (framed (record p { exchange = Some x }) limit queue) q (on.accept limit) on.done
    (framed_change (setting_of s) p x limit queue none_too u.raw text_too)
    (kept ∙ ap (λ (r : Parts). noting_since (setting_of s) (kept_of r)) same) (input ∙ ap (λ (r : Parts). r.input) same)
    (framed_searched s p x limit queue u.there waits sound) sound.scanned (λ left. raw_behind s p raw sound))

pub framed_sound : (s : Settings) (p m q : Parts) (request : Request) (limit : ℕ) (queue : Queued) → IsSound s p → waits_for_answer (kept_of p) ≡ true
    → is_raw_request (kept_of p) ≡ true → request_in p.exchange ≡ Some request → m ≡ framed p limit queue → kept_of q ≡ noting_since (setting_of s) (kept_of m)
    → q.input ≡ m.input → IsSound s q
framed_sound s p m q request limit queue sound waits raw asks is kept input =
    let e = some_request p.exchange request asks in
    let same : m ≡ framed (record p { exchange = Some e.0 }) limit queue = is ∙ ap (λ (o : Option Exchange). framed (record p { exchange = o }) limit queue) e.1 in
    noted_sound s (framed (record p { exchange = Some e.0 }) limit queue) q sound.moment
    (kept ∙ ap (λ (r : Parts). noting_since (setting_of s) (kept_of r)) same) (input ∙ ap (λ (r : Parts). r.input) same)
    (framed_searched s p e.0 limit queue e.1 waits sound) sound.scanned (λ left. raw_behind s p raw sound)

-- it is refused
pub refused_steps : (s : Settings) (p : Parts) (request : Request) (limit : ℕ) (error : HandshakeError) → IsSound s p → request_in p.exchange ≡ Some request
    → request.refusal ≡ Some error → Steps s p (on.accept limit) (on.refused (failing_of error)) p
refused_steps s p request limit error sound asks some =
    let e = some_request p.exchange request asks in
    let x = e.0 in
    let out = on.refused (failing_of error) in
    let refusal : x.request.refusal ≡ Some error = ap (λ (r : Request). r.refusal) e.2 ∙ some in
    quiet_step s p p (on.accept limit) out
    (subst (λ (o : Option Exchange). IsChange (setting_of s) (kept_of (record p { exchange = o })) (on.accept limit)
    (record { outcome = out; kept = kept_of (record p { exchange = o }) })) (sym e.1)
    (sym (ap (λ (o : Option HandshakeError). accepting (setting_of s) limit (exchange_of x) (kept_of (record p { exchange = Some x })) (option_map failing_of o)) refusal)))
    sound

-- where no request was handed out, nothing is done
pub no_accept : (s : Settings) (p : Parts) (limit : ℕ) → request_in p.exchange ≡ None → IsSound s p → Steps s p (on.accept limit) on.done p
no_accept s p limit asks sound = nothing p.exchange refl asks
  where
    nothing : (e : Option Exchange) → p.exchange ≡ e → request_in e ≡ None → Steps s p (on.accept limit) on.done p
    nothing (Some x) there is = absurd (cc is)
    nothing None there is =
        quiet_step s p p (on.accept limit) on.done
        (subst (λ (o : Option Exchange). IsChange (setting_of s) (kept_of (record p { exchange = o })) (on.accept limit)
        (record { outcome = on.done; kept = kept_of (record p { exchange = o }) })) (sym there) refl) sound

-- ---- frames

-- an exchange whose frames are read isn't done with
pub frames_busy : (rest : Rest) (answered : Bool) → is_frames rest ≡ true → (answered && is_nothing rest) ≡ false
frames_busy rest false is = refl
frames_busy no_rest true is = absurd (cc is)
frames_busy raw_rest true is = absurd (cc is)
frames_busy (fixed_rest n) true is = absurd (cc is)
frames_busy (chunks_rest place section) true is = absurd (cc is)
frames_busy (frames_rest under_way limit) true is = refl

or_false : (b : Bool) → b ≡ (b || false)
or_false true = refl
or_false false = refl

-- so no head is searched for
pub upgraded_frames : (p : Parts) (x : Exchange) → p.exchange ≡ Some x → is_upgraded (kept_of p) ≡ true → is_frames x.rest ≡ true
upgraded_frames p x there is = subst (λ (o : Option Exchange). is_upgraded (kept_of (record p { exchange = o })) ≡ true) there is

upgraded_case : (p : Parts) (e : Option Exchange) → is_upgraded (kept_of (record p { exchange = e })) ≡ true → is_free (kept_of (record p { exchange = e })) ≡ false
upgraded_case p None is = absurd (cc is)
upgraded_case p (Some x) is = frames_busy x.rest (is_answered (reply_of x.reply)) is

pub upgraded_none : (p : Parts) → is_upgraded (kept_of p) ≡ true → MayBeSearched p → p.input.piece ≡ None
upgraded_none p is may = may.searched (upgraded_case p p.exchange is)

pub upgraded_unsearched : (s : Settings) (p : Parts) → is_upgraded (kept_of p) ≡ true → IsSound s p → p.input.piece ≡ None
upgraded_unsearched s p is sound = upgraded_none p is (sound_may s p sound)

-- nor is one counted
leaves_frames : (raw : Bool) (rest : Rest) → is_frames rest ≡ true → (raw || not (is_nothing rest)) ≡ true
leaves_frames true rest is = refl
leaves_frames false no_rest is = absurd (cc is)
leaves_frames false raw_rest is = refl
leaves_frames false (fixed_rest n) is = refl
leaves_frames false (chunks_rest place section) is = refl
leaves_frames false (frames_rest under_way limit) is = refl

upgraded_leaves : (p : Parts) (e : Option Exchange) → is_upgraded (kept_of (record p { exchange = e })) ≡ true → leaves_body (kept_of (record p { exchange = e })) ≡ true
upgraded_leaves p None is = absurd (cc is)
upgraded_leaves p (Some x) is = leaves_frames x.request.asked.is_raw x.rest is

pub upgraded_behind : (p : Parts) → is_upgraded (kept_of p) ≡ true → MayBeSearched p → p.input.ahead ≡ 0
upgraded_behind p is may = may.behind (upgraded_leaves p p.exchange is)

-- the parts after one was taken
abbrev pub frame_parts : Parts → Exchange → Stock → Option End → Parts
frame_parts p y after failed = record p { exchange = Some y; input = after; failed = failed }

frame_change : (set : Setting) (p : Parts) (x y : Exchange) (after : Stock) (answer : PulledFrame) (failed : Option End) → p.input.piece ≡ None
    → (from : IsFrameFrom x p.input.unread answer y after)
    → option_map end_of failed ≡ option_or (frame_end answer) (option_map end_of p.failed)
    → IsChange set (kept_of (record p { exchange = Some x })) on.pull (record { outcome = from.pulled.of.outcome; kept = kept_of (frame_parts p y after failed) })
frame_change set p x y after answer failed unsearched from failed_is =
    let t = from.pulled in
    let k : Kept = kept_of (record p { exchange = Some x }) in
    let done : x.body_is_done ≡ (x.body_is_done || t.of.is_done) = or_false x.body_is_done ∙ ap (λ (b : Bool). x.body_is_done || b) (sym t.not_done) in
    let ends_too : option_map end_of failed ≡ option_or t.of.failed (option_map end_of p.failed) =
    failed_is ∙ ap (λ (o : Option ends.End). option_or o (option_map end_of p.failed)) (sym t.failed) in
    let coming : is_coming_in after.piece ≡ is_coming_in p.input.piece = ap (λ (i : Stock). is_coming_in i.piece) t.after_is ∙ sym (ap is_coming_in unsearched) in
    let exchange : exchange_of y ≡ record (exchange_of x) { rest = t.of.rest; was_pulled = true; body_is_done = x.body_is_done || t.of.is_done } =
    ap (λ (z : Exchange). exchange_of z) from.exchange ∙ (λ i. record (exchange_of x) { rest = t.rest_is i; was_pulled = true; body_is_done = done i }) in (
      t.of,
      t.is_pull p.has_ended,
      λ i. record {
        outcome = t.of.outcome;
        kept = record k {
          unread = (ap (λ (j : Stock). j.unread) t.after_is) i;
          is_coming = coming i;
          exchange = Some (exchange i);
          failed = ends_too i;
        };
      },
    )

frame_searched : (p : Parts) (x y : Exchange) (after : Stock) (answer : PulledFrame) (failed : Option End) (from : IsFrameFrom x p.input.unread answer y after)
    → is_some after.piece ≡ is_free (kept_of (frame_parts p y after failed))
frame_searched p x y after answer failed from =
    ap (λ (i : Stock). is_some i.piece) from.pulled.after_is ∙ sym (frames_busy y.rest (is_answered (reply_of y.reply)) from.frames)

frame_found : (x y : Exchange) (bytes : List ℕ) (after : Stock) (answer : PulledFrame) → IsFrameFrom x bytes answer y after → IsFoundOf after
frame_found x y bytes after answer from =
    subst (λ (o : Option HeadScan). IsFoundIn after.unread o) (sym (ap (λ (i : Stock). i.piece) from.pulled.after_is)) tt

pub frame_may : (p m : Parts) (x y : Exchange) (after : Stock) (answer : PulledFrame) (failed : Option End) → m ≡ frame_parts p y after failed
    → IsFrameFrom x p.input.unread answer y after → MayBeSearched m
frame_may p m x y after answer failed is from =
    record {
      searched = λ busy. ap (λ (r : Parts). r.input.piece) is ∙ ap (λ (i : Stock). i.piece) from.pulled.after_is;
      behind = λ left. ap (λ (r : Parts). r.input.ahead) is ∙ ap (λ (i : Stock). i.ahead) from.pulled.after_is;
    }

pub frame_steps : (s : Settings) (p m q : Parts) (x y : Exchange) (after : Stock) (answer : PulledFrame) → p.exchange ≡ Some x → is_upgraded (kept_of p) ≡ true
    → IsSound s p → IsFrameFrom x p.input.unread answer y after
    → option_map end_of m.failed ≡ option_or (frame_end answer) (option_map end_of p.failed) → m ≡ frame_parts p y after m.failed
    → kept_of q ≡ noting_since (setting_of s) (kept_of m) → q.input ≡ m.input
    → (out : on.Outcome) × SaysFrame answer out × Steps s p on.pull out q
frame_steps s p m q x y after answer there upgraded sound from failed is kept input =
    let n : Parts = frame_parts p y after m.failed in
    let none = upgraded_unsearched s p upgraded sound in (
      from.pulled.of.outcome,
      from.pulled.says,
      at_exchange s p q x on.pull from.pulled.of.outcome there
          (noted_step s (record p { exchange = Some x }) n q on.pull from.pulled.of.outcome
          (frame_change (setting_of s) p x y after answer m.failed none from failed)
          (kept ∙ ap (λ (r : Parts). noting_since (setting_of s) (kept_of r)) is) (input ∙ ap (λ (r : Parts). r.input) is)
          (frame_searched p x y after answer m.failed from) (frame_found x y p.input.unread after answer from)
          (λ left. ap (λ (i : Stock). i.ahead) from.pulled.after_is)),
    )

pub frame_sound : (s : Settings) (p m q : Parts) (x y : Exchange) (after : Stock) (answer : PulledFrame) → IsSound s p
    → IsFrameFrom x p.input.unread answer y after → m ≡ frame_parts p y after m.failed
    → kept_of q ≡ noting_since (setting_of s) (kept_of m) → q.input ≡ m.input → IsSound s q
frame_sound s p m q x y after answer sound from is kept input =
    noted_sound s (frame_parts p y after m.failed) q sound.moment
    (kept ∙ ap (λ (r : Parts). noting_since (setting_of s) (kept_of r)) is) (input ∙ ap (λ (r : Parts). r.input) is)
    (frame_searched p x y after answer m.failed from) (frame_found x y p.input.unread after answer from)
    (λ left. ap (λ (i : Stock). i.ahead) from.pulled.after_is)

-- a pull that needs no memory is one of a frame that needs none
pub light_frame : (p : Parts) (x : Exchange) → p.exchange ≡ Some x → IsLightPull (kept_of p) → IsLightFrame x.rest p.input.unread
light_frame p x there light =
    let at = subst (λ (o : Option Exchange). IsLightPull (kept_of (record p { exchange = o }))) there light in
    (p.has_ended, at.0, at.1, at.2)

-- ---- messages

sent_change : (set : Setting) (p : Parts) (m : Message) (queue : Queued) (sending : Bool) → send_error p.is_sending m ≡ None
    → queue.bytes ≡ p.output.bytes ++ message_text m → sending ≡ sending_after p.is_sending m
    → IsChange set (kept_of p) (on.send m) (record { outcome = on.done; kept = kept_of (record p { output = queue; is_sending = sending }) })
sent_change set p m queue sending none bytes_are sending_is =
    (λ i. record { outcome = on.done; kept = record (kept_of p) { buffered = bytes_are i; is_sending = (sending_is ∙ after m) i } })
    ∙ ap (λ (o : Option Rule). sending_message m (kept_of p) o) (sym none)
  where
    after : (m : Message) → sending_after p.is_sending m ≡ under_way_behind p.is_sending (on.send m) on.done
    after (frame f) = refl
    after nop = refl

sent_sound_at : (s : Settings) (p : Parts) (queue : Queued) (sending : Bool) → IsSound s p → IsSound s (record p { output = queue; is_sending = sending })
unfolding closing_by
sent_sound_at s p queue sending sound = record { moment = sound.moment; searched = sound.searched; scanned = sound.scanned; behind = sound.behind; noted = sound.noted }

pub sent_sound : (s : Settings) (p q : Parts) (queue : Queued) (sending : Bool) → q ≡ record p { output = queue; is_sending = sending } → IsSound s p → IsSound s q
sent_sound s p q queue sending is sound = subst (λ (r : Parts). IsSound s r) (sym is) (sent_sound_at s p queue sending sound)

pub sent_steps : (s : Settings) (p : Parts) (m : Message) (queue : Queued) (sending : Bool) → send_error p.is_sending m ≡ None
    → queue.bytes ≡ p.output.bytes ++ message_text m → sending ≡ sending_after p.is_sending m → IsSound s p
    → Steps s p (on.send m) on.done (record p { output = queue; is_sending = sending })
sent_steps s p m queue sending none bytes_are sending_is sound =
    quiet_step s p (record p { output = queue; is_sending = sending }) (on.send m) on.done
    (sent_change (setting_of s) p m queue sending none bytes_are sending_is) (sent_sound_at s p queue sending sound)

-- the rule that a message breaks
broken_rule : (o : Option Rule) (error : ProtocolError) → option_map refusal o ≡ Some error → (rule : Rule) × (o ≡ Some rule) × (error ≡ refusal rule)
broken_rule None error is = absurd (cc is)
broken_rule (Some rule) error is = (rule, refl, cc is)

-- and none
pub no_rule : (o : Option Rule) → option_map refusal o ≡ None → o ≡ None
no_rule None is = refl
no_rule (Some rule) is = absurd (cc is)

pub unsent_steps : (s : Settings) (p q : Parts) (m : Message) (error : ProtocolError) → option_map refusal (send_error p.is_sending m) ≡ Some error
    → IsSound s p → kept_of q ≡ noting_since (setting_of s) (kept_of (record p { failed = Some Protocol })) → q.input ≡ p.input
    → (out : on.Outcome) × SaysRule error out × Steps s p (on.send m) out q
unsent_steps s p q m error some sound kept input =
    let e = broken_rule (send_error p.is_sending m) error some in
    let n : Parts = record p { failed = Some Protocol } in (
      on.protocol e.0,
      record { rule = e.0; outcome_is = refl; says = e.2 },
      noted_step s p n q (on.send m) (on.protocol e.0)
          (sym (ap (λ (o : Option Rule). sending_message m (kept_of p) o) e.1)) kept input sound.searched sound.scanned sound.behind,
    )

pub unsent_sound : (s : Settings) (p q : Parts) → IsSound s p → kept_of q ≡ noting_since (setting_of s) (kept_of (record p { failed = Some Protocol }))
    → q.input ≡ p.input → IsSound s q
unsent_sound s p q sound kept input = noted_sound s (record p { failed = Some Protocol }) q sound.moment kept input sound.searched sound.scanned sound.behind

-- a message of which nothing is sent, and that breaks no rule, says nothing
pub nothing_said : (k : Kept) (m : Message) → send_error k.is_sending m ≡ None → sends_nothing k m ≡ true → m ≡ nop
nothing_said k (frame f) none is = absurd (let no : false ≡ true = sym (ap is_some none) ∙ is in cc no)
nothing_said k nop none is = refl
