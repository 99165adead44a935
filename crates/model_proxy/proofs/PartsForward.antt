-- A forwarder that is one behind an event is one behind each part of a reply: its head, a piece of its body, its end; and where its client is
-- told to go on.
use Rattle.std.proofs.Common.{◌≡◌, ℕ, Bool, true, false, List, [], ◌∷◌, length, refl, sym, ap, ◌∙◌, subst, Option, Some}
use Rattle.std.specs.Prelude.{not, ◌&&◌, ◌==◌}
use Rattle.std.specs.List.{AllByRecursion}
use Rattle.std.proofs.lemmas.Bool.{false≢true}
use Rattle.model_h1.specs.Setting.{Setting}
use Rattle.model_h1.specs.Answer.{AnswerHead, BodySize, size_of}
use Rattle.model_h1.specs.Event as on
use Rattle.model_h1.specs.Sums.{Step, is_drain, is_body_error, is_draining, now}
use Rattle.model_h1.specs.Laws.Exchanges.{AnswerGiven, answer_given, Exchange, exchanges, changed_by, newly_given, with_piece, with_end}
use Rattle.model_state.specs.Kept.{Kept}
use Rattle.model_state.specs.StandsFor.{StandsFor}
use Rattle.model_proxy.specs.Edge.{Edge}
use Rattle.model_proxy.specs.Judged.{is_refused}
use Rattle.model_proxy.specs.Forward.{is_forwardable}
use Rattle.model_proxy.specs.Answers.{refusal_head}
use Rattle.model_proxy.specs.Past.{ProxyStep}
use Rattle.model_proxy.specs.Exchange as requests
use Rattle.model_proxy.specs.Forwarding.{IsOwn, IsReplyFrom, IsReplyBy, IsReply, IsToldRightly}
use Rattle.model_proxy.specs.Happenings.{Happenings}
use Rattle.model_proxy.specs.Carried.{ForwarderKept}
use Rattle.model_proxy.specs.Moves.{HasBrought}
use Rattle.model_proxy.proofs.EventsForward.{Tells, judged_now}
use Rattle.model_proxy.proofs.RepliesForward.{tells_put}

-- ---- which reply a request may get

not_refused : (refused rest : Bool) → (not refused && rest) ≡ true → refused ≡ false
not_refused true rest is = absurd (false≢true is)
not_refused false rest is = refl

module _ (edge : Edge) (setting : Setting) (history : List ProxyStep) (x : requests.Exchange) (g : AnswerGiven) where
  -- 400, where its head is refused
  pub refused_reply : is_refused edge x.pulled.head ≡ true → g.answered.head ≡ refusal_head → g.answered.size ≡ size_of 0
      → IsReply edge setting history [] x (answer_given g)
  refused_reply is head size =
      subst (λ (b : Bool). IsReplyBy edge setting history [] x g b (is_forwardable edge x.pulled.head) x.was_refused x.server) (sym is) (head, size)

  -- 501, where it can't be sent on
  pub unforwardable_reply : is_refused edge x.pulled.head ≡ false → is_forwardable edge x.pulled.head ≡ false → IsOwn 501 g
      → IsReply edge setting history [] x (answer_given g)
  unforwardable_reply is can own =
      subst (λ (b : Bool). IsReplyBy edge setting history [] x g b (is_forwardable edge x.pulled.head) x.was_refused x.server) (sym is)
      (subst (λ (c : Bool). IsReplyBy edge setting history [] x g false c x.was_refused x.server) (sym can) own)

  -- 502, where no server connection was to be had
  pub no_server_reply : is_forwardable edge x.pulled.head ≡ true → x.was_refused ≡ true → IsOwn 502 g → IsReply edge setting history [] x (answer_given g)
  no_server_reply can was own =
      subst (λ (b : Bool). IsReplyBy edge setting history [] x g b (is_forwardable edge x.pulled.head) x.was_refused x.server)
      (sym (not_refused (is_refused edge x.pulled.head) _ can))
      (subst (λ (c : Bool). IsReplyBy edge setting history [] x g false c x.was_refused x.server) (sym can)
      (subst (λ (w : Bool). IsReplyBy edge setting history [] x g false true w x.server) (sym was) own))

  -- one by what came of its server
  pub server_reply : (k : ℕ) → is_forwardable edge x.pulled.head ≡ true → x.was_refused ≡ false → x.server ≡ Some k
      → IsReplyFrom setting history x k (length history) g → IsReply edge setting history [] x (answer_given g)
  server_reply k can was at reply =
      subst (λ (b : Bool). IsReplyBy edge setting history [] x g b (is_forwardable edge x.pulled.head) x.was_refused x.server)
      (sym (not_refused (is_refused edge x.pulled.head) _ can))
      (subst (λ (c : Bool). IsReplyBy edge setting history [] x g false c x.was_refused x.server) (sym can)
      (subst (λ (w : Bool). IsReplyBy edge setting history [] x g false true w x.server) (sym was)
      (subst (λ (o : Option ℕ). IsReplyBy edge setting history [] x g false true false o) (sym at) reply)))

-- ---- what a part makes of the newest exchange

pub head_put : (trace : List Step) (head : AnswerHead) (size : BodySize) (f : Exchange)
    → changed_by trace (on.answer head size) on.done f ≡ record f { reply = newly_given (record { head = head; size = size; drained = is_draining trace }) (now trace) }
unfolding changed_by
head_put trace head size f = refl

pub piece_put : (trace : List Step) (bytes : List ℕ) (f : Exchange) → changed_by trace (on.chunk bytes) on.done f ≡ record f { reply = with_piece bytes f.reply }
unfolding changed_by
piece_put trace bytes f = refl

pub end_put : (trace : List Step) (f : Exchange) → changed_by trace on.body_end on.done f ≡ record f { reply = with_end f.reply }
unfolding changed_by
end_put trace f = refl

pub told_put : (trace : List Step) (f : Exchange) → changed_by trace on.send_continue on.done f ≡ record f { was_told = true }
unfolding changed_by
told_put trace f = refl

module _ (edge : Edge) (theirs ours : Setting) (s : ProxyStep) (history : List ProxyStep) where
  pub told_now : (kept : ForwarderKept) (all : Happenings) (xs : List requests.Exchange) (f : Exchange) (fs : List Exchange) → exchanges all.client ≡ f ∷ fs
      → Tells edge theirs ours kept (s ∷ history) all xs → IsToldRightly edge f
  told_now kept all xs f fs are t =
      (subst (λ (gs : List Exchange). AllByRecursion (IsToldRightly edge) gs) are (judged_now edge theirs ours kept (s ∷ history) all xs t).told).0

  -- the exchange after it is this
  pub puts_as : (event : on.Event) (kept : ForwarderKept) (client : Kept) (all : Happenings) (x : requests.Exchange) (xs : List requests.Exchange) (f g : Exchange) (fs : List Exchange)
      → is_drain event ≡ false → is_body_error event ≡ false → exchanges all.client ≡ f ∷ fs
      → changed_by all.client event on.done f ≡ g → g.head ≡ f.head → IsToldRightly edge g → IsReply edge theirs (s ∷ history) [] x g.reply
      → StandsFor theirs client (record { event = event; outcome = on.done } ∷ all.client)
      → HasBrought on.done all.client (record { event = event; outcome = on.done } ∷ all.client) → Tells edge theirs ours kept (s ∷ history) all (x ∷ xs)
      → Tells edge theirs ours (record kept { client = client }) (s ∷ history) (record all { client = record { event = event; outcome = on.done } ∷ all.client }) (x ∷ xs)
  puts_as event kept client all x xs f g fs no_drain no_error are is head told reply stands did t =
      tells_put edge theirs ours s history event kept client all x xs f fs no_drain no_error are (ap (λ (e : Exchange). e.head) is ∙ head)
      (subst (IsToldRightly edge) (sym is) told) (subst (λ (e : Exchange). IsReply edge theirs (s ∷ history) [] x e.reply) (sym is) reply) stands did t

  module _ (kept : ForwarderKept) (client : Kept) (all : Happenings) (x : requests.Exchange) (xs : List requests.Exchange) (f : Exchange) (fs : List Exchange)
      (are : exchanges all.client ≡ f ∷ fs) (t : Tells edge theirs ours kept (s ∷ history) all (x ∷ xs)) where
    pub tells_answer : (head : AnswerHead) (size : BodySize)
        → IsReply edge theirs (s ∷ history) [] x (newly_given (record { head = head; size = size; drained = is_draining all.client }) (now all.client))
        → StandsFor theirs client (record { event = on.answer head size; outcome = on.done } ∷ all.client)
        → HasBrought on.done all.client (record { event = on.answer head size; outcome = on.done } ∷ all.client)
        → Tells edge theirs ours (record kept { client = client }) (s ∷ history)
        (record all { client = record { event = on.answer head size; outcome = on.done } ∷ all.client }) (x ∷ xs)
    tells_answer head size reply stands did =
        puts_as (on.answer head size) kept client all x xs f
        (record f { reply = newly_given (record { head = head; size = size; drained = is_draining all.client }) (now all.client) }) fs refl refl are
        (head_put all.client head size f) refl (told_now kept all (x ∷ xs) f fs are t) reply stands did t

    pub tells_chunk : (bytes : List ℕ) → IsReply edge theirs (s ∷ history) [] x (with_piece bytes f.reply)
        → StandsFor theirs client (record { event = on.chunk bytes; outcome = on.done } ∷ all.client)
        → HasBrought on.done all.client (record { event = on.chunk bytes; outcome = on.done } ∷ all.client)
        → Tells edge theirs ours (record kept { client = client }) (s ∷ history) (record all { client = record { event = on.chunk bytes; outcome = on.done } ∷ all.client }) (x ∷ xs)
    tells_chunk bytes reply stands did =
        puts_as (on.chunk bytes) kept client all x xs f (record f { reply = with_piece bytes f.reply }) fs refl refl are (piece_put all.client bytes f) refl
        (told_now kept all (x ∷ xs) f fs are t) reply stands did t

    pub tells_body_end : IsReply edge theirs (s ∷ history) [] x (with_end f.reply)
        → StandsFor theirs client (record { event = on.body_end; outcome = on.done } ∷ all.client)
        → HasBrought on.done all.client (record { event = on.body_end; outcome = on.done } ∷ all.client)
        → Tells edge theirs ours (record kept { client = client }) (s ∷ history) (record all { client = record { event = on.body_end; outcome = on.done } ∷ all.client }) (x ∷ xs)
    tells_body_end reply stands did =
        puts_as on.body_end kept client all x xs f (record f { reply = with_end f.reply }) fs refl refl are (end_put all.client f) refl
        (told_now kept all (x ∷ xs) f fs are t) reply stands did t

    pub tells_continue : is_forwardable edge f.head ≡ true → (f.head.minor == 0) ≡ false → IsReply edge theirs (s ∷ history) [] x f.reply
        → StandsFor theirs client (record { event = on.send_continue; outcome = on.done } ∷ all.client)
        → HasBrought on.done all.client (record { event = on.send_continue; outcome = on.done } ∷ all.client)
        → Tells edge theirs ours (record kept { client = client }) (s ∷ history) (record all { client = record { event = on.send_continue; outcome = on.done } ∷ all.client }) (x ∷ xs)
    tells_continue can minor reply stands did =
        puts_as on.send_continue kept client all x xs f (record f { was_told = true }) fs refl refl are (told_put all.client f) refl (λ is. (can, minor)) reply stands did t
