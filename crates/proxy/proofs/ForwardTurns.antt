-- A forwarder that holds so far does so behind each turn, and behind all turns that follow an event.
use Rattle.std.proofs.Common.{◌≡◌, List, ◌∷◌, Option, Some, None, refl, sym, ◌∙◌, subst}
use Rattle.std.specs.Prelude.{◌<◌}
use Rattle.model_proxy.specs.Past.{ProxyStep}
use Rattle.proxy.specs.declared.proxy.Proxy.{Proxy}
use Rattle.proxy.specs.declared.proxy.ProxyConfig.{ProxyConfig}
use Rattle.proxy.specs.declared.proxy.Unsent.{Unsent}
use Rattle.proxy.specs.declared.proxy.SentRequest.{SentRequest}
use Rattle.proxy.specs.Replies.{TurnPuts, nothing_put, opened, told_to_go_on, sent_on, body_on, body_whole, broken_body, broken_late, refused_head, not_forwardable, no_answer, passed_on, piece_on, end_on, cut_off, HasCause, HasPut, KeepsBody, KeepsUnsent, IsTurn, HasReplied, nothing, turned}
use Rattle.proxy.proofs.ForwardState.{ours, Now, Holds, holds_then}
use Rattle.proxy.proofs.ForwardWaiting.{waiting_sent, waiting_turn}
use Rattle.proxy.proofs.ForwardIdle.{idle_still, idle_opens, idle_tells, idle_refuses, idle_declines}
use Rattle.proxy.proofs.ForwardSent.{sent_still, sent_piece, sent_whole, sent_breaks}
use Rattle.proxy.proofs.ForwardAnswers.{sent_unanswered, sent_broken, head_on, piece_goes_on, answer_ends, answer_fails}

module _ (s : ProxyStep) (history : List ProxyStep) (p q : Proxy) (room : 0 < (ours p.config).write_buffer) (h : Holds (s ∷ history) p) (t : IsTurn p q) where
  still : HasCause nothing_put p q → HasPut nothing_put p q → KeepsBody nothing_put p q → KeepsUnsent nothing_put p q → Now p.config (s ∷ history) q
  still cause puts far same = by_unsent p.unsent refl
    where
      by_sent : (o : Option SentRequest) → p.unsent ≡ None → p.sent ≡ o → Now p.config (s ∷ history) q
      by_sent (Some sent) none here = sent_still s history p q h sent (record { unsent = none; sent = here }) cause puts far
      by_sent None none here = idle_still s history p q h (record { unsent = none; sent = here }) t.keeps puts same

      by_unsent : (o : Option Unsent) → p.unsent ≡ o → Now p.config (s ∷ history) q
      by_unsent (Some u) at = waiting_turn s history p q h room u at t.sends
      by_unsent None none = by_sent p.sent none refl

  by_puts : (puts : TurnPuts) → HasCause puts p q → HasPut puts p q → KeepsBody puts p q → KeepsUnsent puts p q → Now p.config (s ∷ history) q
  by_puts nothing_put cause puts far same = still cause puts far same
  by_puts opened cause puts far same = idle_opens s history p q h cause t.keeps puts
  by_puts told_to_go_on cause puts far same = idle_tells s history p q h cause.0 t.keeps puts
  by_puts sent_on cause puts far same = waiting_sent s history p q h room cause.0 cause.1 cause.2
  by_puts (body_on bytes) cause puts far same = sent_piece s history p q h bytes cause puts
  by_puts body_whole cause puts far same = sent_whole s history p q h cause puts
  by_puts (broken_late fault) cause puts far same = sent_breaks s history p q h fault cause puts far
  by_puts refused_head cause puts far same = idle_refuses s history p q h cause.0 t.keeps puts cause.3
  by_puts not_forwardable cause puts far same = idle_declines s history p q h cause.0 t.keeps puts cause.3
  by_puts no_answer cause puts far same = sent_unanswered s history p q h cause puts
  by_puts (broken_body fault) cause puts far same = sent_broken s history p q h fault cause puts
  by_puts (passed_on is_head a) cause puts far same = head_on s history p q h is_head a cause puts
  by_puts (piece_on bytes) cause puts far same = piece_goes_on s history p q h bytes cause puts far
  by_puts end_on cause puts far same = answer_ends s history p q h cause puts
  by_puts cut_off cause puts far same = answer_fails s history p q h cause puts

  pub turn_holds : Holds (s ∷ history) q
  turn_holds = let x = t.replies in holds_then s history p q h t (by_puts x.0 x.1 x.2 x.3 x.4)

-- the settings stay
pub same_config : (p q : Proxy) → HasReplied p q → q.config ≡ p.config
same_config p _ nothing = refl
same_config p _ (turned mid new before t) = t.goes.0 ∙ same_config p mid before

pub turns_hold : (s : ProxyStep) (history : List ProxyStep) (p q : Proxy) → 0 < (ours p.config).write_buffer → Holds (s ∷ history) p → HasReplied p q → Holds (s ∷ history) q
turns_hold s history p _ room h nothing = h
turns_hold s history p _ room h (turned mid new before t) =
    turn_holds s history mid new (subst (λ (c : ProxyConfig). 0 < (ours c).write_buffer) (sym (same_config p mid before)) room) (turns_hold s history p mid room h before) t
