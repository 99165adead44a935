-- Once all is sent the transport is given back.
use Rattle.std.proofs.Common.{◌≡◌, ℕ, Bool, List, sym, ap, subst}
use Rattle.std.specs.Prelude.{Option, Some, None, option_map, Ok}
use Rattle.futures.specs.declared.task.Poll.TheVariants.{Ready}
use Rattle.http_bodies.specs.Giving.{Giving}
use Rattle.http_framing.specs.declared.body.size.BodySize.{BodySize}
use Rattle.http_transport.specs.Wiring.{Wiring}
use Rattle.h1_codec.specs.declared.framed_message.Message.{Message}
use Rattle.h1_codec.specs.View.{View, view_of}
use Rattle.h1_codec.specs.Turns.{MAX_TURNS, IsDone, SendsFew}
use Rattle.h1_codec.specs.SentMessages.{IsTransport, PollSays}
use Rattle.h1_codec.specs.declared.sending.Sending.{Sending}

module _ {T U H B E : Type 0} (wiring : T → Wiring) (gives : B → Giving) (writes : U → Message (H × BodySize) → List ℕ → U → Type 0)
    (refuses : E → U → Message (H × BodySize) → Type 0) (lacks : E → Type 0) (leaves : E → U → U → Type 0) where
  abbrev seen : Sending T U H B → View U H
  seen s = view_of wiring gives s

  same_transport : (new sent : Sending T U H B) → sent ≡ new → IsTransport wiring (seen new) sent.framed
  same_transport new sent is = record {
    transport = ap (λ (s : Sending T U H B). wiring s.framed.io) is;
    codec = ap (λ (s : Sending T U H B). s.framed.codec) is;
    unread = ap (λ (s : Sending T U H B). s.framed.unread) is;
    unsent = ap (λ (s : Sending T U H B). s.framed.unsent) is;
  }

  pub given_back : (old now : Option (Sending T U H B)) (s new sent : Sending T U H B) (woken : Bool) → old ≡ Some s → now ≡ None → sent ≡ new
      → SendsFew writes MAX_TURNS (seen s) (seen new) × IsDone (seen new)
      → PollSays writes refuses lacks leaves wiring (option_map seen old) (option_map seen now) woken (Ready (Ok sent.framed))
  given_back old now s new sent woken was gone is (sends, done) =
      subst (λ (o : Option (Sending T U H B)). PollSays writes refuses lacks leaves wiring (option_map seen o) (option_map seen now) woken (Ready (Ok sent.framed))) (sym was)
      (subst (λ (n : Option (Sending T U H B)). PollSays writes refuses lacks leaves wiring (Some (seen s)) (option_map seen n) woken (Ready (Ok sent.framed))) (sym gone)
      (seen new, sends, done, same_transport new sent is))
