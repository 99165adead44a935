-- What holds behind a forwarder's steps, in two halves: what is kept of all that happened gives the one; the other is of replies and answers.
use Rattle.std.proofs.Common.{◌≡◌, ℕ, ◌<◌, false, true, List, [], filter, reverse, length, ◌∙◌, subst, Option}
use Rattle.std.specs.Prelude.{option_map}
use Rattle.std.specs.List.{AllByRecursion}
use Rattle.model_h1.specs.Setting.{Setting}
use Rattle.model_h1.specs.Sums as sums
use Rattle.model_h1.specs.Sums.{Step}
use Rattle.model_h1.specs.Laws.Exchanges.{exchanges}
use Rattle.model_client.specs.ClientKept.{ClientKept}
use Rattle.model_proxy.specs.Edge.{Edge}
use Rattle.model_proxy.specs.Past.{ProxyStep, servers}
use Rattle.model_proxy.specs.Exchange.{Exchange, is_on}
use Rattle.model_proxy.specs.Forwarding.{IsToldRightly, AreReplies, IsCleanAtFirst, AreAlone, IsUsedBefore, HasFailed, IsForwardedSoFar}
use Rattle.model_proxy.specs.Happenings.{Happenings}
use Rattle.model_proxy.specs.Carried.{ForwarderKept, Carries}
use Rattle.model_proxy.proofs.SentPlaces.{AreSame, AreOn, counted, towards_each, whole_on_each, all_rightly, same_pulled}

-- the bytes that wait to be given to the server, where a connection is open
abbrev pub waiting_in : Option ClientKept → Option (List ℕ)
waiting_in server = option_map (λ c. c.buffered) server

-- the half of replies and answers
pub record IsJudged (edge : Edge) (setting : Setting) (history : List ProxyStep) (waiting : Option (List ℕ)) (trace : List Step) (xs : List Exchange) : Type 0 where
  pub undrained : sums.is_draining trace ≡ false
  pub used : IsUsedBefore history waiting xs
  pub told : AllByRecursion (IsToldRightly edge) (exchanges trace)
  pub replied : AreReplies edge setting history [] xs (exchanges trace)
  pub clean : (k : ℕ) → k < length (servers history) → IsCleanAtFirst history k (reverse (filter (is_on k) xs))
  pub alone : AreAlone setting history [] xs
  pub failed : sums.came_since_head sums.is_body_error trace ≡ true → HasFailed setting history xs

-- both
pub both_halves : (edge : Edge) (theirs ours : Setting) (kept : ForwarderKept) (history : List ProxyStep) (all : Happenings) (xs : List Exchange)
    → Carries edge theirs ours kept history all → AreSame history (length all.links) all.requests xs → AreOn edge history xs all.links
    → IsJudged edge theirs history (waiting_in kept.server) all.client xs → IsForwardedSoFar edge theirs history (waiting_in kept.server) all.client xs
both_halves edge theirs ours kept history all xs x same on judged =
    let many = counted edge theirs ours history all x.forwarded.sums.servers in
    record {
      traced = x.forwarded.traced;
      taken = x.forwarded.sums.taken;
      written = x.forwarded.sums.written;
      moment = x.forwarded.sums.moment;
      ended = x.forwarded.sums.ended;
      undrained = judged.undrained;
      requests = same_pulled history (length all.links) all.requests xs same ∙ x.forwarded.sent.requests;
      rightly = all_rightly edge history all.requests xs (subst (λ (n : ℕ). AreSame history n all.requests xs) many same) x.forwarded.sent.rightly;
      towards = towards_each edge theirs ours kept history all xs x on;
      whole = whole_on_each edge ours history xs all.links x.forwarded.sent.links on;
      used = judged.used;
      told = judged.told;
      replied = judged.replied;
      clean = judged.clean;
      alone = judged.alone;
      failed = judged.failed;
    }
