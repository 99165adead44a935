-- How far the body of the request that was sent on is.
use Rattle.std.proofs.Common.{◌≡◌, true, Option, Some, None, sym, ap, ◌∙◌}
use Rattle.model_h1.specs.Event as on
use Rattle.proxy.specs.declared.proxy.Proxy.{Proxy}
use Rattle.proxy.specs.declared.proxy.SentRequest.{SentRequest}
use Rattle.proxy.specs.Replies.{TurnPuts, nothing_put, body_whole, broken_late, KeepsBody}

pub same_sent : (o : Option SentRequest) (x y : SentRequest) → o ≡ Some x → o ≡ Some y → x ≡ y
same_sent o x y e f =
    let both : Some x ≡ Some y = sym e ∙ f in
    let is : x ≡ y = cc in
    is

pub no_sent : (o : Option SentRequest) (a : SentRequest) → o ≡ None → o ≡ Some a → ⊥
no_sent o a none some = let no : ◌≡◌ {A = Option SentRequest} None (Some a) = sym none ∙ some in cc no

pub idle_body : (puts : TurnPuts) (p q : Proxy) → p.sent ≡ None → KeepsBody puts p q
idle_body puts p q none = λ a b here there. absurd (no_sent p.sent a none here)

pub gone_body : (puts : TurnPuts) (p q : Proxy) → q.sent ≡ None → KeepsBody puts p q
gone_body puts p q none = λ a b here there. absurd (no_sent q.sent b none there)

-- as far as before
pub as_far : (p q : Proxy) (sent next : SentRequest) → p.sent ≡ Some sent → q.sent ≡ Some next → next.is_whole ≡ sent.is_whole → next.is_broken ≡ sent.is_broken
    → (a b : SentRequest) → p.sent ≡ Some a → q.sent ≡ Some b → (b.is_whole ≡ a.is_whole) × (b.is_broken ≡ a.is_broken)
as_far p q sent next old new whole broken a b here there =
    let x = same_sent p.sent sent a old here in
    let y = same_sent q.sent next b new there in (
      ap (λ (r : SentRequest). r.is_whole) (sym y) ∙ whole ∙ ap (λ (r : SentRequest). r.is_whole) x,
      ap (λ (r : SentRequest). r.is_broken) (sym y) ∙ broken ∙ ap (λ (r : SentRequest). r.is_broken) x,
    )

-- the same request
pub same_body : (p q : Proxy) → q.sent ≡ p.sent → KeepsBody nothing_put p q
same_body p q is = λ a b here there.
    let x = same_sent p.sent a b here (sym is ∙ there) in
    (ap (λ (r : SentRequest). r.is_whole) (sym x), ap (λ (r : SentRequest). r.is_broken) (sym x))

-- its end went on
pub whole_far : (p q : Proxy) (sent : SentRequest) → p.sent ≡ Some sent → q.sent ≡ Some (record sent { is_whole = true }) → KeepsBody body_whole p q
whole_far p q sent old new = λ a b here there.
    let x = same_sent p.sent sent a old here in
    let y = same_sent q.sent (record sent { is_whole = true }) b new there in
    (ap (λ (r : SentRequest). r.is_whole) (sym y), ap (λ (r : SentRequest). r.is_broken) (sym y) ∙ ap (λ (r : SentRequest). r.is_broken) x)

-- it broke
pub broken_far : (fault : on.BodyFault) (p q : Proxy) (sent : SentRequest) → p.sent ≡ Some sent → q.sent ≡ Some (record sent { is_broken = true })
    → KeepsBody (broken_late fault) p q
broken_far fault p q sent old new = λ a b here there.
    let x = same_sent p.sent sent a old here in
    let y = same_sent q.sent (record sent { is_broken = true }) b new there in
    (ap (λ (r : SentRequest). r.is_whole) (sym y) ∙ ap (λ (r : SentRequest). r.is_whole) x, ap (λ (r : SentRequest). r.is_broken) (sym y))
