-- A connection that closes goes on closing.
use Rattle.std.proofs.Common.{◌≡◌, Bool, true, false, ◌&&◌, not, drop, Option, Some, refl, ap, ◌∙◌, subst}
use Rattle.std.proofs.lemmas.Bool.{false≢true}
use Rattle.std.specs.Prelude.{IsTrue, is_some, if◌then◌else◌}
use Rattle.model_h1.specs.Setting.{Setting}
use Rattle.model_state.specs.Change.{IsComing}
use Rattle.model_client.specs.ClientEvent as on
use Rattle.model_client.specs.ClientEvent.{ClientEvent, ClientEnd, ClientOutcome}
use Rattle.model_client.specs.ClientKept.{ClientKept, is_free, client_closing, allowed_running, allowed_closing, is_moment, client_allows}
use Rattle.model_client.specs.ClientStep.{ClientChange, IsNext, IsClientStep, KnowsComing}
use Rattle.model_state.proofs.OneStep.{coming_one}

-- the last of three tests holds where all do
last_holds : (a b c : Bool) → IsTrue (a && b && c) → IsTrue c
last_holds true true c x = x
last_holds true false c x = absurd (false≢true x)
last_holds false b c x = absurd (false≢true x)

-- what is allowed is allowed while it closes
allowed_then : (setting : Setting) (k : ClientKept) (event : ClientEvent) (end : ClientEnd) → client_closing k ≡ Some end
    → IsTrue (client_allows setting k event) → IsTrue (allowed_closing event)
allowed_then setting k event end closing allowed =
    last_holds (not k.is_over) (is_moment k event) (allowed_closing event)
    (subst (λ (o : Option ClientEnd). IsTrue (not k.is_over && is_moment k event && (if is_some o then allowed_closing event else allowed_running setting k event)))
    closing allowed)

module _ (setting : Setting) (k next : ClientKept) (event : ClientEvent) (o : ClientOutcome) (end : ClientEnd)
    (known : KnowsComing k) (closing : client_closing k ≡ Some end) (x : IsClientStep setting k event o next) where
  -- where what is kept differs in nothing that closes it
  pub stays : (m : ClientKept) → x.change.kept ≡ m → (IsComing (is_free m) m.unread x.coming → IsComing (is_free k) k.unread x.coming)
      → ((b : Bool) → client_closing (record m { is_coming = b }) ≡ client_closing (record k { is_coming = b })) → client_closing next ≡ Some end
  stays m kept free alike =
      let there = free (subst (λ (m : ClientKept). IsComing (is_free m) m.unread x.coming) kept x.comes) in
      let same = coming_one (is_free k) k.unread x.coming k.is_coming there known in
      ap client_closing x.keeps ∙ ap (λ (m : ClientKept). client_closing (record m { is_coming = x.coming })) kept
      ∙ alike x.coming ∙ ap (λ (b : Bool). client_closing (record k { is_coming = b })) same ∙ closing

kept_of : (c d : ClientChange) → c ≡ d → c.kept ≡ d.kept
kept_of c d is = ap (λ (c : ClientChange). c.kept) is

pub reason_stays : (setting : Setting) (k next : ClientKept) (event : ClientEvent) (o : ClientOutcome) (end : ClientEnd) → KnowsComing k
    → client_closing k ≡ Some end → IsTrue (client_allows setting k event) → IsClientStep setting k event o next → client_closing next ≡ Some end
reason_stays setting k next event o end known closing allowed = by_event event (allowed_then setting k event end closing allowed)
  where
    by_event : (event : ClientEvent) → IsTrue (allowed_closing event) → IsClientStep setting k event o next → client_closing next ≡ Some end
    by_event (on.write n) may x = stays setting k next (on.write n) o end known closing x (record k { buffered = drop n k.buffered }) (kept_of _ _ x.changes) (λ y. y) (λ b. refl)
    by_event (on.tick ms) may x = stays setting k next (on.tick ms) o end known closing x (record k { now = ms }) (kept_of _ _ x.changes) (λ y. y) (λ b. refl)
    by_event on.next may x =
        stays setting k next on.next o end known closing x (record k { is_over = true })
        (kept_of x.change (record { outcome = on.closed end; kept = record k { is_over = true } }) (subst (λ (c : Option ClientEnd). IsNext setting k c x.change) closing x.changes)) (λ y. y) (λ b. refl)
    by_event (on.ask r size) may x = absurd (false≢true may)
    by_event (on.chunk bytes) may x = absurd (false≢true may)
    by_event on.body_end may x = absurd (false≢true may)
    by_event on.body_error may x = absurd (false≢true may)
    by_event (on.read bytes) may x = absurd (false≢true may)
    by_event on.eof may x = absurd (false≢true may)
    by_event on.pull may x = absurd (false≢true may)
    by_event on.drop_body may x = absurd (false≢true may)
