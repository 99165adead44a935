-- Whether a head is coming is as the bytes say: it stands behind what is passed.
use Rattle.std.proofs.Common.{◌≡◌, ℕ, zero, suc, Bool, true, false, List, length, drop, Option, Some, None, refl, sym, ap, ◌∙◌, subst, inl, inr}
use Rattle.std.specs.Prelude.{◌&&◌, ◌||◌, not, is_some, slice_get, unwrap_or}
use Rattle.std.proofs.lemmas.Bool.{true≢false, cases_Bool, or_right}
use Rattle.std.proofs.lemmas.Option.{none-some}
use Rattle.model_h1.specs.Request.{Head}
use Rattle.model_h1.specs.Setting.{Setting}
use Rattle.model_h1.specs.Parse.{Input, Message, next_start}
use Rattle.model_h1.specs.Sums.{taken, is_complete, is_open, is_upgraded, was_dropped}
use Rattle.model_h1.specs.Past.{ParsedStep, steps, input_of, parse_of, head_count, current, upcoming, passed}
use Rattle.model_h1.proofs.PastLemmas.{Legal}
use Rattle.model_h1.proofs.StepLemmas.{parsed}
use Rattle.model_h1.proofs.TraceGrowth.{ComesAt, first_comes, ComesBehind, comes_behind, current_at, current_none}
use Rattle.model_h1.proofs.CarriedLemmas.{passed_complete}
use Rattle.model_state.specs.Kept.{is_free, is_nothing}
use Rattle.model_state.specs.KeptOf.{rest_of, kept_of}
use Rattle.model_state.specs.Change.{IsComing}
use Rattle.model_state.proofs.Current.{Current, NoCurrent, current_of}
use Rattle.model_state.proofs.Orderly.{orderly}
use Rattle.model_state.proofs.Rests.{rest_says}
use Rattle.model_state.proofs.Parts.{exchange_is, exchange_none, reply_answered, none_open, current_open}

-- ---- whether it is coming

-- by the message that comes
comes_is : (i : Input) (place : ℕ) (u : Option Message) → ComesAt i place u → IsComing true (drop place i.bytes) (is_some u)
comes_is i place None x = x
comes_is i place (Some m) x = (x.start, x.end, x.piece)

-- of parts that are the same
comes_as : (free free' : Bool) (bytes bytes' : List ℕ) (coming coming' : Bool) → free ≡ free' → bytes ≡ bytes' → coming ≡ coming'
    → IsComing free' bytes' coming' → IsComing free bytes coming
comes_as free free' bytes bytes' coming coming' f b c x =
    subst (λ a. IsComing a bytes coming) (sym f) (subst (λ l. IsComing free' l coming) (sym b) (subst (λ d. IsComing free' bytes' d) (sym c) x))

-- before the first head
none_coming : (setting : Setting) (past : List ParsedStep) → Legal setting past → NoCurrent past
    → IsComing (is_free (kept_of setting past)) (kept_of setting past).unread (kept_of setting past).is_coming
none_coming setting past l n =
    let i = input_of setting (steps past) in
    let free : is_free (kept_of setting past) ≡ true = rw (exchange_none setting past n) refl in
    let coming : (kept_of setting past).is_coming ≡ is_some (slice_get (parse_of past) 0) =
    λ j. not (none_open past n j) && is_some (slice_get (parse_of past) (n.count j)) in
    comes_as _ _ _ _ _ _ free (ap (λ p. drop p (taken (steps past))) n.passed_is) coming
    (comes_is i 0 (slice_get (parse_of past) 0) (first_comes i 0 (parse_of past) (parsed setting past l)))

-- the message behind the current one, by where that has ended
pub behind_current : (setting : Setting) (past : List ParsedStep) (m : Message) → Legal setting past → current past ≡ Some m
    → ComesBehind (input_of setting (steps past)) (next_start m.body) (upcoming past)
behind_current setting past m l e = by_count (head_count (steps past)) refl
  where
    i : Input
    i = input_of setting (steps past)

    by_count : (count : ℕ) → head_count (steps past) ≡ count → ComesBehind i (next_start m.body) (upcoming past)
    by_count zero f = absurd (none-some m (sym (current_none past f) ∙ e))
    by_count (suc k) f =
        subst (ComesBehind i (next_start m.body)) (sym (ap (slice_get (parse_of past)) f))
        (comes_behind i 0 (parse_of past) k m (parsed setting past l) (sym (current_at past k f) ∙ e))

-- where the answer is complete
complete_coming : (setting : Setting) (past : List ParsedStep) (m : Message) (h : Head) → Legal setting past → Current setting past m h
    → is_complete (steps past) ≡ true → (next : Option ℕ) → next_start m.body ≡ next
    → IsComing (is_some next) (kept_of setting past).unread (kept_of setting past).is_coming
complete_coming setting past m h l c done None e =
    let behind = subst (λ o. ComesBehind (input_of setting (steps past)) o (upcoming past)) e (behind_current setting past m l c.current_is) in
    go (is_open (steps past)) behind
  where
    go : (opened : Bool) → upcoming past ≡ None → (not opened && is_some (upcoming past)) ≡ false
    go true none = refl
    go false none = ap is_some none
complete_coming setting past m h l c done (Some place) e =
    let i = input_of setting (steps past) in
    let behind = subst (λ o. ComesBehind i o (upcoming past)) e (behind_current setting past m l c.current_is) in
    let at : passed past ≡ place = c.passed_is ∙ passed_complete past m done ∙ ap (λ o. unwrap_or o (length (taken (steps past)))) e in
    let closed : is_open (steps past) ≡ false = current_open setting past m h c ∙ (λ j. plain j || not (done j)) in
    comes_as true true _ _ _ _ refl (ap (λ p. drop p (taken (steps past))) at) (ap (λ b. not b && is_some (upcoming past)) closed)
    (comes_is i place (upcoming past) behind)
  where
    plain : is_upgraded (steps past) ≡ false
    plain = elim (cases_Bool (is_upgraded (steps past))) [
      | inl up ↦ absurd (true≢false (sym done ∙ ((orderly setting past l).upgraded up).incomplete))
      | inr other ↦ other
    ]

-- of the current message
current_coming : (setting : Setting) (past : List ParsedStep) (m : Message) (h : Head) → Legal setting past → Current setting past m h
    → IsComing (is_free (kept_of setting past)) (kept_of setting past).unread (kept_of setting past).is_coming
current_coming setting past m h l c =
    let rest = rest_of past m h.body in
    let done = reply_answered setting (steps past) h (orderly setting past l) in
    let free : is_free (kept_of setting past) ≡ (is_complete (steps past) && is_nothing rest) = rw (exchange_is setting past m h c) (ap (λ b. b && is_nothing rest) done) in
    elim (cases_Bool (is_complete (steps past))) [
      | inl complete ↦
          let place = c.passed_is ∙ passed_complete past m complete in
          let says = rest_says setting past m h.body (was_dropped (steps past)) place complete c.body in
          let is = free ∙ (λ j. complete j && says.nothing j) in
          comes_as _ _ _ _ _ _ is refl refl (complete_coming setting past m h l c complete (next_start m.body) refl)
      | inr waits ↦
          let opened : is_open (steps past) ≡ true = current_open setting past m h c ∙ ap (λ b. is_upgraded (steps past) || not b) waits ∙ or_right (is_upgraded (steps past)) true refl in
          comes_as _ _ _ _ _ _ (free ∙ ap (λ b. b && is_nothing rest) waits) refl refl (ap (λ b. not b && is_some (upcoming past)) opened)
    ]

-- whether a head is coming is as the bytes say
pub coming_same : (setting : Setting) (past : List ParsedStep) → Legal setting past
    → IsComing (is_free (kept_of setting past)) (kept_of setting past).unread (kept_of setting past).is_coming
coming_same setting past l = elim (current_of setting past l) [
  | inl n ↦ none_coming setting past l n
  | inr (m, h, c) ↦ current_coming setting past m h l c
]
