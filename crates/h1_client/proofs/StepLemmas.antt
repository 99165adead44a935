-- The machine's steps of a client connection's parts.
use Rattle.std.proofs.Common.{◌≡◌, ℕ, ◌<◌, Bool, true, false, List, [], Option, Some, None, refl, sym, ap, ◌∙◌, subst, lit<}
use Rattle.std.specs.Prelude.{is_some, option_map, if◌then◌else◌}
use Rattle.std.specs.Option.{option_or}
use Rattle.model_h1.specs.Limits.{MAX_MOMENT}
use Rattle.model_h1.specs.Setting.{Setting}
use Rattle.model_state.specs.Change.{IsComing}
use Rattle.h1_decoder.specs.declared.scan.HeadScan.{HeadScan}
use Rattle.h1_decoder.specs.declared.scan.HeadScan.TheVariants.{Open, Piece}
use Rattle.model_client.specs.ClientEvent as on
use Rattle.model_client.specs.ClientKept.{ClientKept, is_free, is_last}
use Rattle.model_client.specs.ClientStep.{ClientChange, IsClientChange}
use Rattle.h1_client.specs.Incoming.{Incoming, is_coming_in, IsFoundIn, IsFound}
use Rattle.h1_client.specs.ClientMeaning.{end_of}
use Rattle.h1_client.specs.Bodies.{failing}
use Rattle.h1_client.specs.Parts.{kept_of, FitsIn, MayBeSearched, IsSound, IsSettled, IsSettledAs, Steps}
use Rattle.h1_client.specs.declared.event.ClientEnd.{ClientEnd}
use Rattle.h1_client.specs.declared.connection.parts.Parts.{Parts}

-- ---- whether a head is coming

coming_found : (bytes : List ℕ) (piece : Option HeadScan) → IsFoundIn bytes piece → IsComing (is_some piece) bytes (is_coming_in piece)
coming_found bytes None found = refl
coming_found bytes (Some Open) found = found
coming_found bytes (Some (Piece start end)) found = (start, end, found)

coming_free : (i : Incoming) (free : Bool) → is_some i.piece ≡ free → IsFound i → IsComing free i.unread (is_coming_in i.piece)
coming_free i free is found = subst (λ (b : Bool). IsComing b i.unread (is_coming_in i.piece)) is (coming_found i.unread i.piece found)

-- ---- a step

-- that leaves where heads are searched for
pub quiet_step : (set : Setting) (p q : Parts) (event : on.ClientEvent) (out : on.ClientOutcome)
    → IsClientChange set (kept_of p) event (record { outcome = out; kept = kept_of q }) → IsSound q → Steps set p event out q
quiet_step set p q event out changes sound = record {
  change = record { outcome = out; kept = kept_of q };
  coming = is_coming_in q.input.piece;
  changes = changes;
  answers = refl;
  comes = coming_free q.input (is_free (kept_of q)) sound.searched sound.scanned;
  keeps = refl;
}

-- after which a head is searched for where one may come
pub settled_step : (set : Setting) (p q : Parts) (event : on.ClientEvent) (out : on.ClientOutcome) (k : ClientKept)
    → IsClientChange set (kept_of p) event (record { outcome = out; kept = k }) → IsSettledAs k q → Steps set p event out q
settled_step set p q event out k changes settled =
    let coming = is_coming_in q.input.piece in
    let unread : q.input.unread ≡ k.unread = ap (λ (k : ClientKept). k.unread) settled.kept in
    record {
      change = record { outcome = out; kept = k };
      coming = coming;
      changes = changes;
      answers = refl;
      comes = subst (λ (bytes : List ℕ). IsComing (is_free k) bytes coming) unread (coming_free q.input (is_free k) settled.searched settled.scanned);
      keeps = settled.kept;
    }

-- what is kept of settled parts
pub settled_as : (m q : Parts) (k : ClientKept) (b : Bool) → kept_of m ≡ record k { is_coming = b } → IsSettled m q → IsSettledAs k q
settled_as m q k b same settled =
    let coming = is_coming_in q.input.piece in
    record {
      kept = ap (λ (p : Parts). kept_of p) settled.parts ∙ (λ i. record (kept_of m) { unread = settled.unread i; is_coming = coming })
          ∙ ap (λ (m : ClientKept). record m { is_coming = coming }) same;
      searched = settled.searched ∙ ap (λ (m : ClientKept). is_free m) same;
      scanned = settled.scanned;
    }

-- they are sound
pub settled_sound : (m q : Parts) → m.moment < MAX_MOMENT → m.is_last ≡ is_last (kept_of m) → FitsIn m.reading → IsSettled m q → IsSound q
settled_sound m q moment last fits settled =
    let at_q : IsSound (record m { input = q.input }) = record {
      moment = moment;
      searched = settled.searched;
      scanned = settled.scanned;
      last = last;
      fits = fits;
    } in
    subst (λ (p : Parts). IsSound p) (sym settled.parts) at_q

-- where nothing is found it may be searched
may_of : (m : Parts) → (is_some m.input.piece ≡ true → is_free (kept_of m) ≡ true) → MayBeSearched m
may_of m free = λ busy. nothing m.input.piece free busy
  where
    nothing : (piece : Option HeadScan) → (is_some piece ≡ true → is_free (kept_of m) ≡ true) → is_free (kept_of m) ≡ false → piece ≡ None
    nothing None free busy = refl
    nothing (Some x) free busy = absurd (cc (free refl, busy))

-- so it is with sound parts
pub sound_may : (m : Parts) → IsSound m → MayBeSearched m
sound_may m sound = may_of m (λ found. sym sound.searched ∙ found)

-- and where as much is searched for as before
pub searched_may : (p m : Parts) → IsSound p → is_some m.input.piece ≡ is_some p.input.piece → is_free (kept_of m) ≡ is_free (kept_of p) → MayBeSearched m
searched_may p m sound searched free = may_of m (λ found. free ∙ sym sound.searched ∙ sym searched ∙ found)

-- ---- an end that a fault brings

pub failed_where : (failed : Option ClientEnd) (fails : Bool) (end : ClientEnd)
    → option_map end_of (failing fails end failed) ≡ option_or (option_map end_of failed) (if fails then Some (end_of end) else None)
failed_where None true end = refl
failed_where None false end = refl
failed_where (Some x) true end = refl
failed_where (Some x) false end = refl

pub not_failing : (end : ClientEnd) (failed : Option ClientEnd) → failing false end failed ≡ failed
not_failing end None = refl
not_failing end (Some x) = refl
