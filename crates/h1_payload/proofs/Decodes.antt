-- A decoder's answer, by what was pulled.
use Rattle.std.proofs.Common.{◌≡◌, ℕ, Bool, false, List, ◌++◌, refl, sym, ap, ◌∙◌, subst, subst₂, ◌<◌, length}
use Rattle.std.specs.Prelude.{Option, Some, None, Result, Ok, Err, IfOk}
use Rattle.http_map.specs.HeaderMap.{Entries}
use Rattle.model_h1.specs.Event.{Outcome}
use Rattle.model_state.specs.Kept.{Rest}
use Rattle.model_state.specs.Pull as pulls
use Rattle.model_state.specs.Pull.{IsPull}
use Rattle.http_framing.specs.AnyPieces.{GoesOn, in_front}
use Rattle.h1_payload.specs.Answers.{is_fault}
use Rattle.h1_payload.specs.Fitting.{Fits, GivesSome}
use Rattle.h1_payload.specs.Rests.{IsPulled}
use Rattle.h1_payload.specs.Decoding.{Decoding, Payload, reading_of, IsReadAs, Reads, ReadsBy, given, item_of, HasSome, IsDecodedBy, IsDecoded, IsWaiting, IsRefused}
use Rattle.h1_payload.specs.declared.item.DecodeError.{DecodeError}
use Rattle.h1_payload.specs.declared.item.DecodeError.TheVariants.{Invalid}
use Rattle.h1_payload.specs.declared.item.PayloadItem.{PayloadItem}
use Rattle.h1_payload.specs.declared.item.PayloadItem.TheVariants as items
use Rattle.h1_payload.specs.declared.pulled.Pulled.{Pulled}
use Rattle.h1_payload.specs.declared.pulled.Pulled.TheVariants as pulled
use Rattle.h1_payload.proofs.Fitting.{a_pull, still_fits}
use Rattle.h1_payload.proofs.Gives.{pull_gives_some, map_some}
use Rattle.h1_payload.proofs.GoingOn.{front_of, pull_goes_on}
use Rattle.h1_payload.proofs.Stopping.{IsFault, IsPending, fault_is_broken, fault_leaves, pending_waits}

-- the decoder behind an answer
abbrev pub behind : Rest → Pulled → Decoding
behind left answer = record { rest = left; is_broken = is_fault answer }

module _ (old : Decoding) (bytes rest : List ℕ) (left : Rest) (p : pulls.Pulled) (whole : old.is_broken ≡ false) (fits : Fits old.rest)
    (pull : IsPull false old.rest bytes p) where
  -- what is left fits
  pub left_fits : left ≡ p.rest → Fits left
  left_fits e = subst Fits (sym e) (still_fits false old.rest bytes p fits pull)

  -- the exact answer
  decoded_by : (answer : Pulled) → IsPulled p answer left rest → IsDecodedBy false old bytes (item_of answer) (behind left answer) rest
  decoded_by (pulled.Bytes given) x = (p, pulled.Bytes given, pull, x, refl, refl)
  decoded_by (pulled.Trailers entries) x = (p, pulled.Trailers entries, pull, x, refl, refl)
  decoded_by pulled.End x = (p, pulled.End, pull, x, refl, refl)
  decoded_by (pulled.Broken fault) x = (p, pulled.Broken fault, pull, x, refl, refl)
  decoded_by pulled.Pending x = (p, pulled.Pending, pull, x, refl, refl)

  pub is_decoded : (answer : Pulled) → IsPulled p answer left rest → IsDecoded old bytes (item_of answer) (behind left answer) rest
  is_decoded answer x = subst (λ b. IsDecodedBy b old bytes (item_of answer) (behind left answer) rest) (sym whole) (decoded_by answer x)

  -- what is read behind it, with the outcome in front
  in_old : (answer : Pulled) → IsPulled p answer left rest → is_fault answer ≡ false → (front : Payload → Payload)
      → ((q : Payload) → front_of p.outcome q ≡ front q) → GoesOn Reads given old bytes front (behind left answer) rest
  in_old answer x sound front same z q y =
      let open_now : IsReadAs (reading_of left (rest ++ z)) q = subst (λ b. ReadsBy b left (rest ++ z) q) sound y in
      let there : IsReadAs (reading_of p.rest (p.unread ++ z)) q =
      subst₂ (λ r (u : List ℕ). IsReadAs (reading_of r (u ++ z)) q) x.rest_is x.unread_is open_now in
      subst₂ (λ b t. ReadsBy b old.rest (bytes ++ z) t) (sym whole) (same q) (pull_goes_on old.rest bytes p fits pull z q there)

  pub goes_on : (answer : Pulled) → IsPulled p answer left rest
      → IfOk (item_of answer) (λ a. GoesOn Reads given old bytes (in_front Reads given a) (behind left answer) rest)
  goes_on (pulled.Bytes b) x =
      in_old (pulled.Bytes b) x refl (in_front Reads given (Some (items.Chunk b))) (λ q. ap (λ (o : Outcome). front_of o q) x.outcome)
  goes_on (pulled.Trailers entries) x =
      in_old (pulled.Trailers entries) x refl (in_front Reads given (Some (items.Trailers entries)))
      (λ q. ap (λ (o : Outcome). front_of o q) x.outcome.1 ∙ ap (λ (l : Entries). record q { trailers = l ++ q.trailers }) (sym x.outcome.2))
  goes_on pulled.End x =
      in_old pulled.End x refl (in_front Reads given (Some items.Eof)) (λ q. ap (λ (o : Outcome). front_of o q) x.outcome)
  goes_on (pulled.Broken fault) x = tt
  goes_on pulled.Pending x = in_old pulled.Pending x refl (in_front Reads given None) (λ q. ap (λ (o : Outcome). front_of o q) x.outcome)

  -- it is some
  pub gives : (answer : Pulled) → IsPulled p answer left rest → IfOk (item_of answer) HasSome
  gives (pulled.Bytes b) x = subst GivesSome x.outcome (pull_gives_some false old.rest bytes p fits pull)
  gives (pulled.Trailers entries) x =
      let some : 0 < length x.outcome.0 = subst GivesSome x.outcome.1 (pull_gives_some false old.rest bytes p fits pull) in
      subst (λ (l : Entries). 0 < length l) (sym x.outcome.2) (map_some x.outcome.0 some)
  gives pulled.End x = tt
  gives (pulled.Broken fault) x = tt
  gives pulled.Pending x = tt

  -- nothing yet
  pub waits : (answer : Pulled) → IsPulled p answer left rest → item_of answer ≡ Ok None → IsWaiting old bytes
  waits (pulled.Bytes b) x e = cc
  waits (pulled.Trailers entries) x e = cc
  waits pulled.End x e = cc
  waits (pulled.Broken fault) x e = cc
  waits pulled.Pending x e = λ q y.
      pending_waits old.rest bytes p fits pull (subst IsPending (sym x.outcome) tt) q (subst (λ b. ReadsBy b old.rest bytes q) whole y)

  -- a fault
  pub refused : (answer : Pulled) → IsPulled p answer left rest → item_of answer ≡ Err Invalid → IsRefused old bytes × (rest ≡ bytes)
  refused (pulled.Bytes b) x e = cc
  refused (pulled.Trailers entries) x e = cc
  refused pulled.End x e = cc
  refused (pulled.Broken fault) x e =
      let broken : IsFault p.outcome = subst IsFault (sym x.outcome) tt in (
        λ z q y. fault_is_broken old.rest bytes p fits pull broken z q (subst (λ b. ReadsBy b old.rest (bytes ++ z) q) whole y),
        x.unread_is ∙ fault_leaves old.rest bytes p fits pull broken,
      )
  refused pulled.Pending x e = cc

-- all that is promised of an answer
pub record Answered (old : Decoding) (bytes : List ℕ) (result : Result (Option PayloadItem) DecodeError) (new : Decoding) (rest : List ℕ) : Type 0 where
  pub still_fit : Fits new.rest
  pub decoded : IsDecoded old bytes result new rest
  pub on : IfOk result (λ a. GoesOn Reads given old bytes (in_front Reads given a) new rest)
  pub some : IfOk result HasSome
  pub waiting : result ≡ Ok None → IsWaiting old bytes
  pub refusing : result ≡ Err Invalid → IsRefused old bytes × (rest ≡ bytes)

pub answered : (old inside : Decoding) (bytes rest : List ℕ) (left : Rest) (answer : Pulled) (result : Result (Option PayloadItem) DecodeError) (fault : Bool)
    → inside ≡ old → Fits inside.rest → inside.is_broken ≡ false
    → ((p : pulls.Pulled) → IsPull false inside.rest bytes p → IsPulled p answer left rest) → result ≡ item_of answer → fault ≡ is_fault answer
    → Answered old bytes result (record { rest = left; is_broken = fault }) rest
answered old inside bytes rest left answer result fault view fits whole pulled is wrong =
    let found = a_pull false inside.rest bytes fits in
    let x = pulled found.0 found.1 in
    let here : Answered inside bytes (item_of answer) (behind left answer) rest = record {
      still_fit = left_fits inside bytes rest left found.0 whole fits found.1 x.rest_is;
      decoded = is_decoded inside bytes rest left found.0 whole fits found.1 answer x;
      on = goes_on inside bytes rest left found.0 whole fits found.1 answer x;
      some = gives inside bytes rest left found.0 whole fits found.1 answer x;
      waiting = waits inside bytes rest left found.0 whole fits found.1 answer x;
      refusing = refused inside bytes rest left found.0 whole fits found.1 answer x;
    } in
    let named : Answered inside bytes result (record { rest = left; is_broken = fault }) rest =
    subst₂ (λ r b. Answered inside bytes r (record { rest = left; is_broken = b }) rest) (sym is) (sym wrong) here in
    subst (λ d. Answered d bytes result (record { rest = left; is_broken = fault }) rest) view named
