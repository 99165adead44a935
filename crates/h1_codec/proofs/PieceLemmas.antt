-- The piece that a decoder of bodies gives.
use Rattle.std.proofs.Common.{◌≡◌, ℕ, ◌<◌, Bool, true, false, List, [], ◌++◌, length, refl, sym, ◌∙◌, subst, append-nil}
use Rattle.std.specs.Prelude.{Option, Some, None, Result, Ok, IfOk, ⊤}
use Rattle.http_framing.specs.AnyPieces.{GoesOn, in_front}
use Rattle.http_map.specs.HeaderMap.{Entries}
use Rattle.model_h1.specs.Reading.{ends_before}
use Rattle.model_state.specs.Kept.{Rest, no_rest}
use Rattle.model_state.specs.Pull as pulls
use Rattle.model_h1.specs.Event.{Outcome}
use Rattle.h1_payload.specs.Decoding.{Decoding, no_payload, Reads, ReadsBy, given, HasSome, item_of, IsDecoded, IsDecodedBy}
use Rattle.h1_payload.specs.Answers.{is_fault}
use Rattle.h1_payload.specs.Rests.{IsPulled}
use Rattle.h1_payload.specs.declared.item.DecodeError.{DecodeError}
use Rattle.h1_payload.specs.declared.item.PayloadItem.{PayloadItem}
use Rattle.h1_payload.specs.declared.item.PayloadItem.TheVariants as items
use Rattle.h1_payload.specs.declared.pulled.Pulled.{Pulled}
use Rattle.h1_payload.specs.declared.pulled.Pulled.TheVariants as pulled
use Rattle.h1_codec.specs.ServerPieces.{IsEnd}
use Rattle.h1_codec.proofs.Ends.{LeavesNone, an_end_leaves_none}

-- the item is an end, or the trailers in front of one
abbrev pub IsLast : PayloadItem → Type 0
IsLast (items.Chunk bytes) = ⊥
IsLast item = ⊤

-- where nothing is left and no rule is broken, the body has ended
abbrev IsSpent : Decoding → Type 0
IsSpent d = (d.rest ≡ no_rest) × (d.is_broken ≡ false)

spent_by : (item : PayloadItem) → IsLast item → (p : pulls.Pulled) (answer : Pulled) (new : Decoding) (rest : List ℕ)
    → LeavesNone p.outcome p.rest → IsPulled p answer new.rest rest → Ok (Some item) ≡ item_of answer → new.is_broken ≡ false → IsSpent new
spent_by item last p (pulled.Bytes b) new rest leaves x is sound =
    let named : item ≡ items.Chunk b = cc in absurd (subst IsLast named last)
spent_by item last p (pulled.Trailers entries) new rest leaves x is sound =
    (x.rest_is ∙ subst (λ (o : Outcome). LeavesNone o p.rest) x.outcome.1 leaves, sound)
spent_by item last p pulled.End new rest leaves x is sound =
    (x.rest_is ∙ subst (λ (o : Outcome). LeavesNone o p.rest) x.outcome leaves, sound)
spent_by item last p (pulled.Broken fault) new rest leaves x is sound = absurd (cc)
spent_by item last p pulled.Pending new rest leaves x is sound = absurd (cc)

fault_free : (item : PayloadItem) (answer : Pulled) (b : Bool) → Ok (Some item) ≡ item_of answer → b ≡ is_fault answer → b ≡ false
fault_free item (pulled.Bytes bytes) b is named = named
fault_free item (pulled.Trailers entries) b is named = named
fault_free item pulled.End b is named = named
fault_free item (pulled.Broken fault) b is named = absurd (cc)
fault_free item pulled.Pending b is named = absurd (cc)

decoded_spent : (broken : Bool) (old : Decoding) (bytes : List ℕ) (item : PayloadItem) (new : Decoding) (rest : List ℕ) → IsLast item
    → IsDecodedBy broken old bytes (Ok (Some item)) new rest → IsSpent new
decoded_spent true old bytes item new rest last x = absurd (cc x.0)
decoded_spent false old bytes item new rest last (p, answer, pull, is_pulled, is, fault) =
    spent_by item last p answer new rest (an_end_leaves_none old.rest bytes p pull) is_pulled is (fault_free item answer new.is_broken is fault)

-- bytes say to it that the body has ended in front of them
spent_reads : (d : Decoding) (bytes : List ℕ) → IsSpent d → Reads d bytes (no_payload (ends_before bytes))
spent_reads d bytes (empty, sound) =
    let here : ReadsBy false no_rest bytes (no_payload (ends_before bytes)) = record {
      body = refl;
      ending = refl;
      trailers = record { lines = []; valid = tt; spelled = refl; entries_are = refl };
    } in
    let there : ReadsBy false d.rest bytes (no_payload (ends_before bytes)) =
    subst (λ (r : Rest). ReadsBy false r bytes (no_payload (ends_before bytes))) (sym empty) here in
    subst (λ (b : Bool). ReadsBy b d.rest bytes (no_payload (ends_before bytes))) (sym sound) there

module _ (old : Decoding) (bytes : List ℕ) (new : Decoding) (rest : List ℕ) where
  -- the body's end
  pub ended_by_end : IsDecoded old bytes (Ok (Some items.Eof)) new rest → GoesOn Reads given old bytes (λ p. p) new rest → IsEnd old bytes rest None
  ended_by_end decoded goes_on = record {
    reads = λ z. goes_on z (no_payload (ends_before (rest ++ z))) (spent_reads new (rest ++ z) (decoded_spent old.is_broken old bytes items.Eof new rest tt decoded));
    some = tt;
  }

  -- the trailers, in front of it
  pub ended_by_trailers : (entries : Entries) → IsDecoded old bytes (Ok (Some (items.Trailers entries))) new rest
      → GoesOn Reads given old bytes (λ p. record p { trailers = entries ++ p.trailers }) new rest → 0 < length entries → IsEnd old bytes rest (Some entries)
  ended_by_trailers entries decoded goes_on some = record {
    reads = λ z. subst (λ (l : Entries). Reads old (bytes ++ z) (record { body = []; trailers = l; ending = ends_before (rest ++ z) })) (append-nil entries)
        (goes_on z (no_payload (ends_before (rest ++ z)))
        (spent_reads new (rest ++ z) (decoded_spent old.is_broken old bytes (items.Trailers entries) new rest tt decoded)));
    some = some;
  }

  -- the same of an answer that is one of these
  pub end_answered : (result : Result (Option PayloadItem) DecodeError) → result ≡ Ok (Some items.Eof) → IsDecoded old bytes result new rest
      → IfOk result (λ answer. GoesOn Reads given old bytes (in_front Reads given answer) new rest) → IsEnd old bytes rest None
  end_answered result is decoded goes_on =
      ended_by_end (subst (λ (r : Result (Option PayloadItem) DecodeError). IsDecoded old bytes r new rest) is decoded)
      (subst (λ (r : Result (Option PayloadItem) DecodeError). IfOk r (λ answer. GoesOn Reads given old bytes (in_front Reads given answer) new rest)) is goes_on)

  pub trailers_answered : (entries : Entries) (result : Result (Option PayloadItem) DecodeError) → result ≡ Ok (Some (items.Trailers entries))
      → IsDecoded old bytes result new rest → IfOk result (λ answer. GoesOn Reads given old bytes (in_front Reads given answer) new rest) → IfOk result HasSome
      → IsEnd old bytes rest (Some entries)
  trailers_answered entries result is decoded goes_on some =
      ended_by_trailers entries (subst (λ (r : Result (Option PayloadItem) DecodeError). IsDecoded old bytes r new rest) is decoded)
      (subst (λ (r : Result (Option PayloadItem) DecodeError). IfOk r (λ answer. GoesOn Reads given old bytes (in_front Reads given answer) new rest)) is goes_on)
      (subst (λ (r : Result (Option PayloadItem) DecodeError). IfOk r HasSome) is some)
