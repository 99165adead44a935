-- The bits of the marks that were seen, and what holds of few names.
use Rattle.std.proofs.Common.{◌≡◌, ℕ, ◌%◌, Bool, true, false, List, [], ◌∷◌, bytes_eq, refl, sym, subst, arith}
use Rattle.std.specs.Prelude.{Result, Ok, Err, OnOk, OnErr}
use Rattle.std.specs.Int.{bit_at}
use Rattle.std.specs.List.{IsDistinct}
use Rattle.indexmap.specs.Layout.{set_value_at}
use Rattle.http_header.specs.FieldValue.{FieldValue}
use Rattle.http_map.specs.HeaderMap.{Entries, keys, insert, append, remove}
use Rattle.http_map.specs.Lines.{IsSeen, Lacks, name_mark}
use Rattle.http_map.specs.Names.{IsFew}
use Rattle.http_map.specs.Retain.{Retains}
use Rattle.http_map.proofs.CallerLemmas.{same_bytes}
use Rattle.http_map.proofs.DistinctLemmas.{all-append, all-insert, all-remove, all-Retains, keys-set_value_at, IsDistinct-none, IsDistinct-append, IsDistinct-insert, IsDistinct-remove, IsDistinct-Retains}

-- a name whose mark was never seen isn't there
pub lacks-unseen : (bits : ℕ) (name : List ℕ) (m : Entries) → IsSeen bits (keys m) → bit_at bits (name_mark name % 64) ≡ 0 → Lacks m name
lacks-unseen bits name [] seen unseen = tt
lacks-unseen bits name (e ∷ m) seen unseen = (
  (elim (bytes_eq name e.0) as (λ b. bytes_eq name e.0 ≡ b → b ≡ false) [
    | true ↦ (λ same. let one : bit_at bits (name_mark name % 64) ≡ 1 = subst (λ n. bit_at bits (name_mark n % 64) ≡ 1) (sym (same_bytes name e.0 same)) seen.0 in absurd (omega (arith, one, unseen)))
    | false ↦ (λ other. refl)
  ]) refl,
  lacks-unseen bits name m seen.1 unseen,
)

-- bits that are set stay so when others are
pub IsSeen-more : (bits more : ℕ) → ((k : ℕ) → bit_at bits k ≡ 1 → bit_at more k ≡ 1) → (names : List (List ℕ)) → IsSeen bits names → IsSeen more names
IsSeen-more bits more kept [] seen = tt
IsSeen-more bits more kept (name ∷ names) seen = (kept (name_mark name % 64) seen.0, IsSeen-more bits more kept names seen.1)

pub IsFew-none : (bits : ℕ) → IsFew bits []
IsFew-none bits = record { distinct = IsDistinct-none; seen = tt }

module _ (bits : ℕ) (name : List ℕ) (named : bit_at bits (name_mark name % 64) ≡ 1) (value : FieldValue) where
  pub IsFew-append : (m : Entries) → IsFew bits m → IsFew bits (append m name value)
  IsFew-append m few = record { distinct = IsDistinct-append name value m few.distinct; seen = all-append (λ n. bit_at bits (name_mark n % 64) ≡ 1) name value m named few.seen }

  pub IsFew-insert : (m : Entries) → IsFew bits m → IsFew bits (insert m name value)
  IsFew-insert m few = record { distinct = IsDistinct-insert name value m few.distinct; seen = all-insert (λ n. bit_at bits (name_mark n % 64) ≡ 1) name value m named few.seen }

pub IsFew-more : (bits more : ℕ) → ((k : ℕ) → bit_at bits k ≡ 1 → bit_at more k ≡ 1) → (m : Entries) → IsFew bits m → IsFew more m
IsFew-more bits more kept m few = record { distinct = few.distinct; seen = IsSeen-more bits more kept (keys m) few.seen }

pub IsFew-remove : (bits : ℕ) (name : List ℕ) (m : Entries) → IsFew bits m → IsFew bits (remove m name)
IsFew-remove bits name m few = record { distinct = IsDistinct-remove name m few.distinct; seen = all-remove (λ n. bit_at bits (name_mark n % 64) ≡ 1) name m few.seen }

pub IsFew-Retains : (bits : ℕ) (answers : List ℕ → FieldValue → Bool → Type 0) (m kept : Entries) → Retains answers m kept → IsFew bits m → IsFew bits kept
IsFew-Retains bits answers m kept h few = record {
  distinct = IsDistinct-Retains answers m kept h few.distinct;
  seen = all-Retains (λ n. bit_at bits (name_mark n % 64) ≡ 1) answers m kept h few.seen;
}

-- other values leave the names
pub IsFew-set_value_at : (bits : ℕ) (m : Entries) (i : ℕ) (w : List FieldValue) → IsFew bits m → IsFew bits (set_value_at m i w)
IsFew-set_value_at bits m i w few = record {
  distinct = subst (IsDistinct bytes_eq) (sym (keys-set_value_at m i w)) few.distinct;
  seen = subst (IsSeen bits) (sym (keys-set_value_at m i w)) few.seen;
}

-- an edit that may want memory, and then changes nothing
pub IsFew-after : {A E : Type 0} (bits : ℕ) (r : Result A E) (edited old new : Entries) → OnOk r (new ≡ edited) → OnErr r (new ≡ old) → IsFew bits edited → IsFew bits old → IsFew bits new
IsFew-after bits (Ok x) edited old new ok err after before = rw ok after
IsFew-after bits (Err e) edited old new ok err after before = rw err before
