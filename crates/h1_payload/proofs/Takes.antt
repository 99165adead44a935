-- What a reader takes, by what its scan tells.
use Rattle.std.proofs.Common.{◌≡◌, ℕ, ◌≤◌, Bool, true, List, ◌++◌, length, refl, ap, ◌∙◌, subst, subst₂}
use Rattle.std.specs.Prelude.{slice_range}
use Rattle.model_h1.specs.TakeNext.{Taken, take_next}
use Rattle.h1_payload.specs.declared.place.Place as declared
use Rattle.h1_payload.specs.declared.pulled.Pulled.TheVariants as pulled
use Rattle.h1_payload.specs.declared.pulled.BodyFault.TheVariants.{Incomplete}
use Rattle.h1_payload.specs.declared.scan.Found.{Found}
use Rattle.h1_payload.specs.declared.scan.Found.TheVariants as found
use Rattle.h1_payload.specs.declared.scan.Scan.{Scan}
use Rattle.h1_payload.specs.Places.{place_of}
use Rattle.h1_payload.specs.Readers.{Reader, HasRoom, IsTaken}
use Rattle.h1_payload.specs.Scans.{next_of, told, IsWithin}
use Rattle.h1_payload.proofs.Rooms.{room_chunk, room_waiting, room_ended}

-- what the scan of a reader tells comes next
pub record IsScanned (old : Reader) (bytes : List ℕ) (s : Scan) (what : Found) : Type 0 where
  pub next : (take_next old.place bytes).next ≡ next_of bytes what
  pub noted : (take_next old.place bytes).trailers ≡ slice_range bytes s.from s.to
  pub within : IsWithin (length bytes) s
  pub found : s.found ≡ what
  pub room : HasRoom old.place old.section

pub scanned : (old inside : Reader) (bytes l : List ℕ) (s : Scan) (what : Found) → inside ≡ old → l ≡ bytes → HasRoom inside.place inside.section
    → take_next inside.place l ≡ told l s → IsWithin (length l) s → s.found ≡ what → IsScanned old bytes s what
scanned old inside bytes l s what view same room tells within is =
    let here : take_next old.place bytes ≡ told bytes s = subst₂ (λ (r : Reader) (b : List ℕ). take_next r.place b ≡ told b s) view same tells in
    record {
      next = ap (λ (t : Taken). t.next) here ∙ ap (next_of bytes) is;
      noted = ap (λ (t : Taken). t.trailers) here;
      within = subst (λ (b : List ℕ). IsWithin (length b) s) same within;
      found = is;
      room = subst (λ (r : Reader). HasRoom r.place r.section) view room;
    }

-- ---- bytes of a chunk

module _ (old : Reader) (bytes : List ℕ) (s : Scan) (at end : ℕ) (p : declared.Place) (x : IsScanned old bytes s (found.Chunk at end p)) where
  pub chunk_room : HasRoom (place_of p) old.section
  chunk_room = room_chunk old.place (place_of p) bytes (slice_range bytes at end) _ old.section x.room x.next

-- ---- nothing yet

module _ (old : Reader) (bytes : List ℕ) (s : Scan) (p : declared.Place) (x : IsScanned old bytes s (found.Waits p)) where
  pub waits_room : HasRoom (place_of p) (old.section ++ slice_range bytes s.from s.to)
  waits_room =
      subst (λ l. HasRoom (place_of p) (old.section ++ l)) x.noted (room_waiting old.place (place_of p) bytes old.section x.room x.next)

  pub waits_incomplete : (is_ended : Bool) → is_ended ≡ true → IsTaken is_ended old bytes (pulled.Broken Incomplete) old bytes
  waits_incomplete is_ended e = (e, (place_of p, x.next), refl, refl)

-- ---- the end

module _ (old : Reader) (bytes : List ℕ) (s : Scan) (at : ℕ) (x : IsScanned old bytes s (found.Ends at)) where
  pub end_short : length (old.section ++ slice_range bytes s.from s.to) ≤ 8192
  end_short = subst (λ l. length (old.section ++ l) ≤ 8192) x.noted (room_ended old.place bytes _ old.section x.room x.next)
