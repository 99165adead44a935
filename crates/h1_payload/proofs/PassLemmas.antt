-- Passing over a body leads where its bytes lead.
use Rattle.std.proofs.Common.{◌≡◌, ℕ, suc, ◌+◌, ◌-◌, ◌<◌, ◌≤◌, List, [], ◌++◌, length, get_or, take, drop, refl, sym, ap, ◌∙◌, subst, inl, inr, arith, add-one, append-nil, length-drop, length-take, take-append-drop}
use Rattle.std.specs.Prelude.{◌⊎◌}
use Rattle.std.proofs.Math.Seq.{drop-cons, drop-length}
use Rattle.std.proofs.lemmas.List.{drop-drop}
use Rattle.model_h1.specs.Place.{Place, in_bytes, bytes_end, done, broken, step, after}
use Rattle.model_h1.specs.Reading.{Reading, at_end, read}
use Rattle.model_h1.proofs.ReadSteps.{HasNext, read-nil, read_done, read_broken, ending-cons}
use Rattle.model_h1.proofs.ReadAfter.{after-nil, after-cons, after-append, after-broken, read-append}
use Rattle.model_h1.proofs.TakenPlaces.{after_all, after_some}
use Rattle.h1_payload.specs.declared.place.Place as declared
use Rattle.h1_payload.specs.declared.place.Place.TheVariants as place
use Rattle.h1_payload.specs.Passing.{LeadsTo, IsAllPassed}
use Rattle.h1_payload.specs.Places.{place_of}
use Rattle.h1_payload.specs.Readers.{Reader, HasRoom, IsPassedBy, IsNotPassedBy}
use Rattle.h1_payload.proofs.Rooms.{room_dropped}

-- one byte
pub one_leads : (p : Place) (bytes : List ℕ) (at : ℕ) → at < length bytes → HasNext p → LeadsTo p bytes at (at + 1) (step p (get_or bytes at 0))
one_leads p bytes at below next =
    let b = get_or bytes at 0 in
    let rest = drop (suc at) bytes in
    let there = drop-cons bytes at 0 below in
    let past : suc at ≡ at + 1 = sym (add-one at) in
    record {
      some = omega arith;
      within = omega arith;
      ending =
          ap (λ l. (read p l).ending) there ∙ ending-cons p b rest next ∙ ap (λ n. (read (step p b) (drop n bytes)).ending) past;
      leads = ap (after p) there ∙ after-cons p b rest ∙ ap (λ n. after (step p b) (drop n bytes)) past;
    }

-- a front that breaks nothing
front_leads : (p next : Place) (bytes front : List ℕ) (at next_at : ℕ) → at < next_at → next_at ≤ length bytes → drop at bytes ≡ front ++ drop next_at bytes
    → after p front ≡ next → (next ≡ broken → ⊥) → LeadsTo p bytes at next_at next
front_leads p next bytes front at next_at some within parts to goes =
    let rest = drop next_at bytes in
    record {
      some = some;
      within = within;
      ending =
          ap (λ l. (read p l).ending) parts
          ∙ ap (λ (r : Reading). r.ending) (read-append p front rest (λ e. goes (sym to ∙ e)))
          ∙ ap (λ q. (read q rest).ending) to;
      leads = ap (after p) parts ∙ after-append p front rest ∙ ap (λ q. after q rest) to;
    }

-- all bytes of a chunk
pub chunk_leads : (more : ℕ) (bytes : List ℕ) (at end : ℕ) → more + at < length bytes → end ≡ at + more + 1
    → LeadsTo (in_bytes more) bytes at end bytes_end
chunk_leads more bytes at end fits is =
    let l = drop at bytes in
    let len : length l ≡ length bytes - at = length-drop at bytes in
    let front = take (more + 1) l in
    let sized : length front ≡ more + 1 = omega (arith, length-take (more + 1) l) in
    let to : at + (more + 1) ≡ end = omega arith in
    let parts : l ≡ front ++ drop end bytes =
    sym (take-append-drop (more + 1) l) ∙ ap (λ r. front ++ r) (drop-drop (more + 1) at bytes ∙ ap (λ n. drop n bytes) to) in
    front_leads (in_bytes more) bytes_end bytes front at end (omega arith) (omega arith) parts (after_all front more sized) (λ e. cc)

-- some of them
pub part_leads : (more : ℕ) (bytes : List ℕ) (at left : ℕ) → length bytes ≤ more + at → at < length bytes → left ≡ more - (length bytes - at)
    → LeadsTo (in_bytes more) bytes at (length bytes) (in_bytes left)
part_leads more bytes at left past some is =
    let l = drop at bytes in
    let len : length l ≡ length bytes - at = length-drop at bytes in
    let to : more - length l ≡ left = omega arith in
    let none : l ≡ l ++ drop (length bytes) bytes = sym (append_none l (drop (length bytes) bytes) (drop-length bytes)) in
    front_leads (in_bytes more) (in_bytes left) bytes l at (length bytes) some (omega arith) none
    (after_some l more (omega arith) ∙ ap in_bytes to) (λ e. cc)
  where
    append_none : (xs ys : List ℕ) → ys ≡ [] → xs ++ ys ≡ xs
    append_none xs ys e = ap (λ l. xs ++ l) e ∙ append-nil xs

-- ---- the whole way

-- up to the end of the bytes
pub way_all : (start p : Place) (bytes : List ℕ) (at : ℕ)
    → (at ≤ length bytes) × ((read start bytes).ending ≡ (read p (drop at bytes)).ending) × (after start bytes ≡ after p (drop at bytes))
    → length bytes ≤ at → IsAllPassed start bytes at p
way_all start p bytes at way past =
    let whole : at ≡ length bytes = omega (arith, way.0) in
    let none : drop at bytes ≡ [] = ap (λ n. drop n bytes) whole ∙ drop-length bytes in
    record {
      within = way.0;
      ending = way.1;
      all = inr (sym (way.2 ∙ ap (after p) none ∙ after-nil p), ap (read p) none);
    }

-- up to where it stops
pub way_stops : (start p : Place) (bytes : List ℕ) (at : ℕ)
    → (at ≤ length bytes) × ((read start bytes).ending ≡ (read p (drop at bytes)).ending) × (after start bytes ≡ after p (drop at bytes))
    → (p ≡ done) ⊎ (p ≡ broken) → IsAllPassed start bytes at p
way_stops start p bytes at way (inl e) = record { within = way.0; ending = way.1; all = inl e }
way_stops start p bytes at way (inr e) =
    let rest = drop at bytes in
    record {
      within = way.0;
      ending = way.1;
      all = inr (
        e ∙ sym (way.2 ∙ ap (λ q. after q rest) e ∙ after-broken rest),
        ap (λ q. read q rest) e ∙ read_broken rest ∙ sym (ap (λ q. read q []) e ∙ read_broken []),
      );
    }

-- ---- what a reader says of it

-- the end was passed
pub passed_end : (old : Reader) (bytes : List ℕ) (at : ℕ) (p : Place) → p ≡ done → IsAllPassed old.place bytes at p → IsPassedBy old bytes (drop at bytes)
passed_end old bytes at p e way =
    way.ending ∙ ap (λ q. (read q (drop at bytes)).ending) e ∙ ap (λ (r : Reading). r.ending) (read_done (drop at bytes))

-- it wasn't
pub passed_on : (old new : Reader) (bytes rest : List ℕ) (at : ℕ) (p : Place) → (p ≡ done → ⊥) → IsAllPassed old.place bytes at p → new.place ≡ p
    → new.section ≡ [] → rest ≡ [] → IsNotPassedBy old bytes new rest
passed_on old new bytes rest at p other way at_p none all = by_way way.all
  where
    by_way : (p ≡ done) ⊎ ((p ≡ after old.place bytes) × (read p (drop at bytes) ≡ read p [])) → IsNotPassedBy old bytes new rest
    by_way (inl e) = absurd (other e)
    by_way (inr x) = record {
      place = at_p ∙ x.0;
      section = none;
      all = all;
      ending =
          way.ending
          ∙ ap (λ (r : Reading). r.ending) x.1
          ∙ ap (λ (r : Reading). r.ending) (read-nil p)
          ∙ ap at_end (sym at_p);
      goes_on = λ e. other (sym at_p ∙ e);
    }

-- places of the code that aren't behind the body
pub not_done : (q : declared.Place) → (q ≡ place.Done → ⊥) → place_of q ≡ done → ⊥
not_done place.Done other e = other refl
not_done q other e = cc

-- behind what was passed the text that is dropped has room
pub passed_room : (start : Place) (section bytes : List ℕ) (at : ℕ) (p : Place) → HasRoom start section → IsAllPassed start bytes at p → (p ≡ done → ⊥)
    → HasRoom p []
passed_room start section bytes at p room way other = by_way way.all
  where
    by_way : (p ≡ done) ⊎ ((p ≡ after start bytes) × (read p (drop at bytes) ≡ read p [])) → HasRoom p []
    by_way (inl e) = absurd (other e)
    by_way (inr x) = subst (λ q. HasRoom q []) (sym x.0) (room_dropped start bytes section room)
