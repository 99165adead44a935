-- Writes, one after another.
use Rattle.std.proofs.Common.{◌≡◌, ◌<◌, ◌≤◌, ℕ, List, ◌++◌, length, take, drop, refl, sym, ap, ◌∙◌, append_assoc, take-append-drop, length-take, arith}
use Rattle.std.specs.Io.KnownBytes.{Appends}
use Rattle.http_config.specs.Causes.{Rose, counted}
use Rattle.std.proofs.KnownBytes.{Appends-nil, Appends-trans}
use Rattle.h1_replay.specs.Output.{Given, Takes, HasTaken, nothing, more, WritesPart}

-- what was taken is what the sink was given besides, and no write failed
pub taken_appended : (before now : Given) (bytes : List ℕ) → HasTaken before now bytes → Appends before.given now.given bytes
taken_appended before _ _ nothing = Appends-nil before.given
taken_appended before _ _ (more mid now front piece taken takes some) =
    Appends-trans before.given mid.given now.given front piece (taken_appended before mid front taken) takes.written

pub taken_quiet : (before now : Given) (bytes : List ℕ) → HasTaken before now bytes → now.faults ≡ before.faults
taken_quiet before _ _ nothing = refl
taken_quiet before _ _ (more mid now front piece taken takes some) = takes.faults ∙ taken_quiet before mid front taken

pub part_fault : (before now : Given) (text : List ℕ) → WritesPart before now text → now.faults ≡ counted before.faults
part_fault before now text part = part.last.faults ∙ ap counted (taken_quiet before part.mid part.front part.taken)

pub part_rose : (before now : Given) (text : List ℕ) → WritesPart before now text → Rose before.faults now.faults
part_rose before now text part = omega (arith, part_fault before now text part)

-- one write more: what was written of the text, with the front of its rest
pub writes_more : (before mid now : Given) (text rest : List ℕ) (n : ℕ)
    → (front : List ℕ) × (text ≡ front ++ rest) × HasTaken before mid front
    → 0 < n → n ≤ length rest → Takes mid now (take n rest)
    → (front : List ℕ) × (text ≡ front ++ drop n rest) × HasTaken before now front
writes_more before mid now text rest n (front, is, taken) some within takes = (
  front ++ take n rest,
  is ∙ ap (λ l. front ++ l) (sym (take-append-drop n rest)) ∙ sym (append_assoc front (take n rest) (drop n rest)),
  more mid now front (take n rest) taken takes (rw (length-take n rest) (omega arith)),
)
