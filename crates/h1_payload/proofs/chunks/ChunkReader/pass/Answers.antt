use Rattle.std.proofs.Common.{ℕ, List, refl, sym, ap, subst, subst₂}
use Rattle.h1_payload.specs.Passing.{IsAllPassed}
use Rattle.h1_payload.specs.Places.{place_of}
use Rattle.h1_payload.specs.Readers.{Reader, HasRoom, IsPassedBy}
use Rattle.h1_payload.proofs.PassLemmas.{passed_room, passed_end, passed_on, not_done}
use Rattle.h1_payload.proofs.chunks.ChunkReader.pass.Goals as goal

pub invariant_of-self : goal.invariant_of-self
invariant_of-self c =
    let q = c.pass_body-at.result.1 in
    subst (HasRoom (place_of q)) (sym c.new.ensures)
    (passed_room (place_of c.self.inside.place) c.self.inside.section c.as_slice.result.now c.pass_body-at.result.0 (place_of q) c.self.invariant
    c.pass_body-at.ensures (not_done q c.in_default.not-Done))

pub returns-in-Done-clause-passed : goal.returns-in-Done-clause-passed
returns-in-Done-clause-passed c =
    let at = c.pass_body-at.result.0 in
    let p = place_of c.pass_body-at.result.1 in
    let old = c.args.self.now in
    let bytes = c.args.unread.now.items in
    let way : IsAllPassed old.place bytes at p =
    subst₂ (λ (r : Reader) (b : List ℕ). IsAllPassed r.place b at p) c.self.view_is c.as_slice.ensures c.pass_body-at.ensures in
    subst (IsPassedBy old bytes) (sym c.advance.ensures.items) (passed_end old bytes at p (ap place_of c.in-Done.is) way)

pub returns-in_default-clause-goes_on : goal.returns-in_default-clause-goes_on
returns-in_default-clause-goes_on c =
    let at = c.pass_body-at.result.0 in
    let q = c.pass_body-at.result.1 in
    let old = c.args.self.now in
    let bytes = c.args.unread.now.items in
    let way : IsAllPassed old.place bytes at (place_of q) =
    subst₂ (λ (r : Reader) (b : List ℕ). IsAllPassed r.place b at (place_of q)) c.self.view_is c.as_slice.ensures c.pass_body-at.ensures in
    passed_on old (record { place = place_of q; section = c.new.result }) bytes c.clear.new.self.items at (place_of q)
    (not_done q c.in_default.not-Done) way refl c.new.ensures c.clear.ensures.items
