-- What a connection keeps of the bytes that came is bounded.
use Rattle.std.proofs.Common.{◌≡◌, ℕ, ◌≤◌, Bool, true, false, cond, List, [], length, Option, Some, None, sym, ap, ◌∙◌, subst, arith, length-drop}
use Rattle.std.specs.Prelude.{◌+◌, ◌-◌, nat_le, ⊤}
use Rattle.std.proofs.lemmas.Option.{none-some, same_Some}
use Rattle.model_h1.specs.ChunkedText.{MAX_TRAILER_BYTES}
use Rattle.model_h1.specs.Place.{Place, start, after}
use Rattle.model_h1.specs.Reading.{read}
use Rattle.model_h1.proofs.TrailerRoom.{trailers_fit}
use Rattle.model_h1.specs.Request.{BodyKind, no_body, fixed_body, chunked_body, raw_body, Head}
use Rattle.model_h1.specs.Setting.{Setting}
use Rattle.model_h1.specs.Parse.{Message}
use Rattle.model_h1.specs.Sums.{Step, taken, accepted, request, is_complete}
use Rattle.model_h1.specs.Past.{ParsedStep, steps, current, passed}
use Rattle.model_h1.proofs.PastLemmas.{legal_of}
use Rattle.model_h1.proofs.HeldLemmas.{bounded}
use Rattle.model_state.specs.Kept.{Rest, no_rest, raw_rest, fixed_rest, chunks_rest, Exchange, Kept}
use Rattle.model_state.specs.KeptOf.{is_passed, passed_bytes, raw_left, rest_of, exchange_of}
use Rattle.model_state.specs.StandsFor.{StandsFor}

-- ---- the bytes that are held

-- no more are kept than may be held
pub unread_bounded : (setting : Setting) (k : Kept) (trace : List Step) → StandsFor setting k trace → length k.unread ≤ setting.hold_size
unread_bounded setting k trace x =
    let b = bounded setting x.past (legal_of setting trace x.past x.traced x.of_trace) in
    let held = b.held in
    let same = ap (λ (k : Kept). length k.unread) x.parts in
    omega (arith, length-drop (passed x.past) (taken (steps x.past)))

-- ---- a trailer section

-- the section of a rest is within its limit
abbrev IsBounded : Rest → Type 0
IsBounded (chunks_rest place section) = length section ≤ MAX_TRAILER_BYTES
IsBounded rest = ⊤

-- a choice between two such rests is one
bounded_choice : (b : Bool) (x y : Rest) → IsBounded x → IsBounded y → IsBounded (cond b x y)
bounded_choice true x y bounded_x bounded_y = bounded_x
bounded_choice false x y bounded_x bounded_y = bounded_y

-- the lines so far, or none
bounded_lines : (b : Bool) (bytes : List ℕ) → length (cond b [] (read start bytes).trailers) ≤ MAX_TRAILER_BYTES
bounded_lines true bytes = omega arith
bounded_lines false bytes = trailers_fit bytes start

-- what is left of a body, by its kind
bounded_rest : (past : List ParsedStep) (m : Message) (kind : BodyKind) → IsBounded (rest_of past m kind)
bounded_rest past m no_body = tt
bounded_rest past m (fixed_body n) =
    let end = m.body_start + n in
    bounded_choice (nat_le end (passed past)) no_rest (fixed_rest (end - passed past)) tt tt
bounded_rest past m chunked_body =
    let bytes = passed_bytes past m in
    let section = cond (is_complete (steps past)) [] (read start bytes).trailers in
    bounded_choice (is_passed (passed past) m) no_rest (chunks_rest (after start bytes) section) tt (bounded_lines (is_complete (steps past)) bytes)
bounded_rest past m raw_body = bounded_raw (accepted (steps past))
  where
    bounded_raw : (limit : Option ℕ) → IsBounded (raw_left past m limit)
    bounded_raw (Some limit) = tt
    bounded_raw None = bounded_choice (is_passed (passed past) m) no_rest raw_rest tt tt

-- what is left of the last request's
bounded_exchange : (setting : Setting) (past : List ParsedStep) (m : Option Message) (h : Option Head) (x : Exchange)
    → exchange_of setting past m h ≡ Some x → IsBounded x.rest
bounded_exchange setting past (Some m) (Some h) x e =
    subst (λ (x : Exchange). IsBounded x.rest) (same_Some _ x e) (bounded_rest past m h.body)
bounded_exchange setting past (Some m) None x e = absurd (none-some x e)
bounded_exchange setting past None h x e = absurd (none-some x e)

-- no more is kept of a trailer section than may come
pub section_bounded : (setting : Setting) (k : Kept) (trace : List Step) (x : Exchange) (place : Place) (section : List ℕ) → StandsFor setting k trace
    → k.exchange ≡ Some x → x.rest ≡ chunks_rest place section → length section ≤ MAX_TRAILER_BYTES
section_bounded setting k trace x place section s e is =
    let past = s.past in
    let here = sym (ap (λ (k : Kept). k.exchange) s.parts) ∙ e in
    subst IsBounded is (bounded_exchange setting past (current past) (request (steps past)) x here)
