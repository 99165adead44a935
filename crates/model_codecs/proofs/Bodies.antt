-- What the decoder of an open body answers, where the body was sent whole.
use Rattle.std.proofs.Common.{◌≡◌, ℕ, ◌<◌, Bool, true, false, List, [], ◌∷◌, ◌++◌, length, refl, sym, ap, ◌∙◌, subst, subst₂, arith, append-nil, length-append}
use Rattle.std.specs.Prelude.{Option, Some, None, Result, Ok, Err, nat_lt}
use Rattle.std.proofs.lemmas.Bool.{cond_both}
use Rattle.model_h1.specs.Place.{Place, in_size, in_blanks, in_extension, size_cr, in_bytes, bytes_end, bytes_cr, in_section, end_cr, done, broken, step}
use Rattle.model_h1.specs.Reading.{Reading, ends_before, at_end, read}
use Rattle.model_h1.specs.TakeNext.{Next, Taken, chunk, waits, ended, breaks, noted_line, stops_at, of_chunk, take_next, says}
use Rattle.model_h1.proofs.TakenReads.{taken_is_read}
use Rattle.model_h1.specs.Event.{Outcome}
use Rattle.model_h1.specs.Event as on
use Rattle.model_state.specs.Kept.{Rest, no_rest, raw_rest, fixed_rest, chunks_rest, frames_rest}
use Rattle.model_state.specs.Pull as pulls
use Rattle.model_state.specs.Pull.{EndsWith, IsPullOfChunks, IsPull}
use Rattle.h1_payload.specs.Answers.{is_fault}
use Rattle.h1_payload.specs.Decoding.{Decoding, item_of, IsDecoded, IsDecodedBy}
use Rattle.h1_payload.specs.Rests.{SaysPulled, IsPulled}
use Rattle.h1_payload.specs.declared.item.DecodeError.{DecodeError}
use Rattle.h1_payload.specs.declared.item.DecodeError.TheVariants.{Invalid, NoMemory}
use Rattle.h1_payload.specs.declared.item.PayloadItem.{PayloadItem}
use Rattle.h1_payload.specs.declared.item.PayloadItem.TheVariants as items
use Rattle.h1_payload.specs.declared.pulled.Pulled.{Pulled}
use Rattle.h1_payload.specs.declared.pulled.Pulled.TheVariants as pulled
use Rattle.model_ends.proofs.Rests.{RestSays, Gives, some_bytes, nothing_yet, its_end, cut_off, pull_gives}

-- ---- while all of a body is there, a pull gives something

not_done : (place : Place) → stops_at place ≡ waits done → ⊥
not_done done is = cc is
not_done broken is = cc is
not_done (in_size n) is = cc is
not_done (in_blanks n) is = cc is
not_done (in_extension n) is = cc is
not_done (size_cr n) is = cc is
not_done (in_bytes n) is = cc is
not_done bytes_end is = cc is
not_done bytes_cr is = cc is
not_done (in_section at lines room) is = cc is
not_done end_cr is = cc is

noted_next : (p q : Place) (b : ℕ) (t : Taken) → (noted_line p q b t).next ≡ t.next
noted_next (in_section at lines room) (in_section at' lines' room') b t = refl
noted_next p q b t = refl

chunk_not_done : (more : ℕ) (bytes : List ℕ) → of_chunk more bytes ≡ waits done → ⊥
chunk_not_done more bytes =
    cond_both (nat_lt more (length bytes)) _ _ (λ (n : Next). n ≡ waits done → ⊥) (λ e is. cc is) (λ e is. cc is)

waits_not_done : (place : Place) (bytes : List ℕ) → (take_next place bytes).next ≡ waits done → ⊥
unfolding take_next
waits_not_done place [] is = not_done place is
waits_not_done done (b ∷ bytes) is = cc is
waits_not_done broken (b ∷ bytes) is = cc is
waits_not_done (in_bytes more) (b ∷ bytes) is = chunk_not_done more (b ∷ bytes) is
waits_not_done place (b ∷ bytes) is =
    waits_not_done (step place b) bytes (sym (noted_next place (step place b) b (take_next (step place b) bytes)) ∙ is)

at_done : (place : Place) (behind : List ℕ) → at_end place ≡ ends_before behind → place ≡ done
at_done done behind is = refl
at_done broken behind is = absurd (cc is)
at_done place behind is = absurd (cc is)

ends_not : (section behind : List ℕ) (p : pulls.Pulled) → EndsWith section behind p → p.outcome ≡ on.pending → ⊥
ends_not [] behind p x is = let never : ◌≡◌ {A = Outcome} on.body_ended on.pending = sym (ap (λ (q : pulls.Pulled). q.outcome) x) ∙ is in cc never
ends_not (b ∷ section) behind p x is = let never = sym (ap (λ (q : pulls.Pulled). q.outcome) x.3) ∙ is in cc never

chunks_not : (place : Place) (bytes left behind : List ℕ) (next : Next) (noted : List ℕ) (p : pulls.Pulled) → (take_next place bytes).next ≡ next
    → (says (take_next place bytes).next []).ending ≡ ends_before behind → IsPullOfChunks false place [] bytes next noted p → p.outcome ≡ on.pending → ⊥
unfolding read
chunks_not place bytes left behind (chunk given to rest) noted p e ends x is = let never = sym (ap (λ (q : pulls.Pulled). q.outcome) x) ∙ is in cc never
chunks_not place bytes left behind (waits to) noted p e ends x is =
    let there : at_end to ≡ ends_before behind = sym (ap (λ (n : Next). (says n []).ending) e) ∙ ends in
    waits_not_done place bytes (e ∙ ap waits (at_done to behind there))
chunks_not place bytes left behind (ended rest) noted p e ends x is = ends_not noted rest p x is
chunks_not place bytes left behind breaks noted p e ends x is = let never = sym (ap (λ (q : pulls.Pulled). q.outcome) x) ∙ is in cc never

pub pending_not : (rest : Rest) (bytes left behind : List ℕ) (p : pulls.Pulled) → RestSays rest bytes left true behind → IsPull false rest bytes p
    → p.outcome ≡ on.pending → ⊥
pending_not no_rest bytes left behind p says x is = let never = sym (ap (λ (q : pulls.Pulled). q.outcome) x) ∙ is in cc never
pending_not raw_rest bytes left behind p says x is = says
pending_not (frames_rest under_way limit) bytes left behind p says x is = says
pending_not (fixed_rest n) [] left behind p (some, long, text) x is =
    omega (arith, some, long, ap length text, length-append left behind)
pending_not (fixed_rest n) (b ∷ bytes) left behind p says x is = let never = sym (ap (λ (q : pulls.Pulled). q.outcome) x) ∙ is in cc never
pending_not (chunks_rest place section) bytes left behind p (none, reads) x is =
    let t = take_next place bytes in
    let ends : (says t.next []).ending ≡ ends_before behind =
    ap (λ (r : Reading). r.ending) (sym (taken_is_read bytes place []) ∙ ap (read place) (append-nil bytes) ∙ reads) in
    chunks_not place bytes left behind t.next t.trailers p refl ends
    (subst (λ (l : List ℕ). IsPullOfChunks false place l bytes t.next t.trailers p) none x) is

-- ---- what a decoder answers

-- By what a decoder of a body answers, of whose bytes these are left: bytes of it; nothing, while bytes are missing; its end; or
-- that memory ran out.
pub data BodyGives (old : Decoding) (bytes future left behind : List ℕ) (item : Result (Option PayloadItem) DecodeError) (new : Decoding) (rest : List ℕ) : Type 0 where
  gave : (given left' : List ℕ) → item ≡ Ok (Some (items.Chunk given)) → 0 < length given → left ≡ given ++ left' → new.is_broken ≡ false
      → RestSays new.rest (rest ++ future) left' true behind → BodyGives old bytes future left behind item new rest
  waited : item ≡ Ok None → new.is_broken ≡ false → RestSays new.rest (rest ++ future) left true behind → (future ≡ [] → ⊥)
      → BodyGives old bytes future left behind item new rest
  has_ended : item ≡ Ok (Some items.Eof) → left ≡ [] → rest ++ future ≡ behind → BodyGives old bytes future left behind item new rest
  lacked : item ≡ Err NoMemory → new ≡ old → rest ≡ bytes → BodyGives old bytes future left behind item new rest

module _ (old : Decoding) (bytes future left behind : List ℕ) (item : Result (Option PayloadItem) DecodeError) (new : Decoding) (rest : List ℕ) where
  moved : (p : pulls.Pulled) (answer : Pulled) (l : List ℕ) → IsPulled p answer new.rest rest → RestSays p.rest (p.unread ++ future) l true behind
      → RestSays new.rest (rest ++ future) l true behind
  moved p answer l x says = subst₂ (λ (r : Rest) (u : List ℕ). RestSays r (u ++ future) l true behind) (sym x.rest_is) (sym x.unread_is) says

  of_bytes : (given left' : List ℕ) (answer : Pulled) → SaysPulled answer (on.bytes given) → item ≡ item_of answer → new.is_broken ≡ is_fault answer
      → 0 < length given → left ≡ given ++ left' → RestSays new.rest (rest ++ future) left' true behind → BodyGives old bytes future left behind item new rest
  of_bytes given left' (pulled.Bytes b) same is sound some cut says =
      let bytes_are : b ≡ given = cc in
      gave given left' (is ∙ ap (λ (l : List ℕ). Ok (Some (items.Chunk l))) bytes_are) some cut sound says
  of_bytes given left' (pulled.Trailers entries) same is sound some cut says = absurd (cc (same.1))
  of_bytes given left' pulled.End same is sound some cut says = absurd (cc same)
  of_bytes given left' (pulled.Broken fault) same is sound some cut says = absurd (cc same)
  of_bytes given left' pulled.Pending same is sound some cut says = absurd (cc same)

  of_pending : (answer : Pulled) → SaysPulled answer on.pending → item ≡ item_of answer → new.is_broken ≡ is_fault answer
      → RestSays new.rest (rest ++ future) left true behind → (future ≡ [] → ⊥) → BodyGives old bytes future left behind item new rest
  of_pending (pulled.Bytes b) same is sound says nothing_more = absurd (cc same)
  of_pending (pulled.Trailers entries) same is sound says nothing_more = absurd (cc (same.1))
  of_pending pulled.End same is sound says nothing_more = absurd (cc same)
  of_pending (pulled.Broken fault) same is sound says nothing_more = absurd (cc same)
  of_pending pulled.Pending same is sound says nothing_more = waited is sound says nothing_more

  of_end : (answer : Pulled) → SaysPulled answer on.body_ended → item ≡ item_of answer → left ≡ [] → rest ++ future ≡ behind
      → BodyGives old bytes future left behind item new rest
  of_end (pulled.Bytes b) same is none all = absurd (cc same)
  of_end (pulled.Trailers entries) same is none all = absurd (cc (same.1))
  of_end pulled.End same is none all = has_ended is none all
  of_end (pulled.Broken fault) same is none all = absurd (cc same)
  of_end pulled.Pending same is none all = absurd (cc same)

  by_gives : (p : pulls.Pulled) (answer : Pulled) → IsPulled p answer new.rest rest → item ≡ item_of answer → new.is_broken ≡ is_fault answer
      → (future ≡ [] → p.outcome ≡ on.pending → ⊥) → Gives false future left true behind p → BodyGives old bytes future left behind item new rest
  by_gives p answer x is sound nothing_more (some_bytes given left' outcome some cut says going) =
      of_bytes given left' answer (subst (SaysPulled answer) outcome x.outcome) is sound some cut (moved p answer left' x says)
  by_gives p answer x is sound nothing_more (nothing_yet outcome says going) =
      of_pending answer (subst (SaysPulled answer) outcome x.outcome) is sound (moved p answer left x says) (λ none. nothing_more none outcome)
  by_gives p answer x is sound nothing_more (its_end outcome none whole all over) =
      of_end answer (subst (SaysPulled answer) outcome x.outcome) is none (ap (λ (l : List ℕ). l ++ future) x.unread_is ∙ all)
  by_gives p answer x is sound nothing_more (cut_off outcome closed over) = absurd (cc closed)

  by_pull : (p : pulls.Pulled) (answer : Pulled) → RestSays old.rest (bytes ++ future) left true behind → IsPull false old.rest bytes p
      → IsPulled p answer new.rest rest → item ≡ item_of answer → new.is_broken ≡ is_fault answer → BodyGives old bytes future left behind item new rest
  by_pull p answer says pull x is sound =
      by_gives p answer x is sound
      (λ none waiting. pending_not old.rest bytes left behind p
      (subst (λ (l : List ℕ). RestSays old.rest l left true behind) (ap (λ (l : List ℕ). bytes ++ l) none ∙ append-nil bytes) says) pull waiting)
      (pull_gives false old.rest bytes future left true behind p says pull)

module _ (old : Decoding) (bytes future left behind : List ℕ) where
  by_item : (item : Result (Option PayloadItem) DecodeError) (new : Decoding) (rest : List ℕ) → RestSays old.rest (bytes ++ future) left true behind
      → IsDecodedBy false old bytes item new rest → BodyGives old bytes future left behind item new rest
  by_item (Err NoMemory) new rest says x = lacked refl x.0 x.1
  by_item (Err Invalid) new rest says (p, answer, pull, x, is, sound) = by_pull old bytes future left behind (Err Invalid) new rest p answer says pull x is sound
  by_item (Ok None) new rest says (p, answer, pull, x, is, sound) = by_pull old bytes future left behind (Ok None) new rest p answer says pull x is sound
  by_item (Ok (Some i)) new rest says (p, answer, pull, x, is, sound) = by_pull old bytes future left behind (Ok (Some i)) new rest p answer says pull x is sound

  pub body_gives : (item : Result (Option PayloadItem) DecodeError) (new : Decoding) (rest : List ℕ) → old.is_broken ≡ false
      → RestSays old.rest (bytes ++ future) left true behind → IsDecoded old bytes item new rest → BodyGives old bytes future left behind item new rest
  body_gives item new rest sound says x = by_item item new rest says (subst (λ (b : Bool). IsDecodedBy b old bytes item new rest) sound x)
