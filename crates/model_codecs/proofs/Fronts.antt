-- What stands at the front of bytes that are the first of those of legal frames.
use Rattle.std.proofs.Common.{◌≡◌, ℕ, ◌<◌, ◌≤◌, ◌^◌, Bool, true, List, [], ◌∷◌, ◌++◌, length, drop, map, refl, sym, ap, ◌∙◌, subst, arith, append-nil}
use Rattle.std.proofs.lemmas.List.{drop_at, drop-append-le}
use Rattle.model_h1.specs.Frame.{Frame, ProtocolError}
use Rattle.model_h1.specs.FrameText.{Reader, partial, whole, breaks, front_frame, is_under_way}
use Rattle.model_h1.specs.Laws.WrittenFrame.{KeepsRules}
use Rattle.model_h1.proofs.FrameLemmas.{whole_stays, whole_fits, breaks_stays}
use Rattle.model_ends.specs.MaskedText.{masked_text, MaskedFrame, HaveMasks, masked_texts}
use Rattle.model_ends.specs.LegalMessages.{AreLegal}
use Rattle.model_ends.proofs.FrameMasked.{masked_back}

-- the frames without their masks
abbrev pub unmasked : List MaskedFrame → List Frame
unmasked ms = map (λ m. m.frame) ms

-- what is left behind the first frame, which is this one
pub record IsFirst (ms : List MaskedFrame) (u : Bool) (max_payload : ℕ) (f : Frame) (left : List ℕ) : Type 0 where
  pub first : MaskedFrame
  pub others : List MaskedFrame
  pub are : ms ≡ first ∷ others
  pub same : f ≡ first.frame
  pub masks : HaveMasks others
  pub legal : AreLegal max_payload (is_under_way u f) (unmasked others)
  pub text : left ≡ masked_texts others

no_bytes : (a b : List ℕ) → a ++ b ≡ [] → a ≡ []
no_bytes [] b is = refl
no_bytes (x ∷ a) b is = cc

module _ (reader : Reader) (max_payload : ℕ) (masks : reader.wants_mask ≡ true) (takes : max_payload ≤ reader.max_payload) (small : max_payload < 2 ^ 63) where
  -- the front of the text of frames is the first of them
  front_is : (u : Bool) (m : MaskedFrame) (ms : List MaskedFrame) → HaveMasks (m ∷ ms) → AreLegal max_payload u (unmasked (m ∷ ms))
      → front_frame reader u (masked_texts (m ∷ ms)) ≡ whole m.frame (length (masked_text m.mask m.frame))
  front_is u m ms four legal =
      let x = legal.0 in
      let keeps : KeepsRules reader u m.frame = record {
        place = x.place;
        size = omega (arith, x.size, small);
        limit = omega (arith, x.size, takes);
        control = x.control;
        reason = x.reason;
      } in
      masked_back m.mask four.0 reader u m.frame (masked_texts ms) masks keeps

  module _ (u : Bool) (bytes future : List ℕ) where
    -- no rule is broken
    pub none_broken : (ms : List MaskedFrame) (rule : ProtocolError) → HaveMasks ms → AreLegal max_payload u (unmasked ms) → bytes ++ future ≡ masked_texts ms
        → front_frame reader u bytes ≡ breaks rule → ⊥
    unfolding front_frame
    none_broken [] rule four legal text broken =
        let none : bytes ≡ [] = no_bytes bytes future text in
        let never : partial ≡ breaks rule = sym (ap (front_frame reader u) none) ∙ broken in
        cc never
    none_broken (m ∷ ms) rule four legal text broken =
        let never : breaks rule ≡ whole m.frame (length (masked_text m.mask m.frame)) =
        sym (breaks_stays reader u bytes future rule broken) ∙ ap (front_frame reader u) text ∙ front_is u m ms four legal in
        cc never

    -- a frame is the first of them
    pub next_one : (ms : List MaskedFrame) (f : Frame) (len : ℕ) → HaveMasks ms → AreLegal max_payload u (unmasked ms) → bytes ++ future ≡ masked_texts ms
        → front_frame reader u bytes ≡ whole f len → IsFirst ms u max_payload f (drop len bytes ++ future)
    unfolding front_frame
    next_one [] f len four legal text is =
        let none : bytes ≡ [] = no_bytes bytes future text in
        let never : partial ≡ whole f len = sym (ap (front_frame reader u) none) ∙ is in
        absurd (cc never)
    next_one (m ∷ ms) f len four legal text is =
        let shown = masked_text m.mask m.frame in
        let both : whole f len ≡ whole m.frame (length shown) =
        sym (whole_stays reader u bytes future f len is) ∙ ap (front_frame reader u) text ∙ front_is u m ms four legal in
        let same : f ≡ m.frame = cc in
        let long : len ≡ length shown = cc in
        let within = (whole_fits reader u bytes f len is).1 in
        record {
          first = m;
          others = ms;
          are = refl;
          same = same;
          masks = four.1;
          legal = subst (λ (g : Frame). AreLegal max_payload (is_under_way u g) (unmasked ms)) (sym same) legal.1;
          text = sym (drop-append-le len bytes future within) ∙ ap (drop len) text ∙ drop_at shown (masked_texts ms) len (sym long);
        }

    -- where all bytes came and no frame is whole, there is none
    pub none_left : (ms : List MaskedFrame) → HaveMasks ms → AreLegal max_payload u (unmasked ms) → bytes ++ future ≡ masked_texts ms → future ≡ []
        → front_frame reader u bytes ≡ partial → ms ≡ []
    none_left [] four legal text none waits = refl
    none_left (m ∷ ms) four legal text none waits =
        let all : bytes ≡ masked_texts (m ∷ ms) = sym (append-nil bytes) ∙ ap (λ (l : List ℕ). bytes ++ l) (sym none) ∙ text in
        let never : partial ≡ whole m.frame (length (masked_text m.mask m.frame)) = sym waits ∙ ap (front_frame reader u) all ∙ front_is u m ms four legal in
        absurd (cc never)
