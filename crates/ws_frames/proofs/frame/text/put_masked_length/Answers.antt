-- The three forms of a length.
use Rattle.std.proofs.Common.{ℕ, ◌++◌, List, [], ◌∷◌, sym, ap, ◌∙◌, append_assoc}
use Rattle.ws_frames.proofs.WrittenLemmas.{short_masked, middle_masked, long_masked}
use Rattle.ws_frames.proofs.frame.text.put_masked_length.Goals as goal

pub returns-then-len-lt126-clause-items : goal.returns-then-len-lt126-clause-items
returns-then-len-lt126-clause-items c =
    c.put_byte.ensures.items ∙ ap (λ (t : List ℕ). c.args.dst.now.items ++ t) (sym (short_masked c.args.len c.if-len-lt126.true))

pub returns-then-len-lt65536-clause-items : goal.returns-then-len-lt65536-clause-items
returns-then-len-lt65536-clause-items c =
    c.extend_reserved.ensures.items ∙ ap (λ (t : List ℕ). t ++ c.to_be_bytes.result) c.put_byte-then-len-lt65536.ensures.items
    ∙ append_assoc c.args.dst.now.items (254 ∷ []) c.to_be_bytes.result
    ∙ ap (λ (t : List ℕ). c.args.dst.now.items ++ 254 ∷ t) c.to_be_bytes.ensures
    ∙ ap (λ (t : List ℕ). c.args.dst.now.items ++ t) (sym (middle_masked c.args.len c.if-len-lt126.false c.if-len-lt65536.true))

pub returns-else-len-lt65536-clause-items : goal.returns-else-len-lt65536-clause-items
returns-else-len-lt65536-clause-items c =
    c.extend_reserved-else-len-lt65536.ensures.items
    ∙ ap (λ (t : List ℕ). t ++ c.to_be_bytes-else-len-lt65536.result) c.put_byte-else-len-lt65536.ensures.items
    ∙ append_assoc c.args.dst.now.items (255 ∷ []) c.to_be_bytes-else-len-lt65536.result
    ∙ ap (λ (t : List ℕ). c.args.dst.now.items ++ 255 ∷ t) c.to_be_bytes-else-len-lt65536.ensures
    ∙ ap (λ (t : List ℕ). c.args.dst.now.items ++ t) (sym (long_masked c.args.len c.if-len-lt65536.false))
