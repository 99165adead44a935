-- The standard engine's text fills the array.
use Rattle.std.proofs.Common.{◌≡◌, ℕ, ◌+◌, ◌≤◌, length, List, [], ◌++◌, drop, replicate, ap, ◌∙◌, sym, subst, arith}
use Rattle.std.proofs.lemmas.List.{append-nil}
use Rattle.base64.specs.Rfc4648.{unpadded_len, padding_len}
use Rattle.model_h1.specs.Handshake.{base64}
use Rattle.ws_frames.proofs.proto.base64_of.Goals as goal

pub returns : goal.returns
unfolding base64
returns c =
    let twenty : length c.args.digest.now ≡ 20 = omega arith in
    let room : unpadded_len (length c.args.digest.now) + padding_len (length c.args.digest.now) ≤ 28
    = subst (λ (n : ℕ). unpadded_len n + padding_len n ≤ 28) (sym twenty) (omega arith) in
    let ok = c.encode_slice-written.ensures.fits room in
    let written = rw ok at c.encode_slice-written.ensures.written in
    let filled : drop (unpadded_len (length c.args.digest.now) + padding_len (length c.args.digest.now)) (replicate 28 0) ≡ []
    = ap (λ (n : ℕ). drop (unpadded_len n + padding_len n) (replicate 28 0)) twenty in
    written ∙ ap (λ (t : List ℕ). base64 c.args.digest.now ++ t) filled ∙ append-nil (base64 c.args.digest.now)
