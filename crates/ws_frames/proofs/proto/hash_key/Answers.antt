-- The digest is that of the key and the fixed text.
use Rattle.std.proofs.Common.{ap, ◌∙◌}
use Rattle.model_h1.specs.Handshake.{base64}
use Rattle.ws_frames.proofs.proto.hash_key.Goals as goal

pub returns : goal.returns
returns c = c.base64_of.ensures ∙ ap base64 (c.finalize.ensures _ (c.update-2.ensures _ (c.update.ensures _ c.new-hasher.ensures)))
