-- Errors of a frame that is one, or breaks a rule.
use Rattle.std.proofs.Common.{◌≡◌, ◌≢◌, ℕ, List, drop, Result, Ok, Err, refl, sym, ap, ◌∙◌}
use Rattle.model_h1.specs.Frame as frames
use Rattle.model_h1.specs.FrameText.{front_of_judged}
use Rattle.ws_frames.specs.declared.error.ProtocolError.{ProtocolError}
use Rattle.ws_frames.specs.declared.error.ProtocolError.TheVariants as errors
use Rattle.ws_frames.specs.declared.kind.Kind.{Kind}
use Rattle.ws_frames.specs.declared.kind.Kind.TheVariants as kinds
use Rattle.ws_frames.specs.Refusal.{error_of}
use Rattle.ws_frames.specs.Codec.{kind_frame}
use Rattle.ws_frames.specs.CodecState.{Failed}
use Rattle.ws_frames.specs.Fronts.{IsFrontError}
use Rattle.ws_frames.proofs.KindLemmas.{ErrorSays, not_memory}

-- a rule that is broken
pub rule_said : (judged : Result frames.Frame frames.ProtocolError) (e : ProtocolError) → ErrorSays e judged → e ≡ error_of judged
rule_said judged e says = says.2 ∙ ap error_of (sym says.1)

-- a frame of any kind but a Close is one, whatever its payload
pub other_kind : (kind : Kind) (payload : List ℕ) → kind ≢ kinds.Close → errors.NoMemory ≡ error_of (kind_frame kind payload)
other_kind kinds.Text payload other = refl
other_kind kinds.Binary payload other = refl
other_kind kinds.FirstText payload other = refl
other_kind kinds.FirstBinary payload other = refl
other_kind kinds.Continue payload other = refl
other_kind kinds.Last payload other = refl
other_kind kinds.Ping payload other = refl
other_kind kinds.Pong payload other = refl
other_kind kinds.Close payload other = absurd (other refl)

-- a frame at the front for which there was no memory
pub memory_fails : (judged : Result frames.Frame frames.ProtocolError) (len n : ℕ) (old new : List ℕ)
    → errors.NoMemory ≡ error_of judged → new ≡ old → Failed (front_of_judged len judged) errors.NoMemory n old new
memory_fails (Ok frame) len n old new e same = (refl, same)
memory_fails (Err rule) len n old new e same = absurd (not_memory rule (sym e))

-- one that breaks a rule and was dropped
pub rule_fails : (judged : Result frames.Frame frames.ProtocolError) (e : ProtocolError) (len n : ℕ) (old new : List ℕ)
    → e ≢ errors.NoMemory → e ≡ error_of judged → n ≡ len → new ≡ drop len old → Failed (front_of_judged len judged) e n old new
rule_fails (Ok frame) e len n old new other is same rest = absurd (other is)
rule_fails (Err rule) e len n old new other is same rest = (is, rest ∙ ap (λ (k : ℕ). drop k old) (sym same))

-- one that stays
pub front_fails : (judged : Result frames.Frame frames.ProtocolError) (e : ProtocolError) (len : ℕ)
    → e ≡ error_of judged → IsFrontError (front_of_judged len judged) e
front_fails (Ok frame) e len is = is
front_fails (Err rule) e len is = is
