-- What a server gives of what its client wrote.
use Rattle.std.proofs.Common.{◌≡◌, ℕ, ◌<◌, ◌^◌, Bool, true, false, List, [], ◌++◌, refl, sym, ◌∙◌, subst, arith}
use Rattle.rand_core.specs.Stream.{Stream}
use Rattle.model_h1.specs.Frame as model
use Rattle.model_ends.specs.LegalMessages.{AreLegal}
use Rattle.ws_frames.specs.declared.codec.Codec.{Codec}
use Rattle.ws_frames.specs.declared.message.Message.{Message}
use Rattle.ws_frames.specs.CodecState.{codec_server, codec_limit, codec_reading}
use Rattle.ws_frames.specs.Fronts.{early_reader}
use Rattle.ws_frames.specs.Parsed.{late_reader}
use Rattle.ws_session.specs.Session.{SessionParts}
use Rattle.model_codecs.specs.Sent.{frames_sent, AreWritten}
use Rattle.model_codecs.specs.Received.{Act, bytes_came, IsDecoding, IsReading, AreReceived}
use Rattle.model_codecs.proofs.FrameRuns.{Runs, decoding_runs, reading_runs, all_received}
use Rattle.model_codecs.proofs.Texts.{written_masked}

module _ {R : Type 0} (stream : R → Stream) (client after : Codec R) (messages : List Message) (text : List ℕ) where
  pub codec_received : {W : Type 0} (server : Codec W) (acts : List Act) (more : List ℕ) → codec_server client ≡ false → AreWritten stream client messages text after
      → codec_server server ≡ true → codec_reading server ≡ false → codec_limit server < 2 ^ 63 → AreLegal (codec_limit server) false (frames_sent messages)
      → IsDecoding server [] acts → bytes_came acts ++ more ≡ text → AreReceived (frames_sent messages) acts more
  codec_received server acts more is wrote reads fresh small legal decoding came =
      let x = written_masked stream client messages text after is wrote in
      let limit = codec_limit server in
      let runs : Runs (late_reader (codec_server server) limit) false [] acts =
      subst (λ (u : Bool). Runs (late_reader (codec_server server) limit) u [] acts) fresh (decoding_runs server [] acts decoding) in
      subst (λ (fs : List model.Frame). AreReceived fs acts more) x.frames
      (all_received (late_reader (codec_server server) limit) limit reads (omega arith) small false [] acts more x.masked x.masks
      (subst (AreLegal limit false) (sym x.frames) legal) (came ∙ x.text_is) runs)

  pub session_received : (limit : ℕ) (acts : List Act) (more : List ℕ) → codec_server client ≡ false → AreWritten stream client messages text after
      → limit < 2 ^ 63 → AreLegal limit false (frames_sent messages)
      → IsReading (record { server = true; limit = limit; under_way = false; unread = [] }) acts → bytes_came acts ++ more ≡ text
      → AreReceived (frames_sent messages) acts more
  session_received limit acts more is wrote small legal reading came =
      let x = written_masked stream client messages text after is wrote in
      let s : SessionParts = record { server = true; limit = limit; under_way = false; unread = [] } in
      subst (λ (fs : List model.Frame). AreReceived fs acts more) x.frames
      (all_received (early_reader true limit) limit refl (omega arith) small false [] acts more x.masked x.masks
      (subst (AreLegal limit false) (sym x.frames) legal) (came ∙ x.text_is) (reading_runs s acts reading))
