use Rattle.std.proofs.Common.{◌≡◌, None, sym, ap, ◌∙◌, subst}
use Rattle.model_h1.specs.FrameText.{send_error}
use Rattle.ws_frames.specs.CodecState.{codec_server, codec_reading, codec_sending, codec_words, with_reading}
use Rattle.ws_frames.specs.Sent.{message_says, message_written, mask_drawn, sending_after, words_after, with_sending}
use Rattle.ws_dispatcher.proofs.ws.reading_leaves_what_is_written.Goals as goal

pub returns : goal.returns
returns g c before after new message text is wrote =
    let stream = g.R.Rng.stream in
    let says = message_says message in
    let same = sym is in (
      subst (λ x. send_error (codec_sending x) says ≡ None) same wrote.0,
      subst (λ x. text ≡ message_written (mask_drawn (codec_server x) (stream (codec_words x))) says) same wrote.1,
      subst (λ x. codec_sending new ≡ sending_after (codec_sending x) says) same wrote.2,
      subst (λ x. stream (codec_words new) ≡ words_after (codec_server x) says (stream (codec_words x))) same wrote.3,
      ap (λ x. with_reading (codec_reading after) x) wrote.4
          ∙ ap (λ x. with_reading (codec_reading after) (with_sending (codec_words new) (codec_sending new) x)) same,
    )
