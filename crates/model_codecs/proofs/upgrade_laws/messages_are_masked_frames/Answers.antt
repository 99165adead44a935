use Rattle.model_codecs.proofs.Texts.{written_masked}
use Rattle.model_codecs.proofs.upgrade_laws.messages_are_masked_frames.Goals as goal

pub returns : goal.returns
returns g c client after messages text is wrote =
    let x = written_masked g.R.Rng.stream client messages text after is wrote in
    (x.masked, x.masks, x.frames, x.text_is)
