use Rattle.model_h1.proofs.FrameSizes.{alike_without_header, alike_within_limit, refused_when_whole, refused_at_length}
use Rattle.model_h1.proofs.frame_text.size_may_be_judged_late.Goals as goal

pub returns : goal.returns
returns c = record {
  no_header = alike_without_header;
  within_limit = alike_within_limit;
  above_limit = refused_when_whole;
  never_whole = refused_at_length;
}
