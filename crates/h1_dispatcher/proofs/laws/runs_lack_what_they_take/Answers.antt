use Rattle.h1_dispatcher.proofs.Takes.{run_takes}
use Rattle.h1_dispatcher.proofs.laws.runs_lack_what_they_take.Goals as goal

pub returns : goal.returns
returns c = λ v u w steps step unheard noted run is. run_takes v u w steps step unheard noted run is
