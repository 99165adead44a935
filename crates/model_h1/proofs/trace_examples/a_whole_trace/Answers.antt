use Rattle.model_h1.specs.Laws.ExampleTraces.{usual}
use Rattle.model_h1.proofs.ExampleSteps.{happens, whole_past, get_written}
use Rattle.model_h1.proofs.trace_examples.a_whole_trace.Goals as goal

pub returns : goal.returns
returns c = (happens usual whole_past get_written).trace
