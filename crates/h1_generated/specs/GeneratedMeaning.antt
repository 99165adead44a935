-- What this crate's types mean in the model, and the parts that its texts are made of.
use Rattle.std.specs.Prelude.{ℕ, List, ◌++◌, codes, decimal}
use Rattle.h1_generated.specs.Generated as model
use Rattle.h1_generated.specs.Generated.{method_of}
use Rattle.h1_generated.specs.Summary as summary
use Rattle.h1_generated.specs.declared.draw.Kind.{Kind}
use Rattle.h1_generated.specs.declared.draw.Kind.TheVariants.{Get, Head, Sized, Chunked}
use Rattle.h1_generated.specs.declared.summary.Counts.{Counts}

abbrev pub model_kind : Kind → model.Kind
model_kind Get = model.get
model_kind Head = model.head
model_kind Sized = model.sized
model_kind Chunked = model.chunked

-- the first line of a request
abbrev pub request_line : model.Kind → ℕ → List ℕ
request_line kind k = method_of kind ++ (codes " /" ++ (decimal k ++ codes " HTTP/1.1\r\n"))

-- the counts of a run
abbrev pub model_counts : Counts → summary.Counts
model_counts c = record { events = c.events; taken = c.taken; heads = c.heads; body = c.body; text = c.text }
