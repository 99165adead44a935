use Rattle.h1_connection.proofs.StepLemmas.{searched_may}
use Rattle.h1_connection.proofs.connection.parts.Parts.settle.Goals as goal

pub note-requires : goal.note-requires
note-requires c = searched_may c.args.self.now _ c.requires c.search.ensures.searched
