use Rattle.h1_client.proofs.AnswerLemmas.{placed_coming}
use Rattle.h1_client.proofs.connection.parts.Parts.next_while_open.Goals as goal

pub returns-clause-no_memory_needed : goal.returns-clause-no_memory_needed
returns-clause-no_memory_needed c = λ none. absurd (placed_coming c.args.self.now.input.piece c.in-Some.place c.in-Some.ensures none)
