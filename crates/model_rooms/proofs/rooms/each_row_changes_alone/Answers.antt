use Rattle.model_rooms.proofs.RowLemmas.{row_opening}
use Rattle.model_rooms.proofs.HubLemmas.{each_row}
use Rattle.model_rooms.proofs.rooms.each_row_changes_alone.Goals as goal

pub returns-clause-moved : goal.returns-clause-moved
returns-clause-moved c = each_row

pub returns-clause-opened : goal.returns-clause-opened
returns-clause-opened c s before i e = row_opening i s before e
