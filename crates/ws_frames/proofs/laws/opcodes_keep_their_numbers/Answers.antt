use Rattle.ws_frames.proofs.OpcodeLemmas.{code_of_number, number_of_opcode}
use Rattle.ws_frames.proofs.laws.opcodes_keep_their_numbers.Goals as goal

pub returns-clause-code : goal.returns-clause-code
returns-clause-code c = code_of_number

pub returns-clause-number : goal.returns-clause-number
returns-clause-number c = number_of_opcode
