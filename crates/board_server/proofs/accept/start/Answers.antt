use denote.Param.Send.{sendable}
use Rattle.board.proofs.Crossing.{shared_sync, carried_send}
use Rattle.board_server.proofs.Crossing.{newcomer_send, serving_send}
use Rattle.board_server.proofs.accept.start.Goals as goal

pub spawn_with-requires-send-F : goal.spawn_with-requires-send-F
spawn_with-requires-send-F g c κs within = search (shared_sync, carried_send, newcomer_send, serving_send, sendable) depth 20
