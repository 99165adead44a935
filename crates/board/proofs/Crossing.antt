-- A shared board may be looked at by any thread.
use denote.RattleType.{RattleType}
use denote.Param.Send.{IsSend, IsSync, sendable}
use Rattle.std.proofs.Crossing.{crosses}
use Rattle.std.proofs.MapsCrossing.{crosses as maps_cross}
use Rattle.std.specs.declared.sync.ledger.Ledger.{Ghosts}
use Rattle.std.specs.contracts.sync.ledger.Share as Share
use Rattle.std.specs.contracts.sync.ledger.Book as Book
use Rattle.std.proofs.sync.ledger.Share.TheSendSync as share
use Rattle.std.proofs.sync.ledger.Book.TheSendSync as book
use Rattle.board.proofs.Seen.{share_sync}
use Rattle.board.specs.contracts.board.Board as Board
use Rattle.board.specs.contracts.stock.Stock as Stock
use Rattle.board.specs.contracts.pass.Carried as Carried
use Rattle.board.specs.contracts.pass.Pass as Pass
use Rattle.board.specs.contracts.shared.Shared as Shared

module _ (T : RattleType) (g : Ghosts T.Denot) where
  pub stock_sync : IsSync (Stock.the_row T g)
  stock_sync = let a : IsSync (Share.the_field T g).row = share_sync T g in search (crosses, sendable) depth 20

  pub stock_send : IsSend (Stock.the_row T g)
  stock_send = let a : IsSend (Share.the_field T g).row = share.the_send T g in search (crosses, sendable) depth 20

  pub board_send : IsSend (Board.the_row T g)
  board_send =
      let a : IsSend (Book.the_field T g).row = book.the_send T g in
      let b : IsSend (Stock.the_field T g).row = stock_send in
      search (crosses, maps_cross, sendable) depth 20

  pub shared_sync : IsSync (Shared.the_row T g)
  shared_sync =
      let a = board_send in
      let b : IsSync (Stock.the_field T g).row = stock_sync in
      search (crosses, sendable) depth 20

  pub pass_send : IsSend (Pass.the_row T g)
  pass_send = let a : IsSend (Share.the_field T g).row = share.the_send T g in search (crosses, sendable) depth 20

  pub carried_send : IsSend (Carried.the_row T g)
  carried_send = let a : IsSend (Pass.the_field T g).row = pass_send in search sendable depth 20
