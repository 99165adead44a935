-- A connection that came, and how it is served, go to any thread.
use denote.RattleType.{RattleType}
use denote.Param.Send.{IsSend, sendable}
use Rattle.std.specs.contracts.net.socket_addr.SocketAddr as SocketAddr
use Rattle.http_config.specs.contracts.config.ServiceConfig as ServiceConfig
use Rattle.http_config.specs.contracts.keep_alive.KeepAlive as KeepAlive
use Rattle.board_server.specs.contracts.accept.Newcomer as Newcomer
use Rattle.board_server.specs.contracts.accept.Serving as Serving

pub newcomer_send : (W L : RattleType) → IsSend W → IsSend L → IsSend (Newcomer.the_row W L)
newcomer_send W L transport recorder = search sendable depth 40

-- the deepest of the settings by themselves, since a search through all of them runs out of steps
address_send : IsSend SocketAddr.the_row
address_send = search sendable depth 20

alive_send : IsSend KeepAlive.the_field.row
alive_send = search sendable depth 20

config_send : IsSend ServiceConfig.the_row
config_send = search (address_send, alive_send, sendable) depth 22

pub serving_send : (K : RattleType) → IsSend K → IsSend (Serving.the_row K)
serving_send K clock = let a : IsSend ServiceConfig.the_row = config_send in search sendable depth 60
