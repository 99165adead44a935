-- What answers a request.
use Rattle.std.specs.Prelude.{◌≡◌, ℕ, Some, None}
use Rattle.http_types.specs.declared.requests.head.RequestHead.{RequestHead}
use Rattle.h1_client.specs.ClientMeaning.{request_of}
use Rattle.h1_client.specs.State.{State}
use Rattle.model_h1.specs.Answer.{BodySize}
use Rattle.app_get.specs.Asking.{Asks}
use Rattle.app_get.specs.Exchange.{Ends, Goes}
use Rattle.app_get.specs.Heads.{AsksFor}
use Rattle.app_get.specs.declared.follow.Reply.{Reply}
use Rattle.app_get.specs.declared.follow.Stage.{Stage}
use Rattle.app_get.specs.declared.options.Options.{Options}

-- a request for this stage was asked last over the connection
pub record IsAskedAt (options : Options) (stage : Stage) (asked : State) : Type 0 where
  pub head : RequestHead
  pub size : BodySize
  pub moment : ℕ
  pub free : State
  pub asks_for : AsksFor options stage head
  pub asks : Asks free moment (request_of head) size asked

-- An exchange over the connection went on until its answer had this status, and this was the Location of its last head.
pub record IsReplyOver (asked : State) (reply : Reply) : Type 0 where
  pub first : Ends
  pub last : Ends
  pub begins : (first.state ≡ asked) × (first.status ≡ None) × (first.location ≡ None)
  pub goes : Goes first last
  pub status : last.status ≡ Some reply.status
  pub location : last.location ≡ reply.location

-- it answers a request for this stage
pub record IsReplyAt (options : Options) (stage : Stage) (reply : Reply) : Type 0 where
  pub asked : State
  pub is_asked : IsAskedAt options stage asked
  pub replies : IsReplyOver asked reply
