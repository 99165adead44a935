-- Why a connection closes.

-- A head is malformed or too large; the head or the next request came too late; a rule of WebSocket was
-- broken; the answer's body failed or is too short; an answer asked for it; the request's body is broken
-- or unread; the connection drained; the peer sends no more, and isn't answered then or has had all.
pub data End : Type 0 where
  malformed too_large slow_request keep_alive_expired protocol body body_short : End
  asked broken_body unread_body drained half_closed input_ended : End
