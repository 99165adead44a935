-- Which events are allowed behind a past.
use Rattle.std.specs.Prelude.{ℕ, Bool, true, false, not, ◌&&◌, ◌||◌, List, length, nat_lt, Option, Some, None, is_none}
use Rattle.std.specs.List.{list_any}
use Rattle.model_h1.specs.Request.{Head, has_body, is_raw_kind}
use Rattle.model_h1.specs.Setting.{Setting}
use Rattle.model_h1.specs.Event.{Event, Outcome}
use Rattle.model_h1.specs.Event as on
use Rattle.model_h1.specs.Sums.{Step, request, since_head, answered, is_open, is_upgraded, is_answering, has_ended, is_draining, was_pulled, was_dropped, had_continue, now}
use Rattle.model_h1.specs.Past.{ParsedStep, steps}
use Rattle.model_h1.specs.Text.{buffered}
use Rattle.model_h1.specs.Closing.{closing}
use Rattle.model_h1.specs.Facts.{Facts, may_follow, runs_with, closes_with, goes_with}

abbrev pub is_over_by : Outcome → Bool
is_over_by (on.closed end) = true
is_over_by on.abandoned = true
is_over_by _ = false

-- nothing is allowed any more
abbrev pub is_over : List Step → Bool
is_over trace = list_any (λ s. is_over_by s.outcome) trace

-- the body was given to its end, or given up
abbrev pub gives_up : Event → Outcome → Bool
gives_up on.drop_body outcome = true
gives_up on.pull on.body_ended = true
gives_up on.pull (on.broken_by fault) = true
gives_up _ _ = false

-- the open request has a body whose end, fault or drop hasn't come: by the steps here, and by what is noted in `model_state`
abbrev pub has_body_left : List Step → Option Head → Bool
has_body_left trace None = false
has_body_left trace (Some h) =
    has_body h.body && is_open trace && not (list_any (λ s. gives_up s.event s.outcome) (since_head trace))

-- the request is open, has no answer, and is no WebSocket
abbrev pub waits_for_answer : List Step → Bool
waits_for_answer trace = is_open trace && is_none (answered trace) && not (is_upgraded trace)

abbrev pub request_expects : Option Head → Bool
request_expects None = false
request_expects (Some h) = h.expects

abbrev pub asks_raw : Option Head → Bool
asks_raw None = false
asks_raw (Some h) = is_raw_kind h.body

-- there is room in what is to be written
abbrev pub has_room : Setting → List Step → Bool
has_room setting trace = nat_lt (length (buffered setting trace)) setting.write_buffer

-- a moment never goes back
abbrev pub is_moment : List Step → ℕ → Bool
is_moment trace ms = may_follow (now trace) ms

-- what a trace tells
abbrev pub facts_of : Setting → List Step → Facts
facts_of setting trace =
    record {
      has_ended = has_ended trace;
      is_draining = is_draining trace;
      is_upgraded = is_upgraded trace;
      is_open = is_open trace;
      has_body_left = has_body_left trace (request trace);
      waits_for_answer = waits_for_answer trace;
      is_owed_continue = request_expects (request trace) && not (had_continue trace);
      may_upgrade = asks_raw (request trace) && not (was_pulled trace || was_dropped trace);
      is_answering = is_answering trace;
      has_room = has_room setting trace;
      now = now trace;
    }

-- what is allowed while the connection doesn't close
abbrev pub is_allowed_running : Setting → List Step → Event → Bool
is_allowed_running setting trace event = runs_with setting (facts_of setting trace) event

-- what is allowed once it closes
abbrev pub is_allowed_closing : List Step → Event → Bool
is_allowed_closing trace event = closes_with (now trace) event

-- the event is allowed
unfoldable pub is_allowed : Setting → List ParsedStep → Event → Bool
is_allowed setting past event =
    goes_with setting (is_over (steps past)) (closing setting past) (facts_of setting (steps past)) event
