use Rattle.std.proofs.Common.{Some}
use Rattle.model_client.specs.ClientEvent as asked
use Rattle.proxy.proofs.Done.{server_did, did_chunk}
use Rattle.proxy.proofs.Moves.{goes_same, goes_then, client_done, pieces, ends, breaks}
use Rattle.std.proofs.Common.{arith}
use Rattle.model_h1.specs.Event as on
use Rattle.proxy.proofs.Work.{works, less_then, then_less, client_less, client_much_less, server_same, remarked, whole_mark, body_same, body_waits}
use Rattle.std.proofs.Common.{subst}
use Rattle.h1_payload.specs.declared.pulled.Pulled.{Pulled}
use Rattle.proxy.specs.Sides.{BringsPulled}
use Rattle.proxy.specs.Leaves.{LeavesPulled}
use Rattle.proxy.proofs.Served.{with_server, client_serves, resent_serves}
use Rattle.std.proofs.Common.{ap, inl, inr, refl, []}
use Rattle.proxy.proofs.Replies.{goes_as, body_breaks}
use Rattle.proxy.specs.Replies.{marks_of}
use Rattle.proxy.proofs.Puts.{puts_none, hands_same}
use Rattle.proxy.specs.Puts.{HandsPulled}
use Rattle.proxy.proofs.Below.{below_same, below_room, no_room}
use Rattle.proxy.proofs.proxy.Proxy.pass_body.Goals as goal

pub chunk-requires : goal.chunk-requires
chunk-requires c = record { can_chunk = (c.may_send.ensures.sends c.if-not-may_send.false).chunk c.as_slice.result.now }

pub end_body-requires : goal.end_body-requires
end_body-requires c = record { can_end_body = (c.may_send.ensures.sends c.if-not-may_send.false).ends }

pub break_body-requires : goal.break_body-requires
break_body-requires c = record { runs = record { unsent = c.requires.runs.unsent; sent = c.requires.runs.sent } }

pub returns-then-not-may_send-clause-goes : goal.returns-then-not-may_send-clause-goes
returns-then-not-may_send-clause-goes c = goes_same (record c.args.self.now { server = Some c.args.server })

pub returns-in-Bytes-clause-goes : goal.returns-in-Bytes-clause-goes
returns-in-Bytes-clause-goes c =
    pieces c.in-Bytes.bytes c.args.self.now c.args.sent c.next_bytes.new.client c.args.server c.chunk.new.self c.requires.runs (subst (λ (n : Pulled). BringsPulled n c.args.self.now.client c.next_bytes.new.client) c.in-Bytes.is c.in_ok-bytes.ensures.brings)
    (did_chunk c.in-Bytes.bytes c.as_slice.result.now c.args.server c.chunk.new.self c.as_slice.ensures
    (server_did (asked.chunk c.as_slice.result.now) c.args.server c.chunk.new.self c.chunk.ensures.settings
    ((c.may_send.ensures.sends c.if-not-may_send.false).chunk c.as_slice.result.now) c.in_ok-chunk-in-Bytes.ensures.stands))

pub returns-in-Trailers-clause-goes : goal.returns-in-Trailers-clause-goes
returns-in-Trailers-clause-goes c = client_done (record c.args.self.now { server = Some c.args.server }) c.next_bytes.new.client (subst (λ (n : Pulled). BringsPulled n c.args.self.now.client c.next_bytes.new.client) c.in-Trailers.is c.in_ok-bytes.ensures.brings)

pub returns-in-End-clause-goes : goal.returns-in-End-clause-goes
returns-in-End-clause-goes c =
    ends c.args.self.now c.args.sent c.whole.result c.next_bytes.new.client c.args.server c.end_body.new.self c.requires.runs c.whole.ensures.whole c.whole.ensures.broken (subst (λ (n : Pulled). BringsPulled n c.args.self.now.client c.next_bytes.new.client) c.in-End.is c.in_ok-bytes.ensures.brings)
    (server_did asked.body_end c.args.server c.end_body.new.self c.end_body.ensures.settings (c.may_send.ensures.sends c.if-not-may_send.false).ends c.in_ok-end_body-in-End.ensures.stands)

pub returns-in-Broken-clause-goes : goal.returns-in-Broken-clause-goes
returns-in-Broken-clause-goes c =
    goes_then _ _ _ (breaks _ c.args.self.now c.args.sent c.next_bytes.new.client c.args.server c.requires.runs (subst (λ (n : Pulled). BringsPulled n c.args.self.now.client c.next_bytes.new.client) c.in-Broken.is c.in_ok-bytes.ensures.brings)) c.in_ok-break_body-in-Broken.ensures.goes

pub returns-clause-goes : goal.returns-clause-goes
returns-clause-goes c = client_done (record c.args.self.now { server = Some c.args.server }) c.next_bytes.new.client (subst (λ (n : Pulled). BringsPulled n c.args.self.now.client c.next_bytes.new.client) c.in-Pending.is c.in_ok-bytes.ensures.brings)

pub returns-then-not-may_send-clause-works : goal.returns-then-not-may_send-clause-works
returns-then-not-may_send-clause-works c = body_same c.args.sent c.args.server c.args.self.now c.requires.runs (c.may_send.ensures.none c.if-not-may_send.true)

pub returns-in-Bytes-clause-works : goal.returns-in-Bytes-clause-works
returns-in-Bytes-clause-works c =
    let p = record c.args.self.now { server = Some c.args.server } in
    let q = record p { client = c.next_bytes.new.client } in
    works 15 p _ (omega arith)
    (less_then 15 p q _ (client_much_less 15 (on.bytes c.in-Bytes.bytes) p c.next_bytes.new.client (subst (λ (n : Pulled). BringsPulled n c.args.self.now.client c.next_bytes.new.client) c.in-Bytes.is c.in_ok-bytes.ensures.brings) (subst (λ (n : Pulled). LeavesPulled n c.args.self.now.client c.next_bytes.new.client) c.in-Bytes.is c.in_ok-bytes.ensures.leaves))
    (server_same (asked.chunk c.as_slice.result.now) _ q c.args.server c.chunk.new.self tt c.in_ok-chunk-in-Bytes.ensures.stands))

pub returns-in-Trailers-clause-works : goal.returns-in-Trailers-clause-works
returns-in-Trailers-clause-works c =
    let p = record c.args.self.now { server = Some c.args.server } in
    works 1 p _ (omega arith)
    (client_much_less 1 on.done p c.next_bytes.new.client (subst (λ (n : Pulled). BringsPulled n c.args.self.now.client c.next_bytes.new.client) c.in-Trailers.is c.in_ok-bytes.ensures.brings)
    (λ trace stands. let less = subst (λ (n : Pulled). LeavesPulled n c.args.self.now.client c.next_bytes.new.client) c.in-Trailers.is c.in_ok-bytes.ensures.leaves trace stands in omega (arith, less)))

pub returns-in-End-clause-works : goal.returns-in-End-clause-works
returns-in-End-clause-works c =
    let p = record c.args.self.now { server = Some c.args.server } in
    let q = record p { client = c.next_bytes.new.client } in
    let r = record q { server = Some c.end_body.new.self } in
    let two = c.may_send.ensures.more c.if-not-may_send.false in
    works 1 p _ (omega arith)
    (then_less 1 p q _ (client_less on.body_ended p c.next_bytes.new.client (subst (λ (n : Pulled). BringsPulled n c.args.self.now.client c.next_bytes.new.client) c.in-End.is c.in_ok-bytes.ensures.brings))
    (then_less 1 q r _ (server_same asked.body_end _ q c.args.server c.end_body.new.self tt c.in_ok-end_body-in-End.ensures.stands)
    (remarked 1 r c.args.sent c.whole.result (record { unsent = c.requires.runs.unsent; sent = c.requires.runs.sent }) (whole_mark c.args.sent c.whole.result two.0 two.1 c.whole.ensures.whole))))

pub returns-in-Broken-clause-works : goal.returns-in-Broken-clause-works
returns-in-Broken-clause-works c =
    let p = record c.args.self.now { server = Some c.args.server } in
    let q = record p { client = c.next_bytes.new.client } in
    let two = c.may_send.ensures.more c.if-not-may_send.false in
    works 1 p _ (omega arith)
    (then_less 1 p q _ (client_less _ p c.next_bytes.new.client (subst (λ (n : Pulled). BringsPulled n c.args.self.now.client c.next_bytes.new.client) c.in-Broken.is c.in_ok-bytes.ensures.brings)) (c.in_ok-break_body-in-Broken.ensures.works two.0 two.1))

pub returns-clause-works : goal.returns-clause-works
returns-clause-works c =
    body_waits c.args.sent c.args.server c.args.self.now c.next_bytes.new.client c.requires.runs (subst (λ (n : Pulled). BringsPulled n c.args.self.now.client c.next_bytes.new.client) c.in-Pending.is c.in_ok-bytes.ensures.brings) (subst (λ (n : Pulled). LeavesPulled n c.args.self.now.client c.next_bytes.new.client) c.in-Pending.is c.in_ok-bytes.ensures.leaves)

pub returns-then-not-may_send-clause-serves : goal.returns-then-not-may_send-clause-serves
returns-then-not-may_send-clause-serves c = with_server c.args.self.now (Some c.args.server)

pub returns-in-Bytes-clause-serves : goal.returns-in-Bytes-clause-serves
returns-in-Bytes-clause-serves c = λ s.
    with_server (record c.args.self.now { client = c.next_bytes.new.client }) (Some c.chunk.new.self)
    (client_serves (on.bytes c.in-Bytes.bytes) c.args.self.now c.next_bytes.new.client (subst (λ (n : Pulled). BringsPulled n c.args.self.now.client c.next_bytes.new.client) c.in-Bytes.is c.in_ok-bytes.ensures.brings) c.in_ok-bytes.ensures.wants s)

pub returns-in-Trailers-clause-serves : goal.returns-in-Trailers-clause-serves
returns-in-Trailers-clause-serves c = λ s.
    with_server (record c.args.self.now { client = c.next_bytes.new.client }) (Some c.args.server)
    (client_serves on.done c.args.self.now c.next_bytes.new.client (subst (λ (n : Pulled). BringsPulled n c.args.self.now.client c.next_bytes.new.client) c.in-Trailers.is c.in_ok-bytes.ensures.brings) c.in_ok-bytes.ensures.wants s)

pub returns-in-End-clause-serves : goal.returns-in-End-clause-serves
returns-in-End-clause-serves c = λ s.
    let q = record c.args.self.now { client = c.next_bytes.new.client } in
    let r = record q { server = Some c.end_body.new.self } in
    resent_serves r c.args.sent c.whole.result (record { unsent = c.requires.runs.unsent; sent = c.requires.runs.sent }) c.whole.ensures.marks
    (with_server q (Some c.end_body.new.self)
    (client_serves on.body_ended c.args.self.now c.next_bytes.new.client (subst (λ (n : Pulled). BringsPulled n c.args.self.now.client c.next_bytes.new.client) c.in-End.is c.in_ok-bytes.ensures.brings) c.in_ok-bytes.ensures.wants s))

pub returns-in-Broken-clause-serves : goal.returns-in-Broken-clause-serves
returns-in-Broken-clause-serves c = λ s.
    c.in_ok-break_body-in-Broken.ensures.serves (client_serves _ c.args.self.now c.next_bytes.new.client (subst (λ (n : Pulled). BringsPulled n c.args.self.now.client c.next_bytes.new.client) c.in-Broken.is c.in_ok-bytes.ensures.brings) c.in_ok-bytes.ensures.wants s)

pub returns-clause-serves : goal.returns-clause-serves
returns-clause-serves c = λ s.
    with_server (record c.args.self.now { client = c.next_bytes.new.client }) (Some c.args.server)
    (client_serves on.done c.args.self.now c.next_bytes.new.client (subst (λ (n : Pulled). BringsPulled n c.args.self.now.client c.next_bytes.new.client) c.in-Pending.is c.in_ok-bytes.ensures.brings) c.in_ok-bytes.ensures.wants s)

pub returns-then-not-may_send-clause-replies : goal.returns-then-not-may_send-clause-replies
returns-then-not-may_send-clause-replies c =
    inl (
      puts_none c.args.self.now.client,
      goes_as (record c.args.self.now { server = Some c.args.server }) c.args.sent c.args.server c.args.server (marks_of c.args.sent) []
          (record { unsent = c.requires.runs.unsent; sent = c.requires.runs.sent }) refl refl (hands_same c.args.server),
      c.requires.runs.sent,
    )

pub returns-in-Bytes-clause-replies : goal.returns-in-Bytes-clause-replies
returns-in-Bytes-clause-replies c =
    inr (inl (
      c.in-Bytes.bytes,
      subst (λ (n : Pulled). HandsPulled n c.args.self.now.client c.next_bytes.new.client) c.in-Bytes.is c.in_ok-bytes.ensures.hands,
      record {
        runs = record { unsent = c.requires.runs.unsent; sent = c.requires.runs.sent };
        mid = c.args.server;
        quiet = hands_same c.args.server;
        after = c.chunk.new.self;
        is_there = refl;
        did =
            did_chunk c.in-Bytes.bytes c.as_slice.result.now c.args.server c.chunk.new.self c.as_slice.ensures
            (server_did (asked.chunk c.as_slice.result.now) c.args.server c.chunk.new.self c.chunk.ensures.settings
            ((c.may_send.ensures.sends c.if-not-may_send.false).chunk c.as_slice.result.now) c.in_ok-chunk-in-Bytes.ensures.stands);
      },
    ))

pub returns-in-Trailers-clause-replies : goal.returns-in-Trailers-clause-replies
returns-in-Trailers-clause-replies c =
    inl (
      subst (λ (n : Pulled). HandsPulled n c.args.self.now.client c.next_bytes.new.client) c.in-Trailers.is c.in_ok-bytes.ensures.hands,
      goes_as (record c.args.self.now { client = c.next_bytes.new.client; server = Some c.args.server }) c.args.sent c.args.server c.args.server (marks_of c.args.sent) []
          (record { unsent = c.requires.runs.unsent; sent = c.requires.runs.sent }) refl refl (hands_same c.args.server),
      c.requires.runs.sent,
    )

pub returns-in-End-clause-replies : goal.returns-in-End-clause-replies
returns-in-End-clause-replies c =
    inr (inr (inl (
      subst (λ (n : Pulled). HandsPulled n c.args.self.now.client c.next_bytes.new.client) c.in-End.is c.in_ok-bytes.ensures.hands,
      record {
        runs = record { unsent = c.requires.runs.unsent; sent = ap Some c.whole.ensures.same };
        mid = c.args.server;
        quiet = hands_same c.args.server;
        after = c.end_body.new.self;
        is_there = refl;
        did =
            server_did asked.body_end c.args.server c.end_body.new.self c.end_body.ensures.settings
            (c.may_send.ensures.sends c.if-not-may_send.false).ends c.in_ok-end_body-in-End.ensures.stands;
      },
    )))

pub returns-in-Broken-clause-replies : goal.returns-in-Broken-clause-replies
returns-in-Broken-clause-replies c =
    body_breaks c.break_body.new.self c.args.sent c.args.server c.args.self.now.client c.next_bytes.new.client _
    (subst (λ (n : Pulled). HandsPulled n c.args.self.now.client c.next_bytes.new.client) c.in-Broken.is c.in_ok-bytes.ensures.hands)
    c.in_ok-break_body-in-Broken.ensures.replies

pub returns-clause-replies : goal.returns-clause-replies
returns-clause-replies c =
    inl (
      subst (λ (n : Pulled). HandsPulled n c.args.self.now.client c.next_bytes.new.client) c.in-Pending.is c.in_ok-bytes.ensures.hands,
      goes_as (record c.args.self.now { client = c.next_bytes.new.client; server = Some c.args.server }) c.args.sent c.args.server c.args.server (marks_of c.args.sent) []
          (record { unsent = c.requires.runs.unsent; sent = c.requires.runs.sent }) refl refl (hands_same c.args.server),
      c.requires.runs.sent,
    )

pub returns-then-not-may_send-clause-below : goal.returns-then-not-may_send-clause-below
returns-then-not-may_send-clause-below c = below_same (Some c.args.server)

pub returns-in-Bytes-clause-below : goal.returns-in-Bytes-clause-below
returns-in-Bytes-clause-below c = λ much. no_room c.args.server (c.may_send.ensures.room c.if-not-may_send.false) much

pub returns-in-Trailers-clause-below : goal.returns-in-Trailers-clause-below
returns-in-Trailers-clause-below c = λ much. no_room c.args.server (c.may_send.ensures.room c.if-not-may_send.false) much

pub returns-in-End-clause-below : goal.returns-in-End-clause-below
returns-in-End-clause-below c = λ much. no_room c.args.server (c.may_send.ensures.room c.if-not-may_send.false) much

pub returns-in-Broken-clause-below : goal.returns-in-Broken-clause-below
returns-in-Broken-clause-below c = below_room c.args.server _ (c.may_send.ensures.room c.if-not-may_send.false)

pub returns-clause-below : goal.returns-clause-below
returns-clause-below c = λ much. no_room c.args.server (c.may_send.ensures.room c.if-not-may_send.false) much
