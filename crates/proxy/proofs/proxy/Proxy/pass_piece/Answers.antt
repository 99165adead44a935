use Rattle.std.proofs.Common.{Some}
use Rattle.proxy.proofs.Moves.{goes_then, closes, server_moves, client_done}
use Rattle.std.proofs.Common.{None, arith, [], sym, ◌∙◌}
use Rattle.std.proofs.lemmas.Bool.{false≢true, true≢false}
use Rattle.model_h1.specs.Event as on
use Rattle.proxy.proofs.Work.{works, less_same, less_then, then_less, client_less, server_less, server_much_less, closed_less, drop_sent, over_sent, then_told, sent_rests}
use Rattle.std.proofs.Common.{subst}
use Rattle.h1_payload.specs.declared.pulled.Pulled.{Pulled}
use Rattle.proxy.specs.Leaves.{LeavesPiece}
use Rattle.proxy.proofs.Served.{client_serves, with_server, serves_of_sent}
use Rattle.std.proofs.Common.{refl}
use Rattle.proxy.proofs.Replies.{body_replies, body_before, piece_replies, trailers_reply, end_replies, fails_replies, broken_lacks}
use Rattle.proxy.specs.Puts.{HandsPiece}
use Rattle.proxy.proofs.Below.{below_kept, fails_below}
use Rattle.proxy.proofs.proxy.Proxy.pass_piece.Goals as goal

pub pass_body-requires : goal.pass_body-requires
pass_body-requires c = c.requires

pub end_reply-requires : goal.end_reply-requires
end_reply-requires c = c.requires

pub fail-requires : goal.fail-requires
fail-requires c = record { unsent = c.requires.runs.unsent }

pub pass_body-requires-in-Pending : goal.pass_body-requires-in-Pending
pass_body-requires-in-Pending c = c.requires

pub returns-in_ok-put_piece-in-Bytes-clause-goes : goal.returns-in_ok-put_piece-in-Bytes-clause-goes
returns-in_ok-put_piece-in-Bytes-clause-goes c =
    goes_then _ _ _ (server_moves c.args.self.now c.args.server c.next_piece.new.server c.in_ok-bytes.ensures.stays c.in_ok-bytes.ensures.time)
    (client_done (record c.args.self.now { server = Some c.next_piece.new.server }) c.put_piece.new.client c.in_ok-put_piece-in-Bytes.ensures.brings)

pub returns-in-Trailers-clause-goes : goal.returns-in-Trailers-clause-goes
returns-in-Trailers-clause-goes c = server_moves c.args.self.now c.args.server c.next_piece.new.server c.in_ok-bytes.ensures.stays c.in_ok-bytes.ensures.time

pub returns-in_ok-end_reply-in-End-clause-goes : goal.returns-in_ok-end_reply-in-End-clause-goes
returns-in_ok-end_reply-in-End-clause-goes c =
    goes_then _ _ _ (server_moves c.args.self.now c.args.server c.next_piece.new.server c.in_ok-bytes.ensures.stays c.in_ok-bytes.ensures.time) c.in_ok-end_reply-in-End.ensures.goes

pub returns-in_ok-fail-in-Broken-clause-goes : goal.returns-in_ok-fail-in-Broken-clause-goes
returns-in_ok-fail-in-Broken-clause-goes c = goes_then _ _ _ (closes (record c.args.self.now { server = Some c.args.server })) c.in_ok-fail-in-Broken.ensures.goes

pub returns-in_ok-more-in-Pending-clause-goes : goal.returns-in_ok-more-in-Pending-clause-goes
returns-in_ok-more-in-Pending-clause-goes c =
    goes_then _ _ _ (server_moves c.args.self.now c.args.server c.next_piece.new.server c.in_ok-bytes.ensures.stays c.in_ok-bytes.ensures.time) c.in_ok-more-in-Pending.ensures.goes

pub returns-then-not-can_chunk-clause-works : goal.returns-then-not-can_chunk-clause-works
returns-then-not-can_chunk-clause-works c = λ answered.
    then_told c.args.sent c.args.server c.in_ok-moved.moved c.args.server c.args.self.now c.pass_body.new.self
    (less_same (record c.args.self.now { server = Some c.args.server })) c.in_ok-moved.ensures.works
    (λ told rests. sent_rests c.args.sent c.args.server c.args.self.now c.pass_body.new.self rests
    (λ is. absurd (false≢true (sym is ∙ answered)))
    (λ _ may. absurd (true≢false (sym (may []) ∙ sym (c.can_chunk.ensures []) ∙ c.if-not-can_chunk.true))))

pub returns-in_ok-put_piece-in-Bytes-clause-works : goal.returns-in_ok-put_piece-in-Bytes-clause-works
returns-in_ok-put_piece-in-Bytes-clause-works c = λ answered.
    let p = record c.args.self.now { server = Some c.next_piece.new.server } in
    works 15 _ _ (omega arith)
    (less_then 15 (record c.args.self.now { server = Some c.args.server }) p _
    (server_much_less 15 c.args.self.now c.args.server c.next_piece.new.server c.in_ok-bytes.ensures.stays (subst (λ (n : Pulled). LeavesPiece n c.args.server c.next_piece.new.server) c.in-Bytes.is c.in_ok-bytes.ensures.leaves))
    (client_less on.done p c.put_piece.new.client c.in_ok-put_piece-in-Bytes.ensures.brings))

pub returns-in-Trailers-clause-works : goal.returns-in-Trailers-clause-works
returns-in-Trailers-clause-works c = λ answered.
    works 1 _ _ (omega arith)
    (server_much_less 1 c.args.self.now c.args.server c.next_piece.new.server c.in_ok-bytes.ensures.stays
    (λ trace stands. let less = subst (λ (n : Pulled). LeavesPiece n c.args.server c.next_piece.new.server) c.in-Trailers.is c.in_ok-bytes.ensures.leaves trace stands in omega (arith, less)))

pub returns-in_ok-end_reply-in-End-clause-works : goal.returns-in_ok-end_reply-in-End-clause-works
returns-in_ok-end_reply-in-End-clause-works c = λ answered.
    let p = record c.args.self.now { server = Some c.args.server } in
    let q = record c.args.self.now { server = Some c.next_piece.new.server } in
    works 1 _ _ (omega arith)
    (then_less 1 p q _ (server_less c.args.self.now c.args.server c.next_piece.new.server c.in_ok-bytes.ensures.stays)
    (less_then 1 q (record q { sent = None }) _ (over_sent q c.args.sent (record { unsent = c.requires.runs.unsent; sent = c.requires.runs.sent })) c.in_ok-end_reply-in-End.ensures.works))

pub returns-in_ok-fail-in-Broken-clause-works : goal.returns-in_ok-fail-in-Broken-clause-works
returns-in_ok-fail-in-Broken-clause-works c = λ answered.
    let p = record c.args.self.now { server = None } in
    works 1 _ _ (omega arith)
    (less_then 1 (record c.args.self.now { server = Some c.args.server }) p _ (closed_less c.args.self.now c.args.server)
    (less_then 0 p (record p { sent = None }) _ (drop_sent p) c.in_ok-fail-in-Broken.ensures.works))

pub returns-in_ok-more-in-Pending-clause-works : goal.returns-in_ok-more-in-Pending-clause-works
returns-in_ok-more-in-Pending-clause-works c = λ answered.
    then_told c.args.sent c.next_piece.new.server c.in_ok-more-in-Pending.more c.args.server c.args.self.now c.pass_body-in-Pending.new.self
    (server_less c.args.self.now c.args.server c.next_piece.new.server c.in_ok-bytes.ensures.stays) c.in_ok-more-in-Pending.ensures.works
    (λ told rests. sent_rests c.args.sent c.next_piece.new.server c.args.self.now c.pass_body-in-Pending.new.self rests
    (λ is. absurd (false≢true (sym is ∙ answered))) (λ _ may. subst (λ (n : Pulled). LeavesPiece n c.args.server c.next_piece.new.server) c.in-Pending.is c.in_ok-bytes.ensures.leaves told.server.0 told.server.1))

pub returns-then-not-can_chunk-clause-serves : goal.returns-then-not-can_chunk-clause-serves
returns-then-not-can_chunk-clause-serves c = λ _. c.in_ok-moved.ensures.serves

pub returns-in_ok-put_piece-in-Bytes-clause-serves : goal.returns-in_ok-put_piece-in-Bytes-clause-serves
returns-in_ok-put_piece-in-Bytes-clause-serves c = λ _ s.
    with_server (record c.args.self.now { client = c.put_piece.new.client }) (Some c.next_piece.new.server)
    (client_serves on.done c.args.self.now c.put_piece.new.client c.in_ok-put_piece-in-Bytes.ensures.brings c.in_ok-put_piece-in-Bytes.ensures.wants s)

pub returns-in-Trailers-clause-serves : goal.returns-in-Trailers-clause-serves
returns-in-Trailers-clause-serves c = λ _. with_server c.args.self.now (Some c.next_piece.new.server)

pub returns-in_ok-end_reply-in-End-clause-serves : goal.returns-in_ok-end_reply-in-End-clause-serves
returns-in_ok-end_reply-in-End-clause-serves c = c.in_ok-end_reply-in-End.ensures.serves

pub returns-in_ok-fail-in-Broken-clause-serves : goal.returns-in_ok-fail-in-Broken-clause-serves
returns-in_ok-fail-in-Broken-clause-serves c = λ _. serves_of_sent c.args.self.now _ c.args.sent c.requires.runs.sent c.in_ok-fail-in-Broken.ensures.serves

pub returns-in_ok-more-in-Pending-clause-serves : goal.returns-in_ok-more-in-Pending-clause-serves
returns-in_ok-more-in-Pending-clause-serves c = λ _. c.in_ok-more-in-Pending.ensures.serves

pub returns-then-not-can_chunk-clause-replies : goal.returns-then-not-can_chunk-clause-replies
returns-then-not-can_chunk-clause-replies c = λ answered.
    body_replies c.args.self.now c.pass_body.new.self c.args.sent c.args.server c.requires.runs
    (λ unanswered. absurd (false≢true (sym unanswered ∙ answered))) c.in_ok-moved.ensures.replies

pub returns-in_ok-put_piece-in-Bytes-clause-replies : goal.returns-in_ok-put_piece-in-Bytes-clause-replies
returns-in_ok-put_piece-in-Bytes-clause-replies c = λ answered.
    piece_replies c.args.self.now (record c.args.self.now { client = c.put_piece.new.client; server = Some c.next_piece.new.server }) c.args.sent c.args.server
    c.next_piece.new.server c.in-Bytes.bytes c.requires.runs answered (subst (λ (n : Pulled). HandsPiece n c.args.server c.next_piece.new.server) c.in-Bytes.is c.in_ok-bytes.ensures.hands)
    (record { unsent = c.requires.runs.unsent; sent = c.requires.runs.sent }) refl c.in_ok-put_piece-in-Bytes.ensures.puts
    (λ refused. false≢true (sym refused ∙ sym (c.can_chunk.ensures c.in-Bytes.bytes) ∙ c.if-not-can_chunk.false))

pub returns-in-Trailers-clause-replies : goal.returns-in-Trailers-clause-replies
returns-in-Trailers-clause-replies c = λ answered.
    trailers_reply c.args.self.now (record c.args.self.now { server = Some c.next_piece.new.server }) c.args.sent c.args.server c.next_piece.new.server
    c.requires.runs (subst (λ (n : Pulled). HandsPiece n c.args.server c.next_piece.new.server) c.in-Trailers.is c.in_ok-bytes.ensures.hands)
    (record { unsent = c.requires.runs.unsent; sent = c.requires.runs.sent }) refl refl

pub returns-in_ok-end_reply-in-End-clause-replies : goal.returns-in_ok-end_reply-in-End-clause-replies
returns-in_ok-end_reply-in-End-clause-replies c = λ answered.
    end_replies c.args.self.now c.end_reply.new.self c.args.sent c.args.server c.next_piece.new.server c.requires.runs answered
    (subst (λ (n : Pulled). HandsPiece n c.args.server c.next_piece.new.server) c.in-End.is c.in_ok-bytes.ensures.hands)
    c.in_ok-end_reply-in-End.ensures.replies c.in_ok-end_reply-in-End.ensures.over

pub returns-in_ok-fail-in-Broken-clause-replies : goal.returns-in_ok-fail-in-Broken-clause-replies
returns-in_ok-fail-in-Broken-clause-replies c = λ answered.
    fails_replies c.args.self.now c.fail.new.self c.args.sent (Some c.args.server) c.requires.runs
    (λ unanswered. absurd (false≢true (sym unanswered ∙ answered)))
    (λ _. broken_lacks c.args.server c.next_piece.new.server _ (subst (λ (n : Pulled). HandsPiece n c.args.server c.next_piece.new.server) c.in-Broken.is c.in_ok-bytes.ensures.hands))
    c.in_ok-fail-in-Broken.ensures.replies

pub returns-in_ok-more-in-Pending-clause-replies : goal.returns-in_ok-more-in-Pending-clause-replies
returns-in_ok-more-in-Pending-clause-replies c = λ answered.
    body_replies c.args.self.now c.pass_body-in-Pending.new.self c.args.sent c.args.server c.requires.runs
    (λ unanswered. absurd (false≢true (sym unanswered ∙ answered)))
    (body_before c.args.self.now.client c.pass_body-in-Pending.new.self c.args.sent c.args.server c.next_piece.new.server
    (subst (λ (n : Pulled). HandsPiece n c.args.server c.next_piece.new.server) c.in-Pending.is c.in_ok-bytes.ensures.hands) c.in_ok-more-in-Pending.ensures.replies)

pub returns-in_ok-put_piece-in-Bytes-clause-below : goal.returns-in_ok-put_piece-in-Bytes-clause-below
returns-in_ok-put_piece-in-Bytes-clause-below c = λ much. c.in_ok-bytes.ensures.waits

pub returns-in-Trailers-clause-below : goal.returns-in-Trailers-clause-below
returns-in-Trailers-clause-below c = λ much. c.in_ok-bytes.ensures.waits

pub returns-in_ok-end_reply-in-End-clause-below : goal.returns-in_ok-end_reply-in-End-clause-below
returns-in_ok-end_reply-in-End-clause-below c = below_kept c.args.server c.next_piece.new.server _ c.in_ok-bytes.ensures.waits c.in_ok-end_reply-in-End.ensures.below

pub returns-in_ok-fail-in-Broken-clause-below : goal.returns-in_ok-fail-in-Broken-clause-below
returns-in_ok-fail-in-Broken-clause-below c = fails_below c.args.sent.is_answered _ (Some c.args.server) _ c.in_ok-fail-in-Broken.ensures.replies

pub returns-in_ok-more-in-Pending-clause-below : goal.returns-in_ok-more-in-Pending-clause-below
returns-in_ok-more-in-Pending-clause-below c = below_kept c.args.server c.next_piece.new.server _ c.in_ok-bytes.ensures.waits c.in_ok-more-in-Pending.ensures.below
