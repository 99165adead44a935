use Rattle.std.proofs.Common.{None}
use Rattle.proxy.proofs.Moves.{goes_then, of_server, closes, closes_as, told_moves, asks}
use Rattle.proxy.proofs.Done.{did_ask}
use Rattle.std.proofs.Common.{sym, ap, ◌∙◌, inl, inr, Some, true, arith, refl}
use Rattle.proxy.proofs.Work.{over_less, waits_rests, works, works_of_server, then_less, less_then, server_less, server_asks, sent_less, over_as, noted_less}
use Rattle.h1_encoder.specs.Meaning.{size_of}
use Rattle.h1_client.specs.ClientMeaning.{request_of}
use Rattle.proxy.proofs.Served.{with_server, noted_serves, sent_serves}
use Rattle.proxy.specs.Replies.{sent_on}
use Rattle.proxy.proofs.BodyMarks.{same_body}
use Rattle.proxy.proofs.Replies.{no_part_put, unsent_cause, same_puts, noted_client}
use Rattle.proxy.proofs.Puts.{puts_none}
use Rattle.proxy.proofs.Fresh.{read_all, waits_as, cannot_used, cannot_none, cannot_refused, used_some, unused_closes}
use Rattle.proxy.specs.Fresh.{is_server_used}
use Rattle.proxy.proofs.Times.{dated}
use Rattle.proxy.proofs.Below.{below_none, sends_below}
use Rattle.proxy.proofs.proxy.Proxy.send.Goals as goal

pub returns-then-is_server_used-clause-goes : goal.returns-then-is_server_used-clause-goes
returns-then-is_server_used-clause-goes c = closes (record c.args.self.now { unsent = Some c.args.unsent })

pub returns-in_default-clause-goes : goal.returns-in_default-clause-goes
returns-in_default-clause-goes c = closes_as (record c.args.self.now { unsent = Some c.args.unsent }) c.take.new.self c.take.ensures.after

pub returns-then-branch-clause-goes : goal.returns-then-branch-clause-goes
returns-then-branch-clause-goes c =
    let p = record c.args.self.now { unsent = Some c.args.unsent } in
    let s = c.in-Some.server in
    let t = c.tell_time.new.server in
    of_server p _ s (sym c.in-Some.ensures.value)
    (goes_then _ _ _ (told_moves p s t c.tell_time.ensures.stays c.tell_time.ensures.told)
    (goes_then _ _ _
    (asks p c.args.unsent t c.ask.new.server (did_ask _ (request_of c.args.unsent.head) (size_of c.args.unsent.size) t c.ask.new.server c.if-branch.true c.in_ok-ask.ensures))
    c.note_unsent.ensures.goes))

pub returns-clause-goes : goal.returns-clause-goes
returns-clause-goes c = closes_as (record c.args.self.now { unsent = Some c.args.unsent }) c.take.new.self c.take.ensures.after

pub returns-then-is_server_used-clause-works : goal.returns-then-is_server_used-clause-works
returns-then-is_server_used-clause-works c =
    works 1 _ _ (omega arith) (over_less (record c.args.self.now { unsent = Some c.args.unsent }) (used_some c.args.self.now.server (sym c.is_server_used.ensures ∙ c.if-is_server_used.true)))

pub returns-in_default-clause-works : goal.returns-in_default-clause-works
returns-in_default-clause-works c = waits_rests c.args.self.now c.args.unsent c.take.new.self (sym c.in_default.ensures.value) c.take.ensures.after

pub returns-then-branch-clause-works : goal.returns-then-branch-clause-works
returns-then-branch-clause-works c =
    let p = record c.args.self.now { unsent = Some c.args.unsent } in
    let s = c.in-Some.server in
    let t = c.tell_time.new.server in
    let u = c.ask.new.server in
    works_of_server true p _ (Some s) (sym c.in-Some.ensures.value)
    (works 1 (record p { server = Some s }) _ (omega arith)
    (then_less 1 (record p { server = Some s }) (record p { server = Some t }) _ (server_less p s t c.tell_time.ensures.stays)
    (then_less 1 (record p { server = Some t }) (record p { server = Some u }) _ (server_asks p c.args.unsent t u (did_ask _ (request_of c.args.unsent.head) (size_of c.args.unsent.size) t c.ask.new.server c.if-branch.true c.in_ok-ask.ensures))
    (less_then 1 (record p { server = Some u }) _ _ (sent_less (record p { server = Some u }) c.args.unsent) (noted_less _ _ c.note_unsent.ensures.noted)))))

pub returns-clause-works : goal.returns-clause-works
returns-clause-works c =
    works 1 _ _ (omega arith) (over_as (record c.args.self.now { unsent = Some c.args.unsent }) c.in-Some.server c.take.new.self (sym c.in-Some.ensures.value) c.take.ensures.after)

pub returns-then-is_server_used-clause-serves : goal.returns-then-is_server_used-clause-serves
returns-then-is_server_used-clause-serves c = with_server (record c.args.self.now { unsent = Some c.args.unsent }) None

pub returns-in_default-clause-serves : goal.returns-in_default-clause-serves
returns-in_default-clause-serves c = with_server (record c.args.self.now { unsent = Some c.args.unsent }) c.take.new.self

pub returns-then-branch-clause-serves : goal.returns-then-branch-clause-serves
returns-then-branch-clause-serves c = λ s.
    noted_serves (record c.args.self.now { unsent = None; sent = Some c.args.unsent.sent; server = Some c.ask.new.server }) _ c.note_unsent.ensures.noted
    (sent_serves c.args.self.now c.args.unsent (Some c.ask.new.server) s)

pub returns-clause-serves : goal.returns-clause-serves
returns-clause-serves c = with_server (record c.args.self.now { unsent = Some c.args.unsent }) c.take.new.self

pub returns-then-is_server_used-clause-replies : goal.returns-then-is_server_used-clause-replies
returns-then-is_server_used-clause-replies c =
    no_part_put (record c.args.self.now { unsent = Some c.args.unsent }) _ (unsent_cause c.args.self.now _ c.args.unsent) (puts_none c.args.self.now.client)
    (same_body (record c.args.self.now { unsent = Some c.args.unsent }) (record c.args.self.now { server = None; unsent = Some c.args.unsent }) refl) refl

pub returns-in_default-clause-replies : goal.returns-in_default-clause-replies
returns-in_default-clause-replies c =
    no_part_put (record c.args.self.now { unsent = Some c.args.unsent }) _ (unsent_cause c.args.self.now _ c.args.unsent) (puts_none c.args.self.now.client)
    (same_body (record c.args.self.now { unsent = Some c.args.unsent }) (record c.args.self.now { server = c.take.new.self; unsent = Some c.args.unsent }) refl) refl

pub returns-then-branch-clause-replies : goal.returns-then-branch-clause-replies
returns-then-branch-clause-replies c =
    let t = c.tell_time.new.server in
    let is = sym c.in-Some.ensures.value in (
      sent_on,
      (
        c.args.unsent,
        refl,
        record {
          server = c.in-Some.server;
          is_there = is;
          read = read_all c.in-Some.server (sym (ap is_server_used is) ∙ sym c.is_server_used.ensures ∙ c.if-is_server_used.false);
          told = t;
          tells = c.tell_time.ensures.told;
          dated =
              dated (record c.args.self.now { unsent = Some c.args.unsent }) c.in-Some.server t is
              (sym (ap is_server_used is) ∙ sym c.is_server_used.ensures ∙ c.if-is_server_used.false) c.tell_time.ensures.told;
          after = c.ask.new.server;
          asks = did_ask _ (request_of c.args.unsent.head) (size_of c.args.unsent.size) t c.ask.new.server c.if-branch.true c.in_ok-ask.ensures;
          noted = c.note_unsent.ensures.noted;
        },
      ),
      same_puts c.args.self.now.client _
          (noted_client (record c.args.self.now { unsent = None; sent = Some c.args.unsent.sent; server = Some c.ask.new.server }) _ c.note_unsent.ensures.noted),
      λ a b here there. tt,
      tt,
    )

pub returns-clause-replies : goal.returns-clause-replies
returns-clause-replies c =
    no_part_put (record c.args.self.now { unsent = Some c.args.unsent }) _ (unsent_cause c.args.self.now _ c.args.unsent) (puts_none c.args.self.now.client)
    (same_body (record c.args.self.now { unsent = Some c.args.unsent }) (record c.args.self.now { server = c.take.new.self; unsent = Some c.args.unsent }) refl) refl

pub returns-then-is_server_used-clause-sends : goal.returns-then-is_server_used-clause-sends
returns-then-is_server_used-clause-sends c =
    inr (waits_as c.args.unsent (record c.args.self.now { unsent = Some c.args.unsent }) None refl
    (cannot_used c.args.unsent c.args.self.now.moment c.args.self.now.server (sym c.is_server_used.ensures ∙ c.if-is_server_used.true)))

pub returns-in_default-clause-sends : goal.returns-in_default-clause-sends
returns-in_default-clause-sends c =
    inr (waits_as c.args.unsent (record c.args.self.now { unsent = Some c.args.unsent }) c.take.new.self c.take.ensures.after
    (cannot_none c.args.unsent c.args.self.now.moment c.args.self.now.server (sym c.in_default.ensures.value)))

pub returns-then-branch-clause-sends : goal.returns-then-branch-clause-sends
returns-then-branch-clause-sends c =
    let t = c.tell_time.new.server in
    let is = sym c.in-Some.ensures.value in
    inl (record {
      server = c.in-Some.server;
      is_there = is;
      read = read_all c.in-Some.server (sym (ap is_server_used is) ∙ sym c.is_server_used.ensures ∙ c.if-is_server_used.false);
      told = t;
      tells = c.tell_time.ensures.told;
      dated =
          dated (record c.args.self.now { unsent = Some c.args.unsent }) c.in-Some.server t is
          (sym (ap is_server_used is) ∙ sym c.is_server_used.ensures ∙ c.if-is_server_used.false) c.tell_time.ensures.told;
      after = c.ask.new.server;
      asks = did_ask _ (request_of c.args.unsent.head) (size_of c.args.unsent.size) t c.ask.new.server c.if-branch.true c.in_ok-ask.ensures;
      noted = c.note_unsent.ensures.noted;
    })

pub returns-clause-sends : goal.returns-clause-sends
returns-clause-sends c =
    inr (waits_as c.args.unsent (record c.args.self.now { unsent = Some c.args.unsent }) c.take.new.self c.take.ensures.after
    (cannot_refused c.args.unsent c.args.self.now.moment c.args.self.now.server c.in-Some.server c.tell_time.new.server c.ask.new.server _
    (sym c.in-Some.ensures.value) c.tell_time.ensures.told c.in_ok-ask.ensures c.if-branch.false))

pub returns-then-is_server_used-clause-closes : goal.returns-then-is_server_used-clause-closes
returns-then-is_server_used-clause-closes c = λ over none. refl

pub returns-in_default-clause-closes : goal.returns-in_default-clause-closes
returns-in_default-clause-closes c = unused_closes (record c.args.self.now { unsent = Some c.args.unsent }) _ (sym c.is_server_used.ensures ∙ c.if-is_server_used.false)

pub returns-then-branch-clause-closes : goal.returns-then-branch-clause-closes
returns-then-branch-clause-closes c = unused_closes (record c.args.self.now { unsent = Some c.args.unsent }) _ (sym c.is_server_used.ensures ∙ c.if-is_server_used.false)

pub returns-clause-closes : goal.returns-clause-closes
returns-clause-closes c = unused_closes (record c.args.self.now { unsent = Some c.args.unsent }) _ (sym c.is_server_used.ensures ∙ c.if-is_server_used.false)

pub returns-then-is_server_used-clause-below : goal.returns-then-is_server_used-clause-below
returns-then-is_server_used-clause-below c = λ none may. below_none c.args.self.now.server

pub returns-in_default-clause-below : goal.returns-in_default-clause-below
returns-in_default-clause-below c = λ none may. sends_below c.args.self.now _ none may (sym c.is_server_used.ensures ∙ c.if-is_server_used.false)

pub returns-then-branch-clause-below : goal.returns-then-branch-clause-below
returns-then-branch-clause-below c = λ none may. sends_below c.args.self.now _ none may (sym c.is_server_used.ensures ∙ c.if-is_server_used.false)

pub returns-clause-below : goal.returns-clause-below
returns-clause-below c = λ none may. sends_below c.args.self.now _ none may (sym c.is_server_used.ensures ∙ c.if-is_server_used.false)
