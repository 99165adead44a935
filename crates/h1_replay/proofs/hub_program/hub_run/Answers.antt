use Rattle.std.proofs.Common.{sym, ◌∙◌}
use Rattle.h1_replay.specs.HubReply.{text_of_reply, status_of_reply}
use Rattle.h1_replay.proofs.HubAnswering.{answer_fault, answer_quiet, fault_rose}
use Rattle.h1_replay.proofs.HubCompleteness.{good_status, refused_status}
use Rattle.h1_replay.proofs.Writing.{taken_appended, taken_quiet, part_fault, part_rose}
use Rattle.h1_replay.proofs.hub_program.hub_run.Goals as goal

pub returns-in-Ok-clause-answered : goal.returns-in-Ok-clause-answered
returns-in-Ok-clause-answered g c =
    let reply = c.reply_to-reply.result in
    let answer = rw (← c.status.ensures.value) at c.reply_to-reply.ensures in
    let written = rw c.text.ensures at c.in-Ok.ensures.all in
    λ _. (text_of_reply reply, answer, written)

pub returns-clause-cut : goal.returns-clause-cut
returns-clause-cut g c =
    let reply = c.reply_to-reply.result in
    let part = rw c.text.ensures at c.in-Err.ensures.part in
    λ _. (status_of_reply reply, text_of_reply reply, c.reply_to-reply.ensures, part)

pub returns-clause-write_fault : goal.returns-clause-write_fault
returns-clause-write_fault g c = λ _. part_fault _ _ _ c.in-Err.ensures.part

pub returns-in-Ok-clause-no_write_fault : goal.returns-in-Ok-clause-no_write_fault
returns-in-Ok-clause-no_write_fault g c = λ _. taken_quiet _ _ _ c.in-Ok.ensures.all

pub returns-in-Ok-clause-read_fault : goal.returns-in-Ok-clause-read_fault
returns-in-Ok-clause-read_fault g c =
    let answer = rw (← c.status.ensures.value) at c.reply_to-reply.ensures in
    answer_fault _ _ _ _ _ answer

pub returns-in-Ok-clause-no_read_fault : goal.returns-in-Ok-clause-no_read_fault
returns-in-Ok-clause-no_read_fault g c =
    let answer = rw (← c.status.ensures.value) at c.reply_to-reply.ensures in
    λ not_four _. answer_quiet _ _ _ _ _ answer not_four

pub returns-in-Ok-clause-complete : goal.returns-in-Ok-clause-complete
returns-in-Ok-clause-complete g c =
    let answer = rw (← c.status.ensures.value) at c.reply_to-reply.ensures in
    λ command good works. good_status _ _ _ _ _ answer command good (λ four. works.reads (fault_rose _ _ _ _ _ answer four))

pub returns-in-Ok-clause-refused : goal.returns-in-Ok-clause-refused
returns-in-Ok-clause-refused g c =
    let answer = rw (← c.status.ensures.value) at c.reply_to-reply.ensures in
    let written = rw c.text.ensures at c.in-Ok.ensures.all in
    λ index command refused works.
    refused_status _ _ _ _ _ _ index _ answer (taken_appended _ _ _ written) command refused (λ four. works.reads (fault_rose _ _ _ _ _ answer four))

pub returns-clause-complete : goal.returns-clause-complete
returns-clause-complete g c = λ command good works. absurd (works.writes (part_rose _ _ _ c.in-Err.ensures.part))

pub returns-clause-refused : goal.returns-clause-refused
returns-clause-refused g c = λ index command refused works. absurd (works.writes (part_rose _ _ _ c.in-Err.ensures.part))
