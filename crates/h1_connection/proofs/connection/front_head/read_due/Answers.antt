use Rattle.std.proofs.Common.{◌≡◌, true, false, None, ◌∙◌, subst}
use Rattle.std.specs.Prelude.{IfOk, IfErr, OnErr}
use Rattle.h1_decoder.proofs.FrontLemmas.{begins_piece}
use Rattle.h1_decoder.specs.Refusal.{UnlessNoMemory, fault_of}
use Rattle.h1_decoder.specs.declared.decoder.HeadItem.{HeadItem}
use Rattle.h1_connection.specs.Incoming.{Incoming, due_in, IsHeadOf, IsWhole, IsNextHead, IsNextFault}
use Rattle.h1_connection.proofs.InputLemmas.{same_incoming}
use Rattle.h1_connection.proofs.CutLemmas.{found_whole, found_head, noted_same, noted_searched, uncut_searched, uncut_same}
use Rattle.h1_connection.proofs.connection.front_head.read_due.Goals as goal

-- ---- a head was cut off

pub returns-in-Ok-true-clause-same : goal.returns-in-Ok-true-clause-same
returns-in-Ok-true-clause-same c = noted_same _ _ _ c.cut_head_into.ensures.bytes _ c.cut_head_into.ensures.cut c.note_cut.ensures

pub returns-in-Ok-true-clause-searched : goal.returns-in-Ok-true-clause-searched
returns-in-Ok-true-clause-searched c = noted_searched _ _ _ c.cut_head_into.ensures.bytes _ c.cut_head_into.ensures.cut c.note_cut.ensures

pub returns-in-Ok-true-clause-head : goal.returns-in-Ok-true-clause-head
returns-in-Ok-true-clause-head c = λ _.
    let read = c.in-Ok-true.ensures.head c.in-Ok-true.field-0-test in
    (_, found_head c.cut_head_into.new.front _ _ c.cut_head_into.ensures.bytes read.0, read.1)

-- ---- none was, and the bytes were searched

pub read_found-requires-clause-searched : goal.read_found-requires-clause-searched
read_found-requires-clause-searched c =
    uncut_searched _ _ _ c.cut_head_into.ensures.bytes _ _ (c.in-Ok-false.ensures.none c.in-Ok-false.field-0-test).0 c.as_slice.ensures c.searched.ensures

pub returns-in-Ok-false-clause-same : goal.returns-in-Ok-false-clause-same
returns-in-Ok-false-clause-same c =
    same_incoming c.cut_head_into.new.front c.cut_head_into.new.buffer.items c.read_found.new.head_bytes c.read_found.new.bytes.items c.searched.result c.read_found.ensures.all
    ∙ uncut_same _ _ _ c.cut_head_into.ensures.bytes _ _ (c.in-Ok-false.ensures.none c.in-Ok-false.field-0-test).0 c.as_slice.ensures c.searched.ensures

pub returns-in-Ok-false-clause-head : goal.returns-in-Ok-false-clause-head
returns-in-Ok-false-clause-head c =
    subst (λ (i : Incoming). IfOk c.read_found.result (λ is_there. is_there ≡ true → IsNextHead i c.read_found.new.item))
    (uncut_same _ _ _ c.cut_head_into.ensures.bytes _ _ (c.in-Ok-false.ensures.none c.in-Ok-false.field-0-test).0 c.as_slice.ensures c.searched.ensures) c.read_found.ensures.head

pub returns-in-Ok-false-clause-none : goal.returns-in-Ok-false-clause-none
returns-in-Ok-false-clause-none c =
    let uncut = c.in-Ok-false.ensures.none c.in-Ok-false.field-0-test in
    subst (λ (was : HeadItem). IfOk c.read_found.result (λ is_there. is_there ≡ false → IsHeadOf (due_in c.args.bytes.now.items) None × (c.read_found.new.item ≡ was))) uncut.1
    (subst (λ (i : Incoming). IfOk c.read_found.result (λ is_there. is_there ≡ false → IsHeadOf i None × (c.read_found.new.item ≡ c.cut_head_into.new.item)))
    (uncut_same _ _ _ c.cut_head_into.ensures.bytes _ _ uncut.0 c.as_slice.ensures c.searched.ensures) c.read_found.ensures.none)

pub returns-in-Ok-false-clause-fault : goal.returns-in-Ok-false-clause-fault
returns-in-Ok-false-clause-fault c =
    subst (λ (i : Incoming). IfErr c.read_found.result (λ e. UnlessNoMemory e (IsNextFault i (fault_of e))))
    (uncut_same _ _ _ c.cut_head_into.ensures.bytes _ _ (c.in-Ok-false.ensures.none c.in-Ok-false.field-0-test).0 c.as_slice.ensures c.searched.ensures) c.read_found.ensures.fault

pub returns-in-Ok-false-clause-whole : goal.returns-in-Ok-false-clause-whole
returns-in-Ok-false-clause-whole c =
    subst (λ (i : Incoming). OnErr c.read_found.result (IsWhole i))
    (uncut_same _ _ _ c.cut_head_into.ensures.bytes _ _ (c.in-Ok-false.ensures.none c.in-Ok-false.field-0-test).0 c.as_slice.ensures c.searched.ensures) c.read_found.ensures.whole

-- ---- it was refused, or memory was wanted

pub returns-in-Err-clause-same : goal.returns-in-Err-clause-same
returns-in-Err-clause-same c = noted_same _ _ _ c.cut_head_into.ensures.bytes _ c.cut_head_into.ensures.cut c.note_cut-in-Err.ensures

pub returns-in-Err-clause-searched : goal.returns-in-Err-clause-searched
returns-in-Err-clause-searched c = noted_searched _ _ _ c.cut_head_into.ensures.bytes _ c.cut_head_into.ensures.cut c.note_cut-in-Err.ensures

pub returns-in-Err-clause-fault : goal.returns-in-Err-clause-fault
returns-in-Err-clause-fault c = λ ne.
    let read = c.in-Err.ensures.fault ne in
    (_, found_head c.cut_head_into.new.front _ _ c.cut_head_into.ensures.bytes read.0, read.1)

pub returns-in-Err-clause-whole : goal.returns-in-Err-clause-whole
returns-in-Err-clause-whole c = found_whole _ _ (begins_piece _ c.in-Err.ensures.there).1
