-- A journal with one entry more.
use Rattle.std.proofs.Common.{◌≡◌, ℕ, ◌+◌, ◌<◌, ◌≤◌, List, [], ◌∷◌, ◌++◌, ⊎_elim, refl, sym, ap, ◌∙◌, subst, arith, length-append, get_or}
use Rattle.std.specs.Prelude.{if◌then◌else◌, take, length, Some}
use Rattle.std.proofs.Math.Seq.{take-append_seam, get_or-append_seam}
use Rattle.std.proofs.lemmas.Bool.{cases_lt}
use Rattle.std.proofs.lemmas.List.{get_or_append_left, take-append-le}
use Rattle.std.proofs.lemmas.List.Sums.{sum_by-append}
use Rattle.std.proofs.lemmas.Option.{slice_get_within, get_or_from_slice_get, slice_get-get_or}
use Rattle.board.specs.declared.command.Command.{Command}
use Rattle.board.specs.declared.command.Command.TheVariants.{Get, Add}
use Rattle.board.specs.declared.command.Entry.{Entry}
use Rattle.board.specs.Journal.{IsRight, reply_after, counter, adds_to, is_add, name_of}

pub right_push : (journal : List Entry) (e : Entry) → IsRight journal → e.reply.0 ≡ reply_after journal e.command → IsRight (journal ++ e ∷ [])
right_push journal e right reply k x at =
    let more = journal ++ e ∷ [] in
    let here = get_or_from_slice_get more k x x at in
    ⊎_elim
    (λ (less : k < length journal).
    right k x (slice_get-get_or journal k x less ∙ ap Some (sym (get_or_append_left journal (e ∷ []) x k less) ∙ here))
    ∙ ap (λ js. reply_after js x.command) (sym (take-append-le k journal (e ∷ []) (omega arith))))
    (λ (not_less : length journal ≤ k).
    let within = slice_get_within more k x at in
    let last : k ≡ length journal = omega (arith, length-append journal (e ∷ [])) in
    let same : e ≡ x = sym (get_or-append_seam journal e [] x) ∙ ap (λ n. get_or more n x) (sym last) ∙ here in
    let before : journal ≡ take k more = sym (take-append_seam journal (e ∷ [])) ∙ ap (λ n. take n more) (sym last) in
    subst (λ y. y.reply.0 ≡ reply_after (take k more) y.command) same (reply ∙ ap (λ js. reply_after js e.command) before))
    (cases_lt k (length journal))

-- the reply is the counter with the command itself counted
pub reply_is : (journal : List Entry) (command : Command) → counter (name_of command) journal + (if is_add command then 1 else 0) ≡ reply_after journal command
reply_is journal (Get name) = omega arith
reply_is journal (Add name) = refl

no_more : (a b : ℕ) → a + (0 + b) ≡ a + b
no_more a b = omega arith

pub counter_push : (journal : List Entry) (e : Entry) (name : List ℕ) → counter name (journal ++ e ∷ []) ≡ counter name journal + (if adds_to name e then 1 else 0)
counter_push journal e name =
    sum_by-append (λ x. if adds_to name x then 1 else 0) journal (e ∷ []) ∙ no_more (counter name journal) (if adds_to name e then 1 else 0)
