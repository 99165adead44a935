use Rattle.std.proofs.Common.{◌∷◌, List, ℕ, Some, drop, sym, ap, ◌∙◌}
use Rattle.model_client.specs.ClientKept.{Waiting, ClientKept}
use Rattle.model_client.specs.ClientStep.{new_body}
use Rattle.model_client.proofs.Answered.{answered, interim_after, final_after, any_after}
use Rattle.model_client.proofs.machine_laws.an_answer_is_read.Goals as goal

pub returns-clause-reading : goal.returns-clause-reading
returns-clause-reading c = λ setting k next a x.
    let y = answered setting k next a x in (
      y.start,
      y.end,
      y.piece,
      y.reading,
      ap (λ (k : ClientKept). k.unread) x.keeps ∙ ap (λ (k : ClientKept). k.unread) y.after ∙ any_after k (drop y.end k.unread) a y.first y.others,
    )

pub returns-clause-asked : goal.returns-clause-asked
returns-clause-asked c = λ setting k next a x. let y = answered setting k next a x in (y.first, y.others, y.waited)

pub returns-clause-interim : goal.returns-clause-interim
returns-clause-interim c = λ setting k next a x is.
    let y = answered setting k next a x in
    let kept = interim_after k (drop y.end k.unread) a y.first y.others is in (
      ap (λ (k : ClientKept). k.waiting) x.keeps ∙ ap (λ (k : ClientKept). k.waiting) y.after ∙ kept.0,
      ap (λ (k : ClientKept). k.reading) x.keeps ∙ ap (λ (k : ClientKept). k.reading) y.after ∙ kept.1,
    )

pub returns-clause-first_waits_no_more : goal.returns-clause-first_waits_no_more
returns-clause-first_waits_no_more c = λ setting k next a x is.
    let y = answered setting k next a x in
    let kept = final_after k (drop y.end k.unread) a y.first y.others is in
    let waiting = ap (λ (k : ClientKept). k.waiting) x.keeps ∙ ap (λ (k : ClientKept). k.waiting) y.after ∙ kept.0 in
    let unread = ap (λ (k : ClientKept). k.unread) x.keeps ∙ ap (λ (k : ClientKept). k.unread) y.after ∙ kept.1 in
    let reading = ap (λ (k : ClientKept). k.reading) x.keeps ∙ ap (λ (k : ClientKept). k.reading) y.after ∙ kept.2 in (
      y.first,
      y.waited ∙ ap (λ (ws : List Waiting). y.first ∷ ws) (sym waiting),
      reading ∙ ap (λ (bytes : List ℕ). Some (new_body k.has_ended bytes y.first.method a)) (sym unread),
    )
