-- What the service tells of its answers grows by those of its calls.
use Rattle.std.proofs.Common.{◌≡◌, [], ap, ◌∙◌}
use Rattle.http_bodies.specs.Told.{Grows}
use Rattle.http_bodies.proofs.Histories.{grown-none}
use Rattle.http_services.specs.Serving.{Serving}
use Rattle.h1_dispatcher.specs.View.{View, Asking, Answer}
use Rattle.h1_dispatcher.specs.Steps.{Step, IsStep, ticked, drained, written, read, shut, next, closed, continued, ready, called, answered, pulled, paused, dropped, replied, sent, failed, failed_write, failed_read, failed_fed, failed_sent, asked_to_drain, asked_to_hold, declined, let_on, turned_away, refused}
use Rattle.h1_dispatcher.specs.Order.{step_results}

-- it tells no more
still : (v w : View) → w.service.answered ≡ v.service.answered → Grows v.service.answered w.service.answered []
still v w is = is ∙ grown-none v.service.answered

pub same_results : (v w : View) → w.service ≡ v.service → Grows v.service.answered w.service.answered []
same_results v w is = still v w (ap (λ (s : Serving Asking Answer Answer). s.answered) is)

pub step_results_grow : (v w : View) (d : Step) → IsStep v d w → Grows v.service.answered w.service.answered (step_results d)
step_results_grow v w (ready request answer) is = still v w is.2.answered
step_results_grow v w (called request) is = still v w (is.1.begun.answered ∙ is.1.is_ready.answered)
step_results_grow v w (answered answer) is = is.says.answered
step_results_grow v w (ticked moment expiry) is = same_results v w (ap (λ (x : View). x.service) is.1)
step_results_grow v w drained is = same_results v w (ap (λ (x : View). x.service) is.1)
step_results_grow v w (written answer) is = same_results v w (ap (λ (x : View). x.service) is.4)
step_results_grow v w (read came answer) is = same_results v w (ap (λ (x : View). x.service) is.4)
step_results_grow v w (shut answer) is = same_results v w (ap (λ (x : View). x.service) is.2)
step_results_grow v w (next peer head) is = same_results v w (ap (λ (x : View). x.service) is.4)
step_results_grow v w (closed end) is = same_results v w (ap (λ (x : View). x.service) is.4)
step_results_grow v w continued is = same_results v w (ap (λ (x : View). x.service) is.3)
step_results_grow v w (pulled piece) is = same_results v w (ap (λ (x : View). x.service) is.2)
step_results_grow v w paused is = same_results v w (ap (λ (x : View). x.service) is.4)
step_results_grow v w dropped is = same_results v w (ap (λ (x : View). x.service) is.3)
step_results_grow v w (replied answer) is = same_results v w (ap (λ (x : View). x.service) is.3)
step_results_grow v w (sent piece) is = same_results v w (ap (λ (x : View). x.service) is.3)
step_results_grow v w (failed event) is = same_results v w (ap (λ (x : View). x.service) is.2)
step_results_grow v w (failed_write count) is = same_results v w (ap (λ (x : View). x.service) is.4)
step_results_grow v w (failed_read came event) is = same_results v w (ap (λ (x : View). x.service) is.4)
step_results_grow v w (failed_fed bytes) is = same_results v w (ap (λ (x : View). x.service) is.2)
step_results_grow v w (failed_sent piece) is = same_results v w (ap (λ (x : View). x.service) is.3)
step_results_grow v w asked_to_drain is = same_results v w (ap (λ (x : View). x.service) is)
step_results_grow v w (asked_to_hold upgrades expects) is = same_results v w (ap (λ (x : View). x.service) is)
step_results_grow v w declined is = same_results v w (ap (λ (x : View). x.service) is)
step_results_grow v w let_on is = same_results v w (ap (λ (x : View). x.service) is)
step_results_grow v w (turned_away request answer) is = same_results v w (ap (λ (x : View). x.service) is.2)
step_results_grow v w (refused limit error) is = same_results v w (ap (λ (x : View). x.service) is.2)
