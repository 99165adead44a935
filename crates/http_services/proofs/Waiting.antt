-- The bytes that wait in the queue.
use Rattle.std.proofs.Common.{◌≡◌, ℕ, ◌+◌, List, [], ◌∷◌, ◌++◌, length, ap, ◌∙◌, arith}
use Rattle.http_services.specs.Queue.{waiting}

pub waiting_append : (a b : List (List ℕ)) → waiting (a ++ b) ≡ waiting a + waiting b
waiting_append [] b = omega arith
waiting_append (x ∷ a) b = ap (λ n. length x + n) (waiting_append a b) ∙ omega arith
