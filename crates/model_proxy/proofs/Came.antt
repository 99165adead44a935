-- What came of a server connection begins what comes of it.
use Rattle.std.proofs.Common.{◌≡◌, ℕ, ◌-◌, ◌≤◌, Bool, true, false, cond, eqb, zero, suc, List, [], ◌∷◌, ◌++◌, length, drop, take, refl, sym, ap, ◌∙◌, subst, arith, append-nil, append_assoc, length-append}
use Rattle.std.proofs.lemmas.Bool.{eqb-true}
use Rattle.model_h1.specs.Handed.{Begins}
use Rattle.model_proxy.specs.Past as past
use Rattle.model_proxy.specs.Past.{ProxyEvent, ProxyOutcome, ProxyStep, Server, new_server, changed_by, newest_changed, servers_behind, servers, numbered, server_at, first_of}

begins_same : (a : List ℕ) → Begins a a
begins_same a = ([], sym (append-nil a))

begins_then : (a b c : List ℕ) → Begins a b → Begins b c → Begins a c
begins_then a b c x y = (x.0 ++ y.0, y.1 ∙ ap (λ (l : List ℕ). l ++ y.0) x.1 ∙ append_assoc a x.0 y.0)

changed_begins : (event : ProxyEvent) (outcome : ProxyOutcome) (v : Server) → Begins v.came (changed_by event outcome v).came
changed_begins (past.server bytes) (past.took n) v = (take n bytes, refl)
changed_begins (past.server bytes) (past.gave more) v = begins_same v.came
changed_begins (past.server bytes) past.done v = begins_same v.came
changed_begins past.server_eof outcome v = begins_same v.came
changed_begins (past.to_server n) (past.gave bytes) v = begins_same v.came
changed_begins (past.to_server n) (past.took m) v = begins_same v.came
changed_begins (past.to_server n) past.done v = begins_same v.came
changed_begins (past.client bytes) outcome v = begins_same v.came
changed_begins past.client_eof outcome v = begins_same v.came
changed_begins past.connected outcome v = begins_same v.came
changed_begins past.refused outcome v = begins_same v.came
changed_begins (past.to_client n) outcome v = begins_same v.came
changed_begins (past.tick ms) outcome v = begins_same v.came

newest_begins : (f : Server → Server) → ((v : Server) → Begins v.came (f v).came) → (k : ℕ) (vs : List Server)
    → Begins (numbered k vs).came (numbered k (newest_changed f vs)).came
newest_begins f more k [] = begins_same []
newest_begins f more k (v ∷ older) = by_test (eqb k (length older))
  where
    by_test : (t : Bool) → Begins (cond t v (numbered k older)).came (cond t (f v) (numbered k older)).came
    by_test true = more v
    by_test false = begins_same (numbered k older).came

-- one that isn't there has nothing
pub behind_all : (k : ℕ) (vs : List Server) → length vs ≤ k → numbered k vs ≡ new_server
behind_all k [] high = refl
behind_all k (v ∷ older) high = by_test (eqb k (length older)) refl (behind_all k older (omega (arith, high)))
  where
    by_test : (t : Bool) → eqb k (length older) ≡ t → numbered k older ≡ new_server → cond t v (numbered k older) ≡ new_server
    by_test true e further = let same = eqb-true k (length older) e in let none : ⊥ = omega (arith, high, same) in absurd none
    by_test false e further = further

new_begins : (k : ℕ) (vs : List Server) → Begins (numbered k vs).came (numbered k (new_server ∷ vs)).came
new_begins k vs = by_test (eqb k (length vs)) refl
  where
    by_test : (t : Bool) → eqb k (length vs) ≡ t → Begins (numbered k vs).came (cond t new_server (numbered k vs)).came
    by_test true e =
        let same = eqb-true k (length vs) e in
        subst (λ (v : Server). Begins v.came []) (sym (behind_all k vs (omega (arith, same)))) (begins_same [])
    by_test false e = begins_same (numbered k vs).came

behind_begins : (event : ProxyEvent) (outcome : ProxyOutcome) (k : ℕ) (vs : List Server)
    → Begins (numbered k vs).came (numbered k (servers_behind event outcome vs)).came
behind_begins past.connected outcome k vs = new_begins k vs
behind_begins (past.server bytes) outcome k vs = newest_begins (changed_by (past.server bytes) outcome) (changed_begins (past.server bytes) outcome) k vs
behind_begins past.server_eof outcome k vs = newest_begins (changed_by past.server_eof outcome) (changed_begins past.server_eof outcome) k vs
behind_begins (past.to_server n) outcome k vs = newest_begins (changed_by (past.to_server n) outcome) (changed_begins (past.to_server n) outcome) k vs
behind_begins (past.client bytes) outcome k vs = newest_begins (changed_by (past.client bytes) outcome) (changed_begins (past.client bytes) outcome) k vs
behind_begins past.client_eof outcome k vs = newest_begins (changed_by past.client_eof outcome) (changed_begins past.client_eof outcome) k vs
behind_begins past.refused outcome k vs = newest_begins (changed_by past.refused outcome) (changed_begins past.refused outcome) k vs
behind_begins (past.to_client n) outcome k vs = newest_begins (changed_by (past.to_client n) outcome) (changed_begins (past.to_client n) outcome) k vs
behind_begins (past.tick ms) outcome k vs = newest_begins (changed_by (past.tick ms) outcome) (changed_begins (past.tick ms) outcome) k vs

one_begins : (k : ℕ) (s : ProxyStep) (history : List ProxyStep) → Begins (server_at k history).came (server_at k (s ∷ history)).came
unfolding servers
one_begins k s history = behind_begins s.event s.outcome k (servers history)

dropped_begins : (k n : ℕ) (history : List ProxyStep) → Begins (server_at k (drop n history)).came (server_at k history).came
dropped_begins k zero history = begins_same (server_at k history).came
dropped_begins k (suc n) [] = begins_same (server_at k []).came
dropped_begins k (suc n) (s ∷ history) =
    begins_then (server_at k (drop n history)).came (server_at k history).came (server_at k (s ∷ history)).came (dropped_begins k n history) (one_begins k s history)

pub came_begins : (k n : ℕ) (history : List ProxyStep) → Begins (server_at k (first_of n history)).came (server_at k history).came
came_begins k n history = dropped_begins k (length history - n) history

pub came_shorter : (k n : ℕ) (history : List ProxyStep) → length (server_at k (first_of n history)).came ≤ length (server_at k history).came
came_shorter k n history =
    let x = came_begins k n history in
    let long = ap (λ (l : List ℕ). length l) x.1 in
    let sum = length-append (server_at k (first_of n history)).came x.0 in
    omega (arith, long, sum)
