-- Visits and the passes that they are told of, beside a journal.
use Rattle.std.proofs.Common.{◌≡◌, ◌+◌, ℕ, Bool, Option, List, [], ◌∷◌, ◌++◌, length, refl, sym, ap, ◌∙◌, subst, arith}
use Rattle.std.specs.List.{AllByRecursion, sum_by}
use Rattle.std.proofs.lemmas.List.Elements.{recursion_from_All}
use Rattle.std.proofs.lemmas.List.Sums.{sum_by-append}
use Rattle.http_config.specs.Config.{Settings}
use Rattle.http_transport.specs.Wiring.{Wiring}
use Rattle.h1_connection.specs.Steps.{Pair}
use Rattle.board.specs.declared.command.Entry.{Entry}
use Rattle.board.specs.Journal.{IsRight, of_pass}
use Rattle.board.specs.Views.{Held, Agrees, entries_held}
use Rattle.board_server.specs.declared.visit.Visit.{Visit}
use Rattle.board_server.specs.Visits.{WasServed, Matches, AreMatched}
use Rattle.board_server.specs.Reports.{own_pass, IsVisit, IsReport}

module _ {W L : Type 0} (settings : Settings) (polls : ℕ) (may_give : ℕ → Bool) (wiring : W → Wiring) (noted : L → Option (List Pair)) where
  -- one more of both
  pub matched_more : (visits : List (Visit W L)) (passes : List Held) (visit : Visit W L) (pass : Held) → AreMatched settings polls may_give wiring noted visits passes
      → Matches settings polls may_give wiring noted visit pass → AreMatched settings polls may_give wiring noted (visits ++ visit ∷ []) (passes ++ pass ∷ [])
  matched_more [] [] visit pass are is = (is, tt)
  matched_more [] (p ∷ passes) visit pass are is = absurd are
  matched_more (v ∷ visits) [] visit pass are is = absurd are
  matched_more (v ∷ visits) (p ∷ passes) visit pass are is = (are.0, matched_more visits passes visit pass are.1 is)

  -- the calls are as many as the entries
  pub calls_are : (visits : List (Visit W L)) (passes : List Held) → AreMatched settings polls may_give wiring noted visits passes → entries_held passes ≡ sum_by (λ (v : Visit W L). v.calls) visits
  calls_are [] [] are = refl
  calls_are [] (p ∷ passes) are = absurd are
  calls_are (v ∷ visits) [] are = absurd are
  calls_are (v ∷ visits) (p ∷ passes) are =
      sum_by-append (λ (x : Held). length x.entries) (p ∷ []) passes ∙ ap (λ (n : ℕ). (0 + n) + entries_held passes) (sym are.0.calls)
      ∙ ap (λ (n : ℕ). (0 + v.calls) + n) (calls_are visits passes are.1) ∙ sym (sum_by-append (λ (x : Visit W L). x.calls) (v ∷ []) visits)

  own_is : (p : Held) (number : ℕ) (journal : List Entry) → number ≡ p.number → of_pass p.number journal ≡ p.entries → p ≡ own_pass number journal
  own_is p number journal number_is entries_are =
      let own : of_pass number journal ≡ p.entries = ap (λ (n : ℕ). of_pass n journal) number_is ∙ entries_are in
      λ i. record { number = sym number_is i; entries = sym own i }

  visit_of : (journal : List Entry) (v : Visit W L) (p : Held) → of_pass p.number journal ≡ p.entries → Matches settings polls may_give wiring noted v p → IsVisit settings polls may_give wiring noted journal v
  visit_of journal v p entries_are is = record {
    calls = is.calls ∙ ap length (sym entries_are) ∙ ap (λ n. length (of_pass n journal)) (sym is.number);
    served = subst (λ (x : Held). WasServed settings polls may_give (wiring v.transport) (noted v.recorder) x v.end) (own_is p v.number journal is.number entries_are) is.served;
  }

  pub visits_are : (journal : List Entry) (visits : List (Visit W L)) (passes : List Held) → AllByRecursion (λ (p : Held). of_pass p.number journal ≡ p.entries) passes
      → AreMatched settings polls may_give wiring noted visits passes → AllByRecursion (IsVisit settings polls may_give wiring noted journal) visits
  visits_are journal [] [] all are = tt
  visits_are journal [] (p ∷ passes) all are = tt
  visits_are journal (v ∷ visits) [] all are = absurd are
  visits_are journal (v ∷ visits) (p ∷ passes) all are = (visit_of journal v p all.0 are.0, visits_are journal visits passes all.1 are.1)

  held_front : (P : Held → Type 0) (xs ys : List Held) → AllByRecursion P (xs ++ ys) → AllByRecursion P xs
  held_front P [] ys all = tt
  held_front P (x ∷ xs) ys all = (all.0, held_front P xs ys all.1)

  none_more : (n a b c : ℕ) → n ≡ 0 + a → a ≡ b + c → c ≡ 0 → n ≡ b
  none_more n a b c n_is a_is c_is = omega (arith, n_is, a_is, c_is)

  -- a board that was closed with these passes, and others that have no entry, is that of the visits
  pub report_is : (journal : List Entry) (visits : List (Visit W L)) (passes rest back : List Held) → back ≡ passes ++ rest → entries_held rest ≡ 0
      → AreMatched settings polls may_give wiring noted visits passes → Agrees journal back → IsRight journal → length journal ≡ 0 + entries_held back
      → IsReport settings polls may_give wiring noted journal visits
  report_is journal visits passes rest back is none are agrees right whole =
      let own : Held → Type 0 = λ (p : Held). of_pass p.number journal ≡ p.entries in
      record {
        right = right;
        whole =
            none_more (length journal) (entries_held back) (entries_held passes) (entries_held rest) whole
            (ap entries_held is ∙ sum_by-append (λ (p : Held). length p.entries) passes rest) none ∙ calls_are visits passes are;
        each = visits_are journal visits passes (held_front own passes rest (subst (λ l. AllByRecursion own l) is (recursion_from_All own back agrees))) are;
      }
