use Rattle.std.proofs.Common.{◌≡◌, ◌==◌, Bool, true, false, not, cond, List, [], ◌∷◌, length, refl, ap, ◌∙◌, arith, rules}
use Rattle.std.proofs.lemmas.Bool.Decides.{nat_tests}
use Rattle.std.specs.Vec.{vec_len}
use Rattle.http_header.specs.FieldValue.{FieldValue}
use Rattle.http_map.specs.Retain.{MayAnswer}
use Rattle.http_map.specs.contracts.values.Values.retain.F-Fn.{words}
use Rattle.http_map.proofs.RetainLemmas.{KeepsValues-IsFiltered}
use Rattle.http_map.proofs.values.Values.retain.Goals as goal
use Rattle.http_map.proofs.values.Values.retain.Goals.{in-One, in-More}

-- an empty list is as good as none
whole : (is_empty : Bool) (vs : List FieldValue) → is_empty ≡ (length vs == 0) → cond (not is_empty) vs [] ≡ vs
whole true [] is = refl
whole true (v ∷ vs) is = absurd (grind (arith, nat_tests, is))
whole false vs is = refl

pub returns-clause-kept : goal.returns-clause-kept
returns-clause-kept g c =
    let answers = MayAnswer ((words g.row.F g.F.Fn).post c.args.keep.now) c.args.name.now in
    elim c.match-self.branch [
      | in-One w ↦
          rw (← c.self.view_is, w.result-is, w.self-inside-is, w.in-One.is)
          (w.keep.result, [], record { shown_name = c.args.name; shown_value = _; is_name = refl; is_value = refl; answered = w.keep.ensures }, refl, refl)
      | in-More w ↦
          (let values : w.as_mut-values.result.now ≡ w.in-More.values.value = w.as_mut-values.ensures.value in
          let counted : vec_len w.retain.new.self ≡ length w.retain.new.self.items = omega (arith, w.retain.new.self.ok.0) in
          rw (← c.self.view_is, w.result-is, w.self-inside-is, w.in-More.is, ← values, whole w.is_empty.result w.retain.new.self.items (w.is_empty.ensures ∙ ap (λ n. n == 0) counted))
          (KeepsValues-IsFiltered _ answers _ (λ v b f call. search rules) _ _ w.retain.ensures.filtered))
    ]
