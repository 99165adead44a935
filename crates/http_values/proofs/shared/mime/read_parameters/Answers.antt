use Rattle.std.proofs.Common.{◌≡◌, ℕ, List, [], ◌∷◌, ◌++◌, true, subst, sym, append-nil}
use Rattle.std.specs.Prelude.{is_ok}
use Rattle.http_values.specs.declared.shared.mime.Class.TheVariants.{Token}
use Rattle.http_values.specs.MediaTypeCuts.{AreParameters}
use Rattle.http_values.specs.Mime.{pairs_of}
use Rattle.http_values.proofs.MimeLemmas.{no_parameter, parameter_short, parameters_behind, parameters_more, pairs_pushed, empty_is, run_ascii, value_ascii}
use Rattle.http_values.proofs.shared.mime.read_parameters.Goals as goal

pub returns-in_default-clause-invalid : goal.returns-in_default-clause-invalid
returns-in_default-clause-invalid c = λ _ h. no_parameter c.loop-rest.rest.now c.loop-rest-test.ensures c.in_default.ensures (c.loop-rest.invariant.1 h.0 h.1)

pub owned-requires : goal.owned-requires
owned-requires c = let h = c.in-Some.ensures in record { ascii = run_ascii Token h.named c.in-Some.name.now (61 ∷ h.valued) h.name_is.run }

pub owned-requires-in-loop-rest : goal.owned-requires-in-loop-rest
owned-requires-in-loop-rest c = let h = c.in-Some.ensures in record { ascii = value_ascii h.valued c.in-Some.value.now c.in-Some.behind.now h.value_is }

pub loop-rest-smaller : goal.loop-rest-smaller
loop-rest-smaller c = parameter_short c.loop-rest.rest.now c.in-Some.name.now c.in-Some.value.now c.in-Some.behind.now c.in-Some.ensures

pub loop-rest-preserved : goal.loop-rest-preserved
loop-rest-preserved c =
    let ok : is_ok c.push.result ≡ true = c.if-is_err.ensures.negation in
    let items = rw ok at c.push.ensures.items in
    let pairs = pairs_pushed _ c.loop-rest.params.items c.push.new.self.items c.in-Some.name.now c.in-Some.value.now items c.in-Ok.ensures.ok c.in-Ok-owned.ensures.ok in (
      λ qs h.
          let P : List (List ℕ × List ℕ) → Type 0 = λ xs. AreParameters c.args.text.now (xs ++ qs) in
          subst P (sym pairs)
          (parameters_more c.args.text.now c.loop-rest.rest.now c.in-Some.name.now c.in-Some.value.now c.in-Some.behind.now (pairs_of c.loop-rest.params.items)
          c.in-Some.ensures c.loop-rest.invariant.0 qs h),
      λ ps h.
          let left = c.loop-rest.invariant.1 ps h in
          parameters_behind c.loop-rest.rest.now c.in-Some.name.now c.in-Some.value.now c.in-Some.behind.now left.0 c.in-Some.ensures left.1,
    )

pub returns-clause-ok : goal.returns-clause-ok
returns-clause-ok c =
    let P : List (List ℕ × List ℕ) → Type 0 = λ xs. AreParameters c.args.text.now xs in
    subst P (append-nil (pairs_of c.loop-rest.params.items)) (c.loop-rest.invariant.0 [] (empty_is c.loop-rest.rest.now c.loop-rest-test.ensures))
