-- What a judgement says of the first doubt.
use Rattle.std.specs.Prelude.{◌≡◌, Bool, true, false, if◌then◌else◌, Option, Some, None, Result, Ok, Err}
use Rattle.std.proofs.Common.{refl, ◌∙◌, sym}
use Rattle.h1_decoder.specs.declared.decoder.HeadItem.{HeadItem}
use Rattle.h1_strict.specs.Judgement.{first_doubt, judgement}
use Rattle.h1_strict.specs.declared.doubt.HeadDoubt.{HeadDoubt}
use Rattle.serve_blocking.specs.Judged.{doubt_if}

none_of : (o : Option HeadDoubt) (u : Unit {0}) → Ok u ≡ judgement o → None ≡ o
none_of None u is = refl
none_of (Some d) u is = absurd (cc is)

some_of : (o : Option HeadDoubt) (d : HeadDoubt) → Err d ≡ judgement o → Some d ≡ o
some_of None d is = absurd (cc is)
some_of (Some e) d is = cc is

where_judged : (judges : Bool) (a o : Option HeadDoubt) → judges ≡ true → a ≡ o → a ≡ (if judges then o else None)
where_judged true a o is same = same
where_judged false a o is same = absurd (cc is)

pub undoubted : (judges : Bool) (item : HeadItem) (r : Result (Unit {0}) HeadDoubt) (u : Unit {0}) → judges ≡ true → r ≡ judgement (first_doubt item) → r ≡ Ok u
    → None ≡ doubt_if judges item
undoubted judges item r u judged says is = where_judged judges None (first_doubt item) judged (none_of (first_doubt item) u (sym is ∙ says))

pub doubted : (judges : Bool) (item : HeadItem) (r : Result (Unit {0}) HeadDoubt) (d : HeadDoubt) → judges ≡ true → r ≡ judgement (first_doubt item) → r ≡ Err d
    → Some d ≡ doubt_if judges item
doubted judges item r d judged says is = where_judged judges (Some d) (first_doubt item) judged (some_of (first_doubt item) d (sym is ∙ says))
