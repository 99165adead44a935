use Rattle.std.proofs.Common.{refl}
use Rattle.http_values.proofs.ExtendedLemmas.{no_tag_is_none}
use Rattle.http_values.proofs.shared.extended.parse_extended_value.Goals as goal

pub returns-in_default-clause-header : goal.returns-in_default-clause-header
returns-in_default-clause-header c = (λ _ h. c.in_default.ensures h.0 h.1 h.2 h.3, λ _. refl)

pub returns-in-Err-Invalid-clause-header : goal.returns-in-Err-Invalid-clause-header
returns-in-Err-Invalid-clause-header c = (
  λ _ h.
      no_tag_is_none c.args.val.now c.in-Some.charset.now c.in-Some.tag.now c.in-Some.value.now c.in-Some.ensures ((rw c.in-Err-Invalid.field-0-is at c.in-Err-Invalid.ensures.invalid).0 refl) h,
  λ _. refl,
)
