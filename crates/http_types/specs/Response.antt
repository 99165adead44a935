-- A response as the record of its head and its body.
use Rattle.std.specs.Prelude.{◌≡◌, ℕ, List, [], ◌∷◌, codes}
use Rattle.std.specs.Borrow.{MutBor}
use Rattle.http_header.specs.FieldValue.{plain_value}
use Rattle.http_types.specs.ResponseHead.{ResponseParts, fresh_response}

pub record FullResponse (B : Type 0) : Type 0 where
  pub head : ResponseParts
  pub body : B

-- the status 200, and one header: the type of the body (RFC 7231, section 3.1.1.5)
abbrev pub typed_response : {B : Type 0} → List ℕ → B → FullResponse B
typed_response type body =
    record { head = record (fresh_response 200) { headers = (codes "content-type", plain_value type ∷ []) ∷ [] }; body = body }

-- at the old head and body a closure may give the new body, and leave the new head; post says what it may give
pub record MapsBody {A B : Type 0} (post : MutBor ResponseParts → A → B → MutBor ResponseParts → Type 0) (old_head : ResponseParts) (old_body : A) (new_head : ResponseParts) (new_body : B) : Type 0 where
  pub shown : MutBor ResponseParts
  pub shows : shown.now ≡ old_head
  pub left : MutBor ResponseParts
  pub met : post shown old_body new_body left
  pub leaves : left.now ≡ new_head
