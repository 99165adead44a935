-- Words that the laws alone use: who reads the definitions needs none of them.
pub mod Samples
pub mod Histories
use Rattle.std.specs.Prelude.{ℕ, Bool, List, [], ◌∷◌, codes, decimal, if◌then◌else◌, Option, Some, None}
use Rattle.model_h1.specs.Request.{BodyKind, no_body, fixed_body, chunked_body}

-- The lengths, and the codings, that a forwarded head states for a body that ends there: that of no body only where the client stated one.
abbrev pub lengths_written : Bool → BodyKind → List (List ℕ)
lengths_written stated no_body = if stated then decimal 0 ∷ [] else []
lengths_written stated (fixed_body n) = decimal n ∷ []
lengths_written stated _ = []

abbrev pub codings_written : BodyKind → List (List ℕ)
codings_written chunked_body = codes "chunked" ∷ []
codings_written _ = []

-- the names of the lines that a forwarder adds to a request
abbrev pub own_names : List (List ℕ)
own_names =
    codes "host" ∷ codes "via" ∷ codes "x-forwarded-for" ∷ codes "forwarded" ∷ codes "x-forwarded-proto" ∷ codes "x-forwarded-host" ∷ []

-- the value, if there is one
abbrev pub listed : Option (List ℕ) → List (List ℕ)
listed None = []
listed (Some value) = value ∷ []
