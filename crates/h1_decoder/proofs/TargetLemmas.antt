-- The request target that most heads have.
use Rattle.std.proofs.Common.{◌≡◌, Option, None, List, ℕ, inr, refl, sym, subst, codes, arith}
use Rattle.http_uri.specs.Grammar.{IsUriText}
use Rattle.http_uri.specs.Uri.{Spells, HasParts, uri_scheme, uri_authority, uri_data}
use Rattle.http_uri.specs.declared.uri.Uri.{Uri}
use Rattle.http_uri.proofs.PathLemmas.{IsPathAndQuery_slash}

-- `/` is a path
root_text : IsUriText (codes "/") None None (codes "/")
root_text = (omega arith, ((inr refl, record { start = inr refl; short = omega arith; kept = IsPathAndQuery_slash }), refl))

pub root_spells : (src : List ℕ) (uri : Uri) → src ≡ codes "/" → HasParts uri None None (codes "/") → Spells src uri
root_spells src uri is parts =
    subst (λ (s : List ℕ). IsUriText s (uri_scheme uri) (uri_authority uri) (uri_data uri)) (sym is)
    (subst (λ (o : Option (List ℕ)). IsUriText (codes "/") o (uri_authority uri) (uri_data uri)) (sym parts.0)
    (subst (λ (o : Option (List ℕ)). IsUriText (codes "/") None o (uri_data uri)) (sym parts.1)
    (subst (λ (kept : List ℕ). IsUriText (codes "/") None None kept) (sym parts.2) root_text)))
