-- Pieces of a request's head.
use Rattle.std.specs.Prelude.{ℕ, Bool, List, ◌∷◌, ◌++◌}
use Rattle.httparse.specs.Ascii.{space}
use Rattle.httparse.specs.Grammar.{print_version}
use Rattle.model_client.specs.RequestText.{AskedHead}

-- the request line, without its line end
abbrev pub request_words : AskedHead → List ℕ
request_words r = r.method ++ space ∷ (r.target ++ space ∷ print_version r.minor)
