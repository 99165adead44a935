-- Where the subtags of a tag lead to, one after another.
use Rattle.std.specs.Prelude.{ℕ, Bool, false, List, IsTrue, Option, Some, None, ◌==◌, fold}
use Rattle.std.specs.List.{slice_split}
use Rattle.http_values.specs.declared.shared.language_tag.Place.{Place}
use Rattle.http_values.specs.LanguageTagPlaces.{next_place, may_end}

-- where a subtag leads to from where an earlier one led, if anywhere
abbrev pub step : Option Place → List ℕ → Option Place
step None s = None
step (Some place) s = next_place place s

-- whether a tag may end there
abbrev pub ends : Option Place → Bool
ends None = false
ends (Some place) = may_end place

-- the subtags of a text
abbrev pub subtags : List ℕ → List (List ℕ)
subtags text = slice_split (λ b. b == 45) text

-- from this place on the subtags lead to one where a tag may end
abbrev pub Leads : Option Place → List (List ℕ) → Type 0
Leads place parts = IsTrue (ends (fold step place parts))
