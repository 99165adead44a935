-- Lists with commas (RFC 7230, section 7): how they are read and printed.
use Rattle.std.specs.Prelude.{◌≡◌, ℕ, ◌<◌, ◌⊎◌, List, [], ◌∷◌, length, ◌==◌, Option, Some, codes}
use Rattle.std.specs.Borrow.{Bor}
use Rattle.std.specs.List.{slice_split, flat_map}
use Rattle.std.specs.Str.{trim}
use Rattle.std.specs.Fmt.{◌++?◌}
use Rattle.http_header.specs.FieldValue.{FieldValue, IsVisibleAscii}

-- the parts of a text between its commas, with the white space around them
abbrev pub comma_parts : List ℕ → List (List ℕ)
comma_parts text = slice_split (λ b. b == 44) text

-- the part without the white space around it has a byte
abbrev pub IsFilled : List ℕ → Type 0
IsFilled part = 0 < length (trim part)

-- The items are those that the parts say, in order: each part is trimmed, and one that is empty or the text of no item is passed over.
abbrev pub AreRead : {T : Type 0} → (List ℕ → Type 0) → (List ℕ → T → Type 0) → List (List ℕ) → List T → Type 0
AreRead {T} is_text reads [] items = items ≡ []
AreRead {T} is_text reads (part ∷ parts) items =
    ((IsFilled part → ¬ (is_text (trim part))) × AreRead is_text reads parts items)
    ⊎ ((item : T) × (more : List T) × IsFilled part × reads (trim part) item × (items ≡ item ∷ more) × AreRead is_text reads parts more)

-- the parts of the values, one value after the other
abbrev pub values_parts : List (Bor FieldValue) → List (List ℕ)
values_parts values = flat_map (λ value. comma_parts value.now.bytes) values

-- each value is text
abbrev pub AreTexts : List (Bor FieldValue) → Type 0
AreTexts [] = Unit {0}
AreTexts (value ∷ values) = IsVisibleAscii value.now.bytes × AreTexts values

-- what parts print after a first one: each behind a comma and a blank
abbrev pub later_output : {T : Type 0} → (T → Option (List ℕ)) → List T → Option (List ℕ)
later_output output [] = Some []
later_output output (part ∷ parts) = Some (codes ", ") ++? (output part ++? later_output output parts)

-- what parts print, with a comma and a blank between them
abbrev pub list_output : {T : Type 0} → (T → Option (List ℕ)) → List T → Option (List ℕ)
list_output output [] = Some []
list_output output (part ∷ parts) = output part ++? later_output output parts

-- the lists are as long as each other, and at each place their items are those of one text
abbrev pub AreOfSameTexts : {T : Type 0} → (List ℕ → T → Type 0) → List T → List T → Type 0
AreOfSameTexts {T} reads [] [] = Unit {0}
AreOfSameTexts {T} reads (x ∷ xs) (y ∷ ys) = ((text : List ℕ) × reads text x × reads text y) × AreOfSameTexts reads xs ys
AreOfSameTexts {T} reads _ _ = ⊥
