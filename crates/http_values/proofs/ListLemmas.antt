-- Lists with commas, one part or value more at a time.
use Rattle.std.proofs.Common.{◌≡◌, ℕ, ◌<◌, inl, inr, List, [], ◌∷◌, ◌++◌, length, refl, sym, ap, subst, ◌∙◌, append_assoc, append-nil, ◌+◌, get_or, take, add-one, true, false, arith, Option, Some, None}
use Rattle.std.proofs.Math.Seq.{take-suc}
use Rattle.std.specs.Borrow.{Bor}
use Rattle.std.specs.Str.{trim}
use Rattle.std.specs.Fmt.{◌++?◌}
use Rattle.std.specs.Prelude.{codes, map, ◌==◌}
use Rattle.std.proofs.lemmas.Bool.Decides.{nat_tests}
use Rattle.http_header.specs.FieldValue.{FieldValue, IsVisibleAscii}
use Rattle.http_values.specs.CommaList.{IsFilled, AreRead, AreTexts, comma_parts, values_parts, later_output}

module _ {T : Type 0} (is_text : List ℕ → Type 0) (reads : List ℕ → T → Type 0) where
  -- parts behind parts say items behind items
  pub AreRead-append : (parts more : List (List ℕ)) (items others : List T) → AreRead is_text reads parts items → AreRead is_text reads more others
      → AreRead is_text reads (parts ++ more) (items ++ others)
  AreRead-append [] more items others h k =
      let P : List T → Type 0 = λ xs. AreRead is_text reads more (xs ++ others) in subst P (sym h) k
  AreRead-append (part ∷ parts) more items others (inl h) k = inl (h.0, AreRead-append parts more items others h.1 k)
  AreRead-append (part ∷ parts) more items others (inr h) k =
      inr (h.0, h.1 ++ others, h.2, h.3, ap (λ xs. xs ++ others) h.4, AreRead-append parts more h.1 others h.5 k)

  -- a part that is empty or says nothing
  pub AreRead-skip : (parts : List (List ℕ)) (items : List T) (part : List ℕ) → AreRead is_text reads parts items → (IsFilled part → ¬ (is_text (trim part)))
      → AreRead is_text reads (parts ++ part ∷ []) items
  AreRead-skip parts items part h k =
      let P : List T → Type 0 = λ xs. AreRead is_text reads (parts ++ part ∷ []) xs in
      subst P (append-nil items) (AreRead-append parts (part ∷ []) items [] h (inl (k, refl)))

  -- a part that says an item
  pub AreRead-take : (parts : List (List ℕ)) (items : List T) (part : List ℕ) (item : T) → AreRead is_text reads parts items → IsFilled part
      → reads (trim part) item → AreRead is_text reads (parts ++ part ∷ []) (items ++ item ∷ [])
  AreRead-take parts items part item h filled read =
      AreRead-append parts (part ∷ []) items (item ∷ []) h (inr (item, [], filled, read, refl, refl))

-- whether a part is filled, from a test of what is left of it
pub not_filled : (t u : List ℕ) → true ≡ (length t == 0) → t ≡ u → 0 < length u → ⊥
not_filled t u test e filled =
    let same : length t ≡ length u = ap (λ (x : List ℕ). length x) e in let zero : length t ≡ 0 = grind (arith, nat_tests) in omega (arith, same, zero, filled)

pub is_filled : (t u : List ℕ) → false ≡ (length t == 0) → t ≡ u → 0 < length u
is_filled t u test e =
    let same : length t ≡ length u = ap (λ (x : List ℕ). length x) e in let some : 0 < length t = grind (arith, nat_tests) in omega (arith, same, some)

-- what references point to, with one more behind
pub now_push : {A : Type 0} (xs : List (Bor A)) (x : Bor A) → map (λ y. y.now) (xs ++ x ∷ []) ≡ map (λ y. y.now) xs ++ x.now ∷ []
now_push [] x = refl
now_push (y ∷ xs) x = ap (λ ys. y.now ∷ ys) (now_push xs x)

module _ {T : Type 0} (is_text : List ℕ → Type 0) (reads : List ℕ → T → Type 0) where
  -- the same for parts that references point to
  pub AreRead-skip_now : (parts : List (Bor (List ℕ))) (items : List T) (part : Bor (List ℕ)) → AreRead is_text reads (map (λ p. p.now) parts) items
      → (IsFilled part.now → ¬ (is_text (trim part.now))) → AreRead is_text reads (map (λ p. p.now) (parts ++ part ∷ [])) items
  AreRead-skip_now parts items part h k =
      let P : List (List ℕ) → Type 0 = λ ps. AreRead is_text reads ps items in
      subst P (sym (now_push parts part)) (AreRead-skip is_text reads (map (λ p. p.now) parts) items part.now h k)

  pub AreRead-take_now : (parts : List (Bor (List ℕ))) (items : List T) (part : Bor (List ℕ)) (item : T) → AreRead is_text reads (map (λ p. p.now) parts) items
      → IsFilled part.now → reads (trim part.now) item → AreRead is_text reads (map (λ p. p.now) (parts ++ part ∷ [])) (items ++ item ∷ [])
  AreRead-take_now parts items part item h filled read =
      let P : List (List ℕ) → Type 0 = λ ps. AreRead is_text reads ps (items ++ item ∷ []) in
      subst P (sym (now_push parts part)) (AreRead-take is_text reads (map (λ p. p.now) parts) items part.now item h filled read)

-- texts behind texts
pub AreTexts-push : (values : List (Bor FieldValue)) (value : Bor FieldValue) → AreTexts values → IsVisibleAscii value.now.bytes → AreTexts (values ++ value ∷ [])
AreTexts-push [] value h k = (k, tt)
AreTexts-push (v ∷ values) value h k = (h.0, AreTexts-push values value h.1 k)

-- the parts of one value more
pub values_parts-push : (values : List (Bor FieldValue)) (value : Bor FieldValue) → values_parts (values ++ value ∷ []) ≡ values_parts values ++ comma_parts value.now.bytes
values_parts-push [] value = append-nil (comma_parts value.now.bytes)
values_parts-push (v ∷ values) value =
    ap (λ ps. comma_parts v.now.bytes ++ ps) (values_parts-push values value) ∙ sym (append_assoc (comma_parts v.now.bytes) (values_parts values) (comma_parts value.now.bytes))

option_append_assoc : (a b c : Option (List ℕ)) → (a ++? b) ++? c ≡ a ++? (b ++? c)
option_append_assoc None b c = refl
option_append_assoc (Some a) None c = refl
option_append_assoc (Some a) (Some b) None = refl
option_append_assoc (Some a) (Some b) (Some c) = ap (λ (t : List ℕ). Some t) (append_assoc a b c)

option_append_none : (a : Option (List ℕ)) → a ++? Some [] ≡ a
option_append_none None = refl
option_append_none (Some a) = ap (λ (t : List ℕ). Some t) (append-nil a)

option_none_append : (a : Option (List ℕ)) → Some [] ++? a ≡ a
option_none_append None = refl
option_none_append (Some a) = refl

-- what one part more prints
pub later_output-push : {T : Type 0} (output : T → Option (List ℕ)) (parts : List T) (part : T)
    → later_output output (parts ++ part ∷ []) ≡ later_output output parts ++? (Some (codes ", ") ++? output part)
later_output-push output [] part =
    ap (λ t. Some (codes ", ") ++? t) (option_append_none (output part)) ∙ sym (option_none_append (Some (codes ", ") ++? output part))
later_output-push output (p ∷ parts) part =
    ap (λ t. Some (codes ", ") ++? (output p ++? t)) (later_output-push output parts part)
    ∙ (ap (λ t. Some (codes ", ") ++? t) (sym (option_append_assoc (output p) (later_output output parts) (Some (codes ", ") ++? output part)))
    ∙ sym (option_append_assoc (Some (codes ", ")) (output p ++? later_output output parts) (Some (codes ", ") ++? output part)))

-- the same at one index more of a list
pub later_output-more : {T : Type 0} (output : T → Option (List ℕ)) (parts : List T) (i : ℕ) (part : T) → i < length parts → part ≡ get_or parts i part
    → later_output output (take (i + 1) parts) ≡ later_output output (take i parts) ++? (Some (codes ", ") ++? output part)
later_output-more output parts i part inside is =
    let e : take (i + 1) parts ≡ take i parts ++ part ∷ [] =
    ap (λ (n : ℕ). take n parts) (add-one i) ∙ (take-suc parts i part inside ∙ ap (λ x. take i parts ++ x ∷ []) (sym is)) in
    ap (λ ps. later_output output ps) e ∙ later_output-push output (take i parts) part
