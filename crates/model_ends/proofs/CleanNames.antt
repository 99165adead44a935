-- Names of headers, also in camel case, are read back as they are.
use Rattle.std.proofs.Common.{◌≡◌, ℕ, suc, ◌-◌, Bool, true, false, cond, ◌&&◌, List, [], ◌∷◌, length, refl, ap, ◌∙◌, arith}
use Rattle.std.specs.Prelude.{IsTrue, nat_le, ◌==◌}
use Rattle.std.specs.List.{AllByRecursion}
use Rattle.std.specs.Char.{to_ascii_lowercase, is_ascii_alphanumeric}
use Rattle.std.proofs.lemmas.Bool.{or_left}
use Rattle.std.proofs.lemmas.Bool.Decides.{nat_tests}
use Rattle.std.proofs.lemmas.List.Elements.{All-nil, All-cons, All-head, All-tail}
use Rattle.httparse.specs.Grammar.{AllPass, is_token_byte, trim_ows}
use Rattle.http_header.specs.Token.{is_token_byte as is_name_byte, lowercase}
use Rattle.model_h1.specs.Request.{Header}
use Rattle.model_h1.specs.AnswerText.{raised, camel_rest, name_text}
use Rattle.model_client.specs.WrittenHead.{IsCleanLine, IsCleanHeader}

-- ---- bytes

-- a letter that was raised lowers to itself
raised_lowers : (b : ℕ) → to_ascii_lowercase b ≡ b → to_ascii_lowercase (raised b) ≡ b
raised_lowers b lower = grind (arith, nat_tests, lower)

-- a raised letter is a letter
raised_is_letter : (b : ℕ) → (nat_le 97 b && nat_le b 122) ≡ true → is_ascii_alphanumeric (b - 32) ≡ true
raised_is_letter b letter = grind (arith, nat_tests, letter)

-- so it is of the class of tokens
raised_token : (b : ℕ) → is_name_byte b ≡ true → is_name_byte (raised b) ≡ true
unfolding is_name_byte
raised_token b token = by_test (nat_le 97 b && nat_le b 122) refl
  where
    by_test : (t : Bool) → (nat_le 97 b && nat_le b 122) ≡ t → is_name_byte (cond t (b - 32) b) ≡ true
    by_test true letter = or_left _ _ (raised_is_letter b letter)
    by_test false letter = token

-- both crates have one class
same_class : (text : List ℕ) → AllPass is_name_byte text → AllPass is_token_byte text
unfolding is_name_byte is_token_byte
same_class text all = all

-- ---- names

-- each byte is of the class, and in lower case
abbrev AreLower : List ℕ → Type 0
AreLower name = AllByRecursion (λ b. (to_ascii_lowercase b ≡ b) × (is_name_byte b ≡ true)) name

first_byte : (a b : ℕ) (x y : List ℕ) → a ∷ x ≡ b ∷ y → a ≡ b
first_byte a b x y e = cc

other_bytes : (a b : ℕ) (x y : List ℕ) → a ∷ x ≡ b ∷ y → x ≡ y
other_bytes a b x y e = cc

lower_name : (name : List ℕ) → lowercase name ≡ name → AllPass is_name_byte name → AreLower name
lower_name [] e all = tt
lower_name (b ∷ name) e all = (
  (first_byte _ _ (lowercase name) name e, All-head (λ x. IsTrue (is_name_byte x)) b name all),
  lower_name name (other_bytes _ _ (lowercase name) name e) (All-tail (λ x. IsTrue (is_name_byte x)) b name all),
)

-- the text is a name, however its letters are cased
record Cased (name text : List ℕ) : Type 0 where
  lowers : lowercase text ≡ name
  token : AllPass is_name_byte text
  long : length text ≡ length name

-- with one more byte
cased_cons : (b c : ℕ) (name text : List ℕ) → to_ascii_lowercase c ≡ b → is_name_byte c ≡ true → Cased name text → Cased (b ∷ name) (c ∷ text)
cased_cons b c name text lowers token x = record {
  lowers = λ i. lowers i ∷ x.lowers i;
  token = All-cons (λ y. IsTrue (is_name_byte y)) c text token x.token;
  long = ap suc x.long;
}

cased_nil : Cased [] []
cased_nil = record { lowers = refl; token = All-nil (λ y. IsTrue (is_name_byte y)); long = refl }

-- a name as it is
cased_same : (name : List ℕ) → AreLower name → Cased name name
cased_same [] all = cased_nil
cased_same (b ∷ name) all = cased_cons b b name name all.0.0 all.0.1 (cased_same name all.1)

-- what follows the first byte
rest_cased : (name : List ℕ) → AreLower name → Cased name (camel_rest name)
unfolding camel_rest
rest_cased [] all = cased_nil
rest_cased (b ∷ []) all = cased_cons b b [] [] all.0.0 all.0.1 cased_nil
rest_cased (b ∷ c ∷ name) all = by_test (b == 45) (rest_cased name all.1.1) (rest_cased (c ∷ name) all.1)
  where
    by_test : (t : Bool) → Cased name (camel_rest name) → Cased (c ∷ name) (camel_rest (c ∷ name))
        → Cased (b ∷ c ∷ name) (cond t (b ∷ raised c ∷ camel_rest name) (b ∷ camel_rest (c ∷ name)))
    by_test true x y =
        cased_cons b b (c ∷ name) (raised c ∷ camel_rest name) all.0.0 all.0.1
        (cased_cons c (raised c) name (camel_rest name) (raised_lowers c all.1.0.0) (raised_token c all.1.0.1) x)
    by_test false x y = cased_cons b b (c ∷ name) (camel_rest (c ∷ name)) all.0.0 all.0.1 y

-- the whole name
name_cased : (camel : Bool) (name : List ℕ) → AreLower name → Cased name (name_text camel name)
name_cased false name all = cased_same name all
name_cased true [] all = cased_nil
name_cased true (b ∷ name) all =
    cased_cons b (raised b) name (camel_rest name) (raised_lowers b all.0.0) (raised_token b all.0.1) (rest_cased name all.1)

-- a blank in front of a value is left out
blank_in_front : (value : List ℕ) → trim_ows (32 ∷ value) ≡ trim_ows value
unfolding trim_ows
blank_in_front value = refl

-- a clean header is a clean line
pub clean_header : (camel : Bool) (h : Header) → IsCleanHeader h → IsCleanLine camel h
clean_header camel h x =
    let c = name_cased camel h.name (lower_name h.name x.lower x.name.0.1) in
    record {
      name = (omega (arith, c.long, x.name.0.0), same_class (name_text camel h.name) c.token);
      field_name = ((omega (arith, c.long, x.name.0.0), c.token), omega (arith, c.long, x.name.1));
      lowers = c.lowers;
      value = x.value;
      trimmed = blank_in_front h.value ∙ x.trimmed;
    }
