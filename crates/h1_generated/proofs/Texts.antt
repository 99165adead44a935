-- Texts and lists that are made part by part.
use Rattle.std.proofs.Common.{◌≡◌, ℕ, List, ◌++◌, ap, ◌∙◌, append_assoc, codes}
use Rattle.std.specs.Prelude.{decimal}
use Rattle.h1_generated.specs.Generated.{Kind, method_of, framing_line, head_text}
use Rattle.h1_generated.specs.GeneratedMeaning.{request_line}

-- one part more
pub longer : {X : Type 0} (old a b xs ys : List X) → a ≡ old ++ xs → b ≡ a ++ ys → b ≡ old ++ (xs ++ ys)
longer old a b xs ys first next = next ∙ ap (λ l. l ++ ys) first ∙ append_assoc old xs ys

-- the request line
pub line_made : (old m a b c d : List ℕ) (kind : Kind) (k : ℕ) → m ≡ method_of kind → a ≡ old ++ m → b ≡ a ++ codes " /" → c ≡ b ++ decimal k
    → d ≡ c ++ codes " HTTP/1.1\r\n" → d ≡ old ++ request_line kind k
line_made old m a b c d kind k is first second third fourth =
    let two = longer old a b (method_of kind) (codes " /") (first ∙ ap (λ (t : List ℕ). old ++ t) is) second in
    let three = longer old b c (method_of kind ++ codes " /") (decimal k) two third in
    let four = longer old c d (method_of kind ++ codes " /" ++ decimal k) (codes " HTTP/1.1\r\n") three fourth in
    four ∙ ap (λ (t : List ℕ). old ++ t)
    (append_assoc (method_of kind ++ codes " /") (decimal k) (codes " HTTP/1.1\r\n")
    ∙ append_assoc (method_of kind) (codes " /") (decimal k ++ codes " HTTP/1.1\r\n"))

-- the whole head
pub head_made : (old a b c : List ℕ) (kind : Kind) (k n : ℕ) → a ≡ old ++ request_line kind k → b ≡ a ++ framing_line kind n → c ≡ b ++ codes "\r\n"
    → c ≡ old ++ head_text kind k n
unfolding head_text
head_made old a b c kind k n first second third =
    let rest = framing_line kind n ++ codes "\r\n" in
    let two = longer old a b (request_line kind k) (framing_line kind n) first second in
    let three = longer old b c (request_line kind k ++ framing_line kind n) (codes "\r\n") two third in
    three ∙ ap (λ (t : List ℕ). old ++ t)
    (append_assoc (request_line kind k) (framing_line kind n) (codes "\r\n")
    ∙ append_assoc (method_of kind) (codes " /" ++ (decimal k ++ codes " HTTP/1.1\r\n")) rest
    ∙ ap (λ (t : List ℕ). method_of kind ++ (codes " /" ++ t)) (append_assoc (decimal k) (codes " HTTP/1.1\r\n") rest))
