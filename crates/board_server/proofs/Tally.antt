-- What a journal tells of each name, after one entry more.
use Rattle.std.proofs.Common.{◌≡◌, ◌<◌, ◌+◌, ◌==◌, ◌&&◌, ℕ, Bool, true, false, cond, Option, Some, None, List, [], ◌∷◌, ◌++◌, length, take, get_or, add-one, refl, sym, ap, ap₂, ◌∙◌, arith}
use Rattle.std.proofs.Math.Seq.{take-suc}
use Rattle.std.specs.Prelude.{if◌then◌else◌}
use Rattle.std.specs.List.{count_by}
use Rattle.std.specs.Cmp.Lexicographic.{slice_cmp}
use Rattle.std.specs.Ordering.{is_eq, nat_cmp}
use Rattle.std.specs.Str.{bytes_eq}
use Rattle.std.proofs.lemmas.Bool.{ne_eqb}
use Rattle.std.proofs.lemmas.List.Sums.{sum_by-append}
use Rattle.std.proofs.lemmas.Map.Text.{is_eq-slice_cmp}
use Rattle.std.proofs.lemmas.Option.{slice_get-get_or}
use Rattle.std.proofs.lemmas.Slice.Eq.{bytes_eq-Decides}
use Rattle.board.specs.declared.command.Entry.{Entry}
use Rattle.board.specs.Journal.{IsRight, counter, name_of, is_add, reply_after}
use Rattle.board.proofs.Entries.{reply_is, counter_push}
use Rattle.board_server.specs.Texts.{speaks_of, told_of}

no_more : (a b : ℕ) → a + (0 + b) ≡ a + b
no_more a b = omega arith

spoken_push : (journal : List Entry) (e : Entry) (name : List ℕ) → count_by (speaks_of name) (journal ++ e ∷ []) ≡ count_by (speaks_of name) journal + (if speaks_of name e then 1 else 0)
spoken_push journal e name = sum_by-append (λ x. if speaks_of name x then 1 else 0) journal (e ∷ []) ∙ no_more (count_by (speaks_of name) journal) (if speaks_of name e then 1 else 0)

some_told : (n count : ℕ) → (if n + 1 == 0 then None else Some count) ≡ Some count
some_told n count = ap (λ (b : Bool). if b then None else Some count) (ne_eqb (n + 1) 0 (λ is. omega (arith, is)))

none_added : (a : Bool) (n : ℕ) → n + (if a && false then 1 else 0) ≡ n
none_added true n = omega arith
none_added false n = omega arith

one_added : (a : Bool) (n : ℕ) → n + (if a && true then 1 else 0) ≡ n + (if a then 1 else 0)
one_added true n = refl
one_added false n = refl

zero_added : (n : ℕ) → n + 0 ≡ n
zero_added n = omega arith

told_by_case : (journal : List Entry) (e : Entry) (name : List ℕ) (b : Bool) → bytes_eq (name_of e.command) name ≡ b → e.reply.0 ≡ reply_after journal e.command
    → told_of name (journal ++ e ∷ []) ≡ cond b (Some e.reply.0) (told_of name journal)
told_by_case journal e name true same reply =
    let spoken : count_by (speaks_of name) (journal ++ e ∷ []) ≡ count_by (speaks_of name) journal + 1 =
    spoken_push journal e name ∙ ap (λ (x : Bool). count_by (speaks_of name) journal + (if x then 1 else 0)) same in
    let counted : counter name (journal ++ e ∷ []) ≡ counter name journal + (if is_add e.command then 1 else 0) =
    counter_push journal e name ∙ ap (λ (x : Bool). counter name journal + (if is_add e.command && x then 1 else 0)) same ∙ one_added (is_add e.command) (counter name journal) in
    let replied : e.reply.0 ≡ counter name journal + (if is_add e.command then 1 else 0) =
    reply ∙ sym (reply_is journal e.command) ∙ ap (λ (x : List ℕ). counter x journal + (if is_add e.command then 1 else 0)) ((bytes_eq-Decides (name_of e.command) name).0 same) in
    ap₂ (λ (n count : ℕ). if n == 0 then None else Some count) spoken (counted ∙ sym replied) ∙ some_told (count_by (speaks_of name) journal) e.reply.0
told_by_case journal e name false differs reply =
    let spoken : count_by (speaks_of name) (journal ++ e ∷ []) ≡ count_by (speaks_of name) journal =
    spoken_push journal e name ∙ ap (λ (x : Bool). count_by (speaks_of name) journal + (if x then 1 else 0)) differs ∙ zero_added (count_by (speaks_of name) journal) in
    let counted : counter name (journal ++ e ∷ []) ≡ counter name journal =
    counter_push journal e name ∙ ap (λ (x : Bool). counter name journal + (if is_add e.command && x then 1 else 0)) differs ∙ none_added (is_add e.command) (counter name journal) in
    ap₂ (λ (n count : ℕ). if n == 0 then None else Some count) spoken counted

pub told_push : (journal : List Entry) (e : Entry) (name : List ℕ) → e.reply.0 ≡ reply_after journal e.command
    → told_of name (journal ++ e ∷ []) ≡ cond (bytes_eq (name_of e.command) name) (Some e.reply.0) (told_of name journal)
told_push journal e name reply = told_by_case journal e name (bytes_eq (name_of e.command) name) refl reply

-- the counter of one name was set
pub noted : (f g : List ℕ → Option ℕ) (key : List ℕ) (value : ℕ) → ((q : List ℕ) → g q ≡ cond (is_eq (slice_cmp nat_cmp key q)) (Some value) (f q))
    → (q : List ℕ) → g q ≡ cond (bytes_eq key q) (Some value) (f q)
noted f g key value now q = now q ∙ ap (λ (t : Bool). cond t (Some value) (f q)) (is_eq-slice_cmp key q)

-- the entry at a place, after those before it
one_more : (journal : List Entry) (i : ℕ) (e : Entry) → i < length journal → e ≡ get_or journal i e → take (i + 1) journal ≡ take i journal ++ e ∷ []
one_more journal i e inside is = ap (λ (n : ℕ). take n journal) (add-one i) ∙ (take-suc journal i e inside ∙ ap (λ x. take i journal ++ x ∷ []) (sym is))

-- and its reply is noted as the counter of its name
pub told_more : (f g : List ℕ → Option ℕ) (journal : List Entry) (i : ℕ) (e : Entry) → i < length journal → e ≡ get_or journal i e → IsRight journal → ((name : List ℕ) → f name ≡ told_of name (take i journal))
    → ((name : List ℕ) → g name ≡ cond (bytes_eq (name_of e.command) name) (Some e.reply.0) (f name)) → (name : List ℕ) → g name ≡ told_of name (take (i + 1) journal)
told_more f g journal i e inside is right before now name =
    let at = slice_get-get_or journal i e inside ∙ ap Some (sym is) in
    now name ∙ ap (λ (o : Option ℕ). cond (bytes_eq (name_of e.command) name) (Some e.reply.0) o) (before name)
    ∙ sym (told_push (take i journal) e name (right i e at)) ∙ ap (told_of name) (sym (one_more journal i e inside is))
