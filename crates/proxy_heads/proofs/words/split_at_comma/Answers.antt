use Rattle.std.proofs.Common.{◌≡◌, ℕ, ◌+◌, ◌-◌, ◌<◌, ◌≤◌, List, ◌∷◌, length, take, drop, sym, ap, ◌∙◌, subst, arith}
use Rattle.std.proofs.lemmas.List.{take_all, drop-drop, length-drop}
use Rattle.model_proxy.specs.HopNames.{words_in}
use Rattle.proxy_heads.specs.Words.{word_of}
use Rattle.proxy_heads.proofs.WordLemmas.{IsFirstWord, first_word}
use Rattle.proxy_heads.proofs.words.split_at_comma.Goals as goal

-- what stands behind the comma, as the code cuts it
behind_comma : (list back : List ℕ) (at : ℕ) → back ≡ drop at list → take (length back - 1) (drop 1 back) ≡ drop (at + 1) list
behind_comma list back at is =
    let all : length (drop 1 back) ≤ length back - 1 = omega (arith, length-drop 1 back) in
    take_all (length back - 1) (drop 1 back) all ∙ ap (drop 1) is ∙ drop-drop 1 at list

parts_are : (list front back : List ℕ) (at : ℕ) → at < length list → front ≡ take at list → back ≡ drop at list
    → words_in list ≡ word_of (take at list) ∷ words_in (drop (at + 1) list)
    → (length (take (length back - 1) (drop 1 back)) < length list)
    × (words_in list ≡ word_of front ∷ words_in (take (length back - 1) (drop 1 back)))
parts_are list front back at within front_is back_is words =
    let tail = behind_comma list back at back_is in (
      omega (arith, ap length tail, length-drop (at + 1) list),
      words ∙ (λ i. word_of (sym front_is i) ∷ words_in (sym tail i)),
    )

pub returns-in-Some : goal.returns-in-Some
returns-in-Some c =
    let found = subst (IsFirstWord c.args.list.now) (sym c.in-Some.ensures) (first_word c.args.list.now) in
    parts_are c.args.list.now c.split_at.result.0.now c.split_at.result.1.now c.in-Some.at found.0 c.split_at.ensures.front c.split_at.ensures.back found.1

pub returns-in-None : goal.returns-in-None
returns-in-None c = subst (IsFirstWord c.args.list.now) (sym c.in-None.ensures) (first_word c.args.list.now)
