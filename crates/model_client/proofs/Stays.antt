-- What was handed out stays the beginning of the answers when bytes or requests follow.
use Rattle.std.proofs.Common.{◌≡◌, ℕ, ◌<◌, ◌≤◌, false, List, [], ◌∷◌, ◌++◌, length, reverse, IsSome, unwrap_or, ap, ◌∙◌, subst, arith}
use Rattle.std.proofs.lemmas.List.{length-reverse}
use Rattle.model_h1.specs.Parse.{next_start}
use Rattle.model_h1.proofs.HandedLemmas.{ended_closed, items_grow}
use Rattle.model_client.specs.AnswerParse.{Received, AnswerMessage, is_interim, AreAnswersIn}
use Rattle.model_client.specs.Laws.Growth.{AnswerGrows, AnswersGrow}
use Rattle.model_client.proofs.AnswerGrowth.{answers_stay}
use Rattle.model_client.specs.ReadOut.{ReadAnswer, ReadOut}
use Rattle.model_client.specs.Parsed.{IsReadOf, IsLastOrEnded, IsPrefixFrom, IsPrefixOf}

read_grows : (front all : List ℕ) (h : ReadAnswer) (m n : AnswerMessage) → AnswerGrows front all m n → IsReadOf front h m → IsReadOf all h n
read_grows front all h m n g x = record { reading = x.reading ∙ g.reading; items = items_grow front all m.body n.body h.items g.body x.items }

last_grows : (front all : List ℕ) (m n : AnswerMessage) (hs : List ReadAnswer) → AnswerGrows front all m n → IsLastOrEnded m hs → IsLastOrEnded n hs
last_grows front all m n [] g x = tt
last_grows front all m n (next ∷ hs) g x = subst (λ b. IsSome (next_start b)) (g.body.closed (ended_closed m.body x)).0 x

-- where others follow, the next answer starts at the same place
next_same : (front all : List ℕ) (m n : AnswerMessage) (hs : List ReadAnswer) → AnswerGrows front all m n → IsLastOrEnded m hs → 0 < length hs
    → next_start m.body ≡ next_start n.body
next_same front all m n [] g x some = absurd (omega (arith, some))
next_same front all m n (next ∷ hs) g x some = ap next_start (g.body.closed (ended_closed m.body x)).0

-- nothing is the prefix of all, wherever it starts
prefix_place : (size : ℕ) (all : List ℕ) (place other : ℕ) (handed : List ReadAnswer) (ns : List AnswerMessage) → (0 < length handed → place ≡ other)
    → IsPrefixFrom size all place handed ns → IsPrefixFrom size all other handed ns
prefix_place size all place other [] [] same x = tt
prefix_place size all place other [] (n ∷ ns) same x = tt
prefix_place size all place other (h ∷ hs) ns same x = subst (λ p. IsPrefixFrom size all p (h ∷ hs) ns) (same (omega arith)) x

prefix_grows : (size : ℕ) (front all : List ℕ) (place : ℕ) (handed : List ReadAnswer) (ms ns : List AnswerMessage) → AnswersGrow front all ms ns
    → length handed ≤ length ms → IsPrefixFrom size front place handed ms → IsPrefixFrom size all place handed ns
prefix_grows size front all place [] ms [] g few x = tt
prefix_grows size front all place [] ms (n ∷ ns) g few x = tt
prefix_grows size front all place (h ∷ hs) [] ns g few x = absurd (omega (arith, few))
prefix_grows size front all place (h ∷ hs) (m ∷ ms) [] g few x = absurd g
prefix_grows size front all place (h ∷ hs) (m ∷ ms) (n ∷ ns) g few x =
    let here = unwrap_or (next_start m.body) place in
    let others = prefix_grows size front all here hs ms ns g.1 (omega (arith, few)) x.2 in
    let same : 0 < length hs → here ≡ unwrap_or (next_start n.body) place =
    λ some. ap (λ o. unwrap_or o place) (next_same front all m n hs g.0 x.1 some) in (
      read_grows front all h m n g.0 x.0,
      last_grows front all m n hs g.0 x.1,
      prefix_place size all here (unwrap_or (next_start n.body) place) hs ns same others,
    )

pub prefix_stays : (r s : Received) (more : List ℕ) (methods extra : List (List ℕ)) (size : ℕ) (out : ReadOut) (ms ns : List AnswerMessage)
    → s.bytes ≡ r.bytes ++ more → s.hold_size ≡ r.hold_size → r.ended ≡ false → AreAnswersIn is_interim r methods ms
    → AreAnswersIn is_interim s (methods ++ extra) ns → length out.answers ≤ length ms → IsPrefixOf size r.bytes out ms → IsPrefixOf size s.bytes out ns
prefix_stays r s more methods extra size out ms ns bytes held ended x y few prefix = (
  prefix.0,
  prefix_grows size r.bytes s.bytes 0 (reverse out.answers) ms ns (answers_stay is_interim r s more methods extra ms ns bytes held ended x y)
      (omega (arith, few, length-reverse out.answers)) prefix.1,
)
