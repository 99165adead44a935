-- All of a body, chunk by chunk.
use Rattle.std.proofs.Common.{◌≡◌, ℕ, ◌+◌, Option, Some, None, List, [], ◌∷◌, ◌++◌, refl, sym, ap, ◌∙◌, append_assoc, length, length-append}
use Rattle.http_bodies.specs.Told.{led_by}
use Rattle.http_bodies.specs.Giving.{Given, chunk, Giving}
use Rattle.http_bodies.specs.Whole.{Whole, unknown, ends, fails, after, content, whole}
use Rattle.http_bodies.proofs.Histories.{led_by-more}

after-more : (a b : List ℕ) (w : Whole) → after a (after b w) ≡ after (a ++ b) w
after-more a b unknown = refl
after-more a b (ends bytes) = ap ends (sym (append_assoc a b bytes))
after-more a b (fails bytes n) = ap (λ l. fails l n) (sym (append_assoc a b bytes))

-- a chunk that came is no longer to come, and all stays the same
pub gathered : (got more piece : List ℕ) (old new : Option (List Given)) → old ≡ led_by (chunk piece ∷ []) new → more ≡ got ++ piece
    → whole more new ≡ whole got old
gathered got more piece old None here now = rw here refl
gathered got more piece old (Some coming) here now = rw (here, now) (sym (after-more got piece (content coming)))

-- one more has come
pub came_more : (n : ℕ) (old mid new : Option (List Given)) (g : Given) → ((xs : List Given) × (old ≡ led_by xs mid) × (length xs ≡ n)) → mid ≡ led_by (g ∷ []) new
    → ((xs : List Given) × (old ≡ led_by xs new) × (length xs ≡ n + 1))
came_more n old mid new g (xs, was, counts) here =
    (xs ++ (g ∷ []), was ∙ ap (led_by xs) here ∙ led_by-more xs (g ∷ []) new, rw length-append (ap (λ k. k + 1) counts))

-- the same, where the body was left as it was since
pub gathered_in : {B : Type 0} (gives : B → Giving) (got more piece : List ℕ) (old : Option (List Given)) (mid new : B)
    → old ≡ led_by (chunk piece ∷ []) (gives mid).coming → more ≡ got ++ piece → new ≡ mid → whole more (gives new).coming ≡ whole got old
gathered_in gives got more piece old mid new here now same = rw same (gathered got more piece old (gives mid).coming here now)

pub came_in : {B : Type 0} (gives : B → Giving) (n : ℕ) (old between : Option (List Given)) (mid new : B) (g : Given)
    → ((xs : List Given) × (old ≡ led_by xs between) × (length xs ≡ n)) → between ≡ led_by (g ∷ []) (gives mid).coming → new ≡ mid
    → ((xs : List Given) × (old ≡ led_by xs (gives new).coming) × (length xs ≡ n + 1))
came_in gives n old between mid new g was here same = rw same (came_more n old between (gives mid).coming g was here)
