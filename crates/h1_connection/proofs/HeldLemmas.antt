-- The bytes that are held, from one place on.
use Rattle.std.proofs.Common.{◌≡◌, ◌≤◌, ◌<◌, ◌-◌, ◌+◌, ◌++◌, ℕ, List, [], length, take, drop, arith, sym, ap, ◌∙◌, subst, append-nil, append_assoc, length-append, length-drop}
use Rattle.std.proofs.lemmas.List.{drop-append-le, take_rest}
use Rattle.std.proofs.Math.Seq.{drop-append-add}
use Rattle.std.specs.Prelude.{false, None}
use Rattle.http_config.specs.Config.{Settings}
use Rattle.model_state.specs.Kept.{Kept, is_free}
use Rattle.h1_connection.specs.Incoming.{Incoming, incoming, IsSearched}
use Rattle.h1_connection.specs.Parts.{kept_of, IsSound}
use Rattle.h1_connection.specs.State.{State}
use Rattle.h1_connection.specs.declared.connection.head_search.Search.{Search}
use Rattle.h1_connection.specs.declared.connection.head_search.Search.TheVariants.{Off, Due, Done}
use Rattle.h1_connection.specs.declared.connection.parts.Parts.{Parts}
use Rattle.h1_connection.proofs.AnswerLemmas.{nothing_found}

-- these bytes stand at that place
abbrev pub StandsAt : List ℕ → ℕ → List ℕ → Type 0
StandsAt bytes start all = (rest : List ℕ) × (bytes ++ rest ≡ drop start all)

-- a rest of those in front, with others behind
pub front_stands : (front behind bytes : List ℕ) (start : ℕ) → start ≤ length front → StandsAt bytes start front → StandsAt bytes start (front ++ behind)
front_stands front behind bytes start fits stands = (
  stands.0 ++ behind,
  sym (append_assoc bytes stands.0 behind) ∙ ap (λ (l : List ℕ). l ++ behind) stands.1 ∙ sym (drop-append-le start front behind fits),
)

-- of those behind
behind_drop : (front behind : List ℕ) (start : ℕ) → length front ≤ start → drop (start - length front) behind ≡ drop start (front ++ behind)
behind_drop front behind start fits =
    let sum : start ≡ length front + (start - length front) = omega (arith, fits) in
    sym (drop-append-add front behind (start - length front)) ∙ ap (λ (n : ℕ). drop n (front ++ behind)) (sym sum)

-- all of them
pub all_stands : (bytes all : List ℕ) (start : ℕ) → bytes ≡ drop start all → StandsAt bytes start all
all_stands bytes all start is = ([], append-nil bytes ∙ is)

-- how many they are
pub stands_fits : (bytes all : List ℕ) (start : ℕ) → StandsAt bytes start all → length bytes ≤ length all - start
stands_fits bytes all start stands = omega (arith, length-append bytes stands.0, ap (λ (l : List ℕ). length l) stands.1, length-drop start all)

-- ---- the fields of an input

-- where no head is searched for, none was cut off
pub none_cut : (front bytes : List ℕ) (search : Search) (i : Incoming) → incoming front bytes search ≡ i → IsSearched front bytes search → i.piece ≡ None → front ≡ []
none_cut front bytes Off i view searched none = searched
none_cut front bytes Due i view searched none = searched
none_cut front bytes (Done scan) i view searched none = absurd (cc (ap (λ (j : Incoming). j.piece) view ∙ none))

pub cut_stands : (front bytes got piece : List ℕ) (search : Search) (i : Incoming) (start : ℕ) → incoming front bytes search ≡ i → piece ≡ front → start ≤ length front
    → got ≡ take (length piece - start) (drop start piece) → StandsAt got start i.unread
cut_stands front bytes got piece search i start view is fits got_is =
    subst (λ (j : Incoming). StandsAt got start j.unread) view
    (front_stands front bytes got start fits (all_stands got front start (got_is ∙ take_rest piece start ∙ ap (drop start) is)))

pub rest_is : (front bytes got all : List ℕ) (search : Search) (i : Incoming) (start size : ℕ) → incoming front bytes search ≡ i → all ≡ bytes → size ≡ length front → size ≤ start
    → got ≡ drop (start - size) all → got ≡ drop start i.unread
rest_is front bytes got all search i start size view is size_is fits got_is =
    got_is ∙ ap (drop (start - size)) is ∙ ap (λ (n : ℕ). drop (start - n) bytes) size_is ∙ behind_drop front bytes start (omega (arith, size_is, fits))
    ∙ ap (λ (j : Incoming). drop start j.unread) view

pub rest_stands : (front bytes got all : List ℕ) (search : Search) (i : Incoming) (start size : ℕ) → incoming front bytes search ≡ i → all ≡ bytes → size ≡ length front → size ≤ start
    → got ≡ drop (start - size) all → StandsAt got start i.unread
rest_stands front bytes got all search i start size view is size_is fits got_is =
    all_stands got i.unread start (rest_is front bytes got all search i start size view is size_is fits got_is)

-- ---- that they are some

pub drop_some : (got all : List ℕ) (start : ℕ) → got ≡ drop start all → start < length all → 0 < length got
drop_some got all start is fits = omega (arith, ap (λ (l : List ℕ). length l) is, length-drop start all, fits)

-- ---- of a connection

pub held_whole : (settings : Settings) (p : Parts) (s : State) (got : List ℕ) (start : ℕ) → (v : State) → v ≡ s → v.kept ≡ kept_of p → IsSound settings p
    → (p.input.piece ≡ None → got ≡ drop start p.input.unread) → is_free s.kept ≡ false → got ≡ drop start s.kept.unread
held_whole settings p s got start v view kept sound whole busy =
    let free : is_free (kept_of p) ≡ false = ap is_free (sym kept ∙ ap (λ (u : State). u.kept) view) ∙ busy in
    whole (nothing_found p.input.piece (sound.searched ∙ free)) ∙ ap (λ (k : Kept). drop start k.unread) (sym kept ∙ ap (λ (u : State). u.kept) view)
