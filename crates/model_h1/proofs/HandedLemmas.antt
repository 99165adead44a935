-- What was handed out stays the beginning of the parse when bytes follow.
use Rattle.std.proofs.Common.{◌≡◌, ℕ, ◌<◌, ◌≤◌, false, List, [], ◌∷◌, ◌++◌, length, Some, None, IsSome, unwrap_or, refl, sym, ap, ◌∙◌, subst, arith, append_assoc, length-append}
use Rattle.std.proofs.lemmas.List.{length-map}
use Rattle.std.proofs.lemmas.List.Sums.{sum_by-append}
use Rattle.model_h1.specs.FrameText.{PlacedFrame}
use Rattle.model_h1.specs.Parse.{Message, Body, no_content, content, frames, ended_at, still_open, broken, cut, next_start}
use Rattle.model_h1.specs.Handed.{Item, Handed, Begins, body_bytes, last_items, item_frame, AreItemsOf, Agrees, IsLastOrEnded, IsPrefixFrom}
use Rattle.model_h1.specs.Laws.Growth.{may_grow, BodyGrows, MessageGrows, GrowTo}
use Rattle.model_h1.proofs.HandedItems.{item_frames, items_frames, joined, frames_counted, stop_frames}

-- the beginning of a beginning
pub begins_trans : {A : Type 0} (a b c : List A) → Begins a b → Begins b c → Begins a c
begins_trans a b c x y = (x.0 ++ y.0, y.1 ∙ ap (λ (t : List _). t ++ y.0) x.1 ∙ append_assoc a x.0 y.0)

-- it is no longer
begins_len : {A : Type 0} (a b : List A) → Begins a b → length a ≤ length b
begins_len a b x = omega (arith, ap length x.1, length-append a x.0)

-- a body behind which a message starts isn't open
pub ended_closed : (b : Body) → IsSome (next_start b) → may_grow b ≡ false
ended_closed no_content some = refl
ended_closed (content runs (ended_at place lines)) some = refl
ended_closed (content runs still_open) some = cc
ended_closed (content runs broken) some = refl
ended_closed (content runs cut) some = refl
ended_closed (frames placed None) some = cc
ended_closed (frames placed (Some fail)) some = refl

-- a body with frames has no bytes of its own
frames_alone : (text : List ℕ) (b : Body) → 0 < items_frames (last_items b) → body_bytes text b ≡ []
frames_alone text no_content some = refl
frames_alone text (content runs stop) some = absurd (omega (arith, stop_frames stop))
frames_alone text (frames placed fail) some = refl

-- where something is handed out behind the bytes, no bytes follow
bytes_end : (front all : List ℕ) (a b : Body) (last : List Item) → BodyGrows front all a b → Begins last (last_items a) → 0 < length last
    → body_bytes front a ≡ body_bytes all b
bytes_end front all no_content b last g x some = (g.closed refl).1
bytes_end front all (content runs (ended_at place lines)) b last g x some = (g.closed refl).1
bytes_end front all (content runs still_open) b last g x some = let less = begins_len last [] x in absurd (omega arith)
bytes_end front all (content runs broken) b last g x some = (g.closed refl).1
bytes_end front all (content runs cut) b last g x some = (g.closed refl).1
bytes_end front all (frames placed None) b last g x some =
    let here = begins_len last (last_items (frames placed None)) x in
    let len = length-map placed (λ (p : PlacedFrame). item_frame p.frame) in
    let there = ap items_frames g.items.1 ∙ sum_by-append item_frames (last_items (frames placed None)) g.items.0 in
    sym (frames_alone all b (omega (arith, frames_counted placed)))
bytes_end front all (frames placed (Some fail)) b last g x some = (g.closed refl).1

-- the items of a body are those of the grown one
pub items_grow : (front all : List ℕ) (a b : Body) (items : List Item) → BodyGrows front all a b → AreItemsOf front a items → AreItemsOf all b items
items_grow front all a b items g x = record {
  pieces = x.pieces;
  last = x.last;
  are = x.are;
  some = x.some;
  begins = begins_trans (joined x.pieces) (body_bytes front a) (body_bytes all b) x.begins g.bytes;
  behind = λ some. x.behind some ∙ bytes_end front all a b x.last g x.follow some;
  follow = begins_trans x.last (last_items a) (last_items b) x.follow g.items;
}

-- what was handed out of a message agrees with the grown one
pub agrees_grows : (front all : List ℕ) (h : Handed) (m n : Message) → MessageGrows front all m n → Agrees front h m → Agrees all h n
agrees_grows front all h m n g x = record {
  reading = x.reading ∙ g.reading;
  items = items_grow front all m.body n.body h.items g.body x.items;
}

-- a message that has ended still has
last_grows : (front all : List ℕ) (h : Handed) (m n : Message) (hs : List Handed) → MessageGrows front all m n → IsLastOrEnded h m hs
    → IsLastOrEnded h n hs
last_grows front all h m n [] g x = tt
last_grows front all h m n (next ∷ hs) g x =
    let same = g.body.closed (ended_closed m.body x.0) in
    (subst (λ b. IsSome (next_start b)) same.0 x.0, x.1)

-- where others follow, the next message starts at the same place
next_same : (front all : List ℕ) (h : Handed) (m n : Message) (hs : List Handed) → MessageGrows front all m n → IsLastOrEnded h m hs
    → 0 < length hs → next_start m.body ≡ next_start n.body
next_same front all h m n [] g x some = absurd (omega arith)
next_same front all h m n (next ∷ hs) g x some = ap next_start (g.body.closed (ended_closed m.body x.0)).0

-- nothing is the prefix of all, wherever it starts
prefix_place : (hold_size : ℕ) (all : List ℕ) (place other : ℕ) (handed : List Handed) (ns : List Message) → (0 < length handed → place ≡ other)
    → IsPrefixFrom hold_size all place handed ns → IsPrefixFrom hold_size all other handed ns
prefix_place hold_size all place other [] [] same x = tt
prefix_place hold_size all place other [] (n ∷ ns) same x = tt
prefix_place hold_size all place other (h ∷ hs) ns same x = subst (λ p. IsPrefixFrom hold_size all p (h ∷ hs) ns) (same (omega arith)) x

-- what was handed out of the messages stays their prefix
pub prefix_grows : (hold_size : ℕ) (front all : List ℕ) (place : ℕ) (handed : List Handed) (ms ns : List Message) → GrowTo front all ms ns
    → length handed ≤ length ms → IsPrefixFrom hold_size front place handed ms → IsPrefixFrom hold_size all place handed ns
prefix_grows hold_size front all place [] ms [] g few x = tt
prefix_grows hold_size front all place [] ms (n ∷ ns) g few x = tt
prefix_grows hold_size front all place (h ∷ hs) [] ns g few x = absurd (omega arith)
prefix_grows hold_size front all place (h ∷ hs) (m ∷ ms) [] g few x = absurd g
prefix_grows hold_size front all place (h ∷ hs) (m ∷ ms) (n ∷ ns) g few x =
    let here = unwrap_or (next_start m.body) place in
    let others = prefix_grows hold_size front all here hs ms ns g.1 (omega arith) x.2 in
    let same : 0 < length hs → here ≡ unwrap_or (next_start n.body) place =
    λ some. ap (λ o. unwrap_or o place) (next_same front all h m n hs g.0 x.1 some) in
    let placed = prefix_place hold_size all here (unwrap_or (next_start n.body) place) hs ns same others in
    (agrees_grows front all h m n g.0 x.0, last_grows front all h m n hs g.0 x.1, placed)
