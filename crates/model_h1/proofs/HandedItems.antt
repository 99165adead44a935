-- Items that are handed out: what each adds to those of a body.
use Rattle.std.proofs.Common.{◌≡◌, ℕ, ◌+◌, ◌<◌, Bool, true, false, List, [], ◌∷◌, ◌++◌, length, map, flat_map, refl, sym, ap, ap₂, ◌∙◌, inl, inr, arith, append_assoc, append-nil, length-append}
use Rattle.std.specs.Prelude.{◌||◌, sum_by, ◌⊎◌}
use Rattle.std.specs.List.{list_any}
use Rattle.std.proofs.lemmas.Bool.{true≢false, or_parts}
use Rattle.std.proofs.lemmas.List.{map-append}
use Rattle.std.proofs.lemmas.List.Concat.{flat_map-append}
use Rattle.std.proofs.lemmas.List.Sums.{sum_by-append, sum_by-cons}
use Rattle.std.proofs.lemmas.List.Folds.{list_any-append}
use Rattle.std.specs.List.{AllByRecursion}
use Rattle.model_h1.specs.FrameText.{PlacedFrame}
use Rattle.model_h1.specs.Event.{Outcome}
use Rattle.model_h1.specs.Event as on
use Rattle.model_h1.specs.Parse.{Body, Stop, ended_at, still_open, broken, cut}
use Rattle.model_h1.specs.Handed.{Item, item_bytes, item_trailers, item_end, item_fault, item_frame, Begins, stop_items, last_items, body_bytes, AreItemsOf}

-- ---- what an item is

-- the item that an outcome hands out, if it does
abbrev pub outcome_items : Outcome → List Item
outcome_items (on.bytes more) = item_bytes more ∷ []
outcome_items (on.trailers lines) = item_trailers lines ∷ []
outcome_items on.body_ended = item_end ∷ []
outcome_items (on.broken_by f) = item_fault f ∷ []
outcome_items (on.frame f) = item_frame f ∷ []
outcome_items _ = []

-- how many bytes it has
abbrev pub item_len : Item → ℕ
item_len (item_bytes more) = length more
item_len _ = 0

-- how many frames
abbrev pub item_frames : Item → ℕ
item_frames (item_frame f) = 1
item_frames _ = 0

-- it is trailers
abbrev pub is_trailers_item : Item → Bool
is_trailers_item (item_trailers lines) = true
is_trailers_item _ = false

-- it ends the body
abbrev pub is_ending : Item → Bool
is_ending item_end = true
is_ending (item_fault f) = true
is_ending _ = false

-- how many bytes the items have
abbrev pub items_len : List Item → ℕ
items_len items = sum_by item_len items

-- how many frames
abbrev pub items_frames : List Item → ℕ
items_frames items = sum_by item_frames items

-- trailers are among them
abbrev pub have_trailers : List Item → Bool
have_trailers items = list_any is_trailers_item items

-- the end or a fault is among them
abbrev pub have_ending : List Item → Bool
have_ending items = list_any is_ending items

-- ---- pieces

-- the pieces, one after another
abbrev pub joined : List (List ℕ) → List ℕ
joined pieces = flat_map (λ piece. piece) pieces

-- their bytes
pieces_len : (pieces : List (List ℕ)) → items_len (map item_bytes pieces) ≡ length (joined pieces)
pieces_len [] = refl
pieces_len (p ∷ ps) =
    sum_by-cons item_len (item_bytes p) (map item_bytes ps) ∙ ap (λ n. length p + n) (pieces_len ps) ∙ sym (length-append p (joined ps))

-- they have no frame
pieces_frames : (pieces : List (List ℕ)) → items_frames (map item_bytes pieces) ≡ 0
pieces_frames [] = refl
pieces_frames (p ∷ ps) = sum_by-cons item_frames (item_bytes p) (map item_bytes ps) ∙ ap (λ n. 0 + n) (pieces_frames ps) ∙ omega arith

-- nor trailers
pieces_trailers : (pieces : List (List ℕ)) → have_trailers (map item_bytes pieces) ≡ false
pieces_trailers [] = refl
pieces_trailers (p ∷ ps) = pieces_trailers ps

-- nor an ending
pieces_ending : (pieces : List (List ℕ)) → have_ending (map item_bytes pieces) ≡ false
pieces_ending [] = refl
pieces_ending (p ∷ ps) = pieces_ending ps

-- ---- what stands behind the pieces

-- the bytes are those of the pieces and of what stands behind them
pub last_len : (items : List Item) (pieces : List (List ℕ)) (last : List Item) → items ≡ map item_bytes pieces ++ last
    → items_len items ≡ length (joined pieces) + items_len last
last_len items pieces last e = ap items_len e ∙ sum_by-append item_len (map item_bytes pieces) last ∙ ap (λ n. n + items_len last) (pieces_len pieces)

-- the frames stand behind them
pub last_frames : (items : List Item) (pieces : List (List ℕ)) (last : List Item) → items ≡ map item_bytes pieces ++ last
    → items_frames items ≡ items_frames last
last_frames items pieces last e =
    ap items_frames e ∙ sum_by-append item_frames (map item_bytes pieces) last ∙ ap (λ n. n + items_frames last) (pieces_frames pieces) ∙ omega arith

-- and so do the trailers
pub last_trailers : (items : List Item) (pieces : List (List ℕ)) (last : List Item) → items ≡ map item_bytes pieces ++ last
    → have_trailers items ≡ have_trailers last
last_trailers items pieces last e =
    ap have_trailers e ∙ list_any-append is_trailers_item (map item_bytes pieces) last ∙ ap (λ b. b || have_trailers last) (pieces_trailers pieces)

-- and the ending
pub last_ending : (items : List Item) (pieces : List (List ℕ)) (last : List Item) → items ≡ map item_bytes pieces ++ last
    → have_ending items ≡ have_ending last
last_ending items pieces last e =
    ap have_ending e ∙ list_any-append is_ending (map item_bytes pieces) last ∙ ap (λ b. b || have_ending last) (pieces_ending pieces)

-- ---- frames and stops

-- each frame is one
pub frames_counted : (placed : List PlacedFrame) → items_frames (map (λ (p : PlacedFrame). item_frame p.frame) placed) ≡ length placed
frames_counted [] = refl
frames_counted (f ∷ fs) =
    sum_by-cons item_frames (item_frame f.frame) (map (λ (p : PlacedFrame). item_frame p.frame) fs)
    ∙ ap (λ n. 1 + n) (frames_counted fs) ∙ omega arith

-- where content stops there is none
pub stop_frames : (stop : Stop) → items_frames (stop_items stop) ≡ 0
stop_frames (ended_at place []) = refl
stop_frames (ended_at place (line ∷ more)) = refl
stop_frames still_open = refl
stop_frames broken = refl
stop_frames cut = refl

-- nor any bytes
pub stop_len : (stop : Stop) → items_len (stop_items stop) ≡ 0
stop_len (ended_at place []) = refl
stop_len (ended_at place (line ∷ more)) = refl
stop_len still_open = refl
stop_len broken = refl
stop_len cut = refl

-- ---- the beginning of what may stand there

-- equal lists have the same first item
pub first_item : (a b : Item) (is js : List Item) → a ∷ is ≡ b ∷ js → a ≡ b
first_item a b is js e = cc

-- and the same others
pub other_items : (a b : Item) (is js : List Item) → a ∷ is ≡ b ∷ js → is ≡ js
other_items a b is js e = cc

-- with no ending, nothing of a list that begins with one was handed out
pub none_ended : (item : Item) (items last : List Item) → is_ending item ≡ true → Begins last (item ∷ items) → have_ending last ≡ false → last ≡ []
none_ended item items [] ends x none = refl
none_ended item items (i ∷ is) ends x none =
    absurd (true≢false (sym (ap is_ending (sym (first_item item i items (is ++ x.0) x.1)) ∙ ends) ∙ (or_parts (is_ending i) (have_ending is) none).0))

-- and where one other stands before it, at most this one
pub one_ended : (front item : Item) (last : List Item) → is_ending item ≡ true → Begins last (front ∷ item ∷ []) → have_ending last ≡ false
    → (last ≡ []) ⊎ (last ≡ front ∷ [])
one_ended front item [] ends x none = inl refl
one_ended front item (i ∷ is) ends x none =
    let later = none_ended item [] is ends (x.0, other_items front i (item ∷ []) (is ++ x.0) x.1) (or_parts (is_ending i) (have_ending is) none).1 in
    inr (ap₂ (λ a b. a ∷ b) (sym (first_item front i (item ∷ []) (is ++ x.0) x.1)) later)

-- ---- one more item

-- a piece, of the bytes that follow: as there were more, nothing stands behind the pieces
pub add_piece : (text : List ℕ) (body : Body) (items : List Item) (more rest : List ℕ) (x : AreItemsOf text body items)
    → body_bytes text body ≡ joined x.pieces ++ (more ++ rest) → 0 < length more → AreItemsOf text body (items ++ item_bytes more ∷ [])
add_piece text body items more rest x e some =
    let all = body_bytes text body in
    let len = length-append (joined x.pieces) (more ++ rest) in
    let last : x.last ≡ [] = no_last x.last (λ has. omega (arith, ap length (x.behind has ∙ e), len, length-append more rest)) in
    let pieces = x.pieces ++ more ∷ [] in
    let join : joined pieces ≡ joined x.pieces ++ more =
    flat_map-append (λ (piece : List ℕ). piece) x.pieces (more ∷ []) ∙ ap (λ (t : List ℕ). joined x.pieces ++ t) (append-nil more) in
    let front : items ≡ map item_bytes x.pieces =
    x.are ∙ ap (λ (t : List Item). map item_bytes x.pieces ++ t) last ∙ append-nil (map item_bytes x.pieces) in
    record {
      pieces = pieces;
      last = [];
      are = ap (λ (t : List Item). t ++ item_bytes more ∷ []) front
          ∙ sym (map-append item_bytes x.pieces (more ∷ [])) ∙ sym (append-nil (map item_bytes pieces));
      some = each_and_one x.pieces x.some;
      begins = (rest, e ∙ sym (append_assoc (joined x.pieces) more rest) ∙ ap (λ (t : List ℕ). t ++ rest) (sym join));
      behind = λ has. absurd (omega arith);
      follow = (last_items body, refl);
    }
  where
    each_and_one : (pieces : List (List ℕ)) → AllByRecursion (λ piece. 0 < length piece) pieces
        → AllByRecursion (λ piece. 0 < length piece) (pieces ++ more ∷ [])
    each_and_one [] each = (some, tt)
    each_and_one (piece ∷ pieces) each = (each.0, each_and_one pieces each.1)

    no_last : (last : List Item) → (0 < length last → ⊥) → last ≡ []
    no_last [] none = refl
    no_last (i ∷ is) none = absurd (none (omega arith))

-- behind all bytes the next of the last items
pub add_last : (text : List ℕ) (body : Body) (items : List Item) (item : Item) (rest : List Item) (x : AreItemsOf text body items)
    → joined x.pieces ≡ body_bytes text body → last_items body ≡ x.last ++ item ∷ rest → AreItemsOf text body (items ++ item ∷ [])
add_last text body items item rest x all e = record {
  pieces = x.pieces;
  last = x.last ++ item ∷ [];
  are = ap (λ (t : List Item). t ++ item ∷ []) x.are ∙ append_assoc (map item_bytes x.pieces) x.last (item ∷ []);
  some = x.some;
  begins = x.begins;
  behind = λ has. all;
  follow = (rest, e ∙ sym (append_assoc x.last (item ∷ []) rest));
}

-- nothing was handed out yet
pub no_items : (text : List ℕ) (body : Body) → AreItemsOf text body []
no_items text body = record {
  pieces = [];
  last = [];
  are = refl;
  some = tt;
  begins = (body_bytes text body, refl);
  behind = λ has. absurd (omega arith);
  follow = (last_items body, refl);
}
