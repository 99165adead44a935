-- What holds of each row of a hub, and why each change of a row keeps it.
use Rattle.std.proofs.Common.{◌≡◌, ℕ, ◌+◌, ◌≤◌, ◌⊎◌, Bool, true, false, List, [], ◌∷◌, ◌++◌, length, drop, Option, None, refl, sym, ap, ◌∙◌, subst, inl, inr, ◌==◌, if◌then◌else◌, arith, append_assoc}
use Rattle.std.specs.Prelude.{filter, nat_le, nat_lt, not, ◌&&◌, ◌||◌}
use Rattle.std.specs.List.{flat_map}
use Rattle.std.specs.Str.{is_utf8}
use Rattle.std.proofs.lemmas.Bool.{cases_Bool, leb-true}
use Rattle.std.proofs.lemmas.List.{length-append, append-nil}
use Rattle.std.proofs.lemmas.List.Elements.{filter-append}
use Rattle.model_h1.specs.Frame.{Frame}
use Rattle.model_h1.specs.Frame as frames
use Rattle.model_h1.specs.FrameText.{send_error, is_under_way}
use Rattle.model_h1.specs.Event.{Outcome}
use Rattle.model_h1.specs.Event as on
use Rattle.model_rooms.specs.Member.{Member, MAX_WAITING, MAX_PARTS, MAX_PART_BYTES, is_in, is_same_room, payload, byte_count, is_text, Effect, says, keeps, answers, leaves_with, nothing, invalid_close, size_close, policy_close, kept, said, going_on, effect_of, effect_in, leaving, put, heard, with_effect, with_end}
use Rattle.model_rooms.specs.Due.{Said, said_with, is_for, is_data, is_close}

-- frames may be sent one after another, from a state to a state: whether a message in fragments is under way
abbrev pub Runs : Bool → List Frame → Bool → Type 0
Runs a [] b = a ≡ b
Runs a (f ∷ fs) b = (send_error a (frames.frame f) ≡ None) × Runs (is_under_way a f) fs b

pub runs-append : (a b c : Bool) (xs ys : List Frame) → Runs a xs b → Runs b ys c → Runs a (xs ++ ys) c
runs-append a b c [] ys x y = subst (λ (v : Bool). Runs v ys c) (sym x) y
runs-append a b c (f ∷ fs) ys x y = (x.0, runs-append (is_under_way a f) b c fs ys x.1 y)

-- a message with all its frames, of which none is a Close, and all are data
pub record Whole (fs : List Frame) : Type 0 where
  pub runs : Runs false fs false
  pub datas : filter is_data fs ≡ fs
  pub closes : filter is_close fs ≡ []

-- the frames of a message up to one that isn't the last
pub record Begun (fs : List Frame) : Type 0 where
  pub runs : Runs false fs true
  pub datas : filter is_data fs ≡ fs
  pub closes : filter is_close fs ≡ []

abbrev pub Unfinished : List Frame → Type 0
Unfinished fs = (fs ≡ []) ⊎ Begun fs

pub record GoodRow (sent : List Frame) (sending : Bool) (due : List Frame) (m : Member) : Type 0 where
  pub due_is : filter is_data (sent ++ m.waiting) ≡ due
  pub runs : Runs sending m.waiting false
  pub parts : Unfinished m.parts
  pub room_left : m.has_left ≡ false → length m.waiting ≤ MAX_WAITING
  pub no_close : m.has_left ≡ false → filter is_close (sent ++ m.waiting) ≡ []
  pub most : length m.waiting ≤ MAX_WAITING + 1
  pub one_close : length (filter is_close (sent ++ m.waiting)) ≤ 1

-- ---- what a frame does

pub record Leaves (left : Bool) (f : Frame) : Type 0 where
  pub runs : (a : Bool) → Runs a (f ∷ []) a
  pub no_data : filter is_data (f ∷ []) ≡ []
  pub is_in : left ≡ false

-- a frame that goes back to its sender
pub record Answers (left : Bool) (f : Frame) : Type 0 where
  pub runs : (a : Bool) → Runs a (f ∷ []) a
  pub no_data : filter is_data (f ∷ []) ≡ []
  pub closes : filter is_close (f ∷ []) ≡ []
  pub is_in : left ≡ false

abbrev pub Fits : Bool → Effect → Type 0
Fits left (says fs) = Whole fs
Fits left (keeps fs) = Unfinished fs
Fits left (answers f) = Answers left f
Fits left (leaves_with f) = Leaves left f
Fits left nothing = Unit {0}

kept_fits : (fs : List Frame) → Begun fs → Fits false (kept fs)
kept_fits fs b =
    elim (nat_lt MAX_PARTS (length fs) || nat_lt MAX_PART_BYTES (byte_count fs))
    as (λ v. Fits false (if v then leaves_with size_close else keeps fs)) [
      | true ↦ record { runs = λ a. (refl, refl); no_data = refl; is_in = refl }
      | false ↦ inr b
    ]

said_fits : (fs : List Frame) → Whole fs → Fits false (said fs)
said_fits fs w =
    elim (is_text fs && not (is_utf8 (flat_map payload fs)))
    as (λ v. Fits false (if v then leaves_with invalid_close else says fs)) [
      | true ↦ record { runs = λ a. (refl, refl); no_data = refl; is_in = refl }
      | false ↦ w
    ]

-- a message that has begun goes on, or ends
begun_and : (fs : List Frame) (bytes : List ℕ) → Begun fs → Begun (fs ++ frames.continuation bytes ∷ [])
begun_and fs bytes b = record {
  runs = runs-append false true true fs (frames.continuation bytes ∷ []) b.runs (refl, refl);
  datas = filter-append is_data fs (frames.continuation bytes ∷ []) ∙ ap (λ (l : List Frame). l ++ frames.continuation bytes ∷ []) b.datas;
  closes = filter-append is_close fs (frames.continuation bytes ∷ []) ∙ ap (λ (l : List Frame). l ++ []) b.closes;
}

whole_and : (fs : List Frame) (bytes : List ℕ) → Begun fs → Whole (fs ++ frames.last bytes ∷ [])
whole_and fs bytes b = record {
  runs = runs-append false true false fs (frames.last bytes ∷ []) b.runs (refl, refl);
  datas = filter-append is_data fs (frames.last bytes ∷ []) ∙ ap (λ (l : List Frame). l ++ frames.last bytes ∷ []) b.datas;
  closes = filter-append is_close fs (frames.last bytes ∷ []) ∙ ap (λ (l : List Frame). l ++ []) b.closes;
}

-- frames that are some are no empty list
begun_of : (p : Frame) (ps : List Frame) → Unfinished (p ∷ ps) → Begun (p ∷ ps)
begun_of p ps (inl e) = cc
begun_of p ps (inr b) = b

continues : (parts : List Frame) (bytes : List ℕ) → Unfinished parts → Fits false (going_on parts (frames.continuation bytes))
continues [] bytes u = tt
continues (p ∷ ps) bytes u = kept_fits ((p ∷ ps) ++ frames.continuation bytes ∷ []) (begun_and (p ∷ ps) bytes (begun_of p ps u))

lasts : (parts : List Frame) (bytes : List ℕ) → Unfinished parts → Fits false (going_on parts (frames.last bytes))
lasts [] bytes u = tt
lasts (p ∷ ps) bytes u = said_fits ((p ∷ ps) ++ frames.last bytes ∷ []) (whole_and (p ∷ ps) bytes (begun_of p ps u))

effect_fits : (parts : List Frame) (f : Frame) → Unfinished parts → Fits false (effect_of parts f)
effect_fits parts (frames.text bytes) u = said_fits (frames.text bytes ∷ []) (record { runs = (refl, refl); datas = refl; closes = refl })
effect_fits parts (frames.binary bytes) u = said_fits (frames.binary bytes ∷ []) (record { runs = (refl, refl); datas = refl; closes = refl })
effect_fits parts (frames.first_text bytes) u = kept_fits (frames.first_text bytes ∷ []) (record { runs = (refl, refl); datas = refl; closes = refl })
effect_fits parts (frames.first_binary bytes) u = kept_fits (frames.first_binary bytes ∷ []) (record { runs = (refl, refl); datas = refl; closes = refl })
effect_fits parts (frames.continuation bytes) u = continues parts bytes u
effect_fits parts (frames.last bytes) u = lasts parts bytes u
effect_fits parts (frames.ping bytes) u = record { runs = λ a. (refl, refl); no_data = refl; closes = refl; is_in = refl }
effect_fits parts (frames.pong bytes) u = tt
effect_fits parts (frames.close reason) u = record { runs = λ a. (refl, refl); no_data = refl; is_in = refl }

-- who is in has not left
pub in_not_left : (m : Member) → is_in m ≡ true → m.has_left ≡ false
in_not_left m e = elim (cases_Bool m.has_left) [
  | inl left ↦ absurd (let e2 : false ≡ true = rw left at e in cc)
  | inr stays ↦ stays
]

pub frame_fits : (m : Member) (f : Frame) → Unfinished m.parts → Fits m.has_left (effect_in m (on.frame f))
frame_fits m f u = elim (cases_Bool (is_in m)) [
  | inl inside ↦ rw inside (rw (in_not_left m inside) (effect_fits m.parts f u))
  | inr outside ↦ rw outside tt
]

-- ---- changes of a row

-- what a filter keeps where more frames wait
more_waits : (p : Frame → Bool) (sent waiting fs : List Frame)
    → filter p (sent ++ (waiting ++ fs)) ≡ filter p (sent ++ waiting) ++ filter p fs
more_waits p sent waiting fs =
    ap (filter p) (sym (append_assoc sent waiting fs)) ∙ filter-append p (sent ++ waiting) fs

-- and where these are none that it keeps
none_more : (p : Frame → Bool) (sent waiting fs : List Frame) → filter p fs ≡ []
    → filter p (sent ++ (waiting ++ fs)) ≡ filter p (sent ++ waiting)
none_more p sent waiting fs e =
    more_waits p sent waiting fs ∙ ap (λ (l : List Frame). filter p (sent ++ waiting) ++ l) e ∙ append-nil (filter p (sent ++ waiting))

at_most_one : (p : Frame → Bool) (f : Frame) → length (filter p (f ∷ [])) ≤ 1
at_most_one p f = elim (p f) as (λ b. length (if b then f ∷ [] else []) ≤ 1) [ true ↦ omega arith | false ↦ omega arith ]

one_more_close : (sent waiting : List Frame) (f : Frame) → filter is_close (sent ++ waiting) ≡ []
    → length (filter is_close (sent ++ (waiting ++ f ∷ []))) ≤ 1
one_more_close sent waiting f e =
    let same : filter is_close (sent ++ (waiting ++ f ∷ [])) ≡ filter is_close (f ∷ []) =
    more_waits is_close sent waiting (f ∷ []) ∙ ap (λ (l : List Frame). l ++ filter is_close (f ∷ [])) e in
    subst (λ (l : List Frame). length l ≤ 1) (sym same) (at_most_one is_close f)

pub leaving_good : (sent : List Frame) (sending : Bool) (due : List Frame) (m : Member) (f : Frame)
    → GoodRow sent sending due m → Leaves m.has_left f → GoodRow sent sending due (leaving f m)
leaving_good sent sending due m f g l = record {
  due_is = none_more is_data sent m.waiting (f ∷ []) l.no_data ∙ g.due_is;
  runs = runs-append sending false false m.waiting (f ∷ []) g.runs (l.runs false);
  parts = inl refl;
  room_left = λ (e : true ≡ false). absurd (cc);
  no_close = λ (e : true ≡ false). absurd (cc);
  most = omega (arith, length-append m.waiting (f ∷ []), g.room_left l.is_in);
  one_close = one_more_close sent m.waiting f (g.no_close l.is_in);
}

-- frames that may follow, of which none is a Close, wait too, where they fit
put_fits : (sent : List Frame) (sending : Bool) (due : List Frame) (m : Member) (fs : List Frame)
    → GoodRow sent sending due m → m.has_left ≡ false → Runs false fs false → filter is_close fs ≡ []
    → length m.waiting + length fs ≤ MAX_WAITING
    → GoodRow sent sending (due ++ filter is_data fs) (record m { waiting = m.waiting ++ fs })
put_fits sent sending due m fs g stays r c fits = record {
  due_is = more_waits is_data sent m.waiting fs ∙ ap (λ (l : List Frame). l ++ filter is_data fs) g.due_is;
  runs = runs-append sending false false m.waiting fs g.runs r;
  parts = g.parts;
  room_left = λ e. omega (arith, length-append m.waiting fs);
  no_close = λ e. none_more is_close sent m.waiting fs c ∙ g.no_close stays;
  most = omega (arith, length-append m.waiting fs);
  one_close = subst (λ (l : List Frame). length l ≤ 1) (sym (none_more is_close sent m.waiting fs c)) g.one_close;
}

policy_leaves : (left : Bool) → left ≡ false → Leaves left policy_close
policy_leaves left e = record { runs = λ a. (refl, refl); no_data = refl; is_in = e }

pub with_due : (sent : List Frame) (sending : Bool) (due due' : List Frame) (m : Member) → due ≡ due' → GoodRow sent sending due m
    → GoodRow sent sending due' m
with_due sent sending due due' m e g = subst (λ (d : List Frame). GoodRow sent sending d m) e g

-- a pong goes back
answer_good : (sent : List Frame) (sending : Bool) (due : List Frame) (m : Member) (f : Frame)
    → GoodRow sent sending due m → Answers m.has_left f → GoodRow sent sending due (put (f ∷ []) m)
answer_good sent sending due m f g a = elim (cases_Bool (nat_le (length m.waiting + length (f ∷ [])) MAX_WAITING)) [
  | inl fits ↦ rw fits
      (with_due sent sending (due ++ filter is_data (f ∷ [])) due (record m { waiting = m.waiting ++ f ∷ [] })
      (ap (λ (l : List Frame). due ++ l) a.no_data ∙ append-nil due)
      (put_fits sent sending due m (f ∷ []) g a.is_in (a.runs false) a.closes (leb-true (length m.waiting + length (f ∷ [])) MAX_WAITING fits)))
  | inr full ↦ rw full (leaving_good sent sending due m policy_close g (policy_leaves m.has_left a.is_in))
]

-- a member's own frame
pub effect_good : (sent : List Frame) (sending : Bool) (due : List Frame) (m : Member) (e : Effect)
    → GoodRow sent sending due m → Fits m.has_left e → GoodRow sent sending due (with_effect e m)
effect_good sent sending due m (says fs) g fits = record {
  due_is = g.due_is;
  runs = g.runs;
  parts = inl refl;
  room_left = g.room_left;
  no_close = g.no_close;
  most = g.most;
  one_close = g.one_close;
}
effect_good sent sending due m (keeps fs) g fits = record {
  due_is = g.due_is;
  runs = g.runs;
  parts = fits;
  room_left = g.room_left;
  no_close = g.no_close;
  most = g.most;
  one_close = g.one_close;
}
effect_good sent sending due m (answers f) g fits = answer_good sent sending due m f g fits
effect_good sent sending due m (leaves_with f) g fits = leaving_good sent sending due m f g fits
effect_good sent sending due m nothing g fits = g

-- joining a room changes nothing of these
pub room_good : (sent : List Frame) (sending : Bool) (due : List Frame) (m : Member) (room : Option (List ℕ))
    → GoodRow sent sending due m → GoodRow sent sending due (record m { room = room })
room_good sent sending due m room g = record {
  due_is = g.due_is;
  runs = g.runs;
  parts = g.parts;
  room_left = g.room_left;
  no_close = g.no_close;
  most = g.most;
  one_close = g.one_close;
}

-- nor does leaving where the connection closes
pub end_good : (sent : List Frame) (sending : Bool) (due : List Frame) (m : Member) (closes : Bool)
    → GoodRow sent sending due m → GoodRow sent sending due (with_end closes m)
end_good sent sending due m false g = g
end_good sent sending due m true g = record {
  due_is = g.due_is;
  runs = g.runs;
  parts = inl refl;
  room_left = λ (e : true ≡ false). absurd (cc);
  no_close = λ (e : true ≡ false). absurd (cc);
  most = g.most;
  one_close = g.one_close;
}

-- the first waiting frame is sent
moved_over : (sent waiting : List Frame) (f : Frame) (ws : List Frame) → waiting ≡ f ∷ ws → (sent ++ f ∷ []) ++ drop 1 waiting ≡ sent ++ waiting
moved_over sent waiting f ws e =
    subst (λ (w : List Frame). (sent ++ f ∷ []) ++ drop 1 w ≡ sent ++ w) (sym e) (append_assoc sent (f ∷ []) ws)

runs_rest : (sending : Bool) (waiting : List Frame) (f : Frame) (ws : List Frame) → waiting ≡ f ∷ ws → Runs sending waiting false
    → Runs (is_under_way sending f) (drop 1 waiting) false
runs_rest sending waiting f ws e r =
    let r' : Runs sending (f ∷ ws) false = subst (λ (w : List Frame). Runs sending w false) e r in
    subst (λ (w : List Frame). Runs (is_under_way sending f) (drop 1 w) false) (sym e) r'.1

shorter : (waiting : List Frame) → length (drop 1 waiting) ≤ length waiting
shorter [] = omega arith
shorter (w ∷ ws) = omega arith

pub send_good : (sent : List Frame) (sending : Bool) (due : List Frame) (m : Member) (f : Frame) (ws : List Frame)
    → m.waiting ≡ f ∷ ws → GoodRow sent sending due m
    → GoodRow (sent ++ f ∷ []) (is_under_way sending f) due (record m { waiting = drop 1 m.waiting })
send_good sent sending due m f ws e g =
    let same = moved_over sent m.waiting f ws e in
    record {
      due_is = ap (filter is_data) same ∙ g.due_is;
      runs = runs_rest sending m.waiting f ws e g.runs;
      parts = g.parts;
      room_left = λ stays. omega (arith, shorter m.waiting, g.room_left stays);
      no_close = λ stays. ap (filter is_close) same ∙ g.no_close stays;
      most = omega (arith, shorter m.waiting, g.most);
      one_close = subst (λ (l : List Frame). length (filter is_close l) ≤ 1) (sym same) g.one_close;
    }

-- ---- what others say

-- the frames that a step adds to what is due to another member
abbrev pub more_due : ℕ → ℕ → Option (List ℕ) → Effect → Member → Member → List Frame
more_due j i room e m m' =
    flat_map (λ (s : Said). s.frames) (if is_in m && is_in m' then filter (is_for j m.room) (said_with i room e) else [])

-- no message, nothing due
nothing_due : (b : Bool) → flat_map (λ (s : Said). s.frames) (if b then [] else []) ≡ []
nothing_due b = elim b as (λ v. flat_map (λ (s : Said). s.frames) (if v then [] else []) ≡ []) [ true ↦ refl | false ↦ refl ]

-- nothing is due of what a member says itself
pub own_due : (j i : ℕ) (room : Option (List ℕ)) (e : Effect) (m m' : Member) → (j == i) ≡ true → more_due j i room e m m' ≡ []
own_due j i room (says fs) m m' same = rw same (nothing_due (is_in m && is_in m'))
own_due j i room (keeps fs) m m' same = nothing_due (is_in m && is_in m')
own_due j i room (answers f) m m' same = nothing_due (is_in m && is_in m')
own_due j i room (leaves_with f) m m' same = nothing_due (is_in m && is_in m')
own_due j i room nothing m m' same = nothing_due (is_in m && is_in m')

-- a message in another room, or for one who isn't in
unheard_due : (j i : ℕ) (room : Option (List ℕ)) (fs : List Frame) (m : Member) → (is_in m && is_same_room room m.room) ≡ false
    → more_due j i room (says fs) m m ≡ []
unheard_due j i room fs m e = elim (cases_Bool (is_in m)) [
  | inl inside ↦
      let elsewhere : is_same_room room m.room ≡ false = rw inside at e in
      elim (cases_Bool (j == i)) [
        | inl same ↦ rw (inside, same) refl
        | inr other ↦ rw (inside, other, elsewhere) refl
      ]
  | inr outside ↦ rw outside refl
]

unchanged_good : (sent : List Frame) (sending : Bool) (due more : List Frame) (m : Member) → more ≡ [] → GoodRow sent sending due m
    → GoodRow sent sending (due ++ more) m
unchanged_good sent sending due more m e g =
    with_due sent sending due (due ++ more) m (sym (ap (λ (l : List Frame). due ++ l) e ∙ append-nil due)) g

-- a message that is heard, where it fits and where it doesn't
heard_due : (j i : ℕ) (room : Option (List ℕ)) (fs : List Frame) (m : Member) (w : List Frame) → (j == i) ≡ false → is_in m ≡ true
    → is_same_room room m.room ≡ true → more_due j i room (says fs) m (record m { waiting = w }) ≡ fs
heard_due j i room fs m w other inside here = rw (inside, other, here) (append-nil fs)

said_good : (j i : ℕ) (room : Option (List ℕ)) (sent : List Frame) (sending : Bool) (due fs : List Frame) (m : Member)
    → GoodRow sent sending due m → Whole fs → (j == i) ≡ false → is_in m ≡ true → is_same_room room m.room ≡ true
    → GoodRow sent sending (due ++ more_due j i room (says fs) m (put fs m)) (put fs m)
said_good j i room sent sending due fs m g w other inside here =
    let stays = in_not_left m inside in
    elim (cases_Bool (nat_le (length m.waiting + length fs) MAX_WAITING)) [
      | inl fits ↦ rw fits
          (with_due sent sending (due ++ filter is_data fs) (due ++ more_due j i room (says fs) m (record m { waiting = m.waiting ++ fs }))
          (record m { waiting = m.waiting ++ fs })
          (ap (λ (l : List Frame). due ++ l) (w.datas ∙ sym (heard_due j i room fs m (m.waiting ++ fs) other inside here)))
          (put_fits sent sending due m fs g stays w.runs w.closes (leb-true (length m.waiting + length fs) MAX_WAITING fits)))
      | inr full ↦ rw full
          (unchanged_good sent sending due (more_due j i room (says fs) m (leaving policy_close m)) (leaving policy_close m)
          (rw inside refl)
          (leaving_good sent sending due m policy_close g (policy_leaves m.has_left stays)))
    ]

pub heard_good : (j i : ℕ) (room : Option (List ℕ)) (sent : List Frame) (sending : Bool) (due : List Frame) (e : Effect) (left : Bool) (m : Member)
    → GoodRow sent sending due m → Fits left e → (j == i) ≡ false
    → GoodRow sent sending (due ++ more_due j i room e m (heard e room m)) (heard e room m)
heard_good j i room sent sending due (says fs) left m g fits other =
    elim (cases_Bool (is_in m && is_same_room room m.room)) [
      | inl hears ↦
          elim (cases_Bool (is_in m)) [
            | inl inside ↦
                let here : is_same_room room m.room ≡ true = rw inside at hears in
                rw hears (said_good j i room sent sending due fs m g fits other inside here)
            | inr outside ↦ absurd (let e : false ≡ true = rw outside at hears in cc)
          ]
      | inr not_heard ↦ rw not_heard (unchanged_good sent sending due (more_due j i room (says fs) m m) m (unheard_due j i room fs m not_heard) g)
    ]
heard_good j i room sent sending due (keeps fs) left m g fits other =
    unchanged_good sent sending due _ m (nothing_due (is_in m && is_in m)) g
heard_good j i room sent sending due (answers f) left m g fits other =
    unchanged_good sent sending due _ m (nothing_due (is_in m && is_in m)) g
heard_good j i room sent sending due (leaves_with f) left m g fits other =
    unchanged_good sent sending due _ m (nothing_due (is_in m && is_in m)) g
heard_good j i room sent sending due nothing left m g fits other =
    unchanged_good sent sending due _ m (nothing_due (is_in m && is_in m)) g
