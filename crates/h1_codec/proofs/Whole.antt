-- What is sent in two steps is sent in one.
use Rattle.std.proofs.Common.{◌≡◌, ◌≤◌, ℕ, ◌+◌, Bool, true, false, List, [], ◌∷◌, ◌++◌, ◌==◌, length, refl, sym, ap, ◌∙◌, subst, inl, inr, append_assoc, append-nil, length-append, arith}
use Rattle.std.proofs.Math.Dec.{eqb-suc-zero}
use Rattle.std.specs.Prelude.{Option, Some, None}
use Rattle.http_bodies.specs.Giving.{Given, chunk, fault}
use Rattle.http_bodies.specs.Told.{Tells, led_by}
use Rattle.http_bodies.proofs.Histories.{grown, grown-none, led_by-more, led_by-none}
use Rattle.http_framing.specs.declared.body.size.BodySize.{BodySize}
use Rattle.http_transport.proofs.SendOn.{wrote-refl, wrote-trans}
use Rattle.h1_codec.specs.declared.framed_message.Message.{Message}
use Rattle.h1_codec.specs.declared.framed_message.Message.TheVariants.{Chunk}
use Rattle.h1_codec.specs.View.{View}
use Rattle.h1_codec.specs.Sends.{AreWritten, heads, pieces, ends, given_count, EndsSo, Later, FoundRoom, HasRoom, Sends}
use Rattle.h1_codec.specs.Turns.{moved}

-- items that are written one after another
pub written-append : {U I : Type 0} (writes : U → I → List ℕ → U → Type 0) (xs ys : List I) (a b c : U) (s t : List ℕ)
    → AreWritten writes a xs s b → AreWritten writes b ys t c → AreWritten writes a (xs ++ ys) (s ++ t) c
written-append writes [] ys a b c s t (none, same) then =
    subst (λ l. AreWritten writes a ys l c) (ap (λ l. l ++ t) (sym none)) (subst (λ x. AreWritten writes x ys t c) same then)
written-append writes (x ∷ xs) ys a b c s t (first, rest, mid, is, wrote, more) then = (
  first,
  rest ++ t,
  mid,
  ap (λ l. l ++ t) is ∙ append_assoc first rest t,
  wrote,
  written-append writes xs ys mid b c rest t more then,
)

pub pieces-append : {A : Type 0} (g h : List Given) → pieces {A = A} (g ++ h) ≡ pieces g ++ pieces h
pieces-append [] h = refl
pieces-append (chunk [] ∷ g) h = pieces-append g h
pieces-append (chunk (b ∷ bytes) ∷ g) h = ap (λ l. Chunk (Some (b ∷ bytes)) ∷ l) (pieces-append g h)
pieces-append (fault n ∷ g) h = pieces-append g h

-- chunks and ends of two steps
ends_join : {A : Type 0} (x y z : Bool) (g h : List Given) (mid new : Option (List Given)) → EndsSo x y g mid → EndsSo y z h new
    → (pieces {A = A} g ++ ends x y) ++ (pieces h ++ ends y z) ≡ pieces (g ++ h) ++ ends x z
ends_join false false false g h mid new a b =
    ap (λ l. l ++ (pieces h ++ [])) (append-nil (pieces g)) ∙ sym (append_assoc (pieces g) (pieces h) []) ∙ ap (λ l. l ++ []) (sym (pieces-append g h))
ends_join false false true g h mid new a b =
    ap (λ l. l ++ (pieces h ++ (Chunk None ∷ []))) (append-nil (pieces g)) ∙ sym (append_assoc (pieces g) (pieces h) (Chunk None ∷ []))
    ∙ ap (λ l. l ++ (Chunk None ∷ [])) (sym (pieces-append g h))
ends_join false true true g h mid new a b =
    ap (λ l. (pieces g ++ (Chunk None ∷ [])) ++ (pieces l ++ [])) b ∙ append-nil (pieces g ++ (Chunk None ∷ []))
    ∙ ap (λ l. pieces l ++ (Chunk None ∷ [])) (sym (append-nil g)) ∙ ap (λ l. pieces (g ++ l) ++ (Chunk None ∷ [])) (sym b)
ends_join false true false g h mid new a b = absurd b
ends_join true true true g h mid new a b =
    ap (λ l. (pieces l ++ []) ++ (pieces h ++ [])) a ∙ ap (λ l. pieces (l ++ h) ++ []) (sym a)
ends_join true true false g h mid new a b = absurd b
ends_join true false z g h mid new a b = absurd a

-- how much moved in two steps
ends_sum : (x y z : Bool) (g h : List Given) (mid new : Option (List Given)) → EndsSo x y g mid → EndsSo y z h new
    → length (ends {A = Unit} x z) ≡ length (ends {A = Unit} x y) + length (ends {A = Unit} y z)
ends_sum false false false g h mid new a b = refl
ends_sum false false true g h mid new a b = refl
ends_sum false true true g h mid new a b = refl
ends_sum false true false g h mid new a b = absurd b
ends_sum true true true g h mid new a b = refl
ends_sum true true false g h mid new a b = absurd b
ends_sum true false z g h mid new a b = absurd a

moved_sum : (x y z : Bool) (g h : List Given) (s t : List ℕ) (mid new : Option (List Given)) → EndsSo x y g mid → EndsSo y z h new
    → moved (g ++ h) (s ++ t) x z ≡ moved g s x y + moved h t y z
moved_sum x y z g h s t mid new a b = omega (arith, length-append g h, length-append s t, ends_sum x y z g h mid new a b)

-- and how many answers the body gave
count_sum : (x y z : Bool) (g h : List Given) (mid new : Option (List Given)) → EndsSo x y g mid → EndsSo y z h new
    → given_count (g ++ h) x z ≡ given_count g x y + given_count h y z
count_sum x y z g h mid new a b = omega (arith, length-append g h, ends_sum x y z g h mid new a b)

told_on : (g : List Given) (mid new : Option (List Given)) → g ≡ [] → mid ≡ led_by g new → Tells mid [] → Tells new []
told_on g mid None none leads tells = tt
told_on g mid (Some known) none leads tells =
    let now : mid ≡ Some known = leads ∙ ap (λ l. led_by l (Some known)) none in
    subst (λ o. Tells o []) now tells

so_ends : (x y z : Bool) (g h : List Given) (mid new : Option (List Given)) → EndsSo x y g mid → EndsSo y z h new → mid ≡ led_by h new
    → EndsSo x z (g ++ h) new
so_ends false false false g h mid new a b leads = tt
so_ends false false true g h mid new a b leads = b
so_ends false true true g h mid new a b leads = told_on h mid new b leads a
so_ends false true false g h mid new a b leads = absurd b
so_ends true true true g h mid new a b leads = ap (λ l. l ++ h) a ∙ b
so_ends true true false g h mid new a b leads = absurd b
so_ends true false z g h mid new a b leads = absurd a

pub no_bytes : (bytes : List ℕ) → true ≡ (length bytes == 0) → bytes ≡ []
no_bytes [] is = refl
no_bytes (b ∷ bytes) is = let never : true ≡ false = is ∙ eqb-suc-zero (length bytes) in cc never

pub some_bytes : (bytes : List ℕ) → false ≡ (length bytes == 0) → ¬ (bytes ≡ [])
some_bytes [] is = let never : false ≡ true = is in cc never
some_bytes (b ∷ bytes) is = λ none. cc none

-- no end was written meanwhile
pub stays_ended : (x : Bool) (coming : Option (List Given)) → EndsSo x x [] coming
stays_ended true coming = refl
stays_ended false coming = tt

pub no_end : {A : Type 0} (x : Bool) → ends {A = A} x x ≡ []
no_end true = refl
no_end false = refl

-- nor is one counted
pub still_none : (x y : Bool) → y ≡ x → length (ends {A = Unit} x y) ≡ 0
still_none false false is = refl
still_none true y is = refl
still_none false true is = cc is

-- one item is written
pub one_written : {U I : Type 0} (writes : U → I → List ℕ → U → Type 0) (a b : U) (item : I) (text : List ℕ) → writes a item text b
    → AreWritten writes a (item ∷ []) text b
one_written writes a b item text wrote = (text, [], b, sym (append-nil text), wrote, (refl, refl))

buffered_on : (before s t x y mid after : List ℕ) → before ++ s ≡ x ++ mid → mid ++ t ≡ y ++ after → before ++ (s ++ t) ≡ (x ++ y) ++ after
buffered_on before s t x y mid after first then =
    sym (append_assoc before s t) ∙ ap (λ l. l ++ t) first ∙ append_assoc x mid t ∙ ap (λ l. x ++ l) then ∙ sym (append_assoc x y after)

-- ---- room in the buffer

module _ {U I : Type 0} (writes : U → I → List ℕ → U → Type 0) (a b c : U) (head first body all : List I) (s t middle gave unsent : List ℕ)
    (wrote : AreWritten writes a (head ++ first) s b) (are : first ++ body ≡ all) where
  items : (head ++ first) ++ body ≡ head ++ all
  items = append_assoc head first body ∙ ap (λ l. head ++ l) are

  -- the last item of the second step
  found_then : FoundRoom writes b body t c unsent → FoundRoom writes a (head ++ all) (s ++ t) c unsent
  found_then x = record {
    front = (head ++ first) ++ x.front;
    last = x.last;
    are = sym items ∙ ap (λ l. (head ++ first) ++ l) x.are ∙ sym (append_assoc (head ++ first) x.front (x.last ∷ []));
    before = s ++ x.before;
    own = x.own;
    mid = x.mid;
    text_is = ap (λ l. s ++ l) x.text_is ∙ sym (append_assoc s x.before x.own);
    front_written = written-append writes (head ++ first) x.front a b x.mid s x.before wrote x.front_written;
    written = x.written;
    room = x.room;
  }

  -- that of the first step, where the second wrote nothing, and the transport took some
  found_before : body ≡ [] → t ≡ [] → c ≡ b → middle ++ t ≡ gave ++ unsent → FoundRoom writes a (head ++ first) s b middle
      → FoundRoom writes a (head ++ all) (s ++ t) c unsent
  found_before none no_text same taken x = record {
    front = x.front;
    last = x.last;
    are = sym items ∙ ap (λ l. (head ++ first) ++ l) none ∙ append-nil (head ++ first) ∙ x.are;
    before = x.before;
    own = x.own;
    mid = x.mid;
    text_is = ap (λ l. s ++ l) no_text ∙ append-nil s ∙ x.text_is;
    front_written = x.front_written;
    written = subst (λ (u : U). writes x.mid x.last x.own u) (sym same) x.written;
    room = omega (arith, x.room, ap length taken, length-append middle t, length-append gave unsent, ap length no_text);
  }

  pub room_join : AreWritten writes b body t c → middle ++ t ≡ gave ++ unsent → HasRoom writes a head first s b middle → HasRoom writes b [] body t c unsent
      → HasRoom writes a head all (s ++ t) c unsent
  room_join more taken x (inr y) = inr (found_then y)
  room_join more taken x (inl none) = by_first x (subst (λ (l : List I). AreWritten writes b l t c) none more)
    where
      by_first : HasRoom writes a head first s b middle → AreWritten writes b [] t c → HasRoom writes a head all (s ++ t) c unsent
      by_first (inl nothing) then = inl (sym are ∙ ap (λ l. l ++ body) nothing ∙ none)
      by_first (inr x) then = inr (found_before none then.0 then.1 taken x)

module _ {U H : Type 0} where
  pub later-refl : (v : View U H) → Later v v
  later-refl v = record {
    transport_faults = omega arith;
    write_waits = omega arith;
    flush_waits = omega arith;
    body_faults = omega arith;
    body_waits = omega arith;
    takes_memory = refl;
  }

  pub later-trans : (u v w : View U H) → Later u v → Later v w → Later u w
  later-trans u v w a b = record {
    transport_faults = omega (arith, a.transport_faults, b.transport_faults);
    write_waits = omega (arith, a.write_waits, b.write_waits);
    flush_waits = omega (arith, a.flush_waits, b.flush_waits);
    body_faults = omega (arith, a.body_faults, b.body_faults);
    body_waits = omega (arith, a.body_waits, b.body_waits);
    takes_memory = b.takes_memory ∙ a.takes_memory;
  }

module _ {U H : Type 0} (writes : U → Message (H × BodySize) → List ℕ → U → Type 0) where
  pub sends-trans : (u v w : View U H) → Sends writes u v → Sends writes v w → Sends writes u w
  sends-trans u v w a b =
      let more : AreWritten writes v.codec (pieces b.given ++ ends v.is_ended w.is_ended) b.text w.codec =
      subst (λ (h : Option (H × BodySize)). AreWritten writes v.codec (heads h ++ (pieces b.given ++ ends v.is_ended w.is_ended)) b.text w.codec) a.begun b.written in
      let all = written-append writes (heads u.head ++ (pieces a.given ++ ends u.is_ended v.is_ended)) (pieces b.given ++ ends v.is_ended w.is_ended) u.codec v.codec w.codec a.text b.text a.written more in
      let items : (heads u.head ++ (pieces a.given ++ ends u.is_ended v.is_ended)) ++ (pieces b.given ++ ends v.is_ended w.is_ended)
      ≡ heads u.head ++ (pieces (a.given ++ b.given) ++ ends u.is_ended w.is_ended) =
      append_assoc (heads u.head) (pieces a.given ++ ends u.is_ended v.is_ended) (pieces b.given ++ ends v.is_ended w.is_ended)
      ∙ ap (λ l. heads u.head ++ l) (ends_join u.is_ended v.is_ended w.is_ended a.given b.given v.body.coming w.body.coming a.ended b.ended) in
      record {
        given = a.given ++ b.given;
        text = a.text ++ b.text;
        gave = a.gave ++ b.gave;
        written = subst (λ l. AreWritten writes u.codec l (a.text ++ b.text) w.codec) items all;
        buffered = buffered_on u.unsent a.text b.text a.gave b.gave v.unsent w.unsent a.buffered b.buffered;
        room = room_join writes u.codec v.codec w.codec (heads u.head) (pieces a.given ++ ends u.is_ended v.is_ended) (pieces b.given ++ ends v.is_ended w.is_ended)
            (pieces (a.given ++ b.given) ++ ends u.is_ended w.is_ended) a.text b.text v.unsent b.gave w.unsent a.written
            (ends_join u.is_ended v.is_ended w.is_ended a.given b.given v.body.coming w.body.coming a.ended b.ended) more b.buffered a.room
            (subst (λ (h : Option (H × BodySize)). HasRoom writes v.codec (heads h) (pieces b.given ++ ends v.is_ended w.is_ended) b.text w.codec w.unsent) a.begun b.room);
        sent = grown a.gave b.gave u.transport.sent v.transport.sent w.transport.sent a.sent b.sent;
        coming = a.coming ∙ ap (led_by a.given) b.coming ∙ led_by-more a.given b.given w.body.coming;
        begun = b.begun;
        ended = so_ends u.is_ended v.is_ended w.is_ended a.given b.given v.body.coming w.body.coming a.ended b.ended b.coming;
        unread = b.unread ∙ a.unread;
        others = wrote-trans u.transport v.transport w.transport a.others b.others;
        later = later-trans u v w a.later b.later;
      }

  -- and as much moved as in both
  pub sends_on : (u v w : View U H) (a : Sends writes u v) (b : Sends writes v w)
      → (sends : Sends writes u w)
      × (moved sends.given sends.gave u.is_ended w.is_ended ≡ moved a.given a.gave u.is_ended v.is_ended + moved b.given b.gave v.is_ended w.is_ended)
      × (length sends.gave ≡ length a.gave + length b.gave)
      × (given_count sends.given u.is_ended w.is_ended ≡ given_count a.given u.is_ended v.is_ended + given_count b.given v.is_ended w.is_ended)
  unfolding sends-trans
  sends_on u v w a b = (
    sends-trans u v w a b,
    moved_sum u.is_ended v.is_ended w.is_ended a.given b.given a.gave b.gave v.body.coming w.body.coming a.ended b.ended,
    length-append a.gave b.gave,
    count_sum u.is_ended v.is_ended w.is_ended a.given b.given v.body.coming w.body.coming a.ended b.ended,
  )

  -- and a fault of the body that came last is still the last
  pub fault-trans : (n : ℕ) (u v w : View U H) (a : Sends writes u v) (b : Sends writes v w) (front : List Given) → b.given ≡ front ++ (fault n ∷ [])
      → (sends : Sends writes u w) × (before : List Given) × (sends.given ≡ before ++ (fault n ∷ []))
      × (given_count sends.given u.is_ended w.is_ended ≡ given_count a.given u.is_ended v.is_ended + given_count b.given v.is_ended w.is_ended)
  unfolding sends-trans
  fault-trans n u v w a b front is = (
    sends-trans u v w a b,
    a.given ++ front,
    ap (λ l. a.given ++ l) is ∙ sym (append_assoc a.given front (fault n ∷ [])),
    count_sum u.is_ended v.is_ended w.is_ended a.given b.given v.body.coming w.body.coming a.ended b.ended,
  )

  pub sends-refl : (v : View U H) → v.head ≡ None → Sends writes v v
  sends-refl v begun = record {
    given = [];
    text = [];
    gave = [];
    written = subst (λ (l : List (Message (H × BodySize))). AreWritten writes v.codec l [] v.codec)
        (sym (ap (λ (h : Option (H × BodySize)). heads h ++ ends v.is_ended v.is_ended) begun ∙ no_end v.is_ended)) (refl, refl);
    buffered = append-nil v.unsent;
    room = inl (no_end v.is_ended);
    sent = grown-none v.transport.sent;
    coming = sym (led_by-none v.body.coming);
    begun = begun;
    ended = stays_ended v.is_ended v.body.coming;
    unread = refl;
    others = wrote-refl v.transport;
    later = later-refl v;
  }

  -- by no answer of the body
  pub none_few : (v : View U H) → v.head ≡ None → (sends : Sends writes v v) × (given_count sends.given v.is_ended v.is_ended ≤ 0)
  unfolding sends-refl
  none_few v begun = (sends-refl v begun, omega (arith, still_none v.is_ended v.is_ended refl))
