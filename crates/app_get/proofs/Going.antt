-- An exchange that goes on twice goes on.
use Rattle.std.specs.Prelude.{◌≡◌, ℕ, ◌+◌, Bool, true, false, ◌||◌, List, [], ◌∷◌, ◌++◌, length, Option, Some, None, Result, Ok, Err, OnOk, IsTrue}
use Rattle.std.proofs.Common.{refl, sym, ap, subst, ◌∙◌, append_assoc, append-nil, length-append, arith}
use Rattle.std.specs.Io.KnownBytes.{Consumes, Appends, Keeps}
use Rattle.std.proofs.KnownBytes.{Consumes-nil, Appends-nil, Consumes-trans, Appends-trans, Keeps-refl, Keeps-trans}
use Rattle.http_header.specs.FieldValue.{FieldValue}
use Rattle.h1_client.specs.State.{Stands}
use Rattle.model_client.specs.ClientTrace.{Happened, taken, taken_by, written, given as gave}
use Rattle.model_client.specs.ClientEvent.{ClientEvent}
use Rattle.app_get.specs.Exchange.{Ends, Goes, Acts, handed, handed_by, given, given_by, noted, noted_by, led, led_by, has_event, ends_input, ends_body, drops_rest, Empties, is_unread, IsTaken}
use Rattle.app_get.specs.declared.answer.Wanted.{Wanted}
use Rattle.app_get.specs.declared.answer.Taken.{Taken}
use Rattle.app_get.specs.declared.answer.Taken.TheVariants as taking

-- ---- sums of what happened first and then

taken_then : (ys xs : List Happened) → taken (ys ++ xs) ≡ taken xs ++ taken ys
taken_then [] xs = sym (append-nil (taken xs))
taken_then (y ∷ ys) xs = ap (λ (l : List ℕ). l ++ taken_by y.event y.outcome) (taken_then ys xs) ∙ append_assoc (taken xs) (taken ys) (taken_by y.event y.outcome)

written_then : (ys xs : List Happened) → written (ys ++ xs) ≡ written xs ++ written ys
written_then [] xs = sym (append-nil (written xs))
written_then (y ∷ ys) xs = ap (λ (l : List ℕ). l ++ gave y.outcome) (written_then ys xs) ∙ append_assoc (written xs) (written ys) (gave y.outcome)

handed_then : (ys xs : List Happened) → handed (ys ++ xs) ≡ handed xs ++ handed ys
handed_then [] xs = sym (append-nil (handed xs))
handed_then (y ∷ ys) xs = ap (λ (l : List ℕ). l ++ handed_by y.event) (handed_then ys xs) ∙ append_assoc (handed xs) (handed ys) (handed_by y.event)

given_then : (ys xs : List Happened) → given (ys ++ xs) ≡ given xs ++ given ys
given_then [] xs = sym (append-nil (given xs))
given_then (y ∷ ys) xs = ap (λ (l : List ℕ). l ++ given_by y.outcome) (given_then ys xs) ∙ append_assoc (given xs) (given ys) (given_by y.outcome)

noted_then : (ys xs : List Happened) (status : Option ℕ) → noted (ys ++ xs) status ≡ noted ys (noted xs status)
noted_then [] xs status = refl
noted_then (y ∷ ys) xs status = ap (noted_by y.outcome) (noted_then ys xs status)

led_then : (ys xs : List Happened) (location : Option FieldValue) → led (ys ++ xs) location ≡ led ys (led xs location)
led_then [] xs location = refl
led_then (y ∷ ys) xs location = ap (led_by y.outcome) (led_then ys xs location)

-- ---- ends that are told first or then

or_none : (a : Bool) → a ≡ (a || false)
or_none true = refl
or_none false = refl

or_assoc : (a b c : Bool) → ((a || b) || c) ≡ (a || (b || c))
or_assoc true b c = refl
or_assoc false b c = refl

or_neither : (a b : Bool) → a ≡ false → b ≡ false → (a || b) ≡ false
or_neither true b first second = first
or_neither false b first second = second

or_either : {P : Type 0} (a b : Bool) → (a || b) ≡ true → (a ≡ true → P) → (b ≡ true → P) → P
or_either true b is first second = first refl
or_either false b is first second = second is

has_then : (is_such : ClientEvent → Bool) (ys xs : List Happened) → has_event is_such (ys ++ xs) ≡ (has_event is_such xs || has_event is_such ys)
has_then is_such [] xs = or_none (has_event is_such xs)
has_then is_such (y ∷ ys) xs =
    ap (λ (b : Bool). b || is_such y.event) (has_then is_such ys xs) ∙ or_assoc (has_event is_such xs) (has_event is_such ys) (is_such y.event)

none_both : (xs ys : List ℕ) → xs ≡ [] → ys ≡ [] → xs ++ ys ≡ []
none_both [] ys first second = second
none_both (x ∷ xs) ys first second = absurd (cc first)

none_behind : (xs ys : List ℕ) → [] ≡ xs ++ ys → ys ≡ []
none_behind [] ys is = sym is
none_behind (x ∷ xs) ys is = absurd (cc is)

-- what is empty stays so
emptied_then : (a b c : Option (List ℕ)) (bytes : List ℕ) → Empties a b → Consumes b c bytes → Empties a c
emptied_then None b c bytes empty then_ = tt
emptied_then (Some xs) None c bytes empty then_ = absurd (cc empty)
emptied_then (Some xs) (Some ys) None bytes empty then_ = absurd then_
emptied_then (Some xs) (Some ys) (Some zs) bytes empty then_ =
    let none : ys ≡ [] = cc empty in
    ap (λ (l : List ℕ). Some l) (none_behind bytes zs (sym none ∙ then_))

then_emptied : (a b c : Option (List ℕ)) (bytes : List ℕ) → Consumes a b bytes → Empties b c → Empties a c
then_emptied None b c bytes first empty = tt
then_emptied (Some xs) None c bytes first empty = absurd first
then_emptied (Some xs) (Some ys) c bytes first empty = empty

-- the end is told by one of two, the first or the second
ends_then : (is_such : ClientEvent → Bool) (ys xs : List Happened) (a b c : Option (List ℕ)) (first second : List ℕ) → Consumes a b first → Consumes b c second
    → (has_event is_such xs ≡ true → Empties a b) → (has_event is_such ys ≡ true → Empties b c) → has_event is_such (ys ++ xs) ≡ true → Empties a c
ends_then is_such ys xs a b c first second lost then_lost by_first by_second told =
    or_either (has_event is_such xs) (has_event is_such ys) (sym (has_then is_such ys xs) ∙ told)
    (λ is. emptied_then a b c second (by_first is) then_lost) (λ is. then_emptied a b c first lost (by_second is))

-- ---- going on

-- nothing has happened
pub goes_none : (a : Ends) → Goes a a
goes_none a = record {
  more = [];
  stands = λ before stands. stands;
  came = Consumes-nil a.came;
  sent = Appends-nil a.sent;
  file = Consumes-nil a.file;
  out = λ _. Appends-nil a.out;
  input_end = λ told. absurd (cc told);
  body_end = λ told. absurd (cc told);
  none_dropped = refl;
  heard = λ unheard. (unheard, refl);
  silent = λ none. (none, Keeps-refl a.out);
  unread = λ unread. (unread, refl);
  status = refl;
  location = refl;
  wanted = refl;
}

pub goes_equal : (was new : Ends) → new ≡ was → Goes was new
goes_equal was new same = subst (λ (l : Ends). Goes l new) same (goes_none new)

pub goes_as : (a b c : Ends) → c ≡ b → Goes a b → Goes a c
goes_as a b c same goes = subst (λ (l : Ends). Goes a l) (sym same) goes

pub goes_then : (a b c : Ends) → Goes a b → Goes b c → Goes a c
goes_then a b c first second = record {
  more = second.more ++ first.more;
  stands = λ before stands.
      subst (Stands c.state) (sym (append_assoc second.more first.more before)) (second.stands (first.more ++ before) (first.stands before stands));
  came = subst (Consumes a.came c.came) (sym (taken_then second.more first.more)) (Consumes-trans a.came b.came c.came _ _ first.came second.came);
  sent = subst (Appends a.sent c.sent) (sym (written_then second.more first.more)) (Appends-trans a.sent b.sent c.sent _ _ first.sent second.sent);
  file = subst (Consumes a.file c.file) (sym (handed_then second.more first.more)) (Consumes-trans a.file b.file c.file _ _ first.file second.file);
  out = λ hides.
      subst (Appends a.out c.out) (sym (given_then second.more first.more))
      (Appends-trans a.out b.out c.out _ _ (first.out hides) (second.out (ap (λ (w : Wanted). w.head) first.wanted ∙ hides)));
  input_end = ends_then ends_input second.more first.more a.came b.came c.came _ _ first.came second.came first.input_end second.input_end;
  body_end = ends_then ends_body second.more first.more a.file b.file c.file _ _ first.file second.file first.body_end second.body_end;
  none_dropped =
      has_then drops_rest second.more first.more
      ∙ or_neither (has_event drops_rest first.more) (has_event drops_rest second.more) first.none_dropped second.none_dropped;
  heard = λ unheard.
      let then_ : (b.begun ≡ false) × (taken second.more ≡ []) = second.heard unheard in
      let before : (a.begun ≡ false) × (taken first.more ≡ []) = first.heard then_.0 in
      (before.0, taken_then second.more first.more ∙ none_both (taken first.more) (taken second.more) before.1 then_.1);
  silent = λ none.
      let then_ : (b.status ≡ None) × Keeps b.out c.out = second.silent none in
      let before : (a.status ≡ None) × Keeps a.out b.out = first.silent then_.0 in
      (before.0, Keeps-trans a.out b.out c.out before.1 then_.1);
  unread = λ unread.
      let then_ : (is_unread b ≡ true) × (given second.more ≡ []) = second.unread unread in
      let before : (is_unread a ≡ true) × (given first.more ≡ []) = first.unread then_.0 in
      (before.0, given_then second.more first.more ∙ none_both (given first.more) (given second.more) before.1 then_.1);
  status = second.status ∙ ap (noted second.more) first.status ∙ sym (noted_then second.more first.more a.status);
  location = second.location ∙ ap (led second.more) first.location ∙ sym (led_then second.more first.more a.location);
  wanted = second.wanted ∙ first.wanted;
}

-- the same, where the second may fail
pub ok_then : {T E : Type 0} (r : Result T E) (a b c : Ends) → Goes a b → OnOk r (Goes b c) → OnOk r (Goes a c)
ok_then (Ok x) a b c first second = goes_then a b c first second
ok_then (Err e) a b c first second = tt

-- ---- going on by an event

-- as many events as both ways have
pub more_then : (a b c : Ends) (first : Goes a b) (second : Goes b c) → length (goes_then a b c first second).more ≡ length second.more + length first.more
unfolding goes_then
more_then a b c first second = length-append second.more first.more

pub acts_then : (a b c : Ends) → Acts a b → Goes b c → Acts a c
acts_then a b c first second = record {
  goes = goes_then a b c first.goes second;
  some = omega (arith, first.some, more_then a b c first.goes second);
}

pub then_acts : (a b c : Ends) → Goes a b → Acts b c → Acts a c
then_acts a b c first second = record {
  goes = goes_then a b c first second.goes;
  some = omega (arith, second.some, more_then a b c first second.goes);
}

pub ok_acts_then : {T E : Type 0} (r : Result T E) (a b c : Ends) → Acts a b → OnOk r (Goes b c) → OnOk r (Acts a c)
ok_acts_then (Ok x) a b c first second = acts_then a b c first second
ok_acts_then (Err e) a b c first second = tt

pub ok_acts_goes : {T E : Type 0} (r : Result T E) (a b : Ends) → OnOk r (Acts a b) → OnOk r (Goes a b)
ok_acts_goes (Ok x) a b acts = acts.goes
ok_acts_goes (Err e) a b acts = tt

-- also where that was allowed
pub ok_acts_allowed : {T E : Type 0} (r : Result T E) (a b : Ends) (P : Type 0) → OnOk r (Acts a b) → OnOk r (P → Acts a b)
ok_acts_allowed (Ok x) a b P acts = λ _. acts
ok_acts_allowed (Err e) a b P acts = tt

-- or where it wasn't
pub not_allowed : (allows : Bool) (P : Type 0) → allows ≡ false → IsTrue allows → P
not_allowed true P is may = absurd (cc is)
not_allowed false P is may = absurd (cc may)

-- what was taken has gone on
pub taken_goes : (t : Taken) (a b : Ends) → IsTaken t a b → Goes a b
taken_goes (taking.Whole status) a b is = is.0
taken_goes taking.Part a b is = is.goes
taken_goes taking.Nothing a b is = is.0.goes
