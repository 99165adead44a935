-- What an event leaves of a connection that is served.
use Rattle.std.proofs.Common.{arith, append-nil, length-append, take_all, ◌≤◌, ◌≡◌, ℕ, List, [], ◌∷◌, ◌++◌, length, take, Option, Some, None, refl, sym, ap, ◌∙◌, subst}
use Rattle.std.specs.Prelude.{Bool, true, false, not, IfSome, ⊤}
use Rattle.std.specs.Io.KnownBytes.{Consumes, Appends, Keeps, IsAtEnd}
use mathlib.Core.List.{append_assoc}
use Rattle.std.proofs.lemmas.List.{nil_from_length, take-append-le}
use Rattle.model_h1.specs.Event.{Event, Outcome}
use Rattle.model_h1.specs.Event as on
use Rattle.model_h1.specs.Request.{BodyKind, Head, Fault, has_body}
use Rattle.model_h1.specs.End as ends
use Rattle.model_h1.specs.Sums.{Step, step_taken, step_written, taken, written, has_ended}
use Rattle.http_framing.specs.Kinds.{kind_of}
use Rattle.h1_connection.specs.State.{State, Stands, GoesOn, Is, ReadsIn}
use Rattle.h1_connection.specs.Ticks.{expiry_of}
use Rattle.h1_connection.specs.declared.connection.ticks.Expiry.{Expiry}
use Rattle.h1_connection.specs.declared.connection.ticks.Expiry.TheVariants as expiry
use Rattle.h1_payload.specs.Rests.{SaysPulled, fault_of as broken_of}
use Rattle.h1_payload.specs.declared.pulled.Pulled.{Pulled}
use Rattle.h1_payload.specs.declared.pulled.Pulled.TheVariants as pulled
use Rattle.h1_connection.specs.Heads.{SaysNext, with_head}
use Rattle.h1_connection.specs.EventMeaning.{end_of, fault_of}
use Rattle.h1_connection.specs.declared.event.End.{End}
use Rattle.h1_connection.specs.declared.error.ReadFromError.{ReadFromError}
use Rattle.h1_connection.specs.declared.error.ReadFromError.TheVariants as read_error
use Rattle.h1_connection.specs.declared.connection.heads.NextKind.{NextKind}
use Rattle.h1_connection.specs.declared.connection.heads.NextKind.TheVariants as next_kind
use Rattle.h1_decoder.specs.declared.decoder.HeadItem.{HeadItem}
use Rattle.serve_blocking.specs.Served.{Line, Base, IsServed, IsServedBehind, Follows, Adds, HandsOut, HandsOutOne, head_in, heads, given_by, given_after, is_given}
use Rattle.serve_blocking.specs.Acts.{acts, is_act, Does, Waits, Pulls, IsPulled, given_behind}
use Rattle.serve_blocking.proofs.Followed.{adds_follow}
use Rattle.serve_blocking.proofs.Waited.{acts_none, acts_one, adds_does, adds_none, does_wait, seen_doing, seen_waits}

-- ---- sums of a longer trace

taken_behind : (e : Event) (o : Outcome) (t : List Step) → taken (record { event = e; outcome = o } ∷ t) ≡ taken t ++ step_taken e o
unfolding taken
taken_behind e o t = refl

written_behind : (e : Event) (o : Outcome) (t : List Step) → written (record { event = e; outcome = o } ∷ t) ≡ written t ++ step_written o
unfolding written
written_behind e o t = refl

heads_behind : (e : Event) (o : Outcome) (t : List Step) → heads (record { event = e; outcome = o } ∷ t) ≡ heads t ++ head_in o
unfolding heads
heads_behind e o t = refl

given_more : (e : Event) (o : Outcome) (t : List Step) → is_given (record { event = e; outcome = o } ∷ t) ≡ given_by o (is_given t)
unfolding is_given
given_more e o t = refl

-- ---- bytes that are known

consumes_more : (a b c : Option (List ℕ)) (xs ys : List ℕ) → Consumes a b xs → Consumes b c ys → Consumes a c (xs ++ ys)
consumes_more None b c xs ys first then_ = tt
consumes_more (Some ps) None c xs ys first then_ = absurd first
consumes_more (Some ps) (Some qs) None xs ys first then_ = absurd then_
consumes_more (Some ps) (Some qs) (Some rs) xs ys first then_ = first ∙ ap (λ (l : List ℕ). xs ++ l) then_ ∙ sym (append_assoc xs ys rs)

appends_more : (a b c : Option (List ℕ)) (xs ys : List ℕ) → Appends a b xs → Appends b c ys → Appends a c (xs ++ ys)
appends_more None b c xs ys first then_ = tt
appends_more (Some ps) None c xs ys first then_ = absurd first
appends_more (Some ps) (Some qs) None xs ys first then_ = absurd then_
appends_more (Some ps) (Some qs) (Some rs) xs ys first then_ = then_ ∙ ap (λ (l : List ℕ). l ++ ys) first ∙ append_assoc ps xs ys

consumes_none : (a b : Option (List ℕ)) → Keeps a b → Consumes a b []
consumes_none None b keeps = tt
consumes_none (Some ps) None keeps = absurd keeps
consumes_none (Some ps) (Some qs) keeps = sym keeps

appends_none : (a b : Option (List ℕ)) → Keeps a b → Appends a b []
appends_none None b keeps = tt
appends_none (Some ps) None keeps = absurd keeps
appends_none (Some ps) (Some qs) keeps = keeps ∙ sym (append-nil ps)

pub keeps_equal : (a b : Option (List ℕ)) → b ≡ a → Keeps a b
keeps_equal None b same = tt
keeps_equal (Some ps) None same = absurd (cc same)
keeps_equal (Some ps) (Some qs) same = sym (cc same)

pub same_left : (a : Option (List ℕ)) → Consumes a a []
same_left None = tt
same_left (Some ps) = refl

pub same_given : (a : Option (List ℕ)) → Appends a a []
same_given None = tt
same_given (Some ps) = sym (append-nil ps)

-- ---- the input's end

-- the input's end comes only where the source is at its end
abbrev pub EndsAt : Event → Option (List ℕ) → Type 0
EndsAt on.eof left = IsAtEnd left
EndsAt _ left = ⊤

-- where nothing is left, all has come
all_came : (from left : Option (List ℕ)) (came : List ℕ) → Consumes from left came → IsAtEnd left → IfSome from (λ (all : List ℕ). all ≡ came)
all_came None left came consumes end = tt
all_came (Some all) None came consumes end = absurd consumes
all_came (Some all) (Some rest) came consumes end = consumes ∙ ap (λ (l : List ℕ). came ++ l) end ∙ append-nil came

none_more : (all came left more rest : List ℕ) → all ≡ came → all ≡ came ++ left → left ≡ more ++ rest → all ≡ came ++ more
none_more all came left more rest is consumes then_ =
    let none : more ≡ [] =
    nil_from_length more (omega (arith, ap length is, ap length consumes, ap length then_, length-append came left, length-append more rest)) in
    is ∙ sym (append-nil came) ∙ ap (λ (l : List ℕ). came ++ l) (sym none)

-- and then nothing more comes
all_stays : (from left new : Option (List ℕ)) (came more : List ℕ) → Consumes from left came → Consumes left new more
    → IfSome from (λ (all : List ℕ). all ≡ came) → IfSome from (λ (all : List ℕ). all ≡ came ++ more)
all_stays None left new came more consumes then_ is = tt
all_stays (Some all) None new came more consumes then_ is = absurd consumes
all_stays (Some all) (Some xs) None came more consumes then_ is = absurd then_
all_stays (Some all) (Some xs) (Some ys) came more consumes then_ is = none_more all came xs more ys is consumes then_

-- behind an event: the input had ended before, or it does now
told_end : (e : Event) (o : Outcome) (t : List Step) (from left : Option (List ℕ)) → EndsAt e left → Consumes from left (taken t)
    → (has_ended t ≡ true → IfSome from (λ (all : List ℕ). all ≡ taken t))
    → has_ended (record { event = e; outcome = o } ∷ t) ≡ true → IfSome from (λ (all : List ℕ). all ≡ taken t)
told_end on.eof o t from left ends came before is = all_came from left (taken t) came ends
told_end _ o t from left ends came before is = before is

end_behind : (e : Event) (o : Outcome) (t : List Step) (from left new : Option (List ℕ)) (came : List ℕ) → EndsAt e left → step_taken e o ≡ came
    → Consumes from left (taken t) → Consumes left new came → (has_ended t ≡ true → IfSome from (λ (all : List ℕ). all ≡ taken t))
    → has_ended (record { event = e; outcome = o } ∷ t) ≡ true → IfSome from (λ (all : List ℕ). all ≡ taken (record { event = e; outcome = o } ∷ t))
end_behind e o t from left new came ends takes consumes lost before is =
    subst (λ (l : List ℕ). IfSome from (λ (all : List ℕ). all ≡ l)) (ap (λ (l : List ℕ). taken t ++ l) (sym takes) ∙ sym (taken_behind e o t))
    (all_stays from left new (taken t) came consumes lost (told_end e o t from left ends consumes before is))

-- ---- an event

-- the outcome takes these bytes, writes those and hands out these heads
pub record Moves (e : Event) (o : Outcome) (came went : List ℕ) (hs : List Head) : Type 0 where
  pub takes : step_taken e o ≡ came
  pub writes : step_written o ≡ went
  pub hands : head_in o ≡ hs

-- one step more of what is served
pub step_behind : (base : Base) (old new : Line) (e : Event) (o : Outcome) (came went : List ℕ) (hs next : List Head) (served : IsServed base old)
    → Stands new.state (record { event = e; outcome = o } ∷ served.trace) → Moves e o came went hs → base.handed ++ hs ≡ next
    → Consumes old.left new.left came → Appends old.given new.given went → new.judges ≡ old.judges → new.ended ≡ given_by o old.ended → EndsAt e old.left
    → (behind : IsServedBehind (record base { handed = next }) served.trace new) × (behind.more ≡ record { event = e; outcome = o } ∷ [])
step_behind base old new e o came went hs next served stands m is lost got judges ended ends = (
  record {
    more = record { event = e; outcome = o } ∷ [];
    served = record {
      trace = record { event = e; outcome = o } ∷ served.trace;
      stands = stands;
      came = subst (λ (l : List ℕ). Consumes base.left new.left l) (ap (λ (l : List ℕ). taken served.trace ++ l) (sym m.takes) ∙ sym (taken_behind e o served.trace))
          (consumes_more _ _ _ _ _ served.came lost);
      went = subst (λ (l : List ℕ). Appends base.given new.given l) (ap (λ (l : List ℕ). written served.trace ++ l) (sym m.writes) ∙ sym (written_behind e o served.trace))
          (appends_more _ _ _ _ _ served.went got);
      handed = heads_behind e o served.trace ∙ ap (λ (l : List Head). l ++ head_in o) served.handed ∙ ap (λ (l : List Head). base.handed ++ l) m.hands ∙ is;
      judges = judges ∙ served.judges;
      ended = ended ∙ ap (given_by o) served.ended ∙ sym (given_more e o served.trace);
      at_end = end_behind e o served.trace base.left old.left new.left came ends m.takes served.came lost served.at_end;
    };
    longer = refl;
  },
  refl,
)

keeps_left : (old new : Line) → new.left ≡ old.left → Consumes old.left new.left []
keeps_left old new left = subst (λ (l : Option (List ℕ)). Consumes old.left l []) (sym left) (same_left old.left)

keeps_given : (old new : Line) → new.given ≡ old.given → Appends old.given new.given []
keeps_given old new given = subst (λ (l : Option (List ℕ)). Appends old.given l []) (sym given) (same_given old.given)

-- an event with this outcome, which hands out no request
pub adds_by : (old new : Line) (e : Event) (o : Outcome) (came went : List ℕ) → GoesOn old.state e (Is o) new.state → Moves e o came went []
    → Consumes old.left new.left came → Appends old.given new.given went → new.judges ≡ old.judges → new.closes ≡ old.closes → new.ended ≡ given_by o old.ended
    → EndsAt e old.left → Adds e o old new
adds_by old new e o came went goes moves lost got judges closes ended ends = record {
  goes = λ base served.
      let (out, says, is, stands, marked, counted) = goes served.trace served.stands in
      step_behind base old new e o came went [] base.handed served
      (subst (λ (x : Outcome). Stands new.state (record { event = e; outcome = x } ∷ served.trace)) says stands)
      moves (append-nil base.handed) lost got judges ended ends;
  closes = closes;
}

-- the same of one that neither takes nor writes bytes
pub quietly_adds : (old new : Line) (e : Event) (o : Outcome) → GoesOn old.state e (Is o) new.state → Moves e o [] [] []
    → new.left ≡ old.left → new.given ≡ old.given → new.judges ≡ old.judges → new.closes ≡ old.closes → new.ended ≡ given_by o old.ended → EndsAt e old.left → Adds e o old new
quietly_adds old new e o goes moves left given judges closes ended ends =
    adds_by old new e o [] [] goes moves (keeps_left old new left) (keeps_given old new given) judges closes ended ends

-- the same of one that isn't done for a request
pub quietly_waits : (was old new : Line) (e : Event) (o : Outcome) → old ≡ was → is_act e o ≡ false → GoesOn old.state e (Is o) new.state → Moves e o [] [] []
    → new.left ≡ old.left → new.given ≡ old.given → new.judges ≡ old.judges → new.closes ≡ old.closes → new.ended ≡ given_by o old.ended → new.wanted ≡ old.wanted
    → EndsAt e old.left → Waits was new
quietly_waits was old new e o seen fails goes moves left given judges closes ended wanted ends =
    seen_waits was old new seen (does_wait old new (adds_none e o old new fails (quietly_adds old new e o goes moves left given judges closes ended ends)) wanted)

-- no event
pub stays : (old new : Line) → new.state ≡ old.state → Consumes old.left new.left [] → Appends old.given new.given [] → new.judges ≡ old.judges → new.closes ≡ old.closes
    → new.ended ≡ old.ended → Does [] old new
stays old new state lost got judges closes ended = record {
  goes = λ base served. (
    record {
      more = [];
      served = record {
        trace = served.trace;
        stands = subst (λ (s : State). Stands s served.trace) (sym state) served.stands;
        came = subst (λ (l : List ℕ). Consumes base.left new.left l) (append-nil (taken served.trace)) (consumes_more _ _ _ _ _ served.came lost);
        went = subst (λ (l : List ℕ). Appends base.given new.given l) (append-nil (written served.trace)) (appends_more _ _ _ _ _ served.went got);
        handed = served.handed;
        judges = judges ∙ served.judges;
        ended = ended ∙ served.ended;
        at_end = served.at_end;
      };
      longer = refl;
    },
    acts_none,
  );
  closes = closes;
}

-- ---- what each event moves

pub done_moves : (e : Event) → step_taken e on.done ≡ [] → (o : Outcome) → Is on.done o → Moves e o [] [] []
done_moves e none o is = subst (λ (o : Outcome). Moves e o [] [] []) (sym is) (record { takes = none; writes = refl; hands = refl })

expiry_moves : (ms : ℕ) (x : Expiry) → Moves (on.tick ms) (expiry_of x) [] [] []
expiry_moves ms expiry.None = record { takes = refl; writes = refl; hands = refl }
expiry_moves ms (expiry.Expired end) = record { takes = refl; writes = refl; hands = refl }
expiry_moves ms expiry.Abandoned = record { takes = refl; writes = refl; hands = refl }

pub tick_moves : (ms : ℕ) (x : Expiry) (o : Outcome) → Is (expiry_of x) o → Moves (on.tick ms) o [] [] []
tick_moves ms x o is = subst (λ (o : Outcome). Moves (on.tick ms) o [] [] []) (sym is) (expiry_moves ms x)

pulled_moves : (o : Outcome) → step_taken on.pull o ≡ [] → step_written o ≡ [] → head_in o ≡ [] → Moves on.pull o [] [] []
pulled_moves o takes writes hands = record { takes = takes; writes = writes; hands = hands }

-- what time it is leaves what is left of a body
pub expiry_keeps : (x : Expiry) (ended : Bool) → ended ≡ given_by (expiry_of x) ended
expiry_keeps expiry.None ended = refl
expiry_keeps (expiry.Expired end) ended = refl
expiry_keeps expiry.Abandoned ended = refl

-- ---- bytes that move

read_moves : (bytes : List ℕ) (o : Outcome) → Is (on.took (length bytes)) o → Moves (on.read bytes) o bytes [] []
read_moves bytes o is = subst (λ (o : Outcome). Moves (on.read bytes) o bytes [] []) (sym is) (record { takes = take_all (length bytes) bytes (omega arith); writes = refl; hands = refl })

-- bytes came out of the source, and were read
pub read_in : (old new : Line) (bytes : List ℕ) → Consumes old.left new.left bytes → ReadsIn old.state bytes new.state → new.given ≡ old.given
    → new.judges ≡ old.judges → new.closes ≡ old.closes → new.ended ≡ old.ended → Does [] old new
read_in old new [] lost same given judges closes ended = stays old new same lost (keeps_given old new given) judges closes ended
read_in old new (b ∷ bytes) lost goes given judges closes ended =
    adds_none (on.read (b ∷ bytes)) (on.took (length (b ∷ bytes))) old new refl
    (adds_by old new (on.read (b ∷ bytes)) (on.took (length (b ∷ bytes))) (b ∷ bytes) [] goes (read_moves (b ∷ bytes) _ refl) lost (keeps_given old new given) judges closes ended tt)

-- a read that failed leaves what was left, and another error asks for nothing
pub kept_left : (e : ReadFromError) (a b : Option (List ℕ)) → (e ≡ read_error.Failed → Keeps a b) → ((e ≡ read_error.Failed → ⊥) → b ≡ a) → Keeps a b
kept_left read_error.Full a b fails others = keeps_equal a b (others (λ is. cc is))
kept_left read_error.Failed a b fails others = fails refl
kept_left read_error.NoMemory a b fails others = keeps_equal a b (others (λ is. cc is))

gave_moves : (count : ℕ) (bytes : List ℕ) (o : Outcome) → Is (on.gave bytes) o → Moves (on.write count) o [] bytes []
gave_moves count bytes o is = subst (λ (o : Outcome). Moves (on.write count) o [] bytes []) (sym is) (record { takes = refl; writes = refl; hands = refl })

-- bytes that waited went into the sink
written_out : (old new : Line) (count : ℕ) (bytes : List ℕ) → GoesOn old.state (on.write count) (Is (on.gave bytes)) new.state → Appends old.given new.given bytes
    → new.left ≡ old.left → new.judges ≡ old.judges → new.closes ≡ old.closes → new.ended ≡ old.ended → Does [] old new
written_out old new count bytes goes got left judges closes ended =
    adds_none (on.write count) (on.gave bytes) old new refl
    (adds_by old new (on.write count) (on.gave bytes) [] bytes goes (gave_moves count bytes _ refl) (keeps_left old new left) got judges closes ended tt)

-- of what a value is seen as
seen_follows : (was old new : Line) → old ≡ was → Follows old new → Follows was new
seen_follows was old new is follows = subst (λ (l : Line). Follows l new) is follows

pub seen_adds : (was old new : Line) (e : Event) (o : Outcome) → old ≡ was → Adds e o old new → Adds e o was new
seen_adds was old new e o is adds = subst (λ (l : Line). Adds e o l new) is adds

-- a read or a write has failed
pub failed : (was old new : Line) → old ≡ was → new.state ≡ old.state → Keeps old.left new.left → Keeps old.given new.given → new.judges ≡ old.judges → new.closes ≡ old.closes
    → new.ended ≡ old.ended → Does [] was new
failed was old new seen state left given judges closes ended =
    seen_doing (λ (l : List Step). l ≡ []) was old new seen (stays old new state (consumes_none _ _ left) (appends_none _ _ given) judges closes ended)

-- nothing has changed
pub unchanged : (was old new : Line) → old ≡ was → new.state ≡ old.state → new.left ≡ old.left → new.given ≡ old.given → new.judges ≡ old.judges → new.closes ≡ old.closes
    → new.ended ≡ old.ended → Does [] was new
unchanged was old new seen state left given judges closes ended =
    failed was old new seen state (keeps_equal _ _ left) (keeps_equal _ _ given) judges closes ended

-- ---- a stretch of what waits

pub taken_first : (n : ℕ) (xs ys zs : List ℕ) → n ≤ length xs → xs ++ ys ≡ zs → take n xs ≡ take n zs
taken_first n xs ys zs within is = sym (take-append-le n xs ys within) ∙ ap (λ (l : List ℕ). take n l) is

-- ---- the next request

head_moves : (h : Head) (o : Outcome) → o ≡ on.head h → Moves on.next o [] [] (h ∷ [])
head_moves h o is = subst (λ (o : Outcome). Moves on.next o [] [] (h ∷ [])) (sym is) (record { takes = refl; writes = refl; hands = refl })

fault_moves : (f : Fault) (o : Outcome) → o ≡ on.fault f → Moves on.next o [] [] []
fault_moves f o is = subst (λ (o : Outcome). Moves on.next o [] [] []) (sym is) (record { takes = refl; writes = refl; hands = refl })

pending_moves : (o : Outcome) → o ≡ on.pending → Moves on.next o [] [] []
pending_moves o is = subst (λ (o : Outcome). Moves on.next o [] [] []) (sym is) (record { takes = refl; writes = refl; hands = refl })

closed_moves : (end : ends.End) (o : Outcome) → o ≡ on.closed end → Moves on.next o [] [] []
closed_moves end o is = subst (λ (o : Outcome). Moves on.next o [] [] []) (sym is) (record { takes = refl; writes = refl; hands = refl })

-- behind the head of this item
given_behind_head : (h : Head) (item : HeadItem) (b : Bool) (new : Bool) (o : Outcome) → new ≡ not (has_body (kind_of item.body)) → kind_of item.body ≡ h.body → o ≡ on.head h
    → new ≡ given_by o b
given_behind_head h item b new o is body says =
    is ∙ ap (λ (k : BodyKind). not (has_body k)) body ∙ sym (ap (λ (x : Outcome). given_by x b) says)

pub handed_out : (was old new : Line) (kind : NextKind) (item : HeadItem) → old ≡ was → GoesOn old.state on.next (SaysNext (with_head item kind)) new.state
    → new.left ≡ old.left → new.given ≡ old.given → new.judges ≡ old.judges → new.closes ≡ old.closes → new.ended ≡ given_after kind item old.ended → HandsOut was new kind item
handed_out was old new next_kind.Head item seen goes left given judges closes ended = record {
  head = λ is. subst (λ (l : Line). HandsOutOne l new item) seen (record {
    goes = λ base served.
        let (o, says, is, stands, marked, counted) = goes served.trace served.stands in (
          says.0,
          says.1,
          (step_behind base old new on.next o [] [] (says.0 ∷ []) (base.handed ++ (says.0 ∷ [])) served stands (head_moves says.0 o says.2) refl
              (keeps_left old new left) (keeps_given old new given) judges
              (given_behind_head says.0 item old.ended new.ended o ended says.1.body says.2) tt).0,
        );
  });
  fault = λ f is. absurd (cc is);
  pending = λ is. absurd (cc is);
  closed = λ end is. absurd (cc is);
}
handed_out was old new (next_kind.Fault fault) item seen goes left given judges closes ended = record {
  head = λ is. absurd (cc is);
  fault = λ f is.
      seen_follows was old new seen
      (adds_follow _ _ old new (quietly_adds old new on.next (on.fault (fault_of fault)) goes (fault_moves (fault_of fault) _ refl) left given judges closes ended tt));
  pending = λ is. absurd (cc is);
  closed = λ end is. absurd (cc is);
}
handed_out was old new next_kind.Pending item seen goes left given judges closes ended = record {
  head = λ is. absurd (cc is);
  fault = λ f is. absurd (cc is);
  pending = λ is.
      seen_follows was old new seen
      (adds_follow _ _ old new (quietly_adds old new on.next on.pending goes (pending_moves _ refl) left given judges closes ended tt));
  closed = λ end is. absurd (cc is);
}
handed_out was old new (next_kind.Closed end) item seen goes left given judges closes ended = record {
  head = λ is. absurd (cc is);
  fault = λ f is. absurd (cc is);
  pending = λ is. absurd (cc is);
  closed = λ e is.
      let same : end ≡ e = cc is in
      subst (λ (x : End). Adds on.next (on.closed (end_of x)) was new) same
      (seen_adds was old new on.next (on.closed (end_of end)) seen
      (quietly_adds old new on.next (on.closed (end_of end)) goes (closed_moves (end_of end) _ refl) left given judges closes ended tt));
}

-- the first bytes of a stretch of what waits went into the sink
pub stretch_written : (old new : Line) (count : ℕ) (front rest waiting : List ℕ) → count ≤ length front → front ++ rest ≡ waiting
    → GoesOn old.state (on.write count) (Is (on.gave (take count waiting))) new.state → Appends old.given new.given (take count front) → new.left ≡ old.left
    → new.judges ≡ old.judges → new.closes ≡ old.closes → new.ended ≡ old.ended → Does [] old new
stretch_written old new count front rest waiting within is goes got left judges closes ended =
    written_out old new count (take count waiting) goes
    (subst (λ (l : List ℕ). Appends old.given new.given l) (taken_first count front rest waiting within is) got) left judges closes ended

-- ---- what is pulled

-- a pull with this outcome, which gave something
pull_does : (was old new : Line) (o : Outcome) → old ≡ was → is_act on.pull o ≡ true → step_taken on.pull o ≡ [] → step_written o ≡ [] → head_in o ≡ []
    → GoesOn old.state on.pull (Is o) new.state → new.left ≡ old.left → new.given ≡ old.given → new.judges ≡ old.judges → new.closes ≡ old.closes → new.ended ≡ given_by o old.ended
    → Does (record { event = on.pull; outcome = o } ∷ []) was new
pull_does was old new o seen act takes writes hands goes left given judges closes ended =
    seen_doing (λ (l : List Step). l ≡ record { event = on.pull; outcome = o } ∷ []) was old new seen
    (adds_does on.pull o old new act (quietly_adds old new on.pull o goes (pulled_moves o takes writes hands) left given judges closes ended tt))

pub pulls_here : (was old new : Line) (p : Pulled) → old ≡ was → GoesOn old.state on.pull (SaysPulled p) new.state → new.left ≡ old.left → new.given ≡ old.given
    → new.judges ≡ old.judges → new.closes ≡ old.closes → new.ended ≡ given_behind p old.ended → Pulls p was new
pulls_here was old new (pulled.Bytes bytes) seen goes left given judges closes ended =
    pull_does was old new (on.bytes bytes) seen refl refl refl refl goes left given judges closes ended
pulls_here was old new (pulled.Trailers trailers) seen goes left given judges closes ended =
    seen_doing (IsPulled (pulled.Trailers trailers)) was old new seen (record {
      goes = λ base served.
          let (o, says, is, stands, marked, counted) = goes served.trace served.stands in
          let x = step_behind base old new on.pull (on.trailers says.0) [] [] [] base.handed served
          (subst (λ (y : Outcome). Stands new.state (record { event = on.pull; outcome = y } ∷ served.trace)) says.1 stands)
          (pulled_moves (on.trailers says.0) refl refl refl) (append-nil base.handed) (keeps_left old new left) (keeps_given old new given) judges ended tt in
          (x.0, (says.0, says.2, ap acts x.1 ∙ acts_one on.pull (on.trailers says.0) refl));
      closes = closes;
    })
pulls_here was old new pulled.End seen goes left given judges closes ended =
    pull_does was old new on.body_ended seen refl refl refl refl goes left given judges closes ended
pulls_here was old new (pulled.Broken fault) seen goes left given judges closes ended =
    pull_does was old new (on.broken_by (broken_of fault)) seen refl refl refl refl goes left given judges closes ended
pulls_here was old new pulled.Pending seen goes left given judges closes ended =
    seen_doing (λ (l : List Step). l ≡ []) was old new seen
    (adds_none on.pull on.pending old new refl (quietly_adds old new on.pull on.pending goes (pulled_moves on.pending refl refl refl) left given judges closes ended tt))
