-- What one event moves.
use Rattle.std.specs.Prelude.{◌≡◌, ℕ, ◌<◌, ◌≤◌, List, [], ◌∷◌, ◌++◌, length, take, drop, Option, Some, None, is_some, Bool, true, false, if◌then◌else◌}
use Rattle.std.proofs.Common.{refl, sym, ap, subst, ◌∙◌, append-nil, append_assoc, arith, take_all, take-append-drop, lit<}
use Rattle.std.proofs.lemmas.List.{length-take-le}
use Rattle.std.specs.Io.KnownBytes.{Consumes, Appends, Keeps, IsAtEnd}
use Rattle.std.proofs.KnownBytes.{Appends-trans}
use Rattle.http_header.specs.FieldValue.{FieldValue}
use Rattle.h1_client.specs.Answers.{SaysNext}
use Rattle.h1_client.specs.State.{State, Stands, GoesOn, Is}
use Rattle.h1_client.specs.declared.event.NextAnswer.{NextAnswer}
use Rattle.h1_client.specs.declared.event.NextAnswer.TheVariants as next
use Rattle.model_client.specs.ClientEvent as on
use Rattle.model_client.specs.ClientEvent.{ClientEvent, ClientOutcome}
use Rattle.model_client.specs.AnswerParse.{is_interim}
use Rattle.model_client.specs.ClientTrace.{Happened, taken_by, given as gave}
use Rattle.app_get.specs.Exchange.{Ends, Goes, Acts, handed_by, given_by, noted_by, led_by, ends_input, ends_body, drops_rest, Empties, is_unread}

-- ---- an event

-- the outcome takes these bytes, gives those to be written, hands in and hands out these of the bodies, and makes this
-- status of that one, and this Location
pub record Moves (e : ClientEvent) (o : ClientOutcome) (came sent file out : List ℕ) (before after : Option ℕ) (was is : Option FieldValue) : Type 0 where
  pub takes : taken_by e o ≡ came
  pub gives : gave o ≡ sent
  pub hands : handed_by e ≡ file
  pub shows : given_by o ≡ out
  pub notes : after ≡ noted_by o before
  pub leads : is ≡ led_by o was

-- the event tells an end only where nothing is left, and drops nothing
pub record EndsWhole (e : ClientEvent) (old new : Ends) : Type 0 where
  pub input : ends_input e ≡ true → Empties old.came new.came
  pub body : ends_body e ≡ true → Empties old.file new.file
  pub keeps_rest : drops_rest e ≡ false

pub ends_none : (e : ClientEvent) (old new : Ends) → ends_input e ≡ false → ends_body e ≡ false → drops_rest e ≡ false → EndsWhole e old new
ends_none e old new input body rest = record { input = λ told. absurd (cc (told, input)); body = λ told. absurd (cc (told, body)); keeps_rest = rest }

pub emptied : (a b : Option (List ℕ)) (bytes : List ℕ) → Consumes a b bytes → IsAtEnd b → Empties a b
emptied None b bytes came end = tt
emptied (Some xs) None bytes came end = absurd came
emptied (Some xs) (Some ys) bytes came end = ap (λ (l : List ℕ). Some l) end

pub emptied_all : (a : Option (List ℕ)) → Empties a (Some [])
emptied_all None = tt
emptied_all (Some xs) = refl

-- what isn't known to have come isn't taken, without a status nothing is written out, and of what isn't wanted nothing is handed
-- out
pub record IsQuiet (old new : Ends) (came out : List ℕ) : Type 0 where
  pub heard : new.begun ≡ false → (old.begun ≡ false) × (came ≡ [])
  pub silent : new.status ≡ None → Keeps old.out new.out
  pub unread : is_unread new ≡ true → (is_unread old ≡ true) × (out ≡ [])

-- nothing is taken, and nothing is written out
pub quiet_still : (old new : Ends) → new.begun ≡ old.begun → Keeps old.out new.out → (is_unread new ≡ true → is_unread old ≡ true) → IsQuiet old new [] []
quiet_still old new begun out unread = record { heard = λ unheard. (sym begun ∙ unheard, refl); silent = λ _. out; unread = λ is. (unread is, refl) }

-- nothing is taken, and there is a status
pub quiet_known : (old new : Ends) (out : List ℕ) → new.begun ≡ old.begun → is_some new.status ≡ true
    → (is_unread new ≡ true → (is_unread old ≡ true) × (out ≡ [])) → IsQuiet old new [] out
quiet_known old new out begun known unread = record {
  heard = λ unheard. (sym begun ∙ unheard, refl);
  silent = λ none. absurd (cc (sym known ∙ ap (λ (s : Option ℕ). is_some s) none));
  unread = unread;
}

-- a piece of a body that is wanted
pub quiet_wanted : (old new : Ends) (out : List ℕ) → new.begun ≡ old.begun → is_some new.status ≡ true → is_unread new ≡ false → IsQuiet old new [] out
quiet_wanted old new out begun known wanted = quiet_known old new out begun known (λ is. absurd (cc (wanted, is)))

-- it is known that something came
pub quiet_heard : (old new : Ends) (came : List ℕ) → new.begun ≡ true → Keeps old.out new.out → (is_unread new ≡ true → is_unread old ≡ true) → IsQuiet old new came []
quiet_heard old new came begun out unread = record { heard = λ unheard. absurd (cc (begun, unheard)); silent = λ _. out; unread = λ is. (unread is, refl) }

if_none : (test : Bool) (before : Option ℕ) (status : ℕ) → (if test then before else Some status) ≡ None → before ≡ None
if_none true before status is = is
if_none false before status is = absurd (cc is)

-- where no status is noted there was none
none_noted : (o : ClientOutcome) (before : Option ℕ) → noted_by o before ≡ None → before ≡ None
none_noted (on.answer a) before is = if_none (is_interim a.status) before a.status is
none_noted _ before is = is

-- one event more, of which this holds
pub one_with : (was old new : Ends) (e : ClientEvent) (Says : ClientOutcome → Type 0) (came sent file out : List ℕ) (P : List Happened → Type 0) → old ≡ was
    → (goes : GoesOn old.state e Says new.state) → ((o : ClientOutcome) → Says o → Moves e o came sent file out old.status new.status old.location new.location)
    → Consumes old.came new.came came → Appends old.sent new.sent sent → Consumes old.file new.file file
    → (old.wanted.head ≡ false → Appends old.out new.out out) → EndsWhole e old new → IsQuiet old new came out → new.wanted ≡ old.wanted
    → P (record { event = e; outcome = goes.outcome } ∷ []) → (all : Goes was new) × P all.more
one_with was old new e Says came sent file out P seen goes moves lost got handed told ends quiet wanted holds =
    subst (λ (l : Ends). (all : Goes l new) × P all.more) seen
    (let m = moves goes.outcome goes.says in (
      record {
        more = record { event = e; outcome = goes.outcome } ∷ [];
        stands = goes.stands;
        came = subst (Consumes old.came new.came) (sym m.takes) lost;
        sent = subst (Appends old.sent new.sent) (sym m.gives) got;
        file = subst (Consumes old.file new.file) (sym m.hands) handed;
        out = λ hides. subst (Appends old.out new.out) (sym m.shows) (told hides);
        input_end = ends.input;
        body_end = ends.body;
        none_dropped = ends.keeps_rest;
        heard = λ unheard. ((quiet.heard unheard).0, m.takes ∙ (quiet.heard unheard).1);
        silent = λ none. (none_noted goes.outcome old.status (sym m.notes ∙ none), quiet.silent none);
        unread = λ is. ((quiet.unread is).0, m.shows ∙ (quiet.unread is).1);
        status = m.notes;
        location = m.leads;
        wanted = wanted;
      },
      holds,
    ))

-- one event more
pub one_act : (was old new : Ends) (e : ClientEvent) (Says : ClientOutcome → Type 0) (came sent file out : List ℕ) → old ≡ was
    → GoesOn old.state e Says new.state → ((o : ClientOutcome) → Says o → Moves e o came sent file out old.status new.status old.location new.location)
    → Consumes old.came new.came came → Appends old.sent new.sent sent → Consumes old.file new.file file
    → (old.wanted.head ≡ false → Appends old.out new.out out) → EndsWhole e old new → IsQuiet old new came out → new.wanted ≡ old.wanted → Acts was new
one_act was old new e Says came sent file out seen goes moves lost got handed told ends quiet wanted =
    let all = one_with was old new e Says came sent file out (λ more. 0 < length more) seen goes moves lost got handed told ends quiet wanted (lit< tt) in
    record { goes = all.0; some = all.1 }

pub one_step : (was old new : Ends) (e : ClientEvent) (Says : ClientOutcome → Type 0) (came sent file out : List ℕ) → old ≡ was
    → GoesOn old.state e Says new.state → ((o : ClientOutcome) → Says o → Moves e o came sent file out old.status new.status old.location new.location)
    → Consumes old.came new.came came → Appends old.sent new.sent sent → Consumes old.file new.file file
    → (old.wanted.head ≡ false → Appends old.out new.out out) → EndsWhole e old new → IsQuiet old new came out → new.wanted ≡ old.wanted → Goes was new
one_step was old new e Says came sent file out seen goes moves lost got handed told ends quiet wanted =
    (one_act was old new e Says came sent file out seen goes moves lost got handed told ends quiet wanted).goes

kept_consumes : (a b : Option (List ℕ)) → Keeps a b → Consumes a b []
kept_consumes None b keeps = tt
kept_consumes (Some ps) None keeps = absurd keeps
kept_consumes (Some ps) (Some qs) keeps = sym keeps

kept_appends : (a b : Option (List ℕ)) → Keeps a b → Appends a b []
kept_appends None b keeps = tt
kept_appends (Some ps) None keeps = absurd keeps
kept_appends (Some ps) (Some qs) keeps = keeps ∙ sym (append-nil ps)

-- no event
pub no_step : (was old new : Ends) → old ≡ was → new.state ≡ old.state → Keeps old.came new.came → Keeps old.sent new.sent → Consumes old.file new.file []
    → (old.wanted.head ≡ false → Appends old.out new.out []) → IsQuiet old new [] [] → new.status ≡ old.status → new.location ≡ old.location → new.wanted ≡ old.wanted → Goes was new
no_step was old new seen state came sent file out quiet status location wanted =
    subst (λ (l : Ends). Goes l new) seen
    (record {
      more = [];
      stands = λ before stands. subst (λ (s : State). Stands s before) (sym state) stands;
      came = kept_consumes old.came new.came came;
      sent = kept_appends old.sent new.sent sent;
      file = file;
      out = out;
      input_end = λ told. absurd (cc told);
      body_end = λ told. absurd (cc told);
      none_dropped = refl;
      heard = quiet.heard;
      silent = λ none. (sym status ∙ none, quiet.silent none);
      unread = quiet.unread;
      status = status;
      location = location;
      wanted = wanted;
    })

-- ---- what each event moves

pub done_moves : {l : Option FieldValue} (e : ClientEvent) (status : Option ℕ) → taken_by e on.done ≡ [] → (o : ClientOutcome) → Is on.done o → Moves e o [] [] (handed_by e) [] status status l l
done_moves {l} e status none o is = subst (λ (o : ClientOutcome). Moves e o [] [] (handed_by e) [] status status l l) (sym is)
    (record { takes = none; gives = refl; hands = refl; shows = refl; notes = refl; leads = refl })

-- as many bytes were taken as came
pub read_moves : {l : Option FieldValue} (bytes : List ℕ) (n : ℕ) (status : Option ℕ) → n ≡ length bytes → (o : ClientOutcome) → Is (on.took n) o
    → Moves (on.read bytes) o bytes [] [] [] status status l l
read_moves {l} bytes n status all o is = subst (λ (o : ClientOutcome). Moves (on.read bytes) o bytes [] [] [] status status l l) (sym is)
    (record { takes = take_all n bytes (omega arith); gives = refl; hands = refl; shows = refl; notes = refl; leads = refl })

pub gave_moves : {l : Option FieldValue} (count : ℕ) (bytes : List ℕ) (status : Option ℕ) (o : ClientOutcome) → Is (on.gave bytes) o → Moves (on.write count) o [] bytes [] [] status status l l
gave_moves {l} count bytes status o is = subst (λ (o : ClientOutcome). Moves (on.write count) o [] bytes [] [] status status l l) (sym is)
    (record { takes = refl; gives = refl; hands = refl; shows = refl; notes = refl; leads = refl })

-- a pull gives these bytes
pub bytes_moves : {l : Option FieldValue} (bytes : List ℕ) (status : Option ℕ) (o : ClientOutcome) → o ≡ on.bytes bytes → Moves on.pull o [] [] [] bytes status status l l
bytes_moves {l} bytes status o is = subst (λ (o : ClientOutcome). Moves on.pull o [] [] [] bytes status status l l) (sym is)
    (record { takes = refl; gives = refl; hands = refl; shows = refl; notes = refl; leads = refl })

-- a pull gives none
pub none_moves : {l : Option FieldValue} (was : ClientOutcome) (status : Option ℕ) → gave was ≡ [] → given_by was ≡ [] → status ≡ noted_by was status → l ≡ led_by was l → (o : ClientOutcome)
    → o ≡ was → Moves on.pull o [] [] [] [] status status l l
none_moves {l} was status gives shows notes leads o is = subst (λ (o : ClientOutcome). Moves on.pull o [] [] [] [] status status l l) (sym is)
    (record { takes = refl; gives = gives; hands = refl; shows = shows; notes = notes; leads = leads })

next_is : (before after : Option ℕ) (k l : Option FieldValue) (was o : ClientOutcome) → gave was ≡ [] → given_by was ≡ [] → after ≡ noted_by was before → l ≡ led_by was k → o ≡ was
    → Moves on.next o [] [] [] [] before after k l
next_is before after k l was o gives shows notes leads is = subst (λ (o : ClientOutcome). Moves on.next o [] [] [] [] before after k l) (sym is)
    (record { takes = refl; gives = gives; hands = refl; shows = shows; notes = notes; leads = leads })

-- the next head, of which status and Location are noted
pub next_moves : (x : NextAnswer) (before after : Option ℕ) (k l : Option FieldValue) → ((o : ClientOutcome) → SaysNext x o → after ≡ noted_by o before)
    → ((o : ClientOutcome) → SaysNext x o → l ≡ led_by o k) → (o : ClientOutcome) → SaysNext x o → Moves on.next o [] [] [] [] before after k l
next_moves (next.Answer item) before after k l notes leads o says =
    let is : SaysNext (next.Answer item) (on.answer says.0) = (says.0, says.1, refl) in
    next_is before after k l (on.answer says.0) o refl refl (notes (on.answer says.0) is) (leads (on.answer says.0) is) says.2
next_moves (next.Fault fault) before after k l notes leads o is = next_is before after k l _ o refl refl (notes _ refl) (leads _ refl) is
next_moves next.Pending before after k l notes leads o is = next_is before after k l _ o refl refl (notes _ refl) (leads _ refl) is
next_moves (next.Closed end) before after k l notes leads o is = next_is before after k l _ o refl refl (notes _ refl) (leads _ refl) is

-- ---- bytes that are counted

pub consumes_zero : (a b : Option (List ℕ)) (n : ℕ) (bytes : List ℕ) → n ≡ 0 → Consumes a b (take n bytes) → Consumes a b []
consumes_zero a b n bytes is came = subst (λ (n : ℕ). Consumes a b (take n bytes)) is came

pub appends_same : (a b : Option (List ℕ)) (xs ys : List ℕ) → xs ≡ ys → Appends a b xs → Appends a b ys
appends_same a b xs ys is grew = subst (λ (l : List ℕ). Appends a b l) is grew

pub all_taken : (n count : ℕ) (bytes : List ℕ) → n ≡ count → count ≤ length bytes → n ≡ length (take count bytes)
all_taken n count bytes is within = is ∙ sym (length-take-le count bytes within)

-- what isn't hidden is no business of who hides
pub never_hidden : (b : Bool) (P : Type 0) → b ≡ true → b ≡ false → P
never_hidden true P is hides = absurd (cc hides)
never_hidden false P is hides = absurd (cc is)

-- ---- bytes that are written in pieces

pub written_more : (a b c : Option (List ℕ)) (n : ℕ) (rest bytes : List ℕ) (w : (front : List ℕ) × (bytes ≡ front ++ rest) × Appends a b front) → Appends b c (take n rest)
    → (front : List ℕ) × (bytes ≡ front ++ drop n rest) × Appends a c front
written_more a b c n rest bytes w then_ = (
  w.0 ++ take n rest,
  w.1 ∙ ap (λ (l : List ℕ). w.0 ++ l) (sym (take-append-drop n rest)) ∙ sym (append_assoc w.0 (take n rest) (drop n rest)),
  Appends-trans a b c w.0 (take n rest) w.2 then_,
)

-- ---- the end of a file

pub at_end : (a : Option (List ℕ)) → IsAtEnd a → Consumes a (Some []) []
at_end None end = tt
at_end (Some xs) end = end
