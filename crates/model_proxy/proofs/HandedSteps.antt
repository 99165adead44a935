-- What the steps of a server's connection make of the answer to the last request on it, by what they hand out.
use Rattle.std.proofs.Common.{◌≡◌, ℕ, Bool, true, false, List, [], ◌∷◌, ◌++◌, Option, Some, None, refl, sym, ap, ◌∙◌, subst, append_assoc}
use Rattle.std.specs.Prelude.{if◌then◌else◌}
use Rattle.std.specs.List.{AllByRecursion}
use Rattle.model_h1.specs.Setting.{Setting}
use Rattle.model_h1.specs.Handed.{Item}
use Rattle.model_h1.specs.Laws.Exchanges.{Reply, with_piece}
use Rattle.model_client.specs.AnswerReading.{Answer}
use Rattle.model_client.specs.AnswerParse.{is_interim}
use Rattle.model_client.specs.ClientEvent as on
use Rattle.model_client.specs.ClientEvent.{ClientEvent, ClientOutcome}
use Rattle.model_client.specs.ClientKept.{ClientKept}
use Rattle.model_client.specs.ClientStep.{ClientChange, IsClientStep}
use Rattle.model_client.specs.ClientTrace.{Happened, IsClientTrace}
use Rattle.model_proxy.specs.Past.{ProxyStep}
use Rattle.model_proxy.specs.Exchange.{Exchange}
use Rattle.model_proxy.specs.Happenings.{Link}
use Rattle.model_proxy.specs.Moves.{IsQuiet}
use Rattle.model_proxy.specs.Parts.{is_refused, Handed, asks, sends, sends_end, good_answer, refused_answer, body_bytes, body_end, body_fault, head_fault, server_closed, other_server_event, handed_out, handed_by, handed_of}
use Rattle.model_proxy.proofs.PiecesPut.{has_end, IsPutOf}
use Rattle.model_proxy.proofs.OnLinks.{answering, IsOfBody, AddsLittle, pulls_only}
use Rattle.model_proxy.proofs.LinkSteps.{OnLink, IsLittle, quiet_link}
use Rattle.model_proxy.proofs.OwnSteps.{is_own, own_quiet, own_little}
use Rattle.model_proxy.proofs.ServesReplies.{bytes_link, end_link}

-- ---- steps that hand out nothing

-- it is one of the forwarder's own, and hands out little
record IsIdleStep (s : Happened) : Type 0 where
  own : is_own s.event ≡ true
  little : AddsLittle s.outcome

some_handed : (h : Handed) → h ∷ [] ≡ [] → ⊥
some_handed h e = cc e

answer_little : (a : Answer) (t u : Bool) → is_refused a ≡ t → is_interim a.status ≡ u
    → (if t then refused_answer a ∷ [] else (if u then [] else good_answer a ∷ [])) ≡ [] → AddsLittle (on.answer a)
answer_little a true u out interim e = absurd (some_handed (refused_answer a) e)
answer_little a false true out interim e = (out, interim)
answer_little a false false out interim e = absurd (some_handed (good_answer a) e)

told_little : (o : ClientOutcome) → handed_out o ≡ [] → AddsLittle o
told_little (on.answer a) e = answer_little a (is_refused a) (is_interim a.status) refl refl e
told_little (on.fault fault) e = absurd (some_handed _ e)
told_little (on.closed end) e = absurd (some_handed _ e)
told_little (on.bytes bytes) e = absurd (some_handed _ e)
told_little on.body_ended e = absurd (some_handed _ e)
told_little (on.broken_by fault) e = absurd (some_handed _ e)
told_little (on.took n) e = tt
told_little (on.trailers lines) e = tt
told_little on.pending e = tt
told_little (on.gave bytes) e = tt
told_little on.done e = tt

idle_step : (setting : Setting) (k next : ClientKept) (event : ClientEvent) (o : ClientOutcome) → IsClientStep setting k event o next → handed_by event o ≡ []
    → IsIdleStep (record { event = event; outcome = o })
idle_step setting k next on.next o step e = record { own = refl; little = told_little o e }
idle_step setting k next on.pull o step e = record { own = refl; little = told_little o e }
idle_step setting k next (on.tick ms) o step e =
    record { own = refl; little = subst AddsLittle (sym (step.answers ∙ ap (λ (c : ClientChange). c.outcome) step.changes)) tt }
idle_step setting k next (on.ask r size) o step e = absurd (some_handed _ e)
idle_step setting k next (on.chunk bytes) o step e = absurd (some_handed _ e)
idle_step setting k next on.body_end o step e = absurd (some_handed _ e)
idle_step setting k next on.body_error o step e = absurd (some_handed _ e)
idle_step setting k next (on.read bytes) o step e = absurd (some_handed _ e)
idle_step setting k next on.eof o step e = absurd (some_handed _ e)
idle_step setting k next on.drop_body o step e = absurd (some_handed _ e)
idle_step setting k next (on.write n) o step e = absurd (some_handed _ e)

-- all of them
pub record AreIdle (more : List Happened) : Type 0 where
  pub own : AllByRecursion (λ s. is_own s.event ≡ true) more
  pub little : AllByRecursion IsLittle more

both_empty : (l m : List Handed) → l ++ m ≡ [] → (l ≡ []) × (m ≡ [])
both_empty [] m e = (refl, e)
both_empty (h ∷ l) m e = let no : h ∷ (l ++ m) ≡ [] = e in absurd (cc no)

pub idle_steps : (setting : Setting) (more before : List Happened) (k : ClientKept) → IsClientTrace setting (more ++ before) k → handed_of more ≡ [] → AreIdle more
unfolding handed_of
idle_steps setting [] before k ran e = record { own = tt; little = tt }
idle_steps setting (s ∷ more) before k (b, ran, allowed, step) e =
    let both = both_empty (handed_by s.event s.outcome) (handed_of more) e in
    let earlier = idle_steps setting more before b ran both.1 in
    let one = idle_step setting b k s.event s.outcome step both.0 in
    record { own = (one.own, earlier.own); little = (own_little s one.own one.little, earlier.little) }

-- ---- steps by which one thing is handed out

-- among them is one that hands this out; the others hand out nothing
pub record HandsOne (h : Handed) (more before : List Happened) (k : ClientKept) (setting : Setting) : Type 0 where
  pub after : List Happened
  pub step : Happened
  pub first : List Happened
  pub are : more ≡ after ++ step ∷ first
  pub one : handed_by step.event step.outcome ≡ h ∷ []
  pub afterwards : AreIdle after
  pub earlier : AreIdle first
  pub old : ClientKept
  pub new : ClientKept
  pub ran : IsClientTrace setting (first ++ before) old
  pub did : IsClientStep setting old step.event step.outcome new
  pub behind : IsClientTrace setting (step ∷ (first ++ before)) new

never_one : (h : Handed) → [] ≡ h ∷ [] → ⊥
never_one h e = cc e

pub hands_one : (setting : Setting) (h : Handed) (more before : List Happened) (k : ClientKept) → IsClientTrace setting (more ++ before) k → handed_of more ≡ h ∷ []
    → HandsOne h more before k setting
unfolding handed_of
hands_one setting h [] before k ran e = absurd (never_one h e)
hands_one setting h (s ∷ more) before k (b, ran, allowed, step) e =
    by_handed (handed_by s.event s.outcome) refl e (λ rest. hands_one setting h more before b ran rest)
  where
    by_handed : (l : List Handed) → handed_by s.event s.outcome ≡ l → l ++ handed_of more ≡ h ∷ [] → (handed_of more ≡ h ∷ [] → HandsOne h more before b setting)
        → HandsOne h (s ∷ more) before k setting
    by_handed [] is all further =
        let x = further all in
        let one = idle_step setting b k s.event s.outcome step is in
        record {
          after = s ∷ x.after;
          step = x.step;
          first = x.first;
          are = ap (λ (l : List Happened). s ∷ l) x.are;
          one = x.one;
          afterwards = record { own = (one.own, x.afterwards.own); little = (own_little s one.own one.little, x.afterwards.little) };
          earlier = x.earlier;
          old = x.old;
          new = x.new;
          ran = x.ran;
          did = x.did;
          behind = x.behind;
        }
    by_handed (g ∷ l) is all further =
        let whole : g ∷ (l ++ handed_of more) ≡ h ∷ [] = all in
        let same : g ≡ h = cc in
        let none : l ++ handed_of more ≡ [] = cc in
        let both = both_empty l (handed_of more) none in
        record {
          after = [];
          step = s;
          first = more;
          are = refl;
          one = is ∙ ap (λ (r : Handed). r ∷ l) same ∙ ap (λ (m : List Handed). h ∷ m) both.0;
          afterwards = record { own = tt; little = tt };
          earlier = idle_steps setting more before b ran both.1;
          old = b;
          new = k;
          ran = ran;
          did = step;
          behind = (b, ran, allowed, step);
        }

-- ---- which step that is

-- what is handed out of a body
abbrev pub told_by : Handed → Option ClientOutcome
told_by (body_bytes bytes) = Some (on.bytes bytes)
told_by body_end = Some on.body_ended
told_by (body_fault fault) = Some (on.broken_by fault)
told_by h = None

other_handed : (g h : Handed) (o : ClientOutcome) → g ∷ [] ≡ h ∷ [] → told_by g ≡ None → told_by h ≡ Some o → ⊥
other_handed g h o e none some =
    let same : g ≡ h = cc e in
    let no : ◌≡◌ {A = Option ClientOutcome} None (Some o) = sym none ∙ ap told_by same ∙ some in
    cc no

it_is : (g h : Handed) (a o : ClientOutcome) → g ∷ [] ≡ h ∷ [] → told_by g ≡ Some a → told_by h ≡ Some o → a ≡ o
it_is g h a o e first second =
    let same : g ≡ h = cc e in
    let both : Some a ≡ Some o = sym first ∙ ap told_by same ∙ second in
    let is : a ≡ o = cc both in
    is

answer_other : (a : Answer) (t u : Bool) (h : Handed) (o : ClientOutcome) → (if t then refused_answer a ∷ [] else (if u then [] else good_answer a ∷ [])) ≡ h ∷ []
    → told_by h ≡ Some o → ⊥
answer_other a true u h o e told = other_handed (refused_answer a) h o e refl told
answer_other a false true h o e told = never_one h e
answer_other a false false h o e told = other_handed (good_answer a) h o e refl told

told_so : (a : ClientOutcome) (h : Handed) (o : ClientOutcome) → handed_out a ≡ h ∷ [] → told_by h ≡ Some o → a ≡ o
told_so (on.answer a) h o e told = absurd (answer_other a (is_refused a) (is_interim a.status) h o e told)
told_so (on.fault fault) h o e told = absurd (other_handed head_fault h o e refl told)
told_so (on.closed end) h o e told = absurd (other_handed server_closed h o e refl told)
told_so (on.bytes bytes) h o e told = it_is (body_bytes bytes) h (on.bytes bytes) o e refl told
told_so on.body_ended h o e told = it_is body_end h on.body_ended o e refl told
told_so (on.broken_by fault) h o e told = it_is (body_fault fault) h (on.broken_by fault) o e refl told
told_so (on.took n) h o e told = absurd (never_one h e)
told_so (on.trailers lines) h o e told = absurd (never_one h e)
told_so on.pending h o e told = absurd (never_one h e)
told_so (on.gave bytes) h o e told = absurd (never_one h e)
told_so on.done h o e told = absurd (never_one h e)

handed_so : (event : ClientEvent) (a : ClientOutcome) (h : Handed) (o : ClientOutcome) → handed_by event a ≡ h ∷ [] → told_by h ≡ Some o → a ≡ o
handed_so on.next a h o e told = told_so a h o e told
handed_so on.pull a h o e told = told_so a h o e told
handed_so (on.tick ms) a h o e told = absurd (never_one h e)
handed_so (on.ask r size) a h o e told = absurd (other_handed (asks r size) h o e refl told)
handed_so (on.chunk bytes) a h o e told = absurd (other_handed (sends bytes) h o e refl told)
handed_so on.body_end a h o e told = absurd (other_handed sends_end h o e refl told)
handed_so on.body_error a h o e told = absurd (other_handed other_server_event h o e refl told)
handed_so (on.read bytes) a h o e told = absurd (other_handed other_server_event h o e refl told)
handed_so on.eof a h o e told = absurd (other_handed other_server_event h o e refl told)
handed_so on.drop_body a h o e told = absurd (other_handed other_server_event h o e refl told)
handed_so (on.write n) a h o e told = absurd (other_handed other_server_event h o e refl told)

-- it asked for more of a body, and was told this
pub pulls_it : (setting : Setting) (h : Handed) (o : ClientOutcome) (more before : List Happened) (k : ClientKept) → told_by h ≡ Some o → IsOfBody o
    → (x : HandsOne h more before k setting) → x.step ≡ record { event = on.pull; outcome = o }
pulls_it setting h o more before k told of x =
    let out : x.step.outcome ≡ o = handed_so x.step.event x.step.outcome h o x.one told in
    let event : x.step.event ≡ on.pull = pulls_only setting x.old x.new x.step.event x.step.outcome x.did (subst IsOfBody (sym out) of) in
    ap (λ (e : ClientEvent). record { event = e; outcome = x.step.outcome }) event ∙ ap (λ (a : ClientOutcome). record { event = on.pull; outcome = a }) out

-- all of them are the forwarder's own
own_then : (after first : List Happened) (s : Happened) → AllByRecursion (λ s. is_own s.event ≡ true) after → is_own s.event ≡ true
    → AllByRecursion (λ s. is_own s.event ≡ true) first → AllByRecursion (λ s. is_own s.event ≡ true) (after ++ s ∷ first)
own_then [] first s x here y = (here, y)
own_then (a ∷ after) first s x here y = (x.0, own_then after first s x.1 here y)

pub one_quiet : (setting : Setting) (h : Handed) (o : ClientOutcome) (more before : List Happened) (k : ClientKept) → told_by h ≡ Some o → IsOfBody o
    → IsClientTrace setting (more ++ before) k → HandsOne h more before k setting → IsQuiet before (more ++ before)
one_quiet setting h o more before k told of ran x =
    let own : is_own x.step.event ≡ true = ap (λ (s : Happened). is_own s.event) (pulls_it setting h o more before k told of x) in
    own_quiet setting more before k
    (subst (AllByRecursion (λ s. is_own s.event ≡ true)) (sym x.are) (own_then x.after x.first x.step x.afterwards.own own x.earlier.own)) ran

-- ---- the answer behind them

module _ (ours : Setting) (history : List ProxyStep) (l : Link) (n : ℕ) (x : Exchange) (r : Reply) (a : Answer) (more : List Happened) (k : ClientKept)
    (z : OnLink ours history l n (answering a) x r) where
  behind_one : (h : Handed) (o : ClientOutcome) (q : Reply) → told_by h ≡ Some o → IsOfBody o → HandsOne h more l.happened k ours
      → ((m : Link) → OnLink ours history m n (answering a) x r → OnLink ours history (record m { happened = record { event = on.pull; outcome = o } ∷ m.happened }) n (answering a) x q)
      → OnLink ours history (record l { happened = more ++ l.happened }) n (answering a) x q
  behind_one h o q told of y step =
      let e : Happened = record { event = on.pull; outcome = o } in
      let first : Link = record l { happened = y.first ++ l.happened } in
      let next : Link = record l { happened = e ∷ (y.first ++ l.happened) } in
      let is = pulls_it ours h o more l.happened k told of y in
      let all : more ++ l.happened ≡ y.after ++ (e ∷ (y.first ++ l.happened)) =
      ap (λ (m : List Happened). m ++ l.happened) (y.are ∙ ap (λ (s : Happened). y.after ++ s ∷ y.first) is) ∙ append_assoc y.after (e ∷ y.first) l.happened in
      quiet_link ours history y.after next (record l { happened = more ++ l.happened }) n (answering a) x q y.afterwards.little all
      (step first (quiet_link ours history y.first l first n (answering a) x r y.earlier.little refl z))

  pub bytes_behind : (bytes : List ℕ) → HandsOne (body_bytes bytes) more l.happened k ours
      → OnLink ours history (record l { happened = more ++ l.happened }) n (answering a) x (with_piece bytes r)
  bytes_behind bytes y =
      behind_one (body_bytes bytes) (on.bytes bytes) (with_piece bytes r) refl tt y (λ m w. bytes_link ours history m n x r a bytes w)

  pub end_behind : (q : Reply) → ((items : List Item) → has_end items ≡ true → IsPutOf x.pulled.head.method a items r → IsPutOf x.pulled.head.method a items q)
      → HandsOne body_end more l.happened k ours → OnLink ours history (record l { happened = more ++ l.happened }) n (answering a) x q
  end_behind q so y = behind_one body_end on.body_ended q refl tt y (λ m w. end_link ours history m n x r a q so w)
