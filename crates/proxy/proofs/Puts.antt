-- Which parts of replies a call puts, and what a server's connection hands out.
use Rattle.std.proofs.Common.{◌≡◌, inl, inr, ℕ, Bool, true, false, Option, None, List, [], ◌∷◌, ◌++◌, Some, refl, sym, ap, ap₂, ◌∙◌, subst, append_assoc, append-nil}
use Rattle.model_h1.specs.Event as on
use Rattle.std.specs.Prelude.{is_some, ◌==◌, length, if◌then◌else◌}
use Rattle.model_h1.specs.End.{End}
use Rattle.model_h1.specs.Request.{Head, head_is, faulty, too_large}
use Rattle.model_state.specs.Kept.{Kept, Change}
use Rattle.model_state.specs.Local.{closing_by}
use Rattle.model_state.specs.Change.{behind_head, IsUpcoming, IsNext}
use Rattle.h1_connection.specs.EventMeaning.{setting_of, end_of}
use Rattle.model_h1.specs.Sums.{Step}
use Rattle.h1_payload.specs.Rests.{SaysPulled, fault_of}
use Rattle.h1_payload.specs.declared.pulled.Pulled.{Pulled}
use Rattle.h1_payload.specs.declared.pulled.Pulled.TheVariants as pulled
use Rattle.h1_connection.specs.Heads.{SaysNext}
use Rattle.h1_connection.specs.State.{State, Stands, GoesOn, Is}
use Rattle.h1_connection.specs.declared.connection.heads.NextHead.{NextHead}
use Rattle.h1_connection.specs.declared.connection.heads.NextHead.TheVariants as next
use Rattle.model_client.specs.AnswerReading.{Answer, answer_is, IsAnswerReadingWithin}
use Rattle.model_client.specs.ClientEvent as asked
use Rattle.model_client.specs.ClientKept.{ClientKept}
use Rattle.model_client.specs.ClientStep.{IsClientStep}
use Rattle.model_client.specs.ClientTrace.{Happened, IsClientTrace}
use Rattle.http_config.specs.Config.{Settings}
use Rattle.proxy.specs.Sides.{ServerDid}
use Rattle.model_client.proofs.Answered as reads
use Rattle.model_h1.specs.Setting.{Setting}
use Rattle.h1_client.specs.Answers as answers
use Rattle.h1_client.specs.Bodies as bodies
use Rattle.h1_client.specs.ClientMeaning as asking
use Rattle.h1_client.specs.State as servers
use Rattle.h1_client.specs.declared.event.NextAnswer.{NextAnswer}
use Rattle.h1_client.specs.declared.event.NextAnswer.TheVariants as answered
use Rattle.model_proxy.proofs.Client.{machine_step}
use Rattle.proxy.proofs.Sides.{stepped}
use Rattle.model_proxy.specs.Parts.{Part, hands, takes, takes_end, request_breaks, has_closed, parts_by, parts_of, Handed, body_bytes, body_end, body_fault, handed_out, handed_by, handed_of}
use Rattle.proxy.specs.Puts.{PutsFor, Puts, HandsHead, HandsNext, HandsPulled, Hands, HandsNone, Tells, IsRead, HandsAnswer, HandsPiece}

-- ---- one after another

parts_of_both : (first second : List Step) → parts_of (second ++ first) ≡ parts_of second ++ parts_of first
unfolding parts_of
parts_of_both first [] = refl
parts_of_both first (s ∷ second) =
    ap (λ (ps : List Part). parts_by s.event s.outcome ++ ps) (parts_of_both first second)
    ∙ sym (append_assoc (parts_by s.event s.outcome) (parts_of second) (parts_of first))

pub puts_none : (a : State) → Puts [] a a
unfolding parts_of
puts_none a = (refl, λ trace stands. ([], stands, refl))

pub puts_then : (some more : List Part) (a b c : State) → Puts some a b → Puts more b c → Puts (more ++ some) a c
puts_then some more a b c first second = (
  second.0 ∙ first.0,
  λ trace stands.
      let x = first.1 trace stands in
      let y = second.1 (x.0 ++ trace) x.1 in (
        y.0 ++ x.0,
        subst (Stands c) (sym (append_assoc y.0 x.0 trace)) y.1,
        parts_of_both x.0 y.0 ∙ ap₂ (λ (m s : List Part). m ++ s) y.2 x.2,
      ),
)

-- nothing is put after it
pub then_none : (some : List Part) (a b c : State) → Puts some a b → Puts [] b c → Puts some a c
then_none some a b c first second = puts_then some [] a b c first second

-- or before
pub none_then : (some : List Part) (a b c : State) → Puts [] a b → Puts some b c → Puts some a c
none_then some a b c first second =
    let both = puts_then [] some a b c first second in
    (both.0, λ trace stands. let x = both.1 trace stands in (x.0, x.1, x.2 ∙ append-nil some))

-- ---- the client's side

-- one step
pub one_puts : (a : State) (event : on.Event) (Says : on.Outcome → Type 0) (b : State) (parts : List Part) → b.settings ≡ a.settings → GoesOn a event Says b
    → ((o : on.Outcome) → Says o → parts_by event o ≡ parts) → Puts parts a b
unfolding parts_of
one_puts a event Says b parts settings one is =
    (settings, λ trace stands. let s = one trace stands in (record { event = event; outcome = s.0 } ∷ [], s.3, append-nil (parts_by event s.0) ∙ is s.0 s.1))

-- what the machine tells where the connection isn't to end
not_closed : (setting : Setting) (k : Kept) (t : Bool) (e : End) (c : Change) → IsUpcoming setting k t c → on.closed e ≡ c.outcome → ⊥
not_closed setting k false e c is told = by_room (length k.unread == setting.hold_size) (told ∙ ap (λ (c : Change). c.outcome) is)
  where
    by_room : (full : Bool) → on.closed e ≡ (if full then behind_head k 0 (faulty too_large) else record { outcome = on.pending; kept = k }).outcome → ⊥
    by_room true x = cc x
    by_room false x = cc x
not_closed setting k true e c (start, end, head_is h, piece, within, is) told =
    let no : on.closed e ≡ on.head h = told ∙ ap (λ (c : Change). c.outcome) is in cc no
not_closed setting k true e c (start, end, faulty fault, piece, within, is) told =
    let no : on.closed e ≡ on.fault fault = told ∙ ap (λ (c : Change). c.outcome) is in cc no

closes_by : (setting : Setting) (k : Kept) (o : Option End) (e : End) (c : Change) → IsNext setting k o c → on.closed e ≡ c.outcome → is_some o ≡ true
closes_by setting k (Some end) e c is told = refl
closes_by setting k None e c is told = absurd (not_closed setting k k.is_coming e c is told)

was_closing : (a b : State) (e : End) → b.settings ≡ a.settings → GoesOn a on.next (λ o. o ≡ on.closed e) b
    → (trace : List Step) → Stands a trace → is_some (closing_by (setting_of a.settings) a.kept) ≡ true
was_closing a b e settings one trace stands =
    let s = one trace stands in
    let step = machine_step (setting_of a.settings) a.kept b.kept trace (record { event = on.next; outcome = on.closed e }) stands
    (stepped a b on.next (on.closed e) s.0 trace settings s.1 s.3) in
    closes_by (setting_of a.settings) a.kept (closing_by (setting_of a.settings) a.kept) e step.change step.changes step.answers

pub next_hands : (n : NextHead) (a b : State) → b.settings ≡ a.settings → GoesOn a on.next (SaysNext n) b → HandsNext n a b
next_hands (next.Head item) a b settings one = (
  settings,
  λ trace stands.
      let s = one trace stands in (
        s.1.0,
        s.1.1,
        subst (λ (o : on.Outcome). Stands b (record { event = on.next; outcome = o } ∷ trace)) s.1.2 s.3,
      ),
)
next_hands (next.Fault fault) a b settings one = one_puts a on.next _ b [] settings one (λ o says. ap (parts_by on.next) says)
next_hands next.Pending a b settings one = one_puts a on.next _ b [] settings one (λ o says. ap (parts_by on.next) says)
next_hands (next.Closed end) a b settings one =
    (one_puts a on.next _ b (has_closed ∷ []) settings one (λ o says. ap (parts_by on.next) says), was_closing a b (end_of end) settings one)

pub pulled_hands : (n : Pulled) (a b : State) → b.settings ≡ a.settings → GoesOn a on.pull (SaysPulled n) b → HandsPulled n a b
pulled_hands (pulled.Bytes bytes) a b settings one = one_puts a on.pull _ b (takes bytes ∷ []) settings one (λ o says. ap (parts_by on.pull) says)
pulled_hands (pulled.Trailers entries) a b settings one = one_puts a on.pull _ b [] settings one (λ o says. ap (parts_by on.pull) says.1)
pulled_hands pulled.End a b settings one = one_puts a on.pull _ b (takes_end ∷ []) settings one (λ o says. ap (parts_by on.pull) says)
pulled_hands (pulled.Broken fault) a b settings one = one_puts a on.pull _ b (request_breaks (fault_of fault) ∷ []) settings one (λ o says. ap (parts_by on.pull) says)
pulled_hands pulled.Pending a b settings one = one_puts a on.pull _ b [] settings one (λ o says. ap (parts_by on.pull) says)

-- a head that is handed out, and then these parts
pub behind_a_head : (Is : Head → Type 0) (parts : List Part) (a b c : State) → HandsHead Is a b → Puts parts b c
    → PutsFor (λ (all : List Part). (h : Head) × Is h × (all ≡ parts ++ hands h ∷ [])) a c
unfolding parts_of
behind_a_head Is parts a b c head puts = (
  puts.0 ∙ head.0,
  λ trace stands.
      let x = head.1 trace stands in
      let s : Step = record { event = on.next; outcome = on.head x.0 } in
      let y = puts.1 (s ∷ trace) x.2 in (
        y.0 ++ s ∷ [],
        subst (Stands c) (sym (append_assoc y.0 (s ∷ []) trace)) y.1,
        (x.0, x.1, parts_of_both (s ∷ []) y.0 ∙ ap (λ (ps : List Part). ps ++ hands x.0 ∷ []) y.2),
      ),
)

-- ---- a server's side

tells : (a b : servers.State) (Says : asked.ClientOutcome → Type 0) (o : asked.ClientOutcome) → b.settings ≡ a.settings
    → (one : servers.GoesOn a asked.next Says b) → one.outcome ≡ o
    → Tells o a b
tells a b Says o settings one is =
    (settings, λ trace stands. subst (λ (o : asked.ClientOutcome). servers.Stands b (record { event = asked.next; outcome = o } ∷ trace)) is (one.stands trace stands))

-- one step
pub one_hands_these : (a : servers.State) (event : asked.ClientEvent) (Says : asked.ClientOutcome → Type 0) (b : servers.State) (handed : List Handed)
    → b.settings ≡ a.settings → (one : servers.GoesOn a event Says b) → handed_by event one.outcome ≡ handed → Hands handed a b
unfolding handed_of
one_hands_these a event Says b handed settings one is =
    (settings, λ trace stands. (record { event = event; outcome = one.outcome } ∷ [], one.stands trace stands, append-nil (handed_by event one.outcome) ∙ is))

-- a step that hands out nothing
pub one_hands : (a : servers.State) (event : asked.ClientEvent) (Says : asked.ClientOutcome → Type 0) (b : servers.State) → b.settings ≡ a.settings
    → (one : servers.GoesOn a event Says b) → handed_by event one.outcome ≡ [] → HandsNone a b
one_hands a event Says b settings one none = one_hands_these a event Says b [] settings one none

pub hands_same : (a : servers.State) → HandsNone a a
unfolding handed_of
hands_same a = (refl, λ trace stands. ([], stands, refl))

handed_both : (first second : List Happened) → handed_of (second ++ first) ≡ handed_of second ++ handed_of first
unfolding handed_of
handed_both first [] = refl
handed_both first (s ∷ second) =
    ap (λ (more : List Handed). handed_by s.event s.outcome ++ more) (handed_both first second)
    ∙ sym (append_assoc (handed_by s.event s.outcome) (handed_of second) (handed_of first))

pub hands_both : (some more : List Handed) (a b c : servers.State) → Hands some a b → Hands more b c → Hands (more ++ some) a c
hands_both some more a b c first second = (
  second.0 ∙ first.0,
  λ trace stands.
      let x = first.1 trace stands in
      let y = second.1 (x.0 ++ trace) x.1 in (
        y.0 ++ x.0,
        subst (servers.Stands c) (sym (append_assoc y.0 x.0 trace)) y.1,
        handed_both x.0 y.0 ∙ ap₂ (λ (m s : List Handed). m ++ s) y.2 x.2,
      ),
)

-- nothing before it
pub hands_then : (handed : List Handed) (a b c : servers.State) → HandsNone a b → Hands handed b c → Hands handed a c
hands_then handed a b c first second =
    let both = hands_both [] handed a b c first second in
    (both.0, λ trace stands. let x = both.1 trace stands in (x.0, x.1, x.2 ∙ append-nil handed))

-- an event that was allowed and is done
pub did_hands : (event : asked.ClientEvent) (a b : servers.State) (handed : List Handed) → ServerDid event a b → handed_by event asked.done ≡ handed → Hands handed a b
unfolding handed_of
did_hands event a b handed did is = (
  did.settings,
  λ trace stands.
      let s : Happened = record { event = event; outcome = asked.done } in (
        s ∷ [],
        subst (λ (t : Settings). IsClientTrace (asking.setting_of t) (s ∷ trace) b.kept) (sym did.settings) (a.kept, stands, did.allowed, did.step),
        append-nil (handed_by event asked.done) ∙ is,
      ),
)

-- the answer that was told isn't to be passed on
pub tells_none : (o : asked.ClientOutcome) (a b : servers.State) → handed_out o ≡ [] → Tells o a b → HandsNone a b
unfolding handed_of
tells_none o a b none x =
    (x.0, λ trace stands. (record { event = asked.next; outcome = o } ∷ [], x.1 trace stands, append-nil (handed_out o) ∙ none))

is_read : (size : ℕ) (piece : List ℕ) (a : Answer) → IsAnswerReadingWithin (Some size) piece (answer_is a) → IsRead a
is_read size piece a (inl x) = (piece, x.1)
is_read size piece a (inr x) = absurd (cc x.1)

step_read : (setting : Setting) (k next : ClientKept) (a : Answer) → IsClientStep setting k asked.next (asked.answer a) next → IsRead a
step_read setting k next a step =
    let x = reads.answered setting k next a step in is_read setting.hold_size _ a x.reading

pub answer_hands : (n : NextAnswer) (a b : servers.State) → b.settings ≡ a.settings → servers.GoesOn a asked.next (answers.SaysNext n) b → HandsAnswer n a b
answer_hands (answered.Answer item) a b settings one = (
  one.says.0,
  one.says.1,
  step_read (asking.setting_of a.settings) a.kept b.kept one.says.0
      (subst (λ (o : asked.ClientOutcome). IsClientStep (asking.setting_of a.settings) a.kept asked.next o b.kept) one.says.2 one.step),
  tells a b _ (asked.answer one.says.0) settings one one.says.2,
)
answer_hands (answered.Fault fault) a b settings one = tells a b _ (asked.fault _) settings one one.says
answer_hands answered.Pending a b settings one = one_hands a asked.next _ b settings one (ap handed_out one.says)
answer_hands (answered.Closed end) a b settings one = inr (tells a b _ (asked.closed _) settings one one.says)

pub piece_hands : (n : Pulled) (a b : servers.State) → b.settings ≡ a.settings → servers.GoesOn a asked.pull (bodies.SaysPulled n) b → HandsPiece n a b
piece_hands (pulled.Bytes bytes) a b settings one = one_hands_these a asked.pull _ b (body_bytes bytes ∷ []) settings one (ap handed_out one.says)
piece_hands (pulled.Trailers entries) a b settings one = one_hands a asked.pull _ b settings one (ap handed_out one.says.1)
piece_hands pulled.End a b settings one = inl (one_hands_these a asked.pull _ b (body_end ∷ []) settings one (ap handed_out one.says))
piece_hands (pulled.Broken fault) a b settings one = inl (one_hands_these a asked.pull _ b (body_fault (fault_of fault) ∷ []) settings one (ap handed_out one.says))
piece_hands pulled.Pending a b settings one = one_hands a asked.pull _ b settings one (ap handed_out one.says)
