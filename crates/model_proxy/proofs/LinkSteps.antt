-- The last request on a server connection, where it was asked and how far its answer is, as more happens on the connection.
use Rattle.std.proofs.Common.{◌≡◌, ℕ, ◌≤◌, true, false, List, [], ◌∷◌, ◌++◌, length, map, refl, sym, ap, ◌∙◌, subst, append_assoc, append-nil, arith, None}
use Rattle.std.specs.Prelude.{IsTrue}
use Rattle.std.specs.List.{AllByRecursion}
use Rattle.model_h1.specs.Setting.{Setting}
use Rattle.model_h1.specs.Laws.Exchanges.{Reply, no_reply, answer_given, session}
use Rattle.model_client.specs.AnswerReading.{Answer}
use Rattle.model_client.specs.ClientEvent as asked
use Rattle.model_client.specs.ClientKept.{Waiting, ClientKept, is_free, client_allows}
use Rattle.model_client.specs.ClientStep.{IsClientStep}
use Rattle.model_client.specs.ClientTrace.{Happened, IsClientTrace, taken, taken_by, requests_by, requests_of}
use Rattle.model_client.specs.Parsed.{methods_of}
use Rattle.model_client.specs.ReadOut.{read_out}
use Rattle.model_client.proofs.OneStep.{one_state}
use Rattle.model_proxy.specs.Forward.{Sent}
use Rattle.model_proxy.specs.Past.{ProxyStep, servers, numbered, server_at, first_of}
use Rattle.model_proxy.specs.Exchange.{Exchange}
use Rattle.model_proxy.specs.Forwarding.{IsAlone}
use Rattle.model_proxy.specs.Happenings.{Link, server_of}
use Rattle.model_proxy.proofs.SentPlaces.{numbered_link, newest_link}
use Rattle.model_proxy.proofs.PlacesKept.{first_before}
use Rattle.model_proxy.proofs.MovedSteps.{IsPassedReply}
use Rattle.model_proxy.proofs.AskedSince.{WasAsked, since_passed}
use Rattle.model_proxy.proofs.AloneSince.{since_alone}
use Rattle.model_proxy.proofs.ReadsOn.{drops, fails, free_passes, stays_so}
use Rattle.model_proxy.proofs.OnLinks.{Stage, before_head, over, answering, HasHead, IsAt, AddsLittle, keeps_on, sound_by, little_at}

-- what happened is kept in one way
pub one_trace : (setting : Setting) (trace : List Happened) (k m : ClientKept) → IsClientTrace setting trace k → IsClientTrace setting trace m → k ≡ m
one_trace setting [] k m x y = x ∙ sym y
one_trace setting (s ∷ before) k m (a, first, may, one) (b, second, might, two) =
    let same = one_trace setting before a b first second in
    one_state setting b s.event s.outcome s.outcome k m (subst (λ (c : ClientKept). IsClientStep setting c s.event s.outcome k) same one) two

-- Where the request was asked; and how far its answer is.
pub record OnLink (ours : Setting) (history : List ProxyStep) (l : Link) (n : ℕ) (stage : Stage) (x : Exchange) (r : Reply) : Type 0 where
  pub asked : WasAsked ours history l x n
  pub at : (c : ClientKept) → IsClientTrace ours l.happened c
      → IsAt stage (read_out asked.before).answers (read_out l.happened).answers x.pulled.head.method c r

-- ---- as more happens

-- it is asked where it was, however much came since
abbrev pub asked_on : (ours : Setting) (old new : List ProxyStep) (l m : Link) (x y : Exchange) (n : ℕ) (more : List ℕ) → WasAsked ours old l x n
    → taken m.happened ≡ taken l.happened ++ more → methods_of m.happened ≡ methods_of l.happened → y.pulled.head.method ≡ x.pulled.head.method
    → (server_at n (first_of y.sent_at new)).came ≡ (server_at n (first_of x.sent_at old)).came → WasAsked ours new m y n
asked_on ours old new l m x y n more w came methods method place = record {
  before = w.before;
  kept = w.kept;
  ran = w.ran;
  fine = w.fine;
  free = w.free;
  unread = w.unread;
  waiting = w.waiting;
  going = w.going;
  more = w.more ++ more;
  came = came ∙ ap (λ (bytes : List ℕ). bytes ++ more) w.came ∙ append_assoc (taken w.before) w.more more;
  methods = methods ∙ w.methods ∙ ap (λ (name : List ℕ). methods_of w.before ++ name ∷ []) (sym method);
  place = place ∙ w.place;
}

-- behind a further step
pub later_link : (ours : Setting) (s : ProxyStep) (history : List ProxyStep) (l : Link) (n : ℕ) (stage : Stage) (x : Exchange) (r : Reply) → x.sent_at ≤ length history
    → OnLink ours history l n stage x r → OnLink ours (s ∷ history) l n stage x r
later_link ours s history l n stage x r low y = record {
  asked = asked_on ours history (s ∷ history) l l x x n [] y.asked (sym (append-nil (taken l.happened))) refl refl
      (ap (λ (h : List ProxyStep). (server_at n h).came) (first_before x.sent_at s history low));
  at = y.at;
}

none_asked : (s : Happened) (before : List Happened) → requests_by s.event ≡ [] → methods_of (s ∷ before) ≡ methods_of before
none_asked s before none =
    ap (λ (ws : List Waiting). map (λ (w : Waiting). w.method) (requests_of before ++ ws)) none
    ∙ ap (map (λ (w : Waiting). w.method)) (append-nil (requests_of before))

-- after a step on the connection, with what that makes of the answer
pub link_step : (ours : Setting) (history : List ProxyStep) (s : Happened) (l m : Link) (n : ℕ) (stage next : Stage) (x y : Exchange) (r q : Reply)
    → m.happened ≡ s ∷ l.happened → requests_by s.event ≡ [] → y.pulled.head.method ≡ x.pulled.head.method → y.sent_at ≡ x.sent_at → (z : OnLink ours history l n stage x r)
    → ((c d : ClientKept) → IsClientTrace ours l.happened c → IsTrue (client_allows ours c s.event) → IsClientStep ours c s.event s.outcome d
    → IsAt stage (read_out z.asked.before).answers (read_out l.happened).answers x.pulled.head.method c r
    → IsAt next (read_out z.asked.before).answers (read_out (s ∷ l.happened)).answers x.pulled.head.method d q)
    → OnLink ours history m n next y q
link_step ours history s l m n stage next x y r q are none method at z step = record {
  asked = asked_on ours history history l m x y n (taken_by s.event s.outcome) z.asked (ap taken are) (ap methods_of are ∙ none_asked s l.happened none) method
      (ap (λ (k : ℕ). (server_at n (first_of k history)).came) at);
  at = λ d ran.
      subst (λ (name : List ℕ). IsAt next (read_out z.asked.before).answers (read_out m.happened).answers name d q) (sym method)
      (subst (λ (h : List Happened). IsAt next (read_out z.asked.before).answers (read_out h).answers x.pulled.head.method d q) (sym are)
      (by_ran d (subst (λ (h : List Happened). IsClientTrace ours h d) are ran)));
}
  where
    by_ran : (d : ClientKept) → IsClientTrace ours (s ∷ l.happened) d
        → IsAt next (read_out z.asked.before).answers (read_out (s ∷ l.happened)).answers x.pulled.head.method d q
    by_ran d (c, ran, allowed, did) = step c d ran allowed did (z.at c ran)

-- after one that hands out little
pub record IsLittle (s : Happened) : Type 0 where
  pub calm : drops s.event ≡ false
  pub sound : fails s.event ≡ false
  pub none : requests_by s.event ≡ []
  pub little : AddsLittle s.outcome

pub little_link : (ours : Setting) (history : List ProxyStep) (s : Happened) (l m : Link) (n : ℕ) (stage : Stage) (x y : Exchange) (r : Reply) → IsLittle s
    → m.happened ≡ s ∷ l.happened → y.pulled.head.method ≡ x.pulled.head.method → y.sent_at ≡ x.sent_at → OnLink ours history l n stage x r
    → OnLink ours history m n stage y r
little_link ours history s l m n stage x y r is are method at z =
    link_step ours history s l m n stage stage x y r r are is.none method at z
    (λ c d ran allowed did here.
    little_at ours l.happened s c d ran allowed did is.calm is.none (read_out z.asked.before).answers x.pulled.head.method stage r is.little
    (sound_by ours l.happened s c d ran allowed did is.calm is.none (read_out z.asked.before).answers x.pulled.head.method (keeps_on s.outcome is.little) is.sound) here)

-- after the end of the request's body, which isn't too short
pub end_link : (ours : Setting) (history : List ProxyStep) (l m : Link) (n : ℕ) (stage : Stage) (x y : Exchange) (r : Reply) (a b : ClientKept)
    → m.happened ≡ record { event = asked.body_end; outcome = asked.done } ∷ l.happened → y.pulled.head.method ≡ x.pulled.head.method → y.sent_at ≡ x.sent_at
    → IsClientTrace ours l.happened a → IsClientStep ours a asked.body_end asked.done b → (a.failed ≡ None → b.failed ≡ None) → OnLink ours history l n stage x r
    → OnLink ours history m n stage y r
end_link ours history l m n stage x y r a b are method at first last fine z =
    let s : Happened = record { event = asked.body_end; outcome = asked.done } in
    link_step ours history s l m n stage stage x y r r are refl method at z
    (λ c d ran allowed did here.
    little_at ours l.happened s c d ran allowed did refl refl (read_out z.asked.before).answers x.pulled.head.method stage r tt
    (λ kept f. by_same c d did (one_trace ours l.happened c a ran first) f) here)
  where
    by_same : (c d : ClientKept) → IsClientStep ours c asked.body_end asked.done d → c ≡ a → c.failed ≡ None → d.failed ≡ None
    by_same c d did same f =
        let also = subst (λ (k : ClientKept). IsClientStep ours k asked.body_end asked.done d) same did in
        ap (λ (k : ClientKept). k.failed) (one_state ours a asked.body_end asked.done asked.done d b also last)
        ∙ fine (sym (ap (λ (k : ClientKept). k.failed) same) ∙ f)

-- whatever was sent, and whatever was taken of the request
pub same_link : (ours : Setting) (history : List ProxyStep) (l m : Link) (n : ℕ) (stage : Stage) (x y : Exchange) (r : Reply) → m.happened ≡ l.happened
    → y.pulled.head.method ≡ x.pulled.head.method → y.sent_at ≡ x.sent_at → OnLink ours history l n stage x r → OnLink ours history m n stage y r
same_link ours history l m n stage x y r are method at z = record {
  asked = asked_on ours history history l m x y n [] z.asked (ap taken are ∙ sym (append-nil (taken l.happened))) (ap methods_of are) method
      (ap (λ (k : ℕ). (server_at n (first_of k history)).came) at);
  at = λ d ran.
      subst (λ (name : List ℕ). IsAt stage (read_out z.asked.before).answers (read_out m.happened).answers name d r) (sym method)
      (subst (λ (h : List Happened). IsAt stage (read_out z.asked.before).answers (read_out h).answers x.pulled.head.method d r) (sym are)
      (z.at d (subst (λ (h : List Happened). IsClientTrace ours h d) are ran)));
}

-- and after some of them
pub quiet_link : (ours : Setting) (history : List ProxyStep) (more : List Happened) (l m : Link) (n : ℕ) (stage : Stage) (x : Exchange) (r : Reply)
    → AllByRecursion IsLittle more → m.happened ≡ more ++ l.happened → OnLink ours history l n stage x r → OnLink ours history m n stage x r
quiet_link ours history [] l m n stage x r all are z = same_link ours history l m n stage x x r are refl refl z
quiet_link ours history (s ∷ more) l m n stage x r all are z =
    little_link ours history s (record l { happened = more ++ l.happened }) m n stage x x r all.0 are refl refl
    (quiet_link ours history more l (record l { happened = more ++ l.happened }) n stage x r all.1 refl z)

-- ---- one on which no request was sent

-- nothing is to be read of an answer, and nothing but what comes closes it
pub record IsUnused (c : ClientKept) : Type 0 where
  pub free : is_free c ≡ true
  pub runs : c.is_over ≡ false
  pub stays : c.closes ≡ false
  pub fine : c.failed ≡ None

abbrev pub UnusedOn : Setting → Link → Type 0
UnusedOn ours l = (c : ClientKept) → IsClientTrace ours l.happened c → IsUnused c

pub fresh_unused : (ours : Setting) (sent : List Sent) → UnusedOn ours (record { happened = []; sent = sent })
fresh_unused ours sent = λ c is. subst IsUnused (sym is) (record { free = refl; runs = refl; stays = refl; fine = refl })

pub little_unused : (ours : Setting) (s : Happened) (l m : Link) → IsLittle s → m.happened ≡ s ∷ l.happened → UnusedOn ours l → UnusedOn ours m
little_unused ours s l m is are z = λ d ran. by_ran d (subst (λ (h : List Happened). IsClientTrace ours h d) are ran)
  where
    by_ran : (d : ClientKept) → IsClientTrace ours (s ∷ l.happened) d → IsUnused d
    by_ran d (c, before, allowed, step) =
        let y = z c before in
        let t = stays_so ours c d s.event s.outcome allowed step is.calm (keeps_on s.outcome is.little) (free_passes c y.free) in
        record { free = t.free ∙ y.free; runs = t.over ∙ y.runs; stays = t.closes ∙ y.stays; fine = t.failed is.sound ∙ y.fine }

pub same_unused : (ours : Setting) (l m : Link) → m.happened ≡ l.happened → UnusedOn ours l → UnusedOn ours m
same_unused ours l m are z = λ d ran. z d (subst (λ (h : List Happened). IsClientTrace ours h d) are ran)

pub quiet_unused : (ours : Setting) (more : List Happened) (l m : Link) → AllByRecursion IsLittle more → m.happened ≡ more ++ l.happened → UnusedOn ours l → UnusedOn ours m
quiet_unused ours [] l m all are z = same_unused ours l m are z
quiet_unused ours (s ∷ more) l m all are z =
    little_unused ours s (record l { happened = more ++ l.happened }) m all.0 are
    (quiet_unused ours more l (record l { happened = more ++ l.happened }) all.1 refl z)

-- ---- what follows of it

-- what came of the newest connection
pub newest_server : (history : List ProxyStep) (l : Link) (links : List Link) → map server_of (l ∷ links) ≡ servers history → server_at (length links) history ≡ server_of l
newest_server history l links same =
    ap (numbered (length links)) (sym same) ∙ numbered_link (length links) (l ∷ links)
    ∙ ap server_of (newest_link l links (length links) (omega arith))

module _ (theirs ours : Setting) (held : theirs.hold_size ≡ ours.hold_size) (history : List ProxyStep) (l : Link) (n : ℕ) (is : server_at n history ≡ server_of l)
    (c : ClientKept) (ran : IsClientTrace ours l.happened c) where
  has_passed : (x : Exchange) (r : Reply) (w : WasAsked ours history l x n) (a : Answer)
      → HasHead (read_out w.before).answers (read_out l.happened).answers x.pulled.head.method c a r → IsPassedReply theirs history x n r
  has_passed x no_reply w a y = tt
  has_passed x (answer_given g) w a y =
      since_passed theirs ours held history l x n is w c y.news y.newest a g ran y.answers y.passed y.reading y.good y.final y.put
  has_passed x (session w') w a y = tt

  -- a reply that was put passes the answer on
  pub link_passed : (stage : Stage) (x : Exchange) (r : Reply) → OnLink ours history l n stage x r → IsPassedReply theirs history x n r
  link_passed before_head x r z = subst (IsPassedReply theirs history x n) (sym (z.at c ran).unput) tt
  link_passed (answering a) x r z = has_passed x r z.asked a (z.at c ran)
  link_passed over x r z = let y = z.at c ran in has_passed x r z.asked y.0 y.1

  -- and where the answer is over, and nothing is left to read, all that came is that answer
  pub link_alone : c.failed ≡ None → is_free c ≡ true → c.unread ≡ [] → c.has_ended ≡ false → (x : Exchange) (r : Reply) → OnLink ours history l n over x r
      → IsAlone theirs history x n (length history)
  link_alone fine free unread going x r z =
      let y = z.at c ran in
      since_alone theirs ours held history l x n is z.asked c y.1.news y.1.newest y.0 ran fine free unread y.1.waits going y.1.answers y.1.passed y.1.reading y.1.good
      y.1.final y.2
