-- What holds of all that a forwarder does: the theorem that is to be proved of one.
use Rattle.std.specs.Prelude.{◌≡◌, ◌⊎◌, ℕ, ◌+◌, ◌<◌, ◌≤◌, Bool, true, false, not, ◌&&◌, ◌||◌, ◌==◌, List, [], ◌∷◌, ◌++◌, length, map, filter, reverse, take, flat_map, codes, bytes_eq, Option, Some, None, is_some, is_none, unwrap_or, ⊤}
use Rattle.std.specs.List.{AllByRecursion}
use Rattle.model_h1.specs.Setting.{Setting}
use Rattle.model_h1.specs.Answer.{size_of}
use Rattle.model_h1.specs.Event as on
use Rattle.model_h1.specs.Handed.{Begins}
use Rattle.model_h1.specs.Sums.{Step}
use Rattle.model_h1.specs.Sums as sums
use Rattle.model_h1.specs.Trace.{IsTrace}
use Rattle.model_h1.specs.Laws.Exchanges.{AnswerGiven, Reply, no_reply, answer_given, session, is_whole, exchanges}
use Rattle.model_h1.specs.Laws.Exchanges as replies
use Rattle.model_client.specs.RequestText.{joined}
use Rattle.model_client.specs.AnswerReading.{Answer}
use Rattle.model_proxy.specs.Edge.{Edge}
use Rattle.model_proxy.specs.Judged.{is_refused}
use Rattle.model_proxy.specs.Forward.{is_forwardable, Sent, forward}
use Rattle.model_proxy.specs.Answers.{Fate, bad, whole_at, Found, IsAnswer, reply_head, reply_size, own_head, refusal_head, says_close}
use Rattle.model_proxy.specs.Past.{ProxyEvent, connected, ProxyOutcome, ProxyStep, client_taken, client_given, client_ended, is_refusal, Server, servers, server_at, now, first_of}
use Rattle.model_proxy.specs.Past as past
use Rattle.model_proxy.specs.Exchange.{Exchange, pulled, is_on, sent_on, until, answer_input}

-- ---- replies

-- the answer is whole
abbrev pub IsWhole : Fate → Type 0
IsWhole (whole_at place) = ⊤
IsWhole _ = ⊥

-- The reply is the answer that was found: its head and its size, and of its bytes a beginning, or all of them where the reply is
-- ended, which it never is before the answer is whole.
pub record IsPassedOn (method : List ℕ) (a : AnswerGiven) (found : Found) (answer : Answer) : Type 0 where
  pub response : found.response ≡ Some answer
  pub head : a.answered.head ≡ reply_head answer
  pub size : a.answered.size ≡ reply_size (bytes_eq method (codes "HEAD")) answer
  pub bytes : Begins (joined a.pieces) found.bytes
  pub end : is_whole (answer_given a) ≡ true → IsWhole found.fate × (joined a.pieces ≡ found.bytes)

-- an empty reply of the forwarder's own
abbrev pub IsOwn : ℕ → AnswerGiven → Type 0
IsOwn status a = (a.answered.head ≡ own_head status) × (a.answered.size ≡ size_of 0)

-- The reply to a request that was sent on the server connection with this number, by what came of it up to so many steps: its answer;
-- where no head of that came, 502 if it is bad, or 400 if the request's own body broke or was cut.
abbrev pub IsReplyFrom : Setting → List ProxyStep → Exchange → ℕ → ℕ → AnswerGiven → Type 0
IsReplyFrom setting history x k to a =
    (found : Found) × IsAnswer (answer_input setting history k x.sent_at to) x.pulled.head.method found
    × (((answer : Answer) × IsPassedOn x.pulled.head.method a found answer)
    ⊎ ((found.response ≡ None) × (((found.fate ≡ bad) × IsOwn 502 a) ⊎ ((x.pulled.is_broken ≡ true) × IsOwn 400 a))))

-- 400 for a head that is refused, after which the connection closes; 501 for a request that can't be sent on; 502 where no server connection
-- is to be had
abbrev pub IsReplyBy : Edge → Setting → List ProxyStep → List Exchange → Exchange → AnswerGiven → Bool → Bool → Bool → Option ℕ → Type 0
IsReplyBy e setting history later x a true can was_refused server = (a.answered.head ≡ refusal_head) × (a.answered.size ≡ size_of 0)
IsReplyBy e setting history later x a false false was_refused server = IsOwn 501 a
IsReplyBy e setting history later x a false true true server = IsOwn 502 a
IsReplyBy e setting history later x a false true false (Some k) = IsReplyFrom setting history x k (until history k later) a
IsReplyBy e setting history later x a false true false None = ⊥

-- the reply to the request, if it has one yet
abbrev pub IsReply : Edge → Setting → List ProxyStep → List Exchange → Exchange → Reply → Type 0
IsReply e setting history later x no_reply = ⊤
IsReply e setting history later x (answer_given a) =
    IsReplyBy e setting history later x a (is_refused e x.pulled.head) (is_forwardable e x.pulled.head) x.was_refused x.server
IsReply e setting history later x (session s) = ⊥

-- each request has its own reply, in order; these later ones come after them
abbrev pub AreReplies : Edge → Setting → List ProxyStep → List Exchange → List Exchange → List replies.Exchange → Type 0
AreReplies e setting history later [] [] = ⊤
AreReplies e setting history later (x ∷ xs) (f ∷ fs) =
    (f.head ≡ x.pulled.head) × IsReply e setting history later x f.reply × AreReplies e setting history (x ∷ later) xs fs
AreReplies e setting history later _ _ = ⊥

-- a client is told to go on only for a request that can be sent on, and only in HTTP/1.1 (RFC 9110, section 15.2)
abbrev pub IsToldRightly : Edge → replies.Exchange → Type 0
IsToldRightly e f = f.was_told ≡ true → (is_forwardable e f.head ≡ true) × ((f.head.minor == 0) ≡ false)

-- ---- one answer a request

-- an answer that doesn't say that its server closes the connection
abbrev pub keeps_open : Option Answer → Bool
keeps_open None = false
keeps_open (Some answer) = not (says_close answer)

-- What came of a server connection until the next request was sent on it is the answer to the one before, to the last byte, and no
-- end of the input, nor a word that it comes: so no answer is read from bytes that came before its request was sent, and none are left
-- over.
abbrev pub IsAlone : Setting → List ProxyStep → Exchange → ℕ → ℕ → Type 0
IsAlone setting history x k to =
    let input = answer_input setting history k x.sent_at to in
    (found : Found) × IsAnswer input x.pulled.head.method found × (found.fate ≡ whole_at (length input.bytes)) × (input.ended ≡ false)
    × (keeps_open found.response ≡ true)

-- where these later requests were sent on the connection too
abbrev pub IsAloneBefore : Setting → List ProxyStep → Exchange → ℕ → List Exchange → Type 0
IsAloneBefore setting history x k [] = ⊤
IsAloneBefore setting history x k (next ∷ more) = IsAlone setting history x k next.sent_at

abbrev pub IsAloneOn : Setting → List ProxyStep → List Exchange → Exchange → Option ℕ → Type 0
IsAloneOn setting history later x None = ⊤
IsAloneOn setting history later x (Some k) = IsAloneBefore setting history x k (filter (is_on k) later)

abbrev pub AreAlone : Setting → List ProxyStep → List Exchange → List Exchange → Type 0
AreAlone setting history later [] = ⊤
AreAlone setting history later (x ∷ xs) = IsAloneOn setting history later x x.server × AreAlone setting history (x ∷ later) xs

-- Where the first of these requests, the oldest first, was sent on this server connection, nothing had come of it, nor the end of its input.
abbrev pub IsCleanAtFirst : List ProxyStep → ℕ → List Exchange → Type 0
IsCleanAtFirst history k [] = ⊤
IsCleanAtFirst history k (x ∷ later) =
    let before = server_at k (first_of x.sent_at history) in
    (before.came ≡ []) × (before.ended ≡ false)

-- ---- towards the servers

-- what waits to be given comes behind what was given; of a connection that is closed, what was given begins what was sent
abbrev pub IsGiven : Option (List ℕ) → Bool → List ℕ → List ℕ → Type 0
IsGiven (Some waiting) true given text = given ++ waiting ≡ text
IsGiven _ _ given text = Begins given text

-- towards the server connection with this number; the newest is the one that may be open
abbrev pub IsGivenTo : Edge → List ProxyStep → Option (List ℕ) → List Exchange → ℕ → Type 0
IsGivenTo e history waiting xs k =
    IsGiven waiting (k + 1 == length (servers history)) (server_at k history).given (flat_map forward (sent_on e history k xs))

-- all but the last are whole
abbrev pub AreWholeButLast : List Sent → Type 0
AreWholeButLast [] = ⊤
AreWholeButLast (s ∷ []) = ⊤
AreWholeButLast (s ∷ next ∷ more) = (s.is_whole ≡ true) × AreWholeButLast (next ∷ more)

-- only a request that can be sent on is, on a server connection that is there, and then none was refused for it
abbrev pub IsSentRightly : Edge → List ProxyStep → Exchange → Type 0
IsSentRightly e history x =
    (k : ℕ) → x.server ≡ Some k → (is_forwardable e x.pulled.head ≡ true) × (x.was_refused ≡ false) × (k < length (servers history))

-- a request was sent on a server connection; or none could be, since bytes came that no request asked for, or the end of its input
abbrev pub IsUsed : List Exchange → Server → Type 0
IsUsed [] s = (s.ended ≡ true) ⊎ (s.came ≡ [] → ⊥)
IsUsed (x ∷ xs) s = ⊤

-- a server connection isn't closed before it was used
abbrev pub IsUsedBefore : List ProxyStep → Option (List ℕ) → List Exchange → Type 0
IsUsedBefore history waiting xs = waiting ≡ None → (k : ℕ) → k + 1 ≡ length (servers history) → IsUsed (filter (is_on k) xs) (server_at k history)

-- ---- the theorem

-- The newest reply failed, since its answer is bad behind its head.
abbrev pub HasFailed : Setting → List ProxyStep → List Exchange → Type 0
HasFailed setting history [] = ⊥
HasFailed setting history (x ∷ xs) =
    (k : ℕ) × (x.server ≡ Some k) × (found : Found)
    × IsAnswer (answer_input setting history k x.sent_at (length history)) x.pulled.head.method found
    × (is_some found.response ≡ true) × (found.fate ≡ bad)

-- What holds behind these steps: the client's connection did this trace, and nothing but what these steps told it; these are its
-- requests, the newest first in all lists; and these bytes wait to be given to the server, if a server connection is open.
pub record IsForwardedSoFar (e : Edge) (setting : Setting) (history : List ProxyStep) (waiting : Option (List ℕ)) (trace : List Step) (xs : List Exchange) : Type 0 where
  pub traced : IsTrace setting trace
  pub taken : sums.taken trace ≡ client_taken history
  pub written : sums.written trace ≡ client_given history
  pub moment : sums.now trace ≡ now history
  pub ended : sums.has_ended trace ≡ client_ended history
  pub undrained : sums.is_draining trace ≡ false
  pub requests : map (λ x. x.pulled) xs ≡ pulled trace
  pub rightly : AllByRecursion (IsSentRightly e history) xs
  pub towards : (k : ℕ) → k < length (servers history) → IsGivenTo e history waiting xs k
  pub whole : (k : ℕ) → AreWholeButLast (sent_on e history k xs)
  pub used : IsUsedBefore history waiting xs
  pub told : AllByRecursion (IsToldRightly e) (exchanges trace)
  pub replied : AreReplies e setting history [] xs (exchanges trace)
  pub clean : (k : ℕ) → k < length (servers history) → IsCleanAtFirst history k (reverse (filter (is_on k) xs))
  pub alone : AreAlone setting history [] xs
  pub failed : sums.came_since_head sums.is_body_error trace ≡ true → HasFailed setting history xs

-- ---- step by step

-- a server connection is there for this step to send on: it was open before, or this step connects it
abbrev pub is_there : ProxyEvent → Option (List ℕ) → Bool
is_there connected waiting = true
is_there _ waiting = is_some waiting

-- what the client's connection did begins with such a step
abbrev pub BeginsWith : (Step → Type 0) → List Step → Type 0
BeginsWith Is did = (more : List Step) × (first : Step) × (did ≡ more ++ first ∷ []) × Is first

abbrev pub IsStepOf : on.Event → on.Outcome → Step → Type 0
IsStepOf event outcome s = (s.event ≡ event) × (s.outcome ≡ outcome)

-- Each event has an outcome of its own. Where it is one of the client's side, what the client's connection does by the step begins with
-- it, as its tables say, but for bytes of which none is taken.
abbrev pub IsTold : ProxyEvent → ProxyOutcome → List Step → Type 0
IsTold (past.client bytes) (past.took n) did = (n ≡ 0) ⊎ BeginsWith (IsStepOf (on.read bytes) (on.took n)) did
IsTold past.client_eof past.done did = BeginsWith (λ s. s.event ≡ on.eof) did
IsTold (past.to_client n) (past.gave bytes) did = BeginsWith (IsStepOf (on.write n) (on.gave bytes)) did
IsTold (past.tick ms) past.done did = BeginsWith (λ s. s.event ≡ on.tick ms) did
IsTold (past.server bytes) (past.took n) did = n ≤ length bytes
IsTold past.server_eof past.done did = ⊤
IsTold past.connected past.done did = ⊤
IsTold past.refused past.done did = ⊤
IsTold (past.to_server n) (past.gave bytes) did = ⊤
IsTold event outcome did = ⊥

-- what is given towards a server is the first of what waited
abbrev pub IsFirstOf : ProxyEvent → ProxyOutcome → Option (List ℕ) → Type 0
IsFirstOf (past.to_server n) (past.gave bytes) waiting = bytes ≡ take n (unwrap_or waiting [])
IsFirstOf event outcome waiting = ⊤

-- A step, of what waited towards the server before it and does behind it, and of what the client's connection did. A server connection is
-- open behind it only if it was before, or this step connects it.
pub record IsStep (s : ProxyStep) (before after : Option (List ℕ)) (did : List Step) : Type 0 where
  pub told : IsTold s.event s.outcome did
  pub gave : IsFirstOf s.event s.outcome before
  pub opened : is_some after ≡ true → is_there s.event before ≡ true

-- The request is sent on by the newest of these steps, on the newest server connection; these bytes waited to be given before the step.
pub record IsSentNow (event : ProxyEvent) (waiting : Option (List ℕ)) (history : List ProxyStep) (y : Exchange) : Type 0 where
  pub there : is_there event waiting ≡ true
  pub number : ℕ
  pub server : y.server ≡ Some number
  pub newest : number + 1 ≡ length (servers history)
  pub at : y.sent_at ≡ length history

-- What a step makes of the newest request: it stays where it was sent, or is sent on, once. It is refused where it waits to be
-- sent on and this step says that no server connection can be had.
pub record GoesOn (event : ProxyEvent) (waiting : Option (List ℕ)) (history : List ProxyStep) (x y : Exchange) : Type 0 where
  pub sent : ((y.server ≡ x.server) × (y.sent_at ≡ x.sent_at)) ⊎ ((x.server ≡ None) × IsSentNow event waiting history y)
  pub refused : y.was_refused ≡ (x.was_refused || (is_refusal event && is_none x.server))

-- a request that the step hands out may be sent on by it at once, and isn't refused
pub record IsNew (event : ProxyEvent) (waiting : Option (List ℕ)) (history : List ProxyStep) (y : Exchange) : Type 0 where
  pub sent : (y.server ≡ None) ⊎ IsSentNow event waiting history y
  pub unrefused : y.was_refused ≡ false

-- of the requests before, the newest alone changes
abbrev pub NewestGoesOn : ProxyEvent → Option (List ℕ) → List ProxyStep → List Exchange → List Exchange → Type 0
NewestGoesOn event waiting history [] [] = ⊤
NewestGoesOn event waiting history (x ∷ xs) (y ∷ ys) = GoesOn event waiting history x y × (ys ≡ xs)
NewestGoesOn event waiting history _ _ = ⊥

-- what a step makes of all requests
pub record AllGoOn (event : ProxyEvent) (waiting : Option (List ℕ)) (history : List ProxyStep) (xs ys : List Exchange) : Type 0 where
  pub newer : List Exchange
  pub older : List Exchange
  pub are : ys ≡ newer ++ older
  pub begun : AllByRecursion (IsNew event waiting history) newer
  pub go_on : NewestGoesOn event waiting history xs older

-- The theorem. It all begins with nothing; and with each step, which is one as it may be, the client's connection does something more, each
-- request goes on, and then what holds behind all steps does. So nothing is ever put before its cause came: no request is given to a server before it is sent on, no
-- byte of a reply is put before it came, and no 502 before a refusal or a bad answer.
pub data IsForwarding (e : Edge) (setting : Setting) : List ProxyStep → Option (List ℕ) → List Step → List Exchange → Type 0 where
  at_first : IsForwarding e setting [] None [] []
  behind : (s : ProxyStep) (history : List ProxyStep) (before : Option (List ℕ)) (trace : List Step) (xs : List Exchange)
      (waiting : Option (List ℕ)) (did : List Step) (ys : List Exchange) → IsForwarding e setting history before trace xs
      → IsStep s before waiting did → AllGoOn s.event before (s ∷ history) xs ys → IsForwardedSoFar e setting (s ∷ history) waiting (did ++ trace) ys
      → IsForwarding e setting (s ∷ history) waiting (did ++ trace) ys
