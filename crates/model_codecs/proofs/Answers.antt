-- A client's codecs give what was answered.
use Rattle.std.proofs.Common.{◌≡◌, ℕ, suc, ◌<◌, ◌≤◌, Bool, true, false, List, [], ◌∷◌, ◌++◌, length, map, refl, sym, ap, ◌∙◌, subst, inl, arith, append-nil, append_assoc}
use Rattle.std.specs.Prelude.{Some, None, Ok, Err, if◌then◌else◌}
use Rattle.std.proofs.lemmas.List.{length-map}
use Rattle.httparse.specs.Grammar.{print_response, print_blank}
use Rattle.h1_decoder.specs.declared.response.ResponseItem.{ResponseItem}
use Rattle.model_h1.specs.HeadPiece.{IsHeadPiece, header_lines}
use Rattle.model_h1.specs.Request.{BodyKind, no_body}
use Rattle.model_h1.specs.RequestHead.{header_of}
use Rattle.model_h1.proofs.LineFeeds.{feeds, feeds-response}
use Rattle.model_h1.specs.Setting.{Setting}
use Rattle.model_h1.specs.Sums.{Step}
use Rattle.model_h1.specs.Text.{text}
use Rattle.model_ends.specs.PlainExchange.{IsPlainTrace}
use Rattle.model_client.specs.AnswerTable.{body_to}
use Rattle.model_client.specs.AnswerReading.{IsTextOf}
use Rattle.model_ends.specs.SentAnswer.{IsBodySent, SentAnswer, IsSent, AreSent, AreHeld, sent_text, answers_sent}
use Rattle.model_ends.proofs.HeadText.{response_is_piece}
use Rattle.model_ends.proofs.Traces.{trace_words, trace_sent}
use Rattle.h1_codec.specs.Heads.{HasSeen}
use Rattle.h1_codec.specs.Kinds.{answers}
use Rattle.h1_codec.specs.OneReading.{one_answer}
use Rattle.h1_codec.specs.FramedMessages.{Part, nothing, Standing}
use Rattle.h1_codec.specs.declared.framed_message.Message.TheVariants.{Item, Chunk}
use Rattle.model_codecs.specs.Acts.{Act, comes, asked, bytes_came, told, IsRun}
use Rattle.model_codecs.specs.Given.{kind_to, Sent, texts, part_of, AreWhole}
use Rattle.model_codecs.specs.Requests.{IsFresh}
use Rattle.model_codecs.specs.Answers.{is_head, Turn, heads_given, AreTurns, all_came, AreToTurns, answer_of, IsRead, AreRead, AreAllWhole}
use Rattle.model_codecs.proofs.Heads.{IsHeadSent}
use Rattle.model_codecs.proofs.Runs.{IsBodyFramed, between, Stands, AreGood, Gives, run_gives}
use Rattle.model_codecs.proofs.Runs as runs
use Rattle.model_codecs.proofs.Ends.{given_all}

-- ---- one answer

module _ (limit : ℕ) (s : SentAnswer) (sent : IsSent s) (held : length s.head ≤ limit) where
  text_is : s.head ≡ print_response sent.back.head
  text_is = sent.back.reads.1 ∙ append-nil (print_response sent.back.head)

  few_lines : header_lines s.head ≤ 96
  few_lines =
      let h = sent.back.head in
      omega (
        arith,
        ap header_lines text_is,
        feeds-response h sent.back.reads.0,
        ap (λ b. feeds (print_blank b)) sent.back.blank,
        ap length sent.back.lines_are,
        length-map h.fields header_of,
        sent.few,
      )

  is_answer : IsTextOf s.head s.answer
  is_answer = record {
    text = sent.back.head;
    reads = sent.back.reads;
    minor_is = sym sent.back.minor_is;
    status_is = (subst (λ (n : ℕ). 100 ≤ n) (sym sent.back.status_is) sent.status, sym sent.back.status_is);
    reason_is = sym sent.back.reason_is;
    fields = sent.back.fields;
    headers_are = sym sent.back.lines_are;
    body_is = sent.framed;
    connection_is = sent.connection;
  }

  head_sent : IsHeadSent answers limit (answer_of s)
  head_sent = record {
    piece = λ more. subst (λ (t : List ℕ). IsHeadPiece (t ++ more) 0 (length t)) (sym text_is)
        (response_is_piece sent.back.head more sent.back.reads.0 sent.back.blank);
    fits = held;
    reads = (few_lines, inl (sent.strict, is_answer));
  }

  same_kind : (b : Bool) (kind : BodyKind) → kind_to b kind ≡ (if b then no_body else kind)
  same_kind true kind = refl
  same_kind false kind = refl

  body_framed : (method : List ℕ) → s.method ≡ method → s.is_whole ≡ true → IsBodyFramed answers (is_head method) (answer_of s)
  body_framed method to whole =
      let here : IsBodySent true (body_to s.method s.answer.body) s.body s.bytes =
      subst (λ (b : Bool). IsBodySent b (body_to s.method s.answer.body) s.body s.bytes) whole sent.body in
      let there : IsBodySent true (body_to method s.answer.body) s.body s.bytes =
      subst (λ (m : List ℕ). IsBodySent true (body_to m s.answer.body) s.body s.bytes) to here in
      subst (λ (kind : BodyKind). IsBodySent true kind s.body s.bytes) (sym (same_kind (is_head method) s.answer.body)) there

same_texts : (ss : List SentAnswer) → texts answers (map answer_of ss) ≡ sent_text ss
same_texts [] = refl
same_texts (s ∷ ss) = ap (λ (l : List ℕ). s.head ++ (s.body ++ l)) (same_texts ss)

module _ (limit : ℕ) (some : 0 < limit) where
  abbrev Good : Bool → ℕ → List (Sent answers) → Type 0
  Good is_bare n ss = AreGood answers one_answer is_bare limit some n ss

  heads_good : (is_bare : Bool) (ss : List SentAnswer) → AreSent ss → AreHeld (Some limit) ss → Good is_bare 0 (map answer_of ss)
  heads_good is_bare [] sent held = tt
  heads_good is_bare (s ∷ ss) sent held = (head_sent limit s sent.0 held.0, heads_good is_bare ss sent.2 held.1)

  -- the first has the body that follows its head
  first_good : (method : List ℕ) (ss : List SentAnswer) → AreSent ss → AreAllWhole ss → AreHeld (Some limit) ss
      → ((s : SentAnswer) (others : List SentAnswer) → ss ≡ s ∷ others → s.method ≡ method) → Good (is_head method) 1 (map answer_of ss)
  first_good method [] sent whole held to = tt
  first_good method (s ∷ ss) sent whole held to =
      (head_sent limit s sent.0 held.0, body_framed limit s sent.0 held.0 method (to s ss refl) whole.0, heads_good (is_head method) ss sent.2 held.1)

  -- ---- how many heads are given

  counted : (acts : List (Act ResponseItem)) → length (told acts nothing).messages ≡ heads_given acts
  counted [] = refl
  counted (comes bytes ∷ acts) = counted acts
  counted (asked (Ok (Some (Item i))) ∷ acts) = ap suc (counted acts)
  counted (asked (Ok (Some (Chunk (Some b)))) ∷ acts) = counted acts
  counted (asked (Ok (Some (Chunk None))) ∷ acts) = counted acts
  counted (asked (Ok None) ∷ acts) = counted acts
  counted (asked (Err e) ∷ acts) = counted acts

  -- the same in the words of runs
  same_count : (is_bare : Bool) (acts : List (Act ResponseItem)) → runs.heads_given answers one_answer is_bare limit some acts ≡ heads_given acts
  same_count is_bare [] = refl
  same_count is_bare (comes bytes ∷ acts) = same_count is_bare acts
  same_count is_bare (asked (Ok (Some (Item i))) ∷ acts) = ap suc (same_count is_bare acts)
  same_count is_bare (asked (Ok (Some (Chunk piece))) ∷ acts) = same_count is_bare acts
  same_count is_bare (asked (Ok None) ∷ acts) = same_count is_bare acts
  same_count is_bare (asked (Err e) ∷ acts) = same_count is_bare acts

  -- one message that is whole is the first that was sent
  pub record IsFirst (is_bare : Bool) (ms : List (ResponseItem × Part)) (ss : List SentAnswer) (behind : List (Sent answers)) : Type 0 where
    pub first : SentAnswer
    pub others : List SentAnswer
    pub are : ss ≡ first ∷ others
    pub item : ResponseItem
    pub says : answers.says item first.answer
    pub messages : ms ≡ (item, part_of answers is_bare (answer_of first)) ∷ []
    pub behind_is : behind ≡ map answer_of others

  first_whole : (is_bare : Bool) (ms : List (ResponseItem × Part)) (ss : List SentAnswer) (front behind : List (Sent answers)) → length ms ≡ 1
      → map answer_of ss ≡ front ++ behind → AreWhole answers is_bare ms front → IsFirst is_bare ms ss behind
  first_whole is_bare [] ss front behind n are whole = absurd (omega (arith, n))
  first_whole is_bare (m ∷ second ∷ ms) ss front behind n are whole = absurd (omega (arith, n))
  first_whole is_bare (m ∷ []) ss [] behind n are whole = absurd whole
  first_whole is_bare (m ∷ []) ss (f ∷ second ∷ front) behind n are whole = absurd whole.2
  first_whole is_bare (m ∷ []) [] (f ∷ []) behind n are whole = absurd (cc are)
  first_whole is_bare (m ∷ []) (s ∷ ss) (f ∷ []) behind n are whole =
      let same : f ≡ answer_of s = cc in
      let left : behind ≡ map answer_of ss = cc in
      record {
        first = s;
        others = ss;
        are = refl;
        item = m.0;
        says = subst (λ (x : Sent answers). answers.says m.0 x.says) same whole.0;
        messages = ap (λ (p : Part). (m.0, p) ∷ []) (whole.1 ∙ ap (part_of answers is_bare) same);
        behind_is = left;
      }

  -- ---- all turns

  -- a run from there
  turn_gives : (t : Turn) (ss : List SentAnswer) (standing : Standing) (left more : List ℕ) → AreSent ss → AreAllWhole ss → AreHeld (Some limit) ss
      → ((s : SentAnswer) (others : List SentAnswer) → ss ≡ s ∷ others → s.method ≡ t.method) → heads_given t.acts ≤ 1
      → Stands answers one_answer (is_head t.method) limit some (between (map answer_of ss)) standing left (bytes_came t.acts ++ more)
      → IsRun answers (is_head t.method) standing left t.acts t.standing t.rest
      → Gives answers one_answer (is_head t.method) limit some (between (map answer_of ss)) t.acts more t.standing t.rest
  turn_gives t ss standing left more sent whole held to few stands run =
      run_gives answers one_answer (is_head t.method) limit some t.acts 1 (between (map answer_of ss)) standing left more t.standing t.rest
      (omega (arith, same_count (is_head t.method) t.acts, few)) (first_good t.method ss sent whole held to) stands run

  to_first : (ss : List SentAnswer) (t : Turn) (turns : List Turn) → AreToTurns ss (t ∷ turns) → (s : SentAnswer) (others : List SentAnswer) → ss ≡ s ∷ others
      → s.method ≡ t.method
  to_first [] t turns to s others is = absurd (cc is)
  to_first (x ∷ ss) t turns to s others is = let same : x ≡ s = cc in subst (λ (y : SentAnswer). y.method ≡ t.method) same to.0

  pub turns_read : (turns : List Turn) (ss : List SentAnswer) (standing : Standing) (left more : List ℕ) → AreSent ss → AreAllWhole ss → AreHeld (Some limit) ss
      → AreToTurns ss turns → standing.body ≡ None → standing.search.limit ≡ limit → ((b : List ℕ) → HasSeen standing.search (left ++ b))
      → left ++ (all_came turns ++ more) ≡ sent_text ss → AreTurns standing left turns → AreRead ss turns more
  turns_read [] ss standing left more sent whole held to none limit_is seen text run = tt
  turns_read (t ∷ []) ss standing left more sent whole held to none limit_is seen text run =
      let all : left ++ (bytes_came t.acts ++ more) ≡ texts answers (map answer_of ss) =
      ap (λ (l : List ℕ). left ++ (l ++ more)) (sym (append-nil (bytes_came t.acts))) ∙ text ∙ sym (same_texts ss) in
      given_all answers one_answer (is_head t.method) limit some (map answer_of ss) t.acts more t.standing t.rest
      (turn_gives t ss standing left more sent whole held (to_first ss t [] to) run.1 (none, limit_is, seen, all) run.0)
  turns_read (t ∷ next ∷ turns) ss standing left more sent whole held to none limit_is seen text (run, heads, ended, others) =
      let came = all_came (next ∷ turns) in
      let all : left ++ (bytes_came t.acts ++ (came ++ more)) ≡ texts answers (map answer_of ss) =
      ap (λ (l : List ℕ). left ++ l) (sym (append_assoc (bytes_came t.acts) came more)) ∙ text ∙ sym (same_texts ss) in
      let x = turn_gives t ss standing left (came ++ more) sent whole held (to_first ss t (next ∷ turns) to) (omega (arith, heads)) (none, limit_is, seen, all) run in
      let y = x.idle ended in
      let first = first_whole (is_head t.method) (told t.acts nothing).messages ss y.1.0 y.0 (counted t.acts ∙ heads) y.1.1 y.1.2 in
      let behind : t.rest ++ (came ++ more) ≡ sent_text first.others =
      y.2 ∙ ap (texts answers) first.behind_is ∙ same_texts first.others in
      let sent' = subst AreSent first.are sent in
      let whole' = subst AreAllWhole first.are whole in
      let held' = subst (AreHeld (Some limit)) first.are held in
      let to' = subst (λ (l : List SentAnswer). AreToTurns l (t ∷ next ∷ turns)) first.are to in
      let read : IsRead first.first t = record {
        item = first.item;
        says = first.says;
        are = λ i. record { part = x.gives.0 i; messages = first.messages i; stop = x.gives.1 i };
        no_fault = x.fine;
      } in
      subst (λ (l : List SentAnswer). AreRead l (t ∷ next ∷ turns) more) (sym first.are)
      (read, turns_read (next ∷ turns) first.others t.standing t.rest more sent'.2 whole'.1 held'.1 to'.1 ended y.4 y.3 behind others)

pub answers_given : (limit : ℕ) (standing : Standing) (turns : List Turn) (ss : List SentAnswer) (more : List ℕ) → 0 < limit → IsFresh standing limit
    → AreSent ss → AreAllWhole ss → AreHeld (Some limit) ss → AreToTurns ss turns → AreTurns standing [] turns → all_came turns ++ more ≡ sent_text ss
    → AreRead ss turns more
answers_given limit standing turns ss more some fresh sent whole held to run text =
    turns_read limit some turns ss standing [] more sent whole held to fresh.body fresh.limit_is fresh.seen text run

-- of all that a connection sent
pub connection_given : (limit : ℕ) (standing : Standing) (setting : Setting) (trace : List Step) (turns : List Turn) (more : List ℕ) → 0 < limit
    → IsFresh standing limit → IsPlainTrace setting trace → AreAllWhole (answers_sent setting trace) → AreHeld (Some limit) (answers_sent setting trace)
    → AreToTurns (answers_sent setting trace) turns → AreTurns standing [] turns → all_came turns ++ more ≡ text setting trace
    → AreRead (answers_sent setting trace) turns more
connection_given limit standing setting trace turns more some fresh plain whole held to run came =
    answers_given limit standing turns (answers_sent setting trace) more some fresh (trace_sent setting trace plain) whole held to run
    (came ∙ trace_words setting trace plain)
