-- The steps of a message that is sent.
use Rattle.std.proofs.Common.{◌≡◌, ◌≤◌, ◌<◌, ℕ, Bool, true, false, List, [], ◌∷◌, ◌++◌, length, refl, sym, ap, ◌∙◌, subst, inl, inr, append-nil, length-append, arith}
use Rattle.std.proofs.Math.Nat.{lt_of_not-le}
use Rattle.std.specs.Prelude.{Option, Some, None, Result, Ok, Err}
use Rattle.futures.specs.declared.task.Poll.{Poll}
use Rattle.futures.specs.declared.task.Poll.TheVariants.{Ready, Pending}
use Rattle.http_bodies.specs.Giving.{Given, chunk, fault, Giving, Piece, gave, FaultsBy, PieceSays}
use Rattle.http_bodies.specs.Told.{Grows, Tells, led_by, Waits}
use Rattle.http_bodies.proofs.Histories.{grown-none, led_by-none}
use Rattle.http_bodies.specs.declared.body.fault.BodyFault.TheVariants as faults
use Rattle.http_config.specs.Causes.{Rose}
use Rattle.http_config.specs.declared.failed.Failed.{Failed}
use Rattle.http_framing.specs.declared.body.size.BodySize.{BodySize}
use Rattle.http_transport.specs.Wiring.{Wiring}
use Rattle.http_transport.specs.Flushes.{Gave, Flushes, OnlyWrote}
use Rattle.http_transport.proofs.SendOn.{wrote-refl}
use Rattle.h1_codec.specs.declared.framed_message.Message.{Message}
use Rattle.h1_codec.specs.declared.framed_message.Message.TheVariants.{Item, Chunk}
use Rattle.h1_codec.specs.View.{View}
use Rattle.h1_codec.specs.Sends.{AreWritten, heads, pieces, ends, EndsSo, Later, FoundRoom, Sends}
use Rattle.h1_codec.specs.Turns.{TransportWaits, GivenFew, SendsFew, Moves}
use Rattle.h1_codec.proofs.Whole.{stays_ended, no_end, still_none, one_written}

-- the count of a body's faults never falls, nor does that of its Pending answers
faults_rise : (old new : ℕ) (answer : Piece) → FaultsBy old new answer → old ≤ new
faults_rise old new (Ready (Some (Ok piece))) x = x
faults_rise old new (Ready (Some (Err (faults.Body n)))) x = x.0
faults_rise old new (Ready (Some (Err faults.NoMemory))) x = x
faults_rise old new (Ready None) x = x
faults_rise old new Pending x = x

waits_rise : {A : Type 0} (old new : ℕ) (answer : Poll A) → Waits old new answer → old ≤ new
waits_rise old new (Ready x) is = omega (arith, is)
waits_rise old new Pending is = is.0

-- no end was written
no_more : (x y : Bool) → x ≡ false → y ≡ false → length (ends {A = Unit} x y) ≡ 0
no_more false false a b = refl
no_more false true a b = cc b
no_more true y a b = cc a

module _ {U H : Type 0} (writes : U → Message (H × BodySize) → List ℕ → U → Type 0) (v w : View U H) where
  later_by : w.transport ≡ v.transport → (answer : Piece) → PieceSays v.body w.body answer → Later v w
  later_by transport answer says = record {
    transport_faults = subst (λ (x : Wiring). v.transport.faults ≤ x.faults) (sym transport) (omega arith);
    write_waits = subst (λ (x : Wiring). v.transport.write_waits ≤ x.write_waits) (sym transport) (omega arith);
    flush_waits = subst (λ (x : Wiring). v.transport.flush_waits ≤ x.flush_waits) (sym transport) (omega arith);
    body_faults = faults_rise v.body.faults w.body.faults answer says.faults;
    body_waits = waits_rise v.body.waits w.body.waits answer says.waits;
    takes_memory = says.takes_memory;
  }

  same_transport : w.transport ≡ v.transport → OnlyWrote v.transport w.transport
  same_transport transport = subst (λ (x : Wiring). OnlyWrote v.transport x) (sym transport) (wrote-refl v.transport)

  sent_none : w.transport ≡ v.transport → Grows v.transport.sent w.transport.sent []
  sent_none transport = subst (λ (x : Wiring). Grows v.transport.sent x.sent []) (sym transport) (grown-none v.transport.sent)

  -- the head is written
  pub head_sent : (head : H × BodySize) (text : List ℕ) → v.head ≡ Some head → w.head ≡ None → w.transport ≡ v.transport → w.unread ≡ v.unread
      → w.unsent ≡ v.unsent ++ text → writes v.codec (Item head) text w.codec → w.body ≡ v.body → w.is_ended ≡ v.is_ended → Sends writes v w
  head_sent head text is begun transport unread unsent wrote body ended = record {
    given = [];
    text = text;
    gave = [];
    written = subst (λ (l : List (Message (H × BodySize))). AreWritten writes v.codec l text w.codec)
        (sym (ap (λ (h : Option (H × BodySize)). heads h ++ ends v.is_ended w.is_ended) is
        ∙ ap (λ (b : Bool). Item head ∷ ends v.is_ended b) ended ∙ ap (λ l. Item head ∷ l) (no_end v.is_ended)))
        (one_written writes v.codec w.codec (Item head) text wrote);
    buffered = sym unsent;
    room = inl (ap (λ (b : Bool). ends v.is_ended b) ended ∙ no_end v.is_ended);
    sent = sent_none transport;
    coming = ap (λ (b : Giving). b.coming) (sym body) ∙ sym (led_by-none w.body.coming);
    begun = begun;
    ended = subst (λ (b : Bool). EndsSo v.is_ended b [] w.body.coming) (sym ended) (stays_ended v.is_ended w.body.coming);
    unread = unread;
    others = same_transport transport;
    later = record {
      transport_faults = subst (λ (x : Wiring). v.transport.faults ≤ x.faults) (sym transport) (omega arith);
      write_waits = subst (λ (x : Wiring). v.transport.write_waits ≤ x.write_waits) (sym transport) (omega arith);
      flush_waits = subst (λ (x : Wiring). v.transport.flush_waits ≤ x.flush_waits) (sym transport) (omega arith);
      body_faults = subst (λ (x : Giving). v.body.faults ≤ x.faults) (sym body) (omega arith);
      body_waits = subst (λ (x : Giving). v.body.waits ≤ x.waits) (sym body) (omega arith);
      takes_memory = ap (λ (x : Giving). x.takes_memory) body;
    };
  }

  -- by no answer of the body
  pub head_few : (head : H × BodySize) (text : List ℕ) → v.head ≡ Some head → w.head ≡ None → w.transport ≡ v.transport → w.unread ≡ v.unread
      → w.unsent ≡ v.unsent ++ text → writes v.codec (Item head) text w.codec → w.body ≡ v.body → w.is_ended ≡ v.is_ended → SendsFew writes 0 v w
  unfolding head_sent
  head_few head text is begun transport unread unsent wrote body ended =
      (head_sent head text is begun transport unread unsent wrote body ended, omega (arith, still_none v.is_ended w.is_ended ended))

  -- an answer of the body after which nothing is written: none of its chunks has bytes
  pub nothing_sent : (answer : Piece) → PieceSays v.body w.body answer → pieces {A = H × BodySize} (gave answer) ≡ [] → v.head ≡ None → w.head ≡ None
      → v.is_ended ≡ false → w.is_ended ≡ false → w.transport ≡ v.transport → w.codec ≡ v.codec → w.unread ≡ v.unread → w.unsent ≡ v.unsent → Sends writes v w
  nothing_sent answer says none is begun unended still transport codec unread unsent = record {
    given = gave answer;
    text = [];
    gave = [];
    written = subst (λ (l : List (Message (H × BodySize))). AreWritten writes v.codec l [] w.codec)
        (sym (ap (λ (h : Option (H × BodySize)). heads h ++ (pieces (gave answer) ++ ends v.is_ended w.is_ended)) is
        ∙ ap (λ (l : List (Message (H × BodySize))). l ++ ends v.is_ended w.is_ended) none
        ∙ ap (λ (b : Bool). ends b w.is_ended) unended ∙ ap (λ (b : Bool). ends false b) still)) (refl, codec);
    buffered = append-nil v.unsent ∙ sym unsent;
    room = inl (ap (λ (l : List (Message (H × BodySize))). l ++ ends v.is_ended w.is_ended) none
        ∙ ap (λ (b : Bool). ends b w.is_ended) unended ∙ ap (λ (b : Bool). ends false b) still);
    sent = sent_none transport;
    coming = says.gives;
    begun = begun;
    ended = subst (λ (b : Bool). EndsSo b w.is_ended (gave answer) w.body.coming) (sym unended)
        (subst (λ (b : Bool). EndsSo false b (gave answer) w.body.coming) (sym still) tt);
    unread = unread;
    others = same_transport transport;
    later = later_by transport answer says;
  }

  -- one item alone, where there is room
  one_in_room : (item : Message (H × BodySize)) (text : List ℕ) → length v.unsent < 8192 → w.unsent ≡ v.unsent ++ text → writes v.codec item text w.codec
      → FoundRoom writes v.codec (item ∷ []) text w.codec w.unsent
  one_in_room item text few unsent wrote = record {
    front = [];
    last = item;
    are = refl;
    before = [];
    own = text;
    mid = v.codec;
    text_is = refl;
    front_written = (refl, refl);
    written = wrote;
    room = omega (arith, few, ap length unsent, length-append v.unsent text);
  }

  -- a chunk that has bytes is written
  pub chunk_sent : length v.unsent < 8192 → (bytes text : List ℕ) → ¬ (bytes ≡ []) → PieceSays v.body w.body (Ready (Some (Ok bytes))) → v.head ≡ None → w.head ≡ None
      → v.is_ended ≡ false → w.is_ended ≡ false → w.transport ≡ v.transport → writes v.codec (Chunk (Some bytes)) text w.codec → w.unread ≡ v.unread
      → w.unsent ≡ v.unsent ++ text → Sends writes v w
  chunk_sent few [] text some says is begun unended still transport wrote unread unsent = absurd (some refl)
  chunk_sent few (b ∷ bytes) text some says is begun unended still transport wrote unread unsent = record {
    given = chunk (b ∷ bytes) ∷ [];
    text = text;
    gave = [];
    written = subst (λ (l : List (Message (H × BodySize))). AreWritten writes v.codec l text w.codec)
        (sym (ap (λ (h : Option (H × BodySize)). heads h ++ (Chunk (Some (b ∷ bytes)) ∷ ends v.is_ended w.is_ended)) is
        ∙ ap (λ (x : Bool). Chunk (Some (b ∷ bytes)) ∷ ends x w.is_ended) unended ∙ ap (λ (x : Bool). Chunk (Some (b ∷ bytes)) ∷ ends false x) still))
        (one_written writes v.codec w.codec (Chunk (Some (b ∷ bytes))) text wrote);
    buffered = sym unsent;
    room = inr (subst (λ (l : List (Message (H × BodySize))). FoundRoom writes v.codec l text w.codec w.unsent)
        (sym (ap (λ (h : Option (H × BodySize)). heads h ++ (Chunk (Some (b ∷ bytes)) ∷ ends v.is_ended w.is_ended)) is
        ∙ ap (λ (x : Bool). Chunk (Some (b ∷ bytes)) ∷ ends x w.is_ended) unended ∙ ap (λ (x : Bool). Chunk (Some (b ∷ bytes)) ∷ ends false x) still))
        (one_in_room (Chunk (Some (b ∷ bytes))) text few unsent wrote));
    sent = sent_none transport;
    coming = says.gives;
    begun = begun;
    ended = subst (λ (x : Bool). EndsSo x w.is_ended (chunk (b ∷ bytes) ∷ []) w.body.coming) (sym unended)
        (subst (λ (x : Bool). EndsSo false x (chunk (b ∷ bytes) ∷ []) w.body.coming) (sym still) tt);
    unread = unread;
    others = same_transport transport;
    later = later_by transport (Ready (Some (Ok (b ∷ bytes)))) says;
  }

  -- by this one answer, or by none
  pub nothing_few : (answer : Piece) → PieceSays v.body w.body answer → pieces {A = H × BodySize} (gave answer) ≡ [] → v.head ≡ None → w.head ≡ None
      → v.is_ended ≡ false → w.is_ended ≡ false → w.transport ≡ v.transport → w.codec ≡ v.codec → w.unread ≡ v.unread → w.unsent ≡ v.unsent
      → SendsFew writes (length (gave answer)) v w
  unfolding nothing_sent
  nothing_few answer says none is begun unended still transport codec unread unsent =
      (nothing_sent answer says none is begun unended still transport codec unread unsent, omega (arith, no_more v.is_ended w.is_ended unended still))

  -- the body failed
  pub fault_sent : (n : ℕ) → PieceSays v.body w.body (Ready (Some (Err (faults.Body n)))) → v.head ≡ None → w.head ≡ None
      → v.is_ended ≡ false → w.is_ended ≡ false → w.transport ≡ v.transport → w.codec ≡ v.codec → w.unread ≡ v.unread → w.unsent ≡ v.unsent
      → (sends : Sends writes v w) × (front : List Given) × (sends.given ≡ front ++ (fault n ∷ [])) × Rose v.body.faults w.body.faults
      × GivenFew 1 v w sends.given
  unfolding nothing_sent
  fault_sent n says is begun unended still transport codec unread unsent = (
    nothing_sent (Ready (Some (Err (faults.Body n)))) says refl is begun unended still transport codec unread unsent,
    [],
    refl,
    says.faults.1,
    omega (arith, no_more v.is_ended w.is_ended unended still),
  )

  -- an empty chunk
  pub empty_moves : (bytes : List ℕ) → bytes ≡ [] → PieceSays v.body w.body (Ready (Some (Ok bytes))) → v.head ≡ None → w.head ≡ None
      → v.is_ended ≡ false → w.is_ended ≡ false → w.transport ≡ v.transport → w.codec ≡ v.codec → w.unread ≡ v.unread → w.unsent ≡ v.unsent → Moves writes v w
  unfolding nothing_sent
  empty_moves [] none says is begun unended still transport codec unread unsent = (
    nothing_sent (Ready (Some (Ok []))) says refl is begun unended still transport codec unread unsent,
    omega arith,
    omega (arith, no_more v.is_ended w.is_ended unended still),
  )
  empty_moves (b ∷ bytes) none says is begun unended still transport codec unread unsent = cc none

  -- a chunk that has bytes
  pub chunk_moves : length v.unsent < 8192 → (bytes text : List ℕ) → ¬ (bytes ≡ []) → PieceSays v.body w.body (Ready (Some (Ok bytes))) → v.head ≡ None → w.head ≡ None
      → v.is_ended ≡ false → w.is_ended ≡ false → w.transport ≡ v.transport → writes v.codec (Chunk (Some bytes)) text w.codec → w.unread ≡ v.unread
      → w.unsent ≡ v.unsent ++ text → Moves writes v w
  unfolding chunk_sent
  chunk_moves few [] text some says is begun unended still transport wrote unread unsent = absurd (some refl)
  chunk_moves few (b ∷ bytes) text some says is begun unended still transport wrote unread unsent = (
    chunk_sent few (b ∷ bytes) text some says is begun unended still transport wrote unread unsent,
    omega arith,
    omega (arith, no_more v.is_ended w.is_ended unended still),
  )

  told_after : (old new : Option (List Given)) → old ≡ led_by [] new → Tells old [] → Tells new []
  told_after old None leads tells = tt
  told_after old (Some known) leads tells = subst (λ o. Tells o []) leads tells

  -- the end is written
  pub end_sent : length v.unsent < 8192 → (text : List ℕ) → PieceSays v.body w.body (Ready None) → v.head ≡ None → w.head ≡ None
      → v.is_ended ≡ false → w.is_ended ≡ true → w.transport ≡ v.transport → writes v.codec (Chunk None) text w.codec → w.unread ≡ v.unread
      → w.unsent ≡ v.unsent ++ text → Sends writes v w
  end_sent few text says is begun unended over transport wrote unread unsent = record {
    given = [];
    text = text;
    gave = [];
    written = subst (λ (l : List (Message (H × BodySize))). AreWritten writes v.codec l text w.codec)
        (sym (ap (λ (h : Option (H × BodySize)). heads h ++ ends v.is_ended w.is_ended) is
        ∙ ap (λ (x : Bool). ends x w.is_ended) unended ∙ ap (λ (x : Bool). ends false x) over))
        (one_written writes v.codec w.codec (Chunk None) text wrote);
    buffered = sym unsent;
    room = inr (subst (λ (l : List (Message (H × BodySize))). FoundRoom writes v.codec l text w.codec w.unsent)
        (sym (ap (λ (h : Option (H × BodySize)). heads h ++ ends v.is_ended w.is_ended) is
        ∙ ap (λ (x : Bool). ends x w.is_ended) unended ∙ ap (λ (x : Bool). ends false x) over))
        (one_in_room (Chunk None) text few unsent wrote));
    sent = sent_none transport;
    coming = says.gives;
    begun = begun;
    ended = subst (λ (x : Bool). EndsSo x w.is_ended [] w.body.coming) (sym unended)
        (subst (λ (x : Bool). EndsSo false x [] w.body.coming) (sym over) (told_after v.body.coming w.body.coming says.gives says.ends));
    unread = unread;
    others = same_transport transport;
    later = later_by transport (Ready None) says;
  }

  one_end : (x y : Bool) → x ≡ false → y ≡ true → length (ends {A = Unit} x y) ≡ 1
  one_end false true a b = refl
  one_end false false a b = cc b
  one_end true y a b = cc a

  pub end_moves : length v.unsent < 8192 → (text : List ℕ) → PieceSays v.body w.body (Ready None) → v.head ≡ None → w.head ≡ None
      → v.is_ended ≡ false → w.is_ended ≡ true → w.transport ≡ v.transport → writes v.codec (Chunk None) text w.codec → w.unread ≡ v.unread
      → w.unsent ≡ v.unsent ++ text → Moves writes v w
  unfolding end_sent
  end_moves few text says is begun unended over transport wrote unread unsent = (
    end_sent few text says is begun unended over transport wrote unread unsent,
    omega (arith, one_end v.is_ended w.is_ended unended over),
    omega (arith, one_end v.is_ended w.is_ended unended over),
  )

  -- the transport takes some of what is buffered
  pub flush_sent : {E : Type 0} (woken : Bool) (took : List ℕ) (answer : Poll (Result Unit E)) → Gave v.transport w.transport woken v.unsent took w.unsent answer
      → v.head ≡ None → w.head ≡ v.head → w.is_ended ≡ v.is_ended → w.codec ≡ v.codec → w.unread ≡ v.unread → w.body ≡ v.body → Sends writes v w
  flush_sent woken took answer says is begun ended codec unread body = record {
    given = [];
    text = [];
    gave = took;
    written = subst (λ (l : List (Message (H × BodySize))). AreWritten writes v.codec l [] w.codec)
        (sym (ap (λ (h : Option (H × BodySize)). heads h ++ ends v.is_ended w.is_ended) is
        ∙ ap (λ (x : Bool). ends v.is_ended x) ended ∙ no_end v.is_ended)) (refl, codec);
    buffered = append-nil v.unsent ∙ says.front;
    room = inl (ap (λ (x : Bool). ends v.is_ended x) ended ∙ no_end v.is_ended);
    sent = says.sent;
    coming = ap (λ (b : Giving). b.coming) (sym body) ∙ sym (led_by-none w.body.coming);
    begun = begun ∙ is;
    ended = subst (λ (b : Bool). EndsSo v.is_ended b [] w.body.coming) (sym ended) (stays_ended v.is_ended w.body.coming);
    unread = unread;
    others = says.others;
    later = record {
      transport_faults = says.faults;
      write_waits = says.writes;
      flush_waits = says.flushes;
      body_faults = subst (λ (x : Giving). v.body.faults ≤ x.faults) (sym body) (omega arith);
      body_waits = subst (λ (x : Giving). v.body.waits ≤ x.waits) (sym body) (omega arith);
      takes_memory = ap (λ (x : Giving). x.takes_memory) body;
    };
  }

pub fewer : {k m n : ℕ} → ¬ (k ≤ m) → k ≤ n → m < n
fewer not le = let less = lt_of_not-le not in omega (arith, less, le)

took_some : (before took after : List ℕ) → before ≡ took ++ after → length after < length before → 1 ≤ length took
took_some before took after is less = omega (arith, ap length is, length-append took after, less)

module _ {U H : Type 0} (writes : U → Message (H × BodySize) → List ℕ → U → Type 0) (v w : View U H) (woken : Bool) where
  pub flush_waits : Flushes {E = Failed} v.transport w.transport woken v.unsent w.unsent Pending → v.head ≡ None → w.head ≡ v.head → w.is_ended ≡ v.is_ended
      → w.codec ≡ v.codec → w.unread ≡ v.unread → w.body ≡ v.body → (sends : Sends writes v w) × TransportWaits v.transport w.transport sends.gave woken × GivenFew 0 v w sends.given
  unfolding flush_sent
  flush_waits (took, says) is begun ended codec unread body =
      (flush_sent writes v w woken took Pending says is begun ended codec unread body, says.answers, omega (arith, still_none v.is_ended w.is_ended ended))

  -- it took some
  pub flush_moves : (answer : Poll (Result Unit Failed)) → Flushes v.transport w.transport woken v.unsent w.unsent answer → length w.unsent < length v.unsent
      → v.head ≡ None → w.head ≡ v.head → w.is_ended ≡ v.is_ended → w.codec ≡ v.codec → w.unread ≡ v.unread → w.body ≡ v.body → Moves writes v w
  unfolding flush_sent
  flush_moves answer (took, says) less is begun ended codec unread body = (
    flush_sent writes v w woken took answer says is begun ended codec unread body,
    omega (arith, took_some v.unsent took w.unsent says.front less),
    omega (arith, still_none v.is_ended w.is_ended ended),
  )

  -- all of it, where there was some
  pub flush_relieves : (x : Unit) → Flushes {E = Failed} v.transport w.transport woken v.unsent w.unsent (Ready (Ok x)) → 1 ≤ length v.unsent
      → v.head ≡ None → w.head ≡ v.head → w.is_ended ≡ v.is_ended → w.codec ≡ v.codec → w.unread ≡ v.unread → w.body ≡ v.body → Moves writes v w
  flush_relieves x says some is begun ended codec unread body =
      flush_moves (Ready (Ok x)) says (omega (arith, some, ap length says.1.answers)) is begun ended codec unread body

  pub flush_done : (x : Unit) → Flushes {E = Failed} v.transport w.transport woken v.unsent w.unsent (Ready (Ok x)) → v.head ≡ None → w.head ≡ v.head → w.is_ended ≡ v.is_ended
      → w.codec ≡ v.codec → w.unread ≡ v.unread → w.body ≡ v.body → (sends : Sends writes v w) × (w.unsent ≡ []) × GivenFew 0 v w sends.given
  unfolding flush_sent
  flush_done x (took, says) is begun ended codec unread body =
      (flush_sent writes v w woken took (Ready (Ok x)) says is begun ended codec unread body, says.answers, omega (arith, still_none v.is_ended w.is_ended ended))

  pub flush_failed : (most : ℕ) (e : Failed) → Flushes v.transport w.transport woken v.unsent w.unsent (Ready (Err e)) → v.head ≡ None → w.head ≡ v.head → w.is_ended ≡ v.is_ended
      → w.codec ≡ v.codec → w.unread ≡ v.unread → w.body ≡ v.body → SendsFew writes most v w × Rose v.transport.faults w.transport.faults
  unfolding flush_sent
  flush_failed most e (took, says) is begun ended codec unread body =
      ((flush_sent writes v w woken took (Ready (Err e)) says is begun ended codec unread body, omega (arith, still_none v.is_ended w.is_ended ended)), says.answers)
