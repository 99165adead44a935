-- What a connection keeps between the events of an exchange, and its steps.
use Rattle.std.proofs.Common.{◌≡◌, ℕ, ◌-◌, ◌<◌, ◌≤◌, Bool, true, false, List, [], ◌∷◌, ◌++◌, length, take, drop, min, slice_range, Option, Some, None, refl, sym, ◌∙◌, subst, inl, arith, lt-ltb}
use Rattle.std.specs.Prelude.{if◌then◌else◌}
use Rattle.std.proofs.Math.Seq.{take-append_seam}
use Rattle.std.proofs.lemmas.Bool.{ne_eqb}
use Rattle.std.proofs.lemmas.List.{take_all, drop_all, drop_at}
use Rattle.std.proofs.lemmas.Slice.{between_is}
use Rattle.model_h1.specs.HeadPiece.{IsHeadPiece}
use Rattle.model_h1.specs.Request.{Head, head_is, keep_alive}
use Rattle.model_h1.specs.RequestHead.{IsReading, IsReadingWithin}
use Rattle.model_h1.specs.Answer.{BodySize, size_of, size_stream, Shape, shape_none, shape_length, shape_chunked}
use Rattle.model_h1.specs.AnswerText.{head_text, end_text}
use Rattle.model_h1.specs.Event.{Event, Outcome}
use Rattle.model_h1.specs.Event as on
use Rattle.model_h1.specs.Sums.{Step}
use Rattle.model_h1.proofs.ExampleLemmas.{nothing_behind}
use Rattle.model_state.specs.Kept.{Rest, no_rest, Reply, unanswered, sending, answered, Exchange, Kept, Change, fresh, is_frames, is_free, whole_rest, new_exchange}
use Rattle.model_state.specs.Body.{passing}
use Rattle.model_state.specs.Local.{closing_by, allowed_by}
use Rattle.model_state.specs.Change.{IsChange, IsComing, noting_since}
use Rattle.model_state.specs.Pull.{IsPull}
use Rattle.model_state.specs.Reply.{piece_sent, short_end}
use Rattle.model_state.specs.StandsFor.{StandsFor}
use Rattle.model_state.proofs.Stands.{fresh_stands, step_state}
use Rattle.h1_generated.specs.Generated.{setting, fine}

-- ---- a step

abbrev pub step : Event → Outcome → Step
step event outcome = record { event = event; outcome = outcome }

-- an allowed event changes what is kept
pub stepped : (k : Kept) (trace : List Step) (event : Event) (c : Change) (coming : Bool) → StandsFor setting k trace
    → allowed_by setting k event ≡ true → IsChange setting k event c → IsComing (is_free c.kept) c.kept.unread coming
    → StandsFor setting (noting_since setting (record c.kept { is_coming = coming })) (step event c.outcome ∷ trace)
stepped k trace event c coming stands allowed changes comes =
    step_state setting k _ trace event c.outcome stands allowed
    (record { change = c; coming = coming; changes = changes; answers = refl; comes = comes; keeps = refl })

-- ---- states

-- between the first tick, which came at 0, and the next event
abbrev pub state : Option Exchange → List ℕ → Bool → List ℕ → Option ℕ → Kept
state exchange unread coming buffered completed =
    record {
      unread = unread;
      is_coming = coming;
      has_ended = false;
      is_draining = false;
      is_over = false;
      exchange = exchange;
      buffered = buffered;
      is_sending = false;
      clock = record { first = Some 0; last = Some 0; completed = completed };
      failed = None;
      closing_since = None;
    }

-- a request of HTTP/1.1 that asks for nothing: whether it is HEAD and has a body, what is left of that and of its answer,
-- and whether its body was asked for and has ended
abbrev pub plain_exchange : Bool → Bool → Rest → Reply → Bool → Bool → Exchange
plain_exchange is_head has_body rest reply was_pulled is_done =
    record {
      asked = record { minor = 1; is_head = is_head; is_raw = false; connection = keep_alive };
      has_body = has_body;
      expects = false;
      refusal = None;
      accept_key = [];
      rest = rest;
      reply = reply;
      was_pulled = was_pulled;
      was_dropped = false;
      had_continue = false;
      body_is_done = is_done;
    }

-- no request came, or the last one is done with
pub data IsDone : Option Exchange → Type 0 where
  first : IsDone None
  another : (is_head has_body was_pulled is_done : Bool) → IsDone (Some (plain_exchange is_head has_body no_rest (answered keep_alive) was_pulled is_done))

-- nothing is under way
abbrev pub idle : Option Exchange → Option ℕ → Kept
idle exchange completed = state exchange [] false [] completed

-- ---- the first tick

pub ticked : StandsFor setting (idle None None) (step (on.tick 0) on.done ∷ [])
unfolding closing_by allowed_by
ticked =
    stepped fresh [] (on.tick 0) (record { outcome = on.done; kept = idle None None }) false (fresh_stands setting) refl refl nothing_behind

-- ---- a request comes

-- all of it is taken
pub read : (e : Option Exchange) (c : Option ℕ) (text : List ℕ) (trace : List Step) → IsDone e → length text ≤ 131072
    → IsComing true text true
    → StandsFor setting (idle e c) trace → StandsFor setting (state e text true [] c) (step (on.read text) (on.took (length text)) ∷ trace)
unfolding closing_by allowed_by passing
read e c text trace done fits comes stands = by_last e done stands
  where
    count : length text ≡ min (length text) 131072
    count = omega (arith, fits)

    all : text ≡ take (min (length text) 131072) text
    all = sym (take_all (min (length text) 131072) text (omega (arith, fits)))

    changed : Option Exchange → Change
    changed e = record { outcome = on.took (length text); kept = state e text false [] c }

    by_last : (e : Option Exchange) → IsDone e → StandsFor setting (idle e c) trace
        → StandsFor setting (state e text true [] c) (step (on.read text) (on.took (length text)) ∷ trace)
    by_last None first stands =
        stepped (idle None c) trace (on.read text) (changed None) true stands refl
        (λ i. record { outcome = on.took (count i); kept = state None (all i) false [] c }) comes
    by_last (Some x) (another is_head has_body was_pulled is_done) stands =
        stepped (idle (Some x) c) trace (on.read text) (changed (Some x)) true stands refl
        (λ i. record { outcome = on.took (count i); kept = state (Some x) (all i) false [] c }) comes

-- its head is handed out, and its body stays
pub asked : (e : Option Exchange) (c : Option ℕ) (h : Head) (head body : List ℕ) (trace : List Step) → IsDone e → length head ≤ 131072
    → IsHeadPiece (head ++ body) 0 (length head) → IsReading head (head_is h)
    → StandsFor setting (state e (head ++ body) true [] c) trace
    → StandsFor setting (state (Some (new_exchange (whole_rest h.body) h)) body false [] c) (step on.next (on.head h) ∷ trace)
unfolding closing_by allowed_by
asked e c h head body trace done fits piece reads stands = by_last e done stands
  where
    behind : body ≡ drop (length head) (head ++ body)
    behind = sym (drop_at head body (length head) refl)

    changed : Change
    changed = record { outcome = on.head h; kept = state (Some (new_exchange (whole_rest h.body) h)) body true [] c }

    front : slice_range (head ++ body) 0 (length head) ≡ head
    front = between_is (head ++ body) 0 (length head) ∙ take-append_seam head body

    within : IsReadingWithin 131072 (slice_range (head ++ body) 0 (length head)) (head_is h)
    within = subst (λ (t : List ℕ). IsReadingWithin 131072 t (head_is h)) (sym front) (inl (fits, reads))

    by_last : (e : Option Exchange) → IsDone e → StandsFor setting (state e (head ++ body) true [] c) trace
        → StandsFor setting (state (Some (new_exchange (whole_rest h.body) h)) body false [] c) (step on.next (on.head h) ∷ trace)
    by_last None first stands =
        stepped (state None (head ++ body) true [] c) trace on.next changed false stands refl (
          0,
          length head,
          head_is h,
          piece,
          within,
          λ i. record { outcome = on.head h; kept = state (Some (new_exchange (whole_rest h.body) h)) (behind i) true [] c },
        ) refl
    by_last (Some x) (another is_head has_body was_pulled is_done) stands =
        stepped (state (Some x) (head ++ body) true [] c) trace on.next changed false stands refl (
          0,
          length head,
          head_is h,
          piece,
          within,
          λ i. record { outcome = on.head h; kept = state (Some (new_exchange (whole_rest h.body) h)) (behind i) true [] c },
        ) refl

-- ---- its body is pulled

pub pulled : (is_head was_pulled is_done : Bool) (rest next : Rest) (unread left : List ℕ) (given : Outcome) (c : Option ℕ) (trace : List Step)
    → is_frames rest ≡ false
    → IsPull false rest unread (record { outcome = given; rest = next; unread = left; is_done = is_done; failed = None })
    → StandsFor setting (state (Some (plain_exchange is_head true rest unanswered was_pulled false)) unread false [] c) trace
    → StandsFor setting (state (Some (plain_exchange is_head true next unanswered true is_done)) left false [] c) (step on.pull given ∷ trace)
unfolding closing_by allowed_by
pulled is_head was_pulled is_done rest next unread left given c trace plain pull stands =
    stepped (state (Some (plain_exchange is_head true rest unanswered was_pulled false)) unread false [] c) trace on.pull
    (record { outcome = given; kept = state (Some (plain_exchange is_head true next unanswered true is_done)) left false [] c }) false stands
    (rw plain refl) (record { outcome = given; rest = next; unread = left; is_done = is_done; failed = None }, pull, refl) refl

-- ---- it is answered

-- the head of the answer
abbrev pub answer_head : Shape → BodySize → List ℕ
answer_head shape size = head_text 1 fine shape size keep_alive 0

-- with no body
pub answered_at_once : (has_body was_pulled is_done : Bool) (c : Option ℕ) (trace : List Step)
    → StandsFor setting (state (Some (plain_exchange false has_body no_rest unanswered was_pulled is_done)) [] false [] c) trace
    → StandsFor setting (state (Some (plain_exchange false has_body no_rest (answered keep_alive) was_pulled is_done)) [] false (answer_head shape_none (size_of 0)) (Some 0))
    (step (on.answer fine (size_of 0)) on.done ∷ trace)
unfolding closing_by allowed_by passing
answered_at_once has_body was_pulled is_done c trace stands =
    stepped (state (Some (plain_exchange false has_body no_rest unanswered was_pulled is_done)) [] false [] c) trace (on.answer fine (size_of 0))
    (record {
      outcome = on.done;
      kept = state (Some (plain_exchange false has_body no_rest (answered keep_alive) was_pulled is_done)) [] false (answer_head shape_none (size_of 0)) (Some 0);
    }) false stands refl refl nothing_behind

-- with a body of a stated length
pub answered_length : (is_head has_body was_pulled is_done : Bool) (n : ℕ) (c : Option ℕ) (trace : List Step) → 0 < n
    → StandsFor setting (state (Some (plain_exchange is_head has_body no_rest unanswered was_pulled is_done)) [] false [] c) trace
    → StandsFor setting
    (state (Some (plain_exchange is_head has_body no_rest (sending (shape_length n) keep_alive n) was_pulled is_done)) [] false (answer_head (shape_length n) (size_of n)) c)
    (step (on.answer fine (size_of n)) on.done ∷ trace)
unfolding closing_by allowed_by
answered_length is_head has_body was_pulled is_done n c trace some stands =
    let other = ne_eqb n 0 (omega (arith, some)) in
    stepped (state (Some (plain_exchange is_head has_body no_rest unanswered was_pulled is_done)) [] false [] c) trace (on.answer fine (size_of n))
    (record {
      outcome = on.done;
      kept = state (Some (plain_exchange is_head has_body no_rest (sending (shape_length n) keep_alive n) was_pulled is_done)) [] false
          (answer_head (shape_length n) (size_of n)) c;
    }) false stands refl (rw other refl) refl

-- with one in chunks
pub answered_chunks : (has_body was_pulled is_done : Bool) (c : Option ℕ) (trace : List Step)
    → StandsFor setting (state (Some (plain_exchange false has_body no_rest unanswered was_pulled is_done)) [] false [] c) trace
    → StandsFor setting
    (state (Some (plain_exchange false has_body no_rest (sending shape_chunked keep_alive 0) was_pulled is_done)) [] false (answer_head shape_chunked size_stream) c)
    (step (on.answer fine size_stream) on.done ∷ trace)
unfolding closing_by allowed_by
answered_chunks has_body was_pulled is_done c trace stands =
    stepped (state (Some (plain_exchange false has_body no_rest unanswered was_pulled is_done)) [] false [] c) trace (on.answer fine size_stream)
    (record {
      outcome = on.done;
      kept = state (Some (plain_exchange false has_body no_rest (sending shape_chunked keep_alive 0) was_pulled is_done)) [] false (answer_head shape_chunked size_stream) c;
    }) false stands refl refl refl

-- a piece of its body
pub sent : (is_head has_body was_pulled is_done : Bool) (shape : Shape) (missing : ℕ) (bytes text : List ℕ) (c : Option ℕ) (trace : List Step)
    → length text < 32768
    → StandsFor setting (state (Some (plain_exchange is_head has_body no_rest (sending shape keep_alive missing) was_pulled is_done)) [] false text c) trace
    → StandsFor setting
    (state (Some (plain_exchange is_head has_body no_rest (sending shape keep_alive (missing - length bytes)) was_pulled is_done)) [] false
    (text ++ piece_sent (record { minor = 1; is_head = is_head; is_raw = false; connection = keep_alive }) shape missing bytes) c)
    (step (on.chunk bytes) on.done ∷ trace)
unfolding closing_by allowed_by
sent is_head has_body was_pulled is_done shape missing bytes text c trace room stands =
    stepped (state (Some (plain_exchange is_head has_body no_rest (sending shape keep_alive missing) was_pulled is_done)) [] false text c) trace (on.chunk bytes)
    (record {
      outcome = on.done;
      kept = state (Some (plain_exchange is_head has_body no_rest (sending shape keep_alive (missing - length bytes)) was_pulled is_done)) [] false
          (text ++ piece_sent (record { minor = 1; is_head = is_head; is_raw = false; connection = keep_alive }) shape missing bytes) c;
    }) false stands (lt-ltb (length text) 32768 room) refl refl

-- its end
pub ended : (is_head has_body was_pulled is_done : Bool) (shape : Shape) (missing : ℕ) (text : List ℕ) (c : Option ℕ) (trace : List Step)
    → short_end (record { minor = 1; is_head = is_head; is_raw = false; connection = keep_alive }) shape missing ≡ None
    → StandsFor setting (state (Some (plain_exchange is_head has_body no_rest (sending shape keep_alive missing) was_pulled is_done)) [] false text c) trace
    → StandsFor setting
    (state (Some (plain_exchange is_head has_body no_rest (answered keep_alive) was_pulled is_done)) [] false (text ++ (if is_head then [] else end_text shape)) (Some 0))
    (step on.body_end on.done ∷ trace)
unfolding closing_by allowed_by passing
ended is_head has_body was_pulled is_done shape missing text c trace whole stands =
    stepped (state (Some (plain_exchange is_head has_body no_rest (sending shape keep_alive missing) was_pulled is_done)) [] false text c) trace on.body_end
    (record {
      outcome = on.done;
      kept = state (Some (plain_exchange is_head has_body no_rest (answered keep_alive) was_pulled is_done)) [] false
          (text ++ (if is_head then [] else end_text shape)) (Some 0);
    }) false stands refl (rw whole refl) nothing_behind

-- ---- all of it is written

pub flushed : (is_head has_body was_pulled is_done : Bool) (text : List ℕ) (trace : List Step) → length text ≤ 65536
    → StandsFor setting (state (Some (plain_exchange is_head has_body no_rest (answered keep_alive) was_pulled is_done)) [] false text (Some 0)) trace
    → StandsFor setting (idle (Some (plain_exchange is_head has_body no_rest (answered keep_alive) was_pulled is_done)) (Some 0))
    (step (on.write 65536) (on.gave text) ∷ trace)
unfolding closing_by allowed_by
flushed is_head has_body was_pulled is_done text trace fits stands =
    let x = plain_exchange is_head has_body no_rest (answered keep_alive) was_pulled is_done in
    let all : text ≡ take 65536 text = sym (take_all 65536 text fits) in
    let none : [] ≡ drop 65536 text = sym (drop_all 65536 text fits) in
    stepped (state (Some x) [] false text (Some 0)) trace (on.write 65536)
    (record { outcome = on.gave text; kept = idle (Some x) (Some 0) }) false stands refl
    (λ i. record { outcome = on.gave (all i); kept = state (Some x) [] false (none i) (Some 0) }) nothing_behind
