-- An exchange, from a connection on which nothing is under way to one on which nothing is.
use Rattle.std.proofs.Common.{◌≡◌, ℕ, ◌+◌, ◌-◌, ◌^◌, ◌<◌, ◌≤◌, true, false, List, [], ◌∷◌, ◌++◌, length, take, drop, codes, map, reverse, Option, Some, None, refl, sym, ap, subst, arith, length-append, le-leb}
use Rattle.std.specs.Prelude.{zero, suc, cond, is_some, ◌==◌, nat_le, if◌then◌else◌, sum_by}
use Rattle.std.proofs.lemmas.Bool.{cond-true, cond-false, ne_eqb}
use Rattle.std.proofs.lemmas.List.{take_all, drop_all}
use Rattle.std.proofs.lemmas.List.Sums.{sum_by-append}
use Rattle.model_h1.specs.Place.{start, bytes_end}
use Rattle.model_h1.specs.Request.{fixed_body, keep_alive}
use Rattle.model_h1.specs.Answer.{size_of, size_stream, shape_none, shape_length, shape_chunked}
use Rattle.model_h1.specs.AnswerText.{chunk_text, last_chunk}
use Rattle.model_h1.specs.Event.{Event}
use Rattle.model_h1.specs.Event as on
use Rattle.model_h1.specs.Sums.{Step, head_of, step_taken, step_written}
use Rattle.model_h1.specs.Past.{head_count, step_bytes}
use Rattle.model_state.specs.Kept.{no_rest, fixed_rest, chunks_rest, unanswered, answered, Exchange, whole_rest, new_exchange}
use Rattle.model_state.specs.Pull.{Pulled, IsPull, IsPullOfChunks}
use Rattle.model_state.specs.StandsFor.{StandsFor}
use Rattle.h1_generated.specs.Generated.{setting, Kind, get, head, sized, chunked, letters, head_text, body_text, fine, exchange}
use Rattle.h1_generated.proofs.Added.{Adds, taken-append, written-append}
use Rattle.h1_generated.proofs.Chunks.{letters_taken, end_taken}
use Rattle.h1_generated.proofs.Heads.{said, body_of, is_reading, is_piece}
use Rattle.h1_generated.proofs.Sizes.{letters_len, head_short, body_short, empty_answer_short, length_answer_short, chunked_answer_short, chunk_short}
use Rattle.h1_generated.proofs.States.{step, state, plain_exchange, IsDone, another, idle, read, asked, pulled, answer_head, answered_at_once, answered_length, answered_chunks, sent, ended, flushed}

-- ---- pulls

-- all bytes of a stated length at once
fixed_pulled : (n : ℕ) → 0 < n
    → IsPull false (fixed_rest n) (letters n) (record { outcome = on.bytes (letters n); rest = no_rest; unread = []; is_done = false; failed = None })
fixed_pulled zero some = absurd (omega (arith, some))
fixed_pulled (suc m) some =
    let n = suc m in
    let len = letters_len n in
    let all : letters n ≡ take n (letters n) = sym (take_all n (letters n) (omega (arith, len))) in
    let none : [] ≡ drop n (letters n) = sym (drop_all n (letters n) (omega (arith, len))) in
    let rest : no_rest ≡ (if nat_le n (length (letters n)) then no_rest else fixed_rest (n - length (letters n))) =
    sym (cond-true (nat_le n (length (letters n))) no_rest (fixed_rest (n - length (letters n))) (le-leb n (length (letters n)) (omega (arith, len)))) in
    λ i. record { outcome = on.bytes (all i); rest = rest i; unread = none i; is_done = false; failed = None }

-- all bytes of the chunk, and then the end
chunk_pulled : (n : ℕ) → 0 < n → n < 2 ^ 64
    → IsPull false (chunks_rest start []) (body_text chunked n)
    (record { outcome = on.bytes (letters n); rest = chunks_rest bytes_end []; unread = codes "\r\n0\r\n\r\n"; is_done = false; failed = None })
unfolding body_text
chunk_pulled n some fits =
    let p : Pulled = record { outcome = on.bytes (letters n); rest = chunks_rest bytes_end []; unread = codes "\r\n0\r\n\r\n"; is_done = false; failed = None } in
    subst (λ t. IsPullOfChunks false start [] (body_text chunked n) t.next t.trailers p) (sym (letters_taken n some fits)) refl

end_pulled : IsPull false (chunks_rest bytes_end []) (codes "\r\n0\r\n\r\n")
    (record { outcome = on.body_ended; rest = no_rest; unread = []; is_done = true; failed = None })
end_pulled =
    let p : Pulled = record { outcome = on.body_ended; rest = no_rest; unread = []; is_done = true; failed = None } in
    subst (λ t. IsPullOfChunks false bytes_end [] (codes "\r\n0\r\n\r\n") t.next t.trailers p) (sym end_taken) refl

-- ---- the exchanges

-- These events lead from a trace to one behind which nothing is under way.
pub record Served (events : List Event) (before : List Step) : Type 0 where
  pub trace : List Step
  pub last : Option Exchange
  pub done : IsDone last
  pub stands : StandsFor setting (idle last (Some 0)) trace
  pub events_are : map (λ s. s.event) trace ≡ reverse events ++ map (λ s. s.event) before
  pub heads_are : head_count trace ≡ head_count before + 1
  pub adds : Adds trace before 1

module _ (k n : ℕ) (fits : k < 2 ^ 64) (some : 0 < n) (small : n ≤ 1000) (last : Option Exchange) (c : Option ℕ) (before : List Step) (done : IsDone last)
    (stands : StandsFor setting (idle last c) before) where
  fits_len : n < 2 ^ 64
  fits_len = omega (arith, small)

  abbrev text_of : Kind → List ℕ
  text_of kind = head_text kind k n ++ body_text kind n

  -- the steps up to the head
  abbrev opening : Kind → List Step
  opening kind = step on.next (on.head (said kind k n)) ∷ step (on.read (head_text kind k n ++ body_text kind n)) (on.took (length (head_text kind k n ++ body_text kind n))) ∷ before

  -- steps behind these hand out no other head
  counted : (kind : Kind) (more : List Step) → head_count more ≡ 0 → head_count (more ++ opening kind) ≡ head_count before + 1
  counted kind more none =
      let opens = step on.next (on.head (said kind k n)) ∷ step (on.read (text_of kind)) (on.took (length (text_of kind))) ∷ [] in
      omega (
        arith,
        none,
        sum_by-append (λ s. cond (is_some (head_of s.outcome)) 1 0) more (opening kind),
        sum_by-append (λ s. cond (is_some (head_of s.outcome)) 1 0) opens before,
      )

  -- nor do they read more, and what they pull and write is bounded
  added : (kind : Kind) (more : List Step) → sum_by (λ s. length (step_taken s.event s.outcome)) more ≡ 0
      → sum_by (λ s. step_bytes s.outcome) more ≤ 2000 → sum_by (λ s. length (step_written s.outcome)) more ≤ 2000 → Adds (more ++ opening kind) before 1
  added kind more none body_small written_small =
      let text = text_of kind in
      let front = head_text kind k n in
      let opens = step on.next (on.head (said kind k n)) ∷ step (on.read text) (on.took (length text)) ∷ [] in
      record {
        taken_adds = omega (
          arith,
          none,
          taken-append more (opening kind),
          taken-append opens before,
          ap length (take_all (length text) text (omega arith)),
          length-append front (body_text kind n),
          head_short kind k n fits fits_len,
          body_short kind n small,
        );
        body_adds = omega (
          arith,
          body_small,
          sum_by-append (λ s. step_bytes s.outcome) more (opening kind),
          sum_by-append (λ s. step_bytes s.outcome) opens before,
        );
        written_adds = omega (arith, written_small, written-append more (opening kind), written-append opens before);
      }

  opened : (kind : Kind) → StandsFor setting (state (Some (new_exchange (whole_rest (body_of kind n)) (said kind k n))) (body_text kind n) false [] c) (opening kind)
  opened kind =
      let front = head_text kind k n in
      let body = body_text kind n in
      let size = head_short kind k n fits fits_len in
      let piece = is_piece kind k n fits some fits_len body in
      let came = read last c (front ++ body) before done (omega (arith, length-append front body, size, body_short kind n small)) (0, length front, piece) stands in
      asked last c (said kind k n) front body (step (on.read (front ++ body)) (on.took (length (front ++ body))) ∷ before) done (omega (arith, size)) piece
      (is_reading kind k n fits some fits_len) came

  served_get : Served (exchange get k n) before
  unfolding exchange body_text
  served_get =
      let text = answer_head shape_none (size_of 0) in
      let more = step (on.write 65536) (on.gave text) ∷ step (on.answer fine (size_of 0)) on.done ∷ [] in
      record {
        trace = more ++ opening get;
        last = Some (plain_exchange false false no_rest (answered keep_alive) false false);
        done = another false false false false;
        stands = flushed false false false false text _ (omega (arith, empty_answer_short)) (answered_at_once false false false c (opening get) (opened get));
        events_are = refl;
        heads_are = counted get more refl;
        adds = added get more refl (omega arith) (omega (arith, empty_answer_short));
      }

  served_head : Served (exchange head k n) before
  unfolding exchange body_text
  served_head =
      let text = answer_head (shape_length n) (size_of n) in
      let headed = answered_length true false false false n c (opening head) some (opened head) in
      let more = step (on.write 65536) (on.gave (text ++ [])) ∷ step on.body_end on.done ∷ step (on.answer fine (size_of n)) on.done ∷ [] in
      record {
        trace = more ++ opening head;
        last = Some (plain_exchange true false no_rest (answered keep_alive) false false);
        done = another true false false false;
        stands = flushed true false false false (text ++ []) _ (omega (arith, length-append text [], length_answer_short n fits_len))
            (ended true false false false (shape_length n) n text c _ refl headed);
        events_are = refl;
        heads_are = counted head more refl;
        adds = added head more refl (omega arith) (omega (arith, length-append text [], length_answer_short n fits_len));
      }

  -- the steps of the body
  abbrev pulls : Kind → List Step
  pulls kind = step on.pull on.body_ended ∷ step on.pull (on.bytes (letters n)) ∷ opening kind

  served_sized : Served (exchange sized k n) before
  unfolding exchange body_text
  served_sized =
      let head = answer_head (shape_length n) (size_of n) in
      let piece = take n (letters n) in
      let text = head ++ piece ++ [] in
      let len = letters_len n in
      let taken : length piece ≤ 1000 = omega (arith, ap length (take_all n (letters n) (omega (arith, len))), len) in
      let size = length_answer_short n fits_len in
      let all = length-append head piece in
      let none : n - length (letters n) ≡ 0 = omega (arith, len) in
      let rest : whole_rest (fixed_body n) ≡ fixed_rest n = cond-false (n == 0) no_rest (fixed_rest n) (ne_eqb n 0 (omega (arith, some))) in
      let open' = subst (λ r. StandsFor setting (state (Some (plain_exchange false true r unanswered false false)) (letters n) false [] c) (opening sized)) rest (opened sized) in
      let one = pulled false false false (fixed_rest n) no_rest (letters n) [] (on.bytes (letters n)) c (opening sized) refl (fixed_pulled n some) open' in
      let two = pulled false true true no_rest no_rest [] [] on.body_ended c _ refl refl one in
      let headed = answered_length false true true true n c (pulls sized) some two in
      let sent' = sent false true true true (shape_length n) n (letters n) head c _ (omega (arith, size)) headed in
      let end = ended false true true true (shape_length n) (n - length (letters n)) (head ++ piece) c _ (rw none refl) sent' in
      let more = step (on.write 65536) (on.gave text) ∷ step on.body_end on.done ∷ step (on.chunk (letters n)) on.done ∷ step (on.answer fine (size_of n)) on.done
      ∷ step on.pull on.body_ended ∷ step on.pull (on.bytes (letters n)) ∷ [] in
      record {
        trace = more ++ opening sized;
        last = Some (plain_exchange false true no_rest (answered keep_alive) true true);
        done = another false true true true;
        stands = flushed false true true true text _ (omega (arith, size, all, taken, length-append (head ++ piece) [])) end;
        events_are = refl;
        heads_are = counted sized more refl;
        adds = added sized more refl (omega (arith, len)) (omega (arith, size, all, taken, length-append (head ++ piece) []));
      }

  served_chunked : Served (exchange chunked k n) before
  unfolding exchange
  served_chunked =
      let head = answer_head shape_chunked size_stream in
      let piece = chunk_text (letters n) in
      let text = head ++ piece ++ last_chunk in
      let size = chunked_answer_short in
      let one = pulled false false false (chunks_rest start []) (chunks_rest bytes_end []) (body_text chunked n) (codes "\r\n0\r\n\r\n") (on.bytes (letters n)) c
      (opening chunked) refl (chunk_pulled n some fits_len) (opened chunked) in
      let two = pulled false true true (chunks_rest bytes_end []) no_rest (codes "\r\n0\r\n\r\n") [] on.body_ended c _ refl end_pulled one in
      let headed = answered_chunks true true true c (pulls chunked) two in
      let sent' = sent false true true true shape_chunked 0 (letters n) head c _ (omega (arith, size)) headed in
      let end = ended false true true true shape_chunked (0 - length (letters n)) (head ++ piece) c _ refl sent' in
      let more = step (on.write 65536) (on.gave text) ∷ step on.body_end on.done ∷ step (on.chunk (letters n)) on.done ∷ step (on.answer fine size_stream) on.done
      ∷ step on.pull on.body_ended ∷ step on.pull (on.bytes (letters n)) ∷ [] in
      record {
        trace = more ++ opening chunked;
        last = Some (plain_exchange false true no_rest (answered keep_alive) true true);
        done = another false true true true;
        stands = flushed false true true true text _
            (omega (arith, size, chunk_short n small, length-append head piece, length-append (head ++ piece) last_chunk)) end;
        events_are = refl;
        heads_are = counted chunked more refl;
        adds = added chunked more refl (omega (arith, letters_len n))
            (omega (arith, size, chunk_short n small, length-append head piece, length-append (head ++ piece) last_chunk));
      }

-- each exchange is served
pub served : (kind : Kind) (k n : ℕ) → k < 2 ^ 64 → 0 < n → n ≤ 1000 → (last : Option Exchange) (c : Option ℕ) (before : List Step) → IsDone last
    → StandsFor setting (idle last c) before → Served (exchange kind k n) before
served get k n fits some small last c before done stands = served_get k n fits some small last c before done stands
served head k n fits some small last c before done stands = served_head k n fits some small last c before done stands
served sized k n fits some small last c before done stands = served_sized k n fits some small last c before done stands
served chunked k n fits some small last c before done stands = served_chunked k n fits some small last c before done stands
