-- Texts and pieces that are put behind what waits.
use Rattle.std.proofs.Common.{◌≡◌, ℕ, ◌+◌, ◌<◌, true, false, List, [], ◌∷◌, ◌++◌, length, take, nat_lt, Result, Ok, Err, refl, sym, ap, ◌∙◌, append_assoc, append-nil, length-append, arith}
use Rattle.std.specs.Prelude.{OnOk, OnErr}
use Rattle.std.specs.Fmt.{digits}
use Rattle.std.proofs.lemmas.List.{append_cancel_left}
use Rattle.std.proofs.lemmas.Bool.Decides.{nat_tests}
use Rattle.httparse.specs.Ascii.{crlf_bytes}
use Rattle.model_h1.specs.Answer.{Asked, Shape, shape_none, shape_length, shape_chunked, shape_raw}
use Rattle.model_h1.specs.AnswerText.{chunk_text}
use Rattle.model_h1.specs.Parse.{run_between}
use Rattle.model_state.specs.Reply.{piece_sent}
use Rattle.model_state.specs.Marks.{framing_len}
use Rattle.h1_output.specs.Queued.{Queued, with_text, with_piece}
use Rattle.h1_encoder.proofs.Pieces.{not_empty}
use Rattle.h1_connection.specs.Sent.{with_sent, with_chunk}

pub no_bytes : (l : List ℕ) → length l ≡ 0 → l ≡ []
no_bytes [] none = refl
no_bytes (b ∷ l) none = absurd (omega arith)

-- ---- a text that a call puts behind what a buffer holds

-- such a call adds some text, and none where it fails
pub appends : {A E : Type 0} (r : Result A E) (old new text : List ℕ) → OnOk r (new ≡ old ++ text) → OnErr r (new ≡ old)
    → (more : List ℕ) × (new ≡ old ++ more) × OnErr r (more ≡ [])
appends (Ok a) old new text ok err = (text, ok, tt)
appends (Err e) old new text ok err = ([], err ∙ sym (append-nil old), refl)

-- so the text that was put is the one that it says
pub text_put : {A E : Type 0} (r : Result A E) (q now : Queued) (text more old new : List ℕ) → now ≡ with_text more q → new ≡ old ++ more → OnOk r (new ≡ old ++ text)
    → OnOk r (now ≡ with_text text q)
text_put (Ok a) q now text more old new is added ok =
    let same : more ≡ text = append_cancel_left old more text (sym added ∙ ok) in
    is ∙ ap (λ l. with_text l q) same
text_put (Err e) q now text more old new is added ok = tt

pub no_text : (q now : Queued) → now ≡ with_text [] q → now ≡ q
no_text q now is = is ∙ (λ i. record q { bytes = append-nil q.bytes i })

pub none_put : {A E : Type 0} (r : Result A E) (q now : Queued) (more : List ℕ) → now ≡ with_text more q → OnErr r (more ≡ []) → OnErr r (now ≡ q)
none_put (Ok a) q now more is none = tt
none_put (Err e) q now more is none = no_text q now (is ∙ ap (λ l. with_text l q) none)

-- ---- a piece of an answer's body

no_run : (n : ℕ) → run_between n (n + 0) ≡ []
no_run n = let past : nat_lt n (n + 0) ≡ false = grind (arith, nat_tests) in rw past refl

nothing_put : (q : Queued) → q ≡ record { bytes = q.bytes ++ []; marks = q.marks ++ [] }
nothing_put q = λ i. record { bytes = sym (append-nil q.bytes) i; marks = sym (append-nil q.marks) i }

nothing_at : (q : Queued) (start : ℕ) → q ≡ record { bytes = q.bytes ++ []; marks = q.marks ++ run_between start (start + 0) }
nothing_at q start =
    let none = no_run start in
    nothing_put q ∙ (λ i. record { bytes = q.bytes ++ []; marks = q.marks ++ sym none i })

piece_at : (q : Queued) (bytes : List ℕ)
    → with_piece bytes q ≡ record { bytes = q.bytes ++ bytes; marks = q.marks ++ run_between (length q.bytes + 0) (length q.bytes + 0 + length bytes) }
piece_at q bytes =
    let same : length q.bytes ≡ length q.bytes + 0 = omega arith in
    λ i. record { bytes = q.bytes ++ bytes; marks = q.marks ++ run_between (same i) (same i + length bytes) }

-- HEAD has no body
pub head_sent : (asked : Asked) (shape : Shape) (missing : ℕ) (bytes : List ℕ) (q : Queued) → asked.is_head ≡ true → q ≡ with_sent asked shape missing bytes q
head_sent asked shape missing bytes q is = rw is (nothing_put q)

module _ (asked : Asked) (missing : ℕ) (bytes : List ℕ) (q : Queued) (is : asked.is_head ≡ false) where
  pub none_sent : q ≡ with_sent asked shape_none missing bytes q
  none_sent = rw is (nothing_at q (length q.bytes + 0))

  pub length_sent : (n : ℕ) → with_piece (take missing bytes) q ≡ with_sent asked (shape_length n) missing bytes q
  length_sent n = rw is (piece_at q (take missing bytes))

  pub raw_sent : with_piece bytes q ≡ with_sent asked shape_raw missing bytes q
  raw_sent = rw is (piece_at q bytes)

  pub chunk_sent : with_chunk bytes q ≡ with_sent asked shape_chunked missing bytes q
  chunk_sent = rw is refl

  -- what goes out
  pub length_out : (n : ℕ) → piece_sent asked (shape_length n) missing bytes ≡ [] → length (take missing bytes) ≡ 0
  length_out n none = let here : take missing bytes ≡ [] = rw is at none in ap length here

  pub raw_out : piece_sent asked shape_raw missing bytes ≡ [] → length bytes ≡ 0
  raw_out none = let here : bytes ≡ [] = rw is at none in ap length here

  pub chunk_out : piece_sent asked shape_chunked missing bytes ≡ [] → bytes ≡ []
  chunk_out none = no_chunk bytes (let here : chunk_text bytes ≡ [] = rw is at none in here)
    where
      no_chunk : (bytes : List ℕ) → chunk_text bytes ≡ [] → bytes ≡ []
      no_chunk [] none = refl
      no_chunk (b ∷ bytes) none = absurd (not_empty (digits 16 true (length (b ∷ bytes))) _ _ none)

-- a chunk without bytes is none
pub empty_chunk : (bytes : List ℕ) (q : Queued) → bytes ≡ [] → q ≡ with_chunk bytes q
empty_chunk bytes q none =
    nothing_at q (length q.bytes + framing_len shape_chunked []) ∙ sym (ap (λ l. with_chunk l q) none)

-- and one with some stands behind its size line
chunk_is : (bytes : List ℕ) → 0 < length bytes → chunk_text bytes ≡ digits 16 true (length bytes) ++ (crlf_bytes ++ (bytes ++ crlf_bytes))
chunk_is [] some = absurd (omega arith)
chunk_is (b ∷ bytes) some = refl

pub framed_chunk : (bytes line : List ℕ) (q : Queued) → 0 < length bytes → line ≡ digits 16 true (length bytes) ++ crlf_bytes
    → with_text crlf_bytes (with_piece bytes (with_text line q)) ≡ with_chunk bytes q
framed_chunk bytes line q some line_is =
    let size = digits 16 true (length bytes) in
    let all : ((q.bytes ++ line) ++ bytes) ++ crlf_bytes ≡ q.bytes ++ chunk_text bytes =
    append_assoc (q.bytes ++ line) bytes crlf_bytes
    ∙ append_assoc q.bytes line (bytes ++ crlf_bytes)
    ∙ ap (λ l. q.bytes ++ (l ++ (bytes ++ crlf_bytes))) line_is
    ∙ ap (λ l. q.bytes ++ l) (append_assoc size crlf_bytes (bytes ++ crlf_bytes) ∙ sym (chunk_is bytes some)) in
    let start : length (q.bytes ++ line) ≡ length q.bytes + framing_len shape_chunked bytes =
    length-append q.bytes line ∙ ap (λ l. length q.bytes + length l) line_is in
    λ i. record { bytes = all i; marks = q.marks ++ run_between (start i) (start i + length bytes) }
