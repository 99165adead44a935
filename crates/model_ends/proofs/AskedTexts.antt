-- The text that a client sends is that of its requests, of which the newest may be under way.
use Rattle.std.proofs.Common.{◌≡◌, ℕ, ◌+◌, ◌-◌, ◌<◌, Bool, true, false, not, ◌&&◌, eqb, List, [], ◌∷◌, ◌++◌, length, take, Option, Some, None, is_some, is_none, refl, sym, ap, ap₂, ◌∙◌, subst, arith, append-nil, append_assoc, length-append, le-leb, inl, inr}
use Rattle.std.specs.Prelude.{⊤, IsTrue, flat_map, nat_lt, if◌then◌else◌}
use Rattle.std.specs.List.{AllByRecursion}
use Rattle.std.specs.Option.{option_or}
use Rattle.std.proofs.lemmas.Bool.{false≢true, cases_lt, lt-ltb}
use Rattle.std.proofs.lemmas.List.{take-append-le, take_all}
use Rattle.std.proofs.Math.Seq.{take-append-add}
use Rattle.std.proofs.lemmas.Grind.{flat_map-append}
use Rattle.model_h1.specs.Setting.{Setting}
use Rattle.model_h1.specs.Answer.{BodySize, size_none, size_of, size_stream, is_at_once, Shape, shape_none, shape_length, shape_chunked, shape_raw}
use Rattle.model_h1.specs.AnswerText.{chunk_text, last_chunk, end_text}
use Rattle.model_state.specs.Reply.{stated}
use Rattle.model_client.specs.RequestText.{asked_shape, joined, given_request_text}
use Rattle.model_client.specs.ClientEvent as on
use Rattle.model_client.specs.ClientEvent.{ClientRequest, ClientEvent, ClientEnd, ClientOutcome, failed_request}
use Rattle.model_client.specs.ClientKept.{SendingBody, ReadingBody, ClientKept, client_closing, is_last, can_be_sent, has_room, client_allows}
use Rattle.model_client.specs.ClientStep.{ClientChange, begun_body, piece_of, sending_piece, ending_body, dropping, IsPulling, IsNext, IsClientChange}
use Rattle.model_client.specs.ClientTrace.{Happened, IsClientTrace, sending_after, now_of, sending_of, text_of, text_of_event}
use Rattle.model_client.proofs.Written.{is_text}
use Rattle.model_ends.specs.AskedTrace.{AskedRequest, newly_asked, with_piece, asked_behind, requests_asked, is_all, is_all_asked, body_so_far}
use Rattle.model_ends.proofs.Holds.{failed_passes, failed_stays}
use Rattle.model_ends.proofs.NextAnswers.{failed_closes, allowed_then, allowed_while}
use Rattle.model_ends.proofs.Pulls.{joined_more}

-- ---- texts

abbrev pub text_so_far : AskedRequest → List ℕ
text_so_far a = given_request_text a.given ++ body_so_far (asked_shape a.given.size) a

-- the texts of requests, of which the newest comes first in the list and last in the text
abbrev pub texts : List AskedRequest → List ℕ
texts [] = []
texts (a ∷ before) = texts before ++ text_so_far a

-- ---- what is sent now

-- the body that is sent is that of the newest request
abbrev pub IsNewest : Option SendingBody → List AskedRequest → Type 0
IsNewest None rs = ⊤
IsNewest (Some body) [] = ⊥
IsNewest (Some body) (a ∷ rs) =
    (body.shape ≡ asked_shape a.given.size) × (a.is_ended ≡ false) × (body.missing ≡ stated body.shape - length (joined a.given.pieces))

abbrev pub AllWhole : List AskedRequest → Type 0
AllWhole rs = AllByRecursion (λ a. is_all_asked a ≡ true) rs

abbrev pub OthersWhole : List AskedRequest → Type 0
OthersWhole [] = ⊤
OthersWhole (a ∷ rs) = AllWhole rs

abbrev pub FirstWhole : List AskedRequest → Type 0
FirstWhole [] = ⊤
FirstWhole (a ∷ rs) = is_all_asked a ≡ true

-- The text is that of the requests. All but the newest are whole, and so is that one where nothing is sent and nothing failed.
pub record IsAskedText (text : List ℕ) (sending : Option SendingBody) (failed : Option ClientEnd) (rs : List AskedRequest) : Type 0 where
  pub text_is : text ≡ texts rs
  pub newest : IsNewest sending rs
  pub others : OthersWhole rs
  pub last : failed ≡ None → sending ≡ None → FirstWhole rs

-- ---- an event about a request

-- of a request that was just asked no body has come
no_body_yet : (s : Shape) (a : AskedRequest) → a.given.pieces ≡ [] → a.is_ended ≡ false → body_so_far s a ≡ []
no_body_yet shape_none a none going = refl
no_body_yet shape_raw a none going = refl
no_body_yet (shape_length n) a none going = ap (λ (l : List (List ℕ)). take n (joined l)) none ∙ take_none n
  where
    take_none : (n : ℕ) → ◌≡◌ {A = List ℕ} (take n []) []
    take_none n = take_all n [] (omega arith)
no_body_yet shape_chunked a none going =
    ap₂ (λ (l : List (List ℕ)) (t : Bool). flat_map chunk_text l ++ (if t then last_chunk else [])) none going

-- no request's shape is raw
not_raw : (size : BodySize) → asked_shape size ≡ shape_raw → ⊥
not_raw size_none e = cc
not_raw size_stream e = cc
not_raw (size_of n) e = by_test (eqb n 0) e
  where
    by_test : (t : Bool) → (if t then shape_none else shape_length n) ≡ shape_raw → ⊥
    by_test true e = cc
    by_test false e = cc

asked_more : (text : List ℕ) (failed : Option ClientEnd) (rs : List AskedRequest) (r : ClientRequest) (size : BodySize) (now : ℕ)
    → IsAskedText text None failed rs → failed ≡ None
    → IsAskedText (text ++ text_of_event (on.ask r size) now None) (begun_body size) failed (newly_asked r size now ∷ rs)
asked_more text failed rs r size now x fine =
    let a = newly_asked r size now in
    record {
      text_is = ap₂ (λ (l m : List ℕ). l ++ m) x.text_is
          (sym (ap (λ (l : List ℕ). given_request_text a.given ++ l) (no_body_yet (asked_shape size) a refl refl) ∙ append-nil (given_request_text a.given)));
      newest = newest (is_at_once size);
      others = all rs x.others (x.last fine refl);
      last = λ f none. last size none;
    }
  where
    newest : (t : Bool)
        → IsNewest (if t then None else Some (record { shape = asked_shape size; missing = stated (asked_shape size) })) (newly_asked r size now ∷ rs)
    newest true = tt
    newest false = (refl, refl, omega arith)

    all : (rs : List AskedRequest) → OthersWhole rs → FirstWhole rs → AllWhole rs
    all [] others first = tt
    all (a ∷ rs) others first = (first, others)

    last : (size : BodySize) → begun_body size ≡ None → is_all_asked (newly_asked r size now) ≡ true
    last size_none none = refl
    last size_stream none = absurd (cc none)
    last (size_of n) none = by_test (eqb n 0) none
      where
        by_test : (t : Bool) → ◌≡◌ {A = Option SendingBody} (if t then None else Some (record { shape = asked_shape (size_of n); missing = stated (asked_shape (size_of n)) })) None
            → is_all (if t then shape_none else shape_length n) (newly_asked r (size_of n) now) ≡ true
        by_test true none = refl
        by_test false none = absurd (cc none)

-- what a piece adds
take_more : (n : ℕ) (xs ys : List ℕ) → take n (xs ++ ys) ≡ take n xs ++ take (n - length xs) ys
take_more n xs ys =
    elim (cases_lt n (length xs)) [
      | inl short ↦
          let none : take (n - length xs) ys ≡ [] = ap (λ (k : ℕ). take k ys) (gone n (length xs) short) ∙ take_zero ys in
          take-append-le n xs ys (omega (arith, short)) ∙ sym (append-nil (take n xs)) ∙ ap (λ (l : List ℕ). take n xs ++ l) (sym none)
      | inr long ↦
          let sum : n ≡ length xs + (n - length xs) = omega (arith, long) in
          ap (λ (k : ℕ). take k (xs ++ ys)) sum ∙ take-append-add xs ys (n - length xs)
          ∙ ap (λ (l : List ℕ). l ++ take (n - length xs) ys) (sym (take_all n xs long))
    ]
  where
    gone : (n k : ℕ) → n < k → n - k ≡ 0
    gone n k short = omega (arith, short)

    take_zero : (l : List ℕ) → take 0 l ≡ []
    take_zero l = refl

piece_adds : (s : Shape) (a : AskedRequest) (missing : ℕ) (bytes : List ℕ) → (s ≡ shape_raw → ⊥) → a.is_ended ≡ false
    → missing ≡ stated s - length (joined a.given.pieces) → body_so_far s (with_piece bytes a) ≡ body_so_far s a ++ piece_of s missing bytes
piece_adds shape_none a missing bytes other going is = refl
piece_adds shape_raw a missing bytes other going is = absurd (other refl)
piece_adds (shape_length n) a missing bytes other going is =
    ap (take n) (joined_more a.given.pieces bytes) ∙ take_more n (joined a.given.pieces) bytes
    ∙ ap (λ (k : ℕ). take n (joined a.given.pieces) ++ take k bytes) (sym is)
piece_adds shape_chunked a missing bytes other going is =
    let text = flat_map chunk_text a.given.pieces in
    let more : flat_map chunk_text (a.given.pieces ++ bytes ∷ []) ≡ text ++ chunk_text bytes =
    flat_map-append chunk_text a.given.pieces (bytes ∷ []) ∙ ap (λ (l : List ℕ). text ++ l) (append-nil (chunk_text bytes)) in
    ap₂ (λ (l : List ℕ) (t : Bool). l ++ (if t then last_chunk else [])) more going ∙ append-nil (text ++ chunk_text bytes)
    ∙ ap (λ (l : List ℕ). l ++ chunk_text bytes) (sym (ap (λ (t : Bool). text ++ (if t then last_chunk else [])) going ∙ append-nil text))

piece_more : (text : List ℕ) (failed : Option ClientEnd) (rs : List AskedRequest) (body : SendingBody) (bytes : List ℕ)
    → IsAskedText text (Some body) failed rs
    → IsAskedText (text ++ piece_of body.shape body.missing bytes) (Some (record body { missing = body.missing - length bytes })) failed
    (asked_behind (on.chunk bytes) 0 rs)
piece_more text failed [] body bytes x = absurd x.newest
piece_more text failed (a ∷ rs) body bytes x =
    let shape = x.newest.0 in
    let adds : body_so_far (asked_shape a.given.size) (with_piece bytes a) ≡ body_so_far (asked_shape a.given.size) a ++ piece_of body.shape body.missing bytes =
    subst (λ (s : Shape). body_so_far s (with_piece bytes a) ≡ body_so_far s a ++ piece_of body.shape body.missing bytes) shape
    (piece_adds body.shape a body.missing bytes (λ raw. not_raw a.given.size (sym shape ∙ raw)) x.newest.1 x.newest.2) in
    let head = given_request_text a.given in
    record {
      text_is =
          ap (λ (l : List ℕ). l ++ piece_of body.shape body.missing bytes) x.text_is
          ∙ append_assoc (texts rs) (text_so_far a) (piece_of body.shape body.missing bytes)
          ∙ ap (λ (l : List ℕ). texts rs ++ l) (append_assoc head (body_so_far (asked_shape a.given.size) a) (piece_of body.shape body.missing bytes)
          ∙ ap (λ (l : List ℕ). head ++ l) (sym adds));
      newest = (
        shape,
        x.newest.1,
        omega (arith, x.newest.2, ap length (joined_more a.given.pieces bytes), length-append (joined a.given.pieces) bytes),
      );
      others = x.others;
      last = λ f none. absurd (some_is_some none);
    }
  where
    some_is_some : ◌≡◌ {A = Option SendingBody} (Some (record body { missing = body.missing - length bytes })) None → ⊥
    some_is_some e = cc

-- what the end adds
end_adds : (s : Shape) (a : AskedRequest) → (s ≡ shape_raw → ⊥) → a.is_ended ≡ false → body_so_far s (record a { is_ended = true }) ≡ body_so_far s a ++ end_text s
end_adds shape_none a other going = refl
end_adds shape_raw a other going = refl
end_adds (shape_length n) a other going = sym (append-nil (take n (joined a.given.pieces)))
end_adds shape_chunked a other going =
    let text = flat_map chunk_text a.given.pieces in
    ap (λ (l : List ℕ). l ++ last_chunk) (sym (ap (λ (t : Bool). text ++ (if t then last_chunk else [])) going ∙ append-nil text))

all_at_end : (s : Shape) (a : AskedRequest) (missing : ℕ) → missing ≡ stated s - length (joined a.given.pieces) → nat_lt 0 missing ≡ false
    → is_all s (record a { is_ended = true }) ≡ true
all_at_end shape_none a missing is none = refl
all_at_end shape_raw a missing is none = refl
all_at_end shape_chunked a missing is none = refl
all_at_end (shape_length n) a missing is none =
    elim (cases_lt 0 missing) [
      | inl some ↦ absurd (false≢true (sym none ∙ lt-ltb 0 missing some))
      | inr nil ↦ le-leb n (length (joined a.given.pieces)) (omega (arith, is, nil))
    ]

none_short : (f : Option ClientEnd) (short : Bool) → option_or f (if short then Some failed_request else None) ≡ None → short ≡ false
none_short None true e = absurd (cc e)
none_short None false e = refl
none_short (Some f) short e = absurd (cc e)

end_more : (text : List ℕ) (k : ClientKept) (rs : List AskedRequest) (body : SendingBody) (failed : Option ClientEnd)
    → IsAskedText text (Some body) k.failed rs → failed ≡ option_or k.failed (if nat_lt 0 body.missing then Some failed_request else None)
    → IsAskedText (text ++ end_text body.shape) None failed (asked_behind on.body_end 0 rs)
end_more text k [] body failed x e = absurd x.newest
end_more text k (a ∷ rs) body failed x e =
    let shape = x.newest.0 in
    let adds : body_so_far (asked_shape a.given.size) (record a { is_ended = true }) ≡ body_so_far (asked_shape a.given.size) a ++ end_text body.shape =
    subst (λ (s : Shape). body_so_far s (record a { is_ended = true }) ≡ body_so_far s a ++ end_text body.shape) shape
    (end_adds body.shape a (λ raw. not_raw a.given.size (sym shape ∙ raw)) x.newest.1) in
    let head = given_request_text a.given in
    record {
      text_is =
          ap (λ (l : List ℕ). l ++ end_text body.shape) x.text_is
          ∙ append_assoc (texts rs) (text_so_far a) (end_text body.shape)
          ∙ ap (λ (l : List ℕ). texts rs ++ l) (append_assoc head (body_so_far (asked_shape a.given.size) a) (end_text body.shape)
          ∙ ap (λ (l : List ℕ). head ++ l) (sym adds));
      newest = tt;
      others = x.others;
      last = λ fine none.
          subst (λ (s : Shape). is_all s (record a { is_ended = true }) ≡ true) shape
          (all_at_end body.shape a body.missing x.newest.2 (none_short k.failed (nat_lt 0 body.missing) (sym e ∙ fine)));
    }

-- an event that tells nothing of a request
quiet_more : (text : List ℕ) (sending : Option SendingBody) (failed failed' : Option ClientEnd) (rs : List AskedRequest) → IsAskedText text sending failed rs
    → (failed' ≡ None → failed ≡ None) → IsAskedText (text ++ []) sending failed' rs
quiet_more text sending failed failed' rs x back =
    record { text_is = append-nil text ∙ x.text_is; newest = x.newest; others = x.others; last = λ fine none. x.last (back fine) none }

-- ---- a fault stays

-- what had none after it had none before
back_from : (before after : Option ClientEnd) → (is_some before ≡ true → is_some after ≡ true) → after ≡ None → before ≡ None
back_from None after stays fine = refl
back_from (Some f) after stays fine = absurd (false≢true (sym (ap is_some fine) ∙ stays refl))

next_stays : (setting : Setting) (k : ClientKept) (o : Option ClientEnd) (c : ClientChange) → client_closing k ≡ o → IsNext setting k o c
    → is_some k.failed ≡ true → is_some c.kept.failed ≡ true
next_stays setting k None c closing x failed = absurd (false≢true (sym (ap is_some closing) ∙ failed_closes k failed))
next_stays setting k (Some end) c closing x failed = ap (λ (c : ClientChange). is_some c.kept.failed) x ∙ failed

pull_stays : (k : ClientKept) (body : Option ReadingBody) (c : ClientChange) → IsPulling k body c → is_some k.failed ≡ true → is_some c.kept.failed ≡ true
pull_stays k None c x failed = ap (λ (c : ClientChange). is_some c.kept.failed) x ∙ failed
pull_stays k (Some body) c (p, pull, is) failed = ap (λ (c : ClientChange). is_some c.kept.failed) is ∙ failed_stays 0 [] k.failed _ failed

drop_stays : (k : ClientKept) (body : Option ReadingBody) → is_some k.failed ≡ true → is_some (dropping body k).failed ≡ true
drop_stays k None failed = failed
drop_stays k (Some body) failed =
    failed_passes 0 [] (record k { reading = Some (record body { was_dropped = true }) }) (Some (record body { was_dropped = true })) failed

-- ---- all that happened

first_of_two : (a b : Bool) → IsTrue (a && b) → a ≡ true
first_of_two true b x = refl
first_of_two false b x = absurd (false≢true x)

none_of : (o : Option SendingBody) → is_none o ≡ true → o ≡ None
none_of None e = refl
none_of (Some b) e = absurd (false≢true e)

abbrev IsTextOf : List Happened → ClientKept → Type 0
IsTextOf trace k = IsAskedText (text_of trace) (sending_of trace) k.failed (requests_asked trace)

module _ (setting : Setting) (before : List Happened) (b : ClientKept) (trace : IsClientTrace setting before b) (old : IsTextOf before b) where
  now : ℕ
  now = now_of before

  sending_is : b.sending ≡ sending_of before
  sending_is = (is_text setting before b trace).sending

  abbrev After : ClientEvent → Option ClientEnd → Type 0
  After event failed =
      IsAskedText (text_of before ++ text_of_event event (now_of before) (sending_of before)) (sending_after event (sending_of before)) failed
      (asked_behind event (now_of before) (requests_asked before))

  fine_of : client_closing b ≡ None → b.failed ≡ None
  fine_of going = by_failed b.failed refl
    where
      by_failed : (f : Option ClientEnd) → b.failed ≡ f → b.failed ≡ None
      by_failed None e = e
      by_failed (Some f) e = absurd (false≢true (sym (ap is_some going) ∙ failed_closes b (ap is_some e)))

  ask_after : (r : ClientRequest) (size : BodySize) → IsTrue (client_allows setting b (on.ask r size)) → (closing : Option ClientEnd) → client_closing b ≡ closing
      → After (on.ask r size) b.failed
  ask_after r size allowed (Some end) closing = absurd (false≢true (allowed_while setting b (on.ask r size) end closing allowed))
  ask_after r size allowed None going =
      let may = allowed_then setting b (on.ask r size) going allowed in
      let free : b.sending ≡ None = none_of b.sending (first_of_four (is_none b.sending) (not (is_last b)) (can_be_sent r size) (has_room setting b) may) in
      let none : sending_of before ≡ None = sym sending_is ∙ free in
      subst (λ (o : Option SendingBody). IsAskedText (text_of before ++ text_of_event (on.ask r size) (now_of before) o) (begun_body size) b.failed
      (newly_asked r size (now_of before) ∷ requests_asked before)) (sym none)
      (asked_more (text_of before) b.failed (requests_asked before) r size (now_of before)
      (subst (λ (o : Option SendingBody). IsAskedText (text_of before) o b.failed (requests_asked before)) none old) (fine_of going))
    where
      first_of_four : (a b c d : Bool) → IsTrue (a && b && c && d) → a ≡ true
      first_of_four true b c d x = refl
      first_of_four false b c d x = absurd (false≢true x)

  -- an event that is allowed only while a body is sent
  body_is : (event : ClientEvent) → ((closing : ClientEnd) → client_closing b ≡ Some closing → ⊥)
      → (client_closing b ≡ None → is_some b.sending ≡ true) → (body : SendingBody) × (sending_of before ≡ Some body)
  body_is event none_closing allowed = by_closing (client_closing b) refl
    where
      by_sending : (o : Option SendingBody) → sending_of before ≡ o → is_some b.sending ≡ true → (body : SendingBody) × (sending_of before ≡ Some body)
      by_sending None e some = absurd (false≢true (sym (ap is_some (sending_is ∙ e)) ∙ some))
      by_sending (Some body) e some = (body, e)

      by_closing : (o : Option ClientEnd) → client_closing b ≡ o → (body : SendingBody) × (sending_of before ≡ Some body)
      by_closing (Some end) closing = absurd (none_closing end closing)
      by_closing None going = by_sending (sending_of before) refl (allowed going)

  chunk_after : (bytes : List ℕ) → IsTrue (client_allows setting b (on.chunk bytes)) → After (on.chunk bytes) b.failed
  chunk_after bytes allowed =
      let s = body_is (on.chunk bytes) (λ end closing. false≢true (allowed_while setting b (on.chunk bytes) end closing allowed))
      (λ going. first_of_two (is_some b.sending) (has_room setting b) (allowed_then setting b (on.chunk bytes) going allowed)) in
      subst (λ (o : Option SendingBody). IsAskedText (text_of before ++ text_of_event (on.chunk bytes) (now_of before) o) (sending_after (on.chunk bytes) o) b.failed
      (asked_behind (on.chunk bytes) (now_of before) (requests_asked before))) (sym s.1)
      (piece_more (text_of before) b.failed (requests_asked before) s.0 bytes
      (subst (λ (o : Option SendingBody). IsAskedText (text_of before) o b.failed (requests_asked before)) s.1 old))

  end_after : IsTrue (client_allows setting b on.body_end) → After on.body_end (ending_body b.sending b).failed
  end_after allowed =
      let s = body_is on.body_end (λ end closing. false≢true (allowed_while setting b on.body_end end closing allowed))
      (λ going. allowed_then setting b on.body_end going allowed) in
      subst (λ (o : Option SendingBody). IsAskedText (text_of before ++ text_of_event on.body_end (now_of before) o) None (ending_body b.sending b).failed
      (asked_behind on.body_end (now_of before) (requests_asked before))) (sym s.1)
      (end_more (text_of before) b (requests_asked before) s.0 (ending_body b.sending b).failed
      (subst (λ (o : Option SendingBody). IsAskedText (text_of before) o b.failed (requests_asked before)) s.1 old)
      (ap (λ (o : Option SendingBody). (ending_body o b).failed) (sending_is ∙ s.1)))

  error_after : (failed : Option ClientEnd) → is_some failed ≡ true → After on.body_error failed
  error_after failed some = record {
    text_is = append-nil (text_of before) ∙ old.text_is;
    newest = tt;
    others = old.others;
    last = λ fine none. absurd (false≢true (sym (ap is_some fine) ∙ some));
  }

  after_event : (event : ClientEvent) (c : ClientChange) → IsTrue (client_allows setting b event) → IsClientChange setting b event c → After event c.kept.failed
  after_event (on.ask r size) c allowed x =
      subst (λ (c : ClientChange). After (on.ask r size) c.kept.failed) (sym x) (ask_after r size allowed (client_closing b) refl)
  after_event (on.chunk bytes) c allowed x =
      subst (λ (c : ClientChange). After (on.chunk bytes) c.kept.failed) (sym x) (chunk_kept b.sending)
    where
      chunk_kept : (body : Option SendingBody) → After (on.chunk bytes) (sending_piece bytes body b).failed
      chunk_kept None = chunk_after bytes allowed
      chunk_kept (Some body) = chunk_after bytes allowed
  after_event on.body_end c allowed x = subst (λ (c : ClientChange). After on.body_end c.kept.failed) (sym x) (end_after allowed)
  after_event on.body_error c allowed x =
      subst (λ (c : ClientChange). After on.body_error c.kept.failed) (sym x) (error_after (option_or b.failed (Some failed_request)) (some_of b.failed))
    where
      some_of : (f : Option ClientEnd) → is_some (option_or f (Some failed_request)) ≡ true
      some_of None = refl
      some_of (Some f) = refl
  after_event (on.read bytes) c allowed x =
      quiet_more (text_of before) (sending_of before) b.failed c.kept.failed (requests_asked before) old
      (back_from b.failed c.kept.failed (λ failed. ap (λ (c : ClientChange). is_some c.kept.failed) x ∙ failed_passes 0 [] _ b.reading failed))
  after_event on.eof c allowed x =
      quiet_more (text_of before) (sending_of before) b.failed c.kept.failed (requests_asked before) old
      (back_from b.failed c.kept.failed (λ failed. ap (λ (c : ClientChange). is_some c.kept.failed) x ∙ failed_passes 0 [] _ _ failed))
  after_event on.next c allowed x =
      quiet_more (text_of before) (sending_of before) b.failed c.kept.failed (requests_asked before) old
      (back_from b.failed c.kept.failed (next_stays setting b (client_closing b) c refl x))
  after_event on.pull c allowed x =
      quiet_more (text_of before) (sending_of before) b.failed c.kept.failed (requests_asked before) old
      (back_from b.failed c.kept.failed (pull_stays b b.reading c x))
  after_event on.drop_body c allowed x =
      quiet_more (text_of before) (sending_of before) b.failed c.kept.failed (requests_asked before) old
      (back_from b.failed c.kept.failed (λ failed. ap (λ (c : ClientChange). is_some c.kept.failed) x ∙ drop_stays b b.reading failed))
  after_event (on.write n) c allowed x =
      quiet_more (text_of before) (sending_of before) b.failed c.kept.failed (requests_asked before) old (λ fine. sym (ap (λ (c : ClientChange). c.kept.failed) x) ∙ fine)
  after_event (on.tick ms) c allowed x =
      quiet_more (text_of before) (sending_of before) b.failed c.kept.failed (requests_asked before) old (λ fine. sym (ap (λ (c : ClientChange). c.kept.failed) x) ∙ fine)

-- the text of all that happened is that of its requests
pub asked_text_of : (setting : Setting) (trace : List Happened) (k : ClientKept) → IsClientTrace setting trace k → IsTextOf trace k
unfolding requests_asked
asked_text_of setting [] k is = record { text_is = refl; newest = tt; others = tt; last = λ f none. tt }
asked_text_of setting (s ∷ before) k (b, trace, allowed, step) =
    let old = asked_text_of setting before b trace in
    subst (λ (f : Option ClientEnd). IsAskedText (text_of (s ∷ before)) (sending_of (s ∷ before)) f (asked_behind s.event (now_of before) (requests_asked before)))
    (sym (ap (λ (k : ClientKept). k.failed) step.keeps)) (after_event setting before b trace old s.event step.change allowed step.changes)
