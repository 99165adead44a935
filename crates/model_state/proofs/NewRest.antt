-- What is left of a body of which nothing was read.
use Rattle.std.proofs.Common.{◌≡◌, ℕ, zero, suc, ◌+◌, ◌-◌, ◌<◌, Bool, true, false, List, [], ◌∷◌, length, take, drop, slice_range, nat_lt, Some, None, refl, sym, ap, ◌∙◌, inl, inr, arith, length-drop, lt-ltb, le-ltb}
use Rattle.std.specs.Prelude.{codes, bytes_eq, unwrap_or, ◌==◌, if◌then◌else◌}
use Rattle.std.proofs.lemmas.Bool.{cond-true, cond-false, cases_lt, le-leb, lt-leb, ne_eqb}
use Rattle.model_h1.specs.Place.{start, done, after}
use Rattle.model_h1.specs.Reading.{read}
use Rattle.model_h1.specs.Chunked.{Chunked, whole, unfinished, not_chunked, IsChunked}
use Rattle.model_h1.specs.ChunkedText.{Trailer}
use Rattle.model_h1.specs.Runs.{Run}
use Rattle.model_h1.proofs.Beginnings.{after-body}
use Rattle.model_h1.proofs.ReadAfter.{after-nil}
use Rattle.model_h1.proofs.ReadSteps.{read-nil}
use Rattle.model_h1.specs.LengthTable.{values_of, stated_length, is_there, asks_websocket, is_framing_refused, framed_body}
use Rattle.model_h1.specs.Request.{BodyKind, no_body, fixed_body, chunked_body, raw_body, head_is, Head}
use Rattle.model_h1.specs.RequestHead.{IsHeadOf, IsReadingWithin}
use Rattle.model_h1.specs.Parse.{Message, Body, content, raw_content, chunked_stop, shifted, IsBodyOf}
use Rattle.model_h1.proofs.BodyLemmas.{input}
use Rattle.model_state.specs.Kept.{no_rest, raw_rest, fixed_rest, chunks_rest, whole_rest, rest_in}
use Rattle.model_state.specs.KeptOf.{is_passed}
use Rattle.model_state.proofs.QuietParts.{rest_by}

-- ---- a stated length is some

-- a chunked, raw or absent body has none
framed_some : (chunked raw connect : Bool) (len n : ℕ)
    → (if chunked then chunked_body else (if raw then raw_body else (if nat_lt 0 len then fixed_body len else (if connect then raw_body else no_body)))) ≡ fixed_body n
    → 0 < n
framed_some true raw connect len n e = cc
framed_some false true connect len n e = cc
framed_some false false connect len n e =
    elim (cases_lt 0 len) [
      | inl some ↦
          let is : fixed_body len ≡ fixed_body n = sym (cond-true (nat_lt 0 len) _ _ (lt-ltb 0 len some)) ∙ e in
          let same : len ≡ n = cc in
          omega arith
      | inr none ↦ no_length connect (sym (cond-false (nat_lt 0 len) _ _ (le-ltb 0 len none)) ∙ e)
    ]
  where
    no_length : (b : Bool) → (if b then raw_body else no_body) ≡ fixed_body n → 0 < n
    no_length true e = cc
    no_length false e = cc

-- lines that state a length state some bytes
kind_some : (refused : Bool) (kind : BodyKind) (n : ℕ) → (if refused then None else Some kind) ≡ Some (fixed_body n) → kind ≡ fixed_body n
kind_some true kind n e = cc
kind_some false kind n e = cc

-- so does a head
head_some : (piece : List ℕ) (h : Head) (n : ℕ) → IsHeadOf piece h → h.body ≡ fixed_body n → 0 < n
head_some piece h n x kind =
    framed_some (is_there (values_of (codes "transfer-encoding") h.headers)) (asks_websocket h.headers) (bytes_eq h.method (codes "CONNECT"))
    (unwrap_or (stated_length (values_of (codes "content-length") h.headers)) 0) n
    (kind_some (is_framing_refused h.minor h.method h.headers) (framed_body h.method h.headers) n (x.body_is ∙ ap Some kind))

-- of a head that is read
pub read_some : (size : ℕ) (piece : List ℕ) (h : Head) (n : ℕ) → IsReadingWithin size piece (head_is h) → h.body ≡ fixed_body n → 0 < n
read_some size piece h n (inl x) kind = head_some piece h n x.1.1 kind
read_some size piece h n (inr x) kind = cc (x.1)

-- ---- what is left

-- the input's end ends no body of another kind
in_no : (ended : Bool) (bytes : List ℕ) → rest_in ended bytes no_rest ≡ no_rest
in_no true [] = refl
in_no true (b ∷ bytes) = refl
in_no false bytes = refl

-- of a stated length
in_fixed : (ended : Bool) (bytes : List ℕ) (n : ℕ) → rest_in ended bytes (fixed_rest n) ≡ fixed_rest n
in_fixed true [] n = refl
in_fixed true (b ∷ bytes) n = refl
in_fixed false bytes n = refl

-- or in chunks
in_chunks : (ended : Bool) (bytes : List ℕ) → rest_in ended bytes (chunks_rest start []) ≡ chunks_rest start []
in_chunks true [] = refl
in_chunks true (b ∷ bytes) = refl
in_chunks false bytes = refl

-- whether a body is passed, by what it is
passed_by : (place : ℕ) (m : Message) (b : Body) → m.body ≡ b → is_passed place m ≡ is_passed place (record m { body = b })
passed_by place m b e = λ i. is_passed place (record m { body = e i })

-- a whole body in chunks has bytes
whole_some : (bytes : List ℕ) (k : ℕ) (trailers : List Trailer) (runs : List Run) → IsChunked bytes (whole k trailers) runs → 0 < k
whole_some bytes zero trailers runs x =
    let same : start ≡ done = sym (after-nil start) ∙ after-body (take 0 bytes) x.0 x.2 in
    cc
whole_some bytes (suc k) trailers runs x = omega arith

-- at its start it isn't passed
chunks_unpassed : (bytes : List ℕ) (ended : Bool) (size : ℕ) (m : Message) (a : Chunked) (runs : List Run)
    → IsChunked (drop m.body_start bytes) a runs
    → m.body ≡ content (shifted m.body_start runs) (chunked_stop (input bytes None ended size) m.body_start a)
    → is_passed m.body_start m ≡ false
chunks_unpassed bytes ended size m (whole k trailers) runs x e =
    let some = whole_some (drop m.body_start bytes) k trailers runs x in
    passed_by m.body_start m _ e ∙ lt-leb (m.body_start + k) m.body_start (omega arith)
chunks_unpassed bytes true size m unfinished runs x e = passed_by m.body_start m _ e
chunks_unpassed bytes false size m unfinished runs x e = passed_by m.body_start m _ e
chunks_unpassed bytes ended size m not_chunked runs x e = passed_by m.body_start m _ e

-- no byte of it was read
none_read : (bytes : List ℕ) (a : ℕ)
    → chunks_rest (after start (slice_range bytes a a)) (read start (slice_range bytes a a)).trailers ≡ chunks_rest start []
none_read bytes a =
    let none : a - a ≡ 0 = omega arith in
    let front : slice_range bytes a a ≡ [] = ap (λ n. take n (drop a bytes)) none in
    (λ i. chunks_rest (after start (front i)) (read start (front i)).trailers)
    ∙ (λ i. chunks_rest (after-nil start i) (read-nil start i).trailers)

-- a raw body is passed at once where no byte is there and none comes
raw_new : (bytes : List ℕ) (ended : Bool) (m : Message) (u : List ℕ) → u ≡ drop m.body_start bytes
    → (if is_passed m.body_start (record m { body = raw_content (input bytes None ended 0) m.body_start }) then no_rest else raw_rest)
    ≡ rest_in ended u raw_rest
raw_new bytes true m [] e =
    cond-true _ _ _ (le-leb (length bytes) m.body_start (omega (arith, ap length e, length-drop m.body_start bytes)))
raw_new bytes true m (b ∷ u) e =
    cond-false _ _ _ (lt-leb (length bytes) m.body_start (omega (arith, ap length e, length-drop m.body_start bytes)))
raw_new bytes false m u e = refl

-- a length above 0 is some
some_rest : (n : ℕ) → 0 < n → (if n == 0 then no_rest else fixed_rest n) ≡ fixed_rest n
some_rest n some = cond-false (n == 0) no_rest (fixed_rest n) (ne_eqb n 0 (λ e. omega (arith, some, e)))

-- each kind of body, at its start
pub new_rest : (bytes : List ℕ) (ended : Bool) (size : ℕ) (receiving : Bool) (m : Message) (kind : BodyKind)
    → IsBodyOf (input bytes None ended size) kind m.body_start m.body → ((n : ℕ) → kind ≡ fixed_body n → 0 < n)
    → rest_by m.body_start bytes false None receiving m kind ≡ rest_in ended (drop m.body_start bytes) (whole_rest kind)
new_rest bytes ended size receiving m no_body x some = sym (in_no ended (drop m.body_start bytes))
new_rest bytes ended size receiving m (fixed_body n) x some =
    let more = some n refl in
    let left : m.body_start + n - m.body_start ≡ n = omega arith in
    cond-false _ _ _ (lt-leb (m.body_start + n) m.body_start (omega arith)) ∙ ap fixed_rest left ∙ sym (in_fixed ended (drop m.body_start bytes) n)
    ∙ ap (rest_in ended (drop m.body_start bytes)) (sym (some_rest n more))
new_rest bytes ended size receiving m chunked_body x some =
    cond-false _ _ _ (chunks_unpassed bytes ended size m x.0 x.1 x.2 x.3) ∙ none_read bytes m.body_start ∙ sym (in_chunks ended (drop m.body_start bytes))
new_rest bytes ended size receiving m raw_body x some =
    ap (λ b. if b then no_rest else raw_rest) (passed_by m.body_start m _ x) ∙ raw_new bytes ended m (drop m.body_start bytes) refl
