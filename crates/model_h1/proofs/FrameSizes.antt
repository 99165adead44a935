-- Where the size of a frame is judged: what a reader says that judges it once the frame is whole.
use Rattle.std.proofs.Common.{◌≡◌, ℕ, ◌+◌, ◌<◌, ◌≤◌, inl, inr, Bool, true, false, cond, List, [], ◌∷◌, length, drop, nat_lt, Option, Some, None, refl, sym, ◌∙◌, subst, arith, length-drop, ltb-false, le-ltb}
use Rattle.std.proofs.lemmas.Bool.{cond-true, cond-false, lt-ltb, cases_lt}
use Rattle.model_h1.specs.Frame.{ProtocolError, overflow}
use Rattle.model_h1.specs.FrameText.{Reader, JudgesSize, at_length, when_whole, FrameStart, frame_start, start_error, length_bytes, mask_bytes, FrameHeader, frame_header, payload_of, judged_frame, Front, partial, breaks, unless_broken, front_of_judged, front_of_body, front_of_header, front_of_start, front_frame}
use Rattle.model_h1.specs.Limits.{MAX_FRAME}
use Rattle.model_h1.specs.Laws.FrameSize.{judging, header_behind, front_header, frame_length}

-- what stands behind a header: as many bytes as it leaves, and with them the front, wherever the size is judged
record Behind (reader : Reader) (u : Bool) (len : ℕ) (front : Reader → Front) (header : FrameHeader) : Type 0 where
  body : List ℕ
  bytes : header.header_length + length body ≡ len + mask_bytes header.start
  judged : (w : JudgesSize) → front (judging w reader) ≡ front_of_header (judging w reader) u header body

-- behind the length, if it is there
behind_length : (reader : Reader) (u : Bool) (start : FrameStart) (more : List ℕ) (header : FrameHeader) (short : Bool)
    → nat_lt (length more) (length_bytes start) ≡ short → cond short None (Some (frame_header start more)) ≡ Some header
    → Behind reader u (2 + length more) (λ r. front_of_start r u start more) header
behind_length reader u start more header true test is = cc
behind_length reader u start more header false test is =
    let same : frame_header start more ≡ header = cc in
    let body = drop (length_bytes start) more in
    subst (Behind reader u (2 + length more) (λ r. front_of_start r u start more)) same (record {
      body = body;
      bytes = omega (arith, length-drop (length_bytes start) more, ltb-false (length more) (length_bytes start) test);
      judged = λ w. cond-false _ partial (front_of_header (judging w reader) u (frame_header start more) body) test;
    })

-- behind the rules of the first two bytes
behind_start : (reader : Reader) (u : Bool) (e : Option ProtocolError) (start : FrameStart) (more : List ℕ) (header : FrameHeader)
    → header_behind e start more ≡ Some header → Behind reader u (2 + length more) (λ r. unless_broken e (front_of_start r u start more)) header
behind_start reader u (Some e) start more header is = cc
behind_start reader u None start more header is = behind_length reader u start more header (nat_lt (length more) (length_bytes start)) refl is

-- behind the header at the front
behind_header : (reader : Reader) (u : Bool) (bytes : List ℕ) (header : FrameHeader) → front_header reader bytes ≡ Some header
    → Behind reader u (length bytes) (λ r. front_frame r u bytes) header
unfolding front_frame
behind_header reader u [] header is = cc
behind_header reader u (first ∷ []) header is = cc
behind_header reader u (first ∷ second ∷ more) header is =
    let start = frame_start first second in
    let behind = behind_start reader u (start_error reader start) start more header is in
    record { body = behind.body; bytes = behind.bytes ∙ omega arith; judged = behind.judged }

-- without a header no size is judged
no_length : (reader : Reader) (u : Bool) (e : Option ProtocolError) (start : FrameStart) (more : List ℕ) → header_behind e start more ≡ None
    → unless_broken e (front_of_start (judging when_whole reader) u start more)
    ≡ unless_broken e (front_of_start (judging at_length reader) u start more)
no_length reader u (Some e) start more is = refl
no_length reader u None start more is = by_test (nat_lt (length more) (length_bytes start)) refl
  where
    by_test : (short : Bool) → nat_lt (length more) (length_bytes start) ≡ short
        → front_of_start (judging when_whole reader) u start more ≡ front_of_start (judging at_length reader) u start more
    by_test true test = cond-true _ partial _ test ∙ sym (cond-true _ partial _ test)
    by_test false test =
        let there = cond-false _ None (Some (frame_header start more)) test in
        let none : Some (frame_header start more) ≡ None = sym there ∙ is in
        cc

-- where no header is at the front, both readers say the same
pub alike_without_header : (reader : Reader) (u : Bool) (bytes : List ℕ) → front_header reader bytes ≡ None
    → front_frame (judging when_whole reader) u bytes ≡ front_frame (judging at_length reader) u bytes
unfolding front_frame
alike_without_header reader u [] is = refl
alike_without_header reader u (first ∷ []) is = refl
alike_without_header reader u (first ∷ second ∷ more) is =
    no_length reader u (start_error reader (frame_start first second)) (frame_start first second) more is

-- within the limit, both readers say the same
pub alike_within_limit : (reader : Reader) (u : Bool) (bytes : List ℕ) (header : FrameHeader) → front_header reader bytes ≡ Some header
    → header.payload_length ≤ reader.max_payload → frame_length header ≤ MAX_FRAME
    → front_frame (judging when_whole reader) u bytes ≡ front_frame (judging at_length reader) u bytes
alike_within_limit reader u bytes header is within below =
    let behind = behind_header reader u bytes header is in
    let rest = front_of_body reader u header behind.body in
    let late = cond-false _ (breaks overflow) rest (le-ltb MAX_FRAME (frame_length header) below) in
    let early = cond-false _ (breaks overflow) rest (le-ltb reader.max_payload header.payload_length within) in
    behind.judged when_whole ∙ late ∙ sym early ∙ sym (behind.judged at_length)

-- two tests that ask the same
same_test : (a b c d : ℕ) → (a < b → c < d) → (b ≤ a → d ≤ c) → nat_lt a b ≡ nat_lt c d
same_test a b c d less more = elim (cases_lt a b) [
  | inl h ↦ lt-ltb a b h ∙ sym (lt-ltb c d (less h))
  | inr h ↦ le-ltb a b h ∙ sym (le-ltb c d (more h))
]

-- above the limit the frame is refused once it is whole
pub refused_when_whole : (reader : Reader) (u : Bool) (bytes : List ℕ) (header : FrameHeader) → front_header reader bytes ≡ Some header
    → reader.max_payload < header.payload_length → frame_length header ≤ MAX_FRAME
    → front_frame (judging when_whole reader) u bytes ≡ cond (nat_lt (length bytes) (frame_length header)) partial (breaks overflow)
refused_when_whole reader u bytes header is above below =
    let behind = behind_header reader u bytes header is in
    let count = behind.bytes in
    let n = header.payload_length in
    let needed = mask_bytes header.start + n in
    let late = cond-false _ (breaks overflow) (front_of_body reader u header behind.body) (le-ltb MAX_FRAME (frame_length header) below) in
    let size = cond-true _ (breaks overflow)
    (front_of_judged (header.header_length + n) (judged_frame u header.start (payload_of header behind.body))) (lt-ltb reader.max_payload n above) in
    let missing : nat_lt (length behind.body) needed ≡ nat_lt (length bytes) (frame_length header)
    = same_test (length behind.body) needed (length bytes) (frame_length header) (λ h. omega arith) (λ h. omega arith) in
    behind.judged when_whole ∙ late ∙ (λ i. cond (missing i) partial (size i))

-- a frame that can never be whole is refused at its length
pub refused_at_length : (reader : Reader) (u : Bool) (bytes : List ℕ) (header : FrameHeader) → front_header reader bytes ≡ Some header
    → MAX_FRAME < frame_length header → front_frame (judging when_whole reader) u bytes ≡ breaks overflow
refused_at_length reader u bytes header is above =
    let behind = behind_header reader u bytes header is in
    behind.judged when_whole
    ∙ cond-true _ (breaks overflow) (front_of_body reader u header behind.body) (lt-ltb MAX_FRAME (frame_length header) above)
