-- What is taken from the front of bytes, its size judged at its length, is the front of the definitions.
use Rattle.std.proofs.Common.{◌≡◌, ℕ, suc, ◌+◌, ◌<◌, ◌≤◌, Bool, true, false, cond, List, [], ◌∷◌, length, drop, nat_lt, nat_eq, Option, Some, None, Result, Ok, Err, refl, sym, ap, ◌∙◌, arith, length-drop, ltb-false, le-ltb}
use Rattle.std.proofs.lemmas.Bool.{lt-ltb}
use Rattle.model_h1.specs.Frame.{Frame, ProtocolError, overflow}
use Rattle.model_h1.specs.FrameText.{FrameStart, frame_start, start_error, length_bytes, mask_bytes, FrameHeader, frame_header, payload_of, judged_frame, partial, breaks, unless_broken, front_of_judged, front_of_body, front_of_header, front_of_start, front_frame}
use Rattle.model_h1.specs.Limits.{MAX_FRAME}
use Rattle.model_h1.specs.Laws.FrameSize.{frame_length}
use Rattle.ws_frames.specs.Parsed.{late_reader, short as too_few, known, head_behind, waits, refuses, parsed_body, parsed_header}
use Rattle.ws_frames.specs.Header.{IsReadable}
use Rattle.ws_frames.specs.Fronts.{early_reader, is_partial, early_header, early_head, early}
use Rattle.ws_frames.proofs.ParsedFronts.{front_of_parsed, same_test, enough_judged}

-- a frame whose header is known: wide is that it is above the limit
header_judged : (server u wide : Bool) (limit : ℕ) (header : FrameHeader) (bytes body : List ℕ) (k : ℕ)
    → header.header_length ≡ k + mask_bytes header.start → length bytes ≡ k + length body → drop k bytes ≡ body
    → nat_lt limit header.payload_length ≡ wide
    → cond wide (breaks overflow) (front_of_body (early_reader server limit) u header body)
    ≡ front_of_parsed u (cond wide (refuses overflow 0) (cond (nat_lt (length bytes) (frame_length header)) waits (parsed_body header (drop k bytes))))
header_judged server u true limit header bytes body k lens long rest is = refl
header_judged server u false limit header bytes body k lens long rest is =
    let n = header.payload_length in
    let m = mask_bytes header.start in
    let to : k + (m + n) ≡ frame_length header = omega (arith, lens) in
    let same : nat_lt (length body) (m + n) ≡ nat_lt (length bytes) (frame_length header)
    = same_test (length body) (m + n) k ∙ ap (λ (a : ℕ). nat_lt a (k + (m + n))) (sym long) ∙ ap (nat_lt (length bytes)) to in
    ap (λ (b : Bool). cond (nat_lt (length body) (m + n)) partial (cond b (breaks overflow) (front_of_judged (frame_length header) (judged_frame u header.start (payload_of header body))))) is
    ∙ enough_judged server u false limit header body (nat_lt (length body) (m + n)) (ltb-false (length body) (m + n))
    ∙ ap (λ (b : Bool). front_of_parsed u (cond b waits (parsed_body header body))) same
    ∙ ap (λ (t : List ℕ). front_of_parsed u (cond (nat_lt (length bytes) (frame_length header)) waits (parsed_body header t))) (sym rest)

-- a frame whose first two bytes break no rule
start_judged : (server u short : Bool) (limit first second : ℕ) (more : List ℕ) (start : FrameStart)
    → (short ≡ false → length_bytes start ≤ length more)
    → cond short partial (front_of_header (early_reader server limit) u (frame_header start more) (drop (length_bytes start) more))
    ≡ front_of_parsed u (early_head limit (cond short too_few (known (frame_header start more))) (first ∷ second ∷ more))
start_judged server u true limit first second more start enough = refl
start_judged server u false limit first second more start enough =
    let header = frame_header start more in
    let k = length_bytes start in
    let two : suc (suc k) ≡ 2 + k = omega arith in
    let within : k ≤ length more = enough refl in
    let behind : drop (2 + k) (first ∷ second ∷ more) ≡ drop k more = ap (λ (n : ℕ). drop n (first ∷ second ∷ more)) (sym two) in
    header_judged server u (nat_lt limit header.payload_length) limit header (first ∷ second ∷ more) (drop k more) (2 + k)
    (omega arith) (omega (arith, length-drop k more, within)) behind refl

-- the first two bytes
two_judged : (server u : Bool) (limit first second : ℕ) (more : List ℕ) (start : FrameStart) (e : Option ProtocolError)
    → unless_broken e (front_of_start (early_reader server limit) u start more)
    ≡ front_of_parsed u (early_head limit (head_behind e start more) (first ∷ second ∷ more))
two_judged server u limit first second more start (Some e) = refl
two_judged server u limit first second more start None =
    start_judged server u (nat_lt (length more) (length_bytes start)) limit first second more start (ltb-false (length more) (length_bytes start))

-- the front of the definitions is what is taken, judged
pub front_is_early : (server u : Bool) (limit : ℕ) (bytes : List ℕ)
    → front_frame (early_reader server limit) u bytes ≡ front_of_parsed u (early server limit bytes)
unfolding front_frame early
front_is_early server u limit [] = refl
front_is_early server u limit (first ∷ []) = refl
front_is_early server u limit (first ∷ second ∷ more) =
    let start = frame_start first second in
    two_judged server u limit first second more start (start_error (late_reader server limit) start)

-- how many bytes stand in front of a payload
pub header_bound : (server : Bool) (header : FrameHeader) → IsReadable server header → header.header_length ≤ 14
header_bound server header readable =
    go (nat_eq header.start.short_length 126) (nat_eq header.start.short_length 127) header.start.is_masked readable.lens
  where
    go : (a b m : Bool) → header.header_length ≡ 2 + cond a 2 (cond b 8 0) + cond m 4 0 → header.header_length ≤ 14
    go true b true e = omega (arith, e)
    go true b false e = omega (arith, e)
    go false true true e = omega (arith, e)
    go false true false e = omega (arith, e)
    go false false true e = omega (arith, e)
    go false false false e = omega (arith, e)

-- a payload within the limit, and no longer than can be there: it doesn't matter where its size is judged
pub within_judged : (limit : ℕ) (header : FrameHeader) (bytes : List ℕ) → header.payload_length ≤ limit → frame_length header ≤ MAX_FRAME
    → parsed_header limit header bytes ≡ early_header limit header bytes
within_judged limit header bytes small may =
    let never : nat_lt MAX_FRAME (frame_length header) ≡ false = le-ltb MAX_FRAME (frame_length header) may in
    let below : nat_lt limit header.payload_length ≡ false = le-ltb limit header.payload_length small in
    let body = parsed_body header (drop (2 + length_bytes header.start) bytes) in
    (λ i. cond (never i) (refuses overflow 0) (cond (nat_lt (length bytes) (frame_length header)) waits (cond (below i) (refuses overflow (frame_length header)) body)))
    ∙ sym (ap (λ (b : Bool). cond b (refuses overflow 0) (cond (nat_lt (length bytes) (frame_length header)) waits body)) below)

-- above the limit
pub wide_early : (limit : ℕ) (header : FrameHeader) (bytes : List ℕ) → limit < header.payload_length → early_header limit header bytes ≡ refuses overflow 0
wide_early limit header bytes wide =
    ap (λ (b : Bool). cond b (refuses overflow 0) (cond (nat_lt (length bytes) (frame_length header)) waits (parsed_body header (drop (2 + length_bytes header.start) bytes))))
    (lt-ltb limit header.payload_length wide)

-- longer than the bytes
pub long_early : (limit : ℕ) (header : FrameHeader) (bytes : List ℕ) → header.payload_length ≤ limit → length bytes < header.payload_length
    → early_header limit header bytes ≡ waits
long_early limit header bytes small long =
    let below : nat_lt limit header.payload_length ≡ false = le-ltb limit header.payload_length small in
    let few : nat_lt (length bytes) (frame_length header) ≡ true = lt-ltb (length bytes) (frame_length header) (omega (arith, long)) in
    λ i. cond (below i) (refuses overflow 0) (cond (few i) waits (parsed_body header (drop (2 + length_bytes header.start) bytes)))

-- a frame that is judged isn't missing
pub judged_is_there : (len : ℕ) (judged : Result Frame ProtocolError) → false ≡ is_partial (front_of_judged len judged)
judged_is_there len (Ok frame) = refl
judged_is_there len (Err rule) = refl
