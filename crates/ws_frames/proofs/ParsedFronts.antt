-- What is taken from the front of bytes, judged, is the front of the definitions.
use Rattle.std.proofs.Common.{◌≡◌, ℕ, suc, ◌+◌, ◌<◌, ◌≤◌, Bool, true, false, cond, ◌&&◌, List, [], ◌∷◌, length, drop, take, nat_lt, Option, Some, None, refl, sym, ap, ◌∙◌, subst, arith, length-drop, ltb-false, ltb-true, le-ltb}
use Rattle.std.proofs.lemmas.Bool.{lt-ltb}
use Rattle.std.proofs.lemmas.List.{length-take-le}
use Rattle.model_h1.specs.Frame.{ProtocolError, overflow}
use Rattle.model_h1.specs.FrameText.{Opcode, continuation_opcode, text_opcode, binary_opcode, close_opcode, ping_opcode, pong_opcode, unknown_opcode, FrameStart, frame_start, start_error, length_bytes, mask_bytes, FrameHeader, frame_header, unmask, payload_of, is_control, long_control_frame, judged_frame, finished_frame, unfinished_frame, Front, partial, breaks, unless_broken, front_of_judged, is_never_whole, front_of_body, front_of_header, front_of_start, front_frame}
use Rattle.model_h1.specs.Limits.{MAX_CONTROL_PAYLOAD}
use Rattle.model_h1.specs.Laws.FrameSize.{frame_length}
use Rattle.ws_frames.specs.Parsed.{Parsed, late_reader, short as too_few, known, head_behind, waits, refuses, takes, parsed_long, parsed_body, parsed_head, parsed}
use Rattle.ws_frames.specs.Judged.{judged_taken}
use Rattle.ws_frames.proofs.MaskLemmas.{length_unmask}

-- what stands at the front, by what is taken from it
abbrev pub front_of_parsed : Bool → Parsed → Front
front_of_parsed under_way waits = partial
front_of_parsed under_way (refuses e dropped) = breaks e
front_of_parsed under_way (takes is_final opcode payload len) = front_of_judged len (judged_taken under_way is_final opcode payload)

-- a payload that is there has its length
payload_there : (header : FrameHeader) (body : List ℕ) → mask_bytes header.start + header.payload_length ≤ length body
    → length (payload_of header body) ≡ header.payload_length
payload_there header body enough = go header.start.is_masked refl
  where
    go : (masked : Bool) → header.start.is_masked ≡ masked → length (payload_of header body) ≡ header.payload_length
    go true e =
        let room : cond true 4 0 + header.payload_length ≤ length body = subst (λ (m : Bool). cond m 4 0 + header.payload_length ≤ length body) e enough in
        ap (λ (m : Bool). length (cond m (unmask (take 4 body) 0 (take header.payload_length (drop 4 body))) (take header.payload_length body))) e
        ∙ length_unmask (take 4 body) 0 (take header.payload_length (drop 4 body))
        ∙ length-take-le header.payload_length (drop 4 body) (omega (arith, length-drop 4 body, room))
    go false e =
        let room : cond false 4 0 + header.payload_length ≤ length body = subst (λ (m : Bool). cond m 4 0 + header.payload_length ≤ length body) e enough in
        ap (λ (m : Bool). length (cond m (unmask (take 4 body) 0 (take header.payload_length (drop 4 body))) (take header.payload_length body))) e
        ∙ length-take-le header.payload_length body (omega (arith, room))

-- a long control frame is judged as it is taken
long_judged : (u : Bool) (op : Opcode) (n len : ℕ) → is_control op ≡ true
    → front_of_judged len (long_control_frame op n) ≡ front_of_parsed u (parsed_long op n len)
long_judged u continuation_opcode n len e = refl
long_judged u text_opcode n len e = refl
long_judged u binary_opcode n len e = refl
long_judged u close_opcode n len e = refl
long_judged u ping_opcode n len e = refl
long_judged u pong_opcode n len e = refl
long_judged u (unknown_opcode k) n len e = refl

-- what both of two tests say, the first one says
left_of_and : (a b : Bool) → (a && b) ≡ true → a ≡ true
left_of_and true b e = refl
left_of_and false b e = e

-- a frame is judged as it is taken, on both sides of the test for a long control frame
test_judged : (u long fin : Bool) (op : Opcode) (payload : List ℕ) (n len : ℕ) → (long ≡ true → is_control op ≡ true)
    → front_of_judged len (cond long (long_control_frame op n) (cond fin (finished_frame u op payload) (unfinished_frame u op payload)))
    ≡ front_of_parsed u (cond long (parsed_long op n len) (takes fin op payload len))
test_judged u true fin op payload n len control = long_judged u op n len (control refl)
test_judged u false fin op payload n len control = refl

-- a whole frame is judged as it is taken
body_judged : (u : Bool) (header : FrameHeader) (body : List ℕ) → mask_bytes header.start + header.payload_length ≤ length body
    → front_of_judged (frame_length header) (judged_frame u header.start (payload_of header body)) ≡ front_of_parsed u (parsed_body header body)
body_judged u header body enough =
    let payload = payload_of header body in
    let op = header.start.opcode in
    ap (λ (n : ℕ). front_of_judged (frame_length header) (cond (is_control op && nat_lt MAX_CONTROL_PAYLOAD n) (long_control_frame op n)
    (cond header.start.is_final (finished_frame u op payload) (unfinished_frame u op payload)))) (payload_there header body enough)
    ∙ test_judged u (is_control op && nat_lt MAX_CONTROL_PAYLOAD header.payload_length) header.start.is_final op payload header.payload_length
    (frame_length header) (left_of_and (is_control op) (nat_lt MAX_CONTROL_PAYLOAD header.payload_length))

-- a test of two numbers, and of the two with d added
pub same_test : (a b d : ℕ) → nat_lt a b ≡ nat_lt (d + a) (d + b)
same_test a b d = go (nat_lt a b) refl
  where
    go : (t : Bool) → nat_lt a b ≡ t → nat_lt a b ≡ nat_lt (d + a) (d + b)
    go true e =
        let below : a < b = ltb-true a b e in
        e ∙ sym (lt-ltb (d + a) (d + b) (omega arith))
    go false e =
        let past : b ≤ a = ltb-false a b e in
        e ∙ sym (le-ltb (d + a) (d + b) (omega arith))

-- a frame whose header is known, and which may be whole
pub enough_judged : (server u wide : Bool) (max_size : ℕ) (header : FrameHeader) (body : List ℕ) (short : Bool)
    → (short ≡ false → mask_bytes header.start + header.payload_length ≤ length body)
    → cond short partial (cond wide (breaks overflow) (front_of_judged (frame_length header) (judged_frame u header.start (payload_of header body))))
    ≡ front_of_parsed u (cond short waits (cond wide (refuses overflow (frame_length header)) (parsed_body header body)))
enough_judged server u wide max_size header body true enough = refl
enough_judged server u true max_size header body false enough = refl
enough_judged server u false max_size header body false enough = body_judged u header body (enough refl)

-- a frame whose header is known: never is that it can never be whole
header_judged : (server u never : Bool) (max_size : ℕ) (header : FrameHeader) (bytes body : List ℕ) (k : ℕ)
    → header.header_length ≡ k + mask_bytes header.start → length bytes ≡ k + length body → drop k bytes ≡ body
    → cond never (breaks overflow) (front_of_body (late_reader server max_size) u header body)
    ≡ front_of_parsed u (cond never (refuses overflow 0) (cond (nat_lt (length bytes) (frame_length header)) waits
    (cond (nat_lt max_size header.payload_length) (refuses overflow (frame_length header)) (parsed_body header (drop k bytes)))))
header_judged server u true max_size header bytes body k lens long rest = refl
header_judged server u false max_size header bytes body k lens long rest =
    let n = header.payload_length in
    let m = mask_bytes header.start in
    let to : k + (m + n) ≡ frame_length header = omega (arith, lens) in
    let same : nat_lt (length body) (m + n) ≡ nat_lt (length bytes) (frame_length header)
    = same_test (length body) (m + n) k ∙ ap (λ (a : ℕ). nat_lt a (k + (m + n))) (sym long) ∙ ap (nat_lt (length bytes)) to in
    let wide = nat_lt max_size n in
    enough_judged server u wide max_size header body (nat_lt (length body) (m + n)) (ltb-false (length body) (m + n))
    ∙ ap (λ (b : Bool). front_of_parsed u (cond b waits (cond wide (refuses overflow (frame_length header)) (parsed_body header body)))) same
    ∙ ap (λ (t : List ℕ). front_of_parsed u (cond (nat_lt (length bytes) (frame_length header)) waits (cond wide (refuses overflow (frame_length header)) (parsed_body header t)))) (sym rest)

-- a frame whose first two bytes break no rule
start_judged : (server u short : Bool) (max_size first second : ℕ) (more : List ℕ) (start : FrameStart)
    → (short ≡ false → length_bytes start ≤ length more)
    → cond short partial (front_of_header (late_reader server max_size) u (frame_header start more) (drop (length_bytes start) more))
    ≡ front_of_parsed u (parsed_head max_size (cond short too_few (known (frame_header start more))) (first ∷ second ∷ more))
start_judged server u true max_size first second more start enough = refl
start_judged server u false max_size first second more start enough =
    let header = frame_header start more in
    let k = length_bytes start in
    let two : suc (suc k) ≡ 2 + k = omega arith in
    let within : k ≤ length more = enough refl in
    let behind : drop (2 + k) (first ∷ second ∷ more) ≡ drop k more = ap (λ (n : ℕ). drop n (first ∷ second ∷ more)) (sym two) in
    header_judged server u (is_never_whole header) max_size header (first ∷ second ∷ more) (drop k more) (2 + k)
    (omega arith) (omega (arith, length-drop k more, within)) behind

-- the first two bytes
two_judged : (server u : Bool) (max_size first second : ℕ) (more : List ℕ) (start : FrameStart) (e : Option ProtocolError)
    → unless_broken e (front_of_start (late_reader server max_size) u start more)
    ≡ front_of_parsed u (parsed_head max_size (head_behind e start more) (first ∷ second ∷ more))
two_judged server u max_size first second more start (Some e) = refl
two_judged server u max_size first second more start None =
    start_judged server u (nat_lt (length more) (length_bytes start)) max_size first second more start (ltb-false (length more) (length_bytes start))

-- the front of the definitions is what is taken, judged
pub front_is_parsed : (server u : Bool) (max_size : ℕ) (bytes : List ℕ)
    → front_frame (late_reader server max_size) u bytes ≡ front_of_parsed u (parsed server max_size bytes)
unfolding front_frame parsed
front_is_parsed server u max_size [] = refl
front_is_parsed server u max_size (first ∷ []) = refl
front_is_parsed server u max_size (first ∷ second ∷ more) =
    let start = frame_start first second in
    two_judged server u max_size first second more start (start_error (late_reader server max_size) start)
