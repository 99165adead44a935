-- Frames: what is known of the front stays when bytes follow, and the bytes are read as frames in one way.
use Rattle.std.proofs.Common.{◌≡◌, ℕ, zero, suc, ◌+◌, ◌-◌, ◌<◌, ◌≤◌, Bool, true, false, cond, List, [], ◌∷◌, ◌++◌, length, take, drop, nat_lt, ◌==◌, Option, Some, None, Result, Ok, Err, refl, sym, ap, ap₂, ◌∙◌, subst, arith, length-append, length-drop, ltb-false, le-ltb}
use Rattle.std.proofs.lemmas.Bool.{cond-false}
use Rattle.std.proofs.lemmas.List.{take-append-le, drop-append-le}
use Rattle.model_h1.specs.Frame.{Frame, ProtocolError, overflow}
use Rattle.model_h1.specs.Handed.{Begins}
use Rattle.model_h1.specs.FrameText.{Reader, FrameStart, frame_start, start_error, big_endian, length_bytes, mask_bytes, FrameHeader, frame_header, unmask, payload_of, judged_frame, Front, partial, whole, breaks, unless_broken, front_of_judged, overflows_at_length, front_of_body, front_of_header, front_of_start, front_frame, is_under_way, PlacedFrame, StopsWith, ReadsFrames}

-- ---- what is known of the front stays

-- the front is a whole frame or breaks a rule
abbrev pub IsSettled : Front → Type 0
IsSettled partial = ⊥
IsSettled (whole frame len) = Unit {0}
IsSettled (breaks e) = Unit {0}

-- a settled front passed the test for enough bytes
settled_test : (short : Bool) (x : Front) → IsSettled (cond short partial x) → short ≡ false
settled_test true x s = absurd s
settled_test false x s = refl

-- and is settled behind it
settled_behind : (short : Bool) (x : Front) → IsSettled (cond short partial x) → IsSettled x
settled_behind true x s = absurd s
settled_behind false x s = s

-- a rule that is broken here is broken then too
settled_or_broken : (broken : Bool) (x y z : Front) → (IsSettled y → z ≡ y) → IsSettled (cond broken x y)
    → cond broken x z ≡ cond broken x y
settled_or_broken true x y z stays s = refl
settled_or_broken false x y z stays s = stays s

-- what needs two parts of the bytes alone is the same when bytes follow
parts_settled : (judge : List ℕ → List ℕ → Front) (k n : ℕ) (body more : List ℕ)
    → IsSettled (cond (nat_lt (length body) (k + n)) partial (judge (take k body) (take n (drop k body))))
    → cond (nat_lt (length (body ++ more)) (k + n)) partial (judge (take k (body ++ more)) (take n (drop k (body ++ more))))
    ≡ cond (nat_lt (length body) (k + n)) partial (judge (take k body) (take n (drop k body)))
parts_settled judge k n body more s =
    let enough = settled_test _ _ s in
    let fits : k + n ≤ length body = ltb-false _ _ enough in
    let enough' = le-ltb (length (body ++ more)) (k + n) (omega (arith, length-append body more)) in
    let front = take-append-le k body more (omega arith) in
    let rest = ap (take n) (drop-append-le k body more (omega arith)) ∙ take-append-le n (drop k body) more (omega (arith, length-drop k body)) in
    cond-false _ partial _ enough' ∙ ap₂ judge front rest ∙ sym (cond-false _ partial _ enough)

-- what a payload of n bytes is judged to be, if it is there with its mask
abbrev front_of_payload : Bool → (List ℕ → Front) → ℕ → List ℕ → Front
front_of_payload masked judge n body =
    cond (nat_lt (length body) (cond masked 4 0 + n)) partial (judge (cond masked (unmask (take 4 body) 0 (take n (drop 4 body))) (take n body)))

-- it stays when bytes follow, with a mask and without one
payload_settled : (masked : Bool) (judge : List ℕ → Front) (n : ℕ) (body more : List ℕ) → IsSettled (front_of_payload masked judge n body)
    → front_of_payload masked judge n (body ++ more) ≡ front_of_payload masked judge n body
payload_settled true judge n body more s = parts_settled (λ mask payload. judge (unmask mask 0 payload)) 4 n body more s
payload_settled false judge n body more s = parts_settled (λ none payload. judge payload) 0 n body more s

-- the frame behind its length, whose size may come
body_settled : (reader : Reader) (u : Bool) (header : FrameHeader) (body more : List ℕ) → IsSettled (front_of_body reader u header body)
    → front_of_body reader u header (body ++ more) ≡ front_of_body reader u header body
body_settled reader u header body more s =
    let judge = λ (payload : List ℕ). cond (nat_lt reader.max_payload header.payload_length) (breaks overflow)
    (front_of_judged (header.header_length + header.payload_length) (judged_frame u header.start payload)) in
    payload_settled header.start.is_masked judge header.payload_length body more s

-- the frame behind its length
header_settled : (reader : Reader) (u : Bool) (header : FrameHeader) (body more : List ℕ) → IsSettled (front_of_header reader u header body)
    → front_of_header reader u header (body ++ more) ≡ front_of_header reader u header body
header_settled reader u header body more s =
    settled_or_broken (overflows_at_length reader.judges_size reader header) (breaks overflow) (front_of_body reader u header body)
    (front_of_body reader u header (body ++ more)) (body_settled reader u header body more) s

-- a header whose length is there stays
header_stays : (start : FrameStart) (bytes more : List ℕ) → length_bytes start ≤ length bytes
    → frame_header start (bytes ++ more) ≡ frame_header start bytes
header_stays start bytes more fits =
    let same = take-append-le (length_bytes start) bytes more fits in
    ap (λ (t : List ℕ). record {
      start = start;
      header_length = 2 + length_bytes start + mask_bytes start;
      payload_length = cond (length_bytes start == 0) start.short_length (big_endian t);
    }) same

-- the frame behind its first two bytes
start_settled : (reader : Reader) (u : Bool) (start : FrameStart) (bytes more : List ℕ) → IsSettled (front_of_start reader u start bytes)
    → front_of_start reader u start (bytes ++ more) ≡ front_of_start reader u start bytes
start_settled reader u start bytes more s =
    let enough = settled_test _ _ s in
    let fits : length_bytes start ≤ length bytes = ltb-false _ _ enough in
    let enough' = le-ltb (length (bytes ++ more)) (length_bytes start) (omega (arith, length-append bytes more)) in
    let same = header_stays start bytes more fits in
    let rest = drop-append-le (length_bytes start) bytes more fits in
    cond-false _ partial _ enough'
    ∙ (λ i. front_of_header reader u (same i) (rest i))
    ∙ header_settled reader u (frame_header start bytes) (drop (length_bytes start) bytes) more (settled_behind _ _ s)
    ∙ sym (cond-false _ partial _ enough)

-- behind the rules of the first two bytes
unless_settled : (e : Option ProtocolError) (x y : Front) → (IsSettled x → y ≡ x) → IsSettled (unless_broken e x)
    → unless_broken e y ≡ unless_broken e x
unless_settled None x y stays s = stays s
unless_settled (Some e) x y stays s = refl

-- what is known of the front stays when bytes follow
pub front_settled : (reader : Reader) (u : Bool) (bytes more : List ℕ) → IsSettled (front_frame reader u bytes)
    → front_frame reader u (bytes ++ more) ≡ front_frame reader u bytes
unfolding front_frame
front_settled reader u [] more s = absurd s
front_settled reader u (first ∷ []) more s = absurd s
front_settled reader u (first ∷ second ∷ bytes) more s =
    let start = frame_start first second in
    unless_settled (start_error reader start) (front_of_start reader u start bytes) (front_of_start reader u start (bytes ++ more))
    (start_settled reader u start bytes more) s

-- a frame stays
pub whole_stays : (reader : Reader) (u : Bool) (bytes more : List ℕ) (f : Frame) (len : ℕ) → front_frame reader u bytes ≡ whole f len
    → front_frame reader u (bytes ++ more) ≡ whole f len
whole_stays reader u bytes more f len e = front_settled reader u bytes more (subst IsSettled (sym e) tt) ∙ e

-- and so does a broken rule
pub breaks_stays : (reader : Reader) (u : Bool) (bytes more : List ℕ) (x : ProtocolError) → front_frame reader u bytes ≡ breaks x
    → front_frame reader u (bytes ++ more) ≡ breaks x
breaks_stays reader u bytes more x e = front_settled reader u bytes more (subst IsSettled (sym e) tt) ∙ e

-- ---- how long a frame is

-- a whole frame has two bytes at least, and k at most
abbrev pub FitsIn : ℕ → Front → Type 0
FitsIn k partial = Unit {0}
FitsIn k (whole frame len) = (2 ≤ len) × (len ≤ k)
FitsIn k (breaks e) = Unit {0}

-- on both sides of a test
fits_test : (k : ℕ) (b : Bool) (x y : Front) → FitsIn k x → (b ≡ false → FitsIn k y) → FitsIn k (cond b x y)
fits_test k true x y f g = f
fits_test k false x y f g = g refl

-- a frame of this length, if it breaks no rule
fits_judged : (k len : ℕ) (r : Result Frame ProtocolError) → 2 ≤ len → len ≤ k → FitsIn k (front_of_judged len r)
fits_judged k len (Ok frame) long within = (long, within)
fits_judged k len (Err e) long within = tt

-- the frame behind its length, whose size may come
fits_body : (k : ℕ) (reader : Reader) (u : Bool) (header : FrameHeader) (body : List ℕ) → 2 ≤ header.header_length
    → header.header_length + length body ≤ k + mask_bytes header.start → FitsIn k (front_of_body reader u header body)
fits_body k reader u header body long within =
    let mask = mask_bytes header.start in
    let n = header.payload_length in
    let judged = judged_frame u header.start (payload_of header body) in
    let size = nat_lt reader.max_payload n in
    let read = front_of_judged (header.header_length + n) judged in
    fits_test k (nat_lt (length body) (mask + n)) partial (cond size (breaks overflow) read) tt
    (λ enough. fits_test k size (breaks overflow) read tt
    (λ _. fits_judged k (header.header_length + n) judged (omega arith) (omega (arith, ltb-false (length body) (mask + n) enough))))

-- the frame behind its length
fits_header : (k : ℕ) (reader : Reader) (u : Bool) (header : FrameHeader) (body : List ℕ) → 2 ≤ header.header_length
    → header.header_length + length body ≤ k + mask_bytes header.start → FitsIn k (front_of_header reader u header body)
fits_header k reader u header body long within =
    fits_test k (overflows_at_length reader.judges_size reader header) (breaks overflow) (front_of_body reader u header body) tt
    (λ _. fits_body k reader u header body long within)

-- the frame behind its first two bytes
fits_start : (reader : Reader) (u : Bool) (start : FrameStart) (bytes : List ℕ) → FitsIn (2 + length bytes) (front_of_start reader u start bytes)
fits_start reader u start bytes =
    let k = length_bytes start in
    fits_test (2 + length bytes) (nat_lt (length bytes) k) partial (front_of_header reader u (frame_header start bytes) (drop k bytes)) tt
    (λ enough. fits_header (2 + length bytes) reader u (frame_header start bytes) (drop k bytes) (omega arith)
    (omega (arith, length-drop k bytes, ltb-false (length bytes) k enough)))

-- behind the rules of the first two bytes
fits_unless : (k : ℕ) (e : Option ProtocolError) (x : Front) → FitsIn k x → FitsIn k (unless_broken e x)
fits_unless k None x fits = fits
fits_unless k (Some e) x fits = tt

-- a whole frame lies within the bytes
pub front_fits : (reader : Reader) (u : Bool) (bytes : List ℕ) → FitsIn (length bytes) (front_frame reader u bytes)
unfolding front_frame
front_fits reader u [] = tt
front_fits reader u (first ∷ []) = tt
front_fits reader u (first ∷ second ∷ bytes) =
    let start = frame_start first second in
    let fits = fits_unless (2 + length bytes) (start_error reader start) (front_of_start reader u start bytes) (fits_start reader u start bytes) in
    subst (λ k. FitsIn k (unless_broken (start_error reader start) (front_of_start reader u start bytes))) (omega arith) fits

-- a whole frame has two bytes at least, and lies within the bytes
pub whole_fits : (reader : Reader) (u : Bool) (bytes : List ℕ) (f : Frame) (len : ℕ) → front_frame reader u bytes ≡ whole f len
    → (2 ≤ len) × (len ≤ length bytes)
whole_fits reader u bytes f len e = subst (FitsIn (length bytes)) e (front_fits reader u bytes)

-- ---- the frames of the bytes

-- one front stops in one way
stops_unique : (x : Front) (e f : Option ProtocolError) → StopsWith x e → StopsWith x f → e ≡ f
stops_unique partial e f p q = p ∙ sym q
stops_unique (whole frame len) e f p q = absurd p
stops_unique (breaks x) e f p q = p ∙ sym q

-- a whole frame is no stop
whole_no_stop : (x : Front) (frame : Frame) (len : ℕ) (e : Option ProtocolError) → x ≡ whole frame len → ¬ (StopsWith x e)
whole_no_stop x frame len e is stop = subst (λ y. StopsWith y e) is stop

-- at a front stands one frame, which ends at one place
placed_unique : (x : Front) (place : ℕ) (a b : PlacedFrame) (n m : ℕ) → x ≡ whole a.frame n → x ≡ whole b.frame m
    → a.end ≡ place + n → b.end ≡ place + m → a ≡ b
placed_unique x place a b n m p q ends ends' =
    let same : whole a.frame n ≡ whole b.frame m = sym p ∙ q in
    let frame : a.frame ≡ b.frame = cc in
    let len : n ≡ m = cc in
    let end : a.end ≡ b.end = ends ∙ ap (λ k. place + k) len ∙ sym ends' in
    λ i. record { frame = frame i; end = end i }

-- the bytes are read as frames in one way
pub frames_unique : (reader : Reader) (u : Bool) (place : ℕ) (bytes : List ℕ) (fs gs : List PlacedFrame) (e f : Option ProtocolError)
    → ReadsFrames reader u place bytes fs e → ReadsFrames reader u place bytes gs f → (fs ≡ gs) × (e ≡ f)
frames_unique reader u place bytes [] [] e f x y = (refl, stops_unique (front_frame reader u (drop place bytes)) e f x y)
frames_unique reader u place bytes [] (b ∷ gs) e f x y = absurd (whole_no_stop _ b.frame y.0 e y.1 x)
frames_unique reader u place bytes (a ∷ fs) [] e f x y = absurd (whole_no_stop _ a.frame x.0 f x.1 y)
frames_unique reader u place bytes (a ∷ fs) (b ∷ gs) e f x y =
    let same = placed_unique _ place a b x.0 y.0 x.1 y.1 x.2 y.2 in
    let others = frames_unique reader (is_under_way u a.frame) a.end bytes fs gs e f x.3
    (subst (λ (p : PlacedFrame). ReadsFrames reader (is_under_way u p.frame) p.end bytes gs f) (sym same) y.3) in
    (λ i. same i ∷ others.0 i, others.1)

-- where bytes stand behind the place, those that follow stand behind them
drop_more : (place : ℕ) (bytes more : List ℕ) → 2 ≤ length (drop place bytes)
    → drop place (bytes ++ more) ≡ drop place bytes ++ more
drop_more place bytes more long = drop-append-le place bytes more (omega (arith, length-drop place bytes))

-- a frame at a place stays
placed_stays : (reader : Reader) (u : Bool) (place : ℕ) (bytes more : List ℕ) (f : Frame) (len : ℕ)
    → front_frame reader u (drop place bytes) ≡ whole f len → front_frame reader u (drop place (bytes ++ more)) ≡ whole f len
placed_stays reader u place bytes more f len e =
    let fits = whole_fits reader u (drop place bytes) f len e in
    ap (front_frame reader u) (drop_more place bytes more (omega arith)) ∙ whole_stays reader u (drop place bytes) more f len e

-- when bytes follow, the frames that were read are the first of those that are read then
pub frames_begin : (reader : Reader) (u : Bool) (place : ℕ) (bytes more : List ℕ) (fs gs : List PlacedFrame) (e f : Option ProtocolError)
    → ReadsFrames reader u place bytes fs e → ReadsFrames reader u place (bytes ++ more) gs f → Begins fs gs
frames_begin reader u place bytes more [] gs e f x y = (gs, refl)
frames_begin reader u place bytes more (a ∷ fs) [] e f x y =
    absurd (whole_no_stop _ a.frame x.0 f (placed_stays reader u place bytes more a.frame x.0 x.1) y)
frames_begin reader u place bytes more (a ∷ fs) (b ∷ gs) e f x y =
    let same = placed_unique _ place b a y.0 x.0 y.1 (placed_stays reader u place bytes more a.frame x.0 x.1) y.2 x.2 in
    let others = frames_begin reader (is_under_way u a.frame) a.end bytes more fs gs e f x.3
    (subst (λ (p : PlacedFrame). ReadsFrames reader (is_under_way u p.frame) p.end (bytes ++ more) gs f) same y.3) in
    (others.0, λ i. same i ∷ others.1 i)

-- a front that breaks a rule is that of two bytes at least
breaks_long : (reader : Reader) (u : Bool) (bytes : List ℕ) (x : ProtocolError) → front_frame reader u bytes ≡ breaks x → 2 ≤ length bytes
unfolding front_frame
breaks_long reader u [] x e = cc
breaks_long reader u (first ∷ []) x e = cc
breaks_long reader u (first ∷ second ∷ bytes) x e = omega arith

-- a front that stops with a rule breaks it
stops_breaks : (x : Front) (e : ProtocolError) → StopsWith x (Some e) → x ≡ breaks e
stops_breaks partial e stop = cc
stops_breaks (whole frame len) e stop = absurd stop
stops_breaks (breaks b) e stop =
    let same : b ≡ e = cc in
    ap breaks same

-- a rule that is broken at a place stays broken
broken_stays : (reader : Reader) (u : Bool) (place : ℕ) (bytes more : List ℕ) (x : ProtocolError)
    → front_frame reader u (drop place bytes) ≡ breaks x → front_frame reader u (drop place (bytes ++ more)) ≡ breaks x
broken_stays reader u place bytes more x e =
    ap (front_frame reader u) (drop_more place bytes more (breaks_long reader u (drop place bytes) x e)) ∙ breaks_stays reader u (drop place bytes) more x e

-- behind a broken rule nothing more is read, whatever bytes follow
pub frames_broken : (reader : Reader) (u : Bool) (place : ℕ) (bytes more : List ℕ) (fs : List PlacedFrame) (x : ProtocolError)
    → ReadsFrames reader u place bytes fs (Some x) → ReadsFrames reader u place (bytes ++ more) fs (Some x)
frames_broken reader u place bytes more [] x r =
    let here = broken_stays reader u place bytes more x (stops_breaks _ x r) in
    subst (λ y. StopsWith y (Some x)) (sym here) refl
frames_broken reader u place bytes more (a ∷ fs) x r =
    (r.0, placed_stays reader u place bytes more a.frame r.0 r.1, r.2, frames_broken reader (is_under_way u a.frame) a.end bytes more fs x r.3)

-- some frames, and the rule that the rest breaks
abbrev pub HasFrames : Reader → Bool → ℕ → List ℕ → Type 0
HasFrames reader u place bytes = (fs : List PlacedFrame) × (e : Option ProtocolError) × ReadsFrames reader u place bytes fs e

-- every text is read as frames; the fuel is above the bytes that are left
frames_by_fuel : (fuel : ℕ) (reader : Reader) (u : Bool) (place : ℕ) (bytes : List ℕ) → length bytes - place < fuel → HasFrames reader u place bytes
frames_by_fuel zero reader u place bytes enough = absurd (omega arith)
frames_by_fuel (suc fuel) reader u place bytes enough =
    go (front_frame reader u (drop place bytes)) refl (λ w n less. frames_by_fuel fuel reader w n bytes less)
  where
    go : (x : Front) → front_frame reader u (drop place bytes) ≡ x
        → ((w : Bool) (n : ℕ) → length bytes - n < fuel → HasFrames reader w n bytes) → HasFrames reader u place bytes
    go partial is later = ([], None, subst (λ y. StopsWith y None) (sym is) refl)
    go (breaks e) is later = ([], Some e, subst (λ y. StopsWith y (Some e)) (sym is) refl)
    go (whole frame len) is later =
        let fits = whole_fits reader u (drop place bytes) frame len is in
        let others = later (is_under_way u frame) (place + len) (omega (arith, length-drop place bytes)) in
        (record { frame = frame; end = place + len } ∷ others.0, others.1, (len, is, refl, others.2))

-- every text is read as frames
pub frames_read : (reader : Reader) (u : Bool) (place : ℕ) (bytes : List ℕ) → HasFrames reader u place bytes
frames_read reader u place bytes = frames_by_fuel (suc (length bytes - place)) reader u place bytes (omega arith)
