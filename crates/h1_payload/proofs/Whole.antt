-- What a decoder is told by all bytes.
use Rattle.std.proofs.Common.{◌≡◌, ℕ, zero, suc, leb, cond, Bool, true, false, List, [], ◌++◌, length, drop, map, refl, sym, ap, ◌∙◌, subst, arith, ◌==◌}
use Rattle.std.proofs.lemmas.Bool.{cond-true, cond-false, le-leb, ne_eqb}
use Rattle.std.specs.List.{AllByRecursion}
use Rattle.model_h1.specs.ChunkedText.{Trailer, IsTrailer, ChunkedText, IsChunkedText, chunked_text, section_text}
use Rattle.model_h1.specs.Place.{start}
use Rattle.model_h1.specs.Reading.{Ending, Reading, goes_on, is_broken, ends_before}
use Rattle.model_h1.proofs.Complete.{text_read}
use Rattle.model_h1.proofs.Trailers.{section_tells}
use Rattle.http_map.specs.HeaderMap.{Entries}
use Rattle.model_h1.specs.Parse.{trailer_header}
use Rattle.model_h1.specs.Request.{fixed_body}
use Rattle.model_state.specs.Kept.{Rest, no_rest, raw_rest, fixed_rest, chunks_rest, frames_rest, whole_rest}
use Rattle.http_framing.specs.AnyPieces.{Fed, AreFed, LastReads, all_told, all_came}
use Rattle.http_framing.proofs.AnyPieces.{pieces_are_whole}
use Rattle.http_framing.specs.HeaderLines.{header_map}
use Rattle.h1_payload.specs.Fitting.{Fits}
use Rattle.h1_payload.specs.Decoding.{Decoding, Payload, no_payload, reading_of, AreTrailers, HasTrailers, IsReadAs, Reads, ReadsBy, given, chunked_payload, length_payload}
use Rattle.h1_payload.specs.declared.item.PayloadItem.{PayloadItem}

-- ---- one reading

-- a text has the trailers of one map
same_trailers : (text : List ℕ) (a b : Entries) → AreTrailers text a → AreTrailers text b → a ≡ b
same_trailers text a b x y =
    let lines = section_tells x.lines y.lines x.valid y.valid (x.spelled ∙ sym y.spelled) in
    x.entries_are ∙ ap (λ (l : List Trailer). header_map (map trailer_header l)) lines ∙ sym y.entries_are

same_told : (e : Ending) (text : List ℕ) (a b : Entries) → HasTrailers e text a → HasTrailers e text b → a ≡ b
same_told goes_on text a b x y = x ∙ sym y
same_told is_broken text a b x y = x ∙ sym y
same_told (ends_before rest) text a b x y = same_trailers text a b x y

one_read : (t : Reading) (p q : Payload) → IsReadAs t p → IsReadAs t q → p ≡ q
one_read t p q x y =
    let a = x.body ∙ sym y.body in
    let b = same_told t.ending t.trailers p.trailers q.trailers x.trailers y.trailers in
    let c = x.ending ∙ sym y.ending in
    λ i. record { body = a i; trailers = b i; ending = c i }

one_by : (b : Bool) (rest : Rest) (bytes : List ℕ) (p q : Payload) → ReadsBy b rest bytes p → ReadsBy b rest bytes q → p ≡ q
one_by true rest bytes p q x y = x ∙ sym y
one_by false rest bytes p q x y = one_read (reading_of rest bytes) p q x y

-- bytes say one thing to a decoder
pub one_payload : (d : Decoding) (bytes : List ℕ) (p q : Payload) → Reads d bytes p → Reads d bytes q → p ≡ q
one_payload d bytes p q x y = one_by d.is_broken d.rest bytes p q x y

-- ---- there is one

told_map : (e : Ending) (text : List ℕ)
    → ((rest : List ℕ) → e ≡ ends_before rest → (lines : List Trailer) × AllByRecursion IsTrailer lines × (section_text lines ≡ text))
    → (entries : Entries) × HasTrailers e text entries
told_map goes_on text has = ([], refl)
told_map is_broken text has = ([], refl)
told_map (ends_before rest) text has =
    let x = has rest refl in
    (header_map (map trailer_header x.0), record { lines = x.0; valid = x.1; spelled = x.2; entries_are = refl })

read_as : (t : Reading)
    → ((rest : List ℕ) → t.ending ≡ ends_before rest → (lines : List Trailer) × AllByRecursion IsTrailer lines × (section_text lines ≡ t.trailers))
    → (p : Payload) × IsReadAs t p
read_as t has =
    let x = told_map t.ending t.trailers has in
    (record { body = t.body; trailers = x.0; ending = t.ending }, record { body = refl; ending = refl; trailers = x.1 })

-- no text is no lines
no_lines : (e : Ending) (rest : List ℕ) → e ≡ ends_before rest → (lines : List Trailer) × AllByRecursion IsTrailer lines × (section_text lines ≡ [])
no_lines e rest is = ([], tt, refl)

rest_reads : (rest : Rest) (bytes : List ℕ) → Fits rest → (p : Payload) × IsReadAs (reading_of rest bytes) p
rest_reads no_rest bytes fits = read_as (reading_of no_rest bytes) (no_lines _)
rest_reads raw_rest bytes fits = read_as (reading_of raw_rest bytes) (no_lines _)
rest_reads (fixed_rest n) bytes fits = read_as (reading_of (fixed_rest n) bytes) (no_lines _)
rest_reads (chunks_rest place section) bytes fits = read_as (reading_of (chunks_rest place section) bytes) (fits bytes)
rest_reads (frames_rest under_way limit) bytes fits = absurd fits

reads_by : (b : Bool) (rest : Rest) (bytes : List ℕ) → Fits rest → (p : Payload) × ReadsBy b rest bytes p
reads_by true rest bytes fits = (no_payload is_broken, refl)
reads_by false rest bytes fits = rest_reads rest bytes fits

pub a_payload : (d : Decoding) (bytes : List ℕ) → Fits d.rest → (p : Payload) × Reads d bytes p
a_payload d bytes fits = reads_by d.is_broken d.rest bytes fits

-- ---- whole bodies

-- the text of a body in chunks
pub text_says : (t : ChunkedText) (rest : List ℕ) → IsChunkedText t
    → Reads (record { rest = chunks_rest start []; is_broken = false }) (chunked_text t ++ rest) (chunked_payload t rest)
text_says t rest ok =
    subst (λ r. IsReadAs r (chunked_payload t rest)) (sym (text_read t rest ok))
    (record { body = refl; ending = refl; trailers = record { lines = t.trailers; valid = ok.trailers; spelled = refl; entries_are = refl } })

-- fed in any pieces, it gives its bytes, its trailers and its end
pub pieces_of_text : (t : ChunkedText) (rest : List ℕ) (calls : List (Fed Decoding PayloadItem)) (z : List ℕ) (p : Payload) → IsChunkedText t
    → AreFed Reads given (record { rest = chunks_rest start []; is_broken = false }) [] calls → all_came calls ++ z ≡ chunked_text t ++ rest
    → LastReads Reads given (record { rest = chunks_rest start []; is_broken = false }) [] calls z p
    → all_told Reads given calls p ≡ chunked_payload t rest
pieces_of_text t rest calls z p ok fed whole last =
    let d : Decoding = record { rest = chunks_rest start []; is_broken = false } in
    let told = all_told Reads given calls p in
    let all = subst (λ l. Reads d l told) whole (pieces_are_whole Reads given d [] calls z p fed last) in
    one_payload d (chunked_text t ++ rest) told (chunked_payload t rest) all (text_says t rest ok)

-- a body of so many bytes
length_by : (n : ℕ) (bytes : List ℕ) (p : Payload) → IsReadAs (reading_of (fixed_rest n) bytes) p → p ≡ length_payload n bytes
length_by n bytes p x =
    let e = cond (leb n (length bytes)) (ends_before (drop n bytes)) goes_on in
    let none = told_none e p.trailers x.trailers in
    λ i. record { body = x.body i; trailers = none i; ending = x.ending i }
  where
    told_none : (e : Ending) (entries : Entries) → HasTrailers e [] entries → entries ≡ []
    told_none goes_on entries y = y
    told_none is_broken entries y = y
    told_none (ends_before rest) entries y =
        same_trailers [] entries [] y (record { lines = []; valid = tt; spelled = refl; entries_are = refl })

-- a length of 0 says what no body does
of_length : (n : ℕ) (bytes : List ℕ) → reading_of (whole_rest (fixed_body n)) bytes ≡ reading_of (fixed_rest n) bytes
of_length zero bytes =
    ap {B = Reading} (λ (e : Ending). record { body = []; trailers = []; ending = e })
    (sym (cond-true (leb 0 (length bytes)) (ends_before bytes) goes_on (le-leb 0 (length bytes) (omega arith))))
of_length (suc n) bytes =
    ap (λ r. reading_of r bytes) (cond-false (suc n == 0) no_rest (fixed_rest (suc n)) (ne_eqb (suc n) 0 (λ e. omega (arith, e))))

pub length_says : (n : ℕ) (bytes : List ℕ) (p : Payload) → Reads (record { rest = whole_rest (fixed_body n); is_broken = false }) bytes p
    → p ≡ length_payload n bytes
length_says n bytes p x = length_by n bytes p (subst (λ r. IsReadAs r p) (of_length n bytes) x)

pub pieces_of_length : (n : ℕ) (calls : List (Fed Decoding PayloadItem)) (z : List ℕ) (p : Payload)
    → AreFed Reads given (record { rest = whole_rest (fixed_body n); is_broken = false }) [] calls
    → LastReads Reads given (record { rest = whole_rest (fixed_body n); is_broken = false }) [] calls z p
    → all_told Reads given calls p ≡ length_payload n (all_came calls ++ z)
pieces_of_length n calls z p fed last =
    length_says n (all_came calls ++ z) (all_told Reads given calls p)
    (pieces_are_whole Reads given (record { rest = whole_rest (fixed_body n); is_broken = false }) [] calls z p fed last)
