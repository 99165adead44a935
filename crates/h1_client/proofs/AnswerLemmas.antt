-- The machine's steps where the next answer is asked for.
use Rattle.std.proofs.Common.{◌≡◌, ℕ, ◌<◌, ◌≤◌, Bool, true, false, not, ◌&&◌, ◌||◌, List, [], ◌∷◌, length, drop, Option, Some, None, inl, inr, refl, sym, ap, ◌∙◌, subst}
use Rattle.std.specs.Prelude.{◌⊎◌, option_map, is_some, slice_range, bytes_eq, codes, ◌==◌, if◌then◌else◌, IsSome}
use Rattle.std.specs.List.{list_any}
use Rattle.model_h1.specs.HeadPiece.{IsHeadPiece}
use Rattle.model_h1.specs.Request as model
use Rattle.model_h1.specs.Request.{Fault, too_large, has_body}
use Rattle.model_h1.specs.Setting.{Setting}
use Rattle.model_state.specs.Kept.{rest_in, whole_rest}
use Rattle.h1_payload.specs.Fitting.{Fits}
use Rattle.h1_payload.proofs.Fitting.{whole_fits}
use Rattle.h1_decoder.specs.ResponseItem.{SaysAnswer}
use Rattle.h1_decoder.specs.declared.response.ResponseItem.{ResponseItem}
use Rattle.h1_decoder.specs.declared.scan.HeadScan.{HeadScan}
use Rattle.h1_decoder.specs.declared.scan.HeadScan.TheVariants.{Open, Piece}
use Rattle.h1_client.specs.HeadMeaning.{fault_of}
use Rattle.h1_client.specs.declared.heads.AnswerFault.{AnswerFault}
use Rattle.model_client.specs.AnswerTable.{body_to}
use Rattle.model_client.specs.AnswerParse.{is_interim}
use Rattle.model_client.specs.AnswerReading.{Answer, AnswerReading, answer_is, refused, IsAnswerReading, IsAnswerReadingWithin}
use Rattle.model_client.specs.ClientEvent as on
use Rattle.model_client.specs.ClientEvent.{ClientEnd}
use Rattle.model_client.specs.ClientKept.{Waiting, ClientKept, client_closing, is_free, is_last}
use Rattle.model_client.specs.ClientStep.{ClientChange, IsClientChange, IsNext, IsUpcoming, behind_head, behind_answer, behind_final, without_head, fault_end, is_closed_after, new_body}
use Rattle.h1_client.specs.Answers.{SaysNext, IsNexted, IsAnswered, IsBegun, NeedsNoMemory}
use Rattle.h1_client.specs.Incoming.{Incoming, is_coming_in, IsFound, IsFoundIn, place_in}
use Rattle.h1_client.specs.ClientMeaning.{end_of}
use Rattle.h1_client.specs.Parts.{kept_of, AreFirst, IsFirst, FitsIn, MayBeSearched, IsSound, IsSettled, IsSettledAs, Steps}
use Rattle.h1_client.specs.declared.connection.parts.Parts.{Parts}
use Rattle.h1_client.specs.declared.connection.queue.First.{First}
use Rattle.h1_client.specs.declared.event.ClientEnd as ends
use Rattle.h1_client.specs.declared.event.NextAnswer.TheVariants as next
use Rattle.h1_client.proofs.BodyLemmas.{fits_at_end}
use Rattle.h1_client.proofs.StepLemmas.{quiet_step, settled_step, settled_as, settled_sound}

-- ---- what is changed where nothing closes

running_change : (set : Setting) (k : ClientKept) (waiting : List Waiting) (coming : Bool) (c : ClientChange) → client_closing k ≡ None → k.waiting ≡ waiting
    → k.is_coming ≡ coming → IsUpcoming set k waiting coming c → IsClientChange set k on.next c
running_change set k waiting coming c runs waits is x =
    subst (λ (o : Option ClientEnd). IsNext set k o c) (sym runs)
    (subst (λ (b : Bool). IsUpcoming set k k.waiting b c) (sym is)
    (subst (λ (ws : List Waiting). IsUpcoming set k ws coming c) (sym waits) x))

-- ---- the connection's end

pub closed_sound : (p : Parts) → IsSound p → IsSound (record p { is_over = true })
closed_sound p sound = record { moment = sound.moment; searched = sound.searched; scanned = sound.scanned; last = sound.last; fits = sound.fits }

pub closed_next : (set : Setting) (p : Parts) (end : ends.ClientEnd) → IsSound p → Some (end_of end) ≡ client_closing (kept_of p)
    → IsNexted set p (next.Closed end) (record p { is_over = true })
closed_next set p end sound closes =
    let q : Parts = record p { is_over = true } in (
      on.closed (end_of end),
      refl,
      quiet_step set p q on.next (on.closed (end_of end))
          (subst (λ (o : Option ClientEnd). IsNext set (kept_of p) o (record { outcome = on.closed (end_of end); kept = kept_of q })) closes refl) (closed_sound p sound),
    )

-- ---- no head, or too much

none_coming : (piece : Option HeadScan) → place_in piece ≡ None → is_coming_in piece ≡ false
none_coming None is = refl
none_coming (Some Open) is = refl
none_coming (Some (Piece start end)) is = absurd (cc is)

-- with no head coming, whoever waits
without_change : (set : Setting) (k : ClientKept) (ws : List Waiting) → client_closing k ≡ None → k.waiting ≡ ws → k.is_coming ≡ false
    → IsClientChange set k on.next (without_head set k)
without_change set k [] runs waits none = running_change set k [] false (without_head set k) runs waits none refl
without_change set k (w ∷ ws) runs waits none = running_change set k (w ∷ ws) false (without_head set k) runs waits none refl

pub pending_next : (set : Setting) (p : Parts) → IsSound p → client_closing (kept_of p) ≡ None → place_in p.input.piece ≡ None
    → (length p.input.unread == set.hold_size) ≡ false → IsNexted set p next.Pending p
pending_next set p sound runs none room =
    let k = kept_of p in
    let same : without_head set k ≡ record { outcome = on.pending; kept = k } =
    ap (λ (b : Bool). if b then record { outcome = on.fault too_large; kept = record k { failed = Some on.large_answer } } else record { outcome = on.pending; kept = k }) room in (
      on.pending,
      refl,
      quiet_step set p p on.next on.pending
          (subst (λ (c : ClientChange). IsClientChange set k on.next c) same (without_change set k k.waiting runs refl (none_coming p.input.piece none))) sound,
    )

pub failed_sound : (p : Parts) (failed : Option ends.ClientEnd) → IsSound p → IsSound (record p { failed = failed })
failed_sound p failed sound = record { moment = sound.moment; searched = sound.searched; scanned = sound.scanned; last = sound.last; fits = sound.fits }

pub full_next : (set : Setting) (p : Parts) (fault : AnswerFault) (end : ends.ClientEnd) → fault_of fault ≡ too_large → end_of end ≡ on.large_answer
    → IsSound p → client_closing (kept_of p) ≡ None → place_in p.input.piece ≡ None → (length p.input.unread == set.hold_size) ≡ true
    → IsNexted set p (next.Fault fault) (record p { failed = Some end })
full_next set p fault end large ends_so sound runs none full =
    let k = kept_of p in
    let q : Parts = record p { failed = Some end } in
    let same : without_head set k ≡ record { outcome = on.fault (fault_of fault); kept = kept_of q } =
    ap (λ (b : Bool). if b then record { outcome = on.fault too_large; kept = record k { failed = Some on.large_answer } } else record { outcome = on.pending; kept = k }) full
    ∙ (λ i. record { outcome = on.fault (sym large i); kept = record k { failed = Some (sym ends_so i) } }) in (
      on.fault (fault_of fault),
      refl,
      quiet_step set p q on.next (on.fault (fault_of fault))
          (subst (λ (c : ClientChange). IsClientChange set k on.next c) same (without_change set k k.waiting runs refl (none_coming p.input.piece none)))
          (failed_sound p (Some end) sound),
    )

-- ---- a head that was found

-- where it stands
record Found (i : Incoming) (start end : ℕ) : Type 0 where
  pub piece : i.piece ≡ Some (Piece start end)
  pub here : IsHeadPiece i.unread start end

some_same : (x y : ℕ × ℕ) → Some x ≡ Some y → x ≡ y
some_same x y is = cc is

found_by : (unread : List ℕ) (piece : Option HeadScan) (start end : ℕ) → place_in piece ≡ Some (start, end) → IsFoundIn unread piece
    → (piece ≡ Some (Piece start end)) × IsHeadPiece unread start end
found_by unread None start end is found = absurd (cc is)
found_by unread (Some Open) start end is found = absurd (cc is)
found_by unread (Some (Piece a b)) start end is found =
    let same = some_same (a, b) (start, end) is in
    let first : a ≡ start = ap (λ (x : ℕ × ℕ). x.0) same in
    let second : b ≡ end = ap (λ (x : ℕ × ℕ). x.1) same in
    ((λ i. Some (Piece (first i) (second i))), subst (λ (x : ℕ). IsHeadPiece unread x end) first (subst (λ (x : ℕ). IsHeadPiece unread a x) second found))

found_at : (i : Incoming) (start end : ℕ) → place_in i.piece ≡ Some (start, end) → IsFound i → Found i start end
found_at i start end is found = let x = found_by i.unread i.piece start end is found in record { piece = x.0; here = x.1 }

-- one that nobody waits for isn't handed out
pub unasked_next : (set : Setting) (p : Parts) (start end : ℕ) → IsSound p → client_closing (kept_of p) ≡ None → place_in p.input.piece ≡ Some (start, end)
    → p.waiting ≡ [] → IsNexted set p next.Pending p
unasked_next set p start end sound runs place none =
    let found = found_at p.input start end place sound.scanned in
    let k = kept_of p in (
      on.pending,
      refl,
      quiet_step set p p on.next on.pending
          (running_change set k [] true (record { outcome = on.pending; kept = k }) runs none (ap (λ (o : Option HeadScan). is_coming_in o) found.piece) refl) sound,
    )

none_first : (ws : List Waiting) (first : Option First) → AreFirst ws first → first ≡ None → ws ≡ []
none_first [] first are is = refl
none_first (w ∷ ws) None are is = absurd are
none_first (w ∷ ws) (Some x) are is = absurd (cc is)

pub nobody_waits : (ws : List Waiting) (first : Option First) → AreFirst ws first → first ≡ None → ws ≡ []
nobody_waits ws first are is = none_first ws first are is

-- who waits
pub record Waits (ws : List Waiting) (first : First) : Type 0 where
  pub one : Waiting
  pub others : List Waiting
  pub all : ws ≡ one ∷ others
  pub asked : IsFirst one first

pub somebody_waits : (ws : List Waiting) (o : Option First) (first : First) → AreFirst ws o → o ≡ Some first → Waits ws first
somebody_waits [] o first are is = absurd (cc (are, is))
somebody_waits (w ∷ ws) None first are is = absurd are
somebody_waits (w ∷ ws) (Some x) first are is =
    let same : x ≡ first = cc is in
    record { one = w; others = ws; all = refl; asked = subst (λ (f : First). IsFirst w f) same are }

-- what the head that was found makes
found_change : (set : Setting) (p : Parts) (start end : ℕ) (w : Waiting) (ws : List Waiting) (what : AnswerReading) → IsSound p → client_closing (kept_of p) ≡ None
    → place_in p.input.piece ≡ Some (start, end) → p.waiting ≡ w ∷ ws → IsAnswerReadingWithin (Some set.hold_size) (slice_range p.input.unread start end) what
    → IsClientChange set (kept_of p) on.next (behind_head (kept_of p) end w ws what)
found_change set p start end w ws what sound runs place waits reading =
    let found = found_at p.input start end place sound.scanned in
    running_change set (kept_of p) (w ∷ ws) true (behind_head (kept_of p) end w ws what) runs waits (ap (λ (o : Option HeadScan). is_coming_in o) found.piece)
    (start, end, what, found.here, reading, refl)

-- a fault of it
pub refused_next : (set : Setting) (p : Parts) (start end : ℕ) (first : First) (fault : AnswerFault) (failed : ends.ClientEnd) → IsSound p
    → client_closing (kept_of p) ≡ None → place_in p.input.piece ≡ Some (start, end) → Waits p.waiting first
    → IsAnswerReadingWithin (Some set.hold_size) (slice_range p.input.unread start end) (refused (fault_of fault)) → end_of failed ≡ fault_end (fault_of fault)
    → IsNexted set p (next.Fault fault) (record p { failed = Some failed })
refused_next set p start end first fault failed sound runs place waits reading ends_so =
    let q : Parts = record p { failed = Some failed } in
    let same : (behind_head (kept_of p) end waits.one waits.others (refused (fault_of fault))) ≡ record { outcome = on.fault (fault_of fault); kept = kept_of q } =
    λ i. record { outcome = on.fault (fault_of fault); kept = record (kept_of p) { failed = Some (sym ends_so i) } } in (
      on.fault (fault_of fault),
      refl,
      quiet_step set p q on.next (on.fault (fault_of fault))
          (subst (λ (c : ClientChange). IsClientChange set (kept_of p) on.next c) same
          (found_change set p start end waits.one waits.others (refused (fault_of fault)) sound runs place waits.all reading))
          (failed_sound p (Some failed) sound),
    )

-- the head itself
pub answer_next : (set : Setting) (p q : Parts) (start end : ℕ) (first : First) (item : ResponseItem) (a : Answer) → IsSound p → client_closing (kept_of p) ≡ None
    → place_in p.input.piece ≡ Some (start, end) → (waits : Waits p.waiting first)
    → IsAnswerReadingWithin (Some set.hold_size) (slice_range p.input.unread start end) (answer_is a) → SaysAnswer item a
    → IsSettledAs (behind_answer (kept_of p) (drop end p.input.unread) a waits.one waits.others) q → IsNexted set p (next.Answer item) q
answer_next set p q start end first item a sound runs place waits reading says settled = (
  on.answer a,
  (a, says, refl),
  settled_step set p q on.next (on.answer a) (behind_answer (kept_of p) (drop end p.input.unread) a waits.one waits.others)
      (found_change set p start end waits.one waits.others (answer_is a) sound runs place waits.all reading) settled,
)

-- it was read as a head that isn't too long
pub was_read : (piece : List ℕ) (size : ℕ) (a : Answer) → IsAnswerReadingWithin (Some size) piece (answer_is a) → IsAnswerReading piece (answer_is a)
was_read piece size a (inl short) = short.1
was_read piece size a (inr long) = absurd (cc long.1)

-- ---- the answer is handed out

-- the head is passed
abbrev pub passed_parts : Parts → ℕ → Parts
passed_parts p end = record p { input = record { unread = drop end p.input.unread; piece = None } }

interim_kept : (k : ClientKept) (unread : List ℕ) (a : Answer) (w : Waiting) (ws : List Waiting) → is_interim a.status ≡ true
    → record k { unread = unread } ≡ behind_answer k unread a w ws
interim_kept k unread a w ws is = ap (λ (b : Bool). if b then record k { unread = unread } else behind_final k unread a w ws) (sym is)

final_kept : (k : ClientKept) (unread : List ℕ) (a : Answer) (w : Waiting) (ws : List Waiting) → is_interim a.status ≡ false
    → behind_final k unread a w ws ≡ behind_answer k unread a w ws
final_kept k unread a w ws is = ap (λ (b : Bool). if b then record k { unread = unread } else behind_final k unread a w ws) (sym is)

-- an interim one
pub interim_settled : (p m q : Parts) (end : ℕ) (a : Answer) (w : Waiting) (ws : List Waiting) → m ≡ passed_parts p end → is_interim a.status ≡ true → IsSettled m q
    → IsSettledAs (behind_answer (kept_of p) (drop end p.input.unread) a w ws) q
interim_settled p m q end a w ws m_is interim settled =
    settled_as m q (behind_answer (kept_of p) (drop end p.input.unread) a w ws) false
    (ap (λ (m : Parts). kept_of m) m_is ∙ ap (λ (k : ClientKept). record k { is_coming = false }) (interim_kept (kept_of p) (drop end p.input.unread) a w ws interim)) settled

pub interim_sound : (p m q : Parts) (end : ℕ) → m ≡ passed_parts p end → IsSound p → IsSettled m q → IsSound q
interim_sound p m q end m_is sound settled =
    settled_sound (passed_parts p end) q sound.moment sound.last sound.fits (subst (λ (m : Parts). IsSettled m q) m_is settled)

-- nothing is searched for behind a head, until it is
pub passed_head_may : (p m : Parts) (end : ℕ) → m.input ≡ record { unread = drop end p.input.unread; piece = None } → MayBeSearched m
passed_head_may p m end is = λ busy. ap (λ (i : Incoming). i.piece) is

-- any other
rest_fits : (ended : Bool) (bytes : List ℕ) (kind : model.BodyKind) → Fits (rest_in ended bytes (whole_rest kind))
rest_fits true bytes kind = fits_at_end bytes (whole_rest kind) (whole_fits kind)
rest_fits false bytes kind = whole_fits kind

final_same : (p m : Parts) (end : ℕ) (first : First) (item : ResponseItem) (piece : List ℕ) (a : Answer) (w : Waiting) (ws : List Waiting) → IsAnswered (passed_parts p end) first item m
    → IsAnswerReading piece (answer_is a) → SaysAnswer item a → p.waiting ≡ w ∷ ws → IsFirst w first
    → kept_of m ≡ record (behind_final (kept_of p) (drop end p.input.unread) a w ws) { is_coming = false }
final_same p m end first item piece a w ws answered reading says waits asked =
    let k = kept_of p in
    let unread = drop end p.input.unread in
    let kind = answered.kind_is a w.method says asked.is_head in
    ap (λ (m : Parts). kept_of m) answered.parts
    ∙ (λ i. record k {
      unread = unread;
      is_coming = false;
      waiting = drop 1 (waits i);
      closes = answered.closes piece a w reading says asked i;
      reading = Some (record { rest = rest_in k.has_ended unread (whole_rest (kind i)); is_done = not (has_body (kind i)); was_dropped = false });
    })

pub final_settled : (p m q : Parts) (end : ℕ) (first : First) (item : ResponseItem) (piece : List ℕ) (a : Answer) (w : Waiting) (ws : List Waiting)
    → IsAnswered (passed_parts p end) first item m → IsAnswerReading piece (answer_is a) → SaysAnswer item a → p.waiting ≡ w ∷ ws → IsFirst w first
    → is_interim a.status ≡ false → IsSettled m q → IsSettledAs (behind_answer (kept_of p) (drop end p.input.unread) a w ws) q
final_settled p m q end first item piece a w ws answered reading says waits asked final settled =
    settled_as m q (behind_answer (kept_of p) (drop end p.input.unread) a w ws) false
    (final_same p m end first item piece a w ws answered reading says waits asked
    ∙ ap (λ (k : ClientKept). record k { is_coming = false }) (final_kept (kept_of p) (drop end p.input.unread) a w ws final)) settled

-- the connection doesn't close yet
case_open : (failed : Option ClientEnd) (free closes : Bool) (rest : Option ClientEnd)
    → (if is_some failed then failed else (if not free then None else (if closes then Some on.asked else rest))) ≡ None → free ≡ true → closes ≡ false
case_open (Some x) free closes rest runs is = absurd (cc runs)
case_open None false closes rest runs is = absurd (cc is)
case_open None true true rest runs is = absurd (cc runs)
case_open None true false rest runs is = refl

still_open : (p : Parts) (start end : ℕ) → IsSound p → client_closing (kept_of p) ≡ None → place_in p.input.piece ≡ Some (start, end) → p.closes ≡ false
still_open p start end sound runs place =
    let found = found_at p.input start end place sound.scanned in
    let free : is_free (kept_of p) ≡ true = sym sound.searched ∙ ap is_some found.piece in
    case_open (kept_of p).failed (is_free (kept_of p)) p.closes _ runs free

closed_case : (first closes others : Bool) → (first ≡ true → closes ≡ true) → ((first || others) || closes) ≡ (closes || others)
closed_case true true others so = refl
closed_case true false others so = absurd (cc (so refl))
closed_case false true true so = refl
closed_case false true false so = refl
closed_case false false true so = refl
closed_case false false false so = refl

-- one that asks for it closes it
closes_then : (w : Waiting) (a : Answer) → w.closes ≡ true → is_closed_after w a ≡ true
closes_then w a is = ap (λ (b : Bool). is_closed_after (record { method = w.method; closes = b }) a) is

pub final_sound : (p m q : Parts) (start end : ℕ) (first : First) (item : ResponseItem) (piece : List ℕ) (a : Answer) (w : Waiting) (ws : List Waiting)
    → IsAnswered (passed_parts p end) first item m → IsAnswerReading piece (answer_is a) → SaysAnswer item a → p.waiting ≡ w ∷ ws → IsFirst w first
    → IsSound p → client_closing (kept_of p) ≡ None → place_in p.input.piece ≡ Some (start, end) → IsSettled m q → IsSound q
final_sound p m q start end first item piece a w ws answered reading says waits asked sound runs place settled =
    let any : List Waiting → Bool = λ ws. list_any (λ w. w.closes) ws in
    let closes = answered.closes piece a w reading says asked in
    let was : p.is_last ≡ (w.closes || any ws) = sound.last ∙ (λ i. still_open p start end sound runs place i || any (waits i)) in
    let r : Parts = record (passed_parts p end) {
      waiting = drop 1 p.waiting;
      closes = m.closes;
      is_last = p.is_last || m.closes;
      reading = Some (record { rest = rest_in p.has_ended (drop end p.input.unread) (whole_rest answered.kind); is_done = not (has_body answered.kind); was_dropped = false });
    } in
    let last : (p.is_last || m.closes) ≡ (m.closes || any (drop 1 p.waiting)) =
    (λ i. was i || m.closes) ∙ closed_case w.closes m.closes (any ws) (λ is. closes ∙ closes_then w a is) ∙ (λ i. m.closes || any (drop 1 (sym waits i))) in
    settled_sound r q sound.moment last (λ wanted. rest_fits p.has_ended (drop end p.input.unread) answered.kind) (subst (λ (m : Parts). IsSettled m q) answered.parts settled)

-- ---- whichever it is

pub handed_settled : (p m q : Parts) (i : Incoming) (start end : ℕ) (first : First) (item : ResponseItem) (a : Answer) (w : Waiting) (ws : List Waiting)
    → i ≡ record { unread = drop end p.input.unread; piece = None } → IsBegun (record p { input = i }) first item m
    → IsAnswerReading (slice_range p.input.unread start end) (answer_is a) → SaysAnswer item a → p.waiting ≡ w ∷ ws → IsFirst w first → IsSettled m q
    → IsSettledAs (behind_answer (kept_of p) (drop end p.input.unread) a w ws) q
handed_settled p m q i start end first item a w ws i_is begun reading says waits asked settled =
    by_kind (subst (λ (i : Incoming). IsBegun (record p { input = i }) first item m) i_is begun) (is_interim a.status) refl
  where
    by_kind : IsBegun (passed_parts p end) first item m → (t : Bool) → is_interim a.status ≡ t
        → IsSettledAs (behind_answer (kept_of p) (drop end p.input.unread) a w ws) q
    by_kind begun true is = interim_settled p m q end a w ws (begun.interim a says is) is settled
    by_kind begun false is =
        final_settled p m q end first item (slice_range p.input.unread start end) a w ws (begun.final a says is) reading says waits asked is settled

pub handed_sound : (p m q : Parts) (i : Incoming) (start end : ℕ) (first : First) (item : ResponseItem) (a : Answer) (w : Waiting) (ws : List Waiting)
    → i ≡ record { unread = drop end p.input.unread; piece = None } → IsBegun (record p { input = i }) first item m
    → IsAnswerReading (slice_range p.input.unread start end) (answer_is a) → SaysAnswer item a → p.waiting ≡ w ∷ ws → IsFirst w first
    → IsSound p → client_closing (kept_of p) ≡ None → place_in p.input.piece ≡ Some (start, end) → IsSettled m q → IsSound q
handed_sound p m q i start end first item a w ws i_is begun reading says waits asked sound runs place settled =
    by_kind (subst (λ (i : Incoming). IsBegun (record p { input = i }) first item m) i_is begun) (is_interim a.status) refl
  where
    by_kind : IsBegun (passed_parts p end) first item m → (t : Bool) → is_interim a.status ≡ t → IsSound q
    by_kind begun true is = interim_sound p m q end (begun.interim a says is) sound settled
    by_kind begun false is =
        final_sound p m q start end first item (slice_range p.input.unread start end) a w ws (begun.final a says is) reading says waits asked sound runs place settled

pub begun_may : (m : Parts) (i : Incoming) (unread : List ℕ) → m.input ≡ i → i ≡ record { unread = unread; piece = None } → MayBeSearched m
begun_may m i unread same is = λ busy. ap (λ (i : Incoming). i.piece) (same ∙ is)

-- ---- memory

pub needs_by : {X : Type 0} (o : Option ClientEnd) → o ≡ None → IsSome o ⊎ X → X
needs_by None is (inl some) = absurd (cc some)
needs_by None is (inr x) = x
needs_by (Some end) is needs = absurd (cc is)

pub placed_coming : (piece : Option HeadScan) (place : ℕ × ℕ) → Some place ≡ place_in piece → is_coming_in piece ≡ false → ⊥
placed_coming None place is none = absurd (cc is)
placed_coming (Some Open) place is none = absurd (cc is)
placed_coming (Some (Piece start end)) place is none = absurd (cc none)
