-- The machine's steps where the next head is asked for.
use Rattle.std.proofs.lemmas.List.{length-take, length-drop}
use Rattle.std.proofs.Common.{◌≡◌, ℕ, zero, suc, ◌-◌, ◌≤◌, Bool, true, false, ◌&&◌, List, [], ◌∷◌, length, drop, Option, Some, None, Result, Ok, Err, ◌<◌, inl, refl, sym, ap, ◌∙◌, subst, arith}
use Rattle.std.specs.Prelude.{option_map, is_some, slice_range, ◌==◌, ◌||◌, not, IfOk, OnOk, if◌then◌else◌}
use Rattle.http_config.specs.Config.{Settings}
use Rattle.model_h1.specs.HeadPiece.{IsHeadPiece}
use Rattle.model_h1.specs.Request as model
use Rattle.model_h1.specs.Request.{Head, Reading, head_is, faulty, too_large, is_raw_kind}
use Rattle.model_h1.specs.RequestHead.{IsReading, IsReadingWithin}
use Rattle.model_h1.specs.Setting.{Setting}
use Rattle.model_h1.specs.Handshake as checks
use Rattle.model_h1.specs.Handshake.{handshake_error, accept_key_of}
use Rattle.http_map.specs.HeaderMap.{Entries, get_all}
use Rattle.ws_session.specs.Upgrade.{SaysUpgrade, FailsWith, error_of, value_bytes}
use Rattle.ws_session.specs.declared.verify.HandshakeError.{HandshakeError}
use Rattle.ws_session.proofs.ValueLemmas.{head_values}
use Rattle.model_h1.specs.Event as on
use Rattle.model_h1.specs.End as ends
use Rattle.model_state.specs.Kept as machine
use Rattle.model_state.specs.Kept.{Kept, Change, is_free, is_frames, is_nothing, is_open, is_answered, is_unanswered, now, rest_in, whole_rest, new_exchange, refusal_of, key_answer_of}
use Rattle.model_state.specs.Local.{closing_by, answered_end_of}
use Rattle.model_state.specs.Change.{IsStep, IsChange, IsNext, IsUpcoming, noting_since, behind_head, without_head}
use Rattle.h1_decoder.specs.HeadItem.{SaysHead, version_of, connection_type_of}
use Rattle.http_framing.specs.Kinds.{kind_of}
use Rattle.h1_encoder.specs.Meaning.{minor_of, model_type}
use Rattle.model_h1.specs.Answer.{Asked, asked_of}
use Rattle.http_types.specs.declared.message.ConnectionType.{ConnectionType}
use Rattle.h1_decoder.specs.declared.decoder.HeadItem.{HeadItem}
use Rattle.h1_decoder.specs.declared.scan.HeadScan.{HeadScan}
use Rattle.h1_decoder.specs.declared.scan.HeadScan.TheVariants.{Open, Piece}
use Rattle.h1_connection.specs.Incoming.{Incoming, is_coming_in, IsFoundIn, IsHeadIn, IsHeadOf}
use Rattle.h1_connection.specs.Stock.{Stock, incoming_of, is_bare, IsHeadAhead, IsPassedTo, HandsOut}
use Rattle.h1_connection.specs.EventMeaning.{setting_of, end_of, fault_of, failing_of}
use Rattle.h1_connection.specs.Parts.{key_bytes, kept_of, exchange_of, reply_of, leaves_body, HasNoneBehind, IsNoted, IsSound, IsSettled, Steps}
use Rattle.h1_connection.specs.Given.{HasOpened, is_head_kind}
use Rattle.h1_connection.specs.Heads.{IsAsked, IsFresh, after_head, refused, with_head, IsHeld, IsNexted, MayAsk, NumberGoes}
use Rattle.h1_connection.specs.declared.connection.exchange.Exchange.{Exchange}
use Rattle.h1_connection.specs.declared.connection.exchange.Reply.{Reply}
use Rattle.h1_connection.specs.declared.connection.exchange.Reply.TheVariants.{Unanswered}
use Rattle.h1_connection.specs.declared.connection.heads.NextHead.TheVariants as next
use Rattle.h1_connection.specs.declared.connection.heads.NextKind.{NextKind}
use Rattle.h1_connection.specs.declared.connection.heads.NextKind.TheVariants as next_kind
use Rattle.h1_connection.specs.declared.connection.parts.Parts.{Parts}
use Rattle.h1_connection.specs.declared.connection.request.Request.{Request}
use Rattle.h1_connection.specs.declared.event.End.{End}
use Rattle.h1_connection.specs.declared.event.HeadFault.{HeadFault}
use Rattle.h1_connection.proofs.ClosingLemmas.{handed_runs}
use Rattle.h1_connection.proofs.StepLemmas.{noted_same, quiet_step, settled_step, settled_sound}

-- ---- a next one that doesn't close

next_change : (set : Setting) (k : Kept) (coming : Bool) (c : Change) → closing_by set k ≡ None → k.is_coming ≡ coming
    → IsUpcoming set k coming c → IsChange set k on.next c
next_change set k coming c running is x =
    subst (λ (o : Option ends.End). IsNext set k o c) (sym running)
    (subst (λ (b : Bool). IsUpcoming set k b c) (sym is) x)

-- one that hands out a head
head_step : (set : Setting) (k later : Kept) (h : Head) (start end : ℕ) → closing_by set k ≡ None → k.is_coming ≡ true
    → IsHeadPiece k.unread start end → IsReadingWithin set.hold_size (slice_range k.unread start end) (head_is h)
    → later ≡ noting_since set (after_head k end h) → IsStep set k on.next (on.head h) later
head_step set k later h start end runs coming here reading later_is =
    let c : Change = behind_head k end (head_is h) in
    record {
      change = c;
      coming = false;
      changes = next_change set k true c runs coming (start, end, head_is h, here, reading, refl);
      answers = refl;
      comes = refl;
      keeps = later_is;
    }

-- where no head is found, none is coming
none_coming : (i : Incoming) (piece : Option HeadScan) → IsHeadIn i piece None → is_coming_in piece ≡ false
none_coming i None is = refl
none_coming i (Some Open) is = refl
none_coming i (Some (Piece start end)) is = absurd (cc is.1)

pub not_coming : (i : Incoming) → IsHeadOf i None → is_coming_in i.piece ≡ false
not_coming i is = none_coming i i.piece is

-- ---- the connection's end

pub closed_sound : (s : Settings) (p : Parts) → IsSound s p → IsSound s (record p { is_over = true })
unfolding closing_by
closed_sound s p sound = record { moment = sound.moment; searched = sound.searched; scanned = sound.scanned; behind = sound.behind; noted = sound.noted }

pub closed_steps : (s : Settings) (p : Parts) (end : End) → IsSound s p → option_map end_of (Some end) ≡ closing_by (setting_of s) (kept_of p)
    → Steps s p on.next (on.closed (end_of end)) (record p { is_over = true })
closed_steps s p end sound closes =
    let q : Parts = record p { is_over = true } in
    let c : Change = record { outcome = on.closed (end_of end); kept = kept_of q } in
    quiet_step s p q on.next (on.closed (end_of end)) (subst (λ (o : Option ends.End). IsNext (setting_of s) (kept_of p) o c) closes refl)
    (closed_sound s p sound)

-- ---- nothing, or too much

without_pending : (set : Setting) (k : Kept) (full : Bool) → (length k.unread == set.hold_size) ≡ full → full ≡ false
    → without_head set k ≡ record { outcome = on.pending; kept = k }
without_pending set k true is none = absurd (cc none)
without_pending set k false is none = rw is refl

without_full : (set : Setting) (k : Kept) (full : Bool) → (length k.unread == set.hold_size) ≡ full → full ≡ true
    → without_head set k ≡ behind_head k 0 (faulty too_large)
without_full set k false is none = absurd (cc none)
without_full set k true is none = rw is refl

pub pending_steps : (s : Settings) (p : Parts) → IsSound s p → closing_by (setting_of s) (kept_of p) ≡ None → IsHeadAhead p.input None
    → (length p.input.unread == s.h1_hold_size) ≡ false → Steps s p on.next on.pending p
pending_steps s p sound runs none room =
    quiet_step s p p on.next on.pending
    (next_change (setting_of s) (kept_of p) false (record { outcome = on.pending; kept = kept_of p }) runs (not_coming (incoming_of p.input) none)
    (sym (without_pending (setting_of s) (kept_of p) false room refl))) sound

-- a fault is settled as any change is
fault_steps : (s : Settings) (p q : Parts) (fault : HeadFault)
    → IsChange (setting_of s) (kept_of p) on.next (record { outcome = on.fault (fault_of fault); kept = refused fault (kept_of p) })
    → IsSettled (setting_of s) (refused fault (kept_of p)) q → Steps s p on.next (on.fault (fault_of fault)) q
fault_steps s p q fault changes settled =
    settled_step s p q on.next (on.fault (fault_of fault)) (refused fault (kept_of p)) (refused fault (kept_of p)) (kept_of p).is_coming changes refl settled

pub full_steps : (s : Settings) (p q : Parts) (fault : HeadFault) → fault_of fault ≡ too_large → closing_by (setting_of s) (kept_of p) ≡ None → IsHeadAhead p.input None
    → (length p.input.unread == s.h1_hold_size) ≡ true → IsSettled (setting_of s) (refused fault (kept_of p)) q
    → Steps s p on.next (on.fault (fault_of fault)) q
full_steps s p q fault large runs none full settled =
    fault_steps s p q fault
    (next_change (setting_of s) (kept_of p) false (record { outcome = on.fault (fault_of fault); kept = refused fault (kept_of p) }) runs (not_coming (incoming_of p.input) none)
    ((λ i. behind_head (kept_of p) 0 (faulty (large i))) ∙ sym (without_full (setting_of s) (kept_of p) true full refl))) settled

pub refused_sound : (s : Settings) (p q : Parts) (fault : HeadFault) → IsSound s p → IsSettled (setting_of s) (refused fault (kept_of p)) q → IsSound s q
refused_sound s p q fault sound settled = settled_sound s (refused fault (kept_of p)) q sound.moment settled

-- that a head is counted no more is no matter
pub forgotten_settled : (set : Setting) (k : Kept) (q : Parts) (after : Stock) → after ≡ record q.input { ahead = 0 } → IsSettled set k q
    → IsSettled set k (record q { input = after })
forgotten_settled set k q after is settled =
    subst (λ (i : Stock). IsSettled set k (record q { input = i })) (sym is)
    (record { kept = settled.kept; searched = settled.searched; scanned = settled.scanned; behind = λ left. refl })

-- ---- a head that was found

-- where it stands
record Stands (i : Incoming) (head : List ℕ) : Type 0 where
  pub start : ℕ
  pub end : ℕ
  pub piece : i.piece ≡ Some (Piece start end)
  pub here : IsHeadPiece i.unread start end
  pub head_is : head ≡ slice_range i.unread start end

stands_in : (i : Incoming) (piece : Option HeadScan) (head : List ℕ) → i.piece ≡ piece → IsHeadIn i piece (Some head) → Stands i head
stands_in i None head is found = absurd (cc found)
stands_in i (Some Open) head is found = absurd (cc found)
stands_in i (Some (Piece start end)) head is found = record { start = start; end = end; piece = is; here = found.0; head_is = cc found.1 }

found_at : (i : Incoming) (head : List ℕ) → IsHeadOf i (Some head) → Stands i head
found_at i head found = stands_in i i.piece head refl found

-- one is whole then
pub found_whole : (i : Incoming) (head : List ℕ) → IsHeadOf i (Some head) → is_coming_in i.piece ≡ true
found_whole i head found = ap is_coming_in (found_at i head found).piece

-- a part is no longer than the whole
slice_fits : (bytes : List ℕ) (start end : ℕ) → length (slice_range bytes start end) ≤ length bytes
slice_fits bytes start end = omega (arith, length-take (end - start) (drop start bytes), length-drop start bytes)

within : (s : Settings) (p : Parts) (head : List ℕ) (start end : ℕ) (what : Reading) → head ≡ slice_range p.input.unread start end → IsHeld s p → IsReading head what
    → IsReadingWithin s.h1_hold_size (slice_range p.input.unread start end) what
within s p head start end what is held reading =
    let fits : length (slice_range p.input.unread start end) ≤ s.h1_hold_size = omega (arith, slice_fits p.input.unread start end, held) in
    inl (fits, subst (λ (bytes : List ℕ). IsReading bytes what) is reading)

-- a fault of it
pub found_steps : (s : Settings) (p q : Parts) (head : List ℕ) (fault : HeadFault) → closing_by (setting_of s) (kept_of p) ≡ None → IsHeadAhead p.input (Some head)
    → IsReading head (faulty (fault_of fault)) → IsSettled (setting_of s) (refused fault (kept_of p)) q → IsHeld s p
    → Steps s p on.next (on.fault (fault_of fault)) q
found_steps s p q head fault runs found reading settled held =
    let at = found_at (incoming_of p.input) head found in
    let what = faulty (fault_of fault) in
    fault_steps s p q fault
    (next_change (setting_of s) (kept_of p) true (record { outcome = on.fault (fault_of fault); kept = refused fault (kept_of p) }) runs (found_whole (incoming_of p.input) head found)
    (at.start, at.end, what, at.here, within s p head at.start at.end what at.head_is held reading, refl)) settled

-- the head itself
pub head_steps : (s : Settings) (p q : Parts) (head : List ℕ) (item : HeadItem) (h : Head) → closing_by (setting_of s) (kept_of p) ≡ None → IsHeadAhead p.input (Some head)
    → IsReading head (head_is h) → SaysHead item h
    → ((piece : List ℕ) (h : Head) (start end : ℕ) → IsReading piece (head_is h) → SaysHead item h → p.input.piece ≡ Some (Piece start end)
    → kept_of q ≡ noting_since (setting_of s) (after_head (kept_of p) end h))
    → IsHeld s p → IsNexted s p (next.Head item) q
head_steps s p q head item h runs found reading says handed held =
    let at = found_at (incoming_of p.input) head found in (
      h,
      says,
      head_step (setting_of s) (kept_of p) (kept_of q) h at.start at.end runs (found_whole (incoming_of p.input) head found) at.here
          (within s p head at.start at.end (head_is h) at.head_is held reading)
          (handed head h at.start at.end reading says at.piece),
    )

-- ---- what is kept of its request

pub plain_same : (x : Exchange) (h : Head) (rest : machine.Rest) (request : Request) → IsAsked h request
    → x ≡ record { request = request; rest = rest; reply = Unanswered; was_pulled = false; was_dropped = false; had_continue = false; body_is_done = false }
    → exchange_of x ≡ new_exchange rest h
plain_same x h rest request asked is =
    ap (λ (y : Exchange). exchange_of y) is
    ∙ (λ i. record {
      asked = asked.asked i;
      has_body = asked.body i;
      expects = asked.expects i;
      refusal = asked.refusal i;
      accept_key = (ap (λ (a : Asked). key_bytes a.is_raw request.accept_key) asked.asked ∙ asked.accept_key) i;
      rest = rest;
      reply = machine.unanswered;
      was_pulled = false;
      was_dropped = false;
      had_continue = false;
      body_is_done = false;
    })

-- the input behind the head
pub passed_at : (i after : Stock) (start end : ℕ) → i.piece ≡ Some (Piece start end) → IsPassedTo i i.piece after
    → (after.unread ≡ drop end i.unread) × (after.piece ≡ None)
passed_at i after start end is passed = subst (λ (o : Option HeadScan). IsPassedTo i o after) is passed

passed_none : (i after : Stock) (piece : Option HeadScan) → IsPassedTo i piece after → after.piece ≡ None
passed_none i after None passed = absurd passed
passed_none i after (Some Open) passed = absurd passed
passed_none i after (Some (Piece start end)) passed = passed.1

pub passed_unsearched : (i after : Stock) → IsPassedTo i i.piece after → after.piece ≡ None
passed_unsearched i after passed = passed_none i after i.piece passed

-- the parts behind a head
abbrev pub handed : Parts → Stock → Exchange → Parts
handed p after x = record p { input = after; exchange = Some x }

-- what is left of its body isn't read as frames
in_plain : (ended : Bool) (unread : List ℕ) (rest : machine.Rest) → is_frames rest ≡ false → is_frames (rest_in ended unread rest) ≡ false
in_plain true [] machine.no_rest plain = refl
in_plain true [] machine.raw_rest plain = refl
in_plain true [] (machine.fixed_rest n) plain = refl
in_plain true [] (machine.chunks_rest place section) plain = refl
in_plain true [] (machine.frames_rest under_way limit) plain = plain
in_plain true (b ∷ unread) rest plain = plain
in_plain false unread rest plain = plain

whole_plain : (body : model.BodyKind) → is_frames (whole_rest body) ≡ false
whole_plain model.no_body = refl
whole_plain (model.fixed_body n) = by_test (n == 0)
  where
    by_test : (b : Bool) → is_frames (if b then machine.no_rest else machine.fixed_rest n) ≡ false
    by_test true = refl
    by_test false = refl
whole_plain model.chunked_body = refl
whole_plain model.raw_body = refl

rest_plain : (ended : Bool) (unread : List ℕ) (body : model.BodyKind) (rest : machine.Rest) → rest ≡ rest_in ended unread (whole_rest body) → is_frames rest ≡ false
rest_plain ended unread body rest is = ap is_frames is ∙ in_plain ended unread (whole_rest body) (whole_plain body)

-- so its request is open, and nothing closes
handed_open : (set : Setting) (p : Parts) (after : Stock) (x : Exchange) → closing_by set (kept_of p) ≡ None → x.reply ≡ Unanswered → is_frames x.rest ≡ false
    → closing_by set (kept_of (handed p after x)) ≡ None
handed_open set p after x runs waits plain =
    handed_runs set (kept_of p) (kept_of (handed p after x)) runs refl refl
    (ap (λ (r : Reply). answered_end_of (exchange_of x) (reply_of r)) waits)
    (ap (λ (r : Reply). is_frames x.rest || not (is_answered (reply_of r))) waits ∙ ap (λ (f : Bool). f || true) plain) plain

handed_noted : (set : Setting) (p : Parts) (after : Stock) (x : Exchange) → closing_by set (kept_of p) ≡ None → x.reply ≡ Unanswered → is_frames x.rest ≡ false
    → IsNoted set (kept_of (handed p after x))
handed_noted set p after x runs waits plain = λ is.
    let none = handed_open set p after x runs waits plain in
    absurd (let no : false ≡ true = sym (ap is_some none) ∙ is in cc no)

-- and waits for its answer
pub handed_opened : (s : Settings) (p : Parts) (after : Stock) (x : Exchange) (item : HeadItem) → closing_by (setting_of s) (kept_of p) ≡ None
    → IsFresh item p.has_ended after.unread x → HasOpened (setting_of s) p.is_over (kept_of (handed p after x))
handed_opened s p after x item runs fresh =
    let plain = rest_plain p.has_ended after.unread (kind_of item.body) x.rest fresh.rest in
    let waits : x.reply ≡ Unanswered = ap (λ (y : Exchange). y.reply) fresh.plain in
    record {
      over = refl;
      runs = handed_open (setting_of s) p after x runs waits plain;
      waits = (λ i. is_unanswered (reply_of (waits i)) && not (plain i));
    }

pub handed_kept : (s : Settings) (p : Parts) (after : Stock) (x : Exchange) (h : Head) (start end : ℕ) → closing_by (setting_of s) (kept_of p) ≡ None
    → p.input.piece ≡ Some (Piece start end) → IsPassedTo p.input p.input.piece after → (item : HeadItem) (piece : List ℕ) → IsReading piece (head_is h) → SaysHead item h
    → IsFresh item p.has_ended after.unread x → kept_of (handed p after x) ≡ noting_since (setting_of s) (after_head (kept_of p) end h)
handed_kept s p after x h start end runs at passed item piece reading says fresh =
    let set = setting_of s in
    let ends = passed_at p.input after start end at passed in
    let rest : x.rest ≡ rest_in p.has_ended (drop end p.input.unread) (whole_rest h.body) =
    fresh.rest ∙ (λ i. rest_in p.has_ended (ends.0 i) (whole_rest (says.body i))) in
    let exchange : exchange_of x ≡ new_exchange (rest_in p.has_ended (drop end p.input.unread) (whole_rest h.body)) h =
    plain_same x h x.rest x.request (fresh.asked piece h reading says) fresh.plain ∙ ap (λ (r : machine.Rest). new_exchange r h) rest in
    let plain : is_frames x.rest ≡ false = rest_plain p.has_ended after.unread (kind_of item.body) x.rest fresh.rest in
    let waits : x.reply ≡ Unanswered = ap (λ (y : Exchange). y.reply) fresh.plain in
    sym (noted_same set (kept_of (handed p after x)) (handed_noted set p after x runs waits plain))
    ∙ (λ i. noting_since set (record (kept_of p) { unread = ends.0 i; is_coming = is_coming_in (ends.1 i); exchange = Some (exchange i) }))

-- heads may be counted behind it where it has no body
bare_rest : (ended : Bool) (unread : List ℕ) (body : model.BodyKind) → not (model.has_body body) ≡ true → is_nothing (rest_in ended unread (whole_rest body)) ≡ true
bare_rest true [] model.no_body bare = refl
bare_rest true (b ∷ unread) model.no_body bare = refl
bare_rest false unread model.no_body bare = refl
bare_rest ended unread (model.fixed_body n) bare = absurd (cc bare)
bare_rest ended unread model.chunked_body bare = absurd (cc bare)
bare_rest ended unread model.raw_body bare = absurd (cc bare)

bare_raw : (body : model.BodyKind) → not (model.has_body body) ≡ true → is_raw_kind body ≡ false
bare_raw model.no_body bare = refl
bare_raw (model.fixed_body n) bare = absurd (cc bare)
bare_raw model.chunked_body bare = absurd (cc bare)
bare_raw model.raw_body bare = absurd (cc bare)

handed_behind : (p : Parts) (after : Stock) (x : Exchange) (item : HeadItem) (out : HandsOut p.input item after) → IsFresh item p.has_ended after.unread x
    → HasNoneBehind (kept_of (handed p after x)) after.ahead
handed_behind p after x item out fresh = λ left. by_number after.ahead out.behind left
  where
    nothing : is_bare item ≡ true → leaves_body (kept_of (handed p after x)) ≡ false
    nothing bare =
        let raw : x.request.asked.is_raw ≡ false =
        ap (λ a. a.is_raw) (fresh.asked out.head out.h out.reads out.says).asked
        ∙ bare_raw out.h.body (sym (ap (λ k. not (model.has_body k)) out.says.body) ∙ bare) in
        let rest : is_nothing x.rest ≡ true = ap is_nothing fresh.rest ∙ bare_rest p.has_ended after.unread (kind_of item.body) bare in
        (λ i. raw i || not (rest i))

    by_number : (n : ℕ) → (0 < n → is_bare item ≡ true) → leaves_body (kept_of (handed p after x)) ≡ true → n ≡ 0
    by_number zero bare left = refl
    by_number (suc n) bare left = absurd (let no : false ≡ true = sym (nothing (bare (omega arith))) ∙ left in cc no)

pub handed_sound : (s : Settings) (p : Parts) (after : Stock) (x : Exchange) (item : HeadItem) → IsSound s p → closing_by (setting_of s) (kept_of p) ≡ None
    → (out : HandsOut p.input item after) → IsFresh item p.has_ended after.unread x → IsSound s (handed p after x)
handed_sound s p after x item sound runs out fresh =
    let none : after.piece ≡ None = passed_unsearched p.input after out.passed in
    let waits : x.reply ≡ Unanswered = ap (λ (y : Exchange). y.reply) fresh.plain in
    let free : is_free (kept_of (handed p after x)) ≡ false = ap (λ (r : Reply). is_free (kept_of (handed p after (record x { reply = r })))) waits in
    record {
      moment = sound.moment;
      searched = ap is_some none ∙ sym free;
      scanned = subst (λ (o : Option HeadScan). IsFoundIn after.unread o) (sym none) tt;
      behind = handed_behind p after x item out fresh;
      noted = handed_noted (setting_of s) p after x runs waits (rest_plain p.has_ended after.unread (kind_of item.body) x.rest fresh.rest);
    }

-- ---- where no head is there, none is counted

-- an answered request of which something is left
left_open : (k : Kept) (e : Option machine.Exchange) → is_open (record k { exchange = e }) ≡ false → is_free (record k { exchange = e }) ≡ false
    → leaves_body (record k { exchange = e }) ≡ true
left_open k None closed busy = absurd (cc busy)
left_open k (Some x) closed busy = by_rest (is_frames x.rest) (is_answered x.reply) (is_nothing x.rest) x.asked.is_raw closed busy
  where
    by_rest : (frames answered nothing raw : Bool) → (frames || not answered) ≡ false → (answered && nothing) ≡ false → (raw || not nothing) ≡ true
    by_rest true answered nothing raw closed busy = absurd (cc closed)
    by_rest false false nothing raw closed busy = absurd (cc closed)
    by_rest false true true raw closed busy = absurd (cc busy)
    by_rest false true false true closed busy = refl
    by_rest false true false false closed busy = refl

pub none_ahead_here : (s : Settings) (p : Parts) → IsSound s p → closing_by (setting_of s) (kept_of p) ≡ None → (is_some p.input.piece ≡ true → p.input.ahead ≡ 0)
    → MayAsk (setting_of s) (kept_of p) → p.input.ahead ≡ 0
none_ahead_here s p sound runs none may = by_free (is_free (kept_of p)) refl
  where
    closed : is_open (kept_of p) ≡ false
    closed = not_true (is_open (kept_of p)) (sym (ap (λ (o : Option ends.End). is_some o || not (is_open (kept_of p))) runs) ∙ may)
      where
        not_true : (b : Bool) → not b ≡ true → b ≡ false
        not_true true is = absurd (cc is)
        not_true false is = refl

    by_free : (free : Bool) → is_free (kept_of p) ≡ free → p.input.ahead ≡ 0
    by_free true is = none (sound.searched ∙ is)
    by_free false is = sound.behind (left_open (kept_of p) (kept_of p).exchange closed is)

-- so behind it there is none either
pub none_counts : {E : Type 0} (s : Settings) (p q : Parts) (item : HeadItem) (r : Result NextKind E) → OnOk r (q.input.ahead ≡ p.input.ahead) → IfOk r (λ kind. is_head_kind kind ≡ false)
    → (MayAsk (setting_of s) (kept_of p) → p.input.ahead ≡ 0) → IfOk r (λ kind. MayAsk (setting_of s) (kept_of p) → IsHeld s p → NumberGoes s p (with_head item kind) q)
none_counts s p q item (Err e) same no_head none = tt
none_counts s p q item (Ok next_kind.Head) same no_head none = absurd (cc no_head)
none_counts s p q item (Ok (next_kind.Fault fault)) same no_head none = λ may held. (omega (arith, none may), same ∙ none may)
none_counts s p q item (Ok next_kind.Pending) same no_head none = λ may held. same
none_counts s p q item (Ok (next_kind.Closed end)) same no_head none = λ may held. same

-- ---- what is kept of a request is what its head asks

-- a version has its number back
minor_same : (m : ℕ) → m ≤ 1 → minor_of (version_of m) ≡ m
minor_same zero small = refl
minor_same (suc zero) small = refl
minor_same (suc (suc m)) small = absurd (omega (arith, small))

-- and a connection type
type_same : (t : model.ConnectionType) → model_type (connection_type_of t) ≡ t
type_same model.close = refl
type_same model.keep_alive = refl
type_same model.upgrade = refl

pub asked_by : (piece : List ℕ) (item : HeadItem) (h : Head) (a : Asked) (is_head is_raw : Bool) (kind : ConnectionType) → IsReading piece (head_is h) → SaysHead item h
    → a ≡ record { minor = minor_of item.head.version; is_head = is_head; is_raw = is_raw; connection = model_type kind }
    → is_head ≡ (asked_of h).is_head → is_raw ≡ (asked_of h).is_raw → kind ≡ connection_type_of (asked_of h).connection → a ≡ asked_of h
asked_by piece item h a is_head is_raw kind reading says is head raw connection =
    let small : h.minor ≤ 1 = omega (arith, reading.1.minor_is, reading.1.reads.0.minor) in
    is ∙ (λ i. record {
      minor = (ap minor_of says.version ∙ minor_same h.minor small) i;
      is_head = head i;
      is_raw = raw i;
      connection = (ap model_type connection ∙ type_same (asked_of h).connection) i;
    })

-- where the input stayed, all is said of the parts as they were
pub settled_same : (s : Settings) (p q : Parts) (i : Stock) (fault : HeadFault) → i ≡ p.input → IsSettled (setting_of s) (refused fault (kept_of (record p { input = i }))) q
    → IsSettled (setting_of s) (refused fault (kept_of p)) q
settled_same s p q i fault same settled = subst (λ (j : Stock). IsSettled (setting_of s) (refused fault (kept_of (record p { input = j }))) q) same settled

-- ---- what an upgrade needs of it

-- an error has its check back
failing_same : (e : checks.HandshakeError) → failing_of (error_of e) ≡ e
failing_same checks.get_method_required = refl
failing_same checks.no_websocket_upgrade = refl
failing_same checks.no_connection_upgrade = refl
failing_same checks.no_version_header = refl
failing_same checks.unsupported_version = refl
failing_same checks.bad_websocket_key = refl

-- the first check that fails
pub fails_with : (e : HandshakeError) (failing : Option checks.HandshakeError) → FailsWith e failing → Some (failing_of e) ≡ failing
fails_with e None fails = absurd fails
fails_with e (Some check) fails = ap (λ (f : HandshakeError). Some (failing_of f)) fails ∙ ap (λ (f : checks.HandshakeError). Some f) (failing_same check)

-- a head that was read says of an upgrade what it says
pub says_upgrade : (item : HeadItem) (h : Head) → SaysHead item h → SaysUpgrade item.head h
says_upgrade item h says =
    record {
      method = says.method;
      values = λ name. ap (λ (entries : Entries). value_bytes (get_all entries name)) says.headers ∙ head_values name h.headers;
    }

-- a request that isn't raw has none, and a raw one its own
pub no_refusal : (h : Head) → (asked_of h).is_raw ≡ false → None ≡ refusal_of h
no_refusal h raw = sym (ap (λ (b : Bool). if b then handshake_error h else None) raw)

pub raw_refusal : (h : Head) → (asked_of h).is_raw ≡ true → refusal_of h ≡ handshake_error h
raw_refusal h raw = ap (λ (b : Bool). if b then handshake_error h else None) raw

pub no_key : (h : Head) → (asked_of h).is_raw ≡ false → key_bytes (asked_of h).is_raw None ≡ key_answer_of h
no_key h raw = ap (λ (b : Bool). key_bytes b None) raw ∙ sym (ap (λ (b : Bool). if b then accept_key_of h else []) raw)

pub raw_key : (h : Head) (key : List ℕ) → (asked_of h).is_raw ≡ true → key ≡ accept_key_of h → key_bytes (asked_of h).is_raw (Some key) ≡ key_answer_of h
raw_key h key raw is = ap (λ (b : Bool). key_bytes b (Some key)) raw ∙ is ∙ sym (ap (λ (b : Bool). if b then accept_key_of h else []) raw)
