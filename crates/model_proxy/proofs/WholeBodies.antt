-- A request's body that ended has as many bytes as its head states.
use Rattle.std.proofs.Common.{◌≡◌, ℕ, ◌+◌, ◌≤◌, Bool, true, false, List, [], ◌∷◌, ◌++◌, length, drop, reverse, Option, Some, None, MatchOption, unwrap_or, refl, sym, ap, ap₂, ◌∙◌, subst, arith, append-nil}
use Rattle.std.specs.Prelude.{⊤, ◌==◌, nat_le, slice_range, if◌then◌else◌}
use Rattle.std.specs.Option.{option_or}
use Rattle.std.proofs.lemmas.Bool.{false≢true, leb-true, le-ltb}
use Rattle.std.proofs.lemmas.List.{reverse-append}
use Rattle.model_h1.specs.Answer.{shape_none, shape_length}
use Rattle.model_h1.specs.Request.{Head, BodyKind, no_body, fixed_body, chunked_body, raw_body, Reading, head_is, faulty}
use Rattle.model_h1.specs.Setting.{Setting}
use Rattle.model_h1.specs.Event as on
use Rattle.model_h1.specs.Parse.{Input, Message, Body, no_content, content, ended_at, run_between, open_or_cut, fixed_content, next_start, IsBodyOf, IsBodyAfter, AreMessages}
use Rattle.model_h1.specs.Past.{input_of}
use Rattle.model_h1.specs.Handed.{Item, item_bytes, item_trailers, item_end, item_fault, item_frame, Handed, HandedOut, newly_handed, with_item, handing, marking_answered, handed_out, AreItemsOf, IsOversized, IsPrefixFrom}
use Rattle.model_h1.specs.Sums.{Step, completes, head_of}
use Rattle.model_h1.specs.Trace.{IsTrace}
use Rattle.model_h1.proofs.HandedParsed.{handed_prefix}
use Rattle.model_h1.proofs.MessageExistence.{parse_exists}
use Rattle.model_h1.proofs.RunLemmas.{run_bytes_between}
use Rattle.model_state.proofs.PassedText.{part_length}
use Rattle.model_state.specs.Reply.{stated}
use Rattle.model_client.specs.RequestText.{asked_shape, joined}
use Rattle.model_client.specs.ClientEvent as asked
use Rattle.model_client.specs.ClientKept.{SendingBody, ClientKept}
use Rattle.model_client.specs.ClientStep.{ending_body, ClientChange, IsClientStep}
use Rattle.model_client.specs.ClientTrace.{IsClientTrace}
use Rattle.model_client.proofs.Written.{is_text}
use Rattle.model_proxy.specs.Edge.{Edge}
use Rattle.model_proxy.specs.Forward.{states_length, size_by, forwarded_size}
use Rattle.model_proxy.specs.Answers.{fate_of}
use Rattle.model_proxy.specs.Exchange.{Pulled, pulled_by, newest_pulled, with_head, pulled}
use Rattle.model_proxy.specs.Happenings.{Request, Link}
use Rattle.model_proxy.specs.Carried.{IsSentOn}
use Rattle.model_proxy.specs.Forwarding.{IsWhole}
use Rattle.model_proxy.proofs.PiecesPut.{bytes_in, has_end, bytes_more, end_comes, parts_bytes, parts_end, content_behind, whole_stop, some_items}

-- ---- what was pulled is what was handed out

record IsAlike (p : Pulled) (h : Head) (items : List Item) : Type 0 where
  head : p.head ≡ h
  pieces : p.pieces ≡ bytes_in items

abbrev OfReading : Pulled → Reading → List Item → Type 0
OfReading p (head_is h) items = IsAlike p h items
OfReading p (faulty f) items = ⊤

abbrev IsFaulty : Reading → Type 0
IsFaulty (head_is h) = ⊥
IsFaulty (faulty f) = ⊤

-- the newest request, where the newest message is one
abbrev AreAlike : List Pulled → List Handed → Type 0
AreAlike ps [] = ⊤
AreAlike [] (m ∷ ms) = IsFaulty m.reading
AreAlike (p ∷ ps) (m ∷ ms) = OfReading p m.reading m.items

marked : (t : Bool) (ps : List Pulled) (stray : List Item) (ms : List Handed) → AreAlike ps ms
    → AreAlike ps (marking_answered t (record { stray = stray; messages = ms })).messages
marked false ps stray ms y = y
marked true ps stray [] y = tt
marked true [] stray (m ∷ ms) y = y
marked true (p ∷ ps) stray (m ∷ ms) y = y

-- a further item
item_alike : (p q : Pulled) (reading : Reading) (items : List Item) (i : Item) → q.head ≡ p.head → q.pieces ≡ p.pieces ++ bytes_in (i ∷ []) → OfReading p reading items
    → OfReading q reading (items ++ i ∷ [])
item_alike p q (head_is h) items i head pieces y = record {
  head = head ∙ y.head;
  pieces = pieces ∙ ap (λ (l : List (List ℕ)). l ++ bytes_in (i ∷ [])) y.pieces ∙ sym (bytes_more items (i ∷ []));
}
item_alike p q (faulty f) items i head pieces y = tt

with_alike : (o : on.Outcome) (i : Item) (ps : List Pulled) (stray : List Item) (ms : List Handed) → ((p : Pulled) → (pulled_by o p).head ≡ p.head)
    → ((p : Pulled) → (pulled_by o p).pieces ≡ p.pieces ++ bytes_in (i ∷ [])) → AreAlike ps ms
    → AreAlike (newest_pulled o ps) (with_item i (record { stray = stray; messages = ms })).messages
with_alike o i ps stray [] head pieces y = tt
with_alike o i [] stray (m ∷ ms) head pieces y = y
with_alike o i (p ∷ ps) stray (m ∷ ms) head pieces y = item_alike p (pulled_by o p) m.reading m.items i (head p) (pieces p) y

same_alike : (o : on.Outcome) (ps : List Pulled) (ms : List Handed) → ((p : Pulled) → pulled_by o p ≡ p) → AreAlike ps ms → AreAlike (newest_pulled o ps) ms
same_alike o ps [] same y = tt
same_alike o [] (m ∷ ms) same y = y
same_alike o (p ∷ ps) (m ∷ ms) same y = subst (λ (q : Pulled). OfReading q m.reading m.items) (sym (same p)) y

faulty_alike : (ps : List Pulled) (f : on.Outcome) (m : Handed) (ms : List Handed) → IsFaulty m.reading → AreAlike ps (m ∷ ms)
faulty_alike ps f m ms is = by_reading ps m.reading refl is
  where
    by_reading : (ps : List Pulled) (r : Reading) → m.reading ≡ r → IsFaulty r → AreAlike ps (m ∷ ms)
    by_reading ps (head_is h) e is = absurd is
    by_reading [] (faulty f) e is = subst IsFaulty (sym e) tt
    by_reading (p ∷ ps) (faulty f) e is = subst (λ (r : Reading). OfReading p r m.items) (sym e) tt

no_bytes : (p : Pulled) → p.pieces ≡ p.pieces ++ []
no_bytes p = sym (append-nil p.pieces)

step_alike : (o : on.Outcome) (ps : List Pulled) (stray : List Item) (ms : List Handed) → AreAlike ps ms
    → AreAlike (with_head (head_of o) (newest_pulled o ps)) (handing o (record { stray = stray; messages = ms })).messages
step_alike (on.head h) ps stray ms y = record { head = refl; pieces = refl }
step_alike (on.fault f) ps stray ms y = faulty_alike (newest_pulled (on.fault f) ps) (on.fault f) (newly_handed (faulty f)) ms tt
step_alike (on.bytes bytes) ps stray ms y = with_alike (on.bytes bytes) (item_bytes bytes) ps stray ms (λ p. refl) (λ p. refl) y
step_alike (on.trailers lines) ps stray ms y = with_alike (on.trailers lines) (item_trailers lines) ps stray ms (λ p. refl) no_bytes y
step_alike on.body_ended ps stray ms y = with_alike on.body_ended item_end ps stray ms (λ p. refl) no_bytes y
step_alike (on.broken_by f) ps stray ms y = with_alike (on.broken_by f) (item_fault f) ps stray ms (λ p. refl) no_bytes y
step_alike (on.frame f) ps stray ms y = with_alike (on.frame f) (item_frame f) ps stray ms (λ p. refl) no_bytes y
step_alike (on.took n) ps stray ms y = same_alike (on.took n) ps ms (λ p. refl) y
step_alike on.pending ps stray ms y = same_alike on.pending ps ms (λ p. refl) y
step_alike (on.closed end) ps stray ms y = same_alike (on.closed end) ps ms (λ p. refl) y
step_alike (on.protocol error) ps stray ms y = same_alike (on.protocol error) ps ms (λ p. refl) y
step_alike (on.refused error) ps stray ms y = same_alike (on.refused error) ps ms (λ p. refl) y
step_alike (on.gave bytes) ps stray ms y = same_alike (on.gave bytes) ps ms (λ p. refl) y
step_alike (on.expired end) ps stray ms y = same_alike (on.expired end) ps ms (λ p. refl) y
step_alike on.abandoned ps stray ms y = same_alike on.abandoned ps ms (λ p. refl) y
step_alike on.done ps stray ms y = same_alike on.done ps ms (λ p. refl) y

alike : (trace : List Step) → AreAlike (pulled trace) (handed_out trace).messages
unfolding pulled handed_out
alike [] = tt
alike (s ∷ before) =
    let out = handing s.outcome (handed_out before) in
    marked (completes s.event) (with_head (head_of s.outcome) (newest_pulled s.outcome (pulled before))) out.stray out.messages
    (step_alike s.outcome (pulled before) (handed_out before).stray (handed_out before).messages (alike before))

-- ---- the newest message is one of the parse

record IsMessage (i : Input) (m : Handed) (h : Head) : Type 0 where
  message : Message
  items : AreItemsOf i.bytes message.body m.items
  body : IsBodyOf i h.body message.body_start message.body

-- what is there of a message that isn't one
abbrev HasNoEnd : Handed → Type 0
HasNoEnd m = has_end m.items ≡ true → ⊥

abbrev OfLast : Input → Handed → Reading → Type 0
OfLast i m (head_is h) = IsMessage i m h
OfLast i m (faulty f) = HasNoEnd m

oversized : (i : Input) (size : ℕ) (bytes : List ℕ) (front : List Handed) (m : Handed) → IsOversized size bytes (front ++ m ∷ []) → OfLast i m m.reading
oversized i size bytes [] m x =
    subst (λ (h : Handed). OfLast i h h.reading) (sym x.0) (λ is. false≢true is)
oversized i size bytes (f ∷ []) m x = absurd x
oversized i size bytes (f ∷ g ∷ front) m x = absurd x

no_end_of : (bytes : List ℕ) (items : List Item) → AreItemsOf bytes no_content items → has_end items ≡ true → ⊥
no_end_of bytes items x is =
    let none : x.last ≡ [] = empty_of x.last x.follow.0 x.follow.1 in
    false≢true (sym (ap has_end x.are ∙ parts_end x.pieces x.last ∙ ap has_end none) ∙ is)
  where
    empty_of : (l rest : List Item) → [] ≡ l ++ rest → l ≡ []
    empty_of [] rest e = refl
    empty_of (i ∷ l) rest e = let no : [] ≡ i ∷ (l ++ rest) = e in absurd (cc no)

here_last : (i : Input) (m : Handed) (n : Message) (reading : Reading) → m.reading ≡ reading → m.reading ≡ n.reading → AreItemsOf i.bytes n.body m.items
    → IsBodyAfter i n.reading n.body_start n.body → OfLast i m reading
here_last i m n (head_is h) is same items body = record {
  message = n;
  items = items;
  body = subst (λ (r : Reading). IsBodyAfter i r n.body_start n.body) (sym same ∙ is) body;
}
here_last i m n (faulty f) is same items body =
    let none : n.body ≡ no_content = subst (λ (r : Reading). IsBodyAfter i r n.body_start n.body) (sym same ∙ is) body in
    no_end_of i.bytes m.items (subst (λ (b : Body). AreItemsOf i.bytes b m.items) none items)

last_message : (i : Input) (size place : ℕ) (front : List Handed) (m : Handed) (parse : List Message) → AreMessages i place parse
    → IsPrefixFrom size i.bytes place (front ++ m ∷ []) parse → OfLast i m m.reading
last_message i size place front m [] are x = oversized i size (drop place i.bytes) front m x
last_message i size place [] m (n ∷ ns) are x = here_last i m n m.reading refl x.0.reading x.0.items are.0.body
last_message i size place (f ∷ front) m (n ∷ ns) are x = by_next (λ next. last_message i size next front m ns) (next_start n.body) are.1 x.2
  where
    by_next : ((next : ℕ) → AreMessages i next ns → IsPrefixFrom size i.bytes next (front ++ m ∷ []) ns → OfLast i m m.reading) → (o : Option ℕ)
        → MatchOption o (ns ≡ []) (λ next. AreMessages i next ns) → IsPrefixFrom size i.bytes (unwrap_or o place) (front ++ m ∷ []) ns → OfLast i m m.reading
    by_next further None none y =
        oversized i size (drop place i.bytes) front m (subst (IsPrefixFrom size i.bytes place (front ++ m ∷ [])) none y)
    by_next further (Some next) more y = further next more y

-- ---- how many bytes a body has

fixed_bytes : (i : Input) (place n : ℕ) (body : Body) (items : List Item) → body ≡ fixed_content i place n → AreItemsOf i.bytes body items → has_end items ≡ true
    → length (joined (bytes_in items)) ≡ n
fixed_bytes i place n body items is x ended = by_test (nat_le (place + n) (length i.bytes)) refl (subst (λ (b : Body). AreItemsOf i.bytes b items) is x)
  where
    by_test : (t : Bool) → nat_le (place + n) (length i.bytes) ≡ t
        → AreItemsOf i.bytes (if t then content (run_between place (place + n)) (ended_at (place + n) []) else content (run_between place (length i.bytes)) (open_or_cut i.ended)) items
        → length (joined (bytes_in items)) ≡ n
    by_test true fits y =
        let runs = run_between place (place + n) in
        let behind = content_behind i.bytes runs (ended_at (place + n) []) items y in
        let last : has_end y.last ≡ true = sym (ap has_end y.are ∙ parts_end y.pieces y.last) ∙ ended in
        let pieces : bytes_in items ≡ y.pieces = ap bytes_in y.are ∙ parts_bytes y.pieces y.last behind in
        let text : joined (bytes_in items) ≡ slice_range i.bytes place (place + n) =
        ap joined pieces ∙ y.behind (some_items y.last last) ∙ run_bytes_between i.bytes place (place + n) in
        let many = ap (λ (bytes : List ℕ). length bytes) text in
        let long = part_length i.bytes place (place + n) (leb-true (place + n) (length i.bytes) fits) in
        omega (arith, many, long)
    by_test false short y =
        let last : has_end y.last ≡ true = sym (ap has_end y.are ∙ parts_end y.pieces y.last) ∙ ended in
        absurd (never_whole i.ended (whole_stop y.last y.follow.0 (open_or_cut i.ended) y.follow.1 last))
      where
        never_whole : (t : Bool) → IsWhole (fate_of (open_or_cut t)) → ⊥
        never_whole true x = x
        never_whole false x = x

-- as many as are stated to a server
abbrev pub HasAll : Pulled → Type 0
HasAll p = stated (asked_shape (forwarded_size p.head)) ≤ length (joined p.pieces)

all_of_kind : (t : Bool) (kind : BodyKind) (len : ℕ) → ((n : ℕ) → kind ≡ fixed_body n → n ≤ len) → stated (asked_shape (size_by t kind)) ≤ len
all_of_kind true no_body len so = omega arith
all_of_kind false no_body len so = omega arith
all_of_kind t (fixed_body n) len so = by_none (n == 0)
  where
    by_none : (u : Bool) → stated (if u then shape_none else shape_length n) ≤ len
    by_none true = omega arith
    by_none false = so n refl
all_of_kind t chunked_body len so = omega arith
all_of_kind t raw_body len so = omega arith

-- ---- where its end was handed out

record Ends (ms : List Handed) : Type 0 where
  newest : Handed
  older : List Handed
  are : ms ≡ newest ∷ older
  ends : has_end newest.items ≡ true

ends_newest : (t : Bool) (stray : List Item) (m : Handed) (ms : List Handed)
    → Ends (marking_answered t (handing on.body_ended (record { stray = stray; messages = m ∷ ms }))).messages
ends_newest true stray m ms =
    record { newest = record m { items = m.items ++ item_end ∷ []; answered = true }; older = ms; are = refl; ends = end_comes m.items }
ends_newest false stray m ms = record { newest = record m { items = m.items ++ item_end ∷ [] }; older = ms; are = refl; ends = end_comes m.items }

strays : (t : Bool) (stray : List Item) → (marking_answered t (handing on.body_ended (record { stray = stray; messages = [] }))).stray ≡ stray ++ item_end ∷ []
strays true stray = refl
strays false stray = refl

never_stray : (stray : List Item) → stray ++ item_end ∷ [] ≡ [] → ⊥
never_stray [] e = cc e
never_stray (i ∷ stray) e = let no : i ∷ (stray ++ item_end ∷ []) ≡ [] = e in cc no

handed_end : (setting : Setting) (s : Step) (before : List Step) → IsTrace setting (s ∷ before) → s.outcome ≡ on.body_ended → Ends (handed_out (s ∷ before)).messages
unfolding handed_out
handed_end setting s before traced is =
    let parse = parse_exists (input_of setting (s ∷ before)) in
    let clean = (handed_prefix setting (s ∷ before) parse.0 traced parse.1).0 in
    let same = ap (λ (o : on.Outcome). marking_answered (completes s.event) (handing o (handed_out before))) is in
    subst (λ (out : HandedOut). Ends out.messages) (sym same)
    (by_old (handed_out before).stray (handed_out before).messages (sym (ap (λ (out : HandedOut). out.stray) same) ∙ clean))
  where
    by_old : (stray : List Item) (ms : List Handed)
        → (marking_answered (completes s.event) (handing on.body_ended (record { stray = stray; messages = ms }))).stray ≡ []
        → Ends (marking_answered (completes s.event) (handing on.body_ended (record { stray = stray; messages = ms }))).messages
    by_old stray [] none = absurd (never_stray stray (sym (strays (completes s.event) stray) ∙ none))
    by_old stray (m ∷ ms) none = ends_newest (completes s.event) stray m ms

all_by : (i : Input) (p : Pulled) (m : Handed) (reading : Reading) → has_end m.items ≡ true → OfLast i m reading → OfReading p reading m.items → HasAll p
all_by i p m (faulty f) ended x y = absurd (x ended)
all_by i p m (head_is h) ended x y =
    let bytes : joined p.pieces ≡ joined (bytes_in m.items) = ap joined y.pieces in
    let count = ap (λ (l : List ℕ). length l) bytes in
    all_of_kind (states_length p.head) p.head.body (length (joined p.pieces))
    (λ n is.
    let kind : h.body ≡ fixed_body n = sym (ap (λ (g : Head). g.body) y.head) ∙ is in
    let all = fixed_bytes i x.message.body_start n x.message.body m.items
    (subst (λ (k : BodyKind). IsBodyOf i k x.message.body_start x.message.body) kind x.body) x.items ended in
    omega (arith, count, all))

-- all of it was handed out
pub ended_bytes : (setting : Setting) (s : Step) (before : List Step) (p : Pulled) (ps : List Pulled) → IsTrace setting (s ∷ before) → s.outcome ≡ on.body_ended
    → pulled (s ∷ before) ≡ p ∷ ps → HasAll p
ended_bytes setting s before p ps traced is are =
    let i = input_of setting (s ∷ before) in
    let e = handed_end setting s before traced is in
    let parse = parse_exists i in
    let prefix = (handed_prefix setting (s ∷ before) parse.0 traced parse.1).1 in
    let turned : reverse (handed_out (s ∷ before)).messages ≡ reverse e.older ++ e.newest ∷ [] = ap reverse e.are ∙ reverse-append (e.newest ∷ []) e.older in
    let last = last_message i setting.hold_size 0 (reverse e.older) e.newest parse.0 parse.1
    (subst (λ (hs : List Handed). IsPrefixFrom setting.hold_size i.bytes 0 hs parse.0) turned prefix) in
    let like : AreAlike (p ∷ ps) (e.newest ∷ e.older) =
    subst (λ (ms : List Handed). AreAlike (p ∷ ps) ms) e.are (subst (λ (qs : List Pulled). AreAlike qs (handed_out (s ∷ before)).messages) are (alike (s ∷ before))) in
    all_by i p e.newest e.newest.reading e.ends last like

-- so the server's connection doesn't fail when the body ends
pub sound_end : (edge : Edge) (ours : Setting) (whole broken : Bool) (r : Request) (l : Link) (c d : ClientKept) → IsSentOn edge whole broken r l → HasAll r.pulled
    → IsClientTrace ours l.happened c → IsClientStep ours c asked.body_end asked.done d → c.failed ≡ None → d.failed ≡ None
sound_end edge ours whole broken r l c d u all ran step fine =
    ap (λ (k : ClientKept). k.failed) (step.keeps ∙ ap (λ (change : ClientChange). record change.kept { is_coming = step.coming }) step.changes)
    ∙ by_sending c.sending refl
  where
    by_sending : (o : Option SendingBody) → c.sending ≡ o → (ending_body o c).failed ≡ None
    by_sending None is = fine
    by_sending (Some body) is =
        let missing = (u.body body (sym (is_text ours l.happened c ran).sending ∙ is)).missing in
        let none : body.missing ≤ 0 = omega (arith, missing, all) in
        ap₂ (λ (f : Option asked.ClientEnd) (t : Bool). option_or f (if t then Some asked.failed_request else None)) fine (le-ltb 0 body.missing none)
