-- The machine's steps of a connection's parts.
use Rattle.std.proofs.Common.{◌≡◌, ℕ, ◌<◌, Bool, true, false, List, [], Option, Some, None, refl, sym, ap, ◌∙◌, subst, lit<}
use Rattle.std.specs.Prelude.{is_some, if◌then◌else◌, not, ◌||◌}
use Rattle.std.specs.Option.{option_or}
use Rattle.http_config.specs.Config.{Settings}
use Rattle.model_h1.specs.Limits.{MAX_MOMENT}
use Rattle.model_h1.specs.Setting.{Setting}
use Rattle.model_h1.specs.Event as on
use Rattle.model_state.specs.Kept as machine
use Rattle.model_state.specs.Kept.{Kept, Rest, no_rest, raw_rest, fixed_rest, chunks_rest, frames_rest, is_nothing, is_free, now}
use Rattle.model_state.specs.Local.{closing_by}
use Rattle.model_state.specs.Body.{pass_rest, passing}
use Rattle.model_state.specs.Change.{IsChange, IsComing, noting_since}
use Rattle.h1_decoder.specs.declared.scan.HeadScan.{HeadScan}
use Rattle.h1_decoder.specs.declared.scan.HeadScan.TheVariants.{Open, Piece}
use Rattle.h1_output.specs.Queued.{Queued}
use Rattle.h1_connection.specs.Incoming.{is_coming_in, IsFoundIn}
use Rattle.h1_connection.specs.Stock.{Stock, IsFoundOf}
use Rattle.h1_connection.specs.EventMeaning.{setting_of}
use Rattle.h1_connection.specs.Parts.{kept_of, passed_by, leaves_body, HasNoneBehind, MayBeSearched, IsNoted, IsSound, IsSearchedFor, IsSettled, Steps}
use Rattle.h1_connection.specs.declared.connection.clock.Clock.{Clock}
use Rattle.h1_connection.specs.declared.connection.exchange.Exchange.{Exchange}
use Rattle.h1_connection.specs.declared.connection.exchange.Reply.{Reply}
use Rattle.h1_connection.specs.declared.connection.exchange.Reply.TheVariants.{Unanswered, Sending, Answered}
use Rattle.h1_connection.specs.declared.connection.parts.Parts.{Parts}
use Rattle.h1_connection.proofs.PassingLemmas.{passing_free}

-- ---- since when the connection closes

-- where it is noted it stays
stays : (since : Option (Option ℕ)) (last : Option ℕ) (closes : Bool) → (closes ≡ true → is_some since ≡ true)
    → option_or since (if closes then Some last else None) ≡ since
stays (Some x) last closes noted = refl
stays None last true noted = absurd (cc (noted refl))
stays None last false noted = refl

pub noted_same : (set : Setting) (k : Kept) → IsNoted set k → noting_since set k ≡ k
noted_same set k noted = λ i. record k { closing_since = stays k.closing_since k.clock.last (is_some (closing_by set k)) noted i }

-- and it is noted then
is_noted : (since : Option (Option ℕ)) (last : Option ℕ) (closes : Bool) → closes ≡ true → is_some (option_or since (if closes then Some last else None)) ≡ true
is_noted (Some x) last closes is = refl
is_noted None last true is = refl
is_noted None last false is = absurd (cc is)

pub noting_notes : (set : Setting) (k : Kept) → IsNoted set (noting_since set k)
unfolding closing_by
noting_notes set k = λ is. is_noted k.closing_since k.clock.last (is_some (closing_by set k)) is

-- ---- whether a head is coming

coming_found : (bytes : List ℕ) (piece : Option HeadScan) → IsFoundIn bytes piece → IsComing (is_some piece) bytes (is_coming_in piece)
coming_found bytes None found = refl
coming_found bytes (Some Open) found = found
coming_found bytes (Some (Piece start end)) found = (start, end, found)

coming_free : (i : Stock) (free : Bool) → is_some i.piece ≡ free → IsFoundOf i → IsComing free i.unread (is_coming_in i.piece)
coming_free i free is found = subst (λ (b : Bool). IsComing b i.unread (is_coming_in i.piece)) is (coming_found i.unread i.piece found)

-- ---- a step

-- that leaves where heads are searched for, and whether the connection closes
pub quiet_step : (s : Settings) (p q : Parts) (event : on.Event) (out : on.Outcome)
    → IsChange (setting_of s) (kept_of p) event (record { outcome = out; kept = kept_of q }) → IsSound s q → Steps s p event out q
quiet_step s p q event out changes sound =
    record {
      change = record { outcome = out; kept = kept_of q };
      coming = is_coming_in q.input.piece;
      changes = changes;
      answers = refl;
      comes = coming_free q.input (is_free (kept_of q)) sound.searched sound.scanned;
      keeps = sym (noted_same (setting_of s) (kept_of q) sound.noted);
    }

-- that is brought up to date
pub settled_step : (s : Settings) (p q : Parts) (event : on.Event) (out : on.Outcome) (c k : Kept) (b : Bool)
    → IsChange (setting_of s) (kept_of p) event (record { outcome = out; kept = c })
    → k ≡ record c { is_coming = b }
    → IsSettled (setting_of s) k q → Steps s p event out q
settled_step s p q event out c k b changes like settled =
    let coming = is_coming_in q.input.piece in
    let unread : q.input.unread ≡ c.unread = ap (λ (k : Kept). k.unread) settled.kept ∙ ap (λ (k : Kept). k.unread) like in
    let free : is_some q.input.piece ≡ is_free c = settled.searched ∙ ap (λ (k : Kept). is_free k) like in
    record {
      change = record { outcome = out; kept = c };
      coming = coming;
      changes = changes;
      answers = refl;
      comes = subst (λ (bytes : List ℕ). IsComing (is_free c) bytes coming) unread (coming_free q.input (is_free c) free settled.scanned);
      keeps = settled.kept ∙ ap (λ (k : Kept). noting_since (setting_of s) (record k { is_coming = coming })) like;
    }

-- the parts are sound then
pub settled_sound : (s : Settings) (k : Kept) (q : Parts) → now k < MAX_MOMENT → IsSettled (setting_of s) k q → IsSound s q
settled_sound s k q moment settled =
    let coming = is_coming_in q.input.piece in
    record {
      moment = subst (λ (k : Kept). now k < MAX_MOMENT) (sym settled.kept) moment;
      searched = settled.searched ∙ sym (ap (λ (k : Kept). is_free k) settled.kept);
      scanned = settled.scanned;
      behind = subst (λ (k : Kept). HasNoneBehind k q.input.ahead) (sym settled.kept) settled.behind;
      noted = subst (λ (k : Kept). IsNoted (setting_of s) k) (sym settled.kept) (noting_notes (setting_of s) (record k { is_coming = coming }));
    }

-- ---- bringing up to date

-- a search, and then a note
pub settled_of : (set : Setting) (p m q : Parts) → MayBeSearched p → IsSearchedFor p m → kept_of q ≡ noting_since set (kept_of m) → q.input ≡ m.input → IsSettled set (kept_of p) q
settled_of set p m q may searched kept input =
    let coming = is_coming_in m.input.piece in
    let parts : kept_of m ≡ record (kept_of p) { is_coming = coming } =
    ap (λ (r : Parts). kept_of r) searched.parts ∙ (λ i. record (kept_of p) { unread = searched.unread i; is_coming = coming }) in
    record {
      kept = kept ∙ ap (λ (k : Kept). noting_since set k) parts
          ∙ (λ i. noting_since set (record (kept_of p) { is_coming = is_coming_in (sym input i).piece }));
      searched = ap (λ (i : Stock). is_some i.piece) input ∙ searched.searched;
      scanned = subst (λ (i : Stock). IsFoundOf i) (sym input) searched.scanned;
      behind = λ left. ap (λ (i : Stock). i.ahead) input ∙ searched.ahead ∙ may.behind left;
    }

-- a note alone, where it was searched already
pub settled_noted : (set : Setting) (m q : Parts) → kept_of q ≡ noting_since set (kept_of m) → q.input ≡ m.input
    → is_some m.input.piece ≡ is_free (kept_of m) → IsFoundOf m.input → HasNoneBehind (kept_of m) m.input.ahead → IsSettled set (kept_of m) q
settled_noted set m q kept input searched scanned behind =
    record {
      kept = kept ∙ (λ i. noting_since set (record (kept_of m) { is_coming = is_coming_in (sym input i).piece }));
      searched = ap (λ (i : Stock). is_some i.piece) input ∙ searched;
      scanned = subst (λ (i : Stock). IsFoundOf i) (sym input) scanned;
      behind = λ left. ap (λ (i : Stock). i.ahead) input ∙ behind left;
    }

-- where nothing is found it may be searched
pub may_of : (m : Parts) → (is_some m.input.piece ≡ true → is_free (kept_of m) ≡ true) → HasNoneBehind (kept_of m) m.input.ahead → MayBeSearched m
may_of m free behind = record { searched = λ busy. nothing m.input.piece free busy; behind = behind }
  where
    nothing : (piece : Option HeadScan) → (is_some piece ≡ true → is_free (kept_of m) ≡ true) → is_free (kept_of m) ≡ false → piece ≡ None
    nothing None free busy = refl
    nothing (Some x) free busy = absurd (cc (free refl, busy))

-- so it is with sound parts, and with those that were searched
pub sound_may : (s : Settings) (m : Parts) → IsSound s m → MayBeSearched m
sound_may s m sound = may_of m (λ found. sym sound.searched ∙ found) sound.behind

pub searched_may : (p m : Parts) → MayBeSearched p → IsSearchedFor p m → MayBeSearched m
searched_may p m may searched =
    may_of m (λ found. ap (λ (r : Parts). is_free (kept_of r)) searched.parts ∙ sym searched.searched ∙ found)
    (λ left. searched.ahead ∙ may.behind (sym (ap (λ (r : Parts). leaves_body (kept_of r)) searched.parts) ∙ left))

-- no head is counted behind a body of which something is left
left_leaves : (raw nothing : Bool) → nothing ≡ false → (raw || not nothing) ≡ true
left_leaves true nothing is = refl
left_leaves false true is = absurd (cc is)
left_leaves false false is = refl

pub rest_behind : (p : Parts) (x : Exchange) → p.exchange ≡ Some x → HasNoneBehind (kept_of p) p.input.ahead → is_nothing x.rest ≡ false → p.input.ahead ≡ 0
rest_behind p x there behind left =
    behind (subst (λ (e : Option Exchange). leaves_body (kept_of (record p { exchange = e })) ≡ true) (sym there) (left_leaves x.request.asked.is_raw (is_nothing x.rest) left))

-- ---- passing

-- an exchange by its reply
passed_reply : (p : Parts) (x : Exchange) (r : Reply)
    → kept_of (record p {
      exchange = Some (record x { reply = r; rest = (passed_by p.has_ended (record x { reply = r }) p.input.unread).rest });
      input = record p.input { unread = (passed_by p.has_ended (record x { reply = r }) p.input.unread).unread };
    })
    ≡ passing (kept_of (record p { exchange = Some (record x { reply = r }) }))
unfolding passing
passed_reply p x Unanswered = refl
passed_reply p x (Sending s) = refl
passed_reply p x (Answered connection) = refl

pub passed_some : (p : Parts) (x : Exchange)
    → kept_of (record p {
      exchange = Some (record x { rest = (passed_by p.has_ended x p.input.unread).rest });
      input = record p.input { unread = (passed_by p.has_ended x p.input.unread).unread };
    })
    ≡ passing (kept_of (record p { exchange = Some x }))
passed_some p x = passed_reply p x x.reply

pub passed_none : (p : Parts) → kept_of (record p { exchange = None }) ≡ passing (kept_of (record p { exchange = None }))
unfolding passing
passed_none p = refl

-- where something is left of a body behind it, something was
rest_leaves : (raw ended : Bool) (rest : Rest) (bytes : List ℕ) → (raw || not (is_nothing (pass_rest ended rest bytes).rest)) ≡ true → (raw || not (is_nothing rest)) ≡ true
rest_leaves true ended rest bytes left = refl
rest_leaves false ended no_rest bytes left = left
rest_leaves false ended raw_rest bytes left = refl
rest_leaves false ended (fixed_rest n) bytes left = refl
rest_leaves false ended (chunks_rest place section) bytes left = refl
rest_leaves false ended (frames_rest under_way limit) bytes left = refl

leaves_reply : (k : Kept) (x : machine.Exchange) (r : machine.Reply) → leaves_body (passing (record k { exchange = Some (record x { reply = r }) })) ≡ true
    → leaves_body (record k { exchange = Some (record x { reply = r }) }) ≡ true
unfolding passing
leaves_reply k x machine.unanswered left = left
leaves_reply k x (machine.sending shape kind missing) left = left
leaves_reply k x (machine.answered kind) left = rest_leaves x.asked.is_raw k.has_ended x.rest k.unread left

leaves_exchange : (k : Kept) (e : Option machine.Exchange) → leaves_body (passing (record k { exchange = e })) ≡ true → leaves_body (record k { exchange = e }) ≡ true
unfolding passing
leaves_exchange k None left = left
leaves_exchange k (Some x) left = leaves_reply k x x.reply left

pub passing_leaves : (k : Kept) → leaves_body (passing k) ≡ true → leaves_body k ≡ true
passing_leaves k left = leaves_exchange k k.exchange left

-- a search that may be done may be done behind it
pub passed_may : (p m : Parts) → kept_of m ≡ passing (kept_of p) → m.input.piece ≡ p.input.piece → m.input.ahead ≡ p.input.ahead → MayBeSearched p → MayBeSearched m
passed_may p m same piece ahead may =
    record {
      searched = λ busy. piece ∙ may.searched (still (is_free (kept_of p)) refl busy);
      behind = λ left. ahead ∙ may.behind (passing_leaves (kept_of p) (sym (ap leaves_body same) ∙ left));
    }
  where
    still : (free : Bool) → is_free (kept_of p) ≡ free → is_free (kept_of m) ≡ false → is_free (kept_of p) ≡ false
    still false is busy = is
    still true is busy = absurd (cc (sym busy ∙ ap (λ (k : Kept). is_free k) same ∙ ap (λ (k : Kept). is_free k) (passing_free (kept_of p) is) ∙ is))

-- the body of an exchange that is there
pub pass_some : (p : Parts) (x y : Exchange) (after : Stock) → p.exchange ≡ Some x
    → y ≡ record x { rest = (passed_by p.has_ended x p.input.unread).rest }
    → after ≡ record p.input { unread = (passed_by p.has_ended x p.input.unread).unread }
    → kept_of (record p { exchange = Some y; input = after }) ≡ passing (kept_of p)
pass_some p x y after there y_is after_is =
    (λ i. kept_of (record p { exchange = Some (y_is i); input = after_is i })) ∙ passed_some p x
    ∙ ap (λ (e : Option Exchange). passing (kept_of (record p { exchange = e }))) (sym there)

pub pass_none : (p : Parts) → p.exchange ≡ None → kept_of p ≡ passing (kept_of p)
pass_none p none =
    ap (λ (e : Option Exchange). kept_of (record p { exchange = e })) none ∙ passed_none p
    ∙ ap (λ (e : Option Exchange). passing (kept_of (record p { exchange = e }))) (sym none)

-- ---- a new connection

fresh_sound : (s : Settings) (queue : Queued) → IsFoundIn [] (Some Open)
    → IsSound s (record {
      input = record { unread = []; piece = Some Open; ahead = 0 };
      has_ended = false;
      is_draining = false;
      is_over = false;
      exchange = None;
      output = queue;
      is_sending = false;
      clock = record { first = None; last = None; completed = None };
      failed = None;
      closing_since = None;
    })
unfolding closing_by
fresh_sound s queue none = record { moment = lit< tt; searched = refl; scanned = none; behind = λ left. refl; noted = λ is. absurd (cc is) }

pub new_sound : (s : Settings) (i : Stock) (queue : Queued) (k : Clock) → i ≡ record { unread = []; piece = Some Open; ahead = 0 } → IsFoundOf i
    → k ≡ record { first = None; last = None; completed = None }
    → IsSound s (record {
      input = i;
      has_ended = false;
      is_draining = false;
      is_over = false;
      exchange = None;
      output = queue;
      is_sending = false;
      clock = k;
      failed = None;
      closing_since = None;
    })
new_sound s i queue k input found clock =
    let made : Stock → Clock → Parts = λ j t. record {
      input = j;
      has_ended = false;
      is_draining = false;
      is_over = false;
      exchange = None;
      output = queue;
      is_sending = false;
      clock = t;
      failed = None;
      closing_since = None;
    } in
    subst (λ (t : Clock). IsSound s (made i t)) (sym clock)
    (subst (λ (j : Stock). IsSound s (made j (record { first = None; last = None; completed = None }))) (sym input)
    (fresh_sound s queue (subst (λ (j : Stock). IsFoundOf j) input found)))
