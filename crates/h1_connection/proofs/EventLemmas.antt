-- The machine's steps of reads, the input's end, drains, writes, and what concerns the open request alone.
use Rattle.std.proofs.Math.Seq.{take-length}
use Rattle.std.proofs.Common.{◌≡◌, ◌≢◌, ℕ, ◌-◌, ◌<◌, ◌≤◌, Bool, true, false, ◌&&◌, List, [], ◌∷◌, ◌++◌, length, take, drop, Option, Some, None, refl, sym, ap, ◌∙◌, subst, arith}
use Rattle.std.specs.Prelude.{option_map, is_some, min, not, ◌||◌}
use Rattle.http_config.specs.Config.{Settings}
use Rattle.model_h1.specs.Limits.{MAX_MOMENT}
use Rattle.model_h1.specs.AnswerText.{interim_text}
use Rattle.model_h1.specs.Setting.{Setting}
use Rattle.model_h1.specs.Event as on
use Rattle.model_state.specs.Kept as machine
use Rattle.model_state.specs.Kept.{Kept, Change, Rest, no_rest, raw_rest, fixed_rest, chunks_rest, frames_rest, is_nothing, is_free, is_answered, rest_in, now}
use Rattle.model_state.specs.Local.{closing_by}
use Rattle.model_state.specs.Body.{passing}
use Rattle.model_state.specs.Change.{IsChange, noting_since, ending_input, exchange_at_end}
use Rattle.h1_output.specs.Queued.{Queued}
use Rattle.h1_connection.specs.Incoming.{is_coming_in}
use Rattle.h1_connection.specs.Stock.{Stock, IsFoundOf}
use Rattle.h1_connection.specs.EventMeaning.{setting_of}
use Rattle.h1_connection.specs.Parts.{kept_of, exchange_of, reply_of, ended_exchange, dropped, with_continue, leaves_body, HasNoneBehind, MayBeSearched, IsNoted, IsSound, IsSettled, Steps, StepsIn}
use Rattle.h1_connection.specs.declared.connection.exchange.Exchange.{Exchange}
use Rattle.h1_connection.specs.declared.connection.exchange.Reply.{Reply}
use Rattle.h1_connection.specs.declared.connection.exchange.Reply.TheVariants.{Unanswered, Sending, Answered}
use Rattle.h1_connection.specs.declared.connection.parts.Parts.{Parts}
use Rattle.h1_connection.proofs.PassingLemmas.{passing_coming, passing_clock}
use Rattle.h1_connection.proofs.StepLemmas.{quiet_step, settled_step, settled_sound, settled_noted, may_of}

-- the moment, behind a body that is passed
now_passed : (k m : Kept) → k ≡ passing m → now k ≡ now m
now_passed k m is = ap (λ (k : Kept). now k) is ∙ ap (λ (c : machine.Clock). now (record m { clock = c })) (passing_clock m)

-- ---- reads

pub read_may : (s : Settings) (p : Parts) (grown : Stock) → IsSound s p → is_some grown.piece ≡ is_some p.input.piece → grown.ahead ≡ p.input.ahead
    → MayBeSearched (record p { input = grown })
read_may s p grown sound same ahead = may_of (record p { input = grown }) (λ found. sym sound.searched ∙ sym same ∙ found) (λ left. ahead ∙ sound.behind left)

pub read_steps : (s : Settings) (p n q : Parts) (grown : Stock) (bytes : List ℕ) (count : ℕ)
    → count ≡ min (length bytes) (s.h1_hold_size - length p.input.unread) → grown.unread ≡ p.input.unread ++ take count bytes
    → kept_of n ≡ passing (kept_of (record p { input = grown })) → IsSettled (setting_of s) (kept_of n) q
    → Steps s p (on.read bytes) (on.took count) q
read_steps s p n q grown bytes count count_is grown_is passed settled =
    let most = min (length bytes) (s.h1_hold_size - length p.input.unread) in
    let all : grown.unread ≡ p.input.unread ++ take most bytes = grown_is ∙ ap (λ k. p.input.unread ++ take k bytes) count_is in
    let c : Kept = passing (record (kept_of p) { unread = grown.unread }) in
    let coming = is_coming_in grown.piece in
    settled_step s p q (on.read bytes) (on.took count) c (kept_of n) coming
    (λ i. record { outcome = on.took (count_is i); kept = passing (record (kept_of p) { unread = all i }) })
    (passed ∙ passing_coming (record (kept_of p) { unread = grown.unread }) coming) settled

pub read_sound : (s : Settings) (p n q : Parts) (grown : Stock) → IsSound s p → kept_of n ≡ passing (kept_of (record p { input = grown }))
    → IsSettled (setting_of s) (kept_of n) q → IsSound s q
read_sound s p n q grown sound passed settled =
    settled_sound s (kept_of n) q (subst (λ (m : ℕ). m < MAX_MOMENT) (sym (now_passed (kept_of n) (kept_of (record p { input = grown })) passed)) sound.moment) settled

-- bytes from a source, which all found room
came_all : (s : Settings) (p n q : Parts) (grown : Stock) (bytes : List ℕ) → length bytes ≤ s.h1_hold_size - length p.input.unread
    → grown.unread ≡ p.input.unread ++ bytes → kept_of n ≡ passing (kept_of (record p { input = grown })) → IsSettled (setting_of s) (kept_of n) q
    → Steps s p (on.read bytes) (on.took (length bytes)) q
came_all s p n q grown bytes fits grown_is passed settled =
    read_steps s p n q grown bytes (length bytes) (omega (arith, fits))
    (grown_is ∙ ap (λ (l : List ℕ). p.input.unread ++ l) (sym (take-length bytes))) passed settled

-- of which there is at least one
pub came_steps : (s : Settings) (p n q : Parts) (grown : Stock) (bytes : List ℕ) (count : ℕ) → count ≢ 0 → length bytes ≡ count
    → count ≤ s.h1_hold_size - length p.input.unread → grown.unread ≡ p.input.unread ++ bytes
    → kept_of n ≡ passing (kept_of (record p { input = grown })) → IsSettled (setting_of s) (kept_of n) q → StepsIn s p bytes q
came_steps s p n q grown [] count some long fits grown_is passed settled = absurd (some (sym long))
came_steps s p n q grown (b ∷ bytes) count some long fits grown_is passed settled =
    came_all s p n q grown (b ∷ bytes) (subst (λ (n : ℕ). n ≤ s.h1_hold_size - length p.input.unread) (sym long) fits) grown_is passed settled

-- ---- the input's end

ended_same : (bytes : List ℕ) (x : Option Exchange) → option_map exchange_of (ended_exchange bytes x) ≡ exchange_at_end bytes (option_map exchange_of x)
ended_same bytes None = refl
ended_same bytes (Some x) = refl

-- with its end the parts of the input
abbrev pub ended_parts : Parts → Parts
ended_parts p = record p { has_ended = true; exchange = ended_exchange p.input.unread p.exchange }

nothing_ends : (bytes : List ℕ) (rest : Rest) → is_nothing rest ≡ true → is_nothing (rest_in true bytes rest) ≡ true
nothing_ends [] no_rest is = refl
nothing_ends (b ∷ bytes) no_rest is = refl
nothing_ends bytes raw_rest is = absurd (cc is)
nothing_ends bytes (fixed_rest n) is = absurd (cc is)
nothing_ends bytes (chunks_rest place section) is = absurd (cc is)
nothing_ends bytes (frames_rest under_way limit) is = absurd (cc is)

both_nothing : (answered : Bool) (bytes : List ℕ) (rest : Rest) → (answered && is_nothing rest) ≡ true → (answered && is_nothing (rest_in true bytes rest)) ≡ true
both_nothing true bytes rest is = nothing_ends bytes rest is
both_nothing false bytes rest is = is

ended_free : (p : Parts) (x : Option Exchange) → is_free (kept_of (record p { exchange = x })) ≡ true
    → is_free (kept_of (record p { has_ended = true; exchange = ended_exchange p.input.unread x })) ≡ true
ended_free p None free = refl
ended_free p (Some x) free = both_nothing (is_answered (reply_of x.reply)) p.input.unread x.rest free

-- where something is left of a body at the end, something was
ended_leaves : (p : Parts) (x : Option Exchange) → leaves_body (kept_of (record p { has_ended = true; exchange = ended_exchange p.input.unread x })) ≡ true
    → leaves_body (kept_of (record p { exchange = x })) ≡ true
ended_leaves p None left = left
ended_leaves p (Some x) left = rest_in_leaves x.request.asked.is_raw p.input.unread x.rest left
  where
    rest_in_leaves : (raw : Bool) (bytes : List ℕ) (rest : Rest) → (raw || not (is_nothing (rest_in true bytes rest))) ≡ true → (raw || not (is_nothing rest)) ≡ true
    rest_in_leaves true bytes rest left = refl
    rest_in_leaves false bytes no_rest left = absurd (cc (left, nothing_ends bytes no_rest refl))
    rest_in_leaves false bytes raw_rest left = refl
    rest_in_leaves false bytes (fixed_rest n) left = refl
    rest_in_leaves false bytes (chunks_rest place section) left = refl
    rest_in_leaves false bytes (frames_rest under_way limit) left = refl

pub eof_may : (s : Settings) (p : Parts) → IsSound s p → MayBeSearched (ended_parts p)
eof_may s p sound =
    may_of (ended_parts p) (λ found. ended_free p p.exchange (sym sound.searched ∙ found)) (λ left. sound.behind (ended_leaves p p.exchange left))

pub eof_steps : (s : Settings) (p n q : Parts) → kept_of n ≡ passing (kept_of (ended_parts p)) → IsSettled (setting_of s) (kept_of n) q
    → Steps s p on.eof on.done q
eof_steps s p n q passed settled =
    let ended : kept_of (ended_parts p) ≡ record (kept_of p) { has_ended = true; exchange = exchange_at_end p.input.unread (kept_of p).exchange } =
    λ i. record (kept_of p) { has_ended = true; exchange = ended_same p.input.unread p.exchange i } in
    let same : kept_of n ≡ ending_input (kept_of p) = passed ∙ ap (λ (k : Kept). passing k) ended in
    settled_step s p q on.eof on.done (kept_of n) (kept_of n) (kept_of n).is_coming (λ i. record { outcome = on.done; kept = same i }) refl settled

pub eof_sound : (s : Settings) (p n q : Parts) → IsSound s p → kept_of n ≡ passing (kept_of (ended_parts p)) → IsSettled (setting_of s) (kept_of n) q → IsSound s q
eof_sound s p n q sound passed settled =
    settled_sound s (kept_of n) q (subst (λ (m : ℕ). m < MAX_MOMENT) (sym (now_passed (kept_of n) (kept_of (ended_parts p)) passed)) sound.moment) settled

-- ---- what may close the connection, and leaves the input

-- with the parts in between, of which only what isn't the input's is other
pub noted_steps : (s : Settings) (p m q : Parts) (event : on.Event) → IsChange (setting_of s) (kept_of p) event (record { outcome = on.done; kept = kept_of m })
    → kept_of q ≡ noting_since (setting_of s) (kept_of m) → q.input ≡ m.input → is_some m.input.piece ≡ is_free (kept_of m) → IsFoundOf m.input
    → HasNoneBehind (kept_of m) m.input.ahead → Steps s p event on.done q
noted_steps s p m q event changes kept input searched scanned behind =
    settled_step s p q event on.done (kept_of m) (kept_of m) (kept_of m).is_coming changes refl (settled_noted (setting_of s) m q kept input searched scanned behind)

pub noted_sound : (s : Settings) (m q : Parts) → now (kept_of m) < MAX_MOMENT → kept_of q ≡ noting_since (setting_of s) (kept_of m) → q.input ≡ m.input
    → is_some m.input.piece ≡ is_free (kept_of m) → IsFoundOf m.input → HasNoneBehind (kept_of m) m.input.ahead → IsSound s q
noted_sound s m q moment kept input searched scanned behind =
    settled_sound s (kept_of m) q moment (settled_noted (setting_of s) m q kept input searched scanned behind)

-- a drop
drop_changes : (set : Setting) (p : Parts) (x : Option Exchange)
    → IsChange set (kept_of (record p { exchange = x })) on.drop_body (record { outcome = on.done; kept = kept_of (record p { exchange = dropped x }) })
drop_changes set p None = refl
drop_changes set p (Some x) = refl

dropped_free : (p : Parts) (x : Option Exchange) → is_free (kept_of (record p { exchange = dropped x })) ≡ is_free (kept_of (record p { exchange = x }))
dropped_free p None = refl
dropped_free p (Some x) = refl

dropped_behind : (p : Parts) (x : Option Exchange) → HasNoneBehind (kept_of (record p { exchange = x })) p.input.ahead
    → HasNoneBehind (kept_of (record p { exchange = dropped x })) p.input.ahead
dropped_behind p None behind = behind
dropped_behind p (Some x) behind = behind

pub dropped_may : (s : Settings) (p m : Parts) → IsSound s p → m ≡ record p { exchange = dropped p.exchange } → MayBeSearched m
dropped_may s p m sound is =
    subst (λ (r : Parts). MayBeSearched r) (sym is)
    (may_of (record p { exchange = dropped p.exchange }) (λ found. dropped_free p p.exchange ∙ sym sound.searched ∙ found) (dropped_behind p p.exchange sound.behind))

pub drop_steps : (s : Settings) (p q : Parts) → IsSound s p → kept_of q ≡ noting_since (setting_of s) (kept_of (record p { exchange = dropped p.exchange })) → q.input ≡ p.input
    → Steps s p on.drop_body on.done q
drop_steps s p q sound kept input =
    noted_steps s p (record p { exchange = dropped p.exchange }) q on.drop_body (drop_changes (setting_of s) p p.exchange) kept input
    (sound.searched ∙ sym (dropped_free p p.exchange)) sound.scanned (dropped_behind p p.exchange sound.behind)

pub drop_sound : (s : Settings) (p q : Parts) → IsSound s p → kept_of q ≡ noting_since (setting_of s) (kept_of (record p { exchange = dropped p.exchange })) → q.input ≡ p.input
    → IsSound s q
drop_sound s p q sound kept input =
    noted_sound s (record p { exchange = dropped p.exchange }) q sound.moment kept input (sound.searched ∙ sym (dropped_free p p.exchange)) sound.scanned (dropped_behind p p.exchange sound.behind)

-- ---- writes

-- what is to be written is no matter for why it closes
output_sound : (s : Settings) (p : Parts) (queue : Queued) → IsSound s p → IsSound s (record p { output = queue })
unfolding closing_by
output_sound s p queue sound = record { moment = sound.moment; searched = sound.searched; scanned = sound.scanned; behind = sound.behind; noted = sound.noted }

pub write_sound : (s : Settings) (p : Parts) (queue : Queued) → IsSound s p → IsSound s (record p { output = queue })
write_sound s p queue sound = output_sound s p queue sound

pub write_steps : (s : Settings) (p : Parts) (limit : ℕ) (given : List ℕ) (rest : Queued) → IsSound s p → given ≡ take limit p.output.bytes
    → rest.bytes ≡ drop limit p.output.bytes
    → Steps s p (on.write limit) (on.gave given) (record p { output = rest })
write_steps s p limit given rest sound given_is rest_is =
    quiet_step s p (record p { output = rest }) (on.write limit) (on.gave given)
    (λ i. record { outcome = on.gave (given_is i); kept = record (kept_of p) { buffered = rest_is i } }) (output_sound s p rest sound)

-- ---- the interim line

told_reply : (set : Setting) (p : Parts) (x : Exchange) (r : Reply) (queue : Queued) → IsNoted set (kept_of (record p { exchange = Some (record x { reply = r }) }))
    → IsNoted set (kept_of (record p { exchange = Some (record x { reply = r; had_continue = true }); output = queue }))
unfolding closing_by
told_reply set p x Unanswered queue noted = noted
told_reply set p x (Sending y) queue noted = noted
told_reply set p x (Answered kind) queue noted = noted

told_sound : (s : Settings) (p : Parts) (x : Exchange) (queue : Queued) → p.exchange ≡ Some x → IsSound s p
    → IsSound s (record p { exchange = Some (record x { had_continue = true }); output = queue })
told_sound s p x queue there sound =
    let was : IsSound s (record p { exchange = Some x }) = subst (λ (e : Option Exchange). IsSound s (record p { exchange = e })) there sound in
    record { moment = was.moment; searched = was.searched; scanned = was.scanned; behind = was.behind; noted = told_reply (setting_of s) p x x.reply queue was.noted }

pub continue_sound : (s : Settings) (p : Parts) (queue : Queued) → IsSound s p → IsSound s (record p { exchange = with_continue p.exchange; output = queue })
continue_sound s p queue sound = of_exchange p.exchange refl
  where
    of_exchange : (x : Option Exchange) → p.exchange ≡ x → IsSound s (record p { exchange = with_continue x; output = queue })
    of_exchange None there = subst (λ (e : Option Exchange). IsSound s (record p { exchange = e; output = queue })) there (output_sound s p queue sound)
    of_exchange (Some x) there = told_sound s p x queue there sound

pub continue_steps : (s : Settings) (p : Parts) (x : Exchange) (queue : Queued) → IsSound s p → p.exchange ≡ Some x → queue.bytes ≡ p.output.bytes ++ interim_text
    → Steps s p on.send_continue on.done (record p { exchange = with_continue p.exchange; output = queue })
continue_steps s p x queue sound there bytes_are =
    quiet_step s p (record p { exchange = with_continue p.exchange; output = queue }) on.send_continue on.done
    (subst (λ (e : Option Exchange). IsChange (setting_of s) (kept_of (record p { exchange = e })) on.send_continue
    (record { outcome = on.done; kept = kept_of (record p { exchange = with_continue e; output = queue }) })) (sym there)
    (λ i. record { outcome = on.done; kept = record (kept_of (record p { exchange = with_continue (Some x) })) { buffered = bytes_are i } }))
    (continue_sound s p queue sound)

-- where no request was handed out, nothing is done
pub no_continue : (s : Settings) (p : Parts) → IsSound s p → p.exchange ≡ None → Steps s p on.send_continue on.done p
no_continue s p sound none =
    quiet_step s p p on.send_continue on.done
    (subst (λ (e : Option Exchange). IsChange (setting_of s) (kept_of (record p { exchange = e })) on.send_continue
    (record { outcome = on.done; kept = kept_of (record p { exchange = e }) })) (sym none) refl) sound

-- ---- the same of parts that are these

pub dropped_steps : (s : Settings) (p m q : Parts) → IsSound s p → m ≡ record p { exchange = dropped p.exchange } → kept_of q ≡ noting_since (setting_of s) (kept_of m)
    → q.input ≡ m.input → Steps s p on.drop_body on.done q
dropped_steps s p m q sound is kept input =
    drop_steps s p q sound (kept ∙ ap (λ (r : Parts). noting_since (setting_of s) (kept_of r)) is) (input ∙ ap (λ (r : Parts). r.input) is)

pub dropped_sound : (s : Settings) (p m q : Parts) → IsSound s p → m ≡ record p { exchange = dropped p.exchange } → kept_of q ≡ noting_since (setting_of s) (kept_of m)
    → q.input ≡ m.input → IsSound s q
dropped_sound s p m q sound is kept input =
    drop_sound s p q sound (kept ∙ ap (λ (r : Parts). noting_since (setting_of s) (kept_of r)) is) (input ∙ ap (λ (r : Parts). r.input) is)

pub none_told : (s : Settings) (p : Parts) → IsSound s p → is_some p.exchange ≡ false → Steps s p on.send_continue on.done p
none_told s p sound none = no_continue s p sound (of_none p.exchange none)
  where
    of_none : (e : Option Exchange) → is_some e ≡ false → e ≡ None
    of_none None is = refl
    of_none (Some x) is = absurd (cc is)

pub told_steps : (s : Settings) (p q : Parts) (queue : Queued) → IsSound s p → is_some p.exchange ≡ true → queue.bytes ≡ p.output.bytes ++ interim_text
    → q ≡ record p { exchange = with_continue p.exchange; output = queue } → Steps s p on.send_continue on.done q
told_steps s p q queue sound some bytes_are is = subst (λ (r : Parts). Steps s p on.send_continue on.done r) (sym is) (of_some p.exchange refl some)
  where
    of_some : (e : Option Exchange) → p.exchange ≡ e → is_some e ≡ true → Steps s p on.send_continue on.done (record p { exchange = with_continue p.exchange; output = queue })
    of_some None there is = absurd (cc is)
    of_some (Some x) there is = continue_steps s p x queue sound there bytes_are

pub told_sound_by : (s : Settings) (p q : Parts) (queue : Queued) → IsSound s p → q ≡ record p { exchange = with_continue p.exchange; output = queue } → IsSound s q
told_sound_by s p q queue sound is = subst (λ (r : Parts). IsSound s r) (sym is) (continue_sound s p queue sound)

pub eof_may_by : (s : Settings) (p m : Parts) → IsSound s p → m ≡ ended_parts p → MayBeSearched m
eof_may_by s p m sound is = subst (λ (r : Parts). MayBeSearched r) (sym is) (eof_may s p sound)

pub eof_steps_by : (s : Settings) (p m n q : Parts) → m ≡ ended_parts p → kept_of n ≡ passing (kept_of m) → IsSettled (setting_of s) (kept_of n) q
    → Steps s p on.eof on.done q
eof_steps_by s p m n q is passed settled = eof_steps s p n q (passed ∙ ap (λ (r : Parts). passing (kept_of r)) is) settled

pub eof_sound_by : (s : Settings) (p m n q : Parts) → IsSound s p → m ≡ ended_parts p → kept_of n ≡ passing (kept_of m) → IsSettled (setting_of s) (kept_of n) q → IsSound s q
eof_sound_by s p m n q sound is passed settled = eof_sound s p n q sound (passed ∙ ap (λ (r : Parts). passing (kept_of r)) is) settled
