-- The machine's step of a tick.
use Rattle.std.proofs.Common.{◌≡◌, ℕ, ◌+◌, ◌^◌, ◌<◌, Bool, true, false, not, ◌&&◌, Option, Some, None, refl, sym, ap, ◌∙◌, subst, arith}
use Rattle.std.proofs.lemmas.Bool.{ltb-false, lt-leb}
use Rattle.std.specs.Prelude.{option_map, is_some, unwrap_or, nat_lt, nat_le, ◌==◌, if◌then◌else◌}
use Rattle.std.specs.Option.{option_or}
use Rattle.http_config.specs.Config.{Settings}
use Rattle.http_config.specs.Deadline.{deadline_of}
use Rattle.model_h1.specs.Limits.{MAX_MOMENT}
use Rattle.model_h1.specs.OutcomeTable.{counted_from, has_run_out}
use Rattle.model_h1.specs.Event as on
use Rattle.model_h1.specs.End as ends
use Rattle.h1_connection.specs.declared.event.End.{End}
use Rattle.model_h1.specs.Deadline.{is_due}
use Rattle.model_state.specs.Kept.{Change, is_free}
use Rattle.model_state.specs.Local.{closing_by}
use Rattle.model_state.specs.Clock.{expiring, at_moment}
use Rattle.model_state.specs.Change.{noting_since}
use Rattle.h1_connection.specs.Stock.{Stock, IsFoundOf}
use Rattle.h1_connection.specs.EventMeaning.{setting_of, end_of}
use Rattle.h1_connection.specs.Parts.{kept_of, leaves_body, HasNoneBehind, MayBeSearched, IsSound, Steps}
use Rattle.h1_connection.specs.Ticks.{expiry_of}
use Rattle.h1_connection.specs.declared.connection.clock.Clock.{Clock}
use Rattle.h1_connection.specs.declared.connection.exchange.Exchange.{Exchange}
use Rattle.h1_connection.specs.declared.connection.parts.Parts.{Parts}
use Rattle.h1_connection.specs.declared.connection.ticks.Expiry.{Expiry}
use Rattle.h1_connection.proofs.StepLemmas.{settled_step, settled_sound, settled_noted, sound_may}

-- ---- deadlines

past_within : (fits : Bool) (end moment : ℕ) → nat_lt end (2 ^ 64) ≡ fits → moment < 2 ^ 64 → is_due (if fits then Some end else None) moment ≡ nat_le end moment
past_within true end moment is below = refl
past_within false end moment is below = sym (lt-leb end moment (omega (arith, ltb-false end (2 ^ 64) is, below)))

past_on : (off : Bool) (since wait moment : ℕ) → moment < 2 ^ 64
    → is_due (if off then None else (if nat_lt (since + wait) (2 ^ 64) then Some (since + wait) else None)) moment ≡ (not off && nat_le (since + wait) moment)
past_on true since wait moment below = refl
past_on false since wait moment below = past_within (nat_lt (since + wait) (2 ^ 64)) (since + wait) moment refl below

-- a deadline has come where the time has run out
pub past_run_out : (since wait moment : ℕ) → moment < 2 ^ 64 → is_due (deadline_of since wait) moment ≡ has_run_out wait since moment
past_run_out since wait moment below = past_on (wait == 0) since wait moment below

-- from the tick that is noted, or from the first one
pub counted_some : (since : Option (Option ℕ)) (tick first : ℕ) → since ≡ Some (Some tick) → tick ≡ counted_from first (unwrap_or since None)
counted_some since tick first is = sym (ap (λ (s : Option (Option ℕ)). counted_from first (unwrap_or s None)) is)

-- ---- the step

-- the parts at a moment
abbrev pub at_tick : ℕ → Parts → Parts
at_tick ms p = record p { clock = record p.clock { first = option_or p.clock.first (Some ms); last = Some ms } }

tick_free : (m p : Parts) (ms : ℕ) → m.exchange ≡ p.exchange → is_free (kept_of (at_tick ms m)) ≡ is_free (kept_of p)
tick_free m p ms same = ap (λ (e : Option Exchange). is_free (kept_of (record p { exchange = e }))) same

-- none is counted behind a body then either
tick_behind : (s : Settings) (p m : Parts) → IsSound s p → m.exchange ≡ p.exchange → m.input ≡ p.input → HasNoneBehind (kept_of m) m.input.ahead
tick_behind s p m sound exchange input = λ left.
    ap (λ (i : Stock). i.ahead) input ∙ sound.behind (sym (ap (λ (e : Option Exchange). leaves_body (kept_of (record p { exchange = e }))) exchange) ∙ left)

-- no head is searched for then where none was
pub tick_may : (s : Settings) (p m : Parts) → IsSound s p → m.exchange ≡ p.exchange → m.input ≡ p.input → MayBeSearched m
tick_may s p m sound exchange input =
    record {
      searched = λ busy. ap (λ (i : Stock). i.piece) input
          ∙ (sound_may s p sound).searched (sym (ap (λ (e : Option Exchange). is_free (kept_of (record p { exchange = e }))) exchange) ∙ busy);
      behind = tick_behind s p m sound exchange input;
    }

pub tick_steps : (s : Settings) (p m q : Parts) (ms : ℕ) (expiry : Expiry) → IsSound s p
    → record { outcome = expiry_of expiry; kept = kept_of m } ≡ expiring (setting_of s) (kept_of p) (closing_by (setting_of s) (kept_of p)) (unwrap_or p.clock.first ms) ms
    → m.exchange ≡ p.exchange → m.input ≡ p.input
    → kept_of q ≡ noting_since (setting_of s) (kept_of (at_tick ms m)) → q.input ≡ m.input → Steps s p (on.tick ms) (expiry_of expiry) q
tick_steps s p m q ms expiry sound expires exchange input noted still =
    let searched = ap (λ (i : Stock). is_some i.piece) input ∙ sound.searched ∙ sym (tick_free m p ms exchange) in
    let found = subst (λ (i : Stock). IsFoundOf i) (sym input) sound.scanned in
    let c : Change = record { outcome = expiry_of expiry; kept = kept_of m } in
    settled_step s p q (on.tick ms) (expiry_of expiry) (kept_of (at_tick ms m)) (kept_of (at_tick ms m)) (kept_of m).is_coming
    (ap (λ (d : Change). at_moment ms d) expires) refl
    (settled_noted (setting_of s) (at_tick ms m) q noted still searched found (tick_behind s p m sound exchange input))

pub tick_sound : (s : Settings) (p m q : Parts) (ms : ℕ) → ms < MAX_MOMENT → IsSound s p → m.exchange ≡ p.exchange → m.input ≡ p.input
    → kept_of q ≡ noting_since (setting_of s) (kept_of (at_tick ms m)) → q.input ≡ m.input → IsSound s q
tick_sound s p m q ms before sound exchange input noted still =
    settled_sound s (kept_of (at_tick ms m)) q before
    (settled_noted (setting_of s) (at_tick ms m) q noted still
    (ap (λ (i : Stock). is_some i.piece) input ∙ sound.searched ∙ sym (tick_free m p ms exchange))
    (subst (λ (i : Stock). IsFoundOf i) (sym input) sound.scanned)
    (tick_behind s p m sound exchange input))

-- the same of parts that are these
pub tick_steps_by : (s : Settings) (p m q : Parts) (first ms : ℕ) (clock : Clock) (expiry : Expiry) → IsSound s p → first ≡ unwrap_or p.clock.first ms
    → record { outcome = expiry_of expiry; kept = kept_of m } ≡ expiring (setting_of s) (kept_of p) (closing_by (setting_of s) (kept_of p)) first ms
    → m.exchange ≡ p.exchange → m.input ≡ p.input → clock ≡ record m.clock { first = option_or m.clock.first (Some ms); last = Some ms }
    → kept_of q ≡ noting_since (setting_of s) (kept_of (record m { clock = clock })) → q.input ≡ m.input → Steps s p (on.tick ms) (expiry_of expiry) q
tick_steps_by s p m q first ms clock expiry sound first_is expires exchange input clock_is noted still =
    tick_steps s p m q ms expiry sound
    (expires ∙ ap (λ (f : ℕ). expiring (setting_of s) (kept_of p) (closing_by (setting_of s) (kept_of p)) f ms) first_is) exchange input
    (noted ∙ ap (λ (t : Clock). noting_since (setting_of s) (kept_of (record m { clock = t }))) clock_is) still

pub tick_sound_by : (s : Settings) (p m q : Parts) (ms : ℕ) (clock : Clock) → ms < MAX_MOMENT → IsSound s p → m.exchange ≡ p.exchange → m.input ≡ p.input
    → clock ≡ record m.clock { first = option_or m.clock.first (Some ms); last = Some ms }
    → kept_of q ≡ noting_since (setting_of s) (kept_of (record m { clock = clock })) → q.input ≡ m.input → IsSound s q
tick_sound_by s p m q ms clock before sound exchange input clock_is noted still =
    tick_sound s p m q ms before sound exchange input
    (noted ∙ ap (λ (t : Clock). noting_since (setting_of s) (kept_of (record m { clock = t }))) clock_is) still

-- what is done where the connection closes is done then
pub closing_change : (s : Settings) (p q : Parts) (closes : Bool) (end : Option End) (expiry : Expiry) (first ms : ℕ)
    → option_map end_of end ≡ closing_by (setting_of s) (kept_of p) → closes ≡ is_some end → closes ≡ true
    → ((e : ends.End) → record { outcome = expiry_of expiry; kept = kept_of q } ≡ expiring (setting_of s) (kept_of p) (Some e) first ms)
    → record { outcome = expiry_of expiry; kept = kept_of q } ≡ expiring (setting_of s) (kept_of p) (closing_by (setting_of s) (kept_of p)) first ms
closing_change s p q closes None expiry first ms is tests some changes = absurd (cc (tests, some))
closing_change s p q closes (Some end) expiry first ms is tests some changes =
    changes (end_of end) ∙ ap (λ (o : Option ends.End). expiring (setting_of s) (kept_of p) o first ms) is
