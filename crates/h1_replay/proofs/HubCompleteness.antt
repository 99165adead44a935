-- Which status comes of a script where no end fails.
use Rattle.std.proofs.Common.{◌≡◌, ◌<◌, ◌⊎◌, inl, inr, ℕ, List, ◌++◌, length, Option, None, Some, Result, Ok, Err, sym, ap, ◌∙◌, subst, append-nil, arith}
use Rattle.std.specs.Prelude.{IfSome}
use Rattle.std.specs.Io.KnownBytes.{Appends, Consumes, IsAtEnd}
use Rattle.http_config.specs.Config.{Settings}
use Rattle.h1_replay.proofs.Reading.{whole_consumed, past_long}
use Rattle.h1_replay.specs.Input.{MAX_INPUT, Told, ReadsWhole}
use Rattle.h1_replay.specs.Run.{IsReplay}
use Rattle.rooms.specs.Run.{IsMisplaced, AreAllowed, IsFirstRefused}
use Rattle.rooms.specs.declared.event.HubEvent.{HubEvent}
use Rattle.rooms.proofs.FirstLemmas.{none_refused, first_refused, not_whole}
use Rattle.h1_replay.specs.HubScript.{script_of}
use Rattle.h1_replay.specs.HubRun.{IsStopped, IsStoppedText, IsAnswer, done, usage, bad_line, misplaced, read_fault, too_long, no_memory, IsScript, IsGood, IsRefused, IsRefusal, IsRefusedWith}

-- what a script says
abbrev Said : Type 0
Said = Settings × List HubEvent

-- ---- the bytes that were read are the script's

read_bytes : (then : Option (List ℕ)) (known bytes : List ℕ) → Consumes (Some known) then bytes → IsAtEnd then → known ≡ bytes
read_bytes None known bytes read at_end = absurd read
read_bytes (Some rest) known bytes read at_end = read ∙ ap (λ r. bytes ++ r) at_end ∙ append-nil bytes

script_read : (before now : Told) (bytes : List ℕ) (config : Settings) (events : List HubEvent) → ReadsWhole before now bytes → IsScript before.left config events
    → script_of bytes ≡ Ok (config, events)
script_read before now bytes config events whole x =
    let read = subst (λ (l : Option (List ℕ)). Consumes l now.left bytes) x.known (whole_consumed before now bytes whole) in
    ap script_of (sym (read_bytes now.left x.bytes bytes read whole.at_end)) ∙ x.script

-- so it says what they say
said : Said → Result Said ℕ → Said
said other (Ok says) = says
said other (Err line) = other

same_said : (a b : Said) (o : Result Said ℕ) → o ≡ Ok a → o ≡ Ok b → a ≡ b
unfolding said
same_said a b o x y = ap (said a) (sym x ∙ y)

not_bad : (a : Said) (line : ℕ) (o : Result Said ℕ) → o ≡ Ok a → o ≡ Err line → ⊥
not_bad a line o x y = cc

-- and it isn't too long
not_long : (left : Option (List ℕ)) (config : Settings) (events : List HubEvent) → IsScript left config events → IfSome left (λ bytes. MAX_INPUT < length bytes) → ⊥
not_long left config events x long =
    let longer : MAX_INPUT < length x.bytes = subst (λ (l : Option (List ℕ)). IfSome l (λ bytes. MAX_INPUT < length bytes)) x.known long in
    absurd (omega (arith, x.within, longer))

-- ---- each event is allowed

pub good_status : (words : List (List ℕ)) (before now : Told) (status : ℕ) (text : List ℕ) → IsAnswer words before now status text → IsReplay words
    → IsGood before.left → (status ≡ 4 → ⊥) → (status ≡ 0) ⊎ (status ≡ 7)
good_status words before now status text (done bytes _ read is zero) command good no_fault = inl zero
good_status words before now status text (usage other unread _ one) command good no_fault = absurd (other command)
good_status words before now status text (bad_line bytes _ read is two) command good no_fault =
    absurd (not_bad (good.config, good.events) is.number (script_of bytes) (script_read before now bytes good.config good.events read good.script) is.script)
good_status words before now status text (misplaced bytes _ read is three) command good no_fault =
    let same = same_said (good.config, good.events) (is.config, is.events) (script_of bytes) (script_read before now bytes good.config good.events read good.script) is.script in
    absurd (none_refused is.config is.events is.index is.trace is.stops (subst (λ (s : Said). AreAllowed s.0 s.1) same good.allowed))
good_status words before now status text (read_fault _ some _ four) command good no_fault = absurd (no_fault four)
good_status words before now status text (too_long _ long _ six) command good no_fault = absurd (not_long before.left good.config good.events good.script (past_long before now long))
good_status words before now status text (no_memory _ some _ seven) command good no_fault = inr seven

-- ---- one isn't

refusal_of : (before now : Told) (bytes text : List ℕ) (index : ℕ) → ReadsWhole before now bytes → IsStopped bytes text
    → IsRefused before.left index → IsRefusal before.left index text
refusal_of before now bytes text index read is refused =
    let same = same_said (refused.config, refused.events) (is.config, is.events) (script_of bytes) (script_read before now bytes refused.config refused.events read refused.script) is.script in
    let first = subst (λ (s : Said). IsFirstRefused s.0 s.1 index) same refused.first in
    let at : is.index ≡ index = first_refused is.config is.events is.index index is.trace is.stops first in
    record {
      config = is.config;
      events = is.events;
      trace = is.trace;
      script = subst (λ (s : Said). IsScript before.left s.0 s.1) same refused.script;
      stops = subst (λ (i : ℕ). IsMisplaced is.config is.events i is.trace) at is.stops;
      is_text = subst (λ (i : ℕ). IsStoppedText is.trace i text) at is.is_text;
    }

pub refused_status : (words : List (List ℕ)) (before now : Told) (given given_then : Option (List ℕ)) (status index : ℕ) (text : List ℕ) → IsAnswer words before now status text
    → Appends given given_then text → IsReplay words → IsRefused before.left index → (status ≡ 4 → ⊥) → IsRefusedWith before.left index given given_then status
refused_status words before now given given_then status index text (done bytes _ read is zero) grew command refused no_fault =
    let same = same_said (refused.config, refused.events) (is.config, is.events) (script_of bytes) (script_read before now bytes refused.config refused.events read refused.script) is.script in
    absurd (not_whole is.config is.events index is.trace is.whole (subst (λ (s : Said). IsFirstRefused s.0 s.1 index) same refused.first))
refused_status words before now given given_then status index text (usage other unread _ one) grew command refused no_fault = absurd (other command)
refused_status words before now given given_then status index text (bad_line bytes _ read is two) grew command refused no_fault =
    absurd (not_bad (refused.config, refused.events) is.number (script_of bytes) (script_read before now bytes refused.config refused.events read refused.script) is.script)
refused_status words before now given given_then status index text (misplaced bytes _ read is three) grew command refused no_fault =
    inl (three, (text, refusal_of before now bytes text index read is refused, grew))
refused_status words before now given given_then status index text (read_fault _ some _ four) grew command refused no_fault = absurd (no_fault four)
refused_status words before now given given_then status index text (too_long _ long _ six) grew command refused no_fault =
    absurd (not_long before.left refused.config refused.events refused.script (past_long before now long))
refused_status words before now given given_then status index text (no_memory _ some _ seven) grew command refused no_fault = inr seven
