-- The events of a hub's script, line by line.
use Rattle.std.proofs.Common.{◌≡◌, ℕ, ◌+◌, List, [], ◌∷◌, ◌++◌, length, Some, None, Result, Ok, Err, refl, sym, ap, ◌∙◌, append_assoc, arith, length-append}
use Rattle.h1_replay.specs.Script.{words_of}
use Rattle.rooms.specs.declared.event.HubEvent.{HubEvent}
use Rattle.h1_replay.specs.HubScript.{line_event, events_of, with_event}

-- these events, and then those of later lines
abbrev pub after : List HubEvent → Result (List HubEvent) ℕ → Result (List HubEvent) ℕ
after events (Ok later) = Ok (events ++ later)
after events (Err bad) = Err bad

-- before any line
pub after-nil : (later : Result (List HubEvent) ℕ) → after [] later ≡ later
after-nil (Ok later) = refl
after-nil (Err bad) = refl

after-with_event : (n : ℕ) (events : List HubEvent) (event : HubEvent) (later : Result (List HubEvent) ℕ) → after events (with_event n (Some event) later) ≡ after (events ++ event ∷ []) later
after-with_event n events event (Ok later) = ap (λ (l : List HubEvent). Ok l) (sym (append_assoc events (event ∷ []) later))
after-with_event n events event (Err bad) = refl

-- one line more, which names an event
pub after_line : (hold : ℕ) (events : List HubEvent) (event : HubEvent) (line : List ℕ) (lines : List (List ℕ)) → line_event hold (words_of line) ≡ Some event
    → after events (events_of hold (length events + 2) (line ∷ lines)) ≡ after (events ++ event ∷ []) (events_of hold (length (events ++ event ∷ []) + 2) lines)
after_line hold events event line lines named =
    let n = length events + 2 in
    let next : n + 1 ≡ length (events ++ event ∷ []) + 2 = omega (arith, length-append events (event ∷ [])) in
    ap (λ o. after events (with_event n o (events_of hold (n + 1) lines))) named
    ∙ after-with_event n events event (events_of hold (n + 1) lines)
    ∙ ap (λ m. after (events ++ event ∷ []) (events_of hold m lines)) next

-- a line that names none
pub after_bad_line : (hold : ℕ) (events : List HubEvent) (line : List ℕ) (lines : List (List ℕ)) → line_event hold (words_of line) ≡ None
    → after events (events_of hold (length events + 2) (line ∷ lines)) ≡ Err (length events + 2)
after_bad_line hold events line lines unnamed =
    let n = length events + 2 in
    ap (λ o. after events (with_event n o (events_of hold (n + 1) lines))) unnamed
