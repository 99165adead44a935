-- How many bytes are taken from either side.
use Rattle.std.proofs.Common.{◌≡◌, ℕ, Bool, true, false, not, ◌||◌, List, ◌∷◌, length, Option, Some, None, refl, sym, ap, ◌∙◌, subst₂, arith}
use Rattle.std.specs.Prelude.{◌-◌, min, nat_le, if◌then◌else◌}
use Rattle.std.proofs.lemmas.Bool.{true≢false}
use Rattle.model_h1.specs.Event as on
use Rattle.model_h1.specs.Setting.{Setting}
use Rattle.model_h1.specs.Sums.{Step}
use Rattle.model_state.specs.Kept.{Kept, Change}
use Rattle.model_state.specs.Change.{IsStep}
use Rattle.model_state.specs.StandsFor.{StandsFor}
use Rattle.model_state.proofs.Stands.{table_steps}
use Rattle.h1_connection.specs.EventMeaning.{setting_of}
use Rattle.h1_connection.specs.State.{State, GoesOn, Is}
use Rattle.model_client.specs.ClientEvent as asked
use Rattle.model_client.specs.ClientKept.{client_allows}
use Rattle.model_client.specs.ClientStep.{ClientChange}
use Rattle.h1_client.specs.ClientMeaning as asking
use Rattle.h1_client.specs.State as servers
use Rattle.model_proxy.specs.Past.{ProxyStep}
use Rattle.model_proxy.specs.Rests.{MAX_WAITING}
use Rattle.model_proxy.specs.Happenings.{Happenings}
use Rattle.proxy.proofs.Sides.{client_does}
use Rattle.proxy.specs.declared.proxy.Proxy.{Proxy}
use Rattle.proxy.specs.Kept.{Forwards, is_closing, server_text, server_allows, client_takes, client_room, room_of, server_room}
use Rattle.proxy.proofs.Work.{told_of}

-- ---- what a read answers

-- one that stands for a trace makes the machine's step
pub machine_step : (setting : Setting) (k next : Kept) (trace : List Step) (s : Step) → StandsFor setting k trace → StandsFor setting next (s ∷ trace)
    → IsStep setting k s.event s.outcome next
machine_step setting k next trace s x y =
    subst₂ (λ (a b : Kept). IsStep setting a s.event s.outcome b) (sym x.parts) (sym y.parts)
    (table_steps setting s trace x.past y.past y.traced x.of_trace y.of_trace)

abbrev count_of : on.Outcome → ℕ
count_of (on.took n) = n
count_of _ = 0

pub client_count : (bytes : List ℕ) (n : ℕ) (p : Proxy) (c : State) → c.settings ≡ p.client.settings → GoesOn p.client (on.read bytes) (Is (on.took n)) c
    → (history : List ProxyStep) (all : Happenings) → Forwards p history all
    → n ≡ min (length bytes) (p.client.settings.h1_hold_size - length p.client.kept.unread)
client_count bytes n p c settings one history all f =
    let told = told_of p history all f in
    let after = client_does p.client (on.read bytes) (on.took n) c settings one told.trace told.stands in
    let step =
    machine_step (setting_of p.client.settings) p.client.kept c.kept told.trace (record { event = on.read bytes; outcome = on.took n }) told.stands after in
    ap count_of (step.answers ∙ ap (λ (c : Change). c.outcome) step.changes)

abbrev asked_count : asked.ClientOutcome → ℕ
asked_count (asked.took n) = n
asked_count _ = 0

pub server_count : (bytes : List ℕ) (n : ℕ) (a b : servers.State) → servers.GoesOn a (asked.read bytes) (servers.Is (asked.took n)) b
    → n ≡ min (length bytes) (a.settings.h1_hold_size - length a.kept.unread)
server_count bytes n a b one =
    ap asked_count (sym one.says ∙ one.step.answers ∙ ap (λ (c : ClientChange). c.outcome) one.step.changes)

-- ---- how much room there is

pub none_taken : (bytes : List ℕ) (n : ℕ) → n ≡ 0 → 0 ≡ min (length bytes) n
none_taken bytes n is = omega (arith, is)

chosen : (b : Bool) (n : ℕ) → ((if b then 0 else n) ≡ 0 → ⊥) → (if b then 0 else n) ≡ n
chosen true n some = absurd (some refl)
chosen false n some = refl

other_chosen : (b : Bool) (n : ℕ) → ((if b then n else 0) ≡ 0 → ⊥) → (if b then n else 0) ≡ n
other_chosen true n some = refl
other_chosen false n some = absurd (some refl)

pub client_has : (p : Proxy) → (client_room p ≡ 0 → ⊥) → client_room p ≡ p.client.settings.h1_hold_size - length p.client.kept.unread
client_has p some = chosen (is_closing p || not (client_takes p on.eof) || nat_le MAX_WAITING (length (server_text p.server))) _ some

pub unread_client : (p : Proxy) → client_takes p on.eof ≡ false → client_room p ≡ 0
unread_client p is = by_three (is_closing p) (client_takes p on.eof) (nat_le MAX_WAITING (length (server_text p.server))) _ is
  where
    by_three : (a b c : Bool) (n : ℕ) → b ≡ false → (if (a || not b || c) then 0 else n) ≡ 0
    by_three true b c n is = refl
    by_three false false c n is = refl
    by_three false true c n is = absurd (true≢false is)

pub server_has : (p : Proxy) (s : servers.State) → p.server ≡ Some s → (server_room p ≡ 0 → ⊥)
    → server_room p ≡ s.settings.h1_hold_size - length s.kept.unread
server_has p s is some =
    let first = chosen (nat_le MAX_WAITING (length p.client.kept.buffered)) (room_of p.server) some in
    let same = ap room_of is in
    first ∙ same ∙ other_chosen (client_allows (asking.setting_of s.settings) s.kept asked.eof) _ (λ none. some (first ∙ same ∙ none))

pub unread_server : (p : Proxy) → server_allows p.server asked.eof ≡ false → server_room p ≡ 0
unread_server p is = by_full (nat_le MAX_WAITING (length p.client.kept.buffered)) (by_server p.server is)
  where
    by_choice : (b : Bool) (n : ℕ) → b ≡ false → (if b then n else 0) ≡ 0
    by_choice b n is = ap (λ (b : Bool). if b then n else 0) is

    by_server : (s : Option servers.State) → server_allows s asked.eof ≡ false → room_of s ≡ 0
    by_server None is = refl
    by_server (Some s) is = by_choice (client_allows (asking.setting_of s.settings) s.kept asked.eof) _ is

    by_full : (b : Bool) → room_of p.server ≡ 0 → (if b then 0 else room_of p.server) ≡ 0
    by_full true is = refl
    by_full false is = is
