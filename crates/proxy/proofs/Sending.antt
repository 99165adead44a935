-- Whether the client is to send more, whether the rest of a body is dropped, and whether the client may be gone.
use Rattle.std.proofs.Common.{◌≡◌, ℕ, ◌<◌, ◌≤◌, Bool, true, false, not, ◌&&◌, ◌||◌, length, refl, sym, ap, ◌∙◌, arith}
use Rattle.std.specs.Prelude.{◌-◌, nat_lt, nat_le, ◌==◌, if◌then◌else◌}
use Rattle.std.proofs.lemmas.Bool.{false≢true, lt-ltb, le-ltb}
use Rattle.model_h1.specs.Event as on
use Rattle.h1_connection.specs.EventMeaning.{setting_of}
use Rattle.h1_connection.specs.Given.{next_allowed}
use Rattle.model_proxy.specs.Rests.{MAX_WAITING}
use Rattle.proxy.specs.declared.proxy.Proxy.{Proxy}
use Rattle.proxy.specs.Kept.{server_of, is_closing, client_takes, server_text, client_room, is_idle, has_unread, is_to_send, is_draining, is_answering, may_be_gone}

-- ---- the next head

and_true : (a : Bool) → (a && true) ≡ a
and_true true = refl
and_true false = refl

-- while the connection isn't to end, the next head may be asked for by its call where the tables allow it
pub next_is : (p : Proxy) (asked : Bool) → asked ≡ next_allowed (setting_of p.client.settings) p.client.kept → is_closing p ≡ false → asked ≡ client_takes p on.next
next_is p asked is going =
    is ∙ ap (λ (b : Bool). client_takes p on.next && (not b || (length p.client.kept.buffered == 0))) going ∙ and_true (client_takes p on.next)

-- ---- what waits for the client

pub some_waits : (p : Proxy) (n : ℕ) → n ≡ length p.client.kept.buffered → 0 < n → nat_lt 0 (length p.client.kept.buffered) ≡ true
some_waits p n is some = lt-ltb 0 (length p.client.kept.buffered) (omega (arith, is, some))

pub none_waits : (p : Proxy) (n : ℕ) → n ≡ length p.client.kept.buffered → n ≤ 0 → nat_lt 0 (length p.client.kept.buffered) ≡ false
none_waits p n is none = le-ltb 0 (length p.client.kept.buffered) (omega (arith, is, none))

-- ---- more of the client

-- where there is room the connection isn't to end
pub room_goes : (p : Proxy) → (client_room p ≡ 0 → ⊥) → is_closing p ≡ false
room_goes p some = by_closing (is_closing p) refl
  where
    no_room : (a b c : Bool) (n : ℕ) → a ≡ true → (if a || not b || c then 0 else n) ≡ 0
    no_room true b c n is = refl
    no_room false b c n is = absurd (false≢true is)

    by_closing : (b : Bool) → is_closing p ≡ b → b ≡ false
    by_closing false is = refl
    by_closing true is =
        absurd (some (no_room (is_closing p) (client_takes p on.eof) (nat_le MAX_WAITING (length (server_text (server_of p))))
        (p.client.settings.h1_hold_size - length p.client.kept.unread) is))

-- the same tests by what they gave
abbrev to_send : Bool → Bool → Bool → Bool → Bool → Bool → Bool
to_send room waits reads unread idle next = room && (not waits && (if reads then not unread else (idle && (not next || unread))))

pub full_sends : (p : Proxy) → client_room p ≡ 0 → false ≡ is_to_send p
full_sends p none = sym (ap (λ (n : ℕ). to_send (nat_lt 0 n) (nat_lt 0 (length p.client.kept.buffered)) (client_takes p on.drop_body) (has_unread p) (is_idle p) (client_takes p on.next)) none)

pub waiting_sends : (p : Proxy) → nat_lt 0 (length p.client.kept.buffered) ≡ true → false ≡ is_to_send p
waiting_sends p waits = by_room (nat_lt 0 (client_room p)) (nat_lt 0 (length p.client.kept.buffered)) waits
  where
    by_room : (room w : Bool) → w ≡ true → false ≡ to_send room w (client_takes p on.drop_body) (has_unread p) (is_idle p) (client_takes p on.next)
    by_room false w is = refl
    by_room true true is = refl
    by_room true false is = absurd (false≢true is)

has_room : (p : Proxy) → (client_room p ≡ 0 → ⊥) → nat_lt 0 (client_room p) ≡ true
has_room p some = lt-ltb 0 (client_room p) (omega (arith, some))

pub reading_sends : (p : Proxy) (held : ℕ) → (client_room p ≡ 0 → ⊥) → nat_lt 0 (length p.client.kept.buffered) ≡ false → client_takes p on.drop_body ≡ true
    → held ≡ length p.client.kept.unread → not (nat_lt 0 held) ≡ is_to_send p
reading_sends p held some taken reads is =
    let sends : is_to_send p ≡ not (has_unread p) = λ i. to_send (has_room p some i) (taken i) (reads i) (has_unread p) (is_idle p) (client_takes p on.next) in
    ap (λ (n : ℕ). not (nat_lt 0 n)) is ∙ sym sends

-- no body is read
other_sends : (p : Proxy) → (client_room p ≡ 0 → ⊥) → nat_lt 0 (length p.client.kept.buffered) ≡ false → client_takes p on.drop_body ≡ false
    → is_to_send p ≡ (is_idle p && (not (client_takes p on.next) || has_unread p))
other_sends p some taken reads = λ i. to_send (has_room p some i) (taken i) (reads i) (has_unread p) (is_idle p) (client_takes p on.next)

pub busy_sends : (p : Proxy) → (client_room p ≡ 0 → ⊥) → nat_lt 0 (length p.client.kept.buffered) ≡ false → client_takes p on.drop_body ≡ false → is_idle p ≡ false
    → false ≡ is_to_send p
busy_sends p some taken reads busy =
    sym (other_sends p some taken reads ∙ ap (λ (b : Bool). b && (not (client_takes p on.next) || has_unread p)) busy)

pub dropping_sends : (p : Proxy) → (client_room p ≡ 0 → ⊥) → nat_lt 0 (length p.client.kept.buffered) ≡ false → client_takes p on.drop_body ≡ false
    → is_idle p ≡ true → client_takes p on.next ≡ false → true ≡ is_to_send p
dropping_sends p some taken reads idle none =
    let sends : (is_idle p && (not (client_takes p on.next) || has_unread p)) ≡ true = λ i. idle i && (not (none i) || has_unread p) in
    sym (other_sends p some taken reads ∙ sends)

pub begun_sends : (p : Proxy) (held : ℕ) → (client_room p ≡ 0 → ⊥) → nat_lt 0 (length p.client.kept.buffered) ≡ false → client_takes p on.drop_body ≡ false
    → is_idle p ≡ true → client_takes p on.next ≡ true → held ≡ length p.client.kept.unread → nat_lt 0 held ≡ is_to_send p
begun_sends p held some taken reads idle may is =
    let sends : (is_idle p && (not (client_takes p on.next) || has_unread p)) ≡ nat_lt 0 held = λ i. idle i && (not (may i) || nat_lt 0 (sym is i)) in
    sym (other_sends p some taken reads ∙ sends)

-- ---- the rest of a body

abbrev draining : Bool → Bool → Bool → Bool → Bool
draining closes waits idle next = not closes && (not waits && (idle && not next))

pub closing_drains : (p : Proxy) → is_closing p ≡ true → false ≡ is_draining p
closing_drains p closes = sym (λ i. draining (closes i) (nat_lt 0 (length p.client.kept.buffered)) (is_idle p) (client_takes p on.next))

pub waiting_drains : (p : Proxy) → is_closing p ≡ false → nat_lt 0 (length p.client.kept.buffered) ≡ true → false ≡ is_draining p
waiting_drains p closes waits = sym (λ i. draining (closes i) (waits i) (is_idle p) (client_takes p on.next))

pub busy_drains : (p : Proxy) → is_closing p ≡ false → nat_lt 0 (length p.client.kept.buffered) ≡ false → is_idle p ≡ false → false ≡ is_draining p
busy_drains p closes waits busy = sym (λ i. draining (closes i) (waits i) (busy i) (client_takes p on.next))

pub idle_drains : (p : Proxy) (next : Bool) → is_closing p ≡ false → nat_lt 0 (length p.client.kept.buffered) ≡ false → is_idle p ≡ true → next ≡ client_takes p on.next
    → not next ≡ is_draining p
idle_drains p next closes waits idle may =
    let drains : is_draining p ≡ not next = λ i. draining (closes i) (waits i) (idle i) (sym may i) in
    sym drains

-- ---- a client that has ended

abbrev gone : Bool → Bool → Bool → Bool → Bool
gone reads closes idle answering = not reads && (not closes && (not idle && not answering))

pub reading_stays : (p : Proxy) → client_takes p on.eof ≡ true → false ≡ may_be_gone p
reading_stays p reads = sym (λ i. gone (reads i) (is_closing p) (is_idle p) (is_answering p))

pub closing_stays : (p : Proxy) → client_takes p on.eof ≡ false → is_closing p ≡ true → false ≡ may_be_gone p
closing_stays p reads closes = sym (λ i. gone (reads i) (closes i) (is_idle p) (is_answering p))

pub idle_stays : (p : Proxy) → client_takes p on.eof ≡ false → is_closing p ≡ false → is_idle p ≡ true → false ≡ may_be_gone p
idle_stays p reads closes idle = sym (λ i. gone (reads i) (closes i) (idle i) (is_answering p))

pub busy_goes : (p : Proxy) (answering : Bool) → client_takes p on.eof ≡ false → is_closing p ≡ false → is_idle p ≡ false → answering ≡ is_answering p
    → not answering ≡ may_be_gone p
busy_goes p answering reads closes busy answers =
    let goes : may_be_gone p ≡ not answering = λ i. gone (reads i) (closes i) (busy i) (sym answers i) in
    sym goes
