-- The messages before a WebSocket is accepted, and those behind it.
use Rattle.std.proofs.Common.{◌≡◌, ℕ, Bool, true, false, List, [], ◌∷◌, length, Option, Some, None, MatchOption, refl, sym, ap, ◌∙◌, subst, subst₂, arith, true≢false}
use Rattle.model_h1.specs.Request.{BodyKind, no_body, fixed_body, chunked_body, raw_body, is_raw_kind, Reading, head_is, faulty}
use Rattle.model_h1.specs.Parse.{Input, Message, Body, raw_content, next_start, IsBodyOf, IsBodyAfter, IsMessageAt, AreMessages, IsParse}
use Rattle.model_h1.specs.Laws.Upgrade.{has_raw_body, StaysUpgraded, StayUpgraded}
use Rattle.model_h1.proofs.BodyLemmas.{input, body_unique}
use Rattle.model_h1.proofs.TraceGrowth.{message_accepted, none_behind}

-- ---- bodies

-- a body that isn't raw is the same
kind_stays : (bytes : List ℕ) (limit : ℕ) (ended : Bool) (size : ℕ) (kind : BodyKind) (place : ℕ) (b : Body) → is_raw_kind kind ≡ false
    → IsBodyOf (input bytes (Some limit) ended size) kind place b → IsBodyOf (input bytes None ended size) kind place b
kind_stays bytes limit ended size no_body place b other x = x
kind_stays bytes limit ended size (fixed_body n) place b other x = x
kind_stays bytes limit ended size chunked_body place b other x = x
kind_stays bytes limit ended size raw_body place b other x = absurd (true≢false other)

-- the same behind a reading
body_stays : (bytes : List ℕ) (limit : ℕ) (ended : Bool) (size : ℕ) (r : Reading) (place : ℕ) (b : Body) → has_raw_body r ≡ false
    → IsBodyAfter (input bytes (Some limit) ended size) r place b → IsBodyAfter (input bytes None ended size) r place b
body_stays bytes limit ended size (faulty fault) place b other x = x
body_stays bytes limit ended size (head_is h) place b other x = kind_stays bytes limit ended size h.body place b other x

-- behind all bytes stands no message
none_at_end : (bytes : List ℕ) (u : Option ℕ) (ended : Bool) (size : ℕ) (ms : List Message)
    → AreMessages (input bytes u ended size) (length bytes) ms → ms ≡ []
none_at_end bytes u ended size [] x = refl
none_at_end bytes u ended size (m ∷ ms) x = absurd (none_behind bytes u ended size (length bytes) (m ∷ ms) 0 m x (omega arith) refl)

-- what stands behind a body
abbrev AreBehind : Input → Body → List Message → Type 0
AreBehind i b ms = MatchOption (next_start b) (ms ≡ []) (λ next. AreMessages i next ms)

-- behind all bytes from a place on stands nothing
raw_is_last : (bytes : List ℕ) (u : Option ℕ) (ended : Bool) (size place : ℕ) (ms : List Message)
    → AreBehind (input bytes u ended size) (raw_content (input bytes u ended size) place) ms → ms ≡ []
raw_is_last bytes u true size place ms x = none_at_end bytes u true size ms x
raw_is_last bytes u false size place ms x = x

-- behind a raw body stands nothing
kind_is_last : (bytes : List ℕ) (u : Option ℕ) (ended : Bool) (size : ℕ) (kind : BodyKind) (place : ℕ) (b : Body) (ms : List Message)
    → is_raw_kind kind ≡ true → IsBodyOf (input bytes u ended size) kind place b → AreBehind (input bytes u ended size) b ms → ms ≡ []
kind_is_last bytes u ended size no_body place b ms raw x y = absurd (true≢false (sym raw))
kind_is_last bytes u ended size (fixed_body n) place b ms raw x y = absurd (true≢false (sym raw))
kind_is_last bytes u ended size chunked_body place b ms raw x y = absurd (true≢false (sym raw))
kind_is_last bytes None ended size raw_body place b ms raw x y =
    raw_is_last bytes None ended size place ms (subst (λ c. AreBehind (input bytes None ended size) c ms) x y)
kind_is_last bytes (Some limit) ended size raw_body place b ms raw x y = subst (λ c. AreBehind (input bytes (Some limit) ended size) c ms) x.3 y

-- the same behind a reading
body_is_last : (bytes : List ℕ) (u : Option ℕ) (ended : Bool) (size : ℕ) (r : Reading) (place : ℕ) (b : Body) (ms : List Message)
    → has_raw_body r ≡ true → IsBodyAfter (input bytes u ended size) r place b → AreBehind (input bytes u ended size) b ms → ms ≡ []
body_is_last bytes u ended size (faulty fault) place b ms raw x y = absurd (true≢false (sym raw))
body_is_last bytes u ended size (head_is h) place b ms raw x y = kind_is_last bytes u ended size h.body place b ms raw x y

-- ---- messages

-- a message stays, but for a raw body
message_stays : (bytes : List ℕ) (limit : ℕ) (ended : Bool) (size place : ℕ) (m n : Message) → IsMessageAt (input bytes None ended size) place m
    → IsMessageAt (input bytes (Some limit) ended size) place n → StaysUpgraded m n
message_stays bytes limit ended size place m n x y =
    let a = message_accepted bytes limit ended size place m n x y in
    let behind = subst₂ (λ r p. IsBodyAfter (input bytes (Some limit) ended size) r p n.body) (sym a.reading) (sym a.body_start) y.body in
    record {
      reading = a.reading;
      body_start = a.body_start;
      body = λ other. body_unique (input bytes None ended size) m.reading m.body_start m.body n.body x.body
          (body_stays bytes limit ended size m.reading m.body_start n.body other behind);
    }

-- what stands behind the same body stays, if what stands behind each place does
rest_stays : (i j : Input) (next : Option ℕ) (ms ns : List Message)
    → ((place : ℕ) → AreMessages i place ms → AreMessages j place ns → StayUpgraded ms ns)
    → MatchOption next (ms ≡ []) (λ place. AreMessages i place ms) → MatchOption next (ns ≡ []) (λ place. AreMessages j place ns) → StayUpgraded ms ns
rest_stays i j None ms ns stay x y = subst₂ StayUpgraded (sym x) (sym y) tt
rest_stays i j (Some place) ms ns stay x y = stay place x y

-- what stands behind a message stays: nothing behind a raw body, and else what stands behind the same one
behind_stays : (bytes : List ℕ) (limit : ℕ) (ended : Bool) (size place : ℕ) (m n : Message) (ms ns : List Message) (raw : Bool)
    → has_raw_body m.reading ≡ raw → StaysUpgraded m n
    → IsMessageAt (input bytes None ended size) place m → IsMessageAt (input bytes (Some limit) ended size) place n
    → AreBehind (input bytes None ended size) m.body ms → AreBehind (input bytes (Some limit) ended size) n.body ns
    → ((next : ℕ) → AreMessages (input bytes None ended size) next ms → AreMessages (input bytes (Some limit) ended size) next ns → StayUpgraded ms ns)
    → StayUpgraded ms ns
behind_stays bytes limit ended size place m n ms ns true is stays x y p q stay =
    let none = body_is_last bytes None ended size m.reading m.body_start m.body ms is x.body p in
    let none' = body_is_last bytes (Some limit) ended size n.reading n.body_start n.body ns (sym (ap has_raw_body stays.reading) ∙ is) y.body q in
    subst₂ StayUpgraded (sym none) (sym none') tt
behind_stays bytes limit ended size place m n ms ns false is stays x y p q stay =
    rest_stays (input bytes None ended size) (input bytes (Some limit) ended size) (next_start m.body) ms ns stay p
    (subst (λ b. AreBehind (input bytes (Some limit) ended size) b ns) (sym (stays.body is)) q)

-- the messages from a place on stay
messages_stay : (bytes : List ℕ) (limit : ℕ) (ended : Bool) (size place : ℕ) (ms ns : List Message)
    → AreMessages (input bytes None ended size) place ms
    → AreMessages (input bytes (Some limit) ended size) place ns → StayUpgraded ms ns
messages_stay bytes limit ended size place [] [] x y = tt
messages_stay bytes limit ended size place [] (n ∷ ns) x y = absurd (x y.0.start y.0.end y.0.piece)
messages_stay bytes limit ended size place (m ∷ ms) [] x y = absurd (y x.0.start x.0.end x.0.piece)
messages_stay bytes limit ended size place (m ∷ ms) (n ∷ ns) x y =
    let first = message_stays bytes limit ended size place m n x.0 y.0 in (
      first,
      λ raw. body_is_last bytes None ended size m.reading m.body_start m.body ms raw x.0.body x.1,
      behind_stays bytes limit ended size place m n ms ns (has_raw_body m.reading) refl first x.0 y.0 x.1 y.1
          (λ next. messages_stay bytes limit ended size next ms ns),
    )

-- the parse stays
pub parse_stays_upgraded : (i : Input) (limit : ℕ) (ms ns : List Message) → i.upgraded ≡ None → IsParse i ms
    → IsParse (record i { upgraded = Some limit }) ns → StayUpgraded ms ns
parse_stays_upgraded i limit ms ns plain x y =
    messages_stay i.bytes limit i.ended i.hold_size 0 ms ns (subst (λ u. IsParse (input i.bytes u i.ended i.hold_size) ms) plain x) y
