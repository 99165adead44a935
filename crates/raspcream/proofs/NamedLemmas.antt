-- What is handed in names a head or a message, or nothing does.
use Rattle.std.proofs.Common.{◌≡◌, ◌≢◌, ◌<◌, ◌≤◌, ◌⊎◌, ◌∙◌, ◌/◌, ◌%◌, ◌==◌, ℕ, Bool, List, Option, None, true, false, map, ap, refl, sym, subst, inl, inr, arith, if◌then◌else◌}
use Rattle.std.specs.Prelude.{unwrap_or, IsUtf8, ⊤}
use Rattle.std.proofs.lemmas.Bool.{cases_lt}
use Rattle.http.specs.declared.version.Version.{Version}
use Rattle.http.specs.declared.version.TheConstants.Version.{HTTP_10, HTTP_11}
use Rattle.http_header.specs.Token.{IsToken}
use Rattle.http_map.specs.HeaderMap.{Entries}
use Rattle.http_uri.specs.Uri.{Spells, SpellsNone}
use Rattle.http_types.specs.ConnectionType.{default_type}
use Rattle.http_types.specs.Flags.{no_flags, with_type, type_of_flags}
use Rattle.http_types.specs.RequestHead.{request_flags}
use Rattle.http_types.specs.ResponseHead.{ResponseParts}
use Rattle.http_types.specs.declared.message.ConnectionType.{ConnectionType}
use Rattle.http_types.specs.declared.message.ConnectionType.TheVariants.{Close, KeepAlive, Upgrade}
use Rattle.http_types.specs.declared.message.Flags.{Flags}
use Rattle.http_types.specs.declared.requests.head.RequestHead.{RequestHead}
use Rattle.h1_encoder.specs.Meaning.{answer_of, headers_of, model_type}
use Rattle.h1_encoder.specs.RequestMeaning.{asked_minor, target_of}
use Rattle.h1_client.specs.ClientMeaning.{request_of}
use Rattle.model_h1.specs.Request as model
use Rattle.raspcream.specs.Named.{flags_with, type_said, version_said, NamesAnswer, IsNoAnswer, NamesRequest, IsRequestText, IsPlainOpcode, IsCloseText, IsSendable}
use Rattle.raspcream.specs.Packed.{IsPair, Packs, IsFilled, AreNoLines}
use Rattle.raspcream.specs.Refused.{OneOf, FailsBy}
use Rattle.raspcream.specs.declared.reply.Failure.{Failure}
use Rattle.raspcream.specs.declared.reply.Failure.TheVariants.{NoMemory, Misplaced, Invalid}
use Rattle.raspcream.proofs.PackedLemmas.{only_pair}

-- ---- why it fails

pub fails_too : (P Q : Type 0) (why : Failure) → (P → Q) → FailsBy P why → FailsBy Q why
fails_too P Q NoMemory so fails = tt
fails_too P Q Misplaced so fails = fails
fails_too P Q Invalid so fails = so fails

-- a call that copies what is handed in fails so
pub refused_so : (Barred Wrong : Type 0) (why : Failure) → FailsBy Wrong why → OneOf ⊤ Barred Wrong why
refused_so Barred Wrong NoMemory fails = tt
refused_so Barred Wrong Misplaced fails = absurd fails
refused_so Barred Wrong Invalid fails = fails

-- ---- marks

-- the marks by the tests of the number
abbrev marks : Bool → Bool → Bool → Flags
marks one two three =
    if one then with_type no_flags Close
    else (if two then with_type no_flags KeepAlive else (if three then with_type no_flags Upgrade else no_flags))

in_chunks : (one two three : Bool) → (marks one two three).no_chunking ≡ false
in_chunks true two three = refl
in_chunks false true three = refl
in_chunks false false true = refl
in_chunks false false false = refl

in_lower_case : (one two three : Bool) → (marks one two three).in_camel_case ≡ false
in_lower_case true two three = refl
in_lower_case false true three = refl
in_lower_case false false true = refl
in_lower_case false false false = refl

-- ---- an answer's head

out_of_range : (n : ℕ) → ((100 ≤ n) × (n < 1000) → ⊥) → (n < 100) ⊎ (100 ≤ n) → (n < 1000) ⊎ (1000 ≤ n) → (n < 100) ⊎ (999 < n)
out_of_range n not (inl below) high = inl below
out_of_range n not (inr least) (inl most) = absurd (not (least, most))
out_of_range n not (inr least) (inr above) = inr (omega arith)

pub no_status : (n : ℕ) → ((100 ≤ n) × (n < 1000) → ⊥) → (n < 100) ⊎ (999 < n)
no_status n not = out_of_range n not (cases_lt n 100) (cases_lt n 1000)

pub names_answer : (arg : ℕ) (packed : List ℕ) (entries : Entries) (head : ResponseParts) → head.status ≡ arg % 1024 → head.headers ≡ entries → head.reason ≡ None
    → head.flags ≡ flags_with ((arg / 1024) % 4) no_flags → IsFilled packed entries → NamesAnswer arg packed (answer_of head)
names_answer arg packed entries head status headers reason flags filled =
    let keep = (arg / 1024) % 4 in
    record {
      status = status;
      closes = ap (λ (f : Flags). f.close) flags;
      keeps_alive = ap (λ (f : Flags). f.keep_alive) flags;
      upgrades = ap (λ (f : Flags). f.upgrade) flags;
      reason = reason;
      chunked = ap (λ (f : Flags). f.no_chunking) flags ∙ in_chunks (keep == 1) (keep == 2) (keep == 3);
      plain = ap (λ (f : Flags). f.in_camel_case) flags ∙ in_lower_case (keep == 1) (keep == 2) (keep == 3);
      lines = filled.0;
      packs = filled.1;
      headers = ap headers_of (headers ∙ filled.2);
    }

-- ---- a request's head

-- what they ask of the connection
types_by : (one two three older : Bool) → model_type (unwrap_or (type_of_flags (marks one two three)) (default_type (if older then HTTP_10 else HTTP_11)))
    ≡ (if one then model.close else (if two then model.keep_alive else (if three then model.upgrade else (if older then model.close else model.keep_alive))))
types_by true two three older = refl
types_by false true three older = refl
types_by false false true older = refl
types_by false false false true = refl
types_by false false false false = refl

minor_by : (older : Bool) → asked_minor (if older then HTTP_10 else HTTP_11) ≡ (if older then 0 else 1)
minor_by true = refl
minor_by false = refl

pub names_request : (arg : ℕ) (packed method target rest : List ℕ) (entries : Entries) (head : RequestHead) → IsPair packed method target rest → head.method ≡ method → Spells target head.uri
    → head.version ≡ version_said (arg % 2) → head.headers ≡ entries → request_flags head ≡ flags_with ((arg / 1024) % 4) no_flags → IsFilled rest entries → NamesRequest arg packed (request_of head)
names_request arg packed method target rest entries head pair method_is spells version headers flags filled =
    let keep = (arg / 1024) % 4 in
    record {
      method = method;
      target = target;
      rest = rest;
      pair = pair;
      uri = head.uri;
      spells = spells;
      lines = filled.0;
      packs = filled.1;
      method_is = method_is;
      target_is = refl;
      minor = ap asked_minor version ∙ minor_by ((arg % 2) == 1);
      plain = ap (λ (f : Flags). f.in_camel_case) flags ∙ in_lower_case (keep == 1) (keep == 2) (keep == 3);
      headers = ap headers_of (headers ∙ filled.2);
      connection =
          ap (λ (f : Flags). model_type (unwrap_or (type_of_flags f) (default_type head.version))) flags
          ∙ ap (λ (v : Version). model_type (unwrap_or (type_of_flags (flags_with keep no_flags)) (default_type v))) version
          ∙ types_by (keep == 1) (keep == 2) (keep == 3) ((arg % 2) == 1);
    }

-- a text that is no request
pub no_method : (packed method target rest : List ℕ) → IsPair packed method target rest → (IsToken method → ⊥) → IsRequestText packed → ⊥
no_method packed method target rest pair not text = not (subst IsToken (only_pair packed text.method text.target text.rest method target rest text.pair pair).0 text.token)

pub no_target : (packed method target rest : List ℕ) → IsPair packed method target rest → SpellsNone target → IsRequestText packed → ⊥
no_target packed method target rest pair none text =
    none _ _ _ (subst (λ (t : List ℕ). Spells t text.uri) (only_pair packed text.method text.target text.rest method target rest text.pair pair).1 text.spells)

pub no_lines : (packed method target rest : List ℕ) → IsPair packed method target rest → AreNoLines rest → IsRequestText packed → ⊥
no_lines packed method target rest pair none text =
    none text.lines (subst (λ (t : List ℕ). Packs t text.lines) (only_pair packed text.method text.target text.rest method target rest text.pair pair).2 text.packs)

-- ---- a message

not_one : (n : ℕ) → n ≡ 1 → IsPlainOpcode n → ⊥
not_one n one (inl e) = absurd (omega arith)
not_one n one (inr (inl e)) = absurd (omega arith)
not_one n one (inr (inr (inl e))) = absurd (omega arith)
not_one n one (inr (inr (inr (inl e)))) = absurd (omega arith)
not_one n one (inr (inr (inr (inr (inl e))))) = absurd (omega arith)
not_one n one (inr (inr (inr (inr (inr (inl e)))))) = absurd (omega arith)
not_one n one (inr (inr (inr (inr (inr (inr e)))))) = absurd (omega arith)

not_eight : (n : ℕ) → n ≡ 8 → IsPlainOpcode n → ⊥
not_eight n eight (inl e) = absurd (omega arith)
not_eight n eight (inr (inl e)) = absurd (omega arith)
not_eight n eight (inr (inr (inl e))) = absurd (omega arith)
not_eight n eight (inr (inr (inr (inl e)))) = absurd (omega arith)
not_eight n eight (inr (inr (inr (inr (inl e))))) = absurd (omega arith)
not_eight n eight (inr (inr (inr (inr (inr (inl e)))))) = absurd (omega arith)
not_eight n eight (inr (inr (inr (inr (inr (inr e)))))) = absurd (omega arith)

pub no_text : (opcode code : ℕ) (input : List ℕ) → opcode ≡ 1 → (IsUtf8 input → ⊥) → IsSendable opcode code input → ⊥
no_text opcode code input one not (inl w) = not w.1
no_text opcode code input one not (inr (inl w)) = absurd (omega (arith, w.0))
no_text opcode code input one not (inr (inr plain)) = not_one opcode one plain

pub no_close : (opcode code : ℕ) (input : List ℕ) → opcode ≡ 8 → (IsCloseText code input → ⊥) → IsSendable opcode code input → ⊥
no_close opcode code input eight not (inl w) = absurd (omega (arith, w.0))
no_close opcode code input eight not (inr (inl w)) = not w.1
no_close opcode code input eight not (inr (inr plain)) = not_eight opcode eight plain

pub no_bytes : (opcode code : ℕ) (input : List ℕ) → (opcode ≡ 1 → ⊥) → (opcode ≡ 8 → ⊥) → (IsPlainOpcode opcode → ⊥) → IsSendable opcode code input → ⊥
no_bytes opcode code input one eight plain (inl w) = one w.0
no_bytes opcode code input one eight plain (inr (inl w)) = eight w.0
no_bytes opcode code input one eight plain (inr (inr p)) = plain p

pub no_plain : (n : ℕ) → n ≢ 0 → n ≢ 2 → n ≢ 9 → n ≢ 10 → n ≢ 16 → n ≢ 17 → n ≢ 18 → IsPlainOpcode n → ⊥
no_plain n a b c d e f g (inl is) = a is
no_plain n a b c d e f g (inr (inl is)) = b is
no_plain n a b c d e f g (inr (inr (inl is))) = c is
no_plain n a b c d e f g (inr (inr (inr (inl is)))) = d is
no_plain n a b c d e f g (inr (inr (inr (inr (inl is))))) = e is
no_plain n a b c d e f g (inr (inr (inr (inr (inr (inl is)))))) = f is
no_plain n a b c d e f g (inr (inr (inr (inr (inr (inr is)))))) = g is

pub no_code : (code : ℕ) (input : List ℕ) → (code ≡ 0 → ⊥) → (code < 65536 → ⊥) → IsCloseText code input → ⊥
no_code code input some wide (inl none) = some none
no_code code input some wide (inr w) = wide w.0

pub no_words : (code : ℕ) (input : List ℕ) → (code ≡ 0 → ⊥) → (IsUtf8 input → ⊥) → IsCloseText code input → ⊥
no_words code input some not (inl none) = some none
no_words code input some not (inr w) = not w.1
