-- The lines of a reply.
use Rattle.std.proofs.Common.{◌≡◌, ℕ, true, false, not, List, [], ◌∷◌, ◌++◌, cond, eqb, map, codes, refl, ap, ap₂, ◌∙◌}
use Rattle.std.specs.Prelude.{bytes_eq}
use Rattle.std.proofs.lemmas.Bool.{or_left, or_right, cond-false}
use Rattle.std.proofs.lemmas.List.Folds.{list_any-append}
use Rattle.model_h1.specs.Request.{Header, ConnectionType}
use Rattle.model_h1.specs.LengthTable.{values_of}
use Rattle.model_h1.specs.Answer.{Shape, BodySize}
use Rattle.model_h1.specs.AnswerText.{by_name, is_sent}
use Rattle.model_client.specs.AnswerReading.{Answer}
use Rattle.model_client.specs.WrittenHead.{line_of, framing_lines, written_lines}
use Rattle.model_ends.proofs.Framing.{values-append, none_kept, framing_alone}
use Rattle.model_ends.proofs.ValuesByName.{by_name_values}
use Rattle.model_proxy.specs.Edge.{via}
use Rattle.model_proxy.specs.HopNames.{hop_names, is_among, without}
use Rattle.model_proxy.specs.Answers.{reply_lines, reply_head}
use Rattle.model_proxy.proofs.ForwardedLines.{same_name, none_among}

-- the names that stay behind, beside the hops
abbrev length_name : ℕ → List (List ℕ)
length_name status = cond (eqb status 304) [] (codes "content-length" ∷ [])

-- a name that stays behind has no line
gone : (names : List (List ℕ)) (name : List ℕ) (hs : List Header) → is_among name names ≡ true → values_of name (without names hs) ≡ []
gone names name hs among =
    none_kept name (λ h. not (is_among h.name names)) (λ h is. ap (λ n. not (is_among n names)) (same_name h.name name is) ∙ ap not among) hs

-- a name among the first of two lists, or the second
among_first : (name : List ℕ) (a b : List (List ℕ)) → is_among name a ≡ true → is_among name (a ++ b) ≡ true
among_first name a b is = list_any-append (λ n. bytes_eq name n) a b ∙ or_left (is_among name a) (is_among name b) is

among_second : (name : List ℕ) (a b : List (List ℕ)) → is_among name b ≡ true → is_among name (a ++ b) ≡ true
among_second name a b is = list_any-append (λ n. bytes_eq name n) a b ∙ or_right (is_among name a) (is_among name b) is

-- the lines of a reply, by what is passed on and the own one
reply_values : (minor status : ℕ) (hs : List Header) (name : List ℕ) → values_of name (reply_lines minor status hs)
    ≡ values_of name (without (hop_names hs ++ length_name status) hs) ++ values_of name (line_of (codes "via") (via minor) ∷ [])
reply_values minor status hs name =
    let passed = without (hop_names hs ++ length_name status) hs in
    by_name_values name (passed ++ line_of (codes "via") (via minor) ∷ []) ∙ values-append name passed (line_of (codes "via") (via minor) ∷ [])

-- a line of another name
other_line : (name own value : List ℕ) → bytes_eq own name ≡ false → values_of name (line_of own value ∷ []) ≡ []
other_line name own value other = ap (map (λ (k : Header). k.value)) (cond-false (bytes_eq own name) (line_of own value ∷ []) [] other)

pub hops_gone : (minor status : ℕ) (hs : List Header) (name : List ℕ) → bytes_eq (codes "via") name ≡ false → is_among name (hop_names hs) ≡ true
    → values_of name (reply_lines minor status hs) ≡ []
hops_gone minor status hs name other is =
    let names = hop_names hs ++ length_name status in
    reply_values minor status hs name
    ∙ ap₂ (λ (a b : List (List ℕ)). a ++ b) (gone names name hs (among_first name (hop_names hs) (length_name status) is)) (other_line name (codes "via") (via minor) other)

-- who passes it on stands behind those that passed it on before
pub via_behind : (minor status : ℕ) (hs : List Header) → values_of (codes "via") (reply_lines minor status hs)
    ≡ values_of (codes "via") (without (hop_names hs ++ length_name status) hs) ++ via minor ∷ []
via_behind minor status hs = reply_values minor status hs (codes "via")

lengths_gone : (minor status : ℕ) (hs : List Header) → eqb status 304 ≡ false → values_of (codes "content-length") (reply_lines minor status hs) ≡ []
lengths_gone minor status hs other =
    let there : is_among (codes "content-length") (length_name status) ≡ true =
    ap (is_among (codes "content-length")) (cond-false (eqb status 304) [] (codes "content-length" ∷ []) other) in
    let names = hop_names hs ++ length_name status in
    reply_values minor status hs (codes "content-length")
    ∙ ap₂ (λ (a b : List (List ℕ)). a ++ b) (gone names (codes "content-length") hs (among_second (codes "content-length") (hop_names hs) (length_name status) there)) refl

-- so none is written but the writer's own
alone : (name : List ℕ) → bytes_eq (codes "connection") name ≡ false → bytes_eq (codes "date") name ≡ false → (minor : ℕ) (a : Answer) (shape : Shape) (size : BodySize)
    (kind : ConnectionType) (now : ℕ) → values_of name (reply_lines a.minor a.status a.headers) ≡ []
    → values_of name (written_lines minor (reply_head a) shape size kind now) ≡ values_of name (framing_lines (reply_head a) shape size)
alone name connection date minor a shape size kind now none =
    framing_alone minor (reply_head a) shape size kind now name connection date
    (none_among name (is_sent (reply_head a) shape) (by_name (reply_lines a.minor a.status a.headers)) (by_name_values name (reply_lines a.minor a.status a.headers) ∙ none))

pub one_length_replied : (minor : ℕ) (a : Answer) (shape : Shape) (size : BodySize) (kind : ConnectionType) (now : ℕ) → eqb a.status 304 ≡ false
    → values_of (codes "content-length") (written_lines minor (reply_head a) shape size kind now) ≡ values_of (codes "content-length") (framing_lines (reply_head a) shape size)
one_length_replied minor a shape size kind now other =
    alone (codes "content-length") refl refl minor a shape size kind now (lengths_gone a.minor a.status a.headers other)

pub one_coding_replied : (minor : ℕ) (a : Answer) (shape : Shape) (size : BodySize) (kind : ConnectionType) (now : ℕ)
    → values_of (codes "transfer-encoding") (written_lines minor (reply_head a) shape size kind now) ≡ values_of (codes "transfer-encoding") (framing_lines (reply_head a) shape size)
one_coding_replied minor a shape size kind now =
    alone (codes "transfer-encoding") refl refl minor a shape size kind now (hops_gone a.minor a.status a.headers (codes "transfer-encoding") refl refl)
