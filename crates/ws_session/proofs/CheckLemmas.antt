-- The checks of a request, one after another.
use Rattle.std.proofs.Common.{◌≡◌, ℕ, Bool, true, false, not, ◌&&◌, if◌then◌else◌, List, [], ◌∷◌, codes, bytes_eq, slice_get, Option, Some, None, option_copied, Bor, refl, sym, ap, ◌∙◌, subst}
use Rattle.std.specs.Option.{option_or}
use Rattle.std.proofs.lemmas.List.Sums.{AllPass-from_list_all, list_all-from_AllPass}
use Rattle.http_header.specs.FieldValue.{FieldValue, IsVisibleAscii, is_visible_text}
use Rattle.http_header.specs.Token.{is_visible_or_blank}
use Rattle.model_h1.specs.Request.{Head}
use Rattle.model_h1.specs.LengthTable.{values_of}
use Rattle.model_h1.specs.Handshake as model
use Rattle.model_h1.specs.Handshake.{handshake_error, has_word, first_has_word, version_error, key_error, key_of}
use Rattle.ws_session.specs.declared.verify.HandshakeError.{HandshakeError}
use Rattle.ws_session.specs.Upgrade.{value_bytes, IsFirst, is_spoken, error_of, FailsWith}

-- the first value of a map is the first of a head
pub first_of : (given : Option (Bor FieldValue)) (values : List FieldValue) (bytes : List (List ℕ)) → option_copied given ≡ slice_get values 0
    → value_bytes values ≡ bytes → IsFirst given bytes
first_of None [] bytes e same = sym same
first_of None (v ∷ values) bytes e same = cc
first_of (Some b) [] bytes e same = cc
first_of (Some b) (v ∷ values) bytes e same =
    let is : v ≡ b.now = cc in
    (value_bytes values, sym same ∙ ap (λ (x : FieldValue). x.bytes ∷ value_bytes values) is)

-- a value is text, or it isn't
pub is_text : (bytes : List ℕ) → IsVisibleAscii bytes → is_visible_text bytes ≡ true
is_text bytes visible = list_all-from_AllPass is_visible_or_blank bytes visible

pub is_no_text : (bytes : List ℕ) → (IsVisibleAscii bytes → ⊥) → is_visible_text bytes ≡ false
is_no_text bytes none = go (is_visible_text bytes) refl
  where
    go : (b : Bool) → is_visible_text bytes ≡ b → b ≡ false
    go true e = absurd (none (AllPass-from_list_all is_visible_or_blank bytes e))
    go false e = refl

-- the first value has the word, or it hasn't
pub has_first : (word : List ℕ) (value : Bor FieldValue) (values : List (List ℕ)) (found : Bool) → IsFirst (Some value) values → IsVisibleAscii value.now.bytes
    → found ≡ has_word word value.now.bytes → found ≡ first_has_word word values
has_first word value values found first visible is =
    is ∙ ap (λ (t : Bool). t && has_word word value.now.bytes) (sym (is_text value.now.bytes visible)) ∙ ap (first_has_word word) (sym first.1)

pub has_no_text : (word : List ℕ) (value : Bor FieldValue) (values : List (List ℕ)) → IsFirst (Some value) values → (IsVisibleAscii value.now.bytes → ⊥)
    → false ≡ first_has_word word values
has_no_text word value values first none =
    ap (λ (t : Bool). t && has_word word value.now.bytes) (sym (is_no_text value.now.bytes none)) ∙ ap (first_has_word word) (sym first.1)

-- the version is spoken, or it isn't
pub spoken : (value : Bor FieldValue) (values : List (List ℕ)) → IsFirst (Some value) values → is_spoken value.now.bytes ≡ true
    → version_error values ≡ None
spoken value values first is =
    ap version_error first.1 ∙ ap (λ (t : Bool). if t then None else Some model.unsupported_version) is

pub unspoken : (value : Bor FieldValue) (values : List (List ℕ)) → IsFirst (Some value) values → is_spoken value.now.bytes ≡ false
    → version_error values ≡ Some model.unsupported_version
unspoken value values first is =
    ap version_error first.1 ∙ ap (λ (t : Bool). if t then None else Some model.unsupported_version) is

module _ (h : Head) where
  abbrev pub is_get : Bool
  is_get = bytes_eq h.method (codes "GET")

  abbrev pub has_websocket : Bool
  has_websocket = first_has_word (codes "websocket") (values_of (codes "upgrade") h.headers)

  abbrev pub has_upgrade : Bool
  has_upgrade = first_has_word (codes "upgrade") (values_of (codes "connection") h.headers)

  abbrev pub versions : List (List ℕ)
  versions = values_of (codes "sec-websocket-version") h.headers

  abbrev pub keys : List (List ℕ)
  keys = values_of (codes "sec-websocket-key") h.headers

  -- the checks by what they find
  abbrev checks : Bool → Bool → Bool → Option model.HandshakeError → Option model.HandshakeError → Option model.HandshakeError
  checks get websocket upgrade version key =
      if not get then Some model.get_method_required
      else (if not websocket then Some model.no_websocket_upgrade
      else (if not upgrade then Some model.no_connection_upgrade
      else (option_or version key)))

  as_checks : handshake_error h ≡ checks is_get has_websocket has_upgrade (version_error versions) (key_error keys)
  unfolding handshake_error
  as_checks = refl

  pub wrong_method : is_get ≡ false → handshake_error h ≡ Some model.get_method_required
  wrong_method get = as_checks ∙ ap (λ (t : Bool). checks t has_websocket has_upgrade (version_error versions) (key_error keys)) get

  pub wrong_upgrade : is_get ≡ true → has_websocket ≡ false → handshake_error h ≡ Some model.no_websocket_upgrade
  wrong_upgrade get websocket = as_checks ∙ (λ i. checks (get i) (websocket i) has_upgrade (version_error versions) (key_error keys))

  pub wrong_connection : is_get ≡ true → has_websocket ≡ true → has_upgrade ≡ false → handshake_error h ≡ Some model.no_connection_upgrade
  wrong_connection get websocket upgrade = as_checks ∙ (λ i. checks (get i) (websocket i) (upgrade i) (version_error versions) (key_error keys))

  -- version and key are left
  pub right_so_far : is_get ≡ true → has_websocket ≡ true → has_upgrade ≡ true → handshake_error h ≡ option_or (version_error versions) (key_error keys)
  right_so_far get websocket upgrade = as_checks ∙ (λ i. checks (get i) (websocket i) (upgrade i) (version_error versions) (key_error keys))

-- an error for the version is the error
version_first : (e : HandshakeError) (version key : Option model.HandshakeError) → FailsWith e version → FailsWith e (option_or version key)
version_first e None key wrong = absurd wrong
version_first e (Some failing) key wrong = wrong

pub wrong_version : (e : HandshakeError) (h : Head) → is_get h ≡ true → has_websocket h ≡ true → has_upgrade h ≡ true
    → FailsWith e (version_error (versions h)) → FailsWith e (handshake_error h)
wrong_version e h get websocket upgrade wrong =
    subst (FailsWith e) (sym (right_so_far h get websocket upgrade)) (version_first e (version_error (versions h)) (key_error (keys h)) wrong)

-- the check that fails
pub fails : (e : HandshakeError) (failing : model.HandshakeError) (first : Option model.HandshakeError)
    → first ≡ Some failing → e ≡ error_of failing → FailsWith e first
fails e failing first is same = subst (FailsWith e) (sym is) same

-- a method is the one that was compared
pub same_method : (given method : List ℕ) (differs : Bool) → differs ≡ not (bytes_eq given (codes "GET")) → given ≡ method → differs ≡ false
    → bytes_eq method (codes "GET") ≡ true
same_method given method differs is same equal =
    sym (ap (λ (m : List ℕ). bytes_eq m (codes "GET")) same) ∙ go (bytes_eq given (codes "GET")) (sym is ∙ equal)
  where
    go : (b : Bool) → not b ≡ false → b ≡ true
    go true e = refl
    go false e = cc

-- or another one
pub other_method : (given method : List ℕ) (differs : Bool) → differs ≡ not (bytes_eq given (codes "GET")) → given ≡ method → differs ≡ true
    → bytes_eq method (codes "GET") ≡ false
other_method given method differs is same other =
    sym (ap (λ (m : List ℕ). bytes_eq m (codes "GET")) same) ∙ go (bytes_eq given (codes "GET")) (sym is ∙ other)
  where
    go : (b : Bool) → not b ≡ true → b ≡ false
    go true e = cc
    go false e = refl
