-- What is kept of lines, with one more line behind them, and what it says of the body.
use Rattle.std.proofs.Common.{◌≡◌, ℕ, Bool, true, false, ◌||◌, List, [], ◌∷◌, ◌++◌, map, filter, Option, Some, None, refl, sym, ap, ◌∙◌, append-nil}
use Rattle.std.specs.Prelude.{codes, bytes_eq, option_map, if◌then◌else◌, nat_eq, option_and_then}
use Rattle.std.specs.List.{list_any, last_or, starts_with}
use Rattle.std.proofs.lemmas.List.{map-append}
use Rattle.std.proofs.lemmas.List.Elements.{filter-append}
use Rattle.std.proofs.lemmas.List.Folds.{list_any-append}
use Rattle.std.proofs.Math.Bool.{or-false}
use Rattle.std.proofs.lemmas.Slice.Eq.{bytes_eq-Decides}
use Rattle.http_types.specs.declared.message.ConnectionType.{ConnectionType}
use Rattle.model_h1.specs.LengthTable.{values_of, says, asks_websocket, asked_type, named_type, expects_continue}
use Rattle.model_h1.specs.Request.{Header}
use Rattle.h1_decoder.specs.declared.framing.Framing.{Framing}
use Rattle.h1_decoder.specs.declared.framing.Lengths.{Lengths}
use Rattle.h1_decoder.specs.declared.framing.Codings.{Codings}
use Rattle.h1_decoder.specs.declared.framing.Subject.{Subject}
use Rattle.h1_decoder.specs.declared.framing.Subject.TheVariants.{Length, Coding, Connection, Upgrade, Expect}
use Rattle.h1_decoder.specs.Framing.{stated, coded, TellsLines, subject_of}
use Rattle.h1_decoder.specs.HeadItem.{connection_type_of}

-- the values of a name with one more line: of that name, or of another
module _ (name : List ℕ) (headers : List Header) (line : Header) where
  values_of-push : values_of name (headers ++ line ∷ []) ≡ values_of name headers ++ values_of name (line ∷ [])
  values_of-push =
      ap (map (λ (h : Header). h.value)) (filter-append (λ (h : Header). bytes_eq h.name name) headers (line ∷ []))
      ∙ map-append (λ (h : Header). h.value) (filter (λ (h : Header). bytes_eq h.name name) headers) (filter (λ (h : Header). bytes_eq h.name name) (line ∷ []))

  values_of-same : bytes_eq line.name name ≡ true → values_of name (headers ++ line ∷ []) ≡ values_of name headers ++ line.value ∷ []
  values_of-same is = values_of-push ∙ ap (λ (vs : List (List ℕ)). values_of name headers ++ vs) (rw is refl)

  values_of-other : bytes_eq line.name name ≡ false → values_of name (headers ++ line ∷ []) ≡ values_of name headers
  values_of-other other =
      values_of-push ∙ ap (λ (vs : List (List ℕ)). values_of name headers ++ vs) (rw other refl) ∙ append-nil (values_of name headers)

-- what a line is on, by its name
abbrev pub IsOn : Option Subject → List ℕ → Type 0
IsOn (Some Length) name = name ≡ codes "content-length"
IsOn (Some Coding) name = name ≡ codes "transfer-encoding"
IsOn (Some Connection) name = name ≡ codes "connection"
IsOn (Some Upgrade) name = name ≡ codes "upgrade"
IsOn (Some Expect) name = name ≡ codes "expect"
IsOn None name =
    (bytes_eq name (codes "content-length") ≡ false) × (bytes_eq name (codes "transfer-encoding") ≡ false)
    × (bytes_eq name (codes "connection") ≡ false) × (bytes_eq name (codes "upgrade") ≡ false) × (bytes_eq name (codes "expect") ≡ false)

-- a name against one word
against : (name word : List ℕ) (P : Option Subject → Type 0) (subject : Subject) (other : Option Subject)
    → (name ≡ word → P (Some subject)) → (bytes_eq name word ≡ false → P other)
    → P (if bytes_eq name word then Some subject else other)
against name word P subject other same differs = by_test (bytes_eq name word) refl
  where
    by_test : (t : Bool) → bytes_eq name word ≡ t → P (if bytes_eq name word then Some subject else other)
    by_test true is = rw is (same ((bytes_eq-Decides name word).0 is))
    by_test false not = rw not (differs not)

pub subject_is : (name : List ℕ) → IsOn (subject_of name) name
unfolding subject_of
subject_is name =
    let P : Option Subject → Type 0 = λ s. IsOn s name in
    against name (codes "content-length") P Length _ (λ is. is) (λ a.
    against name (codes "transfer-encoding") P Coding _ (λ is. is) (λ b.
    against name (codes "connection") P Connection _ (λ is. is) (λ c.
    against name (codes "upgrade") P Upgrade _ (λ is. is) (λ d.
    against name (codes "expect") P Expect _ (λ is. is) (λ e. (a, b, c, d, e))))))

-- the values of the five names behind one more line
module _ (kept : Framing) (headers : List Header) (line : Header) (tells : TellsLines kept headers) where
  -- each part stays as it is where the line is of another name
  lengths_stay : bytes_eq line.name (codes "content-length") ≡ false → kept.lengths ≡ stated (values_of (codes "content-length") (headers ++ line ∷ []))
  lengths_stay other = tells.length_lines ∙ ap stated (sym (values_of-other (codes "content-length") headers line other))

  codings_stay : bytes_eq line.name (codes "transfer-encoding") ≡ false → kept.codings ≡ coded (values_of (codes "transfer-encoding") (headers ++ line ∷ []))
  codings_stay other = tells.coding_lines ∙ ap coded (sym (values_of-other (codes "transfer-encoding") headers line other))

  connection_stays : bytes_eq line.name (codes "connection") ≡ false → kept.connection ≡ option_map connection_type_of (asked_type (headers ++ line ∷ []))
  connection_stays other =
      tells.connection_lines
      ∙ ap (λ (values : List (List ℕ)). option_map connection_type_of (option_and_then named_type (last_or None values)))
      (sym (values_of-other (codes "connection") headers line other))

  websocket_stays : bytes_eq line.name (codes "upgrade") ≡ false → kept.websocket ≡ asks_websocket (headers ++ line ∷ [])
  websocket_stays other =
      tells.upgrade_lines
      ∙ ap (list_any (λ value. says value (codes "websocket"))) (sym (values_of-other (codes "upgrade") headers line other))

  expects_stays : bytes_eq line.name (codes "expect") ≡ false → kept.expects ≡ expects_continue (headers ++ line ∷ [])
  expects_stays other =
      tells.expect_lines
      ∙ ap (list_any (λ value. starts_with nat_eq value (codes "100-"))) (sym (values_of-other (codes "expect") headers line other))

  -- a line of each name
  pub tells-length : line.name ≡ codes "content-length" → (new : Lengths)
      → new ≡ stated (values_of (codes "content-length") headers ++ line.value ∷ []) → TellsLines (record kept { lengths = new }) (headers ++ line ∷ [])
  tells-length named new is =
      let other = λ (word : List ℕ) (ne : bytes_eq (codes "content-length") word ≡ false). ap (λ n. bytes_eq n word) named ∙ ne in
      record {
        length_lines = is ∙ ap stated (sym (values_of-same (codes "content-length") headers line (ap (λ n. bytes_eq n (codes "content-length")) named)));
        coding_lines = codings_stay (other (codes "transfer-encoding") refl);
        connection_lines = connection_stays (other (codes "connection") refl);
        upgrade_lines = websocket_stays (other (codes "upgrade") refl);
        expect_lines = expects_stays (other (codes "expect") refl);
      }

  pub tells-coding : line.name ≡ codes "transfer-encoding" → (new : Codings)
      → new ≡ coded (values_of (codes "transfer-encoding") headers ++ line.value ∷ []) → TellsLines (record kept { codings = new }) (headers ++ line ∷ [])
  tells-coding named new is =
      let other = λ (word : List ℕ) (ne : bytes_eq (codes "transfer-encoding") word ≡ false). ap (λ n. bytes_eq n word) named ∙ ne in
      record {
        length_lines = lengths_stay (other (codes "content-length") refl);
        coding_lines = is ∙ ap coded (sym (values_of-same (codes "transfer-encoding") headers line (ap (λ n. bytes_eq n (codes "transfer-encoding")) named)));
        connection_lines = connection_stays (other (codes "connection") refl);
        upgrade_lines = websocket_stays (other (codes "upgrade") refl);
        expect_lines = expects_stays (other (codes "expect") refl);
      }

  pub tells-connection : line.name ≡ codes "connection" → (new : Option ConnectionType)
      → new ≡ option_map connection_type_of (named_type line.value) → TellsLines (record kept { connection = new }) (headers ++ line ∷ [])
  tells-connection named new is =
      let other = λ (word : List ℕ) (ne : bytes_eq (codes "connection") word ≡ false). ap (λ n. bytes_eq n word) named ∙ ne in
      let last : last_or None (values_of (codes "connection") (headers ++ line ∷ [])) ≡ Some line.value =
      ap (last_or None) (values_of-same (codes "connection") headers line (ap (λ n. bytes_eq n (codes "connection")) named))
      ∙ last_or-push None (values_of (codes "connection") headers) line.value in
      record {
        length_lines = lengths_stay (other (codes "content-length") refl);
        coding_lines = codings_stay (other (codes "transfer-encoding") refl);
        connection_lines = is ∙ ap (λ (value : Option (List ℕ)). option_map connection_type_of (option_and_then named_type value)) (sym last);
        upgrade_lines = websocket_stays (other (codes "upgrade") refl);
        expect_lines = expects_stays (other (codes "expect") refl);
      }
    where
      last_or-push : (o : Option (List ℕ)) (values : List (List ℕ)) (value : List ℕ) → last_or o (values ++ value ∷ []) ≡ Some value
      last_or-push o [] value = refl
      last_or-push o (v ∷ values) value = last_or-push (Some v) values value

  -- one more value is one more that may pass the test
  any-push : (test : List ℕ → Bool) (values : List (List ℕ)) (value : List ℕ) → list_any test (values ++ value ∷ []) ≡ (list_any test values || test value)
  any-push test values value = list_any-append test values (value ∷ []) ∙ ap (λ (b : Bool). list_any test values || b) (or-false (test value))

  pub tells-upgrade : line.name ≡ codes "upgrade" → (new : Bool)
      → new ≡ (kept.websocket || says line.value (codes "websocket")) → TellsLines (record kept { websocket = new }) (headers ++ line ∷ [])
  tells-upgrade named new is =
      let other = λ (word : List ℕ) (ne : bytes_eq (codes "upgrade") word ≡ false). ap (λ n. bytes_eq n word) named ∙ ne in
      let test = λ (value : List ℕ). says value (codes "websocket") in
      record {
        length_lines = lengths_stay (other (codes "content-length") refl);
        coding_lines = codings_stay (other (codes "transfer-encoding") refl);
        connection_lines = connection_stays (other (codes "connection") refl);
        upgrade_lines =
            is ∙ ap (λ (b : Bool). b || test line.value) tells.upgrade_lines
            ∙ sym (any-push test (values_of (codes "upgrade") headers) line.value)
            ∙ ap (list_any test) (sym (values_of-same (codes "upgrade") headers line (ap (λ n. bytes_eq n (codes "upgrade")) named)));
        expect_lines = expects_stays (other (codes "expect") refl);
      }

  pub tells-expect : line.name ≡ codes "expect" → (new : Bool)
      → new ≡ (kept.expects || starts_with nat_eq line.value (codes "100-")) → TellsLines (record kept { expects = new }) (headers ++ line ∷ [])
  tells-expect named new is =
      let other = λ (word : List ℕ) (ne : bytes_eq (codes "expect") word ≡ false). ap (λ n. bytes_eq n word) named ∙ ne in
      let test = λ (value : List ℕ). starts_with nat_eq value (codes "100-") in
      record {
        length_lines = lengths_stay (other (codes "content-length") refl);
        coding_lines = codings_stay (other (codes "transfer-encoding") refl);
        connection_lines = connection_stays (other (codes "connection") refl);
        upgrade_lines = websocket_stays (other (codes "upgrade") refl);
        expect_lines =
            is ∙ ap (λ (b : Bool). b || test line.value) tells.expect_lines
            ∙ sym (any-push test (values_of (codes "expect") headers) line.value)
            ∙ ap (list_any test) (sym (values_of-same (codes "expect") headers line (ap (λ n. bytes_eq n (codes "expect")) named)));
      }

  -- a line of another name leaves all as it is
  pub tells-other : IsOn None line.name → TellsLines kept (headers ++ line ∷ [])
  tells-other (a, b, c, d, e) = record {
    length_lines = lengths_stay a;
    coding_lines = codings_stay b;
    connection_lines = connection_stays c;
    upgrade_lines = websocket_stays d;
    expect_lines = expects_stays e;
  }
