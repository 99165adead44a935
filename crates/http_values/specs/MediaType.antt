-- Media types (RFC 7231, section 3.1.1.1; RFC 2045, section 5.1), in a profile: a tree, its text, and when the tree is
-- well formed.
use Rattle.std.specs.Prelude.{◌≡◌, ℕ, ◌<◌, Bool, ◌&&◌, not, List, [], ◌∷◌, ◌++◌, length, IsTrue, ◌==◌, nat_le, map, flat_map}
use Rattle.std.specs.List.{list_all, AllByRecursion}
use Rattle.http_header.specs.Token.{is_token_byte}

-- token = 1*tchar
pub record IsToken (bytes : List ℕ) : Type 0 where
  pub some : 0 < length bytes
  pub chars : IsTrue (list_all is_token_byte bytes)

-- a blank is a space
abbrev pub is_blank : ℕ → Bool
is_blank b = b == 32

-- a byte that may stand between quotes: printable ASCII but `"` and `\`
abbrev pub is_quotable : ℕ → Bool
is_quotable b = nat_le 32 b && nat_le b 126 && not (b == 34) && not (b == 92)

-- value = token / quoted-string
pub data Spelling : Type 0 where
  Bare Quoted : List ℕ → Spelling

-- its text
abbrev pub spelling_text : Spelling → List ℕ
spelling_text (Bare value) = value
spelling_text (Quoted value) = 34 ∷ (value ++ 34 ∷ [])

-- the value without the quotes
abbrev pub said : Spelling → List ℕ
said (Bare value) = value
said (Quoted value) = value

-- its bytes are those that it may have
abbrev pub IsSpelling : Spelling → Type 0
IsSpelling (Bare value) = IsToken value
IsSpelling (Quoted value) = IsTrue (list_all is_quotable value)

-- OWS ";" OWS attribute "=" value
pub record Parameter : Type 0 where
  pub before : List ℕ
  pub behind : List ℕ
  pub attribute : List ℕ
  pub value : Spelling

-- its text
abbrev pub parameter_text : Parameter → List ℕ
parameter_text p = p.before ++ (59 ∷ (p.behind ++ (p.attribute ++ (61 ∷ spelling_text p.value))))

-- its name and its value
abbrev pub parameter_says : Parameter → List ℕ × List ℕ
parameter_says p = (p.attribute, said p.value)

-- each part is of its class
pub record IsParameter (p : Parameter) : Type 0 where
  pub before : IsTrue (list_all is_blank p.before)
  pub behind : IsTrue (list_all is_blank p.behind)
  pub attribute : IsToken p.attribute
  pub value : IsSpelling p.value

-- media-type = type "/" subtype *( OWS ";" OWS parameter )
pub record MediaType : Type 0 where
  pub kind : List ℕ
  pub subtype : List ℕ
  pub parameters : List Parameter

-- its text
abbrev pub media_type_text : MediaType → List ℕ
media_type_text m = m.kind ++ (47 ∷ (m.subtype ++ flat_map parameter_text m.parameters))

-- each part is of its class
pub record IsMediaType (m : MediaType) : Type 0 where
  pub kind : IsToken m.kind
  pub subtype : IsToken m.subtype
  pub parameters : AllByRecursion IsParameter m.parameters

-- The text is that of a media type: of its type, its subtype, and the names and values of its parameters.
pub record IsMimeText (text kind subtype : List ℕ) (params : List (List ℕ × List ℕ)) : Type 0 where
  pub tree : MediaType
  pub well_formed : IsMediaType tree
  pub spelled : text ≡ media_type_text tree
  pub kind_is : tree.kind ≡ kind
  pub subtype_is : tree.subtype ≡ subtype
  pub params_are : map parameter_says tree.parameters ≡ params

-- the text is that of some media type
abbrev pub IsSomeMime : List ℕ → Type 0
IsSomeMime text = (kind : List ℕ) × (subtype : List ℕ) × (params : List (List ℕ × List ℕ)) × IsMimeText text kind subtype params
