-- Character sets and their labels (RFC 2978), compared without case.
use Rattle.std.specs.Prelude.{◌≡◌, ℕ, List, [], ◌∷◌, map, codes, string_bytes}
use Rattle.std.specs.Char.{to_ascii_uppercase, to_ascii_lowercase}
use Rattle.http_values.specs.declared.shared.charset.Charset.{Charset}
use Rattle.http_values.specs.declared.shared.charset.Charset.TheVariants.{Us_Ascii, Iso_8859_1, Iso_8859_2, Iso_8859_3, Iso_8859_4, Iso_8859_5, Iso_8859_6, Iso_8859_7, Iso_8859_8, Iso_8859_9, Iso_8859_10, Shift_Jis, Euc_Jp, Iso_2022_Kr, Euc_Kr, Iso_2022_Jp, Iso_2022_Jp_2, Iso_8859_6_E, Iso_8859_6_I, Iso_8859_8_E, Iso_8859_8_I, Gb2312, Big5, Koi8_R, Ext}

-- the two texts differ in the case of ASCII letters at most
abbrev pub IsNamed : List ℕ → List ℕ → Type 0
IsNamed text label = map to_ascii_lowercase text ≡ map to_ascii_lowercase label

-- the text is none of the labels
abbrev pub IsNoneOf : List ℕ → List (List ℕ) → Type 0
IsNoneOf text [] = Unit {0}
IsNoneOf text (label ∷ labels) = ¬ (IsNamed text label) × IsNoneOf text labels

-- the label, which a set prints
abbrev pub charset_text : Charset → List ℕ
charset_text Us_Ascii = codes "US-ASCII"
charset_text Iso_8859_1 = codes "ISO-8859-1"
charset_text Iso_8859_2 = codes "ISO-8859-2"
charset_text Iso_8859_3 = codes "ISO-8859-3"
charset_text Iso_8859_4 = codes "ISO-8859-4"
charset_text Iso_8859_5 = codes "ISO-8859-5"
charset_text Iso_8859_6 = codes "ISO-8859-6"
charset_text Iso_8859_7 = codes "ISO-8859-7"
charset_text Iso_8859_8 = codes "ISO-8859-8"
charset_text Iso_8859_9 = codes "ISO-8859-9"
charset_text Iso_8859_10 = codes "ISO-8859-10"
charset_text Shift_Jis = codes "Shift-JIS"
charset_text Euc_Jp = codes "EUC-JP"
charset_text Iso_2022_Kr = codes "ISO-2022-KR"
charset_text Euc_Kr = codes "EUC-KR"
charset_text Iso_2022_Jp = codes "ISO-2022-JP"
charset_text Iso_2022_Jp_2 = codes "ISO-2022-JP-2"
charset_text Iso_8859_6_E = codes "ISO-8859-6-E"
charset_text Iso_8859_6_I = codes "ISO-8859-6-I"
charset_text Iso_8859_8_E = codes "ISO-8859-8-E"
charset_text Iso_8859_8_I = codes "ISO-8859-8-I"
charset_text Gb2312 = codes "GB2312"
charset_text Big5 = codes "Big5"
charset_text Koi8_R = codes "KOI8-R"
charset_text (Ext label) = string_bytes label

-- the labels of ASCII and of ISO 8859, of the Asian sets, and of the others
abbrev pub latin_labels : List (List ℕ)
latin_labels =
    codes "US-ASCII" ∷ codes "ISO-8859-1" ∷ codes "ISO-8859-2" ∷ codes "ISO-8859-3" ∷ codes "ISO-8859-4" ∷ codes "ISO-8859-5" ∷ codes "ISO-8859-6" ∷ codes "ISO-8859-7" ∷ codes "ISO-8859-8" ∷ codes "ISO-8859-9" ∷ codes "ISO-8859-10" ∷ []

abbrev pub asian_labels : List (List ℕ)
asian_labels =
    codes "Shift-JIS" ∷ codes "EUC-JP" ∷ codes "ISO-2022-KR" ∷ codes "EUC-KR" ∷ codes "ISO-2022-JP" ∷ codes "ISO-2022-JP-2" ∷ codes "GB2312" ∷ codes "Big5" ∷ []

abbrev pub other_labels : List (List ℕ)
other_labels =
    codes "ISO-8859-6-E" ∷ codes "ISO-8859-6-I" ∷ codes "ISO-8859-8-E" ∷ codes "ISO-8859-8-I" ∷ codes "KOI8-R" ∷ []

-- the set is one with a variant of its own
abbrev pub IsKnown : Charset → Type 0
IsKnown (Ext label) = ⊥
IsKnown _ = Unit {0}

-- the text names the set: a known one by its label, and any other by a text that is no known label, kept in upper case
abbrev pub IsCharsetText : List ℕ → Charset → Type 0
IsCharsetText text (Ext label) =
    (string_bytes label ≡ map to_ascii_uppercase text) × IsNoneOf text latin_labels × IsNoneOf text asian_labels × IsNoneOf text other_labels
IsCharsetText text set = IsNamed text (charset_text set)

-- the two are one set: of one variant and one label
abbrev pub SameCharset : Charset → Charset → Type 0
SameCharset (Ext label) (Ext label') = string_bytes label ≡ string_bytes label'
SameCharset (Ext label) _ = ⊥
SameCharset set set' = set ≡ set'
