-- What a character set prints is the text it was read from, but for case.
use Rattle.std.proofs.Common.{◌≡◌, ℕ, List, [], ◌∷◌, refl, sym}
use Rattle.std.specs.Prelude.{map}
use Rattle.std.specs.Char.{to_ascii_uppercase, to_ascii_lowercase}
use Rattle.std.proofs.lemmas.Str.Ascii.{lowercase-uppercase}
use Rattle.http_values.specs.declared.shared.charset.Charset.{Charset}
use Rattle.http_values.specs.declared.shared.charset.Charset.TheVariants.{Us_Ascii, Iso_8859_1, Iso_8859_2, Iso_8859_3, Iso_8859_4, Iso_8859_5, Iso_8859_6, Iso_8859_7, Iso_8859_8, Iso_8859_9, Iso_8859_10, Shift_Jis, Euc_Jp, Iso_2022_Kr, Euc_Kr, Iso_2022_Jp, Iso_2022_Jp_2, Iso_8859_6_E, Iso_8859_6_I, Iso_8859_8_E, Iso_8859_8_I, Gb2312, Big5, Koi8_R, Ext}
use Rattle.http_values.specs.Charset.{IsNamed, IsCharsetText, charset_text}

-- raising letters changes nothing but case
lowered_raised : (text : List ℕ) → map to_ascii_lowercase text ≡ map to_ascii_lowercase (map to_ascii_uppercase text)
lowered_raised [] = refl
lowered_raised (b ∷ text) =
    let first = sym (lowercase-uppercase b) in let rest = lowered_raised text in cc (first, rest)

-- a set that is read prints the text, but for the case of its letters
pub keeps_its_label : (text : List ℕ) (set : Charset) → IsCharsetText text set → IsNamed text (charset_text set)
keeps_its_label text (Ext label) h = rw h.0 (lowered_raised text)
keeps_its_label text Us_Ascii h = h
keeps_its_label text Iso_8859_1 h = h
keeps_its_label text Iso_8859_2 h = h
keeps_its_label text Iso_8859_3 h = h
keeps_its_label text Iso_8859_4 h = h
keeps_its_label text Iso_8859_5 h = h
keeps_its_label text Iso_8859_6 h = h
keeps_its_label text Iso_8859_7 h = h
keeps_its_label text Iso_8859_8 h = h
keeps_its_label text Iso_8859_9 h = h
keeps_its_label text Iso_8859_10 h = h
keeps_its_label text Shift_Jis h = h
keeps_its_label text Euc_Jp h = h
keeps_its_label text Iso_2022_Kr h = h
keeps_its_label text Euc_Kr h = h
keeps_its_label text Iso_2022_Jp h = h
keeps_its_label text Iso_2022_Jp_2 h = h
keeps_its_label text Iso_8859_6_E h = h
keeps_its_label text Iso_8859_6_I h = h
keeps_its_label text Iso_8859_8_E h = h
keeps_its_label text Iso_8859_8_I h = h
keeps_its_label text Gb2312 h = h
keeps_its_label text Big5 h = h
keeps_its_label text Koi8_R h = h
