-- What a date prints is ASCII and has no white space at either end, so that trimming changes nothing.
use Rattle.std.proofs.Common.{◌≡◌, ℕ, ◌+◌, ◌<◌, ◌≤◌, ◌/◌, ◌%◌, Bool, true, false, ◌&&◌, cond, List, [], ◌∷◌, ◌++◌, length, get_or, refl, sym, ap, ◌∙◌, subst, arith, append_assoc, inl, length-append}
use Rattle.std.specs.Prelude.{◌==◌, codes}
use Rattle.std.specs.Str.{IsAscii, trim, trim_start, trim_end, drop_trailing_whitespace}
use Rattle.std.specs.Char.{is_ascii, is_whitespace}
use Rattle.std.specs.List.{list_all}
use Rattle.std.proofs.lemmas.Bool.{and_parts}
use Rattle.std.proofs.lemmas.Bool.Decides.{nat_tests}
use Rattle.std.proofs.lemmas.Str.{chars-IsAscii, encodes-IsAscii, IsAscii-append}
use Rattle.std.proofs.lemmas.Str.Ascii.{IsAscii-nil, IsAscii-cons}
use Rattle.httpdate.specs.declared.parts.Parts.{Parts}
use Rattle.httpdate.specs.Text.{day_name, month_name, two_digits, four_digits, time_of_day}
use Rattle.httpdate.specs.Calendar.{days_in_month}
use Rattle.httpdate.specs.Date.{IsDateText}
use Rattle.http_values.specs.declared.shared.http_date.HttpDate.{HttpDate}
use Rattle.http_values.specs.HttpDate.{http_date_text, IsHttpDateText}
use Rattle.http_values.proofs.EscapeLemmas.{same, all_below, agree_below}

-- for bytes that are written out the test computes
is_low : (b : ℕ) → is_ascii b ≡ true → b < 128
is_low b h = grind (arith, nat_tests)

ascii_by : (text : List ℕ) → list_all is_ascii text ≡ true → IsAscii text
ascii_by [] h = IsAscii-nil
ascii_by (b ∷ text) h =
    let both = and_parts (is_ascii b) (list_all is_ascii text) h in
    IsAscii-cons b text (is_low b both.0) (ascii_by text both.1)

-- the first byte is there and is no white space
record Begins (text : List ℕ) : Type 0 where
  first : is_whitespace (get_or text 0 32) ≡ false

begins_append : (front back : List ℕ) → Begins front → Begins (front ++ back)
begins_append [] back h = absurd (cc (h.first))
begins_append (b ∷ front) back h = record { first = h.first }

first_stays : (text : List ℕ) → IsAscii text → Begins text → trim_start text ≡ text
unfolding trim_start
first_stays [] ascii h = absurd (cc (h.first))
first_stays (b ∷ text) ascii h =
    let same : is_whitespace b ≡ false = h.first in rw (chars-IsAscii (b ∷ text) ascii, same) (encodes-IsAscii (b ∷ text) ascii)

not_cut : (b : Bool) (front text : List ℕ) → cond (b && false) front text ≡ text
not_cut true front text = refl
not_cut false front text = refl

is_filled : (front : List ℕ) (c : ℕ) → (length (front ++ c ∷ []) == 0) ≡ false
is_filled front c = grind (arith, nat_tests, length-append front (c ∷ []))

drop_nothing : (front : List ℕ) (c : ℕ) → is_whitespace c ≡ false → drop_trailing_whitespace (front ++ c ∷ []) ≡ front ++ c ∷ []
drop_nothing [] c h = rw h refl
drop_nothing (b ∷ front) c h =
    rw (drop_nothing front c h, is_filled front c) (not_cut (is_whitespace b) [] (b ∷ (front ++ c ∷ [])))

last_stays : (front : List ℕ) (c : ℕ) → IsAscii (front ++ c ∷ []) → is_whitespace c ≡ false → trim_end (front ++ c ∷ []) ≡ front ++ c ∷ []
unfolding trim_end
last_stays front c ascii h = rw (chars-IsAscii (front ++ c ∷ []) ascii, drop_nothing front c h) (encodes-IsAscii (front ++ c ∷ []) ascii)

-- ASCII text between two bytes that are no white space is trimmed to itself
trimmed : (front : List ℕ) (c : ℕ) → IsAscii (front ++ c ∷ []) → Begins (front ++ c ∷ []) → is_whitespace c ≡ false
    → trim (front ++ c ∷ []) ≡ front ++ c ∷ []
trimmed front c ascii first last = ap trim_end (first_stays (front ++ c ∷ []) ascii first) ∙ last_stays front c ascii last

-- the parts of a date are ASCII
record IsLow (text : List ℕ) : Type 0 where
  ascii : IsAscii text

low_by : (text : List ℕ) → list_all is_ascii text ≡ true → IsLow text
low_by text h = record { ascii = ascii_by text h }

more : (front back : List ℕ) → IsLow front → IsLow back → IsLow (front ++ back)
more front back a b = record { ascii = IsAscii-append front back a.ascii b.ascii }

day_name_ascii : (n : ℕ) → n < 8 → IsLow (day_name n)
unfolding same all_below
day_name_ascii n small = low_by (day_name n) (agree_below (λ k. list_all is_ascii (day_name k)) (λ _. true) 8 refl n small)

day_name_begins : (n : ℕ) → n < 8 → Begins (day_name n)
unfolding same all_below
day_name_begins n small = record { first = agree_below (λ k. is_whitespace (get_or (day_name k) 0 32)) (λ _. false) 8 refl n small }

month_name_ascii : (n : ℕ) → n < 13 → IsLow (month_name n)
unfolding same all_below
month_name_ascii n small = low_by (month_name n) (agree_below (λ k. list_all is_ascii (month_name k)) (λ _. true) 13 refl n small)

two_digits_ascii : (n : ℕ) → n < 100 → IsLow (two_digits n)
two_digits_ascii n small = record {
  ascii = IsAscii-cons (48 + n / 10) ((48 + n % 10) ∷ []) (omega arith) (IsAscii-cons (48 + n % 10) [] (omega arith) IsAscii-nil);
}

four_digits_ascii : (n : ℕ) → n < 10000 → IsLow (four_digits n)
four_digits_ascii n small =
    more (two_digits (n / 100)) (two_digits (n % 100)) (two_digits_ascii (n / 100) (omega arith)) (two_digits_ascii (n % 100) (omega arith))

time_ascii : (p : Parts) → p.hour < 100 → p.min < 100 → p.sec < 100 → IsLow (time_of_day p)
time_ascii p hour min sec =
    let colon = low_by (codes ":") refl in
    let a = more (two_digits p.hour) (codes ":") (two_digits_ascii p.hour hour) colon in
    let b = more (two_digits p.hour ++ codes ":") (two_digits p.min) a (two_digits_ascii p.min min) in
    let c = more (two_digits p.hour ++ codes ":" ++ two_digits p.min) (codes ":") b colon in
    more (two_digits p.hour ++ codes ":" ++ two_digits p.min ++ codes ":") (two_digits p.sec) c (two_digits_ascii p.sec sec)

-- the numbers of a date fit their places
record Fits (p : Parts) : Type 0 where
  wday : p.wday < 8
  day : p.day < 100
  mon : p.mon < 13
  year : p.year < 10000
  hour : p.hour < 100
  min : p.min < 100
  sec : p.sec < 100

day_fits : (y m d : ℕ) → d ≤ days_in_month y m → d < 100
day_fits y m d h = grind (arith, nat_tests)

fits : (d : HttpDate) → Fits d.date.parts
fits d = record {
  wday = omega (arith, d.date.right_day);
  day = day_fits d.date.parts.year d.date.parts.mon d.date.parts.day d.date.civil.2.1;
  mon = omega (arith, d.date.civil.1.1);
  year = omega (arith, d.date.civil.0.1);
  hour = omega (arith, d.date.time.0);
  min = omega (arith, d.date.time.1);
  sec = omega (arith, d.date.time.2);
}

-- the text of a date as far as its time
abbrev before_zone : Parts → List ℕ
before_zone p =
    day_name p.wday ++ codes ", " ++ two_digits p.day ++ codes " " ++ month_name p.mon ++ codes " "
    ++ four_digits p.year ++ codes " " ++ time_of_day p

before_zone_ascii : (p : Parts) → Fits p → IsLow (before_zone p)
before_zone_ascii p h =
    let blank = low_by (codes " ") refl in
    let a = more _ _ (day_name_ascii p.wday h.wday) (low_by (codes ", ") refl) in
    let b = more _ _ (more _ _ a (two_digits_ascii p.day h.day)) blank in
    let c = more _ _ (more _ _ b (month_name_ascii p.mon h.mon)) blank in
    let d = more _ _ (more _ _ c (four_digits_ascii p.year h.year)) blank in
    more _ _ d (time_ascii p h.hour h.min h.sec)

before_zone_begins : (p : Parts) → Fits p → Begins (before_zone p)
before_zone_begins p h =
    begins_append _ _ (begins_append _ _ (begins_append _ _ (begins_append _ _ (begins_append _ _ (begins_append _ _
    (begins_append _ _ (begins_append _ _ (day_name_begins p.wday h.wday))))))))

zoned : (front : List ℕ) → IsLow front → Begins front → IsAscii (front ++ codes " GMT") × (trim (front ++ codes " GMT") ≡ front ++ codes " GMT")
zoned front ascii begins =
    let whole : front ++ codes " GMT" ≡ (front ++ codes " GM") ++ 84 ∷ [] = sym (append_assoc front (codes " GM") (84 ∷ [])) in
    let all = (more front (codes " GMT") ascii (low_by (codes " GMT") refl)).ascii in
    let P : List ℕ → Type 0 = λ t. IsAscii t in
    let Q : List ℕ → Type 0 = λ t. trim t ≡ t in (
      all,
      subst Q (sym whole) (trimmed (front ++ codes " GM") 84 (subst P whole all) (begins_append (front ++ codes " GM") (84 ∷ []) (begins_append front (codes " GM") begins)) refl),
    )

-- what a date prints is read as that date
pub printed_is_read : (d : HttpDate) → IsHttpDateText (http_date_text d) d
printed_is_read d =
    let h = fits d in
    let both = zoned (before_zone d.date.parts) (before_zone_ascii d.date.parts h) (before_zone_begins d.date.parts h) in
    let P : List ℕ → Type 0 = λ t. IsDateText t d.date in (both.0, subst P (sym both.1) (inl refl))
