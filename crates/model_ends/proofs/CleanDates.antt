-- A date has no control byte, and no blank at its ends.
use Rattle.std.proofs.Common.{◌≡◌, ℕ, zero, suc, ◌+◌, ◌-◌, ◌/◌, ◌%◌, ◌<◌, ◌≤◌, Bool, true, false, cond, not, ◌||◌, List, [], ◌∷◌, ◌++◌, reverse, get_or, codes, refl, sym, ap, ◌∙◌, subst, arith}
use Rattle.std.specs.Prelude.{IsTrue, ◌==◌}
use Rattle.std.specs.List.{AllByRecursion, list_all}
use Rattle.std.proofs.lemmas.Bool.{cond-false, not-true}
use Rattle.std.proofs.lemmas.Bool.Decides.{nat_tests}
use Rattle.std.proofs.lemmas.List.{reverse-append, reverse-reverse}
use Rattle.std.proofs.lemmas.List.Elements.{All-nil, All-cons, All-append}
use Rattle.std.proofs.lemmas.List.Sums.{AllPass-from_list_all}
use Rattle.httparse.specs.Grammar.{AllPass, is_value_byte, is_ows, skip_ows, trim_ows}
use Rattle.httpdate.specs.declared.parts.Parts.{Parts}
use Rattle.httpdate.specs.declared.date.HttpDate.{HttpDate}
use Rattle.httpdate.specs.Calendar.{is_leap_year, days_in_month}
use Rattle.httpdate.specs.Text.{day_name, month_name, two_digits, four_digits, time_of_day, imf_fixdate}
use Rattle.model_h1.specs.AnswerText.{date_of}
use Rattle.model_h1.specs.Limits.{MAX_MOMENT}
use Rattle.model_h1.proofs.DateLemmas.{date_exists}

-- ---- trimming

-- the text begins with a byte that is no blank
abbrev pub starts_dark : List ℕ → Bool
starts_dark [] = false
starts_dark (b ∷ bytes) = not (is_ows b)

-- then nothing is left out in front
skip_dark : (text : List ℕ) → starts_dark text ≡ true → skip_ows text ≡ text
skip_dark [] dark = refl
skip_dark (b ∷ bytes) dark = cond-false (is_ows b) (skip_ows bytes) (b ∷ bytes) (not-true (is_ows b) dark)

-- nor in front and at the end
pub trim_dark : (text : List ℕ) → starts_dark text ≡ true → starts_dark (reverse text) ≡ true → trim_ows text ≡ text
unfolding trim_ows
trim_dark text front back =
    ap (λ (l : List ℕ). reverse (skip_ows (reverse l))) (skip_dark text front) ∙ ap (λ (l : List ℕ). reverse l) (skip_dark (reverse text) back) ∙ reverse-reverse text

-- a text that begins with no blank
record Dark (text : List ℕ) : Type 0 where
  is : starts_dark text ≡ true

-- more bytes leave the first one
dark_more : {a : List ℕ} (b : List ℕ) → Dark a → Dark (a ++ b)
dark_more {a} b x = record { is = by_bytes a x.is }
  where
    by_bytes : (a : List ℕ) → starts_dark a ≡ true → starts_dark (a ++ b) ≡ true
    by_bytes [] dark = cc
    by_bytes (y ∷ a) dark = dark

-- ---- bytes

-- a text without control bytes but tabs
record Clean (text : List ℕ) : Type 0 where
  bytes : AllPass is_value_byte text

both : {a b : List ℕ} → Clean a → Clean b → Clean (a ++ b)
both {a} {b} x y = record { bytes = All-append (λ c. IsTrue (is_value_byte c)) a b x.bytes y.bytes }

-- a text that is known
lit : (text : List ℕ) → list_all is_value_byte text ≡ true → Clean text
lit text e = record { bytes = AllPass-from_list_all is_value_byte text e }

digit : (n : ℕ) → n < 10 → is_value_byte (48 + n) ≡ true
digit n small = grind (arith, nat_tests)

two_clean : (n : ℕ) → n < 100 → Clean (two_digits n)
two_clean n small =
    let P : ℕ → Type 0 = λ c. IsTrue (is_value_byte c) in
    let all = All-cons P (48 + n / 10) ((48 + n % 10) ∷ []) (digit (n / 10) (omega arith)) (All-cons P (48 + n % 10) [] (digit (n % 10) (omega arith)) (All-nil P)) in
    record { bytes = all }

-- one of several texts, or another one
one_of : (P : List ℕ → Type 0) (texts : List (List ℕ)) (i : ℕ) (other : List ℕ) → AllByRecursion P texts → P other → P (get_or texts i other)
one_of P [] i other all last = last
one_of P (t ∷ texts) zero other all last = all.0
one_of P (t ∷ texts) (suc i) other all last = one_of P texts i other all.1 last

-- the names of days and of months
abbrev days : List (List ℕ)
days = codes "Mon" ∷ codes "Tue" ∷ codes "Wed" ∷ codes "Thu" ∷ codes "Fri" ∷ codes "Sat" ∷ codes "Sun" ∷ []

abbrev months : List (List ℕ)
months = codes "Jan" ∷ codes "Feb" ∷ codes "Mar" ∷ codes "Apr" ∷ codes "May" ∷ codes "Jun" ∷ codes "Jul" ∷ codes "Aug" ∷ codes "Sep" ∷ codes "Oct" ∷ codes "Nov" ∷ codes "Dec" ∷ []

day_clean : (wday : ℕ) → Clean (day_name wday)
day_clean wday =
    one_of Clean days (wday - 1) []
    (lit (codes "Mon") refl, (lit (codes "Tue") refl, (lit (codes "Wed") refl, (lit (codes "Thu") refl, (lit (codes "Fri") refl, (lit (codes "Sat") refl, (lit (codes "Sun") refl, tt)))))))
    (lit [] refl)

-- a day begins with a letter; what is no day is followed by a comma
day_dark : (wday : ℕ) → starts_dark (day_name wday ++ codes ", ") ≡ true
day_dark wday = one_of (λ text. starts_dark (text ++ codes ", ") ≡ true) days (wday - 1) [] (refl, (refl, (refl, (refl, (refl, (refl, (refl, tt))))))) refl

month_clean : (mon : ℕ) → Clean (month_name mon)
month_clean mon =
    one_of Clean months (mon - 1) []
    (lit (codes "Jan") refl, (lit (codes "Feb") refl, (lit (codes "Mar") refl, (lit (codes "Apr") refl, (lit (codes "May") refl, (lit (codes "Jun") refl, (lit (codes "Jul") refl, (lit (codes "Aug") refl, (lit (codes "Sep") refl, (lit (codes "Oct") refl, (lit (codes "Nov") refl, (lit (codes "Dec") refl, tt))))))))))))
    (lit [] refl)

-- ---- a date

-- no month has more than 31 days
month_bound : (y m : ℕ) → days_in_month y m ≤ 31
month_bound y m = by_tests (m == 2) (is_leap_year y) ((m == 4) || (m == 6) || (m == 9) || (m == 11))
  where
    by_tests : (a b c : Bool) → cond a (cond b 29 28) (cond c 30 31) ≤ 31
    by_tests true true c = omega arith
    by_tests true false c = omega arith
    by_tests false b true = omega arith
    by_tests false b false = omega arith

-- `Sun, 06 Nov 1994 08:49:37 GMT`
text_clean : (d : HttpDate) → Clean (imf_fixdate d.parts)
text_clean d =
    let p = d.parts in
    let day : p.day < 100 = omega (arith, month_bound p.year p.mon, d.civil.2.1) in
    let blank = lit (codes " ") refl in
    let colon = lit (codes ":") refl in
    let hour = both (both (two_clean p.hour (omega (arith, d.time.0))) colon) (two_clean p.min (omega (arith, d.time.1))) in
    let time = both (both hour colon) (two_clean p.sec (omega (arith, d.time.2))) in
    let year = both (two_clean (p.year / 100) (omega (arith, d.civil.0.1))) (two_clean (p.year % 100) (omega arith)) in
    let front = both (both (both (day_clean p.wday) (lit (codes ", ") refl)) (two_clean p.day day)) blank in
    both (both (both (both (both (both front (month_clean p.mon)) blank) year) blank) time) (lit (codes " GMT") refl)

text_dark : (p : Parts) → Dark (imf_fixdate p)
text_dark p =
    let day : Dark (day_name p.wday ++ codes ", ") = record { is = day_dark p.wday } in
    let month = dark_more (month_name p.mon) (dark_more (codes " ") (dark_more (two_digits p.day) day)) in
    dark_more (codes " GMT") (dark_more (time_of_day p) (dark_more (codes " ") (dark_more (four_digits p.year) (dark_more (codes " ") month))))

text_ends_dark : (front : List ℕ) → starts_dark (reverse (front ++ codes " GMT")) ≡ true
text_ends_dark front = ap starts_dark (reverse-append front (codes " GMT"))

-- what comes before the zone
abbrev before_zone : Parts → List ℕ
before_zone p = day_name p.wday ++ codes ", " ++ two_digits p.day ++ codes " " ++ month_name p.mon ++ codes " " ++ four_digits p.year ++ codes " " ++ time_of_day p

-- a moment's date
pub date_clean : (now : ℕ) → now < MAX_MOMENT → AllPass is_value_byte (date_of (now / 1000)) × (trim_ows (date_of (now / 1000)) ≡ date_of (now / 1000))
date_clean now low =
    let d = date_exists (now / 1000) (omega (arith, low)) in
    let text = imf_fixdate d.0.parts in (
      subst (AllPass is_value_byte) (sym d.2) (text_clean d.0).bytes,
      subst (λ (t : List ℕ). trim_ows t ≡ t) (sym d.2) (trim_dark text (text_dark d.0.parts).is (text_ends_dark (before_zone d.0.parts))),
    )
