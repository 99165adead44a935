-- The date of a second: its year, its month and its day in the calendar.
use Rattle.std.proofs.Common.{◌≡◌, ℕ, zero, suc, ◌+◌, ◌-◌, ◌*◌, ◌/◌, ◌%◌, ◌<◌, ◌≤◌, refl, sym, ap, ◌∙◌, subst, arith}
use Rattle.std.specs.Prelude.{nat_lt}
use Rattle.std.proofs.lemmas.Bool.{cond_both, ltb-true}
use Rattle.std.proofs.lemmas.Bool.Decides.{nat_tests}
use Rattle.httpdate.specs.declared.parts.Parts.{Parts}
use Rattle.httpdate.specs.declared.date.HttpDate.{HttpDate}
use Rattle.httpdate.specs.Calendar.{days_in_year, days_in_month, days_of_years, days_of_months, days_from_civil, weekday, IsCivilDate}
use Rattle.httpdate.specs.Date.{unix_secs, date_text}
use Rattle.httpdate.specs.Text.{imf_fixdate}
use Rattle.httpdate.proofs.CalendarLemmas.{days_of_years_closed, days_of_months_all, days_from_civil_bound}
use Rattle.httpdate.proofs.Theorems.{unix_secs_injective}
use Rattle.model_h1.specs.AnswerText.{Counted, year_at, month_at, date_of}

-- ---- the year

-- the days of one more year
years_suc : (n : ℕ) → days_of_years (suc n) ≡ days_of_years n + days_in_year (1970 + n)
unfolding days_of_years
years_suc n = refl

-- The day lies within the year, which is one of those that were looked at, and the years before it have the other
-- days.
record YearOf (first more days : ℕ) (r : Counted) : Type 0 where
  pub low : 1970 + first ≤ r.number
  pub high : r.number ≤ 1970 + (first + more)
  pub within : r.days < days_in_year r.number
  pub value : days_of_years (r.number - 1970) + r.days ≡ days_of_years first + days

-- a day within the first year
year_here : (first more days : ℕ) → days < days_in_year (1970 + first) → YearOf first more days (record { number = 1970 + first; days = days })
year_here first more days within =
    let same : 1970 + first - 1970 ≡ first = omega arith in
    record {
      low = omega arith;
      high = omega arith;
      within = within;
      value = ap (λ n. days_of_years n + days) same;
    }

-- a day behind it
year_later : (first more days : ℕ) (r : Counted) → days_in_year (1970 + first) ≤ days
    → YearOf (suc first) more (days - days_in_year (1970 + first)) r → YearOf first (suc more) days r
year_later first more days r behind y = record {
  low = omega (arith, y.low);
  high = omega (arith, y.high);
  within = y.within;
  value = omega (arith, y.value, years_suc first);
}

-- the year of each day that the years have
year_is : (more first days : ℕ) → days_of_years first + days < days_of_years (suc (first + more))
    → YearOf first more days (year_at more (1970 + first) days)
unfolding year_at
year_is zero first days inside =
    let same : first + 0 ≡ first = omega arith in
    let bound = subst (λ n. days_of_years first + days < days_of_years (suc n)) same inside in
    year_here first zero days (omega (arith, years_suc first, bound))
year_is (suc more) first days inside =
    let next : 1970 + first + 1 ≡ 1970 + suc first = omega arith in
    let count : first + suc more ≡ suc first + more = omega arith in
    let bound = subst (λ n. days_of_years first + days < days_of_years (suc n)) count inside in
    cond_both (nat_lt days (days_in_year (1970 + first))) _ _ (YearOf first (suc more) days)
    (λ here. year_here first (suc more) days (ltb-true _ _ here))
    (λ behind.
    let low : days_in_year (1970 + first) ≤ days = grind (arith, nat_tests, behind) in
    year_later first more days _ low
    (subst (λ y. YearOf (suc first) more (days - days_in_year (1970 + first)) (year_at more y (days - days_in_year (1970 + first)))) (sym next)
    (year_is more (suc first) (days - days_in_year (1970 + first)) (omega (arith, years_suc first, bound)))))

-- ---- the month

-- the days of one more month
months_suc : (y n : ℕ) → days_of_months y (suc n) ≡ days_of_months y n + days_in_month y (suc n)
unfolding days_of_months
months_suc y n = refl

-- The day lies within the month, which is one of those that were looked at, and the months before it have the other
-- days.
record MonthOf (y first more days : ℕ) (r : Counted) : Type 0 where
  pub low : suc first ≤ r.number
  pub high : r.number ≤ suc (first + more)
  pub within : r.days < days_in_month y r.number
  pub value : days_of_months y (r.number - 1) + r.days ≡ days_of_months y first + days

-- a day within the first month
month_here : (y first more days : ℕ) → days < days_in_month y (suc first)
    → MonthOf y first more days (record { number = suc first; days = days })
month_here y first more days within =
    let same : suc first - 1 ≡ first = omega arith in
    record {
      low = omega arith;
      high = omega arith;
      within = within;
      value = ap (λ n. days_of_months y n + days) same;
    }

-- a day behind it
month_later : (y first more days : ℕ) (r : Counted) → days_in_month y (suc first) ≤ days
    → MonthOf y (suc first) more (days - days_in_month y (suc first)) r → MonthOf y first (suc more) days r
month_later y first more days r behind m = record {
  low = omega (arith, m.low);
  high = omega (arith, m.high);
  within = m.within;
  value = omega (arith, m.value, months_suc y first);
}

-- the month of each day that the months have
month_is : (more y first days : ℕ) → days_of_months y first + days < days_of_months y (suc (first + more))
    → MonthOf y first more days (month_at more y (suc first) days)
unfolding month_at
month_is zero y first days inside =
    let same : first + 0 ≡ first = omega arith in
    let bound = subst (λ n. days_of_months y first + days < days_of_months y (suc n)) same inside in
    month_here y first zero days (omega (arith, months_suc y first, bound))
month_is (suc more) y first days inside =
    let next : suc first + 1 ≡ suc (suc first) = omega arith in
    let count : first + suc more ≡ suc first + more = omega arith in
    let bound = subst (λ n. days_of_months y first + days < days_of_months y (suc n)) count inside in
    cond_both (nat_lt days (days_in_month y (suc first))) _ _ (MonthOf y first (suc more) days)
    (λ here. month_here y first (suc more) days (ltb-true _ _ here))
    (λ behind.
    let low : days_in_month y (suc first) ≤ days = grind (arith, nat_tests, behind) in
    month_later y first more days _ low
    (subst (λ m. MonthOf y (suc first) more (days - days_in_month y (suc first)) (month_at more y m (days - days_in_month y (suc first)))) (sym next)
    (month_is more y (suc first) (days - days_in_month y (suc first)) (omega (arith, months_suc y first, bound)))))

-- ---- the date

-- a day before the year 10000 lies in one of 8030 years from 1970 on
day_bound : (days : ℕ) → days < 2932897 → days_of_years 0 + days < days_of_years (suc (0 + 8029))
unfolding days_of_years
day_bound days h = omega (arith, days_of_years_closed 8030)

-- a day of a year lies in one of its twelve months
year_bound : (y days : ℕ) → days < days_in_year y → days_of_months y 0 + days < days_of_months y (suc (0 + 11))
unfolding days_of_months
year_bound y days h = omega (arith, days_of_months_all y)

-- the numbers that a second's text is made of
abbrev parts_at : ℕ → Counted → Counted → Parts
parts_at seconds year month = record {
  year = year.number;
  mon = month.number;
  day = month.days + 1;
  hour = seconds % 86400 / 3600;
  min = seconds % 3600 / 60;
  sec = seconds % 60;
  wday = weekday (seconds / 86400);
}

-- their day is the second's
days_are : (seconds : ℕ) (year month : Counted) → YearOf 0 8029 (seconds / 86400) year → MonthOf year.number 0 11 year.days month
    → days_from_civil year.number month.number (month.days + 1) ≡ seconds / 86400
unfolding days_of_years days_of_months
days_are seconds year month y m = omega (arith, y.value, m.value)

-- the calendar has them
civil : (seconds : ℕ) (year month : Counted) → YearOf 0 8029 (seconds / 86400) year → MonthOf year.number 0 11 year.days month
    → IsCivilDate year.number month.number (month.days + 1)
civil seconds year month y m = (
  (omega (arith, y.low), omega (arith, y.high)),
  (omega (arith, m.low), omega (arith, m.high)),
  (omega arith, omega (arith, m.within)),
)

-- the second, from its day and its time of day
clock : (seconds days : ℕ) → days ≡ seconds / 86400
    → days * 86400 + seconds % 86400 / 3600 * 3600 + seconds % 3600 / 60 * 60 + seconds % 60 ≡ seconds
clock seconds days same = omega arith

-- the date of the second
date_at : (seconds : ℕ) (year month : Counted) → YearOf 0 8029 (seconds / 86400) year → MonthOf year.number 0 11 year.days month
    → (date : HttpDate) × (unix_secs date ≡ seconds) × (date_text date ≡ imf_fixdate (parts_at seconds year month))
date_at seconds year month y m =
    let days = days_are seconds year month y m in (
      record {
        parts = parts_at seconds year month;
        civil = civil seconds year month y m;
        time = (omega arith, omega arith, omega arith);
        right_day = ap weekday (sym days);
      },
      clock seconds _ days,
      refl,
    )

-- each second before the year 10000 has a date
pub date_exists : (seconds : ℕ) → seconds < 253402300800
    → (date : HttpDate) × (unix_secs date ≡ seconds) × (date_of seconds ≡ date_text date)
unfolding date_of
date_exists seconds h =
    let year = year_at 8029 1970 (seconds / 86400) in
    let y : YearOf 0 8029 (seconds / 86400) year = year_is 8029 0 (seconds / 86400) (day_bound (seconds / 86400) (omega arith)) in
    let month = month_at 11 year.number 1 year.days in
    let m : MonthOf year.number 0 11 year.days month = month_is 11 year.number 0 year.days (year_bound year.number year.days y.within) in
    let d = date_at seconds year month y m in
    (d.0, d.1, sym d.2)

-- a date lies before the year 10000
date_bound : (date : HttpDate) → unix_secs date < 253402300800
date_bound date = omega (arith, days_from_civil_bound _ _ _ date.civil, date.time)

-- and each date of that second has that text
pub date_same : (seconds : ℕ) (date : HttpDate) → unix_secs date ≡ seconds → date_of seconds ≡ date_text date
date_same seconds date e =
    let d = date_exists seconds (subst (λ n. n < 253402300800) e (date_bound date)) in
    d.2 ∙ ap imf_fixdate (unix_secs_injective d.0 date (d.1 ∙ sym e))
