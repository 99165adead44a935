-- How a language tag is read, subtag by subtag: each rule reads one subtag, and says after which place it may stand and
-- which place it leads to.
use Rattle.std.specs.Prelude.{ℕ, ◌-◌, Bool, true, false, ◌&&◌, List, Option, Some, None, nat_lt, if◌then◌else◌}
use Rattle.http_values.specs.declared.shared.language_tag.Place.{Place}
use Rattle.http_values.specs.declared.shared.language_tag.Place.TheVariants.{Start, Language, Script, Region, Variant, Singleton, Extension, PrivateStart, Private}
use Rattle.http_values.specs.LanguageTag.{is_letters, is_letters_or_digits, is_region, is_variant, is_x, is_singleton}

-- what may follow a variant: an extension, or private use
unfoldable pub after_variant : List ℕ → Option Place
after_variant s = if is_singleton s then Some Singleton else (if is_x s then Some PrivateStart else None)

-- what may follow a region
unfoldable pub after_region : List ℕ → Option Place
after_region s = if is_variant s then Some Variant else after_variant s

-- what may follow a script
unfoldable pub after_script : List ℕ → Option Place
after_script s = if is_region s then Some Region else after_region s

-- what may follow the language, and k of its extended subtags may too
unfoldable pub after_language : ℕ → List ℕ → Option Place
after_language k s =
    if nat_lt 0 k && is_letters 3 3 s then Some (Language (k - 1))
    else (if is_letters 4 4 s then Some Script else after_script s)

-- the first subtag: a language of two or three letters, which up to three extended subtags may follow, one of four to eight, or `x`
unfoldable pub after_start : List ℕ → Option Place
after_start s =
    if is_letters 2 3 s then Some (Language 3)
    else (if is_letters 4 8 s then Some (Language 0) else (if is_x s then Some PrivateStart else None))

-- where a subtag leads to
abbrev pub next_place : Place → List ℕ → Option Place
next_place Start s = after_start s
next_place (Language k) s = after_language k s
next_place Script s = after_script s
next_place Region s = after_region s
next_place Variant s = after_region s
next_place Singleton s = if is_letters_or_digits 2 8 s then Some Extension else None
next_place Extension s = if is_letters_or_digits 2 8 s then Some Extension else after_variant s
next_place PrivateStart s = if is_letters_or_digits 1 8 s then Some Private else None
next_place Private s = if is_letters_or_digits 1 8 s then Some Private else None

-- whether a tag may end there: not where a further subtag must follow
abbrev pub may_end : Place → Bool
may_end Start = false
may_end Singleton = false
may_end PrivateStart = false
may_end _ = true
