-- The words of the program.
use Rattle.std.specs.Prelude.{◌≡◌, ◌≤◌, ◌<◌, ◌^◌, ℕ, List, [], ◌∷◌}
use Rattle.std.specs.Str.Parse.{IsNumeral, digits_value, without_leading_plus}

-- a word spells this number by decimal digits, before which a plus may stand, and it fits so many bits
pub record Spells (bits : ℕ) (word : List ℕ) (number : ℕ) : Type 0 where
  pub digits : IsNumeral 10 (without_leading_plus word)
  pub value : digits_value 10 (without_leading_plus word) ≡ number
  pub fits : number < 2 ^ bits

-- three words: a port, how many connections are served at most, and how often each is polled at most
pub record AreNumbers (first second third : List ℕ) (port most polls : ℕ) : Type 0 where
  pub port_is : Spells 16 first port
  pub most_is : Spells 64 second most
  pub polls_is : Spells 64 third polls
  pub within : most ≤ 65536
  pub some : 0 < polls

pub record AreWords (words : List (List ℕ)) (port most polls : ℕ) : Type 0 where
  pub first : List ℕ
  pub second : List ℕ
  pub third : List ℕ
  pub words_are : words ≡ first ∷ second ∷ third ∷ []
  pub numbers : AreNumbers first second third port most polls

-- there are such numbers
abbrev pub IsCall : List (List ℕ) → Type 0
IsCall words = (port : ℕ) × (most : ℕ) × (polls : ℕ) × AreWords words port most polls
