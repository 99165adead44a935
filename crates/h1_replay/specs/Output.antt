-- How a text is written: one write after another, to its end or to the first write that fails.
use Rattle.std.specs.Prelude.{ℕ, ◌≡◌, ◌≢◌, ◌<◌, ◌++◌, List, [], Option, length}
use Rattle.std.specs.Io.KnownBytes.{Appends, Keeps}
use Rattle.http_config.specs.Causes.{counted, IsAsked}

-- what a sink says of itself: the bytes that it was given, how many writes failed, how often it was asked
pub record Given : Type 0 where
  pub given : Option (List ℕ)
  pub faults : ℕ
  pub calls : Option ℕ

-- the sink was asked once, and took these bytes
pub record Takes (before now : Given) (bytes : List ℕ) : Type 0 where
  pub written : Appends before.given now.given bytes
  pub faults : now.faults ≡ before.faults
  pub calls : IsAsked before.calls now.calls

-- the sink was asked once, and failed: it took nothing
pub record Refuses (before now : Given) : Type 0 where
  pub given : Keeps before.given now.given
  pub faults : now.faults ≡ counted before.faults
  pub calls : IsAsked before.calls now.calls

-- the sink was asked again and again, took at least a byte each time, and no write failed: these are the bytes of all
pub data HasTaken (before : Given) : Given → List ℕ → Type 0 where
  nothing : HasTaken before before []
  more : (mid now : Given) (front piece : List ℕ) → HasTaken before mid front → Takes mid now piece → 0 < length piece → HasTaken before now (front ++ piece)

-- a front part of the text was written, of which some is missing, and then a write failed, which was the last
pub record WritesPart (before now : Given) (text : List ℕ) : Type 0 where
  pub mid : Given
  pub front : List ℕ
  pub rest : List ℕ
  pub text_is : text ≡ front ++ rest
  pub missing : rest ≢ []
  pub taken : HasTaken before mid front
  pub last : Refuses mid now

-- what a sink says, as a record
abbrev pub given_as : Option (List ℕ) → ℕ → Option ℕ → Given
given_as given faults calls = record { given = given; faults = faults; calls = calls }
