-- Which paths lie in a folder, as far as their text tells.
use Rattle.std.specs.Prelude.{◌≡◌, ◌≢◌, ℕ, List, [], ◌∷◌, ◌++◌, All, Contains, codes, Bool, false, ◌&&◌, ◌||◌, ◌==◌}

-- A name of a file or a folder: not empty, neither the folder itself nor the one above it, without a slash and without
-- a NUL byte.
pub record IsPlainName (name : List ℕ) : Type 0 where
  pub some : name ≢ []
  pub not_here : name ≢ codes "."
  pub not_above : name ≢ codes ".."
  pub no_slash : Contains name 47 → ⊥
  pub no_nul : Contains name 0 → ⊥

-- the names, of which the last one comes first, each behind a slash
abbrev pub spelled : List (List ℕ) → List ℕ
spelled [] = []
spelled (name ∷ before) = spelled before ++ (47 ∷ name)

-- the path is the folder's, and then names, each behind a slash
pub record IsInside (folder path : List ℕ) : Type 0 where
  pub some : folder ≢ []
  pub names : List (List ℕ)
  pub plain : All IsPlainName names
  pub is_path : path ≡ folder ++ spelled names

-- a path, and the folder that it lies in
pub record Placed : Type 0 where
  pub folder : List ℕ
  pub text : List ℕ

-- a slash stands right before a dot, where the byte before the text is this one
abbrev pub dotted : ℕ → List ℕ → Bool
dotted previous [] = false
dotted previous (b ∷ bs) = (previous == 47 && b == 46) || dotted b bs
