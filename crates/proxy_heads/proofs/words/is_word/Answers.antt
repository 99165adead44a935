use Rattle.std.proofs.Common.{◌≡◌, ℕ, List, sym, ap, subst}
use Rattle.std.specs.Prelude.{bytes_eq}
use Rattle.std.specs.Bool.{Decides, one_answer}
use Rattle.std.proofs.lemmas.Slice.Eq.{bytes_eq-Decides}
use Rattle.std.proofs.lemmas.Bool.Decides.{Decides-like}
use Rattle.http_header.specs.Token.{lowercase}
use Rattle.proxy_heads.specs.Words.{word_of}
use Rattle.proxy_heads.proofs.words.is_word.Goals as goal

-- the code compares both in lower case, and the word is in lower case already
pub returns : goal.returns
returns c =
    let text : lowercase c.trimmed.result.now ≡ word_of c.args.text.now = ap lowercase c.trimmed.ensures in
    let Same : List ℕ → Type 0 = λ (bytes : List ℕ). Decides c.eq_ignore_ascii_case.result (bytes ≡ lowercase c.args.word.now) in
    let Word : List ℕ → Type 0 = λ (bytes : List ℕ). Decides c.eq_ignore_ascii_case.result (word_of c.args.text.now ≡ bytes) in
    one_answer _ _ (subst Word c.requires (subst Same text c.eq_ignore_ascii_case.ensures.test))
    (Decides-like (bytes_eq c.args.word.now (word_of c.args.text.now)) sym sym (bytes_eq-Decides c.args.word.now (word_of c.args.text.now)))
