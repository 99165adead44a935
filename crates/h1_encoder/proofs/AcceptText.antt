-- The head of an upgrade, as it is put.
use Rattle.std.proofs.Common.{◌≡◌, ℕ, ◌/◌, Bool, false, List, ◌++◌, refl, sym, ap, ◌∙◌, append_assoc, codes}
use Rattle.std.proofs.lemmas.List.{append-nil}
use Rattle.httparse.specs.Ascii.{crlf_bytes}
use Rattle.model_h1.specs.Request.{upgrade}
use Rattle.model_h1.specs.Answer.{Asked, size_stream, shape_raw, type_of}
use Rattle.model_h1.specs.Setting.{Setting}
use Rattle.model_h1.specs.AnswerText.{appended, date_of, date_line, head_text}
use Rattle.model_h1.specs.Handshake.{accepting_head}
use Rattle.model_h1.specs.Text.{answer_head_text}
use Rattle.h1_encoder.specs.DateText.{date_and_end}
use Rattle.h1_encoder.specs.WrittenLines.{accept_start}
use Rattle.h1_encoder.proofs.Pieces.{four}

-- the date line, and the empty line
date_is : (now second : ℕ) (end : List ℕ) → end ≡ date_and_end second → second ≡ now / 1000 → end ≡ date_line false now ++ crlf_bytes
date_is now second end is at =
    is ∙ ap date_and_end at ∙ ap (λ (l : List ℕ). codes "date: " ++ l) (sym (append_assoc (date_of (now / 1000)) crlf_bytes crlf_bytes))

-- the connection changes, whatever is asked
upgrades : (setting : Setting) (draining : Bool) (asked : Asked) (key : List ℕ) → type_of setting draining asked (accepting_head key) size_stream ≡ upgrade
upgrades setting draining asked key = refl

-- the text of the head
head_is : (minor : ℕ) (key : List ℕ) (now : ℕ)
    → head_text minor (accepting_head key) shape_raw size_stream upgrade now
    ≡ accept_start minor ++ (key ++ (crlf_bytes ++ (date_line false now ++ crlf_bytes)))
unfolding head_text appended
head_is minor key now =
    let end = date_line false now ++ crlf_bytes in
    ap (λ (l : List ℕ). accept_start minor ++ l)
    (ap (λ (l : List ℕ). l ++ end) (append-nil (key ++ crlf_bytes)) ∙ append_assoc key crlf_bytes end)

-- what was put, piece by piece
pub accept_is : (setting : Setting) (draining : Bool) (asked : Asked) (key : List ℕ) (now second : ℕ) (start end old one more most all : List ℕ)
    → start ≡ accept_start asked.minor → end ≡ date_and_end second → second ≡ now / 1000
    → one ≡ old ++ start → more ≡ one ++ key → most ≡ more ++ crlf_bytes → all ≡ most ++ end
    → all ≡ old ++ answer_head_text setting draining asked (accepting_head key) size_stream now
accept_is setting draining asked key now second start end old one more most all start_is end_is at one_is more_is most_is all_is =
    four old start key crlf_bytes end one more most all one_is more_is most_is all_is
    ∙ (λ i. old ++ (start_is i ++ (key ++ (crlf_bytes ++ date_is now second end end_is at i))))
    ∙ ap (λ (l : List ℕ). old ++ l) (sym (head_is asked.minor key now))
