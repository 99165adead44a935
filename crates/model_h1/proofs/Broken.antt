-- No body begins with what is broken: it stays broken, whatever follows.
use Rattle.std.proofs.Common.{◌≡◌, ℕ, List, ◌++◌, ap, ◌∙◌}
use Rattle.model_h1.specs.ChunkedText.{ChunkedText, chunked_text, IsChunkedText}
use Rattle.model_h1.specs.Place.{start}
use Rattle.model_h1.specs.Reading.{is_broken, Reading, read}
use Rattle.model_h1.proofs.ReadAfter.{broken_reading_stays}
use Rattle.model_h1.proofs.Complete.{text_read}

-- no body begins with what is broken
pub broken_begins_nothing : (bytes more rest : List ℕ) (t : ChunkedText) → (read start bytes).ending ≡ is_broken → IsChunkedText t
    → ¬ (bytes ++ more ≡ chunked_text t ++ rest)
broken_begins_nothing bytes more rest t e ok same =
    let stays = ap (λ (r : Reading). r.ending) (broken_reading_stays start bytes more e) ∙ e in
    let whole = ap (λ (r : Reading). r.ending) (ap (read start) same ∙ text_read t rest ok) in
    cc
