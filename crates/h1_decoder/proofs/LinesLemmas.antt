-- The header lines that the spans cover, one after another.
use Rattle.std.proofs.Common.{◌≡◌, ℕ, ◌+◌, ◌<◌, List, [], ◌∷◌, ◌++◌, length, take, map, get_or, All, sym, ap, ◌∙◌, subst, true, Result, Ok, Err, inl, inr}
use Rattle.std.specs.Prelude.{◌⊎◌}
use Rattle.std.specs.Result.{OnOk, is_ok}
use Rattle.std.proofs.lemmas.Bool.{false≢true}
use Rattle.std.proofs.lemmas.List.{map_more}
use Rattle.std.proofs.lemmas.List.Elements.{All-push}
use Rattle.http_header.specs.Token.{lowercase, IsToken}
use Rattle.http_types.specs.declared.error.ParseError.{ParseError}
use Rattle.http_types.specs.declared.error.ParseError.TheVariants.{Uri, NoMemory}
use Rattle.http_uri.specs.Uri.{SpellsNone}
use Rattle.httparse.specs.Spans.{header_bytes, span_bytes}
use Rattle.httparse.specs.declared.spans.HeaderSpan.{HeaderSpan}
use Rattle.model_h1.specs.Request.{Header}
use Rattle.model_h1.specs.RequestHead.{IsTarget}
use Rattle.h1_decoder.specs.declared.framing.Framing.{Framing}
use Rattle.h1_decoder.specs.Framing.{TellsLines}
use Rattle.http_framing.specs.HeaderLines.{HasName, line_header}
use Rattle.http_framing.proofs.HeaderLines.{headers_more}
use Rattle.h1_decoder.specs.Lines.{RefusesLinesOf}
use Rattle.h1_decoder.specs.ReadParts.{Parts, RefusesParts}
use Rattle.h1_decoder.specs.Refusal.{UnlessNoMemory, IsHeaderUnlessNoMemory}

module _ (piece : List ℕ) (fields : List HeaderSpan) (i : ℕ) (d : HeaderSpan) (below : i < length fields) where
  -- one more line with a name
  pub names_more : All HasName (map (header_bytes piece) (take i fields)) → HasName (header_bytes piece (get_or fields i d))
      → All HasName (map (header_bytes piece) (take (i + 1) fields))
  names_more all here =
      subst (All HasName) (sym (map_more (header_bytes piece) fields i d below)) (All-push HasName _ _ all here)

  -- what the lines say together
  pub framing_more : (framing : Framing) (name value : List ℕ)
      → TellsLines framing (map line_header (map (header_bytes piece) (take i fields)) ++ (record { name = name; value = value }) ∷ [])
      → name ≡ lowercase (span_bytes piece (get_or fields i d).name) → value ≡ span_bytes piece (get_or fields i d).value
      → TellsLines framing (map line_header (map (header_bytes piece) (take (i + 1) fields)))
  framing_more framing name value tells name_is value_is =
      let before = map line_header (map (header_bytes piece) (take i fields)) in
      let line : Header = record { name = name; value = value } in
      let same : line ≡ line_header (header_bytes piece (get_or fields i d)) =
      ap (λ (n : List ℕ). record { name = n; value = value }) name_is
      ∙ ap (λ (v : List ℕ). record { name = lowercase (span_bytes piece (get_or fields i d).name); value = v }) value_is in
      subst (TellsLines framing) (ap (λ (l : Header). before ++ l ∷ []) same ∙ sym (headers_more piece fields i d below)) tells

-- what an Ok says, once the result is known to be one
pub known_ok : {T E P : Type 0} (r : Result T E) → true ≡ is_ok r → OnOk r P → P
known_ok (Ok x) is p = p
known_ok (Err e) is p = absurd (false≢true (sym is))

-- ---- what is told of lines that are refused

-- a target that is none is told before them
pub refused_lines : (parts : Parts) (error told : ParseError) → IsToken parts.method
    → IsHeaderUnlessNoMemory error (RefusesLinesOf parts.minor parts.method parts.lines)
    → (told ≡ NoMemory) ⊎ (((told ≡ Uri) × SpellsNone parts.target) ⊎ ((told ≡ error) × IsTarget parts.target))
    → UnlessNoMemory told (RefusesParts told parts)
refused_lines parts error told token refused (inl none) = λ ne. absurd (ne none)
refused_lines parts error told token refused (inr (inl none)) =
    λ ne. subst (λ (e : ParseError). RefusesParts e parts) (sym none.0) (token, λ target. none.1 target.0 target.1 target.2 target.3)
refused_lines parts error told token refused (inr (inr same)) = λ ne.
    let lines = refused (λ none. ne (same.0 ∙ none)) in
    subst (λ (e : ParseError). RefusesParts e parts) (sym (same.0 ∙ lines.0)) (token, same.1, lines.1)
