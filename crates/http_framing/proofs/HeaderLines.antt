-- The header lines that spans cover, one after another.
use Rattle.std.proofs.Common.{◌≡◌, ℕ, ◌+◌, ◌<◌, List, [], ◌∷◌, ◌++◌, length, take, map, get_or, All, ap, ◌∙◌, subst}
use Rattle.std.proofs.lemmas.List.{length-map, get_or-map, map_more, map_push}
use Rattle.std.proofs.lemmas.List.Elements.{All-get_or}
use Rattle.std.proofs.lemmas.List.Sums.{fold_push}
use Rattle.http_header.specs.FieldValue.{plain_value}
use Rattle.http_map.specs.HeaderMap.{append}
use Rattle.httparse.specs.Spans.{header_bytes}
use Rattle.httparse.specs.declared.spans.HeaderSpan.{HeaderSpan}
use Rattle.model_h1.specs.Request.{Header}
use Rattle.http_framing.specs.HeaderLines.{Line, line_header, header_map}

-- what a span is past the end of the list
unfoldable pub no_span : HeaderSpan
no_span = record { name = record { start = 0; end = 0 }; value = record { start = 0; end = 0 } }

module _ (text : List ℕ) (spans : List HeaderSpan) (i : ℕ) (d : HeaderSpan) (below : i < length spans) where
  -- what holds of all lines, holds of each
  pub line_at : (P : Line → Type 0) → All P (map (header_bytes text) spans) → P (header_bytes text (get_or spans i d))
  line_at P all =
      subst P (get_or-map (header_bytes text) spans i d (header_bytes text d) below)
      (All-get_or P (map (header_bytes text) spans) i (header_bytes text d) (rw length-map below) all)

  -- one more header
  pub headers_more : map line_header (map (header_bytes text) (take (i + 1) spans))
      ≡ map line_header (map (header_bytes text) (take i spans)) ++ line_header (header_bytes text (get_or spans i d)) ∷ []
  headers_more =
      ap (map line_header) (map_more (header_bytes text) spans i d below)
      ∙ map_push line_header (map (header_bytes text) (take i spans)) (header_bytes text (get_or spans i d))

  -- in the map
  pub header_map-more : let line = header_bytes text (get_or spans i d) in
      header_map (map line_header (map (header_bytes text) (take (i + 1) spans)))
      ≡ append (header_map (map line_header (map (header_bytes text) (take i spans)))) (line_header line).name (plain_value (line_header line).value)
  header_map-more =
      let line = header_bytes text (get_or spans i d) in
      ap header_map headers_more
      ∙ fold_push (λ entries (h : Header). append entries h.name (plain_value h.value)) [] (map line_header (map (header_bytes text) (take i spans))) (line_header line)
