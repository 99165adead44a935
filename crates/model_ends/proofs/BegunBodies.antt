-- The first bytes of a body that was sent: it ends where it was sent to end, or it is open yet.
use Rattle.std.proofs.Common.{◌≡◌, ℕ, ◌+◌, ◌<◌, ◌≤◌, Bool, true, false, ◌&&◌, List, [], ◌++◌, length, take, drop, Option, Some, None, refl, sym, ap, ◌∙◌, subst, inl, inr, arith, length-drop, le-leb}
use Rattle.std.specs.Prelude.{nat_le}
use Rattle.std.proofs.lemmas.Bool.{false≢true, cases_lt, lt-leb}
use Rattle.std.proofs.lemmas.List.{drop-append-le, take-append-le}
use Rattle.model_h1.specs.Chunked.{Chunked, whole, unfinished, not_chunked, IsChunked, Spells}
use Rattle.model_h1.specs.ChunkedText.{Trailer}
use Rattle.model_h1.specs.Runs.{Run, run_bytes}
use Rattle.model_h1.proofs.Beginnings.{begins_take, whole_not_begun}
use Rattle.model_h1.specs.Request.{BodyKind, no_body, fixed_body, chunked_body, raw_body, head_is}
use Rattle.model_h1.specs.Parse.{Body, content, ended_at, still_open, open_or_cut, run_between, fixed_content, shifted, chunked_stop, next_start, IsBodyOf}
use Rattle.model_h1.specs.Handed.{Begins, body_bytes}
use Rattle.model_h1.specs.Laws.Growth.{may_grow, BodyGrows}
use Rattle.model_h1.proofs.BodyLemmas.{input}
use Rattle.model_h1.proofs.BodyGrowth.{body_grows, fixed_whole, fixed_part}
use Rattle.model_h1.proofs.RunLemmas.{begins_same}
use Rattle.model_client.proofs.AnswerLemmas.{of_kind}
use Rattle.model_ends.specs.SentAnswer.{IsBodySent, stop_of}

-- the end of the body, or that it is under way, and its bytes so far
pub record Begun (front all : List ℕ) (is_whole ended : Bool) (end : ℕ) (body : Body) (sent : List Run) : Type 0 where
  pub runs : List Run
  pub is : body ≡ content runs (stop_of (is_whole && nat_le end (length front)) ended end)
  pub begins : Begins (run_bytes front runs) (run_bytes all sent)
  pub carried : (is_whole && nat_le end (length front)) ≡ true → run_bytes front runs ≡ run_bytes all sent

module _ (bytes more : List ℕ) (ended : Bool) (place : ℕ) (within : place ≤ length bytes) (sent : List Run) (end : ℕ) where
  abbrev all : List ℕ
  all = bytes ++ more

  -- a body that nothing changes
  closed_begun : (is_whole : Bool) (b₀ b : Body) → BodyGrows bytes all b₀ (content sent (stop_of is_whole false end)) → b ≡ b₀ → may_grow b₀ ≡ false
      → (next_start b₀ ≡ Some end → end ≤ length bytes) → Begun bytes all is_whole ended end b sent
  closed_begun false b₀ b grows same closed bound = absurd (false≢true (sym closed ∙ ap may_grow (grows.closed closed).0))
  closed_begun true b₀ b grows same closed bound =
      let e = grows.closed closed in
      let here : nat_le end (length bytes) ≡ true = le-leb end (length bytes) (bound (ap next_start e.0)) in
      let bytes_are : run_bytes bytes sent ≡ run_bytes all sent = ap (body_bytes bytes) (sym e.0) ∙ e.1 in
      record {
        runs = sent;
        is = same ∙ e.0 ∙ ap (λ t. content sent (stop_of t ended end)) (sym here);
        begins = begins_same (run_bytes bytes sent) (run_bytes all sent) bytes_are;
        carried = λ there. bytes_are;
      }

  -- a body that goes on
  open_begun : (is_whole : Bool) (runs : List Run) (b₀ b : Body) → BodyGrows bytes all b₀ (content sent (stop_of is_whole false end)) → b₀ ≡ content runs still_open
      → b ≡ content runs (open_or_cut ended) → (is_whole ≡ true → length bytes < end) → Begun bytes all is_whole ended end b sent
  open_begun is_whole runs b₀ b grows is₀ is late =
      let here : (is_whole && nat_le end (length bytes)) ≡ false = by_test is_whole late in
      record {
        runs = runs;
        is = is ∙ ap (λ t. content runs (stop_of t ended end)) (sym here);
        begins = subst (λ l. Begins l (run_bytes all sent)) (ap (body_bytes bytes) is₀) grows.bytes;
        carried = λ there. absurd (false≢true (sym here ∙ there));
      }
    where
      by_test : (t : Bool) → (t ≡ true → length bytes < end) → (t && nat_le end (length bytes)) ≡ false
      by_test true late = lt-leb end (length bytes) (late refl)
      by_test false late = refl

  -- one end is one place, and what is open has none
  same_end : {m n : ℕ} → ◌≡◌ {A = Option ℕ} (Some m) (Some n) → n ≡ m
  same_end e = cc

  nowhere : {m : ℕ} → ◌≡◌ {A = Option ℕ} None (Some m) → ⊥
  nowhere e = cc

  abbrev Grown : Bool → Body → Type 0
  Grown is_whole b₀ = BodyGrows bytes all b₀ (content sent (stop_of is_whole false end))

  -- a body of a length
  fixed_begun : (is_whole : Bool) (n : ℕ) → Grown is_whole (fixed_content (input bytes None false 0) place n)
      → content sent (stop_of is_whole false end) ≡ fixed_content (input all None false 0) place n
      → Begun bytes all is_whole ended end (fixed_content (input bytes None ended 0) place n) sent
  fixed_begun is_whole n grows y =
      elim (cases_lt (length bytes) (place + n)) [
        | inr fits ↦
            let b₀ = fixed_content (input bytes None false 0) place n in
            let e₀ = fixed_whole bytes None false 0 place n fits in
            closed_begun is_whole b₀ (fixed_content (input bytes None ended 0) place n) grows (fixed_whole bytes None ended 0 place n fits ∙ sym e₀)
            (ap may_grow e₀) (λ there. let at = same_end (sym there ∙ ap next_start e₀) in omega (arith, at))
        | inl short ↦
            open_begun is_whole (run_between place (length bytes)) (fixed_content (input bytes None false 0) place n) (fixed_content (input bytes None ended 0) place n) grows
            (fixed_part bytes None false 0 place n short) (fixed_part bytes None ended 0 place n short)
            (λ is. late short (sym (ap (λ t. next_start (content sent (stop_of t false end))) is) ∙ ap next_start y))
      ]
    where
      late : length bytes < place + n → Some end ≡ next_start (fixed_content (input all None false 0) place n) → length bytes < end
      late short there =
          elim (cases_lt (length all) (place + n)) [
            | inl short' ↦ absurd (nowhere (sym (ap next_start (fixed_part all None false 0 place n short')) ∙ sym there))
            | inr fits ↦ let at = same_end (there ∙ ap next_start (fixed_whole all None false 0 place n fits)) in omega (arith, at)
          ]

  -- a body in chunks isn't whole while it is only begun
  not_yet : (c : Chunked) (runs runs' : List Run) (k : ℕ) (trailers : List Trailer) → IsChunked (drop place bytes) unfinished runs
      → IsChunked (drop place all) (whole k trailers) runs' → length bytes < place + k
  not_yet c runs runs' k trailers x y =
      elim (cases_lt (length bytes) (place + k)) [
        | inl late ↦ late
        | inr early ↦
            let rest = drop place bytes in
            let reach : k ≤ length rest = omega (arith, length-drop place bytes) in
            let front : take k (drop place all) ≡ take k rest = ap (take k) (drop-append-le place bytes more within) ∙ take-append-le k rest more reach in
            absurd (whole_not_begun (take k rest) y.0 x.0 (subst (λ l. Spells l y.0) front y.2) (begins_take k rest x.0 x.1))
      ]

  chunked_begun : (is_whole : Bool) (b : Body) → ((b₀ : Body) → IsBodyOf (input bytes None false 0) chunked_body place b₀ → Grown is_whole b₀)
      → IsBodyOf (input bytes None ended 0) chunked_body place b → IsBodyOf (input all None false 0) chunked_body place (content sent (stop_of is_whole false end))
      → Begun bytes all is_whole ended end b sent
  chunked_begun is_whole b grows (c, runs, x, is) y = by_case c x is
    where
      by_case : (c : Chunked) → IsChunked (drop place bytes) c runs
          → b ≡ content (shifted place runs) (chunked_stop (input bytes None ended 0) place c) → Begun bytes all is_whole ended end b sent
      by_case (whole k trailers) x is =
          closed_begun is_whole _ b (grows _ (whole k trailers, runs, x, refl)) is refl
          (λ there. let at = same_end (sym there) in omega (arith, at, x.1, length-drop place bytes))
      by_case not_chunked x is = closed_begun is_whole _ b (grows _ (not_chunked, runs, x, refl)) is refl (λ there. absurd (nowhere there))
      by_case unfinished x is =
          open_begun is_whole _ _ b (grows _ (unfinished, runs, x, refl)) refl is (λ w. late y.0 y.2 (sym (ap (λ t. next_start (content sent (stop_of t false end))) w) ∙ ap next_start y.3))
        where
          late : (c' : Chunked) → IsChunked (drop place all) c' y.1 → Some end ≡ next_start (content [] (chunked_stop (input all None false 0) place c')) → length bytes < end
          late (whole k trailers) z there = let at = same_end there in omega (arith, at, not_yet c runs y.1 k trailers x z)
          late unfinished z there = absurd (nowhere (sym there))
          late not_chunked z there = absurd (nowhere (sym there))

  -- a body of any kind that says where it ends
  pub body_begun : (kind : BodyKind) (is_whole : Bool) (text carried : List ℕ) (b : Body) → IsBodySent is_whole kind text carried
      → IsBodyOf (input bytes None ended 0) kind place b → IsBodyOf (input all None false 0) kind place (content sent (stop_of is_whole false end))
      → Begun bytes all is_whole ended end b sent
  body_begun raw_body true text carried b is x y = absurd is
  body_begun raw_body false text carried b is x y = absurd is
  body_begun no_body is_whole text carried b is x y =
      closed_begun is_whole (content [] (ended_at place [])) b (body_grows bytes more None false 0 (head_is (of_kind no_body)) place (content [] (ended_at place [])) _ within refl y) x refl
      (λ there. let at = same_end (sym there) in omega (arith, at))
  body_begun (fixed_body n) is_whole text carried b is x y =
      subst (λ k. Begun bytes all is_whole ended end k sent) (sym x)
      (fixed_begun is_whole n (body_grows bytes more None false 0 (head_is (of_kind (fixed_body n))) place _ _ within refl y) y)
  body_begun chunked_body is_whole text carried b is x y =
      chunked_begun is_whole b (λ b₀ x₀. body_grows bytes more None false 0 (head_is (of_kind chunked_body)) place b₀ _ within x₀ y) x y
