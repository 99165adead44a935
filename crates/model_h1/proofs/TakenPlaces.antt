-- Where taking leads: behind the bytes of a chunk, or behind all bytes.
use Rattle.std.proofs.Common.{◌≡◌, ℕ, suc, ◌+◌, ◌-◌, ◌<◌, ◌≤◌, ltb, eqb, List, [], ◌∷◌, ◌++◌, length, take, drop, refl, sym, ap, ◌∙◌, subst, inl, inr, arith, append-nil, take-append-drop, length-take}
use Rattle.std.specs.Prelude.{⊤}
use Rattle.std.proofs.lemmas.Bool.{cond-true, cond-false, cases_lt, lt-ltb, le-ltb, eq-eqb, ne_eqb}
use Rattle.model_h1.specs.Place.{InLine, Place, in_bytes, bytes_end, in_section, done, broken, bytes_step, step, after}
use Rattle.model_h1.specs.TakeNext.{Next, chunk, waits, ended, breaks, Taken, of_chunk, noted_line, stops_at, take_next}
use Rattle.model_h1.proofs.ReadAfter.{after-nil, after-cons}

-- ---- bytes of a chunk

-- all bytes of a chunk lead behind it
pub after_all : (bytes : List ℕ) (more : ℕ) → length bytes ≡ more + 1 → after (in_bytes more) bytes ≡ bytes_end
after_all [] more e = absurd (omega arith)
after_all (b ∷ []) more e =
    after-cons (in_bytes more) b [] ∙ after-nil (bytes_step more) ∙ cond-true (eqb more 0) bytes_end (in_bytes (more - 1)) (eq-eqb more 0 (omega arith))
after_all (b ∷ c ∷ bytes) more e =
    after-cons (in_bytes more) b (c ∷ bytes)
    ∙ ap (λ p. after p (c ∷ bytes)) (cond-false (eqb more 0) bytes_end (in_bytes (more - 1)) (ne_eqb more 0 (omega arith)))
    ∙ after_all (c ∷ bytes) (more - 1) (omega arith)

-- and fewer lead to the byte of it that follows
pub after_some : (bytes : List ℕ) (more : ℕ) → length bytes ≤ more → after (in_bytes more) bytes ≡ in_bytes (more - length bytes)
after_some [] more e = let same : more ≡ more - 0 = omega arith in after-nil (in_bytes more) ∙ ap in_bytes same
after_some (b ∷ bytes) more e =
    let same : more - 1 - length bytes ≡ more - suc (length bytes) = omega arith in
    after-cons (in_bytes more) b bytes
    ∙ ap (λ p. after p bytes) (cond-false (eqb more 0) bytes_end (in_bytes (more - 1)) (ne_eqb more 0 (omega arith)))
    ∙ after_some bytes (more - 1) (omega arith) ∙ ap in_bytes same

-- ---- what comes next

-- bytes of a chunk were taken, and the bytes up to their end lead to the place that is told
pub record IsChunkBehind (place : Place) (bytes given : List ℕ) (next : Place) (behind : List ℕ) : Type 0 where
  pub some : 0 < length given
  pub front : List ℕ
  pub parts : bytes ≡ front ++ behind
  pub leads : next ≡ after place front

-- to which place what came next leads
abbrev pub LeadsOn : Place → List ℕ → Next → Type 0
LeadsOn place bytes (chunk given next behind) = IsChunkBehind place bytes given next behind
LeadsOn place bytes (waits next) = next ≡ after place bytes
LeadsOn place bytes (ended behind) = ⊤
LeadsOn place bytes breaks = ⊤

-- one more byte in front
leads_more : (place : Place) (b : ℕ) (bytes : List ℕ) (next : Next) → LeadsOn (step place b) bytes next → LeadsOn place (b ∷ bytes) next
leads_more place b bytes (chunk given next behind) x =
    record { some = x.some; front = b ∷ x.front; parts = ap (λ (l : List ℕ). b ∷ l) x.parts; leads = x.leads ∙ sym (after-cons place b x.front) }
leads_more place b bytes (waits next) x = x ∙ sym (after-cons place b bytes)
leads_more place b bytes (ended behind) x = tt
leads_more place b bytes breaks x = tt

-- a byte of a trailer line that is noted doesn't change what comes next
next-noted : (at : InLine) (lines room : ℕ) (q : Place) (b : ℕ) (t : Taken) → (noted_line (in_section at lines room) q b t).next ≡ t.next
next-noted at lines room (in_section at' lines' room') b t = refl
next-noted at lines room q b t = refl

-- in a chunk
chunk_leads : (more b : ℕ) (bytes : List ℕ) → LeadsOn (in_bytes more) (b ∷ bytes) (of_chunk more (b ∷ bytes))
chunk_leads more b bytes =
    let bytes' = b ∷ bytes in
    let size = suc (length bytes) in
    let front = take (more + 1) bytes' in
    let all = chunk front bytes_end (drop (more + 1) bytes') in
    let some = chunk bytes' (in_bytes (more - size)) [] in
    elim (cases_lt more size) [
      | inl fits ↦
          let sized : length front ≡ more + 1 = omega (arith, length-take (more + 1) bytes') in
          subst (LeadsOn (in_bytes more) bytes') (sym (cond-true (ltb more size) all some (lt-ltb more size fits)))
          (record { some = omega arith; front = front; parts = sym (take-append-drop (more + 1) bytes'); leads = sym (after_all front more sized) })
      | inr past ↦
          subst (LeadsOn (in_bytes more) bytes') (sym (cond-false (ltb more size) all some (le-ltb more size past)))
          (record { some = omega arith; front = bytes'; parts = sym (append-nil bytes'); leads = sym (after_some bytes' more past) })
    ]

-- where no byte is
stop_leads : (place : Place) → LeadsOn place [] (stops_at place)
stop_leads done = tt
stop_leads broken = tt
stop_leads place = sym (after-nil place)

-- what comes next leads to the place that is told
pub leads_on : (bytes : List ℕ) (place : Place) → LeadsOn place bytes (take_next place bytes).next
unfolding take_next
leads_on [] place = stop_leads place
leads_on (b ∷ bytes) done = tt
leads_on (b ∷ bytes) broken = tt
leads_on (b ∷ bytes) (in_bytes more) = chunk_leads more b bytes
leads_on (b ∷ bytes) (in_section at lines room) =
    let place = in_section at lines room in
    let t = take_next (step place b) bytes in
    subst (LeadsOn place (b ∷ bytes)) (sym (next-noted at lines room (step place b) b t)) (leads_more place b bytes t.next (leads_on bytes (step place b)))
leads_on (b ∷ bytes) place = leads_more place b bytes (take_next (step place b) bytes).next (leads_on bytes (step place b))

-- where nothing comes, all bytes lead to the place that is told
pub waiting_leads : (place next : Place) (bytes : List ℕ) → (take_next place bytes).next ≡ waits next → next ≡ after place bytes
waiting_leads place next bytes e = subst (LeadsOn place bytes) e (leads_on bytes place)

-- and where bytes of a chunk come, those up to their end do
pub taken_chunk_leads : (place next : Place) (bytes given behind : List ℕ) → (take_next place bytes).next ≡ chunk given next behind
    → IsChunkBehind place bytes given next behind
taken_chunk_leads place next bytes given behind e = subst (LeadsOn place bytes) e (leads_on bytes place)
