-- What is held of the input, and the heads that stand ahead in it.
use Rattle.std.proofs.Common.{◌≡◌, ℕ, zero, suc, ◌-◌, ◌<◌, ◌≤◌, Bool, true, false, not, List, ◌++◌, length, take, drop, slice_range, Option, Some, None, inl, inr, refl, sym, ap, ◌∙◌, subst, arith, length-append, length-drop}
use Rattle.std.specs.Prelude.{is_some, ◌⊎◌, if◌then◌else◌}
use Rattle.std.proofs.lemmas.Bool.{cases_Bool, true≢false, cases_lt}
use Rattle.std.proofs.lemmas.List.{take-append-le, take_all}
use Rattle.bytes.proofs.Ranges.{drop-take_less}
use Rattle.model_h1.specs.HeadPiece.{IsHeadPiece, HasNoHeadPiece}
use Rattle.model_h1.specs.Request.{Head, Fault, has_body, Reading, head_is, faulty}
use Rattle.model_h1.specs.RequestHead.{IsReading}
use Rattle.model_h1.specs.Event as on
use Rattle.model_state.specs.Ahead.{is_bodiless, AreAhead}
use Rattle.model_state.specs.Body.{pass_rest}
use Rattle.model_state.specs.Kept.{Rest, no_rest, raw_rest, fixed_rest, chunks_rest, frames_rest, is_nothing}
use Rattle.model_state.specs.Pull.{Pulled, finishes, IsPull}
use Rattle.h1_payload.specs.Rests.{IsPulled}
use Rattle.h1_payload.specs.declared.pulled.Pulled.{Pulled as Answer}
use Rattle.h1_decoder.specs.HeadItem.{SaysHead}
use Rattle.h1_decoder.specs.declared.decoder.HeadItem.{HeadItem}
use Rattle.h1_decoder.specs.declared.scan.HeadScan.{HeadScan}
use Rattle.h1_decoder.specs.declared.scan.HeadScan.TheVariants.{Open, Piece}
use Rattle.h1_connection.specs.Ahead.{heads_in, nothing_counted, IsCountBehind}
use Rattle.h1_connection.specs.Incoming.{Incoming, IsFound, IsFoundIn, IsHeadIn, IsHeadOf, IsNextHead, IsNextFault, IsPassedIn, IsPassedHead}
use Rattle.h1_connection.specs.Stock.{Stock, is_bare, IsPassedTo, HandsOut, stock_of, IsStocked}
use Rattle.h1_connection.specs.declared.connection.ahead.Count.{Count}
use Rattle.h1_connection.proofs.AheadLemmas.{heads_zero, heads_none, heads_one, with_behind, AreCounted, none_behind, heads_read, head_in_first, slice_in_first, none_in_none, none_in_first}

-- ---- more bytes

-- those that were counted stand in front still
pub still_counted : (count : Count) (i j : Incoming) (more : List ℕ) → IsStocked count i → j.unread ≡ i.unread ++ more
    → (heads_in count.left (take count.mark j.unread) ≡ heads_in count.left (take count.mark i.unread)) × IsStocked count j
still_counted count i j more stocked is = (
  ap (λ (l : List ℕ). heads_in count.left (take count.mark l)) is ∙ ap (heads_in count.left) (take-append-le count.mark i.unread more stocked.within),
  record { within = omega (arith, stocked.within, ap (λ (l : List ℕ). length l) is, length-append i.unread more); few = stocked.few },
)

-- the same bytes
pub same_counted : (count : Count) (i j : Incoming) → IsStocked count i → j.unread ≡ i.unread
    → (heads_in count.left (take count.mark j.unread) ≡ heads_in count.left (take count.mark i.unread)) × IsStocked count j
same_counted count i j stocked is = (
  ap (λ (l : List ℕ). heads_in count.left (take count.mark l)) is,
  record { within = omega (arith, stocked.within, ap (λ (l : List ℕ). length l) is); few = stocked.few },
)

-- ---- none is counted

nothing_count : (after : Count) (rest : List ℕ) → after ≡ nothing_counted → heads_in after.left (take after.mark rest) ≡ 0
nothing_count after rest is = ap (λ (c : Count). heads_in c.left (take c.mark rest)) is ∙ heads_zero (take 0 rest)

-- in what is held
pub nothing_stocked : (after : Count) (i : Incoming) → after ≡ nothing_counted
    → (stock_of after i ≡ record { unread = i.unread; piece = i.piece; ahead = 0 }) × IsStocked after i
nothing_stocked after i is = (
  ap (λ (n : ℕ). record { unread = i.unread; piece = i.piece; ahead = n }) (nothing_count after i.unread is),
  record { within = omega (arith, ap (λ (c : Count). c.mark) is); few = omega (arith, ap (λ (c : Count). c.left) is) },
)

-- ---- a body's bytes

-- of a body that is not yet passed none is counted, and where nothing is left of one the bytes are the same
body_counted : (count after : Count) (i j : Incoming) (nothing : Bool) → IsStocked count i → after ≡ (if nothing then count else nothing_counted)
    → (nothing ≡ false → heads_in count.left (take count.mark i.unread) ≡ 0) → (nothing ≡ true → j.unread ≡ i.unread)
    → (heads_in after.left (take after.mark j.unread) ≡ heads_in count.left (take count.mark i.unread)) × IsStocked after j
body_counted count after i j true stocked is none same =
    let at = same_counted count i j stocked (same refl) in (
      ap (λ (c : Count). heads_in c.left (take c.mark j.unread)) is ∙ at.0,
      subst (λ (c : Count). IsStocked c j) (sym is) at.1,
    )
body_counted count after i j false stocked is none same = (nothing_count after j.unread is ∙ sym (none refl), (nothing_stocked after j is).1)

-- it is passed
pub pass_nothing : (ended : Bool) (rest : Rest) (bytes : List ℕ) → is_nothing rest ≡ true → (pass_rest ended rest bytes).unread ≡ bytes
pass_nothing ended no_rest bytes nothing = refl
pass_nothing ended raw_rest bytes nothing = absurd (cc nothing)
pass_nothing ended (fixed_rest n) bytes nothing = absurd (cc nothing)
pass_nothing ended (chunks_rest place section) bytes nothing = absurd (cc nothing)
pass_nothing ended (frames_rest under_way limit) bytes nothing = absurd (cc nothing)

pub passes_counted : (ended : Bool) (rest : Rest) (count after : Count) (i j : Incoming) (t : Stock) (nothing : Bool) → stock_of count i ≡ t → IsStocked count i → nothing ≡ is_nothing rest
    → after ≡ (if nothing then count else nothing_counted) → t.piece ≡ None → (is_nothing rest ≡ false → t.ahead ≡ 0)
    → j ≡ record { unread = (pass_rest ended rest i.unread).unread; piece = None }
    → (stock_of after j ≡ record t { unread = (pass_rest ended rest t.unread).unread }) × IsStocked after j
passes_counted ended rest count after i j t nothing view stocked nothing_is is off none j_is =
    let unread : j.unread ≡ (pass_rest ended rest i.unread).unread = ap (λ (k : Incoming). k.unread) j_is in
    let at = body_counted count after i j nothing stocked is (λ left. ap (λ (u : Stock). u.ahead) view ∙ none (sym nothing_is ∙ left))
    (λ empty. unread ∙ pass_nothing ended rest i.unread (sym nothing_is ∙ empty)) in
    let piece : j.piece ≡ t.piece = ap (λ (k : Incoming). k.piece) j_is ∙ sym off in (
      (λ k. record {
        unread = (unread ∙ ap (λ (u : Stock). (pass_rest ended rest u.unread).unread) view) k;
        piece = piece k;
        ahead = (at.0 ∙ ap (λ (u : Stock). u.ahead) view) k;
      }),
      at.1,
    )

-- and pulled
pull_nothing : (ended : Bool) (rest later : Rest) (answer : Answer) (bytes behind : List ℕ) → is_nothing rest ≡ true
    → ((p : Pulled) → IsPull ended rest bytes p → IsPulled p answer later behind) → behind ≡ bytes
pull_nothing ended no_rest later answer bytes behind nothing says = (says (finishes on.body_ended no_rest bytes) refl).unread_is
pull_nothing ended raw_rest later answer bytes behind nothing says = absurd (cc nothing)
pull_nothing ended (fixed_rest n) later answer bytes behind nothing says = absurd (cc nothing)
pull_nothing ended (chunks_rest place section) later answer bytes behind nothing says = absurd (cc nothing)
pull_nothing ended (frames_rest under_way limit) later answer bytes behind nothing says = absurd (cc nothing)

pub pulls_counted : (ended : Bool) (rest later : Rest) (answer : Answer) (count after : Count) (i j : Incoming) (t : Stock) (nothing : Bool) → stock_of count i ≡ t → IsStocked count i
    → nothing ≡ is_nothing rest → after ≡ (if nothing then count else nothing_counted) → (is_nothing rest ≡ false → t.ahead ≡ 0)
    → ((p : Pulled) → IsPull ended rest i.unread p → IsPulled p answer later j.unread)
    → (heads_in after.left (take after.mark j.unread) ≡ t.ahead) × IsStocked after j
pulls_counted ended rest later answer count after i j t nothing view stocked nothing_is is none says =
    let at = body_counted count after i j nothing stocked is (λ left. ap (λ (u : Stock). u.ahead) view ∙ none (sym nothing_is ∙ left))
    (λ empty. pull_nothing ended rest later answer i.unread j.unread (sym nothing_is ∙ empty) says) in
    (at.0 ∙ ap (λ (u : Stock). u.ahead) view, at.1)

-- where nothing was
pub stays_counted : (rest : Rest) (count after : Count) (i j : Incoming) (t : Stock) (nothing : Bool) → stock_of count i ≡ t → IsStocked count i → nothing ≡ is_nothing rest
    → after ≡ (if nothing then count else nothing_counted) → (is_nothing rest ≡ false → t.ahead ≡ 0) → j ≡ i → (stock_of after j ≡ t) × IsStocked after j
stays_counted rest count after i j t nothing view stocked nothing_is is none same =
    let at = body_counted count after i j nothing stocked is (λ left. ap (λ (u : Stock). u.ahead) view ∙ none (sym nothing_is ∙ left))
    (λ _. ap (λ (k : Incoming). k.unread) same) in (
      (λ k. record { unread = (same k).unread; piece = (same k).piece; ahead = at.0 k }) ∙ view,
      at.1,
    )

-- ---- where no head is there

none_there : (i : Incoming) (piece : Option HeadScan) → IsFoundIn i.unread piece → IsHeadIn i piece None → is_some piece ≡ true → HasNoHeadPiece i.unread
none_there i None found none searched = absurd (true≢false (sym searched))
none_there i (Some Open) found none searched = found
none_there i (Some (Piece start end)) found none searched = absurd (cc none.1)

pub none_counted : (count : Count) (i : Incoming) → IsFound i → IsHeadOf i None → is_some i.piece ≡ true → heads_in count.left (take count.mark i.unread) ≡ 0
none_counted count i found none searched = heads_none count.left (take count.mark i.unread) (none_in_none count.mark i.unread (none_there i i.piece found none searched))

-- ---- the head in front

-- whether it was counted
counted_or_not : (count : Count) (end : ℕ) → ((0 < count.left) × (end ≤ count.mark)) ⊎ ((count.left ≡ 0) ⊎ (count.mark < end))
counted_or_not count end = by_left count.left
  where
    by_left : (left : ℕ) → ((0 < left) × (end ≤ count.mark)) ⊎ ((left ≡ 0) ⊎ (count.mark < end))
    by_left zero = inr (inl refl)
    by_left (suc left) = elim (cases_lt count.mark end) [
      | inl far ↦ inr (inr far)
      | inr near ↦ inl (omega arith, near)
    ]

-- where it wasn't, none is
uncounted : (count : Count) (bytes : List ℕ) (start end : ℕ) → IsHeadPiece bytes start end → (count.left ≡ 0) ⊎ (count.mark < end)
    → heads_in count.left (take count.mark bytes) ≡ 0
uncounted count bytes start end here (inl none) = ap (λ (n : ℕ). heads_in n (take count.mark bytes)) none ∙ heads_zero (take count.mark bytes)
uncounted count bytes start end here (inr far) = heads_none count.left (take count.mark bytes) (none_in_first count.mark bytes start end here far)

-- where it was, those behind it are
counted : (count : Count) (bytes : List ℕ) (start end : ℕ) (what : Reading) → IsHeadPiece bytes start end → IsReading (slice_range bytes start end) what → 0 < count.left → end ≤ count.mark
    → heads_in count.left (take count.mark bytes) ≡ with_behind (count.left - 1) (is_bodiless what) (take (count.mark - end) (drop end bytes))
counted count bytes start end what here reads some near =
    let first = take count.mark bytes in
    let there = head_in_first count.mark bytes start end here near in
    let read = subst (λ (l : List ℕ). IsReading l what) (sym (slice_in_first count.mark bytes start end here near)) reads in
    let left : count.left ≡ suc (count.left - 1) = omega (arith, some) in
    ap (λ (n : ℕ). heads_in n first) left ∙ heads_one (count.left - 1) first start end what there read
    ∙ ap (λ (l : List ℕ). with_behind (count.left - 1) (is_bodiless what) l) (drop-take_less bytes end count.mark near)

-- ---- it is handed out

-- what its body tells
bodiless_is : (item : HeadItem) (h : Head) → SaysHead item h → is_bare item ≡ is_bodiless (head_is h)
bodiless_is item h says = ap (λ k. not (has_body k)) says.body

-- What becomes of the number: of bytes in front of which a head stands, and of those behind it.
pub record Goes (was now : ℕ) (bodiless : Bool) (rest : List ℕ) : Type 0 where
  pub fewer : (n : ℕ) → was ≡ suc n → now ≡ n
  pub anew : was ≡ 0 → AreCounted 16 bodiless rest now
  pub behind : 0 < now → bodiless ≡ true

behind_body : (count after : Count) (bytes : List ℕ) (start end : ℕ) (h : Head) → IsHeadPiece bytes start end → IsReading (slice_range bytes start end) (head_is h)
    → has_body h.body ≡ true → after ≡ nothing_counted
    → Goes (heads_in count.left (take count.mark bytes)) (heads_in after.left (take after.mark (drop end bytes))) (is_bodiless (head_is h)) (drop end bytes)
behind_body count after bytes start end h here reads body is =
    record {
      fewer = λ n was. none ∙ last n was (counted_or_not count end);
      anew = λ _. subst (λ (b : Bool). AreCounted 16 b (drop end bytes) (heads_in after.left (take after.mark (drop end bytes)))) (sym bodied)
          (subst (λ (n : ℕ). AreCounted 16 false (drop end bytes) n) (sym none) (none_behind 16 (drop end bytes)));
      behind = λ some. absurd (omega (arith, some, none));
    }
  where
    none : heads_in after.left (take after.mark (drop end bytes)) ≡ 0
    none = nothing_count after (drop end bytes) is

    bodied : is_bodiless (head_is h) ≡ false
    bodied = ap not body

    last : (n : ℕ) → heads_in count.left (take count.mark bytes) ≡ suc n → ((0 < count.left) × (end ≤ count.mark)) ⊎ ((count.left ≡ 0) ⊎ (count.mark < end)) → 0 ≡ n
    last n was (inl in_count) =
        let one = counted count bytes start end (head_is h) here reads in_count.0 in_count.1
        ∙ ap (λ (b : Bool). with_behind (count.left - 1) b (take (count.mark - end) (drop end bytes))) bodied in
        omega (arith, was, one)
    last n was (inr out) = absurd (omega (arith, was, uncounted count bytes start end here out))

behind_bodiless : (count after : Count) (bytes : List ℕ) (start end : ℕ) (h : Head) → IsHeadPiece bytes start end → IsReading (slice_range bytes start end) (head_is h)
    → has_body h.body ≡ false → IsCountBehind count end (length (drop end bytes)) (has_body h.body) after
    → ((0 < count.left) × (end ≤ count.mark)) ⊎ ((count.left ≡ 0) ⊎ (count.mark < end))
    → Goes (heads_in count.left (take count.mark bytes)) (heads_in after.left (take after.mark (drop end bytes))) (is_bodiless (head_is h)) (drop end bytes)
behind_bodiless count after bytes start end h here reads none goes (inl in_count) =
    let bare : is_bodiless (head_is h) ≡ true = ap not none in
    let is = goes.fewer none in_count.0 in_count.1 in
    let one : heads_in count.left (take count.mark bytes) ≡ suc (heads_in (count.left - 1) (take (count.mark - end) (drop end bytes))) =
    counted count bytes start end (head_is h) here reads in_count.0 in_count.1
    ∙ ap (λ (b : Bool). with_behind (count.left - 1) b (take (count.mark - end) (drop end bytes))) bare in
    let now : heads_in after.left (take after.mark (drop end bytes)) ≡ heads_in (count.left - 1) (take (count.mark - end) (drop end bytes)) =
    ap (λ (c : Count). heads_in c.left (take c.mark (drop end bytes))) is in
    record {
      fewer = λ n was. omega (arith, was, one, now);
      anew = λ was. absurd (omega (arith, was, one));
      behind = λ _. bare;
    }
behind_bodiless count after bytes start end h here reads none goes (inr out) =
    let bare : is_bodiless (head_is h) ≡ true = ap not none in
    let rest = drop end bytes in
    let zero_is = uncounted count bytes start end here out in
    let now : heads_in after.left (take after.mark rest) ≡ heads_in 16 rest =
    ap (λ (c : Count). heads_in c.left (take c.mark rest)) (goes.anew none out) ∙ ap (heads_in 16) (take_all (length rest) rest (omega arith)) in
    record {
      fewer = λ n was. absurd (omega (arith, was, zero_is));
      anew = λ _. subst (λ (b : Bool). AreCounted 16 b rest (heads_in after.left (take after.mark rest))) (sym bare)
          (subst (λ (n : ℕ). AreCounted 16 true rest n) (sym now) (heads_read 16 rest));
      behind = λ _. bare;
    }

goes_behind : (count after : Count) (bytes : List ℕ) (start end : ℕ) (h : Head) → IsHeadPiece bytes start end → IsReading (slice_range bytes start end) (head_is h)
    → IsCountBehind count end (length (drop end bytes)) (has_body h.body) after
    → Goes (heads_in count.left (take count.mark bytes)) (heads_in after.left (take after.mark (drop end bytes))) (is_bodiless (head_is h)) (drop end bytes)
goes_behind count after bytes start end h here reads goes =
    elim (cases_Bool (has_body h.body)) [
      | inl body ↦ behind_body count after bytes start end h here reads body (goes.body body)
      | inr none ↦ behind_bodiless count after bytes start end h here reads none goes (counted_or_not count end)
    ]

-- the count lies within the bytes behind it
within_behind : (count after : Count) (size len : ℕ) (body : Bool) → count.left ≤ 16 → (0 < count.left → size ≤ count.mark → count.mark - size ≤ len) → IsCountBehind count size len body after
    → (after.mark ≤ len) × (after.left ≤ 16)
within_behind count after size len true few fits goes =
    let is = goes.body refl in (omega (arith, ap (λ (c : Count). c.mark) is), omega (arith, ap (λ (c : Count). c.left) is))
within_behind count after size len false few fits goes =
    elim (counted_or_not count size) [
      | inl in_count ↦
          let is = goes.fewer refl in_count.0 in_count.1 in
          let less = fits in_count.0 in_count.1 in
          (omega (arith, less, ap (λ (c : Count). c.mark) is), omega (arith, few, ap (λ (c : Count). c.left) is))
      | inr out ↦
          let is = goes.anew refl out in
          (omega (arith, ap (λ (c : Count). c.mark) is), omega (arith, ap (λ (c : Count). c.left) is))
    ]

-- so many bytes were passed
size_of : (i after : Incoming) (start end size : ℕ) → IsHeadPiece i.unread start end → after ≡ record { unread = drop end i.unread; piece = None }
    → size ≡ length i.unread - length after.unread → size ≡ end
size_of i after start end size here is size_is =
    omega (arith, size_is, ap (λ (j : Incoming). length j.unread) is, length-drop end i.unread, here.in_range)

pub passed_less : (i : Incoming) (piece : Option HeadScan) (after : Incoming) → IsPassedIn i piece after → length after.unread ≤ length i.unread
passed_less i (Some (Piece start end)) after passed = omega (arith, ap (λ (j : Incoming). length j.unread) passed, length-drop end i.unread)
passed_less i (Some Open) after passed = absurd passed
passed_less i None after passed = absurd passed

handed_in : (count counts : Count) (i after : Incoming) (piece : Option HeadScan) (item : HeadItem) (head : List ℕ) (h : Head) (size : ℕ) (body : Bool) → IsStocked count i → i.piece ≡ piece
    → IsHeadIn i piece (Some head) → IsReading head (head_is h) → SaysHead item h → IsPassedIn i piece after → size ≡ length i.unread - length after.unread
    → body ≡ has_body h.body → IsCountBehind count size (length after.unread) body counts
    → HandsOut (stock_of count i) item (stock_of counts after) × IsStocked counts after
handed_in count counts i after None item head h size body stocked is is_head reads says passed size_is body_is goes = absurd passed
handed_in count counts i after (Some Open) item head h size body stocked is is_head reads says passed size_is body_is goes = absurd passed
handed_in count counts i after (Some (Piece start end)) item head h size body stocked is is_head reads says passed size_is body_is goes = (
  record {
    head = head;
    is_head = subst (λ (p : Option HeadScan). IsHeadIn i p (Some head)) (sym is) is_head;
    h = h;
    reads = reads;
    says = says;
    passed = subst (λ (p : Option HeadScan). IsPassedTo (stock_of count i) p (stock_of counts after)) (sym is) (unread, ap (λ (j : Incoming). j.piece) passed);
    counts = record {
      fewer = λ n was. sym same ∙ number.fewer n was;
      decoded = λ was. decoded (number.anew was);
    };
    behind = λ some. bare ∙ number.behind (omega (arith, some, same));
  },
  record { within = within.0; few = within.1 },
)
  where
    rest : List ℕ
    rest = drop end i.unread

    unread : after.unread ≡ rest
    unread = ap (λ (j : Incoming). j.unread) passed

    head_at : head ≡ slice_range i.unread start end
    head_at = cc is_head.1

    at : IsReading (slice_range i.unread start end) (head_is h)
    at = subst (λ (l : List ℕ). IsReading l (head_is h)) head_at reads

    goes_at : IsCountBehind count end (length rest) (has_body h.body) counts
    goes_at =
        let ended : size ≡ end = size_of i after start end size is_head.0 passed size_is in
        subst (λ (b : Bool). IsCountBehind count end (length rest) b counts) body_is
        (subst (λ (l : List ℕ). IsCountBehind count end (length l) body counts) unread
        (subst (λ (n : ℕ). IsCountBehind count n (length after.unread) body counts) ended goes))

    number : Goes (heads_in count.left (take count.mark i.unread)) (heads_in counts.left (take counts.mark rest)) (is_bodiless (head_is h)) rest
    number = goes_behind count counts i.unread start end h is_head.0 at goes_at

    same : heads_in counts.left (take counts.mark rest) ≡ heads_in counts.left (take counts.mark after.unread)
    same = ap (λ (l : List ℕ). heads_in counts.left (take counts.mark l)) (sym unread)

    bare : is_bare item ≡ is_bodiless (head_is h)
    bare = bodiless_is item h says

    decoded : AreCounted 16 (is_bodiless (head_is h)) rest (heads_in counts.left (take counts.mark rest))
        → (readings : List Reading) × (heads_in counts.left (take counts.mark after.unread) ≡ length readings)
        × ((hold_size : ℕ) → length i.unread ≤ hold_size → AreAhead hold_size 16 (is_bare item) after.unread readings)
    decoded are = (
      are.readings,
      sym same ∙ are.count,
      λ hold fits.
          subst (λ (b : Bool). AreAhead hold 16 b after.unread are.readings) (sym bare)
          (subst (λ (l : List ℕ). AreAhead hold 16 (is_bodiless (head_is h)) l are.readings) (sym unread) (are.are hold (omega (arith, length-drop end i.unread, fits)))),
    )

    within : (counts.mark ≤ length after.unread) × (counts.left ≤ 16)
    within =
        let long : length rest ≡ length i.unread - end = length-drop end i.unread in
        let both = within_behind count counts end (length rest) (has_body h.body) stocked.few (λ some near. omega (arith, stocked.within, long)) goes_at in
        (omega (arith, both.0, ap (λ (l : List ℕ). length l) unread), both.1)

pub handed : (count counts : Count) (i after : Incoming) (item : HeadItem) (size : ℕ) (body : Bool) → IsStocked count i → (next : IsNextHead i item) → IsPassedHead i after
    → size ≡ length i.unread - length after.unread → body ≡ has_body next.2.0.body → IsCountBehind count size (length after.unread) body counts
    → HandsOut (stock_of count i) item (stock_of counts after) × IsStocked counts after
handed count counts i after item size body stocked next passed size_is body_is goes =
    handed_in count counts i after i.piece item next.0 next.2.0 size body stocked refl next.1 next.2.1 next.2.2 passed size_is body_is goes

-- ---- it is refused

-- one that is refused is the last
fault_in : (count : Count) (i : Incoming) (piece : Option HeadScan) (head : List ℕ) (f : Fault) → IsHeadIn i piece (Some head) → IsReading head (faulty f)
    → heads_in count.left (take count.mark i.unread) ≤ 1
fault_in count i None head f is_head reads = absurd (cc is_head)
fault_in count i (Some Open) head f is_head reads = absurd (cc is_head)
fault_in count i (Some (Piece start end)) head f is_head reads =
    let same : head ≡ slice_range i.unread start end = cc is_head.1 in
    let at : IsReading (slice_range i.unread start end) (faulty f) = subst (λ (l : List ℕ). IsReading l (faulty f)) same reads in
    elim (counted_or_not count end) [
      | inl in_count ↦ omega (arith, counted count i.unread start end (faulty f) is_head.0 at in_count.0 in_count.1)
      | inr out ↦ omega (arith, uncounted count i.unread start end is_head.0 out)
    ]

pub fault_last : (count : Count) (i : Incoming) (f : Fault) → IsNextFault i f → heads_in count.left (take count.mark i.unread) ≤ 1
fault_last count i f next = fault_in count i i.piece next.0 f next.1 next.2
