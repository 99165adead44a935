-- The search for a head in the bytes that are held.
use Rattle.std.proofs.Math.Seq.{take-append-add}
use Rattle.std.proofs.lemmas.Grind.{common_steps}
use Rattle.std.proofs.lemmas.List.{take_all}
use Rattle.std.proofs.Common.{◌≡◌, ℕ, zero, suc, ◌+◌, ◌≤◌, ◌-◌, true, false, List, [], ◌∷◌, ◌++◌, length, take, drop, Option, Some, None, inl, inr, refl, sym, ap, ◌∙◌, subst, arith, append-nil, append_assoc}
use Rattle.std.specs.Prelude.{is_some, slice_range, ◌⊎◌, IsTrue}
use Rattle.model_h1.specs.HeadPiece.{IsHeadPiece, HasNoHeadPiece}
use Rattle.bytes.proofs.Ranges.{slice_range_front}
use Rattle.model_h1.proofs.HeadPieceLemmas.{head_piece_append}
use Rattle.h1_decoder.specs.declared.scan.HeadScan.{HeadScan}
use Rattle.h1_decoder.specs.declared.scan.HeadScan.TheVariants.{Open, Piece}
use Rattle.h1_decoder.specs.HeadPosition.{HeadPosition, HasScanned}
use Rattle.h1_decoder.specs.HeadScan.{AnswersScan}
use Rattle.h1_decoder.proofs.HeadPieceLemmas.{HasScanned-append, AnswersScan-found}
use Rattle.h1_connection.specs.Scan.{scan_of}
use Rattle.h1_connection.specs.Incoming.{Incoming, piece_of, incoming, IsFoundIn, IsHeadIn, IsHeadOf, IsPieceOf, IsSearchedTo, IsSearched, CanScan, CanGoOn, HasSearched, GoesOnTo, GoesOnIn, IsCaughtUp, IsWhole, IsPassedIn, IsPassedHead, is_coming_in}
use Rattle.h1_connection.specs.declared.connection.head_search.Scan.{Scan}
use Rattle.h1_connection.specs.declared.connection.head_search.Search.{Search}
use Rattle.h1_connection.specs.declared.connection.head_search.Search.TheVariants.{Off, Due, Done}
use Rattle.h1_connection.proofs.ScanLemmas.{scan_answers}

-- ---- what a search finds

-- two answers are the same
one_answer : (bytes : List ℕ) (x y : HeadScan) → AnswersScan bytes x → AnswersScan bytes y → x ≡ y
one_answer bytes Open Open a b = refl
one_answer bytes Open (Piece start end) a b = absurd (a start end b)
one_answer bytes (Piece start end) y a b = sym (AnswersScan-found bytes y b start end a)

-- so any is the one that is found
pub scan_is : (bytes : List ℕ) (answer : HeadScan) → AnswersScan bytes answer → answer ≡ scan_of bytes
scan_is bytes answer a = one_answer bytes answer (scan_of bytes) a (scan_answers bytes)

-- ---- more bytes

can_scan : (front bytes more : List ℕ) (scanner : HeadPosition) (piece : HeadScan) → IsSearchedTo front bytes scanner piece → CanScan scanner piece (bytes ++ more)
can_scan front bytes more scanner Open searched = HasScanned-append scanner bytes more searched.1
can_scan front bytes more scanner (Piece start end) searched = tt

-- the search can go on in them
go_on : (front bytes more : List ℕ) (search : Search) → IsSearched front bytes search → CanGoOn search (bytes ++ more)
go_on front bytes more Off searched = tt
go_on front bytes more Due searched = tt
go_on front bytes more (Done scan) searched = can_scan front bytes more scan.scanner scan.piece searched

pub can_go_on : (front bytes more grown : List ℕ) (search : Search) → grown ≡ bytes ++ more → IsSearched front bytes search → CanGoOn search grown
can_go_on front bytes more grown search is searched = subst (λ (l : List ℕ). CanGoOn search l) (sym is) (go_on front bytes more search searched)

-- what a search in bytes with nothing cut off in front has found
found_open : (bytes : List ℕ) (scanner : HeadPosition) (piece : HeadScan) → AnswersScan bytes piece → HasScanned scanner bytes → IsSearchedTo [] bytes scanner piece
found_open bytes scanner Open answer scanned = (refl, scanned, answer)
found_open bytes scanner (Piece start end) answer scanned = (answer, inl refl)

pub done_searched : (front bytes : List ℕ) (after : Search) → front ≡ [] → HasSearched bytes after → IsSearched front bytes after
done_searched front bytes Off empty done = absurd done
done_searched front bytes Due empty done = absurd done
done_searched front bytes (Done scan) empty done =
    subst (λ (f : List ℕ). IsSearchedTo f bytes scan.scanner scan.piece) (sym empty) (found_open bytes scan.scanner scan.piece done.0 done.1)

grown_piece : (front bytes more : List ℕ) (start end : ℕ) → IsHeadPiece (front ++ bytes) start end → IsHeadPiece (front ++ (bytes ++ more)) start end
grown_piece front bytes more start end here =
    subst (λ (l : List ℕ). IsHeadPiece l start end) (simp append_assoc) (head_piece_append (front ++ bytes) more start end here)

goes_to : (front bytes more : List ℕ) (scan : Scan) (piece : HeadScan) (after : Search) → scan.piece ≡ piece → IsSearchedTo front bytes scan.scanner piece
    → GoesOnTo scan piece (bytes ++ more) after → IsSearched front (bytes ++ more) after
goes_to front bytes more scan Open after is searched goes = done_searched front (bytes ++ more) after searched.0 goes
goes_to front bytes more scan (Piece start end) after is searched goes =
    subst (λ (s : Search). IsSearched front (bytes ++ more) s) (sym goes)
    (subst (λ (p : HeadScan). IsSearchedTo front (bytes ++ more) scan.scanner p) (sym is) (grown_piece front bytes more start end searched.0, searched.1))

goes : (front bytes more : List ℕ) (search after : Search) → IsSearched front bytes search → GoesOnIn search (bytes ++ more) after → IsSearched front (bytes ++ more) after
goes front bytes more Off after searched on = subst (λ (s : Search). IsSearched front (bytes ++ more) s) (sym on) searched
goes front bytes more Due after searched on = subst (λ (s : Search). IsSearched front (bytes ++ more) s) (sym on) searched
goes front bytes more (Done scan) after searched on = goes_to front bytes more scan scan.piece after refl searched on

-- and is one in them
pub still_searched : (front bytes more grown : List ℕ) (search after : Search) → grown ≡ bytes ++ more → IsSearched front bytes search → GoesOnIn search grown after
    → IsSearched front grown after
still_searched front bytes more grown search after is searched on =
    subst (λ (l : List ℕ). IsSearched front l after) (sym is) (goes front bytes more search after searched (subst (λ (l : List ℕ). GoesOnIn search l after) is on))

-- a head is searched for behind more bytes where one was before
done_has : (bytes all : List ℕ) (after : Search) → HasSearched bytes after → is_some (piece_of all after) ≡ true
done_has bytes all Off done = absurd done
done_has bytes all Due done = absurd done
done_has bytes all (Done scan) done = refl

goes_to_has : (bytes all : List ℕ) (scan : Scan) (piece : HeadScan) (after : Search) → GoesOnTo scan piece bytes after → is_some (piece_of all after) ≡ true
goes_to_has bytes all scan Open after goes = done_has bytes all after goes
goes_to_has bytes all scan (Piece start end) after goes = ap (λ (s : Search). is_some (piece_of all s)) goes

pub still_has : (bytes was all : List ℕ) (search after : Search) → GoesOnIn search bytes after → is_some (piece_of all after) ≡ is_some (piece_of was search)
still_has bytes was all Off after goes = ap (λ (s : Search). is_some (piece_of all s)) goes
still_has bytes was all Due after goes = ap (λ (s : Search). is_some (piece_of all s)) goes
still_has bytes was all (Done scan) after goes = goes_to_has bytes all scan scan.piece after goes

found_to : (front bytes : List ℕ) (scanner : HeadPosition) (piece : HeadScan) → IsSearchedTo front bytes scanner piece → AnswersScan (front ++ bytes) piece
found_to front bytes scanner Open searched = subst (λ (f : List ℕ). HasNoHeadPiece (f ++ bytes)) (sym searched.0) searched.2
found_to front bytes scanner (Piece start end) searched = searched.0

-- what was found is there
pub found_of : (front bytes : List ℕ) (search : Search) → IsSearched front bytes search → IsFoundIn (front ++ bytes) (piece_of (front ++ bytes) search)
found_of front bytes Off searched = tt
found_of front bytes Due searched = scan_answers (front ++ bytes)
found_of front bytes (Done scan) searched = found_to front bytes scan.scanner scan.piece searched

-- a search that isn't off finds something or nothing
pub finds : (bytes : List ℕ) (search : Search) → ¬ (search ≡ Off) → is_some (piece_of bytes search) ≡ true
finds bytes Off on = absurd (on refl)
finds bytes Due on = refl
finds bytes (Done scan) on = refl

-- ---- no bytes from a source

pub none_came : (bytes more grown : List ℕ) (count : ℕ) → length more ≡ count → count ≡ 0 → grown ≡ bytes ++ more → grown ≡ bytes
none_came bytes [] grown count long none is = is ∙ append-nil bytes
none_came bytes (b ∷ more) grown count long none is = absurd (omega (arith, long, none))

-- ---- a search that is due

-- one that is done isn't due
pub done_not_due : (bytes : List ℕ) (after : Search) → HasSearched bytes after → ¬ (after ≡ Due)
done_not_due bytes after done is = subst (λ (s : Search). HasSearched bytes s) is done

-- done now, it finds the same
pub done_same : (all seen : List ℕ) (after : Search) → seen ≡ all → HasSearched seen after → piece_of all after ≡ Some (scan_of all)
done_same all seen Off is done = absurd done
done_same all seen Due is done = absurd done
done_same all seen (Done scan) is done = ap (λ (p : HeadScan). Some p) (scan_is all scan.piece (subst (λ (l : List ℕ). AnswersScan l scan.piece) is done.0))

pub due_front : (front bytes : List ℕ) (search : Search) → search ≡ Due → IsSearched front bytes search → front ≡ []
due_front front bytes search is searched = subst (λ (s : Search). IsSearched front bytes s) is searched

pub due_searched : (front bytes seen : List ℕ) (search after : Search) → search ≡ Due → seen ≡ bytes → IsSearched front bytes search → HasSearched seen after
    → IsSearched front bytes after
due_searched front bytes seen search after is same searched done =
    done_searched front bytes after (due_front front bytes search is searched) (subst (λ (l : List ℕ). HasSearched l after) same done)

-- the bytes stay, and so does what is found of them
pub same_incoming : (front bytes cut rest : List ℕ) (search : Search) → cut ++ rest ≡ front ++ bytes → incoming cut rest search ≡ incoming front bytes search
same_incoming front bytes cut rest search all = ap (λ (l : List ℕ). record { unread = l; piece = piece_of l search }) all

pub due_incoming : (front bytes seen : List ℕ) (search after : Search) → search ≡ Due → seen ≡ bytes → IsSearched front bytes search → HasSearched seen after
    → incoming front bytes after ≡ incoming front bytes search
due_incoming front bytes seen search after is same searched done =
    let empty = due_front front bytes search is searched in
    let all : seen ≡ front ++ bytes = same ∙ ap (λ (f : List ℕ). f ++ bytes) (sym empty) in
    let piece : piece_of (front ++ bytes) after ≡ piece_of (front ++ bytes) search =
    done_same (front ++ bytes) seen after all done ∙ ap (piece_of (front ++ bytes)) (sym is) in
    ap (λ (p : Option HeadScan). record { unread = front ++ bytes; piece = p }) piece

-- where a search that is due is done, all is as before
caught_due : (front bytes seen : List ℕ) (search after : Search) → seen ≡ bytes → IsSearched front bytes search → IsCaughtUp search seen after
    → IsSearched front bytes after × (incoming front bytes after ≡ incoming front bytes search)
caught_due front bytes seen Off after same searched caught =
    (subst (λ (s : Search). IsSearched front bytes s) (sym caught) searched, ap (λ (s : Search). incoming front bytes s) caught)
caught_due front bytes seen Due after same searched caught =
    (due_searched front bytes seen Due after refl same searched caught, due_incoming front bytes seen Due after refl same searched caught)
caught_due front bytes seen (Done scan) after same searched caught =
    (subst (λ (s : Search). IsSearched front bytes s) (sym caught) searched, ap (λ (s : Search). incoming front bytes s) caught)

pub caught_searched : (front bytes seen : List ℕ) (search after : Search) → seen ≡ bytes → IsSearched front bytes search → IsCaughtUp search seen after → IsSearched front bytes after
caught_searched front bytes seen search after same searched caught = (caught_due front bytes seen search after same searched caught).0

pub caught_incoming : (front bytes seen : List ℕ) (search after : Search) → seen ≡ bytes → IsSearched front bytes search → IsCaughtUp search seen after
    → incoming front bytes after ≡ incoming front bytes search
caught_incoming front bytes seen search after same searched caught = (caught_due front bytes seen search after same searched caught).1

-- ---- the head

take_length : (n : ℕ) (bytes : List ℕ) → n ≤ length bytes → length (take n bytes) ≡ n
take_length n bytes fits = grind (arith, common_steps)

-- the head that was found may be cut off
pub piece_searched : (front bytes : List ℕ) (search : Search) (scan : Scan) (start end : ℕ) → search ≡ Done scan → scan.piece ≡ Piece start end
    → IsSearched front bytes search → IsPieceOf front bytes start end
piece_searched front bytes search scan start end is found searched =
    subst (λ (p : HeadScan). IsSearchedTo front bytes scan.scanner p) found (subst (λ (s : Search). IsSearched front bytes s) is searched)

-- and is the one that was found then
pub cut_searched : (front bytes cut rest : List ℕ) (search : Search) (scan : Scan) (start end : ℕ) → search ≡ Done scan → scan.piece ≡ Piece start end
    → IsSearched front bytes search → cut ++ rest ≡ front ++ bytes → (cut ≡ []) ⊎ (length cut ≡ end) → IsSearched cut rest search
cut_searched front bytes cut rest search scan start end is found searched all whole =
    let here : IsHeadPiece (cut ++ rest) start end =
    subst (λ (l : List ℕ). IsHeadPiece l start end) (sym all) (piece_searched front bytes search scan start end is found searched).0 in
    subst (λ (s : Search). IsSearched cut rest s) (sym is) (subst (λ (p : HeadScan). IsSearchedTo cut rest scan.scanner p) (sym found) (here, whole))

-- the slice of what was cut off is that of the bytes
taken_slice : (bytes : List ℕ) (start end : ℕ) → slice_range (take end bytes) start end ≡ slice_range bytes start end
taken_slice bytes start end = slice_range_front (take end bytes) bytes start end end refl (omega arith)

-- what was cut off, from its start on
pub cut_slice : (all cut : List ℕ) (start end : ℕ) → IsHeadPiece all start end → cut ≡ take end all → slice_range cut start (length cut) ≡ slice_range all start end
cut_slice all cut start end here is =
    let long : length cut ≡ end = ap length is ∙ take_length end all here.in_range in
    ap (λ (n : ℕ). slice_range cut start n) long ∙ ap (λ (l : List ℕ). slice_range l start end) is ∙ taken_slice all start end

-- which is all of it where no blank line stands before
pub from_start : (cut : List ℕ) (start : ℕ) → start ≤ 0 → cut ≡ slice_range cut start (length cut)
from_start cut zero none = sym (take_all (length cut - 0) cut (omega arith))
from_start cut (suc n) none = absurd (omega (arith, none))

-- it is the one that is found
pub head_found : (all : List ℕ) (i : Incoming) (search : Search) (scan : Scan) (start end : ℕ) → record { unread = all; piece = piece_of all search } ≡ i
    → search ≡ Done scan → scan.piece ≡ Piece start end → IsHeadPiece all start end → IsHeadOf i (Some (slice_range all start end))
head_found all i search scan start end view is found here =
    let piece : piece_of all search ≡ Some (Piece start end) = ap (piece_of all) is ∙ ap (λ (p : HeadScan). Some p) found in
    subst (λ (j : Incoming). IsHeadOf j (Some (slice_range all start end))) view
    (subst (λ (o : Option HeadScan). IsHeadIn (record { unread = all; piece = piece_of all search }) o (Some (slice_range all start end))) (sym piece) (here, refl))

-- where a search is done, or none is made, that found no whole head, none is there
pub not_found : (front bytes : List ℕ) (search : Search) → ¬ (search ≡ Due) → ((scan : Scan) → search ≡ Done scan → ⊥) → IsHeadOf (incoming front bytes search) None
not_found front bytes Off due done = refl
not_found front bytes Due due done = absurd (due refl)
not_found front bytes (Done scan) due done = absurd (done scan refl)

-- and is passed
pub passed : (front bytes none rest : List ℕ) (i : Incoming) (search after : Search) (scan : Scan) (start end : ℕ) → incoming front bytes search ≡ i
    → incoming front bytes after ≡ incoming front bytes search → after ≡ Done scan → scan.piece ≡ Piece start end → none ≡ [] → rest ≡ drop end (front ++ bytes)
    → IsPassedHead i (incoming none rest Off)
passed front bytes none rest i search after scan start end view same is found none_is rest_is =
    let piece : i.piece ≡ Some (Piece start end) =
    ap (λ (j : Incoming). j.piece) (sym view ∙ sym same) ∙ ap (piece_of (front ++ bytes)) is ∙ ap (λ (p : HeadScan). Some p) found in
    let unread : none ++ rest ≡ drop end i.unread = ap (λ (l : List ℕ). l ++ rest) none_is ∙ rest_is ∙ ap (λ (j : Incoming). drop end j.unread) view in
    subst (λ (o : Option HeadScan). IsPassedIn i o (incoming none rest Off)) (sym piece)
    (ap (λ (l : List ℕ). record { unread = l; piece = None }) unread)

-- where one is whole it was found
no_piece : (i : Incoming) (scan : Scan) (piece : HeadScan) → i.piece ≡ Some piece → scan.piece ≡ piece → ((start end : ℕ) → ¬ (scan.piece ≡ Piece start end)) → ¬ (IsWhole i)
no_piece i scan Open is found none whole =
    let not_coming : IsTrue false = subst (λ (o : Option HeadScan). IsTrue (is_coming_in o)) is whole in
    cc not_coming
no_piece i scan (Piece start end) is found none whole = none start end found

pub whole_found : (front bytes : List ℕ) (i : Incoming) (search after : Search) (scan : Scan) → incoming front bytes search ≡ i
    → incoming front bytes after ≡ incoming front bytes search → after ≡ Done scan → ((start end : ℕ) → ¬ (scan.piece ≡ Piece start end)) → ¬ (IsWhole i)
whole_found front bytes i search after scan view same is none whole =
    no_piece i scan scan.piece (ap (λ (j : Incoming). j.piece) (sym view ∙ sym same) ∙ ap (piece_of (front ++ bytes)) is) refl none whole

-- where no whole head is there
pub no_head_in : (i : Incoming) (piece : Option HeadScan) → is_coming_in piece ≡ false → IsHeadIn i piece None
no_head_in i None none = refl
no_head_in i (Some Open) none = refl
no_head_in i (Some (Piece start end)) none = absurd (cc none)

-- ---- the first bytes

-- a head that was cut off is the first
cut_to : (front bytes : List ℕ) (scanner : HeadPosition) (piece : HeadScan) → IsSearchedTo front bytes scanner piece → ¬ (front ≡ [])
    → (start : ℕ) × IsHeadPiece (front ++ bytes) start (length front)
cut_to front bytes scanner Open searched some = absurd (some searched.0)
cut_to front bytes scanner (Piece start end) (here, inl none) some = absurd (some none)
cut_to front bytes scanner (Piece start end) (here, inr whole) some = (start, subst (λ (n : ℕ). IsHeadPiece (front ++ bytes) start n) (sym whole) here)

pub cut_head : (front bytes : List ℕ) (search : Search) → IsSearched front bytes search → ¬ (front ≡ []) → (start : ℕ) × IsHeadPiece (front ++ bytes) start (length front)
cut_head front bytes Off searched some = absurd (some searched)
cut_head front bytes Due searched some = absurd (some searched)
cut_head front bytes (Done scan) searched some = cut_to front bytes scan.scanner scan.piece searched some

-- they are those that were cut off, and the first of the others
pub first_bytes : (front bytes : List ℕ) (n : ℕ) → length front ≤ n → take n (front ++ bytes) ≡ front ++ take (n - length front) bytes
first_bytes front bytes n far =
    let sum : n ≡ length front + (n - length front) = omega (arith, far) in
    ap (λ (m : ℕ). take m (front ++ bytes)) sum ∙ take-append-add front bytes (n - length front)
