use Rattle.std.proofs.lemmas.List.{places, take-take, take-append-le, length-take-le}
use Rattle.std.proofs.Common.{rules, ◌≡◌, ℕ, ◌+◌, ◌-◌, ◌≤◌, List, ◌++◌, length, take, drop, sym, ap, ◌∙◌, arith, append_assoc}
use borrow.Rule.Slice.PartMut.{put_mid, post_of}
use Rattle.bytes.proofs.Ranges.{take-append_past}
use Rattle.h1_connection.proofs.connection.filling.read_behind.Goals as goal

-- What a read gave into the part of all from a on, where all is lent of the bytes: its first n stand behind the first a.
filled : (all bytes got old : List ℕ) (a n : ℕ) → all ≡ bytes → length got ≡ length all - a → a ≤ length all → n ≤ length got → take a all ≡ old
    → take (a + n) (take (length bytes) (put_mid a (length all - a) all got ++ drop (length (put_mid a (length all - a) all got)) bytes)) ≡ old ++ take n got
filled all bytes got old a n lent room within few front =
    let after = put_mid a (length all - a) all got in
    let rest = drop (length after) bytes in
    let post = post_of a (length all - a) all in
    let size : length (take a all) ≡ a = length-take-le a all within in
    let long : length all ≡ length bytes = ap length lent in
    take-take (a + n) (length bytes) (after ++ rest) (omega (arith, few, within, room, long))
    ∙ ap (take (a + n)) (append_assoc (take a all) (got ++ post) rest)
    ∙ take-append_past (take a all) ((got ++ post) ++ rest) n (a + n) (omega (arith, size))
    ∙ ap (λ (l : List ℕ). take a all ++ take n l) (append_assoc got post rest)
    ∙ ap (λ (l : List ℕ). take a all ++ l) (take-append-le n got (post ++ rest) few)
    ∙ ap (λ (l : List ℕ). l ++ take n got) front

pub returns-in-Ok-clause-read : goal.returns-in-Ok-clause-read
returns-in-Ok-clause-read g c =
    let len = c.len-len.result in
    let n = c.in-Ok.count in
    let all = c.as_mut_slice.result.now in
    let grown = c.advance_mut.new.self.items in
    let got = c.read.new.buf in
    let old = c.args.bytes.now.items in
    let lent : all ≡ grown = c.as_mut_slice.ensures.value in
    let kept : length c.make_room.new.bytes.items ≡ len = ap length c.make_room.ensures.items ∙ sym c.len-len.ensures.value in
    let long : length all ≡ len + c.min-size.result = ap length lent ∙ c.advance_mut.ensures.len ∙ ap (λ (k : ℕ). k + c.min-size.result) kept in
    let front : take len all ≡ old =
    ap (λ (l : List ℕ). take len l) lent ∙ ap (λ (k : ℕ). take k grown) (sym kept) ∙ c.advance_mut.ensures.front ∙ c.make_room.ensures.items in
    let room : length got ≡ length all - len = search (rules, places) in (
      take n got,
      sym c.in-Ok.ensures.bound.1,
      c.truncate.ensures.items ∙ filled all grown got old len n lent room (omega (arith, long)) c.in-Ok.ensures.bound.0 front,
      c.in-Ok.ensures.bytes.0,
    )
