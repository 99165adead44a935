use Rattle.std.proofs.Common.{◌≡◌, ◌+◌, ◌*◌, ℕ, get_or, length, drop, arith, sym, ◌∙◌, ap, true, rules}
use Rattle.std.specs.Char.{digit_value, is_ascii_digit}
use Rattle.std.proofs.lemmas.Bool.{eqb-true, eqb-false}
use Rattle.std.proofs.lemmas.List.{drop_all}
use Rattle.std.proofs.lemmas.Str.{digit_value_digit}
use Rattle.h1_decoder.proofs.LengthLemmas.{length_from, length_from-digit, length_from-other, length_from-large, length_from-end, length_value-some, length_value-empty}
use Rattle.h1_decoder.proofs.value.content_length.Goals as goal

-- the value of a byte that is a digit
digit_is : (c : ℕ) → is_ascii_digit c ≡ true → digit_value c + 48 ≡ c
digit_is c digit = digit_value_digit c (search rules)

pub returns-then-is_empty : goal.returns-then-is_empty
returns-then-is_empty c = sym (length_value-empty c.args.value.now (eqb-true (length c.args.value.now) 0 (sym c.is_empty.ensures ∙ c.if-is_empty.true)))

pub loop-byte-init : goal.loop-byte-init
loop-byte-init c = record {
  so_far = length_value-some c.args.value.now (omega (arith, eqb-false (length c.args.value.now) 0 (sym c.is_empty.ensures ∙ c.if-is_empty.false)));
  fits = search rules;
}

pub returns-then-not-is_ascii_digit : goal.returns-then-not-is_ascii_digit
returns-then-not-is_ascii_digit c =
    sym (c.loop-byte.invariant.so_far ∙ length_from-other c.args.value.now c.loop-byte.byte-index c.loop-byte.length (omega arith) (sym c.is_ascii_digit.ensures.value ∙ c.if-not-is_ascii_digit.true))

pub returns-in_err-checked_mul : goal.returns-in_err-checked_mul
returns-in_err-checked_mul c =
    let text = c.args.value.now in
    let i = c.loop-byte.byte-index in
    let n = c.loop-byte.length in
    let digit = sym c.is_ascii_digit.ensures.value ∙ c.if-not-is_ascii_digit.false in
    c.from_residual.ensures
    ∙ sym (c.loop-byte.invariant.so_far ∙ length_from-digit text i n (omega arith) digit
    ∙ length_from-large (n * 10 + digit_value (get_or text i 0)) (drop (i + 1) text) (omega (arith, c.in_err-checked_mul.ensures)))

pub returns-in_err-length : goal.returns-in_err-length
returns-in_err-length c =
    let text = c.args.value.now in
    let i = c.loop-byte.byte-index in
    let n = c.loop-byte.length in
    let digit = sym c.is_ascii_digit.ensures.value ∙ c.if-not-is_ascii_digit.false in
    c.from_residual-in_err-length.ensures
    ∙ sym (c.loop-byte.invariant.so_far ∙ length_from-digit text i n (omega arith) digit
    ∙ length_from-large (n * 10 + digit_value (get_or text i 0)) (drop (i + 1) text)
    (omega (arith, digit_is (get_or text i 0) digit, c.in_ok-checked_mul.ensures.1, c.in_err-length.ensures)))

pub loop-byte-preserved : goal.loop-byte-preserved
loop-byte-preserved c =
    let text = c.args.value.now in
    let i = c.loop-byte.byte-index in
    let n = c.loop-byte.length in
    let digit = sym c.is_ascii_digit.ensures.value ∙ c.if-not-is_ascii_digit.false in
    let next : c.in_ok-length.length ≡ n * 10 + digit_value (get_or text i 0) =
    omega (arith, digit_is (get_or text i 0) digit, c.in_ok-checked_mul.ensures.1, c.in_ok-length.ensures.1) in
    record {
      so_far = c.loop-byte.invariant.so_far ∙ length_from-digit text i n (omega arith) digit ∙ ap (λ m. length_from m (drop (i + 1) text)) (sym next);
      fits = search rules;
    }

pub returns : goal.returns
returns c =
    let text = c.args.value.now in
    sym (c.loop-byte.invariant.so_far ∙ ap (length_from c.loop-byte.length) (drop_all c.loop-byte.byte-index text (omega arith))
    ∙ length_from-end c.loop-byte.length c.loop-byte.invariant.fits)
