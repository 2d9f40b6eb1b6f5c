use Rattle.std.proofs.Common.{◌<◌, length, Some, sym, ap, ◌∙◌, arith, false-eqb}
use Rattle.std.proofs.lemmas.List.{take_all}
use Rattle.std.proofs.lemmas.Bool.{cond-true}
use Rattle.words.specs.Numbers.{read_on}
use Rattle.words.proofs.Digits.{are_digits, digit_here, read_on_more, small, fits_number}
use Rattle.words.proofs.numbers.read_number.Goals as goal

pub overflow_mul-number : goal.overflow_mul-number
overflow_mul-number c = omega (arith, small _ _ (are_digits c.args.bytes.now c.if-not-all_digits.ensures) c.if-bytes-gt9.false c.loop-byte-test.true, c.loop-byte.invariant)

pub overflow_sub-byte : goal.overflow_sub-byte
overflow_sub-byte c = (digit_here _ _ (are_digits c.args.bytes.now c.if-not-all_digits.ensures) c.loop-byte-test.true).0

pub overflow_add-number : goal.overflow_add-number
overflow_add-number c =
    omega (arith, small _ _ (are_digits c.args.bytes.now c.if-not-all_digits.ensures) c.if-bytes-gt9.false c.loop-byte-test.true, c.loop-byte.invariant, digit_here _ _ (are_digits c.args.bytes.now c.if-not-all_digits.ensures) c.loop-byte-test.true)

pub loop-byte-preserved : goal.loop-byte-preserved
loop-byte-preserved c = omega (arith, read_on_more _ _ c.loop-byte-test.true, c.loop-byte.invariant)

pub returns : goal.returns
returns c =
    let some : 0 < length c.args.bytes.now = omega (arith, false-eqb _ 0 c.if-is_empty.ensures) in
    ap Some (c.loop-byte.invariant ∙ ap (read_on 0) (take_all _ _ c.loop-byte-test.false))
    ∙ sym (cond-true _ _ _ (fits_number _ (are_digits c.args.bytes.now c.if-not-all_digits.ensures) some c.if-bytes-gt9.false c.else-bytes-eq48.either))
