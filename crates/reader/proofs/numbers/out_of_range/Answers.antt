-- `reader::numbers::out_of_range` meets its contract, by how many digits there are.
use Rattle.rule.proofs.Machine.Digits.{one_digit, many_digits, leading_zero, two_digits}
use Rattle.reader.proofs.numbers.out_of_range.Goals as goal

pub returns-then-digits-eq1 : goal.returns-then-digits-eq1
returns-then-digits-eq1 c = one_digit c.args.greatest c.args.digits.now c.if-digits-eq1.true c.digit.result c.digit.ensures.0

pub returns-then-digits-ne2 : goal.returns-then-digits-ne2
returns-then-digits-ne2 c = many_digits c.args.greatest c.args.digits.now c.if-digits-eq1.false c.if-digits-ne2.true

pub returns-then-digits-eq48 : goal.returns-then-digits-eq48
returns-then-digits-eq48 c = leading_zero c.args.greatest c.args.digits.now c.if-digits-ne2.false c.if-digits-eq48.true

pub returns : goal.returns
returns c =
    two_digits
    c.args.greatest
    c.args.digits.now
    c.if-digits-ne2.false
    c.if-digits-eq48.false
    c.digit-2.result
    c.digit-3.result
    c.digit-2.ensures.0
    c.digit-3.ensures.0
