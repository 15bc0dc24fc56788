-- A number stands there, and its digits are those that are counted.
use mathlib.Core.Path.{refl}
use Rattle.compiler.proofs.Seeing.{number_stands, number_within, number_digits, number_value}
use Rattle.compiler.proofs.see.Cursor.past_number.Goals as goal

pub unreachable-requires : goal.unreachable-requires
unreachable-requires c =
    let (p, e, is) = number_stands c.requires.1 c.requires.0.here in
    c.in_default.not-Number p e is

pub slice_bounds-value-end : goal.slice_bounds-value-end
slice_bounds-value-end c = (number_within c.requires.1 c.in-Number.is c.requires.0.here).1

pub value-requires : goal.value-requires
value-requires c = number_digits c.requires.1 c.in-Number.is c.requires.0.here c.requires.0.small

pub returns : goal.returns
returns c =
    record { text = refl; reads = λ here. number_value c.requires.1 c.in-Number.is here c.value.ensures }
