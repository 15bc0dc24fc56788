-- `reader::answers::Reader::atom` meets its contract.
use native.Mathlib.Omega.{arith}
use mathlib.Core.Path.{sym, ap, ◌∙◌}
use Prim.Native.Nat.{ℕ}
use Rattle.reader.specs.Inside.Atoms.{rows_of}
use Rattle.reader.specs.declared.answers.Counts.{Counts}
use Rattle.atoms.proofs.Exits.{exit}
use Rattle.reader.proofs.Moves.{arrived}
use Rattle.reader.proofs.Alphabet.{alphabet_length}
use Rattle.reader.proofs.Tested.{rows_most, found_behind, atom_answers, atom_refused, atom_strays}
use Rattle.reader.proofs.Atoms.{atom_tests}
use Rattle.reader.proofs.answers.Reader.atom.Goals as goal

pub returns-in_err-read : goal.returns-in_err-read
returns-in_err-read c n = rw (exit _ c.from_residual.ensures.1) (atom_refused c.args.self (atom_tests c.requires c.atom_at.ensures n) c.in_err-read.was)

pub returns-in-Some : goal.returns-in-Some
returns-in-Some c n = atom_strays c.args.self (atom_tests c.requires c.atom_at.ensures n) c.in_ok-read.was (sym c.stray_of.ensures ∙ c.in-Some.is)

pub onward-behind-requires : goal.onward-behind-requires
onward-behind-requires c =
    let found = found_behind (atom_tests c.requires c.atom_at.ensures 0) c.in_ok-read.was in
    (omega (arith, found.0), found.1)

pub counting-requires : goal.counting-requires
counting-requires c =
    let found = found_behind (atom_tests c.requires c.atom_at.ensures 0) c.in_ok-read.was in
    let on = c.onward-behind.ensures in
    let states = ap (λ (n : Counts). n.states) on.counts_are in
    let rows = ap (λ (n : Counts). n.rows) on.counts_are in
    let most = rows_most c.args.letters.count c.in_ok-read.read.atom in (
      omega (arith, found.0, states, on.at_is, c.args.self.few_states),
      omega (arith, found.0, rows, on.at_is, c.args.self.few_rows, c.rows_of.ensures, most, c.args.letters.few),
    )

pub returns : goal.returns
returns c n =
    arrived
    (atom_answers
    c.args.self
    (atom_tests c.requires c.atom_at.ensures n)
    c.in_ok-read.was
    (sym c.stray_of.ensures ∙ c.in_default.is)
    (c.rows_of.ensures ∙ ap (λ (k : ℕ). rows_of k c.in_ok-read.read.atom) (sym (alphabet_length c.args.letters)))
    c.onward-behind.ensures
    c.counting.ensures)
