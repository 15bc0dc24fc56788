-- What an atom's rows test: with either sign, one of them fits what is read and the counter exactly when the atom has that truth.
use Prim.Native.Nat.{ℕ, zero, suc, ◌≤◌, ◌<◌, min}
use native.Mathlib.Omega.{arith}
use native.Mathlib.Decide.{ℕ_discrete, dec_lt}
use mathlib.Core.Path.{◌≡◌, refl, sym, ◌∙◌, ap}
use mathlib.Core.Logic.{◌≢◌}
use mathlib.Core.Bool.{Bool, true, false, not, ◌&&◌, or-false, or-true}
use mathlib.Core.List.Memᴰ
use mathlib.Core.List.{List, [], ◌∷◌, Memᴰ, Nodup}
use lib.ListN.{length, get_or}
use lib.Dec.{ltb, eqb}
use borrow.Author.Tests.{eqb-true, eqb-false, eq-eqb, ne_eqb, lt-ltb, le-ltb, not-true, not-false}
use Rattle.table.specs.Table.{Row}
use Rattle.cells.specs.Cell as Cell
use Rattle.cells.specs.Cell.{Symbol}
use Rattle.machine.specs.Step.{symbol_fits, counter_fits}
use Rattle.rule.specs.Limits.{value}
use Rattle.rule.specs.Tree.{Number, SymbolName, letter, lend, rend, Atom, read_is, read_is_not, counter_is, counter_is_not}
use Rattle.rule.specs.Meaning.{reads, atom_holds}
use Rattle.rule.specs.Inside.Within.{SoughtWithin, AtomWithin}
use Rattle.table.specs.Form.{left_mark, right_mark, any_symbol, either_counter}
use Rattle.construction.specs.Construction.{
  test_row,
  symbol_rows,
  is_rows,
  is_not_rows,
  atom_rows,
  index_in,
  symbol_code,
  count_up,
  all_symbols,
  without,
}
use Rattle.construction.proofs.Every.{Every, every-nil, every-cons, every_append}
use Rattle.construction.proofs.Symbols.{
  HasCode,
  index_stands,
  index_once,
  Known,
  code_of,
  known_code,
  code_mem,
  mem-without,
  without-mem,
  count_up-mem,
  mem-symbol_rows,
  symbol_rows-mem,
}

-- two tests of equality that pass together
same_test : (a b c d : ℕ) → (a ≡ b → c ≡ d) → (c ≡ d → a ≡ b) → eqb a b ≡ eqb c d
same_test a b c d f g = by_cases (ℕ_discrete a b)
  where
    by_cases : Dec (a ≡ b) → eqb a b ≡ eqb c d
    by_cases (yes e) = eq-eqb a b e ∙ sym (eq-eqb c d (f e))
    by_cases (no n) = ne_eqb a b n ∙ sym (ne_eqb c d (λ e. n (g e)))

-- a row of these fits what is read and the counter
pub record LetsThrough (alphabet : List ℕ) (s : Symbol) (counter : ℕ) (rows : List Row) : Type 0 where
  pub row : Row
  pub listed : Memᴰ row rows
  pub symbol : symbol_fits alphabet row.symbol s ≡ true
  pub test : counter_fits row.test counter ≡ true

-- the tests of the counter
counter_zero : (counter : ℕ) → counter_fits 0 counter ≡ eqb counter 0
unfolding counter_fits
counter_zero counter =
    or-false (eqb 0 (min counter 1)) ∙ same_test 0 (min counter 1) counter 0 (λ e. omega arith) (λ e. omega arith)

counter_above : (counter : ℕ) → counter_fits 1 counter ≡ not (eqb counter 0)
unfolding counter_fits
counter_above zero = refl
counter_above (suc n) = rw (eq-eqb 1 (min (suc n) 1) (omega arith), ne_eqb (suc n) 0 (omega arith))

counter_either : (counter : ℕ) → counter_fits either_counter counter ≡ true
unfolding counter_fits
counter_either counter = or-true (eqb either_counter (min counter 1))

any_symbol_lem : (alphabet : List ℕ) (s : Symbol) → symbol_fits alphabet any_symbol s ≡ true
unfolding symbol_fits
any_symbol_lem alphabet Cell.left_mark = refl
any_symbol_lem alphabet (Cell.letter b) = or-true (ltb any_symbol (length alphabet) && eqb (get_or alphabet any_symbol 0) b)
any_symbol_lem alphabet Cell.right_mark = refl

module _ (alphabet : List ℕ) (few : length alphabet ≤ 16) where
  -- no letter has a mark's code
  letter_no_mark : (b n : ℕ) → Memᴰ b alphabet → left_mark ≤ n → false ≡ eqb (index_in alphabet b) n
  letter_no_mark b n m h = sym (ne_eqb (index_in alphabet b) n (λ e. omega (arith, (index_stands alphabet b m).below)))

  mark_no_letter : (b n : ℕ) → Memᴰ b alphabet → left_mark ≤ n → false ≡ eqb n (index_in alphabet b)
  mark_no_letter b n m h = letter_no_mark b n m h ∙ same_test (index_in alphabet b) n n (index_in alphabet b) sym sym

  same_index :
      (b c : ℕ) → Memᴰ b alphabet → Memᴰ c alphabet → index_in alphabet b ≡ index_in alphabet c → b ≡ c
  same_index b c m n e =
      sym (index_stands alphabet b m).finds ∙ ap (λ (i : ℕ). get_or alphabet i 0) e ∙ (index_stands alphabet c n).finds

  -- to read what is sought is to read its code
  reads_code :
      (x : SymbolName) (s : Symbol)
      → SoughtWithin alphabet x
      → Known alphabet s
      → reads x s ≡ eqb (symbol_code alphabet x) (code_of alphabet s)
  unfolding reads symbol_code SoughtWithin
  reads_code (letter l) Cell.left_mark within known = letter_no_mark l.byte left_mark within (omega arith)
  reads_code (letter l) (Cell.letter b) within known =
      same_test l.byte b _ _ (λ e. ap (index_in alphabet) e) (same_index l.byte b within known)
  reads_code (letter l) Cell.right_mark within known = letter_no_mark l.byte right_mark within (omega arith)
  reads_code lend Cell.left_mark within known = refl
  reads_code lend (Cell.letter b) within known = mark_no_letter b left_mark known (omega arith)
  reads_code lend Cell.right_mark within known = refl
  reads_code rend Cell.left_mark within known = refl
  reads_code rend (Cell.letter b) within known = mark_no_letter b right_mark known (omega arith)
  reads_code rend Cell.right_mark within known = refl

  -- a row for a code fits just the symbol with that code
  module _ (different : Nodup alphabet) where
    fits_letter :
        (y b : ℕ) → y ≢ any_symbol → Memᴰ b alphabet → symbol_fits alphabet y (Cell.letter b) ≡ eqb y (index_in alphabet b)
    unfolding symbol_fits
    fits_letter y b any known = by_cases (dec_lt y (length alphabet))
      where
        stands : HasCode alphabet b (index_in alphabet b)
        stands = index_stands alphabet b known

        by_cases : Dec (y < length alphabet) → symbol_fits alphabet y (Cell.letter b) ≡ eqb y (index_in alphabet b)
        by_cases (yes h) =
            rw (lt-ltb y (length alphabet) h, ne_eqb y any_symbol any)
            (or-false _ ∙ same_test (get_or alphabet y 0) b y (index_in alphabet b)
            (λ e. index_once alphabet y (index_in alphabet b) different h stands.below (e ∙ sym stands.finds))
            (λ e. ap (λ (i : ℕ). get_or alphabet i 0) e ∙ stands.finds))
        by_cases (no h) =
            rw (le-ltb y (length alphabet) (omega arith), ne_eqb y any_symbol any, ne_eqb y (index_in alphabet b) (λ e. omega (arith, stands.below)))

    fits_code :
        (y : ℕ) (s : Symbol) → y ≢ any_symbol → Known alphabet s → symbol_fits alphabet y s ≡ eqb y (code_of alphabet s)
    unfolding symbol_fits
    fits_code y Cell.left_mark any known = rw (ne_eqb y any_symbol any) (or-false _)
    fits_code y (Cell.letter b) any known = fits_letter y b any known
    fits_code y Cell.right_mark any known = rw (ne_eqb y any_symbol any) (or-false _)

    module _ (s : Symbol) (known : Known alphabet s) (counter p q : ℕ) where
      -- of the rows for a list of symbols, one fits just when what is read is in the list
      symbols_pass :
          (xs : List ℕ)
          → Every (λ (y : ℕ). y ≢ any_symbol) xs
          → Memᴰ (code_of alphabet s) xs
          → LetsThrough alphabet s counter (symbol_rows xs p q)
      symbols_pass xs f m =
          record {
            row = test_row (code_of alphabet s) either_counter p q;
            listed = mem-symbol_rows (code_of alphabet s) xs p q m;
            symbol = fits_code (code_of alphabet s) s (f.at (code_of alphabet s) m) known ∙ eq-eqb (code_of alphabet s) (code_of alphabet s) refl;
            test = counter_either counter;
          }

      pass_symbols :
          (xs : List ℕ)
          → Every (λ (y : ℕ). y ≢ any_symbol) xs
          → LetsThrough alphabet s counter (symbol_rows xs p q)
          → Memᴰ (code_of alphabet s) xs
      pass_symbols xs f pass =
          let found = symbol_rows-mem xs p q pass.row pass.listed in
          let y = found.0 in
          let fits : symbol_fits alphabet y s ≡ true = ap (λ (r : Row). symbol_fits alphabet r.symbol s) (sym found.2) ∙ pass.symbol in
          Memᴰ.cast (sym (eqb-true y (code_of alphabet s) (sym (fits_code y s (f.at y found.1) known) ∙ fits))) found.1

      -- `==` and `!=`
      code_not_any : Every (λ (y : ℕ). y ≢ any_symbol) (all_symbols alphabet)
      code_not_any =
          every_append (count_up 0 (length alphabet))
          (record { at = λ y m e. omega (arith, count_up-mem (length alphabet) 0 y m) })
          (every-cons (omega arith) (every-cons (omega arith) every-nil))

      module _ (x : SymbolName) (within : SoughtWithin alphabet x) where
        one_not_any : Every (λ (y : ℕ). y ≢ any_symbol) (symbol_code alphabet x ∷ [])
        one_not_any = every-cons (code_not_any.at (symbol_code alphabet x) (code_mem alphabet x within)) every-nil

        others_not_any : Every (λ (y : ℕ). y ≢ any_symbol) (without (symbol_code alphabet x) (all_symbols alphabet))
        others_not_any =
            record { at = λ y m. code_not_any.at y (without-mem (symbol_code alphabet x) y (all_symbols alphabet) m).1 }

        is_pass : reads x s ≡ true → LetsThrough alphabet s counter (is_rows alphabet x p q)
        is_pass holds =
            symbols_pass (symbol_code alphabet x ∷ []) one_not_any
            (Memᴰ.head (sym (eqb-true (symbol_code alphabet x) (code_of alphabet s) (sym (reads_code x s within known) ∙ holds))))

        pass_is : LetsThrough alphabet s counter (is_rows alphabet x p q) → reads x s ≡ true
        pass_is pass =
            reads_code x s within known
            ∙ eq-eqb (symbol_code alphabet x) (code_of alphabet s) (sym (Memᴰ.eq_of_singleton (pass_symbols (symbol_code alphabet x ∷ []) one_not_any pass)))

        is_not_pass : reads x s ≡ false → LetsThrough alphabet s counter (is_not_rows alphabet x p q)
        is_not_pass fails =
            symbols_pass (without (symbol_code alphabet x) (all_symbols alphabet)) others_not_any
            (mem-without (symbol_code alphabet x) (code_of alphabet s) (all_symbols alphabet)
            (λ e. eqb-false (symbol_code alphabet x) (code_of alphabet s) (sym (reads_code x s within known) ∙ fails) (sym e))
            (known_code alphabet s known))

        pass_is_not : LetsThrough alphabet s counter (is_not_rows alphabet x p q) → reads x s ≡ false
        pass_is_not pass =
            let found = pass_symbols (without (symbol_code alphabet x) (all_symbols alphabet)) others_not_any pass in
            reads_code x s within known
            ∙ ne_eqb (symbol_code alphabet x) (code_of alphabet s)
            (λ e. (without-mem (symbol_code alphabet x) (code_of alphabet s) (all_symbols alphabet) found).0 (sym e))

      -- a test of the counter is one row
      counter_pass : (n : ℕ) → counter_fits n counter ≡ true → LetsThrough alphabet s counter (test_row any_symbol n p q ∷ [])
      counter_pass n fits =
          record { row = test_row any_symbol n p q; listed = Memᴰ.head refl; symbol = any_symbol_lem alphabet s; test = fits }

      pass_counter : (n : ℕ) → LetsThrough alphabet s counter (test_row any_symbol n p q ∷ []) → counter_fits n counter ≡ true
      pass_counter n pass =
          ap (λ (r : Row). counter_fits r.test counter) (sym (Memᴰ.eq_of_singleton pass.listed)) ∙ pass.test

      module _ (n : Number) (none : value n ≡ 0) where
        zero_pass : eqb counter (value n) ≡ true → LetsThrough alphabet s counter (test_row any_symbol 0 p q ∷ [])
        zero_pass holds = counter_pass 0 (counter_zero counter ∙ ap (λ (k : ℕ). eqb counter k) (sym none) ∙ holds)

        pass_zero : LetsThrough alphabet s counter (test_row any_symbol 0 p q ∷ []) → eqb counter (value n) ≡ true
        pass_zero pass = ap (λ (k : ℕ). eqb counter k) none ∙ sym (counter_zero counter) ∙ pass_counter 0 pass

        above_pass : eqb counter (value n) ≡ false → LetsThrough alphabet s counter (test_row any_symbol 1 p q ∷ [])
        above_pass fails =
            counter_pass 1 (counter_above counter ∙ ap not (ap (λ (k : ℕ). eqb counter k) (sym none) ∙ fails))

        pass_above : LetsThrough alphabet s counter (test_row any_symbol 1 p q ∷ []) → eqb counter (value n) ≡ false
        pass_above pass =
            ap (λ (k : ℕ). eqb counter k) none
            ∙ not-true (eqb counter 0) (sym (counter_above counter) ∙ pass_counter 1 pass)

      -- an atom that has the truth of its sign has a row that fits
      pub atom_pass :
          (a : Atom) (sign : Bool)
          → AtomWithin alphabet a
          → atom_holds s counter a ≡ sign
          → LetsThrough alphabet s counter (atom_rows alphabet sign a p q)
      unfolding atom_holds atom_rows AtomWithin
      atom_pass (read_is x) true within holds = is_pass x within holds
      atom_pass (read_is x) false within holds = is_not_pass x within holds
      atom_pass (read_is_not x) true within holds = is_not_pass x within (not-true _ holds)
      atom_pass (read_is_not x) false within holds = is_pass x within (not-false _ holds)
      atom_pass (counter_is n) true within holds = zero_pass n within.0 holds
      atom_pass (counter_is n) false within holds = above_pass n within.0 holds
      atom_pass (counter_is_not n) true within holds = above_pass n within.0 (not-true _ holds)
      atom_pass (counter_is_not n) false within holds = zero_pass n within.0 (not-false _ holds)

      -- and an atom with a row that fits has that truth
      pub pass_atom :
          (a : Atom) (sign : Bool)
          → AtomWithin alphabet a
          → LetsThrough alphabet s counter (atom_rows alphabet sign a p q)
          → atom_holds s counter a ≡ sign
      unfolding atom_holds atom_rows AtomWithin
      pass_atom (read_is x) true within pass = pass_is x within pass
      pass_atom (read_is x) false within pass = pass_is_not x within pass
      pass_atom (read_is_not x) true within pass = ap not (pass_is_not x within pass)
      pass_atom (read_is_not x) false within pass = ap not (pass_is x within pass)
      pass_atom (counter_is n) true within pass = pass_zero n within.0 pass
      pass_atom (counter_is n) false within pass = pass_above n within.0 pass
      pass_atom (counter_is_not n) true within pass = ap not (pass_above n within.0 pass)
      pass_atom (counter_is_not n) false within pass = ap not (pass_zero n within.0 pass)
