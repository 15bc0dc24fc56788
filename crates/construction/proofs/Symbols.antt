-- The codes of symbols: a letter's index, the list of every symbol, and that list without one of them.
use Prim.Native.Nat.{ℕ, zero, suc, ◌+◌, ◌≤◌, ◌<◌, suc-le-suc, zero-le}
use native.Mathlib.Omega.{arith}
use native.Mathlib.Decide.{ℕ_discrete}
use mathlib.Core.Path.{◌≡◌, refl, sym, ◌∙◌, ap}
use mathlib.Core.Logic.{◌⊎◌, inl, inr, ⊎_elim, ◌≢◌, ∥∥₁_elim}
use mathlib.Core.HLevel.{⊥_prop}
use mathlib.Core.Bool.{Bool, true, false}
use mathlib.Core.List.Memᴰ
use mathlib.Core.List.{
  List,
  [],
  ◌∷◌,
  Memᴰ,
  Nodup,
  Mem,
  Nodup-nil,
  Nodup-cons,
  Nodup-append,
}
use lib.ListN.{length, length-append, get_or}
use lib.Dec.{eqb}
use borrow.Author.Tests.{eqb-true, eqb-false, eq-eqb, ne_eqb}
use Rattle.table.specs.Table.{Row}
use Rattle.cells.specs.Cell as Cell
use Rattle.cells.specs.Cell.{Symbol}
use Rattle.rule.specs.Tree.{SymbolName, letter, lend, rend}
use Rattle.rule.specs.Inside.Within.{SoughtWithin}
use Rattle.table.specs.Form.{left_mark, right_mark, either_counter}
use Rattle.construction.specs.Construction.{
  index_in,
  symbol_code,
  count_up,
  all_symbols,
  without,
  test_row,
  symbol_rows,
}

-- the code i stands for the letter b
pub record HasCode (l : List ℕ) (b i : ℕ) : Type 0 where
  pub below : i < length l
  pub finds : get_or l i 0 ≡ b

-- a letter of the alphabet has an index there, where it stands
pub index_stands : (l : List ℕ) (b : ℕ) → Memᴰ b l → HasCode l b (index_in l b)
unfolding index_in
index_stands [] b m = absurd (Memᴰ.not-nil m)
index_stands (x ∷ xs) b m = by_cases (eqb b x) refl (Memᴰ.cases_cons m) (index_stands xs b)
  where
    by_cases : (t : Bool)
        → eqb b x ≡ t
        → (b ≡ x) ⊎ Memᴰ b xs
        → (Memᴰ b xs → HasCode xs b (index_in xs b))
        → HasCode (x ∷ xs) b (elim t [ true ↦ 0 | false ↦ suc (index_in xs b) ])
    by_cases true q m rest = record { below = suc-le-suc zero-le; finds = sym (eqb-true b x q) }
    by_cases false q (inl e) rest = absurd (eqb-false b x q e)
    by_cases false q (inr m) rest = record { below = suc-le-suc (rest m).below; finds = (rest m).finds }

-- what stands at an index is a member
pub get_or-mem : (l : List ℕ) (i : ℕ) → i < length l → Memᴰ (get_or l i 0) l
get_or-mem [] i h = absurd (omega arith)
get_or-mem (x ∷ xs) zero h = Memᴰ.head refl
get_or-mem (x ∷ xs) (suc i) h = Memᴰ.tail (get_or-mem xs i (omega arith))

-- in a list of different letters, a letter stands at one index
pub index_once :
    (l : List ℕ) (i j : ℕ) → Nodup l → i < length l → j < length l → get_or l i 0 ≡ get_or l j 0 → i ≡ j
index_once [] i j once h k e = absurd (omega arith)
index_once (x ∷ xs) zero zero once h k e = refl
index_once (x ∷ xs) zero (suc j) once h k e =
    absurd ((Nodup-cons.0 once).0 ∣ Memᴰ.cast e (get_or-mem xs j (omega arith)) ∣₁)
index_once (x ∷ xs) (suc i) zero once h k e =
    absurd ((Nodup-cons.0 once).0 ∣ Memᴰ.cast (sym e) (get_or-mem xs i (omega arith)) ∣₁)
index_once (x ∷ xs) (suc i) (suc j) once h k e =
    ap suc (index_once xs i j (Nodup-cons.0 once).1 (omega arith) (omega arith) e)

-- so many numbers from n on
pub length-count_up : (n many : ℕ) → length (count_up n many) ≡ many
unfolding count_up
length-count_up n zero = refl
length-count_up n (suc many) = ap suc (length-count_up (suc n) many)

-- each of them is listed
pub mem-count_up : (many n x : ℕ) → n ≤ x → x < n + many → Memᴰ x (count_up n many)
unfolding count_up
mem-count_up zero n x h k = absurd (omega arith)
mem-count_up (suc many) n x h k = by_cases (ℕ_discrete x n) (mem-count_up many (suc n) x)
  where
    by_cases : Dec (x ≡ n)
        → (suc n ≤ x → x < suc n + many → Memᴰ x (count_up (suc n) many))
        → Memᴰ x (n ∷ count_up (suc n) many)
    by_cases (yes e) rest = Memᴰ.head e
    by_cases (no e) rest = Memᴰ.tail (rest (omega arith) (omega arith))

-- and nothing else
pub count_up-mem : (many n x : ℕ) → Memᴰ x (count_up n many) → (n ≤ x) × (x < n + many)
unfolding count_up
count_up-mem zero n x m = absurd (Memᴰ.not-nil m)
count_up-mem (suc many) n x m = by_cases (Memᴰ.cases_cons m) (count_up-mem many (suc n) x)
  where
    by_cases : (x ≡ n) ⊎ Memᴰ x (count_up (suc n) many)
        → (Memᴰ x (count_up (suc n) many) → (suc n ≤ x) × (x < suc n + many))
        → (n ≤ x) × (x < n + suc many)
    by_cases (inl e) rest = omega arith
    by_cases (inr m) rest = omega (arith, rest m)

-- no number comes twice
pub nodup_count_up : (many n : ℕ) → Nodup (count_up n many)
unfolding count_up
nodup_count_up zero n = Nodup-nil
nodup_count_up (suc many) n =
    Nodup-cons.1 (λ m. ∥∥₁_elim m ⊥_prop (λ d. omega (arith, count_up-mem many (suc n) n d)), nodup_count_up many (suc n))

-- the head of a list without x
keeps : (x y : ℕ) (ys : List ℕ) → y ≢ x → without x (y ∷ ys) ≡ y ∷ without x ys
unfolding without
keeps x y ys e = rw (ne_eqb y x e, without)

drops : (x y : ℕ) (ys : List ℕ) → y ≡ x → without x (y ∷ ys) ≡ without x ys
unfolding without
drops x y ys e = rw (eq-eqb y x e, without)

-- a list without an element that it has not
pub without_absent : (x : ℕ) (l : List ℕ) → ¬ Memᴰ x l → without x l ≡ l
unfolding without
without_absent x [] absent = refl
without_absent x (y ∷ ys) absent =
    keeps x y ys (λ e. absent (Memᴰ.head (sym e)))
    ∙ ap (λ (l : List ℕ). y ∷ l) (without_absent x ys (λ m. absent (Memᴰ.tail m)))

-- a list without an element that it has once is one shorter
pub length_without : (x : ℕ) (l : List ℕ) → Nodup l → Memᴰ x l → suc (length (without x l)) ≡ length l
length_without x [] once m = absurd (Memᴰ.not-nil m)
length_without x (y ∷ ys) once m =
    by_cases (ℕ_discrete y x) (Nodup-cons.0 once) (Memᴰ.cases_cons m) (length_without x ys)
  where
    by_cases : Dec (y ≡ x)
        → (¬ Mem y ys) × Nodup ys
        → (x ≡ y) ⊎ Memᴰ x ys
        → (Nodup ys → Memᴰ x ys → suc (length (without x ys)) ≡ length ys)
        → suc (length (without x (y ∷ ys))) ≡ suc (length ys)
    by_cases (yes e) once m rest =
        ap (λ (l : List ℕ). suc (length l))
        (drops x y ys e ∙ without_absent x ys (λ d. once.0 ∣ Memᴰ.cast e d ∣₁))
    by_cases (no e) once (inl q) rest = absurd (e (sym q))
    by_cases (no e) once (inr m) rest = ap (λ (l : List ℕ). suc (length l)) (keeps x y ys e) ∙ ap suc (rest once.1 m)

-- what is left is another element
pub without-mem : (x y : ℕ) (l : List ℕ) → Memᴰ y (without x l) → (y ≢ x) × Memᴰ y l
unfolding without
without-mem x y [] m = absurd (Memᴰ.not-nil m)
without-mem x y (z ∷ zs) m = by_cases (eqb z x) refl m (without-mem x y zs)
  where
    by_cases : (t : Bool)
        → eqb z x ≡ t
        → Memᴰ y (elim t [ true ↦ without x zs | false ↦ z ∷ without x zs ])
        → (Memᴰ y (without x zs) → (y ≢ x) × Memᴰ y zs)
        → (y ≢ x) × Memᴰ y (z ∷ zs)
    by_cases true q m rest = ((rest m).0, Memᴰ.tail (rest m).1)
    by_cases false q m rest =
        ⊎_elim
        (λ (e : y ≡ z). (λ f. eqb-false z x q (sym e ∙ f), Memᴰ.head e))
        (λ d. ((rest d).0, Memᴰ.tail (rest d).1))
        (Memᴰ.cases_cons m)

-- and each other element is left
pub mem-without : (x y : ℕ) (l : List ℕ) → y ≢ x → Memᴰ y l → Memᴰ y (without x l)
unfolding without
mem-without x y [] other m = m
mem-without x y (z ∷ zs) other m = by_cases (eqb z x) refl (Memᴰ.cases_cons m) (mem-without x y zs other)
  where
    by_cases : (t : Bool)
        → eqb z x ≡ t
        → (y ≡ z) ⊎ Memᴰ y zs
        → (Memᴰ y zs → Memᴰ y (without x zs))
        → Memᴰ y (elim t [ true ↦ without x zs | false ↦ z ∷ without x zs ])
    by_cases true q (inl e) rest = absurd (other (e ∙ eqb-true z x q))
    by_cases true q (inr m) rest = rest m
    by_cases false q (inl e) rest = Memᴰ.head e
    by_cases false q (inr m) rest = Memᴰ.tail (rest m)

-- with k letters there are k + 2 symbols
pub length_symbols : (alphabet : List ℕ) → length (all_symbols alphabet) ≡ length alphabet + 2
length_symbols alphabet =
    length-append (count_up 0 (length alphabet)) (left_mark ∷ right_mark ∷ [])
    ∙ ap (λ (n : ℕ). n + 2) (length-count_up 0 (length alphabet))

-- and, with at most 16 letters, none comes twice
pub nodup_symbols : (alphabet : List ℕ) → length alphabet ≤ 16 → Nodup (all_symbols alphabet)
unfolding count_up
nodup_symbols alphabet few =
    Nodup-append.1 (
      nodup_count_up (length alphabet) 0,
      nodup_count_up 2 left_mark,
      λ a m n. ∥∥₁_elim m ⊥_prop (λ d. ∥∥₁_elim n ⊥_prop (apart a d)),
    )
  where
    apart : (a : ℕ) → Memᴰ a (count_up 0 (length alphabet)) → Memᴰ a (count_up left_mark 2) → ⊥
    apart a d e = omega (arith, count_up-mem (length alphabet) 0 a d, count_up-mem 2 left_mark a e)

-- what is read is a mark or a letter of the alphabet
abbrev pub Known : List ℕ → Symbol → Type 0
Known alphabet Cell.left_mark = Unit
Known alphabet (Cell.letter b) = Memᴰ b alphabet
Known alphabet Cell.right_mark = Unit

-- its code
abbrev pub code_of : List ℕ → Symbol → ℕ
code_of alphabet Cell.left_mark = left_mark
code_of alphabet (Cell.letter b) = index_in alphabet b
code_of alphabet Cell.right_mark = right_mark

-- it is one of the symbols
pub known_code : (alphabet : List ℕ) (s : Symbol) → Known alphabet s → Memᴰ (code_of alphabet s) (all_symbols alphabet)
known_code alphabet Cell.left_mark known = Memᴰ.append_right (count_up 0 (length alphabet)) (Memᴰ.head refl)
known_code alphabet (Cell.letter b) known =
    Memᴰ.append_left _ (mem-count_up (length alphabet) 0 _ zero-le (omega (arith, (index_stands alphabet b known).below)))
known_code alphabet Cell.right_mark known =
    Memᴰ.append_right (count_up 0 (length alphabet)) (Memᴰ.tail (Memᴰ.head refl))

-- and so is what a condition seeks
pub code_mem :
    (alphabet : List ℕ) (x : SymbolName) → SoughtWithin alphabet x → Memᴰ (symbol_code alphabet x) (all_symbols alphabet)
unfolding symbol_code SoughtWithin
code_mem alphabet (letter l) m = known_code alphabet (Cell.letter l.byte) m
code_mem alphabet lend m = known_code alphabet Cell.left_mark m
code_mem alphabet rend m = known_code alphabet Cell.right_mark m

-- so there are k + 1 others
pub length_others :
    (alphabet : List ℕ) (x : SymbolName)
    → length alphabet ≤ 16
    → SoughtWithin alphabet x
    → length (without (symbol_code alphabet x) (all_symbols alphabet)) ≡ length alphabet + 1
length_others alphabet x few within =
    omega (
      arith,
      length_without (symbol_code alphabet x) (all_symbols alphabet) (nodup_symbols alphabet few) (code_mem alphabet x within),
      length_symbols alphabet,
    )

-- there is one row for each of the symbols
pub mem-symbol_rows :
    (x : ℕ) (xs : List ℕ) (p q : ℕ) → Memᴰ x xs → Memᴰ (test_row x either_counter p q) (symbol_rows xs p q)
unfolding symbol_rows
mem-symbol_rows x xs p q (Memᴰ.head e) = Memᴰ.head (ap (λ (y : ℕ). test_row y either_counter p q) e)
mem-symbol_rows x xs p q (Memᴰ.tail {xs = ys} m) = Memᴰ.tail (mem-symbol_rows x ys p q m)

-- and no other row
pub symbol_rows-mem :
    (xs : List ℕ) (p q : ℕ) (r : Row)
    → Memᴰ r (symbol_rows xs p q)
    → (x : ℕ) × Memᴰ x xs × (r ≡ test_row x either_counter p q)
unfolding symbol_rows
symbol_rows-mem [] p q r m = absurd (Memᴰ.not-nil m)
symbol_rows-mem (x ∷ xs) p q r m = by_cases (Memᴰ.cases_cons m) (symbol_rows-mem xs p q r)
  where
    by_cases : (r ≡ test_row x either_counter p q) ⊎ Memᴰ r (symbol_rows xs p q)
        → (Memᴰ r (symbol_rows xs p q) → (y : ℕ) × Memᴰ y xs × (r ≡ test_row y either_counter p q))
        → (y : ℕ) × Memᴰ y (x ∷ xs) × (r ≡ test_row y either_counter p q)
    by_cases (inl e) rest = (x, Memᴰ.head refl, e)
    by_cases (inr d) rest = let f = rest d in (f.0, Memᴰ.tail f.1, f.2)
