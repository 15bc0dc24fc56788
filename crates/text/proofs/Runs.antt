-- Laws of a run of bytes that pass a test, and of the longest of some lists with which the bytes begin.
use Prim.Native.Nat.{ℕ, suc, ◌≤◌, ◌<◌, max, zero-le, suc-le-suc}
use native.Mathlib.Omega.{arith}
use native.Mathlib.Decide.{dec_le}
use mathlib.Core.Path.{◌≡◌, refl, ap, ap₂, ◌∙◌}
use mathlib.Core.Bool.{Bool, true, false, not, cond, ◌&&◌, ◌||◌}
use mathlib.Core.Logic.{◌⊎◌, inl, inr}
use mathlib.Core.List.{List, [], ◌∷◌, ◌++◌, Memᴰ}
use lib.ListN.{length, take, drop, get_or, length-take, drop_of_length-le}
use lib.Seq.{drop-cons}
use lib.Dec.{T, eqb, eqb_refl, eqb→eq}
use Rattle.text.specs.Token.{every}
use Rattle.text.specs.Inside.Scan.{run, starts, longest_of}

-- a test that passes is true
pub T_true : (b : Bool) → T b → b ≡ true
T_true true t = refl
T_true false t = absurd t

-- one whose negation passes is false
pub T_false : (b : Bool) → T (not b) → b ≡ false
T_false true t = absurd t
T_false false t = refl

-- a test that is true passes
pub true_T : {b : Bool} → b ≡ true → T b
true_T e = rw e tt

-- two tests pass together where each passes
pub T_both : (a b : Bool) → T (a && b) → T a × T b
T_both true b t = (tt, t)
T_both false b t = absurd t

-- one of two tests passes where they pass together
pub T_either : (a b : Bool) → T (a || b) → T a ⊎ T b
T_either true b t = inl tt
T_either false b t = inr t

-- the bytes are at their end, or go on with one that fails the test
abbrev pub stops : (ℕ → Bool) → List ℕ → Bool
stops test [] = true
stops test (b ∷ bs) = not (test b)

module _ (test : ℕ → Bool) where
  -- a byte that passes makes the run longer
  pub run_pass : (b : ℕ) (bs : List ℕ) → test b ≡ true → run test (b ∷ bs) ≡ suc (run test bs)
  unfolding run
  run_pass b bs e = rw (e, run) refl

  -- and one that fails ends it
  pub run_fail : (b : ℕ) (bs : List ℕ) → test b ≡ false → run test (b ∷ bs) ≡ 0
  unfolding run
  run_fail b bs e = rw (e, run) refl

  -- all bytes of the run pass, those after it stop it, and it lies within the bytes
  pub record Ran (bs : List ℕ) (n : ℕ) : Type 0 where
    pub passes : T (every test (take n bs))
    pub ends : T (stops test (drop n bs))
    pub fits : n ≤ length bs

  ran_step : (b : ℕ) (bs : List ℕ) (t : Bool) → test b ≡ t → Ran bs (run test bs) → Ran (b ∷ bs) (run test (b ∷ bs))
  ran_step b bs true e r = rw (run_pass b bs e) record { passes = rw e r.passes; ends = r.ends; fits = suc-le-suc r.fits }
  ran_step b bs false e r = rw (run_fail b bs e) record { passes = tt; ends = rw e tt; fits = zero-le }

  -- the run is such
  pub run_ran : (bs : List ℕ) → Ran bs (run test bs)
  unfolding run
  run_ran [] = record { passes = tt; ends = tt; fits = zero-le }
  run_ran (b ∷ bs) = ran_step b bs (test b) refl (run_ran bs)

  -- bytes that all pass are within the run
  pub run_longest : (l r : List ℕ) → T (every test l) → length l ≤ run test (l ++ r)
  run_longest [] r t = zero-le
  run_longest (b ∷ bs) r t =
      let both = T_both (test b) (every test bs) t in
      rw (run_pass b (bs ++ r) (T_true (test b) both.0)) (suc-le-suc (run_longest bs r both.1))

  -- and are all of it where they are stopped
  pub run_is : (l r : List ℕ) → T (every test l) → T (stops test r) → run test (l ++ r) ≡ length l
  unfolding run
  run_is [] [] t u = refl
  run_is [] (b ∷ bs) t u = run_fail b bs (T_false (test b) u)
  run_is (b ∷ bs) r t u =
      let both = T_both (test b) (every test bs) t in
      run_pass b (bs ++ r) (T_true (test b) both.0) ∙ ap suc (run_is bs r both.1 u)

  module _ (text : List ℕ) (i : ℕ) where
    -- from a place of a text the run goes on past a byte that passes
    pub run_on : i < length text → test (get_or text i 0) ≡ true → run test (drop i text) ≡ suc (run test (drop (suc i) text))
    run_on h e = ap (run test) (drop-cons text i 0 h) ∙ run_pass (get_or text i 0) (drop (suc i) text) e

    -- ends at one that fails
    pub run_off : i < length text → test (get_or text i 0) ≡ false → run test (drop i text) ≡ 0
    run_off h e = ap (run test) (drop-cons text i 0 h) ∙ run_fail (get_or text i 0) (drop (suc i) text) e

    -- and ends with the text
    pub run_out : length text ≤ i → run test (drop i text) ≡ 0
    unfolding run
    run_out h = ap (run test) (drop_of_length-le text h)

-- bytes begin with the list in front
pub starts-append : (l r : List ℕ) → starts l (l ++ r) ≡ true
unfolding starts
starts-append [] r = refl
starts-append (c ∷ cs) r = rw (T_true (eqb c c) (eqb_refl c)) (starts-append cs r)

-- and a list with which they begin is their front
pub starts-take : (l bytes : List ℕ) → T (starts l bytes) → take (length l) bytes ≡ l
unfolding starts
starts-take [] bytes t = refl
starts-take (c ∷ cs) [] t = absurd t
starts-take (c ∷ cs) (b ∷ bs) t =
    let both = T_both (eqb b c) (starts cs bs) t in
    ap₂ ◌∷◌ (eqb→eq b c both.0) (starts-take cs bs both.1)

-- none of the lists with which the bytes begin is longer
pub longest_of_bound : {l : List ℕ} {ls : List (List ℕ)} (r : List ℕ) → Memᴰ l ls → length l ≤ longest_of ls (l ++ r)
unfolding longest_of
longest_of_bound {l} r (Memᴰ.head e) = rw (← e, starts-append l r) (omega arith)
longest_of_bound {l} r (Memᴰ.tail m) = omega (arith, longest_of_bound r m)

module _ (l bytes : List ℕ) (ls : List (List ℕ)) (n m : ℕ) (below : m ≡ n → Memᴰ (take n bytes) ls) where
  found_first : T (starts l bytes) → Dec (m ≤ length l) → max (length l) m ≡ n → Memᴰ (take n bytes) (l ∷ ls)
  found_first t (yes h) e = let s : n ≡ length l = omega arith in Memᴰ.head (ap (λ k. take k bytes) s ∙ starts-take l bytes t)
  found_first t (no h) e = Memᴰ.tail (below (omega arith))

  found_step : (t : Bool) → starts l bytes ≡ t → max (cond t (length l) 0) m ≡ n → Memᴰ (take n bytes) (l ∷ ls)
  found_step true s e = found_first (true_T s) (dec_le m (length l)) e
  found_step false s e = Memᴰ.tail (below (omega arith))

-- the longest of the lists is one of them
pub longest_of_found : (ls : List (List ℕ)) (bytes : List ℕ) (n : ℕ) → 0 < n → longest_of ls bytes ≡ n → Memᴰ (take n bytes) ls
unfolding longest_of
longest_of_found [] bytes n h e = absurd (omega arith)
longest_of_found (l ∷ ls) bytes n h e = found_step l bytes ls n (longest_of ls bytes) (longest_of_found ls bytes n h) (starts l bytes) refl e

starts_fits : (l bytes : List ℕ) (t : Bool) → starts l bytes ≡ t → cond t (length l) 0 ≤ length bytes
starts_fits l bytes true e = omega (arith, length-take (length l) bytes, ap length (starts-take l bytes (true_T e)))
starts_fits l bytes false e = zero-le

-- and lies within the bytes
pub longest_of_fits : (ls : List (List ℕ)) (bytes : List ℕ) → longest_of ls bytes ≤ length bytes
unfolding longest_of
longest_of_fits [] bytes = zero-le
longest_of_fits (l ∷ ls) bytes = omega (arith, starts_fits l bytes (starts l bytes) refl, longest_of_fits ls bytes)
