-- What it is for a test to tell whether something holds.
use Rattle.std.specs.Prelude.{◌≡◌, Bool, true, false}

-- a test's result tells whether something holds
pub record Tells (result : Bool) (P : Type 0) : Type 0 where
  pub holds : result ≡ true → P
  pub fails : result ≡ false → ¬ P
