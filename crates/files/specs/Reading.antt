-- What reading answers: so many bytes, at most as many as there was room for, or that a read failed.
use Rattle.std.specs.Prelude.{ℕ, ◌≤◌, ◌<◌, Bool, true, false, List, length, take, Option, Result, Ok, Err, IfOk}
use Rattle.std.specs.Io.KnownBytes.{Consumes, IsAtEnd}

-- what may be answered where there is room for so many bytes: without room nothing is read, so nothing fails
abbrev pub Within : {E : Type 0} → Result ℕ E → ℕ → Type 0
Within (Ok n) room = n ≤ room
Within (Err error) room = 0 < room

-- where it is known what the input has left before and after, the bytes that came are the next of it, and all where there was room for more
abbrev pub Comes : {E : Type 0} → Option (List ℕ) → Option (List ℕ) → List ℕ → Result ℕ E → Type 0
Comes before after buffer r = IfOk r (λ n. Consumes before after (take n buffer) × (n < length buffer → IsAtEnd after))

-- whether a read failed
abbrev pub failed_of : {E : Type 0} → Result ℕ E → Bool
failed_of (Ok n) = false
failed_of (Err error) = true
