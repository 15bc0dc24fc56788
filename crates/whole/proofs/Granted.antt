-- What a dock's answer says of the rule, where it is lent the image of the table of a program that agrees with it: lemmas of the end theorem.
use Prim.Native.Nat.{ℕ, ◌<◌}
use native.Mathlib.Omega.{arith}
use mathlib.Core.Path.{◌≡◌, refl, sym, ◌∙◌, ap, subst}
use mathlib.Core.Logic.{◌↔◌}
use mathlib.Core.List.{List, ◌++◌, Memᴰ}
use lib.ListN.{get_or, take, drop}
use lib.Seq.{take-append_seam}
use Rattle.table.specs.Table.{Table}
use Rattle.table.specs.WellFormed.{IsImage}
use Rattle.table.specs.Image.{encode}
use Rattle.table.proofs.Image.{table_once}
use Rattle.machine.specs.Run.{Accepts, Passes}
use Rattle.machine.proofs.Run.{no_everywhere}
use Rattle.judgement.specs.Judge.{Judgeable, Judges}
use Rattle.judgement.proofs.Says.{Given, below_refusals, judged_below, yes_exactly, no_exactly, limit_met_exactly}
use Rattle.rule.specs.Tree.{Program, letter_bytes}
use Rattle.rule.specs.Meaning.{ProgramAccepts}
use Rattle.rule.specs.Faults.{Reads}
use Rattle.rule.proofs.Outcomes.{reads_once}
use Rattle.construction.specs.Construction.{construct}
use Rattle.construction.specs.Agreement.{Agree}
use Rattle.std.specs.Prelude.{Result, Ok, Err}
use Rattle.table.specs.declared.reason.Refusal.{Refusal}
use Rattle.construction.specs.declared.Sizes.{Sizes}
use Rattle.construction.specs.Compile.{answer_number, Compiled, Compiles, CompilesTo}
use Rattle.construction.proofs.Compiles.{refused_bounds}
use Rattle.whole.specs.Grant.{Grants, SaysNo, SaysLimitMet, Asks, Deserves}
use Rattle.whole.proofs.Alphabet.{compiled_image}

module _ {text before after : List ℕ} {bytes states rows : ℕ} (c : Compiled text before after bytes states rows) where
  -- what the office wrote is an image of the program's table
  pub delivered : IsImage (construct c.program) (take bytes after)
  delivered =
      let written = compiled_image c.compilable in
      record {
        in_range = written.in_range;
        encoded =
            ap (take bytes) c.image
            ∙ ap (λ (n : ℕ). take n (encode (construct c.program) ++ drop bytes before)) c.bytes_are
            ∙ take-append_seam (encode (construct c.program)) (drop bytes before);
      }

letters_same : (p : Program) → (construct p).alphabet ≡ letter_bytes p.alphabet
unfolding construct
letters_same p = refl

-- any image of the table of a program that agrees with it, and the judge's result on it
module _
    {p : Program} {image word marks marked : List ℕ} {limit result : ℕ} (is_image : IsImage (construct p) image) (agree : Agree p)
    (j : Judges image word limit marks marked result)
  where
    -- what the rule can be asked is judged
    fits : Asks p word limit marks → Judgeable (construct p) image word limit marks
    fits a = record {
      admitted = record {
        is_image = is_image;
        short = omega (arith, a.short);
        letters = λ i low. subst (Memᴰ (get_or word i 0)) (sym (letters_same p)) (a.letters i low);
        low = a.low;
      };
      room = a.room;
    }

    -- and nothing else is
    asked : Given image word limit marks marked result → Asks p word limit marks
    asked g =
        let fit = g.judged.judgeable.admitted in
        let same : g.judged.table.alphabet ≡ letter_bytes p.alphabet =
        ap (λ (t : Table). t.alphabet) (table_once fit.is_image is_image) ∙ letters_same p in
        record {
          short = fit.short;
          letters = λ i low. subst (Memᴰ (get_or word i 0)) same (fit.letters i low);
          low = fit.low;
          room = g.judged.judgeable.room;
        }

    -- a verdict is given exactly where the rule can be asked
    pub verdict_asked : (result < 4000000) ↔ Asks p word limit marks
    verdict_asked = (λ low. asked (below_refusals j low), λ a. judged_below j (fits a))

    -- where the rule can be asked, its program accepts what its table does
    same_accepts : (a : Asks p word limit marks) (M : ℕ) → Accepts (construct p) word M ↔ ProgramAccepts p word M
    same_accepts a M = agree word M (fits a).admitted.letters

    pub granted : Grants result ↔ Deserves p word limit marks
    granted = (
      λ said. let a = verdict_asked.0 (omega (arith, said)) in record {
        asks = a;
        accepts = (same_accepts a limit).0 ((yes_exactly j (fits a)).0 said);
      },
      λ d. (yes_exactly j (fits d.asks)).1 ((same_accepts d.asks limit).1 d.accepts),
    )

    -- a no, of the program and of the steps of its table
    pub denied : SaysNo result ↔ (Asks p word limit marks × (¬ ProgramAccepts p word limit) × (¬ Passes (construct p) word limit))
    denied = (
      λ said.
          let a = verdict_asked.0 (omega (arith, said)) in
          let no = (no_exactly j (fits a)).0 said in
          (a, λ accepts. no.0 ((same_accepts a limit).1 accepts), no.1),
      λ (a, never, calm). (no_exactly j (fits a)).1 (λ accepts. never ((same_accepts a limit).0 accepts), calm),
    )

    -- so then the program accepts at no height of the counter
    pub denied_everywhere : SaysNo result → (M : ℕ) → ¬ ProgramAccepts p word M
    denied_everywhere said M accepts =
        let a = verdict_asked.0 (omega (arith, said)) in
        let no = (no_exactly j (fits a)).0 said in
        no_everywhere no.0 no.1 M ((same_accepts a M).1 accepts)

    -- the same of a limit that was met
    pub met : SaysLimitMet result ↔ (Asks p word limit marks × (¬ ProgramAccepts p word limit) × Passes (construct p) word limit)
    met = (
      λ said.
          let a = verdict_asked.0 (omega (arith, said)) in
          let over = (limit_met_exactly j (fits a)).0 said in
          (a, λ accepts. over.0 ((same_accepts a limit).1 accepts), over.1),
      λ (a, never, passes). (limit_met_exactly j (fits a)).1 (λ accepts. never ((same_accepts a limit).0 accepts), passes),
    )

-- a dock that is lent what the office compiled grants exactly what the rule deserves, whatever record, limit and marks it is given
pub grants_exactly : {text before after word marks marked : List ℕ} {bytes states rows limit result : ℕ}
    (c : Compiled text before after bytes states rows)
    → Judges (take bytes after) word limit marks marked result
    → Grants result ↔ Deserves c.program word limit marks
grants_exactly c j = granted (delivered c) c.agree j

-- the first bytes of the buffer that was compiled into, and the program whose table they say
pub record Delivered (text image : List ℕ) : Type 0 where
  pub program : Program
  pub reads : Reads text program
  pub is_image : IsImage (construct program) image
  pub agree : Agree program

answer_delivers
    : {text before after : List ℕ} {n : ℕ} (a : Result Sizes Refusal) → Compiles text before after a → n ≡ answer_number a → n < 1000000
    → Delivered text (take n after)
unfolding answer_number
answer_delivers {text} {after = after} (Ok sizes) c is low = record {
  program = c.right.program;
  reads = c.right.compilable.reads;
  is_image = subst (λ (m : ℕ). IsImage (construct c.right.program) (take m after)) (sym is) (delivered c.right);
  agree = c.right.agree;
}
answer_delivers (Err refusal) c is low = absurd (omega (arith, refused_bounds c.right))

-- an answer of compiling below 1,000,000 is the length of an image of the table of the text's program
pub delivers : {text before after : List ℕ} {n : ℕ} → CompilesTo text before after n → n < 1000000 → Delivered text (take n after)
delivers c low = answer_delivers c.answer c.compiles c.number low

-- and of no other program's
pub delivers_only
    : {text before after : List ℕ} {n : ℕ} → CompilesTo text before after n → n < 1000000 → {p : Program} → Reads text p
    → IsImage (construct p) (take n after) × Agree p
delivers_only {after = after} {n = n} c low reads =
    let d = delivers c low in
    subst (λ (q : Program). IsImage (construct q) (take n after) × Agree q) (reads_once d.reads reads) (d.is_image, d.agree)
