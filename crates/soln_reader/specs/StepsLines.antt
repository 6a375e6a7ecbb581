-- Mirror of src/line.rt and src/step.rt; private clauses only.
use Rattle.std.specs.Prelude.{◌≡◌, ℕ, ◌<◌, ◌≤◌, List, Bool, true, false, length, drop, map, Result, Ok, Err}
use Rattle.mz_value.specs.Contents.{content}
use Rattle.fz_items.specs.declared.miss.Miss.{Miss}
use Rattle.fz_items.specs.declared.miss.Miss.TheVariants.{Unfit, Memory}
use Rattle.soln_reader.specs.declared.line.Said.{Said}
use Rattle.soln_reader.specs.declared.line.Said.TheVariants.{Leaves, Block, Mark}
use Rattle.soln_reader.specs.declared.step.Step.{Step}
use Rattle.soln_reader.specs.declared.step.Step.TheVariants as step
use Rattle.fz_items.specs.Forms.{Form}
use Rattle.soln_reader.specs.Blocks as blocks
use Rattle.soln_reader.specs.StepsUndo.{Undo}
use Rattle.soln_reader.specs.Stream.{Outcome, leaves, gives, is_bad, block, mark, has_line, after_line, line_outcome}

-- a line does this, and leaves the block as it is where it gives an event, or where memory runs out
abbrev pub SaysThere : blocks.Block → blocks.Block → Result Said Miss → Outcome → Type 0
SaysThere old new (Ok (Leaves filled)) o = (o ≡ leaves new) × Undo filled old new
SaysThere old new (Ok (Block a)) o = o ≡ gives (block (map content a.values.items))
SaysThere old new (Ok (Mark m)) o = o ≡ gives (mark m)
SaysThere old new (Err Unfit) o = o ≡ is_bad
SaysThere old new (Err Memory) o = new ≡ old

-- a step by what a line does
abbrev pub IsStep : blocks.Block → blocks.Block → Outcome → ℕ → Step → Type 0
IsStep old new o n (step.Passed filled m) = (o ≡ leaves new) × Undo filled old new × (m ≡ n)
IsStep old new o n (step.Solved a m) = (o ≡ gives (block (map content a.values.items))) × (m ≡ n)
IsStep old new o n (step.Marked k m) = (o ≡ gives (mark k)) × (m ≡ n)
IsStep old new o n (step.Bad m) = (o ≡ is_bad) × (m ≡ n)
IsStep old new o n step.NoLine = ⊥
IsStep old new o n step.Memory = new ≡ old

-- what the first line does, and the bytes after it
pub record StepsOver (bytes : List ℕ) (n : ℕ) : Type 0 where
  pub rest : drop n bytes ≡ after_line bytes
  pub some : 0 < n
  pub within : n ≤ length bytes

abbrev pub Steps : List Form → Bool → blocks.Block → blocks.Block → List ℕ → Step → Type 0
Steps fs ended old new bytes (step.Passed filled n) = (has_line ended bytes ≡ true) × (line_outcome fs old bytes ≡ leaves new) × Undo filled old new × StepsOver bytes n
Steps fs ended old new bytes (step.Solved a n) = (has_line ended bytes ≡ true) × (line_outcome fs old bytes ≡ gives (block (map content a.values.items))) × StepsOver bytes n
Steps fs ended old new bytes (step.Marked m n) = (has_line ended bytes ≡ true) × (line_outcome fs old bytes ≡ gives (mark m)) × StepsOver bytes n
Steps fs ended old new bytes (step.Bad n) = (has_line ended bytes ≡ true) × (line_outcome fs old bytes ≡ is_bad) × StepsOver bytes n
Steps fs ended old new bytes step.NoLine = (has_line ended bytes ≡ false) × (new ≡ old)
Steps fs ended old new bytes step.Memory = new ≡ old
