-- Mirror of src/settle.rt; private clauses only.
use Rattle.std.specs.Prelude.{◌≡◌, ℕ, Bool, true, false, Option, Some, None}
use Rattle.soln_reader.specs.declared.next.Next.{Next}
use Rattle.soln_reader.specs.declared.next.Next.TheVariants as next
use Rattle.soln_reader.specs.declared.walk.Stop.{Stop}
use Rattle.soln_reader.specs.declared.walk.Stop.TheVariants as stop
use Rattle.soln_reader.specs.Blocks as blocks
use Rattle.soln_reader.specs.Reader.{bad_line}

-- an answer, and the block and the Bad that it leaves
pub record Leaves (answer : Next) (b : blocks.Block) (bad : Option ℕ) (result : Next) (block : blocks.Block) (failed : Option ℕ) : Type 0 where
  pub answers : result ≡ answer
  pub opens : block ≡ b
  pub fails : failed ≡ bad

abbrev pub RunsOut : Bool → blocks.Block → ℕ → Next → blocks.Block → Option ℕ → Type 0
RunsOut false old lines result block failed = Leaves next.Need old None result block failed
RunsOut true None lines result block failed = Leaves next.End None None result block failed
RunsOut true (Some gs) lines result block failed = Leaves (next.Bad (bad_line lines)) None (Some lines) result block failed

abbrev pub Settles : Bool → Stop → ℕ → blocks.Block → Next → blocks.Block → Option ℕ → Type 0
Settles ended (stop.Solved a) lines old result block failed = Leaves (next.Block a) None None result block failed
Settles ended (stop.Marked m) lines old result block failed = Leaves (next.Mark m) None None result block failed
Settles ended stop.Bad lines old result block failed = Leaves (next.Bad (bad_line lines)) None (Some lines) result block failed
Settles ended stop.NoLine lines old result block failed = RunsOut ended old lines result block failed
Settles ended stop.Memory lines old result block failed = Leaves next.Memory old None result block failed

abbrev pub IsSeen : Stop → ℕ → ℕ → Type 0
IsSeen stop.NoLine left n = n ≡ left
IsSeen _ left n = n ≡ 0
