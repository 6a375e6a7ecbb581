-- The exit status of each answer.
use Rattle.std.specs.Prelude.{◌≡◌, ℕ}
use Rattle.std.specs.Process.{exit_status}
use Rattle.std.specs.declared.process.ExitCode.{ExitCode}
use Rattle.mz_tool.specs.declared.Status.{Status}
use Rattle.mz_tool.specs.declared.Status.TheVariants as status

abbrev pub number_of : Status → ℕ
number_of status.Done = 0
number_of (status.Refused fault) = 1
number_of status.Usage = 2
number_of status.ReadFault = 3
number_of status.WriteFault = 4
number_of status.Memory = 5

-- the exit status is the number of an answer, of which this holds
pub record EndsWith (code : ExitCode) (P : Status → Type 0) : Type 0 where
  pub answer : Status
  pub number : exit_status code ≡ number_of answer
  pub holds : P answer
