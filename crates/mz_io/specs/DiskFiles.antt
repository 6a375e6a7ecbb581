-- What a file of the system answers, where its reader tells the bytes.
use Rattle.std.specs.Prelude.{◌≡◌, ◌<◌, ℕ, List, length, Option, IfSome}
use Rattle.std.specs.declared.io.ErrorKind.{ErrorKind}
use Rattle.std.specs.declared.io.ErrorKind.TheVariants.{NotFound, OutOfMemory}
use Rattle.mz_io.specs.declared.files.Fetched.{Fetched}
use Rattle.mz_io.specs.declared.files.Fetched.TheVariants as fetched

-- what an answer says of the bytes that a reader had left, where they are known
abbrev pub Reads : Option (List ℕ) → ℕ → Fetched → Type 0
Reads left limit (fetched.Bytes bytes) = IfSome left (λ whole. bytes.items ≡ whole)
Reads left limit fetched.TooLong = IfSome left (λ whole. limit < length whole)
Reads left limit fetched.Missing = ⊥
Reads left limit _ = Unit {0}

-- what an error on opening a file answers
abbrev pub refusal_of : ErrorKind → Fetched
refusal_of NotFound = fetched.Missing
refusal_of OutOfMemory = fetched.Memory
refusal_of _ = fetched.Failed
