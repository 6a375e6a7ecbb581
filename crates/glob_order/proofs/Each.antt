-- What a loop has read so far, before what the rest is read to.
use Rattle.std.proofs.Common.{List, ◌++◌}
use Rattle.std.specs.Prelude.{Option}
use Rattle.std.specs.Option.{option_map}

abbrev pub prefixed : {A : Type 0} → List A → Option (List A) → Option (List A)
prefixed acc rest = option_map (λ xs. acc ++ xs) rest
