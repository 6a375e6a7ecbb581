use Rattle.std.proofs.Common.{◌≡◌, ◌<◌}
use Rattle.mz_scope_names.proofs.Spots.{item_named}
use Rattle.mz_scope_names.proofs.law.named_alike.Goals as goal

pub returns : goal.returns
returns c = λ count file i h. item_named (λ n. n < count) (λ s. s.file ≡ file) i h
