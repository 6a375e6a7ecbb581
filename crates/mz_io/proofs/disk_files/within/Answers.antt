use Rattle.std.proofs.Common.{◌≡◌, ◌<◌, ℕ, List, length, take, arith, Option, IfSome, Some, None}
use Rattle.std.proofs.lemmas.Grind.{common_steps}
use Rattle.std.proofs.lemmas.List.{length-take}
use Rattle.std.specs.Option.{option_map}
use Rattle.mz_io.proofs.disk_files.within.Goals as goal

-- a prefix that is shorter than it may be is the whole
whole_prefix : (whole prefix : List ℕ) (most : ℕ) → prefix ≡ take most whole → length prefix < most → prefix ≡ whole
whole_prefix whole prefix most is short =
    grind (arith, common_steps, length-take most whole)

whole_known : (left : Option (List ℕ)) (prefix : List ℕ) (most : ℕ) → length prefix < most → IfSome (option_map (take most) left) (λ xs. prefix ≡ xs) → IfSome left (λ whole. prefix ≡ whole)
whole_known None prefix most short h = h
whole_known (Some whole) prefix most short h = whole_prefix whole prefix most h short

pub returns-in-Ok-2-clause-bytes : goal.returns-in-Ok-2-clause-bytes
returns-in-Ok-2-clause-bytes g c =
    whole_known (g.F.Read.remaining c.args.file) c.read_to_end.new.buf.items c.saturating_add.result (omega arith)
    (grind (arith, common_steps, c.in-Ok-2.ensures.bytes))
