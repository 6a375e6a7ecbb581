use Rattle.std.proofs.Common.{map, take}
use Rattle.std.specs.List.{AllByRecursion}
use Rattle.mz_value.specs.Contents.{text_bytes}
use Rattle.mz_print.specs.Printable.{HasCases}
use Rattle.mz_print.proofs.printable.all_have_cases.Given as goal

abbrev pub invariant-loop-domain : goal.invariant-loop-domain
invariant-loop-domain l = AllByRecursion (HasCases (map text_bytes l.labels)) (take l.domain-index l.domains)
