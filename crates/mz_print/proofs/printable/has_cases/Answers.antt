use Rattle.std.proofs.Common.{map}
use Rattle.mz_value.specs.Contents.{text_bytes}
use Rattle.mz_print.proofs.ShownValues.{domain_told}
use Rattle.mz_print.proofs.printable.has_cases.Goals as goal

pub returns : goal.returns
returns c = domain_told (map text_bytes c.args.labels.now) c.args.domain.now c.ranges-2.result.now c.has_ranges.result c.ranges-2.ensures.ranges c.ranges-2.ensures.canonical c.ranges-2.ensures.limits c.has_ranges.ensures
