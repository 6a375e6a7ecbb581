use Rattle.std.proofs.Common.{length}
use Rattle.mz_check_context.specs.Known.{known}
use Rattle.mz_check.proofs.Values.{value_named}
use Rattle.mz_check.proofs.items.value.Goals as goal

pub value_by-requires : goal.value_by-requires
value_by-requires c = value_named (length (known c.args.context.now).texts) c.args.d.now c.requires
