use Rattle.std.proofs.Common.{map}
use Rattle.mz_core.specs.Types.{plain_type}
use Rattle.mz_builtin.specs.Views.{plain_choices, plain_numbered, maker_of}
use Rattle.mz_builtin.proofs.Acceptance.{from_made}
use Rattle.mz_builtin.proofs.candidates.fitting.Goals as goal

pub returns : goal.returns
unfolding maker_of
returns c =
    from_made c.made.result (λ v. map plain_numbered v.items) (plain_choices c.in_ok-c.c)
    c.args.name.now (map plain_type c.args.args.now) c.in_ok-c.ensures c.made.ensures
