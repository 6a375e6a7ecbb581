use Rattle.std.proofs.Common.{ap, subst, sym}
use Rattle.fz_program.specs.Flat.{array_item}
use Rattle.flat_reif.specs.States.{state, IsState}
use Rattle.flat_reif.specs.Roots.{with_prog}
use Rattle.flat_reif.proofs.Posting.{on_ok_on}
use Rattle.flat_reif.proofs.Declaring.{array_state}
use Rattle.flat_reif.proofs.flat.Flat.array.Goals as goal

pub returns-clause-added : goal.returns-clause-added
returns-clause-added c = on_ok_on c.array.result _ _ (λ e. ap (with_prog (state c.args.self.now)) e) c.array.ensures.added

pub returns-clause-state : goal.returns-clause-state
returns-clause-state c = on_ok_on c.array.result _ _ (λ e. subst (λ p. IsState (with_prog (state c.args.self.now) p)) (sym e) (array_state (state c.args.self.now) (array_item c.args.a) c.requires.state)) c.array.ensures.added
