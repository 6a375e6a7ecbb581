use Rattle.std.proofs.Common.{◌≡◌, Option, OnOk, ap, sym, subst}
use Rattle.mz_scope_order.specs.Scoped.{scoped_tree}
use Rattle.mz_scope_order.specs.Subjects.{IsOf, Subject}
use Rattle.mz_check_context.specs.Known.{known}
use Rattle.mz_check_exprs.specs.NewSubjects.{IsNew}
use Rattle.mz_check_exprs.specs.StepsTypes.{IfThere, with_there}
use Rattle.mz_check_exprs.proofs.New.{lent_some, lent_none}
use Rattle.mz_check_exprs.proofs.types.add_at.Goals as goal

pub add_subject-requires-clause-counted : goal.add_subject-requires-clause-counted
add_subject-requires-clause-counted c = subst (λ (o : Option Subject). IfThere o (IsOf (scoped_tree c.args.scoped.now))) (lent_some c.args.order.now c.args.k c.get.result c.in-Some.x c.get.ensures.lookup c.in-Some.is) c.requires.counted

pub add_subject-requires-clause-new : goal.add_subject-requires-clause-new
add_subject-requires-clause-new c = subst (λ (o : Option Subject). IfThere o (IsNew (known c.args.context.now))) (lent_some c.args.order.now c.args.k c.get.result c.in-Some.x c.get.ensures.lookup c.in-Some.is) c.requires.new

pub returns-in-Some : goal.returns-in-Some
returns-in-Some c = subst (λ (o : Option Subject). OnOk c.add_subject.result (known c.add_subject.new.context ≡ with_there (scoped_tree c.args.scoped.now) (known c.args.context.now) o)) (sym (lent_some c.args.order.now c.args.k c.get.result c.in-Some.x c.get.ensures.lookup c.in-Some.is)) c.add_subject.ensures

pub returns-in-None : goal.returns-in-None
returns-in-None c = ap (with_there (scoped_tree c.args.scoped.now) (known c.args.context.now)) (sym (lent_none c.args.order.now c.args.k c.get.result c.get.ensures.lookup c.in-None.is))
