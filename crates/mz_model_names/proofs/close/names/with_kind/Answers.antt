use Rattle.std.proofs.Common.{refl, sym, subst}
use Rattle.mz_model_names.specs.declared.types.Kind.{Kind}
use Rattle.mz_model_names.specs.declared.types.Kind.TheVariants as kind
use Rattle.mz_model_names.specs.Closed.{IsNextTaken}
use Rattle.mz_model_names.proofs.NameLaws.{var_kind_taken}
use Rattle.mz_model_names.proofs.close.names.with_kind.Goals as goal

pub returns-in_ok-more-in-One : goal.returns-in_ok-more-in-One
returns-in_ok-more-in-One c =
    let more = c.in_ok-more-in-One.more in
    subst (λ (k : Kind). IsNextTaken c.args.label k c.args.cell c.args.vars c.args.pars (more, c.args.pars)) (sym c.in-One.is)
    (var_kind_taken c.args.label (kind.One c.in-One.f) c.args.cell c.args.vars more c.args.pars c.in_ok-m-in-One.m refl (λ r. refl) c.in_ok-m-in-One.ensures c.in_ok-more-in-One.ensures)

pub returns-in_ok-more-in-Many : goal.returns-in_ok-more-in-Many
returns-in_ok-more-in-Many c =
    let more = c.in_ok-more-in-Many.more in
    subst (λ (k : Kind). IsNextTaken c.args.label k c.args.cell c.args.vars c.args.pars (more, c.args.pars)) (sym c.in-Many.is)
    (var_kind_taken c.args.label (kind.Many c.in-Many.index c.in-Many.places) c.args.cell c.args.vars more c.args.pars c.in_ok-m-in-Many.m refl (λ r. refl) c.in_ok-m-in-Many.ensures c.in_ok-more-in-Many.ensures)
