use Rattle.std.proofs.Common.{◌∙◌, Some, sym, ap}
use Rattle.mz_core.specs.Types.{plain_type}
use Rattle.mz_meaning.specs.Domains.{domain_over}
use Rattle.mz_meaning.specs.Lets as lets
use Rattle.mz_eval_declared.specs.Wants.{wanted}
use Rattle.mz_eval_names.proofs.choosing.choice_set.Goals as goal

pub returns-in_ok-s-in-Anything : goal.returns-in_ok-s-in-Anything
unfolding plain_type
returns-in_ok-s-in-Anything c =
    let t = plain_type c.args.t.now in
    ap (λ u. Some (domain_over t u)) c.in_ok-s-in-Anything.ensures ∙ ap (λ w. lets.local_domain c.args.int_range.now t (wanted w)) (sym c.in-Anything.is)
