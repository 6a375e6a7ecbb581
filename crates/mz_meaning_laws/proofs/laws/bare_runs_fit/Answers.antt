use Rattle.mz_meaning_laws.proofs.Consequences.{expressions_have_outlines, walks_have_outlines, expressions_fit_untested, expressions_fit_strict, walks_fit_untested, walks_fit_strict, par_is_known}
use Rattle.mz_meaning_laws.proofs.Values.{value_is_given}
use Rattle.mz_meaning_laws.proofs.laws.bare_runs_fit.Goals as goal

pub returns : goal.returns
returns c = record { expressions = expressions_have_outlines; walks = walks_have_outlines; values = value_is_given; untested = expressions_fit_untested; strict = expressions_fit_strict; untested_walks = walks_fit_untested; strict_walks = walks_fit_strict; par_values = par_is_known }
