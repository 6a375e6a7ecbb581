use Rattle.std.proofs.Common.{ℕ, List, drop, map}
use Rattle.std.proofs.lemmas.List.{at_drop_all}
use Rattle.mz_core.specs.TreeViews.{decl}
use Rattle.mz_print.specs.Names.{top_names}
use Rattle.mz_print_model.proofs.Named.{names_end}
use Rattle.mz_print_model.proofs.names.names_in.Goals as goal

pub returns-then-at-pars : goal.returns-then-at-pars
returns-then-at-pars c =
    names_end (map decl c.args.decls.now) c.args.pars.now c.args.all.now (drop c.loop-k.k-index c.args.all.now) c.loop-k.at (top_names c.loop-k.names.items)
    (at_drop_all (λ (ks : List ℕ). ks) c.args.all.now c.loop-k.k-index c.loop-k-test.false) c.if-at-pars.true c.loop-k.invariant
