use Rattle.std.proofs.Common.{◌∙◌, sym, ap}
use Rattle.std.specs.Option.{option_map}
use Rattle.mz_core.specs.Types.{plain_type}
use Rattle.mz_meaning.specs.Domains.{domain_over}
use Rattle.mz_meaning.specs.Lets as lets
use Rattle.mz_meaning.specs.Runs.{start}
use Rattle.mz_symbol.specs.Readings.{state_of}
use Rattle.mz_eval_cells.specs.Views.{cell_of, known_bound, sure_of}
use Rattle.mz_eval_declared.specs.Wants.{wanted}
use Rattle.mz_eval_declared.specs.Locals.{local_in}
use Rattle.mz_eval_declared.proofs.Choosing.{chosen_means, taken_bound, unchosen_means}
use Rattle.mz_eval_declared.proofs.choices.chosen_one.Goals as goal

pub returns-then-not-p-clause-means : goal.returns-then-not-p-clause-means
returns-then-not-p-clause-means c r h =
    let t = plain_type c.args.t.now in
    unchosen_means t (lets.unless_empty (lets.local_domain c.args.int_range.now t (wanted c.args.w.now))) (cell_of c.in_ok-p.p.0) (sure_of c.in_ok-p.p.1) start (known_bound c.in_ok-b.b) (c.in_ok-p.ensures start) c.if-not-p.true c.in_ok-b.ensures r.mode (state_of r c.args.run.now) (local_in r c.in_ok-none.none) (c.in_ok-none.ensures r)

pub taken_in-requires : goal.taken_in-requires
taken_in-requires c =
    let t = plain_type c.args.t.now in
    taken_bound t (lets.local_domain c.args.int_range.now t (wanted c.args.w.now)) (domain_over t c.in-Some.set) (cell_of c.in_ok-p.p.0) (sure_of c.in_ok-p.p.1) start (known_bound c.in_ok-b.b) (c.in_ok-p.ensures start) c.if-not-p.false (ap (option_map (domain_over t)) (sym c.in-Some.is) ∙ c.in_ok-set.ensures) c.in_ok-b.ensures

pub returns-clause-means : goal.returns-clause-means
returns-clause-means c r h =
    let t = plain_type c.args.t.now in
    chosen_means t (lets.local_domain c.args.int_range.now t (wanted c.args.w.now)) (domain_over t c.in-Some.set) (cell_of c.in_ok-p.p.0) (sure_of c.in_ok-p.p.1) start (c.in_ok-p.ensures start) c.if-not-p.false (ap (option_map (domain_over t)) (sym c.in-Some.is) ∙ c.in_ok-set.ensures) r.mode (state_of r c.args.run.now) (local_in r c.in_ok-one.one) (state_of r c.taken_in.new.run) (c.in_ok-one.ensures.means r h)
