use Rattle.std.proofs.Common.{◌∙◌, true, false, map, sym, ap}
use Rattle.std.specs.Option.{option_map}
use Rattle.mz_core.specs.Types.{plain_type}
use Rattle.mz_meaning.specs.Domains.{domain_over}
use Rattle.mz_meaning.specs.Lets as lets
use Rattle.mz_meaning.specs.Runs.{start}
use Rattle.mz_eval_cells.specs.Views.{cell_of, known_bound, sure_of}
use Rattle.mz_eval_declared.specs.Wants.{wanted, wants_of}
use Rattle.mz_eval_names.proofs.ChoiceLaws.{empty_local, row_known, taken_local, unchosen_local}
use Rattle.mz_eval_names.proofs.choosing.array_chosen.Goals as goal

pub returns-then-not-p-clause-means : goal.returns-then-not-p-clause-means
returns-then-not-p-clause-means c =
    let t = plain_type c.args.t.now in
    let ix = c.in-Row.ranges.value.items in
    let bs = map known_bound c.in-Row.xs.value.bounds.value.items in
    let row = row_known c.args.int_range.now t (wants_of c.args.index.now) (wanted c.args.set.now) ix bs (cell_of c.in_ok-p.p.0) (sure_of c.in_ok-p.p.1) start (c.in_ok-p.ensures start) (ap cell_of c.in-Row.is) in
    unchosen_local ix bs (sure_of c.in_ok-p.p.1) _ c.args.run.now c.in_ok-none.none row c.if-not-p.true c.in_ok-none.ensures

pub returns-then-count-eq0-clause-means : goal.returns-then-count-eq0-clause-means
returns-then-count-eq0-clause-means c =
    let t = plain_type c.args.t.now in
    let ix = c.in-Row.ranges.value.items in
    let bs = map known_bound c.in-Row.xs.value.bounds.value.items in
    let row = row_known c.args.int_range.now t (wants_of c.args.index.now) (wanted c.args.set.now) ix bs (cell_of c.in_ok-p.p.0) (sure_of c.in_ok-p.p.1) start (c.in_ok-p.ensures start) (ap cell_of c.in-Row.is) in
    empty_local ix bs (sure_of c.in_ok-p.p.1) _ c.args.run.now c.in_ok-empty.empty row c.if-not-p.false (sym c.place_count-count.ensures ∙ c.if-count-eq0.true) c.in_ok-empty.ensures

pub returns-clause-means : goal.returns-clause-means
returns-clause-means c =
    let t = plain_type c.args.t.now in
    let ix = c.in-Row.ranges.value.items in
    let bs = map known_bound c.in-Row.xs.value.bounds.value.items in
    let row = row_known c.args.int_range.now t (wants_of c.args.index.now) (wanted c.args.set.now) ix bs (cell_of c.in_ok-p.p.0) (sure_of c.in_ok-p.p.1) start (c.in_ok-p.ensures start) (ap cell_of c.in-Row.is) in
    taken_local ix bs (sure_of c.in_ok-p.p.1) _ (lets.local_domain c.args.int_range.now t (wanted c.args.set.now)) (domain_over t c.in-Some.values) c.args.run.now c.places_taken.new.run c.in_ok-all.all row c.if-not-p.false (λ e. c.if-count-eq0.false (c.place_count-count.ensures ∙ e)) (ap (option_map (domain_over t)) (sym c.in-Some.is) ∙ c.in_ok-values.ensures) c.in_ok-all.ensures.means
