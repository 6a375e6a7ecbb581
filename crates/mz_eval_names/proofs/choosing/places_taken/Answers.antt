use Rattle.std.proofs.Common.{map}
use Rattle.mz_core.specs.Types.{plain_type}
use Rattle.mz_meaning.specs.Domains.{domain_over}
use Rattle.mz_eval_cells.specs.Views.{known_bound}
use Rattle.mz_eval_names.proofs.ChoiceLaws.{places_means}
use Rattle.mz_eval_names.proofs.choosing.places_taken.Goals as goal

pub returns-clause-means : goal.returns-clause-means
returns-clause-means c = places_means c.place_count-count.result (domain_over (plain_type c.args.t.now) c.args.set.now) c.args.run.now c.draw.new.self c.chosen_line.new.run c.args.index.now.value.items (map known_bound c.args.xs.now.value.bounds.value.items) c.in_ok-p.p c.in_ok-line.line (λ r. c.in_ok-draw.ensures.same r) c.place_count-count.ensures c.in_ok-line.ensures.line c.in_ok-p.ensures
