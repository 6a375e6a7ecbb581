use Rattle.std.proofs.Common.{ap, min, ◌∙◌}
use Rattle.std.specs.Option.{option_map}
use Rattle.mz_builtin_values.specs.Shapes.{cap}
use Rattle.mz_core.specs.Types.{plain_type}
use Rattle.mz_meaning.specs.Domains.{domain_over}
use Rattle.mz_operations.specs.Arrays.{place_count}
use Rattle.mz_eval_declared.proofs.Locals.{no_place, some_counted}
use Rattle.mz_eval_declared.proofs.local.choose_places.Goals as goal

pub some_places-requires : goal.some_places-requires
some_places-requires c = some_counted c.place_count-count.result (place_count c.args.ranges.items) (c.place_count-count.ensures.value ∙ ap (λ rs. min cap (place_count rs)) c.as_slice.ensures.value) c.if-count-eq0.false

pub returns-then-count-eq0 : goal.returns-then-count-eq0
returns-then-count-eq0 c =
    let t = plain_type c.args.t.now in
    no_place t c.args.ranges.items (option_map (domain_over t) c.args.set) c.place_count-count.result c.no_places.result (c.place_count-count.ensures.value ∙ ap (λ rs. min cap (place_count rs)) c.as_slice.ensures.value) c.if-count-eq0.true c.no_places.ensures
