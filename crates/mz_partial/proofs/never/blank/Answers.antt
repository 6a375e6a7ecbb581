use Rattle.std.proofs.Common.{Some, ap, ◌∙◌}
use Rattle.mz_arena.specs.Extents.{extent}
use Rattle.mz_partial.proofs.Testing.{blank_as, never_whole, never_truth, never_set, never_in}
use Rattle.mz_partial.proofs.never.blank.Goals as goal

pub sort-requires : goal.sort-requires
sort-requires c = never_in c.args.arena.now c.args.id c.requires.never

pub returns-in-Integer : goal.returns-in-Integer
returns-in-Integer c = blank_as c.blank_integer.result c.args.arena.now c.blank_integer.new.arena (extent c.args.arena.now c.args.id) _ (never_whole (extent c.args.arena.now c.args.id) c.requires.never (c.sort.ensures ∙ ap (λ s. Some s) c.in-Integer.is)) c.blank_integer.ensures

pub returns-in-Boolean : goal.returns-in-Boolean
returns-in-Boolean c = blank_as c.blank_truth.result c.args.arena.now c.blank_truth.new.arena (extent c.args.arena.now c.args.id) _ (never_truth (extent c.args.arena.now c.args.id) c.requires.never (c.sort.ensures ∙ ap (λ s. Some s) c.in-Boolean.is)) c.blank_truth.ensures

pub returns-in-Set : goal.returns-in-Set
returns-in-Set c = blank_as c.blank_set.result c.args.arena.now c.blank_set.new.arena (extent c.args.arena.now c.args.id) _ (never_set (extent c.args.arena.now c.args.id) c.requires.never (c.sort.ensures ∙ ap (λ s. Some s) c.in-Set.is)) c.blank_set.ensures
