use Rattle.std.proofs.Common.{◌∙◌, map, option_map, None, sym, ap, rules}
use Rattle.std.proofs.lemmas.Int.{to_z-of_z}
use mir.Syntax.{w64}
use Rattle.mz_core.specs.declared.types.Base.TheVariants as base
use Rattle.mz_value.specs.Contents as values
use Rattle.mz_arena.specs.Values.{as_set}
use Rattle.glob_sets.specs.Arrays.{plain_symbol}
use Rattle.glob_sets.proofs.Elements.{line_is_there, line_value_is, sets_seen}
use Rattle.glob_sets.proofs.arguments.sets_of.Goals as goal

pub returns-in_ok-items-in-Some-clause-sets : goal.returns-in_ok-items-in-Some-clause-sets
returns-in_ok-items-in-Some-clause-sets c =
    let line = sym c.line.ensures.line ∙ ap (option_map (λ l. l.now)) c.in-Some.is in
    line_is_there base.SetInt as_set (values.set None) c.args.run.now c.args.line c.in-Some.l.now c.gathered.result sets_seen line c.gathered.ensures.defined (ap (map (plain_symbol base.SetInt)) c.gathered.ensures.items ∙ c.in_ok-items-in-Some.ensures ∙ c.deref.ensures.value) c.line.ensures.sound

pub returns-in_ok-items-in-Some-clause-value : goal.returns-in_ok-items-in-Some-clause-value
returns-in_ok-items-in-Some-clause-value c r h =
    let line = sym c.line.ensures.line ∙ ap (option_map (λ l. l.now)) c.in-Some.is in
    line_value_is base.SetInt as_set (values.set None) c.args.run.now c.args.line c.in-Some.l.now c.args.first c.args.last c.gathered.result r sets_seen line (c.gathered.ensures.first ∙ to_z-of_z w64 c.args.first (search rules)) (c.gathered.ensures.last ∙ to_z-of_z w64 c.args.last (search rules)) c.gathered.ensures.defined (ap (map (plain_symbol base.SetInt)) c.gathered.ensures.items ∙ c.in_ok-items-in-Some.ensures ∙ c.deref.ensures.value) h
