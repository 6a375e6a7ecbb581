use Rattle.std.proofs.Common.{◌∙◌, map, option_map, sym, ap, rules}
use Rattle.std.proofs.lemmas.Int.{to_z-of_z}
use mir.Syntax.{w64}
use Rattle.mz_core.specs.declared.types.Base.TheVariants as base
use Rattle.mz_value.specs.Contents as values
use Rattle.glob_sets.specs.Arrays.{truth_of}
use Rattle.glob_sets.specs.Arrays.{plain_symbol}
use Rattle.glob_sets.proofs.Elements.{line_is_there, line_value_is, truths_seen}
use Rattle.glob_sets.proofs.arguments.truths_of.Goals as goal

pub returns-in_ok-items-in-Some-clause-truths : goal.returns-in_ok-items-in-Some-clause-truths
returns-in_ok-items-in-Some-clause-truths c =
    let line = sym c.line.ensures.line ∙ ap (option_map (λ l. l.now)) c.in-Some.is in
    line_is_there base.Bool truth_of values.bool c.args.run.now c.args.line c.in-Some.l.now c.gathered.result truths_seen line c.gathered.ensures.defined (ap (map (plain_symbol base.Bool)) c.gathered.ensures.items ∙ c.in_ok-items-in-Some.ensures ∙ c.deref.ensures.value) c.line.ensures.sound

pub returns-in_ok-items-in-Some-clause-value : goal.returns-in_ok-items-in-Some-clause-value
returns-in_ok-items-in-Some-clause-value c r h =
    let line = sym c.line.ensures.line ∙ ap (option_map (λ l. l.now)) c.in-Some.is in
    line_value_is base.Bool truth_of values.bool c.args.run.now c.args.line c.in-Some.l.now c.args.first c.args.last c.gathered.result r truths_seen line (c.gathered.ensures.first ∙ to_z-of_z w64 c.args.first (search rules)) (c.gathered.ensures.last ∙ to_z-of_z w64 c.args.last (search rules)) c.gathered.ensures.defined (ap (map (plain_symbol base.Bool)) c.gathered.ensures.items ∙ c.in_ok-items-in-Some.ensures ∙ c.deref.ensures.value) h
