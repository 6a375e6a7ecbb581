use Rattle.std.proofs.Common.{◌≡◌, ◌∙◌, map, option_map, sym, ap, rules}
use Rattle.std.proofs.lemmas.Int.{to_z-of_z}
use mir.Syntax.{w64}
use Rattle.glob_nodes.specs.Arguments.{int_symbol}
use Rattle.glob_nodes.proofs.Values.{line_value_is, line_is_whole}
use Rattle.glob_nodes.proofs.arguments.numbers_of.Goals as goal

pub returns-in_ok-items-in-Some-clause-whole : goal.returns-in_ok-items-in-Some-clause-whole
returns-in_ok-items-in-Some-clause-whole c =
    let found = sym c.line.ensures.line ∙ ap (option_map (λ l. l.now)) c.in-Some.is in
    line_is_whole c.args.run.now c.args.line c.in-Some.l.now c.gathered.result found c.gathered.ensures.defined (ap (map int_symbol) c.gathered.ensures.items ∙ c.in_ok-items-in-Some.ensures ∙ c.deref.ensures.value) c.line.ensures.sound

pub returns-in_ok-items-in-Some-clause-value : goal.returns-in_ok-items-in-Some-clause-value
returns-in_ok-items-in-Some-clause-value c r h =
    let found = sym c.line.ensures.line ∙ ap (option_map (λ l. l.now)) c.in-Some.is in
    line_value_is c.args.run.now c.args.line c.in-Some.l.now c.args.first c.args.last c.gathered.result r found (c.gathered.ensures.first ∙ to_z-of_z w64 c.args.first (search rules)) (c.gathered.ensures.last ∙ to_z-of_z w64 c.args.last (search rules)) c.gathered.ensures.defined (ap (map int_symbol) c.gathered.ensures.items ∙ c.in_ok-items-in-Some.ensures ∙ c.deref.ensures.value) h
