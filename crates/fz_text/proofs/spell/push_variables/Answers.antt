use Rattle.fz_program.specs.Flat.{variable}
use Rattle.fz_text.specs.Spelling.{variable_line}
use Rattle.fz_text.proofs.Appends.{pieces_all}
use Rattle.fz_text.proofs.spell.push_variables.Goals as goal

pub returns : goal.returns
returns c = pieces_all variable variable_line c.args.vars.now c.loop-v.v-index c.args.out.now.items c.loop-v.out.items c.loop-v-test.false c.loop-v.invariant
