-- What texts are read to.
use Rattle.std.proofs.Common.{◌≡◌, List, [], ◌∷◌, true, Some, None, codes, refl}
use Rattle.std.specs.Prelude.{pos, negsuc}
use Rattle.fz_items.specs.Items.{digits_at}
use Rattle.fz_program.specs.declared.program.FzGoal.TheVariants.{Satisfy}
use Rattle.fz_program.specs.Names.{Name}
use Rattle.fz_program.specs.Arguments.{bool, int, var, one, array}
use Rattle.fz_text_read.specs.Tokens.{behind, interval_at, interval_from, name_at, natural_at, negative_at, number_at}
use Rattle.fz_text_read.specs.Lists.{closed_at, filled_at, parts_at, set_at}
use Rattle.fz_text_read.specs.Tables.{are_new}
use Rattle.fz_text_read.specs.Arguments.{argument_at, array_at, braces_set_at, interval_set_at, number_or_interval_at, number_or_set_at, plain_at, word_at, word_of}
use Rattle.fz_text_read.specs.Lines.{body_at, domain_at, goal_at, lines_at, mark_at, marked_at, optimum_at, program_at, satisfy_at, variable_at}

abbrev names : List Name
names = codes "x" ∷ codes "true1" ∷ []

pub number_of_text : number_at (codes "-120,") ≡ Some (negsuc 119, codes ",")
unfolding behind digits_at natural_at negative_at number_at
number_of_text = refl

-- after a number there is no letter
pub no_number : number_at (codes "x1") ≡ None
unfolding behind digits_at natural_at negative_at number_at
no_number = refl

-- an interval that is empty is read, whatever its ends: more is read than is spelled
pub sets_of_text : set_at (codes "5..2;") ∷ set_at (codes "1..3;") ∷ [] ≡ Some ([], codes ";") ∷ Some ((pos 1, pos 3) ∷ [], codes ";") ∷ []
unfolding behind digits_at interval_at interval_from natural_at negative_at number_at set_at
sets_of_text = refl

-- a variable whose name begins as a truth value does
pub words_of_text : plain_at names (codes "true,") ∷ plain_at names (codes "true1,") ∷ plain_at names (codes "y,") ∷ [] ≡ Some (one (bool true), codes ",") ∷ Some (one (var 1), codes ",") ∷ None ∷ []
unfolding name_at plain_at word_at word_of
words_of_text = refl

pub arrays_of_text : argument_at names (codes "[])") ∷ argument_at names (codes "[x,2])") ∷ argument_at names (codes "[x,])") ∷ [] ≡ Some (array [], codes ")") ∷ Some (array (var 0 ∷ int (pos 2) ∷ []), codes ")") ∷ None ∷ []
unfolding argument_at array_at behind braces_set_at closed_at digits_at filled_at interval_set_at name_at natural_at negative_at number_at number_or_interval_at number_or_set_at parts_at plain_at word_at word_of
arrays_of_text = refl

-- a program with no variable, and one with a name that stands twice
pub programs_of_text : program_at (codes "solve satisfy;\n") ∷ program_at (codes "var bool: x;\nvar bool: x;\nsolve satisfy;\n") ∷ [] ≡ Some (record { vars = []; arrays = []; rows = []; goal = Satisfy }) ∷ None ∷ []
unfolding are_new behind body_at domain_at goal_at lines_at mark_at marked_at name_at optimum_at program_at satisfy_at variable_at
programs_of_text = refl
