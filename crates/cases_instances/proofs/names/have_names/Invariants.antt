use Rattle.std.proofs.Common.{map, length, string_bytes}
use Rattle.mz_arena.specs.Instances.{model_var}
use Rattle.flat_meaning.specs.Front.{HaveNames}
use Rattle.cases_instances.specs.Texts.{AreTexts}
use Rattle.cases_instances.proofs.names.have_names.Given as goal

abbrev pub invariant-vars : goal.invariant-vars
invariant-vars l = record {
  named : HaveNames l.names (map model_var l.rest) → HaveNames l.names (map model_var l.vars);
  texts : AreTexts l.names (map model_var l.rest) (map string_bytes l.others) → AreTexts l.names (map model_var l.vars) (map string_bytes l.fn.texts);
}

abbrev pub decreases-vars : goal.decreases-vars
decreases-vars l = length l.rest
