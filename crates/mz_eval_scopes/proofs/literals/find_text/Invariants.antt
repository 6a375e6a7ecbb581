use Rattle.std.proofs.Common.{◌≡◌, drop, map}
use Rattle.mz_meaning.specs.Forms.{text_at}
use Rattle.mz_eval_scopes.specs.Views.{text_entry}
use Rattle.mz_eval_scopes.proofs.literals.find_text.Given as goal

abbrev pub invariant-loop-t : goal.invariant-loop-t
invariant-loop-t l = text_at (map text_entry l.texts) l.n ≡ text_at (map text_entry (drop l.t-index l.texts)) l.n
