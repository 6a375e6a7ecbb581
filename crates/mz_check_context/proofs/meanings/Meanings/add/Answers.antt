use Rattle.std.proofs.Common.{ℕ, List, [], ◌∷◌, ◌++◌, ap, ◌∙◌}
use Rattle.mz_check_meaning.specs.declared.meaning.Meaning.{Meaning}
use Rattle.mz_check_meaning.specs.Models.{entry_of}
use Rattle.mz_check_context.proofs.Entries.{entry_added}
use Rattle.mz_check_context.proofs.meanings.Meanings.add.Goals as goal

pub returns : goal.returns
returns c =
    c.in_ok-insert.ensures.entries
    ∙ entry_added c.self.inside.table.entries c.args.name c.args.meaning (ap (λ (es : List (ℕ × Meaning)). entry_of c.args.name es) c.self.view_is ∙ c.requires)
    ∙ ap (λ (es : List (ℕ × Meaning)). es ++ (c.args.name, c.args.meaning) ∷ []) c.self.view_is
