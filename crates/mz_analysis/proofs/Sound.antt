-- What a scoped model is typed to with its data respects par at all its nodes.
use Rattle.std.proofs.Common.{ℕ, List, [], ◌∷◌, get_or}
use Rattle.mz_tree.specs.Items.{FunctionTree}
use Rattle.mz_tree.proofs.Anything.{any_tree, any_written, any_declaration, any_goal}
use Rattle.mz_scope_order.specs.Parts.{decl_at, function_at}
use Rattle.mz_scope_order.specs.Scoped.{ScopedTree}
use Rattle.mz_scope_order.specs.Subjects.{Subject, of_decl, of_function}
use Rattle.mz_check_meaning.specs.Headings.{written_in}
use Rattle.mz_check_meaning.specs.Checks.{Sections}
use Rattle.mz_check_meaning.proofs.Giving.{AllBy, Gives}
use Rattle.mz_check_data.specs.WithData.{checked_with_data}
use Rattle.mz_check_data.proofs.Models.{AllowsFunction, AllowsSubject, AllowsModel, AreKeptSections, checked_kept}
use Rattle.mz_analysis.proofs.ParNodes.{par_rules}

-- whatever the texts in it
any_function : (f : FunctionTree) → AllowsFunction par_rules f
any_function f = record { params = λ k d low. any_declaration (get_or f.params k d); result = any_written f.result; body = any_tree f.body }

any_model : (s : ScopedTree) → AllowsModel par_rules s
any_model s = record {
  decls = λ k d low. any_declaration (get_or s.decls k d);
  functions = λ k f low. any_function (get_or s.functions k f);
  constraints = λ k e low. any_tree (get_or s.constraints k e);
  goal = any_goal s.goal;
  outputs = λ k e low. any_tree (get_or s.outputs k e);
}

any_subjects : (s : ScopedTree) (xs : List Subject) → AllBy (AllowsSubject par_rules s) xs
any_subjects s [] = tt
any_subjects s (of_decl d ∷ xs) = (any_written (written_in (decl_at s.decls d)), any_subjects s xs)
any_subjects s (of_function f ∷ xs) = (any_function (function_at s.functions f), any_subjects s xs)

-- all nodes of typed sections respect par
abbrev pub AreSoundSections : Sections → Type 0
AreSoundSections all = AreKeptSections par_rules all

pub checked_sound : (texts : List (List ℕ)) (s : ScopedTree) (order : List Subject) → Gives (checked_with_data texts s order) AreSoundSections
checked_sound texts s order = checked_kept par_rules texts s order (any_model s) (any_subjects s order)
