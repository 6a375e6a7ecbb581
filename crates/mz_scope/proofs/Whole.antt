-- The tests over the model's files and the data.
use Rattle.std.proofs.Common.{◌≡◌, ℕ, List, ap, sym, ◌∙◌, map, subst, Option}
use Rattle.std.specs.List.{flat_map}
use Rattle.mz_base.specs.declared.fault.Span.{Span}
use Rattle.mz_base.specs.declared.fault.Fault.{Fault}
use Rattle.mz_tree.specs.declared.source.SourceFile.{SourceFile}
use Rattle.mz_tree.specs.declared.data.DataItem.{DataItem}
use Rattle.mz_tree.specs.Data.{given}
use Rattle.mz_tree.specs.Items.{item}
use Rattle.mz_scope_names.specs.declared.occurrence.Occurrence.{Occurrence}
use Rattle.mz_scope_names.specs.Given.{occurrences}
use Rattle.mz_scope_names.specs.StepsWalk.{items_of}
use Rattle.mz_scope_names.proofs.Gathered.{files_flat}
use Rattle.mz_scope.specs.Tests.{AreNamed, known_in, refusal, refusal_of, solve_in, end_of}

pub named_here : (texts : List (List ℕ)) (fs : List SourceFile) (ds : List DataItem) (os read : List Occurrence) → AreNamed texts (occurrences (items_of fs) (map given ds)) → os ≡ occurrences (items_of fs) (map given ds) → read ≡ os → AreNamed texts read
named_here texts fs ds os read h p q = subst (λ z. AreNamed texts z) (sym (q ∙ p)) h

pub whole : (texts : List (List ℕ)) (fs fs1 fs2 : List SourceFile) (ds : List DataItem) (end : Span) (solves ss : List Span) (os read : List Occurrence) (found : Option Fault)
    → found ≡ refusal texts (known_in texts) end ss read → fs1 ≡ fs → fs2 ≡ fs → end ≡ end_of fs2 → solves ≡ flat_map (λ f. flat_map (λ i. solve_in (item i)) f.items.items) fs1 → ss ≡ solves → os ≡ occurrences (items_of fs) (map given ds) → read ≡ os → found ≡ refusal_of texts fs ds
whole texts fs fs1 fs2 ds end solves ss os read found h a b e s t p q =
    h ∙ ap (λ z. refusal texts (known_in texts) z ss read) (e ∙ ap end_of b)
    ∙ ap (λ z. refusal texts (known_in texts) (end_of fs) z read) (t ∙ s ∙ ap (λ z. flat_map (λ f. flat_map (λ i. solve_in (item i)) f.items.items) z) a ∙ sym (files_flat solve_in fs))
    ∙ ap (λ z. refusal texts (known_in texts) (end_of fs) (flat_map solve_in (items_of fs)) z) (q ∙ p)
