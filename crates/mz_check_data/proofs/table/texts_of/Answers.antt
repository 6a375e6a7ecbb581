use Rattle.std.proofs.Common.{◌∙◌, ℕ, ◌<◌, List, [], length, sym, subst}
use Rattle.std.specs.Prelude.{All}
use Rattle.std.proofs.lemmas.List.Elements.{All-nil}
use Rattle.mz_check_data.proofs.Once.{once_all}
use Rattle.mz_check_data.proofs.table.texts_of.Goals as goal

pub text_entries-requires : goal.text_entries-requires
text_entries-requires c =
    let P : ℕ → Type 0 = λ n. n < length c.args.table.now in
    subst (λ (ns : List ℕ). All P ns) (sym (c.as_slice-2.ensures.value ∙ c.in_ok-each.ensures))
    (once_all P [] c.as_slice.result.now (All-nil P) (subst (λ (ns : List ℕ). All P ns) (sym (c.as_slice.ensures.value ∙ c.in_ok-names.ensures)) c.requires))
