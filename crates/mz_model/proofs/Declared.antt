-- The loop over the declarations, in the order of evaluation.
use Rattle.std.proofs.Common.{◌≡◌, ◌∙◌, Bor, ℕ, zero, suc, ◌+◌, ◌<◌, List, [], ◌∷◌, map, length, drop, get_or, Some, None, Result, Ok, Err, slice_get, refl, sym, ap, subst}
use Rattle.std.specs.Prelude.{IsErrAnd}
use Rattle.std.specs.Slice.{IsItemAt}
use Rattle.std.proofs.lemmas.List.{drop_more}
use Rattle.std.proofs.lemmas.Option.{slice_get_past, slice_get-get_or}
use Rattle.mz_base.specs.declared.stop.Stop.{Stop}
use Rattle.mz_base.specs.declared.stop.Stop.TheVariants.{Refused, Memory}
use Rattle.mz_core.specs.Program.{plain_program}
use Rattle.mz_core.specs.TreeViews.{decl}
use Rattle.mz_core.specs.declared.tree.CoreDecl.{CoreDecl}
use Rattle.mz_meaning.specs.Walk.{ordered, with_decl}
use Rattle.mz_symbol.specs.Runs.{Run}
use Rattle.mz_model_state.specs.Hands as hands
use Rattle.mz_model.specs.declared.types.Task.{Task}
use Rattle.mz_model.specs.Walks.{program_of, IsUpTo, DeclarationEnds, NumberEnds}
use Rattle.mz_model.specs.Loops.{NumbersEnd, AreToCome}

pub declared_there : (xs : List CoreDecl) (k : ℕ) (d : CoreDecl) → slice_get xs k ≡ Some d → slice_get (map decl xs) k ≡ Some (decl d)
declared_there [] k d h = absurd (cc)
declared_there (x ∷ xs) zero d h = let same : x ≡ d = cc in ap (λ z. Some (decl z)) same
declared_there (x ∷ xs) (suc k) d h = declared_there xs k d h

pub none_there : (xs : List CoreDecl) (k : ℕ) → slice_get xs k ≡ None → slice_get (map decl xs) k ≡ None
none_there [] k h = refl
none_there (x ∷ xs) zero h = absurd (cc)
none_there (x ∷ xs) (suc k) h = none_there xs k h

-- what is read of a slice
pub there : (xs ys : List CoreDecl) (k : ℕ) (d : Bor CoreDecl) → xs ≡ ys → IsItemAt xs k (Some d) → slice_get ys k ≡ Some d.now
there xs ys k d same item = subst (λ zs. slice_get zs k ≡ Some d.now) same (slice_get-get_or xs k d.now item.3.0 ∙ ap Some (sym item.1))

pub not_there : (xs ys : List CoreDecl) (k : ℕ) → xs ≡ ys → IsItemAt xs k None → slice_get ys k ≡ None
not_there xs ys k same item = subst (λ zs. slice_get zs k ≡ None) same (slice_get_past xs k item.3)

-- the declaration with a number
pub this_number : (t : Task) (old new : Run) (before after : List hands.HeldName) (k : ℕ) (d : CoreDecl) (x : Result (Unit {0}) Stop) → slice_get t.program.now.decls.items k ≡ Some d → DeclarationEnds t old new before after (decl d) x → NumberEnds t old new before after k x
unfolding plain_program
this_number t old new before after k d x there ends = record {
  by = λ ks h. ends.by (ordered (program_of t).decls ks) (subst (IsUpTo t old before) (ap (with_decl (ordered (program_of t).decls ks)) (declared_there t.program.now.decls.items k d there)) h);
}

pub no_number : (t : Task) (s : Run) (ns : List hands.HeldName) (k : ℕ) → slice_get t.program.now.decls.items k ≡ None → NumberEnds t s s ns ns k (Ok tt)
unfolding plain_program
no_number t s ns k there = record {
  by = λ ks h. subst (IsUpTo t s ns) (ap (with_decl (ordered (program_of t).decls ks)) (none_there t.program.now.decls.items k there)) h;
}

-- one more number
pub to_come : (t : Task) (old mid new : Run) (before ns after : List hands.HeldName) (all : List ℕ) (i : ℕ) → i < length all → AreToCome t old mid before ns all (drop i all) → NumberEnds t mid new ns after (get_or all i 0) (Ok tt) → AreToCome t old new before after all (drop (i + 1) all)
to_come t old mid new before ns after all i low so ends = record { by = λ h. ends.by (drop (i + 1) all) (subst (λ ks. IsUpTo t mid ns (ordered (program_of t).decls ks)) (drop_more all i 0 low) (so.by h)) }

stops_there : (t : Task) (old mid new : Run) (before ns after : List hands.HeldName) (all : List ℕ) (i : ℕ) (e : Stop) → i < length all → AreToCome t old mid before ns all (drop i all) → NumberEnds t mid new ns after (get_or all i 0) (Err e) → NumbersEnd t old new before after all (Err e)
stops_there t old mid new before ns after all i Memory low so ends = record { by = λ h. tt }
stops_there t old mid new before ns after all i (Refused f) low so ends = record { by = λ h. ends.by (drop (i + 1) all) (subst (λ ks. IsUpTo t mid ns (ordered (program_of t).decls ks)) (drop_more all i 0 low) (so.by h)) }

pub numbers_stop : (t : Task) (old mid new : Run) (before ns after : List hands.HeldName) (all : List ℕ) (i : ℕ) (x : Result (Unit {0}) Stop) (e : Stop) → i < length all → AreToCome t old mid before ns all (drop i all) → NumberEnds t mid new ns after (get_or all i 0) (Err e) → IsErrAnd x (λ z. z ≡ e) → NumbersEnd t old new before after all x
numbers_stop t old mid new before ns after all i (Ok o) e low so ends same = absurd same
numbers_stop t old mid new before ns after all i (Err z) e low so ends same = subst (λ z. NumbersEnd t old new before after all (Err z)) (sym same) (stops_there t old mid new before ns after all i e low so ends)

pub all_numbers : (t : Task) (old new : Run) (before after : List hands.HeldName) (all rest : List ℕ) → rest ≡ [] → AreToCome t old new before after all rest → NumbersEnd t old new before after all (Ok tt)
all_numbers t old new before after all rest none so = record { by = λ h. subst (λ ks. IsUpTo t new after (ordered (program_of t).decls ks)) none (so.by h) }

pub none_yet : (t : Task) (s : Run) (ns : List hands.HeldName) (all : List ℕ) → AreToCome t s s ns ns all all
none_yet t s ns all = record { by = λ h. h }
