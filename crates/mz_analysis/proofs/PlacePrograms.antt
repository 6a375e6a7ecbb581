-- The laws: the places of a typed program are those of its sections, and these lie in the files of the model and the data.
use Rattle.std.proofs.Common.{◌≡◌, ◌∙◌, ℕ, ◌+◌, ◌<◌, List, [], ◌∷◌, ◌++◌, Ok, length, refl, sym, subst, arith}
use Rattle.std.specs.Prelude.{All}
use Rattle.std.specs.List.{flat_map}
use Rattle.std.proofs.lemmas.List.Elements.{All-weaker}
use Rattle.mz_base.specs.declared.fault.Span.{Span}
use Rattle.mz_base.specs.Faults.{start_of}
use Rattle.mz_core.specs.Tree.{Tree, Decl, DeclaredType, declares, maybe, maybes}
use Rattle.mz_core.specs.Program.{Function, Goal, satisfy, minimize, maximize, PlainProgram}
use Rattle.mz_core.specs.Nodes.{nodes_in, in_maybe, in_maybes, in_decl, in_type}
use Rattle.mz_tree.specs.Tree.{Name}
use Rattle.mz_tree.specs.declared.source.SourceFile.{SourceFile}
use Rattle.mz_tree.specs.Kinds.{OfItem}
use Rattle.mz_scope_order.specs.Scoped.{ScopedTree}
use Rattle.mz_check_meaning.specs.Tests.{Test}
use Rattle.mz_check_meaning.specs.Checks.{Sections}
use Rattle.mz_check_meaning.proofs.Giving.{AllBy, all_both, all_indexed, Gives}
use Rattle.mz_check_data.specs.WithData.{AreNumbered, ChecksWithData, checked_with_data}
use Rattle.mz_analysis.proofs.ParPrograms.{all_hold, numbered_from}
use Rattle.mz_check.proofs.Contexts.{checked_numbered}
use Rattle.mz_include.specs.Views.{file, IsFileOf, AreKnown}
use Rattle.mz_include.specs.declared.with_data.gathering.SourcesWithData.{SourcesWithData}
use Rattle.mz_include.specs.WithData.{IsGivenKnown}
use Rattle.mz_analysis.specs.Known.{IsWithin, OfGiven, OfScoped}
use Rattle.mz_analysis.specs.Analysis.{IsTypedModel, IsRead, items_of, files_read, items_read, count_read}
use Rattle.mz_analysis.proofs.Items.{items_are, all_among}
use Rattle.mz_analysis.proofs.DataParts.{known_given}
use Rattle.mz_analysis.proofs.Parts.{of_scoped}
use Rattle.mz_meaning_laws.specs.Places.{own_places, places_in, type_places, decl_places, function_places, goal_places, places_of}
use Rattle.mz_analysis.specs.PlacePromise.{LiesIn}
use Rattle.mz_analysis.proofs.PlaceNodes.{OwnPlaces, IsPlaced, IsPlacedType, IsPlacedDecl, items_placed, maybe_placed, maybes_placed}
use Rattle.mz_analysis.proofs.Models.{IsPlacedFunction, IsPlacedGoal, ArePlacedSections, checked_placed}

-- what a test gives, where it is known
from_ok : {A : Type 0} (Q : A → Type 0) (t : Test A) (x : A) → t ≡ Ok x → Gives t Q → Q x
from_ok Q t x e h = subst (λ (r : Test _). Gives r Q) e h

-- ---- the places of sections

module _ (N : Name → Type 0) (P : Span → Type 0) where
  flat_placed : {A : Type 0} (Q : A → Type 0) (places : A → List Span) → ((x : A) → Q x → AllBy P (places x)) → (xs : List A) → AllBy Q xs → AllBy P (flat_map places xs)
  flat_placed Q places go [] h = tt
  flat_placed Q places go (x ∷ xs) h = all_both P (places x) (flat_map places xs) (go x h.0) (flat_placed Q places go xs h.1)

  nodes_placed : (es : List Tree) → AllBy (OwnPlaces P) es → AllBy P (flat_map own_places es)
  nodes_placed es h = flat_placed (OwnPlaces P) own_places (λ e k. k) es h

  tree_placed : (e : Tree) → IsPlaced P e → AllBy P (places_in e)
  tree_placed e h = nodes_placed (nodes_in e) h

  decl_placed : (d : Decl) → IsPlacedDecl P d → AllBy P (decl_places d)
  decl_placed d h = (h.span, (h.ty.span, nodes_placed (in_decl d) (items_placed P (declares d ∷ []) (h, tt))))

  type_placed : (t : DeclaredType) → IsPlacedType P t → AllBy P (type_places t)
  type_placed t h = (h.span, nodes_placed (in_type t) (all_both (OwnPlaces P) (in_maybes (maybes t.index)) (in_maybe (maybe t.set)) (maybes_placed P t.index h.index) (maybe_placed P t.set h.set)))

  function_placed : (f : Function) → IsPlacedFunction N P f → AllBy P (function_places f)
  function_placed f h = (
    h.0,
    all_both P (flat_map decl_places f.params) (type_places f.result ++ places_in f.body) (flat_placed (IsPlacedDecl P) decl_places decl_placed f.params h.1)
        (all_both P (type_places f.result) (places_in f.body) (type_placed f.result h.2) (tree_placed f.body h.3)),
  )

  goal_placed : (g : Goal) → IsPlacedGoal N P g → AllBy P (goal_places g)
  goal_placed satisfy h = tt
  goal_placed (minimize e) h = tree_placed e h
  goal_placed (maximize e) h = tree_placed e h

  program_placed : (all : Sections) (p : PlainProgram) → ArePlacedSections N P all → AllBy (IsPlacedDecl P) p.decls → p.functions ≡ all.functions → p.constraints ≡ all.constraints → p.goal ≡ all.goal → p.outputs ≡ all.outputs → AllBy P (places_of p)
  unfolding places_of
  program_placed all p h ds fs cs g os =
      all_both P (flat_map decl_places p.decls) (flat_map function_places p.functions ++ (flat_map places_in p.constraints ++ (goal_places p.goal ++ flat_map places_in p.outputs))) (flat_placed (IsPlacedDecl P) decl_places decl_placed p.decls ds)
      (all_both P (flat_map function_places p.functions) (flat_map places_in p.constraints ++ (goal_places p.goal ++ flat_map places_in p.outputs)) (flat_placed (IsPlacedFunction N P) function_places function_placed p.functions (subst (AllBy (IsPlacedFunction N P)) (sym fs) h.functions))
      (all_both P (flat_map places_in p.constraints) (goal_places p.goal ++ flat_map places_in p.outputs) (flat_placed (IsPlaced P) places_in tree_placed p.constraints (subst (AllBy (IsPlaced P)) (sym cs) h.constraints))
      (all_both P (goal_places p.goal) (flat_map places_in p.outputs) (goal_placed p.goal (subst (IsPlacedGoal N P) (sym g) h.goal))
      (flat_placed (IsPlaced P) places_in tree_placed p.outputs (subst (AllBy (IsPlaced P)) (sym os) h.outputs)))))

  checks_placed : (table : List (List ℕ)) (s : ScopedTree) (p : PlainProgram) → OfScoped N P s → P (start_of 0) → N 0 → ChecksWithData table s p → AllBy P (places_of p)
  checks_placed table s p of start first c =
      let h = from_ok (ArePlacedSections N P) (checked_with_data table s c.order) c.all c.are (checked_placed N P table s c.order of start first) in
      let numbers : AreNumbered c.all.decls = checked_numbered table s c.order c.all c.are in
      let decls = all_hold p.decls c.all.decls p.order c.program.ordered c.program.counted (numbered_from 0 c.all.decls (λ i d low. numbers i d low ∙ (let z : i ≡ 0 + i = omega arith in z))) (IsPlacedDecl P) h.decls in
      program_placed c.all p h decls c.program.functions c.program.constraints c.program.goal c.program.outputs

-- ---- the laws

pub typing_keeps_places : (names files : ℕ) (table : List (List ℕ)) (s : ScopedTree) (p : PlainProgram) → 0 < names → 0 < files → IsWithin names files s → ChecksWithData table s p → LiesIn files p
typing_keeps_places names files table s p first some within c = all_indexed (λ at. at.file < files) (places_of p) (checks_placed (λ n. n < names) (λ at. at.file < files) table s p within some first c)

some_name : (table : List (List ℕ)) (fs : List SourceFile) → 0 < length fs → AreKnown table fs → 0 < length table
some_name table [] some known = absurd (omega (arith, some))
some_name table (f ∷ fs) some known = let first : IsFileOf table 0 f = known 0 f refl in let name = first.name in omega (arith, name)

read_within : (table : List (List ℕ)) (read : SourcesWithData) (p : PlainProgram) → IsRead table read → (h : IsTypedModel table (files_read table read) (items_read read) p) → IsWithin (length table) (count_read read) h.scoped
read_within table read p known h =
    let named : ℕ → Type 0 = λ n. n < length table in
    let placed : Span → Type 0 = λ at. at.file < count_read read in
    let items = subst (λ is. All (OfItem named placed) is) (items_are table read.sources.files.items) (all_among table read.sources.files.items (count_read read) (omega arith) known.files) in
    of_scoped named placed (items_of (files_read table read)) (items_read read) h.scoped items
    (All-weaker (IsGivenKnown (length table) (count_read read)) (OfGiven named placed) (known_given (length table) (count_read read)) (items_read read) known.items) h.is.scoped

pub programs_lie_in_their_files : (table : List (List ℕ)) (read : SourcesWithData) (p : PlainProgram) → IsRead table read → IsTypedModel table (files_read table read) (items_read read) p → LiesIn (count_read read) p
programs_lie_in_their_files table read p known h =
    let some = known.some in
    typing_keeps_places (length table) (count_read read) table h.scoped p (some_name table read.sources.files.items known.some known.files) (omega (arith, some)) (read_within table read p known h) h.types
