-- A variable for two branches under a condition.
use Rattle.std.proofs.Common.{◌≡◌, ℕ, true, false, List, [], ◌∷◌, length, map, take, Option, Some, None, IsSome, slice_get, sym, ap, ap₂, subst, ◌∙◌}
use Rattle.std.specs.List.{AllByRecursion}
use Rattle.mz_operations.specs.Views.{◌>>=◌}
use Rattle.mz_arena.specs.declared.node.Node.{Node}
use Rattle.mz_arena.specs.declared.node.NodeKind.TheVariants as kinds
use Rattle.mz_arena.specs.Entries.{Entry, at, arity, children, is_free}
use Rattle.mz_arena.specs.Values as terms
use Rattle.mz_arena.specs.Terms.{kind_term, term}
use Rattle.mz_arena.specs.Extents.{Known, whole, truth, subset, wholes, truths, subsets, empty, as_whole, as_truth, as_subset, as_single, branch_extent, if_extent, extent}
use Rattle.mz_arena.specs.InBounds.{AreInDomains}
use Rattle.mz_arena.proofs.Terms as laws
use Rattle.mz_partial.specs.Totals.{IsTotal}
use Rattle.fz_program.specs.declared.row_name.RowName.{RowName}
use Rattle.fz_program.specs.declared.row_name.Kind.TheVariants.{Bool as Truth}
use Rattle.fz_program.specs.Arguments.{Plain}
use Rattle.fz_program.specs.Values.{Values}
use Rattle.fz_program.specs.Flat.{Variable, Program, is_plain}
use Rattle.flat_reif_rows.specs.Standing.{Suits, of_kind, extent_over, term_over}
use Rattle.flat_reif_rows.specs.Elements.{AreElements, element_row}
use Rattle.flat_reif_rows.specs.Branches.{branch_row, AreBranches, MakesBranch}
use Rattle.flat_reif_rows.specs.Making.{HasValue}
use Rattle.flat_reif_rows.specs.Laws.{is_own}
use Rattle.flat_reif_rows.proofs.Sorts.{whole_of, truth_of, subset_of, first_there}
use Rattle.flat_reif_rows.proofs.Truths.{truth_within}
use Rattle.flat_reif.specs.States.{State, Meets, IsState, put_at}
use Rattle.flat_reif.specs.Lists.{HasArg, IsGiven, IsReady, Gives}
use Rattle.flat_reif.proofs.Steps.{Stands}
use Rattle.flat_reif.proofs.Nodes.{AllHave, all_taken, total_value, term_told, extent_told}
use Rattle.flat_reif.proofs.Kids.{truth_single, if_kids}
use Rattle.flat_reif.proofs.Given.{has_arg, known_at, gives_at}

-- ---- the elements of the list of both

pub record HaveElements (vs : List Variable) (name : RowName) (ps : List Plain) : Type 0 where
  pub list : Known
  pub elements : AreElements vs ps list
  pub row : element_row list ≡ Some name

pub branch_elements : (vs : List Variable) (y z : Plain) (e f : Known) (name : RowName) → Suits vs y e → Suits vs z f → branch_row e ≡ Some name → IsSome (as_single e >>= λ b. branch_extent b f) → HaveElements vs name (z ∷ y ∷ [])
branch_elements vs y z None f name sy sz row h = absurd sy
branch_elements vs y z (Some (whole a)) f name sy sz row h =
    let o = whole_of f (first_there (as_whole f) _ h) in
    record { list = Some (wholes (o.ends ∷ a ∷ [])); elements = (subst (Suits vs z) o.is sz, (sy, tt)); row = row }
branch_elements vs y z (Some (truth a)) f name sy sz row h =
    let o = truth_of f (first_there (as_truth f) _ h) in
    record { list = Some truths; elements = ((subst (Suits vs z) o.is sz).sort, (sy.sort, tt)); row = row }
branch_elements vs y z (Some (subset u)) f name sy sz row h =
    let o = subset_of f (first_there (as_subset f) _ h) in
    record { list = Some (subsets (o.upper ∷ u ∷ [])); elements = (subst (Suits vs z) o.is sz, (sy, tt)); row = row }
branch_elements vs y z (Some (wholes es)) f name sy sz row h = absurd sy
branch_elements vs y z (Some truths) f name sy sz row h = absurd sy
branch_elements vs y z (Some (subsets us)) f name sy sz row h = absurd sy
branch_elements vs y z (Some empty) f name sy sz row h = absurd sy

pub branch_known : (x y z : Known) → IsSome (extent_over kinds.If (x ∷ y ∷ z ∷ [])) → IsSome (as_single y >>= λ b. branch_extent b z)
unfolding if_extent
branch_known x y z h = then_known (as_truth x) (as_single y >>= λ b. branch_extent b z) h
  where
    then_known : {A B : Type 0} (o : Option A) (p : Option B) → IsSome (o >>= λ a. p) → IsSome p
    then_known None p h = absurd (cc)
    then_known (Some a) p h = h

-- ---- the node

children_three : (n : Node) → n.kind ≡ kinds.If → children n ≡ n.a ∷ n.b ∷ n.c ∷ []
children_three n h = ap (λ k. take (arity k) (n.a ∷ n.b ∷ n.c ∷ [])) h

pub record HaveThree (s : State) (n : Node) : Type 0 where
  pub a : HasArg s n.a
  pub b : HasArg s n.b
  pub c : HasArg s n.c

module _ (s : State) (id : ℕ) (n : Node) (g : IsState s) (r : IsReady s id n) (kind : n.kind ≡ kinds.If) where
  abbrev x : Known
  x = extent s.es n.a

  abbrev y : Known
  y = extent s.es n.b

  abbrev z : Known
  z = extent s.es n.c

  pub known : IsSome (extent_over kinds.If (x ∷ y ∷ z ∷ []))
  known =
      subst (λ is. IsSome (extent_over kinds.If (map (extent s.es) is))) (children_three n kind)
      (subst (λ k. IsSome (extent_over k (map (extent s.es) (children n)))) kind (known_at s id n g (ap is_own kind) r.at_id))

  pub have_three : HaveThree s n
  have_three =
      let given = subst (AllByRecursion (IsGiven s)) (children_three n kind) r.given in
      let kids = if_kids x y z known in
      record { a = has_arg s g n.a given.0 (truth_single x kids.condition); b = has_arg s g n.b given.1.0 kids.yes; c = has_arg s g n.c given.1.1.0 kids.no }

  module _ (name : RowName) (p q t : Plain) (hp : at s.args n.a ≡ Some p) (hq : at s.args n.b ≡ Some q) (ht : at s.args n.c ≡ Some t) (row : branch_row y ≡ Some name) where
    condition_sort : is_plain s.prog.vars Truth p ≡ true
    condition_sort = let o = truth_of x (if_kids x y z known).condition in (subst (Suits s.prog.vars p) o.is (g.suits n.a p hp)).sort

    pub branches : AreBranches s.prog.vars name p q t
    branches =
        let e = branch_elements s.prog.vars q t y z name (g.suits n.b q hq) (g.suits n.c t ht) row (branch_known x y z known) in
        record { condition = truth_within s.prog.vars p condition_sort; list = e.list; elements = e.elements; row = e.row }

-- of the entry itself
module _ (s : State) (id : ℕ) (e : Entry) (g : IsState s) (is : slice_get s.es id ≡ Some e) (kind : e.node.kind ≡ kinds.If) (none : at s.args id ≡ None) (total : IsTotal s.es id) where
  own : is_own e.node.kind ≡ false
  own = ap is_own kind

  bounds_are : extent s.es id ≡ extent_over kinds.If (extent s.es e.node.a ∷ extent s.es e.node.b ∷ extent s.es e.node.c ∷ [])
  bounds_are = extent_told s id e g is own ∙ ap₂ (λ k is. extent_over k (map (extent s.es) is)) kind (children_three e.node kind)

  branch_stands : (q : Program) (name : RowName) (c y z out : Plain) → at s.args e.node.a ≡ Some c → at s.args e.node.b ≡ Some y → at s.args e.node.c ≡ Some z → branch_row (extent s.es e.node.b) ≡ Some name → MakesBranch s.prog q name c y z out → Stands s q id out
  branch_stands q name c y z out hc hy hz row makes =
      let have : AllHave s (children e.node) (c ∷ y ∷ z ∷ []) = subst (λ is. AllHave s is (c ∷ y ∷ z ∷ [])) (sym (children_three e.node kind)) (hc, (hy, (hz, tt))) in
      let told : (v : terms.Values) (f : Values) → AreInDomains s.es v → Meets s v f → term v s.es id ≡ term_over v kinds.If (c ∷ y ∷ z ∷ []) f = λ v f d m. term_told s id e g is own (c ∷ y ∷ z ∷ []) v f d m have ∙ ap (λ k. term_over v k (c ∷ y ∷ z ∷ []) f) kind in
      record {
        entry = e;
        is = is;
        bound = ap is_free kind;
        none = none;
        Can = λ v. HasValue v kinds.If (c ∷ y ∷ z ∷ []);
        grows = makes.grows;
        can = λ v f d m. (let x = total_value s.es id v total (laws.domains_lie s.es g.arena v d) in record { result = x.value; is = sym (told v f d m) ∙ x.is });
        place = makes.place;
        suits = subst (Suits q.vars out) (sym bounds_are) (makes.suits (extent s.es e.node.a) (extent s.es e.node.b) (extent s.es e.node.c) (g.suits e.node.b y hy) (g.suits e.node.c z hz) row (subst (λ (x : Known). IsSome x) bounds_are (g.arena.bounded id e is)));
        value = λ v f d m t. told v (take (length s.prog.vars) f) d m ∙ ap (kind_term v (of_kind kinds.If) kinds.If) (all_taken s (children e.node) (c ∷ y ∷ z ∷ []) f g have) ∙ makes.value v f t;
        made = makes.made;
      }

  branch_gives : (q : Program) (name : RowName) (c y z out : Plain) (args : List (Option Plain)) → at s.args e.node.a ≡ Some c → at s.args e.node.b ≡ Some y → at s.args e.node.c ≡ Some z → branch_row (extent s.es e.node.b) ≡ Some name → MakesBranch s.prog q name c y z out → args ≡ put_at s.args id out → Gives s (record { es = s.es; prog = q; args = args }) id
  branch_gives q name c y z out args hc hy hz row makes put = gives_at s q id out args g (branch_stands q name c y z out hc hy hz row makes) put

pub branches_given : (s : State) (id : ℕ) (n : Node) (g : IsState s) → IsReady s id n → n.kind ≡ kinds.If → (q : Program) (name : RowName) (c y z out : Plain) (args : List (Option Plain)) → at s.args n.a ≡ Some c → at s.args n.b ≡ Some y → at s.args n.c ≡ Some z → branch_row (extent s.es n.b) ≡ Some name → MakesBranch s.prog q name c y z out → args ≡ put_at s.args id out → Gives s (record { es = s.es; prog = q; args = args }) id
branches_given s id n g r kind q name c y z out args hc hy hz row makes put =
    subst (λ (m : Node). m.kind ≡ kinds.If → at s.args m.a ≡ Some c → at s.args m.b ≡ Some y → at s.args m.c ≡ Some z → branch_row (extent s.es m.b) ≡ Some name → Gives s (record { es = s.es; prog = q; args = args }) id) r.at_id.node
    (λ k a b d w. branch_gives s id r.at_id.entry g r.at_id.is k r.none r.total q name c y z out args a b d w makes put) kind hc hy hz row
