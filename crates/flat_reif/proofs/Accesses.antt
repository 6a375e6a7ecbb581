-- Accesses to lists.
use Rattle.std.proofs.Common.{◌≡◌, ℕ, List, [], ◌∷◌, length, map, take, Option, Some, None, IsSome, slice_get, if◌then◌else◌, refl, sym, ap, ap₂, subst, ◌∙◌}
use Rattle.mz_value.specs.Ranges.{Range}
use Rattle.mz_interval.specs.Ends.{Ends}
use Rattle.mz_operations.specs.Views.{◌>>=◌}
use Rattle.mz_arena.specs.declared.node.Node.{Node}
use Rattle.mz_arena.specs.declared.node.NodeKind.{NodeKind}
use Rattle.mz_arena.specs.declared.node.NodeKind.TheVariants as kinds
use Rattle.mz_arena.specs.Entries.{Entry, at, arity, is_free}
use Rattle.mz_arena.specs.Values as terms
use Rattle.mz_arena.specs.Values.{access_term}
use Rattle.mz_arena.specs.Terms.{term, kind_term}
use Rattle.mz_arena.specs.Extents.{Known, whole, truth, subset, wholes, truths, subsets, empty, as_single, as_wholes, as_subsets, is_truths, before_extent, cons_extent, extent, kind_extent}
use Rattle.mz_arena.specs.InBounds.{AreInDomains}
use Rattle.mz_arena.proofs.Terms as laws
use Rattle.mz_partial.specs.Totals.{IsTotal}
use Rattle.fz_program.specs.declared.row_name.RowName.{RowName}
use Rattle.fz_program.specs.declared.row_name.Kind.TheVariants.{Int}
use Rattle.fz_program.specs.Arguments.{Plain}
use Rattle.fz_program.specs.Values.{Values}
use Rattle.fz_program.specs.Flat.{Variable, Program, plain_value}
use Rattle.fz_build.specs.Bounds.{ends_of}
use Rattle.flat_reif_rows.specs.Standing.{seen, LiesWithin, Suits, extent_over}
use Rattle.flat_reif_rows.specs.Elements.{AllWhole, AllSubset, AllTruth, AreElements, element_row, Reaches, AreAccessed, HasElement, MakesAccess, list_term}
use Rattle.flat_reif_rows.proofs.Sorts.{OfWhole, whole_of}
use Rattle.flat_reif_rows.proofs.Chains.{plain_taken}
use Rattle.flat_reif.specs.States.{State, Meets, IsState, put_at}
use Rattle.flat_reif.specs.Lists.{IsNode, ListArgs, nil, cons, IsReady, Gives}
use Rattle.flat_reif.proofs.Steps.{Stands}
use Rattle.flat_reif.proofs.Nodes.{term_here, extent_here, total_value}
use Rattle.flat_reif.proofs.Kids.{access_kids}
use Rattle.flat_reif.proofs.Given.{gives_at}
use Rattle.flat_reif.proofs.Gathering.{list_value, list_taken}

-- ---- the elements of a list

-- elements of a list with these bounds, which may have none
abbrev pub AreListed : List Variable → List Plain → Known → Type 0
AreListed vs ps (Some empty) = ps ≡ []
AreListed vs ps x = AreElements vs ps x

module _ (vs : List Variable) (p : Plain) (ps : List Plain) where
  wholes_listed : (e : Ends) (y : Known) → LiesWithin Int vs p e → AreListed vs ps y → IsSome (as_wholes y >>= λ es. Some (wholes (e ∷ es))) → AreListed vs (p ∷ ps) (as_wholes y >>= λ es. Some (wholes (e ∷ es)))
  wholes_listed e None l h some = absurd (cc)
  wholes_listed e (Some (whole f)) l h some = absurd (cc)
  wholes_listed e (Some (truth f)) l h some = absurd (cc)
  wholes_listed e (Some (subset u)) l h some = absurd (cc)
  wholes_listed e (Some (wholes es)) l h some = (l, h)
  wholes_listed e (Some truths) l h some = absurd (cc)
  wholes_listed e (Some (subsets us)) l h some = absurd (cc)
  wholes_listed e (Some empty) l h some = (l, subst (λ qs. AllWhole vs qs []) (sym h) tt)

  truths_listed : (e : Ends) (y : Known) → Suits vs p (Some (truth e)) → AreListed vs ps y → IsSome (if is_truths y then Some truths else None) → AreListed vs (p ∷ ps) (if is_truths y then Some truths else None)
  truths_listed e None l h some = absurd (cc)
  truths_listed e (Some (whole f)) l h some = absurd (cc)
  truths_listed e (Some (truth f)) l h some = absurd (cc)
  truths_listed e (Some (subset u)) l h some = absurd (cc)
  truths_listed e (Some (wholes es)) l h some = absurd (cc)
  truths_listed e (Some truths) l h some = (l.sort, h)
  truths_listed e (Some (subsets us)) l h some = absurd (cc)
  truths_listed e (Some empty) l h some = (l.sort, subst (AllTruth vs) (sym h) tt)

  subsets_listed : (u : List Range) (y : Known) → Suits vs p (Some (subset u)) → AreListed vs ps y → IsSome (as_subsets y >>= λ us. Some (subsets (u ∷ us))) → AreListed vs (p ∷ ps) (as_subsets y >>= λ us. Some (subsets (u ∷ us)))
  subsets_listed u None l h some = absurd (cc)
  subsets_listed u (Some (whole f)) l h some = absurd (cc)
  subsets_listed u (Some (truth f)) l h some = absurd (cc)
  subsets_listed u (Some (subset w)) l h some = absurd (cc)
  subsets_listed u (Some (wholes es)) l h some = absurd (cc)
  subsets_listed u (Some truths) l h some = absurd (cc)
  subsets_listed u (Some (subsets us)) l h some = (l, h)
  subsets_listed u (Some empty) l h some = (l, subst (λ qs. AllSubset vs qs []) (sym h) tt)

  before_listed : (x y : Known) → Suits vs p x → AreListed vs ps y → IsSome (as_single x >>= λ b. before_extent b y) → AreListed vs (p ∷ ps) (as_single x >>= λ b. before_extent b y)
  before_listed None y l h some = absurd l
  before_listed (Some (whole e)) y l h some = wholes_listed e y l h some
  before_listed (Some (truth e)) y l h some = truths_listed e y l h some
  before_listed (Some (subset u)) y l h some = subsets_listed u y l h some
  before_listed (Some (wholes es)) y l h some = absurd l
  before_listed (Some truths) y l h some = absurd l
  before_listed (Some (subsets us)) y l h some = absurd l
  before_listed (Some empty) y l h some = absurd l

  cons_listed : (x y : Known) → Suits vs p x → AreListed vs ps y → IsSome (cons_extent x y) → AreListed vs (p ∷ ps) (cons_extent x y)
  unfolding cons_extent
  cons_listed x y l h some = before_listed x y l h some

with_row : (vs : List Variable) (ps : List Plain) (x : Known) (name : RowName) → AreListed vs ps x → element_row x ≡ Some name → AreElements vs ps x
with_row vs ps None name h r = absurd (cc)
with_row vs ps (Some (whole e)) name h r = absurd (cc)
with_row vs ps (Some (truth e)) name h r = absurd (cc)
with_row vs ps (Some (subset u)) name h r = absurd (cc)
with_row vs ps (Some (wholes es)) name h r = h
with_row vs ps (Some truths) name h r = h
with_row vs ps (Some (subsets us)) name h r = h
with_row vs ps (Some empty) name h r = absurd (cc)

module _ (s : State) (g : IsState s) where
  kind_is : (id : ℕ) (e : Entry) (k : NodeKind) → slice_get s.es id ≡ Some e → e.node.kind ≡ k → extent s.es id ≡ kind_extent e k (map (extent s.es) (take (arity k) (e.node.a ∷ e.node.b ∷ e.node.c ∷ [])))
  kind_is id e k is kind = extent_here s id e g is ∙ ap (λ j. kind_extent e j (map (extent s.es) (take (arity j) (e.node.a ∷ e.node.b ∷ e.node.c ∷ [])))) kind

  pub list_listed : (id : ℕ) (ps : List Plain) → ListArgs s.es s.args id ps → AreListed s.prog.vars ps (extent s.es id)
  list_listed id [] (nil e is kind) = subst (AreListed s.prog.vars []) (sym (kind_is id e kinds.Nil is kind)) refl
  list_listed id (p ∷ ps) (cons e is kind here rest) =
      let same = kind_is id e kinds.Cons is kind in
      subst (AreListed s.prog.vars (p ∷ ps)) (sym same)
      (cons_listed s.prog.vars p ps (extent s.es e.node.a) (extent s.es e.node.b) (g.suits e.node.a p here) (list_listed e.node.b ps rest) (subst (λ (x : Known). IsSome x) same (g.arena.bounded id e is)))

-- ---- the node

module _ (s : State) (id : ℕ) (e : Entry) (g : IsState s) (is : slice_get s.es id ≡ Some e) (kind : e.node.kind ≡ kinds.Access) where
  abbrev x : Known
  x = extent s.es e.node.a

  abbrev y : Known
  y = extent s.es e.node.b

  bounds_are : extent s.es id ≡ extent_over kinds.Access (x ∷ y ∷ [])
  bounds_are = kind_is s g id e kinds.Access is kind

  term_is : (v : terms.Values) → term v s.es id ≡ access_term (term v s.es e.node.a) (term v s.es e.node.b)
  term_is v = term_here s id e v g is ∙ ap (λ j. kind_term v e j (map (term v s.es) (take (arity j) (e.node.a ∷ e.node.b ∷ e.node.c ∷ [])))) kind

  index : OfWhole x
  index = whole_of x (access_kids x y (subst (λ (z : Known). IsSome z) bounds_are (g.arena.bounded id e is))).0

  module _ (name : RowName) (i : Plain) (ps : List Plain) (hi : at s.args e.node.a ≡ Some i) (l : ListArgs s.es s.args e.node.b ps) (row : element_row y ≡ Some name) where
    inside : LiesWithin Int s.prog.vars i index.ends
    inside = subst (Suits s.prog.vars i) index.is (g.suits e.node.a i hi)

    elements : AreElements s.prog.vars ps y
    elements = with_row s.prog.vars ps y name (list_listed s g e.node.b ps l) row

    accessed : Reaches (ends_of s.prog.vars i) (length ps) → AreAccessed s.prog.vars name i ps
    accessed r = record { index = index.ends; inside = inside; list = y; elements = elements; row = row; reaches = r }

    told : (v : terms.Values) (f : Values) → AreInDomains s.es v → Meets s v f → term v s.es id ≡ access_term (Some (seen (plain_value f i))) (list_term f ps)
    told v f d m = term_is v ∙ ap₂ access_term (g.right v f d m e.node.a i hi) (list_value s g v f d m e.node.b ps l)

    access_stands : (q : Program) (out : Plain) → at s.args id ≡ None → IsTotal s.es id → MakesAccess s.prog q name i ps out → Stands s q id out
    access_stands q out none total a = record {
      entry = e;
      is = is;
      bound = ap is_free kind;
      none = none;
      Can = λ v. HasElement v i ps;
      grows = a.grows;
      can = λ v f d m. (let z = total_value s.es id v total (laws.domains_lie s.es g.arena v d) in record { result = z.value; is = sym (told v f d m) ∙ z.is });
      place = a.place;
      suits = subst (Suits q.vars out) (sym (bounds_are ∙ ap (λ z. extent_over kinds.Access (z ∷ y ∷ [])) index.is)) (a.suits index.ends y inside elements row);
      value = λ v f d m t. told v (take (length s.prog.vars) f) d m ∙ ap₂ access_term (ap (λ z. Some (seen z)) (plain_taken (length s.prog.vars) f i (g.places e.node.a i hi))) (list_taken s g f e.node.b ps l) ∙ a.value v f t;
      made = a.made;
    }

pub accessed_at : (s : State) (id : ℕ) (n : Node) → IsState s → IsNode s.es id n → n.kind ≡ kinds.Access → (name : RowName) (i : Plain) (ps : List Plain) → at s.args n.a ≡ Some i → ListArgs s.es s.args n.b ps → element_row (extent s.es n.b) ≡ Some name → Reaches (ends_of s.prog.vars i) (length ps) → AreAccessed s.prog.vars name i ps
accessed_at s id n g h kind name i ps hi l row r =
    subst (λ (m : Node). m.kind ≡ kinds.Access → at s.args m.a ≡ Some i → ListArgs s.es s.args m.b ps → element_row (extent s.es m.b) ≡ Some name → AreAccessed s.prog.vars name i ps) h.node
    (λ k a b w. accessed s id h.entry g h.is k name i ps a b w r) kind hi l row

pub access_given : (s : State) (id : ℕ) (n : Node) → IsState s → IsReady s id n → n.kind ≡ kinds.Access → (q : Program) (name : RowName) (i : Plain) (ps : List Plain) (out : Plain) (args : List (Option Plain)) → at s.args n.a ≡ Some i → ListArgs s.es s.args n.b ps → element_row (extent s.es n.b) ≡ Some name → MakesAccess s.prog q name i ps out → args ≡ put_at s.args id out → Gives s (record { es = s.es; prog = q; args = args }) id
access_given s id n g r kind q name i ps out args hi l row makes put =
    let h = r.at_id in
    subst (λ (m : Node). m.kind ≡ kinds.Access → at s.args m.a ≡ Some i → ListArgs s.es s.args m.b ps → element_row (extent s.es m.b) ≡ Some name → Gives s (record { es = s.es; prog = q; args = args }) id) h.node
    (λ k a b w. gives_at s q id out args g (access_stands s id h.entry g h.is k name i ps a b w q out r.none r.total makes) put) kind hi l row
