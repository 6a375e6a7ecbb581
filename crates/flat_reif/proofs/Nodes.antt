-- A node over the arguments of its children.
use Rattle.std.proofs.Common.{◌≡◌, ℕ, false, List, [], ◌∷◌, length, map, take, Some, None, IsSome, slice_get, refl, sym, ap, ap₂, subst, ◌∙◌, arith}
use Rattle.mz_arena.specs.declared.node.NodeKind.{NodeKind}
use Rattle.mz_arena.specs.declared.node.NodeKind.TheVariants as kinds
use Rattle.mz_arena.specs.Entries.{Entry, at, is_free, children}
use Rattle.mz_arena.specs.Values as terms
use Rattle.mz_arena.specs.Values.{Term, Val}
use Rattle.mz_arena.specs.Terms as the_terms
use Rattle.mz_arena.specs.Terms.{term, node_term}
use Rattle.mz_arena.specs.Extents.{Known, extent, extents, node_extent}
use Rattle.mz_arena.specs.InBounds.{AreInDomains, AreInBounds}
use Rattle.mz_arena.proofs.Folds.{unroll}
use Rattle.mz_arena.proofs.Terms as laws
use Rattle.mz_partial.specs.Totals.{IsTotal}
use Rattle.mz_partial.proofs.Standing.{total_some}
use Rattle.fz_program.specs.Arguments.{Plain}
use Rattle.fz_program.specs.Values.{Values}
use Rattle.fz_program.specs.Flat.{Program, FlatSolves, plain_value}
use Rattle.fz_build.specs.Build.{IsOver}
use Rattle.fz_build.specs.Growth.{Grows}
use Rattle.fz_build.proofs.Values.{domains_length}
use Rattle.flat_reif_rows.specs.Standing.{seen, Suits, AllSuit, of_kind, extent_over, term_over}
use Rattle.flat_reif_rows.specs.Making.{AreOperands, HasValue, Makes}
use Rattle.flat_reif_rows.specs.Laws.{is_own}
use Rattle.flat_reif_rows.proofs.Chains.{plain_taken}
use Rattle.flat_reif_rows.proofs.ToldByKind.{by_kind}
use Rattle.flat_reif.specs.States.{State, Meets, IsState}
use Rattle.flat_reif.proofs.Longer.{whole_taken, nothing_more}
use Rattle.flat_reif.proofs.Steps.{Stands}

-- ---- an entry of an arena

pub term_here : (s : State) (id : ℕ) (e : Entry) (v : terms.Values) → IsState s → slice_get s.es id ≡ Some e → term v s.es id ≡ node_term v e (map (term v s.es) (children e.node))
unfolding the_terms.terms
term_here s id e v g is = unroll (node_term v) s.es id e is (g.arena.ordered id e is)

pub extent_here : (s : State) (id : ℕ) (e : Entry) → IsState s → slice_get s.es id ≡ Some e → extent s.es id ≡ node_extent e (map (extent s.es) (children e.node))
unfolding extents
extent_here s id e g is = unroll node_extent s.es id e is (g.arena.ordered id e is)

pub record HasVal (t : Term) : Type 0 where
  pub value : Val
  pub is : t ≡ Some value

has_val : (t : Term) → IsSome t → HasVal t
has_val None h = absurd (cc)
has_val (Some x) h = record { value = x; is = refl }

pub total_value : (es : List Entry) (id : ℕ) (v : terms.Values) → IsTotal es id → AreInBounds es v → HasVal (term v es id)
total_value es id v t b = has_val (term v es id) (total_some es id t v b)

-- ---- the arguments of the children

abbrev pub AllHave : State → List ℕ → List Plain → Type 0
AllHave s [] [] = Unit {0}
AllHave s (i ∷ is) (p ∷ ps) = (at s.args i ≡ Some p) × AllHave s is ps
AllHave s _ _ = ⊥

abbrev pub values_of : Values → List Plain → List Term
values_of f ps = map (λ p. Some (seen (plain_value f p))) ps

pub all_suit : (s : State) (is : List ℕ) (ps : List Plain) → IsState s → AllHave s is ps → AllSuit s.prog.vars ps (map (extent s.es) is)
all_suit s [] [] g h = tt
all_suit s [] (p ∷ ps) g h = absurd h
all_suit s (i ∷ is) [] g h = absurd h
all_suit s (i ∷ is) (p ∷ ps) g h = (g.suits i p h.0, all_suit s is ps g h.1)

pub all_values : (s : State) (is : List ℕ) (ps : List Plain) (v : terms.Values) (f : Values) → IsState s → AreInDomains s.es v → Meets s v f → AllHave s is ps → map (term v s.es) is ≡ values_of f ps
all_values s [] [] v f g d m h = refl
all_values s [] (p ∷ ps) v f g d m h = absurd h
all_values s (i ∷ is) [] v f g d m h = absurd h
all_values s (i ∷ is) (p ∷ ps) v f g d m h = ap₂ (λ x xs. x ∷ xs) (g.right v f d m i p h.0) (all_values s is ps v f g d m h.1)

pub all_taken : (s : State) (is : List ℕ) (ps : List Plain) (f : Values) → IsState s → AllHave s is ps → values_of (take (length s.prog.vars) f) ps ≡ values_of f ps
all_taken s [] [] f g h = refl
all_taken s [] (p ∷ ps) f g h = absurd h
all_taken s (i ∷ is) [] f g h = absurd h
all_taken s (i ∷ is) (p ∷ ps) f g h = ap₂ (λ x xs. Some (seen x) ∷ xs) (plain_taken (length s.prog.vars) f p (g.places i p h.0)) (all_taken s is ps f g h.1)

-- ---- a node that is told by its kind

pub own_or_free : (k : NodeKind) → is_own k ≡ false → is_free k ≡ false
own_or_free kinds.Int h = absurd (cc)
own_or_free kinds.Bool h = absurd (cc)
own_or_free kinds.Var h = absurd (cc)
own_or_free kinds.Local h = absurd (cc)
own_or_free kinds.SetConst h = absurd (cc)
own_or_free kinds.SetVar h = absurd (cc)
own_or_free kinds.SetLocal h = absurd (cc)
own_or_free _ h = refl

module _ (s : State) (id : ℕ) (e : Entry) (g : IsState s) (is : slice_get s.es id ≡ Some e) (own : is_own e.node.kind ≡ false) where
  abbrev k : NodeKind
  k = e.node.kind

  pub extent_told : extent s.es id ≡ extent_over k (map (extent s.es) (children e.node))
  extent_told = extent_here s id e g is ∙ (by_kind e k own).extent (map (extent s.es) (children e.node))

  pub known_told : IsSome (extent_over k (map (extent s.es) (children e.node)))
  known_told = subst (λ (x : Known). IsSome x) extent_told (g.arena.bounded id e is)

  pub operands : (ps : List Plain) → AllHave s (children e.node) ps → AreOperands s.prog.vars k ps
  operands ps h = record { bounds = map (extent s.es) (children e.node); suit = all_suit s (children e.node) ps g h; known = known_told }

  pub term_told : (ps : List Plain) (v : terms.Values) (f : Values) → AreInDomains s.es v → Meets s v f → AllHave s (children e.node) ps → term v s.es id ≡ term_over v k ps f
  term_told ps v f d m h =
      term_here s id e v g is ∙ ap (node_term v e) (all_values s (children e.node) ps v f g d m h) ∙ (by_kind e k own).term v (values_of f ps)

  pub made_stands : (q : Program) (ps : List Plain) (out : Plain) → at s.args id ≡ None → IsTotal s.es id → AllHave s (children e.node) ps → Makes s.prog q k ps out → Stands s q id out
  made_stands q ps out none total h makes = record {
    entry = e;
    is = is;
    bound = own_or_free k own;
    none = none;
    Can = λ v. HasValue v k ps;
    grows = makes.grows;
    can = λ v f d m. (let x = total_value s.es id v total (laws.domains_lie s.es g.arena v d) in record { result = x.value; is = sym (term_told ps v f d m h) ∙ x.is });
    place = makes.place;
    suits = subst (Suits q.vars out) (sym extent_told) (makes.suits (map (extent s.es) (children e.node)) (all_suit s (children e.node) ps g h) known_told);
    value = λ v f d m t. term_told ps v (take (length s.prog.vars) f) d m h ∙ ap (the_terms.kind_term v (of_kind k) k) (all_taken s (children e.node) ps f g h) ∙ makes.value v f t;
    made = makes.made;
  }

-- ---- the same program

grows_same : (p : Program) (Can : Values → Type 0) → Grows p p Can
grows_same p Can = record {
  longer = omega arith;
  kept = λ k v h. h;
  down = λ f s. subst (FlatSolves p) (sym (all_taken_of f s)) s;
  up = λ f s c. record { rest = []; solves = subst (FlatSolves p) (sym (nothing_more f)) s };
  one = λ f k s t e. sym (all_taken_of f s) ∙ e ∙ all_taken_of k t;
}
  where
    all_taken_of : (f : Values) → FlatSolves p f → take (length p.vars) f ≡ f
    all_taken_of f s = whole_taken f (length p.vars) (domains_length p.vars f s.domains)

-- a node that is an argument over the variables so far
module _ (s : State) (id : ℕ) (e : Entry) (out : Plain) (g : IsState s) (is : slice_get s.es id ≡ Some e) (bound : is_free e.node.kind ≡ false) where
  pub same_stands : at s.args id ≡ None → IsOver (length s.prog.vars) out → Suits s.prog.vars out (extent s.es id) → ((v : terms.Values) (f : Values) → AreInDomains s.es v → Meets s v f → term v s.es id ≡ Some (seen (plain_value f out))) → Stands s s.prog id out
  same_stands none place suits value = record {
    entry = e;
    is = is;
    bound = bound;
    none = none;
    Can = λ v f. Unit {0};
    grows = λ v. grows_same s.prog (λ f. Unit {0});
    can = λ v f d m. tt;
    place = place;
    suits = suits;
    value = λ v f d m t. value v f d (subst (Meets s v) (whole_taken f (length s.prog.vars) (domains_length s.prog.vars f t.domains)) m);
    made = λ front n made. made;
  }
