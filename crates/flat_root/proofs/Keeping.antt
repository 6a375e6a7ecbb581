-- Steps, one after the other, while the terms go on.
use Rattle.std.proofs.Common.{◌≡◌, ℕ, suc, ◌+◌, ◌<◌, ◌≤◌, Bool, true, false, List, [], ◌∷◌, ◌++◌, length, take, Option, Some, IsSome, slice_get, refl, sym, ap, ap₂, subst, ◌∙◌, arith}
use Rattle.mz_arena.specs.declared.node.NodeKind.{NodeKind}
use Rattle.mz_arena.specs.declared.node.NodeKind.TheVariants as kinds
use Rattle.mz_arena.specs.Entries.{Entry, at, is_free, is_local}
use Rattle.mz_arena.specs.Values as terms
use Rattle.mz_arena.specs.Arenas.{Extends}
use Rattle.mz_arena.specs.InBounds.{AreInDomains}
use Rattle.mz_arena.proofs.Folds.{get-below}
use Rattle.mz_partial.proofs.Standing.{extends_same, extends_both}
use Rattle.fz_program.specs.Arguments.{Plain}
use Rattle.fz_program.specs.Values.{Values}
use Rattle.fz_program.specs.Flat.{Program, FlatSolves}
use Rattle.fz_build.specs.History.{Made}
use Rattle.fz_build.proofs.Values.{domains_length}
use Rattle.flat_reif_rows.proofs.Chains.{all_in_turn}
use Rattle.flat_reif.specs.States.{State, Meets, Spreads, Always, one_choice, given_choices}
use Rattle.flat_reif.specs.Lists.{is_front, HasFront}
use Rattle.flat_reif.specs.Roots.{Grown}
use Rattle.flat_reif.proofs.Longer.{nothing_more, whole_taken, fewer_taken}
use Rattle.flat_root.specs.Keeps.{Keeps, IsReadyState}

-- ---- the terms go on

-- values in the domains of the longer arena
pub fewer_domains : (xs ys : List Entry) → Extends xs ys → (v : terms.Values) → AreInDomains ys v → AreInDomains xs v
fewer_domains xs ys x v d id e c k l = d id e c (x.grew.same id (get-below xs id e k) ∙ k) (x.grew.same e.node.a (get-below xs e.node.a c l) ∙ l)

-- ---- how many choices have an argument

local_free : (k : NodeKind) → is_local k ≡ true → is_free k ≡ true
local_free kinds.Local h = refl
local_free kinds.SetLocal h = refl
local_free _ h = absurd (cc)

no_choices : (es : List Entry) (args : List (Option Plain)) → ((id : ℕ) (e : Entry) → slice_get es id ≡ Some e → is_local e.node.kind ≡ false) → given_choices es args ≡ 0
no_choices [] args h = refl
no_choices (e ∷ es) [] h = refl
no_choices (e ∷ es) (a ∷ args) h = ap₂ (λ x n. x + n) (none (is_local e.node.kind) a (h 0 e refl)) (no_choices es args (λ id d k. h (suc id) d k))
  where
    none : (b : Bool) (a : Option Plain) → b ≡ false → one_choice b a ≡ 0
    none true a f = absurd (cc)
    none false a f = refl

same_head : (d e : Entry) → Some d ≡ Some e → d ≡ e
same_head d e h = cc

same_choices : (xs ys : List Entry) (args : List (Option Plain)) → length xs ≤ length ys → ((id : ℕ) → id < length xs → slice_get ys id ≡ slice_get xs id) → ((id : ℕ) (e : Entry) → slice_get ys id ≡ Some e → is_local e.node.kind ≡ true → id < length xs) → given_choices ys args ≡ given_choices xs args
same_choices [] ys args l same frees = no_choices ys args (λ id e k. not_local (is_local e.node.kind) (λ h. frees id e k h))
  where
    not_local : {m : ℕ} (b : Bool) → (b ≡ true → m < 0) → b ≡ false
    not_local true h = absurd (omega (arith, h refl))
    not_local false h = refl
same_choices (x ∷ xs) [] args l same frees = absurd (omega (arith, l))
same_choices (x ∷ xs) (y ∷ ys) [] l same frees = refl
same_choices (x ∷ xs) (y ∷ ys) (a ∷ args) l same frees =
    ap₂ (λ (e : Entry) n. one_choice (is_local e.node.kind) a + n) (same_head y x (same 0 (omega arith)))
    (same_choices xs ys args (omega (arith, l)) (λ id h. same (suc id) (omega (arith, h))) (λ id e k h. (let m = frees (suc id) e k h in omega (arith, m))))

-- ---- steps

-- the terms stay
pub keeps_spread : (s t : State) (C : terms.Values → Type 0) → Spreads s t C → Keeps s t C
keeps_spread s t C g = record {
  extends = subst (Extends s.es) (sym g.same) (extends_same s.es);
  longer = g.longer;
  keeps = g.keeps;
  down = g.down;
  holds = g.holds;
  up = g.up;
  one = g.one;
  made = g.made;
}

-- the terms go on
module _ (s t : State) (g : Grown s t) where
  fewer : (v : terms.Values) (f : Values) → Meets t v f → Meets s v f
  fewer v f m = record {
    solves = subst (λ p. FlatSolves p f) g.prog m.solves;
    linked = λ id e p k free l. m.linked id e p (g.extends.grew.same id (get-below s.es id e k) ∙ k) free (ap (λ xs. at xs id) g.args ∙ l);
  }

  more : (v : terms.Values) (f : Values) → Meets s v f → Meets t v f
  more v f m = record {
    solves = subst (λ p. FlatSolves p f) (sym g.prog) m.solves;
    linked = λ id e p k free l. m.linked id e p (sym (g.extends.grew.same id (g.extends.frees id e k free)) ∙ k) free (ap (λ xs. at xs id) (sym g.args) ∙ l);
  }

  whole : (v : terms.Values) (f : Values) → Meets t v f → take (length s.prog.vars) f ≡ f
  whole v f m = whole_taken f (length s.prog.vars) (domains_length s.prog.vars f (fewer v f m).solves.domains)

  choices : given_choices t.es t.args ≡ given_choices s.es s.args
  choices =
      ap (given_choices t.es) g.args
      ∙ same_choices s.es t.es s.args g.extends.grew.longer g.extends.grew.same (λ id e k l. g.extends.frees id e k (local_free e.node.kind l))

  pub keeps_grown : Keeps s t Always
  keeps_grown = record {
    extends = g.extends;
    longer = omega (arith, ap (λ (p : Program). length p.vars) g.prog);
    keeps = λ id p k. ap (λ xs. at xs id) g.args ∙ k;
    down = λ v f m. subst (Meets s v) (sym (whole v f m)) (fewer v f m);
    holds = λ v f d m. tt;
    up = λ v f d c m. record { rest = []; meets = subst (Meets t v) (sym (nothing_more f)) (more v f m) };
    one = λ v f k m w e. sym (whole v f m) ∙ e ∙ whole v k w;
    made = λ front h. subst (λ p. Made front p (given_choices t.es t.args)) (sym g.prog) (subst (Made front s.prog) (sym choices) h);
  }

  pub ready_grown : HasFront s → IsReadyState t
  ready_grown h = record {
    state = g.state;
    front = λ id e is front. subst (λ xs. IsSome (at xs id)) (sym g.args) (h id e (sym (g.extends.grew.same id (g.extends.frees id e is (front_free e.node.kind front))) ∙ is) front);
  }
    where
      front_free : (k : NodeKind) → is_front k ≡ true → is_free k ≡ true
      front_free kinds.Var h = refl
      front_free kinds.SetVar h = refl
      front_free _ h = absurd (cc)

-- two steps are one
pub keeps_twice : (p q r : State) (C D : terms.Values → Type 0) → Keeps p q C → Keeps q r D → Keeps p r (λ v. C v × D v)
keeps_twice p q r C D g h =
    let m = length p.prog.vars in
    let n = length q.prog.vars in
    record {
      extends = extends_both p.es q.es r.es g.extends h.extends;
      longer = omega (arith, g.longer, h.longer);
      keeps = λ id a k. h.keeps id a (g.keeps id a k);
      down = λ v f w. subst (Meets p v) (fewer_taken f m n g.longer) (g.down v (take n f) (h.down v f w));
      holds = λ v f d w. (g.holds v (take n f) (fewer_domains q.es r.es h.extends v d) (h.down v f w), h.holds v f d w);
      up = λ v f d c w.
          let x = g.up v f (fewer_domains q.es r.es h.extends v d) c.0 w in
          let y = h.up v (f ++ x.rest) d c.1 x.meets in
          record { rest = x.rest ++ y.rest; meets = subst (Meets r v) (all_in_turn f x.rest y.rest) y.meets };
      one = λ v f k w z e. h.one v f k w z (g.one v (take n f) (take n k) (h.down v f w) (h.down v k z) (fewer_taken f m n g.longer ∙ e ∙ sym (fewer_taken k m n g.longer)));
      made = λ front made. h.made front (g.made front made);
    }

-- the same condition in other words, where the values are in their domains
pub keeps_where : (p q : State) (C D : terms.Values → Type 0) → Keeps p q C → ((v : terms.Values) → AreInDomains q.es v → C v → D v) → ((v : terms.Values) → AreInDomains q.es v → D v → C v) → Keeps p q D
keeps_where p q C D g to from = record {
  extends = g.extends;
  longer = g.longer;
  keeps = g.keeps;
  down = g.down;
  holds = λ v f d m. to v d (g.holds v f d m);
  up = λ v f d c m. g.up v f d (from v d c) m;
  one = g.one;
  made = g.made;
}
