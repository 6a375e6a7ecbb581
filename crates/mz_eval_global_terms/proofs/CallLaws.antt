-- What a call's node is, from what its arguments' nodes are.
use Rattle.std.proofs.Common.{◌≡◌, ◌∙◌, ℕ, Bool, true, false, List, [], ◌∷◌, Option, Some, refl, sym, ap}
use Rattle.std.specs.Prelude.{unwrap_or}
use Rattle.mz_value.specs.Contents.{Content}
use Rattle.mz_value.specs.Contents as values
use Rattle.mz_core.specs.declared.types.Base.{Base}
use Rattle.mz_core.specs.declared.types.Base.TheVariants as base
use Rattle.mz_arena.specs.Values.{bit}
use Rattle.mz_operations.specs.Arguments.{Arguments}
use Rattle.mz_globals.specs.declared.global.Global.{Global}
use Rattle.mz_globals.specs.declared.global.Global.TheVariants as global
use Rattle.mz_globals.specs.Table.{line_of}
use Rattle.mz_meaning.specs.Cells.{Mode, Blank, Given, held, value_of}
use Rattle.mz_meaning.specs.Globals.{global_value}
use Rattle.mz_symbol.specs.Runs.{Run}
use Rattle.mz_symbol.specs.Symbols.{value_by}
use Rattle.mz_symbol.specs.Readings.{Reading, Reads}
use Rattle.mz_symbol.specs.Arguments.{truth_of}
use Rattle.mz_eval_cells.specs.declared.types.Known.{Known}
use Rattle.mz_eval_cells.specs.Views.{all_seen, seen}
use Rattle.glob_nodes.specs.Says.{Says}
use Rattle.glob_nodes.specs.Rows.{IsRow}
use Rattle.mz_eval_global_terms.specs.Calls.{IsCall, IsGiven, IsSame, is_truth}

-- an argument in place of another that is the same under a mode
hole : (m : Mode) (f : Option Content → Option Content) (x y : Option Content) → held m x ≡ held m y → held m (f x) ≡ held m (f y)
hole (Blank n) f x y e = refl
hole (Given g) f x y e = ap f e

abbrev Values : Type 0
Values = Reading → Option Content

pub call_of_one : (b : Base) (g : Global) (k : Known) (old mid new : Run) (v : Values) (id : ℕ) → ((r : Reading) → Reads r new → Reads r mid) → IsSame old mid → IsGiven k mid v → IsRow b mid new g (λ r. v r ∷ []) id → IsCall b g (k ∷ []) old new id
call_of_one b g k old mid new v id back s h w = record {
  same = λ r q. s r (back r q) ∙ w.same r q;
  value = λ r q.
      ap (held r.mode) (w.value r q)
      ∙ hole r.mode (λ x. (line_of g).value (x ∷ [])) (v r) (value_of (seen r k)) (h r (back r q));
}

pub call_of_two : (b : Base) (g : Global) (j k : Known) (old mid new : Run) (u v : Values) (id : ℕ) → ((r : Reading) → Reads r new → Reads r mid) → IsSame old mid → IsGiven j mid u → IsGiven k mid v → IsRow b mid new g (λ r. u r ∷ v r ∷ []) id → IsCall b g (j ∷ k ∷ []) old new id
call_of_two b g j k old mid new u v id back s f h w = record {
  same = λ r q. s r (back r q) ∙ w.same r q;
  value = λ r q.
      ap (held r.mode) (w.value r q)
      ∙ hole r.mode (λ x. (line_of g).value (x ∷ v r ∷ [])) (u r) (value_of (seen r j)) (f r (back r q))
      ∙ hole r.mode (λ x. (line_of g).value (value_of (seen r j) ∷ x ∷ [])) (v r) (value_of (seen r k)) (h r (back r q));
}

pub call_of_three : (b : Base) (g : Global) (i j k : Known) (old mid new : Run) (t u v : Values) (id : ℕ) → ((r : Reading) → Reads r new → Reads r mid) → IsSame old mid → IsGiven i mid t → IsGiven j mid u → IsGiven k mid v → IsRow b mid new g (λ r. t r ∷ u r ∷ v r ∷ []) id → IsCall b g (i ∷ j ∷ k ∷ []) old new id
call_of_three b g i j k old mid new t u v id back s e f h w = record {
  same = λ r q. s r (back r q) ∙ w.same r q;
  value = λ r q.
      ap (held r.mode) (w.value r q)
      ∙ hole r.mode (λ x. (line_of g).value (x ∷ u r ∷ v r ∷ [])) (t r) (value_of (seen r i)) (e r (back r q))
      ∙ hole r.mode (λ x. (line_of g).value (value_of (seen r i) ∷ x ∷ v r ∷ [])) (u r) (value_of (seen r j)) (f r (back r q))
      ∙ hole r.mode (λ x. (line_of g).value (value_of (seen r i) ∷ value_of (seen r j) ∷ x ∷ [])) (v r) (value_of (seen r k)) (h r (back r q));
}

pub call_of_four : (b : Base) (g : Global) (h i j k : Known) (old mid new : Run) (s t u v : Values) (id : ℕ) → ((r : Reading) → Reads r new → Reads r mid) → IsSame old mid → IsGiven h mid s → IsGiven i mid t → IsGiven j mid u → IsGiven k mid v → IsRow b mid new g (λ r. s r ∷ t r ∷ u r ∷ v r ∷ []) id → IsCall b g (h ∷ i ∷ j ∷ k ∷ []) old new id
call_of_four b g h i j k old mid new s t u v id back same hs ht hu hv w = record {
  same = λ r q. same r (back r q) ∙ w.same r q;
  value = λ r q.
      ap (held r.mode) (w.value r q)
      ∙ hole r.mode (λ x. (line_of g).value (x ∷ t r ∷ u r ∷ v r ∷ [])) (s r) (value_of (seen r h)) (hs r (back r q))
      ∙ hole r.mode (λ x. (line_of g).value (value_of (seen r h) ∷ x ∷ u r ∷ v r ∷ [])) (t r) (value_of (seen r i)) (ht r (back r q))
      ∙ hole r.mode (λ x. (line_of g).value (value_of (seen r h) ∷ value_of (seen r i) ∷ x ∷ v r ∷ [])) (u r) (value_of (seen r j)) (hu r (back r q))
      ∙ hole r.mode (λ x. (line_of g).value (value_of (seen r h) ∷ value_of (seen r i) ∷ value_of (seen r j) ∷ x ∷ [])) (v r) (value_of (seen r k)) (hv r (back r q));
}

pub call_of_six : (b : Base) (g : Global) (k1 k2 k3 k4 k5 k6 : Known) (old mid new : Run) (u1 u2 u3 u4 u5 u6 : Values) (id : ℕ) → ((r : Reading) → Reads r new → Reads r mid) → IsSame old mid → IsGiven k1 mid u1 → IsGiven k2 mid u2 → IsGiven k3 mid u3 → IsGiven k4 mid u4 → IsGiven k5 mid u5 → IsGiven k6 mid u6 → IsRow b mid new g (λ r. u1 r ∷ u2 r ∷ u3 r ∷ u4 r ∷ u5 r ∷ u6 r ∷ []) id → IsCall b g (k1 ∷ k2 ∷ k3 ∷ k4 ∷ k5 ∷ k6 ∷ []) old new id
call_of_six b g k1 k2 k3 k4 k5 k6 old mid new u1 u2 u3 u4 u5 u6 id back same h1 h2 h3 h4 h5 h6 w = record {
  same = λ r q. same r (back r q) ∙ w.same r q;
  value = λ r q.
      ap (held r.mode) (w.value r q)
      ∙ hole r.mode (λ x. (line_of g).value (x ∷ u2 r ∷ u3 r ∷ u4 r ∷ u5 r ∷ u6 r ∷ [])) (u1 r) (value_of (seen r k1)) (h1 r (back r q))
      ∙ hole r.mode (λ x. (line_of g).value (value_of (seen r k1) ∷ x ∷ u3 r ∷ u4 r ∷ u5 r ∷ u6 r ∷ [])) (u2 r) (value_of (seen r k2)) (h2 r (back r q))
      ∙ hole r.mode (λ x. (line_of g).value (value_of (seen r k1) ∷ value_of (seen r k2) ∷ x ∷ u4 r ∷ u5 r ∷ u6 r ∷ [])) (u3 r) (value_of (seen r k3)) (h3 r (back r q))
      ∙ hole r.mode (λ x. (line_of g).value (value_of (seen r k1) ∷ value_of (seen r k2) ∷ value_of (seen r k3) ∷ x ∷ u5 r ∷ u6 r ∷ [])) (u4 r) (value_of (seen r k4)) (h4 r (back r q))
      ∙ hole r.mode (λ x. (line_of g).value (value_of (seen r k1) ∷ value_of (seen r k2) ∷ value_of (seen r k3) ∷ value_of (seen r k4) ∷ x ∷ u6 r ∷ [])) (u5 r) (value_of (seen r k5)) (h5 r (back r q))
      ∙ hole r.mode (λ x. (line_of g).value (value_of (seen r k1) ∷ value_of (seen r k2) ∷ value_of (seen r k3) ∷ value_of (seen r k4) ∷ value_of (seen r k5) ∷ x ∷ [])) (u6 r) (value_of (seen r k6)) (h6 r (back r q));
}

-- a call that is a truth value by itself
pub call_is : (g : Global) (ks : List Known) (old new : Run) (t : Bool) (id : ℕ) → Says old new (λ r. t) id → ((r : Reading) → global_value g (all_seen r ks) ≡ Some (values.bool t)) → IsCall base.Bool g ks old new id
call_is g ks old new t id h e = record {
  same = h.same;
  value = λ r q. ap (λ x. held r.mode (value_by base.Bool x)) (h.is r q) ∙ ap (held r.mode) (truth_value t) ∙ ap (held r.mode) (sym (e r));
}
  where
    truth_value : (t : Bool) → value_by base.Bool (bit t) ≡ Some (values.bool t)
    truth_value true = refl
    truth_value false = refl

-- ---- truth values

-- a truth value counts as itself
told_truth : (o : Option Bool) → truth_of (Some (values.bool (unwrap_or o false))) ≡ Some (values.bool (unwrap_or o false))
told_truth o = refl

truth_stays : (g : Global) (args : Arguments) → is_truth g ≡ true → truth_of ((line_of g).value args) ≡ (line_of g).value args
unfolding line_of
truth_stays global.CountOf args h = absurd (cc)
truth_stays g args h = refl

pub truth_called : (m : Mode) (g : Global) (v : Option Content) (args : Arguments) → is_truth g ≡ true → held m v ≡ held m ((line_of g).value args) → held m (truth_of v) ≡ held m ((line_of g).value args)
truth_called m g v args h e = hole m truth_of v ((line_of g).value args) e ∙ ap (held m) (truth_stays g args h)
