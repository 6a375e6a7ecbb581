-- What is tested makes an instance.
use Rattle.std.proofs.Common.{◌≡◌, ◌∙◌, ◌<◌, ◌≤◌, ◌+◌, ℕ, Bool, true, false, List, map, inl, inr, [], ◌∷◌, suc, Option, Some, IsSome, slice_get, refl, sym, ap, subst, arith}
use Rattle.std.proofs.lemmas.Bool.{cases_lt}
use Rattle.std.specs.Option.{option_map}
use Rattle.mz_arena.specs.declared.node.Node.{Node}
use Rattle.mz_arena.specs.Entries.{Entry, is_free, is_local}
use Rattle.mz_arena.specs.Extents.{as_truth, extent}
use Rattle.mz_arena.specs.Instances.{Instance}
use Rattle.mz_instance.specs.Instance.{AreModelVars, AreTruths, IsObjective}
use Rattle.mz_model_meaning.specs.Decoded.{AreShaped}
use Rattle.mz_symbol.specs.Symbols.{domain_of}
use Rattle.mz_symbol.specs.Runs.{Run, IsRun}
use Rattle.mz_model_state.specs.Hands.{HeldName, AreVars, all_places}
use Rattle.mz_model_state.specs.Variables.{AreMadeOf}
use Rattle.mz_model_state.specs.Made.{InstanceMade}
use Rattle.mz_model_state.proofs.Variables.{parts_made, whole_by_test}
use Rattle.mz_model_state.specs.Tested.{IsNumbered, IsTested, IsWhole}
use Rattle.mz_model_state.specs.StepsIds.{AreNumberedBelow, IsTruthAt, AreTruthsBelow}

pub tested_makes : InstanceMade → (s : Run) (ns : List HeldName) (inst : Instance) → IsRun s → inst.arena ≡ s.arena → AreMadeOf ns inst.vars → AreVars s ns → AreShaped (map domain_of (all_places ns)) → AreModelVars inst.vars → IsTested s inst.vars inst.roots inst.goal → IsWhole s inst
tested_makes is_instance s ns inst run arena made nodes shaped vars tested =
    let at = parts_made ns inst.vars made in
    record {
      instance = is_instance s ns inst (record {
        run = run;
        arena = arena;
        made = made;
        nodes = nodes;
        shaped = shaped;
        vars = vars;
        placed = λ id e stands free local. ap (λ is. slice_get is e.node.b) (sym at.ids) ∙ (tested.nodes id e stands).var free local;
        noted = λ id e stands local. (tested.nodes id e stands).choice local;
        roots = subst (λ (es : List Entry). AreTruths es inst.roots) (sym arena) tested.truths;
        goal = subst (λ (es : List Entry). IsObjective es inst.goal) (sym arena) tested.objective;
      });
      choices = whole_by_test s run (λ id e stands local. (tested.nodes id e stands).choice local);
    }

-- ---- one root after the other

pub truth_more : (es : List Entry) (rs : List ℕ) (n : ℕ) → AreTruthsBelow n es rs → IsTruthAt es rs n → AreTruthsBelow (n + 1) es rs
truth_more es rs n below is i r low at =
    elim (cases_lt i n) [
      | inl less ↦ below i r less at
      | inr most ↦ let same : n ≡ i = omega (arith, low, most) in is r (ap (slice_get rs) same ∙ at)
    ]

pub all_truths : (es : List Entry) (rs : List ℕ) → ((i r : ℕ) → slice_get rs i ≡ Some r → IsSome (as_truth (extent es r))) → AreTruths es rs
all_truths es [] each = tt
all_truths es (r ∷ rs) each = (each 0 r refl, all_truths es rs (λ i x at. each (suc i) x at))

-- ---- one node after the other

abbrev node_of : Option Entry → Option Node
node_of o = option_map (λ e. e.node) o

same_node : (n m : Node) → Some m ≡ Some n → n ≡ m
same_node n m h = cc

pub one_more : (n : ℕ) (es : List Entry) (vars choices : List ℕ) (x : Node) → AreNumberedBelow n es vars choices → option_map (λ (e : Entry). e.node) (slice_get es n) ≡ Some x → IsNumbered vars choices n x → AreNumberedBelow (n + 1) es vars choices
one_more n es vars choices x below at is id e low stands =
    elim (cases_lt id n) [
      | inl less ↦ below id e less stands
      | inr most ↦
          let same : n ≡ id = omega (arith, low, most) in
          let here : slice_get es n ≡ Some e = ap (slice_get es) same ∙ stands in
          let node : x ≡ e.node = same_node x e.node (sym (ap node_of here) ∙ at) in
          subst (λ id. IsNumbered vars choices id e.node) same (subst (IsNumbered vars choices n) node is)
    ]
