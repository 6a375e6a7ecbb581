-- The values of options that aren't there, as a solution of a program has them.
use Rattle.std.proofs.Common.{◌≡◌, ◌∙◌, ℕ, suc, ℤ, pos, ne_eqb, Bool, true, false, List, [], ◌∷◌, ◌++◌, length, map, Option, Some, None, is_none, slice_get, refl, sym, ap, subst, arith, if◌then◌else◌}
use Rattle.std.specs.Option.{option_map}
use Rattle.mz_base.specs.Names.{text_of}
use Rattle.mz_value.specs.Ranges.{Range}
use Rattle.mz_core.specs.Tree.{Decl}
use Rattle.mz_operations.specs.declared.row.Side.TheVariants.{Least}
use Rattle.mz_operations.specs.Sets.{end_of, is_empty_set}
use Rattle.mz_arena.specs.Instances.{VarCell, ModelVar}
use Rattle.mz_arena.specs.Values as terms
use Rattle.mz_meaning.specs.Domains.{Domain}
use Rattle.mz_meaning.specs.Solutions.{Each}
use Rattle.mz_instance.specs.Parts.{Sort, Whole, Truth, Subset, Part, is_subset_sort, sort_of, base_of, truths, parts_of, next, value_part, after_cells}
use Rattle.mz_instance.specs.Instance.{IsTruthOver, IsModelVar, AreModelVars, IsCounted}
use Rattle.mz_instance.specs.Contents.{is_one}
use Rattle.mz_model_meaning.specs.Decoded.{part_of, domain_parts, all_parts, after_domains, IsShaped, AreShaped, domains_in, model_domains}
use Rattle.mz_model_meaning.specs.Modeled.{cell_domain, domains_of, IsVarOf, var_head, var_tail, names_of, IsHead, AreVarsOf}
use Rattle.fz_program.specs.Names.{Name}
use Rattle.fz_program.specs.Values.{Value, Values, number}
use Rattle.fz_program.specs.declared.program.Domain.{Domain as FlatDomain}
use Rattle.fz_program.specs.Flat.{Program, Variable}
use Rattle.flat_meaning.specs.Front.{written_set, domain_by, value_place}
use Rattle.flat_meaning.specs.Reading.{by_place, layout, domain_set, least_at, IsLeast, AreLeast, LeastIn}
use Rattle.flat_meaning.specs.Faithful.{value_by}
use Rattle.flat_meaning.specs.Found.{places_from, layout_from, domain_at, AreDomains, AreFound}
use Rattle.mz_headline.specs.Keeping.{DefaultsBy, HasDefault as DeclDefault}
use Rattle.mz_headline.proofs.Cells.{HasDefault, coded}
use Rattle.mz_headline.proofs.Rows.{HaveDefaults, coded_cell_and, cell_count, halves, shaped_first, shaped_rest, defaults_split}
use Rattle.mz_headline.proofs.Variables.{var_domains, after_var, decl_layout}

-- ---- defaults are told by the values of the parts

number_told : (r : Sort) (n m : ℤ) (s t : List Range) → is_subset_sort r ≡ false → value_by r n s ≡ value_by r m t → n ≡ m
number_told Whole n m s t other same = cc
number_told Truth n m s t other same = cc
number_told Subset n m s t other same = absurd (cc)

default_by : (d : Domain) (o : Bool) (k : ℕ) (x y : terms.Values) → d.opt ≡ o → IsShaped d → coded (parts_of o (part_of d)) k x ≡ coded (parts_of o (part_of d)) k y → HasDefault o d.set k x → HasDefault o d.set k y
default_by d false k x y opt shaped same default = tt
default_by d true k x y opt shaped same default = λ other.
    let first : number (x.number k) ≡ number (y.number k) = cc in
    let there : x.number k ≡ y.number k = cc in
    let second : value_by (sort_of d.base) (x.number (suc k)) (x.set (suc k)) ≡ value_by (sort_of d.base) (y.number (suc k)) (y.set (suc k)) = cc in
    default (ap is_one there ∙ other) ∙ ap (λ n. Some n) (number_told (sort_of d.base) (x.number (suc k)) (y.number (suc k)) (x.set (suc k)) (y.set (suc k)) (shaped.allowed opt) second)

pub defaults_by : (ds : List Domain) (k : ℕ) (x y : terms.Values) → AreShaped ds → coded (all_parts ds) k x ≡ coded (all_parts ds) k y → HaveDefaults ds k x → HaveDefaults ds k y
defaults_by [] k x y shaped same defaults = tt
defaults_by (d ∷ ds) k x y shaped same defaults =
    let p = part_of d in
    let ps = all_parts ds in
    let both = halves (coded (domain_parts d) k x) (coded (domain_parts d) k y) (coded ps (next d.opt k) x) (coded ps (next d.opt k) y) (cell_count d.opt p k x y) (sym (coded_cell_and d.opt p ps k x) ∙ same ∙ coded_cell_and d.opt p ps k y) in
    (default_by d d.opt k x y refl shaped.0 both.0 defaults.0, defaults_by ds (next d.opt k) x y shaped.1 both.1 defaults.1)

-- ---- the least of a variable's domain

no_least : (n : ℤ) → end_of Least [] ≡ Some n → ⊥
unfolding end_of
no_least n e = cc

written_least : (u : List Range) (n : ℤ) → end_of Least u ≡ Some n → end_of Least (written_set u) ≡ Some n
written_least [] n least = absurd (no_least n least)
written_least (r ∷ rs) n least =
    let some : is_empty_set (r ∷ rs) ≡ false = ne_eqb (suc (length rs)) 0 (λ e. omega (arith, e)) in
    ap (λ b. end_of Least (if b then (pos 0, pos 0) ∷ [] else r ∷ rs)) some ∙ least

domain_least : (sort : Sort) (u : List Range) (n : ℤ) → is_subset_sort sort ≡ false → IsTruthOver sort u → end_of Least u ≡ Some n → end_of Least (domain_set (domain_by sort u)) ≡ Some n
domain_least Whole u n other over least = written_least u n least
domain_least Truth u n other over least = ap (end_of Least) (sym over) ∙ least
domain_least Subset u n other over least = absurd (cc)

least_of : (vs : List Variable) (k : ℕ) (dom : FlatDomain) → domain_at vs k ≡ Some dom → least_at (slice_get vs k) ≡ end_of Least (domain_set dom)
least_of vs k dom at = by (slice_get vs k) at
  where
    by : (o : Option Variable) → option_map (λ (v : Variable). v.domain) o ≡ Some dom → least_at o ≡ end_of Least (domain_set dom)
    by None at = absurd (cc)
    by (Some v) at = let same : v.domain ≡ dom = cc in ap (λ d. end_of Least (domain_set d)) same

option_least : (vs : List Variable) (d : Domain) (k : ℕ) (x : terms.Values) → d.opt ≡ true → IsShaped d → domain_at vs (suc k) ≡ Some (domain_by (sort_of d.base) d.set) → HasDefault true d.set k x → IsLeast vs x (Some k) (suc k)
option_least vs d k x opt shaped at default = λ other. least_of vs (suc k) (domain_by (sort_of d.base) d.set) at ∙ domain_least (sort_of d.base) d.set (x.number (suc k)) (shaped.allowed opt) shaped.part.truth (default other)

cells_least : (vs : List Variable) (m : ModelVar) (opt : Bool) (cs : List VarCell) (k : ℕ) (x : terms.Values) → m.opt ≡ opt → AreShaped (map (cell_domain m) cs) → AreDomains vs m k cs → HaveDefaults (map (cell_domain m) cs) k x → AreLeast vs x (places_from opt k cs)
cells_least vs m opt [] k x o shaped at defaults = tt
cells_least vs m false (c ∷ cs) k x o shaped at defaults = (tt, cells_least vs m false cs (suc k) x o shaped.1 (subst (λ o. AreDomains vs m (next o k) cs) o at.1) (subst (λ o. HaveDefaults (map (cell_domain m) cs) (next o k) x) o defaults.1))
cells_least vs m true (c ∷ cs) k x o shaped at defaults = (
  option_least vs (cell_domain m c) k x o shaped.0 (ap (λ o. domain_at vs (value_place o k)) (sym o) ∙ at.0) (subst (λ o. HasDefault o c.domain k x) o defaults.0),
  cells_least vs m true cs (suc (suc k)) x o shaped.1 (subst (λ o. AreDomains vs m (next o k) cs) o at.1) (subst (λ o. HaveDefaults (map (cell_domain m) cs) (next o k) x) o defaults.1),
)

layout_least : (vs : List Variable) (x : terms.Values) (ix : Option (List Range)) (opt : Bool) (cs : List VarCell) (k : ℕ) → IsCounted ix (length cs) → AreLeast vs x (places_from opt k cs) → LeastIn vs x (layout_from ix opt k cs)
layout_least vs x None opt [] k count least = absurd (omega (arith, count))
layout_least vs x None true (c ∷ []) k count least = least.0
layout_least vs x None false (c ∷ []) k count least = least.0
layout_least vs x None opt (c ∷ d ∷ cs) k count least = absurd (omega (arith, count))
layout_least vs x (Some ix) opt cs k count least = least

-- ---- of all names

pub decls_least : (table : List Name) (flat : Program) (f : Values) (ds : List Decl) (ms : List ModelVar) (k : ℕ) → AreVarsOf ds ms → AreModelVars ms → AreFound table flat k ms → AreShaped (model_domains (names_of ds ms)) → HaveDefaults (model_domains (names_of ds ms)) k (by_place f) → Each (DeclDefault table flat f) ds
decls_least table flat f [] ms k vars sound found shaped defaults = tt
decls_least table flat f (d ∷ ds) ms k vars sound found shaped defaults = by (λ ms k vars sound found shaped defaults. decls_least table flat f ds ms k vars sound found shaped defaults) d.ty.ty.var ms vars.0 vars.1 sound found shaped defaults
  where
    by : ((ms : List ModelVar) (k : ℕ) → AreVarsOf ds ms → AreModelVars ms → AreFound table flat k ms → AreShaped (model_domains (names_of ds ms)) → HaveDefaults (model_domains (names_of ds ms)) k (by_place f) → Each (DeclDefault table flat f) ds) → (v : Bool) (ms : List ModelVar) → IsHead v d ms → AreVarsOf ds (var_tail v ms) → AreModelVars ms → AreFound table flat k ms → AreShaped (domains_in (var_head v ms) ++ model_domains (names_of ds (var_tail v ms))) → HaveDefaults (domains_in (var_head v ms) ++ model_domains (names_of ds (var_tail v ms))) k (by_place f) → DefaultsBy v table flat f d × Each (DeclDefault table flat f) ds
    by rest false ms head vars sound found shaped defaults = (tt, rest ms k vars sound found shaped defaults)
    by rest true [] head vars sound found shaped defaults = absurd head
    by rest true (m ∷ ms) head vars sound found shaped defaults =
        let x = by_place f in
        let own = var_domains m sound.0 in
        let cells = domains_in (domains_of m) in
        let others = model_domains (names_of ds ms) in
        let both = defaults_split cells others k x defaults in
        let least = cells_least flat.vars m m.opt m.cells k x refl (subst AreShaped own (shaped_first cells others shaped)) found.0.domains (subst (λ ds. HaveDefaults ds k x) own both.0) in
        let at = decl_layout table flat d m head ∙ found.0.layout in (
          subst (LeastIn flat.vars x) (sym at) (layout_least flat.vars x m.index m.opt m.cells k sound.0.count least),
          rest ms (after_cells m.opt m.cells k) vars sound.1 found.1 (shaped_rest cells others shaped) (subst (λ j. HaveDefaults others j x) (after_var m k sound.0) both.1),
        )
