-- Free locals: what is told of them without values, and their choices.
use Rattle.std.proofs.Common.{◌≡◌, ◌∙◌, ℕ, Bool, true, false, List, [], ◌∷◌, length, Option, Some, None, refl, sym, ap, if◌then◌else◌}
use Rattle.mz_core.specs.Types.{PlainType}
use Rattle.mz_operations.specs.Bounds as bounds
use Rattle.mz_meaning.specs.Cells as cells
use Rattle.mz_meaning.specs.Cells.{Cell, Var, Mode, Bare, Blank, Given, Sure, held, empty_bound}
use Rattle.mz_meaning.specs.Domains.{Domain, domain_bound, is_empty_domain}
use Rattle.mz_meaning.specs.Lets as lets
use Rattle.mz_meaning.specs.Lets.{choice_at}
use Rattle.mz_meaning.specs.Runs.{State, Answer, Out, noted}
use Rattle.mz_symbol.specs.declared.types.Symbol.{Symbol}
use Rattle.mz_symbol.specs.Symbols.{symbol_value}
use Rattle.mz_symbol.specs.Readings.{Reading, symbol_seen}
use Rattle.mz_symbol.proofs.ConstantLaws.{out_value, out_state}
use Rattle.mz_symbol.specs.Arguments.{as_argument}
use Rattle.mz_symbol_rows.specs.RowValues.{argument}
use Rattle.mz_symbol_rows.proofs.RowLaws.{argument_kept}
use Rattle.mz_eval_cells.specs.declared.types.Known.{Known}
use Rattle.mz_eval_cells.specs.Views.{seen}
use Rattle.mz_eval_declared.proofs.SuitingLaws.{local_out}

-- the bounds of a cell that is no array
abbrev pub bound_in : Cell → bounds.Bound
bound_in c = cells.scalar_bound (cells.bounds_in c)

-- ---- what is told without values

-- where nothing is chosen
pub unchosen_means : (t : PlainType) (o : Option Domain) (c : Cell) (q : Sure) (s : State) (b : bounds.Bound) → lets.choose Bare t o s ≡ local_out c q s → q.is ≡ false → b ≡ bound_in c → (m : Mode) (u : State) (x : Cell × Sure) → x ≡ (Var (bounds.one b) None, cells.unsure) → lets.choose m t o u ≡ Out x u
unchosen_means t None c q s b e f g m u x h = ap (λ (y : bounds.Bound). local_out (Var (bounds.one y) None) cells.unsure u) (ap (λ (p : Cell × Sure). bound_in p.0) (out_value e) ∙ sym g) ∙ ap (λ (p : Cell × Sure). Out p u) (sym h)
unchosen_means t (Some d) c q s b e f g m u x h = no (ap (λ (p : Cell × Sure). p.1.is) (out_value e) ∙ f)
  where
    no : true ≡ false → lets.choose m t (Some d) u ≡ Out x u
    no r = absurd (cc)

-- where a choice is taken its domain has some value
chosen_some : (t : PlainType) (d : Domain) (c : Cell) (q : Sure) (s : State) → lets.choose Bare t (lets.unless_empty (Some d)) s ≡ local_out c q s → q.is ≡ true → lets.unless_empty (Some d) ≡ Some d
chosen_some t d c q s e f = by (is_empty_domain d) e
  where
    no : false ≡ true → None ≡ Some d
    no r = absurd (cc)

    by : (k : Bool) → lets.choose Bare t (if k then None else Some d) s ≡ local_out c q s → ◌≡◌ {A = Option Domain} (if k then None else Some d) (Some d)
    by true e = no (ap (λ (p : Cell × Sure). p.1.is) (out_value e) ∙ f)
    by false e = refl

chosen_bound : (t : PlainType) (d : Domain) (c : Cell) (q : Sure) (s : State) (b : bounds.Bound) → lets.choose Bare t (lets.unless_empty (Some d)) s ≡ local_out c q s → q.is ≡ true → b ≡ bound_in c → b ≡ domain_bound d
chosen_bound t d c q s b e f g = g ∙ sym (ap (λ (p : Cell × Sure). bound_in p.0) (out_value (ap (λ o. lets.choose Bare t o s) (sym (chosen_some t d c q s e f)) ∙ e)))

pub taken_bound : (t : PlainType) (y : Option Domain) (d : Domain) (c : Cell) (q : Sure) (s : State) (b : bounds.Bound) → lets.choose Bare t (lets.unless_empty y) s ≡ local_out c q s → q.is ≡ true → Some d ≡ y → b ≡ bound_in c → b ≡ domain_bound d
taken_bound t y d c q s b e f p g = chosen_bound t d c q s b (ap (λ o. lets.choose Bare t (lets.unless_empty o) s) p ∙ e) f g

pub chosen_means : (t : PlainType) (y : Option Domain) (d : Domain) (c : Cell) (q : Sure) (s : State) → lets.choose Bare t (lets.unless_empty y) s ≡ local_out c q s → q.is ≡ true → Some d ≡ y → (m : Mode) (u : State) (x : Cell × Sure) (v : State) → lets.choose m t (Some d) u ≡ Out x v → lets.choose m t (lets.unless_empty y) u ≡ Out x v
chosen_means t y d c q s e f p m u x v h =
    ap (λ o. lets.choose m t (lets.unless_empty o) u) (sym p)
    ∙ ap (λ o. lets.choose m t o u) (chosen_some t d c q s (ap (λ o. lets.choose Bare t (lets.unless_empty o) s) p ∙ e) f)
    ∙ h

-- ---- a choice

chosen_argument : (r : Reading) (s : Symbol) (n : ℕ) → held r.mode (choice_at r.mode n) ≡ symbol_seen r s → argument r s ≡ held r.mode (choice_at r.mode n)
chosen_argument r s n e = by r.mode refl e ∙ sym e
  where
    by : (m : Mode) → r.mode ≡ m → held m (choice_at m n) ≡ held m (symbol_value r.term s) → argument r s ≡ symbol_seen r s
    by (Blank q) p h = ap (λ m. held m (as_argument s.base s.occurs (symbol_value r.term s))) p ∙ sym (ap (λ m. held m (symbol_value r.term s)) p)
    by (Given f) p h = argument_kept r s (f n) (sym h)

pub taken_means : (r : Reading) (d : Domain) (s : Symbol) (k : Known) (q : Sure) (u v : State) → q ≡ cells.sure → Out (held r.mode (choice_at r.mode (length u.taken))) (noted r.mode (d ∷ []) 0 u) ≡ Out (symbol_seen r s) v → seen r k ≡ Var (bounds.one (domain_bound d)) (argument r s) → local_out (Var (bounds.one (domain_bound d)) (held r.mode (choice_at r.mode (length u.taken)))) cells.sure (noted r.mode (d ∷ []) 0 u) ≡ local_out (seen r k) q v
taken_means r d s k q u v g e h =
    ap (λ (c : Cell). local_out c cells.sure (noted r.mode (d ∷ []) 0 u)) (sym (h ∙ ap (Var (bounds.one (domain_bound d))) (chosen_argument r s (length u.taken) (out_value e))))
    ∙ ap (λ (t : State). local_out (seen r k) cells.sure t) (out_state e)
    ∙ ap (λ (p : Sure). local_out (seen r k) p v) (sym g)
