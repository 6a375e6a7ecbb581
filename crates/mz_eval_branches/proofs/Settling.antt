-- Branches by whether their conditions are true.
use Rattle.std.proofs.Common.{◌≡◌, ◌∙◌, ℕ, ◌+◌, ◌<◌, Bool, not, List, [], ◌∷◌, ◌++◌, length, map, take, get_or, Option, refl, sym, ap, if◌then◌else◌}
use Rattle.std.proofs.lemmas.List.{map_push, take_more}
use Rattle.mz_base.specs.declared.fault.Span.{Span}
use Rattle.mz_value.specs.Contents.{Content}
use Rattle.mz_core.specs.Types.{PlainType}
use Rattle.mz_meaning.specs.Runs.{Run, give}
use Rattle.mz_meaning.specs.Arrays.{all_bounds, branch_bounds_of, branch_cell, branches_cell, chosen_value}
use Rattle.mz_meaning.specs.Cells.{Cell, Mode, is_true, value_of}
use Rattle.mz_symbol.specs.Readings.{Reading}
use Rattle.mz_eval_cells.specs.declared.types.Known.{Known}
use Rattle.mz_eval_cells.specs.Views.{seen}
use Rattle.mz_eval_arrays.specs.Gathered.{pairs_by}
use Rattle.mz_eval_branches.specs.StepsConditions.{tested}

-- ---- a list of them, made one by one

pub same_test : (r : Reading) (p : Known × Known) (c b : Known) → is_true (value_of (seen r c)) ≡ is_true (value_of (seen r p.0)) → seen r b ≡ seen r p.1 → tested r (c, b) ≡ tested r p
same_test r p c b e f = cc

pub settled_more : (r : Reading) (ps : List (Known × Known)) (i : ℕ) (p : Known × Known) (old new : List (Known × Known)) → i < length ps → p ≡ get_or ps i p → map (tested r) old ≡ map (tested r) (take i ps) → map (tested r) new ≡ map (tested r) old ++ tested r p ∷ [] → map (tested r) new ≡ map (tested r) (take (i + 1) ps)
settled_more r ps i p old new l e h m =
    m
    ∙ ap (λ qs. qs ++ tested r p ∷ []) h
    ∙ sym (ap (map (tested r)) (take_more ps i p l ∙ ap (λ x. take i ps ++ x ∷ []) (sym e)) ∙ map_push (tested r) (take i ps) p)

-- ---- the cell of an `if`, by these

abbrev chosen_of : List (Bool × Cell) → Cell → Option Content
chosen_of [] last = value_of last
chosen_of (p ∷ ps) last = if p.0 then value_of p.1 else chosen_of ps last

chosen_tested : (r : Reading) (ps : List (Known × Known)) (last : Cell) → chosen_value (pairs_by (seen r) ps) last ≡ chosen_of (map (tested r) ps) last
chosen_tested r [] last = refl
chosen_tested r (p ∷ ps) last = ap (λ v. if is_true (value_of (seen r p.0)) then value_of (seen r p.1) else v) (chosen_tested r ps last)

branches_tested : (r : Reading) (ps : List (Known × Known)) → map (λ p. p.1) (pairs_by (seen r) ps) ≡ map (λ q. q.1) (map (tested r) ps)
branches_tested r [] = refl
branches_tested r (p ∷ ps) = ap (λ cs. seen r p.1 ∷ cs) (branches_tested r ps)

abbrev cell_tested : Mode → PlainType → Span → List (Bool × Cell) → Cell → Run Cell
cell_tested m t at qs last =
    if not t.var then give last else branches_cell m t at (all_bounds (map (branch_bounds_of t) (map (λ q. q.1) qs ++ last ∷ []))) (chosen_of qs last)

tested_cell : (r : Reading) (t : PlainType) (at : Span) (ps : List (Known × Known)) (last : Cell) → branch_cell r.mode t at (pairs_by (seen r) ps) last ≡ cell_tested r.mode t at (map (tested r) ps) last
tested_cell r t at ps last =
    ap (λ cs. if not t.var then give last else branches_cell r.mode t at (all_bounds (map (branch_bounds_of t) (cs ++ last ∷ []))) (chosen_value (pairs_by (seen r) ps) last)) (branches_tested r ps)
    ∙ ap (λ v. if not t.var then give last else branches_cell r.mode t at (all_bounds (map (branch_bounds_of t) (map (λ q. q.1) (map (tested r) ps) ++ last ∷ []))) v) (chosen_tested r ps last)

pub settled_cell : (r : Reading) (t : PlainType) (at : Span) (ps qs : List (Known × Known)) (last : Cell) → map (tested r) qs ≡ map (tested r) ps → branch_cell r.mode t at (pairs_by (seen r) qs) last ≡ branch_cell r.mode t at (pairs_by (seen r) ps) last
settled_cell r t at ps qs last e = tested_cell r t at qs last ∙ ap (λ ts. cell_tested r.mode t at ts last) e ∙ sym (tested_cell r t at ps last)
