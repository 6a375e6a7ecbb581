use Rattle.std.proofs.Common.{◌≡◌, ◌∙◌, ◌&&◌, false, subst, sym}
use Rattle.mz_core.specs.Types.{plain_type}
use Rattle.mz_meaning.specs.Arrays.{access_cell}
use Rattle.mz_meaning.specs.Cells.{all_par, is_par, typed}
use Rattle.mz_eval_cells.specs.Views.{all_seen, cell_of, cells_of, seen}
use Rattle.mz_eval_elements.specs.ElementCells.{typed_seen}
use Rattle.mz_eval_elements.proofs.NumberLaws.{number_typed}
use Rattle.mz_eval_elements.proofs.elements.number_element.Goals as goal

pub returns : goal.returns
returns c r h =
    let t = plain_type c.args.t.now in
    let a = c.args.a.now in
    let i = c.args.i.now in
    let k = c.in_ok-k.k in
    let p = c.in-Some.p in
    subst (λ l. typed r.mode false t (access_cell r.mode t (seen r a) (all_seen r l)) ≡ typed_seen t r k) (sym c.requires.one)
    (number_typed r t a i k p.0 p.1 c.in-Some-sure_item.y c.args.run.now
    (subst (λ l. (is_par (cell_of a) && all_par (cells_of l)) ≡ false) c.requires.one c.requires.some_var) c.requires.scalar (sym c.is_par.ensures ∙ c.if-not-is_par.false)
    c.in-Some.ensures.place c.in-Some.ensures.bound c.in-Some-sure_item.ensures h c.in_ok-k.ensures.of (c.in_ok-k.ensures.seen r))
