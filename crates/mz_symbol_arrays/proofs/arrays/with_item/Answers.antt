use Rattle.std.proofs.Common.{◌∙◌, sym}
use Rattle.mz_symbol.proofs.ConstantLaws.{out_value, out_state}
use Rattle.mz_symbol_arrays.proofs.ItemLaws.{and_is}
use Rattle.mz_symbol_arrays.proofs.ArrayLaws.{one_longer}
use Rattle.mz_symbol_arrays.proofs.arrays.with_item.Goals as goal

pub returns-clause-more : goal.returns-clause-more
returns-clause-more c r h =
    let e = c.in_ok-both.ensures.means r h in
    let m = c.in_ok-p.ensures.item r (c.in_ok-both.ensures.goes.back r h) in
    record {
      same = m.same ∙ out_state e;
      source = c.in-Some.s;
      at = sym c.nth.ensures ∙ c.in-Some.is;
      symbol = c.in_ok-p.p.0;
      own = c.in_ok-p.p.1;
      item = m.item;
      both = and_is (r.term c.args.made.defined) (r.term c.in_ok-p.p.1) (r.term c.in_ok-both.both) (out_value e);
      list = c.in_ok-push.ensures.items;
    }

pub returns-clause-count : goal.returns-clause-count
returns-clause-count c = one_longer c.args.made.all.items c.push.new.self.items _ c.in_ok-push.ensures.items
