use Rattle.std.proofs.Common.{position, ◌∙◌, sym, ap, Bor, List, ℕ}
use Rattle.std.specs.Str.{bytes_eq}
use Rattle.fz_text_read.proofs.Mapped.{position-map}
use Rattle.fz_text_read.proofs.name_table.NameTable.place.Goals as goal

pub returns : goal.returns
returns c = c.get_index_of.ensures.index ∙ sym (position-map (bytes_eq c.args.name.now) (λ (b : Bor (List ℕ)). b.now) c.self.inside.names.keys) ∙ ap (position (bytes_eq c.args.name.now)) c.self.view_is
