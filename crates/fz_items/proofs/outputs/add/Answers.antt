use Rattle.std.proofs.Common.{◌∙◌, ap, sym, is_some}
use Rattle.std.specs.String.{string_bytes}
use Rattle.std.specs.HashMap.{get_by_text}
use Rattle.std.proofs.lemmas.Map.Text.{hash_map_updates_text}
use Rattle.fz_items.proofs.NameBytes.{added, stays}
use Rattle.fz_items.proofs.outputs.add.Goals as goal

pub returns-in-Some : goal.returns-in-Some
returns-in-Some c =
    stays (get_by_text c.args.table.now) (string_bytes c.args.name) c.args.slot (ap is_some (ap (get_by_text c.args.table.now) (sym c.as_str.ensures.value) ∙ sym c.in-Some.ensures.value))

pub returns-in_ok-insert-in-None : goal.returns-in_ok-insert-in-None
returns-in_ok-insert-in-None c =
    added (get_by_text c.args.table.now) (get_by_text c.insert.new.self) (string_bytes c.args.name) c.args.slot (ap (get_by_text c.args.table.now) (sym c.as_str.ensures.value) ∙ sym c.in-None.ensures.value)
    (hash_map_updates_text (string_bytes c.args.name) c.args.table.now c.insert.new.self _ c.in_ok-insert-in-None.ensures.updates)
