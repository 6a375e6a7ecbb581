-- What an item's value stands for, without where it lies in memory.
use Rattle.std.specs.Option.{option_map}
use Rattle.fz_items.specs.Contents.{contents_of}
use Rattle.fz_items.specs.Items as items
use Rattle.fz_items.specs.declared.value.Elements.{Elements}

abbrev pub elements : Elements → items.Elements
elements e = record { index = option_map (λ v. v.items) e.index; items = contents_of e.items.items }
