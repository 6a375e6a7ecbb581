-- Names by their texts.
use Rattle.std.specs.Prelude.{◌≡◌, List, map}
use Rattle.mz_base.specs.Names.{text_of}
use Rattle.mz_arena.specs.Instances.{ModelVar}
use Rattle.fz_program.specs.Names.{Name}

-- each variable has the name that this text is
abbrev pub AreTexts : List Name → List ModelVar → List Name → Type 0
AreTexts table ms texts = map (λ (m : ModelVar). text_of table m.name) ms ≡ texts
