-- What the code's parts stand for.
use Rattle.mz_instance.specs.Parts.{Sort, Whole, Truth, Subset, Part}
use Rattle.cases_instances.specs.declared.part.PartSort.{PartSort}
use Rattle.cases_instances.specs.declared.part.PartSort.TheVariants as sort
use Rattle.cases_instances.specs.declared.part.VarPart.{VarPart}

abbrev pub sort_in : PartSort → Sort
sort_in sort.Whole = Whole
sort_in sort.Truth = Truth
sort_in sort.Subset = Subset

abbrev pub part : VarPart → Part
part p = record { sort = sort_in p.sort; set = p.set }
