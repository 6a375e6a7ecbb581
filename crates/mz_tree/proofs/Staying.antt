-- The names in data are names of each table that grew.
use Rattle.std.proofs.Common.{ℕ, ◌<◌, List, length}
use Rattle.std.proofs.lemmas.List.Elements.{All-weaker}
use Rattle.mz_base.specs.Names.{Grows}
use Rattle.mz_tree.specs.Data.{Given}
use Rattle.mz_tree.specs.Named.{names_in, IsGivenWithin}

pub stays : (before after : List (List ℕ)) (d : Given) → Grows before after → IsGivenWithin (length before) d → IsGivenWithin (length after) d
stays before after d grows h = record {
  name = (grows d.name h.name).0;
  names = All-weaker (λ n. n < length before) (λ n. n < length after) (λ n below. (grows n below).0) (names_in d.value) h.names;
}
