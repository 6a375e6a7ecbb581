use Rattle.std.proofs.Common.{◌≡◌, ◌<◌, []}
use Rattle.std.proofs.lemmas.List.Elements.{All-nil, All-cons}
use Rattle.mz_tree.specs.Names.{of_name, of_place}
use Rattle.mz_tree.proofs.Collected.{item_given}
use Rattle.mz_tree.proofs.law.names_and_places.Goals as goal

pub returns : goal.returns
returns c count file i h = (
  item_given of_name (λ s. []) (λ n. n < count) (λ n. n < count) (λ s. s.file ≡ file) (λ n below. All-cons (λ n. n < count) n [] below (All-nil _)) (λ s at. All-nil _) i h,
  item_given (λ n. []) of_place (λ s. s.file ≡ file) (λ n. n < count) (λ s. s.file ≡ file) (λ n below. All-nil _) (λ s at. All-cons (λ s. s.file ≡ file) s [] at (All-nil _)) i h,
)
