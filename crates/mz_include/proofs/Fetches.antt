-- What fetching a file tells of its text.
use Rattle.std.proofs.Common.{◌≡◌, ◌≤◌, ℕ, List, length, subst, Vec, Global}
use Rattle.std.specs.Prelude.{Some, None}
use Rattle.mz_io.specs.Files.{Texts, Tells}
use Rattle.mz_io.specs.declared.files.Fetched.TheVariants.{Bytes, Missing, TooLong}
use Rattle.mz_base.specs.declared.limit.TheConstants.{FILE_LIMIT}
use Rattle.mz_include.specs.Sources.{IsText, IsMissing, IsTooLong, IsFetched}

text_told : (texts : Texts) (name : List ℕ) (text : Vec ℕ Global) → Tells texts name FILE_LIMIT (Bytes text) → IsText texts name text.items
text_told None name text told = tt
text_told (Some texts) name text told = told

pub text_fetched : (texts : Texts) (name asked : List ℕ) (text : Vec ℕ Global) → asked ≡ name → Tells texts asked FILE_LIMIT (Bytes text) → length text.items ≤ FILE_LIMIT → IsFetched texts name text.items
text_fetched texts name asked text same told within = record { told = subst (λ n. IsText texts n text.items) same (text_told texts asked text told); within = within }

missing_told : (texts : Texts) (name : List ℕ) → Tells texts name FILE_LIMIT Missing → IsMissing texts name
missing_told None name told = tt
missing_told (Some texts) name told = told

pub is_missing : (texts : Texts) (name asked : List ℕ) → asked ≡ name → Tells texts asked FILE_LIMIT Missing → IsMissing texts name
is_missing texts name asked same told = subst (IsMissing texts) same (missing_told texts asked told)

long_told : (texts : Texts) (name : List ℕ) → Tells texts name FILE_LIMIT TooLong → IsTooLong texts name
long_told None name told = tt
long_told (Some texts) name told = told

pub is_long : (texts : Texts) (name asked : List ℕ) → asked ≡ name → Tells texts asked FILE_LIMIT TooLong → IsTooLong texts name
is_long texts name asked same told = subst (IsTooLong texts) same (long_told texts asked told)
