-- What the words of a command line ask for, in the words of `mz_words`.
use Rattle.std.specs.Prelude.{◌≡◌, Option, Some, None}
use Rattle.mz_io.specs.Files.{Texts}
use Rattle.mz_words.specs.Requests.{Settings, Asked, compile, check, print, make}
use Rattle.mz_tool.specs.Making.{made_settings, made_texts}
use Rattle.mz_tool.specs.declared.status.Status.{Status}
use Rattle.mz_tool.specs.declared.status.Status.TheVariants.{Usage, Memory}

-- the files of a command and its options; `make` has a model of its own
abbrev pub settings_in : Asked → Settings
settings_in (compile s) = s
settings_in (check s) = s
settings_in (print s) = s
settings_in (make n) = made_settings

-- the texts that the files are read from
abbrev pub texts_in : Texts → Asked → Texts
texts_in texts (compile s) = texts
texts_in texts (check s) = texts
texts_in texts (print s) = texts
texts_in texts (make n) = made_texts n

-- Usage comes where the words are used wrongly, and nowhere else. Memory may run out while they are read.
abbrev pub IsUsage : Option Asked → Status → Type 0
IsUsage asked Usage = asked ≡ None
IsUsage asked Memory = Unit {0}
IsUsage asked _ = asked ≡ None → ⊥

-- where the words ask for `check`, this holds
abbrev pub OnCheck : Option Asked → Type 0 → Type 0
OnCheck (Some (check s)) P = P
OnCheck (Some (compile s)) P = Unit {0}
OnCheck (Some (print s)) P = Unit {0}
OnCheck (Some (make n)) P = Unit {0}
OnCheck None P = Unit {0}

-- where they ask for `make`
abbrev pub OnMake : Option Asked → Type 0 → Type 0
OnMake (Some (make n)) P = P
OnMake (Some (compile s)) P = Unit {0}
OnMake (Some (check s)) P = Unit {0}
OnMake (Some (print s)) P = Unit {0}
OnMake None P = Unit {0}

-- where they ask for `print`, this holds of its settings
abbrev pub OnPrint : Option Asked → (Settings → Type 0) → Type 0
OnPrint (Some (print s)) P = P s
OnPrint (Some (compile s)) P = Unit {0}
OnPrint (Some (check s)) P = Unit {0}
OnPrint (Some (make n)) P = Unit {0}
OnPrint None P = Unit {0}

-- where they ask for anything else, or for nothing
abbrev pub UnlessPrint : Option Asked → Type 0 → Type 0
UnlessPrint (Some (print s)) P = Unit {0}
UnlessPrint (Some (compile s)) P = P
UnlessPrint (Some (check s)) P = P
UnlessPrint (Some (make n)) P = P
UnlessPrint None P = P
