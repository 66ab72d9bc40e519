-- What the files hold that tests name.
use Rattle.std.specs.Prelude.{◌≢◌, ℕ, List, Option, None}
use Rattle.std.specs.BTreeMap.{is_at}
use Rattle.std.specs.Map.{lookup}
use Rattle.std.specs.Option.{option_map}
use Rattle.wf_val.specs.NameOrder.{bytes_cmp}
use Rattle.wf_tests.specs.declared.sources.Sources.{Sources}

-- the bytes of the file of a name
abbrev pub source_named : Sources → List ℕ → Option (List ℕ)
source_named sources name = option_map (λ v. v.items) (lookup (is_at (bytes_cmp name)) sources.bytes.entries)

-- a file of this name is there
abbrev pub IsThere : Sources → List ℕ → Type 0
IsThere sources name = source_named sources name ≢ None

-- what was there is there still
abbrev pub Keeps : Sources → Sources → Type 0
Keeps old new = (name : List ℕ) → IsThere old name → IsThere new name
