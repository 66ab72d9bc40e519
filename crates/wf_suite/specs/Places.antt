-- A map from the names of tests to their places.
use Rattle.std.specs.Prelude.{◌≡◌, ℕ, List, Option}
use Rattle.std.specs.Map.{lookup}
use Rattle.std.specs.BTreeMap.{is_at}
use Rattle.wf_val.specs.NameOrder.{bytes_cmp}
use Rattle.wf_suite.specs.Suite.{place_of}
use Rattle.wf_suite.specs.declared.suite.Test.{Test}

-- each name has the place that it has among the tests
abbrev pub ArePlaces : List (List ℕ × ℕ) → List Test → Type 0
ArePlaces entries tests = (name : List ℕ) → lookup (is_at (bytes_cmp name)) entries ≡ place_of name tests
