-- That what tests are handed is there, as more files are read.
use Rattle.std.proofs.Common.{◌≡◌, ◌+◌, ◌<◌, ◌≤◌, ℕ, Bool, true, false, cond, List, length, take, get_or, Option, None, Some}
use Rattle.std.proofs.Common.{refl, sym, ◌∙◌, subst, take_all, true≢false}
use Rattle.std.proofs.lemmas.List.Elements.{All-more, All-weaker}
use Rattle.std.proofs.lemmas.Option.{none-some}
use Rattle.std.proofs.lemmas.Slice.Eq.{bytes_eq-Decides}
use Rattle.std.specs.Prelude.{◌≢◌, IfSome, bytes_eq}
use Rattle.wf_suite.specs.declared.suite.Given.{Given}
use Rattle.wf_suite.specs.declared.suite.Kind.{Kind}
use Rattle.wf_suite.specs.declared.suite.Test.{Test}
use Rattle.wf_tests.specs.Command.{IsReady, inputs_in, schedule_in}
use Rattle.wf_tests.specs.Named.{file_of, inputs_file, schedule_file}
use Rattle.wf_tests.specs.Sources.{IsThere, Keeps, source_named}
use Rattle.wf_tests.specs.Whole.{AreReady}
use Rattle.wf_tests.specs.declared.sources.Sources.{Sources}

some-there : {A : Type 0} (o : Option A) (v : A) → o ≡ Some v → o ≢ None
some-there o v is none = none-some v (sym none ∙ is)

-- ---- with one file more

put-there : (b : Bool) (v : List ℕ) (old : Option (List ℕ)) → b ≡ true → cond b (Some v) old ≢ None
put-there true v old is = some-there (Some v) v refl
put-there false v old is = absurd (true≢false (sym is))

put-keeps : (b : Bool) (v : List ℕ) (old : Option (List ℕ)) → old ≢ None → cond b (Some v) old ≢ None
put-keeps true v old there = some-there (Some v) v refl
put-keeps false v old there = there

module _ (old new : Sources) (name bytes : List ℕ)
    (put : (other : List ℕ) → source_named new other ≡ cond (bytes_eq name other) (Some bytes) (source_named old other)) where
  pub put_is_there : IsThere new name
  put_is_there =
      subst (λ (o : Option (List ℕ)). o ≢ None) (sym (put name))
      (put-there (bytes_eq name name) bytes (source_named old name) ((bytes_eq-Decides name name).1 refl))

  pub put_keeps : Keeps old new
  put_keeps other there =
      subst (λ (o : Option (List ℕ)). o ≢ None) (sym (put other))
      (put-keeps (bytes_eq name other) bytes (source_named old other) there)

-- ---- what a test is handed

module _ (sources : Sources) where
  inputs-there : (given : Given) → IfSome (file_of given) (λ n. IsThere sources n) → inputs_in sources given ≢ None
  inputs-there (Given.File name) there = there
  inputs-there (Given.Itself ms) there = some-there _ _ refl

  schedule-there : (name : Option (List ℕ)) → IfSome name (λ n. IsThere sources n) → schedule_in sources name ≢ None
  schedule-there None there = some-there _ _ refl
  schedule-there (Some name) there = there

  -- it is there where its files are
  pub ready_of_files : (kind : Kind) → IfSome (inputs_file kind) (λ n. IsThere sources n)
      → IfSome (schedule_file kind) (λ n. IsThere sources n) → IsReady sources kind
  ready_of_files Kind.Check inputs schedule = (some-there _ _ refl, some-there _ _ refl)
  ready_of_files (Kind.Run given name further seed) inputs schedule = (inputs-there given inputs, schedule-there name schedule)
  ready_of_files (Kind.Again of from given name) inputs schedule = (inputs-there given inputs, schedule-there name schedule)

module _ (old new : Sources) (keeps : Keeps old new) where
  pub file_kept : (name : Option (List ℕ)) → IfSome name (λ n. IsThere old n) → IfSome name (λ n. IsThere new n)
  file_kept None there = tt
  file_kept (Some name) there = keeps name there

  inputs-kept : (given : Given) → inputs_in old given ≢ None → inputs_in new given ≢ None
  inputs-kept (Given.File name) there = keeps name there
  inputs-kept (Given.Itself ms) there = some-there _ _ refl

  schedule-kept : (name : Option (List ℕ)) → schedule_in old name ≢ None → schedule_in new name ≢ None
  schedule-kept None there = some-there _ _ refl
  schedule-kept (Some name) there = keeps name there

  ready-kept : (kind : Kind) → IsReady old kind → IsReady new kind
  ready-kept Kind.Check ready = (some-there _ _ refl, some-there _ _ refl)
  ready-kept (Kind.Run given name further seed) ready = (inputs-kept given ready.0, schedule-kept name ready.1)
  ready-kept (Kind.Again of from given name) ready = (inputs-kept given ready.0, schedule-kept name ready.1)

  -- it is there still, and what one test more is handed
  pub ready_more : (tests : List Test) (i : ℕ) (test : Test) → i < length tests → test ≡ get_or tests i test
      → AreReady old (take i tests) → IsReady new test.kind → AreReady new (take (i + 1) tests)
  ready_more tests i test within is ready one =
      All-more (λ (t : Test). IsReady new t.kind) tests i test within
      (All-weaker (λ (t : Test). IsReady old t.kind) (λ (t : Test). IsReady new t.kind) (λ (t : Test). ready-kept t.kind) (take i tests)
      ready)
      (subst (λ (t : Test). IsReady new t.kind) is one)

-- at the end it is all of them
pub ready_all : (sources : Sources) (tests : List Test) (i : ℕ) → length tests ≤ i → AreReady sources (take i tests)
    → AreReady sources tests
ready_all sources tests i over ready = subst (λ (ts : List Test). AreReady sources ts) (take_all i tests over) ready
