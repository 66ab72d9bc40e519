-- The tests of one file more.
use Rattle.std.proofs.Common.{◌≡◌, ◌+◌, ◌<◌, ℕ, List, [], ◌∷◌, ◌++◌, length, take, get_or, sym, ap, ◌∙◌, subst}
use Rattle.std.proofs.lemmas.List.{take_more}
use Rattle.wf_judged.specs.declared.lines.Ended.{Ended}
use Rattle.wf_tap.specs.declared.report.Results.{Results}
use Rattle.wf_tests.specs.Runs.{AreRun, Says}
use Rattle.wf_tests.specs.Served.{AreTested}
use Rattle.wf_tests.specs.declared.loaded.Loaded.{Loaded}

module _ (says : Says) where
  tested-snoc : (ls : List Loaded) (rs : List Results) (l : Loaded) (r : Results) → AreTested says ls rs → r.file ≡ l.file
      → ((ends : List Ended) × AreRun says l.sources l.suite.definition [] l.suite.tests ends r.outcomes)
      → AreTested says (ls ++ l ∷ []) (rs ++ r ∷ [])
  tested-snoc [] [] l r are named run = ((named, run), tt)
  tested-snoc [] (s ∷ rs) l r are named run = absurd are
  tested-snoc (k ∷ ls) [] l r are named run = absurd are
  tested-snoc (k ∷ ls) (s ∷ rs) l r are named run = (are.0, tested-snoc ls rs l r are.1 named run)

  pub tested_more : (ls : List Loaded) (i : ℕ) (l : Loaded) (rs rs' : List Results) (r : Results) → i < length ls → l ≡ get_or ls i l
      → AreTested says (take i ls) rs → r.file ≡ l.file
      → ((ends : List Ended) × AreRun says l.sources l.suite.definition [] l.suite.tests ends r.outcomes)
      → rs' ≡ rs ++ r ∷ [] → AreTested says (take (i + 1) ls) rs'
  tested_more ls i l rs rs' r within is are named run added =
      subst (λ (ks : List Loaded). AreTested says ks rs')
      (sym (take_more ls i l within ∙ ap (λ (x : Loaded). take i ls ++ x ∷ []) (sym is)))
      (subst (λ (ss : List Results). AreTested says (take i ls ++ l ∷ []) ss) (sym added)
      (tested-snoc (take i ls) rs l r are named run))
