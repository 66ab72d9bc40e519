-- One file of tests more.
use Rattle.std.proofs.Common.{◌≡◌, ◌+◌, ◌<◌, ℕ, List, [], ◌∷◌, ◌++◌, length, take, get_or, sym, ap, ◌∙◌, subst}
use Rattle.std.proofs.lemmas.List.{take_more}
use Rattle.wf_outside.specs.Outside.{Held}
use Rattle.wf_tests.specs.Loaded.{AreLoaded, IsLoaded}
use Rattle.wf_tests.specs.declared.loaded.Loaded.{Loaded}

module _ (held : Held) where
  loaded-snoc : (files : List (List ℕ)) (all : List Loaded) (file : List ℕ) (loaded : Loaded) → AreLoaded held files all
      → IsLoaded held file loaded → AreLoaded held (files ++ file ∷ []) (all ++ loaded ∷ [])
  loaded-snoc [] [] file loaded are is = (is, tt)
  loaded-snoc [] (x ∷ all) file loaded are is = absurd are
  loaded-snoc (f ∷ files) [] file loaded are is = absurd are
  loaded-snoc (f ∷ files) (x ∷ all) file loaded are is = (are.0, loaded-snoc files all file loaded are.1 is)

  pub loaded_more : (files : List (List ℕ)) (i : ℕ) (file : List ℕ) (all all' : List Loaded) (loaded : Loaded) → i < length files
      → file ≡ get_or files i file → AreLoaded held (take i files) all → IsLoaded held file loaded → all' ≡ all ++ loaded ∷ []
      → AreLoaded held (take (i + 1) files) all'
  loaded_more files i file all all' loaded within is are one added =
      subst (λ (fs : List (List ℕ)). AreLoaded held fs all')
      (sym (take_more files i file within ∙ ap (λ (x : List ℕ). take i files ++ x ∷ []) (sym is)))
      (subst (λ (xs : List Loaded). AreLoaded held (take i files ++ file ∷ []) xs) (sym added)
      (loaded-snoc (take i files) all file loaded are one))
