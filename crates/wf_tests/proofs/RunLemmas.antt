-- One test more, and one end under a further schedule more.
use Rattle.std.proofs.Common.{◌≡◌, ◌+◌, ◌<◌, ℕ, suc, List, [], ◌∷◌, ◌++◌, length, take, get_or, Option}
use Rattle.std.proofs.Common.{refl, sym, ap, ◌∙◌, arith, subst, append_assoc}
use Rattle.std.proofs.lemmas.List.{append-nil, take_more}
use Rattle.wf_judged.specs.declared.lines.Ended.{Ended}
use Rattle.wf_suite.specs.declared.suite.Test.{Test}
use Rattle.wf_tap.specs.declared.report.Outcome.{Outcome}
use Rattle.wf_tests.specs.Runs.{AreRun, Came, CameUnder, IsRun, Says}
use Rattle.wf_tests.specs.Schedules.{further_schedule}
use Rattle.wf_tests.specs.declared.sources.Sources.{Sources}

module _ (says : Says) where
  module _ (words : List (List ℕ)) (held : List ℕ → List ℕ → Option (List ℕ)) (seed : ℕ) where
    under-snoc : (p n : ℕ) (others : List Ended) (ended : Ended) → n ≡ p + length others → CameUnder says words held seed p others
        → Came says words (held (further_schedule seed n)) ended → CameUnder says words held seed p (others ++ ended ∷ [])
    under-snoc p n [] ended is under came =
        (subst (λ (k : ℕ). Came says words (held (further_schedule seed k)) ended) (is ∙ omega arith) came, tt)
    under-snoc p n (other ∷ others) ended is under came =
        (under.0, under-snoc (suc p) n others ended (is ∙ omega arith) under.1 came)

    -- one end more
    pub came_under_more : (n : ℕ) (others others' : List Ended) (ended : Ended) → n ≡ length others
        → CameUnder says words held seed 0 others → Came says words (held (further_schedule seed n)) ended
        → others' ≡ others ++ ended ∷ [] → CameUnder says words held seed 0 others'
    came_under_more n others others' ended is under came added =
        subst (λ (os : List Ended). CameUnder says words held seed 0 os) (sym added)
        (under-snoc 0 n others ended (is ∙ omega arith) under came)

  module _ (sources : Sources) (definition : List ℕ) where
    run-snoc : (before whole : List Ended) (ts : List Test) (es : List Ended) (os : List Outcome) (t : Test) (e : Ended) (o : Outcome)
        → whole ≡ before ++ es → AreRun says sources definition before ts es os → IsRun says sources definition whole t e o
        → AreRun says sources definition before (ts ++ t ∷ []) (es ++ e ∷ []) (os ++ o ∷ [])
    run-snoc before whole [] [] [] t e o is run one =
        (subst (λ (w : List Ended). IsRun says sources definition w t e o) (is ∙ append-nil before) one, tt)
    run-snoc before whole [] [] (p ∷ os) t e o is run one = absurd run
    run-snoc before whole [] (d ∷ es) os t e o is run one = absurd run
    run-snoc before whole (x ∷ ts) [] os t e o is run one = absurd run
    run-snoc before whole (x ∷ ts) (d ∷ es) [] t e o is run one = absurd run
    run-snoc before whole (x ∷ ts) (d ∷ es) (p ∷ os) t e o is run one =
        (run.0, run-snoc (before ++ d ∷ []) whole ts es os t e o (is ∙ sym (append_assoc before (d ∷ []) es)) run.1 one)

    -- one test more
    pub run_more : (tests : List Test) (i : ℕ) (t : Test) (es es' : List Ended) (os os' : List Outcome) (e : Ended) (o : Outcome)
        → i < length tests → t ≡ get_or tests i t → AreRun says sources definition [] (take i tests) es os
        → IsRun says sources definition es t e o → es' ≡ es ++ e ∷ [] → os' ≡ os ++ o ∷ []
        → AreRun says sources definition [] (take (i + 1) tests) es' os'
    run_more tests i t es es' os os' e o within is run one ended told =
        let more : take (i + 1) tests ≡ take i tests ++ t ∷ [] =
        take_more tests i t within ∙ ap (λ (x : Test). take i tests ++ x ∷ []) (sym is) in
        subst (λ (ts : List Test). AreRun says sources definition [] ts es' os') (sym more)
        (subst (λ (ds : List Ended). AreRun says sources definition [] (take i tests ++ t ∷ []) ds os') (sym ended)
        (subst (λ (ps : List Outcome). AreRun says sources definition [] (take i tests ++ t ∷ []) (es ++ e ∷ []) ps) (sym told)
        (run-snoc [] es (take i tests) es os t e o refl run one)))
