-- Where the values found of variables are those told, the two looks agree in all that is asked for.
use Rattle.std.proofs.Common.{◌≡◌, ℕ, List, [], ◌∷◌, Option, refl}
use Rattle.wf_val.specs.ValueTree.{ValueTree}
use Rattle.wf_val.specs.declared.function.Fun.{Fun}
use Rattle.wf_views.specs.Told.{Told}
use Rattle.wf_views.specs.Uses.{Agree, AgreeAt, Use, names, asks, asks_moment, asks_words}
use Rattle.wf_sight.specs.Found.{FindsTold, WhereVariable}

module _ (found : List ℕ → Option ValueTree) (l : Told) where
  abbrev pub by_found : Told
  by_found = record l { variable = found }

  agrees : (asked : Use) → WhereVariable (λ k. found k ≡ l.variable k) asked → Agree by_found l asked
  agrees (names Fun.Actions k) e = refl
  agrees (names Fun.Outputs k) e = refl
  agrees (names Fun.Body k) e = refl
  agrees (names Fun.Result k) e = refl
  agrees (names Fun.Items k) e = refl
  agrees (names Fun.IterationIndexes k) e = refl
  agrees (names Fun.Parameters k) e = refl
  agrees (names Fun.Variables k) e = e
  agrees (names f k) e = tt
  agrees (asks Fun.Action) e = refl
  agrees (asks Fun.Item) e = refl
  agrees (asks Fun.Trigger) e = refl
  agrees (asks Fun.TriggerOutputs) e = refl
  agrees (asks Fun.TriggerBody) e = refl
  agrees (asks Fun.Workflow) e = refl
  agrees (asks f) e = tt
  agrees asks_moment e = refl
  agrees asks_words e = (refl, refl)

  pub all_agree : (us : List Use) → FindsTold found l us → AgreeAt by_found l us
  all_agree [] finds = tt
  all_agree (asked ∷ us) finds = (agrees asked finds.0, all_agree us finds.1)
