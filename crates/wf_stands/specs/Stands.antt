-- WHERE A RUN STANDS with the answers that are there: attempts wait for theirs, or it has left its record, or it costs too much.
use Rattle.std.specs.Prelude.{◌≡◌, ◌≢◌, ◌⊎◌, ℕ, ◌<◌, ◌≤◌, List, [], true}
use Rattle.wf_lists.specs.KeyOrder.{IsInKeyOrder}
use Rattle.wf_layers.specs.Address.{Address}
use Rattle.wf_answers.specs.AnswerTree.{Key, key_cmp}
use Rattle.wf_answers.specs.Inputs.{InputsTree}
use Rattle.wf_def.specs.DefTree.{DefTree}
use Rattle.wf_answered.specs.Environment as environment
use Rattle.wf_answered.specs.Look.{instance}
use Rattle.wf_answered.specs.Record.{meaning}
use Rattle.wf_record.specs.Cost as record_cost
use Rattle.wf_record.specs.Record.{RecordTree, record_line}
use Rattle.wf_talk.specs.Keys.{is_among}
use Rattle.wf_talk.specs.Standing.{Standing, TooLarge, Waits, Ends}
use Rattle.wf_answered.specs.Starts.{StartTree}
use Rattle.wf_stands.specs.Moment as moment
use Rattle.wf_stands.specs.Moment.{ComesTo, Costs, IsStill, Moment}

module _ (d : DefTree) (start : StartTree) (inputs : InputsTree) where
  -- The keys of the attempts that wait for their answers, in the order of addresses and numbers.
  pub record AreWanted (s : Moment) (keys : List Key) : Type 0 where
    pub in_order : IsInKeyOrder key_cmp (λ (k : Key). k) keys
    pub each : (x : Address) (attempt : ℕ) → moment.Waits d start inputs s x attempt → is_among (instance d x, attempt) keys ≡ true
    pub only : (key : Key) → is_among key keys ≡ true
        → (x : Address) × (attempt : ℕ) × (key ≡ (instance d x, attempt)) × moment.Waits d start inputs s x attempt

  -- Some attempts wait, and what the run has come to so far costs little enough.
  pub record WaitsFor (keys : List Key) : Type 0 where
    pub still : Moment
    pub is_still : IsStill d start inputs still
    pub wanted : AreWanted still keys
    pub some : keys ≢ []
    pub cost : ℕ
    pub costs : Costs d start still cost
    pub within : cost ≤ 67108864

  -- what the definition means by these inputs
  abbrev pub meant : RecordTree
  meant = meaning d (environment.fresh start inputs)

  -- None waits: the run has left its record, which is the definition's meaning, and costs little enough.
  pub record HasLeft (line : List ℕ) : Type 0 where
    pub still : Moment
    pub is_still : IsStill d start inputs still
    pub wanted : AreWanted still []
    pub within : record_cost.cost meant ≤ 67108864
    pub line_is : line ≡ record_line meant

  -- It costs too much at a moment to which it comes; or none waits, and its record does.
  pub record IsTooDear : Type 0 where
    pub reached : Moment
    pub comes : ComesTo d start inputs reached
    pub cost : ℕ
    pub costs : Costs d start reached cost
    pub beyond : 67108864 < cost

  pub record LeavesTooMuch : Type 0 where
    pub still : Moment
    pub is_still : IsStill d start inputs still
    pub wanted : AreWanted still []
    pub beyond : 67108864 < record_cost.cost meant

  -- WHERE IT STANDS
  abbrev pub Stands : Standing → Type 0
  Stands (Waits keys) = WaitsFor keys
  Stands (Ends line) = HasLeft line
  Stands TooLarge = IsTooDear ⊎ LeavesTooMuch
