-- Each row pays for what its action cost before it had one.
use Rattle.std.proofs.Common.{◌≡◌, ◌≤◌, ℕ, ◌+◌, ◌*◌, Option, Some, None, inl, inr, refl, sym, ap, subst, arith}
use Rattle.wf_val.specs.ValueTree.{ValueTree, weight}
use Rattle.wf_retry.specs.declared.policy.Policy.{Policy}
use Rattle.wf_layers.specs.Address.{Address, Table}
use Rattle.wf_layers.specs.Bound.{TellsTurns}
use Rattle.wf_layers.specs.Called.{iterations}
use Rattle.wf_layers.specs.Definition.{Kind, Leaf, Scope, Choice, Foreach, Until, kind_of}
use Rattle.wf_layers.specs.Machine.{IsContainer}
use Rattle.wf_layers.specs.Meaning.{last}
use Rattle.wf_layers.specs.Source.{leaf}
use Rattle.wf_layers.proofs.Basics.{two}
use Rattle.wf_def.specs.ActionTree.{ActionTree, action_kind, action_name}
use Rattle.wf_def.specs.AllActions.{numbered}
use Rattle.wf_def.specs.DefTree.{DefTree}
use Rattle.wf_record.specs.Record.{Row}
use Rattle.wf_connect.specs.Last.{Answered, IsLast, last_attempt}
use Rattle.wf_turns.specs.Decisions.{DecisionTree}
use Rattle.wf_turns.specs.Verdicts.{VerdictTree}
use Rattle.wf_doing.specs.Weights.{begun_inputs, begun_weight, decided_by, decision_weight}
use Rattle.wf_turns.specs.Environment.{Environment, facts_of}
use Rattle.wf_turns.specs.Answering.{AnswersAs, RowSource}
use Rattle.wf_turns.specs.Look as look
use Rattle.wf_turns.specs.Look.{instance, told_at}
use Rattle.wf_turns.specs.Points.{graph_of}
use Rattle.wf_turns.specs.Resubmitted.{said_by}
use Rattle.wf_turns.specs.Source.{begun, close_of, finished}
use Rattle.wf_turns.specs.Turns.{turns}
use Rattle.wf_turns.proofs.SourceLemmas.{is_written_out, written_out}
use Rattle.wf_priced.specs.Priced.{PaysItsParts, closing_row}
use Rattle.wf_paying.specs.Paying.{cost_of_row}
use Rattle.wf_paying.proofs.KeptLemmas.{closed_keeps, ended_keeps, nothing_keeps, said_keeps}

-- what a row costs by its turns and its inputs
pays : (row : Row) (n : ℕ) (kept : ValueTree) → n ≤ turns row → row.inputs ≡ kept → 64 * (1 + n) + weight kept ≤ cost_of_row row
pays row n kept tells keeps = let same = ap weight keeps in omega (arith, tells, same)

module _ (d : DefTree) (e : Environment) (f : Table Row) where
  left_keeps : ((policy : Policy) (answers : Answered) → IsLast policy answers (last_attempt policy answers))
      → (o : Option ActionTree) (x : Address) → (finished d e o x (begun d e o x f) f).inputs ≡ begun_inputs (begun d e o x f)
  left_keeps last None x = refl
  left_keeps last (Some a) x =
      ended_keeps last (facts_of e (action_name a)).answers (instance d x) (begun d e (Some a) x f)

  -- a container keeps what it decided, anew or as a row of it says
  abbrev Keeps : Option ActionTree → Address → DecisionTree → Type 0
  Keeps o x decision = (n : ℕ) (v : Option VerdictTree) → (close_of d e o x decision n v f).inputs ≡ decided_by decision

  closing_keeps : (o : Option ActionTree) (x : Address) → Keeps o x (look.decided_by o (told_at d e x f))
  closing_keeps None x n v = refl
  closing_keeps (Some a) x n v = closed_keeps (action_kind a) (told_at d e x f) x.at n v f

  recalling_keeps : (o : Option ActionTree) (x : Address) (row : Option Row) → Keeps o x (said_by o row)
  recalling_keeps None x row n v = refl
  recalling_keeps (Some a) x None n v = nothing_keeps (action_kind a) x.at n v f
  recalling_keeps (Some a) x (Some row) n v = said_keeps (action_kind a) row x.at n v f

  module _ (m : RowSource) (answers : AnswersAs d e m) where
    abbrev own : RowSource
    own = written_out d e m

    deciding_keeps : (x : Address) → Keeps (numbered x.name d.top) x (m.decide x f)
    deciding_keeps x = elim (two (m.reclosed x.name)) [
      | inl again ↦
          let said = answers.recalls x f again in
          subst (Keeps (numbered x.name d.top) x) (sym said.1) (recalling_keeps (numbered x.name d.top) x said.0)
      | inr anew ↦ subst (Keeps (numbered x.name d.top) x) (sym (answers.decide x f anew)) (closing_keeps (numbered x.name d.top) x)
    ]

    closing_kept : (x : Address) (kind : Kind) → (closing_row own kind x f).inputs ≡ decided_by (own.decide x f)
    closing_kept x Leaf = deciding_keeps x 0 None
    closing_kept x (Scope g) = deciding_keeps x 0 None
    closing_kept x (Choice bs) = deciding_keeps x 0 None
    closing_kept x (Foreach pace g) = deciding_keeps x 0 None
    closing_kept x (Until most g) =
        let n = iterations own (Until most g) x f in deciding_keeps x n (last n (λ j. own.test x j f))

    module _ (tells : TellsTurns (graph_of d) own f turns) where
      -- how many iterations a container has that ran
      closing_tells : (x : Address) (kind : Kind) → IsContainer kind → kind_of (graph_of d) x.name ≡ Some kind
          → iterations own kind x f ≤ turns (closing_row own kind x f)
      closing_tells x Leaf c is = absurd c
      closing_tells x (Scope g) c is = omega arith
      closing_tells x (Choice bs) c is = omega arith
      closing_tells x (Foreach pace g) c is = tells.items x pace g is
      closing_tells x (Until most g) c is = tells.rounds x most g is

      own_paid : ((policy : Policy) (answers : Answered) → IsLast policy answers (last_attempt policy answers))
          → PaysItsParts own (graph_of d) f cost_of_row begun_weight decision_weight
      own_paid final = record {
        of_leaf = λ x is row.
            pays (leaf own x f) (own.tries x (own.start x f)) (begun_inputs (own.start x f)) (tells.attempts x is)
            (left_keeps final (numbered x.name d.top) x);
        of_container = λ x kind c is row.
            pays (closing_row own kind x f) (iterations own kind x f) (decided_by (own.decide x f)) (closing_tells x kind c is)
            (closing_kept x kind);
      }

    -- THE LAW
    pub paid : TellsTurns (graph_of d) m f turns
        → ((policy : Policy) (answers : Answered) → IsLast policy answers (last_attempt policy answers))
        → PaysItsParts m (graph_of d) f cost_of_row begun_weight decision_weight
    paid tells final =
        let is = is_written_out d e m answers in
        subst (λ (n : RowSource). PaysItsParts n (graph_of d) f cost_of_row begun_weight decision_weight) (sym is)
        (own_paid (subst (λ (n : RowSource). TellsTurns (graph_of d) n f turns) is tells) final)
