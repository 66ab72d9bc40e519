-- A layer that gives the old answers changes nothing of what a definition means.
use Rattle.std.proofs.Common.{◌≡◌, ℕ, Bool, true, List, [], ◌∷◌, inl, inr, if◌then◌else◌, refl, sym, ap, ◌∙◌, subst}
use Rattle.std.specs.List.{AllByRecursion}
use Rattle.wf_layers.specs.Meaning as layered_meaning
use Rattle.wf_layers.specs.Source.{Source}
use Rattle.wf_layers.proofs.Basics.{two}
use Rattle.wf_answers.specs.Inputs.{InputsTree}
use Rattle.wf_def.specs.ActionTree.{action_name}
use Rattle.wf_def.specs.DefTree.{DefTree}
use Rattle.wf_record.specs.Record.{Row}
use Rattle.wf_opening.specs.Decisions.{DecisionTree}
use Rattle.wf_opening.specs.Verdicts.{VerdictTree}
use Rattle.wf_done.specs.Leaf.{BegunTree}
use Rattle.wf_environment.specs.Environment.{Environment, Facts, facts_of, last_facts, layer_facts}
use Rattle.wf_loops.specs.Loops.{loops_of}
use Rattle.wf_turns.specs.Points.{graph_of}
use Rattle.wf_turns.specs.Record.{depth_of, record_of_table}
use Rattle.wf_turns.specs.Source.{table_of}
use Rattle.wf_anew.specs.Layer.{layer_of, redone_names, with_layer}
use Rattle.wf_anew.specs.Same.{GivesTheOld, SameAnswers, SameWords}
use Rattle.wf_anew.proofs.AnswerLemmas.{SameAt}
use Rattle.wf_anew.proofs.LayerLemmas.{facts_with, last_with, same_source}
use Rattle.wf_anew.proofs.RecordLemmas.{record_same}
use Rattle.wf_anew.proofs.ToldLemmas.{SameStart, WordsAt}

module _ (d : DefTree) (e : Environment) (from : List ℕ) (i : InputsTree) (old : GivesTheOld d e from i) where
  abbrev more : Environment
  more = with_layer e (layer_of d from i)

  itself : SameStart e.start e.start
  itself = record { trigger = refl; parameters = refl }

  no_other : (f : Facts) → SameWords f f
  no_other f = record { run = refl; seed = refl; moment = refl }

  -- what an action goes by, where it is redone and where it isn't
  by_layer : (P : Facts → Type 0) (name : List ℕ) → (redone_names d from name ≡ true → P (layer_facts i))
      → P (facts_of e name) → P (facts_of more name)
  by_layer P name anew before = elim (two (redone_names d from name)) [
    | inl is ↦
        subst P
        (sym (facts_with e (layer_of d from i) name ∙ ap (λ (b : Bool). if b then layer_facts i else facts_of e name) is)) (anew is)
    | inr is ↦
        subst P
        (sym (facts_with e (layer_of d from i) name ∙ ap (λ (b : Bool). if b then layer_facts i else facts_of e name) is)) before
  ]

  words_at : (n : ℕ) → WordsAt d more e itself n
  words_at n a is =
      by_layer (λ f. SameWords f (facts_of e (action_name a))) (action_name a) (old.words (action_name a))
      (no_other (facts_of e (action_name a)))

  all_words : (ns : List ℕ) → AllByRecursion (WordsAt d more e itself) ns
  all_words [] = tt
  all_words (n ∷ ns) = (words_at n, all_words ns)

  same_at : (n : ℕ) → SameAt d more e itself n
  same_at n = record {
    words = words_at n;
    round = all_words (loops_of (graph_of d) n);
    answers = λ a is.
        by_layer (λ f. SameAnswers (action_name a) f (facts_of e (action_name a))) (action_name a) (old.answers (action_name a))
        (λ at attempt. refl);
  }

  last_same : SameWords (last_facts more) (last_facts e)
  last_same = subst (λ (f : Facts). SameWords f (last_facts e)) (sym (last_with e (layer_of d from i))) old.last

  -- THE LAW
  pub nothing_changed : record_of_table d more (table_of d more (depth_of d)) ≡ record_of_table d e (table_of d e (depth_of d))
  nothing_changed =
      ap (λ (m : Source Row BegunTree DecisionTree VerdictTree).
      record_of_table d more (layered_meaning.meaning m (depth_of d) (graph_of d)))
      (same_source d more e itself same_at)
      ∙ record_same d more e itself last_same (table_of d e (depth_of d))
