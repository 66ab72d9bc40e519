-- A layer more on an environment: what actions go by, and where their answers come from.
use Rattle.std.proofs.Common.{◌≡◌, ℕ, Bool, true, false, cond, List, [], ◌∷◌, ◌++◌, Some, inl, inr, if◌then◌else◌, refl, sym, ap}
use Rattle.std.proofs.Common.{◌∙◌, subst}
use Rattle.std.specs.List.{AllByRecursion}
use Rattle.wf_layers.specs.Resubmission.{layered}
use Rattle.wf_layers.proofs.Basics.{two, unless, when}
use Rattle.wf_def.specs.ActionTree.{ActionTree, action_name}
use Rattle.wf_def.specs.AllActions.{numbered}
use Rattle.wf_def.specs.DefTree.{DefTree}
use Rattle.wf_environment.specs.Environment.{Environment, Facts, Layer, facts_of, facts_over, first_facts, last_facts, last_over}
use Rattle.wf_environment.specs.Environment.{layer_facts}
use Rattle.wf_loops.specs.Loops.{loops_of}
use Rattle.wf_turns.specs.Points.{graph_of}
use Rattle.wf_turns.specs.Source.{source}
use Rattle.wf_anew.specs.Layer.{with_layer}
use Rattle.wf_anew.specs.Same.{SameAnswers, SameWords}
use Rattle.wf_anew.proofs.AnswerLemmas.{SameAt, close_same, decide_same, finish_same, start_same, test_same, tries_same}
use Rattle.wf_anew.proofs.ToldLemmas.{SameStart, WordsAt}

-- ---- what an action goes by

facts_behind : (name : List ℕ) (facts : Facts) (layers : List Layer) (layer : Layer) → facts_over name facts (layers ++ layer ∷ [])
    ≡ (if layer.redone name then layer_facts layer.inputs else facts_over name facts layers)
facts_behind name facts [] layer = refl
facts_behind name facts (first ∷ layers) layer =
    facts_behind name (if first.redone name then layer_facts first.inputs else facts) layers layer

pub facts_with : (e : Environment) (layer : Layer) (name : List ℕ)
    → facts_of (with_layer e layer) name ≡ (if layer.redone name then layer_facts layer.inputs else facts_of e name)
facts_with e layer name = facts_behind name (first_facts e) e.layers layer

last_behind : (facts : Facts) (layers : List Layer) (layer : Layer) → last_over facts (layers ++ layer ∷ []) ≡ layer_facts layer.inputs
last_behind facts [] layer = refl
last_behind facts (first ∷ layers) layer = last_behind (layer_facts first.inputs) layers layer

pub last_with : (e : Environment) (layer : Layer) → last_facts (with_layer e layer) ≡ layer_facts layer.inputs
last_with e layer = last_behind (first_facts e) e.layers layer

-- ---- facts that are the same tell the same

pub same_words : (f g : Facts) → f ≡ g → SameWords f g
same_words f g is = record {
  run = ap (λ (h : Facts). h.run) is;
  seed = ap (λ (h : Facts). h.seed) is;
  moment = ap (λ (h : Facts). h.moment) is;
}

pub same_answers : (name : List ℕ) (f g : Facts) → f ≡ g → SameAnswers name f g
same_answers name f g is = subst (λ (h : Facts). SameAnswers name f h) is (λ at attempt. refl)

-- in two environments in which the action of a number and the loops round it go by the same facts
module _ (d : DefTree) (e e' : Environment) (start : SameStart e.start e'.start) where
  abbrev pub SameFacts : ℕ → Type 0
  SameFacts n = (a : ActionTree) → numbered n d.top ≡ Some a → facts_of e (action_name a) ≡ facts_of e' (action_name a)

  all_words : (ns : List ℕ) → AllByRecursion SameFacts ns → AllByRecursion (WordsAt d e e' start) ns
  all_words [] all = tt
  all_words (n ∷ ns) all = (
    (λ a is. same_words (facts_of e (action_name a)) (facts_of e' (action_name a)) (all.0 a is)),
    all_words ns all.1,
  )

  pub same_at : (n : ℕ) → SameFacts n → AllByRecursion SameFacts (loops_of (graph_of d) n) → SameAt d e e' start n
  same_at n own round = record {
    words = λ a is. same_words (facts_of e (action_name a)) (facts_of e' (action_name a)) (own a is);
    round = all_words (loops_of (graph_of d) n) round;
    answers = λ a is. same_answers (action_name a) (facts_of e (action_name a)) (facts_of e' (action_name a)) (own a is);
  }

-- ---- the answers with a layer more

module _ (d : DefTree) (e : Environment) (layer : Layer) (other : Environment) (redo : ℕ → Bool)
    -- the layer has the names of what is redone
    (redone : (n : ℕ) (a : ActionTree) → numbered n d.top ≡ Some a → layer.redone (action_name a) ≡ redo n)
    -- loops are redone with what stands inside them
    (loops : (n : ℕ) → AllByRecursion (λ l. redo l ≡ redo n) (loops_of (graph_of d) n))
    -- the other environment goes by the layer's inputs everywhere, and was started alike
    (start : SameStart e.start other.start)
    (by_inputs : (name : List ℕ) → facts_of other name ≡ layer_facts layer.inputs) where
  abbrev more : Environment
  more = with_layer e layer

  -- what is redone goes by the inputs
  anew : (n : ℕ) → redo n ≡ true → SameFacts d more other start n
  anew n is a found =
      facts_with e layer (action_name a)
      ∙ ap (λ (b : Bool). if b then layer_facts layer.inputs else facts_of e (action_name a)) (redone n a found ∙ is)
      ∙ sym (by_inputs (action_name a))

  start_itself : SameStart e.start e.start
  start_itself = record { trigger = refl; parameters = refl }

  -- and all else as before
  before : (n : ℕ) → redo n ≡ false → SameFacts d more e start_itself n
  before n is a found =
      facts_with e layer (action_name a)
      ∙ ap (λ (b : Bool). if b then layer_facts layer.inputs else facts_of e (action_name a)) (redone n a found ∙ is)

  all_anew : (n : ℕ) → redo n ≡ true → (ls : List ℕ) → AllByRecursion (λ l. redo l ≡ redo n) ls
      → AllByRecursion (SameFacts d more other start) ls
  all_anew n is [] all = tt
  all_anew n is (l ∷ ls) all = (anew l (all.0 ∙ is), all_anew n is ls all.1)

  all_before : (n : ℕ) → redo n ≡ false → (ls : List ℕ) → AllByRecursion (λ l. redo l ≡ redo n) ls
      → AllByRecursion (SameFacts d more e start_itself) ls
  all_before n is [] all = tt
  all_before n is (l ∷ ls) all = (before l (all.0 ∙ is), all_before n is ls all.1)

  at_anew : (n : ℕ) → redo n ≡ true → SameAt d more other start n
  at_anew n is = same_at d more other start n (anew n is) (all_anew n is (loops_of (graph_of d) n) (loops n))

  at_before : (n : ℕ) → redo n ≡ false → SameAt d more e start_itself n
  at_before n is = same_at d more e start_itself n (before n is) (all_before n is (loops_of (graph_of d) n) (loops n))

  -- an answer is that of the one or of the other
  parted : {A : Type 0} (n : ℕ) (now one two' : A) → (redo n ≡ true → now ≡ one) → (redo n ≡ false → now ≡ two')
      → now ≡ cond (redo n) one two'
  parted n now one two' yes' no' = elim (two (redo n)) [
    | inl is ↦ yes' is ∙ sym (when (redo n) one two' is)
    | inr is ↦ no' is ∙ sym (unless (redo n) one two' is)
  ]

  -- THE LAW: the answers of the environment with a layer more are the layered ones
  pub layered_source : source d more ≡ layered (source d e) (source d other) redo
  layered_source i = record (layered (source d e) (source d other) redo) {
    start = λ x t. parted x.name ((source d more).start x t) ((source d other).start x t) ((source d e).start x t)
        (λ is. start_same d more other start x (at_anew x.name is) t) (λ is. start_same d more e start_itself x (at_before x.name is) t) i;
    tries = λ x b. parted x.name ((source d more).tries x b) ((source d other).tries x b) ((source d e).tries x b)
        (λ is. tries_same d more other start x (at_anew x.name is) b) (λ is. tries_same d more e start_itself x (at_before x.name is) b) i;
    finish = λ x b t. parted x.name ((source d more).finish x b t) ((source d other).finish x b t) ((source d e).finish x b t)
        (λ is. finish_same d more other start x (at_anew x.name is) b t)
        (λ is. finish_same d more e start_itself x (at_before x.name is) b t) i;
    decide = λ x t. parted x.name ((source d more).decide x t) ((source d other).decide x t) ((source d e).decide x t)
        (λ is. decide_same d more other start x (at_anew x.name is) t) (λ is. decide_same d more e start_itself x (at_before x.name is) t)
        i;
    test = λ x j t. parted x.name ((source d more).test x j t) ((source d other).test x j t) ((source d e).test x j t)
        (λ is. test_same d more other start x (at_anew x.name is) j t) (λ is. test_same d more e start_itself x (at_before x.name is) j t)
        i;
    close = λ x p c v t. parted x.name ((source d more).close x p c v t) ((source d other).close x p c v t) ((source d e).close x p c v t)
        (λ is. close_same d more other start x (at_anew x.name is) p c v t)
        (λ is. close_same d more e start_itself x (at_before x.name is) p c v t) i;
    halts = λ x t. parted x.name ((source d more).halts x t) ((source d other).halts x t) ((source d e).halts x t)
        (λ is. refl) (λ is. refl) i;
  }

-- ---- where a layer gives the old answers, it changes none

module _ (d : DefTree) (e e' : Environment) (start : SameStart e.start e'.start)
    (same : (n : ℕ) → SameAt d e e' start n) where
  pub same_source : source d e ≡ source d e'
  same_source i = record (source d e) {
    start = λ x t. start_same d e e' start x (same x.name) t i;
    tries = λ x b. tries_same d e e' start x (same x.name) b i;
    finish = λ x b t. finish_same d e e' start x (same x.name) b t i;
    decide = λ x t. decide_same d e e' start x (same x.name) t i;
    test = λ x j t. test_same d e e' start x (same x.name) j t i;
    close = λ x p c v t. close_same d e e' start x (same x.name) p c v t i;
  }
